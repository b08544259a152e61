-- The record that is read is as long as each of them.
use Rattle.std.proofs.Common.{◌==◌, ℕ, if◌then◌else◌, IsTrue, Some, sym, ap, subst, ◌∙◌}
use Rattle.log_bench.proofs.LengthLemmas.{length-one_of}
use Rattle.log_bench.proofs.work.do_entries.Goals as goal

pub returns-clause-read : goal.returns-clause-read
returns-clause-read g c = λ told none.
    let still = subst IsTrue (sym c.in_ok-log.ensures.tells) told in
    let one = length-one_of c.in_ok-log.log.payloads c.args.count 1024 c.args.entry (c.in_ok-log.ensures.list told none) c.requires.within in
    ap (λ (bytes : ℕ). Some bytes) (c.in_ok-bytes.ensures.bytes still ∙ ap (λ (bytes : ℕ). if c.args.reads == 0 then 0 else bytes) one)
