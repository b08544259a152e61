use Rattle.std.proofs.Common.{◌≡◌, ◌+◌, length, get_or, refl, arith}
use Rattle.seq_tracks.proofs.SearchLemmas.{run_more, run_ends}
use Rattle.seq_tracks.proofs.numbers.run_behind.Goals as goal

pub loop-count-preserved : goal.loop-count-preserved
loop-count-preserved c =
    let next : get_or c.args.numbers.now c.loop-count.count 0 ≡ c.args.number + 1 + c.loop-count.count = omega (arith, c.loop-count.invariant.1) in
    (run_more c.args.number c.args.numbers.now c.loop-count.count _ c.loop-count-test.true refl next c.loop-count.invariant.0, omega arith)

pub returns-clause-ends : goal.returns-clause-ends
returns-clause-ends c = run_ends c.args.number c.args.numbers.now (length c.args.numbers.now) (λ within. absurd (omega arith))
