-- A disk with no records has as many as were committed.
use Rattle.std.proofs.Common.{List, ℕ, ◌++◌, length, map, replicate, IsTrue, sym, ap, subst, ◌∙◌}
use Rattle.log_bench.proofs.LengthLemmas.{map_length-replicate}
use Rattle.log_bench.proofs.work.filled.Goals as goal

pub returns-clause-list : goal.returns-clause-list
returns-clause-list g c = λ told none.
    let still = subst IsTrue (sym c.in_ok-log.ensures.tells) told in
    let before = c.in_ok-log.ensures.list told ∙ none in
    let committed = c.in_ok-commit_times.ensures.list still ∙ ap (λ (payloads : List (List ℕ)). payloads ++ replicate c.args.count c.in_ok-draft.draft) before in
    ap (λ (payloads : List (List ℕ)). map length payloads) committed
    ∙ map_length-replicate c.args.count c.in_ok-draft.draft
    ∙ ap (λ size. replicate c.args.count size) c.in_ok-draft.ensures.size
