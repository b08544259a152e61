use Rattle.std.proofs.Common.{List, ℕ, take, slice_get, Some, ◌≢◌, ◌+◌, ap, sym, ◌∙◌, subst}
use Rattle.seq_tracks.specs.InOrder.{ascend}
use Rattle.seq_tracks.proofs.SearchLemmas.{rest_ascends}
use Rattle.seq_tracks.proofs.done.take_run.Goals as goal

pub returns-clause-rest : goal.returns-clause-rest
returns-clause-rest c last up =
    let run = c.run_behind-run.result in
    let same = c.deref.ensures.value in
    let goes_on = ap (λ (l : List ℕ). take run l) (sym same) ∙ c.run_behind-run.ensures.run in
    let ends = subst (λ (l : List ℕ). slice_get l run ≢ Some (c.args.number + 1 + run)) same c.run_behind-run.ensures.ends in
    ap (λ (l : List ℕ). ascend (c.args.number + run + 1) last l) c.drop_front.ensures.rest
    ∙ rest_ascends c.args.number last run c.args.done.now.items up goes_on ends
