-- A turn puts what the next line prints.
use Rattle.std.proofs.Common.{ℕ, List, [], ◌∷◌, Option, Bor, ap, ◌∙◌, arith}
use Rattle.std.specs.Option.{option_copied}
use Rattle.first_topic_name.specs.Pieces.{pieces_after}
use Rattle.outside.specs.Results.{on_err}
use Rattle.broker_main.proofs.RunningLemmas.{next_line, more_lines, all_put, front_put}
use Rattle.broker_main.proofs.running.run_lines.Goals as goal

pub returns-in_err-run_line-clause-err : goal.returns-in_err-run_line-clause-err
returns-in_err-run_line-clause-err g c =
    on_err c.from_residual.result
    (front_put _ _ _ _ _ _ (next_line _ _ _ c.lines.rest.now c.first_piece.result.0.now _ c.lines.broker c.lines.invariant.put c.first_piece.ensures.pieces)
    c.in_err-run_line.ensures.err)

pub returns-in-None-clause-ok : goal.returns-in-None-clause-ok
returns-in-None-clause-ok g c =
    let behind = λ (o : Option (Bor (List ℕ))). c.first_piece.result.0.now ∷ pieces_after 10 (option_copied o) in
    all_put _ _ _ _ _
    (next_line _ _ _ c.lines.rest.now c.first_piece.result.0.now [] c.lines.broker c.lines.invariant.put (c.first_piece.ensures.pieces ∙ ap behind c.in-None.is))
    c.in_ok-run_line.ensures.ok

pub lines-preserved : goal.lines-preserved
lines-preserved g c =
    let behind = λ (o : Option (Bor (List ℕ))). c.first_piece.result.0.now ∷ pieces_after 10 (option_copied o) in
    record {
      put =
          more_lines _ _ _ _ c.lines.rest.now c.first_piece.result.0.now c.in-Some.behind.now c.lines.broker c.run_line.new.broker c.lines.invariant.put
          (c.first_piece.ensures.pieces ∙ ap behind c.in-Some.is)
          c.in_ok-run_line.ensures.ok
          c.in_ok-run_line.ensures.broker;
      later = omega arith;
    }
