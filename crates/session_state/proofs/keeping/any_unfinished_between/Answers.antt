use Rattle.std.proofs.Common.{◌∙◌, sym, ap, ◌||◌, ◌-◌, ◌+◌}
use Rattle.std.specs.List.{list_any}
use Rattle.session_model.specs.Acting.{numbers_from}
use Rattle.seq_tracks.specs.PlainTracks.{is_unfinished}
use Rattle.session_state.specs.RunLaws.{any_from}
use Rattle.session_state.proofs.keeping.any_unfinished_between.Goals as goal

pub returns-then-is_unfinished : goal.returns-then-is_unfinished
returns-then-is_unfinished c =
    let all = any_from (is_unfinished c.args.tracks.now c.args.track) c.loop-number.number c.args.end c.loop-number-test.true in
    sym
    (c.loop-number.invariant ∙ all
    ∙ ap (λ b. b || list_any (is_unfinished c.args.tracks.now c.args.track) (numbers_from (c.loop-number.number + 1) (c.args.end - (c.loop-number.number + 1))))
    (sym c.is_unfinished.ensures ∙ c.if-is_unfinished.true))

pub loop-number-preserved : goal.loop-number-preserved
loop-number-preserved c =
    let all = any_from (is_unfinished c.args.tracks.now c.args.track) c.loop-number.number c.args.end c.loop-number-test.true in
    c.loop-number.invariant ∙ all
    ∙ ap (λ b. b || list_any (is_unfinished c.args.tracks.now c.args.track) (numbers_from (c.loop-number.number + 1) (c.args.end - (c.loop-number.number + 1))))
    (sym c.is_unfinished.ensures ∙ c.if-is_unfinished.false)
