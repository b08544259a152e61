use Rattle.std.proofs.Common.{◌∙◌, ap, ◌-◌, ◌+◌, ◌^◌, min}
use Rattle.std.specs.List.{list_any}
use Rattle.session_model.specs.Acting.{numbers_from}
use Rattle.seq_tracks.specs.PlainTracks.{is_unfinished}
use Rattle.session_state.specs.RunLaws.{any_below, none_unfinished}
use Rattle.session_state.proofs.keeping.any_unfinished.Goals as goal

pub returns : goal.returns
returns c =
    let test = is_unfinished c.args.tracks.now c.args.track in
    c.any_unfinished_between.ensures
    ∙ ap (λ n. list_any test (numbers_from c.args.first (n - c.args.first)))
    (c.saturating_add-end.ensures ∙ ap (λ n. min (c.args.first + n) (2 ^ 64 - 1)) c.from.ensures)
    ∙ any_below test (2 ^ 64 - 1) c.args.first c.args.count (λ n from. none_unfinished c.args.tracks.now c.args.track n c.done-order.ensures.order from)
