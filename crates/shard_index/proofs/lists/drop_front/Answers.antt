use Rattle.std.proofs.Common.{drop, ap, ◌∙◌}
use Rattle.std.proofs.lemmas.List.{drop-drop}
use Rattle.shard_index.proofs.lists.drop_front.Goals as goal

pub loop-place-preserved : goal.loop-place-preserved
loop-place-preserved c =
    c.pop_front-gone.ensures.rest ∙ ap (drop 1) c.loop-place.invariant ∙ drop-drop 1 c.loop-place._place c.args.messages.now.items
