use Rattle.std.proofs.Common.{◌≡◌, drop}
use Rattle.shard_index.proofs.lists.drop_front.Given as goal

abbrev pub invariant-loop-place : goal.invariant-loop-place
invariant-loop-place l = l.messages.items ≡ drop l._place l.initial.messages.items
