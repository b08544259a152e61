use Rattle.std.proofs.Common.{◌≡◌, ◌-◌, ◌^◌, min, take}
use Rattle.record_codec.specs.Sizes.{stores_size}
use Rattle.record_codec.proofs.sizes.stores_length.Given as goal

abbrev pub invariant-loop-op : goal.invariant-loop-op
invariant-loop-op l = l.total ≡ min (stores_size (take l.op-index l.ops)) (2 ^ 64 - 1)
