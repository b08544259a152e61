use Rattle.std.proofs.Common.{◌≡◌, ◌++◌, take}
use Rattle.std.specs.List.{flat_map}
use Rattle.record_codec.specs.Spelling.{spelled_awaited}
use Rattle.record_codec.proofs.openings.put_each.Given as goal

abbrev pub invariant-loop-awaited : goal.invariant-loop-awaited
invariant-loop-awaited l = l.out.items ≡ l.initial.out.items ++ flat_map spelled_awaited (take l.awaited-index l.all)
