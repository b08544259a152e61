-- The bytes are what the writes that are left make of the base.
use Rattle.std.proofs.Common.{◌≡◌, ◌-◌, map, take}
use Rattle.disk_memory.specs.Kept.{plain}
use Rattle.disk_memory.specs.PlainDisk.{seen_of}
use Rattle.disk_memory.proofs.contents.unwind.Given as goal

abbrev pub invariant-loop-past : goal.invariant-loop-past
invariant-loop-past l = l.bytes.items ≡ seen_of l.base.value.items (map plain (take (l.count - l.past) l.writes))
