-- What is left of the writes makes of the bytes what all of them make of the old ones.
use Rattle.std.proofs.Common.{◌≡◌, drop, map}
use Rattle.disk_memory.specs.Images.{image_after}
use Rattle.disk_memory.specs.Kept.{plain}
use Rattle.disk_memory.proofs.images.leave_writes.Given as goal

abbrev pub invariant-loop-write : goal.invariant-loop-write
invariant-loop-write l = image_after l.n l.bytes.items (map plain (drop l.write-index l.writes)) ≡ image_after l.n l.initial.bytes.items (map plain l.writes)
