use Rattle.std.proofs.Common.{◌≡◌, ◌++◌, take}
use Rattle.std.specs.List.{flat_map}
use Rattle.wire_fields.specs.Spelled.{spelled_u64}
use Rattle.session_codec.proofs.tracks.put_each_number.Given as goal

abbrev pub invariant-loop-place : goal.invariant-loop-place
invariant-loop-place l = l.out.items ≡ l.initial.out.items ++ flat_map spelled_u64 (take l.place l.numbers)
