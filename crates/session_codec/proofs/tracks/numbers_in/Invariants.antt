use Rattle.std.proofs.Common.{◌-◌, drop}
use Rattle.session_codec.specs.Reading.{eight_at}
use Rattle.session_codec.specs.PartLaws.{IsSoFar}
use Rattle.session_codec.proofs.tracks.numbers_in.Given as goal

abbrev pub invariant-loop : goal.invariant-loop
invariant-loop l = IsSoFar (eight_at) l.count (drop l.initial.at l.bytes) l.numbers.items (l.count - l.counter) (drop l.at l.bytes)
