use Rattle.std.proofs.Common.{◌≡◌, ◌-◌, drop, true}
use Rattle.session_codec.specs.Reading.{session_at}
use Rattle.session_codec.specs.Soundness.{are_sound}
use Rattle.session_codec.specs.PartLaws.{IsSoFar}
use Rattle.session_codec.proofs.sessions.so_many_in.Given as goal

abbrev pub invariant-loop : goal.invariant-loop
invariant-loop l = record {
  far : IsSoFar (session_at l.head.format l.head.shards) l.head.count (drop l.initial.at l.bytes) l.sessions.list (l.head.count - l.counter) (drop l.at l.bytes);
  next : l.sessions.next ≡ l.head.next;
  sound : are_sound l.sessions ≡ true;
}
