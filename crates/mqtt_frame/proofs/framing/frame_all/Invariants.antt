use Rattle.std.proofs.Common.{◌≡◌, ℕ, ◌-◌, ◌≤◌, List, ◌++◌, length, drop}
use Rattle.mqtt_frame.specs.Framing.{framed}
use Rattle.mqtt_frame.proofs.FramedLemmas.{prefixed}
use Rattle.mqtt_frame.proofs.framing.frame_all.Given as goal

abbrev pub invariant-loop-size : goal.invariant-loop-size
invariant-loop-size l =
    record {
      within : l.at ≤ length l.bytes;
      given : List (List ℕ);
      added : l.out.items ≡ l.initial.out.items ++ given;
      left : framed l.limit l.bytes ≡ prefixed given (framed l.limit (drop l.at l.bytes));
    }

abbrev pub decreases-loop-size : goal.decreases-loop-size
decreases-loop-size l = length l.bytes - l.at
