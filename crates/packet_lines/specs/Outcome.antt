-- How a call of the program ends.
use Rattle.std.specs.Prelude.{ℕ, ◌≡◌, ◌⊎◌, List, Option, IfSome}
use Rattle.outside.specs.Cause.{Rose}
use Rattle.outside.specs.Sink.{Puts, PutsFront}
use Rattle.packet_lines.specs.declared.reading.ReadStopped.{ReadStopped}
use Rattle.packet_lines.specs.declared.reading.ReadStopped.TheVariants.{Source, Memory}
use Rattle.packet_lines.specs.Text.{text_of_input}

-- why a source wasn't read to its end, by its count of faults: the source failed, or there was no memory
abbrev pub StopsReading : ReadStopped → ℕ → ℕ → Type 0
StopsReading Source before now = Rose before now
StopsReading Memory before now = now ≡ before

-- How a call ends, by its number, over what the source had left, where it can tell that, and what the sink had taken
-- before and has taken now: with 0 what all lines print was put, with 4 a front of it, and with 3 and 5 nothing.
pub record EndsCall (left : Option (List ℕ)) (status : ℕ) (before now : Option (List ℕ)) : Type 0 where
  pub statuses : (status ≡ 0) ⊎ (status ≡ 3) ⊎ (status ≡ 4) ⊎ (status ≡ 5)
  pub done : status ≡ 0 → IfSome left (λ input. Puts before now (text_of_input input))
  pub front : status ≡ 4 → IfSome left (λ input. PutsFront before now (text_of_input input))
  pub nothing_put : (status ≡ 3) ⊎ (status ≡ 5) → now ≡ before
