-- What the parts of a feed say of the bytes that they cut.
use Rattle.std.specs.Prelude.{ℕ, ◌≡◌, ◌≤◌, List, ◌++◌, length, take, drop, Option}
use Rattle.mqtt_frame.specs.declared.refused.BadHeader.{BadHeader}
use Rattle.mqtt_frame.specs.declared.framing.Stopped.{Stopped}
use Rattle.mqtt_frame.specs.Framing.{Framed}
use Rattle.mqtt_frame.specs.PlainFramer.{kept_of}

-- the old ones stand in front
abbrev pub Extends : {A : Type 0} → List A → List A → Type 0
Extends {A} old new = take (length old) new ≡ old

-- Bytes were cut where they stand: their packets are added, and the rest begins at the place.
pub record IsStopped (cut : Framed) (stopped : Stopped) (bytes : List ℕ) (old new : List (List ℕ)) : Type 0 where
  pub packets : new ≡ old ++ cut.packets
  pub rest : drop stopped.at bytes ≡ cut.rest
  pub within : stopped.at ≤ length bytes
  pub bad : stopped.bad ≡ cut.bad

-- A stream was cut: its packets are added, and its rest is kept.
pub record IsFramed (cut : Framed) (found : Option BadHeader) (kept : List ℕ) (old new : List (List ℕ)) : Type 0 where
  pub packets : new ≡ old ++ cut.packets
  pub rest : kept_of cut.bad kept ≡ kept_of cut.bad cut.rest
  pub bad : found ≡ cut.bad
