-- What the broker's steps are made of, over its lists.
use Rattle.std.specs.Prelude.{ℕ, ◌≡◌, false, List, slice_get, slice_set, Some, None, IfSome}
use Rattle.first_session_terms.specs.PlainSession.{PlainSession}
use Rattle.first_session_terms.specs.Change.{session_of, on_session}
use Rattle.first_session_core.specs.PlainConnection.{PlainConnection}
use Rattle.first_mqtt_packet.specs.declared.props.Prop.{Prop}
use Rattle.first_mqtt_packet.specs.declared.packet.Packet.TheVariants.{Connect}
use Rattle.first_world_terms.specs.PlainBroker.{PlainBroker, Step, first_packet}
use Rattle.first_world_terms.specs.Move.{connection_at, change_connection}

-- the session at this place is that of the client: it is what a look-up finds, and a change of it is a write there
pub record IsSessionPlace (sessions : List PlainSession) (client : List ℕ) (place : ℕ) : Type 0 where
  pub found : session_of client sessions ≡ slice_get sessions place
  pub changed : (f : PlainSession → PlainSession) → IfSome (slice_get sessions place) (λ (m : PlainSession). on_session m.client f sessions ≡ slice_set sessions place (f m))

-- a change of the session at this place is a write there
abbrev pub IsWrittenAt : List PlainSession → ℕ → Type 0
IsWrittenAt sessions place =
    (f : PlainSession → PlainSession) → IfSome (slice_get sessions place) (λ (m : PlainSession). on_session m.client f sessions ≡ slice_set sessions place (f m))

-- the same of a connection and its number
pub record IsConnectionPlace (connections : List PlainConnection) (number place : ℕ) : Type 0 where
  pub found : connection_at number connections ≡ slice_get connections place
  pub changed : (f : PlainConnection → PlainConnection) → IfSome (slice_get connections place) (λ (k : PlainConnection). change_connection number f connections ≡ slice_set connections place (f k))

-- what a CONNECT that is the first packet of a connection does
abbrev pub connected : ℕ → List ℕ → ℕ → List Prop → PlainBroker → Step
connected c client keep_alive props p = first_packet c (Some (Connect false keep_alive props client None None None)) p
