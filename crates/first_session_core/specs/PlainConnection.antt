-- A connection that is bound to a client's session.
use Rattle.std.specs.Prelude.{ℕ, ◌==◌, if◌then◌else◌, List, [], ◌∷◌, Option, Some, None, unwrap_or}
use Rattle.first_session_terms.specs.declared.entry.Entry.{Entry}
use Rattle.first_mqtt_packet.specs.declared.props.Prop.{Prop}
use Rattle.first_mqtt_packet.specs.declared.props.Prop.TheVariants.{Byte, Two, Four, Var, Text, Bin, Pair}

-- Its number and client; how many more messages above QoS 0 may be under way, and how many at its start (MQTT 4.9);
-- the longest packet that its client takes (MQTT 3.1.2.11.4); its Keep Alive in seconds, and the moment of its last
-- packet; the identifiers of QoS 2 that it holds; what is still to be sent again, and what of that was passed over; the
-- subscription and shard that a pump served last.
pub record PlainConnection : Type 0 where
  pub number : ℕ
  pub client : List ℕ
  pub quota : ℕ
  pub quota_start : ℕ
  pub packet_limit : ℕ
  pub keep_alive : ℕ
  pub last : ℕ
  pub held : List ℕ
  pub rest : List Entry
  pub passed : List Entry
  pub served : Option (ℕ × ℕ)

-- the value of a two-byte property with this identifier, none of another one
abbrev pub two_value : ℕ → Prop → Option ℕ
two_value identifier (Two i v) = if i == identifier then Some v else None
two_value identifier (Byte i v) = None
two_value identifier (Four i v) = None
two_value identifier (Var v) = None
two_value identifier (Text i v) = None
two_value identifier (Bin i v) = None
two_value identifier (Pair i v) = None

-- the same of a four-byte property
abbrev pub four_value : ℕ → Prop → Option ℕ
four_value identifier (Four i v) = if i == identifier then Some v else None
four_value identifier (Byte i v) = None
four_value identifier (Two i v) = None
four_value identifier (Var v) = None
four_value identifier (Text i v) = None
four_value identifier (Bin i v) = None
four_value identifier (Pair i v) = None

-- the first such value, or another number where there is none
abbrev pub two_of : ℕ → ℕ → List Prop → ℕ
two_of identifier absent [] = absent
two_of identifier absent (p ∷ ps) = unwrap_or (two_value identifier p) (two_of identifier absent ps)

abbrev pub four_of : ℕ → ℕ → List Prop → ℕ
four_of identifier absent [] = absent
four_of identifier absent (p ∷ ps) = unwrap_or (four_value identifier p) (four_of identifier absent ps)

-- Session Expiry Interval, Receive Maximum and Maximum Packet Size of a CONNECT (MQTT 3.1.2.11)
abbrev pub expiry_of : List Prop → ℕ
expiry_of props = four_of 17 0 props

abbrev pub receive_maximum_of : List Prop → ℕ
receive_maximum_of props = two_of 33 65535 props

abbrev pub maximum_packet_size_of : List Prop → ℕ
maximum_packet_size_of props = four_of 39 4294967295 props

-- the connection of a client that was bound by a CONNECT at a moment, with nothing to be sent again
abbrev pub bound_connection : ℕ → List ℕ → ℕ → List Prop → ℕ → PlainConnection
bound_connection number client keep_alive props now =
    record {
      number = number;
      client = client;
      quota = receive_maximum_of props;
      quota_start = receive_maximum_of props;
      packet_limit = maximum_packet_size_of props;
      keep_alive = keep_alive;
      last = now;
      held = [];
      rest = [];
      passed = [];
      served = None;
    }
