-- A connection that is bound to a client's session.
use Rattle.std.specs.Prelude.{ℕ, ◌+◌, min, Bool, ◌&&◌, not, ◌==◌, List, [], ◌∷◌, ◌++◌, filter, find, Option, Some, None}
use Rattle.std.specs.Prelude.{if◌then◌else◌}
use Rattle.std.specs.List.{list_any}
use Rattle.std.specs.Str.{bytes_eq}
use Rattle.session_model.specs.declared.entry.Entry.{Entry}
use Rattle.session_model.specs.PlainSession.{PlainSession, Sessions}
use Rattle.session_model.specs.Unfinished.{is_finished}
use Rattle.session_model.specs.Acting.{changed_if}
use Rattle.mqtt_props.specs.declared.table.TheConstants.{SESSION_EXPIRY_INTERVAL, RECEIVE_MAXIMUM, MAXIMUM_PACKET_SIZE}
use Rattle.mqtt_props.specs.declared.prop.Prop.{Prop}
use Rattle.mqtt_props.specs.Lookup.{first_of, two_in, four_in, or_default}
use Rattle.mqtt_packet.specs.Packet.{ConnectFields}

-- What is still to be sent of the messages that were retained when a subscription was made (MQTT 3.3.1.3): none, as
-- such messages aren't kept yet.
pub record Recall : Type 0 where
  pub filter : List (List ℕ)
  pub options : ℕ
  pub identifier : ℕ
  pub after : Option (List ℕ)

-- Its number; its client, and the number of the session that it is bound to; how many more messages above QoS 0 may be
-- under way, and how many at its start (MQTT 4.9); the longest packet that its client takes (MQTT 3.1.2.11.4); its Keep
-- Alive in seconds (MQTT 3.1.2.10), and the moment of its last packet; the identifiers of QoS 2 that it holds (MQTT
-- 4.3.3); what is still to be sent again, in order, and what of that was passed over; what is to be recalled; and the
-- subscription and shard that a pump served last.
pub record PlainConnection : Type 0 where
  pub number : ℕ
  pub client : List ℕ
  pub incarnation : ℕ
  pub quota : ℕ
  pub quota_start : ℕ
  pub packet_limit : ℕ
  pub keep_alive : ℕ
  pub last : ℕ
  pub held : List ℕ
  pub rest : List Entry
  pub passed : List Entry
  pub recalls : List Recall
  pub served : Option (ℕ × ℕ)

-- ---- what a CONNECT says (MQTT 3.1.2.11), with the standard's defaults

abbrev pub expiry_of : List Prop → ℕ
expiry_of props = or_default (first_of (four_in SESSION_EXPIRY_INTERVAL) props) 0

abbrev pub receive_maximum_of : List Prop → ℕ
receive_maximum_of props = or_default (first_of (two_in RECEIVE_MAXIMUM) props) 65535

-- without one, a packet may be as long as its length can say
abbrev pub packet_limit_of : List Prop → ℕ
packet_limit_of props = or_default (first_of (four_in MAXIMUM_PACKET_SIZE) props) 4294967295

-- the connection that a CONNECT binds to a session at a moment, with nothing to be sent again
abbrev pub bound_connection : ℕ → PlainSession → ConnectFields → ℕ → PlainConnection
bound_connection number m c now =
    record {
      number = number;
      client = m.client;
      incarnation = m.incarnation;
      quota = receive_maximum_of c.props;
      quota_start = receive_maximum_of c.props;
      packet_limit = packet_limit_of c.props;
      keep_alive = c.keep_alive;
      last = now;
      held = [];
      rest = [];
      passed = [];
      recalls = [];
      served = None;
    }

-- ---- among others

abbrev pub connection_at : ℕ → List PlainConnection → Option PlainConnection
connection_at number ks = find (λ (k : PlainConnection). k.number == number) ks

abbrev pub connection_of : List ℕ → List PlainConnection → Option PlainConnection
connection_of client ks = find (λ (k : PlainConnection). bytes_eq k.client client) ks

abbrev pub without_connection : ℕ → List PlainConnection → List PlainConnection
without_connection number ks = filter (λ (k : PlainConnection). not (k.number == number)) ks

abbrev pub on_connection : ℕ → (PlainConnection → PlainConnection) → List PlainConnection → List PlainConnection
on_connection number f [] = []
on_connection number f (k ∷ ks) = changed_if (k.number == number) f k ∷ on_connection number f ks

-- ---- what packets do to it

-- a number is one of these
abbrev pub is_among : ℕ → List ℕ → Bool
is_among number numbers = list_any (λ (n : ℕ). n == number) numbers

abbrev pub with_held : ℕ → List ℕ → List ℕ
with_held id held = if is_among id held then held else held ++ id ∷ []

abbrev pub all_held : List ℕ → List ℕ → List ℕ
all_held [] held = held
all_held (id ∷ ids) held = all_held ids (with_held id held)

abbrev pub without_held : List ℕ → List ℕ → List ℕ
without_held freed held = filter (λ (h : ℕ). not (is_among h freed)) held

-- What packets do to their connection: how many messages they finish, which give back as much of the quota, never above
-- its start (MQTT 4.9); identifiers of QoS 2 that it holds from then on, and those that it no longer does.
pub record Effects : Type 0 where
  pub regained : ℕ
  pub held : List ℕ
  pub freed : List ℕ

abbrev pub no_effects : Effects
no_effects = record { regained = 0; held = []; freed = [] }

abbrev pub both_effects : Effects → Effects → Effects
both_effects a b = record { regained = a.regained + b.regained; held = a.held ++ b.held; freed = a.freed ++ b.freed }

-- and it is the moment of its last packet
abbrev pub after_packets : Effects → ℕ → PlainConnection → PlainConnection
after_packets e now k =
    record k {
      quota = min k.quota_start (k.quota + e.regained);
      held = all_held e.held (without_held e.freed k.held);
      last =
          now;
    }

-- ---- what is to be sent again

-- the entries that its client has finished since are left out
abbrev pub rest_of : PlainSession → PlainConnection → List Entry
rest_of m k = filter (λ (e : Entry). not (is_finished m e)) k.rest

-- the session that a connection is bound to, while it is there
abbrev pub is_bound_to : PlainConnection → PlainSession → Bool
is_bound_to k m = bytes_eq m.client k.client && (m.incarnation == k.incarnation)

abbrev pub bound_session : Sessions → Option PlainConnection → Option PlainSession
bound_session sessions None = None
bound_session sessions (Some k) = find (is_bound_to k) sessions.list
