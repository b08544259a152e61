-- A worker as the world sees it: what its journal holds, what it owes, its connections, and what is to be put out.
use Rattle.std.specs.Prelude.{ℕ, Bool, true, false, ◌&&◌, nat_le, List, [], ◌∷◌, map, Option, Some, None}
use Rattle.topic_model.specs.Profile.{Profile, Config}
use Rattle.topic_model.specs.StoredMessage.{StoredMessage}
use Rattle.shard_model.specs.ShardList.{ShardList}
use Rattle.session_model.specs.declared.entry.Entry.{Entry}
use Rattle.session_model.specs.PlainSession.{PlainSession, Sessions, no_sessions}
use Rattle.session_model.specs.Change.{Change, Issues}
use Rattle.session_model.specs.Acting.{act_all}
use Rattle.mqtt_packet.specs.Packet.{PlainPacket, ConnectFields}
use Rattle.mqtt_packet.specs.Sizes.{packet_size}
use Rattle.turn_model.specs.PlainConnection.{PlainConnection, Effects, connection_at, bound_session}
use Rattle.turn_model.specs.Step.{Setting, Reply}

-- What a committed record or a stored group is answered by: the replies to its packets, with what these do to the
-- connection; the CONNACK of a CONNECT, with the client and the number of the session that it began or bound; the
-- packets of a batch, at the moment of its record, as long as no View came since.
pub data Answer : Type 0 where
  Answers : List Reply → Effects → Answer
  Accepts : ConnectFields → List ℕ → ℕ → List Reply → Answer
  Delivers : Issues → ℕ → Bool → Answer

pub record Item : Type 0 where
  pub connection : ℕ
  pub answer : Answer

-- A record that was begun: what it begins with of the owed changes, its own, and the item that it hands on, none where
-- its connection has ended; and of a CONNECT, whose connection isn't bound yet, the moment at which that has ended.
pub record PendingRecord : Type 0 where
  pub owed : List Change
  pub changes : List Change
  pub item : Option Item
  pub left : Option ℕ

-- What came of a connection: it was bound, with the entries to be sent again and those passed over; entries were sent
-- again, each with its packet, or none where it was passed over; and entries of a batch were delivered, each with its
-- packet, or none where it is silent.
pub data Noted : Type 0 where
  Bound : List Entry → List Entry → Noted
  SentAgain : List (Entry × Option PlainPacket) → Noted
  Delivered : List (Entry × Option PlainPacket) → Noted

-- the same with the connection, its client and the number of its session
pub record Note : Type 0 where
  pub connection : ℕ
  pub client : List ℕ
  pub incarnation : ℕ
  pub noted : Noted

abbrev pub note : PlainConnection → Noted → Note
note k noted = record { connection = k.number; client = k.client; incarnation = k.incarnation; noted = noted }

-- Its number; the committed sessions, and the changes that are owed on top of them; its connections; the list that it
-- has seen of each shard, and the shards that stored a group of its since; the record that pends; what no Emit has put
-- out yet; and the history of what came of its connections.
pub record Worker : Type 0 where
  pub number : ℕ
  pub committed : Sessions
  pub owed : List Change
  pub connections : List PlainConnection
  pub seen : List ShardList
  pub unviewed : List ℕ
  pub pending : Option PendingRecord
  pub due : List Item
  pub history : List Note

-- a worker that begins, having seen these lists
abbrev pub opening_worker : ℕ → List ShardList → Worker
opening_worker number lists =
    record {
      number = number;
      committed = no_sessions;
      owed = [];
      connections = [];
      seen = lists;
      unviewed =
          [];
      pending = None;
      due = [];
      history = [];
    }

-- the sessions that the committed ones and the owed changes give together
abbrev pub sessions_of : Worker → Sessions
sessions_of w = act_all w.committed w.owed

abbrev pub setting_of : Profile → Config → ℕ → Worker → Setting
setting_of profile config now w =
    record {
      profile = profile;
      config = config;
      worker = w.number;
      sessions = sessions_of w;
      committed = w.committed;
      connections = w.connections;
      seen = w.seen;
      now = now;
    }

abbrev pub connection_in : Worker → ℕ → Option PlainConnection
connection_in w conn = connection_at conn w.connections

-- the session that a connection is bound to
abbrev pub session_in : Worker → ℕ → Option PlainSession
session_in w conn = bound_session (sessions_of w) (connection_in w conn)

-- ---- what is put out

-- a packet on a connection; that the server closes it
pub data Out : Type 0 where
  Sent : ℕ → PlainPacket → Out
  Closed : ℕ → Out

abbrev pub sent_on : ℕ → List PlainPacket → List Out
sent_on conn packets = map (λ packet. Sent conn packet) packets

-- A reply that is longer than the client takes isn't sent, and nothing behind it (MQTT 3.1.2.11.4).
abbrev pub is_short : ℕ → Reply → Bool
is_short limit r = nat_le (packet_size r.packet) limit

abbrev pub sendable : ℕ → List Reply → List Reply
sendable limit [] = []
sendable limit (r ∷ rs) = elim (is_short limit r) as (λ short. List Reply) [ true ↦ r ∷ sendable limit rs | false ↦ [] ]

abbrev pub are_sendable : ℕ → List Reply → Bool
are_sendable limit [] = true
are_sendable limit (r ∷ rs) = is_short limit r && are_sendable limit rs

abbrev pub reply_packets : List Reply → List PlainPacket
reply_packets rs = map (λ (r : Reply). r.packet) rs

abbrev pub with_acked : Option (ℕ × StoredMessage) → List (ℕ × StoredMessage) → List (ℕ × StoredMessage)
with_acked None later = later
with_acked (Some m) later = m ∷ later

-- the messages that replies acknowledge, each with its shard
abbrev pub acked_by : List Reply → List (ℕ × StoredMessage)
acked_by [] = []
acked_by (r ∷ rs) = with_acked r.acked (acked_by rs)
