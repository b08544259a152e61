-- What a broker in memory keeps of the world between two lines, and what a line does to it. It has no moves and no
-- history: a law says that its runs are the runs of the world.
use Rattle.std.specs.Prelude.{ℕ, ◌+◌, false, not, ◌==◌, if◌then◌else◌, List, [], ◌∷◌, ◌++◌, length, filter, Option, Some, None, is_some}
use Rattle.first_topic_name.specs.StoredMessage.{StoredMessage}
use Rattle.first_shard_terms.specs.ShardList.{ShardList, opening_list, store}
use Rattle.first_session_terms.specs.PlainSession.{PlainSession, begun_session}
use Rattle.first_session_terms.specs.Change.{Change, Issued, session_of, act, act_all}
use Rattle.first_mqtt_packet.specs.declared.packet.Packet.{Packet}
use Rattle.first_mqtt_packet.specs.declared.packet.Packet.TheVariants.{Connect, Connack, Publish, Puback, Subscribe, Suback, Disconnect}
use Rattle.first_mqtt_packet.specs.Reading.{packet_of}
use Rattle.first_session_core.specs.PlainConnection.{PlainConnection, bound_connection, expiry_of}
use Rattle.first_session_core.specs.Pump.{Issue, pump_of, pumped_connection}
use Rattle.first_session_core.specs.SessionStep.{refusal_of, ops_of, changes_of, replies_of}
use Rattle.first_world_terms.specs.Script.{Line, Nothing, Open, Send, Pump, line_of}
use Rattle.first_world_terms.specs.Move.{Out, Sent, Closed, connack, connection_at, without_connection, change_connection, session_under, owed_by, sent_on}
use Rattle.first_world_terms.specs.Turn.{waits}
use Rattle.first_world_terms.specs.Run.{line_or_nothing}
use Rattle.first_world_terms.specs.Text.{text_of_outs}

-- the messages, the sessions in order of creation, the bound connections, and those that are open and not bound yet
pub record PlainBroker : Type 0 where
  pub messages : List StoredMessage
  pub sessions : List PlainSession
  pub connections : List PlainConnection
  pub lobby : List ℕ

abbrev pub empty_broker : PlainBroker
empty_broker = record { messages = []; sessions = []; connections = []; lobby = [] }

-- the list of the one shard
abbrev pub list_with : List StoredMessage → ShardList
list_with messages = record (opening_list 100 10 32768) { messages = messages }

-- what a line leaves, and what it puts out
pub record Step : Type 0 where
  pub broker : PlainBroker
  pub outs : List Out

abbrev pub nothing_done : PlainBroker → Step
nothing_done p = record { broker = p; outs = [] }

abbrev pub without : ℕ → List ℕ → List ℕ
without c lobby = filter (λ d. not (d == c)) lobby

-- the session of a bound connection
abbrev pub session_on : PlainBroker → ℕ → Option PlainSession
session_on p c = session_under p.sessions (connection_at c p.connections)

-- the end of a connection: its session is parted from it
abbrev pub ended : ℕ → PlainBroker → PlainBroker
ended c p =
    record p { sessions = act_all p.sessions (owed_by (session_on p c) 0); connections = without_connection c p.connections }

abbrev pub opened : ℕ → Option PlainConnection → PlainBroker → Step
opened c None p = record { broker = record p { lobby = without c p.lobby ++ c ∷ [] }; outs = [] }
opened c (Some k) p = record { broker = record (ended c p) { lobby = without c p.lobby ++ c ∷ [] }; outs = [] }

-- closed before it was bound
abbrev pub turned_away : ℕ → PlainBroker → Step
turned_away c p = record { broker = record p { lobby = without c p.lobby }; outs = Closed c ∷ [] }

abbrev pub first_packet : ℕ → Option Packet → PlainBroker → Step
first_packet c None p = turned_away c p
first_packet c (Some (Connect clean keep_alive props client will user password)) p =
    if is_some (session_of client p.sessions) then turned_away c p
    else
    record {
      broker = record {
        messages = p.messages;
        sessions = p.sessions ++ begun_session client (length p.sessions + 1) (expiry_of props) ∷ [];
        connections = p.connections ++ bound_connection c client keep_alive props 0 ∷ [];
        lobby = without c p.lobby;
      };
      outs = Sent c (connack false) ∷ [];
    }
first_packet c (Some (Connack present reason props)) p = turned_away c p
first_packet c (Some (Publish dup qos retain topic id props payload)) p = turned_away c p
first_packet c (Some (Puback id reason props)) p = turned_away c p
first_packet c (Some (Subscribe id props filters)) p = turned_away c p
first_packet c (Some (Suback id props reasons)) p = turned_away c p
first_packet c (Some (Disconnect reason props)) p = turned_away c p

-- closed with a reason
abbrev pub refused : ℕ → ℕ → PlainBroker → Step
refused c reason p = record { broker = ended c p; outs = Sent c (Disconnect reason []) ∷ Closed c ∷ [] }

-- what a packet that is taken leaves and answers
abbrev pub changed : ℕ → Packet → List Change → PlainBroker → Step
changed c packet [] p = nothing_done p
changed c packet (d ∷ ds) p = record { broker = record p { sessions = act_all p.sessions (d ∷ ds) }; outs = sent_on c (replies_of packet) }

abbrev pub taken : ℕ → Packet → PlainSession → PlainBroker → Step
taken c (Publish dup qos retain topic id props payload) m p =
    record {
      broker = record p { messages = (store (list_with p.messages) (ops_of m (Publish dup qos retain topic id props payload)) 0).messages };
      outs = sent_on c (replies_of (Publish dup qos retain topic id props payload));
    }
taken c (Subscribe id props filters) m p =
    changed c (Subscribe id props filters) (changes_of m (list_with p.messages ∷ []) (Subscribe id props filters)) p
taken c (Connect clean keep_alive props client will user password) m p = nothing_done p
taken c (Connack present reason props) m p = nothing_done p
taken c (Puback id reason props) m p = nothing_done p
taken c (Suback id props reasons) m p = nothing_done p
taken c (Disconnect reason props) m p = nothing_done p

abbrev pub refused_or_taken : ℕ → Packet → PlainSession → Option ℕ → PlainBroker → Step
refused_or_taken c packet m None p = taken c packet m p
refused_or_taken c packet m (Some reason) p = refused c reason p

abbrev pub bound_packet : ℕ → Option Packet → Option PlainSession → PlainBroker → Step
bound_packet c None m p = refused c 131 p
bound_packet c (Some packet) None p = nothing_done p
bound_packet c (Some packet) (Some m) p = refused_or_taken c packet m (refusal_of m packet) p

abbrev pub sent_bound : ℕ → Option Packet → Option PlainConnection → PlainBroker → Step
sent_bound c packet None p = nothing_done p
sent_bound c packet (Some k) p = bound_packet c packet (session_on p c) p

abbrev pub sent : ℕ → Option Packet → PlainBroker → Step
sent c packet p = if waits c p.lobby then first_packet c packet p else sent_bound c packet (connection_at c p.connections) p

-- what a pump issued
abbrev pub issued : ℕ → List ℕ → Option Issue → PlainBroker → Step
issued c client None p = nothing_done p
issued c client (Some issue) p =
    record {
      broker = record p {
        sessions = act p.sessions (Issued client issue.subscription issue.shard issue.entries issue.sweep);
        connections = change_connection c (pumped_connection issue) p.connections;
      };
      outs = sent_on c issue.packets;
    }

abbrev pub pumped : ℕ → Option PlainConnection → Option PlainSession → PlainBroker → Step
pumped c None m p = nothing_done p
pumped c (Some k) None p = nothing_done p
pumped c (Some k) (Some m) p = issued c m.client (pump_of m k (list_with p.messages ∷ [])) p

-- what a line does
abbrev pub plain_step : Line → PlainBroker → Step
plain_step Nothing p = nothing_done p
plain_step (Open c) p = opened c (connection_at c p.connections) p
plain_step (Send c bytes) p = sent c (packet_of bytes) p
plain_step (Pump c) p = pumped c (connection_at c p.connections) (session_on p c) p

-- after the lines of these texts, and the text that they print
abbrev pub plain_after : PlainBroker → List (List ℕ) → PlainBroker
plain_after p [] = p
plain_after p (text ∷ texts) = plain_after (plain_step (line_or_nothing (line_of text)) p).broker texts

abbrev pub plain_text : PlainBroker → List (List ℕ) → List ℕ
plain_text p [] = []
plain_text p (text ∷ texts) =
    text_of_outs (plain_step (line_or_nothing (line_of text)) p).outs ++ plain_text (plain_step (line_or_nothing (line_of text)) p).broker texts
