-- The steps of the world. A move that isn't allowed changes nothing and puts nothing out.
use Rattle.std.specs.Prelude.{ℕ, ◌+◌, ◌-◌, Bool, false, ◌&&◌, not, ◌==◌, if◌then◌else◌, List, [], ◌∷◌, ◌++◌, map, filter, slice_get, slice_set, Option, Some, None}
use Rattle.std.specs.List.{find}
use Rattle.first_shard_terms.specs.ShardList.{ShardList, store, next_of}
use Rattle.first_shard_terms.specs.Capacity.{fits, is_full}
use Rattle.first_session_terms.specs.PlainSession.{PlainSession}
use Rattle.first_session_terms.specs.Change.{Change, Began, Parted, Issued, session_of, act_all}
use Rattle.first_mqtt_packet.specs.declared.props.Prop.{Prop}
use Rattle.first_mqtt_packet.specs.declared.props.Prop.TheVariants.{Byte, Two, Four}
use Rattle.first_mqtt_packet.specs.declared.packet.Packet.{Packet}
use Rattle.first_mqtt_packet.specs.declared.packet.Packet.TheVariants.{Connect, Connack, Publish, Puback, Subscribe, Suback, Disconnect}
use Rattle.first_session_core.specs.PlainConnection.{PlainConnection, bound_connection, expiry_of}
use Rattle.first_session_core.specs.Pump.{Issue, pump_of, pumped_connection}
use Rattle.first_session_core.specs.SessionStep.{changes_of, ops_of, replies_of}
use Rattle.first_world_terms.specs.World.{World, Shard, Worker, Group, PendingRecord, Answer, Replies, Stored, Delivers, Delivered, BoundHere, DeliveredOn, sessions_of}

-- what a record is about: a packet of a bound connection, its pump, or the CONNECT of a connection that isn't bound yet
pub data Cause : Type 0 where
  OfPacket : ℕ → Packet → Cause
  OfPump : ℕ → Cause
  OfConnect : ℕ → Packet → Cause

-- how a connection ends: its client closed it, or the server with a reason
pub data Ending : Type 0 where
  ByClient : Ending
  ByServer : ℕ → Ending

-- Begin and Store: a worker appends the group that a packet of a connection asks for to a shard, at a moment.
-- Show: a shard's list is shown. View: a worker sees it. BeginCommit and Commit: a worker commits the record of a cause.
-- Emit: a worker puts out its oldest answer. Bind: a worker binds a connection to the client of a CONNECT, at a moment.
-- Unbind: a connection of a worker ends, at a moment.
pub data Move : Type 0 where
  Begin : ℕ → ℕ → ℕ → Packet → ℕ → Move
  Store : ℕ → Move
  Show : ℕ → Move
  View : ℕ → ℕ → Move
  BeginCommit : ℕ → Cause → Move
  Commit : ℕ → Move
  Emit : ℕ → Move
  Bind : ℕ → ℕ → Packet → ℕ → Move
  Unbind : ℕ → ℕ → Ending → ℕ → Move

-- what a move puts out on a connection: a packet, or its end
pub data Out : Type 0 where
  Sent : ℕ → Packet → Out
  Closed : ℕ → Out

-- ---- parts of the world

-- the world with one shard changed, and with one worker changed
abbrev pub change_shard : ℕ → (Shard → Shard) → List Shard → List Shard
change_shard k f [] = []
change_shard k f (s ∷ ss) = if k == 0 then f s ∷ ss else s ∷ change_shard (k - 1) f ss

abbrev pub on_shard : ℕ → (Shard → Shard) → World → World
on_shard k f w = record w { shards = change_shard k f w.shards }

abbrev pub change_worker : ℕ → (Worker → Worker) → List Worker → List Worker
change_worker k f [] = []
change_worker k f (s ∷ ss) = if k == 0 then f s ∷ ss else s ∷ change_worker (k - 1) f ss

abbrev pub on_worker : ℕ → (Worker → Worker) → World → World
on_worker k f w = record w { workers = change_worker k f w.workers }

-- the bound connection of this number, none where it isn't bound
abbrev pub connection_at : ℕ → List PlainConnection → Option PlainConnection
connection_at number connections = find (λ (k : PlainConnection). k.number == number) connections

abbrev pub without_connection : ℕ → List PlainConnection → List PlainConnection
without_connection number connections = filter (λ (k : PlainConnection). not (k.number == number)) connections

-- the session of a connection's client
abbrev pub session_under : List PlainSession → Option PlainConnection → Option PlainSession
session_under sessions None = None
session_under sessions (Some k) = session_of k.client sessions

abbrev pub session_at : ℕ → Worker → Option PlainSession
session_at number w = session_under (sessions_of w) (connection_at number w.connections)

-- ---- storing

-- the group that a packet asks for, and its answer: the message is acknowledged with it
abbrev pub group_for : ℕ → ℕ → ℕ → Packet → ℕ → ShardList → Option PlainSession → Option Group
group_for worker shard conn packet now list None = None
group_for worker shard conn packet now list (Some m) =
    Some (record { ops = ops_of m packet; now = now; worker = worker; answer = Stored conn (replies_of packet) shard (next_of list) })

abbrev pub may_begin : Shard → Group → Bool
may_begin s g = not (is_full s.stored g.ops g.now) && fits s.stored g.ops

abbrev pub begun_under : Shard → Option Group → Option Group → Shard
begun_under s (Some pends) asked = s
begun_under s None None = s
begun_under s None (Some g) = if may_begin s g then record s { pending = Some g } else s

abbrev pub begun : Option PlainSession → ℕ → ℕ → ℕ → Packet → ℕ → Shard → Shard
begun m worker shard conn packet now s = begun_under s s.pending (group_for worker shard conn packet now s.stored m)

abbrev pub stored_under : Shard → Option Group → Shard
stored_under s None = s
stored_under s (Some g) = record s { stored = store s.stored g.ops g.now; pending = None }

abbrev pub answered : Answer → Worker → Worker
answered answer w = record w { due = w.due ++ answer ∷ [] }

abbrev pub answer_group : World → Option Group → World
answer_group w None = w
answer_group w (Some g) = on_worker g.worker (answered g.answer) w

abbrev pub pending_of : Option Shard → Option Group
pending_of None = None
pending_of (Some s) = s.pending

abbrev pub shown_under : Shard → Option Group → Shard
shown_under s (Some pends) = s
shown_under s None = record s { shown = s.stored }

abbrev pub viewed : ℕ → Option Shard → Worker → Worker
viewed shard None w = w
viewed shard (Some s) w = record w { seen = slice_set w.seen shard s.shown }

-- ---- committing

-- the record of a pump: the entries that it issues
abbrev pub record_of_issue : ℕ → List ℕ → Option Issue → Option PendingRecord
record_of_issue conn client None = None
record_of_issue conn client (Some issue) =
    Some (record {
      changes = Issued client issue.subscription issue.shard issue.entries issue.sweep ∷ [];
      answers = Delivers conn issue ∷ [];
    })

abbrev pub pump_record : ℕ → List ShardList → Option PlainConnection → Option PlainSession → Option PendingRecord
pump_record conn lists None m = None
pump_record conn lists (Some k) None = None
pump_record conn lists (Some k) (Some m) = record_of_issue conn m.client (pump_of m k lists)

-- the record of a packet: the changes that it asks for
abbrev pub record_if_any : ℕ → Packet → List Change → Option PendingRecord
record_if_any conn packet [] = None
record_if_any conn packet (c ∷ cs) = Some (record { changes = c ∷ cs; answers = Replies conn (replies_of packet) ∷ [] })

abbrev pub packet_record : ℕ → List ShardList → Packet → Option PlainSession → Option PendingRecord
packet_record conn lists packet None = None
packet_record conn lists packet (Some m) = record_if_any conn packet (changes_of m lists packet)

-- the acknowledgement of a CONNECT: what this broker offers (MQTT 3.2.2.3): Receive Maximum 32, no retained messages,
-- packets of at most 1,048,576 bytes, no shared subscriptions
abbrev pub offered : List Prop
offered = Two 33 32 ∷ Byte 37 0 ∷ Four 39 1048576 ∷ Byte 42 0 ∷ []

abbrev pub connack : Bool → Packet
connack present = Connack present 0 offered

-- a session begins
abbrev pub connect_record : ℕ → ℕ → Packet → Option PendingRecord
connect_record conn incarnation (Connect clean keep_alive props client will user password) =
    Some (record {
      changes = Began client incarnation (expiry_of props) ∷ [];
      answers = Replies conn (connack false ∷ []) ∷ [];
    })
connect_record conn incarnation (Connack present reason props) = None
connect_record conn incarnation (Publish dup qos retain topic id props payload) = None
connect_record conn incarnation (Puback id reason props) = None
connect_record conn incarnation (Subscribe id props filters) = None
connect_record conn incarnation (Suback id props reasons) = None
connect_record conn incarnation (Disconnect reason props) = None

-- the record that a cause asks for, over what the worker has seen
abbrev pub record_of : Worker → Cause → Option PendingRecord
record_of w (OfPacket conn packet) = packet_record conn w.seen packet (session_at conn w)
record_of w (OfPump conn) = pump_record conn w.seen (connection_at conn w.connections) (session_at conn w)
record_of w (OfConnect conn packet) = connect_record conn w.next_incarnation packet

-- the owed changes go first
abbrev pub with_owed : List Change → PendingRecord → PendingRecord
with_owed owed r = record r { changes = owed ++ r.changes }

abbrev pub commit_begun_under : Worker → Option PendingRecord → Option PendingRecord → Worker
commit_begun_under w (Some pends) asked = w
commit_begun_under w None None = w
commit_begun_under w None (Some r) = record w { pending = Some (with_owed w.owed r); owed = [] }

-- how many sessions a record begins
abbrev pub begins : Change → ℕ
begins (Began client incarnation expiry) = 1
begins other = 0

abbrev pub begun_by : List Change → ℕ
begun_by [] = 0
begun_by (c ∷ cs) = begins c + begun_by cs

abbrev pub committed_under : Worker → Option PendingRecord → Worker
committed_under w None = w
committed_under w (Some r) =
    record w {
      committed = act_all w.committed r.changes;
      next_incarnation = w.next_incarnation + begun_by r.changes;
      pending = None;
      due = w.due ++ r.answers;
    }

-- ---- putting out

-- what is put out of an answer
abbrev pub sent_on : ℕ → List Packet → List Out
sent_on conn packets = map (λ (p : Packet). Sent conn p) packets

abbrev pub outs_of_answer : Answer → List Out
outs_of_answer (Replies conn packets) = sent_on conn packets
outs_of_answer (Stored conn packets shard offset) = sent_on conn packets
outs_of_answer (Delivers conn issue) = sent_on conn issue.packets

-- the message that is acknowledged with it
abbrev pub acked_by : Answer → List (ℕ × ℕ)
acked_by (Replies conn packets) = []
acked_by (Stored conn packets shard offset) = (shard, offset) ∷ []
acked_by (Delivers conn issue) = []

-- the connection with this number changed
abbrev pub change_connection : ℕ → (PlainConnection → PlainConnection) → List PlainConnection → List PlainConnection
change_connection number f [] = []
change_connection number f (k ∷ ks) = if k.number == number then f k ∷ ks else k ∷ change_connection number f ks

-- quota and pair follow what a pump put out
abbrev pub pumped_by : Answer → List PlainConnection → List PlainConnection
pumped_by (Replies conn packets) connections = connections
pumped_by (Stored conn packets shard offset) connections = connections
pumped_by (Delivers conn issue) connections = change_connection conn (pumped_connection issue) connections

abbrev pub history_of : Answer → List Delivered
history_of (Replies conn packets) = []
history_of (Stored conn packets shard offset) = []
history_of (Delivers conn issue) = DeliveredOn conn issue.packets ∷ []

abbrev pub emitted_under : List Answer → Worker → Worker
emitted_under [] w = w
emitted_under (a ∷ rest) w =
    record w { due = rest; connections = pumped_by a w.connections; history = w.history ++ history_of a }

abbrev pub emitted : Worker → Worker
emitted w = emitted_under w.due w

abbrev pub acked_under : List Answer → List (ℕ × ℕ)
acked_under [] = []
acked_under (a ∷ rest) = acked_by a

abbrev pub outs_under : List Answer → List Out
outs_under [] = []
outs_under (a ∷ rest) = outs_of_answer a

abbrev pub due_of : Option Worker → List Answer
due_of None = []
due_of (Some w) = w.due

-- ---- connections

-- the connection of a CONNECT (MQTT 3.1)
abbrev pub bound_by : ℕ → Packet → ℕ → Worker → Worker
bound_by conn (Connect clean keep_alive props client will user password) now w =
    record w {
      connections = w.connections ++ bound_connection conn client keep_alive props now ∷ [];
      history = w.history ++ BoundHere conn ∷ [];
    }
bound_by conn (Connack present reason props) now w = w
bound_by conn (Publish dup qos retain topic id props payload) now w = w
bound_by conn (Puback id reason props) now w = w
bound_by conn (Subscribe id props filters) now w = w
bound_by conn (Suback id props reasons) now w = w
bound_by conn (Disconnect reason props) now w = w

-- the end of a connection owes its session the moment of it
abbrev pub owed_by : Option PlainSession → ℕ → List Change
owed_by None now = []
owed_by (Some m) now = Parted m.client m.expiry now ∷ []

abbrev pub unbound : ℕ → ℕ → Worker → Worker
unbound conn now w =
    record w { connections = without_connection conn w.connections; owed = w.owed ++ owed_by (session_at conn w) now }

-- a close by the server is told to the client with its reason (MQTT 3.14)
abbrev pub outs_of_ending : ℕ → Ending → List Out
outs_of_ending conn ByClient = []
outs_of_ending conn (ByServer reason) = Sent conn (Disconnect reason []) ∷ Closed conn ∷ []

abbrev pub outs_if_bound : Option PlainConnection → List Out → List Out
outs_if_bound None outs = []
outs_if_bound (Some k) outs = outs

abbrev pub connections_of : Option Worker → List PlainConnection
connections_of None = []
connections_of (Some w) = w.connections

-- ---- a move

abbrev pub session_in : Option Worker → ℕ → Option PlainSession
session_in None conn = None
session_in (Some w) conn = session_at conn w

-- the world after a move
abbrev pub after_move : World → Move → World
after_move w (Begin worker shard conn packet now) =
    on_shard shard (begun (session_in (slice_get w.workers worker) conn) worker shard conn packet now) w
after_move w (Store shard) =
    answer_group (on_shard shard (λ s. stored_under s s.pending) w) (pending_of (slice_get w.shards shard))
after_move w (Show shard) = on_shard shard (λ s. shown_under s s.pending) w
after_move w (View worker shard) = on_worker worker (viewed shard (slice_get w.shards shard)) w
after_move w (BeginCommit worker cause) = on_worker worker (λ s. commit_begun_under s s.pending (record_of s cause)) w
after_move w (Commit worker) = on_worker worker (λ s. committed_under s s.pending) w
after_move w (Emit worker) =
    on_worker worker emitted (record w { acked_out = w.acked_out ++ acked_under (due_of (slice_get w.workers worker)) })
after_move w (Bind worker conn packet now) = on_worker worker (bound_by conn packet now) w
after_move w (Unbind worker conn ending now) = on_worker worker (unbound conn now) w

-- what a move puts out
abbrev pub outs_of_move : World → Move → List Out
outs_of_move w (Begin worker shard conn packet now) = []
outs_of_move w (Store shard) = []
outs_of_move w (Show shard) = []
outs_of_move w (View worker shard) = []
outs_of_move w (BeginCommit worker cause) = []
outs_of_move w (Commit worker) = []
outs_of_move w (Emit worker) = outs_under (due_of (slice_get w.workers worker))
outs_of_move w (Bind worker conn packet now) = []
outs_of_move w (Unbind worker conn ending now) =
    outs_if_bound (connection_at conn (connections_of (slice_get w.workers worker))) (outs_of_ending conn ending)

-- the world after several moves, and what they put out
abbrev pub after_moves : World → List Move → World
after_moves w [] = w
after_moves w (move ∷ moves) = after_moves (after_move w move) moves

abbrev pub outs_of_moves : World → List Move → List Out
outs_of_moves w [] = []
outs_of_moves w (move ∷ moves) = outs_of_move w move ++ outs_of_moves (after_move w move) moves
