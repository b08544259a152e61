-- The moves of a worker, and what they put out. A move that isn't allowed changes nothing and puts out nothing.
use Rattle.std.specs.Prelude.{ℕ, ◌+◌, ◌-◌, Bool, true, false, ◌&&◌, ◌||◌, not, ◌==◌, if◌then◌else◌, List, [], ◌∷◌, ◌++◌}
use Rattle.std.specs.Prelude.{map, filter, find, take, drop, slice_get, slice_set, Option, Some, None, is_some}
use Rattle.std.specs.List.{list_any, flat_map}
use Rattle.std.specs.Str.{bytes_eq}
use Rattle.topic_model.specs.Profile.{Profile, Config}
use Rattle.topic_model.specs.StoredMessage.{StoredMessage}
use Rattle.shard_model.specs.ShardList.{ShardList}
use Rattle.session_model.specs.declared.entry.Entry.{Entry}
use Rattle.session_model.specs.PlainSession.{PlainSession}
use Rattle.session_model.specs.Change.{Issues}
use Rattle.session_model.specs.Ends.{restart_owes}
use Rattle.mqtt_packet.specs.Packet.{PlainPacket, Publish, Ack, Disconnect, ConnectFields}
use Rattle.mqtt_packet.specs.declared.packet.AckKind.TheVariants.{Pubrel}
use Rattle.turn_model.specs.PlainConnection.{PlainConnection, Effects, rest_of, no_effects, both_effects, connection_of}
use Rattle.turn_model.specs.PlainConnection.{bound_connection, without_connection, on_connection, after_packets}
use Rattle.turn_model.specs.PlainConnection.{is_among}
use Rattle.turn_model.specs.Batch.{quota_used}
use Rattle.turn_model.specs.Resend.{Resent, resend_of, resent_connection, with_rest, packets_with, issued_pairs}
use Rattle.turn_model.specs.Step.{Setting, Outcome, Kept, IsFull, AwaitsTooMany, Faulted, Step, idle, is_nil}
use Rattle.turn_model.specs.Step.{owes_nothing}
use Rattle.turn_model.specs.PublishStep.{shard_for, stored_publish, completion_step, with_shard}
use Rattle.turn_model.specs.ConnectStep.{takeover_close}
use Rattle.turn_model.specs.PacketStep.{packet_step}
use Rattle.turn_model.specs.Worker.{Worker, Item, Answer, Answers, Accepts, Delivers, PendingRecord, Note, note}
use Rattle.turn_model.specs.Worker.{SentAgain, Delivered, Out, Sent, Closed, setting_of, connection_in, session_in}
use Rattle.turn_model.specs.Worker.{sent_on, sendable, reply_packets, acked_by}
use Rattle.turn_model.specs.Records.{Cause, accepts_on, awaits_connack, begun_unless, handed_on, is_attended, item}
use Rattle.turn_model.specs.Records.{may_settle, parting_unless, record_committed, record_of, record_resolved}
use Rattle.turn_model.specs.Records.{record_settled, session_at}
use Rattle.turn_model.specs.Worker as Worker
use Rattle.turn_model.specs.Reasons as Reason

-- What is put out: the item at a place among those due; the answer of a packet that asks for no group and changes
-- nothing, or whose group was refused; what is to be sent again.
pub data Emitted : Type 0 where
  OfItem : ℕ → Emitted
  OfPacket : ℕ → PlainPacket → List Outcome → Emitted
  OfResend : ℕ → Emitted

-- How a connection ends: with a DISCONNECT of this reason, if with one; whether the server closes it; and the interval
-- that the client named in its own DISCONNECT, if it did.
pub record Ending : Type 0 where
  pub reason : Option ℕ
  pub by_server : Bool
  pub expiry : Option ℕ

abbrev pub by_client : Ending
by_client = record { reason = None; by_server = false; expiry = None }

abbrev pub with_reason : ℕ → Ending
with_reason reason = record { reason = Some reason; by_server = true; expiry = None }

abbrev pub silently : Option ℕ → Ending
silently expiry = record { reason = None; by_server = true; expiry = expiry }

-- the packets of a connection whose group a shard stores, and the session that it was bound to
pub record Asker : Type 0 where
  pub worker : ℕ
  pub connection : ℕ
  pub client : List ℕ
  pub incarnation : ℕ
  pub packets : List PlainPacket

pub data WorkerMove : Type 0 where
  -- a shard shows this list
  View : ℕ → ShardList → WorkerMove
  BeginCommit : Cause → ℕ → WorkerMove
  Commit : WorkerMove
  -- what pends is found to be in or not, at a moment
  Settle : Bool → ℕ → WorkerMove
  -- a shard stored the group of these packets: for each publish the message that stands for it
  Stored : ℕ → Asker → List (Option StoredMessage) → WorkerMove
  Emit : Emitted → ℕ → WorkerMove
  Bind : ℕ → ℕ → WorkerMove
  TakeOver : ℕ → WorkerMove
  Unbind : ℕ → Ending → ℕ → WorkerMove

-- ---- View

-- what a pump was to put out is no longer fresh
abbrev pub aged_answer : Answer → Answer
aged_answer (Answers rs effects) = Answers rs effects
aged_answer (Accepts c client number rs) = Accepts c client number rs
aged_answer (Delivers b moment fresh) = Delivers b moment false

abbrev pub aged_item : Item → Item
aged_item i = record i { answer = aged_answer i.answer }

abbrev pub aged_pending : Option PendingRecord → Option PendingRecord
aged_pending None = None
aged_pending (Some p) =
    Some (record p { item = elim (p.item) as (λ i. Option Item) [ None ↦ None | Some i ↦ Some (aged_item i) ] })

abbrev pub with_view : ℕ → ShardList → Worker → Worker
with_view shard list w =
    record w {
      seen = slice_set w.seen shard list;
      unviewed = filter (λ (s : ℕ). not (s == shard)) w.unviewed;
      pending = aged_pending w.pending;
      due = map aged_item w.due;
    }

-- ---- a group that is in

-- what a packet is answered and does whose group was stored, with the message that stands for a publish
abbrev pub stored_step : PlainPacket → Option (ℕ × StoredMessage) → Step
stored_step (Publish p) acked = stored_publish p acked
stored_step (Ack kind a) acked = completion_step a.id Reason.success
stored_step other acked = idle

abbrev pub is_publish_packet : PlainPacket → Bool
is_publish_packet (Publish p) = true
is_publish_packet other = false

abbrev pub front_message : List (Option StoredMessage) → Option StoredMessage
front_message [] = None
front_message (message ∷ messages) = message

-- the packets in order, each publish with its message
abbrev pub stored_steps : ℕ → List PlainPacket → List (Option StoredMessage) → List Step
stored_steps shard [] messages = []
stored_steps shard (packet ∷ packets) messages =
    stored_step packet (with_shard shard (front_message messages))
    ∷ stored_steps shard packets (if is_publish_packet packet then drop 1 messages else messages)

abbrev pub all_effects : List Step → Effects
all_effects [] = no_effects
all_effects (step ∷ steps) = both_effects step.effects (all_effects steps)

abbrev pub stored_answer : List Step → Answer
stored_answer steps = Answers (flat_map (λ (step : Step). step.replies) steps) (all_effects steps)

-- its client has the connection still
abbrev pub has_asked : Asker → Option PlainConnection → Bool
has_asked a None = false
has_asked a (Some k) = bytes_eq k.client a.client && (k.incarnation == a.incarnation)

abbrev pub stored_if : Bool → ℕ → Asker → List (Option StoredMessage) → Worker → Worker
stored_if true shard a messages w =
    handed_on (Some (item a.connection (stored_answer (stored_steps shard a.packets messages))))
    (record w { unviewed = w.unviewed ++ shard ∷ [] })
stored_if false shard a messages w = w

-- ---- Emit

abbrev pub is_fresh : Answer → Bool
is_fresh (Delivers b moment fresh) = fresh
is_fresh other = true

-- nothing but its CONNACK comes first on a connection
abbrev pub is_in_turn : Worker → Item → Bool
is_in_turn w i = accepts_on i.connection i || not (awaits_connack i.connection w)

-- an item whose connection is bound, in its turn and, of a pump, since whose record no View came
abbrev pub item_if : Worker → Option Item → Option Item
item_if w None = None
item_if w (Some i) =
    if is_some (connection_in w i.connection) && (is_fresh i.answer && is_in_turn w i) then Some i else None

abbrev pub item_at : Worker → ℕ → Option Item
item_at w place = item_if w (slice_get w.due place)

abbrev pub batch_pairs : ℕ → Worker → Issues → Option PlainSession → List (Entry × Option PlainPacket)
batch_pairs moment w b None = []
batch_pairs moment w b (Some m) = issued_pairs moment m w.seen b.entries

-- the packets of a batch are those of the moment of its record
abbrev pub answer_packets : Worker → PlainConnection → Answer → List PlainPacket
answer_packets w k (Answers rs effects) = reply_packets (sendable k.packet_limit rs)
answer_packets w k (Accepts c client number rs) = reply_packets (sendable k.packet_limit rs)
answer_packets w k (Delivers b moment fresh) = packets_with (batch_pairs moment w b (session_in w k.number))

abbrev pub after_answer : ℕ → Answer → PlainConnection → PlainConnection
after_answer now (Answers rs effects) k = after_packets effects now k
after_answer now (Accepts c client number rs) k = k
after_answer now (Delivers b moment fresh) k =
    record k { quota = k.quota - quota_used b.entries; served = Some (b.subscription, b.shard) }

abbrev pub noted_answer : Worker → PlainConnection → Answer → List Note
noted_answer w k (Delivers b moment fresh) = note k (Delivered (batch_pairs moment w b (session_in w k.number))) ∷ []
noted_answer w k other = []

abbrev pub without_item : ℕ → List Item → List Item
without_item place is = take place is ++ drop (place + 1) is

abbrev pub item_emitted : ℕ → ℕ → Item → Option PlainConnection → Worker → Worker
item_emitted place now i None w = w
item_emitted place now i (Some k) w =
    record w {
      due = without_item place w.due;
      connections = on_connection k.number (after_answer now i.answer) w.connections;
      history = w.history ++ noted_answer w k i.answer;
    }

abbrev pub emitted_if : ℕ → ℕ → Option Item → Worker → Worker
emitted_if place now None w = w
emitted_if place now (Some i) w = item_emitted place now i (connection_in w i.connection) w

-- a refused group answers a packet that asks for one
abbrev pub is_refusal : Outcome → Bool
is_refusal IsFull = true
is_refusal AwaitsTooMany = true
is_refusal (Kept acked) = false
is_refusal Faulted = false

abbrev pub may_answer : Step → List Outcome → Bool
may_answer step [] = true
may_answer step (outcome ∷ []) = is_refusal outcome && not (is_nil step.groups)
may_answer step (outcome ∷ other ∷ outcomes) = false

-- PUBLISH and PUBREL go by what their shard is seen to await: by a view that came since the shard stored a group of
-- this worker, as else an identifier that was released would still seem awaited
abbrev pub looks_at_shard : PlainPacket → Bool
looks_at_shard (Publish p) = true
looks_at_shard (Ack Pubrel a) = true
looks_at_shard other = false

abbrev pub has_view : Setting → Worker → PlainSession → Bool
has_view s w m = not (is_among (shard_for s m) w.unviewed)

abbrev pub has_view_for : Setting → Worker → PlainSession → PlainPacket → Bool
has_view_for s w m packet = not (looks_at_shard packet) || has_view s w m

abbrev pub step_if : Bool → Step → Option Step
step_if true step = Some step
step_if false step = None

-- what answers a packet that owes nothing: it asked for no group, or that was refused
abbrev pub answered_step : Setting → Worker → PlainPacket → List Outcome → Option PlainConnection →
    Option PlainSession → Option Step
answered_step s w packet outcomes (Some k) (Some m) =
    step_if
    (has_view_for s w m packet
    && (not (awaits_connack k.number w)
    && (may_answer (packet_step s k m packet []) outcomes && owes_nothing (packet_step s k m packet outcomes))))
    (packet_step s k m packet outcomes)
answered_step s w packet outcomes k m = None

abbrev pub step_emitted : ℕ → ℕ → Option Step → Worker → Worker
step_emitted conn now None w = w
step_emitted conn now (Some step) w =
    record w { connections = on_connection conn (after_packets step.effects now) w.connections }

abbrev pub resent_if : Bool → Resent → Option Resent
resent_if true r = Some r
resent_if false r = None

-- where some is left
abbrev pub resent_for : Profile → ℕ → Worker → Option PlainConnection → Option PlainSession → Option Resent
resent_for profile now w (Some k) (Some m) =
    resent_if (not (is_nil (rest_of m k)) && not (awaits_connack k.number w)) (resend_of profile now m k w.seen)
resent_for profile now w k m = None

abbrev pub resend_emitted : ℕ → Option PlainConnection → Option Resent → Worker → Worker
resend_emitted conn (Some k) (Some r) w =
    record w {
      connections = on_connection conn (resent_connection r) w.connections;
      history = w.history ++ note k (SentAgain r.taken) ∷ [];
    }
resend_emitted conn k r w = w

-- ---- Bind, TakeOver and Unbind

-- one of this client, of another connection, whose session is there
abbrev pub takes_over : Worker → List ℕ → ℕ → Item → Bool
takes_over w client conn i =
    not (i.connection == conn)
    && elim (i.answer) as (λ a. Bool) [
      | Answers rs effects ↦ false
      | Accepts c named number rs ↦ bytes_eq named client && is_some (session_at named number w)
      | Delivers b moment fresh ↦ false
    ]

abbrev pub bound_with : ℕ → ConnectFields → ℕ → Option PlainConnection → Option PlainSession → Worker → Worker
bound_with conn c now None (Some m) w =
    let k = with_rest m w.seen (bound_connection conn m c now) in
    record w
    { connections = w.connections ++ k ∷ []; history = w.history ++ note k (Worker.Bound k.rest k.passed) ∷ [] }
bound_with conn c now k m w = w

abbrev pub bound_answer : ℕ → ℕ → Answer → Worker → Worker
bound_answer conn now (Accepts c client number rs) w =
    bound_with conn c now (connection_of client w.connections) (session_at client number w) w
bound_answer conn now other w = w

-- Where nothing pends, the connection isn't bound, nor is its client on another one, and to the session that its
-- CONNECT began or bound, to no other.
abbrev pub bound_if : ℕ → ℕ → Option PendingRecord → Option Item → Option PlainConnection → Worker → Worker
bound_if conn now None (Some i) None w = bound_answer conn now i.answer w
bound_if conn now p i k w = w

abbrev pub pending_item : Option PendingRecord → List Item
pending_item None = []
pending_item (Some p) = elim (p.item) as (λ i. List Item) [ None ↦ [] | Some i ↦ i ∷ [] ]

-- an item of another connection
abbrev pub kept_item : ℕ → Option Item → Option Item
kept_item conn None = None
kept_item conn (Some i) = if i.connection == conn then None else Some i

abbrev pub left_at : ℕ → ℕ → Option Item → Option ℕ → Option ℕ
left_at conn now None left = left
left_at conn now (Some i) left = if accepts_on conn i then Some now else left

abbrev pub kept_pending : ℕ → ℕ → Option PendingRecord → Option PendingRecord
kept_pending conn now None = None
kept_pending conn now (Some p) =
    Some (record p { item = kept_item conn p.item; left = left_at conn now p.item p.left })

-- the end of a connection drops its items, that of the record that pends too
abbrev pub without_items : ℕ → ℕ → Worker → Worker
without_items conn now w =
    record w
    { due = filter (λ (i : Item). not (i.connection == conn)) w.due; pending = kept_pending conn now w.pending }

abbrev pub without_bound : ℕ → ℕ → Worker → Worker
without_bound conn now w = without_items conn now (record w { connections = without_connection conn w.connections })

-- The session of a connection that ends parts, unless another connection is bound to it or will be: a takeover owes
-- nothing, by whatever move the old connection goes.
abbrev pub owed_by_end : List ℕ → ℕ → ℕ → Option PlainSession → Option ℕ → Worker → Worker
owed_by_end client number now m expiry w =
    record w { owed = w.owed ++ parting_unless (is_attended client number w) now m expiry }

-- the CONNECT that is in, of a connection that isn't bound
abbrev pub accept_dropped : ℕ → ℕ → Option Item → Worker → Worker
accept_dropped conn now None w = without_items conn now w
accept_dropped conn now (Some i) w =
    elim (i.answer) as (λ a. Worker) [
      | Answers rs effects ↦ without_items conn now w
      | Accepts c client number rs ↦ owed_by_end client number now (session_at client number w) None
          (without_items conn now w)
      | Delivers b moment fresh ↦ without_items conn now w
    ]

-- a connection that isn't bound and has a CONNECT under way
abbrev pub has_connect : ℕ → Worker → Bool
has_connect conn w = awaits_connack conn w || list_any (accepts_on conn) (pending_item w.pending)

abbrev pub unbound_if : Bool → ℕ → ℕ → Worker → Worker
unbound_if true conn now w = accept_dropped conn now (find (accepts_on conn) w.due) w
unbound_if false conn now w = w

abbrev pub unbound_from : ℕ → Ending → ℕ → Option PlainConnection → Worker → Worker
unbound_from conn ending now None w = unbound_if (has_connect conn w) conn now w
unbound_from conn ending now (Some k) w =
    owed_by_end k.client k.incarnation now (session_in w conn) ending.expiry (without_bound conn now w)

abbrev pub may_take_over : Worker → ℕ → Option PlainConnection → Bool
may_take_over w conn None = false
may_take_over w conn (Some k) = list_any (takes_over w k.client conn) w.due

-- a takeover owes nothing: the client goes on with another connection
abbrev pub taken_over_if : Bool → ℕ → Worker → Worker
taken_over_if true conn w = without_bound conn 0 w
taken_over_if false conn w = w

-- ---- the moves

module _ (profile : Profile) (config : Config) where
  abbrev pub worker_step : Worker → WorkerMove → Worker
  worker_step w (View shard list) = with_view shard list w
  worker_step w (BeginCommit cause now) = begun_unless w.pending (record_of (setting_of profile config now w) w cause) w
  worker_step w Commit = record_committed w.pending w
  worker_step w (Settle goes_in now) = record_settled (may_settle w w.pending) goes_in now w
  worker_step w (Stored shard a messages) = stored_if (has_asked a (connection_in w a.connection)) shard a messages w
  worker_step w (Emit (OfItem place) now) = emitted_if place now (item_at w place) w
  worker_step w (Emit (OfPacket conn packet outcomes) now) =
      step_emitted conn now
      (answered_step (setting_of profile config now w) w packet outcomes (connection_in w conn) (session_in w conn))
      w
  worker_step w (Emit (OfResend conn) now) =
      resend_emitted conn (connection_in w conn) (resent_for profile now w (connection_in w conn) (session_in w conn)) w
  worker_step w (Bind conn now) = bound_if conn now w.pending (find (accepts_on conn) w.due) (connection_in w conn) w
  worker_step w (TakeOver conn) = taken_over_if (may_take_over w conn (connection_in w conn)) conn w
  worker_step w (Unbind conn ending now) = unbound_from conn ending now (connection_in w conn) w

  -- ---- what they put out

  abbrev pub item_outs : Worker → Item → Option PlainConnection → List Out
  item_outs w i None = []
  item_outs w i (Some k) = sent_on k.number (answer_packets w k i.answer)

  abbrev pub emitted_outs : Worker → Option Item → List Out
  emitted_outs w None = []
  emitted_outs w (Some i) = item_outs w i (connection_in w i.connection)

  abbrev pub step_outs : Option PlainConnection → Option Step → List Out
  step_outs (Some k) (Some step) = sent_on k.number (reply_packets (sendable k.packet_limit step.replies))
  step_outs k step = []

  abbrev pub resend_outs : ℕ → Option Resent → List Out
  resend_outs conn None = []
  resend_outs conn (Some r) = sent_on conn (packets_with r.taken)

  abbrev pub disconnect : ℕ → PlainPacket
  disconnect reason = Disconnect (record { reason = reason; props = [] })

  abbrev pub disconnect_outs : ℕ → Option ℕ → List Out
  disconnect_outs conn None = []
  disconnect_outs conn (Some reason) = Sent conn (disconnect reason) ∷ []

  -- before its CONNACK a connection is told nothing
  abbrev pub farewell : Bool → ℕ → Option ℕ → List Out
  farewell true conn reason = []
  farewell false conn reason = disconnect_outs conn reason

  abbrev pub close_outs : ℕ → Bool → List Out
  close_outs conn true = Closed conn ∷ []
  close_outs conn false = []

  abbrev pub ending_outs : ℕ → Ending → Worker → Option PlainConnection → List Out
  ending_outs conn ending w None = close_outs conn (ending.by_server && has_connect conn w)
  ending_outs conn ending w (Some k) =
      farewell (awaits_connack conn w) conn ending.reason ++ close_outs conn ending.by_server

  abbrev pub takeover_outs : Bool → ℕ → Worker → List Out
  takeover_outs true conn w = farewell (awaits_connack conn w) conn (takeover_close conn).reason ++ Closed conn ∷ []
  takeover_outs false conn w = []

  abbrev pub worker_outs : Worker → WorkerMove → List Out
  worker_outs w (Emit (OfItem place) now) = emitted_outs w (item_at w place)
  worker_outs w (Emit (OfPacket conn packet outcomes) now) =
      step_outs (connection_in w conn)
      (answered_step (setting_of profile config now w) w packet outcomes (connection_in w conn) (session_in w conn))
  worker_outs w (Emit (OfResend conn) now) =
      resend_outs conn (resent_for profile now w (connection_in w conn) (session_in w conn))
  worker_outs w (TakeOver conn) = takeover_outs (may_take_over w conn (connection_in w conn)) conn w
  worker_outs w (Unbind conn ending now) = ending_outs conn ending w (connection_in w conn)
  worker_outs w other = []

  -- ---- the messages that they acknowledge, each with its shard

  abbrev pub answer_acks : ℕ → Answer → List (ℕ × StoredMessage)
  answer_acks limit (Answers rs effects) = acked_by (sendable limit rs)
  answer_acks limit other = []

  abbrev pub item_acks : Worker → Item → Option PlainConnection → List (ℕ × StoredMessage)
  item_acks w i None = []
  item_acks w i (Some k) = answer_acks k.packet_limit i.answer

  abbrev pub emitted_acks : Worker → Option Item → List (ℕ × StoredMessage)
  emitted_acks w None = []
  emitted_acks w (Some i) = item_acks w i (connection_in w i.connection)

  abbrev pub step_acks : Option PlainConnection → Option Step → List (ℕ × StoredMessage)
  step_acks (Some k) (Some step) = acked_by (sendable k.packet_limit step.replies)
  step_acks k step = []

  abbrev pub worker_acks : Worker → WorkerMove → List (ℕ × StoredMessage)
  worker_acks w (Emit (OfItem place) now) = emitted_acks w (item_at w place)
  worker_acks w (Emit (OfPacket conn packet outcomes) now) =
      step_acks (connection_in w conn)
      (answered_step (setting_of profile config now w) w packet outcomes (connection_in w conn) (session_in w conn))
  worker_acks w other = []

-- ---- a crash

-- No connections, the lists as they are stored, and what a restart owes; of what pended nothing is handed on.
abbrev pub restarted_worker : List ShardList → ℕ → Worker → Worker
restarted_worker lists now w =
    record w
    { owed = restart_owes now w.committed; connections = []; seen = lists; unviewed = []; pending = None; due = [] }

abbrev pub crashed_worker : List ShardList → ℕ → Bool → Worker → Worker
crashed_worker lists now goes_in w = restarted_worker lists now (record_resolved goes_in now w.pending w)
