-- What the replies of a worker acknowledge, of its items that are due, and of a record that pends: messages of which
-- something holds that holds of all that it has seen, and of the groups that it is handed.
use Rattle.std.proofs.Common.{◌≡◌, ℕ, suc, ◌+◌, Bool, true, false, ◌&&◌, List, [], ◌∷◌, ◌++◌, slice_get, Option, Some}
use Rattle.std.proofs.Common.{None, refl, subst}
use Rattle.std.proofs.lemmas.Option.{none-some, slice_get_within, get_or_from_slice_get}
use Rattle.std.specs.Prelude.{if◌then◌else◌, filter, not, is_none, ◌==◌, is_some, find, take, drop}
use Rattle.std.specs.List.{All, flat_map}
use Rattle.std.proofs.lemmas.List.Elements.{All-nil, All-cons, All-get_or, All-append, All-take, All-drop, All-filter}
use Rattle.std.proofs.lemmas.List.Elements.{All-map, All-weaker, All-head, All-tail}
use Rattle.topic_model.specs.Profile.{Profile, Config}
use Rattle.topic_model.specs.StoredMessage.{StoredMessage}
use Rattle.topic_model.specs.Places.{HasPlace}
use Rattle.shard_model.specs.ShardList.{ShardList, Awaited}
use Rattle.shard_model.specs.Storing.{is_message_of}
use Rattle.shard_model.specs.laws.PlaceLaws.{kept_place}
use Rattle.session_model.specs.PlainSession.{PlainSession, session_of}
use Rattle.session_model.specs.Change.{Change, Issues}
use Rattle.mqtt_packet.specs.declared.packet.AckKind.{AckKind}
use Rattle.mqtt_packet.specs.declared.packet.AckKind.TheVariants.{Puback, Pubrec, Pubrel, Pubcomp}
use Rattle.mqtt_packet.specs.Packet.{PlainPacket, Connect, Connack, Publish, Ack, Subscribe, Suback, Unsubscribe}
use Rattle.mqtt_packet.specs.Packet.{Unsuback, Pingreq, Pingresp, Disconnect, Auth, AckFields, PublishFields, ack}
use Rattle.mqtt_packet.specs.Packet.{ConnectFields}
use Rattle.turn_model.specs.PlainConnection.{PlainConnection, connection_of, without_connection}
use Rattle.turn_model.specs.Worker.{Worker, connection_in, Item, Answer, Answers, Accepts, Delivers, PendingRecord}
use Rattle.turn_model.specs.Worker.{session_in, setting_of, acked_by, is_short, sendable, with_acked}
use Rattle.turn_model.specs.WorkerMoves.{answered_step, has_view_for, may_answer, step_if, WorkerMove, Asker, Ending}
use Rattle.turn_model.specs.WorkerMoves.{accept_dropped, aged_answer, aged_item, aged_pending, answer_acks}
use Rattle.turn_model.specs.WorkerMoves.{bound_answer, bound_if, bound_with, crashed_worker, emitted_acks, emitted_if}
use Rattle.turn_model.specs.WorkerMoves.{front_message, has_connect, is_fresh, is_in_turn, is_publish_packet, item_acks}
use Rattle.turn_model.specs.WorkerMoves.{item_at, item_emitted, item_if, kept_item, kept_pending, may_take_over}
use Rattle.turn_model.specs.WorkerMoves.{resend_emitted, resent_for, step_acks, step_emitted, stored_answer, stored_if}
use Rattle.turn_model.specs.WorkerMoves.{stored_step, stored_steps, taken_over_if, unbound_from, unbound_if, with_view}
use Rattle.turn_model.specs.WorkerMoves.{without_items, worker_acks, worker_step}
use Rattle.turn_model.specs.Step.{Setting, Outcome, Kept, IsFull, AwaitsTooMany, Faulted, Reply, reply, replies, asking}
use Rattle.turn_model.specs.Step.{breaking, closing_silently, Step, is_nil, owes_nothing}
use Rattle.turn_model.specs.SessionStep.{Event, Planned, session_step}
use Rattle.turn_model.specs.PublishStep.{PublishCase, Closes, Repeats, Refuses, Asks, acked_replies, acknowledgement}
use Rattle.turn_model.specs.PublishStep.{completion_step, is_awaited, last_of, last_stored, publish_by_case}
use Rattle.turn_model.specs.PublishStep.{publish_case, publish_step, pubrel_step, release_group, repeat_step, shard_for}
use Rattle.turn_model.specs.PublishStep.{with_shard}
use Rattle.turn_model.specs.PacketStep.{ack_step, breaks_interval, event_step, interval_of, packet_step, puback_event}
use Rattle.turn_model.specs.PacketStep.{pubrec_event, step_unless, subscribe_event, unsubscribe_event, tick_step}
use Rattle.turn_model.specs.Resend.{pass_changes, Resent}
use Rattle.turn_model.specs.ConnectStep.{accepting, client_for, connect_refusal, connect_step, is_home, is_resumed_if}
use Rattle.turn_model.specs.ConnectStep.{session_number}
use Rattle.turn_model.specs.Records.{Cause, OfPackets, OfConnect, OfPump, OfTick, OfOwed, Stepped, awaits_connack}
use Rattle.turn_model.specs.Records.{connect_record, delivering, has_item, has_room, is_one, issued_change, item}
use Rattle.turn_model.specs.Records.{may_issue_if, not_stepped, owed_record, packets_record, pending_if, pending_of}
use Rattle.turn_model.specs.Records.{pump_record, record_of, stepped_all, stepped_by, tick_record, accepts_on}
use Rattle.turn_model.specs.Records.{begun_unless, handed_on, may_settle, moment_left, partings_owed, record_committed}
use Rattle.turn_model.specs.Records.{record_resolved, record_settled, session_at, with_record}
use Rattle.world_laws.specs.laws.GoesLaws.{is_of_itself}
use Rattle.turn_model.specs.WorkerMoves as Workers
use Rattle.turn_model.specs.Reasons as Reason
use Rattle.turn_model.specs.SessionStep as Session

-- ---- what is acknowledged

pub all_at : {A : Type 0} (P : A → Type 0) (xs : List A) (k : ℕ) (x : A) → All P xs → slice_get xs k ≡ Some x → P x
all_at P xs k x all e =
    subst P (get_or_from_slice_get xs k x x e) (All-get_or P xs k x (slice_get_within xs k x e) all)

-- the last of some messages is one of them
pub last_place : (ms : List StoredMessage) (m : StoredMessage) → last_of ms ≡ Some m → HasPlace ms m
last_place [] m e = absurd (none-some m e)
last_place (w ∷ []) m e = (0, e)
last_place (w ∷ v ∷ ws) m e = let rest = last_place (v ∷ ws) m e in (suc rest.0, rest.1)

-- the first outcome isn't that a group was stored
abbrev NoneKept : List Outcome → Type 0
NoneKept [] = Unit {0}
NoneKept (Kept acked ∷ outcomes) = ⊥
NoneKept (IsFull ∷ outcomes) = Unit {0}
NoneKept (AwaitsTooMany ∷ outcomes) = Unit {0}
NoneKept (Faulted ∷ outcomes) = Unit {0}

none_kept_if : (step : Step) (outcomes : List Outcome) → may_answer step outcomes ≡ true → NoneKept outcomes
none_kept_if step [] may = tt
none_kept_if step (Kept acked ∷ []) may = absurd cc
none_kept_if step (Kept acked ∷ other ∷ outcomes) may = absurd cc
none_kept_if step (IsFull ∷ outcomes) may = tt
none_kept_if step (AwaitsTooMany ∷ outcomes) may = tt
none_kept_if step (Faulted ∷ outcomes) may = tt

-- `Was` says something of a message with its shard.
module _ (Was : ℕ × StoredMessage → Type 0) where
  -- so of the message that is acknowledged, if one is
  abbrev pub AckWas : Option (ℕ × StoredMessage) → Type 0
  AckWas None = Unit {0}
  AckWas (Some x) = Was x

  -- of what a reply acknowledges
  abbrev pub ReplyWas : Reply → Type 0
  ReplyWas r = AckWas r.acked

  -- of all replies of an answer
  abbrev pub AnswerWas : Answer → Type 0
  AnswerWas (Answers rs effects) = All ReplyWas rs
  AnswerWas (Accepts c client number rs) = All ReplyWas rs
  AnswerWas (Delivers b moment fresh) = Unit {0}

  -- of the answer of an item, and of the item that a record hands on
  abbrev pub ItemWas : Item → Type 0
  ItemWas i = AnswerWas i.answer

  abbrev pub HandedWas : Option Item → Type 0
  HandedWas None = Unit {0}
  HandedWas (Some i) = ItemWas i

  -- of the item of the record that pends
  abbrev pub PendingWas : Option PendingRecord → Type 0
  PendingWas None = Unit {0}
  PendingWas (Some p) = HandedWas p.item

  -- of all that a worker has due, and of what pends
  abbrev pub AnswersWere : Worker → Type 0
  AnswersWere k = All ItemWas k.due × PendingWas k.pending

  -- of each message of the lists that are seen
  abbrev pub SeenWere : List ShardList → Type 0
  SeenWere seen =
      (shard : ℕ) (list : ShardList) → slice_get seen shard ≡ Some list → (m : StoredMessage) →
      HasPlace list.messages m → Was (shard, m)

  -- of all replies of a step
  abbrev StepWas : Option Step → Type 0
  StepWas None = Unit {0}
  StepWas (Some step) = All ReplyWas step.replies

  -- ---- the replies of a step

  -- the first reply acknowledges the message, and the others nothing
  acked_were : (packets : List PlainPacket) (acked : Option (ℕ × StoredMessage)) → AckWas acked →
      All ReplyWas (acked_replies packets acked)
  acked_were [] acked was = All-nil ReplyWas
  acked_were (packet ∷ packets) acked was =
      All-cons ReplyWas (record { packet = packet; acked = acked }) (acked_replies packets None) was
      (acked_were packets None tt)

  replies_were : (packets : List PlainPacket) → All ReplyWas (replies packets)
  replies_were [] = All-nil ReplyWas
  replies_were (packet ∷ packets) = All-cons ReplyWas (reply packet) (replies packets) tt (replies_were packets)

  module _ (s : Setting) (seen : SeenWere s.seen) where
    last_was : (m : PlainSession) (id shard : ℕ) (list : Option ShardList) → slice_get s.seen shard ≡ list →
        AckWas (with_shard shard (last_stored m id list))
    last_was m id shard None e = tt
    last_was m id shard (Some list) e = by (last_stored m id (Some list)) refl
      where
        a : Awaited
        a = record { publisher = m.client; incarnation = m.incarnation; id = id }

        by : (found : Option StoredMessage) → last_stored m id (Some list) ≡ found → AckWas (with_shard shard found)
        by None is = tt
        by (Some x) is =
            let there = last_place (filter (is_message_of a) list.messages) x is in
            seen shard list e x (kept_place (is_message_of a) list.messages there.0 x there.1).0

    -- a publish that comes again acknowledges a message of the list that is seen
    repeat_were : (m : PlainSession) (p : PublishFields) → All ReplyWas (repeat_step s m p).replies
    repeat_were m p =
        acked_were (acknowledgement p Reason.success)
        (with_shard (shard_for s m) (last_stored m p.id (slice_get s.seen (shard_for s m))))
        (last_was m p.id (shard_for s m) (slice_get s.seen (shard_for s m)) refl)

    case_were : (k : PlainConnection) (m : PlainSession) (p : PublishFields) (c : PublishCase) →
        All ReplyWas (publish_by_case s k m p c).replies
    case_were k m p (Closes reason rule) = All-nil ReplyWas
    case_were k m p Repeats = repeat_were m p
    case_were k m p (Refuses reason) = acked_were (acknowledgement p reason) None tt
    case_were k m p Asks = All-nil ReplyWas

    publish_were : (k : PlainConnection) (m : PlainSession) (p : PublishFields) (outcomes : List Outcome) →
        NoneKept outcomes → All ReplyWas (publish_step s k m p outcomes).replies
    publish_were k m p [] none = case_were k m p (publish_case s k.held m p)
    publish_were k m p (Kept acked ∷ outcomes) none = absurd none
    publish_were k m p (IsFull ∷ outcomes) none = acked_were (acknowledgement p Reason.quota_exceeded) None tt
    publish_were k m p (AwaitsTooMany ∷ outcomes) none = acked_were (acknowledgement p Reason.quota_exceeded) None tt
    publish_were k m p (Faulted ∷ outcomes) none = All-nil ReplyWas

    completion_were : (id reason : ℕ) → All ReplyWas (completion_step id reason).replies
    completion_were id reason = replies_were (ack Pubcomp id reason [] ∷ [])

    pubrel_were : (k : PlainConnection) (m : PlainSession) (id : ℕ) (outcomes : List Outcome) →
        All ReplyWas (pubrel_step s k m id outcomes).replies
    pubrel_were k m id [] = by (is_awaited s m id)
      where
        by : (b : Bool) → All ReplyWas
            (if b then asking (release_group s m id) else completion_step id Reason.no_packet_identifier).replies
        by true = All-nil ReplyWas
        by false = completion_were id Reason.no_packet_identifier
    pubrel_were k m id (Kept acked ∷ outcomes) = completion_were id Reason.success
    pubrel_were k m id (IsFull ∷ outcomes) = All-nil ReplyWas
    pubrel_were k m id (AwaitsTooMany ∷ outcomes) = All-nil ReplyWas
    pubrel_were k m id (Faulted ∷ outcomes) = All-nil ReplyWas

    planned_were : (close : Option ℕ) (conn : ℕ) (p : Planned) → All ReplyWas (step_unless close conn p).replies
    planned_were (Some reason) conn p = All-nil ReplyWas
    planned_were None conn p = replies_were p.replies

    event_were : (k : PlainConnection) (m : PlainSession) (event : Event) →
        All ReplyWas (event_step s k m event).replies
    event_were k m event =
        planned_were (session_step s.profile m event).close k.number (session_step s.profile m event)

    ack_were : (k : PlainConnection) (m : PlainSession) (kind : AckKind) (a : AckFields) (outcomes : List Outcome) →
        All ReplyWas (ack_step s k m kind a outcomes).replies
    ack_were k m Puback a outcomes = event_were k m (puback_event k m a)
    ack_were k m Pubrec a outcomes = event_were k m (pubrec_event k m a)
    ack_were k m Pubrel a outcomes = pubrel_were k m a.id outcomes
    ack_were k m Pubcomp a outcomes = event_were k m (Session.Pubcomp a.id)

    disconnect_were : (k : PlainConnection) (b : Bool) →
        All ReplyWas (if b then breaking k.number Reason.rule_interval_from_0 else closing_silently k.number 0).replies
    disconnect_were k true = All-nil ReplyWas
    disconnect_were k false = All-nil ReplyWas

    -- a packet that asks for a group, or whose group was refused, acknowledges nothing else
    packet_were : (k : PlainConnection) (m : PlainSession) (packet : PlainPacket) (outcomes : List Outcome) →
        NoneKept outcomes → All ReplyWas (packet_step s k m packet outcomes).replies
    packet_were k m (Connect c) outcomes none = All-nil ReplyWas
    packet_were k m (Connack c) outcomes none = All-nil ReplyWas
    packet_were k m (Publish p) outcomes none = publish_were k m p outcomes none
    packet_were k m (Ack kind a) outcomes none = ack_were k m kind a outcomes
    packet_were k m (Subscribe f) outcomes none = event_were k m (subscribe_event s f)
    packet_were k m (Suback a) outcomes none = All-nil ReplyWas
    packet_were k m (Unsubscribe f) outcomes none = event_were k m (unsubscribe_event f)
    packet_were k m (Unsuback a) outcomes none = All-nil ReplyWas
    packet_were k m Pingreq outcomes none = replies_were (Pingresp ∷ [])
    packet_were k m Pingresp outcomes none = All-nil ReplyWas
    packet_were k m (Disconnect d) outcomes none = disconnect_were k (breaks_interval m (interval_of d))
    packet_were k m (Auth a) outcomes none = All-nil ReplyWas

    -- ---- the record of a cause

    stepped_were : (k : PlainConnection) (packets : List PlainPacket) (st : Stepped) → All ReplyWas st.replies →
        All ReplyWas (stepped_all s k packets st).replies
    stepped_were k [] st were = were
    stepped_were k (packet ∷ packets) st were =
        stepped_were k packets (stepped_by (packet_step s k st.session packet []) st)
        (All-append ReplyWas st.replies (packet_step s k st.session packet []).replies were
        (packet_were k st.session packet [] tt))

    pending_were : (b : Bool) (w : Worker) (changes : List Change) (i : Option Item) → HandedWas i →
        PendingWas (pending_if b w changes i)
    pending_were true w changes i was = was
    pending_were false w changes i was = tt

    pending_of_were : (profile : Profile) (w : Worker) (allowed of_one : Bool) (changes : List Change)
        (i : Option Item) → HandedWas i → PendingWas (pending_of profile w allowed of_one changes i)
    pending_of_were profile w allowed of_one changes i was =
        pending_were (allowed && (not (is_nil changes) && has_room profile w of_one changes)) w changes i was

    packets_were : (w : Worker) (conn : ℕ) (packets : List PlainPacket) (k : Option PlainConnection)
        (m : Option PlainSession) → PendingWas (packets_record s w conn packets k m)
    packets_were w conn packets (Some k) (Some m) =
        let st = stepped_all s k packets (not_stepped m) in
        pending_of_were s.profile w st.settled (is_one packets) st.changes
        (Some (item conn (Answers st.replies st.effects)))
        (stepped_were k packets (not_stepped m) (All-nil ReplyWas))
    packets_were w conn packets (Some k) None = tt
    packets_were w conn packets None (Some m) = tt
    packets_were w conn packets None None = tt

    connect_were : (w : Worker) (conn : ℕ) (c : ConnectFields) →
        PendingWas (connect_record s w conn c (connect_step s c))
    connect_were w conn c =
        pending_of_were s.profile w
        (is_none (connection_in w conn)
        && (not (has_item conn w.due) && (is_none (connect_refusal s c) && is_home s (client_for s c))))
        true (connect_step s c).changes
        (Some (item conn (Accepts c (client_for s c) (session_number s c) (connect_step s c).replies)))
        (replies_were
        (accepting s c (client_for s c) (is_resumed_if s c (session_of (client_for s c) s.sessions)) ∷ []))

    delivering_was : (conn now : ℕ) (b : Option Issues) → HandedWas (delivering conn now b)
    delivering_was conn now None = tt
    delivering_was conn now (Some b) = tt

    pump_were : (w : Worker) (conn : ℕ) (b : Option Issues) (k : Option PlainConnection) (m : Option PlainSession) →
        PendingWas (pump_record s w conn b k m)
    pump_were w conn b (Some k) (Some m) =
        pending_of_were s.profile w (may_issue_if s w m k b) true (issued_change m b ++ pass_changes m k)
        (delivering conn s.now b) (delivering_was conn s.now b)
    pump_were w conn b (Some k) None = tt
    pump_were w conn b None (Some m) = tt
    pump_were w conn b None None = tt

    tick_were : (w : Worker) (changes : List Change) → PendingWas (tick_record s w changes)
    tick_were w [] = tt
    tick_were w (c ∷ changes) = tt

    owed_were : (w : Worker) (changes : List Change) → PendingWas (owed_record s.profile w changes)
    owed_were w [] = tt
    owed_were w (c ∷ changes) = tt

    record_were : (w : Worker) (cause : Cause) → PendingWas (record_of s w cause)
    record_were w (OfPackets conn packets) = packets_were w conn packets (connection_in w conn) (session_in w conn)
    record_were w (OfConnect conn c) = connect_were w conn c
    record_were w (OfPump conn b) = pump_were w conn b (connection_in w conn) (session_in w conn)
    record_were w OfTick = tick_were w (tick_step s.now s.connections s.sessions).changes
    record_were w OfOwed = owed_were w w.owed

    -- ---- the answer of a packet that owes nothing

    step_if_was : (step : Step) (a b c d : Bool) → (c ≡ true → All ReplyWas step.replies) →
        StepWas (step_if (a && (b && (c && d))) step)
    step_if_was step false b c d was = tt
    step_if_was step true false c d was = tt
    step_if_was step true true false d was = tt
    step_if_was step true true true false was = tt
    step_if_was step true true true true was = was refl

    answered_was : (w : Worker) (packet : PlainPacket) (outcomes : List Outcome) (k : Option PlainConnection)
        (m : Option PlainSession) → StepWas (answered_step s w packet outcomes k m)
    answered_was w packet outcomes (Some k) (Some m) =
        step_if_was (packet_step s k m packet outcomes) (has_view_for s w m packet) (not (awaits_connack k.number w))
        (may_answer (packet_step s k m packet []) outcomes) (owes_nothing (packet_step s k m packet outcomes))
        (λ may. packet_were k m packet outcomes (none_kept_if (packet_step s k m packet []) outcomes may))
    answered_was w packet outcomes (Some k) None = tt
    answered_was w packet outcomes None (Some m) = tt
    answered_was w packet outcomes None None = tt

  -- ---- what a worker has due, and what pends

  begun_were : (pending asked : Option PendingRecord) (k : Worker) → PendingWas asked → AnswersWere k →
      AnswersWere (begun_unless pending asked k)
  begun_were None (Some p) k was were = (were.0, was)
  begun_were None None k was were = were
  begun_were (Some p) asked k was were = were

  handed_were : (i : Option Item) (k : Worker) → HandedWas i → AnswersWere k → AnswersWere (handed_on i k)
  handed_were None k was were = were
  handed_were (Some i) k was were =
      (All-append ItemWas k.due (i ∷ []) were.0 (All-cons ItemWas i [] was (All-nil ItemWas)), were.1)

  partings_were : (left : Option ℕ) (p : PendingRecord) (k : Worker) → AnswersWere k →
      AnswersWere (partings_owed left p k)
  partings_were None p k were = were
  partings_were (Some moment) p k were = were

  committed_were : (pending : Option PendingRecord) (k : Worker) → PendingWas pending → AnswersWere k →
      AnswersWere (record_committed pending k)
  committed_were None k was were = were
  committed_were (Some p) k was were =
      handed_were p.item (partings_owed p.left p (with_record p k)) was
      (partings_were p.left p (with_record p k) (were.0, tt))

  resolved_were : (goes_in : Bool) (now : ℕ) (pending : Option PendingRecord) (k : Worker) → AnswersWere k →
      AnswersWere (record_resolved goes_in now pending k)
  resolved_were goes_in now None k were = were
  resolved_were true now (Some p) k were = partings_were (moment_left now p.left) p (with_record p k) (were.0, tt)
  resolved_were false now (Some p) k were = (were.0, tt)

  settled_were : (b goes_in : Bool) (now : ℕ) (k : Worker) → AnswersWere k →
      AnswersWere (record_settled b goes_in now k)
  settled_were true goes_in now k were = resolved_were goes_in now k.pending k were
  settled_were false goes_in now k were = were

  item_emitted_were : (place now : ℕ) (i : Item) (c : Option PlainConnection) (k : Worker) → AnswersWere k →
      AnswersWere (item_emitted place now i c k)
  item_emitted_were place now i None k were = were
  item_emitted_were place now i (Some c) k were = (
    All-append ItemWas (take place k.due) (drop (place + 1) k.due) (All-take ItemWas place k.due were.0)
        (All-drop ItemWas (place + 1) k.due were.0),
    were.1,
  )

  emitted_were : (place now : ℕ) (i : Option Item) (k : Worker) → AnswersWere k →
      AnswersWere (emitted_if place now i k)
  emitted_were place now None k were = were
  emitted_were place now (Some i) k were = item_emitted_were place now i (connection_in k i.connection) k were

  step_emitted_were : (conn now : ℕ) (step : Option Step) (k : Worker) → AnswersWere k →
      AnswersWere (step_emitted conn now step k)
  step_emitted_were conn now None k were = were
  step_emitted_were conn now (Some step) k were = were

  resend_were : (conn : ℕ) (c : Option PlainConnection) (r : Option Resent) (k : Worker) → AnswersWere k →
      AnswersWere (resend_emitted conn c r k)
  resend_were conn (Some c) (Some r) k were = were
  resend_were conn (Some c) None k were = were
  resend_were conn None (Some r) k were = were
  resend_were conn None None k were = were

  -- ---- Bind, TakeOver and Unbind

  kept_item_was : (conn : ℕ) (i : Option Item) → HandedWas i → HandedWas (kept_item conn i)
  kept_item_was conn None was = tt
  kept_item_was conn (Some i) was = by (i.connection == conn)
    where
      by : (b : Bool) → HandedWas (if b then None else Some i)
      by true = tt
      by false = was

  kept_pending_was : (conn now : ℕ) (pending : Option PendingRecord) → PendingWas pending →
      PendingWas (kept_pending conn now pending)
  kept_pending_was conn now None was = tt
  kept_pending_was conn now (Some p) was = kept_item_was conn p.item was

  without_were : (conn now : ℕ) (k : Worker) → AnswersWere k → AnswersWere (without_items conn now k)
  without_were conn now k were = (
    All-filter (λ (i : Item). not (i.connection == conn)) ItemWas k.due were.0,
    kept_pending_was conn now k.pending were.1,
  )

  module _ (conn now : ℕ) where
    bound_with_were : (c : ConnectFields) (other : Option PlainConnection) (m : Option PlainSession) (k : Worker) →
        AnswersWere k → AnswersWere (bound_with conn c now other m k)
    bound_with_were c None (Some m) k were = were
    bound_with_were c None None k were = were
    bound_with_were c (Some other) (Some m) k were = were
    bound_with_were c (Some other) None k were = were

    bound_answer_were : (answer : Answer) (k : Worker) → AnswersWere k → AnswersWere (bound_answer conn now answer k)
    bound_answer_were (Answers rs effects) k were = were
    bound_answer_were (Accepts c client number rs) k were =
        bound_with_were c (connection_of client k.connections) (session_at client number k) k were
    bound_answer_were (Delivers b moment fresh) k were = were

    bound_were : (p : Option PendingRecord) (i : Option Item) (c : Option PlainConnection) (k : Worker) →
        AnswersWere k → AnswersWere (bound_if conn now p i c k)
    bound_were None (Some i) None k were = bound_answer_were i.answer k were
    bound_were None (Some i) (Some c) k were = were
    bound_were None None None k were = were
    bound_were None None (Some c) k were = were
    bound_were (Some p) (Some i) None k were = were
    bound_were (Some p) (Some i) (Some c) k were = were
    bound_were (Some p) None None k were = were
    bound_were (Some p) None (Some c) k were = were

    dropped_answer_were : (answer : Answer) (i : Item) (k : Worker) → i.answer ≡ answer → AnswersWere k →
        AnswersWere (accept_dropped conn now (Some i) k)
    dropped_answer_were (Answers rs effects) i k e were = rw e (without_were conn now k were)
    dropped_answer_were (Accepts c client number rs) i k e were = rw e (without_were conn now k were)
    dropped_answer_were (Delivers b moment fresh) i k e were = rw e (without_were conn now k were)

    dropped_were : (i : Option Item) (k : Worker) → AnswersWere k → AnswersWere (accept_dropped conn now i k)
    dropped_were None k were = without_were conn now k were
    dropped_were (Some i) k were = dropped_answer_were i.answer i k refl were

    unbound_if_were : (b : Bool) (k : Worker) → AnswersWere k → AnswersWere (unbound_if b conn now k)
    unbound_if_were true k were = dropped_were (find (accepts_on conn) k.due) k were
    unbound_if_were false k were = were

    unbound_were : (ending : Ending) (c : Option PlainConnection) (k : Worker) → AnswersWere k →
        AnswersWere (unbound_from conn ending now c k)
    unbound_were ending None k were = unbound_if_were (has_connect conn k) k were
    unbound_were ending (Some c) k were =
        without_were conn now (record k { connections = without_connection conn k.connections }) were

  taken_over_were : (b : Bool) (conn : ℕ) (k : Worker) → AnswersWere k → AnswersWere (taken_over_if b conn k)
  taken_over_were true conn k were =
      without_were conn 0 (record k { connections = without_connection conn k.connections }) were
  taken_over_were false conn k were = were

  -- ---- View, a stored group, and a crash

  aged_answer_was : (answer : Answer) → AnswerWas answer → AnswerWas (aged_answer answer)
  aged_answer_was (Answers rs effects) was = was
  aged_answer_was (Accepts c client number rs) was = was
  aged_answer_was (Delivers b moment fresh) was = tt

  aged_item_was : (i : Option Item) → HandedWas i →
      HandedWas (elim (i) as (λ i. Option Item) [ None ↦ None | Some i ↦ Some (aged_item i) ])
  aged_item_was None was = tt
  aged_item_was (Some i) was = aged_answer_was i.answer was

  aged_pending_was : (pending : Option PendingRecord) → PendingWas pending → PendingWas (aged_pending pending)
  aged_pending_was None was = tt
  aged_pending_was (Some p) was = aged_item_was p.item was

  pub view_were : (shard : ℕ) (list : ShardList) (k : Worker) → AnswersWere k → AnswersWere (with_view shard list k)
  view_were shard list k were = (
    All-map ItemWas aged_item k.due
        (All-weaker ItemWas (λ (i : Item). ItemWas (aged_item i)) (λ i was. aged_answer_was i.answer was) k.due were.0),
    aged_pending_was k.pending were.1,
  )

  -- the messages that stand for the publishes of a group
  abbrev pub MessagesWere : ℕ → List (Option StoredMessage) → Type 0
  MessagesWere shard messages = All (λ (m : Option StoredMessage). AckWas (with_shard shard m)) messages

  front_was : (shard : ℕ) (messages : List (Option StoredMessage)) → MessagesWere shard messages →
      AckWas (with_shard shard (front_message messages))
  front_was shard [] were = tt
  front_was shard (m ∷ messages) were =
      All-head (λ (x : Option StoredMessage). AckWas (with_shard shard x)) m messages were

  behind_were : (shard : ℕ) (b : Bool) (messages : List (Option StoredMessage)) → MessagesWere shard messages →
      MessagesWere shard (if b then drop 1 messages else messages)
  behind_were shard true messages were =
      All-drop (λ (x : Option StoredMessage). AckWas (with_shard shard x)) 1 messages were
  behind_were shard false messages were = were

  stored_step_was : (packet : PlainPacket) (acked : Option (ℕ × StoredMessage)) → AckWas acked →
      All ReplyWas (stored_step packet acked).replies
  stored_step_was (Connect c) acked was = All-nil ReplyWas
  stored_step_was (Connack c) acked was = All-nil ReplyWas
  stored_step_was (Publish p) acked was = acked_were (acknowledgement p Reason.success) acked was
  stored_step_was (Ack kind a) acked was = replies_were (ack Pubcomp a.id Reason.success [] ∷ [])
  stored_step_was (Subscribe f) acked was = All-nil ReplyWas
  stored_step_was (Suback a) acked was = All-nil ReplyWas
  stored_step_was (Unsubscribe f) acked was = All-nil ReplyWas
  stored_step_was (Unsuback a) acked was = All-nil ReplyWas
  stored_step_was Pingreq acked was = All-nil ReplyWas
  stored_step_was Pingresp acked was = All-nil ReplyWas
  stored_step_was (Disconnect d) acked was = All-nil ReplyWas
  stored_step_was (Auth a) acked was = All-nil ReplyWas

  stored_steps_were : (shard : ℕ) (packets : List PlainPacket) (messages : List (Option StoredMessage)) →
      MessagesWere shard messages →
      All ReplyWas (flat_map (λ (step : Step). step.replies) (stored_steps shard packets messages))
  stored_steps_were shard [] messages were = All-nil ReplyWas
  stored_steps_were shard (packet ∷ packets) messages were =
      let later = if is_publish_packet packet then drop 1 messages else messages in
      All-append ReplyWas (stored_step packet (with_shard shard (front_message messages))).replies
      (flat_map (λ (step : Step). step.replies) (stored_steps shard packets later))
      (stored_step_was packet (with_shard shard (front_message messages)) (front_was shard messages were))
      (stored_steps_were shard packets later (behind_were shard (is_publish_packet packet) messages were))

  pub stored_were : (b : Bool) (shard : ℕ) (a : Asker) (messages : List (Option StoredMessage)) (k : Worker) →
      MessagesWere shard messages → AnswersWere k → AnswersWere (stored_if b shard a messages k)
  stored_were true shard a messages k these were =
      handed_were (Some (item a.connection (stored_answer (stored_steps shard a.packets messages))))
      (record k { unviewed = k.unviewed ++ shard ∷ [] }) (stored_steps_were shard a.packets messages these) were
  stored_were false shard a messages k these were = were

  pub crash_were : (lists : List ShardList) (now : ℕ) (goes_in : Bool) (k : Worker) →
      AnswersWere (crashed_worker lists now goes_in k)
  crash_were lists now goes_in k = (All-nil ItemWas, tt)

  -- ---- a move of its own

  module _ (profile : Profile) (config : Config) where
    pub step_were : (k : Worker) (move : WorkerMove) → is_of_itself move ≡ true → SeenWere k.seen → AnswersWere k →
        AnswersWere (worker_step profile config k move)
    step_were k (Workers.View shard list) own seen were = view_were shard list k were
    step_were k (Workers.BeginCommit cause now) own seen were =
        begun_were k.pending (record_of (setting_of profile config now k) k cause) k
        (record_were (setting_of profile config now k) seen k cause) were
    step_were k Workers.Commit own seen were = committed_were k.pending k were.1 were
    step_were k (Workers.Settle goes_in now) own seen were =
        settled_were (may_settle k k.pending) goes_in now k were
    step_were k (Workers.Stored shard a messages) own seen were = absurd cc
    step_were k (Workers.Emit (Workers.OfItem place) now) own seen were =
        emitted_were place now (item_at k place) k were
    step_were k (Workers.Emit (Workers.OfPacket conn packet outcomes) now) own seen were =
        step_emitted_were conn now
        (answered_step (setting_of profile config now k) k packet outcomes (connection_in k conn) (session_in k conn)) k
        were
    step_were k (Workers.Emit (Workers.OfResend conn) now) own seen were =
        resend_were conn (connection_in k conn)
        (resent_for profile now k (connection_in k conn) (session_in k conn)) k were
    step_were k (Workers.Bind conn now) own seen were =
        bound_were conn now k.pending (find (accepts_on conn) k.due) (connection_in k conn) k were
    step_were k (Workers.TakeOver conn) own seen were =
        taken_over_were (may_take_over k conn (connection_in k conn)) conn k were
    step_were k (Workers.Unbind conn ending now) own seen were =
        unbound_were conn now ending (connection_in k conn) k were

    -- ---- what it acknowledges

    sendable_were : (limit : ℕ) (rs : List Reply) → All ReplyWas rs → All ReplyWas (sendable limit rs)
    sendable_were limit [] were = were
    sendable_were limit (r ∷ rs) were =
        by (is_short limit r) (sendable_were limit rs (All-tail ReplyWas r rs were))
      where
        by : (b : Bool) → All ReplyWas (sendable limit rs) →
            All ReplyWas (elim (b) as (λ short. List Reply) [ true ↦ r ∷ sendable limit rs | false ↦ [] ])
        by true rest = All-cons ReplyWas r (sendable limit rs) (All-head ReplyWas r rs were) rest
        by false rest = All-nil ReplyWas

    with_acked_were : (acked : Option (ℕ × StoredMessage)) (later : List (ℕ × StoredMessage)) → AckWas acked →
        All Was later → All Was (with_acked acked later)
    with_acked_were None later was were = were
    with_acked_were (Some x) later was were = All-cons Was x later was were

    acked_by_were : (rs : List Reply) → All ReplyWas rs → All Was (acked_by rs)
    acked_by_were [] were = All-nil Was
    acked_by_were (r ∷ rs) were =
        with_acked_were r.acked (acked_by rs) (All-head ReplyWas r rs were)
        (acked_by_were rs (All-tail ReplyWas r rs were))

    sent_were : (limit : ℕ) (rs : List Reply) → All ReplyWas rs → All Was (acked_by (sendable limit rs))
    sent_were limit rs were = acked_by_were (sendable limit rs) (sendable_were limit rs were)

    answer_acks_were : (limit : ℕ) (answer : Answer) → AnswerWas answer →
        All Was (answer_acks profile config limit answer)
    answer_acks_were limit (Answers rs effects) was = sent_were limit rs was
    answer_acks_were limit (Accepts c client number rs) was = All-nil Was
    answer_acks_were limit (Delivers b moment fresh) was = All-nil Was

    item_acks_were : (k : Worker) (i : Item) (c : Option PlainConnection) → ItemWas i →
        All Was (item_acks profile config k i c)
    item_acks_were k i None was = All-nil Was
    item_acks_were k i (Some c) was = answer_acks_were c.packet_limit i.answer was

    emitted_acks_were : (k : Worker) (i : Option Item) → HandedWas i → All Was (emitted_acks profile config k i)
    emitted_acks_were k None was = All-nil Was
    emitted_acks_were k (Some i) was = item_acks_were k i (connection_in k i.connection) was

    step_acks_were : (c : Option PlainConnection) (step : Option Step) → StepWas step →
        All Was (step_acks profile config c step)
    step_acks_were (Some c) (Some step) was = sent_were c.packet_limit step.replies was
    step_acks_were (Some c) None was = All-nil Was
    step_acks_were None (Some step) was = All-nil Was
    step_acks_were None None was = All-nil Was

    item_if_was : (k : Worker) (i : Option Item) → HandedWas i → HandedWas (item_if k i)
    item_if_was k None was = tt
    item_if_was k (Some i) was =
        by (is_some (connection_in k i.connection) && (is_fresh i.answer && is_in_turn k i))
      where
        by : (b : Bool) → HandedWas (if b then Some i else None)
        by true = was
        by false = tt

    due_was : (k : Worker) (place : ℕ) (i : Option Item) → slice_get k.due place ≡ i → All ItemWas k.due → HandedWas i
    due_was k place None e were = tt
    due_was k place (Some i) e were = all_at ItemWas k.due place i were e

    pub acks_were : (k : Worker) (move : WorkerMove) → SeenWere k.seen → AnswersWere k →
        All Was (worker_acks profile config k move)
    acks_were k (Workers.View shard list) seen were = All-nil Was
    acks_were k (Workers.BeginCommit cause now) seen were = All-nil Was
    acks_were k Workers.Commit seen were = All-nil Was
    acks_were k (Workers.Settle goes_in now) seen were = All-nil Was
    acks_were k (Workers.Stored shard a messages) seen were = All-nil Was
    acks_were k (Workers.Emit (Workers.OfItem place) now) seen were =
        emitted_acks_were k (item_at k place)
        (item_if_was k (slice_get k.due place) (due_was k place (slice_get k.due place) refl were.0))
    acks_were k (Workers.Emit (Workers.OfPacket conn packet outcomes) now) seen were =
        step_acks_were (connection_in k conn)
        (answered_step (setting_of profile config now k) k packet outcomes (connection_in k conn) (session_in k conn))
        (answered_was (setting_of profile config now k) seen k packet outcomes (connection_in k conn)
        (session_in k conn))
    acks_were k (Workers.Emit (Workers.OfResend conn) now) seen were = All-nil Was
    acks_were k (Workers.Bind conn now) seen were = All-nil Was
    acks_were k (Workers.TakeOver conn) seen were = All-nil Was
    acks_were k (Workers.Unbind conn ending now) seen were = All-nil Was

-- ---- what is said of more

-- what is said of each message of which another thing is said
ack_weaker : (P Q : ℕ × StoredMessage → Type 0) → ((x : ℕ × StoredMessage) → P x → Q x) →
    (acked : Option (ℕ × StoredMessage)) → AckWas P acked → AckWas Q acked
ack_weaker P Q so None was = tt
ack_weaker P Q so (Some x) was = so x was

module _ (P Q : ℕ × StoredMessage → Type 0) (so : (x : ℕ × StoredMessage) → P x → Q x) where
  replies_weaker : (rs : List Reply) → All (ReplyWas P) rs → All (ReplyWas Q) rs
  replies_weaker rs were =
      All-weaker (ReplyWas P) (ReplyWas Q) (λ r was. ack_weaker P Q so r.acked was) rs were

  answer_weaker : (answer : Answer) → AnswerWas P answer → AnswerWas Q answer
  answer_weaker (Answers rs effects) was = replies_weaker rs was
  answer_weaker (Accepts c client number rs) was = replies_weaker rs was
  answer_weaker (Delivers b moment fresh) was = tt

  handed_weaker : (i : Option Item) → HandedWas P i → HandedWas Q i
  handed_weaker None was = tt
  handed_weaker (Some i) was = answer_weaker i.answer was

  pending_weaker : (p : Option PendingRecord) → PendingWas P p → PendingWas Q p
  pending_weaker None was = tt
  pending_weaker (Some p) was = handed_weaker p.item was

  pub answers_weaker : (k : Worker) → AnswersWere P k → AnswersWere Q k
  answers_weaker k were = (
    All-weaker (ItemWas P) (ItemWas Q) (λ i was. answer_weaker i.answer was) k.due were.0,
    pending_weaker k.pending were.1,
  )
