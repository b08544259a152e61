-- A packet's step changes the session of its own client alone.
use Rattle.std.proofs.Common.{◌≡◌, ℕ, ◌+◌, Bool, true, false, List, [], ◌∷◌, ◌++◌, Option, Some, None, is_some, nat_le}
use Rattle.std.proofs.Common.{if◌then◌else◌, refl, ap, ◌∙◌}
use Rattle.std.specs.Str.{bytes_eq}
use Rattle.topic_model.specs.Profile.{Profile}
use Rattle.topic_model.specs.Texts.{filter_refusal}
use Rattle.mqtt_props.specs.Lookup.{first_of, var_in, or_default}
use Rattle.session_model.specs.PlainSession.{PlainSession, Subscription, Sessions, session_of}
use Rattle.session_model.specs.Change.{Change, Effect, Unsubscribed, Acked, Received, Done, change}
use Rattle.session_model.specs.Acting.{act_one, act_all}
use Rattle.session_model.specs.laws.OtherLaws.{keeps_client, other_stays}
use Rattle.mqtt_packet.specs.declared.packet.Wish.{Wish}
use Rattle.mqtt_packet.specs.declared.packet.AckKind.{AckKind}
use Rattle.mqtt_packet.specs.declared.packet.AckKind.TheVariants.{Puback, Pubrec, Pubrel, Pubcomp}
use Rattle.mqtt_packet.specs.Packet.{PlainPacket, Connect, Connack, Publish, Ack, Subscribe, Suback, Unsubscribe}
use Rattle.mqtt_packet.specs.Packet.{Unsuback, Pingreq, Pingresp, Disconnect, Auth, AckFields, PublishFields, EndFields}
use Rattle.turn_model.specs.PlainConnection.{PlainConnection}
use Rattle.turn_model.specs.SessionStep.{Planned, FilterAnswers, Acknowledging, Subscribing, no_filter_answers}
use Rattle.turn_model.specs.SessionStep.{filter_granted_or, filter_granted, live_with, filter_asked, filter_reason}
use Rattle.turn_model.specs.SessionStep.{filters_asked, ended_or_not, filter_ended, filters_ended, puback_of, pubrec_of}
use Rattle.turn_model.specs.SessionStep.{received_planned, pubcomp_of, with_id1, with_id2, is_next, is_failure}
use Rattle.turn_model.specs.SessionStep.{session_step, subscribe_planned, unsubscribe_planned}
use Rattle.turn_model.specs.SessionStep as Session
use Rattle.turn_model.specs.Reasons as Reason
use Rattle.turn_model.specs.Delivery.{qos_of}
use Rattle.turn_model.specs.Resend.{passed1, passed2}
use Rattle.turn_model.specs.Step.{Setting, Outcome, Kept, IsFull, AwaitsTooMany, Faulted, asking, breaking}
use Rattle.turn_model.specs.Step.{closing_silently}
use Rattle.turn_model.specs.PublishStep.{PublishCase, Closes, Repeats, Refuses, Asks, publish_case, publish_by_case}
use Rattle.turn_model.specs.PublishStep.{publish_by_outcome, publish_step, pubrel_step, is_awaited, release_group}
use Rattle.turn_model.specs.PublishStep.{completion_step}
use Rattle.turn_model.specs.PacketStep.{step_unless, planned_step, packet_step, ack_step, disconnect_step, puback_event}
use Rattle.turn_model.specs.PacketStep.{pubrec_event, breaks_interval, interval_of, passed_or_none, starts_of}
use Rattle.turn_model.specs.Step.{AreOf}

-- ---- changes of one client

of_both : (client : List ℕ) (xs ys : List Change) → AreOf client xs → AreOf client ys → AreOf client (xs ++ ys)
of_both client [] ys first second = second
of_both client (x ∷ xs) ys first second = (first.0, of_both client xs ys first.1 second)

-- the session of another client stays as it was
pub others_after : (sessions : Sessions) (client other : List ℕ) (changes : List Change) →
    bytes_eq client other ≡ false → AreOf client changes →
    session_of other (act_all sessions changes) ≡ session_of other sessions
others_after sessions client other [] differ are = refl
others_after sessions client other (c ∷ changes) differ are =
    others_after (act_one sessions c) client other changes differ are.1
    ∙ other_stays sessions c.client other c.effect (ap (λ its. bytes_eq its other) are.0 ∙ differ)

-- ---- SUBSCRIBE and UNSUBSCRIBE

-- the session is the client's, and so are the changes
abbrev IsOf : List ℕ → FilterAnswers → Type 0
IsOf client a = (a.session.client ≡ client) × AreOf client a.changes

module _ (client : List ℕ) where
  one_more : (effect : Effect) (reason : ℕ) (a : FilterAnswers) → IsOf client a →
      IsOf client (Session.with_filter_change effect reason a)
  one_more effect reason a is = (
    keeps_client effect a.session
        ∙ is.0,
    of_both client a.changes (change a.session.client effect ∷ []) is.1 (is.0, tt),
  )

  granted_or_is : (b : Bool) (effect : Effect) (options : ℕ) (a : FilterAnswers) → IsOf client a →
      IsOf client (filter_granted_or b effect options a)
  granted_or_is true effect options a is = one_more effect (qos_of options) a is
  granted_or_is false effect options a is = is

  granted_is : (profile : Profile) (s : Subscribing) (wish : Wish) (live : Option Subscription) (a : FilterAnswers) →
      IsOf client a → IsOf client (filter_granted profile s wish live a)
  granted_is profile s wish (Some live) a is =
      granted_or_is (Session.has_version_left a.session)
      (Session.replaced_in a.session live wish.options s.identifier) wish.options a is
  granted_is profile s wish None a is =
      granted_or_is (Session.has_subscription_place profile a.session wish.filter)
      (Session.subscribed_in a.session wish s.identifier s.starts) wish.options a is

  wished_with_is : (profile : Profile) (s : Subscribing) (wish : Wish) (reason : Option ℕ) (a : FilterAnswers) →
      IsOf client a → IsOf client (filter_asked profile s wish reason a)
  wished_with_is profile s wish (Some reason) a is = is
  wished_with_is profile s wish None a is = granted_is profile s wish (live_with wish.filter a.session) a is

  wished_is : (profile : Profile) (s : Subscribing) (place : ℕ) (wishes : List Wish) (a : FilterAnswers) →
      IsOf client a → IsOf client (filters_asked profile s place wishes a)
  wished_is profile s place [] a is = is
  wished_is profile s place (wish ∷ wishes) a is =
      wished_is profile s (place + 1) wishes (filter_asked profile s wish (filter_reason profile place wish.filter) a)
      (wished_with_is profile s wish (filter_reason profile place wish.filter) a is)

  ended_is : (found : Option Subscription) (a : FilterAnswers) → IsOf client a → IsOf client (ended_or_not found a)
  ended_is (Some s) a is = one_more (Unsubscribed s.number) Reason.success a is
  ended_is None a is = is

  unwished_is : (text : List ℕ) (a : FilterAnswers) → IsOf client a → IsOf client (filter_ended text a)
  unwished_is text a is = by (is_some (filter_refusal text))
    where
      by : (b : Bool) →
          IsOf client
          (if b then Session.with_filter_reason Reason.bad_filter a else ended_or_not (live_with text a.session) a)
      by true = is
      by false = ended_is (live_with text a.session) a is

  all_unwished_is : (texts : List (List ℕ)) (a : FilterAnswers) → IsOf client a → IsOf client (filters_ended texts a)
  all_unwished_is [] a is = is
  all_unwished_is (text ∷ texts) a is = all_unwished_is texts (filter_ended text a) (unwished_is text a is)

-- ---- PUBACK, PUBREC and PUBCOMP

puback_is : (m : PlainSession) (passed : ℕ) (found : Option ℕ) → AreOf m.client (puback_of m passed found).changes
puback_is m passed None = tt
puback_is m passed (Some number) = by (is_next m.acked passed number)
  where
    by : (b : Bool) →
        AreOf m.client
        (if b then Session.changing (change m.client (Acked number) ∷ [])
        else Session.planned_breach Reason.rule_out_of_order).changes
    by true = (refl, tt)
    by false = tt

received_is : (m : PlainSession) (a : Acknowledging) (number : ℕ) → AreOf m.client (received_planned m a number).changes
received_is m a number = by (is_failure a.reason)
  where
    by : (b : Bool) → AreOf m.client (if b
        then Session.changing (change m.client (Received number) ∷ change m.client (Done number) ∷ [])
        else Session.answering (change m.client (Received number) ∷ [])
        (Session.pubrel_of a.id Reason.success ∷ [])).changes
    by true = (refl, (refl, tt))
    by false = (refl, tt)

pubrec_is : (m : PlainSession) (a : Acknowledging) (found : Option ℕ) → AreOf m.client (pubrec_of m a found).changes
pubrec_is m a None = tt
pubrec_is m a (Some number) = by (nat_le number m.received) (is_next m.received a.passed number)
  where
    by : (b c : Bool) → AreOf m.client (if b then Session.answering [] (Session.pubrel_of a.id Reason.success ∷ [])
        else if c then received_planned m a number
        else Session.planned_breach Reason.rule_out_of_order).changes
    by true c = tt
    by false true = received_is m a number
    by false false = tt

pubcomp_is : (m : PlainSession) (found : Option ℕ) → AreOf m.client (pubcomp_of m found).changes
pubcomp_is m None = tt
pubcomp_is m (Some number) = by (nat_le number m.received)
  where
    by : (b : Bool) →
        AreOf m.client
        (if b then Session.changing (change m.client (Done number) ∷ [])
        else Session.planned_breach Reason.rule_not_received).changes
    by true = (refl, tt)
    by false = tt

-- ---- a packet

planned_is : (client : List ℕ) (conn : ℕ) (p : Planned) → AreOf client p.changes →
    AreOf client (planned_step conn p).changes
planned_is client conn p are = by p.close
  where
    by : (close : Option ℕ) → AreOf client (step_unless close conn p).changes
    by (Some reason) = tt
    by None = are

by_case_is : (s : Setting) (k : PlainConnection) (m : PlainSession) (p : PublishFields) (c : PublishCase) →
    AreOf m.client (publish_by_case s k m p c).changes
by_case_is s k m p (Closes reason rule) = tt
by_case_is s k m p Repeats = tt
by_case_is s k m p (Refuses reason) = tt
by_case_is s k m p Asks = tt

by_outcome_is : (client : List ℕ) (k : PlainConnection) (p : PublishFields) (outcome : Outcome) →
    AreOf client (publish_by_outcome k p outcome).changes
by_outcome_is client k p (Kept acked) = tt
by_outcome_is client k p IsFull = tt
by_outcome_is client k p AwaitsTooMany = tt
by_outcome_is client k p Faulted = tt

publish_is : (s : Setting) (k : PlainConnection) (m : PlainSession) (p : PublishFields) (outcomes : List Outcome) →
    AreOf m.client (publish_step s k m p outcomes).changes
publish_is s k m p [] = by_case_is s k m p (publish_case s k.held m p)
publish_is s k m p (outcome ∷ outcomes) = by_outcome_is m.client k p outcome

pubrel_is : (s : Setting) (k : PlainConnection) (m : PlainSession) (id : ℕ) (outcomes : List Outcome) →
    AreOf m.client (pubrel_step s k m id outcomes).changes
pubrel_is s k m id [] = by (is_awaited s m id)
  where
    by : (b : Bool) →
        AreOf m.client
        (if b then asking (release_group s m id) else completion_step id Reason.no_packet_identifier).changes
    by true = tt
    by false = tt
pubrel_is s k m id (Kept acked ∷ outcomes) = tt
pubrel_is s k m id (IsFull ∷ outcomes) = tt
pubrel_is s k m id (AwaitsTooMany ∷ outcomes) = tt
pubrel_is s k m id (Faulted ∷ outcomes) = tt

ack_is : (s : Setting) (k : PlainConnection) (m : PlainSession) (kind : AckKind) (a : AckFields)
    (outcomes : List Outcome) →
    AreOf m.client (ack_step s k m kind a outcomes).changes
ack_is s k m Puback a outcomes =
    planned_is m.client k.number (session_step s.profile m (puback_event k m a))
    (puback_is m (passed_or_none m.acked (passed1 m k)) (with_id1 a.id m))
ack_is s k m Pubrec a outcomes =
    planned_is m.client k.number (session_step s.profile m (pubrec_event k m a))
    (pubrec_is m (record { id = a.id; reason = a.reason; passed = passed_or_none m.received (passed2 m k) })
    (with_id2 a.id m))
ack_is s k m Pubrel a outcomes = pubrel_is s k m a.id outcomes
ack_is s k m Pubcomp a outcomes = planned_is m.client k.number (session_step s.profile m (Session.Pubcomp a.id))
    (pubcomp_is m (with_id2 a.id m))

disconnect_is : (client : List ℕ) (k : PlainConnection) (m : PlainSession) (d : EndFields) →
    AreOf client (disconnect_step k m d).changes
disconnect_is client k m d = by (breaks_interval m (interval_of d))
  where
    by : (b : Bool) →
        AreOf client (if b then breaking k.number Reason.rule_interval_from_0 else closing_silently k.number 0).changes
    by true = tt
    by false = tt

pub packet_changes : (s : Setting) (k : PlainConnection) (m : PlainSession) (packet : PlainPacket)
    (outcomes : List Outcome) →
    AreOf m.client (packet_step s k m packet outcomes).changes
packet_changes s k m (Connect c) outcomes = tt
packet_changes s k m (Connack c) outcomes = tt
packet_changes s k m (Publish p) outcomes = publish_is s k m p outcomes
packet_changes s k m (Ack kind a) outcomes = ack_is s k m kind a outcomes
packet_changes s k m (Subscribe f) outcomes =
    let e : Subscribing =
    record {
      id = f.id;
      identifier = or_default (first_of var_in f.props) 0;
      filters = f.filters;
      starts =
          starts_of s.seen;
    } in
    planned_is m.client k.number (subscribe_planned s.profile m e)
    (wished_is m.client s.profile e 0 f.filters (no_filter_answers m) (refl, tt)).1
packet_changes s k m (Suback a) outcomes = tt
packet_changes s k m (Unsubscribe f) outcomes =
    planned_is m.client k.number (unsubscribe_planned m (record { id = f.id; filters = f.filters }))
    (all_unwished_is m.client f.filters (no_filter_answers m) (refl, tt)).1
packet_changes s k m (Unsuback a) outcomes = tt
packet_changes s k m Pingreq outcomes = tt
packet_changes s k m Pingresp outcomes = tt
packet_changes s k m (Disconnect d) outcomes = disconnect_is m.client k m d
packet_changes s k m (Auth a) outcomes = tt

-- a packet of one client leaves the session of each other
pub packet_leaves : (s : Setting) (k : PlainConnection) (m : PlainSession) (packet : PlainPacket)
    (outcomes : List Outcome) (other : List ℕ) →
    bytes_eq m.client other ≡ false → session_of other (act_all s.sessions (packet_step s k m packet outcomes).changes)
    ≡ session_of other s.sessions
packet_leaves s k m packet outcomes other differ =
    others_after s.sessions m.client other (packet_step s k m packet outcomes).changes differ
    (packet_changes s k m packet outcomes)
