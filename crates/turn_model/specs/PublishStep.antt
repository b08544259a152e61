-- PUBLISH and PUBREL (MQTT 3.3, 3.6): what a publish is answered without a shard, the group that several ask for, and
-- how its outcome is answered.
use Rattle.std.specs.Prelude.{ℕ, Bool, true, false, ◌&&◌, ◌||◌, not, ◌==◌, nat_le, nat_lt, if◌then◌else◌, List, [], ◌∷◌}
use Rattle.std.specs.Prelude.{◌++◌, length, map, filter, take, min, slice_get, Option, Some, None, is_some}
use Rattle.std.specs.List.{list_any, sum_by}
use Rattle.std.specs.Str.{bytes_eq}
use Rattle.topic_model.specs.Profile.{Profile}
use Rattle.topic_model.specs.Levels.{levels_of}
use Rattle.topic_model.specs.Matching.{begins_with}
use Rattle.topic_model.specs.Texts.{has_many_levels}
use Rattle.topic_model.specs.Routing.{shard_of, routed_worker}
use Rattle.topic_model.specs.StoredMessage.{StoredMessage}
use Rattle.shard_model.specs.ShardList.{ShardList, Awaited, next_of}
use Rattle.shard_model.specs.Storing.{Op, Store, Release, Forget, awaits, acts, act_if, is_of, placed, triple_of}
use Rattle.shard_model.specs.Storing.{is_message_of}
use Rattle.shard_model.specs.Capacity.{store_size}
use Rattle.session_model.specs.PlainSession.{PlainSession, Sessions}
use Rattle.mqtt_props.specs.declared.table.TheConstants.{MESSAGE_EXPIRY_INTERVAL, TOPIC_ALIAS}
use Rattle.mqtt_props.specs.Lookup.{first_of, two_in, four_in, var_in, forwarded}
use Rattle.mqtt_props.specs.Props.{spelled_bare}
use Rattle.mqtt_packet.specs.declared.packet.AckKind.TheVariants.{Puback, Pubrec, Pubcomp}
use Rattle.mqtt_packet.specs.Packet.{PlainPacket, PublishFields, ack}
use Rattle.turn_model.specs.PlainConnection.{PlainConnection, Effects, no_effects, is_among}
use Rattle.turn_model.specs.Step.{Setting, Ask, Outcome, Kept, IsFull, AwaitsTooMany, Faulted, Reply, reply, Step}
use Rattle.turn_model.specs.Step.{asking, replying, closing}
use Rattle.turn_model.specs.Reasons as Reason

-- ---- the shard of a client, as its worker has seen it

abbrev pub shard_for : Setting → PlainSession → ℕ
shard_for s m = shard_of m.client s.config.shards

abbrev pub awaits_in : Option ShardList → PlainSession → ℕ → Bool
awaits_in None m id = false
awaits_in (Some list) m id = awaits list m.client m.incarnation id

-- the identifier was stored and is not released yet (MQTT 4.3.3)
abbrev pub is_awaited : Setting → PlainSession → ℕ → Bool
is_awaited s m id = awaits_in (slice_get s.seen (shard_for s m)) m id

-- ---- what a publish is answered without a shard

-- It closes with a reason and a rule; it was stored before, and is acknowledged again; it is refused with a reason; or
-- it is to be stored.
pub data PublishCase : Type 0 where
  Closes : ℕ → ℕ → PublishCase
  Repeats : PublishCase
  Refuses : ℕ → PublishCase
  Asks : PublishCase

abbrev pub is_2 : PublishFields → Bool
is_2 p = p.qos == 2

-- an identifier that isn't held where as many are held as may be
abbrev pub has_no_held_place : Profile → List ℕ → PublishFields → Bool
has_no_held_place profile held p = is_2 p && (not (is_among p.id held) && nat_le profile.held (length held))

-- the first that holds, where these identifiers are held (MQTT 3.3.2, 3.3.4, 4.3.3)
abbrev pub publish_case : Setting → List ℕ → PlainSession → PublishFields → PublishCase
publish_case s held m p =
    if is_some (first_of (two_in TOPIC_ALIAS) p.props) then Closes Reason.bad_topic_alias 0
    else if length p.topic == 0 then Closes Reason.protocol_error Reason.rule_empty_topic
    else if is_some (first_of var_in p.props) then Closes Reason.protocol_error Reason.rule_identifier_of_client
    else if p.retain then Closes Reason.no_retained_messages 0
    else if has_no_held_place s.profile held p then Closes Reason.receive_maximum_exceeded 0
    else if is_2 p && is_awaited s m p.id then Repeats
    else if begins_with 0x24 p.topic || has_many_levels p.topic then Refuses Reason.bad_topic_name
    else if not s.profile.expires && is_some (first_of (four_in MESSAGE_EXPIRY_INTERVAL) p.props)
    then Refuses Reason.implementation_error
    else Asks

-- ---- the message, and the group

-- what is stored of a publish: its offset and stamp come from the shard
abbrev pub published_message : PlainSession → PublishFields → StoredMessage
published_message m p =
    record {
      offset = 0;
      publisher = m.client;
      incarnation = m.incarnation;
      id = if is_2 p then p.id else 0;
      qos = p.qos;
      stamp = 0;
      expiry = first_of (four_in MESSAGE_EXPIRY_INTERVAL) p.props;
      topic = levels_of p.topic;
      props = spelled_bare (forwarded p.props);
      payload = p.payload;
    }

-- The publisher's session is among these.
abbrev pub is_live_session : Sessions → Awaited → Bool
is_live_session sessions a = list_any
    (λ (m : PlainSession). bytes_eq m.client a.publisher && (m.incarnation == a.incarnation)) sessions.list

abbrev pub is_owed_forget : Setting → Awaited → Bool
is_owed_forget s a = (routed_worker a.publisher s.config.workers == s.worker) && not (is_live_session s.committed a)

-- each publisher and incarnation once, in the order of the first
abbrev pub with_first : Awaited → List Awaited → List Awaited
with_first a as1 = a ∷ filter (λ (b : Awaited). not (is_of a.publisher a.incarnation b)) as1

abbrev pub each_once : List Awaited → List Awaited
each_once [] = []
each_once (a ∷ as1) = with_first a (each_once as1)

abbrev pub forget : Awaited → Op
forget a = Forget a.publisher a.incarnation

abbrev pub forgets_in : Setting → Option ShardList → List Op
forgets_in s None = []
forgets_in s (Some list) = map forget (take s.profile.forgets (each_once (filter (is_owed_forget s) list.awaited)))

-- The Forgets that a group to this shard begins with: of clients of this worker whose sessions are gone, in the order
-- in which they came to be awaited. An end that is owed and not committed yet waits, as a crash would forget it.
abbrev pub owed_forgets : Setting → ℕ → List Op
owed_forgets s shard = if s.profile.forgets_too then forgets_in s (slice_get s.seen shard) else []

abbrev pub store_of : PlainSession → PublishFields → Op
store_of m p = Store (published_message m p)

-- the group of several publishes of one session
abbrev pub publish_group : Setting → PlainSession → List PublishFields → Ask
publish_group s m ps = record { shard = shard_for s m; ops = owed_forgets s (shard_for s m) ++ map (store_of m) ps }

abbrev pub release_group : Setting → PlainSession → ℕ → Ask
release_group s m id =
    record { shard = shard_for s m; ops = owed_forgets s (shard_for s m) ++ Release m.client m.incarnation id ∷ [] }

-- ---- which publishes go together

-- their identifiers of QoS 2
abbrev pub ids_of : List PublishFields → List ℕ
ids_of [] = []
ids_of (p ∷ ps) = if is_2 p then p.id ∷ ids_of ps else ids_of ps

abbrev pub is_asking : PublishCase → Bool
is_asking Asks = true
is_asking other = false

-- the most publishes of a group
abbrev pub most_publishes : Setting → ℕ
most_publishes s = min s.profile.group s.config.messages

abbrev pub group_bytes : PlainSession → List PublishFields → ℕ
group_bytes m ps = sum_by (λ (p : PublishFields). store_size (published_message m p)) ps

-- One more publish joins a group: it is to be stored too, its identifier isn't among theirs, and the group stays within
-- its limits.
abbrev pub joins : Setting → PlainConnection → PlainSession → List PublishFields → PublishFields → Bool
joins s k m group p =
    s.profile.joins
    && (is_asking (publish_case s (k.held ++ ids_of group) m p)
    && (not (is_2 p && is_among p.id (ids_of group))
    && (nat_lt (length group) (most_publishes s) && nat_le (group_bytes m (group ++ p ∷ [])) s.profile.group_bytes)))

abbrev pub join_all : Setting → PlainConnection → PlainSession → List PublishFields → List PublishFields → Bool
join_all s k m group [] = true
join_all s k m group (p ∷ ps) = joins s k m group p && join_all s k m (group ++ p ∷ []) ps

-- publishes that are a group: the first is to be stored, and each other joins those before it
abbrev pub are_group : Setting → PlainConnection → PlainSession → List PublishFields → Bool
are_group s k m [] = false
are_group s k m (p ∷ ps) = is_asking (publish_case s k.held m p) && join_all s k m (p ∷ []) ps

-- ---- answers

-- PUBACK or PUBREC with a reason, and nothing with QoS 0 (MQTT 4.3)
abbrev pub acknowledgement : PublishFields → ℕ → List PlainPacket
acknowledgement p reason =
    if p.qos == 0 then [] else if p.qos == 1 then ack Puback p.id reason [] ∷ [] else ack Pubrec p.id reason [] ∷ []

-- a PUBREC of success holds the identifier from then on
abbrev pub holding : PublishFields → Effects
holding p = if is_2 p then record no_effects { held = p.id ∷ [] } else no_effects

abbrev pub acked_replies : List PlainPacket → Option (ℕ × StoredMessage) → List Reply
acked_replies [] acked = []
acked_replies (packet ∷ packets) acked = record { packet = packet; acked = acked } ∷ acked_replies packets None

abbrev pub plain_replies : List PlainPacket → List Reply
plain_replies packets = acked_replies packets None

-- the last message with an identifier that is awaited, where it is still held
abbrev pub last_of : List StoredMessage → Option StoredMessage
last_of [] = None
last_of (w ∷ []) = Some w
last_of (w ∷ v ∷ ws) = last_of (v ∷ ws)

abbrev pub last_stored : PlainSession → ℕ → Option ShardList → Option StoredMessage
last_stored m id None = None
last_stored m id (Some list) = last_of
    (filter (is_message_of (record { publisher = m.client; incarnation = m.incarnation; id = id })) list.messages)

abbrev pub with_shard : ℕ → Option StoredMessage → Option (ℕ × StoredMessage)
with_shard shard None = None
with_shard shard (Some w) = Some (shard, w)

-- a publish whose message is in the shard is acknowledged, and its identifier of QoS 2 is held from then on
abbrev pub stored_publish : PublishFields → Option (ℕ × StoredMessage) → Step
stored_publish p acked = replying (acked_replies (acknowledgement p Reason.success) acked) (holding p)

abbrev pub repeat_step : Setting → PlainSession → PublishFields → Step
repeat_step s m p =
    stored_publish p (with_shard (shard_for s m) (last_stored m p.id (slice_get s.seen (shard_for s m))))

abbrev pub refused_publish : PublishFields → ℕ → Step
refused_publish p reason = replying (plain_replies (acknowledgement p reason)) no_effects

abbrev pub publish_by_case : Setting → PlainConnection → PlainSession → PublishFields → PublishCase → Step
publish_by_case s k m p (Closes reason rule) = closing k.number reason rule
publish_by_case s k m p Repeats = repeat_step s m p
publish_by_case s k m p (Refuses reason) = refused_publish p reason
publish_by_case s k m p Asks = asking (publish_group s m (p ∷ []))

-- by the outcome of the group that it asked for
abbrev pub publish_by_outcome : PlainConnection → PublishFields → Outcome → Step
publish_by_outcome k p (Kept acked) = stored_publish p acked
publish_by_outcome k p IsFull = refused_publish p Reason.quota_exceeded
publish_by_outcome k p AwaitsTooMany = refused_publish p Reason.quota_exceeded
publish_by_outcome k p Faulted = closing k.number Reason.implementation_error 0

abbrev pub publish_step : Setting → PlainConnection → PlainSession → PublishFields → List Outcome → Step
publish_step s k m p [] = publish_by_case s k m p (publish_case s k.held m p)
publish_step s k m p (outcome ∷ outcomes) = publish_by_outcome k p outcome

-- ---- PUBREL

abbrev pub freeing : ℕ → Effects
freeing id = record no_effects { freed = id ∷ [] }

abbrev pub completion_step : ℕ → ℕ → Step
completion_step id reason = replying (reply (ack Pubcomp id reason []) ∷ []) (freeing id)

abbrev pub pubrel_by_outcome : PlainConnection → ℕ → Outcome → Step
pubrel_by_outcome k id (Kept acked) = completion_step id Reason.success
pubrel_by_outcome k id other = closing k.number Reason.implementation_error 0

-- a message is released once; any other identifier isn't known (MQTT 3.7.2.1)
abbrev pub pubrel_step : Setting → PlainConnection → PlainSession → ℕ → List Outcome → Step
pubrel_step s k m id [] = if is_awaited s m id then asking (release_group s m id)
    else completion_step id Reason.no_packet_identifier
pubrel_step s k m id (outcome ∷ outcomes) = pubrel_by_outcome k id outcome

-- ---- what a stored group acknowledges

-- of a Store: the message as it was kept, or the last one with its triple where that was awaited already
abbrev pub standing_for : Bool → ShardList → ℕ → StoredMessage → Option StoredMessage
standing_for true list now w = Some (placed w (next_of list) now)
standing_for false list now w = last_of (filter (is_message_of (triple_of w)) list.messages)

-- the message that stands for each Store of a group, over the list before it
abbrev pub stored_messages : ShardList → List Op → ℕ → List (Option StoredMessage)
stored_messages list [] now = []
stored_messages list (Store w ∷ ops) now =
    standing_for (acts list (Store w)) list now w
    ∷ stored_messages (act_if (acts list (Store w)) now list (Store w)) ops now
stored_messages list (Release publisher incarnation id ∷ ops) now =
    stored_messages (act_if (acts list (Release publisher incarnation id)) now list (Release publisher incarnation id))
    ops now
stored_messages list (Forget publisher incarnation ∷ ops) now =
    stored_messages (act_if (acts list (Forget publisher incarnation)) now list (Forget publisher incarnation)) ops now
