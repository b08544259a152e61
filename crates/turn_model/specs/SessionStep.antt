-- What an event does to one session: the changes, what is answered, and the reason of a close with the rule that was
-- broken.
use Rattle.std.specs.Prelude.{ℕ, ◌+◌, Bool, true, false, ◌&&◌, ◌==◌, nat_le, nat_lt, if◌then◌else◌, List, [], ◌∷◌, ◌++◌}
use Rattle.std.specs.Prelude.{length, find, max, Option, Some, None, is_some}
use Rattle.std.specs.Str.{bytes_eq}
use Rattle.topic_model.specs.Profile.{Profile}
use Rattle.topic_model.specs.Levels.{levels_of, text_of_levels}
use Rattle.topic_model.specs.Texts.{filter_refusal, asks_to_share}
use Rattle.shard_model.specs.declared.sweep.Sweep.{Sweep}
use Rattle.session_model.specs.Entry.{id1, id2, numbers1, numbers2}
use Rattle.session_model.specs.PlainSession.{PlainSession, Subscription, next_subscription, next_version}
use Rattle.session_model.specs.Unfinished.{unfinished}
use Rattle.session_model.specs.Change.{Change, Effect, Bound, Subscribed, Replaced, Unsubscribed, Issued, Acked}
use Rattle.session_model.specs.Change.{Received, Done, Passed, Issues, Passes, change}
use Rattle.session_model.specs.Acting.{changed_session}
use Rattle.session_model.specs.FitsSession.{live_count, text_bytes, greatest_of_four}
use Rattle.session_model.specs.Ends.{part_changes}
use Rattle.mqtt_packet.specs.declared.packet.Wish.{Wish}
use Rattle.mqtt_packet.specs.declared.packet.AckKind.TheVariants.{Pubrel}
use Rattle.mqtt_packet.specs.Packet.{PlainPacket, Suback, Unsuback, ack}
use Rattle.turn_model.specs.Delivery.{qos_of}
use Rattle.turn_model.specs.Reasons as Reason

-- What happens to a session. A client comes back, with its interval; it subscribes, with the Subscription Identifier (0
-- for none) and where a new subscription starts in each shard; it unsubscribes; it acknowledges, where the entries
-- above the mark were passed over up to a number; a batch is issued; entries are passed over on a track; and its
-- connection ends, with the interval that then counts.
pub record Subscribing : Type 0 where
  pub id : ℕ
  pub identifier : ℕ
  pub filters : List Wish
  pub starts : List Sweep

pub record Unsubscribing : Type 0 where
  pub id : ℕ
  pub filters : List (List ℕ)

pub record Acknowledging : Type 0 where
  pub id : ℕ
  pub reason : ℕ
  pub passed : ℕ

pub record Parting : Type 0 where
  pub expiry : ℕ
  pub moment : ℕ

pub data Event : Type 0 where
  Resume : ℕ → Event
  Subscribe : Subscribing → Event
  Unsubscribe : Unsubscribing → Event
  Puback : Acknowledging → Event
  Pubrec : Acknowledging → Event
  Pubcomp : ℕ → Event
  Issue : Issues → Event
  Pass : Passes → Event
  Part : Parting → Event

-- What is planned: the changes, the replies, and where the event closes the connection, the reason and the broken rule.
pub record Planned : Type 0 where
  pub changes : List Change
  pub replies : List PlainPacket
  pub close : Option ℕ
  pub rule : ℕ

abbrev pub changing : List Change → Planned
changing changes = record { changes = changes; replies = []; close = None; rule = 0 }

abbrev pub answering : List Change → List PlainPacket → Planned
answering changes replies = record { changes = changes; replies = replies; close = None; rule = 0 }

-- a rule of the protocol is broken (MQTT 4.13.1)
abbrev pub planned_breach : ℕ → Planned
planned_breach rule = record { changes = []; replies = []; close = Some Reason.protocol_error; rule = rule }

-- ---- SUBSCRIBE (MQTT 3.8)

-- the live subscription with this filter
abbrev pub live_with : List ℕ → PlainSession → Option Subscription
live_with text m = find (λ (s : Subscription). s.live && bytes_eq (text_of_levels s.filter) text) m.subscriptions

-- as the filters are gone through: the session so far, the changes, and the reasons
pub record FilterAnswers : Type 0 where
  pub session : PlainSession
  pub changes : List Change
  pub reasons : List ℕ

abbrev pub no_filter_answers : PlainSession → FilterAnswers
no_filter_answers m = record { session = m; changes = []; reasons = [] }

abbrev pub with_filter_reason : ℕ → FilterAnswers → FilterAnswers
with_filter_reason reason a = record a { reasons = a.reasons ++ reason ∷ [] }

abbrev pub with_filter_change : Effect → ℕ → FilterAnswers → FilterAnswers
with_filter_change effect reason a =
    record {
      session = changed_session effect a.session;
      changes = a.changes ++ change a.session.client effect ∷ [];
      reasons = a.reasons ++ reason ∷ [];
    }

abbrev pub has_version_left : PlainSession → Bool
has_version_left m = nat_lt (next_version m) greatest_of_four

-- a new subscription has a place: among the live ones, among the texts that are kept, and a number of its own
abbrev pub has_subscription_place : Profile → PlainSession → List ℕ → Bool
has_subscription_place profile m text =
    nat_lt (live_count m) profile.subscriptions
    && (nat_le (text_bytes m + length text) profile.filter_texts
    && (nat_lt (next_subscription m) greatest_of_four && has_version_left m))

abbrev pub replaced_in : PlainSession → Subscription → ℕ → ℕ → Effect
replaced_in m s options identifier =
    Replaced (record { subscription = s.number; version = next_version m; options = options; identifier = identifier })

abbrev pub subscribed_in : PlainSession → Wish → ℕ → List Sweep → Effect
subscribed_in m wish identifier starts =
    Subscribed (record {
      subscription = next_subscription m;
      version = next_version m;
      options = wish.options;
      identifier = identifier;
      filter = levels_of wish.filter;
      sweeps = starts;
    })

abbrev pub filter_granted_or : Bool → Effect → ℕ → FilterAnswers → FilterAnswers
filter_granted_or true effect options a = with_filter_change effect (qos_of options) a
filter_granted_or false effect options a = with_filter_reason Reason.quota_exceeded a

-- An equal filter gives the live subscription a new version (MQTT 3.8.4), and another one is a new subscription.
abbrev pub filter_granted : Profile → Subscribing → Wish → Option Subscription → FilterAnswers → FilterAnswers
filter_granted profile s wish (Some live) a =
    filter_granted_or (has_version_left a.session) (replaced_in a.session live wish.options s.identifier) wish.options a
filter_granted profile s wish None a =
    filter_granted_or (has_subscription_place profile a.session wish.filter)
    (subscribed_in a.session wish s.identifier s.starts) wish.options a

-- why a filter is refused, whatever the session has: the first that holds
abbrev pub filter_reason : Profile → ℕ → List ℕ → Option ℕ
filter_reason profile place text =
    if asks_to_share text then Some Reason.no_shared_subscriptions
    else if is_some (filter_refusal text) then Some Reason.bad_filter
    else if nat_le profile.granted place then Some Reason.quota_exceeded
    else None

abbrev pub filter_asked : Profile → Subscribing → Wish → Option ℕ → FilterAnswers → FilterAnswers
filter_asked profile s wish (Some reason) a = with_filter_reason reason a
filter_asked profile s wish None a = filter_granted profile s wish (live_with wish.filter a.session) a

-- each filter in turn, from this place in the packet on
abbrev pub filters_asked : Profile → Subscribing → ℕ → List Wish → FilterAnswers → FilterAnswers
filters_asked profile s place [] a = a
filters_asked profile s place (wish ∷ wishes) a =
    filters_asked profile s (place + 1) wishes (filter_asked profile s wish (filter_reason profile place wish.filter) a)

abbrev pub suback : ℕ → FilterAnswers → Planned
suback id a = answering a.changes (Suback (record { id = id; props = []; reasons = a.reasons }) ∷ [])

abbrev pub subscribe_planned : Profile → PlainSession → Subscribing → Planned
subscribe_planned profile m s = suback s.id (filters_asked profile s 0 s.filters (no_filter_answers m))

-- ---- UNSUBSCRIBE (MQTT 3.10)

abbrev pub ended_or_not : Option Subscription → FilterAnswers → FilterAnswers
ended_or_not (Some s) a = with_filter_change (Unsubscribed s.number) Reason.success a
ended_or_not None a = with_filter_reason Reason.no_subscription a

abbrev pub filter_ended : List ℕ → FilterAnswers → FilterAnswers
filter_ended text a = if is_some (filter_refusal text) then with_filter_reason Reason.bad_filter a
    else ended_or_not (live_with text a.session) a

abbrev pub filters_ended : List (List ℕ) → FilterAnswers → FilterAnswers
filters_ended [] a = a
filters_ended (text ∷ texts) a = filters_ended texts (filter_ended text a)

abbrev pub unsuback : ℕ → FilterAnswers → Planned
unsuback id a = answering a.changes (Unsuback (record { id = id; props = []; reasons = a.reasons }) ∷ [])

abbrev pub unsubscribe_planned : PlainSession → Unsubscribing → Planned
unsubscribe_planned m u = unsuback u.id (filters_ended u.filters (no_filter_answers m))

-- ---- PUBACK, PUBREC, PUBCOMP (MQTT 4.3, 4.6)

-- the first of some numbers that passes a test; those behind it aren't looked at
abbrev pub first_passing : (ℕ → Bool) → List ℕ → Option ℕ
first_passing passes [] = None
first_passing passes (n ∷ ns) = elim (passes n) as (λ is. Option ℕ) [ true ↦ Some n | false ↦ first_passing passes ns ]

-- the unfinished number of a track that has this identifier
abbrev pub with_id1 : ℕ → PlainSession → Option ℕ
with_id1 id m = first_passing (λ (n : ℕ). id1 n == id) (numbers1 (unfinished m))

abbrev pub with_id2 : ℕ → PlainSession → Option ℕ
with_id2 id m = first_passing (λ (n : ℕ). id2 n == id) (numbers2 (unfinished m))

-- the track's next: the least above the mark that wasn't passed over
abbrev pub is_next : ℕ → ℕ → ℕ → Bool
is_next mark passed number = number == max mark passed + 1

-- acknowledgements come in order (MQTT 4.6); one of an identifier that isn't unfinished is ignored
abbrev pub puback_of : PlainSession → ℕ → Option ℕ → Planned
puback_of m passed None = changing []
puback_of m passed (Some number) =
    if is_next m.acked passed number then changing (change m.client (Acked number) ∷ [])
    else planned_breach Reason.rule_out_of_order

-- a PUBREC with a reason of 80 or more finishes the entry, and nothing is released (MQTT 4.3.3)
abbrev pub is_failure : ℕ → Bool
is_failure reason = nat_le 0x80 reason

abbrev pub pubrel_of : ℕ → ℕ → PlainPacket
pubrel_of id reason = ack Pubrel id reason []

abbrev pub received_planned : PlainSession → Acknowledging → ℕ → Planned
received_planned m a number =
    if is_failure a.reason
    then changing (change m.client (Received number) ∷ change m.client (Done number) ∷ [])
    else answering (change m.client (Received number) ∷ []) (pubrel_of a.id Reason.success ∷ [])

abbrev pub pubrec_of : PlainSession → Acknowledging → Option ℕ → Planned
pubrec_of m a None = answering [] (pubrel_of a.id Reason.no_packet_identifier ∷ [])
pubrec_of m a (Some number) =
    if nat_le number m.received then answering [] (pubrel_of a.id Reason.success ∷ [])
    else if is_next m.received a.passed number then received_planned m a number
    else planned_breach Reason.rule_out_of_order

abbrev pub pubcomp_of : PlainSession → Option ℕ → Planned
pubcomp_of m None = changing []
pubcomp_of m (Some number) = if nat_le number m.received then changing (change m.client (Done number) ∷ [])
    else planned_breach Reason.rule_not_received

-- ---- the step of a session

abbrev pub session_step : Profile → PlainSession → Event → Planned
session_step profile m (Resume expiry) = changing (change m.client (Bound expiry) ∷ [])
session_step profile m (Subscribe s) = subscribe_planned profile m s
session_step profile m (Unsubscribe u) = unsubscribe_planned m u
session_step profile m (Puback a) = puback_of m a.passed (with_id1 a.id m)
session_step profile m (Pubrec a) = pubrec_of m a (with_id2 a.id m)
session_step profile m (Pubcomp id) = pubcomp_of m (with_id2 id m)
session_step profile m (Issue b) = changing (change m.client (Issued b) ∷ [])
session_step profile m (Pass p) = changing (change m.client (Passed p) ∷ [])
session_step profile m (Part p) = changing (part_changes m.client p.expiry p.moment)
