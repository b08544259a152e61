-- The sessions of a worker are apart: a client has one, and a number is of one. Changes that begin none keep them
-- apart, and so do those of a CONNECT; and of all records of a worker those of a CONNECT alone begin one.
use Rattle.std.proofs.Common.{◌≡◌, ◌⊎◌, inl, inr, ℕ, zero, suc, ◌+◌, ◌-◌, ◌<◌, Bool, true, false, not, ◌==◌, List, []}
use Rattle.std.proofs.Common.{◌∷◌, ◌++◌, if◌then◌else◌, filter, find, map, bytes_eq, slice_get, Option, Some, None}
use Rattle.std.proofs.Common.{is_some, nat_le, nat_lt, refl, sym, ap, subst, ◌∙◌, arith}
use Rattle.std.proofs.lemmas.Bool.{true≢false}
use Rattle.std.proofs.lemmas.List.{map-append}
use Rattle.std.proofs.lemmas.Option.{none-some, same_Some}
use Rattle.std.proofs.lemmas.Slice.Eq.{bytes_eq-Decides}
use Rattle.topic_model.specs.Places.{HasPlace}
use Rattle.topic_model.specs.Profile.{Profile}
use Rattle.topic_model.specs.Texts.{filter_refusal}
use Rattle.session_model.specs.PlainSession.{PlainSession, Sessions, Subscription, session_of, begun_session}
use Rattle.session_model.specs.Change.{Change, Effect, Issues, Began, Ended, Bound, Parted, Subscribed, Replaced}
use Rattle.session_model.specs.Change.{Unsubscribed, Issued, Acked, Received, Done, Passed, change}
use Rattle.session_model.specs.Acting.{changed_if, changed_session, on_session, without_session, act_effect, act_one}
use Rattle.session_model.specs.Acting.{act_all, numbers_from}
use Rattle.session_model.specs.laws.OtherLaws.{keeps_client}
use Rattle.mqtt_props.specs.Lookup.{first_of, var_in, or_default}
use Rattle.mqtt_packet.specs.declared.packet.Wish.{Wish}
use Rattle.mqtt_packet.specs.declared.packet.AckKind.{AckKind}
use Rattle.mqtt_packet.specs.declared.packet.AckKind.TheVariants.{Puback, Pubrec, Pubrel, Pubcomp}
use Rattle.mqtt_packet.specs.Packet.{PlainPacket, Connect, Connack, Publish, Ack, Subscribe, Suback, Unsubscribe}
use Rattle.mqtt_packet.specs.Packet.{Unsuback, Pingreq, Pingresp, Disconnect, Auth, AckFields, PublishFields, EndFields}
use Rattle.mqtt_packet.specs.Packet.{ConnectFields}
use Rattle.turn_model.specs.PlainConnection.{PlainConnection, expiry_of}
use Rattle.turn_model.specs.Delivery.{qos_of}
use Rattle.turn_model.specs.Reasons as Reason
use Rattle.turn_model.specs.Resend.{passed1, passed2, pass_if, pass_changes}
use Rattle.turn_model.specs.Step.{Setting, asking, breaking, closing_silently}
use Rattle.turn_model.specs.ConnectStep.{connect_changes, ended_if, began_change, window_for}
use Rattle.turn_model.specs.SessionStep.{Planned, FilterAnswers, Acknowledging, Subscribing, no_filter_answers}
use Rattle.turn_model.specs.SessionStep.{filter_granted_or, filter_granted, live_with, filter_asked, filter_reason}
use Rattle.turn_model.specs.SessionStep.{filters_asked, ended_or_not, filter_ended, filters_ended, puback_of, pubrec_of}
use Rattle.turn_model.specs.SessionStep.{received_planned, pubcomp_of, with_id1, with_id2, is_next, is_failure}
use Rattle.turn_model.specs.SessionStep.{session_step, subscribe_planned, unsubscribe_planned}
use Rattle.turn_model.specs.SessionStep as Session
use Rattle.turn_model.specs.PublishStep.{PublishCase, Closes, Repeats, Refuses, Asks, publish_case, publish_by_case}
use Rattle.turn_model.specs.PublishStep.{is_awaited, release_group, completion_step}
use Rattle.turn_model.specs.PacketStep.{step_unless, planned_step, packet_step, ack_step, disconnect_step, puback_event}
use Rattle.turn_model.specs.PacketStep.{pubrec_event, breaks_interval, interval_of, passed_or_none, starts_of}
use Rattle.turn_model.specs.Records.{Stepped, stepped_by, stepped_all, issued_change}
use Rattle.world_laws.specs.laws.PlaceLaws.{no_place, place_behind, place_cases, place_in_both, place_filtered}
use Rattle.world_laws.specs.laws.PlaceLaws.{place_mapped, place_through}

-- ---- lists without an element twice

-- no element stands again further on
abbrev pub Differ : {A : Type 0} → List A → Type 0
Differ [] = Unit {0}
Differ (x ∷ xs) = (HasPlace xs x → ⊥) × Differ xs

-- what stands in a list with one more stood in the list, or is that one
pub place_pushed : {A : Type 0} (xs : List A) (y x : A) → HasPlace (xs ++ y ∷ []) x → HasPlace xs x ⊎ (x ≡ y)
place_pushed xs y x has = by (place_in_both xs (y ∷ []) x has)
  where
    last : (x ≡ y) ⊎ HasPlace [] x → HasPlace xs x ⊎ (x ≡ y)
    last (inl same) = inr same
    last (inr none) = absurd (no_place x none)

    by : HasPlace xs x ⊎ HasPlace (y ∷ []) x → HasPlace xs x ⊎ (x ≡ y)
    by (inl first) = inl first
    by (inr second) = last (place_cases y x [] second)

pub differ_pushed : {A : Type 0} (xs : List A) (x : A) → Differ xs → (HasPlace xs x → ⊥) → Differ (xs ++ x ∷ [])
differ_pushed [] x differ new = (λ has. no_place x has, tt)
differ_pushed (y ∷ xs) x differ new = (
  λ has. by (place_pushed xs x y has),
  differ_pushed xs x differ.1 (λ has. new (place_behind y x xs has)),
)
  where
    by : HasPlace xs y ⊎ (y ≡ x) → ⊥
    by (inl there) = differ.0 there
    by (inr same) = new (0, ap Some same)

module _ {A : Type 0} {B : Type 0} (f : A → B) where
  -- what stands among those that are left stood among all
  pub place_of_left : (test : A → Bool) (xs : List A) (y : B) → HasPlace (map f (filter test xs)) y →
      HasPlace (map f xs) y
  place_of_left test xs y has = by (place_mapped f (filter test xs) y has)
    where
      by : ((x : A) × (HasPlace (filter test xs) x × (y ≡ f x))) → HasPlace (map f xs) y
      by (x, (there, same)) =
          subst (HasPlace (map f xs)) (sym same) (place_through f xs x (place_filtered test xs x there).0)

  pub differ_left : (test : A → Bool) (xs : List A) → Differ (map f xs) → Differ (map f (filter test xs))
  differ_left test [] differ = tt
  differ_left test (x ∷ xs) differ = by (test x) (differ_left test xs differ.1)
    where
      by : (b : Bool) → Differ (map f (filter test xs)) →
          Differ (map f (if b then x ∷ filter test xs else filter test xs))
      by true rest = (λ has. differ.0 (place_of_left test xs (f x) has), rest)
      by false rest = rest

  -- two places with one image are one place
  pub differ_places : (xs : List A) → Differ (map f xs) → (i j : ℕ) (x y : A) → slice_get xs i ≡ Some x →
      slice_get xs j ≡ Some y → f x ≡ f y → i ≡ j
  differ_places [] differ i j x y at_x at_y same = absurd (none-some x at_x)
  differ_places (z ∷ xs) differ zero zero x y at_x at_y same = refl
  differ_places (z ∷ xs) differ zero (suc j) x y at_x at_y same =
      absurd (differ.0 (subst (HasPlace (map f xs)) (sym (ap f (same_Some z x at_x) ∙ same))
      (place_through f xs y (j, at_y))))
  differ_places (z ∷ xs) differ (suc i) zero x y at_x at_y same =
      absurd (differ.0 (subst (HasPlace (map f xs)) (same ∙ sym (ap f (same_Some z y at_y)))
      (place_through f xs x (i, at_x))))
  differ_places (z ∷ xs) differ (suc i) (suc j) x y at_x at_y same =
      ap suc (differ_places xs differ.1 i j x y at_x at_y same)

-- the first that passes a test isn't there: none passes it
pub none_found : {A : Type 0} (test : A → Bool) (xs : List A) (x : A) → find test xs ≡ None → HasPlace xs x →
    test x ≡ true → ⊥
none_found test [] x none has passes = no_place x has
none_found test (y ∷ xs) x none has passes =
    by (test y) refl none (place_cases y x xs has) (none_found test xs x)
  where
    by : (b : Bool) → test y ≡ b → (if b then Some y else find test xs) ≡ None → (x ≡ y) ⊎ HasPlace xs x →
        (find test xs ≡ None → HasPlace xs x → test x ≡ true → ⊥) → ⊥
    by true is none has rest = none-some y (sym none)
    by false is none (inl same) rest = true≢false (sym passes ∙ ap test same ∙ is)
    by false is none (inr later) rest = rest none later passes

-- nor does one of them have this image, if those that have it pass the test
pub none_mapped : {A : Type 0} {B : Type 0} (f : A → B) (test : A → Bool) (xs : List A) (y : B) →
    find test xs ≡ None → ((x : A) → f x ≡ y → test x ≡ true) → HasPlace (map f xs) y → ⊥
none_mapped f test xs y none passes has = by (place_mapped f xs y has)
  where
    by : ((x : _) × (HasPlace xs x × (y ≡ f x))) → ⊥
    by (x, (there, same)) = none_found test xs x none there (passes x (sym same))

pub same_text : (xs ys : List ℕ) → bytes_eq xs ys ≡ true → xs ≡ ys
same_text xs ys e = (bytes_eq-Decides xs ys).0 e

pub text_same : (xs ys : List ℕ) → xs ≡ ys → bytes_eq xs ys ≡ true
text_same xs ys e = (bytes_eq-Decides xs ys).1 e

-- ---- sessions that are apart

abbrev pub clients_of : List PlainSession → List (List ℕ)
clients_of ms = map (λ (m : PlainSession). m.client) ms

abbrev pub numbers_of : List PlainSession → List ℕ
numbers_of ms = map (λ (m : PlainSession). m.incarnation) ms

-- each of these clients is at home
abbrev pub AreHome : (List ℕ → Bool) → List (List ℕ) → Type 0
AreHome is_home its = (client : List ℕ) → HasPlace its client → is_home client ≡ true

-- Clients, of which each is at home, and numbers below the next one: none stands twice.
pub record AreApartAs (is_home : List ℕ → Bool) (its : List (List ℕ)) (those : List ℕ) (next : ℕ) : Type 0 where
  pub clients : Differ its
  pub numbers : Differ those
  pub homes : AreHome is_home its
  pub below : (number : ℕ) → HasPlace those number → number < next

-- Sessions of different clients, of which each is at home, and with different numbers below that of the next one.
abbrev pub AreApart : (List ℕ → Bool) → Sessions → Type 0
AreApart is_home s = AreApartAs is_home (clients_of s.list) (numbers_of s.list) s.next

-- a change leaves a session its number
pub keeps_number : (effect : Effect) (m : PlainSession) → (changed_session effect m).incarnation ≡ m.incarnation
keeps_number (Began b) m = refl
keeps_number Ended m = refl
keeps_number (Bound expiry) m = refl
keeps_number (Parted p) m = refl
keeps_number (Subscribed s) m = refl
keeps_number (Replaced r) m = refl
keeps_number (Unsubscribed number) m = refl
keeps_number (Issued i) m = refl
keeps_number (Acked number) m = refl
keeps_number (Received number) m = refl
keeps_number (Done number) m = refl
keeps_number (Passed p) m = by (p.track == 1)
  where
    by : (b : Bool) →
        (if b then record m { acked = p.number }
        else record m
        { received = p.number; done = m.done ++ numbers_from (m.received + 1) (p.number - m.received) }).incarnation
        ≡ m.incarnation
    by true = refl
    by false = refl

-- what each session keeps through a change of one, all of them keep
on_session_keeps : {B : Type 0} (f : PlainSession → B) (g : PlainSession → PlainSession) →
    ((m : PlainSession) → f (g m) ≡ f m) → (client : List ℕ) (ms : List PlainSession) →
    map f (on_session client g ms) ≡ map f ms
on_session_keeps f g keeps client [] = refl
on_session_keeps f g keeps client (m ∷ ms) =
    by (bytes_eq m.client client) (on_session_keeps f g keeps client ms)
  where
    by : (b : Bool) → map f (on_session client g ms) ≡ map f ms →
        (f (changed_if b g m) ∷ map f (on_session client g ms)) ≡ (f m ∷ map f ms)
    by true rest = ap (λ x. x ∷ map f (on_session client g ms)) (keeps m) ∙ ap (λ xs. f m ∷ xs) rest
    by false rest = ap (λ xs. f m ∷ xs) rest

-- ---- changes that begin none

abbrev pub begins_one : Effect → Bool
begins_one (Began b) = true
begins_one other = false

abbrev pub HaveNoBegan : List Change → Type 0
HaveNoBegan [] = Unit {0}
HaveNoBegan (c ∷ changes) = (begins_one c.effect ≡ false) × HaveNoBegan changes

module _ (is_home : List ℕ → Bool) where
  changed_apart : (s : Sessions) (client : List ℕ) (effect : Effect) → AreApart is_home s →
      AreApart is_home (record s { list = on_session client (changed_session effect) s.list })
  changed_apart s client effect apart =
      let clients = on_session_keeps (λ (m : PlainSession). m.client) (changed_session effect) (keeps_client effect)
      client s.list in
      let numbers = on_session_keeps (λ (m : PlainSession). m.incarnation) (changed_session effect)
      (keeps_number effect) client s.list in
      subst (λ cs. AreApartAs is_home cs (numbers_of (on_session client (changed_session effect) s.list)) s.next)
      (sym clients)
      (subst (λ ns. AreApartAs is_home (clients_of s.list) ns s.next) (sym numbers) apart)

  ended_apart : (s : Sessions) (client : List ℕ) → AreApart is_home s →
      AreApart is_home (record s { list = without_session client s.list })
  ended_apart s client apart =
      let test : PlainSession → Bool = λ (m : PlainSession). not (bytes_eq m.client client) in
      record {
        clients = differ_left (λ (m : PlainSession). m.client) test s.list apart.clients;
        numbers = differ_left (λ (m : PlainSession). m.incarnation) test s.list apart.numbers;
        homes = λ its has. apart.homes its (place_of_left (λ (m : PlainSession). m.client) test s.list its has);
        below = λ n has. apart.below n (place_of_left (λ (m : PlainSession). m.incarnation) test s.list n has);
      }

  one_apart : (s : Sessions) (client : List ℕ) (effect : Effect) → begins_one effect ≡ false → AreApart is_home s →
      AreApart is_home (act_effect client effect s)
  one_apart s client (Began b) none apart = absurd (true≢false none)
  one_apart s client Ended none apart = ended_apart s client apart
  one_apart s client other none apart = changed_apart s client other apart

  pub all_apart : (s : Sessions) (changes : List Change) → HaveNoBegan changes → AreApart is_home s →
      AreApart is_home (act_all s changes)
  all_apart s [] none apart = apart
  all_apart s (c ∷ changes) none apart =
      all_apart (act_one s c) changes none.1 (one_apart s c.client c.effect none.0 apart)

  -- ---- a session that begins

  pub home_pushed : (its : List (List ℕ)) (client : List ℕ) → is_home client ≡ true → AreHome is_home its →
      AreHome is_home (its ++ client ∷ [])
  home_pushed its client home homes other has = by (place_pushed its client other has)
    where
      by : HasPlace its other ⊎ (other ≡ client) → is_home other ≡ true
      by (inl there) = homes other there
      by (inr same) = ap is_home same ∙ home

  begun_as : (its : List (List ℕ)) (those : List ℕ) (next : ℕ) (client : List ℕ) → is_home client ≡ true →
      (HasPlace its client → ⊥) → AreApartAs is_home its those next →
      AreApartAs is_home (its ++ client ∷ []) (those ++ next ∷ []) (next + 1)
  begun_as its those next client home new apart =
      record {
        clients = differ_pushed its client apart.clients new;
        numbers = differ_pushed those next apart.numbers new_number;
        homes = home_pushed its client home apart.homes;
        below = λ number has. below_of number (place_pushed those next number has);
      }
    where
      new_number : HasPlace those next → ⊥
      new_number has = let less : next < next = apart.below next has in omega arith

      below_of : (number : ℕ) → HasPlace those number ⊎ (number ≡ next) → number < next + 1
      below_of number (inl there) = let less : number < next = apart.below number there in omega arith
      below_of number (inr same) = omega arith

  began_apart : (s : Sessions) (client : List ℕ) (expiry window : ℕ) → is_home client ≡ true →
      (HasPlace (clients_of s.list) client → ⊥) → AreApart is_home s →
      AreApart is_home
      (act_effect client (Began (record { incarnation = s.next; expiry = expiry; window = window })) s)
  began_apart s client expiry window home new apart =
      let begun : List PlainSession = begun_session client s.next expiry window ∷ [] in
      subst (λ its. AreApartAs is_home its (numbers_of (s.list ++ begun)) (s.next + 1))
      (sym (map-append (λ (m : PlainSession). m.client) s.list begun))
      (subst (λ those. AreApartAs is_home (clients_of s.list ++ client ∷ []) those (s.next + 1))
      (sym (map-append (λ (m : PlainSession). m.incarnation) s.list begun))
      (begun_as (clients_of s.list) (numbers_of s.list) s.next client home new apart))

  -- none has this client
  none_of : (ms : List PlainSession) (client : List ℕ) →
      find (λ (m : PlainSession). bytes_eq m.client client) ms ≡ None → HasPlace (clients_of ms) client → ⊥
  none_of ms client none has =
      none_mapped (λ (m : PlainSession). m.client) (λ (m : PlainSession). bytes_eq m.client client) ms client none
      (λ m same. text_same m.client client same) has

  none_is_left : (ms : List PlainSession) (client : List ℕ) →
      HasPlace (clients_of (without_session client ms)) client → ⊥
  none_is_left ms client has =
      by (place_mapped (λ (m : PlainSession). m.client) (without_session client ms) client has)
    where
      by : ((m : PlainSession) × (HasPlace (without_session client ms) m × (client ≡ m.client))) → ⊥
      by (m, (there, same)) =
          let passes = (place_filtered (λ (n : PlainSession). not (bytes_eq n.client client)) ms m there).1 in
          true≢false (sym passes ∙ ap not (text_same m.client client (sym same)))

  -- those of a CONNECT keep sessions apart
  pub connect_apart : (s : Setting) (c : ConnectFields) (client : List ℕ) (present : Bool) → is_home client ≡ true →
      AreApart is_home s.sessions → AreApart is_home (act_all s.sessions (connect_changes s c client present))
  connect_apart s c client true home apart =
      all_apart s.sessions (change client (Bound (expiry_of c.props)) ∷ []) (refl, tt) apart
  connect_apart s c client false home apart = by (session_of client s.sessions) refl
    where
      expiry : ℕ
      expiry = expiry_of c.props

      by : (found : Option PlainSession) → session_of client s.sessions ≡ found →
          AreApart is_home (act_all s.sessions (ended_if (is_some found) client ++ began_change s c client ∷ []))
      by None none =
          began_apart s.sessions client expiry (window_for s c client) home (none_of s.sessions.list client none) apart
      by (Some m) some =
          began_apart (record s.sessions { list = without_session client s.sessions.list }) client expiry
          (window_for s c client) home (none_is_left s.sessions.list client) (ended_apart s.sessions client apart)

-- ---- the changes of packets begin none

pub none_both : (xs ys : List Change) → HaveNoBegan xs → HaveNoBegan ys → HaveNoBegan (xs ++ ys)
none_both [] ys first second = second
none_both (x ∷ xs) ys first second = (first.0, none_both xs ys first.1 second)

-- SUBSCRIBE and UNSUBSCRIBE
abbrev NoneOf : FilterAnswers → Type 0
NoneOf a = HaveNoBegan a.changes

none_more : (effect : Effect) (reason : ℕ) (a : FilterAnswers) → begins_one effect ≡ false → NoneOf a →
    NoneOf (Session.with_filter_change effect reason a)
none_more effect reason a none is =
    none_both a.changes (change a.session.client effect ∷ []) is (none, tt)

none_granted_or : (b : Bool) (effect : Effect) (options : ℕ) (a : FilterAnswers) → begins_one effect ≡ false →
    NoneOf a → NoneOf (filter_granted_or b effect options a)
none_granted_or true effect options a none is = none_more effect (qos_of options) a none is
none_granted_or false effect options a none is = is

none_granted : (profile : Profile) (s : Subscribing) (wish : Wish) (live : Option Subscription) (a : FilterAnswers) →
    NoneOf a → NoneOf (filter_granted profile s wish live a)
none_granted profile s wish (Some live) a is =
    none_granted_or (Session.has_version_left a.session)
    (Session.replaced_in a.session live wish.options s.identifier) wish.options a refl is
none_granted profile s wish None a is =
    none_granted_or (Session.has_subscription_place profile a.session wish.filter)
    (Session.subscribed_in a.session wish s.identifier s.starts) wish.options a refl is

none_asked : (profile : Profile) (s : Subscribing) (wish : Wish) (reason : Option ℕ) (a : FilterAnswers) → NoneOf a →
    NoneOf (filter_asked profile s wish reason a)
none_asked profile s wish (Some reason) a is = is
none_asked profile s wish None a is = none_granted profile s wish (live_with wish.filter a.session) a is

all_asked : (profile : Profile) (s : Subscribing) (place : ℕ) (wishes : List Wish) (a : FilterAnswers) → NoneOf a →
    NoneOf (filters_asked profile s place wishes a)
all_asked profile s place [] a is = is
all_asked profile s place (wish ∷ wishes) a is =
    all_asked profile s (place + 1) wishes (filter_asked profile s wish (filter_reason profile place wish.filter) a)
    (none_asked profile s wish (filter_reason profile place wish.filter) a is)

none_found_ended : (found : Option Subscription) (a : FilterAnswers) → NoneOf a → NoneOf (ended_or_not found a)
none_found_ended (Some s) a is = none_more (Unsubscribed s.number) Reason.success a refl is
none_found_ended None a is = is

none_ended : (text : List ℕ) (a : FilterAnswers) → NoneOf a → NoneOf (filter_ended text a)
none_ended text a is = by (is_some (filter_refusal text))
  where
    by : (b : Bool) →
        NoneOf (if b then Session.with_filter_reason Reason.bad_filter a else ended_or_not (live_with text a.session) a)
    by true = is
    by false = none_found_ended (live_with text a.session) a is

all_ended : (texts : List (List ℕ)) (a : FilterAnswers) → NoneOf a → NoneOf (filters_ended texts a)
all_ended [] a is = is
all_ended (text ∷ texts) a is = all_ended texts (filter_ended text a) (none_ended text a is)

-- PUBACK, PUBREC and PUBCOMP
none_acked : (m : PlainSession) (passed : ℕ) (found : Option ℕ) → HaveNoBegan (puback_of m passed found).changes
none_acked m passed None = tt
none_acked m passed (Some number) = by (is_next m.acked passed number)
  where
    by : (b : Bool) → HaveNoBegan (if b then Session.changing (change m.client (Acked number) ∷ [])
        else Session.planned_breach Reason.rule_out_of_order).changes
    by true = (refl, tt)
    by false = tt

none_received : (m : PlainSession) (a : Acknowledging) (number : ℕ) →
    HaveNoBegan (received_planned m a number).changes
none_received m a number = by (is_failure a.reason)
  where
    by : (b : Bool) → HaveNoBegan (if b
        then Session.changing (change m.client (Received number) ∷ change m.client (Done number) ∷ [])
        else Session.answering (change m.client (Received number) ∷ [])
        (Session.pubrel_of a.id Reason.success ∷ [])).changes
    by true = (refl, (refl, tt))
    by false = (refl, tt)

none_pubrec : (m : PlainSession) (a : Acknowledging) (found : Option ℕ) → HaveNoBegan (pubrec_of m a found).changes
none_pubrec m a None = tt
none_pubrec m a (Some number) = by (nat_le number m.received) (is_next m.received a.passed number)
  where
    by : (b c : Bool) → HaveNoBegan (if b then Session.answering [] (Session.pubrel_of a.id Reason.success ∷ [])
        else if c then received_planned m a number
        else Session.planned_breach Reason.rule_out_of_order).changes
    by true c = tt
    by false true = none_received m a number
    by false false = tt

none_pubcomp : (m : PlainSession) (found : Option ℕ) → HaveNoBegan (pubcomp_of m found).changes
none_pubcomp m None = tt
none_pubcomp m (Some number) = by (nat_le number m.received)
  where
    by : (b : Bool) → HaveNoBegan (if b then Session.changing (change m.client (Done number) ∷ [])
        else Session.planned_breach Reason.rule_not_received).changes
    by true = (refl, tt)
    by false = tt

none_planned : (conn : ℕ) (p : Planned) → HaveNoBegan p.changes → HaveNoBegan (planned_step conn p).changes
none_planned conn p none = by p.close
  where
    by : (close : Option ℕ) → HaveNoBegan (step_unless close conn p).changes
    by (Some reason) = tt
    by None = none

none_published : (s : Setting) (k : PlainConnection) (m : PlainSession) (p : PublishFields) (c : PublishCase) →
    HaveNoBegan (publish_by_case s k m p c).changes
none_published s k m p (Closes reason rule) = tt
none_published s k m p Repeats = tt
none_published s k m p (Refuses reason) = tt
none_published s k m p Asks = tt

none_ack : (s : Setting) (k : PlainConnection) (m : PlainSession) (kind : AckKind) (a : AckFields) →
    HaveNoBegan (ack_step s k m kind a []).changes
none_ack s k m Puback a =
    none_planned k.number (session_step s.profile m (puback_event k m a))
    (none_acked m (passed_or_none m.acked (passed1 m k)) (with_id1 a.id m))
none_ack s k m Pubrec a =
    none_planned k.number (session_step s.profile m (pubrec_event k m a))
    (none_pubrec m (record { id = a.id; reason = a.reason; passed = passed_or_none m.received (passed2 m k) })
    (with_id2 a.id m))
none_ack s k m Pubrel a = by (is_awaited s m a.id)
  where
    by : (b : Bool) → HaveNoBegan
        (if b then asking (release_group s m a.id) else completion_step a.id Reason.no_packet_identifier).changes
    by true = tt
    by false = tt
none_ack s k m Pubcomp a =
    none_planned k.number (session_step s.profile m (Session.Pubcomp a.id)) (none_pubcomp m (with_id2 a.id m))

none_disconnect : (k : PlainConnection) (m : PlainSession) (d : EndFields) → HaveNoBegan (disconnect_step k m d).changes
none_disconnect k m d = by (breaks_interval m (interval_of d))
  where
    by : (b : Bool) → HaveNoBegan
        (if b then breaking k.number Reason.rule_interval_from_0 else closing_silently k.number 0).changes
    by true = tt
    by false = tt

none_packet : (s : Setting) (k : PlainConnection) (m : PlainSession) (packet : PlainPacket) →
    HaveNoBegan (packet_step s k m packet []).changes
none_packet s k m (Connect c) = tt
none_packet s k m (Connack c) = tt
none_packet s k m (Publish p) = none_published s k m p (publish_case s k.held m p)
none_packet s k m (Ack kind a) = none_ack s k m kind a
none_packet s k m (Subscribe f) =
    let e : Subscribing =
    record {
      id = f.id;
      identifier = or_default (first_of var_in f.props) 0;
      filters = f.filters;
      starts = starts_of s.seen;
    } in
    none_planned k.number (subscribe_planned s.profile m e)
    (all_asked s.profile e 0 f.filters (no_filter_answers m) tt)
none_packet s k m (Suback a) = tt
none_packet s k m (Unsubscribe f) =
    none_planned k.number (unsubscribe_planned m (record { id = f.id; filters = f.filters }))
    (all_ended f.filters (no_filter_answers m) tt)
none_packet s k m (Unsuback a) = tt
none_packet s k m Pingreq = tt
none_packet s k m Pingresp = tt
none_packet s k m (Disconnect d) = none_disconnect k m d
none_packet s k m (Auth a) = tt

-- those of several packets
pub none_stepped : (s : Setting) (k : PlainConnection) (packets : List PlainPacket) (st : Stepped) →
    HaveNoBegan st.changes → HaveNoBegan (stepped_all s k packets st).changes
none_stepped s k [] st none = none
none_stepped s k (packet ∷ packets) st none =
    none_stepped s k packets (stepped_by (packet_step s k st.session packet []) st)
    (none_both st.changes (packet_step s k st.session packet []).changes none (none_packet s k st.session packet))

-- those of a pump
none_passed : (b : Bool) (client : List ℕ) (track number : ℕ) → HaveNoBegan (pass_if b client track number)
none_passed true client track number = (refl, tt)
none_passed false client track number = tt

pub none_passes : (m : PlainSession) (k : PlainConnection) → HaveNoBegan (pass_changes m k)
none_passes m k =
    none_both _ (pass_if _ m.client 2 (passed2 m k))
    (none_passed (nat_lt m.acked (passed1 m k)) m.client 1 (passed1 m k))
    (none_passed (nat_lt m.received (passed2 m k)) m.client 2 (passed2 m k))

pub none_issued : (m : PlainSession) (b : Option Issues) → HaveNoBegan (issued_change m b)
none_issued m None = tt
none_issued m (Some b) = (refl, tt)
