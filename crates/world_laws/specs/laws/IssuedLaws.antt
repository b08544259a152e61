-- What a session was issued stays: no change takes an entry from a session that is there, and a number is never used
-- again.
use Rattle.std.proofs.Common.{◌≡◌, ◌⊎◌, inl, inr, ℕ, zero, suc, ◌+◌, ◌<◌, Bool, true, false, not, List, [], ◌∷◌, ◌++◌}
use Rattle.std.proofs.Common.{slice_get, Option, Some, None, refl, sym, ap, subst, ◌∙◌, arith}
use Rattle.std.specs.Prelude.{◌-◌, ◌==◌, if◌then◌else◌, is_some, slice_set, bytes_eq}
use Rattle.std.proofs.lemmas.Bool.{true≢false}
use Rattle.std.proofs.lemmas.Option.{none-some, same_Some}
use Rattle.topic_model.specs.Places.{HasPlace}
use Rattle.session_model.specs.declared.entry.Entry.{Entry}
use Rattle.session_model.specs.PlainSession.{PlainSession, Subscription, Sessions, begun_session, session_of}
use Rattle.session_model.specs.Change.{Change, Effect, Began, Ended, Bound, Parted, Subscribed, Replaced, Unsubscribed}
use Rattle.session_model.specs.Change.{Issued, Acked, Received, Done, Passed, Issues, change}
use Rattle.session_model.specs.Acting.{changed_if, on_session, changed_session, numbers_from, without_session}
use Rattle.session_model.specs.Acting.{act_effect, act_one, act_all}
use Rattle.session_model.specs.laws.OtherLaws.{keeps_client}
use Rattle.turn_model.specs.PlainConnection.{expiry_of}
use Rattle.turn_model.specs.Step.{Setting}
use Rattle.turn_model.specs.ConnectStep.{window_for, ended_if, began_change, connect_changes}
use Rattle.mqtt_packet.specs.Packet.{ConnectFields}
use Rattle.world_laws.specs.laws.PlaceLaws.{place_first, place_second, place_behind, place_cases, place_filtered}
use Rattle.world_laws.specs.laws.PlaceLaws.{no_place}
use Rattle.world_laws.specs.laws.SessionsLaws.{keeps_number, begins_one, HaveNoBegan, place_pushed, text_same}

-- ---- one session

-- a change leaves a session what it was issued, and adds at most
pub keeps_issued : (effect : Effect) (m : PlainSession) (e : Entry) → HasPlace m.issued e →
    HasPlace (changed_session effect m).issued e
keeps_issued (Began b) m e has = has
keeps_issued Ended m e has = has
keeps_issued (Bound expiry) m e has = has
keeps_issued (Parted p) m e has = has
keeps_issued (Subscribed s) m e has = has
keeps_issued (Replaced r) m e has = has
keeps_issued (Unsubscribed number) m e has = has
keeps_issued (Issued i) m e has = place_first m.issued i.entries e has
keeps_issued (Acked number) m e has = has
keeps_issued (Received number) m e has = has
keeps_issued (Done number) m e has = has
keeps_issued (Passed p) m e has = by (p.track == 1)
  where
    by : (b : Bool) → HasPlace
        (if b then record m { acked = p.number }
        else record m
        { received = p.number; done = m.done ++ numbers_from (m.received + 1) (p.number - m.received) }).issued e
    by true = has
    by false = has

-- ---- sessions of a worker

-- a session that stands behind a change of one stood before it: it is the same, or the changed one of this client
pub on_session_from : (client : List ℕ) (f : PlainSession → PlainSession) (ms : List PlainSession) (n : PlainSession) →
    HasPlace (on_session client f ms) n →
    (m : PlainSession) × (HasPlace ms m × (((bytes_eq m.client client ≡ false) × (n ≡ m)) ⊎ (n ≡ f m)))
on_session_from client f [] n has = absurd (no_place n has)
on_session_from client f (m ∷ ms) n (suc k, at) = further (on_session_from client f ms n (k, at))
  where
    further : ((x : PlainSession) × (HasPlace ms x × (((bytes_eq x.client client ≡ false) × (n ≡ x)) ⊎ (n ≡ f x)))) →
        (x : PlainSession)
        × (HasPlace (m ∷ ms) x × (((bytes_eq x.client client ≡ false) × (n ≡ x)) ⊎ (n ≡ f x)))
    further (x, (has, how)) = (x, (place_behind m x ms has, how))
on_session_from client f (m ∷ ms) n (zero, at) = (
  m,
  (
    (0, refl),
    by (bytes_eq m.client client) refl
        (sym (same_Some (changed_if (bytes_eq m.client client) f m) n at)),
  ),
)
  where
    by : (b : Bool) → bytes_eq m.client client ≡ b → n ≡ changed_if b f m →
        ((bytes_eq m.client client ≡ false) × (n ≡ m)) ⊎ (n ≡ f m)
    by true its same = inr same
    by false other same = inl (other, same)

-- whatever session of this client has this number was issued these entries; and the number is below the next one
abbrev pub WasIssued : Sessions → List ℕ → ℕ → List Entry → Type 0
WasIssued s client number es =
    (m : PlainSession) → HasPlace s.list m → m.client ≡ client → m.incarnation ≡ number → (e : Entry) →
    HasPlace es e → HasPlace m.issued e

abbrev pub IsKept : Sessions → List ℕ → ℕ → List Entry → Type 0
IsKept s client number es = WasIssued s client number es × (number < s.next)

-- some of the entries
pub fewer_kept : (s : Sessions) (client : List ℕ) (number : ℕ) (es few : List Entry) →
    ((e : Entry) → HasPlace few e → HasPlace es e) → IsKept s client number es → IsKept s client number few
fewer_kept s client number es few within kept =
    (λ m has its_client its_number e there. kept.0 m has its_client its_number e (within e there), kept.1)

changed_kept : (s : Sessions) (of : List ℕ) (effect : Effect) (client : List ℕ) (number : ℕ) (es : List Entry) →
    WasIssued s client number es →
    WasIssued (record s { list = on_session of (changed_session effect) s.list }) client number es
changed_kept s of effect client number es was n has its_client its_number e there =
    by (on_session_from of (changed_session effect) s.list n has)
  where
    by : ((m : PlainSession)
        × (HasPlace s.list m × (((bytes_eq m.client of ≡ false) × (n ≡ m)) ⊎ (n ≡ changed_session effect m)))) →
        HasPlace n.issued e
    by (m, (stood, inl same)) =
        subst (λ (x : PlainSession). HasPlace x.issued e) (sym same.1)
        (was m stood (ap (λ (x : PlainSession). x.client) (sym same.1) ∙ its_client)
        (ap (λ (x : PlainSession). x.incarnation) (sym same.1) ∙ its_number) e there)
    by (m, (stood, inr changed)) =
        subst (λ (x : PlainSession). HasPlace x.issued e) (sym changed)
        (keeps_issued effect m e
        (was m stood
        (sym (keeps_client effect m) ∙ ap (λ (x : PlainSession). x.client) (sym changed) ∙ its_client)
        (sym (keeps_number effect m) ∙ ap (λ (x : PlainSession). x.incarnation) (sym changed) ∙ its_number) e there))

ended_kept : (s : Sessions) (of client : List ℕ) (number : ℕ) (es : List Entry) → WasIssued s client number es →
    WasIssued (record s { list = without_session of s.list }) client number es
ended_kept s of client number es was n has its_client its_number e there =
    was n (place_filtered
    (λ (m : PlainSession). not (bytes_eq m.client of)) s.list n has).0 its_client its_number e there

one_kept : (s : Sessions) (of : List ℕ) (effect : Effect) → begins_one effect ≡ false → (client : List ℕ) (number : ℕ)
    (es : List Entry) → IsKept s client number es → IsKept (act_effect of effect s) client number es
one_kept s of (Began b) none client number es kept = absurd (true≢false none)
one_kept s of Ended none client number es kept = (ended_kept s of client number es kept.0, kept.1)
one_kept s of other none client number es kept = (changed_kept s of other client number es kept.0, kept.1)

pub all_kept : (s : Sessions) (changes : List Change) → HaveNoBegan changes → (client : List ℕ) (number : ℕ)
    (es : List Entry) → IsKept s client number es → IsKept (act_all s changes) client number es
all_kept s [] none client number es kept = kept
all_kept s (c ∷ changes) none client number es kept =
    all_kept (act_one s c) changes none.1 client number es (one_kept s c.client c.effect none.0 client number es kept)

-- a session that begins has another number
began_kept : (s : Sessions) (of : List ℕ) (expiry window : ℕ) (client : List ℕ) (number : ℕ) (es : List Entry) →
    IsKept s client number es →
    IsKept (act_effect of
    (Began (record { incarnation = s.next; expiry = expiry; window = window })) s) client number es
began_kept s of expiry window client number es kept =
    (was, let below : number < s.next = kept.1 in omega arith)
  where
    by : (n : PlainSession) → HasPlace s.list n ⊎ (n ≡ begun_session of s.next expiry window) → n.client ≡ client →
        n.incarnation ≡ number → (e : Entry) → HasPlace es e → HasPlace n.issued e
    by n (inl stood) its_client its_number e there = kept.0 n stood its_client its_number e there
    by n (inr begun) its_client its_number e there =
        let new : s.next ≡ number = ap (λ (x : PlainSession). x.incarnation) (sym begun) ∙ its_number in
        let below : number < s.next = kept.1 in
        absurd (omega arith)

    was : WasIssued
        (act_effect of (Began (record { incarnation = s.next; expiry = expiry; window = window })) s) client number es
    was n has = by n (place_pushed s.list (begun_session of s.next expiry window) n has)

-- those of a CONNECT
pub connect_kept : (s : Setting) (c : ConnectFields) (of : List ℕ) (present : Bool) (client : List ℕ) (number : ℕ)
    (es : List Entry) → IsKept s.sessions client number es →
    IsKept (act_all s.sessions (connect_changes s c of present)) client number es
connect_kept s c of true client number es kept =
    all_kept s.sessions (change of (Bound (expiry_of c.props)) ∷ []) (refl, tt) client number es kept
connect_kept s c of false client number es kept = by (is_some (session_of of s.sessions))
  where
    by : (found : Bool) →
        IsKept (act_all s.sessions (ended_if found of ++ began_change s c of ∷ [])) client number es
    by false = began_kept s.sessions of (expiry_of c.props) (window_for s c of) client number es kept
    by true =
        began_kept (record s.sessions { list = without_session of s.sessions.list }) of (expiry_of c.props)
        (window_for s c of) client number es (ended_kept s.sessions of client number es kept.0, kept.1)

-- a batch is among what its session was issued
pub batch_kept : (s : Sessions) (of : List ℕ) (b : Issues) (number : ℕ) → number < s.next →
    IsKept (act_effect of (Issued b) s) of number b.entries
batch_kept s of b number below = (was, below)
  where
    of_it : (bytes_eq of of ≡ true) → (m n : PlainSession) →
        (((bytes_eq m.client of ≡ false) × (n ≡ m)) ⊎ (n ≡ changed_session (Issued b) m)) → n.client ≡ of →
        (e : Entry) → HasPlace b.entries e → HasPlace n.issued e
    of_it its m n (inr changed) its_client e there =
        subst (λ (x : PlainSession). HasPlace x.issued e) (sym changed) (place_second m.issued b.entries e there)
    of_it its m n (inl other) its_client e there =
        absurd (true≢false
        (sym its
        ∙ ap (λ (client : List ℕ). bytes_eq client of) (sym its_client ∙ ap (λ (x : PlainSession). x.client) other.1)
        ∙ other.0))

    was : WasIssued (act_effect of (Issued b) s) of number b.entries
    was n has its_client its_number e there =
        let (m, (stood, how)) = on_session_from of (changed_session (Issued b)) s.list n has in
        of_it (text_same of of refl) m n how its_client e there
