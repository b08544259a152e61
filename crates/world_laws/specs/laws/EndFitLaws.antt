-- Ends of sessions, of connections and behind a restart fit the sessions of a worker, and leave them within limits.
use Rattle.std.proofs.Common.{◌≡◌, ◌⊎◌, inl, inr, ℕ, zero, suc, ◌+◌, ◌-◌, ◌≤◌, ◌<◌, Bool, true, false, not, ◌&&◌, ◌==◌}
use Rattle.std.proofs.Common.{List, [], ◌∷◌, ◌++◌, if◌then◌else◌, length, filter, find, map, take, bytes_eq, Option}
use Rattle.std.proofs.Common.{Some, None, nat_le, refl, sym, ap, subst, ◌∙◌, arith}
use Rattle.std.specs.List.{list_all, flat_map}
use Rattle.std.proofs.lemmas.Bool.{true≢false, and_from, and_parts, le-leb, leb-true, lt-ltb}
use Rattle.std.proofs.lemmas.Option.{none-some, same_Some}
use Rattle.topic_model.specs.Places.{HasPlace}
use Rattle.topic_model.specs.Profile.{Profile}
use Rattle.session_model.specs.PlainSession.{PlainSession, Sessions, session_of}
use Rattle.session_model.specs.Change.{Change, Parts, Ended, Bound, Parted, change}
use Rattle.session_model.specs.Acting.{changed_if, changed_session, on_session, without_session, act_one, act_all}
use Rattle.session_model.specs.FitsSession.{greatest, is_within, is_wide, wide_count, are_within, change_fits}
use Rattle.session_model.specs.FitsSession.{changes_fit, finds}
use Rattle.session_model.specs.Ends.{moment_of, and_ended, part_changes, is_over, owed_to, restart_owes}
use Rattle.session_model.specs.laws.OtherLaws.{other_stays}
use Rattle.turn_model.specs.PacketStep.{closed_step, expiry_after, ended_changes}
use Rattle.world_laws.specs.laws.PlaceLaws.{no_place, place_front, place_behind, place_cases}
use Rattle.world_laws.specs.laws.SessionsLaws.{Differ, differ_left, place_of_left, clients_of, same_text, text_same}

-- ---- limits

-- what it says that sessions are within their limits
pub record WithinLimits (profile : Profile) (ms : List PlainSession) : Type 0 where
  pub few : length ms ≤ profile.sessions
  pub few_wide : wide_count profile ms ≤ profile.wide_sessions
  pub each : list_all (is_within profile) ms ≡ true

pub within_told : (profile : Profile) (s : Sessions) → are_within profile s ≡ true → WithinLimits profile s.list
within_told profile s is =
    let one = and_parts (nat_le (length s.list) profile.sessions)
    (nat_le (wide_count profile s.list) profile.wide_sessions && list_all (is_within profile) s.list) is in
    let two = and_parts (nat_le (wide_count profile s.list) profile.wide_sessions)
    (list_all (is_within profile) s.list) one.1 in
    record {
      few = leb-true (length s.list) profile.sessions one.0;
      few_wide = leb-true (wide_count profile s.list) profile.wide_sessions two.0;
      each = two.1;
    }

pub within_from : (profile : Profile) (s : Sessions) → WithinLimits profile s.list → are_within profile s ≡ true
within_from profile s is =
    and_from (nat_le (length s.list) profile.sessions)
    (nat_le (wide_count profile s.list) profile.wide_sessions && list_all (is_within profile) s.list)
    (le-leb (length s.list) profile.sessions is.few)
    (and_from (nat_le (wide_count profile s.list) profile.wide_sessions) (list_all (is_within profile) s.list)
    (le-leb (wide_count profile s.list) profile.wide_sessions is.few_wide) is.each)

module _ {A : Type 0} where
  fewer_left : (test : A → Bool) (xs : List A) → length (filter test xs) ≤ length xs
  fewer_left test [] = omega arith
  fewer_left test (x ∷ xs) = by (test x) (fewer_left test xs)
    where
      by : (b : Bool) → length (filter test xs) ≤ length xs →
          length (if b then x ∷ filter test xs else filter test xs) ≤ length (x ∷ xs)
      by true less = omega arith
      by false less = omega arith

  -- those of some that pass a test are no more
  fewer_pass : (test counts : A → Bool) (xs : List A) → length (filter counts (filter test xs)) ≤ length
      (filter counts xs)
  fewer_pass test counts [] = omega arith
  fewer_pass test counts (x ∷ xs) = by (test x) (counts x) refl (fewer_pass test counts xs)
    where
      by : (b c : Bool) → counts x ≡ c → length (filter counts (filter test xs)) ≤ length (filter counts xs) →
          length (filter counts (if b then x ∷ filter test xs else filter test xs))
          ≤ length (if c then x ∷ filter counts xs else filter counts xs)
      by true true is less =
          rw is (let more : suc (length (filter counts (filter test xs))) ≤ suc
          (length (filter counts xs)) = omega arith
          in more)
      by true false is less = rw is less
      by false true is less = omega arith
      by false false is less = less

  each_left : (test its : A → Bool) (xs : List A) → list_all its xs ≡ true → list_all its (filter test xs) ≡ true
  each_left test its [] is = refl
  each_left test its (x ∷ xs) is =
      by (test x) (and_parts (its x) (list_all its xs) is) (each_left test its xs)
    where
      by : (b : Bool) → (its x ≡ true) × (list_all its xs ≡ true) →
          (list_all its xs ≡ true → list_all its (filter test xs) ≡ true) →
          list_all its (if b then x ∷ filter test xs else filter test xs) ≡ true
      by true parts rest = and_from (its x) (list_all its (filter test xs)) parts.0 (rest parts.1)
      by false parts rest = rest parts.1

-- behind an end fewer are left
pub ended_within : (profile : Profile) (s : Sessions) (client : List ℕ) → are_within profile s ≡ true →
    are_within profile (act_one s (change client Ended)) ≡ true
ended_within profile s client is =
    let told = within_told profile s is in
    let test : PlainSession → Bool = λ (m : PlainSession). not (bytes_eq m.client client) in
    let left : Sessions = record s { list = without_session client s.list } in
    let fewer : length left.list ≤ length s.list = fewer_left test s.list in
    let fewer_wide : wide_count profile left.list ≤ wide_count profile s.list =
    fewer_pass test (is_wide profile) s.list in
    let few = told.few in
    let few_wide = told.few_wide in
    within_from profile left
    (record {
      few = omega arith;
      few_wide = omega arith;
      each = each_left test (is_within profile) s.list told.each;
    })

-- a change that leaves a test its answer leaves as many that pass it
module _ (client : List ℕ) (f : PlainSession → PlainSession) where
  as_many : (ms : List PlainSession) → length (on_session client f ms) ≡ length ms
  as_many [] = refl
  as_many (m ∷ ms) = ap suc (as_many ms)

  same_count : (test : PlainSession → Bool) → ((m : PlainSession) → test (f m) ≡ test m) → (ms : List PlainSession) →
      length (filter test (on_session client f ms)) ≡ length (filter test ms)
  same_count test same [] = refl
  same_count test same (m ∷ ms) = by (bytes_eq m.client client) (same_count test same ms)
    where
      more : (b : Bool) (first second : List PlainSession) (x y : PlainSession) → length first ≡ length second →
          length (if b then x ∷ first else first) ≡ length (if b then y ∷ second else second)
      more true first second x y rest = ap suc rest
      more false first second x y rest = rest

      by : (b : Bool) → length (filter test (on_session client f ms)) ≡ length (filter test ms) →
          length (filter test (changed_if b f m ∷ on_session client f ms)) ≡ length (filter test (m ∷ ms))
      by true rest =
          ap (λ b. length
          (if b then f m ∷ filter test (on_session client f ms) else filter test (on_session client f ms))) (same m)
          ∙ more (test m) (filter test (on_session client f ms)) (filter test ms) (f m) m rest
      by false rest = more (test m) (filter test (on_session client f ms)) (filter test ms) m m rest

  same_each : (test : PlainSession → Bool) → ((m : PlainSession) → test (f m) ≡ test m) → (ms : List PlainSession) →
      list_all test (on_session client f ms) ≡ list_all test ms
  same_each test same [] = refl
  same_each test same (m ∷ ms) = by (bytes_eq m.client client) (same_each test same ms)
    where
      by : (b : Bool) → list_all test (on_session client f ms) ≡ list_all test ms →
          list_all test (changed_if b f m ∷ on_session client f ms) ≡ list_all test (m ∷ ms)
      by true rest = ap (λ b. b && list_all test (on_session client f ms)) (same m) ∙ ap (λ b. test m && b) rest
      by false rest = ap (λ b. test m && b) rest

  changed_within : (profile : Profile) → ((m : PlainSession) → is_within profile (f m) ≡ is_within profile m) →
      ((m : PlainSession) → is_wide profile (f m) ≡ is_wide profile m) → (s : Sessions) →
      are_within profile s ≡ true → are_within profile (record s { list = on_session client f s.list }) ≡ true
  changed_within profile same same_wide s is =
      let told = within_told profile s is in
      let few = told.few in
      let few_wide = told.few_wide in
      let many = as_many s.list in
      let many_wide = same_count (is_wide profile) same_wide s.list in
      within_from profile (record s { list = on_session client f s.list })
      (record {
        few = omega arith;
        few_wide = omega arith;
        each = same_each (is_within profile) same s.list ∙ told.each;
      })

-- a session that is bound, or has parted, is as great as before
pub bound_within : (profile : Profile) (s : Sessions) (client : List ℕ) (expiry : ℕ) → are_within profile s ≡ true →
    are_within profile (act_one s (change client (Bound expiry))) ≡ true
bound_within profile s client expiry is =
    changed_within client (changed_session (Bound expiry)) profile (λ m. refl) (λ m. refl) s is

pub parted_within : (profile : Profile) (s : Sessions) (client : List ℕ) (p : Parts) → are_within profile s ≡ true →
    are_within profile (act_one s (change client (Parted p))) ≡ true
parted_within profile s client p is =
    changed_within client (changed_session (Parted p)) profile (λ m. refl) (λ m. refl) s is

-- ---- ends

pub ended_fits : (profile : Profile) (s : Sessions) (client : List ℕ) (m : PlainSession) →
    are_within profile s ≡ true → session_of client s ≡ Some m → change_fits profile s (change client Ended) ≡ true
ended_fits profile s client m is has =
    and_from (finds s Ended (session_of client s)) (are_within profile (act_one s (change client Ended)))
    (ap (finds s Ended) has) (ended_within profile s client is)

pub bound_fits : (profile : Profile) (s : Sessions) (client : List ℕ) (m : PlainSession) (expiry : ℕ) →
    are_within profile s ≡ true → session_of client s ≡ Some m →
    change_fits profile s (change client (Bound expiry)) ≡ true
bound_fits profile s client m expiry is has =
    and_from (finds s (Bound expiry) (session_of client s))
    (are_within profile (act_one s (change client (Bound expiry)))) (ap (finds s (Bound expiry)) has)
    (bound_within profile s client expiry is)

pub parted_fits : (profile : Profile) (s : Sessions) (client : List ℕ) (m : PlainSession) (p : Parts) →
    are_within profile s ≡ true → session_of client s ≡ Some m → p.moment < greatest →
    change_fits profile s (change client (Parted p)) ≡ true
parted_fits profile s client m p is has below =
    and_from (finds s (Parted p) (session_of client s))
    (are_within profile (act_one s (change client (Parted p))))
    (ap (finds s (Parted p)) has ∙ lt-ltb p.moment greatest below)
    (parted_within profile s client p is)

-- the session of a client is found behind a change of it
found_changed : (client : List ℕ) (f : PlainSession → PlainSession) → ((m : PlainSession) → (f m).client ≡ m.client) →
    (ms : List PlainSession) (m : PlainSession) → find (λ (n : PlainSession). bytes_eq n.client client) ms ≡ Some m →
    find (λ (n : PlainSession). bytes_eq n.client client) (on_session client f ms) ≡ Some (f m)
found_changed client f keeps [] m has = absurd (none-some m has)
found_changed client f keeps (n ∷ ms) m has =
    by (bytes_eq n.client client) refl has (found_changed client f keeps ms m)
  where
    by : (b : Bool) → bytes_eq n.client client ≡ b →
        (if b then Some n else find (λ (n : PlainSession). bytes_eq n.client client) ms) ≡ Some m →
        (find (λ (n : PlainSession). bytes_eq n.client client) ms ≡ Some m →
        find (λ (n : PlainSession). bytes_eq n.client client) (on_session client f ms) ≡ Some (f m)) →
        find (λ (n : PlainSession). bytes_eq n.client client) (changed_if b f n ∷ on_session client f ms) ≡ Some (f m)
    by true here is rest =
        ap (λ b. if b then Some (f n)
        else find (λ (n : PlainSession). bytes_eq n.client client) (on_session client f ms))
        (ap (λ c. bytes_eq c client) (keeps n) ∙ here)
        ∙ ap (λ n. Some (f n)) (same_Some n m is)
    by false here is rest =
        ap (λ b. if b then Some n
        else find (λ (n : PlainSession). bytes_eq n.client client) (on_session client f ms)) here
        ∙ rest is

moment_below : (now : ℕ) → moment_of now < greatest
moment_below now = omega arith

pub one_more_fits : (profile : Profile) (s : Sessions) (c : Change) (changes : List Change) →
    change_fits profile s c ≡ true → changes_fit profile (act_one s c) changes ≡ true →
    changes_fit profile s (c ∷ changes) ≡ true
one_more_fits profile s c changes one more =
    and_from (change_fits profile s c) (changes_fit profile (act_one s c) changes) one more

-- the end of a connection, whatever interval counts from then on
pub part_fits : (profile : Profile) (s : Sessions) (client : List ℕ) (m : PlainSession) (expiry now : ℕ) →
    are_within profile s ≡ true → session_of client s ≡ Some m →
    changes_fit profile s (part_changes client expiry now) ≡ true
part_fits profile s client m expiry now is has =
    one_more_fits profile s (change client (Parted p)) (and_ended expiry client)
    (parted_fits profile s client m p is has (moment_below now)) (by (expiry == 0))
  where
    p : Parts
    p = record { expiry = expiry; moment = moment_of now }

    by : (b : Bool) →
        changes_fit profile (act_one s (change client (Parted p))) (if b then change client Ended ∷ [] else []) ≡ true
    by true =
        one_more_fits profile (act_one s (change client (Parted p))) (change client Ended) []
        (ended_fits profile (act_one s (change client (Parted p))) client (changed_session (Parted p) m)
        (parted_within profile s client p is)
        (found_changed client (changed_session (Parted p)) (λ m. refl) s.list m has)) refl
    by false = refl

-- that of a connection, by a DISCONNECT or without
pub closed_fits : (profile : Profile) (s : Sessions) (m : PlainSession) (now : ℕ) (expiry : Option ℕ) →
    are_within profile s ≡ true → session_of m.client s ≡ Some m →
    changes_fit profile s (closed_step now (Some m) expiry).changes ≡ true
closed_fits profile s m now expiry is has = part_fits profile s m.client m (expiry_after m expiry) now is has

-- ---- changes one after the other

-- those at the front fit too
pub front_fits : (profile : Profile) (many : ℕ) (s : Sessions) (changes : List Change) →
    changes_fit profile s changes ≡ true → changes_fit profile s (take many changes) ≡ true
front_fits profile zero s changes fit = refl
front_fits profile (suc many) s [] fit = refl
front_fits profile (suc many) s (c ∷ changes) fit =
    let parts = and_parts (change_fits profile s c) (changes_fit profile (act_one s c) changes) fit in
    one_more_fits profile s c (take many changes) parts.0
    (front_fits profile many (act_one s c) changes parts.1)

-- behind changes that fit the sessions are within their limits
pub fitted_within : (profile : Profile) (s : Sessions) (changes : List Change) → are_within profile s ≡ true →
    changes_fit profile s changes ≡ true → are_within profile (act_all s changes) ≡ true
fitted_within profile s [] is fit = is
fitted_within profile s (c ∷ changes) is fit =
    let parts = and_parts (change_fits profile s c) (changes_fit profile (act_one s c) changes) fit in
    let one = and_parts (finds s c.effect (session_of c.client s)) (are_within profile (act_one s c)) parts.0 in
    fitted_within profile (act_one s c) changes one.1 parts.1

pub both_fit : (profile : Profile) (s : Sessions) (first more : List Change) → changes_fit profile s first ≡ true →
    changes_fit profile (act_all s first) more ≡ true → changes_fit profile s (first ++ more) ≡ true
both_fit profile s [] more fit also = also
both_fit profile s (c ∷ first) more fit also =
    let parts = and_parts (change_fits profile s c) (changes_fit profile (act_one s c) first) fit in
    one_more_fits profile s c (first ++ more) parts.0 (both_fit profile (act_one s c) first more parts.1 also)

-- the session of a client that isn't there now was found before, and is found
abbrev pub IsFound : Sessions → List ℕ → Type 0
IsFound s client = (m : PlainSession) × (session_of client s ≡ Some m)

-- Changes for each of some sessions: those of one fit where it is found, and leave the sessions of other clients.
record AreOwn (profile : Profile) (its : PlainSession → List Change) : Type 0 where
  fit : (s : Sessions) (m n : PlainSession) → are_within profile s ≡ true → session_of m.client s ≡ Some n →
      changes_fit profile s (its m) ≡ true
  stay : (s : Sessions) (m : PlainSession) (other : List ℕ) → bytes_eq m.client other ≡ false →
      session_of other (act_all s (its m)) ≡ session_of other s

-- a client that stands further on is another
other_client : (first : List ℕ) (more : List (List ℕ)) (other : List ℕ) → (HasPlace more first → ⊥) →
    HasPlace more other → bytes_eq first other ≡ false
other_client first more other alone has = by (bytes_eq first other) refl
  where
    by : (b : Bool) → bytes_eq first other ≡ b → b ≡ false
    by false is = refl
    by true is = absurd (alone (subst (HasPlace more) (sym (same_text first other is)) has))

all_own_fit : (profile : Profile) (its : PlainSession → List Change) → AreOwn profile its → (s : Sessions)
    (ms : List PlainSession) → are_within profile s ≡ true → Differ (clients_of ms) →
    ((client : List ℕ) → HasPlace (clients_of ms) client → IsFound s client) →
    changes_fit profile s (flat_map its ms) ≡ true
all_own_fit profile its own s [] is differ found = refl
all_own_fit profile its own s (m ∷ ms) is differ found =
    let here = found m.client (place_front m.client (clients_of ms)) in
    let fit = own.fit s m here.0 is here.1 in
    both_fit profile s (its m) (flat_map its ms) fit
    (all_own_fit profile its own (act_all s (its m)) ms (fitted_within profile s (its m) is fit) differ.1
    (λ other has.
    let there = found other (place_behind m.client other (clients_of ms) has) in
    (there.0, own.stay s m other (other_client m.client (clients_of ms) other differ.0 has) ∙ there.1)))

-- the session of a client that one of these has is found
client_found : (s : Sessions) (client : List ℕ) → HasPlace (clients_of s.list) client → IsFound s client
client_found s client has = by s.list has
  where
    by : (ms : List PlainSession) → HasPlace (clients_of ms) client →
        (m : PlainSession) × (find (λ (n : PlainSession). bytes_eq n.client client) ms ≡ Some m)
    by [] has = absurd (no_place client has)
    by (m ∷ ms) has = at (bytes_eq m.client client) refl (place_cases m.client client (clients_of ms) has) (by ms)
      where
        at : (b : Bool) → bytes_eq m.client client ≡ b → (client ≡ m.client) ⊎ HasPlace (clients_of ms) client →
            (HasPlace (clients_of ms) client →
            (k : PlainSession) × (find (λ (n : PlainSession). bytes_eq n.client client) ms ≡ Some k)) →
            (k : PlainSession)
            × ((if b then Some m else find (λ (n : PlainSession). bytes_eq n.client client) ms) ≡ Some k)
        at true is cases rest = (m, refl)
        at false is (inl same) rest = absurd (true≢false (sym (text_same m.client client (sym same)) ∙ is))
        at false is (inr later) rest = rest later

-- ---- a Tick

ends_own : (profile : Profile) → AreOwn profile (λ (m : PlainSession). change m.client Ended ∷ [])
ends_own profile =
    record {
      fit = λ s m n is has.
          one_more_fits profile s (change m.client Ended) [] (ended_fits profile s m.client n is has) refl;
      stay = λ s m other differ. other_stays s m.client other Ended differ;
    }

ends_in_a_row : (ms : List PlainSession) →
    flat_map (λ (m : PlainSession). change m.client Ended ∷ []) ms
    ≡ map (λ (m : PlainSession). change m.client Ended) ms
ends_in_a_row [] = refl
ends_in_a_row (m ∷ ms) = ap (λ changes. change m.client Ended ∷ changes) (ends_in_a_row ms)

-- the ends of all sessions that are over
pub ended_changes_fit : (profile : Profile) (s : Sessions) (now : ℕ) → are_within profile s ≡ true →
    Differ (clients_of s.list) → changes_fit profile s (ended_changes now s) ≡ true
ended_changes_fit profile s now is differ =
    ap (changes_fit profile s) (sym (ends_in_a_row (filter (is_over now) s.list)))
    ∙ all_own_fit profile (λ (m : PlainSession). change m.client Ended ∷ []) (ends_own profile) s
    (filter (is_over now) s.list) is (differ_left (λ (m : PlainSession). m.client) (is_over now) s.list differ)
    (λ client has.
    client_found s client (place_of_left (λ (m : PlainSession). m.client) (is_over now) s.list client has))

-- and some of them, from the first on
pub tick_fits : (profile : Profile) (s : Sessions) (now many : ℕ) → are_within profile s ≡ true →
    Differ (clients_of s.list) → changes_fit profile s (take many (ended_changes now s)) ≡ true
tick_fits profile s now many is differ =
    front_fits profile many s (ended_changes now s) (ended_changes_fit profile s now is differ)

-- ---- a restart

parts_stay : (s : Sessions) (client other : List ℕ) (expiry now : ℕ) → bytes_eq client other ≡ false →
    session_of other (act_all s (part_changes client expiry now)) ≡ session_of other s
parts_stay s client other expiry now differ = by (expiry == 0)
  where
    p : Parts
    p = record { expiry = expiry; moment = moment_of now }

    by : (b : Bool) →
        session_of other
        (act_all (act_one s (change client (Parted p))) (if b then change client Ended ∷ [] else []))
        ≡ session_of other s
    by true =
        other_stays (act_one s (change client (Parted p))) client other Ended differ
        ∙ other_stays s client other (Parted p) differ
    by false = other_stays s client other (Parted p) differ

owed_own : (profile : Profile) (now : ℕ) → AreOwn profile (λ (m : PlainSession). owed_to now m.parted m)
owed_own profile now =
    record {
      fit = λ s m n is has. fit s m n is has m.parted;
      stay = λ s m other differ. stay s m other differ m.parted;
    }
  where
    fit : (s : Sessions) (m n : PlainSession) → are_within profile s ≡ true → session_of m.client s ≡ Some n →
        (parted : Option ℕ) → changes_fit profile s (owed_to now parted m) ≡ true
    fit s m n is has None = part_fits profile s m.client n m.expiry now is has
    fit s m n is has (Some moment) = refl

    stay : (s : Sessions) (m : PlainSession) (other : List ℕ) → bytes_eq m.client other ≡ false →
        (parted : Option ℕ) → session_of other (act_all s (owed_to now parted m)) ≡ session_of other s
    stay s m other differ None = parts_stay s m.client other m.expiry now differ
    stay s m other differ (Some moment) = refl

-- what a restart owes, and some of it, from the first on
pub restart_fits : (profile : Profile) (s : Sessions) (now : ℕ) → are_within profile s ≡ true →
    Differ (clients_of s.list) → changes_fit profile s (restart_owes now s) ≡ true
restart_fits profile s now is differ =
    all_own_fit profile (λ (m : PlainSession). owed_to now m.parted m) (owed_own profile now) s s.list is differ
    (client_found s)

pub some_owed_fit : (profile : Profile) (s : Sessions) (now many : ℕ) → are_within profile s ≡ true →
    Differ (clients_of s.list) → changes_fit profile s (take many (restart_owes now s)) ≡ true
some_owed_fit profile s now many is differ =
    front_fits profile many s (restart_owes now s) (restart_fits profile s now is differ)
