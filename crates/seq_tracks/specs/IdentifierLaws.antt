-- Unfinished numbers have different identifiers, so an identifier tells its number (MQTT 2.2.1).
use Rattle.std.proofs.Common.{◌≡◌, ◌↔◌, ◌⊎◌, inl, inr, ℕ, ◌+◌, ◌-◌, ◌≤◌, ◌<◌, Bool, true, false, ◌&&◌, ◌||◌, not, ◌==◌, if◌then◌else◌, nat_le, nat_lt, List, [], ◌∷◌, find, Option, Some, None, true≢false, refl, sym, ap, ◌∙◌, arith}
use Rattle.std.proofs.lemmas.Bool.{and_parts, or_parts, or_cases, or_left, or_right, ltb-true, leb-true, leb-false, eqb-true, eq-eqb, not-true, false_from_ne_true}
use Rattle.std.proofs.lemmas.Bool.Decides.{nat_tests}
use Rattle.std.proofs.lemmas.Option.{none-some, same_Some}
use Rattle.session_model.specs.Acting.{numbers_from}
use Rattle.session_model.specs.PlainSession.{has}
use Rattle.session_model.specs.laws.IdentifierLaws.{id1_once, id2_once, never_meet}
use Rattle.seq_tracks.specs.declared.marks.TheConstants.{WIDEST_WINDOW}
use Rattle.seq_tracks.specs.PlainTracks.{PlainTracks, is_done, is_unfinished1, is_unfinished2, is_unfinished, in_use}
use Rattle.seq_tracks.specs.InOrder.{InOrder}
use Rattle.seq_tracks.specs.Identifiers.{id_of, unfinished1, unfinished2, unfinished_on, seq_of, HasIdentifier}
use Rattle.seq_tracks.specs.ListLaws.{has-from, has-filter}

-- ---- what is unfinished on which track

abbrev OnTrack : PlainTracks → ℕ → ℕ → Type 0
OnTrack t track n = ((track ≡ 1) × (t.acked < n) × (n ≤ t.issued1)) ⊎ ((track ≡ 2) × (t.complete < n) × (n ≤ t.issued2))

on_track : (t : PlainTracks) (track n : ℕ) → is_unfinished t track n ≡ true → OnTrack t track n
on_track t track n is = by (track == 1) refl is
  where
    second : (c : Bool) → (track == 2) ≡ c → (if c then is_unfinished2 t n else false) ≡ true → OnTrack t track n
    second true two is =
        let parts = and_parts (nat_le n t.issued2) (not (is_done t n)) is in
        let rest = or_parts (nat_le n t.complete) (has t.done n) (not-true (is_done t n) parts.1) in
        inr (eqb-true track 2 two, leb-false n t.complete rest.0, leb-true n t.issued2 parts.0)
    second false two is = absurd (true≢false (sym is))

    by : (b : Bool) → (track == 1) ≡ b → (if b then is_unfinished1 t n else if track == 2 then is_unfinished2 t n else false) ≡ true → OnTrack t track n
    by true one is =
        let parts = and_parts (nat_lt t.acked n) (nat_le n t.issued1) is in inl (eqb-true track 1 one, ltb-true t.acked n parts.0, leb-true n t.issued1 parts.1)
    by false one is = second (track == 2) refl is

pub identifiers_once : (t : PlainTracks) (track other n k : ℕ) → in_use t ≤ WIDEST_WINDOW →
    is_unfinished t track n ≡ true → is_unfinished t other k ≡ true → id_of track n ≡ id_of other k → (track ≡ other) × (n ≡ k)
identifiers_once t track other n k within n_is k_is same = by (on_track t track n n_is) (on_track t other k k_is)
  where
    ids : (a b : ℕ) → track ≡ a → other ≡ b → id_of a n ≡ id_of b k
    ids a b is_a is_b = ap (λ x. id_of x n) (sym is_a) ∙ same ∙ ap (λ x. id_of x k) is_b

    by : OnTrack t track n → OnTrack t other k → (track ≡ other) × (n ≡ k)
    by (inl a) (inl b) =
        let low_n = a.1 in
        let high_n = a.2 in
        let low_k = b.1 in
        let high_k = b.2 in
        (a.0 ∙ sym b.0, id1_once n k (omega arith) (omega arith) (omega arith) (omega arith) (ids 1 1 a.0 b.0))
    by (inr a) (inr b) =
        let low_n = a.1 in
        let high_n = a.2 in
        let low_k = b.1 in
        let high_k = b.2 in
        (a.0 ∙ sym b.0, id2_once n k (omega arith) (omega arith) (omega arith) (omega arith) (ids 2 2 a.0 b.0))
    by (inl a) (inr b) = absurd (never_meet n k (ids 1 2 a.0 b.0))
    by (inr a) (inl b) = absurd (never_meet k n (sym (ids 2 1 a.0 b.0)))

-- ---- the list of unfinished numbers has those that are unfinished

pub has-unfinished1 : (t : PlainTracks) (n : ℕ) → has (unfinished1 t) n ≡ is_unfinished1 t n
has-unfinished1 t n = has-from (t.acked + 1) (t.issued1 - t.acked) n ∙ grind (arith, nat_tests)

pub has-unfinished2 : (t : PlainTracks) (n : ℕ) → has (unfinished2 t) n ≡ is_unfinished2 t n
has-unfinished2 t n =
    has-filter (λ (k : ℕ). not (is_done t k)) (numbers_from (t.complete + 1) (t.issued2 - t.complete)) n
    ∙ ap (λ b. b && not (is_done t n)) (has-from (t.complete + 1) (t.issued2 - t.complete) n)
    ∙ by (has t.done n)
  where
    by : (b : Bool) → ((nat_le (t.complete + 1) n && nat_lt n (t.complete + 1 + (t.issued2 - t.complete))) && not (nat_le n t.complete || b)) ≡ (nat_le n t.issued2 && not (nat_le n t.complete || b))
    by true = grind (arith, nat_tests)
    by false = grind (arith, nat_tests)

pub has-unfinished : (t : PlainTracks) (track n : ℕ) → has (unfinished_on t track) n ≡ is_unfinished t track n
has-unfinished t track n = by (track == 1) (track == 2)
  where
    by : (b c : Bool) → has (if b then unfinished1 t else if c then unfinished2 t else []) n ≡ (if b then is_unfinished1 t n else if c then is_unfinished2 t n else false)
    by true c = has-unfinished1 t n
    by false true = has-unfinished2 t n
    by false false = refl

-- ---- the first that passes

find_passes : (test : ℕ → Bool) (xs : List ℕ) (n : ℕ) → find test xs ≡ Some n → (has xs n ≡ true) × (test n ≡ true)
find_passes test [] n is = absurd (none-some n is)
find_passes test (x ∷ xs) n is = by (test x) refl is (find_passes test xs n)
  where
    by : (b : Bool) → test x ≡ b → (if b then Some x else find test xs) ≡ Some n → (find test xs ≡ Some n → (has xs n ≡ true) × (test n ≡ true)) →
        (((x == n) || has xs n) ≡ true) × (test n ≡ true)
    by true passes is rest =
        let same : x ≡ n = same_Some x n is in
        (ap (λ b. b || has xs n) (eq-eqb x n same), ap test (sym same) ∙ passes)
    by false passes is rest = let found = rest is in (or_right (x == n) (has xs n) found.0, found.1)

find_none : (test : ℕ → Bool) (xs : List ℕ) → ((n : ℕ) → has xs n ≡ true → test n ≡ false) → find test xs ≡ None
find_none test [] none = refl
find_none test (x ∷ xs) none =
    ap (λ (b : Bool). if b then Some x else find test xs) (none x (or_left (x == x) (has xs x) (eq-eqb x x refl)))
    ∙ find_none test xs (λ n found. none n (or_right (x == n) (has xs n) found))

find_some : (test : ℕ → Bool) (xs : List ℕ) (n : ℕ) → has xs n ≡ true → test n ≡ true → (k : ℕ) × (find test xs ≡ Some k)
find_some test [] n there passes = absurd (true≢false (sym there))
find_some test (x ∷ xs) n there passes = by (test x) refl (or_cases (x == n) (has xs n) there) (λ later. find_some test xs n later passes)
  where
    by : (b : Bool) → test x ≡ b → ((x == n) ≡ true) ⊎ (has xs n ≡ true) → (has xs n ≡ true → (k : ℕ) × (find test xs ≡ Some k)) →
        (k : ℕ) × ((if b then Some x else find test xs) ≡ Some k)
    by true is found rest = (x, refl)
    by false is (inl same) rest = absurd (true≢false (sym (ap test (eqb-true x n same) ∙ passes) ∙ is))
    by false is (inr later) rest = rest later

find_only : (test : ℕ → Bool) (xs : List ℕ) (n : ℕ) → has xs n ≡ true → test n ≡ true → ((k : ℕ) → has xs k ≡ true → test k ≡ true → k ≡ n) → find test xs ≡ Some n
find_only test xs n there passes only =
    let some = find_some test xs n there passes in
    let found = find_passes test xs some.0 some.1 in
    some.1 ∙ ap Some (only some.0 found.0 found.1)

-- ---- the number with an identifier

pub seq_of-some : (t : PlainTracks) (track id n : ℕ) → in_use t ≤ WIDEST_WINDOW → HasIdentifier t track id n → seq_of t track id ≡ Some n
seq_of-some t track id n within h =
    find_only (λ (k : ℕ). id_of track k == id) (unfinished_on t track) n
    (has-unfinished t track n ∙ h.unfinished) (eq-eqb (id_of track n) id h.identifier)
    (λ k there passes.
    (identifiers_once t track track k n within (sym (has-unfinished t track k) ∙ there) h.unfinished (eqb-true (id_of track k) id passes ∙ sym h.identifier)).1)

pub seq_of-none : (t : PlainTracks) (track id : ℕ) → ((n : ℕ) → HasIdentifier t track id n → ⊥) → seq_of t track id ≡ None
seq_of-none t track id none =
    find_none (λ (k : ℕ). id_of track k == id) (unfinished_on t track)
    (λ n there. false_from_ne_true (id_of track n == id)
    (λ passes. none n (record { unfinished = sym (has-unfinished t track n) ∙ there; identifier = eqb-true (id_of track n) id passes })))

-- an answer that says which number has the identifier, whichever that is, is the number
pub told_by_numbers : (t : PlainTracks) (track id : ℕ) (found : Option ℕ) → InOrder t →
    ((n : ℕ) → (found ≡ Some n) ↔ HasIdentifier t track id n) → found ≡ seq_of t track id
told_by_numbers t track id (Some n) h told = sym (seq_of-some t track id n h.window ((told n).0 refl))
told_by_numbers t track id None h told = sym (seq_of-none t track id (λ n has. none-some n ((told n).1 has)))
