-- How many versions a session keeps.
use Rattle.std.proofs.Common.{◌≡◌, ◌⊎◌, inl, inr, ℕ, suc, ◌+◌, ◌≤◌, Bool, true, false, ◌&&◌, ◌||◌, ◌==◌, if◌then◌else◌, nat_le, nat_lt, List, [], ◌∷◌, ◌++◌, length, map, filter, refl, sym, ap, ◌∙◌, true≢false, arith, length-append}
use Rattle.std.specs.List.{list_all}
use Rattle.std.proofs.lemmas.Bool.{and_parts, and_from, or_cases, eqb-true}
use Rattle.std.proofs.lemmas.Bool.Decides.{nat_tests}
use Rattle.std.proofs.lemmas.List.{length-map}
use Rattle.std.proofs.lemmas.List.Folds.{list_any-append}
use Rattle.topic_model.specs.Profile.{whole}
use Rattle.session_model.specs.PlainSession.{has}
use Rattle.session_model.specs.declared.entry.Version.{Version}
use Rattle.seq_tracks.specs.PlainTracks.{in_use}
use Rattle.session_state.specs.declared.batch.Batch.{Batch}
use Rattle.session_state.specs.KeptSub.{KeptSub}
use Rattle.session_state.specs.KeptSession.{KeptSession}
use Rattle.session_state.specs.KeptActing.{has_unfinished, is_named, is_present}
use Rattle.session_state.specs.KeptFits.{has_filters, is_window, kept_within, live_count, subs_within, text_bytes}
use Rattle.session_state.specs.SoundTest.{has_facts, is_needed, is_sound, is_tidy, is_wanted, rise, version_numbers}
use Rattle.session_state.specs.FilterLaws.{filter_shorter}
use Rattle.session_state.specs.FactLaws.{facts_from_test}
use Rattle.session_state.specs.SoundLaws.{few_batches}

-- ---- ascending numbers that are all among others

at_least : (a b c : ℕ) → a ≤ b → nat_le b c ≡ true → nat_le a c ≡ true
at_least a b c less h = grind (arith, nat_tests)

fewer_from : (low high : ℕ) (ys : List ℕ) → low ≤ high → length (filter (λ (y : ℕ). nat_le high y) ys) ≤ length (filter (λ (y : ℕ). nat_le low y) ys)
fewer_from low high [] less = omega arith
fewer_from low high (y ∷ ys) less = by (nat_le high y) (nat_le low y) refl refl (fewer_from low high ys less)
  where
    by : (h l : Bool) → nat_le high y ≡ h → nat_le low y ≡ l → length (filter (λ (x : ℕ). nat_le high x) ys) ≤ length (filter (λ (x : ℕ). nat_le low x) ys) →
        length (if h then y ∷ filter (λ (x : ℕ). nat_le high x) ys else filter (λ (x : ℕ). nat_le high x) ys)
        ≤ length (if l then y ∷ filter (λ (x : ℕ). nat_le low x) ys else filter (λ (x : ℕ). nat_le low x) ys)
    by true true is_h is_l rest = omega arith
    by true false is_h is_l rest = absurd (true≢false (sym (at_least low high y less is_h) ∙ is_l))
    by false true is_h is_l rest = omega arith
    by false false is_h is_l rest = rest

more_from : (low n : ℕ) (ys : List ℕ) → low ≤ n → has ys n ≡ true → suc (length (filter (λ (y : ℕ). nat_le (n + 1) y) ys)) ≤ length (filter (λ (y : ℕ). nat_le low y) ys)
more_from low n [] less there = absurd (true≢false (sym there))
more_from low n (y ∷ ys) less there =
    by (or_cases (y == n) (has ys n) there) (nat_le (n + 1) y) (nat_le low y) refl refl (λ later. more_from low n ys less later)
    (fewer_from low (n + 1) ys (omega arith))
  where
    itself : (a : ℕ) → nat_le (a + 1) a ≡ false
    itself a = grind (arith, nat_tests)

    reached : (a b : ℕ) → a ≤ b → nat_le a b ≡ true
    reached a b h = grind (arith, nat_tests)

    beyond : (a b c : ℕ) → a ≤ b → nat_le (b + 1) c ≡ true → nat_le a c ≡ true
    beyond a b c h k = grind (arith, nat_tests)

    by : ((y == n) ≡ true) ⊎ (has ys n ≡ true) → (h l : Bool) → nat_le (n + 1) y ≡ h → nat_le low y ≡ l →
        (has ys n ≡ true → suc (length (filter (λ (x : ℕ). nat_le (n + 1) x) ys)) ≤ length (filter (λ (x : ℕ). nat_le low x) ys)) →
        length (filter (λ (x : ℕ). nat_le (n + 1) x) ys) ≤ length (filter (λ (x : ℕ). nat_le low x) ys) →
        suc (length (if h then y ∷ filter (λ (x : ℕ). nat_le (n + 1) x) ys else filter (λ (x : ℕ). nat_le (n + 1) x) ys))
        ≤ length (if l then y ∷ filter (λ (x : ℕ). nat_le low x) ys else filter (λ (x : ℕ). nat_le low x) ys)
    by (inl same) true l is_h is_l rest fewer = absurd (true≢false (sym is_h ∙ ap (nat_le (n + 1)) (eqb-true y n same) ∙ itself n))
    by (inl same) false true is_h is_l rest fewer = omega arith
    by (inl same) false false is_h is_l rest fewer = absurd (true≢false (sym (reached low n less) ∙ ap (nat_le low) (sym (eqb-true y n same)) ∙ is_l))
    by (inr later) true true is_h is_l rest fewer = let r = rest later in omega arith
    by (inr later) true false is_h is_l rest fewer = absurd (true≢false (sym (beyond low n y less is_h) ∙ is_l))
    by (inr later) false true is_h is_l rest fewer = let r = rest later in omega arith
    by (inr later) false false is_h is_l rest fewer = rest later

few_numbers : (low next : ℕ) (ns ys : List ℕ) → rise low next ns ≡ true → list_all (has ys) ns ≡ true → length ns ≤ length (filter (λ (y : ℕ). nat_le low y) ys)
few_numbers low next [] ys up all = omega arith
few_numbers low next (n ∷ ns) ys up all =
    let parts = and_parts (nat_le low n) (nat_lt n next && rise (n + 1) next ns) up in
    let more = and_parts (nat_lt n next) (rise (n + 1) next ns) parts.1 in
    let own = and_parts (has ys n) (list_all (has ys) ns) all in
    let rest = few_numbers (n + 1) next ns ys more.1 own.1 in
    let one = more_from low n ys (number low n parts.0) own.0 in
    omega arith
  where
    number : (a c : ℕ) → nat_le a c ≡ true → a ≤ c
    number a c h = grind (arith, nat_tests)

-- ---- versions

-- the versions that live subscriptions have, and those that batches name
abbrev live_versions : List KeptSub → List ℕ
live_versions subs = map (λ (s : KeptSub). s.version) (filter (λ (s : KeptSub). s.live) subs)

abbrev named_versions : List Batch → List ℕ
named_versions batches = map (λ (b : Batch). b.version) batches

has_present : (subs : List KeptSub) (v : Version) → is_present subs v ≡ has (live_versions subs) v.number
has_present [] v = refl
has_present (s ∷ subs) v = by s.live (has_present subs v)
  where
    by : (l : Bool) → is_present subs v ≡ has (live_versions subs) v.number →
        ((l && (s.version == v.number)) || is_present subs v)
        ≡ has (map (λ (x : KeptSub). x.version) (if l then s ∷ filter (λ (x : KeptSub). x.live) subs else filter (λ (x : KeptSub). x.live) subs)) v.number
    by true rest = ap (λ b. (s.version == v.number) || b) rest
    by false rest = rest

has_named : (batches : List Batch) (v : Version) → is_named batches v ≡ has (named_versions batches) v.number
has_named [] v = refl
has_named (b ∷ batches) v = ap (λ c. (b.version == v.number) || c) (has_named batches v)

all_there : (subs : List KeptSub) (batches : List Batch) (versions : List Version) → list_all (is_needed subs batches) versions ≡ true →
    list_all (has (live_versions subs ++ named_versions batches)) (version_numbers versions) ≡ true
all_there subs batches [] all = refl
all_there subs batches (v ∷ versions) all =
    let parts = and_parts (is_needed subs batches v) (list_all (is_needed subs batches) versions) all in
    and_from (has (live_versions subs ++ named_versions batches) v.number) (list_all (has (live_versions subs ++ named_versions batches)) (version_numbers versions))
    (list_any-append (λ (d : ℕ). d == v.number) (live_versions subs) (named_versions batches)
    ∙ ap (λ a. a || has (named_versions batches) v.number) (sym (has_present subs v))
    ∙ ap (λ a. is_present subs v || a) (sym (has_named batches v))
    ∙ parts.0)
    (all_there subs batches versions parts.1)

-- no more than there are live subscriptions and batches
pub few_versions : (m : KeptSession) → is_sound m ≡ true → length m.versions ≤ 64 + m.window
few_versions m is =
    let parts = and_parts (kept_within whole m) (is_tidy m && has_facts m) is in
    let more = and_parts (is_tidy m) (has_facts m) parts.1 in
    let tidy = and_parts (list_all (has_unfinished m.tracks) m.batches) (list_all (is_needed m.subs m.batches) m.versions && list_all (is_wanted m.versions) m.subs) more.0 in
    let needed = (and_parts (list_all (is_needed m.subs m.batches) m.versions) (list_all (is_wanted m.versions) m.subs) tidy.1).0 in
    let ys = live_versions m.subs ++ named_versions m.batches in
    let few = few_numbers 0 m.next_version (version_numbers m.versions) ys (facts_from_test m more.1).versions (all_there m.subs m.batches m.versions needed) in
    let shorter = filter_shorter (λ (y : ℕ). nat_le 0 y) ys in
    let long = length-append (live_versions m.subs) (named_versions m.batches) in
    let live = length-map (filter (λ (s : KeptSub). s.live) m.subs) (λ (s : KeptSub). s.version) in
    let named = length-map m.batches (λ (b : Batch). b.version) in
    let numbers = length-map m.versions (λ (v : Version). v.number) in
    let batches = few_batches m is in
    let p = and_parts (nat_le (length m.client) 256) (is_window whole m.window && (subs_within whole m.subs && nat_le (in_use m.tracks) m.window)) parts.0 in
    let q = and_parts (is_window whole m.window) (subs_within whole m.subs && nat_le (in_use m.tracks) m.window) p.1 in
    let subs = (and_parts (subs_within whole m.subs) (nat_le (in_use m.tracks) m.window) q.1).0 in
    let lives : live_count m.subs ≤ 64 = number (live_count m.subs) 64 (and_parts (nat_le (live_count m.subs) 64) (has_filters m.subs && nat_le (text_bytes m.subs) 65536) subs).0 in
    omega arith
  where
    number : (a c : ℕ) → nat_le a c ≡ true → a ≤ c
    number a c h = grind (arith, nat_tests)
