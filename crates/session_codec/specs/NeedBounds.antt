-- How many versions and subscriptions a session keeps: each version is the present one of a live subscription or named by a batch, each
-- subscription is live or has a version, and their numbers differ.
use Rattle.std.proofs.Common.{◌≡◌, ℕ, ◌+◌, ◌≤◌, ◌<◌, Bool, true, false, ◌&&◌, ◌||◌, ◌==◌, eqb, if◌then◌else◌, List, [], ◌∷◌, length, filter, refl, sym, ap, ◌∙◌, arith}
use Rattle.std.specs.Prelude.{nat_lt, nat_le}
use Rattle.std.specs.List.{list_all, list_any, sum_by}
use Rattle.std.proofs.lemmas.Bool.{and_parts, eqb-true, leb-true}
use Rattle.std.proofs.lemmas.List.Sums.{sum_by-cons}
use Rattle.session_model.specs.declared.entry.Version.{Version}
use Rattle.session_state.specs.declared.batch.Batch.{Batch}
use Rattle.session_state.specs.KeptSub.{KeptSub}
use Rattle.session_state.specs.KeptFits.{live_count}
use Rattle.session_state.specs.SoundTest.{rise, is_needed, is_wanted, version_numbers, sub_numbers}

abbrev pub one_if : Bool → ℕ
one_if b = if b then 1 else 0

-- how often a number stands among others
abbrev hits : ℕ → List ℕ → ℕ
hits k ns = sum_by (λ (n : ℕ). one_if (k == n)) ns

record Once (k low : ℕ) (ns : List ℕ) : Type 0 where
  most : hits k ns ≤ 1
  below : k < low → hits k ns ≡ 0

-- at most once, if they ascend
once : (k low next : ℕ) (ns : List ℕ) → rise low next ns ≡ true → Once k low ns
once k low next [] h = record { most = omega arith; below = λ less. refl }
once k low next (n ∷ ns) h =
    let a = and_parts (nat_le low n) (nat_lt n next && rise (n + 1) next ns) h in
    let b = and_parts (nat_lt n next) (rise (n + 1) next ns) a.1 in
    by (k == n) refl (leb-true low n a.0) (once k (n + 1) next ns b.1)
  where
    by : (b : Bool) → eqb k n ≡ b → low ≤ n → Once k (n + 1) ns → Once k low (n ∷ ns)
    by true e from rest =
        let same : k ≡ n = eqb-true k n e in
        let none : hits k ns ≡ 0 = rest.below (omega arith) in
        let sum : hits k (n ∷ ns) ≡ 1 = sum_by-cons (λ (n : ℕ). one_if (k == n)) n ns ∙ ap (λ c. one_if c + hits k ns) e ∙ ap (λ x. 1 + x) none in
        record { most = omega arith; below = λ less. absurd (omega arith) }
    by false e from rest =
        let sum : hits k (n ∷ ns) ≡ 0 + hits k ns = sum_by-cons (λ (n : ℕ). one_if (k == n)) n ns ∙ ap (λ c. one_if c + hits k ns) e in
        let most = rest.most in
        record {
          most = omega arith;
          below = λ less. let none : hits k ns ≡ 0 = rest.below (omega arith) in omega arith;
        }

-- ---- counting twice

sum_of_sums : {A : Type 0} (f g : A → ℕ) (xs : List A) → sum_by (λ x. f x + g x) xs ≡ sum_by f xs + sum_by g xs
sum_of_sums f g [] = refl
sum_of_sums f g (x ∷ xs) =
    let rest : sum_by (λ x. f x + g x) xs ≡ sum_by f xs + sum_by g xs = sum_of_sums f g xs in
    omega (arith, sum_by-cons (λ x. f x + g x) x xs, sum_by-cons f x xs, sum_by-cons g x xs)

same_sum : {A : Type 0} (f g : A → ℕ) (xs : List A) → ((x : A) → f x ≡ g x) → sum_by f xs ≡ sum_by g xs
same_sum f g [] h = refl
same_sum f g (x ∷ xs) h =
    let rest : sum_by f xs ≡ sum_by g xs = same_sum f g xs h in
    sum_by-cons f x xs ∙ (λ i. h x i + rest i) ∙ sym (sum_by-cons g x xs)

no_sum : {A : Type 0} (xs : List A) → sum_by (λ x. 0) xs ≡ 0
no_sum [] = refl
no_sum (x ∷ xs) = let rest : sum_by (λ x. 0) xs ≡ 0 = no_sum xs in sum_by-cons (λ x. 0) x xs ∙ ap (λ n. 0 + n) rest

-- how many of the elements that count have this number
abbrev touching : {A : Type 0} → (A → Bool) → (A → ℕ) → List A → ℕ → ℕ
touching counts key xs n = sum_by (λ x. one_if (counts x && (key x == n))) xs

-- those with one of several numbers that differ are at most all that count
touched_few : {A : Type 0} (counts : A → Bool) (key : A → ℕ) (xs : List A) (low next : ℕ) (ns : List ℕ) → rise low next ns ≡ true →
    sum_by (touching counts key xs) ns ≤ sum_by (λ x. one_if (counts x)) xs
touched_few counts key [] low next ns h = let none = no_sum ns in omega arith
touched_few {A} counts key (x ∷ xs) low next ns h =
    let rest : sum_by (touching counts key xs) ns ≤ sum_by (λ x. one_if (counts x)) xs = touched_few counts key xs low next ns h in
    let split : sum_by (touching counts key (x ∷ xs)) ns ≡ sum_by (λ n. one_if (counts x && (key x == n))) ns + sum_by (touching counts key xs) ns =
    same_sum (touching counts key (x ∷ xs)) (λ n. one_if (counts x && (key x == n)) + touching counts key xs n) ns
    (λ n. sum_by-cons (λ x. one_if (counts x && (key x == n))) x xs)
    ∙ sum_of_sums (λ n. one_if (counts x && (key x == n))) (touching counts key xs) ns in
    let one : sum_by (λ n. one_if (counts x && (key x == n))) ns ≤ one_if (counts x) = by (counts x) in
    let all = sum_by-cons (λ (x : A). one_if (counts x)) x xs in
    omega arith
  where
    by : (b : Bool) → sum_by (λ n. one_if (b && (key x == n))) ns ≤ one_if b
    by true = (once (key x) low next ns h).most
    by false = let none = no_sum ns in omega arith

some_touches : {A : Type 0} (test : A → Bool) (xs : List A) → list_any test xs ≡ true → 1 ≤ sum_by (λ x. one_if (test x)) xs
some_touches test [] h = absurd cc
some_touches {A} test (x ∷ xs) h = by (test x) refl h (some_touches test xs)
  where
    by : (b : Bool) → test x ≡ b → (b || list_any test xs) ≡ true → (list_any test xs ≡ true → 1 ≤ sum_by (λ x. one_if (test x)) xs) →
        1 ≤ sum_by (λ x. one_if (test x)) (x ∷ xs)
    by true e h rest =
        let sum : sum_by (λ x. one_if (test x)) (x ∷ xs) ≡ 1 + sum_by (λ x. one_if (test x)) xs =
        sum_by-cons (λ x. one_if (test x)) x xs ∙ ap (λ c. one_if c + sum_by (λ x. one_if (test x)) xs) e in
        omega arith
    by false e h rest =
        let sum : sum_by (λ x. one_if (test x)) (x ∷ xs) ≡ 0 + sum_by (λ x. one_if (test x)) xs =
        sum_by-cons (λ x. one_if (test x)) x xs ∙ ap (λ c. one_if c + sum_by (λ x. one_if (test x)) xs) e in
        let some = rest h in
        omega arith

-- ---- versions

abbrev by_subs : List KeptSub → ℕ → ℕ
by_subs subs n = touching (λ (s : KeptSub). s.live) (λ (s : KeptSub). s.version) subs n

abbrev by_batches : List Batch → ℕ → ℕ
by_batches batches n = touching (λ (b : Batch). true) (λ (b : Batch). b.version) batches n

needed_sum : (subs : List KeptSub) (batches : List Batch) (vs : List Version) → list_all (is_needed subs batches) vs ≡ true →
    length vs ≤ sum_by (by_subs subs) (version_numbers vs) + sum_by (by_batches batches) (version_numbers vs)
needed_sum subs batches [] h = omega arith
needed_sum subs batches (v ∷ vs) h =
    let p = and_parts (is_needed subs batches v) (list_all (is_needed subs batches) vs) h in
    let rest : length vs ≤ sum_by (by_subs subs) (version_numbers vs) + sum_by (by_batches batches) (version_numbers vs) = needed_sum subs batches vs p.1 in
    let one : 1 ≤ by_subs subs v.number + by_batches batches v.number = by (list_any (λ (s : KeptSub). s.live && (s.version == v.number)) subs) refl p.0 in
    let first = sum_by-cons (by_subs subs) v.number (version_numbers vs) in
    let second = sum_by-cons (by_batches batches) v.number (version_numbers vs) in
    omega arith
  where
    by : (b : Bool) → list_any (λ (s : KeptSub). s.live && (s.version == v.number)) subs ≡ b →
        (b || list_any (λ (b : Batch). b.version == v.number) batches) ≡ true → 1 ≤ by_subs subs v.number + by_batches batches v.number
    by true e h = let some = some_touches (λ (s : KeptSub). s.live && (s.version == v.number)) subs e in omega arith
    by false e h = let some = some_touches (λ (b : Batch). b.version == v.number) batches h in omega arith

pub filter_sum : {A : Type 0} (test : A → Bool) (xs : List A) → sum_by (λ x. one_if (test x)) xs ≡ length (filter test xs)
filter_sum test [] = refl
filter_sum {A} test (x ∷ xs) = by (test x) refl (filter_sum test xs)
  where
    by : (b : Bool) → test x ≡ b → sum_by (λ x. one_if (test x)) xs ≡ length (filter test xs) →
        sum_by (λ x. one_if (test x)) (x ∷ xs) ≡ length (if b then x ∷ filter test xs else filter test xs)
    by true e rest = sum_by-cons (λ x. one_if (test x)) x xs ∙ ap (λ c. one_if c + sum_by (λ x. one_if (test x)) xs) e ∙ omega arith
    by false e rest = sum_by-cons (λ x. one_if (test x)) x xs ∙ ap (λ c. one_if c + sum_by (λ x. one_if (test x)) xs) e ∙ omega arith

ones : {A : Type 0} (xs : List A) → sum_by (λ x. 1) xs ≡ length xs
ones [] = refl
ones (x ∷ xs) = let rest : sum_by (λ x. 1) xs ≡ length xs = ones xs in sum_by-cons (λ x. 1) x xs ∙ omega arith

pub versions_few : (subs : List KeptSub) (batches : List Batch) (vs : List Version) (next : ℕ) → rise 0 next (version_numbers vs) ≡ true →
    list_all (is_needed subs batches) vs ≡ true → length vs ≤ live_count subs + length batches
versions_few subs batches vs next order needed =
    let all = needed_sum subs batches vs needed in
    let first = touched_few (λ (s : KeptSub). s.live) (λ (s : KeptSub). s.version) subs 0 next (version_numbers vs) order in
    let second = touched_few (λ (b : Batch). true) (λ (b : Batch). b.version) batches 0 next (version_numbers vs) order in
    let live = filter_sum (λ (s : KeptSub). s.live) subs in
    let every : sum_by (λ (b : Batch). 1) batches ≡ length batches = ones batches in
    omega arith

-- ---- subscriptions

abbrev by_versions : List Version → ℕ → ℕ
by_versions vs n = touching (λ (v : Version). true) (λ (v : Version). v.subscription) vs n

wanted_sum : (vs : List Version) (subs : List KeptSub) → list_all (is_wanted vs) subs ≡ true →
    length subs ≤ sum_by (λ (s : KeptSub). one_if s.live) subs + sum_by (by_versions vs) (sub_numbers subs)
wanted_sum vs [] h = omega arith
wanted_sum vs (s ∷ subs) h =
    let p = and_parts (is_wanted vs s) (list_all (is_wanted vs) subs) h in
    let rest : length subs ≤ sum_by (λ (s : KeptSub). one_if s.live) subs + sum_by (by_versions vs) (sub_numbers subs) = wanted_sum vs subs p.1 in
    let one : 1 ≤ one_if s.live + by_versions vs s.number = by s.live p.0 in
    let first = sum_by-cons (λ (s : KeptSub). one_if s.live) s subs in
    let second = sum_by-cons (by_versions vs) s.number (sub_numbers subs) in
    omega arith
  where
    by : (b : Bool) → (b || list_any (λ (v : Version). v.subscription == s.number) vs) ≡ true → 1 ≤ one_if b + by_versions vs s.number
    by true h = omega arith
    by false h = let some = some_touches (λ (v : Version). v.subscription == s.number) vs h in omega arith

pub subs_few : (vs : List Version) (subs : List KeptSub) (next : ℕ) → rise 0 next (sub_numbers subs) ≡ true → list_all (is_wanted vs) subs ≡ true →
    length subs ≤ live_count subs + length vs
subs_few vs subs next order wanted =
    let all = wanted_sum vs subs wanted in
    let first = touched_few (λ (v : Version). true) (λ (v : Version). v.subscription) vs 0 next (sub_numbers subs) order in
    let live = filter_sum (λ (s : KeptSub). s.live) subs in
    let every : sum_by (λ (v : Version). 1) vs ≡ length vs = ones vs in
    omega arith
