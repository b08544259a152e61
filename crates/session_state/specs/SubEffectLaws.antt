-- Changes of subscriptions keep the facts of a session, and so does a batch.
use Rattle.std.proofs.Common.{◌≡◌, ℕ, ◌+◌, ◌≤◌, Bool, true, false, not, ◌&&◌, ◌||◌, ◌==◌, if◌then◌else◌, nat_le, nat_lt, List, [], ◌∷◌, ◌++◌, length, map, find, Option, Some, None, refl, sym, ap, ◌∙◌, true≢false, arith}
use Rattle.std.specs.List.{list_all, list_any}
use Rattle.std.proofs.lemmas.Bool.{and_parts, and_from, or_right, eqb-true}
use Rattle.std.proofs.lemmas.Bool.Decides.{nat_tests}
use Rattle.std.proofs.lemmas.List.{map-append}
use Rattle.std.proofs.lemmas.List.Folds.{list_all-append}
use Rattle.session_model.specs.Change.{Subscribes}
use Rattle.session_model.specs.declared.entry.Version.{Version}
use Rattle.session_model.specs.Acting.{changed_if}
use Rattle.session_model.specs.FitsSession.{greatest_of_four}
use Rattle.session_state.specs.declared.batch.Batch.{Batch}
use Rattle.session_state.specs.declared.change.Replaced.{Replaced as Replacing}
use Rattle.session_state.specs.KeptSub.{KeptSub}
use Rattle.session_state.specs.KeptSession.{KeptSession, sub_numbered}
use Rattle.session_state.specs.KeptActing.{new_sub, next_version_of, on_sub, replaced_kept, subscribed_kept, unsubscribed_kept, version_of}
use Rattle.session_state.specs.KeptFits.{if_live, is_live, is_next_sub, is_next_version, replaces, subscribes}
use Rattle.session_state.specs.SoundTest.{holds_own, holds_sub, holds_version, rise, sub_numbers}
use Rattle.session_state.specs.AddLaws.{any_mapped, any_more, last_any, same_number}
use Rattle.session_state.specs.FactLaws.{HasFacts}
use Rattle.session_state.specs.ListLaws.{all_weaker}

-- ---- one more

pub all_more : {X : Type 0} (test : X → Bool) (xs : List X) (x : X) → list_all test xs ≡ true → test x ≡ true → list_all test (xs ++ x ∷ []) ≡ true
all_more test xs x all passes =
    list_all-append test xs (x ∷ []) ∙ and_from (list_all test xs) (test x && true) all (and_from (test x) true passes refl)

-- the next number goes on
rise_next : (low next : ℕ) (ns : List ℕ) → low ≤ next → rise low next ns ≡ true → rise low (next + 1) (ns ++ next ∷ []) ≡ true
rise_next low next [] within up =
    and_from (nat_le low next) (nat_lt next (next + 1) && true) (at_most low next within) (and_from (nat_lt next (next + 1)) true (less next) refl)
  where
    at_most : (a b : ℕ) → a ≤ b → nat_le a b ≡ true
    at_most a b h = grind (arith, nat_tests)

    less : (a : ℕ) → nat_lt a (a + 1) ≡ true
    less a = grind (arith, nat_tests)
rise_next low next (n ∷ ns) within up =
    let parts = and_parts (nat_le low n) (nat_lt n next && rise (n + 1) next ns) up in
    let more = and_parts (nat_lt n next) (rise (n + 1) next ns) parts.1 in
    and_from (nat_le low n) (nat_lt n (next + 1) && rise (n + 1) (next + 1) (ns ++ next ∷ [])) parts.0
    (and_from (nat_lt n (next + 1)) (rise (n + 1) (next + 1) (ns ++ next ∷ [])) (later n next more.0) (rise_next (n + 1) next ns (behind n next more.0) more.1))
  where
    later : (a b : ℕ) → nat_lt a b ≡ true → nat_lt a (b + 1) ≡ true
    later a b h = grind (arith, nat_tests)

    behind : (a b : ℕ) → nat_lt a b ≡ true → a + 1 ≤ b
    behind a b h = grind (arith, nat_tests)

rise_pushed : {X : Type 0} (number : X → ℕ) (xs : List X) (x : X) (next : ℕ) → number x ≡ next → rise 0 next (map number xs) ≡ true →
    rise 0 (number x + 1) (map number (xs ++ x ∷ [])) ≡ true
rise_pushed number xs x next same up =
    ap (rise 0 (number x + 1)) (map-append number xs (x ∷ []))
    ∙ ap (λ n. rise 0 (n + 1) (map number xs ++ n ∷ [])) same
    ∙ rise_next 0 next (map number xs) (omega arith) up

-- ---- a new subscription

pub facts_subscribed : (m : KeptSession) (s : Subscribes) → subscribes m s ≡ true → HasFacts m → HasFacts (subscribed_kept s m)
facts_subscribed m s fits f =
    let both = and_parts (is_next_sub m s.subscription) (is_next_version m s.version) fits in
    let sub = (and_parts (s.subscription == m.next_sub) (nat_lt s.subscription greatest_of_four) both.0).0 in
    let version = (and_parts (s.version == m.next_version) (nat_lt s.version greatest_of_four) both.1).0 in
    let subs = m.subs ++ new_sub s ∷ [] in
    let versions = m.versions ++ version_of s ∷ [] in
    record {
      subs = rise_pushed (λ (x : KeptSub). x.number) m.subs (new_sub s) m.next_sub (eqb-true s.subscription m.next_sub sub) f.subs;
      versions = rise_pushed (λ (v : Version). v.number) m.versions (version_of s) m.next_version (eqb-true s.version m.next_version version) f.versions;
      held =
          all_more (λ (v : Version). holds_sub subs v.subscription) m.versions (version_of s)
          (all_weaker (λ (v : Version). holds_sub m.subs v.subscription) (λ (v : Version). holds_sub subs v.subscription) m.versions
          (λ v. any_more (λ (x : KeptSub). x.number == v.subscription) m.subs (new_sub s ∷ [])) f.held)
          (last_any (λ (x : KeptSub). x.number == s.subscription) m.subs (new_sub s) (same_number s.subscription));
      present =
          all_more (λ (x : KeptSub). not x.live || holds_own versions x.version x) m.subs (new_sub s)
          (all_weaker (λ (x : KeptSub). not x.live || holds_own m.versions x.version x) (λ (x : KeptSub). not x.live || holds_own versions x.version x) m.subs
          (λ x. or_later (not x.live) (holds_own m.versions x.version x) (holds_own versions x.version x)
          (any_more (λ (v : Version). (v.number == x.version) && (v.subscription == x.number)) m.versions (version_of s ∷ []))) f.present)
          (last_any (λ (v : Version). (v.number == s.version) && (v.subscription == s.subscription)) m.versions (version_of s)
          (and_from (s.version == s.version) (s.subscription == s.subscription) (same_number s.version) (same_number s.subscription)));
      named =
          all_weaker (λ (b : Batch). holds_version m.versions b.version) (λ (b : Batch). holds_version versions b.version) m.batches
          (λ b. any_more (λ (v : Version). v.number == b.version) m.versions (version_of s ∷ [])) f.named;
      ended = all_more (λ (x : KeptSub). x.live || (length x.sweeps == 0)) m.subs (new_sub s) f.ended refl;
      issued = f.issued;
      lies1 = f.lies1;
      lies2 = f.lies2;
    }
  where
    or_later : (a b c : Bool) → (b ≡ true → c ≡ true) → (a || b) ≡ true → (a || c) ≡ true
    or_later true b c more h = refl
    or_later false b c more h = more h

-- ---- a changed one

pub all_mapped : {X : Type 0} (a c : X → Bool) (g : X → X) (xs : List X) → ((x : X) → a x ≡ true → c (g x) ≡ true) → list_all a xs ≡ true → list_all c (map g xs) ≡ true
all_mapped a c g [] each all = refl
all_mapped a c g (x ∷ xs) each all =
    let parts = and_parts (a x) (list_all a xs) all in
    and_from (c (g x)) (list_all c (map g xs)) (each x parts.0) (all_mapped a c g xs each parts.1)

map_same : {X : Type 0} (number : X → ℕ) (g : X → X) (xs : List X) → ((x : X) → number (g x) ≡ number x) → map number (map g xs) ≡ map number xs
map_same number g [] same = refl
map_same number g (x ∷ xs) same = ap (λ n. n ∷ map number (map g xs)) (same x) ∙ ap (λ l. number x ∷ l) (map_same number g xs same)

found_any : {X : Type 0} (test : X → Bool) (xs : List X) (x : X) → find test xs ≡ Some x → list_any test xs ≡ true
found_any test [] x found = cc
found_any test (y ∷ xs) x found = by (test y) found (found_any test xs x)
  where
    by : (b : Bool) → (if b then Some y else find test xs) ≡ Some x → (find test xs ≡ Some x → list_any test xs ≡ true) → (b || list_any test xs) ≡ true
    by true found rest = refl
    by false found rest = rest found

-- what a change of one subscription leaves: its number
pub record KeepsNumber (f : KeptSub → KeptSub) : Type 0 where
  pub number : (s : KeptSub) → (f s).number ≡ s.number

same_if : (n : ℕ) (f : KeptSub → KeptSub) → KeepsNumber f → (s : KeptSub) → (changed_if (s.number == n) f s).number ≡ s.number
same_if n f keeps s = by (s.number == n)
  where
    by : (b : Bool) → (changed_if b f s).number ≡ s.number
    by true = keeps.number s
    by false = refl

pub numbers_on : (n : ℕ) (f : KeptSub → KeptSub) → KeepsNumber f → (subs : List KeptSub) → sub_numbers (on_sub n f subs) ≡ sub_numbers subs
numbers_on n f keeps subs = map_same (λ (s : KeptSub). s.number) (λ (s : KeptSub). changed_if (s.number == n) f s) subs (same_if n f keeps)

pub holds_on : (n : ℕ) (f : KeptSub → KeptSub) → KeepsNumber f → (subs : List KeptSub) (number : ℕ) → holds_sub (on_sub n f subs) number ≡ holds_sub subs number
holds_on n f keeps subs number =
    any_mapped (λ (s : KeptSub). s.number == number) (λ (s : KeptSub). changed_if (s.number == n) f s) subs (λ s. ap (λ k. k == number) (same_if n f keeps s))

-- a live subscription is held
live_held : (m : KeptSession) (number : ℕ) → is_live m number ≡ true → holds_sub m.subs number ≡ true
live_held m number live = by (sub_numbered number m) refl live
  where
    by : (found : Option KeptSub) → sub_numbered number m ≡ found → if_live found ≡ true → holds_sub m.subs number ≡ true
    by None is live = absurd (true≢false (sym live))
    by (Some s) is live = found_any (λ (x : KeptSub). x.number == number) m.subs s is

pub facts_replaced : (m : KeptSession) (r : Replacing) → replaces m r ≡ true → HasFacts m → HasFacts (replaced_kept r m)
facts_replaced m r fits f =
    let both = and_parts (is_live m r.subscription) (is_next_version m r.version) fits in
    let version = (and_parts (r.version == m.next_version) (nat_lt r.version greatest_of_four) both.1).0 in
    let versions = m.versions ++ next_version_of r ∷ [] in
    let g : KeptSub → KeptSub = λ s. record s { version = r.version } in
    let keeps : KeepsNumber g = record { number = λ s. refl } in
    let subs = on_sub r.subscription g m.subs in
    record {
      subs = ap (rise 0 m.next_sub) (numbers_on r.subscription g keeps m.subs) ∙ f.subs;
      versions = rise_pushed (λ (v : Version). v.number) m.versions (next_version_of r) m.next_version (eqb-true r.version m.next_version version) f.versions;
      held =
          all_more (λ (v : Version). holds_sub subs v.subscription) m.versions (next_version_of r)
          (all_weaker (λ (v : Version). holds_sub m.subs v.subscription) (λ (v : Version). holds_sub subs v.subscription) m.versions
          (λ v held. holds_on r.subscription g keeps m.subs v.subscription ∙ held) f.held)
          (holds_on r.subscription g keeps m.subs r.subscription ∙ live_held m r.subscription both.0);
      present =
          all_mapped (λ (x : KeptSub). not x.live || holds_own m.versions x.version x) (λ (x : KeptSub). not x.live || holds_own versions x.version x)
          (λ (s : KeptSub). changed_if (s.number == r.subscription) g s) m.subs (λ s h. present s (s.number == r.subscription) refl h) f.present;
      named =
          all_weaker (λ (b : Batch). holds_version m.versions b.version) (λ (b : Batch). holds_version versions b.version) m.batches
          (λ b. any_more (λ (v : Version). v.number == b.version) m.versions (next_version_of r ∷ [])) f.named;
      ended =
          all_mapped (λ (x : KeptSub). x.live || (length x.sweeps == 0)) (λ (x : KeptSub). x.live || (length x.sweeps == 0))
          (λ (s : KeptSub). changed_if (s.number == r.subscription) g s) m.subs (λ s h. rests s (s.number == r.subscription) h) f.ended;
      issued = f.issued;
      lies1 = f.lies1;
      lies2 = f.lies2;
    }
  where
    or_later : (a b c : Bool) → (b ≡ true → c ≡ true) → (a || b) ≡ true → (a || c) ≡ true
    or_later true b c more h = refl
    or_later false b c more h = more h

    present : (s : KeptSub) (b : Bool) → (s.number == r.subscription) ≡ b → (not s.live || holds_own m.versions s.version s) ≡ true →
        (not (changed_if b (λ (x : KeptSub). record x { version = r.version }) s).live
        || holds_own (m.versions ++ next_version_of r ∷ []) (changed_if b (λ (x : KeptSub). record x { version = r.version }) s).version
        (changed_if b (λ (x : KeptSub). record x { version = r.version }) s)) ≡ true
    present s true is h =
        or_right (not s.live) (holds_own (m.versions ++ next_version_of r ∷ []) r.version (record s { version = r.version }))
        (last_any (λ (v : Version). (v.number == r.version) && (v.subscription == s.number)) m.versions (next_version_of r)
        (and_from (r.version == r.version) (r.subscription == s.number) (same_number r.version)
        (ap (λ k. r.subscription == k) (eqb-true s.number r.subscription is) ∙ same_number r.subscription)))
    present s false is h =
        or_later (not s.live) (holds_own m.versions s.version s) (holds_own (m.versions ++ next_version_of r ∷ []) s.version s)
        (any_more (λ (v : Version). (v.number == s.version) && (v.subscription == s.number)) m.versions (next_version_of r ∷ [])) h

    rests : (s : KeptSub) (b : Bool) → (s.live || (length s.sweeps == 0)) ≡ true →
        ((changed_if b (λ (x : KeptSub). record x { version = r.version }) s).live || (length (changed_if b (λ (x : KeptSub). record x { version = r.version }) s).sweeps == 0)) ≡ true
    rests s true h = h
    rests s false h = h

pub facts_unsubscribed : (m : KeptSession) (n : ℕ) → HasFacts m → HasFacts (unsubscribed_kept n m)
facts_unsubscribed m n f =
    let g : KeptSub → KeptSub = λ s. record s { live = false; sweeps = [] } in
    let keeps : KeepsNumber g = record { number = λ s. refl } in
    let subs = on_sub n g m.subs in
    record {
      subs = ap (rise 0 m.next_sub) (numbers_on n g keeps m.subs) ∙ f.subs;
      versions = f.versions;
      held =
          all_weaker (λ (v : Version). holds_sub m.subs v.subscription) (λ (v : Version). holds_sub subs v.subscription) m.versions
          (λ v held. holds_on n g keeps m.subs v.subscription ∙ held) f.held;
      present =
          all_mapped (λ (x : KeptSub). not x.live || holds_own m.versions x.version x) (λ (x : KeptSub). not x.live || holds_own m.versions x.version x)
          (λ (s : KeptSub). changed_if (s.number == n) g s) m.subs (λ s h. present s (s.number == n) h) f.present;
      named = f.named;
      ended =
          all_mapped (λ (x : KeptSub). x.live || (length x.sweeps == 0)) (λ (x : KeptSub). x.live || (length x.sweeps == 0))
          (λ (s : KeptSub). changed_if (s.number == n) g s) m.subs (λ s h. rests s (s.number == n) h) f.ended;
      issued = f.issued;
      lies1 = f.lies1;
      lies2 = f.lies2;
    }
  where
    present : (s : KeptSub) (b : Bool) → (not s.live || holds_own m.versions s.version s) ≡ true →
        (not (changed_if b (λ (x : KeptSub). record x { live = false; sweeps = [] }) s).live
        || holds_own m.versions (changed_if b (λ (x : KeptSub). record x { live = false; sweeps = [] }) s).version
        (changed_if b (λ (x : KeptSub). record x { live = false; sweeps = [] }) s)) ≡ true
    present s true h = refl
    present s false h = h

    rests : (s : KeptSub) (b : Bool) → (s.live || (length s.sweeps == 0)) ≡ true →
        ((changed_if b (λ (x : KeptSub). record x { live = false; sweeps = [] }) s).live
        || (length (changed_if b (λ (x : KeptSub). record x { live = false; sweeps = [] }) s).sweeps == 0)) ≡ true
    rests s true h = refl
    rests s false h = h
