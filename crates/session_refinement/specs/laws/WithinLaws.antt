-- No position passes the end of its shard's list after a change.
use Rattle.std.proofs.Common.{◌≡◌, ℕ, Bool, true, false, ◌&&◌, ◌==◌, ◌||◌, nat_le, if◌then◌else◌, List, [], ◌∷◌, ◌++◌}
use Rattle.std.proofs.Common.{map, filter, slice_get, Some, refl, sym, ap, ◌∙◌, arith}
use Rattle.std.specs.List.{list_all, flat_map}
use Rattle.std.proofs.lemmas.Bool.{and_from, and_parts, le-leb}
use Rattle.std.proofs.lemmas.Grind.{flat_map-append}
use Rattle.std.proofs.lemmas.List.Folds.{list_all-append}
use Rattle.shard_model.specs.ShardList.{ShardList, newest, next_of}
use Rattle.shard_model.specs.SweepOrder.{starting_sweep}
use Rattle.shard_model.specs.laws.PlaceLaws.{place_mapped}
use Rattle.session_model.specs.Acting.{changed_if}
use Rattle.session_model.specs.Change.{Subscribes}
use Rattle.session_state.specs.declared.batch.Batch.{Batch}
use Rattle.session_state.specs.KeptSub.{KeptSub}
use Rattle.session_state.specs.KeptSession.{KeptSession}
use Rattle.session_state.specs.KeptActing.{on_sub, new_sub, tidied, has_unfinished, kept_batches, kept_versions}
use Rattle.session_state.specs.KeptActing.{has_version}
use Rattle.session_refinement.specs.StandFor.{sweep_positions, batch_positions, batch_generations, IsWithin}

-- ---- tests of joined lists

module _ {X Y : Type 0} (P : Y → Bool) (f : X → List Y) where
  all_left : (xs ys : List Y) → list_all P (xs ++ ys) ≡ true → (list_all P xs ≡ true) × (list_all P ys ≡ true)
  all_left xs ys is = and_parts (list_all P xs) (list_all P ys) (sym (list_all-append P xs ys) ∙ is)

  all_both : (xs ys : List Y) → list_all P xs ≡ true → list_all P ys ≡ true → list_all P (xs ++ ys) ≡ true
  all_both xs ys one two = list_all-append P xs ys ∙ and_from (list_all P xs) (list_all P ys) one two

  -- of some of the elements
  pub all_filtered : (q : X → Bool) (xs : List X) → list_all P (flat_map f xs) ≡ true →
      list_all P (flat_map f (filter q xs)) ≡ true
  all_filtered q [] is = is
  all_filtered q (x ∷ xs) is = by (q x) (all_left (f x) (flat_map f xs) is) (all_filtered q xs)
    where
      by : (b : Bool) → (list_all P (f x) ≡ true) × (list_all P (flat_map f xs) ≡ true) →
          (list_all P (flat_map f xs) ≡ true → list_all P (flat_map f (filter q xs)) ≡ true) →
          list_all P (flat_map f (if b then x ∷ filter q xs else filter q xs)) ≡ true
      by true parts rest = all_both (f x) (flat_map f (filter q xs)) parts.0 (rest parts.1)
      by false parts rest = rest parts.1

  -- of elements that are changed
  pub all_changed : (g : X → X) → ((x : X) → list_all P (f x) ≡ true → list_all P (f (g x)) ≡ true) → (xs : List X) →
      list_all P (flat_map f xs) ≡ true → list_all P (flat_map f (map g xs)) ≡ true
  all_changed g same [] is = is
  all_changed g same (x ∷ xs) is =
      let parts = all_left (f x) (flat_map f xs) is in
      all_both (f (g x)) (flat_map f (map g xs)) (same x parts.0) (all_changed g same xs parts.1)

  -- and of one more
  pub all_pushed : (xs : List X) (x : X) → list_all P (flat_map f xs) ≡ true → list_all P (f x) ≡ true →
      list_all P (flat_map f (xs ++ x ∷ [])) ≡ true
  all_pushed xs x is also =
      ap (list_all P) (flat_map-append f xs (x ∷ []))
      ∙ all_both (flat_map f xs) (f x ++ []) is (all_both (f x) [] also refl)

-- ---- the positions of a session

abbrev is_below : ShardList → ℕ → Bool
is_below list p = nat_le p (next_of list)

abbrev sub_positions : ℕ → KeptSub → List ℕ
sub_positions shard s = sweep_positions (slice_get s.sweeps shard)

abbrev positions_in : ℕ → Batch → List ℕ
positions_in shard b = batch_positions (b.shard == shard) b

abbrev generations_in : ℕ → Batch → List ℕ
generations_in shard b = batch_generations (b.shard == shard) b

-- the three parts
pub record PartsWithin (shard : ℕ) (list : ShardList) (subs : List KeptSub) (batches : List Batch) : Type 0 where
  pub subs_below : list_all (is_below list) (flat_map (sub_positions shard) subs) ≡ true
  pub batches_below : list_all (is_below list) (flat_map (positions_in shard) batches) ≡ true
  pub known : list_all (λ (n : ℕ). nat_le n (newest list).number) (flat_map (generations_in shard) batches) ≡ true

pub within_parts : (k : KeptSession) (shard : ℕ) (list : ShardList) → IsWithin k shard list →
    PartsWithin shard list k.subs k.batches
within_parts k shard list h =
    let parts = and_parts (list_all (is_below list) (flat_map (sub_positions shard) k.subs))
    (list_all (is_below list) (flat_map (positions_in shard) k.batches))
    (sym (list_all-append (is_below list) (flat_map (sub_positions shard) k.subs)
    (flat_map (positions_in shard) k.batches)) ∙ h.positions) in
    record { subs_below = parts.0; batches_below = parts.1; known = h.generations }

pub parts_within : (k : KeptSession) (shard : ℕ) (list : ShardList) → PartsWithin shard list k.subs k.batches →
    IsWithin k shard list
parts_within k shard list h =
    record {
      positions =
          list_all-append (is_below list) (flat_map (sub_positions shard) k.subs)
          (flat_map (positions_in shard) k.batches)
          ∙ and_from (list_all (is_below list) (flat_map (sub_positions shard) k.subs))
          (list_all (is_below list) (flat_map (positions_in shard) k.batches)) h.subs_below h.batches_below;
      generations = h.known;
    }

-- what is left has no other
pub tidied_within : (e : KeptSession) (shard : ℕ) (list : ShardList) → PartsWithin shard list e.subs e.batches →
    IsWithin (tidied e) shard list
tidied_within e shard list h =
    parts_within (tidied e) shard list (record {
      subs_below =
          all_filtered (is_below list) (sub_positions shard)
          (λ (s : KeptSub). s.live || has_version
          (kept_versions e.subs (kept_batches e.tracks e.batches) e.versions) s) e.subs h.subs_below;
      batches_below = all_filtered (is_below list) (positions_in shard)
          (has_unfinished e.tracks) e.batches h.batches_below;
      known = all_filtered (λ (n : ℕ). nat_le n (newest list).number) (generations_in shard)
          (has_unfinished e.tracks) e.batches h.known;
    })

-- ---- changes

-- subscriptions whose sweeps stay or go
pub subs_changed : (shard : ℕ) (list : ShardList) (number : ℕ) (g : KeptSub → KeptSub) (subs : List KeptSub)
    (batches : List Batch) →
    ((s : KeptSub) → list_all (is_below list) (sub_positions shard s) ≡ true →
    list_all (is_below list) (sub_positions shard (g s)) ≡ true) →
    PartsWithin shard list subs batches → PartsWithin shard list (on_sub number g subs) batches
subs_changed shard list number g subs batches same h =
    record {
      subs_below = all_changed (is_below list) (sub_positions shard)
          (λ (s : KeptSub). changed_if (s.number == number) g s)
          (λ s is. by s (s.number == number) is) subs h.subs_below;
      batches_below = h.batches_below;
      known = h.known;
    }
  where
    by : (s : KeptSub) (b : Bool) → list_all (is_below list) (sub_positions shard s) ≡ true →
        list_all (is_below list) (sub_positions shard (changed_if b g s)) ≡ true
    by s true is = same s is
    by s false is = is

-- a new subscription starts where the list ends
pub sub_pushed : (shard : ℕ) (lists : List ShardList) (list : ShardList) (s : Subscribes) (subs : List KeptSub)
    (batches : List Batch) → slice_get lists shard ≡ Some list →
    s.sweeps ≡ map starting_sweep lists → PartsWithin shard list subs batches →
    PartsWithin shard list (subs ++ new_sub s ∷ []) batches
sub_pushed shard lists list s subs batches has starts h =
    record {
      subs_below = all_pushed (is_below list) (sub_positions shard) subs (new_sub s) h.subs_below new;
      batches_below = h.batches_below;
      known = h.known;
    }
  where
    same : nat_le (next_of list) (next_of list) ≡ true
    same = le-leb (next_of list) (next_of list) (omega arith)

    new : list_all (is_below list) (sub_positions shard (new_sub s)) ≡ true
    new =
        ap (λ o. list_all (is_below list) (sweep_positions o))
        (ap (λ l. slice_get l shard) starts ∙ place_mapped starting_sweep lists shard list has)
        ∙ and_from (nat_le (next_of list) (next_of list))
        (nat_le (next_of list) (next_of list) && (nat_le (next_of list) (next_of list) && true)) same
        (and_from (nat_le (next_of list) (next_of list)) (nat_le (next_of list) (next_of list) && true) same
        (and_from (nat_le (next_of list) (next_of list)) true same refl))
