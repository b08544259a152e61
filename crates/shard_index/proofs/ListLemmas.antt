-- Of the lists of an index, each by itself.
use Rattle.std.proofs.Common.{◌≡◌, ℕ, zero, suc, ◌+◌, ◌-◌, ◌<◌, Bool, true, false, not, ◌||◌, take, if◌then◌else◌, List, [], ◌∷◌, ◌++◌, length, map, filter, get_or, Some, refl, sym, ap, subst, ◌∙◌, arith}
use Rattle.std.specs.List.{IsDistinct, AllByRecursion, list_any}
use Rattle.std.proofs.lemmas.List.{take_more}
use Rattle.std.specs.Set.{remove_key}
use Rattle.std.proofs.lemmas.Map.Keys.{IsDistinct-head, IsDistinct-tail}
use Rattle.topic_name.specs.declared.descriptor.Descriptor.{Descriptor}
use Rattle.shard_model.specs.ShardList.{Awaited, newest_of}
use Rattle.shard_index.specs.KeptIndex.{cut_of}
use Rattle.shard_index.specs.Absorbing.{sealed_last}
use Rattle.shard_model.specs.Storing.{same_triple}
use Rattle.shard_index.specs.Triples.{same_triple_equiv, same_triple_is}

-- the newest generation stands last
pub newest_at : (cuts : List Descriptor) (other : Descriptor) → 0 < length cuts → cut_of (get_or cuts (length cuts - 1) other) ≡ newest_of (map cut_of cuts)
newest_at [] other some = absurd (omega arith)
newest_at (cut ∷ []) other some = refl
newest_at (cut ∷ next ∷ cuts) other some =
    let place : length (cut ∷ next ∷ cuts) - 1 ≡ suc (length (next ∷ cuts) - 1) = omega arith in
    let more : 0 < length (next ∷ cuts) = omega arith in
    ap (λ k. cut_of (get_or (cut ∷ next ∷ cuts) k other)) place ∙ newest_at (next ∷ cuts) other more

pub sealed_pushed : (now : ℕ) (cuts : List Descriptor) (cut : Descriptor) → sealed_last now (cuts ++ cut ∷ []) ≡ cuts ++ record cut { sealed = Some now } ∷ []
sealed_pushed now [] cut = refl
sealed_pushed now (c ∷ []) cut = refl
sealed_pushed now (c ∷ d ∷ cuts) cut = ap (λ l. c ∷ l) (sealed_pushed now (d ∷ cuts) cut)

-- ---- a triple is taken out

abbrev AreOthers : Awaited → List Awaited → Type 0
AreOthers a awaited = AllByRecursion (λ b. same_triple a b ≡ false) awaited

others_stay : (a : Awaited) (awaited : List Awaited) → AreOthers a awaited → filter (λ b. not (same_triple a b)) awaited ≡ awaited
others_stay a [] others = refl
others_stay a (b ∷ awaited) others =
    ap (λ t. if not t then b ∷ filter (λ b. not (same_triple a b)) awaited else filter (λ b. not (same_triple a b)) awaited) others.0
    ∙ ap (λ l. b ∷ l) (others_stay a awaited others.1)

-- each stands there once, so that the first one is all
pub removed_is_filtered : (a : Awaited) (awaited : List Awaited) → IsDistinct same_triple awaited → remove_key (same_triple a) awaited ≡ filter (λ b. not (same_triple a b)) awaited
removed_is_filtered a [] distinct = refl
removed_is_filtered a (b ∷ awaited) distinct =
    by (same_triple a b) refl (removed_is_filtered a awaited (IsDistinct-tail same_triple b awaited distinct))
  where
    by : (t : Bool) → same_triple a b ≡ t → remove_key (same_triple a) awaited ≡ filter (λ b. not (same_triple a b)) awaited →
        (if t then awaited else b ∷ remove_key (same_triple a) awaited)
        ≡ (if not t then b ∷ filter (λ b. not (same_triple a b)) awaited else filter (λ b. not (same_triple a b)) awaited)
    by true is rest =
        sym (others_stay a awaited (subst (λ x. AreOthers x awaited) (sym (same_triple_is a b is)) (IsDistinct-head same_triple b awaited distinct)))
    by false is rest = ap (λ l. b ∷ l) rest

-- ---- triples are added in turn

other_at : (a : Awaited) (awaited : List Awaited) (k : ℕ) (d : Awaited) → AreOthers a awaited → k < length awaited → same_triple a (get_or awaited k d) ≡ false
other_at a [] k d others within = absurd (omega arith)
other_at a (b ∷ awaited) zero d others within = others.0
other_at a (b ∷ awaited) (suc k) d others within = other_at a awaited k d others.1 (omega arith)

not_before : (awaited : List Awaited) (k : ℕ) (d : Awaited) → IsDistinct same_triple awaited → k < length awaited →
    list_any (same_triple (get_or awaited k d)) (take k awaited) ≡ false
not_before [] k d distinct within = absurd (omega arith)
not_before (b ∷ awaited) zero d distinct within = refl
not_before (b ∷ awaited) (suc k) d distinct within =
    let a = get_or awaited k d in
    let less : k < length awaited = omega arith in
    ap (λ t. t || list_any (same_triple a) (take k awaited))
    (same_triple_equiv.symm a b ∙ other_at b awaited k d (IsDistinct-head same_triple b awaited distinct) less)
    ∙ not_before awaited k d (IsDistinct-tail same_triple b awaited distinct) less

pub added_next : (list : List Awaited) (k : ℕ) (so_far later : List Awaited) (x copy : Awaited) (added : Bool) → IsDistinct same_triple list → k < length list →
    x ≡ get_or list k x → copy ≡ x → so_far ≡ take k list → added ≡ not (list_any (same_triple copy) so_far) →
    later ≡ (if added then so_far ++ copy ∷ [] else so_far) → later ≡ take (k + 1) list
added_next list k so_far later x copy added distinct within at copied front is is_later =
    let same = copied ∙ at in
    let new : added ≡ true =
    is ∙ ap not (ap (λ (a : Awaited). list_any (same_triple a) so_far) same ∙ ap (list_any (same_triple (get_or list k x))) front ∙ not_before list k x distinct within) in
    is_later
    ∙ ap (λ b. if b then so_far ++ copy ∷ [] else so_far) new
    ∙ ap (λ l. l ++ copy ∷ []) front
    ∙ ap (λ (a : Awaited). take k list ++ a ∷ []) same
    ∙ sym (take_more list k x within)
