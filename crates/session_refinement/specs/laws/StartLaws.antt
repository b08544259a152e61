-- The sweep that a subscription starts with is in order, and nothing that it wants was issued.
use Rattle.std.proofs.Common.{◌≡◌, ℕ, suc, ◌+◌, ◌≤◌, ◌<◌, true, ◌&&◌, nat_le, zero, if◌then◌else◌, List, [], ◌∷◌}
use Rattle.std.proofs.Common.{length, slice_get, Some, refl, ap, ◌∙◌, arith}
use Rattle.std.proofs.lemmas.Bool.{and_from, and_parts, le-leb, leb-true, eq-eqb, ne_eqb}
use Rattle.std.proofs.lemmas.Option.{none-some}
use Rattle.topic_model.specs.Profile.{Profile}
use Rattle.topic_model.specs.StoredMessage.{StoredMessage}
use Rattle.topic_model.specs.Matching.{matches}
use Rattle.shard_model.specs.ShardList.{ShardList, Cut, newest, newest_of, floor_of, next_of}
use Rattle.shard_model.specs.SweepOrder.{starting_sweep, is_in_order, end_in}
use Rattle.shard_model.specs.Lists.{IsList, IsRow}
use Rattle.shard_model.specs.laws.ListLaws.{newest_number}
use Rattle.shard_model.specs.Wanted.{wanted, is_wanted}
use Rattle.topic_model.specs.Places.{HasPlace}
use Rattle.shard_model.specs.laws.PlaceLaws.{kept_place, counted_place}

-- the newest generation ends where the list does
end_of_newest : (list : ShardList) (end : ℕ) (cuts : List Cut) → IsRow end cuts →
    end_in list cuts (newest_of cuts).number ≡ next_of list
end_of_newest list end [] row = absurd row
end_of_newest list end (cut ∷ []) row =
    ap (λ b. if b then next_of list else floor_of list) (eq-eqb cut.number cut.number refl)
end_of_newest list end (cut ∷ next ∷ cuts) row =
    ap (λ b. if b then next.first else end_in list (next ∷ cuts) (newest_of (next ∷ cuts)).number)
    (ne_eqb cut.number (newest_of (next ∷ cuts)).number other)
    ∙ end_of_newest list end (next ∷ cuts) row.1
  where
    other : cut.number ≡ (newest_of (next ∷ cuts)).number → ⊥
    other same =
        let many : (newest_of (next ∷ cuts)).number + 1 ≡ next.number + suc (length cuts) =
        newest_number end (next ∷ cuts) row.1 in
        let one = row.0.number in
        omega (arith, many, one, same)

pub start_in_order : (profile : Profile) (list : ShardList) → IsList list →
    is_in_order profile list (next_of list) (starting_sweep list) ≡ true
start_in_order profile list is =
    let same : nat_le (next_of list) (next_of list) ≡ true = le-leb (next_of list) (next_of list) (omega arith) in
    and_from (nat_le (newest list).number (newest list).number)
    (nat_le (next_of list) (next_of list)
    && (nat_le (next_of list) (next_of list)
    && (nat_le (next_of list) (next_of list)
    && nat_le (next_of list) (end_in list list.cuts (newest list).number))))
    (le-leb (newest list).number (newest list).number (omega arith))
    (and_from (nat_le (next_of list) (next_of list))
    (nat_le (next_of list) (next_of list)
    && (nat_le (next_of list) (next_of list) && nat_le (next_of list) (end_in list list.cuts (newest list).number)))
    same
    (and_from (nat_le (next_of list) (next_of list))
    (nat_le (next_of list) (next_of list) && nat_le (next_of list) (end_in list list.cuts (newest list).number))
    same
    (and_from (nat_le (next_of list) (next_of list))
    (nat_le (next_of list) (end_in list list.cuts (newest list).number)) same
    (ap (nat_le (next_of list)) (end_of_newest list (next_of list) list.cuts is.cuts) ∙ same))))

place_below : {A : Type 0} (xs : List A) (k : ℕ) (x : A) → slice_get xs k ≡ Some x → k < length xs
place_below [] k x is = absurd (none-some x is)
place_below (y ∷ xs) zero x is = omega arith
place_below (y ∷ xs) (suc k) x is = let rest = place_below xs k x is in omega arith

-- each message lies below the list's next offset
pub message_below : (list : ShardList) (m : StoredMessage) → IsList list → HasPlace list.messages m →
    m.offset < next_of list
message_below list m is has =
    let at : m.offset ≡ floor_of list + has.0 =
    counted_place (λ (m : StoredMessage). m.offset) list.messages (floor_of list) has.0 m is.offsets has.1 in
    let below = place_below list.messages has.0 m has.1 in
    omega (arith, at)

pub none_wanted : (wish : List (List ℕ)) (list : ShardList) (m : StoredMessage) → IsList list →
    HasPlace (wanted wish (next_of list) list) m → ⊥
none_wanted wish list m is has =
    let kept = kept_place (is_wanted wish (next_of list)) list.messages has.0 m has.1 in
    let below = message_below list m is kept.0 in
    let from : next_of list ≤ m.offset =
    leb-true (next_of list) m.offset (and_parts (nat_le (next_of list) m.offset) (matches wish m.topic) kept.1).0 in
    omega (arith, from, below)
