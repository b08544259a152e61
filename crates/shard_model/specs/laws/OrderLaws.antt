-- What a list in order has: its generations by their numbers, where they begin, which is sealed, and each message at
-- its offset.
use Rattle.std.proofs.Common.{◌≡◌, ℕ, zero, suc, ◌+◌, ◌-◌, ◌<◌, ◌≤◌, if◌then◌else◌, List, [], ◌∷◌, length, map, drop}
use Rattle.std.proofs.Common.{Some, None, slice_get, refl, sym, ap, ◌∙◌, arith}
use Rattle.std.proofs.lemmas.Bool.{le-ltb}
use Rattle.std.proofs.lemmas.Option.{none-some, same_Some}
use Rattle.topic_model.specs.StoredMessage.{StoredMessage}
use Rattle.shard_model.specs.ShardList.{Cut, ShardList, newest, newest_of, oldest_of, floor_of, next_of, first_message}
use Rattle.shard_model.specs.ShardList.{message_at}
use Rattle.topic_model.specs.Places.{HasPlace}
use Rattle.shard_model.specs.SweepOrder.{counted_from}
use Rattle.shard_model.specs.Lists.{IsRow, IsList}
use Rattle.shard_model.specs.laws.ListLaws.{not_newer, not_older, number_is_one, row_first}

pub numbers_in_order : (list : ShardList) (cut : Cut) → IsList list → HasPlace list.cuts cut →
    ((oldest_of list.cuts).number ≤ cut.number) × (cut.number ≤ (newest list).number)
numbers_in_order list cut is has =
    (not_older (next_of list) list.cuts is.cuts cut has, not_newer (next_of list) list.cuts is.cuts cut has)

pub number_once : (list : ShardList) (cut other : Cut) → IsList list → HasPlace list.cuts cut →
    HasPlace list.cuts other → cut.number ≡ other.number → cut ≡ other
number_once list cut other is has_cut has_other e =
    number_is_one (next_of list) list.cuts is.cuts cut other has_cut has_other e

pub row_firsts : (end : ℕ) (cuts : List Cut) → IsRow end cuts → (k : ℕ) (cut : Cut) → slice_get cuts k ≡ Some cut →
    ((oldest_of cuts).first ≤ cut.first) × (cut.first ≤ end)
row_firsts end [] row k cut e = absurd row
row_firsts end (c ∷ []) row zero cut e = let same : c.first ≡ cut.first =
    ap (λ (x : Cut). x.first) (same_Some c cut e) in let le : c.first ≤ end = row.0 in (omega arith, omega arith)
row_firsts end (c ∷ []) row (suc k) cut e = absurd (none-some cut e)
row_firsts end (c ∷ d ∷ cuts) row zero cut e =
    let same : c.first ≡ cut.first = ap (λ (x : Cut). x.first) (same_Some c cut e) in
    let le : c.first ≤ end = row_first end (c ∷ d ∷ cuts) row in
    (omega arith, omega arith)
row_firsts end (c ∷ d ∷ cuts) row (suc k) cut e =
    let rest = row_firsts end (d ∷ cuts) row.1 k cut e in
    let from : d.first ≤ cut.first = rest.0 in
    let before : c.first ≤ d.first = row.0.first in
    (omega arith, rest.1)

pub firsts_in_order : (list : ShardList) (cut : Cut) → IsList list → HasPlace list.cuts cut →
    (floor_of list ≤ cut.first) × (cut.first ≤ next_of list)
firsts_in_order list cut is has = row_firsts (next_of list) list.cuts is.cuts has.0 cut has.1

newest_there : (end : ℕ) (cuts : List Cut) → IsRow end cuts → HasPlace cuts (newest_of cuts)
    × ((newest_of cuts).sealed ≡ None)
newest_there end [] row = absurd row
newest_there end (c ∷ []) row = ((0, refl), row.1)
newest_there end (c ∷ d ∷ cuts) row = let rest = newest_there end (d ∷ cuts) row.1 in ((suc rest.0.0, rest.0.1), rest.1)

pub newest_in_order : (list : ShardList) → IsList list → HasPlace list.cuts (newest list)
    × ((newest list).sealed ≡ None)
newest_in_order list is = newest_there (next_of list) list.cuts is.cuts

open_is_newest : (end : ℕ) (cuts : List Cut) → IsRow end cuts → (k : ℕ) (cut : Cut) → slice_get cuts k ≡ Some cut →
    cut.sealed ≡ None → cut ≡ newest_of cuts
open_is_newest end [] row k cut e none = absurd row
open_is_newest end (c ∷ []) row zero cut e none = sym (same_Some c cut e)
open_is_newest end (c ∷ []) row (suc k) cut e none = absurd (none-some cut e)
open_is_newest end (c ∷ d ∷ cuts) row zero cut e none =
    let sealed = row.0.sealed in absurd
    (none-some sealed.0 (sym none ∙ ap (λ (x : Cut). x.sealed) (sym (same_Some c cut e)) ∙ sealed.1))
open_is_newest end (c ∷ d ∷ cuts) row (suc k) cut e none = open_is_newest end (d ∷ cuts) row.1 k cut e none

pub only_newest_open : (list : ShardList) (cut : Cut) → IsList list → HasPlace list.cuts cut → cut.sealed ≡ None →
    cut ≡ newest list
only_newest_open list cut is has none = open_is_newest (next_of list) list.cuts is.cuts has.0 cut has.1 none

-- the message at a place has the offset of the place
place_has : (ms : List StoredMessage) (floor k : ℕ) →
    map (λ (m : StoredMessage). m.offset) ms ≡ counted_from floor (length ms) → k < length ms →
    (m : StoredMessage) × (first_message (drop k ms) ≡ Some m) × (m.offset ≡ floor + k)
place_has [] floor k e h = absurd (omega arith)
place_has (m ∷ ms) floor zero e h = let at : m.offset ≡ floor = ap (head floor) e in (m, refl, omega arith)
  where
    head : ℕ → List ℕ → ℕ
    head other [] = other
    head other (n ∷ ns) = n
place_has (m ∷ ms) floor (suc k) e h =
    let rest = place_has ms (floor + 1) k (ap (drop 1) e) (omega arith) in let at : rest.0.offset ≡ floor + 1 + k =
    rest.2 in (rest.0, rest.1, omega arith)

pub message_in_order : (list : ShardList) (offset : ℕ) → IsList list → floor_of list ≤ offset → offset < next_of list →
    (m : StoredMessage) × (message_at list offset ≡ Some m) × (m.offset ≡ offset)
message_in_order list offset is from to =
    let k = offset - floor_of list in
    let found = place_has list.messages (floor_of list) k is.offsets (omega arith) in
    let at : found.0.offset ≡ floor_of list + k = found.2 in (
      found.0,
      ap (λ b. if b then None else first_message (drop k list.messages)) (le-ltb offset (floor_of list) from)
          ∙ found.1,
      omega arith,
    )
