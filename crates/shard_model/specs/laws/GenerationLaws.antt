-- A list in order stays in order, and has grown, where a generation is begun and where the oldest one is dropped.
use Rattle.std.proofs.Common.{◌≡◌, ℕ, zero, suc, ◌+◌, ◌-◌, ◌≤◌, ltb, if◌then◌else◌, List, [], ◌∷◌, ◌++◌, length, drop}
use Rattle.std.proofs.Common.{Some, None, slice_get, refl, sym, ap, subst, ◌∙◌, arith}
use Rattle.std.proofs.lemmas.Bool.{le-ltb}
use Rattle.std.proofs.lemmas.List.{append-nil, length-drop, drop-drop, drop-map}
use Rattle.std.proofs.lemmas.Option.{none-some, same_Some}
use Rattle.topic_model.specs.StoredMessage.{StoredMessage}
use Rattle.topic_model.specs.Profile.{Config}
use Rattle.shard_model.specs.ShardList.{Cut, Awaited, ShardList, newest, newest_of, oldest_of, floor_of, next_of}
use Rattle.shard_model.specs.ShardList.{new_cut, first_message}
use Rattle.topic_model.specs.Places.{HasPlace}
use Rattle.shard_model.specs.Growing.{IsSame, HasGrown}
use Rattle.shard_model.specs.Capacity.{sealed_at, rotated, dropped}
use Rattle.shard_model.specs.SweepOrder.{counted_from}
use Rattle.shard_model.specs.Lists.{IsBefore, IsRow, IsList}
use Rattle.shard_model.specs.laws.ListLaws.{row_numbers, newest_number, not_newer, row_first, row_cons, same_itself}
use Rattle.shard_model.specs.laws.ListLaws.{adding_grows}

-- ---- the newest is sealed

module _ (now : ℕ) where
  -- each generation is the same one, sealed or not
  still_there : (end : ℕ) (cuts rest : List Cut) → IsRow end cuts → (k : ℕ) (cut : Cut) → slice_get cuts k ≡ Some cut →
      (other : Cut) × (slice_get (sealed_at now cuts ++ rest) k ≡ Some other) × IsSame cut other
  still_there end [] rest row k cut e = absurd row
  still_there end (c ∷ []) rest row zero cut e =
      let same : c ≡ cut = same_Some c cut e in (
        record c { sealed = Some now },
        refl,
        subst (λ (x : Cut). IsSame x (record c { sealed = Some now })) same (unsealed c row.1),
      )
    where
      unsealed : (c : Cut) → c.sealed ≡ None → IsSame c (record c { sealed = Some now })
      unsealed c none =
          record {
            number = refl;
            first = refl;
            top = refl;
            below = refl;
            messages = refl;
            sealed = λ moment some. absurd (none-some moment (sym none ∙ some));
          }
  still_there end (c ∷ []) rest row (suc k) cut e = absurd (none-some cut e)
  still_there end (c ∷ d ∷ cuts) rest row zero cut e =
      (c, refl, subst (λ (x : Cut). IsSame x c) (same_Some c cut e) (same_itself c))
  still_there end (c ∷ d ∷ cuts) rest row (suc k) cut e = still_there end (d ∷ cuts) rest row.1 k cut e

  oldest_number : (end : ℕ) (cuts rest : List Cut) → IsRow end cuts →
      (oldest_of (sealed_at now cuts ++ rest)).number ≡ (oldest_of cuts).number
  oldest_number end [] rest row = absurd row
  oldest_number end (c ∷ []) rest row = refl
  oldest_number end (c ∷ d ∷ cuts) rest row = refl

  oldest_first : (end : ℕ) (cuts rest : List Cut) → IsRow end cuts →
      (oldest_of (sealed_at now cuts ++ rest)).first ≡ (oldest_of cuts).first
  oldest_first end [] rest row = absurd row
  oldest_first end (c ∷ []) rest row = refl
  oldest_first end (c ∷ d ∷ cuts) rest row = refl

  sealed_row : (end : ℕ) (cuts : List Cut) (new : Cut) → IsRow end cuts → new.number ≡ (newest_of cuts).number + 1 →
      new.first ≡ end → new.sealed ≡ None →
      IsRow end (sealed_at now cuts ++ new ∷ [])
  sealed_row end [] new row number first none = absurd row
  sealed_row end (c ∷ []) new row number first none =
      let le : c.first ≤ end = row.0 in
      let from : c.first ≤ new.first = omega arith in
      let to : new.first ≤ end = omega arith in
      (record { number = number; first = from; sealed = (now, refl) }, (to, none))
  sealed_row end (c ∷ d ∷ cuts) new row number first none =
      let rest = sealed_row end (d ∷ cuts) new row.1 number first none in
      let before : IsBefore c d = row.0 in
      let same_number = oldest_number end (d ∷ cuts) (new ∷ []) row.1 in
      let same_first = oldest_first end (d ∷ cuts) (new ∷ []) row.1 in
      row_cons end c (sealed_at now (d ∷ cuts) ++ new ∷ []) rest
      (record {
        number = same_number ∙ before.number;
        first = subst (λ f. c.first ≤ f) (sym same_first) before.first;
        sealed = before.sealed;
      })

  -- what is newer than the newest was begun
  newer_is_new : (cuts : List Cut) (new : Cut) (k : ℕ) (cut : Cut) →
      slice_get (sealed_at now cuts ++ new ∷ []) k ≡ Some cut → length cuts ≤ k → new ≡ cut
  newer_is_new [] new zero cut e le = same_Some new cut e
  newer_is_new [] new (suc k) cut e le = absurd (none-some cut e)
  newer_is_new (c ∷ []) new zero cut e le = absurd (omega arith)
  newer_is_new (c ∷ []) new (suc zero) cut e le = same_Some new cut e
  newer_is_new (c ∷ []) new (suc (suc k)) cut e le = absurd (none-some cut e)
  newer_is_new (c ∷ d ∷ cuts) new zero cut e le = absurd (omega arith)
  newer_is_new (c ∷ d ∷ cuts) new (suc k) cut e le = newer_is_new (d ∷ cuts) new k cut e (omega arith)

module _ (config : Config) (now : ℕ) (list : ShardList) where
  pub rotated_in_order : IsList list → IsList (rotated config now list)
  rotated_in_order is =
      let new = new_cut config ((newest list).number + 1) (next_of list) in
      let floor = oldest_first now (next_of list) list.cuts (new ∷ []) is.cuts in
      record {
        cuts = subst (λ f. IsRow (f + length list.messages) (sealed_at now list.cuts ++ new ∷ [])) (sym floor)
            (sealed_row now (next_of list) list.cuts new is.cuts refl refl refl);
        offsets = is.offsets ∙ ap (λ f. counted_from f (length list.messages)) (sym floor);
      }

  pub rotated_grows : IsList list → HasGrown list (rotated config now list)
  rotated_grows is =
      let new = new_cut config ((newest list).number + 1) (next_of list) in
      let cuts = sealed_at now list.cuts ++ new ∷ [] in
      let floor : (oldest_of cuts).first ≡ floor_of list =
      oldest_first now (next_of list) list.cuts (new ∷ []) is.cuts in
      let number : (oldest_of cuts).number ≡ (oldest_of list.cuts).number =
      oldest_number now (next_of list) list.cuts (new ∷ []) is.cuts in
      record {
        floors = omega (arith, floor);
        ends = omega (arith, floor);
        oldest = omega (arith, number);
        messages =
            λ offset from to. ap (λ f. if ltb offset f then None else first_message (drop (offset - f) list.messages))
            floor;
        kept = λ cut has from.
            let one = still_there now (next_of list) list.cuts (new ∷ []) is.cuts has.0 cut has.1 in
            (one.0, (has.0, one.1), one.2);
        added = λ cut has newer.
            let row = sealed_row now (next_of list) list.cuts new is.cuts refl refl refl in
            let at : cut.number ≡ (oldest_of cuts).number + has.0 =
            row_numbers (next_of list) cuts row has.0 cut has.1 in
            let last = newest_number (next_of list) list.cuts is.cuts in
            let behind : length list.cuts ≤ has.0 = omega (arith, number) in
            let first : next_of list ≡ cut.first =
            ap (λ (x : Cut). x.first) (newer_is_new now list.cuts new has.0 cut has.1 behind) in
            omega (arith, first);
      }

-- ---- the oldest is dropped

counted-drop : (n a k : ℕ) → drop n (counted_from a k) ≡ counted_from (a + n) (k - n)
counted-drop zero a k = let one : a ≡ a + zero = omega arith in let two : k ≡ k - zero =
    omega arith in ap (λ x. counted_from x k) one ∙ ap (counted_from (a + zero)) two
counted-drop (suc n) a zero = let none : zero ≡ zero - suc n = omega arith in ap (counted_from (a + suc n)) none
counted-drop (suc n) a (suc k) =
    let one : a + 1 + n ≡ a + suc n = omega arith in
    let two : k - n ≡ suc k - suc n = omega arith in
    counted-drop n (a + 1) k ∙ ap (λ x. counted_from x (k - n)) one ∙ ap (counted_from (a + suc n)) two

module _ (ms : List StoredMessage) (awaited : List Awaited) where
  only_stays : (c : Cut) → dropped (record { cuts = c ∷ []; messages = ms; awaited = awaited })
      ≡ record { cuts = c ∷ []; messages = ms; awaited = awaited }
  only_stays c = let none : c.first - c.first ≡ 0 =
      omega arith in ap (λ n. record { cuts = c ∷ []; messages = drop n ms; awaited = awaited }) none

  -- the end stays where it is
  same_end : (c d : Cut) (cuts : List Cut) → IsRow (c.first + length ms) (c ∷ d ∷ cuts) →
      d.first + length (drop (d.first - c.first) ms) ≡ c.first + length ms
  same_end c d cuts row =
      let long = length-drop (d.first - c.first) ms in
      let from : c.first ≤ d.first = row.0.first in
      let to : d.first ≤ c.first + length ms = row_first (c.first + length ms) (d ∷ cuts) row.1 in
      omega arith

  dropped_in_order_of : (cuts : List Cut) → IsList (record { cuts = cuts; messages = ms; awaited = awaited }) →
      IsList (dropped (record { cuts = cuts; messages = ms; awaited = awaited }))
  dropped_in_order_of [] is = absurd is.cuts
  dropped_in_order_of (c ∷ []) is = subst IsList (sym (only_stays c)) is
  dropped_in_order_of (c ∷ d ∷ cuts) is =
      let n = d.first - c.first in
      let row : IsRow (c.first + length ms) (c ∷ d ∷ cuts) = is.cuts in
      let from : c.first ≤ d.first = row.0.first in
      let floor : c.first + n ≡ d.first = omega arith in
      record {
        cuts = subst (λ end. IsRow end (d ∷ cuts)) (sym (same_end c d cuts row)) row.1;
        offsets =
            sym (drop-map (λ (m : StoredMessage). m.offset) n ms)
            ∙ ap (drop n) is.offsets
            ∙ counted-drop n c.first (length ms)
            ∙ ap (λ f. counted_from f (length ms - n)) floor
            ∙ ap (counted_from d.first) (sym (length-drop n ms));
      }

  dropped_grows_of : (cuts : List Cut) → IsList (record { cuts = cuts; messages = ms; awaited = awaited })
      → HasGrown (record { cuts = cuts; messages = ms; awaited = awaited })
      (dropped (record { cuts = cuts; messages = ms; awaited = awaited }))
  dropped_grows_of [] is = absurd is.cuts
  dropped_grows_of (c ∷ []) is =
      let list : ShardList = record { cuts = c ∷ []; messages = ms; awaited = awaited } in
      subst (HasGrown list) (sym (only_stays c))
      (adding_grows list list is (record { cuts = refl; more = ([], sym (append-nil ms)) }))
  dropped_grows_of (c ∷ d ∷ cuts) is =
      let n = d.first - c.first in
      let end = c.first + length ms in
      let row : IsRow end (c ∷ d ∷ cuts) = is.cuts in
      let from : c.first ≤ d.first = row.0.first in
      let next : d.number ≡ c.number + 1 = row.0.number in
      let same = same_end c d cuts row in
      record {
        floors = from;
        ends = omega arith;
        oldest = omega arith;
        messages = λ offset low high.
            let low : d.first ≤ offset = low in
            let lower : c.first ≤ offset = omega arith in
            let place : n + (offset - d.first) ≡ offset - c.first = omega arith in
            ap (λ b. if b then None else first_message (drop (offset - d.first) (drop n ms)))
            (le-ltb offset d.first low)
            ∙ ap first_message (drop-drop (offset - d.first) n ms)
            ∙ ap (λ k. first_message (drop k ms)) place
            ∙ ap (λ b. if b then None else first_message (drop (offset - c.first) ms))
            (sym (le-ltb offset c.first lower));
        kept = λ cut has low. kept_of d.number c d cuts next refl cut has.0 has.1 low;
        added = λ cut has newer.
            let not_so = not_newer end (c ∷ d ∷ cuts) row cut (suc has.0, has.1) in absurd (omega arith);
      }
    where
      kept_of : (number : ℕ) (c d : Cut) (cuts : List Cut) → d.number ≡ c.number + 1 → d.number ≡ number →
          (cut : Cut) (k : ℕ) → slice_get (c ∷ d ∷ cuts) k ≡ Some cut → number ≤ cut.number →
          (other : Cut) × HasPlace (d ∷ cuts) other × IsSame cut other
      kept_of number c d cuts next is cut zero e low = let same : c.number ≡ cut.number =
          ap (λ (x : Cut). x.number) (same_Some c cut e) in absurd (omega arith)
      kept_of number c d cuts next is cut (suc k) e low = (cut, (k, e), same_itself cut)

pub dropped_in_order : (list : ShardList) → IsList list → IsList (dropped list)
dropped_in_order list is = dropped_in_order_of list.messages list.awaited list.cuts is

pub dropped_grows : (list : ShardList) → IsList list → HasGrown list (dropped list)
dropped_grows list is = dropped_grows_of list.messages list.awaited list.cuts is
