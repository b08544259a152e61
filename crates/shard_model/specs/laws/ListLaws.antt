-- A list in order stays in order, and has grown, as groups are stored, generations begun and the oldest ones dropped.
use Rattle.std.proofs.Common.{◌≡◌, ◌⊎◌, inl, inr, ℕ, zero, suc, ◌+◌, ◌-◌, ◌<◌, ◌≤◌, Bool, true, false, ltb}
use Rattle.std.proofs.Common.{if◌then◌else◌, List, [], ◌∷◌, ◌++◌, length, drop, get_or, Some, None, slice_get, refl}
use Rattle.std.proofs.Common.{sym, ap, subst, ◌∙◌, append_assoc, arith}
use Rattle.std.proofs.lemmas.Bool.{cases_lt}
use Rattle.std.proofs.lemmas.List.{append-nil, length-append, map-append}
use Rattle.std.proofs.lemmas.Option.{none-some, same_Some, slice_get_within, slice_get-get_or}
use Rattle.topic_model.specs.StoredMessage.{StoredMessage}
use Rattle.topic_model.specs.Profile.{Config}
use Rattle.shard_model.specs.ShardList.{Cut, ShardList, newest, newest_of, oldest_of, no_cut, floor_of, next_of}
use Rattle.shard_model.specs.ShardList.{first_message, opening_list}
use Rattle.shard_model.specs.Storing.{Op, Store, Release, Forget, acts, act_if, placed, store}
use Rattle.topic_model.specs.Places.{HasPlace}
use Rattle.shard_model.specs.Growing.{IsSame, HasGrown}
use Rattle.shard_model.specs.SweepOrder.{counted_from}
use Rattle.shard_model.specs.Lists.{IsBefore, IsRow, IsList}

-- ---- generations in a row

-- the numbers go up by one
pub row_numbers : (end : ℕ) (cuts : List Cut) → IsRow end cuts → (k : ℕ) (cut : Cut) → slice_get cuts k ≡ Some cut →
    cut.number ≡ (oldest_of cuts).number + k
row_numbers end [] row k cut e = absurd row
row_numbers end (c ∷ []) row zero cut e = let same : c.number ≡ cut.number =
    ap (λ (x : Cut). x.number) (same_Some c cut e) in omega arith
row_numbers end (c ∷ []) row (suc k) cut e = absurd (none-some cut e)
row_numbers end (c ∷ d ∷ cuts) row zero cut e = let same : c.number ≡ cut.number =
    ap (λ (x : Cut). x.number) (same_Some c cut e) in omega arith
row_numbers end (c ∷ d ∷ cuts) row (suc k) cut e =
    let rest : cut.number ≡ d.number + k =
    row_numbers end (d ∷ cuts) row.1 k cut e in let next : d.number ≡ c.number + 1 = row.0.number in omega arith

pub newest_number : (end : ℕ) (cuts : List Cut) → IsRow end cuts →
    (newest_of cuts).number + 1 ≡ (oldest_of cuts).number + length cuts
newest_number end [] row = absurd row
newest_number end (c ∷ []) row = refl
newest_number end (c ∷ d ∷ cuts) row =
    let rest : (newest_of (d ∷ cuts)).number + 1 ≡ d.number + length (d ∷ cuts) =
    newest_number end (d ∷ cuts) row.1 in let next : d.number ≡ c.number + 1 = row.0.number in omega arith

-- none is newer than the newest
pub not_newer : (end : ℕ) (cuts : List Cut) → IsRow end cuts → (cut : Cut) → HasPlace cuts cut →
    cut.number ≤ (newest_of cuts).number
not_newer end cuts row cut has =
    let number = row_numbers end cuts row has.0 cut has.1 in let newest = newest_number end cuts row in let within =
    slice_get_within cuts has.0 cut has.1 in omega arith

pub not_older : (end : ℕ) (cuts : List Cut) → IsRow end cuts → (cut : Cut) → HasPlace cuts cut →
    (oldest_of cuts).number ≤ cut.number
not_older end cuts row cut has = let number = row_numbers end cuts row has.0 cut has.1 in omega arith

-- each number from the oldest to the newest is there
pub number_has : (end : ℕ) (cuts : List Cut) → IsRow end cuts → (n : ℕ) → (oldest_of cuts).number ≤ n →
    n ≤ (newest_of cuts).number → (cut : Cut) × HasPlace cuts cut × (cut.number ≡ n)
number_has end cuts row n from to =
    let k = n - (oldest_of cuts).number in
    let newest = newest_number end cuts row in
    let within : k < length cuts = omega arith in
    let at = slice_get-get_or cuts k no_cut within in
    let number = row_numbers end cuts row k (get_or cuts k no_cut) at in
    (get_or cuts k no_cut, (k, at), omega arith)

-- and once
pub number_is_one : (end : ℕ) (cuts : List Cut) → IsRow end cuts → (a b : Cut) → HasPlace cuts a → HasPlace cuts b →
    a.number ≡ b.number → a ≡ b
number_is_one end cuts row a b has_a has_b e =
    let number_a = row_numbers end cuts row has_a.0 a has_a.1 in
    let number_b = row_numbers end cuts row has_b.0 b has_b.1 in
    let place : has_a.0 ≡ has_b.0 = omega arith in
    same_Some a b (sym has_a.1 ∙ ap (slice_get cuts) place ∙ has_b.1)

pub row_longer : (end more : ℕ) (cuts : List Cut) → end ≤ more → IsRow end cuts → IsRow more cuts
row_longer end more [] le row = row
row_longer end more (c ∷ []) le row = let first = row.0 in (omega arith, row.1)
row_longer end more (c ∷ d ∷ cuts) le row = (row.0, row_longer end more (d ∷ cuts) le row.1)

pub row_first : (end : ℕ) (cuts : List Cut) → IsRow end cuts → (oldest_of cuts).first ≤ end
row_first end [] row = absurd row
row_first end (c ∷ []) row = row.0
row_first end (c ∷ d ∷ cuts) row = let rest : d.first ≤ end =
    row_first end (d ∷ cuts) row.1 in let first : c.first ≤ d.first = row.0.first in omega arith

pub row_cons : (end : ℕ) (c : Cut) (cuts : List Cut) → IsRow end cuts → IsBefore c (oldest_of cuts) →
    IsRow end (c ∷ cuts)
row_cons end c [] row before = absurd row
row_cons end c (d ∷ cuts) row before = (before, row)

-- ---- the same generation

pub same_itself : (cut : Cut) → IsSame cut cut
same_itself cut =
    record { number = refl; first = refl; top = refl; below = refl; messages = refl; sealed = λ moment e. e }

same_then : (a b c : Cut) → IsSame a b → IsSame b c → IsSame a c
same_then a b c x y =
    record {
      number = x.number ∙ y.number;
      first = x.first ∙ y.first;
      top = x.top ∙ y.top;
      below = x.below ∙ y.below;
      messages = x.messages ∙ y.messages;
      sealed = λ moment e. y.sealed moment (x.sealed moment e);
    }

-- ---- growing goes on

pub grown_then : (a b c : ShardList) → IsList b → IsList c → HasGrown a b → HasGrown b c → HasGrown a c
grown_then a b c is_b is_c x y =
    record {
      floors = let f = x.floors in let g = y.floors in omega arith;
      ends = let f = x.ends in let g = y.ends in omega arith;
      oldest = let f = x.oldest in let g = y.oldest in omega arith;
      messages = λ offset from to.
          let f = y.floors in
          let g = x.ends in
          let in_b : offset < next_of b = omega arith in
          let held : floor_of b ≤ offset = omega arith in
          y.messages offset from in_b ∙ x.messages offset held to;
      kept = λ cut has from.
          let f = y.oldest in
          let held : (oldest_of b.cuts).number ≤ cut.number = omega arith in
          let one = x.kept cut has held in
          let same : cut.number ≡ one.0.number = one.2.number in
          let still : (oldest_of c.cuts).number ≤ one.0.number = omega arith in
          let two = y.kept one.0 one.1 still in
          (two.0, two.1, same_then cut one.0 two.0 one.2 two.2);
      added = λ cut has newer. by cut has newer (cases_lt (newest b).number cut.number);
    }
  where
    first_of_same : (one two cut : Cut) → IsSame one two → two ≡ cut → one.first ≡ cut.first
    first_of_same one two cut same e = same.first ∙ ap (λ (x : Cut). x.first) e

    by : (cut : Cut) → HasPlace c.cuts cut → (newest a).number < cut.number → ((newest b).number < cut.number)
        ⊎ (cut.number ≤ (newest b).number) → next_of a ≤ cut.first
    by cut has newer (inl newer_than_b) = let f = x.ends in let g = y.added cut has newer_than_b in omega arith
    by cut has newer (inr in_b) =
        let f = y.oldest in
        let g = not_older (next_of c) c.cuts is_c.cuts cut has in
        let held : (oldest_of b.cuts).number ≤ cut.number = omega arith in
        let one = number_has (next_of b) b.cuts is_b.cuts cut.number held in_b in
        let number : one.0.number ≡ cut.number = one.2 in
        let newer_one : (newest a).number < one.0.number = omega arith in
        let begins : next_of a ≤ one.0.first = x.added one.0 one.1 newer_one in
        let still : (oldest_of c.cuts).number ≤ one.0.number = omega arith in
        let two = y.kept one.0 one.1 still in
        let again : one.0.number ≡ two.0.number = two.2.number in
        let equal : two.0.number ≡ cut.number = omega arith in
        let first : one.0.first ≡ cut.first =
        first_of_same one.0 two.0 cut two.2
        (number_is_one (next_of c) c.cuts is_c.cuts two.0 cut two.1 has equal) in
        omega arith

-- ---- messages added at the end

-- the generations are the same, and there are more messages
pub record Adds (list later : ShardList) : Type 0 where
  pub cuts : later.cuts ≡ list.cuts
  pub more : (more : List StoredMessage) × (later.messages ≡ list.messages ++ more)

first_kept : (k : ℕ) (ms more : List StoredMessage) → k < length ms →
    first_message (drop k (ms ++ more)) ≡ first_message (drop k ms)
first_kept k [] more h = absurd (omega arith)
first_kept zero (m ∷ ms) more h = refl
first_kept (suc k) (m ∷ ms) more h = first_kept k ms more (omega arith)

pub adding_grows : (list later : ShardList) → IsList list → Adds list later → HasGrown list later
adding_grows list later is adds =
    record {
      floors = omega (arith, floor);
      ends = omega (arith, floor, long);
      oldest = omega (arith, number);
      messages = λ offset from to.
          let k = offset - floor_of list in
          let within : k < length list.messages = omega (arith, floor) in
          ap (λ floor. if ltb offset floor then None else first_message (drop (offset - floor) later.messages)) floor
          ∙ ap (λ ms. if ltb offset (floor_of list) then None else first_message (drop k ms)) adds.more.1
          ∙ ap (λ m. if ltb offset (floor_of list) then None else m) (first_kept k list.messages adds.more.0 within);
      kept = λ cut has from. (cut, subst (λ cuts. HasPlace cuts cut) (sym adds.cuts) has, same_itself cut);
      added = λ cut has newer.
          let in_list : HasPlace list.cuts cut = subst (λ cuts. HasPlace cuts cut) adds.cuts has in
          let not_so = not_newer (next_of list) list.cuts is.cuts cut in_list in
          absurd (omega arith);
    }
  where
    floor : floor_of later ≡ floor_of list
    floor = ap (λ (cuts : List Cut). (oldest_of cuts).first) adds.cuts

    number : (oldest_of later.cuts).number ≡ (oldest_of list.cuts).number
    number = ap (λ (cuts : List Cut). (oldest_of cuts).number) adds.cuts

    long : length later.messages ≡ length list.messages + length adds.more.0
    long = ap length adds.more.1 ∙ length-append list.messages adds.more.0

adds_nothing : (list : ShardList) → Adds list list
adds_nothing list = record { cuts = refl; more = ([], sym (append-nil list.messages)) }

adds_then : (a b c : ShardList) → Adds a b → Adds b c → Adds a c
adds_then a b c x y =
    record {
      cuts = y.cuts ∙ x.cuts;
      more = (
        x.more.0 ++ y.more.0,
        y.more.1 ∙ ap (λ ms. ms ++ y.more.0) x.more.1
            ∙ append_assoc a.messages x.more.0 y.more.0,
      );
    }

act_adds : (b : Bool) (now : ℕ) (list : ShardList) (op : Op) → Adds list (act_if b now list op)
act_adds false now list op = adds_nothing list
act_adds true now list (Store m) = record { cuts = refl; more = (placed m (next_of list) now ∷ [], refl) }
act_adds true now list (Release publisher incarnation id) =
    record { cuts = refl; more = ([], sym (append-nil list.messages)) }
act_adds true now list (Forget publisher incarnation) =
    record { cuts = refl; more = ([], sym (append-nil list.messages)) }

store_adds : (list : ShardList) (ops : List Op) (now : ℕ) → Adds list (store list ops now)
store_adds list [] now = adds_nothing list
store_adds list (op ∷ ops) now =
    let one = act_if (acts list op) now list op in
    adds_then list one (store one ops now) (act_adds (acts list op) now list op) (store_adds one ops now)

pub storing_grows : (list : ShardList) (ops : List Op) (now : ℕ) → IsList list → HasGrown list (store list ops now)
storing_grows list ops now is = adding_grows list (store list ops now) is (store_adds list ops now)

-- ---- what is stored is in order

counted-push : (n k : ℕ) → counted_from n k ++ (n + k) ∷ [] ≡ counted_from n (suc k)
counted-push n zero = let same : n + zero ≡ n = omega arith in ap (λ k. k ∷ []) same
counted-push n (suc k) =
    let same : n + suc k ≡ n + 1 + k =
    omega arith in ap (λ last. n ∷ (counted_from (n + 1) k ++ last ∷ [])) same
    ∙ ap (λ l. n ∷ l) (counted-push (n + 1) k)

act_in_order : (b : Bool) (now : ℕ) (list : ShardList) (op : Op) → IsList list → IsList (act_if b now list op)
act_in_order false now list op is = is
act_in_order true now list (Release publisher incarnation id) is = record { cuts = is.cuts; offsets = is.offsets }
act_in_order true now list (Forget publisher incarnation) is = record { cuts = is.cuts; offsets = is.offsets }
act_in_order true now list (Store m) is =
    let ms = list.messages in
    let new = placed m (next_of list) now in
    let long : length (ms ++ new ∷ []) ≡ length ms + 1 = length-append ms (new ∷ []) in
    let le : next_of list ≤ floor_of list + length (ms ++ new ∷ []) = omega arith in
    let number : suc (length ms) ≡ length (ms ++ new ∷ []) = omega arith in
    record {
      cuts = row_longer (next_of list) (floor_of list + length (ms ++ new ∷ [])) list.cuts le is.cuts;
      offsets =
          map-append (λ (m : StoredMessage). m.offset) ms (new ∷ [])
          ∙ ap (λ l. l ++ next_of list ∷ []) is.offsets
          ∙ counted-push (floor_of list) (length ms)
          ∙ ap (counted_from (floor_of list)) number;
    }

pub store_in_order : (list : ShardList) (ops : List Op) (now : ℕ) → IsList list → IsList (store list ops now)
store_in_order list [] now is = is
store_in_order list (op ∷ ops) now is =
    store_in_order (act_if (acts list op) now list op) ops now (act_in_order (acts list op) now list op is)

pub opening_in_order : (config : Config) → IsList (opening_list config)
opening_in_order config = record { cuts = (omega arith, refl); offsets = refl }
