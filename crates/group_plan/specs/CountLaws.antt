-- The numbers of `Counting` count what is awaited behind operations that act.
use Rattle.std.proofs.Common.{◌≡◌, ℕ, ◌+◌, ◌-◌, ◌≤◌, nat_lt, ◌==◌, Bool, true, false, not, ◌&&◌, if◌then◌else◌, List, [], ◌∷◌, ◌++◌, length, filter, Some, None, refl, sym, ap, ◌∙◌, arith}
use Rattle.std.specs.List.{IsDistinct, list_any}
use Rattle.std.specs.Str.{bytes_eq}
use Rattle.std.proofs.lemmas.Bool.{and_parts, eqb-true}
use Rattle.std.proofs.lemmas.List.{append-nil, length-append}
use Rattle.std.proofs.lemmas.List.Elements.{filter-append}
use Rattle.std.proofs.lemmas.List.Filters.{length-filter_both}
use Rattle.std.proofs.lemmas.Map.Keys.{IsDistinct-push}
use Rattle.std.proofs.lemmas.Slice.Eq.{bytes_eq-Decides}
use Rattle.topic_model.specs.StoredMessage.{StoredMessage}
use Rattle.shard_model.specs.ShardList.{Awaited}
use Rattle.shard_model.specs.Storing.{Op, Store, Release, Forget, becomes_awaited, is_awaited_as, is_of, triple_of}
use Rattle.shard_index.specs.Absorbing.{is_new}
use Rattle.shard_model.specs.Storing.{same_triple}
use Rattle.shard_index.specs.Triples.{same_triple_equiv}
use Rattle.group_plan.specs.Keeping.{acts_on, awaited_by, awaited_after, all_act}
use Rattle.group_plan.specs.Counting.{asks_for, asks_of, is_session, asked_count, counted_by, counted_after, is_free, taken_total, total_by}
use Rattle.group_plan.specs.FilterLaws.{without, none_left, all_left, some_pass, distinct_left, one_or_none, one_taken}

-- ---- nothing is awaited twice behind an operation that acts

added_once : (m : StoredMessage) (awaited : List Awaited) → IsDistinct same_triple awaited → is_new awaited m ≡ true → IsDistinct same_triple (awaited ++ becomes_awaited m)
added_once m awaited distinct new = by (m.qos == 2) (nat_lt 0 m.id) refl new
  where
    by : (two some : Bool) → (m.qos == 2) ≡ two → not (two && list_any (same_triple (triple_of m)) awaited) ≡ true →
        IsDistinct same_triple (awaited ++ (if two && some then triple_of m ∷ [] else []))
    by true true is new = IsDistinct-push same_triple_equiv awaited (triple_of m) distinct (negated (list_any (same_triple (triple_of m)) awaited) new)
      where
        negated : (b : Bool) → not b ≡ true → b ≡ false
        negated true h = sym h
        negated false h = refl
    by true false is new = rw append-nil distinct
    by false some is new = rw append-nil distinct

pub distinct_by : (op : Op) (awaited : List Awaited) → IsDistinct same_triple awaited → acts_on awaited op ≡ true → IsDistinct same_triple (awaited_by op awaited)
distinct_by (Store m) awaited distinct new = added_once m awaited distinct new
distinct_by (Release publisher incarnation id) awaited distinct acts = distinct_left (λ a. not (is_awaited_as publisher incarnation id a)) awaited distinct
distinct_by (Forget publisher incarnation) awaited distinct acts = distinct_left (λ a. not (is_of publisher incarnation a)) awaited distinct

-- ---- how many an operation asks for

-- those that it asks for are of its session
session_of : (publisher other : List ℕ) (incarnation number : ℕ) (a : Awaited) → is_of publisher incarnation a ≡ true →
    is_of other number a ≡ is_session publisher incarnation other number
session_of publisher other incarnation number a is =
    let parts = and_parts (bytes_eq a.publisher publisher) (a.incarnation == incarnation) is in
    let name : a.publisher ≡ publisher = (bytes_eq-Decides a.publisher publisher).0 parts.0 in
    let session : a.incarnation ≡ incarnation = eqb-true a.incarnation incarnation parts.1 in
    ap (λ p. bytes_eq p other && (a.incarnation == number)) name ∙ ap (λ n. bytes_eq publisher other && (n == number)) session

asked_of : (asked : Op) (publisher : List ℕ) (incarnation : ℕ) (a : Awaited) → asks_for asked a ≡ true → is_of publisher incarnation a ≡ asks_of asked publisher incarnation
asked_of (Store m) publisher incarnation a is =
    session_of m.publisher publisher m.incarnation incarnation a (and_parts (is_of m.publisher m.incarnation a) (a.id == m.id) is).0
asked_of (Release other number id) publisher incarnation a is =
    session_of other publisher number incarnation a (and_parts (is_of other number a) (a.id == id) is).0
asked_of (Forget other number) publisher incarnation a is = session_of other publisher number incarnation a is

pub counts_by : (asked op : Op) (awaited : List Awaited) → IsDistinct same_triple awaited → acts_on awaited op ≡ true →
    counted_by asked op (asked_count asked awaited) ≡ asked_count asked (awaited_by op awaited)
counts_by asked (Store m) awaited distinct acts =
    sym (length-append (filter (asks_for asked) awaited) (filter (asks_for asked) (becomes_awaited m)))
    ∙ ap length (sym (filter-append (asks_for asked) awaited (becomes_awaited m)))
counts_by asked (Release publisher incarnation id) awaited distinct acts =
    let triple : Awaited = record { publisher = publisher; incarnation = incarnation; id = id } in
    one_less (asks_for asked triple) (asked_count asked awaited) (asked_count asked (without (same_triple triple) awaited)) (one_taken (asks_for asked) triple awaited distinct acts)
  where
    one_less : (b : Bool) (before behind : ℕ) → behind + (if b then 1 else 0) ≡ before → (if b then before - 1 else before) ≡ behind
    one_less true before behind e = omega arith
    one_less false before behind e = omega arith
counts_by asked (Forget publisher incarnation) awaited distinct acts = by (asks_of asked publisher incarnation) refl
  where
    by : (b : Bool) → asks_of asked publisher incarnation ≡ b → (if b then 0 else asked_count asked awaited) ≡ asked_count asked (without (is_of publisher incarnation) awaited)
    by true is =
        sym (ap length (none_left (asks_for asked) (is_of publisher incarnation) (λ a found. asked_of asked publisher incarnation a found ∙ is) awaited))
    by false is =
        sym (ap length (all_left (asks_for asked) (is_of publisher incarnation) (λ a found. asked_of asked publisher incarnation a found ∙ is) awaited))

pub counts_after : (asked : Op) (ops : List Op) (awaited : List Awaited) → IsDistinct same_triple awaited → all_act awaited ops ≡ true →
    counted_after asked (asked_count asked awaited) ops ≡ asked_count asked (awaited_after awaited ops)
counts_after asked [] awaited distinct act = refl
counts_after asked (op ∷ ops) awaited distinct act =
    let parts = and_parts (acts_on awaited op) (all_act (awaited_by op awaited) ops) act in
    ap (λ n. counted_after asked n ops) (counts_by asked op awaited distinct parts.0)
    ∙ counts_after asked ops (awaited_by op awaited) (distinct_by op awaited distinct parts.0) parts.1

-- ---- how many are awaited in all

taken_is : (f : Awaited → Bool) (awaited : List Awaited) →
    taken_total (length (filter f awaited)) (length awaited) ≡ (if list_any f awaited then Some (length (without f awaited)) else None)
taken_is f awaited =
    by (nat_lt 0 (length (filter f awaited)))
    ∙ ap (λ b. if b then Some (length (without f awaited)) else None) (sym (some_pass f awaited))
  where
    both : length (filter f awaited) + length (without f awaited) ≡ length awaited
    both = length-filter_both f (λ a. not (f a)) (λ a. refl) awaited

    by : (b : Bool) → (if b then Some (length awaited - length (filter f awaited)) else None) ≡ (if b then Some (length (without f awaited)) else None)
    by true = ap Some (omega (arith, both))
    by false = refl

pub total_is : (op : Op) (awaited : List Awaited) →
    total_by op (asked_count op awaited) (length awaited) ≡ (if acts_on awaited op then Some (length (awaited_by op awaited)) else None)
total_is (Store m) awaited =
    by (nat_lt 0 (asked_count (Store m) awaited))
    ∙ ap (λ b. if not ((m.qos == 2) && b) then Some (length (awaited ++ becomes_awaited m)) else None)
    (sym (some_pass (is_awaited_as m.publisher m.incarnation m.id) awaited))
  where
    by : (b : Bool) → (if (m.qos == 2) && b then None else Some (length awaited + length (becomes_awaited m)))
        ≡ (if not ((m.qos == 2) && b) then Some (length (awaited ++ becomes_awaited m)) else None)
    by b = turned ((m.qos == 2) && b)
      where
        turned : (b : Bool) → (if b then None else Some (length awaited + length (becomes_awaited m))) ≡ (if not b then Some (length (awaited ++ becomes_awaited m)) else None)
        turned true = refl
        turned false = ap Some (sym (length-append awaited (becomes_awaited m)))
total_is (Release publisher incarnation id) awaited = taken_is (is_awaited_as publisher incarnation id) awaited
total_is (Forget publisher incarnation) awaited = taken_is (is_of publisher incarnation) awaited

-- of a Store of QoS 0 or 1 no number is needed
pub free_is : (op : Op) (count total : ℕ) → is_free op ≡ true → total_by op count total ≡ Some total
free_is (Store m) count total free = by (m.qos == 2) free
  where
    by : (two : Bool) → not two ≡ true →
        (if two && nat_lt 0 count then None else Some (total + length (if two && nat_lt 0 m.id then triple_of m ∷ [] else []))) ≡ Some total
    by true free = absurd cc
    by false free = ap Some (omega arith)
free_is (Release publisher incarnation id) count total free = absurd cc
free_is (Forget publisher incarnation) count total free = absurd cc

fewer : (f : Awaited → Bool) (awaited : List Awaited) → length (without f awaited) ≤ length awaited + 1
fewer f awaited = omega (arith, length-filter_both f (λ a. not (f a)) (λ a. refl) awaited)

-- at most one more for each operation
by_at_most : (op : Op) (awaited : List Awaited) → length (awaited_by op awaited) ≤ length awaited + 1
by_at_most (Store m) awaited =
    let long = length-append awaited (becomes_awaited m) in let few = at_most_one ((m.qos == 2) && nat_lt 0 m.id) in omega arith
  where
    at_most_one : (b : Bool) → length (if b then triple_of m ∷ [] else []) ≤ 1
    at_most_one true = omega arith
    at_most_one false = omega arith
by_at_most (Release publisher incarnation id) awaited = fewer (is_awaited_as publisher incarnation id) awaited
by_at_most (Forget publisher incarnation) awaited = fewer (is_of publisher incarnation) awaited

pub after_at_most : (ops : List Op) (awaited : List Awaited) → length (awaited_after awaited ops) ≤ length awaited + length ops
after_at_most [] awaited = omega arith
after_at_most (op ∷ ops) awaited =
    let one = by_at_most op awaited in let rest = after_at_most ops (awaited_by op awaited) in omega arith

-- ---- what a look-up tells

-- an identifier stands once at most, so that a look-up counts it
pub looked_up : (publisher : List ℕ) (incarnation id : ℕ) (awaited : List Awaited) (there : Bool) (one : ℕ) → IsDistinct same_triple awaited →
    there ≡ list_any (is_awaited_as publisher incarnation id) awaited → one ≡ (if there then 1 else 0) →
    one ≡ length (filter (is_awaited_as publisher incarnation id) awaited)
looked_up publisher incarnation id awaited there one distinct e is =
    is ∙ ap (λ b. if b then 1 else 0) e ∙ sym (one_or_none (record { publisher = publisher; incarnation = incarnation; id = id }) awaited distinct)
