-- A message whose identifier is awaited is stored once.
use Rattle.std.proofs.Common.{◌≡◌, ◌⊎◌, inl, inr, ℕ, ◌+◌, ◌<◌, ◌&&◌, ◌||◌, ◌==◌, nat_lt, not, Bool, true, false, if◌then◌else◌, List, [], ◌∷◌, filter, refl, sym, ap, ◌∙◌, bytes_eq, eqb-true, lt-ltb}
use Rattle.std.specs.List.{list_any}
use Rattle.std.proofs.lemmas.Bool.{and_parts}
use Rattle.std.proofs.lemmas.List.Folds.{list_any-append}
use Rattle.std.proofs.lemmas.Map.Views.{any-filter_same}
use Rattle.std.proofs.lemmas.Slice.Eq.{bytes_eq-Decides}
use Rattle.topic_model.specs.StoredMessage.{StoredMessage}
use Rattle.shard_model.specs.ShardList.{Awaited, ShardList}
use Rattle.shard_model.specs.Storing.{Op, Store, Release, Forget, act_if, acts, awaits, becomes_awaited, is_awaited_as, is_message_of, is_of, store, triple_of}
use Rattle.shard_model.specs.Storing.{same_triple}
use Rattle.shard_index.specs.Triples.{same_triple_is}
use Rattle.shard_log.specs.StoredOnce.{Append, Appended, AreEventsOf, Call, ComesBy, ComesOf, Event, IsEventOf, IsRun, IsStoredOnce, Left, Mount, Tick, is_awaited, list_after, once_if, times_after, times_by, times_in_group}

-- ---- a message

-- whether an identifier is awaited once a message acts, by whether it was and whether the message makes it so
abbrev also_if : Bool → Bool → Bool → Bool
also_if true was made = was || made
also_if false was made = was

-- a message of another identifier makes this one neither awaited nor stored
others : (t z was : Bool) (n : ℕ) → n ≡ once_if was → (if t && false then n + 1 else n) ≡ once_if (also_if t was (z && false))
others true true true n is = is
others true true false n is = is
others true false true n is = is
others true false false n is = is
others false z was n is = is

module _ (a : Awaited) (list : ShardList) (m : StoredMessage) where
  abbrev made : Bool
  made = ((m.qos == 2) && nat_lt 0 m.id) && same_triple a (triple_of m)

  becomes : (t s : Bool) → list_any (same_triple a) (if t && s then triple_of m ∷ [] else []) ≡ ((t && s) && same_triple a (triple_of m))
  becomes true true = by (same_triple a (triple_of m))
    where
      by : (b : Bool) → (b || false) ≡ b
      by true = refl
      by false = refl
  becomes true false = refl
  becomes false s = refl

  awaited_behind : (t : Bool) (now : ℕ) → is_awaited a (act_if t now list (Store m)) ≡ also_if t (is_awaited a list) made
  awaited_behind false now = refl
  awaited_behind true now =
      list_any-append (same_triple a) list.awaited (becomes_awaited m) ∙ ap (λ b. is_awaited a list || b) (becomes (m.qos == 2) (nat_lt 0 m.id))

  -- a message of this identifier
  message_is : is_message_of a m ≡ true → triple_of m ≡ a
  message_is is =
      let p = and_parts (bytes_eq m.publisher a.publisher) ((m.incarnation == a.incarnation) && ((m.qos == 2) && (m.id == a.id))) is in
      let q = and_parts (m.incarnation == a.incarnation) ((m.qos == 2) && (m.id == a.id)) p.1 in
      let r = and_parts (m.qos == 2) (m.id == a.id) q.1 in
      let publisher : m.publisher ≡ a.publisher = (bytes_eq-Decides m.publisher a.publisher).0 p.0 in
      let incarnation : m.incarnation ≡ a.incarnation = eqb-true m.incarnation a.incarnation q.0 in
      let id : m.id ≡ a.id = eqb-true m.id a.id r.1 in
      (λ i. record { publisher = publisher i; incarnation = incarnation i; id = id i })

  own_awaited : is_message_of a m ≡ true → awaits list m.publisher m.incarnation m.id ≡ is_awaited a list
  own_awaited is = ap (λ (b : Awaited). is_awaited b list) (message_is is)

  own_positive : 0 < a.id → is_message_of a m ≡ true → nat_lt 0 m.id ≡ true
  own_positive some is = ap (λ (b : Awaited). nat_lt 0 b.id) (message_is is) ∙ lt-ltb 0 a.id some

  store_once : 0 < a.id → (now n : ℕ) → n ≡ once_if (is_awaited a list) →
      times_by a (acts list (Store m)) (Store m) n ≡ once_if (is_awaited a (act_if (acts list (Store m)) now list (Store m)))
  store_once some now n is =
      by (bytes_eq m.publisher a.publisher) (m.incarnation == a.incarnation) (m.qos == 2) (m.id == a.id) (nat_lt 0 m.id) (is_awaited a list)
      (awaits list m.publisher m.incarnation m.id) n is own_awaited (own_positive some)
      ∙ sym (ap once_if (awaited_behind (acts list (Store m)) now))
    where
      by : (p i q d z was own : Bool) (n : ℕ) → n ≡ once_if was → ((p && (i && (q && d))) ≡ true → own ≡ was) → ((p && (i && (q && d))) ≡ true → z ≡ true) →
          (if not (q && own) && (p && (i && (q && d))) then n + 1 else n) ≡ once_if (also_if (not (q && own)) was ((q && z) && ((p && i) && d)))
      by p i false d z was own n is same positive = nothing p i n was is
        where
          nothing : (p i : Bool) (n : ℕ) (was : Bool) → n ≡ once_if was → (if p && (i && false) then n + 1 else n) ≡ once_if (was || false)
          nothing true true n true is = is
          nothing true true n false is = is
          nothing true false n true is = is
          nothing true false n false is = is
          nothing false i n true is = is
          nothing false i n false is = is
      by true true true true z was own n is same positive = mine z was own n is (same refl) (positive refl)
        where
          mine : (z was own : Bool) (n : ℕ) → n ≡ once_if was → own ≡ was → z ≡ true →
              (if not own && true then n + 1 else n) ≡ once_if (also_if (not own) was (z && true))
          mine z true true n is own positive = is
          mine true false false n is own positive = ap (λ k. k + 1) is
          mine false false false n is own positive = absurd cc
          mine z true false n is own positive = absurd cc
          mine z false true n is own positive = absurd cc
      by true true true false z was own n is same positive = others (not own) z was n is
      by true false true d z was own n is same positive = others (not own) z was n is
      by false i true d z was own n is same positive = others (not own) z was n is

-- ---- what takes identifiers away

implied : {A : Type 0} (p q : A → Bool) → ((x : A) → p x ≡ true → q x ≡ true) → (xs : List A) → list_any p xs ≡ true → list_any q xs ≡ true
implied p q gives [] any = any
implied p q gives (x ∷ xs) any = by (p x) (q x) refl any (gives x) (implied p q gives xs)
  where
    by : (s t : Bool) → p x ≡ p x → (s || list_any p xs) ≡ true → (s ≡ true → t ≡ true) → (list_any p xs ≡ true → list_any q xs ≡ true) → (t || list_any q xs) ≡ true
    by true true same any one rest = refl
    by true false same any one rest = absurd (let no : false ≡ true = one refl in cc)
    by false true same any one rest = refl
    by false false same any one rest = rest any

-- taken away by a test that this identifier passes or not
taken : (t r was : Bool) (n : ℕ) → n ≡ once_if was → (r ≡ true → was ≡ true → t ≡ true) → (if r then 0 else n) ≡ once_if (if t then not r && was else was)
taken true true was n is acts = refl
taken true false was n is acts = is
taken false true true n is acts = let no : false ≡ true = acts refl refl in absurd cc
taken false true false n is acts = refl
taken false false was n is acts = is

module _ (a : Awaited) (list : ShardList) (test : Awaited → Bool) where
  -- another one with the same identifier passes a test as this one does
  same_test : (k : Awaited) → same_triple a k ≡ true → not (test k) ≡ not (test a)
  same_test k is = ap (λ b. not (test b)) (sym (same_triple_is a k is))

  still_awaited : list_any (same_triple a) (filter (λ k. not (test k)) list.awaited) ≡ (not (test a) && is_awaited a list)
  still_awaited = any-filter_same (same_triple a) (λ k. not (test k)) (not (test a)) same_test list.awaited

  some_passes : test a ≡ true → is_awaited a list ≡ true → list_any test list.awaited ≡ true
  some_passes is any = implied (same_triple a) test (λ k same. ap test (sym (same_triple_is a k same)) ∙ is) list.awaited any

release_once : (a : Awaited) (list : ShardList) (publisher : List ℕ) (incarnation id now n : ℕ) → n ≡ once_if (is_awaited a list) →
    times_by a (acts list (Release publisher incarnation id)) (Release publisher incarnation id) n
    ≡ once_if (is_awaited a (act_if (acts list (Release publisher incarnation id)) now list (Release publisher incarnation id)))
release_once a list publisher incarnation id now n is =
    taken (acts list (Release publisher incarnation id)) (test a) (is_awaited a list) n is (some_passes a list test)
    ∙ ap once_if (by (acts list (Release publisher incarnation id)))
  where
    test : Awaited → Bool
    test k = is_awaited_as publisher incarnation id k

    by : (t : Bool) → (if t then not (test a) && is_awaited a list else is_awaited a list) ≡ is_awaited a (act_if t now list (Release publisher incarnation id))
    by true = sym (still_awaited a list test)
    by false = refl

forget_once : (a : Awaited) (list : ShardList) (publisher : List ℕ) (incarnation now n : ℕ) → n ≡ once_if (is_awaited a list) →
    times_by a (acts list (Forget publisher incarnation)) (Forget publisher incarnation) n
    ≡ once_if (is_awaited a (act_if (acts list (Forget publisher incarnation)) now list (Forget publisher incarnation)))
forget_once a list publisher incarnation now n is =
    taken (acts list (Forget publisher incarnation)) (test a) (is_awaited a list) n is (some_passes a list test)
    ∙ ap once_if (by (acts list (Forget publisher incarnation)))
  where
    test : Awaited → Bool
    test k = is_of publisher incarnation k

    by : (t : Bool) → (if t then not (test a) && is_awaited a list else is_awaited a list) ≡ is_awaited a (act_if t now list (Forget publisher incarnation))
    by true = sym (still_awaited a list test)
    by false = refl

-- ---- groups and events

op_once : (a : Awaited) → 0 < a.id → (list : ShardList) (op : Op) (now n : ℕ) → n ≡ once_if (is_awaited a list) →
    times_by a (acts list op) op n ≡ once_if (is_awaited a (act_if (acts list op) now list op))
op_once a some list (Store m) now n is = store_once a list m some now n is
op_once a some list (Release publisher incarnation id) now n is = release_once a list publisher incarnation id now n is
op_once a some list (Forget publisher incarnation) now n is = forget_once a list publisher incarnation now n is

group_once : (a : Awaited) → 0 < a.id → (ops : List Op) (list : ShardList) (now n : ℕ) → n ≡ once_if (is_awaited a list) →
    times_in_group a list ops now n ≡ once_if (is_awaited a (store list ops now))
group_once a some [] list now n is = is
group_once a some (op ∷ ops) list now n is = group_once a some ops (act_if (acts list op) now list op) now (times_by a (acts list op) op n) (op_once a some list op now n is)

pub stored_once : (a : Awaited) (list : ShardList) (events : List Event) (n : ℕ) → 0 < a.id → n ≡ once_if (is_awaited a list) →
    times_after a list events n ≡ once_if (is_awaited a (list_after list events))
stored_once a list [] n some is = is
stored_once a list (Appended ops now ∷ events) n some is = stored_once a (store list ops now) events (times_in_group a list ops now n) some (group_once a some ops list now n is)
stored_once a list (Left ∷ events) n some is = stored_once a list events n some is

-- ---- calls

-- where a list comes from by calls
record IsReached (known stored : ShardList) (calls : List Call) (now : ShardList) : Type 0 where
  list : ShardList
  either : (list ≡ known) ⊎ (list ≡ stored)
  events : List Event
  of_calls : AreEventsOf calls events
  reached : now ≡ list_after list events

-- what came of one call
event_of : (call : Call) (list new : ShardList) → ComesBy call list new → (event : Event) × IsEventOf call event × (new ≡ list_after list (event ∷ []))
event_of (Append ops now) list new (inl same) = (Left, inl refl, same)
event_of (Append ops now) list new (inr in_it) = (Appended ops now, inr refl, in_it)
event_of Tick list new same = (Left, refl, same)
event_of Mount list new same = (Left, refl, same)

after_one : (list : ShardList) (event : Event) (events : List Event) → list_after (list_after list (event ∷ [])) events ≡ list_after list (event ∷ events)
after_one list (Appended ops now) events = refl
after_one list Left events = refl

one_call : (call : Call) (calls : List Call) (known stored mid now : ShardList) (events : List Event) → ComesOf call known stored mid → AreEventsOf calls events → now ≡ list_after mid events
    → IsReached known stored (call ∷ calls) now
one_call call calls known stored mid now events comes of_calls reached =
    let found = event_of call comes.0 mid comes.2 in
    record {
      list = comes.0;
      either = comes.1;
      events = found.0 ∷ events;
      of_calls = (found.1, of_calls);
      reached = reached ∙ (ap (λ l. list_after l events) found.2 ∙ after_one comes.0 found.0 events);
    }

reach : (calls : List Call) (known stored known_now stored_now now : ShardList) → IsRun known stored calls known_now stored_now → (now ≡ known_now) ⊎ (now ≡ stored_now) → IsReached known stored calls now
reach [] known stored known_now stored_now now run (inl e) = record { list = known; either = inl refl; events = []; of_calls = tt; reached = e ∙ run.0 }
reach [] known stored known_now stored_now now run (inr e) = record { list = stored; either = inr refl; events = []; of_calls = tt; reached = e ∙ run.1 }
reach (call ∷ calls) known stored known_now stored_now now (known_then, stored_then, first, second, rest) which =
    behind (reach calls known_then stored_then known_now stored_now now rest which)
  where
    behind : IsReached known_then stored_then calls now → IsReached known stored (call ∷ calls) now
    behind r = by r.either
      where
        by : (r.list ≡ known_then) ⊎ (r.list ≡ stored_then) → IsReached known stored (call ∷ calls) now
        by (inl e) = one_call call calls known stored known_then now r.events first r.of_calls (r.reached ∙ ap (λ l. list_after l r.events) e)
        by (inr e) = one_call call calls known stored stored_then now r.events second r.of_calls (r.reached ∙ ap (λ l. list_after l r.events) e)

pub calls_once : (a : Awaited) (list known stored now : ShardList) (calls : List Call) (n : ℕ) → 0 < a.id → n ≡ once_if (is_awaited a list) → IsRun list list calls known stored
    → (now ≡ known) ⊎ (now ≡ stored) → IsStoredOnce a list calls n now
calls_once a list known stored now calls n some is run which = from (reach calls list list known stored now run which)
  where
    from : IsReached list list calls now → IsStoredOnce a list calls n now
    from r =
        let same : r.list ≡ list = elim r.either [ inl e ↦ e | inr e ↦ e ] in
        let reached : now ≡ list_after list r.events = r.reached ∙ ap (λ l. list_after l r.events) same in
        record { events = r.events; of_calls = r.of_calls; reached = reached; once = stored_once a list r.events n some is ∙ ap (λ l. once_if (is_awaited a l)) (sym reached) }
