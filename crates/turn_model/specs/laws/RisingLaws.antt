-- Messages that stand in a list with rising offsets; the first of its topic among them; and the list without one.
use Rattle.std.proofs.Common.{◌≡◌, ℕ, zero, suc, ◌+◌, ◌<◌, ◌≤◌, ◌⊎◌, Bool, true, false, cond, eqb, List, [], ◌∷◌}
use Rattle.std.proofs.Common.{length, map, drop, Some, refl, sym, ap, ◌∙◌, arith, inl, inr}
use Rattle.std.specs.List.{filter}
use Rattle.std.proofs.lemmas.Bool.{false≢true, eqb-true, eqb-false}
use Rattle.std.proofs.lemmas.Option.{none-some, same_Some}
use Rattle.topic_model.specs.StoredMessage.{StoredMessage}
use Rattle.shard_model.specs.ShardList.{floor_of}
use Rattle.shard_model.specs.Lists.{IsList}
use Rattle.shard_model.specs.SweepOrder.{counted_from}
use Rattle.shard_model.specs.Wanted.{is_wanted, same_topic}
use Rattle.topic_model.specs.Places.{HasPlace}
use Rattle.turn_model.specs.MayIssue.{Issuing, wanted_by, Ascend, is_first, without_message}

-- ---- messages that stand in a list with rising offsets

pub stands_cases : (w v : StoredMessage) (ws : List StoredMessage) → HasPlace (v ∷ ws) w → (v ≡ w) ⊎ HasPlace ws w
stands_cases w v ws (zero, e) = inl (same_Some v w e)
stands_cases w v ws (suc k, e) = inr (k, e)

pub behind : (w v : StoredMessage) (ws : List StoredMessage) → HasPlace ws w → HasPlace (v ∷ ws) w
behind w v ws s = (suc s.0, s.1)

pub in_front : (w v : StoredMessage) (ws : List StoredMessage) → v ≡ w → HasPlace (v ∷ ws) w
in_front w v ws e = (0, ap (λ (x : StoredMessage). Some x) e)

-- what stands behind one in a list stands behind it in another
pub behind_too : (w v : StoredMessage) (ws vs : List StoredMessage) → HasPlace (v ∷ ws) w →
    (HasPlace ws w → HasPlace vs w) → HasPlace (v ∷ vs) w
behind_too w v ws vs s rest =
    elim (stands_cases w v ws s) [
      | inl f ↦ in_front w v vs f
      | inr t ↦ behind w v vs (rest t)
    ]

pub same_offset : {v w : StoredMessage} → v ≡ w → v.offset ≡ w.offset
same_offset e = ap (λ (x : StoredMessage). x.offset) e

-- each of the first stands in the second
abbrev pub AllIn : List StoredMessage → List StoredMessage → Type 0
AllIn ws vs = (v : StoredMessage) → HasPlace ws v → HasPlace vs v

pub stands_nowhere : (w : StoredMessage) → HasPlace [] w → ⊥
stands_nowhere w s = none-some w s.1

pub ascend_behind : (w : StoredMessage) (ws : List StoredMessage) → Ascend (w ∷ ws) → Ascend ws
ascend_behind w [] asc = tt
ascend_behind w (v ∷ ws) asc = asc.1

pub above : (w : StoredMessage) (ws : List StoredMessage) → Ascend (w ∷ ws) → (v : StoredMessage) → HasPlace ws v →
    w.offset < v.offset
above w [] asc v s = absurd (stands_nowhere v s)
above w (u ∷ ws) asc v (zero, e) =
    let same : u.offset ≡ v.offset = same_offset (same_Some u v e) in
    let lt : w.offset < u.offset = asc.0 in
    omega arith
above w (u ∷ ws) asc v (suc k, e) =
    let lt : w.offset < u.offset = asc.0 in
    let rest = above u ws asc.1 v (k, e) in
    omega arith

pub ascend_with : (w : StoredMessage) (ws : List StoredMessage) →
    ((v : StoredMessage) → HasPlace ws v → w.offset < v.offset) → Ascend ws → Ascend (w ∷ ws)
ascend_with w [] less asc = tt
ascend_with w (v ∷ ws) less asc = (less v (0, refl), asc)

pub not_below : (v : StoredMessage) (vs : List StoredMessage) → Ascend (v ∷ vs) → (e : StoredMessage) →
    HasPlace (v ∷ vs) e → v.offset ≤ e.offset
not_below v vs asc e s =
    elim (stands_cases e v vs s) [
      | inl f ↦ let same : v.offset ≡ e.offset = same_offset f in omega arith
      | inr t ↦ let lt = above v vs asc e t in omega arith
    ]

-- one offset is of one message
pub one_offset : (ms : List StoredMessage) → Ascend ms → (a b : StoredMessage) → HasPlace ms a → HasPlace ms b →
    a.offset ≡ b.offset → a ≡ b
one_offset [] asc a b at_a at_b e = absurd (stands_nowhere a at_a)
one_offset (m ∷ ms) asc a b at_a at_b e =
    elim (stands_cases a m ms at_a) [
      | inl f ↦ elim (stands_cases b m ms at_b) [
        | inl g ↦ sym f ∙ g
        | inr t ↦
            let lt = above m ms asc b t in
            let same : m.offset ≡ a.offset = same_offset f in
            absurd (omega arith)
      ]
      | inr s ↦ elim (stands_cases b m ms at_b) [
        | inl g ↦
            let lt = above m ms asc a s in
            let same : m.offset ≡ b.offset = same_offset g in
            absurd (omega arith)
        | inr t ↦ one_offset ms (ascend_behind m ms asc) a b s t e
      ]
    ]

-- ---- a part of a list

pub filter_within : (p : StoredMessage → Bool) (ms : List StoredMessage) (v : StoredMessage) →
    HasPlace (filter p ms) v → HasPlace ms v × (p v ≡ true)
filter_within p [] v s = absurd (stands_nowhere v s)
filter_within p (m ∷ ms) v s = by (p m) refl s (filter_within p ms v)
  where
    by : (b : Bool) → p m ≡ b → HasPlace (cond b (m ∷ filter p ms) (filter p ms)) v →
        (HasPlace (filter p ms) v → HasPlace ms v × (p v ≡ true)) → HasPlace (m ∷ ms) v × (p v ≡ true)
    by true is s rest =
        elim (stands_cases v m (filter p ms) s) [
          | inl f ↦ (in_front v m ms f, ap p (sym f) ∙ is)
          | inr t ↦ let r = rest t in (behind v m ms r.0, r.1)
        ]
    by false is s rest = let r = rest s in (behind v m ms r.0, r.1)

pub filter_has : (p : StoredMessage → Bool) (ms : List StoredMessage) (v : StoredMessage) → HasPlace ms v → p v ≡ true →
    HasPlace (filter p ms) v
filter_has p [] v s is = absurd (stands_nowhere v s)
filter_has p (m ∷ ms) v s is = by (p m) refl (λ t. filter_has p ms v t is)
  where
    by : (b : Bool) → p m ≡ b → (HasPlace ms v → HasPlace (filter p ms) v) →
        HasPlace (cond b (m ∷ filter p ms) (filter p ms)) v
    by true e rest = behind_too v m ms (filter p ms) s rest
    by false e rest =
        elim (stands_cases v m ms s) [
          | inl f ↦ absurd (false≢true (sym e ∙ ap p f ∙ is))
          | inr t ↦ rest t
        ]

pub filter_ascends : (p : StoredMessage → Bool) (ms : List StoredMessage) → Ascend ms → Ascend (filter p ms)
filter_ascends p [] asc = tt
filter_ascends p (m ∷ ms) asc = by (p m) (filter_ascends p ms (ascend_behind m ms asc))
  where
    by : (b : Bool) → Ascend (filter p ms) → Ascend (cond b (m ∷ filter p ms) (filter p ms))
    by true rest = ascend_with m (filter p ms) (λ v s. above m ms asc v (filter_within p ms v s).0) rest
    by false rest = rest

-- the messages of a shard's list that is in order
abbrev pub first_or : ℕ → List ℕ → ℕ
first_or other [] = other
first_or other (n ∷ ns) = n

pub counted_ascend : (ms : List StoredMessage) (floor : ℕ) →
    map (λ (m : StoredMessage). m.offset) ms ≡ counted_from floor (length ms) → Ascend ms
counted_ascend [] floor e = tt
counted_ascend (m ∷ []) floor e = tt
counted_ascend (m ∷ v ∷ ms) floor e =
    let first : m.offset ≡ floor = ap (first_or floor) e in
    let second : v.offset ≡ floor + 1 = ap (λ (l : List ℕ). first_or floor (drop 1 l)) e in
    (omega arith, counted_ascend (v ∷ ms) (floor + 1) (ap (drop 1) e))

pub wanted_ascends : (i : Issuing) → IsList i.list → Ascend (wanted_by i)
wanted_ascends i is = filter_ascends (is_wanted i.subscription.filter i.start) i.list.messages
    (counted_ascend i.list.messages (floor_of i.list) is.offsets)

-- ---- the first of its topic, and what is left behind it

abbrev pub topic_by : Bool → Bool → Bool
topic_by c rest = elim c as (λ same. Bool) [ true ↦ false | false ↦ rest ]

abbrev pub first_by : Bool → Bool → Bool → Bool
first_by b c rest = elim b as (λ same. Bool) [ true ↦ true | false ↦ topic_by c rest ]

abbrev pub without_by : Bool → StoredMessage → List StoredMessage → List StoredMessage → List StoredMessage
without_by b u us rest = elim b as (λ same. List StoredMessage) [ true ↦ us | false ↦ u ∷ rest ]

-- no earlier message of its topic stands there
abbrev pub NoneEarlier : StoredMessage → List StoredMessage → Type 0
NoneEarlier w left = (e : StoredMessage) → HasPlace left e → e.offset < w.offset → same_topic e.topic w.topic ≡ true → ⊥

pub none_earlier : (w : StoredMessage) (left : List StoredMessage) → Ascend left → is_first w left ≡ true →
    NoneEarlier w left
none_earlier w [] asc is e s lt same = stands_nowhere e s
none_earlier w (v ∷ vs) asc is e s lt same =
    by (eqb v.offset w.offset) (same_topic v.topic w.topic) refl refl is
    (λ f t. none_earlier w vs (ascend_behind v vs asc) f e t lt same)
  where
    by : (b c : Bool) → eqb v.offset w.offset ≡ b → same_topic v.topic w.topic ≡ c →
        first_by b c (is_first w vs) ≡ true → (is_first w vs ≡ true → HasPlace vs e → ⊥) → ⊥
    by true c here topic f rest =
        let at = eqb-true v.offset w.offset here in
        let from = not_below v vs asc e s in
        omega arith
    by false true here topic f rest = false≢true f
    by false false here topic f rest =
        elim (stands_cases e v vs s) [
          | inl g ↦ false≢true (sym topic ∙ ap (λ (x : StoredMessage). same_topic x.topic w.topic) g ∙ same)
          | inr t ↦ rest f t
        ]

pub has_first : (w : StoredMessage) (left : List StoredMessage) → is_first w left ≡ true → (v : StoredMessage)
    × HasPlace left v × (v.offset ≡ w.offset)
has_first w [] is = absurd (false≢true is)
has_first w (v ∷ vs) is = by (eqb v.offset w.offset) (same_topic v.topic w.topic) refl is (has_first w vs)
  where
    by : (b c : Bool) → eqb v.offset w.offset ≡ b → first_by b c (is_first w vs) ≡ true →
        (is_first w vs ≡ true → (u : StoredMessage) × HasPlace vs u × (u.offset ≡ w.offset)) →
        (u : StoredMessage) × HasPlace (v ∷ vs) u × (u.offset ≡ w.offset)
    by true c here f rest = (v, (0, refl), eqb-true v.offset w.offset here)
    by false true here f rest = absurd (false≢true f)
    by false false here f rest = let r = rest f in (r.0, behind r.0 v vs r.1, r.2)

pub comes_first : (w : StoredMessage) (left : List StoredMessage) → Ascend left → HasPlace left w → NoneEarlier w left →
    is_first w left ≡ true
comes_first w [] asc s none = absurd (stands_nowhere w s)
comes_first w (v ∷ vs) asc s none =
    by (eqb v.offset w.offset) (same_topic v.topic w.topic) refl refl
    (λ t. comes_first w vs (ascend_behind v vs asc) t (λ e u lt same. none e (behind e v vs u) lt same))
  where
    by : (b c : Bool) → eqb v.offset w.offset ≡ b → same_topic v.topic w.topic ≡ c →
        (HasPlace vs w → is_first w vs ≡ true) → first_by b c (is_first w vs) ≡ true
    by true c here topic rest = refl
    by false c here topic rest =
        elim (stands_cases w v vs s) [
          | inl f ↦ absurd (eqb-false v.offset w.offset here (same_offset f))
          | inr t ↦ later c topic (rest t) (above v vs asc w t)
        ]
      where
        later : (c : Bool) → same_topic v.topic w.topic ≡ c → is_first w vs ≡ true → v.offset < w.offset →
            topic_by c (is_first w vs) ≡ true
        later true topic f lt = absurd (none v (0, refl) lt topic)
        later false topic f lt = f

pub without_within : (w : StoredMessage) (left : List StoredMessage) (v : StoredMessage) →
    HasPlace (without_message w left) v → HasPlace left v
without_within w [] v s = s
without_within w (u ∷ us) v s = by (eqb u.offset w.offset) s (without_within w us v)
  where
    by : (b : Bool) → HasPlace (without_by b u us (without_message w us)) v →
        (HasPlace (without_message w us) v → HasPlace us v) → HasPlace (u ∷ us) v
    by true s rest = behind v u us s
    by false s rest = behind_too v u (without_message w us) us s rest

pub without_others : (w : StoredMessage) (left : List StoredMessage) (v : StoredMessage) → HasPlace left v →
    (v.offset ≡ w.offset) ⊎ HasPlace (without_message w left) v
without_others w [] v s = inr s
without_others w (u ∷ us) v s = by (eqb u.offset w.offset) refl (without_others w us v)
  where
    IsIn : List StoredMessage → Type 0
    IsIn vs = (v.offset ≡ w.offset) ⊎ HasPlace vs v

    by : (b : Bool) → eqb u.offset w.offset ≡ b → (HasPlace us v → IsIn (without_message w us)) →
        IsIn (without_by b u us (without_message w us))
    by true here rest =
        elim (stands_cases v u us s) [
          | inl f ↦ inl (sym (same_offset f) ∙ eqb-true u.offset w.offset here)
          | inr t ↦ inr t
        ]
    by false here rest =
        elim (stands_cases v u us s) [
          | inl f ↦ inr (in_front v u (without_message w us) f)
          | inr t ↦ elim (rest t) [
            | inl e ↦ inl e
            | inr r ↦ inr (behind v u (without_message w us) r)
          ]
        ]

pub without_ascends : (w : StoredMessage) (left : List StoredMessage) → Ascend left → Ascend (without_message w left)
without_ascends w [] asc = tt
without_ascends w (u ∷ us) asc = by (eqb u.offset w.offset) (without_ascends w us (ascend_behind u us asc))
  where
    by : (b : Bool) → Ascend (without_message w us) → Ascend (without_by b u us (without_message w us))
    by true rest = ascend_behind u us asc
    by false rest = ascend_with u (without_message w us) (λ v s. above u us asc v (without_within w us v s)) rest

pub without_it : (w : StoredMessage) (left : List StoredMessage) → Ascend left → (v : StoredMessage) →
    HasPlace (without_message w left) v → v.offset ≡ w.offset → ⊥
without_it w [] asc v s e = stands_nowhere v s
without_it w (u ∷ us) asc v s e = by (eqb u.offset w.offset) refl s
    (λ t. without_it w us (ascend_behind u us asc) v t e)
  where
    by : (b : Bool) → eqb u.offset w.offset ≡ b → HasPlace (without_by b u us (without_message w us)) v →
        (HasPlace (without_message w us) v → ⊥) → ⊥
    by true here s rest =
        let at = eqb-true u.offset w.offset here in
        let lt = above u us asc v s in
        omega arith
    by false here s rest =
        elim (stands_cases v u (without_message w us) s) [
          | inl f ↦ eqb-false u.offset w.offset here (same_offset f ∙ e)
          | inr t ↦ rest t
        ]
