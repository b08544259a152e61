-- What a property and a list are refused for where neither repeated properties nor bad values are looked at.
use Rattle.std.proofs.Common.{◌≡◌, ℕ, zero, suc, Bool, true, false, cond, leb, List, [], ◌∷◌, length, take, drop, Option, Some, None, Result, Ok, Err, refl, inl, inr}
use Rattle.std.specs.Prelude.{IfErr}
use Rattle.std.proofs.lemmas.Result.{IfErr-at_err}
use Rattle.wire_fields.specs.declared.cut.Cut.{Cut}
use Rattle.wire_fields.specs.Reading.{u8_at, u16_at, u32_at, var_at, bin_at, text_at}
use Rattle.mqtt_props.specs.declared.table.Holder.{Holder}
use Rattle.mqtt_props.specs.declared.table.ValueType.{ValueType}
use Rattle.mqtt_props.specs.declared.table.ValueType.TheVariants.{OneByte, TwoBytes, FourBytes, Variable, OneText, Binary, TwoTexts}
use Rattle.mqtt_props.specs.declared.refused.PropRefused.{PropRefused}
use Rattle.mqtt_props.specs.declared.refused.PropRefused.TheVariants.{Unknown, Misplaced, Spelling, Repeated, BadValue, Memory}
use Rattle.mqtt_props.specs.declared.prop.Prop.{Prop}
use Rattle.mqtt_props.specs.declared.prop.Prop.TheVariants.{Byte, Two, Four, Var, Text, Bin, Pair}
use Rattle.mqtt_props.specs.Table.{value_type, stands_in}
use Rattle.mqtt_props.specs.Reading.{then_read, or_spelling, texts_at, made, value_at, if_it_stands, type_in, named_at, prop_at, IsOfBytes, UnlessMemory}
use Rattle.mqtt_props.specs.Props.{in_front, each_within, each_at, in_writing_order, bare_list, sized_list, list_at}

-- where it is refused, it is for that
abbrev OfBytes : {A : Type 0} → Result A PropRefused → Type 0
OfBytes r = IfErr r IsOfBytes

then_of : {A B : Type 0} (r : Result A PropRefused) (f : A → Result B PropRefused) → OfBytes r → ((x : A) → OfBytes (f x)) → OfBytes (then_read r f)
then_of (Ok x) f h k = k x
then_of (Err e) f h k = h

spelling_of : {A : Type 0} (r : Result A Cut) → OfBytes (or_spelling r)
spelling_of (Ok x) = tt
spelling_of (Err e) = inr (inr refl)

made_of : {Y : Type 0} (make : Y → Prop) (r : Result (Y × List ℕ) Cut) → OfBytes (made make r)
made_of make (Ok x) = tt
made_of make (Err e) = inr (inr refl)

by_test : {A : Type 0} (b : Bool) (r : Result A PropRefused) (e : PropRefused) → OfBytes r → IsOfBytes e → OfBytes (cond b r (Err e))
by_test true r e h k = h
by_test false r e h k = k

stands_of : (id : ℕ) (holder : Holder) (found : Option ValueType) → OfBytes (if_it_stands id holder found)
stands_of id holder None = inl refl
stands_of id holder (Some value) = by_test (stands_in id holder) (Ok value) Misplaced tt (inr (inl refl))

value_of : (value : ValueType) (id : ℕ) (bytes : List ℕ) → OfBytes (value_at value id bytes)
value_of OneByte id bytes = made_of (Byte id) (u8_at bytes)
value_of TwoBytes id bytes = made_of (Two id) (u16_at bytes)
value_of FourBytes id bytes = made_of (Four id) (u32_at bytes)
value_of Variable id bytes = made_of Var (var_at bytes)
value_of OneText id bytes = made_of (Text id) (text_at bytes)
value_of Binary id bytes = made_of (Bin id) (bin_at bytes)
value_of TwoTexts id bytes = made_of (λ (t : List ℕ × List ℕ). Pair t.0 t.1) (texts_at bytes)

prop_of : (holder : Holder) (bytes : List ℕ) → OfBytes (prop_at holder bytes)
unfolding prop_at
prop_of holder bytes =
    then_of (or_spelling (var_at bytes)) (named_at holder) (spelling_of (var_at bytes)) (λ id.
    then_of (type_in id.0 holder) (λ value. value_at value id.0 id.1) (stands_of id.0 holder (value_type id.0)) (λ value. value_of value id.0 id.1))

front_of : (p : Prop) (r : Result (List Prop) PropRefused) → OfBytes r → OfBytes (in_front p r)
front_of p (Ok ps) h = tt
front_of p (Err e) h = h

each_of : (n : ℕ) (holder : Holder) (bytes : List ℕ) → OfBytes (each_within n holder bytes)
unfolding each_within
each_of zero holder bytes = tt
each_of (suc n) holder [] = tt
each_of (suc n) holder (b ∷ bytes) =
    then_of (prop_at holder (b ∷ bytes)) (λ p. in_front p.0 (each_within n holder p.1)) (prop_of holder (b ∷ bytes)) (λ p. front_of p.0 (each_within n holder p.1) (each_of n holder p.1))

bare_of : (holder : Holder) (bytes : List ℕ) → OfBytes (bare_list holder bytes)
bare_of holder bytes = then_of (each_at holder bytes) (λ ps. Ok (in_writing_order ps)) (each_of (length bytes) holder bytes) (λ ps. tt)

list_of : (holder : Holder) (bytes : List ℕ) → OfBytes (list_at holder bytes)
list_of holder bytes = then_of (or_spelling (var_at bytes)) (sized_list holder) (spelling_of (var_at bytes)) (λ size.
    by_test (leb size.0 (length size.1)) (then_read (bare_list holder (take size.0 size.1)) (λ ps. Ok (ps, drop size.0 size.1))) Spelling
    (then_of (bare_list holder (take size.0 size.1)) (λ ps. Ok (ps, drop size.0 size.1)) (bare_of holder (take size.0 size.1)) (λ ps. tt))
    (inr (inr refl)))

-- ---- by name

pub prop_refused : (holder : Holder) (bytes : List ℕ) (e : PropRefused) → prop_at holder bytes ≡ Err e → IsOfBytes e
prop_refused holder bytes e is = IfErr-at_err IsOfBytes is (prop_of holder bytes)

pub list_refused : (holder : Holder) (bytes : List ℕ) (e : PropRefused) → list_at holder bytes ≡ Err e → IsOfBytes e
list_refused holder bytes e is = IfErr-at_err IsOfBytes is (list_of holder bytes)

not_repeated : IsOfBytes Repeated → ⊥
not_repeated (inl h) = cc
not_repeated (inr (inl h)) = cc
not_repeated (inr (inr h)) = cc

not_bad : IsOfBytes BadValue → ⊥
not_bad (inl h) = cc
not_bad (inr (inl h)) = cc
not_bad (inr (inr h)) = cc

-- so a call that reads a list gives no other refusal, but for want of memory
pub never_checked : (e : PropRefused) (holder : Holder) (bytes : List ℕ) → UnlessMemory e (bare_list holder bytes ≡ Err e) → (e ≡ Repeated → ⊥) × (e ≡ BadValue → ⊥)
never_checked Unknown holder bytes is = (λ h. cc, λ h. cc)
never_checked Misplaced holder bytes is = (λ h. cc, λ h. cc)
never_checked Spelling holder bytes is = (λ h. cc, λ h. cc)
never_checked Memory holder bytes is = (λ h. cc, λ h. cc)
never_checked Repeated holder bytes is = absurd (not_repeated (IfErr-at_err IsOfBytes is (bare_of holder bytes)))
never_checked BadValue holder bytes is = absurd (not_bad (IfErr-at_err IsOfBytes is (bare_of holder bytes)))
