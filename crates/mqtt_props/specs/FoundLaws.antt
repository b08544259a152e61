-- What is read was spelled so.
use Rattle.std.proofs.Common.{◌≡◌, ℕ, zero, suc, ◌≤◌, Bool, true, false, cond, leb, List, [], ◌∷◌, ◌++◌, length, take, drop, Result, Ok, Err, Option, Some, None, refl, sym, ap, subst, ◌∙◌, append_assoc, arith, All}
use Rattle.std.specs.List.{flat_map}
use Rattle.std.proofs.lemmas.Bool.{leb-true}
use Rattle.std.proofs.lemmas.List.{length-append, length-take, take-append-drop}
use Rattle.std.proofs.lemmas.List.Elements.{All-cons}
use Rattle.wire_fields.specs.declared.cut.Cut.{Cut}
use Rattle.wire_fields.specs.Spelled.{spelled_var, spelled_text}
use Rattle.wire_fields.specs.Reading.{◌>>=◌, AreBytes, u8_at, u16_at, u32_at, var_at, bin_at, text_at}
use Rattle.wire_fields.specs.Places.{Took, bind_ok, are_bytes_take, are_bytes_drop}
use Rattle.wire_fields.specs.NumberLaws.{u8_takes, u16_takes, u32_takes}
use Rattle.wire_fields.specs.VarLaws.{var_takes}
use Rattle.wire_fields.specs.TextLaws.{is_text_means}
use Rattle.wire_fields.specs.SizedLaws.{text_takes, bin_takes}
use Rattle.mqtt_props.specs.declared.table.Holder.{Holder}
use Rattle.mqtt_props.specs.declared.table.ValueType.{ValueType}
use Rattle.mqtt_props.specs.declared.table.ValueType.TheVariants.{OneByte, TwoBytes, FourBytes, Variable, OneText, Binary, TwoTexts}
use Rattle.mqtt_props.specs.declared.refused.PropRefused.{PropRefused}
use Rattle.mqtt_props.specs.declared.refused.PropRefused.TheVariants.{Misplaced, Spelling}
use Rattle.mqtt_props.specs.declared.prop.Prop.{Prop}
use Rattle.mqtt_props.specs.declared.prop.Prop.TheVariants.{Byte, Two, Four, Var, Text, Bin, Pair}
use Rattle.mqtt_props.specs.Table.{value_type, stands_in}
use Rattle.mqtt_props.specs.Prop.{id_of, IsProp, IsPropIn, IsShortText, spelled_value, spelled_prop}
use Rattle.mqtt_props.specs.Reading.{then_read, or_spelling, made, texts_at, value_at, if_it_stands, type_in, named_at, prop_at}
use Rattle.mqtt_props.specs.Props.{in_front, each_within, in_writing_order, bare_list, sized_list, list_at, checked, arranged, bare_props, props_at, spelled_bare, IsArranged, SpellsBare, SpellsSized, TookList}
use Rattle.mqtt_props.specs.TypeLaws.{variable_is, texts_are}
use Rattle.mqtt_props.specs.SpelledLaws.{prop_some}
use Rattle.mqtt_props.specs.ListLaws.{props_are_checked}

-- ---- what a step gave

then_ok : {A B : Type 0} (r : Result A PropRefused) (f : A → Result B PropRefused) (y : B) → then_read r f ≡ Ok y → (x : A) × (r ≡ Ok x) × (f x ≡ Ok y)
then_ok (Ok x) f y e = (x, refl, e)
then_ok (Err d) f y e = absurd cc

or_ok : {A : Type 0} (r : Result A Cut) (x : A) → or_spelling r ≡ Ok x → r ≡ Ok x
or_ok (Ok y) x e = let same : y ≡ x = cc in ap Ok same
or_ok (Err d) x e = absurd cc

made_ok : {Y : Type 0} (make : Y → Prop) (r : Result (Y × List ℕ) Cut) (x : Prop × List ℕ) → made make r ≡ Ok x → (y : Y × List ℕ) × (r ≡ Ok y) × ((make y.0, y.1) ≡ x)
made_ok make (Ok y) x e = (y, refl, cc)
made_ok make (Err d) x e = absurd cc

front_ok : (p : Prop) (r : Result (List Prop) PropRefused) (ps : List Prop) → in_front p r ≡ Ok ps → (qs : List Prop) × (r ≡ Ok qs) × ((p ∷ qs) ≡ ps)
front_ok p (Ok qs) ps e = (qs, refl, cc)
front_ok p (Err d) ps e = absurd cc

by_test : {A : Type 0} (b : Bool) (d : PropRefused) (r : Result A PropRefused) (y : A) → cond b r (Err d) ≡ Ok y → (b ≡ true) × (r ≡ Ok y)
by_test true d r y e = (refl, e)
by_test false d r y e = absurd cc

one_ok : (v value : ValueType) (r : Result ValueType PropRefused) → r ≡ Ok v → r ≡ Ok value → v ≡ value
one_ok v value r e f = let same = sym e ∙ f in cc

stands_ok : (id : ℕ) (holder : Holder) (found : Option ValueType) (value : ValueType) → if_it_stands id holder found ≡ Ok value → (found ≡ Some value) × (stands_in id holder ≡ true)
stands_ok id holder None value e = absurd cc
stands_ok id holder (Some v) value e =
    let p = by_test (stands_in id holder) Misplaced (Ok v) value e in
    let same : v ≡ value = one_ok v value (Ok v) refl p.1 in
    (ap Some same, p.0)

-- ---- one property

texts_take : (bytes : List ℕ) (x : (List ℕ × List ℕ) × List ℕ) → AreBytes bytes → texts_at bytes ≡ Ok x → Took (IsShortText x.0.0 × IsShortText x.0.1) bytes (spelled_text x.0.0 ++ spelled_text x.0.1) x.1
texts_take bytes x fits e =
    let first = bind_ok (text_at bytes) (λ a. text_at a.1 >>= λ b. Ok ((a.0, b.0), b.1)) x e in
    let second = bind_ok (text_at first.0.1) (λ b. Ok ((first.0.0, b.0), b.1)) x first.2 in
    let a = text_takes bytes first.0 fits first.1 in
    let b = text_takes first.0.1 second.0 a.behind second.1 in
    let is : ((first.0.0, second.0.0), second.0.1) ≡ x = let found = second.2 in cc in
    subst (λ (y : (List ℕ × List ℕ) × List ℕ). Took (IsShortText y.0.0 × IsShortText y.0.1) bytes (spelled_text y.0.0 ++ spelled_text y.0.1) y.1) is record {
      parts = a.parts ∙ ap (λ (l : List ℕ). spelled_text first.0.0 ++ l) b.parts ∙ sym (append_assoc (spelled_text first.0.0) (spelled_text second.0.0) second.0.1);
      in_range = ((omega (arith, a.in_range.0), is_text_means first.0.0 a.in_range.1), (omega (arith, b.in_range.0), is_text_means second.0.0 b.in_range.1));
      behind = b.behind;
    }

abbrev TookValue : ℕ → List ℕ → Prop × List ℕ → Type 0
TookValue id bytes x = Took (IsProp x.0 × (id_of x.0 ≡ id)) bytes (spelled_value x.0) x.1

value_takes : (value : ValueType) (id : ℕ) (bytes : List ℕ) (x : Prop × List ℕ) → AreBytes bytes → value_type id ≡ Some value → value_at value id bytes ≡ Ok x → TookValue id bytes x
value_takes OneByte id bytes x fits is e =
    let m = made_ok (Byte id) (u8_at bytes) x e in
    let t = u8_takes bytes m.0 fits m.1 in
    subst (TookValue id bytes) m.2 record { parts = t.parts; in_range = ((is, t.in_range), refl); behind = t.behind }
value_takes TwoBytes id bytes x fits is e =
    let m = made_ok (Two id) (u16_at bytes) x e in
    let t = u16_takes bytes m.0 fits m.1 in
    subst (TookValue id bytes) m.2 record { parts = t.parts; in_range = ((is, t.in_range), refl); behind = t.behind }
value_takes FourBytes id bytes x fits is e =
    let m = made_ok (Four id) (u32_at bytes) x e in
    let t = u32_takes bytes m.0 fits m.1 in
    subst (TookValue id bytes) m.2 record { parts = t.parts; in_range = ((is, t.in_range), refl); behind = t.behind }
value_takes Variable id bytes x fits is e =
    let m = made_ok Var (var_at bytes) x e in
    let t = var_takes bytes m.0 fits m.1 in
    subst (TookValue id bytes) m.2 record { parts = t.parts; in_range = (t.in_range, variable_is id is); behind = t.behind }
value_takes OneText id bytes x fits is e =
    let m = made_ok (Text id) (text_at bytes) x e in
    let t = text_takes bytes m.0 fits m.1 in
    subst (TookValue id bytes) m.2 record { parts = t.parts; in_range = ((is, (omega (arith, t.in_range.0), is_text_means m.0.0 t.in_range.1)), refl); behind = t.behind }
value_takes Binary id bytes x fits is e =
    let m = made_ok (Bin id) (bin_at bytes) x e in
    let t = bin_takes bytes m.0 fits m.1 in
    subst (TookValue id bytes) m.2 record { parts = t.parts; in_range = ((is, omega (arith, t.in_range)), refl); behind = t.behind }
value_takes TwoTexts id bytes x fits is e =
    let m = made_ok (λ (t : List ℕ × List ℕ). Pair t.0 t.1) (texts_at bytes) x e in
    let t = texts_take bytes m.0 fits m.1 in
    subst (TookValue id bytes) m.2 record { parts = t.parts; in_range = (t.in_range, texts_are id is); behind = t.behind }

pub prop_takes : (holder : Holder) (bytes : List ℕ) (x : Prop × List ℕ) → AreBytes bytes → prop_at holder bytes ≡ Ok x → Took (IsPropIn holder x.0) bytes (spelled_prop x.0) x.1
unfolding prop_at
prop_takes holder bytes x fits e =
    let head = then_ok (or_spelling (var_at bytes)) (named_at holder) x e in
    let id = head.0.0 in
    let rest = head.0.1 in
    let t = var_takes bytes head.0 fits (or_ok (var_at bytes) head.0 head.1) in
    let kind = then_ok (type_in id holder) (λ value. value_at value id rest) x head.2 in
    let s = stands_ok id holder (value_type id) kind.0 kind.1 in
    let v = value_takes kind.0 id rest x t.behind s.0 kind.2 in
    let same = v.in_range.1 in
    record {
      parts = t.parts ∙ (λ i. spelled_var (sym same i) ++ v.parts i) ∙ sym (append_assoc (spelled_var (id_of x.0)) (spelled_value x.0) x.1);
      in_range = (v.in_range.0, ap (λ (n : ℕ). stands_in n holder) same ∙ s.1);
      behind = v.behind;
    }

-- ---- a list

each_takes : (n : ℕ) (holder : Holder) (bytes : List ℕ) (ps : List Prop) → AreBytes bytes → length bytes ≤ n → each_within n holder bytes ≡ Ok ps → All (IsPropIn holder) ps × (bytes ≡ flat_map spelled_prop ps)
unfolding each_within
each_takes zero holder [] ps fits le e =
    let none : [] ≡ ps = cc in
    subst (λ (qs : List Prop). All (IsPropIn holder) qs × ([] ≡ flat_map spelled_prop qs)) none (λ k d lt. absurd (omega (arith, lt)), refl)
each_takes zero holder (b ∷ bytes) ps fits le e = absurd (omega (arith, le))
each_takes (suc n) holder [] ps fits le e =
    let none : [] ≡ ps = cc in
    subst (λ (qs : List Prop). All (IsPropIn holder) qs × ([] ≡ flat_map spelled_prop qs)) none (λ k d lt. absurd (omega (arith, lt)), refl)
each_takes (suc n) holder (b ∷ bytes) ps fits le e =
    let head = then_ok (prop_at holder (b ∷ bytes)) (λ p. in_front p.0 (each_within n holder p.1)) ps e in
    let p = head.0.0 in
    let rest = head.0.1 in
    let t = prop_takes holder (b ∷ bytes) head.0 fits head.1 in
    let behind = front_ok p (each_within n holder rest) ps head.2 in
    let fewer : length rest ≤ n = omega (arith, le, ap length t.parts, length-append (spelled_prop p) rest, prop_some p) in
    let others = each_takes n holder rest behind.0 t.behind fewer behind.1 in
    subst (λ (qs : List Prop). All (IsPropIn holder) qs × ((b ∷ bytes) ≡ flat_map spelled_prop qs)) behind.2 (
      All-cons (IsPropIn holder) p behind.0 t.in_range others.0,
      t.parts ∙ ap (λ (l : List ℕ). spelled_prop p ++ l) others.1,
    )

pub bare_takes : (holder : Holder) (bytes : List ℕ) (ps : List Prop) → AreBytes bytes → bare_props holder bytes ≡ Ok ps → SpellsBare holder bytes ps
bare_takes holder bytes ps fits e =
    let head = then_ok (each_within (length bytes) holder bytes) (arranged holder) ps e in
    let found = each_takes (length bytes) holder bytes head.0 fits (omega arith) head.1 in
    (head.0, (found.0, found.1, head.2))

-- a list is read, whether or not a property is repeated or has a bad value
listed : (holder : Holder) (bytes : List ℕ) (ps : List Prop) → AreBytes bytes → bare_list holder bytes ≡ Ok ps → (qs : List Prop) × (IsArranged holder qs ps × (bytes ≡ spelled_bare qs))
listed holder bytes ps fits e =
    let head = then_ok (each_within (length bytes) holder bytes) (λ qs. Ok (in_writing_order qs)) ps e in
    let found = each_takes (length bytes) holder bytes head.0 fits (omega arith) head.1 in
    let is : in_writing_order head.0 ≡ ps = let same = head.2 in cc in
    (head.0, (record { fits = found.0; ordered = is }, found.1))

sized_parts : (bytes rest bare : List ℕ) (n : ℕ) → bytes ≡ spelled_var n ++ rest → length bare ≡ n → take n rest ≡ bare → bytes ≡ (spelled_var (length bare) ++ bare) ++ drop n rest
sized_parts bytes rest bare n e size is =
    e
    ∙ (λ i. spelled_var (sym size i) ++ sym (take-append-drop n rest) i)
    ∙ ap (λ (l : List ℕ). spelled_var (length bare) ++ (l ++ drop n rest)) is
    ∙ sym (append_assoc (spelled_var (length bare)) bare (drop n rest))

pub list_takes : (holder : Holder) (bytes : List ℕ) (x : List Prop × List ℕ) → AreBytes bytes → list_at holder bytes ≡ Ok x → (qs : List Prop) × TookList holder bytes qs x.0 x.1
list_takes holder bytes x fits e =
    let head = then_ok (or_spelling (var_at bytes)) (sized_list holder) x e in
    let n = head.0.0 in
    let rest = head.0.1 in
    let t = var_takes bytes head.0 fits (or_ok (var_at bytes) head.0 head.1) in
    let test = by_test (leb n (length rest)) Spelling (then_read (bare_list holder (take n rest)) (λ ps. Ok (ps, drop n rest))) x head.2 in
    let list = then_ok (bare_list holder (take n rest)) (λ ps. Ok (ps, drop n rest)) x test.1 in
    let found = listed holder (take n rest) list.0 (are_bytes_take n rest t.behind) list.1 in
    let qs : List Prop = found.0 in
    let bare : take n rest ≡ spelled_bare qs = found.1.1 in
    let size : length (spelled_bare qs) ≡ n = sym (ap length bare) ∙ omega (arith, length-take n rest, leb-true n (length rest) test.0) in
    let is : (list.0, drop n rest) ≡ x = let same = list.2 in cc in
    subst (λ (y : List Prop × List ℕ). (zs : List Prop) × TookList holder bytes zs y.0 y.1) is (
      qs,
      record {
        parts = sized_parts bytes rest (spelled_bare qs) n t.parts size bare;
        list = found.1.0;
        few = omega (arith, size, t.in_range);
        behind = are_bytes_drop n rest t.behind;
      },
    )

pub props_take : (holder : Holder) (bytes : List ℕ) (x : List Prop × List ℕ) → AreBytes bytes → props_at holder bytes ≡ Ok x → SpellsSized holder bytes x.0 x.1
props_take holder bytes x fits e =
    let read = then_ok (list_at holder bytes) (λ y. then_read (checked holder y.0) (λ ps. Ok (ps, y.1))) x (sym (props_are_checked holder bytes) ∙ e) in
    let found = list_takes holder bytes read.0 fits read.1 in
    let passed = then_ok (checked holder read.0.0) (λ ps. Ok (ps, read.0.1)) x read.2 in
    let is : (passed.0, read.0.1) ≡ x = let same = passed.2 in cc in
    let qs : List Prop = found.0 in
    subst (λ (y : List Prop × List ℕ). SpellsSized holder bytes y.0 y.1) is (
      spelled_bare qs,
      (found.1.parts, (qs, (found.1.list.fits, refl, ap (checked holder) found.1.list.ordered ∙ passed.1))),
    )
