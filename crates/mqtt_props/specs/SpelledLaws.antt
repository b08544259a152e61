-- What is spelled is read again.
use Rattle.std.proofs.Common.{◌≡◌, ℕ, zero, suc, ◌<◌, ◌≤◌, Bool, true, false, cond, ◌||◌, eqb, leb, List, [], ◌∷◌, ◌++◌, length, get_or, take, drop, Result, Ok, Err, Some, refl, sym, ap, ◌∙◌, append_assoc, arith, inl, inr, All}
use Rattle.std.specs.Prelude.{nat_lt}
use Rattle.std.specs.List.{list_all, flat_map}
use Rattle.std.proofs.lemmas.Bool.{cases_Bool, eqb-true, ltb-true, and_parts, le-leb}
use Rattle.std.proofs.lemmas.List.{length-append, take_at, drop_at}
use Rattle.wire_fields.specs.declared.cut.Cut.{Cut}
use Rattle.wire_fields.specs.Spelled.{spelled_var, spelled_text}
use Rattle.wire_fields.specs.Reading.{◌>>=◌, var_at, text_at}
use Rattle.wire_fields.specs.NumberLaws.{u8_again, u16_again, u32_again}
use Rattle.wire_fields.specs.VarLaws.{var_again}
use Rattle.wire_fields.specs.TextLaws.{is_text_of}
use Rattle.wire_fields.specs.SizedLaws.{text_again, bin_again}
use Rattle.mqtt_props.specs.declared.table.Holder.{Holder}
use Rattle.mqtt_props.specs.declared.table.ValueType.{ValueType}
use Rattle.mqtt_props.specs.declared.table.ValueType.TheVariants.{OneByte, TwoBytes, FourBytes, Variable, OneText, Binary, TwoTexts}
use Rattle.mqtt_props.specs.declared.refused.PropRefused.{PropRefused}
use Rattle.mqtt_props.specs.declared.refused.PropRefused.TheVariants.{Misplaced, Repeated, BadValue, Spelling}
use Rattle.mqtt_props.specs.declared.prop.Prop.{Prop}
use Rattle.mqtt_props.specs.declared.prop.Prop.TheVariants.{Byte, Two, Four, Var, Text, Bin, Pair}
use Rattle.mqtt_props.specs.Table.{value_type, stands_in}
use Rattle.mqtt_props.specs.Prop.{id_of, IsProp, IsPropIn, IsShortText, spelled_value, spelled_prop}
use Rattle.mqtt_props.specs.Reading.{then_read, or_spelling, made, texts_at, value_at, if_it_stands, type_in, named_at, prop_at}
use Rattle.mqtt_props.specs.Props.{in_front, each_within, identifiers, in_writing_order, bare_list, sized_list, list_at, checked, arranged, bare_props, props_at, spelled_bare, spelled_props, FitsIn}
use Rattle.mqtt_props.specs.EachLaws.{nothing_left, each_step}
use Rattle.mqtt_props.specs.OrderLaws.{among, known}
use Rattle.mqtt_props.specs.ListLaws.{then_checked, props_are_checked}

-- ---- one property

below : (m id : ℕ) (ks : List ℕ) → list_all (λ (j : ℕ). nat_lt j m) ks ≡ true → among id ks ≡ true → id < m
below m id [] less is = absurd cc
below m id (j ∷ ks) less is =
    let both = and_parts (nat_lt j m) (list_all (λ (i : ℕ). nat_lt i m) ks) less in
    elim (cases_Bool (eqb j id)) [
      | inl here ↦ omega (arith, ltb-true j m both.0, eqb-true j id here)
      | inr other ↦ below m id ks both.1 (sym (ap (λ (b : Bool). b || among id ks) other) ∙ is)
    ]

pub small_identifier : (p : Prop) → IsProp p → id_of p < 43
small_identifier p h = below 43 (id_of p) identifiers refl (known p h)

abbrev type_of : Prop → ValueType
type_of (Byte id value) = OneByte
type_of (Two id value) = TwoBytes
type_of (Four id value) = FourBytes
type_of (Var value) = Variable
type_of (Text id text) = OneText
type_of (Bin id bytes) = Binary
type_of (Pair name value) = TwoTexts

typed : (p : Prop) → IsProp p → value_type (id_of p) ≡ Some (type_of p)
typed (Byte id value) h = h.0
typed (Two id value) h = h.0
typed (Four id value) h = h.0
typed (Var value) h = refl
typed (Text id text) h = h.0
typed (Bin id bytes) h = h.0
typed (Pair name value) h = refl

short_text : (text rest : List ℕ) → IsShortText text → text_at (spelled_text text ++ rest) ≡ Ok (text, rest)
short_text text rest h = text_again text rest (omega (arith, h.0)) (is_text_of text h.1)

texts_again : (a b rest : List ℕ) → IsShortText a → IsShortText b → texts_at ((spelled_text a ++ spelled_text b) ++ rest) ≡ Ok ((a, b), rest)
texts_again a b rest h k =
    ap texts_at (append_assoc (spelled_text a) (spelled_text b) rest)
    ∙ ap (λ (r : Result (List ℕ × List ℕ) Cut). r >>= λ x. text_at x.1 >>= λ y. Ok ((x.0, y.0), y.1)) (short_text a (spelled_text b ++ rest) h)
    ∙ ap (λ (r : Result (List ℕ × List ℕ) Cut). r >>= λ y. Ok ((a, y.0), y.1)) (short_text b rest k)

value_again : (p : Prop) (rest : List ℕ) → IsProp p → value_at (type_of p) (id_of p) (spelled_value p ++ rest) ≡ Ok (p, rest)
value_again (Byte id value) rest h = ap (made (Byte id)) (u8_again value rest)
value_again (Two id value) rest h = ap (made (Two id)) (u16_again value rest h.1)
value_again (Four id value) rest h = ap (made (Four id)) (u32_again value rest h.1)
value_again (Var value) rest h = ap (made Var) (var_again value rest h)
value_again (Text id text) rest h = ap (made (Text id)) (short_text text rest h.1)
value_again (Bin id bytes) rest h = ap (made (Bin id)) (bin_again bytes rest (omega (arith, h.1)))
value_again (Pair name value) rest h = ap (made (λ (t : List ℕ × List ℕ). Pair t.0 t.1)) (texts_again name value rest h.0 h.1)

type_again : (id : ℕ) (holder : Holder) (value : ValueType) → value_type id ≡ Some value → stands_in id holder ≡ true → type_in id holder ≡ Ok value
type_again id holder value is stands =
    ap (if_it_stands id holder) is
    ∙ ap (λ (b : Bool). cond {A = Result ValueType PropRefused} b (Ok value) (Err Misplaced)) stands

pub prop_again : (holder : Holder) (p : Prop) (rest : List ℕ) → IsPropIn holder p → prop_at holder (spelled_prop p ++ rest) ≡ Ok (p, rest)
unfolding prop_at
prop_again holder p rest h =
    let behind : List ℕ = spelled_value p ++ rest in
    ap (λ (l : List ℕ). then_read (or_spelling (var_at l)) (named_at holder)) (append_assoc (spelled_var (id_of p)) (spelled_value p) rest)
    ∙ ap (λ (r : Result (ℕ × List ℕ) Cut). then_read (or_spelling r) (named_at holder)) (var_again (id_of p) behind (omega (arith, small_identifier p h.0)))
    ∙ ap (λ (r : Result ValueType PropRefused). then_read r (λ value. value_at value (id_of p) behind)) (type_again (id_of p) holder (type_of p) (typed p h.0) h.1)
    ∙ value_again p rest h.0

-- ---- a list

some_by : (b : Bool) (x y : ℕ) (ys : List ℕ) → 0 < length (cond b (x ∷ []) (y ∷ ys))
some_by true x y ys = omega arith
some_by false x y ys = omega arith

pub var_some : (n : ℕ) → 0 < length (spelled_var n)
var_some n = some_by (nat_lt n 128) _ _ _

pub prop_some : (p : Prop) → 0 < length (spelled_prop p)
prop_some p = omega (arith, length-append (spelled_var (id_of p)) (spelled_value p), var_some (id_of p))

enough : (ps : List Prop) → length ps ≤ length (flat_map spelled_prop ps)
enough [] = omega arith
enough (p ∷ ps) = omega (arith, enough ps, prop_some p, length-append (spelled_prop p) (flat_map spelled_prop ps))

each_again : (holder : Holder) (ps : List Prop) (n : ℕ) → ((k : ℕ) (d : Prop) → k < length ps → IsPropIn holder (get_or ps k d)) → length ps ≤ n → each_within n holder (flat_map spelled_prop ps) ≡ Ok ps
each_again holder [] n h le = nothing_left n holder
each_again holder (p ∷ ps) zero h le = absurd (omega (arith, le))
each_again holder (p ∷ ps) (suc n) h le =
    let rest : List ℕ = flat_map spelled_prop ps in
    each_step n holder (spelled_prop p ++ rest) (omega (arith, prop_some p, length-append (spelled_prop p) rest))
    ∙ ap (λ (r : Result (Prop × List ℕ) PropRefused). then_read r (λ q. in_front q.0 (each_within n holder q.1))) (prop_again holder p rest (h 0 p (omega arith)))
    ∙ ap (in_front p) (each_again holder ps n (λ k d lt. h (suc k) d (omega (arith, lt))) (omega (arith, le)))

-- in any order
pub bare_in_any_order : (holder : Holder) (ps : List Prop) → All (IsPropIn holder) ps → bare_props holder (spelled_bare ps) ≡ arranged holder ps
bare_in_any_order holder ps h = ap (λ (r : Result (List Prop) PropRefused). then_read r (arranged holder)) (each_again holder ps (length (flat_map spelled_prop ps)) h (enough ps))

-- a list is read as it is kept, whether or not a property is repeated or has a bad value
list_by : (holder : Holder) (qs : List Prop) → All (IsPropIn holder) qs → bare_list holder (spelled_bare qs) ≡ Ok (in_writing_order qs)
list_by holder qs h = ap (λ (r : Result (List Prop) PropRefused). then_read r (λ ps. Ok (in_writing_order ps))) (each_again holder qs (length (flat_map spelled_prop qs)) h (enough qs))

pub list_again : (holder : Holder) (qs : List Prop) (rest : List ℕ) → All (IsPropIn holder) qs → length (spelled_bare qs) ≤ 268435455 → list_at holder (spelled_props qs ++ rest) ≡ Ok (in_writing_order qs, rest)
list_again holder qs rest h few =
    let bare : List ℕ = spelled_bare qs in
    let n : ℕ = length bare in
    let within : leb n (length (bare ++ rest)) ≡ true = le-leb _ _ (omega (arith, length-append bare rest)) in
    let answer : Result (List Prop) PropRefused → List ℕ → Result (List Prop × List ℕ) PropRefused = λ r l. then_read r (λ ps. Ok (ps, l)) in
    ap (λ (l : List ℕ). then_read (or_spelling (var_at l)) (sized_list holder)) (append_assoc (spelled_var n) bare rest)
    ∙ ap (λ (r : Result (ℕ × List ℕ) Cut). then_read (or_spelling r) (sized_list holder)) (var_again n (bare ++ rest) few)
    ∙ ap (λ (b : Bool). cond b (then_read (bare_list holder (take n (bare ++ rest))) (λ ps. Ok (ps, drop n (bare ++ rest)))) (Err Spelling)) within
    ∙ (λ i. answer (bare_list holder (take_at bare rest n refl i)) (drop_at bare rest n refl i))
    ∙ ap (λ (r : Result (List Prop) PropRefused). answer r rest) (list_by holder qs h)

checks_pass : (holder : Holder) (ps : List Prop) → FitsIn holder ps → checked holder ps ≡ Ok ps
checks_pass holder ps h = (λ i. cond {A = Result (List Prop) PropRefused} (h.single i) (Err Repeated) (cond (h.good i) (Err BadValue) (Ok ps)))

pub bare_again : (holder : Holder) (ps : List Prop) → FitsIn holder ps → bare_props holder (spelled_bare ps) ≡ Ok ps
bare_again holder ps h = bare_in_any_order holder ps h.fits ∙ ap (checked holder) h.ordered ∙ checks_pass holder ps h

pub props_again : (holder : Holder) (ps : List Prop) (rest : List ℕ) → FitsIn holder ps → length (spelled_bare ps) ≤ 268435455 → props_at holder (spelled_props ps ++ rest) ≡ Ok (ps, rest)
props_again holder ps rest h few =
    let answer : Result (List Prop) PropRefused → Result (List Prop × List ℕ) PropRefused = λ r. then_read r (λ qs. Ok (qs, rest)) in
    props_are_checked holder (spelled_props ps ++ rest)
    ∙ ap (then_checked holder) (list_again holder ps rest h.fits few)
    ∙ ap (λ (qs : List Prop). answer (checked holder qs)) h.ordered
    ∙ ap answer (checks_pass holder ps h)

pub none_begins : (holder : Holder) (ps qs : List Prop) (x y : List ℕ) → FitsIn holder ps → FitsIn holder qs → length (spelled_bare ps) ≤ 268435455 → length (spelled_bare qs) ≤ 268435455
    → spelled_props ps ++ x ≡ spelled_props qs ++ y → (ps ≡ qs) × (x ≡ y)
none_begins holder ps qs x y h k few little e =
    let same = sym (props_again holder ps x h few) ∙ ap (props_at holder) e ∙ props_again holder qs y k little in
    let pair : (ps, x) ≡ (qs, y) = cc in
    (ap (λ (z : List Prop × List ℕ). z.0) pair, ap (λ (z : List Prop × List ℕ). z.1) pair)
