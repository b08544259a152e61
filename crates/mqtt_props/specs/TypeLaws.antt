-- The identifier of a type that one property has.
use Rattle.std.proofs.Common.{◌≡◌, ℕ, Bool, true, false, cond, ◌||◌, eqb, Some, None, refl}
use Rattle.std.proofs.lemmas.Bool.{eqb-true}
use Rattle.mqtt_props.specs.declared.table.ValueType.TheVariants.{OneByte, TwoBytes, FourBytes, Variable, OneText, Binary, TwoTexts}
use Rattle.mqtt_props.specs.Table.{value_type}

or_none : (b : Bool) → (b || false) ≡ true → b ≡ true
or_none true e = refl
or_none false e = e

variable_by : (a b c d e f g : Bool) → cond a (Some OneByte) (cond b (Some TwoBytes) (cond c (Some FourBytes) (cond d (Some Variable) (cond e (Some OneText) (cond f (Some Binary) (cond g (Some TwoTexts) None)))))) ≡ Some Variable → d ≡ true
variable_by true b c d e f g is = absurd cc
variable_by false true c d e f g is = absurd cc
variable_by false false true d e f g is = absurd cc
variable_by false false false true e f g is = refl
variable_by false false false false true f g is = absurd cc
variable_by false false false false false true g is = absurd cc
variable_by false false false false false false true is = absurd cc
variable_by false false false false false false false is = absurd cc

texts_by : (a b c d e f g : Bool) → cond a (Some OneByte) (cond b (Some TwoBytes) (cond c (Some FourBytes) (cond d (Some Variable) (cond e (Some OneText) (cond f (Some Binary) (cond g (Some TwoTexts) None)))))) ≡ Some TwoTexts → g ≡ true
texts_by true b c d e f g is = absurd cc
texts_by false true c d e f g is = absurd cc
texts_by false false true d e f g is = absurd cc
texts_by false false false true e f g is = absurd cc
texts_by false false false false true f g is = absurd cc
texts_by false false false false false true g is = absurd cc
texts_by false false false false false false true is = refl
texts_by false false false false false false false is = absurd cc

pub variable_is : (id : ℕ) → value_type id ≡ Some Variable → 11 ≡ id
variable_is id is = eqb-true 11 id (or_none (eqb 11 id) (variable_by _ _ _ _ _ _ _ is))

pub texts_are : (id : ℕ) → value_type id ≡ Some TwoTexts → 38 ≡ id
texts_are id is = eqb-true 38 id (or_none (eqb 38 id) (texts_by _ _ _ _ _ _ _ is))
