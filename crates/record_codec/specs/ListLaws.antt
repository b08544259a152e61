-- What a list of properties is, for those who write one and for those who read it.
use Rattle.std.proofs.Common.{◌≡◌, ℕ, true, false, List, is_ok, Result, Ok, Err, refl, ap}
use Rattle.mqtt_props.specs.declared.table.Holder.TheVariants.{Publish}
use Rattle.mqtt_props.specs.declared.prop.Prop.{Prop}
use Rattle.mqtt_props.specs.declared.refused.PropRefused.{PropRefused}
use Rattle.mqtt_props.specs.declared.refused.PropRefused.TheVariants.{Unknown, Misplaced, Spelling, Repeated, BadValue, Memory}
use Rattle.mqtt_props.specs.Reading.{UnlessMemory}
use Rattle.mqtt_props.specs.Props.{bare_props, spelled_bare, FitsIn}
use Rattle.mqtt_props.specs.SpelledLaws.{bare_again}
use Rattle.record_codec.specs.HasSpelling.{is_list}

-- properties that a PUBLISH may have are a list
pub written_is_list : (ps : List Prop) → FitsIn Publish ps → is_list (spelled_bare ps) ≡ true
unfolding is_list
written_is_list ps h = ap is_ok (bare_again Publish ps h)

-- a list is read as properties
pub listed : (bytes : List ℕ) → is_list bytes ≡ true → (ps : List Prop) × (bare_props Publish bytes ≡ Ok ps)
unfolding is_list
listed bytes h = by (bare_props Publish bytes) refl h
  where
    by : (r : Result (List Prop) PropRefused) → bare_props Publish bytes ≡ r → is_ok r ≡ true → (ps : List Prop) × (bare_props Publish bytes ≡ Ok ps)
    by (Ok ps) e h = (ps, e)
    by (Err refused) e h = absurd cc

-- what a call gave that reads one

pub is_a_list : (bytes : List ℕ) (ps : List Prop) → bare_props Publish bytes ≡ Ok ps → is_list bytes ≡ true
unfolding is_list
is_a_list bytes ps e = ap is_ok e

refused_list : (bytes : List ℕ) (e : PropRefused) → bare_props Publish bytes ≡ Err e → is_list bytes ≡ false
unfolding is_list
refused_list bytes e is = ap is_ok is

pub is_no_list : (bytes : List ℕ) (e : PropRefused) → (e ≡ Memory → ⊥) → UnlessMemory e (bare_props Publish bytes ≡ Err e) → is_list bytes ≡ false
is_no_list bytes Memory other is = absurd (other refl)
is_no_list bytes Unknown other is = refused_list bytes Unknown is
is_no_list bytes Misplaced other is = refused_list bytes Misplaced is
is_no_list bytes Spelling other is = refused_list bytes Spelling is
is_no_list bytes Repeated other is = refused_list bytes Repeated is
is_no_list bytes BadValue other is = refused_list bytes BadValue is
