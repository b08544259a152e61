-- A list whose repeated properties and bad values are refused is one that is read, and then checked.
use Rattle.std.proofs.Common.{◌≡◌, ℕ, Bool, true, false, cond, leb, List, length, take, drop, Result, Ok, Err, refl}
use Rattle.wire_fields.specs.Reading.{var_at}
use Rattle.mqtt_props.specs.declared.table.Holder.{Holder}
use Rattle.mqtt_props.specs.declared.refused.PropRefused.{PropRefused}
use Rattle.mqtt_props.specs.declared.refused.PropRefused.TheVariants.{Spelling}
use Rattle.mqtt_props.specs.declared.prop.Prop.{Prop}
use Rattle.mqtt_props.specs.Reading.{then_read, or_spelling}
use Rattle.mqtt_props.specs.Props.{in_writing_order, each_at, bare_list, sized_list, list_at, checked, arranged, bare_props, sized_props, props_at}

-- a list that was read with bytes behind it, and its checks
abbrev pub then_checked : Holder → Result (List Prop × List ℕ) PropRefused → Result (List Prop × List ℕ) PropRefused
then_checked holder r = then_read r (λ x. then_read (checked holder x.0) (λ ps. Ok (ps, x.1)))

bare_by : (holder : Holder) (r : Result (List Prop) PropRefused) → then_read r (arranged holder) ≡ then_read (then_read r (λ ps. Ok (in_writing_order ps))) (checked holder)
bare_by holder (Ok ps) = refl
bare_by holder (Err e) = refl

pub bare_is_checked : (holder : Holder) (bytes : List ℕ) → bare_props holder bytes ≡ then_read (bare_list holder bytes) (checked holder)
bare_is_checked holder bytes = bare_by holder (each_at holder bytes)

sized_by : (holder : Holder) (b : Bool) (r : Result (List Prop) PropRefused) (rest : List ℕ)
    → cond b (then_read (then_read r (arranged holder)) (λ ps. Ok (ps, rest))) (Err Spelling) ≡ then_checked holder (cond b (then_read (then_read r (λ ps. Ok (in_writing_order ps))) (λ ps. Ok (ps, rest))) (Err Spelling))
sized_by holder true (Ok ps) rest = refl
sized_by holder true (Err e) rest = refl
sized_by holder false r rest = refl

props_by : (holder : Holder) (r : Result (ℕ × List ℕ) PropRefused) → then_read r (sized_props holder) ≡ then_checked holder (then_read r (sized_list holder))
props_by holder (Ok size) = sized_by holder (leb size.0 (length size.1)) (each_at holder (take size.0 size.1)) (drop size.0 size.1)
props_by holder (Err e) = refl

pub props_are_checked : (holder : Holder) (bytes : List ℕ) → props_at holder bytes ≡ then_checked holder (list_at holder bytes)
props_are_checked holder bytes = props_by holder (or_spelling (var_at bytes))
