-- What is spelled takes as many bytes as its values say.
use Rattle.std.proofs.Common.{◌≡◌, ℕ, suc, ◌+◌, ◌/◌, Bool, true, false, cond, List, [], ◌∷◌, length, All, refl, ap, ◌∙◌, arith}
use Rattle.std.specs.Prelude.{nat_lt}
use Rattle.std.specs.Int.{w16, to_be_bytes}
use Rattle.std.proofs.lemmas.Bool.Decides.{nat_tests}
use Rattle.std.proofs.lemmas.Bool.{lt-ltb}
use Rattle.std.proofs.lemmas.List.{length-append}
use Rattle.std.proofs.lemmas.List.Sums.{sum_by-cons}
use Rattle.wire_fields.specs.Spelled.{spelled_within, spelled_var, spelled_bin}
use Rattle.wire_fields.specs.NumberLaws.{wide16, wide32}
use Rattle.mqtt_props.specs.declared.prop.Prop.{Prop}
use Rattle.mqtt_props.specs.declared.prop.Prop.TheVariants.{Byte, Two, Four, Var, Text, Bin, Pair}
use Rattle.mqtt_props.specs.Prop.{id_of, IsProp, spelled_value, spelled_prop}
use Rattle.mqtt_props.specs.Props.{spelled_bare, spelled_props}
use Rattle.mqtt_props.specs.SpelledLaws.{small_identifier}
use Rattle.mqtt_props.specs.Sizes.{var_size, value_size, prop_size, bare_size, props_size}

length_by : (b : Bool) (x y : ℕ) (ys : List ℕ) → length (cond b (x ∷ []) (y ∷ ys)) ≡ cond b 1 (suc (length ys))
length_by true x y ys = refl
length_by false x y ys = refl

-- by the first byte, the second and the third
counted : (n : ℕ) → cond (nat_lt n 128) 1 (suc (cond (nat_lt (n / 128) 128) 1 (suc (cond (nat_lt (n / 128 / 128) 128) 1 2)))) ≡ var_size n
counted n = grind (arith, nat_tests)

pub var_sized : (n : ℕ) → length (spelled_var n) ≡ var_size n
var_sized n =
    let third : length (spelled_within 1 (n / 128 / 128)) ≡ cond (nat_lt (n / 128 / 128) 128) 1 2 = length_by (nat_lt (n / 128 / 128) 128) _ _ _ in
    let second : length (spelled_within 2 (n / 128)) ≡ cond (nat_lt (n / 128) 128) 1 (suc (length (spelled_within 1 (n / 128 / 128)))) = length_by (nat_lt (n / 128) 128) _ _ _ in
    length_by (nat_lt n 128) _ _ _
    ∙ ap (λ (k : ℕ). cond (nat_lt n 128) 1 (suc k)) (second ∙ ap (λ (k : ℕ). cond (nat_lt (n / 128) 128) 1 (suc k)) third)
    ∙ counted n

pub bin_sized : (bytes : List ℕ) → length (spelled_bin bytes) ≡ 2 + length bytes
bin_sized bytes = length-append (to_be_bytes w16 (length bytes)) bytes ∙ ap (λ (n : ℕ). n + length bytes) (wide16.len (length bytes))

value_sized : (p : Prop) → length (spelled_value p) ≡ value_size p
value_sized (Byte id value) = refl
value_sized (Two id value) = wide16.len value
value_sized (Four id value) = wide32.len value
value_sized (Var value) = var_sized value
value_sized (Text id text) = bin_sized text
value_sized (Bin id bytes) = bin_sized bytes
value_sized (Pair name value) = omega (arith, length-append (spelled_bin name) (spelled_bin value), bin_sized name, bin_sized value)

pub prop_sized : (p : Prop) → IsProp p → length (spelled_prop p) ≡ prop_size p
prop_sized p h =
    let low : nat_lt (id_of p) 128 ≡ true = lt-ltb (id_of p) 128 (omega (arith, small_identifier p h)) in
    let one : length (spelled_var (id_of p)) ≡ 1 = var_sized (id_of p) ∙ ap (λ (b : Bool). cond b 1 (cond (nat_lt (id_of p) 16384) 2 (cond (nat_lt (id_of p) 2097152) 3 4))) low in
    omega (arith, length-append (spelled_var (id_of p)) (spelled_value p), one, value_sized p)

pub bare_sized : (ps : List Prop) → All IsProp ps → length (spelled_bare ps) ≡ bare_size ps
bare_sized [] h = refl
bare_sized (p ∷ ps) h =
    let others : length (spelled_bare ps) ≡ bare_size ps = bare_sized ps (λ k d lt. h (suc k) d (omega (arith, lt))) in
    omega (arith, length-append (spelled_prop p) (spelled_bare ps), prop_sized p (h 0 p (omega arith)), others, sum_by-cons prop_size p ps)

pub props_sized : (ps : List Prop) → All IsProp ps → length (spelled_props ps) ≡ props_size ps
props_sized ps h =
    length-append (spelled_var (length (spelled_bare ps))) (spelled_bare ps)
    ∙ ap (λ (n : ℕ). length (spelled_var n) + n) (bare_sized ps h)
    ∙ ap (λ (n : ℕ). n + bare_size ps) (var_sized (bare_size ps))
