-- The flags of PUBLISH and CONNECT: what is put together is taken apart again, and the other way round.
use Rattle.std.proofs.Common.{◌≡◌, ℕ, zero, suc, ◌+◌, ◌*◌, ◌/◌, ◌%◌, ◌<◌, ◌≤◌, Bool, true, false, not, ◌&&◌, cond, eqb, Option, Some, None, refl, sym, ap, subst, ◌∙◌, arith, inl, inr}
use Rattle.std.proofs.lemmas.Bool.{cases_Bool, and_parts, eqb-true, eqb-false, ne_eqb}
use Rattle.mqtt_packet.specs.declared.flags.ConnectFlags.{ConnectFlags}
use Rattle.mqtt_packet.specs.declared.flags.WillFlags.{WillFlags}
use Rattle.mqtt_packet.specs.declared.packet.Will.{Will}
use Rattle.mqtt_packet.specs.Spelling.{bit, publish_flags, will_flags}
use Rattle.mqtt_packet.specs.Fits.{IfThere, IsTied}
use Rattle.mqtt_packet.specs.Reading.{is_odd, will_flags_in, are_flags, flags_in, are_publish_flags}
use Rattle.mqtt_packet.specs.ReaderLaws.{passed, some_is}

-- ---- one bit

pub bit_is : (b : Bool) → eqb (bit b) 1 ≡ b
bit_is true = refl
bit_is false = refl

pub bit_small : (b : Bool) → bit b < 2
bit_small true = omega arith
bit_small false = omega arith

pub is_bit : (n : ℕ) → n < 2 → bit (eqb n 1) ≡ n
is_bit zero lt = refl
is_bit (suc zero) lt = refl
is_bit (suc (suc n)) lt = absurd (omega (arith, lt))

odd_is : (n : ℕ) (b : Bool) → n % 2 ≡ bit b → is_odd n ≡ b
odd_is n b e = ap (λ (m : ℕ). eqb m 1) e ∙ bit_is b

pub bit_odd : (n : ℕ) → bit (is_odd n) ≡ n % 2
bit_odd n = is_bit (n % 2) (omega arith)

no_three : (qos : ℕ) → qos ≤ 2 → not (eqb qos 3) ≡ true
no_three qos le = ap not (ne_eqb qos 3 (λ e. omega (arith, e, le)))

at_most_two : (qos : ℕ) → qos < 4 → not (eqb qos 3) ≡ true → qos ≤ 2
at_most_two qos lt e =
    elim (cases_Bool (eqb qos 3)) [
      | inl is ↦ absurd (let bad = sym (ap not is) ∙ e in cc)
      | inr is ↦ let apart = eqb-false qos 3 is in at_most qos lt apart
    ]
  where
    at_most : (n : ℕ) → n < 4 → (n ≡ 3 → ⊥) → n ≤ 2
    at_most zero lt apart = omega arith
    at_most (suc zero) lt apart = omega arith
    at_most (suc (suc zero)) lt apart = omega arith
    at_most (suc (suc (suc zero))) lt apart = absurd (apart refl)
    at_most (suc (suc (suc (suc n)))) lt apart = absurd (omega (arith, lt))

-- ---- PUBLISH

pub record TakesApart (dup : Bool) (qos : ℕ) (retain : Bool) (flags : ℕ) : Type 0 where
  pub is_dup : is_odd (flags / 8) ≡ dup
  pub is_qos : flags / 2 % 4 ≡ qos
  pub is_retain : is_odd flags ≡ retain

pub publish_apart : (dup : Bool) (qos : ℕ) (retain : Bool) → qos ≤ 2 → TakesApart dup qos retain (publish_flags dup qos retain)
publish_apart dup qos retain le = record {
  is_dup = odd_is (publish_flags dup qos retain / 8) dup (omega (arith, le, bit_small dup, bit_small retain));
  is_qos = omega (arith, le, bit_small dup, bit_small retain);
  is_retain = odd_is (publish_flags dup qos retain) retain (omega (arith, le, bit_small dup, bit_small retain));
}

pub publish_together : (flags : ℕ) → flags < 16 → publish_flags (is_odd (flags / 8)) (flags / 2 % 4) (is_odd flags) ≡ flags
publish_together flags lt = omega (arith, lt, bit_odd (flags / 8), bit_odd flags)

pub some_qos : (qos : ℕ) → eqb (suc qos) 0 ≡ false
some_qos qos = ne_eqb (suc qos) 0 (λ e. omega (arith, e))

pub tied_pass : (dup : Bool) (qos id : ℕ) → qos ≤ 2 → IsTied qos dup id → are_publish_flags dup qos ≡ true
tied_pass dup zero id le tied = ap (λ (b : Bool). not (b && true)) tied.0
tied_pass true (suc qos) id le tied = (λ i. no_three (suc qos) le i && not (true && some_qos qos i))
tied_pass false (suc qos) id le tied = (λ i. no_three (suc qos) le i && not (false && some_qos qos i))

-- what the test says
pub publish_passes : (dup : Bool) (qos : ℕ) → qos < 4 → are_publish_flags dup qos ≡ true → (qos ≤ 2) × (not (dup && eqb qos 0) ≡ true)
publish_passes dup qos lt e =
    let p = and_parts (not (eqb qos 3)) (not (dup && eqb qos 0)) e in
    (at_most_two qos lt p.0, p.1)

-- ---- CONNECT

-- what the flags tell of a will
abbrev pub will_told : Option Will → Option WillFlags
will_told None = None
will_told (Some will) = Some (record { qos = will.qos; retain = will.retain })

abbrev pub told_number : Option WillFlags → ℕ
told_number None = 0
told_number (Some flags) = 4 + 8 * flags.qos + 32 * bit flags.retain

abbrev pub HasQos : Option WillFlags → Type 0
HasQos told = IfThere (λ (flags : WillFlags). flags.qos ≤ 2) told

abbrev pub number_of : ConnectFlags → ℕ
number_of flags = 2 * bit flags.clean + told_number flags.will + 64 * bit flags.password + 128 * bit flags.user

pub told_is : (will : Option Will) → told_number (will_told will) ≡ will_flags will
told_is None = refl
told_is (Some will) = refl

abbrev connect_flags_of : Bool → Option WillFlags → Bool → Bool → ConnectFlags
connect_flags_of clean will password user = record { clean = clean; will = will; password = password; user = user }

flags_by : (n : ℕ) (clean : Bool) (will : Option WillFlags) (password user : Bool) → are_flags n ≡ true → is_odd (n / 2) ≡ clean
    → will_flags_in n ≡ will → is_odd (n / 64) ≡ password → is_odd (n / 128) ≡ user
    → flags_in n ≡ Some (connect_flags_of clean will password user)
flags_by n clean will password user passes a b c d =
    (λ i. cond {A = Option ConnectFlags} (passes i) (Some (connect_flags_of (a i) (b i) (c i) (d i))) None)

pub flags_apart : (clean : Bool) (will : Option WillFlags) (password user : Bool) → HasQos will
    → flags_in (number_of (connect_flags_of clean will password user)) ≡ Some (connect_flags_of clean will password user)
flags_apart clean None password user has =
    let n : ℕ = number_of (connect_flags_of clean None password user) in
    let a = bit_small clean in
    let b = bit_small password in
    let c = bit_small user in
    let zeroth : is_odd n ≡ false = odd_is n false (omega (arith, a, b, c)) in
    let second : is_odd (n / 4) ≡ false = odd_is (n / 4) false (omega (arith, a, b, c)) in
    let others : n / 8 % 8 ≡ 0 = omega (arith, a, b, c) in
    flags_by n clean None password user
    (λ i. not (zeroth i) && cond (second i) (not (eqb (n / 8 % 4) 3)) (eqb (others i) 0))
    (odd_is (n / 2) clean (omega (arith, a, b, c)))
    (λ i. cond {A = Option WillFlags} (second i) (Some (record { qos = n / 8 % 4; retain = is_odd (n / 32) })) None)
    (odd_is (n / 64) password (omega (arith, a, b, c)))
    (odd_is (n / 128) user (omega (arith, a, b, c)))
flags_apart clean (Some will) password user has =
    let n : ℕ = number_of (connect_flags_of clean (Some will) password user) in
    let a = bit_small clean in
    let b = bit_small password in
    let c = bit_small user in
    let d = bit_small will.retain in
    let zeroth : is_odd n ≡ false = odd_is n false (omega (arith, a, b, c, d, has)) in
    let second : is_odd (n / 4) ≡ true = odd_is (n / 4) true (omega (arith, a, b, c, d, has)) in
    let qos : n / 8 % 4 ≡ will.qos = omega (arith, a, b, c, d, has) in
    let retain : is_odd (n / 32) ≡ will.retain = odd_is (n / 32) will.retain (omega (arith, a, b, c, d, has)) in
    flags_by n clean (Some will) password user
    ((λ i. not (zeroth i) && cond (second i) (not (eqb (qos i) 3)) (eqb (n / 8 % 8) 0)) ∙ no_three will.qos has)
    (odd_is (n / 2) clean (omega (arith, a, b, c, d, has)))
    (λ i. cond {A = Option WillFlags} (second i) (Some (record { qos = qos i; retain = retain i })) None)
    (odd_is (n / 64) password (omega (arith, a, b, c, d, has)))
    (odd_is (n / 128) user (omega (arith, a, b, c, d, has)))

-- what the flags of a number tell of a will, where bit 2 tells whether there is one
abbrev will_by : ℕ → Bool → Option WillFlags
will_by n told = cond told (Some (record { qos = n / 8 % 4; retain = is_odd (n / 32) })) None

together_by : (n : ℕ) (b : Bool) → n < 256 → is_odd n ≡ false → is_odd (n / 4) ≡ b
    → cond b (not (eqb (n / 8 % 4) 3)) (eqb (n / 8 % 8) 0) ≡ true
    → (2 * bit (is_odd (n / 2)) + told_number (will_by n b) + 64 * bit (is_odd (n / 64)) + 128 * bit (is_odd (n / 128)) ≡ n)
    × HasQos (will_by n b)
together_by n true lt even is e =
    let zeroth : n % 2 ≡ 0 = sym (bit_odd n) ∙ ap bit even in
    let second : n / 4 % 2 ≡ 1 = sym (bit_odd (n / 4)) ∙ ap bit is in (
      omega (arith, lt, zeroth, second, bit_odd (n / 2), bit_odd (n / 32), bit_odd (n / 64), bit_odd (n / 128)),
      at_most_two (n / 8 % 4) (omega arith) e,
    )
together_by n false lt even is e =
    let zeroth : n % 2 ≡ 0 = sym (bit_odd n) ∙ ap bit even in
    let second : n / 4 % 2 ≡ 0 = sym (bit_odd (n / 4)) ∙ ap bit is in
    let none : n / 8 % 8 ≡ 0 = eqb-true (n / 8 % 8) 0 e in
    (omega (arith, lt, zeroth, second, none, bit_odd (n / 2), bit_odd (n / 64), bit_odd (n / 128)), tt)

not_odd : (b : Bool) → not b ≡ true → b ≡ false
not_odd true e = absurd cc
not_odd false e = refl

pub flags_together : (n : ℕ) (flags : ConnectFlags) → n < 256 → flags_in n ≡ Some flags → (number_of flags ≡ n) × HasQos flags.will
flags_together n flags lt e =
    let found : ConnectFlags = connect_flags_of (is_odd (n / 2)) (will_flags_in n) (is_odd (n / 64)) (is_odd (n / 128)) in
    let p = passed (are_flags n) (Some found) flags e in
    let parts = and_parts (not (is_odd n)) (cond (is_odd (n / 4)) (not (eqb (n / 8 % 4) 3)) (eqb (n / 8 % 8) 0)) p.0 in
    subst (λ (f : ConnectFlags). (number_of f ≡ n) × HasQos f.will) (some_is found flags p.1)
    (together_by n (is_odd (n / 4)) lt (not_odd (is_odd n) parts.0) refl parts.1)
