-- Whether bytes begin UTF-8, from what a check of them found.
use Rattle.std.proofs.Common.{◌≡◌, ℕ, ◌-◌, Bool, true, false, ◌||◌, ◌&&◌, List, length, take, drop, Option, Some, None, is_none, IsUtf8, sym, ap, ◌∙◌}
use Rattle.std.specs.Str.{is_utf8}
use Rattle.std.specs.Str.Lossy.{utf8_valid_len, utf8_error_len}
use Rattle.std.proofs.lemmas.Bool.{false_from_ne_true}
use Rattle.std.proofs.lemmas.List.{take_rest}
use Rattle.std.proofs.lemmas.Str.{IsUtf8-from_is_utf8, is_utf8-from_IsUtf8}
use Rattle.wire_fields.specs.Text.{ends_within, begins_utf8}

pub passes : (bytes : List ℕ) → IsUtf8 bytes → true ≡ is_utf8 bytes
passes bytes u = sym (is_utf8-from_IsUtf8 bytes u)

pub fails : (bytes : List ℕ) → (IsUtf8 bytes → ⊥) → false ≡ is_utf8 bytes
fails bytes faulty = sym (false_from_ne_true _ (λ t. faulty (IsUtf8-from_is_utf8 bytes t)))

pub whole_begins : (bytes : List ℕ) (more : ℕ) → IsUtf8 bytes → true ≡ begins_utf8 bytes more
whole_begins bytes more u =
    let cut : List ℕ = drop (utf8_valid_len bytes) bytes in
    ap (λ (b : Bool). b || (is_none (utf8_error_len cut) && ends_within cut more)) (passes bytes u)

module _ (bytes : List ℕ) (more at : ℕ) (faulty : IsUtf8 bytes → ⊥) (place : at ≡ utf8_valid_len bytes) where
  found : (len : Option ℕ) → len ≡ utf8_error_len (drop at bytes) → (is_none len && ends_within (drop at bytes) more) ≡ begins_utf8 bytes more
  found len fault =
      (λ i. is_none (fault i) && ends_within (drop at bytes) more)
      ∙ ap (λ (n : ℕ). is_none (utf8_error_len (drop n bytes)) && ends_within (drop n bytes) more) place
      ∙ ap (λ (b : Bool). b || (is_none (utf8_error_len (drop (utf8_valid_len bytes) bytes)) && ends_within (drop (utf8_valid_len bytes) bytes) more)) (fails bytes faulty)

  pub fault_begins_none : (k : ℕ) → Some k ≡ utf8_error_len (drop at bytes) → false ≡ begins_utf8 bytes more
  fault_begins_none k fault = found (Some k) fault

  pub cut_begins : (ends : Bool) → None ≡ utf8_error_len (drop at bytes) → ends ≡ ends_within (take (length bytes - at) (drop at bytes)) more → ends ≡ begins_utf8 bytes more
  cut_begins ends fault is = is ∙ ap (λ (t : List ℕ). ends_within t more) (take_rest bytes at) ∙ found None fault
