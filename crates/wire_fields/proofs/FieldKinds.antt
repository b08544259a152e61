-- The kinds of fields, as the clauses of their calls need them.
use Rattle.std.proofs.Common.{◌≡◌, ℕ, ◌≤◌, ◌<◌, ◌^◌, ◌++◌, List, length, Result, Ok, refl, sym, ap, ◌∙◌, arith}
use Rattle.wire_fields.specs.declared.cut.Cut.{Cut}
use Rattle.wire_fields.specs.Spelled.{spelled_u8, spelled_u16, spelled_u32, spelled_u64, spelled_var, spelled_bin, spelled_text}
use Rattle.wire_fields.specs.Text.{IsText}
use Rattle.wire_fields.specs.Reading.{u8_at, u16_at, u32_at, u64_at, var_at, bin_at, text_at}
use Rattle.wire_fields.specs.NumberLaws.{u8_takes, u16_takes, u32_takes, u64_takes, u8_goes_on, u16_goes_on, u32_goes_on, u64_goes_on, u8_never_bad, u16_never_bad, u32_never_bad, u64_never_bad, u8_again, u16_again, u32_again, u64_again}
use Rattle.wire_fields.specs.VarLaws.{var_takes, var_goes_on, var_refused, nothing_there, var_again}
use Rattle.wire_fields.specs.TextLaws.{is_text_means, is_text_of}
use Rattle.wire_fields.specs.SizedLaws.{bin_takes, bin_goes_on, bin_refused, text_takes, text_goes_on, text_refused, bin_again, text_again}
use Rattle.wire_fields.specs.Fields.{Field, U8, U16, U32, U64, Var, Bin, Text, IsField, IsOneKind, spelled}
use Rattle.wire_fields.proofs.Clauses.{IsKind}

abbrev pub Below : ℕ → ℕ → Type 0
Below limit n = n < limit

pub byte_kind : IsKind u8_at spelled_u8 (Below (2 ^ 8))
byte_kind = record { takes = u8_takes; goes_on = u8_goes_on; refused = λ bytes more e. absurd (u8_never_bad bytes e); nothing = refl }

pub kind16 : IsKind u16_at spelled_u16 (Below (2 ^ 16))
kind16 = record { takes = u16_takes; goes_on = u16_goes_on; refused = λ bytes more e. absurd (u16_never_bad bytes e); nothing = refl }

pub kind32 : IsKind u32_at spelled_u32 (Below (2 ^ 32))
kind32 = record { takes = u32_takes; goes_on = u32_goes_on; refused = λ bytes more e. absurd (u32_never_bad bytes e); nothing = refl }

pub kind64 : IsKind u64_at spelled_u64 (Below (2 ^ 64))
kind64 = record { takes = u64_takes; goes_on = u64_goes_on; refused = λ bytes more e. absurd (u64_never_bad bytes e); nothing = refl }

abbrev pub IsVar : ℕ → Type 0
IsVar n = n ≤ 268435455

pub var_kind : IsKind var_at spelled_var IsVar
var_kind = record { takes = var_takes; goes_on = var_goes_on; refused = var_refused; nothing = nothing_there 3 }

abbrev pub IsBin : List ℕ → Type 0
IsBin bytes = length bytes ≤ 65535

pub bin_kind : IsKind bin_at spelled_bin IsBin
unfolding bin_at
bin_kind = record {
  takes = λ bytes x fits e.
      let took = bin_takes bytes x fits e in
      record { parts = took.parts; in_range = omega (arith, took.in_range); behind = took.behind };
  goes_on = bin_goes_on;
  refused = bin_refused;
  nothing = refl;
}

abbrev pub IsShortText : List ℕ → Type 0
IsShortText bytes = (length bytes ≤ 65535) × IsText bytes

pub text_kind : IsKind text_at spelled_text IsShortText
unfolding text_at
text_kind = record {
  takes = λ bytes x fits e.
      let took = text_takes bytes x fits e in
      record { parts = took.parts; in_range = (omega (arith, took.in_range.0), is_text_means x.0 took.in_range.1); behind = took.behind };
  goes_on = text_goes_on;
  refused = text_refused;
  nothing = refl;
}

-- ---- one spelling is of one value

one_value : {Y : Type 0} (read : List ℕ → Result (Y × List ℕ) Cut) (s t : List ℕ) (a b : Y) (x y : List ℕ) → read s ≡ Ok (a, x) → read t ≡ Ok (b, y) → s ≡ t → (a ≡ b) × (x ≡ y)
one_value {Y = Y} read s t a b x y p q e =
    let same = sym p ∙ ap read e ∙ q in
    let pair : (a, x) ≡ (b, y) = cc in
    (ap (λ (z : Y × List ℕ). z.0) pair, ap (λ (z : Y × List ℕ). z.1) pair)

pub text_read_again : (field rest : List ℕ) → length field ≤ 65535 → IsText field → text_at (spelled_text field ++ rest) ≡ Ok (field, rest)
text_read_again field rest most t = text_again field rest (omega arith) (is_text_of field t)

pub bin_read_again : (field rest : List ℕ) → length field ≤ 65535 → bin_at (spelled_bin field ++ rest) ≡ Ok (field, rest)
bin_read_again field rest most = bin_again field rest (omega arith)

pub none_begins : (a b : Field) (x y : List ℕ) → IsField a → IsField b → IsOneKind a b → spelled a ++ x ≡ spelled b ++ y → (a ≡ b) × (x ≡ y)
none_begins (U8 m) (U8 n) x y h k o e = let p = one_value u8_at _ _ m n x y (u8_again m x) (u8_again n y) e in (ap U8 p.0, p.1)
none_begins (U16 m) (U16 n) x y h k o e = let p = one_value u16_at _ _ m n x y (u16_again m x h) (u16_again n y k) e in (ap U16 p.0, p.1)
none_begins (U32 m) (U32 n) x y h k o e = let p = one_value u32_at _ _ m n x y (u32_again m x h) (u32_again n y k) e in (ap U32 p.0, p.1)
none_begins (U64 m) (U64 n) x y h k o e = let p = one_value u64_at _ _ m n x y (u64_again m x h) (u64_again n y k) e in (ap U64 p.0, p.1)
none_begins (Var m) (Var n) x y h k o e = let p = one_value var_at _ _ m n x y (var_again m x h) (var_again n y k) e in (ap Var p.0, p.1)
none_begins (Bin a) (Bin b) x y h k o e = let p = one_value bin_at _ _ a b x y (bin_read_again a x h) (bin_read_again b y k) e in (ap Bin p.0, p.1)
none_begins (Text a) (Text b) x y h k o e = let p = one_value text_at _ _ a b x y (text_read_again a x h.0 h.1) (text_read_again b y k.0 k.1) e in (ap Text p.0, p.1)
none_begins a b x y h k o e = absurd o
