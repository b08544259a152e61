-- A field of any kind, for laws of all of them.
use Rattle.std.specs.Prelude.{ℕ, ◌<◌, ◌≤◌, ◌^◌, List, length}
use Rattle.wire_fields.specs.Spelled.{spelled_u8, spelled_u16, spelled_u32, spelled_u64, spelled_var, spelled_bin, spelled_text}
use Rattle.wire_fields.specs.Text.{IsText}

pub data Field : Type 0 where
  U8 : ℕ → Field
  U16 : ℕ → Field
  U32 : ℕ → Field
  U64 : ℕ → Field
  Var : ℕ → Field
  Bin : List ℕ → Field
  Text : List ℕ → Field

-- what has a spelling
abbrev pub IsField : Field → Type 0
IsField (U8 n) = n < 2 ^ 8
IsField (U16 n) = n < 2 ^ 16
IsField (U32 n) = n < 2 ^ 32
IsField (U64 n) = n < 2 ^ 64
IsField (Var n) = n ≤ 268435455
IsField (Bin bytes) = length bytes ≤ 65535
IsField (Text bytes) = (length bytes ≤ 65535) × IsText bytes

abbrev pub spelled : Field → List ℕ
spelled (U8 n) = spelled_u8 n
spelled (U16 n) = spelled_u16 n
spelled (U32 n) = spelled_u32 n
spelled (U64 n) = spelled_u64 n
spelled (Var n) = spelled_var n
spelled (Bin bytes) = spelled_bin bytes
spelled (Text bytes) = spelled_text bytes

abbrev pub IsOneKind : Field → Field → Type 0
IsOneKind (U8 m) (U8 n) = Unit {0}
IsOneKind (U16 m) (U16 n) = Unit {0}
IsOneKind (U32 m) (U32 n) = Unit {0}
IsOneKind (U64 m) (U64 n) = Unit {0}
IsOneKind (Var m) (Var n) = Unit {0}
IsOneKind (Bin a) (Bin b) = Unit {0}
IsOneKind (Text a) (Text b) = Unit {0}
IsOneKind a b = ⊥
