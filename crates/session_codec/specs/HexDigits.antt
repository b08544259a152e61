-- Bytes as examples give them: by their hexadecimal digits, with spaces between fields.
use Rattle.std.specs.Prelude.{
  ℕ,
  ◌+◌,
  ◌-◌,
  ◌*◌,
  ◌==◌,
  nat_lt,
  if◌then◌else◌,
  true,
  false,
  List,
  [],
  ◌∷◌,
  Option,
  Some,
  None,
  codes,
  ◌≡◌,
  refl,
}

abbrev pub digit : ℕ → ℕ
digit c = if nat_lt c 58 then c - 48 else c - 55

abbrev pub of_digits : Option ℕ → List ℕ → List ℕ
of_digits first [] = []
of_digits None (c ∷ rest) = elim (c == 32) [ true ↦ of_digits None rest | false ↦ of_digits (Some (digit c)) rest ]
of_digits (Some high) (c ∷ rest) = (16 * high + digit c) ∷ of_digits None rest

abbrev pub hex : List ℕ → List ℕ
hex digits = of_digits None digits

the_bytes : hex (codes "00FF 1A") ≡ 0x00 ∷ 0xFF ∷ 0x1A ∷ []
the_bytes = refl
