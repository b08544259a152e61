-- Moments in milliseconds.
use Rattle.std.specs.Prelude.{ℕ, ◌+◌, ◌-◌, ◌^◌, ◌≡◌, min, refl}

-- so many milliseconds later, at most the end of the type
abbrev pub later : ℕ → ℕ → ℕ
later moment milliseconds = min (moment + milliseconds) (2 ^ 64 - 1)

at_the_end : later 18446744073709551615 5 ≡ 18446744073709551615
at_the_end = refl
