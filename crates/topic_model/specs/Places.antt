-- That something stands in a list.
use Rattle.std.specs.Prelude.{ℕ, ◌≡◌, List, Some, slice_get}

-- it has a place there
abbrev pub HasPlace : {A : Type 0} → List A → A → Type 0
HasPlace xs x = (k : ℕ) × (slice_get xs k ≡ Some x)
