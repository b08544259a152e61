-- What device calls that may fail did, in the order in which a run meets them.
use Rattle.std.specs.Prelude.{ℕ, ◌-◌, Bool, true, false, ◌&&◌, nat_lt, List, [], ◌∷◌}

-- A call did what it was to do, or failed; what was in doubt is found in, or out. What doesn't fit the call counts as
-- the first of its own: a commit that GoesOut works, and a settle that Works goes out.
pub data Choice : Type 0 where
  Works : Choice
  Fails : Choice
  GoesIn : Choice
  GoesOut : Choice

-- the choices that are left, and how many failures of the disks at hand are still to come
pub record Fates : Type 0 where
  pub choices : List Choice
  pub armed : ℕ

-- what a call did
pub record Drawn : Type 0 where
  pub fails : Bool
  pub goes_in : Bool
  pub fates : Fates

abbrev pub is_failing : Choice → Bool
is_failing Fails = true
is_failing other = false

abbrev pub is_going_in : Choice → Bool
is_going_in GoesIn = true
is_going_in other = false

abbrev pub one_if : Bool → ℕ
one_if true = 1
one_if false = 0

abbrev pub drawn_from : List Choice → ℕ → Drawn
drawn_from [] armed = record { fails = false; goes_in = false; fates = record { choices = []; armed = armed } }
drawn_from (c ∷ cs) armed =
    record {
      fails = is_failing c && nat_lt 0 armed;
      goes_in = is_going_in c;
      fates = record { choices = cs; armed = armed - one_if (is_failing c) };
    }

-- The next choice. Once none is left nothing fails and nothing goes in; and a call fails only where a failure was armed
-- before that hasn't come yet.
abbrev pub draw : Fates → Drawn
draw f = drawn_from f.choices f.armed
