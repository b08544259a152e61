-- The two disks of a pair, in their order.
use Rattle.std.specs.Prelude.{ℕ}
use Rattle.pair_log.specs.declared.side.Side.{Side}
use Rattle.pair_log.specs.declared.side.Side.TheVariants.{First, Second}

abbrev pub number_of : Side → ℕ
number_of First = 0
number_of Second = 1

-- the other side
abbrev pub other_side : Side → Side
other_side First = Second
other_side Second = First

-- of an active one and a standby, that on the first side and that on the second
abbrev pub first_of : {A : Type 0} → Side → A → A → A
first_of First active standby = active
first_of Second active standby = standby

abbrev pub second_of : {A : Type 0} → Side → A → A → A
second_of First active standby = standby
second_of Second active standby = active
