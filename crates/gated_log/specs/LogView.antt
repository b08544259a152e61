-- How the code's standing is seen.
use Rattle.std.specs.Prelude.{ℕ, ◌≡◌, length}
use Rattle.gated_log.specs.declared.standing.Standing.{Standing}
use Rattle.gated_log.specs.declared.standing.Standing.TheVariants.{AtRest, InDoubt, Lost}
use Rattle.gated_log.specs.PlainLog as plain

abbrev pub standing_of : Standing → plain.Standing
standing_of AtRest = plain.AtRest
standing_of (InDoubt count draft) = plain.InDoubt draft.value
standing_of Lost = plain.Lost

abbrev pub length_of_doubt : Standing → ℕ
length_of_doubt (InDoubt count draft) = count
length_of_doubt standing = 0

-- the length that the code keeps is that of the draft
abbrev pub KeepsLength : Standing → Type 0
KeepsLength (InDoubt count draft) = count ≡ length draft.value
KeepsLength standing = Unit {0}
