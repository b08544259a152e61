-- Bytes and the record that they spell.
use Rattle.std.specs.Prelude.{◌≡◌, ℕ, IsTrue, Bool, List}
use Rattle.record_codec.specs.Records.{KeptGroup, KeptOpening, KeptManifest}
use Rattle.record_codec.specs.Spelling.{spelled_group, spelled_opening, spelled_manifest}
use Rattle.record_codec.specs.HasSpelling.{group_has_spelling, opening_has_spelling, manifest_has_spelling}

-- a value has a spelling, and the bytes are it
pub record Spells {A : Type 0} (has_spelling : A → Bool) (spelled : A → List ℕ) (bytes : List ℕ) (x : A) : Type 0 where
  pub has : IsTrue (has_spelling x)
  pub is : bytes ≡ spelled x

abbrev pub SpellsGroup : List ℕ → KeptGroup → Type 0
SpellsGroup bytes group = Spells group_has_spelling spelled_group bytes group

abbrev pub SpellsOpening : List ℕ → KeptOpening → Type 0
SpellsOpening bytes opening = Spells opening_has_spelling spelled_opening bytes opening

abbrev pub SpellsManifest : List ℕ → KeptManifest → Type 0
SpellsManifest bytes manifest = Spells manifest_has_spelling spelled_manifest bytes manifest
