-- What bytes spell, by what is read of them.
use Rattle.std.proofs.Common.{◌≡◌, ℕ, Bool, true, List, Result, Ok, Err, IfOk, IsErrOf, Option, Some, None, IsTrue, sym, ap, subst, ◌∙◌}
use Rattle.wire_fields.specs.Reading.{AreBytes}
use Rattle.session_state.specs.declared.change.Change.{Change}
use Rattle.session_codec.specs.Spelling.{KeptSnapshot, spelled_changes, spelled_snapshot}
use Rattle.session_codec.specs.HasSpelling.{have_spelling, has_spelling, SpellsChanges, SpellsSnapshot}
use Rattle.session_codec.specs.Reading.{changes_in, snapshot_in}
use Rattle.session_codec.specs.declared.refused.CodecRefused.{CodecRefused}
use Rattle.session_codec.specs.declared.refused.CodecRefused.TheVariants.{Bad}
use Rattle.session_codec.specs.Taking.{GivesPart}
use Rattle.session_codec.specs.Forms.{IsWhole, some_is}
use Rattle.session_codec.specs.ChangeForms.{changes_whole}
use Rattle.session_codec.specs.SnapshotForms.{snapshot_whole}

-- no two values have one spelling
one_value : {A : Type 0} {fits : A → Bool} {spelled : A → List ℕ} {read : List ℕ → Option A} → IsWhole fits spelled read →
    (x y : A) → fits x ≡ true → fits y ≡ true → spelled x ≡ spelled y → x ≡ y
one_value {A} {fits} {spelled} {read} is x y f g e = some_is x y (sym (is.again x f) ∙ ap read e ∙ is.again y g)

-- ---- a record of changes

pub changes_again : (format shards : ℕ) (changes : List Change) → IsTrue (have_spelling format shards changes) →
    changes_in format shards (spelled_changes format changes) ≡ Some changes
changes_again format shards changes h = (changes_whole format shards).again changes h

pub changes_spelled : (format shards : ℕ) (bytes : List ℕ) (changes : List Change) → AreBytes bytes → changes_in format shards bytes ≡ Some changes →
    SpellsChanges format shards bytes changes
changes_spelled format shards bytes changes are e =
    let t = (changes_whole format shards).takes bytes changes are e in
    record { has = t.0; is = t.1 }

pub changes_differ : (format shards : ℕ) (a b : List Change) → IsTrue (have_spelling format shards a) → IsTrue (have_spelling format shards b) →
    spelled_changes format a ≡ spelled_changes format b → a ≡ b
changes_differ format shards a b f g e = one_value (changes_whole format shards) a b f g e

pub no_changes : (format shards : ℕ) (bytes : List ℕ) → changes_in format shards bytes ≡ None → (changes : List Change) →
    SpellsChanges format shards bytes changes → ⊥
no_changes format shards bytes none changes s =
    let e = sym none ∙ ap (changes_in format shards) s.is ∙ changes_again format shards changes s.has in cc

-- what a call gave that reads a record

pub given_is_spelled : {X : Type 0} (view : X → List Change) (r : Result X CodecRefused) (format shards : ℕ) (bytes : List ℕ) → AreBytes bytes →
    GivesPart view r (changes_in format shards bytes) → IfOk r (λ v. SpellsChanges format shards bytes (view v))
given_is_spelled view (Ok v) format shards bytes are e = changes_spelled format shards bytes (view v) are e
given_is_spelled view (Err refused) format shards bytes are e = tt

pub given_none : {X : Type 0} (view : X → List Change) (r : Result X CodecRefused) (format shards : ℕ) (bytes : List ℕ) →
    GivesPart view r (changes_in format shards bytes) → IsErrOf r Bad → (changes : List Change) → SpellsChanges format shards bytes changes → ⊥
given_none view r format shards bytes e is =
    no_changes format shards bytes (subst (λ r. GivesPart view r (changes_in format shards bytes)) is e)

-- ---- a snapshot

pub snapshot_again : (s : KeptSnapshot) → IsTrue (has_spelling s) → snapshot_in (spelled_snapshot s) ≡ Some s
snapshot_again s h = snapshot_whole.again s h

pub snapshot_spelled : (bytes : List ℕ) (s : KeptSnapshot) → AreBytes bytes → snapshot_in bytes ≡ Some s → SpellsSnapshot bytes s
snapshot_spelled bytes s are e = let t = snapshot_whole.takes bytes s are e in record { has = t.0; is = t.1 }

pub snapshots_differ : (a b : KeptSnapshot) → IsTrue (has_spelling a) → IsTrue (has_spelling b) → spelled_snapshot a ≡ spelled_snapshot b → a ≡ b
snapshots_differ a b f g e = one_value snapshot_whole a b f g e

pub no_snapshot : (bytes : List ℕ) → snapshot_in bytes ≡ None → (s : KeptSnapshot) → SpellsSnapshot bytes s → ⊥
no_snapshot bytes none s h = let e = sym none ∙ ap snapshot_in h.is ∙ snapshot_again s h.has in cc

-- what a call gave that reads a snapshot

pub given_snapshot_is_spelled : {X : Type 0} (view : X → KeptSnapshot) (r : Result X CodecRefused) (bytes : List ℕ) → AreBytes bytes →
    GivesPart view r (snapshot_in bytes) → IfOk r (λ v. SpellsSnapshot bytes (view v))
given_snapshot_is_spelled view (Ok v) bytes are e = snapshot_spelled bytes (view v) are e
given_snapshot_is_spelled view (Err refused) bytes are e = tt

pub given_no_snapshot : {X : Type 0} (view : X → KeptSnapshot) (r : Result X CodecRefused) (bytes : List ℕ) →
    GivesPart view r (snapshot_in bytes) → IsErrOf r Bad → (s : KeptSnapshot) → SpellsSnapshot bytes s → ⊥
given_no_snapshot view r bytes e is = no_snapshot bytes (subst (λ r. GivesPart view r (snapshot_in bytes)) is e)
