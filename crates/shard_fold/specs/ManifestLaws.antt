-- Laws of what a manifest tells.
use Rattle.std.proofs.Common.{◌≡◌, ℕ, ◌+◌, ◌≤◌, ◌^◌, Bool, true, false, ◌&&◌, ◌==◌, if◌then◌else◌, List, [], ◌∷◌, length, slice_get, Option, Some, None, refl, sym, ap, ◌∙◌, eq-eqb, leb-true, lt-ltb, arith}
use Rattle.std.specs.Prelude.{nat_le}
use Rattle.std.specs.Cmp.Derive.{both_true}
use Rattle.std.proofs.lemmas.Bool.{and_parts}
use Rattle.topic_model.specs.Limits.{has_known_counts, has_known_generations, has_known_thresholds, lies_between}
use Rattle.topic_name.specs.declared.mounting.What.TheVariants.{Format, Shards, Workers, Number}
use Rattle.topic_name.specs.declared.descriptor.Descriptor.{Descriptor}
use Rattle.topic_name.specs.PlainConfig.{plain_config}
use Rattle.record_codec.specs.declared.formats.TheConstants.{MANIFEST_FORMAT}
use Rattle.record_codec.specs.Records.{KeptManifest}
use Rattle.record_codec.specs.HasSpelling.{manifest_has_spelling}
use Rattle.record_codec.specs.Reading.{manifest_in}
use Rattle.record_codec.specs.RecordForms.{manifest_whole}
use Rattle.record_codec.specs.ExactLaws.{read_again}
use Rattle.pair_log.specs.Epochs.{snapshot_of}
use Rattle.pair_log.specs.Mounted.{or_first}
use Rattle.shard_fold.specs.declared.asked.Asked.{Asked}
use Rattle.shard_fold.specs.declared.unread.Where.TheVariants.{Manifest}
use Rattle.shard_fold.specs.Fold.{Folded, Holds, IsDamaged, HasAnother, alone, and_then, are_sound_cuts, as_asked, checked, cuts_in, cuts_told, first_cut, first_manifest, is_sound_manifest, manifest_of, read_by}
use Rattle.shard_fold.specs.Giving.{IsAsked}

-- ---- by its first byte

pub cuts_of_none : (asked : Asked) (bytes : List ℕ) → slice_get bytes 0 ≡ None → cuts_in asked bytes ≡ IsDamaged Manifest 0
unfolding cuts_in
cuts_of_none asked bytes none = ap (read_by asked bytes) none

pub cuts_of_unknown : (asked : Asked) (bytes : List ℕ) (format : ℕ) → slice_get bytes 0 ≡ Some format → (format == MANIFEST_FORMAT) ≡ false →
    cuts_in asked bytes ≡ HasAnother Format format MANIFEST_FORMAT
unfolding cuts_in
cuts_of_unknown asked bytes format some unknown =
    ap (read_by asked bytes) some ∙ ap (λ (b : Bool). if b then checked asked (manifest_in bytes) else HasAnother Format format MANIFEST_FORMAT) unknown

pub cuts_of_known : (asked : Asked) (bytes : List ℕ) (format : ℕ) → slice_get bytes 0 ≡ Some format → (format == MANIFEST_FORMAT) ≡ true →
    cuts_in asked bytes ≡ checked asked (manifest_in bytes)
unfolding cuts_in
cuts_of_known asked bytes format some known =
    ap (read_by asked bytes) some ∙ ap (λ (b : Bool). if b then checked asked (manifest_in bytes) else HasAnother Format format MANIFEST_FORMAT) known

-- ---- the generations that it tells are sound

-- what comes first is told too
pub then_holds : {A B : Type 0} (r : Folded A) (next : A → Folded B) (y : B) → and_then r next ≡ Holds y → (x : A) × (r ≡ Holds x) × (next x ≡ Holds y)
then_holds (Holds x) next y e = (x, refl, e)
then_holds (IsDamaged log place) next y e = absurd cc
then_holds (HasAnother what kept asked) next y e = absurd cc

alone_is : {A : Type 0} (place : ℕ) (payloads : List (List ℕ)) (x y : A) → alone place payloads x ≡ Holds y → x ≡ y
alone_is place [] x y e = cc
alone_is place (payload ∷ payloads) x y e = absurd cc

asked_is : (asked : Asked) (m : KeptManifest) (cuts : List Descriptor) → as_asked asked m ≡ Holds cuts → m.cuts ≡ cuts
asked_is asked m cuts e = by (m.shards == asked.config.shards) (m.workers == asked.config.workers) (m.shard == asked.shard) e
  where
    by : (shards workers number : Bool) →
        (if shards
        then (if workers then (if number then Holds m.cuts else HasAnother Number m.shard asked.shard) else HasAnother Workers m.workers asked.config.workers)
        else HasAnother Shards m.shards asked.config.shards) ≡ Holds cuts → m.cuts ≡ cuts
    by true true true e = cc
    by true true false e = absurd cc
    by true false number e = absurd cc
    by false workers number e = absurd cc

checked_sound : (asked : Asked) (read : Option KeptManifest) (cuts : List Descriptor) → checked asked read ≡ Holds cuts → are_sound_cuts cuts ≡ true
checked_sound asked None cuts e = absurd cc
checked_sound asked (Some m) cuts e = by (is_sound_manifest m) refl e
  where
    by : (sound : Bool) → is_sound_manifest m ≡ sound → (if sound then as_asked asked m else IsDamaged Manifest 0) ≡ Holds cuts → are_sound_cuts cuts ≡ true
    by false sound e = absurd cc
    by true sound e =
        let one = and_parts (lies_between 1 8 m.shards) (lies_between 1 16 m.workers && are_sound_cuts m.cuts) sound in
        let two = and_parts (lies_between 1 16 m.workers) (are_sound_cuts m.cuts) one.1 in
        ap are_sound_cuts (sym (asked_is asked m cuts e)) ∙ two.1

read_sound : (asked : Asked) (bytes : List ℕ) (format : Option ℕ) (cuts : List Descriptor) → read_by asked bytes format ≡ Holds cuts → are_sound_cuts cuts ≡ true
read_sound asked bytes None cuts e = absurd cc
read_sound asked bytes (Some format) cuts e = by (format == MANIFEST_FORMAT) e
  where
    by : (known : Bool) → (if known then checked asked (manifest_in bytes) else HasAnother Format format MANIFEST_FORMAT) ≡ Holds cuts → are_sound_cuts cuts ≡ true
    by true e = checked_sound asked (manifest_in bytes) cuts e
    by false e = absurd cc

in_sound : (asked : Asked) (bytes : List ℕ) (cuts : List Descriptor) → cuts_in asked bytes ≡ Holds cuts → are_sound_cuts cuts ≡ true
unfolding cuts_in
in_sound asked bytes cuts e = read_sound asked bytes (slice_get bytes 0) cuts e

pub told_sound : (asked : Asked) (payloads : List (List ℕ)) (cuts : List Descriptor) → cuts_told asked payloads ≡ Holds cuts → are_sound_cuts cuts ≡ true
told_sound asked [] cuts e = absurd cc
told_sound asked (payload ∷ payloads) cuts e =
    let first = then_holds (cuts_in asked (snapshot_of payload)) (alone (5 + length payload) payloads) cuts e in
    ap are_sound_cuts (sym (alone_is (5 + length payload) payloads first.0 cuts first.2)) ∙ in_sound asked (snapshot_of payload) first.0 first.1

-- ---- the first manifest

at_most : (most number : ℕ) → lies_between 1 most number ≡ true → number ≤ most
at_most most number h = leb-true number most (and_parts (nat_le 1 number) (nat_le number most) h).1

-- what is asked lies between the limits
record AreKnown (asked : Asked) : Type 0 where
  shards : lies_between 1 8 asked.config.shards ≡ true
  workers : lies_between 1 16 asked.config.workers ≡ true
  top : lies_between 1 1000 asked.config.top ≡ true
  below : lies_between 1 1000 asked.config.below ≡ true
  messages : lies_between 1 32768 asked.config.messages ≡ true

are_known : (asked : Asked) → IsAsked asked → AreKnown asked
are_known asked is =
    let config = plain_config asked.config in
    let all = and_parts (has_known_counts config) (has_known_thresholds config && has_known_generations config) is.limits in
    let counts = and_parts (lies_between 1 8 config.shards) (lies_between 1 16 config.workers) all.0 in
    let others = and_parts (has_known_thresholds config) (has_known_generations config) all.1 in
    let thresholds = and_parts (lies_between 1 1000 config.top) (lies_between 1 1000 config.below) others.0 in
    let generations = and_parts (lies_between 1 32768 config.messages) (lies_between 0 1000000000000 config.retention) others.1 in
    record { shards = counts.0; workers = counts.1; top = thresholds.0; below = thresholds.1; messages = generations.0 }

pub first_spelled : (asked : Asked) → IsAsked asked → manifest_has_spelling (manifest_of asked (first_cut asked ∷ [])) ≡ true
first_spelled asked is =
    let k = are_known asked is in
    let s = at_most 8 asked.config.shards k.shards in
    let w = at_most 16 asked.config.workers k.workers in
    let t = at_most 1000 asked.config.top k.top in
    let b = at_most 1000 asked.config.below k.below in
    let m = at_most 32768 asked.config.messages k.messages in
    let n = is.shard in
    rw (
      lt-ltb asked.config.shards (2 ^ 8) (omega arith),
      lt-ltb asked.config.workers (2 ^ 8) (omega arith),
      lt-ltb asked.shard (2 ^ 8) (omega arith),
      lt-ltb asked.config.top (2 ^ 16) (omega arith),
      lt-ltb asked.config.below (2 ^ 16) (omega arith),
      lt-ltb asked.config.messages (2 ^ 32) (omega arith),
    ) refl

first_sound : (asked : Asked) → IsAsked asked → is_sound_manifest (manifest_of asked (first_cut asked ∷ [])) ≡ true
first_sound asked is =
    let k = are_known asked is in
    both_true k.shards (both_true k.workers (both_true (both_true (both_true k.top (both_true k.below k.messages)) refl) refl))

as_asked_itself : (asked : Asked) (cuts : List Descriptor) → as_asked asked (manifest_of asked cuts) ≡ Holds cuts
as_asked_itself asked cuts = rw (eq-eqb asked.config.shards asked.config.shards refl, eq-eqb asked.config.workers asked.config.workers refl, eq-eqb asked.shard asked.shard refl) refl

pub first_in : (asked : Asked) → IsAsked asked → cuts_in asked (first_manifest asked) ≡ Holds (first_cut asked ∷ [])
first_in asked is =
    let m = manifest_of asked (first_cut asked ∷ []) in
    cuts_of_known asked (first_manifest asked) MANIFEST_FORMAT refl refl
    ∙ ap (checked asked) (read_again manifest_whole m (first_spelled asked is))
    ∙ ap (λ (b : Bool). if b then as_asked asked m else IsDamaged Manifest 0) (first_sound asked is)
    ∙ as_asked_itself asked (first_cut asked ∷ [])

pub first_told : (asked : Asked) → IsAsked asked → cuts_told asked (or_first (first_manifest asked) []) ≡ Holds (first_cut asked ∷ [])
first_told asked is = ap (λ r. and_then r (λ cuts. Holds cuts)) (first_in asked is)
