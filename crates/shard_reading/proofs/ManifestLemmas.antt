-- The manifest of a shard, and the generations that it names.
use Rattle.std.proofs.Common.{◌≡◌, ℕ, ◌+◌, ◌<◌, ◌≤◌, IsTrue, List, [], ◌∷◌, Vec, Ok, Err, length, sym, ap, subst, ◌∙◌, arith}
use Rattle.std.specs.declared.alloc.Global.{Global}
use Rattle.std.proofs.lemmas.List.{length-drop}
use Rattle.outside.specs.DiskModel.{DiskState}
use Rattle.pair_log.specs.Epochs.{snapshot_of}
use Rattle.pair_log.specs.Mounted.{or_first}
use Rattle.pair_log.specs.PlainPair.{head_of}
use Rattle.topic_name.specs.declared.descriptor.Descriptor.{Descriptor}
use Rattle.shard_fold.specs.declared.asked.Asked.{Asked}
use Rattle.shard_fold.specs.declared.unread.Unread as fold
use Rattle.shard_fold.specs.declared.unread.Where.TheVariants.{Manifest}
use Rattle.shard_fold.specs.Fold.{Folded, Holds, IsDamaged, alone, and_then, are_sound_cuts, cuts_in, cuts_told, first_manifest}
use Rattle.shard_fold.specs.Giving as give
use Rattle.shard_disks.specs.Calls.{Told}
use Rattle.shard_disks.specs.Outline.{reads_of}
use Rattle.shard_disks.specs.PlainDisks.{PlainDisks, outline}
use Rattle.shard_reading.specs.declared.unread.Unread.{Unread}
use Rattle.shard_reading.specs.declared.unread.Unread.TheVariants as unread
use Rattle.shard_reading.specs.Giving.{IsWhy, refusal_of}
use Rattle.shard_reading.specs.Held.{cuts_of}
use Rattle.shard_reading.specs.Steps.{IsOutside, Looks, ReadsCuts}
use Rattle.shard_reading.proofs.LookLemmas.{looks_inside}
use Rattle.shard_reading.proofs.RecordLemmas.{inside, outside_is, refused}

pub then_why : {A B : Type 0} (why : Unread) (r : Folded A) (next : A → Folded B) → IsWhy why r → IsWhy why (and_then r next)
then_why (unread.Damaged log place) r next e = ap (λ r. and_then r next) e
then_why (unread.Another what kept asked) r next e = ap (λ r. and_then r next) e
then_why (unread.Fault disk) r next e = tt
then_why unread.Memory r next e = tt

cuts_refused : (asked : Asked) (manifest : List (List ℕ)) (bytes : List ℕ) (why : fold.Unread) → 0 < length manifest → bytes ≡ snapshot_of (head_of manifest)
    → give.IsWhy why (cuts_in asked bytes) → IsWhy (refusal_of why) (cuts_told asked (or_first (first_manifest asked) manifest))
cuts_refused asked [] bytes why some is e = absurd (omega (arith, some))
cuts_refused asked (p ∷ payloads) bytes why some is e =
    then_why (refusal_of why) (cuts_in asked (snapshot_of p)) (alone (5 + length p) payloads)
    (refused why (cuts_in asked (snapshot_of p)) (subst (λ b. give.IsWhy why (cuts_in asked b)) is e))

-- what names generations has bytes
holds_some : (asked : Asked) (bytes : List ℕ) (cuts : List Descriptor) → cuts_in asked bytes ≡ Holds cuts → 0 < length bytes
unfolding cuts_in
holds_some asked [] cuts e = absurd cc
holds_some asked (b ∷ bytes) cuts e = omega arith

cuts_behind : (asked : Asked) (manifest : List (List ℕ)) (bytes : List ℕ) (cuts : List Descriptor) → 1 < length manifest → bytes ≡ snapshot_of (head_of manifest)
    → cuts_in asked bytes ≡ Holds cuts → cuts_told asked (or_first (first_manifest asked) manifest) ≡ IsDamaged Manifest (13 + length bytes)
cuts_behind asked [] bytes cuts some is e = absurd (omega (arith, some))
cuts_behind asked (p ∷ []) bytes cuts some is e = absurd (omega (arith, some))
cuts_behind asked (p ∷ q ∷ payloads) bytes cuts some is e =
    let long : 0 < length bytes = holds_some asked bytes cuts e in
    let same : length bytes ≡ length (snapshot_of p) = ap length is in
    let place : 5 + length p ≡ 13 + length bytes = omega (arith, length-drop 8 p, long, same) in
    ap (λ (r : Folded (List Descriptor)). and_then r (alone (5 + length p) (q ∷ payloads))) (ap (cuts_in asked) (sym is) ∙ e) ∙ ap (IsDamaged Manifest) place

cuts_alone : (asked : Asked) (manifest : List (List ℕ)) (bytes : List ℕ) (cuts : List Descriptor) → length manifest ≡ 1 → bytes ≡ snapshot_of (head_of manifest)
    → cuts_in asked bytes ≡ Holds cuts → cuts_told asked (or_first (first_manifest asked) manifest) ≡ Holds cuts
cuts_alone asked [] bytes cuts one is e = absurd (omega (arith, one))
cuts_alone asked (p ∷ q ∷ payloads) bytes cuts one is e = absurd (omega (arith, one))
cuts_alone asked (p ∷ []) bytes cuts one is e =
    ap (λ (r : Folded (List Descriptor)). and_then r (alone (5 + length p) [])) (ap (cuts_in asked) (sym is) ∙ e)

-- ---- what a reading of them gives

module _ {D : Type 0} (state : D → DiskState) (asked : Asked) (old new : PlainDisks D) where
  pub reads_outside : (why : Unread) → IsOutside why → Looks {X = Vec ℕ Global} state old new (Err why) → ReadsCuts state asked old new (Err why)
  reads_outside why out looks = record {
    exact = λ told. outside_is why (cuts_of asked (reads_of (outline old))) out;
    sound = tt;
    some = tt;
    looks = record { read = looks.read; cause = looks.cause };
  }

  -- of the bytes of its snapshot, and how many records there are
  module _ (bytes : Vec ℕ Global) (count : ℕ) (counted : Told state old → count ≡ length (outline old).manifest) (some : 1 ≤ count)
      (is : Told state old → bytes.items ≡ snapshot_of (head_of (outline old).manifest)) (looks : Looks {X = Vec ℕ Global} state old new (Ok bytes)) where
    pub reads_refused : (why : fold.Unread) → give.IsWhy why (cuts_in asked bytes.items) → ReadsCuts state asked old new (Err (refusal_of why))
    reads_refused why e = record {
      exact = λ told. cuts_refused asked (outline old).manifest bytes.items why (let n : count ≡ length (outline old).manifest = counted told in omega arith) (is told) e;
      sound = tt;
      some = tt;
      looks = looks_inside state old new bytes (refusal_of why) (inside why) looks;
    }

    module _ (cuts : Vec Descriptor Global) (holds : cuts_in asked bytes.items ≡ Holds cuts.items) where
      pub reads_behind : 1 < count → ReadsCuts state asked old new (Err (unread.Damaged Manifest (13 + length bytes.items)))
      reads_behind more = record {
        exact = λ told. cuts_behind asked (outline old).manifest bytes.items cuts.items (let n : count ≡ length (outline old).manifest = counted told in omega arith) (is told) holds;
        sound = tt;
        some = tt;
        looks = looks_inside state old new bytes (unread.Damaged Manifest (13 + length bytes.items)) (λ before now e. e) looks;
      }

      pub reads_cuts : count ≤ 1 → IsTrue (are_sound_cuts cuts.items) → 0 < length cuts.items → ReadsCuts state asked old new (Ok cuts)
      reads_cuts one sound there = record {
        exact = λ told. cuts_alone asked (outline old).manifest bytes.items cuts.items (let n : count ≡ length (outline old).manifest = counted told in omega arith) (is told) holds;
        sound = sound;
        some = there;
        looks = record { read = looks.read; cause = looks.cause };
      }
