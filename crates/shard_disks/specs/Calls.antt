-- What the calls do to the ten disks of a shard.
use Rattle.std.specs.Prelude.{ℕ, ◌≡◌, ◌↔◌, ◌+◌, IsTrue, IfOk, IsErrOf, Result, Ok, OnOk, OnErr, List, [], ◌∷◌, length, take, drop, slice_index_or, slice_set, Some, None}
use Rattle.outside.specs.DiskModel.{DiskState, Torn, WritesNone}
use Rattle.gated_log.specs.Calls as log
use Rattle.gated_log.specs.PlainLog.{AtRest, InDoubt, doubted_length}
use Rattle.gated_log.specs.declared.refused.LogRefused.{LogRefused}
use Rattle.gated_log.specs.declared.refused.LogRefused.TheVariants.{Fault}
use Rattle.gated_log.specs.declared.settled.Settled.{Settled}
use Rattle.gated_log.specs.declared.settled.Settled.TheVariants.{In, Out}
use Rattle.shard_disks.specs.Blame.{IsBlamed}
use Rattle.shard_disks.specs.Images.{AllRead, EachMoment, KeepsDisks, faults_of, seen_of, tell_all}
use Rattle.shard_disks.specs.Lists.{Pairwise}
use Rattle.shard_disks.specs.Outline.{IsEither, Outline, doubted_place, reads_after, reads_of, slot_in, with_record, with_slot}
use Rattle.shard_disks.specs.PlainDisks.{PlainDisks, all_disks, outline}

abbrev pub Told : {D : Type 0} → (D → DiskState) → PlainDisks D → Type 0
Told state d = IsTrue (tell_all state (all_disks d))

-- the bytes of the disk of a slot, which stands behind the two of the manifest
abbrev pub slot_seen : {D : Type 0} → (D → DiskState) → PlainDisks D → ℕ → List ℕ
slot_seen state d slot = slice_index_or (seen_of state (all_disks d)) (2 + slot) []

abbrev pub WriteNone : {D : Type 0} → (D → DiskState) → List D → List D → Type 0
WriteNone state old new = Pairwise (λ before now. WritesNone (state before) (state now)) old new

-- nothing was read or written but for a read, and each moment reads as before
pub record IsRead {D : Type 0} (state : D → DiskState) (old new : PlainDisks D) : Type 0 where
  pub stays : outline new ≡ outline old
  pub disks : KeepsDisks state (all_disks old) (all_disks new)
  pub seen : seen_of state (all_disks new) ≡ seen_of state (all_disks old)
  pub writes_none : WriteNone state (all_disks old) (all_disks new)
  pub any_moment : EachMoment state old new (λ reads. reads ≡ reads_of (outline old))
  pub images : Told state old → AllRead state (all_disks new) (λ reads. reads ≡ reads_of (outline new))

-- the slot with one more record behind the others
abbrev pub HasCommitted : ℕ → List ℕ → Outline → Outline → Type 0
HasCommitted slot draft old new =
    new
    ≡ with_slot slot
    (record (slot_in old slot) {
      payloads = (slot_in new slot).payloads;
      end = (slot_in old slot).end + (5 + length draft);
      spare = (slot_in new slot).spare;
    })
    old

-- the slot in doubt whether it has this record
abbrev pub IsLeftInDoubt : ℕ → List ℕ → Outline → Outline → Type 0
IsLeftInDoubt slot draft old new =
    new
    ≡ record (with_slot slot (record (slot_in old slot) { payloads = (slot_in new slot).payloads; standing = InDoubt draft }) old) {
      doubted = Some slot;
    }

-- The bytes of a slot's disk alone changed, by a write of this record that was perhaps cut short.
abbrev pub IsTornTo : {D : Type 0} → (D → DiskState) → ℕ → List ℕ → PlainDisks D → PlainDisks D → Type 0
IsTornTo state slot draft old new =
    (seen_of state (all_disks new) ≡ slice_set (seen_of state (all_disks old)) (2 + slot) (slot_seen state new slot))
    × Torn (slot_in (outline old) slot).end (6 + length draft) (slot_seen state old slot) (slot_seen state new slot)

-- A record was committed to a slot; after a fault it is open whether it is there.
pub record CommitsTo {D : Type 0} (state : D → DiskState) (slot : ℕ) (draft : List ℕ) (old new : PlainDisks D) (result : Result Unit LogRefused) : Type 0 where
  pub stays : OnOk result (HasCommitted slot draft (outline old) (outline new))
  pub list : OnOk result (Told state old → reads_of (outline new) ≡ with_record slot draft (reads_of (outline old)))
  pub in_doubt : OnErr result (IsLeftInDoubt slot draft (outline old) (outline new))
  pub kept : OnErr result (Told state old → reads_of (outline new) ≡ reads_of (outline old))
  pub after : OnErr result (Told state old → reads_after (outline new) ≡ with_record slot draft (reads_of (outline old)))
  pub only_fault : OnErr result (IsErrOf result Fault)
  pub bytes :
      OnOk result
      (Told state old →
      seen_of state (all_disks new)
      ≡ slice_set (seen_of state (all_disks old)) (2 + slot) (log.with_record (slot_in (outline old) slot).end draft (slot_seen state old slot)))
  pub any_moment : EachMoment state old new (IsEither (reads_of (outline old)) (with_record slot draft (reads_of (outline old))))
  pub images : OnOk result (Told state old → AllRead state (all_disks new) (λ reads. reads ≡ reads_of (outline new)))
  pub images_either : OnErr result (Told state old → AllRead state (all_disks new) (IsEither (reads_of (outline new)) (reads_after (outline new))))
  pub disks : KeepsDisks state (all_disks old) (all_disks new)
  pub cause : IsBlamed (faults_of state (all_disks old)) (faults_of state (all_disks new)) result

-- the record is behind the others, and nothing is in doubt
abbrev pub IsSettledIn : ℕ → Outline → Outline → Type 0
IsSettledIn slot old new =
    new
    ≡ record (with_slot slot
    (record (slot_in old slot) {
      payloads = (slot_in new slot).payloads;
      end = (slot_in old slot).end + (5 + doubted_length (slot_in old slot).standing);
      spare = (slot_in new slot).spare;
      standing = AtRest;
    })
    old) {
      doubted = None;
    }

-- all is as it was before what was in doubt
abbrev pub IsSettledOut : ℕ → Outline → Outline → Type 0
IsSettledOut slot old new = new ≡ record (with_slot slot (record (slot_in old slot) { standing = AtRest }) old) { doubted = None }

-- A doubt was ended, with nothing written; after a fault it stays.
pub record EndsDoubt {D : Type 0} (state : D → DiskState) (old new : PlainDisks D) (result : Result Settled LogRefused) : Type 0 where
  pub in_after : result ≡ Ok In → Told state old → reads_of (outline new) ≡ reads_after (outline old)
  pub in_stays : result ≡ Ok In → IsSettledIn (doubted_place (outline old)) (outline old) (outline new)
  pub out_stays : result ≡ Ok Out → IsSettledOut (doubted_place (outline old)) (outline old) (outline new)
  pub fault_stays : OnErr result (outline new ≡ outline old)
  pub only_fault : OnErr result (IsErrOf result Fault)
  pub exact :
      IfOk result
      (λ settled. Told state old → (settled ≡ Out) ↔ (take 1 (drop (slot_in (outline old) (doubted_place (outline old))).end (slot_seen state old (doubted_place (outline old)))) ≡ 0 ∷ []))
  pub writes_none : WriteNone state (all_disks old) (all_disks new)
  pub any_moment : EachMoment state old new (IsEither (reads_of (outline old)) (reads_after (outline old)))
  pub images : OnOk result (Told state old → AllRead state (all_disks new) (λ reads. reads ≡ reads_of (outline new)))
  pub images_either : OnErr result (Told state old → AllRead state (all_disks new) (IsEither (reads_of (outline new)) (reads_after (outline new))))
  pub disks : KeepsDisks state (all_disks old) (all_disks new)
  pub cause : IsBlamed (faults_of state (all_disks old)) (faults_of state (all_disks new)) result
