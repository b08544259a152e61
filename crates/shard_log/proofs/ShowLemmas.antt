-- What is stored is shown.
use Rattle.std.proofs.Common.{◌≡◌, ◌<◌, Bool, true, false, Ok, Err, None, List, [], ◌∷◌, length, refl, sym, ap, subst, ◌∙◌}
use Rattle.std.proofs.lemmas.Bool.{and_parts}
use Rattle.outside.specs.DiskModel.{DiskState}
use Rattle.topic_name.specs.declared.descriptor.Descriptor.{Descriptor}
use Rattle.topic_name.specs.KeptMessage.{KeptMessage}
use Rattle.shard_index.specs.declared.op.IndexOp.{IndexOp}
use Rattle.shard_index.specs.declared.op.IndexOp.TheVariants.{Add, Release, Forget, Rotate, Drop}
use Rattle.shard_index.specs.declared.refused.AppendRefused.TheVariants.{Memory}
use Rattle.shard_index.specs.KeptIndex.{KeptIndex, list_of}
use Rattle.shard_index.specs.Absorbing.{absorbed_all, added_if, are_of_group, is_of_group, kept_after, kept_after_all, may_add}
use Rattle.shard_fold.specs.declared.limits.TheConstants.{MOST_SLOT}
use Rattle.shard_fold.specs.Fold.{Holds}
use Rattle.shard_fold.specs.FoldLaws.{newest_slot}
use Rattle.shard_fold.specs.Potential.{potential}
use Rattle.shard_disks.specs.Outline.{slot_in}
use Rattle.shard_disks.specs.PlainDisks.{outline}
use Rattle.shard_log.specs.PlainShardLog.{IsDoubtOf, IsShardLog, PlainShardLog, end_after, known, known_by, own_slot, shown, stored}
use Rattle.shard_log.specs.Steps.{Shows}
use Rattle.shard_log.proofs.SettleLemmas.{known_same, sum_as}

-- the operations of a group leave the generations
pub cuts_stay : (ops : List IndexOp) (index : KeptIndex) → are_of_group ops ≡ true → (kept_after_all ops index).cuts ≡ index.cuts
cuts_stay [] index group = refl
cuts_stay (op ∷ ops) index group =
    let parts = and_parts (is_of_group op) (are_of_group ops) group in
    cuts_stay ops (kept_after op index) parts.1 ∙ one op parts.0
  where
    added : (t : Bool) (m : KeptMessage) → (added_if t m index).cuts ≡ index.cuts
    added true m = refl
    added false m = refl

    one : (op : IndexOp) → is_of_group op ≡ true → (kept_after op index).cuts ≡ index.cuts
    one (Add m) group = added (may_add (list_of index) m.stored) m
    one (Release a) group = refl
    one (Forget p) group = refl
    one (Rotate now cut) group = absurd cc
    one Drop group = absurd cc

module _ {D : Type 0} (state : D → DiskState) (old : PlainShardLog D) (is : IsShardLog state old) (none : old.disks.doubted ≡ None) (index : KeptIndex)
    (list : list_of index ≡ stored old) (cuts : index.cuts ≡ old.index.cuts) where
  abbrev new : PlainShardLog D
  new = record old { index = index; unshown = [] }

  same : known_by old.disks.doubted (list_of index) (list_of index) ≡ known old
  same = known_same old.disks.doubted (list_of index) ∙ (list ∙ sym (ap (λ d. known_by d (shown old) (stored old)) none))

  pub kept_shown : IsShardLog state new
  kept_shown = record {
    asked = is.asked;
    sound = record {
      limits = is.sound.limits;
      within = subst (λ (c : List Descriptor). newest_slot c < 8) (sym cuts) is.sound.within;
      doubted = subst (λ (c : List Descriptor). IsDoubtOf (newest_slot c) old.disks.doubted) (sym cuts) is.sound.doubted;
      group = refl;
      stand = refl;
      room = sum_as (slot_in (outline old.disks) (newest_slot index.cuts)).end (slot_in (outline old.disks) (own_slot old)).end
          (potential (known_by old.disks.doubted (list_of index) (list_of index))) (potential (known old)) MOST_SLOT
          (ap (λ (c : List Descriptor). (slot_in (outline old.disks) (newest_slot c)).end) cuts) (ap potential same) is.sound.room;
      room_after = sum_as (end_after (slot_in (outline old.disks) (newest_slot index.cuts))) (end_after (slot_in (outline old.disks) (own_slot old)))
          (potential (list_of index)) (potential (stored old)) MOST_SLOT
          (ap (λ (c : List Descriptor). end_after (slot_in (outline old.disks) (newest_slot c))) cuts) (ap potential list) is.sound.room_after;
    };
    told = λ told.
        let was = is.told told in
        record {
          cuts = was.cuts ∙ ap Holds (sym cuts);
          some = subst (λ (c : List Descriptor). 0 < length (slot_in (outline old.disks) (newest_slot c)).payloads) (sym cuts) was.some;
          now = was.now ∙ ap Holds (sym same);
          after = was.after ∙ ap Holds (sym list);
        };
  }

  pub show_ok : Shows old new (Ok tt)
  show_ok = record { stays = refl; list = list; none = refl; cuts = cuts; memory = tt; only_memory = tt }

pub show_nothing : {D : Type 0} (old : PlainShardLog D) → old.unshown ≡ [] → Shows old old (Ok tt)
show_nothing old none = record { stays = refl; list = sym (ap (λ u. absorbed_all u (shown old)) none); none = none; cuts = refl; memory = tt; only_memory = tt }

pub show_err : {D : Type 0} (old : PlainShardLog D) → Shows old old (Err Memory)
show_err old = record { stays = refl; list = tt; none = tt; cuts = refl; memory = refl; only_memory = refl }
