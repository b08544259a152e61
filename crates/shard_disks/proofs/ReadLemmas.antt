-- A record of one slot is read.
use Rattle.std.proofs.Common.{◌≡◌, ℕ, suc, IsTrue, Result, OnOk, List, [], ◌∷◌, ◌++◌, map, slice_index_or, None, Option, sym, ap, subst, ◌∙◌}
use Rattle.outside.specs.Along.{keeps_step}
use Rattle.outside.specs.DiskModel.{DiskState}
use Rattle.outside.specs.Results.{on_ok_then}
use Rattle.gated_log.specs.Blame as log
use Rattle.gated_log.specs.Calls.{ImagesHave}
use Rattle.gated_log.specs.PlainLog.{HasList, PlainLog}
use Rattle.gated_log.specs.declared.refused.LogRefused.{LogRefused}
use Rattle.pair_log.specs.PlainPair.{PlainPair}
use Rattle.shard_disks.specs.Blame.{IsBlamed}
use Rattle.shard_disks.specs.Calls.{IsRead, Told}
use Rattle.shard_disks.specs.Images.{WithinAll, faults_of, tell_all}
use Rattle.shard_disks.specs.Lists.{EachHas, Moved}
use Rattle.shard_disks.specs.Outline.{reads_in, slot_at}
use Rattle.shard_disks.specs.PlainDisks.{PlainDisks, all_disks, disks_in, outline_of}
use Rattle.shard_disks.specs.SlotCalls.{IsLogRead}
use Rattle.shard_disks.specs.Stands.{IsDisks, LogsStand, RestsNow}
use Rattle.shard_disks.proofs.DiskLemmas.{KeepsDisk, all_moved, all_write_none, blamed_moved, keeps_moved, tell_kept, told_moved}
use Rattle.shard_disks.proofs.ImageLemmas.{ReadsSame, but_same, lists, told_both, within_but, within_reads}
use Rattle.shard_disks.proofs.ListLemmas.{each_has, moved_each, moved_given, moved_length, moved_ok, moved_same, moved_weaker, moved_within}
use Rattle.shard_disks.proofs.StandLemmas.{none_doubted, rest_read, rest_reads, rest_told}

module _ {D : Type 0} (state : D → DiskState) (m : PlainPair D) (olds news : List (PlainLog D)) (i k : ℕ) (before now : List ℕ) (result : Result Unit LogRefused)
    (doubted : Option ℕ) (disks : IsDisks state m olds doubted) (none : doubted ≡ None) (moved : Moved i (IsLogRead state k before now result) olds news) where
  rest : EachHas RestsNow olds
  rest = none_doubted doubted olds disks.stand none

  rest_still : EachHas RestsNow news
  rest_still = moved_each (IsLogRead state k before now result) RestsNow (λ old new c rests. ap (λ (l : PlainLog D). l.standing) c.stays ∙ rests) i olds news moved rest

  -- what the value keeps then
  pub read_disks : IsDisks state m news doubted
  read_disks = record {
    eight = moved_length (IsLogRead state k before now result) i olds news moved ∙ disks.eight;
    manifest_rests = disks.manifest_rests;
    stand = subst (λ d. LogsStand d news) (sym none) rest_still;
    manifest_has = disks.manifest_has;
    counted = disks.counted;
    slots_have = moved_each (IsLogRead state k before now result) (ImagesHave state) (λ old new c had. c.called.images) i olds news moved disks.slots_have;
  }

  -- what was read
  read_here : OnOk result (IsTrue (tell_all state (disks_in m olds)) → now ≡ before ++ slice_index_or (slot_at (map outline_of olds) i).payloads k [])
  read_here = on_ok_then result (λ read told. told_moved state (λ (old new : PlainLog D). now ≡ before ++ slice_index_or old.payloads k []) (λ slot bytes. now ≡ before ++ slice_index_or slot.payloads k []) (λ old new e. e) i olds news
      (moved_given (λ log. IsTrue (state log.disk).tells) (λ (old new : PlainLog D). now ≡ before ++ slice_index_or old.payloads k []) i olds news (told_both state m olds told).1 read))
      (moved_ok result (λ (old new : PlainLog D). IsTrue (state old.disk).tells → now ≡ before ++ slice_index_or old.payloads k []) i olds news (moved_weaker _ _ (λ old new c. c.bytes) i olds news moved))

  pub read_bytes : (past : List (List D)) (self : PlainDisks D) → record { manifest = m; slots = olds; doubted = doubted; past = past } ≡ self
      → OnOk result (Told state self → now ≡ before ++ slice_index_or (slot_at (map outline_of self.slots) i).payloads k [])
  read_bytes past self is = subst (λ (d : PlainDisks D). OnOk result (Told state d → now ≡ before ++ slice_index_or (slot_at (map outline_of d.slots) i).payloads k [])) is read_here

  keeps : Moved (suc (suc i)) (KeepsDisk state) (disks_in m olds) (disks_in m news)
  keeps = all_moved (IsLogRead state k before now result) (KeepsDisk state) (λ old new c. record { tells = c.called.tells; arms = c.called.arms }) m i olds news moved

  told_then : IsTrue (tell_all state (disks_in m olds)) → IsTrue (tell_all state (disks_in m news))
  told_then = tell_kept state (disks_in m olds) (disks_in m news) (keeps_moved state (suc (suc i)) (disks_in m olds) (disks_in m news) keeps).tells

  same_outlines : map outline_of news ≡ map outline_of olds
  same_outlines = moved_same outline_of (IsLogRead state k before now result) (λ old new c. ap outline_of c.stays) i olds news moved

  -- what a crash during it leaves
  moments : (only : (disk : D) (image : List ℕ) → (state disk).left_since (state disk).calls image → (state disk).may_leave image) → IsTrue (tell_all state (disks_in m olds))
      → (images : List (List ℕ)) → WithinAll state (disks_in m olds) (disks_in m news) images → reads_in images ≡ record { manifest = m.active.payloads; slots = lists olds }
  moments only told =
      within_reads state only (λ reads. reads ≡ record { manifest = m.active.payloads; slots = lists olds }) m olds news disks.manifest_has disks.manifest_rests (told_both state m olds told).0
      (λ images w. ap (λ l. record { manifest = m.active.payloads; slots = l })
      (but_same i olds images
      (within_but state only ReadsSame ReadsSame
      (λ log. (RestsNow log × ImagesHave state log) × IsTrue (state log.disk).tells) (λ log. (RestsNow log × ImagesHave state log) × IsTrue (state log.disk).tells)
      (IsLogRead state k before now result) (λ old new image h c left. subst (λ s. HasList s old.payloads image) h.0.0 ((c.called.any_moment h.1).each image left)) (rest_reads state) i olds news images
      (each_has (λ log. (RestsNow log × ImagesHave state log) × IsTrue (state log.disk).tells) i olds (moved_within (IsLogRead state k before now result) i olds news moved) (rest_told state m olds doubted disks rest told))
      moved w)))

  pub slot_read : (only : (disk : D) (image : List ℕ) → (state disk).left_since (state disk).calls image → (state disk).may_leave image) (past later : List (List D)) (self : PlainDisks D)
      → record { manifest = m; slots = olds; doubted = doubted; past = past } ≡ self → later ≡ past ++ disks_in m olds ∷ []
      → IsRead state self (record { manifest = m; slots = news; doubted = doubted; past = later })
  slot_read only past later self is recorded = subst (λ (d : PlainDisks D). IsRead state d (record { manifest = m; slots = news; doubted = doubted; past = later })) is (record {
    stays = ap (λ l. record { manifest = m.active.payloads; side = m.side; slots = l; doubted = doubted }) same_outlines;
    disks = keeps_moved state (suc (suc i)) (disks_in m olds) (disks_in m news) keeps;
    seen = moved_same (λ d. (state d).seen) (λ d e. (state e).seen ≡ (state d).seen) (λ d e same. same) (suc (suc i)) (disks_in m olds) (disks_in m news)
        (all_moved (IsLogRead state k before now result) (λ d e. (state e).seen ≡ (state d).seen) (λ old new c. c.writes_none.seen) m i olds news moved);
    writes_none = all_write_none state (IsLogRead state k before now result) (λ old new c. c.writes_none) m i olds news moved;
    any_moment = λ told. keeps_step (WithinAll state) (λ images. reads_in images ≡ record { manifest = m.active.payloads; slots = lists olds }) past (disks_in m olds) later (disks_in m news) recorded (moments only told);
    images = λ told. rest_read state m news doubted read_disks rest_still (told_then told);
  })

  pub read_blamed : (past : List (List D)) (self : PlainDisks D) → record { manifest = m; slots = olds; doubted = doubted; past = past } ≡ self
      → IsBlamed (faults_of state (all_disks self)) (faults_of state (disks_in m news)) result
  read_blamed past self is = subst (λ (d : PlainDisks D). IsBlamed (faults_of state (all_disks d)) (faults_of state (disks_in m news)) result) is
      (blamed_moved state result (suc (suc i)) (disks_in m olds) (disks_in m news)
      (all_moved (IsLogRead state k before now result) (λ d e. log.IsBlamed (state d).faults (state e).faults result) (λ old new c. c.called.cause) m i olds news moved))
