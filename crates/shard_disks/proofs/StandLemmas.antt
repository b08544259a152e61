-- What follows from what every value of the type keeps.
use Rattle.std.proofs.Common.{◌≡◌, ◌⊎◌, inl, inr, ℕ, ◌<◌, true, IsTrue, List, length, map, None, Some, Option, ap, subst}
use Rattle.outside.specs.DiskModel.{DiskState}
use Rattle.gated_log.specs.Calls.{ImagesHave}
use Rattle.gated_log.specs.PlainLog.{AtRest, HasList, PlainLog, is_in_doubt}
use Rattle.gated_log.specs.Records.{records}
use Rattle.pair_log.specs.PlainPair.{PlainPair}
use Rattle.shard_disks.specs.Images.{AllRead, tell_all}
use Rattle.shard_disks.specs.Lists.{EachHas, HasAt}
use Rattle.shard_disks.specs.Outline.{IsEither, no_slot, slot_at}
use Rattle.shard_disks.specs.PlainDisks.{disks_in, outline_of}
use Rattle.shard_disks.specs.Stands.{IsDisks, IsDoubted, LogsStand, RestsNow, SlotsStand}
use Rattle.shard_disks.proofs.ImageLemmas.{ReadsSame, but_doubted, leave_but, leave_each, leave_reads, lists, lists_after, pairs_read, told_both}
use Rattle.shard_disks.proofs.ListLemmas.{each_both, each_has, each_mapped, has_at, has_both, has_mapped}

-- an image of a log at rest
pub rest_reads : {D : Type 0} (state : D → DiskState) (log : PlainLog D) (image : List ℕ) → (RestsNow log × ImagesHave state log) × IsTrue (state log.disk).tells
    → (state log.disk).may_leave image → ReadsSame log image
rest_reads state log image h left = subst (λ s. HasList s log.payloads image) h.0.0 (h.0.1 h.1 image left)

pub stands_outlined : {D : Type 0} (doubted : Option ℕ) (logs : List (PlainLog D)) → LogsStand doubted logs → SlotsStand doubted (map outline_of logs)
stands_outlined None logs stand = each_mapped outline_of (λ slot. slot.standing ≡ AtRest) logs stand
stands_outlined (Some i) logs stand = has_mapped outline_of (λ slot. is_in_doubt slot.standing ≡ true) (λ slot. slot.standing ≡ AtRest) i logs stand

-- where none is doubted
pub none_doubted : {D : Type 0} (doubted : Option ℕ) (logs : List (PlainLog D)) → LogsStand doubted logs → doubted ≡ None → EachHas RestsNow logs
none_doubted doubted logs stand none = subst (λ d. LogsStand d logs) none stand

pub slot_rests : {D : Type 0} (i : ℕ) (logs : List (PlainLog D)) → i < length logs → EachHas RestsNow logs → (slot_at (map outline_of logs) i).standing ≡ AtRest
slot_rests i logs h rest = has_at outline_of no_slot (λ slot. slot.standing ≡ AtRest) RestsNow i logs (each_has RestsNow i logs h rest)

pub either_reads : (manifest : List (List ℕ)) (l before after : List (List (List ℕ))) → (l ≡ before) ⊎ (l ≡ after)
    → IsEither (record { manifest = manifest; slots = before }) (record { manifest = manifest; slots = after }) (record { manifest = manifest; slots = l })
either_reads manifest l before after (inl e) = inl (ap (λ k. record { manifest = manifest; slots = k }) e)
either_reads manifest l before after (inr e) = inr (ap (λ k. record { manifest = manifest; slots = k }) e)

module _ {D : Type 0} (state : D → DiskState) (m : PlainPair D) (logs : List (PlainLog D)) (doubted : Option ℕ) (disks : IsDisks state m logs doubted) where
  pub rest_told : EachHas RestsNow logs → IsTrue (tell_all state (disks_in m logs)) → EachHas (λ log. (RestsNow log × ImagesHave state log) × IsTrue (state log.disk).tells) logs
  rest_told rest told =
      each_both (λ log. RestsNow log × ImagesHave state log) (λ log. IsTrue (state log.disk).tells) logs (each_both RestsNow (ImagesHave state) logs rest disks.slots_have) (told_both state m logs told).1

  pub doubt_told : (i : ℕ) → HasAt i IsDoubted RestsNow logs → IsTrue (tell_all state (disks_in m logs))
      → HasAt i (λ log. (IsDoubted log × ImagesHave state log) × IsTrue (state log.disk).tells) (λ log. (RestsNow log × ImagesHave state log) × IsTrue (state log.disk).tells) logs
  doubt_told i stand told =
      has_both (λ log. IsDoubted log × ImagesHave state log) (λ log. RestsNow log × ImagesHave state log) (λ log. IsTrue (state log.disk).tells) i logs
      (has_both IsDoubted RestsNow (ImagesHave state) i logs stand disks.slots_have) (told_both state m logs told).1

  -- at rest all images read as the records do
  pub rest_read : EachHas RestsNow logs → IsTrue (tell_all state (disks_in m logs)) → AllRead state (disks_in m logs) (λ reads. reads ≡ record { manifest = m.active.payloads; slots = lists logs })
  rest_read rest told =
      leave_reads state (λ reads. reads ≡ record { manifest = m.active.payloads; slots = lists logs }) m logs disks.manifest_has disks.manifest_rests (told_both state m logs told).0
      (λ images left. ap (λ l. record { manifest = m.active.payloads; slots = l })
      (pairs_read logs images (leave_each state ReadsSame (λ log. (RestsNow log × ImagesHave state log) × IsTrue (state log.disk).tells) (rest_reads state) logs images (rest_told rest told) left)))

  -- in doubt all read one way or the other
  doubt_read : (i : ℕ) → HasAt i IsDoubted RestsNow logs → IsTrue (tell_all state (disks_in m logs))
      → AllRead state (disks_in m logs) (IsEither (record { manifest = m.active.payloads; slots = lists logs }) (record { manifest = m.active.payloads; slots = lists_after logs }))
  doubt_read i stand told =
      leave_reads state (IsEither (record { manifest = m.active.payloads; slots = lists logs }) (record { manifest = m.active.payloads; slots = lists_after logs })) m logs disks.manifest_has disks.manifest_rests (told_both state m logs told).0
      (λ images left. either_reads m.active.payloads (map records images) (lists logs) (lists_after logs)
      (but_doubted i logs images stand
      (leave_but state (λ (log : PlainLog D) image. HasList log.standing log.payloads image) ReadsSame
      (λ log. (IsDoubted log × ImagesHave state log) × IsTrue (state log.disk).tells) (λ log. (RestsNow log × ImagesHave state log) × IsTrue (state log.disk).tells)
      (λ log image h left. h.0.1 h.1 image left) (rest_reads state) i logs images (doubt_told i stand told) left)))

  rest_either : EachHas RestsNow logs → IsTrue (tell_all state (disks_in m logs))
      → AllRead state (disks_in m logs) (IsEither (record { manifest = m.active.payloads; slots = lists logs }) (record { manifest = m.active.payloads; slots = lists_after logs }))
  rest_either rest told images left = inl (rest_read rest told images left)

  pub either_read : IsTrue (tell_all state (disks_in m logs))
      → AllRead state (disks_in m logs) (IsEither (record { manifest = m.active.payloads; slots = lists logs }) (record { manifest = m.active.payloads; slots = lists_after logs }))
  either_read = by doubted disks.stand
    where
      by : (d : Option ℕ) → LogsStand d logs → IsTrue (tell_all state (disks_in m logs))
          → AllRead state (disks_in m logs) (IsEither (record { manifest = m.active.payloads; slots = lists logs }) (record { manifest = m.active.payloads; slots = lists_after logs }))
      by None stand told = rest_either stand told
      by (Some i) stand told = doubt_read i stand told
