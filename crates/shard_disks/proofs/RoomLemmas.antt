-- A slot has more room; and what stands at a place.
use Rattle.std.proofs.Common.{◌≡◌, ℕ, zero, suc, ◌<◌, ◌≤◌, ◌-◌, true, false, IsTrue, Result, OnOk, List, [], ◌∷◌, length, map, get_or, slice_set, slice_get, None, Some, Option, refl, sym, ap, subst, ◌∙◌, arith}
use Rattle.outside.specs.DiskModel.{DiskState}
use Rattle.gated_log.specs.Calls.{ImagesHave}
use Rattle.gated_log.specs.PlainLog.{AtRest, InDoubt, Lost, PlainLog, Standing, end_of, is_in_doubt, is_lost}
use Rattle.pair_log.specs.PlainPair.{PlainPair}
use Rattle.shard_disks.specs.Images.{tell_all}
use Rattle.shard_disks.specs.Lists.{EachHas, HasAt, Moved}
use Rattle.shard_disks.specs.Outline.{no_slot, slot_at}
use Rattle.shard_disks.specs.PlainDisks.{disk_of, disks_in, outline_of}
use Rattle.shard_disks.specs.SlotCalls.{HasMoreRoom}
use Rattle.shard_disks.specs.Stands.{IsDisks, IsDoubted, LogsStand, RestsNow}
use Rattle.shard_disks.proofs.DiskLemmas.{outlines_moved}
use Rattle.shard_disks.proofs.ImageLemmas.{told_both}
use Rattle.shard_disks.proofs.ListLemmas.{each_read, each_weaker, has_each, has_weaker, moved_at, moved_each, moved_length, moved_same, moved_stands, read_at}

-- ---- the standing of a slot

not_lost_of : (standing : Standing) → is_in_doubt standing ≡ true → is_lost standing ≡ false
not_lost_of AtRest doubted = refl
not_lost_of (InDoubt payload) doubted = refl
not_lost_of Lost doubted = let e : false ≡ true = doubted in cc

pub none_lost : {D : Type 0} (doubted : Option ℕ) (logs : List (PlainLog D)) → LogsStand doubted logs → EachHas (λ log. is_lost log.standing ≡ false) logs
none_lost None logs stand = each_weaker RestsNow (λ log. is_lost log.standing ≡ false) (λ log rests. ap is_lost rests) logs stand
none_lost (Some i) logs stand =
    has_each (λ log. is_lost log.standing ≡ false) i logs
    (has_weaker IsDoubted (λ log. is_lost log.standing ≡ false) RestsNow (λ log. is_lost log.standing ≡ false) (λ log doubted. not_lost_of log.standing doubted) (λ log rests. ap is_lost rests) i logs stand)

-- the end of a slot, where its log was read at a place
pub end_here : {D : Type 0} (state : D → DiskState) (m : PlainPair D) (logs : List (PlainLog D)) (doubted : Option ℕ) (disks : IsDisks state m logs doubted) (i : ℕ) (log : PlainLog D)
    → i < length logs → log ≡ get_or logs i log → (is_lost log.standing ≡ false → IsTrue (state log.disk).tells → log.end ≡ end_of log.payloads)
    → IsTrue (tell_all state (disks_in m logs)) → (slot_at (map outline_of logs) i).end ≡ end_of (slot_at (map outline_of logs) i).payloads
end_here state m logs doubted disks i log h is behind told =
    subst (λ slot. slot.end ≡ end_of slot.payloads) (sym (read_at outline_of no_slot logs i log h is))
    (behind (each_read (λ log. is_lost log.standing ≡ false) logs i log h is (none_lost doubted logs disks.stand)) (each_read (λ log. IsTrue (state log.disk).tells) logs i log h is (told_both state m logs told).1))

-- ---- more room

pub roomier_disks : {D T E : Type 0} (state : D → DiskState) (m : PlainPair D) (olds news : List (PlainLog D)) (doubted : Option ℕ) (result : Result T E) (i : ℕ)
    → IsDisks state m olds doubted → Moved i (HasMoreRoom result) olds news → IsDisks state m news doubted
roomier_disks {D = D} state m olds news doubted result i disks moved = record {
  eight = moved_length (HasMoreRoom result) i olds news moved ∙ disks.eight;
  manifest_rests = disks.manifest_rests;
  stand = stand_then doubted disks.stand;
  manifest_has = disks.manifest_has;
  counted = disks.counted;
  slots_have = moved_each (HasMoreRoom result) (ImagesHave state) (λ old new c has. subst (ImagesHave state) (sym c.stays) has) i olds news moved disks.slots_have;
} where
  same : (old new : PlainLog D) → HasMoreRoom result old new → new.standing ≡ old.standing
  same old new c = ap (λ (l : PlainLog D). l.standing) c.stays

  has_then : (j : ℕ) → HasAt j IsDoubted RestsNow olds → HasAt j IsDoubted RestsNow news
  has_then j h = moved_stands (HasMoreRoom result) IsDoubted RestsNow (λ old new c d. ap is_in_doubt (same old new c) ∙ d) (λ old new c r. same old new c ∙ r) j i olds news moved h

  stand_then : (d : Option ℕ) → LogsStand d olds → LogsStand d news
  stand_then None stand = moved_each (HasMoreRoom result) RestsNow (λ old new c r. same old new c ∙ r) i olds news moved stand
  stand_then (Some j) stand = has_then j stand

pub roomier_outline : {D T E : Type 0} (result : Result T E) (i : ℕ) (olds news : List (PlainLog D)) → Moved i (HasMoreRoom result) olds news
    → map outline_of news ≡ slice_set (map outline_of olds) i (record (slot_at (map outline_of olds) i) { spare = (slot_at (map outline_of news) i).spare })
roomier_outline result i olds news moved = outlines_moved (HasMoreRoom result) (λ x y. record x { spare = y.spare }) (λ old new c. ap outline_of c.stays) i olds news moved

pub roomier_same : {D T E : Type 0} (result : Result T E) (i : ℕ) (olds news : List (PlainLog D)) → Moved i (HasMoreRoom result) olds news → map disk_of news ≡ map disk_of olds
roomier_same result i olds news moved = moved_same disk_of (HasMoreRoom result) (λ old new c. ap disk_of c.stays) i olds news moved

pub roomier_room : {D T E : Type 0} (result : Result T E) (i : ℕ) (olds news : List (PlainLog D)) → Moved i (HasMoreRoom result) olds news → OnOk result (0 < (slot_at (map outline_of news) i).spare)
roomier_room result i olds news moved = moved_at outline_of outline_of no_slot (λ x y. OnOk result (0 < y.spare)) (HasMoreRoom result) (λ old new c. c.room) i olds news moved

pub roomier_more : {D T E : Type 0} (result : Result T E) (i : ℕ) (olds news : List (PlainLog D)) → Moved i (HasMoreRoom result) olds news
    → (slot_at (map outline_of olds) i).spare ≤ (slot_at (map outline_of news) i).spare
roomier_more result i olds news moved = moved_at outline_of outline_of no_slot (λ x y. x.spare ≤ y.spare) (HasMoreRoom result) (λ old new c. c.more) i olds news moved

-- ---- the disk at a place

pub get_here : {D : Type 0} (logs : List (PlainLog D)) (i : ℕ) (log : PlainLog D) → i < length logs → log ≡ get_or logs i log → slice_get (map disk_of logs) i ≡ Some log.disk
get_here [] i log h is = absurd (omega (arith, h))
get_here (x ∷ logs) zero log h is = ap (λ (l : PlainLog _). Some l.disk) (sym is)
get_here (x ∷ logs) (suc i) log h is = get_here logs i log (omega (arith, h)) is

pub get_behind : {D : Type 0} (a b disk : D) (disks : List D) (place : ℕ) → 2 ≤ place → slice_get disks (place - 2) ≡ Some disk → slice_get (a ∷ (b ∷ disks)) place ≡ Some disk
get_behind a b disk disks zero h is = absurd (omega (arith, h))
get_behind a b disk disks (suc zero) h is = absurd (omega (arith, h))
get_behind a b disk disks (suc (suc place)) h is = ap (slice_get disks) (let e : place ≡ suc (suc place) - 2 = omega arith in e) ∙ is
