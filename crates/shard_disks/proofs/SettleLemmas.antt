-- The doubt of a slot ends.
use Rattle.std.proofs.Common.{◌≡◌, ℕ, zero, suc, ◌+◌, ◌↔◌, IsTrue, IfOk, Result, Ok, Err, OnOk, OnErr, List, [], ◌∷◌, ◌++◌, length, map, take, drop, get_or, slice_set, slice_index_or, None, Some, Option, sym, ap, subst, ◌∙◌, arith}
use Rattle.outside.specs.Along.{keeps_step}
use Rattle.outside.specs.DiskModel.{DiskState}
use Rattle.outside.specs.Results.{on_err, on_ok_then}
use Rattle.gated_log.specs.Blame as log
use Rattle.gated_log.specs.Calls.{ImagesHave}
use Rattle.gated_log.specs.PlainLog.{AtRest, HasList, PlainLog, doubted_length, is_in_doubt}
use Rattle.gated_log.specs.Records.{records}
use Rattle.gated_log.specs.declared.refused.LogRefused.{LogRefused}
use Rattle.gated_log.specs.declared.settled.Settled.{Settled}
use Rattle.gated_log.specs.declared.settled.Settled.TheVariants.{In, Out}
use Rattle.pair_log.specs.PlainPair.{PlainPair}
use Rattle.shard_disks.specs.Calls.{EndsDoubt}
use Rattle.shard_disks.specs.Images.{WithinAll, seen_of, tell_all}
use Rattle.shard_disks.specs.Lists.{EachHas, HasAt, Moved}
use Rattle.shard_disks.specs.Outline.{IsEither, Outline, Reads, SlotOutline, payloads_after, payloads_of, reads_in, slot_at}
use Rattle.shard_disks.specs.PlainDisks.{PlainDisks, disk_of, disks_in, outline_of}
use Rattle.shard_disks.specs.SlotCalls.{SettlesLog}
use Rattle.shard_disks.specs.Stands.{IsDisks, IsDoubted, LogsStand, RestsNow}
use Rattle.shard_disks.proofs.AnswerLemmas.{on_err_then, on_err_with}
use Rattle.shard_disks.proofs.DiskLemmas.{KeepsDisk, all_moved, all_write_none, blamed_moved, keeps_moved, outlines_moved, tell_kept, told_moved}
use Rattle.shard_disks.proofs.ImageLemmas.{ReadsSame, all_rest, but_doubted, lists, lists_after, rests_after, told_both, within_but, within_reads}
use Rattle.shard_disks.proofs.ListLemmas.{has_each, moved_any, moved_at, moved_each, moved_err, moved_given, moved_has, moved_length, moved_map, moved_mapped, moved_ok, moved_same, moved_weaker}
use Rattle.shard_disks.proofs.StandLemmas.{doubt_told, either_read, either_reads, rest_read, rest_reads}

-- the lists with what is in doubt differ at that place
after_set : {D : Type 0} (P : PlainLog D → Type 0) (i : ℕ) (logs : List (PlainLog D)) → HasAt i P RestsNow logs → lists_after logs ≡ slice_set (lists logs) i (get_or (lists_after logs) i [])
after_set P i [] h = absurd h
after_set P zero (log ∷ logs) h = ap (λ l. payloads_after (outline_of log) ∷ l) (all_rest logs h.1)
after_set P (suc i) (log ∷ logs) h = ap (λ v. v ∷ lists_after logs) (rests_after log h.0) ∙ ap (λ l. log.payloads ∷ l) (after_set P i logs h.1)

-- the gate of that slot
abbrev pub ReadsOut : Settled → SlotOutline → List ℕ → Type 0
ReadsOut settled slot bytes = (settled ≡ Out) ↔ (take 1 (drop slot.end bytes) ≡ 0 ∷ [])

gate_told : {D : Type 0} (state : D → DiskState) (result : Result Settled LogRefused) (i : ℕ) (olds news : List (PlainLog D))
    → Moved i (λ (old new : PlainLog D). IfOk result (λ settled. IsTrue (state old.disk).tells → ReadsOut settled (outline_of old) (state old.disk).seen)) olds news
    → IfOk result (λ settled. EachHas (λ (log : PlainLog D). IsTrue (state log.disk).tells) olds → ReadsOut settled (slot_at (map outline_of olds) i) (slice_index_or (seen_of state (map disk_of olds)) i []))
gate_told state (Ok settled) i olds news moved = λ told.
    told_moved state (λ old new. ReadsOut settled (outline_of old) (state old.disk).seen) (ReadsOut settled) (λ old new r. r) i olds news
    (moved_given (λ (log : _). IsTrue (state log.disk).tells) (λ old new. ReadsOut settled (outline_of old) (state old.disk).seen) i olds news told moved)
gate_told state (Err e) i olds news moved = tt

if_ok_then : {T E : Type 0} (result : Result T E) (P Q : T → Type 0) → ((x : T) → P x → Q x) → IfOk result P → IfOk result Q
if_ok_then (Ok x) P Q f p = f x p
if_ok_then (Err e) P Q f p = tt

module _ {D : Type 0} (state : D → DiskState) (m : PlainPair D) (olds news : List (PlainLog D)) (i : ℕ) (result : Result Settled LogRefused)
    (disks : IsDisks state m olds (Some i)) (moved : Moved i (SettlesLog state result) olds news) where
  has : EachHas (ImagesHave state) news
  has = moved_each (SettlesLog state result) (ImagesHave state) (λ old new c had. c.called.images) i olds news moved disks.slots_have

  eight : length news ≡ 8
  eight = moved_length (SettlesLog state result) i olds news moved ∙ disks.eight

  stays_open : OnErr result (Moved i (λ (old new : PlainLog D). new ≡ record old { disk = new.disk }) olds news)
  stays_open = moved_err result (λ (old new : PlainLog D). new ≡ record old { disk = new.disk }) i olds news (moved_weaker _ _ (λ old new c. c.fault_stays) i olds news moved)

  -- what the value keeps then
  pub settled_disks : OnOk result (IsDisks state m news None)
  settled_disks = on_ok_then result (λ rests. record {
    eight = eight;
    manifest_rests = disks.manifest_rests;
    stand = has_each RestsNow i news (moved_has (λ (old new : PlainLog D). new.standing ≡ AtRest) IsDoubted RestsNow RestsNow (λ old new r d. r) i olds news rests disks.stand);
    manifest_has = disks.manifest_has;
    counted = disks.counted;
    slots_have = has;
  }) (moved_ok result (λ (old new : PlainLog D). new.standing ≡ AtRest) i olds news (moved_weaker _ _ (λ old new c. c.rests) i olds news moved))

  pub unsettled_disks : OnErr result (IsDisks state m news (Some i))
  unsettled_disks = on_err_then result (λ stays. record {
    eight = eight;
    manifest_rests = disks.manifest_rests;
    stand = moved_has (λ (old new : PlainLog D). new ≡ record old { disk = new.disk }) IsDoubted IsDoubted RestsNow (λ old new is d. ap (λ (l : PlainLog D). is_in_doubt l.standing) is ∙ d) i olds news stays disks.stand;
    manifest_has = disks.manifest_has;
    counted = disks.counted;
    slots_have = has;
  }) stays_open

  -- the lists of records
  lists_in : Moved i (λ (old new : PlainLog D). new.payloads ≡ payloads_after (outline_of old)) olds news → lists news ≡ lists_after olds
  lists_in after =
      let slots : Moved i (λ x y. y.payloads ≡ payloads_after x) (map outline_of olds) (map outline_of news) =
      moved_mapped outline_of (λ (old new : PlainLog D). new.payloads ≡ payloads_after (outline_of old)) (λ x y. y.payloads ≡ payloads_after x) (λ old new e. e) i olds news after in
      moved_map payloads_of [] (λ x y. y.payloads ≡ payloads_after x) i (map outline_of olds) (map outline_of news) slots
      ∙ (ap (slice_set (lists olds) i) (moved_at payloads_after payloads_of [] (λ x y. y ≡ x) (λ x y. y.payloads ≡ payloads_after x) (λ x y e. e) i (map outline_of olds) (map outline_of news) slots)
      ∙ sym (after_set IsDoubted i olds disks.stand))

  told_logs : IsTrue (tell_all state (disks_in m olds)) → EachHas (λ log. IsTrue (state log.disk).tells) olds
  told_logs told = (told_both state m olds told).1

  keeps : Moved (suc (suc i)) (KeepsDisk state) (disks_in m olds) (disks_in m news)
  keeps = all_moved (SettlesLog state result) (KeepsDisk state) (λ old new c. record { tells = c.called.tells; arms = c.called.arms }) m i olds news moved

  told_then : IsTrue (tell_all state (disks_in m olds)) → IsTrue (tell_all state (disks_in m news))
  told_then = tell_kept state (disks_in m olds) (disks_in m news) (keeps_moved state (suc (suc i)) (disks_in m olds) (disks_in m news) keeps).tells

  two_more : 2 + i ≡ suc (suc i)
  two_more = omega arith

  -- what a crash during it leaves
  moments : (only : (disk : D) (image : List ℕ) → (state disk).left_since (state disk).calls image → (state disk).may_leave image) → IsTrue (tell_all state (disks_in m olds))
      → (images : List (List ℕ)) → WithinAll state (disks_in m olds) (disks_in m news) images
      → IsEither (record { manifest = m.active.payloads; slots = lists olds }) (record { manifest = m.active.payloads; slots = lists_after olds }) (reads_in images)
  moments only told =
      within_reads state only (IsEither (record { manifest = m.active.payloads; slots = lists olds }) (record { manifest = m.active.payloads; slots = lists_after olds })) m olds news
      disks.manifest_has disks.manifest_rests (told_both state m olds told).0
      (λ images w. either_reads m.active.payloads (map records images) (lists olds) (lists_after olds)
      (but_doubted i olds images disks.stand
      (within_but state only (λ (log : PlainLog D) image. HasList log.standing log.payloads image) ReadsSame
      (λ log. (IsDoubted log × ImagesHave state log) × IsTrue (state log.disk).tells) (λ log. (RestsNow log × ImagesHave state log) × IsTrue (state log.disk).tells)
      (SettlesLog state result) (λ old new image h c left. (c.called.any_moment h.1).each image left) (rest_reads state) i olds news images
      (doubt_told state m olds (Some i) disks i disks.stand told) moved w)))

  when_in : (R : PlainLog D → PlainLog D → Type 0) → ((old new : PlainLog D) → SettlesLog state result old new → R old new) → Moved i R olds news
  when_in R has = moved_weaker (SettlesLog state result) R has i olds news moved

  ends : (only : (disk : D) (image : List ℕ) → (state disk).left_since (state disk).calls image → (state disk).may_leave image) (doubted' : Option ℕ) (before later : List (List D))
      → OnOk result (doubted' ≡ None) → OnErr result (doubted' ≡ Some i) → later ≡ before ++ disks_in m olds ∷ [] → IsDisks state m news doubted'
      → (result ≡ Ok In → doubted' ≡ None) → (result ≡ Ok Out → doubted' ≡ None)
      → EndsDoubt state (record { manifest = m; slots = olds; doubted = Some i; past = before }) (record { manifest = m; slots = news; doubted = doubted'; past = later }) result
  ends only doubted' before later after_ok after_err recorded new after_in after_out = record {
    in_after = λ is told. ap reads_with (lists_in (moved_given (λ log. IsTrue (state log.disk).tells) (λ (old new : PlainLog D). new.payloads ≡ payloads_after (outline_of old)) i olds news (told_logs told)
        (when_in (λ (old new : PlainLog D). IsTrue (state old.disk).tells → new.payloads ≡ payloads_after (outline_of old)) (λ old new c. c.in_after is))));
    in_stays = λ is.
        ap (λ l. outline_with l doubted') (outlines_moved (λ (old new : PlainLog D). outline_of new ≡ record (outline_of old) { payloads = new.payloads; end = old.end + (5 + doubted_length old.standing); spare = new.spare; standing = AtRest })
        (λ x y. record x { payloads = y.payloads; end = x.end + (5 + doubted_length x.standing); spare = y.spare; standing = AtRest }) (λ old new e. e) i olds news
        (when_in (λ (old new : PlainLog D). outline_of new ≡ record (outline_of old) { payloads = new.payloads; end = old.end + (5 + doubted_length old.standing); spare = new.spare; standing = AtRest }) (λ old new c. ap outline_of (c.in_stays is))))
        ∙ ap (outline_with _) (after_in is);
    out_stays = λ is.
        ap (λ l. outline_with l doubted') (outlines_moved (λ (old new : PlainLog D). outline_of new ≡ record (outline_of old) { standing = AtRest }) (λ x y. record x { standing = AtRest }) (λ old new e. e) i olds news
        (when_in (λ (old new : PlainLog D). outline_of new ≡ record (outline_of old) { standing = AtRest }) (λ old new c. ap outline_of (c.out_stays is))))
        ∙ ap (outline_with _) (after_out is);
    fault_stays = on_err_with result (λ stays same.
        ap (λ l. outline_with l doubted') (moved_same outline_of (λ (old new : PlainLog D). new ≡ record old { disk = new.disk }) (λ old new is. ap outline_of is) i olds news stays) ∙ ap (outline_with _) same) stays_open after_err;
    only_fault = moved_any (SettlesLog state result) (λ old new c. c.only_fault) i olds news moved;
    exact = if_ok_then result _ _ (λ settled told_gate told. subst (λ n. ReadsOut settled (slot_at (map outline_of olds) i) (slice_index_or (seen_of state (disks_in m olds)) n [])) (sym two_more) (told_gate (told_logs told)))
        (gate_told state result i olds news (when_in (λ (old new : PlainLog D). IfOk result (λ settled. IsTrue (state old.disk).tells → ReadsOut settled (outline_of old) (state old.disk).seen)) (λ old new c. c.exact)));
    writes_none = all_write_none state (SettlesLog state result) (λ old new c. c.writes_none) m i olds news moved;
    any_moment = λ told. keeps_step (WithinAll state) (λ images. IsEither (reads_with (lists olds)) (reads_with (lists_after olds)) (reads_in images)) before (disks_in m olds) later (disks_in m news) recorded (moments only told);
    images = on_ok_then result (λ same told. rest_read state m news doubted' new (subst (λ d. LogsStand d news) same new.stand) (told_then told)) after_ok;
    images_either = on_err result (λ told. either_read state m news doubted' new (told_then told));
    disks = keeps_moved state (suc (suc i)) (disks_in m olds) (disks_in m news) keeps;
    cause = blamed_moved state result (suc (suc i)) (disks_in m olds) (disks_in m news)
        (all_moved (SettlesLog state result) (λ d e. log.IsBlamed (state d).faults (state e).faults result) (λ old new c. c.called.cause) m i olds news moved);
  } where
    outline_with : List SlotOutline → Option ℕ → Outline
    outline_with slots d = record { manifest = m.active.payloads; side = m.side; slots = slots; doubted = d }

    reads_with : List (List (List ℕ)) → Reads
    reads_with l = record { manifest = m.active.payloads; slots = l }

  pub ends_doubt : (only : (disk : D) (image : List ℕ) → (state disk).left_since (state disk).calls image → (state disk).may_leave image) (doubted doubted' : Option ℕ) (before later : List (List D)) (self : PlainDisks D)
      → record { manifest = m; slots = olds; doubted = doubted; past = before } ≡ self → doubted ≡ Some i
      → OnOk result (doubted' ≡ None) → OnErr result (doubted' ≡ Some i) → later ≡ before ++ disks_in m olds ∷ [] → IsDisks state m news doubted'
      → (result ≡ Ok In → doubted' ≡ None) → (result ≡ Ok Out → doubted' ≡ None)
      → EndsDoubt state self (record { manifest = m; slots = news; doubted = doubted'; past = later }) result
  ends_doubt only doubted doubted' before later self is some after_ok after_err recorded new after_in after_out =
      subst (λ (d : PlainDisks D). EndsDoubt state d (record { manifest = m; slots = news; doubted = doubted'; past = later }) result)
      (ap (λ d. record { manifest = m; slots = olds; doubted = d; past = before }) (sym some) ∙ is)
      (ends only doubted' before later after_ok after_err recorded new after_in after_out)
