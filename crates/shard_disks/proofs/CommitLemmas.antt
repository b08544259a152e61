-- A record is committed to one slot.
use Rattle.std.proofs.Common.{◌≡◌, ℕ, suc, ◌+◌, IsTrue, Result, OnOk, OnErr, List, [], ◌∷◌, ◌++◌, length, map, get_or, slice_set, slice_index_or, None, Some, Option, sym, ap, subst, ◌∙◌, arith}
use Rattle.std.proofs.lemmas.List.{set-get_or}
use Rattle.outside.specs.Along.{keeps_step}
use Rattle.outside.specs.DiskModel.{DiskState}
use Rattle.outside.specs.Results.{on_err, on_ok_then}
use Rattle.gated_log.specs.Blame as log
use Rattle.gated_log.specs.Calls.{ImagesHave, with_record as with_record_at}
use Rattle.gated_log.specs.PlainLog.{InDoubt, PlainLog, is_in_doubt, with_doubted}
use Rattle.gated_log.specs.Records.{records}
use Rattle.gated_log.specs.Stands.{IsBeforeOrAfter}
use Rattle.gated_log.specs.declared.refused.LogRefused.{LogRefused}
use Rattle.pair_log.specs.PlainPair.{PlainPair, first_disk, second_disk}
use Rattle.shard_disks.specs.Calls.{CommitsTo}
use Rattle.shard_disks.specs.Images.{WithinAll, seen_of, tell_all}
use Rattle.shard_disks.specs.Lists.{EachHas, Moved}
use Rattle.shard_disks.specs.Outline.{IsEither, Outline, Reads, SlotOutline, payloads_after, payloads_of, reads_in, slot_at}
use Rattle.shard_disks.specs.PlainDisks.{PlainDisks, disks_in, outline_of}
use Rattle.shard_disks.specs.SlotCalls.{CommitsLog}
use Rattle.shard_disks.specs.Stands.{IsDisks, IsDoubted, LogsStand, RestsNow}
use Rattle.shard_disks.proofs.AnswerLemmas.{on_err_then, on_err_with, on_ok_with}
use Rattle.shard_disks.proofs.DiskLemmas.{KeepsDisk, all_moved, blamed_moved, bytes_moved, keeps_moved, lists_moved, outlines_moved, tell_kept}
use Rattle.shard_disks.proofs.ImageLemmas.{ReadsSame, all_rest, but_record, lists, lists_after, told_both, within_but, within_reads}
use Rattle.shard_disks.proofs.ListLemmas.{each_has, moved_any, moved_at, moved_each, moved_err, moved_given, moved_has, moved_length, moved_map, moved_mapped, moved_ok, moved_weaker, moved_within}
use Rattle.shard_disks.proofs.StandLemmas.{either_read, either_reads, none_doubted, rest_read, rest_reads, rest_told}

-- the log with the record, and the log in doubt
abbrev pub HasOneMore : {D : Type 0} → List ℕ → PlainLog D → PlainLog D → Type 0
HasOneMore draft old new = new ≡ record old { disk = new.disk; payloads = new.payloads; end = old.end + (5 + length draft); spare = new.spare }

abbrev pub IsInDoubtNow : {D : Type 0} → List ℕ → PlainLog D → PlainLog D → Type 0
IsInDoubtNow draft old new = new ≡ record old { disk = new.disk; payloads = new.payloads; standing = InDoubt draft }

module _ {D : Type 0} (state : D → DiskState) (m : PlainPair D) (olds news : List (PlainLog D)) (i : ℕ) (draft : List ℕ) (result : Result Unit LogRefused)
    (doubted : Option ℕ) (disks : IsDisks state m olds doubted) (none : doubted ≡ None) (moved : Moved i (CommitsLog state draft result) olds news) where
  rest : EachHas RestsNow olds
  rest = none_doubted doubted olds disks.stand none

  one_more : OnOk result (Moved i (HasOneMore draft) olds news)
  one_more = moved_ok result (HasOneMore draft) i olds news (moved_weaker _ _ (λ old new c. c.stays) i olds news moved)

  in_doubt : OnErr result (Moved i (IsInDoubtNow draft) olds news)
  in_doubt = moved_err result (IsInDoubtNow draft) i olds news (moved_weaker _ _ (λ old new c. c.in_doubt) i olds news moved)

  has : EachHas (ImagesHave state) news
  has = moved_each (CommitsLog state draft result) (ImagesHave state) (λ old new c had. c.called.images) i olds news moved disks.slots_have

  eight : length news ≡ 8
  eight = moved_length (CommitsLog state draft result) i olds news moved ∙ disks.eight

  -- what the value keeps then
  pub committed_disks : OnOk result (IsDisks state m news doubted)
  committed_disks = on_ok_then result (λ stays. record {
    eight = eight;
    manifest_rests = disks.manifest_rests;
    stand = subst (λ d. LogsStand d news) (sym none)
        (moved_each (HasOneMore draft) RestsNow (λ old new is rests. ap (λ (l : PlainLog D). l.standing) is ∙ rests) i olds news stays rest);
    manifest_has = disks.manifest_has;
    counted = disks.counted;
    slots_have = has;
  }) one_more

  pub failed_disks : OnErr result (IsDisks state m news (Some i))
  failed_disks = on_err_then result (λ stays. record {
    eight = eight;
    manifest_rests = disks.manifest_rests;
    stand = moved_has (IsInDoubtNow draft) RestsNow IsDoubted RestsNow (λ old new is rests. ap (λ (l : PlainLog D). is_in_doubt l.standing) is) i olds news stays
        (each_has RestsNow i olds (moved_within (CommitsLog state draft result) i olds news moved) rest);
    manifest_has = disks.manifest_has;
    counted = disks.counted;
    slots_have = has;
  }) in_doubt

  -- the lists of records
  lists_then : Moved i (λ (old new : PlainLog D). new.payloads ≡ old.payloads ++ draft ∷ []) olds news → lists news ≡ slice_set (lists olds) i (get_or (lists olds) i [] ++ draft ∷ [])
  lists_then more = lists_moved (λ old new. new.payloads ≡ old.payloads ++ draft ∷ []) (λ l. l ++ draft ∷ []) (λ old new e. e) i olds news more

  lists_kept : Moved i (λ (old new : PlainLog D). new.payloads ≡ old.payloads) olds news → lists news ≡ lists olds
  lists_kept same = lists_moved (λ old new. new.payloads ≡ old.payloads) (λ l. l) (λ old new e. e) i olds news same ∙ set-get_or (lists olds) i []

  lists_doubted : Moved i (λ (old new : PlainLog D). payloads_after (outline_of new) ≡ old.payloads ++ draft ∷ []) olds news → lists_after news ≡ slice_set (lists olds) i (get_or (lists olds) i [] ++ draft ∷ [])
  lists_doubted after =
      let slots : Moved i (λ x y. payloads_after y ≡ x.payloads ++ draft ∷ []) (map outline_of olds) (map outline_of news) =
      moved_mapped outline_of (λ (old new : PlainLog D). payloads_after (outline_of new) ≡ old.payloads ++ draft ∷ []) (λ x y. payloads_after y ≡ x.payloads ++ draft ∷ []) (λ old new e. e) i olds news after in
      moved_map payloads_after [] (λ x y. payloads_after y ≡ x.payloads ++ draft ∷ []) i (map outline_of olds) (map outline_of news) slots
      ∙ (ap (λ l. slice_set l i (get_or (lists_after news) i [])) (all_rest olds rest)
      ∙ ap (slice_set (lists olds) i) (moved_at payloads_of payloads_after [] (λ x y. y ≡ x ++ draft ∷ []) (λ x y. payloads_after y ≡ x.payloads ++ draft ∷ []) (λ x y e. e) i (map outline_of olds) (map outline_of news) slots))

  told_logs : IsTrue (tell_all state (disks_in m olds)) → EachHas (λ log. IsTrue (state log.disk).tells) olds
  told_logs told = (told_both state m olds told).1

  keeps : Moved (suc (suc i)) (KeepsDisk state) (disks_in m olds) (disks_in m news)
  keeps = all_moved (CommitsLog state draft result) (KeepsDisk state) (λ old new c. record { tells = c.called.tells; arms = c.called.arms }) m i olds news moved

  told_then : IsTrue (tell_all state (disks_in m olds)) → IsTrue (tell_all state (disks_in m news))
  told_then = tell_kept state (disks_in m olds) (disks_in m news) (keeps_moved state (suc (suc i)) (disks_in m olds) (disks_in m news) keeps).tells

  two_more : 2 + i ≡ suc (suc i)
  two_more = omega arith

  -- its bytes
  bytes_then : Moved i (λ (old new : PlainLog D). (state new.disk).seen ≡ with_record_at old.end draft (state old.disk).seen) olds news
      → seen_of state (disks_in m news)
      ≡ slice_set (seen_of state (disks_in m olds)) (2 + i) (with_record_at (slot_at (map outline_of olds) i).end draft (slice_index_or (seen_of state (disks_in m olds)) (2 + i) []))
  bytes_then written =
      subst (λ n. seen_of state (disks_in m news) ≡ slice_set (seen_of state (disks_in m olds)) n (with_record_at (slot_at (map outline_of olds) i).end draft (slice_index_or (seen_of state (disks_in m olds)) n []))) (sym two_more)
      (ap (λ l. (state (first_disk m)).seen ∷ ((state (second_disk m)).seen ∷ l))
      (bytes_moved state (λ (old new : PlainLog D). (state new.disk).seen ≡ with_record_at old.end draft (state old.disk).seen) (λ slot bytes. with_record_at slot.end draft bytes) (λ old new e. e) i olds news written))

  -- what a crash during it leaves
  moments : (only : (disk : D) (image : List ℕ) → (state disk).left_since (state disk).calls image → (state disk).may_leave image) → IsTrue (tell_all state (disks_in m olds))
      → (images : List (List ℕ)) → WithinAll state (disks_in m olds) (disks_in m news) images
      → IsEither (record { manifest = m.active.payloads; slots = lists olds }) (record { manifest = m.active.payloads; slots = slice_set (lists olds) i (get_or (lists olds) i [] ++ draft ∷ []) }) (reads_in images)
  moments only told =
      within_reads state only (IsEither (record { manifest = m.active.payloads; slots = lists olds }) (record { manifest = m.active.payloads; slots = slice_set (lists olds) i (get_or (lists olds) i [] ++ draft ∷ []) })) m olds news
      disks.manifest_has disks.manifest_rests (told_both state m olds told).0
      (λ images w. either_reads m.active.payloads (map records images) (lists olds) _
      (but_record draft i olds images
      (within_but state only (λ (log : PlainLog D) image. IsBeforeOrAfter log.payloads draft image) ReadsSame
      (λ log. (RestsNow log × ImagesHave state log) × IsTrue (state log.disk).tells) (λ log. (RestsNow log × ImagesHave state log) × IsTrue (state log.disk).tells)
      (CommitsLog state draft result) (λ old new image h c left. (c.called.any_moment h.1).each image left) (rest_reads state) i olds news images
      (each_has (λ log. (RestsNow log × ImagesHave state log) × IsTrue (state log.disk).tells) i olds (moved_within (CommitsLog state draft result) i olds news moved) (rest_told state m olds doubted disks rest told))
      moved w)))

  commits : (only : (disk : D) (image : List ℕ) → (state disk).left_since (state disk).calls image → (state disk).may_leave image) (doubted' : Option ℕ) (before later : List (List D))
      → OnOk result (doubted' ≡ doubted) → OnErr result (doubted' ≡ Some i) → later ≡ before ++ disks_in m olds ∷ [] → IsDisks state m news doubted'
      → CommitsTo state i draft (record { manifest = m; slots = olds; doubted = doubted; past = before }) (record { manifest = m; slots = news; doubted = doubted'; past = later }) result
  commits only doubted' before later after_ok after_err recorded new = record {
    stays = on_ok_with result (λ more same.
        ap (λ l. outline_with l doubted') (outlines_moved (HasOneMore draft) (λ x y. record x { payloads = y.payloads; end = x.end + (5 + length draft); spare = y.spare }) (λ old new is. ap outline_of is) i olds news more)
        ∙ ap (outline_with _) same) one_more after_ok;
    list = on_ok_then result (λ more told. ap reads_with (lists_then (moved_given (λ log. IsTrue (state log.disk).tells) (λ (old new : PlainLog D). new.payloads ≡ old.payloads ++ draft ∷ []) i olds news (told_logs told) more)))
        (moved_ok result (λ (old new : PlainLog D). IsTrue (state old.disk).tells → new.payloads ≡ old.payloads ++ draft ∷ []) i olds news (moved_weaker _ _ (λ old new c. c.list) i olds news moved));
    in_doubt = on_err_with result (λ doubts now.
        ap (λ l. outline_with l doubted') (outlines_moved (IsInDoubtNow draft) (λ x y. record x { payloads = y.payloads; standing = InDoubt draft }) (λ old new is. ap outline_of is) i olds news doubts)
        ∙ ap (outline_with _) now) in_doubt after_err;
    kept = on_err_then result (λ same told. ap reads_with (lists_kept (moved_given (λ log. IsTrue (state log.disk).tells) (λ (old new : PlainLog D). new.payloads ≡ old.payloads) i olds news (told_logs told) same)))
        (moved_err result (λ (old new : PlainLog D). IsTrue (state old.disk).tells → new.payloads ≡ old.payloads) i olds news (moved_weaker _ _ (λ old new c. c.kept) i olds news moved));
    after = on_err_then result (λ both told. ap reads_with (lists_doubted (moved_given (λ log. IsTrue (state log.disk).tells) (λ (old new : PlainLog D). payloads_after (outline_of new) ≡ old.payloads ++ draft ∷ []) i olds news (told_logs told) both)))
        (moved_err result (λ (old new : PlainLog D). IsTrue (state old.disk).tells → payloads_after (outline_of new) ≡ old.payloads ++ draft ∷ []) i olds news
        (moved_weaker (CommitsLog state draft result) (λ (old new : PlainLog D). OnErr result (IsTrue (state old.disk).tells → payloads_after (outline_of new) ≡ old.payloads ++ draft ∷ [])) (λ old new c. on_err_with result (λ (is : IsInDoubtNow draft old new) (kept : IsTrue (state old.disk).tells → new.payloads ≡ old.payloads) told.
        ap (λ (l : PlainLog D). with_doubted l.standing new.payloads) is ∙ ap (λ l. l ++ draft ∷ []) (kept told)) c.in_doubt c.kept) i olds news moved));
    only_fault = moved_any (CommitsLog state draft result) (λ old new c. c.only_fault) i olds news moved;
    bytes = on_ok_then result (λ written told. bytes_then (moved_given (λ log. IsTrue (state log.disk).tells) (λ (old new : PlainLog D). (state new.disk).seen ≡ with_record_at old.end draft (state old.disk).seen) i olds news (told_logs told) written))
        (moved_ok result (λ (old new : PlainLog D). IsTrue (state old.disk).tells → (state new.disk).seen ≡ with_record_at old.end draft (state old.disk).seen) i olds news (moved_weaker _ _ (λ old new c. c.bytes) i olds news moved));
    any_moment = λ told. keeps_step (WithinAll state) (λ images. IsEither (reads_with (lists olds)) (reads_with (slice_set (lists olds) i (get_or (lists olds) i [] ++ draft ∷ []))) (reads_in images)) before (disks_in m olds) later (disks_in m news) recorded (moments only told);
    images = on_ok_then result (λ same told. rest_read state m news doubted' new (none_doubted doubted' news new.stand (same ∙ none)) (told_then told)) after_ok;
    images_either = on_err result (λ told. either_read state m news doubted' new (told_then told));
    disks = keeps_moved state (suc (suc i)) (disks_in m olds) (disks_in m news) keeps;
    cause = blamed_moved state result (suc (suc i)) (disks_in m olds) (disks_in m news)
        (all_moved (CommitsLog state draft result) (λ d e. log.IsBlamed (state d).faults (state e).faults result) (λ old new c. c.called.cause) m i olds news moved);
  } where
    outline_with : List SlotOutline → Option ℕ → Outline
    outline_with slots d = record { manifest = m.active.payloads; side = m.side; slots = slots; doubted = d }

    reads_with : List (List (List ℕ)) → Reads
    reads_with l = record { manifest = m.active.payloads; slots = l }

  pub commits_to : (only : (disk : D) (image : List ℕ) → (state disk).left_since (state disk).calls image → (state disk).may_leave image) (doubted' : Option ℕ) (before later : List (List D)) (self : PlainDisks D)
      → record { manifest = m; slots = olds; doubted = doubted; past = before } ≡ self
      → OnOk result (doubted' ≡ doubted) → OnErr result (doubted' ≡ Some i) → later ≡ before ++ disks_in m olds ∷ [] → IsDisks state m news doubted'
      → CommitsTo state i draft self (record { manifest = m; slots = news; doubted = doubted'; past = later }) result
  commits_to only doubted' before later self is after_ok after_err recorded new =
      subst (λ (d : PlainDisks D). CommitsTo state i draft d (record { manifest = m; slots = news; doubted = doubted'; past = later }) result) is
      (commits only doubted' before later after_ok after_err recorded new)
