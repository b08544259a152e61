-- All disks are mounted, and at each moment of it images read as at the start, or with the first snapshot.
use Rattle.std.proofs.Common.{◌≡◌, inr, ℕ, suc, ◌-◌, ◌^◌, ◌≤◌, IsTrue, List, [], ◌∷◌, ◌++◌, length, map, None, refl, sym, ap, subst, ◌∙◌, arith}
use Rattle.std.proofs.lemmas.List.{length-map, map-append}
use Rattle.outside.specs.Along.{Along, Keeps, WithinBoth, keeps_and, keeps_step}
use Rattle.outside.specs.DiskModel.{DiskState}
use Rattle.gated_log.specs.PlainLog.{PlainLog, end_of}
use Rattle.pair_log.specs.Mounted.{AreMounting}
use Rattle.pair_log.specs.PlainPair.{PlainPair, both_disks, first_disk, second_disk}
use Rattle.shard_disks.specs.declared.limits.Limits.{Limits}
use Rattle.shard_disks.specs.Images.{KeepsDisks, WithinAll, stays_now, tell_all}
use Rattle.shard_disks.specs.Lists.{EachHas, Pairwise}
use Rattle.shard_disks.specs.Mounting.{IsLogMounted, LastStep, MountsDisks, MountsPair, OnceSynced, ReadsAsBefore}
use Rattle.shard_disks.specs.Outline.{reads_in, reads_of}
use Rattle.shard_disks.specs.PlainDisks.{PlainDisks, behind_pair, disk_of, disks_in, outline, outline_of}
use Rattle.shard_disks.specs.Stands.{IsCounted, IsDisks}
use Rattle.shard_disks.proofs.DiskLemmas.{tell_kept}
use Rattle.shard_disks.proofs.ImageLemmas.{manifest_reads, told_both}
use Rattle.shard_disks.proofs.ListLemmas.{each_mapped}
use Rattle.shard_disks.proofs.MountLemmas.{all_arms, all_bytes, all_ends, all_faults, all_have, all_limits, all_lists, all_move, all_rest, all_since, all_tell, both_before, counted_pair, pair_before, pairs_length, reads_three, slots_before, told_three, told_turned}
use Rattle.shard_disks.proofs.StandLemmas.{rest_read}

three : {A : Type 0} {a b c d : A} {l k : List A} → a ≡ c → b ≡ d → l ≡ k → a ∷ (b ∷ l) ≡ c ∷ (d ∷ k)
three {b = b} {c = c} {d = d} {l = l} {k = k} e f g = ap (λ x. x ∷ (b ∷ l)) e ∙ (ap (λ x. c ∷ (x ∷ l)) f ∙ ap (λ x. c ∷ (d ∷ x)) g)

-- the states of a pair, with the disks behind it
module _ {D : Type 0} (state : D → DiskState) (rest : List D) (Q : List ℕ × List ℕ → Type 0) (P : List (List ℕ) → Type 0)
    (behind : (s t : D × D) (images : List (List ℕ)) → ((both : List ℕ × List ℕ) → WithinBoth state s t both → Q both) → WithinAll state (behind_pair rest s) (behind_pair rest t) images → P images) where
  along_behind : (s : D × D) (xs : List (D × D)) (last : D × D) → Along (WithinBoth state) Q s xs last → Along (WithinAll state) P (behind_pair rest s) (map (behind_pair rest) xs) (behind_pair rest last)
  along_behind s [] last along = ap (behind_pair rest) along
  along_behind s (x ∷ xs) last along = (λ images w. behind s x images along.0 w, along_behind x xs last along.1)

  pub keeps_behind : (s : D × D) (past : List (D × D)) (last : D × D) → Keeps (WithinBoth state) Q [] s past last → Keeps (WithinAll state) P [] (behind_pair rest s) (map (behind_pair rest) past) (behind_pair rest last)
  keeps_behind s past last keeps = record {
    steps = map (behind_pair rest) keeps.steps;
    goes_on = sym (map-append (behind_pair rest) past (last ∷ [])) ∙ ap (map (behind_pair rest)) keeps.goes_on;
    each = along_behind s keeps.steps last keeps.each;
  }

module _ {D : Type 0} (state : D → DiskState) (disks rest : List D) (limits : Limits) (snapshot : List ℕ) (m : PlainPair D) (logs : List (PlainLog D))
    (p : MountsPair state disks rest limits.manifest snapshot m) (mounted : Pairwise (IsLogMounted state limits.slot) rest logs) (ten : length disks ≡ 10)
    (sized : (disk : D) → IsTrue (state disk).tells → (state disk).size ≡ length (state disk).seen) where
  eight : length logs ≡ 8
  eight =
      let same : length logs ≡ length rest = pairs_length (IsLogMounted state limits.slot) rest logs mounted in
      let two : length disks ≡ suc (suc (length rest)) = ap length p.were in
      omega (arith, same, two, ten)

  -- what the value keeps
  pub mounted_disks : IsDisks state m logs None
  mounted_disks = record {
    eight = eight;
    manifest_rests = p.rests;
    stand = all_rest state limits.slot rest logs mounted;
    manifest_has = p.images;
    counted = λ told.
        let turned = told_turned state m.side m.active.disk m.standby.disk told.0 told.1 in
        let first_told : IsTrue (state p.first).tells = sym p.first_tells ∙ turned.0 in
        let second_told : IsTrue (state p.second).tells = sym p.second_tells ∙ turned.1 in
        subst IsCounted (sym (p.list first_told second_told))
        (counted_pair snapshot (state p.first).seen (state p.second).seen (subst (λ n. n ≤ 2 ^ 64 - 1) (sized p.first first_told) p.first_size) (subst (λ n. n ≤ 2 ^ 64 - 1) (sized p.second second_told) p.second_size));
    slots_have = all_have state limits.slot rest logs mounted;
  }

  abbrev made : List (List D) → PlainDisks D
  made later = record { manifest = m; slots = logs; doubted = None; past = later }

  kept : KeepsDisks state (p.first ∷ (p.second ∷ rest)) (disks_in m logs)
  kept = record {
    tells = three p.first_tells p.second_tells (all_tell state limits.slot rest logs mounted);
    arms = three p.first_arms p.second_arms (all_arms state limits.slot rest logs mounted);
  }

  told_then : IsTrue (tell_all state (p.first ∷ (p.second ∷ rest))) → IsTrue (tell_all state (disks_in m logs))
  told_then = tell_kept state (p.first ∷ (p.second ∷ rest)) (disks_in m logs) kept.tells

  module _ (only : (disk : D) (image : List ℕ) → (state disk).left_since (state disk).calls image → (state disk).may_leave image)
      (image_now : (disk : D) → IsTrue (state disk).tells → (state disk).may_leave (state disk).seen) (told : IsTrue (tell_all state (p.first ∷ (p.second ∷ rest)))) where
    told_first : IsTrue (state p.first).tells
    told_first = (told_three state p.first p.second rest told).0

    told_second : IsTrue (state p.second).tells
    told_second = (told_three state p.first p.second rest told).1

    told_rest : EachHas (λ d. IsTrue (state d).tells) rest
    told_rest = (told_three state p.first p.second rest told).2

    -- the pair moves, and the others stay
    pair_moves : (s t : D × D) (images : List (List ℕ)) → ((both : List ℕ × List ℕ) → WithinBoth state s t both → AreMounting (state p.first) (state p.second) snapshot both)
        → WithinAll state (behind_pair rest s) (behind_pair rest t) images → ReadsAsBefore state (p.first ∷ (p.second ∷ rest)) snapshot images
    pair_moves s t [] mounting w = absurd w
    pair_moves s t (a ∷ []) mounting w = absurd w.1
    pair_moves s t (a ∷ (b ∷ images)) mounting w = both_before state p.first p.second rest snapshot a b images
        (pair_before (state p.first) (state p.second) snapshot (image_now p.first told_first) (image_now p.second told_second) a b (mounting (a, b) (w.0, w.1.0)))
        (record { before = images; left = stays_now state only rest images w.1.1; reads = refl })

    -- then the slots move, and the pair stays
    slots_move : (images : List (List ℕ)) → WithinAll state (first_disk m ∷ (second_disk m ∷ rest)) (disks_in m logs) images → ReadsAsBefore state (p.first ∷ (p.second ∷ rest)) snapshot images
    slots_move [] w = absurd w
    slots_move (a ∷ []) w = absurd w.1
    slots_move (a ∷ (b ∷ images)) w = both_before state p.first p.second rest snapshot a b images
        (record {
          first_before = (state p.first).seen;
          second_before = (state p.second).seen;
          first_left = image_now p.first told_first;
          second_left = image_now p.second told_second;
          reads = inr (manifest_reads state m p.images p.rests (told_both state m logs (told_then told)).0 a b (only (first_disk m) a w.0) (only (second_disk m) b w.1.0) ∙ p.list told_first told_second);
        })
        (slots_before state image_now rest (map disk_of logs) images told_rest (all_move state limits.slot rest logs mounted told_rest) w.1.1)

    moments : (later : List (List D)) → later ≡ map (behind_pair rest) m.past ++ (first_disk m ∷ (second_disk m ∷ rest)) ∷ []
        → Keeps (WithinAll state) (ReadsAsBefore state (p.first ∷ (p.second ∷ rest)) snapshot) [] (p.first ∷ (p.second ∷ rest)) later (disks_in m logs)
    moments later recorded =
        keeps_and (WithinAll state) (ReadsAsBefore state (p.first ∷ (p.second ∷ rest)) snapshot) [] (p.first ∷ (p.second ∷ rest)) (map (behind_pair rest) m.past) (first_disk m ∷ (second_disk m ∷ rest)) later (disks_in m logs)
        (keeps_behind state rest (AreMounting (state p.first) (state p.second) snapshot) (ReadsAsBefore state (p.first ∷ (p.second ∷ rest)) snapshot) pair_moves (p.first, p.second) m.past (both_disks m) (p.any_moment told_first told_second))
        (keeps_step (WithinAll state) (ReadsAsBefore state (p.first ∷ (p.second ∷ rest)) snapshot) (map (behind_pair rest) m.past) (first_disk m ∷ (second_disk m ∷ rest)) later (disks_in m logs) recorded slots_move)

    -- once each disk was synced
    slots_synced : (images : List (List ℕ)) → OnceSynced state (first_disk m ∷ (second_disk m ∷ rest)) (disks_in m logs) images → reads_in images ≡ reads_of (outline (made []))
    slots_synced [] w = absurd w
    slots_synced (a ∷ []) w = absurd w
    slots_synced (a ∷ (b ∷ images)) w = reads_three
        (manifest_reads state m p.images p.rests (told_both state m logs (told_then told)).0 a b (only (first_disk m) a w.0) (only (second_disk m) b w.1))
        (all_since state limits.slot rest logs mounted told_rest images w.2)

    last : (later : List (List D)) → later ≡ map (behind_pair rest) m.past ++ (first_disk m ∷ (second_disk m ∷ rest)) ∷ []
        → LastStep state (p.first ∷ (p.second ∷ rest)) (reads_of (outline (made later))) later (disks_in m logs)
    last later recorded = record {
      earlier = map (behind_pair rest) m.past;
      begun = first_disk m ∷ (second_disk m ∷ rest);
      recorded = recorded;
      untouched = refl;
      synced = slots_synced;
    }

  pub mounts : (only : (disk : D) (image : List ℕ) → (state disk).left_since (state disk).calls image → (state disk).may_leave image)
      (image_now : (disk : D) → IsTrue (state disk).tells → (state disk).may_leave (state disk).seen) (later : List (List D))
      → later ≡ map (behind_pair rest) m.past ++ (first_disk m ∷ (second_disk m ∷ rest)) ∷ []
      → MountsDisks state disks limits snapshot (made later)
  mounts only image_now later recorded = subst (λ ds. MountsDisks state ds limits snapshot (made later)) (sym p.were) (record {
    list = λ told.
        let t = told_three state p.first p.second rest told in
        reads_three (p.list t.0 t.1) (all_lists state limits.slot rest logs mounted t.2);
    ends = λ told. each_mapped outline_of (λ slot. slot.end ≡ end_of slot.payloads) logs (all_ends state limits.slot rest logs mounted (told_three state p.first p.second rest told).2);
    side = λ told. let t = told_three state p.first p.second rest told in p.side t.0 t.1;
    rests = refl;
    eight = length-map logs outline_of ∙ eight;
    slot_limits = each_mapped outline_of (λ slot. slot.limit ≡ limits.slot) logs (all_limits state limits.slot rest logs mounted);
    first_limit_kept = p.first_limit_kept;
    second_limit_kept = p.second_limit_kept;
    bytes = λ told.
        let t = told_three state p.first p.second rest told in
        three (p.first_bytes t.0 t.1) (p.second_bytes t.1) (all_bytes state limits.slot rest logs mounted t.2);
    images = λ told. rest_read state m logs None mounted_disks (all_rest state limits.slot rest logs mounted) (told_then told);
    any_moment = λ told. moments only image_now told later recorded;
    last_step = λ told. last only image_now told later recorded;
    kept = kept;
    faults = three p.first_faults p.second_faults (all_faults state limits.slot rest logs mounted);
  })
