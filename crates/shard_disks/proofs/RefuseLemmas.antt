-- A mount is refused, and all disks are handed back.
use Rattle.std.proofs.Common.{◌≡◌, ◌⊎◌, inl, inr, ℕ, suc, ◌+◌, ◌<◌, ◌≤◌, IsTrue, List, [], ◌∷◌, ◌++◌, length, map, take, drop, Vec, refl, sym, ap, subst, ◌∙◌, arith, length-append}
use Rattle.std.proofs.lemmas.List.{length-map}
use Rattle.std.specs.declared.alloc.Global.{Global}
use Rattle.std.specs.Int.{w32, to_be_bytes}
use Rattle.outside.specs.Along.{WithinBoth, left_between}
use Rattle.outside.specs.DiskModel.{DiskState, Torn, leaves_only_at_first}
use Rattle.outside.specs.Torn.{torn_same, torn_written}
use Rattle.gated_log.specs.Calls.{IsRepaired, IsUnsynced, with_record}
use Rattle.gated_log.specs.Closing.{IsGateTorn}
use Rattle.gated_log.specs.PlainLog.{PlainLog, end_of}
use Rattle.gated_log.specs.Records.{body_bytes, records}
use Rattle.gated_log.specs.declared.refused.LogRefused.{LogRefused}
use Rattle.gated_log.specs.declared.refused.LogRefused.TheVariants.{Memory}
use Rattle.pair_log.specs.declared.side.Side.{Side}
use Rattle.pair_log.specs.declared.side.Side.TheVariants.{First, Second}
use Rattle.pair_log.specs.Epochs.{read_pair}
use Rattle.pair_log.specs.Mounted.{AreMounting, IsBlamedOn, IsMountTorn, IsMounting, first_record, mounted_first}
use Rattle.pair_log.specs.PlainPair.{PlainPair, both_disks, first_disk, second_disk}
use Rattle.pair_log.specs.Sides.{number_of}
use Rattle.shard_disks.specs.Blame.{IsBlamedAt}
use Rattle.shard_disks.specs.Images.{MayLeaveAll, WithinAll, arms_of, faults_of, seen_of, stays_now, tell_all, tells_of}
use Rattle.shard_disks.specs.Lists.{EachHas, Pairwise}
use Rattle.shard_disks.specs.Mounting.{AreBehindSync, AreMountTorn, IsLogMounted, IsLogRefused, IsStopped, MountsPair, OnceSynced, ReadsAsBefore, RefusesDisks, RefusesPair, none_behind}
use Rattle.shard_disks.specs.Outline.{reads_in, with_first}
use Rattle.shard_disks.specs.PlainDisks.{disk_of, disks_in}
use Rattle.shard_disks.proofs.ListLemmas.{pairs_same}
use Rattle.shard_disks.proofs.HistoryLemmas.{step_of}
use Rattle.shard_disks.proofs.ImageLemmas.{manifest_reads, told_of}
use Rattle.shard_disks.proofs.MountLemmas.{PairBefore, Remounts, both_before, pair_before, pairs_length, reads_three, slots_before, slots_now, slots_since, told_three}

-- ---- bytes

same_torn : (snapshot : List ℕ) (first second : List (List ℕ)) (bytes : List ℕ) → IsMountTorn snapshot first second bytes bytes
same_torn snapshot [] [] bytes = torn_same 0 (6 + length (first_record snapshot)) bytes
same_torn snapshot [] (y ∷ ys) bytes = inl refl
same_torn snapshot (x ∷ xs) [] bytes = inl refl
same_torn snapshot (x ∷ xs) (y ∷ ys) bytes = inl refl

record_torn : (payload bytes : List ℕ) → Torn 0 (6 + length payload) bytes (with_record 0 payload bytes)
record_torn payload bytes =
    let long : length (1 ∷ body_bytes payload) ≡ 6 + length payload =
    (let body : length (body_bytes payload) ≡ 4 + length (payload ++ 0 ∷ []) = length-append (to_be_bytes w32 (length payload)) (payload ++ 0 ∷ []) in
    omega (arith, body, length-append payload (0 ∷ []))) in
    subst (Torn 0 (6 + length payload) bytes) (ap (λ n. take 0 bytes ++ (1 ∷ body_bytes payload) ++ drop (0 + n) bytes) long)
    (torn_written 0 (6 + length payload) (1 ∷ body_bytes payload) bytes (omega (arith, long)) (omega arith))

mounted_torn : (snapshot : List ℕ) (first second : List (List ℕ)) (old new : List ℕ) → new ≡ mounted_first snapshot first second old → IsMountTorn snapshot first second old new
mounted_torn snapshot [] [] old new e = subst (Torn 0 (6 + length (first_record snapshot)) old) (sym e) (record_torn (first_record snapshot) old)
mounted_torn snapshot [] (y ∷ ys) old new e = inr (0, e)
mounted_torn snapshot (x ∷ xs) [] old new e = inr (0, e)
mounted_torn snapshot (x ∷ xs) (y ∷ ys) old new e = inr (0, e)

abbrev pub GateTorn : List ℕ → List ℕ → Type 0
GateTorn old new = IsGateTorn (end_of (records old)) old new

rest_torn : (bytes : List (List ℕ)) → Pairwise GateTorn bytes bytes
rest_torn bytes = pairs_same GateTorn (λ b. inl refl) bytes

-- ---- what a disk gives

abbrev pub OnlyNow : {D : Type 0} → (D → DiskState) → Type 0
OnlyNow {D} state = (disk : D) (image : List ℕ) → (state disk).left_since (state disk).calls image → (state disk).may_leave image

abbrev pub ReadsAsImage : {D : Type 0} → (D → DiskState) → Type 0
ReadsAsImage {D} state = (disk : D) → IsTrue (state disk).tells → (state disk).may_leave (state disk).seen

abbrev pub CountsNow : {D : Type 0} → (D → DiskState) → Type 0
CountsNow {D} state = (disk : D) (t : ℕ) (image : List ℕ) → t ≤ (state disk).calls → (state disk).may_leave image → (state disk).left_since t image

-- ---- nothing was mounted

pub none_mounted : {D : Type 0} (state : D → DiskState) → OnlyNow state → (snapshot : List ℕ) (disks : Vec D Global) → length disks.items ≡ 10 → RefusesDisks state disks.items snapshot (disks, 0, Memory)
none_mounted state only snapshot disks ten = record {
  ten = ten;
  place = omega arith;
  never_full = λ e. cc;
  cause = blamed disks.items ten;
  kept = record { tells = refl; arms = refl };
  bytes = λ told. torn disks.items ten;
  any_moment = λ told images w. record { before = images; left = stays_now state only disks.items images w; reads = inl refl };
  images = λ told images left. record { before = images; left = left; reads = inl refl };
  synced = λ told behind images w. absurd (none_behind state disks.items (omega (arith, ten)) behind);
} where
  blamed : (ds : List _) → length ds ≡ 10 → IsBlamedAt 0 Memory (faults_of state ds) (faults_of state ds)
  blamed [] e = absurd (omega (arith, e))
  blamed (d ∷ ds) e = (record { later = omega arith; fault = λ f. cc; kept = λ f. refl }, refl)

  torn : (ds : List _) → length ds ≡ 10 → AreMountTorn snapshot (seen_of state ds) (seen_of state ds)
  torn [] e = absurd (omega (arith, e))
  torn (a ∷ []) e = absurd (omega (arith, e))
  torn (a ∷ (b ∷ ds)) e = (same_torn snapshot (records (state a).seen) (records (state b).seen) (state a).seen, inl refl, rest_torn (seen_of state ds))

-- ---- the manifest was refused

pair_blamed : (side : Side) (why : LogRefused) (first second first_now second_now : ℕ) (rest : List ℕ) → IsBlamedOn side why first second first_now second_now
    → IsBlamedAt (number_of side) why (first ∷ (second ∷ rest)) (first_now ∷ (second_now ∷ rest))
pair_blamed First why first second first_now second_now rest b = (b.0, ap (λ n. n ∷ rest) b.1)
pair_blamed Second why first second first_now second_now rest b = (b.0, (b.1, refl))

side_below : (side : Side) → number_of side < 10
side_below First = omega arith
side_below Second = omega arith

both_kept : {D E : Type 0} (f : D → E) (a b c d : D) (rest : List D) → f c ≡ f a → f d ≡ f b → map f (c ∷ (d ∷ rest)) ≡ map f (a ∷ (b ∷ rest))
both_kept f a b c d rest e g = ap (λ x. x ∷ (f d ∷ map f rest)) e ∙ ap (λ x. f a ∷ (x ∷ map f rest)) g

pub pair_refused : {D : Type 0} (state : D → DiskState) → OnlyNow state → ReadsAsImage state → CountsNow state → (snapshot : List ℕ) (disks : List D) (now : Vec D Global) (place : ℕ) (why : LogRefused) → length disks ≡ 10
    → RefusesPair state disks now.items snapshot place why → RefusesDisks state disks snapshot (now, place, why)
pair_refused {D = D} state only image_now counts snapshot disks now place why ten r =
    let two : length disks ≡ suc (suc (length r.rest)) = ap length r.were in
    let two_now : length now.items ≡ suc (suc (length r.rest)) = ap length r.are in
    record {
      ten = omega (arith, ten, two, two_now);
      place = subst (λ n. n < 10) (sym r.place_is) (side_below r.side);
      never_full = r.never_full;
      cause = subst (λ ds. IsBlamedAt place why (faults_of state ds) (faults_of state now.items)) (sym r.were)
          (subst (λ ds. IsBlamedAt place why (faults_of state (r.first ∷ (r.second ∷ r.rest))) (faults_of state ds)) (sym r.are)
          (subst (λ n. IsBlamedAt n why (faults_of state (r.first ∷ (r.second ∷ r.rest))) (faults_of state (r.first_now ∷ (r.second_now ∷ r.rest)))) (sym r.place_is)
          (pair_blamed r.side why (state r.first).faults (state r.second).faults (state r.first_now).faults (state r.second_now).faults (faults_of state r.rest) r.blame)));
      kept = record {
        tells = ap (tells_of state) r.are ∙ (both_kept (λ d. (state d).tells) r.first r.second r.first_now r.second_now r.rest r.first_tells r.second_tells ∙ ap (tells_of state) (sym r.were));
        arms = ap (arms_of state) r.are ∙ (both_kept (λ d. (state d).arms) r.first r.second r.first_now r.second_now r.rest r.first_arms r.second_arms ∙ ap (arms_of state) (sym r.were));
      };
      bytes = subst (λ ds. IsTrue (tell_all state ds) → AreMountTorn snapshot (seen_of state ds) (seen_of state now.items)) (sym r.were)
          (λ told. subst (λ ds. AreMountTorn snapshot (seen_of state (r.first ∷ (r.second ∷ r.rest))) (seen_of state ds)) (sym r.are) (torn told));
      any_moment = subst (λ ds. IsTrue (tell_all state ds) → (images : List (List ℕ)) → WithinAll state ds now.items images → ReadsAsBefore state ds snapshot images) (sym r.were)
          (λ told. subst (λ ds. (images : List (List ℕ)) → WithinAll state (r.first ∷ (r.second ∷ r.rest)) ds images → ReadsAsBefore state (r.first ∷ (r.second ∷ r.rest)) snapshot images) (sym r.are) (moves told));
      images = subst (λ ds. IsTrue (tell_all state ds) → (images : List (List ℕ)) → MayLeaveAll state now.items images → ReadsAsBefore state ds snapshot images) (sym r.were)
          (λ told. subst (λ ds. (images : List (List ℕ)) → MayLeaveAll state ds images → ReadsAsBefore state (r.first ∷ (r.second ∷ r.rest)) snapshot images) (sym r.are) (left_now told));
      synced = λ told behind images w. absurd (none_behind state (r.first ∷ (r.second ∷ r.rest)) (omega (arith, ten, two))
          (subst (λ ds. AreBehindSync state ds (r.first ∷ (r.second ∷ r.rest))) r.were (subst (λ ds. AreBehindSync state disks ds) r.are behind)));
    }
  where
    pair_as : IsTrue (state r.first).tells → IsTrue (state r.second).tells → (a b : List ℕ) → left_between state r.first r.first_now a → left_between state r.second r.second_now b
        → PairBefore (state r.first) (state r.second) snapshot (read_pair a b)
    pair_as first second a b left right =
        pair_before (state r.first) (state r.second) snapshot (image_now r.first first) (image_now r.second second) a b ((r.first_moments first second).each a left, (r.second_moments second).each b right)

    moves : IsTrue (tell_all state (r.first ∷ (r.second ∷ r.rest))) → (images : List (List ℕ)) → WithinAll state (r.first ∷ (r.second ∷ r.rest)) (r.first_now ∷ (r.second_now ∷ r.rest)) images
        → ReadsAsBefore state (r.first ∷ (r.second ∷ r.rest)) snapshot images
    moves told [] w = absurd w
    moves told (a ∷ []) w = absurd w.1
    moves told (a ∷ (b ∷ images)) w =
        let t = told_three state r.first r.second r.rest told in
        both_before state r.first r.second r.rest snapshot a b images (pair_as t.0 t.1 a b w.0 w.1.0) (record { before = images; left = stays_now state only r.rest images w.1.1; reads = refl })

    left_now : IsTrue (tell_all state (r.first ∷ (r.second ∷ r.rest))) → (images : List (List ℕ)) → MayLeaveAll state (r.first_now ∷ (r.second_now ∷ r.rest)) images
        → ReadsAsBefore state (r.first ∷ (r.second ∷ r.rest)) snapshot images
    left_now told [] left = absurd left
    left_now told (a ∷ []) left = absurd left.1
    left_now told (a ∷ (b ∷ images)) left =
        let t = told_three state r.first r.second r.rest told in
        both_before state r.first r.second r.rest snapshot a b images
        (pair_as t.0 t.1 a b (counts r.first_now (state r.first).calls a (r.first_moments t.0 t.1).later left.0) (counts r.second_now (state r.second).calls b (r.second_moments t.1).later left.1.0))
        (record { before = images; left = left.1.1; reads = refl })

    torn : IsTrue (tell_all state (r.first ∷ (r.second ∷ r.rest))) → AreMountTorn snapshot (seen_of state (r.first ∷ (r.second ∷ r.rest))) (seen_of state (r.first_now ∷ (r.second_now ∷ r.rest)))
    torn told =
        let t = told_three state r.first r.second r.rest told in
        (r.first_torn t.0 t.1, r.second_torn t.1, rest_torn (seen_of state r.rest))

-- ---- a slot was refused

module _ {D : Type 0} (state : D → DiskState) (limit : ℕ) (disk now : D) (rest : List D) (why : LogRefused) (refused : IsLogRefused state disk (now, why)) where
  kept_behind : {E : Type 0} (f : D → E) → f now ≡ f disk → ((d : D) (log : PlainLog D) → IsLogMounted state limit d log → f log.disk ≡ f d) → (before : List D) (logs : List (PlainLog D))
      → Pairwise (IsLogMounted state limit) before logs → map f (map disk_of logs ++ now ∷ rest) ≡ map f (before ++ disk ∷ rest)
  kept_behind f here same [] [] p = ap (λ x. x ∷ map f rest) here
  kept_behind f here same [] (log ∷ logs) p = absurd p
  kept_behind f here same (d ∷ before) [] p = absurd p
  kept_behind f here same (d ∷ before) (log ∷ logs) p = ap (λ x. x ∷ map f (map disk_of logs ++ now ∷ rest)) (same d log p.0) ∙ ap (λ l. f d ∷ l) (kept_behind f here same before logs p.1)

  blamed_behind : (before : List D) (logs : List (PlainLog D)) → Pairwise (IsLogMounted state limit) before logs
      → IsBlamedAt (length logs) why (faults_of state (before ++ disk ∷ rest)) (faults_of state (map disk_of logs ++ now ∷ rest))
  blamed_behind [] [] p = (refused.cause, refl)
  blamed_behind [] (log ∷ logs) p = absurd p
  blamed_behind (d ∷ before) [] p = absurd p
  blamed_behind (d ∷ before) (log ∷ logs) p = (p.0.faults, blamed_behind before logs p.1)

  torn_behind : (before : List D) (logs : List (PlainLog D)) → Pairwise (IsLogMounted state limit) before logs → EachHas (λ d. IsTrue (state d).tells) (before ++ disk ∷ rest)
      → Pairwise GateTorn (seen_of state (before ++ disk ∷ rest)) (seen_of state (map disk_of logs ++ now ∷ rest))
  torn_behind [] [] p told = (refused.mounting.bytes told.0, rest_torn (seen_of state rest))
  torn_behind [] (log ∷ logs) p told = absurd p
  torn_behind (d ∷ before) [] p told = absurd p
  torn_behind (d ∷ before) (log ∷ logs) p told = (p.0.mounting.bytes told.0, torn_behind before logs p.1 told.1)

  moved_behind : OnlyNow state → (before : List D) (logs : List (PlainLog D)) → Pairwise (IsLogMounted state limit) before logs → EachHas (λ d. IsTrue (state d).tells) (before ++ disk ∷ rest)
      → Pairwise (Remounts state) (before ++ disk ∷ rest) (map disk_of logs ++ now ∷ rest)
  moved_behind only [] [] p told =
      (refused.mounting.moments told.0, pairs_same (Remounts state) (λ d. leaves_only_at_first (state d) (IsMounting (state d).may_leave (records (state d).seen)) (only d) (λ image left. inl left)) rest)
  moved_behind only [] (log ∷ logs) p told = absurd p
  moved_behind only (d ∷ before) [] p told = absurd p
  moved_behind only (d ∷ before) (log ∷ logs) p told = (p.0.mounting.moments told.0, moved_behind only before logs p.1 told.1)

  -- whose sync was done
  repaired_behind : (before : List D) (logs : List (PlainLog D)) → Pairwise (IsLogMounted state limit) before logs → EachHas (λ d. IsTrue (state d).tells) (before ++ disk ∷ rest)
      → Pairwise (λ d e. (state d).calls + 2 ≤ (state e).calls) (before ++ disk ∷ rest) (map disk_of logs ++ now ∷ rest)
      → Pairwise (λ d e. IsRepaired (state d) (state e)) (before ++ disk ∷ rest) (map disk_of logs ++ now ∷ rest)
  repaired_behind [] [] p told behind = (by (refused.mounting.phases told.0), none rest behind.1)
    where
      by : IsUnsynced (state disk) (state now) ⊎ IsRepaired (state disk) (state now) → IsRepaired (state disk) (state now)
      by (inl unsynced) = absurd (omega (arith, unsynced.0, behind.0))
      by (inr repaired) = repaired

      none : (ds : List D) → Pairwise (λ d e. (state d).calls + 2 ≤ (state e).calls) ds ds → Pairwise (λ d e. IsRepaired (state d) (state e)) ds ds
      none [] b = tt
      none (d ∷ ds) b = absurd (omega (arith, b.0))
  repaired_behind [] (log ∷ logs) p told behind = absurd p
  repaired_behind (d ∷ before) [] p told behind = absurd p
  repaired_behind (d ∷ before) (log ∷ logs) p told behind = (p.0.repaired told.0, repaired_behind before logs p.1 told.1 behind.1)

pub slot_refused : {D : Type 0} (state : D → DiskState) → OnlyNow state → ReadsAsImage state → CountsNow state → (snapshot : List ℕ) (disks rest later : List D) (manifest_limit limit : ℕ) (m : PlainPair D) (logs : List (PlainLog D)) (now : D) (why : LogRefused) (back : Vec D Global)
    → length disks ≡ 10 → MountsPair state disks rest manifest_limit snapshot m → IsStopped state limit rest later logs (now, why) → back.items ≡ disks_in m logs ++ now ∷ later
    → RefusesDisks state disks snapshot (back, 2 + length logs, why)
slot_refused {D = D} state only image_now counts snapshot disks rest later manifest_limit limit m logs now why back ten p s back_is =
    subst (λ ds. RefusesDisks state ds snapshot (back, 2 + length logs, why)) (sym were) (record {
      ten = omega (arith, ten, long_were, long_back, many);
      place = omega (arith, ten, long_were, many);
      never_full = s.why.never_full;
      cause = subst (λ ds. IsBlamedAt (2 + length logs) why (faults_of state (p.first ∷ (p.second ∷ (s.before ++ s.disk ∷ later)))) (faults_of state ds)) (sym back_is)
          (subst (λ n. IsBlamedAt n why (faults_of state (p.first ∷ (p.second ∷ (s.before ++ s.disk ∷ later)))) (faults_of state (disks_in m logs ++ now ∷ later))) two_more
          (p.first_faults, (p.second_faults, blamed_behind state limit s.disk now later why s.why s.before logs s.mounted)));
      kept = record {
        tells = ap (tells_of state) back_is ∙ kept_all (λ d. (state d).tells) p.first_tells p.second_tells s.why.mounting.tells (λ d log c. c.mounting.tells);
        arms = ap (arms_of state) back_is ∙ kept_all (λ d. (state d).arms) p.first_arms p.second_arms s.why.mounting.arms (λ d log c. c.mounting.arms);
      };
      bytes = λ told. subst (λ ds. AreMountTorn snapshot (seen_of state (p.first ∷ (p.second ∷ (s.before ++ s.disk ∷ later)))) (seen_of state ds)) (sym back_is) (torn told);
      any_moment = λ told. subst (λ ds. (images : List (List ℕ)) → WithinAll state (p.first ∷ (p.second ∷ slots)) ds images → ReadsAsBefore state (p.first ∷ (p.second ∷ slots)) snapshot images) (sym back_is) (moves told);
      images = λ told. subst (λ ds. (images : List (List ℕ)) → MayLeaveAll state ds images → ReadsAsBefore state (p.first ∷ (p.second ∷ slots)) snapshot images) (sym back_is) (left_now told);
      synced = λ told. subst (λ ds. AreBehindSync state (p.first ∷ (p.second ∷ slots)) ds → (images : List (List ℕ)) → OnceSynced state (take 2 ds ++ slots) ds images
          → reads_in images ≡ with_first snapshot (reads_in (seen_of state (p.first ∷ (p.second ∷ slots))))) (sym back_is) (once_synced told);
    })
  where
    slots : List D
    slots = s.before ++ s.disk ∷ later

    moved : EachHas (λ d. IsTrue (state d).tells) slots → Pairwise (Remounts state) slots (map disk_of logs ++ now ∷ later)
    moved told = moved_behind state limit s.disk now later why s.why only s.before logs s.mounted told

    moves : IsTrue (tell_all state (p.first ∷ (p.second ∷ slots))) → (images : List (List ℕ)) → WithinAll state (p.first ∷ (p.second ∷ slots)) (disks_in m logs ++ now ∷ later) images
        → ReadsAsBefore state (p.first ∷ (p.second ∷ slots)) snapshot images
    moves told [] w = absurd w
    moves told (a ∷ []) w = absurd w.1
    moves told (a ∷ (b ∷ images)) w =
        let t = told_three state p.first p.second slots told in
        both_before state p.first p.second slots snapshot a b images
        (pair_before (state p.first) (state p.second) snapshot (image_now p.first t.0) (image_now p.second t.1) a b
        (step_of (WithinBoth state) (AreMounting (state p.first) (state p.second) snapshot) [] (p.first, p.second) m.past (both_disks m) p.past (p.any_moment t.0 t.1) (a, b) (w.0, w.1.0)))
        (slots_before state image_now slots (map disk_of logs ++ now ∷ later) images t.2 (moved t.2) w.1.1)

    left_now : IsTrue (tell_all state (p.first ∷ (p.second ∷ slots))) → (images : List (List ℕ)) → MayLeaveAll state (disks_in m logs ++ now ∷ later) images
        → ReadsAsBefore state (p.first ∷ (p.second ∷ slots)) snapshot images
    left_now told [] left = absurd left
    left_now told (a ∷ []) left = absurd left.1
    left_now told (a ∷ (b ∷ images)) left =
        let t = told_three state p.first p.second slots told in
        both_before state p.first p.second slots snapshot a b images
        (record {
          first_before = (state p.first).seen;
          second_before = (state p.second).seen;
          first_left = image_now p.first t.0;
          second_left = image_now p.second t.1;
          reads = inr (manifest_reads state m p.images p.rests (told_of state m.side m.active.disk m.standby.disk (p.first_tells ∙ t.0) (p.second_tells ∙ t.1)) a b left.0 left.1.0 ∙ p.list t.0 t.1);
        })
        (slots_before state image_now slots (map disk_of logs ++ now ∷ later) images t.2 (moved t.2) (slots_now state counts slots (map disk_of logs ++ now ∷ later) images (moved t.2) left.1.1))

    once_synced : IsTrue (tell_all state (p.first ∷ (p.second ∷ slots))) → AreBehindSync state (p.first ∷ (p.second ∷ slots)) (disks_in m logs ++ now ∷ later) → (images : List (List ℕ))
        → OnceSynced state (first_disk m ∷ (second_disk m ∷ slots)) (disks_in m logs ++ now ∷ later) images → reads_in images ≡ with_first snapshot (reads_in (seen_of state (p.first ∷ (p.second ∷ slots))))
    once_synced told behind [] w = absurd w
    once_synced told behind (a ∷ []) w = absurd w
    once_synced told behind (a ∷ (b ∷ images)) w =
        let t = told_three state p.first p.second slots told in
        reads_three
        (manifest_reads state m p.images p.rests (told_of state m.side m.active.disk m.standby.disk (p.first_tells ∙ t.0) (p.second_tells ∙ t.1)) a b (only (first_disk m) a w.0) (only (second_disk m) b w.1) ∙ p.list t.0 t.1)
        (slots_since state slots (map disk_of logs ++ now ∷ later) images (repaired_behind state limit s.disk now later why s.why s.before logs s.mounted t.2 behind) w.2)

    were : disks ≡ p.first ∷ (p.second ∷ (s.before ++ s.disk ∷ later))
    were = p.were ∙ ap (λ l. p.first ∷ (p.second ∷ l)) s.were

    many : length logs ≡ length s.before
    many = pairs_length (IsLogMounted state limit) s.before logs s.mounted

    long_were : length disks ≡ suc (suc (length s.before + suc (length later)))
    long_were = ap length were ∙ ap (λ n. suc (suc n)) (length-append s.before (s.disk ∷ later))

    long_back : length back.items ≡ suc (suc (length logs + suc (length later)))
    long_back = ap length back_is ∙ ap (λ n. suc (suc n)) (length-append (map disk_of logs) (now ∷ later) ∙ ap (λ n. n + suc (length later)) (length-map logs disk_of))

    two_more : suc (suc (length logs)) ≡ 2 + length logs
    two_more = omega arith

    kept_all : {E : Type 0} (f : D → E) → f (first_disk m) ≡ f p.first → f (second_disk m) ≡ f p.second → f now ≡ f s.disk → ((d : D) (log : PlainLog D) → IsLogMounted state limit d log → f log.disk ≡ f d)
        → map f (disks_in m logs ++ now ∷ later) ≡ map f (p.first ∷ (p.second ∷ (s.before ++ s.disk ∷ later)))
    kept_all f first second here same =
        ap (λ x. x ∷ (f (second_disk m) ∷ map f (map disk_of logs ++ now ∷ later))) first
        ∙ (ap (λ x. f p.first ∷ (x ∷ map f (map disk_of logs ++ now ∷ later))) second
        ∙ ap (λ l. f p.first ∷ (f p.second ∷ l)) (kept_behind state limit s.disk now later why s.why f here same s.before logs s.mounted))

    torn : IsTrue (tell_all state (p.first ∷ (p.second ∷ (s.before ++ s.disk ∷ later))))
        → AreMountTorn snapshot (seen_of state (p.first ∷ (p.second ∷ (s.before ++ s.disk ∷ later)))) (seen_of state (disks_in m logs ++ now ∷ later))
    torn told =
        let t = told_three state p.first p.second (s.before ++ s.disk ∷ later) told in (
          mounted_torn snapshot (records (state p.first).seen) (records (state p.second).seen) (state p.first).seen (state (first_disk m)).seen (p.first_bytes t.0 t.1),
          inr (0, p.second_bytes t.1),
          torn_behind state limit s.disk now later why s.why s.before logs s.mounted t.2,
        )

-- how many logs there are then
pub logs_then : {D : Type 0} (state : D → DiskState) (snapshot : List ℕ) (disks rest later : List D) (manifest_limit limit : ℕ) (m : PlainPair D) (logs : List (PlainLog D)) (refused : D × LogRefused)
    → length disks ≡ 10 → MountsPair state disks rest manifest_limit snapshot m → IsStopped state limit rest later logs refused → length logs + (1 + length later) ≡ 8
logs_then state snapshot disks rest later manifest_limit limit m logs refused ten p s =
    let many : length logs ≡ length s.before = pairs_length (IsLogMounted state limit) s.before logs s.mounted in
    let two : length disks ≡ suc (suc (length rest)) = ap length p.were in
    let all : length rest ≡ length s.before + suc (length later) = ap length s.were ∙ length-append s.before (s.disk ∷ later) in
    omega (arith, many, two, all, ten)
