-- A rewrite, from the restart of the standby log to its commit.
use Rattle.std.proofs.Common.{ℕ, suc, ◌+◌, ◌++◌, drop, arith, true, ◌^◌, ◌<◌, ◌≡◌, inl, inr, List, [], ◌∷◌, length, take, refl, sym, ap, subst, ◌∙◌}
use Rattle.std.specs.Int.{w64, to_be_bytes}
use Rattle.gated_log.specs.declared.refused.LogRefused.{LogRefused}
use Rattle.gated_log.specs.declared.refused.LogRefused.TheVariants.{Fault, Full, Memory}
use Rattle.std.proofs.lemmas.List.{drop-drop}
use Rattle.gated_log.specs.Calls.{with_record}
use Rattle.gated_log.specs.Closing.{HasOldList, with_gate}
use Rattle.gated_log.specs.PlainLog.{AllHave, AtRest, HasList, InDoubt, Lost, PlainLog, is_in_doubt, with_doubted}
use Rattle.outside.specs.DiskModel.{DiskState}
use Rattle.gated_log.specs.Records.{body_bytes, records}
use Rattle.pair_log.specs.declared.side.Side.{Side}
use Rattle.pair_log.specs.declared.side.Side.TheVariants.{First, Second}
use Rattle.pair_log.specs.declared.doubt.Doubt.TheVariants.{Nothing, Rewrite, Restart}
use Rattle.pair_log.specs.Epochs.{epoch_of, next_epoch}
use Rattle.pair_log.specs.PlainPair.{AllOlder, AllRead, IsEither, IsNewOrOlder, IsPair, PlainPair, StandsSo, Told, after_doubt, counts, head_of}
use Rattle.pair_log.specs.Sides.{first_of, other_side, second_of}
use Rattle.pair_log.proofs.PairLemmas.{counts_alone, doubt_reads, has_read, older, pair_leaves, read_as, reads_standby}
use Rattle.pair_log.proofs.TurnLemmas.{epoch_spelled, next_counts, next_fits, nothing_there, turned}

-- the standby two are excluded
pub only_fault : (refused : LogRefused) → (refused ≡ Full → ⊥) → (refused ≡ Memory → ⊥) → refused ≡ Fault
only_fault Full full memory = absurd (full refl)
only_fault Fault full memory = refl
only_fault Memory full memory = absurd (memory refl)

-- the snapshot's epoch is the next one, and counts
new_epoch : {D : Type 0} (state : D → DiskState) (pair : PlainPair D) (snapshot : List ℕ) → IsPair state pair → Told state pair
    → take 8 snapshot ≡ to_be_bytes w64 (next_epoch pair.epoch) → epoch_of snapshot ≡ next_epoch (epoch_of (head_of pair.active.payloads))
new_epoch state pair snapshot log told spelled = epoch_spelled snapshot (next_epoch pair.epoch) spelled (next_fits pair.epoch) ∙ ap next_epoch (log.told told).epoch

new_counts : {D : Type 0} (state : D → DiskState) (pair : PlainPair D) (snapshot : List ℕ) → IsPair state pair → Told state pair
    → take 8 snapshot ≡ to_be_bytes w64 (next_epoch pair.epoch) → counts (other_side pair.side) (snapshot ∷ []) pair.active.payloads ≡ true
new_counts state pair snapshot log told spelled =
    next_counts pair.side snapshot pair.active.payloads (new_epoch state pair snapshot log told spelled) (subst (λ n. n < 2 ^ 64) (log.told told).epoch log.fits) log.some

-- nothing is in doubt: the log that counts rests
pub rests_then : {D : Type 0} (state : D → DiskState) (pair : PlainPair D) → IsPair state pair → pair.doubt ≡ Nothing → pair.active.standing ≡ AtRest
rests_then state pair log rests =
    let stands : StandsSo Nothing pair.active.standing pair.standby.standing = subst (λ d. StandsSo d pair.active.standing pair.standby.standing) rests log.stands in
    stands.0

-- the commit of the snapshot is in doubt
pub begun_pair : {D : Type 0} (state : D → DiskState) (pair : PlainPair D) (new : PlainLog D) (snapshot : List ℕ) → IsPair state pair → pair.doubt ≡ Nothing
    → take 8 snapshot ≡ to_be_bytes w64 (next_epoch pair.epoch) → new.standing ≡ InDoubt snapshot → length new.payloads ≡ 0 → (state new.disk).tells ≡ (state pair.standby.disk).tells
    → (Told state pair → AllHave new.standing new.payloads (state new.disk).may_leave)
    → IsPair state (record { active = pair.active; standby = new; side = pair.side; epoch = pair.epoch; doubt = Rewrite; past = [] })
begun_pair state pair new snapshot log rests spelled stood none same has = record {
  some = log.some;
  stands = (rests_then state pair log rests, ap is_in_doubt stood);
  fresh = none;
  fits = log.fits;
  told = λ told.
      let before : Told state pair = (told.0, sym same ∙ told.1) in
      let t = log.told before in
      let after : with_doubted new.standing [] ≡ snapshot ∷ [] = ap (λ s. with_doubted s []) stood in
      record {
        epoch = t.epoch;
        active_has = t.active_has;
        standby_has = (
          subst (λ l. AllHave new.standing l (state new.disk).may_leave) (nothing_there new.payloads none) (has before),
          ap (λ l. counts (other_side pair.side) l pair.active.payloads) after ∙ new_counts state pair snapshot log before spelled,
          counts_alone pair.side pair.active.payloads log.some,
          ap (λ l. epoch_of (head_of l)) after ∙ new_epoch state pair snapshot log before spelled,
        );
      };
}

-- the snapshot is there
pub rewritten_pair : {D : Type 0} (state : D → DiskState) (pair : PlainPair D) (new : PlainLog D) (snapshot : List ℕ) → IsPair state pair → pair.doubt ≡ Nothing
    → take 8 snapshot ≡ to_be_bytes w64 (next_epoch pair.epoch) → new.standing ≡ AtRest → 0 < length new.payloads → (state new.disk).tells ≡ (state pair.standby.disk).tells
    → (Told state pair → new.payloads ≡ snapshot ∷ []) → (Told state pair → AllHave new.standing new.payloads (state new.disk).may_leave)
    → IsPair state (record { active = new; standby = pair.active; side = other_side pair.side; epoch = next_epoch pair.epoch; doubt = Nothing; past = [] })
rewritten_pair state pair new snapshot log rests spelled stood some same list has =
    turned state pair new log (rests_then state pair log rests) some stood same has
    (λ told. ap (λ l. counts (other_side pair.side) l pair.active.payloads) (list told) ∙ new_counts state pair snapshot log told spelled)
    (λ told. sym (epoch_spelled snapshot (next_epoch pair.epoch) spelled (next_fits pair.epoch)) ∙ ap (λ l. epoch_of (head_of l)) (sym (list told)))

-- what the commit's moments mean
pub commit_new : (side : Side) (payloads : List (List ℕ)) (snapshot : List ℕ) (b : List ℕ) → 0 < length payloads → HasList (InDoubt snapshot) [] b → IsNewOrOlder side payloads snapshot b
commit_new side payloads snapshot b some (inl before) = inr (ap (counts side payloads) before ∙ counts_alone side payloads some)
commit_new side payloads snapshot b some (inr after) = inl after

-- and those of the restart
pub restart_older : (side : Side) (payloads : List (List ℕ)) (images : List ℕ → Type 0) (b : List ℕ) → 0 < length payloads → AllOlder side payloads images → HasOldList images b
    → counts side payloads (records b) ≡ true
restart_older side payloads images b some others (inl none) = ap (counts side payloads) none ∙ counts_alone side payloads some
restart_older side payloads images b some others (inr (old, left, same)) = ap (counts side payloads) same ∙ others old left

-- the restart failed
pub lost_pair : {D : Type 0} (state : D → DiskState) (pair : PlainPair D) (new : PlainLog D) → IsPair state pair → pair.doubt ≡ Nothing
    → new.standing ≡ Lost → (state new.disk).tells ≡ (state pair.standby.disk).tells → (Told state pair → (b : List ℕ) → (state new.disk).may_leave b → HasOldList (state pair.standby.disk).may_leave b)
    → IsPair state (record { active = pair.active; standby = new; side = pair.side; epoch = pair.epoch; doubt = Restart; past = [] })
lost_pair state pair new log rests lost same has = record {
  some = log.some;
  stands = (rests_then state pair log rests, lost);
  fresh = tt;
  fits = log.fits;
  told = λ told.
      let before : Told state pair = (told.0, sym same ∙ told.1) in
      record {
        epoch = (log.told before).epoch;
        active_has = (log.told before).active_has;
        standby_has = λ b left. restart_older pair.side pair.active.payloads (state pair.standby.disk).may_leave b log.some (older state pair log before rests) (has before b left);
      };
}

-- one image of each
pub new_or_older_reads : {D : Type 0} (state : D → DiskState) (pair : PlainPair D) (snapshot : List ℕ) (a b : List ℕ) → IsPair state pair → Told state pair
    → pair.doubt ≡ Nothing → take 8 snapshot ≡ to_be_bytes w64 (next_epoch pair.epoch) → (state pair.active.disk).may_leave a → IsNewOrOlder pair.side pair.active.payloads snapshot b
    → IsEither pair.active.payloads (snapshot ∷ []) (read_as pair.side (records a) (records b))
new_or_older_reads state pair snapshot a b log told rests spelled left (inl new) =
    inr (ap (read_as pair.side (records a)) new
    ∙ (ap (λ l. read_as pair.side l (snapshot ∷ [])) (active_list left) ∙ reads_standby pair.side pair.active.payloads (snapshot ∷ []) (new_counts state pair snapshot log told spelled)))
  where
    active_list : (state pair.active.disk).may_leave a → records a ≡ pair.active.payloads
    active_list left = subst (λ s. AllHave s pair.active.payloads (state pair.active.disk).may_leave) (rests_then state pair log rests) (log.told told).active_has a left
new_or_older_reads state pair snapshot a b log told rests spelled left (inr is_older) =
    inl (has_read pair.side pair.active.payloads (records a) (records b) (active_list left) is_older)
  where
    active_list : (state pair.active.disk).may_leave a → records a ≡ pair.active.payloads
    active_list left = subst (λ s. AllHave s pair.active.payloads (state pair.active.disk).may_leave) (rests_then state pair log rests) (log.told told).active_has a left

-- nothing has moved that a crash would show
pub still_moment : {D : Type 0} (state : D → DiskState) (pair : PlainPair D) (active standby : D) → IsPair state pair → Told state pair
    → ((a : List ℕ) → (state active).left_since (state pair.active.disk).calls a → (state pair.active.disk).may_leave a)
    → ((b : List ℕ) → (state standby).left_since (state pair.standby.disk).calls b → (state pair.standby.disk).may_leave b)
    → AllRead ((state (first_of pair.side active standby)).left_since (state (first_of pair.side pair.active.disk pair.standby.disk)).calls)
    ((state (second_of pair.side active standby)).left_since (state (second_of pair.side pair.active.disk pair.standby.disk)).calls)
    (IsEither pair.active.payloads (after_doubt pair))
still_moment state pair active standby log told now_active now_standby =
    let t = log.told told in
    pair_leaves state pair.side pair.active.disk pair.standby.disk active standby (IsEither pair.active.payloads (after_doubt pair))
    (λ a b left_a left_b. doubt_reads pair.doubt pair.side pair.active.payloads pair.active.standing pair.standby.standing (state pair.standby.disk).may_leave a b log.stands log.some
    (t.active_has a (now_active a left_a)) t.standby_has (now_standby b left_b))

-- by disks of which one is known
pub seen_leaves : {D : Type 0} (state : D → DiskState) (side : Side) (first second old_active old_standby active : D) (P : List (List ℕ) → Type 0)
    → first_of side first second ≡ active → ((a b : List ℕ) → (state active).left_since (state old_active).calls a → (state (second_of side first second)).left_since (state old_standby).calls b → P (read_as side (records a) (records b)))
    → AllRead ((state first).left_since (state (first_of side old_active old_standby)).calls) ((state second).left_since (state (second_of side old_active old_standby)).calls) P
seen_leaves state First first second old_active old_standby active P same each =
    λ a b left_a left_b. each a b (subst (λ d. (state d).left_since (state old_active).calls a) same left_a) left_b
seen_leaves state Second first second old_active old_standby active P same each =
    λ a b left_a left_b. each b a (subst (λ d. (state d).left_since (state old_active).calls b) same left_b) left_a

-- what a restart closed is written over
pub over_restart : (payload old : List ℕ) → with_record 0 payload (with_gate 0 0 old) ≡ with_record 0 payload old
over_restart payload old = ap (λ l. (1 ∷ body_bytes payload) ++ l) (behind (length payload))
  where
    behind : (n : ℕ) → drop (0 + (6 + n)) (0 ∷ drop 1 old) ≡ drop (0 + (6 + n)) old
    behind n =
        let e : 0 + (6 + n) ≡ suc (5 + n) = omega arith in
        let f : 1 + (5 + n) ≡ 0 + (6 + n) = omega arith in
        ap (λ m. drop m (0 ∷ drop 1 old)) e ∙ (drop-drop (5 + n) 1 old ∙ ap (λ m. drop m old) f)
