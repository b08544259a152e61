-- What a mount reads from images of both disks.
use Rattle.std.proofs.Common.{ℕ, Bool, true, false, not, ◌+◌, ◌-◌, ◌^◌, ◌≤◌, ◌<◌, ◌≡◌, inl, inr, if◌then◌else◌, List, [], ◌∷◌, ◌++◌, length, take, drop, slice_index_or, arith, refl, sym, ap, subst, ◌∙◌, length-append}
use native.Mathlib.Numerals.{unary_clauses}
use Rattle.std.proofs.lemmas.Bool.{true≢false}
use Rattle.std.proofs.lemmas.List.{length-drop, take_all}
use Rattle.gated_log.specs.PlainLog.{AllHave, AtRest, HasList, InDoubt, Lost, PlainLog, Standing, is_in_doubt, is_lost, with_doubted}
use Rattle.outside.specs.Along.{Keeps, WithinBoth, keeps_at_first, keeps_step}
use Rattle.outside.specs.DiskModel.{DiskState}
use Rattle.gated_log.specs.Records.{records}
use Rattle.pair_log.specs.declared.side.Side.{Side}
use Rattle.pair_log.specs.declared.side.Side.TheVariants.{First, Second}
use Rattle.pair_log.specs.declared.doubt.Doubt.{Doubt}
use Rattle.pair_log.specs.declared.doubt.Doubt.TheVariants.{Nothing, Commit, Rewrite, Restart}
use Rattle.pair_log.specs.Epochs.{active_records, read_pair, second_counts, snapshot_of}
use Rattle.pair_log.specs.PlainPair.{AllOlder, AllRead, IsEither, IsPair, StandbyHas, PairReads, PlainPair, StandsSo, Told, after_doubt, after_of, counts, head_of, tail_of}
use Rattle.pair_log.specs.Sides.{first_of, other_side, second_of}

-- what is read from the records of both, in their order
abbrev pub read_as : Side → List (List ℕ) → List (List ℕ) → List (List ℕ)
read_as side records standby = active_records (first_of side records standby) (second_of side records standby)

pub reads_active : (side : Side) (records standby : List (List ℕ)) → counts side records standby ≡ true → read_as side records standby ≡ records
reads_active First records standby e = ap (λ t. if t then standby else records) (not_true (second_counts records standby) e)
  where
    not_true : (t : Bool) → not t ≡ true → t ≡ false
    not_true false e = refl
    not_true true e = absurd (true≢false (sym e))
reads_active Second records standby e = ap (λ t. if t then records else standby) e

-- and where the standby counts
pub reads_standby : (side : Side) (records standby : List (List ℕ)) → counts (other_side side) standby records ≡ true → read_as side records standby ≡ standby
reads_standby First records standby e = ap (λ t. if t then standby else records) e
reads_standby Second records standby e = ap (λ t. if t then records else standby) (not_true (second_counts standby records) e)
  where
    not_true : (t : Bool) → not t ≡ true → t ≡ false
    not_true false e = refl
    not_true true e = absurd (true≢false (sym e))

-- more records change nothing of that
pub counts_more : (side : Side) (payloads later standby : List (List ℕ)) → 0 < length payloads → counts side (payloads ++ later) standby ≡ counts side payloads standby
counts_more side [] later standby some = absurd (omega (arith, some))
counts_more First (payload ∷ payloads) later [] some = refl
counts_more First (payload ∷ payloads) later (new ∷ standby) some = refl
counts_more Second (payload ∷ payloads) later [] some = refl
counts_more Second (payload ∷ payloads) later (new ∷ standby) some = refl

-- a disk without a record doesn't count
pub counts_alone : (side : Side) (payloads : List (List ℕ)) → 0 < length payloads → counts side payloads [] ≡ true
counts_alone side [] some = absurd (omega (arith, some))
counts_alone First (payload ∷ payloads) some = refl
counts_alone Second (payload ∷ payloads) some = refl

-- one image of each
pub has_read : (side : Side) (payloads list standby : List (List ℕ)) → list ≡ payloads → counts side payloads standby ≡ true → read_as side list standby ≡ payloads
has_read side payloads list standby same e = ap (λ l. read_as side l standby) same ∙ reads_active side payloads standby e

older_reads : (standing : Standing) (side : Side) (payloads : List (List ℕ)) (a b : List ℕ) → 0 < length payloads → HasList standing payloads a → is_lost standing ≡ false
    → counts side payloads (records b) ≡ true → IsEither payloads (with_doubted standing payloads) (read_as side (records a) (records b))
older_reads AtRest side payloads a b some has kept e = inl (has_read side payloads (records a) (records b) has e)
older_reads Lost side payloads a b some has kept e = absurd (true≢false kept)
older_reads (InDoubt payload) side payloads a b some (inl before) kept e = inl (has_read side payloads (records a) (records b) before e)
older_reads (InDoubt payload) side payloads a b some (inr after) kept e =
    inr (has_read side (payloads ++ payload ∷ []) (records a) (records b) after (counts_more side payloads (payload ∷ []) (records b) some ∙ e))

pub newer_reads : (standing : Standing) (side : Side) (payloads : List (List ℕ)) (a b : List ℕ) → records a ≡ payloads → HasList standing [] b → is_in_doubt standing ≡ true
    → counts (other_side side) (with_doubted standing []) payloads ≡ true → counts side payloads [] ≡ true → IsEither payloads (with_doubted standing []) (read_as side (records a) (records b))
newer_reads AtRest side payloads a b same has doubt later alone = absurd (true≢false (sym doubt))
newer_reads Lost side payloads a b same has doubt later alone = absurd (true≢false (sym doubt))
newer_reads (InDoubt payload) side payloads a b same (inl before) doubt later alone =
    inl (ap (read_as side (records a)) before ∙ has_read side payloads (records a) [] same alone)
newer_reads (InDoubt payload) side payloads a b same (inr after) doubt later alone =
    inr (ap (read_as side (records a)) after ∙ (ap (λ l. read_as side l (payload ∷ [])) same ∙ reads_standby side payloads (payload ∷ []) later))

not_lost : (standing : Standing) → is_in_doubt standing ≡ true → is_lost standing ≡ false
not_lost AtRest doubt = refl
not_lost (InDoubt payload) doubt = refl
not_lost Lost doubt = absurd (true≢false (sym doubt))

-- by what is in doubt
pub doubt_reads : (doubt : Doubt) (side : Side) (payloads : List (List ℕ)) (standing standby : Standing) (images : List ℕ → Type 0) (a b : List ℕ) → StandsSo doubt standing standby
    → 0 < length payloads → HasList standing payloads a → StandbyHas doubt side payloads standby images → images b
    → IsEither payloads (after_of doubt payloads standing standby) (read_as side (records a) (records b))
doubt_reads Nothing side payloads standing standby images a b (rests, fine) some has others left =
    subst (λ l. IsEither payloads l (read_as side (records a) (records b))) (ap (λ s. with_doubted s payloads) rests)
    (older_reads standing side payloads a b some has (ap is_lost rests) (others b left))
doubt_reads Restart side payloads standing standby images a b (rests, fine) some has others left =
    subst (λ l. IsEither payloads l (read_as side (records a) (records b))) (ap (λ s. with_doubted s payloads) rests)
    (older_reads standing side payloads a b some has (ap is_lost rests) (others b left))
doubt_reads Commit side payloads standing standby images a b (doubt, fine) some has others left = older_reads standing side payloads a b some has (not_lost standing doubt) (others b left)
doubt_reads Rewrite side payloads standing standby images a b (rests, doubt) some has (others, later, alone, epoch) left =
    newer_reads standby side payloads a b (subst (λ s. HasList s payloads a) rests has) (others b left) doubt later alone

-- from images by which counts to images in their order
pub pair_reads : {D : Type 0} (state : D → DiskState) (side : Side) (active standby : D) (P : List (List ℕ) → Type 0)
    → ((a b : List ℕ) → (state active).may_leave a → (state standby).may_leave b → P (read_as side (records a) (records b)))
    → AllRead (state (first_of side active standby)).may_leave (state (second_of side active standby)).may_leave P
pair_reads state First active standby P each = each
pair_reads state Second active standby P each = λ a b left_a left_b. each b a left_b left_a

pub pair_leaves : {D : Type 0} (state : D → DiskState) (side : Side) (old_active old_standby active standby : D) (P : List (List ℕ) → Type 0)
    → ((a b : List ℕ) → (state active).left_since (state old_active).calls a → (state standby).left_since (state old_standby).calls b → P (read_as side (records a) (records b)))
    → AllRead ((state (first_of side active standby)).left_since (state (first_of side old_active old_standby)).calls)
    ((state (second_of side active standby)).left_since (state (second_of side old_active old_standby)).calls) P
pair_leaves state First old_active old_standby active standby P each = each
pair_leaves state Second old_active old_standby active standby P each = λ a b left_a left_b. each b a left_b left_a

pub pair_leaves_turned : {D : Type 0} (state : D → DiskState) (side : Side) (old_active old_standby active standby : D) (P : List (List ℕ) → Type 0)
    → ((a b : List ℕ) → (state active).left_since (state old_active).calls a → (state standby).left_since (state old_standby).calls b → P (read_as side (records a) (records b)))
    → AllRead ((state (first_of (other_side side) standby active)).left_since (state (first_of side old_active old_standby)).calls)
    ((state (second_of (other_side side) standby active)).left_since (state (second_of side old_active old_standby)).calls) P
pair_leaves_turned state First old_active old_standby active standby P each = each
pair_leaves_turned state Second old_active old_standby active standby P each = λ a b left_a left_b. each b a left_b left_a

-- a pair has its list, or that with what is in doubt
pub pair_has : {D : Type 0} (state : D → DiskState) (pair : PlainPair D) → IsPair state pair → Told state pair
    → PairReads state pair (IsEither pair.active.payloads (after_doubt pair))
pair_has state pair log told =
    let t = log.told told in
    pair_reads state pair.side pair.active.disk pair.standby.disk (IsEither pair.active.payloads (after_doubt pair))
    (λ a b left_a left_b. doubt_reads pair.doubt pair.side pair.active.payloads pair.active.standing pair.standby.standing (state pair.standby.disk).may_leave a b log.stands log.some
    (t.active_has a left_a) t.standby_has left_b)

-- record 0 behind its epoch
pub snapshot_is : (payloads : List (List ℕ)) → length (slice_index_or payloads 0 []) ≤ 2 ^ 32 - 1 → take (2 ^ 32 - 1) (drop 8 (slice_index_or payloads 0 [])) ≡ snapshot_of (head_of payloads)
snapshot_is [] short = refl
snapshot_is (payload ∷ payloads) short = take_all (2 ^ 32 - 1) (drop 8 payload) (omega (arith, short, length-drop 8 payload))

-- while nothing was in doubt, the standby is older
pub older : {D : Type 0} (state : D → DiskState) (pair : PlainPair D) → IsPair state pair → Told state pair → pair.doubt ≡ Nothing
    → AllOlder pair.side pair.active.payloads (state pair.standby.disk).may_leave
older state pair log told rests =
    subst (λ d. StandbyHas d pair.side pair.active.payloads pair.standby.standing (state pair.standby.disk).may_leave) rests (log.told told).standby_has

-- inside a commit
pub commit_moment : {D : Type 0} (state : D → DiskState) (pair : PlainPair D) (new : D) (payload : List ℕ)
    → IsPair state pair → Told state pair → pair.doubt ≡ Nothing → ((a : List ℕ) → (state new).left_since (state pair.active.disk).calls a → HasList (InDoubt payload) pair.active.payloads a)
    → ((b : List ℕ) → (state pair.standby.disk).left_since (state pair.standby.disk).calls b → (state pair.standby.disk).may_leave b)
    → AllRead ((state (first_of pair.side new pair.standby.disk)).left_since (state (first_of pair.side pair.active.disk pair.standby.disk)).calls)
    ((state (second_of pair.side new pair.standby.disk)).left_since (state (second_of pair.side pair.active.disk pair.standby.disk)).calls)
    (IsEither pair.active.payloads (pair.active.payloads ++ payload ∷ []))
commit_moment state pair new payload log told rests each now =
    pair_leaves state pair.side pair.active.disk pair.standby.disk new pair.standby.disk (IsEither pair.active.payloads (pair.active.payloads ++ payload ∷ []))
    (λ a b left_a left_b. older_reads (InDoubt payload) pair.side pair.active.payloads a b log.some (each a left_a) refl (older state pair log told rests b (now b left_b)))

-- and after it
pub commit_now : {D : Type 0} (state : D → DiskState) (pair : PlainPair D) (new : PlainLog D) (later after : List (List ℕ))
    → IsPair state pair → Told state pair → pair.doubt ≡ Nothing → AllHave new.standing new.payloads (state new.disk).may_leave → new.payloads ≡ pair.active.payloads ++ later
    → is_lost new.standing ≡ false → with_doubted new.standing new.payloads ≡ after
    → AllRead (state (first_of pair.side new.disk pair.standby.disk)).may_leave (state (second_of pair.side new.disk pair.standby.disk)).may_leave (IsEither new.payloads after)
commit_now state pair new later after log told rests has list kept same =
    pair_reads state pair.side new.disk pair.standby.disk (IsEither new.payloads after)
    (λ a b left_a left_b. subst (λ l. IsEither new.payloads l (read_as pair.side (records a) (records b))) same
    (older_reads new.standing pair.side new.payloads a b (omega (arith, ap length list, length-append pair.active.payloads later, log.some)) (has a left_a) kept
    (ap (λ l. counts pair.side l (records b)) list ∙ (counts_more pair.side pair.active.payloads later (records b) log.some ∙ older state pair log told rests b left_b))))

-- the records after record 0
pub entry_is : (payloads : List (List ℕ)) (k : ℕ) → 0 < length payloads → slice_index_or payloads (k + 1) [] ≡ slice_index_or (tail_of payloads) k []
entry_is [] k some = absurd (omega (arith, some))
entry_is (payload ∷ payloads) k some = simp unary_clauses refl

-- one call, before which both disks were recorded
pub one_step : {D : Type 0} (state : D → DiskState) (P : List (List ℕ) → Type 0) (past later : List (D × D)) (old new : D × D) → later ≡ past ++ old ∷ []
    → AllRead ((state new.0).left_since (state old.0).calls) ((state new.1).left_since (state old.1).calls) P
    → Keeps (WithinBoth state) (λ images. P (read_pair images.0 images.1)) past old later new
one_step state P past later old new recorded all =
    keeps_step (WithinBoth state) (λ images. P (read_pair images.0 images.1)) past old later new recorded (λ images left. all images.0 images.1 left.0 left.1)

-- no call
pub no_step : {D : Type 0} (state : D → DiskState) (P : List (List ℕ) → Type 0) (past : List (D × D)) (old : D × D)
    → Keeps (WithinBoth state) (λ images. P (read_pair images.0 images.1)) past old past old
no_step state P past old = keeps_at_first (WithinBoth state) (λ images. P (read_pair images.0 images.1)) past old
