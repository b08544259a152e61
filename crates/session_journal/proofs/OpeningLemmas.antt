-- A journal that was opened: its pair was mounted, and then read.
use Rattle.std.proofs.Common.{◌≡◌, inl, ℕ, ◌<◌, true, ◌&&◌, IsTrue, List, [], ◌∷◌, length, sym, ap, subst, ◌∙◌, arith}
use Rattle.std.specs.Prelude.{nat_le}
use Rattle.std.proofs.lemmas.Bool.{and_parts, leb-true}
use Rattle.outside.specs.DiskModel.{DiskState}
use Rattle.gated_log.specs.PlainLog.{PlainLog}
use Rattle.topic_model.specs.Limits.{has_known_counts, has_known_generations, has_known_thresholds, is_within_limits, lies_between}
use Rattle.topic_name.specs.declared.config.Config.{Config}
use Rattle.topic_name.specs.PlainConfig.{plain_config}
use Rattle.session_state.specs.KeptSession.{KeptSessions}
use Rattle.pair_log.specs.declared.doubt.Doubt.TheVariants.{Nothing}
use Rattle.pair_log.specs.declared.side.Side.{Side}
use Rattle.pair_log.specs.declared.side.Side.TheVariants.{First, Second}
use Rattle.pair_log.specs.Epochs.{read_pair}
use Rattle.pair_log.specs.Mounted.{MountKeeps, or_first}
use Rattle.pair_log.specs.PlainPair.{HasEither, PlainPair, Told, first_disk, second_disk}
use Rattle.pair_log.specs.Sides.{first_of, number_of, second_of}
use Rattle.session_journal.specs.declared.asked.Asked.{Asked}
use Rattle.session_journal.specs.declared.head.Head.{Head}
use Rattle.session_journal.specs.declared.unread.Unread.{Unread}
use Rattle.session_journal.specs.Fold.{Holds, folded}
use Rattle.session_journal.specs.FoldLaws.{new_folded}
use Rattle.session_journal.specs.Giving.{IsCause, IsWhy}
use Rattle.session_journal.specs.Mounting.{MountHolds, Mounts, Refuses, asked_by, first_snapshot, refusal_of}
use Rattle.session_journal.specs.PairCalls.{IsRead}
use Rattle.session_journal.specs.PlainJournal.{HasHead, ImagesHold, IsAsked, IsHead, IsJournal, head_told}
use Rattle.session_journal.proofs.CommitLemmas.{holding}
use Rattle.session_journal.proofs.JournalLemmas.{images_of, told_on}
use Rattle.session_journal.proofs.MountingLemmas.{mount_holds, refused_then}
use Rattle.session_journal.proofs.ReadLemmas.{rests_after, same_payloads, same_standby}

-- a configuration within its limits
pub asked_within : (config : Config) (worker : ℕ) → is_within_limits (plain_config config) ≡ true → worker < config.workers → IsAsked (asked_by config worker)
asked_within config worker within among =
    let counts : (lies_between 1 8 config.shards && lies_between 1 16 config.workers) ≡ true =
    (and_parts (has_known_counts (plain_config config)) (has_known_thresholds (plain_config config) && has_known_generations (plain_config config)) within).0 in
    let both = and_parts (lies_between 1 8 config.shards) (lies_between 1 16 config.workers) counts in
    record {
      few_shards = leb-true config.shards 8 (and_parts (nat_le 1 config.shards) (nat_le config.shards 8) both.0).1;
      few_workers = leb-true config.workers 16 (and_parts (nat_le 1 config.workers) (nat_le config.workers 16) both.1).1;
      among = among;
    }

-- disks that tell
pub told_mounted : {D : Type 0} (state : D → DiskState) (first second : D) (asked : Asked) (pair : PlainPair D) → Mounts state first second asked pair
    → IsTrue (state first).tells → IsTrue (state second).tells → Told state pair
told_mounted state first second asked pair was a b =
    told_on state pair.side pair.active.disk pair.standby.disk (subst IsTrue (sym was.first_tells) a) (subst IsTrue (sym was.second_tells) b)

first_of_told : {D : Type 0} (state : D → DiskState) (side : Side) (a b : D) → IsTrue (state a).tells → IsTrue (state b).tells
    → IsTrue (state (first_of side a b)).tells × IsTrue (state (second_of side a b)).tells
first_of_told state First a b s t = (s, t)
first_of_told state Second a b s t = (t, s)

pub mounted_told : {D : Type 0} (state : D → DiskState) (first second : D) (asked : Asked) (pair : PlainPair D) → Mounts state first second asked pair
    → Told state pair → IsTrue (state first).tells × IsTrue (state second).tells
mounted_told state first second asked pair was told =
    let both = first_of_told state pair.side pair.active.disk pair.standby.disk told.0 told.1 in
    (subst IsTrue was.first_tells both.0, subst IsTrue was.second_tells both.1)

pub told_back : {D : Type 0} (state : D → DiskState) (old new : PlainPair D) → IsRead state old new → Told state new → Told state old
told_back {D = D} state old new read told =
    (subst IsTrue read.tells told.0, subst (λ (l : PlainLog D). IsTrue (state l.disk).tells) (same_standby state old new read) told.1)

first_some : (snapshot : List ℕ) (payloads : List (List ℕ)) → 0 < length (or_first snapshot payloads)
first_some snapshot [] = omega arith
first_some snapshot (p ∷ payloads) = omega arith

pub mounted_some : {D : Type 0} (state : D → DiskState) (first second : D) (asked : Asked) (pair : PlainPair D) → Mounts state first second asked pair
    → Told state pair → 0 < length pair.active.payloads
mounted_some state first second asked pair was told =
    let both = mounted_told state first second asked pair was told in
    subst (λ l. 0 < length l) (sym (was.list both.0 both.1)) (first_some (first_snapshot asked) (read_pair (state first).seen (state second).seen))

-- what the disks held is what the pair holds
pub as_mounted : {D : Type 0} (state : D → DiskState) (first second : D) (asked : Asked) (pair : PlainPair D) → Mounts state first second asked pair → IsAsked asked
    → IsTrue (state first).tells → IsTrue (state second).tells → folded asked (read_pair (state first).seen (state second).seen) ≡ folded asked pair.active.payloads
as_mounted state first second asked pair was is a b =
    let few = is.few_shards in let workers = is.few_workers in let worker = is.among in
    sym (new_folded asked (read_pair (state first).seen (state second).seen) (omega arith) (omega arith) (omega arith)) ∙ ap (folded asked) (sym (was.list a b))

-- ---- sessions were found

pub record Opens {D : Type 0} (state : D → DiskState) (first second : D) (asked : Asked) (mid new : PlainPair D) (s : KeptSessions) : Type 0 where
  pub was : Mounts state first second asked mid
  pub read : IsRead state mid new
  pub gives : Told state mid → folded asked mid.active.payloads ≡ Holds s
  pub is : IsAsked asked

pub opened_holds : {D : Type 0} (state : D → DiskState) (first second : D) (asked : Asked) (mid new : PlainPair D) (s : KeptSessions) → Opens state first second asked mid new s
    → IsTrue (state first).tells → IsTrue (state second).tells → folded asked (read_pair (state first).seen (state second).seen) ≡ Holds s
opened_holds state first second asked mid new s o a b =
    as_mounted state first second asked mid o.was o.is a b ∙ o.gives (told_mounted state first second asked mid o.was a b)

pub opened_still : {D : Type 0} (state : D → DiskState) (first second : D) (asked : Asked) (mid new : PlainPair D) (s : KeptSessions) → Opens state first second asked mid new s
    → Told state new → folded asked new.active.payloads ≡ Holds s
opened_still state first second asked mid new s o told =
    ap (folded asked) (same_payloads state mid new o.read) ∙ o.gives (told_back state mid new o.read told)

opened_rests : {D : Type 0} (state : D → DiskState) (first second : D) (asked : Asked) (mid new : PlainPair D) (s : KeptSessions) → Opens state first second asked mid new s
    → new.doubt ≡ Nothing
opened_rests {D = D} state first second asked mid new s o = ap (λ (p : PlainPair D). p.doubt) o.read.stays ∙ o.was.rests

pub opened_durable : {D : Type 0} (state : D → DiskState) (first second : D) (asked : Asked) (mid new : PlainPair D) (s : KeptSessions) (head next : Head)
    → Opens state first second asked mid new s → HasEither state new
    → ImagesHold state (record { pair = new; asked = asked; head = head; next = next }) (Holds s) (Holds s)
opened_durable state first second asked mid new s head next o images =
    images_of state (record { pair = new; asked = asked; head = head; next = next }) (Holds s) (Holds s) images
    (λ told. inl (opened_still state first second asked mid new s o told))
    (λ told. inl (ap (folded asked) (rests_after new (opened_rests state first second asked mid new s o)) ∙ opened_still state first second asked mid new s o told))

pub opened_moments : {D : Type 0} (state : D → DiskState) (first second : D) (asked : Asked) (mid new : PlainPair D) (s : KeptSessions) → Opens state first second asked mid new s
    → (IsTrue (state first).tells → (state first).may_leave (state first).seen) → (IsTrue (state second).tells → (state second).may_leave (state second).seen)
    → MountKeeps state first second (first_snapshot asked) mid → MountHolds state first second asked (Holds s) new
opened_moments state first second asked mid new s o first_now second_now keeps =
    mount_holds state first second asked (Holds s) (first_snapshot asked) mid new first_now second_now keeps o.read
    (told_mounted state first second asked mid o.was)
    (λ a b. ap (folded asked) (sym (o.was.list a b)) ∙ o.gives (told_mounted state first second asked mid o.was a b))
    (λ a b. o.gives (told_mounted state first second asked mid o.was a b))

pub opened_journal : {D : Type 0} (state : D → DiskState) (first second : D) (asked : Asked) (mid new : PlainPair D) (s : KeptSessions) (head : Head)
    → Opens state first second asked mid new s → IsHead head → (Told state mid → head ≡ head_told mid.active.payloads)
    → IsJournal state (record { pair = new; asked = asked; head = head; next = head })
opened_journal {D = D} state first second asked mid new s head o known told_head = record {
  asked = o.is;
  head = known;
  next = known;
  limit = ap (λ (p : PlainPair D). p.active.limit) o.read.stays ∙ o.was.limit;
  standby_limit = ap (λ (p : PlainPair D). p.standby.limit) o.read.stays ∙ o.was.standby_limit;
  told = λ told. record {
    now = has told;
    after = λ not_restart. subst (HasHead asked head) (sym (rests_after new (opened_rests state first second asked mid new s o))) (has told);
  };
} where
  has : Told state new → HasHead asked head new.active.payloads
  has told = record {
    some = subst (λ l. 0 < length l) (sym (same_payloads state mid new o.read)) (mounted_some state first second asked mid o.was (told_back state mid new o.read told));
    holds = holding (opened_still state first second asked mid new s o told);
    told = told_head (told_back state mid new o.read told) ∙ ap head_told (sym (same_payloads state mid new o.read));
  }

-- ---- or they were not

pub refused_opened : {D : Type 0} (state : D → DiskState) (first second : D) (asked : Asked) (mid new : PlainPair D) (why : Unread)
    → Mounts state first second asked mid → IsAsked asked → IsRead state mid new → IsCause why (state mid.active.disk).faults (state new.active.disk).faults
    → (Told state mid → IsWhy why (folded asked mid.active.payloads))
    → Refuses state first second asked (first_disk new, second_disk new, refusal_of asked (number_of new.side) why)
refused_opened state first second asked mid new why was is read cause gives =
    refused_then state first second asked mid new why was read cause
    (λ told. subst (IsWhy why) (sym (as_mounted state first second asked mid was is told.0 told.1)) (gives (told_mounted state first second asked mid was told.0 told.1)))
