-- How a kept session stands for a plain one, and the kept sessions of a worker for plain ones.
use Rattle.std.specs.Prelude.{◌≤◌, ℕ, ◌≡◌, Bool, true, false, ◌&&◌, ◌==◌, nat_le, nat_lt, List, [], ◌∷◌, ◌++◌, length}
use Rattle.std.specs.Prelude.{map, slice_get, Option, Some, None}
use Rattle.std.specs.List.{flat_map, list_any, list_all}
use Rattle.std.specs.Str.{bytes_eq}
use Rattle.topic_model.specs.Profile.{Profile}
use Rattle.topic_model.specs.StoredMessage.{StoredMessage}
use Rattle.shard_model.specs.declared.sweep.Sweep.{Sweep}
use Rattle.shard_model.specs.ShardList.{ShardList, newest, next_of}
use Rattle.shard_model.specs.Wanted.{wanted}
use Rattle.topic_model.specs.Places.{HasPlace}
use Rattle.shard_model.specs.SweepOrder.{is_issued_by, is_in_order}
use Rattle.session_model.specs.declared.entry.Entry.{Entry}
use Rattle.session_model.specs.declared.entry.Version.{Version}
use Rattle.session_model.specs.Entry.{numbers1, numbers2}
use Rattle.session_model.specs.PlainSession as session
use Rattle.session_model.specs.PlainSession.{PlainSession, Subscription, next_subscription, next_version}
use Rattle.session_model.specs.PlainSession.{subscription_numbered, version_numbered}
use Rattle.session_model.specs.Unfinished as plain_session
use Rattle.session_model.specs.Unfinished.{kept_subscriptions}
use Rattle.session_model.specs.Acting.{numbers_from}
use Rattle.session_model.specs.Orders.{HasNumbers}
use Rattle.seq_tracks.specs.StandFor.{TracksStandFor}
use Rattle.session_state.specs.declared.batch.Batch.{Batch}
use Rattle.session_state.specs.KeptSub.{KeptSub}
use Rattle.session_state.specs.KeptSession.{KeptSession, KeptSessions}
use Rattle.session_state.specs.KeptActing.{kept_batches}
use Rattle.turn_model.specs.Pump.{Pair}
use Rattle.turn_model.specs.MayIssue.{is_issue_of}
use Rattle.session_refinement.specs.ReadAgain.{holds, entries_again}

-- ---- subscriptions

-- an ended subscription has no sweeps
abbrev pub kept_sweeps : Bool → List Sweep → List Sweep
kept_sweeps true sweeps = sweeps
kept_sweeps false sweeps = []

-- a subscription as a session keeps it
abbrev pub kept_sub : Subscription → KeptSub
kept_sub s =
    record {
      number = s.number;
      live = s.live;
      version = s.version;
      filter = s.filter;
      sweeps =
          kept_sweeps s.live s.sweeps;
    }

-- subscriptions and versions are numbered from 1 on without a gap
pub record AreNumbered (plain : PlainSession) : Type 0 where
  pub subscriptions : map (λ (s : Subscription). s.number) plain.subscriptions
      ≡ numbers_from 1 (length plain.subscriptions)
  pub versions : map (λ (v : Version). v.number) plain.versions ≡ numbers_from 1 (length plain.versions)

-- ---- batches

-- a batch, and the entries that it was issued as
pub record Group : Type 0 where
  pub batch : Batch
  pub entries : List Entry

-- of a subscription, under the batch's version, in its shard and its range
abbrev pub is_entry_from : ℕ → Batch → Entry → Bool
is_entry_from subscription b e =
    (e.subscription == subscription)
    && ((e.version == b.version) && ((e.shard == b.shard) && (nat_le b.from e.offset && nat_lt e.offset b.to)))

-- The entries are the batch's: each is one of the subscription of the batch's version, and they have the numbers that
-- the batch names.
pub record IsGroup (plain : PlainSession) (g : Group) : Type 0 where
  pub version : Version
  pub subscription : Subscription
  pub has_version : version_numbered g.batch.version plain ≡ Some version
  pub has_subscription : subscription_numbered version.subscription plain ≡ Some subscription
  pub entries : list_all (is_entry_from version.subscription g.batch) g.entries ≡ true
  pub track1 : numbers1 g.entries ≡ numbers_from g.batch.first1 g.batch.count1
  pub track2 : numbers2 g.entries ≡ numbers_from g.batch.first2 g.batch.count2

abbrev pub AreGroups : PlainSession → List Group → Type 0
AreGroups plain [] = Unit {0}
AreGroups plain (g ∷ gs) = IsGroup plain g × AreGroups plain gs

abbrev pub entries_of : List Group → List Entry
entries_of groups = flat_map (λ (g : Group). g.entries) groups

abbrev pub batches_of : List Group → List Batch
batches_of groups = map (λ (g : Group). g.batch) groups

-- ---- apart from the lists

-- The fields and tracks agree, and what is kept of the subscriptions and versions is what the plain session keeps of
-- them. All that was issued falls into these groups, one for each batch, and the batches with an unfinished number are
-- kept, in the order of issue.
pub record Keeps (kept : KeptSession) (plain : PlainSession) (groups : List Group) : Type 0 where
  pub client : kept.client ≡ plain.client
  pub incarnation : kept.incarnation ≡ plain.incarnation
  pub window : kept.window ≡ plain.window
  pub expiry : kept.expiry ≡ plain.expiry
  pub parted : kept.parted ≡ plain.parted
  pub next_sub : kept.next_sub ≡ next_subscription plain
  pub next_version : kept.next_version ≡ next_version plain
  pub tracks : TracksStandFor kept.tracks plain
  pub subs : kept.subs ≡ map kept_sub (kept_subscriptions plain)
  pub versions : kept.versions ≡ plain_session.kept_versions plain
  pub issued : entries_of groups ≡ plain.issued
  pub are_groups : AreGroups plain groups
  pub batches : kept.batches ≡ kept_batches kept.tracks (batches_of groups)
  -- the plain session's own numbers are in order
  pub numbers : HasNumbers plain
  pub numbered : AreNumbered plain

-- ---- over the lists of the shards

-- a batch whose generation is held in its shard's list gives its entries when it is read again
abbrev pub IsReadAgain : Profile → List ShardList → PlainSession → Group → Type 0
IsReadAgain profile lists plain g =
    (list : ShardList) (v : Version) (s : Subscription) → slice_get lists g.batch.shard ≡ Some list →
    holds list g.batch.generation ≡ true →
    version_numbered g.batch.version plain ≡ Some v → subscription_numbered v.subscription plain ≡ Some s →
    g.entries ≡ entries_again profile list plain.client v s.filter g.batch

abbrev pub AreReadAgain : Profile → List ShardList → PlainSession → List Group → Type 0
AreReadAgain profile lists plain [] = Unit {0}
AreReadAgain profile lists plain (g ∷ gs) = IsReadAgain profile lists plain g × AreReadAgain profile lists plain gs

-- no batch goes past the end of its shard's list
abbrev pub EndsWithin : List ShardList → Group → Type 0
EndsWithin lists g = (list : ShardList) → slice_get lists g.batch.shard ≡ Some list → g.batch.to ≤ next_of list

abbrev pub AllEndWithin : List ShardList → List Group → Type 0
AllEndWithin lists [] = Unit {0}
AllEndWithin lists (g ∷ gs) = EndsWithin lists g × AllEndWithin lists gs

-- a pair of a live subscription and a shard with this list
pub record IsServed (lists : List ShardList) (plain : PlainSession) (p : Pair) (list : ShardList) : Type 0 where
  pub has_subscription : HasPlace plain.subscriptions p.subscription
  pub live : p.subscription.live ≡ true
  pub has_start : slice_get p.subscription.starts p.shard ≡ Some p.start
  pub has_sweep : slice_get p.subscription.sweeps p.shard ≡ Some p.sweep
  pub has_list : slice_get lists p.shard ≡ Some list

abbrev pub was_issued_to : PlainSession → Pair → ℕ → Bool
was_issued_to plain p offset = list_any (is_issue_of p.subscription.number p.shard offset) plain.issued

-- its sweep is in order, and counts a wanted message exactly where it was issued
pub record IsCounted (profile : Profile) (plain : PlainSession) (p : Pair) (list : ShardList) : Type 0 where
  pub order : is_in_order profile list p.start p.sweep ≡ true
  pub counts : (w : StoredMessage) → HasPlace (wanted p.subscription.filter p.start list) w →
      was_issued_to plain p w.offset ≡ is_issued_by profile list p.sweep w.offset

-- the offsets that a sweep of a shard names, and a batch of it
abbrev pub sweep_positions : Option Sweep → List ℕ
sweep_positions None = []
sweep_positions (Some w) = w.base ∷ w.target ∷ w.position ∷ []

abbrev pub batch_positions : Bool → Batch → List ℕ
batch_positions true b = b.from ∷ b.to ∷ []
batch_positions false b = []

-- all offsets in the sweeps and batches of a shard
abbrev pub positions_of : KeptSession → ℕ → List ℕ
positions_of kept shard =
    flat_map (λ (s : KeptSub). sweep_positions (slice_get s.sweeps shard)) kept.subs
    ++ flat_map (λ (b : Batch). batch_positions (b.shard == shard) b) kept.batches

-- the generations that the batches of a shard name
abbrev pub batch_generations : Bool → Batch → List ℕ
batch_generations true b = b.generation ∷ []
batch_generations false b = []

abbrev pub generations_of : KeptSession → ℕ → List ℕ
generations_of kept shard = flat_map (λ (b : Batch). batch_generations (b.shard == shard) b) kept.batches

-- no position passes the next offset of the shard's list, and no batch names a generation that is later than its newest
pub record IsWithin (kept : KeptSession) (shard : ℕ) (list : ShardList) : Type 0 where
  pub positions : list_all (λ (p : ℕ). nat_le p (next_of list)) (positions_of kept shard) ≡ true
  pub generations : list_all (λ (n : ℕ). nat_le n (newest list).number) (generations_of kept shard) ≡ true

-- A kept session stands for a plain one over the lists of the shards: it keeps of it what it needs, and its batches are
-- read again, its sweeps count what was issued and are in order, and no position passes the end of its shard's list.
pub record StandsFor (profile : Profile) (lists : List ShardList) (kept : KeptSession)
    (plain : PlainSession) : Type 0 where
  pub groups : List Group
  pub keeps : Keeps kept plain groups
  pub again : AreReadAgain profile lists plain groups
  pub ends : AllEndWithin lists groups
  pub counted : (p : Pair) (list : ShardList) → IsServed lists plain p list → IsCounted profile plain p list
  pub within : (shard : ℕ) (list : ShardList) → slice_get lists shard ≡ Some list → IsWithin kept shard list

-- ---- the sessions of a worker

-- each stands to the plain one at its place as a relation says
abbrev pub Pairwise : (KeptSession → PlainSession → Type 0) → List KeptSession → List PlainSession → Type 0
Pairwise R [] [] = Unit {0}
Pairwise R [] (m ∷ ms) = ⊥
Pairwise R (k ∷ ks) [] = ⊥
Pairwise R (k ∷ ks) (m ∷ ms) = R k m × Pairwise R ks ms

abbrev pub clients_of : List PlainSession → List (List ℕ)
clients_of ms = map (λ (m : PlainSession). m.client) ms

-- no two are the same
abbrev pub HaveOwnClients : List (List ℕ) → Type 0
HaveOwnClients [] = Unit {0}
HaveOwnClients (c ∷ cs) = (list_any (λ (d : List ℕ). bytes_eq d c) cs ≡ false) × HaveOwnClients cs

-- each keeps what it needs of the plain one at its place
abbrev pub KeepsSome : KeptSession → PlainSession → Type 0
KeepsSome k m = (groups : List Group) × Keeps k m groups

pub record SessionsKeep (kept : KeptSessions) (plain : session.Sessions) : Type 0 where
  pub list : Pairwise KeepsSome kept.list plain.list
  pub next : kept.next ≡ plain.next
  pub distinct : HaveOwnClients (clients_of plain.list)

-- in the order in which they began, each of a client of its own, and the next one gets the same number
pub record SessionsStandFor (profile : Profile) (lists : List ShardList) (kept : KeptSessions)
    (plain : session.Sessions) : Type 0 where
  pub list : Pairwise (StandsFor profile lists) kept.list plain.list
  pub next : kept.next ≡ plain.next
  pub distinct : HaveOwnClients (clients_of plain.list)
