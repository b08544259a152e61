-- A batch that a session is issued.
use Rattle.std.specs.Prelude.{ℕ, ◌+◌, ◌<◌, ◌≤◌, ◌≡◌, Bool, true, false, ◌||◌, ◌&&◌, ◌==◌, nat_le, List, [], ◌∷◌, map}
use Rattle.std.specs.Prelude.{slice_get, Some}
use Rattle.std.specs.List.{list_all, list_any}
use Rattle.topic_model.specs.Profile.{Profile}
use Rattle.topic_model.specs.StoredMessage.{StoredMessage}
use Rattle.shard_model.specs.declared.sweep.Sweep.{Sweep}
use Rattle.shard_model.specs.ShardList.{ShardList, newest, next_of}
use Rattle.shard_model.specs.Wanted.{wanted}
use Rattle.topic_model.specs.Places.{HasPlace}
use Rattle.shard_model.specs.SweepOrder.{starting_sweep, is_issued_by, is_in_order}
use Rattle.shard_model.specs.Lists.{IsList}
use Rattle.shard_model.specs.Growing.{HasGrown}
use Rattle.session_model.specs.declared.entry.Entry.{Entry}
use Rattle.session_model.specs.declared.entry.Version.{Version}
use Rattle.session_model.specs.Entry.{numbers1, numbers2}
use Rattle.session_model.specs.PlainSession.{PlainSession, Sessions, session_of, issued1_of, issued2_of, room_of}
use Rattle.session_model.specs.PlainSession.{Subscription, subscription_numbered, version_numbered}
use Rattle.session_model.specs.Acting.{numbers_from}
use Rattle.seq_tracks.specs.declared.marks.TheConstants.{WIDEST_WINDOW}
use Rattle.seq_tracks.specs.InOrder.{InOrder}
use Rattle.session_state.specs.declared.batch.Batch.{Batch}
use Rattle.session_state.specs.KeptSession.{KeptSession}
use Rattle.session_state.specs.declared.change.Change.{Change}
use Rattle.session_state.specs.declared.change.Issued.{Issued as Issuing}
use Rattle.turn_model.specs.Pump.{Pair}
use Rattle.session_state.specs.declared.change.Effect.{Effect}
use Rattle.session_state.specs.declared.change.Effect.TheVariants.{Issued, Subscribed}
use Rattle.session_refinement.specs.StandFor.{Group, is_entry_from, IsReadAgain, IsServed, was_issued_to}
use Rattle.session_refinement.specs.StandFor.{sweep_positions, batch_positions}

-- The entries are a batch's of a subscription: of its present version, in the batch's shard and range, and with the
-- numbers that the batch names.
pub record IsKeptBatch (m : PlainSession) (number : ℕ) (b : Batch) (entries : List Entry) : Type 0 where
  pub version : Version
  pub subscription : Subscription
  pub has_version : version_numbered b.version m ≡ Some version
  pub has_subscription : subscription_numbered number m ≡ Some subscription
  pub same_subscription : version.subscription ≡ number
  pub present : subscription.version ≡ b.version
  pub entries_are : list_all (is_entry_from number b) entries ≡ true
  pub track1 : numbers1 entries ≡ numbers_from b.first1 b.count1
  pub track2 : numbers2 entries ≡ numbers_from b.first2 b.count2

-- its range isn't empty, its numbers go on from those given, and there is room for so many
pub record IsNumbered (m : PlainSession) (b : Batch) : Type 0 where
  pub some : b.from < b.to
  pub first1 : b.first1 ≡ issued1_of m + 1
  pub first2 : b.first2 ≡ issued2_of m + 1
  pub room : b.count1 + b.count2 ≤ room_of m

-- What the worker knows as it issues a batch: the tracks that it keeps are in order, the window isn't wider than the
-- widest, and the batch with its entries goes on from what was issued.
pub record IsReadyFor (k : KeptSession) (m : PlainSession) (i : Issuing) (entries : List Entry) : Type 0 where
  pub order : InOrder k.tracks
  pub narrow : m.window ≤ WIDEST_WINDOW
  pub batch : IsKeptBatch m i.subscription i.batch entries
  pub numbered : IsNumbered m i.batch

-- what a change is issued as: of a batch its entries
abbrev pub IsIssuedAs : PlainSession → Effect → List Entry → Type 0
IsIssuedAs m (Issued i) entries = IsKeptBatch m i.subscription i.batch entries
IsIssuedAs m other entries = Unit {0}

-- the groups that a change adds: of a batch itself with its entries
abbrev pub new_groups : Effect → List Entry → List Group
new_groups (Issued i) entries = record { batch = i.batch; entries = entries } ∷ []
new_groups other entries = []

-- a change that isn't one, whose entries a kept session doesn't name
abbrev pub is_no_batch : Effect → Bool
is_no_batch (Issued i) = false
is_no_batch other = true

-- the entries are those of the batch for the session that it changes, where the change is one
abbrev pub AreIssuedAs : Sessions → Change → List Entry → Type 0
AreIssuedAs plain c entries = (m : PlainSession) → session_of c.client plain ≡ Some m → IsIssuedAs m c.effect entries

-- ---- over the lists of the shards

-- each list is in order
abbrev pub AreLists : List ShardList → Type 0
AreLists lists = (shard : ℕ) (list : ShardList) → slice_get lists shard ≡ Some list → IsList list

-- a subscription that begins does so where the lists end
abbrev pub BeginsInShard : List ShardList → Effect → Type 0
BeginsInShard lists (Subscribed s) = s.sweeps ≡ map starting_sweep lists
BeginsInShard lists other = Unit {0}

-- A sweep of a pair is in order over the shard's list, and counts a wanted message exactly where it was issued or is
-- one of these entries.
pub record IsSwept (profile : Profile) (m : PlainSession) (p : Pair) (list : ShardList) (sweep : Sweep)
    (entries : List Entry) : Type 0 where
  pub order : is_in_order profile list p.start sweep ≡ true
  pub counts : (w : StoredMessage) → HasPlace (wanted p.subscription.filter p.start list) w →
      (was_issued_to m p w.offset || list_any (λ (e : Entry). e.offset == w.offset) entries)
      ≡ is_issued_by profile list sweep w.offset

-- A batch with its entries that may be issued over the lists: it is read again as these entries; the sweep behind it
-- counts them besides what was issued, and is in order; and neither names an offset or a generation that its shard's
-- list doesn't have yet.
pub record IsBatchOver (profile : Profile) (lists : List ShardList) (m : PlainSession) (i : Issuing)
    (entries : List Entry) : Type 0 where
  pub batch : IsKeptBatch m i.subscription i.batch entries
  pub again : IsReadAgain profile lists m (record { batch = i.batch; entries = entries })
  pub swept : (p : Pair) (list : ShardList) → IsServed lists m p list → p.subscription.number ≡ i.subscription →
      p.shard ≡ i.batch.shard →
      IsSwept profile m p list i.sweep entries
  pub positions : (list : ShardList) → slice_get lists i.batch.shard ≡ Some list →
      (list_all (λ (n : ℕ). nat_le n (next_of list)) (sweep_positions (Some i.sweep))
      && list_all (λ (n : ℕ). nat_le n (next_of list)) (batch_positions true i.batch)) ≡ true
  pub generation : (list : ShardList) → slice_get lists i.batch.shard ≡ Some list →
      nat_le i.batch.generation (newest list).number ≡ true

-- what a change needs over the lists: a new subscription starts where they end, and a batch may be issued over them
abbrev pub IsOver : Profile → List ShardList → PlainSession → Effect → List Entry → Type 0
IsOver profile lists m (Subscribed s) entries = s.sweeps ≡ map starting_sweep lists
IsOver profile lists m (Issued i) entries = IsBatchOver profile lists m i entries
IsOver profile lists m other entries = Unit {0}

abbrev pub AreOver : Profile → List ShardList → Sessions → Change → List Entry → Type 0
AreOver profile lists plain c entries =
    (m : PlainSession) → session_of c.client plain ≡ Some m → IsOver profile lists m c.effect entries

-- ---- lists that grow

-- a list has grown from one before, and both are in order
pub record GrewFrom (lists : List ShardList) (shard : ℕ) (later : ShardList) : Type 0 where
  pub list : ShardList
  pub has : slice_get lists shard ≡ Some list
  pub is : IsList list
  pub is_later : IsList later
  pub grown : HasGrown list later

-- each of the later lists has grown from that of its shard before
abbrev pub HaveGrown : List ShardList → List ShardList → Type 0
HaveGrown lists latest = (shard : ℕ) (later : ShardList) → slice_get latest shard ≡ Some later →
    GrewFrom lists shard later
