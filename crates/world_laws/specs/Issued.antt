-- What is to hold of what sessions were issued: positions, numbers, the prefix of each topic, sweeps, and that changes
-- fit.
use Rattle.std.specs.Prelude.{ℕ, ◌≡◌, ◌≤◌, ◌<◌, Bool, true, false, List, [], ◌∷◌, ◌++◌, map, slice_get, Some}
use Rattle.topic_model.specs.Profile.{Profile}
use Rattle.topic_model.specs.StoredMessage.{StoredMessage}
use Rattle.topic_model.specs.Places.{HasPlace}
use Rattle.shard_model.specs.declared.sweep.Sweep.{Sweep}
use Rattle.shard_model.specs.ShardList.{ShardList, no_cut, next_of, floor_of}
use Rattle.shard_model.specs.Wanted.{wanted_of_topic}
use Rattle.shard_model.specs.SweepOrder.{is_in_order}
use Rattle.session_model.specs.declared.entry.Entry.{Entry}
use Rattle.session_model.specs.PlainSession.{PlainSession, Subscription, in_use}
use Rattle.session_model.specs.FitsSession.{changes_fit}
use Rattle.session_model.specs.Orders.{HasNumbers}
use Rattle.session_model.specs.IssuedPrefix.{IsIssuedPrefix, IsPrefixOf, issued_of_topic, issued_offsets}
use Rattle.turn_model.specs.Worker.{Worker, PendingRecord}
use Rattle.world_model.specs.World.{World, WorldShard}
use Rattle.world_laws.specs.Reached.{HasShard, HasWorker, HasSession, StartsAt}

-- ---- positions

-- No subscription starts past what its worker has seen, and nothing is issued that it hasn't seen.
pub record AreSeen (w : World) : Type 0 where
  pub starts : (worker shard start : ℕ) (k : Worker) (m : PlainSession) (s : Subscription) (list : ShardList) →
      HasSession w worker k m →
      StartsAt m s shard start → slice_get k.seen shard ≡ Some list → start ≤ next_of list
  pub issued : (worker : ℕ) (k : Worker) (m : PlainSession) (e : Entry) (list : ShardList) → HasSession w worker k m →
      HasPlace m.issued e →
      slice_get k.seen e.shard ≡ Some list → e.offset < next_of list

-- ---- tracks

-- The numbers of each track go on from 1, the marks don't pass them, and no more are in use than the window has.
abbrev pub AreNumbered : World → Type 0
AreNumbered w =
    (worker : ℕ) (k : Worker) (m : PlainSession) → HasSession w worker k m → HasNumbers m × (in_use m ≤ m.window)

-- ---- the issued prefix

-- all that a shard ever stored, as a list of which nothing was dropped
abbrev pub ever_list : WorldShard → ShardList
ever_list s = record { cuts = no_cut ∷ []; messages = s.ever; awaited = [] }

-- Of each topic in each shard every subscription has been issued a prefix of what it wants, of what is held.
abbrev pub ArePrefixes : World → Type 0
ArePrefixes w =
    (worker shard start : ℕ) (k : Worker) (m : PlainSession) (sub : Subscription) (s : WorldShard)
    (topic : List (List ℕ)) →
    HasSession w worker k m → StartsAt m sub shard start → HasShard w shard s →
    IsIssuedPrefix m sub shard start s.shard.stored topic

-- And of all that was ever stored since it began, where nothing that it wanted was dropped before it was issued.
abbrev pub AreWholePrefixes : World → Type 0
AreWholePrefixes w =
    (worker shard start : ℕ) (k : Worker) (m : PlainSession) (sub : Subscription) (s : WorldShard)
    (topic : List (List ℕ)) →
    HasSession w worker k m → StartsAt m sub shard start → HasShard w shard s →
    ((wish : StoredMessage) → HasPlace (wanted_of_topic sub.filter start (ever_list s) topic) wish →
    wish.offset < floor_of s.shard.stored → HasPlace (issued_offsets m sub.number shard) wish.offset) →
    IsPrefixOf (issued_of_topic m sub.number shard (ever_list s) topic)
    (map (λ (wish : StoredMessage). wish.offset) (wanted_of_topic sub.filter start (ever_list s) topic))

-- ---- sweeps

-- Every sweep of a live subscription is in order over the list that its worker has seen.
abbrev pub AreInOrder : Profile → World → Type 0
AreInOrder profile w =
    (worker shard start : ℕ) (k : Worker) (m : PlainSession) (s : Subscription) (sweep : Sweep) (list : ShardList) →
    HasSession w worker k m → StartsAt m s shard start → s.live ≡ true →
    slice_get s.sweeps shard ≡ Some sweep →
    slice_get k.seen shard ≡ Some list → is_in_order profile list start sweep ≡ true

-- ---- changes

-- What is owed fits the committed sessions, and so does the record that pends.
abbrev pub ChangesFit : Profile → World → Type 0
ChangesFit profile w =
    (worker : ℕ) (k : Worker) → HasWorker w worker k →
    (changes_fit profile k.committed k.owed ≡ true)
    × ((p : PendingRecord) → k.pending ≡ Some p → changes_fit profile k.committed (p.owed ++ p.changes) ≡ true)
