-- What a reader of the shards has seen of them, and what its calls do to that.
use Rattle.std.specs.Prelude.{ℕ, ◌≡◌, ◌⊎◌, ◌<◌, ◌≤◌, Bool, true, false, List, [], map, length, slice_get, slice_set, Option, Some, None, Result, OnOk, OnErr}
use Rattle.outside.specs.Cause.{HasCause}
use Rattle.shard_model.specs.ShardList.{ShardList}
use Rattle.shard_model.specs.Lists.{IsList}
use Rattle.shard_model.specs.Growing.{HasGrown}
use Rattle.shard_index.specs.KeptIndex.{KeptIndex, ToldReceipt, list_of}
use Rattle.shard_views.specs.declared.missed.Missed.{Missed}

-- ---- what a reader has seen

-- not viewed yet; in view, with the list that is shown; or its view was missed or has ended
pub data Standing : Type 0 where
  Unviewed : Standing
  InView : KeptIndex → Standing
  Left : Standing

-- Of one shard: how it stands, and a list from which each later view's list has grown, as this one has from all that was seen or told.
pub record ShardView : Type 0 where
  pub standing : Standing
  pub seen : ShardList

-- The shards by their numbers; how often a view was missed; and whether a shard whose view has ended can be viewed again.
pub record ReadersState : Type 0 where
  pub shards : List ShardView
  pub misses : ℕ
  pub views_again : Bool

abbrev pub standing_in : Option ShardView → Option Standing
standing_in None = None
standing_in (Some view) = Some view.standing

-- none where there is no such shard
abbrev pub standing_at : ReadersState → ℕ → Option Standing
standing_at r shard = standing_in (slice_get r.shards shard)

abbrev pub seen_in : Option ShardView → ShardList
seen_in None = record { cuts = []; messages = []; awaited = [] }
seen_in (Some view) = view.seen

abbrev pub seen_at : ReadersState → ℕ → ShardList
seen_at r shard = seen_in (slice_get r.shards shard)

-- every shard is unviewed, as each call wants it that views them all
abbrev pub AreUnviewed : ReadersState → Type 0
AreUnviewed r = (shard : ℕ) → shard < length r.shards → standing_at r shard ≡ Some Unviewed

-- every shard is in view
abbrev pub AreInView : ReadersState → Type 0
AreInView r = (shard : ℕ) → shard < length r.shards → (index : KeptIndex) × (standing_at r shard ≡ Some (InView index))

-- ---- growing

-- the same list, or one in order that has grown from it
abbrev pub IsLater : ShardList → ShardList → Type 0
IsLater list later = (later ≡ list) ⊎ (HasGrown list later × IsList later)

-- Time goes on for a reader: of each shard what is seen is later, and the count of misses doesn't fall.
pub record Goes (old new : ReadersState) : Type 0 where
  pub seen : (shard : ℕ) → IsLater (seen_at old shard) (seen_at new shard)
  pub misses : old.misses ≤ new.misses
  pub views_again : new.views_again ≡ old.views_again

-- ---- the calls

-- one shard stands so, and this was seen of it
abbrev pub with_view : ℕ → Standing → ShardList → ReadersState → ReadersState
with_view shard standing seen r = record r { shards = slice_set r.shards shard (record { standing = standing; seen = seen }) }

-- A view shows a list that is later than what was seen.
pub record Shows (shard : ℕ) (old new : ReadersState) : Type 0 where
  pub index : KeptIndex
  pub later : IsLater (seen_at old shard) (list_of index)
  pub new_is : new ≡ with_view shard (InView index) (list_of index) old

-- A shard is in view; or it is left, as the count of misses rose, and what was seen stays.
pub record Views (shard : ℕ) (old new : ReadersState) (result : Result Unit Missed) : Type 0 where
  pub shows : OnOk result (Shows shard old new)
  pub missed : OnErr result (new ≡ record (with_view shard Left (seen_at old shard) old) { misses = new.misses })
  pub cause : HasCause old.misses new.misses result

abbrev pub after_end : Bool → Standing → Standing
after_end true standing = Unviewed
after_end false Unviewed = Unviewed
after_end false (InView index) = Left
after_end false Left = Left

abbrev pub ended : Bool → ShardView → ShardView
ended again view = record view { standing = after_end again view.standing }

-- all views have ended, and nothing else is changed
abbrev pub left_behind : ReadersState → ReadersState
left_behind r = record r { shards = map (ended r.views_again) r.shards }

-- What later views show is later than the list that a receipt tells.
pub record Learns (receipt : ToldReceipt) (old new : ReadersState) : Type 0 where
  pub seen : ShardList
  pub later : IsLater (seen_at old receipt.shard) seen
  pub told : IsLater receipt.list seen
  pub new_is : new ≡ with_view receipt.shard Unviewed seen old
