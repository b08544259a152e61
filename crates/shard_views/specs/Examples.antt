-- What computes of views, and what is refused.
use Rattle.std.specs.Prelude.{◌≡◌, ◌⊎◌, ◌-◌, ◌^◌, ◌<◌, ◌≤◌, true, false, [], ◌∷◌, Some, None, Err, Result, refl}
use Rattle.std.proofs.Common.{arith, inl, inr}
use Rattle.topic_model.specs.StoredMessage.{StoredMessage}
use Rattle.shard_model.specs.ShardList.{Cut, ShardList}
use Rattle.shard_index.specs.KeptIndex.{KeptIndex}
use Rattle.shard_views.specs.declared.missed.Missed.{Missed}
use Rattle.shard_views.specs.Views.{InView, IsLater, Left, ReadersState, Unviewed, Views, left_behind, standing_at, with_view}
use Rattle.shard_views.specs.ViewLaws.{later_reaches}

abbrev cut : Cut
cut = record { number = 0; first = 0; top = 8; below = 8; messages = 100; sealed = None }

-- a list without messages, and two shards of which this was seen
abbrev none : ShardList
none = record { cuts = cut ∷ []; messages = []; awaited = [] }

abbrev two : ReadersState
two =
    record {
      shards = record { standing = Unviewed; seen = none } ∷ (record { standing = Unviewed; seen = none } ∷ []);
      misses = 4;
      views_again = false;
    }

abbrev empty_index : KeptIndex
empty_index = record { cuts = []; messages = []; awaited = [] }

-- the first of them is in view, and the other isn't
abbrev viewed : ReadersState
viewed = with_view 0 (InView empty_index) none two

first_viewed : standing_at viewed 0 ≡ Some (InView empty_index)
first_viewed = refl

second_unviewed : standing_at viewed 1 ≡ Some Unviewed
second_unviewed = refl

no_third : standing_at viewed 2 ≡ None
no_third = refl

-- a view that has ended stays ended for who views a shard once, and the shard that wasn't viewed can be
first_left : standing_at (left_behind viewed) 0 ≡ Some Left
first_left = refl

second_stays : standing_at (left_behind viewed) 1 ≡ Some Unviewed
second_stays = refl

-- and for who may view again it can be viewed again
abbrev again : ReadersState
again = record viewed { views_again = true }

first_again : standing_at (left_behind again) 0 ≡ Some Unviewed
first_again = refl

-- A reader that shows an older list than it showed before is refused: an empty one behind one with a message.
frozen : (m : StoredMessage) → IsLater (record none { messages = m ∷ [] }) none → ⊥
frozen m later = let e : 1 ≤ 0 = later_reaches (record none { messages = m ∷ [] }) none later in omega (arith, e)

-- One that misses without counting it is refused.
abbrev missed : Result Unit Missed
missed = Err (record {})

always_misses : Views 0 two (with_view 0 Left none two) missed → ⊥
always_misses views = by views.cause.failed
  where
    by : (4 < 4) ⊎ (4 ≡ 2 ^ 64 - 1) → ⊥
    by (inl e) = omega (arith, e)
    by (inr e) = absurd cc
