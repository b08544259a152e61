-- When one list of a shard has grown from another: what both hold is the same.
use Rattle.std.specs.Prelude.{ℕ, ◌≤◌, ◌<◌, ◌≡◌, List, ◌++◌, slice_get, Some}
use Rattle.topic_model.specs.Places.{HasPlace}
use Rattle.shard_model.specs.ShardList.{Cut, ShardList, floor_of, next_of, message_at, newest, oldest_of}
use Rattle.shard_model.specs.Streams.{StreamMessage, HeldGeneration}

-- the same generation, which may have been sealed since
pub record IsSame (a b : Cut) : Type 0 where
  pub number : a.number ≡ b.number
  pub first : a.first ≡ b.first
  pub top : a.top ≡ b.top
  pub below : a.below ≡ b.below
  pub messages : a.messages ≡ b.messages
  pub sealed : (moment : ℕ) → a.sealed ≡ Some moment → b.sealed ≡ Some moment

-- `later` has grown from `list`
pub record HasGrown (list later : ShardList) : Type 0 where
  pub floors : floor_of list ≤ floor_of later
  pub ends : next_of list ≤ next_of later
  pub oldest : (oldest_of list.cuts).number ≤ (oldest_of later.cuts).number
  -- equal messages at each offset that both hold
  pub messages : (offset : ℕ) → floor_of later ≤ offset → offset < next_of list →
      message_at later offset ≡ message_at list offset
  -- each generation that isn't gone is still there
  pub kept : (cut : Cut) → HasPlace list.cuts cut → (oldest_of later.cuts).number ≤ cut.number → (other : Cut)
      × HasPlace later.cuts other × IsSame cut other
  -- new generations begin at or behind the old end
  pub added : (cut : Cut) → HasPlace later.cuts cut → (newest list).number < cut.number → next_of list ≤ cut.first

-- the same generation in a later list: it ends there or later, and its messages have the same streams, with more behind
-- them
pub record Continues (g later : HeldGeneration) : Type 0 where
  pub same : IsSame g.cut later.cut
  pub ends : g.end ≤ later.end
  pub more : (more : List StreamMessage) × (later.messages ≡ g.messages ++ more)
