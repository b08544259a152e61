-- When a shard's list is in order.
use Rattle.std.specs.Prelude.{ℕ, ◌+◌, ◌≤◌, ◌≡◌, List, [], ◌∷◌, length, map, Some, None}
use Rattle.topic_model.specs.StoredMessage.{StoredMessage}
use Rattle.shard_model.specs.ShardList.{Cut, ShardList, floor_of, next_of}
use Rattle.shard_model.specs.SweepOrder.{counted_from}

-- a generation goes right before the next one
pub record IsBefore (cut next : Cut) : Type 0 where
  pub number : next.number ≡ cut.number + 1
  pub first : cut.first ≤ next.first
  pub sealed : (moment : ℕ) × (cut.sealed ≡ Some moment)

-- There is a generation, each goes right before the next one, and the last begins at or before an end and isn't sealed.
abbrev pub IsRow : ℕ → List Cut → Type 0
IsRow end [] = ⊥
IsRow end (cut ∷ []) = (cut.first ≤ end) × (cut.sealed ≡ None)
IsRow end (cut ∷ next ∷ cuts) = IsBefore cut next × IsRow end (next ∷ cuts)

pub record IsList (list : ShardList) : Type 0 where
  pub cuts : IsRow (next_of list) list.cuts
  -- the offsets of the messages are consecutive from the floor on
  pub offsets : map (λ (m : StoredMessage). m.offset) list.messages
      ≡ counted_from (floor_of list) (length list.messages)
