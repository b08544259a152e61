-- What the next run of a subscription is.
use Rattle.std.specs.Prelude.{ℕ, suc, ◌+◌, ◌≡◌, ◌≤◌, ◌<◌, ◌⊎◌, true, false, ◌||◌, ◌==◌, List, length, take, slice_get}
use Rattle.std.specs.Prelude.{Some}
use Rattle.std.specs.List.{list_any}
use Rattle.topic_model.specs.StoredMessage.{StoredMessage}
use Rattle.topic_model.specs.Profile.{Profile}
use Rattle.shard_model.specs.declared.sweep.Sweep.{Sweep}
use Rattle.shard_model.specs.ShardList.{ShardList}
use Rattle.shard_model.specs.Wanted.{wanted, same_topic}
use Rattle.shard_model.specs.SweepOrder.{is_issued_by, Run, is_in_order}
use Rattle.topic_model.specs.Places.{HasPlace}

-- The run that comes next for a subscription with a filter and a start in a shard, at most so many messages.
pub record IsNextRun (profile : Profile) (wish : List (List ℕ)) (start : ℕ) (list : ShardList) (sweep : Sweep)
    (limit : ℕ) (run : Run) : Type 0 where
  -- not none, and not too many
  pub some : 0 < length run.messages
  pub few : length run.messages ≤ limit
  -- their offsets rise
  pub rise : (k j : ℕ) (w v : StoredMessage) → slice_get run.messages k ≡ Some w → slice_get run.messages j ≡ Some v →
      k < j → w.offset < v.offset
  -- each is wanted, and the sweep doesn't count it as issued
  pub are_wanted : (k : ℕ) (w : StoredMessage) → slice_get run.messages k ≡ Some w → HasPlace (wanted wish start list) w
  pub are_new : (k : ℕ) (w : StoredMessage) → slice_get run.messages k ≡ Some w →
      is_issued_by profile list sweep w.offset ≡ false
  -- each earlier message of its topic that is wanted counts as issued, or stands before it
  pub in_turn : (k : ℕ) (w earlier : StoredMessage) → slice_get run.messages k ≡ Some w →
      HasPlace (wanted wish start list) earlier → earlier.offset < w.offset →
      same_topic earlier.topic w.topic ≡ true →
      (is_issued_by profile list sweep earlier.offset ≡ true)
      ⊎ ((j : ℕ) × (j < k) × (slice_get run.messages j ≡ Some earlier))
  -- the sweep behind each of them is in order
  pub order : (k : ℕ) (w : StoredMessage) → slice_get run.messages k ≡ Some w →
      is_in_order profile list start (record run.sweep { position = w.offset + 1 }) ≡ true
  -- and it counts what the sweep did, and those up to this message
  pub counts : (k : ℕ) (w m : StoredMessage) → slice_get run.messages k ≡ Some w → HasPlace (wanted wish start list) m →
      is_issued_by profile list (record run.sweep { position = w.offset + 1 }) m.offset
      ≡ (is_issued_by profile list sweep m.offset
      || list_any (λ (v : StoredMessage). v.offset == m.offset) (take (suc k) run.messages))
