-- What is asked, and what the calls give that read a record.
use Rattle.std.specs.Prelude.{◌≡◌, ◌<◌, true, Result, Ok, Err}
use Rattle.topic_model.specs.Limits.{is_within_limits}
use Rattle.topic_name.specs.PlainConfig.{plain_config}
use Rattle.shard_fold.specs.declared.asked.Asked.{Asked}
use Rattle.shard_fold.specs.declared.unread.Unread.{Unread}
use Rattle.shard_fold.specs.declared.unread.Unread.TheVariants.{Damaged, Another, Memory}
use Rattle.shard_fold.specs.Fold.{Folded, Holds, IsDamaged, HasAnother}

-- the configuration is within its limits, and the shard is one of its shards
pub record IsAsked (asked : Asked) : Type 0 where
  pub limits : is_within_limits (plain_config asked.config) ≡ true
  pub shard : asked.shard < asked.config.shards

-- why nothing was read: the refusal is what the records hold; want of memory says nothing of them
abbrev pub IsWhy : {A : Type 0} → Unread → Folded A → Type 0
IsWhy (Damaged log place) held = held ≡ IsDamaged log place
IsWhy (Another what kept asked) held = held ≡ HasAnother what kept asked
IsWhy Memory held = Unit {0}

-- what a call gave that reads what is held
abbrev pub Gives : {X A : Type 0} → (X → A) → Result X Unread → Folded A → Type 0
Gives view (Ok x) held = held ≡ Holds (view x)
Gives view (Err why) held = IsWhy why held
