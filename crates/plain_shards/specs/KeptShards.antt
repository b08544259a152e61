-- What callers see of the shards of one thread, and what that is to a reader.
use Rattle.std.specs.Prelude.{ℕ, suc, ◌≡◌, ◌<◌, Bool, true, false, List, [], ◌∷◌, length, drop, refl}
use Rattle.std.proofs.Common.{◌∙◌}
use Rattle.topic_model.specs.Limits.{is_within_limits}
use Rattle.topic_name.specs.declared.config.Config.{Config}
use Rattle.topic_name.specs.PlainConfig.{plain_config}
use Rattle.shard_index.specs.KeptIndex.{KeptIndex, ToldReceipt}
use Rattle.shard_fold.specs.declared.asked.Asked.{Asked}
use Rattle.shard_log.specs.PlainShardLog.{PlainShardLog, shown}
use Rattle.shard_views.specs.Views.{InView, IsLater, ReadersState, ShardView, Standing, Unviewed, seen_at}

-- the logs in the order of their shards' numbers, and of each place whether its shard is in view
pub record KeptShards (D : Type 0) : Type 0 where
  pub logs : List (PlainShardLog D)
  pub in_view : List Bool

-- ---- that they are the shards of one configuration

abbrev pub asked_of : {D : Type 0} → PlainShardLog D → Asked
asked_of log = log.asked

-- the first one's; of none a configuration of nothing
abbrev pub config_of : List Asked → Config
config_of [] = record { shards = 0; workers = 0; top = 0; below = 0; messages = 0; retention = 0 }
config_of (asked ∷ others) = asked.config

-- all of this configuration, numbered on from here
abbrev pub AreNumbered : Config → ℕ → List Asked → Type 0
AreNumbered config n [] = Unit {0}
AreNumbered config n (asked ∷ others) = (asked ≡ record { config = config; shard = n }) × AreNumbered config (suc n) others

-- All shards of a configuration within its limits, in order.
pub record AreShards (asked : List Asked) : Type 0 where
  pub limits : is_within_limits (plain_config (config_of asked)) ≡ true
  pub all : length asked ≡ (config_of asked).shards
  pub each : AreNumbered (config_of asked) 0 asked

-- ---- what a reader sees

abbrev pub none_in_view : List Bool
none_in_view = false ∷ (false ∷ (false ∷ (false ∷ (false ∷ (false ∷ (false ∷ (false ∷ [])))))))

abbrev pub standing_by : Bool → KeptIndex → Standing
standing_by true index = InView index
standing_by false index = Unviewed

-- the list is the one that the log shows, whether it is in view or not
abbrev pub view_by : {D : Type 0} → Bool → PlainShardLog D → ShardView
view_by in_view log = record { standing = standing_by in_view log.index; seen = shown log }

-- the first of these, none of none
abbrev pub first_of : List Bool → Bool
first_of [] = false
first_of (b ∷ others) = b

abbrev pub views_of : {D : Type 0} → List Bool → List (PlainShardLog D) → List ShardView
views_of in_view [] = []
views_of in_view (log ∷ logs) = view_by (first_of in_view) log ∷ views_of (drop 1 in_view) logs

-- Nothing is missed, and what was viewed can be viewed again.
abbrev pub readers : {D : Type 0} → KeptShards D → ReadersState
readers s = record { shards = views_of s.in_view s.logs; misses = 0; views_again = true }

-- the shard's list is the one that the receipt tells, or has grown from it
pub record IsOf {D : Type 0} (s : KeptShards D) (receipt : ToldReceipt) : Type 0 where
  pub shard : receipt.shard < length s.logs
  pub told : IsLater receipt.list (seen_at (readers s) receipt.shard)

-- ---- what views leave alone

abbrev pub HasSameLogs : {D : Type 0} → KeptShards D → KeptShards D → Type 0
HasSameLogs a b = b.logs ≡ a.logs

pub same_itself : {D : Type 0} (s : KeptShards D) → HasSameLogs s s
same_itself s = refl

pub same_on : {D : Type 0} (a b c : KeptShards D) → HasSameLogs a b → HasSameLogs b c → HasSameLogs a c
same_on a b c first then = then ∙ first
