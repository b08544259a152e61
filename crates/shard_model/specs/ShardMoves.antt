-- A shard as its disks and its readers have it, and the moves that it makes. A move that isn't allowed changes nothing.
use Rattle.std.specs.Prelude.{ℕ, ◌+◌, ◌^◌, Bool, true, false, ◌&&◌, not, nat_lt, List, [], ◌∷◌, length}
use Rattle.topic_model.specs.Profile.{Profile, Config}
use Rattle.shard_model.specs.ShardList.{ShardList, newest, newest_messages, opening_list}
use Rattle.shard_model.specs.Storing.{Op, kept_ops, store}
use Rattle.shard_model.specs.Capacity.{needs_a_cut, may_drop, holds_all, is_full_if, awaits_too_many, rotated, dropped}

-- what was begun on the disks and isn't known to be in yet: a group with its moment, a new generation, a drop of the
-- oldest one
pub data PendingChange : Type 0 where
  Nothing : PendingChange
  AGroup : List Op → ℕ → PendingChange
  ACut : ℕ → PendingChange
  ADrop : PendingChange

-- What is stored; what readers are shown; and what pends.
pub record Shard : Type 0 where
  pub stored : ShardList
  pub shown : ShardList
  pub pending : PendingChange

abbrev pub opening_shard : Config → Shard
opening_shard config = record { stored = opening_list config; shown = opening_list config; pending = Nothing }

-- Begin and Store: a group is appended at a moment. BeginCut and Rotate: the newest generation is sealed and a new one
-- begins. BeginDrop and Drop: the oldest is dropped. Settle: what pends is found to be in or not. Show: readers see
-- what is stored.
pub data ShardMove : Type 0 where
  Begin : List Op → ℕ → ShardMove
  Store : ShardMove
  BeginCut : ℕ → ShardMove
  Rotate : ShardMove
  BeginDrop : ℕ → ShardMove
  Drop : ShardMove
  Settle : Bool → ShardMove
  Show : ShardMove

-- ---- allowed where

abbrev pub pends_nothing : PendingChange → Bool
pends_nothing Nothing = true
pends_nothing (AGroup ops now) = false
pends_nothing (ACut now) = false
pends_nothing ADrop = false

-- A group may be begun where its kept operations fit the newest generation, the shard isn't full, and not too many
-- identifiers would be awaited.
abbrev pub may_store_if : Bool → Profile → Config → ShardList → List Op → ℕ → Bool
may_store_if needs profile config list kept now =
    not needs && (not (is_full_if needs profile config list kept now) && not (awaits_too_many profile list kept now))

abbrev pub may_store_kept : Profile → Config → ShardList → List Op → ℕ → Bool
may_store_kept profile config list kept now = may_store_if (needs_a_cut profile list kept) profile config list kept now

abbrev pub may_store : Profile → Config → ShardList → List Op → ℕ → Bool
may_store profile config list ops now = may_store_kept profile config list (kept_ops list ops) now

-- A new generation may begin where one more may be held, the newest has a message, since each group fits an empty one,
-- and its number isn't the last.
abbrev pub may_rotate : Profile → ShardList → Bool
may_rotate profile list =
    not (holds_all profile list)
    && (nat_lt 0 (length (newest_messages list)) && nat_lt ((newest list).number + 1) (2 ^ 64))

-- ---- what pends goes in

abbrev pub list_after : Config → PendingChange → ShardList → ShardList
list_after config Nothing list = list
list_after config (AGroup ops now) list = store list ops now
list_after config (ACut now) list = rotated config now list
list_after config ADrop list = dropped list

abbrev pub gone_in : Config → Shard → Shard
gone_in config s = record s { stored = list_after config s.pending s.stored; pending = Nothing }

abbrev pub gone_out : Shard → Shard
gone_out s = record s { pending = Nothing }

-- ---- the moves

abbrev pub begin_if : Bool → PendingChange → Shard → Shard
begin_if true pending s = record s { pending = pending }
begin_if false pending s = s

abbrev pub if_group : PendingChange → Bool
if_group (AGroup ops now) = true
if_group other = false

abbrev pub if_cut : PendingChange → Bool
if_cut (ACut now) = true
if_cut other = false

abbrev pub if_drop : PendingChange → Bool
if_drop ADrop = true
if_drop other = false

abbrev pub land_if : Bool → Config → Shard → Shard
land_if true config s = gone_in config s
land_if false config s = s

abbrev pub settled_shard : Config → Bool → Shard → Shard
settled_shard config true s = gone_in config s
settled_shard config false s = gone_out s

abbrev pub show_if : Bool → Shard → Shard
show_if true s = record s { shown = s.stored }
show_if false s = s

abbrev pub shard_step : Profile → Config → Shard → ShardMove → Shard
shard_step profile config s (Begin ops now) =
    begin_if (pends_nothing s.pending && may_store profile config s.stored ops now) (AGroup ops now) s
shard_step profile config s Store = land_if (if_group s.pending) config s
shard_step profile config s (BeginCut now) =
    begin_if (pends_nothing s.pending && may_rotate profile s.stored) (ACut now) s
shard_step profile config s Rotate = land_if (if_cut s.pending) config s
shard_step profile config s (BeginDrop now) = begin_if (pends_nothing s.pending && may_drop config s.stored now) ADrop s
shard_step profile config s Drop = land_if (if_drop s.pending) config s
shard_step profile config s (Settle goes_in) = settled_shard config goes_in s
shard_step profile config s Show = show_if (pends_nothing s.pending) s

abbrev pub shard_run : Profile → Config → Shard → List ShardMove → Shard
shard_run profile config s [] = s
shard_run profile config s (move ∷ moves) = shard_run profile config (shard_step profile config s move) moves

-- a crash: what pends goes in or out, and what is stored is shown
abbrev pub crashed_shard : Config → Bool → Shard → Shard
crashed_shard config goes_in s = show_if true (settled_shard config goes_in s)
