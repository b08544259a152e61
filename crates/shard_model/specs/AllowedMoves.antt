-- Which moves of a shard are allowed.
use Rattle.std.specs.Prelude.{Bool, ◌&&◌, not}
use Rattle.topic_model.specs.Profile.{Profile, Config}
use Rattle.shard_model.specs.Capacity.{may_drop}
use Rattle.shard_model.specs.ShardMoves.{Shard, ShardMove, Begin, Store, BeginCut, Rotate, BeginDrop, Drop, Settle}
use Rattle.shard_model.specs.ShardMoves.{Show, pends_nothing, may_store, may_rotate, if_group, if_cut, if_drop}

-- Something is begun where nothing pends and there is place for it; what pends goes in by its own move, and is settled
-- by any; and what is stored is shown where nothing pends.
abbrev pub shard_allows : Profile → Config → Shard → ShardMove → Bool
shard_allows profile config s (Begin ops now) = pends_nothing s.pending && may_store profile config s.stored ops now
shard_allows profile config s Store = if_group s.pending
shard_allows profile config s (BeginCut now) = pends_nothing s.pending && may_rotate profile s.stored
shard_allows profile config s Rotate = if_cut s.pending
shard_allows profile config s (BeginDrop now) = pends_nothing s.pending && may_drop config s.stored now
shard_allows profile config s Drop = if_drop s.pending
shard_allows profile config s (Settle goes_in) = not (pends_nothing s.pending)
shard_allows profile config s Show = pends_nothing s.pending
