-- A move of a shard that isn't allowed changes nothing.
use Rattle.std.proofs.Common.{◌≡◌, ℕ, Bool, true, false, ◌&&◌, not, List, refl, sym, ap, ◌∙◌}
use Rattle.topic_model.specs.Profile.{Profile, Config}
use Rattle.shard_model.specs.Capacity.{may_drop}
use Rattle.shard_model.specs.ShardMoves.{PendingChange, Nothing, AGroup, ACut, ADrop, Shard, ShardMove, Begin, Store}
use Rattle.shard_model.specs.ShardMoves.{BeginCut, Rotate, BeginDrop, Drop, Settle, Show, pends_nothing, may_store}
use Rattle.shard_model.specs.ShardMoves.{may_rotate, list_after, begin_if, if_group, if_cut, if_drop, land_if}
use Rattle.shard_model.specs.ShardMoves.{settled_shard, show_if, shard_step}
use Rattle.shard_model.specs.AllowedMoves.{shard_allows}

begin_same : (b : Bool) (pending : PendingChange) (s : Shard) → b ≡ false → begin_if b pending s ≡ s
begin_same true pending s never = cc
begin_same false pending s never = refl

land_same : (b : Bool) (config : Config) (s : Shard) → b ≡ false → land_if b config s ≡ s
land_same true config s never = cc
land_same false config s never = refl

show_same : (b : Bool) (s : Shard) → b ≡ false → show_if b s ≡ s
show_same true s never = cc
show_same false s never = refl

is_none_pending : (p : PendingChange) → not (pends_nothing p) ≡ false → p ≡ Nothing
is_none_pending Nothing never = refl
is_none_pending (AGroup ops now) never = cc
is_none_pending (ACut now) never = cc
is_none_pending ADrop never = cc

settle_same : (config : Config) (goes_in : Bool) (s : Shard) → s.pending ≡ Nothing → settled_shard config goes_in s ≡ s
settle_same config true s none =
    ap (λ (p : PendingChange). record s { stored = list_after config p s.stored; pending = Nothing }) none
    ∙ ap (λ (p : PendingChange). record s { pending = p }) (sym none)
settle_same config false s none = ap (λ (p : PendingChange). record s { pending = p }) (sym none)

pub not_allowed : (profile : Profile) (config : Config) (s : Shard) (move : ShardMove) →
    shard_allows profile config s move ≡ false → shard_step profile config s move ≡ s
not_allowed profile config s (Begin ops now) never =
    begin_same (pends_nothing s.pending && may_store profile config s.stored ops now) (AGroup ops now) s never
not_allowed profile config s Store never = land_same (if_group s.pending) config s never
not_allowed profile config s (BeginCut now) never =
    begin_same (pends_nothing s.pending && may_rotate profile s.stored) (ACut now) s never
not_allowed profile config s Rotate never = land_same (if_cut s.pending) config s never
not_allowed profile config s (BeginDrop now) never =
    begin_same (pends_nothing s.pending && may_drop config s.stored now) ADrop s never
not_allowed profile config s Drop never = land_same (if_drop s.pending) config s never
not_allowed profile config s (Settle goes_in) never = settle_same config goes_in s (is_none_pending s.pending never)
not_allowed profile config s Show never = show_same (pends_nothing s.pending) s never
