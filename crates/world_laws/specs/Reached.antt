-- The worlds that lists of moves lead to, and what is in them.
use Rattle.std.specs.Prelude.{ℕ, ◌≡◌, ◌++◌, List, [], ◌∷◌, slice_get, Option, Some, None}
use Rattle.topic_model.specs.Profile.{Profile, Config}
use Rattle.topic_model.specs.Places.{HasPlace}
use Rattle.session_model.specs.PlainSession.{PlainSession, Subscription, Sessions}
use Rattle.session_model.specs.Acting.{act_all}
use Rattle.turn_model.specs.Worker.{Worker, PendingRecord, sessions_of}
use Rattle.world_model.specs.World.{World, WorldShard, Move, opening_world, after_moves}

-- the world that a list of moves leads to
abbrev pub reached_world : Profile → Config → List Move → World
reached_world profile config moves = after_moves profile (opening_world config) moves

-- the shard, and the worker, with this number
abbrev pub HasShard : World → ℕ → WorldShard → Type 0
HasShard w shard s = slice_get w.shards shard ≡ Some s

abbrev pub HasWorker : World → ℕ → Worker → Type 0
HasWorker w worker k = slice_get w.workers worker ≡ Some k

-- the sessions of a worker as they stand with the owed changes, as they are committed, and as they would stand with the
-- record that pends
abbrev pub and_pending : Worker → Option PendingRecord → List Sessions
and_pending k None = []
and_pending k (Some p) = act_all k.committed (p.owed ++ p.changes) ∷ []

abbrev pub possible_sessions : Worker → List Sessions
possible_sessions k = sessions_of k ∷ k.committed ∷ and_pending k k.pending

-- a session that a worker of this world has, or may find itself with
abbrev pub HasSession : World → ℕ → Worker → PlainSession → Type 0
HasSession w worker k m =
    HasWorker w worker k ×
    ((sessions : Sessions) × (HasPlace (possible_sessions k) sessions × HasPlace sessions.list m))

-- where a subscription of it starts in a shard
abbrev pub StartsAt : PlainSession → Subscription → ℕ → ℕ → Type 0
StartsAt m s shard start = HasPlace m.subscriptions s × (slice_get s.starts shard ≡ Some start)
