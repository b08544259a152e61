-- Which moves of the world are allowed.
use Rattle.std.specs.Prelude.{ℕ, Bool, true, false, ◌&&◌, ◌==◌, List, [], ◌∷◌, slice_get, Option, Some, None}
use Rattle.topic_model.specs.Profile.{Profile, Config}
use Rattle.shard_model.specs.ShardMoves.{ShardMove}
use Rattle.shard_model.specs.ShardMoves as Shards
use Rattle.shard_model.specs.AllowedMoves.{shard_allows}
use Rattle.mqtt_packet.specs.Packet.{PlainPacket}
use Rattle.turn_model.specs.Step.{Ask}
use Rattle.turn_model.specs.Worker.{Worker, setting_of, connection_in, session_in}
use Rattle.turn_model.specs.WorkerMoves.{Asker}
use Rattle.turn_model.specs.WorkerMoves as Workers
use Rattle.world_model.specs.World.{World, WorldShard, Move, Begin, Store, BeginRotate, Rotate, BeginDrop, Drop}
use Rattle.world_model.specs.World.{SettleShard, Show, View, BeginCommit, Commit, SettleJournal, Emit, Bind, TakeOver}
use Rattle.world_model.specs.World.{Unbind, Crash, ask_with, asker_with, allows_worker}

module _ (profile : Profile) (config : Config) where
  -- of a shard that is there
  abbrev pub allows_shard : ShardMove → Option WorldShard → Bool
  allows_shard move None = false
  allows_shard move (Some s) = shard_allows profile config s.shard move

  -- packets of a bound connection that ask for a group of this shard, which may be begun there
  abbrev pub allows_group : ℕ → ℕ → Option Ask → Option Asker → Option WorldShard → Bool
  allows_group shard now (Some ask) (Some asked) s = (ask.shard == shard) && allows_shard (Shards.Begin ask.ops now) s
  allows_group shard now ask asked s = false

  abbrev pub allows_begin : ℕ → ℕ → List PlainPacket → ℕ → Option Worker → Option WorldShard → Bool
  allows_begin shard conn packets now None s = false
  allows_begin shard conn packets now (Some w) s =
      allows_group shard now
      (ask_with (setting_of profile config now w) w packets (connection_in w conn) (session_in w conn))
      (asker_with w.number conn packets (session_in w conn)) s

-- A View and a Crash always are; each other one where its shard, or its worker, allows it.
abbrev pub world_allows : Profile → World → Move → Bool
world_allows profile w (Begin shard worker conn packets now) =
    allows_begin profile w.config shard conn packets now (slice_get w.workers worker) (slice_get w.shards shard)
world_allows profile w (Store shard) = allows_shard profile w.config Shards.Store (slice_get w.shards shard)
world_allows profile w (BeginRotate shard now) =
    allows_shard profile w.config (Shards.BeginCut now) (slice_get w.shards shard)
world_allows profile w (Rotate shard) = allows_shard profile w.config Shards.Rotate (slice_get w.shards shard)
world_allows profile w (BeginDrop shard now) =
    allows_shard profile w.config (Shards.BeginDrop now) (slice_get w.shards shard)
world_allows profile w (Drop shard) = allows_shard profile w.config Shards.Drop (slice_get w.shards shard)
world_allows profile w (SettleShard shard goes_in) =
    allows_shard profile w.config (Shards.Settle goes_in) (slice_get w.shards shard)
world_allows profile w (Show shard) = allows_shard profile w.config Shards.Show (slice_get w.shards shard)
world_allows profile w (View worker shard) = true
world_allows profile w (BeginCommit worker cause now) =
    allows_worker profile w.config (Workers.BeginCommit cause now) (slice_get w.workers worker)
world_allows profile w (Commit worker) = allows_worker profile w.config Workers.Commit (slice_get w.workers worker)
world_allows profile w (SettleJournal worker goes_in now) =
    allows_worker profile w.config (Workers.Settle goes_in now) (slice_get w.workers worker)
world_allows profile w (Emit worker emitted now) =
    allows_worker profile w.config (Workers.Emit emitted now) (slice_get w.workers worker)
world_allows profile w (Bind worker conn now) =
    allows_worker profile w.config (Workers.Bind conn now) (slice_get w.workers worker)
world_allows profile w (TakeOver worker conn) =
    allows_worker profile w.config (Workers.TakeOver conn) (slice_get w.workers worker)
world_allows profile w (Unbind worker conn ending now) =
    allows_worker profile w.config (Workers.Unbind conn ending now) (slice_get w.workers worker)
world_allows profile w (Crash now of_shards of_workers) = true
