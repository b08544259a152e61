-- What is to hold of every world that a list of moves leads to, and of each move from there.
use Rattle.std.specs.Prelude.{ℕ, ◌≡◌, List}
use Rattle.topic_model.specs.Profile.{Profile, Config}
use Rattle.turn_model.specs.Worker.{Worker}
use Rattle.world_model.specs.World.{World, WorldShard, Move, world_step}
use Rattle.world_laws.specs.Reached.{reached_world, HasShard, HasWorker}
use Rattle.world_laws.specs.StoredLists.{AreGrown, IsAllEver, TakesNothing, AreAwaited, StoresNoOther}
use Rattle.world_laws.specs.Issued.{AreSeen, AreNumbered, ArePrefixes, AreWholePrefixes, AreInOrder, ChangesFit}
use Rattle.world_laws.specs.SentAgain.{ResendsComeFirst, BindsAll, ResendsAreInOrder, ResendsAreTheSame}
use Rattle.world_laws.specs.SentAgain.{PublishesAreTheSame, NotesAreOuts, ZeroIsOnce}
use Rattle.world_laws.specs.Acknowledged.{AreKept, AcksAreTold, AllAreCommitted, DueComes}
use Rattle.world_laws.specs.Distinct.{AllAreDistinct}

-- of each shard, and of each shard before and behind a move
abbrev pub OfShards : (WorldShard → Type 0) → World → Type 0
OfShards P w = (shard : ℕ) (s : WorldShard) → HasShard w shard s → P s

abbrev pub OfShardMoves : (WorldShard → WorldShard → Type 0) → World → World → Type 0
OfShardMoves P w next =
    (shard : ℕ) (s later : WorldShard) → HasShard w shard s → HasShard next shard later → P s later

-- of each worker before and behind a move
abbrev pub OfWorkerMoves : (Worker → Worker → Type 0) → World → World → Type 0
OfWorkerMoves P w next =
    (worker : ℕ) (k later : Worker) → HasWorker w worker k → HasWorker next worker later → P k later

-- The laws of a world.
pub record Holds (profile : Profile) (w : World) : Type 0 where
  pub lists : AreGrown w
  pub ever : OfShards IsAllEver w
  pub awaited : OfShards AreAwaited w
  pub positions : AreSeen w
  pub tracks : AreNumbered w
  pub prefixes : ArePrefixes w
  pub whole_prefixes : AreWholePrefixes w
  pub acknowledged : AreKept w
  pub committed : AllAreCommitted w
  pub first : ResendsComeFirst w
  pub in_order : ResendsAreInOrder w
  pub same_message : ResendsAreTheSame w
  pub same_packet : PublishesAreTheSame w
  pub zero : ZeroIsOnce w
  pub distinct : AllAreDistinct w
  pub sweeps : AreInOrder profile w
  pub changes : ChangesFit profile w

-- The laws of a move.
pub record MovesHold (profile : Profile) (config : Config) (w : World) (move : Move) : Type 0 where
  pub nothing_taken : OfShardMoves TakesNothing w (world_step profile w move)
  pub stored_once : OfShardMoves StoresNoOther w (world_step profile w move)
  pub binds_all : OfWorkerMoves BindsAll w (world_step profile w move)
  pub noted : NotesAreOuts profile config w
  pub told : AcksAreTold profile config w
  pub due : DueComes profile config w

-- They hold after every list of moves.
pub record HoldAlways (profile : Profile) (config : Config) : Type 0 where
  pub worlds : (moves : List Move) → Holds profile (reached_world profile config moves)
  pub moves : (moves : List Move) (move : Move) →
      MovesHold profile config (reached_world profile config moves) move
