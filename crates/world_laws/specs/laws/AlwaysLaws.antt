-- From moves to lists of moves, and the laws of the lists of shards over all of them.
use Rattle.std.proofs.Common.{ℕ, List, [], ◌∷◌}
use Rattle.topic_model.specs.Profile.{Profile, Config}
use Rattle.turn_model.specs.Worker.{Worker}
use Rattle.world_model.specs.World.{World, Move, opening_world, world_step, after_moves}
use Rattle.world_laws.specs.Reached.{reached_world, HasWorker}
use Rattle.world_laws.specs.StoredLists.{AreGrown, IsAllEver, TakesNothing, AreAwaited, StoresNoOther}
use Rattle.world_laws.specs.Acknowledged.{AreKept, AllAreCommitted, DueComes}
use Rattle.world_laws.specs.SentAgain.{BindsAll}
use Rattle.world_laws.specs.Distinct.{AllAreDistinct}
use Rattle.world_laws.specs.Always.{OfShards, OfShardMoves, OfWorkerMoves}
use Rattle.world_laws.specs.laws.SeenLaws.{grown_goes, opening_grown}
use Rattle.world_laws.specs.laws.EverLaws.{opening_ever, ever_goes, takes_nothing}
use Rattle.world_laws.specs.laws.OfEverLaws.{AreOfEver, opening_of_ever, of_ever_goes}
use Rattle.world_laws.specs.laws.AckedLaws.{AcksWere, opening_acks, acks_go, kept}
use Rattle.world_laws.specs.laws.OwedLaws.{OwesEnds, opening_owes, owes_goes}
use Rattle.world_laws.specs.laws.AwaitedLaws.{opening_awaited, awaited_goes}
use Rattle.world_laws.specs.laws.OnceLaws.{GroupFits, opening_group_fits, stores_no_other}
use Rattle.world_laws.specs.laws.GroupLaws.{group_fits_goes}
use Rattle.world_laws.specs.laws.DueLaws.{due_comes}
use Rattle.world_laws.specs.laws.DistinctLaws.{WorkersAreDistinct, opening_distinct, distinct_goes, all_distinct}
use Rattle.world_laws.specs.laws.AllCommittedLaws.{AreAllIn, opening_in, all_in_goes, all_committed}
use Rattle.world_laws.specs.laws.NoteLaws.{binds_all}

-- what each move keeps holds behind all of them
pub kept_by_moves : (profile : Profile) (P : World → Type 0) →
    ((w : World) (move : Move) → P w → P (world_step profile w move)) → (w : World) (moves : List Move) → P w →
    P (after_moves profile w moves)
kept_by_moves profile P keeps w [] holds = holds
kept_by_moves profile P keeps w (move ∷ moves) holds =
    kept_by_moves profile P keeps (world_step profile w move) moves (keeps w move holds)

-- ---- lists

pub always_grown : (profile : Profile) (config : Config) (moves : List Move) →
    AreGrown (reached_world profile config moves)
always_grown profile config moves =
    kept_by_moves profile AreGrown (λ w move grown. grown_goes profile w move grown) (opening_world config) moves
    (opening_grown config)

abbrev pub AreStored : World → Type 0
AreStored w = AreGrown w × OfShards IsAllEver w

pub always_stored : (profile : Profile) (config : Config) (moves : List Move) →
    AreStored (reached_world profile config moves)
always_stored profile config moves =
    kept_by_moves profile AreStored
    (λ w move holds. (grown_goes profile w move holds.0, ever_goes profile w move holds.0.shards holds.1))
    (opening_world config) moves (opening_grown config, opening_ever config)

pub nothing_taken : (profile : Profile) (config : Config) (moves : List Move) (move : Move) →
    OfShardMoves TakesNothing (reached_world profile config moves)
    (world_step profile (reached_world profile config moves) move)
nothing_taken profile config moves move =
    takes_nothing profile (reached_world profile config moves) move (always_grown profile config moves).shards

-- ---- QoS 2 is stored once

pub always_awaited : (profile : Profile) (config : Config) (moves : List Move) →
    OfShards AreAwaited (reached_world profile config moves)
always_awaited profile config moves =
    kept_by_moves profile (OfShards AreAwaited) (λ w move holds. awaited_goes profile w move holds)
    (opening_world config) moves (opening_awaited config)

-- each worker owes ends of sessions alone, and each group that pends is of one session
abbrev pub OweEnds : World → Type 0
OweEnds w = (worker : ℕ) (k : Worker) → HasWorker w worker k → OwesEnds k

abbrev pub GroupsFit : World → Type 0
GroupsFit w = OweEnds w × OfShards GroupFits w

pub groups_always_fit : (profile : Profile) (config : Config) (moves : List Move) →
    GroupsFit (reached_world profile config moves)
groups_always_fit profile config moves =
    kept_by_moves profile GroupsFit
    (λ w move holds. (owes_goes profile w move holds.0, group_fits_goes profile w move holds.0 holds.1))
    (opening_world config) moves (opening_owes config, opening_group_fits config)

pub stored_once : (profile : Profile) (config : Config) (moves : List Move) (move : Move) →
    OfShardMoves StoresNoOther (reached_world profile config moves)
    (world_step profile (reached_world profile config moves) move)
stored_once profile config moves move =
    stores_no_other profile (reached_world profile config moves) move (groups_always_fit profile config moves).1

-- ---- what becomes due

pub due_always_comes : (profile : Profile) (config : Config) (moves : List Move) →
    DueComes profile config (reached_world profile config moves)
due_always_comes profile config moves worker k move i is_there has = due_comes profile config k i move has

-- ---- what a bind notes

pub binds_always : (profile : Profile) (config : Config) (moves : List Move) (move : Move) →
    OfWorkerMoves BindsAll (reached_world profile config moves)
    (world_step profile (reached_world profile config moves) move)
binds_always profile config moves move = binds_all profile (reached_world profile config moves) move

-- ---- who is who

pub always_distinct : (profile : Profile) (config : Config) (moves : List Move) →
    AllAreDistinct (reached_world profile config moves)
always_distinct profile config moves =
    all_distinct (reached_world profile config moves)
    (kept_by_moves profile WorkersAreDistinct (λ w move holds. distinct_goes profile w move holds)
    (opening_world config) moves (opening_distinct config))

-- ---- acknowledged messages

abbrev pub AreAcked : World → Type 0
AreAcked w = AreGrown w × (OfShards IsAllEver w × (AreOfEver w × AcksWere w))

pub always_kept : (profile : Profile) (config : Config) (moves : List Move) →
    AreKept (reached_world profile config moves)
always_kept profile config moves =
    let (grown, (ever, (are, acks))) = kept_by_moves profile AreAcked (λ w move holds. step w move holds)
    (opening_world config) moves
    (opening_grown config, (opening_ever config, (opening_of_ever config, opening_acks config))) in
    kept (reached_world profile config moves) ever acks
  where
    step : (w : World) (move : Move) → AreAcked w → AreAcked (world_step profile w move)
    step w move (grown, (all, (are, acks))) =
        let ever = ever_goes profile w move grown.shards all in (
          grown_goes profile w move grown,
          (ever, (of_ever_goes profile w move grown ever are, acks_go profile w move grown ever are acks)),
        )

-- ---- put out after commit

pub always_committed : (profile : Profile) (config : Config) (moves : List Move) →
    AllAreCommitted (reached_world profile config moves)
always_committed profile config moves =
    all_committed (reached_world profile config moves)
    (kept_by_moves profile AreAllIn (λ w move holds. all_in_goes profile w move holds) (opening_world config) moves
    (opening_in config))
