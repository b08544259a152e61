-- Over every list of moves: each entry of which a packet was put out, or is due, is among those that its session was
-- issued, as it is committed.
use Rattle.std.proofs.Common.{◌≡◌, ℕ, ◌<◌, List, [], map, replicate, slice_get, Option, Some, None, refl, sym, ap}
use Rattle.std.proofs.Common.{subst, ◌∙◌}
use Rattle.std.specs.Prelude.{bytes_eq, Bool, true, ◌&&◌, ◌==◌}
use Rattle.std.proofs.lemmas.Bool.{eqb-true, and_parts}
use Rattle.topic_model.specs.Profile.{Profile, Config}
use Rattle.topic_model.specs.Places.{HasPlace}
use Rattle.shard_model.specs.ShardList.{opening_list}
use Rattle.shard_model.specs.SweepOrder.{counted_from}
use Rattle.session_model.specs.declared.entry.Entry.{Entry}
use Rattle.session_model.specs.PlainSession.{PlainSession}
use Rattle.session_model.specs.Change.{Issues}
use Rattle.mqtt_packet.specs.Packet.{ConnectFields}
use Rattle.turn_model.specs.PlainConnection.{PlainConnection, is_bound_to}
use Rattle.turn_model.specs.Step.{Reply}
use Rattle.turn_model.specs.Worker.{Worker, Item, Answer, Accepts, Delivers, opening_worker, connection_in}
use Rattle.world_model.specs.World.{World, Move, opening_world, world_step}
use Rattle.world_laws.specs.Reached.{HasWorker}
use Rattle.world_laws.specs.Acknowledged.{AreCommitted, AllAreCommitted}
use Rattle.world_laws.specs.laws.PlaceLaws.{no_place}
use Rattle.world_laws.specs.laws.GoesLaws.{WorkerGoesFrom, map_from, worker_goes}
use Rattle.world_laws.specs.laws.SeenLaws.{OpensAs}
use Rattle.world_laws.specs.laws.OwedLaws.{OwesEnds}
use Rattle.world_laws.specs.laws.SessionsLaws.{same_text}
use Rattle.world_laws.specs.laws.DistinctLaws.{WorkersAreDistinct, IsDistinct, opening_distinct, distinct_goes}
use Rattle.world_laws.specs.laws.IssuedLaws.{IsKept}
use Rattle.world_laws.specs.laws.CommittedLaws.{AnswerIsIn, IsBoundWith}
use Rattle.world_laws.specs.laws.PutOutLaws.{IsCommitted}
use Rattle.world_laws.specs.laws.CommitMoveLaws.{goes_in_world, one_of_number, bound_there}

abbrev pub AreAllIn : World → Type 0
AreAllIn w = WorkersAreDistinct w × ((worker : ℕ) (k : Worker) → HasWorker w worker k → IsCommitted k)

pub all_in_goes : (profile : Profile) (w : World) (move : Move) → AreAllIn w → AreAllIn (world_step profile w move)
all_in_goes profile w move holds =
    (distinct_goes profile w move holds.0, λ worker l at. by worker l (worker_goes profile w move worker l at))
  where
    by : (worker : ℕ) (l : Worker) → WorkerGoesFrom profile w.config w (world_step profile w move) worker l →
        IsCommitted l
    by worker l (k, (at, goes)) =
        let distinct = holds.0 worker k at in
        goes_in_world w.config worker k distinct.0 distinct.1 (holds.1 worker k at) profile w
        (world_step profile w move) l goes

pub opening_in : (config : Config) → AreAllIn (opening_world config)
opening_in config = (
  opening_distinct config,
  λ worker k at. by worker k
      (map_from (λ (number : ℕ). opening_worker number (replicate config.shards (opening_list config)))
      (counted_from 0 config.workers) worker k at),
)
  where
    by : (worker : ℕ) (k : Worker) → OpensAs config worker k → IsCommitted k
    by worker k (number, (at, same)) =
        subst IsCommitted (sym same)
        (record {
          sent = λ n has. absurd (no_place n has);
          rest = λ c has. absurd (no_place c has);
          due = λ i has. absurd (no_place i has);
          pending = tt;
        })

-- ---- in a user's words

pub worker_committed : (config : Config) (worker : ℕ) (k : Worker) → OwesEnds k → IsDistinct config worker k →
    IsCommitted k → AreCommitted k
worker_committed config worker k owes distinct is =
    record {
      sent = λ note e m has noted there client number.
          (is.sent note has).0 m there client number e noted;
      due = due_of;
      accepted = λ i c client number rs has answers.
          subst (AnswerIsIn k.connections k.committed i.connection) answers (is.due i has);
    }
  where
    by : (i : Item) (b : Issues) (c : PlainConnection) (m : PlainSession) (e : Entry) →
        IsBoundWith k.connections k.committed i.connection b.entries → connection_in k i.connection ≡ Some c →
        HasPlace k.committed.list m → is_bound_to c m ≡ true → HasPlace b.entries e → HasPlace m.issued e
    by i b c m e (d, (there, (number, kept))) bound stands of_it has =
        let its = bound_there config worker k owes distinct is i.connection c bound in
        let one : d ≡ c = one_of_number config worker k owes distinct is d c there its.0 (number ∙ sym its.1) in
        let names = and_parts (bytes_eq m.client c.client) (m.incarnation == c.incarnation) of_it in
        (subst (λ (x : PlainConnection). IsKept k.committed x.client x.incarnation b.entries) one kept).0 m stands
        (same_text m.client c.client names.0) (eqb-true m.incarnation c.incarnation names.1) e has

    due_of : (i : Item) (b : Issues) (moment : ℕ) (fresh : Bool) (c : PlainConnection) (m : PlainSession) (e : Entry) →
        HasPlace k.due i → i.answer ≡ Delivers b moment fresh → connection_in k i.connection ≡ Some c →
        HasPlace k.committed.list m → is_bound_to c m ≡ true → HasPlace b.entries e → HasPlace m.issued e
    due_of i b moment fresh c m e has answers bound stands of_it there =
        by i b c m e (subst (AnswerIsIn k.connections k.committed i.connection) answers (is.due i has)) bound stands
        of_it there

pub all_committed : (w : World) → AreAllIn w → AllAreCommitted w
all_committed w holds worker k at =
    let distinct = holds.0 worker k at in
    worker_committed w.config worker k distinct.0 distinct.1 (holds.1 worker k at)
