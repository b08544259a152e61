-- What is to hold of who is who.
use Rattle.std.specs.Prelude.{ℕ, ◌≡◌, ◌⊎◌, slice_get, Some}
use Rattle.topic_model.specs.Places.{HasPlace}
use Rattle.session_model.specs.PlainSession.{PlainSession}
use Rattle.turn_model.specs.PlainConnection.{PlainConnection}
use Rattle.turn_model.specs.Worker.{Worker, sessions_of}
use Rattle.world_model.specs.World.{World}
use Rattle.world_laws.specs.Reached.{HasWorker}

-- Of one worker: a client has one session, and a number is of one session; a client has at most one connection, and a
-- number is of one connection.
pub record AreDistinct (k : Worker) : Type 0 where
  pub clients : (i j : ℕ) (m n : PlainSession) → slice_get (sessions_of k).list i ≡ Some m →
      slice_get (sessions_of k).list j ≡ Some n → m.client ≡ n.client → i ≡ j
  pub numbers : (i j : ℕ) (m n : PlainSession) → slice_get (sessions_of k).list i ≡ Some m →
      slice_get (sessions_of k).list j ≡ Some n → m.incarnation ≡ n.incarnation → i ≡ j
  pub connections : (i j : ℕ) (c d : PlainConnection) → slice_get k.connections i ≡ Some c →
      slice_get k.connections j ≡ Some d →
      (c.client ≡ d.client) ⊎ (c.number ≡ d.number) → i ≡ j

-- Of all workers: a client has its session, and its connection, at one worker.
pub record AllAreDistinct (w : World) : Type 0 where
  pub each : (worker : ℕ) (k : Worker) → HasWorker w worker k → AreDistinct k
  pub homes : (worker other : ℕ) (k l : Worker) (m n : PlainSession) → HasWorker w worker k → HasWorker w other l →
      HasPlace (sessions_of k).list m → HasPlace (sessions_of l).list n → m.client ≡ n.client → worker ≡ other
  pub connections : (worker other : ℕ) (k l : Worker) (c d : PlainConnection) → HasWorker w worker k →
      HasWorker w other l → HasPlace k.connections c → HasPlace l.connections d → c.client ≡ d.client → worker ≡ other
