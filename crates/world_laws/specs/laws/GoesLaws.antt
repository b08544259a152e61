-- What a move of the world does to each shard and to each worker: where one stands behind a move, it stood before, and
-- went on in one of a few ways.
use Rattle.std.proofs.Common.{◌≡◌, ◌⊎◌, inl, inr, ℕ, zero, suc, Bool, true, false, ◌&&◌, List, [], ◌∷◌, map}
use Rattle.std.proofs.Common.{if◌then◌else◌, slice_get, Option, Some, None, refl, sym, ap, subst, ◌∙◌}
use Rattle.std.specs.Prelude.{◌==◌}
use Rattle.std.proofs.lemmas.Bool.{eqb-true}
use Rattle.std.proofs.lemmas.Option.{none-some, same_Some}
use Rattle.topic_model.specs.Profile.{Profile, Config}
use Rattle.shard_model.specs.ShardList.{ShardList}
use Rattle.shard_model.specs.Storing.{Op}
use Rattle.shard_model.specs.ShardMoves.{ShardMove, if_group}
use Rattle.shard_model.specs.ShardMoves as Shards
use Rattle.mqtt_packet.specs.Packet.{PlainPacket}
use Rattle.turn_model.specs.Step.{Ask}
use Rattle.turn_model.specs.Worker.{Worker, setting_of, connection_in, session_in}
use Rattle.turn_model.specs.WorkerMoves.{WorkerMove, Asker, worker_step, crashed_worker}
use Rattle.turn_model.specs.WorkerMoves as Workers
use Rattle.world_model.specs.World.{World, WorldShard, Move, Begin, Store, BeginRotate, Rotate, BeginDrop, Drop}
use Rattle.world_model.specs.World.{SettleShard, Show, View, BeginCommit, Commit, SettleJournal, Emit, Bind, TakeOver}
use Rattle.world_model.specs.World.{Unbind, Crash, at_place, ask_with, asker_with, shard_moved, begin_group, begin_at}
use Rattle.world_model.specs.World.{begin_by, messages_in, handed_to, handed_if, handed_by, viewed_by, without_asker}
use Rattle.world_model.specs.World.{allows_worker, askers_kept, crash_shard, crash_shards, crash_workers}
use Rattle.world_model.specs.World.{crashed_shards}
use Rattle.world_model.specs.World.{shown_lists, stored_at, world_step}
use Rattle.world_laws.specs.Reached.{HasShard, HasWorker}

-- ---- one of several

pub at_place_from : {A : Type 0} (place : ℕ) (f : A → A) (xs : List A) (k : ℕ) (y : A) →
    slice_get (at_place place f xs) k ≡ Some y →
    (x : A) × ((slice_get xs k ≡ Some x) × ((y ≡ x) ⊎ ((place ≡ k) × (y ≡ f x))))
at_place_from place f [] k y e = absurd (none-some y e)
at_place_from zero f (x ∷ xs) zero y e = (x, (refl, inr (refl, sym (same_Some (f x) y e))))
at_place_from zero f (x ∷ xs) (suc k) y e = (y, (e, inl refl))
at_place_from (suc place) f (x ∷ xs) zero y e = (x, (refl, inl (sym (same_Some x y e))))
at_place_from (suc place) f (x ∷ xs) (suc k) y e = further (at_place_from place f xs k y e)
  where
    further : ((z : _) × ((slice_get xs k ≡ Some z) × ((y ≡ z) ⊎ ((place ≡ k) × (y ≡ f z))))) →
        (z : _) × ((slice_get xs k ≡ Some z) × ((y ≡ z) ⊎ ((suc place ≡ suc k) × (y ≡ f z))))
    further (z, (at, inl same)) = (z, (at, inl same))
    further (z, (at, inr moved)) = (z, (at, inr (ap suc moved.0, moved.1)))

pub map_from : {A : Type 0} {B : Type 0} (f : A → B) (xs : List A) (k : ℕ) (y : B) → slice_get (map f xs) k ≡ Some y →
    (x : A) × ((slice_get xs k ≡ Some x) × (y ≡ f x))
map_from f [] k y e = absurd (none-some y e)
map_from f (x ∷ xs) zero y e = (x, (refl, sym (same_Some (f x) y e)))
map_from f (x ∷ xs) (suc k) y e = map_from f xs k y e

-- ---- a shard

-- it stays, makes a move, has a group begun, is left by who asked, or crashes
pub data ShardGoes (profile : Profile) (config : Config) (w : World) (shard : ℕ) (s t : WorldShard) : Type 0 where
  Stays : t ≡ s → ShardGoes profile config w shard s t
  Moves : (move : ShardMove) → t ≡ shard_moved profile config move s → ShardGoes profile config w shard s t
  Begins : (worker conn now : ℕ) (packets : List PlainPacket) (k : Worker) (ask : Ask) (asker : Asker) →
      HasWorker w worker k →
      ask_with (setting_of profile config now k) k packets (connection_in k conn) (session_in k conn) ≡ Some ask →
      asker_with k.number conn packets (session_in k conn) ≡ Some asker →
      ask.shard ≡ shard → t ≡ begin_group profile config asker ask.ops now s → ShardGoes profile config w shard s t
  IsLeft : (worker conn : ℕ) → t ≡ without_asker profile config worker conn s → ShardGoes profile config w shard s t
  Crashes : (goes_in : Bool) → t ≡ crash_shard profile config goes_in s → ShardGoes profile config w shard s t

-- a shard, of which this is what it stood as before
abbrev pub GoesFrom : Profile → Config → World → ℕ → WorldShard → Type 0
GoesFrom profile config w shard t = (s : WorldShard) × (HasShard w shard s × ShardGoes profile config w shard s t)

module _ (profile : Profile) (config : Config) where
  stays_from : (w : World) (shard : ℕ) (t : WorldShard) → HasShard w shard t → GoesFrom profile config w shard t
  stays_from w shard t at = (t, (at, Stays refl))

  moves_from : (w : World) (place shard : ℕ) (move : ShardMove) (t : WorldShard) →
      slice_get (at_place place (shard_moved profile config move) w.shards) shard ≡ Some t →
      GoesFrom profile config w shard t
  moves_from w place shard move t e = by (at_place_from place (shard_moved profile config move) w.shards shard t e)
    where
      by : ((s : WorldShard) × ((slice_get w.shards shard ≡ Some s)
          × ((t ≡ s) ⊎ ((place ≡ shard) × (t ≡ shard_moved profile config move s))))) →
          GoesFrom profile config w shard t
      by (s, (at, inl same)) = (s, (at, Stays same))
      by (s, (at, inr moved)) = (s, (at, Moves move moved.1))

  crash_from : (choices : List Bool) (ss : List WorldShard) (shard : ℕ) (t : WorldShard) →
      slice_get (crash_shards profile config choices ss) shard ≡ Some t →
      (s : WorldShard) ×
      ((slice_get ss shard ≡ Some s) × ((goes_in : Bool) × (t ≡ crash_shard profile config goes_in s)))
  crash_from choices [] shard t e = absurd (none-some t e)
  crash_from [] (s ∷ ss) zero t e = (s, (refl, (false, sym (same_Some (crash_shard profile config false s) t e))))
  crash_from [] (s ∷ ss) (suc shard) t e = crash_from [] ss shard t e
  crash_from (goes_in ∷ choices) (s ∷ ss) zero t e =
      (s, (refl, (goes_in, sym (same_Some (crash_shard profile config goes_in s) t e))))
  crash_from (goes_in ∷ choices) (s ∷ ss) (suc shard) t e = crash_from choices ss shard t e

  left_from : (w : World) (goes : Bool) (worker conn shard : ℕ) (t : WorldShard) →
      slice_get (askers_kept profile config goes worker conn w.shards) shard ≡ Some t →
      GoesFrom profile config w shard t
  left_from w false worker conn shard t e = (t, (e, Stays refl))
  left_from w true worker conn shard t e = by (map_from (without_asker profile config worker conn) w.shards shard t e)
    where
      by : ((s : WorldShard) ×
          ((slice_get w.shards shard ≡ Some s) × (t ≡ without_asker profile config worker conn s))) →
          GoesFrom profile config w shard t
      by (s, (at, same)) = (s, (at, IsLeft worker conn same))

  -- a group is begun
  begun_from : (w : World) (place shard worker conn now : ℕ) (packets : List PlainPacket) (k : Worker) →
      HasWorker w worker k → (ask : Option Ask) (asker : Option Asker) →
      ask_with (setting_of profile config now k) k packets (connection_in k conn) (session_in k conn) ≡ ask →
      asker_with k.number conn packets (session_in k conn) ≡ asker → (t : WorldShard) →
      slice_get (begin_at profile config place now ask asker w.shards) shard ≡ Some t →
      GoesFrom profile config w shard t
  begun_from w place shard worker conn now packets k is_there None asker asks asked t e = stays_from w shard t e
  begun_from w place shard worker conn now packets k is_there (Some ask) None asks asked t e = stays_from w shard t e
  begun_from w place shard worker conn now packets k is_there (Some ask) (Some asker) asks asked t e =
      by (ask.shard == place) refl e
    where
      at_one : (place ≡ ask.shard) → ((s : WorldShard) × ((slice_get w.shards shard ≡ Some s)
          × ((t ≡ s) ⊎ ((place ≡ shard) × (t ≡ begin_group profile config asker ask.ops now s))))) →
          GoesFrom profile config w shard t
      at_one of_it (s, (at, inl same)) = (s, (at, Stays same))
      at_one of_it (s, (at, inr moved)) =
          (s, (at, Begins worker conn now packets k ask asker is_there asks asked (sym of_it ∙ moved.0) moved.1))

      by : (b : Bool) → (ask.shard == place) ≡ b →
          slice_get (if b then at_place place
          (begin_group profile config asker ask.ops now) w.shards else w.shards) shard
          ≡ Some t → GoesFrom profile config w shard t
      by true same at =
          at_one (sym (eqb-true ask.shard place same))
          (at_place_from place (begin_group profile config asker ask.ops now) w.shards shard t at)
      by false other at = stays_from w shard t at

  begin_from : (w : World) (place shard worker conn now : ℕ) (packets : List PlainPacket) (found : Option Worker) →
      slice_get w.workers worker ≡ found → (t : WorldShard) →
      slice_get (begin_by profile config place conn packets now found w.shards) shard ≡ Some t →
      GoesFrom profile config w shard t
  begin_from w place shard worker conn now packets None is_there t e = stays_from w shard t e
  begin_from w place shard worker conn now packets (Some k) is_there t e =
      begun_from w place shard worker conn now packets k is_there
      (ask_with (setting_of profile config now k) k packets (connection_in k conn) (session_in k conn))
      (asker_with k.number conn packets (session_in k conn)) refl refl t e

-- each shard behind a move stood before it, and went on so
pub shard_goes : (profile : Profile) (w : World) (move : Move) (shard : ℕ) (t : WorldShard) →
    HasShard (world_step profile w move) shard t → GoesFrom profile w.config w shard t
shard_goes profile w (Begin place worker conn packets now) shard t at =
    begin_from profile w.config w place shard worker conn now packets (slice_get w.workers worker) refl t at
shard_goes profile w (Store place) shard t at = moves_from profile w.config w place shard Shards.Store t at
shard_goes profile w (BeginRotate place now) shard t at =
    moves_from profile w.config w place shard (Shards.BeginCut now) t at
shard_goes profile w (Rotate place) shard t at = moves_from profile w.config w place shard Shards.Rotate t at
shard_goes profile w (BeginDrop place now) shard t at =
    moves_from profile w.config w place shard (Shards.BeginDrop now) t at
shard_goes profile w (Drop place) shard t at = moves_from profile w.config w place shard Shards.Drop t at
shard_goes profile w (SettleShard place goes_in) shard t at =
    moves_from profile w.config w place shard (Shards.Settle goes_in) t at
shard_goes profile w (Show place) shard t at = moves_from profile w.config w place shard Shards.Show t at
shard_goes profile w (View worker place) shard t at = stays_from profile w.config w shard t at
shard_goes profile w (BeginCommit worker cause now) shard t at = stays_from profile w.config w shard t at
shard_goes profile w (Commit worker) shard t at = stays_from profile w.config w shard t at
shard_goes profile w (SettleJournal worker goes_in now) shard t at = stays_from profile w.config w shard t at
shard_goes profile w (Emit worker emitted now) shard t at = stays_from profile w.config w shard t at
shard_goes profile w (Bind worker conn now) shard t at = stays_from profile w.config w shard t at
shard_goes profile w (TakeOver worker conn) shard t at =
    left_from profile w.config w
    (allows_worker profile w.config (Workers.TakeOver conn) (slice_get w.workers worker)) worker conn shard t at
shard_goes profile w (Unbind worker conn ending now) shard t at =
    left_from profile w.config w
    (allows_worker profile w.config (Workers.Unbind conn ending now)
    (slice_get w.workers worker)) worker conn shard t at
shard_goes profile w (Crash now of_shards of_workers) shard t at =
    by (crash_from profile w.config of_shards w.shards shard t at)
  where
    by : ((s : WorldShard) × ((slice_get w.shards shard ≡ Some s)
        × ((goes_in : Bool) × (t ≡ crash_shard profile w.config goes_in s)))) → GoesFrom profile w.config w shard t
    by (s, (is_there, (goes_in, same))) = (s, (is_there, Crashes goes_in same))

-- ---- a worker

-- a move that names no list of a shard and no group of one
abbrev pub is_of_itself : WorkerMove → Bool
is_of_itself (Workers.View shard list) = false
is_of_itself (Workers.Stored shard a messages) = false
is_of_itself other = true

-- It stays, makes a move of its own, looks at a shard, is handed what a shard stored, or crashes.
pub data WorkerGoes (profile : Profile) (config : Config) (w next : World) (worker : ℕ) (k l : Worker) : Type 0 where
  KStays : l ≡ k → WorkerGoes profile config w next worker k l
  KMoves : (move : WorkerMove) → is_of_itself move ≡ true → l ≡ worker_step profile config k move →
      WorkerGoes profile config w next worker k l
  KViews : (shard : ℕ) (s : WorldShard) → HasShard w shard s → next.shards ≡ w.shards →
      l ≡ worker_step profile config k (Workers.View shard s.shard.shown) → WorkerGoes profile config w next worker k l
  KIsHanded : (shard : ℕ) (s : WorldShard) (a : Asker) → HasShard w shard s → if_group s.shard.pending ≡ true →
      s.asked ≡ Some a → a.worker ≡ worker → next ≡ stored_at profile shard w →
      l ≡ worker_step profile config k
      (Workers.Stored shard a (messages_in profile config s.shard.stored s.shard.pending)) →
      WorkerGoes profile config w next worker k l
  KCrashes : (now : ℕ) (goes_in : Bool) → l ≡ crashed_worker (shown_lists next.shards) now goes_in k →
      WorkerGoes profile config w next worker k l

abbrev pub WorkerGoesFrom : Profile → Config → World → World → ℕ → Worker → Type 0
WorkerGoesFrom profile config w next worker l =
    (k : Worker) × (HasWorker w worker k × WorkerGoes profile config w next worker k l)

module _ (profile : Profile) (config : Config) where
  k_stays : (w next : World) (worker : ℕ) (l : Worker) → HasWorker w worker l →
      WorkerGoesFrom profile config w next worker l
  k_stays w next worker l at = (l, (at, KStays refl))

  k_moves : (w next : World) (place worker : ℕ) (move : WorkerMove) → is_of_itself move ≡ true → (l : Worker) →
      slice_get (at_place place (λ k. worker_step profile config k move) w.workers) worker ≡ Some l →
      WorkerGoesFrom profile config w next worker l
  k_moves w next place worker move own l e =
      by (at_place_from place (λ k. worker_step profile config k move) w.workers worker l e)
    where
      by : ((k : Worker) × ((slice_get w.workers worker ≡ Some k)
          × ((l ≡ k) ⊎ ((place ≡ worker) × (l ≡ worker_step profile config k move))))) →
          WorkerGoesFrom profile config w next worker l
      by (k, (at, inl same)) = (k, (at, KStays same))
      by (k, (at, inr moved)) = (k, (at, KMoves move own moved.1))

  k_views : (w : World) (place shard worker : ℕ) (found : Option WorldShard) → slice_get w.shards shard ≡ found →
      (l : Worker) → slice_get (at_place place (viewed_by profile config shard found) w.workers) worker ≡ Some l →
      (next : World) → next.shards ≡ w.shards → WorkerGoesFrom profile config w next worker l
  k_views w place shard worker None is_there l e next same_shards =
      by (at_place_from place (viewed_by profile config shard None) w.workers worker l e)
    where
      by : ((k : Worker) × ((slice_get w.workers worker ≡ Some k) × ((l ≡ k) ⊎ ((place ≡ worker) × (l ≡ k))))) →
          WorkerGoesFrom profile config w next worker l
      by (k, (at, inl same)) = (k, (at, KStays same))
      by (k, (at, inr moved)) = (k, (at, KStays moved.1))
  k_views w place shard worker (Some s) is_there l e next same_shards =
      by (at_place_from place (viewed_by profile config shard (Some s)) w.workers worker l e)
    where
      by : ((k : Worker) × ((slice_get w.workers worker ≡ Some k)
          × ((l ≡ k)
          ⊎ ((place ≡ worker) × (l ≡ worker_step profile config k (Workers.View shard s.shard.shown)))))) →
          WorkerGoesFrom profile config w next worker l
      by (k, (at, inl same)) = (k, (at, KStays same))
      by (k, (at, inr moved)) = (k, (at, KViews shard s is_there same_shards moved.1))

  k_handed : (w : World) (shard worker : ℕ) (s : WorldShard) → HasShard w shard s → if_group s.shard.pending ≡ true →
      (asked : Option Asker) → s.asked ≡ asked → (l : Worker) →
      slice_get (handed_to profile config shard asked
      (messages_in profile config s.shard.stored s.shard.pending) w.workers) worker ≡ Some l →
      WorkerGoesFrom profile config w (stored_at profile shard w) worker l
  k_handed w shard worker s is_there group None who l e = k_stays w (stored_at profile shard w) worker l e
  k_handed w shard worker s is_there group (Some a) who l e =
      by (at_place_from a.worker
      (λ k. worker_step profile config k
      (Workers.Stored shard a (messages_in profile config s.shard.stored s.shard.pending))) w.workers worker l e)
    where
      by : ((k : Worker) × ((slice_get w.workers worker ≡ Some k)
          × ((l ≡ k)
          ⊎ ((a.worker ≡ worker)
          × (l ≡ worker_step profile config k
          (Workers.Stored shard a (messages_in profile config s.shard.stored s.shard.pending))))))) →
          WorkerGoesFrom profile config w (stored_at profile shard w) worker l
      by (k, (at, inl same)) = (k, (at, KStays same))
      by (k, (at, inr moved)) = (k, (at, KIsHanded shard s a is_there group who moved.0 refl moved.1))

  k_handed_if : (w : World) (shard worker : ℕ) (s : WorldShard) → HasShard w shard s → (group : Bool) →
      if_group s.shard.pending ≡ group → (l : Worker) →
      slice_get (handed_if profile config group shard s w.workers) worker ≡ Some l →
      WorkerGoesFrom profile config w (stored_at profile shard w) worker l
  k_handed_if w shard worker s is_there true group l e = k_handed w shard worker s is_there group s.asked refl l e
  k_handed_if w shard worker s is_there false group l e = k_stays w (stored_at profile shard w) worker l e

  k_handed_by : (w : World) (shard worker : ℕ) (found : Option WorldShard) → slice_get w.shards shard ≡ found →
      (l : Worker) → slice_get (handed_by profile config shard found w.workers) worker ≡ Some l →
      WorkerGoesFrom profile config w (stored_at profile shard w) worker l
  k_handed_by w shard worker None is_there l e = k_stays w (stored_at profile shard w) worker l e
  k_handed_by w shard worker (Some s) is_there l e =
      k_handed_if w shard worker s is_there (if_group s.shard.pending) refl l e

k_crash : (profile : Profile) (config : Config) (lists : List ShardList) (now : ℕ) (choices : List Bool)
    (ks : List Worker) (worker : ℕ) (l : Worker) →
    slice_get (crash_workers profile config lists now choices ks) worker ≡ Some l →
    (k : Worker) × ((slice_get ks worker ≡ Some k) × ((goes_in : Bool) × (l ≡ crashed_worker lists now goes_in k)))
k_crash profile config lists now choices [] worker l e = absurd (none-some l e)
k_crash profile config lists now [] (k ∷ ks) zero l e =
    (k, (refl, (false, sym (same_Some (crashed_worker lists now false k) l e))))
k_crash profile config lists now [] (k ∷ ks) (suc worker) l e = k_crash profile config lists now [] ks worker l e
k_crash profile config lists now (goes_in ∷ choices) (k ∷ ks) zero l e =
    (k, (refl, (goes_in, sym (same_Some (crashed_worker lists now goes_in k) l e))))
k_crash profile config lists now (goes_in ∷ choices) (k ∷ ks)
    (suc worker) l e = k_crash profile config lists now choices ks worker l e

-- each worker behind a move stood before it, and went on so
pub worker_goes : (profile : Profile) (w : World) (move : Move) (worker : ℕ) (l : Worker) →
    HasWorker (world_step profile w move) worker l →
    WorkerGoesFrom profile w.config w (world_step profile w move) worker l
worker_goes profile w (Begin place by_worker conn packets now) worker l at =
    k_stays profile w.config w (world_step profile w (Begin place by_worker conn packets now)) worker l at
worker_goes profile w (Store shard) worker l at =
    k_handed_by profile w.config w shard worker (slice_get w.shards shard) refl l at
worker_goes profile w (BeginRotate place now) worker l at =
    k_stays profile w.config w (world_step profile w (BeginRotate place now)) worker l at
worker_goes profile w (Rotate place) worker l at =
    k_stays profile w.config w (world_step profile w (Rotate place)) worker l at
worker_goes profile w (BeginDrop place now) worker l at =
    k_stays profile w.config w (world_step profile w (BeginDrop place now)) worker l at
worker_goes profile w (Drop place) worker l at =
    k_stays profile w.config w (world_step profile w (Drop place)) worker l at
worker_goes profile w (SettleShard place goes_in) worker l at =
    k_stays profile w.config w (world_step profile w (SettleShard place goes_in)) worker l at
worker_goes profile w (Show place) worker l at =
    k_stays profile w.config w (world_step profile w (Show place)) worker l at
worker_goes profile w (View place shard) worker l at =
    k_views profile w.config w place shard worker (slice_get w.shards shard) refl l at
    (world_step profile w (View place shard)) refl
worker_goes profile w (BeginCommit place cause now) worker l at =
    k_moves profile w.config w (world_step profile w (BeginCommit place cause now)) place worker
    (Workers.BeginCommit cause now) refl l at
worker_goes profile w (Commit place) worker l at =
    k_moves profile w.config w (world_step profile w (Commit place)) place worker Workers.Commit refl l at
worker_goes profile w (SettleJournal place goes_in now) worker l at =
    k_moves profile w.config w (world_step profile w (SettleJournal place goes_in now)) place worker
    (Workers.Settle goes_in now) refl l at
worker_goes profile w (Emit place emitted now) worker l at =
    k_moves profile w.config w (world_step profile w (Emit place emitted now)) place worker (Workers.Emit emitted now)
    refl l at
worker_goes profile w (Bind place conn now) worker l at =
    k_moves profile w.config w (world_step profile w (Bind place conn now)) place worker (Workers.Bind conn now) refl l
    at
worker_goes profile w (TakeOver place conn) worker l at =
    k_moves profile w.config w (world_step profile w (TakeOver place conn)) place worker (Workers.TakeOver conn) refl l
    at
worker_goes profile w (Unbind place conn ending now) worker l at =
    k_moves profile w.config w (world_step profile w (Unbind place conn ending now)) place worker
    (Workers.Unbind conn ending now) refl l at
worker_goes profile w (Crash now of_shards of_workers) worker l at =
    by (k_crash profile w.config
    (shown_lists (crashed_shards profile now of_shards w).shards) now of_workers w.workers worker l at)
  where
    by : ((k : Worker) × ((slice_get w.workers worker ≡ Some k)
        × ((goes_in : Bool)
        × (l ≡ crashed_worker (shown_lists (crashed_shards profile now of_shards w).shards) now goes_in k)))) →
        WorkerGoesFrom profile w.config w (world_step profile w (Crash now of_shards of_workers)) worker l
    by (k, (is_there, (goes_in, same))) = (k, (is_there, KCrashes now goes_in same))

-- the configuration stays
pub config_stays : (profile : Profile) (w : World) (move : Move) → (world_step profile w move).config ≡ w.config
config_stays profile w (Begin place worker conn packets now) = refl
config_stays profile w (Store shard) = refl
config_stays profile w (BeginRotate place now) = refl
config_stays profile w (Rotate place) = refl
config_stays profile w (BeginDrop place now) = refl
config_stays profile w (Drop place) = refl
config_stays profile w (SettleShard place goes_in) = refl
config_stays profile w (Show place) = refl
config_stays profile w (View place shard) = refl
config_stays profile w (BeginCommit place cause now) = refl
config_stays profile w (Commit place) = refl
config_stays profile w (SettleJournal place goes_in now) = refl
config_stays profile w (Emit place emitted now) = refl
config_stays profile w (Bind place conn now) = refl
config_stays profile w (TakeOver place conn) = refl
config_stays profile w (Unbind place conn ending now) = refl
config_stays profile w (Crash now of_shards of_workers) = refl
