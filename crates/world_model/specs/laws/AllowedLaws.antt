-- A move of the world that isn't allowed changes nothing and puts out nothing.
use Rattle.std.proofs.Common.{◌≡◌, ℕ, zero, suc, Bool, true, false, ◌&&◌, not, eqb, if◌then◌else◌, List, [], ◌∷◌, ◌++◌}
use Rattle.std.proofs.Common.{slice_get, Option, Some, None, refl, sym, ap, ◌∙◌}
use Rattle.std.proofs.lemmas.List.{append-nil}
use Rattle.topic_model.specs.Profile.{Profile, Config}
use Rattle.topic_model.specs.StoredMessage.{StoredMessage}
use Rattle.shard_model.specs.Storing.{Op}
use Rattle.shard_model.specs.ShardMoves.{Shard, ShardMove, PendingChange, Nothing, AGroup, pends_nothing, if_group}
use Rattle.shard_model.specs.ShardMoves.{may_store, shard_step, begin_if}
use Rattle.shard_model.specs.ShardMoves as Shards
use Rattle.shard_model.specs.AllowedMoves.{shard_allows}
use Rattle.shard_model.specs.laws.AllowedMoveLaws as ShardLaws
use Rattle.mqtt_packet.specs.Packet.{PlainPacket}
use Rattle.turn_model.specs.Step.{Ask}
use Rattle.turn_model.specs.Worker.{Worker, Out, setting_of, connection_in, session_in}
use Rattle.turn_model.specs.WorkerMoves.{WorkerMove, Asker, worker_step}
use Rattle.turn_model.specs.WorkerMoves as Workers
use Rattle.turn_model.specs.Allowed.{worker_allows}
use Rattle.turn_model.specs.laws.AllowedLaws as WorkerLaws
use Rattle.world_model.specs.World.{World, WorldShard, Move, Begin, Store, BeginRotate, Rotate, BeginDrop, Drop}
use Rattle.world_model.specs.World.{SettleShard, Show, View, BeginCommit, Commit, SettleJournal, Emit, Bind, TakeOver}
use Rattle.world_model.specs.World.{Unbind, Crash, at_place, ask_with, asker_with, shard_moved, group_begun}
use Rattle.world_model.specs.World.{begin_group, begin_at, begin_by, handed_if, handed_by, acks_of, outs_of, on_shard}
use Rattle.world_model.specs.World.{on_worker, on_ending, allows_worker, askers_kept, added_if, added_on, stored_at}
use Rattle.world_model.specs.World.{world_step, world_outs}
use Rattle.world_model.specs.Allowed.{allows_shard, allows_group, allows_begin, world_allows}

-- ---- one of several that stays

stays_at : {A : Type 0} (place : ℕ) (f : A → A) (xs : List A) → ((x : A) → slice_get xs place ≡ Some x → f x ≡ x) →
    at_place place f xs ≡ xs
stays_at place f [] same = refl
stays_at zero f (x ∷ xs) same = ap (λ y. y ∷ xs) (same x refl)
stays_at (suc place) f (x ∷ xs) same = ap (λ ys. x ∷ ys) (stays_at place f xs same)

nothing_pends : (p : PendingChange) → not (pends_nothing p) ≡ false → p ≡ Nothing
nothing_pends Nothing never = refl
nothing_pends (AGroup ops now) never = cc
nothing_pends (Shards.ACut now) never = cc
nothing_pends Shards.ADrop never = cc

module _ (profile : Profile) (config : Config) where
  -- ---- a shard

  none_added : (s : Shard) (move : ShardMove) → shard_allows profile config s move ≡ false →
      added_on profile config move s ≡ []
  none_added s (Shards.Begin ops now) never = refl
  none_added s Shards.Store never = ap (λ (b : Bool). added_if profile config b s.pending s.stored) never
  none_added s (Shards.BeginCut now) never = refl
  none_added s Shards.Rotate never = refl
  none_added s (Shards.BeginDrop now) never = refl
  none_added s Shards.Drop never = refl
  none_added s (Shards.Settle goes_in) never =
      ap (λ (p : PendingChange). added_if profile config goes_in p s.stored) (nothing_pends s.pending never)
      ∙ none goes_in
    where
      none : (b : Bool) → added_if profile config b Nothing s.stored ≡ []
      none true = refl
      none false = refl
  none_added s Shards.Show never = refl

  shard_same : (move : ShardMove) (s : WorldShard) → shard_allows profile config s.shard move ≡ false →
      shard_moved profile config move s ≡ s
  shard_same move s never =
      ap (λ (x : Shard). record s { shard = x; ever = s.ever ++ added_on profile config move s.shard })
      (ShardLaws.not_allowed profile config s.shard move never)
      ∙ ap (λ (more : List StoredMessage). record s { ever = s.ever ++ more }) (none_added s.shard move never)
      ∙ ap (λ (ever : List StoredMessage). record s { ever = ever }) (append-nil s.ever)

  shards_same : (place : ℕ) (move : ShardMove) (ss : List WorldShard) →
      allows_shard profile config move (slice_get ss place) ≡ false →
      at_place place (shard_moved profile config move) ss ≡ ss
  shards_same place move ss never =
      stays_at place (shard_moved profile config move) ss
      (λ s at. shard_same move s (ap (allows_shard profile config move) (sym at) ∙ never))

  -- ---- a group

  begun_none : (asked : Asker) (ops : List Op) (now : ℕ) (s : WorldShard) →
      shard_allows profile config s.shard (Shards.Begin ops now) ≡ false →
      begin_group profile config asked ops now s ≡ s
  begun_none asked ops now s never =
      ap (λ (x : Shard). group_begun profile config asked s.shard x s)
      (ShardLaws.not_allowed profile config s.shard (Shards.Begin ops now) never)
      ∙ keeps s.shard.pending
    where
      keeps : (p : PendingChange) →
          record s { shard = s.shard; asked = if pends_nothing p && if_group p then Some asked else s.asked } ≡ s
      keeps Nothing = refl
      keeps (AGroup others moment) = refl
      keeps (Shards.ACut moment) = refl
      keeps Shards.ADrop = refl

  begin_same : (shard now : ℕ) (ask : Option Ask) (asked : Option Asker) (ss : List WorldShard) →
      allows_group profile config shard now ask asked (slice_get ss shard) ≡ false →
      begin_at profile config shard now ask asked ss ≡ ss
  begin_same shard now None None ss never = refl
  begin_same shard now None (Some asked) ss never = refl
  begin_same shard now (Some ask) None ss never = refl
  begin_same shard now (Some ask) (Some asked) ss never = by (eqb ask.shard shard) never
    where
      by : (b : Bool) → (b && allows_shard profile config (Shards.Begin ask.ops now) (slice_get ss shard)) ≡ false →
          (if b then at_place shard (begin_group profile config asked ask.ops now) ss else ss) ≡ ss
      by false never = refl
      by true never =
          stays_at shard (begin_group profile config asked ask.ops now) ss
          (λ s at. begun_none asked ask.ops now s
          (ap (allows_shard profile config (Shards.Begin ask.ops now)) (sym at) ∙ never))

  begin_by_same : (shard conn : ℕ) (packets : List PlainPacket) (now : ℕ) (w : Option Worker) (ss : List WorldShard) →
      allows_begin profile config shard conn packets now w (slice_get ss shard) ≡ false →
      begin_by profile config shard conn packets now w ss ≡ ss
  begin_by_same shard conn packets now None ss never = refl
  begin_by_same shard conn packets now (Some w) ss never =
      begin_same shard now
      (ask_with (setting_of profile config now w) w packets (connection_in w conn) (session_in w conn))
      (asker_with w.number conn packets (session_in w conn)) ss never

  handed_same : (shard : ℕ) (s : Option WorldShard) (ws : List Worker) →
      allows_shard profile config Shards.Store s ≡ false → handed_by profile config shard s ws ≡ ws
  handed_same shard None ws never = refl
  handed_same shard (Some s) ws never = by (if_group s.shard.pending) never
    where
      by : (b : Bool) → b ≡ false → handed_if profile config b shard s ws ≡ ws
      by false never = refl
      by true never = cc

  -- ---- a worker

  workers_same : (place : ℕ) (move : WorkerMove) (ws : List Worker) →
      allows_worker profile config move (slice_get ws place) ≡ false →
      at_place place (λ w. worker_step profile config w move) ws ≡ ws
  workers_same place move ws never =
      stays_at place (λ w. worker_step profile config w move) ws
      (λ w at. WorkerLaws.not_allowed profile config w move (ap (allows_worker profile config move) (sym at) ∙ never))

  none_acked : (move : WorkerMove) (w : Option Worker) → allows_worker profile config move w ≡ false →
      acks_of profile config w move ≡ []
  none_acked move None never = refl
  none_acked move (Some w) never = WorkerLaws.not_acked profile config w move never

  pub none_put : (move : WorkerMove) (w : Option Worker) → allows_worker profile config move w ≡ false →
      outs_of profile config w move ≡ []
  none_put move None never = refl
  none_put move (Some w) never = WorkerLaws.not_put_out profile config w move never

-- ---- the world

module _ (profile : Profile) where
  of_shard : (place : ℕ) (move : ShardMove) (w : World) →
      allows_shard profile w.config move (slice_get w.shards place) ≡ false → on_shard profile place move w ≡ w
  of_shard place move w never = ap (λ (ss : List WorldShard). record w { shards = ss })
      (shards_same profile w.config place move w.shards never)

  of_worker : (place : ℕ) (move : WorkerMove) (w : World) →
      allows_worker profile w.config move (slice_get w.workers place) ≡ false → on_worker profile place move w ≡ w
  of_worker place move w never =
      ap (λ (ws : List Worker). record w
      { workers = ws; acked_out = w.acked_out ++ acks_of profile w.config (slice_get w.workers place) move })
      (workers_same profile w.config place move w.workers never)
      ∙ ap (λ (acks : List (ℕ × StoredMessage)). record w { acked_out = w.acked_out ++ acks })
      (none_acked profile w.config move (slice_get w.workers place) never)
      ∙ ap (λ (acked : List (ℕ × StoredMessage)). record w { acked_out = acked }) (append-nil w.acked_out)

  of_ending : (place conn : ℕ) (move : WorkerMove) (w : World) →
      allows_worker profile w.config move (slice_get w.workers place) ≡ false → on_ending profile place conn move w ≡ w
  of_ending place conn move w never =
      ap (λ (b : Bool). record (on_worker profile place move w)
      { shards = askers_kept profile w.config b place conn w.shards }) never
      ∙ ap (λ (x : World). record x { shards = w.shards }) (of_worker place move w never)

  of_store : (place : ℕ) (w : World) → allows_shard profile w.config Shards.Store (slice_get w.shards place) ≡ false →
      stored_at profile place w ≡ w
  of_store place w never =
      ap (λ (ss : List WorldShard). record w
      { shards = ss; workers = handed_by profile w.config place (slice_get w.shards place) w.workers })
      (shards_same profile w.config place Shards.Store w.shards never)
      ∙ ap (λ (ws : List Worker). record w { workers = ws })
      (handed_same profile w.config place (slice_get w.shards place) w.workers never)

  pub not_allowed : (w : World) (move : Move) → world_allows profile w move ≡ false → world_step profile w move ≡ w
  not_allowed w (Begin shard worker conn packets now) never =
      ap (λ (ss : List WorldShard). record w { shards = ss })
      (begin_by_same profile w.config shard conn packets now (slice_get w.workers worker) w.shards never)
  not_allowed w (Store shard) never = of_store shard w never
  not_allowed w (BeginRotate shard now) never = of_shard shard (Shards.BeginCut now) w never
  not_allowed w (Rotate shard) never = of_shard shard Shards.Rotate w never
  not_allowed w (BeginDrop shard now) never = of_shard shard (Shards.BeginDrop now) w never
  not_allowed w (Drop shard) never = of_shard shard Shards.Drop w never
  not_allowed w (SettleShard shard goes_in) never = of_shard shard (Shards.Settle goes_in) w never
  not_allowed w (Show shard) never = of_shard shard Shards.Show w never
  not_allowed w (View worker shard) never = cc
  not_allowed w (BeginCommit worker cause now) never = of_worker worker (Workers.BeginCommit cause now) w never
  not_allowed w (Commit worker) never = of_worker worker Workers.Commit w never
  not_allowed w (SettleJournal worker goes_in now) never = of_worker worker (Workers.Settle goes_in now) w never
  not_allowed w (Emit worker emitted now) never = of_worker worker (Workers.Emit emitted now) w never
  not_allowed w (Bind worker conn now) never = of_worker worker (Workers.Bind conn now) w never
  not_allowed w (TakeOver worker conn) never = of_ending worker conn (Workers.TakeOver conn) w never
  not_allowed w (Unbind worker conn ending now) never = of_ending worker conn (Workers.Unbind conn ending now) w never
  not_allowed w (Crash now of_shards of_workers) never = cc

  pub not_put_out : (w : World) (move : Move) → world_allows profile w move ≡ false → world_outs profile w move ≡ []
  not_put_out w (Begin shard worker conn packets now) never = refl
  not_put_out w (Store shard) never = refl
  not_put_out w (BeginRotate shard now) never = refl
  not_put_out w (Rotate shard) never = refl
  not_put_out w (BeginDrop shard now) never = refl
  not_put_out w (Drop shard) never = refl
  not_put_out w (SettleShard shard goes_in) never = refl
  not_put_out w (Show shard) never = refl
  not_put_out w (View worker shard) never = refl
  not_put_out w (BeginCommit worker cause now) never = refl
  not_put_out w (Commit worker) never = refl
  not_put_out w (SettleJournal worker goes_in now) never = refl
  not_put_out w (Emit worker emitted now) never =
      none_put profile w.config (Workers.Emit emitted now) (slice_get w.workers worker) never
  not_put_out w (Bind worker conn now) never = refl
  not_put_out w (TakeOver worker conn) never =
      none_put profile w.config (Workers.TakeOver conn) (slice_get w.workers worker) never
  not_put_out w (Unbind worker conn ending now) never =
      none_put profile w.config (Workers.Unbind conn ending now) (slice_get w.workers worker) never
  not_put_out w (Crash now of_shards of_workers) never = refl
