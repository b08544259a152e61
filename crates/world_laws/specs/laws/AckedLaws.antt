-- A message whose PUBACK or PUBREC was put out was stored in its shard.
use Rattle.std.proofs.Common.{◌≡◌, ◌⊎◌, inl, inr, ℕ, zero, suc, ◌+◌, Bool, true, false, List, [], ◌∷◌, ◌++◌, replicate}
use Rattle.std.proofs.Common.{slice_get, Option, Some, None, refl, sym, ap, subst, ◌∙◌}
use Rattle.std.proofs.lemmas.Option.{none-some, same_Some, slice_get_within}
use Rattle.std.specs.Prelude.{filter, drop, length}
use Rattle.std.specs.List.{All}
use Rattle.std.proofs.lemmas.List.Elements.{All-nil, All-cons, All-weaker}
use Rattle.topic_model.specs.Profile.{Profile, Config}
use Rattle.topic_model.specs.StoredMessage.{StoredMessage}
use Rattle.topic_model.specs.Places.{HasPlace}
use Rattle.shard_model.specs.ShardList.{ShardList, opening_list, next_of}
use Rattle.shard_model.specs.ShardMoves.{PendingChange, if_group, land_if, list_after}
use Rattle.shard_model.specs.SweepOrder.{counted_from}
use Rattle.shard_model.specs.Storing.{is_message_of, Op, act_if, acts, placed, store, triple_of}
use Rattle.shard_model.specs.laws.PlaceLaws.{kept_place, place_either, place_left, place_right}
use Rattle.turn_model.specs.Worker.{Worker, connection_in, opening_worker}
use Rattle.turn_model.specs.WorkerMoves.{has_asked, WorkerMove}
use Rattle.turn_model.specs.PublishStep.{last_of, with_shard, standing_for, stored_messages}
use Rattle.world_model.specs.World.{World, WorldShard, Move, messages_in, opening_world, world_step, acks_of, at_place}
use Rattle.world_model.specs.World.{shard_moved, shown_lists, stored_at, Begin, Store, BeginRotate, Rotate, BeginDrop}
use Rattle.world_model.specs.World.{Drop, SettleShard, Show, View, BeginCommit, Commit, SettleJournal, Emit, Bind}
use Rattle.world_model.specs.World.{TakeOver, Unbind, Crash}
use Rattle.world_laws.specs.Reached.{HasShard, HasWorker}
use Rattle.world_laws.specs.StoredLists.{AreGrown, IsAllEver}
use Rattle.world_laws.specs.Always.{OfShards}
use Rattle.world_laws.specs.Acknowledged.{AreKept}
use Rattle.world_laws.specs.laws.GoesLaws.{GoesFrom, WorkerGoes, KStays, KMoves, KViews, KIsHanded, KCrashes}
use Rattle.world_laws.specs.laws.GoesLaws.{WorkerGoesFrom, map_from, shard_goes, worker_goes}
use Rattle.world_laws.specs.laws.SeenLaws.{OpensAs}
use Rattle.world_laws.specs.laws.EverLaws.{get_before, takes_nothing, ever_is_held, store_added}
use Rattle.shard_model.specs.ShardMoves as Shards
use Rattle.shard_model.specs.Storing
use Rattle.turn_model.specs.WorkerMoves as Workers
use Rattle.world_laws.specs.laws.OfEverLaws.{AreOfEver, stored_is_of}
use Rattle.world_laws.specs.laws.AnswerLaws.{acks_were, step_were}
use Rattle.world_laws.specs.laws.AnswerLaws.{AckWas, AnswersWere, ItemWas, MessagesWere, SeenWere, all_at}
use Rattle.world_laws.specs.laws.AnswerLaws.{answers_weaker, crash_were, last_place, stored_were, view_were}

-- ---- the messages that stand for a stored group

-- a message of these, if there is one
abbrev IsIn : List StoredMessage → Option StoredMessage → Type 0
IsIn ms None = Unit {0}
IsIn ms (Some m) = HasPlace ms m

-- what was stored before a group is there behind it
stored_still : (list : ShardList) (ops : List Op) (now : ℕ) (m : StoredMessage) → HasPlace list.messages m →
    HasPlace (store list ops now).messages m
stored_still list ops now m has =
    subst (λ (ms : List StoredMessage). HasPlace ms m) (sym (store_added list ops now))
    (place_left list.messages (drop (length list.messages) (store list ops now).messages) has.0 m has.1)

standing_in : (b : Bool) (list : ShardList) (ops : List Op) (now : ℕ) (m : StoredMessage) →
    IsIn (store (act_if b now list (Storing.Store m)) ops now).messages (standing_for b list now m)
standing_in true list ops now m =
    stored_still (act_if true now list (Storing.Store m)) ops now (placed m (next_of list) now)
    (place_right list.messages (placed m (next_of list) now ∷ []) 0 (placed m (next_of list) now) refl)
standing_in false list ops now m = by (last_of (filter (is_message_of (triple_of m)) list.messages)) refl
  where
    by : (found : Option StoredMessage) → last_of (filter (is_message_of (triple_of m)) list.messages) ≡ found →
        IsIn (store list ops now).messages found
    by None is = tt
    by (Some x) is =
        let there = last_place (filter (is_message_of (triple_of m)) list.messages) x is in
        stored_still list ops now x (kept_place (is_message_of (triple_of m)) list.messages there.0 x there.1).0

stored_in : (list : ShardList) (ops : List Op) (now : ℕ) →
    All (IsIn (store list ops now).messages) (stored_messages list ops now)
stored_in list [] now = All-nil (IsIn list.messages)
stored_in list (Storing.Store m ∷ ops) now =
    let later = act_if (acts list (Storing.Store m)) now list (Storing.Store m) in
    All-cons (IsIn (store later ops now).messages) (standing_for (acts list (Storing.Store m)) list now m)
    (stored_messages later ops now) (standing_in (acts list (Storing.Store m)) list ops now m)
    (stored_in later ops now)
stored_in list (Storing.Release publisher incarnation id ∷ ops) now =
    stored_in
    (act_if (acts list (Storing.Release publisher incarnation id)) now list
    (Storing.Release publisher incarnation id)) ops now
stored_in list (Storing.Forget publisher incarnation ∷ ops) now =
    stored_in
    (act_if (acts list (Storing.Forget publisher incarnation)) now list (Storing.Forget publisher incarnation)) ops now

landed_in : (profile : Profile) (config : Config) (pending : PendingChange) (list : ShardList) →
    All (IsIn (list_after config pending list).messages) (messages_in profile config list pending)
landed_in profile config Shards.Nothing list = All-nil (IsIn list.messages)
landed_in profile config (Shards.AGroup ops now) list = stored_in list ops now
landed_in profile config (Shards.ACut now) list = All-nil (IsIn (list_after config (Shards.ACut now) list).messages)
landed_in profile config Shards.ADrop list = All-nil (IsIn (list_after config Shards.ADrop list).messages)

at_place_there : {A : Type 0} (place : ℕ) (f : A → A) (xs : List A) (x : A) → slice_get xs place ≡ Some x →
    slice_get (at_place place f xs) place ≡ Some (f x)
at_place_there place f [] x e = absurd (none-some x e)
at_place_there zero f (y ∷ xs) x e = ap (λ (z : _). Some (f z)) (same_Some y x e)
at_place_there (suc place) f (y ∷ xs) x e = at_place_there place f xs x e

-- ---- the world

-- it was stored in its shard, at its offset
abbrev pub WasEver : World → ℕ × StoredMessage → Type 0
WasEver w x = (s : WorldShard) → HasShard w x.0 s → slice_get s.ever x.1.offset ≡ Some x.1

-- What the answers of each worker acknowledge was stored, and so was each message whose acknowledgement was put out.
pub record AcksWere (w : World) : Type 0 where
  pub answers : (worker : ℕ) (k : Worker) → HasWorker w worker k → AnswersWere (WasEver w) k
  pub out : (x : ℕ × StoredMessage) → HasPlace w.acked_out x → WasEver w x

seen_were : (w : World) → AreOfEver w → (worker : ℕ) (k : Worker) → HasWorker w worker k → SeenWere (WasEver w) k.seen
seen_were w are worker k at shard list e m has s s_at = are.seen worker shard k s list at s_at e m has

-- what a move puts out as acknowledged was stored
module _ (profile : Profile) (w : World) (are : AreOfEver w) (acks : AcksWere w) where
  acks_of_were : (worker : ℕ) (step : WorkerMove) (found : Option Worker) → slice_get w.workers worker ≡ found →
      All (WasEver w) (acks_of profile w.config found step)
  acks_of_were worker step None at = All-nil (WasEver w)
  acks_of_were worker step (Some k) at =
      acks_were (WasEver w) profile w.config k step (seen_were w are worker k at) (acks.answers worker k at)

  added_was : (worker : ℕ) (step : WorkerMove) (x : ℕ × StoredMessage) →
      HasPlace (w.acked_out ++ acks_of profile w.config (slice_get w.workers worker) step) x → WasEver w x
  added_was worker step x has =
      by (place_either w.acked_out (acks_of profile w.config (slice_get w.workers worker) step) has.0 x has.1)
    where
      by : HasPlace w.acked_out x ⊎ HasPlace (acks_of profile w.config (slice_get w.workers worker) step) x →
          WasEver w x
      by (inl old) = acks.out x old
      by (inr new) =
          all_at (WasEver w) (acks_of profile w.config (slice_get w.workers worker) step) new.0 x
          (acks_of_were worker step (slice_get w.workers worker) refl) new.1

  out_was : (move : Move) (x : ℕ × StoredMessage) → HasPlace (world_step profile w move).acked_out x → WasEver w x
  out_was (Begin shard worker conn packets now) x has = acks.out x has
  out_was (Store shard) x has = acks.out x has
  out_was (BeginRotate shard now) x has = acks.out x has
  out_was (Rotate shard) x has = acks.out x has
  out_was (BeginDrop shard now) x has = acks.out x has
  out_was (Drop shard) x has = acks.out x has
  out_was (SettleShard shard goes_in) x has = acks.out x has
  out_was (Show shard) x has = acks.out x has
  out_was (View worker shard) x has = acks.out x has
  out_was (BeginCommit worker cause now) x has = added_was worker (Workers.BeginCommit cause now) x has
  out_was (Commit worker) x has = added_was worker Workers.Commit x has
  out_was (SettleJournal worker goes_in now) x has = added_was worker (Workers.Settle goes_in now) x has
  out_was (Emit worker emitted now) x has = added_was worker (Workers.Emit emitted now) x has
  out_was (Bind worker conn now) x has = added_was worker (Workers.Bind conn now) x has
  out_was (TakeOver worker conn) x has = added_was worker (Workers.TakeOver conn) x has
  out_was (Unbind worker conn ending now) x has = added_was worker (Workers.Unbind conn ending now) x has
  out_was (Crash now of_shards of_workers) x has = acks.out x has

module _ (profile : Profile) (w : World) (move : Move) (grown : AreGrown w) where
  abbrev behind : World
  behind = world_step profile w move

  -- what was stored was stored behind a move too
  was_later : (x : ℕ × StoredMessage) → WasEver w x → WasEver behind x
  was_later x was t at = by (shard_goes profile w move x.0 t at)
    where
      by : GoesFrom profile w.config w x.0 t → slice_get t.ever x.1.offset ≡ Some x.1
      by (s, (is_there, goes)) =
          let takes = takes_nothing profile w move grown.shards x.0 s t is_there at in
          let there = was s is_there in
          ap (λ (ever : List StoredMessage). slice_get ever x.1.offset) takes.ever.1
          ∙ get_before s.ever takes.ever.0 x.1.offset (slice_get_within s.ever x.1.offset x.1 there)
          ∙ there

  -- what a worker is handed was stored by that very move
  module _ (all_behind : OfShards IsAllEver behind) where
    in_is_ever : (shard : ℕ) (t : WorldShard) → HasShard behind shard t → (m : Option StoredMessage) →
        IsIn t.shard.stored.messages m → AckWas (WasEver behind) (with_shard shard m)
    in_is_ever shard t at None is = tt
    in_is_ever shard t at (Some m) is =
        λ s s_at. subst (λ (x : WorldShard). slice_get x.ever m.offset ≡ Some m) (same_Some t s (sym at ∙ s_at))
        (stored_is_of t (all_behind shard t at) m is)

    handed_messages : (shard : ℕ) (s : WorldShard) → HasShard w shard s → if_group s.shard.pending ≡ true →
        behind ≡ stored_at profile shard w →
        MessagesWere (WasEver behind) shard (messages_in profile w.config s.shard.stored s.shard.pending)
    handed_messages shard s at group after =
        let t = shard_moved profile w.config Shards.Store s in
        let t_at : HasShard behind shard t =
        ap (λ (x : World). slice_get x.shards shard) after
        ∙ at_place_there shard (shard_moved profile w.config Shards.Store) w.shards s at in
        let landed : t.shard.stored ≡ list_after w.config s.shard.pending s.shard.stored =
        ap (λ (b : Bool). (land_if b w.config s.shard).stored) group in
        All-weaker (IsIn t.shard.stored.messages)
        (λ (m : Option StoredMessage). AckWas (WasEver behind) (with_shard shard m)) (in_is_ever shard t t_at)
        (messages_in profile w.config s.shard.stored s.shard.pending)
        (subst
        (λ (list : ShardList). All (IsIn list.messages)
        (messages_in profile w.config s.shard.stored s.shard.pending)) (sym landed)
        (landed_in profile w.config s.shard.pending s.shard.stored))

    module _ (are : AreOfEver w) (acks : AcksWere w) where
      abbrev AreBehind : Worker → Type 0
      AreBehind l = AnswersWere (WasEver behind) l

      answers_before : (worker : ℕ) (k : Worker) → HasWorker w worker k → AreBehind k
      answers_before worker k at = answers_weaker (WasEver w) (WasEver behind) was_later k (acks.answers worker k at)

      seen_behind : (worker : ℕ) (k : Worker) → HasWorker w worker k → SeenWere (WasEver behind) k.seen
      seen_behind worker k at shard list e m has =
          was_later (shard, m) (seen_were w are worker k at shard list e m has)

      answers_go : (worker : ℕ) (k l : Worker) → HasWorker w worker k →
          WorkerGoes profile w.config w behind worker k l → AreBehind l
      answers_go worker k l at (KStays same) = subst AreBehind (sym same) (answers_before worker k at)
      answers_go worker k l at (KMoves step own same) =
          subst AreBehind (sym same)
          (step_were (WasEver behind) profile w.config k step own (seen_behind worker k at)
          (answers_before worker k at))
      answers_go worker k l at (KViews shard s is_there shards same) =
          subst AreBehind (sym same) (view_were (WasEver behind) shard s.shard.shown k (answers_before worker k at))
      answers_go worker k l at (KIsHanded shard s a is_there group who its after same) =
          subst AreBehind (sym same)
          (stored_were (WasEver behind) (has_asked a (connection_in k a.connection)) shard a
          (messages_in profile w.config s.shard.stored s.shard.pending) k
          (handed_messages shard s is_there group after) (answers_before worker k at))
      answers_go worker k l at (KCrashes now goes_in same) =
          subst AreBehind (sym same) (crash_were (WasEver behind) (shown_lists behind.shards) now goes_in k)

      pub acks_go : AcksWere behind
      acks_go =
          record {
            answers = λ worker l at. by worker l (worker_goes profile w move worker l at);
            out = λ x has. was_later x (out_was profile w are acks move x has);
          }
        where
          by : (worker : ℕ) (l : Worker) → WorkerGoesFrom profile w.config w behind worker l → AreBehind l
          by worker l (k, (at, goes)) = answers_go worker k l at goes

pub opening_acks : (config : Config) → AcksWere (opening_world config)
opening_acks config =
    record {
      answers = λ worker k at. by worker k
          (map_from (λ (number : ℕ). opening_worker number (replicate config.shards (opening_list config)))
          (counted_from 0 config.workers) worker k at);
      out = λ x has. absurd (none-some x has.1);
    }
  where
    by : (worker : ℕ) (k : Worker) → OpensAs config worker k → AnswersWere (WasEver (opening_world config)) k
    by worker k (number, (at, same)) =
        subst (AnswersWere (WasEver (opening_world config))) (sym same)
        (All-nil (ItemWas (WasEver (opening_world config))), tt)

-- A message whose PUBACK or PUBREC was put out was stored in its shard, and is held there still, or went with its
-- generation.
pub kept : (w : World) → OfShards IsAllEver w → AcksWere w → AreKept w
kept w all acks =
    record {
      ever = λ shard message s has at. acks.out (shard, message) has s at;
      held = λ shard message s has at. ever_is_held s (all shard s at) message.offset message
          (acks.out (shard, message) has s at);
    }
