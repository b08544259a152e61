-- The world: all shards and all workers, and the messages that were acknowledged; and its moves. A move that isn't
-- allowed changes nothing and puts out nothing.
use Rattle.std.specs.Prelude.{ℕ, zero, suc, ◌+◌, Bool, true, false, ◌&&◌, ◌==◌, if◌then◌else◌, List, [], ◌∷◌, ◌++◌}
use Rattle.std.specs.Prelude.{length, drop, map, replicate, slice_get, Option, Some, None}
use Rattle.topic_model.specs.Profile.{Profile, Config}
use Rattle.topic_model.specs.StoredMessage.{StoredMessage}
use Rattle.shard_model.specs.ShardList.{ShardList, opening_list}
use Rattle.shard_model.specs.Storing.{Op, store}
use Rattle.shard_model.specs.ShardMoves.{Shard, ShardMove, PendingChange, Nothing, AGroup, pends_nothing, if_group}
use Rattle.shard_model.specs.ShardMoves.{opening_shard, shard_step, crashed_shard}
use Rattle.shard_model.specs.ShardMoves as Shards
use Rattle.shard_model.specs.SweepOrder.{counted_from}
use Rattle.session_model.specs.PlainSession.{PlainSession}
use Rattle.mqtt_packet.specs.declared.packet.AckKind.TheVariants.{Pubrel}
use Rattle.mqtt_packet.specs.Packet.{PlainPacket, Publish, Ack, PublishFields, AckFields}
use Rattle.turn_model.specs.PlainConnection.{PlainConnection}
use Rattle.turn_model.specs.Step.{Setting, Ask}
use Rattle.turn_model.specs.PublishStep.{are_group, publish_group, release_group, is_awaited, stored_messages}
use Rattle.turn_model.specs.Worker.{Worker, Out, opening_worker, setting_of, connection_in, session_in}
use Rattle.turn_model.specs.WorkerMoves.{WorkerMove, Asker, Emitted, Ending, worker_step, worker_outs}
use Rattle.turn_model.specs.Records.{Cause}
use Rattle.turn_model.specs.WorkerMoves.{worker_acks, has_view, crashed_worker}
use Rattle.turn_model.specs.WorkerMoves as Workers
use Rattle.turn_model.specs.Allowed.{worker_allows}

-- A shard, and whose packets the group is of that pends; and, for laws alone, all that it ever stored, which no move
-- reads.
pub record WorldShard : Type 0 where
  pub shard : Shard
  pub asked : Option Asker
  pub ever : List StoredMessage

-- The configuration, which no move changes; the shards and the workers, by number; and each message whose PUBACK, or
-- PUBREC of success, was put out, with its shard.
pub record World : Type 0 where
  pub config : Config
  pub shards : List WorldShard
  pub workers : List Worker
  pub acked_out : List (ℕ × StoredMessage)

abbrev pub opening_world : Config → World
opening_world config =
    record {
      config = config;
      shards = replicate config.shards (record { shard = opening_shard config; asked = None; ever = [] });
      workers = map (λ (number : ℕ). opening_worker number (replicate config.shards (opening_list config)))
          (counted_from 0 config.workers);
      acked_out = [];
    }

-- ---- the moves

-- The first number is that of the shard, or of the worker; of Begin it is the shard's, and then the worker's and the
-- connection's, whose packets ask for the group.
pub data Move : Type 0 where
  Begin : ℕ → ℕ → ℕ → List PlainPacket → ℕ → Move
  Store : ℕ → Move
  BeginRotate : ℕ → ℕ → Move
  Rotate : ℕ → Move
  BeginDrop : ℕ → ℕ → Move
  Drop : ℕ → Move
  SettleShard : ℕ → Bool → Move
  Show : ℕ → Move
  -- of a worker, and the shard that it looks at
  View : ℕ → ℕ → Move
  BeginCommit : ℕ → Cause → ℕ → Move
  Commit : ℕ → Move
  SettleJournal : ℕ → Bool → ℕ → Move
  Emit : ℕ → Emitted → ℕ → Move
  Bind : ℕ → ℕ → ℕ → Move
  TakeOver : ℕ → ℕ → Move
  Unbind : ℕ → ℕ → Ending → ℕ → Move
  -- the moment, and whether what pends goes in, of each shard and of each worker
  Crash : ℕ → List Bool → List Bool → Move

-- ---- one of several

abbrev pub at_place : {A : Type 0} → ℕ → (A → A) → List A → List A
at_place place f [] = []
at_place zero f (x ∷ xs) = f x ∷ xs
at_place (suc place) f (x ∷ xs) = x ∷ at_place place f xs

-- ---- the group that packets ask for

abbrev pub with_publish : PlainPacket → Option (List PublishFields) → Option (List PublishFields)
with_publish (Publish p) (Some ps) = Some (p ∷ ps)
with_publish packet ps = None

-- where all of them are publishes
abbrev pub publishes_of : List PlainPacket → Option (List PublishFields)
publishes_of [] = Some []
publishes_of (packet ∷ packets) = with_publish packet (publishes_of packets)

abbrev pub publishes_ask : Setting → PlainConnection → PlainSession → Option (List PublishFields) → Option Ask
publishes_ask s k m None = None
publishes_ask s k m (Some ps) = if are_group s k m ps then Some (publish_group s m ps) else None

-- a PUBREL alone, of what is awaited
abbrev pub release_ask : Setting → PlainSession → AckFields → Option Ask
release_ask s m a = if is_awaited s m a.id then Some (release_group s m a.id) else None

abbrev pub packets_ask : Setting → PlainConnection → PlainSession → List PlainPacket → Option Ask
packets_ask s k m (Ack Pubrel a ∷ []) = release_ask s m a
packets_ask s k m packets = publishes_ask s k m (publishes_of packets)

abbrev pub ask_if : Bool → Option Ask → Option Ask
ask_if true ask = ask
ask_if false ask = None

-- over a view that came since the shard stored a group of this worker
abbrev pub ask_with : Setting → Worker → List PlainPacket → Option PlainConnection → Option PlainSession → Option Ask
ask_with s w packets (Some k) (Some m) = ask_if (has_view s w m) (packets_ask s k m packets)
ask_with s w packets k m = None

abbrev pub asker_with : ℕ → ℕ → List PlainPacket → Option PlainSession → Option Asker
asker_with worker conn packets None = None
asker_with worker conn packets (Some m) =
    Some (record
    { worker = worker; connection = conn; client = m.client; incarnation = m.incarnation; packets = packets })

module _ (profile : Profile) (config : Config) where
  -- ---- moves of a shard

  -- what a group adds where it goes in
  abbrev pub added_by : PendingChange → ShardList → List StoredMessage
  added_by (AGroup ops now) list = drop (length list.messages) (store list ops now).messages
  added_by other list = []

  abbrev pub added_if : Bool → PendingChange → ShardList → List StoredMessage
  added_if true pending list = added_by pending list
  added_if false pending list = []

  -- what this move adds
  abbrev pub added_on : ShardMove → Shard → List StoredMessage
  added_on Shards.Store s = added_if (if_group s.pending) s.pending s.stored
  added_on (Shards.Settle goes_in) s = added_if goes_in s.pending s.stored
  added_on other s = []

  abbrev pub shard_moved : ShardMove → WorldShard → WorldShard
  shard_moved move s =
      record s { shard = shard_step profile config s.shard move; ever = s.ever ++ added_on move s.shard }

  -- what pends is the group that these asked for, where it was begun
  abbrev pub group_begun : Asker → Shard → Shard → WorldShard → WorldShard
  group_begun asked before after s =
      record s {
        shard = after;
        asked = if pends_nothing before.pending && if_group after.pending then Some asked else s.asked;
      }

  abbrev pub begin_group : Asker → List Op → ℕ → WorldShard → WorldShard
  begin_group asked ops now s = group_begun asked s.shard (shard_step profile config s.shard (Shards.Begin ops now)) s

  -- of this shard, and no other
  abbrev pub begin_at : ℕ → ℕ → Option Ask → Option Asker → List WorldShard → List WorldShard
  begin_at shard now (Some ask) (Some asked) ss =
      if ask.shard == shard then at_place shard (begin_group asked ask.ops now) ss else ss
  begin_at shard now ask asked ss = ss

  abbrev pub begin_by : ℕ → ℕ → List PlainPacket → ℕ → Option Worker → List WorldShard → List WorldShard
  begin_by shard conn packets now None ss = ss
  begin_by shard conn packets now (Some w) ss =
      begin_at shard now
      (ask_with (setting_of profile config now w) w packets (connection_in w conn) (session_in w conn))
      (asker_with w.number conn packets (session_in w conn)) ss

  -- ---- a stored group

  -- what its worker is handed: for each publish the message that stands for it
  abbrev pub messages_in : ShardList → PendingChange → List (Option StoredMessage)
  messages_in list (AGroup ops now) = stored_messages list ops now
  messages_in list other = []

  abbrev pub handed_to : ℕ → Option Asker → List (Option StoredMessage) → List Worker → List Worker
  handed_to shard None messages ws = ws
  handed_to shard (Some a) messages ws =
      at_place a.worker (λ w. worker_step profile config w (Workers.Stored shard a messages)) ws

  abbrev pub handed_if : Bool → ℕ → WorldShard → List Worker → List Worker
  handed_if true shard s ws = handed_to shard s.asked (messages_in s.shard.stored s.shard.pending) ws
  handed_if false shard s ws = ws

  abbrev pub handed_by : ℕ → Option WorldShard → List Worker → List Worker
  handed_by shard None ws = ws
  handed_by shard (Some s) ws = handed_if (if_group s.shard.pending) shard s ws

  -- ---- moves of a worker

  -- of one that is there
  abbrev pub allows_worker : WorkerMove → Option Worker → Bool
  allows_worker move None = false
  allows_worker move (Some w) = worker_allows profile config w move

  -- what a shard was asked is dropped where the connection that asked ends: the answer goes to that very binding
  abbrev pub asker_kept : ℕ → ℕ → Option Asker → Option Asker
  asker_kept worker conn None = None
  asker_kept worker conn (Some a) = if (a.worker == worker) && (a.connection == conn) then None else Some a

  abbrev pub without_asker : ℕ → ℕ → WorldShard → WorldShard
  without_asker worker conn s = record s { asked = asker_kept worker conn s.asked }

  abbrev pub askers_kept : Bool → ℕ → ℕ → List WorldShard → List WorldShard
  askers_kept true worker conn ss = map (without_asker worker conn) ss
  askers_kept false worker conn ss = ss

  abbrev pub acks_of : Option Worker → WorkerMove → List (ℕ × StoredMessage)
  acks_of None move = []
  acks_of (Some w) move = worker_acks profile config w move

  abbrev pub outs_of : Option Worker → WorkerMove → List Out
  outs_of None move = []
  outs_of (Some w) move = worker_outs profile config w move

  abbrev pub viewed_by : ℕ → Option WorldShard → Worker → Worker
  viewed_by shard None w = w
  viewed_by shard (Some s) w = worker_step profile config w (Workers.View shard s.shard.shown)

  -- ---- a crash

  abbrev pub crash_shard : Bool → WorldShard → WorldShard
  crash_shard goes_in s =
      record {
        shard = crashed_shard config goes_in s.shard;
        asked = None;
        ever = s.ever ++ added_if goes_in s.shard.pending s.shard.stored;
      }

  abbrev pub crash_shards : List Bool → List WorldShard → List WorldShard
  crash_shards choices [] = []
  crash_shards [] (s ∷ ss) = crash_shard false s ∷ crash_shards [] ss
  crash_shards (goes_in ∷ choices) (s ∷ ss) = crash_shard goes_in s ∷ crash_shards choices ss

  abbrev pub crash_workers : List ShardList → ℕ → List Bool → List Worker → List Worker
  crash_workers lists now choices [] = []
  crash_workers lists now [] (w ∷ ws) = crashed_worker lists now false w ∷ crash_workers lists now [] ws
  crash_workers lists now (goes_in ∷ choices) (w ∷ ws) =
      crashed_worker lists now goes_in w ∷ crash_workers lists now choices ws

abbrev pub shown_lists : List WorldShard → List ShardList
shown_lists ss = map (λ (s : WorldShard). s.shard.shown) ss

-- ---- the world

module _ (profile : Profile) where
  abbrev pub on_shard : ℕ → ShardMove → World → World
  on_shard shard move w = record w { shards = at_place shard (shard_moved profile w.config move) w.shards }

  abbrev pub on_worker : ℕ → WorkerMove → World → World
  on_worker worker move w =
      record w {
        workers = at_place worker (λ k. worker_step profile w.config k move) w.workers;
        acked_out = w.acked_out ++ acks_of profile w.config (slice_get w.workers worker) move;
      }

  -- a connection of a worker ends
  abbrev pub on_ending : ℕ → ℕ → WorkerMove → World → World
  on_ending worker conn move w =
      record (on_worker worker move w) {
        shards = askers_kept profile w.config
            (allows_worker profile w.config move (slice_get w.workers worker)) worker conn w.shards;
      }

  abbrev pub stored_at : ℕ → World → World
  stored_at shard w =
      record w {
        shards = at_place shard (shard_moved profile w.config Shards.Store) w.shards;
        workers = handed_by profile w.config shard (slice_get w.shards shard) w.workers;
      }

  abbrev pub crashed_shards : ℕ → List Bool → World → World
  crashed_shards now choices w = record w { shards = crash_shards profile w.config choices w.shards }

  abbrev pub crashed_workers : ℕ → List Bool → World → World
  crashed_workers now choices w = record w
      { workers = crash_workers profile w.config (shown_lists w.shards) now choices w.workers }

  abbrev pub world_step : World → Move → World
  world_step w (Begin shard worker conn packets now) =
      record w { shards = begin_by profile w.config shard conn packets now (slice_get w.workers worker) w.shards }
  world_step w (Store shard) = stored_at shard w
  world_step w (BeginRotate shard now) = on_shard shard (Shards.BeginCut now) w
  world_step w (Rotate shard) = on_shard shard Shards.Rotate w
  world_step w (BeginDrop shard now) = on_shard shard (Shards.BeginDrop now) w
  world_step w (Drop shard) = on_shard shard Shards.Drop w
  world_step w (SettleShard shard goes_in) = on_shard shard (Shards.Settle goes_in) w
  world_step w (Show shard) = on_shard shard Shards.Show w
  world_step w (View worker shard) =
      record w { workers = at_place worker (viewed_by profile w.config shard (slice_get w.shards shard)) w.workers }
  world_step w (BeginCommit worker cause now) = on_worker worker (Workers.BeginCommit cause now) w
  world_step w (Commit worker) = on_worker worker Workers.Commit w
  world_step w (SettleJournal worker goes_in now) = on_worker worker (Workers.Settle goes_in now) w
  world_step w (Emit worker emitted now) = on_worker worker (Workers.Emit emitted now) w
  world_step w (Bind worker conn now) = on_worker worker (Workers.Bind conn now) w
  world_step w (TakeOver worker conn) = on_ending worker conn (Workers.TakeOver conn) w
  world_step w (Unbind worker conn ending now) = on_ending worker conn (Workers.Unbind conn ending now) w
  world_step w (Crash now of_shards of_workers) = crashed_workers now of_workers (crashed_shards now of_shards w)

  -- the world after a list of moves
  abbrev pub after_moves : World → List Move → World
  after_moves w [] = w
  after_moves w (move ∷ moves) = after_moves (world_step w move) moves

  abbrev pub worker_puts : ℕ → WorkerMove → World → List Out
  worker_puts worker move w = outs_of profile w.config (slice_get w.workers worker) move

  -- what a move puts out
  abbrev pub world_outs : World → Move → List Out
  world_outs w (Emit worker emitted now) = worker_puts worker (Workers.Emit emitted now) w
  world_outs w (TakeOver worker conn) = worker_puts worker (Workers.TakeOver conn) w
  world_outs w (Unbind worker conn ending now) = worker_puts worker (Workers.Unbind conn ending now) w
  world_outs w other = []
