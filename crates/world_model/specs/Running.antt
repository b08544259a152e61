-- The run of a script: each line is turns of workers, a turn alternates parts and calls of shards, and what is put out
-- is printed.
use Rattle.std.specs.Prelude.{ℕ, zero, suc, ◌+◌, ◌-◌, ◌*◌, ◌/◌, ◌%◌, ◌^◌, min, Bool, true, false, ◌&&◌, ◌||◌, not, ◌==◌}
use Rattle.std.specs.Prelude.{nat_lt, nat_le, if◌then◌else◌, List, [], ◌∷◌, ◌++◌, length, map, filter, find, take, drop}
use Rattle.std.specs.Prelude.{replicate, codes, slice_get, slice_set, Option, Some, None, is_some}
use Rattle.std.specs.List.{list_any, flat_map}
use Rattle.std.specs.Fmt.{decimal}
use Rattle.topic_model.specs.Profile.{Profile, Config}
use Rattle.topic_model.specs.Routing.{routed_worker}
use Rattle.shard_model.specs.ShardList.{ShardList}
use Rattle.shard_model.specs.Storing.{Op}
use Rattle.shard_model.specs.Choices.{Choice, Fates, Drawn, draw}
use Rattle.shard_model.specs.ShardMoves.{Shard, ShardMove, pends_nothing}
use Rattle.shard_model.specs.ShardMoves as Shards
use Rattle.shard_model.specs.ShardCalls.{Appended, AppendedAt, Full, AwaitFull, AppendFault, AppendCall, DropCall}
use Rattle.shard_model.specs.ShardCalls.{FetchCall, Fetched, FetchedAll, Gone, FetchFault, append_call, tick_call}
use Rattle.shard_model.specs.ShardCalls.{fetch_call}
use Rattle.session_model.specs.Ends.{moment_of}
use Rattle.mqtt_frame.specs.declared.refused.BadHeader.{BadHeader}
use Rattle.mqtt_frame.specs.Framing.{Framed, framed}
use Rattle.mqtt_frame.specs.PlainFramer.{PlainFramer, joined}
use Rattle.mqtt_packet.specs.declared.packet.AckKind.TheVariants.{Puback, Pubrec, Pubrel, Pubcomp}
use Rattle.mqtt_packet.specs.declared.refused.ReadRefused.{ReadRefused}
use Rattle.mqtt_packet.specs.Packet.{PlainPacket, Connect, Publish, Ack, PublishFields, AckFields, ack}
use Rattle.mqtt_packet.specs.Spelling.{written}
use Rattle.mqtt_packet.specs.Answer.{answer}
use Rattle.std.specs.Prelude.{Result, Ok, Err}
use Rattle.turn_model.specs.Step.{Outcome, Kept, IsFull, AwaitsTooMany, Faulted}
use Rattle.turn_model.specs.Worker.{Worker, Out, Sent, Closed, sessions_of}
use Rattle.turn_model.specs.WorkerMoves.{WorkerMove}
use Rattle.turn_model.specs.WorkerMoves as Workers
use Rattle.turn_model.specs.Draft.{Beside, OpenConnection, Arrival, Opened, Bytes, ClosedByClient, Request, ForGroup}
use Rattle.turn_model.specs.Draft.{ForBodies, ForDrop, After, AfterPublishes, AfterRelease, AfterBodies, AfterDrop}
use Rattle.turn_model.specs.Draft.{Todo, Next, Asks, Done, JournalFault, Part, reading_at}
use Rattle.turn_model.specs.Draft as Turn
use Rattle.turn_model.specs.Parts.{Response, GroupIs, BodiesRead, BodiesGone, BodiesFailed, DropDone, DropFailed}
use Rattle.turn_model.specs.Parts.{start_part, resume_part}
use Rattle.world_model.specs.World.{World, WorldShard, Move, opening_world, at_place, shown_lists, after_moves}
use Rattle.world_model.specs.World as Moves
use Rattle.world_model.specs.Lines.{Line, Script, script_of}
use Rattle.world_model.specs.Lines as Lines
use Rattle.world_model.specs.Text.{text_of_outs, shard_text, worker_text, ended_line}

-- ---- chances

-- the choices that are left, and for each shard and each journal how many failures of its disks are still to come
pub record Chances : Type 0 where
  pub choices : List Choice
  pub shards : List ℕ
  pub journals : List ℕ

abbrev pub number_at : ℕ → List ℕ → ℕ
number_at place ns = elim (slice_get ns place) as (λ n. ℕ) [ None ↦ 0 | Some n ↦ n ]

abbrev pub fates_of_shard : ℕ → Chances → Fates
fates_of_shard shard c = record { choices = c.choices; armed = number_at shard c.shards }

abbrev pub fates_of_journal : ℕ → Chances → Fates
fates_of_journal worker c = record { choices = c.choices; armed = number_at worker c.journals }

abbrev pub after_shard : ℕ → Fates → Chances → Chances
after_shard shard f c = record c { choices = f.choices; shards = slice_set c.shards shard f.armed }

abbrev pub after_journal : ℕ → Fates → Chances → Chances
after_journal worker f c = record c { choices = f.choices; journals = slice_set c.journals worker f.armed }

abbrev pub one_more : ℕ → ℕ
one_more n = n + 1

-- a device call of this disk fails once from now on: ten disks are a shard's, and two a journal's
abbrev pub with_armed : Config → ℕ → Chances → Chances
with_armed config disk c =
    if nat_lt disk (10 * config.shards) then record c { shards = at_place (disk / 10) one_more c.shards }
    else record c { journals = at_place ((disk - 10 * config.shards) / 2) one_more c.journals }

-- ---- a turn

-- under way: the world, what stands beside the worker, the chances, what was put out, what is left of the turn, and
-- what comes of it
pub record Turning : Type 0 where
  pub world : World
  pub beside : Beside
  pub chances : Chances
  pub outs : List Out
  pub todo : Todo
  pub next : Next

-- the world's move of a worker's, and of a shard's, where a group is of these packets of a connection
abbrev pub of_worker : ℕ → WorkerMove → List Move
of_worker worker (Workers.View shard list) = Moves.View worker shard ∷ []
of_worker worker (Workers.BeginCommit cause now) = Moves.BeginCommit worker cause now ∷ []
of_worker worker Workers.Commit = Moves.Commit worker ∷ []
of_worker worker (Workers.Settle goes_in now) = Moves.SettleJournal worker goes_in now ∷ []
of_worker worker (Workers.Stored shard asked messages) = []
of_worker worker (Workers.Emit emitted now) = Moves.Emit worker emitted now ∷ []
of_worker worker (Workers.Bind conn now) = Moves.Bind worker conn now ∷ []
of_worker worker (Workers.TakeOver conn) = Moves.TakeOver worker conn ∷ []
of_worker worker (Workers.Unbind conn ending now) = Moves.Unbind worker conn ending now ∷ []

abbrev pub of_one_shard : ℕ → ℕ → ℕ → List PlainPacket → ShardMove → Move
of_one_shard shard worker conn packets (Shards.Begin ops now) = Moves.Begin shard worker conn packets now
of_one_shard shard worker conn packets Shards.Store = Moves.Store shard
of_one_shard shard worker conn packets (Shards.BeginCut now) = Moves.BeginRotate shard now
of_one_shard shard worker conn packets Shards.Rotate = Moves.Rotate shard
of_one_shard shard worker conn packets (Shards.BeginDrop now) = Moves.BeginDrop shard now
of_one_shard shard worker conn packets Shards.Drop = Moves.Drop shard
of_one_shard shard worker conn packets (Shards.Settle goes_in) = Moves.SettleShard shard goes_in
of_one_shard shard worker conn packets Shards.Show = Moves.Show shard

abbrev pub asking_packets : Option After → List PlainPacket
asking_packets (Some (AfterPublishes p ps)) = Publish p ∷ map (λ q. Publish q) ps
asking_packets (Some (AfterRelease packet)) = packet ∷ []
asking_packets other = []

abbrev pub connection_or_zero : Todo → ℕ
connection_or_zero todo = elim (todo.connection) as (λ c. ℕ) [ None ↦ 0 | Some conn ↦ conn ]

abbrev pub outcome_of : Appended → Outcome
outcome_of (AppendedAt first next) = Kept None
outcome_of Full = IsFull
outcome_of AwaitFull = AwaitsTooMany
outcome_of AppendFault = Faulted

abbrev pub bodies_of : Fetched → Response
bodies_of FetchedAll = BodiesRead
bodies_of (Gone offset) = BodiesGone offset
bodies_of FetchFault = BodiesFailed

module _ (profile : Profile) where
  -- a part's moves and what it puts out
  abbrev pub part_taken : ℕ → List Out → Chances → World → Part → Turning
  part_taken worker outs chances w part =
      record {
        world = after_moves profile w (flat_map (of_worker worker) part.moves);
        beside = part.beside;
        chances = after_journal worker part.fates chances;
        outs = outs ++ part.outs;
        todo = part.todo;
        next = part.next;
      }

  abbrev pub turn_resumed_with : ℕ → ℕ → Response → Turning → Option Worker → Turning
  turn_resumed_with worker shard answer t None = t
  turn_resumed_with worker shard answer t (Some w) =
      part_taken worker t.outs t.chances t.world
      (resume_part profile t.world.config w t.beside t.todo shard answer (shown_lists t.world.shards)
      (fates_of_journal worker t.chances))

  abbrev pub turn_resumed : ℕ → ℕ → Response → Turning → Turning
  turn_resumed worker shard answer t = turn_resumed_with worker shard answer t (slice_get t.world.workers worker)

  -- a call of a shard moves the world, and the turn goes on behind it
  abbrev pub shard_called : ℕ → ℕ → List ShardMove → Fates → Response → Turning → Turning
  shard_called worker shard moves fates answer t =
      turn_resumed worker shard answer (record t {
        world = after_moves profile t.world
            (map (of_one_shard shard worker (connection_or_zero t.todo) (asking_packets t.todo.after)) moves);
        chances = after_shard shard fates t.chances;
      })

  abbrev pub appended_by : ℕ → ℕ → AppendCall → Turning → Turning
  appended_by worker shard call t = shard_called worker shard call.moves call.fates
      (GroupIs (outcome_of call.outcome)) t

  abbrev pub dropped_by : ℕ → ℕ → DropCall → Turning → Turning
  dropped_by worker shard call t = shard_called worker shard call.moves call.fates
      (if call.faulted then DropFailed else DropDone) t

  abbrev pub fetched_by : ℕ → ℕ → FetchCall → Turning → Turning
  fetched_by worker shard call t = shard_called worker shard [] call.fates (bodies_of call.outcome) t

  abbrev pub asked_of : ℕ → Request → Turning → Option WorldShard → Turning
  asked_of worker request t None = t
  asked_of worker (ForGroup shard ops) t (Some s) =
      appended_by worker shard
      (append_call profile t.world.config s.shard ops t.beside.last (fates_of_shard shard t.chances)) t
  asked_of worker (ForBodies shard places) t (Some s) =
      fetched_by worker shard (fetch_call s.shard.shown places (fates_of_shard shard t.chances)) t
  asked_of worker (ForDrop shard) t (Some s) =
      dropped_by worker shard (tick_call profile t.world.config s.shard t.beside.last (fates_of_shard shard t.chances))
      t

  abbrev pub shard_in : Request → ℕ
  shard_in (ForGroup shard ops) = shard
  shard_in (ForBodies shard places) = shard
  shard_in (ForDrop shard) = shard

  abbrev pub call_made : ℕ → Next → Turning → Turning
  call_made worker (Asks request) t = asked_of worker request t (slice_get t.world.shards (shard_in request))
  call_made worker other t = t

  -- at most so many calls
  abbrev pub calls_made : ℕ → ℕ → Turning → Turning
  calls_made worker zero t = t
  calls_made worker (suc more) t = calls_made worker more (call_made worker t.next t)

  -- How many calls a turn makes at most. A pump and a Tick ask each shard once at most. Of a piece each packet asks for
  -- a group once at most, and each publish of a refused group once more; and a packet has two bytes or more.
  abbrev pub bytes_kept : ℕ → Beside → ℕ
  bytes_kept conn beside = elim (reading_at conn beside.readings) as
      (λ r. ℕ) [ None ↦ 0 | Some r ↦ length r.framer.kept ]

  abbrev pub most_calls : Config → Arrival → Beside → ℕ
  most_calls config (Opened conn) beside = 0
  most_calls config (Bytes conn piece) beside = bytes_kept conn beside + length piece
  most_calls config (ClosedByClient conn) beside = 0
  most_calls config (Turn.Pump conn) beside = config.shards
  most_calls config Turn.Tick beside = config.shards

  abbrev pub turn : ℕ → Arrival → ℕ → Beside → Chances → World → Worker → Turning
  turn number arrival now beside chances world w =
      calls_made number (most_calls world.config arrival beside)
      (part_taken number [] chances world
      (start_part profile world.config w beside arrival now (shown_lists world.shards)
      (fates_of_journal number chances)))

-- ---- the run

-- a connection whose worker isn't known yet, with the pieces that came on it
pub record Lobbied : Type 0 where
  pub connection : ℕ
  pub pieces : List (List ℕ)

-- the answers that a client owes to what was put out on its connection
pub record Owing : Type 0 where
  pub connection : ℕ
  pub answers : List (List ℕ)

-- The world, and what stands beside each worker; the connections whose worker isn't known; the chances; the clock; the
-- answers that `ack` lines send; and what was printed, the latest first.
pub record State : Type 0 where
  pub world : World
  pub besides : List Beside
  pub lobby : List Lobbied
  pub chances : Chances
  pub clock : ℕ
  pub owing : List Owing
  pub printed : List (List ℕ)

abbrev pub opening_state : Config → List Choice → State
opening_state config choices =
    record {
      world = opening_world config;
      besides = replicate config.workers (record { readings = []; last = 0 });
      lobby = [];
      chances = record { choices = choices; shards = replicate config.shards 0; journals = replicate config.workers 0 };
      clock = 0;
      owing = [];
      printed = [];
    }

-- ---- answers that are due

abbrev pub answer_to_publish : PublishFields → List (List ℕ)
answer_to_publish p =
    if p.qos == 1 then written (ack Puback p.id 0 []) ∷ [] else if p.qos == 2 then written (ack Pubrec p.id 0 []) ∷ []
    else []

abbrev pub answer_to : PlainPacket → List (List ℕ)
answer_to (Publish p) = answer_to_publish p
answer_to (Ack Pubrel a) = written (ack Pubcomp a.id 0 []) ∷ []
answer_to other = []

abbrev pub owing_at : ℕ → List Owing → List (List ℕ)
owing_at conn os = elim (find (λ (o : Owing). o.connection == conn) os) as
    (λ o. List (List ℕ)) [ None ↦ [] | Some o ↦ o.answers ]

abbrev pub without_owing : ℕ → List Owing → List Owing
without_owing conn os = filter (λ (o : Owing). not (o.connection == conn)) os

abbrev pub with_owing : ℕ → List (List ℕ) → List Owing → List Owing
with_owing conn [] os = os
with_owing conn (a ∷ answers) os =
    record { connection = conn; answers = owing_at conn os ++ a ∷ answers } ∷ without_owing conn os

abbrev pub owing_by : Out → List Owing → List Owing
owing_by (Sent conn packet) os = with_owing conn (answer_to packet) os
owing_by (Closed conn) os = os

abbrev pub owing_after : List Out → List Owing → List Owing
owing_after [] os = os
owing_after (out ∷ outs) os = owing_after outs (owing_by out os)

-- at most so many answers in one line
abbrev pub most_answers : ℕ
most_answers = 262144

-- ---- a crash: for each thing that pends a choice, shards first and then workers, by number

pub record Crashing : Type 0 where
  pub choices : List Bool
  pub chances : Chances

abbrev pub choice_made_with : Drawn → Crashing → Crashing
choice_made_with drawn c =
    record { choices = c.choices ++ drawn.goes_in ∷ []; chances = record c.chances { choices = drawn.fates.choices } }

abbrev pub choice_made : Bool → Crashing → Crashing
choice_made true c = choice_made_with (draw (record { choices = c.chances.choices; armed = 0 })) c
choice_made false c = record c { choices = c.choices ++ false ∷ [] }

abbrev pub choose_shards : List WorldShard → Crashing → Crashing
choose_shards [] c = c
choose_shards (s ∷ ss) c = choose_shards ss (choice_made (not (pends_nothing s.shard.pending)) c)

abbrev pub choose_workers : List Worker → Crashing → Crashing
choose_workers [] c = c
choose_workers (w ∷ ws) c = choose_workers ws (choice_made (is_some w.pending) c)

-- ---- the mount behind a crash

-- as it goes on: whether it has met a failure, the choices that are left, and the failures still to come of those gone
-- by
pub record Mounting : Type 0 where
  pub met : Bool
  pub choices : List Choice
  pub left : List ℕ

abbrev pub mounted_with : Drawn → Mounting → Mounting
mounted_with drawn m =
    record { met = drawn.fails; choices = drawn.fates.choices; left = m.left ++ drawn.fates.armed ∷ [] }

abbrev pub mounted_if : Bool → ℕ → Mounting → Mounting
mounted_if true armed m = mounted_with (draw (record { choices = m.choices; armed = armed })) m
mounted_if false armed m = record m { left = m.left ++ armed ∷ [] }

-- these shards, or journals, in order
abbrev pub mount_each : List ℕ → Mounting → Mounting
mount_each [] m = m
mount_each (armed ∷ more) m = mount_each more (mounted_if (not m.met && nat_lt 0 armed) armed m)

abbrev pub with_mounting : List ℕ → Mounting → Chances
with_mounting shards m = record { choices = m.choices; shards = shards; journals = m.left }

abbrev pub mounted_shards : Mounting → Chances → Chances
mounted_shards m c = with_mounting m.left (mount_each c.journals (record m { left = [] }))

-- A mount may meet one failure that is still to come: it is used up, and no later call meets it. Then mounting begins
-- anew.
abbrev pub after_mount : Chances → Chances
after_mount c = mounted_shards (mount_each c.shards (record { met = false; choices = c.choices; left = [] })) c

-- ---- texts

abbrev pub text_of_printed : List (List ℕ) → List ℕ → List ℕ
text_of_printed [] text = text
text_of_printed (printed ∷ earlier) text = text_of_printed earlier (printed ++ text)

-- what is printed for a script that isn't run
abbrev pub bad_line_text : ℕ → List ℕ
bad_line_text number = ended_line (codes "line " ++ (decimal number ++ codes ": not a script line"))

abbrev pub script_limit : ℕ
script_limit = 67108864

abbrev pub refusal_under : Option ℕ → Option (List ℕ)
refusal_under None = None
refusal_under (Some number) = Some (bad_line_text number)

-- ---- turns of a state

module _ (profile : Profile) where
  abbrev pub turn_done : ℕ → State → Turning → State
  turn_done worker s t =
      record s {
        world = t.world;
        besides = slice_set s.besides worker t.beside;
        chances = t.chances;
        owing = owing_after t.outs s.owing;
        printed = text_of_outs t.outs ∷ s.printed;
      }

  abbrev pub turn_taken_by : ℕ → Arrival → State → Option Beside → Option Worker → State
  turn_taken_by worker arrival s (Some beside) (Some w) =
      turn_done worker s (turn profile worker arrival s.clock beside s.chances s.world w)
  turn_taken_by worker arrival s beside w = s

  -- one turn of a worker
  abbrev pub turn_taken : ℕ → Arrival → State → State
  turn_taken worker arrival s = turn_taken_by worker arrival s (slice_get s.besides worker)
      (slice_get s.world.workers worker)

  abbrev pub turns_taken : ℕ → List Arrival → State → State
  turns_taken worker [] s = s
  turns_taken worker (arrival ∷ arrivals) s = turns_taken worker arrivals (turn_taken worker arrival s)

  -- ---- where a connection is

  abbrev pub is_read_by : ℕ → Beside → Bool
  is_read_by conn beside = is_some (reading_at conn beside.readings)

  abbrev pub worker_from : ℕ → ℕ → List Beside → Option ℕ
  worker_from number conn [] = None
  worker_from number conn (beside ∷ besides) =
      elim (is_read_by conn beside) as (λ here. Option ℕ)
      [ true ↦ Some number | false ↦ worker_from (number + 1) conn besides ]

  -- the worker that has it, none where it isn't open or is in the lobby
  abbrev pub worker_reading : ℕ → State → Option ℕ
  worker_reading conn s = worker_from 0 conn s.besides

  abbrev pub to_worker : Option ℕ → Arrival → State → State
  to_worker None arrival s = s
  to_worker (Some worker) arrival s = turn_taken worker arrival s

  abbrev pub without_lobbied : ℕ → List Lobbied → List Lobbied
  without_lobbied conn ls = filter (λ (l : Lobbied). not (l.connection == conn)) ls

  abbrev pub lobbied_at : ℕ → List Lobbied → Option Lobbied
  lobbied_at conn ls = find (λ (l : Lobbied). l.connection == conn) ls

  -- ---- the worker of a first packet

  abbrev pub worker_for_client : Config → ℕ → List ℕ → ℕ
  worker_for_client config conn client =
      if length client == 0 then conn % config.workers else routed_worker client config.workers

  abbrev pub worker_for_packet : Config → ℕ → Result PlainPacket ReadRefused → ℕ
  worker_for_packet config conn (Ok (Connect c)) = worker_for_client config conn c.client
  worker_for_packet config conn other = 0

  abbrev pub worker_if_bad : Option BadHeader → Option ℕ
  worker_if_bad None = None
  worker_if_bad (Some header) = Some 0

  -- that of its client; one that isn't readable as a CONNECT, or whose framing is refused, goes to worker 0
  abbrev pub worker_for_framed : Config → ℕ → Framed → Option ℕ
  worker_for_framed config conn f =
      elim (f.packets) as (λ packets. Option ℕ)
      [ [] ↦ worker_if_bad f.bad | first ∷ packets ↦ Some (worker_for_packet config conn (answer first)) ]

  abbrev pub worker_for : Config → Lobbied → Option ℕ
  worker_for config l = worker_for_framed config l.connection (framed profile.packet (joined l.pieces))

  abbrev pub arrivals_of : Lobbied → List Arrival
  arrivals_of l = Opened l.connection ∷ map (λ piece. Bytes l.connection piece) l.pieces

  abbrev pub lobby_left : Lobbied → Option ℕ → State → State
  lobby_left l None s = record s { lobby = l ∷ without_lobbied l.connection s.lobby }
  lobby_left l (Some worker) s = turns_taken worker (arrivals_of l)
      (record s { lobby = without_lobbied l.connection s.lobby })

  abbrev pub lobby_sent : Lobbied → State → State
  lobby_sent l s = lobby_left l (worker_for s.world.config l) s

  -- ---- lines

  abbrev pub bytes_sent_by : ℕ → List ℕ → Option Lobbied → State → State
  bytes_sent_by conn bytes None s = to_worker (worker_reading conn s) (Bytes conn bytes) s
  bytes_sent_by conn bytes (Some l) s = lobby_sent (record l { pieces = l.pieces ++ bytes ∷ [] }) s

  abbrev pub bytes_sent : ℕ → List ℕ → State → State
  bytes_sent conn bytes s = bytes_sent_by conn bytes (lobbied_at conn s.lobby) s

  abbrev pub connection_closed : ℕ → State → State
  connection_closed conn s = to_worker (worker_reading conn s) (ClosedByClient conn)
      (record s { lobby = without_lobbied conn s.lobby })

  abbrev pub lobby_entered : ℕ → State → State
  lobby_entered conn s =
      record s { lobby = record { connection = conn; pieces = [] } ∷ s.lobby; owing = without_owing conn s.owing }

  abbrev pub acked_with : ℕ → List (List ℕ) → State → State
  acked_with conn [] s = s
  acked_with conn (a ∷ answers) s =
      bytes_sent conn (joined (take most_answers (a ∷ answers)))
      (record s { owing = with_owing conn (drop most_answers (a ∷ answers)) (without_owing conn s.owing) })

  abbrev pub workers_ticked : List ℕ → State → State
  workers_ticked [] s = s
  workers_ticked (worker ∷ workers) s = workers_ticked workers (turn_taken worker Turn.Tick s)

  abbrev pub worker_numbers : State → List ℕ
  worker_numbers s = map (λ (w : Worker). w.number) s.world.workers

  -- the clock stops at the greatest number of eight bytes
  abbrev pub moved_on : ℕ → State → State
  moved_on ms s = record s { clock = min (2 ^ 64 - 1) (s.clock + ms) }

  -- ---- a crash

  -- connections are gone, and each worker's moment is that of the mount
  abbrev pub crashed_with : State → List Bool → Crashing → State
  crashed_with s of_shards c =
      record s {
        world = Moves.world_step profile s.world (Moves.Crash (moment_of s.clock) of_shards c.choices);
        besides = map (λ (b : Beside). record { readings = []; last = moment_of s.clock }) s.besides;
        lobby = [];
        chances = after_mount c.chances;
        owing = [];
        printed = ended_line (codes "crashed") ∷ s.printed;
      }

  abbrev pub crashed_after : State → Crashing → State
  crashed_after s c = crashed_with s c.choices
      (choose_workers s.world.workers (record { choices = []; chances = c.chances }))

  abbrev pub after_crash : State → State
  after_crash s = crashed_after s (choose_shards s.world.shards (record { choices = []; chances = s.chances }))

  -- ---- what `look` prints

  abbrev pub shards_text : ℕ → List ShardList → List ℕ
  shards_text shard [] = []
  shards_text shard (list ∷ lists) = shard_text profile shard list ++ shards_text (shard + 1) lists

  abbrev pub look_text : State → List ℕ
  look_text s =
      shards_text 0 (shown_lists s.world.shards)
      ++ flat_map (λ (w : Worker). worker_text w.number (sessions_of w)) s.world.workers

  -- ---- a line, and all lines

  abbrev pub after_line : State → Line → State
  after_line s Lines.Idle = s
  after_line s (Lines.Set config) = s
  after_line s (Lines.Open conn) = lobby_entered conn (connection_closed conn s)
  after_line s (Lines.Send conn bytes) = bytes_sent conn bytes s
  after_line s (Lines.Ack conn) = acked_with conn (owing_at conn s.owing) s
  after_line s (Lines.Pump conn) = to_worker (worker_reading conn s) (Turn.Pump conn) s
  after_line s (Lines.Close conn) = connection_closed conn s
  after_line s (Lines.Tick ms) = workers_ticked (worker_numbers s) (moved_on ms s)
  after_line s (Lines.Fail disk call) = record s { chances = with_armed s.world.config disk s.chances }
  after_line s (Lines.Crash image) = after_crash s
  after_line s Lines.Look = record s { printed = look_text s ∷ s.printed }

  abbrev pub after_lines : State → List Line → State
  after_lines s [] = s
  after_lines s (line ∷ lines) = after_lines (after_line s line) lines

  -- the state that the run of a script ends in
  abbrev pub final_state : Script → List Choice → State
  final_state script choices = after_lines (opening_state script.config choices) script.lines

  abbrev pub text_of_run : Script → List Choice → List ℕ
  text_of_run script choices = text_of_printed (final_state script choices).printed []

  -- ---- the whole

  -- none where it is run
  abbrev pub refusal_of_script : List ℕ → Option (List ℕ)
  refusal_of_script bytes =
      if nat_lt script_limit (length bytes) then Some (ended_line (codes "script too long"))
      else refusal_under (script_of bytes).bad

  abbrev pub text_unless : Option (List ℕ) → Script → List Choice → List ℕ
  text_unless (Some text) script choices = text
  text_unless None script choices = text_of_run script choices

  -- the text of a whole script, from its bytes to the printed bytes
  abbrev pub text_of_script : List ℕ → List Choice → List ℕ
  text_of_script bytes choices = text_unless (refusal_of_script bytes) (script_of bytes) choices
