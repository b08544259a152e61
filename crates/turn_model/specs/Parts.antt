-- Parts of a turn: what one call of a worker does, at an arrival and behind what it asked for.
use Rattle.std.specs.Prelude.{ℕ, zero, suc, ◌+◌, max, Bool, true, false, ◌&&◌, not, ◌==◌, ◌%◌, nat_lt, if◌then◌else◌}
use Rattle.std.specs.Prelude.{List, [], ◌∷◌, ◌++◌, length, map, filter, slice_get, Option, Some, None, is_some}
use Rattle.topic_model.specs.Profile.{Profile, Config}
use Rattle.shard_model.specs.ShardList.{ShardList, newest}
use Rattle.shard_model.specs.SweepOrder.{counted_from}
use Rattle.shard_model.specs.Choices.{Fates, Drawn, draw}
use Rattle.session_model.specs.declared.entry.Entry.{Entry}
use Rattle.session_model.specs.declared.entry.Kind.{Kind}
use Rattle.session_model.specs.declared.entry.Kind.TheVariants.{Silent}
use Rattle.session_model.specs.PlainSession.{PlainSession}
use Rattle.session_model.specs.Change.{Issues}
use Rattle.session_model.specs.Ends.{moment_of}
use Rattle.mqtt_frame.specs.PlainFramer.{opening}
use Rattle.mqtt_packet.specs.Packet.{Publish, PublishFields}
use Rattle.turn_model.specs.PlainConnection.{PlainConnection, is_among, rest_of}
use Rattle.turn_model.specs.Pump.{pump_of}
use Rattle.turn_model.specs.Resend.{Resent, resend_of, Again, Publishes, again, packets_with, entries_with}
use Rattle.turn_model.specs.Resend.{pass_changes}
use Rattle.turn_model.specs.Resend.{issued_packets}
use Rattle.turn_model.specs.Step.{Outcome, Kept, IsFull, AwaitsTooMany, Faulted, Close, Step, is_nil}
use Rattle.turn_model.specs.PacketStep.{tick_step}
use Rattle.turn_model.specs.Worker.{Worker, PendingRecord, Closed, connection_in, session_in, sessions_of}
use Rattle.turn_model.specs.WorkerMoves.{Emit, OfResend, Settle, Ending, by_client, silently}
use Rattle.turn_model.specs.Records.{OfPump, OfTick}
use Rattle.turn_model.specs.WorkerMoves.{with_reason}
use Rattle.turn_model.specs.Draft.{Draft, Part, Beside, Todo, Waiting, Failed, Token, Arrival, Opened, Bytes}
use Rattle.turn_model.specs.Draft.{ClosedByClient, Pump, Tick, ForBodies, ForDrop, After, AfterPublishes, AfterRelease}
use Rattle.turn_model.specs.Draft.{AfterBodies, AfterDrop, no_report, fresh_draft, part_of, is_going, reading_at, push}
use Rattle.turn_model.specs.Draft.{views_pushed, not_open, ended_with, own_bound_closed, own_unbound_closed, commit}
use Rattle.turn_model.specs.Draft.{committed_with_owed, put_out_answer}
use Rattle.turn_model.specs.Pieces.{piece_taken, tokens_taken, packet_answered, group_asked}
use Rattle.turn_model.specs.Reasons as Reason

-- what the outside answered: a shard's append, its reading of bodies, and its drop
pub data Response : Type 0 where
  GroupIs : Outcome → Response
  BodiesRead : Response
  BodiesGone : ℕ → Response
  BodiesFailed : Response
  DropDone : Response
  DropFailed : Response

-- ---- bodies that aren't in memory

-- that of a message in a sealed generation
abbrev pub is_cold : ShardList → ℕ → Bool
is_cold list offset = nat_lt offset (newest list).first

abbrev pub is_cold_in : Option ShardList → ℕ → Bool
is_cold_in None offset = false
is_cold_in (Some list) offset = is_cold list offset

abbrev pub cold_places : List ShardList → ℕ → List Entry → List ℕ
cold_places lists shard es =
    map (λ (e : Entry). e.offset)
    (filter (λ (e : Entry). (e.shard == shard) && is_cold_in (slice_get lists shard) e.offset) es)

abbrev pub is_loud : Kind → Bool
is_loud Silent = false
is_loud other = true

abbrev pub is_publish : Again → Bool
is_publish (Publishes packet) = true
is_publish other = false

-- the entries of a batch, or of what is sent again, whose messages are put out
abbrev pub loud : List Entry → List Entry
loud es = filter (λ (e : Entry). is_loud e.kind) es

abbrev pub entries_published_again : PlainSession → PlainConnection → ℕ → List ShardList → List Entry → List Entry
entries_published_again m k now lists es = filter (λ (e : Entry). is_publish (again m k.packet_limit now lists e)) es

-- the first shard from a number on, not asked yet, that has such bodies, with their offsets
abbrev pub or_places : ℕ → List ℕ → Option (ℕ × List ℕ) → Option (ℕ × List ℕ)
or_places shard [] later = later
or_places shard (place ∷ places) later = Some (shard, place ∷ places)

abbrev pub first_cold : List ShardList → List ℕ → List Entry → List ℕ → Option (ℕ × List ℕ)
first_cold lists asked es [] = None
first_cold lists asked es (shard ∷ shards) =
    or_places shard (if is_among shard asked then [] else cold_places lists shard es) (first_cold lists asked es shards)

module _ (profile : Profile) (config : Config) (now : ℕ) where
  -- ---- a pump

  abbrev pub passed_after : ℕ → Option PlainConnection → Option PlainSession → Draft → Draft
  passed_after conn (Some k) (Some m) d =
      if is_nil (pass_changes m k) then d
      else committed_with_owed profile config now (OfPump conn None) (length (pass_changes m k)) d
  passed_after conn k m d = d

  -- what is sent again is put out, and then what was passed over above the marks is finished
  abbrev pub resent_out : ℕ → Resent → Draft → Draft
  resent_out conn r d =
      let sent = push profile config now (Emit (OfResend conn) now)
      (record d { report = record d.report { sent = length (packets_with r.taken) } }) in
      passed_after conn (connection_in sent.worker conn) (session_in sent.worker conn) sent

  abbrev pub with_counts : ℕ → ℕ → Draft → Draft
  with_counts issued sent d = record d { report = record d.report { issued = issued; sent = sent } }

  abbrev pub with_counts_if : Bool → ℕ → ℕ → Draft → Draft
  with_counts_if true issued sent d = with_counts issued sent d
  with_counts_if false issued sent d = d

  abbrev pub issued_out : ℕ → PlainSession → PlainConnection → Issues → Draft → Draft
  issued_out conn m k b d =
      let done = committed_with_owed profile config now (OfPump conn (Some b)) (1 + length (pass_changes m k)) d in
      put_out_answer profile config now conn
      (with_counts_if (is_going done.status) (length b.entries)
      (length (issued_packets now m d.worker.seen b.entries)) done)

  abbrev pub asking_bodies : List ℕ → ℕ × List ℕ → Draft → Draft
  asking_bodies asked places d = record d
      { status = Waiting (ForBodies places.0 places.1) (AfterBodies (asked ++ places.0 ∷ [])) }

  abbrev pub cold_of : List ℕ → List Entry → Draft → Option (ℕ × List ℕ)
  cold_of asked es d = if profile.cools then first_cold d.worker.seen asked es (counted_from 0 (length d.worker.seen))
      else None

  abbrev pub resend_unless : Option (ℕ × List ℕ) → List ℕ → ℕ → Resent → Draft → Draft
  resend_unless (Some places) asked conn r d = asking_bodies asked places d
  resend_unless None asked conn r d = resent_out conn r d

  abbrev pub issue_unless : Option (ℕ × List ℕ) → List ℕ → ℕ → PlainSession → PlainConnection → Issues → Draft → Draft
  issue_unless (Some places) asked conn m k b d = asking_bodies asked places d
  issue_unless None asked conn m k b d = issued_out conn m k b d

  abbrev pub issued_by : List ℕ → ℕ → PlainSession → PlainConnection → Option Issues → Draft → Draft
  issued_by asked conn m k None d = passed_after conn (Some k) (Some m) d
  issued_by asked conn m k (Some b) d = issue_unless (cold_of asked (loud b.entries) d) asked conn m k b d

  -- what is left to be sent again goes first
  abbrev pub pump_taken_by : List ℕ → ℕ → PlainSession → PlainConnection → List Entry → Draft → Draft
  pump_taken_by asked conn m k (e ∷ es) d =
      let r = resend_of profile now m k d.worker.seen in
      resend_unless (cold_of asked (entries_published_again m k now d.worker.seen (entries_with r.taken)) d) asked conn
      r d
  pump_taken_by asked conn m k [] d = issued_by asked conn m k (pump_of profile now m k d.worker.seen) d

  abbrev pub pump_taken_with : List ℕ → ℕ → Option PlainConnection → Option PlainSession → Draft → Draft
  pump_taken_with asked conn (Some k) (Some m) d = pump_taken_by asked conn m k (rest_of m k) d
  pump_taken_with asked conn k m d = d

  -- a pump that has asked these shards for bodies
  abbrev pub pump_taken : List ℕ → ℕ → Draft → Draft
  pump_taken asked conn d = pump_taken_with asked conn (connection_in d.worker conn) (session_in d.worker conn) d

  -- ---- a Tick

  abbrev pub ending_by : Option ℕ → Ending
  ending_by None = silently None
  ending_by (Some reason) = with_reason reason

  abbrev pub closes_made : List Close → Draft → Draft
  closes_made [] d = d
  closes_made (close ∷ closes) d = closes_made closes
      (ended_with profile config now close.connection (ending_by close.reason) d)

  -- what a Tick does over the worker as it stands
  abbrev pub tick_over : Draft → Step
  tick_over d = tick_step now d.worker.connections (sessions_of d.worker)

  abbrev pub tick_commit_if : Bool → Draft → Draft
  tick_commit_if true d = commit profile config now OfTick OfTick d
  tick_commit_if false d = d

  abbrev pub are_over : Draft → Bool
  are_over d = not (is_nil (tick_over d).changes)

  -- as many records as the sessions that are over take, behind the owed changes
  abbrev pub tick_commits : ℕ → Draft → Draft
  tick_commits zero d = d
  tick_commits (suc more) d = tick_commits more (tick_commit_if (are_over d) d)

  abbrev pub sessions_ended : Draft → Draft
  sessions_ended d = tick_commits (length d.worker.owed + length (tick_over d).changes) d

  -- the shards whose generations this worker drops
  abbrev pub own_shards : Worker → List ℕ
  own_shards w = filter (λ (shard : ℕ). (shard % config.workers) == w.number) (counted_from 0 config.shards)

  abbrev pub drops_asked : List ℕ → Draft → Draft
  drops_asked [] d = d
  drops_asked (shard ∷ shards) d = record d { status = Waiting (ForDrop shard) (AfterDrop shards) }

  abbrev pub drops_if : Bool → Draft → Draft
  drops_if true d = drops_asked (own_shards d.worker) d
  drops_if false d = d

  -- one generation is never dropped
  abbrev pub tick_taken : Draft → Draft
  tick_taken d =
      let ended = sessions_ended (closes_made (tick_over d).closes d) in
      drops_if (is_going ended.status && nat_lt 1 profile.generations) ended

  -- ---- an arrival

  abbrev pub connection_opened : ℕ → Draft → Draft
  connection_opened conn d =
      record d {
        beside =
            record d.beside
            { readings = d.beside.readings ++ record { connection = conn; framer = opening profile.packet } ∷ [] };
      }

  abbrev pub left_by_client : ℕ → Option PlainConnection → Draft → Draft
  left_by_client conn (Some k) d = ended_with profile config now conn by_client d
  left_by_client conn None d = not_open conn d

  abbrev pub arrival_taken : Arrival → Draft → Draft
  arrival_taken (Opened conn) d = connection_opened conn d
  arrival_taken (Bytes conn piece) d = piece_taken profile config now conn piece (reading_at conn d.beside.readings) d
  arrival_taken (ClosedByClient conn) d = left_by_client conn (connection_in d.worker conn) d
  arrival_taken (Pump conn) d = pump_taken [] conn d
  arrival_taken Tick d = tick_taken d

  abbrev pub connection_in_arrival : Arrival → Option ℕ
  connection_in_arrival (Opened conn) = Some conn
  connection_in_arrival (Bytes conn piece) = Some conn
  connection_in_arrival (ClosedByClient conn) = Some conn
  connection_in_arrival (Pump conn) = Some conn
  connection_in_arrival Tick = None

  -- an arrival that isn't taken: its connection is closed
  abbrev pub arrival_refused_by : ℕ → Option PlainConnection → Draft → Draft
  arrival_refused_by conn (Some k) d =
      own_bound_closed profile config now conn (with_reason Reason.implementation_error) 0 d
  arrival_refused_by conn None d = own_unbound_closed conn 0 d

  abbrev pub arrival_refused : Arrival → Draft → Draft
  arrival_refused (Opened conn) d = record d { outs = d.outs ++ Closed conn ∷ [] }
  arrival_refused (Bytes conn piece) d = arrival_refused_by conn (connection_in d.worker conn) d
  arrival_refused (ClosedByClient conn) d = arrival_refused_by conn (connection_in d.worker conn) d
  arrival_refused (Pump conn) d = arrival_refused_by conn (connection_in d.worker conn) d
  arrival_refused Tick d = d

  -- a journal in doubt is settled first
  abbrev pub settled_unless : Bool → Bool → Arrival → Draft → Draft
  settled_unless true goes_in arrival d = record (arrival_refused arrival d) { status = Failed }
  settled_unless false goes_in arrival d = arrival_taken arrival (push profile config now (Settle goes_in now) d)

  abbrev pub settled_with : Drawn → Arrival → Draft → Draft
  settled_with drawn arrival d = settled_unless drawn.fails drawn.goes_in arrival (record d { fates = drawn.fates })

  abbrev pub settled_first : Option PendingRecord → Arrival → Draft → Draft
  settled_first None arrival d = arrival_taken arrival d
  settled_first (Some p) arrival d = settled_with (draw d.fates) arrival d

  -- an arrival of a connection that isn't open does nothing: nothing is settled either
  abbrev pub is_open : ℕ → Draft → Bool
  is_open conn d = is_some (reading_at conn d.beside.readings)

  abbrev pub concerns : Arrival → Draft → Bool
  concerns (Opened conn) d = true
  concerns (Bytes conn piece) d = is_open conn d
  concerns (ClosedByClient conn) d = is_open conn d
  concerns (Pump conn) d = is_open conn d
  concerns Tick d = true

  abbrev pub started_if : Bool → Arrival → Draft → Draft
  started_if true arrival d = settled_first d.worker.pending arrival d
  started_if false arrival d = d

  abbrev pub arrival_started : Arrival → Draft → Draft
  arrival_started arrival d = started_if (concerns arrival d) arrival d

  -- ---- behind what was asked

  abbrev pub first_of_two : Option ℕ → ℕ → Option ℕ
  first_of_two None later = Some later
  first_of_two (Some first) later = Some first

  -- the first one is reported
  abbrev pub failed_shard : ℕ → Draft → Draft
  failed_shard shard d = record d { report = record d.report { shard_fault = first_of_two d.report.shard_fault shard } }

  -- the next publish that is asked by itself, or the tokens that are left
  abbrev pub gone_on : ℕ → List PublishFields → List Token → Draft → Draft
  gone_on conn (p ∷ ps) tokens d = record (group_asked profile config now conn (p ∷ []) d)
      { singly = ps; rest = tokens }
  gone_on conn [] tokens d = tokens_taken profile config now conn tokens (record d { singly = []; rest = [] })

  abbrev pub gone_on_if : Bool → ℕ → List PublishFields → List Token → Draft → Draft
  gone_on_if true conn ps tokens d = gone_on conn ps tokens d
  gone_on_if false conn ps tokens d = d

  abbrev pub went_on : ℕ → Todo → Draft → Draft
  went_on conn todo d = gone_on_if (is_going d.status) conn todo.singly todo.rest d

  -- a refused group of several is asked again publish by publish
  abbrev pub refused_publishes : ℕ → PublishFields → List PublishFields → Outcome → Todo → Draft → Draft
  refused_publishes conn p [] outcome todo d =
      went_on conn todo (packet_answered profile config now conn (Publish p) (outcome ∷ []) d)
  refused_publishes conn p (q ∷ ps) outcome todo d = gone_on conn (p ∷ q ∷ ps) todo.rest d

  abbrev pub own_closed_by_shard : ℕ → ℕ → Draft → Draft
  own_closed_by_shard conn shard d =
      own_bound_closed profile config now conn (with_reason Reason.implementation_error) 0 (failed_shard shard d)

  abbrev pub publishes_done : ℕ → ℕ → PublishFields → List PublishFields → Outcome → Todo → Draft → Draft
  publishes_done conn shard p ps (Kept acked) todo d = went_on conn todo (put_out_answer profile config now conn d)
  publishes_done conn shard p ps IsFull todo d = refused_publishes conn p ps IsFull todo d
  publishes_done conn shard p ps AwaitsTooMany todo d = refused_publishes conn p ps AwaitsTooMany todo d
  publishes_done conn shard p ps Faulted todo d = own_closed_by_shard conn shard d

  abbrev pub release_done : ℕ → ℕ → Outcome → Todo → Draft → Draft
  release_done conn shard (Kept acked) todo d = went_on conn todo (put_out_answer profile config now conn d)
  release_done conn shard other todo d = own_closed_by_shard conn shard d

  abbrev pub bodies_done : ℕ → ℕ → List ℕ → Response → Draft → Draft
  bodies_done conn shard shards BodiesRead d = pump_taken shards conn d
  bodies_done conn shard shards (BodiesGone offset) d = record d { report = record d.report { gone = Some offset } }
  bodies_done conn shard shards other d = failed_shard shard d

  abbrev pub drop_done : ℕ → List ℕ → Response → Draft → Draft
  drop_done shard shards DropDone d = drops_asked shards d
  drop_done shard shards other d = drops_asked shards (failed_shard shard d)

  abbrev pub outcome_in : Response → Outcome
  outcome_in (GroupIs outcome) = outcome
  outcome_in other = Faulted

  -- by what the call asked of this shard
  abbrev pub resumed_after : ℕ → Option ℕ → Option After → Response → Todo → Draft → Draft
  resumed_after shard (Some conn) (Some (AfterPublishes p ps)) answer todo d =
      publishes_done conn shard p ps (outcome_in answer) todo d
  resumed_after shard (Some conn) (Some (AfterRelease packet)) answer todo d =
      release_done conn shard (outcome_in answer) todo d
  resumed_after shard (Some conn) (Some (AfterBodies shards)) answer todo d = bodies_done conn shard shards answer d
  resumed_after shard own (Some (AfterDrop shards)) answer todo d = drop_done shard shards answer d
  resumed_after shard own after answer todo d = d

-- ---- the parts

-- the moment of a turn: the given one or the last turn's, whichever is later
abbrev pub turn_moment : Beside → ℕ → ℕ
turn_moment beside now = max (moment_of now) beside.last

-- `start`: a View of every shard, the journal settled where it is in doubt, and then the arrival
abbrev pub start_part : Profile → Config → Worker → Beside → Arrival → ℕ → List ShardList → Fates → Part
start_part profile config w beside arrival now views fates =
    let moment = turn_moment beside now in
    part_of (connection_in_arrival profile config moment arrival)
    (arrival_started profile config moment arrival
    (views_pushed profile config moment 0 views (fresh_draft w (record beside { last = moment }) fates no_report)))

-- `resume`: a View of every shard, and then what follows the answer of this shard, at the turn's moment
abbrev pub resume_part : Profile → Config → Worker → Beside → Todo → ℕ → Response → List ShardList → Fates → Part
resume_part profile config w beside todo shard answer views fates =
    part_of todo.connection
    (resumed_after profile config beside.last shard todo.connection todo.after answer todo
    (views_pushed profile config beside.last 0 views (fresh_draft w beside fates todo.report)))
