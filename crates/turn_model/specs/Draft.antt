-- A part of a turn as it grows: what one call of a worker does, move by move.
use Rattle.std.specs.Prelude.{ℕ, ◌+◌, Bool, true, false, ◌&&◌, not, ◌==◌, nat_lt, if◌then◌else◌, List, [], ◌∷◌, ◌++◌}
use Rattle.std.specs.Prelude.{length, filter, find, Option, Some, None, is_some}
use Rattle.topic_model.specs.Profile.{Profile, Config}
use Rattle.shard_model.specs.ShardList.{ShardList}
use Rattle.shard_model.specs.Storing.{Op}
use Rattle.shard_model.specs.Choices.{Fates, Drawn, draw}
use Rattle.session_model.specs.Change.{Change}
use Rattle.mqtt_frame.specs.declared.refused.BadHeader.{BadHeader}
use Rattle.mqtt_frame.specs.PlainFramer.{PlainFramer}
use Rattle.mqtt_packet.specs.Packet.{PlainPacket, PublishFields}
use Rattle.turn_model.specs.PlainConnection.{PlainConnection, connection_of, packet_limit_of}
use Rattle.turn_model.specs.Step.{Setting, reply, is_nil}
use Rattle.turn_model.specs.ConnectStep.{refusing}
use Rattle.turn_model.specs.Worker.{Worker, Item, Answer, Answers, Accepts, Delivers, PendingRecord, Out, Sent, Closed}
use Rattle.turn_model.specs.Worker.{setting_of, connection_in, is_short, are_sendable}
use Rattle.turn_model.specs.WorkerMoves.{WorkerMove, View, BeginCommit, Commit, Emit, OfItem, Unbind}
use Rattle.turn_model.specs.Records.{Cause, OfPackets}
use Rattle.turn_model.specs.WorkerMoves.{Ending, with_reason, silently}
use Rattle.turn_model.specs.Records.{OfConnect, OfPump, OfTick, OfOwed, Stepped}
use Rattle.turn_model.specs.WorkerMoves.{worker_step, worker_outs, item_at}
use Rattle.turn_model.specs.Reasons as Reason

-- ---- what stands beside a worker

-- a connection that is open, with what has come of its next packet
pub record OpenConnection : Type 0 where
  pub connection : ℕ
  pub framer : PlainFramer

-- The open connections, bound or not; and the moment of the worker's last turn.
pub record Beside : Type 0 where
  pub readings : List OpenConnection
  pub last : ℕ

abbrev pub reading_at : ℕ → List OpenConnection → Option OpenConnection
reading_at conn rs = find (λ (r : OpenConnection). r.connection == conn) rs

abbrev pub without_reading : ℕ → List OpenConnection → List OpenConnection
without_reading conn rs = filter (λ (r : OpenConnection). not (r.connection == conn)) rs

abbrev pub with_framer : ℕ → PlainFramer → List OpenConnection → List OpenConnection
with_framer conn framer [] = []
with_framer conn framer (r ∷ rs) =
    (if r.connection == conn then record r { framer = framer } else r) ∷ with_framer conn framer rs

-- ---- what a call is asked, and what it asks

-- what comes to a worker: a connection is opened, bytes come on it, its client closes it, it is to be pumped; time has
-- passed
pub data Arrival : Type 0 where
  Opened : ℕ → Arrival
  Bytes : ℕ → List ℕ → Arrival
  ClosedByClient : ℕ → Arrival
  Pump : ℕ → Arrival
  Tick : Arrival

-- the next packet of a piece, the bad header behind the last one, and the end of the piece
pub data Token : Type 0 where
  Whole : List ℕ → Token
  BadFront : BadHeader → Token
  EndOfPiece : Token

-- What a turn speaks of in its report: how many entries its Issued record has, how many packets its pump put out, the
-- reason with which the server closed its own connection, 0 where none was written, and the rule that was broken, 0 for
-- none; and the first shard whose fault, and the first offset whose absence, was handed in.
pub record Report : Type 0 where
  pub issued : ℕ
  pub sent : ℕ
  pub closed : Option ℕ
  pub rule : ℕ
  pub shard_fault : Option ℕ
  pub gone : Option ℕ

abbrev pub no_report : Report
no_report = record { issued = 0; sent = 0; closed = None; rule = 0; shard_fault = None; gone = None }

-- what is asked of the outside: that a shard append a group, read bodies, or drop what is over
pub data Request : Type 0 where
  ForGroup : ℕ → List Op → Request
  ForBodies : ℕ → List ℕ → Request
  ForDrop : ℕ → Request

-- what follows its answer: publishes, or a PUBREL, are answered; a pump goes on, having asked these shards; and other
-- shards drop
pub data After : Type 0 where
  AfterPublishes : PublishFields → List PublishFields → After
  AfterRelease : PlainPacket → After
  AfterBodies : List ℕ → After
  AfterDrop : List ℕ → After

-- A turn goes on, waits for the outside, or is over: with a report, or as the journal failed.
pub data Status : Type 0 where
  Going : Status
  Waiting : Request → After → Status
  Ended : Status
  Failed : Status

-- ---- the draft

-- The worker after the moves, the moves and what they put out, what stands beside it, the choices, and the report so
-- far. Of a piece: the publishes of the group that is open, the packets of the record that is open and what they have
-- changed so far, the publishes that are to be asked one by one, and the tokens that are left.
pub record Draft : Type 0 where
  pub worker : Worker
  pub moves : List WorkerMove
  pub outs : List Out
  pub beside : Beside
  pub fates : Fates
  pub report : Report
  pub status : Status
  pub group : List PublishFields
  pub acks : List PlainPacket
  pub stepped : Option Stepped
  pub singly : List PublishFields
  pub rest : List Token

-- what is left of a turn that waits
pub record Todo : Type 0 where
  pub connection : Option ℕ
  pub after : Option After
  pub singly : List PublishFields
  pub rest : List Token
  pub report : Report

pub data Next : Type 0 where
  Asks : Request → Next
  Done : Report → Next
  JournalFault : Next

-- one call: the worker's moves, what is put out, what then stands beside it, what is left of the turn and what comes of
-- it, and the choices that are left
pub record Part : Type 0 where
  pub moves : List WorkerMove
  pub outs : List Out
  pub beside : Beside
  pub todo : Todo
  pub next : Next
  pub fates : Fates

abbrev pub fresh_draft : Worker → Beside → Fates → Report → Draft
fresh_draft w beside fates report =
    record {
      worker = w;
      moves = [];
      outs = [];
      beside = beside;
      fates = fates;
      report = report;
      status = Going;
      group = [];
      acks = [];
      stepped = None;
      singly = [];
      rest = [];
    }

abbrev pub is_going : Status → Bool
is_going Going = true
is_going other = false

abbrev pub after_of : Status → Option After
after_of (Waiting request after) = Some after
after_of other = None

abbrev pub next_after : Status → Report → Next
next_after (Waiting request after) report = Asks request
next_after Failed report = JournalFault
next_after Going report = Done report
next_after Ended report = Done report

abbrev pub part_of : Option ℕ → Draft → Part
part_of own d =
    record {
      moves = d.moves;
      outs = d.outs;
      beside = d.beside;
      todo =
          record { connection = own; after = after_of d.status; singly = d.singly; rest = d.rest; report = d.report };
      next = next_after d.status d.report;
      fates = d.fates;
    }

-- ---- closes

abbrev pub not_open : ℕ → Draft → Draft
not_open conn d = record d { beside = record d.beside { readings = without_reading conn d.beside.readings } }

-- of one that isn't: no move, and nothing is written
abbrev pub closed_unbound : ℕ → Draft → Draft
closed_unbound conn d =
    not_open conn
    (record d { outs = d.outs ++ (if is_some (reading_at conn d.beside.readings) then Closed conn ∷ [] else []) })

abbrev pub reason_or_none : Option ℕ → ℕ
reason_or_none None = 0
reason_or_none (Some reason) = reason

-- the turn's own connection is closed, and the turn is over but for its report
abbrev pub own_closed : Option ℕ → ℕ → Draft → Draft
own_closed reason rule d = record d
    { status = Ended; report = record d.report { closed = Some (reason_or_none reason); rule = rule } }

abbrev pub own_unbound_closed : ℕ → ℕ → Draft → Draft
own_unbound_closed conn rule d = own_closed None rule (closed_unbound conn d)

-- A refused CONNECT is answered, unless its client takes no packet so long (MQTT 3.1.2.11.4), and its connection
-- closed.
abbrev pub refused_if : Bool → ℕ → ℕ → ℕ → Draft → Draft
refused_if true conn reason rule d =
    own_closed (Some reason) rule (closed_unbound conn (record d { outs = d.outs ++ Sent conn (refusing reason) ∷ [] }))
refused_if false conn reason rule d = own_unbound_closed conn rule d

abbrev pub connect_refused : ℕ → ℕ → ℕ → ℕ → Draft → Draft
connect_refused limit conn reason rule d = refused_if (is_short limit (reply (refusing reason))) conn reason rule d

-- ---- the session that a record names

abbrev pub client_of : List Change → Option (List ℕ)
client_of [] = None
client_of (c ∷ changes) = Some c.client

abbrev pub named_by : Option PendingRecord → Option (List ℕ)
named_by None = None
named_by (Some p) = client_of p.changes

abbrev pub bound_number : Option (List ℕ) → Worker → Option ℕ
bound_number None w = None
bound_number (Some client) w = elim (connection_of client w.connections) as
    (λ k. Option ℕ) [ None ↦ None | Some k ↦ Some k.number ]

module _ (profile : Profile) (config : Config) (now : ℕ) where
  abbrev pub push : WorkerMove → Draft → Draft
  push move d =
      record d {
        worker = worker_step profile config d.worker move;
        moves = d.moves ++ move ∷ [];
        outs = d.outs ++ worker_outs profile config d.worker move;
      }

  abbrev pub setting_in : Draft → Setting
  setting_in d = setting_of profile config now d.worker

  abbrev pub views_pushed : ℕ → List ShardList → Draft → Draft
  views_pushed shard [] d = d
  views_pushed shard (list ∷ lists) d = views_pushed (shard + 1) lists (push (View shard list) d)

  -- ---- closes

  -- of a connection that is bound
  abbrev pub ended_with : ℕ → Ending → Draft → Draft
  ended_with conn ending d = not_open conn (push (Unbind conn ending now) d)

  abbrev pub own_bound_closed : ℕ → Ending → ℕ → Draft → Draft
  own_bound_closed conn ending rule d = own_closed ending.reason rule (ended_with conn ending d)

  -- ---- records

  abbrev pub named_closed : Option ℕ → Draft → Draft
  named_closed None d = d
  named_closed (Some conn) d = ended_with conn (with_reason Reason.implementation_error) d

  -- a CONNECT isn't bound yet: it is told by its CONNACK
  abbrev pub own_closed_by_journal : Cause → Draft → Draft
  own_closed_by_journal (OfPackets conn packets) d = own_bound_closed conn (with_reason Reason.implementation_error) 0 d
  own_closed_by_journal (OfConnect conn c) d =
      connect_refused (packet_limit_of c.props) conn Reason.implementation_error 0 d
  own_closed_by_journal (OfPump conn b) d = own_bound_closed conn (with_reason Reason.implementation_error) 0 d
  own_closed_by_journal OfTick d = d
  own_closed_by_journal OfOwed d = d

  -- The journal failed: the turn's connection is closed, and the one of the session that the record names; the turn is
  -- over.
  abbrev pub failed_by : Cause → Option (List ℕ) → Draft → Draft
  failed_by cause client d =
      let own = own_closed_by_journal cause d in
      record (named_closed (bound_number client own.worker) own) { status = Failed }

  abbrev pub committed_unless : Bool → Cause → Cause → Draft → Draft
  committed_unless true cause own d = failed_by own (named_by d.worker.pending) d
  committed_unless false cause own d = push Commit d

  abbrev pub drawn_commit : Drawn → Cause → Cause → Draft → Draft
  drawn_commit drawn cause own d = committed_unless drawn.fails cause own
      (push (BeginCommit cause now) (record d { fates = drawn.fates }))

  abbrev pub commit_if : Bool → Cause → Cause → Draft → Draft
  commit_if true cause own d = drawn_commit (draw d.fates) cause own d
  commit_if false cause own d = d

  -- a record of this cause, for what the turn is about
  abbrev pub commit : Cause → Cause → Draft → Draft
  commit cause own d = commit_if (is_going d.status) cause own d

  -- owed changes that don't go into one record with these many others take records of their own, first
  abbrev pub is_crowded : ℕ → Draft → Bool
  is_crowded count d = not (is_nil d.worker.owed) && nat_lt profile.changes (length d.worker.owed + count)

  abbrev pub owed_if : Bool → Cause → Draft → Draft
  owed_if true own d = commit OfOwed own d
  owed_if false own d = d

  abbrev pub owed_first : List Change → ℕ → Cause → Draft → Draft
  owed_first [] count own d = d
  owed_first (c ∷ changes) count own d = owed_first changes count own (owed_if (is_crowded count d) own d)

  abbrev pub committed_with_owed : Cause → ℕ → Draft → Draft
  committed_with_owed cause count d = commit cause cause (owed_first d.worker.owed count cause d)

  -- ---- put out

  abbrev pub are_short : PlainConnection → Answer → Bool
  are_short k (Answers rs effects) = are_sendable k.packet_limit rs
  are_short k (Accepts c client number rs) = are_sendable k.packet_limit rs
  are_short k (Delivers b moment fresh) = true

  abbrev pub item_is_short : Option PlainConnection → Option Item → Bool
  item_is_short (Some k) (Some i) = are_short k i.answer
  item_is_short k i = true

  -- a reply that is longer than the client takes closes the connection
  abbrev pub long_closed : Bool → ℕ → Draft → Draft
  long_closed true conn d = d
  long_closed false conn d = own_bound_closed conn (silently None) 0 d

  abbrev pub put_out : ℕ → Draft → Draft
  put_out conn d = long_closed (item_is_short (connection_in d.worker conn) (item_at d.worker 0)) conn
      (push (Emit (OfItem 0) now) d)

  abbrev pub put_out_if : Bool → ℕ → Draft → Draft
  put_out_if true conn d = put_out conn d
  put_out_if false conn d = d

  -- the item of what was just committed or stored
  abbrev pub put_out_answer : ℕ → Draft → Draft
  put_out_answer conn d = put_out_if (is_going d.status) conn d
