-- Between two lines the world is what the plain broker keeps, and a ghost of the rest. A line does the same to both.
use Rattle.std.proofs.Common.{◌≡◌, ℕ, ◌+◌, Bool, true, false, cond, ◌&&◌, ◌==◌, List, [], ◌∷◌, ◌++◌, length, Option, Some, None, is_some, refl, sym, ap, ap₂, ◌∙◌, subst, arith}
use Rattle.std.proofs.lemmas.List.{append-nil, length-append}
use Rattle.std.specs.Str.{bytes_eq}
use Rattle.first_topic_name.specs.StoredMessage.{StoredMessage}
use Rattle.first_shard_terms.specs.ShardList.{ShardList, Awaited, store, next_of}
use Rattle.first_session_terms.specs.PlainSession.{PlainSession, begun_session}
use Rattle.first_session_terms.specs.Change.{Change, Began, Parted, Subscribed, Issued, session_of, on_session, act, act_all}
use Rattle.first_session_terms.proofs.Changes.{act_all-append}
use Rattle.first_mqtt_packet.specs.declared.props.Prop.{Prop}
use Rattle.first_mqtt_packet.specs.declared.packet.Packet.{Packet}
use Rattle.first_mqtt_packet.specs.declared.packet.Packet.TheVariants.{Connect, Connack, Publish, Puback, Subscribe, Suback, Disconnect}
use Rattle.first_mqtt_packet.specs.Reading.{packet_of}
use Rattle.first_session_core.specs.PlainConnection.{PlainConnection, expiry_of}
use Rattle.first_session_core.specs.Pump.{Issue, pump_of}
use Rattle.first_session_core.specs.SessionStep.{refusal_of, ops_of, changes_of, replies_of}
use Rattle.first_world_terms.specs.Script.{Line, Nothing, Open, Send, Pump, line_of}
use Rattle.first_world_terms.specs.World.{World, Worker, PendingRecord, Answer, Replies, Delivers, Delivered, BoundHere, one_of_each}
use Rattle.first_world_terms.specs.Move.{Move, Store, Show, View, BeginCommit, Commit, Emit, OfPacket, Out, Sent, Closed, connection_at, session_under, owed_by, begins, begun_by, begun, commit_begun_under, on_worker, on_shard, after_moves, outs_of_moves, outs_if_bound, pumped_by, outs_of_answer, acked_by, history_of, pump_record, record_of_issue, packet_record, record_if_any}
use Rattle.first_world_terms.specs.Turn.{State, opening_state, Turn, no_turn, moves_only, turn_away, waits, view_all, first_turn, close_moves, taken_moves, packet_moves, bound_moves, bound_turn, send_turn, pump_turn, open_turn, turn_of, connection_of_line, lobby_after, after_line, outs_of_turn, outs_of_line}
use Rattle.first_world_terms.specs.Text.{text_of_outs}
use Rattle.first_world_terms.specs.Run.{line_or_nothing, after_lines, text_of_lines}
use Rattle.first_world_terms.specs.PlainBroker.{PlainBroker, Step, empty_broker, list_with, nothing_done, without, opened, turned_away, first_packet, refused, changed, taken, refused_or_taken, bound_packet, sent_bound, sent, issued, pumped, plain_step, plain_after, plain_text}

-- what the world keeps between two lines and the plain broker doesn't
pub record Ghost : Type 0 where
  pub committed : List PlainSession
  pub owed : List Change
  pub next : ℕ
  pub acked_out : List (ℕ × ℕ)
  pub history : List Delivered

-- the ghost before the first line
abbrev pub empty_ghost : Ghost
empty_ghost = record { committed = []; owed = []; next = 1; acked_out = []; history = [] }

-- the worker between two lines, of what it has seen, its connections and the ghost
abbrev pub worker_with : ShardList → List PlainConnection → Ghost → Worker
worker_with list connections g =
    record {
      committed = g.committed;
      owed = g.owed;
      next_incarnation = g.next;
      connections = connections;
      seen = list ∷ [];
      pending = None;
      due = [];
      history = g.history;
    }

-- the world between two lines: all of the shard is shown, and the worker has seen it
abbrev pub world_of_list : ShardList → List PlainConnection → Ghost → World
world_of_list list connections g =
    record {
      config = one_of_each;
      shards = record { stored = list; shown = list; pending = None } ∷ [];
      workers = worker_with list connections g ∷ [];
      acked_out = g.acked_out;
    }

-- the same of a list of these messages
abbrev pub world_with : List StoredMessage → List PlainConnection → Ghost → World
world_with messages connections g = world_of_list (list_with messages) connections g

-- the state between two lines
abbrev pub state_of : PlainBroker → Ghost → State
state_of p g = record { world = world_with p.messages p.connections g; lobby = p.lobby }

-- The sessions are what is committed and owed, the next number is the one after them, and what is owed begins none.
pub record FitsSessions (sessions : List PlainSession) (g : Ghost) : Type 0 where
  pub same_sessions : act_all g.committed g.owed ≡ sessions
  pub next_number : g.next ≡ length sessions + 1
  pub none_begun : begun_by g.owed ≡ 0

-- the ghost fits the broker
abbrev pub Fits : PlainBroker → Ghost → Type 0
Fits p g = FitsSessions p.sessions g

-- the ghost fits the sessions that it gives
abbrev pub FitsItself : Ghost → Type 0
FitsItself g = FitsSessions (act_all g.committed g.owed) g

-- ---- changes

-- a change of one session keeps how many there are
length-on_session : (client : List ℕ) (f : PlainSession → PlainSession) (sessions : List PlainSession)
    → length (on_session client f sessions) ≡ length sessions
length-on_session client f [] = refl
length-on_session client f (m ∷ ms) =
    elim (bytes_eq m.client client) as (λ b. length (cond b (f m ∷ ms) (m ∷ on_session client f ms)) ≡ length (m ∷ ms))
    [ true ↦ refl | false ↦ omega (arith, length-on_session client f ms) ]

-- an equal number is equal with 0 added
plus_zero : (a b : ℕ) → a ≡ b → a ≡ b + 0
plus_zero a b e = omega arith

-- a change adds the sessions that it begins
length-act : (sessions : List PlainSession) (change : Change) → length (act sessions change) ≡ length sessions + begins change
length-act sessions (Began client incarnation expiry) = length-append sessions (begun_session client incarnation expiry ∷ [])
length-act sessions (Parted client expiry moment) = plus_zero _ _ (length-on_session client _ sessions)
length-act sessions (Subscribed client number version options identifier filter sweeps) = plus_zero _ _ (length-on_session client _ sessions)
length-act sessions (Issued client number shard entries sweep) = plus_zero _ _ (length-on_session client _ sessions)

-- so do several
length-act_all : (sessions : List PlainSession) (changes : List Change)
    → length (act_all sessions changes) ≡ length sessions + begun_by changes
length-act_all sessions [] = omega arith
length-act_all sessions (change ∷ changes) =
    omega (arith, length-act_all (act sessions change) changes, length-act sessions change)

-- two lists of changes begin what each of them does
begun_by-append : (first second : List Change) → begun_by (first ++ second) ≡ begun_by first + begun_by second
begun_by-append [] second = omega arith
begun_by-append (change ∷ changes) second = omega (arith, begun_by-append changes second)

-- the end of a connection begins no session
begun_by-owed_by : (m : Option PlainSession) (now : ℕ) → begun_by (owed_by m now) ≡ 0
begun_by-owed_by None now = refl
begun_by-owed_by (Some m) now = refl

-- the list after a message without an identifier, which a test may leave out
abbrev stored_or_not : Bool → List StoredMessage → StoredMessage → List Awaited → ShardList
stored_or_not is_left_out messages w awaited =
    cond (is_left_out && false) (list_with messages)
    (record (list_with (messages ++ w ∷ [])) { awaited = cond (is_left_out && false) awaited [] })

-- nothing is awaited then either
list_with-stored : (b : Bool) (messages : List StoredMessage) (w : StoredMessage) (awaited : List Awaited)
    → stored_or_not b messages w awaited ≡ list_with (stored_or_not b messages w awaited).messages
list_with-stored true messages w awaited = refl
list_with-stored false messages w awaited = refl

-- nothing is awaited after a PUBLISH is stored
store-list_with : (messages : List StoredMessage) (m : PlainSession)
    → (dup : Bool) (qos : ℕ) (retain : Bool) (topic : List ℕ) (id : ℕ) (props : List Prop) (payload : List ℕ)
    → store (list_with messages) (ops_of m (Publish dup qos retain topic id props payload)) 0
    ≡ list_with (store (list_with messages) (ops_of m (Publish dup qos retain topic id props payload)) 0).messages
store-list_with messages m dup qos retain topic id props payload = list_with-stored (qos == 2) messages _ _

-- ---- a turn

-- a world, a lobby and what is put out agree with a step of the plain broker
pub record Agrees (world : World) (lobby : List ℕ) (outs : List Out) (step : Step) : Type 0 where
  pub ghost : Ghost
  pub fits : Fits step.broker ghost
  pub same_world : world ≡ world_with step.broker.messages step.broker.connections ghost
  pub same_lobby : lobby ≡ step.broker.lobby
  pub same_outs : outs ≡ step.outs

-- a turn agrees with a step, from the state of a broker and a ghost
abbrev pub TurnAgrees : PlainBroker → Ghost → ℕ → Turn → Step → Type 0
TurnAgrees p g c turn step =
    Agrees (after_moves (state_of p g).world turn.moves) (lobby_after c turn p.lobby) (outs_of_turn (state_of p g) c turn) step

-- the broker whose sessions are those of the ghost
abbrev pub standing : List StoredMessage → List PlainConnection → List ℕ → Ghost → PlainBroker
standing messages connections lobby g =
    record { messages = messages; sessions = act_all g.committed g.owed; connections = connections; lobby = lobby }

-- the session of a connection
abbrev pub session_with : List PlainConnection → Ghost → ℕ → Option PlainSession
session_with connections g c = session_under (act_all g.committed g.owed) (connection_at c connections)

-- more is owed
owed_more : (g : Ghost) (changes : List Change) → FitsItself g → begun_by changes ≡ 0
    → FitsSessions (act_all (act_all g.committed g.owed) changes) (record g { owed = g.owed ++ changes })
owed_more g changes f none = record {
  same_sessions = act_all-append g.committed g.owed changes;
  next_number = omega (arith, f.next_number, length-act_all (act_all g.committed g.owed) changes, none);
  none_begun = omega (arith, f.none_begun, begun_by-append g.owed changes, none);
}

-- what is owed is committed, and more with it
committed_more : (g : Ghost) (changes : List Change) (acked_out : List (ℕ × ℕ)) (history : List Delivered) → FitsItself g
    → FitsSessions (act_all (act_all g.committed g.owed) changes) (record {
      committed = act_all g.committed (g.owed ++ changes);
      owed = [];
      next = g.next + begun_by (g.owed ++ changes);
      acked_out = acked_out;
      history = history;
    })
committed_more g changes acked_out history f = record {
  same_sessions = act_all-append g.committed g.owed changes;
  next_number =
      omega (arith, f.next_number, f.none_begun, length-act_all (act_all g.committed g.owed) changes, begun_by-append g.owed changes);
  none_begun = refl;
}

-- what a close by the client puts out
no_outs : (found : Option PlainConnection) → outs_if_bound found [] ++ [] ≡ []
no_outs None = refl
no_outs (Some k) = refl

module _ (messages : List StoredMessage) (connections : List PlainConnection) (lobby : List ℕ) (g : Ghost) (fits : FitsItself g) where
  -- the broker, the world and the worker of these parts
  abbrev here : PlainBroker
  here = standing messages connections lobby g

  abbrev world_here : World
  world_here = world_with messages connections g

  abbrev worker_here : Worker
  worker_here = worker_with (list_with messages) connections g

  -- a turn of a connection agrees with a step, from here
  abbrev AgreesHere : ℕ → Turn → (PlainBroker → Step) → Type 0
  AgreesHere c turn step = TurnAgrees here g c turn (step here)

  -- nothing at all
  agrees_nothing : (c : ℕ) → AgreesHere c no_turn nothing_done
  agrees_nothing c = record { ghost = g; fits = fits; same_world = refl; same_lobby = append-nil lobby; same_outs = refl }

  -- the worker looks, and nothing more
  agrees_look : (c : ℕ) → AgreesHere c (moves_only view_all) nothing_done
  agrees_look c = record { ghost = g; fits = fits; same_world = refl; same_lobby = append-nil lobby; same_outs = refl }

  -- a connection in the lobby is turned away
  agrees_away : (c : ℕ) → AgreesHere c turn_away (turned_away c)
  agrees_away c = record { ghost = g; fits = fits; same_world = refl; same_lobby = append-nil (without c lobby); same_outs = refl }

  -- a bound connection is closed with a reason
  agrees_close : (c reason : ℕ) (k : PlainConnection) → connection_at c connections ≡ Some k
      → AgreesHere c (moves_only (close_moves c reason)) (refused c reason)
  agrees_close c reason k e =
      record {
        ghost = record g { owed = g.owed ++ owed_by (session_with connections g c) 0 };
        fits = owed_more g (owed_by (session_with connections g c) 0) fits (begun_by-owed_by (session_with connections g c) 0);
        same_world = refl;
        same_lobby = append-nil lobby;
        same_outs = ap (λ (found : Option PlainConnection). outs_if_bound found (Sent c (Disconnect reason []) ∷ Closed c ∷ []) ++ []) e;
      }

  -- a connection is opened
  agrees_open : (c : ℕ) (found : Option PlainConnection) → AgreesHere c (open_turn c found) (opened c found)
  agrees_open c None = record { ghost = g; fits = fits; same_world = refl; same_lobby = refl; same_outs = refl }
  agrees_open c (Some k) =
      record {
        ghost = record g { owed = g.owed ++ owed_by (session_with connections g c) 0 };
        fits = owed_more g (owed_by (session_with connections g c) 0) fits (begun_by-owed_by (session_with connections g c) 0);
        same_world = refl;
        same_lobby = refl;
        same_outs = no_outs (connection_at c connections);
      }

  -- ---- a record

  -- the world after the worker has looked and begun to commit this record, and the moves that follow
  abbrev began : Option PendingRecord → World
  began asked = on_worker 0 (λ (w : Worker). commit_begun_under w w.pending asked) world_here

  abbrev rest_of_commit : List Move
  rest_of_commit = Commit 0 ∷ Emit 0 ∷ []

  -- a turn that commits this record agrees with a step
  abbrev CommitAgrees : Option PendingRecord → Step → Type 0
  CommitAgrees asked step =
      Agrees (after_moves (began asked) rest_of_commit) (lobby ++ []) (outs_of_moves (began asked) rest_of_commit) step

  -- no record is asked for
  commit_none : CommitAgrees None (nothing_done here)
  commit_none =
      record {
        ghost = record g { acked_out = g.acked_out ++ [] };
        fits = record { same_sessions = refl; next_number = fits.next_number; none_begun = fits.none_begun };
        same_world = refl;
        same_lobby = append-nil lobby;
        same_outs = refl;
      }

  -- a record with one answer
  commit_some : (changes : List Change) (answer : Answer)
      → CommitAgrees (Some (record { changes = changes; answers = answer ∷ [] }))
      (record {
        broker = record here { sessions = act_all here.sessions changes; connections = pumped_by answer connections };
        outs = outs_of_answer answer;
      })
  commit_some changes answer =
      record {
        ghost = record {
          committed = act_all g.committed (g.owed ++ changes);
          owed = [];
          next = g.next + begun_by (g.owed ++ changes);
          acked_out = g.acked_out ++ acked_by answer;
          history = g.history ++ history_of answer;
        };
        fits = committed_more g changes (g.acked_out ++ acked_by answer) (g.history ++ history_of answer) fits;
        same_world = refl;
        same_lobby = append-nil lobby;
        same_outs = append-nil (outs_of_answer answer);
      }

  -- the record of what a packet changes
  commit_changes : (c : ℕ) (packet : Packet) (changes : List Change)
      → CommitAgrees (record_if_any c packet changes) (changed c packet changes here)
  commit_changes c packet [] = commit_none
  commit_changes c packet (d ∷ ds) = commit_some (d ∷ ds) (Replies c (replies_of packet))

  -- a packet whose record is committed
  agrees_commit : (c : ℕ) (packet : Packet) (m : PlainSession) → session_with connections g c ≡ Some m
      → AgreesHere c (moves_only (view_all ++ BeginCommit 0 (OfPacket c packet) ∷ rest_of_commit))
      (changed c packet (changes_of m (list_with messages ∷ []) packet))
  agrees_commit c packet m e =
      subst (λ (session : Option PlainSession).
      CommitAgrees (packet_record c (list_with messages ∷ []) packet session)
      (changed c packet (changes_of m (list_with messages ∷ []) packet) here))
      (sym e) (commit_changes c packet (changes_of m (list_with messages ∷ []) packet))

  -- the record of what a pump issues
  commit_issue : (c : ℕ) (client : List ℕ) (issue : Option Issue)
      → CommitAgrees (record_of_issue c client issue) (issued c client issue here)
  commit_issue c client None = commit_none
  commit_issue c client (Some issue) =
      commit_some (Issued client issue.subscription issue.shard issue.entries issue.sweep ∷ []) (Delivers c issue)

  -- the record of a pump of a bound connection
  commit_pump : (c : ℕ) (k : PlainConnection) (session : Option PlainSession)
      → CommitAgrees (pump_record c (list_with messages ∷ []) (Some k) session) (pumped c (Some k) session here)
  commit_pump c k None = commit_none
  commit_pump c k (Some m) = commit_issue c m.client (pump_of m k (list_with messages ∷ []))

  -- a pump
  agrees_pump : (c : ℕ) (found : Option PlainConnection) → connection_at c connections ≡ found
      → AgreesHere c (pump_turn c found) (pumped c found (session_with connections g c))
  agrees_pump c None e = agrees_nothing c
  agrees_pump c (Some k) e =
      subst (λ (found : Option PlainConnection).
      CommitAgrees (pump_record c (list_with messages ∷ []) found (session_with connections g c))
      (pumped c (Some k) (session_with connections g c) here))
      (sym e) (commit_pump c k (session_with connections g c))

  -- ---- a first packet

  -- the ghost after a CONNECT
  abbrev connected_ghost : ℕ → List ℕ → ℕ → Ghost
  connected_ghost c client expiry =
      record {
        committed = act_all g.committed (g.owed ++ Began client g.next expiry ∷ []);
        owed = [];
        next = g.next + begun_by (g.owed ++ Began client g.next expiry ∷ []);
        acked_out = g.acked_out ++ [];
        history = (g.history ++ BoundHere c ∷ []) ++ [];
      }

  -- it fits the sessions with the new one
  fits_connected : (c : ℕ) (client : List ℕ) (expiry : ℕ)
      → FitsSessions (here.sessions ++ begun_session client (length here.sessions + 1) expiry ∷ []) (connected_ghost c client expiry)
  fits_connected c client expiry =
      subst (λ (number : ℕ).
      FitsSessions (here.sessions ++ begun_session client number expiry ∷ []) (connected_ghost c client expiry))
      fits.next_number
      (committed_more g (Began client g.next expiry ∷ []) (g.acked_out ++ []) ((g.history ++ BoundHere c ∷ []) ++ []) fits)

  -- two turns and two steps that a test chooses from
  agrees_choice : (c : ℕ) (b : Bool) (turn other_turn : Turn) (step other_step : Step)
      → TurnAgrees here g c turn step → TurnAgrees here g c other_turn other_step
      → TurnAgrees here g c (cond b turn other_turn) (cond b step other_step)
  agrees_choice c true turn other_turn step other_step agrees other_agrees = agrees
  agrees_choice c false turn other_turn step other_step agrees other_agrees = other_agrees

  -- the first packet of a connection in the lobby
  agrees_first : (c : ℕ) (packet : Option Packet) → AgreesHere c (first_turn here.sessions c packet) (first_packet c packet)
  agrees_first c None = agrees_away c
  agrees_first c (Some (Connect clean keep_alive props client will user password)) =
      agrees_choice c (is_some (session_of client here.sessions)) _ _ _ _ (agrees_away c)
      (record {
        ghost = connected_ghost c client (expiry_of props);
        fits = fits_connected c client (expiry_of props);
        same_world = refl;
        same_lobby = append-nil (without c lobby);
        same_outs = refl;
      })
  agrees_first c (Some (Connack present reason props)) = agrees_away c
  agrees_first c (Some (Publish dup qos retain topic id props payload)) = agrees_away c
  agrees_first c (Some (Puback id reason props)) = agrees_away c
  agrees_first c (Some (Subscribe id props filters)) = agrees_away c
  agrees_first c (Some (Suback id props reasons)) = agrees_away c
  agrees_first c (Some (Disconnect reason props)) = agrees_away c

  -- ---- a packet of a bound connection

  -- the world after the worker has looked and begun to store the group of this session, and the moves that follow
  abbrev began_group : ℕ → Packet → Option PlainSession → World
  began_group c packet session = on_shard 0 (begun session 0 0 c packet 0) world_here

  abbrev rest_of_publish : List Move
  rest_of_publish = Store 0 ∷ Show 0 ∷ View 0 0 ∷ Emit 0 ∷ []

  -- a turn that stores this group agrees with a step
  abbrev PublishAgrees : ℕ → Packet → Option PlainSession → Step → Type 0
  PublishAgrees c packet session step =
      Agrees (after_moves (began_group c packet session) rest_of_publish) (lobby ++ [])
      (outs_of_moves (began_group c packet session) rest_of_publish) step

  -- the ghost after a PUBLISH
  abbrev acked_ghost : Ghost
  acked_ghost = record g { acked_out = g.acked_out ++ (0, next_of (list_with messages)) ∷ []; history = g.history ++ [] }

  -- a PUBLISH
  agrees_publish : (c : ℕ) (m : PlainSession) → session_with connections g c ≡ Some m
      → (dup : Bool) (qos : ℕ) (retain : Bool) (topic : List ℕ) (id : ℕ) (props : List Prop) (payload : List ℕ)
      → AgreesHere c (moves_only (taken_moves c (Publish dup qos retain topic id props payload)))
      (taken c (Publish dup qos retain topic id props payload) m)
  agrees_publish c m e dup qos retain topic id props payload =
      subst (λ (session : Option PlainSession).
      PublishAgrees c (Publish dup qos retain topic id props payload) session
      (taken c (Publish dup qos retain topic id props payload) m here))
      (sym e)
      (record {
        ghost = acked_ghost;
        fits = record { same_sessions = refl; next_number = fits.next_number; none_begun = fits.none_begun };
        same_world =
            ap (λ (list : ShardList). world_of_list list connections acked_ghost)
            (store-list_with messages m dup qos retain topic id props payload);
        same_lobby = append-nil lobby;
        same_outs = refl;
      })

  -- a packet that is taken
  agrees_taken : (c : ℕ) (packet : Packet) (m : PlainSession) → session_with connections g c ≡ Some m
      → AgreesHere c (moves_only (taken_moves c packet)) (taken c packet m)
  agrees_taken c (Publish dup qos retain topic id props payload) m e = agrees_publish c m e dup qos retain topic id props payload
  agrees_taken c (Subscribe id props filters) m e = agrees_commit c (Subscribe id props filters) m e
  agrees_taken c (Connect clean keep_alive props client will user password) m e = agrees_look c
  agrees_taken c (Connack present reason props) m e = agrees_look c
  agrees_taken c (Puback id reason props) m e = agrees_look c
  agrees_taken c (Suback id props reasons) m e = agrees_look c
  agrees_taken c (Disconnect reason props) m e = agrees_look c

  -- a packet that is refused, or taken
  agrees_refused_or_taken : (c : ℕ) (packet : Packet) (m : PlainSession) (k : PlainConnection) (refusal : Option ℕ)
      → connection_at c connections ≡ Some k → session_with connections g c ≡ Some m
      → AgreesHere c (moves_only (packet_moves c packet refusal)) (refused_or_taken c packet m refusal)
  agrees_refused_or_taken c packet m k None found e = agrees_taken c packet m e
  agrees_refused_or_taken c packet m k (Some reason) found e = agrees_close c reason k found

  -- bytes of a bound connection
  agrees_packet : (c : ℕ) (packet : Option Packet) (k : PlainConnection) (session : Option PlainSession)
      → connection_at c connections ≡ Some k → session_with connections g c ≡ session
      → AgreesHere c (moves_only (bound_moves c packet session)) (bound_packet c packet session)
  agrees_packet c None k session found e = agrees_close c 131 k found
  agrees_packet c (Some packet) k None found e = agrees_look c
  agrees_packet c (Some packet) k (Some m) found e = agrees_refused_or_taken c packet m k (refusal_of m packet) found e

  -- bytes of a connection that is bound, or isn't open
  agrees_bound : (c : ℕ) (packet : Option Packet) (found : Option PlainConnection) → connection_at c connections ≡ found
      → AgreesHere c (bound_turn worker_here c packet found) (sent_bound c packet found)
  agrees_bound c packet None e = agrees_nothing c
  agrees_bound c packet (Some k) e = agrees_packet c packet k (session_with connections g c) e refl

  -- bytes of a connection
  agrees_sent : (c : ℕ) (packet : Option Packet) → AgreesHere c (send_turn worker_here lobby c packet) (sent c packet)
  agrees_sent c packet =
      agrees_choice c (waits c lobby) _ _ _ _ (agrees_first c packet) (agrees_bound c packet (connection_at c connections) refl)

  -- a line
  agrees_line : (line : Line) → AgreesHere (connection_of_line line) (turn_of (state_of here g) line) (plain_step line)
  agrees_line Nothing = agrees_nothing 0
  agrees_line (Open c) = agrees_open c (connection_at c connections)
  agrees_line (Send c bytes) = agrees_sent c (packet_of bytes)
  agrees_line (Pump c) = agrees_pump c (connection_at c connections) refl

-- ---- lines

-- a state is that of a broker and of some ghost that fits it
pub record Stands (p : PlainBroker) (s : State) : Type 0 where
  pub ghost : Ghost
  pub fits : Fits p ghost
  pub same_state : s ≡ state_of p ghost

-- a line does the same to a broker and to a state: what it leaves stands again, and it puts out the same
pub record Follows (p : PlainBroker) (s : State) (line : Line) : Type 0 where
  pub stands : Stands (plain_step line p).broker (after_line s line)
  pub same_outs : outs_of_line s line ≡ (plain_step line p).outs

-- a line from a broker whose sessions are those of the ghost
follows_standing : (messages : List StoredMessage) (connections : List PlainConnection) (lobby : List ℕ) (g : Ghost)
    → FitsItself g → (line : Line)
    → Follows (standing messages connections lobby g) (state_of (standing messages connections lobby g) g) line
follows_standing messages connections lobby g fits line =
    let agrees = agrees_line messages connections lobby g fits line in
    record {
      stands = record {
        ghost = agrees.ghost;
        fits = agrees.fits;
        same_state = λ i. record { world = agrees.same_world i; lobby = agrees.same_lobby i };
      };
      same_outs = agrees.same_outs;
    }

-- a ghost that fits some sessions fits its own
FitsSessions-itself : (sessions : List PlainSession) (g : Ghost) → FitsSessions sessions g → FitsItself g
FitsSessions-itself sessions g fits =
    record {
      same_sessions = refl;
      next_number = fits.next_number ∙ ap (λ (of_ghost : List PlainSession). length of_ghost + 1) (sym fits.same_sessions);
      none_begun = fits.none_begun;
    }

-- a line from a broker and a ghost that fits it
follows_ghost : (p : PlainBroker) (g : Ghost) → Fits p g → (line : Line) → Follows p (state_of p g) line
follows_ghost p g fits line =
    subst (λ (sessions : List PlainSession). Follows (record p { sessions = sessions }) (state_of p g) line) fits.same_sessions
    (follows_standing p.messages p.connections p.lobby g (FitsSessions-itself p.sessions g fits) line)

-- a line from a state that stands
pub follows : (p : PlainBroker) (s : State) → Stands p s → (line : Line) → Follows p s line
follows p s stands line =
    subst (λ (state : State). Follows p state line) (sym stands.same_state) (follows_ghost p stands.ghost stands.fits line)

-- Lines leave a state that stands. This is no abbrev, so that an induction over the lines doesn't compute them.
LinesStand : List (List ℕ) → Type 0
LinesStand texts = (p : PlainBroker) (s : State) → Stands p s → Stands (plain_after p texts) (after_lines s texts)

-- no line leaves it
LinesStand-none : LinesStand []
unfolding LinesStand
LinesStand-none p s stands = stands

-- so does one more line
LinesStand-more : (text : List ℕ) (texts : List (List ℕ)) → LinesStand texts → LinesStand (text ∷ texts)
unfolding LinesStand
LinesStand-more text texts rest p s stands = rest _ _ (follows p s stands (line_or_nothing (line_of text))).stands

-- all lines do
lines_stand : (texts : List (List ℕ)) → LinesStand texts
lines_stand [] = LinesStand-none
lines_stand (text ∷ texts) = LinesStand-more text texts (lines_stand texts)

-- lines print what the plain broker prints
LinesPrint : List (List ℕ) → Type 0
LinesPrint texts = (p : PlainBroker) (s : State) → Stands p s → text_of_lines s texts ≡ plain_text p texts

-- no line prints nothing
LinesPrint-none : LinesPrint []
unfolding LinesPrint
LinesPrint-none p s stands = refl

-- one more line prints the same of both
LinesPrint-more : (text : List ℕ) (texts : List (List ℕ)) → LinesPrint texts → LinesPrint (text ∷ texts)
unfolding LinesPrint
LinesPrint-more text texts rest p s stands =
    let after = follows p s stands (line_or_nothing (line_of text)) in
    ap₂ (λ (outs : List Out) (more : List ℕ). text_of_outs outs ++ more) after.same_outs (rest _ _ after.stands)

-- all lines do
lines_print : (texts : List (List ℕ)) → LinesPrint texts
lines_print [] = LinesPrint-none
lines_print (text ∷ texts) = LinesPrint-more text texts (lines_print texts)

-- the opening state is that of the empty broker
Stands-opening : Stands empty_broker opening_state
Stands-opening =
    record { ghost = empty_ghost; fits = record { same_sessions = refl; next_number = refl; none_begun = refl }; same_state = refl }

-- after each run of lines the state is that of the plain broker after them and of some ghost that fits it
pub every_run_stands : (texts : List (List ℕ)) → Stands (plain_after empty_broker texts) (after_lines opening_state texts)
unfolding LinesStand
every_run_stands texts = lines_stand texts empty_broker opening_state Stands-opening

-- each run of lines prints what the plain broker prints
pub every_run_prints : (texts : List (List ℕ)) → text_of_lines opening_state texts ≡ plain_text empty_broker texts
unfolding LinesPrint
every_run_prints texts = lines_print texts empty_broker opening_state Stands-opening
