-- A line is a turn of one worker, or none, and a turn is a list of moves.
use Rattle.std.specs.Prelude.{ℕ, Bool, true, false, not, ◌==◌, if◌then◌else◌, List, [], ◌∷◌, ◌++◌, filter, slice_get, Option, Some, None, is_some}
use Rattle.std.specs.List.{list_any}
use Rattle.first_session_terms.specs.PlainSession.{PlainSession}
use Rattle.first_session_terms.specs.Change.{session_of}
use Rattle.first_mqtt_packet.specs.declared.packet.Packet.{Packet}
use Rattle.first_mqtt_packet.specs.declared.packet.Packet.TheVariants.{Connect, Connack, Publish, Puback, Subscribe, Suback, Disconnect}
use Rattle.first_mqtt_packet.specs.Reading.{packet_of}
use Rattle.first_session_core.specs.PlainConnection.{PlainConnection}
use Rattle.first_session_core.specs.SessionStep.{refusal_of}
use Rattle.first_world_terms.specs.Script.{Line, Nothing, Open, Send, Pump}
use Rattle.first_world_terms.specs.World.{World, Worker, opening_world, sessions_of, one_of_each}
use Rattle.first_world_terms.specs.Move.{Move, Begin, Store, Show, View, BeginCommit, Commit, Emit, Bind, Unbind, OfPacket, OfPump, OfConnect, ByClient, ByServer, Out, Closed, connection_at, session_at, after_moves, outs_of_moves}

-- The world, and the connections that are open and not bound yet, in order of opening.
pub record State : Type 0 where
  pub world : World
  pub lobby : List ℕ

abbrev pub opening_state : State
opening_state = record { world = opening_world one_of_each; lobby = [] }

-- What a line does: whether its connection stays in the lobby, goes there, or leaves it, the moves, and whether the
-- server closes the connection before it was bound.
pub record Turn : Type 0 where
  pub enters : Bool
  pub leaves : Bool
  pub moves : List Move
  pub turned_away : Bool

abbrev pub no_turn : Turn
no_turn = record { enters = false; leaves = false; moves = []; turned_away = false }

-- only moves
abbrev pub moves_only : List Move → Turn
moves_only moves = record { enters = false; leaves = false; moves = moves; turned_away = false }

-- closed before it was bound, with nothing written
abbrev pub turn_away : Turn
turn_away = record { enters = false; leaves = true; moves = []; turned_away = true }

abbrev pub waits : ℕ → List ℕ → Bool
waits c lobby = list_any (λ d. d == c) lobby

-- the worker of every connection, and its view of every shard, which begins a turn
abbrev pub view_all : List Move
view_all = View 0 0 ∷ []

-- a client's session begins and its connection is bound
abbrev pub connect_moves : ℕ → Packet → List Move
connect_moves c packet = view_all ++ BeginCommit 0 (OfConnect c packet) ∷ Commit 0 ∷ Bind 0 c packet 0 ∷ Emit 0 ∷ []

-- A CONNECT of a client that has a session is not built yet.
abbrev pub first_turn : List PlainSession → ℕ → Option Packet → Turn
first_turn sessions c None = turn_away
first_turn sessions c (Some (Connect clean keep_alive props client will user password)) =
    if is_some (session_of client sessions) then turn_away
    else
    record {
      enters = false;
      leaves = true;
      moves = connect_moves c (Connect clean keep_alive props client will user password);
      turned_away = false;
    }
-- a first packet that is no CONNECT (MQTT 3.1)
first_turn sessions c (Some (Connack present reason props)) = turn_away
first_turn sessions c (Some (Publish dup qos retain topic id props payload)) = turn_away
first_turn sessions c (Some (Puback id reason props)) = turn_away
first_turn sessions c (Some (Subscribe id props filters)) = turn_away
first_turn sessions c (Some (Suback id props reasons)) = turn_away
first_turn sessions c (Some (Disconnect reason props)) = turn_away

-- a connection is closed with a reason
abbrev pub close_moves : ℕ → ℕ → List Move
close_moves c reason = view_all ++ Unbind 0 c (ByServer reason) 0 ∷ []

-- a packet that is taken: a PUBLISH is stored, shown and then acknowledged; others are committed and then answered
abbrev pub taken_moves : ℕ → Packet → List Move
taken_moves c (Publish dup qos retain topic id props payload) =
    view_all ++ Begin 0 0 c (Publish dup qos retain topic id props payload) 0 ∷ Store 0 ∷ Show 0 ∷ View 0 0 ∷ Emit 0 ∷ []
taken_moves c (Subscribe id props filters) = view_all ++ BeginCommit 0 (OfPacket c (Subscribe id props filters)) ∷ Commit 0 ∷ Emit 0 ∷ []
taken_moves c (Connect clean keep_alive props client will user password) = view_all
taken_moves c (Connack present reason props) = view_all
taken_moves c (Puback id reason props) = view_all
taken_moves c (Suback id props reasons) = view_all
taken_moves c (Disconnect reason props) = view_all

abbrev pub packet_moves : ℕ → Packet → Option ℕ → List Move
packet_moves c packet None = taken_moves c packet
packet_moves c packet (Some reason) = close_moves c reason

-- bytes that are no packet of a form that is built are refused with 131
abbrev pub bound_moves : ℕ → Option Packet → Option PlainSession → List Move
bound_moves c None m = close_moves c 131
bound_moves c (Some packet) None = view_all
bound_moves c (Some packet) (Some m) = packet_moves c packet (refusal_of m packet)

abbrev pub bound_turn : Worker → ℕ → Option Packet → Option PlainConnection → Turn
bound_turn w c packet None = no_turn
bound_turn w c packet (Some k) = moves_only (bound_moves c packet (session_at c w))

-- bytes of a connection in the lobby, of a bound one, or of one that isn't open
abbrev pub send_turn : Worker → List ℕ → ℕ → Option Packet → Turn
send_turn w lobby c packet =
    if waits c lobby then first_turn (sessions_of w) c packet else bound_turn w c packet (connection_at c w.connections)

-- issued, committed, put out; where nothing is issued, only seen
abbrev pub pump_turn : ℕ → Option PlainConnection → Turn
pump_turn c None = no_turn
pump_turn c (Some k) = moves_only (view_all ++ BeginCommit 0 (OfPump c) ∷ Commit 0 ∷ Emit 0 ∷ [])

-- an open connection of this number is closed by its client first
abbrev pub open_turn : ℕ → Option PlainConnection → Turn
open_turn c None = record { enters = true; leaves = true; moves = []; turned_away = false }
open_turn c (Some k) = record { enters = true; leaves = true; moves = Unbind 0 c ByClient 0 ∷ []; turned_away = false }

abbrev pub turn_in : Worker → List ℕ → Line → Turn
turn_in w lobby Nothing = no_turn
turn_in w lobby (Open c) = open_turn c (connection_at c w.connections)
turn_in w lobby (Send c bytes) = send_turn w lobby c (packet_of bytes)
turn_in w lobby (Pump c) = pump_turn c (connection_at c w.connections)

abbrev pub turn_of_worker : Option Worker → List ℕ → Line → Turn
turn_of_worker None lobby line = no_turn
turn_of_worker (Some w) lobby line = turn_in w lobby line

-- the turn that a line is
abbrev pub turn_of : State → Line → Turn
turn_of s line = turn_of_worker (slice_get s.world.workers 0) s.lobby line

-- the connection of a line
abbrev pub connection_of_line : Line → ℕ
connection_of_line Nothing = 0
connection_of_line (Open c) = c
connection_of_line (Send c bytes) = c
connection_of_line (Pump c) = c

abbrev pub lobby_after : ℕ → Turn → List ℕ → List ℕ
lobby_after c turn lobby =
    (if turn.leaves then filter (λ d. not (d == c)) lobby else lobby) ++ (if turn.enters then c ∷ [] else [])

-- the state after a line, and what is put out
abbrev pub after_turn : State → ℕ → Turn → State
after_turn s c turn = record { world = after_moves s.world turn.moves; lobby = lobby_after c turn s.lobby }

abbrev pub after_line : State → Line → State
after_line s line = after_turn s (connection_of_line line) (turn_of s line)

abbrev pub outs_of_turn : State → ℕ → Turn → List Out
outs_of_turn s c turn = (if turn.turned_away then Closed c ∷ [] else []) ++ outs_of_moves s.world turn.moves

abbrev pub outs_of_line : State → Line → List Out
outs_of_line s line = outs_of_turn s (connection_of_line line) (turn_of s line)
