-- Which moves of a worker are allowed.
use Rattle.std.specs.Prelude.{ℕ, Bool, true, false, ◌&&◌, Option, Some, None, find, is_some, is_none}
use Rattle.topic_model.specs.Profile.{Profile, Config}
use Rattle.turn_model.specs.PlainConnection.{PlainConnection, connection_of}
use Rattle.turn_model.specs.Worker.{Worker, Item, Answer, Accepts, PendingRecord, setting_of, connection_in, session_in}
use Rattle.turn_model.specs.WorkerMoves.{WorkerMove, View, BeginCommit, Commit, Settle, Stored, Emit, OfItem, OfPacket}
use Rattle.turn_model.specs.WorkerMoves.{OfResend, Bind, TakeOver, Unbind, has_asked, item_at, answered_step}
use Rattle.turn_model.specs.Records.{record_of}
use Rattle.turn_model.specs.WorkerMoves.{resent_for, has_connect, may_take_over}
use Rattle.turn_model.specs.Records.{accepts_on, session_at, may_settle}

-- a client that isn't bound, whose session is there
abbrev pub may_bind_answer : Worker → Answer → Bool
may_bind_answer w (Accepts c client number rs) =
    is_none (connection_of client w.connections) && is_some (session_at client number w)
may_bind_answer w other = false

abbrev pub may_bind : Worker → Option PendingRecord → Option Item → Option PlainConnection → Bool
may_bind w None (Some i) None = may_bind_answer w i.answer
may_bind w p i k = false

abbrev pub may_unbind : ℕ → Worker → Option PlainConnection → Bool
may_unbind conn w None = has_connect conn w
may_unbind conn w (Some k) = true

-- A View always is. A record is begun where none pends and its cause makes one; it commits where one pends, and is
-- settled where besides its connection isn't bound. A stored group is handed on to a client that has its connection
-- still. An item is put out that is due, fresh and in its turn, of a connection that is bound; the answer of a packet
-- that owes nothing; and what is to be sent again, where some is left. A connection is bound that isn't, where nothing
-- pends, for a CONNECT that is in, to the session that it began or bound, where its client has no other; one is taken
-- over by such a CONNECT of its client; and one ends that is bound, or whose CONNECT is under way.
abbrev pub worker_allows : Profile → Config → Worker → WorkerMove → Bool
worker_allows profile config w (View shard list) = true
worker_allows profile config w (BeginCommit cause now) =
    is_none w.pending && is_some (record_of (setting_of profile config now w) w cause)
worker_allows profile config w Commit = is_some w.pending
worker_allows profile config w (Settle goes_in now) = may_settle w w.pending
worker_allows profile config w (Stored shard a messages) = has_asked a (connection_in w a.connection)
worker_allows profile config w (Emit (OfItem place) now) = is_some (item_at w place)
worker_allows profile config w (Emit (OfPacket conn packet outcomes) now) =
    is_some
    (answered_step (setting_of profile config now w) w packet outcomes (connection_in w conn) (session_in w conn))
worker_allows profile config w (Emit (OfResend conn) now) =
    is_some (resent_for profile now w (connection_in w conn) (session_in w conn))
worker_allows profile config w (Bind conn now) =
    may_bind w w.pending (find (accepts_on conn) w.due) (connection_in w conn)
worker_allows profile config w (TakeOver conn) = may_take_over w conn (connection_in w conn)
worker_allows profile config w (Unbind conn ending now) = may_unbind conn w (connection_in w conn)
