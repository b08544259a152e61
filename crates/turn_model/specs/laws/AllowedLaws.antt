-- A move of a worker that isn't allowed changes nothing and puts out nothing.
use Rattle.std.proofs.Common.{◌≡◌, ℕ, Bool, true, false, ◌&&◌, List, [], Option, Some, None, find, is_some, is_none}
use Rattle.std.proofs.Common.{refl}
use Rattle.topic_model.specs.Profile.{Profile, Config}
use Rattle.topic_model.specs.StoredMessage.{StoredMessage}
use Rattle.session_model.specs.PlainSession.{PlainSession, session_of}
use Rattle.mqtt_packet.specs.Packet.{ConnectFields}
use Rattle.turn_model.specs.PlainConnection.{PlainConnection, connection_of}
use Rattle.turn_model.specs.Resend.{Resent}
use Rattle.turn_model.specs.Step.{Step}
use Rattle.turn_model.specs.Worker.{Worker, Item, Answer, Answers, Accepts, Delivers, PendingRecord, sessions_of}
use Rattle.turn_model.specs.Worker.{setting_of, connection_in, session_in}
use Rattle.turn_model.specs.WorkerMoves.{WorkerMove, Asker, Ending, View, BeginCommit, Commit, Settle, Stored, Emit}
use Rattle.turn_model.specs.WorkerMoves.{OfItem, OfPacket, OfResend, Bind, TakeOver, Unbind}
use Rattle.turn_model.specs.Records.{record_of, begun_unless}
use Rattle.turn_model.specs.WorkerMoves.{has_asked, stored_if, item_at, emitted_if}
use Rattle.turn_model.specs.Records.{record_committed, record_settled}
use Rattle.turn_model.specs.WorkerMoves.{answered_step, step_emitted, resent_for, resend_emitted}
use Rattle.turn_model.specs.Records.{accepts_on}
use Rattle.turn_model.specs.WorkerMoves.{bound_with, bound_answer, bound_if, has_connect}
use Rattle.turn_model.specs.Records.{session_at, may_settle}
use Rattle.turn_model.specs.WorkerMoves.{may_take_over, taken_over_if, unbound_if, unbound_from, worker_step}
use Rattle.turn_model.specs.WorkerMoves.{worker_outs, worker_acks, emitted_outs, step_outs, resend_outs, close_outs}
use Rattle.turn_model.specs.WorkerMoves.{takeover_outs, ending_outs, emitted_acks, step_acks}
use Rattle.turn_model.specs.Allowed.{may_bind_answer, may_bind, may_unbind, worker_allows}

begun_same : (pending asked : Option PendingRecord) (w : Worker) → (is_none pending && is_some asked) ≡ false →
    begun_unless pending asked w ≡ w
begun_same (Some p) asked w never = refl
begun_same None None w never = refl
begun_same None (Some p) w never = cc

committed_same : (pending : Option PendingRecord) (w : Worker) → is_some pending ≡ false →
    record_committed pending w ≡ w
committed_same None w never = refl
committed_same (Some p) w never = cc

settled_same : (b goes_in : Bool) (now : ℕ) (w : Worker) → b ≡ false → record_settled b goes_in now w ≡ w
settled_same true goes_in now w never = cc
settled_same false goes_in now w never = refl

stored_same : (b : Bool) (shard : ℕ) (a : Asker) (messages : List (Option StoredMessage)) (w : Worker) → b ≡ false →
    stored_if b shard a messages w ≡ w
stored_same true shard a messages w never = cc
stored_same false shard a messages w never = refl

emitted_same : (place now : ℕ) (i : Option Item) (w : Worker) → is_some i ≡ false → emitted_if place now i w ≡ w
emitted_same place now None w never = refl
emitted_same place now (Some i) w never = cc

step_same : (conn now : ℕ) (step : Option Step) (w : Worker) → is_some step ≡ false → step_emitted conn now step w ≡ w
step_same conn now None w never = refl
step_same conn now (Some step) w never = cc

resend_same : (conn : ℕ) (k : Option PlainConnection) (r : Option Resent) (w : Worker) → is_some r ≡ false →
    resend_emitted conn k r w ≡ w
resend_same conn (Some k) (Some r) w never = cc
resend_same conn (Some k) None w never = refl
resend_same conn None (Some r) w never = refl
resend_same conn None None w never = refl

bound_with_same : (conn : ℕ) (c : ConnectFields) (now : ℕ) (k : Option PlainConnection) (m : Option PlainSession)
    (w : Worker) →
    (is_none k && is_some m) ≡ false → bound_with conn c now k m w ≡ w
bound_with_same conn c now None (Some m) w never = cc
bound_with_same conn c now None None w never = refl
bound_with_same conn c now (Some k) None w never = refl
bound_with_same conn c now (Some k) (Some m) w never = refl

bound_answer_same : (conn now : ℕ) (a : Answer) (w : Worker) → may_bind_answer w a ≡ false →
    bound_answer conn now a w ≡ w
bound_answer_same conn now (Accepts c client number rs) w never =
    bound_with_same conn c now (connection_of client w.connections) (session_at client number w) w never
bound_answer_same conn now (Answers rs effects) w never = refl
bound_answer_same conn now (Delivers b moment fresh) w never = refl

bound_same : (conn now : ℕ) (p : Option PendingRecord) (i : Option Item) (k : Option PlainConnection) (w : Worker) →
    may_bind w p i k ≡ false → bound_if conn now p i k w ≡ w
bound_same conn now None (Some i) None w never = bound_answer_same conn now i.answer w never
bound_same conn now None (Some i) (Some k) w never = refl
bound_same conn now None None None w never = refl
bound_same conn now None None (Some k) w never = refl
bound_same conn now (Some p) (Some i) None w never = refl
bound_same conn now (Some p) (Some i) (Some k) w never = refl
bound_same conn now (Some p) None None w never = refl
bound_same conn now (Some p) None (Some k) w never = refl

taken_over_same : (b : Bool) (conn : ℕ) (w : Worker) → b ≡ false → taken_over_if b conn w ≡ w
taken_over_same true conn w never = cc
taken_over_same false conn w never = refl

dropped_same : (b : Bool) (conn now : ℕ) (w : Worker) → b ≡ false → unbound_if b conn now w ≡ w
dropped_same true conn now w never = cc
dropped_same false conn now w never = refl

unbound_same : (conn : ℕ) (ending : Ending) (now : ℕ) (k : Option PlainConnection) (w : Worker) →
    may_unbind conn w k ≡ false → unbound_from conn ending now k w ≡ w
unbound_same conn ending now None w never = dropped_same (has_connect conn w) conn now w never
unbound_same conn ending now (Some k) w never = cc

module _ (profile : Profile) (config : Config) where
  pub not_allowed : (w : Worker) (move : WorkerMove) → worker_allows profile config w move ≡ false →
      worker_step profile config w move ≡ w
  not_allowed w (View shard list) never = cc
  not_allowed w (BeginCommit cause now) never =
      begun_same w.pending (record_of (setting_of profile config now w) w cause) w never
  not_allowed w Commit never = committed_same w.pending w never
  not_allowed w (Settle goes_in now) never = settled_same (may_settle w w.pending) goes_in now w never
  not_allowed w (Stored shard a messages) never =
      stored_same (has_asked a (connection_in w a.connection)) shard a messages w never
  not_allowed w (Emit (OfItem place) now) never = emitted_same place now (item_at w place) w never
  not_allowed w (Emit (OfPacket conn packet outcomes) now) never =
      step_same conn now
      (answered_step (setting_of profile config now w) w packet outcomes (connection_in w conn) (session_in w conn))
      w never
  not_allowed w (Emit (OfResend conn) now) never =
      resend_same conn (connection_in w conn)
      (resent_for profile now w (connection_in w conn) (session_in w conn)) w never
  not_allowed w (Bind conn now) never =
      bound_same conn now w.pending (find (accepts_on conn) w.due) (connection_in w conn) w never
  not_allowed w (TakeOver conn) never = taken_over_same (may_take_over w conn (connection_in w conn)) conn w never
  not_allowed w (Unbind conn ending now) never = unbound_same conn ending now (connection_in w conn) w never

  -- ---- and nothing is put out, or acknowledged

  no_item : (w : Worker) (i : Option Item) → is_some i ≡ false → emitted_outs profile config w i ≡ []
  no_item w None never = refl
  no_item w (Some i) never = cc

  no_step : (k : Option PlainConnection) (step : Option Step) → is_some step ≡ false →
      step_outs profile config k step ≡ []
  no_step (Some k) (Some step) never = cc
  no_step (Some k) None never = refl
  no_step None (Some step) never = cc
  no_step None None never = refl

  no_resend : (conn : ℕ) (r : Option Resent) → is_some r ≡ false → resend_outs profile config conn r ≡ []
  no_resend conn None never = refl
  no_resend conn (Some r) never = cc

  no_takeover : (b : Bool) (conn : ℕ) (w : Worker) → b ≡ false → takeover_outs profile config b conn w ≡ []
  no_takeover true conn w never = cc
  no_takeover false conn w never = refl

  no_close : (conn : ℕ) (b c : Bool) → c ≡ false → close_outs profile config conn (b && c) ≡ []
  no_close conn true true never = cc
  no_close conn true false never = refl
  no_close conn false c never = refl

  no_ending : (conn : ℕ) (ending : Ending) (w : Worker) (k : Option PlainConnection) → may_unbind conn w k ≡ false →
      ending_outs profile config conn ending w k ≡ []
  no_ending conn ending w None never = no_close conn ending.by_server (has_connect conn w) never
  no_ending conn ending w (Some k) never = cc

  pub not_put_out : (w : Worker) (move : WorkerMove) → worker_allows profile config w move ≡ false →
      worker_outs profile config w move ≡ []
  not_put_out w (View shard list) never = refl
  not_put_out w (BeginCommit cause now) never = refl
  not_put_out w Commit never = refl
  not_put_out w (Settle goes_in now) never = refl
  not_put_out w (Stored shard a messages) never = refl
  not_put_out w (Emit (OfItem place) now) never = no_item w (item_at w place) never
  not_put_out w (Emit (OfPacket conn packet outcomes) now) never =
      no_step (connection_in w conn)
      (answered_step (setting_of profile config now w) w packet outcomes (connection_in w conn) (session_in w conn))
      never
  not_put_out w (Emit (OfResend conn) now) never =
      no_resend conn (resent_for profile now w (connection_in w conn) (session_in w conn)) never
  not_put_out w (Bind conn now) never = refl
  not_put_out w (TakeOver conn) never = no_takeover (may_take_over w conn (connection_in w conn)) conn w never
  not_put_out w (Unbind conn ending now) never = no_ending conn ending w (connection_in w conn) never

  no_item_acked : (w : Worker) (i : Option Item) → is_some i ≡ false → emitted_acks profile config w i ≡ []
  no_item_acked w None never = refl
  no_item_acked w (Some i) never = cc

  no_step_acked : (k : Option PlainConnection) (step : Option Step) → is_some step ≡ false →
      step_acks profile config k step ≡ []
  no_step_acked (Some k) (Some step) never = cc
  no_step_acked (Some k) None never = refl
  no_step_acked None (Some step) never = cc
  no_step_acked None None never = refl

  pub not_acked : (w : Worker) (move : WorkerMove) → worker_allows profile config w move ≡ false →
      worker_acks profile config w move ≡ []
  not_acked w (View shard list) never = refl
  not_acked w (BeginCommit cause now) never = refl
  not_acked w Commit never = refl
  not_acked w (Settle goes_in now) never = refl
  not_acked w (Stored shard a messages) never = refl
  not_acked w (Emit (OfItem place) now) never = no_item_acked w (item_at w place) never
  not_acked w (Emit (OfPacket conn packet outcomes) now) never =
      no_step_acked (connection_in w conn)
      (answered_step (setting_of profile config now w) w packet outcomes (connection_in w conn) (session_in w conn))
      never
  not_acked w (Emit (OfResend conn) now) never = refl
  not_acked w (Bind conn now) never = refl
  not_acked w (TakeOver conn) never = refl
  not_acked w (Unbind conn ending now) never = refl
