-- What a move of a worker does to it, in one of a few ways. Where it does anything the move was allowed, and what made
-- it so is told.
use Rattle.std.proofs.Common.{◌≡◌, ◌⊎◌, inl, inr, ℕ, ◌+◌, ◌-◌, Bool, true, false, ◌&&◌, not, List, [], ◌∷◌, ◌++◌, find}
use Rattle.std.proofs.Common.{is_some, is_none, slice_get, Option, Some, None, refl, sym, ap, ◌∙◌}
use Rattle.std.specs.Prelude.{if◌then◌else◌}
use Rattle.std.specs.List.{list_any}
use Rattle.std.proofs.lemmas.Bool.{true≢false, and_parts}
use Rattle.std.proofs.lemmas.Option.{none-some, same_Some}
use Rattle.topic_model.specs.Profile.{Profile, Config}
use Rattle.topic_model.specs.StoredMessage.{StoredMessage}
use Rattle.shard_model.specs.ShardList.{ShardList}
use Rattle.session_model.specs.PlainSession.{PlainSession}
use Rattle.mqtt_packet.specs.Packet.{PlainPacket, ConnectFields}
use Rattle.turn_model.specs.PlainConnection.{PlainConnection, rest_of, connection_of, bound_connection, on_connection}
use Rattle.turn_model.specs.PlainConnection.{after_packets}
use Rattle.turn_model.specs.Resend.{Resent, resend_of, resent_connection, with_rest}
use Rattle.turn_model.specs.Step.{Outcome, Reply, Step, is_nil}
use Rattle.turn_model.specs.Worker.{Worker, Item, Answer, Answers, Accepts, Delivers, PendingRecord, note, SentAgain}
use Rattle.turn_model.specs.Worker.{setting_of, connection_in, session_in}
use Rattle.turn_model.specs.Worker as Worker
use Rattle.turn_model.specs.Records.{Cause, record_of, begun_unless, partings_owed, with_record, handed_on, item}
use Rattle.turn_model.specs.Records.{record_committed, moment_left, record_resolved, may_settle, record_settled}
use Rattle.turn_model.specs.Records.{accepts_on, awaits_connack, session_at}
use Rattle.turn_model.specs.WorkerMoves.{WorkerMove, View, BeginCommit, Commit, Settle, Stored, Emit, OfItem, OfPacket}
use Rattle.turn_model.specs.WorkerMoves.{OfResend, Bind, TakeOver, Unbind, Asker, Ending, with_view, stored_steps}
use Rattle.turn_model.specs.WorkerMoves.{stored_answer, has_asked, stored_if, item_at, after_answer, noted_answer}
use Rattle.turn_model.specs.WorkerMoves.{without_item, item_emitted, emitted_if, answered_step, step_emitted, resent_if}
use Rattle.turn_model.specs.WorkerMoves.{resent_for, resend_emitted, bound_with, bound_answer, bound_if, without_items}
use Rattle.turn_model.specs.WorkerMoves.{without_bound, owed_by_end, accept_dropped, has_connect, unbound_if}
use Rattle.turn_model.specs.WorkerMoves.{unbound_from, may_take_over, taken_over_if, worker_step}

-- the connection that a CONNECT binds to a session
abbrev pub binds_as : ℕ → ConnectFields → ℕ → PlainSession → Worker → PlainConnection
binds_as conn c now m k = with_rest m k.seen (bound_connection conn m c now)

pub data StepGoes (profile : Profile) (config : Config) (k : Worker) (move : WorkerMove) (l : Worker) : Type 0 where
  SStays : l ≡ k → StepGoes profile config k move l
  SViews : (shard : ℕ) (list : ShardList) → move ≡ View shard list → l ≡ with_view shard list k →
      StepGoes profile config k move l
  SBegins : (cause : Cause) (now : ℕ) (p : PendingRecord) → move ≡ BeginCommit cause now → k.pending ≡ None →
      record_of (setting_of profile config now k) k cause ≡ Some p → l ≡ record k { pending = Some p } →
      StepGoes profile config k move l
  SCommits : (p : PendingRecord) → move ≡ Commit → k.pending ≡ Some p →
      l ≡ handed_on p.item (partings_owed p.left p (with_record p k)) → StepGoes profile config k move l
  SSettlesIn : (now : ℕ) (p : PendingRecord) → move ≡ Settle true now → k.pending ≡ Some p →
      may_settle k (Some p) ≡ true → l ≡ partings_owed (moment_left now p.left) p (with_record p k) →
      StepGoes profile config k move l
  SSettlesOut : (now : ℕ) (p : PendingRecord) → move ≡ Settle false now → k.pending ≡ Some p →
      may_settle k (Some p) ≡ true → l ≡ record k { pending = None } → StepGoes profile config k move l
  SStores : (shard : ℕ) (a : Asker) (messages : List (Option StoredMessage)) → move ≡ Stored shard a messages →
      has_asked a (connection_in k a.connection) ≡ true →
      l ≡ handed_on (Some (item a.connection (stored_answer (stored_steps shard a.packets messages))))
      (record k { unviewed = k.unviewed ++ shard ∷ [] }) →
      StepGoes profile config k move l
  SItem : (place now : ℕ) (i : Item) (c : PlainConnection) → move ≡ Emit (OfItem place) now →
      item_at k place ≡ Some i → connection_in k i.connection ≡ Some c →
      l ≡ record k {
        due = without_item place k.due;
        connections = on_connection c.number (after_answer now i.answer) k.connections;
        history = k.history ++ noted_answer k c i.answer;
      } →
      StepGoes profile config k move l
  SPacket : (conn now : ℕ) (packet : PlainPacket) (outcomes : List Outcome) (step : Step) →
      move ≡ Emit (OfPacket conn packet outcomes) now →
      answered_step (setting_of profile config now k) k packet outcomes (connection_in k conn) (session_in k conn)
      ≡ Some step →
      l ≡ record k { connections = on_connection conn (after_packets step.effects now) k.connections } →
      StepGoes profile config k move l
  SResends : (conn now : ℕ) (c : PlainConnection) (m : PlainSession) → move ≡ Emit (OfResend conn) now →
      connection_in k conn ≡ Some c → session_in k conn ≡ Some m → is_nil (rest_of m c) ≡ false →
      awaits_connack c.number k ≡ false →
      l ≡ record k {
        connections = on_connection conn (resent_connection (resend_of profile now m c k.seen)) k.connections;
        history = k.history ++ note c (SentAgain (resend_of profile now m c k.seen).taken) ∷ [];
      } →
      StepGoes profile config k move l
  SBinds : (conn now : ℕ) (i : Item) (c : ConnectFields) (client : List ℕ) (number : ℕ) (rs : List Reply)
      (m : PlainSession) → move ≡ Bind conn now → k.pending ≡ None → find (accepts_on conn) k.due ≡ Some i →
      i.answer ≡ Accepts c client number rs → connection_in k conn ≡ None → connection_of client k.connections ≡ None →
      session_at client number k ≡ Some m →
      l ≡ record k {
        connections = k.connections ++ binds_as conn c now m k ∷ [];
        history =
            k.history
            ++ note (binds_as conn c now m k)
            (Worker.Bound (binds_as conn c now m k).rest (binds_as conn c now m k).passed)
            ∷ [];
      } →
      StepGoes profile config k move l
  SIsTakenOver : (conn : ℕ) (c : PlainConnection) → move ≡ TakeOver conn → connection_in k conn ≡ Some c →
      may_take_over k conn (Some c) ≡ true → l ≡ without_bound conn 0 k → StepGoes profile config k move l
  SEnds : (conn now : ℕ) (ending : Ending) (c : PlainConnection) → move ≡ Unbind conn ending now →
      connection_in k conn ≡ Some c →
      l ≡ owed_by_end c.client c.incarnation now (session_in k conn) ending.expiry (without_bound conn now k) →
      StepGoes profile config k move l
  -- a connection that isn't bound goes, with its CONNECT that is in, or with the record that has its CONNECT
  SLeaves : (conn now : ℕ) (ending : Ending) (i : Item) (c : ConnectFields) (client : List ℕ) (number : ℕ)
      (rs : List Reply) → move ≡ Unbind conn ending now → connection_in k conn ≡ None →
      find (accepts_on conn) k.due ≡ Some i → i.answer ≡ Accepts c client number rs →
      l ≡ owed_by_end client number now (session_at client number k) None (without_items conn now k) →
      StepGoes profile config k move l
  SLeavesPending : (conn now : ℕ) (ending : Ending) → move ≡ Unbind conn ending now → connection_in k conn ≡ None →
      has_connect conn k ≡ true → l ≡ without_items conn now k → StepGoes profile config k move l

module _ (profile : Profile) (config : Config) (k : Worker) where
  abbrev Goes : WorkerMove → Worker → Type 0
  Goes move l = StepGoes profile config k move l

  begins : (cause : Cause) (now : ℕ) (pending asked : Option PendingRecord) → k.pending ≡ pending →
      record_of (setting_of profile config now k) k cause ≡ asked →
      Goes (BeginCommit cause now) (begun_unless pending asked k)
  begins cause now None (Some p) none some = SBegins cause now p refl none some refl
  begins cause now None None none some = SStays refl
  begins cause now (Some p) asked none some = SStays refl

  commits : (pending : Option PendingRecord) → k.pending ≡ pending → Goes Commit (record_committed pending k)
  commits None is = SStays refl
  commits (Some p) is = SCommits p refl is refl

  settles : (goes_in : Bool) (now : ℕ) (b : Bool) (pending : Option PendingRecord) → k.pending ≡ pending →
      may_settle k k.pending ≡ b → Goes (Settle goes_in now) (record_settled b goes_in now k)
  settles goes_in now false pending is may = SStays refl
  settles goes_in now true pending is may = by goes_in pending is
    where
      by : (goes_in : Bool) (pending : Option PendingRecord) → k.pending ≡ pending →
          Goes (Settle goes_in now) (record_resolved goes_in now k.pending k)
      by goes_in None is = SStays (ap (λ (p : Option PendingRecord). record_resolved goes_in now p k) is)
      by true (Some p) is =
          SSettlesIn now p refl is (ap (may_settle k) (sym is) ∙ may)
          (ap (λ (p : Option PendingRecord). record_resolved true now p k) is)
      by false (Some p) is =
          SSettlesOut now p refl is (ap (may_settle k) (sym is) ∙ may)
          (ap (λ (p : Option PendingRecord). record_resolved false now p k) is)

  stores : (b : Bool) (shard : ℕ) (a : Asker) (messages : List (Option StoredMessage)) →
      has_asked a (connection_in k a.connection) ≡ b → Goes (Stored shard a messages) (stored_if b shard a messages k)
  stores true shard a messages is = SStores shard a messages refl is refl
  stores false shard a messages is = SStays refl

  emits : (place now : ℕ) (i : Option Item) → item_at k place ≡ i → Goes (Emit (OfItem place) now)
      (emitted_if place now i k)
  emits place now None is = SStays refl
  emits place now (Some i) is = by (connection_in k i.connection) refl
    where
      by : (c : Option PlainConnection) → connection_in k i.connection ≡ c →
          Goes (Emit (OfItem place) now) (item_emitted place now i c k)
      by None none = SStays refl
      by (Some c) some = SItem place now i c refl is some refl

  answers : (conn now : ℕ) (packet : PlainPacket) (outcomes : List Outcome) (step : Option Step) →
      answered_step (setting_of profile config now k) k packet outcomes (connection_in k conn) (session_in k conn)
      ≡ step →
      Goes (Emit (OfPacket conn packet outcomes) now) (step_emitted conn now step k)
  answers conn now packet outcomes None is = SStays refl
  answers conn now packet outcomes (Some step) is = SPacket conn now packet outcomes step refl is refl

  resends : (conn now : ℕ) (c : Option PlainConnection) (m : Option PlainSession) → connection_in k conn ≡ c →
      session_in k conn ≡ m →
      Goes (Emit (OfResend conn) now) (resend_emitted conn c (resent_for profile now k c m) k)
  resends conn now None None no_c no_m = SStays refl
  resends conn now None (Some m) no_c no_m = SStays refl
  resends conn now (Some c) None no_c no_m = SStays refl
  resends conn now (Some c) (Some m) is_c is_m =
      by (not (is_nil (rest_of m c)) && not (awaits_connack c.number k)) refl
    where
      other_of : (b : Bool) → not b ≡ true → b ≡ false
      other_of true e = cc
      other_of false e = refl

      by : (b : Bool) → (not (is_nil (rest_of m c)) && not (awaits_connack c.number k)) ≡ b →
          Goes (Emit (OfResend conn) now)
          (resend_emitted conn (Some c) (resent_if b (resend_of profile now m c k.seen)) k)
      by false no_more = SStays refl
      by true some =
          let both = and_parts (not (is_nil (rest_of m c))) (not (awaits_connack c.number k)) some in
          SResends conn now c m refl is_c is_m (other_of (is_nil (rest_of m c)) both.0)
          (other_of (awaits_connack c.number k) both.1) refl

  binds_with : (conn now : ℕ) (i : Item) (c : ConnectFields) (client : List ℕ) (number : ℕ) (rs : List Reply) →
      k.pending ≡ None → find (accepts_on conn) k.due ≡ Some i → i.answer ≡ Accepts c client number rs →
      connection_in k conn ≡ None → (other : Option PlainConnection) (m : Option PlainSession) →
      connection_of client k.connections ≡ other → session_at client number k ≡ m →
      Goes (Bind conn now) (bound_with conn c now other m k)
  binds_with conn now i c client number rs none is answer unbound None (Some m) alone there =
      SBinds conn now i c client number rs m refl none is answer unbound alone there refl
  binds_with conn now i c client number rs none is answer unbound None None alone there = SStays refl
  binds_with conn now i c client number rs none is answer unbound (Some other) (Some m) alone there = SStays refl
  binds_with conn now i c client number rs none is answer unbound (Some other) None alone there = SStays refl

  binds_answer : (conn now : ℕ) (i : Item) (answer : Answer) → k.pending ≡ None →
      find (accepts_on conn) k.due ≡ Some i → i.answer ≡ answer → connection_in k conn ≡ None →
      Goes (Bind conn now) (bound_answer conn now answer k)
  binds_answer conn now i (Answers rs effects) none is answer unbound = SStays refl
  binds_answer conn now i (Accepts c client number rs) none is answer unbound =
      binds_with conn now i c client number rs none is answer unbound (connection_of client k.connections)
      (session_at client number k) refl refl
  binds_answer conn now i (Delivers b moment fresh) none is answer unbound = SStays refl

  binds : (conn now : ℕ) (p : Option PendingRecord) (i : Option Item) (c : Option PlainConnection) → k.pending ≡ p →
      find (accepts_on conn) k.due ≡ i → connection_in k conn ≡ c → Goes (Bind conn now) (bound_if conn now p i c k)
  binds conn now None (Some i) None none is unbound = binds_answer conn now i i.answer none is refl unbound
  binds conn now None (Some i) (Some c) none is unbound = SStays refl
  binds conn now None None None none is unbound = SStays refl
  binds conn now None None (Some c) none is unbound = SStays refl
  binds conn now (Some p) (Some i) None none is unbound = SStays refl
  binds conn now (Some p) (Some i) (Some c) none is unbound = SStays refl
  binds conn now (Some p) None None none is unbound = SStays refl
  binds conn now (Some p) None (Some c) none is unbound = SStays refl

  takes_over : (conn : ℕ) (c : Option PlainConnection) → connection_in k conn ≡ c → (b : Bool) →
      may_take_over k conn c ≡ b → Goes (TakeOver conn) (taken_over_if b conn k)
  takes_over conn c is false may = SStays refl
  takes_over conn None is true may = cc
  takes_over conn (Some c) is true may = SIsTakenOver conn c refl is may refl

  -- the connection of the item that is found has a CONNECT
  leaves_with : (conn now : ℕ) (ending : Ending) (i : Item) (answer : Answer) → connection_in k conn ≡ None →
      find (accepts_on conn) k.due ≡ Some i → i.answer ≡ answer → has_connect conn k ≡ true →
      Goes (Unbind conn ending now) (accept_dropped conn now (Some i) k)
  leaves_with conn now ending i (Answers rs effects) unbound is answer has =
      SLeavesPending conn now ending refl unbound has (rw answer refl)
  leaves_with conn now ending i (Accepts c client number rs) unbound is answer has =
      SLeaves conn now ending i c client number rs refl unbound is answer (rw answer refl)
  leaves_with conn now ending i (Delivers b moment fresh) unbound is answer has =
      SLeavesPending conn now ending refl unbound has (rw answer refl)

  leaves : (conn now : ℕ) (ending : Ending) (i : Option Item) → connection_in k conn ≡ None →
      find (accepts_on conn) k.due ≡ i → has_connect conn k ≡ true →
      Goes (Unbind conn ending now) (accept_dropped conn now i k)
  leaves conn now ending None unbound is has = SLeavesPending conn now ending refl unbound has refl
  leaves conn now ending (Some i) unbound is has = leaves_with conn now ending i i.answer unbound is refl has

  ends : (conn now : ℕ) (ending : Ending) (c : Option PlainConnection) → connection_in k conn ≡ c →
      Goes (Unbind conn ending now) (unbound_from conn ending now c k)
  ends conn now ending (Some c) is = SEnds conn now ending c refl is refl
  ends conn now ending None is = by (has_connect conn k) refl
    where
      by : (b : Bool) → has_connect conn k ≡ b → Goes (Unbind conn ending now) (unbound_if b conn now k)
      by false none = SStays refl
      by true has = leaves conn now ending (find (accepts_on conn) k.due) is refl has

  pub step_goes : (move : WorkerMove) → StepGoes profile config k move (worker_step profile config k move)
  step_goes (View shard list) = SViews shard list refl refl
  step_goes (BeginCommit cause now) =
      begins cause now k.pending (record_of (setting_of profile config now k) k cause) refl refl
  step_goes Commit = commits k.pending refl
  step_goes (Settle goes_in now) = settles goes_in now (may_settle k k.pending) k.pending refl refl
  step_goes (Stored shard a messages) =
      stores (has_asked a (connection_in k a.connection)) shard a messages refl
  step_goes (Emit (OfItem place) now) = emits place now (item_at k place) refl
  step_goes (Emit (OfPacket conn packet outcomes) now) =
      answers conn now packet outcomes
      (answered_step (setting_of profile config now k) k packet outcomes (connection_in k conn)
      (session_in k conn)) refl
  step_goes (Emit (OfResend conn) now) = resends conn now (connection_in k conn) (session_in k conn) refl refl
  step_goes (Bind conn now) =
      binds conn now k.pending (find (accepts_on conn) k.due) (connection_in k conn) refl refl refl
  step_goes (TakeOver conn) =
      takes_over conn (connection_in k conn) refl (may_take_over k conn (connection_in k conn)) refl
  step_goes (Unbind conn ending now) = ends conn now ending (connection_in k conn) refl
