-- A pump that issues something.
use Rattle.std.proofs.Common.{◌≡◌, ℕ, List, [], ◌∷◌, Option, Some, sym, ap, ap₂, subst, ◌∙◌}
use Rattle.std.specs.Prelude.{slice_get, slice_set, IfSome}
use Rattle.first_session_terms.specs.PlainSession.{PlainSession}
use Rattle.first_session_terms.specs.Change.{on_session, issued_session}
use Rattle.first_session_core.specs.PlainConnection.{PlainConnection}
use Rattle.first_session_core.specs.Pump.{Issue, pump_of, pumped_connection}
use Rattle.first_session_core.specs.declared.issued.Issued.{Issued}
use Rattle.first_session_core.specs.IssuedView.{issue_of_fields}
use Rattle.first_world_terms.specs.Move.{connection_at, change_connection}
use Rattle.first_world_terms.specs.PlainBroker.{PlainBroker, pumped, issued, session_on, list_with}
use Rattle.broker_main.specs.BrokerView.{IsConnectionPlace, IsWrittenAt}

-- what the pump of this connection does, as its connection, session and issue are found
pub pumped_step : (p : PlainBroker) (number at place : ℕ) (k : PlainConnection) (m : PlainSession) (i : Issued)
    → IsConnectionPlace p.connections number at → slice_get p.connections at ≡ Some k → session_on p number ≡ slice_get p.sessions place → slice_get p.sessions place ≡ Some m
    → pump_of m k (list_with p.messages ∷ []) ≡ Some (issue_of_fields i)
    → pumped number (connection_at number p.connections) (session_on p number) p ≡ issued number m.client (Some (issue_of_fields i)) p
pumped_step p number at place k m i c ck s sm e =
    ap (λ (o : Option PlainConnection). pumped number o (session_on p number) p) (c.found ∙ ck)
    ∙ ap (λ (o : Option PlainSession). pumped number (Some k) o p) (s ∙ sm)
    ∙ ap (λ (o : Option Issue). issued number m.client o p) e

-- a fact of what is there
of_some : {X : Type 0} (o : Option X) (x : X) (P : X → Type 0) → o ≡ Some x → IfSome o P → P x
of_some {X} o x P e h = let Q : Option X → Type 0 = λ q. IfSome q P in subst Q e h

-- the broker after it, as session and connection are written
pub pumped_broker : (p : PlainBroker) (number at place : ℕ) (k : PlainConnection) (m : PlainSession) (i : Issued) (sessions : List PlainSession) (connections : List PlainConnection)
    → IsConnectionPlace p.connections number at → slice_get p.connections at ≡ Some k → slice_get p.sessions place ≡ Some m → IsWrittenAt p.sessions place
    → IfSome (slice_get p.sessions place) (λ (x : PlainSession). sessions ≡ slice_set p.sessions place (issued_session 1 0 (issue_of_fields i).entries (issue_of_fields i).sweep x))
    → IfSome (slice_get p.connections at) (λ (x : PlainConnection). connections ≡ slice_set p.connections at (pumped_connection (issue_of_fields i) x))
    → record p { sessions = sessions; connections = connections } ≡ (issued number m.client (Some (issue_of_fields i)) p).broker
pumped_broker p number at place k m i sessions connections c ck sm written ws wk =
    let change = issued_session 1 0 (issue_of_fields i).entries (issue_of_fields i).sweep in
    let of_session : sessions ≡ on_session m.client change p.sessions =
    of_some (slice_get p.sessions place) m (λ (x : PlainSession). sessions ≡ slice_set p.sessions place (change x)) sm ws
    ∙ sym (of_some (slice_get p.sessions place) m (λ (x : PlainSession). on_session x.client change p.sessions ≡ slice_set p.sessions place (change x)) sm (written change)) in
    let of_connection : connections ≡ change_connection number (pumped_connection (issue_of_fields i)) p.connections =
    of_some (slice_get p.connections at) k (λ (x : PlainConnection). connections ≡ slice_set p.connections at (pumped_connection (issue_of_fields i) x)) ck wk
    ∙ sym (of_some (slice_get p.connections at) k (λ (x : PlainConnection). change_connection number (pumped_connection (issue_of_fields i)) p.connections ≡ slice_set p.connections at (pumped_connection (issue_of_fields i) x)) ck (c.changed (pumped_connection (issue_of_fields i)))) in
    ap₂ (λ (s : List PlainSession) (l : List PlainConnection). record p { sessions = s; connections = l }) of_session of_connection
