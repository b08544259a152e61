-- What a worker owes are ends of sessions: that they parted, and that they ended. So a session that stands behind what
-- is owed stood before it, of the same client and with the same number.
use Rattle.std.proofs.Common.{◌≡◌, ℕ, zero, suc, ◌+◌, ◌-◌, Bool, true, false, not, ◌&&◌, ◌==◌, if◌then◌else◌, List}
use Rattle.std.proofs.Common.{[], ◌∷◌, ◌++◌, filter, find, take, drop, replicate, flat_map, bytes_eq, slice_get}
use Rattle.std.proofs.Common.{Option, Some, None, is_none, refl, sym, ap, ◌∙◌, length}
use Rattle.std.proofs.lemmas.Bool.{true≢false}
use Rattle.std.proofs.lemmas.Option.{none-some, same_Some}
use Rattle.topic_model.specs.Places.{HasPlace}
use Rattle.topic_model.specs.Profile.{Profile, Config}
use Rattle.topic_model.specs.StoredMessage.{StoredMessage}
use Rattle.shard_model.specs.ShardList.{ShardList, opening_list}
use Rattle.shard_model.specs.SweepOrder.{counted_from}
use Rattle.shard_model.specs.laws.PlaceLaws.{kept_place}
use Rattle.session_model.specs.PlainSession.{PlainSession, Sessions, session_of}
use Rattle.session_model.specs.Change.{Change, Parts, Effect, Ended, Parted, change}
use Rattle.session_model.specs.Acting.{changed_if, changed_session, on_session, act_effect, act_one, act_all}
use Rattle.session_model.specs.Ends.{part_changes, owed_to, restart_owes}
use Rattle.mqtt_packet.specs.Packet.{ConnectFields}
use Rattle.turn_model.specs.PlainConnection.{PlainConnection, connection_of}
use Rattle.turn_model.specs.Resend.{Resent, pass_changes}
use Rattle.turn_model.specs.Step.{Setting, Step, is_nil}
use Rattle.turn_model.specs.ConnectStep.{connect_refusal, connect_step, client_for, is_home, session_number}
use Rattle.turn_model.specs.PacketStep.{closed_step, tick_step}
use Rattle.turn_model.specs.Worker.{Worker, PendingRecord, Item, Answer, Answers, Accepts, Delivers, opening_worker}
use Rattle.turn_model.specs.Worker.{connection_in, session_in, setting_of}
use Rattle.turn_model.specs.Records.{Cause, OfPackets, OfConnect, OfPump, OfTick, OfOwed, is_attended, parting_unless}
use Rattle.turn_model.specs.Records.{parting_of, partings, partings_owed, pending_if, packets_record, pump_record}
use Rattle.turn_model.specs.Records.{tick_record, owed_record, record_of, begun_unless, bound_by, with_record}
use Rattle.turn_model.specs.Records.{handed_on, record_committed, record_resolved, record_settled, may_settle}
use Rattle.turn_model.specs.Records.{moment_left, is_client_of, has_room, stepped_all, not_stepped, is_one, item}
use Rattle.turn_model.specs.Records.{has_item, issued_change, may_issue_if, delivering, session_at, accepts_on}
use Rattle.turn_model.specs.WorkerMoves.{WorkerMove, View, BeginCommit, Commit, Settle, Stored, Emit, Bind, TakeOver}
use Rattle.turn_model.specs.WorkerMoves.{Unbind, Asker, Ending, OfItem, OfPacket, OfResend, aged_pending, stored_if}
use Rattle.turn_model.specs.WorkerMoves.{has_asked, item_emitted, emitted_if, item_at, step_emitted, answered_step}
use Rattle.turn_model.specs.WorkerMoves.{resend_emitted, resent_for, bound_with, bound_answer, bound_if, kept_pending}
use Rattle.turn_model.specs.WorkerMoves.{without_items, without_bound, owed_by_end, accept_dropped, unbound_if}
use Rattle.turn_model.specs.WorkerMoves.{unbound_from, has_connect, may_take_over, taken_over_if, worker_step}
use Rattle.turn_model.specs.WorkerMoves.{crashed_worker}
use Rattle.world_model.specs.World.{World, Move, world_step, opening_world, shown_lists, messages_in}
use Rattle.world_laws.specs.Reached.{HasWorker}
use Rattle.world_laws.specs.laws.GoesLaws.{WorkerGoesFrom, KStays, KMoves, KViews, KIsHanded, KCrashes, worker_goes}
use Rattle.world_laws.specs.laws.GoesLaws.{map_from}

-- ---- ends of sessions

-- a session parts, or ends
abbrev pub is_end : Effect → Bool
is_end (Parted p) = true
is_end Ended = true
is_end other = false

-- changes that are ends alone
abbrev pub AreEnds : List Change → Type 0
AreEnds [] = Unit {0}
AreEnds (c ∷ changes) = (is_end c.effect ≡ true) × AreEnds changes

-- what a record begins with of what is owed are ends
abbrev pub BeginsWithEnds : Option PendingRecord → Type 0
BeginsWithEnds None = Unit {0}
BeginsWithEnds (Some p) = AreEnds p.owed

-- what a worker owes are ends, and what its record that pends begins with
pub record OwesEnds (k : Worker) : Type 0 where
  pub owed : AreEnds k.owed
  pub pending : BeginsWithEnds k.pending

ends_both : (first more : List Change) → AreEnds first → AreEnds more → AreEnds (first ++ more)
ends_both [] more is_first is_more = is_more
ends_both (c ∷ first) more is_first is_more = (is_first.0, ends_both first more is_first.1 is_more)

ends_taken : (many : ℕ) (changes : List Change) → AreEnds changes → AreEnds (take many changes)
ends_taken zero changes is = tt
ends_taken (suc many) [] is = tt
ends_taken (suc many) (c ∷ changes) is = (is.0, ends_taken many changes is.1)

ends_left : (many : ℕ) (changes : List Change) → AreEnds changes → AreEnds (drop many changes)
ends_left zero changes is = is
ends_left (suc many) [] is = tt
ends_left (suc many) (c ∷ changes) is = ends_left many changes is.1

ends_kept : (test : Change → Bool) (changes : List Change) → AreEnds changes → AreEnds (filter test changes)
ends_kept test [] is = tt
ends_kept test (c ∷ changes) is = by (test c) (ends_kept test changes is.1)
  where
    by : (b : Bool) → AreEnds (filter test changes) →
        AreEnds (if b then c ∷ filter test changes else filter test changes)
    by true rest = (is.0, rest)
    by false rest = rest

-- ---- a session that stands behind ends

-- a session of its client with its number is among these
abbrev pub StandsIn : List PlainSession → PlainSession → Type 0
StandsIn ms m = (n : PlainSession) × (HasPlace ms n × ((n.client ≡ m.client) × (n.incarnation ≡ m.incarnation)))

stands_further : (first : PlainSession) (ms : List PlainSession) (m : PlainSession) → StandsIn ms m →
    StandsIn (first ∷ ms) m
stands_further first ms m (n, (has, same)) = (n, ((suc has.0, has.1), same))

same_names : (n m : PlainSession) → n ≡ m → (n.client ≡ m.client) × (n.incarnation ≡ m.incarnation)
same_names n m e = (ap (λ (x : PlainSession). x.client) e, ap (λ (x : PlainSession). x.incarnation) e)

-- one that parts keeps its client and its number
parted_stood : (client : List ℕ) (p : Parts) (ms : List PlainSession) (m : PlainSession) (k : ℕ) →
    slice_get (on_session client (changed_session (Parted p)) ms) k ≡ Some m → StandsIn ms m
parted_stood client p [] m k at = absurd (none-some m at)
parted_stood client p (n ∷ ms) m (suc k) at = stands_further n ms m (parted_stood client p ms m k at)
parted_stood client p (n ∷ ms) m zero at = (
  n,
  (
    (zero, refl),
    by (bytes_eq n.client client)
        (same_Some (changed_if (bytes_eq n.client client) (changed_session (Parted p)) n) m at),
  ),
)
  where
    by : (b : Bool) → changed_if b (changed_session (Parted p)) n ≡ m →
        (n.client ≡ m.client) × (n.incarnation ≡ m.incarnation)
    by false e = same_names n m e
    by true e = same_names (changed_session (Parted p) n) m e

end_only_takes : (sessions : Sessions) (client : List ℕ) (effect : Effect) → is_end effect ≡ true → (m : PlainSession) →
    HasPlace (act_effect client effect sessions).list m → StandsIn sessions.list m
end_only_takes sessions client (Parted p) end m has = parted_stood client p sessions.list m has.0 has.1
end_only_takes sessions client Ended end m has =
    let kept = kept_place (λ (n : PlainSession). not (bytes_eq n.client client)) sessions.list has.0 m has.1 in
    (m, (kept.0, (refl, refl)))
end_only_takes sessions client other end m has = absurd (true≢false (sym end))

-- what stands behind ends stood before them
pub ends_only_take : (sessions : Sessions) (ends : List Change) → AreEnds ends → (m : PlainSession) →
    HasPlace (act_all sessions ends).list m → StandsIn sessions.list m
ends_only_take sessions [] are m has = (m, (has, (refl, refl)))
ends_only_take sessions (c ∷ ends) are m has =
    let later = ends_only_take (act_one sessions c) ends are.1 m has in
    let before = end_only_takes sessions c.client c.effect are.0 later.0 later.1.0 in
    (before.0, (before.1.0, (before.1.1.0 ∙ later.1.1.0, before.1.1.1 ∙ later.1.1.1)))

-- ---- what is owed are ends

ended_if : (b : Bool) (client : List ℕ) → AreEnds (if b then change client Ended ∷ [] else [])
ended_if true client = (refl, tt)
ended_if false client = tt

part_ends : (client : List ℕ) (expiry now : ℕ) → AreEnds (part_changes client expiry now)
part_ends client expiry now = (refl, ended_if (expiry == 0) client)

closed_ends : (now : ℕ) (m : Option PlainSession) (expiry : Option ℕ) → AreEnds (closed_step now m expiry).changes
closed_ends now None expiry = tt
closed_ends now (Some m) (Some expiry) = part_ends m.client expiry now
closed_ends now (Some m) None = part_ends m.client m.expiry now

parting_ends : (attended : Bool) (now : ℕ) (m : Option PlainSession) (expiry : Option ℕ) →
    AreEnds (parting_unless attended now m expiry)
parting_ends true now m expiry = tt
parting_ends false now m expiry = closed_ends now m expiry

parting_of_ends : (now : ℕ) (w : Worker) (m : Option PlainSession) → AreEnds (parting_of now w m)
parting_of_ends now w None = tt
parting_of_ends now w (Some m) = parting_ends (is_attended m.client m.incarnation w) now (Some m) None

partings_ends : (now : ℕ) (w : Worker) (clients : List (List ℕ)) → AreEnds (partings now w clients)
partings_ends now w [] = tt
partings_ends now w (client ∷ clients) =
    ends_both (parting_of now w (session_of client w.committed)) (partings now w clients)
    (parting_of_ends now w (session_of client w.committed)) (partings_ends now w clients)

owed_to_ends : (now : ℕ) (parted : Option ℕ) (m : PlainSession) → AreEnds (owed_to now parted m)
owed_to_ends now None m = part_ends m.client m.expiry now
owed_to_ends now (Some parted) m = tt

all_owed_ends : (now : ℕ) (ms : List PlainSession) →
    AreEnds (flat_map (λ (m : PlainSession). owed_to now m.parted m) ms)
all_owed_ends now [] = tt
all_owed_ends now (m ∷ ms) =
    ends_both (owed_to now m.parted m) (flat_map (λ (m : PlainSession). owed_to now m.parted m) ms)
    (owed_to_ends now m.parted m) (all_owed_ends now ms)

restart_ends : (now : ℕ) (sessions : Sessions) → AreEnds (restart_owes now sessions)
restart_ends now sessions = all_owed_ends now sessions.list

-- ---- a record that is begun

pending_ends : (b : Bool) (w : Worker) (changes : List Change) (i : Option Item) → AreEnds w.owed →
    BeginsWithEnds (pending_if b w changes i)
pending_ends true w changes i owed = owed
pending_ends false w changes i owed = tt

record_ends : (s : Setting) (w : Worker) (cause : Cause) → AreEnds w.owed → BeginsWithEnds (record_of s w cause)
record_ends s w (OfPackets conn packets) owed = by (connection_in w conn) (session_in w conn)
  where
    by : (k : Option PlainConnection) (m : Option PlainSession) → BeginsWithEnds (packets_record s w conn packets k m)
    by None m = tt
    by (Some k) None = tt
    by (Some k) (Some m) =
        let st = stepped_all s k packets (not_stepped m) in
        pending_ends
        (st.settled && (not (is_nil st.changes) && has_room s.profile w (is_one packets) st.changes)) w st.changes
        (Some (item conn (Answers st.replies st.effects))) owed
record_ends s w (OfConnect conn c) owed =
    let changes = (connect_step s c).changes in
    pending_ends
    ((is_none (connection_in w conn)
    && (not (has_item conn w.due) && (is_none (connect_refusal s c) && is_home s (client_for s c))))
    && (not (is_nil changes) && has_room s.profile w true changes))
    w changes (Some (item conn (Accepts c (client_for s c) (session_number s c) (connect_step s c).replies))) owed
record_ends s w (OfPump conn b) owed = by (connection_in w conn) (session_in w conn)
  where
    by : (k : Option PlainConnection) (m : Option PlainSession) → BeginsWithEnds (pump_record s w conn b k m)
    by None m = tt
    by (Some k) None = tt
    by (Some k) (Some m) =
        let changes = issued_change m b ++ pass_changes m k in
        pending_ends (may_issue_if s w m k b && (not (is_nil changes) && has_room s.profile w true changes)) w changes
        (delivering conn s.now b) owed
record_ends s w OfTick owed = by (tick_step s.now s.connections s.sessions).changes
  where
    by : (changes : List Change) → BeginsWithEnds (tick_record s w changes)
    by [] = tt
    by (c ∷ changes) = ends_taken s.profile.changes w.owed owed
record_ends s w OfOwed owed = by w.owed owed
  where
    by : (changes : List Change) → AreEnds changes → BeginsWithEnds (owed_record s.profile w changes)
    by [] are = tt
    by (c ∷ changes) are = ends_taken s.profile.changes (c ∷ changes) are

begun_owes : (pending asked : Option PendingRecord) (w : Worker) → OwesEnds w → BeginsWithEnds asked →
    OwesEnds (begun_unless pending asked w)
begun_owes None None w is asks = is
begun_owes None (Some p) w is asks = record { owed = is.owed; pending = asks }
begun_owes (Some q) asked w is asks = is

-- ---- a record that is in

with_record_owes : (p : PendingRecord) (w : Worker) → OwesEnds w → OwesEnds (with_record p w)
with_record_owes p w is =
    record {
      owed = ends_kept (λ (c : Change). not (is_client_of (bound_by p.changes) c)) (drop (length p.owed) w.owed)
          (ends_left (length p.owed) w.owed is.owed);
      pending = tt;
    }

partings_owes : (left : Option ℕ) (p : PendingRecord) (w : Worker) → OwesEnds w → OwesEnds (partings_owed left p w)
partings_owes None p w is = is
partings_owes (Some moment) p w is =
    record {
      owed = ends_both w.owed (partings moment w (bound_by p.changes)) is.owed
          (partings_ends moment w (bound_by p.changes));
      pending = is.pending;
    }

handed_owes : (i : Option Item) (w : Worker) → OwesEnds w → OwesEnds (handed_on i w)
handed_owes None w is = is
handed_owes (Some i) w is = record { owed = is.owed; pending = is.pending }

committed_owes : (pending : Option PendingRecord) (w : Worker) → OwesEnds w → OwesEnds (record_committed pending w)
committed_owes None w is = is
committed_owes (Some p) w is =
    handed_owes p.item (partings_owed p.left p (with_record p w))
    (partings_owes p.left p (with_record p w) (with_record_owes p w is))

resolved_owes : (goes_in : Bool) (now : ℕ) (pending : Option PendingRecord) (w : Worker) → OwesEnds w →
    OwesEnds (record_resolved goes_in now pending w)
resolved_owes goes_in now None w is = is
resolved_owes true now (Some p) w is =
    partings_owes (moment_left now p.left) p (with_record p w) (with_record_owes p w is)
resolved_owes false now (Some p) w is = record { owed = is.owed; pending = tt }

settled_owes : (may goes_in : Bool) (now : ℕ) (w : Worker) → OwesEnds w → OwesEnds (record_settled may goes_in now w)
settled_owes true goes_in now w is = resolved_owes goes_in now w.pending w is
settled_owes false goes_in now w is = is

-- ---- the other moves of a worker

aged_ends : (pending : Option PendingRecord) → BeginsWithEnds pending → BeginsWithEnds (aged_pending pending)
aged_ends None is = is
aged_ends (Some p) is = is

stored_owes : (b : Bool) (shard : ℕ) (a : Asker) (messages : List (Option StoredMessage)) (w : Worker) → OwesEnds w →
    OwesEnds (stored_if b shard a messages w)
stored_owes true shard a messages w is = record { owed = is.owed; pending = is.pending }
stored_owes false shard a messages w is = is

item_owes : (place now : ℕ) (i : Item) (k : Option PlainConnection) (w : Worker) → OwesEnds w →
    OwesEnds (item_emitted place now i k w)
item_owes place now i None w is = is
item_owes place now i (Some k) w is = record { owed = is.owed; pending = is.pending }

emitted_owes : (place now : ℕ) (i : Option Item) (w : Worker) → OwesEnds w → OwesEnds (emitted_if place now i w)
emitted_owes place now None w is = is
emitted_owes place now (Some i) w is = item_owes place now i (connection_in w i.connection) w is

step_owes : (conn now : ℕ) (step : Option Step) (w : Worker) → OwesEnds w → OwesEnds (step_emitted conn now step w)
step_owes conn now None w is = is
step_owes conn now (Some step) w is = record { owed = is.owed; pending = is.pending }

resend_owes : (conn : ℕ) (k : Option PlainConnection) (r : Option Resent) (w : Worker) → OwesEnds w →
    OwesEnds (resend_emitted conn k r w)
resend_owes conn None r w is = is
resend_owes conn (Some k) None w is = is
resend_owes conn (Some k) (Some r) w is = record { owed = is.owed; pending = is.pending }

bound_with_owes : (conn : ℕ) (c : ConnectFields) (now : ℕ) (k : Option PlainConnection) (m : Option PlainSession)
    (w : Worker) → OwesEnds w → OwesEnds (bound_with conn c now k m w)
bound_with_owes conn c now None None w is = is
bound_with_owes conn c now None (Some m) w is = record { owed = is.owed; pending = is.pending }
bound_with_owes conn c now (Some k) m w is = is

answer_owes : (conn now : ℕ) (a : Answer) (w : Worker) → OwesEnds w → OwesEnds (bound_answer conn now a w)
answer_owes conn now (Answers rs effects) w is = is
answer_owes conn now (Accepts c client number rs) w is =
    bound_with_owes conn c now (connection_of client w.connections) (session_at client number w) w is
answer_owes conn now (Delivers b moment fresh) w is = is

bound_owes : (conn now : ℕ) (p : Option PendingRecord) (i : Option Item) (k : Option PlainConnection) (w : Worker) →
    OwesEnds w → OwesEnds (bound_if conn now p i k w)
bound_owes conn now None None k w is = is
bound_owes conn now None (Some i) None w is = answer_owes conn now i.answer w is
bound_owes conn now None (Some i) (Some k) w is = is
bound_owes conn now (Some p) i k w is = is

kept_ends : (conn now : ℕ) (pending : Option PendingRecord) → BeginsWithEnds pending →
    BeginsWithEnds (kept_pending conn now pending)
kept_ends conn now None is = is
kept_ends conn now (Some p) is = is

items_owes : (conn now : ℕ) (w : Worker) → OwesEnds w → OwesEnds (without_items conn now w)
items_owes conn now w is = record { owed = is.owed; pending = kept_ends conn now w.pending is.pending }

unbound_owes : (conn now : ℕ) (w : Worker) → OwesEnds w → OwesEnds (without_bound conn now w)
unbound_owes conn now w is = record { owed = is.owed; pending = kept_ends conn now w.pending is.pending }

end_owes : (client : List ℕ) (number now : ℕ) (m : Option PlainSession) (expiry : Option ℕ) (w : Worker) → OwesEnds w →
    OwesEnds (owed_by_end client number now m expiry w)
end_owes client number now m expiry w is =
    let attended = is_attended client number w in
    record {
      owed = ends_both w.owed (parting_unless attended now m expiry) is.owed (parting_ends attended now m expiry);
      pending = is.pending;
    }

dropped_owes : (conn now : ℕ) (i : Option Item) (w : Worker) → OwesEnds w → OwesEnds (accept_dropped conn now i w)
dropped_owes conn now None w is = items_owes conn now w is
dropped_owes conn now (Some i) w is = by i.answer
  where
    by : (a : Answer) →
        OwesEnds (elim a as (λ a. Worker) [
          | Answers rs effects ↦ without_items conn now w
          | Accepts c client number rs ↦ owed_by_end client number now (session_at client number w) None
              (without_items conn now w)
          | Delivers b moment fresh ↦ without_items conn now w
        ])
    by (Answers rs effects) = items_owes conn now w is
    by (Accepts c client number rs) =
        end_owes client number now (session_at client number w) None (without_items conn now w)
        (items_owes conn now w is)
    by (Delivers b moment fresh) = items_owes conn now w is

unbound_if_owes : (b : Bool) (conn now : ℕ) (w : Worker) → OwesEnds w → OwesEnds (unbound_if b conn now w)
unbound_if_owes true conn now w is = dropped_owes conn now (find (accepts_on conn) w.due) w is
unbound_if_owes false conn now w is = is

unbound_from_owes : (conn : ℕ) (ending : Ending) (now : ℕ) (k : Option PlainConnection) (w : Worker) → OwesEnds w →
    OwesEnds (unbound_from conn ending now k w)
unbound_from_owes conn ending now None w is = unbound_if_owes (has_connect conn w) conn now w is
unbound_from_owes conn ending now (Some k) w is =
    end_owes k.client k.incarnation now (session_in w conn) ending.expiry (without_bound conn now w)
    (unbound_owes conn now w is)

taken_over_owes : (b : Bool) (conn : ℕ) (w : Worker) → OwesEnds w → OwesEnds (taken_over_if b conn w)
taken_over_owes true conn w is = unbound_owes conn 0 w is
taken_over_owes false conn w is = is

-- each move of a worker leaves it owing ends
worker_owes : (profile : Profile) (config : Config) (k : Worker) (move : WorkerMove) → OwesEnds k →
    OwesEnds (worker_step profile config k move)
worker_owes profile config k (View shard list) is =
    record { owed = is.owed; pending = aged_ends k.pending is.pending }
worker_owes profile config k (BeginCommit cause now) is =
    begun_owes k.pending (record_of (setting_of profile config now k) k cause) k is
    (record_ends (setting_of profile config now k) k cause is.owed)
worker_owes profile config k Commit is = committed_owes k.pending k is
worker_owes profile config k (Settle goes_in now) is = settled_owes (may_settle k k.pending) goes_in now k is
worker_owes profile config k (Stored shard a messages) is =
    stored_owes (has_asked a (connection_in k a.connection)) shard a messages k is
worker_owes profile config k (Emit (OfItem place) now) is = emitted_owes place now (item_at k place) k is
worker_owes profile config k (Emit (OfPacket conn packet outcomes) now) is =
    step_owes conn now
    (answered_step (setting_of profile config now k) k packet outcomes (connection_in k conn) (session_in k conn)) k is
worker_owes profile config k (Emit (OfResend conn) now) is =
    resend_owes conn (connection_in k conn)
    (resent_for profile now k (connection_in k conn) (session_in k conn)) k is
worker_owes profile config k (Bind conn now) is =
    bound_owes conn now k.pending (find (accepts_on conn) k.due) (connection_in k conn) k is
worker_owes profile config k (TakeOver conn) is =
    taken_over_owes (may_take_over k conn (connection_in k conn)) conn k is
worker_owes profile config k (Unbind conn ending now) is =
    unbound_from_owes conn ending now (connection_in k conn) k is

-- after a crash a worker owes what a restart owes
crashed_owes : (lists : List ShardList) (now : ℕ) (goes_in : Bool) (k : Worker) →
    OwesEnds (crashed_worker lists now goes_in k)
crashed_owes lists now goes_in k =
    record { owed = restart_ends now (record_resolved goes_in now k.pending k).committed; pending = tt }

-- ---- the workers of a world

-- every move of the world leaves each worker owing ends
pub owes_goes : (profile : Profile) (w : World) (move : Move) →
    ((worker : ℕ) (k : Worker) → HasWorker w worker k → OwesEnds k) →
    (worker : ℕ) (k : Worker) → HasWorker (world_step profile w move) worker k → OwesEnds k
owes_goes profile w move all worker l at = by (worker_goes profile w move worker l at)
  where
    by : WorkerGoesFrom profile w.config w (world_step profile w move) worker l → OwesEnds l
    by (k, (is_there, KStays same)) = rw same (all worker k is_there)
    by (k, (is_there, KMoves other own same)) = rw same (worker_owes profile w.config k other (all worker k is_there))
    by (k, (is_there, KViews shard s has stay same)) =
        rw same (worker_owes profile w.config k (View shard s.shard.shown) (all worker k is_there))
    by (k, (is_there, KIsHanded shard s a has group asked its goes same)) =
        rw same
        (worker_owes profile w.config k (Stored shard a (messages_in profile w.config s.shard.stored s.shard.pending))
        (all worker k is_there))
    by (k, (is_there, KCrashes now goes_in same)) =
        rw same (crashed_owes (shown_lists (world_step profile w move).shards) now goes_in k)

pub opening_owes : (config : Config) (worker : ℕ) (k : Worker) → HasWorker (opening_world config) worker k → OwesEnds k
opening_owes config worker k at =
    let opened = map_from (λ (number : ℕ). opening_worker number (replicate config.shards (opening_list config)))
    (counted_from 0 config.workers) worker k at in
    rw opened.1.1 (record { owed = tt; pending = tt })
