-- Who is who, whatever moves are made: of one worker a client has one session and one connection, and a number is of
-- one; and a client is at home at one worker alone.
use Rattle.std.proofs.Common.{◌≡◌, ◌⊎◌, inl, inr, ℕ, zero, suc, ◌+◌, ◌-◌, Bool, true, false, not, ◌&&◌, ◌==◌, List, []}
use Rattle.std.proofs.Common.{◌∷◌, ◌++◌, filter, map, take, replicate, bytes_eq, slice_get, Option, Some, None, is_none}
use Rattle.std.proofs.Common.{length, refl, sym, ap, subst, ◌∙◌, arith}
use Rattle.std.proofs.lemmas.Bool.{true≢false, and_parts, eqb-true, eq-eqb}
use Rattle.std.proofs.lemmas.List.{map-append}
use Rattle.std.proofs.lemmas.Option.{none-some, same_Some}
use Rattle.topic_model.specs.Places.{HasPlace}
use Rattle.topic_model.specs.Profile.{Profile, Config}
use Rattle.topic_model.specs.Routing.{routed_worker}
use Rattle.shard_model.specs.ShardList.{ShardList, opening_list}
use Rattle.shard_model.specs.SweepOrder.{counted_from}
use Rattle.session_model.specs.PlainSession.{PlainSession, Sessions}
use Rattle.session_model.specs.Change.{Change, Effect, Began, Ended, change, Issues}
use Rattle.session_model.specs.Acting.{changed_if, act_all}
use Rattle.session_model.specs.Ends.{is_over}
use Rattle.session_model.specs.laws.ChangeLaws.{act_both}
use Rattle.mqtt_packet.specs.Packet.{PlainPacket, ConnectFields}
use Rattle.turn_model.specs.PlainConnection.{PlainConnection, connection_at, connection_of, without_connection}
use Rattle.turn_model.specs.PlainConnection.{on_connection, after_packets}
use Rattle.turn_model.specs.Resend.{pass_changes, resend_of, resent_connection}
use Rattle.turn_model.specs.Step.{Setting}
use Rattle.turn_model.specs.ConnectStep.{connect_refusal, connect_step, client_for, is_home}
use Rattle.turn_model.specs.Worker.{Worker, PendingRecord, Item, Answers, sessions_of, setting_of, connection_in}
use Rattle.turn_model.specs.Worker.{session_in, Answer, opening_worker}
use Rattle.turn_model.specs.Records.{Cause, OfPackets, OfConnect, OfPump, OfTick, OfOwed, not_stepped, stepped_all}
use Rattle.turn_model.specs.Records.{pending_if, packets_record, has_item, issued_change, handed_on, moment_left}
use Rattle.turn_model.specs.Records.{partings_owed, record_resolved, session_at, with_record, connect_record}
use Rattle.turn_model.specs.Records.{pump_record, tick_record, owed_record, record_of}
use Rattle.turn_model.specs.WorkerMoves.{WorkerMove, View, Stored, after_answer, aged_pending, crashed_worker}
use Rattle.turn_model.specs.WorkerMoves.{kept_pending, without_bound, without_items, worker_step}
use Rattle.world_model.specs.World.{World, Move, world_step, opening_world, shown_lists, messages_in}
use Rattle.world_laws.specs.laws.PlaceLaws.{no_place, place_found, place_through}
use Rattle.world_laws.specs.laws.WorkerLaws.{StepGoes, SStays, SViews, SBegins, SCommits, SSettlesIn, SSettlesOut}
use Rattle.world_laws.specs.laws.WorkerLaws.{SStores, SItem, SPacket, SResends, SBinds, SIsTakenOver, SEnds, SLeaves}
use Rattle.world_laws.specs.laws.WorkerLaws.{SLeavesPending, binds_as, step_goes}
use Rattle.world_laws.specs.Reached.{HasWorker}
use Rattle.world_laws.specs.Distinct.{AreDistinct, AllAreDistinct}
use Rattle.world_laws.specs.laws.GoesLaws.{WorkerGoesFrom, KStays, KMoves, KViews, KIsHanded, KCrashes, worker_goes}
use Rattle.world_laws.specs.laws.GoesLaws.{map_from, config_stays}
use Rattle.world_laws.specs.laws.OwedLaws.{is_end, AreEnds, OwesEnds, owes_goes, opening_owes}
use Rattle.world_laws.specs.laws.SessionsLaws.{AreApart, begins_one, HaveNoBegan, all_apart, connect_apart, none_both}
use Rattle.world_laws.specs.laws.SessionsLaws.{none_stepped, none_passes, none_issued, Differ, differ_pushed, AreHome}
use Rattle.world_laws.specs.laws.SessionsLaws.{home_pushed, place_of_left, differ_left, differ_places, none_mapped}
use Rattle.world_laws.specs.laws.SessionsLaws.{same_text, text_same}

-- ---- the changes of records

end_begins_none : (effect : Effect) → is_end effect ≡ true → begins_one effect ≡ false
end_begins_none (Began b) end = absurd (true≢false (sym end))
end_begins_none other end = refl

pub ends_begin_none : (changes : List Change) → AreEnds changes → HaveNoBegan changes
ends_begin_none [] ends = tt
ends_begin_none (c ∷ changes) ends = (end_begins_none c.effect ends.0, ends_begin_none changes ends.1)

pub none_taken : (many : ℕ) (changes : List Change) → HaveNoBegan changes → HaveNoBegan (take many changes)
none_taken zero changes none = tt
none_taken (suc many) [] none = tt
none_taken (suc many) (c ∷ changes) none = (none.0, none_taken many changes none.1)

pub none_over : (ms : List PlainSession) → HaveNoBegan (map (λ (m : PlainSession). change m.client Ended) ms)
none_over [] = tt
none_over (m ∷ ms) = (refl, none_over ms)

-- the worker that a client is routed to, of so many
abbrev pub is_home_at : ℕ → ℕ → List ℕ → Bool
is_home_at workers worker client = routed_worker client workers == worker

-- the sessions as they would stand with the record that pends
abbrev pub PendsApart : (List ℕ → Bool) → Sessions → Option PendingRecord → Type 0
PendsApart is_home committed None = Unit {0}
PendsApart is_home committed (Some p) = AreApart is_home (act_all committed (p.owed ++ p.changes))

module _ (is_home : List ℕ → Bool) (w : Worker) (owes : AreEnds w.owed) (apart : AreApart is_home w.committed) where
  pub sessions_apart : AreApart is_home (sessions_of w)
  sessions_apart = all_apart is_home w.committed w.owed (ends_begin_none w.owed owes) apart

  -- a record that begins with what is owed, or with a front of it, and begins no session
  none_pends : (owed changes : List Change) → HaveNoBegan owed → HaveNoBegan changes →
      AreApart is_home (act_all w.committed (owed ++ changes))
  none_pends owed changes first second = all_apart is_home w.committed (owed ++ changes)
      (none_both owed changes first second) apart

  -- one that begins with all that is owed
  pending_apart : (b : Bool) (changes : List Change) (i : Option Item) →
      (b ≡ true → AreApart is_home (act_all w.committed (w.owed ++ changes))) →
      PendsApart is_home w.committed (pending_if b w changes i)
  pending_apart true changes i both = both refl
  pending_apart false changes i both = tt

  none_pending : (b : Bool) (changes : List Change) (i : Option Item) → HaveNoBegan changes →
      PendsApart is_home w.committed (pending_if b w changes i)
  none_pending b changes i none =
      pending_apart b changes i (λ made. none_pends w.owed changes (ends_begin_none w.owed owes) none)

  packets_apart : (s : Setting) (conn : ℕ) (packets : List PlainPacket) (k : Option PlainConnection)
      (m : Option PlainSession) → PendsApart is_home w.committed (packets_record s w conn packets k m)
  packets_apart s conn packets None m = tt
  packets_apart s conn packets (Some k) None = tt
  packets_apart s conn packets (Some k) (Some m) =
      none_pending _ (stepped_all s k packets (not_stepped m)).changes _ (none_stepped s k packets (not_stepped m) tt)

  pump_apart : (s : Setting) (conn : ℕ) (b : Option Issues) (k : Option PlainConnection) (m : Option PlainSession) →
      PendsApart is_home w.committed (pump_record s w conn b k m)
  pump_apart s conn b None m = tt
  pump_apart s conn b (Some k) None = tt
  pump_apart s conn b (Some k) (Some m) =
      none_pending _ (issued_change m b ++ pass_changes m k) _
      (none_both (issued_change m b) (pass_changes m k) (none_issued m b) (none_passes m k))

  tick_apart : (s : Setting) (changes : List Change) → HaveNoBegan changes →
      PendsApart is_home w.committed (tick_record s w changes)
  tick_apart s [] none = tt
  tick_apart s (c ∷ changes) none =
      none_pends (take s.profile.changes w.owed) (take (s.profile.changes - length w.owed) (c ∷ changes))
      (none_taken s.profile.changes w.owed (ends_begin_none w.owed owes))
      (none_taken (s.profile.changes - length w.owed) (c ∷ changes) none)

  owed_apart : (profile : Profile) (changes : List Change) → HaveNoBegan changes →
      PendsApart is_home w.committed (owed_record profile w changes)
  owed_apart profile [] none = tt
  owed_apart profile (c ∷ changes) none =
      none_pends (take profile.changes (c ∷ changes)) [] (none_taken profile.changes (c ∷ changes) none) tt

fourth_of : (a b c d e : Bool) → ((a && (b && (c && d))) && e) ≡ true → d ≡ true
fourth_of a b c d e all =
    let front = and_parts (a && (b && (c && d))) e all in
    (and_parts c d (and_parts b (c && d) (and_parts a (b && (c && d)) front.0).1).1).1

-- that of a CONNECT is of a client at home
connect_pends : (profile : Profile) (config : Config) (now : ℕ) (w : Worker) (conn : ℕ) (c : ConnectFields) →
    AreEnds w.owed → AreApart (is_home_at config.workers w.number) w.committed →
    PendsApart (is_home_at config.workers w.number) w.committed
    (connect_record (setting_of profile config now w) w conn c (connect_step (setting_of profile config now w) c))
connect_pends profile config now w conn c owes apart =
    let s = setting_of profile config now w in
    let at_home : List ℕ → Bool = is_home_at config.workers w.number in
    let changes = (connect_step s c).changes in
    pending_apart at_home w owes apart _ changes _ (λ made.
    subst (AreApart at_home) (sym (act_both w.committed w.owed changes))
    (connect_apart at_home s c (client_for s c) _
    (fourth_of (is_none (connection_in w conn)) (not (has_item conn w.due)) (is_none (connect_refusal s c))
    (is_home s (client_for s c)) _ made)
    (sessions_apart at_home w owes apart)))

-- a record that is begun keeps the sessions apart, whatever its cause
record_apart : (profile : Profile) (config : Config) (now : ℕ) (w : Worker) (cause : Cause) → AreEnds w.owed →
    AreApart (is_home_at config.workers w.number) w.committed →
    PendsApart (is_home_at config.workers w.number) w.committed (record_of (setting_of profile config now w) w cause)
record_apart profile config now w (OfPackets conn packets) owes apart =
    packets_apart _ w owes apart (setting_of profile config now w) conn packets (connection_in w conn)
    (session_in w conn)
record_apart profile config now w (OfConnect conn c) owes apart = connect_pends profile config now w conn c owes apart
record_apart profile config now w (OfPump conn b) owes apart =
    pump_apart _ w owes apart (setting_of profile config now w) conn b (connection_in w conn) (session_in w conn)
record_apart profile config now w OfTick owes apart =
    tick_apart _ w owes apart (setting_of profile config now w) _
    (none_over (filter (is_over now) (sessions_of w).list))
record_apart profile config now w OfOwed owes apart =
    owed_apart _ w owes apart profile w.owed (ends_begin_none w.owed owes)

-- ---- connections

abbrev pub connection_numbers : List PlainConnection → List ℕ
connection_numbers ks = map (λ (k : PlainConnection). k.number) ks

abbrev pub connection_clients : List PlainConnection → List (List ℕ)
connection_clients ks = map (λ (k : PlainConnection). k.client) ks

-- no number and no client is of two connections, and each client is at home
abbrev pub ConnectionsDiffer : (List ℕ → Bool) → List PlainConnection → Type 0
ConnectionsDiffer is_home ks =
    Differ (connection_numbers ks) × Differ (connection_clients ks) × AreHome is_home (connection_clients ks)

none_differ : (is_home : List ℕ → Bool) → ConnectionsDiffer is_home []
none_differ is_home = (tt, tt, λ client has. absurd (no_place client has))

-- what each connection keeps through a change of one, all of them keep
on_connection_keeps : {B : Type 0} (f : PlainConnection → B) (g : PlainConnection → PlainConnection) →
    ((k : PlainConnection) → f (g k) ≡ f k) → (conn : ℕ) (ks : List PlainConnection) →
    map f (on_connection conn g ks) ≡ map f ks
on_connection_keeps f g keeps conn [] = refl
on_connection_keeps f g keeps conn (k ∷ ks) = by (k.number == conn) (on_connection_keeps f g keeps conn ks)
  where
    by : (b : Bool) → map f (on_connection conn g ks) ≡ map f ks →
        (f (changed_if b g k) ∷ map f (on_connection conn g ks)) ≡ (f k ∷ map f ks)
    by true rest = ap (λ x. x ∷ map f (on_connection conn g ks)) (keeps k) ∙ ap (λ xs. f k ∷ xs) rest
    by false rest = ap (λ xs. f k ∷ xs) rest

module _ (is_home : List ℕ → Bool) where
  changed_differ : (g : PlainConnection → PlainConnection) → ((k : PlainConnection) → (g k).number ≡ k.number) →
      ((k : PlainConnection) → (g k).client ≡ k.client) → (conn : ℕ) (ks : List PlainConnection) →
      ConnectionsDiffer is_home ks → ConnectionsDiffer is_home (on_connection conn g ks)
  changed_differ g numbers clients conn ks differ =
      let same = sym (on_connection_keeps (λ (k : PlainConnection). k.client) g clients conn ks) in (
        subst Differ (sym (on_connection_keeps (λ (k : PlainConnection). k.number) g numbers conn ks)) differ.0,
        subst Differ same differ.1,
        subst (AreHome is_home) same differ.2,
      )

  left_differ : (conn : ℕ) (ks : List PlainConnection) → ConnectionsDiffer is_home ks →
      ConnectionsDiffer is_home (without_connection conn ks)
  left_differ conn ks differ =
      let test : PlainConnection → Bool = λ (k : PlainConnection). not (k.number == conn) in (
        differ_left (λ (k : PlainConnection). k.number) test ks differ.0,
        differ_left (λ (k : PlainConnection). k.client) test ks differ.1,
        λ client has. differ.2 client (place_of_left (λ (k : PlainConnection). k.client) test ks client has),
      )

  -- one more, where neither its number nor its client is there
  bound_differ : (k : PlainConnection) (ks : List PlainConnection) → connection_at k.number ks ≡ None →
      connection_of k.client ks ≡ None → is_home k.client ≡ true → ConnectionsDiffer is_home ks →
      ConnectionsDiffer is_home (ks ++ k ∷ [])
  bound_differ k ks unbound alone home differ =
      let number : PlainConnection → ℕ = λ (c : PlainConnection). c.number in
      let client : PlainConnection → List ℕ = λ (c : PlainConnection). c.client in
      let clients = sym (map-append client ks (k ∷ [])) in (
        subst Differ (sym (map-append number ks (k ∷ [])))
            (differ_pushed (connection_numbers ks) k.number differ.0
            (none_mapped number (λ (c : PlainConnection). c.number == k.number) ks k.number unbound
            (λ c same. eq-eqb c.number k.number same))),
        subst Differ clients
            (differ_pushed (connection_clients ks) k.client differ.1
            (none_mapped client (λ (c : PlainConnection). bytes_eq c.client k.client) ks k.client alone
            (λ c same. text_same c.client k.client same))),
        subst (AreHome is_home) clients (home_pushed is_home (connection_clients ks) k.client home differ.2),
      )

-- ---- a worker

-- Its number is its place; its sessions are apart and at home, as they are committed and as they would stand with the
-- record that pends; and its connections differ.
pub record IsDistinctAs (config : Config) (worker n : ℕ) (s : Sessions) (p : Option PendingRecord)
    (ks : List PlainConnection) : Type 0 where
  pub number : n ≡ worker
  pub committed : AreApart (is_home_at config.workers worker) s
  pub pending : PendsApart (is_home_at config.workers worker) s p
  pub connections : ConnectionsDiffer (is_home_at config.workers worker) ks

abbrev pub IsDistinct : Config → ℕ → Worker → Type 0
IsDistinct config worker k = IsDistinctAs config worker k.number k.committed k.pending k.connections

module _ (config : Config) (worker : ℕ) where
  abbrev at_home : List ℕ → Bool
  at_home = is_home_at config.workers worker

  -- of what pends only the changes count
  aged_apart : (s : Sessions) (pending : Option PendingRecord) → PendsApart at_home s pending →
      PendsApart at_home s (aged_pending pending)
  aged_apart s None apart = apart
  aged_apart s (Some p) apart = apart

  kept_apart : (conn now : ℕ) (s : Sessions) (pending : Option PendingRecord) → PendsApart at_home s pending →
      PendsApart at_home s (kept_pending conn now pending)
  kept_apart conn now s None apart = apart
  kept_apart conn now s (Some p) apart = apart

  -- with another record that pends, and with other connections
  pends_distinct : (p : Option PendingRecord) (k : Worker) → PendsApart at_home k.committed p →
      IsDistinct config worker k → IsDistinct config worker (record k { pending = p })
  pends_distinct p k apart is =
      record { number = is.number; committed = is.committed; pending = apart; connections = is.connections }

  connects_distinct : (ks : List PlainConnection) (k : Worker) → ConnectionsDiffer at_home ks →
      IsDistinct config worker k → IsDistinct config worker (record k { connections = ks })
  connects_distinct ks k differ is =
      record { number = is.number; committed = is.committed; pending = is.pending; connections = differ }

  -- what pends is in
  in_distinct : (p : PendingRecord) (k : Worker) → k.pending ≡ Some p → IsDistinct config worker k →
      IsDistinct config worker (with_record p k)
  in_distinct p k pends is =
      record {
        number = is.number;
        committed = subst (PendsApart at_home k.committed) pends is.pending;
        pending = tt;
        connections = is.connections;
      }

  owing_distinct : (left : Option ℕ) (p : PendingRecord) (k : Worker) → IsDistinct config worker k →
      IsDistinct config worker (partings_owed left p k)
  owing_distinct None p k is = is
  owing_distinct (Some moment) p k is = is

  hands_distinct : (i : Option Item) (k : Worker) → IsDistinct config worker k →
      IsDistinct config worker (handed_on i k)
  hands_distinct None k is = is
  hands_distinct (Some i) k is = is

  resolved_distinct : (goes_in : Bool) (now : ℕ) (pending : Option PendingRecord) (k : Worker) → k.pending ≡ pending →
      IsDistinct config worker k → IsDistinct config worker (record_resolved goes_in now pending k)
  resolved_distinct goes_in now None k pends is = is
  resolved_distinct true now (Some p) k pends is =
      owing_distinct (moment_left now p.left) p (with_record p k) (in_distinct p k pends is)
  resolved_distinct false now (Some p) k pends is = pends_distinct None k tt is

  without_items_distinct : (conn now : ℕ) (k : Worker) → IsDistinct config worker k →
      IsDistinct config worker (without_items conn now k)
  without_items_distinct conn now k is =
      pends_distinct (kept_pending conn now k.pending) k (kept_apart conn now k.committed k.pending is.pending) is

  without_bound_distinct : (conn now : ℕ) (k : Worker) → IsDistinct config worker k →
      IsDistinct config worker (without_bound conn now k)
  without_bound_distinct conn now k is =
      without_items_distinct conn now (record k { connections = without_connection conn k.connections })
      (connects_distinct _ k (left_differ at_home conn k.connections is.connections) is)

  answered_differ : (now : ℕ) (answer : Answer) (conn : ℕ) (ks : List PlainConnection) →
      ConnectionsDiffer at_home ks → ConnectionsDiffer at_home (on_connection conn (after_answer now answer) ks)
  answered_differ now (Answers rs effects) conn ks differ =
      changed_differ at_home (after_packets effects now) (λ k. refl) (λ k. refl) conn ks differ
  answered_differ now other conn ks differ =
      changed_differ at_home (after_answer now other) (λ k. refl) (λ k. refl) conn ks differ

  -- the session that a CONNECT binds has the client that no connection has, and is at home
  binds_differ : (conn now : ℕ) (c : ConnectFields) (client : List ℕ) (number : ℕ) (m : PlainSession) (k : Worker) →
      connection_in k conn ≡ None → connection_of client k.connections ≡ None → session_at client number k ≡ Some m →
      OwesEnds k → IsDistinct config worker k →
      ConnectionsDiffer at_home (k.connections ++ binds_as conn c now m k ∷ [])
  binds_differ conn now c client number m k unbound alone there owes is =
      let found = place_found (λ (m : PlainSession). bytes_eq m.client client && (m.incarnation == number))
      (sessions_of k).list m there in
      let same : m.client ≡ client =
      same_text m.client client (and_parts (bytes_eq m.client client) (m.incarnation == number) found.1).0 in
      bound_differ at_home (binds_as conn c now m k) k.connections unbound
      (ap (λ its. connection_of its k.connections) same ∙ alone)
      ((sessions_apart at_home k owes.owed is.committed).homes m.client
      (place_through (λ (m : PlainSession). m.client) (sessions_of k).list m found.0)) is.connections

  begins_apart : (profile : Profile) (cause : Cause) (now : ℕ) (p : PendingRecord) (k : Worker) →
      record_of (setting_of profile config now k) k cause ≡ Some p → OwesEnds k → IsDistinct config worker k →
      PendsApart at_home k.committed (Some p)
  begins_apart profile cause now p k made owes is =
      let own : AreApart (is_home_at config.workers k.number) k.committed =
      subst (λ n. AreApart (is_home_at config.workers n) k.committed) (sym is.number) is.committed in
      subst (λ n. PendsApart (is_home_at config.workers n) k.committed (Some p)) is.number
      (subst (PendsApart (is_home_at config.workers k.number) k.committed) made
      (record_apart profile config now k cause owes.owed own))

  -- each move of a worker keeps it so
  step_distinct : (profile : Profile) (k : Worker) (move : WorkerMove) (l : Worker) → OwesEnds k →
      IsDistinct config worker k → StepGoes profile config k move l → IsDistinct config worker l
  step_distinct profile k move l owes is (SStays same) = rw same is
  step_distinct profile k move l owes is (SViews shard list made same) =
      rw same (pends_distinct (aged_pending k.pending) k (aged_apart k.committed k.pending is.pending) is)
  step_distinct profile k move l owes is (SBegins cause now p made none asked same) =
      rw same (pends_distinct (Some p) k (begins_apart profile cause now p k asked owes is) is)
  step_distinct profile k move l owes is (SCommits p made pends same) =
      rw same
      (hands_distinct p.item (partings_owed p.left p (with_record p k))
      (owing_distinct p.left p (with_record p k) (in_distinct p k pends is)))
  step_distinct profile k move l owes is (SSettlesIn now p made pends may same) =
      rw same (owing_distinct (moment_left now p.left) p (with_record p k) (in_distinct p k pends is))
  step_distinct profile k move l owes is (SSettlesOut now p made pends may same) = rw same (pends_distinct None k tt is)
  step_distinct profile k move l owes is (SStores shard a messages made asked same) = rw same is
  step_distinct profile k move l owes is (SItem place now i c made at bound same) =
      rw same
      (connects_distinct _ k (answered_differ now i.answer c.number k.connections is.connections) is)
  step_distinct profile k move l owes is (SPacket conn now packet outcomes step made answered same) =
      rw same
      (connects_distinct _ k (answered_differ now (Answers [] step.effects) conn k.connections is.connections) is)
  step_distinct profile k move l owes is (SResends conn now c m made bound there some may same) =
      let again = resent_connection (resend_of profile now m c k.seen) in
      rw same
      (connects_distinct _ k
      (changed_differ at_home again (λ c. refl) (λ c. refl) conn k.connections is.connections) is)
  step_distinct profile k move l owes is
      (SBinds conn now i c client number rs m made none found answer unbound alone there same) =
      rw same
      (connects_distinct _ k (binds_differ conn now c client number m k unbound alone there owes is) is)
  step_distinct profile k move l owes is (SIsTakenOver conn c made bound may same) =
      rw same (without_bound_distinct conn 0 k is)
  step_distinct profile k move l owes is (SEnds conn now ending c made bound same) =
      rw same (without_bound_distinct conn now k is)
  step_distinct profile k move l owes is (SLeaves conn now ending i c client number rs made unbound found answer same) =
      rw same (without_items_distinct conn now k is)
  step_distinct profile k move l owes is (SLeavesPending conn now ending made unbound has same) =
      rw same (without_items_distinct conn now k is)

  -- and so does a crash
  crashed_distinct : (lists : List ShardList) (now : ℕ) (goes_in : Bool) (k : Worker) → IsDistinct config worker k →
      IsDistinct config worker (crashed_worker lists now goes_in k)
  crashed_distinct lists now goes_in k is =
      let r = record_resolved goes_in now k.pending k in
      connects_distinct [] (record r { pending = None }) (none_differ at_home)
      (pends_distinct None r tt (resolved_distinct goes_in now k.pending k refl is))

-- ---- the workers of a world

-- each owes ends of sessions alone, and is distinct
abbrev pub WorkersAreDistinct : World → Type 0
WorkersAreDistinct w = (worker : ℕ) (k : Worker) → HasWorker w worker k → OwesEnds k × IsDistinct w.config worker k

-- every move of the world keeps them so
pub distinct_goes : (profile : Profile) (w : World) (move : Move) → WorkersAreDistinct w →
    WorkersAreDistinct (world_step profile w move)
distinct_goes profile w move all worker l at = (
  owes_goes profile w move (λ worker k is_there. (all worker k is_there).0) worker l at,
  subst (λ config. IsDistinct config worker l) (sym (config_stays profile w move))
      (by (worker_goes profile w move worker l at)),
)
  where
    moved : (k : Worker) (other : WorkerMove) → HasWorker w worker k →
        IsDistinct w.config worker (worker_step profile w.config k other)
    moved k other is_there =
        step_distinct w.config worker profile k other (worker_step profile w.config k other) (all worker k is_there).0
        (all worker k is_there).1 (step_goes profile w.config k other)

    by : WorkerGoesFrom profile w.config w (world_step profile w move) worker l → IsDistinct w.config worker l
    by (k, (is_there, KStays same)) = rw same (all worker k is_there).1
    by (k, (is_there, KMoves other own same)) = rw same (moved k other is_there)
    by (k, (is_there, KViews shard s has stay same)) = rw same (moved k (View shard s.shard.shown) is_there)
    by (k, (is_there, KIsHanded shard s a has group asked its goes same)) =
        rw same
        (moved k (Stored shard a (messages_in profile w.config s.shard.stored s.shard.pending)) is_there)
    by (k, (is_there, KCrashes now goes_in same)) =
        rw same
        (crashed_distinct w.config worker (shown_lists (world_step profile w move).shards) now goes_in k
        (all worker k is_there).1)

counted_at : (from many place n : ℕ) → slice_get (counted_from from many) place ≡ Some n → n ≡ from + place
counted_at from zero place n at = absurd (none-some n at)
counted_at from (suc many) zero n at = let same : from ≡ n = same_Some from n at in omega arith
counted_at from (suc many) (suc place) n at =
    let rest : n ≡ from + 1 + place = counted_at (from + 1) many place n at in omega arith

pub opening_distinct : (config : Config) → WorkersAreDistinct (opening_world config)
opening_distinct config worker k at =
    let opened = map_from (λ (number : ℕ). opening_worker number (replicate config.shards (opening_list config)))
    (counted_from 0 config.workers) worker k at in
    let from_0 : 0 + worker ≡ worker = omega arith in
    let place : opened.0 ≡ worker = counted_at 0 config.workers worker opened.0 opened.1.0 ∙ from_0 in (
      opening_owes config worker k at,
      rw opened.1.1 (record {
        number = place;
        committed = record {
          clients = tt;
          numbers = tt;
          homes = λ client has. absurd (no_place client has);
          below = λ number has. absurd (no_place number has);
        };
        pending = tt;
        connections = none_differ (is_home_at config.workers worker);
      }),
    )

worker_distinct : (config : Config) (worker : ℕ) (k : Worker) → OwesEnds k × IsDistinct config worker k →
    AreDistinct k
worker_distinct config worker k is =
    let apart = sessions_apart (is_home_at config.workers worker) k is.0.owed is.1.committed in
    record {
      clients = differ_places (λ (m : PlainSession). m.client) (sessions_of k).list apart.clients;
      numbers = differ_places (λ (m : PlainSession). m.incarnation) (sessions_of k).list apart.numbers;
      connections = by;
    }
  where
    by : (i j : ℕ) (c d : PlainConnection) → slice_get k.connections i ≡ Some c → slice_get k.connections j ≡ Some d →
        (c.client ≡ d.client) ⊎ (c.number ≡ d.number) → i ≡ j
    by i j c d at_c at_d (inl same) =
        differ_places (λ (k : PlainConnection). k.client) k.connections is.1.connections.1 i j c d at_c at_d same
    by i j c d at_c at_d (inr same) =
        differ_places (λ (k : PlainConnection). k.number) k.connections is.1.connections.0 i j c d at_c at_d same

one_home : (workers worker other : ℕ) (a b : List ℕ) → is_home_at workers worker a ≡ true →
    is_home_at workers other b ≡ true → a ≡ b → worker ≡ other
one_home workers worker other a b here there same =
    sym (eqb-true (routed_worker a workers) worker here)
    ∙ ap (λ client. routed_worker client workers) same
    ∙ eqb-true (routed_worker b workers) other there

-- a client has its connection at one worker
connections_at_home : (w : World) → WorkersAreDistinct w → (worker other : ℕ) (k l : Worker)
    (c d : PlainConnection) → HasWorker w worker k → HasWorker w other l → HasPlace k.connections c →
    HasPlace l.connections d → c.client ≡ d.client → worker ≡ other
connections_at_home w all worker other k l c d at_k at_l has_c has_d same =
    let client : PlainConnection → List ℕ = λ (c : PlainConnection). c.client in
    one_home w.config.workers worker other c.client d.client
    ((all worker k at_k).1.connections.2 c.client (place_through client k.connections c has_c))
    ((all other l at_l).1.connections.2 d.client (place_through client l.connections d has_d)) same

-- who is who
pub all_distinct : (w : World) → WorkersAreDistinct w → AllAreDistinct w
all_distinct w all =
    record {
      each = λ worker k at. worker_distinct w.config worker k (all worker k at);
      homes = λ worker other k l m n at_k at_l has_m has_n same.
          one_home w.config.workers worker other m.client n.client (home_of worker k m at_k has_m)
          (home_of other l n at_l has_n) same;
      connections = connections_at_home w all;
    }
  where
    home_of : (worker : ℕ) (k : Worker) (m : PlainSession) → HasWorker w worker k → HasPlace (sessions_of k).list m →
        is_home_at w.config.workers worker m.client ≡ true
    home_of worker k m at has =
        let is = all worker k at in
        (sessions_apart (is_home_at w.config.workers worker) k is.0.owed is.1.committed).homes m.client
        (place_through (λ (m : PlainSession). m.client) (sessions_of k).list m has)
