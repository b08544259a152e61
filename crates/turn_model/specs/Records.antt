-- The records of a worker: what each cause would commit, when it may be begun, and what follows when it is in.
use Rattle.std.specs.Prelude.{ℕ, ◌+◌, ◌-◌, Bool, true, false, ◌&&◌, ◌||◌, not, ◌==◌, nat_le, List, [], ◌∷◌, ◌++◌}
use Rattle.std.specs.Prelude.{length, map, filter, find, take, drop, Option, Some, None, is_some, is_none}
use Rattle.std.specs.List.{list_any}
use Rattle.std.specs.Str.{bytes_eq}
use Rattle.topic_model.specs.Profile.{Profile}
use Rattle.session_model.specs.PlainSession.{PlainSession, session_of}
use Rattle.session_model.specs.Change.{Change, Effect, Began, Bound, Issued, Issues, change}
use Rattle.session_model.specs.Acting.{act_all, changed_session}
use Rattle.mqtt_packet.specs.Packet.{PlainPacket, ConnectFields}
use Rattle.turn_model.specs.PlainConnection.{PlainConnection, Effects, no_effects, both_effects}
use Rattle.turn_model.specs.MayIssue.{may_issue}
use Rattle.turn_model.specs.Resend.{pass_changes}
use Rattle.turn_model.specs.Step.{Setting, Reply, Step, is_nil, is_settled}
use Rattle.turn_model.specs.ConnectStep.{connect_refusal, connect_step, client_for, is_home, session_number}
use Rattle.turn_model.specs.PacketStep.{packet_step, closed_step, tick_step}
use Rattle.turn_model.specs.Worker.{Worker, Item, Answer, Answers, Accepts, Delivers, PendingRecord, sessions_of}
use Rattle.turn_model.specs.Worker.{connection_in, session_in}

-- Why a record is made: packets of a connection, one after another; a CONNECT; a pump, with the batch that it issues,
-- if it issues one; a Tick; or changes that are owed, where they and others don't go into one record.
pub data Cause : Type 0 where
  OfPackets : ℕ → List PlainPacket → Cause
  OfConnect : ℕ → ConnectFields → Cause
  OfPump : ℕ → Option Issues → Cause
  OfTick : Cause
  OfOwed : Cause

-- ---- who attends a session

-- a CONNECT of this connection that is in and isn't answered
abbrev pub accepts_on : ℕ → Item → Bool
accepts_on conn i =
    (i.connection == conn)
    && elim (i.answer) as
    (λ a. Bool) [ Answers rs effects ↦ false | Accepts c client number rs ↦ true | Delivers b moment fresh ↦ false ]

-- one that began or bound the session of this client with this number
abbrev pub accepts_session : List ℕ → ℕ → Item → Bool
accepts_session client number i =
    elim (i.answer) as (λ a. Bool) [
      | Answers rs effects ↦ false
      | Accepts c named n rs ↦ bytes_eq named client && (n == number)
      | Delivers b moment fresh ↦ false
    ]

-- nothing else is put out on a connection before its CONNACK (MQTT 3.2.0)
abbrev pub awaits_connack : ℕ → Worker → Bool
awaits_connack conn w = list_any (accepts_on conn) w.due

-- a connection is bound to this session, or will be: its CONNECT is in
abbrev pub is_attended : List ℕ → ℕ → Worker → Bool
is_attended client number w =
    list_any (λ (k : PlainConnection). bytes_eq k.client client && (k.incarnation == number)) w.connections
    || list_any (accepts_session client number) w.due

-- a session that nobody attends parts at this moment, as nothing else would say when it ends
abbrev pub parting_unless : Bool → ℕ → Option PlainSession → Option ℕ → List Change
parting_unless true now m expiry = []
parting_unless false now m expiry = (closed_step now m expiry).changes

-- the session with this number that the worker has of a client
abbrev pub session_at : List ℕ → ℕ → Worker → Option PlainSession
session_at client number w =
    find (λ (m : PlainSession). bytes_eq m.client client && (m.incarnation == number)) (sessions_of w).list

-- ---- records

-- As the packets of a record are gone through: the session so far, and what they change, are answered and do to the
-- connection.
pub record Stepped : Type 0 where
  pub session : PlainSession
  pub changes : List Change
  pub replies : List Reply
  pub effects : Effects
  pub settled : Bool

abbrev pub not_stepped : PlainSession → Stepped
not_stepped m = record { session = m; changes = []; replies = []; effects = no_effects; settled = true }

abbrev pub changed_by : List Change → PlainSession → PlainSession
changed_by [] m = m
changed_by (c ∷ changes) m = changed_by changes (changed_session c.effect m)

abbrev pub stepped_by : Step → Stepped → Stepped
stepped_by step st =
    record {
      session = changed_by step.changes st.session;
      changes = st.changes ++ step.changes;
      replies = st.replies ++ step.replies;
      effects = both_effects st.effects step.effects;
      settled = st.settled && is_settled step;
    }

abbrev pub stepped_all : Setting → PlainConnection → List PlainPacket → Stepped → Stepped
stepped_all s k [] st = st
stepped_all s k (packet ∷ packets) st = stepped_all s k packets (stepped_by (packet_step s k st.session packet []) st)

-- A record has room for these changes behind all that is owed. Those of one packet stay together however many they are,
-- where nothing is owed.
abbrev pub has_room : Profile → Worker → Bool → List Change → Bool
has_room profile w of_one changes =
    (of_one && is_nil w.owed) || nat_le (length w.owed + length changes) profile.changes

abbrev pub pending_if : Bool → Worker → List Change → Option Item → Option PendingRecord
pending_if true w changes item = Some (record { owed = w.owed; changes = changes; item = item; left = None })
pending_if false w changes item = None

-- of some changes, of one packet or of several, where there is room
abbrev pub pending_of : Profile → Worker → Bool → Bool → List Change → Option Item → Option PendingRecord
pending_of profile w allowed of_one changes item =
    pending_if (allowed && (not (is_nil changes) && has_room profile w of_one changes)) w changes item

abbrev pub item : ℕ → Answer → Item
item conn answer = record { connection = conn; answer = answer }

-- packets that ask for no group and don't close
abbrev pub packets_pending : Profile → Worker → ℕ → Bool → Stepped → Option PendingRecord
packets_pending profile w conn of_one st =
    pending_of profile w st.settled of_one st.changes (Some (item conn (Answers st.replies st.effects)))

abbrev pub is_one : {A : Type 0} → List A → Bool
is_one [] = false
is_one (x ∷ []) = true
is_one (x ∷ y ∷ xs) = false

abbrev pub packets_record : Setting → Worker → ℕ → List PlainPacket → Option PlainConnection → Option PlainSession →
    Option PendingRecord
packets_record s w conn packets (Some k) (Some m) =
    packets_pending s.profile w conn (is_one packets) (stepped_all s k packets (not_stepped m))
packets_record s w conn packets k m = None

-- A CONNECT that isn't refused, of a client whose worker this is, on a connection that isn't bound and has no other one
-- under way.
abbrev pub has_item : ℕ → List Item → Bool
has_item conn is = list_any (λ (i : Item). i.connection == conn) is

abbrev pub connect_record : Setting → Worker → ℕ → ConnectFields → Step → Option PendingRecord
connect_record s w conn c step =
    pending_of s.profile w
    (is_none (connection_in w conn)
    && (not (has_item conn w.due) && (is_none (connect_refusal s c) && is_home s (client_for s c))))
    true
    step.changes
    (Some (item conn (Accepts c (client_for s c) (session_number s c) step.replies)))

-- a batch that may be issued, and what was passed over directly above the marks
abbrev pub issued_change : PlainSession → Option Issues → List Change
issued_change m None = []
issued_change m (Some b) = change m.client (Issued b) ∷ []

-- one of this connection is due already
abbrev pub delivers_on : ℕ → Item → Bool
delivers_on conn i =
    (i.connection == conn)
    && elim (i.answer) as
    (λ a. Bool) [ Answers rs effects ↦ false | Accepts c client number rs ↦ false | Delivers b moment fresh ↦ true ]

-- of a connection at most one is under way or due, so that no more goes out than its quota allows, and in order
abbrev pub may_issue_if : Setting → Worker → PlainSession → PlainConnection → Option Issues → Bool
may_issue_if s w m k None = true
may_issue_if s w m k (Some b) = not (list_any (delivers_on k.number) w.due) && may_issue s.profile m k s.now s.seen b

abbrev pub delivering : ℕ → ℕ → Option Issues → Option Item
delivering conn now None = None
delivering conn now (Some b) = Some (item conn (Delivers b now true))

abbrev pub pump_record : Setting → Worker → ℕ → Option Issues → Option PlainConnection → Option PlainSession →
    Option PendingRecord
pump_record s w conn b (Some k) (Some m) =
    pending_of s.profile w (may_issue_if s w m k b) true (issued_change m b ++ pass_changes m k)
    (delivering conn s.now b)
pump_record s w conn b k m = None

-- the sessions that are over end, as many as a record has room for
abbrev pub tick_record : Setting → Worker → List Change → Option PendingRecord
tick_record s w [] = None
tick_record s w (c ∷ changes) =
    Some (record {
      owed = take s.profile.changes w.owed;
      changes = take (s.profile.changes - length w.owed) (c ∷ changes);
      item = None;
      left = None;
    })

abbrev pub owed_record : Profile → Worker → List Change → Option PendingRecord
owed_record profile w [] = None
owed_record profile w (c ∷ changes) =
    Some (record { owed = take profile.changes (c ∷ changes); changes = []; item = None; left = None })

abbrev pub record_of : Setting → Worker → Cause → Option PendingRecord
record_of s w (OfPackets conn packets) = packets_record s w conn packets (connection_in w conn) (session_in w conn)
record_of s w (OfConnect conn c) = connect_record s w conn c (connect_step s c)
record_of s w (OfPump conn b) = pump_record s w conn b (connection_in w conn) (session_in w conn)
record_of s w OfTick = tick_record s w (tick_step s.now s.connections s.sessions).changes
record_of s w OfOwed = owed_record s.profile w w.owed

abbrev pub begun_unless : Option PendingRecord → Option PendingRecord → Worker → Worker
begun_unless None (Some p) w = record w { pending = Some p }
begun_unless pending asked w = w

-- ---- a record that is in

-- the clients whose sessions a record begins or binds
abbrev pub binds : Effect → Bool
binds (Began b) = true
binds (Bound expiry) = true
binds other = false

abbrev pub bound_by : List Change → List (List ℕ)
bound_by changes = map (λ (c : Change). c.client) (filter (λ (c : Change). binds c.effect) changes)

abbrev pub is_client_of : List (List ℕ) → Change → Bool
is_client_of clients c = list_any (λ (client : List ℕ). bytes_eq client c.client) clients

abbrev pub not_of : List (List ℕ) → List Change → List Change
not_of clients changes = filter (λ (c : Change). not (is_client_of clients c)) changes

-- What it began with is no longer owed, nor is the end of a connection that came before its session is bound anew.
abbrev pub with_record : PendingRecord → Worker → Worker
with_record p w =
    record w {
      committed = act_all w.committed (p.owed ++ p.changes);
      owed = not_of (bound_by p.changes) (drop (length p.owed) w.owed);
      pending = None;
    }

abbrev pub handed_on : Option Item → Worker → Worker
handed_on None w = w
handed_on (Some i) w = record w { due = w.due ++ i ∷ [] }

-- of these clients, those whose sessions nobody attends
abbrev pub parting_of : ℕ → Worker → Option PlainSession → List Change
parting_of now w None = []
parting_of now w (Some m) = parting_unless (is_attended m.client m.incarnation w) now (Some m) None

abbrev pub partings : ℕ → Worker → List (List ℕ) → List Change
partings now w [] = []
partings now w (client ∷ clients) = parting_of now w (session_of client w.committed) ++ partings now w clients

abbrev pub partings_owed : Option ℕ → PendingRecord → Worker → Worker
partings_owed None p w = w
partings_owed (Some moment) p w = record w { owed = w.owed ++ partings moment w (bound_by p.changes) }

-- It hands its item on; and where a CONNECT's connection has ended meanwhile, its session parts at that moment.
abbrev pub record_committed : Option PendingRecord → Worker → Worker
record_committed None w = w
record_committed (Some p) w = handed_on p.item (partings_owed p.left p (with_record p w))

abbrev pub moment_left : ℕ → Option ℕ → Option ℕ
moment_left now None = Some now
moment_left now (Some moment) = Some moment

-- What is found to be in hands nothing on, and the sessions that it bound part where nobody attends them.
abbrev pub record_resolved : Bool → ℕ → Option PendingRecord → Worker → Worker
record_resolved goes_in now None w = w
record_resolved true now (Some p) w = partings_owed (moment_left now p.left) p (with_record p w)
record_resolved false now (Some p) w = record w { pending = None }

-- a record is settled where its connection isn't bound any more: else what it issued would be delivered by nobody
abbrev pub is_item_bound : Worker → Option Item → Bool
is_item_bound w None = false
is_item_bound w (Some i) = is_some (connection_in w i.connection)

abbrev pub may_settle : Worker → Option PendingRecord → Bool
may_settle w None = false
may_settle w (Some p) = not (is_item_bound w p.item)

abbrev pub record_settled : Bool → Bool → ℕ → Worker → Worker
record_settled true goes_in now w = record_resolved goes_in now w.pending w
record_settled false goes_in now w = w

-- one more packet behind some
abbrev pub stepped_on : Setting → PlainConnection → PlainPacket → Stepped → Stepped
stepped_on s k packet st = stepped_by (packet_step s k st.session packet []) st
