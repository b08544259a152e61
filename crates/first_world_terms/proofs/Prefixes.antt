-- After every run of lines the plain broker has issued to each subscription, of each topic, a prefix of what it wants.
use Rattle.std.proofs.Common.{◌≡◌, ℕ, zero, suc, ◌+◌, Bool, true, false, ◌&&◌, ◌==◌, List, [], ◌∷◌, ◌++◌, length, slice_get, Option, Some, None, refl, sym, ap, ◌∙◌, subst, arith, filter, if◌then◌else◌, bytes_eq, Decides, is_some, option_and_then}
use Rattle.std.proofs.lemmas.Slice.Eq.{bytes_eq-Decides}
use Rattle.std.specs.List.{Contains, All, AllByRecursion}
use Rattle.std.proofs.lemmas.List.Elements.{All-contains, All-from_recursion, All-same, All-nil, All-cons}
use Rattle.first_topic_name.specs.StoredMessage.{StoredMessage}
use Rattle.first_shard_terms.specs.Wanted.{is_wanted, same_topic}
use Rattle.first_session_terms.specs.PlainSession.{PlainSession, Subscription}
use Rattle.first_session_terms.specs.Change.{session_of, on_session, act_all, parted_session}
use Rattle.first_session_terms.specs.IssuedPrefix.{IsIssuedPrefix}
use Rattle.first_mqtt_packet.specs.declared.packet.Packet.{Packet}
use Rattle.first_mqtt_packet.specs.declared.packet.Wish.{Wish}
use Rattle.first_mqtt_packet.specs.declared.packet.Packet.TheVariants.{Connect, Connack, Publish, Puback, Subscribe, Suback, Disconnect}
use Rattle.first_session_core.specs.PlainConnection.{PlainConnection, expiry_of}
use Rattle.first_shard_terms.specs.ShardList.{ShardList, Awaited}
use Rattle.first_topic_name.specs.Pieces.{levels_of}
use Rattle.first_mqtt_packet.specs.Reading.{packet_of, packet_in, body_after, connect_in, subscribe_in, publish_in, is_connect, is_subscribe, is_publish}
use Rattle.first_session_core.specs.Pump.{Issue, pump_of}
use Rattle.first_session_core.specs.SessionStep.{refusal_of, refusal_of_subscribe}
use Rattle.first_world_terms.specs.Script.{Line, Nothing, Open, Send, Pump, line_of}
use Rattle.first_world_terms.specs.Turn.{waits}
use Rattle.first_world_terms.specs.Run.{line_or_nothing}
use Rattle.first_world_terms.specs.World.{World, Shard, Worker, sessions_of}
use Rattle.first_world_terms.specs.Laws.{IssuesPrefixes}
use Rattle.first_world_terms.specs.Move.{session_under, owed_by, connection_at}
use Rattle.first_world_terms.specs.PlainBroker.{PlainBroker, Step, empty_broker, list_with, session_on, ended, opened, turned_away, first_packet, taken, refused_or_taken, bound_packet, sent_bound, issued, pumped, plain_step, plain_after}
use Rattle.first_world_terms.proofs.Offsets.{Numbered, Numbered-push}
use Rattle.first_world_terms.proofs.Topics.{offsets_begin, passes_at}
use Rattle.first_world_terms.proofs.Following.{InStep, idle, following, Follower, Follows, subscription_of, InStep-begun, InStep-parted, InStep-push, InStep-subscribed, IssueInStep, IssueInStep-pump}

-- of one subscription
prefix_of : (messages : List StoredMessage) (m : PlainSession) (f : Follower) (shard start : ℕ) (topic : List (List ℕ))
    → Numbered 0 messages → Follows messages f m.issued → slice_get (f.start ∷ []) shard ≡ Some start
    → IsIssuedPrefix m (subscription_of f) shard start (list_with messages) topic
prefix_of messages m f zero start topic numbered follows e =
    let same_start : f.start ≡ start = cc in
    let same : StoredMessage → Bool = λ (w : StoredMessage). same_topic w.topic topic in
    let begins = offsets_begin (is_wanted f.filter f.start) same f.position messages numbered in
    (begins.0, rw (← same_start) (ap (λ os. filter (passes_at same messages) os ++ begins.0) follows.same_offsets ∙ begins.1))
prefix_of messages m f (suc shard) start topic numbered follows e = cc

-- of a session's subscriptions
abbrev PrefixOf : List StoredMessage → PlainSession → List (List ℕ) → Subscription → Type 0
PrefixOf messages m topic sub =
    (shard start : ℕ) → slice_get sub.starts shard ≡ Some start → IsIssuedPrefix m sub shard start (list_with messages) topic

prefix_of_session : (messages : List StoredMessage) (m : PlainSession) (topic : List (List ℕ)) → Numbered 0 messages → InStep messages m
    → All (PrefixOf messages m topic) m.subscriptions
prefix_of_session messages m topic numbered (idle none nothing) = All-same (PrefixOf messages m topic) m.subscriptions [] none (All-nil (PrefixOf messages m topic))
prefix_of_session messages m topic numbered (following f one follows) =
    let P : Subscription → Type 0 = PrefixOf messages m topic in
    All-same P m.subscriptions (subscription_of f ∷ []) one
    (All-cons P (subscription_of f) [] (λ shard start e. prefix_of messages m f shard start topic numbered follows e) (All-nil P))

-- ---- what every line keeps

-- the messages have consecutive offsets, and every session is in step with them
pub record Kept (p : PlainBroker) : Type 0 where
  pub numbered : Numbered 0 p.messages
  pub sessions : AllByRecursion (InStep p.messages) p.sessions

-- what holds of all sessions holds of the one that a client has
all_found : (P : PlainSession → Type 0) (client : List ℕ) (sessions : List PlainSession) (m : PlainSession)
    → session_of client sessions ≡ Some m → AllByRecursion P sessions → P m
all_found P client [] m e all = cc
all_found P client (first ∷ sessions) m e all =
    (elim (bytes_eq first.client client) as (λ b. (if b then Some first else session_of client sessions) ≡ Some m → P m)
    [ true ↦ λ same. (let at : first ≡ m = cc in subst P at all.0) | false ↦ λ later. all_found P client sessions m later all.1 ]) e

-- its client is that client
found_client : (client : List ℕ) (sessions : List PlainSession) (m : PlainSession) → session_of client sessions ≡ Some m → m.client ≡ client
found_client client [] m e = cc
found_client client (first ∷ sessions) m e =
    (elim (bytes_eq first.client client) as
    (λ b. Decides b (first.client ≡ client) → (if b then Some first else session_of client sessions) ≡ Some m → m.client ≡ client)
    [ true ↦ λ decides same. (let at : first ≡ m = cc in rw (← at) (decides.0 refl)) | false ↦ λ decides later. found_client client sessions m later ])
    (bytes_eq-Decides first.client client) e

-- a change that keeps what holds of a session keeps it of all
all_on_session : (P : PlainSession → Type 0) (client : List ℕ) (f : PlainSession → PlainSession) (sessions : List PlainSession)
    → ((m : PlainSession) → P m → P (f m)) → AllByRecursion P sessions → AllByRecursion P (on_session client f sessions)
all_on_session P client f [] keeps all = tt
all_on_session P client f (first ∷ sessions) keeps all =
    elim (bytes_eq first.client client) as (λ b. AllByRecursion P (if b then f first ∷ sessions else first ∷ on_session client f sessions))
    [ true ↦ (keeps first all.0, all.1) | false ↦ (all.0, all_on_session P client f sessions keeps all.1) ]

-- it is enough that it keeps it of the session that the client has
all_on_found : (P : PlainSession → Type 0) (client : List ℕ) (f : PlainSession → PlainSession) (sessions : List PlainSession) (m : PlainSession)
    → session_of client sessions ≡ Some m → P (f m) → AllByRecursion P sessions → AllByRecursion P (on_session client f sessions)
all_on_found P client f [] m e kept all = tt
all_on_found P client f (first ∷ sessions) m e kept all =
    (elim (bytes_eq first.client client) as
    (λ b. (if b then Some first else session_of client sessions) ≡ Some m → AllByRecursion P (if b then f first ∷ sessions else first ∷ on_session client f sessions)) [
      | true ↦ λ same. (let at : m ≡ first = cc in (subst (λ (x : PlainSession). P (f x)) at kept, all.1))
      | false ↦ λ later. (all.0, all_on_found P client f sessions m later kept all.1)
    ]) e

-- so the session of a connection is that of its client
found_under : (sessions : List PlainSession) (k : Option PlainConnection) (m : PlainSession) → session_under sessions k ≡ Some m → session_of m.client sessions ≡ Some m
found_under sessions None m e = cc
found_under sessions (Some k) m e =
    subst (λ (client : List ℕ). session_of client sessions ≡ Some m) (sym (found_client k.client sessions m e)) e

-- a session at the end
all_push : (P : PlainSession → Type 0) (sessions : List PlainSession) (m : PlainSession) → P m → AllByRecursion P sessions → AllByRecursion P (sessions ++ m ∷ [])
all_push P [] m h all = (h, tt)
all_push P (first ∷ sessions) m h all = (all.0, all_push P sessions m h all.1)

-- a weaker fact of all sessions
all_weaker : (P Q : PlainSession → Type 0) (sessions : List PlainSession) → ((m : PlainSession) → P m → Q m) → AllByRecursion P sessions → AllByRecursion Q sessions
all_weaker P Q [] keeps all = tt
all_weaker P Q (first ∷ sessions) keeps all = (keeps first all.0, all_weaker P Q sessions keeps all.1)

-- the end of a connection keeps all sessions in step
all_owed : (messages : List StoredMessage) (sessions : List PlainSession) (m : Option PlainSession) (now : ℕ)
    → AllByRecursion (InStep messages) sessions → AllByRecursion (InStep messages) (act_all sessions (owed_by m now))
all_owed messages sessions None now all = all
all_owed messages sessions (Some m) now all =
    all_on_session (InStep messages) m.client (parted_session m.expiry now) sessions (InStep-parted messages m.expiry now) all

-- so a broker keeps it when a connection ends
Kept-ended : (c : ℕ) (p : PlainBroker) → Kept p → Kept (ended c p)
Kept-ended c p kept = record { numbered = kept.numbered; sessions = all_owed p.messages p.sessions (session_on p c) 0 kept.sessions }

-- a connection is opened
Kept-opened : (c : ℕ) (found : Option PlainConnection) (p : PlainBroker) → Kept p → Kept (opened c found p).broker
Kept-opened c None p kept = record { numbered = kept.numbered; sessions = kept.sessions }
Kept-opened c (Some k) p kept = let done = Kept-ended c p kept in record { numbered = done.numbered; sessions = done.sessions }

-- a connection is turned away
Kept-away : (c : ℕ) (p : PlainBroker) → Kept p → Kept (turned_away c p).broker
Kept-away c p kept = record { numbered = kept.numbered; sessions = kept.sessions }

-- a choice of two steps that both keep it
Kept-choice : (b : Bool) (first second : Step) → Kept first.broker → Kept second.broker → Kept (if b then first else second).broker
Kept-choice true first second h g = h
Kept-choice false first second h g = g

-- the first packet of a connection
Kept-first : (c : ℕ) (packet : Option Packet) (p : PlainBroker) → Kept p → Kept (first_packet c packet p).broker
Kept-first c None p kept = Kept-away c p kept
Kept-first c (Some (Connect clean keep_alive props client will user password)) p kept =
    Kept-choice (is_some (session_of client p.sessions)) _ _ (Kept-away c p kept) (record {
      numbered = kept.numbered;
      sessions = all_push (InStep p.messages) p.sessions _ (InStep-begun p.messages client (length p.sessions + 1) (expiry_of props)) kept.sessions;
    })
Kept-first c (Some (Connack present reason props)) p kept = Kept-away c p kept
Kept-first c (Some (Publish dup qos retain topic id props payload)) p kept = Kept-away c p kept
Kept-first c (Some (Puback id reason props)) p kept = Kept-away c p kept
Kept-first c (Some (Subscribe id props filters)) p kept = Kept-away c p kept
Kept-first c (Some (Suback id props reasons)) p kept = Kept-away c p kept
Kept-first c (Some (Disconnect reason props)) p kept = Kept-away c p kept

-- a message is stored, or left out
Kept-stored : (b : Bool) (p : PlainBroker) (awaited : List Awaited) (w : StoredMessage) → w.offset ≡ length p.messages → Kept p
    → Kept (record p { messages = (if b then list_with p.messages else record (list_with (p.messages ++ w ∷ [])) { awaited = awaited }).messages })
Kept-stored true p awaited w e kept = record { numbered = kept.numbered; sessions = kept.sessions }
Kept-stored false p awaited w e kept = record {
  numbered = Numbered-push 0 p.messages w kept.numbered (omega arith);
  sessions = all_weaker (InStep p.messages) (InStep (p.messages ++ w ∷ [])) p.sessions (λ m. InStep-push p.messages w m e) kept.sessions;
}

-- a session that has a subscription is refused a SUBSCRIBE
none_subscribed : (subscriptions : List Subscription) → refusal_of_subscribe subscriptions ≡ None → subscriptions ≡ []
none_subscribed [] e = refl
none_subscribed (s ∷ subscriptions) e = cc

-- a SUBSCRIBE has one filter
abbrev HasOneFilter : Packet → Type 0
HasOneFilter (Subscribe id props filters) = (wish : Wish) × (filters ≡ wish ∷ [])
HasOneFilter (Connect clean keep_alive props client will user password) = Unit {0}
HasOneFilter (Connack present reason props) = Unit {0}
HasOneFilter (Publish dup qos retain topic id props payload) = Unit {0}
HasOneFilter (Puback id reason props) = Unit {0}
HasOneFilter (Suback id props reasons) = Unit {0}
HasOneFilter (Disconnect reason props) = Unit {0}

-- so has one that was read, if any was
abbrev OneFilterIn : Option Packet → Type 0
OneFilterIn None = Unit {0}
OneFilterIn (Some packet) = HasOneFilter packet

-- a choice of two
OneFilterIn-choice : (b : Bool) (first second : Option Packet) → OneFilterIn first → OneFilterIn second → OneFilterIn (if b then first else second)
OneFilterIn-choice true first second h g = h
OneFilterIn-choice false first second h g = g

-- what the body of a packet is read as
OneFilterIn-body : (first : ℕ) (body : Option (List ℕ)) → OneFilterIn (option_and_then (packet_in first) body)
OneFilterIn-body first None = tt
OneFilterIn-body first (Some body) =
    OneFilterIn-choice (first == 16) (connect_in body) _ (OneFilterIn-choice (is_connect body) _ None tt tt)
    (OneFilterIn-choice (first == 130) (subscribe_in body) _ (OneFilterIn-choice (is_subscribe body) _ None (_, refl) tt)
    (OneFilterIn-choice (first == 50) (publish_in body) None (OneFilterIn-choice (is_publish body) _ None tt tt) tt))

-- what bytes are read as
OneFilterIn-packet : (bytes : List ℕ) → OneFilterIn (packet_of bytes)
OneFilterIn-packet [] = tt
OneFilterIn-packet (first ∷ rest) = OneFilterIn-body first (body_after rest)

-- a packet that is taken
Kept-taken : (c : ℕ) (packet : Packet) (m : PlainSession) (p : PlainBroker) → HasOneFilter packet → session_of m.client p.sessions ≡ Some m
    → refusal_of m packet ≡ None → Kept p → Kept (taken c packet m p).broker
Kept-taken c (Publish dup qos retain topic id props payload) m p one found e kept = Kept-stored ((qos == 2) && false) p _ _ (omega arith) kept
Kept-taken c (Subscribe id props filters) m p one found e kept =
    let P : PlainSession → Type 0 = InStep p.messages in
    rw one.1 (record {
      numbered = kept.numbered;
      sessions = all_on_found P m.client _ p.sessions m found
          (InStep-subscribed p.messages (length m.subscriptions + 1) (length m.versions + 1) one.0.options 0 (levels_of one.0.filter) m (none_subscribed m.subscriptions e) (all_found P m.client p.sessions m found kept.sessions))
          kept.sessions;
    })
Kept-taken c (Connect clean keep_alive props client will user password) m p one found e kept = kept
Kept-taken c (Connack present reason props) m p one found e kept = kept
Kept-taken c (Puback id reason props) m p one found e kept = kept
Kept-taken c (Suback id props reasons) m p one found e kept = kept
Kept-taken c (Disconnect reason props) m p one found e kept = kept

-- a packet that is refused or taken
Kept-refused_or_taken : (c : ℕ) (packet : Packet) (m : PlainSession) (refusal : Option ℕ) (p : PlainBroker) → HasOneFilter packet
    → session_of m.client p.sessions ≡ Some m → refusal_of m packet ≡ refusal → Kept p → Kept (refused_or_taken c packet m refusal p).broker
Kept-refused_or_taken c packet m None p one found e kept = Kept-taken c packet m p one found e kept
Kept-refused_or_taken c packet m (Some reason) p one found e kept = Kept-ended c p kept

-- a packet of a bound connection, whose session was found
Kept-bound : (c : ℕ) (packet : Option Packet) (m : Option PlainSession) (k : Option PlainConnection) (p : PlainBroker) → OneFilterIn packet
    → session_under p.sessions k ≡ m → Kept p → Kept (bound_packet c packet m p).broker
Kept-bound c None m k p one found kept = Kept-ended c p kept
Kept-bound c (Some packet) None k p one found kept = kept
Kept-bound c (Some packet) (Some m) k p one found kept =
    Kept-refused_or_taken c packet m (refusal_of m packet) p one (found_under p.sessions k m found) refl kept

-- bytes on a connection that may be bound
Kept-sent_bound : (c : ℕ) (packet : Option Packet) (k : Option PlainConnection) (p : PlainBroker) → OneFilterIn packet → Kept p
    → Kept (sent_bound c packet k p).broker
Kept-sent_bound c packet None p one kept = kept
Kept-sent_bound c packet (Some k) p one kept = Kept-bound c packet (session_on p c) (connection_at c p.connections) p one refl kept

-- what a pump issued
Kept-issued : (c : ℕ) (m : PlainSession) (issue : Option Issue) (p : PlainBroker) → session_of m.client p.sessions ≡ Some m → IssueInStep p.messages m issue → Kept p
    → Kept (issued c m.client issue p).broker
Kept-issued c m None p found fits kept = kept
Kept-issued c m (Some issue) p found fits kept = record {
  numbered = kept.numbered;
  sessions = all_on_found (InStep p.messages) m.client _ p.sessions m found fits kept.sessions;
}

-- a pump
Kept-pumped : (c : ℕ) (k : Option PlainConnection) (m : Option PlainSession) (p : PlainBroker) → session_under p.sessions k ≡ m → Kept p
    → Kept (pumped c k m p).broker
Kept-pumped c None m p found kept = kept
Kept-pumped c (Some k) None p found kept = kept
Kept-pumped c (Some k) (Some m) p found kept =
    let its_own : session_of m.client p.sessions ≡ Some m = found_under p.sessions (Some k) m found in
    Kept-issued c m (pump_of m k (list_with p.messages ∷ [])) p its_own
    (IssueInStep-pump p.messages m k kept.numbered (all_found (InStep p.messages) m.client p.sessions m its_own kept.sessions)) kept

-- a line
Kept-step : (line : Line) (p : PlainBroker) → Kept p → Kept (plain_step line p).broker
Kept-step Nothing p kept = kept
Kept-step (Open c) p kept = Kept-opened c (connection_at c p.connections) p kept
Kept-step (Send c bytes) p kept =
    Kept-choice (waits c p.lobby) _ _ (Kept-first c (packet_of bytes) p kept)
    (Kept-sent_bound c (packet_of bytes) (connection_at c p.connections) p (OneFilterIn-packet bytes) kept)
Kept-step (Pump c) p kept = Kept-pumped c (connection_at c p.connections) (session_on p c) p refl kept

-- every run of lines
Kept-after : (texts : List (List ℕ)) (p : PlainBroker) → Kept p → Kept (plain_after p texts)
Kept-after [] p kept = kept
Kept-after (text ∷ texts) p kept =
    Kept-after texts (plain_step (line_or_nothing (line_of text)) p).broker (Kept-step (line_or_nothing (line_of text)) p kept)

-- of each topic each subscription was issued a prefix of what it wants, after every run of lines from the empty broker
pub prefixes : (texts : List (List ℕ)) (m : PlainSession) (sub : Subscription) (shard start : ℕ) (topic : List (List ℕ))
    → Contains (plain_after empty_broker texts).sessions m → Contains m.subscriptions sub → slice_get sub.starts shard ≡ Some start
    → IsIssuedPrefix m sub shard start (list_with (plain_after empty_broker texts).messages) topic
prefixes texts m sub shard start topic in_sessions in_subscriptions e =
    let p : PlainBroker = plain_after empty_broker texts in
    let kept : Kept p = Kept-after texts empty_broker (record { numbered = tt; sessions = tt }) in
    let fits : InStep p.messages m = All-contains (InStep p.messages) p.sessions m (All-from_recursion (InStep p.messages) p.sessions kept.sessions) in_sessions in
    All-contains (PrefixOf p.messages m topic) m.subscriptions sub (prefix_of_session p.messages m topic kept.numbered fits) in_subscriptions shard start e

-- ---- a world that keeps what the broker keeps

-- its one shard has the messages, and its one worker the sessions
pub record KeepsSame (world : World) (p : PlainBroker) : Type 0 where
  pub shard : Shard
  pub worker : Worker
  pub one_shard : world.shards ≡ shard ∷ []
  pub one_worker : world.workers ≡ worker ∷ []
  pub same_messages : shard.stored ≡ list_with p.messages
  pub same_sessions : sessions_of worker ≡ p.sessions

-- what is at a place of a list of one
only_at : (only s : Shard) (place : ℕ) → slice_get (only ∷ []) place ≡ Some s → s ≡ only
only_at only s zero e = cc
only_at only s (suc place) e = cc

-- what a list of one contains
only_contained : {X : Type 0} (xs : List X) (only x : X) → xs ≡ only ∷ [] → Contains xs x → x ≡ only
only_contained {X} xs only x e c =
    let P : X → Type 0 = λ y. y ≡ only in All-contains P xs x (All-same P xs (only ∷ []) e (All-cons P only [] refl (All-nil P))) c

-- so it issues prefixes as the broker does
pub issues_prefixes : (world : World) (texts : List (List ℕ)) → KeepsSame world (plain_after empty_broker texts) → IssuesPrefixes world
issues_prefixes world texts same worker m sub shard start s topic in_workers in_sessions in_subscriptions starts_at stored_at =
    let p : PlainBroker = plain_after empty_broker texts in
    let same_worker : worker ≡ same.worker = only_contained world.workers same.worker worker same.one_worker in_workers in
    let its_sessions : sessions_of worker ≡ p.sessions = ap sessions_of same_worker ∙ same.same_sessions in
    let same_shard : s ≡ same.shard = only_at same.shard s shard (rw same.one_shard at stored_at) in
    let its_list : s.stored ≡ list_with p.messages = ap (λ (x : Shard). x.stored) same_shard ∙ same.same_messages in
    subst (λ (list : ShardList). IsIssuedPrefix m sub shard start list topic) (sym its_list)
    (prefixes texts m sub shard start topic (subst (λ (sessions : List PlainSession). Contains sessions m) its_sessions in_sessions) in_subscriptions starts_at)
