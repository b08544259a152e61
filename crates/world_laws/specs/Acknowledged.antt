-- What is to hold of what is acknowledged, and of what is put out behind a record.
use Rattle.std.specs.Prelude.{ℕ, ◌≡◌, ◌<◌, ◌⊎◌, Bool, true, false, ◌&&◌, ◌==◌, List, [], ◌∷◌, ◌++◌, map, filter, length}
use Rattle.std.specs.Prelude.{slice_get, Option, Some, None}
use Rattle.std.specs.Str.{bytes_eq}
use Rattle.topic_model.specs.Profile.{Profile, Config}
use Rattle.topic_model.specs.StoredMessage.{StoredMessage}
use Rattle.topic_model.specs.Places.{HasPlace}
use Rattle.shard_model.specs.ShardList.{ShardList, floor_of, message_at}
use Rattle.shard_model.specs.Storing.{awaits, is_message_of}
use Rattle.session_model.specs.declared.entry.Entry.{Entry}
use Rattle.session_model.specs.PlainSession.{PlainSession}
use Rattle.session_model.specs.Change.{Issues}
use Rattle.session_model.specs.Acting.{act_all}
use Rattle.mqtt_packet.specs.declared.packet.AckKind.{AckKind}
use Rattle.mqtt_packet.specs.declared.packet.AckKind.TheVariants.{Puback, Pubrec, Pubrel, Pubcomp}
use Rattle.mqtt_packet.specs.Packet.{PlainPacket, AckFields, Ack, ConnectFields}
use Rattle.turn_model.specs.PlainConnection.{PlainConnection, is_bound_to}
use Rattle.turn_model.specs.Step.{Reply}
use Rattle.turn_model.specs.Worker.{Worker, Item, Answer, Answers, Accepts, Delivers, PendingRecord, Out, Sent, Note}
use Rattle.turn_model.specs.Worker.{connection_in}
use Rattle.turn_model.specs.WorkerMoves.{WorkerMove, Commit, Stored, Asker, aged_item, stored_steps, stored_answer}
use Rattle.turn_model.specs.WorkerMoves.{worker_step, worker_outs, worker_acks}
use Rattle.turn_model.specs.Records.{item}
use Rattle.turn_model.specs.Reasons as Reason
use Rattle.world_model.specs.World.{World, WorldShard}
use Rattle.world_laws.specs.Reached.{HasShard, HasWorker}
use Rattle.world_laws.specs.SentAgain.{entries_noted}

-- ---- acknowledged messages

-- A message whose PUBACK or PUBREC was put out was stored in its shard, at its offset. It is held there still, or went
-- with its generation.
pub record AreKept (w : World) : Type 0 where
  pub ever : (shard : ℕ) (message : StoredMessage) (s : WorldShard) → HasPlace w.acked_out (shard, message) →
      HasShard w shard s → slice_get s.ever message.offset ≡ Some message
  pub held : (shard : ℕ) (message : StoredMessage) (s : WorldShard) → HasPlace w.acked_out (shard, message) →
      HasShard w shard s →
      (message_at s.shard.stored message.offset ≡ Some message) ⊎ (message.offset < floor_of s.shard.stored)

-- ---- what is acknowledged is noted as such

-- PUBACK or PUBREC with the reason of success: the client knows that its message is the broker's (MQTT 4.3)
abbrev pub takes_over_message : AckKind → Bool
takes_over_message Puback = true
takes_over_message Pubrec = true
takes_over_message Pubrel = false
takes_over_message Pubcomp = false

abbrev pub is_success_of : AckKind → AckFields → Bool
is_success_of kind a = takes_over_message kind && (a.reason == Reason.success)

abbrev pub is_success : PlainPacket → Bool
is_success (Ack kind a) = is_success_of kind a
is_success other = false

abbrev pub with_success : Bool → PlainPacket → List PlainPacket → List PlainPacket
with_success true packet packets = packet ∷ packets
with_success false packet packets = packets

abbrev pub success_packets : List Out → List PlainPacket
success_packets [] = []
success_packets (Sent conn packet ∷ outs) = with_success (is_success packet) packet (success_packets outs)
success_packets (other ∷ outs) = success_packets outs

abbrev pub with_told : Option (ℕ × StoredMessage) → List (ℕ × StoredMessage) → List (ℕ × StoredMessage)
with_told None acked = acked
with_told (Some m) acked = m ∷ acked

abbrev pub told_messages : List (PlainPacket × Option (ℕ × StoredMessage)) → List (ℕ × StoredMessage)
told_messages [] = []
told_messages (x ∷ xs) = with_told x.1 (told_messages xs)

-- the message that was published so: of QoS 2 with this identifier for PUBREC, of QoS 1 for PUBACK
abbrev pub IsPublishedAs : PlainConnection → PlainPacket → StoredMessage → Type 0
IsPublishedAs c (Ack Puback a) m =
    (m.publisher ≡ c.client) × ((m.incarnation ≡ c.incarnation) × (m.qos ≡ 1))
IsPublishedAs c (Ack Pubrec a) m =
    is_message_of (record { publisher = c.client; incarnation = c.incarnation; id = a.id }) m ≡ true
IsPublishedAs c other m = ⊥

-- Each PUBACK and PUBREC of success that a move puts out adds to what is acknowledged a message that its client
-- published so; or none, where that message is gone: it lies below its shard's floor.
pub record AcksTell (profile : Profile) (config : Config) (w : World) (k : Worker) (move : WorkerMove) : Type 0 where
  pub told : List (PlainPacket × Option (ℕ × StoredMessage))
  pub packets : success_packets (worker_outs profile config k move)
      ≡ map (λ (x : PlainPacket × Option (ℕ × StoredMessage)). x.0) told
  pub messages : worker_acks profile config k move ≡ told_messages told
  pub added : (packet : PlainPacket) (shard : ℕ) (m : StoredMessage) → HasPlace told (packet, Some (shard, m)) →
      (c : PlainConnection) × (HasPlace k.connections c × IsPublishedAs c packet m)
  pub gone : (packet : PlainPacket) → HasPlace told (packet, None) →
      (c : PlainConnection) × (HasPlace k.connections c
      × ((shard : ℕ) × ((s : WorldShard) × (HasShard w shard s
      × ((m : StoredMessage) × (HasPlace s.ever m
      × (IsPublishedAs c packet m × (m.offset < floor_of s.shard.stored))))))))

abbrev pub AcksAreTold : Profile → Config → World → Type 0
AcksAreTold profile config w =
    (worker : ℕ) (k : Worker) (move : WorkerMove) → HasWorker w worker k → AcksTell profile config w k move

-- ---- commit before the first byte

-- Each entry of which a packet was put out, or is due, is among those that its session was issued, as it is committed.
pub record AreCommitted (k : Worker) : Type 0 where
  pub sent : (note : Note) (e : Entry) (m : PlainSession) → HasPlace k.history note →
      HasPlace (entries_noted note.noted) e → HasPlace k.committed.list m → m.client ≡ note.client →
      m.incarnation ≡ note.incarnation → HasPlace m.issued e
  pub due : (i : Item) (b : Issues) (moment : ℕ) (fresh : Bool) (c : PlainConnection) (m : PlainSession) (e : Entry) →
      HasPlace k.due i → i.answer ≡ Delivers b moment fresh → connection_in k i.connection ≡ Some c →
      HasPlace k.committed.list m → is_bound_to c m ≡ true → HasPlace b.entries e → HasPlace m.issued e
  pub accepted : (i : Item) (c : ConnectFields) (client : List ℕ) (number : ℕ) (rs : List Reply) → HasPlace k.due i →
      i.answer ≡ Accepts c client number rs → number < k.committed.next

abbrev pub AllAreCommitted : World → Type 0
AllAreCommitted w = (worker : ℕ) (k : Worker) → HasWorker w worker k → AreCommitted k

-- What becomes due was due before, and no longer fresh it may be; or its record's changes are committed by this very
-- move; or its group was stored.
abbrev pub ComesFrom : Worker → WorkerMove → Worker → Item → Type 0
ComesFrom k move later i =
    ((j : Item) × (HasPlace k.due j × ((i ≡ j) ⊎ (i ≡ aged_item j))))
    ⊎ (((move ≡ Commit)
    × ((p : PendingRecord)
    × ((k.pending ≡ Some p) × ((p.item ≡ Some i) × (later.committed ≡ act_all k.committed (p.owed ++ p.changes))))))
    ⊎ ((shard : ℕ)
    × ((a : Asker)
    × ((messages : List (Option StoredMessage))
    × ((move ≡ Stored shard a messages)
    × (i ≡ item a.connection (stored_answer (stored_steps shard a.packets messages))))))))

abbrev pub DueComes : Profile → Config → World → Type 0
DueComes profile config w =
    (worker : ℕ) (k : Worker) (move : WorkerMove) (i : Item) → HasWorker w worker k →
    HasPlace (worker_step profile config k move).due i → ComesFrom k move (worker_step profile config k move) i
