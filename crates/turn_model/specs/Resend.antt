-- What is sent again on a connection (MQTT 4.4), and what is passed over.
use Rattle.std.specs.Prelude.{ℕ, zero, suc, ◌+◌, ◌-◌, Bool, true, false, ◌&&◌, not, ◌==◌, nat_lt, if◌then◌else◌, List}
use Rattle.std.specs.Prelude.{[], ◌∷◌, ◌++◌, length, map, filter, slice_get, Option, Some, None}
use Rattle.topic_model.specs.Profile.{Profile}
use Rattle.topic_model.specs.StoredMessage.{StoredMessage}
use Rattle.shard_model.specs.ShardList.{ShardList, floor_of, message_at}
use Rattle.session_model.specs.declared.entry.Entry.{Entry}
use Rattle.session_model.specs.declared.entry.Kind.{Kind}
use Rattle.session_model.specs.declared.entry.Kind.TheVariants.{Track2, Silent}
use Rattle.session_model.specs.declared.entry.Version.{Version}
use Rattle.session_model.specs.Entry.{id2, numbers1, numbers2}
use Rattle.session_model.specs.PlainSession.{PlainSession, version_numbered}
use Rattle.session_model.specs.Unfinished.{is_released, unfinished}
use Rattle.session_model.specs.Change.{Change, Passed, change}
use Rattle.mqtt_packet.specs.declared.packet.AckKind.TheVariants.{Pubrel}
use Rattle.mqtt_packet.specs.Packet.{PlainPacket, ack}
use Rattle.turn_model.specs.Delivery.{delivery, delivery_length}
use Rattle.turn_model.specs.PlainConnection.{PlainConnection, is_among, rest_of}
use Rattle.turn_model.specs.Batch.{batch_of_session}

-- ---- where an entry's message is

abbrev pub message_in : ℕ → Option ShardList → Option StoredMessage
message_in offset None = None
message_in offset (Some list) = message_at list offset

-- none below the floor
abbrev pub message_for : List ShardList → Entry → Option StoredMessage
message_for lists e = message_in e.offset (slice_get lists e.shard)

abbrev pub is_below_in : ℕ → Option ShardList → Bool
is_below_in offset None = true
is_below_in offset (Some list) = nat_lt offset (floor_of list)

abbrev pub is_below_floor : List ShardList → Entry → Bool
is_below_floor lists e = is_below_in e.offset (slice_get lists e.shard)

-- ---- at the bind

-- an entry that isn't received and whose message is gone is passed over at once
abbrev pub is_passed_at_bind : PlainSession → List ShardList → Entry → Bool
is_passed_at_bind m lists e = not (is_released m e) && is_below_floor lists e

abbrev pub with_rest : PlainSession → List ShardList → PlainConnection → PlainConnection
with_rest m lists k =
    record k {
      rest = filter (λ (e : Entry). not (is_passed_at_bind m lists e)) (unfinished m);
      passed = filter (λ (e : Entry). is_passed_at_bind m lists e) (unfinished m);
    }

-- ---- what an entry gives

-- PUBREL, where it is received; PUBLISH; or nothing, as it is passed over
pub data Again : Type 0 where
  Releases : PlainPacket → Again
  Publishes : PlainPacket → Again
  Passes : Again

abbrev pub pubrel : Kind → PlainPacket
pubrel (Track2 number) = ack Pubrel (id2 number) 0 []
pubrel other = ack Pubrel 0 0 []

abbrev pub published_again : ℕ → ℕ → Version → StoredMessage → Kind → Again
published_again limit now v w kind =
    if nat_lt limit (delivery_length v w kind) then Passes else Publishes (delivery true now v w kind)

abbrev pub again_with : ℕ → ℕ → Kind → Option Version → Option StoredMessage → Again
again_with limit now kind (Some v) (Some w) = published_again limit now v w kind
again_with limit now kind v w = Passes

abbrev pub again_unless : Bool → PlainSession → ℕ → ℕ → List ShardList → Entry → Again
again_unless true m limit now lists e = Releases (pubrel e.kind)
again_unless false m limit now lists e =
    again_with limit now e.kind (version_numbered e.version m) (message_for lists e)

-- what an unfinished entry gives, for a client that takes so long a packet, at a moment
abbrev pub again : PlainSession → ℕ → ℕ → List ShardList → Entry → Again
again m limit now lists e = again_unless (is_released m e) m limit now lists e

-- ---- entries with their packets

-- the packets of entries of which each has one or none
abbrev pub with_packet : Option PlainPacket → List PlainPacket → List PlainPacket
with_packet None packets = packets
with_packet (Some packet) packets = packet ∷ packets

abbrev pub packets_with : List (Entry × Option PlainPacket) → List PlainPacket
packets_with [] = []
packets_with (x ∷ xs) = with_packet x.1 (packets_with xs)

abbrev pub entries_with : List (Entry × Option PlainPacket) → List Entry
entries_with xs = map (λ (x : Entry × Option PlainPacket). x.0) xs

-- ---- a pump that sends again

-- As it goes on: whether it has stopped, how many entries it may still take, and the quota; what it took, each entry
-- with its packet, or none where it is passed over; those passed over; and what is left.
pub record Resent : Type 0 where
  pub stopped : Bool
  pub room : ℕ
  pub quota : ℕ
  pub taken : List (Entry × Option PlainPacket)
  pub passed : List Entry
  pub rest : List Entry

abbrev pub entry_taken_as : Again → Entry → Resent → Resent
entry_taken_as (Releases packet) e r = record r { room = r.room - 1; taken = r.taken ++ (e, Some packet) ∷ [] }
entry_taken_as (Publishes packet) e r =
    record r { room = r.room - 1; quota = r.quota - 1; taken = r.taken ++ (e, Some packet) ∷ [] }
entry_taken_as Passes e r = record r
    { room = r.room - 1; taken = r.taken ++ (e, None) ∷ []; passed = r.passed ++ e ∷ [] }

-- a PUBLISH for which the quota is 0 stops it
abbrev pub waits_for_quota : ℕ → Again → Bool
waits_for_quota quota (Releases packet) = false
waits_for_quota quota (Publishes packet) = quota == 0
waits_for_quota quota Passes = false

abbrev pub left_in : Entry → Resent → Resent
left_in e r = record r { stopped = true; rest = r.rest ++ e ∷ [] }

abbrev pub entry_taken_if : Bool → Again → Entry → Resent → Resent
entry_taken_if true a e r = entry_taken_as a e r
entry_taken_if false a e r = left_in e r

abbrev pub may_take : Again → Resent → Bool
may_take a r = not r.stopped && (nat_lt 0 r.room && not (waits_for_quota r.quota a))

abbrev pub entry_taken : PlainSession → ℕ → ℕ → List ShardList → Entry → Resent → Resent
entry_taken m limit now lists e r =
    entry_taken_if (may_take (again m limit now lists e) r) (again m limit now lists e) e r

abbrev pub entries_taken : PlainSession → ℕ → ℕ → List ShardList → List Entry → Resent → Resent
entries_taken m limit now lists [] r = r
entries_taken m limit now lists (e ∷ es) r = entries_taken m limit now lists es (entry_taken m limit now lists e r)

-- From the front of what is left: at most a batch of entries, up to the first PUBLISH for which the quota is 0.
abbrev pub resend_of : Profile → ℕ → PlainSession → PlainConnection → List ShardList → Resent
resend_of profile now m k lists =
    entries_taken m k.packet_limit now lists (rest_of m k)
    (record { stopped = false; room = batch_of_session profile m; quota = k.quota; taken = []; passed = []; rest = [] })

-- the connection after that
abbrev pub resent_connection : Resent → PlainConnection → PlainConnection
resent_connection r k = record k { quota = r.quota; rest = r.rest; passed = k.passed ++ r.passed }

-- ---- what was passed over directly above a mark

-- going up from a number as long as the next one is among these
abbrev pub up_from : ℕ → List ℕ → ℕ → ℕ
up_from mark numbers zero = mark
up_from mark numbers (suc more) = up_from (if is_among (mark + 1) numbers then mark + 1 else mark) numbers more

abbrev pub passed1 : PlainSession → PlainConnection → ℕ
passed1 m k = up_from m.acked (numbers1 k.passed) (length k.passed)

abbrev pub passed2 : PlainSession → PlainConnection → ℕ
passed2 m k = up_from m.received (numbers2 k.passed) (length k.passed)

abbrev pub pass_if : Bool → List ℕ → ℕ → ℕ → List Change
pass_if true client track number = change client (Passed (record { track = track; number = number })) ∷ []
pass_if false client track number = []

-- a change for each track that has such entries: they are finished
abbrev pub pass_changes : PlainSession → PlainConnection → List Change
pass_changes m k =
    pass_if (nat_lt m.acked (passed1 m k)) m.client 1 (passed1 m k)
    ++ pass_if (nat_lt m.received (passed2 m k)) m.client 2 (passed2 m k)

-- ---- what is put out for a batch

abbrev pub issued_with : ℕ → Kind → Option Version → Option StoredMessage → Option PlainPacket
issued_with now Silent v w = None
issued_with now kind (Some v) (Some w) = Some (delivery false now v w kind)
issued_with now kind v w = None

-- each entry with its packet, none for a silent one
abbrev pub issued_pairs : ℕ → PlainSession → List ShardList → List Entry → List (Entry × Option PlainPacket)
issued_pairs now m lists [] = []
issued_pairs now m lists (e ∷ es) =
    (e, issued_with now e.kind (version_numbered e.version m) (message_for lists e)) ∷ issued_pairs now m lists es

abbrev pub issued_packets : ℕ → PlainSession → List ShardList → List Entry → List PlainPacket
issued_packets now m lists es = packets_with (issued_pairs now m lists es)
