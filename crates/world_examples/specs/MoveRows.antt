-- Lists of moves that no turn makes: what isn't allowed changes nothing, and nothing goes out that isn't in.
use Rattle.std.specs.Prelude.{ℕ, ◌≡◌, refl, Bool, true, false, List, [], ◌∷◌, ◌++◌, map, codes, slice_get, Option, Some}
use Rattle.std.specs.Prelude.{None}
use Rattle.topic_model.specs.Profile.{whole}
use Rattle.session_model.specs.declared.entry.Kind.TheVariants.{Track1}
use Rattle.session_model.specs.Change.{Change, Issues, Parted, change}
use Rattle.session_model.specs.PlainSession.{PlainSession}
use Rattle.mqtt_props.specs.declared.prop.Prop.TheVariants.{Byte, Two, Four}
use Rattle.mqtt_packet.specs.declared.packet.AckKind.TheVariants.{Puback}
use Rattle.mqtt_packet.specs.declared.packet.Wish.{Wish}
use Rattle.mqtt_packet.specs.Packet.{PlainPacket, Connect, Connack, Publish, Subscribe, ConnectFields, PublishFields}
use Rattle.mqtt_packet.specs.Packet.{ack}
use Rattle.turn_model.specs.PlainConnection.{PlainConnection}
use Rattle.turn_model.specs.Worker.{Worker, Out, Sent, Closed}
use Rattle.turn_model.specs.WorkerMoves.{OfItem, OfPacket}
use Rattle.turn_model.specs.Records.{Cause, OfPackets, OfConnect, OfPump, OfTick, OfOwed}
use Rattle.turn_model.specs.WorkerMoves.{OfResend, by_client}
use Rattle.world_model.specs.World.{World, Move, Begin, Store, Show, View, BeginCommit, Commit, SettleJournal, Emit}
use Rattle.world_model.specs.World.{Bind, TakeOver, Unbind, world_step, world_outs}
use Rattle.world_model.specs.Allowed.{world_allows}
use Rattle.world_model.specs.Lines.{script_of}
use Rattle.world_model.specs.Running.{State, final_state}
use Rattle.world_model.specs.Computing.{running}
use Rattle.world_examples.specs.HostileWords.{lines, send, one, two, opens, listening, at_least_once, of_hi}

-- `a` on connection 1 has a subscription to `a/b`, and `p` on connection 2 has published `hi` to it
abbrev pub both : World
both =
    (final_state whole (script_of (lines (listening at_least_once ++ send two (of_hi (codes "32") (codes "07")) ∷ [])))
    []).world

-- what a list of moves puts out
abbrev pub outs_after : World → List Move → List Out
outs_after w [] = []
outs_after w (move ∷ moves) = world_outs whole w move ++ outs_after (world_step whole w move) moves

abbrev pub world_after : World → List Move → World
world_after w [] = w
world_after w (move ∷ moves) = world_after (world_step whole w move) moves

-- ---- a batch

abbrev pub issues : ℕ → ℕ → Issues
issues offset number =
    record {
      subscription = 1;
      shard = 0;
      entries = record { subscription = 1; version = 1; shard = 0; offset = offset; kind = Track1 number } ∷ [];
      sweep = record { generation = 0; base = 0; target = 1; stream = 0; position = 1 };
    }

abbrev pub pumps_out : ℕ → ℕ → List Move
pumps_out offset number = BeginCommit 0 (OfPump 1 (Some (issues offset number))) 0 ∷ Commit 0 ∷ Emit 0 (OfItem 0) 0 ∷ []

abbrev pub hi : ℕ → PlainPacket
hi id =
    Publish
    (record { dup = false; qos = 1; retain = false; topic = codes "a/b"; id = id; props = []; payload = codes "hi" })

-- the message goes out with the next number, once
right_batch : outs_after both (pumps_out 0 1 ++ Emit 0 (OfItem 0) 0 ∷ []) ≡ Sent 1 (hi 1) ∷ []
unfolding running
right_batch = refl

-- a message that isn't there, a number that isn't the next, and a message that was issued already
wrong_offset : outs_after both (pumps_out 1 1) ≡ []
unfolding running
wrong_offset = refl

wrong_number : outs_after both (pumps_out 0 2) ≡ []
unfolding running
wrong_number = refl

issued_twice : outs_after both (pumps_out 0 1 ++ pumps_out 0 2) ≡ Sent 1 (hi 1) ∷ []
unfolding running
issued_twice = refl

-- a record that isn't in, one that is found to be in by a settle, one behind which a View came, and one whose
-- connection has ended
not_committed : outs_after both (BeginCommit 0 (OfPump 1 (Some (issues 0 1))) 0 ∷ Emit 0 (OfItem 0) 0 ∷ []) ≡ []
unfolding running
not_committed = refl

settled_in : outs_after both
    (BeginCommit 0 (OfPump 1 (Some (issues 0 1))) 0 ∷ SettleJournal 0 true 0 ∷ Emit 0 (OfItem 0) 0 ∷ []) ≡ []
unfolding running
settled_in = refl

aged_by_a_view : outs_after both
    (BeginCommit 0 (OfPump 1 (Some (issues 0 1))) 0 ∷ View 0 0 ∷ Commit 0 ∷ Emit 0 (OfItem 0) 0 ∷ []) ≡ []
unfolding running
aged_by_a_view = refl

ended_before_commit : outs_after both
    (BeginCommit 0 (OfPump 1 (Some (issues 0 1))) 0 ∷ Unbind 0 1 by_client 0 ∷ Commit 0 ∷ Emit 0 (OfItem 0) 0 ∷ []) ≡ []
unfolding running
ended_before_commit = refl

-- ---- a connection's number for another client

abbrev pub connect_of : List ℕ → ConnectFields
connect_of client =
    record {
      clean = false;
      keep_alive = 60;
      props = Four 0x11 3600 ∷ [];
      client = client;
      will = None;
      user =
          None;
      password = None;
    }

abbrev pub accepted_as : Bool → PlainPacket
accepted_as present =
    Connack
    (record
    { present = present; reason = 0; props = Two 0x21 32 ∷ Byte 0x25 0 ∷ Four 0x27 1048576 ∷ Byte 0x2A 0 ∷ [] })

abbrev pub again_hi : PublishFields
again_hi =
    record { dup = false; qos = 1; retain = false; topic = codes "a/b"; id = 9; props = []; payload = codes "hi" }

-- `p` publishes, its connection ends, and `b` comes on that number before the group is in: it is told nothing of it
acknowledged_to_another : outs_after both
    (Begin 0 0 2 (Publish again_hi ∷ []) 0 ∷ Unbind 0 2 by_client 0
    ∷ BeginCommit 0 (OfConnect 2 (connect_of (codes "b"))) 0 ∷ Commit 0 ∷ Bind 0 2 0
    ∷ Emit 0 (OfItem 0) 0 ∷ Store 0 ∷ Emit 0 (OfItem 0) 0 ∷ [])
    ≡ Sent 2 (accepted_as false) ∷ []
unfolding running
acknowledged_to_another = refl

-- while its client is there the group is acknowledged, once
acknowledged_to_its_own : outs_after both
    (Begin 0 0 2 (Publish again_hi ∷ []) 0 ∷ Store 0 ∷ Emit 0 (OfItem 0) 0 ∷ Emit 0 (OfItem 0) 0 ∷ [])
    ≡ Sent 2 (ack Puback 9 0 []) ∷ []
unfolding running
acknowledged_to_its_own = refl

-- and not before it is stored
not_stored : outs_after both (Begin 0 0 2 (Publish again_hi ∷ []) 0 ∷ Emit 0 (OfItem 0) 0 ∷ []) ≡ []
unfolding running
not_stored = refl

-- ---- what asks for no group, and what asks for one

abbrev pub subscribes : PlainPacket
subscribes = Subscribe (record { id = 9; props = []; filters = record { filter = codes "c"; options = 1 } ∷ [] })

-- a SUBSCRIBE begins no group, and is not answered without its record
no_group_of_another_kind : world_allows whole both (Begin 0 0 1 (subscribes ∷ []) 0) ≡ false
unfolding running
no_group_of_another_kind = refl

not_without_its_record : outs_after both (Emit 0 (OfPacket 1 subscribes []) 0 ∷ []) ≡ []
unfolding running
not_without_its_record = refl

-- a publish that is to be stored isn't answered without its group
not_without_its_group : outs_after both (Emit 0 (OfPacket 2 (Publish again_hi) []) 0 ∷ []) ≡ []
unfolding running
not_without_its_group = refl

-- ---- one session and one connection of a client

-- a connection that is bound has no CONNECT's record, and a client that is bound isn't bound again
no_second_record : world_allows whole both (BeginCommit 0 (OfConnect 1 (connect_of (codes "a"))) 0) ≡ false
unfolding running
no_second_record = refl

bound_once : map (λ (k : PlainConnection). k.number)
    (elim
    (slice_get
    (world_after both (BeginCommit 0 (OfConnect 3 (connect_of (codes "a"))) 0 ∷ Commit 0 ∷ Bind 0 3 0 ∷ [])).workers
    0)
    as (λ w. List PlainConnection) [ None ↦ [] | Some w ↦ w.connections ])
    ≡ 1 ∷ 2 ∷ []
unfolding running
bound_once = refl

-- behind the takeover it is
bound_behind_the_takeover : map (λ (k : PlainConnection). k.number)
    (elim
    (slice_get
    (world_after both
    (BeginCommit 0 (OfConnect 3 (connect_of (codes "a"))) 0 ∷ Commit 0 ∷ TakeOver 0 1 ∷ Bind 0 3 0 ∷ [])).workers 0)
    as (λ w. List PlainConnection) [ None ↦ [] | Some w ↦ w.connections ])
    ≡ 2 ∷ 3 ∷ []
unfolding running
bound_behind_the_takeover = refl

-- no takeover without a CONNECT of that client
no_takeover_of_itself : world_allows whole both (TakeOver 0 1) ≡ false
unfolding running
no_takeover_of_itself = refl

-- ---- owed changes

abbrev pub owed_in : World → List Change
owed_in w = elim (slice_get w.workers 0) as (λ k. List Change) [ None ↦ [] | Some k ↦ k.owed ]

abbrev pub parted_a : Change
parted_a = change (codes "a") (Parted (record { expiry = 3600; moment = 5 }))

-- they stay owed until a record with them is in
owed_until_it_is_in : owed_in (world_after both (Unbind 0 1 by_client 5 ∷ BeginCommit 0 OfTick 5
    ∷ BeginCommit 0 OfOwed 5 ∷ SettleJournal 0 false 5 ∷ [])) ≡ parted_a ∷ []
unfolding running
owed_until_it_is_in = refl

owed_no_more : owed_in (world_after both (Unbind 0 1 by_client 5 ∷ BeginCommit 0 (OfPackets 2 (subscribes ∷ [])) 5
    ∷ Commit 0 ∷ [])) ≡ []
unfolding running
owed_no_more = refl

-- what comes to be owed while a record pends is owed behind it
owed_meanwhile : owed_in
    (world_after both (BeginCommit 0 (OfPackets 2 (subscribes ∷ [])) 5 ∷ Unbind 0 1 by_client 5 ∷ Commit 0 ∷ []))
    ≡ parted_a ∷ []
unfolding running
owed_meanwhile = refl
