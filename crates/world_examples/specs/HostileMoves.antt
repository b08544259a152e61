-- Lists of moves that would break a promise if they were allowed: takeovers and ends in between, two CONNECTs of one
-- client, answers before CONNACK, batches that overtake one another, answers for another binding.
use Rattle.std.specs.Prelude.{ℕ, ◌+◌, ◌≡◌, refl, Bool, true, false, List, [], ◌∷◌, ◌++◌, map, replicate, codes}
use Rattle.std.specs.Prelude.{slice_get, Option, Some, None}
use Rattle.topic_model.specs.Profile.{Profile, Config, whole, default_config}
use Rattle.shard_model.specs.Choices.{Fates, Fails, Works}
use Rattle.shard_model.specs.ShardList.{ShardList, opening_list}
use Rattle.session_model.specs.declared.entry.Kind.TheVariants.{Track1}
use Rattle.session_model.specs.Change.{Change, Issues, Parted, change}
use Rattle.mqtt_props.specs.declared.prop.Prop.TheVariants.{Four}
use Rattle.mqtt_packet.specs.declared.packet.AckKind.TheVariants.{Pubrec, Pubrel, Pubcomp}
use Rattle.mqtt_packet.specs.Packet.{PlainPacket, Publish, Subscribe, Disconnect, Pingreq, Pingresp, ConnectFields, ack}
use Rattle.turn_model.specs.PlainConnection.{PlainConnection}
use Rattle.turn_model.specs.Step.{IsFull}
use Rattle.turn_model.specs.Worker.{Worker, Sent, Closed, opening_worker}
use Rattle.turn_model.specs.WorkerMoves.{OfItem, OfPacket, OfResend, by_client}
use Rattle.turn_model.specs.Records.{OfPackets, OfConnect, OfPump}
use Rattle.turn_model.specs.WorkerMoves.{with_reason}
use Rattle.turn_model.specs.WorkerMoves as Workers
use Rattle.turn_model.specs.Draft.{Beside, Part, Pump, Tick, Done, no_report}
use Rattle.turn_model.specs.Parts.{DropFailed, start_part, resume_part}
use Rattle.world_model.specs.World.{World, Move, Begin, Store, Show, View, BeginCommit, Commit, SettleJournal, Emit}
use Rattle.world_model.specs.World.{Bind, TakeOver, Unbind, opening_world, world_step}
use Rattle.world_model.specs.Allowed.{world_allows}
use Rattle.world_model.specs.Lines.{script_of}
use Rattle.world_model.specs.Running.{final_state, text_of_script}
use Rattle.world_model.specs.Computing.{running}
use Rattle.world_examples.specs.HostileWords.{lines, send, one, two, opens, gets, ended, accepted, connect_a, listening}
use Rattle.world_examples.specs.HostileWords.{at_least_once, exactly_once, of_hi}
use Rattle.world_examples.specs.MoveRows.{both, outs_after, world_after, issues, pumps_out, hi, connect_of, accepted_as}
use Rattle.world_examples.specs.MoveRows.{again_hi, subscribes, owed_in, parted_a}

-- ---- what is looked at

abbrev worker_in : World → ℕ → List Worker
worker_in w place = elim (slice_get w.workers place) as (λ k. List Worker) [ None ↦ [] | Some k ↦ k ∷ [] ]

abbrev numbers_of : List Worker → List ℕ
numbers_of [] = []
numbers_of (w ∷ ws) = map (λ (k : PlainConnection). k.number) w.connections ++ numbers_of ws

-- the numbers of the connections that are bound
abbrev bound_in : World → List ℕ
bound_in w = numbers_of (worker_in w 0)

abbrev parted_of : List ℕ → ℕ → Change
parted_of client moment = change client (Parted (record { expiry = 3600; moment = moment }))

-- a CONNECT's record that goes in
abbrev pub connects : ℕ → ConnectFields → List Move
connects conn c = BeginCommit 0 (OfConnect conn c) 0 ∷ Commit 0 ∷ []

-- ---- first: what is sent again

-- a delivery leaves nothing to be sent again behind it
nothing_again_behind_a_delivery : world_allows whole (world_after both (pumps_out 0 1)) (Emit 0 (OfResend 1) 0) ≡ false
unfolding running
nothing_again_behind_a_delivery = refl

-- nor is there anything on a connection that has nothing left
nothing_left_is_sent : world_allows whole both (Emit 0 (OfResend 1) 0) ≡ false
unfolding running
nothing_left_is_sent = refl

-- ---- the old connection goes between a CONNECT's record and its Bind

-- a takeover owes nothing, by whatever move the old connection goes
old_one_ends : owed_in
    (world_after both (connects 3 (connect_of (codes "a")) ++ Unbind 0 1 by_client 5 ∷ Bind 0 3 5 ∷ [])) ≡ []
unfolding running
old_one_ends = refl

old_one_timed_out : owed_in (world_after both
    (connects 3 (connect_of (codes "a")) ++ Unbind 0 1 (with_reason 0x8D) 5 ∷ Bind 0 3 5 ∷ [])) ≡ []
unfolding running
old_one_timed_out = refl

-- while the record pends its end is owed, and no more once the record is in
old_one_ends_while_it_pends : owed_in (world_after both
    (BeginCommit 0 (OfConnect 3 (connect_of (codes "a"))) 0 ∷ Unbind 0 1 by_client 5 ∷ Commit 0 ∷ Bind 0 3 5 ∷ [])) ≡ []
unfolding running
old_one_ends_while_it_pends = refl

-- ---- two CONNECTs of one client under way at once

abbrev pub clean_of : List ℕ → ConnectFields
clean_of client =
    record {
      clean = true;
      keep_alive = 60;
      props = Four 0x11 3600 ∷ [];
      client = client;
      will = None;
      user =
          None;
      password = None;
    }

-- the second one began a new session: the first one's is gone, and it isn't bound to the new one
bound_to_its_own_session : bound_in (world_after both
    (connects 3 (connect_of (codes "a")) ++ connects 4 (clean_of (codes "a"))
    ++ TakeOver 0 1 ∷ Bind 0 3 0 ∷ Bind 0 4 0 ∷ []))
    ≡ 2 ∷ 4 ∷ []
unfolding running
bound_to_its_own_session = refl

-- nor does it take over the connection of the new session, which would have nobody then
no_takeover_for_a_session_that_is_gone : world_allows whole
    (world_after both
    (connects 3 (connect_of (codes "a")) ++ connects 4 (clean_of (codes "a")) ++ TakeOver 0 1 ∷ Bind 0 4 0 ∷ []))
    (TakeOver 0 4) ≡ false
unfolding running
no_takeover_for_a_session_that_is_gone = refl

-- both resume one session: the one that is bound last takes over from the other, and nothing is owed
one_session_two_connects : owed_in (world_after both
    (connects 3 (connect_of (codes "a")) ++ connects 4 (connect_of (codes "a"))
    ++ TakeOver 0 1 ∷ Bind 0 3 0 ∷ Unbind 0 3 by_client 5 ∷ Bind 0 4 6 ∷ [])) ≡ []
unfolding running
one_session_two_connects = refl

-- ---- sessions that nobody attends part

-- a CONNECT whose connection goes while its record pends
left_while_it_pends : owed_in (world_after both
    (BeginCommit 0 (OfConnect 3 (connect_of (codes "b"))) 0 ∷ Unbind 0 3 by_client 7 ∷ Commit 0 ∷ []))
    ≡ parted_of (codes "b") 7 ∷ []
unfolding running
left_while_it_pends = refl

-- and one whose connection goes before its Bind: it is dropped, and its number used again
left_before_its_bind : owed_in (world_after both (connects 3 (connect_of (codes "b")) ++ Unbind 0 3 by_client 7 ∷ []))
    ≡ parted_of (codes "b") 7 ∷ []
unfolding running
left_before_its_bind = refl

number_used_again : bound_in (world_after both
    (connects 3 (connect_of (codes "b")) ++ Unbind 0 3 by_client 7 ∷ connects 3 (connect_of (codes "c"))
    ++ Bind 0 3 0 ∷ []))
    ≡ 1 ∷ 2 ∷ 3 ∷ []
unfolding running
number_used_again = refl

-- a new session of `a` is found to be in: the connection of the one before it isn't its own
settled_in_beside_the_old_one : owed_in (world_after both
    (BeginCommit 0 (OfConnect 3 (clean_of (codes "a"))) 0 ∷ SettleJournal 0 true 8 ∷ [])) ≡ parted_of (codes "a") 8 ∷ []
unfolding running
settled_in_beside_the_old_one = refl

-- ---- a CONNECT goes to its own worker

abbrev two_workers : World
two_workers = opening_world (record default_config { workers = 2 })

-- `a` goes to worker 1
not_at_another_worker : world_allows whole two_workers (BeginCommit 0 (OfConnect 3 (connect_of (codes "a"))) 0) ≡ false
unfolding running
not_at_another_worker = refl

at_its_own_worker : world_allows whole two_workers (BeginCommit 1 (OfConnect 3 (connect_of (codes "a"))) 0) ≡ true
unfolding running
at_its_own_worker = refl

-- an assigned identifier leads home
assigned_at_either : map
    (λ (worker : ℕ). world_allows whole two_workers (BeginCommit worker (OfConnect 3 (connect_of [])) 0)) (0 ∷ 1 ∷ [])
    ≡ true ∷ true ∷ []
unfolding running
assigned_at_either = refl

-- ---- records

abbrev wish : List ℕ → ℕ → PlainPacket
wish filter id = Subscribe (record { id = id; props = []; filters = record { filter = filter; options = 1 } ∷ [] })

abbrev two_wishes : PlainPacket
two_wishes =
    Subscribe (record {
      id = 9;
      props = [];
      filters = record { filter = codes "c"; options = 1 } ∷ record { filter = codes "d"; options = 1 } ∷ [];
    })

-- with room for one change in a record, two packets don't go into one, and the two changes of one packet do
several_packets_within_the_limit : world_allows (record whole { changes = 1 }) both
    (BeginCommit 0 (OfPackets 1 (wish (codes "c") 8 ∷ wish (codes "d") 9 ∷ [])) 0) ≡ false
unfolding running
several_packets_within_the_limit = refl

one_packet_stays_together : world_allows (record whole { changes = 1 }) both
    (BeginCommit 0 (OfPackets 1 (two_wishes ∷ [])) 0) ≡ true
unfolding running
one_packet_stays_together = refl

-- ---- answers

-- a refused group answers what asked for one, and nothing else
refused_for_nothing : world_allows whole both (Emit 0 (OfPacket 1 Pingreq (IsFull ∷ [])) 0) ≡ false
unfolding running
refused_for_nothing = refl

refused_for_a_publish : world_allows whole both (Emit 0 (OfPacket 2 (Publish again_hi) (IsFull ∷ [])) 0) ≡ true
unfolding running
refused_for_a_publish = refl

-- nothing comes before CONNACK, and behind it an answer does
not_before_connack : outs_after both
    (connects 3 (connect_of (codes "b")) ++ Bind 0 3 0 ∷ Emit 0 (OfPacket 3 Pingreq []) 0 ∷ Emit 0 (OfItem 0) 0
    ∷ Emit 0 (OfPacket 3 Pingreq []) 0 ∷ [])
    ≡ Sent 3 (accepted_as false) ∷ Sent 3 Pingresp ∷ []
unfolding running
not_before_connack = refl

-- a connection that ends before its CONNACK is told nothing
no_farewell_before_connack : outs_after both
    (connects 3 (connect_of (codes "b")) ++ Bind 0 3 0 ∷ Unbind 0 3 (with_reason 0x8D) 0 ∷ []) ≡ Closed 3 ∷ []
unfolding running
no_farewell_before_connack = refl

abbrev taken_over_packet : PlainPacket
taken_over_packet = Disconnect (record { reason = 0x8E; props = [] })

-- the answer of a group goes to the very binding that asked: not to the same client on the same number
acknowledged_to_another_binding : outs_after both
    (Begin 0 0 2 (Publish again_hi ∷ []) 0 ∷ connects 3 (connect_of (codes "p"))
    ++ TakeOver 0 2 ∷ Bind 0 3 0 ∷ Emit 0 (OfItem 0) 0
    ∷ connects 2 (connect_of (codes "p")) ++ TakeOver 0 3 ∷ Bind 0 2 0 ∷ Emit 0 (OfItem 0) 0
    ∷ Store 0 ∷ Emit 0 (OfItem 0) 0 ∷ [])
    ≡ Sent 2 taken_over_packet ∷ Closed 2 ∷ Sent 3 (accepted_as true) ∷ Sent 3 taken_over_packet ∷ Closed 3
    ∷ Sent 2 (accepted_as true) ∷ []
unfolding running
acknowledged_to_another_binding = refl

-- ---- batches

-- nothing is bound, and no record of a bound connection settled, while one pends
no_bind_while_one_pends : world_allows whole
    (world_after both (connects 3 (connect_of (codes "b")) ++ BeginCommit 0 (OfPackets 1 (subscribes ∷ [])) 0 ∷ []))
    (Bind 0 3 0)
    ≡ false
unfolding running
no_bind_while_one_pends = refl

not_settled_while_bound : world_allows whole (world_after both (BeginCommit 0 (OfPackets 1 (subscribes ∷ [])) 0 ∷ []))
    (SettleJournal 0 true 0) ≡ false
unfolding running
not_settled_while_bound = refl

settled_behind_its_end : world_allows whole
    (world_after both (BeginCommit 0 (OfPackets 1 (subscribes ∷ [])) 0 ∷ Unbind 0 1 by_client 0 ∷ []))
    (SettleJournal 0 true 0)
    ≡ true
unfolding running
settled_behind_its_end = refl

-- two messages are there: the second isn't issued before the first is put out
abbrev pub two_messages : World
two_messages =
    (final_state whole (script_of (lines (listening at_least_once ++ send two (of_hi (codes "32") (codes "07"))
    ∷ send two (of_hi (codes "32") (codes "08")) ∷ []))) []).world

abbrev pub issues_one : ℕ → ℕ → Issues
issues_one offset number =
    record (issues offset number)
    { sweep = record { generation = 0; base = 0; target = 2; stream = 0; position = offset + 1 } }

one_batch_at_once : world_allows whole
    (world_after two_messages (BeginCommit 0 (OfPump 1 (Some (issues_one 0 1))) 0 ∷ Commit 0 ∷ []))
    (BeginCommit 0 (OfPump 1 (Some (issues_one 1 2))) 0) ≡ false
unfolding running
one_batch_at_once = refl

the_next_batch_behind_it : world_allows whole
    (world_after two_messages
    (BeginCommit 0 (OfPump 1 (Some (issues_one 0 1))) 0 ∷ Commit 0 ∷ Emit 0 (OfItem 0) 0 ∷ []))
    (BeginCommit 0 (OfPump 1 (Some (issues_one 1 2))) 0) ≡ true
unfolding running
the_next_batch_behind_it = refl

-- a message that expires in 10 seconds goes out with what it had left at the moment of its record
abbrev pub expiring : World
expiring =
    (final_state whole
    (script_of (lines (listening at_least_once ++ send two (codes "320F0003612F62000705020000000A6869") ∷ [])))
    []).world

at_the_moment_of_its_record : outs_after expiring
    (BeginCommit 0 (OfPump 1 (Some (issues 0 1))) 3000 ∷ Commit 0 ∷ Emit 0 (OfItem 0) 9000 ∷ [])
    ≡ Sent 1 (Publish (record {
      dup = false;
      qos = 1;
      retain = false;
      topic = codes "a/b";
      id = 1;
      props = Four 0x02 7 ∷ [];
      payload = codes "hi";
    })) ∷ []
unfolding running
at_the_moment_of_its_record = refl

-- ---- a repeat behind a Release that isn't seen yet

-- `p` has published with QoS 2 and identifier 5
abbrev pub stored_twice_over : World
stored_twice_over =
    (final_state whole (script_of (lines (listening exactly_once ++ send two (of_hi (codes "34") (codes "05")) ∷ [])))
    []).world

abbrev pub released : PlainPacket
released = ack Pubrel 5 0 []

abbrev pub again_five : PlainPacket
again_five =
    Publish
    (record { dup = false; qos = 2; retain = false; topic = codes "a/b"; id = 5; props = []; payload = codes "ho" })

-- its identifier is released: a new message with it isn't acknowledged for the old one, though the view still awaits it
no_answer_over_an_old_view : outs_after stored_twice_over
    (View 0 0 ∷ Begin 0 0 2 (released ∷ []) 0 ∷ Store 0 ∷ Emit 0 (OfItem 0) 0 ∷ Emit 0 (OfPacket 2 again_five []) 0
    ∷ [])
    ≡ Sent 2 (ack Pubcomp 5 0 []) ∷ []
unfolding running
no_answer_over_an_old_view = refl

-- behind a view it asks for a group of its own
stored_behind_a_view : outs_after stored_twice_over
    (View 0 0 ∷ Begin 0 0 2 (released ∷ []) 0 ∷ Store 0 ∷ Emit 0 (OfItem 0) 0 ∷ Show 0 ∷ View 0 0
    ∷ Begin 0 0 2 (again_five ∷ []) 0 ∷ Store 0 ∷ Emit 0 (OfItem 0) 0 ∷ [])
    ≡ Sent 2 (ack Pubcomp 5 0 []) ∷ Sent 2 (ack Pubrec 5 0 []) ∷ []
unfolding running
stored_behind_a_view = refl

-- ---- turns

abbrev no_beside : Beside
no_beside = record { readings = []; last = 0 }

abbrev two_shards : Config
two_shards = record default_config { shards = 2 }

abbrev tick_worker : Worker
tick_worker = opening_worker 0 (replicate 2 (opening_list two_shards))

abbrev views : List ShardList
views = replicate 2 (opening_list two_shards)

abbrev none_armed : Fates
none_armed = record { choices = []; armed = 0 }

abbrev first_part : Part
first_part = start_part whole two_shards tick_worker no_beside Tick 0 views none_armed

abbrev second_part : Part
second_part = resume_part whole two_shards tick_worker first_part.beside first_part.todo 0 DropFailed views none_armed

abbrev third_part : Part
third_part = resume_part whole two_shards tick_worker second_part.beside second_part.todo 1 DropFailed views none_armed

-- of two drops that failed the first one is reported
the_first_fault : third_part.next ≡ Done (record no_report { shard_fault = Some 0 })
unfolding running
the_first_fault = refl

-- a worker whose journal is in doubt
abbrev doubtful : Worker
doubtful = record tick_worker { pending = Some (record { owed = []; changes = []; item = None; left = None }) }

-- a connection that isn't open is pumped: two views, and nothing is settled
nothing_settled_for_nobody : (start_part whole two_shards doubtful no_beside (Pump 9) 0 views none_armed).moves
    ≡ Workers.View 0 (opening_list two_shards) ∷ Workers.View 1 (opening_list two_shards) ∷ []
unfolding running
nothing_settled_for_nobody = refl

-- ---- lines

-- a CONNECT with an Authentication Method, of a client that takes packets of at most four bytes, and of one that takes
-- five
refused_without_a_word : text_of_script whole (lines (opens one
    ∷ send one (codes "101700044D5154540500003C0927000000041500017800" ++ codes "0161") ∷ [])) []
    ≡ lines (ended one ∷ [])
unfolding running
refused_without_a_word = refl

refused_in_five_bytes : text_of_script whole (lines (opens one
    ∷ send one (codes "101700044D5154540500003C0927000000051500017800" ++ codes "0161") ∷ [])) []
    ≡ lines (gets one (codes "2003008C00") ∷ ended one ∷ [])
unfolding running
refused_in_five_bytes = refl

-- the mount behind a crash meets the failure that was armed: no record meets it again
met_by_the_mount : text_of_script whole
    (lines (codes "fail 10 1" ∷ codes "crash 1" ∷ opens one ∷ send one connect_a ∷ []))
    (Fails ∷ Fails ∷ []) ≡ lines (codes "crashed" ∷ gets one accepted ∷ [])
unfolding running
met_by_the_mount = refl

-- where the mount doesn't meet it, a record may
met_behind_the_mount : text_of_script whole
    (lines (codes "fail 10 9" ∷ codes "crash 1" ∷ opens one ∷ send one connect_a ∷ []))
    (Works ∷ Fails ∷ []) ≡ lines (codes "crashed" ∷ gets one (codes "2003008300") ∷ ended one ∷ [])
unfolding running
met_behind_the_mount = refl
