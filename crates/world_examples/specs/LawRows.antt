-- The laws of the world, tried on worlds: behind each move of lists that would break them if they were allowed, and
-- behind each line of scripts with crashes, failures, takeovers, and generations that expire.
use Rattle.std.specs.Prelude.{◌≡◌, refl, true, List, ℕ, [], ◌∷◌, ◌++◌, codes, Some}
use Rattle.topic_model.specs.Profile.{whole}
use Rattle.shard_model.specs.Choices.{Choice, Works, Fails, GoesIn, GoesOut}
use Rattle.mqtt_packet.specs.Packet.{Publish, Pingreq}
use Rattle.turn_model.specs.WorkerMoves.{OfItem, OfPacket, OfResend, by_client, with_reason}
use Rattle.turn_model.specs.Records.{OfConnect, OfPackets, OfPump}
use Rattle.world_model.specs.World.{Begin, Store, Show, View, BeginCommit, Commit, SettleJournal, Emit, Bind, TakeOver}
use Rattle.world_model.specs.World.{Unbind, Crash}
use Rattle.world_model.specs.Lines.{script_of}
use Rattle.world_model.specs.Computing.{running}
use Rattle.world_examples.specs.HostileWords.{lines, send, one, two, opens, closes, pumps, acks, connect_a, connect_p}
use Rattle.world_examples.specs.HostileWords.{listening, of_hi, subscribe, at_least_once, exactly_once, works}
use Rattle.world_examples.specs.MoveRows.{both, issues, pumps_out, connect_of, subscribes, again_hi}
use Rattle.world_examples.specs.HostileMoves.{connects, clean_of, issues_one, two_messages, expiring}
use Rattle.world_examples.specs.HostileMoves.{stored_twice_over, released, again_five}
use Rattle.world_examples.specs.LawWords.{hold_along, hold_through}

-- ---- lists of moves

-- a batch is delivered, the client goes and comes again, and it is sent again
delivered_and_sent_again : hold_along whole both
    (pumps_out 0 1 ++ Unbind 0 1 by_client 5 ∷ BeginCommit 0 (OfConnect 3 (connect_of (codes "a"))) 6 ∷ Commit 0
    ∷ Bind 0 3 6 ∷ Emit 0 (OfItem 0) 6 ∷ Emit 0 (OfResend 3) 6 ∷ Emit 0 (OfResend 3) 6 ∷ []) ≡ true
unfolding running
delivered_and_sent_again = refl

-- it is sent again before the CONNACK, and before its record is in: neither is allowed
too_early : hold_along whole both
    (pumps_out 0 1 ++ Unbind 0 1 by_client 5 ∷ BeginCommit 0 (OfConnect 3 (connect_of (codes "a"))) 6
    ∷ Emit 0 (OfResend 3) 6 ∷ Bind 0 3 6 ∷ Commit 0 ∷ Bind 0 3 6 ∷ Emit 0 (OfResend 3) 6 ∷ Emit 0 (OfItem 0) 6
    ∷ Emit 0 (OfResend 3) 6 ∷ []) ≡ true
unfolding running
too_early = refl

-- a batch whose record pends at a crash, and is found to be in, or isn't
in_at_the_crash : hold_along whole both
    (BeginCommit 0 (OfPump 1 (Some (issues 0 1))) 0 ∷ Crash 7 [] (true ∷ []) ∷ connects 3 (connect_of (codes "a"))
    ++ Bind 0 3 8 ∷ Emit 0 (OfItem 0) 8 ∷ Emit 0 (OfResend 3) 8 ∷ []) ≡ true
unfolding running
in_at_the_crash = refl

out_at_the_crash : hold_along whole both
    (BeginCommit 0 (OfPump 1 (Some (issues 0 1))) 0 ∷ Crash 7 [] [] ∷ connects 3 (connect_of (codes "a"))
    ++ Bind 0 3 8 ∷ Emit 0 (OfItem 0) 8 ∷ Emit 0 (OfResend 3) 8
    ∷ BeginCommit 0 (OfPump 3 (Some (issues 0 1))) 9 ∷ Commit 0 ∷ Emit 0 (OfItem 0) 9 ∷ []) ≡ true
unfolding running
out_at_the_crash = refl

-- the old connection ends in between, by whatever move, and two CONNECTs are under way at once
old_one_goes : hold_along whole both
    (connects 3 (connect_of (codes "a")) ++ Unbind 0 1 (with_reason 0x8D) 5 ∷ Bind 0 3 5 ∷ Unbind 0 3 by_client 6 ∷ [])
    ≡ true
unfolding running
old_one_goes = refl

old_one_goes_while_it_pends : hold_along whole both
    (BeginCommit 0 (OfConnect 3 (connect_of (codes "a"))) 0 ∷ Unbind 0 1 by_client 5 ∷ Commit 0 ∷ Bind 0 3 5 ∷ [])
    ≡ true
unfolding running
old_one_goes_while_it_pends = refl

two_at_once : hold_along whole both
    (connects 3 (connect_of (codes "a")) ++ connects 4 (clean_of (codes "a"))
    ++ TakeOver 0 1 ∷ Bind 0 3 0 ∷ Bind 0 4 0 ∷ TakeOver 0 4 ∷ []) ≡ true
unfolding running
two_at_once = refl

two_resume_one : hold_along whole both
    (connects 3 (connect_of (codes "a")) ++ connects 4 (connect_of (codes "a"))
    ++ TakeOver 0 1 ∷ Bind 0 3 0 ∷ Unbind 0 3 by_client 5 ∷ Bind 0 4 6 ∷ []) ≡ true
unfolding running
two_resume_one = refl

-- connections that go before they are bound, and their numbers used again
left_and_used_again : hold_along whole both
    (BeginCommit 0 (OfConnect 3 (connect_of (codes "b"))) 0 ∷ Unbind 0 3 by_client 7 ∷ Commit 0
    ∷ connects 3 (connect_of (codes "b")) ++ Unbind 0 3 by_client 7 ∷ connects 3 (connect_of (codes "c"))
    ++ Bind 0 3 0 ∷ []) ≡ true
unfolding running
left_and_used_again = refl

settled_beside_the_old_one : hold_along whole both
    (BeginCommit 0 (OfConnect 3 (clean_of (codes "a"))) 0 ∷ SettleJournal 0 true 8 ∷ Bind 0 3 8
    ∷ connects 4 (connect_of (codes "a")) ++ TakeOver 0 1 ∷ Bind 0 4 9 ∷ []) ≡ true
unfolding running
settled_beside_the_old_one = refl

-- answers for another binding, and before a CONNACK
for_another_binding : hold_along whole both
    (Begin 0 0 2 (Publish again_hi ∷ []) 0 ∷ connects 3 (connect_of (codes "p")) ++ TakeOver 0 2 ∷ Bind 0 3 0
    ∷ Emit 0 (OfPacket 3 Pingreq []) 0 ∷ Emit 0 (OfItem 0) 0 ∷ Store 0 ∷ Emit 0 (OfItem 0) 0 ∷ []) ≡ true
unfolding running
for_another_binding = refl

-- batches that would overtake one another
one_at_once : hold_along whole two_messages
    (BeginCommit 0 (OfPump 1 (Some (issues_one 0 1))) 0 ∷ Commit 0 ∷ BeginCommit 0 (OfPump 1 (Some (issues_one 1 2))) 0
    ∷ Emit 0 (OfItem 0) 0 ∷ BeginCommit 0 (OfPump 1 (Some (issues_one 1 2))) 0 ∷ Commit 0 ∷ Emit 0 (OfItem 0) 0 ∷ [])
    ≡ true
unfolding running
one_at_once = refl

settled_behind_an_end : hold_along whole both
    (BeginCommit 0 (OfPackets 1 (subscribes ∷ [])) 0 ∷ SettleJournal 0 true 0 ∷ Unbind 0 1 by_client 0
    ∷ SettleJournal 0 true 1 ∷ []) ≡ true
unfolding running
settled_behind_an_end = refl

-- the seconds of a message count down while it is due, and it is sent again with fewer
counted_down : hold_along whole expiring
    (BeginCommit 0 (OfPump 1 (Some (issues 0 1))) 3000 ∷ Commit 0 ∷ Emit 0 (OfItem 0) 9000 ∷ Unbind 0 1 by_client 9000
    ∷ connects 3 (connect_of (codes "a")) ++ Bind 0 3 9500 ∷ Emit 0 (OfItem 0) 9500 ∷ Emit 0 (OfResend 3) 30000 ∷ [])
    ≡ true
unfolding running
counted_down = refl

-- an identifier of QoS 2 is released and used again, over an old view and over a new one
used_again : hold_along whole stored_twice_over
    (View 0 0 ∷ Begin 0 0 2 (released ∷ []) 0 ∷ Store 0 ∷ Emit 0 (OfItem 0) 0 ∷ Emit 0 (OfPacket 2 again_five []) 0
    ∷ Begin 0 0 2 (again_five ∷ []) 0 ∷ Show 0 ∷ View 0 0 ∷ Begin 0 0 2 (again_five ∷ []) 0 ∷ Store 0
    ∷ Emit 0 (OfItem 0) 0 ∷ []) ≡ true
unfolding running
used_again = refl

-- ---- scripts

-- QoS 2 both ways, a generation that is dropped under what is unfinished, a takeover and a crash
over_a_dropped_generation : hold_through whole
    (script_of (lines (codes "set messages 2" ∷ codes "set retention 1000" ∷ listening exactly_once
    ++ send two (of_hi (codes "34") (codes "05")) ∷ send two (of_hi (codes "32") (codes "06")) ∷ pumps one
    ∷ send one (codes "50020002") ∷ send two (of_hi (codes "34") (codes "05")) ∷ send two (codes "62020005")
    ∷ send two (of_hi (codes "34") (codes "05")) ∷ pumps one ∷ codes "tick 1000" ∷ codes "crash 1"
    ∷ opens one ∷ send one connect_a ∷ pumps one ∷ acks one ∷ opens two ∷ send two connect_p
    ∷ send two (of_hi (codes "34") (codes "05")) ∷ codes "tick 2000" ∷ pumps one ∷ opens one ∷ send one connect_a
    ∷ pumps one ∷ acks one ∷ closes one ∷ codes "tick 4000000" ∷ opens one ∷ send one connect_a ∷ [])))
    (works 40) ≡ true
unfolding running
over_a_dropped_generation = refl

-- a record and a group in doubt, each found to be in, and a failure at the mount
in_doubt : hold_through whole
    (script_of (lines (listening at_least_once
    ++ codes "fail 10 1" ∷ codes "fail 2 1" ∷ send two (of_hi (codes "32") (codes "07")) ∷ pumps one
    ∷ send two (of_hi (codes "32") (codes "07")) ∷ pumps one ∷ codes "tick 10" ∷ opens one ∷ send one connect_a
    ∷ pumps one ∷ codes "crash 2" ∷ opens one ∷ send one connect_a ∷ pumps one ∷ acks one ∷ [])))
    (works 5 ++ Fails ∷ GoesIn ∷ Fails ∷ GoesIn ∷ Fails ∷ GoesOut ∷ Fails ∷ GoesIn ∷ Works ∷ GoesIn ∷ []) ≡ true
unfolding running
in_doubt = refl

-- a subscription that is made anew between pumps, and learned topics
resubscribed : hold_through whole
    (script_of (lines (codes "set below 2" ∷ listening at_least_once
    ++ send two (codes "320B0003612F6200070000686968") ∷ send two (of_hi (codes "32") (codes "08")) ∷ pumps one
    ∷ send one (codes "820C0002000006612F2303612F2302") ∷ send one subscribe ∷ pumps one ∷ acks one ∷ closes one
    ∷ send two (of_hi (codes "32") (codes "09")) ∷ opens one ∷ send one connect_a ∷ pumps one ∷ pumps one ∷ acks one
    ∷ [])))
    [] ≡ true
unfolding running
resubscribed = refl
