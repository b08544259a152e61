-- Crashes between the steps of an exchange: what is sent again, what is stored once, since when intervals count.
use Rattle.std.specs.Prelude.{◌≡◌, refl, [], ◌∷◌, ◌++◌, codes}
use Rattle.topic_model.specs.Profile.{whole}
use Rattle.shard_model.specs.Choices.{Fails, GoesIn, GoesOut}
use Rattle.world_model.specs.Running.{text_of_script}
use Rattle.world_model.specs.Computing.{running}
use Rattle.world_examples.specs.HostileWords.{accepted_holding, resumed_holding, lines, one, two, three, opens, closes}
use Rattle.world_examples.specs.HostileWords.{pumps, acks, send, gets, ended}
use Rattle.world_examples.specs.HostileWords.{connect_a, connect_p, accepted, resumed, of_hi, at_least_once}
use Rattle.world_examples.specs.HostileWords.{exactly_once, listening, heard, works}

-- what was received before the crash goes on with PUBREL, what was not with PUBLISH, in the old order
between_received_and_done : text_of_script whole
    (lines (listening exactly_once ++ send two (of_hi (codes "34") (codes "05"))
    ∷ send two (of_hi (codes "34") (codes "06")) ∷ pumps one ∷ send one (codes "50020002") ∷ codes "crash 0" ∷ opens one
    ∷ send one connect_a
    ∷ pumps one ∷ send one (codes "70020002") ∷ send one (codes "50020004") ∷ [])) []
    ≡ lines
    (heard exactly_once ++ gets two (codes "50020005") ∷ gets two (codes "50020006")
    ∷ gets one (of_hi (codes "34") (codes "02"))
    ∷ gets one (of_hi (codes "34") (codes "04")) ∷ gets one (codes "62020002") ∷ codes "crashed" ∷ gets one resumed
    ∷ gets one (codes "62020002")
    ∷ gets one (of_hi (codes "3C") (codes "04")) ∷ gets one (codes "62020004") ∷ [])
unfolding running
between_received_and_done = refl

-- a PUBCOMP after the crash, before the PUBREL was sent again, is in order
completed_before_the_pump : text_of_script whole
    (lines (listening exactly_once ++ send two (of_hi (codes "34") (codes "05")) ∷ pumps one
    ∷ send one (codes "50020002") ∷ codes "crash 2" ∷ opens one ∷ send one connect_a ∷ send one (codes "70020002")
    ∷ pumps one ∷ [])) []
    ≡ lines
    (heard exactly_once ++ gets two (codes "50020005") ∷ gets one (of_hi (codes "34") (codes "02"))
    ∷ gets one (codes "62020002")
    ∷ codes "crashed" ∷ gets one resumed ∷ [])
unfolding running
completed_before_the_pump = refl

-- a publish of QoS 2 that is repeated over a crash is delivered once
repeated_over_a_crash : text_of_script whole
    (lines (listening exactly_once ++ send two (of_hi (codes "34") (codes "05")) ∷ codes "crash 3"
    ∷ opens one ∷ send one connect_a ∷ opens two ∷ send two connect_p ∷ send two (of_hi (codes "3C") (codes "05"))
    ∷ send two (codes "62020005")
    ∷ pumps one ∷ pumps one ∷ [])) []
    ≡ lines (heard exactly_once ++ gets two (codes "50020005") ∷ codes "crashed" ∷ gets one resumed ∷ gets two resumed
    ∷ gets two (codes "50020005") ∷ gets two (codes "70020005") ∷ gets one (of_hi (codes "34") (codes "02")) ∷ [])
unfolding running
repeated_over_a_crash = refl

-- PUBREL alone releases after a crash; then the same identifier is a new message
released_after_a_crash : text_of_script whole
    (lines (opens one ∷ send one connect_p ∷ send one (of_hi (codes "34") (codes "05"))
    ∷ codes "crash 4" ∷ opens one ∷ send one connect_p ∷ send one (codes "62020005")
    ∷ send one (of_hi (codes "34") (codes "05")) ∷ codes "look"
    ∷ [])) []
    ≡ lines
    (gets one accepted ∷ gets one (codes "50020005") ∷ codes "crashed" ∷ gets one resumed
    ∷ gets one (codes "70020005")
    ∷ gets one (codes "50020005") ∷ codes "shard 0 floor 0 next 2 awaiting 1"
    ∷ codes " generation 0 first 0 next 2 streams 1"
    ∷ codes "  stream 0 a/b count 2" ∷ codes "worker 0" ∷ codes " session p subs 0 unfinished 0" ∷ [])
unfolding running
released_after_a_crash = refl

-- what was acknowledged does not come again, whatever the images are
acknowledged_before_a_crash : text_of_script whole
    (lines (listening at_least_once ++ send two (of_hi (codes "32") (codes "07"))
    ∷ send two (of_hi (codes "32") (codes "08")) ∷ pumps one ∷ send one (codes "40020001") ∷ codes "crash 0"
    ∷ codes "crash 4" ∷ codes "crash 2"
    ∷ opens one ∷ send one connect_a ∷ pumps one ∷ [])) []
    ≡ lines
    (heard at_least_once ++ gets two (codes "40020007") ∷ gets two (codes "40020008")
    ∷ gets one (of_hi (codes "32") (codes "01"))
    ∷ gets one (of_hi (codes "32") (codes "03")) ∷ codes "crashed" ∷ codes "crashed" ∷ codes "crashed"
    ∷ gets one resumed
    ∷ gets one (of_hi (codes "3A") (codes "03")) ∷ [])
unfolding running
acknowledged_before_a_crash = refl

-- what waited over two crashes is issued as new
waiting_over_a_crash : text_of_script whole
    (lines (listening at_least_once ++ send two (of_hi (codes "32") (codes "07")) ∷ codes "crash 3"
    ∷ codes "crash 1" ∷ opens one ∷ send one connect_a ∷ pumps one ∷ [])) []
    ≡ lines (heard at_least_once ++ gets two (codes "40020007") ∷ codes "crashed" ∷ codes "crashed" ∷ gets one resumed
    ∷ gets one (of_hi (codes "32") (codes "01")) ∷ [])
unfolding running
waiting_over_a_crash = refl

-- a session with interval 0 is gone after a crash
interval_zero_over_a_crash : text_of_script whole
    (lines (opens one ∷ send one (codes "100E00044D5154540500003C00000161") ∷ codes "crash 1"
    ∷ opens one ∷ send one connect_a ∷ [])) []
    ≡ lines (gets one accepted ∷ codes "crashed" ∷ gets one accepted ∷ [])
unfolding running
interval_zero_over_a_crash = refl

-- a session that had a connection counts from the restart
counts_from_the_restart : text_of_script whole
    (lines (opens one ∷ send one (codes "101300044D5154540500003C051100000001000161")
    ∷ codes "tick 500" ∷ codes "crash 1" ∷ codes "tick 999" ∷ opens one
    ∷ send one (codes "101300044D5154540500003C051100000001000161")
    ∷ codes "crash 1" ∷ codes "tick 1000" ∷ opens one ∷ send one (codes "101300044D5154540500003C051100000001000161")
    ∷ [])) []
    ≡ lines (gets one accepted ∷ codes "crashed" ∷ gets one resumed ∷ codes "crashed" ∷ gets one accepted ∷ [])
unfolding running
counts_from_the_restart = refl

-- where nothing was committed since its connection ended, a session counts from the restart too
end_not_committed : text_of_script whole
    (lines (opens one ∷ send one (codes "101300044D5154540500003C051100000001000161") ∷ closes one
    ∷ codes "tick 500" ∷ codes "crash 1" ∷ codes "tick 500" ∷ opens one
    ∷ send one (codes "101300044D5154540500003C051100000001000161") ∷ [])) []
    ≡ lines (gets one accepted ∷ codes "crashed" ∷ gets one resumed ∷ [])
unfolding running
end_not_committed = refl

-- where a later record carried the end of the connection, it counts from that end
end_committed : text_of_script whole
    (lines (opens one ∷ send one (codes "101300044D5154540500003C051100000001000161") ∷ closes one ∷ opens two
    ∷ send two connect_p ∷ codes "tick 500" ∷ codes "crash 1" ∷ codes "tick 500" ∷ opens one
    ∷ send one (codes "101300044D5154540500003C051100000001000161") ∷ [])) []
    ≡ lines (gets one accepted ∷ gets two accepted ∷ codes "crashed" ∷ gets one accepted ∷ [])
unfolding running
end_committed = refl

-- after a crash the lines of an old connection do nothing, and no takeover is seen
connections_are_gone : text_of_script whole
    (lines (listening at_least_once ++ send two (of_hi (codes "32") (codes "07")) ∷ codes "crash 1"
    ∷ pumps one ∷ send one (codes "C000") ∷ send two (of_hi (codes "32") (codes "08")) ∷ acks one ∷ opens three
    ∷ send three connect_a
    ∷ pumps three ∷ [])) []
    ≡ lines (heard at_least_once ++ gets two (codes "40020007") ∷ codes "crashed" ∷ gets three resumed
    ∷ gets three (of_hi (codes "32") (codes "01")) ∷ [])
unfolding running
connections_are_gone = refl

-- half a CONNECT is lost in a crash
lobby_over_a_crash : text_of_script whole (lines (opens one ∷ send one (codes "101300044D51") ∷ codes "crash 1"
    ∷ send one (codes "54540500003C051100000E10000161") ∷ opens one ∷ send one connect_a ∷ [])) []
    ≡ lines (codes "crashed" ∷ gets one accepted ∷ [])
unfolding running
lobby_over_a_crash = refl

-- the numbers of assigned identifiers go on after a crash
assigned_after_a_crash : text_of_script whole
    (lines (opens one ∷ send one (codes "100D00044D5154540500003C000000") ∷ codes "crash 1" ∷ opens one
    ∷ send one (codes "100D00044D5154540500003C000000") ∷ [])) []
    ≡ lines (gets one (codes "201B0000181200096175746F2D30302D31210020250027001000002A00") ∷ codes "crashed"
    ∷ gets one (codes "201B0000181200096175746F2D30302D32210020250027001000002A00") ∷ [])
unfolding running
assigned_after_a_crash = refl

-- awaited identifiers last over a crash, held ones do not: the connection may take one more
held_after_a_crash : text_of_script (record whole { held = 1 }) (lines (opens one ∷ send one connect_p
    ∷ send one (of_hi (codes "34") (codes "05")) ∷ codes "crash 1" ∷ opens one ∷ send one connect_p
    ∷ send one (of_hi (codes "34") (codes "06"))
    ∷ [])) []
    ≡ lines
    (gets one (accepted_holding (codes "0001")) ∷ gets one (codes "50020005") ∷ codes "crashed"
    ∷ gets one (resumed_holding (codes "0001")) ∷ gets one (codes "50020006") ∷ [])
unfolding running
held_after_a_crash = refl

-- a group in doubt may go in at a crash: its message is delivered although it was not acknowledged
group_goes_in_at_the_crash : text_of_script whole
    (lines (listening at_least_once ++ codes "fail 2 4" ∷ send two (of_hi (codes "32") (codes "07"))
    ∷ codes "crash 1" ∷ opens one ∷ send one connect_a ∷ pumps one ∷ [])) (works 3 ++ Fails ∷ GoesIn ∷ [])
    ≡ lines (heard at_least_once ++ gets two (codes "E00183") ∷ ended two ∷ codes "crashed" ∷ gets one resumed
    ∷ gets one (of_hi (codes "32") (codes "01")) ∷ [])
unfolding running
group_goes_in_at_the_crash = refl

-- a group in doubt that goes out at a crash was never there
group_goes_out_at_the_crash : text_of_script whole (lines (listening at_least_once ++ codes "fail 2 4"
    ∷ send two (of_hi (codes "32") (codes "07")) ∷ codes "crash 0" ∷ opens one ∷ send one connect_a ∷ pumps one ∷ []))
    (works 3 ++ Fails ∷ GoesOut
    ∷ [])
    ≡ lines (heard at_least_once ++ gets two (codes "E00183") ∷ ended two ∷ codes "crashed" ∷ gets one resumed ∷ [])
unfolding running
group_goes_out_at_the_crash = refl

-- where both pend at a crash, the shard is asked first: here its group goes out and the record of the pump goes in
shards_before_workers : text_of_script whole
    (lines (listening at_least_once ++ send two (of_hi (codes "32") (codes "07")) ∷ codes "fail 2 1"
    ∷ send two (of_hi (codes "32") (codes "08")) ∷ codes "fail 10 4" ∷ pumps one ∷ codes "crash 1" ∷ opens one
    ∷ send one connect_a ∷ pumps one
    ∷ pumps one ∷ [])) (works 4 ++ Fails ∷ Fails ∷ GoesOut ∷ GoesIn ∷ [])
    ≡ lines
    (heard at_least_once ++ gets two (codes "40020007") ∷ gets two (codes "E00183") ∷ ended two
    ∷ gets one (codes "E00183") ∷ ended one
    ∷ codes "crashed" ∷ gets one resumed ∷ gets one (of_hi (codes "3A") (codes "01")) ∷ [])
unfolding running
shards_before_workers = refl
