-- Device calls that fail: appends, records, settles, rotations, drops and cold reads in doubt, and what stands
-- afterwards.
use Rattle.std.specs.Prelude.{◌≡◌, refl, [], ◌∷◌, ◌++◌, codes}
use Rattle.topic_model.specs.Profile.{whole}
use Rattle.shard_model.specs.Choices.{Works, Fails, GoesIn, GoesOut}
use Rattle.world_model.specs.Running.{text_of_script}
use Rattle.world_model.specs.Computing.{running}
use Rattle.world_examples.specs.HostileWords.{lines, one, two, three, opens, closes, pumps, send, gets, ended}
use Rattle.world_examples.specs.HostileWords.{connect_a, connect_p}
use Rattle.world_examples.specs.HostileWords.{accepted, resumed, subscribe, of_hi, at_most_once, at_least_once}
use Rattle.world_examples.specs.HostileWords.{exactly_once, listening, heard, works}

-- an append that failed and is found to be in: the repeated publish is a second message
append_settles_in : text_of_script whole
    (lines (listening at_least_once ++ codes "fail 2 4" ∷ send two (of_hi (codes "32") (codes "07"))
    ∷ opens two ∷ send two connect_p ∷ send two (of_hi (codes "32") (codes "07")) ∷ pumps one ∷ []))
    (works 3 ++ Fails ∷ Works ∷ GoesIn ∷ [])
    ≡ lines
    (heard at_least_once ++ gets two (codes "E00183") ∷ ended two ∷ gets two resumed ∷ gets two (codes "40020007")
    ∷ gets one (of_hi (codes "32") (codes "01")) ∷ gets one (of_hi (codes "32") (codes "03")) ∷ [])
unfolding running
append_settles_in = refl

-- an append that failed and is found not to be in: there is the repeated publish alone
append_settles_out : text_of_script whole
    (lines (listening at_least_once ++ codes "fail 2 1" ∷ send two (of_hi (codes "32") (codes "07"))
    ∷ opens two ∷ send two connect_p ∷ send two (of_hi (codes "32") (codes "07")) ∷ pumps one ∷ []))
    (works 3 ++ Fails ∷ Works ∷ GoesOut ∷ [])
    ≡ lines
    (heard at_least_once ++ gets two (codes "E00183") ∷ ended two ∷ gets two resumed ∷ gets two (codes "40020007")
    ∷ gets one (of_hi (codes "32") (codes "01")) ∷ [])
unfolding running
append_settles_out = refl

-- a publish of QoS 0 whose append fails closes too
append_of_qos_zero : text_of_script whole
    (lines (opens one ∷ send one connect_p ∷ codes "fail 2 4" ∷ send one (codes "30080003612F62006869")
    ∷ [])) (Works ∷ Fails ∷ [])
    ≡ lines (gets one accepted ∷ gets one (codes "E00183") ∷ ended one ∷ [])
unfolding running
append_of_qos_zero = refl

-- none of the publishes of a group in doubt is acknowledged; all of them are in
group_settles_in : text_of_script whole (lines (opens one ∷ send one connect_p ∷ codes "fail 2 4"
    ∷ send one (codes "320A0003612F620007006869320A0003612F620008006869") ∷ opens one ∷ send one connect_p
    ∷ send one (of_hi (codes "32") (codes "09")) ∷ codes "look" ∷ [])) (Works ∷ Fails ∷ Works ∷ GoesIn ∷ [])
    ≡ lines (gets one accepted ∷ gets one (codes "E00183") ∷ ended one ∷ gets one resumed ∷ gets one (codes "40020009")
    ∷ codes "shard 0 floor 0 next 3 awaiting 0" ∷ codes " generation 0 first 0 next 3 streams 1"
    ∷ codes "  stream 0 a/b count 3"
    ∷ codes "worker 0" ∷ codes " session p subs 0 unfinished 0" ∷ [])
unfolding running
group_settles_in = refl

-- where that group is found not to be in, none of them is stored
group_settles_out : text_of_script whole (lines (opens one ∷ send one connect_p ∷ codes "fail 2 1"
    ∷ send one (codes "320A0003612F620007006869320A0003612F620008006869") ∷ opens one ∷ send one connect_p
    ∷ send one (of_hi (codes "32") (codes "09")) ∷ codes "look" ∷ [])) (Works ∷ Fails ∷ Works ∷ GoesOut ∷ [])
    ≡ lines (gets one accepted ∷ gets one (codes "E00183") ∷ ended one ∷ gets one resumed ∷ gets one (codes "40020009")
    ∷ codes "shard 0 floor 0 next 1 awaiting 0" ∷ codes " generation 0 first 0 next 1 streams 1"
    ∷ codes "  stream 0 a/b count 1"
    ∷ codes "worker 0" ∷ codes " session p subs 0 unfinished 0" ∷ [])
unfolding running
group_settles_out = refl

-- what the piece had before the failing group is answered first, what follows is not looked at
behind_a_good_group : text_of_script whole (lines (opens one ∷ send one connect_p ∷ codes "fail 2 5"
    ∷ send one (codes "320A0003612F620007006869C000320A0003612F620008006869C000") ∷ opens one ∷ send one connect_p
    ∷ send one (of_hi (codes "32") (codes "09")) ∷ codes "look" ∷ [])) (works 2 ++ Fails ∷ Works ∷ GoesOut ∷ [])
    ≡ lines
    (gets one accepted ∷ gets one (codes "40020007") ∷ gets one (codes "D000") ∷ gets one (codes "E00183")
    ∷ ended one ∷ gets one resumed
    ∷ gets one (codes "40020009") ∷ codes "shard 0 floor 0 next 2 awaiting 0"
    ∷ codes " generation 0 first 0 next 2 streams 1"
    ∷ codes "  stream 0 a/b count 2" ∷ codes "worker 0" ∷ codes " session p subs 0 unfinished 0" ∷ [])
unfolding running
behind_a_good_group = refl

-- an append whose settling fails is a fault again; the next one settles
settle_of_a_shard_fails : text_of_script whole (lines (listening at_least_once ++ codes "fail 2 4" ∷ codes "fail 2 5"
    ∷ send two (of_hi (codes "32") (codes "07")) ∷ opens two ∷ send two connect_p
    ∷ send two (of_hi (codes "32") (codes "08")) ∷ opens two
    ∷ send two connect_p ∷ send two (of_hi (codes "32") (codes "09")) ∷ pumps one ∷ []))
    (works 3 ++ Fails ∷ Works ∷ Fails ∷ Works ∷ GoesIn ∷ [])
    ≡ lines
    (heard at_least_once ++ gets two (codes "E00183") ∷ ended two ∷ gets two resumed ∷ gets two (codes "E00183")
    ∷ ended two
    ∷ gets two resumed ∷ gets two (codes "40020009") ∷ gets one (of_hi (codes "32") (codes "01"))
    ∷ gets one (of_hi (codes "32") (codes "03"))
    ∷ [])
unfolding running
settle_of_a_shard_fails = refl

-- a message in doubt is not delivered before it is known to be in
in_doubt_is_not_shown : text_of_script whole
    (lines (listening at_least_once ++ codes "fail 2 4" ∷ send two (of_hi (codes "32") (codes "07"))
    ∷ pumps one ∷ opens two ∷ send two connect_p ∷ send two (of_hi (codes "32") (codes "08")) ∷ pumps one ∷ []))
    (works 3 ++ Fails ∷ Works
    ∷ GoesIn ∷ [])
    ≡ lines
    (heard at_least_once ++ gets two (codes "E00183") ∷ ended two ∷ gets two resumed ∷ gets two (codes "40020008")
    ∷ gets one (of_hi (codes "32") (codes "01")) ∷ gets one (of_hi (codes "32") (codes "03")) ∷ [])
unfolding running
in_doubt_is_not_shown = refl

-- a Tick settles the shards of its worker, too
tick_settles_a_shard : text_of_script whole
    (lines (listening at_least_once ++ codes "fail 2 4" ∷ send two (of_hi (codes "32") (codes "07"))
    ∷ codes "tick 0" ∷ pumps one ∷ [])) (works 3 ++ Fails ∷ GoesIn ∷ [])
    ≡ lines
    (heard at_least_once ++ gets two (codes "E00183") ∷ ended two ∷ gets one (of_hi (codes "32") (codes "01")) ∷ [])
unfolding running
tick_settles_a_shard = refl

-- a failure that was armed for a journal fails no append
failing_disk_of_another : text_of_script whole (lines (opens one ∷ send one connect_p ∷ codes "fail 10 4"
    ∷ send one (of_hi (codes "32") (codes "07")) ∷ [])) (Works ∷ Fails ∷ [])
    ≡ lines (gets one accepted ∷ gets one (codes "40020007") ∷ [])
unfolding running
failing_disk_of_another = refl

-- ---- QoS 2 in doubt

-- an identifier whose publish is in doubt is not known to be awaited; the repeated publish settles and is not stored
-- again
released_while_in_doubt : text_of_script whole (lines (opens one ∷ send one connect_p ∷ codes "fail 2 4"
    ∷ send one (of_hi (codes "34") (codes "05")) ∷ opens one ∷ send one connect_p ∷ send one (codes "62020005")
    ∷ send one (of_hi (codes "3C") (codes "05")) ∷ send one (codes "62020005") ∷ codes "look" ∷ []))
    (Works ∷ Fails ∷ Works ∷ GoesIn ∷ [])
    ≡ lines
    (gets one accepted ∷ gets one (codes "E00183") ∷ ended one ∷ gets one resumed ∷ gets one (codes "7003000592")
    ∷ gets one (codes "50020005") ∷ gets one (codes "70020005") ∷ codes "shard 0 floor 0 next 1 awaiting 0"
    ∷ codes " generation 0 first 0 next 1 streams 1" ∷ codes "  stream 0 a/b count 1" ∷ codes "worker 0"
    ∷ codes " session p subs 0 unfinished 0"
    ∷ [])
unfolding running
released_while_in_doubt = refl

-- where the first publish is found not to be in, the repeated one is stored, so once again there is one message
repeated_after_out : text_of_script whole
    (lines (opens one ∷ send one connect_p ∷ codes "fail 2 1" ∷ send one (of_hi (codes "34") (codes "05"))
    ∷ opens one ∷ send one connect_p ∷ send one (codes "62020005") ∷ send one (of_hi (codes "3C") (codes "05"))
    ∷ send one (codes "62020005")
    ∷ codes "look" ∷ [])) (Works ∷ Fails ∷ Works ∷ GoesOut ∷ [])
    ≡ lines
    (gets one accepted ∷ gets one (codes "E00183") ∷ ended one ∷ gets one resumed ∷ gets one (codes "7003000592")
    ∷ gets one (codes "50020005") ∷ gets one (codes "70020005") ∷ codes "shard 0 floor 0 next 1 awaiting 0"
    ∷ codes " generation 0 first 0 next 1 streams 1" ∷ codes "  stream 0 a/b count 1" ∷ codes "worker 0"
    ∷ codes " session p subs 0 unfinished 0"
    ∷ [])
unfolding running
repeated_after_out = refl

-- a Release in doubt that is in: PUBREL again is answered without another one
release_settles_in : text_of_script whole
    (lines (opens one ∷ send one connect_p ∷ send one (of_hi (codes "34") (codes "05")) ∷ codes "fail 2 4"
    ∷ send one (codes "62020005") ∷ opens one ∷ send one connect_p ∷ send one (codes "62020005")
    ∷ send one (codes "62020005") ∷ [])) (works 2
    ++ Fails ∷ Works ∷ GoesIn ∷ [])
    ≡ lines (gets one accepted ∷ gets one (codes "50020005") ∷ gets one (codes "E00183") ∷ ended one ∷ gets one resumed
    ∷ gets one (codes "70020005") ∷ gets one (codes "7003000592") ∷ [])
unfolding running
release_settles_in = refl

-- a Release in doubt that is not in: PUBREL again releases
release_settles_out : text_of_script whole
    (lines (opens one ∷ send one connect_p ∷ send one (of_hi (codes "34") (codes "05")) ∷ codes "fail 2 1"
    ∷ send one (codes "62020005") ∷ opens one ∷ send one connect_p ∷ send one (codes "62020005")
    ∷ send one (codes "62020005") ∷ [])) (works 2
    ++ Fails ∷ Works ∷ GoesOut ∷ [])
    ≡ lines (gets one accepted ∷ gets one (codes "50020005") ∷ gets one (codes "E00183") ∷ ended one ∷ gets one resumed
    ∷ gets one (codes "70020005") ∷ gets one (codes "7003000592") ∷ [])
unfolding running
release_settles_out = refl

-- ---- records in doubt

-- the record of an acknowledgement that is in: nothing comes again
puback_settles_in : text_of_script whole
    (lines (listening at_least_once ++ send two (of_hi (codes "32") (codes "07")) ∷ pumps one
    ∷ codes "fail 10 4" ∷ send one (codes "40020001") ∷ opens one ∷ send one connect_a ∷ pumps one ∷ []))
    (works 5 ++ Fails ∷ GoesIn ∷ [])
    ≡ lines
    (heard at_least_once ++ gets two (codes "40020007") ∷ gets one (of_hi (codes "32") (codes "01"))
    ∷ gets one (codes "E00183")
    ∷ ended one ∷ gets one resumed ∷ [])
unfolding running
puback_settles_in = refl

-- the record of an acknowledgement that is not in: the delivery comes again
puback_settles_out : text_of_script whole
    (lines (listening at_least_once ++ send two (of_hi (codes "32") (codes "07")) ∷ pumps one
    ∷ codes "fail 10 1" ∷ send one (codes "40020001") ∷ opens one ∷ send one connect_a ∷ pumps one ∷ []))
    (works 5 ++ Fails ∷ GoesOut ∷ [])
    ≡ lines
    (heard at_least_once ++ gets two (codes "40020007") ∷ gets one (of_hi (codes "32") (codes "01"))
    ∷ gets one (codes "E00183")
    ∷ ended one ∷ gets one resumed ∷ gets one (of_hi (codes "3A") (codes "01")) ∷ [])
unfolding running
puback_settles_out = refl

-- PUBREL is not put out with a record in doubt; it comes on the next connection where the record is in
pubrec_settles_in : text_of_script whole
    (lines (listening exactly_once ++ send two (of_hi (codes "34") (codes "05")) ∷ pumps one
    ∷ codes "fail 10 4" ∷ send one (codes "50020002") ∷ opens one ∷ send one connect_a ∷ pumps one ∷ []))
    (works 5 ++ Fails ∷ GoesIn ∷ [])
    ≡ lines
    (heard exactly_once ++ gets two (codes "50020005") ∷ gets one (of_hi (codes "34") (codes "02"))
    ∷ gets one (codes "E00183")
    ∷ ended one ∷ gets one resumed ∷ gets one (codes "62020002") ∷ [])
unfolding running
pubrec_settles_in = refl

-- where the record of a PUBREC is not in, the publish comes again
pubrec_settles_out : text_of_script whole
    (lines (listening exactly_once ++ send two (of_hi (codes "34") (codes "05")) ∷ pumps one
    ∷ codes "fail 10 1" ∷ send one (codes "50020002") ∷ opens one ∷ send one connect_a ∷ pumps one ∷ []))
    (works 5 ++ Fails ∷ GoesOut ∷ [])
    ≡ lines
    (heard exactly_once ++ gets two (codes "50020005") ∷ gets one (of_hi (codes "34") (codes "02"))
    ∷ gets one (codes "E00183")
    ∷ ended one ∷ gets one resumed ∷ gets one (of_hi (codes "3C") (codes "02")) ∷ [])
unfolding running
pubrec_settles_out = refl

-- a subscription whose record is in stands, although it had no SUBACK
subscribe_settles_in : text_of_script whole
    (lines (opens one ∷ send one connect_a ∷ opens two ∷ send two connect_p ∷ codes "fail 10 4"
    ∷ send one subscribe ∷ opens one ∷ send one connect_a ∷ send two (of_hi (codes "32") (codes "07")) ∷ pumps one
    ∷ [])) (works 2 ++ Fails
    ∷ GoesIn ∷ [])
    ≡ lines
    (gets one accepted ∷ gets two accepted ∷ gets one (codes "E00183") ∷ ended one ∷ gets one resumed
    ∷ gets two (codes "40020007")
    ∷ gets one (of_hi (codes "32") (codes "01")) ∷ [])
unfolding running
subscribe_settles_in = refl

-- a subscription whose record is found not to be in is none
subscribe_settles_out : text_of_script whole
    (lines (opens one ∷ send one connect_a ∷ opens two ∷ send two connect_p ∷ codes "fail 10 1"
    ∷ send one subscribe ∷ opens one ∷ send one connect_a ∷ send two (of_hi (codes "32") (codes "07")) ∷ pumps one
    ∷ [])) (works 2 ++ Fails
    ∷ GoesOut ∷ [])
    ≡ lines
    (gets one accepted ∷ gets two accepted ∷ gets one (codes "E00183") ∷ ended one ∷ gets one resumed
    ∷ gets two (codes "40020007") ∷ [])
unfolding running
subscribe_settles_out = refl

-- a delivery of QoS 0 whose record is in doubt was not sent: in, it is never sent
issued_at_qos_zero_in : text_of_script whole
    (lines (listening at_most_once ++ send two (of_hi (codes "32") (codes "07")) ∷ codes "fail 10 4"
    ∷ pumps one ∷ opens one ∷ send one connect_a ∷ pumps one ∷ [])) (works 4 ++ Fails ∷ GoesIn ∷ [])
    ≡ lines
    (heard at_most_once ++ gets two (codes "40020007") ∷ gets one (codes "E00183") ∷ ended one ∷ gets one resumed
    ∷ [])
unfolding running
issued_at_qos_zero_in = refl

-- where that record is not in, the delivery is issued by a later pump
issued_at_qos_zero_out : text_of_script whole
    (lines (listening at_most_once ++ send two (of_hi (codes "32") (codes "07")) ∷ codes "fail 10 1"
    ∷ pumps one ∷ opens one ∷ send one connect_a ∷ pumps one ∷ [])) (works 4 ++ Fails ∷ GoesOut ∷ [])
    ≡ lines
    (heard at_most_once ++ gets two (codes "40020007") ∷ gets one (codes "E00183") ∷ ended one ∷ gets one resumed
    ∷ gets one (codes "30080003612F62006869") ∷ [])
unfolding running
issued_at_qos_zero_out = refl

-- ---- the record of a CONNECT in doubt

-- a new session whose record is in is resumed by the next CONNECT
connect_settles_in : text_of_script whole
    (lines (codes "fail 10 4" ∷ opens one ∷ send one connect_a ∷ opens one ∷ send one connect_a
    ∷ [])) (Fails ∷ GoesIn ∷ [])
    ≡ lines (gets one (codes "2003008300") ∷ ended one ∷ gets one resumed ∷ [])
unfolding running
connect_settles_in = refl

-- a new session whose record is not in is none: the next CONNECT begins one
connect_settles_out : text_of_script whole
    (lines (codes "fail 10 1" ∷ opens one ∷ send one connect_a ∷ opens one ∷ send one connect_a
    ∷ [])) (Fails ∷ GoesOut ∷ [])
    ≡ lines (gets one (codes "2003008300") ∷ ended one ∷ gets one accepted ∷ [])
unfolding running
connect_settles_out = refl

-- a session whose record goes in without a connection counts its interval: a second later it is over
interval_of_a_doubtful_session : text_of_script whole (lines (codes "fail 10 4" ∷ opens one
    ∷ send one (codes "101300044D5154540500003C051100000001000161") ∷ opens two ∷ send two connect_p ∷ codes "tick 1000"
    ∷ opens one
    ∷ send one (codes "101300044D5154540500003C051100000001000161") ∷ [])) (Fails ∷ GoesIn ∷ [])
    ≡ lines (gets one (codes "2003008300") ∷ ended one ∷ gets two accepted ∷ gets one accepted ∷ [])
unfolding running
interval_of_a_doubtful_session = refl

-- one millisecond short of its second such a session is still there
interval_not_over_yet : text_of_script whole
    (lines (codes "fail 10 4" ∷ opens one ∷ send one (codes "101300044D5154540500003C051100000001000161")
    ∷ opens two ∷ send two connect_p ∷ codes "tick 999" ∷ opens one
    ∷ send one (codes "101300044D5154540500003C051100000001000161") ∷ [])) (Fails
    ∷ GoesIn ∷ [])
    ≡ lines (gets one (codes "2003008300") ∷ ended one ∷ gets two accepted ∷ gets one resumed ∷ [])
unfolding running
interval_not_over_yet = refl

-- a doubtful session with interval 0 has ended when its record is found to be in
doubtful_session_of_interval_zero : text_of_script whole (lines (codes "fail 10 4" ∷ opens one
    ∷ send one (codes "100E00044D5154540500003C00000161") ∷ opens one ∷ send one connect_a ∷ [])) (Fails ∷ GoesIn ∷ [])
    ≡ lines (gets one (codes "2003008300") ∷ ended one ∷ gets one accepted ∷ [])
unfolding running
doubtful_session_of_interval_zero = refl

-- a takeover whose record is in doubt closes the old connection for the same reason; the session stays
takeover_in_doubt_in : text_of_script whole
    (lines (listening at_least_once ++ send two (of_hi (codes "32") (codes "07")) ∷ codes "fail 10 4"
    ∷ opens three ∷ send three connect_a ∷ opens one ∷ send one connect_a ∷ pumps one ∷ []))
    (works 4 ++ Fails ∷ GoesIn ∷ [])
    ≡ lines
    (heard at_least_once ++ gets two (codes "40020007") ∷ gets three (codes "2003008300") ∷ ended three
    ∷ gets one (codes "E00183")
    ∷ ended one ∷ gets one resumed ∷ gets one (of_hi (codes "32") (codes "01")) ∷ [])
unfolding running
takeover_in_doubt_in = refl

-- a takeover in doubt that is not in: both connections were closed, and the session stays as it was
takeover_in_doubt_out : text_of_script whole
    (lines (listening at_least_once ++ send two (of_hi (codes "32") (codes "07")) ∷ codes "fail 10 1"
    ∷ opens three ∷ send three connect_a ∷ opens one ∷ send one connect_a ∷ pumps one ∷ []))
    (works 4 ++ Fails ∷ GoesOut ∷ [])
    ≡ lines
    (heard at_least_once ++ gets two (codes "40020007") ∷ gets three (codes "2003008300") ∷ ended three
    ∷ gets one (codes "E00183")
    ∷ ended one ∷ gets one resumed ∷ gets one (of_hi (codes "32") (codes "01")) ∷ [])
unfolding running
takeover_in_doubt_out = refl

-- Clean Start in doubt that is in: the session that is resumed is the new one, without subscriptions
clean_start_in_doubt_in : text_of_script whole
    (lines (listening at_least_once ++ send two (of_hi (codes "32") (codes "07")) ∷ closes one
    ∷ codes "fail 10 4" ∷ opens one ∷ send one (codes "101300044D5154540502003C051100000E10000161") ∷ opens one
    ∷ send one connect_a ∷ pumps one
    ∷ [])) (works 4 ++ Fails ∷ GoesIn ∷ [])
    ≡ lines
    (heard at_least_once ++ gets two (codes "40020007") ∷ gets one (codes "2003008300") ∷ ended one
    ∷ gets one resumed ∷ [])
unfolding running
clean_start_in_doubt_in = refl

-- Clean Start in doubt that is not in: the old session is resumed with what waits
clean_start_in_doubt_out : text_of_script whole
    (lines (listening at_least_once ++ send two (of_hi (codes "32") (codes "07")) ∷ closes one
    ∷ codes "fail 10 1" ∷ opens one ∷ send one (codes "101300044D5154540502003C051100000E10000161") ∷ opens one
    ∷ send one connect_a ∷ pumps one
    ∷ [])) (works 4 ++ Fails ∷ GoesOut ∷ [])
    ≡ lines
    (heard at_least_once ++ gets two (codes "40020007") ∷ gets one (codes "2003008300") ∷ ended one
    ∷ gets one resumed
    ∷ gets one (of_hi (codes "32") (codes "01")) ∷ [])
unfolding running
clean_start_in_doubt_out = refl

-- ---- settles of a journal that fail

-- a turn that cannot settle closes its own connection, and its packet is not taken
settle_closes_another : text_of_script whole
    (lines (listening at_least_once ++ send two (of_hi (codes "32") (codes "07")) ∷ codes "fail 10 4"
    ∷ codes "fail 10 5" ∷ pumps one ∷ send two (codes "C000") ∷ opens one ∷ send one connect_a ∷ pumps one ∷ []))
    (works 4 ++ Fails ∷ Fails
    ∷ GoesIn ∷ [])
    ≡ lines
    (heard at_least_once ++ gets two (codes "40020007") ∷ gets one (codes "E00183") ∷ ended one
    ∷ gets two (codes "E00183") ∷ ended two
    ∷ gets one resumed ∷ gets one (of_hi (codes "3A") (codes "01")) ∷ [])
unfolding running
settle_closes_another = refl

-- a new connection that meets a failing settle is closed before its CONNECT is read, and nothing is written
settle_before_the_connect : text_of_script whole
    (lines (listening at_least_once ++ send two (of_hi (codes "32") (codes "07")) ∷ codes "fail 10 1"
    ∷ codes "fail 10 2" ∷ pumps one ∷ opens one ∷ send one connect_a ∷ opens one ∷ send one connect_a ∷ pumps one ∷ []))
    (works 4 ++ Fails ∷ Fails
    ∷ GoesOut ∷ [])
    ≡ lines
    (heard at_least_once ++ gets two (codes "40020007") ∷ gets one (codes "E00183") ∷ ended one ∷ ended one
    ∷ gets one resumed
    ∷ gets one (of_hi (codes "32") (codes "01")) ∷ [])
unfolding running
settle_before_the_connect = refl

-- a Tick that cannot settle closes nobody; the next one does
tick_that_cannot_settle : text_of_script whole (lines (opens one ∷ send one connect_a ∷ opens two
    ∷ send two (codes "101300044D51545405000001051100000E10000170") ∷ codes "fail 10 1" ∷ codes "fail 10 2"
    ∷ send one subscribe
    ∷ codes "tick 1501" ∷ codes "tick 0" ∷ [])) (works 2 ++ Fails ∷ Fails ∷ GoesOut ∷ [])
    ≡ lines
    (gets one accepted ∷ gets two accepted ∷ gets one (codes "E00183") ∷ ended one ∷ gets two (codes "E0018D")
    ∷ ended two ∷ [])
unfolding running
tick_that_cannot_settle = refl

-- ---- generations

-- a pump whose cold read fails sends nothing and stays open; the next one sends all
cold_read_of_a_resend : text_of_script whole
    (lines (codes "set messages 1" ∷ opens one ∷ send one connect_a ∷ send one subscribe ∷ opens two
    ∷ send two connect_p ∷ send two (of_hi (codes "32") (codes "07")) ∷ pumps one
    ∷ send two (of_hi (codes "32") (codes "08")) ∷ pumps one
    ∷ opens one ∷ send one connect_a ∷ codes "fail 2 1" ∷ pumps one ∷ pumps one ∷ [])) (works 9 ++ Fails ∷ [])
    ≡ lines
    (heard at_least_once ++ gets two (codes "40020007") ∷ gets one (of_hi (codes "32") (codes "01"))
    ∷ gets two (codes "40020008")
    ∷ gets one (of_hi (codes "32") (codes "03")) ∷ gets one resumed ∷ gets one (of_hi (codes "3A") (codes "01"))
    ∷ gets one (of_hi (codes "3A") (codes "03")) ∷ [])
unfolding running
cold_read_of_a_resend = refl

-- a pump that would issue what is cold issues nothing when the read fails
cold_read_of_a_batch : text_of_script whole
    (lines (codes "set messages 1" ∷ opens one ∷ send one connect_a ∷ send one subscribe ∷ opens two
    ∷ send two connect_p ∷ send two (of_hi (codes "32") (codes "07")) ∷ send two (of_hi (codes "32") (codes "08"))
    ∷ codes "fail 2 1" ∷ pumps one
    ∷ pumps one ∷ pumps one ∷ [])) (works 6 ++ Fails ∷ [])
    ≡ lines
    (heard at_least_once ++ gets two (codes "40020007") ∷ gets two (codes "40020008")
    ∷ gets one (of_hi (codes "32") (codes "01"))
    ∷ gets one (of_hi (codes "32") (codes "03")) ∷ [])
unfolding running
cold_read_of_a_batch = refl

-- a new generation in doubt that is in takes the next publish
rotation_settles_in : text_of_script whole (lines (codes "set messages 1" ∷ opens one ∷ send one connect_p
    ∷ send one (of_hi (codes "32") (codes "07")) ∷ codes "fail 1 6" ∷ send one (of_hi (codes "32") (codes "08"))
    ∷ opens one ∷ send one connect_p
    ∷ send one (of_hi (codes "32") (codes "09")) ∷ codes "look" ∷ [])) (works 2 ++ Fails ∷ Works ∷ GoesIn ∷ [])
    ≡ lines (gets one accepted ∷ gets one (codes "40020007") ∷ gets one (codes "E00183") ∷ ended one ∷ gets one resumed
    ∷ gets one (codes "40020009") ∷ codes "shard 0 floor 0 next 2 awaiting 0"
    ∷ codes " generation 0 first 0 next 1 streams 1"
    ∷ codes "  stream 0 a/b count 1" ∷ codes " generation 1 first 1 next 2 streams 1" ∷ codes "  stream 0 a/b count 1"
    ∷ codes "worker 0"
    ∷ codes " session p subs 0 unfinished 0" ∷ [])
unfolding running
rotation_settles_in = refl

-- a new generation in doubt that is not in is begun again
rotation_settles_out : text_of_script whole (lines (codes "set messages 1" ∷ opens one ∷ send one connect_p
    ∷ send one (of_hi (codes "32") (codes "07")) ∷ codes "fail 1 3" ∷ send one (of_hi (codes "32") (codes "08"))
    ∷ opens one ∷ send one connect_p
    ∷ send one (of_hi (codes "32") (codes "09")) ∷ codes "look" ∷ [])) (works 2 ++ Fails ∷ Works ∷ GoesOut ∷ [])
    ≡ lines (gets one accepted ∷ gets one (codes "40020007") ∷ gets one (codes "E00183") ∷ ended one ∷ gets one resumed
    ∷ gets one (codes "40020009") ∷ codes "shard 0 floor 0 next 2 awaiting 0"
    ∷ codes " generation 0 first 0 next 1 streams 1"
    ∷ codes "  stream 0 a/b count 1" ∷ codes " generation 1 first 1 next 2 streams 1" ∷ codes "  stream 0 a/b count 1"
    ∷ codes "worker 0"
    ∷ codes " session p subs 0 unfinished 0" ∷ [])
unfolding running
rotation_settles_out = refl

-- a drop that fails closes nobody, and shows when it is known to be in
drop_settles_in : text_of_script whole
    (lines (codes "set messages 1" ∷ codes "set retention 1000" ∷ opens one ∷ send one connect_p
    ∷ send one (of_hi (codes "32") (codes "07")) ∷ send one (of_hi (codes "32") (codes "08")) ∷ codes "fail 0 8"
    ∷ codes "tick 1000"
    ∷ codes "look" ∷ send one (of_hi (codes "32") (codes "09")) ∷ codes "look" ∷ [])) (works 4 ++ Fails ∷ GoesIn ∷ [])
    ≡ lines
    (gets one accepted ∷ gets one (codes "40020007") ∷ gets one (codes "40020008")
    ∷ codes "shard 0 floor 0 next 2 awaiting 0"
    ∷ codes " generation 0 first 0 next 1 streams 1" ∷ codes "  stream 0 a/b count 1"
    ∷ codes " generation 1 first 1 next 2 streams 1"
    ∷ codes "  stream 0 a/b count 1" ∷ codes "worker 0" ∷ codes " session p subs 0 unfinished 0"
    ∷ gets one (codes "40020009")
    ∷ codes "shard 0 floor 1 next 3 awaiting 0" ∷ codes " generation 1 first 1 next 2 streams 1"
    ∷ codes "  stream 0 a/b count 1"
    ∷ codes " generation 2 first 2 next 3 streams 1" ∷ codes "  stream 0 a/b count 1" ∷ codes "worker 0"
    ∷ codes " session p subs 0 unfinished 0"
    ∷ [])
unfolding running
drop_settles_in = refl

-- a drop that is found not to be in waits for the next Tick
drop_settles_out : text_of_script whole
    (lines (codes "set messages 1" ∷ codes "set retention 1000" ∷ opens one ∷ send one connect_p
    ∷ send one (of_hi (codes "32") (codes "07")) ∷ send one (of_hi (codes "32") (codes "08")) ∷ codes "fail 0 5"
    ∷ codes "tick 1000"
    ∷ codes "look" ∷ send one (of_hi (codes "32") (codes "09")) ∷ codes "look" ∷ codes "tick 0" ∷ codes "look" ∷ []))
    (works 4 ++ Fails ∷ GoesOut
    ∷ [])
    ≡ lines
    (gets one accepted ∷ gets one (codes "40020007") ∷ gets one (codes "40020008")
    ∷ codes "shard 0 floor 0 next 2 awaiting 0"
    ∷ codes " generation 0 first 0 next 1 streams 1" ∷ codes "  stream 0 a/b count 1"
    ∷ codes " generation 1 first 1 next 2 streams 1"
    ∷ codes "  stream 0 a/b count 1" ∷ codes "worker 0" ∷ codes " session p subs 0 unfinished 0"
    ∷ gets one (codes "40020009")
    ∷ codes "shard 0 floor 0 next 3 awaiting 0" ∷ codes " generation 0 first 0 next 1 streams 1"
    ∷ codes "  stream 0 a/b count 1"
    ∷ codes " generation 1 first 1 next 2 streams 1" ∷ codes "  stream 0 a/b count 1"
    ∷ codes " generation 2 first 2 next 3 streams 1"
    ∷ codes "  stream 0 a/b count 1" ∷ codes "worker 0" ∷ codes " session p subs 0 unfinished 0"
    ∷ codes "shard 0 floor 1 next 3 awaiting 0"
    ∷ codes " generation 1 first 1 next 2 streams 1" ∷ codes "  stream 0 a/b count 1"
    ∷ codes " generation 2 first 2 next 3 streams 1"
    ∷ codes "  stream 0 a/b count 1" ∷ codes "worker 0" ∷ codes " session p subs 0 unfinished 0" ∷ [])
unfolding running
drop_settles_out = refl
