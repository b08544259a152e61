-- What a pump sends again and what it issues: limits, quotas, messages that are passed over, cut batches, expiry, wide
-- windows.
use Rattle.std.specs.Prelude.{◌≡◌, refl, [], ◌∷◌, ◌++◌, codes}
use Rattle.topic_model.specs.Profile.{whole}
use Rattle.world_model.specs.Running.{text_of_script}
use Rattle.world_model.specs.Computing.{running}
use Rattle.world_examples.specs.HostileWords.{lines, one, two, opens, pumps, send, gets, ended, connect_a, connect_p}
use Rattle.world_examples.specs.HostileWords.{accepted, resumed, subscribe, of_hi, at_least_once, exactly_once}
use Rattle.world_examples.specs.HostileWords.{listening, heard}

-- a packet over the client's limit is issued silently in the midst of a batch, and does not come on a wider connection
too_long_in_the_midst : text_of_script whole
    (lines (opens one ∷ send one (codes "101800044D5154540500003C0A1100000E102700000014000161")
    ∷ send one subscribe ∷ opens two ∷ send two connect_p ∷ send two (of_hi (codes "32") (codes "06"))
    ∷ send two (codes "32130003612F6200070068656C6C6F20776F726C64") ∷ send two (of_hi (codes "32") (codes "08"))
    ∷ pumps one ∷ opens one
    ∷ send one connect_a ∷ pumps one ∷ pumps one ∷ [])) []
    ≡ lines
    (gets one accepted ∷ gets one (codes "900400010001") ∷ gets two accepted ∷ gets two (codes "40020006")
    ∷ gets two (codes "40020007")
    ∷ gets two (codes "40020008") ∷ gets one (of_hi (codes "32") (codes "01"))
    ∷ gets one (of_hi (codes "32") (codes "03")) ∷ gets one resumed
    ∷ gets one (of_hi (codes "3A") (codes "01")) ∷ gets one (of_hi (codes "3A") (codes "03")) ∷ [])
unfolding running
too_long_in_the_midst = refl

-- under a smaller limit an entry is passed over and finished for good, and the next acknowledgement is in order
smaller_limit_later : text_of_script whole
    (lines (listening at_least_once ++ send two (codes "32130003612F6200060068656C6C6F20776F726C64")
    ∷ send two (of_hi (codes "32") (codes "07")) ∷ pumps one ∷ opens one
    ∷ send one (codes "101800044D5154540500003C0A1100000E102700000014000161")
    ∷ pumps one ∷ opens one ∷ send one connect_a ∷ pumps one ∷ send one (codes "40020003") ∷ opens one
    ∷ send one connect_a ∷ pumps one ∷ [])) []
    ≡ lines (heard at_least_once ++ gets two (codes "40020006") ∷ gets two (codes "40020007")
    ∷ gets one (codes "32130003612F6200010068656C6C6F20776F726C64") ∷ gets one (of_hi (codes "32") (codes "03"))
    ∷ gets one resumed
    ∷ gets one (of_hi (codes "3A") (codes "03")) ∷ gets one resumed ∷ gets one (of_hi (codes "3A") (codes "03"))
    ∷ gets one resumed ∷ [])
unfolding running
smaller_limit_later = refl

-- on the connection that passed an entry over, the acknowledgement of the next one is in order
acknowledged_over_the_passed : text_of_script whole (lines (listening at_least_once
    ++ send two (codes "32130003612F6200060068656C6C6F20776F726C64") ∷ send two (of_hi (codes "32") (codes "07"))
    ∷ pumps one ∷ opens one
    ∷ send one (codes "101800044D5154540500003C0A1100000E102700000014000161") ∷ pumps one ∷ send one (codes "40020003")
    ∷ send two (of_hi (codes "32") (codes "08")) ∷ pumps one ∷ [])) []
    ≡ lines (heard at_least_once ++ gets two (codes "40020006") ∷ gets two (codes "40020007")
    ∷ gets one (codes "32130003612F6200010068656C6C6F20776F726C64") ∷ gets one (of_hi (codes "32") (codes "03"))
    ∷ gets one resumed
    ∷ gets one (of_hi (codes "3A") (codes "03")) ∷ gets two (codes "40020008")
    ∷ gets one (of_hi (codes "32") (codes "05")) ∷ [])
unfolding running
acknowledged_over_the_passed = refl

-- an entry that is passed over behind an unfinished one is not finished by that, and comes on a wider connection
passed_behind_another : text_of_script whole
    (lines (listening at_least_once ++ send two (of_hi (codes "32") (codes "06"))
    ∷ send two (codes "32130003612F6200070068656C6C6F20776F726C64") ∷ pumps one ∷ opens one
    ∷ send one (codes "101800044D5154540500003C0A1100000E102700000014000161") ∷ pumps one ∷ opens one
    ∷ send one connect_a ∷ pumps one ∷ [])) []
    ≡ lines
    (heard at_least_once ++ gets two (codes "40020006") ∷ gets two (codes "40020007")
    ∷ gets one (of_hi (codes "32") (codes "01"))
    ∷ gets one (codes "32130003612F6200030068656C6C6F20776F726C64") ∷ gets one resumed
    ∷ gets one (of_hi (codes "3A") (codes "01"))
    ∷ gets one resumed ∷ gets one (of_hi (codes "3A") (codes "01"))
    ∷ gets one (codes "3A130003612F6200030068656C6C6F20776F726C64") ∷ [])
unfolding running
passed_behind_another = refl

-- an entry that was passed over is finished by the first pump after the entry in front of it is
passed_when_reached : text_of_script whole (lines (listening at_least_once ++ send two (of_hi (codes "32") (codes "06"))
    ∷ send two (codes "32130003612F6200070068656C6C6F20776F726C64") ∷ pumps one ∷ opens one
    ∷ send one (codes "101800044D5154540500003C0A1100000E102700000014000161") ∷ pumps one ∷ send one (codes "40020001")
    ∷ pumps one ∷ opens one
    ∷ send one connect_a ∷ pumps one ∷ [])) []
    ≡ lines
    (heard at_least_once ++ gets two (codes "40020006") ∷ gets two (codes "40020007")
    ∷ gets one (of_hi (codes "32") (codes "01"))
    ∷ gets one (codes "32130003612F6200030068656C6C6F20776F726C64") ∷ gets one resumed
    ∷ gets one (of_hi (codes "3A") (codes "01"))
    ∷ gets one resumed ∷ [])
unfolding running
passed_when_reached = refl

-- an entry over the limit is not passed over before its turn: an acknowledgement of the one behind it is out of order
not_passed_before_its_turn : text_of_script whole
    (lines (listening at_least_once ++ send two (codes "32130003612F6200060068656C6C6F20776F726C64")
    ∷ send two (of_hi (codes "32") (codes "07")) ∷ pumps one ∷ opens one
    ∷ send one (codes "101800044D5154540500003C0A1100000E102700000014000161")
    ∷ send one (codes "40020003") ∷ [])) []
    ≡ lines (heard at_least_once ++ gets two (codes "40020006") ∷ gets two (codes "40020007")
    ∷ gets one (codes "32130003612F6200010068656C6C6F20776F726C64") ∷ gets one (of_hi (codes "32") (codes "03"))
    ∷ gets one resumed
    ∷ gets one (codes "E00182") ∷ ended one ∷ [])
unfolding running
not_passed_before_its_turn = refl

-- a pump that only passes entries over issues nothing; the next one does
all_passed_over : text_of_script whole
    (lines (listening at_least_once ++ send two (codes "32130003612F6200060068656C6C6F20776F726C64")
    ∷ pumps one ∷ opens one ∷ send one (codes "101800044D5154540500003C0A1100000E102700000014000161")
    ∷ send two (of_hi (codes "32") (codes "07"))
    ∷ pumps one ∷ pumps one ∷ [])) []
    ≡ lines
    (heard at_least_once ++ gets two (codes "40020006")
    ∷ gets one (codes "32130003612F6200010068656C6C6F20776F726C64") ∷ gets one resumed
    ∷ gets two (codes "40020007") ∷ gets one (of_hi (codes "32") (codes "03")) ∷ [])
unfolding running
all_passed_over = refl

-- while something is to be sent again nothing new is issued
again_before_new : text_of_script whole
    (lines (listening at_least_once ++ send two (of_hi (codes "32") (codes "07")) ∷ pumps one ∷ opens one
    ∷ send one connect_a ∷ send two (of_hi (codes "32") (codes "08")) ∷ pumps one ∷ pumps one ∷ [])) []
    ≡ lines
    (heard at_least_once ++ gets two (codes "40020007") ∷ gets one (of_hi (codes "32") (codes "01"))
    ∷ gets one resumed
    ∷ gets two (codes "40020008") ∷ gets one (of_hi (codes "3A") (codes "01"))
    ∷ gets one (of_hi (codes "32") (codes "03")) ∷ [])
unfolding running
again_before_new = refl

-- what is acknowledged before its turn is left out, and the same pump issues
acknowledged_before_its_turn : text_of_script whole
    (lines (listening at_least_once ++ send two (of_hi (codes "32") (codes "07")) ∷ pumps one
    ∷ opens one ∷ send one connect_a ∷ send two (of_hi (codes "32") (codes "08")) ∷ send one (codes "40020001")
    ∷ pumps one ∷ [])) []
    ≡ lines
    (heard at_least_once ++ gets two (codes "40020007") ∷ gets one (of_hi (codes "32") (codes "01"))
    ∷ gets one resumed
    ∷ gets two (codes "40020008") ∷ gets one (of_hi (codes "32") (codes "03")) ∷ [])
unfolding running
acknowledged_before_its_turn = refl

-- a pump sends a batch again at most
again_by_batches : text_of_script (record whole { batch = 2 })
    (lines (listening at_least_once ++ send two (of_hi (codes "32") (codes "07"))
    ∷ send two (of_hi (codes "32") (codes "08")) ∷ send two (of_hi (codes "32") (codes "09")) ∷ pumps one ∷ pumps one
    ∷ opens one
    ∷ send one connect_a ∷ pumps one ∷ pumps one ∷ [])) []
    ≡ lines
    (heard at_least_once ++ gets two (codes "40020007") ∷ gets two (codes "40020008") ∷ gets two (codes "40020009")
    ∷ gets one (of_hi (codes "32") (codes "01")) ∷ gets one (of_hi (codes "32") (codes "03"))
    ∷ gets one (of_hi (codes "32") (codes "05"))
    ∷ gets one resumed ∷ gets one (of_hi (codes "3A") (codes "01")) ∷ gets one (of_hi (codes "3A") (codes "03"))
    ∷ gets one (of_hi (codes "3A") (codes "05")) ∷ [])
unfolding running
again_by_batches = refl

-- ---- the quota

-- PUBREC gives nothing back to the quota, PUBCOMP does, and so does a PUBREC with an error reason
quota_of_qos_two : text_of_script whole
    (lines (opens one ∷ send one (codes "101600044D5154540500003C081100000E10210001000161")
    ∷ send one (codes "82090001000003612F6202") ∷ opens two ∷ send two connect_p
    ∷ send two (of_hi (codes "34") (codes "05"))
    ∷ send two (of_hi (codes "34") (codes "06")) ∷ send two (of_hi (codes "34") (codes "07")) ∷ pumps one
    ∷ send one (codes "50020002")
    ∷ pumps one ∷ send one (codes "70020002") ∷ pumps one ∷ send one (codes "5003000480") ∷ pumps one ∷ [])) []
    ≡ lines
    (gets one accepted ∷ gets one (codes "900400010002") ∷ gets two accepted ∷ gets two (codes "50020005")
    ∷ gets two (codes "50020006")
    ∷ gets two (codes "50020007") ∷ gets one (of_hi (codes "34") (codes "02")) ∷ gets one (codes "62020002")
    ∷ gets one (of_hi (codes "34") (codes "04")) ∷ gets one (of_hi (codes "34") (codes "06")) ∷ [])
unfolding running
quota_of_qos_two = refl

-- an acknowledgement of what this connection was not sent yet does not raise the quota above its start
quota_never_above_its_start : text_of_script whole
    (lines (listening at_least_once ++ send two (of_hi (codes "32") (codes "07"))
    ∷ send two (of_hi (codes "32") (codes "08")) ∷ send two (of_hi (codes "32") (codes "09")) ∷ pumps one ∷ opens one
    ∷ send one (codes "101600044D5154540500003C081100000E10210001000161") ∷ send one (codes "40020001") ∷ pumps one
    ∷ pumps one ∷ [])) []
    ≡ lines
    (heard at_least_once ++ gets two (codes "40020007") ∷ gets two (codes "40020008") ∷ gets two (codes "40020009")
    ∷ gets one (of_hi (codes "32") (codes "01")) ∷ gets one (of_hi (codes "32") (codes "03"))
    ∷ gets one (of_hi (codes "32") (codes "05"))
    ∷ gets one resumed ∷ gets one (of_hi (codes "3A") (codes "03")) ∷ [])
unfolding running
quota_never_above_its_start = refl

-- PUBREL needs no quota, and still waits behind a publish that has none
quota_holds_the_order : text_of_script whole
    (lines (listening exactly_once ++ send two (of_hi (codes "32") (codes "06"))
    ∷ send two (of_hi (codes "32") (codes "07")) ∷ send two (of_hi (codes "34") (codes "08")) ∷ pumps one
    ∷ send one (codes "50020002")
    ∷ opens one ∷ send one (codes "101600044D5154540500003C081100000E10210001000161") ∷ pumps one ∷ pumps one
    ∷ send one (codes "40020001")
    ∷ pumps one ∷ [])) []
    ≡ lines
    (heard exactly_once ++ gets two (codes "40020006") ∷ gets two (codes "40020007") ∷ gets two (codes "50020008")
    ∷ gets one (of_hi (codes "32") (codes "01")) ∷ gets one (of_hi (codes "32") (codes "03"))
    ∷ gets one (of_hi (codes "34") (codes "02"))
    ∷ gets one (codes "62020002") ∷ gets one resumed ∷ gets one (of_hi (codes "3A") (codes "01"))
    ∷ gets one (of_hi (codes "3A") (codes "03"))
    ∷ gets one (codes "62020002") ∷ [])
unfolding running
quota_holds_the_order = refl

-- a released entry takes nothing from the quota
quota_and_released : text_of_script whole (lines (listening exactly_once ++ send two (of_hi (codes "34") (codes "05"))
    ∷ send two (of_hi (codes "34") (codes "06")) ∷ pumps one ∷ send one (codes "50020002") ∷ opens one
    ∷ send one (codes "101600044D5154540500003C081100000E10210001000161") ∷ pumps one ∷ [])) []
    ≡ lines
    (heard exactly_once ++ gets two (codes "50020005") ∷ gets two (codes "50020006")
    ∷ gets one (of_hi (codes "34") (codes "02"))
    ∷ gets one (of_hi (codes "34") (codes "04")) ∷ gets one (codes "62020002") ∷ gets one resumed
    ∷ gets one (codes "62020002")
    ∷ gets one (of_hi (codes "3C") (codes "04")) ∷ [])
unfolding running
quota_and_released = refl

-- without a quota a message of QoS 0 waits as well
quota_and_qos_zero : text_of_script whole
    (lines (opens one ∷ send one (codes "101600044D5154540500003C081100000E10210001000161")
    ∷ send one subscribe ∷ opens two ∷ send two connect_p ∷ send two (of_hi (codes "32") (codes "07"))
    ∷ send two (codes "30080003612F62006869")
    ∷ pumps one ∷ pumps one ∷ send one (codes "40020001") ∷ pumps one ∷ [])) []
    ≡ lines (gets one accepted ∷ gets one (codes "900400010001") ∷ gets two accepted ∷ gets two (codes "40020007")
    ∷ gets one (of_hi (codes "32") (codes "01")) ∷ gets one (codes "30080003612F62006869") ∷ [])
unfolding running
quota_and_qos_zero = refl

-- ---- expiry

-- a message that was issued comes again after its time, with nothing left of it
expires_before_it_is_sent_again : text_of_script whole
    (lines (listening at_least_once ++ send two (codes "320F0003612F62000705020000000A6869")
    ∷ pumps one ∷ codes "tick 4000" ∷ opens one ∷ send one connect_a ∷ pumps one ∷ codes "tick 60000" ∷ opens one
    ∷ send one connect_a ∷ pumps one
    ∷ [])) []
    ≡ lines
    (heard at_least_once ++ gets two (codes "40020007") ∷ gets one (codes "320F0003612F62000105020000000A6869")
    ∷ gets one resumed
    ∷ gets one (codes "3A0F0003612F6200010502000000066869") ∷ gets one resumed
    ∷ gets one (codes "3A0F0003612F6200010502000000006869") ∷ [])
unfolding running
expires_before_it_is_sent_again = refl

-- a batch of expired messages is cut before one that has not expired: the first pump sends nothing
expired_in_front : text_of_script whole
    (lines (listening at_least_once ++ send two (codes "320F0003612F62000605020000000A6869")
    ∷ send two (of_hi (codes "32") (codes "07")) ∷ codes "tick 10000" ∷ pumps one ∷ pumps one ∷ [])) []
    ≡ lines
    (heard at_least_once ++ gets two (codes "40020006") ∷ gets two (codes "40020007")
    ∷ gets one (of_hi (codes "32") (codes "01")) ∷ [])
unfolding running
expired_in_front = refl

-- a batch is cut before an expired message, too, which is then issued silently and takes no identifier
expired_behind : text_of_script whole (lines (listening at_least_once ++ send two (of_hi (codes "32") (codes "06"))
    ∷ send two (codes "320F0003612F62000705020000000A6869") ∷ send two (of_hi (codes "32") (codes "08"))
    ∷ codes "tick 10000" ∷ pumps one
    ∷ pumps one ∷ pumps one ∷ [])) []
    ≡ lines
    (heard at_least_once ++ gets two (codes "40020006") ∷ gets two (codes "40020007") ∷ gets two (codes "40020008")
    ∷ gets one (of_hi (codes "32") (codes "01")) ∷ gets one (of_hi (codes "32") (codes "03")) ∷ [])
unfolding running
expired_behind = refl

-- an interval of 0 is over at once; one of a second is over after 1000 milliseconds and not before
expires_at_once : text_of_script whole
    (lines (listening at_least_once ++ send two (codes "320F0003612F6200060502000000006869") ∷ pumps one
    ∷ send two (codes "320F0003612F6200070502000000016869") ∷ codes "tick 999" ∷ pumps one
    ∷ send two (codes "320F0003612F6200080502000000016869")
    ∷ codes "tick 1000" ∷ pumps one ∷ [])) []
    ≡ lines (heard at_least_once ++ gets two (codes "40020006") ∷ gets two (codes "40020007")
    ∷ gets one (codes "320F0003612F6200010502000000016869") ∷ gets two (codes "40020008") ∷ [])
unfolding running
expires_at_once = refl

-- ---- batches

-- a batch is cut before the packet that would pass its bytes
batch_bytes : text_of_script (record whole { batch_bytes = 24 })
    (lines (listening at_least_once ++ send two (of_hi (codes "32") (codes "07"))
    ∷ send two (of_hi (codes "32") (codes "08")) ∷ send two (of_hi (codes "32") (codes "09")) ∷ pumps one ∷ pumps one
    ∷ [])) []
    ≡ lines
    (heard at_least_once ++ gets two (codes "40020007") ∷ gets two (codes "40020008") ∷ gets two (codes "40020009")
    ∷ gets one (of_hi (codes "32") (codes "01")) ∷ gets one (of_hi (codes "32") (codes "03"))
    ∷ gets one (of_hi (codes "32") (codes "05")) ∷ [])
unfolding running
batch_bytes = refl

-- a single packet may pass the bytes of a batch
batch_of_one : text_of_script (record whole { batch_bytes = 5 })
    (lines (listening at_least_once ++ send two (of_hi (codes "32") (codes "07"))
    ∷ send two (of_hi (codes "32") (codes "08")) ∷ pumps one ∷ pumps one ∷ pumps one ∷ [])) []
    ≡ lines
    (heard at_least_once ++ gets two (codes "40020007") ∷ gets two (codes "40020008")
    ∷ gets one (of_hi (codes "32") (codes "01"))
    ∷ gets one (of_hi (codes "32") (codes "03")) ∷ [])
unfolding running
batch_of_one = refl

-- a silent entry counts as one of its batch: with batches of one the first pump sends nothing
silent_entries_count : text_of_script (record whole { batch = 1 }) (lines (opens one ∷ send one connect_a
    ∷ send one (codes "82090001000003612F6205") ∷ opens two ∷ send two connect_p
    ∷ send one (of_hi (codes "32") (codes "06"))
    ∷ send two (of_hi (codes "32") (codes "07")) ∷ pumps one ∷ pumps one ∷ [])) []
    ≡ lines
    (gets one accepted ∷ gets one (codes "900400010001") ∷ gets two accepted ∷ gets one (codes "40020006")
    ∷ gets two (codes "40020007")
    ∷ gets one (of_hi (codes "32") (codes "01")) ∷ [])
unfolding running
silent_entries_count = refl

-- the bytes of a silent entry do not count: the message behind it comes with the first pump, the next one with the
-- second
silent_bytes_do_not : text_of_script (record whole { batch_bytes = 12 }) (lines (opens one ∷ send one connect_a
    ∷ send one (codes "82090001000003612F6205") ∷ opens two ∷ send two connect_p
    ∷ send one (of_hi (codes "32") (codes "06"))
    ∷ send two (of_hi (codes "32") (codes "07")) ∷ send two (of_hi (codes "32") (codes "08")) ∷ pumps one
    ∷ send two (codes "C000") ∷ pumps one
    ∷ [])) []
    ≡ lines
    (gets one accepted ∷ gets one (codes "900400010001") ∷ gets two accepted ∷ gets one (codes "40020006")
    ∷ gets two (codes "40020007")
    ∷ gets two (codes "40020008") ∷ gets one (of_hi (codes "32") (codes "01")) ∷ gets two (codes "D000")
    ∷ gets one (of_hi (codes "32") (codes "03")) ∷ [])
unfolding running
silent_bytes_do_not = refl

-- a pump goes on behind the subscription that it served last
by_turns : text_of_script whole
    (lines (opens one ∷ send one connect_a ∷ send one (codes "820F0001000003612F62010003612F6301") ∷ opens two
    ∷ send two connect_p ∷ send two (of_hi (codes "32") (codes "06")) ∷ pumps one
    ∷ send two (of_hi (codes "32") (codes "07"))
    ∷ send two (codes "320A0003612F630008006869") ∷ pumps one ∷ pumps one ∷ [])) []
    ≡ lines (gets one accepted ∷ gets one (codes "90050001000101") ∷ gets two accepted ∷ gets two (codes "40020006")
    ∷ gets one (of_hi (codes "32") (codes "01")) ∷ gets two (codes "40020007") ∷ gets two (codes "40020008")
    ∷ gets one (codes "320A0003612F630003006869") ∷ gets one (of_hi (codes "32") (codes "05")) ∷ [])
unfolding running
by_turns = refl

-- a new connection begins with the first subscription again
turns_of_a_connection : text_of_script whole
    (lines (opens one ∷ send one connect_a ∷ send one (codes "820F0001000003612F62000003612F6300")
    ∷ opens two ∷ send two connect_p ∷ send two (of_hi (codes "32") (codes "06")) ∷ pumps one
    ∷ send two (of_hi (codes "32") (codes "07"))
    ∷ send two (codes "320A0003612F630008006869") ∷ opens one ∷ send one connect_a ∷ pumps one ∷ pumps one ∷ [])) []
    ≡ lines (gets one accepted ∷ gets one (codes "90050001000000") ∷ gets two accepted ∷ gets two (codes "40020006")
    ∷ gets one (codes "30080003612F62006869") ∷ gets two (codes "40020007") ∷ gets two (codes "40020008")
    ∷ gets one resumed
    ∷ gets one (codes "30080003612F62006869") ∷ gets one (codes "30080003612F63006869") ∷ [])
unfolding running
turns_of_a_connection = refl

-- a pump before the CONNECT does nothing
pump_of_no_client : text_of_script whole (lines (opens one ∷ pumps one ∷ send one connect_a ∷ pumps one ∷ [])) []
    ≡ lines (gets one accepted ∷ [])
unfolding running
pump_of_no_client = refl

-- a client that takes 2048 at once may have a wide window, as long as one is left; it is kept when the session is
-- resumed
wide_window : text_of_script
    (record whole { window = 1; batch = 1; wide_window = 2; wide_batch = 2; wide_sessions = 1 }) (lines (opens one
    ∷ send one (codes "101600044D5154540500003C081100000E10210800000161") ∷ opens two
    ∷ send two (codes "101600044D5154540500003C081100000E10210800000170") ∷ send one subscribe ∷ send two subscribe
    ∷ send two (of_hi (codes "32") (codes "07")) ∷ send two (of_hi (codes "32") (codes "08")) ∷ opens one
    ∷ send one connect_a ∷ pumps one
    ∷ pumps two ∷ pumps two ∷ [])) []
    ≡ lines (gets one accepted ∷ gets two accepted ∷ gets one (codes "900400010001") ∷ gets two (codes "900400010001")
    ∷ gets two (codes "40020007") ∷ gets two (codes "40020008") ∷ gets one resumed
    ∷ gets one (of_hi (codes "32") (codes "01"))
    ∷ gets one (of_hi (codes "32") (codes "03")) ∷ gets two (of_hi (codes "32") (codes "01")) ∷ [])
unfolding running
wide_window = refl

-- without a Receive Maximum the window is not wide, although the client would take more
no_wide_window : text_of_script
    (record whole { window = 1; batch = 1; wide_window = 2; wide_batch = 2; wide_sessions = 1 })
    (lines
    (listening at_least_once ++ send two (of_hi (codes "32") (codes "07"))
    ∷ send two (of_hi (codes "32") (codes "08")) ∷ pumps one
    ∷ pumps one ∷ [])) []
    ≡ lines
    (heard at_least_once ++ gets two (codes "40020007") ∷ gets two (codes "40020008")
    ∷ gets one (of_hi (codes "32") (codes "01")) ∷ [])
unfolding running
no_wide_window = refl
