-- PUBACK, PUBREC and PUBCOMP in and out of order, the window, and the answers that `ack` gives.
use Rattle.std.specs.Prelude.{◌≡◌, refl, [], ◌∷◌, ◌++◌, codes}
use Rattle.topic_model.specs.Profile.{whole}
use Rattle.world_model.specs.Running.{text_of_script}
use Rattle.world_model.specs.Computing.{running}
use Rattle.world_examples.specs.HostileWords.{lines, one, two, three, opens, pumps, acks, send, gets}
use Rattle.world_examples.specs.HostileWords.{ended, connect_a, resumed, of_hi, at_least_once, exactly_once, listening}
use Rattle.world_examples.specs.HostileWords.{heard}

-- a PUBACK that is not the track's next closes and finishes nothing
puback_out_of_order : text_of_script whole (lines (listening at_least_once ++ send two (of_hi (codes "32") (codes "07"))
    ∷ send two (of_hi (codes "32") (codes "08")) ∷ pumps one ∷ send one (codes "40020003") ∷ opens one
    ∷ send one connect_a ∷ pumps one ∷ [])) []
    ≡ lines
    (heard at_least_once ++ gets two (codes "40020007") ∷ gets two (codes "40020008")
    ∷ gets one (of_hi (codes "32") (codes "01"))
    ∷ gets one (of_hi (codes "32") (codes "03")) ∷ gets one (codes "E00182") ∷ ended one ∷ gets one resumed
    ∷ gets one (of_hi (codes "3A") (codes "01")) ∷ gets one (of_hi (codes "3A") (codes "03")) ∷ [])
unfolding running
puback_out_of_order = refl

-- the acknowledgement in front of the wrong one counts, the one behind it does not
puback_out_of_order_in_a_piece : text_of_script whole
    (lines (listening at_least_once ++ send two (of_hi (codes "32") (codes "07"))
    ∷ send two (of_hi (codes "32") (codes "08")) ∷ send two (of_hi (codes "32") (codes "09")) ∷ pumps one
    ∷ send one (codes "400200014002000540020003") ∷ opens one ∷ send one connect_a ∷ pumps one ∷ [])) []
    ≡ lines
    (heard at_least_once ++ gets two (codes "40020007") ∷ gets two (codes "40020008") ∷ gets two (codes "40020009")
    ∷ gets one (of_hi (codes "32") (codes "01")) ∷ gets one (of_hi (codes "32") (codes "03"))
    ∷ gets one (of_hi (codes "32") (codes "05"))
    ∷ gets one (codes "E00182") ∷ ended one ∷ gets one resumed ∷ gets one (of_hi (codes "3A") (codes "03"))
    ∷ gets one (of_hi (codes "3A") (codes "05")) ∷ [])
unfolding running
puback_out_of_order_in_a_piece = refl

-- a PUBACK of what is finished, was never sent, or is of the other track is ignored; one with an error reason finishes
puback_of_others : text_of_script whole (lines (listening at_least_once ++ send two (of_hi (codes "32") (codes "07"))
    ∷ send two (of_hi (codes "32") (codes "08")) ∷ pumps one ∷ send one (codes "4003000180400200014002000940020004")
    ∷ send one (codes "40020003")
    ∷ opens one ∷ send one connect_a ∷ pumps one ∷ [])) []
    ≡ lines
    (heard at_least_once ++ gets two (codes "40020007") ∷ gets two (codes "40020008")
    ∷ gets one (of_hi (codes "32") (codes "01"))
    ∷ gets one (of_hi (codes "32") (codes "03")) ∷ gets one resumed ∷ [])
unfolding running
puback_of_others = refl

-- PUBACK of an unfinished identifier of the other track is ignored as well
puback_on_the_other_track : text_of_script whole
    (lines (listening exactly_once ++ send two (of_hi (codes "34") (codes "05"))
    ∷ send two (of_hi (codes "34") (codes "06")) ∷ pumps one ∷ send one (codes "40020004") ∷ send one (codes "50020002")
    ∷ [])) []
    ≡ lines
    (heard exactly_once ++ gets two (codes "50020005") ∷ gets two (codes "50020006")
    ∷ gets one (of_hi (codes "34") (codes "02"))
    ∷ gets one (of_hi (codes "34") (codes "04")) ∷ gets one (codes "62020002") ∷ [])
unfolding running
puback_on_the_other_track = refl

-- a PUBREC that is not the track's next closes, and nothing is received
pubrec_out_of_order : text_of_script whole (lines (listening exactly_once ++ send two (of_hi (codes "34") (codes "05"))
    ∷ send two (of_hi (codes "34") (codes "06")) ∷ pumps one ∷ send one (codes "50020004") ∷ opens one
    ∷ send one connect_a ∷ pumps one ∷ [])) []
    ≡ lines
    (heard exactly_once ++ gets two (codes "50020005") ∷ gets two (codes "50020006")
    ∷ gets one (of_hi (codes "34") (codes "02"))
    ∷ gets one (of_hi (codes "34") (codes "04")) ∷ gets one (codes "E00182") ∷ ended one ∷ gets one resumed
    ∷ gets one (of_hi (codes "3C") (codes "02")) ∷ gets one (of_hi (codes "3C") (codes "04")) ∷ [])
unfolding running
pubrec_out_of_order = refl

-- a PUBCOMP of what was not received yet closes
pubcomp_before_pubrec : text_of_script whole
    (lines (listening exactly_once ++ send two (of_hi (codes "34") (codes "05"))
    ∷ send two (of_hi (codes "34") (codes "06")) ∷ pumps one ∷ send one (codes "50020002") ∷ send one (codes "70020004")
    ∷ opens one
    ∷ send one connect_a ∷ pumps one ∷ [])) []
    ≡ lines
    (heard exactly_once ++ gets two (codes "50020005") ∷ gets two (codes "50020006")
    ∷ gets one (of_hi (codes "34") (codes "02"))
    ∷ gets one (of_hi (codes "34") (codes "04")) ∷ gets one (codes "62020002") ∷ gets one (codes "E00182") ∷ ended one
    ∷ gets one resumed
    ∷ gets one (codes "62020002") ∷ gets one (of_hi (codes "3C") (codes "04")) ∷ [])
unfolding running
pubcomp_before_pubrec = refl

-- what was received may be completed in any order
pubcomp_in_any_order : text_of_script whole (lines (listening exactly_once ++ send two (of_hi (codes "34") (codes "05"))
    ∷ send two (of_hi (codes "34") (codes "06")) ∷ pumps one ∷ send one (codes "5002000250020004")
    ∷ send one (codes "70020004") ∷ opens one
    ∷ send one connect_a ∷ pumps one ∷ send one (codes "700200027002000270020006") ∷ opens one ∷ send one connect_a
    ∷ pumps one ∷ [])) []
    ≡ lines
    (heard exactly_once ++ gets two (codes "50020005") ∷ gets two (codes "50020006")
    ∷ gets one (of_hi (codes "34") (codes "02"))
    ∷ gets one (of_hi (codes "34") (codes "04")) ∷ gets one (codes "62020002") ∷ gets one (codes "62020004")
    ∷ gets one resumed
    ∷ gets one (codes "62020002") ∷ gets one resumed ∷ [])
unfolding running
pubcomp_in_any_order = refl

-- a PUBREC that comes again is answered by PUBREL again, until PUBCOMP; then it is unknown
pubrec_again : text_of_script whole (lines (listening exactly_once ++ send two (of_hi (codes "34") (codes "05"))
    ∷ send two (of_hi (codes "34") (codes "06")) ∷ pumps one ∷ send one (codes "5002000250020002")
    ∷ send one (codes "5003000280")
    ∷ send one (codes "70020002") ∷ send one (codes "50020002") ∷ [])) []
    ≡ lines
    (heard exactly_once ++ gets two (codes "50020005") ∷ gets two (codes "50020006")
    ∷ gets one (of_hi (codes "34") (codes "02"))
    ∷ gets one (of_hi (codes "34") (codes "04")) ∷ gets one (codes "62020002") ∷ gets one (codes "62020002")
    ∷ gets one (codes "62020002")
    ∷ gets one (codes "6203000292") ∷ [])
unfolding running
pubrec_again = refl

-- a PUBREC with an error reason finishes without a PUBREL; the next one is in order
pubrec_with_an_error : text_of_script whole (lines (listening exactly_once ++ send two (of_hi (codes "34") (codes "05"))
    ∷ send two (of_hi (codes "34") (codes "06")) ∷ pumps one ∷ send one (codes "5003000280")
    ∷ send one (codes "500200027002000250020004")
    ∷ opens one ∷ send one connect_a ∷ pumps one ∷ [])) []
    ≡ lines
    (heard exactly_once ++ gets two (codes "50020005") ∷ gets two (codes "50020006")
    ∷ gets one (of_hi (codes "34") (codes "02"))
    ∷ gets one (of_hi (codes "34") (codes "04")) ∷ gets one (codes "6203000292") ∷ gets one (codes "62020004")
    ∷ gets one resumed
    ∷ gets one (codes "62020004") ∷ [])
unfolding running
pubrec_with_an_error = refl

-- a PUBREC of an identifier of QoS 1 finds nothing, and finishes nothing
pubrec_of_the_other_track : text_of_script whole
    (lines (listening at_least_once ++ send two (of_hi (codes "32") (codes "07"))
    ∷ send two (of_hi (codes "32") (codes "08")) ∷ pumps one ∷ send one (codes "50020001")
    ∷ send one (codes "4002000140020003") ∷ opens one
    ∷ send one connect_a ∷ pumps one ∷ [])) []
    ≡ lines
    (heard at_least_once ++ gets two (codes "40020007") ∷ gets two (codes "40020008")
    ∷ gets one (of_hi (codes "32") (codes "01"))
    ∷ gets one (of_hi (codes "32") (codes "03")) ∷ gets one (codes "6203000192") ∷ gets one resumed ∷ [])
unfolding running
pubrec_of_the_other_track = refl

-- ---- the window

-- a full window gives nothing until the first is acknowledged, and then one
window_opened : text_of_script (record whole { window = 2 })
    (lines (listening at_least_once ++ send two (of_hi (codes "32") (codes "07"))
    ∷ send two (of_hi (codes "32") (codes "08")) ∷ send two (of_hi (codes "32") (codes "09")) ∷ pumps one ∷ pumps one
    ∷ send one (codes "40020001") ∷ pumps one ∷ pumps one ∷ [])) []
    ≡ lines
    (heard at_least_once ++ gets two (codes "40020007") ∷ gets two (codes "40020008") ∷ gets two (codes "40020009")
    ∷ gets one (of_hi (codes "32") (codes "01")) ∷ gets one (of_hi (codes "32") (codes "03"))
    ∷ gets one (of_hi (codes "32") (codes "05")) ∷ [])
unfolding running
window_opened = refl

-- on the other track the window opens only when all from the first on are done
window_of_qos_two : text_of_script (record whole { window = 2 })
    (lines (listening exactly_once ++ send two (of_hi (codes "34") (codes "05"))
    ∷ send two (of_hi (codes "34") (codes "06")) ∷ send two (of_hi (codes "34") (codes "07")) ∷ pumps one
    ∷ send one (codes "5002000250020004")
    ∷ send one (codes "70020004") ∷ pumps one ∷ send one (codes "70020002") ∷ pumps one ∷ [])) []
    ≡ lines
    (heard exactly_once ++ gets two (codes "50020005") ∷ gets two (codes "50020006") ∷ gets two (codes "50020007")
    ∷ gets one (of_hi (codes "34") (codes "02")) ∷ gets one (of_hi (codes "34") (codes "04"))
    ∷ gets one (codes "62020002")
    ∷ gets one (codes "62020004") ∷ gets one (of_hi (codes "34") (codes "06")) ∷ [])
unfolding running
window_of_qos_two = refl

-- both tracks share the window
window_of_both : text_of_script (record whole { window = 2 })
    (lines (listening exactly_once ++ send two (of_hi (codes "32") (codes "07"))
    ∷ send two (of_hi (codes "34") (codes "05")) ∷ send two (of_hi (codes "32") (codes "08")) ∷ pumps one ∷ pumps one
    ∷ send one (codes "40020001") ∷ pumps one ∷ [])) []
    ≡ lines
    (heard exactly_once ++ gets two (codes "40020007") ∷ gets two (codes "50020005") ∷ gets two (codes "40020008")
    ∷ gets one (of_hi (codes "32") (codes "01")) ∷ gets one (of_hi (codes "34") (codes "02"))
    ∷ gets one (of_hi (codes "32") (codes "03")) ∷ [])
unfolding running
window_of_both = refl

-- ---- ack

-- after a takeover nothing is due on either connection until the new one was sent something
ack_after_a_takeover : text_of_script whole
    (lines (listening at_least_once ++ send two (of_hi (codes "32") (codes "07")) ∷ pumps one
    ∷ opens three ∷ send three connect_a ∷ acks one ∷ acks three ∷ pumps three ∷ acks three ∷ opens three
    ∷ send three connect_a ∷ pumps three
    ∷ [])) []
    ≡ lines
    (heard at_least_once ++ gets two (codes "40020007") ∷ gets one (of_hi (codes "32") (codes "01"))
    ∷ gets one (codes "E0018E")
    ∷ ended one ∷ gets three resumed ∷ gets three (of_hi (codes "3A") (codes "01")) ∷ gets three resumed ∷ [])
unfolding running
ack_after_a_takeover = refl

-- first PUBREC, then PUBCOMP; after the PUBCOMP nothing is due
ack_of_qos_two : text_of_script whole
    (lines (listening exactly_once ++ send two (of_hi (codes "34") (codes "05")) ∷ pumps one ∷ acks one
    ∷ acks one ∷ acks one ∷ opens one ∷ send one connect_a ∷ pumps one ∷ [])) []
    ≡ lines
    (heard exactly_once ++ gets two (codes "50020005") ∷ gets one (of_hi (codes "34") (codes "02"))
    ∷ gets one (codes "62020002")
    ∷ gets one resumed ∷ [])
unfolding running
ack_of_qos_two = refl

-- what a `send` line answered is due all the same, and ignored when it comes again
ack_beside_send : text_of_script whole (lines (listening at_least_once ++ send two (of_hi (codes "32") (codes "07"))
    ∷ send two (of_hi (codes "32") (codes "08")) ∷ pumps one ∷ send one (codes "40020001") ∷ acks one ∷ opens one
    ∷ send one connect_a ∷ pumps one
    ∷ [])) []
    ≡ lines
    (heard at_least_once ++ gets two (codes "40020007") ∷ gets two (codes "40020008")
    ∷ gets one (of_hi (codes "32") (codes "01"))
    ∷ gets one (of_hi (codes "32") (codes "03")) ∷ gets one resumed ∷ [])
unfolding running
ack_beside_send = refl
