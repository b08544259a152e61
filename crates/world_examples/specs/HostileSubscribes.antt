-- SUBSCRIBE and UNSUBSCRIBE: every reason, the limits, filters that are subscribed again, No Local, and what stays of
-- ended ones.
use Rattle.std.specs.Prelude.{◌≡◌, refl, [], ◌∷◌, ◌++◌, codes}
use Rattle.topic_model.specs.Profile.{whole}
use Rattle.world_model.specs.Running.{text_of_script}
use Rattle.world_model.specs.Computing.{running}
use Rattle.world_examples.specs.HostileWords.{lines, one, two, opens, pumps, send, gets, ended, connect_a, connect_p}
use Rattle.world_examples.specs.HostileWords.{accepted, resumed, subscribe, of_hi, at_least_once, listening, heard}
use Rattle.world_examples.specs.HostileWords.{times}

-- each filter has its own reason; at the limit of subscriptions an equal filter is still granted
every_reason : text_of_script (record whole { subscriptions = 3 }) (lines (opens one ∷ send one connect_a
    ∷ send one (codes "8229000100000A2473686172652F672F61010002612B010001610000016201000163020001640000016101") ∷ []))
    []
    ≡ lines (gets one accepted ∷ gets one (codes "900A0001009E8F0001029701") ∷ [])
unfolding running
every_reason = refl

-- past the places that may be granted even an equal filter is refused; sharing and bad filters are named before
places_past_the_limit : text_of_script (record whole { granted = 2 }) (lines (opens one ∷ send one connect_a
    ∷ send one (codes "82250001000001610000016200000163000002612B00000A2473686172652F672F610000016100") ∷ [])) []
    ≡ lines (gets one accepted ∷ gets one (codes "90090001000000978F9E97") ∷ [])
unfolding running
places_past_the_limit = refl

-- the texts of the filters count together, up to the limit itself; an ended one that nothing needs counts no more
kept_texts : text_of_script (record whole { filter_texts = 5 }) (lines (opens one ∷ send one connect_a
    ∷ send one (codes "82140001000003612F62010003632F64010002636401") ∷ send one (codes "A2080002000003612F62")
    ∷ send one (codes "82090003000003632F6401") ∷ [])) []
    ≡ lines
    (gets one accepted ∷ gets one (codes "9006000100019701") ∷ gets one (codes "B00400020000")
    ∷ gets one (codes "900400030001") ∷ [])
unfolding running
kept_texts = refl

-- the text of an ended filter counts until its last delivery is acknowledged
ended_text_while_unfinished : text_of_script (record whole { filter_texts = 3 }) (lines (listening at_least_once
    ++ send two (of_hi (codes "32") (codes "07")) ∷ pumps one ∷ send one (codes "A2080002000003612F62")
    ∷ send one (codes "820700030000016301")
    ∷ send one (codes "40020001") ∷ send one (codes "820700040000016301") ∷ [])) []
    ≡ lines
    (heard at_least_once ++ gets two (codes "40020007") ∷ gets one (of_hi (codes "32") (codes "01"))
    ∷ gets one (codes "B00400020000")
    ∷ gets one (codes "900400030097") ∷ gets one (codes "900400040001") ∷ [])
unfolding running
ended_text_while_unfinished = refl

-- a SUBACK that the client would not take closes its connection, and the subscription stands
suback_over_limit : text_of_script whole
    (lines (opens one ∷ send one (codes "101800044D5154540500003C0A1100000E102700000011000161")
    ∷ send one
    (codes "82510001000003612F62010003612F62010003612F62010003612F62010003612F62010003612F62010003612F6201000361"
    ++ codes "2F62010003612F62010003612F62010003612F62010003612F62010003612F6201") ∷ opens two ∷ send two connect_p
    ∷ send two (of_hi (codes "32") (codes "07")) ∷ opens one ∷ send one connect_a ∷ pumps one ∷ [])) []
    ≡ lines (gets one accepted ∷ ended one ∷ gets two accepted ∷ gets two (codes "40020007") ∷ gets one resumed
    ∷ gets one (of_hi (codes "32") (codes "01")) ∷ [])
unfolding running
suback_over_limit = refl

-- a filter of 129 levels is none, one of 128 is
filter_levels : text_of_script whole
    (lines (opens one ∷ send one connect_a ∷ send one (codes "8286010001000080" ++ times 128 (codes "2F")
    ++ codes "01") ∷ send one (codes "828501000200007F" ++ times 127 (codes "2F") ++ codes "01") ∷ [])) []
    ≡ lines (gets one accepted ∷ gets one (codes "90040001008F") ∷ gets one (codes "900400020001") ∷ [])
unfolding running
filter_levels = refl

-- of options: a reserved bit is malformed, also beside QoS 3; QoS 3 and Retain Handling 3 break rules
options_and_headers : text_of_script whole
    (lines (opens one ∷ send one connect_a ∷ send one (codes "820700010000016143") ∷ opens one
    ∷ send one connect_a ∷ send one (codes "820700010000016103") ∷ opens one ∷ send one connect_a
    ∷ send one (codes "820700010000016130")
    ∷ [])) []
    ≡ lines
    (gets one accepted ∷ gets one (codes "E00181") ∷ ended one ∷ gets one resumed ∷ gets one (codes "E00182")
    ∷ ended one
    ∷ gets one resumed ∷ gets one (codes "E00182") ∷ ended one ∷ [])
unfolding running
options_and_headers = refl

-- no filter breaks a rule in SUBSCRIBE and in UNSUBSCRIBE
without_a_filter : text_of_script whole
    (lines (opens one ∷ send one connect_a ∷ send one (codes "8203000100") ∷ opens one ∷ send one connect_a
    ∷ send one (codes "A203000100") ∷ [])) []
    ≡ lines
    (gets one accepted ∷ gets one (codes "E00182") ∷ ended one ∷ gets one resumed ∷ gets one (codes "E00182")
    ∷ ended one ∷ [])
unfolding running
without_a_filter = refl

-- wrong flags and an identifier 0 are malformed; a Subscription Identifier of 0 breaks a rule
subscribe_headers : text_of_script whole
    (lines (opens one ∷ send one connect_a ∷ send one (codes "800700010000016101") ∷ opens one
    ∷ send one connect_a ∷ send one (codes "820700000000016101") ∷ opens one ∷ send one connect_a
    ∷ send one (codes "82090001020B0000016101")
    ∷ [])) []
    ≡ lines
    (gets one accepted ∷ gets one (codes "E00181") ∷ ended one ∷ gets one resumed ∷ gets one (codes "E00181")
    ∷ ended one
    ∷ gets one resumed ∷ gets one (codes "E00182") ∷ ended one ∷ [])
unfolding running
subscribe_headers = refl

-- within one UNSUBSCRIBE: ended, not there any more, no filter
ended_twice : text_of_script whole (lines (opens one ∷ send one connect_a ∷ send one subscribe
    ∷ send one (codes "A2110002000003612F620003612F620002612B") ∷ [])) []
    ≡ lines (gets one accepted ∷ gets one (codes "900400010001") ∷ gets one (codes "B00600020000118F") ∷ [])
unfolding running
ended_twice = refl

-- what an ended subscription left unfinished is sent again; it gets nothing new
unfinished_of_an_ended_one : text_of_script whole
    (lines (listening at_least_once ++ send two (of_hi (codes "32") (codes "07")) ∷ pumps one
    ∷ send one (codes "A2080002000003612F62") ∷ send two (of_hi (codes "32") (codes "08")) ∷ codes "crash 1" ∷ opens one
    ∷ send one connect_a
    ∷ pumps one ∷ pumps one ∷ [])) []
    ≡ lines
    (heard at_least_once ++ gets two (codes "40020007") ∷ gets one (of_hi (codes "32") (codes "01"))
    ∷ gets one (codes "B00400020000")
    ∷ gets two (codes "40020008") ∷ codes "crashed" ∷ gets one resumed ∷ gets one (of_hi (codes "3A") (codes "01"))
    ∷ [])
unfolding running
unfinished_of_an_ended_one = refl

-- a filter that was ended and comes back is a new subscription, which begins behind what is stored
subscribed_anew : text_of_script whole (lines (listening at_least_once ++ send two (of_hi (codes "32") (codes "07"))
    ∷ send one (codes "A2080002000003612F62") ∷ send one (codes "82090003000003612F6201") ∷ pumps one
    ∷ send two (of_hi (codes "32") (codes "08"))
    ∷ pumps one ∷ [])) []
    ≡ lines
    (heard at_least_once ++ gets two (codes "40020007") ∷ gets one (codes "B00400020000")
    ∷ gets one (codes "900400030001")
    ∷ gets two (codes "40020008") ∷ gets one (of_hi (codes "32") (codes "01")) ∷ [])
unfolding running
subscribed_anew = refl

-- an equal filter keeps the place: what waited is delivered, and once
equal_filter : text_of_script whole (lines (listening at_least_once ++ send two (of_hi (codes "32") (codes "07"))
    ∷ send one (codes "82090002000003612F6201") ∷ pumps one ∷ pumps one ∷ [])) []
    ≡ lines
    (heard at_least_once ++ gets two (codes "40020007") ∷ gets one (codes "900400020001")
    ∷ gets one (of_hi (codes "32") (codes "01"))
    ∷ [])
unfolding running
equal_filter = refl

-- what was issued keeps the identifier of its subscription when it is sent again, what comes later has the new one
replaced_between_pumps : text_of_script whole
    (lines (opens one ∷ send one connect_a ∷ send one (codes "820B0001020B050003612F6201") ∷ opens two
    ∷ send two connect_p ∷ send two (of_hi (codes "32") (codes "07")) ∷ pumps one
    ∷ send one (codes "820B0002020B090003612F6201")
    ∷ send two (of_hi (codes "32") (codes "08")) ∷ pumps one ∷ codes "crash 1" ∷ opens one ∷ send one connect_a
    ∷ pumps one ∷ [])) []
    ≡ lines (gets one accepted ∷ gets one (codes "900400010001") ∷ gets two accepted ∷ gets two (codes "40020007")
    ∷ gets one (codes "320C0003612F620001020B056869") ∷ gets one (codes "900400020001") ∷ gets two (codes "40020008")
    ∷ gets one (codes "320C0003612F620003020B096869") ∷ codes "crashed" ∷ gets one resumed
    ∷ gets one (codes "3A0C0003612F620001020B056869")
    ∷ gets one (codes "3A0C0003612F620003020B096869") ∷ [])
unfolding running
replaced_between_pumps = refl

-- what waits when its subscription is replaced is issued under the new one, here with the QoS 0 of that
replaced_while_waiting : text_of_script (record whole { batch = 1 })
    (lines (listening at_least_once ++ send two (of_hi (codes "32") (codes "07"))
    ∷ send two (of_hi (codes "32") (codes "08")) ∷ pumps one ∷ send one (codes "820B0002020B090003612F6200") ∷ pumps one
    ∷ codes "crash 1"
    ∷ opens one ∷ send one connect_a ∷ pumps one ∷ pumps one ∷ [])) []
    ≡ lines
    (heard at_least_once ++ gets two (codes "40020007") ∷ gets two (codes "40020008")
    ∷ gets one (of_hi (codes "32") (codes "01"))
    ∷ gets one (codes "900400020000") ∷ gets one (codes "300A0003612F62020B096869") ∷ codes "crashed" ∷ gets one resumed
    ∷ gets one (of_hi (codes "3A") (codes "01")) ∷ [])
unfolding running
replaced_while_waiting = refl

-- the publisher's properties go out by ascending identifier, with the Subscription Identifier at its place
properties_in_order : text_of_script whole
    (lines (opens one ∷ send one connect_a ∷ send one (codes "820B0001020B050003612F6201") ∷ opens two
    ∷ send two connect_p ∷ send two (codes "32130003612F620007092600016100016201016869") ∷ pumps one ∷ [])) []
    ≡ lines (gets one accepted ∷ gets one (codes "900400010001") ∷ gets two accepted ∷ gets two (codes "40020007")
    ∷ gets one (codes "32150003612F6200010B01010B05260001610001626869") ∷ [])
unfolding running
properties_in_order = refl

-- an own message under No Local is issued without being sent and takes no identifier; that of another client comes
no_local : text_of_script whole
    (lines (opens one ∷ send one connect_a ∷ send one (codes "82090001000003612F6205") ∷ opens two
    ∷ send two connect_p ∷ send one (of_hi (codes "32") (codes "06")) ∷ send two (of_hi (codes "32") (codes "07"))
    ∷ pumps one ∷ codes "crash 1"
    ∷ opens one ∷ send one connect_a ∷ pumps one ∷ pumps one ∷ [])) []
    ≡ lines
    (gets one accepted ∷ gets one (codes "900400010001") ∷ gets two accepted ∷ gets one (codes "40020006")
    ∷ gets two (codes "40020007")
    ∷ gets one (of_hi (codes "32") (codes "01")) ∷ codes "crashed" ∷ gets one resumed
    ∷ gets one (of_hi (codes "3A") (codes "01")) ∷ [])
unfolding running
no_local = refl

-- an own message that was issued silently does not come when No Local is taken back
no_local_taken_back : text_of_script whole
    (lines (opens one ∷ send one connect_a ∷ send one (codes "82090001000003612F6205")
    ∷ send one (of_hi (codes "32") (codes "06")) ∷ pumps one ∷ send one (codes "82090002000003612F6201") ∷ pumps one
    ∷ send one (of_hi (codes "32") (codes "07")) ∷ pumps one ∷ [])) []
    ≡ lines
    (gets one accepted ∷ gets one (codes "900400010001") ∷ gets one (codes "40020006")
    ∷ gets one (codes "900400020001")
    ∷ gets one (codes "40020007") ∷ gets one (of_hi (codes "32") (codes "01")) ∷ [])
unfolding running
no_local_taken_back = refl

-- two filters that match one message each get it, one pump each, under identifiers of their own
overlapping_filters : text_of_script whole
    (lines (opens one ∷ send one connect_a ∷ send one (codes "820F0001000003612F62010003612F2B01")
    ∷ opens two ∷ send two connect_p ∷ send two (of_hi (codes "32") (codes "07")) ∷ pumps one ∷ pumps one ∷ pumps one
    ∷ [])) []
    ≡ lines (gets one accepted ∷ gets one (codes "90050001000101") ∷ gets two accepted ∷ gets two (codes "40020007")
    ∷ gets one (of_hi (codes "32") (codes "01")) ∷ gets one (of_hi (codes "32") (codes "03")) ∷ [])
unfolding running
overlapping_filters = refl
