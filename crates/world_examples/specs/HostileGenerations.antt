-- Generations that fill, are sealed and dropped under what is unfinished or not issued yet, and groups that find no
-- room.
use Rattle.std.specs.Prelude.{◌≡◌, refl, [], ◌∷◌, ◌++◌, codes}
use Rattle.topic_model.specs.Profile.{whole}
use Rattle.world_model.specs.Running.{text_of_script}
use Rattle.world_model.specs.Computing.{running}
use Rattle.world_examples.specs.HostileWords.{lines, one, two, opens, closes, pumps, send, gets, connect_a}
use Rattle.world_examples.specs.HostileWords.{connect_p, accepted, resumed, subscribe, of_hi, at_least_once}
use Rattle.world_examples.specs.HostileWords.{exactly_once, heard}

-- an entry whose generation was dropped is not sent again; the acknowledgements of the next one are in order
dropped_under_unfinished : text_of_script whole
    (lines (codes "set messages 1" ∷ codes "set retention 1000" ∷ opens one ∷ send one connect_a
    ∷ send one (codes "82090001000003612F6202") ∷ opens two ∷ send two connect_p
    ∷ send two (of_hi (codes "34") (codes "05"))
    ∷ send two (of_hi (codes "34") (codes "06")) ∷ pumps one ∷ pumps one ∷ closes one ∷ codes "tick 1000" ∷ opens one
    ∷ send one connect_a
    ∷ pumps one ∷ send one (codes "50020004") ∷ send one (codes "70020004") ∷ pumps one ∷ [])) []
    ≡ lines
    (heard exactly_once ++ gets two (codes "50020005") ∷ gets two (codes "50020006")
    ∷ gets one (of_hi (codes "34") (codes "02"))
    ∷ gets one (of_hi (codes "34") (codes "04")) ∷ gets one resumed ∷ gets one (of_hi (codes "3C") (codes "04"))
    ∷ gets one (codes "62020004")
    ∷ [])
unfolding running
dropped_under_unfinished = refl

-- over a dropped generation the acknowledgement of the next entry is in order before the first pump, too
acknowledged_before_the_pump : text_of_script whole
    (lines (codes "set messages 1" ∷ codes "set retention 1000" ∷ opens one ∷ send one connect_a
    ∷ send one subscribe ∷ opens two ∷ send two connect_p ∷ send two (of_hi (codes "32") (codes "07"))
    ∷ send two (of_hi (codes "32") (codes "08")) ∷ pumps one ∷ pumps one ∷ closes one ∷ codes "tick 1000" ∷ opens one
    ∷ send one connect_a
    ∷ send one (codes "40020003") ∷ pumps one ∷ send two (of_hi (codes "32") (codes "09")) ∷ pumps one ∷ [])) []
    ≡ lines
    (heard at_least_once ++ gets two (codes "40020007") ∷ gets two (codes "40020008")
    ∷ gets one (of_hi (codes "32") (codes "01"))
    ∷ gets one (of_hi (codes "32") (codes "03")) ∷ gets one resumed ∷ gets two (codes "40020009")
    ∷ gets one (of_hi (codes "32") (codes "05"))
    ∷ [])
unfolding running
acknowledged_before_the_pump = refl

-- what was received is completed by PUBREL, although its message is gone
released_below_the_floor : text_of_script whole
    (lines (codes "set messages 1" ∷ codes "set retention 1000" ∷ opens one ∷ send one connect_a
    ∷ send one (codes "82090001000003612F6202") ∷ opens two ∷ send two connect_p
    ∷ send two (of_hi (codes "34") (codes "05")) ∷ pumps one
    ∷ send one (codes "50020002") ∷ send two (of_hi (codes "34") (codes "06")) ∷ closes one ∷ codes "tick 1000"
    ∷ opens one ∷ send one connect_a
    ∷ pumps one ∷ send one (codes "70020002") ∷ pumps one ∷ [])) []
    ≡ lines
    (heard exactly_once ++ gets two (codes "50020005") ∷ gets one (of_hi (codes "34") (codes "02"))
    ∷ gets one (codes "62020002")
    ∷ gets two (codes "50020006") ∷ gets one resumed ∷ gets one (codes "62020002")
    ∷ gets one (of_hi (codes "34") (codes "04")) ∷ [])
unfolding running
released_below_the_floor = refl

-- a generation that is dropped between the CONNECT and the pump is passed over as well
dropped_after_the_connect : text_of_script whole
    (lines (codes "set messages 1" ∷ codes "set retention 1000" ∷ opens one ∷ send one connect_a
    ∷ send one subscribe ∷ opens two ∷ send two connect_p ∷ send two (of_hi (codes "32") (codes "07")) ∷ pumps one
    ∷ send two (of_hi (codes "32") (codes "08")) ∷ pumps one ∷ opens one ∷ send one connect_a ∷ codes "tick 1000"
    ∷ pumps one ∷ [])) []
    ≡ lines
    (heard at_least_once ++ gets two (codes "40020007") ∷ gets one (of_hi (codes "32") (codes "01"))
    ∷ gets two (codes "40020008")
    ∷ gets one (of_hi (codes "32") (codes "03")) ∷ gets one resumed ∷ gets one (of_hi (codes "3A") (codes "03")) ∷ [])
unfolding running
dropped_after_the_connect = refl

-- on the connection that was sent a message, its acknowledgement counts after its generation was dropped
acknowledged_after_the_drop : text_of_script whole
    (lines (codes "set messages 1" ∷ codes "set retention 1000" ∷ opens one ∷ send one connect_a
    ∷ send one subscribe ∷ opens two ∷ send two connect_p ∷ send two (of_hi (codes "32") (codes "07")) ∷ pumps one
    ∷ send two (of_hi (codes "32") (codes "08")) ∷ pumps one ∷ codes "tick 1000" ∷ send one (codes "40020001")
    ∷ send one (codes "40020003")
    ∷ send two (of_hi (codes "32") (codes "09")) ∷ pumps one ∷ opens one ∷ send one connect_a ∷ pumps one ∷ [])) []
    ≡ lines
    (heard at_least_once ++ gets two (codes "40020007") ∷ gets one (of_hi (codes "32") (codes "01"))
    ∷ gets two (codes "40020008")
    ∷ gets one (of_hi (codes "32") (codes "03")) ∷ gets two (codes "40020009")
    ∷ gets one (of_hi (codes "32") (codes "05")) ∷ gets one resumed
    ∷ gets one (of_hi (codes "3A") (codes "05")) ∷ [])
unfolding running
acknowledged_after_the_drop = refl

-- a message that is dropped before it was issued never comes, and takes no identifier
dropped_before_it_was_issued : text_of_script whole
    (lines (codes "set messages 1" ∷ codes "set retention 1000" ∷ opens one ∷ send one connect_a
    ∷ send one subscribe ∷ opens two ∷ send two connect_p ∷ send two (of_hi (codes "32") (codes "07"))
    ∷ send two (codes "320A0003612F62000800686A") ∷ codes "tick 1000" ∷ pumps one ∷ pumps one ∷ [])) []
    ≡ lines
    (heard at_least_once ++ gets two (codes "40020007") ∷ gets two (codes "40020008")
    ∷ gets one (codes "320A0003612F62000100686A") ∷ [])
unfolding running
dropped_before_it_was_issued = refl

-- a sealed generation stays one millisecond short of the retention, and goes at it; the newest stays
retention_to_the_millisecond : text_of_script whole
    (lines (codes "set messages 1" ∷ codes "set retention 1000" ∷ opens one ∷ send one connect_p
    ∷ send one (of_hi (codes "32") (codes "07")) ∷ send one (of_hi (codes "32") (codes "08")) ∷ codes "tick 999"
    ∷ codes "look" ∷ codes "tick 1"
    ∷ codes "look" ∷ [])) []
    ≡ lines
    (gets one accepted ∷ gets one (codes "40020007") ∷ gets one (codes "40020008")
    ∷ codes "shard 0 floor 0 next 2 awaiting 0"
    ∷ codes " generation 0 first 0 next 1 streams 1" ∷ codes "  stream 0 a/b count 1"
    ∷ codes " generation 1 first 1 next 2 streams 1"
    ∷ codes "  stream 0 a/b count 1" ∷ codes "worker 0" ∷ codes " session p subs 0 unfinished 0"
    ∷ codes "shard 0 floor 1 next 2 awaiting 0"
    ∷ codes " generation 1 first 1 next 2 streams 1" ∷ codes "  stream 0 a/b count 1" ∷ codes "worker 0"
    ∷ codes " session p subs 0 unfinished 0"
    ∷ [])
unfolding running
retention_to_the_millisecond = refl

-- a sweep goes through one generation after the other
from_generation_to_generation : text_of_script whole
    (lines (codes "set messages 1" ∷ codes "set retention 1000" ∷ opens one ∷ send one connect_a
    ∷ send one subscribe ∷ opens two ∷ send two connect_p ∷ send two (of_hi (codes "32") (codes "07"))
    ∷ send two (of_hi (codes "32") (codes "08")) ∷ send two (of_hi (codes "32") (codes "09")) ∷ pumps one ∷ pumps one
    ∷ pumps one ∷ pumps one
    ∷ [])) []
    ≡ lines
    (heard at_least_once ++ gets two (codes "40020007") ∷ gets two (codes "40020008") ∷ gets two (codes "40020009")
    ∷ gets one (of_hi (codes "32") (codes "01")) ∷ gets one (of_hi (codes "32") (codes "03"))
    ∷ gets one (of_hi (codes "32") (codes "05")) ∷ [])
unfolding running
from_generation_to_generation = refl

-- an identifier stays awaited when the generation of its publish is dropped
awaited_over_generations : text_of_script whole
    (lines (codes "set messages 1" ∷ codes "set retention 1000" ∷ opens one ∷ send one connect_p
    ∷ send one (of_hi (codes "34") (codes "05")) ∷ send one (of_hi (codes "32") (codes "07")) ∷ codes "tick 1000"
    ∷ send one (of_hi (codes "3C") (codes "05")) ∷ codes "look" ∷ [])) []
    ≡ lines (gets one accepted ∷ gets one (codes "50020005") ∷ gets one (codes "40020007") ∷ gets one (codes "50020005")
    ∷ codes "shard 0 floor 1 next 2 awaiting 1" ∷ codes " generation 1 first 1 next 2 streams 1"
    ∷ codes "  stream 0 a/b count 1"
    ∷ codes "worker 0" ∷ codes " session p subs 0 unfinished 0" ∷ [])
unfolding running
awaited_over_generations = refl

-- a PUBREL goes into a full generation
release_needs_no_room : text_of_script whole (lines (codes "set messages 1" ∷ opens one ∷ send one connect_p
    ∷ send one (of_hi (codes "34") (codes "05")) ∷ send one (codes "62020005") ∷ codes "look" ∷ [])) []
    ≡ lines
    (gets one accepted ∷ gets one (codes "50020005") ∷ gets one (codes "70020005")
    ∷ codes "shard 0 floor 0 next 1 awaiting 0"
    ∷ codes " generation 0 first 0 next 1 streams 1" ∷ codes "  stream 0 a/b count 1" ∷ codes "worker 0"
    ∷ codes " session p subs 0 unfinished 0"
    ∷ [])
unfolding running
release_needs_no_room = refl

-- ---- groups without room

-- a group that finds no room is asked again publish by publish: the first still fits, the second does not
group_is_full : text_of_script (record whole { generations = 2 })
    (lines (codes "set messages 2" ∷ opens one ∷ send one connect_p
    ∷ send one (of_hi (codes "32") (codes "01")) ∷ send one (of_hi (codes "32") (codes "02"))
    ∷ send one (of_hi (codes "32") (codes "03"))
    ∷ send one (codes "320A0003612F620004006869320A0003612F620005006869") ∷ [])) []
    ≡ lines (gets one accepted ∷ gets one (codes "40020001") ∷ gets one (codes "40020002") ∷ gets one (codes "40020003")
    ∷ gets one (codes "40020004") ∷ gets one (codes "4003000597") ∷ [])
unfolding running
group_is_full = refl

-- where the oldest generation may go it is dropped, and the group begins a new one as a whole
group_drops_the_oldest : text_of_script (record whole { generations = 2 })
    (lines (codes "set messages 2" ∷ codes "set retention 0" ∷ opens one
    ∷ send one connect_p ∷ send one (of_hi (codes "32") (codes "01")) ∷ send one (of_hi (codes "32") (codes "02"))
    ∷ send one (of_hi (codes "32") (codes "03")) ∷ send one (codes "320A0003612F620004006869320A0003612F620005006869")
    ∷ codes "look" ∷ [])) []
    ≡ lines (gets one accepted ∷ gets one (codes "40020001") ∷ gets one (codes "40020002") ∷ gets one (codes "40020003")
    ∷ gets one (codes "40020004") ∷ gets one (codes "40020005") ∷ codes "shard 0 floor 2 next 5 awaiting 0"
    ∷ codes " generation 1 first 2 next 3 streams 1" ∷ codes "  stream 0 a/b count 1"
    ∷ codes " generation 2 first 3 next 5 streams 1"
    ∷ codes "  stream 0 a/b count 2" ∷ codes "worker 0" ∷ codes " session p subs 0 unfinished 0" ∷ [])
unfolding running
group_drops_the_oldest = refl

-- a publish of QoS 0 that finds no room is dropped without a word, the next one has its answer
full_and_qos_zero : text_of_script (record whole { generations = 2 })
    (lines (codes "set messages 1" ∷ opens one ∷ send one connect_p
    ∷ send one (of_hi (codes "32") (codes "01")) ∷ send one (of_hi (codes "32") (codes "02"))
    ∷ send one (codes "30080003612F62006869")
    ∷ send one (of_hi (codes "34") (codes "03")) ∷ send one (codes "62020003") ∷ [])) []
    ≡ lines
    (gets one accepted ∷ gets one (codes "40020001") ∷ gets one (codes "40020002") ∷ gets one (codes "5003000397")
    ∷ gets one (codes "7003000392") ∷ [])
unfolding running
full_and_qos_zero = refl

-- a group that would await too many is asked again: the publish behind the refused one is stored
group_awaits_too_many : text_of_script (record whole { awaited = 1 }) (lines (opens one ∷ send one connect_p
    ∷ send one (codes "340A0003612F620001006869340A0003612F620002006869320A0003612F620003006869") ∷ codes "look" ∷ []))
    []
    ≡ lines
    (gets one accepted ∷ gets one (codes "50020001") ∷ gets one (codes "5003000297") ∷ gets one (codes "40020003")
    ∷ codes "shard 0 floor 0 next 2 awaiting 1" ∷ codes " generation 0 first 0 next 2 streams 1"
    ∷ codes "  stream 0 a/b count 2"
    ∷ codes "worker 0" ∷ codes " session p subs 0 unfinished 0" ∷ [])
unfolding running
group_awaits_too_many = refl

-- ---- the limits of a generation

-- two publishes whose Stores have 38 bytes each fit 76
bytes_that_fit : text_of_script (record whole { generation_bytes = 76 }) (lines (opens one ∷ send one connect_p
    ∷ send one (of_hi (codes "32") (codes "07")) ∷ send one (of_hi (codes "32") (codes "08")) ∷ codes "look" ∷ [])) []
    ≡ lines
    (gets one accepted ∷ gets one (codes "40020007") ∷ gets one (codes "40020008")
    ∷ codes "shard 0 floor 0 next 2 awaiting 0"
    ∷ codes " generation 0 first 0 next 2 streams 1" ∷ codes "  stream 0 a/b count 2" ∷ codes "worker 0"
    ∷ codes " session p subs 0 unfinished 0"
    ∷ [])
unfolding running
bytes_that_fit = refl

-- two Stores of 38 bytes do not fit 75, so the second publish begins a new generation
bytes_that_do_not : text_of_script (record whole { generation_bytes = 75 }) (lines (opens one ∷ send one connect_p
    ∷ send one (of_hi (codes "32") (codes "07")) ∷ send one (of_hi (codes "32") (codes "08")) ∷ codes "look" ∷ [])) []
    ≡ lines
    (gets one accepted ∷ gets one (codes "40020007") ∷ gets one (codes "40020008")
    ∷ codes "shard 0 floor 0 next 2 awaiting 0"
    ∷ codes " generation 0 first 0 next 1 streams 1" ∷ codes "  stream 0 a/b count 1"
    ∷ codes " generation 1 first 1 next 2 streams 1"
    ∷ codes "  stream 0 a/b count 1" ∷ codes "worker 0" ∷ codes " session p subs 0 unfinished 0" ∷ [])
unfolding running
bytes_that_do_not = refl

-- a second topic needs a second stream, here in a new generation; what follows goes there, too, and so into a third
streams_that_do_not_fit : text_of_script (record whole { streams = 1 }) (lines (opens one ∷ send one connect_p
    ∷ send one (of_hi (codes "32") (codes "07")) ∷ send one (codes "320A0003612F630008006869")
    ∷ send one (of_hi (codes "32") (codes "09"))
    ∷ codes "look" ∷ [])) []
    ≡ lines (gets one accepted ∷ gets one (codes "40020007") ∷ gets one (codes "40020008") ∷ gets one (codes "40020009")
    ∷ codes "shard 0 floor 0 next 3 awaiting 0" ∷ codes " generation 0 first 0 next 1 streams 1"
    ∷ codes "  stream 0 a/b count 1"
    ∷ codes " generation 1 first 1 next 2 streams 1" ∷ codes "  stream 0 a/c count 1"
    ∷ codes " generation 2 first 2 next 3 streams 1"
    ∷ codes "  stream 0 a/b count 1" ∷ codes "worker 0" ∷ codes " session p subs 0 unfinished 0" ∷ [])
unfolding running
streams_that_do_not_fit = refl

-- the root, `a` and its two children are four nodes
nodes_that_fit : text_of_script (record whole { nodes = 4 })
    (lines (opens one ∷ send one connect_p ∷ send one (of_hi (codes "32") (codes "07"))
    ∷ send one (codes "320A0003612F630008006869") ∷ send one (of_hi (codes "32") (codes "09")) ∷ codes "look" ∷ [])) []
    ≡ lines (gets one accepted ∷ gets one (codes "40020007") ∷ gets one (codes "40020008") ∷ gets one (codes "40020009")
    ∷ codes "shard 0 floor 0 next 3 awaiting 0" ∷ codes " generation 0 first 0 next 3 streams 2"
    ∷ codes "  stream 0 a/b count 2"
    ∷ codes "  stream 1 a/c count 1" ∷ codes "worker 0" ∷ codes " session p subs 0 unfinished 0" ∷ [])
unfolding running
nodes_that_fit = refl

-- three nodes hold one of the two topics, so each change of topic begins a new generation
nodes_that_do_not : text_of_script (record whole { nodes = 3 }) (lines (opens one ∷ send one connect_p
    ∷ send one (of_hi (codes "32") (codes "07")) ∷ send one (codes "320A0003612F630008006869")
    ∷ send one (of_hi (codes "32") (codes "09"))
    ∷ codes "look" ∷ [])) []
    ≡ lines (gets one accepted ∷ gets one (codes "40020007") ∷ gets one (codes "40020008") ∷ gets one (codes "40020009")
    ∷ codes "shard 0 floor 0 next 3 awaiting 0" ∷ codes " generation 0 first 0 next 1 streams 1"
    ∷ codes "  stream 0 a/b count 1"
    ∷ codes " generation 1 first 1 next 2 streams 1" ∷ codes "  stream 0 a/c count 1"
    ∷ codes " generation 2 first 2 next 3 streams 1"
    ∷ codes "  stream 0 a/b count 1" ∷ codes "worker 0" ∷ codes " session p subs 0 unfinished 0" ∷ [])
unfolding running
nodes_that_do_not = refl

-- a new generation has learned nothing; a topic of the one before may go through the wildcard there
learned_anew : text_of_script whole (lines (codes "set top 1" ∷ codes "set messages 3" ∷ opens one ∷ send one connect_p
    ∷ send one (codes "32080001780001006869") ∷ send one (codes "32080001790002006869")
    ∷ send one (codes "32080001780003006869")
    ∷ send one (codes "32080001790004006869") ∷ send one (codes "32080001780005006869") ∷ codes "look" ∷ [])) []
    ≡ lines (gets one accepted ∷ gets one (codes "40020001") ∷ gets one (codes "40020002") ∷ gets one (codes "40020003")
    ∷ gets one (codes "40020004") ∷ gets one (codes "40020005") ∷ codes "shard 0 floor 0 next 5 awaiting 0"
    ∷ codes " generation 0 first 0 next 3 streams 2" ∷ codes "  stream 0 x count 2" ∷ codes "  stream 1 + count 1"
    ∷ codes " generation 1 first 3 next 5 streams 2" ∷ codes "  stream 0 y count 1" ∷ codes "  stream 1 + count 1"
    ∷ codes "worker 0"
    ∷ codes " session p subs 0 unfinished 0" ∷ [])
unfolding running
learned_anew = refl
