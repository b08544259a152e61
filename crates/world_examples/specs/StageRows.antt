-- What the stages on the way to the whole broker print: where publishes and receipts aren't joined, one generation is
-- held, topics aren't learned, messages don't expire, or no window is wide.
use Rattle.std.specs.Prelude.{ℕ, ◌≡◌, refl, List, [], ◌∷◌, ◌++◌, codes}
use Rattle.topic_model.specs.Profile.{whole, singly, one_generation, without_learning, without_expiry}
use Rattle.topic_model.specs.Profile.{without_wide_windows, first_stage}
use Rattle.shard_model.specs.Choices.{Works, Fails}
use Rattle.world_model.specs.Computing.{running}
use Rattle.world_model.specs.Running.{text_of_script}
use Rattle.world_examples.specs.HostileWords.{lines, send, connect_a, connect_p, one, two, opens, pumps, gets, ended}
use Rattle.world_examples.specs.HostileWords.{accepted, resumed, of_hi, listening, heard, at_least_once, works}

-- ---- the first stage

-- a message goes to its subscriber, and again after a crash
first_of_all : text_of_script first_stage
    (lines
    (listening at_least_once ++ send two (of_hi (codes "32") (codes "07")) ∷ pumps one ∷ codes "crash 1" ∷ opens one
    ∷ send one connect_a
    ∷ pumps one ∷ [])) []
    ≡ lines
    (heard at_least_once ++ gets two (codes "40020007") ∷ gets one (of_hi (codes "32") (codes "01"))
    ∷ codes "crashed" ∷ gets one resumed
    ∷ gets one (of_hi (codes "3A") (codes "01")) ∷ [])
unfolding running
first_of_all = refl

-- ---- groups and records

abbrev both_in_one : List ℕ
both_in_one = codes "320A0003612F620007006869320A0003612F620008006869"

-- two publishes in one piece are two groups: the second one's failure leaves the first acknowledged
second_group_fails : text_of_script (singly whole)
    (lines (opens two ∷ send two connect_p ∷ codes "fail 2 6" ∷ send two both_in_one ∷ []))
    (works 2 ++ Fails ∷ [])
    ≡ lines (gets two accepted ∷ gets two (codes "40020007") ∷ gets two (codes "E00183") ∷ ended two ∷ [])
unfolding running
second_group_fails = refl

-- and joined they are one: it works, and the failure isn't met
one_group_works : text_of_script whole
    (lines (opens two ∷ send two connect_p ∷ codes "fail 2 6" ∷ send two both_in_one ∷ [])) (works 2 ++ Fails ∷ [])
    ≡ lines (gets two accepted ∷ gets two (codes "40020007") ∷ gets two (codes "40020008") ∷ [])
unfolding running
one_group_works = refl

-- two PUBACKs in one piece are two records: the second one's failure closes the connection, and the first is
-- acknowledged after the crash
second_record_fails : text_of_script (singly whole)
    (lines
    (listening at_least_once ++ send two (of_hi (codes "32") (codes "07"))
    ∷ send two (of_hi (codes "32") (codes "08")) ∷ pumps one
    ∷ codes "fail 10 5" ∷ send one (codes "4002000140020003") ∷ codes "crash 0" ∷ opens one ∷ send one connect_a
    ∷ pumps one ∷ []))
    (works 7 ++ Fails ∷ [])
    ≡ lines
    (heard at_least_once ++ gets two (codes "40020007") ∷ gets two (codes "40020008")
    ∷ gets one (of_hi (codes "32") (codes "01"))
    ∷ gets one (of_hi (codes "32") (codes "03")) ∷ gets one (codes "E00183") ∷ ended one ∷ codes "crashed"
    ∷ gets one resumed
    ∷ gets one (of_hi (codes "3A") (codes "03")) ∷ [])
unfolding running
second_record_fails = refl

-- ---- generations

-- the one generation has its messages: the next publish finds the shard full
one_is_full : text_of_script (one_generation whole)
    (lines
    (codes "set messages 1" ∷ codes "set retention 0" ∷ opens two ∷ send two connect_p
    ∷ send two (of_hi (codes "32") (codes "07"))
    ∷ send two (of_hi (codes "32") (codes "08")) ∷ codes "tick 1000" ∷ send two (of_hi (codes "32") (codes "09")) ∷ []))
    []
    ≡ lines
    (gets two accepted ∷ gets two (codes "40020007") ∷ gets two (codes "4003000897") ∷ gets two (codes "4003000997")
    ∷ [])
unfolding running
one_is_full = refl

-- ---- learned topics

-- messages of four topics go out in the order in which they were stored, all in one batch
in_the_order_of_offsets : text_of_script (without_learning whole)
    (lines
    (codes "set below 2" ∷ opens one ∷ send one connect_a ∷ send one (codes "82090001000003612F2B01") ∷ opens two
    ∷ send two connect_p
    ∷ send two (codes "320A0003612F310001006869") ∷ send two (codes "320A0003612F320002006869")
    ∷ send two (codes "320A0003612F330003006869")
    ∷ send two (codes "320A0003612F310004006869") ∷ pumps one ∷ [])) []
    ≡ lines
    (heard at_least_once ++ gets two (codes "40020001") ∷ gets two (codes "40020002") ∷ gets two (codes "40020003")
    ∷ gets two (codes "40020004") ∷ gets one (codes "320A0003612F310001006869")
    ∷ gets one (codes "320A0003612F320003006869")
    ∷ gets one (codes "320A0003612F330005006869") ∷ gets one (codes "320A0003612F310007006869") ∷ [])
unfolding running
in_the_order_of_offsets = refl

-- ---- message expiry

-- an interval of ten seconds is refused, and nothing is stored
no_expiry_yet : text_of_script (without_expiry whole)
    (lines (listening at_least_once ++ send two (codes "320F0003612F62000705020000000A6869") ∷ pumps one ∷ [])) []
    ≡ lines (heard at_least_once ++ gets two (codes "4003000783") ∷ [])
unfolding running
no_expiry_yet = refl

-- ---- windows

-- a client that could take a wide window has the narrow one
no_wide_one : text_of_script
    (without_wide_windows (record whole { window = 1; batch = 1; wide_window = 2; wide_batch = 2 }))
    (lines
    (opens one ∷ send one (codes "101600044D5154540500003C081100000E10210800000161")
    ∷ send one (codes "82090001000003612F6201") ∷ opens two
    ∷ send two connect_p ∷ send two (of_hi (codes "32") (codes "07")) ∷ send two (of_hi (codes "32") (codes "08"))
    ∷ pumps one ∷ pumps one ∷ [])) []
    ≡ lines
    (heard at_least_once ++ gets two (codes "40020007") ∷ gets two (codes "40020008")
    ∷ gets one (of_hi (codes "32") (codes "01")) ∷ [])
unfolding running
no_wide_one = refl
