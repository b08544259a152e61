-- PUBLISH and PUBREL: the order of the rules for each QoS, identifiers that are held and awaited, and publishers that
-- are forgotten.
use Rattle.std.specs.Prelude.{◌≡◌, refl, [], ◌∷◌, ◌++◌, codes}
use Rattle.topic_model.specs.Profile.{whole}
use Rattle.world_model.specs.Running.{text_of_script}
use Rattle.world_model.specs.Computing.{running}
use Rattle.world_examples.specs.HostileWords.{subscribe, accepted_holding, resumed_holding, lines, one, two, opens}
use Rattle.world_examples.specs.HostileWords.{closes, pumps, send, gets, ended, connect_a}
use Rattle.world_examples.specs.HostileWords.{connect_p, accepted, resumed, of_hi, at_least_once, listening, heard}
use Rattle.world_examples.specs.HostileWords.{times}

-- a Topic Alias closes with its own reason, whatever the QoS
topic_alias : text_of_script whole
    (lines (opens one ∷ send one connect_p ∷ send one (codes "300B0003612F62032300016869") ∷ opens one
    ∷ send one connect_p ∷ send one (codes "320D0003612F620007032300016869") ∷ opens one ∷ send one connect_p
    ∷ send one (codes "340D0003612F620007032300016869") ∷ [])) []
    ≡ lines
    (gets one accepted ∷ gets one (codes "E00194") ∷ ended one ∷ gets one resumed ∷ gets one (codes "E00194")
    ∷ ended one
    ∷ gets one resumed ∷ gets one (codes "E00194") ∷ ended one ∷ [])
unfolding running
topic_alias = refl

-- RETAIN closes with its own reason, whatever the QoS
retained : text_of_script whole
    (lines (opens one ∷ send one connect_p ∷ send one (codes "31080003612F62006869") ∷ opens one ∷ send one connect_p
    ∷ send one (of_hi (codes "33") (codes "07")) ∷ opens one ∷ send one connect_p
    ∷ send one (of_hi (codes "35") (codes "07")) ∷ [])) []
    ≡ lines
    (gets one accepted ∷ gets one (codes "E0019A") ∷ ended one ∷ gets one resumed ∷ gets one (codes "E0019A")
    ∷ ended one
    ∷ gets one resumed ∷ gets one (codes "E0019A") ∷ ended one ∷ [])
unfolding running
retained = refl

-- a topic that begins with a dollar sign: nothing at QoS 0, a refusal in the acknowledgement else, and no identifier is
-- awaited
dollar_topic : text_of_script whole (lines (opens one ∷ send one connect_p ∷ send one (codes "300700022478006869")
    ∷ send one (codes "3209000224780007006869") ∷ send one (codes "3409000224780008006869")
    ∷ send one (codes "62020008") ∷ codes "look" ∷ [])) []
    ≡ lines
    (gets one accepted ∷ gets one (codes "4003000790") ∷ gets one (codes "5003000890")
    ∷ gets one (codes "7003000892")
    ∷ codes "shard 0 floor 0 next 0 awaiting 0" ∷ codes " generation 0 first 0 next 0 streams 0" ∷ codes "worker 0"
    ∷ codes " session p subs 0 unfinished 0" ∷ [])
unfolding running
dollar_topic = refl

-- a topic of 129 levels is answered in the same ways, one of 128 is stored
too_many_levels : text_of_script whole
    (lines (opens one ∷ send one connect_p ∷ send one (codes "3083010080" ++ times 128 (codes "2F")
    ++ codes "00") ∷ send one (codes "3285010080" ++ times 128 (codes "2F") ++ codes "000700")
    ∷ send one (codes "3485010080"
    ++ times 128 (codes "2F") ++ codes "000800")
    ∷ send one (codes "328401007F" ++ times 127 (codes "2F") ++ codes "000900") ∷ [])) []
    ≡ lines
    (gets one accepted ∷ gets one (codes "4003000790") ∷ gets one (codes "5003000890") ∷ gets one (codes "40020009")
    ∷ [])
unfolding running
too_many_levels = refl

-- alias before the empty topic, the empty topic before RETAIN, RETAIN before the dollar sign
alias_comes_first : text_of_script whole
    (lines (opens one ∷ send one connect_p ∷ send one (codes "330A00000007032300016869") ∷ opens one
    ∷ send one connect_p ∷ send one (codes "330700000007006869") ∷ opens one ∷ send one connect_p
    ∷ send one (codes "3309000224780007006869")
    ∷ [])) []
    ≡ lines
    (gets one accepted ∷ gets one (codes "E00194") ∷ ended one ∷ gets one resumed ∷ gets one (codes "E00182")
    ∷ ended one
    ∷ gets one resumed ∷ gets one (codes "E0019A") ∷ ended one ∷ [])
unfolding running
alias_comes_first = refl

-- a client may not send a Subscription Identifier
subscription_identifier : text_of_script whole
    (lines (opens one ∷ send one connect_p ∷ send one (codes "320C0003612F620007020B056869") ∷ [])) []
    ≡ lines (gets one accepted ∷ gets one (codes "E00182") ∷ ended one ∷ [])
unfolding running
subscription_identifier = refl

-- a wildcard in a topic name is malformed, whatever else is wrong
wildcard_topic : text_of_script whole
    (lines (opens one ∷ send one connect_p ∷ send one (codes "33110003612F2B000707010101012300016869") ∷ [])) []
    ≡ lines (gets one accepted ∷ gets one (codes "E00181") ∷ ended one ∷ [])
unfolding running
wildcard_topic = refl

-- DUP with QoS 0, QoS 3 and an identifier 0 are malformed
headers : text_of_script whole
    (lines (opens one ∷ send one connect_p ∷ send one (codes "38080003612F62006869") ∷ opens one ∷ send one connect_p
    ∷ send one (of_hi (codes "36") (codes "07")) ∷ opens one ∷ send one connect_p
    ∷ send one (of_hi (codes "32") (codes "00")) ∷ [])) []
    ≡ lines
    (gets one accepted ∷ gets one (codes "E00181") ∷ ended one ∷ gets one resumed ∷ gets one (codes "E00181")
    ∷ ended one
    ∷ gets one resumed ∷ gets one (codes "E00181") ∷ ended one ∷ [])
unfolding running
headers = refl

-- a bad value, a repeated property and a wildcard in the Response Topic each break a rule
rules_of_properties : text_of_script whole
    (lines (opens one ∷ send one connect_p ∷ send one (codes "300A0003612F620201026869") ∷ opens one
    ∷ send one connect_p ∷ send one (codes "320E0003612F62000704010001006869") ∷ opens one ∷ send one connect_p
    ∷ send one (codes "34100003612F62000706080003612F236869") ∷ [])) []
    ≡ lines
    (gets one accepted ∷ gets one (codes "E00182") ∷ ended one ∷ gets one resumed ∷ gets one (codes "E00182")
    ∷ ended one
    ∷ gets one resumed ∷ gets one (codes "E00182") ∷ ended one ∷ [])
unfolding running
rules_of_properties = refl

-- a property that does not stand in PUBLISH is malformed, although another one stands twice
misplaced_before_repeated : text_of_script whole (lines (opens one ∷ send one connect_p
    ∷ send one (codes "32130003612F62000709010001001100000E106869") ∷ [])) []
    ≡ lines (gets one accepted ∷ gets one (codes "E00181") ∷ ended one ∷ [])
unfolding running
misplaced_before_repeated = refl

-- a publish of QoS 0 has no answer, is delivered once, and is not sent again
qos_zero : text_of_script whole
    (lines (listening at_least_once ++ send two (codes "30080003612F62006869") ∷ pumps one ∷ codes "crash 1"
    ∷ opens one ∷ send one connect_a ∷ pumps one ∷ [])) []
    ≡ lines (heard at_least_once ++ gets one (codes "30080003612F62006869") ∷ codes "crashed" ∷ gets one resumed ∷ [])
unfolding running
qos_zero = refl

-- ---- identifiers of QoS 2

-- at the limit a held identifier may come again, PUBREL frees it for another one, and one more than that closes
held_at_the_limit : text_of_script (record whole { held = 2 })
    (lines (opens one ∷ send one connect_p ∷ send one (of_hi (codes "34") (codes "01"))
    ∷ send one (of_hi (codes "34") (codes "02")) ∷ send one (of_hi (codes "3C") (codes "01"))
    ∷ send one (codes "62020001")
    ∷ send one (of_hi (codes "34") (codes "03")) ∷ send one (of_hi (codes "34") (codes "04")) ∷ [])) []
    ≡ lines
    (gets one (accepted_holding (codes "0002")) ∷ gets one (codes "50020001") ∷ gets one (codes "50020002")
    ∷ gets one (codes "50020001")
    ∷ gets one (codes "70020001") ∷ gets one (codes "50020003") ∷ gets one (codes "E00193") ∷ ended one ∷ [])
unfolding running
held_at_the_limit = refl

-- identifiers of publishes that are not answered yet count as held: what came before is answered, then the connection
-- is closed
held_in_one_piece : text_of_script (record whole { held = 2 }) (lines (opens one ∷ send one connect_p
    ∷ send one (codes "340A0003612F620001006869340A0003612F620002006869340A0003612F620003006869") ∷ [])) []
    ≡ lines
    (gets one (accepted_holding (codes "0002")) ∷ gets one (codes "50020001") ∷ gets one (codes "50020002")
    ∷ gets one (codes "E00193") ∷ ended one ∷ [])
unfolding running
held_in_one_piece = refl

-- a new connection holds none; an awaited identifier is held on it from its PUBREC on
held_by_a_connection : text_of_script (record whole { held = 2 }) (lines (opens one ∷ send one connect_p
    ∷ send one (of_hi (codes "34") (codes "01")) ∷ send one (of_hi (codes "34") (codes "02")) ∷ opens one
    ∷ send one connect_p
    ∷ send one (of_hi (codes "34") (codes "03")) ∷ send one (of_hi (codes "3C") (codes "01"))
    ∷ send one (of_hi (codes "3C") (codes "02"))
    ∷ [])) []
    ≡ lines
    (gets one (accepted_holding (codes "0002")) ∷ gets one (codes "50020001") ∷ gets one (codes "50020002")
    ∷ gets one (resumed_holding (codes "0002")) ∷ gets one (codes "50020003")
    ∷ gets one (codes "50020001") ∷ gets one (codes "E00193") ∷ ended one ∷ [])
unfolding running
held_by_a_connection = refl

-- an identifier whose publish was refused is not held
refused_is_not_held : text_of_script (record whole { held = 1 }) (lines (opens one ∷ send one connect_p
    ∷ send one (codes "3409000224780001006869") ∷ send one (of_hi (codes "34") (codes "02"))
    ∷ send one (of_hi (codes "34") (codes "03"))
    ∷ [])) []
    ≡ lines
    (gets one (accepted_holding (codes "0001")) ∷ gets one (codes "5003000190") ∷ gets one (codes "50020002")
    ∷ gets one (codes "E00193") ∷ ended one ∷ [])
unfolding running
refused_is_not_held = refl

-- a shard that awaits as many as it may refuses one more, which is then neither awaited nor held
awaited_at_the_limit : text_of_script (record whole { awaited = 1 }) (lines (opens one ∷ send one connect_p
    ∷ send one (of_hi (codes "34") (codes "01")) ∷ send one (of_hi (codes "34") (codes "02"))
    ∷ send one (codes "62020002")
    ∷ send one (codes "62020001") ∷ send one (of_hi (codes "34") (codes "02")) ∷ [])) []
    ≡ lines
    (gets one accepted ∷ gets one (codes "50020001") ∷ gets one (codes "5003000297") ∷ gets one (codes "7003000292")
    ∷ gets one (codes "70020001") ∷ gets one (codes "50020002") ∷ [])
unfolding running
awaited_at_the_limit = refl

-- of an awaited identifier the first payload stays
repeated_with_another_payload : text_of_script whole
    (lines (listening at_least_once ++ send two (of_hi (codes "34") (codes "05"))
    ∷ send two (codes "3C0A0003612F62000500686A") ∷ pumps one ∷ [])) []
    ≡ lines
    (heard at_least_once ++ gets two (codes "50020005") ∷ gets two (codes "50020005")
    ∷ gets one (of_hi (codes "32") (codes "01")) ∷ [])
unfolding running
repeated_with_another_payload = refl

-- an awaited identifier is answered before its topic is looked at
repeated_with_a_bad_topic : text_of_script whole
    (lines (opens one ∷ send one connect_p ∷ send one (of_hi (codes "34") (codes "05"))
    ∷ send one (codes "3409000224780005006869") ∷ [])) []
    ≡ lines (gets one accepted ∷ gets one (codes "50020005") ∷ gets one (codes "50020005") ∷ [])
unfolding running
repeated_with_a_bad_topic = refl

-- a PUBREL with a reason byte releases too; the second one finds nothing
released_with_a_reason : text_of_script whole
    (lines (opens one ∷ send one connect_p ∷ send one (of_hi (codes "34") (codes "05"))
    ∷ send one (codes "6203000592") ∷ send one (codes "62020005") ∷ [])) []
    ≡ lines
    (gets one accepted ∷ gets one (codes "50020005") ∷ gets one (codes "70020005") ∷ gets one (codes "7003000592")
    ∷ [])
unfolding running
released_with_a_reason = refl

-- two clients may use one identifier, and each releases its own
one_identifier_of_two_clients : text_of_script whole
    (lines (opens one ∷ send one connect_a ∷ opens two ∷ send two connect_p
    ∷ send one (of_hi (codes "34") (codes "05")) ∷ send two (of_hi (codes "34") (codes "05"))
    ∷ send one (codes "62020005") ∷ codes "look"
    ∷ [])) []
    ≡ lines
    (gets one accepted ∷ gets two accepted ∷ gets one (codes "50020005") ∷ gets two (codes "50020005")
    ∷ gets one (codes "70020005")
    ∷ codes "shard 0 floor 0 next 2 awaiting 1" ∷ codes " generation 0 first 0 next 2 streams 1"
    ∷ codes "  stream 0 a/b count 2"
    ∷ codes "worker 0" ∷ codes " session a subs 0 unfinished 0" ∷ codes " session p subs 0 unfinished 0" ∷ [])
unfolding running
one_identifier_of_two_clients = refl

-- ---- publishers that are forgotten

-- Clean Start begins without awaited identifiers: the same one is stored again, and the old one is forgotten with it
identifiers_of_the_session_before : text_of_script whole
    (lines (opens one ∷ send one connect_p ∷ send one (of_hi (codes "34") (codes "05"))
    ∷ opens one ∷ send one (codes "101300044D5154540502003C051100000E10000170") ∷ send one (codes "62020005")
    ∷ send one (of_hi (codes "34") (codes "05")) ∷ codes "look" ∷ [])) []
    ≡ lines
    (gets one accepted ∷ gets one (codes "50020005") ∷ gets one accepted ∷ gets one (codes "7003000592")
    ∷ gets one (codes "50020005")
    ∷ codes "shard 0 floor 0 next 2 awaiting 1" ∷ codes " generation 0 first 0 next 2 streams 1"
    ∷ codes "  stream 0 a/b count 2"
    ∷ codes "worker 0" ∷ codes " session p subs 0 unfinished 0" ∷ [])
unfolding running
identifiers_of_the_session_before = refl

-- What a publisher without a session left awaited stays as long as its end is only owed, as a crash would forget that;
-- the next record has it, and then the next publish takes the identifiers away.
ended_publisher : text_of_script whole (lines (opens one ∷ send one connect_a ∷ opens two
    ∷ send two (codes "100E00044D5154540500003C00000170") ∷ send two (of_hi (codes "34") (codes "05")) ∷ closes two
    ∷ send one (of_hi (codes "32") (codes "07")) ∷ codes "look" ∷ send one subscribe
    ∷ send one (of_hi (codes "32") (codes "08")) ∷ codes "look" ∷ [])) []
    ≡ lines (gets one accepted ∷ gets two accepted ∷ gets two (codes "50020005") ∷ gets one (codes "40020007")
    ∷ codes "shard 0 floor 0 next 2 awaiting 1" ∷ codes " generation 0 first 0 next 2 streams 1"
    ∷ codes "  stream 0 a/b count 2" ∷ codes "worker 0" ∷ codes " session a subs 0 unfinished 0"
    ∷ gets one (codes "900400010001") ∷ gets one (codes "40020008") ∷ codes "shard 0 floor 0 next 3 awaiting 0"
    ∷ codes " generation 0 first 0 next 3 streams 1" ∷ codes "  stream 0 a/b count 3" ∷ codes "worker 0"
    ∷ codes " session a subs 1 unfinished 0" ∷ [])
unfolding running
ended_publisher = refl

-- the end that is owed is forgotten in a crash: the session lives again, and a repeat of its identifier is stored once
end_forgotten_in_a_crash : text_of_script whole (lines (opens one ∷ send one connect_a ∷ opens two
    ∷ send two (codes "101300044D5154540500003C051100000E10000170") ∷ send two (of_hi (codes "34") (codes "05"))
    ∷ send two (codes "E007000511" ++ codes "00000000") ∷ send one (of_hi (codes "32") (codes "07")) ∷ codes "crash 1"
    ∷ opens two ∷ send two (codes "101300044D5154540500003C051100000E10000170")
    ∷ send two (of_hi (codes "3C") (codes "05"))
    ∷ codes "look" ∷ [])) []
    ≡ lines
    (gets one accepted ∷ gets two accepted ∷ gets two (codes "50020005") ∷ ended two ∷ gets one (codes "40020007")
    ∷ codes "crashed" ∷ gets two resumed ∷ gets two (codes "50020005") ∷ codes "shard 0 floor 0 next 2 awaiting 1"
    ∷ codes " generation 0 first 0 next 2 streams 1" ∷ codes "  stream 0 a/b count 2" ∷ codes "worker 0"
    ∷ codes " session a subs 0 unfinished 0" ∷ codes " session p subs 0 unfinished 0" ∷ [])
unfolding running
end_forgotten_in_a_crash = refl

-- the group of a PUBREL takes away as well what a publisher without a session left awaited, once its end is in a record
release_forgets_too : text_of_script whole (lines (opens one ∷ send one connect_a ∷ opens two
    ∷ send two (codes "100E00044D5154540500003C00000170") ∷ send one (of_hi (codes "34") (codes "06"))
    ∷ send two (of_hi (codes "34") (codes "05")) ∷ closes two ∷ send one subscribe ∷ send one (codes "62020006")
    ∷ codes "look" ∷ [])) []
    ≡ lines (gets one accepted ∷ gets two accepted ∷ gets one (codes "50020006") ∷ gets two (codes "50020005")
    ∷ gets one (codes "900400010001") ∷ gets one (codes "70020006") ∷ codes "shard 0 floor 0 next 2 awaiting 0"
    ∷ codes " generation 0 first 0 next 2 streams 1" ∷ codes "  stream 0 a/b count 2" ∷ codes "worker 0"
    ∷ codes " session a subs 1 unfinished 0" ∷ [])
unfolding running
release_forgets_too = refl

-- a publisher whose session a crash ended is forgotten with the next publish, too
forgotten_after_a_crash : text_of_script whole (lines (opens two ∷ send two (codes "100E00044D5154540500003C00000170")
    ∷ send two (of_hi (codes "34") (codes "05")) ∷ codes "crash 1" ∷ codes "look" ∷ opens one ∷ send one connect_a
    ∷ send one (of_hi (codes "32") (codes "07")) ∷ codes "look" ∷ [])) []
    ≡ lines
    (gets two accepted ∷ gets two (codes "50020005") ∷ codes "crashed" ∷ codes "shard 0 floor 0 next 1 awaiting 1"
    ∷ codes " generation 0 first 0 next 1 streams 1" ∷ codes "  stream 0 a/b count 1" ∷ codes "worker 0"
    ∷ gets one accepted
    ∷ gets one (codes "40020007") ∷ codes "shard 0 floor 0 next 2 awaiting 0"
    ∷ codes " generation 0 first 0 next 2 streams 1"
    ∷ codes "  stream 0 a/b count 2" ∷ codes "worker 0" ∷ codes " session a subs 0 unfinished 0" ∷ [])
unfolding running
forgotten_after_a_crash = refl
