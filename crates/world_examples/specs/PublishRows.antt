-- Publishing: what is acknowledged and how, what closes, QoS 2, and identifiers that are held and awaited.
use Rattle.std.specs.Prelude.{ℕ, ◌≡◌, refl, List, [], ◌∷◌, ◌++◌, codes}
use Rattle.topic_model.specs.Profile.{whole}
use Rattle.world_model.specs.Computing.{running}
use Rattle.world_model.specs.Running.{text_of_script}
use Rattle.world_examples.specs.RowWords.{k0_holding, lines, each, two_bytes, send, publish, publish_m}
use Rattle.world_examples.specs.RowWords.{publish_numbered}
use Rattle.world_examples.specs.RowWords.{says, closed, k0, acknowledged, delivered, connect_a, connect_p, a_connects}
use Rattle.world_examples.specs.RowWords.{p_connects}
use Rattle.world_examples.specs.RowWords.{both_there, both_there_text, first_publish_lines, first_publish_text}

-- `a` subscribes, `p` publishes, and the first pump delivers what the second has no more
first_publish : text_of_script whole (lines first_publish_lines) [] ≡ lines first_publish_text
unfolding running
first_publish = refl

-- a packet in pieces of one byte each
abbrev byte_by_byte : List ℕ → List ℕ → List (List ℕ)
byte_by_byte connection [] = []
byte_by_byte connection (digit ∷ []) = []
byte_by_byte connection (high ∷ low ∷ rest) = send connection (high ∷ low ∷ []) ∷ byte_by_byte connection rest

-- how its packets are cut changes nothing
cut_at_each_byte : text_of_script whole
    (lines
    (codes "open 1" ∷ byte_by_byte (codes "1") connect_a
    ++ byte_by_byte (codes "1") (codes "82090001000003612F6201")
    ++ codes "open 2" ∷ byte_by_byte (codes "2") connect_p ++ byte_by_byte (codes "2") publish_m
    ++ codes "pump 1" ∷ codes "pump 1" ∷ [])) []
    ≡ lines first_publish_text
unfolding running
cut_at_each_byte = refl

-- a topic that begins with a dollar sign isn't taken, which the acknowledgement says
dollar_topic : text_of_script whole (lines (p_connects ++ codes "send 2 320700022478000B00" ∷ [])) []
    ≡ lines (k0 (codes "2") ∷ codes "2< 4003000B90" ∷ [])
unfolding running
dollar_topic = refl

-- the properties of a publisher are given to a subscriber, in ascending order
properties_in_order : text_of_script whole
    (lines (both_there ++ codes "send 2 32130003612F620007092600016100016201016869" ∷ codes "pump 1" ∷ [])) []
    ≡ lines
    (both_there_text ++ acknowledged (codes "2") (codes "07")
    ∷ codes "1< 32130003612F620001090101260001610001626869" ∷ [])
unfolding running
properties_in_order = refl

-- ---- packets that close, or are answered by a reason, right after CONNACK

-- a script in which `a` connects and sends one packet, and its text where that closes with a reason
abbrev sends_one : List ℕ → List ℕ
sends_one packet = lines (a_connects ++ send (codes "1") packet ∷ [])

abbrev closes_with : List ℕ → List ℕ
closes_with reason = lines (k0 (codes "1") ∷ says (codes "1") (codes "E001" ++ reason) ∷ closed (codes "1") ∷ [])

abbrev answers : List ℕ → List ℕ
answers packet = lines (k0 (codes "1") ∷ says (codes "1") packet ∷ [])

-- a zero byte in the topic
zero_in_the_topic : text_of_script whole (sends_one (codes "300400010000")) [] ≡ closes_with (codes "81")
unfolding running
zero_in_the_topic = refl

-- the properties are missing
without_properties : text_of_script whole (sends_one (codes "3003000161")) [] ≡ closes_with (codes "81")
unfolding running
without_properties = refl

-- identifier 0 with QoS 1
zero_identifier : text_of_script whole (sends_one (codes "3206000161000000")) [] ≡ closes_with (codes "81")
unfolding running
zero_identifier = refl

-- topic aliases aren't taken
topic_alias : text_of_script whole (sends_one (codes "300700016103230001")) [] ≡ closes_with (codes "94")
unfolding running
topic_alias = refl

-- nor are retained messages, yet
retained : text_of_script whole (sends_one (codes "310400016100")) [] ≡ closes_with (codes "9A")
unfolding running
retained = refl

-- an expiry is taken
with_an_expiry : text_of_script whole (sends_one (codes "320B000161000105020000000A")) [] ≡ answers (codes "40020001")
unfolding running
with_an_expiry = refl

-- a PUBREL of an identifier that isn't awaited
release_of_nothing : text_of_script whole (sends_one (codes "62020001")) [] ≡ answers (codes "7003000192")
unfolding running
release_of_nothing = refl

-- a PUBREC of an identifier that nothing was sent with
received_nothing : text_of_script whole (sends_one (codes "50020009")) [] ≡ answers (codes "6203000992")
unfolding running
received_nothing = refl

-- ---- QoS 2

-- a publish that is sent again is stored once; its identifier is released once
qos2_repeated : text_of_script whole
    (lines
    (p_connects ++ send (codes "2") (publish (codes "34") (codes "05"))
    ∷ send (codes "2") (publish (codes "34") (codes "05"))
    ∷ codes "send 2 62020005" ∷ codes "send 2 62020005" ∷ codes "look" ∷ [])) []
    ≡ lines (k0 (codes "2") ∷ codes "2< 50020005" ∷ codes "2< 50020005" ∷ codes "2< 70020005" ∷ codes "2< 7003000592"
    ∷ codes "shard 0 floor 0 next 1 awaiting 0"
    ∷ codes " generation 0 first 0 next 1 streams 1"
    ∷ codes "  stream 0 a/b count 1"
    ∷ codes "worker 0"
    ∷ codes " session p subs 0 unfinished 0" ∷ [])
unfolding running
qos2_repeated = refl

-- between PUBREC and PUBREL the identifier is awaited
qos2_awaited : text_of_script whole
    (lines (p_connects ++ send (codes "2") (publish (codes "34") (codes "05")) ∷ codes "look" ∷ [])) []
    ≡ lines (k0 (codes "2") ∷ codes "2< 50020005"
    ∷ codes "shard 0 floor 0 next 1 awaiting 1"
    ∷ codes " generation 0 first 0 next 1 streams 1"
    ∷ codes "  stream 0 a/b count 1"
    ∷ codes "worker 0"
    ∷ codes " session p subs 0 unfinished 0" ∷ [])
unfolding running
qos2_awaited = refl

-- the identifiers from 1 on: that many publishes with QoS 2, and their PUBRECs
abbrev qos2_publishes : ℕ → List (List ℕ)
qos2_publishes n = each (λ (identifier : ℕ). send (codes "2") (publish_numbered (codes "34") identifier) ∷ []) 1 n

abbrev receipts : ℕ → List (List ℕ)
receipts n = each (λ (identifier : ℕ). says (codes "2") (codes "5002" ++ two_bytes identifier) ∷ []) 1 n

-- a connection may hold 32 identifiers; the next one closes it
thirty_three_held : text_of_script whole (lines (p_connects ++ qos2_publishes 33)) []
    ≡ lines (k0 (codes "2") ∷ receipts 32 ++ codes "2< E00193" ∷ closed (codes "2") ∷ [])
unfolding running
thirty_three_held = refl

-- the same where 2 may be held; a released one makes room
three_held : text_of_script (record whole { held = 2 })
    (lines
    (p_connects ++ qos2_publishes 2
    ++ codes "send 2 62020001" ∷ send (codes "2") (publish (codes "34") (codes "03"))
    ∷ send (codes "2") (publish (codes "34") (codes "04")) ∷ [])) []
    ≡ lines
    (k0_holding (codes "0002") (codes "2") ∷ receipts 2
    ++ codes "2< 70020001" ∷ codes "2< 50020003" ∷ codes "2< E00193" ∷ closed (codes "2") ∷ [])
unfolding running
three_held = refl

-- a shard awaits so many identifiers, here 2 and not 4,096; the next publish isn't stored, and is when one was released
too_many_awaited : text_of_script (record whole { awaited = 2 })
    (lines
    (p_connects ++ qos2_publishes 3
    ++ codes "send 2 62020001" ∷ send (codes "2") (publish (codes "34") (codes "03")) ∷ [])) []
    ≡ lines (k0 (codes "2") ∷ receipts 2 ++ codes "2< 5003000397" ∷ codes "2< 70020001" ∷ codes "2< 50020003" ∷ [])
unfolding running
too_many_awaited = refl

-- ---- groups

-- two publishes of one piece are acknowledged each
two_in_one_piece : text_of_script whole
    (lines (both_there ++ send (codes "2") (publish_m ++ publish_m) ∷ codes "pump 1" ∷ codes "pump 1" ∷ [])) []
    ≡ lines (both_there_text ++ acknowledged (codes "2") (codes "07") ∷ acknowledged (codes "2") (codes "07")
    ∷ delivered (codes "1") (codes "01") ∷ delivered (codes "1") (codes "03") ∷ [])
unfolding running
two_in_one_piece = refl
