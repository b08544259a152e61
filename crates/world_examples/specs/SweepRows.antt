-- What is learned of topics, the order of streams and generations, and what `look` prints of them.
use Rattle.std.specs.Prelude.{ℕ, ◌+◌, ◌-◌, ◌*◌, ◌≡◌, refl, List, [], ◌∷◌, ◌++◌, length, replicate, codes}
use Rattle.std.specs.Fmt.{decimal}
use Rattle.hex.specs.Hex.{encode_upper}
use Rattle.topic_model.specs.Profile.{whole}
use Rattle.world_model.specs.Computing.{running}
use Rattle.world_model.specs.Running.{text_of_script}
use Rattle.world_examples.specs.RowWords.{lines, each, one_byte, two_bytes, send, send_m, connect_as, publish}
use Rattle.world_examples.specs.RowWords.{publish_under_a, says, k0, k1}
use Rattle.world_examples.specs.RowWords.{granted_one, acknowledged, ponged, delivered, resent, a_connects, p_connects}
use Rattle.world_examples.specs.RowWords.{comes_back, pump_and_ping}
use Rattle.world_examples.specs.RowWords.{first_publish_lines, first_publish_text}

-- ---- a wildcard is learned

-- `p` publishes to `a/1`, `a/2`, `a/3`, `a/4` and `a/1`
abbrev five_topics : List (List ℕ)
five_topics =
    send (codes "2") (publish_under_a (codes "32") (codes "31") (codes "07"))
    ∷ send (codes "2") (publish_under_a (codes "32") (codes "32") (codes "07"))
    ∷ send (codes "2") (publish_under_a (codes "32") (codes "33") (codes "07"))
    ∷ send (codes "2") (publish_under_a (codes "32") (codes "34") (codes "07"))
    ∷ send (codes "2") (publish_under_a (codes "32") (codes "31") (codes "07")) ∷ []

abbrev five_topics_text : List (List ℕ)
five_topics_text = replicate 5 (acknowledged (codes "2") (codes "07"))

-- `a` has subscribed to all of them
abbrev five_waiting : List (List ℕ)
five_waiting = codes "set below 2" ∷ a_connects ++ codes "send 1 82090001000003612F2B01" ∷ p_connects ++ five_topics

abbrev five_waiting_text : List (List ℕ)
five_waiting_text = k0 (codes "1") ∷ granted_one (codes "1") ∷ k0 (codes "2") ∷ five_topics_text

-- the streams' deliveries, with the first byte given: `a/1` twice, `a/2`, and the learned `a/+` with `a/3` and `a/4`
abbrev of_first_stream : List ℕ → List (List ℕ)
of_first_stream first =
    says (codes "1") (publish_under_a first (codes "31") (codes "01"))
    ∷ says (codes "1") (publish_under_a first (codes "31") (codes "03")) ∷ []

abbrev of_second_stream : List ℕ → List (List ℕ)
of_second_stream first = says (codes "1") (publish_under_a first (codes "32") (codes "05")) ∷ []

abbrev of_learned_stream : List ℕ → List (List ℕ)
of_learned_stream first =
    says (codes "1") (publish_under_a first (codes "33") (codes "07"))
    ∷ says (codes "1") (publish_under_a first (codes "34") (codes "09")) ∷ []

abbrev of_all_streams : List ℕ → List (List ℕ)
of_all_streams first = of_first_stream first ++ of_second_stream first ++ of_learned_stream first

abbrev five_in_three_streams : List (List ℕ)
five_in_three_streams =
    codes "shard 0 floor 0 next 5 awaiting 0"
    ∷ codes " generation 0 first 0 next 5 streams 3"
    ∷ codes "  stream 0 a/1 count 2"
    ∷ codes "  stream 1 a/2 count 1"
    ∷ codes "  stream 2 a/+ count 2"
    ∷ codes "worker 0" ∷ []

-- A node that has its two tokens takes `+` for the others. A subscriber is given stream after stream, and after a crash
-- the same packets in the same order.
learns_a_wildcard : text_of_script whole
    (lines (five_waiting ++ codes "pump 1" ∷ codes "pump 1" ∷ codes "pump 1" ∷ codes "crash 1" ∷ comes_back)) []
    ≡ lines
    (five_waiting_text ++ of_all_streams (codes "32")
    ++ codes "crashed" ∷ k1 (codes "1") ∷ of_all_streams (codes "3A"))
unfolding running
learns_a_wildcard = refl

-- each of the three pumps gives one stream
a_stream_a_pump : text_of_script whole (lines (five_waiting ++ pump_and_ping ++ pump_and_ping ++ pump_and_ping)) []
    ≡ lines (five_waiting_text ++ of_first_stream (codes "32") ++ ponged (codes "1") ∷ of_second_stream (codes "32")
    ++ ponged (codes "1") ∷ of_learned_stream (codes "32") ++ ponged (codes "1") ∷ [])
unfolding running
a_stream_a_pump = refl

-- the patterns before a crash and after it
learned_before_and_after : text_of_script whole
    (lines (five_waiting ++ codes "look" ∷ codes "crash 1" ∷ codes "look" ∷ [])) []
    ≡ lines (five_waiting_text
    ++ five_in_three_streams ++ codes " session a subs 1 unfinished 0" ∷ codes " session p subs 0 unfinished 0"
    ∷ codes "crashed"
    ∷ five_in_three_streams ++ codes " session a subs 1 unfinished 0" ∷ codes " session p subs 0 unfinished 0" ∷ [])
unfolding running
learned_before_and_after = refl

-- the same publishes where `p` is alone
looks : text_of_script whole (lines (codes "set below 2" ∷ p_connects ++ five_topics ++ codes "look" ∷ [])) []
    ≡ lines (k0 (codes "2") ∷ five_topics_text ++ five_in_three_streams ++ codes " session p subs 0 unfinished 0" ∷ [])
unfolding running
looks = refl

-- a filter without a wildcard finds its one message in the learned stream
finds_in_a_learned_stream : text_of_script whole
    (lines (codes "set below 2" ∷ a_connects ++ codes "send 1 82090001000003612F3301" ∷ p_connects ++ five_topics
    ++ codes "pump 1" ∷ codes "pump 1" ∷ [])) []
    ≡ lines
    (k0 (codes "1") ∷ granted_one (codes "1") ∷ k0 (codes "2") ∷ five_topics_text
    ++ codes "1< 320A0003612F330001006869" ∷ [])
unfolding running
finds_in_a_learned_stream = refl

-- ---- many devices

-- a PUBLISH of the reading `20` by a device, with its first byte and its identifier
abbrev reading : ℕ → ℕ → ℕ → List ℕ
reading first identifier device =
    let topic = codes "site/" ++ decimal device ++ codes "/temp" in
    encode_upper (first ∷ (7 + length topic) ∷ 0 ∷ length topic ∷ topic) ++ two_bytes identifier ++ codes "003230"

-- so many devices connect one after the other, publish a reading and go
abbrev device_lines : ℕ → List (List ℕ)
device_lines device =
    codes "open 2" ∷ send (codes "2") (connect_as (codes "d" ++ decimal device))
    ∷ send (codes "2") (reading 50 7 device)
    ∷ codes "close 2" ∷ []

abbrev device_text : ℕ → List (List ℕ)
device_text device = k0 (codes "2") ∷ acknowledged (codes "2") (codes "07") ∷ []

-- `a` subscribes to `site/+/temp` and goes before
abbrev devices : ℕ → List (List ℕ)
devices n = a_connects ++ codes "send 1 8211000100000B736974652F2B2F74656D7001" ∷ codes "close 1"
    ∷ each device_lines 0 n

abbrev devices_text : ℕ → List (List ℕ)
devices_text n = k0 (codes "1") ∷ granted_one (codes "1") ∷ each device_text 0 n

-- deliveries of the readings of so many devices, from one on
abbrev readings : ℕ → ℕ → List (List ℕ)
readings from n = each (λ (device : ℕ). says (codes "1") (reading 50 (2 * device + 1) device) ∷ []) from n

-- each of the first readings, and a PINGRESP behind it
abbrev readings_one_by_one : ℕ → List (List ℕ)
readings_one_by_one n =
    each (λ (device : ℕ). says (codes "1") (reading 50 (2 * device + 1) device) ∷ ponged (codes "1") ∷ []) 0 n

-- the shard after so many devices, ten of them with a stream of their own
abbrev devices_shard : ℕ → List (List ℕ)
devices_shard n =
    (codes "shard 0 floor 0 next " ++ decimal n ++ codes " awaiting 0")
    ∷ (codes " generation 0 first 0 next " ++ decimal n ++ codes " streams 11")
    ∷ each (λ (k : ℕ). (codes "  stream " ++ decimal k ++ codes " site/" ++ decimal k ++ codes "/temp count 1") ∷ []) 0
    10
    ++ (codes "  stream 10 site/+/temp count " ++ decimal (n - 10)) ∷ []

abbrev devices_worker : ℕ → List (List ℕ)
devices_worker n =
    codes "worker 0" ∷ codes " session a subs 1 unfinished 0"
    ∷ each (λ (k : ℕ). (codes " session d" ++ decimal k ++ codes " subs 0 unfinished 0") ∷ []) 0 n

-- thirty devices: ten pumps of one reading each, and one of the other twenty
thirty_devices : text_of_script whole
    (lines (devices 30 ++ a_connects ++ each (λ (k : ℕ). pump_and_ping) 0 12 ++ codes "ack 1" ∷ codes "look" ∷ [])) []
    ≡ lines
    (devices_text 30 ++ k1 (codes "1") ∷ readings_one_by_one 10 ++ readings 10 20
    ++ ponged (codes "1") ∷ ponged (codes "1")
    ∷ devices_shard 30 ++ devices_worker 30)
unfolding running
thirty_devices = refl

-- after their publishes and after a crash the same streams
thirty_devices_crash : text_of_script whole
    (lines (devices 30 ++ codes "look" ∷ codes "crash 1" ∷ codes "look" ∷ [])) []
    ≡ lines
    (devices_text 30 ++ devices_shard 30 ++ devices_worker 30 ++ codes "crashed" ∷ devices_shard 30
    ++ devices_worker 30)
unfolding running
thirty_devices_crash = refl

-- two hundred devices leave eleven streams, the last one of 190 messages: ten pumps of one reading each, then 64, 64
-- and 62
two_hundred_devices : text_of_script whole
    (lines (devices 200 ++ a_connects ++ each (λ (k : ℕ). pump_and_ping) 0 13 ++ codes "ack 1" ∷ codes "look" ∷ [])) []
    ≡ lines (devices_text 200 ++ k1 (codes "1") ∷ readings_one_by_one 10
    ++ readings 10 64 ++ ponged (codes "1") ∷ readings 74 64 ++ ponged (codes "1") ∷ readings 138 62
    ++ ponged (codes "1")
    ∷ devices_shard 200 ++ devices_worker 200)
unfolding running
two_hundred_devices = refl

-- ---- generations

-- a message a generation, kept for a second
abbrev small_generations : List (List ℕ)
small_generations = codes "set messages 1" ∷ codes "set retention 1000" ∷ []

abbrev rolled : List (List ℕ)
rolled =
    small_generations ++ first_publish_lines
    ++ send_m (codes "2") ∷ codes "pump 1" ∷ codes "close 1" ∷ codes "tick 1000"
    ∷ comes_back ++ codes "send 1 40020003" ∷ codes "pump 1" ∷ []

abbrev rolled_text : List (List ℕ)
rolled_text =
    first_publish_text ++ acknowledged (codes "2") (codes "07") ∷ delivered (codes "1") (codes "03") ∷ k1 (codes "1")
    ∷ resent (codes "1") (codes "03") ∷ []

-- the first generation is dropped, and its unfinished delivery is passed over; the second one's is sent again
generations_roll : text_of_script whole (lines rolled) [] ≡ lines rolled_text
unfolding running
generations_roll = refl

-- and nothing is unfinished then
generations_rolled : text_of_script whole (lines (rolled ++ codes "look" ∷ [])) []
    ≡ lines (rolled_text
    ++ codes "shard 0 floor 1 next 2 awaiting 0"
    ∷ codes " generation 1 first 1 next 2 streams 1"
    ∷ codes "  stream 0 a/b count 1"
    ∷ codes "worker 0"
    ∷ codes " session a subs 1 unfinished 0"
    ∷ codes " session p subs 0 unfinished 0" ∷ [])
unfolding running
generations_rolled = refl

-- `p` publishes with the identifiers 1 to 9, a second passes, and it publishes with identifier 10
abbrev filled : List (List ℕ)
filled =
    small_generations ++ p_connects ++ each (λ (k : ℕ). send (codes "2") (publish (codes "32") (one_byte k)) ∷ []) 1 9
    ++ codes "tick 1000" ∷ send (codes "2") (publish (codes "32") (codes "0A")) ∷ []

abbrev filled_text : List (List ℕ)
filled_text =
    k0 (codes "2") ∷ each (λ (k : ℕ). acknowledged (codes "2") (one_byte k) ∷ []) 1 8
    ++ codes "2< 4003000997" ∷ acknowledged (codes "2") (codes "0A") ∷ []

-- eight generations are held and none may be dropped yet, so the ninth publish is refused; a second later there is room
full_shard : text_of_script whole (lines filled) [] ≡ lines filled_text
unfolding running
full_shard = refl

-- the seven that were sealed at the beginning are gone
full_shard_rolls : text_of_script whole (lines (filled ++ codes "look" ∷ [])) []
    ≡ lines (filled_text
    ++ codes "shard 0 floor 7 next 9 awaiting 0"
    ∷ codes " generation 7 first 7 next 8 streams 1"
    ∷ codes "  stream 0 a/b count 1"
    ∷ codes " generation 8 first 8 next 9 streams 1"
    ∷ codes "  stream 0 a/b count 1"
    ∷ codes "worker 0"
    ∷ codes " session p subs 0 unfinished 0" ∷ [])
unfolding running
full_shard_rolls = refl
