-- Words that the worked scripts and their texts share: lines, what clients send, what the broker answers. Packets are
-- texts of hexadecimal digits; a connection is the text of its number.
use Rattle.std.specs.Prelude.{ℕ, zero, suc, ◌+◌, ◌/◌, ◌%◌, List, [], ◌∷◌, ◌++◌, length, codes}
use Rattle.hex.specs.Hex.{encode_upper}

-- ---- lists

-- each line with its line feed
abbrev pub lines : List (List ℕ) → List ℕ
lines [] = []
lines (line ∷ more) = line ++ 10 ∷ lines more

-- what a function gives for so many numbers, from one on, in a row
abbrev pub each : {A : Type 0} → (ℕ → List A) → ℕ → ℕ → List A
each f from zero = []
each f from (suc n) = f from ++ each f (from + 1) n

-- ---- digits

-- a number as two digits, and as four
abbrev pub one_byte : ℕ → List ℕ
one_byte n = encode_upper (n ∷ [])

abbrev pub two_bytes : ℕ → List ℕ
two_bytes n = encode_upper ((n / 256) ∷ (n % 256) ∷ [])

-- ---- lines of a script

abbrev pub send : List ℕ → List ℕ → List ℕ
send connection packet = codes "send " ++ connection ++ codes " " ++ packet

-- a CONNECT with a keep alive of a minute and an interval of an hour, its client identifier given as a list of bytes
abbrev pub connect_as : List ℕ → List ℕ
connect_as client =
    encode_upper (16 ∷ (18 + length client) ∷ []) ++ codes "00044D5154540500003C051100000E10"
    ++ encode_upper (0 ∷ length client ∷ client)

-- such a CONNECT of the clients `a` and `p`
abbrev pub connect_a : List ℕ
connect_a = codes "101300044D5154540500003C051100000E10000161"

abbrev pub connect_p : List ℕ
connect_p = codes "101300044D5154540500003C051100000E10000170"

abbrev pub send_a : List ℕ → List ℕ
send_a connection = send connection connect_a

abbrev pub send_p : List ℕ → List ℕ
send_p connection = send connection connect_p

-- a PUBLISH of `hi` to `a/b`: its first byte, and its identifier below 256 as two digits
abbrev pub publish : List ℕ → List ℕ → List ℕ
publish first identifier = first ++ codes "0A0003612F6200" ++ identifier ++ codes "006869"

-- the one with QoS 1 and identifier 7
abbrev pub publish_m : List ℕ
publish_m = publish (codes "32") (codes "07")

abbrev pub send_m : List ℕ → List ℕ
send_m connection = send connection publish_m

-- the same with an identifier of two bytes, given as a number
abbrev pub publish_numbered : List ℕ → ℕ → List ℕ
publish_numbered first identifier = first ++ codes "0A0003612F62" ++ two_bytes identifier ++ codes "006869"

-- a PUBLISH of `hi` to a topic of `a/` and one digit, both given as digits
abbrev pub publish_under_a : List ℕ → List ℕ → List ℕ → List ℕ
publish_under_a first level identifier =
    first ++ codes "0A0003612F" ++ level ++ codes "00" ++ identifier ++ codes "006869"

-- ---- lines that are printed

abbrev pub says : List ℕ → List ℕ → List ℕ
says connection packet = connection ++ codes "< " ++ packet

abbrev pub closed : List ℕ → List ℕ
closed connection = connection ++ codes " closed"

-- CONNACK of a new session, and of one that is resumed
abbrev pub k0 : List ℕ → List ℕ
k0 connection = says connection (codes "200F00000C210020250027001000002A00")

-- the first of a broker whose connections hold so many identifiers, in four digits
abbrev pub k0_holding : List ℕ → List ℕ → List ℕ
k0_holding held connection = says connection (codes "200F00000C21" ++ held ++ codes "250027001000002A00")

abbrev pub k1 : List ℕ → List ℕ
k1 connection = says connection (codes "200F01000C210020250027001000002A00")

-- SUBACK of the first SUBSCRIBE, with the granted QoS 1
abbrev pub granted_one : List ℕ → List ℕ
granted_one connection = says connection (codes "900400010001")

-- PUBACK of an identifier below 256
abbrev pub acknowledged : List ℕ → List ℕ → List ℕ
acknowledged connection identifier = says connection (codes "400200" ++ identifier)

-- PINGRESP, which shows where a pump's packets end
abbrev pub ponged : List ℕ → List ℕ
ponged connection = says connection (codes "D000")

-- a delivery of `hi` at `a/b` with QoS 1, and the same once more
abbrev pub delivered : List ℕ → List ℕ → List ℕ
delivered connection identifier = says connection (publish (codes "32") identifier)

abbrev pub resent : List ℕ → List ℕ → List ℕ
resent connection identifier = says connection (publish (codes "3A") identifier)

-- the same with an identifier of two bytes
abbrev pub delivered_numbered : List ℕ → ℕ → List ℕ
delivered_numbered connection identifier = says connection (publish_numbered (codes "32") identifier)

-- ---- how many scripts begin

-- `a` is there on connection 1
abbrev pub a_connects : List (List ℕ)
a_connects = codes "open 1" ∷ send_a (codes "1") ∷ []

-- it subscribes to `a/b` with QoS 1
abbrev pub a_subscribes : List (List ℕ)
a_subscribes = a_connects ++ codes "send 1 82090001000003612F6201" ∷ []

abbrev pub p_connects : List (List ℕ)
p_connects = codes "open 2" ∷ send_p (codes "2") ∷ []

-- and `p` is there on connection 2
abbrev pub both_there : List (List ℕ)
both_there = a_subscribes ++ p_connects

abbrev pub both_there_text : List (List ℕ)
both_there_text = k0 (codes "1") ∷ granted_one (codes "1") ∷ k0 (codes "2") ∷ []

-- `p` publishes
abbrev pub published : List (List ℕ)
published = both_there ++ send_m (codes "2") ∷ []

abbrev pub published_text : List (List ℕ)
published_text = both_there_text ++ acknowledged (codes "2") (codes "07") ∷ []

-- and `a` is given what there is; a second pump has nothing
abbrev pub first_publish_lines : List (List ℕ)
first_publish_lines = published ++ codes "pump 1" ∷ codes "pump 1" ∷ []

abbrev pub first_publish_text : List (List ℕ)
first_publish_text = published_text ++ delivered (codes "1") (codes "01") ∷ []

-- `a` connects anew and is pumped
abbrev pub comes_back : List (List ℕ)
comes_back = a_connects ++ codes "pump 1" ∷ []

-- a pump of connection 1, and a PINGREQ behind it
abbrev pub pump_and_ping : List (List ℕ)
pump_and_ping = codes "pump 1" ∷ codes "send 1 C000" ∷ []
