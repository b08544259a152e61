-- Packets cut into pieces, several packets in one piece, headers that are refused, and kinds that a client may not
-- send.
use Rattle.std.specs.Prelude.{◌≡◌, refl, [], ◌∷◌, codes}
use Rattle.topic_model.specs.Profile.{whole}
use Rattle.world_model.specs.Running.{text_of_script}
use Rattle.world_model.specs.Computing.{running}
use Rattle.world_examples.specs.HostileWords.{lines, one, opens, closes, send, gets, ended, connect_a, connect_p}
use Rattle.world_examples.specs.HostileWords.{accepted, resumed}

-- a CONNECT that comes in pieces is answered when it is whole; a SUBSCRIBE afterwards as well
cut_in_the_lobby : text_of_script whole
    (lines (opens one ∷ send one (codes "10") ∷ send one (codes "1300") ∷ send one (codes "044D51545405")
    ∷ send one (codes "00003C051100000E10000161") ∷ send one (codes "82") ∷ send one (codes "09000100")
    ∷ send one (codes "0003612F62")
    ∷ send one (codes "01") ∷ [])) []
    ≡ lines (gets one accepted ∷ gets one (codes "900400010001") ∷ [])
unfolding running
cut_in_the_lobby = refl

-- what stands behind the CONNECT in its piece is taken with it, to the last byte
together_with_the_connect : text_of_script whole
    (lines (opens one ∷ send one (codes "101300044D5154540500003C051100000E10000161C000C0")
    ∷ send one (codes "00") ∷ [])) []
    ≡ lines (gets one accepted ∷ gets one (codes "D000") ∷ gets one (codes "D000") ∷ [])
unfolding running
together_with_the_connect = refl

-- hexadecimal digits of either case
either_case : text_of_script whole
    (lines (opens one ∷ send one (codes "101300044d5154540500003c051100000e10000161") ∷ send one (codes "c000")
    ∷ [])) []
    ≡ lines (gets one accepted ∷ gets one (codes "D000") ∷ [])
unfolding running
either_case = refl

-- a header of more bytes than needed is refused after the good packet in front of it
bad_header_behind_a_ping : text_of_script whole
    (lines (opens one ∷ send one connect_a ∷ send one (codes "C000C08000C000") ∷ [])) []
    ≡ lines (gets one accepted ∷ gets one (codes "D000") ∷ gets one (codes "E00181") ∷ ended one ∷ [])
unfolding running
bad_header_behind_a_ping = refl

-- a fourth length byte that goes on is no length, whatever would follow; a length over the limit is too large
fifth_length_byte : text_of_script whole
    (lines (opens one ∷ send one connect_a ∷ send one (codes "C00030FFFFFFFF") ∷ opens one
    ∷ send one connect_a ∷ send one (codes "C00030FFFFFF7F") ∷ [])) []
    ≡ lines
    (gets one accepted ∷ gets one (codes "D000") ∷ gets one (codes "E00181") ∷ ended one ∷ gets one resumed
    ∷ gets one (codes "D000")
    ∷ gets one (codes "E00195") ∷ ended one ∷ [])
unfolding running
fifth_length_byte = refl

-- a header is judged when it is whole, and without waiting for the packet
header_in_pieces : text_of_script whole
    (lines (opens one ∷ send one connect_a ∷ send one (codes "30") ∷ send one (codes "FD")
    ∷ send one (codes "FF") ∷ send one (codes "3F") ∷ [])) []
    ≡ lines (gets one accepted ∷ gets one (codes "E00195") ∷ ended one ∷ [])
unfolding running
header_in_pieces = refl

-- a CONNECT in front of a bad header in its piece is answered
bad_header_behind_the_connect : text_of_script whole
    (lines (opens one ∷ send one (codes "101300044D5154540500003C051100000E10000161C08000")
    ∷ [])) []
    ≡ lines (gets one accepted ∷ gets one (codes "E00181") ∷ ended one ∷ [])
unfolding running
bad_header_behind_the_connect = refl

-- a first header that is refused closes, and nothing is written
refused_in_the_lobby : text_of_script whole
    (lines (opens one ∷ send one (codes "108000") ∷ opens one ∷ send one (codes "10FDFF3F") ∷ opens one
    ∷ send one (codes "10FF") ∷ send one (codes "FFFFFF") ∷ [])) []
    ≡ lines (ended one ∷ ended one ∷ ended one ∷ [])
unfolding running
refused_in_the_lobby = refl

-- a connection that its client closes in the lobby leaves nothing behind
closed_in_the_lobby : text_of_script whole (lines (opens one ∷ send one (codes "101300") ∷ closes one
    ∷ send one (codes "044D5154540500003C051100000E10000161") ∷ opens one ∷ send one (codes "1013") ∷ opens one
    ∷ send one connect_a ∷ [])) []
    ≡ lines (gets one accepted ∷ [])
unfolding running
closed_in_the_lobby = refl

-- the bytes that a connection left over do not meet those of the next one
left_over_bytes : text_of_script whole
    (lines (opens one ∷ send one connect_a ∷ send one (codes "C0") ∷ opens one ∷ send one connect_a
    ∷ send one (codes "00") ∷ send one (codes "00") ∷ [])) []
    ≡ lines (gets one accepted ∷ gets one resumed ∷ gets one (codes "E00181") ∷ ended one ∷ [])
unfolding running
left_over_bytes = refl

-- what stands behind DISCONNECT is not looked at
behind_a_disconnect : text_of_script whole
    (lines (opens one ∷ send one connect_p ∷ send one (codes "E000320A0003612F620007006869C000")
    ∷ codes "look" ∷ [])) []
    ≡ lines
    (gets one accepted ∷ ended one ∷ codes "shard 0 floor 0 next 0 awaiting 0"
    ∷ codes " generation 0 first 0 next 0 streams 0"
    ∷ codes "worker 0" ∷ codes " session p subs 0 unfinished 0" ∷ [])
unfolding running
behind_a_disconnect = refl

-- what stands behind a packet that closes is not looked at; what stands before it is stored and answered
behind_a_malformed_one : text_of_script whole (lines (opens one ∷ send one connect_p
    ∷ send one (codes "320A0003612F62000700686960020001320A0003612F620008006869") ∷ codes "look" ∷ [])) []
    ≡ lines
    (gets one accepted ∷ gets one (codes "40020007") ∷ gets one (codes "E00181") ∷ ended one
    ∷ codes "shard 0 floor 0 next 1 awaiting 0"
    ∷ codes " generation 0 first 0 next 1 streams 1" ∷ codes "  stream 0 a/b count 1" ∷ codes "worker 0"
    ∷ codes " session p subs 0 unfinished 0"
    ∷ [])
unfolding running
behind_a_malformed_one = refl

-- a second CONNECT closes behind the answer of the publish before it
behind_a_second_connect : text_of_script whole (lines (opens one ∷ send one connect_p
    ∷ send one (codes "320A0003612F620007006869101300044D5154540500003C051100000E10000170320A0003612F620008006869")
    ∷ [])) []
    ≡ lines (gets one accepted ∷ gets one (codes "40020007") ∷ gets one (codes "E00182") ∷ ended one ∷ [])
unfolding running
behind_a_second_connect = refl

-- answers come in the order of the packets, also around one that needs no storage
answers_in_order : text_of_script whole (lines (opens one ∷ send one connect_p
    ∷ send one
    (codes "320A0003612F620007006869C000320A0003612F620008006869320900022478000B006869320A0003612F620009006869")
    ∷ [])) []
    ≡ lines (gets one accepted ∷ gets one (codes "40020007") ∷ gets one (codes "D000") ∷ gets one (codes "40020008")
    ∷ gets one (codes "4003000B90") ∷ gets one (codes "40020009") ∷ [])
unfolding running
answers_in_order = refl

-- an identifier of QoS 2 twice in a piece is stored once and answered twice
one_identifier_twice : text_of_script whole (lines (opens one ∷ send one connect_p
    ∷ send one (codes "340A0003612F6200050068693C0A0003612F620005006869") ∷ codes "look" ∷ [])) []
    ≡ lines
    (gets one accepted ∷ gets one (codes "50020005") ∷ gets one (codes "50020005")
    ∷ codes "shard 0 floor 0 next 1 awaiting 1"
    ∷ codes " generation 0 first 0 next 1 streams 1" ∷ codes "  stream 0 a/b count 1" ∷ codes "worker 0"
    ∷ codes " session p subs 0 unfinished 0"
    ∷ [])
unfolding running
one_identifier_twice = refl

-- a publish of QoS 2 and its PUBREL in one piece
publish_and_release : text_of_script whole
    (lines (opens one ∷ send one connect_p ∷ send one (codes "340A0003612F6200050068696202000562020005")
    ∷ [])) []
    ≡ lines
    (gets one accepted ∷ gets one (codes "50020005") ∷ gets one (codes "70020005") ∷ gets one (codes "7003000592")
    ∷ [])
unfolding running
publish_and_release = refl

-- ---- kinds that a client may not send

-- CONNACK, SUBACK and UNSUBACK from a client break a rule
answers_from_a_client : text_of_script whole
    (lines (opens one ∷ send one connect_p ∷ send one (codes "2003000000") ∷ opens one
    ∷ send one connect_p ∷ send one (codes "900400010001") ∷ opens one ∷ send one connect_p
    ∷ send one (codes "B00400010000") ∷ [])) []
    ≡ lines
    (gets one accepted ∷ gets one (codes "E00182") ∷ ended one ∷ gets one resumed ∷ gets one (codes "E00182")
    ∷ ended one
    ∷ gets one resumed ∷ gets one (codes "E00182") ∷ ended one ∷ [])
unfolding running
answers_from_a_client = refl

-- PINGRESP and AUTH from a client break a rule, AUTH in its short form and in a long one
others_from_a_client : text_of_script whole
    (lines (opens one ∷ send one connect_p ∷ send one (codes "D000") ∷ opens one ∷ send one connect_p
    ∷ send one (codes "F000") ∷ opens one ∷ send one connect_p ∷ send one (codes "F0021800") ∷ [])) []
    ≡ lines
    (gets one accepted ∷ gets one (codes "E00182") ∷ ended one ∷ gets one resumed ∷ gets one (codes "E00182")
    ∷ ended one
    ∷ gets one resumed ∷ gets one (codes "E00182") ∷ ended one ∷ [])
unfolding running
others_from_a_client = refl

-- a CONNACK with a reserved flag is malformed, and so are kind 0 and a PINGREQ with a body
malformed_answers : text_of_script whole
    (lines (opens one ∷ send one connect_p ∷ send one (codes "2003020000") ∷ opens one ∷ send one connect_p
    ∷ send one (codes "0000") ∷ opens one ∷ send one connect_p ∷ send one (codes "C00100") ∷ [])) []
    ≡ lines
    (gets one accepted ∷ gets one (codes "E00181") ∷ ended one ∷ gets one resumed ∷ gets one (codes "E00181")
    ∷ ended one
    ∷ gets one resumed ∷ gets one (codes "E00181") ∷ ended one ∷ [])
unfolding running
malformed_answers = refl

-- a byte behind the last field is malformed, and a packet that ends within a field
bytes_behind_the_fields : text_of_script whole
    (lines (opens one ∷ send one connect_p ∷ send one (codes "40050001000000") ∷ opens one
    ∷ send one connect_p ∷ send one (codes "A206000100000361") ∷ opens one ∷ send one connect_p
    ∷ send one (codes "400100") ∷ [])) []
    ≡ lines
    (gets one accepted ∷ gets one (codes "E00181") ∷ ended one ∷ gets one resumed ∷ gets one (codes "E00181")
    ∷ ended one
    ∷ gets one resumed ∷ gets one (codes "E00181") ∷ ended one ∷ [])
unfolding running
bytes_behind_the_fields = refl
