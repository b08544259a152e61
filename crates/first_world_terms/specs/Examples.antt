-- Scripts and their texts, from bytes to bytes, computed by the checker.
use Rattle.std.specs.Prelude.{ℕ, zero, suc, ◌+◌, ◌≡◌, refl, List, [], ◌∷◌, ◌++◌, codes}
use Rattle.std.specs.Fmt.{digits}
use Rattle.hex.specs.Hex.{decode_pairs, encode_with, encode_upper}
use Rattle.first_world_terms.specs.Run.{text_of_script}

-- lines, each with its line feed
abbrev lines_joined : List (List ℕ) → List ℕ
lines_joined [] = []
lines_joined (l ∷ ls) = l ++ 10 ∷ lines_joined ls

-- the CONNECTs of the clients `a` and `p`, which keep their sessions for an hour
abbrev connect_a : List ℕ
connect_a = codes "101300044D5154540500003C051100000E10000161"

abbrev connect_p : List ℕ
connect_p = codes "101300044D5154540500003C051100000E10000170"

-- the CONNACK of a new session
abbrev connack_text : List ℕ
connack_text = codes "200F00000C21002025002700100000" ++ codes "2A00"

-- the CONNACK on connection 1 and on connection 2
abbrev accepted : List ℕ → List ℕ
accepted connection = connection ++ codes "< " ++ connack_text

-- a script of no lines prints nothing
empty_script : text_of_script [] ≡ []
empty_script = refl

connects : text_of_script (lines_joined (codes "open 1" ∷ (codes "send 1 " ++ connect_a) ∷ [])) ≡ lines_joined (accepted (codes "1") ∷ [])
unfolding digits decode_pairs encode_with
connects = refl

-- `a` subscribes to `a/b` and `p` publishes `hi` there; the first pump delivers it, the second has nothing
first_publish : text_of_script (lines_joined (codes "open 1" ∷ (codes "send 1 " ++ connect_a) ∷ codes "send 1 82090001000003612F6201" ∷ codes "open 2" ∷ (codes "send 2 " ++ connect_p) ∷ codes "send 2 320A0003612F620007006869" ∷ codes "pump 1" ∷ codes "pump 1" ∷ []))
    ≡ lines_joined (accepted (codes "1") ∷ codes "1< 900400010001" ∷ accepted (codes "2") ∷ codes "2< 40020007" ∷ codes "1< 320A0003612F620001006869" ∷ [])
unfolding digits decode_pairs encode_with
first_publish = refl

-- a first packet that is no CONNECT
ping_before_connect : text_of_script (lines_joined (codes "open 1" ∷ codes "send 1 C000" ∷ [])) ≡ lines_joined (codes "1 closed" ∷ [])
unfolding digits decode_pairs encode_with
ping_before_connect = refl

-- a packet that is not built yet
later_packet_closes : text_of_script (lines_joined (codes "open 1" ∷ (codes "send 1 " ++ connect_a) ∷ codes "send 1 C000" ∷ [])) ≡ lines_joined (accepted (codes "1") ∷ codes "1< E00183" ∷ codes "1 closed" ∷ [])
unfolding digits decode_pairs encode_with
later_packet_closes = refl

-- a second CONNECT, and bytes on the connection that was closed
second_connect : text_of_script (lines_joined (codes "open 1" ∷ (codes "send 1 " ++ connect_a) ∷ (codes "send 1 " ++ connect_a) ∷ codes "send 1 C000" ∷ [])) ≡ lines_joined (accepted (codes "1") ∷ codes "1< E00182" ∷ codes "1 closed" ∷ [])
unfolding digits decode_pairs encode_with
second_connect = refl

-- a client that has a session already, also where the first connection was closed by opening it again
connects_again : text_of_script (lines_joined (codes "open 1" ∷ (codes "send 1 " ++ connect_a) ∷ codes "open 1" ∷ (codes "send 1 " ++ connect_a) ∷ [])) ≡ lines_joined (accepted (codes "1") ∷ codes "1 closed" ∷ [])
unfolding digits decode_pairs encode_with
connects_again = refl

-- `p` subscribes to `c`, which the topic `a/b` doesn't match, and gets nothing
other_filter : text_of_script (lines_joined (codes "open 1" ∷ (codes "send 1 " ++ connect_a) ∷ codes "send 1 82090001000003612F6201" ∷ codes "open 2" ∷ (codes "send 2 " ++ connect_p) ∷ codes "send 2 820700010000016301" ∷ codes "send 2 320A0003612F620007006869" ∷ codes "pump 2" ∷ codes "pump 1" ∷ []))
    ≡ lines_joined (accepted (codes "1") ∷ codes "1< 900400010001" ∷ accepted (codes "2") ∷ codes "2< 900400010001" ∷ codes "2< 40020007" ∷ codes "1< 320A0003612F620001006869" ∷ [])
unfolding digits decode_pairs encode_with
other_filter = refl

-- so many times the same line
abbrev again : ℕ → List ℕ → List (List ℕ)
again zero line = []
again (suc n) line = line ∷ again n line

-- deliveries of `hi` with identifiers from one on, two apart
abbrev deliveries : ℕ → ℕ → List (List ℕ)
deliveries zero id = []
deliveries (suc n) id = (codes "1< " ++ encode_upper (50 ∷ 10 ∷ 0 ∷ 3 ∷ 97 ∷ 47 ∷ 98 ∷ 0 ∷ id ∷ 0 ∷ 104 ∷ 105 ∷ [])) ∷ deliveries n (id + 2)

-- 70 publishes: a pump issues 64 of them, and the next one the other 6
seventy : text_of_script (lines_joined ((codes "open 1" ∷ (codes "send 1 " ++ connect_a) ∷ codes "send 1 82090001000003612F6201" ∷ codes "open 2" ∷ (codes "send 2 " ++ connect_p) ∷ []) ++ again 70 (codes "send 2 320A0003612F620007006869") ++ (codes "pump 1" ∷ codes "pump 1" ∷ [])))
    ≡ lines_joined ((accepted (codes "1") ∷ codes "1< 900400010001" ∷ accepted (codes "2") ∷ []) ++ again 70 (codes "2< 40020007") ++ deliveries 70 1)
unfolding digits decode_pairs encode_with
seventy = refl
