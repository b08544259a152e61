-- CONNECT: each refusal, Clean Start, takeovers, assigned identifiers, and the interval of a session as CONNECT and
-- DISCONNECT set it.
use Rattle.std.specs.Prelude.{◌≡◌, refl, [], ◌∷◌, ◌++◌, codes}
use Rattle.topic_model.specs.Profile.{whole}
use Rattle.world_model.specs.Running.{text_of_script}
use Rattle.world_model.specs.Computing.{running}
use Rattle.world_examples.specs.HostileWords.{lines, one, two, three, four, opens, closes, pumps, send, gets, ended}
use Rattle.world_examples.specs.HostileWords.{connect_a, connect_p, accepted, resumed, subscribe, of_hi, at_least_once}
use Rattle.world_examples.specs.HostileWords.{listening, heard}

-- another protocol name is refused by its own reason
old_protocol_name : text_of_script whole
    (lines (opens one ∷ send one (codes "100F00064D51497364700302003C000161") ∷ [])) []
    ≡ lines (gets one (codes "2003008400") ∷ ended one ∷ [])
unfolding running
old_protocol_name = refl

-- a version that is not 5 is named, although nothing of the packet follows it
unknown_version : text_of_script whole (lines (opens one ∷ send one (codes "100700044D51545406") ∷ [])) []
    ≡ lines (gets one (codes "2003008400") ∷ ended one ∷ [])
unfolding running
unknown_version = refl

-- the lowest flag is reserved: these bytes are no CONNECT of this version
reserved_connect_flag : text_of_script whole
    (lines (opens one ∷ send one (codes "101300044D5154540501003C051100000E10000161") ∷ [])) []
    ≡ lines (gets one (codes "2003008100") ∷ ended one ∷ [])
unfolding running
reserved_connect_flag = refl

-- the QoS of a will that is not there is malformed
will_bits_without_a_will : text_of_script whole
    (lines (opens one ∷ send one (codes "101300044D5154540508003C051100000E10000161") ∷ [])) []
    ≡ lines (gets one (codes "2003008100") ∷ ended one ∷ [])
unfolding running
will_bits_without_a_will = refl

-- a will of QoS 3 is malformed, which comes before the refusal of wills
will_of_qos_three : text_of_script whole
    (lines (opens one ∷ send one (codes "101900044D515454051C003C051100000E10000161000001770000") ∷ [])) []
    ≡ lines (gets one (codes "2003008100") ∷ ended one ∷ [])
unfolding running
will_of_qos_three = refl

-- a zero character in the client identifier is malformed
zero_in_client : text_of_script whole
    (lines (opens one ∷ send one (codes "101300044D5154540500003C051100000E10000100") ∷ [])) []
    ≡ lines (gets one (codes "2003008100") ∷ ended one ∷ [])
unfolding running
zero_in_client = refl

-- a property of another packet kind is malformed
misplaced_property : text_of_script whole
    (lines (opens one ∷ send one (codes "101100044D5154540500003C03230001000161") ∷ [])) []
    ≡ lines (gets one (codes "2003008100") ∷ ended one ∷ [])
unfolding running
misplaced_property = refl

-- a property that stands twice breaks a rule of the protocol; so does a Receive Maximum of 0
property_twice : text_of_script whole
    (lines (opens one ∷ send one (codes "101800044D5154540500003C0A1100000E101100000E10000161") ∷ opens one
    ∷ send one (codes "101600044D5154540500003C081100000E10210000000161") ∷ [])) []
    ≡ lines (gets one (codes "2003008200") ∷ ended one ∷ gets one (codes "2003008200") ∷ ended one ∷ [])
unfolding running
property_twice = refl

-- Authentication Data alone breaks a rule of the protocol
data_without_method : text_of_script whole
    (lines (opens one ∷ send one (codes "101200044D5154540500003C0416000158000161") ∷ [])) []
    ≡ lines (gets one (codes "2003008200") ∷ ended one ∷ [])
unfolding running
data_without_method = refl

-- an Authentication Method is refused, also beside a will
authentication_method : text_of_script whole
    (lines (opens one ∷ send one (codes "101200044D5154540500003C0415000178000161") ∷ opens one
    ∷ send one (codes "101800044D5154540504003C0415000178000161000001770000") ∷ [])) []
    ≡ lines (gets one (codes "2003008C00") ∷ ended one ∷ gets one (codes "2003008C00") ∷ ended one ∷ [])
unfolding running
authentication_method = refl

-- a will is refused before a client identifier that is too long; one of just the limit is taken
will_and_long_client : text_of_script (record whole { client = 2 }) (lines (opens one
    ∷ send one (codes "101B00044D5154540504003C051100000E100003616263000001770000") ∷ opens one
    ∷ send one (codes "101500044D5154540500003C051100000E100003616263") ∷ opens one
    ∷ send one (codes "101400044D5154540500003C051100000E1000026162") ∷ [])) []
    ≡ lines
    (gets one (codes "2003008300") ∷ ended one ∷ gets one (codes "2003008500") ∷ ended one ∷ gets one accepted ∷ [])
unfolding running
will_and_long_client = refl

-- a worker with all its sessions refuses a new client and still takes the clients that it knows, with Clean Start too
worker_is_full : text_of_script (record whole { sessions = 1 })
    (lines (opens one ∷ send one connect_a ∷ opens two ∷ send two connect_p
    ∷ opens three ∷ send three (codes "101300044D5154540502003C051100000E10000161") ∷ [])) []
    ≡ lines
    (gets one accepted ∷ gets two (codes "2003008900") ∷ ended two ∷ gets one (codes "E0018E") ∷ ended one
    ∷ gets three accepted ∷ [])
unfolding running
worker_is_full = refl

-- user name and password are read and change nothing, a password alone as well
user_and_password : text_of_script whole
    (lines (opens one ∷ send one (codes "101900044D51545405C0003C051100000E10000161000175000170") ∷ opens two
    ∷ send two (codes "101600044D5154540540003C051100000E10000170000170") ∷ [])) []
    ≡ lines (gets one accepted ∷ gets two accepted ∷ [])
unfolding running
user_and_password = refl

-- a first packet of another kind closes, and nothing is written
first_packet_is_none : text_of_script whole (lines (opens one ∷ send one (of_hi (codes "32") (codes "07")) ∷ opens two
    ∷ send two (codes "2003000000") ∷ [])) []
    ≡ lines (ended one ∷ ended two ∷ [])
unfolding running
first_packet_is_none = refl

-- a second CONNECT breaks a rule, also where it has another version
second_connect_readable : text_of_script whole
    (lines (opens one ∷ send one connect_a ∷ send one connect_a ∷ opens one ∷ send one connect_a
    ∷ send one (codes "100D00044D5154540402003C000161") ∷ [])) []
    ≡ lines
    (gets one accepted ∷ gets one (codes "E00182") ∷ ended one ∷ gets one resumed ∷ gets one (codes "E00182")
    ∷ ended one ∷ [])
unfolding running
second_connect_readable = refl

-- a second CONNECT outside the grammar is malformed
second_connect_malformed : text_of_script whole (lines (opens one ∷ send one connect_a
    ∷ send one (codes "101300044D5154540501003C051100000E10000161") ∷ [])) []
    ≡ lines (gets one accepted ∷ gets one (codes "E00181") ∷ ended one ∷ [])
unfolding running
second_connect_malformed = refl

-- a second CONNECT is not asked what else would refuse it
second_connect_with_a_will : text_of_script whole (lines (opens one ∷ send one connect_a
    ∷ send one (codes "101800044D5154540504003C0415000178000161000001770000") ∷ [])) []
    ≡ lines (gets one accepted ∷ gets one (codes "E00182") ∷ ended one ∷ [])
unfolding running
second_connect_with_a_will = refl

-- ---- takeovers

-- a connection that takes over while the old one sends again begins with the whole list
takeover_amid_resend : text_of_script whole
    (lines (listening at_least_once ++ send two (of_hi (codes "32") (codes "07"))
    ∷ send two (of_hi (codes "32") (codes "08")) ∷ pumps one ∷ opens three
    ∷ send three (codes "101600044D5154540500003C081100000E10210001000161")
    ∷ pumps three ∷ opens four ∷ send four connect_a ∷ pumps four ∷ [])) []
    ≡ lines
    (heard at_least_once ++ gets two (codes "40020007") ∷ gets two (codes "40020008")
    ∷ gets one (of_hi (codes "32") (codes "01"))
    ∷ gets one (of_hi (codes "32") (codes "03")) ∷ gets one (codes "E0018E") ∷ ended one ∷ gets three resumed
    ∷ gets three (of_hi (codes "3A") (codes "01")) ∷ gets three (codes "E0018E") ∷ ended three ∷ gets four resumed
    ∷ gets four (of_hi (codes "3A") (codes "01")) ∷ gets four (of_hi (codes "3A") (codes "03")) ∷ [])
unfolding running
takeover_amid_resend = refl

-- Clean Start ends the session with what waits in it; a subscription that is made then begins behind it
clean_start_over_waiting : text_of_script whole
    (lines (listening at_least_once ++ send two (of_hi (codes "32") (codes "07")) ∷ opens three
    ∷ send three (codes "101300044D5154540502003C051100000E10000161") ∷ pumps three ∷ send three subscribe ∷ pumps three
    ∷ send two (of_hi (codes "32") (codes "08")) ∷ pumps three ∷ [])) []
    ≡ lines
    (heard at_least_once ++ gets two (codes "40020007") ∷ gets one (codes "E0018E") ∷ ended one
    ∷ gets three accepted
    ∷ gets three (codes "900400010001") ∷ gets two (codes "40020008") ∷ gets three (of_hi (codes "32") (codes "01"))
    ∷ [])
unfolding running
clean_start_over_waiting = refl

-- a session with interval 0 ends when it is taken over, and its subscription with it
takeover_ends_interval_zero : text_of_script whole
    (lines (opens one ∷ send one (codes "100E00044D5154540500003C00000161") ∷ send one subscribe
    ∷ opens two ∷ send two connect_p ∷ opens three ∷ send three connect_a ∷ send two (of_hi (codes "32") (codes "07"))
    ∷ pumps three ∷ [])) []
    ≡ lines
    (gets one accepted ∷ gets one (codes "900400010001") ∷ gets two accepted ∷ gets one (codes "E0018E") ∷ ended one
    ∷ gets three accepted
    ∷ gets two (codes "40020007") ∷ [])
unfolding running
takeover_ends_interval_zero = refl

-- the interval of the CONNECT that takes over counts from then on: this session is resumed, and ends with its
-- connection
takeover_with_interval_zero : text_of_script whole (lines (listening at_least_once ++ opens three
    ∷ send three (codes "100E00044D5154540500003C00000161") ∷ send two (of_hi (codes "32") (codes "07")) ∷ pumps three
    ∷ closes three
    ∷ opens three ∷ send three connect_a ∷ pumps three ∷ [])) []
    ≡ lines
    (heard at_least_once ++ gets one (codes "E0018E") ∷ ended one ∷ gets three resumed ∷ gets two (codes "40020007")
    ∷ gets three (of_hi (codes "32") (codes "01")) ∷ gets three accepted ∷ [])
unfolding running
takeover_with_interval_zero = refl

-- ---- DISCONNECT

-- DISCONNECT may make the interval 0: the session ends at once
disconnect_ends_session : text_of_script whole
    (lines (opens one ∷ send one connect_a ∷ send one (codes "E00700051100000000") ∷ opens one
    ∷ send one connect_a ∷ [])) []
    ≡ lines (gets one accepted ∷ ended one ∷ gets one accepted ∷ [])
unfolding running
disconnect_ends_session = refl

-- DISCONNECT may name a longer interval than the second of the CONNECT
disconnect_keeps_session : text_of_script whole
    (lines (opens one ∷ send one (codes "101300044D5154540500003C051100000001000161")
    ∷ send one (codes "E00700051100000E10") ∷ codes "tick 1000" ∷ opens one ∷ send one connect_a ∷ [])) []
    ≡ lines (gets one accepted ∷ ended one ∷ gets one resumed ∷ [])
unfolding running
disconnect_keeps_session = refl

-- an interval of 0 may not be raised: a rule is broken, and the session ends with its connection
disconnect_raises_zero : text_of_script whole (lines (opens one ∷ send one (codes "100E00044D5154540500003C00000161")
    ∷ send one (codes "E00700051100000E10") ∷ opens one ∷ send one connect_a ∷ [])) []
    ≡ lines (gets one accepted ∷ gets one (codes "E00182") ∷ ended one ∷ gets one accepted ∷ [])
unfolding running
disconnect_raises_zero = refl

-- naming the interval 0 again breaks no rule
disconnect_repeats_zero : text_of_script whole (lines (opens one ∷ send one (codes "100E00044D5154540500003C00000161")
    ∷ send one (codes "E00700051100000000") ∷ opens one ∷ send one connect_a ∷ [])) []
    ≡ lines (gets one accepted ∷ ended one ∷ gets one accepted ∷ [])
unfolding running
disconnect_repeats_zero = refl

-- DISCONNECT is answered by the close alone, in its short form and in its long ones
disconnect_with_a_reason : text_of_script whole
    (lines (opens one ∷ send one connect_a ∷ send one (codes "E00104") ∷ opens one
    ∷ send one connect_a ∷ send one (codes "E0020000") ∷ [])) []
    ≡ lines (gets one accepted ∷ ended one ∷ gets one resumed ∷ ended one ∷ [])
unfolding running
disconnect_with_a_reason = refl

-- ---- assigned identifiers and limits of the client

-- an assigned identifier passes over the names of sessions that are there
assigned_number_skips : text_of_script whole
    (lines (opens one ∷ send one (codes "101B00044D5154540500003C051100000E1000096175746F2D30302D32")
    ∷ opens two ∷ send two (codes "101200044D5154540500003C051100000E100000") ∷ [])) []
    ≡ lines (gets one accepted ∷ gets two (codes "201B0000181200096175746F2D30302D33210020250027001000002A00") ∷ [])
unfolding running
assigned_number_skips = refl

-- a CONNACK that the client would not take is not sent: the connection is closed, the session stays
connack_over_limit : text_of_script whole
    (lines (opens one ∷ send one (codes "101800044D5154540500003C0A1100000E102700000010000161") ∷ opens one
    ∷ send one (codes "101800044D5154540500003C0A1100000E102700000011000161") ∷ [])) []
    ≡ lines (ended one ∷ gets one resumed ∷ [])
unfolding running
connack_over_limit = refl

-- a malformed packet ends its connection alone; other sessions and its own stay
malformed_changes_nothing_else : text_of_script whole (lines (listening at_least_once ++ send one (codes "C00100")
    ∷ send two (of_hi (codes "32") (codes "07")) ∷ opens one ∷ send one connect_a ∷ pumps one ∷ [])) []
    ≡ lines
    (heard at_least_once ++ gets one (codes "E00181") ∷ ended one ∷ gets two (codes "40020007") ∷ gets one resumed
    ∷ gets one (of_hi (codes "32") (codes "01")) ∷ [])
unfolding running
malformed_changes_nothing_else = refl
