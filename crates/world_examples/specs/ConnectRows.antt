-- Connecting: CONNACK and its refusals, assigned identifiers, ends of connections and of sessions, keep alive and ping.
use Rattle.std.specs.Prelude.{◌≡◌, refl, [], ◌∷◌, ◌++◌, codes}
use Rattle.topic_model.specs.Profile.{whole}
use Rattle.world_model.specs.Computing.{running}
use Rattle.world_model.specs.Running.{text_of_script}
use Rattle.world_examples.specs.RowWords.{lines, send, send_a, connect_as, closed, k0, k1, ponged, a_connects}
use Rattle.world_examples.specs.RowWords.{p_connects}

-- a script without lines prints nothing
empty_script : text_of_script whole [] [] ≡ []
unfolding running
empty_script = refl

-- ---- accepted

-- a client that connects is told what the broker takes
connects : text_of_script whole (lines a_connects) [] ≡ lines (k0 (codes "1") ∷ [])
unfolding running
connects = refl

-- a client without an identifier gets one of its worker and the next incarnation's number, and is told so
assigned_identifier : text_of_script whole
    (lines (codes "open 1" ∷ codes "send 1 101200044D5154540500003C051100000E100000" ∷ [])) []
    ≡ lines (codes "1< 201B0000181200096175746F2D30302D31210020250027001000002A00" ∷ [])
unfolding running
assigned_identifier = refl

-- one incarnation is used by then, so the assigned number is 2
assigned_after_another : text_of_script whole
    (lines (a_connects ++ codes "open 2" ∷ codes "send 2 101200044D5154540500003C051100000E100000" ∷ [])) []
    ≡ lines (k0 (codes "1") ∷ codes "2< 201B0000181200096175746F2D30302D32210020250027001000002A00" ∷ [])
unfolding running
assigned_after_another = refl

-- that number's identifier belongs to a session already, so the next number is assigned
assigned_past_a_taken_one : text_of_script whole
    (lines (codes "open 1" ∷ send (codes "1") (connect_as (codes "auto-00-2"))
    ∷ codes "open 2" ∷ codes "send 2 101200044D5154540500003C051100000E100000" ∷ [])) []
    ≡ lines (k0 (codes "1") ∷ codes "2< 201B0000181200096175746F2D30302D33210020250027001000002A00" ∷ [])
unfolding running
assigned_past_a_taken_one = refl

-- a client that comes back in time finds its session; with Clean Start it gets a new one
clean_start : text_of_script whole
    (lines (a_connects ++ codes "close 1" ∷ a_connects ++ codes "close 1"
    ∷ codes "open 1" ∷ codes "send 1 101300044D5154540502003C051100000E10000161" ∷ [])) []
    ≡ lines (k0 (codes "1") ∷ k1 (codes "1") ∷ k0 (codes "1") ∷ [])
unfolding running
clean_start = refl

-- ---- refused

-- another version of the protocol
wrong_version : text_of_script whole (lines (codes "open 1" ∷ codes "send 1 100D00044D5154540402003C000161" ∷ [])) []
    ≡ lines (codes "1< 2003008400" ∷ closed (codes "1") ∷ [])
unfolding running
wrong_version = refl

-- the lowest of the flags, which has to be 0, is set
malformed_connect : text_of_script whole
    (lines (codes "open 1" ∷ codes "send 1 101300044D5154540501003C051100000E10000161" ∷ [])) []
    ≡ lines (codes "1< 2003008100" ∷ closed (codes "1") ∷ [])
unfolding running
malformed_connect = refl

-- the interval is given twice
repeated_interval : text_of_script whole
    (lines (codes "open 1" ∷ codes "send 1 101800044D5154540500003C0A1100000E101100000E10000161" ∷ [])) []
    ≡ lines (codes "1< 2003008200" ∷ closed (codes "1") ∷ [])
unfolding running
repeated_interval = refl

-- an authentication method is asked for
authentication_method : text_of_script whole
    (lines (codes "open 1" ∷ codes "send 1 101700044D5154540500003C091100000E1015000178000161" ∷ [])) []
    ≡ lines (codes "1< 2003008C00" ∷ closed (codes "1") ∷ [])
unfolding running
authentication_method = refl

-- a will, which isn't taken yet
with_a_will : text_of_script whole
    (lines
    (codes "open 1" ∷ codes "send 1 102200044D515454050C003C051100000E100001770518000000050003612F6200026869" ∷ []))
    []
    ≡ lines (codes "1< 2003008300" ∷ closed (codes "1") ∷ [])
unfolding running
with_a_will = refl

-- an identifier over its limit, which is 256 bytes and here 2
long_identifier : text_of_script (record whole { client = 2 })
    (lines (codes "open 1" ∷ send (codes "1") (connect_as (codes "abc")) ∷ [])) []
    ≡ lines (codes "1< 2003008500" ∷ closed (codes "1") ∷ [])
unfolding running
long_identifier = refl

-- one session more than a worker has room for, here 2 and not 4,096; a client that has one comes in
too_many_sessions : text_of_script (record whole { sessions = 2 })
    (lines (a_connects ++ p_connects ++ codes "open 3" ∷ send (codes "3") (connect_as (codes "b"))
    ∷ codes "close 1" ∷ codes "open 3" ∷ send_a (codes "3") ∷ [])) []
    ≡ lines (k0 (codes "1") ∷ k0 (codes "2") ∷ codes "3< 2003008900" ∷ closed (codes "3") ∷ k1 (codes "3") ∷ [])
unfolding running
too_many_sessions = refl

-- a first packet that is no CONNECT is answered by nothing
ping_before_connect : text_of_script whole (lines (codes "open 1" ∷ codes "send 1 C000" ∷ [])) []
    ≡ lines (closed (codes "1") ∷ [])
unfolding running
ping_before_connect = refl

-- nor is one whose length has a fifth byte
first_length_too_long : text_of_script whole (lines (codes "open 1" ∷ codes "send 1 10FFFFFFFF" ∷ [])) []
    ≡ lines (closed (codes "1") ∷ [])
unfolding running
first_length_too_long = refl

-- ---- packets that close

-- a second CONNECT on one connection
second_connect : text_of_script whole (lines (a_connects ++ send_a (codes "1") ∷ [])) []
    ≡ lines (k0 (codes "1") ∷ codes "1< E00182" ∷ closed (codes "1") ∷ [])
unfolding running
second_connect = refl

-- a length that is spelled in more bytes than it needs
bad_flags : text_of_script whole (lines (a_connects ++ codes "send 1 C08000" ∷ [])) []
    ≡ lines (k0 (codes "1") ∷ codes "1< E00181" ∷ closed (codes "1") ∷ [])
unfolding running
bad_flags = refl

-- PUBREL with the flags of another packet
bad_release_flags : text_of_script whole (lines (a_connects ++ codes "send 1 60020001" ∷ [])) []
    ≡ lines (k0 (codes "1") ∷ codes "1< E00181" ∷ closed (codes "1") ∷ [])
unfolding running
bad_release_flags = refl

-- a header that announces one byte more than a packet may have
too_large : text_of_script whole (lines (a_connects ++ codes "send 1 30FDFF3F" ∷ [])) []
    ≡ lines (k0 (codes "1") ∷ codes "1< E00195" ∷ closed (codes "1") ∷ [])
unfolding running
too_large = refl

-- the greatest packet: the rest is waited for
as_large_as_may_be : text_of_script whole (lines (a_connects ++ codes "send 1 30FCFF3F" ∷ [])) []
    ≡ lines (k0 (codes "1") ∷ [])
unfolding running
as_large_as_may_be = refl

-- ---- ping, keep alive and ends

-- a PINGREQ in two pieces is answered once it is whole; then the client says good-bye
ping_in_pieces : text_of_script whole
    (lines (a_connects ++ codes "send 1 C0" ∷ codes "send 1 00" ∷ codes "send 1 E000" ∷ [])) []
    ≡ lines (k0 (codes "1") ∷ ponged (codes "1") ∷ closed (codes "1") ∷ [])
unfolding running
ping_in_pieces = refl

-- a client that is silent for more than one and a half times its keep alive is closed, and not before
keep_alive : text_of_script whole (lines (a_connects ++ codes "tick 90000" ∷ codes "tick 1" ∷ [])) []
    ≡ lines (k0 (codes "1") ∷ codes "1< E0018D" ∷ closed (codes "1") ∷ [])
unfolding running
keep_alive = refl

-- ninety seconds to the millisecond aren't too many
still_alive : text_of_script whole (lines (a_connects ++ codes "tick 90000" ∷ [])) [] ≡ lines (k0 (codes "1") ∷ [])
unfolding running
still_alive = refl

-- a ping begins that time anew
ping_keeps_alive : text_of_script whole
    (lines (a_connects ++ codes "tick 90000" ∷ codes "send 1 C000" ∷ codes "tick 90000" ∷ [])) []
    ≡ lines (k0 (codes "1") ∷ ponged (codes "1") ∷ [])
unfolding running
ping_keeps_alive = refl

-- a session stays for its interval after its connection's end: here not a millisecond too short
session_stays : text_of_script whole (lines (a_connects ++ codes "close 1" ∷ codes "tick 3599999" ∷ a_connects)) []
    ≡ lines (k0 (codes "1") ∷ k1 (codes "1") ∷ [])
unfolding running
session_stays = refl

-- and it has ended when the interval is over
session_ends : text_of_script whole (lines (a_connects ++ codes "close 1" ∷ codes "tick 3600000" ∷ a_connects)) []
    ≡ lines (k0 (codes "1") ∷ k0 (codes "1") ∷ [])
unfolding running
session_ends = refl

-- DISCONNECT may name another interval: with 0 the session ends at once
interval_at_the_end : text_of_script whole (lines (a_connects ++ codes "send 1 E00700051100000000" ∷ a_connects)) []
    ≡ lines (k0 (codes "1") ∷ closed (codes "1") ∷ k0 (codes "1") ∷ [])
unfolding running
interval_at_the_end = refl

-- but a client that asked for no interval may not ask for one then
interval_too_late : text_of_script whole
    (lines (codes "open 1" ∷ codes "send 1 100E00044D5154540500003C00000161" ∷ codes "send 1 E0070005110000000A" ∷ []))
    []
    ≡ lines (k0 (codes "1") ∷ codes "1< E00182" ∷ closed (codes "1") ∷ [])
unfolding running
interval_too_late = refl
