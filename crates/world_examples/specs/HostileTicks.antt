-- Keep Alive and the ends of sessions, to the millisecond, and the order of what a Tick does.
use Rattle.std.specs.Prelude.{◌≡◌, refl, [], ◌∷◌, ◌++◌, codes}
use Rattle.topic_model.specs.Profile.{whole}
use Rattle.shard_model.specs.Choices.{Works, Fails, GoesIn, GoesOut}
use Rattle.world_model.specs.Running.{text_of_script}
use Rattle.world_model.specs.Computing.{running}
use Rattle.world_examples.specs.HostileWords.{lines, one, two, three, five, opens, closes, pumps, send, gets}
use Rattle.world_examples.specs.HostileWords.{ended, connect_a, connect_p, accepted, resumed, subscribe, of_hi, works}

-- one and a half times the Keep Alive is not too long, one millisecond more is
keep_alive_to_the_millisecond : text_of_script whole
    (lines (opens one ∷ send one (codes "101300044D51545405000001051100000E10000161")
    ∷ codes "tick 1500" ∷ codes "tick 1" ∷ codes "tick 1" ∷ [])) []
    ≡ lines (gets one accepted ∷ gets one (codes "E0018D") ∷ ended one ∷ [])
unfolding running
keep_alive_to_the_millisecond = refl

-- a packet counts from its own moment
packet_keeps_alive : text_of_script whole
    (lines (opens one ∷ send one (codes "101300044D51545405000001051100000E10000161") ∷ codes "tick 1500"
    ∷ send one (codes "C000") ∷ codes "tick 1500" ∷ codes "tick 1" ∷ [])) []
    ≡ lines (gets one accepted ∷ gets one (codes "D000") ∷ gets one (codes "E0018D") ∷ ended one ∷ [])
unfolding running
packet_keeps_alive = refl

-- half a packet does not keep alive, and neither does a delivery
half_a_packet : text_of_script whole (lines (opens one ∷ send one (codes "101300044D51545405000001051100000E10000161")
    ∷ send one (codes "82090001000003612F6200") ∷ opens two ∷ send two connect_p
    ∷ send two (of_hi (codes "32") (codes "07")) ∷ codes "tick 1000"
    ∷ send one (codes "C0") ∷ pumps one ∷ codes "tick 501" ∷ [])) []
    ≡ lines (gets one accepted ∷ gets one (codes "900400010000") ∷ gets two accepted ∷ gets two (codes "40020007")
    ∷ gets one (codes "30080003612F62006869") ∷ gets one (codes "E0018D") ∷ ended one ∷ [])
unfolding running
half_a_packet = refl

-- a Keep Alive of 0 is none
no_keep_alive : text_of_script whole
    (lines (opens one ∷ send one (codes "101300044D51545405000000051100000E10000161") ∷ codes "tick 1000000000"
    ∷ send one (codes "C000") ∷ [])) []
    ≡ lines (gets one accepted ∷ gets one (codes "D000") ∷ [])
unfolding running
no_keep_alive = refl

-- before a CONNECT nothing is too late
not_in_the_lobby : text_of_script whole (lines (opens one ∷ send one (codes "1013") ∷ codes "tick 1000000000"
    ∷ send one (codes "00044D5154540500003C051100000E10000161") ∷ [])) []
    ≡ lines (gets one accepted ∷ [])
unfolding running
not_in_the_lobby = refl

-- several are closed by their numbers; a session of interval 0 is gone with its connection, another one stays
closes_by_number : text_of_script whole
    (lines (opens five ∷ send five (codes "100E00044D5154540500000100000161") ∷ opens three
    ∷ send three (codes "101300044D51545405000001051100000E10000170") ∷ codes "tick 1501" ∷ codes "look" ∷ opens five
    ∷ send five connect_a
    ∷ opens three ∷ send three connect_p ∷ [])) []
    ≡ lines
    (gets five accepted ∷ gets three accepted ∷ gets three (codes "E0018D") ∷ ended three
    ∷ gets five (codes "E0018D") ∷ ended five
    ∷ codes "shard 0 floor 0 next 0 awaiting 0" ∷ codes " generation 0 first 0 next 0 streams 0" ∷ codes "worker 0"
    ∷ codes " session p subs 0 unfinished 0" ∷ gets five accepted ∷ gets three resumed ∷ [])
unfolding running
closes_by_number = refl

-- a session ends in the Tick in which its interval is over, and not one millisecond before
ends_in_a_tick : text_of_script whole
    (lines (opens one ∷ send one (codes "101300044D5154540500003C051100000001000161") ∷ closes one
    ∷ codes "tick 999" ∷ codes "look" ∷ codes "tick 1" ∷ codes "look" ∷ opens one
    ∷ send one (codes "101300044D5154540500003C051100000001000161")
    ∷ [])) []
    ≡ lines
    (gets one accepted ∷ codes "shard 0 floor 0 next 0 awaiting 0" ∷ codes " generation 0 first 0 next 0 streams 0"
    ∷ codes "worker 0"
    ∷ codes " session a subs 0 unfinished 0" ∷ codes "shard 0 floor 0 next 0 awaiting 0"
    ∷ codes " generation 0 first 0 next 0 streams 0"
    ∷ codes "worker 0" ∷ gets one accepted ∷ [])
unfolding running
ends_in_a_tick = refl

-- the interval counts from the end of the connection, and anew after the next one
counts_from_the_end : text_of_script whole
    (lines (opens one ∷ send one (codes "101300044D5154540500003C051100000001000161") ∷ codes "tick 5000"
    ∷ closes one ∷ codes "tick 999" ∷ opens one ∷ send one (codes "101300044D5154540500003C051100000001000161")
    ∷ closes one ∷ codes "tick 999"
    ∷ opens one ∷ send one (codes "101300044D5154540500003C051100000001000161") ∷ closes one ∷ codes "tick 1000"
    ∷ opens one
    ∷ send one (codes "101300044D5154540500003C051100000001000161") ∷ [])) []
    ≡ lines (gets one accepted ∷ gets one resumed ∷ gets one resumed ∷ gets one accepted ∷ [])
unfolding running
counts_from_the_end = refl

-- where a Tick closes the connection, the interval counts from that Tick
counts_from_the_close : text_of_script whole
    (lines (opens one ∷ send one (codes "101300044D51545405000001051100000001000161") ∷ codes "tick 1501"
    ∷ codes "tick 999" ∷ codes "look" ∷ codes "tick 1" ∷ codes "look" ∷ [])) []
    ≡ lines (gets one accepted ∷ gets one (codes "E0018D") ∷ ended one ∷ codes "shard 0 floor 0 next 0 awaiting 0"
    ∷ codes " generation 0 first 0 next 0 streams 0" ∷ codes "worker 0" ∷ codes " session a subs 0 unfinished 0"
    ∷ codes "shard 0 floor 0 next 0 awaiting 0" ∷ codes " generation 0 first 0 next 0 streams 0" ∷ codes "worker 0"
    ∷ [])
unfolding running
counts_from_the_close = refl

-- the greatest interval never ends
for_ever : text_of_script whole
    (lines (opens one ∷ send one (codes "101300044D5154540500003C0511FFFFFFFF000161") ∷ closes one
    ∷ codes "tick 1000000000" ∷ codes "tick 1000000000" ∷ opens one ∷ send one connect_a ∷ [])) []
    ≡ lines (gets one accepted ∷ gets one resumed ∷ [])
unfolding running
for_ever = refl

-- where the Tick that should have ended it could not, the session ends at the CONNECT of its client
ends_at_its_connect : text_of_script whole
    (lines (opens one ∷ send one (codes "101300044D5154540500003C051100000001000161") ∷ send one subscribe
    ∷ closes one ∷ codes "fail 10 1" ∷ codes "tick 1000" ∷ opens one ∷ send one connect_a ∷ codes "look" ∷ []))
    (works 2 ++ Fails ∷ GoesOut ∷ [])
    ≡ lines
    (gets one accepted ∷ gets one (codes "900400010001") ∷ gets one accepted
    ∷ codes "shard 0 floor 0 next 0 awaiting 0"
    ∷ codes " generation 0 first 0 next 0 streams 0" ∷ codes "worker 0" ∷ codes " session a subs 0 unfinished 0" ∷ [])
unfolding running
ends_at_its_connect = refl

-- where the record of that Tick is found to be in, the session had ended
ended_by_the_settled_tick : text_of_script whole
    (lines (opens one ∷ send one (codes "101300044D5154540500003C051100000001000161")
    ∷ send one subscribe ∷ closes one ∷ codes "fail 10 4" ∷ codes "tick 1000" ∷ opens one ∷ send one connect_a
    ∷ codes "look" ∷ [])) (works 2
    ++ Fails ∷ GoesIn ∷ [])
    ≡ lines
    (gets one accepted ∷ gets one (codes "900400010001") ∷ gets one accepted
    ∷ codes "shard 0 floor 0 next 0 awaiting 0"
    ∷ codes " generation 0 first 0 next 0 streams 0" ∷ codes "worker 0" ∷ codes " session a subs 0 unfinished 0" ∷ [])
unfolding running
ended_by_the_settled_tick = refl

-- where the record of a Tick is not in, the next Tick settles first and ends the session then
next_tick_ends_it : text_of_script whole
    (lines (opens one ∷ send one (codes "101300044D5154540500003C051100000001000161") ∷ closes one
    ∷ codes "fail 10 1" ∷ codes "tick 1000" ∷ codes "look" ∷ codes "tick 0" ∷ codes "look" ∷ []))
    (Works ∷ Fails ∷ GoesOut ∷ [])
    ≡ lines
    (gets one accepted ∷ codes "shard 0 floor 0 next 0 awaiting 0" ∷ codes " generation 0 first 0 next 0 streams 0"
    ∷ codes "worker 0"
    ∷ codes " session a subs 0 unfinished 0" ∷ codes "shard 0 floor 0 next 0 awaiting 0"
    ∷ codes " generation 0 first 0 next 0 streams 0"
    ∷ codes "worker 0" ∷ [])
unfolding running
next_tick_ends_it = refl

-- after a takeover the new connection keeps its own time
takeover_starts_anew : text_of_script whole
    (lines (opens one ∷ send one (codes "101300044D51545405000001051100000E10000161") ∷ codes "tick 1000"
    ∷ opens two ∷ send two (codes "101300044D51545405000001051100000E10000161") ∷ codes "tick 1500" ∷ codes "tick 1"
    ∷ [])) []
    ≡ lines
    (gets one accepted ∷ gets one (codes "E0018E") ∷ ended one ∷ gets two resumed ∷ gets two (codes "E0018D")
    ∷ ended two ∷ [])
unfolding running
takeover_starts_anew = refl

-- one Tick closes, ends and drops
closed_before_the_drops : text_of_script whole (lines (codes "set messages 1" ∷ codes "set retention 1000" ∷ opens one
    ∷ send one (codes "100E00044D5154540500000100000170") ∷ send one (of_hi (codes "32") (codes "07"))
    ∷ send one (of_hi (codes "32") (codes "08")) ∷ codes "tick 1501" ∷ codes "look" ∷ [])) []
    ≡ lines
    (gets one accepted ∷ gets one (codes "40020007") ∷ gets one (codes "40020008") ∷ gets one (codes "E0018D")
    ∷ ended one
    ∷ codes "shard 0 floor 1 next 2 awaiting 0" ∷ codes " generation 1 first 1 next 2 streams 1"
    ∷ codes "  stream 0 a/b count 1"
    ∷ codes "worker 0" ∷ [])
unfolding running
closed_before_the_drops = refl
