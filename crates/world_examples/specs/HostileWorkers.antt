-- Several workers on one shard, several shards under one worker: routes, order, and what is in doubt for one and not
-- for another.
use Rattle.std.specs.Prelude.{◌≡◌, refl, [], ◌∷◌, ◌++◌, codes}
use Rattle.topic_model.specs.Profile.{whole}
use Rattle.shard_model.specs.Choices.{Works, Fails, GoesIn, GoesOut}
use Rattle.world_model.specs.Running.{text_of_script}
use Rattle.world_model.specs.Computing.{running}
use Rattle.world_examples.specs.HostileWords.{lines, one, two, three, five, opens, closes, pumps, send, gets, ended}
use Rattle.world_examples.specs.HostileWords.{connect_a, connect_p, accepted, resumed, subscribe, of_hi, at_least_once}
use Rattle.world_examples.specs.HostileWords.{heard, works}

-- `a` goes to worker 1 and `p` to worker 0: what the one stores the other delivers
two_workers_one_shard : text_of_script whole
    (lines (codes "set workers 2" ∷ opens one ∷ send one connect_a ∷ send one subscribe ∷ opens two
    ∷ send two connect_p ∷ send two (of_hi (codes "32") (codes "07")) ∷ pumps one ∷ codes "look" ∷ [])) []
    ≡ lines (heard at_least_once ++ gets two (codes "40020007") ∷ gets one (of_hi (codes "32") (codes "01"))
    ∷ codes "shard 0 floor 0 next 1 awaiting 0" ∷ codes " generation 0 first 0 next 1 streams 1"
    ∷ codes "  stream 0 a/b count 1"
    ∷ codes "worker 0" ∷ codes " session p subs 0 unfinished 0" ∷ codes "worker 1"
    ∷ codes " session a subs 1 unfinished 1" ∷ [])
unfolding running
two_workers_one_shard = refl

-- a Tick is one of worker 0 and then one of worker 1, whatever the numbers of the connections
closes_by_worker : text_of_script whole (lines (codes "set workers 2" ∷ opens three
    ∷ send three (codes "101300044D51545405000001051100000E10000161") ∷ opens five
    ∷ send five (codes "101300044D51545405000001051100000E10000170") ∷ codes "tick 1501" ∷ [])) []
    ≡ lines
    (gets three accepted ∷ gets five accepted ∷ gets five (codes "E0018D") ∷ ended five
    ∷ gets three (codes "E0018D") ∷ ended three ∷ [])
unfolding running
closes_by_worker = refl

-- an empty identifier goes to the worker of the connection's number, and each worker counts by itself
assigned_by_connection : text_of_script whole (lines (codes "set workers 2" ∷ opens three
    ∷ send three (codes "101200044D5154540500003C051100000E100000") ∷ opens two
    ∷ send two (codes "101200044D5154540500003C051100000E100000")
    ∷ opens five ∷ send five (codes "101200044D5154540500003C051100000E100000") ∷ codes "look" ∷ [])) []
    ≡ lines (gets three (codes "201B0000181200096175746F2D30312D31210020250027001000002A00")
    ∷ gets two (codes "201B0000181200096175746F2D30302D31210020250027001000002A00")
    ∷ gets five (codes "201B0000181200096175746F2D30312D32210020250027001000002A00")
    ∷ codes "shard 0 floor 0 next 0 awaiting 0"
    ∷ codes " generation 0 first 0 next 0 streams 0" ∷ codes "worker 0" ∷ codes " session auto-00-1 subs 0 unfinished 0"
    ∷ codes "worker 1"
    ∷ codes " session auto-01-1 subs 0 unfinished 0" ∷ codes " session auto-01-2 subs 0 unfinished 0" ∷ [])
unfolding running
assigned_by_connection = refl

-- a client that comes with a name of that form goes to the worker that the name tells
assigned_name_comes_back : text_of_script whole (lines (codes "set workers 2" ∷ opens three
    ∷ send three (codes "101200044D5154540500003C051100000E100000") ∷ opens two
    ∷ send two (codes "101B00044D5154540500003C051100000E1000096175746F2D30312D31") ∷ [])) []
    ≡ lines
    (gets three (codes "201B0000181200096175746F2D30312D31210020250027001000002A00") ∷ gets three (codes "E0018E")
    ∷ ended three
    ∷ gets two resumed ∷ [])
unfolding running
assigned_name_comes_back = refl

-- a journal in doubt holds up its own worker alone
journals_apart : text_of_script whole
    (lines (codes "set workers 2" ∷ opens one ∷ send one connect_a ∷ opens two ∷ send two connect_p
    ∷ codes "fail 12 4" ∷ send one subscribe ∷ send two (codes "C000") ∷ opens one ∷ send one connect_a
    ∷ send two (of_hi (codes "32") (codes "07")) ∷ pumps one ∷ [])) (works 2 ++ Fails ∷ GoesIn ∷ [])
    ≡ lines
    (gets one accepted ∷ gets two accepted ∷ gets one (codes "E00183") ∷ ended one ∷ gets two (codes "D000")
    ∷ gets one resumed
    ∷ gets two (codes "40020007") ∷ gets one (of_hi (codes "32") (codes "01")) ∷ [])
unfolding running
journals_apart = refl

-- at a crash the workers are asked by number: worker 0 has its record in, worker 1 has not
journals_at_a_crash : text_of_script whole
    (lines (codes "set workers 2" ∷ codes "fail 10 4" ∷ codes "fail 12 1" ∷ opens one ∷ send one connect_a
    ∷ opens two ∷ send two connect_p ∷ codes "crash 1" ∷ opens one ∷ send one connect_a ∷ opens two ∷ send two connect_p
    ∷ [])) (Fails ∷ Fails
    ∷ GoesIn ∷ GoesOut ∷ [])
    ≡ lines
    (gets one (codes "2003008300") ∷ ended one ∷ gets two (codes "2003008300") ∷ ended two ∷ codes "crashed"
    ∷ gets one accepted
    ∷ gets two resumed ∷ [])
unfolding running
journals_at_a_crash = refl

-- a publisher without a session is forgotten by its own worker, not by another one
other_worker_forgets_nothing : text_of_script whole
    (lines (codes "set workers 2" ∷ opens one ∷ send one connect_a ∷ opens two
    ∷ send two (codes "100E00044D5154540500003C00000170") ∷ send two (of_hi (codes "34") (codes "05")) ∷ closes two
    ∷ send one (of_hi (codes "32") (codes "07")) ∷ codes "look" ∷ opens three
    ∷ send three (codes "101300044D5154540500003C051100000E10000162")
    ∷ send three (of_hi (codes "32") (codes "08")) ∷ codes "look" ∷ [])) []
    ≡ lines (gets one accepted ∷ gets two accepted ∷ gets two (codes "50020005") ∷ gets one (codes "40020007")
    ∷ codes "shard 0 floor 0 next 2 awaiting 1" ∷ codes " generation 0 first 0 next 2 streams 1"
    ∷ codes "  stream 0 a/b count 2"
    ∷ codes "worker 0" ∷ codes "worker 1" ∷ codes " session a subs 0 unfinished 0" ∷ gets three accepted
    ∷ gets three (codes "40020008")
    ∷ codes "shard 0 floor 0 next 3 awaiting 0" ∷ codes " generation 0 first 0 next 3 streams 1"
    ∷ codes "  stream 0 a/b count 3"
    ∷ codes "worker 0" ∷ codes " session b subs 0 unfinished 0" ∷ codes "worker 1"
    ∷ codes " session a subs 0 unfinished 0" ∷ [])
unfolding running
other_worker_forgets_nothing = refl

-- ---- two shards

-- `b` publishes in shard 0 and `p` in shard 1: the first pump takes shard 0, and a resend has the order of issue
one_worker_two_shards : text_of_script whole
    (lines (codes "set shards 2" ∷ opens one ∷ send one connect_a ∷ send one subscribe ∷ opens two
    ∷ send two connect_p ∷ opens three ∷ send three (codes "101300044D5154540500003C051100000E10000162")
    ∷ send two (of_hi (codes "32") (codes "07")) ∷ send three (codes "320A0003612F62000800686A") ∷ pumps one ∷ pumps one
    ∷ codes "look"
    ∷ codes "crash 1" ∷ opens one ∷ send one connect_a ∷ pumps one ∷ [])) []
    ≡ lines
    (gets one accepted ∷ gets one (codes "900400010001") ∷ gets two accepted ∷ gets three accepted
    ∷ gets two (codes "40020007")
    ∷ gets three (codes "40020008") ∷ gets one (codes "320A0003612F62000100686A")
    ∷ gets one (of_hi (codes "32") (codes "03"))
    ∷ codes "shard 0 floor 0 next 1 awaiting 0" ∷ codes " generation 0 first 0 next 1 streams 1"
    ∷ codes "  stream 0 a/b count 1"
    ∷ codes "shard 1 floor 0 next 1 awaiting 0" ∷ codes " generation 0 first 0 next 1 streams 1"
    ∷ codes "  stream 0 a/b count 1"
    ∷ codes "worker 0" ∷ codes " session a subs 1 unfinished 2" ∷ codes " session p subs 0 unfinished 0"
    ∷ codes " session b subs 0 unfinished 0"
    ∷ codes "crashed" ∷ gets one resumed ∷ gets one (codes "3A0A0003612F62000100686A")
    ∷ gets one (of_hi (codes "3A") (codes "03")) ∷ [])
unfolding running
one_worker_two_shards = refl

-- a pump goes on with the shard behind the one that it served last
shards_by_turns : text_of_script whole
    (lines (codes "set shards 2" ∷ opens one ∷ send one connect_a ∷ send one subscribe ∷ opens two
    ∷ send two connect_p ∷ opens three ∷ send three (codes "101300044D5154540500003C051100000E10000162")
    ∷ send three (codes "320A0003612F62000800686A") ∷ pumps one ∷ send two (of_hi (codes "32") (codes "07"))
    ∷ send three (codes "320A0003612F62000900686A") ∷ pumps one ∷ pumps one ∷ [])) []
    ≡ lines
    (gets one accepted ∷ gets one (codes "900400010001") ∷ gets two accepted ∷ gets three accepted
    ∷ gets three (codes "40020008")
    ∷ gets one (codes "320A0003612F62000100686A") ∷ gets two (codes "40020007") ∷ gets three (codes "40020009")
    ∷ gets one (of_hi (codes "32") (codes "03")) ∷ gets one (codes "320A0003612F62000500686A") ∷ [])
unfolding running
shards_by_turns = refl

-- a shard in doubt holds up its own publishers alone
shards_apart : text_of_script whole (lines (codes "set shards 2" ∷ opens two ∷ send two connect_p ∷ opens three
    ∷ send three (codes "101300044D5154540500003C051100000E10000162") ∷ codes "fail 12 4"
    ∷ send two (of_hi (codes "32") (codes "07"))
    ∷ send three (of_hi (codes "32") (codes "08")) ∷ opens two ∷ send two connect_p
    ∷ send two (of_hi (codes "32") (codes "09")) ∷ codes "look"
    ∷ [])) (works 2 ++ Fails ∷ Works ∷ Works ∷ GoesIn ∷ [])
    ≡ lines
    (gets two accepted ∷ gets three accepted ∷ gets two (codes "E00183") ∷ ended two ∷ gets three (codes "40020008")
    ∷ gets two resumed
    ∷ gets two (codes "40020009") ∷ codes "shard 0 floor 0 next 1 awaiting 0"
    ∷ codes " generation 0 first 0 next 1 streams 1"
    ∷ codes "  stream 0 a/b count 1" ∷ codes "shard 1 floor 0 next 2 awaiting 0"
    ∷ codes " generation 0 first 0 next 2 streams 1"
    ∷ codes "  stream 0 a/b count 2" ∷ codes "worker 0" ∷ codes " session p subs 0 unfinished 0"
    ∷ codes " session b subs 0 unfinished 0" ∷ [])
unfolding running
shards_apart = refl

-- a cold read that fails in one shard holds back what the other one has too; both come with the next pump
cold_read_of_one_shard : text_of_script whole
    (lines (codes "set shards 2" ∷ codes "set messages 1" ∷ opens one ∷ send one connect_a
    ∷ send one subscribe ∷ opens two ∷ send two connect_p ∷ opens three
    ∷ send three (codes "101300044D5154540500003C051100000E10000162")
    ∷ send three (codes "320A0003612F62000800686A") ∷ pumps one ∷ send two (of_hi (codes "32") (codes "07")) ∷ pumps one
    ∷ send three (codes "320A0003612F62000900686A") ∷ opens one ∷ send one connect_a ∷ codes "fail 2 1" ∷ pumps one
    ∷ pumps one ∷ pumps one
    ∷ [])) (works 11 ++ Fails ∷ [])
    ≡ lines
    (gets one accepted ∷ gets one (codes "900400010001") ∷ gets two accepted ∷ gets three accepted
    ∷ gets three (codes "40020008")
    ∷ gets one (codes "320A0003612F62000100686A") ∷ gets two (codes "40020007")
    ∷ gets one (of_hi (codes "32") (codes "03"))
    ∷ gets three (codes "40020009") ∷ gets one resumed ∷ gets one (codes "3A0A0003612F62000100686A")
    ∷ gets one (of_hi (codes "3A") (codes "03"))
    ∷ gets one (codes "320A0003612F62000500686A") ∷ [])
unfolding running
cold_read_of_one_shard = refl
