-- Takeover, and scripts over several workers and shards.
use Rattle.std.specs.Prelude.{ℕ, ◌≡◌, refl, List, [], ◌∷◌, ◌++◌, codes}
use Rattle.topic_model.specs.Profile.{whole}
use Rattle.world_model.specs.Computing.{running}
use Rattle.world_model.specs.Running.{text_of_script}
use Rattle.world_examples.specs.RowWords.{lines, send_a, send_m, closed, k0, k1, acknowledged, delivered, resent}
use Rattle.world_examples.specs.RowWords.{comes_back}
use Rattle.world_examples.specs.RowWords.{both_there, both_there_text, published, published_text, first_publish_lines}
use Rattle.world_examples.specs.RowWords.{first_publish_text}

-- ---- takeover

-- three messages are given to `a` on connection 1, and then it connects on connection 3
abbrev takes_over : List (List ℕ)
takes_over =
    published ++ send_m (codes "2") ∷ send_m (codes "2") ∷ codes "pump 1" ∷ codes "open 3" ∷ send_a (codes "3")
    ∷ codes "pump 3" ∷ []

abbrev takes_over_text : List (List ℕ)
takes_over_text =
    published_text ++ acknowledged (codes "2") (codes "07") ∷ acknowledged (codes "2") (codes "07")
    ∷ delivered (codes "1") (codes "01") ∷ delivered (codes "1") (codes "03") ∷ delivered (codes "1") (codes "05")
    ∷ codes "1< E0018E" ∷ closed (codes "1") ∷ k1 (codes "3")
    ∷ resent (codes "3") (codes "01") ∷ resent (codes "3") (codes "03") ∷ resent (codes "3") (codes "05") ∷ []

-- the old connection is closed before the new one's CONNACK, and what is unfinished comes again on the new one
taken_over : text_of_script whole (lines takes_over) [] ≡ lines takes_over_text
unfolding running
taken_over = refl

-- all three are acknowledged there
taken_over_and_acknowledged : text_of_script whole
    (lines (takes_over ++ codes "ack 3" ∷ codes "pump 3" ∷ codes "look" ∷ [])) []
    ≡ lines (takes_over_text
    ++ codes "shard 0 floor 0 next 3 awaiting 0"
    ∷ codes " generation 0 first 0 next 3 streams 1"
    ∷ codes "  stream 0 a/b count 3"
    ∷ codes "worker 0"
    ∷ codes " session a subs 1 unfinished 0"
    ∷ codes " session p subs 0 unfinished 0" ∷ [])
unfolding running
taken_over_and_acknowledged = refl

-- with Clean Start the session is a new one, which has nothing to send again and stands behind the older sessions
taken_over_by_a_new_session : text_of_script whole
    (lines (first_publish_lines ++ codes "open 3" ∷ codes "send 3 101300044D5154540502003C051100000E10000161"
    ∷ codes "pump 3" ∷ codes "look" ∷ [])) []
    ≡ lines (first_publish_text ++ codes "1< E0018E" ∷ closed (codes "1") ∷ k0 (codes "3")
    ∷ codes "shard 0 floor 0 next 1 awaiting 0"
    ∷ codes " generation 0 first 0 next 1 streams 1"
    ∷ codes "  stream 0 a/b count 1"
    ∷ codes "worker 0"
    ∷ codes " session p subs 0 unfinished 0"
    ∷ codes " session a subs 0 unfinished 0" ∷ [])
unfolding running
taken_over_by_a_new_session = refl

-- ---- workers

-- an identifier in the form of the assigned ones names its worker
assigned_to_its_worker : text_of_script whole
    (lines
    (codes "set workers 2" ∷ codes "open 1"
    ∷ codes "send 1 101B00044D5154540500003C051100000E1000096175746F2D30312D35"
    ∷ codes "look" ∷ [])) []
    ≡ lines (k0 (codes "1")
    ∷ codes "shard 0 floor 0 next 0 awaiting 0"
    ∷ codes " generation 0 first 0 next 0 streams 0"
    ∷ codes "worker 0"
    ∷ codes "worker 1"
    ∷ codes " session auto-01-5 subs 0 unfinished 0" ∷ [])
unfolding running
assigned_to_its_worker = refl

-- a client without an identifier goes to the worker of its connection's number, here 3 modulo 2
assigned_by_connection : text_of_script whole
    (lines (codes "set workers 2" ∷ codes "open 3" ∷ codes "send 3 101200044D5154540500003C051100000E100000" ∷ [])) []
    ≡ lines (codes "3< 201B0000181200096175746F2D30312D31210020250027001000002A00" ∷ [])
unfolding running
assigned_by_connection = refl

-- ---- shards

-- the first publish where `a` belongs to worker 1, `p` to worker 0, and what `p` publishes to shard 1
first_publish_of_two : text_of_script whole
    (lines (codes "set shards 2" ∷ codes "set workers 2" ∷ first_publish_lines ++ codes "look" ∷ [])) []
    ≡ lines (first_publish_text
    ++ codes "shard 0 floor 0 next 0 awaiting 0"
    ∷ codes " generation 0 first 0 next 0 streams 0"
    ∷ codes "shard 1 floor 0 next 1 awaiting 0"
    ∷ codes " generation 0 first 0 next 1 streams 1"
    ∷ codes "  stream 0 a/b count 1"
    ∷ codes "worker 0"
    ∷ codes " session p subs 0 unfinished 0"
    ∷ codes "worker 1"
    ∷ codes " session a subs 1 unfinished 1" ∷ [])
unfolding running
first_publish_of_two = refl

-- a crash of them all
resent_after_crash_of_two : text_of_script whole
    (lines (codes "set shards 2" ∷ codes "set workers 2" ∷ first_publish_lines ++ codes "crash 1" ∷ comes_back)) []
    ≡ lines (first_publish_text ++ codes "crashed" ∷ k1 (codes "1") ∷ resent (codes "1") (codes "01") ∷ [])
unfolding running
resent_after_crash_of_two = refl

-- `p` publishes to shard 1, then `a`, whose own messages go to shard 0, publishes `hj`: the first pump serves shard 0,
-- the next one shard 1
shards_in_turn : text_of_script whole
    (lines (codes "set shards 2" ∷ both_there ++ send_m (codes "2") ∷ codes "send 1 320A0003612F62000800686A"
    ∷ codes "pump 1" ∷ codes "send 1 C000" ∷ codes "pump 1" ∷ [])) []
    ≡ lines (both_there_text ++ acknowledged (codes "2") (codes "07") ∷ acknowledged (codes "1") (codes "08")
    ∷ codes "1< 320A0003612F62000100686A" ∷ codes "1< D000" ∷ delivered (codes "1") (codes "03") ∷ [])
unfolding running
shards_in_turn = refl
