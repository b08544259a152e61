-- Computed examples of a shard's list: storing, capacity, learned paths, sweeps.
use Rattle.std.specs.Prelude.{ℕ, ◌≡◌, true, false, List, [], ◌∷◌, length, map, codes, Option, Some, None, refl}
use Rattle.topic_model.specs.Profile.{Profile, Config, whole, default_config}
use Rattle.topic_model.specs.Levels.{levels_of}
use Rattle.topic_model.specs.StoredMessage.{StoredMessage}
use Rattle.shard_model.specs.declared.sweep.Sweep.{Sweep}
use Rattle.shard_model.specs.ShardList.{ShardList, opening_list, floor_of, message_at}
use Rattle.shard_model.specs.Storing.{Op, Store, Release, Forget, store, kept_ops}
use Rattle.shard_model.specs.LearnedPath.{Token, Plus, patterns_of, nodes_of, learned_path, varying}
use Rattle.shard_model.specs.Streams.{topics_of}
use Rattle.shard_model.specs.Capacity.{store_size, fits, needs_a_cut, may_drop, is_full, awaits_too_many, rotated}
use Rattle.shard_model.specs.Capacity.{dropped}
use Rattle.shard_model.specs.SweepOrder.{Run, starting_sweep, next_run, sweep_after, is_issued_by, is_in_order}

-- a message of a publisher, of QoS 1 or 2
abbrev pub said : ℕ → ℕ → List ℕ → StoredMessage
said qos id topic =
    record {
      offset = 0;
      publisher = codes "p";
      incarnation = 1;
      id = id;
      qos = qos;
      stamp = 0;
      expiry = None;
      topic = levels_of topic;
      props = [];
      payload = codes "hi";
    }

abbrev pub says : List ℕ → Op
says topic = Store (said 1 0 topic)

abbrev offsets : List StoredMessage → List ℕ
offsets ms = map (λ (m : StoredMessage). m.offset) ms

-- ---- storing

abbrev twice : List Op
twice = Store (said 2 7 (codes "t")) ∷ Store (said 2 7 (codes "t")) ∷ []

-- a repeated message of QoS 2 is stored once, and once more when its identifier was released
stored_once : length (store (opening_list default_config) twice 5).messages ≡ 1
stored_once = refl

kept_once : length (kept_ops (opening_list default_config) twice) ≡ 1
kept_once = refl

stored_again : length
    (store (opening_list default_config)
    (Store (said 2 7 (codes "t")) ∷ Release (codes "p") 1 7 ∷ Store (said 2 7 (codes "t")) ∷ []) 5).messages ≡ 2
stored_again = refl

-- of another incarnation nothing is released, and what takes nothing away isn't kept
another_incarnation : kept_ops (opening_list default_config) (Release (codes "p") 2 7 ∷ Forget (codes "p") 1 ∷ []) ≡ []
another_incarnation = refl

forgotten : (store (opening_list default_config)
    (Store (said 2 7 (codes "t")) ∷ Store (said 2 9 (codes "t")) ∷ Forget (codes "p") 1 ∷ []) 5).awaited ≡ []
forgotten = refl

-- ---- learned paths

-- with a threshold of two below the first level, the third token and each later one go by `+`, and the first ones keep
-- their own
abbrev learns_two : Config
learns_two = record default_config { below = 2 }

abbrev five : List Op
five = says (codes "a/1") ∷ says (codes "a/2") ∷ says (codes "a/3") ∷ says (codes "a/4") ∷ says (codes "a/1") ∷ []

abbrev list_of_five : ShardList
list_of_five = store (opening_list learns_two) five 0

abbrev topics_of_five : List (List (List ℕ))
topics_of_five = topics_of list_of_five.messages

three_patterns : patterns_of 100 2 topics_of_five
    ≡ (Token (codes "a") ∷ Token (codes "1") ∷ []) ∷ (Token (codes "a") ∷ Token (codes "2") ∷ [])
    ∷ (Token (codes "a") ∷ Plus ∷ []) ∷ []
three_patterns = refl

-- the empty one, `a`, and three below it
five_nodes : length (nodes_of (patterns_of 100 2 topics_of_five)) ≡ 5
five_nodes = refl

a_varying_token : varying (learned_path 100 2 topics_of_five (levels_of (codes "a/9"))) (levels_of (codes "a/9"))
    ≡ codes "9" ∷ []
a_varying_token = refl

-- ---- sweeps

abbrev at_the_front : Sweep
at_the_front = starting_sweep (opening_list learns_two)

abbrev run_offsets : Option Run → List ℕ
run_offsets None = []
run_offsets (Some run) = offsets run.messages

abbrev after_run : Sweep → Option Run → Sweep
after_run sweep None = sweep
after_run sweep (Some run) = sweep_after run.sweep run.messages

abbrev next_of_five : List ℕ → Sweep → Option Run
next_of_five filter sweep = next_run whole (levels_of filter) 0 list_of_five sweep 64

abbrev second : Sweep
second = after_run at_the_front (next_of_five (codes "a/+") at_the_front)

abbrev third : Sweep
third = after_run second (next_of_five (codes "a/+") second)

abbrev fourth : Sweep
fourth = after_run third (next_of_five (codes "a/+") third)

-- stream by stream
first_stream : run_offsets (next_of_five (codes "a/+") at_the_front) ≡ 0 ∷ 4 ∷ []
first_stream = refl

second_stream : run_offsets (next_of_five (codes "a/+") second) ≡ 1 ∷ []
second_stream = refl

third_stream : run_offsets (next_of_five (codes "a/+") third) ≡ 2 ∷ 3 ∷ []
third_stream = refl

nothing_more : next_of_five (codes "a/+") fourth ≡ None
nothing_more = refl

-- a plain filter finds its messages in the stream of `+`
found_in_plus : run_offsets (next_of_five (codes "a/3") at_the_front) ≡ 2 ∷ []
found_in_plus = refl

-- at most so many
one_at_a_time : run_offsets (next_run whole (levels_of (codes "a/+")) 0 list_of_five at_the_front 1) ≡ 0 ∷ []
one_at_a_time = refl

no_limit : next_run whole (levels_of (codes "a/+")) 0 list_of_five at_the_front 0 ≡ None
no_limit = refl

-- in the midst: of the first stream all is issued, of the second nothing
issued_of_first : is_issued_by whole list_of_five second 4 ≡ true
issued_of_first = refl

not_issued_of_second : is_issued_by whole list_of_five second 1 ≡ false
not_issued_of_second = refl

in_order : is_in_order whole list_of_five 0 third ≡ true
in_order = refl

-- where topics aren't learned there is one stream, and the run is in the order of offsets
in_one_stream : run_offsets
    (next_run (record whole { learns = false }) (levels_of (codes "a/+")) 0 list_of_five at_the_front 64) ≡ 0 ∷ 1 ∷ 2
    ∷ 3 ∷ 4 ∷ []
in_one_stream = refl

-- ---- generations

-- a message a generation
abbrev pub one_each : Config
one_each = record default_config { messages = 1; retention = 1000 }

abbrev one : ShardList
one = store (opening_list one_each) (says (codes "t") ∷ []) 0

no_room : needs_a_cut whole one (says (codes "t") ∷ []) ≡ true
no_room = refl

room_without_messages : needs_a_cut whole one (Release (codes "p") 1 7 ∷ []) ≡ false
room_without_messages = refl

abbrev two : ShardList
two = store (rotated one_each 10 one) (says (codes "t") ∷ []) 10

offsets_go_on : offsets two.messages ≡ 0 ∷ 1 ∷ []
offsets_go_on = refl

-- a sweep goes through the first generation and then through the next
through_the_first : run_offsets (next_run whole (levels_of (codes "#")) 0 two at_the_front 64) ≡ 0 ∷ []
through_the_first = refl

through_the_second : run_offsets
    (next_run whole (levels_of (codes "#")) 0 two
    (record { generation = 0; base = 0; target = 1; stream = 0; position = 1 }) 64) ≡ 1 ∷ []
through_the_second = refl

-- sealed at 10, with a retention of 1000
not_yet : may_drop one_each two 1009 ≡ false
not_yet = refl

dropped_then : may_drop one_each two 1010 ≡ true
dropped_then = refl

the_newest_stays : may_drop one_each (opening_list one_each) 5000 ≡ false
the_newest_stays = refl

without_the_first : floor_of (dropped two) ≡ 1
without_the_first = refl

gone : message_at (dropped two) 0 ≡ None
gone = refl

-- a sweep of the dropped generation stands at the front of the oldest one
from_the_oldest : run_offsets (next_run whole (levels_of (codes "#")) 0 (dropped two) at_the_front 64) ≡ 1 ∷ []
from_the_oldest = refl

-- where two generations are held at most, the shard is full until the oldest may be dropped
abbrev two_held : Profile
two_held = record whole { generations = 2 }

full_before : is_full two_held one_each two (says (codes "t") ∷ []) 1009 ≡ true
full_before = refl

room_from_then : is_full two_held one_each two (says (codes "t") ∷ []) 1010 ≡ false
room_from_then = refl

-- ---- limits of a generation

-- 1 + (2 + 1) + 8 + 2 + 1 + 8 + (2 + 3) + (4 + 0) + (4 + 2)
a_size : store_size (said 1 0 (codes "a/1")) ≡ 38
a_size = refl

bytes_fit : fits (record whole { generation_bytes = 76 })
    (store (opening_list default_config) (says (codes "a/1") ∷ []) 0) (says (codes "a/2") ∷ []) ≡ true
bytes_fit = refl

one_byte_more : fits (record whole { generation_bytes = 75 })
    (store (opening_list default_config) (says (codes "a/1") ∷ []) 0) (says (codes "a/2") ∷ []) ≡ false
one_byte_more = refl

two_streams : fits (record whole { streams = 1 }) (store (opening_list default_config) (says (codes "a/1") ∷ []) 0)
    (says (codes "a/2") ∷ []) ≡ false
two_streams = refl

-- four nodes: the empty one, `a`, `a/1`, `a/2`
four_nodes : fits (record whole { nodes = 4 }) (store (opening_list default_config) (says (codes "a/1") ∷ []) 0)
    (says (codes "a/2") ∷ []) ≡ true
four_nodes = refl

three_nodes : fits (record whole { nodes = 3 }) (store (opening_list default_config) (says (codes "a/1") ∷ []) 0)
    (says (codes "a/2") ∷ []) ≡ false
three_nodes = refl

one_awaited : awaits_too_many (record whole { awaited = 1 })
    (store (opening_list default_config) (Store (said 2 7 (codes "t")) ∷ []) 0) (Store (said 2 9 (codes "t")) ∷ []) 0
    ≡ true
one_awaited = refl
