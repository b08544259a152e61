-- What is printed.
use Rattle.std.specs.Prelude.{ℕ, ◌+◌, ◌==◌, List, [], ◌∷◌, ◌++◌, length, map, filter, codes, Option, Some, None}
use Rattle.std.specs.List.{flat_map}
use Rattle.std.specs.Fmt.{decimal}
use Rattle.hex.specs.Hex.{encode_upper}
use Rattle.topic_model.specs.Profile.{Profile}
use Rattle.topic_model.specs.Levels.{joined_by}
use Rattle.topic_model.specs.StoredMessage.{StoredMessage}
use Rattle.shard_model.specs.ShardList.{ShardList, floor_of, next_of}
use Rattle.shard_model.specs.LearnedPath.{Level, Path, Token, Plus}
use Rattle.shard_model.specs.Streams.{StreamMessage, HeldGeneration, held_generations, patterns_in}
use Rattle.session_model.specs.PlainSession.{PlainSession, Sessions}
use Rattle.session_model.specs.Unfinished.{unfinished}
use Rattle.session_model.specs.FitsSession.{live_count}
use Rattle.mqtt_packet.specs.Spelling.{written}
use Rattle.turn_model.specs.Worker.{Out, Sent, Closed}

abbrev pub ended_line : List ℕ → List ℕ
ended_line text = text ++ 0x0A ∷ []

-- a line for each packet, and for each close by the server
abbrev pub text_of_out : Out → List ℕ
text_of_out (Sent conn packet) = ended_line (decimal conn ++ (codes "< " ++ encode_upper (written packet)))
text_of_out (Closed conn) = ended_line (decimal conn ++ codes " closed")

abbrev pub text_of_outs : List Out → List ℕ
text_of_outs outs = flat_map text_of_out outs

-- ---- looking at what is there

abbrev pub words_and_number : List ℕ → ℕ → List ℕ
words_and_number words n = words ++ decimal n

abbrev pub level_text : Level → List ℕ
level_text (Token t) = t
level_text Plus = codes "+"

-- a pattern's levels, a learned one as `+`
abbrev pub pattern_text : Path → List ℕ
pattern_text path = joined_by 0x2F (map level_text path)

abbrev pub count_in : ℕ → List StreamMessage → ℕ
count_in stream ss = length (filter (λ (s : StreamMessage). s.stream == stream) ss)

abbrev pub stream_text : ℕ → Path → List StreamMessage → List ℕ
stream_text stream path ss =
    ended_line
    (words_and_number (codes "  stream ") stream
    ++ (codes " " ++ (pattern_text path ++ words_and_number (codes " count ") (count_in stream ss))))

abbrev pub streams_text : ℕ → List Path → List StreamMessage → List ℕ
streams_text stream [] ss = []
streams_text stream (path ∷ paths) ss = stream_text stream path ss ++ streams_text (stream + 1) paths ss

abbrev pub messages_of_stream : List StreamMessage → List StoredMessage
messages_of_stream ss = map (λ (s : StreamMessage). s.message) ss

abbrev pub generation_line : HeldGeneration → List Path → List ℕ
generation_line g paths =
    ended_line (words_and_number (codes " generation ") g.cut.number
    ++ (words_and_number (codes " first ") g.cut.first
    ++ (words_and_number (codes " next ") g.end ++ words_and_number (codes " streams ") (length paths))))

abbrev pub generation_with : HeldGeneration → List Path → List ℕ
generation_with g paths = generation_line g paths ++ streams_text 0 paths g.messages

abbrev pub generation_text : Profile → HeldGeneration → List ℕ
generation_text profile g = generation_with g (patterns_in profile g.cut (messages_of_stream g.messages))

abbrev pub shard_line : ℕ → ShardList → List ℕ
shard_line shard list =
    ended_line (words_and_number (codes "shard ") shard
    ++ (words_and_number (codes " floor ") (floor_of list)
    ++ (words_and_number (codes " next ") (next_of list)
    ++ words_and_number (codes " awaiting ") (length list.awaited))))

-- the lines of a shard: its generations with their patterns, and how many messages each stream has
abbrev pub shard_text : Profile → ℕ → ShardList → List ℕ
shard_text profile shard list = shard_line shard list
    ++ flat_map (generation_text profile) (held_generations profile list)

abbrev pub session_text : PlainSession → List ℕ
session_text m =
    ended_line
    (codes " session "
    ++ (m.client
    ++ (words_and_number (codes " subs ") (live_count m)
    ++ words_and_number (codes " unfinished ") (length (unfinished m)))))

-- the lines of a worker: its sessions in the order in which they began
abbrev pub worker_text : ℕ → Sessions → List ℕ
worker_text number sessions = ended_line (words_and_number (codes "worker ") number)
    ++ flat_map session_text sessions.list
