-- The streams of a generation: each message lies in that of its topic's pattern.
use Rattle.std.specs.Prelude.{ℕ, ◌-◌, Bool, true, false, List, [], ◌∷◌, map, take, drop, Option, Some, None}
use Rattle.topic_model.specs.Profile.{Profile}
use Rattle.topic_model.specs.StoredMessage.{StoredMessage}
use Rattle.shard_model.specs.ShardList.{Cut, ShardList, floor_of, next_of}
use Rattle.shard_model.specs.LearnedPath.{Path, Tokens, path_from, with_path, patterns_after, number_of}

-- a message, and the stream that it lies in
pub record StreamMessage : Type 0 where
  pub message : StoredMessage
  pub stream : ℕ

abbrev pub or_zero : Option ℕ → ℕ
or_zero None = 0
or_zero (Some n) = n

-- the stream of a path among the patterns that have it
abbrev pub in_stream : StoredMessage → Path → List Path → StreamMessage
in_stream message path patterns = record { message = message; stream = or_zero (number_of path patterns) }

-- each with its stream, where these patterns were learned before
abbrev pub streams_from : ℕ → ℕ → List Path → List StoredMessage → List StreamMessage
streams_from top below patterns [] = []
streams_from top below patterns (m ∷ ms) =
    let path = path_from top below patterns [] m.topic in
    let known = with_path path patterns in
    in_stream m path known ∷ streams_from top below known ms

-- where topics aren't learned, there is the one stream 0
abbrev pub in_one_stream : List StoredMessage → List StreamMessage
in_one_stream ms = map (λ m. record { message = m; stream = 0 }) ms

abbrev pub streams_if : Bool → Cut → List StoredMessage → List StreamMessage
streams_if true cut ms = streams_from cut.top cut.below [] ms
streams_if false cut ms = in_one_stream ms

-- the messages of a generation, each with its stream
abbrev pub streams_of : Profile → Cut → List StoredMessage → List StreamMessage
streams_of profile cut ms = streams_if profile.learns cut ms

abbrev pub topics_of : List StoredMessage → List Tokens
topics_of ms = map (λ (m : StoredMessage). m.topic) ms

abbrev pub patterns_if : Bool → Cut → List StoredMessage → List Path
patterns_if true cut ms = patterns_after cut.top cut.below [] (topics_of ms)
patterns_if false cut ms = [] ∷ []

-- the patterns of a generation: where topics aren't learned, one
abbrev pub patterns_in : Profile → Cut → List StoredMessage → List Path
patterns_in profile cut ms = patterns_if profile.learns cut ms

-- ---- a generation of a list

-- the offset at which the first of some cuts begins, and else where the list ends
abbrev pub end_before : ShardList → List Cut → ℕ
end_before list [] = next_of list
end_before list (cut ∷ cuts) = cut.first

-- the messages from one offset up to another
abbrev pub messages_between : ShardList → ℕ → ℕ → List StoredMessage
messages_between list first end = take (end - first) (drop (first - floor_of list) list.messages)

-- a generation that is held: its cut, where it ends as the list shows it, and its messages with their streams
pub record HeldGeneration : Type 0 where
  pub cut : Cut
  pub end : ℕ
  pub messages : List StreamMessage

abbrev pub held_from : Profile → ShardList → List Cut → List HeldGeneration
held_from profile list [] = []
held_from profile list (cut ∷ cuts) =
    record {
      cut = cut;
      end = end_before list cuts;
      messages = streams_of profile cut (messages_between list cut.first (end_before list cuts));
    } ∷ held_from profile list cuts

-- all generations of a list, oldest first
abbrev pub held_generations : Profile → ShardList → List HeldGeneration
held_generations profile list = held_from profile list list.cuts
