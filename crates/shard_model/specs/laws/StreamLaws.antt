-- What was learned and streamed stays as topics and messages are added.
use Rattle.std.proofs.Common.{◌≡◌, ℕ, ◌+◌, Bool, true, false, if◌then◌else◌, List, [], ◌∷◌, ◌++◌, Some, refl, ap}
use Rattle.topic_model.specs.StoredMessage.{StoredMessage}
use Rattle.shard_model.specs.LearnedPath.{Path, Tokens, same_path, path_from, has_path, with_path, learn_topic}
use Rattle.shard_model.specs.LearnedPath.{patterns_after, number_from, number_of}
use Rattle.shard_model.specs.Streams.{in_stream, streams_from, topics_of}

pub learned_of_both : (top below : ℕ) (patterns : List Path) (xs ys : List Tokens) →
    patterns_after top below patterns (xs ++ ys) ≡ patterns_after top below (patterns_after top below patterns xs) ys
learned_of_both top below patterns [] ys = refl
learned_of_both top below patterns (x ∷ xs) ys = learned_of_both top below (learn_topic top below patterns x) xs ys

pub streams_of_both : (top below : ℕ) (patterns : List Path) (ms more : List StoredMessage) →
    streams_from top below patterns (ms ++ more) ≡ streams_from top below patterns ms
    ++ streams_from top below (patterns_after top below patterns (topics_of ms)) more
streams_of_both top below patterns [] more = refl
streams_of_both top below patterns (m ∷ ms) more =
    let path = path_from top below patterns [] m.topic in
    ap (λ l. in_stream m path (with_path path patterns) ∷ l)
    (streams_of_both top below (learn_topic top below patterns m.topic) ms more)

-- a number stays as a path is added
number_before : (start : ℕ) (path : Path) (xs ys : List Path) (n : ℕ) → number_from start path xs ≡ Some n →
    number_from start path (xs ++ ys) ≡ Some n
number_before start path [] ys n e = cc
number_before start path (x ∷ xs) ys n e = by (same_path path x) (λ h. number_before (start + 1) path xs ys n h) e
  where
    by : (b : Bool) → (number_from (start + 1) path xs ≡ Some n → number_from (start + 1) path (xs ++ ys) ≡ Some n)
        → (if b then Some start else number_from (start + 1) path xs) ≡ Some n →
        (if b then Some start else number_from (start + 1) path (xs ++ ys)) ≡ Some n
    by true later e = e
    by false later e = later e

number_with : (path other : Path) (patterns : List Path) (n : ℕ) → number_of path patterns ≡ Some n →
    number_of path (with_path other patterns) ≡ Some n
number_with path other patterns n e = by (has_path patterns other)
  where
    by : (b : Bool) → number_of path (if b then patterns else patterns ++ other ∷ []) ≡ Some n
    by true = e
    by false = number_before 0 path patterns (other ∷ []) n e

pub number_stays : (top below : ℕ) (patterns : List Path) (topics : List Tokens) (path : Path) (n : ℕ) →
    number_of path patterns ≡ Some n → number_of path (patterns_after top below patterns topics) ≡ Some n
number_stays top below patterns [] path n e = e
number_stays top below patterns (topic ∷ topics) path n e =
    number_stays top below (learn_topic top below patterns topic) topics path n
    (number_with path (path_from top below patterns [] topic) patterns n e)
