-- The stream of each message is the number of its topic's pattern.
use Rattle.std.proofs.Common.{◌≡◌, ℕ, suc, ◌+◌, Bool, true, false, ◌||◌, if◌then◌else◌, List, [], ◌∷◌, ◌++◌, map, Some}
use Rattle.std.proofs.Common.{slice_get, refl, sym, ap, subst, ◌∙◌, arith}
use Rattle.topic_model.specs.StoredMessage.{StoredMessage}
use Rattle.shard_model.specs.LearnedPath.{Path, Tokens, same_path, path_from, has_path, with_path, patterns_after}
use Rattle.shard_model.specs.LearnedPath.{learned_path, patterns_of, number_from, number_of}
use Rattle.shard_model.specs.Streams.{or_zero, in_stream, streams_from, topics_of}
use Rattle.shard_model.specs.laws.PatternLaws.{path_is, patterns_carried, path_carried}
use Rattle.shard_model.specs.laws.StreamLaws.{learned_of_both, number_stays}
use Rattle.shard_model.specs.laws.PathLaws.{path_comes, placed_path_kept}
use Rattle.shard_model.specs.LearnedPath.{HasNumber}

number_there : (start : ℕ) (path : Path) (paths : List Path) → has_path paths path ≡ true → (n : ℕ)
    × (number_from start path paths ≡ Some n)
number_there start path [] h = cc
number_there start path (x ∷ xs) h = by (same_path path x) h (λ k. number_there (start + 1) path xs k)
  where
    by : (b : Bool) → (b || has_path xs path) ≡ true →
        (has_path xs path ≡ true → (n : ℕ) × (number_from (start + 1) path xs ≡ Some n))
        → (n : ℕ) × ((if b then Some start else number_from (start + 1) path xs) ≡ Some n)
    by true h later = (start, refl)
    by false h later = later h

-- the number of a path that was just added, and after more topics
number_placed : (top below : ℕ) (patterns : List Path) (topic : Tokens) (topics : List Tokens) →
    let path = path_from top below patterns [] topic in
    number_of path (patterns_after top below patterns (topic ∷ topics)) ≡ number_of path (with_path path patterns)
number_placed top below patterns topic topics =
    let path = path_from top below patterns [] topic in
    let found = number_there 0 path (with_path path patterns) (path_comes path patterns) in
    number_stays top below (with_path path patterns) topics path found.0 found.1 ∙ sym found.1

pub streams_exact_from : (top below : ℕ) (patterns : List Path) (ms : List StoredMessage) →
    let all = patterns_after top below patterns (topics_of ms) in
    streams_from top below patterns ms
    ≡ map (λ (m : StoredMessage). in_stream m (path_from top below all [] m.topic) all) ms
streams_exact_from top below patterns [] = refl
streams_exact_from top below patterns (m ∷ ms) =
    let all = patterns_after top below patterns (topics_of (m ∷ ms)) in
    let path = path_from top below patterns [] m.topic in
    let known = with_path path patterns in
    let same : path_from top below all [] m.topic ≡ path = placed_path_kept top below patterns m.topic (topics_of ms) in
    let first : in_stream m path known ≡ in_stream m (path_from top below all [] m.topic) all =
    ap (λ n. record { message = m; stream = or_zero n }) (sym (number_placed top below patterns m.topic (topics_of ms)))
    ∙ ap (λ p. in_stream m p all) (sym same) in
    ap (λ s. s ∷ streams_from top below known ms) first
    ∙ ap (λ l. in_stream m (path_from top below all [] m.topic) all ∷ l) (streams_exact_from top below known ms)

pub streams_exact : (top below : ℕ) (ms : List StoredMessage) →
    streams_from top below [] ms ≡ map
    (λ (m : StoredMessage). in_stream m (learned_path top below (topics_of ms) m.topic)
    (patterns_of top below (topics_of ms))) ms
streams_exact top below ms =
    streams_exact_from top below [] ms
    ∙ by ms
  where
    one : (m : StoredMessage) →
        in_stream m (path_from top below (patterns_after top below [] (topics_of ms)) [] m.topic)
        (patterns_after top below [] (topics_of ms))
        ≡ in_stream m (learned_path top below (topics_of ms) m.topic) (patterns_of top below (topics_of ms))
    one m =
        ap (λ p. in_stream m p (patterns_after top below [] (topics_of ms)))
        (sym (path_carried top below (topics_of ms) m.topic))
        ∙ ap (in_stream m (learned_path top below (topics_of ms) m.topic))
        (sym (patterns_carried top below (topics_of ms)))

    by : (some : List StoredMessage) →
        map (λ (m : StoredMessage). in_stream m
        (path_from top below (patterns_after top below [] (topics_of ms)) [] m.topic)
        (patterns_after top below [] (topics_of ms))) some
        ≡ map
        (λ (m : StoredMessage). in_stream m (learned_path top below (topics_of ms) m.topic)
        (patterns_of top below (topics_of ms))) some
    by [] = refl
    by (m ∷ some) =
        ap (λ s. s
        ∷ map
        (λ (m : StoredMessage). in_stream m
        (path_from top below (patterns_after top below [] (topics_of ms)) [] m.topic)
        (patterns_after top below [] (topics_of ms))) some) (one m)
        ∙ ap (λ l. in_stream m (learned_path top below (topics_of ms) m.topic) (patterns_of top below (topics_of ms))
        ∷ l) (by some)

-- each topic has a number among the patterns of all
pub each_has_number : (top below : ℕ) (before : List Tokens) (topic : Tokens) (after : List Tokens) →
    let all = before ++ topic ∷ after in HasNumber (learned_path top below all topic) (patterns_of top below all)
each_has_number top below before topic after =
    let all = before ++ topic ∷ after in
    let known = patterns_after top below [] before in
    let path = path_from top below known [] topic in
    let whole : patterns_after top below [] all ≡ patterns_after top below known (topic ∷ after) =
    learned_of_both top below [] before (topic ∷ after) in
    let found = number_there 0 path (with_path path known) (path_comes path known) in
    let is : learned_path top below all topic ≡ path =
    path_carried top below all topic ∙ ap (λ ps. path_from top below ps [] topic) whole
    ∙ placed_path_kept top below known topic after in (
      found.0,
      ap (λ p. number_of p (patterns_of top below all)) is
          ∙ ap (number_of path) (patterns_carried top below all ∙ whole)
          ∙ number_stays top below (with_path path known) after path found.0 found.1,
    )

-- at its number stands the path
number_at : (start : ℕ) (path : Path) (paths : List Path) (n : ℕ) → number_from start path paths ≡ Some n → (k : ℕ)
    × (start + k ≡ n) × (slice_get paths k ≡ Some path)
number_at start path [] n e = cc
number_at start path (x ∷ xs) n e = by (same_path path x) refl e (λ h. number_at (start + 1) path xs n h)
  where
    by : (b : Bool) → same_path path x ≡ b → (if b then Some start else number_from (start + 1) path xs) ≡ Some n
        → (number_from (start + 1) path xs ≡ Some n → (k : ℕ) × (start + 1 + k ≡ n) × (slice_get xs k ≡ Some path))
        → (k : ℕ) × (start + k ≡ n) × (slice_get (x ∷ xs) k ≡ Some path)
    by true s e later = let same : start ≡ n = cc in (0, omega arith, ap Some (sym (path_is path x s)))
    by false s e later = let found = later e in let sum : start + 1 + found.0 ≡ n =
        found.1 in let whole : start + suc found.0 ≡ n = omega arith in (suc found.0, whole, found.2)

pub number_is_place : (path : Path) (patterns : List Path) (n : ℕ) → number_of path patterns ≡ Some n →
    slice_get patterns n ≡ Some path
number_is_place path patterns n e =
    let found = number_at 0 path patterns n e in
    let place : found.0 ≡ n = let sum = found.1 in omega arith in
    subst (λ k. slice_get patterns k ≡ Some path) place found.2
