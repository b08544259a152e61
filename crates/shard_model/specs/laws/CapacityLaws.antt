-- What is learned of few topics keeps within the streams and the nodes of a generation, whatever it is.
use Rattle.std.proofs.Common.{◌≡◌, ℕ, ◌+◌, ◌≤◌, Bool, true, false, ◌&&◌, leb, if◌then◌else◌, List, [], ◌∷◌, ◌++◌}
use Rattle.std.proofs.Common.{length, refl, sym, ap, ◌∙◌, arith}
use Rattle.std.specs.List.{sum_by}
use Rattle.std.proofs.lemmas.Bool.{leb-true, le-leb}
use Rattle.std.proofs.lemmas.List.{length-append}
use Rattle.std.proofs.lemmas.List.Sums.{sum_by-cons, sum_by_push}
use Rattle.topic_model.specs.Profile.{Profile}
use Rattle.topic_model.specs.StoredMessage.{StoredMessage}
use Rattle.shard_model.specs.ShardList.{Cut}
use Rattle.shard_model.specs.LearnedPath.{Path, Tokens, edge_for, threshold, edges_at, path_from, has_path, with_path}
use Rattle.shard_model.specs.LearnedPath.{learn_topic, patterns_after, with_each, prefixes_from, nodes_from, nodes_of}
use Rattle.shard_model.specs.Streams.{topics_of, patterns_if, patterns_in}
use Rattle.shard_model.specs.Capacity.{learns_within, levels_of_all, are_few, learns_few_or_within}
use Rattle.shard_model.specs.laws.PatternLaws.{both_true}

-- ---- how many patterns, and how long

abbrev size : Path → ℕ
size p = 1 + length p

abbrev levels : List Path → ℕ
levels paths = sum_by size paths

abbrev topic_size : StoredMessage → ℕ
topic_size m = 1 + length m.topic

-- a path is as long as its topic
path_length : (top below : ℕ) (paths : List Path) (node : Path) (topic : Tokens) →
    length (path_from top below paths node topic) ≡ length topic
path_length top below paths node [] = refl
path_length top below paths node (token ∷ tokens) =
    let edge = edge_for (threshold top below node) token (edges_at node paths []) in
    let rest = path_length top below paths (node ++ edge ∷ []) tokens in
    omega (arith, rest)

with_length : (path : Path) (paths : List Path) → length (with_path path paths) ≤ length paths + 1
with_length path paths = by (has_path paths path)
  where
    by : (b : Bool) → length (if b then paths else paths ++ path ∷ []) ≤ length paths + 1
    by true = omega arith
    by false = omega (arith, length-append paths (path ∷ []))

with_levels : (path : Path) (paths : List Path) → levels (with_path path paths) ≤ levels paths + (1 + length path)
with_levels path paths = by (has_path paths path)
  where
    by : (b : Bool) → levels (if b then paths else paths ++ path ∷ []) ≤ levels paths + (1 + length path)
    by true = omega arith
    by false = omega (arith, sum_by_push size paths path)

module _ (top below : ℕ) where
  learned_length : (paths : List Path) (ms : List StoredMessage) →
      length (patterns_after top below paths (topics_of ms)) ≤ length paths + length ms
  learned_length paths [] = omega arith
  learned_length paths (m ∷ ms) =
      let first = with_length (path_from top below paths [] m.topic) paths in
      let rest = learned_length (learn_topic top below paths m.topic) ms in
      omega (arith, first, rest)

  learned_levels : (paths : List Path) (ms : List StoredMessage) →
      levels (patterns_after top below paths (topics_of ms)) ≤ levels paths + levels_of_all ms
  learned_levels paths [] = omega arith
  learned_levels paths (m ∷ ms) =
      let same = path_length top below paths [] m.topic in
      let first = with_levels (path_from top below paths [] m.topic) paths in
      let rest = learned_levels (learn_topic top below paths m.topic) ms in
      omega (arith, same, first, rest, sum_by-cons topic_size m ms)

-- ---- how many nodes

prefixes_length : (node path : Path) → length (prefixes_from node path) ≡ 1 + length path
prefixes_length node [] = refl
prefixes_length node (edge ∷ path) = let rest = prefixes_length (node ++ edge ∷ []) path in omega (arith, rest)

each_length : (more nodes : List Path) → length (with_each more nodes) ≤ length nodes + length more
each_length [] nodes = omega arith
each_length (node ∷ more) nodes =
    let first = with_length node nodes in
    let rest = each_length more (with_path node nodes) in
    omega (arith, first, rest)

nodes_length : (nodes paths : List Path) → length (nodes_from nodes paths) ≤ length nodes + levels paths
nodes_length nodes [] = omega arith
nodes_length nodes (path ∷ paths) =
    let own = prefixes_length [] path in
    let first = each_length (prefixes_from [] path) nodes in
    let rest = nodes_length (with_each (prefixes_from [] path) nodes) paths in
    omega (arith, own, first, rest, sum_by-cons size path paths)

-- ---- both limits

patterns_few : (learns : Bool) (cut : Cut) (ms : List StoredMessage) →
    length (patterns_if learns cut ms) ≤ 1 + length ms
patterns_few true cut ms = let few = learned_length cut.top cut.below [] ms in omega (arith, few)
patterns_few false cut ms = omega arith

nodes_few : (learns : Bool) (cut : Cut) (ms : List StoredMessage) →
    length (nodes_of (patterns_if learns cut ms)) ≤ 2 + levels_of_all ms
nodes_few true cut ms =
    let few = nodes_length ([] ∷ []) (patterns_after cut.top cut.below [] (topics_of ms)) in
    let all = learned_levels cut.top cut.below [] ms in
    omega (arith, few, all)
nodes_few false cut ms = omega arith

few_are_within : (profile : Profile) (cut : Cut) (ms : List StoredMessage) → are_few profile ms ≡ true →
    learns_within profile cut ms ≡ true
few_are_within profile cut ms few =
    let both = both_true (leb (1 + length ms) profile.streams) (leb (2 + levels_of_all ms) profile.nodes) few in
    let streams = leb-true (1 + length ms) profile.streams both.0 in
    let nodes = leb-true (2 + levels_of_all ms) profile.nodes both.1 in
    let patterns = patterns_few profile.learns cut ms in
    let tree = nodes_few profile.learns cut ms in
    let first : leb (length (patterns_in profile cut ms)) profile.streams ≡ true =
    le-leb (length (patterns_in profile cut ms)) profile.streams (omega (arith, streams, patterns)) in
    let second : leb (length (nodes_of (patterns_in profile cut ms))) profile.nodes ≡ true =
    le-leb (length (nodes_of (patterns_in profile cut ms))) profile.nodes (omega (arith, nodes, tree)) in
    ap (λ (b : Bool). b && leb (length (nodes_of (patterns_in profile cut ms))) profile.nodes) first ∙ second

pub few_or_within : (profile : Profile) (cut : Cut) (ms : List StoredMessage) →
    learns_few_or_within profile cut ms ≡ learns_within profile cut ms
few_or_within profile cut ms = by (are_few profile ms) refl
  where
    by : (b : Bool) → are_few profile ms ≡ b →
        elim b as (λ few. Bool) [ true ↦ true | false ↦ learns_within profile cut ms ] ≡ learns_within profile cut ms
    by true few = sym (few_are_within profile cut ms few)
    by false few = refl
