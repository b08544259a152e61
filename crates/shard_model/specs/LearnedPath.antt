-- What a generation learns of its topics: the path of each topic from those before it, and the patterns that its topics
-- have.
use Rattle.std.specs.Prelude.{ℕ, ◌≡◌, suc, ◌+◌, Bool, true, false, ◌&&◌, nat_le, if◌then◌else◌, List, [], ◌∷◌, ◌++◌, Option}
use Rattle.std.specs.Prelude.{Some, None}
use Rattle.std.specs.List.{list_any}
use Rattle.std.specs.Str.{bytes_eq}

-- a level of a path: a token, or `+` where the topics of a node have too many
pub data Level : Type 0 where
  Token : List ℕ → Level
  Plus : Level

-- a node is the list of edges that lead to it; a path is one to its end
abbrev pub Path : Type 0
Path = List Level

-- a topic is its tokens, one for each level
abbrev pub Tokens : Type 0
Tokens = List (List ℕ)

abbrev pub same_level : Level → Level → Bool
same_level (Token x) (Token y) = bytes_eq x y
same_level (Token x) Plus = false
same_level Plus (Token y) = false
same_level Plus Plus = true

abbrev pub same_path : Path → Path → Bool
same_path [] [] = true
same_path [] (y ∷ ys) = false
same_path (x ∷ xs) [] = false
same_path (x ∷ xs) (y ∷ ys) = same_level x y && same_path xs ys

-- ---- the edges at a node

-- the edge by which a path goes on behind a node, if it goes through it
abbrev pub edge_behind : Path → Path → Path
edge_behind [] [] = []
edge_behind [] (edge ∷ path) = edge ∷ []
edge_behind (x ∷ node) [] = []
edge_behind (x ∷ node) (edge ∷ path) = if same_level x edge then edge_behind node path else []

abbrev pub has_edge : Level → List Level → Bool
has_edge edge edges = list_any (same_level edge) edges

abbrev pub with_edge : List Level → List Level → List Level
with_edge [] edges = edges
with_edge (edge ∷ more) edges = if has_edge edge edges then edges else edges ++ edge ∷ []

-- those of some paths, each once, by first use
abbrev pub edges_at : Path → List Path → List Level → List Level
edges_at node [] edges = edges
edges_at node (path ∷ paths) edges = edges_at node paths (with_edge (edge_behind node path) edges)

abbrev pub token_count : List Level → ℕ
token_count [] = 0
token_count (Token x ∷ edges) = suc (token_count edges)
token_count (Plus ∷ edges) = token_count edges

-- ---- the path of a topic

-- A token's edge: the one that is there; else `+` if it is there, or if the node has as many tokens as its threshold;
-- else a new one.
abbrev pub edge_for : ℕ → List ℕ → List Level → Level
edge_for threshold token edges =
    if has_edge (Token token) edges then Token token
    else if has_edge Plus edges then Plus
    else if nat_le threshold (token_count edges) then Plus
    else Token token

-- at the first level, and under it
abbrev pub threshold : ℕ → ℕ → Path → ℕ
threshold top below [] = top
threshold top below (x ∷ node) = below

-- the path of tokens from a node on, over the paths of the earlier topics
abbrev pub path_from : ℕ → ℕ → List Path → Path → Tokens → Path
path_from top below paths node [] = []
path_from top below paths node (token ∷ tokens) =
    let edge = edge_for (threshold top below node) token (edges_at node paths []) in
    edge ∷ path_from top below paths (node ++ edge ∷ []) tokens

-- the paths of topics, each over those before it
abbrev pub paths_of : ℕ → ℕ → List Path → List Tokens → List Path
paths_of top below paths [] = paths
paths_of top below paths (topic ∷ topics) = paths_of top below (paths ++ path_from top below paths [] topic ∷ []) topics

-- the learned path of a topic over earlier ones
abbrev pub learned_path : ℕ → ℕ → List Tokens → Tokens → Path
learned_path top below topics topic = path_from top below (paths_of top below [] topics) [] topic

-- ---- patterns and nodes

abbrev pub has_path : List Path → Path → Bool
has_path paths path = list_any (same_path path) paths

abbrev pub with_path : Path → List Path → List Path
with_path path paths = if has_path paths path then paths else paths ++ path ∷ []

abbrev pub distinct : List Path → List Path → List Path
distinct seen [] = seen
distinct seen (path ∷ paths) = distinct (with_path path seen) paths

-- the distinct paths of a list of topics, numbered by first use from 0 on
abbrev pub patterns_of : ℕ → ℕ → List Tokens → List Path
patterns_of top below topics = distinct [] (paths_of top below [] topics)

-- the same, carried along from topic to topic, which computes faster
abbrev pub learn_topic : ℕ → ℕ → List Path → Tokens → List Path
learn_topic top below patterns topic = with_path (path_from top below patterns [] topic) patterns

abbrev pub patterns_after : ℕ → ℕ → List Path → List Tokens → List Path
patterns_after top below patterns [] = patterns
patterns_after top below patterns (topic ∷ topics) =
    patterns_after top below (learn_topic top below patterns topic) topics

-- the number of a path among patterns
abbrev pub number_from : ℕ → Path → List Path → Option ℕ
number_from n path [] = None
number_from n path (other ∷ paths) = if same_path path other then Some n else number_from (n + 1) path paths

abbrev pub number_of : Path → List Path → Option ℕ
number_of path patterns = number_from 0 path patterns

-- the nodes: the prefixes of the paths, each once, the empty one included
abbrev pub with_each : List Path → List Path → List Path
with_each [] nodes = nodes
with_each (node ∷ more) nodes = with_each more (with_path node nodes)

abbrev pub prefixes_from : Path → Path → List Path
prefixes_from node [] = node ∷ []
prefixes_from node (edge ∷ path) = node ∷ prefixes_from (node ++ edge ∷ []) path

abbrev pub nodes_from : List Path → List Path → List Path
nodes_from nodes [] = nodes
nodes_from nodes (path ∷ paths) = nodes_from (with_each (prefixes_from [] path) nodes) paths

abbrev pub nodes_of : List Path → List Path
nodes_of patterns = nodes_from ([] ∷ []) patterns

-- the tokens of a topic that its path has `+` for, in order
abbrev pub varying : Path → Tokens → Tokens
varying [] tokens = []
varying (edge ∷ path) [] = []
varying (Token x ∷ path) (token ∷ tokens) = varying path tokens
varying (Plus ∷ path) (token ∷ tokens) = token ∷ varying path tokens

abbrev pub HasNumber : Path → List Path → Type 0
HasNumber path patterns = (n : ℕ) × (number_of path patterns ≡ Some n)
