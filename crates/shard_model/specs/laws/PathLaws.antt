-- A topic that was placed keeps its path, whatever topics come later.
use Rattle.std.proofs.Common.{◌≡◌, ℕ, Bool, true, false, ◌||◌, nat_le, if◌then◌else◌, List, [], ◌∷◌, ◌++◌, refl, sym}
use Rattle.std.proofs.Common.{ap, subst, ◌∙◌, append_assoc}
use Rattle.std.proofs.lemmas.List.{append-nil}
use Rattle.std.proofs.lemmas.List.Folds.{list_any-append}
use Rattle.shard_model.specs.LearnedPath.{Level, Token, Plus, Path, Tokens, same_level, same_path, edge_behind}
use Rattle.shard_model.specs.LearnedPath.{has_edge, with_edge, edges_at, edge_for, token_count, threshold, path_from}
use Rattle.shard_model.specs.LearnedPath.{learned_path, has_path, with_path, learn_topic, patterns_after}
use Rattle.shard_model.specs.laws.PatternLaws.{level_same, level_is, path_same, or_left, or_right, stays_added, comes}
use Rattle.shard_model.specs.laws.PatternLaws.{edges-append, known_adds_none, path_carried}
use Rattle.shard_model.specs.laws.StreamLaws.{learned_of_both}

-- ---- which edge is chosen

module _ (level : ℕ) (token : List ℕ) where
  -- a token's own edge comes first, and then `+`
  token_first : (edges : List Level) → has_edge (Token token) edges ≡ true → edge_for level token edges ≡ Token token
  token_first edges h =
      ap
      (λ b. if b then Token token else if has_edge Plus edges then Plus else if nat_le level (token_count edges)
      then Plus else Token token) h

  plus_second : (edges : List Level) → has_edge (Token token) edges ≡ false → has_edge Plus edges ≡ true →
      edge_for level token edges ≡ Plus
  plus_second edges n h =
      ap (λ b. if b then Token token else if has_edge Plus edges then Plus else if nat_le level (token_count edges)
      then Plus else Token token) n
      ∙ ap (λ b. if b then Plus else if nat_le level (token_count edges) then Plus else Token token) h

  -- where `+` is there, so is each edge that is chosen
  chosen_is_there : (edges : List Level) → has_edge Plus edges ≡ true →
      has_edge (edge_for level token edges) edges ≡ true
  chosen_is_there edges h = by (has_edge (Token token) edges) refl
    where
      by : (a : Bool) → has_edge (Token token) edges ≡ a →
          has_edge
          (if a then Token token else if has_edge Plus edges then Plus else if nat_le level (token_count edges)
          then Plus else Token token) edges ≡ true
      by true e = e
      by false e =
          ap (λ b. has_edge (if b then Plus else if nat_le level (token_count edges) then Plus else Token token) edges)
          h ∙ h

  -- an edge that is there and is chosen is `+`, unless it is the token
  plus_is_there : (b c : Bool) (edges : List Level) → has_edge (Token token) edges ≡ false →
      has_edge (if b then Plus else if c then Plus else Token token) edges ≡ true → has_edge Plus edges ≡ true
  plus_is_there true c edges n h = h
  plus_is_there false true edges n h = h
  plus_is_there false false edges n h = cc

  -- an edge that is there is chosen again, over more edges, where `+` lets no new one in
  again : (next edges : List Level) → (has_edge Plus edges ≡ true → with_edge next edges ≡ edges) →
      has_edge (edge_for level token edges) edges ≡ true →
      edge_for level token (with_edge next edges) ≡ edge_for level token edges
  again next edges closed there = by (has_edge (Token token) edges) refl there
    where
      by : (a : Bool) → has_edge (Token token) edges ≡ a
          → has_edge
          (if a then Token token else if has_edge Plus edges then Plus else if nat_le level (token_count edges)
          then Plus else Token token) edges ≡ true
          → edge_for level token (with_edge next edges) ≡ edge_for level token edges
      by true e h = token_first (with_edge next edges) (stays_added (Token token) next edges e)
          ∙ sym (token_first edges e)
      by false e h = ap (edge_for level token)
          (closed (plus_is_there (has_edge Plus edges) (nat_le level (token_count edges)) edges e h))

  -- a token isn't there because `+` is
  token_not_by_plus : (edges : List Level) → has_edge (Token token) edges ≡ false →
      has_edge (Token token) (with_edge (Plus ∷ []) edges) ≡ false
  token_not_by_plus edges n = by (has_edge Plus edges)
    where
      by : (b : Bool) → has_edge (Token token) (if b then edges else edges ++ Plus ∷ []) ≡ false
      by true = n
      by false = list_any-append (same_level (Token token)) edges (Plus ∷ []) ∙ ap (λ z. z || false) n

  -- an edge that was chosen is chosen again as soon as it is there
  chosen_again : (edges : List Level) →
      edge_for level token (with_edge (edge_for level token edges ∷ []) edges) ≡ edge_for level token edges
  chosen_again edges = by (has_edge (Token token) edges) (has_edge Plus edges) (nat_le level (token_count edges)) refl
    where
      by : (a b c : Bool) → has_edge (Token token) edges ≡ a
          → edge_for level token
          (with_edge ((if a then Token token else if b then Plus else if c then Plus else Token token) ∷ []) edges)
          ≡ (if a then Token token else if b then Plus else if c then Plus else Token token)
      by true b c e = token_first (with_edge (Token token ∷ []) edges)
          (comes (Token token) (has_edge (Token token) edges) edges refl)
      by false true c e = plus_second (with_edge (Plus ∷ []) edges) (token_not_by_plus edges e)
          (comes Plus (has_edge Plus edges) edges refl)
      by false false true e = plus_second (with_edge (Plus ∷ []) edges) (token_not_by_plus edges e)
          (comes Plus (has_edge Plus edges) edges refl)
      by false false false e = token_first (with_edge (Token token ∷ []) edges)
          (comes (Token token) (has_edge (Token token) edges) edges refl)

-- ---- the edges of one more path

-- the edges at a node of patterns with one more path
edges_with : (node path : Path) (paths : List Path) →
    edges_at node (with_path path paths) [] ≡ with_edge (edge_behind node path) (edges_at node paths [])
edges_with node path paths = by (has_path paths path) refl
  where
    by : (b : Bool) → has_path paths path ≡ b →
        edges_at node (if b then paths else paths ++ path ∷ []) []
        ≡ with_edge (edge_behind node path) (edges_at node paths [])
    by true e = sym (known_adds_none node path paths [] e)
    by false e = edges-append node paths (path ∷ []) []

-- the edge behind a node, of a path that begins with the node
edge_of : (node rest : Path) → edge_behind node (node ++ rest) ≡ edge_behind [] rest
edge_of [] rest = refl
edge_of (x ∷ node) rest = ap (λ b. if b then edge_behind node (node ++ rest) else []) (level_same x) ∙ edge_of node rest

-- each edge of a path that is there is at its node
edge_is_there : (node : Path) (edge : Level) (rest : Path) (paths : List Path) →
    has_path paths (node ++ edge ∷ rest) ≡ true → has_edge edge (edges_at node paths []) ≡ true
edge_is_there node edge rest paths h =
    let edges = edges_at node paths [] in
    let same : with_edge (edge ∷ []) edges ≡ edges =
    ap (λ l. with_edge l edges) (sym (edge_of node (edge ∷ rest)))
    ∙ known_adds_none node (node ++ edge ∷ rest) paths [] h in
    subst (λ l. has_edge edge l ≡ true) same (comes edge (has_edge edge edges) edges refl)

path_stays : (path other : Path) (paths : List Path) → has_path paths path ≡ true →
    has_path (with_path other paths) path ≡ true
path_stays path other paths h = by (has_path paths other)
  where
    by : (b : Bool) → has_path (if b then paths else paths ++ other ∷ []) path ≡ true
    by true = h
    by false = list_any-append (same_path path) paths (other ∷ [])
        ∙ or_left (has_path paths path) (has_path (other ∷ []) path) h

pub path_comes : (path : Path) (paths : List Path) → has_path (with_path path paths) path ≡ true
path_comes path paths = by (has_path paths path) refl
  where
    by : (b : Bool) → has_path paths path ≡ b → has_path (if b then paths else paths ++ path ∷ []) path ≡ true
    by true e = e
    by false e = list_any-append (same_path path) paths (path ∷ [])
        ∙ or_right (has_path paths path) (has_path (path ∷ []) path)
        (or_left (same_path path path) false (path_same path))

-- ---- a topic's path

module _ (top below : ℕ) (paths : List Path) where
  -- where a node has `+`, the path of no topic adds an edge to it
  closed_by_plus : (base node : Path) (topic : Tokens) → has_edge Plus (edges_at (base ++ node) paths []) ≡ true →
      with_edge (edge_behind node (path_from top below paths base topic)) (edges_at (base ++ node) paths [])
      ≡ edges_at (base ++ node) paths []
  closed_by_plus base [] [] h = refl
  closed_by_plus base (x ∷ node) [] h = refl
  closed_by_plus base [] (token ∷ topic) h =
      let edges = edges_at (base ++ []) paths [] in
      let at : edges_at base paths [] ≡ edges = ap (λ n. edges_at n paths []) (sym (append-nil base)) in
      let edge : List Level → Level = λ l. edge_for (threshold top below base) token l in
      ap (λ l. with_edge (edge l ∷ []) edges) at
      ∙ ap (λ b. if b then edges else edges ++ edge edges ∷ [])
      (chosen_is_there (threshold top below base) token edges h)
  closed_by_plus base (x ∷ node) (token ∷ topic) h =
      let edge = edge_for (threshold top below base) token (edges_at base paths []) in
      by edge (path_from top below paths (base ++ edge ∷ []) topic) (same_level x edge) refl
      (λ k. closed_by_plus (base ++ edge ∷ []) node topic k)
    where
      by : (edge : Level) (rest : Path) (b : Bool) → same_level x edge ≡ b
          → (has_edge Plus (edges_at ((base ++ edge ∷ []) ++ node) paths []) ≡ true →
          with_edge (edge_behind node rest) (edges_at ((base ++ edge ∷ []) ++ node) paths [])
          ≡ edges_at ((base ++ edge ∷ []) ++ node) paths [])
          → with_edge (if b then edge_behind node rest else []) (edges_at (base ++ x ∷ node) paths [])
          ≡ edges_at (base ++ x ∷ node) paths []
      by edge rest true e later =
          let whole : (base ++ edge ∷ []) ++ node ≡ base ++ x ∷ node =
          append_assoc base (edge ∷ []) node ∙ ap (λ z. base ++ z ∷ node) (sym (level_is x edge e)) in
          subst (λ n. with_edge (edge_behind node rest) (edges_at n paths []) ≡ edges_at n paths []) whole
          (later (subst (λ n. has_edge Plus (edges_at n paths []) ≡ true) (sym whole) h))
      by edge rest false e later = refl

  -- a path that is among the patterns is taken again when another topic's path is added
  kept_from : (other : Tokens) (node : Path) (topic : Tokens) →
      has_path paths (node ++ path_from top below paths node topic) ≡ true →
      path_from top below (learn_topic top below paths other) node topic ≡ path_from top below paths node topic
  kept_from other node [] h = refl
  kept_from other node (token ∷ topic) h =
      let level = threshold top below node in
      let edges = edges_at node paths [] in
      let edge = edge_for level token edges in
      let more = learn_topic top below paths other in
      let path = path_from top below paths [] other in
      let rest = path_from top below paths (node ++ edge ∷ []) topic in
      let same : edge_for level token (edges_at node more []) ≡ edge =
      ap (edge_for level token) (edges_with node path paths)
      ∙ again level token (edge_behind node path) edges (closed_by_plus [] node other)
      (edge_is_there node edge rest paths h) in
      let later : path_from top below more (node ++ edge ∷ []) topic ≡ rest =
      kept_from other (node ++ edge ∷ []) topic (ap (has_path paths) (append_assoc node (edge ∷ []) rest) ∙ h) in
      ap (λ e. e ∷ path_from top below more (node ++ e ∷ []) topic) same ∙ ap (λ l. edge ∷ l) later

  -- and when it was just added itself
  placed_from : (path node : Path) (topic : Tokens) → path ≡ node ++ path_from top below paths node topic →
      path_from top below (with_path path paths) node topic ≡ path_from top below paths node topic
  placed_from path node [] e = refl
  placed_from path node (token ∷ topic) e =
      let level = threshold top below node in
      let edges = edges_at node paths [] in
      let edge = edge_for level token edges in
      let more = with_path path paths in
      let rest = path_from top below paths (node ++ edge ∷ []) topic in
      let behind : edge_behind node path ≡ edge ∷ [] = ap (edge_behind node) e ∙ edge_of node (edge ∷ rest) in
      let same : edge_for level token (edges_at node more []) ≡ edge =
      ap (edge_for level token) (edges_with node path paths ∙ ap (λ l. with_edge l edges) behind)
      ∙ chosen_again level token edges in
      let later : path_from top below more (node ++ edge ∷ []) topic ≡ rest =
      placed_from path (node ++ edge ∷ []) topic (e ∙ sym (append_assoc node (edge ∷ []) rest)) in
      ap (λ e. e ∷ path_from top below more (node ++ e ∷ []) topic) same ∙ ap (λ l. edge ∷ l) later

-- over patterns that have its path, a topic keeps it
pub path_kept : (top below : ℕ) (patterns : List Path) (topic : Tokens) (topics : List Tokens) →
    has_path patterns (path_from top below patterns [] topic) ≡ true →
    path_from top below (patterns_after top below patterns topics) [] topic ≡ path_from top below patterns [] topic
path_kept top below patterns topic [] h = refl
path_kept top below patterns topic (other ∷ topics) h =
    let more = learn_topic top below patterns other in
    let same : path_from top below more [] topic ≡ path_from top below patterns [] topic =
    kept_from top below patterns other [] topic h in
    let there : has_path more (path_from top below more [] topic) ≡ true =
    ap (has_path more) same ∙ path_stays (path_from top below patterns [] topic)
    (path_from top below patterns [] other) patterns h in
    path_kept top below more topic topics there ∙ same

-- over patterns that were learned from it, a topic has the path that it was placed by
pub placed_path_kept : (top below : ℕ) (patterns : List Path) (topic : Tokens) (topics : List Tokens) →
    path_from top below (patterns_after top below patterns (topic ∷ topics)) [] topic
    ≡ path_from top below patterns [] topic
placed_path_kept top below patterns topic topics =
    let path = path_from top below patterns [] topic in
    let more = with_path path patterns in
    let same : path_from top below more [] topic ≡ path = placed_from top below patterns path [] topic refl in
    let there : has_path more (path_from top below more [] topic) ≡ true =
    ap (has_path more) same ∙ path_comes path patterns in
    path_kept top below more topic topics there ∙ same

pub topic_keeps_path : (top below : ℕ) (before : List Tokens) (topic : Tokens) (after : List Tokens) →
    learned_path top below (before ++ topic ∷ after) topic ≡ learned_path top below before topic
topic_keeps_path top below before topic after =
    path_carried top below (before ++ topic ∷ after) topic
    ∙ ap (λ ps. path_from top below ps [] topic) (learned_of_both top below [] before (topic ∷ after))
    ∙ placed_path_kept top below (patterns_after top below [] before) topic after
    ∙ sym (path_carried top below before topic)
