-- The patterns that are carried from topic to topic are those of the whole list of paths.
use Rattle.std.proofs.Common.{◌≡◌, ℕ, Bool, true, false, ◌&&◌, ◌||◌, if◌then◌else◌, List, [], ◌∷◌, ◌++◌, refl, sym, ap}
use Rattle.std.proofs.Common.{subst, ◌∙◌, append_assoc}
use Rattle.std.proofs.lemmas.List.{append-nil}
use Rattle.std.proofs.lemmas.List.Folds.{list_any-append}
use Rattle.std.proofs.lemmas.Slice.Eq.{bytes_eq-Decides}
use Rattle.shard_model.specs.LearnedPath.{Level, Token, Plus, Path, Tokens, same_level, same_path, edge_behind}
use Rattle.shard_model.specs.LearnedPath.{has_edge, with_edge, edges_at, edge_for, threshold, path_from, paths_of}
use Rattle.shard_model.specs.LearnedPath.{learned_path, has_path, with_path, distinct, patterns_of, patterns_after}

pub level_same : (a : Level) → same_level a a ≡ true
level_same (Token x) = (bytes_eq-Decides x x).1 refl
level_same Plus = refl

pub level_is : (a b : Level) → same_level a b ≡ true → a ≡ b
level_is (Token x) (Token y) e = ap Token ((bytes_eq-Decides x y).0 e)
level_is (Token x) Plus e = cc
level_is Plus (Token y) e = cc
level_is Plus Plus e = refl

pub both_true : (a b : Bool) → (a && b) ≡ true → (a ≡ true) × (b ≡ true)
both_true true b e = (refl, e)
both_true false b e = cc

pub path_is : (a b : Path) → same_path a b ≡ true → a ≡ b
path_is [] [] e = refl
path_is [] (y ∷ ys) e = cc
path_is (x ∷ xs) [] e = cc
path_is (x ∷ xs) (y ∷ ys) e = let h =
    both_true (same_level x y) (same_path xs ys) e in ap (λ z. z ∷ xs) (level_is x y h.0)
    ∙ ap (λ l. y ∷ l) (path_is xs ys h.1)

pub path_same : (a : Path) → same_path a a ≡ true
path_same [] = refl
path_same (x ∷ xs) = ap (λ b. b && same_path xs xs) (level_same x) ∙ path_same xs

pub or_left : (a b : Bool) → a ≡ true → (a || b) ≡ true
or_left a b e = ap (λ z. z || b) e

pub or_right : (a b : Bool) → b ≡ true → (a || b) ≡ true
or_right true b e = refl
or_right false b e = e

-- an edge that is there stays
module _ (edge : Level) where
  stays : (f : Level) (b : Bool) (edges : List Level) → has_edge edge edges ≡ true →
      has_edge edge (if b then edges else edges ++ f ∷ []) ≡ true
  stays f true edges h = h
  stays f false edges h = list_any-append (same_level edge) edges (f ∷ [])
      ∙ or_left (has_edge edge edges) (has_edge edge (f ∷ [])) h

  pub stays_added : (more edges : List Level) → has_edge edge edges ≡ true → has_edge edge (with_edge more edges) ≡ true
  stays_added [] edges h = h
  stays_added (f ∷ more) edges h = stays f (has_edge f edges) edges h

  pub stays_at : (node : Path) (paths : List Path) (edges : List Level) → has_edge edge edges ≡ true →
      has_edge edge (edges_at node paths edges) ≡ true
  stays_at node [] edges h = h
  stays_at node (path ∷ paths) edges h =
      stays_at node paths (with_edge (edge_behind node path) edges) (stays_added (edge_behind node path) edges h)

  pub comes : (b : Bool) (edges : List Level) → has_edge edge edges ≡ b →
      has_edge edge (if b then edges else edges ++ edge ∷ []) ≡ true
  comes true edges e = e
  comes false edges e =
      list_any-append (same_level edge) edges (edge ∷ [])
      ∙ or_right (has_edge edge edges) (has_edge edge (edge ∷ []))
      (or_left (same_level edge edge) false (level_same edge))

-- a path that is there adds no edge
adds_none : (next : List Level) (node : Path) (paths : List Path) (edges : List Level) →
    with_edge next (edges_at node paths (with_edge next edges)) ≡ edges_at node paths (with_edge next edges)
adds_none [] node paths edges = refl
adds_none (edge ∷ more) node paths edges =
    let there = stays_at edge node paths (with_edge (edge ∷ more) edges)
    (comes edge (has_edge edge edges) edges refl) in
    ap (λ b. if b then edges_at node paths (with_edge (edge ∷ more) edges)
    else edges_at node paths (with_edge (edge ∷ more) edges) ++ edge ∷ []) there

pub known_adds_none : (node : Path) (path : Path) (paths : List Path) (edges : List Level) →
    has_path paths path ≡ true → with_edge (edge_behind node path) (edges_at node paths edges)
    ≡ edges_at node paths edges
known_adds_none node path [] edges h = cc
known_adds_none node path (q ∷ paths) edges h =
    by (same_path path q) refl h (λ rest. known_adds_none node path paths (with_edge (edge_behind node q) edges) rest)
  where
    by : (b : Bool) → same_path path q ≡ b → (b || has_path paths path) ≡ true
        → (has_path paths path ≡ true → with_edge (edge_behind node path)
        (edges_at node paths (with_edge (edge_behind node q) edges))
        ≡ edges_at node paths (with_edge (edge_behind node q) edges))
        → with_edge (edge_behind node path) (edges_at node paths (with_edge (edge_behind node q) edges))
        ≡ edges_at node paths (with_edge (edge_behind node q) edges)
    by true e h later =
        subst
        (λ p. with_edge (edge_behind node p) (edges_at node paths (with_edge (edge_behind node q) edges))
        ≡ edges_at node paths (with_edge (edge_behind node q) edges)) (sym (path_is path q e))
        (adds_none (edge_behind node q) node paths edges)
    by false e h later = later h

pub edges-append : (node : Path) (xs ys : List Path) (edges : List Level) →
    edges_at node (xs ++ ys) edges ≡ edges_at node ys (edges_at node xs edges)
edges-append node [] ys edges = refl
edges-append node (x ∷ xs) ys edges = edges-append node xs ys (with_edge (edge_behind node x) edges)

-- the edges at a node are those of the distinct paths
same_edges : (node : Path) (seen paths : List Path) →
    edges_at node (distinct seen paths) [] ≡ edges_at node (seen ++ paths) []
same_edges node seen [] = ap (λ l. edges_at node l []) (sym (append-nil seen))
same_edges node seen (p ∷ paths) = same_edges node (with_path p seen) paths ∙ by (has_path seen p) refl
  where
    by : (b : Bool) → has_path seen p ≡ b →
        edges_at node ((if b then seen else seen ++ p ∷ []) ++ paths) [] ≡ edges_at node (seen ++ p ∷ paths) []
    by true e =
        edges-append node seen paths []
        ∙ ap (edges_at node paths) (sym (known_adds_none node p seen [] e))
        ∙ sym (edges-append node seen (p ∷ paths) [])
    by false e = ap (λ l. edges_at node l []) (append_assoc seen (p ∷ []) paths)

same_path_from : (top below : ℕ) (node : Path) (paths : List Path) (topic : Tokens) →
    path_from top below (distinct [] paths) node topic ≡ path_from top below paths node topic
same_path_from top below node paths [] = refl
same_path_from top below node paths (token ∷ topic) =
    let edge : List Level → Level = λ edges. edge_for (threshold top below node) token edges in
    ap (λ edges. edge edges ∷ path_from top below (distinct [] paths) (node ++ edge edges ∷ []) topic)
    (same_edges node [] paths)
    ∙ ap (λ l. edge (edges_at node paths []) ∷ l)
    (same_path_from top below (node ++ edge (edges_at node paths []) ∷ []) paths topic)

distinct-push : (seen paths : List Path) (p : Path) →
    distinct seen (paths ++ p ∷ []) ≡ with_path p (distinct seen paths)
distinct-push seen [] p = refl
distinct-push seen (q ∷ paths) p = distinct-push (with_path q seen) paths p

pub carried_from : (top below : ℕ) (paths : List Path) (topics : List Tokens) →
    distinct [] (paths_of top below paths topics) ≡ patterns_after top below (distinct [] paths) topics
carried_from top below paths [] = refl
carried_from top below paths (topic ∷ topics) =
    let path = path_from top below paths [] topic in
    carried_from top below (paths ++ path ∷ []) topics
    ∙ ap (λ l. patterns_after top below l topics)
    (distinct-push [] paths path ∙ ap (λ p. with_path p (distinct [] paths))
    (sym (same_path_from top below [] paths topic)))

pub patterns_carried : (top below : ℕ) (topics : List Tokens) →
    patterns_of top below topics ≡ patterns_after top below [] topics
patterns_carried top below topics = carried_from top below [] topics

pub path_carried : (top below : ℕ) (topics : List Tokens) (topic : Tokens) →
    learned_path top below topics topic ≡ path_from top below (patterns_after top below [] topics) [] topic
path_carried top below topics topic =
    sym (same_path_from top below [] (paths_of top below [] topics) topic)
    ∙ ap (λ ps. path_from top below ps [] topic) (patterns_carried top below topics)
