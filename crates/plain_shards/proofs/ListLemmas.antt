-- Logs of which one moves.
use Rattle.std.proofs.Common.{◌≡◌, ℕ, zero, suc, ◌+◌, ◌<◌, ◌≤◌, ◌&&◌, nat_le, true, List, [], ◌∷◌, Some, map, length, get_or, slice_get, slice_set, refl, sym, ap, subst, ◌∙◌, arith}
use Rattle.std.proofs.lemmas.Bool.{and_parts, leb-true}
use Rattle.std.proofs.lemmas.List.{length-map}
use Rattle.topic_model.specs.Limits.{has_known_counts, has_known_generations, has_known_thresholds, lies_between}
use Rattle.topic_name.specs.declared.config.Config.{Config}
use Rattle.topic_name.specs.PlainConfig.{plain_config}
use Rattle.shard_fold.specs.declared.asked.Asked.{Asked}
use Rattle.shard_disks.specs.Lists.{Moved}
use Rattle.shard_log.specs.PlainShardLog.{PlainShardLog}
use Rattle.plain_shards.specs.KeptShards.{AreNumbered, AreShards, asked_of, config_of}

pub moved_set : {A : Type 0} (R : A → A → Type 0) (xs : List A) (i : ℕ) (x y : A) → i < length xs → x ≡ get_or xs i x → R x y → Moved i R xs (slice_set xs i y)
moved_set R [] i x y h is r = absurd (omega (arith, h))
moved_set R (z ∷ xs) zero x y h is r = (subst (λ w. R w y) is r, refl)
moved_set R (z ∷ xs) (suc i) x y h is r = (refl, moved_set R xs i x y (omega (arith, h)) is r)

-- what stays of the one that moved stays of all
pub moved_same : {A B : Type 0} (f : A → B) (R : A → A → Type 0) → ((x y : A) → R x y → f y ≡ f x) → (i : ℕ) (xs ys : List A) → Moved i R xs ys → map f ys ≡ map f xs
moved_same f R same i [] ys moved = absurd moved
moved_same f R same i (x ∷ xs) [] moved = absurd moved
moved_same f R same zero (x ∷ xs) (y ∷ ys) moved = ap (λ v. v ∷ map f ys) (same x y moved.0) ∙ ap (λ l. f x ∷ map f l) moved.1
moved_same f R same (suc i) (x ∷ xs) (y ∷ ys) moved = ap (λ v. f v ∷ map f ys) moved.0 ∙ ap (λ l. f x ∷ l) (moved_same f R same i xs ys moved.1)

-- The element that moved, before and after.
pub record HasMoved {A : Type 0} (R : A → A → Type 0) (i : ℕ) (olds news : List A) : Type 0 where
  pub old : A
  pub new : A
  pub old_at : slice_get olds i ≡ Some old
  pub new_at : slice_get news i ≡ Some new
  pub moved : R old new

pub moved_at : {A : Type 0} (R : A → A → Type 0) (i : ℕ) (olds news : List A) → Moved i R olds news → HasMoved R i olds news
moved_at R i [] news moved = absurd moved
moved_at R i (x ∷ xs) [] moved = absurd moved
moved_at R zero (x ∷ xs) (y ∷ ys) moved = record { old = x; new = y; old_at = refl; new_at = refl; moved = moved.0 }
moved_at R (suc i) (x ∷ xs) (y ∷ ys) moved =
    let behind : HasMoved R i xs ys = moved_at R i xs ys moved.1 in
    record { old = behind.old; new = behind.new; old_at = behind.old_at; new_at = behind.new_at; moved = behind.moved }

-- ---- numbers

pub mapped_at : {A B : Type 0} (f : A → B) (xs : List A) (i : ℕ) (x : A) → slice_get xs i ≡ Some x → slice_get (map f xs) i ≡ Some (f x)
mapped_at f [] i x is = absurd cc
mapped_at f (y ∷ ys) zero x is = let e : y ≡ x = cc in ap (λ z. Some (f z)) e
mapped_at f (y ∷ ys) (suc i) x is = mapped_at f ys i x is

numbered_at : (config : Config) (n : ℕ) (asked : List Asked) (i : ℕ) (a : Asked) → (k : ℕ) → k ≡ n + i → AreNumbered config n asked → slice_get asked i ≡ Some a → a ≡ record { config = config; shard = k }
numbered_at config n [] i a k sum are is = absurd cc
numbered_at config n (b ∷ others) zero a k sum are is =
    let e : b ≡ a = cc in
    let here : n ≡ k = omega (arith, sum) in
    sym e ∙ (are.0 ∙ ap (λ m. record { config = config; shard = m }) here)
numbered_at config n (b ∷ others) (suc i) a k sum are is = let behind : k ≡ suc n + i = omega (arith, sum) in numbered_at config (suc n) others i a k behind are.1 is

-- what the log at a place was asked to be
pub asked_at : {D : Type 0} (logs : List (PlainShardLog D)) (i : ℕ) (log : PlainShardLog D) → AreShards (map asked_of logs) → slice_get logs i ≡ Some log →
    log.asked ≡ record { config = config_of (map asked_of logs); shard = i }
asked_at logs i log are is = numbered_at (config_of (map asked_of logs)) 0 (map asked_of logs) i log.asked i (omega arith) are.each (mapped_at asked_of logs i log is)

-- ---- how many there are

pub few_shards : (asked : List Asked) → AreShards asked → length asked ≤ 8
few_shards asked are =
    let config = plain_config (config_of asked) in
    let counts : (lies_between 1 8 config.shards && lies_between 1 16 config.workers) ≡ true = (and_parts (has_known_counts config) (has_known_thresholds config && has_known_generations config) are.limits).0 in
    let shards : lies_between 1 8 config.shards ≡ true = (and_parts (lies_between 1 8 config.shards) (lies_between 1 16 config.workers) counts).0 in
    let few : (config_of asked).shards ≤ 8 = leb-true config.shards 8 (and_parts (nat_le 1 config.shards) (nat_le config.shards 8) shards).1 in
    let all : length asked ≡ (config_of asked).shards = are.all in
    omega (arith, few, all)

pub few_logs : {D : Type 0} (logs : List (PlainShardLog D)) → AreShards (map asked_of logs) → length logs ≤ 8
few_logs logs are = let same = length-map logs asked_of in let few = few_shards (map asked_of logs) are in omega (arith, same, few)
