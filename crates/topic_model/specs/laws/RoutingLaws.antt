-- Where there is one shard, or one worker, the hash of a client leaves the same one.
use Rattle.std.proofs.Common.{◌≡◌, ℕ, ◌%◌, Bool, true, false, eqb, List, take, drop, refl, sym, ap, ◌∙◌}
use Rattle.std.specs.Int.{w64, from_be_bytes}
use Rattle.std.proofs.lemmas.Bool.{eqb-true}
use Rattle.std.proofs.Math.Nat.{mod-one}
use Rattle.sha2.specs.Sha256.{sha256}
use Rattle.topic_model.specs.Routing.{hashed_shard, hashed_worker, shard_of, worker_of}

by_one : (hash count : ℕ) → elim (eqb count 1) as (λ one. ℕ) [ true ↦ 0 | false ↦ hash % count ] ≡ hash % count
by_one hash count = by (eqb count 1) refl
  where
    by : (b : Bool) → eqb count 1 ≡ b → elim b as (λ one. ℕ) [ true ↦ 0 | false ↦ hash % count ] ≡ hash % count
    by true one = sym (ap (λ n. hash % n) (eqb-true count 1 one) ∙ mod-one hash)
    by false one = refl

pub shard_by_hash : (client : List ℕ) (shards : ℕ) → shard_of client shards ≡ hashed_shard client shards
shard_by_hash client shards = by_one (from_be_bytes w64 (take 8 (sha256 client))) shards

pub worker_by_hash : (client : List ℕ) (workers : ℕ) → worker_of client workers ≡ hashed_worker client workers
worker_by_hash client workers = by_one (from_be_bytes w64 (take 8 (drop 8 (sha256 client)))) workers
