-- What a commit that failed leaves of the bytes of its disk.
use Rattle.std.proofs.Common.{◌≡◌, ℕ, zero, suc, ◌+◌, IsTrue, Result, List, [], ◌∷◌, length, map, slice_set, slice_index_or, Option, subst, arith}
use Rattle.outside.specs.DiskModel.{DiskState, Torn}
use Rattle.gated_log.specs.PlainLog.{PlainLog}
use Rattle.gated_log.specs.declared.refused.LogRefused.{LogRefused}
use Rattle.pair_log.specs.PlainPair.{PlainPair}
use Rattle.shard_disks.specs.Calls.{IsTornTo, Told}
use Rattle.shard_disks.specs.Images.{seen_of}
use Rattle.shard_disks.specs.Lists.{Moved}
use Rattle.shard_disks.specs.Outline.{slot_at}
use Rattle.shard_disks.specs.PlainDisks.{PlainDisks, disk_of, disks_in, outline_of}
use Rattle.shard_disks.specs.SlotCalls.{CommitsLog}
use Rattle.shard_disks.proofs.ImageLemmas.{told_both}
use Rattle.shard_disks.proofs.DiskLemmas.{all_moved}
use Rattle.shard_disks.proofs.ListLemmas.{moved_given, moved_map, moved_weaker}

abbrev IsTornLog : {D : Type 0} → (D → DiskState) → ℕ → PlainLog D → PlainLog D → Type 0
IsTornLog state count old new = Torn old.end count (state old.disk).seen (state new.disk).seen

torn_at : {D : Type 0} (state : D → DiskState) (count i : ℕ) (olds news : List (PlainLog D)) → Moved i (IsTornLog state count) olds news
    → Torn (slot_at (map outline_of olds) i).end count (slice_index_or (seen_of state (map disk_of olds)) i []) (slice_index_or (seen_of state (map disk_of news)) i [])
torn_at state count i [] news m = absurd m
torn_at state count i (old ∷ olds) [] m = absurd m
torn_at state count zero (old ∷ olds) (new ∷ news) m = m.0
torn_at state count (suc i) (old ∷ olds) (new ∷ news) m = torn_at state count i olds news m.1

pub commit_torn : {D : Type 0} (state : D → DiskState) (m : PlainPair D) (olds news : List (PlainLog D)) (i : ℕ) (draft : List ℕ) (result : Result Unit LogRefused) → Moved i (CommitsLog state draft result) olds news
    → (doubted doubted' : Option ℕ) (past : List (List D)) (self : PlainDisks D) → record { manifest = m; slots = olds; doubted = doubted; past = past } ≡ self
    → Told state self → IsTornTo state i draft self (record { manifest = m; slots = news; doubted = doubted'; past = [] })
commit_torn {D = D} state m olds news i draft result moved doubted doubted' past self is =
    subst (λ (d : PlainDisks D). Told state d → IsTornTo state i draft d (record { manifest = m; slots = news; doubted = doubted'; past = [] })) is torn
  where
    torn : Told state (record { manifest = m; slots = olds; doubted = doubted; past = past })
        → IsTornTo state i draft (record { manifest = m; slots = olds; doubted = doubted; past = past }) (record { manifest = m; slots = news; doubted = doubted'; past = [] })
    torn told =
        let two_more : suc (suc i) ≡ 2 + i = omega arith in
        let logs : Moved i (IsTornLog state (6 + length draft)) olds news =
        moved_given (λ log. IsTrue (state log.disk).tells) (IsTornLog state (6 + length draft)) i olds news (told_both state m olds told).1
        (moved_weaker (CommitsLog state draft result) (λ old new. IsTrue (state old.disk).tells → IsTornLog state (6 + length draft) old new) (λ old new c. c.torn) i olds news moved) in
        subst (λ n. (seen_of state (disks_in m news) ≡ slice_set (seen_of state (disks_in m olds)) n (slice_index_or (seen_of state (disks_in m news)) n []))
        × Torn (slot_at (map outline_of olds) i).end (6 + length draft) (slice_index_or (seen_of state (disks_in m olds)) n []) (slice_index_or (seen_of state (disks_in m news)) n [])) two_more (
          moved_map (λ d. (state d).seen) [] (λ d e. Unit {0}) (suc (suc i)) (disks_in m olds) (disks_in m news) (all_moved (CommitsLog state draft result) (λ d e. Unit {0}) (λ old new c. tt) m i olds news moved),
          torn_at state (6 + length draft) i olds news logs,
        )
