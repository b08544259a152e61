-- Each call is one of a run of calls.
use Rattle.std.proofs.Common.{◌≡◌, ◌⊎◌, inl, inr, ℕ, Result, Ok, Err, IsTrue, List, refl, sym, ap, ◌∙◌}
use Rattle.outside.specs.DiskModel.{DiskState}
use Rattle.shard_model.specs.ShardList.{ShardList}
use Rattle.shard_model.specs.Storing.{store}
use Rattle.shard_index.specs.Absorbing.{absorbed_all}
use Rattle.shard_index.specs.KeptIndex.{ToldReceipt}
use Rattle.shard_index.specs.declared.refused.AppendRefused.{AppendRefused}
use Rattle.record_codec.specs.declared.group.Op.{Op}
use Rattle.record_codec.specs.Records.{plain_ops}
use Rattle.shard_fold.specs.declared.asked.Asked.{Asked}
use Rattle.shard_fold.specs.Fold.{Holds}
use Rattle.shard_disks.specs.Images.{MayLeaveAll, seen_of, tell_all}
use Rattle.shard_disks.specs.Outline.{Reads, reads_in}
use Rattle.shard_reading.specs.Held.{HoldsEither, HoldsOne}
use Rattle.shard_log.specs.Appending.{Appends, IsLeft, IsShown, Ticks}
use Rattle.shard_log.specs.Mounting.{HoldAsBefore, HoldThis, Mounts, held_at}
use Rattle.shard_log.specs.Parts.{HoldsAmong}
use Rattle.shard_log.specs.PlainShardLog.{PlainShardLog, known, known_by, shown, stored}
use Rattle.shard_log.specs.StoredOnce.{Append, Call, ComesBy, ComesOf, Mount, Tick}

-- both lists of a value that shows all
both_shown : {D : Type 0} (s : PlainShardLog D) → IsShown s → (known s ≡ shown s) × (stored s ≡ shown s)
both_shown s shows =
    let all : stored s ≡ shown s = ap (λ ops. absorbed_all ops (shown s)) shows.none in
    (ap (λ d. known_by d (shown s) (stored s)) shows.rests ∙ all, all)

-- what is left, where a doubt was settled to a list
module _ {D : Type 0} (call : Call) (old new : PlainShardLog D) (before after : ShardList) (settled : (before ≡ known old) ⊎ (before ≡ stored old))
    (stays : (list other : ShardList) → other ≡ list → ComesBy call list other) (goes : (other : ShardList) → other ≡ after → ComesBy call before other) where
  abbrev Comes : ShardList → Type 0
  Comes list = ComesOf call (known old) (stored old) list

  as_known : (list : ShardList) → list ≡ known old → Comes list
  as_known list e = (known old, inl refl, stays (known old) list e)

  as_stored : (list : ShardList) → list ≡ stored old → Comes list
  as_stored list e = (stored old, inr refl, stays (stored old) list e)

  as_before : (list : ShardList) → list ≡ before → Comes list
  as_before list e = (before, settled, stays before list e)

  as_after : (list : ShardList) → list ≡ after → Comes list
  as_after list e = (before, settled, goes list e)

  what_is_left : IsLeft before after old new → Comes (known new) × Comes (stored new)
  what_is_left (inl same) = (as_known (known new) same.0, as_stored (stored new) same.1)
  what_is_left (inr (inl (first, inl second))) = (as_before (known new) first, as_before (stored new) second)
  what_is_left (inr (inl (first, inr second))) = (as_before (known new) first, as_after (stored new) second)
  what_is_left (inr (inr both)) = (as_after (known new) both.0, as_after (stored new) both.1)

  what_is_shown : IsShown new → shown new ≡ after → Comes (known new) × Comes (stored new)
  what_is_shown shows e = let both = both_shown new shows in (as_after (known new) (both.0 ∙ e), as_after (stored new) (both.1 ∙ e))

  what_is_held : (asked : Asked) (reads : Reads) → HoldsAmong asked (known old) (stored old) after reads → (list : ShardList) × HoldsOne asked list reads × Comes list
  what_is_held asked reads (inl (inl holds)) = (known old, holds, as_known (known old) refl)
  what_is_held asked reads (inl (inr holds)) = (stored old, holds, as_stored (stored old) refl)
  what_is_held asked reads (inr holds) = (after, holds, as_after after refl)

module _ {D : Type 0} (state : D → DiskState) (ops : List Op) (now : ℕ) (old new : PlainShardLog D) where
  abbrev call : Call
  call = Append (plain_ops ops) now

  pub append_comes : (result : Result ToldReceipt AppendRefused) → Appends state ops now old new result
      → ComesOf call (known old) (stored old) (known new) × ComesOf call (known old) (stored old) (stored new)
  append_comes (Ok receipt) appends =
      what_is_shown call old new appends.before (store appends.before (plain_ops ops) now) appends.settled.either (λ list other e. inl e) (λ other e. inr e) appends.shows appends.list
  append_comes (Err why) appends =
      what_is_left call old new appends.before (store appends.before (plain_ops ops) now) appends.settled.either (λ list other e. inl e) (λ other e. inr e) appends.left

  pub append_cut : (result : Result ToldReceipt AppendRefused) (appends : Appends state ops now old new result) (reads : Reads)
      → HoldsAmong old.asked (known old) (stored old) (store appends.before (plain_ops ops) now) reads
      → (list : ShardList) × HoldsOne old.asked list reads × ComesOf call (known old) (stored old) list
  append_cut result appends reads holds =
      what_is_held call old new appends.before (store appends.before (plain_ops ops) now) appends.settled.either (λ list other e. inl e) (λ other e. inr e) old.asked reads holds

module _ {D : Type 0} (state : D → DiskState) (old new : PlainShardLog D) where
  pub tick_comes : (result : Result Unit AppendRefused) → Ticks state old new result
      → ComesOf Tick (known old) (stored old) (known new) × ComesOf Tick (known old) (stored old) (stored new)
  tick_comes (Ok done) ticks = what_is_shown Tick old new ticks.before ticks.before ticks.settled.either (λ list other e. e) (λ other e. e) ticks.shows ticks.list
  tick_comes (Err why) ticks = what_is_left Tick old new ticks.before ticks.before ticks.settled.either (λ list other e. e) (λ other e. e) ticks.left

  pub tick_cut : (result : Result Unit AppendRefused) (ticks : Ticks state old new result) (reads : Reads) → HoldsAmong old.asked (known old) (stored old) ticks.before reads
      → (list : ShardList) × HoldsOne old.asked list reads × ComesOf Tick (known old) (stored old) list
  tick_cut result ticks reads holds = what_is_held Tick old new ticks.before ticks.before ticks.settled.either (λ list other e. e) (λ other e. e) old.asked reads holds

module _ {D : Type 0} (state : D → DiskState) (disks : List D) (asked : Asked) (one other : ShardList) where
  -- a list that is held as one of two
  one_of_two : (images before : List (List ℕ)) → held_at asked images ≡ held_at asked before → HoldsEither asked one other (reads_in before)
      → (list : ShardList) × HoldsOne asked list (reads_in images) × ComesOf Mount one other list
  one_of_two images before same (inl holds) = (one, same ∙ holds, (one, inl refl, refl))
  one_of_two images before same (inr holds) = (other, same ∙ holds, (other, inr refl, refl))

  pub mount_comes : (new : PlainShardLog D) → Mounts state disks asked new → IsTrue (tell_all state disks) → HoldsEither asked one other (reads_in (seen_of state disks))
      → ComesOf Mount one other (known new) × ComesOf Mount one other (stored new)
  mount_comes new mounts told either = by either
    where
      both : (known new ≡ shown new) × (stored new ≡ shown new)
      both = both_shown new mounts.shows

      is : (list : ShardList) → held_at asked (seen_of state disks) ≡ Holds list → shown new ≡ list
      is list holds = let held : Holds (shown new) ≡ Holds list = sym (mounts.holds told) ∙ holds in cc

      by : HoldsEither asked one other (reads_in (seen_of state disks)) → ComesOf Mount one other (known new) × ComesOf Mount one other (stored new)
      by (inl holds) = ((one, inl refl, both.0 ∙ is one holds), (one, inl refl, both.1 ∙ is one holds))
      by (inr holds) = ((other, inr refl, both.0 ∙ is other holds), (other, inr refl, both.1 ∙ is other holds))

  pub mount_cut : (images : List (List ℕ)) → HoldAsBefore state disks asked images → ((before : List (List ℕ)) → MayLeaveAll state disks before → HoldsEither asked one other (reads_in before))
      → (list : ShardList) × HoldsOne asked list (reads_in images) × ComesOf Mount one other list
  mount_cut images as_before held = one_of_two images as_before.before as_before.held (held as_before.before as_before.left)

  pub mount_cut_synced : (images : List (List ℕ)) → HoldThis asked (held_at asked (seen_of state disks)) images → HoldsEither asked one other (reads_in (seen_of state disks))
      → (list : ShardList) × HoldsOne asked list (reads_in images) × ComesOf Mount one other list
  mount_cut_synced images same held = one_of_two images (seen_of state disks) same held
