-- What an append and a tick leave.
use Rattle.std.specs.Prelude.{ℕ, ◌≡◌, ◌⊎◌, Bool, true, false, List, [], Result, Err, IfOk, OnOk, OnErr, None}
use Rattle.outside.specs.DiskModel.{DiskState, IsArmed}
use Rattle.shard_model.specs.ShardList.{ShardList, next_of}
use Rattle.shard_model.specs.Storing.{store}
use Rattle.shard_index.specs.declared.refused.AppendRefused.{AppendRefused}
use Rattle.shard_index.specs.declared.refused.AppendRefused.TheVariants.{AwaitFull, Fault, Full, Memory}
use Rattle.shard_index.specs.KeptIndex.{ToldReceipt}
use Rattle.record_codec.specs.declared.group.Op.{Op}
use Rattle.record_codec.specs.Records.{plain_ops}
use Rattle.group_plan.specs.Plan.{AwaitsTooMany, IsFull, KeepsNothing, Planned, Stores as ToStore, planned}
use Rattle.shard_disks.specs.Calls.{WriteNone}
use Rattle.shard_disks.specs.Images.{EachMoment, faults_of}
use Rattle.shard_disks.specs.Lists.{Moved, Pairwise}
use Rattle.shard_disks.specs.PlainDisks.{all_disks, outline}
use Rattle.shard_reading.specs.Held.{HoldsEither}
use Rattle.shard_log.specs.Parts.{HoldsAmong, IsBlamed, IsPart}
use Rattle.shard_log.specs.PlainShardLog.{ImagesHold, PlainShardLog, known, shown, stored}
use Rattle.shard_log.specs.Steps.{IsSettled}

-- nothing is in doubt, and the list shows all that is stored
pub record IsShown {D : Type 0} (s : PlainShardLog D) : Type 0 where
  pub rests : s.disks.doubted ≡ None
  pub none : s.unshown ≡ []

-- whether a record is written
abbrev pub is_written : Planned → Bool
is_written KeepsNothing = false
is_written IsFull = false
is_written AwaitsTooMany = false
is_written (ToStore group) = true

-- What is left where nothing was in doubt and all was shown: the list without the group, or in doubt with it; or the list with the group, which isn't
-- shown yet.
abbrev pub IsLeftBehind : {D : Type 0} → ShardList → ShardList → PlainShardLog D → Type 0
IsLeftBehind before after new =
    ((known new ≡ before) × ((stored new ≡ before) ⊎ (stored new ≡ after))) ⊎ ((known new ≡ after) × (stored new ≡ after))

-- What a refused append leaves: what was there, where the settling failed or there was no memory before; or what is left behind it.
abbrev pub IsLeft : {D : Type 0} → ShardList → ShardList → PlainShardLog D → PlainShardLog D → Type 0
IsLeft before after old new =
    ((known new ≡ known old) × (stored new ≡ stored old)) ⊎ IsLeftBehind before after new

-- A list that shows all became another one, or was left behind it.
pub record Stores {D : Type 0} (state : D → DiskState) (after : ShardList) (old new : PlainShardLog D) (result : Result Unit AppendRefused) : Type 0 where
  pub list : OnOk result (shown new ≡ after)
  pub shows : OnOk result (IsShown new)
  pub never_full : result ≡ Err Full → ⊥
  pub never_await_full : result ≡ Err AwaitFull → ⊥
  pub left : OnErr result (IsLeftBehind (shown old) after new)
  pub shown_stays : OnErr result (shown new ≡ shown old)
  pub in_doubt : result ≡ Err Fault → new.disks.doubted ≡ None → ⊥
  pub memory : result ≡ Err Memory → new.disks.doubted ≡ None
  pub part : IsPart state (HoldsEither old.asked (shown old) after) old new
  pub cause : IsBlamed (faults_of state (all_disks old.disks)) (faults_of state (all_disks new.disks)) result

-- What was planned over a list that shows all was done, and made this list of it.
pub record Follows {D : Type 0} (state : D → DiskState) (plan : Planned) (after : ShardList) (old new : PlainShardLog D) (result : Result Unit AppendRefused) : Type 0 where
  pub list : OnOk result (shown new ≡ after)
  pub shows : OnOk result (IsShown new)
  pub full : result ≡ Err Full → plan ≡ IsFull
  pub not_full : OnOk result (plan ≡ IsFull → ⊥)
  pub await_full : result ≡ Err AwaitFull → plan ≡ AwaitsTooMany
  pub not_await_full : OnOk result (plan ≡ AwaitsTooMany → ⊥)
  pub unchanged : (result ≡ Err Full) ⊎ (result ≡ Err AwaitFull) → new ≡ old
  pub left : OnErr result (IsLeftBehind (shown old) after new)
  pub shown_stays : OnErr result (shown new ≡ shown old)
  pub in_doubt : result ≡ Err Fault → new.disks.doubted ≡ None → ⊥
  pub memory : result ≡ Err Memory → new.disks.doubted ≡ None
  pub unwritten : is_written plan ≡ false → all_disks new.disks ≡ all_disks old.disks
  pub part : IsPart state (HoldsEither old.asked (shown old) after) old new
  pub cause : IsBlamed (faults_of state (all_disks old.disks)) (faults_of state (all_disks new.disks)) result

-- After an append of a group at a moment: a doubt was settled first, to a list (`before`). Ok has stored the group in it, shows that, and each choice of
-- images holds it; its receipt tells it. The refusals for room come only where the group is refused so over this list, and Ok never comes there; after
-- one nothing was written. A refusal shows what was shown, or that list. At each moment each choice of images holds what was there, with what was in
-- doubt or without, or the list with the group.
pub record Appends {D : Type 0} (state : D → DiskState) (ops : List Op) (now : ℕ) (old new : PlainShardLog D) (result : Result ToldReceipt AppendRefused) : Type 0 where
  pub before : ShardList
  pub settled : IsSettled state old before
  pub list : OnOk result (shown new ≡ store before (plain_ops ops) now)
  pub shows : OnOk result (IsShown new)
  pub durable : OnOk result (ImagesHold state new (shown new) (shown new))
  pub receipt :
      IfOk result (λ receipt. receipt ≡ record { shard = old.asked.shard; first = next_of before; next = next_of (shown new); list = shown new })
  pub full : result ≡ Err Full → planned before ops now ≡ IsFull
  pub not_full : OnOk result (planned before ops now ≡ IsFull → ⊥)
  pub await_full : result ≡ Err AwaitFull → planned before ops now ≡ AwaitsTooMany
  pub not_await_full : OnOk result (planned before ops now ≡ AwaitsTooMany → ⊥)
  pub unchanged : (result ≡ Err Full) ⊎ (result ≡ Err AwaitFull) → (shown new ≡ before) × IsShown new
  pub left : OnErr result (IsLeft before (store before (plain_ops ops) now) old new)
  pub shown_stays : OnErr result ((shown new ≡ shown old) ⊎ (shown new ≡ before))
  pub in_doubt : result ≡ Err Fault → new.disks.doubted ≡ None → ⊥
  pub memory : result ≡ Err Memory → new.disks.doubted ≡ None
  pub unwritten : is_written (planned before ops now) ≡ false → WriteNone state (all_disks old.disks) (all_disks new.disks)
  pub part : IsPart state (HoldsAmong old.asked (known old) (stored old) (store before (plain_ops ops) now)) old new
  pub cause : IsBlamed (faults_of state (all_disks old.disks)) (faults_of state (all_disks new.disks)) result

-- After a tick: a doubt was settled, and what was stored is shown; a refusal shows what was shown. Nothing is written.
pub record Ticks {D : Type 0} (state : D → DiskState) (old new : PlainShardLog D) (result : Result Unit AppendRefused) : Type 0 where
  pub before : ShardList
  pub settled : IsSettled state old before
  pub list : OnOk result (shown new ≡ before)
  pub shows : OnOk result (IsShown new)
  pub never_full : result ≡ Err Full → ⊥
  pub never_await_full : result ≡ Err AwaitFull → ⊥
  pub left : OnErr result (IsLeft before before old new)
  pub shown_stays : OnErr result (shown new ≡ shown old)
  pub in_doubt : result ≡ Err Fault → new.disks.doubted ≡ None → ⊥
  pub memory : result ≡ Err Memory → new.disks.doubted ≡ None
  pub writes_none : WriteNone state (all_disks old.disks) (all_disks new.disks)
  pub part : IsPart state (HoldsAmong old.asked (known old) (stored old) before) old new
  pub cause : IsBlamed (faults_of state (all_disks old.disks)) (faults_of state (all_disks new.disks)) result

-- A failure of a disk was asked for, and nothing else is changed.
pub record Arms {D E : Type 0} (state : D → DiskState) (arms : D → D → Type 0) (place : ℕ) (old new : PlainShardLog D) (result : Result Unit E) : Type 0 where
  pub armed : OnOk result (Moved place arms (all_disks old.disks) (all_disks new.disks))
  pub refused : OnErr result (all_disks new.disks ≡ all_disks old.disks)
  pub stays : new ≡ record old { disks = new.disks }
  pub outline_stays : outline new.disks ≡ outline old.disks
  pub nothing_else : Pairwise (λ before now. IsArmed (state before) (state now)) (all_disks old.disks) (all_disks new.disks)
  pub any_moment : EachMoment state old.disks new.disks (HoldsEither old.asked (known old) (stored old))
