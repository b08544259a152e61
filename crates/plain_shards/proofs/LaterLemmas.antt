-- That what a log shows grows.
use Rattle.std.proofs.Common.{◌≡◌, ◌⊎◌, inl, inr, ℕ, Option, Some, None, Result, Ok, Err, List, refl, sym, subst}
use Rattle.outside.specs.DiskModel.{DiskState}
use Rattle.shard_model.specs.ShardList.{ShardList}
use Rattle.shard_model.specs.Storing.{store}
use Rattle.shard_model.specs.Lists.{IsList}
use Rattle.shard_model.specs.laws.ListLaws.{store_in_order, storing_grows}
use Rattle.shard_index.specs.declared.refused.AppendRefused.{AppendRefused}
use Rattle.shard_index.specs.GrowLaws.{absorbed_all_grows}
use Rattle.shard_index.specs.KeptIndex.{ToldReceipt}
use Rattle.record_codec.specs.declared.group.Op.{Op}
use Rattle.record_codec.specs.Records.{plain_ops}
use Rattle.shard_log.specs.Appending.{Appends, Ticks}
use Rattle.shard_log.specs.PlainShardLog.{PlainShardLog, known, known_by, shown, stored}
use Rattle.shard_views.specs.Views.{IsLater}
use Rattle.shard_views.specs.ViewLaws.{later_on}
use Rattle.plain_shards.specs.Calls.{AppendsLater, TicksLater}

module _ {D : Type 0} (state : D → DiskState) (old new : PlainShardLog D) (order : IsList (shown old)) where
  stored_later : IsLater (shown old) (stored old)
  stored_later = let grows = absorbed_all_grows old.unshown (shown old) order in inr (grows.grown, grows.order)

  known_later : (doubted : Option ℕ) → IsLater (shown old) (known_by doubted (shown old) (stored old))
  known_later None = stored_later
  known_later (Some slot) = inl refl

  settled_later : (before : ShardList) → (before ≡ known old) ⊎ (before ≡ stored old) → IsLater (shown old) before
  settled_later before (inl is) = subst (IsLater (shown old)) (sym is) (known_later old.disks.doubted)
  settled_later before (inr is) = subst (IsLater (shown old)) (sym is) stored_later

  settled_order : (before : ShardList) → IsLater (shown old) before → IsList before
  settled_order before (inl is) = subst IsList (sym is) order
  settled_order before (inr later) = later.1

  module _ (ops : List Op) (now : ℕ) where
    either : (before : ShardList) → IsLater (shown old) before → (shown new ≡ shown old) ⊎ (shown new ≡ before) → IsLater (shown old) (shown new)
    either before later (inl is) = inl is
    either before later (inr is) = subst (IsLater (shown old)) (sym is) later

    append_later : (result : Result ToldReceipt AppendRefused) → Appends state ops now old new result → IsLater (shown old) (shown new)
    append_later (Ok receipt) appends =
        let before : ShardList = appends.before in
        let later = settled_later before appends.settled.either in
        let is = settled_order before later in
        subst (IsLater (shown old)) (sym appends.list)
        (later_on (shown old) before (store before (plain_ops ops) now) later (inr (storing_grows before (plain_ops ops) now is, store_in_order before (plain_ops ops) now is)))
    append_later (Err why) appends = either appends.before (settled_later appends.before appends.settled.either) appends.shown_stays

    pub appended : (result : Result ToldReceipt AppendRefused) → Appends state ops now old new result → AppendsLater state ops now result old new
    appended result appends = record { appends = appends; later = append_later result appends }

  tick_later : (result : Result Unit AppendRefused) → Ticks state old new result → IsLater (shown old) (shown new)
  tick_later (Ok x) ticks = subst (IsLater (shown old)) (sym ticks.list) (settled_later ticks.before ticks.settled.either)
  tick_later (Err why) ticks = inl ticks.shown_stays

  pub ticked : (result : Result Unit AppendRefused) → Ticks state old new result → TicksLater state result old new
  ticked result ticks = record { ticks = ticks; later = tick_later result ticks }
