use Rattle.std.proofs.Common.{◌≡◌, subst}
use Rattle.shard_model.specs.Storing.{store}
use Rattle.shard_index.specs.Absorbing.{absorbed_all}
use Rattle.shard_index.specs.KeptIndex.{list_of}
use Rattle.record_codec.specs.Records.{plain_ops}
use Rattle.group_plan.specs.Plan.{planned, KeepsNothing, IsFull, AwaitsTooMany, Stores as ToStore, written}
use Rattle.group_plan.specs.Planning.{HasSpelling, IsPlan, IsSpelled, IsStored}
use Rattle.shard_log.specs.PlainShardLog.{PlainShardLog, shown}
use Rattle.shard_log.specs.Steps.{IsToStore}
use Rattle.shard_log.proofs.StoreLemmas.{group_await_full, group_full, group_memory, group_nothing, group_stored, to_store}
use Rattle.shard_log.proofs.log.ShardLog.store_group.Goals as goal

pub store-requires-clause-stores : goal.store-requires-clause-stores
store-requires-clause-stores g c =
    let exact : IsStored (list_of c.self.inside.index) c.args.ops.now c.args.now c.in-Ok-Stores.stored =
    subst (IsPlan (list_of c.self.inside.index) c.args.ops.now c.args.now) c.in-Ok-Stores.field-0-is c.in-Ok-Stores.ensures.exact in
    let spelled : IsSpelled (list_of c.self.inside.index) c.args.ops.now c.args.now c.in-Ok-Stores.stored =
    subst (HasSpelling (list_of c.self.inside.index) c.args.ops.now c.args.now) c.in-Ok-Stores.field-0-is c.in-Ok-Stores.ensures.spelled in
    subst (λ (s : PlainShardLog g.row.D.Denot). IsToStore (shown s) c.in-Ok-Stores.stored.record.items c.in-Ok-Stores.stored.ops.items) c.self.view_is
    (to_store (list_of c.self.inside.index) c.args.ops.now c.args.now c.in-Ok-Stores.stored c.facts.ensures.order c.facts.ensures.bytes exact spelled).0

pub returns-in-Ok-Nothing : goal.returns-in-Ok-Nothing
returns-in-Ok-Nothing g c =
    let exact : planned (list_of c.self.inside.index) c.args.ops.now c.args.now ≡ KeepsNothing =
    subst (IsPlan (list_of c.self.inside.index) c.args.ops.now c.args.now) c.in-Ok-Nothing.field-0-is c.in-Ok-Nothing.ensures.exact in
    record {
      follows = group_nothing g.D.Disk.state c.args.self.now c.requires.rests c.args.ops.now c.args.now
          (subst (λ (s : PlainShardLog g.row.D.Denot). planned (shown s) c.args.ops.now c.args.now ≡ KeepsNothing) c.self.view_is exact);
    }

pub returns-in-Ok-Full : goal.returns-in-Ok-Full
returns-in-Ok-Full g c =
    let exact : planned (list_of c.self.inside.index) c.args.ops.now c.args.now ≡ IsFull =
    subst (IsPlan (list_of c.self.inside.index) c.args.ops.now c.args.now) c.in-Ok-Full.field-0-is c.in-Ok-Full.ensures.exact in
    record {
      follows = group_full g.D.Disk.state c.args.self.now c.requires.rests c.args.ops.now c.args.now
          (subst (λ (s : PlainShardLog g.row.D.Denot). planned (shown s) c.args.ops.now c.args.now ≡ IsFull) c.self.view_is exact);
    }

pub returns-in-Ok-AwaitFull : goal.returns-in-Ok-AwaitFull
returns-in-Ok-AwaitFull g c =
    let exact : planned (list_of c.self.inside.index) c.args.ops.now c.args.now ≡ AwaitsTooMany =
    subst (IsPlan (list_of c.self.inside.index) c.args.ops.now c.args.now) c.in-Ok-AwaitFull.field-0-is c.in-Ok-AwaitFull.ensures.exact in
    record {
      follows = group_await_full g.D.Disk.state c.args.self.now c.requires.rests c.args.ops.now c.args.now
          (subst (λ (s : PlainShardLog g.row.D.Denot). planned (shown s) c.args.ops.now c.args.now ≡ AwaitsTooMany) c.self.view_is exact);
    }

pub returns-in-Ok-Stores : goal.returns-in-Ok-Stores
returns-in-Ok-Stores g c =
    let exact : IsStored (list_of c.self.inside.index) c.args.ops.now c.args.now c.in-Ok-Stores.stored =
    subst (IsPlan (list_of c.self.inside.index) c.args.ops.now c.args.now) c.in-Ok-Stores.field-0-is c.in-Ok-Stores.ensures.exact in
    let spelled : IsSpelled (list_of c.self.inside.index) c.args.ops.now c.args.now c.in-Ok-Stores.stored =
    subst (HasSpelling (list_of c.self.inside.index) c.args.ops.now c.args.now) c.in-Ok-Stores.field-0-is c.in-Ok-Stores.ensures.spelled in
    let absorbed = (to_store (list_of c.self.inside.index) c.args.ops.now c.args.now c.in-Ok-Stores.stored c.facts.ensures.order c.facts.ensures.bytes exact spelled).1 in
    record {
      follows = group_stored g.D.Disk.state c.args.self.now c.requires.rests c.args.ops.now c.args.now c.store.new.self c.store.result c.in-Ok-Stores.stored.ops.items
          (written (shown c.args.self.now) c.args.ops.now c.args.now)
          (subst (λ (s : PlainShardLog g.row.D.Denot). planned (shown s) c.args.ops.now c.args.now ≡ ToStore (written (shown s) c.args.ops.now c.args.now)) c.self.view_is exact.group)
          (subst (λ (s : PlainShardLog g.row.D.Denot). absorbed_all c.in-Ok-Stores.stored.ops.items (shown s) ≡ store (shown s) (plain_ops c.args.ops.now) c.args.now) c.self.view_is absorbed)
          c.store.ensures.stores;
    }

pub returns-in-Err : goal.returns-in-Err
returns-in-Err g c = record { follows = group_memory g.D.Disk.state c.args.self.now c.requires.rests c.args.ops.now c.args.now }
