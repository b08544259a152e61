use Rattle.std.proofs.Common.{List, sym, subst, ◌∙◌, ap}
use Rattle.topic_name.specs.declared.mounting.MountRefused.{MountRefused}
use Rattle.shard_index.specs.declared.op.IndexOp.{IndexOp}
use Rattle.shard_fold.specs.declared.asked.Asked.{Asked}
use Rattle.shard_fold.specs.Giving.{IsAsked}
use Rattle.shard_disks.specs.declared.limits.Limits.{Limits}
use Rattle.shard_reading.specs.declared.limits.TheConstants.{MANIFEST_BYTES, SLOT_BYTES}
use Rattle.shard_log.specs.Mounting.{Mounts, Refuses, refusal_of}
use Rattle.shard_log.specs.PlainShardLog.{IsShardLog, PlainShardLog}
use Rattle.shard_log.proofs.MountLemmas.{mount_keeps, refused_read, shard_mounts}
use Rattle.shard_log.proofs.log.ShardLog.mount.Goals as goal

pub invariant_of-result : goal.invariant_of-result
invariant_of-result g c =
    let asked : Asked = record { config = c.args.config; shard = c.args.shard } in
    let limits : Limits = record { manifest = MANIFEST_BYTES; slot = SLOT_BYTES } in
    let is : IsAsked asked = record { limits = c.requires.config; shard = c.requires.shard } in
    let whole : PlainShardLog g.row.D.Denot = record { disks = c.read_shard.new.disks; index = c.in-Ok-read_shard.index; unshown = c.new.result.items; asked = asked } in
    subst (λ (u : List IndexOp). IsShardLog g.D.Disk.state (record whole { unshown = u })) (sym c.new.ensures.items)
    (mount_keeps g.D.Disk.state c.args.disks.items asked limits c.in-Ok.mounted c.in-Ok.ensures.mounts c.read_shard.new.disks c.in-Ok-read_shard.index c.in-Ok-read_shard.ensures.reads is
    c.doubted-rests.ensures.stand (c.doubted-rests.ensures.rests c.in-Ok-read_shard.ensures.reads.rests))

pub returns-in-Ok-read_shard-clause-mounts : goal.returns-in-Ok-read_shard-clause-mounts
returns-in-Ok-read_shard-clause-mounts g c =
    let asked : Asked = record { config = c.args.config; shard = c.args.shard } in
    let limits : Limits = record { manifest = MANIFEST_BYTES; slot = SLOT_BYTES } in
    let whole : PlainShardLog g.row.D.Denot = record { disks = c.read_shard.new.disks; index = c.in-Ok-read_shard.index; unshown = c.new.result.items; asked = asked } in
    subst (λ (u : List IndexOp). Mounts g.D.Disk.state c.args.disks.items asked (record whole { unshown = u })) (sym c.new.ensures.items)
    (shard_mounts g.D.Disk.state c.args.disks.items asked limits c.in-Ok.mounted c.in-Ok.ensures.mounts c.read_shard.new.disks c.in-Ok-read_shard.index c.in-Ok-read_shard.ensures.reads)

pub returns-in-Err-read_shard-clause-refuses : goal.returns-in-Err-read_shard-clause-refuses
returns-in-Err-read_shard-clause-refuses g c =
    let asked : Asked = record { config = c.args.config; shard = c.args.shard } in
    let limits : Limits = record { manifest = MANIFEST_BYTES; slot = SLOT_BYTES } in
    subst (λ (m : MountRefused). Refuses g.D.Disk.state c.args.disks.items asked (c.into_disks.result, m))
    (sym (c.refusal-why.ensures ∙ ap (λ n. refusal_of asked n c.in-Err-read_shard.why) c.manifest_side.ensures))
    (refused_read g.D.Disk.state c.args.disks.items asked limits c.in-Ok.mounted c.read_shard.new.disks c.in-Err-read_shard.why c.into_disks.result c.in-Ok.ensures.mounts c.in-Err-read_shard.ensures.reads
    c.into_disks.ensures c.doubted-ten.ensures.ten)
