use Rattle.std.proofs.Common.{List, Ok, Err, subst}
use Rattle.topic_name.specs.declared.descriptor.Descriptor.{Descriptor}
use Rattle.std.proofs.lemmas.Result.{err_from_is_err_and}
use Rattle.shard_fold.specs.Fold.{Holds}
use Rattle.shard_disks.specs.PlainDisks.{outline}
use Rattle.shard_reading.specs.Held.{begins_by}
use Rattle.shard_reading.specs.Steps.{BeginsShard, ReadsIndex, records_in}
use Rattle.shard_reading.proofs.ShardLemmas.{begin_refused, cuts_unread, shard_read}
use Rattle.shard_reading.proofs.reading.read_shard.Goals as goal

pub returns-in_err-cuts : goal.returns-in_err-cuts
returns-in_err-cuts g c =
    let p = err_from_is_err_and c.from_residual.result c.from_residual.ensures.1 in rw (p.1, p.2)
    (record {
      reads = cuts_unread g.D.Disk.state c.args.asked c.args.disks.now c.read_manifest.new.disks c.in_err-cuts.field-0.0 c.doubted-facts.ensures.eight c.requires.limits c.in_err-cuts.ensures.reads;
    })

pub returns-in_err-begin : goal.returns-in_err-begin
returns-in_err-begin g c =
    let p = err_from_is_err_and c.from_residual-in_err-begin.result c.from_residual-in_err-begin.ensures.1 in rw (p.1, p.2)
    (record {
      reads = begin_refused g.D.Disk.state c.args.asked c.args.disks.now c.read_manifest.new.disks c.in_ok-cuts.cuts c.in_ok-cuts.ensures.reads c.doubted-facts.ensures.eight c.begin.new.disks c.in_err-begin.field-0.0
          (subst (λ (l : List Descriptor). BeginsShard g.D.Disk.state (begins_by (Holds l) (records_in (outline c.read_manifest.new.disks) 0)) c.read_manifest.new.disks c.begin.new.disks (Err c.in_err-begin.field-0.0))
          c.deref.ensures.value c.in_err-begin.ensures.begins);
    })

pub returns-in_err-index : goal.returns-in_err-index
returns-in_err-index g c =
    let p = err_from_is_err_and c.from_residual-in_err-index.result c.from_residual-in_err-index.ensures.1 in rw (p.1, p.2)
    (record {
      reads = shard_read g.D.Disk.state c.args.asked c.args.disks.now c.read_manifest.new.disks c.in_ok-cuts.cuts c.in_ok-cuts.ensures.reads c.doubted-facts.ensures.eight c.begin.new.disks c.read_index.new.disks
          (subst (λ (l : List Descriptor). BeginsShard g.D.Disk.state (begins_by (Holds l) (records_in (outline c.read_manifest.new.disks) 0)) c.read_manifest.new.disks c.begin.new.disks (Ok tt))
          c.deref.ensures.value c.in_ok-begin.ensures.begins)
          c.in_ok-cuts.ensures.reads.sound (Err c.in_err-index.field-0.0)
          (subst (λ (l : List Descriptor). ReadsIndex g.D.Disk.state l c.begin.new.disks c.read_index.new.disks (Err c.in_err-index.field-0.0)) c.deref-2.ensures.value c.in_err-index.ensures.reads);
    })

pub returns : goal.returns
returns g c = record {
  reads = shard_read g.D.Disk.state c.args.asked c.args.disks.now c.read_manifest.new.disks c.in_ok-cuts.cuts c.in_ok-cuts.ensures.reads c.doubted-facts.ensures.eight c.begin.new.disks c.read_index.new.disks
      (subst (λ (l : List Descriptor). BeginsShard g.D.Disk.state (begins_by (Holds l) (records_in (outline c.read_manifest.new.disks) 0)) c.read_manifest.new.disks c.begin.new.disks (Ok tt))
      c.deref.ensures.value c.in_ok-begin.ensures.begins)
      c.in_ok-cuts.ensures.reads.sound (Ok c.in_ok-index.index)
      (subst (λ (l : List Descriptor). ReadsIndex g.D.Disk.state l c.begin.new.disks c.read_index.new.disks (Ok c.in_ok-index.index)) c.deref-2.ensures.value c.in_ok-index.ensures.reads);
}
