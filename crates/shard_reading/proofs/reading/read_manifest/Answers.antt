use Rattle.std.proofs.Common.{◌≡◌, ◌+◌, Err, length, subst, sym, ap, ◌∙◌, arith}
use Rattle.shard_fold.specs.declared.unread.Where.TheVariants.{Manifest}
use Rattle.shard_fold.specs.Fold.{Holds, cuts_in}
use Rattle.shard_reading.specs.declared.unread.Unread.TheVariants.{Damaged}
use Rattle.shard_reading.specs.Steps.{ReadsCuts}
use Rattle.shard_reading.proofs.ManifestLemmas.{reads_behind}
use Rattle.shard_reading.proofs.reading.read_manifest.Goals as goal

pub returns-then-records-gt-MANIFEST_RECORDS : goal.returns-then-records-gt-MANIFEST_RECORDS
returns-then-records-gt-MANIFEST_RECORDS g c =
    let holds : cuts_in c.args.asked c.in_ok-bytes.bytes.items ≡ Holds c.in-Ok.cuts.items = ap (cuts_in c.args.asked) (sym c.deref.ensures.value) ∙ c.in-Ok.ensures.exact in
    let long : length c.in_ok-bytes.bytes.items ≡ c.len.result = omega (arith, c.len.ensures, c.in_ok-bytes.bytes.ok.0) in
    record {
      reads = subst (λ n. ReadsCuts g.D.Disk.state c.args.asked c.args.disks.now c.manifest_bytes.new.disks (Err (Damaged Manifest (13 + n)))) long
          (reads_behind g.D.Disk.state c.args.asked c.args.disks.now c.manifest_bytes.new.disks c.in_ok-bytes.bytes c.manifest_count-records.result
          c.manifest_count-records.ensures.count c.manifest_count-records.ensures.some c.in_ok-bytes.ensures.bytes c.in_ok-bytes.ensures.looks c.in-Ok.cuts holds c.if-records-gt-MANIFEST_RECORDS.true);
    }
