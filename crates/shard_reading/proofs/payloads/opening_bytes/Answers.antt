use Rattle.std.proofs.Common.{refl}
use Rattle.shard_reading.proofs.LookLemmas.{looks_none, rest_images}
use Rattle.shard_reading.proofs.payloads.opening_bytes.Goals as goal

pub returns-then-count-eq0-clause-looks : goal.returns-then-count-eq0-clause-looks
returns-then-count-eq0-clause-looks g c =
    let facts = c.doubted-facts.ensures in
    looks_none g.D.Disk.state c.args.disks.now _ (rest_images g.D.Disk.state c.args.disks.now c.requires.rests facts.images facts.rests) refl
