use Rattle.shard_reading.proofs.RecordLemmas.{IsTaken}
use Rattle.shard_reading.proofs.generations.take_records.Given as goal

abbrev pub invariant-loop-number : goal.invariant-loop-number
invariant-loop-number g l = IsTaken g.D.Disk.state l.fn.disks l.disks l.slot l.place l.fn.index l.index l.number l.at
