use Rattle.std.proofs.Common.{◌∷◌, drop}
use Rattle.shard_reading.proofs.GenerationLemmas.{IsThrough}
use Rattle.shard_reading.proofs.generations.read_all.Given as goal

abbrev pub invariant-loop-cut : goal.invariant-loop-cut
invariant-loop-cut g l = IsThrough g.D.Disk.state l.fn.disks l.disks (l.fn.oldest ∷ l.later) l.previous (drop l.cut-index l.later) l.index l.end
