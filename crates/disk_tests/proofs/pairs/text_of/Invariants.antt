-- Reading changes no list.
use Rattle.std.proofs.Common.{◌≡◌, length}
use Rattle.pair_log.specs.PlainPair.{tail_of}
use Rattle.disk_tests.proofs.pairs.text_of.Given as goal

abbrev pub invariant-loop-k : goal.invariant-loop-k
invariant-loop-k l = length (tail_of l.pair.active.payloads) ≡ l.k-end
