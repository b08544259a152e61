-- The disk was mounted some times, and the records are the same.
use Rattle.std.proofs.Common.{◌≡◌, IsTrue}
use Rattle.gated_log.specs.PlainLog.{AllHave, AtRest}
use Rattle.log_bench.proofs.work.mounted_again.Given as goal

abbrev pub invariant-loop-round : goal.invariant-loop-round
invariant-loop-round g l = record {
  list : IsTrue (g.D.Disk.state l.fn.log.disk).tells → l.log.payloads ≡ l.fn.log.payloads;
  images : IsTrue (g.D.Disk.state l.fn.log.disk).tells → AllHave AtRest l.log.payloads (g.D.Disk.state l.log.disk).may_leave;
  tells : (g.D.Disk.state l.log.disk).tells ≡ (g.D.Disk.state l.fn.log.disk).tells;
}
