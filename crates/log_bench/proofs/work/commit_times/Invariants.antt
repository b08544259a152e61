-- So many of the commits are done.
use Rattle.std.proofs.Common.{◌≡◌, ◌+◌, ◌++◌, length, replicate, IsTrue}
use Rattle.gated_log.specs.PlainLog.{AllHave, AtRest}
use Rattle.log_bench.proofs.work.commit_times.Given as goal

abbrev pub invariant-loop-round : goal.invariant-loop-round
invariant-loop-round g l = record {
  list : IsTrue (g.D.Disk.state l.initial.log.disk).tells → l.log.payloads ≡ l.initial.log.payloads ++ replicate l._round l.draft;
  count : length l.log.payloads ≡ length l.initial.log.payloads + l._round;
  images : IsTrue (g.D.Disk.state l.initial.log.disk).tells → AllHave AtRest l.log.payloads (g.D.Disk.state l.log.disk).may_leave;
  rests : l.log.standing ≡ AtRest;
  tells : (g.D.Disk.state l.log.disk).tells ≡ (g.D.Disk.state l.initial.log.disk).tells;
}
