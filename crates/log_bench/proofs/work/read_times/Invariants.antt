-- The record was read some times, and the log is the same.
use Rattle.std.proofs.Common.{◌≡◌, ◌==◌, [], length, slice_index_or, if◌then◌else◌, IsTrue}
use Rattle.gated_log.specs.PlainLog.{AtRest}
use Rattle.log_bench.proofs.work.read_times.Given as goal

abbrev pub invariant-loop-round : goal.invariant-loop-round
invariant-loop-round g l = record {
  bytes : IsTrue (g.D.Disk.state l.initial.log.disk).tells
      → length l.bytes.items ≡ (if l._round == 0 then 0 else length (slice_index_or l.initial.log.payloads l.entry []));
  list : IsTrue (g.D.Disk.state l.initial.log.disk).tells → l.log.payloads ≡ l.initial.log.payloads;
  count : length l.log.payloads ≡ length l.initial.log.payloads;
  rests : l.log.standing ≡ AtRest;
  tells : (g.D.Disk.state l.log.disk).tells ≡ (g.D.Disk.state l.initial.log.disk).tells;
}
