-- Reading changes no list.
use Rattle.std.proofs.Common.{◌≡◌, false, length}
use Rattle.gated_log.specs.PlainLog.{is_lost}
use Rattle.disk_tests.proofs.logs.text_of.Given as goal

abbrev pub invariant-loop-k : goal.invariant-loop-k
invariant-loop-k g l = (is_lost l.log.standing ≡ false) × (length l.log.payloads ≡ l.k-end)
