use Rattle.std.proofs.Common.{◌≡◌}
use Rattle.shard_bench.specs.Published.{asked_for}
use Rattle.shard_bench.proofs.work.appended.Given as goal

-- the shard is the one that was asked for
abbrev pub invariant-loop : goal.invariant-loop
invariant-loop l = l.log.asked ≡ asked_for
