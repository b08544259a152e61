use Rattle.std.proofs.Common.{◌≡◌}
use Rattle.pair_log.specs.declared.doubt.Doubt.TheVariants.{Nothing}
use Rattle.session_bench.proofs.work.acknowledged.Given as goal

-- the journal rests, and has one shard
abbrev pub invariant-loop-before : goal.invariant-loop-before
invariant-loop-before l = (l.held.journal.pair.doubt ≡ Nothing) × (l.held.journal.asked.shards ≡ 1)
