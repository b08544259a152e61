use Rattle.std.proofs.Common.{sym, subst, ◌≤◌}
use Rattle.outside.specs.Results.{on_ok_then}
use Rattle.session_journal.proofs.SnapshotLemmas.{read_short}
use Rattle.session_journal.proofs.folding.open_as.Goals as goal

pub returns-in-Ok-clause-short : goal.returns-in-Ok-clause-short
returns-in-Ok-clause-short c =
    on_ok_then c.check.result (λ shards told. read_short c.in-Ok.snapshot c.args.bytes.now c.in-Ok.ensures.spelled (subst (λ n. n ≤ 8) (sym shards) c.requires.shards.few_shards) told) c.check.ensures.shards
