use Rattle.std.proofs.Common.{sym, ◌∙◌}
use Rattle.shard_index.specs.KeptIndex.{list_of}
use Rattle.shard_fold.specs.OpeningLaws.{behind_short}
use Rattle.shard_fold.proofs.openings.open_behind.Goals as goal

pub returns-clause-short : goal.returns-clause-short
returns-clause-short c = λ few messages.
    behind_short c.args.bytes.now c.in-Ok.opening _ c.args.cut c.unsealed.result (list_of c.args.index.now) (list_of c.absorb.new.self) c.in-Ok.ensures.spelled
    c.requires (sym c.opens_behind.ensures ∙ c.if-not-opens_behind.false) c.unsealed.ensures c.in_ok-absorb.ensures.list few messages
