use Rattle.std.proofs.Common.{ap, sym, ◌∙◌}
use Rattle.record_codec.specs.Records.{KeptOpening}
use Rattle.shard_fold.specs.OpeningLaws.{oldest_short}
use Rattle.shard_fold.proofs.openings.open.Goals as goal

pub returns-clause-short : goal.returns-clause-short
returns-clause-short c = λ messages.
    oldest_short c.args.bytes.now c.in-Ok.opening c.args.cut c.unsealed.result c.in_ok-index.index c.deref.result.now c.in-Ok.ensures.spelled
    (sym c.in_ok-opens.ensures.value ∙ c.if-not-opens.false) c.in_ok-index.ensures c.unsealed.ensures
    (c.deref.ensures.value ∙ ap (λ (o : KeptOpening). o.awaited) c.opening.view_is) messages
