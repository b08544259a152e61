use Rattle.std.proofs.Common.{◌∙◌, Some, sym, ap}
use Rattle.shard_index.specs.KeptIndex.{KeptIndex}
use Rattle.shard_views.specs.Views.{InView}
use Rattle.plain_shards.proofs.ViewLemmas.{shown_here, within}
use Rattle.plain_shards.proofs.plain_shards.PlainShardsReaders.index.Goals as goal

pub log-requires : goal.log-requires
log-requires g c = within c.args.self.now.in_view c.args.self.now.logs c.args.shard (InView c.requires.viewed.0) c.requires.viewed.1

pub returns : goal.returns
returns g c =
    let s = c.args.self.now in
    let here = shown_here s.in_view s.logs c.args.shard c.log.result.now c.requires.viewed.0 c.requires.viewed.1 c.log.ensures in
    record { shown = here ∙ ap (λ (i : KeptIndex). Some (InView i)) (sym c.index.ensures) }
