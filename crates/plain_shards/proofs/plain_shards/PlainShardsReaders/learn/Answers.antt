use Rattle.plain_shards.proofs.ViewLemmas.{learned}
use Rattle.plain_shards.proofs.plain_shards.PlainShardsReaders.learn.Goals as goal

pub returns-clause-learns : goal.returns-clause-learns
returns-clause-learns g c = learned c.args.self.now c.args._receipt c.requires.unviewed c.requires.of
