use Rattle.pair_log.proofs.PairLemmas.{older, pair_has}
use Rattle.pair_log.proofs.pair.PairLog.doubt.Goals as goal

pub returns-clause-images : goal.returns-clause-images
returns-clause-images g c = rw (← c.self.view_is) (λ told. pair_has g.D.Disk.state _ c.self.invariant told)

pub returns-clause-older : goal.returns-clause-older
returns-clause-older g c = rw (← c.self.view_is) (λ told rests. older g.D.Disk.state _ c.self.invariant told rests)
