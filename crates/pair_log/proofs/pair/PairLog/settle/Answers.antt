use Rattle.std.proofs.Common.{[]}
use Rattle.pair_log.specs.PlainPair.{IsEither, PlainPair, after_doubt}
use Rattle.pair_log.proofs.PairLemmas.{no_step}
use Rattle.pair_log.proofs.pair.PairLog.settle.Goals as goal

pub returns-in-Nothing-clause-any_moment : goal.returns-in-Nothing-clause-any_moment
returns-in-Nothing-clause-any_moment g c =
    let pair : PlainPair g.row.D.Denot = record { active = c.self.inside.active; standby = c.self.inside.standby; side = c.self.inside.side; epoch = c.self.inside.epoch; doubt = c.self.inside.doubt; past = [] } in
    rw (← c.self.view_is) (λ told. no_step g.D.Disk.state (IsEither pair.active.payloads (after_doubt pair)) _ _)
