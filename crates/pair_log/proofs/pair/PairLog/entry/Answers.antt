use Rattle.std.proofs.Common.{rules, [], ◌++◌, ap, ◌∙◌}
use Rattle.outside.specs.Results.{on_ok_then}
use Rattle.pair_log.specs.PlainPair.{IsEither, PlainPair, after_doubt}
use Rattle.pair_log.proofs.PairLemmas.{one_step, pair_has, entry_is}
use Rattle.pair_log.proofs.SettleLemmas.{active_moment}
use Rattle.pair_log.proofs.pair.PairLog.entry.Goals as goal

pub returns-clause-entry : goal.returns-clause-entry
returns-clause-entry g c = rw (← c.self.view_is) (on_ok_then c.entry.result (λ entry told. entry told.0 ∙ ap (λ l. c.args.out.now.items ++ l) (entry_is c.self.inside.active.payloads c.args.k c.self.invariant.some)) c.entry.ensures.entry)

pub returns-clause-any_moment : goal.returns-clause-any_moment
returns-clause-any_moment g c =
    let pair : PlainPair g.row.D.Denot = record { active = c.self.inside.active; standby = c.self.inside.standby; side = c.self.inside.side; epoch = c.self.inside.epoch; doubt = c.self.inside.doubt; past = [] } in
    rw (← c.self.view_is) (λ told.
    one_step g.D.Disk.state (IsEither pair.active.payloads (after_doubt pair)) _ _ _ _ c.recorded-self-inside.ensures
    (active_moment g.D.Disk.state pair c.entry.new.self.disk c.self.invariant told
    (c.entry.ensures.any_moment told.0).each (λ b left. g.met.D.Disk.only_now c.self.inside.standby.disk b left)))

pub invariant_of-self : goal.invariant_of-self
invariant_of-self g c = search rules

pub returns-clause-images : goal.returns-clause-images
returns-clause-images g c = λ told. pair_has g.D.Disk.state _ (invariant_of-self g c) told
