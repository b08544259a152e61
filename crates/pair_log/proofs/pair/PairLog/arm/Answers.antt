use Rattle.std.proofs.Common.{[]}
use Rattle.pair_log.specs.PlainPair.{IsEither, PlainPair, after_doubt}
use Rattle.pair_log.proofs.PairLemmas.{one_step}
use Rattle.pair_log.proofs.RewriteLemmas.{still_moment}
use Rattle.pair_log.proofs.pair.PairLog.arm.Goals as goal

pub returns-in_err-arm-clause-any_moment : goal.returns-in_err-arm-clause-any_moment
returns-in_err-arm-clause-any_moment g c =
    let pair : PlainPair g.row.D.Denot = record { active = c.self.inside.active; standby = c.self.inside.standby; side = c.self.inside.side; epoch = c.self.inside.epoch; doubt = c.self.inside.doubt; past = [] } in
    rw (← c.self.view_is) (λ told.
    one_step g.D.Disk.state (IsEither pair.active.payloads (after_doubt pair)) _ _ _ _ c.recorded-self-inside.ensures
    (still_moment g.D.Disk.state pair c.arm.new.self.disk c.self.inside.standby.disk c.self.invariant told (λ a left. g.met.D.Disk.only_now c.self.inside.active.disk a (c.arm.ensures.nothing_else.moments _ a left)) (λ b left. g.met.D.Disk.only_now c.self.inside.standby.disk b left)))

pub returns-in_ok-arm-clause-any_moment : goal.returns-in_ok-arm-clause-any_moment
returns-in_ok-arm-clause-any_moment g c =
    let pair : PlainPair g.row.D.Denot = record { active = c.self.inside.active; standby = c.self.inside.standby; side = c.self.inside.side; epoch = c.self.inside.epoch; doubt = c.self.inside.doubt; past = [] } in
    rw (← c.self.view_is) (λ told.
    one_step g.D.Disk.state (IsEither pair.active.payloads (after_doubt pair)) _ _ _ _ c.recorded-self-inside.ensures
    (still_moment g.D.Disk.state pair c.arm.new.self.disk c.self.inside.standby.disk c.self.invariant told (λ a left. g.met.D.Disk.only_now c.self.inside.active.disk a (c.arm.ensures.nothing_else.moments _ a left)) (λ b left. g.met.D.Disk.only_now c.self.inside.standby.disk b left)))

pub returns-in_err-arm-2-clause-any_moment : goal.returns-in_err-arm-2-clause-any_moment
returns-in_err-arm-2-clause-any_moment g c =
    let pair : PlainPair g.row.D.Denot = record { active = c.self.inside.active; standby = c.self.inside.standby; side = c.self.inside.side; epoch = c.self.inside.epoch; doubt = c.self.inside.doubt; past = [] } in
    rw (← c.self.view_is) (λ told.
    one_step g.D.Disk.state (IsEither pair.active.payloads (after_doubt pair)) _ _ _ _ c.recorded-self-inside.ensures
    (still_moment g.D.Disk.state pair c.self.inside.active.disk c.arm-else-disk-eq.new.self.disk c.self.invariant told (λ a left. g.met.D.Disk.only_now c.self.inside.active.disk a left) (λ b left. g.met.D.Disk.only_now c.self.inside.standby.disk b (c.arm-else-disk-eq.ensures.nothing_else.moments _ b left))))

pub returns-in_ok-arm-2-clause-any_moment : goal.returns-in_ok-arm-2-clause-any_moment
returns-in_ok-arm-2-clause-any_moment g c =
    let pair : PlainPair g.row.D.Denot = record { active = c.self.inside.active; standby = c.self.inside.standby; side = c.self.inside.side; epoch = c.self.inside.epoch; doubt = c.self.inside.doubt; past = [] } in
    rw (← c.self.view_is) (λ told.
    one_step g.D.Disk.state (IsEither pair.active.payloads (after_doubt pair)) _ _ _ _ c.recorded-self-inside.ensures
    (still_moment g.D.Disk.state pair c.self.inside.active.disk c.arm-else-disk-eq.new.self.disk c.self.invariant told (λ a left. g.met.D.Disk.only_now c.self.inside.active.disk a left) (λ b left. g.met.D.Disk.only_now c.self.inside.standby.disk b (c.arm-else-disk-eq.ensures.nothing_else.moments _ b left))))
