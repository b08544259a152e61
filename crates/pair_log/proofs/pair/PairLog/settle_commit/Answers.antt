use Rattle.std.proofs.Common.{IsTrue, subst, sym, [], ◌≡◌, ap, ◌∙◌, length}
use Rattle.gated_log.specs.PlainLog.{PlainLog}
use Rattle.pair_log.specs.declared.doubt.Doubt.TheVariants.{Commit}
use Rattle.pair_log.specs.PlainPair.{IsEither, PlainPair, after_doubt}
use Rattle.pair_log.proofs.PairLemmas.{one_step, pair_has}
use Rattle.pair_log.proofs.SettleLemmas.{active_moment, settled_later, settled_pair, settled_some}
use Rattle.pair_log.proofs.pair.PairLog.settle_commit.Goals as goal

pub invariant_of-self-2 : goal.invariant_of-self-2
invariant_of-self-2 g c =
    let doubt : c.self.inside.doubt ≡ Commit = ap (λ (v : PlainPair g.row.D.Denot). v.doubt) c.self.view_is ∙ c.requires in
    settled_pair g.D.Disk.state (record { active = c.self.inside.active; standby = c.self.inside.standby; side = c.self.inside.side; epoch = c.self.inside.epoch; doubt = c.self.inside.doubt; past = [] })
    c.settle.new.self c.self.invariant doubt
    (settled_some c.in_ok-settled.settled (length c.self.inside.active.payloads) (length c.settle.new.self.payloads) c.in_ok-settled.ensures.in_count (λ e. ap (λ (l : PlainLog g.row.D.Denot). length l.payloads) (c.in_ok-settled.ensures.out_stays e)) c.self.invariant.some)
    c.in_ok-settled.ensures.rests c.settle.ensures.run.tells
    (λ told. settled_later c.in_ok-settled.settled c.self.inside.active.standing c.self.inside.active.payloads c.settle.new.self.payloads
    (λ e. c.in_ok-settled.ensures.in_after e told.0) (λ e. ap (λ (l : PlainLog g.row.D.Denot). l.payloads) (c.in_ok-settled.ensures.out_stays e)))
    (λ told. c.settle.ensures.images (subst IsTrue (sym c.settle.ensures.run.tells) told.0))

pub returns-in_err-settled-clause-any_moment : goal.returns-in_err-settled-clause-any_moment
returns-in_err-settled-clause-any_moment g c =
    let pair : PlainPair g.row.D.Denot = record { active = c.self.inside.active; standby = c.self.inside.standby; side = c.self.inside.side; epoch = c.self.inside.epoch; doubt = c.self.inside.doubt; past = [] } in
    rw (← c.self.view_is) (λ told.
    one_step g.D.Disk.state (IsEither pair.active.payloads (after_doubt pair)) _ _ _ _ c.recorded-self-inside.ensures
    (active_moment g.D.Disk.state pair c.settle.new.self.disk c.self.invariant told
    (c.settle.ensures.any_moment told.0).each (λ b left. g.met.D.Disk.only_now c.self.inside.standby.disk b left)))

pub returns-clause-any_moment : goal.returns-clause-any_moment
returns-clause-any_moment g c =
    let pair : PlainPair g.row.D.Denot = record { active = c.self.inside.active; standby = c.self.inside.standby; side = c.self.inside.side; epoch = c.self.inside.epoch; doubt = c.self.inside.doubt; past = [] } in
    rw (← c.self.view_is) (λ told.
    one_step g.D.Disk.state (IsEither pair.active.payloads (after_doubt pair)) _ _ _ _ c.recorded-self-inside.ensures
    (active_moment g.D.Disk.state pair c.settle.new.self.disk c.self.invariant told
    (c.settle.ensures.any_moment told.0).each (λ b left. g.met.D.Disk.only_now c.self.inside.standby.disk b left)))

pub returns-clause-images : goal.returns-clause-images
returns-clause-images g c = λ told. pair_has g.D.Disk.state _ (invariant_of-self-2 g c) told
