use Rattle.std.proofs.Common.{IsTrue, subst, sym, [], rules, ◌≡◌, arith, ap, ◌∙◌, Ok}
use Rattle.gated_log.specs.declared.settled.Settled.TheVariants.{In}
use Rattle.pair_log.specs.declared.doubt.Doubt.TheVariants.{Rewrite}
use Rattle.pair_log.specs.PlainPair.{IsEither, PlainPair, after_doubt}
use Rattle.pair_log.proofs.PairLemmas.{one_step}
use Rattle.pair_log.proofs.TurnLemmas.{rewrite_moment, rewrite_moment_turned, turned_pair}
use Rattle.pair_log.proofs.pair.PairLog.settle_rewrite.Goals as goal

pub returns-in_err-settled-clause-any_moment : goal.returns-in_err-settled-clause-any_moment
returns-in_err-settled-clause-any_moment g c =
    let doubt : c.self.inside.doubt ≡ Rewrite = ap (λ (v : PlainPair g.row.D.Denot). v.doubt) c.self.view_is ∙ c.requires in
    let pair : PlainPair g.row.D.Denot = record { active = c.self.inside.active; standby = c.self.inside.standby; side = c.self.inside.side; epoch = c.self.inside.epoch; doubt = c.self.inside.doubt; past = [] } in
    rw (← c.self.view_is) (λ told.
    one_step g.D.Disk.state (IsEither pair.active.payloads (after_doubt pair)) _ _ _ _ c.recorded-self-inside.ensures
    (rewrite_moment g.D.Disk.state pair c.settle.new.self.disk c.self.invariant told doubt
    (c.settle.ensures.any_moment told.1).each (λ a left. g.met.D.Disk.only_now c.self.inside.active.disk a left)))

pub invariant_of-self-then-eq : goal.invariant_of-self-then-eq
invariant_of-self-then-eq g c =
    let doubt : c.self.inside.doubt ≡ Rewrite = ap (λ (v : PlainPair g.row.D.Denot). v.doubt) c.self.view_is ∙ c.requires in
    let is_in : c.in_ok-settled.settled ≡ In = search rules in
    rw (c.swap_logs.ensures.active, c.swap_logs.ensures.standby, c.swap_logs.ensures.side, c.swap_logs.ensures.epoch)
    (turned_pair g.D.Disk.state (record { active = c.self.inside.active; standby = c.self.inside.standby; side = c.self.inside.side; epoch = c.self.inside.epoch; doubt = c.self.inside.doubt; past = [] })
    c.settle.new.self c.self.invariant doubt (omega (arith, c.in_ok-settled.ensures.in_count (ap Ok is_in))) c.in_ok-settled.ensures.rests c.settle.ensures.run.tells
    (λ told. c.in_ok-settled.ensures.in_after (ap Ok is_in) told.1) (λ told. c.settle.ensures.images (subst IsTrue (sym c.settle.ensures.run.tells) told.1)))

pub returns-then-eq-clause-any_moment : goal.returns-then-eq-clause-any_moment
returns-then-eq-clause-any_moment g c =
    let doubt : c.self.inside.doubt ≡ Rewrite = ap (λ (v : PlainPair g.row.D.Denot). v.doubt) c.self.view_is ∙ c.requires in
    let pair : PlainPair g.row.D.Denot = record { active = c.self.inside.active; standby = c.self.inside.standby; side = c.self.inside.side; epoch = c.self.inside.epoch; doubt = c.self.inside.doubt; past = [] } in
    rw (← c.self.view_is, c.swap_logs.ensures.active, c.swap_logs.ensures.standby, c.swap_logs.ensures.side) (λ told.
    one_step g.D.Disk.state (IsEither pair.active.payloads (after_doubt pair)) _ _ _ _ c.recorded-self-inside.ensures
    (rewrite_moment_turned g.D.Disk.state pair c.settle.new.self.disk c.self.invariant told doubt
    (c.settle.ensures.any_moment told.1).each (λ a left. g.met.D.Disk.only_now c.self.inside.active.disk a left)))

pub returns-else-eq-clause-any_moment : goal.returns-else-eq-clause-any_moment
returns-else-eq-clause-any_moment g c =
    let doubt : c.self.inside.doubt ≡ Rewrite = ap (λ (v : PlainPair g.row.D.Denot). v.doubt) c.self.view_is ∙ c.requires in
    let pair : PlainPair g.row.D.Denot = record { active = c.self.inside.active; standby = c.self.inside.standby; side = c.self.inside.side; epoch = c.self.inside.epoch; doubt = c.self.inside.doubt; past = [] } in
    rw (← c.self.view_is) (λ told.
    one_step g.D.Disk.state (IsEither pair.active.payloads (after_doubt pair)) _ _ _ _ c.recorded-self-inside.ensures
    (rewrite_moment g.D.Disk.state pair c.settle.new.self.disk c.self.invariant told doubt
    (c.settle.ensures.any_moment told.1).each (λ a left. g.met.D.Disk.only_now c.self.inside.active.disk a left)))
