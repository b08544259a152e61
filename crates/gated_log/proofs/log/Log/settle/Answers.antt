use Rattle.std.proofs.Common.{◌≡◌, ◌⊎◌, ◌+◌, ◌<◌, IsTrue, arith, ap, ◌∙◌, subst}
use Rattle.std.specs.Prelude.{true}
use Rattle.outside.specs.DiskModel.{leaves_only_weaker}
use Rattle.gated_log.specs.PlainLog.{PlainLog, doubted_length, is_in_doubt}
use Rattle.gated_log.specs.LogView.{standing_of}
use Rattle.gated_log.proofs.LogLemmas.{log_has, log_still_has}
use Rattle.gated_log.proofs.SettleLemmas.{in_log, in_told, kept_length, out_log}
use Rattle.gated_log.proofs.log.Log.settle.Goals as goal

pub returns-in_err-gate-clause-any_moment : goal.returns-in_err-gate-clause-any_moment
returns-in_err-gate-clause-any_moment g c = rw (← c.self.view_is) (λ told.
    leaves_only_weaker _ _ _ _ (c.read_gate.ensures.any_moment told) (log_has _ _ _ _ _ _ _ _ c.self.invariant.0 told))

pub returns-in_err-gate-clause-images : goal.returns-in_err-gate-clause-images
returns-in_err-gate-clause-images g c = λ told.
    log_still_has _ _ _ _ _ _ _ _ _ _ c.self.invariant.0 (subst IsTrue c.read_gate.ensures.run.tells told) c.read_gate.ensures.writes_none.seen c.read_gate.ensures.writes_none.images

pub invariant_of-self-then-not-is_there : goal.invariant_of-self-then-not-is_there
invariant_of-self-then-not-is_there g c =
    let doubt : is_in_doubt (standing_of c.self.inside.standing) ≡ true = ap (λ (v : PlainLog g.row.D.Denot). is_in_doubt v.standing) c.self.view_is ∙ c.requires.in_doubt in
    let count : c.length_in_doubt-length.result ≡ doubted_length (standing_of c.self.inside.standing) = c.length_in_doubt-length.ensures ∙ kept_length c.self.inside.standing c.self.invariant.1 in
    let sized : c.size.result ≡ (g.D.Disk.state c.self.inside.disk).size = c.size.ensures ∙ c.read_gate.ensures.writes_none.size in
    let why : (c.in_ok-gate.gate ≡ 0) ⊎ ((g.D.Disk.state c.self.inside.disk).size < c.self.inside.end + (6 + doubted_length (standing_of c.self.inside.standing))) =
    subst (λ n. (c.in_ok-gate.gate ≡ 0) ⊎ ((g.D.Disk.state c.self.inside.disk).size < c.self.inside.end + (6 + n))) count
    (subst (λ n. (c.in_ok-gate.gate ≡ 0) ⊎ (n < c.self.inside.end + (6 + c.length_in_doubt-length.result))) sized (c.is_there.ensures.not_there c.if-not-is_there.true)) in (
      out_log _ _ _ _ _ _ _ _ _ _ _ _ c.in_ok-gate.gate (standing_of c.self.inside.standing) c.self.invariant.0 doubt c.in_ok-gate.ensures.gate why (g.met.D.Disk.sized c.self.inside.disk)
          (λ told. c.read_gate.ensures.writes_none.seen) (λ told. c.in_ok-gate.ensures.durable) c.read_gate.ensures.writes_none.size c.read_gate.ensures.run.tells,
      tt,
    )

pub returns-then-not-is_there-clause-any_moment : goal.returns-then-not-is_there-clause-any_moment
returns-then-not-is_there-clause-any_moment g c = rw (← c.self.view_is) (λ told.
    leaves_only_weaker _ _ _ _ (c.read_gate.ensures.any_moment told) (log_has _ _ _ _ _ _ _ _ c.self.invariant.0 told))

pub returns-then-not-is_there-clause-images : goal.returns-then-not-is_there-clause-images
returns-then-not-is_there-clause-images g c = λ told. log_has _ _ _ _ _ _ _ _ (invariant_of-self-then-not-is_there g c).0 told

pub invariant_of-self-2 : goal.invariant_of-self-2
invariant_of-self-2 g c =
    let doubt : is_in_doubt (standing_of c.self.inside.standing) ≡ true = ap (λ (v : PlainLog g.row.D.Denot). is_in_doubt v.standing) c.self.view_is ∙ c.requires.in_doubt in
    let count : c.length_in_doubt-length.result ≡ doubted_length (standing_of c.self.inside.standing) = c.length_in_doubt-length.ensures ∙ kept_length c.self.inside.standing c.self.invariant.1 in (
      rw (c.add_span.ensures.spans, c.add_span.ensures.end, count)
          (in_log _ _ _ _ _ _ _ _ _ _ _ _ c.in_ok-gate.gate (standing_of c.self.inside.standing) c.self.invariant.0 doubt c.in_ok-gate.ensures.gate (c.is_there.ensures.there c.if-not-is_there.false).0
          (omega (arith, count, c.size.ensures, (c.is_there.ensures.there c.if-not-is_there.false).1))
          (λ told. c.read_gate.ensures.writes_none.seen) (λ told. c.in_ok-gate.ensures.durable) c.read_gate.ensures.run.tells),
      tt,
    )

pub returns-clause-in_after : goal.returns-clause-in_after
returns-clause-in_after g c =
    let doubt : is_in_doubt (standing_of c.self.inside.standing) ≡ true = ap (λ (v : PlainLog g.row.D.Denot). is_in_doubt v.standing) c.self.view_is ∙ c.requires.in_doubt in
    let count : c.length_in_doubt-length.result ≡ doubted_length (standing_of c.self.inside.standing) = c.length_in_doubt-length.ensures ∙ kept_length c.self.inside.standing c.self.invariant.1 in
    λ e. rw (← c.self.view_is, c.add_span.ensures.spans, count) (λ told.
    (in_told _ _ _ _ _ _ _ _ _ c.in_ok-gate.gate (standing_of c.self.inside.standing) c.self.invariant.0 told doubt (c.in_ok-gate.ensures.gate told)
    (c.is_there.ensures.there c.if-not-is_there.false).0 c.read_gate.ensures.writes_none.seen c.in_ok-gate.ensures.durable).list)

pub returns-clause-any_moment : goal.returns-clause-any_moment
returns-clause-any_moment g c = rw (← c.self.view_is) (λ told.
    leaves_only_weaker _ _ _ _ (c.read_gate.ensures.any_moment told) (log_has _ _ _ _ _ _ _ _ c.self.invariant.0 told))

pub returns-clause-images : goal.returns-clause-images
returns-clause-images g c = λ told. log_has _ _ _ _ _ _ _ _ (invariant_of-self-2 g c).0 told
