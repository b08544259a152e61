use Rattle.std.proofs.Common.{List, ℕ, sym, ap, ◌∙◌, arith}
use Rattle.std.specs.Str.{bytes_eq}
use Rattle.broker_main.proofs.Places.{session_here, no_session}
use Rattle.broker_main.proofs.finding.place_of_session.Goals as goal

pub returns-then-is-clause-place : goal.returns-then-is-clause-place
returns-then-is-clause-place c =
    session_here c.args.sessions.now c.args.client.now c.loop-i.i c.index-sessions-i.result c.loop-i-test.true c.index-sessions-i.is
    (ap (λ (x : List ℕ). bytes_eq x c.args.client.now) (sym c.client.ensures) ∙ sym c.is.ensures ∙ c.if-is.true) c.loop-i.invariant

pub returns-clause-place : goal.returns-clause-place
returns-clause-place c = no_session c.args.sessions.now c.args.client.now (λ j d l. c.loop-i.invariant j d (omega arith))
