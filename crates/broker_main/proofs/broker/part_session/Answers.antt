use Rattle.std.proofs.Common.{◌<◌, ◌≤◌, ℕ, List, length, set, ap, subst, ◌∙◌, arith}
use Rattle.first_session_terms.specs.PlainSession.{PlainSession}
use Rattle.first_session_terms.specs.Change.{parted_session}
use Rattle.broker_main.specs.BrokerView.{IsSessionPlace}
use Rattle.broker_main.proofs.Places.{parts, parts_none, there, nothing_behind}
use Rattle.broker_main.proofs.broker.part_session.Goals as goal

pub returns-then-at-len : goal.returns-then-at-len
returns-then-at-len c =
    let sessions = c.args.sessions.now.items in
    let at = c.place_of_session-at.result in
    let m = c.index_mut-session.result.now in
    let place = subst (λ (l : List PlainSession). IsSessionPlace l c.args.client.now at) c.deref.ensures.value c.place_of_session-at.ensures.place in
    let within : at < length sessions = omega (arith, c.if-at-len.true, c.len.ensures, c.args.sessions.now.ok.0) in
    let here = there sessions at m within c.index_mut-session.ensures.value in
    ap (set sessions at) (c.part.ensures ∙ ap (λ (n : ℕ). parted_session n 0 m) c.expiry-expiry.ensures) ∙ parts sessions c.args.client.now at m place here

pub returns-else-at-len : goal.returns-else-at-len
returns-else-at-len c =
    let sessions = c.args.sessions.now.items in
    let at = c.place_of_session-at.result in
    let place = subst (λ (l : List PlainSession). IsSessionPlace l c.args.client.now at) c.deref.ensures.value c.place_of_session-at.ensures.place in
    let behind : length sessions ≤ at = omega (arith, c.if-at-len.false, c.len.ensures, c.args.sessions.now.ok.0) in
    parts_none sessions c.args.client.now at place (nothing_behind sessions at behind)
