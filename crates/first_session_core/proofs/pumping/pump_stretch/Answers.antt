use Rattle.std.proofs.Common.{◌≡◌, ◌<◌, ◌+◌, List, length, map, take, sym, ap, ◌∙◌, arith}
use Rattle.std.specs.Prelude.{filter}
use Rattle.std.specs.Borrow.{Bor}
use Rattle.std.proofs.lemmas.Bool.{eqb-false, eqb-true}
use Rattle.first_topic_name.specs.StoredMessage.{StoredMessage}
use Rattle.first_shard_terms.specs.Wanted.{is_wanted}
use Rattle.first_session_core.specs.SessionView.{sweep_of}
use Rattle.first_session_core.proofs.Batches.{now_of}
use Rattle.first_session_core.proofs.Stretches.{nothing_issued, something_issued, made}
use Rattle.first_session_core.proofs.pumping.pump_stretch.Goals as goal

pub returns-then-is_empty : goal.returns-then-is_empty
returns-then-is_empty c =
    let s = c.args.s.now in
    let found = c.in_ok-run.ensures ∙ ap (λ (l : List StoredMessage). take c.args.limit (filter (is_wanted s.filter s.start) l)) c.stretch_of-found.ensures in
    let empty : c.in_ok-run.run'.len ≡ 0 = eqb-true _ _ (sym c.is_empty.ensures ∙ c.if-is_empty.true) in
    nothing_issued c.args.session.now c.args.connection.now c.args.messages.now c.args.limit s c.args.stretch.0 c.args.stretch.1 c.args.stretch.2 c.in_ok-run.run'.items c.requires.offsets c.requires.some found (omega (arith, empty, c.in_ok-run.run'.ok.0))

pub returns : goal.returns
unfolding made
returns c =
    let s = c.args.s.now in
    let run = c.in_ok-run.run' in
    let found = c.in_ok-run.ensures ∙ ap (λ (l : List StoredMessage). take c.args.limit (filter (is_wanted s.filter s.start) l)) c.stretch_of-found.ensures in
    let full : run.len ≡ 0 → ⊥ = eqb-false _ _ (sym c.is_empty.ensures ∙ c.if-is_empty.false) in
    let some : 0 < length run.items = omega (arith, full, run.ok.0) in
    something_issued c.args.session.now c.args.connection.now c.args.messages.now c.args.limit s c.args.stretch.0 c.args.stretch.1 c.args.stretch.2 run.items c.client-client.result.now c.packet_limit-most.result c.issued1-next1.result c.issued2-next2.result _ c.requires.offsets found some c.client-client.ensures c.packet_limit-most.ensures c.issued1-next1.ensures.value c.issued2-next2.ensures.value
    (c.in_ok-issued.ensures ∙ ap (λ (l : List (Bor StoredMessage)). made c.client-client.result.now c.packet_limit-most.result (c.issued1-next1.result + 1) (c.issued2-next2.result + 1) (map now_of l) s (sweep_of c.args.stretch.0 c.args.stretch.1 c.args.stretch.2)) c.deref.ensures.value)
