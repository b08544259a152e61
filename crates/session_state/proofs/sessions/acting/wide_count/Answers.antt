use Rattle.std.proofs.Common.{◌≡◌, ◌≤◌, suc, length, filter, if◌then◌else◌, ◌∷◌, sym, ap, ◌∙◌, arith}
use Rattle.topic_model.specs.Profile.{whole}
use Rattle.session_state.specs.KeptSession.{sessions_in}
use Rattle.session_state.specs.KeptFits.{is_wide, wide_count}
use Rattle.session_state.specs.FilterLaws.{filter_shorter}
use Rattle.session_state.proofs.sessions.acting.wide_count.Goals as goal

-- there is one more, and no more than sessions
pub overflow_add-count : goal.overflow_add-count
overflow_add-count c =
    let so_far = c.loop-session.invariant in
    let rest = filter (is_wide whole) c.next.new.self in
    let one : wide_count whole c.loop-session.session-iterator ≡ suc (length rest) =
    ap (wide_count whole) c.in-Some.ensures.steps
    ∙ ap (λ b. length (if b then c.in-Some.session.now ∷ rest else rest)) (sym c.is_wide.ensures ∙ c.if-is_wide.true) in
    let less : wide_count whole (sessions_in c.args.map.now.entries) ≤ length (sessions_in c.args.map.now.entries) = filter_shorter (is_wide whole) (sessions_in c.args.map.now.entries) in
    let long = ap length c.values-session-items.ensures.rest in
    let count = c.values-session-items.ensures.len in
    let fits = c.values-session-items.ensures.fits in
    omega arith
