use Rattle.std.proofs.Common.{◌≡◌, length, sym, ap, ◌∙◌}
use Rattle.std.proofs.lemmas.List.{length-map}
use Rattle.std.specs.Borrow.{Bor}
use Rattle.first_topic_name.specs.StoredMessage.{StoredMessage}
use Rattle.first_shard_terms.specs.Wanted.{is_wanted}
use Rattle.first_session_core.proofs.Fronts.{take_filter}
use Rattle.first_session_core.proofs.sweep.find_wanted.Goals as goal

pub returns-then-len-limit : goal.returns-then-len-limit
returns-then-len-limit c =
    let found = c.loop-message.invariant.found in
    let long : length c.loop-message.run.items ≡ c.args.limit = sym c.loop-message.run.ok.0 ∙ sym c.len.ensures ∙ c.if-len-limit.true in
    found ∙ sym (take_filter (is_wanted c.args.wish.now c.args.start) c.args.stretch.now c.loop-message.message-index c.args.limit (sym (ap length found) ∙ length-map c.loop-message.run.items (λ (m : Bor StoredMessage). m.now) ∙ long))
