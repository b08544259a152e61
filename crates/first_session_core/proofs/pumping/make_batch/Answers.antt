use Rattle.std.proofs.Common.{ℕ, ◌+◌, ◌-◌, ◌∷◌, map, sym, ap, ◌∙◌}
use Rattle.std.specs.Borrow.{Bor}
use Rattle.first_topic_name.specs.StoredMessage.{StoredMessage}
use Rattle.first_session_terms.specs.Entry.{count2}
use Rattle.first_session_core.specs.Pump.{Due, batch_within, batch_of}
use Rattle.first_session_core.specs.SessionView.{reader_of}
use Rattle.first_session_core.specs.IssuedView.{due_of_fields}
use Rattle.first_session_core.proofs.Batches.{first_of_batch, all_entries, all_packets, all_sweep, sweep_at, same_issue}
use Rattle.first_session_core.proofs.pumping.make_batch.Goals as goal

pub returns : goal.returns
returns c =
    let now : Bor StoredMessage → StoredMessage = λ m. m.now in
    let messages = map now c.args.run.now in
    let left = map now c.in-Some.rest.now in
    let split = ap (map now) c.in-Some.ensures.cases.0 in
    let r = reader_of c.args.client.now c.args.limit c.args.subscription.now in
    let d : Due = due_of_fields c.in_ok-due.due in
    let whole = ap (batch_of r c.args.next1 c.args.next2) split
    ∙ first_of_batch d r c.args.next1 c.args.next2 c.in_ok-due.due.size c.in-Some.message.now.now left c.in_ok-due.ensures.due c.in_ok-due.ensures.size
    ∙ ap (λ (a : ℕ). d ∷ batch_within r (c.args.next1 + a) (c.args.next2 + count2 d.entry.kind) (2097152 - c.in_ok-due.due.size) left) (sym c.one1.ensures.value)
    ∙ ap (λ (a : ℕ). d ∷ batch_within r (c.args.next1 + c.one1.result) (c.args.next2 + a) (2097152 - c.in_ok-due.due.size) left) (sym c.one2.ensures.value)
    ∙ ap (λ (a : ℕ). d ∷ batch_within r (c.args.next1 + c.one1.result) (c.args.next2 + c.one2.result) a left) (sym c.saturating_sub-room.ensures) in
    let added = c.in_ok-add_due.ensures in
    let filled = c.in_ok-fill_batch.ensures in
    same_issue _ _ _ _ _ _
    (all_entries _ _ _ d _ _ whole c.new.ensures.items added.entries filled.entries)
    (all_sweep _ _ _ d _ _ _ _ _ whole split (sweep_at _ _ _ _ _ _ added.place.0 added.place.1 added.place.2) filled.sweep)
    (all_packets _ _ _ d _ _ whole c.new-2.ensures.items added.packets filled.packets)
