use Rattle.std.proofs.Common.{ℕ, ◌+◌, ◌-◌, List, ◌∷◌, ◌++◌, map, drop, sym, ap, ◌∙◌, arith}
use Rattle.std.specs.List.{filter_map}
use Rattle.std.specs.Borrow.{Bor}
use Rattle.first_topic_name.specs.StoredMessage.{StoredMessage}
use Rattle.first_session_terms.specs.declared.entry.Entry.{Entry}
use Rattle.first_session_terms.specs.Entry.{count2}
use Rattle.first_mqtt_packet.specs.declared.packet.Packet.{Packet}
use Rattle.first_session_core.specs.Pump.{Due, batch_within}
use Rattle.first_session_core.specs.SessionView.{reader_of}
use Rattle.first_session_core.specs.IssuedView.{due_of_fields}
use Rattle.first_session_core.proofs.Batches.{stops, goes, more_entries, more_packets, more_sweep, sweep_at, drop_run, no_more_entries, no_more_packets, no_more_sweep}
use Rattle.first_session_core.proofs.pumping.fill_batch.Goals as goal

pub returns-then-due-room-clause-entries : goal.returns-then-due-room-clause-entries
returns-then-due-room-clause-entries c =
    let rest = drop_run c.args.run.now c.loop-message.message-index c.message-item.result c.loop-message-test.true c.message-item.is in
    let r = reader_of c.args.client.now c.args.limit c.args.subscription.now in
    let none = ap (batch_within r c.loop-message.next1 c.loop-message.next2 c.loop-message.room) rest
    ∙ stops (due_of_fields c.in_ok-due.due) r c.loop-message.next1 c.loop-message.next2 c.loop-message.room c.in_ok-due.due.size c.message-item.result.now _ c.in_ok-due.ensures.due c.in_ok-due.ensures.size c.if-due-room.true in
    no_more_entries _ _ _ none c.loop-message.invariant.entries

pub returns-then-due-room-clause-packets : goal.returns-then-due-room-clause-packets
returns-then-due-room-clause-packets c =
    let rest = drop_run c.args.run.now c.loop-message.message-index c.message-item.result c.loop-message-test.true c.message-item.is in
    let r = reader_of c.args.client.now c.args.limit c.args.subscription.now in
    let none = ap (batch_within r c.loop-message.next1 c.loop-message.next2 c.loop-message.room) rest
    ∙ stops (due_of_fields c.in_ok-due.due) r c.loop-message.next1 c.loop-message.next2 c.loop-message.room c.in_ok-due.due.size c.message-item.result.now _ c.in_ok-due.ensures.due c.in_ok-due.ensures.size c.if-due-room.true in
    no_more_packets _ _ _ none c.loop-message.invariant.packets

pub returns-then-due-room-clause-sweep : goal.returns-then-due-room-clause-sweep
returns-then-due-room-clause-sweep c =
    let rest = drop_run c.args.run.now c.loop-message.message-index c.message-item.result c.loop-message-test.true c.message-item.is in
    let r = reader_of c.args.client.now c.args.limit c.args.subscription.now in
    let none = ap (batch_within r c.loop-message.next1 c.loop-message.next2 c.loop-message.room) rest
    ∙ stops (due_of_fields c.in_ok-due.due) r c.loop-message.next1 c.loop-message.next2 c.loop-message.room c.in_ok-due.due.size c.message-item.result.now _ c.in_ok-due.ensures.due c.in_ok-due.ensures.size c.if-due-room.true in
    no_more_sweep _ _ _ _ none c.loop-message.invariant.sweep

pub loop-message-preserved : goal.loop-message-preserved
loop-message-preserved c =
    let messages = map (λ (m : Bor StoredMessage). m.now) c.args.run.now in
    let left = drop (c.loop-message.message-index + 1) messages in
    let rest = drop_run c.args.run.now c.loop-message.message-index c.message-item.result c.loop-message-test.true c.message-item.is in
    let r = reader_of c.args.client.now c.args.limit c.args.subscription.now in
    let d : Due = due_of_fields c.in_ok-due.due in
    let room = c.loop-message.room - c.in_ok-due.due.size in
    let went = ap (batch_within r c.loop-message.next1 c.loop-message.next2 c.loop-message.room) rest
    ∙ goes d r c.loop-message.next1 c.loop-message.next2 c.loop-message.room c.in_ok-due.due.size c.message-item.result.now left c.in_ok-due.ensures.due c.in_ok-due.ensures.size c.if-due-room.false
    ∙ ap (λ (a : ℕ). d ∷ batch_within r (c.loop-message.next1 + a) (c.loop-message.next2 + count2 d.entry.kind) room left) (sym c.one1-next1.ensures.value)
    ∙ ap (λ (a : ℕ). d ∷ batch_within r (c.loop-message.next1 + c.one1-next1.result) (c.loop-message.next2 + a) room left) (sym c.one2-next2.ensures.value) in
    let after = batch_within r (c.loop-message.next1 + c.one1-next1.result) (c.loop-message.next2 + c.one2-next2.result) room left in
    let added = c.in_ok-add_due.ensures in
    record {
      few1 = omega (arith, c.one1-next1.ensures.small, c.loop-message.invariant.few1);
      few2 = omega (arith, c.one2-next2.ensures.small, c.loop-message.invariant.few2);
      entries = ap (λ (l : List Entry). l ++ map (λ (x : Due). x.entry) after) added.entries ∙ more_entries _ _ d _ _ went c.loop-message.invariant.entries;
      packets = ap (λ (l : List Packet). l ++ filter_map (λ (x : Due). x.packet) after) added.packets ∙ more_packets _ _ d _ _ went c.loop-message.invariant.packets;
      sweep = more_sweep _ _ _ d _ _ _ _ _ went rest (sweep_at _ _ _ _ _ _ added.place.0 added.place.1 added.place.2) c.loop-message.invariant.sweep;
    }
