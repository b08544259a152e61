use Rattle.std.proofs.Common.{◌≡◌, ◌≤◌, ◌+◌, ◌++◌, length, take, drop, map}
use Rattle.std.specs.List.{filter_map}
use Rattle.std.specs.Borrow.{Bor}
use Rattle.first_topic_name.specs.StoredMessage.{StoredMessage}
use Rattle.first_shard_terms.specs.SweepOrder.{sweep_after}
use Rattle.first_session_core.specs.Pump.{Due, batch_within}
use Rattle.first_session_core.specs.SessionView.{sweep_of, reader_of}
use Rattle.first_session_core.proofs.pumping.fill_batch.Given as goal

-- what is issued so far and the batch of what is left are the whole batch
abbrev pub invariant-loop-message : goal.invariant-loop-message
invariant-loop-message l =
    let messages = map (λ (m : Bor StoredMessage). m.now) l.run in
    let r = reader_of l.client l.limit l.subscription in
    let rest = drop l.message-index messages in
    let left = batch_within r l.next1 l.next2 l.room rest in
    let whole = batch_within r l.first1 l.first2 l.bytes messages in
    record {
      few1 : l.next1 ≤ l.first1 + l.message-index;
      few2 : l.next2 ≤ l.first2 + l.message-index;
      entries : l.issued.entries.items ++ map (λ (d : Due). d.entry) left ≡ l.fn.issued.entries.items ++ map (λ (d : Due). d.entry) whole;
      packets : l.issued.packets.items ++ filter_map (λ (d : Due). d.packet) left ≡ l.fn.issued.packets.items ++ filter_map (λ (d : Due). d.packet) whole;
      sweep : sweep_after (sweep_of l.issued.base l.issued.target l.issued.position) (take (length left) rest) ≡ sweep_after (sweep_of l.fn.issued.base l.fn.issued.target l.fn.issued.position) (take (length whole) messages);
    }
