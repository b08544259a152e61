use Rattle.std.proofs.Common.{◌≡◌, ◌≤◌, length, take, map}
use Rattle.std.specs.Prelude.{filter}
use Rattle.std.specs.Borrow.{Bor}
use Rattle.first_topic_name.specs.StoredMessage.{StoredMessage}
use Rattle.first_shard_terms.specs.Wanted.{is_wanted}
use Rattle.first_session_core.proofs.sweep.find_wanted.Given as goal

-- the wanted messages so far, at most the limit
abbrev pub invariant-loop-message : goal.invariant-loop-message
invariant-loop-message l = record {
  few : length l.run.items ≤ l.limit;
  found : map (λ (m : Bor StoredMessage). m.now) l.run.items ≡ filter (is_wanted l.wish l.start) (take l.message-index l.stretch);
}
