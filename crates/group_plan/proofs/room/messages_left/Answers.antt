use Rattle.std.proofs.Common.{ap, arith}
use Rattle.shard_model.specs.ShardList.{Cut}
use Rattle.shard_index.specs.KeptIndex.{list_of}
use Rattle.shard_index.specs.SoundLaws.{newest_first, newest_long}
use Rattle.group_plan.proofs.room.messages_left.Goals as goal

pub overflow_sub-next : goal.overflow_sub-next
overflow_sub-next c =
    let first = ap (λ (cut : Cut). cut.first) c.newest-newest.ensures in
    let firsts = newest_first (list_of c.args.index.now) c.facts.ensures.order in
    omega (arith, first, firsts.1, c.next_offset-next.ensures)

pub returns : goal.returns
returns c =
    let first = ap (λ (cut : Cut). cut.first) c.newest-newest.ensures in
    let messages = ap (λ (cut : Cut). cut.messages) c.newest-newest.ensures in
    let long = newest_long (list_of c.args.index.now) c.facts.ensures.order in
    omega (arith, first, messages, long, c.next_offset-next.ensures, c.from.ensures, c.saturating_sub.ensures)
