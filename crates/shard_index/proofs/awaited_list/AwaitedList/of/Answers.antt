use Rattle.shard_index.proofs.ListLemmas.{added_next}
use Rattle.shard_index.proofs.awaited_list.AwaitedList.of.Goals as goal

pub loop-triple-preserved : goal.loop-triple-preserved
loop-triple-preserved c =
    added_next c.args.list.now c.loop-triple.triple-index c.loop-triple.awaited c.add.new.self c.triple-item.result c.in_ok-copy.field-0 c.in_ok-add.field-0
    c.requires c.loop-triple-test.true c.triple-item.is c.in_ok-copy.ensures c.loop-triple.invariant c.in_ok-add.ensures.added c.in_ok-add.ensures.list
