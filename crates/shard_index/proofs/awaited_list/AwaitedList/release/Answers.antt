use Rattle.shard_index.proofs.NotedLemmas.{noted_released}
use Rattle.shard_index.proofs.awaited_list.AwaitedList.release.Goals as goal

pub invariant_of-self : goal.invariant_of-self
invariant_of-self c =
    noted_released c.args.released.now c.self.inside.order.keys c.release_in.new.awaited.keys c.self.inside.noted.entries c.unnote.new.noted.entries
    c.self.invariant c.unnote.ensures c.release_in.ensures
