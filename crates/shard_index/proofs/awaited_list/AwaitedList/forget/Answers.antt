use Rattle.shard_index.proofs.NotedLemmas.{noted_forgotten}
use Rattle.shard_index.proofs.awaited_list.AwaitedList.forget.Goals as goal

pub invariant_of-self : goal.invariant_of-self
invariant_of-self c =
    noted_forgotten c.args.publisher.now.name c.args.publisher.now.incarnation c.self.inside.order.keys c.forget_in.new.awaited.keys
    c.self.inside.noted.entries c.unnote_all.new.noted.entries c.self.invariant c.unnote_all.ensures c.forget_in.ensures
