use Rattle.std.proofs.Common.{subst}
use Rattle.shard_model.specs.Lists.{IsList}
use Rattle.shard_index.specs.KeptIndex.{KeptIndex, list_of}
use Rattle.plain_shards.specs.Calls.{TicksLater}
use Rattle.plain_shards.specs.KeptShards.{asked_of}
use Rattle.plain_shards.proofs.LaterLemmas.{ticked}
use Rattle.plain_shards.proofs.ListLemmas.{moved_same, moved_set}
use Rattle.plain_shards.proofs.log_calls.tick_at.Goals as goal

pub returns : goal.returns
returns g c =
    let logs = c.args.logs.now.items in
    let log = c.index_mut-log.result.now in
    let R = TicksLater g.D.Disk.state c.tick.result in
    let order = subst (λ (i : KeptIndex). IsList (list_of i)) c.index.ensures c.facts.ensures.order in
    let moved = moved_set R logs c.args.shard log c.tick.new.self c.requires.place c.index_mut-log.ensures.value (ticked g.D.Disk.state log c.tick.new.self order c.tick.result c.tick.ensures.ticks) in
    record { moved = moved; asked = moved_same asked_of R (λ old new r. r.ticks.part.asked) c.args.shard logs _ moved }
