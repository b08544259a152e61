use Rattle.std.proofs.Common.{rules, ◌≡◌, ◌-◌, ◌^◌, min}
use Rattle.shard_model.specs.Capacity.{store_size}
use Rattle.record_codec.specs.CountLaws.{store_written}
use Rattle.record_codec.proofs.sizes.store_length.Goals as goal

pub returns-clause-written : goal.returns-clause-written
returns-clause-written c = λ has.
    let size : c.saturating_add-4.result ≡ min (store_size c.args.message.now.stored) (2 ^ 64 - 1) = search rules in
    store_written c.args.message.now c.saturating_add-4.result has size
