use Rattle.std.proofs.Common.{◌≤◌, length, arith}
use Rattle.shard_index.specs.KeptIndex.{KeptIndex}
use Rattle.shard_index.proofs.IndexLemmas.{sound_after_drop}
use Rattle.shard_index.proofs.index.Index.drop_oldest.Goals as goal

pub invariant_of-self : goal.invariant_of-self
invariant_of-self c =
    let index : KeptIndex = record { cuts = c.self.inside.cuts.items; messages = c.self.inside.messages.items; awaited = c.self.inside.awaited } in
    let two : 2 ≤ length c.self.inside.cuts.items = omega arith in (
      sound_after_drop index c.index.result.now c.index-2.result.now c.self.inside.room c.remove.new.self.items c.drop_front.new.messages.items c.self.invariant.0 two
          c.index.ensures c.index-2.ensures c.remove.ensures.items c.drop_front.ensures,
      c.self.invariant.1,
    )
