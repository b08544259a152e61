use Rattle.std.proofs.Common.{◌+◌, ◌-◌, if◌then◌else◌, Some, None, sym, ap, ◌∙◌}
use Rattle.topic_model.specs.Profile.{whole}
use Rattle.shard_model.specs.Capacity.{store_size}
use Rattle.shard_index.specs.KeptIndex.{KeptIndex, list_of}
use Rattle.shard_index.specs.Absorbing.{has_place}
use Rattle.shard_index.specs.Sound.{newest_bytes}
use Rattle.shard_index.proofs.IndexLemmas.{sound_after_add}
use Rattle.shard_index.proofs.index.Index.add.Goals as goal

pub invariant_of-self-2 : goal.invariant_of-self-2
invariant_of-self-2 c =
    let index : KeptIndex = record { cuts = c.self.inside.cuts.items; messages = c.self.inside.messages.items; awaited = c.self.inside.awaited } in
    let m = c.args.message.now in
    let found = c.in-Some.ensures
    ∙ ap (λ (k : KeptIndex). if has_place (list_of k) m.stored then Some (whole.generation_bytes - (newest_bytes (list_of k) + store_size m.stored)) else None)
    (sym c.self.view_is) in (
      sound_after_add index m c.self.inside.room c.in-Some.room c.if_added-self-inside.result c.in_ok-added.added c.add_to.new.messages.items c.add_to.new.awaited
          c.self.invariant.0 found c.in_ok-added.ensures.added c.in_ok-added.ensures.messages c.in_ok-added.ensures.awaited c.if_added-self-inside.ensures,
      tt,
    )
