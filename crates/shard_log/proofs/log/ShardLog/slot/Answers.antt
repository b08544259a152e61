use Rattle.std.proofs.Common.{rules, ◌≡◌, ◌<◌, ◌-◌, length, slice_get, Some, sym, subst}
use Rattle.shard_log.proofs.SlotLemmas.{last_slot}
use Rattle.shard_log.proofs.log.ShardLog.slot.Goals as goal

pub returns-clause-slot : goal.returns-clause-slot
returns-clause-slot g c =
    let found : slice_get c.self.inside.index.cuts (length c.self.inside.index.cuts - 1) ≡ Some c.in-Some.cut.now = search rules in
    rw (← c.self.view_is) (last_slot c.self.inside.index.cuts c.in-Some.cut.now found)

pub returns-clause-within : goal.returns-clause-within
returns-clause-within g c =
    let found : slice_get c.self.inside.index.cuts (length c.self.inside.index.cuts - 1) ≡ Some c.in-Some.cut.now = search rules in
    subst (λ n. n < 8) (sym (last_slot c.self.inside.index.cuts c.in-Some.cut.now found)) c.self.invariant.sound.within
