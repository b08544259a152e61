use Rattle.std.proofs.Common.{◌≡◌, ◌<◌, ◌-◌, Some, ap, arith, length, slice_get, subst, sym, ◌∙◌}
use Rattle.pair_log.specs.PlainPair.{first_disk, second_disk}
use Rattle.shard_disks.specs.PlainDisks.{PlainDisks, all_disks}
use Rattle.shard_disks.proofs.RoomLemmas.{get_behind, get_here}
use Rattle.shard_disks.proofs.shard_disks.ShardDisks.disk.Goals as goal

pub returns : goal.returns
returns g c =
    let logs = c.self.inside.slots.items in
    let within : c.args.place - 2 < length logs = omega (arith, c.requires, c.if-place-lt2.false, c.self.invariant.0.eight) in
    subst (λ (d : PlainDisks g.row.D.Denot). slice_get (all_disks d) c.args.place ≡ Some c.disk.result.now) c.self.view_is
    (get_behind (first_disk c.self.inside.manifest) (second_disk c.self.inside.manifest) c.disk.result.now _ c.args.place c.if-place-lt2.false
    (get_here logs (c.args.place - 2) c.index.result.now within c.index.ensures ∙ ap Some (sym c.disk.ensures)))
