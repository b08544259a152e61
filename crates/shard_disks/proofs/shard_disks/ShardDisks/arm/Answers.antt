use Rattle.std.proofs.Common.{◌≡◌, ◌-◌, [], OnOk, OnErr, ap, subst, ◌∙◌}
use Rattle.outside.specs.DiskModel.{IsArmed}
use Rattle.shard_disks.specs.Lists.{Moved, Pairwise}
use Rattle.shard_disks.specs.PlainDisks.{PlainDisks, all_disks, all_mounted, disks_in, outline}
use Rattle.shard_disks.proofs.ArmLemmas.{armed_disks, armed_moments, manifest_armed, slots_arm, slots_armed, slots_outlined, slots_refused}
use Rattle.shard_disks.proofs.HistoryLemmas.{one_more}
use Rattle.shard_disks.proofs.shard_disks.ShardDisks.arm.Goals as goal

pub returns-then-place-lt2-clause-nothing_else : goal.returns-then-place-lt2-clause-nothing_else
returns-then-place-lt2-clause-nothing_else g c =
    let state = g.D.Disk.state in
    subst (λ (d : PlainDisks g.row.D.Denot). Pairwise (λ before now. IsArmed (state before) (state now)) (all_disks d) (disks_in c.arm.new.self c.self.inside.slots.items)) c.self.view_is
    (manifest_armed state c.self.inside.manifest c.arm.new.self c.self.inside.slots.items c.arm.ensures.stays c.arm.ensures.active_armed c.arm.ensures.standby_armed)

pub returns-then-place-lt2-clause-any_moment : goal.returns-then-place-lt2-clause-any_moment
returns-then-place-lt2-clause-any_moment g c =
    let state = g.D.Disk.state in
    armed_moments state g.met.D.Disk.only_now c.self.inside.manifest c.arm.new.self c.self.inside.slots.items c.self.inside.slots.items c.self.inside.doubted c.self.invariant.0
    (manifest_armed state c.self.inside.manifest c.arm.new.self c.self.inside.slots.items c.arm.ensures.stays c.arm.ensures.active_armed c.arm.ensures.standby_armed)
    _ _ _ c.self.view_is (one_more (all_mounted c.self.inside.begun.items) _ _ _ c.recorded-self-inside.ensures)

pub invariant_of-self-2 : goal.invariant_of-self-2
invariant_of-self-2 g c = (
  armed_disks g.D.Disk.state (g.D.Disk.arms_at c.args.call) c.arm_slot.result c.self.inside.manifest c.self.inside.slots.items c.arm_slot.new.slots.items c.self.inside.doubted (c.args.place - 2) c.self.invariant.0 c.arm_slot.ensures.moved,
  c.self.invariant.1,
)

pub returns-clause-armed : goal.returns-clause-armed
returns-clause-armed g c =
    subst (λ (d : PlainDisks g.row.D.Denot). OnOk c.arm_slot.result (Moved c.args.place (g.D.Disk.arms_at c.args.call) (all_disks d) (disks_in c.self.inside.manifest c.arm_slot.new.slots.items))) c.self.view_is
    (slots_arm g.D.Disk.state (g.D.Disk.arms_at c.args.call) c.arm_slot.result c.self.inside.manifest c.args.place c.self.inside.slots.items c.arm_slot.new.slots.items c.if-place-lt2.false c.arm_slot.ensures.moved)

pub returns-clause-refused : goal.returns-clause-refused
returns-clause-refused g c =
    subst (λ (d : PlainDisks g.row.D.Denot). OnErr c.arm_slot.result (disks_in c.self.inside.manifest c.arm_slot.new.slots.items ≡ all_disks d)) c.self.view_is
    (slots_refused g.D.Disk.state (g.D.Disk.arms_at c.args.call) c.arm_slot.result c.self.inside.manifest (c.args.place - 2) c.self.inside.slots.items c.arm_slot.new.slots.items c.arm_slot.ensures.moved)

pub returns-clause-stays : goal.returns-clause-stays
returns-clause-stays g c =
    let was : PlainDisks g.row.D.Denot = record { manifest = c.self.inside.manifest; slots = c.self.inside.slots.items; doubted = c.self.inside.doubted; past = [] } in
    ap (λ l. record (outline was) { slots = l }) (slots_outlined g.D.Disk.state (g.D.Disk.arms_at c.args.call) c.arm_slot.result (c.args.place - 2) c.self.inside.slots.items c.arm_slot.new.slots.items c.arm_slot.ensures.moved)
    ∙ ap outline c.self.view_is

pub returns-clause-nothing_else : goal.returns-clause-nothing_else
returns-clause-nothing_else g c =
    let state = g.D.Disk.state in
    subst (λ (d : PlainDisks g.row.D.Denot). Pairwise (λ before now. IsArmed (state before) (state now)) (all_disks d) (disks_in c.self.inside.manifest c.arm_slot.new.slots.items)) c.self.view_is
    (slots_armed state (g.D.Disk.arms_at c.args.call) c.arm_slot.result c.self.inside.manifest (c.args.place - 2) c.self.inside.slots.items c.arm_slot.new.slots.items c.arm_slot.ensures.moved)

pub returns-clause-any_moment : goal.returns-clause-any_moment
returns-clause-any_moment g c =
    let state = g.D.Disk.state in
    armed_moments state g.met.D.Disk.only_now c.self.inside.manifest c.self.inside.manifest c.self.inside.slots.items c.arm_slot.new.slots.items c.self.inside.doubted c.self.invariant.0
    (slots_armed state (g.D.Disk.arms_at c.args.call) c.arm_slot.result c.self.inside.manifest (c.args.place - 2) c.self.inside.slots.items c.arm_slot.new.slots.items c.arm_slot.ensures.moved)
    _ _ _ c.self.view_is (one_more (all_mounted c.self.inside.begun.items) _ _ _ c.recorded-self-inside.ensures)
