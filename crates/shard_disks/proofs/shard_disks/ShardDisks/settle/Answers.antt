use Rattle.std.proofs.Common.{◌≡◌, None, Ok, Err, refl, subst, sym, true}
use Rattle.gated_log.specs.PlainLog.{is_in_doubt}
use Rattle.shard_disks.specs.Outline.{no_slot}
use Rattle.shard_disks.specs.PlainDisks.{all_mounted, outline_of}
use Rattle.shard_disks.specs.Stands.{IsDisks, IsDoubted, RestsNow}
use Rattle.shard_disks.proofs.HistoryLemmas.{one_more}
use Rattle.shard_disks.proofs.ListLemmas.{has_at, has_within}
use Rattle.shard_disks.proofs.SettleLemmas.{ends_doubt, settled_disks, unsettled_disks}
use Rattle.shard_disks.proofs.shard_disks.ShardDisks.settle.Goals as goal

pub settle_slot-requires-clause-place : goal.settle_slot-requires-clause-place
settle_slot-requires-clause-place g c =
    let logs = c.self.inside.slots.items in
    let disks = subst (IsDisks g.D.Disk.state c.self.inside.manifest logs) c.in-Some.is c.self.invariant.0 in
    has_within IsDoubted RestsNow c.in-Some.slot logs disks.stand

pub settle_slot-requires-clause-doubted : goal.settle_slot-requires-clause-doubted
settle_slot-requires-clause-doubted g c =
    let logs = c.self.inside.slots.items in
    let disks = subst (IsDisks g.D.Disk.state c.self.inside.manifest logs) c.in-Some.is c.self.invariant.0 in
    has_at outline_of no_slot (λ slot. is_in_doubt slot.standing ≡ true) RestsNow c.in-Some.slot logs disks.stand

pub invariant_of-self-in-Err : goal.invariant_of-self-in-Err
invariant_of-self-in-Err g c =
    let logs = c.self.inside.slots.items in
    let disks = subst (IsDisks g.D.Disk.state c.self.inside.manifest logs) c.in-Some.is c.self.invariant.0 in (
      subst (IsDisks g.D.Disk.state c.self.inside.manifest c.settle_slot.new.slots.items) (sym c.in-Some.is)
          (unsettled_disks g.D.Disk.state c.self.inside.manifest logs c.settle_slot.new.slots.items c.in-Some.slot (Err c.in-Err.refused) disks c.in-Err.ensures.moved),
      c.self.invariant.1,
    )

pub invariant_of-self : goal.invariant_of-self
invariant_of-self g c =
    let logs = c.self.inside.slots.items in
    let disks = subst (IsDisks g.D.Disk.state c.self.inside.manifest logs) c.in-Some.is c.self.invariant.0 in
    (settled_disks g.D.Disk.state c.self.inside.manifest logs c.settle_slot.new.slots.items c.in-Some.slot (Ok c.in-Ok.settled) disks c.in-Ok.ensures.moved, c.self.invariant.1)

pub returns-in-Ok : goal.returns-in-Ok
returns-in-Ok g c =
    let logs = c.self.inside.slots.items in
    let disks = subst (IsDisks g.D.Disk.state c.self.inside.manifest logs) c.in-Some.is c.self.invariant.0 in
    record {
      ends = ends_doubt g.D.Disk.state c.self.inside.manifest logs c.settle_slot.new.slots.items c.in-Some.slot (Ok c.in-Ok.settled) disks c.in-Ok.ensures.moved
          g.met.D.Disk.only_now c.self.inside.doubted None _ _ _ c.self.view_is c.in-Some.is refl tt (one_more (all_mounted c.self.inside.begun.items) _ _ _ c.recorded-self-inside.ensures)
          (invariant_of-self g c).0 (λ e. refl) (λ e. refl);
    }

pub returns-in-Err : goal.returns-in-Err
returns-in-Err g c =
    let logs = c.self.inside.slots.items in
    let disks = subst (IsDisks g.D.Disk.state c.self.inside.manifest logs) c.in-Some.is c.self.invariant.0 in
    record {
      ends = ends_doubt g.D.Disk.state c.self.inside.manifest logs c.settle_slot.new.slots.items c.in-Some.slot (Err c.in-Err.refused) disks c.in-Err.ensures.moved
          g.met.D.Disk.only_now c.self.inside.doubted c.self.inside.doubted _ _ _ c.self.view_is c.in-Some.is tt c.in-Some.is (one_more (all_mounted c.self.inside.begun.items) _ _ _ c.recorded-self-inside.ensures)
          (invariant_of-self-in-Err g c).0 (λ e. cc) (λ e. cc);
    }
