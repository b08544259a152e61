use Rattle.std.proofs.Common.{ap, arith, ◌∙◌}
use Rattle.shard_disks.specs.PlainDisks.{PlainDisks, all_mounted}
use Rattle.shard_disks.proofs.HistoryLemmas.{one_more}
use Rattle.shard_disks.proofs.ReadLemmas.{read_blamed, read_bytes, read_disks, slot_read}
use Rattle.shard_disks.proofs.StandLemmas.{none_doubted, slot_rests}
use Rattle.shard_disks.specs.SlotCalls.{IsLogRead}
use Rattle.shard_disks.proofs.BlameLemmas.{slot_blamed}
use Rattle.shard_disks.proofs.shard_disks.ShardDisks.entry.Goals as goal

pub read_slot-requires-clause-rests : goal.read_slot-requires-clause-rests
read_slot-requires-clause-rests g c =
    let logs = c.self.inside.slots.items in
    let none = ap (λ (d : PlainDisks g.row.D.Denot). d.doubted) c.self.view_is ∙ c.requires.rests in
    slot_rests c.args.slot logs (omega (arith, c.requires.place, c.self.invariant.0.eight)) (none_doubted c.self.inside.doubted logs c.self.invariant.0.stand none)

pub invariant_of-self : goal.invariant_of-self
invariant_of-self g c =
    let none = ap (λ (d : PlainDisks g.row.D.Denot). d.doubted) c.self.view_is ∙ c.requires.rests in (
      read_disks g.D.Disk.state c.self.inside.manifest c.self.inside.slots.items c.read_slot.new.slots.items c.args.slot c.args.k c.args.out.now.items c.read_slot.new.out.items c.read_slot.result
          c.self.inside.doubted c.self.invariant.0 none c.read_slot.ensures.moved,
      c.self.invariant.1,
    )

pub returns-clause-bytes : goal.returns-clause-bytes
returns-clause-bytes g c =
    let none = ap (λ (d : PlainDisks g.row.D.Denot). d.doubted) c.self.view_is ∙ c.requires.rests in
    read_bytes g.D.Disk.state c.self.inside.manifest c.self.inside.slots.items c.read_slot.new.slots.items c.args.slot c.args.k c.args.out.now.items c.read_slot.new.out.items c.read_slot.result
    c.self.inside.doubted c.self.invariant.0 none c.read_slot.ensures.moved _ _ c.self.view_is

pub returns-clause-reads : goal.returns-clause-reads
returns-clause-reads g c =
    let none = ap (λ (d : PlainDisks g.row.D.Denot). d.doubted) c.self.view_is ∙ c.requires.rests in
    slot_read g.D.Disk.state c.self.inside.manifest c.self.inside.slots.items c.read_slot.new.slots.items c.args.slot c.args.k c.args.out.now.items c.read_slot.new.out.items c.read_slot.result
    c.self.inside.doubted c.self.invariant.0 none c.read_slot.ensures.moved g.met.D.Disk.only_now _ _ _ c.self.view_is (one_more (all_mounted c.self.inside.begun.items) _ _ _ c.recorded-self-inside.ensures)

pub returns-clause-cause : goal.returns-clause-cause
returns-clause-cause g c =
    let none = ap (λ (d : PlainDisks g.row.D.Denot). d.doubted) c.self.view_is ∙ c.requires.rests in
    read_blamed g.D.Disk.state c.self.inside.manifest c.self.inside.slots.items c.read_slot.new.slots.items c.args.slot c.args.k c.args.out.now.items c.read_slot.new.out.items c.read_slot.result
    c.self.inside.doubted c.self.invariant.0 none c.read_slot.ensures.moved _ _ c.self.view_is

pub returns-clause-blame : goal.returns-clause-blame
returns-clause-blame g c =
    slot_blamed g.D.Disk.state c.self.inside.manifest c.self.inside.slots.items c.read_slot.new.slots.items c.self.inside.doubted _ _ c.args.slot c.read_slot.result
    (IsLogRead g.D.Disk.state c.args.k c.args.out.now.items c.read_slot.new.out.items c.read_slot.result) c.self.view_is (λ old new l. l.called.cause) c.read_slot.ensures.moved
