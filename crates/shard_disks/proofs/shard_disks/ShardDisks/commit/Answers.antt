use Rattle.std.proofs.Common.{Some, Ok, Err, ap, arith, refl, ◌∙◌}
use Rattle.shard_disks.specs.PlainDisks.{PlainDisks, all_mounted}
use Rattle.shard_disks.proofs.CommitLemmas.{commits_to, committed_disks, failed_disks}
use Rattle.shard_disks.proofs.HistoryLemmas.{one_more}
use Rattle.shard_disks.proofs.StandLemmas.{none_doubted, slot_rests}
use Rattle.shard_disks.specs.SlotCalls.{CommitsLog}
use Rattle.shard_disks.proofs.BlameLemmas.{slot_blamed}
use Rattle.shard_disks.proofs.TornLemmas.{commit_torn}
use Rattle.shard_disks.proofs.shard_disks.ShardDisks.commit.Goals as goal

pub commit_slot-requires-clause-rests : goal.commit_slot-requires-clause-rests
commit_slot-requires-clause-rests g c =
    let logs = c.self.inside.slots.items in
    let none = ap (λ (d : PlainDisks g.row.D.Denot). d.doubted) c.self.view_is ∙ c.requires.rests in
    slot_rests c.args.slot logs (omega (arith, c.requires.place, c.self.invariant.0.eight)) (none_doubted c.self.inside.doubted logs c.self.invariant.0.stand none)

pub invariant_of-self : goal.invariant_of-self
invariant_of-self g c =
    let none = ap (λ (d : PlainDisks g.row.D.Denot). d.doubted) c.self.view_is ∙ c.requires.rests in (
      failed_disks g.D.Disk.state c.self.inside.manifest c.self.inside.slots.items c.commit_slot.new.slots.items c.args.slot c.args.draft.now (Err c.in-Err.refused)
          c.self.inside.doubted c.self.invariant.0 none c.in-Err.ensures.moved,
      c.self.invariant.1,
    )

pub invariant_of-self-in_default : goal.invariant_of-self-in_default
invariant_of-self-in_default g c =
    let none = ap (λ (d : PlainDisks g.row.D.Denot). d.doubted) c.self.view_is ∙ c.requires.rests in (
      committed_disks g.D.Disk.state c.self.inside.manifest c.self.inside.slots.items c.commit_slot.new.slots.items c.args.slot c.args.draft.now (Ok c.in_default.field-0)
          c.self.inside.doubted c.self.invariant.0 none c.in_default.ensures.moved,
      c.self.invariant.1,
    )

pub returns-in-Err : goal.returns-in-Err
returns-in-Err g c =
    let none = ap (λ (d : PlainDisks g.row.D.Denot). d.doubted) c.self.view_is ∙ c.requires.rests in
    record {
      torn = commit_torn g.D.Disk.state c.self.inside.manifest c.self.inside.slots.items c.commit_slot.new.slots.items c.args.slot c.args.draft.now (Err c.in-Err.refused) c.in-Err.ensures.moved c.self.inside.doubted (Some c.args.slot) _ _ c.self.view_is;
      blame = slot_blamed g.D.Disk.state c.self.inside.manifest c.self.inside.slots.items c.commit_slot.new.slots.items c.self.inside.doubted _ _ c.args.slot (Err c.in-Err.refused) (CommitsLog g.D.Disk.state c.args.draft.now (Err c.in-Err.refused)) c.self.view_is (λ old new l. l.called.cause) c.in-Err.ensures.moved;
      commits = commits_to g.D.Disk.state c.self.inside.manifest c.self.inside.slots.items c.commit_slot.new.slots.items c.args.slot c.args.draft.now (Err c.in-Err.refused)
          c.self.inside.doubted c.self.invariant.0 none c.in-Err.ensures.moved g.met.D.Disk.only_now (Some c.args.slot) _ _ _ c.self.view_is tt refl
          (one_more (all_mounted c.self.inside.begun.items) _ _ _ c.recorded-self-inside.ensures) (invariant_of-self g c).0;
    }

pub returns : goal.returns
returns g c =
    let none = ap (λ (d : PlainDisks g.row.D.Denot). d.doubted) c.self.view_is ∙ c.requires.rests in
    record {
      torn = commit_torn g.D.Disk.state c.self.inside.manifest c.self.inside.slots.items c.commit_slot.new.slots.items c.args.slot c.args.draft.now (Ok c.in_default.field-0) c.in_default.ensures.moved c.self.inside.doubted c.self.inside.doubted _ _ c.self.view_is;
      blame = tt;
      commits = commits_to g.D.Disk.state c.self.inside.manifest c.self.inside.slots.items c.commit_slot.new.slots.items c.args.slot c.args.draft.now (Ok c.in_default.field-0)
          c.self.inside.doubted c.self.invariant.0 none c.in_default.ensures.moved g.met.D.Disk.only_now c.self.inside.doubted _ _ _ c.self.view_is refl tt
          (one_more (all_mounted c.self.inside.begun.items) _ _ _ c.recorded-self-inside.ensures) (invariant_of-self-in_default g c).0;
    }
