use Rattle.std.proofs.Common.{◌+◌, ◌≤◌, IsErrOf, OnErr, arith, length, subst}
use Rattle.gated_log.specs.declared.refused.LogRefused.TheVariants.{Fault}
use Rattle.shard_disks.specs.Outline.{SlotOutline, no_slot}
use Rattle.shard_disks.specs.PlainDisks.{outline_of}
use Rattle.shard_disks.specs.SlotCalls.{CommitsLog}
use Rattle.shard_disks.proofs.AnswerLemmas.{on_fault, only_fault}
use Rattle.shard_disks.proofs.ListLemmas.{moved_set, read_at}
use Rattle.shard_disks.proofs.slot_calls.commit_slot.Goals as goal

pub returns : goal.returns
returns g c =
    let e = c.commit.ensures in
    let fits = subst (λ (s : SlotOutline). s.end + (6 + length c.args.draft.now) ≤ s.limit) (read_at outline_of no_slot c.args.slots.now.items c.args.slot c.index_mut-log.result.now c.requires.place c.index_mut-log.ensures.value) c.requires.fits in
    let fault : OnErr c.commit.result (IsErrOf c.commit.result Fault) = only_fault c.commit.result (λ full. omega (arith, e.full.0 full, fits)) e.never_memory in
    record {
      moved = moved_set (CommitsLog g.D.Disk.state c.args.draft.now c.commit.result) c.args.slots.now.items c.args.slot c.index_mut-log.result.now c.commit.new.self c.requires.place c.index_mut-log.ensures.value
          (record {
            list = e.list;
            bytes = e.bytes;
            stays = e.stays;
            in_doubt = on_fault c.commit.result fault e.in_doubt;
            kept = e.kept;
            torn = e.torn;
            only_fault = fault;
            called = record { tells = e.run.tells; arms = e.run.arms; any_moment = e.any_moment; images = e.images; cause = e.cause };
          });
    }
