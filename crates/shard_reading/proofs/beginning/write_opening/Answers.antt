use Rattle.std.proofs.Common.{◌≡◌, arith}
use Rattle.shard_disks.specs.Outline.{slot_in}
use Rattle.shard_disks.specs.PlainDisks.{outline}
use Rattle.shard_reading.proofs.BeginLemmas.{IsReserved, opening_doubted, opening_written}
use Rattle.shard_reading.proofs.beginning.write_opening.Goals as goal

pub returns-in-Err : goal.returns-in-Err
returns-in-Err g c =
    let was : IsReserved c.args.disks.now c.reserve.new.self = record { stays = c.in_ok-reserve.ensures.stays; disks = c.in_ok-reserve.ensures.disks; past = c.in_ok-reserve.ensures.past } in
    let none : (slot_in (outline c.args.disks.now) 0).end ≡ 0 = omega (arith, c.end.ensures.end, c.if-end-ne0.false) in
    record {
      begins = opening_doubted g.D.Disk.state c.args.disks.now c.reserve.new.self c.commit.new.self c.in_ok-draft.draft was none c.in_ok-draft.ensures.bytes c.in_ok-draft.ensures.long
          c.doubted-facts.ensures.eight c.requires.limits c.in-Err.field-0 c.in-Err.ensures.commits c.in-Err.ensures.torn c.in-Err.ensures.blame;
    }

pub returns : goal.returns
returns g c =
    let was : IsReserved c.args.disks.now c.reserve.new.self = record { stays = c.in_ok-reserve.ensures.stays; disks = c.in_ok-reserve.ensures.disks; past = c.in_ok-reserve.ensures.past } in
    let none : (slot_in (outline c.args.disks.now) 0).end ≡ 0 = omega (arith, c.end.ensures.end, c.if-end-ne0.false) in
    record {
      begins = opening_written g.D.Disk.state c.args.disks.now c.reserve.new.self c.commit.new.self c.in_ok-draft.draft was none c.in_ok-draft.ensures.bytes c.in_ok-draft.ensures.long
          c.doubted-facts.ensures.eight c.requires.limits c.in_default.ensures.commits c.in_default.ensures.torn c.requires.rests;
    }
