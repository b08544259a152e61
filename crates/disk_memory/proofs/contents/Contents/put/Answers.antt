use Rattle.std.proofs.Common.{◌≤◌, length, rules, refl}
use Rattle.disk_memory.specs.Kept.{keeping}
use Rattle.disk_memory.proofs.Undo.{is_laid_push}
use Rattle.disk_memory.proofs.contents.Contents.put.Goals as goal

pub invariant_of-self-2 : goal.invariant_of-self-2
invariant_of-self-2 c =
    let old = c.self.inside in
    let wrote = c.in_ok-add_write.ensures in
    let h : c.args.at ≤ length old.bytes.items = search rules in
    is_laid_push old.base.value.items old.bytes.items c.add_write.new.bytes.items old.writes.items c.add_write.new.writes.items
    (keeping c.args.at c.args.piece.now c.args.taken old.bytes.items)
    c.self.invariant
    (record { place = h; taken = c.requires.taken; over = refl })
    wrote.writes
    wrote.bytes
