use Rattle.std.proofs.Common.{◌≡◌, rules, subst, sym}
use Rattle.disk_memory.specs.Images.{IsImage, image_of}
use Rattle.disk_memory.specs.Laws.{chosen_is_image}
use Rattle.disk_memory.specs.PlainDisk.{seen_of}
use Rattle.disk_memory.proofs.disk.MemoryDisk.crash.Goals as goal

pub returns-clause-allowed : goal.returns-clause-allowed
returns-clause-allowed c =
    let state = c.args.self.now.state in
    let e : seen_of c.of.result.base c.of.result.writes ≡ image_of c.args.n state = search rules in
    subst (IsImage state) (sym e) (chosen_is_image c.args.n state.base state.writes)
