use Rattle.std.proofs.Common.{◌≡◌, ap, rules}
use Rattle.disk_memory.specs.PlainDisk.{PlainDisk, called, failed}
use Rattle.disk_memory.proofs.Moments.{fails_call, ends_call}
use Rattle.disk_memory.proofs.disk.MemoryDiskDisk.read.Goals as goal

pub returns-then-call-clause-called : goal.returns-then-call-clause-called
returns-then-call-clause-called c =
    let old = c.args.self.now in
    let new = c.call.new.self in
    let is : new ≡ failed (called old) = search rules in
    fails_call old new _ (ap (λ (d : PlainDisk). d.past) is) (ap (λ (d : PlainDisk). d.arms) is) (ap (λ (d : PlainDisk). d.faults) is) c.call.ensures.bound

pub returns-clause-called : goal.returns-clause-called
returns-clause-called c =
    let old = c.args.self.now in
    let new = c.call.new.self in
    let is : new ≡ called old = search rules in
    ends_call old new _ (ap (λ (d : PlainDisk). d.past) is) (ap (λ (d : PlainDisk). d.arms) is) (ap (λ (d : PlainDisk). d.faults) is)
