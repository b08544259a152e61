use Rattle.std.proofs.Common.{◌≡◌, ap, length, rules}
use Rattle.disk_memory.specs.PlainDisk.{PlainDisk, PlainWrite, called, failed, starving, with_pending, wrote}
use Rattle.disk_memory.proofs.Moments.{fails_call, ends_call, pending_images, pending_torn, pending_holds, pending_size}
use Rattle.disk_memory.proofs.disk.MemoryDiskDisk.write_at.Goals as goal

-- memory was refused
pub returns-then-is_err-clause-called : goal.returns-then-is_err-clause-called
returns-then-is_err-clause-called c =
    let old = c.args.self.now in
    let new = c.starve.new.self in
    let is : new ≡ starving (failed (called old)) = search rules in
    fails_call old new _ (ap (λ (d : PlainDisk). d.past) is) (ap (λ (d : PlainDisk). d.arms) is) (ap (λ (d : PlainDisk). d.faults) is) c.call-fails.ensures.bound

-- the call was to fail
pub returns-then-fails-clause-called : goal.returns-then-fails-clause-called
returns-then-fails-clause-called c =
    let old = c.args.self.now in
    let new = c.put.new.self in
    let is : new ≡ failed (wrote c.args.at c.args.bytes.now c.taken_of-taken.result (called old)) = search rules in
    fails_call old new _ (ap (λ (d : PlainDisk). d.past) is) (ap (λ (d : PlainDisk). d.arms) is) (ap (λ (d : PlainDisk). d.faults) is) c.call-fails.ensures.bound

pub returns-then-fails-clause-torn : goal.returns-then-fails-clause-torn
returns-then-fails-clause-torn c =
    let w : PlainWrite = record { at = c.args.at; bytes = c.args.bytes.now; taken = c.taken_of-taken.result } in
    let is : c.put.new.self.state ≡ with_pending w c.args.self.now.state = search rules in
    pending_torn c.args.self.now.state c.put.new.self.state w is

pub returns-then-fails-clause-no_shorter : goal.returns-then-fails-clause-no_shorter
returns-then-fails-clause-no_shorter c =
    let w : PlainWrite = record { at = c.args.at; bytes = c.args.bytes.now; taken = c.taken_of-taken.result } in
    let is : c.put.new.self.state ≡ with_pending w c.args.self.now.state = search rules in
    (pending_torn c.args.self.now.state c.put.new.self.state w is).no_shorter

pub returns-then-fails-clause-no_longer : goal.returns-then-fails-clause-no_longer
returns-then-fails-clause-no_longer c =
    let w : PlainWrite = record { at = c.args.at; bytes = c.args.bytes.now; taken = c.taken_of-taken.result } in
    let is : c.put.new.self.state ≡ with_pending w c.args.self.now.state = search rules in
    (pending_torn c.args.self.now.state c.put.new.self.state w is).no_longer

pub returns-then-fails-clause-images : goal.returns-then-fails-clause-images
returns-then-fails-clause-images c =
    let w : PlainWrite = record { at = c.args.at; bytes = c.args.bytes.now; taken = c.taken_of-taken.result } in
    let is : c.put.new.self.state ≡ with_pending w c.args.self.now.state = search rules in
    pending_images c.args.self.now.state c.put.new.self.state w is

-- it did its work
pub returns-clause-called : goal.returns-clause-called
returns-clause-called c =
    let old = c.args.self.now in
    let new = c.put.new.self in
    let is : new ≡ wrote c.args.at c.args.bytes.now c.taken_of-taken.result (called old) = search rules in
    ends_call old new _ (ap (λ (d : PlainDisk). d.past) is) (ap (λ (d : PlainDisk). d.arms) is) (ap (λ (d : PlainDisk). d.faults) is)

pub returns-clause-written : goal.returns-clause-written
returns-clause-written c =
    let w : PlainWrite = record { at = c.args.at; bytes = c.args.bytes.now; taken = c.taken_of-taken.result } in
    let is : c.put.new.self.state ≡ with_pending w c.args.self.now.state = search rules in
    let all : c.taken_of-taken.result ≡ length c.args.bytes.now = search rules in
    pending_holds c.args.self.now.state c.put.new.self.state w is c.requires all

pub returns-clause-size : goal.returns-clause-size
returns-clause-size c =
    let w : PlainWrite = record { at = c.args.at; bytes = c.args.bytes.now; taken = c.taken_of-taken.result } in
    let is : c.put.new.self.state ≡ with_pending w c.args.self.now.state = search rules in
    let all : c.taken_of-taken.result ≡ length c.args.bytes.now = search rules in
    pending_size c.args.self.now.state c.put.new.self.state w is c.requires all

pub returns-clause-no_shorter : goal.returns-clause-no_shorter
returns-clause-no_shorter c =
    let w : PlainWrite = record { at = c.args.at; bytes = c.args.bytes.now; taken = c.taken_of-taken.result } in
    let is : c.put.new.self.state ≡ with_pending w c.args.self.now.state = search rules in
    (pending_torn c.args.self.now.state c.put.new.self.state w is).no_shorter

pub returns-clause-no_longer : goal.returns-clause-no_longer
returns-clause-no_longer c =
    let w : PlainWrite = record { at = c.args.at; bytes = c.args.bytes.now; taken = c.taken_of-taken.result } in
    let is : c.put.new.self.state ≡ with_pending w c.args.self.now.state = search rules in
    (pending_torn c.args.self.now.state c.put.new.self.state w is).no_longer

pub returns-clause-images : goal.returns-clause-images
returns-clause-images c =
    let w : PlainWrite = record { at = c.args.at; bytes = c.args.bytes.now; taken = c.taken_of-taken.result } in
    let is : c.put.new.self.state ≡ with_pending w c.args.self.now.state = search rules in
    pending_images c.args.self.now.state c.put.new.self.state w is
