use Rattle.std.proofs.Common.{rules}
use Rattle.std.specs.Bool.{IsTrue}
use Rattle.std.proofs.lemmas.Map.Lookups.{exact_unsigned}
use Rattle.std.proofs.lemmas.Map.Views.{btree_set_contains_iff}
use Rattle.std.specs.BTreeSet.{contains}
use Rattle.std.specs.Cmp.{nat_cmp_total}
use Rattle.std.specs.Ordering.{nat_cmp}
use Rattle.outside.specs.Cause.{next_count}
use Rattle.disk_memory.proofs.disk.MemoryDisk.call.Goals as goal

pub returns-then-due-clause-due : goal.returns-then-due-clause-due
returns-then-due-clause-due c =
    let n = next_count c.self.inside.number in
    let iff = btree_set_contains_iff nat_cmp_total exact_unsigned c.self.inside.failing n in
    let found : IsTrue (contains nat_cmp c.self.inside.failing n) = search rules in
    (λ yes. rw (← c.self.view_is) (iff.0 found), λ yes. search rules)
