use Rattle.std.proofs.Common.{IsTrue, sym, subst}
use Rattle.std.proofs.lemmas.Option.{IfSome_then}
use Rattle.group_plan.specs.Asking.{may_ask}
use Rattle.shard_bench.specs.Published.{may_ask_many, may_ask_one, whole_generation}
use Rattle.shard_bench.proofs.groups.group.Goals as goal

pub returns-then-is_many : goal.returns-then-is_many
returns-then-is_many c = IfSome_then c.many.result c.many.ensures (λ ops is. subst (λ l. IsTrue (may_ask whole_generation l)) (sym is) may_ask_many)

pub returns : goal.returns
returns c = IfSome_then c.one.result c.one.ensures (λ ops is. subst (λ l. IsTrue (may_ask whole_generation l)) (sym is) may_ask_one)
