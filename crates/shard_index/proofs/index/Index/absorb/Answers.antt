use Rattle.std.proofs.Common.{sym, ap, ◌∙◌}
use Rattle.shard_index.specs.declared.op.IndexOp.{IndexOp}
use Rattle.shard_index.specs.declared.op.IndexOp.TheVariants.{Rotate, Drop}
use Rattle.shard_index.specs.KeptIndex.{list_of}
use Rattle.shard_index.specs.Absorbing.{absorbed}
use Rattle.shard_index.specs.AbsorbLaws.{list_after}
use Rattle.shard_index.proofs.IndexLemmas.{on_ok}
use Rattle.shard_index.proofs.index.Index.absorb.Goals as goal

pub returns-in-Rotate-clause-list : goal.returns-in-Rotate-clause-list
returns-in-Rotate-clause-list c =
    on_ok c.rotate.result
    (λ e. ap list_of e ∙ list_after (Rotate c.in-Rotate.now c.in-Rotate.cut) c.args.self.now
    ∙ ap (λ (op : IndexOp). absorbed op (list_of c.args.self.now)) (sym c.in-Rotate.is))
    c.rotate.ensures.rotated

pub returns-in-Drop-clause-list : goal.returns-in-Drop-clause-list
returns-in-Drop-clause-list c =
    ap list_of c.drop_oldest.ensures ∙ list_after Drop c.args.self.now ∙ ap (λ (op : IndexOp). absorbed op (list_of c.args.self.now)) (sym c.in-Drop.is)
