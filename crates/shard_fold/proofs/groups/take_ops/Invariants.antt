use Rattle.std.proofs.Common.{◌≡◌, length}
use Rattle.std.specs.Vec.Iter.{into_iter_items, into_iter_len}
use Rattle.shard_index.specs.Absorbing.{absorbed_all, all_stand}
use Rattle.shard_index.specs.KeptIndex.{list_of}
use Rattle.record_codec.specs.Records.{index_ops}
use Rattle.shard_fold.proofs.groups.take_ops.Given as goal

abbrev pub invariant-loop-op : goal.invariant-loop-op
invariant-loop-op l =
    (goal.iterator-loop-op).can_next l.op-iterator
    × (goal.iterator-loop-op).is_finite l.op-iterator
    × (into_iter_len l.op-iterator ≡ length (into_iter_items l.op-iterator))
    × (all_stand (list_of l.fn.index) (index_ops l.fn.ops.items) ≡ all_stand (list_of l.index) (index_ops (into_iter_items l.op-iterator)))
    × (absorbed_all (index_ops l.fn.ops.items) (list_of l.fn.index) ≡ absorbed_all (index_ops (into_iter_items l.op-iterator)) (list_of l.index))
    × (l.index.cuts ≡ l.fn.index.cuts)
