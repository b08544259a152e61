use Rattle.std.proofs.Common.{◌≡◌, ◌≤◌, ◌+◌, drop, filter, length}
use Rattle.shard_model.specs.Storing.{is_of}
use Rattle.shard_index.proofs.lists.count_of.Given as goal

abbrev pub invariant-loop-triple : goal.invariant-loop-triple
invariant-loop-triple l =
    (l.count ≤ l.triple-index)
    × (l.count + length (filter (is_of l.fn.publisher l.fn.incarnation) (drop l.triple-index l.fn.awaited))
    ≡ length (filter (is_of l.fn.publisher l.fn.incarnation) l.fn.awaited))
