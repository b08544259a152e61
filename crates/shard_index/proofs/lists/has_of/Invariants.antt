use Rattle.std.proofs.Common.{◌≡◌, drop}
use Rattle.std.specs.List.{list_any}
use Rattle.shard_model.specs.Storing.{is_of}
use Rattle.shard_index.proofs.lists.has_of.Given as goal

abbrev pub invariant-loop-triple : goal.invariant-loop-triple
invariant-loop-triple l =
    list_any (is_of l.fn.publisher l.fn.incarnation) l.fn.awaited ≡ list_any (is_of l.fn.publisher l.fn.incarnation) (drop l.triple-index l.fn.awaited)
