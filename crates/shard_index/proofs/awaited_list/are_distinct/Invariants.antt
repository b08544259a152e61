use Rattle.std.proofs.Common.{◌≡◌, take, drop}
use Rattle.shard_index.specs.Triples.{are_distinct, are_new_behind}
use Rattle.shard_index.proofs.awaited_list.are_distinct.Given as goal

abbrev pub invariant-loop-triple : goal.invariant-loop-triple
invariant-loop-triple l =
    (l.awaited ≡ take l.triple-index l.list) × (are_distinct l.list ≡ are_new_behind (take l.triple-index l.list) (drop l.triple-index l.list))
