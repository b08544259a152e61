use Rattle.std.proofs.Common.{◌≡◌, take}
use Rattle.shard_index.proofs.awaited_list.AwaitedList.of.Given as goal

abbrev pub invariant-loop-triple : goal.invariant-loop-triple
invariant-loop-triple l = l.awaited ≡ take l.triple-index l.list
