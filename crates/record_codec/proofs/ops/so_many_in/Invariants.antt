use Rattle.std.proofs.Common.{◌+◌, ◌-◌, ◌≤◌, drop}
use Rattle.record_codec.specs.Records.{offsets_of}
use Rattle.record_codec.specs.Reading.{op_at}
use Rattle.record_codec.specs.LoopLaws.{IsSoFar}
use Rattle.record_codec.proofs.ops.so_many_in.Given as goal

abbrev pub invariant-loop : goal.invariant-loop
invariant-loop l = record {
  far : IsSoFar op_at offsets_of l.first l.count (drop l.initial.at l.bytes) l.ops.items (l.first + l.stores) (l.count - l.counter) (drop l.at l.bytes);
  few : l.stores ≤ l.counter;
}
