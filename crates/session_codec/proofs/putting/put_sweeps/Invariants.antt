use Rattle.std.proofs.Common.{◌≡◌, ◌++◌, take}
use Rattle.std.specs.List.{flat_map}
use Rattle.session_codec.specs.Spelling.{spelled_sweep}
use Rattle.session_codec.proofs.putting.put_sweeps.Given as goal

abbrev pub invariant-loop-sweep : goal.invariant-loop-sweep
invariant-loop-sweep l = l.out.items ≡ l.initial.out.items ++ flat_map spelled_sweep (take l.sweep-index l.sweeps)
