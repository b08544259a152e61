use Rattle.std.proofs.Common.{◌≡◌, ◌++◌, take}
use Rattle.std.specs.List.{flat_map}
use Rattle.record_codec.specs.Spelling.{spelled_cut}
use Rattle.record_codec.proofs.manifests.put_each.Given as goal

abbrev pub invariant-loop-cut : goal.invariant-loop-cut
invariant-loop-cut l = l.out.items ≡ l.initial.out.items ++ flat_map spelled_cut (take l.cut-index l.cuts)
