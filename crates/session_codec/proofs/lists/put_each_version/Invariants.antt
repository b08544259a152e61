use Rattle.std.proofs.Common.{◌≡◌, ◌++◌, take}
use Rattle.std.specs.List.{flat_map}
use Rattle.session_codec.specs.Spelling.{spelled_version}
use Rattle.session_codec.proofs.lists.put_each_version.Given as goal

abbrev pub invariant-loop-version : goal.invariant-loop-version
invariant-loop-version l = l.out.items ≡ l.initial.out.items ++ flat_map spelled_version (take l.version-index l.versions)
