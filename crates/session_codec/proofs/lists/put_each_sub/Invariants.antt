use Rattle.std.proofs.Common.{◌≡◌, ◌++◌, take}
use Rattle.std.specs.List.{flat_map}
use Rattle.session_codec.specs.Spelling.{spelled_sub}
use Rattle.session_codec.proofs.lists.put_each_sub.Given as goal

abbrev pub invariant-loop-sub : goal.invariant-loop-sub
invariant-loop-sub l = l.out.items ≡ l.initial.out.items ++ flat_map spelled_sub (take l.sub-index l.subs)
