-- Which operations are kept, by what is awaited alone, and how they are written, by the next offset alone.
use Rattle.std.specs.Prelude.{ℕ, ◌+◌, Bool, true, false, ◌&&◌, not, List, [], ◌∷◌, ◌++◌, filter}
use Rattle.std.specs.List.{list_any}
use Rattle.shard_model.specs.ShardList.{Awaited}
use Rattle.shard_model.specs.Storing.{Op as PlainOp, Store, Release, Forget, becomes_awaited, is_awaited_as, is_of}
use Rattle.shard_index.specs.Absorbing.{is_new}
use Rattle.record_codec.specs.declared.group.Op.{Op}
use Rattle.record_codec.specs.Records.{plain_op, offsets_of}
use Rattle.group_plan.specs.Plan.{also_if, written_at}

-- whether an operation acts
abbrev pub acts_on : List Awaited → PlainOp → Bool
acts_on awaited (Store m) = is_new awaited m
acts_on awaited (Release publisher incarnation id) = list_any (is_awaited_as publisher incarnation id) awaited
acts_on awaited (Forget publisher incarnation) = list_any (is_of publisher incarnation) awaited

-- what is awaited behind one that acts
abbrev pub awaited_by : PlainOp → List Awaited → List Awaited
awaited_by (Store m) awaited = awaited ++ becomes_awaited m
awaited_by (Release publisher incarnation id) awaited = filter (λ a. not (is_awaited_as publisher incarnation id a)) awaited
awaited_by (Forget publisher incarnation) awaited = filter (λ a. not (is_of publisher incarnation a)) awaited

abbrev pub awaited_if : Bool → PlainOp → List Awaited → List Awaited
awaited_if true op awaited = awaited_by op awaited
awaited_if false op awaited = awaited

-- behind operations that all act
abbrev pub awaited_after : List Awaited → List PlainOp → List Awaited
awaited_after awaited [] = awaited
awaited_after awaited (op ∷ ops) = awaited_after (awaited_by op awaited) ops

-- each acts, behind those before it
abbrev pub all_act : List Awaited → List PlainOp → Bool
all_act awaited [] = true
all_act awaited (op ∷ ops) = acts_on awaited op && all_act (awaited_by op awaited) ops

-- the operations that are kept, as they were asked
abbrev pub chosen : List Awaited → List Op → List Op
chosen awaited [] = []
chosen awaited (op ∷ ops) = also_if (acts_on awaited (plain_op op)) op (chosen (awaited_if (acts_on awaited (plain_op op)) (plain_op op) awaited) ops)

-- operations as they are written, the first where this offset is the next
abbrev pub written_from : ℕ → ℕ → List Op → List Op
written_from now offset [] = []
written_from now offset (op ∷ ops) = written_at now offset op ∷ written_from now (offset + offsets_of op) ops
