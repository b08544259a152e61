use Rattle.std.proofs.Common.{true, false, sym, subst, arith}
use Rattle.shard_index.specs.KeptIndex.{list_of}
use Rattle.group_plan.specs.RoomLaws.{CanBeWritten}
use Rattle.group_plan.specs.PlanLaws.{plans_nothing, plans_full, plans_too_many, plans_stores}
use Rattle.group_plan.specs.StoreLaws.{chosen_can, is_stored, is_spelled}
use Rattle.group_plan.proofs.References.{told}
use Rattle.group_plan.proofs.KeptReferences.{none_kept, some_kept, few_kept, are_lent, room_told}
use Rattle.group_plan.proofs.planning.plan.Goals as goal

pub returns-then-is_empty-clause-exact : goal.returns-then-is_empty-clause-exact
returns-then-is_empty-clause-exact c =
    let list = list_of c.args.index.now in
    let none = none_kept list c.args.ops.now c.in_ok-kept.kept.ops c.in_ok-kept.ensures.ops c.if-is_empty.ensures in
    plans_nothing list c.args.ops.now c.args.now none

pub lacks_room-requires : goal.lacks_room-requires
lacks_room-requires c =
    let few = few_kept (list_of c.args.index.now) c.args.ops.now c.in_ok-kept.kept.ops c.in_ok-kept.ensures.ops c.deref.result.now c.deref.ensures.value in
    omega (arith, few, c.requires.few)

pub returns-then-lacks_room-clause-exact : goal.returns-then-lacks_room-clause-exact
returns-then-lacks_room-clause-exact c =
    let list = list_of c.args.index.now in
    let ops = c.args.ops.now in
    let some = some_kept list ops c.in_ok-kept.kept.ops c.in_ok-kept.ensures.ops c.if-is_empty.ensures in
    let room = room_told list ops c.in_ok-kept.kept.ops c.in_ok-kept.ensures.ops c.deref.result.now c.deref.ensures.value c.lacks_room.result true c.lacks_room.ensures c.if-lacks_room.true in
    plans_full list ops c.args.now some room

pub returns-then-kept-gt-MOST_AWAITED-clause-exact : goal.returns-then-kept-gt-MOST_AWAITED-clause-exact
returns-then-kept-gt-MOST_AWAITED-clause-exact c =
    let list = list_of c.args.index.now in
    let ops = c.args.ops.now in
    let some = some_kept list ops c.in_ok-kept.kept.ops c.in_ok-kept.ensures.ops c.if-is_empty.ensures in
    let room = room_told list ops c.in_ok-kept.kept.ops c.in_ok-kept.ensures.ops c.deref.result.now c.deref.ensures.value c.lacks_room.result false c.lacks_room.ensures c.if-lacks_room.false in
    plans_too_many list ops c.args.now some room (omega (arith, c.in_ok-kept.ensures.awaited, c.if-kept-gt-MOST_AWAITED.true))

pub stored_from-requires : goal.stored_from-requires
stored_from-requires c =
    let list = list_of c.args.index.now in
    let ops = c.args.ops.now in
    let some = some_kept list ops c.in_ok-kept.kept.ops c.in_ok-kept.ensures.ops c.if-is_empty.ensures in
    let room = room_told list ops c.in_ok-kept.kept.ops c.in_ok-kept.ensures.ops c.deref.result.now c.deref.ensures.value c.lacks_room.result false c.lacks_room.ensures c.if-lacks_room.false in
    let can = chosen_can list ops c.args.now c.facts.ensures.end c.ranges.now.fits c.requires.few c.requires.fit some room in
    let lent = are_lent list ops c.in_ok-kept.kept.ops c.in_ok-kept.ensures.ops c.deref-2.result.now c.deref-2.ensures.value in
    subst (λ n. CanBeWritten c.args.now n (told c.deref-2.result.now)) (sym c.next_offset.ensures) (subst (CanBeWritten c.args.now _) (sym lent) can)

pub returns-clause-exact : goal.returns-clause-exact
returns-clause-exact c =
    let list = list_of c.args.index.now in
    let ops = c.args.ops.now in
    let some = some_kept list ops c.in_ok-kept.kept.ops c.in_ok-kept.ensures.ops c.if-is_empty.ensures in
    let room = room_told list ops c.in_ok-kept.kept.ops c.in_ok-kept.ensures.ops c.deref.result.now c.deref.ensures.value c.lacks_room.result false c.lacks_room.ensures c.if-lacks_room.false in
    let lent = are_lent list ops c.in_ok-kept.kept.ops c.in_ok-kept.ensures.ops c.deref-2.result.now c.deref-2.ensures.value in
    let stores = plans_stores list ops c.args.now some room (omega (arith, c.in_ok-kept.ensures.awaited, c.if-kept-gt-MOST_AWAITED.false)) in
    is_stored list ops c.args.now c.in_ok-stored.stored c.next_offset.result (told c.deref-2.result.now) c.next_offset.ensures lent stores c.in_ok-stored.ensures.spelling c.in_ok-stored.ensures.ops

pub returns-clause-spelled : goal.returns-clause-spelled
returns-clause-spelled c =
    let list = list_of c.args.index.now in
    let ops = c.args.ops.now in
    let some = some_kept list ops c.in_ok-kept.kept.ops c.in_ok-kept.ensures.ops c.if-is_empty.ensures in
    let room = room_told list ops c.in_ok-kept.kept.ops c.in_ok-kept.ensures.ops c.deref.result.now c.deref.ensures.value c.lacks_room.result false c.lacks_room.ensures c.if-lacks_room.false in
    let can = chosen_can list ops c.args.now c.facts.ensures.end c.ranges.now.fits c.requires.few c.requires.fit some room in
    let lent = are_lent list ops c.in_ok-kept.kept.ops c.in_ok-kept.ensures.ops c.deref-2.result.now c.deref-2.ensures.value in
    is_spelled list ops c.args.now c.in_ok-stored.stored c.next_offset.result (told c.deref-2.result.now) c.next_offset.ensures lent can room c.in_ok-stored.ensures.spelling
