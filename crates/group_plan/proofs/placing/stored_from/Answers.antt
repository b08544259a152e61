use Rattle.group_plan.specs.RoomLaws.{can_be_written}
use Rattle.group_plan.proofs.References.{told}
use Rattle.group_plan.proofs.placing.stored_from.Goals as goal

pub write_group-requires : goal.write_group-requires
write_group-requires c = rw c.in_ok-ops.ensures (can_be_written c.args.now c.args.first (told c.args.kept.now) c.requires)
