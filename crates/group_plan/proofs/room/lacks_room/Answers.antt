use Rattle.shard_index.specs.KeptIndex.{list_of}
use Rattle.group_plan.specs.RoomLaws.{lacks_by}
use Rattle.group_plan.proofs.References.{told}
use Rattle.group_plan.proofs.room.lacks_room.Goals as goal

pub returns : goal.returns
returns c =
    lacks_by (list_of c.args.index.now) (told c.args.kept.now) c.store_count-count.result c.stores_length.result c.takes_more.result c.store_count-count.ensures.count
    c.if-count-eq0.false c.stores_length.ensures c.takes_more.ensures
