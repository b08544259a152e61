use Rattle.std.proofs.Common.{List, ap, true}
use Rattle.shard_log.specs.Appending.{Arms}
use Rattle.shard_log.specs.PlainShardLog.{PlainShardLog}
use Rattle.shard_views.specs.Views.{ShardView}
use Rattle.plain_shards.proofs.ViewLemmas.{moved_views}
use Rattle.plain_shards.proofs.plain_shards.PlainShards.arm.Goals as goal

pub returns-clause-arms : goal.returns-clause-arms
returns-clause-arms g c = rw (← c.self.view_is) c.arm_at.ensures.moved

pub returns-clause-seen : goal.returns-clause-seen
returns-clause-seen g c =
    rw (← c.self.view_is)
    (ap (λ (vs : List ShardView). record { shards = vs; misses = 0; views_again = true })
    (moved_views (λ (old new : PlainShardLog g.row.D.Denot). Arms g.D.Disk.state (g.D.Disk.arms_at c.args.call) c.args.disk old new c.arm_at.result) _ c.self.inside.logs.items c.arm_at.new.logs.items
    (λ old new arms. ap (λ (s : PlainShardLog g.row.D.Denot). s.index) arms.stays) c.arm_at.ensures.moved c.self.inside.in_view))
