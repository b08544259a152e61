use Rattle.std.proofs.Common.{arith, ◌≡◌, ◌<◌, Some, length, sym, subst}
use Rattle.shard_views.specs.Views.{Unviewed, standing_at}
use Rattle.plain_shards.specs.KeptShards.{KeptShards, readers}
use Rattle.plain_shards.proofs.ListLemmas.{few_logs}
use Rattle.plain_shards.proofs.ViewLemmas.{views_begin, within}
use Rattle.plain_shards.proofs.plain_shards.PlainShardsReaders.view.Goals as goal

pub bounds-self-inside-shard : goal.bounds-self-inside-shard
bounds-self-inside-shard g c =
    let unviewed = subst (λ (s : KeptShards g.row.D.Denot). standing_at (readers s) c.args.shard ≡ Some Unviewed) (sym c.self.view_is) c.requires.unviewed in
    let short = within c.self.inside.in_view c.self.inside.logs.items c.args.shard Unviewed unviewed in
    let few = few_logs c.self.inside.logs.items c.self.invariant in
    omega (arith, short, few)

pub returns-clause-views : goal.returns-clause-views
returns-clause-views g c =
    let old : KeptShards g.row.D.Denot = record { logs = c.self.inside.logs.items; in_view = c.self.inside.in_view } in
    let unviewed = subst (λ (s : KeptShards g.row.D.Denot). standing_at (readers s) c.args.shard ≡ Some Unviewed) (sym c.self.view_is) c.requires.unviewed in
    let short = within c.self.inside.in_view c.self.inside.logs.items c.args.shard Unviewed unviewed in
    let few = few_logs c.self.inside.logs.items c.self.invariant in
    let eight = c.self.told in
    let within_eight : c.args.shard < length c.self.inside.in_view = omega (arith, short, few, eight) in
    rw (← c.self.view_is) (views_begin old c.args.shard unviewed within_eight)
