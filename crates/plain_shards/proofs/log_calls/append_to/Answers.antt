use Rattle.std.proofs.Common.{IsTrue, length, sym, subst, refl}
use Rattle.std.proofs.lemmas.Option.{slice_get_read}
use Rattle.topic_name.specs.PlainConfig.{plain_config}
use Rattle.shard_model.specs.Lists.{IsList}
use Rattle.shard_index.specs.KeptIndex.{KeptIndex, list_of}
use Rattle.shard_fold.specs.declared.asked.Asked.{Asked}
use Rattle.group_plan.specs.Asking.{may_ask}
use Rattle.plain_shards.specs.Calls.{AppendsLater}
use Rattle.plain_shards.specs.KeptShards.{asked_of}
use Rattle.plain_shards.proofs.LaterLemmas.{appended}
use Rattle.plain_shards.proofs.ListLemmas.{asked_at, moved_same, moved_set}
use Rattle.plain_shards.proofs.log_calls.append_to.Goals as goal

pub append-requires : goal.append-requires
append-requires g c =
    let logs = c.args.logs.now.items in
    let log = c.index_mut-log.result.now in
    let is = slice_get_read logs (length logs) c.args.shard log refl c.requires.place c.index_mut-log.ensures.value in
    record { asked = subst (λ (a : Asked). IsTrue (may_ask (plain_config a.config) c.args.ops.now)) (sym (asked_at logs c.args.shard log c.requires.shards is)) c.requires.asked }

pub returns : goal.returns
returns g c =
    let logs = c.args.logs.now.items in
    let log = c.index_mut-log.result.now in
    let R = AppendsLater g.D.Disk.state c.args.ops.now c.args.now c.append.result in
    let order = subst (λ (i : KeptIndex). IsList (list_of i)) c.index.ensures c.facts.ensures.order in
    let moved = moved_set R logs c.args.shard log c.append.new.self c.requires.place c.index_mut-log.ensures.value
    (appended g.D.Disk.state log c.append.new.self order c.args.ops.now c.args.now c.append.result c.append.ensures.appends) in
    record { moved = moved; asked = moved_same asked_of R (λ old new r. r.appends.part.asked) c.args.shard logs _ moved }
