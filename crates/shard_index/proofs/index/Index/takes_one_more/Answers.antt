use Rattle.std.proofs.Common.{◌-◌, nat_lt, map, sym, ap, ◌∙◌, arith}
use Rattle.shard_model.specs.ShardList.{newest_of, next_of}
use Rattle.shard_index.specs.KeptIndex.{KeptIndex, cut_of, list_of}
use Rattle.shard_index.specs.SoundLaws.{takes_one_more}
use Rattle.shard_index.proofs.IndexLemmas.{count_test, first_within}
use Rattle.shard_index.proofs.index.Index.takes_one_more.Goals as goal

pub overflow_sub-result : goal.overflow_sub-result
overflow_sub-result c =
    let index : KeptIndex = record { cuts = c.self.inside.cuts.items; messages = c.self.inside.messages.items; awaited = c.self.inside.awaited } in
    let at = c.newest_in-newest.ensures ∙ ap (λ l. newest_of (map cut_of l)) c.deref.ensures.value in
    let next = c.next_offset.ensures ∙ ap (λ (k : KeptIndex). next_of (list_of k)) (sym c.self.view_is) in
    let within = first_within (list_of index) c.newest_in-newest.result.now c.self.inside.room c.self.invariant.0 at in
    omega arith

pub returns : goal.returns
returns c =
    let index : KeptIndex = record { cuts = c.self.inside.cuts.items; messages = c.self.inside.messages.items; awaited = c.self.inside.awaited } in
    let at = c.newest_in-newest.ensures ∙ ap (λ l. newest_of (map cut_of l)) c.deref.ensures.value in
    let next = c.next_offset.ensures ∙ ap (λ (k : KeptIndex). next_of (list_of k)) (sym c.self.view_is) in
    ap (λ n. nat_lt (n - c.newest_in-newest.result.now.first) c.into.result) next
    ∙ ap (λ n. nat_lt (next_of (list_of index) - c.newest_in-newest.result.now.first) n) c.into.ensures
    ∙ count_test (list_of index) c.newest_in-newest.result.now c.self.inside.room c.self.invariant.0 at
    ∙ ap (λ (k : KeptIndex). takes_one_more (list_of k)) c.self.view_is
