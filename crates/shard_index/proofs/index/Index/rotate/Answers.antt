use Rattle.std.proofs.Common.{sym, ap, ◌∙◌}
use Rattle.shard_index.specs.KeptIndex.{KeptIndex, cut_of, list_of}
use Rattle.shard_index.specs.Absorbing.{may_begin}
use Rattle.shard_index.proofs.IndexLemmas.{sound_after_begin}
use Rattle.shard_index.proofs.index.Index.rotate.Goals as goal

pub invariant_of-self-2 : goal.invariant_of-self-2
invariant_of-self-2 c =
    let index : KeptIndex = record { cuts = c.self.inside.cuts.items; messages = c.self.inside.messages.items; awaited = c.self.inside.awaited } in
    let may = ap (λ (k : KeptIndex). may_begin (list_of k) (cut_of c.args.cut.now)) c.self.view_is ∙ sym c.may_begin.ensures ∙ c.if-not-may_begin.false in
    (sound_after_begin index c.args.now c.args.cut.now c.self.inside.room c.begin_in.new.cuts.items c.self.invariant.0 may c.in_ok-begin_in.ensures.begun, c.self.invariant.1)
