use Rattle.std.proofs.Common.{◌+◌, sym, subst}
use Rattle.std.specs.List.Sorted.{IsStrictlyIncreasing}
use Rattle.seq_tracks.proofs.SearchLemmas.{increasing}
use Rattle.seq_tracks.proofs.tracks.Tracks.is_done.Goals as goal

pub has-requires : goal.has-requires
has-requires c =
    let m = c.self.inside.marks in
    subst IsStrictlyIncreasing (sym c.deref.ensures.value) (increasing (m.complete + 1) m.received c.self.inside.done.items c.self.invariant.order.done)
