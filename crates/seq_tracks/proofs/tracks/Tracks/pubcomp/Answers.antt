use Rattle.std.proofs.Common.{[], ◌∷◌, ap, ◌∙◌}
use Rattle.seq_tracks.specs.PlainTracks.{PlainTracks}
use Rattle.seq_tracks.specs.InOrder.{tracks_of}
use Rattle.seq_tracks.specs.Changed.{done_tracks}
use Rattle.seq_tracks.specs.ChangedLaws.{with_done_is}
use Rattle.seq_tracks.proofs.tracks.Tracks.pubcomp.Goals as goal

pub returns : goal.returns
returns c =
    let t = tracks_of c.self.inside.marks c.self.inside.done.items in
    with_done_is t t.received (c.args.seq ∷ []) c.finish-self-inside.result c.finish-self-inside.new.done.items c.finish-self-inside.ensures.done
    ∙ ap (λ (t : PlainTracks). done_tracks c.args.seq t) c.self.view_is
