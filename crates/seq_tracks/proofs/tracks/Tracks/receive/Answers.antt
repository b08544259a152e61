use Rattle.std.proofs.Common.{◌+◌, ◌-◌, ap, ◌∙◌}
use Rattle.session_model.specs.Acting.{numbers_from}
use Rattle.seq_tracks.specs.PlainTracks.{PlainTracks}
use Rattle.seq_tracks.specs.InOrder.{tracks_of}
use Rattle.seq_tracks.specs.Changed.{with_done}
use Rattle.seq_tracks.specs.ChangedLaws.{with_done_is}
use Rattle.seq_tracks.proofs.tracks.Tracks.receive.Goals as goal

pub returns : goal.returns
returns c =
    let t = tracks_of c.self.inside.marks c.self.inside.done.items in
    let new = numbers_from (t.received + 1) (c.args.last - t.received) in
    with_done_is t c.args.seq new c.pass_over-self-inside.result c.pass_over-self-inside.new.done.items (c.pass_over-self-inside.ensures.done c.args.seq c.requires.to)
    ∙ ap (λ (t : PlainTracks). with_done c.args.seq (numbers_from (t.received + 1) (c.args.last - t.received)) t) c.self.view_is
