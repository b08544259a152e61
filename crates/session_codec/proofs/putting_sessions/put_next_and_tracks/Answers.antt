use Rattle.std.proofs.Common.{◌++◌, ◌∙◌, ap}
use Rattle.wire_fields.specs.Spelled.{spelled_u32}
use Rattle.session_codec.specs.Spelling.{spelled_tracks}
use Rattle.session_codec.specs.PutLaws.{puts_two}
use Rattle.session_codec.proofs.putting_sessions.put_next_and_tracks.Goals as goal

pub returns : goal.returns
returns c =
    let m = c.args.session.now in
    let between = c.put_next.new.out.items in
    record {
      exact = puts_two c.args.out.now.items (spelled_u32 m.next_sub ++ spelled_u32 m.next_version) (spelled_tracks m.tracks)
          between c.put_tracks.new.out.items c.in_ok-put_next.ensures.exact
          (c.in_ok-put_tracks.ensures.exact ∙ ap (λ t. between ++ spelled_tracks t) c.tracks.ensures);
    }
