use Rattle.std.proofs.Common.{sym}
use Rattle.session_codec.specs.Spelling.{spelled_session}
use Rattle.session_codec.specs.PutLaws.{puts_one_more, found_at}
use Rattle.session_codec.proofs.putting_sessions.put_each.Goals as goal

pub loop-place-preserved : goal.loop-place-preserved
loop-place-preserved c =
    let list = c.args.sessions.now.list in
    let session = c.in-Some.session.now in
    let found = found_at list c.loop-place.place session (sym c.in-Some.ensures) in
    puts_one_more (spelled_session 2) c.args.out.now.items list c.loop-place.place session c.loop-place.out.items c.put_session.new.out.items
    found.0 found.1 c.loop-place.invariant c.in_ok-put_session.ensures.exact
