use Rattle.std.proofs.Common.{◌++◌}
use Rattle.wire_fields.specs.Spelled.{spelled_u16, spelled_u32, spelled_u64, spelled_text}
use Rattle.session_codec.specs.Spelling.{spelled_moment}
use Rattle.session_codec.specs.PutLaws.{puts_two}
use Rattle.session_codec.proofs.putting_sessions.put_holder.Goals as goal

pub returns : goal.returns
returns c =
    let m = c.args.session.now in
    record {
      exact = puts_two c.args.out.now.items (spelled_text m.client)
          (spelled_u64 m.incarnation ++ (spelled_u32 m.expiry ++ (spelled_u16 m.window ++ spelled_moment m.parted)))
          c.put_client.new.out.items c.put_told.new.out.items c.in_ok-put_client.ensures.exact c.in_ok-put_told.ensures.exact;
    }
