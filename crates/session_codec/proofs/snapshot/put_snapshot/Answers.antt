use Rattle.std.proofs.Common.{◌∷◌, []}
use Rattle.session_codec.specs.declared.formats.TheConstants.{SECOND_FORMAT}
use Rattle.session_codec.specs.Spelling.{spelled_sessions}
use Rattle.session_codec.specs.PutLaws.{puts_two}
use Rattle.session_codec.proofs.snapshot.put_snapshot.Goals as goal

pub returns : goal.returns
returns c =
    let a = c.args in
    record {
      exact = puts_two a.out.now.items (SECOND_FORMAT ∷ a.shards ∷ a.workers ∷ a.worker ∷ []) (spelled_sessions SECOND_FORMAT a.sessions.now)
          c.put_numbers.new.out.items c.put_sessions.new.out.items c.in_ok-put_numbers.ensures.exact c.in_ok-put_sessions.ensures.exact;
    }
