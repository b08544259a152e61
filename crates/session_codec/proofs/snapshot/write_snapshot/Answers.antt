use Rattle.std.proofs.Common.{rules, ◌≡◌, length, ◌∙◌}
use Rattle.session_codec.specs.CountLaws.{all_counts}
use Rattle.session_codec.specs.PutLaws.{taken_back}
use Rattle.session_codec.proofs.snapshot.write_snapshot.Goals as goal

pub put_snapshot-requires-clause-counts : goal.put_snapshot-requires-clause-counts
put_snapshot-requires-clause-counts c = all_counts c.args.shards c.args.workers c.args.worker c.args.sessions.now c.requires

pub returns-in-Err-clause-err : goal.returns-in-Err-clause-err
returns-in-Err-clause-err c =
    let before : c.len-before.result ≡ length c.args.out.now.items = search rules in
    c.truncate.ensures.items ∙ rw before (taken_back c.args.out.now.items c.put_snapshot.new.out.items c.in-Err.ensures.exact)
