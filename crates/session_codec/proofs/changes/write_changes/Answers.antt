use Rattle.std.proofs.Common.{rules, ◌≡◌, length, ◌∙◌}
use Rattle.session_codec.specs.PutLaws.{taken_back}
use Rattle.session_codec.proofs.changes.write_changes.Goals as goal

pub returns-in-Err-clause-err : goal.returns-in-Err-clause-err
returns-in-Err-clause-err c =
    let before : c.len-before.result ≡ length c.args.out.now.items = search rules in
    c.truncate.ensures.items ∙ rw before (taken_back c.args.out.now.items c.put_changes.new.out.items c.in-Err.ensures.exact)
