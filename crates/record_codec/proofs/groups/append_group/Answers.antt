use Rattle.std.proofs.Common.{rules, ◌≡◌, length, ◌∙◌}
use Rattle.session_codec.specs.PutLaws.{taken_back}
use Rattle.record_codec.specs.CountLaws.{group_told, group_few}
use Rattle.record_codec.proofs.groups.append_group.Goals as goal

pub put_group-requires-clause-told : goal.put_group-requires-clause-told
put_group-requires-clause-told c = group_told c.args.group.now c.requires

pub put_group-requires-clause-few : goal.put_group-requires-clause-few
put_group-requires-clause-few c = group_few c.args.group.now c.requires

pub returns-in-Err-clause-err : goal.returns-in-Err-clause-err
returns-in-Err-clause-err c =
    let before : c.len-before.result ≡ length c.args.out.now.items = search rules in
    c.truncate.ensures.items ∙ rw before (taken_back c.args.out.now.items c.put_group.new.out.items c.in-Err.ensures.exact)
