use Rattle.std.proofs.Common.{rules, ◌≡◌, length, ◌∙◌}
use Rattle.session_codec.specs.PutLaws.{taken_back}
use Rattle.record_codec.specs.CountLaws.{opening_told, opening_few}
use Rattle.record_codec.proofs.openings.write_opening.Goals as goal

pub put_opening-requires-clause-publishers : goal.put_opening-requires-clause-publishers
put_opening-requires-clause-publishers c = opening_told c.args.opening.now c.requires

pub put_opening-requires-clause-few : goal.put_opening-requires-clause-few
put_opening-requires-clause-few c = opening_few c.args.opening.now c.requires

pub returns-in-Err-clause-err : goal.returns-in-Err-clause-err
returns-in-Err-clause-err c =
    let before : c.len-before.result ≡ length c.args.out.now.items = search rules in
    c.truncate.ensures.items ∙ rw before (taken_back c.args.out.now.items c.put_opening.new.out.items c.in-Err.ensures.exact)
