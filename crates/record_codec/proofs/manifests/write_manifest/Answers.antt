use Rattle.std.proofs.Common.{rules, ◌≡◌, length, ◌∙◌}
use Rattle.session_codec.specs.PutLaws.{taken_back}
use Rattle.record_codec.specs.CountLaws.{manifest_few}
use Rattle.record_codec.proofs.manifests.write_manifest.Goals as goal

pub put_manifest-requires : goal.put_manifest-requires
put_manifest-requires c = manifest_few c.args.manifest.now c.requires

pub returns-in-Err-clause-err : goal.returns-in-Err-clause-err
returns-in-Err-clause-err c =
    let before : c.len-before.result ≡ length c.args.out.now.items = search rules in
    c.truncate.ensures.items ∙ rw before (taken_back c.args.out.now.items c.put_manifest.new.out.items c.in-Err.ensures.exact)
