use Rattle.std.proofs.Common.{take}
use Rattle.std.specs.List.{flat_map}
use Rattle.std.proofs.lemmas.Result.{err_from_is_err_and}
use Rattle.session_codec.specs.Spelling.{spelled_version}
use Rattle.session_codec.specs.PutLaws.{begins_further}
use Rattle.session_codec.proofs.lists.put_each_version.Goals as goal

pub returns-in_err-put_version : goal.returns-in_err-put_version
returns-in_err-put_version c =
    let p = err_from_is_err_and c.from_residual.result c.from_residual.ensures.1 in
    rw p.1 record {
      exact = begins_further c.args.out.now.items (flat_map spelled_version (take c.loop-version.version-index c.args.versions.now)) c.loop-version.out.items
          c.put_version.new.out.items c.loop-version.invariant c.in_err-put_version.ensures.exact;
    }
