use Rattle.std.proofs.Common.{take}
use Rattle.std.specs.List.{flat_map}
use Rattle.std.proofs.lemmas.Result.{err_from_is_err_and}
use Rattle.session_codec.specs.PutLaws.{begins_further}
use Rattle.record_codec.specs.Spelling.{spelled_awaited}
use Rattle.record_codec.proofs.openings.put_each.Goals as goal

pub returns-in_err-put_awaited : goal.returns-in_err-put_awaited
returns-in_err-put_awaited c =
    let p = err_from_is_err_and c.from_residual.result c.from_residual.ensures.1 in
    rw p.1 record {
      exact = begins_further c.args.out.now.items (flat_map spelled_awaited (take c.loop-awaited.awaited-index c.args.all.now)) c.loop-awaited.out.items
          c.put_awaited.new.out.items c.loop-awaited.invariant c.in_err-put_awaited.ensures.exact;
    }
