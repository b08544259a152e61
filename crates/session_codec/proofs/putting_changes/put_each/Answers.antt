use Rattle.std.proofs.Common.{take}
use Rattle.std.specs.List.{flat_map}
use Rattle.std.proofs.lemmas.Result.{err_from_is_err_and}
use Rattle.session_codec.specs.Spelling.{spelled_change}
use Rattle.session_codec.specs.PutLaws.{begins_further}
use Rattle.session_codec.proofs.putting_changes.put_each.Goals as goal

pub returns-in_err-put_change : goal.returns-in_err-put_change
returns-in_err-put_change c =
    let p = err_from_is_err_and c.from_residual.result c.from_residual.ensures.1 in
    rw p.1 record {
      exact = begins_further c.args.out.now.items (flat_map (spelled_change 2) (take c.loop-change.change-index c.args.changes.now)) c.loop-change.out.items
          c.put_change.new.out.items c.loop-change.invariant c.in_err-put_change.ensures.exact;
    }
