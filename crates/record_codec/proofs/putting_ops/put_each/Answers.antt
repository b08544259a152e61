use Rattle.std.proofs.Common.{take}
use Rattle.std.specs.List.{flat_map}
use Rattle.std.proofs.lemmas.Result.{err_from_is_err_and}
use Rattle.session_codec.specs.PutLaws.{begins_further}
use Rattle.record_codec.specs.Spelling.{spelled_op}
use Rattle.record_codec.proofs.putting_ops.put_each.Goals as goal

pub returns-in_err-put_op : goal.returns-in_err-put_op
returns-in_err-put_op c =
    let p = err_from_is_err_and c.from_residual.result c.from_residual.ensures.1 in
    rw p.1 record {
      exact = begins_further c.args.out.now.items (flat_map spelled_op (take c.loop-op.op-index c.args.ops.now)) c.loop-op.out.items
          c.put_op.new.out.items c.loop-op.invariant c.in_err-put_op.ensures.exact;
    }
