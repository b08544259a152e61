use Rattle.std.proofs.Common.{take}
use Rattle.std.specs.List.{flat_map}
use Rattle.std.proofs.lemmas.Result.{err_from_is_err_and}
use Rattle.session_codec.specs.Spelling.{spelled_batch}
use Rattle.session_codec.specs.PutLaws.{begins_further}
use Rattle.session_codec.proofs.lists.put_each_batch.Goals as goal

pub returns-in_err-put_batch : goal.returns-in_err-put_batch
returns-in_err-put_batch c =
    let p = err_from_is_err_and c.from_residual.result c.from_residual.ensures.1 in
    rw p.1 record {
      exact = begins_further c.args.out.now.items (flat_map spelled_batch (take c.loop-batch.batch-index c.args.batches.now)) c.loop-batch.out.items
          c.put_batch.new.out.items c.loop-batch.invariant c.in_err-put_batch.ensures.exact;
    }
