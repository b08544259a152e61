use Rattle.std.proofs.Common.{take, arith}
use Rattle.std.specs.List.{flat_map}
use Rattle.std.proofs.lemmas.Result.{err_from_is_err_and}
use Rattle.session_codec.specs.Spelling.{spelled_sub}
use Rattle.session_codec.specs.PutLaws.{begins_further, puts_one_more}
use Rattle.session_codec.proofs.lists.put_each_sub.Goals as goal

pub returns-in_err-put_sub : goal.returns-in_err-put_sub
returns-in_err-put_sub c =
    let p = err_from_is_err_and c.from_residual.result c.from_residual.ensures.1 in
    rw p.1 record {
      exact = begins_further c.args.out.now.items (flat_map spelled_sub (take c.loop-sub.sub-index c.args.subs.now)) c.loop-sub.out.items
          c.put_sub.new.out.items c.loop-sub.invariant c.in_err-put_sub.ensures.exact;
    }

pub loop-sub-preserved : goal.loop-sub-preserved
loop-sub-preserved c =
    puts_one_more spelled_sub c.args.out.now.items c.args.subs.now c.loop-sub.sub-index c.sub-item.result c.loop-sub.out.items c.put_sub.new.out.items
    (omega arith) c.sub-item.is c.loop-sub.invariant c.in_ok-put_sub.ensures.exact
