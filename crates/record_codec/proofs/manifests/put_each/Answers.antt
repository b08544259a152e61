use Rattle.std.proofs.Common.{take, arith}
use Rattle.std.specs.List.{flat_map}
use Rattle.std.proofs.lemmas.Result.{err_from_is_err_and}
use Rattle.std.proofs.lemmas.List.{get_or_default}
use Rattle.session_codec.specs.PutLaws.{begins_further, puts_one_more}
use Rattle.record_codec.specs.Spelling.{spelled_cut}
use Rattle.record_codec.proofs.manifests.put_each.Goals as goal

pub returns-in_err-put_cut : goal.returns-in_err-put_cut
returns-in_err-put_cut c =
    let p = err_from_is_err_and c.from_residual.result c.from_residual.ensures.1 in
    rw p.1 record {
      exact = begins_further c.args.out.now.items (flat_map spelled_cut (take c.loop-cut.cut-index c.args.cuts.now)) c.loop-cut.out.items
          c.put_cut.new.out.items c.loop-cut.invariant c.in_err-put_cut.ensures.exact;
    }

pub loop-cut-preserved : goal.loop-cut-preserved
loop-cut-preserved c =
    puts_one_more spelled_cut c.args.out.now.items c.args.cuts.now c.loop-cut.cut-index _ c.loop-cut.out.items c.put_cut.new.out.items (omega arith)
    (get_or_default c.args.cuts.now c.loop-cut.cut-index _ _ (omega arith))
    c.loop-cut.invariant c.in_ok-put_cut.ensures.exact
