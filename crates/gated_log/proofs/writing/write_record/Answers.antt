use Rattle.std.proofs.Common.{arith}
use Rattle.outside.specs.DiskModel.{leaves_only_weaker}
use Rattle.outside.specs.Results.{on_ok_then}
use Rattle.gated_log.proofs.CommitLemmas.{in_commit, written_list, written_stands}
use Rattle.gated_log.proofs.writing.write_record.Goals as goal

pub returns-clause-list : goal.returns-clause-list
returns-clause-list g c = on_ok_then c.write_gated.result
    (λ written told. written_list _ c.args.draft.now c.args.place _ c.write_gated.ensures.some (omega (arith, c.write_gated.ensures.short)) (written told).0)
    c.write_gated.ensures.written

pub returns-clause-stands : goal.returns-clause-stands
returns-clause-stands g c = on_ok_then c.write_gated.result
    (λ written told. (written_stands _ c.args.draft.now c.args.place _ c.write_gated.ensures.some (omega (arith, c.write_gated.ensures.short)) (written told).0, (written told).1))
    c.write_gated.ensures.written

pub returns-clause-any_moment : goal.returns-clause-any_moment
returns-clause-any_moment g c = λ told. leaves_only_weaker _ _ _ _ (c.write_gated.ensures.any_moment told)
    (λ image inside. in_commit _ c.args.draft.now c.args.place image c.write_gated.ensures.some (omega (arith, c.write_gated.ensures.short)) inside)
