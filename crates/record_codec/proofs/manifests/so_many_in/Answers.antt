use Rattle.std.proofs.Common.{◌+◌, ◌-◌, drop, arith}
use Rattle.std.proofs.lemmas.Result.{err_from_is_err_and}
use Rattle.session_codec.specs.PartLaws.{none_map, so_far_none, so_far_more, so_far_missing, so_far_all}
use Rattle.record_codec.specs.Reading.{cut_at}
use Rattle.record_codec.proofs.manifests.so_many_in.Goals as goal

pub loop-init : goal.loop-init
loop-init c = rw c.new-cuts.ensures.items (so_far_none cut_at c.args.count (drop c.args.at.now c.args.bytes.now) (c.args.count - 0) (omega arith))

pub returns-in_err-cut : goal.returns-in_err-cut
returns-in_err-cut c =
    let p = err_from_is_err_and c.from_residual.result c.from_residual.ensures.1 in
    rw (p.1, p.2) record {
      exact = none_map c.in_err-cut.field-0.0 _ _
          (so_far_missing cut_at c.args.count (drop c.args.at.now c.args.bytes.now) c.loop.cuts.items (c.args.count - c.loop.counter)
          (c.args.count - (c.loop.counter + 1)) (drop c.loop.at c.args.bytes.now) (omega arith) c.loop.invariant)
          c.in_err-cut.ensures.exact;
    }

pub loop-preserved : goal.loop-preserved
loop-preserved c =
    rw c.in_ok-push.ensures.items
    (so_far_more cut_at c.args.count (drop c.args.at.now c.args.bytes.now) c.loop.cuts.items (c.args.count - c.loop.counter)
    (c.args.count - (c.loop.counter + 1)) (drop c.loop.at c.args.bytes.now) (c.in_ok-cut.cut, drop c.cut_in.new.at c.args.bytes.now) (omega arith) c.loop.invariant
    c.in_ok-cut.ensures.exact)

pub returns : goal.returns
returns c = record {
  exact = so_far_all cut_at c.args.count (drop c.args.at.now c.args.bytes.now) c.loop.cuts.items (c.args.count - c.loop.counter)
      (drop c.loop.at c.args.bytes.now) (omega arith) c.loop.invariant;
}
