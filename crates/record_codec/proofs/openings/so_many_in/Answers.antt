use Rattle.std.proofs.Common.{◌+◌, ◌-◌, drop, arith}
use Rattle.std.proofs.lemmas.Result.{err_from_is_err_and}
use Rattle.session_codec.specs.PartLaws.{none_map, so_far_none, so_far_more, so_far_missing, so_far_all}
use Rattle.record_codec.specs.Reading.{awaited_at}
use Rattle.record_codec.proofs.openings.so_many_in.Goals as goal

pub loop-init : goal.loop-init
loop-init c = rw c.new-all.ensures.items (so_far_none awaited_at c.args.count (drop c.args.at.now c.args.bytes.now) (c.args.count - 0) (omega arith))

pub returns-in_err-awaited : goal.returns-in_err-awaited
returns-in_err-awaited c =
    let p = err_from_is_err_and c.from_residual.result c.from_residual.ensures.1 in
    rw (p.1, p.2) record {
      exact = none_map c.in_err-awaited.field-0.0 _ _
          (so_far_missing awaited_at c.args.count (drop c.args.at.now c.args.bytes.now) c.loop.all.items (c.args.count - c.loop.counter)
          (c.args.count - (c.loop.counter + 1)) (drop c.loop.at c.args.bytes.now) (omega arith) c.loop.invariant)
          c.in_err-awaited.ensures.exact;
    }

pub loop-preserved : goal.loop-preserved
loop-preserved c =
    rw c.in_ok-push.ensures.items
    (so_far_more awaited_at c.args.count (drop c.args.at.now c.args.bytes.now) c.loop.all.items (c.args.count - c.loop.counter)
    (c.args.count - (c.loop.counter + 1)) (drop c.loop.at c.args.bytes.now) (c.in_ok-awaited.awaited, drop c.awaited_in.new.at c.args.bytes.now) (omega arith) c.loop.invariant
    c.in_ok-awaited.ensures.exact)

pub returns : goal.returns
returns c = record {
  exact = so_far_all awaited_at c.args.count (drop c.args.at.now c.args.bytes.now) c.loop.all.items (c.args.count - c.loop.counter)
      (drop c.loop.at c.args.bytes.now) (omega arith) c.loop.invariant;
}
