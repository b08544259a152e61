use Rattle.std.proofs.Common.{◌+◌, ◌-◌, ◌≤◌, drop, arith}
use Rattle.std.proofs.lemmas.Result.{err_from_is_err_and}
use Rattle.session_codec.specs.PartLaws.{none_map}
use Rattle.record_codec.specs.Records.{offsets_of}
use Rattle.record_codec.specs.Reading.{op_at}
use Rattle.record_codec.specs.LoopLaws.{so_far_none, so_far_more, so_far_missing, so_far_all, at_most_one}
use Rattle.record_codec.proofs.ops.so_many_in.Goals as goal

pub loop-init : goal.loop-init
loop-init c = record {
  far = rw c.new-ops.ensures.items
      (so_far_none op_at offsets_of c.args.first c.args.count (drop c.args.at.now c.args.bytes.now) (c.args.first + 0) (c.args.count - 0) (omega arith) (omega arith));
  few = omega arith;
}

pub returns-in_err-op : goal.returns-in_err-op
returns-in_err-op c =
    let p = err_from_is_err_and c.from_residual.result c.from_residual.ensures.1 in
    rw (p.1, p.2) record {
      exact = none_map c.in_err-op.field-0.0 _ _
          (so_far_missing op_at offsets_of c.args.first c.args.count (drop c.args.at.now c.args.bytes.now) c.loop.ops.items (c.args.first + c.loop.stores)
          (c.args.count - c.loop.counter) (c.args.count - (c.loop.counter + 1)) (drop c.loop.at c.args.bytes.now) (omega arith) c.loop.invariant.far)
          c.in_err-op.ensures.exact;
    }

pub loop-preserved : goal.loop-preserved
loop-preserved c =
    let one : offsets_of c.in_ok-op.op ≤ 1 = at_most_one c.in_ok-op.op in
    record {
      far = rw c.in_ok-push.ensures.items
          (so_far_more op_at offsets_of c.args.first c.args.count (drop c.args.at.now c.args.bytes.now) c.loop.ops.items (c.args.first + c.loop.stores)
          (c.args.count - c.loop.counter) (c.args.first + (c.loop.stores + c.offsets_of-stores.result)) (c.args.count - (c.loop.counter + 1)) (drop c.loop.at c.args.bytes.now)
          (c.in_ok-op.op, drop c.op_in.new.at c.args.bytes.now) (omega arith) (omega (arith, c.offsets_of-stores.ensures)) c.loop.invariant.far c.in_ok-op.ensures.exact);
      few = omega (arith, c.offsets_of-stores.ensures);
    }

pub returns : goal.returns
returns c = record {
  exact = so_far_all op_at offsets_of c.args.first c.args.count (drop c.args.at.now c.args.bytes.now) c.loop.ops.items (c.args.first + c.loop.stores)
      (c.args.count - c.loop.counter) (drop c.loop.at c.args.bytes.now) (omega arith) c.loop.invariant.far;
}
