use Rattle.std.proofs.Common.{get_or, arith}
use Rattle.session_state.specs.declared.batch.Batch.{Batch}
use Rattle.session_state.proofs.SoundLemmas.{run_fits}
use Rattle.session_state.proofs.sound.are_issued.Goals as goal

abbrev no_batch : Batch
no_batch = record { version = 0; shard = 0; generation = 0; stream = 0; from = 0; to = 0; limit = 0; first1 = 0; count1 = 0; first2 = 0; count2 = 0 }

pub overflow_add-low1 : goal.overflow_add-low1
overflow_add-low1 c =
    let b : Batch = get_or c.args.batches.now c.loop-batch.batch-index no_batch in
    let last = c.done-order.ensures.order.last1 in
    let is_last = c.issued1.ensures in
    let fits = run_fits c.loop-batch.low1 c.issued1.result b.first1 b.count1 c.is_run.result c.is_run.ensures c.if-not-is_run.false (omega arith) in
    let same = c.from.ensures in
    omega (arith, fits, same)

pub overflow_add-low2 : goal.overflow_add-low2
overflow_add-low2 c =
    let b : Batch = get_or c.args.batches.now c.loop-batch.batch-index no_batch in
    let last = c.done-order.ensures.order.last2 in
    let is_last = c.issued2.ensures in
    let fits = run_fits c.loop-batch.low2 c.issued2.result b.first2 b.count2 c.is_run-else-not-is_run.result c.is_run-else-not-is_run.ensures c.if-not-is_run-2.false (omega arith) in
    let same = c.from-in-loop-batch.ensures in
    omega (arith, fits, same)
