use Rattle.std.proofs.Common.{◌<◌, ◌∙◌, length, sym, arith}
use Rattle.shard_fold.proofs.SameLemmas.{none_at, one_agrees, one_differs, other_lengths}
use Rattle.shard_fold.proofs.openings.are_same.Goals as goal

pub returns-then-awaited-awaited_count : goal.returns-then-awaited-awaited_count
returns-then-awaited-awaited_count c =
    sym (other_lengths c.args.awaited.now c.args.index.now.awaited (λ e. c.if-awaited-awaited_count.true (e ∙ sym c.awaited_count.ensures)))

pub returns-in_default : goal.returns-in_default
returns-in_default c =
    let less : c.loop-place.place < length c.args.index.now.awaited = omega (arith, c.awaited_count.ensures, c.loop-place-test.true, c.if-awaited-awaited_count.false) in
    absurd (none_at c.args.index.now.awaited c.loop-place.place c.index-awaited-place.result less c.in_default.ensures)

pub returns-then-ne : goal.returns-then-ne
returns-then-ne c =
    let less : c.loop-place.place < length c.args.index.now.awaited = omega (arith, c.awaited_count.ensures, c.loop-place-test.true, c.if-awaited-awaited_count.false) in
    one_differs c.args.awaited.now c.args.index.now.awaited c.loop-place.place c.index-awaited-place.result c.in-Some.other.now c.loop-place-test.true less
    c.index-awaited-place.is c.in-Some.ensures c.if-ne.ensures c.loop-place.invariant

pub loop-place-preserved : goal.loop-place-preserved
loop-place-preserved c =
    let less : c.loop-place.place < length c.args.index.now.awaited = omega (arith, c.awaited_count.ensures, c.loop-place-test.true, c.if-awaited-awaited_count.false) in
    one_agrees c.args.awaited.now c.args.index.now.awaited c.loop-place.place c.index-awaited-place.result c.in-Some.other.now c.loop-place-test.true less
    c.index-awaited-place.is c.in-Some.ensures c.if-ne.ensures c.loop-place.invariant
