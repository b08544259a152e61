use Rattle.std.proofs.Common.{arith, ◌+◌, ◌*◌, ◌-◌, ap}
use Rattle.std.proofs.lemmas.Result.{err_from_is_err_and}
use Rattle.wire_fields.proofs.Taken.{places_out, nothing_left, ends_here, goes_on, is_nought, is_raised, room_of, room_some, room_most}
use Rattle.wire_fields.proofs.reading.+var_within.Goals as goal

pub returns-then-places-eq0-clause-exact : goal.returns-then-places-eq0-clause-exact
returns-then-places-eq0-clause-exact t c = places_out c.args.places c.args.bytes.now c.if-places-eq0.true

pub returns-in_err-high-in-len1-up-2-clause-exact :
    goal.returns-in_err-high-in-len1-up-2-clause-exact
returns-in_err-high-in-len1-up-2-clause-exact t c =
    let p = err_from_is_err_and c.from_residual.result c.from_residual.ensures.1 in
    rw (p.1, p.2) (goes_on c.args.places c.args.bytes.now c.if-places-eq0.false c.in-len1-up.len_at_least _ c.if-last-lt128.false c.in_err-high-in-len1-up-2.ensures.exact)

pub returns-then-high-eq0-clause-exact : goal.returns-then-high-eq0-clause-exact
returns-then-high-eq0-clause-exact t c =
    is_nought c.args.places c.args.bytes.now c.if-places-eq0.false c.in-len1-up.len_at_least c.in_ok-high-in-len1-up-2.high c.in_ok-high-in-len1-up-2.rest.now
    c.if-last-lt128.false c.in_ok-high-in-len1-up-2.ensures.exact c.if-high-eq0.true

pub overflow_mul-result : goal.overflow_mul-result
overflow_mul-result t c = omega (arith, c.in_ok-high-in-len1-up-2.ensures.small, room_most (c.args.places - 1) (omega arith))

pub overflow_add-result : goal.overflow_add-result
overflow_add-result t c = omega (arith, c.in_ok-high-in-len1-up-2.ensures.small, room_most (c.args.places - 1) (omega arith), c.from-in-len1-up-2.ensures)

pub returns-in-empty-clause-exact : goal.returns-in-empty-clause-exact
returns-in-empty-clause-exact t c = nothing_left c.args.places c.args.bytes.now c.if-places-eq0.false c.in-empty.len_below

pub returns-in-len1-up-clause-exact : goal.returns-in-len1-up-clause-exact
returns-in-len1-up-clause-exact t c = ends_here c.args.places c.args.bytes.now c.if-places-eq0.false c.in-len1-up.len_at_least c.from.result c.if-last-lt128.true c.from.ensures

pub returns-in-len1-up-clause-small : goal.returns-in-len1-up-clause-small
returns-in-len1-up-clause-small t c = omega (arith, c.from.ensures, room_of c.args.places c.if-places-eq0.false, room_some (c.args.places - 1))

pub returns-else-high-eq0-clause-exact : goal.returns-else-high-eq0-clause-exact
returns-else-high-eq0-clause-exact t c =
    is_raised c.args.places c.args.bytes.now c.if-places-eq0.false c.in-len1-up.len_at_least c.in_ok-high-in-len1-up-2.high _ c.in_ok-high-in-len1-up-2.rest.now
    c.if-last-lt128.false c.in_ok-high-in-len1-up-2.ensures.exact c.if-high-eq0.false (ap (λ n. n + 128 * c.in_ok-high-in-len1-up-2.high) c.from-in-len1-up-2.ensures)
