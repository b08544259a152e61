use Rattle.std.proofs.Common.{drop, Ok, sym, ap, subst, ◌∙◌, refl}
use Rattle.std.proofs.lemmas.Result.{err_from_is_err_and}
use Rattle.wire_fields.specs.Reading.{u16_at, bin_at, bytes_of}
use Rattle.wire_fields.proofs.Taken.{TakenTo, size_refused, body_refused, body_taken}
use Rattle.wire_fields.proofs.reading.bin_in.Goals as goal

pub returns-in_err-u16_in : goal.returns-in_err-u16_in
unfolding bin_at
returns-in_err-u16_in c =
    let p = err_from_is_err_and c.from_residual.result c.from_residual.ensures.1 in
    rw (p.1, p.2) (size_refused bytes_of c.args.bytes.now c.args.at.now c.in_err-u16_in.field-0.0 c.in_err-u16_in.ensures.0, refl)

pub returns-in_err-field : goal.returns-in_err-field
unfolding bin_at
returns-in_err-field c =
    let p = err_from_is_err_and c.from_residual-in_err-field.result c.from_residual-in_err-field.ensures.1 in
    let head = ap (λ n. Ok (n, drop c.u16_in.new.at c.args.bytes.now)) c.from-size.ensures in
    rw (p.1, p.2) (body_refused bytes_of c.args.bytes.now c.args.at.now c.u16_in.new.at c.from-size.result c.in_err-field.field-0.0 (c.in_ok-u16_in.ensures.0 ∙ sym head) c.in_err-field.ensures.exact, refl)

pub returns : goal.returns
unfolding bin_at
returns c =
    let size = subst (λ n. TakenTo (u16_at (drop c.args.at.now c.args.bytes.now)) n c.args.bytes.now c.args.at.now c.u16_in.new.at) (sym c.from-size.ensures) c.in_ok-u16_in.ensures in
    body_taken bytes_of c.args.bytes.now c.args.at.now c.u16_in.new.at c.from-size.result c.in_ok-field.field.now size c.in_ok-field.ensures.exact c.in_ok-field.ensures.within
