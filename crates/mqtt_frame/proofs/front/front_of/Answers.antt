use Rattle.std.proofs.Common.{length, Err, ap, sym, ◌∙◌, arith}
use Rattle.mqtt_frame.specs.Framing.{front_of, front_sized, front_with}
use Rattle.mqtt_frame.proofs.front.front_of.Goals as goal

pub returns-in-Ok-clause-exact : goal.returns-in-Ok-clause-exact
unfolding front_of
returns-in-Ok-clause-exact c =
    c.front_sized.ensures
    ∙ ap (front_sized c.args.limit (length c.args.bytes.now)) (omega (arith, c.in-Ok.ensures.found.1.1))
    ∙ sym (ap (front_with c.args.limit (length c.args.bytes.now)) c.in-Ok.ensures.exact.0)

pub returns-in-Err-Short-clause-exact : goal.returns-in-Err-Short-clause-exact
unfolding front_of
returns-in-Err-Short-clause-exact c =
    sym (ap (front_with c.args.limit (length c.args.bytes.now)) (c.in-Err-Short.ensures.exact.0 ∙ ap Err c.in-Err-Short.field-0-is))

pub returns-in-Err-Bad-clause-exact : goal.returns-in-Err-Bad-clause-exact
unfolding front_of
returns-in-Err-Bad-clause-exact c =
    sym (ap (front_with c.args.limit (length c.args.bytes.now)) (c.in-Err-Bad.ensures.exact.0 ∙ ap Err c.in-Err-Bad.field-0-is))
