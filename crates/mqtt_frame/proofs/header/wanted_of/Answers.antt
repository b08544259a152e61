use Rattle.std.proofs.Common.{ap, sym, ◌∙◌, arith}
use Rattle.mqtt_frame.specs.Missing.{size_within, wanted, wanted_with}
use Rattle.mqtt_frame.proofs.header.wanted_of.Goals as goal

pub returns-in-Ok : goal.returns-in-Ok
unfolding wanted
returns-in-Ok c =
    c.size_within.ensures
    ∙ ap (size_within c.args.limit) (omega (arith, c.in-Ok.ensures.found.1.1))
    ∙ sym (ap (wanted_with c.args.limit) c.in-Ok.ensures.exact.0)

pub returns-in-Err : goal.returns-in-Err
unfolding wanted
returns-in-Err c = sym (ap (wanted_with c.args.limit) c.in-Err.ensures.exact.0)
