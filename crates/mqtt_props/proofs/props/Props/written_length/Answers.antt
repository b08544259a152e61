use Rattle.std.proofs.Common.{rules, ◌≡◌, ◌+◌, ◌∙◌, length}
use Rattle.mqtt_props.specs.Props.{spelled_props}
use Rattle.mqtt_props.specs.SizeLaws.{props_sized}
use Rattle.mqtt_props.proofs.props.Props.written_length.Goals as goal

pub returns-clause-exact : goal.returns-clause-exact
returns-clause-exact c =
    let bytes : c.var_length.result + c.in-Some.bare ≡ length (spelled_props c.args.self.now) = search rules in
    bytes ∙ props_sized c.args.self.now (rw (← c.self.view_is) c.self.invariant.fits)
