use Rattle.mqtt_frame.specs.Framing.{framed}
use Rattle.mqtt_frame.proofs.StepLemmas.{ends_here}
use Rattle.mqtt_frame.proofs.framing.frame_others.Goals as goal

pub returns-in-Some-clause-ok : goal.returns-in-Some-clause-ok
returns-in-Some-clause-ok c =
    ends_here (framed c.args.limit c.args.others.now) c.args.others.now c.args.kept.now.items c.in-Some.header c.in_ok-stopped.stopped c.args.out.now.items c.frame_all.new.out.items c.in_ok-stopped.ensures.ok c.in-Some.is
