use Rattle.std.proofs.Common.{drop}
use Rattle.mqtt_packet.specs.PartLaws.{more_left, props_where_more}
use Rattle.mqtt_packet.proofs.acks.props_if_there.Goals as goal

pub returns-then-at-bytes : goal.returns-then-at-bytes
returns-then-at-bytes c =
    record { exact = rw (props_where_more c.args.holder (drop c.args.at.now c.args.bytes.now) (more_left c.args.bytes.now c.args.at.now c.if-at-bytes.true)) c.props_in.ensures.exact }
