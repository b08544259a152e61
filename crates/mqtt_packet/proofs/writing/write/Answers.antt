use Rattle.std.proofs.Common.{rules, ◌≡◌, length, ◌∙◌}
use Rattle.mqtt_packet.specs.Packet.{plain}
use Rattle.mqtt_packet.specs.ToldLaws.{size_is_told}
use Rattle.mqtt_packet.specs.PutLaws.{taken_back}
use Rattle.mqtt_packet.proofs.writing.write.Goals as goal

pub unreachable-requires : goal.unreachable-requires
unreachable-requires c = let e = c.in_default.ensures ∙ size_is_told (plain c.args.packet.now) c.requires.fits c.requires.has_length in absurd cc

pub put_packet-requires-clause-size : goal.put_packet-requires-clause-size
put_packet-requires-clause-size c = let e = c.in-Some.ensures ∙ size_is_told (plain c.args.packet.now) c.requires.fits c.requires.has_length in cc

pub returns-in-Err-clause-err : goal.returns-in-Err-clause-err
returns-in-Err-clause-err c =
    let before : c.len-before.result ≡ length c.args.out.now.items = search rules in
    c.truncate.ensures.items ∙ rw before (taken_back c.args.out.now.items c.put_packet.new.out.items c.in-Err.ensures.exact)
