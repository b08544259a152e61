use Rattle.std.proofs.Common.{◌≡◌, ◌++◌, take}
use Rattle.std.specs.List.{flat_map}
use Rattle.mqtt_packet.specs.Spelling.{spelled_wish}
use Rattle.mqtt_packet.proofs.putting.put_wishes.Given as goal

abbrev pub invariant-loop-wish : goal.invariant-loop-wish
invariant-loop-wish l = l.out.items ≡ l.initial.out.items ++ flat_map spelled_wish (take l.wish-index l.wishes)
