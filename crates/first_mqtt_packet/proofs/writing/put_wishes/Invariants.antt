use Rattle.std.proofs.Common.{◌≡◌, ◌++◌, take}
use Rattle.std.specs.List.{flat_map}
use Rattle.first_mqtt_packet.specs.Written.{wish_bytes}
use Rattle.first_mqtt_packet.proofs.writing.put_wishes.Given as goal

abbrev pub invariant-loop-wish : goal.invariant-loop-wish
invariant-loop-wish l = l.out.items ≡ l.initial.out.items ++ flat_map wish_bytes (take l.wish-index l.wishes)
