use Rattle.std.proofs.Common.{◌≡◌, ◌++◌, take}
use Rattle.std.specs.List.{flat_map}
use Rattle.packet_lines.specs.Text.{text_of_packet}
use Rattle.packet_lines.proofs.feeding.put_packets.Given as goal

-- the packets that were passed
abbrev pub invariant-loop-packet : goal.invariant-loop-packet
invariant-loop-packet l = l.out.items ≡ l.initial.out.items ++ flat_map text_of_packet (take l.packet-index l.packets)
