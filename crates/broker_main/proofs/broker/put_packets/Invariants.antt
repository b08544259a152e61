use Rattle.std.proofs.Common.{◌≡◌, ◌++◌, take}
use Rattle.first_world_terms.specs.Move.{sent_on}
use Rattle.first_world_terms.specs.Text.{text_of_outs}
use Rattle.broker_main.proofs.broker.put_packets.Given as goal

-- the lines of the packets so far
abbrev pub invariant-loop-packet : goal.invariant-loop-packet
invariant-loop-packet l = l.text.items ≡ l.initial.text.items ++ text_of_outs (sent_on l.number (take l.packet-index l.packets))
