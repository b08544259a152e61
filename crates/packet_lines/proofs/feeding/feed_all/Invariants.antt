use Rattle.std.proofs.Common.{◌≡◌, ◌++◌, map, drop}
use Rattle.mqtt_frame.specs.PlainFramer.{fed_all, opening}
use Rattle.packet_lines.proofs.feeding.feed_all.Given as goal

-- what came so far, and what the pieces that are left give, is what all give
abbrev pub invariant-loop-piece : goal.invariant-loop-piece
invariant-loop-piece l = record {
  packets : l.packets.items ++ (fed_all l.framer (map (λ p. p.items) (drop l.piece-index l.pieces))).packets
      ≡ (fed_all (opening l.limit) (map (λ p. p.items) l.pieces)).packets;
  framer : (fed_all l.framer (map (λ p. p.items) (drop l.piece-index l.pieces))).framer
      ≡ (fed_all (opening l.limit) (map (λ p. p.items) l.pieces)).framer;
  bad : l.bad ≡ l.framer.bad;
}
