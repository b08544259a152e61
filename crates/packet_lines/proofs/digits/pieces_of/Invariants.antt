use Rattle.std.proofs.Common.{◌≡◌, map, drop}
use Rattle.packet_lines.specs.Command.{pieces_of}
use Rattle.packet_lines.proofs.PieceLemmas.{behind}
use Rattle.packet_lines.proofs.digits.pieces_of.Given as goal

-- the pieces so far, and those of the words that are left
abbrev pub invariant-loop-word : goal.invariant-loop-word
invariant-loop-word l = behind (map (λ p. p.items) l.pieces.items) (pieces_of (map (λ w. w.now) (drop l.word-index l.words)))
    ≡ pieces_of (map (λ w. w.now) l.words)
