-- The first line feed ends the first line, and what stands behind it is the rest.
use Rattle.std.proofs.Common.{add-one, arith}
use Rattle.std.proofs.lemmas.List.{take_rest}
use Rattle.packet_lines.proofs.LineLemmas.{lines_at, lines_last}
use Rattle.packet_lines.proofs.lines.first_line.Goals as goal

pub returns-then-at-bytes-clause-lines : goal.returns-then-at-bytes-clause-lines
returns-then-at-bytes-clause-lines c =
    rw (take_rest, add-one) (lines_at c.args.bytes.now c.place_of-at.result c.if-at-bytes.true (c.place_of-at.ensures.found c.if-at-bytes.true) c.place_of-at.ensures.before)

pub returns-else-at-bytes-clause-lines : goal.returns-else-at-bytes-clause-lines
returns-else-at-bytes-clause-lines c =
    rw take_rest (lines_last c.args.bytes.now c.place_of-at.result c.requires (omega arith) c.place_of-at.ensures.before)
