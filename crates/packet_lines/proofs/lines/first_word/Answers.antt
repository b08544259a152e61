-- The first blank ends the first word, and what stands behind it is the rest.
use Rattle.std.proofs.Common.{add-one, arith}
use Rattle.std.proofs.lemmas.List.{take_rest}
use Rattle.packet_lines.proofs.LineLemmas.{words_at, words_whole}
use Rattle.packet_lines.proofs.lines.first_word.Goals as goal

pub returns-then-at-bytes-clause-words : goal.returns-then-at-bytes-clause-words
returns-then-at-bytes-clause-words c =
    rw (take_rest, add-one) (words_at c.args.bytes.now c.place_of-at.result c.if-at-bytes.true (c.place_of-at.ensures.found c.if-at-bytes.true) c.place_of-at.ensures.before)

pub returns-else-at-bytes-clause-words : goal.returns-else-at-bytes-clause-words
returns-else-at-bytes-clause-words c =
    words_whole c.args.bytes.now (λ k l. c.place_of-at.ensures.before k (omega arith))
