-- The first separator ends the first piece, and what stands behind it is the rest.
use Rattle.std.proofs.Common.{add-one}
use Rattle.std.proofs.lemmas.List.{take_rest}
use Rattle.first_topic_name.proofs.PiecesLemmas.{pieces_at}
use Rattle.first_topic_name.proofs.pieces.first_piece.Goals as goal

pub returns-then-at-bytes-clause-pieces : goal.returns-then-at-bytes-clause-pieces
returns-then-at-bytes-clause-pieces c =
    rw (take_rest, add-one) (pieces_at c.args.separator c.args.bytes.now c.place_of-at.result c.if-at-bytes.true (c.place_of-at.ensures.found c.if-at-bytes.true) c.place_of-at.ensures.before)
