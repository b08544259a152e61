-- By the laws of properties.
use Rattle.std.proofs.Common.{arith}
use Rattle.packet_lines.proofs.ShortLemmas.{read_is_short}
use Rattle.packet_lines.proofs.listing.read_short.Goals as goal

pub returns-clause-short : goal.returns-clause-short
returns-clause-short c =
    read_is_short c.read_was_spelled.ensures.bare c.order_keeps_all.ensures.size c.args.holder c.args.bytes.now c.read.result (λ i. omega (arith, c.type_inv.bytes i)) c.read.ensures.exact
