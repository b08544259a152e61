-- Each round puts the two digits of one byte.
use Rattle.std.proofs.Common.{arith}
use Rattle.script_lines.proofs.HexadecimalLemmas.{encode_with_more, encode_with_all}
use Rattle.script_lines.proofs.printing.put_digits.Goals as goal

pub loop-b-preserved : goal.loop-b-preserved
loop-b-preserved c =
    encode_with_more _ c.args.bytes.now _ _ _ _ c.loop-b.b-index (omega arith) c.in_ok-push.ensures.items c.in_ok-push-2.ensures.items c.loop-b.invariant

pub returns : goal.returns
returns c = encode_with_all _ c.args.bytes.now _ _ c.loop-b.b-index (omega arith) c.loop-b.invariant
