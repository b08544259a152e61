use Rattle.std.proofs.Common.{arith}
use Rattle.wire_fields.specs.Spelled.{spelled_text}
use Rattle.wire_fields.specs.Reading.{text_at}
use Rattle.wire_fields.proofs.Clauses.{found, short, bad, if_ok_map}
use Rattle.wire_fields.proofs.FieldKinds.{text_kind, IsShortText}
use Rattle.wire_fields.proofs.taking.take_text.Goals as goal

pub returns-clause-found : goal.returns-clause-found
returns-clause-found c =
    if_ok_map _ _ c.text_in.result (λ x h. (h.0.0, h.1)) (found (λ f. f.now) text_at spelled_text (IsShortText) text_kind c.text_in.result c.args.bytes.now c.args.at.now c.text_in.new.at (λ i. omega (arith, c.type_inv.bytes i)) c.text_in.ensures)

pub returns-clause-text : goal.returns-clause-text
returns-clause-text c =
    if_ok_map _ _ c.text_in.result (λ x h. h.0.1) (found (λ f. f.now) text_at spelled_text (IsShortText) text_kind c.text_in.result c.args.bytes.now c.args.at.now c.text_in.new.at (λ i. omega (arith, c.type_inv.bytes i)) c.text_in.ensures)

pub returns-clause-short : goal.returns-clause-short
returns-clause-short c = short (λ f. f.now) text_at spelled_text (IsShortText) text_kind c.text_in.result c.args.bytes.now c.args.at.now c.text_in.new.at c.text_in.ensures

pub returns-clause-bad : goal.returns-clause-bad
returns-clause-bad c = bad (λ f. f.now) text_at spelled_text (IsShortText) text_kind c.text_in.result c.args.bytes.now c.args.at.now c.text_in.new.at c.text_in.ensures
