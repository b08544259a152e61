use Rattle.std.proofs.Common.{sym, ◌∙◌, ap, drop}
use Rattle.std.specs.Str.Lossy.{utf8_error_len}
use Rattle.wire_fields.proofs.Begun.{whole_begins, fault_begins_none, cut_begins}
use Rattle.wire_fields.proofs.texts.begins_utf8.Goals as goal

pub returns-in-Ok : goal.returns-in-Ok
returns-in-Ok c = whole_begins c.args.bytes.now c.args.more c.in-Ok.ensures.cases.1

pub returns-in-Some : goal.returns-in-Some
returns-in-Some c =
    fault_begins_none c.args.bytes.now c.args.more c.in-Err.fault.valid_up_to c.in-Err.ensures.cases.0 c.in-Err.ensures.valid_len c.in-Some.field-0
    (sym c.in-Some.is ∙ c.error_len.ensures ∙ c.in-Err.ensures.fault)

pub returns-in-None : goal.returns-in-None
returns-in-None c =
    cut_begins c.args.bytes.now c.args.more c.valid_up_to.result c.in-Err.ensures.cases.0 (c.valid_up_to.ensures ∙ c.in-Err.ensures.valid_len) c.ends_within.result
    (sym c.in-None.is ∙ c.error_len.ensures ∙ c.in-Err.ensures.fault ∙ ap (λ n. utf8_error_len (drop n c.args.bytes.now)) (sym c.valid_up_to.ensures))
    c.ends_within.ensures
