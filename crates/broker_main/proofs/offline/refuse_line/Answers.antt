-- The text that is printed is the text about the line.
use Rattle.std.proofs.Common.{◌∙◌, List, ℕ, Some, subst}
use Rattle.broker_main.specs.Outcome.{Ends}
use Rattle.broker_main.proofs.TextLemmas.{bad_line_text-printed}
use Rattle.broker_main.proofs.offline.refuse_line.Goals as goal

pub returns-in-Ok : goal.returns-in-Ok
returns-in-Ok g c =
    subst (λ (text : List ℕ). Ends c.refuse.result (Some text) text (g.K.Sink.taken c.args.sink.now) (g.K.Sink.taken c.refuse.new.sink) (g.K.Sink.faults c.args.sink.now) (g.K.Sink.faults c.refuse.new.sink))
    (c.as_bytes.ensures.value ∙ c.in-Ok.ensures.ok ∙ bad_line_text-printed c.args.number)
    c.refuse.ensures.ends
