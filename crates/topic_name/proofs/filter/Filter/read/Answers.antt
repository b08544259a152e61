use Rattle.std.proofs.Common.{◌≡◌, Some, sym, ap, ◌∙◌}
use Rattle.topic_model.specs.declared.refused.FilterRefused.TheVariants.{Memory}
use Rattle.topic_name.proofs.TextsLemmas.{filter_never_memory}
use Rattle.topic_name.proofs.filter.Filter.read.Goals as goal

-- want of memory is no refusal of a text
pub returns-in-Some-clause-memory : goal.returns-in-Some-clause-memory
returns-in-Some-clause-memory c = λ same.
    let memory : c.in-Some.refused ≡ Memory = cc same in
    absurd (filter_never_memory c.args.text.now (sym c.filter_refusal.ensures ∙ c.in-Some.is ∙ ap Some memory))
