use Rattle.std.proofs.Common.{Err, [], ◌∷◌, ◌≡◌, ◌-◌, length, ap, subst, sym, ◌∙◌}
use Rattle.pair_log.specs.declared.doubt.Doubt.TheVariants.{Nothing}
use Rattle.pair_log.specs.PlainPair.{Told}
use Rattle.session_journal.specs.declared.refused.JournalRefused.TheVariants.{Fault}
use Rattle.session_journal.specs.Fold.{folded}
use Rattle.session_journal.specs.PairCalls.{Makes}
use Rattle.session_journal.specs.PlainJournal.{IsHolding, IsJournal, PlainJournal}
use Rattle.session_journal.proofs.CommitLemmas.{doubted_made}
use Rattle.session_journal.proofs.JournalLemmas.{journal_made}
use Rattle.session_journal.proofs.journal.Journal.rewrite.Goals as goal

pub invariant_of-self-in-Err-Fault : goal.invariant_of-self-in-Err-Fault
invariant_of-self-in-Err-Fault g c =
    let journal : PlainJournal g.row.D.Denot = record { pair = c.self.inside.pair; asked = c.self.inside.asked; head = c.self.inside.head; next = c.self.inside.next } in
    let rests : c.self.inside.pair.doubt ≡ Nothing = ap (λ (v : PlainJournal g.row.D.Denot). v.pair.doubt) c.self.view_is ∙ c.requires.rests in
    let fault : c.rewrite_to.result ≡ Err Fault = c.in-Err-Fault.is ∙ ap Err c.in-Err-Fault.field-0-is in
    let makes = subst (Makes g.D.Disk.state c.self.inside.pair c.rewrite_to.new.pair (c.args.snapshot.now ∷ [])) fault c.rewrite_to.ensures.makes in
    let holds : Told g.D.Disk.state c.self.inside.pair → IsHolding (folded c.self.inside.asked (c.args.snapshot.now ∷ [])) =
    subst (λ (v : PlainJournal g.row.D.Denot). Told g.D.Disk.state v.pair → IsHolding (folded v.asked (c.args.snapshot.now ∷ []))) (sym c.self.view_is) c.requires.holds in
    let bytes : length c.args.snapshot.now ≡ c.from.result = sym (c.from.ensures ∙ c.len.ensures.length) in
    subst (λ n. IsJournal g.D.Disk.state (record { pair = c.rewrite_to.new.pair; asked = c.self.inside.asked; head = c.self.inside.head; next = record { format = 2; bytes = n - 8 } })) bytes
    (journal_made g.D.Disk.state journal c.rewrite_to.new.pair (c.args.snapshot.now ∷ []) c.self.inside.head (record { format = 2; bytes = length c.args.snapshot.now - 8 }) (Err Fault) c.self.invariant makes
    (doubted_made g.D.Disk.state journal c.args.snapshot.now c.self.invariant c.requires.short c.requires.format holds) rests)
