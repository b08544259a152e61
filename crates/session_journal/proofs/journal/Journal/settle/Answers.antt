use Rattle.std.proofs.Common.{Ok, Err, refl}
use Rattle.session_journal.specs.PlainJournal.{PlainJournal}
use Rattle.session_journal.proofs.SettleLemmas.{doubt_ended, journal_settled}
use Rattle.session_journal.proofs.journal.Journal.settle.Goals as goal

pub invariant_of-self-in-Err : goal.invariant_of-self-in-Err
invariant_of-self-in-Err g c =
    let journal : PlainJournal g.row.D.Denot = record { pair = c.self.inside.pair; asked = c.self.inside.asked; head = c.self.inside.head; next = c.self.inside.next } in
    journal_settled g.D.Disk.state journal c.settle_pair.new.pair (Err c.in-Err.refused) c.self.invariant c.in-Err.ensures.settles

pub returns-in-Ok-clause-ends : goal.returns-in-Ok-clause-ends
returns-in-Ok-clause-ends g c =
    let journal : PlainJournal g.row.D.Denot = record { pair = c.self.inside.pair; asked = c.self.inside.asked; head = c.self.inside.head; next = c.self.inside.next } in
    rw (← c.self.view_is) (doubt_ended g.D.Disk.state journal (record { pair = c.settle_pair.new.pair; asked = c.self.inside.asked; head = c.settled_heads.result.0; next = c.settled_heads.result.1 })
    (Ok c.in-Ok.settled) c.in-Ok.ensures.settles refl)

pub returns-in-Err-clause-ends : goal.returns-in-Err-clause-ends
returns-in-Err-clause-ends g c =
    let journal : PlainJournal g.row.D.Denot = record { pair = c.self.inside.pair; asked = c.self.inside.asked; head = c.self.inside.head; next = c.self.inside.next } in
    rw (← c.self.view_is) (doubt_ended g.D.Disk.state journal (record { pair = c.settle_pair.new.pair; asked = c.self.inside.asked; head = c.self.inside.head; next = c.self.inside.next })
    (Err c.in-Err.refused) c.in-Err.ensures.settles refl)
