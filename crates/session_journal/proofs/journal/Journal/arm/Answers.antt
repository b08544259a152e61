use Rattle.session_journal.specs.PlainJournal.{PlainJournal}
use Rattle.session_journal.proofs.SettleLemmas.{still_moments}
use Rattle.session_journal.proofs.journal.Journal.arm.Goals as goal

pub returns-clause-any_moment : goal.returns-clause-any_moment
returns-clause-any_moment g c =
    let journal : PlainJournal g.row.D.Denot = record { pair = c.self.inside.pair; asked = c.self.inside.asked; head = c.self.inside.head; next = c.self.inside.next } in
    rw (← c.self.view_is) (still_moments g.D.Disk.state journal c.arm.new.self c.arm.ensures.any_moment)
