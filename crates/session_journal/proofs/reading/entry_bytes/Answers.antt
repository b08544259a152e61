use Rattle.session_journal.proofs.ReadLemmas.{read_once}
use Rattle.session_journal.proofs.reading.entry_bytes.Goals as goal

pub returns-in-Err-clause-reads : goal.returns-in-Err-clause-reads
returns-in-Err-clause-reads g c =
    read_once g.D.Disk.state c.args.pair.now c.entry.new.self c.requires.rests c.entry.ensures.stays c.entry.ensures.writes_none c.entry.ensures.any_moment c.entry.ensures.run.tells c.entry.ensures.run.arms

pub returns-clause-reads : goal.returns-clause-reads
returns-clause-reads g c =
    read_once g.D.Disk.state c.args.pair.now c.entry.new.self c.requires.rests c.entry.ensures.stays c.entry.ensures.writes_none c.entry.ensures.any_moment c.entry.ensures.run.tells c.entry.ensures.run.arms
