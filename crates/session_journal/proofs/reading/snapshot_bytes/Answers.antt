use Rattle.session_journal.proofs.ReadLemmas.{read_once}
use Rattle.session_journal.proofs.reading.snapshot_bytes.Goals as goal

pub returns-in-Err-clause-reads : goal.returns-in-Err-clause-reads
returns-in-Err-clause-reads g c =
    read_once g.D.Disk.state c.args.pair.now c.snapshot.new.self c.requires.rests c.snapshot.ensures.stays c.snapshot.ensures.writes_none c.snapshot.ensures.any_moment c.snapshot.ensures.run.tells c.snapshot.ensures.run.arms

pub returns-clause-reads : goal.returns-clause-reads
returns-clause-reads g c =
    read_once g.D.Disk.state c.args.pair.now c.snapshot.new.self c.requires.rests c.snapshot.ensures.stays c.snapshot.ensures.writes_none c.snapshot.ensures.any_moment c.snapshot.ensures.run.tells c.snapshot.ensures.run.arms
