use Rattle.session_journal.proofs.ReplayLemmas.{IsReplayed}
use Rattle.session_journal.proofs.reading.replay.Given as goal

abbrev pub invariant-loop-number : goal.invariant-loop-number
invariant-loop-number g l = IsReplayed g.D.Disk.state l.fn.pair l.pair l.form.format l.form.shards l.place l.fn.sessions l.sessions l.number l.at
