use Rattle.std.proofs.Common.{◌≡◌, ◌++◌, arith, rules}
use Rattle.std.specs.Int.{w64, to_be_bytes}
use Rattle.session_codec.specs.Spelling.{snapshot_to_write, spelled_snapshot}
use Rattle.session_journal.proofs.SnapshotLemmas.{drafted_short}
use Rattle.session_journal.proofs.drafts.snapshot_bytes.Goals as goal

pub returns-clause-short : goal.returns-clause-short
returns-clause-short c =
    let is : c.write_snapshot.new.out.items ≡ to_be_bytes w64 c.args.epoch ++ spelled_snapshot (snapshot_to_write c.args.asked.shards c.args.asked.workers c.args.asked.worker c.args.sessions.now) = search rules in
    let workers = c.requires.shards.few_workers in
    let among = c.requires.shards.among in
    let few = c.requires.shards.few_shards in
    drafted_short c.args.epoch c.args.asked.shards c.args.asked.workers c.args.asked.worker c.args.sessions.now c.write_snapshot.new.out.items
    (omega arith) (omega arith) (omega arith) few c.requires.spelled is
