use Rattle.std.proofs.Common.{◌≡◌, ◌++◌, ◌∷◌, [], IsTrue, ap, subst}
use Rattle.std.specs.Int.{w64, to_be_bytes}
use Rattle.session_state.specs.KeptActing.{kept_acted_all}
use Rattle.session_codec.specs.declared.formats.TheConstants.{SECOND_FORMAT}
use Rattle.session_codec.specs.Spelling.{snapshot_to_write, spelled_snapshot}
use Rattle.session_codec.specs.HasSpelling.{fits_sessions}
use Rattle.session_codec.specs.KeepLaws.{changes_spelled_after}
use Rattle.session_journal.specs.declared.asked.Asked.{Asked}
use Rattle.session_journal.specs.PlainJournal.{PlainJournal}
use Rattle.session_journal.proofs.CommitLemmas.{appended_sessions, appends_second, holding, nothing_committed, rewritten_sessions}
use Rattle.session_journal.proofs.JournalLemmas.{committed}
use Rattle.session_journal.proofs.journal.Journal.commit.Goals as goal

-- with an early return nothing was done
pub returns-in-Err-clause-commits : goal.returns-in-Err-clause-commits
returns-in-Err-clause-commits g c =
    nothing_committed g.D.Disk.state c.args.self.now c.args.sessions.now (kept_acted_all c.args.changes.now c.args.sessions.now) c.requires.rests c.requires.holds c.facts.ensures.images

pub append-requires-clause-holds : goal.append-requires-clause-holds
append-requires-clause-holds g c = λ told.
    let format = appends_second c.args.self.now.head.format _ c.appends.result c.appends.ensures.value c.if-appends.true in
    let has = appended_sessions g.D.Disk.state c.args.self.now c.in-Ok.record c.args.changes.now c.args.sessions.now c.facts.ensures.keeps c.requires.rests c.requires.holds
    c.requires.changes c.requires.fit c.in-Ok.ensures format in
    holding (has.later told)

pub returns-in-Err-clause-spelled : goal.returns-in-Err-clause-spelled
returns-in-Err-clause-spelled g c =
    changes_spelled_after SECOND_FORMAT c.args.self.now.asked.shards c.args.sessions.now c.args.changes.now c.requires.spelled c.requires.changes c.requires.fit

pub returns-then-appends-clause-spelled : goal.returns-then-appends-clause-spelled
returns-then-appends-clause-spelled g c =
    changes_spelled_after SECOND_FORMAT c.args.self.now.asked.shards c.args.sessions.now c.args.changes.now c.requires.spelled c.requires.changes c.requires.fit

pub returns-in-Err-snapshot_of-clause-spelled : goal.returns-in-Err-snapshot_of-clause-spelled
returns-in-Err-snapshot_of-clause-spelled g c =
    changes_spelled_after SECOND_FORMAT c.args.self.now.asked.shards c.args.sessions.now c.args.changes.now c.requires.spelled c.requires.changes c.requires.fit

pub returns-clause-spelled : goal.returns-clause-spelled
returns-clause-spelled g c =
    changes_spelled_after SECOND_FORMAT c.args.self.now.asked.shards c.args.sessions.now c.args.changes.now c.requires.spelled c.requires.changes c.requires.fit

pub returns-then-appends-clause-commits : goal.returns-then-appends-clause-commits
returns-then-appends-clause-commits g c =
    let format = appends_second c.args.self.now.head.format _ c.appends.result c.appends.ensures.value c.if-appends.true in
    let has = appended_sessions g.D.Disk.state c.args.self.now c.in-Ok.record c.args.changes.now c.args.sessions.now c.facts.ensures.keeps c.requires.rests c.requires.holds
    c.requires.changes c.requires.fit c.in-Ok.ensures format in
    committed g.D.Disk.state c.args.self.now c.append.new.self (c.args.self.now.pair.active.payloads ++ c.in-Ok.record ∷ []) c.args.sessions.now
    (kept_acted_all c.args.changes.now c.args.sessions.now) c.append.result has c.append.ensures.makes
    (ap (λ (v : PlainJournal g.row.D.Denot). v.asked) c.append.ensures.stays) (λ e. c.append.ensures.stays)

pub rewrite-requires-clause-holds : goal.rewrite-requires-clause-holds
rewrite-requires-clause-holds g c = λ told.
    let after = kept_acted_all c.args.changes.now c.args.sessions.now in
    let fits : IsTrue (fits_sessions SECOND_FORMAT c.args.self.now.asked.shards after) =
    changes_spelled_after SECOND_FORMAT c.args.self.now.asked.shards c.args.sessions.now c.args.changes.now c.requires.spelled c.requires.changes c.requires.fit in
    let same = subst (λ (a : Asked). c.in-Ok-snapshot_of.snapshot ≡ to_be_bytes w64 c.next_epoch-epoch.result ++ spelled_snapshot (snapshot_to_write a.shards a.workers a.worker after))
    c.asked-asked.ensures.asked c.in-Ok-snapshot_of.ensures.draft in
    let has = rewritten_sessions g.D.Disk.state c.args.self.now c.in-Ok-snapshot_of.snapshot c.next_epoch-epoch.result c.args.sessions.now after c.facts.ensures.keeps.asked
    c.requires.rests c.requires.holds fits same in
    holding (has.later told)

pub returns-clause-commits : goal.returns-clause-commits
returns-clause-commits g c =
    let after = kept_acted_all c.args.changes.now c.args.sessions.now in
    let fits : IsTrue (fits_sessions SECOND_FORMAT c.args.self.now.asked.shards after) =
    changes_spelled_after SECOND_FORMAT c.args.self.now.asked.shards c.args.sessions.now c.args.changes.now c.requires.spelled c.requires.changes c.requires.fit in
    let same = subst (λ (a : Asked). c.in-Ok-snapshot_of.snapshot ≡ to_be_bytes w64 c.next_epoch-epoch.result ++ spelled_snapshot (snapshot_to_write a.shards a.workers a.worker after))
    c.asked-asked.ensures.asked c.in-Ok-snapshot_of.ensures.draft in
    let has = rewritten_sessions g.D.Disk.state c.args.self.now c.in-Ok-snapshot_of.snapshot c.next_epoch-epoch.result c.args.sessions.now after c.facts.ensures.keeps.asked
    c.requires.rests c.requires.holds fits same in
    committed g.D.Disk.state c.args.self.now c.rewrite.new.self (c.in-Ok-snapshot_of.snapshot ∷ []) c.args.sessions.now after c.rewrite.result has
    c.rewrite.ensures.makes c.rewrite.ensures.asked c.rewrite.ensures.memory
