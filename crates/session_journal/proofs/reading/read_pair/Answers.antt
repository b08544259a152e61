use Rattle.std.proofs.Common.{◌≡◌, IsTrue, length, ap, subst, sym, ◌∙◌}
use Rattle.pair_log.specs.Epochs.{snapshot_of}
use Rattle.pair_log.specs.PlainPair.{head_of}
use Rattle.session_codec.specs.HasSpelling.{is_format}
use Rattle.session_journal.specs.Fold.{format_told, opened}
use Rattle.session_journal.specs.Giving.{IsWhy}
use Rattle.session_journal.proofs.ReadLemmas.{read_and, same_payloads, told_then}
use Rattle.session_journal.proofs.ReplayLemmas.{known_format, refused_opening, replayed_folded, to_second}
use Rattle.session_journal.proofs.reading.read_pair.Goals as goal

pub returns-in-Err-open-clause-exact : goal.returns-in-Err-open-clause-exact
returns-in-Err-open-clause-exact g c = λ told.
    let is : c.deref.result.now ≡ snapshot_of (head_of c.args.pair.now.active.payloads) = c.deref.ensures.value ∙ c.in-Ok.ensures.bytes told in
    refused_opening c.args.asked c.args.pair.now.active.payloads c.in-Err-open.why (c.requires.some told)
    (subst (λ b. IsWhy c.in-Err-open.why (opened c.args.asked b)) is c.in-Err-open.ensures.exact)

pub returns-in-Err-replay-clause-exact : goal.returns-in-Err-replay-clause-exact
returns-in-Err-replay-clause-exact g c = λ told.
    let told_mid = told_then g.D.Disk.state c.args.pair.now c.snapshot_bytes.new.pair c.snapshot_bytes.ensures.reads told in
    let is : c.deref.result.now ≡ snapshot_of (head_of c.args.pair.now.active.payloads) = c.deref.ensures.value ∙ c.in-Ok.ensures.bytes told in
    let bytes : c.deref-2.result.now ≡ c.deref.result.now = c.deref-2.ensures.value ∙ sym c.deref.ensures.value in
    let folds = replayed_folded c.args.asked c.args.pair.now.active.payloads c.snapshot_bytes.new.pair.active.payloads c.in-Ok-open.sessions c.deref.result.now
    c.head_of-head.result.format c.head_of-head.result.bytes (c.requires.some told) (same_payloads g.D.Disk.state c.args.pair.now c.snapshot_bytes.new.pair c.snapshot_bytes.ensures.reads)
    is c.in-Ok-open.ensures.some c.in-Ok-open.ensures.exact (c.head_of-head.ensures.format ∙ ap format_told bytes) (c.head_of-head.ensures.bytes ∙ ap length bytes) in
    subst (IsWhy c.in-Err-replay.why) (sym folds) (c.in-Err-replay.ensures.exact told_mid)

pub returns-in-Err-replay-clause-reads : goal.returns-in-Err-replay-clause-reads
returns-in-Err-replay-clause-reads g c =
    read_and g.D.Disk.state c.args.pair.now c.snapshot_bytes.new.pair c.replay.new.pair c.snapshot_bytes.ensures.reads c.replay.ensures.reads

pub returns-clause-exact : goal.returns-clause-exact
returns-clause-exact g c = λ told.
    let told_mid = told_then g.D.Disk.state c.args.pair.now c.snapshot_bytes.new.pair c.snapshot_bytes.ensures.reads told in
    let is : c.deref.result.now ≡ snapshot_of (head_of c.args.pair.now.active.payloads) = c.deref.ensures.value ∙ c.in-Ok.ensures.bytes told in
    let bytes : c.deref-2.result.now ≡ c.deref.result.now = c.deref-2.ensures.value ∙ sym c.deref.ensures.value in
    let folds = replayed_folded c.args.asked c.args.pair.now.active.payloads c.snapshot_bytes.new.pair.active.payloads c.in-Ok-open.sessions c.deref.result.now
    c.head_of-head.result.format c.head_of-head.result.bytes (c.requires.some told) (same_payloads g.D.Disk.state c.args.pair.now c.snapshot_bytes.new.pair c.snapshot_bytes.ensures.reads)
    is c.in-Ok-open.ensures.some c.in-Ok-open.ensures.exact (c.head_of-head.ensures.format ∙ ap format_told bytes) (c.head_of-head.ensures.bytes ∙ ap length bytes) in
    folds ∙ c.in_default.ensures.exact told_mid

pub returns-clause-spelled : goal.returns-clause-spelled
returns-clause-spelled g c =
    let bytes : c.deref-2.result.now ≡ c.deref.result.now = c.deref-2.ensures.value ∙ sym c.deref.ensures.value in
    let format : c.head_of-head.result.format ≡ format_told c.deref.result.now = c.head_of-head.ensures.format ∙ ap format_told bytes in
    to_second c.head_of-head.result.format c.args.asked.shards c.replay.new.sessions
    (known_format c.head_of-head.result.format (subst (λ f. IsTrue (is_format f)) (sym format) c.in-Ok-open.ensures.format)) c.in_default.ensures.spelled

pub returns-clause-reads : goal.returns-clause-reads
returns-clause-reads g c =
    read_and g.D.Disk.state c.args.pair.now c.snapshot_bytes.new.pair c.replay.new.pair c.snapshot_bytes.ensures.reads c.replay.ensures.reads
