use Rattle.std.proofs.Common.{◌≡◌, ap, subst, sym, ◌∙◌}
use Rattle.pair_log.specs.PlainPair.{second_disk}
use Rattle.pair_log.specs.Sides.{number_of}
use Rattle.session_journal.specs.Mounting.{Refuses, asked_by, refusal_of}
use Rattle.session_journal.proofs.OpeningLemmas.{Opens, asked_within, mounted_some, opened_holds, opened_journal, opened_moments, refused_opened}
use Rattle.session_journal.proofs.journal.Journal.mount.Goals as goal

pub read_pair-requires-clause-shards : goal.read_pair-requires-clause-shards
read_pair-requires-clause-shards g c = asked_within c.args.config c.args.worker c.requires.config c.requires.worker

pub read_pair-requires-clause-some : goal.read_pair-requires-clause-some
read_pair-requires-clause-some g c = mounted_some g.D.Disk.state c.args.first c.args.second (asked_by c.args.config c.args.worker) c.in-Ok.pair c.in-Ok.ensures.mounts

pub invariant_of-journal : goal.invariant_of-journal
invariant_of-journal g c =
    let opens : Opens g.D.Disk.state c.args.first c.args.second (asked_by c.args.config c.args.worker) c.in-Ok.pair c.read_pair.new.pair c.in-Ok-read_pair.sessions =
    record {
      was = c.in-Ok.ensures.mounts;
      read = c.read_pair.ensures.reads;
      gives = c.in-Ok-read_pair.ensures.exact;
      is = asked_within c.args.config c.args.worker c.requires.config c.requires.worker;
    } in
    opened_journal g.D.Disk.state c.args.first c.args.second (asked_by c.args.config c.args.worker) c.in-Ok.pair c.read_pair.new.pair c.in-Ok-read_pair.sessions c.in-Ok-read_pair.head
    opens c.in-Ok-read_pair.ensures.known c.in-Ok-read_pair.ensures.head

pub returns-in-Ok-read_pair-clause-holds : goal.returns-in-Ok-read_pair-clause-holds
returns-in-Ok-read_pair-clause-holds g c =
    let opens : Opens g.D.Disk.state c.args.first c.args.second (asked_by c.args.config c.args.worker) c.in-Ok.pair c.read_pair.new.pair c.in-Ok-read_pair.sessions =
    record {
      was = c.in-Ok.ensures.mounts;
      read = c.read_pair.ensures.reads;
      gives = c.in-Ok-read_pair.ensures.exact;
      is = asked_within c.args.config c.args.worker c.requires.config c.requires.worker;
    } in
    opened_holds g.D.Disk.state c.args.first c.args.second (asked_by c.args.config c.args.worker) c.in-Ok.pair c.read_pair.new.pair c.in-Ok-read_pair.sessions opens

pub returns-in-Ok-read_pair-clause-any_moment : goal.returns-in-Ok-read_pair-clause-any_moment
returns-in-Ok-read_pair-clause-any_moment g c =
    let opens : Opens g.D.Disk.state c.args.first c.args.second (asked_by c.args.config c.args.worker) c.in-Ok.pair c.read_pair.new.pair c.in-Ok-read_pair.sessions =
    record {
      was = c.in-Ok.ensures.mounts;
      read = c.read_pair.ensures.reads;
      gives = c.in-Ok-read_pair.ensures.exact;
      is = asked_within c.args.config c.args.worker c.requires.config c.requires.worker;
    } in
    opened_moments g.D.Disk.state c.args.first c.args.second (asked_by c.args.config c.args.worker) c.in-Ok.pair c.read_pair.new.pair c.in-Ok-read_pair.sessions opens
    (λ told. g.met.D.Disk.reads_as_image c.args.first told) (λ told. g.met.D.Disk.reads_as_image c.args.second told) c.in-Ok.ensures.any_moment

pub returns-in-Err-read_pair-clause-refuses : goal.returns-in-Err-read_pair-clause-refuses
returns-in-Err-read_pair-clause-refuses g c =
    let asked = asked_by c.args.config c.args.worker in
    let new = c.read_pair.new.pair in
    let why = refusal_of asked (number_of new.side) c.in-Err-read_pair.why in
    let back = refused_opened g.D.Disk.state c.args.first c.args.second asked c.in-Ok.pair new c.in-Err-read_pair.why c.in-Ok.ensures.mounts
    (asked_within c.args.config c.args.worker c.requires.config c.requires.worker) c.read_pair.ensures.reads c.in-Err-read_pair.ensures.cause c.in-Err-read_pair.ensures.exact in
    let told : c.refusal-why.result ≡ why = c.refusal-why.ensures ∙ ap (λ n. refusal_of asked n c.in-Err-read_pair.why) c.side.ensures in
    subst (λ r. Refuses g.D.Disk.state c.args.first c.args.second asked (c.into_disks-first.result.0, c.into_disks-first.result.1, r)) (sym told)
    (subst (λ d. Refuses g.D.Disk.state c.args.first c.args.second asked (c.into_disks-first.result.0, d, why)) (sym c.into_disks-first.ensures.second)
    (subst (λ d. Refuses g.D.Disk.state c.args.first c.args.second asked (d, second_disk new, why)) (sym c.into_disks-first.ensures.first) back))
