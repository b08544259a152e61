use Rattle.std.proofs.Common.{[], ◌∷◌, ◌++◌, IsTrue, ap, subst, sym, ◌∙◌}
use Rattle.outside.specs.Along.{WithinBoth, keeps_step}
use Rattle.outside.specs.DiskModel.{LeavesOnly}
use Rattle.gated_log.specs.PlainLog.{AtRest, HasList, PlainLog}
use Rattle.gated_log.specs.Records.{records}
use Rattle.pair_log.specs.Epochs.{active_records}
use Rattle.gated_log.specs.Closing.{IsGateTorn, WithGate}
use Rattle.gated_log.specs.PlainLog.{end_of}
use Rattle.pair_log.specs.Mounted.{AreMounting, IsBegun, IsMountTorn, IsWrittenTorn, begun, begun_read, or_first, side_of, written_first}
use Rattle.pair_log.specs.PlainPair.{both_disks}
use Rattle.pair_log.proofs.MountLemmas.{begun_side, first_bytes, first_mounting, first_torn, gate_only, second_mounting}
use Rattle.pair_log.proofs.pair.PairLog.mount.Goals as goal

pub returns-in-Ok-find_epochs-clause-list : goal.returns-in-Ok-find_epochs-clause-list
returns-in-Ok-find_epochs-clause-list g c = λ first_told second_told.
    let found = c.find_epochs.ensures in
    let first : IsTrue (g.D.Disk.state c.in-Ok.log.disk).tells = c.in-Ok.ensures.mounting.tells ∙ first_told in
    let second : IsTrue (g.D.Disk.state c.in-Ok-mount.log.disk).tells = c.in-Ok-mount.ensures.mounting.tells ∙ second_told in
    let s = c.args.snapshot.now in
    c.of_logs.ensures.list (found.first_tells ∙ first) (found.second_tells ∙ second)
    ∙ (ap (λ l. active_records l c.find_epochs.new.second.payloads) (c.in-Ok-find_epochs.ensures.first_list first)
    ∙ (ap (λ (l : PlainLog g.row.D.Denot). active_records (begun s c.in-Ok.log.payloads c.in-Ok-mount.log.payloads) l.payloads) found.second_stays
    ∙ (begun_read s c.in-Ok.log.payloads c.in-Ok-mount.log.payloads
    ∙ (ap (λ l. or_first s (active_records l c.in-Ok-mount.log.payloads)) (c.in-Ok.ensures.list first_told)
    ∙ ap (λ l. or_first s (active_records (records (g.D.Disk.state c.args.first).seen) l)) (c.in-Ok-mount.ensures.list second_told)))))

pub returns-in-Ok-find_epochs-clause-any_moment : goal.returns-in-Ok-find_epochs-clause-any_moment
returns-in-Ok-find_epochs-clause-any_moment g c = λ first_told second_told.
    let state = g.D.Disk.state in
    let first : IsTrue (state c.in-Ok.log.disk).tells = c.in-Ok.ensures.mounting.tells ∙ first_told in
    let second : IsTrue (state c.in-Ok-mount.log.disk).tells = c.in-Ok-mount.ensures.mounting.tells ∙ second_told in
    let s = c.args.snapshot.now in
    let begins : LeavesOnly (state c.in-Ok.log.disk) (state c.find_epochs.new.first.disk) (IsBegun (records (state c.args.first).seen) (records (state c.args.second).seen) s) =
    subst (λ l. LeavesOnly (state c.in-Ok.log.disk) (state c.find_epochs.new.first.disk) (IsBegun (records (state c.args.first).seen) l s)) (c.in-Ok-mount.ensures.list second_told)
    (subst (λ l. LeavesOnly (state c.in-Ok.log.disk) (state c.find_epochs.new.first.disk) (IsBegun l c.in-Ok-mount.log.payloads s)) (c.in-Ok.ensures.list first_told)
    (c.find_epochs.ensures.first_moment first)) in
    let reads : LeavesOnly (state c.in-Ok-mount.log.disk) (state c.find_epochs.new.second.disk) (HasList AtRest (records (state c.args.second).seen)) =
    subst (λ l. LeavesOnly (state c.in-Ok-mount.log.disk) (state c.find_epochs.new.second.disk) (HasList AtRest l)) (c.in-Ok-mount.ensures.list second_told)
    (c.find_epochs.ensures.second_moment second) in
    keeps_step (WithinBoth state) (AreMounting (state c.args.first) (state c.args.second) s) [] (c.args.first, c.args.second) c.of_logs.result.past (both_disks c.of_logs.result)
    (c.of_logs.ensures.past ∙ (c.and_both-past.ensures ∙ ap (λ l. l ++ (c.args.first, c.args.second) ∷ []) c.new.ensures))
    (λ images left. (
      (first_mounting (state c.args.first) (state c.in-Ok.log.disk) (state c.find_epochs.new.first.disk) _ _ s (c.in-Ok.ensures.mounting.moments first_told) begins).each images.0
          (subst (λ d. (state d).left_since (state c.args.first).calls images.0) c.of_logs.ensures.first left.0),
      (second_mounting (state c.args.second) (state c.in-Ok-mount.log.disk) (state c.find_epochs.new.second.disk) _ (c.in-Ok-mount.ensures.mounting.moments second_told) reads).each images.1
          (subst (λ d. (state d).left_since (state c.args.second).calls images.1) c.of_logs.ensures.second left.1),
    ))

pub returns-in-Ok-find_epochs-clause-side : goal.returns-in-Ok-find_epochs-clause-side
returns-in-Ok-find_epochs-clause-side g c = λ first_told second_told.
    let found = c.find_epochs.ensures in
    let first : IsTrue (g.D.Disk.state c.in-Ok.log.disk).tells = c.in-Ok.ensures.mounting.tells ∙ first_told in
    let second : IsTrue (g.D.Disk.state c.in-Ok-mount.log.disk).tells = c.in-Ok-mount.ensures.mounting.tells ∙ second_told in
    let s = c.args.snapshot.now in
    c.of_logs.ensures.side (found.first_tells ∙ first) (found.second_tells ∙ second)
    ∙ (ap (λ l. side_of l c.find_epochs.new.second.payloads) (c.in-Ok-find_epochs.ensures.first_list first)
    ∙ (ap (λ (l : PlainLog g.row.D.Denot). side_of (begun s c.in-Ok.log.payloads c.in-Ok-mount.log.payloads) l.payloads) found.second_stays
    ∙ (begun_side s c.in-Ok.log.payloads c.in-Ok-mount.log.payloads
    ∙ (ap (λ l. side_of l c.in-Ok-mount.log.payloads) (c.in-Ok.ensures.list first_told)
    ∙ ap (λ l. side_of (records (g.D.Disk.state c.args.first).seen) l) (c.in-Ok-mount.ensures.list second_told)))))

pub returns-in-Ok-find_epochs-clause-first_bytes : goal.returns-in-Ok-find_epochs-clause-first_bytes
returns-in-Ok-find_epochs-clause-first_bytes g c = λ first_told second_told.
    let state = g.D.Disk.state in
    let first : IsTrue (state c.in-Ok.log.disk).tells = c.in-Ok.ensures.mounting.tells ∙ first_told in
    let s = c.args.snapshot.now in
    ap (λ d. (state d).seen) c.of_logs.ensures.first
    ∙ first_bytes s (records (state c.args.first).seen) (records (state c.args.second).seen) (state c.args.first).seen (state c.in-Ok.log.disk).seen _
    (subst (λ e. WithGate e 0 (state c.args.first).seen (state c.in-Ok.log.disk).seen) (c.in-Ok.ensures.end first_told ∙ ap end_of (c.in-Ok.ensures.list first_told)) (c.in-Ok.ensures.bytes first_told))
    (c.in-Ok-find_epochs.ensures.first_bytes first
    ∙ (ap (λ l. written_first s l c.in-Ok-mount.log.payloads (state c.in-Ok.log.disk).seen) (c.in-Ok.ensures.list first_told)
    ∙ ap (λ l. written_first s (records (state c.args.first).seen) l (state c.in-Ok.log.disk).seen) (c.in-Ok-mount.ensures.list second_told)))

pub returns-in-Err-clause-first_torn : goal.returns-in-Err-clause-first_torn
returns-in-Err-clause-first_torn g c = λ first_told second_told.
    let state = g.D.Disk.state in
    gate_only c.args.snapshot.now (records (state c.args.first).seen) (records (state c.args.second).seen) _ _ (c.in-Err.ensures.refused.bytes first_told)

pub returns-in-Err-mount-clause-first_torn : goal.returns-in-Err-mount-clause-first_torn
returns-in-Err-mount-clause-first_torn g c = λ first_told second_told.
    let state = g.D.Disk.state in
    gate_only c.args.snapshot.now (records (state c.args.first).seen) (records (state c.args.second).seen) _ _
    (subst (λ d. IsGateTorn (end_of (records (state c.args.first).seen)) (state c.args.first).seen (state d).seen) (sym c.into_disk.ensures) (c.in-Ok.ensures.mounting.bytes first_told))

pub returns-in-Err-find_epochs-clause-first_torn : goal.returns-in-Err-find_epochs-clause-first_torn
returns-in-Err-find_epochs-clause-first_torn g c = λ first_told second_told.
    let state = g.D.Disk.state in
    let first : IsTrue (state c.in-Ok.log.disk).tells = c.in-Ok.ensures.mounting.tells ∙ first_told in
    let s = c.args.snapshot.now in
    subst (λ d. IsMountTorn s (records (state c.args.first).seen) (records (state c.args.second).seen) (state c.args.first).seen (state d).seen) (sym c.into_disk-in-Err-find_epochs.ensures)
    (first_torn s (records (state c.args.first).seen) (records (state c.args.second).seen) (state c.args.first).seen (state c.in-Ok.log.disk).seen _
    (subst (λ e. WithGate e 0 (state c.args.first).seen (state c.in-Ok.log.disk).seen) (c.in-Ok.ensures.end first_told ∙ ap end_of (c.in-Ok.ensures.list first_told)) (c.in-Ok.ensures.bytes first_told))
    (subst (λ l. IsWrittenTorn s l (records (state c.args.second).seen) (state c.in-Ok.log.disk).seen (state c.find_epochs.new.first.disk).seen) (c.in-Ok.ensures.list first_told)
    (subst (λ l. IsWrittenTorn s c.in-Ok.log.payloads l (state c.in-Ok.log.disk).seen (state c.find_epochs.new.first.disk).seen) (c.in-Ok-mount.ensures.list second_told)
    (c.find_epochs.ensures.first_torn first))))

pub returns-in-Ok-find_epochs-clause-past : goal.returns-in-Ok-find_epochs-clause-past
returns-in-Ok-find_epochs-clause-past g c = c.of_logs.ensures.past ∙ (c.and_both-past.ensures ∙ ap (λ l. l ++ (c.args.first, c.args.second) ∷ []) c.new.ensures)
