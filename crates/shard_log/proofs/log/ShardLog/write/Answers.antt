use Rattle.std.proofs.Common.{rules, ◌≡◌, is_err, true, false, sym, ap, subst, ◌∙◌}
use Rattle.shard_disks.specs.Calls.{CommitsTo, IsTornTo, Told}
use Rattle.shard_disks.specs.Outline.{Outline}
use Rattle.shard_log.specs.Appending.{IsShown}
use Rattle.shard_log.specs.PlainShardLog.{PlainShardLog, own_slot, shown}
use Rattle.shard_log.specs.Steps.{IsToStore}
use Rattle.shard_log.proofs.ListLemmas.{err_of, ok_of}
use Rattle.shard_log.proofs.WriteLemmas.{kept_in_doubt, kept_written, write_err, write_ok}
use Rattle.shard_log.proofs.log.ShardLog.write.Goals as goal

pub invariant_of-self : goal.invariant_of-self
invariant_of-self g c =
    let old : PlainShardLog g.row.D.Denot = record { disks = c.self.inside.disks; index = c.self.inside.index; unshown = c.self.inside.unshown.items; asked = c.self.inside.asked } in
    let slot : c.slot-slot.result ≡ own_slot old = search rules in
    let failed : is_err c.commit.result ≡ true = search rules in
    let why = err_of c.commit.result failed in
    kept_in_doubt g.D.Disk.state old c.self.invariant (subst IsShown (sym c.self.view_is) c.requires.rests) c.doubted-rests.ensures.eight c.doubted-rests.ensures.stand c.args.draft.now c.args.ops.items
    (subst (λ s. IsToStore (shown s) c.args.draft.now c.args.ops.items) (sym c.self.view_is) c.requires.stores) c.commit.new.self why.0
    (subst (λ r. CommitsTo g.D.Disk.state (own_slot old) c.args.draft.now c.self.inside.disks c.commit.new.self r) why.1
    (subst (λ n. CommitsTo g.D.Disk.state n c.args.draft.now c.self.inside.disks c.commit.new.self c.commit.result) slot c.commit.ensures.commits))
    (subst (λ n. Told g.D.Disk.state c.self.inside.disks → IsTornTo g.D.Disk.state n c.args.draft.now c.self.inside.disks c.commit.new.self) slot c.commit.ensures.torn)

pub returns-then-is_err : goal.returns-then-is_err
returns-then-is_err g c =
    let old : PlainShardLog g.row.D.Denot = record { disks = c.self.inside.disks; index = c.self.inside.index; unshown = c.self.inside.unshown.items; asked = c.self.inside.asked } in
    let slot : c.slot-slot.result ≡ own_slot old = search rules in
    let failed : is_err c.commit.result ≡ true = search rules in
    let why = err_of c.commit.result failed in
    rw (← c.self.view_is) (record {
      writes = write_err g.D.Disk.state old c.self.invariant (subst IsShown (sym c.self.view_is) c.requires.rests) c.doubted-rests.ensures.eight c.doubted-rests.ensures.stand c.args.draft.now c.args.ops.items
          (subst (λ s. IsToStore (shown s) c.args.draft.now c.args.ops.items) (sym c.self.view_is) c.requires.stores) c.commit.new.self why.0
          (subst (λ r. CommitsTo g.D.Disk.state (own_slot old) c.args.draft.now c.self.inside.disks c.commit.new.self r) why.1
          (subst (λ n. CommitsTo g.D.Disk.state n c.args.draft.now c.self.inside.disks c.commit.new.self c.commit.result) slot c.commit.ensures.commits))
          (subst (λ n. Told g.D.Disk.state c.self.inside.disks → IsTornTo g.D.Disk.state n c.args.draft.now c.self.inside.disks c.commit.new.self) slot c.commit.ensures.torn);
    })

pub invariant_of-self-2 : goal.invariant_of-self-2
invariant_of-self-2 g c =
    let old : PlainShardLog g.row.D.Denot = record { disks = c.self.inside.disks; index = c.self.inside.index; unshown = c.self.inside.unshown.items; asked = c.self.inside.asked } in
    let slot : c.slot-slot.result ≡ own_slot old = search rules in
    let done : is_err c.commit.result ≡ false = search rules in
    let shows = subst IsShown (sym c.self.view_is) c.requires.rests in
    let commits = subst (λ r. CommitsTo g.D.Disk.state (own_slot old) c.args.draft.now c.self.inside.disks c.commit.new.self r) (ok_of c.commit.result done)
    (subst (λ n. CommitsTo g.D.Disk.state n c.args.draft.now c.self.inside.disks c.commit.new.self c.commit.result) slot c.commit.ensures.commits) in
    kept_written g.D.Disk.state old c.self.invariant shows c.doubted-rests.ensures.eight c.doubted-rests.ensures.stand c.args.draft.now c.args.ops.items
    (subst (λ s. IsToStore (shown s) c.args.draft.now c.args.ops.items) (sym c.self.view_is) c.requires.stores) c.commit.new.self commits
    (subst (λ n. Told g.D.Disk.state c.self.inside.disks → IsTornTo g.D.Disk.state n c.args.draft.now c.self.inside.disks c.commit.new.self) slot c.commit.ensures.torn)
    (c.doubted-rests_now.ensures.rests (ap (λ (o : Outline). o.doubted) commits.stays ∙ shows.rests))

pub returns : goal.returns
returns g c =
    let old : PlainShardLog g.row.D.Denot = record { disks = c.self.inside.disks; index = c.self.inside.index; unshown = c.self.inside.unshown.items; asked = c.self.inside.asked } in
    let slot : c.slot-slot.result ≡ own_slot old = search rules in
    let done : is_err c.commit.result ≡ false = search rules in
    rw (← c.self.view_is) (record {
      writes = write_ok g.D.Disk.state old c.self.invariant (subst IsShown (sym c.self.view_is) c.requires.rests) c.doubted-rests.ensures.eight c.doubted-rests.ensures.stand c.args.draft.now c.args.ops.items
          (subst (λ s. IsToStore (shown s) c.args.draft.now c.args.ops.items) (sym c.self.view_is) c.requires.stores) c.commit.new.self
          (subst (λ r. CommitsTo g.D.Disk.state (own_slot old) c.args.draft.now c.self.inside.disks c.commit.new.self r) (ok_of c.commit.result done)
          (subst (λ n. CommitsTo g.D.Disk.state n c.args.draft.now c.self.inside.disks c.commit.new.self c.commit.result) slot c.commit.ensures.commits))
          (subst (λ n. Told g.D.Disk.state c.self.inside.disks → IsTornTo g.D.Disk.state n c.args.draft.now c.self.inside.disks c.commit.new.self) slot c.commit.ensures.torn);
    })
