use Rattle.std.proofs.Common.{◌≡◌, ◌∷◌, [], ap, inr, sym, ◌∙◌, take}
use Rattle.std.specs.Prelude.{is_err, false, true}
use Rattle.std.specs.Int.{w64, to_be_bytes}
use Rattle.outside.specs.DiskModel.{leaves_only_and, leaves_only_weaker}
use Rattle.outside.specs.Results.{on_ok_then, when_err, when_ok}
use Rattle.gated_log.specs.Calls.{with_record}
use Rattle.gated_log.specs.PlainLog.{PlainLog}
use Rattle.pair_log.specs.declared.doubt.Doubt.TheVariants.{Nothing}
use Rattle.pair_log.specs.Epochs.{next_epoch}
use Rattle.pair_log.specs.PlainPair.{IsEither, IsNewOrOlder, PlainPair, first_disk, second_disk}
use Rattle.pair_log.proofs.PairLemmas.{no_step, older, one_step, pair_has, pair_leaves}
use Rattle.pair_log.proofs.RewriteLemmas.{lost_pair, new_or_older_reads, over_restart, restart_older, seen_leaves}
use Rattle.pair_log.proofs.pair.PairLog.rewrite.Goals as goal

pub returns-then-limit-len-clause-any_moment : goal.returns-then-limit-len-clause-any_moment
returns-then-limit-len-clause-any_moment g c = rw (← c.self.view_is) (λ told. no_step g.D.Disk.state (IsEither c.self.inside.active.payloads (c.args.snapshot.now ∷ [])) _ _)

pub invariant_of-self : goal.invariant_of-self
invariant_of-self g c =
    let doubt : c.self.inside.doubt ≡ Nothing = ap (λ (v : PlainPair g.row.D.Denot). v.doubt) c.self.view_is ∙ c.requires.rests in
    let failed : is_err c.restart.result ≡ true = sym c.is_err.ensures.value ∙ c.if-is_err.true in
    lost_pair g.D.Disk.state (record { active = c.self.inside.active; standby = c.self.inside.standby; side = c.self.inside.side; epoch = c.self.inside.epoch; doubt = c.self.inside.doubt; past = [] })
    c.restart.new.self c.self.invariant doubt (ap (λ (l : PlainLog g.row.D.Denot). l.standing) (when_err c.restart.result failed c.restart.ensures.lost)) c.restart.ensures.run.tells
    (λ told b left. (c.restart.ensures.any_moment told.1).each b
    (g.met.D.Disk.counts_now c.restart.new.self.disk (g.D.Disk.state c.self.inside.standby.disk).calls b (c.restart.ensures.any_moment told.1).later left))

pub returns-then-is_err-clause-any_moment : goal.returns-then-is_err-clause-any_moment
returns-then-is_err-clause-any_moment g c =
    let doubt : c.self.inside.doubt ≡ Nothing = ap (λ (v : PlainPair g.row.D.Denot). v.doubt) c.self.view_is ∙ c.requires.rests in
    let spelled : take 8 c.args.snapshot.now ≡ to_be_bytes w64 (next_epoch c.self.inside.epoch) = c.requires.epoch ∙ ap (λ (v : PlainPair g.row.D.Denot). to_be_bytes w64 (next_epoch v.epoch)) (sym c.self.view_is) in
    let pair : PlainPair g.row.D.Denot = record { active = c.self.inside.active; standby = c.self.inside.standby; side = c.self.inside.side; epoch = c.self.inside.epoch; doubt = c.self.inside.doubt; past = [] } in
    rw (← c.self.view_is) (λ told.
    one_step g.D.Disk.state (IsEither pair.active.payloads (c.args.snapshot.now ∷ [])) _ _ _ _ c.recorded-self-inside.ensures
    (pair_leaves g.D.Disk.state c.self.inside.side c.self.inside.active.disk c.self.inside.standby.disk c.self.inside.active.disk c.restart.new.self.disk
    (IsEither c.self.inside.active.payloads (c.args.snapshot.now ∷ []))
    (λ a b left_a left_b. new_or_older_reads g.D.Disk.state pair c.args.snapshot.now a b c.self.invariant told doubt spelled
    (g.met.D.Disk.only_now c.self.inside.active.disk a left_a)
    (inr (restart_older c.self.inside.side c.self.inside.active.payloads (g.D.Disk.state c.self.inside.standby.disk).may_leave b c.self.invariant.some
    (older g.D.Disk.state pair c.self.invariant told doubt) ((c.restart.ensures.any_moment told.1).each b left_b))))))

pub returns-then-is_err-clause-images : goal.returns-then-is_err-clause-images
returns-then-is_err-clause-images g c = λ told. pair_has g.D.Disk.state _ (invariant_of-self g c) told

pub returns-clause-any_moment : goal.returns-clause-any_moment
returns-clause-any_moment g c =
    let doubt : c.self.inside.doubt ≡ Nothing = ap (λ (v : PlainPair g.row.D.Denot). v.doubt) c.self.view_is ∙ c.requires.rests in
    let spelled : take 8 c.args.snapshot.now ≡ to_be_bytes w64 (next_epoch c.self.inside.epoch) = c.requires.epoch ∙ ap (λ (v : PlainPair g.row.D.Denot). to_be_bytes w64 (next_epoch v.epoch)) (sym c.self.view_is) in
    let pair : PlainPair g.row.D.Denot = record { active = c.self.inside.active; standby = c.self.inside.standby; side = c.self.inside.side; epoch = c.self.inside.epoch; doubt = c.self.inside.doubt; past = [] } in
    rw (← c.self.view_is) (λ told.
    let moved = leaves_only_and _ _ _ _ _
    (leaves_only_weaker _ _ _ (IsNewOrOlder c.self.inside.side c.self.inside.active.payloads c.args.snapshot.now) (c.restart.ensures.any_moment told.1)
    (λ b h. inr (restart_older c.self.inside.side c.self.inside.active.payloads (g.D.Disk.state c.self.inside.standby.disk).may_leave b c.self.invariant.some
    (older g.D.Disk.state pair c.self.invariant told doubt) h)))
    (c.commit_standby.ensures.standby_moment (told.0, c.restart.ensures.run.tells ∙ told.1)) (λ b h. h) in
    one_step g.D.Disk.state (IsEither pair.active.payloads (c.args.snapshot.now ∷ [])) _ _ _ _ (c.commit_standby.ensures.past ∙ c.recorded-self-inside.ensures)
    (seen_leaves g.D.Disk.state c.self.inside.side (first_disk c.commit_standby.new.self) (second_disk c.commit_standby.new.self)
    c.self.inside.active.disk c.self.inside.standby.disk c.self.inside.active.disk (IsEither c.self.inside.active.payloads (c.args.snapshot.now ∷ [])) c.commit_standby.ensures.active
    (λ a b left_a left_b. new_or_older_reads g.D.Disk.state pair c.args.snapshot.now a b c.self.invariant told doubt spelled
    (g.met.D.Disk.only_now c.self.inside.active.disk a left_a) (moved.each b left_b))))

pub returns-clause-bytes : goal.returns-clause-bytes
returns-clause-bytes g c = rw (← c.self.view_is) (on_ok_then c.commit_standby.result (λ bytes told.
    let done : is_err c.restart.result ≡ false = sym c.is_err.ensures.value ∙ c.if-is_err.false in
    let emptied : c.restart.new.self.end ≡ 0 = ap (λ (l : PlainLog g.row.D.Denot). l.end) (when_ok c.restart.result done c.restart.ensures.stays) in
    bytes (told.0, c.restart.ensures.run.tells ∙ told.1)
    ∙ (ap (λ n. with_record n c.args.snapshot.now (g.D.Disk.state c.restart.new.self.disk).seen) emptied
    ∙ (ap (with_record 0 c.args.snapshot.now) (when_ok c.restart.result done c.restart.ensures.bytes told.1) ∙ over_restart c.args.snapshot.now (g.D.Disk.state c.self.inside.standby.disk).seen))) c.commit_standby.ensures.bytes)
