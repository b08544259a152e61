use Rattle.std.proofs.Common.{arith, IsTrue, Err, ◌≡◌, [], ◌∷◌, ◌++◌, ap, refl, subst, sym, ◌∙◌}
use Rattle.std.proofs.lemmas.List.{append-nil}
use Rattle.gated_log.specs.PlainLog.{AtRest, InDoubt, PlainLog, is_lost, with_doubted}
use Rattle.pair_log.specs.declared.doubt.Doubt.TheVariants.{Nothing}
use Rattle.pair_log.specs.PlainPair.{IsEither, PlainPair, Told, after_of}
use Rattle.pair_log.proofs.PairLemmas.{commit_moment, commit_now, one_step}
use Rattle.pair_log.proofs.RewriteLemmas.{only_fault, rests_then}
use Rattle.pair_log.proofs.pair.PairLog.commit.Goals as goal

pub returns-in-Err-clause-any_moment : goal.returns-in-Err-clause-any_moment
returns-in-Err-clause-any_moment g c =
    let doubt : c.self.inside.doubt ≡ Nothing = ap (λ (v : PlainPair g.row.D.Denot). v.doubt) c.self.view_is ∙ c.requires.rests in
    let pair : PlainPair g.row.D.Denot = record { active = c.self.inside.active; standby = c.self.inside.standby; side = c.self.inside.side; epoch = c.self.inside.epoch; doubt = c.self.inside.doubt; past = [] } in
    rw (← c.self.view_is) (λ told.
    one_step g.D.Disk.state (IsEither pair.active.payloads (pair.active.payloads ++ c.args.draft.now ∷ [])) _ _ _ _ c.recorded-self-inside.ensures
    (commit_moment g.D.Disk.state pair c.commit.new.self.disk c.args.draft.now c.self.invariant told doubt
    (c.commit.ensures.any_moment told.0).each (λ b left. g.met.D.Disk.only_now c.self.inside.standby.disk b left)))

pub returns-clause-any_moment : goal.returns-clause-any_moment
returns-clause-any_moment g c =
    let doubt : c.self.inside.doubt ≡ Nothing = ap (λ (v : PlainPair g.row.D.Denot). v.doubt) c.self.view_is ∙ c.requires.rests in
    let pair : PlainPair g.row.D.Denot = record { active = c.self.inside.active; standby = c.self.inside.standby; side = c.self.inside.side; epoch = c.self.inside.epoch; doubt = c.self.inside.doubt; past = [] } in
    rw (← c.self.view_is) (λ told.
    one_step g.D.Disk.state (IsEither pair.active.payloads (pair.active.payloads ++ c.args.draft.now ∷ [])) _ _ _ _ c.recorded-self-inside.ensures
    (commit_moment g.D.Disk.state pair c.commit.new.self.disk c.args.draft.now c.self.invariant told doubt
    (c.commit.ensures.any_moment told.0).each (λ b left. g.met.D.Disk.only_now c.self.inside.standby.disk b left)))

pub returns-in-Err-clause-images : goal.returns-in-Err-clause-images
returns-in-Err-clause-images g c = λ told.
    let doubt : c.self.inside.doubt ≡ Nothing = ap (λ (v : PlainPair g.row.D.Denot). v.doubt) c.self.view_is ∙ c.requires.rests in
    let before : Told g.D.Disk.state (record { active = c.self.inside.active; standby = c.self.inside.standby; side = c.self.inside.side; epoch = c.self.inside.epoch; doubt = c.self.inside.doubt; past = [] }) = (subst IsTrue c.commit.ensures.run.tells told.0, told.1) in
    let within = c.if-not-fits.ensures.fits.0 refl in
    let fault = only_fault c.in-Err.refused (λ e. omega (arith, c.in-Err.ensures.full.0 (ap Err e), within)) (λ e. c.in-Err.ensures.never_memory (ap Err e)) in
    let stood : c.commit.new.self.standing ≡ InDoubt c.args.draft.now = ap (λ (l : PlainLog g.row.D.Denot). l.standing) (c.in-Err.ensures.in_doubt (ap Err fault)) in
    commit_now g.D.Disk.state (record { active = c.self.inside.active; standby = c.self.inside.standby; side = c.self.inside.side; epoch = c.self.inside.epoch; doubt = c.self.inside.doubt; past = [] }) c.commit.new.self [] _ c.self.invariant before doubt (c.commit.ensures.images told.0)
    (c.in-Err.ensures.kept before.0 ∙ sym (append-nil _)) (ap is_lost stood) refl

pub returns-clause-images : goal.returns-clause-images
returns-clause-images g c = λ told.
    let doubt : c.self.inside.doubt ≡ Nothing = ap (λ (v : PlainPair g.row.D.Denot). v.doubt) c.self.view_is ∙ c.requires.rests in
    let pair : PlainPair g.row.D.Denot = record { active = c.self.inside.active; standby = c.self.inside.standby; side = c.self.inside.side; epoch = c.self.inside.epoch; doubt = c.self.inside.doubt; past = [] } in
    let before : Told g.D.Disk.state (record { active = c.self.inside.active; standby = c.self.inside.standby; side = c.self.inside.side; epoch = c.self.inside.epoch; doubt = c.self.inside.doubt; past = [] }) = (subst IsTrue c.commit.ensures.run.tells told.0, told.1) in
    let stood : c.commit.new.self.standing ≡ AtRest = ap (λ (l : PlainLog g.row.D.Denot). l.standing) c.in_default.ensures.stays ∙ rests_then g.D.Disk.state pair c.self.invariant doubt in
    commit_now g.D.Disk.state pair c.commit.new.self (c.args.draft.now ∷ []) _ c.self.invariant before doubt (c.commit.ensures.images told.0)
    (c.in_default.ensures.list before.0) (ap is_lost stood)
    (ap (λ s. with_doubted s c.commit.new.self.payloads) stood ∙ ap (λ d. after_of d c.commit.new.self.payloads c.commit.new.self.standing c.self.inside.standby.standing) (sym doubt))
