use Rattle.std.proofs.Common.{IsTrue, ◌≡◌, ◌+◌, ◌≤◌, ◌∷◌, ◌++◌, [], arith, ap, subst, sym, ◌∙◌, length, take, Err}
use Rattle.std.specs.Int.{w64, to_be_bytes}
use Rattle.gated_log.specs.PlainLog.{PlainLog}
use Rattle.pair_log.specs.declared.doubt.Doubt.TheVariants.{Nothing}
use Rattle.pair_log.specs.Epochs.{next_epoch}
use Rattle.pair_log.specs.PlainPair.{PlainPair}
use Rattle.pair_log.proofs.PairLemmas.{pair_has}
use Rattle.pair_log.proofs.RewriteLemmas.{begun_pair, only_fault, rewritten_pair}
use Rattle.pair_log.proofs.pair.PairLog.commit_standby.Goals as goal

pub invariant_of-self : goal.invariant_of-self
invariant_of-self g c =
    let doubt : c.self.inside.doubt ≡ Nothing = ap (λ (v : PlainPair g.row.D.Denot). v.doubt) c.self.view_is ∙ c.requires.rests in
    let spelled : take 8 c.args.snapshot.now ≡ to_be_bytes w64 (next_epoch c.self.inside.epoch) = c.requires.epoch ∙ ap (λ (v : PlainPair g.row.D.Denot). to_be_bytes w64 (next_epoch v.epoch)) (sym c.self.view_is) in
    let fits = subst (λ (v : PlainPair g.row.D.Denot). v.standby.end + (6 + length c.args.snapshot.now) ≤ v.standby.limit) (sym c.self.view_is) c.requires.fits in
    let none : c.self.inside.standby.payloads ≡ [] = ap (λ (v : PlainPair g.row.D.Denot). v.standby.payloads) c.self.view_is ∙ c.requires.empty in
    let fault = only_fault c.in-Err.refused (λ e. omega (arith, c.in-Err.ensures.full.0 (ap Err e), fits)) (λ e. c.in-Err.ensures.never_memory (ap Err e)) in
    begun_pair g.D.Disk.state (record { active = c.self.inside.active; standby = c.self.inside.standby; side = c.self.inside.side; epoch = c.self.inside.epoch; doubt = c.self.inside.doubt; past = [] })
    c.commit.new.self c.args.snapshot.now c.self.invariant doubt spelled (ap (λ (l : PlainLog g.row.D.Denot). l.standing) (c.in-Err.ensures.in_doubt (ap Err fault))) (c.in-Err.ensures.count_kept ∙ ap length none) c.commit.ensures.run.tells
    (λ told. c.commit.ensures.images (subst IsTrue (sym c.commit.ensures.run.tells) told.1))

pub returns-in-Err-clause-images : goal.returns-in-Err-clause-images
returns-in-Err-clause-images g c = λ told. pair_has g.D.Disk.state _ (invariant_of-self g c) told

pub invariant_of-self-2 : goal.invariant_of-self-2
invariant_of-self-2 g c =
    let doubt : c.self.inside.doubt ≡ Nothing = ap (λ (v : PlainPair g.row.D.Denot). v.doubt) c.self.view_is ∙ c.requires.rests in
    let spelled : take 8 c.args.snapshot.now ≡ to_be_bytes w64 (next_epoch c.self.inside.epoch) = c.requires.epoch ∙ ap (λ (v : PlainPair g.row.D.Denot). to_be_bytes w64 (next_epoch v.epoch)) (sym c.self.view_is) in
    let none : c.self.inside.standby.payloads ≡ [] = ap (λ (v : PlainPair g.row.D.Denot). v.standby.payloads) c.self.view_is ∙ c.requires.empty in
    rw (c.swap_logs.ensures.active, c.swap_logs.ensures.standby, c.swap_logs.ensures.side, c.swap_logs.ensures.epoch, doubt)
    (rewritten_pair g.D.Disk.state (record { active = c.self.inside.active; standby = c.self.inside.standby; side = c.self.inside.side; epoch = c.self.inside.epoch; doubt = c.self.inside.doubt; past = [] })
    c.commit.new.self c.args.snapshot.now c.self.invariant doubt spelled (ap (λ (l : PlainLog g.row.D.Denot). l.standing) c.in_default.ensures.stays ∙ (ap (λ (v : PlainPair g.row.D.Denot). v.standby.standing) c.self.view_is ∙ c.requires.standby_rests)) (omega (arith, c.in_default.ensures.count)) c.commit.ensures.run.tells
    (λ told. c.in_default.ensures.list told.1 ∙ ap (λ l. l ++ c.args.snapshot.now ∷ []) none) (λ told. c.commit.ensures.images (subst IsTrue (sym c.commit.ensures.run.tells) told.1)))

pub returns-clause-images : goal.returns-clause-images
returns-clause-images g c = λ told. pair_has g.D.Disk.state _ (invariant_of-self-2 g c) told
