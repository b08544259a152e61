use Rattle.std.proofs.Common.{◌≡◌, true, subst}
use Rattle.topic_model.specs.Profile.{whole}
use Rattle.session_state.specs.declared.change.Effect.{Effect}
use Rattle.session_state.specs.KeptFits.{session_fits}
use Rattle.session_state.proofs.session.Session.make.Goals as goal

pub bind-requires : goal.bind-requires
bind-requires c = subst (λ (e : Effect). session_fits whole c.args.self.now e ≡ true) c.in-Bound.is c.requires

pub part-requires : goal.part-requires
part-requires c = subst (λ (e : Effect). session_fits whole c.args.self.now e ≡ true) c.in-Parted.is c.requires

pub subscribe-requires : goal.subscribe-requires
subscribe-requires c = subst (λ (e : Effect). session_fits whole c.args.self.now e ≡ true) c.in-Subscribed.is c.requires

pub replace-requires : goal.replace-requires
replace-requires c = subst (λ (e : Effect). session_fits whole c.args.self.now e ≡ true) c.in-Replaced.is c.requires

pub unsubscribe-requires : goal.unsubscribe-requires
unsubscribe-requires c = subst (λ (e : Effect). session_fits whole c.args.self.now e ≡ true) c.in-Unsubscribed.is c.requires

pub issue-requires : goal.issue-requires
issue-requires c = subst (λ (e : Effect). session_fits whole c.args.self.now e ≡ true) c.in-Issued.is c.requires

pub acknowledge-requires : goal.acknowledge-requires
acknowledge-requires c = subst (λ (e : Effect). session_fits whole c.args.self.now e ≡ true) c.in-Acked.is c.requires

pub receive-requires : goal.receive-requires
receive-requires c = subst (λ (e : Effect). session_fits whole c.args.self.now e ≡ true) c.in-Received.is c.requires

pub complete-requires : goal.complete-requires
complete-requires c = subst (λ (e : Effect). session_fits whole c.args.self.now e ≡ true) c.in-Done.is c.requires

pub pass-requires : goal.pass-requires
pass-requires c = subst (λ (e : Effect). session_fits whole c.args.self.now e ≡ true) c.in-Passed.is c.requires
