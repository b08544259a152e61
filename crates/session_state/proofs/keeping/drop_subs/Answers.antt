use Rattle.std.proofs.Common.{◌||◌, rules}
use Rattle.std.proofs.lemmas.Fn.{filter_same}
use Rattle.session_state.specs.KeptSub.{KeptSub}
use Rattle.session_state.specs.KeptActing.{has_version}
use Rattle.session_state.proofs.keeping.drop_subs.Goals as goal

pub returns : goal.returns
returns c = filter_same _ (λ (s : KeptSub). s.live || has_version c.args.versions.now s) _ (λ x b q h. search rules) _ _ c.retain.ensures.filtered
