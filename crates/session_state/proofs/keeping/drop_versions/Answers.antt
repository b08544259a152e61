use Rattle.std.proofs.Common.{◌||◌, rules}
use Rattle.std.proofs.lemmas.Fn.{filter_same}
use Rattle.session_model.specs.declared.entry.Version.{Version}
use Rattle.session_state.specs.KeptActing.{is_present, is_named}
use Rattle.session_state.proofs.keeping.drop_versions.Goals as goal

pub returns : goal.returns
returns c =
    filter_same _ (λ (v : Version). is_present c.args.subs.now v || is_named c.args.batches.now v) _ (λ x b q h. search rules) _ _ c.retain.ensures.filtered
