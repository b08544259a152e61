use Rattle.std.proofs.Common.{rules}
use Rattle.std.proofs.lemmas.Fn.{filter_same}
use Rattle.session_state.specs.declared.batch.Batch.{Batch}
use Rattle.session_state.specs.KeptActing.{has_unfinished}
use Rattle.session_state.proofs.keeping.drop_finished.Goals as goal

pub returns : goal.returns
returns c = filter_same _ (λ (b : Batch). has_unfinished c.args.tracks.now b) _ (λ x b q h. search rules) _ _ c.retain.ensures.filtered
