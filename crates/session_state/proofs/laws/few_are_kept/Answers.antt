use Rattle.session_state.specs.CountLaws.{few_versions}
use Rattle.session_state.specs.SoundLaws.{few_batches}
use Rattle.session_state.proofs.laws.few_are_kept.Goals as goal

pub returns : goal.returns
returns c = record { batches = few_batches; versions = few_versions }
