use Rattle.session_state.specs.SoundLaws.{keeps_sound}
use Rattle.session_state.proofs.laws.changes_keep_sound.Goals as goal

pub returns : goal.returns
returns c = keeps_sound
