use Rattle.session_state.specs.KeptActing.{tidied}
use Rattle.session_state.specs.TidyLaws.{tidied_is_tidy, tidy_stays}
use Rattle.session_state.specs.SoundLaws.{sound_from_test}
use Rattle.session_state.proofs.laws.tidied_is_tidy.Goals as goal

pub returns : goal.returns
returns c = record { again = λ m. tidy_stays (tidied m) (tidied_is_tidy m); sound = λ m is. tidy_stays m (sound_from_test m is).tidy }
