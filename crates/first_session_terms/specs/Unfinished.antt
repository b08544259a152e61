-- Which entries of a session are not finished yet.
use Rattle.std.specs.Prelude.{Bool, true, false, ◌&&◌, not, ◌==◌, nat_le, List, filter}
use Rattle.std.specs.List.{list_any}
use Rattle.first_session_terms.specs.declared.entry.Entry.{Entry}
use Rattle.first_session_terms.specs.declared.entry.Kind.{Kind}
use Rattle.first_session_terms.specs.declared.entry.Kind.TheVariants.{Track1, Track2, Zero, Silent}
use Rattle.first_session_terms.specs.PlainSession.{PlainSession}

-- at or below the mark of track 1, done on track 2, and always where it has no number
abbrev pub kind_is_finished : PlainSession → Kind → Bool
kind_is_finished m (Track1 number) = nat_le number m.acked
kind_is_finished m (Track2 number) = list_any (λ d. d == number) m.done
kind_is_finished m Zero = true
kind_is_finished m Silent = true

abbrev pub is_finished : PlainSession → Entry → Bool
is_finished m e = kind_is_finished m e.kind

-- received on track 2 and not done: what is sent again is PUBREL (MQTT 4.3.3)
abbrev pub kind_is_released : PlainSession → Kind → Bool
kind_is_released m (Track1 number) = false
kind_is_released m (Track2 number) = nat_le number m.received && not (list_any (λ d. d == number) m.done)
kind_is_released m Zero = false
kind_is_released m Silent = false

abbrev pub is_released : PlainSession → Entry → Bool
is_released m e = kind_is_released m e.kind

-- in the order of issue
abbrev pub unfinished : PlainSession → List Entry
unfinished m = filter (λ e. not (is_finished m e)) m.issued
