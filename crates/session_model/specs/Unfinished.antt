-- Which entries of a session are not finished yet, and what it keeps for them.
use Rattle.std.specs.Prelude.{Bool, true, false, ◌&&◌, ◌||◌, not, ◌==◌, nat_le, List, filter}
use Rattle.std.specs.List.{list_any}
use Rattle.session_model.specs.declared.entry.Entry.{Entry}
use Rattle.session_model.specs.declared.entry.Version.{Version}
use Rattle.session_model.specs.declared.entry.Kind.{Kind}
use Rattle.session_model.specs.declared.entry.Kind.TheVariants.{Track1, Track2, Zero, Silent}
use Rattle.session_model.specs.PlainSession.{PlainSession, Subscription, is_done}

-- at or below the mark of track 1, done on track 2, and always where it has no number
abbrev pub kind_is_finished : PlainSession → Kind → Bool
kind_is_finished m (Track1 number) = nat_le number m.acked
kind_is_finished m (Track2 number) = is_done m number
kind_is_finished m Zero = true
kind_is_finished m Silent = true

abbrev pub is_finished : PlainSession → Entry → Bool
is_finished m e = kind_is_finished m e.kind

-- received on track 2 and not done: what is sent again is PUBREL (MQTT 4.3.3)
abbrev pub kind_is_released : PlainSession → Kind → Bool
kind_is_released m (Track1 number) = false
kind_is_released m (Track2 number) = nat_le number m.received && not (is_done m number)
kind_is_released m Zero = false
kind_is_released m Silent = false

abbrev pub is_released : PlainSession → Entry → Bool
is_released m e = kind_is_released m e.kind

-- in the order of issue
abbrev pub unfinished : PlainSession → List Entry
unfinished m = filter (λ (e : Entry). not (is_finished m e)) m.issued

-- ---- what is kept

-- a version is kept while it is the present one of a live subscription, or an unfinished entry has it
abbrev pub is_present : PlainSession → Version → Bool
is_present m v = list_any (λ (s : Subscription). s.live && (s.version == v.number)) m.subscriptions

abbrev pub is_used : PlainSession → Version → Bool
is_used m v = list_any (λ (e : Entry). e.version == v.number) (unfinished m)

abbrev pub kept_versions : PlainSession → List Version
kept_versions m = filter (λ (v : Version). is_present m v || is_used m v) m.versions

-- and a subscription while it is live, or a kept version is one of its
abbrev pub kept_subscriptions : PlainSession → List Subscription
kept_subscriptions m =
    filter (λ (s : Subscription). s.live || list_any (λ (v : Version). v.subscription == s.number) (kept_versions m))
    m.subscriptions
