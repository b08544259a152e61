-- When a change fits kept sessions.
use Rattle.std.specs.Prelude.{ℕ, ◌+◌, Bool, true, false, ◌&&◌, ◌||◌, ◌==◌, nat_le, nat_lt, List, [], ◌∷◌, length, filter, slice_get, Option, Some, None, is_some, is_none}
use Rattle.std.specs.List.{list_all, sum_by}
use Rattle.topic_model.specs.Profile.{Profile}
use Rattle.topic_model.specs.Levels.{text_of_levels}
use Rattle.topic_model.specs.Texts.{filter_refusal}
use Rattle.session_model.specs.Change.{Subscribes}
use Rattle.session_model.specs.FitsSession.{greatest, greatest_of_four, is_between}
use Rattle.seq_tracks.specs.PlainTracks.{PlainTracks, has_room_for, in_use, is_released, last_of, mark_of}
use Rattle.session_state.specs.declared.batch.Batch.{Batch}
use Rattle.session_state.specs.declared.change.Change.{Change}
use Rattle.session_state.specs.declared.change.Effect.{Effect}
use Rattle.session_state.specs.declared.change.Effect.TheVariants.{Began, Ended, Bound, Parted, Subscribed, Replaced, Unsubscribed, Issued, Acked, Received, Done, Passed}
use Rattle.session_state.specs.declared.change.Replaced.{Replaced as Replacing}
use Rattle.session_state.specs.declared.change.Issued.{Issued as Issuing}
use Rattle.session_state.specs.declared.change.Passed.{Passed as Passing}
use Rattle.session_state.specs.KeptSub.{KeptSub}
use Rattle.session_state.specs.KeptSession.{KeptSession, KeptSessions, session_of, sub_numbered}
use Rattle.session_state.specs.KeptActing.{kept_changed, kept_acted}

-- ---- the effect

abbrev pub if_live : Option KeptSub → Bool
if_live None = false
if_live (Some s) = s.live

abbrev pub is_live : KeptSession → ℕ → Bool
is_live m number = if_live (sub_numbered number m)

-- a version is the session's next one, and one is left behind it
abbrev pub is_next_version : KeptSession → ℕ → Bool
is_next_version m version = (version == m.next_version) && nat_lt version greatest_of_four

-- a subscription is the session's next one, and one is left behind it
abbrev pub is_next_sub : KeptSession → ℕ → Bool
is_next_sub m number = (number == m.next_sub) && nat_lt number greatest_of_four

abbrev pub subscribes : KeptSession → Subscribes → Bool
subscribes m s = is_next_sub m s.subscription && is_next_version m s.version

abbrev pub replaces : KeptSession → Replacing → Bool
replaces m r = is_live m r.subscription && is_next_version m r.version

-- a batch may be issued of a subscription: it is live, the batch has its present version, and its shard has a sweep
abbrev pub is_issuing : Batch → Option KeptSub → Bool
is_issuing b None = false
is_issuing b (Some s) = s.live && ((s.version == b.version) && is_some (slice_get s.sweeps b.shard))

-- the numbers of a batch go on from those given, and there are so many left
abbrev pub goes_on : PlainTracks → Batch → Bool
goes_on t b = (b.first1 == t.issued1 + 1) && ((b.first2 == t.issued2 + 1) && has_room_for t b.count1 b.count2)

abbrev pub issues : KeptSession → Issuing → Bool
issues m i = is_issuing i.batch (sub_numbered i.subscription m) && (nat_lt i.batch.from i.batch.to && goes_on m.tracks i.batch)

-- above the mark of a track, and not past the last that it gave
abbrev pub passes : PlainTracks → Passing → Bool
passes t p = ((p.track == 1) || (p.track == 2)) && is_between (mark_of t p.track) (last_of t p.track) p.number

-- of a session that is held
abbrev pub kept_suits : KeptSession → Effect → Bool
kept_suits m (Began b) = false
kept_suits m Ended = true
kept_suits m (Bound expiry) = true
kept_suits m (Parted p) = nat_lt p.moment greatest
kept_suits m (Subscribed s) = subscribes m s
kept_suits m (Replaced r) = replaces m r
kept_suits m (Unsubscribed number) = is_live m number
kept_suits m (Issued i) = issues m i
kept_suits m (Acked number) = is_between m.tracks.acked m.tracks.issued1 number
kept_suits m (Received number) = is_between m.tracks.received m.tracks.issued2 number
kept_suits m (Done number) = is_released m.tracks number
kept_suits m (Passed p) = passes m.tracks p

-- a session that begins has the next number, and one is left behind it
abbrev pub kept_begins : KeptSessions → Effect → Bool
kept_begins s (Began b) = (b.incarnation == s.next) && nat_lt b.incarnation greatest
kept_begins s other = false

-- a session that begins isn't held yet; each other change is of one that is
abbrev pub kept_finds : KeptSessions → Effect → Option KeptSession → Bool
kept_finds s effect None = kept_begins s effect
kept_finds s effect (Some m) = kept_suits m effect

-- ---- the limits afterwards

abbrev pub live_count : List KeptSub → ℕ
live_count subs = length (filter (λ (s : KeptSub). s.live) subs)

-- the bytes of all filter texts, live and ended
abbrev pub text_bytes : List KeptSub → ℕ
text_bytes subs = sum_by (λ (s : KeptSub). length (text_of_levels s.filter)) subs

abbrev pub is_wide : Profile → KeptSession → Bool
is_wide profile m = m.window == profile.wide_window

-- a window is one of the two that there are
abbrev pub is_window : Profile → ℕ → Bool
is_window profile window = (window == profile.window) || (profile.widens && (window == profile.wide_window))

-- each filter is one (MQTT 4.7)
abbrev pub has_filters : List KeptSub → Bool
has_filters subs = list_all (λ (s : KeptSub). is_none (filter_refusal (text_of_levels s.filter))) subs

abbrev pub subs_within : Profile → List KeptSub → Bool
subs_within profile subs =
    nat_le (live_count subs) profile.subscriptions && (has_filters subs && nat_le (text_bytes subs) profile.filter_texts)

abbrev pub kept_within : Profile → KeptSession → Bool
kept_within profile m =
    nat_le (length m.client) profile.client
    && (is_window profile m.window && (subs_within profile m.subs && nat_le (in_use m.tracks) m.window))

abbrev pub wide_count : Profile → List KeptSession → ℕ
wide_count profile ms = length (filter (is_wide profile) ms)

abbrev pub kept_are_within : Profile → KeptSessions → Bool
kept_are_within profile s =
    nat_le (length s.list) profile.sessions
    && (nat_le (wide_count profile s.list) profile.wide_sessions && list_all (kept_within profile) s.list)

-- ---- a change, and changes one after the other

-- of a session that is held, whose limits hold afterwards
abbrev pub session_fits : Profile → KeptSession → Effect → Bool
session_fits profile m effect = kept_suits m effect && kept_within profile (kept_changed effect m)

-- the same of the session that a client has, if it has one
abbrev pub held_fits : Profile → Effect → Option KeptSession → Bool
held_fits profile effect None = false
held_fits profile effect (Some m) = session_fits profile m effect

abbrev pub kept_fits : Profile → KeptSessions → Change → Bool
kept_fits profile s c = kept_finds s c.effect (session_of c.client s) && kept_are_within profile (kept_acted c s)

abbrev pub kept_fit_all : Profile → KeptSessions → List Change → Bool
kept_fit_all profile s [] = true
kept_fit_all profile s (c ∷ changes) = kept_fits profile s c && kept_fit_all profile (kept_acted c s) changes
