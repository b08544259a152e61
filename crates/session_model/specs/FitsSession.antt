-- When a change fits the sessions of a worker.
use Rattle.std.specs.Prelude.{ℕ, ◌+◌, ◌-◌, ◌^◌, Bool, true, false, ◌&&◌, ◌||◌, not, ◌==◌, nat_le, nat_lt, List, [], ◌∷◌}
use Rattle.std.specs.Prelude.{length, filter, slice_get, Option, Some, None, is_some, is_none}
use Rattle.std.specs.List.{list_all, sum_by}
use Rattle.topic_model.specs.Profile.{Profile}
use Rattle.topic_model.specs.Levels.{text_of_levels}
use Rattle.topic_model.specs.Texts.{filter_refusal}
use Rattle.session_model.specs.declared.entry.Entry.{Entry}
use Rattle.session_model.specs.Entry.{numbers1, numbers2}
use Rattle.session_model.specs.PlainSession.{PlainSession, Subscription, Sessions, session_of, subscription_numbered}
use Rattle.session_model.specs.PlainSession.{next_subscription, next_version, issued1_of, issued2_of, in_use, is_done}
use Rattle.session_model.specs.PlainSession.{left_of}
use Rattle.session_model.specs.Unfinished.{kept_subscriptions}
use Rattle.session_model.specs.Change.{Change, Effect, Began, Ended, Bound, Parted, Subscribed, Replaced, Unsubscribed}
use Rattle.session_model.specs.Change.{Issued, Acked, Received, Done, Passed, Subscribes, Replaces, Issues, Passes}
use Rattle.session_model.specs.Acting.{act_one}

-- the greatest number of eight bytes, which spells "none" where a moment stands, and of four
abbrev pub greatest : ℕ
greatest = 2 ^ 64 - 1

abbrev pub greatest_of_four : ℕ
greatest_of_four = 2 ^ 32 - 1

-- ---- the effect

abbrev pub if_live : Option Subscription → Bool
if_live None = false
if_live (Some s) = s.live

abbrev pub is_live : PlainSession → ℕ → Bool
is_live m number = if_live (subscription_numbered number m)

-- a version is the session's next one, and one is left behind it
abbrev pub is_next_version : PlainSession → ℕ → Bool
is_next_version m version = (version == next_version m) && nat_lt version greatest_of_four

abbrev pub may_be_subscribed : PlainSession → Subscribes → Bool
may_be_subscribed m s = (s.subscription == next_subscription m)
    && (nat_lt s.subscription greatest_of_four && is_next_version m s.version)

abbrev pub may_be_replaced : PlainSession → Replaces → Bool
may_be_replaced m r = is_live m r.subscription && is_next_version m r.version

-- numbers that go on from one
abbrev pub go_on : ℕ → List ℕ → Bool
go_on last [] = true
go_on last (n ∷ ns) = (n == last + 1) && go_on n ns

abbrev pub ascend : List Entry → Bool
ascend [] = true
ascend (e ∷ []) = true
ascend (e ∷ f ∷ es) = nat_lt e.offset f.offset && ascend (f ∷ es)

abbrev pub has_version : ℕ → Option Subscription → Bool
has_version version None = false
has_version version (Some s) = s.version == version

abbrev pub has_sweep : ℕ → Option Subscription → Bool
has_sweep shard None = false
has_sweep shard (Some s) = is_some (slice_get s.sweeps shard)

abbrev pub is_entry_of : PlainSession → Issues → Entry → Bool
is_entry_of m i e =
    (e.subscription == i.subscription)
    && ((e.shard == i.shard) && has_version e.version (subscription_numbered i.subscription m))

-- a track has so many numbers left
abbrev pub has_left : ℕ → List ℕ → Bool
has_left issued numbers = nat_le (length numbers) (left_of issued)

-- some entries, of the subscription's present version in one of its shards, with ascending offsets, and numbers that go
-- on, none of them the greatest of eight bytes
abbrev pub may_be_issued : PlainSession → Issues → Bool
may_be_issued m i =
    is_live m i.subscription
    && (has_sweep i.shard (subscription_numbered i.subscription m)
    && (nat_lt 0 (length i.entries)
    && (list_all (is_entry_of m i) i.entries
    && (ascend i.entries
    && ((go_on (issued1_of m) (numbers1 i.entries) && go_on (issued2_of m) (numbers2 i.entries))
    && (has_left (issued1_of m) (numbers1 i.entries) && has_left (issued2_of m) (numbers2 i.entries)))))))

-- above a mark, and not past the last that was issued
abbrev pub is_between : ℕ → ℕ → ℕ → Bool
is_between mark last number = nat_lt mark number && nat_le number last

abbrev pub may_be_passed : PlainSession → Passes → Bool
may_be_passed m p =
    ((p.track == 1) && is_between m.acked (issued1_of m) p.number)
    || ((p.track == 2) && is_between m.received (issued2_of m) p.number)

-- of a session that is held
abbrev pub suits : PlainSession → Effect → Bool
suits m (Began b) = false
suits m Ended = true
suits m (Bound expiry) = true
suits m (Parted p) = nat_lt p.moment greatest
suits m (Subscribed s) = may_be_subscribed m s
suits m (Replaced r) = may_be_replaced m r
suits m (Unsubscribed number) = is_live m number
suits m (Issued i) = may_be_issued m i
suits m (Acked number) = is_between m.acked (issued1_of m) number
suits m (Received number) = is_between m.received (issued2_of m) number
suits m (Done number) = nat_le number m.received && (nat_lt 0 number && not (is_done m number))
suits m (Passed p) = may_be_passed m p

abbrev pub may_begin : Sessions → Effect → Bool
may_begin s (Began b) = (b.incarnation == s.next) && nat_lt b.incarnation greatest
may_begin s other = false

-- a session that begins isn't held yet; each other change is of one that is
abbrev pub finds : Sessions → Effect → Option PlainSession → Bool
finds s effect None = may_begin s effect
finds s effect (Some m) = suits m effect

-- ---- the limits afterwards

abbrev pub live_count : PlainSession → ℕ
live_count m = length (filter (λ (s : Subscription). s.live) m.subscriptions)

-- the bytes of all filter texts that a session keeps
abbrev pub text_bytes : PlainSession → ℕ
text_bytes m = sum_by (λ (s : Subscription). length (text_of_levels s.filter)) (kept_subscriptions m)

abbrev pub is_wide : Profile → PlainSession → Bool
is_wide profile m = m.window == profile.wide_window

-- a window is one of the two that there are
abbrev pub has_window : Profile → PlainSession → Bool
has_window profile m = (m.window == profile.window) || (profile.widens && is_wide profile m)

-- each filter that a session keeps is one (MQTT 4.7)
abbrev pub has_filters : PlainSession → Bool
has_filters m = list_all (λ (s : Subscription). is_none (filter_refusal (text_of_levels s.filter)))
    (kept_subscriptions m)

abbrev pub is_within : Profile → PlainSession → Bool
is_within profile m =
    nat_le (length m.client) profile.client
    && (has_window profile m
    && (nat_le (live_count m) profile.subscriptions
    && (has_filters m && (nat_le (text_bytes m) profile.filter_texts && nat_le (in_use m) m.window))))

abbrev pub wide_count : Profile → List PlainSession → ℕ
wide_count profile ms = length (filter (is_wide profile) ms)

abbrev pub are_within : Profile → Sessions → Bool
are_within profile s =
    nat_le (length s.list) profile.sessions
    && (nat_le (wide_count profile s.list) profile.wide_sessions && list_all (is_within profile) s.list)

-- ---- a change, and changes one after the other

abbrev pub change_fits : Profile → Sessions → Change → Bool
change_fits profile s c = finds s c.effect (session_of c.client s) && are_within profile (act_one s c)

abbrev pub changes_fit : Profile → Sessions → List Change → Bool
changes_fit profile s [] = true
changes_fit profile s (c ∷ changes) = change_fits profile s c && changes_fit profile (act_one s c) changes
