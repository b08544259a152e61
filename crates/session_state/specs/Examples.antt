-- Computed examples of kept sessions: what each change makes, when it fits, and what is kept.
use Rattle.std.specs.Prelude.{ℕ, ◌≡◌, Bool, true, false, List, [], ◌∷◌, length, map, codes, Option, Some, None, refl}
use Rattle.topic_model.specs.Profile.{whole}
use Rattle.topic_model.specs.Levels.{levels_of}
use Rattle.shard_model.specs.declared.sweep.Sweep.{Sweep}
use Rattle.session_model.specs.declared.entry.Version.{Version}
use Rattle.seq_tracks.specs.PlainTracks.{room}
use Rattle.session_state.specs.declared.batch.Batch.{Batch}
use Rattle.session_state.specs.declared.change.Change.{Change}
use Rattle.session_state.specs.declared.change.Effect.{Effect}
use Rattle.session_state.specs.declared.change.Effect.TheVariants.{Began, Ended, Bound, Parted, Subscribed, Replaced, Unsubscribed, Issued, Acked, Received, Done, Passed}
use Rattle.session_state.specs.KeptSub.{KeptSub}
use Rattle.session_state.specs.KeptSession.{KeptSession, KeptSessions, no_kept_sessions, session_of}
use Rattle.session_state.specs.KeptActing.{kept_acted_all}
use Rattle.session_state.specs.KeptFits.{kept_fits, kept_fit_all}
use Rattle.session_state.specs.SoundTest.{is_sound}

-- ---- a session of client `a` that is issued three messages on track 2 and one on track 1, in two batches

abbrev of_client : List ℕ → Effect → Change
of_client client effect = record { client = client; effect = effect }

abbrev of_a : Effect → Change
of_a effect = of_client (codes "a") effect

abbrev begins : Change
begins = of_a (Began (record { incarnation = 1; expiry = 3600; window = 512 }))

abbrev sweep : ℕ → Sweep
sweep position = record { generation = 0; base = 0; target = 6; stream = 0; position = position }

abbrev subscribes : Change
subscribes =
    of_a (Subscribed (record { subscription = 1; version = 1; options = 2; identifier = 0; filter = levels_of (codes "t/#"); sweeps = sweep 0 ∷ [] }))

-- track 2 with its first two numbers, and then one more of each track
abbrev first_batch : Batch
first_batch =
    record { version = 1; shard = 0; generation = 0; stream = 0; from = 0; to = 3; limit = 4294967295; first1 = 1; count1 = 0; first2 = 1; count2 = 2 }

abbrev second_batch : Batch
second_batch =
    record { version = 1; shard = 0; generation = 0; stream = 0; from = 3; to = 6; limit = 4294967295; first1 = 1; count1 = 1; first2 = 3; count2 = 1 }

abbrev issues : Batch → ℕ → Change
issues batch position = of_a (Issued (record { subscription = 1; batch = batch; sweep = sweep position }))

abbrev replaces : ℕ → Change
replaces version = of_a (Replaced (record { subscription = 1; version = version; options = 1; identifier = 5 }))

abbrev first_four : List Change
first_four = begins ∷ subscribes ∷ issues first_batch 3 ∷ issues second_batch 6 ∷ []

abbrev sessions : KeptSessions
sessions = kept_acted_all first_four no_kept_sessions

all_fit : kept_fit_all whole no_kept_sessions first_four ≡ true
all_fit = refl

abbrev the_session : {A : Type 0} → Option KeptSession → A → (KeptSession → A) → A
the_session None none f = none
the_session (Some m) none f = f m

abbrev in_a : {A : Type 0} → List Change → A → (KeptSession → A) → A
in_a changes none f = the_session (session_of (codes "a") (kept_acted_all changes sessions)) none f

abbrev firsts : List Batch → List ℕ
firsts batches = map (λ (b : Batch). b.from) batches

abbrev numbers : List Version → List ℕ
numbers versions = map (λ (v : Version). v.number) versions

room_of_the_rest : in_a [] 0 (λ m. room m.tracks m.window) ≡ 508
room_of_the_rest = refl

-- its subscription is where the last batch left it
where_it_is : in_a [] [] (λ m. map (λ (s : KeptSub). s.sweeps) m.subs) ≡ (sweep 6 ∷ []) ∷ []
where_it_is = refl

-- ---- what is kept

-- the second batch has a number on each track
acked_one : in_a (of_a (Acked 1) ∷ []) [] (λ m. firsts m.batches) ≡ 0 ∷ 3 ∷ []
acked_one = refl

-- what was passed over below a number that is received is done, but the number itself isn't
received_two : in_a (of_a (Received 2) ∷ []) [] (λ m. firsts m.batches) ≡ 0 ∷ 3 ∷ []
received_two = refl

first_finished : in_a (of_a (Received 2) ∷ of_a (Done 2) ∷ []) [] (λ m. firsts m.batches) ≡ 3 ∷ []
first_finished = refl

-- the third number is done before the second
second_finished : in_a (of_a (Acked 1) ∷ of_a (Received 1) ∷ of_a (Received 2) ∷ of_a (Received 3) ∷ of_a (Done 3) ∷ []) [] (λ m. firsts m.batches) ≡ 0 ∷ []
second_finished = refl

passed_over : in_a (of_a (Passed (record { track = 2; number = 2 })) ∷ []) [] (λ m. firsts m.batches) ≡ 3 ∷ []
passed_over = refl

-- a batch without numbers isn't kept at all
silent_batch :
    in_a (issues (record second_batch { from = 6; to = 9; first1 = 2; count1 = 0; first2 = 4; count2 = 0 }) 9 ∷ []) [] (λ m. firsts m.batches) ≡ 0 ∷ 3 ∷ []
silent_batch = refl

-- an equal filter gives a new version, and the old one stays for the batches that name it
two_versions : in_a (replaces 2 ∷ []) [] (λ m. numbers m.versions) ≡ 1 ∷ 2 ∷ []
two_versions = refl

one_version : in_a (replaces 2 ∷ of_a (Acked 1) ∷ of_a (Passed (record { track = 2; number = 3 })) ∷ []) [] (λ m. numbers m.versions) ≡ 2 ∷ []
one_version = refl

-- an ended subscription has no sweeps, and stays while a batch names its version
kept_while_unfinished : in_a (of_a (Unsubscribed 1) ∷ []) [] (λ m. map (λ (s : KeptSub). s.sweeps) m.subs) ≡ [] ∷ []
kept_while_unfinished = refl

gone_once_finished :
    in_a (of_a (Unsubscribed 1) ∷ of_a (Acked 1) ∷ of_a (Passed (record { track = 2; number = 3 })) ∷ []) 9 (λ m. length m.subs) ≡ 0
gone_once_finished = refl

-- the numbers go on where nothing is kept
next_numbers :
    kept_fits whole (kept_acted_all (of_a (Unsubscribed 1) ∷ of_a (Acked 1) ∷ of_a (Passed (record { track = 2; number = 3 })) ∷ []) sessions) subscribes ≡ false
next_numbers = refl

-- ---- what doesn't fit

acked_past_the_last : kept_fits whole sessions (of_a (Acked 2)) ≡ false
acked_past_the_last = refl

acked_again : kept_fits whole (kept_acted_all (of_a (Acked 1) ∷ []) sessions) (of_a (Acked 1)) ≡ false
acked_again = refl

received_past_the_last : kept_fits whole sessions (of_a (Received 4)) ≡ false
received_past_the_last = refl

done_before_received : kept_fits whole sessions (of_a (Done 1)) ≡ false
done_before_received = refl

third_track : kept_fits whole sessions (of_a (Passed (record { track = 3; number = 1 }))) ≡ false
third_track = refl

begun_twice : kept_fits whole sessions begins ≡ false
begun_twice = refl

another_incarnation : kept_fits whole sessions (of_client (codes "b") (Began (record { incarnation = 3; expiry = 0; window = 512 }))) ≡ false
another_incarnation = refl

another_window : kept_fits whole sessions (of_client (codes "b") (Began (record { incarnation = 2; expiry = 0; window = 511 }))) ≡ false
another_window = refl

no_session : kept_fits whole sessions (of_client (codes "b") (Acked 1)) ≡ false
no_session = refl

parted_at_the_greatest : kept_fits whole sessions (of_a (Parted (record { expiry = 0; moment = 18446744073709551615 }))) ≡ false
parted_at_the_greatest = refl

old_version : kept_fits whole (kept_acted_all (replaces 2 ∷ []) sessions) (issues (record second_batch { first1 = 2; first2 = 4 }) 9) ≡ false
old_version = refl

version_left_out : kept_fits whole sessions (replaces 3) ≡ false
version_left_out = refl

numbers_again : kept_fits whole sessions (issues second_batch 9) ≡ false
numbers_again = refl

another_shard : kept_fits whole sessions (issues (record second_batch { shard = 1; first1 = 2; first2 = 4 }) 9) ≡ false
another_shard = refl

empty_range : kept_fits whole sessions (issues (record second_batch { from = 6; first1 = 2; first2 = 4 }) 9) ≡ false
empty_range = refl

ended_subscription : kept_fits whole (kept_acted_all (of_a (Unsubscribed 1) ∷ []) sessions) (of_a (Unsubscribed 1)) ≡ false
ended_subscription = refl

-- more than the window has room for
full_window : kept_fits whole sessions (issues (record second_batch { first1 = 2; count1 = 509; first2 = 4; count2 = 0 }) 9) ≡ false
full_window = refl

just_full : kept_fits whole sessions (issues (record second_batch { first1 = 2; count1 = 508; first2 = 4; count2 = 0 }) 9) ≡ true
just_full = refl

-- one live subscription and no more
full_session : kept_fits (record whole { subscriptions = 1 }) sessions (of_a (Subscribed (record { subscription = 2; version = 2; options = 0; identifier = 0; filter = levels_of (codes "u"); sweeps = sweep 0 ∷ [] }))) ≡ false
full_session = refl

-- ---- ends

ended : kept_acted_all (of_a Ended ∷ []) sessions ≡ record { list = []; next = 2 }
ended = refl

bound_again : in_a (of_a (Parted (record { expiry = 5; moment = 9 })) ∷ of_a (Bound 7) ∷ []) None (λ m. m.parted) ≡ None
bound_again = refl

parted_for_a_while : in_a (of_a (Parted (record { expiry = 5; moment = 9 })) ∷ []) None (λ m. m.parted) ≡ Some 9
parted_for_a_while = refl

-- ---- what every held session keeps

abbrev sound_after : List Change → Bool
sound_after changes = in_a changes false is_sound

sound_at_first : sound_after [] ≡ true
sound_at_first = refl

sound_then : sound_after (replaces 2 ∷ of_a (Acked 1) ∷ of_a (Received 2) ∷ of_a (Unsubscribed 1) ∷ of_a (Done 2) ∷ []) ≡ true
sound_then = refl

abbrev spoiled : (KeptSession → KeptSession) → Bool
spoiled f = in_a [] true (λ m. is_sound (f m))

a_batch_is_missing : spoiled (λ m. record m { batches = first_batch ∷ [] }) ≡ false
a_batch_is_missing = refl

a_batch_stands_twice : spoiled (λ m. record m { batches = first_batch ∷ first_batch ∷ second_batch ∷ [] }) ≡ false
a_batch_stands_twice = refl

not_in_order : spoiled (λ m. record m { batches = second_batch ∷ first_batch ∷ [] }) ≡ false
not_in_order = refl

no_version : spoiled (λ m. record m { versions = [] }) ≡ false
no_version = refl

next_is_held : spoiled (λ m. record m { next_sub = 1 }) ≡ false
next_is_held = refl
