-- Computed examples of sessions: tracks, unfinished entries, changes that fit and act, ends.
use Rattle.std.specs.Prelude.{ℕ, ◌≡◌, Bool, true, false, List, [], ◌∷◌, length, codes, Option, Some, None, refl}
use Rattle.topic_model.specs.Profile.{whole}
use Rattle.topic_model.specs.Levels.{levels_of}
use Rattle.shard_model.specs.declared.sweep.Sweep.{Sweep}
use Rattle.session_model.specs.declared.entry.Entry.{Entry}
use Rattle.session_model.specs.declared.entry.Kind.{Kind}
use Rattle.session_model.specs.declared.entry.Kind.TheVariants.{Track1, Track2, Silent}
use Rattle.session_model.specs.PlainSession.{PlainSession, Sessions, no_sessions, session_of, complete_of, room_of}
use Rattle.session_model.specs.Unfinished.{unfinished, kept_versions, kept_subscriptions}
use Rattle.session_model.specs.Change.{Change, Effect, change, Began, Ended, Bound, Parted, Subscribed, Replaced}
use Rattle.session_model.specs.Change.{Unsubscribed, Issued, Acked, Received, Done, Passed}
use Rattle.session_model.specs.Acting.{act_all}
use Rattle.session_model.specs.FitsSession.{change_fits, changes_fit}
use Rattle.session_model.specs.Ends.{is_over, restart_owes}

-- ---- a session of client `a` that is issued three messages on track 2 and one on track 1

abbrev of_a : Effect → Change
of_a effect = change (codes "a") effect

abbrev begins : Change
begins = of_a (Began (record { incarnation = 1; expiry = 3600; window = 512 }))

abbrev sweep : Sweep
sweep = record { generation = 0; base = 0; target = 0; stream = 0; position = 0 }

abbrev subscribes : Change
subscribes =
    of_a
    (Subscribed
    (record {
      subscription = 1;
      version = 1;
      options = 2;
      identifier = 0;
      filter = levels_of (codes "t/#");
      sweeps =
          sweep ∷ [];
    }))

abbrev entry : ℕ → Kind → Entry
entry offset kind = record { subscription = 1; version = 1; shard = 0; offset = offset; kind = kind }

abbrev issues : Change
issues = of_a (Issued (record {
  subscription = 1;
  shard = 0;
  entries = entry 0 (Track2 1) ∷ entry 1 (Track1 1) ∷ entry 3 (Track2 2) ∷ entry 4 (Track2 3) ∷ entry 5 Silent ∷ [];
  sweep = record { generation = 0; base = 0; target = 6; stream = 0; position = 6 };
}))

abbrev first_three : List Change
first_three = begins ∷ subscribes ∷ issues ∷ []

abbrev sessions : Sessions
sessions = act_all no_sessions first_three

all_fit : changes_fit whole no_sessions first_three ≡ true
all_fit = refl

abbrev the_session : Option PlainSession → (PlainSession → ℕ) → ℕ
the_session None f = 0
the_session (Some m) f = f m

abbrev in_a : List Change → (PlainSession → ℕ) → ℕ
in_a changes f = the_session (session_of (codes "a") (act_all sessions changes)) f

-- the silent one takes no number and no room
room_of_the_rest : in_a [] room_of ≡ 508
room_of_the_rest = refl

four_unfinished : in_a [] (λ m. length (unfinished m)) ≡ 4
four_unfinished = refl

-- ---- tracks

acked_one : in_a (of_a (Acked 1) ∷ []) (λ m. length (unfinished m)) ≡ 3
acked_one = refl

-- what was passed over below a number that is received is done
passed_below : in_a (of_a (Received 2) ∷ []) complete_of ≡ 1
passed_below = refl

released_now : in_a (of_a (Received 2) ∷ []) (λ m. length (unfinished m)) ≡ 3
released_now = refl

-- done out of order: complete follows once the first is done
out_of_order : in_a (of_a (Received 1) ∷ of_a (Received 2) ∷ of_a (Done 2) ∷ []) complete_of ≡ 0
out_of_order = refl

in_order_again : in_a (of_a (Received 1) ∷ of_a (Received 2) ∷ of_a (Done 2) ∷ of_a (Done 1) ∷ []) complete_of ≡ 2
in_order_again = refl

passed_over : in_a (of_a (Passed (record { track = 2; number = 3 })) ∷ []) complete_of ≡ 3
passed_over = refl

-- ---- what doesn't fit

acked_past_the_last : change_fits whole sessions (of_a (Acked 2)) ≡ false
acked_past_the_last = refl

done_before_received : change_fits whole sessions (of_a (Done 1)) ≡ false
done_before_received = refl

begun_twice : change_fits whole sessions begins ≡ false
begun_twice = refl

another_incarnation : change_fits whole sessions
    (change (codes "b") (Began (record { incarnation = 3; expiry = 0; window = 512 }))) ≡ false
another_incarnation = refl

another_window : change_fits whole sessions
    (change (codes "b") (Began (record { incarnation = 2; expiry = 0; window = 511 }))) ≡ false
another_window = refl

no_session : change_fits whole sessions (change (codes "b") (Acked 1)) ≡ false
no_session = refl

-- an old version, and an offset that falls
old_version : change_fits whole
    (act_all sessions (of_a (Replaced (record { subscription = 1; version = 2; options = 1; identifier = 5 })) ∷ []))
    issues ≡ false
old_version = refl

numbers_again : change_fits whole sessions issues ≡ false
numbers_again = refl

ended_subscription : change_fits whole (act_all sessions (of_a (Unsubscribed 1) ∷ [])) (of_a (Unsubscribed 1)) ≡ false
ended_subscription = refl

-- the window is full
full_window : change_fits (record whole { window = 3 })
    (act_all no_sessions (of_a (Began (record { incarnation = 1; expiry = 0; window = 3 })) ∷ subscribes ∷ [])) issues
    ≡ false
full_window = refl

-- ---- what is kept

-- an ended subscription stays while entries of it are unfinished, and so does its version
kept_while_unfinished : in_a (of_a (Unsubscribed 1) ∷ []) (λ m. length (kept_subscriptions m)) ≡ 1
kept_while_unfinished = refl

gone_once_finished : in_a
    (of_a (Unsubscribed 1) ∷ of_a (Acked 1) ∷ of_a (Passed (record { track = 2; number = 3 })) ∷ [])
    (λ m. length (kept_subscriptions m)) ≡ 0
gone_once_finished = refl

-- an equal filter gives a new version, and the old one stays for what was issued under it
two_versions : in_a (of_a (Replaced (record { subscription = 1; version = 2; options = 1; identifier = 5 })) ∷ [])
    (λ m. length (kept_versions m)) ≡ 2
two_versions = refl

-- ---- ends

abbrev the_number : Bool → ℕ
the_number true = 1
the_number false = 0

-- parted at 1000 for an hour
still_kept : in_a (of_a (Parted (record { expiry = 3600; moment = 1000 })) ∷ []) (λ m. the_number (is_over 3600999 m))
    ≡ 0
still_kept = refl

over_then : in_a (of_a (Parted (record { expiry = 3600; moment = 1000 })) ∷ []) (λ m. the_number (is_over 3601000 m))
    ≡ 1
over_then = refl

never_over : in_a (of_a (Parted (record { expiry = 4294967295; moment = 1000 })) ∷ [])
    (λ m. the_number (is_over 18446744073709551614 m)) ≡ 0
never_over = refl

-- a restart owes a bound session its end, and one with interval 0 also that it ends
owed : restart_owes 9 sessions ≡ of_a (Parted (record { expiry = 3600; moment = 9 })) ∷ []
owed = refl

owed_two : restart_owes 9 (act_all sessions (of_a (Bound 0) ∷ [])) ≡ of_a (Parted (record { expiry = 0; moment = 9 }))
    ∷ of_a Ended ∷ []
owed_two = refl

owed_none : restart_owes 9 (act_all sessions (of_a (Parted (record { expiry = 0; moment = 5 })) ∷ [])) ≡ []
owed_none = refl
