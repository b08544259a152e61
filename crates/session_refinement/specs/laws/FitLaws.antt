-- A kept session tells which changes fit, and whether its limits hold.
use Rattle.std.proofs.Common.{◌≡◌, ℕ, ◌+◌, ◌≤◌, ◌<◌, Bool, true, false, ◌&&◌, ◌==◌, nat_lt, nat_le, if◌then◌else◌, List}
use Rattle.std.proofs.Common.{[], ◌∷◌, length, map, filter, find, Some, is_none, true≢false, refl, sym, ap, ◌∙◌, arith}
use Rattle.std.specs.List.{list_any, fold}
use Rattle.std.proofs.lemmas.Bool.{or_left, eqb-true}
use Rattle.std.proofs.lemmas.List.{length-map}
use Rattle.std.proofs.lemmas.List.Folds.{list_all-map}
use Rattle.topic_model.specs.Profile.{Profile}
use Rattle.topic_model.specs.Levels.{text_of_levels}
use Rattle.topic_model.specs.Texts.{filter_refusal}
use Rattle.session_model.specs.declared.entry.Entry.{Entry}
use Rattle.session_model.specs.declared.entry.Version.{Version}
use Rattle.session_model.specs.PlainSession as session
use Rattle.session_model.specs.PlainSession.{PlainSession, Subscription, next_subscription, next_version}
use Rattle.session_model.specs.Unfinished as plain
use Rattle.session_model.specs.Unfinished.{kept_subscriptions}
use Rattle.session_model.specs.Acting.{numbers_from}
use Rattle.session_model.specs.FitsSession as fits
use Rattle.session_model.specs.FitsSession.{suits, is_within, greatest_of_four}
use Rattle.seq_tracks.specs.PlainTracks.{in_use}
use Rattle.seq_tracks.specs.AgreeLaws.{in_use_agrees, acked_fits, received_fits, done_fits, passed_fits}
use Rattle.session_state.specs.declared.change.Effect.{Effect}
use Rattle.session_state.specs.declared.change.Effect.TheVariants.{Began, Ended, Bound, Parted, Subscribed, Replaced}
use Rattle.session_state.specs.declared.change.Effect.TheVariants.{Unsubscribed, Issued, Acked, Received, Done, Passed}
use Rattle.session_state.specs.KeptSub.{KeptSub}
use Rattle.session_state.specs.KeptSession.{KeptSession}
use Rattle.session_state.specs.KeptFits.{kept_suits, kept_within, if_live, is_live, is_window, live_count, has_filters}
use Rattle.session_state.specs.KeptFits.{text_bytes, subs_within}
use Rattle.session_refinement.specs.PlainChange.{plain_effect}
use Rattle.session_refinement.specs.StandFor.{Keeps, Group, kept_sub}
use Rattle.session_refinement.specs.Issuing.{is_no_batch}
use Rattle.session_refinement.specs.laws.ListLaws.{Each, each_of, each_weaker, filter_within, filter_mapped}
use Rattle.session_refinement.specs.laws.ListLaws.{numbers_below}
use Rattle.session_refinement.specs.laws.KeepLaws.{keeps_subscription}

-- ---- which subscriptions are live

kept_live : (n : ℕ) (ss : List Subscription) →
    if_live (find (λ (s : KeptSub). s.number == n) (map kept_sub ss))
    ≡ fits.if_live (find (λ (s : Subscription). s.number == n) ss)
kept_live n [] = refl
kept_live n (s ∷ ss) = by (s.number == n) (kept_live n ss)
  where
    by : (b : Bool) → if_live (find (λ (s : KeptSub). s.number == n) (map kept_sub ss))
        ≡ fits.if_live (find (λ (s : Subscription). s.number == n) ss) →
        if_live (if b then Some (kept_sub s) else find (λ (s : KeptSub). s.number == n) (map kept_sub ss))
        ≡ fits.if_live (if b then Some s else find (λ (s : Subscription). s.number == n) ss)
    by true rest = refl
    by false rest = rest

-- no later one has the number
none_later : (p : Subscription → Bool) (n : ℕ) (ss : List Subscription) → Each (λ (s : Subscription). n < s.number) ss →
    fits.if_live (find (λ (s : Subscription). s.number == n) (filter p ss)) ≡ false
none_later p n [] h = refl
none_later p n (s ∷ ss) h = by (p s) (none_later p n ss h.1)
  where
    at : (b : Bool) → (s.number == n) ≡ b →
        fits.if_live (find (λ (s : Subscription). s.number == n) (filter p ss)) ≡ false →
        fits.if_live (if b then Some s else find (λ (s : Subscription). s.number == n) (filter p ss)) ≡ false
    at true is rest = let same = eqb-true s.number n is in let low = h.0 in absurd (omega arith)
    at false is rest = rest

    by : (b : Bool) → fits.if_live (find (λ (s : Subscription). s.number == n) (filter p ss)) ≡ false →
        fits.if_live (find (λ (s : Subscription). s.number == n) (if b then s ∷ filter p ss else filter p ss)) ≡ false
    by true rest = at (s.number == n) refl rest
    by false rest = rest

abbrev tail : List ℕ → List ℕ
tail [] = []
tail (n ∷ ns) = ns

abbrev head : List ℕ → ℕ
head [] = 0
head (n ∷ ns) = n

-- one that went isn't live
live_left : (p : Subscription → Bool) → ((s : Subscription) → s.live ≡ true → p s ≡ true) →
    (start n : ℕ) (ss : List Subscription) →
    map (λ (s : Subscription). s.number) ss ≡ numbers_from start (length ss) →
    fits.if_live (find (λ (s : Subscription). s.number == n) (filter p ss))
    ≡ fits.if_live (find (λ (s : Subscription). s.number == n) ss)
live_left p live start n [] e = refl
live_left p live start n (s ∷ ss) e = by (p s) refl (s.number == n) refl (live_left p live (start + 1) n ss rest)
  where
    rest : map (λ (s : Subscription). s.number) ss ≡ numbers_from (start + 1) (length ss)
    rest = ap tail e

    here : s.number ≡ start
    here = ap head e

    later : (s.number == n) ≡ true → Each (λ (t : Subscription). n < t.number) ss
    later is =
        each_weaker (λ (t : Subscription). (start + 1 ≤ t.number) × (t.number < start + 1 + length ss))
        (λ (t : Subscription). n < t.number)
        (λ t h. let low = h.0 in let same = eqb-true s.number n is in omega (arith, here)) ss
        (numbers_below (λ (t : Subscription). t.number) (start + 1) ss rest)

    dead : p s ≡ false → s.live ≡ false
    dead gone = at s.live refl
      where
        at : (b : Bool) → s.live ≡ b → b ≡ false
        at false is = refl
        at true is = absurd (true≢false (sym (live s is) ∙ gone))

    by : (kept : Bool) → p s ≡ kept → (b : Bool) → (s.number == n) ≡ b →
        fits.if_live (find (λ (s : Subscription). s.number == n) (filter p ss))
        ≡ fits.if_live (find (λ (s : Subscription). s.number == n) ss) →
        fits.if_live (find (λ (s : Subscription). s.number == n) (if kept then s ∷ filter p ss else filter p ss))
        ≡ fits.if_live (if b then Some s else find (λ (s : Subscription). s.number == n) ss)
    by true kept b is others =
        ap (λ c. fits.if_live (if c then Some s else find (λ (s : Subscription). s.number == n) (filter p ss))) is
        ∙ at b
      where
        at : (b : Bool) → fits.if_live (if b then Some s else find (λ (s : Subscription). s.number == n) (filter p ss))
            ≡ fits.if_live (if b then Some s else find (λ (s : Subscription). s.number == n) ss)
        at true = refl
        at false = others
    by false gone true is others = none_later p n ss (later is) ∙ sym (dead gone)
    by false gone false is others = others

live_is_kept : (m : PlainSession) (s : Subscription) → s.live ≡ true → keeps_subscription m s ≡ true
live_is_kept m s is = or_left s.live (list_any (λ (v : Version). v.subscription == s.number) (plain.kept_versions m)) is

pub live_agrees : (k : KeptSession) (m : PlainSession) (groups : List Group) → Keeps k m groups → (n : ℕ) →
    is_live k n ≡ fits.is_live m n
live_agrees k m groups h n =
    ap (λ subs. if_live (find (λ (s : KeptSub). s.number == n) subs)) h.subs
    ∙ kept_live n (kept_subscriptions m)
    ∙ live_left (keeps_subscription m) (live_is_kept m) 1 n m.subscriptions h.numbered.subscriptions

-- ---- what suits

four : (a b c d : Bool) → ((a && b) && (c && d)) ≡ (a && (b && (c && d)))
four true b c d = refl
four false b c d = refl

next_version_agrees : (k : KeptSession) (m : PlainSession) (groups : List Group) → Keeps k m groups → (n : ℕ) →
    ((n == k.next_version) && nat_lt n greatest_of_four) ≡ fits.is_next_version m n
next_version_agrees k m groups h n = ap (λ next. (n == next) && nat_lt n greatest_of_four) h.next_version

pub suits_agree : (k : KeptSession) (m : PlainSession) (groups : List Group) (entries : List Entry) (effect : Effect) →
    is_no_batch effect ≡ true → Keeps k m groups →
    kept_suits k effect ≡ suits m (plain_effect entries effect)
suits_agree k m groups entries (Began b) single h = refl
suits_agree k m groups entries Ended single h = refl
suits_agree k m groups entries (Bound expiry) single h = refl
suits_agree k m groups entries (Parted p) single h = refl
suits_agree k m groups entries (Subscribed s) single h =
    ap (λ next. ((s.subscription == next) && nat_lt s.subscription greatest_of_four)
    && ((s.version == k.next_version) && nat_lt s.version greatest_of_four)) h.next_sub
    ∙ ap (λ b. ((s.subscription == next_subscription m) && nat_lt s.subscription greatest_of_four) && b)
    (next_version_agrees k m groups h s.version)
    ∙ four (s.subscription == next_subscription m) (nat_lt s.subscription greatest_of_four)
    (s.version == next_version m) (nat_lt s.version greatest_of_four)
suits_agree k m groups entries (Replaced r) single h =
    ap (λ b. b && ((r.version == k.next_version) && nat_lt r.version greatest_of_four))
    (live_agrees k m groups h r.subscription)
    ∙ ap (λ b. fits.is_live m r.subscription && b) (next_version_agrees k m groups h r.version)
suits_agree k m groups entries (Unsubscribed number) single h = live_agrees k m groups h number
suits_agree k m groups entries (Issued i) single h = absurd (true≢false (sym single))
suits_agree k m groups entries (Acked number) single h = sym (acked_fits k.tracks m number h.tracks)
suits_agree k m groups entries (Received number) single h = sym (received_fits k.tracks m number h.tracks)
suits_agree k m groups entries (Done number) single h = sym (done_fits k.tracks m number h.tracks)
suits_agree k m groups entries (Passed p) single h =
    sym (passed_fits k.tracks m (record { track = p.track; number = p.number }) h.tracks)

-- ---- the limits

sum_mapped : {X Y : Type 0} (f : Y → ℕ) (g : X → Y) (n : ℕ) (xs : List X) →
    fold (λ a y. a + f y) n (map g xs) ≡ fold (λ a x. a + f (g x)) n xs
sum_mapped f g n [] = refl
sum_mapped f g n (x ∷ xs) = sum_mapped f g (n + f (g x)) xs

live_count_agrees : (m : PlainSession) → live_count (map kept_sub (kept_subscriptions m)) ≡ fits.live_count m
live_count_agrees m =
    ap length (filter_mapped (λ (s : KeptSub). s.live) kept_sub (kept_subscriptions m))
    ∙ length-map (filter (λ (s : Subscription). s.live) (kept_subscriptions m)) kept_sub
    ∙ ap length (filter_within (λ (s : Subscription). s.live) (keeps_subscription m) m.subscriptions
    (each_of (λ (s : Subscription). s.live ≡ true → keeps_subscription m s ≡ true) (live_is_kept m) m.subscriptions))

five : (a b c d e f : Bool) → (a && (b && ((c && (d && e)) && f))) ≡ (a && (b && (c && (d && (e && f)))))
five false b c d e f = refl
five true false c d e f = refl
five true true false d e f = refl
five true true true false e f = refl
five true true true true e f = refl

pub within_agrees : (profile : Profile) (k : KeptSession) (m : PlainSession) (groups : List Group) → Keeps k m groups →
    kept_within profile k ≡ is_within profile m
within_agrees profile k m groups h =
    ap (λ c. nat_le (length c) profile.client
    && (is_window profile k.window && (subs_within profile k.subs && nat_le (in_use k.tracks) k.window))) h.client
    ∙ ap (λ w. nat_le (length m.client) profile.client
    && (is_window profile w && (subs_within profile k.subs && nat_le (in_use k.tracks) w))) h.window
    ∙ ap (λ subs. nat_le (length m.client) profile.client
    && (is_window profile m.window && (subs_within profile subs && nat_le (in_use k.tracks) m.window))) h.subs
    ∙ ap (λ n. nat_le (length m.client) profile.client
    && (is_window profile m.window
    && (subs_within profile (map kept_sub (kept_subscriptions m)) && nat_le n m.window)))
    (in_use_agrees k.tracks m h.tracks)
    ∙ ap (λ b. nat_le (length m.client) profile.client
    && (is_window profile m.window && (b && nat_le (session.in_use m) m.window))) subs
    ∙ five (nat_le (length m.client) profile.client) (is_window profile m.window)
    (nat_le (fits.live_count m) profile.subscriptions) (fits.has_filters m)
    (nat_le (fits.text_bytes m) profile.filter_texts) (nat_le (session.in_use m) m.window)
  where
    subs : subs_within profile (map kept_sub (kept_subscriptions m))
        ≡ (nat_le (fits.live_count m) profile.subscriptions
        && (fits.has_filters m && nat_le (fits.text_bytes m) profile.filter_texts))
    subs =
        ap (λ n. nat_le n profile.subscriptions
        && (has_filters (map kept_sub (kept_subscriptions m))
        && nat_le (text_bytes (map kept_sub (kept_subscriptions m))) profile.filter_texts)) (live_count_agrees m)
        ∙ ap (λ b. nat_le (fits.live_count m) profile.subscriptions
        && (b && nat_le (text_bytes (map kept_sub (kept_subscriptions m))) profile.filter_texts))
        (list_all-map (λ (s : KeptSub). is_none (filter_refusal (text_of_levels s.filter))) kept_sub
        (kept_subscriptions m))
        ∙ ap (λ n. nat_le (fits.live_count m) profile.subscriptions
        && (fits.has_filters m && nat_le n profile.filter_texts))
        (sum_mapped (λ (s : KeptSub). length (text_of_levels s.filter)) kept_sub 0 (kept_subscriptions m))
