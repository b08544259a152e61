-- The sessions of a worker within their limits, before and after a change.
use Rattle.std.proofs.Common.{◌≡◌, ℕ, ◌+◌, ◌≤◌, Bool, true, false, not, ◌&&◌, ◌||◌, ◌==◌, if◌then◌else◌, nat_le, nat_lt, List, [], ◌∷◌, ◌++◌, length, filter, find, bytes_eq, Option, Some, None, is_some, is_none, true≢false, refl, sym, ap, subst, ◌∙◌, arith, length-append}
use Rattle.std.specs.List.{list_all}
use Rattle.std.proofs.Math.Bool.{and-true}
use Rattle.std.proofs.lemmas.Bool.{and_parts, and_from}
use Rattle.std.proofs.lemmas.Bool.Decides.{nat_tests}
use Rattle.std.proofs.lemmas.List.Elements.{filter-append}
use Rattle.std.proofs.lemmas.List.Folds.{list_all-append}
use Rattle.topic_model.specs.Profile.{whole}
use Rattle.session_model.specs.FitsSession.{greatest}
use Rattle.session_state.specs.declared.change.Began.{Began as Beginning}
use Rattle.session_state.specs.declared.change.Effect.{Effect}
use Rattle.session_state.specs.declared.change.Effect.TheVariants.{Began, Ended, Bound, Parted, Subscribed, Replaced, Unsubscribed, Issued, Acked, Received, Done, Passed}
use Rattle.session_state.specs.KeptSession.{KeptSession, KeptSessions, begun_kept, session_of}
use Rattle.session_state.specs.KeptActing.{acted_on, change_of, is_of_held, kept_changed, on_session, without_session}
use Rattle.session_state.specs.KeptFits.{is_wide, is_window, kept_are_within, kept_finds, kept_fits, kept_within, wide_count}
use Rattle.session_state.specs.FilterLaws.{filter_shorter}

-- ---- a session ends

find_none : (client : List ℕ) (ms : List KeptSession) → find (λ (m : KeptSession). bytes_eq m.client client) ms ≡ None → without_session client ms ≡ ms
find_none client [] none = refl
find_none client (m ∷ ms) none = by (bytes_eq m.client client) none (find_none client ms)
  where
    by : (b : Bool) → (if b then Some m else find (λ (x : KeptSession). bytes_eq x.client client) ms) ≡ None →
        (find (λ (x : KeptSession). bytes_eq x.client client) ms ≡ None → without_session client ms ≡ ms) →
        (if not b then m ∷ without_session client ms else without_session client ms) ≡ m ∷ ms
    by true none rest = cc
    by false none rest = ap (λ l. m ∷ l) (rest none)

fewer_wide : (keeps : KeptSession → Bool) (ms : List KeptSession) → wide_count whole (filter keeps ms) ≤ wide_count whole ms
fewer_wide keeps [] = omega arith
fewer_wide keeps (m ∷ ms) = by (keeps m) (is_wide whole m) refl (fewer_wide keeps ms)
  where
    by : (k w : Bool) → is_wide whole m ≡ w → wide_count whole (filter keeps ms) ≤ wide_count whole ms →
        wide_count whole (if k then m ∷ filter keeps ms else filter keeps ms) ≤ length (if is_wide whole m then m ∷ filter (is_wide whole) ms else filter (is_wide whole) ms)
    by true true is rest =
        subst (λ b. length (if b then m ∷ filter (is_wide whole) (filter keeps ms) else filter (is_wide whole) (filter keeps ms)) ≤ length (if b then m ∷ filter (is_wide whole) ms else filter (is_wide whole) ms))
        (sym is) (omega arith)
    by true false is rest =
        subst (λ b. length (if b then m ∷ filter (is_wide whole) (filter keeps ms) else filter (is_wide whole) (filter keeps ms)) ≤ length (if b then m ∷ filter (is_wide whole) ms else filter (is_wide whole) ms))
        (sym is) rest
    by false true is rest = subst (λ b. wide_count whole (filter keeps ms) ≤ length (if b then m ∷ filter (is_wide whole) ms else filter (is_wide whole) ms)) (sym is) (omega arith)
    by false false is rest = subst (λ b. wide_count whole (filter keeps ms) ≤ length (if b then m ∷ filter (is_wide whole) ms else filter (is_wide whole) ms)) (sym is) rest

all_of_fewer : (test keeps : KeptSession → Bool) (ms : List KeptSession) → list_all test ms ≡ true → list_all test (filter keeps ms) ≡ true
all_of_fewer test keeps [] all = refl
all_of_fewer test keeps (m ∷ ms) all =
    let parts = and_parts (test m) (list_all test ms) all in
    by (keeps m) parts.0 (all_of_fewer test keeps ms parts.1)
  where
    by : (k : Bool) → test m ≡ true → list_all test (filter keeps ms) ≡ true → list_all test (if k then m ∷ filter keeps ms else filter keeps ms) ≡ true
    by true passes rest = and_from (test m) (list_all test (filter keeps ms)) passes rest
    by false passes rest = rest

-- the parts of being within the limits
pub record AreWithin (ms : List KeptSession) : Type 0 where
  pub count : length ms ≤ 4096
  pub wide : wide_count whole ms ≤ 256
  pub all : list_all (kept_within whole) ms ≡ true

pub parts_within : (s : KeptSessions) → kept_are_within whole s ≡ true → AreWithin s.list
parts_within s within =
    let parts = and_parts (nat_le (length s.list) 4096) (nat_le (wide_count whole s.list) 256 && list_all (kept_within whole) s.list) within in
    let more = and_parts (nat_le (wide_count whole s.list) 256) (list_all (kept_within whole) s.list) parts.1 in
    let is_count = parts.0 in
    let is_wide_count = more.0 in
    record { count = count (length s.list) 4096 is_count; wide = count (wide_count whole s.list) 256 is_wide_count; all = more.1 }
  where
    count : (a b : ℕ) → nat_le a b ≡ true → a ≤ b
    count a b is = grind (arith, nat_tests)

pub within_parts : (s : KeptSessions) → AreWithin s.list → kept_are_within whole s ≡ true
within_parts s within =
    and_from (nat_le (length s.list) 4096) (nat_le (wide_count whole s.list) 256 && list_all (kept_within whole) s.list) (test (length s.list) 4096 within.count)
    (and_from (nat_le (wide_count whole s.list) 256) (list_all (kept_within whole) s.list) (test (wide_count whole s.list) 256 within.wide) within.all)
  where
    test : (a b : ℕ) → a ≤ b → nat_le a b ≡ true
    test a b h = grind (arith, nat_tests)

pub ended_within : (client : List ℕ) (s : KeptSessions) → kept_are_within whole s ≡ true → kept_are_within whole (acted_on client Ended s) ≡ true
ended_within client s within =
    let parts = parts_within s within in
    let keeps : KeptSession → Bool = λ m. not (bytes_eq m.client client) in
    let count = parts.count in
    let wide = parts.wide in
    let shorter = filter_shorter keeps s.list in
    let fewer = fewer_wide keeps s.list in
    within_parts (acted_on client Ended s) (record { count = omega arith; wide = omega arith; all = all_of_fewer (kept_within whole) keeps s.list parts.all })

pub ended_fits : (client : List ℕ) (s : KeptSessions) → kept_are_within whole s ≡ true →
    is_some (session_of client s) ≡ kept_fits whole s (change_of client Ended)
ended_fits client s within = by (session_of client s) (ended_within client s within)
  where
    by : (found : Option KeptSession) → kept_are_within whole (acted_on client Ended s) ≡ true →
        is_some found ≡ (kept_finds s Ended found && kept_are_within whole (acted_on client Ended s))
    by None h = refl
    by (Some m) h = sym h

-- where there is none, none goes
pub ended_list : (client : List ℕ) (s : KeptSessions) (found : Bool) → found ≡ is_some (session_of client s) →
    without_session client s.list ≡ (if found then without_session client s.list else s.list)
ended_list client s true is = refl
ended_list client s false is = find_none client s.list (none (session_of client s) is)
  where
    none : (o : Option KeptSession) → false ≡ is_some o → o ≡ None
    none None h = refl
    none (Some m) h = absurd (true≢false (sym h))

-- ---- a change of a held session

pub acted_held : (client : List ℕ) (effect : Effect) (s : KeptSessions) → is_of_held effect ≡ true →
    acted_on client effect s ≡ record s { list = on_session client (kept_changed effect) s.list }
acted_held client (Began b) s held = absurd (true≢false (sym held))
acted_held client Ended s held = absurd (true≢false (sym held))
acted_held client (Bound expiry) s held = refl
acted_held client (Parted p) s held = refl
acted_held client (Subscribed n) s held = refl
acted_held client (Replaced r) s held = refl
acted_held client (Unsubscribed number) s held = refl
acted_held client (Issued i) s held = refl
acted_held client (Acked number) s held = refl
acted_held client (Received number) s held = refl
acted_held client (Done number) s held = refl
acted_held client (Passed p) s held = refl

-- none begins
pub none_begins : (effect : Effect) (s : KeptSessions) → is_of_held effect ≡ true → kept_finds s effect None ≡ false
none_begins (Began b) s held = absurd (true≢false (sym held))
none_begins Ended s held = refl
none_begins (Bound expiry) s held = refl
none_begins (Parted p) s held = refl
none_begins (Subscribed n) s held = refl
none_begins (Replaced r) s held = refl
none_begins (Unsubscribed number) s held = refl
none_begins (Issued i) s held = refl
none_begins (Acked number) s held = refl
none_begins (Received number) s held = refl
none_begins (Done number) s held = refl
none_begins (Passed p) s held = refl

-- a change that fits leaves the sessions within their limits; one that doesn't leaves them
pub within_after : (client : List ℕ) (effect : Effect) (s : KeptSessions) (list : List KeptSession) (fits : Bool) → is_of_held effect ≡ true →
    fits ≡ kept_fits whole s (change_of client effect) → list ≡ (if fits then on_session client (kept_changed effect) s.list else s.list) →
    kept_are_within whole s ≡ true → kept_are_within whole (record s { list = list }) ≡ true
within_after client effect s list true held fits is within =
    ap (λ l. kept_are_within whole (record s { list = l })) is
    ∙ ap (kept_are_within whole) (sym (acted_held client effect s held))
    ∙ (and_parts (kept_finds s effect (session_of client s)) (kept_are_within whole (acted_on client effect s)) (sym fits)).1
within_after client effect s list false held fits is within = ap (λ l. kept_are_within whole (record s { list = l })) is ∙ within

-- ---- a session begins

abbrev begun_of : List ℕ → Beginning → KeptSession
begun_of client b = begun_kept client b.incarnation b.expiry b.window

one_more_wide : (ms : List KeptSession) (m : KeptSession) → wide_count whole (ms ++ m ∷ []) ≡ wide_count whole ms + (if is_wide whole m then 1 else 0)
one_more_wide ms m = ap length (filter-append (is_wide whole) ms (m ∷ [])) ∙ length-append (filter (is_wide whole) ms) (filter (is_wide whole) (m ∷ [])) ∙ by (is_wide whole m)
  where
    by : (b : Bool) → length (filter (is_wide whole) ms) + length (if b then m ∷ [] else []) ≡ wide_count whole ms + (if b then 1 else 0)
    by true = refl
    by false = refl

wide_place : (count : ℕ) (wide : Bool) → count ≤ 256 → nat_le (count + (if wide then 1 else 0)) 256 ≡ (not wide || nat_lt count 256)
wide_place count true h = grind (arith, nat_tests)
wide_place count false h = grind (arith, nat_tests)

begun_is_within : (client : List ℕ) (b : Beginning) → kept_within whole (begun_of client b) ≡ (nat_le (length client) 256 && is_window whole b.window)
begun_is_within client b =
    let none : nat_le 0 b.window ≡ true = grind (arith, nat_tests) in
    ap (λ u. nat_le (length client) 256 && (is_window whole b.window && u)) none ∙ ap (λ u. nat_le (length client) 256 && u) (and-true (is_window whole b.window))

pub begun_fits : (client : List ℕ) (b : Beginning) (s : KeptSessions) → kept_are_within whole s ≡ true →
    (is_none (session_of client s) && (((b.incarnation == s.next) && nat_lt b.incarnation greatest) && ((nat_le (length client) 256 && is_window whole b.window)
    && (nat_lt (length s.list) 4096 && (not (b.window == 2048) || nat_lt (wide_count whole s.list) 256)))))
    ≡ kept_fits whole s (change_of client (Began b))
begun_fits client b s within = by (session_of client s)
  where
    all : list_all (kept_within whole) (s.list ++ begun_of client b ∷ []) ≡ (nat_le (length client) 256 && is_window whole b.window)
    all =
        list_all-append (kept_within whole) s.list (begun_of client b ∷ [])
        ∙ ap (λ a. a && (kept_within whole (begun_of client b) && true)) (parts_within s within).all
        ∙ and-true (kept_within whole (begun_of client b))
        ∙ begun_is_within client b

    wide : nat_le (wide_count whole (s.list ++ begun_of client b ∷ [])) 256 ≡ (not (b.window == 2048) || nat_lt (wide_count whole s.list) 256)
    wide = ap (λ n. nat_le n 256) (one_more_wide s.list (begun_of client b)) ∙ wide_place (wide_count whole s.list) (b.window == 2048) (parts_within s within).wide

    less : (n : ℕ) → nat_le (n + 1) 4096 ≡ nat_lt n 4096
    less n = grind (arith, nat_tests)

    count : nat_le (length (s.list ++ begun_of client b ∷ [])) 4096 ≡ nat_lt (length s.list) 4096
    count = ap (λ n. nat_le n 4096) (length-append s.list (begun_of client b ∷ [])) ∙ less (length s.list)

    turned : (a c d : Bool) → (a && (c && d)) ≡ (c && (d && a))
    turned true true d = sym (and-true d)
    turned true false d = refl
    turned false true true = refl
    turned false true false = refl
    turned false false d = refl

    by : (found : Option KeptSession) →
        (is_none found && (((b.incarnation == s.next) && nat_lt b.incarnation greatest) && ((nat_le (length client) 256 && is_window whole b.window)
        && (nat_lt (length s.list) 4096 && (not (b.window == 2048) || nat_lt (wide_count whole s.list) 256)))))
        ≡ (kept_finds s (Began b) found && kept_are_within whole (acted_on client (Began b) s))
    by (Some m) = refl
    by None =
        ap (λ a. ((b.incarnation == s.next) && nat_lt b.incarnation greatest) && a)
        (turned (nat_le (length client) 256 && is_window whole b.window) (nat_lt (length s.list) 4096) (not (b.window == 2048) || nat_lt (wide_count whole s.list) 256)
        ∙ sym (ap (λ a. a && (nat_le (wide_count whole (s.list ++ begun_of client b ∷ [])) 256 && list_all (kept_within whole) (s.list ++ begun_of client b ∷ []))) count
        ∙ ap (λ a. nat_lt (length s.list) 4096 && (a && list_all (kept_within whole) (s.list ++ begun_of client b ∷ []))) wide
        ∙ ap (λ a. nat_lt (length s.list) 4096 && ((not (b.window == 2048) || nat_lt (wide_count whole s.list) 256) && a)) all))

-- ---- a session is added

pub added_fits : (m : KeptSession) (s : KeptSessions) → kept_are_within whole s ≡ true → kept_within whole m ≡ true →
    kept_are_within whole (record s { list = s.list ++ m ∷ [] })
    ≡ (nat_lt (length s.list) 4096 && (not (m.window == 2048) || nat_lt (wide_count whole s.list) 256))
added_fits m s within own =
    ap (λ a. a && (nat_le (wide_count whole (s.list ++ m ∷ [])) 256 && list_all (kept_within whole) (s.list ++ m ∷ []))) count
    ∙ ap (λ a. nat_lt (length s.list) 4096 && (a && list_all (kept_within whole) (s.list ++ m ∷ []))) wide
    ∙ ap (λ a. nat_lt (length s.list) 4096 && ((not (m.window == 2048) || nat_lt (wide_count whole s.list) 256) && a)) all
    ∙ ap (λ a. nat_lt (length s.list) 4096 && a) (and-true (not (m.window == 2048) || nat_lt (wide_count whole s.list) 256))
  where
    less : (n : ℕ) → nat_le (n + 1) 4096 ≡ nat_lt n 4096
    less n = grind (arith, nat_tests)

    count : nat_le (length (s.list ++ m ∷ [])) 4096 ≡ nat_lt (length s.list) 4096
    count = ap (λ n. nat_le n 4096) (length-append s.list (m ∷ [])) ∙ less (length s.list)

    wide : nat_le (wide_count whole (s.list ++ m ∷ [])) 256 ≡ (not (m.window == 2048) || nat_lt (wide_count whole s.list) 256)
    wide = ap (λ n. nat_le n 256) (one_more_wide s.list m) ∙ wide_place (wide_count whole s.list) (m.window == 2048) (parts_within s within).wide

    all : list_all (kept_within whole) (s.list ++ m ∷ []) ≡ true
    all =
        list_all-append (kept_within whole) s.list (m ∷ [])
        ∙ ap (λ a. a && (kept_within whole m && true)) (parts_within s within).all
        ∙ and-true (kept_within whole m)
        ∙ own
