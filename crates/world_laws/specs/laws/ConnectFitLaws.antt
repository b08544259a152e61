-- The changes of a CONNECT that is not refused fit the sessions of a worker.
use Rattle.std.proofs.Common.{◌≡◌, ℕ, ◌+◌, ◌-◌, ◌≤◌, ◌<◌, Bool, true, false, not, ◌&&◌, ◌||◌, ◌==◌, List, [], ◌∷◌, ◌++◌}
use Rattle.std.proofs.Common.{if◌then◌else◌, length, filter, find, bytes_eq, Option, Some, None, is_some, nat_le}
use Rattle.std.proofs.Common.{nat_lt, refl, sym, ap, ◌∙◌, arith}
use Rattle.std.specs.List.{list_all}
use Rattle.std.proofs.lemmas.Bool.{true≢false, and_from, and_parts, le-leb, lt-ltb, ltb-true, eq-eqb, eqb-true}
use Rattle.std.proofs.lemmas.Bool.{ltb-false, leb-false}
use Rattle.std.proofs.lemmas.List.{length-append}
use Rattle.std.proofs.lemmas.List.Elements.{filter-append}
use Rattle.std.proofs.lemmas.List.Folds.{list_all-append}
use Rattle.std.proofs.lemmas.Option.{none-some}
use Rattle.topic_model.specs.Profile.{Profile}
use Rattle.topic_model.specs.Limits.{limits_suit, has_long_clients, has_windows, has_long_records}
use Rattle.topic_model.specs.Limits.{has_large_generations, has_told_limits}
use Rattle.session_model.specs.PlainSession.{PlainSession, Sessions, session_of, begun_session}
use Rattle.session_model.specs.Change.{Change, Effect, Began, Ended, Bound, change}
use Rattle.session_model.specs.Acting.{without_session, act_one}
use Rattle.session_model.specs.FitsSession.{greatest, is_within, is_wide, wide_count, are_within, change_fits}
use Rattle.session_model.specs.FitsSession.{changes_fit, finds, has_window}
use Rattle.mqtt_props.specs.declared.table.TheConstants.{AUTHENTICATION_METHOD, RECEIVE_MAXIMUM}
use Rattle.mqtt_props.specs.Lookup.{first_of, text_in, two_in}
use Rattle.mqtt_packet.specs.Packet.{ConnectFields}
use Rattle.turn_model.specs.PlainConnection.{expiry_of}
use Rattle.turn_model.specs.Step.{Setting}
use Rattle.turn_model.specs.ConnectStep.{connect_changes, connect_step, connect_refusal, window_for, takes_wide}
use Rattle.turn_model.specs.ConnectStep.{has_no_session_place, is_resumed_if, ended_if, began_change, client_for}
use Rattle.turn_model.specs.ConnectStep.{is_unnamed, assigned_client}
use Rattle.turn_model.specs.Reasons as Reason
use Rattle.world_laws.specs.laws.EndFitLaws.{WithinLimits, bound_fits, ended_fits, ended_within, one_more_fits}
use Rattle.world_laws.specs.laws.EndFitLaws.{within_from, within_told}

-- ---- a session that begins

pushed_count : (profile : Profile) (ms : List PlainSession) (m : PlainSession) →
    ((is_wide profile m ≡ true) → wide_count profile ms < profile.wide_sessions) →
    wide_count profile ms ≤ profile.wide_sessions → wide_count profile (ms ++ m ∷ []) ≤ profile.wide_sessions
pushed_count profile ms m place few = by (is_wide profile m) refl
  where
    count_is : (b : Bool) → is_wide profile m ≡ b →
        wide_count profile (ms ++ m ∷ []) ≡ wide_count profile ms + length (if b then m ∷ [] else [])
    count_is b is =
        ap length (filter-append (is_wide profile) ms (m ∷ []))
        ∙ length-append (filter (is_wide profile) ms) (filter (is_wide profile) (m ∷ []))
        ∙ ap (λ b. wide_count profile ms + length (if b then m ∷ [] else [])) is

    by : (b : Bool) → is_wide profile m ≡ b → wide_count profile (ms ++ m ∷ []) ≤ profile.wide_sessions
    by true is = let less = place is in let same = count_is true is in omega arith
    by false is = let same = count_is false is in omega arith

-- one more session is within the limits, where it is within them itself and there is a place
pushed_within : (profile : Profile) (ms : List PlainSession) (next : ℕ) (m : PlainSession) → WithinLimits profile ms →
    length ms < profile.sessions → ((is_wide profile m ≡ true) → wide_count profile ms < profile.wide_sessions) →
    is_within profile m ≡ true → are_within profile (record { list = ms ++ m ∷ []; next = next }) ≡ true
pushed_within profile ms next m told place place_wide is =
    let many = length-append ms (m ∷ []) in
    within_from profile (record { list = ms ++ m ∷ []; next = next })
    (record {
      few = omega arith;
      few_wide = pushed_count profile ms m place_wide told.few_wide;
      each =
          list_all-append (is_within profile) ms (m ∷ [])
          ∙ and_from (list_all (is_within profile) ms) (list_all (is_within profile) (m ∷ [])) told.each
          (and_from (is_within profile m) true is refl);
    })

-- a session that begins has no more than its client and its window
begun_is_within : (profile : Profile) (client : List ℕ) (number expiry window : ℕ) →
    nat_le (length client) profile.client ≡ true →
    ((window == profile.window) || (profile.widens && (window == profile.wide_window))) ≡ true →
    is_within profile (begun_session client number expiry window) ≡ true
begun_is_within profile client number expiry window short has =
    let m : PlainSession = begun_session client number expiry window in
    let filters = and_from true (nat_le 0 profile.filter_texts && nat_le 0 window) refl
    (and_from (nat_le 0 profile.filter_texts) (nat_le 0 window) (le-leb 0 profile.filter_texts (omega arith))
    (le-leb 0 window (omega arith))) in
    and_from (nat_le (length client) profile.client)
    (has_window profile m
    && (nat_le 0 profile.subscriptions && (nat_le 0 profile.filter_texts && nat_le 0 window))) short
    (and_from (has_window profile m)
    (nat_le 0 profile.subscriptions && (nat_le 0 profile.filter_texts && nat_le 0 window)) has
    (and_from (nat_le 0 profile.subscriptions) (nat_le 0 profile.filter_texts && nat_le 0 window)
    (le-leb 0 profile.subscriptions (omega arith)) filters))

or_first : (a b : Bool) → a ≡ true → (a || b) ≡ true
or_first true b is = refl
or_first false b is = absurd (true≢false (sym is))

or_second : (a b : Bool) → b ≡ true → (a || b) ≡ true
or_second true b is = refl
or_second false b is = is

narrow : (widens place : Bool) (window wide : ℕ) → window < wide →
    (((window == window) || (widens && (window == wide))) ≡ true) × (((window == wide) ≡ true) → place ≡ true)
narrow widens place window wide less = (
  or_first (window == window) (widens && (window == wide)) (eq-eqb window window refl),
  λ e. let same = eqb-true window wide e in absurd (omega arith),
)

-- the window of a new session is one of the two, and the wide one only where there is a place
window_is_one : (widens takes place : Bool) (window wide : ℕ) → window < wide →
    ((((if widens && (takes && place) then wide else window) == window)
    || (widens && ((if widens && (takes && place) then wide else window) == wide))) ≡ true)
    × ((((if widens && (takes && place) then wide else window) == wide) ≡ true) → place ≡ true)
window_is_one true true true window wide less =
    (or_second (wide == window) (wide == wide) (eq-eqb wide wide refl), λ e. refl)
window_is_one true true false window wide less = narrow true false window wide less
window_is_one true false place window wide less = narrow true place window wide less
window_is_one false takes place window wide less = narrow false place window wide less

-- ---- a CONNECT

-- one that isn't refused has an identifier that isn't too long, and resumes a session or finds a place for a new one
accepted_tells : (st : Setting) (c : ConnectFields) → connect_refusal st c ≡ None →
    (nat_lt st.profile.client (length c.client) ≡ false)
    × ((not (is_resumed_if st c (session_of (client_for st c) st.sessions))
    && has_no_session_place st (client_for st c)) ≡ false)
accepted_tells st c is =
    by (is_some (first_of (text_in AUTHENTICATION_METHOD) c.props)) (is_some c.will)
    (nat_lt st.profile.client (length c.client))
    (not (is_resumed_if st c (session_of (client_for st c) st.sessions))
    && has_no_session_place st (client_for st c)) is
  where
    by : (method will long full : Bool) →
        (if method then Some Reason.bad_authentication_method
        else if will then Some Reason.implementation_error
        else if long then Some Reason.bad_client_identifier
        else if full then Some Reason.server_busy
        else None) ≡ None → (long ≡ false) × (full ≡ false)
    by true will long full is = absurd (none-some Reason.bad_authentication_method (sym is))
    by false true long full is = absurd (none-some Reason.implementation_error (sym is))
    by false false true full is = absurd (none-some Reason.bad_client_identifier (sym is))
    by false false false true is = absurd (none-some Reason.server_busy (sym is))
    by false false false false is = (refl, refl)

-- the identifier that a client has is within its limit
pub client_is_short : (st : Setting) (c : ConnectFields) → connect_refusal st c ≡ None → is_unnamed c ≡ false →
    nat_le (length (client_for st c)) st.profile.client ≡ true
client_is_short st c accepted named =
    let at_most = ltb-false st.profile.client (length c.client) (accepted_tells st c accepted).0 in
    ap (λ b. nat_le (length (if b then assigned_client st else c.client)) st.profile.client) named
    ∙ le-leb (length c.client) st.profile.client at_most

-- a client that none has loses no session
none_left : (client : List ℕ) (ms : List PlainSession) →
    find (λ (m : PlainSession). bytes_eq m.client client) ms ≡ None → without_session client ms ≡ ms
none_left client [] none = refl
none_left client (m ∷ ms) none = by (bytes_eq m.client client) none (none_left client ms)
  where
    by : (b : Bool) → (if b then Some m else find (λ (m : PlainSession). bytes_eq m.client client) ms) ≡ None →
        (find (λ (m : PlainSession). bytes_eq m.client client) ms ≡ None → without_session client ms ≡ ms) →
        (if not b then m ∷ without_session client ms else without_session client ms) ≡ (m ∷ ms)
    by true none rest = absurd (none-some m (sym none))
    by false none rest = ap (λ ms. m ∷ ms) (rest none)

-- behind its end a client has no session
gone_left : (client : List ℕ) (ms : List PlainSession) →
    find (λ (m : PlainSession). bytes_eq m.client client) (without_session client ms) ≡ None
gone_left client [] = refl
gone_left client (m ∷ ms) = by (bytes_eq m.client client) refl (gone_left client ms)
  where
    by : (b : Bool) → bytes_eq m.client client ≡ b →
        find (λ (m : PlainSession). bytes_eq m.client client) (without_session client ms) ≡ None →
        find (λ (m : PlainSession). bytes_eq m.client client)
        (if not b then m ∷ without_session client ms else without_session client ms) ≡ None
    by true is rest = rest
    by false is rest =
        ap (λ b. if b then Some m
        else find (λ (m : PlainSession). bytes_eq m.client client) (without_session client ms)) is
        ∙ rest

or_neither : (a b : Bool) → (a || b) ≡ false → (a ≡ false) × (b ≡ false)
or_neither true b is = absurd (true≢false is)
or_neither false b is = (refl, is)

module _ (st : Setting) (c : ConnectFields) (client : List ℕ) (less : st.profile.window < st.profile.wide_window)
    (short : nat_le (length client) st.profile.client ≡ true) where
  -- a new session fits those that are left, of which none is the client's
  began_fits : WithinLimits st.profile (without_session client st.sessions.list) →
      has_no_session_place st client ≡ false →
      change_fits st.profile
      (record { list = without_session client st.sessions.list; next = st.sessions.next }) (began_change st c client)
      ≡ true
  began_fits told place =
      let window : ℕ = window_for st c client in
      let places = or_neither (nat_le st.profile.sessions (length (without_session client st.sessions.list)))
      (nat_le greatest st.sessions.next) place in
      let few = leb-false st.profile.sessions (length (without_session client st.sessions.list)) places.0 in
      let below = leb-false greatest st.sessions.next places.1 in
      let has_wide : Bool = nat_lt (wide_count st.profile (without_session client st.sessions.list))
      st.profile.wide_sessions in
      let one = window_is_one st.profile.widens (takes_wide st.profile (first_of (two_in RECEIVE_MAXIMUM) c.props))
      has_wide st.profile.window st.profile.wide_window less in
      let begun : PlainSession = begun_session client st.sessions.next (expiry_of c.props) window in
      let new : Effect = Began
      (record { incarnation = st.sessions.next; expiry = expiry_of c.props; window = window }) in
      let rest : Sessions = record { list = without_session client st.sessions.list; next = st.sessions.next } in
      and_from (finds rest new (session_of client rest))
      (are_within st.profile
      (record { list = without_session client st.sessions.list ++ begun ∷ []; next = st.sessions.next + 1 }))
      (ap (finds rest new) (gone_left client st.sessions.list)
      ∙ and_from (st.sessions.next == st.sessions.next) (nat_lt st.sessions.next greatest)
      (eq-eqb st.sessions.next st.sessions.next refl) (lt-ltb st.sessions.next greatest below))
      (pushed_within st.profile (without_session client st.sessions.list) (st.sessions.next + 1) begun told few
      (λ wide. ltb-true (wide_count st.profile (without_session client st.sessions.list)) st.profile.wide_sessions
      (one.1 wide))
      (begun_is_within st.profile client st.sessions.next (expiry_of c.props) window short one.0))

  -- so do the changes of one that begins, where the session that was there ends first
  pub begins_fit : are_within st.profile st.sessions ≡ true → has_no_session_place st client ≡ false →
      changes_fit st.profile st.sessions (connect_changes st c client false) ≡ true
  begins_fit is place = by (session_of client st.sessions) refl
    where
      began : Change
      began = began_change st c client

      fit : changes_fit st.profile
          (record { list = without_session client st.sessions.list; next = st.sessions.next }) (began ∷ []) ≡ true
      fit =
          one_more_fits st.profile
          (record { list = without_session client st.sessions.list; next = st.sessions.next }) began []
          (began_fits (within_told st.profile (act_one st.sessions (change client Ended))
          (ended_within st.profile st.sessions client is)) place) refl

      by : (found : Option PlainSession) → session_of client st.sessions ≡ found →
          changes_fit st.profile st.sessions (ended_if (is_some found) client ++ began ∷ []) ≡ true
      by None none =
          ap (λ ms. changes_fit st.profile (record { list = ms; next = st.sessions.next }) (began ∷ []))
          (sym (none_left client st.sessions.list none))
          ∙ fit
      by (Some m) some =
          one_more_fits st.profile st.sessions (change client Ended) (began ∷ [])
          (ended_fits st.profile st.sessions client m is some) fit

  pub resumed_fits : are_within st.profile st.sessions ≡ true → (m : PlainSession) →
      session_of client st.sessions ≡ Some m →
      changes_fit st.profile st.sessions (connect_changes st c client true) ≡ true
  resumed_fits is m has =
      one_more_fits st.profile st.sessions (change client (Bound (expiry_of c.props))) []
      (bound_fits st.profile st.sessions client m (expiry_of c.props) is has) refl

windows_suit : (profile : Profile) → limits_suit profile ≡ true → profile.window < profile.wide_window
windows_suit profile suit =
    let one = and_parts (has_long_clients profile && (has_windows profile && has_long_records profile))
    (has_large_generations profile && has_told_limits profile) suit in
    let two = and_parts (has_long_clients profile) (has_windows profile && has_long_records profile) one.0 in
    let three = and_parts (has_windows profile) (has_long_records profile) two.1 in
    let four = and_parts
    (nat_lt 0 profile.window && (nat_lt profile.window profile.wide_window && nat_le profile.wide_window 32767))
    (nat_lt 0 profile.batch && nat_lt 0 profile.wide_batch) three.0 in
    let five = and_parts (nat_lt 0 profile.window)
    (nat_lt profile.window profile.wide_window && nat_le profile.wide_window 32767) four.0 in
    let six = and_parts (nat_lt profile.window profile.wide_window) (nat_le profile.wide_window 32767) five.1 in
    ltb-true profile.window profile.wide_window six.0

-- the changes of a CONNECT that isn't refused
pub connect_fits : (st : Setting) (c : ConnectFields) → limits_suit st.profile ≡ true → connect_refusal st c ≡ None →
    are_within st.profile st.sessions ≡ true → nat_le (length (client_for st c)) st.profile.client ≡ true →
    changes_fit st.profile st.sessions (connect_step st c).changes ≡ true
connect_fits st c suit accepted is short =
    by (session_of (client_for st c) st.sessions) refl (accepted_tells st c accepted).1
  where
    resumes : (resumed : Bool) (m : PlainSession) → session_of (client_for st c) st.sessions ≡ Some m →
        (not resumed && has_no_session_place st (client_for st c)) ≡ false →
        changes_fit st.profile st.sessions (connect_changes st c (client_for st c) resumed) ≡ true
    resumes true m has place =
        resumed_fits st c (client_for st c) (windows_suit st.profile suit) short is m has
    resumes false m has place = begins_fit st c (client_for st c) (windows_suit st.profile suit) short is place

    by : (found : Option PlainSession) → session_of (client_for st c) st.sessions ≡ found →
        (not (is_resumed_if st c found) && has_no_session_place st (client_for st c)) ≡ false →
        changes_fit st.profile st.sessions
        (connect_changes st c (client_for st c) (is_resumed_if st c found)) ≡ true
    by None none place = begins_fit st c (client_for st c) (windows_suit st.profile suit) short is place
    by (Some m) has place = resumes (is_resumed_if st c (Some m)) m has place
