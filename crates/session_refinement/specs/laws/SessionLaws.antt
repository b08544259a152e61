-- The kept sessions of a worker keep what they need of the plain ones through each change that fits, and tell which do.
use Rattle.std.proofs.Common.{◌≡◌, ℕ, suc, nat_lt, Bool, true, false, ◌&&◌, ◌||◌, not, ◌==◌, nat_le, if◌then◌else◌}
use Rattle.std.proofs.Common.{List, [], ◌∷◌, ◌++◌, length, filter, find, Option, Some, None, bytes_eq, true≢false, refl}
use Rattle.std.proofs.Common.{sym, ap, subst, ◌∙◌}
use Rattle.std.specs.List.{list_any, list_all}
use Rattle.std.proofs.lemmas.Bool.{or_from, or_parts, false_from_ne_true}
use Rattle.std.proofs.lemmas.Cmp.{nat_list_eq_equiv}
use Rattle.std.proofs.lemmas.List.{map-append}
use Rattle.std.proofs.lemmas.List.Folds.{list_any-append}
use Rattle.std.proofs.lemmas.Option.{none-some, same_Some}
use Rattle.topic_model.specs.Profile.{Profile}
use Rattle.session_model.specs.declared.entry.Entry.{Entry}
use Rattle.session_model.specs.PlainSession as session
use Rattle.session_model.specs.PlainSession.{PlainSession, begun_session}
use Rattle.session_model.specs.Acting as acting
use Rattle.session_model.specs.Acting.{changed_if, changed_session}
use Rattle.session_model.specs.laws.OtherLaws.{keeps_client}
use Rattle.session_model.specs.FitsSession as fits
use Rattle.session_model.specs.FitsSession.{suits, greatest}
use Rattle.session_state.specs.declared.change.Change.{Change}
use Rattle.session_state.specs.declared.change.Effect.{Effect}
use Rattle.session_state.specs.declared.change.Effect.TheVariants.{Began, Ended, Bound, Parted, Subscribed, Replaced}
use Rattle.session_state.specs.declared.change.Effect.TheVariants.{Unsubscribed, Issued, Acked, Received, Done, Passed}
use Rattle.session_state.specs.KeptSession.{KeptSession, KeptSessions, session_of, begun_kept}
use Rattle.session_state.specs.KeptActing.{on_session, without_session, kept_changed, acted_on, kept_acted}
use Rattle.session_state.specs.KeptFits.{kept_within, kept_are_within, kept_finds, kept_fits, is_wide, wide_count}
use Rattle.session_refinement.specs.PlainChange.{plain_effect, plain_change}
use Rattle.session_refinement.specs.StandFor.{Keeps, KeepsSome, Group, Pairwise, SessionsKeep, HaveOwnClients}
use Rattle.session_refinement.specs.StandFor.{clients_of}
use Rattle.session_refinement.specs.Issuing.{IsIssuedAs, is_no_batch, new_groups}
use Rattle.session_refinement.specs.laws.ListLaws.{filter_mapped, any_of_filtered}
use Rattle.session_refinement.specs.laws.KeepsLaws.{begun_keeps, changed_keeps, no_entries}
use Rattle.session_refinement.specs.laws.FitLaws.{suits_agree, within_agrees}

-- ---- the session of a client

-- both have none, or a kept one that keeps what it needs
abbrev pub AreAlike : Option KeptSession → Option PlainSession → Type 0
AreAlike None None = Unit {0}
AreAlike None (Some m) = ⊥
AreAlike (Some k) None = ⊥
AreAlike (Some k) (Some m) = (groups : List Group) × Keeps k m groups

pub found_alike : (client : List ℕ) (ks : List KeptSession) (ms : List PlainSession) → Pairwise KeepsSome ks ms →
    AreAlike (find (λ (k : KeptSession). bytes_eq k.client client) ks)
    (find (λ (m : PlainSession). bytes_eq m.client client) ms)
found_alike client [] [] h = tt
found_alike client [] (m ∷ ms) h = absurd h
found_alike client (k ∷ ks) [] h = absurd h
found_alike client (k ∷ ks) (m ∷ ms) h =
    subst
    (λ b. AreAlike (if b then Some k else find (λ (k : KeptSession). bytes_eq k.client client) ks)
    (if bytes_eq m.client client then Some m else find (λ (m : PlainSession). bytes_eq m.client client) ms))
    (ap (λ c. bytes_eq c client) (sym h.0.1.client)) (by (bytes_eq m.client client) (found_alike client ks ms h.1))
  where
    by : (b : Bool) → AreAlike (find (λ (k : KeptSession). bytes_eq k.client client) ks)
        (find (λ (m : PlainSession). bytes_eq m.client client) ms) →
        AreAlike (if b then Some k else find (λ (k : KeptSession). bytes_eq k.client client) ks)
        (if b then Some m else find (λ (m : PlainSession). bytes_eq m.client client) ms)
    by true rest = h.0
    by false rest = rest

-- ---- distinct clients

pub none_found : (client : List ℕ) (ms : List PlainSession) →
    find (λ (m : PlainSession). bytes_eq m.client client) ms ≡ None →
    list_any (λ (c : List ℕ). bytes_eq c client) (clients_of ms) ≡ false
none_found client [] is = refl
none_found client (m ∷ ms) is = by (bytes_eq m.client client) is (none_found client ms)
  where
    by : (b : Bool) → (if b then Some m else find (λ (m : PlainSession). bytes_eq m.client client) ms) ≡ None →
        (find (λ (m : PlainSession). bytes_eq m.client client) ms ≡ None →
        list_any (λ (c : List ℕ). bytes_eq c client) (clients_of ms) ≡ false) →
        (b || list_any (λ (c : List ℕ). bytes_eq c client) (clients_of ms)) ≡ false
    by true is rest = absurd (none-some m (sym is))
    by false is rest = rest is

pub distinct_pushed : (cs : List (List ℕ)) (client : List ℕ) → list_any (λ (c : List ℕ). bytes_eq c client) cs ≡ false →
    HaveOwnClients cs → HaveOwnClients (cs ++ client ∷ [])
distinct_pushed [] client new h = (refl, tt)
distinct_pushed (c ∷ cs) client new h =
    let parts = or_parts (bytes_eq c client) (list_any (λ (c : List ℕ). bytes_eq c client) cs) new in (
      list_any-append (λ (d : List ℕ). bytes_eq d c) cs (client ∷ [])
          ∙ or_from (list_any (λ (d : List ℕ). bytes_eq d c) cs) (bytes_eq client c || false) h.0
          (or_from (bytes_eq client c) false (nat_list_eq_equiv.symm client c ∙ parts.0) refl),
      distinct_pushed cs client parts.1 h.1,
    )

pub distinct_filtered : (p : List ℕ → Bool) (cs : List (List ℕ)) → HaveOwnClients cs → HaveOwnClients (filter p cs)
distinct_filtered p [] h = tt
distinct_filtered p (c ∷ cs) h = by (p c) (distinct_filtered p cs h.1)
  where
    by : (b : Bool) → HaveOwnClients (filter p cs) → HaveOwnClients (if b then c ∷ filter p cs else filter p cs)
    by false rest = rest
    by true rest = (
      false_from_ne_true (list_any (λ (d : List ℕ). bytes_eq d c) (filter p cs))
          (λ found. true≢false (sym (any_of_filtered (λ (d : List ℕ). bytes_eq d c) p cs found) ∙ h.0)),
      rest,
    )

pub clients_on : (client : List ℕ) (g : PlainSession → PlainSession) → ((m : PlainSession) → (g m).client ≡ m.client) →
    (ms : List PlainSession) → clients_of (acting.on_session client g ms) ≡ clients_of ms
clients_on client g same [] = refl
clients_on client g same (m ∷ ms) =
    ap (λ c. c ∷ clients_of (acting.on_session client g ms)) (by (bytes_eq m.client client))
    ∙ ap (λ l. m.client ∷ l) (clients_on client g same ms)
  where
    by : (b : Bool) → (changed_if b g m).client ≡ m.client
    by true = same m
    by false = refl

-- ---- pairs of sessions of one client

module _ (R : KeptSession → PlainSession → Type 0)
    (same : (k : KeptSession) (m : PlainSession) → R k m → k.client ≡ m.client) where
  -- where no session is of the client nothing changes
  pub on_none : (client : List ℕ) (f : KeptSession → KeptSession) (g : PlainSession → PlainSession)
      (ks : List KeptSession) (ms : List PlainSession) → Pairwise R ks ms →
      list_any (λ (c : List ℕ). bytes_eq c client) (clients_of ms) ≡ false →
      Pairwise R (on_session client f ks) (acting.on_session client g ms)
  on_none client f g [] [] h none = tt
  on_none client f g [] (m ∷ ms) h none = absurd h
  on_none client f g (k ∷ ks) [] h none = absurd h
  on_none client f g (k ∷ ks) (m ∷ ms) h none =
      let parts = or_parts (bytes_eq m.client client)
      (list_any (λ (c : List ℕ). bytes_eq c client) (clients_of ms)) none in (
        subst (λ b. R (changed_if b f k) (changed_if (bytes_eq m.client client) g m))
            (ap (λ c. bytes_eq c client) (sym (same k m h.0)))
            (subst (λ b. R (changed_if b f k) (changed_if b g m)) (sym parts.0) h.0),
        on_none client f g ks ms h.1 parts.1,
      )

  pub on_one : (client : List ℕ) (f : KeptSession → KeptSession) (g : PlainSession → PlainSession)
      (ks : List KeptSession) (ms : List PlainSession) (m : PlainSession) → Pairwise R ks ms →
      HaveOwnClients (clients_of ms) → find (λ (m : PlainSession). bytes_eq m.client client) ms ≡ Some m →
      ((k : KeptSession) → R k m → R (f k) (g m)) → Pairwise R (on_session client f ks) (acting.on_session client g ms)
  on_one client f g [] [] m h distinct is does = tt
  on_one client f g [] (n ∷ ms) m h distinct is does = absurd h
  on_one client f g (k ∷ ks) [] m h distinct is does = absurd h
  on_one client f g (k ∷ ks) (n ∷ ms) m h distinct is does =
      subst
      (λ b. R (changed_if b f k) (changed_if (bytes_eq n.client client) g n)
      × Pairwise R (on_session client f ks) (acting.on_session client g ms))
      (ap (λ c. bytes_eq c client) (sym (same k n h.0)))
      (by (bytes_eq n.client client) refl is (λ later. on_one client f g ks ms m h.1 distinct.1 later does))
    where
      others : bytes_eq n.client client ≡ true → list_any (λ (c : List ℕ). bytes_eq c client) (clients_of ms) ≡ false
      others same = alike (clients_of ms) ∙ distinct.0
        where
          alike : (cs : List (List ℕ)) → list_any (λ (c : List ℕ). bytes_eq c client) cs
              ≡ list_any (λ (c : List ℕ). bytes_eq c n.client) cs
          alike [] = refl
          alike (c ∷ cs) =
              ap (λ b. b || list_any (λ (c : List ℕ). bytes_eq c client) cs)
              (nat_list_eq_equiv.symm c client ∙ sym (nat_list_eq_equiv.congr n.client client c same)
              ∙ nat_list_eq_equiv.symm n.client c)
              ∙ ap (λ b. bytes_eq c n.client || b) (alike cs)

      by : (b : Bool) → bytes_eq n.client client ≡ b →
          (if b then Some n else find (λ (m : PlainSession). bytes_eq m.client client) ms) ≡ Some m →
          (find (λ (m : PlainSession). bytes_eq m.client client) ms ≡ Some m →
          Pairwise R (on_session client f ks) (acting.on_session client g ms)) →
          R (changed_if b f k) (changed_if b g n) × Pairwise R (on_session client f ks) (acting.on_session client g ms)
      by false other is later = (h.0, later is)
      by true same is later =
          let here = same_Some n m is in (
            subst (λ l. R (f k) (g l)) (sym here) (does k (subst (R k) here h.0)),
            on_none client f g ks ms h.1 (others same),
          )

  pub pushed : (ks : List KeptSession) (ms : List PlainSession) (k : KeptSession) (m : PlainSession) →
      Pairwise R ks ms → R k m → Pairwise R (ks ++ k ∷ []) (ms ++ m ∷ [])
  pushed [] [] k m h new = (new, tt)
  pushed [] (n ∷ ms) k m h new = absurd h
  pushed (l ∷ ks) [] k m h new = absurd h
  pushed (l ∷ ks) (n ∷ ms) k m h new = (h.0, pushed ks ms k m h.1 new)

  pub without : (client : List ℕ) (ks : List KeptSession) (ms : List PlainSession) → Pairwise R ks ms →
      Pairwise R (without_session client ks) (acting.without_session client ms)
  without client [] [] h = tt
  without client [] (m ∷ ms) h = absurd h
  without client (k ∷ ks) [] h = absurd h
  without client (k ∷ ks) (m ∷ ms) h =
      subst
      (λ b. Pairwise R (if not b then k ∷ without_session client ks else without_session client ks)
      (if not (bytes_eq m.client client) then m ∷ acting.without_session client ms
      else acting.without_session client ms))
      (ap (λ c. bytes_eq c client) (sym (same k m h.0))) (by (bytes_eq m.client client) (without client ks ms h.1))
    where
      by : (b : Bool) → Pairwise R (without_session client ks) (acting.without_session client ms) →
          Pairwise R (if not b then k ∷ without_session client ks else without_session client ks)
          (if not b then m ∷ acting.without_session client ms else acting.without_session client ms)
      by true rest = rest
      by false rest = (h.0, rest)

keeps_same : (k : KeptSession) (m : PlainSession) → KeepsSome k m → k.client ≡ m.client
keeps_same k m h = h.1.client

on_keeps : (kept : KeptSessions) (plain : session.Sessions) (client : List ℕ) (f : KeptSession → KeptSession)
    (g : PlainSession → PlainSession) (m : PlainSession) → SessionsKeep kept plain →
    ((m : PlainSession) → (g m).client ≡ m.client) → session.session_of client plain ≡ Some m →
    ((k : KeptSession) → KeepsSome k m → KeepsSome (f k) (g m)) →
    SessionsKeep (record kept { list = on_session client f kept.list })
    (record plain { list = acting.on_session client g plain.list })
on_keeps kept plain client f g m h same is does =
    record {
      list = on_one KeepsSome keeps_same client f g kept.list plain.list m h.list h.distinct is does;
      next = h.next;
      distinct = subst HaveOwnClients (sym (clients_on client g same plain.list)) h.distinct;
    }

-- ---- a change

held : (kept : KeptSessions) (plain : session.Sessions) (entries : List Entry) (client : List ℕ) (effect : Effect) →
    SessionsKeep kept plain → (o : Option PlainSession) → session.session_of client plain ≡ o →
    fits.may_begin plain (plain_effect entries effect) ≡ false →
    fits.finds plain (plain_effect entries effect) o ≡ true →
    ((m : PlainSession) → session.session_of client plain ≡ Some m → IsIssuedAs m effect entries) →
    SessionsKeep (record kept { list = on_session client (kept_changed effect) kept.list })
    (record plain { list = acting.on_session client (changed_session (plain_effect entries effect)) plain.list })
held kept plain entries client effect h None is no_begin found issued = absurd (true≢false (sym found ∙ no_begin))
held kept plain entries client effect h (Some m) is no_begin found issued =
    on_keeps kept plain client (kept_changed effect) (changed_session (plain_effect entries effect)) m h
    (keeps_client (plain_effect entries effect)) is
    (λ k keeps.
    (keeps.0 ++ new_groups effect entries, changed_keeps k m keeps.0 entries effect keeps.1 found (issued m is)))

pub acted_keeps : (kept : KeptSessions) (plain : session.Sessions) (entries : List Entry) (client : List ℕ)
    (effect : Effect) → SessionsKeep kept plain →
    fits.finds plain (plain_effect entries effect) (session.session_of client plain) ≡ true →
    ((m : PlainSession) → session.session_of client plain ≡ Some m → IsIssuedAs m effect entries) →
    SessionsKeep (acted_on client effect kept) (acting.act_effect client (plain_effect entries effect) plain)
acted_keeps kept plain entries client (Began b) h found issued = by (session.session_of client plain) refl found
  where
    by : (o : Option PlainSession) → session.session_of client plain ≡ o →
        fits.finds plain (plain_effect entries (Began b)) o ≡ true →
        SessionsKeep (acted_on client (Began b) kept) (acting.act_effect client (plain_effect entries (Began b)) plain)
    by (Some m) is found = absurd (true≢false (sym found))
    by None is found =
        record {
          list = pushed KeepsSome keeps_same kept.list plain.list (begun_kept client b.incarnation b.expiry b.window)
              (begun_session client b.incarnation b.expiry b.window) h.list
              ([], begun_keeps client b.incarnation b.expiry b.window);
          next = refl;
          distinct =
              subst HaveOwnClients
              (sym
              (map-append (λ (m : PlainSession). m.client) plain.list
              (begun_session client b.incarnation b.expiry b.window ∷ [])))
              (distinct_pushed (clients_of plain.list) client (none_found client plain.list is) h.distinct);
        }
acted_keeps kept plain entries client Ended h found issued =
    record {
      list = without KeepsSome keeps_same client kept.list plain.list h.list;
      next = h.next;
      distinct =
          subst HaveOwnClients
          (filter_mapped (λ (c : List ℕ). not (bytes_eq c client)) (λ (m : PlainSession). m.client) plain.list)
          (distinct_filtered (λ (c : List ℕ). not (bytes_eq c client)) (clients_of plain.list) h.distinct);
    }
acted_keeps kept plain entries client (Bound e) h found issued =
    held kept plain entries client (Bound e) h (session.session_of client plain) refl refl found issued
acted_keeps kept plain entries client (Parted p) h found issued =
    held kept plain entries client (Parted p) h (session.session_of client plain) refl refl found issued
acted_keeps kept plain entries client (Subscribed s) h found issued =
    held kept plain entries client (Subscribed s) h (session.session_of client plain) refl refl found issued
acted_keeps kept plain entries client (Replaced r) h found issued =
    held kept plain entries client (Replaced r) h (session.session_of client plain) refl refl found issued
acted_keeps kept plain entries client (Unsubscribed n) h found issued =
    held kept plain entries client (Unsubscribed n) h (session.session_of client plain) refl refl found issued
acted_keeps kept plain entries client (Issued i) h found issued =
    held kept plain entries client (Issued i) h (session.session_of client plain) refl refl found issued
acted_keeps kept plain entries client (Acked n) h found issued =
    held kept plain entries client (Acked n) h (session.session_of client plain) refl refl found issued
acted_keeps kept plain entries client (Received n) h found issued =
    held kept plain entries client (Received n) h (session.session_of client plain) refl refl found issued
acted_keeps kept plain entries client (Done n) h found issued =
    held kept plain entries client (Done n) h (session.session_of client plain) refl refl found issued
acted_keeps kept plain entries client (Passed p) h found issued =
    held kept plain entries client (Passed p) h (session.session_of client plain) refl refl found issued

-- ---- what fits

wide_agrees : (profile : Profile) (ks : List KeptSession) (ms : List PlainSession) → Pairwise KeepsSome ks ms →
    (length ks ≡ length ms) × (wide_count profile ks ≡ fits.wide_count profile ms)
    × (list_all (kept_within profile) ks ≡ list_all (fits.is_within profile) ms)
wide_agrees profile [] [] h = (refl, refl, refl)
wide_agrees profile [] (m ∷ ms) h = absurd h
wide_agrees profile (k ∷ ks) [] h = absurd h
wide_agrees profile (k ∷ ks) (m ∷ ms) h =
    let rest = wide_agrees profile ks ms h.1 in (
      ap (λ (n : ℕ). suc n) rest.0,
      ap (λ w. length
          (if w == profile.wide_window then k ∷ filter (is_wide profile) ks else filter (is_wide profile) ks))
          h.0.1.window ∙ by (m.window == profile.wide_window) rest.1,
      ap (λ b. b && list_all (kept_within profile) ks) (within_agrees profile k m h.0.0 h.0.1)
          ∙ ap (λ b. fits.is_within profile m && b) rest.2,
    )
  where
    by : (b : Bool) → wide_count profile ks ≡ fits.wide_count profile ms →
        length (if b then k ∷ filter (is_wide profile) ks else filter (is_wide profile) ks)
        ≡ length (if b then m ∷ filter (fits.is_wide profile) ms else filter (fits.is_wide profile) ms)
    by true same = ap (λ (n : ℕ). suc n) same
    by false same = same

pub are_within_agree : (profile : Profile) (kept : KeptSessions) (plain : session.Sessions) → SessionsKeep kept plain →
    kept_are_within profile kept ≡ fits.are_within profile plain
are_within_agree profile kept plain h =
    let parts = wide_agrees profile kept.list plain.list h.list in
    ap (λ n. nat_le n profile.sessions
    && (nat_le (wide_count profile kept.list) profile.wide_sessions && list_all (kept_within profile) kept.list))
    parts.0
    ∙ ap (λ n. nat_le (length plain.list) profile.sessions
    && (nat_le n profile.wide_sessions && list_all (kept_within profile) kept.list)) parts.1
    ∙ ap (λ b. nat_le (length plain.list) profile.sessions
    && (nat_le (fits.wide_count profile plain.list) profile.wide_sessions && b)) parts.2

finds_agree : (kept : KeptSessions) (plain : session.Sessions) (entries : List Entry) (effect : Effect) →
    is_no_batch effect ≡ true → SessionsKeep kept plain → (o : Option KeptSession) (p : Option PlainSession) →
    AreAlike o p →
    kept_finds kept effect o ≡ fits.finds plain (plain_effect entries effect) p
finds_agree kept plain entries effect single h None None alike = by effect
  where
    by : (effect : Effect) → kept_finds kept effect None ≡ fits.finds plain (plain_effect entries effect) None
    by (Began b) = ap (λ n. (b.incarnation == n) && nat_lt b.incarnation greatest) h.next
    by Ended = refl
    by (Bound e) = refl
    by (Parted p) = refl
    by (Subscribed s) = refl
    by (Replaced r) = refl
    by (Unsubscribed n) = refl
    by (Issued i) = refl
    by (Acked n) = refl
    by (Received n) = refl
    by (Done n) = refl
    by (Passed p) = refl
finds_agree kept plain entries effect single h None (Some m) alike = absurd alike
finds_agree kept plain entries effect single h (Some k) None alike = absurd alike
finds_agree kept plain entries effect single h (Some k) (Some m) alike =
    suits_agree k m alike.0 entries effect single alike.1

-- a change but a batch fits the kept sessions exactly where it fits the plain ones
pub fits_agree : (profile : Profile) (kept : KeptSessions) (plain : session.Sessions) (entries : List Entry)
    (c : Change) → is_no_batch c.effect ≡ true → SessionsKeep kept plain →
    kept_fits profile kept c ≡ fits.change_fits profile plain (plain_change entries c)
fits_agree profile kept plain entries c single h =
    ap (λ b. b && kept_are_within profile (kept_acted c kept)) found
    ∙ by (fits.finds plain (plain_effect entries c.effect) (session.session_of c.client plain)) refl
  where
    found : kept_finds kept c.effect (session_of c.client kept)
        ≡ fits.finds plain (plain_effect entries c.effect) (session.session_of c.client plain)
    found =
        finds_agree kept plain entries c.effect single h (session_of c.client kept) (session.session_of c.client plain)
        (found_alike c.client kept.list plain.list h.list)

    by : (b : Bool) → fits.finds plain (plain_effect entries c.effect) (session.session_of c.client plain) ≡ b →
        (b && kept_are_within profile (kept_acted c kept))
        ≡ (b && fits.are_within profile (acting.act_one plain (plain_change entries c)))
    by false is = refl
    by true is =
        are_within_agree profile (kept_acted c kept) (acting.act_one plain (plain_change entries c))
        (acted_keeps kept plain entries c.client c.effect h is (λ m has. no_entries m c.effect entries single))
