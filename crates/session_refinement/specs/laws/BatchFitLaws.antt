-- A batch that fits the plain sessions fits the kept ones.
use Rattle.std.proofs.Common.{◌≡◌, ℕ, ◌+◌, ◌≤◌, Bool, true, false, ◌&&◌, ◌==◌, nat_lt, if◌then◌else◌, List, [], ◌∷◌}
use Rattle.std.proofs.Common.{length, map, filter, find, slice_get, Option, Some, None, is_some, refl, sym, ap, subst}
use Rattle.std.proofs.Common.{◌∙◌}
use Rattle.std.specs.List.{list_any, list_all}
use Rattle.std.proofs.lemmas.Bool.{and_from, and_parts, or_left, eq-eqb, lt-ltb}
use Rattle.std.proofs.lemmas.Option.{none-some, same_Some}
use Rattle.topic_model.specs.Profile.{Profile}
use Rattle.session_model.specs.declared.entry.Entry.{Entry}
use Rattle.session_model.specs.declared.entry.Version.{Version}
use Rattle.session_model.specs.Entry.{numbers1, numbers2}
use Rattle.session_model.specs.PlainSession.{PlainSession, Subscription, issued1_of, issued2_of, room_of}
use Rattle.session_model.specs.PlainSession.{subscription_numbered}
use Rattle.session_model.specs.PlainSession as session_model
use Rattle.session_model.specs.Unfinished as plain
use Rattle.session_model.specs.Unfinished.{kept_subscriptions}
use Rattle.session_model.specs.Change as session
use Rattle.session_model.specs.Acting.{act_one}
use Rattle.session_model.specs.FitsSession as fits
use Rattle.session_model.specs.FitsSession.{suits, is_live, has_sweep, go_on, ascend, has_left}
use Rattle.seq_tracks.specs.declared.marks.TheConstants.{WIDEST_WINDOW}
use Rattle.seq_tracks.specs.PlainTracks.{has_room_for}
use Rattle.seq_tracks.specs.InOrder.{InOrder}
use Rattle.seq_tracks.specs.AgreeLaws.{room_agrees, room_is_for_both}
use Rattle.session_state.specs.declared.change.Change.{Change}
use Rattle.session_state.specs.declared.change.Effect.TheVariants.{Issued}
use Rattle.session_state.specs.declared.change.Issued.{Issued as Issuing}
use Rattle.session_state.specs.KeptSub.{KeptSub}
use Rattle.session_state.specs.KeptSession.{KeptSession, KeptSessions, session_of, sub_numbered}
use Rattle.session_state.specs.KeptActing.{kept_acted}
use Rattle.session_state.specs.KeptFits.{kept_suits, kept_finds, kept_fits, kept_are_within, is_issuing, goes_on}
use Rattle.session_refinement.specs.StandFor.{Keeps, SessionsKeep, Group, kept_sub, kept_sweeps}
use Rattle.session_refinement.specs.PlainChange.{plain_change}
use Rattle.session_refinement.specs.Issuing.{IsKeptBatch, IsNumbered, IsReadyFor}
use Rattle.session_refinement.specs.laws.SessionLaws.{AreAlike, found_alike, acted_keeps, are_within_agree}
use Rattle.session_refinement.specs.laws.KeepLaws.{keeps_subscription}
use Rattle.session_refinement.specs.laws.OneSubLaws.{live_found}
use Rattle.session_refinement.specs.laws.IssueLaws.{plain_issues}

-- what is found is found among those that pass a test that it passes
find_left : (p q : Subscription → Bool) (xs : List Subscription) (x : Subscription) → find p xs ≡ Some x → q x ≡ true →
    find p (filter q xs) ≡ Some x
find_left p q [] x is passes = absurd (none-some x is)
find_left p q (y ∷ xs) x is passes = by (p y) refl is (find_left p q xs x)
  where
    by : (b : Bool) → p y ≡ b → (if b then Some y else find p xs) ≡ Some x →
        (find p xs ≡ Some x → q x ≡ true → find p (filter q xs) ≡ Some x) →
        find p (if q y then y ∷ filter q xs else filter q xs) ≡ Some x
    by true here is rest =
        ap (λ b. find p (if b then y ∷ filter q xs else filter q xs)) (ap q (same_Some y x is) ∙ passes)
        ∙ ap (λ b. if b then Some y else find p (filter q xs)) here ∙ is
    by false here is rest = at (q y)
      where
        at : (b : Bool) → find p (if b then y ∷ filter q xs else filter q xs) ≡ Some x
        at true = ap (λ b. if b then Some y else find p (filter q xs)) here ∙ rest is passes
        at false = rest is passes

find_kept : (n : ℕ) (ss : List Subscription) (s : Subscription) →
    find (λ (s : Subscription). s.number == n) ss ≡ Some s →
    find (λ (s : KeptSub). s.number == n) (map kept_sub ss) ≡ Some (kept_sub s)
find_kept n [] s is = absurd (none-some s is)
find_kept n (t ∷ ss) s is = by (t.number == n) is (find_kept n ss s)
  where
    by : (b : Bool) → (if b then Some t else find (λ (s : Subscription). s.number == n) ss) ≡ Some s →
        (find (λ (s : Subscription). s.number == n) ss ≡ Some s →
        find (λ (s : KeptSub). s.number == n) (map kept_sub ss) ≡ Some (kept_sub s)) →
        (if b then Some (kept_sub t) else find (λ (s : KeptSub). s.number == n) (map kept_sub ss)) ≡ Some (kept_sub s)
    by true is rest = ap (λ x. Some (kept_sub x)) (same_Some t s is)
    by false is rest = rest is

pub batch_suits : (k : KeptSession) (m : PlainSession) (groups : List Group) (i : Issuing) (entries : List Entry) →
    Keeps k m groups → InOrder k.tracks → m.window ≤ WIDEST_WINDOW →
    suits m (session.Issued (plain_issues i entries)) ≡ true → IsKeptBatch m i.subscription i.batch entries →
    IsNumbered m i.batch → kept_suits k (Issued i) ≡ true
batch_suits k m groups i entries h order narrow fit is numbered =
    and_from (is_issuing i.batch (sub_numbered i.subscription k))
    (nat_lt i.batch.from i.batch.to && goes_on k.tracks i.batch)
    (ap (is_issuing i.batch) found
    ∙ and_from is.subscription.live
    ((is.subscription.version == i.batch.version)
    && is_some (slice_get (kept_sweeps is.subscription.live is.subscription.sweeps) i.batch.shard)) alive
    (and_from (is.subscription.version == i.batch.version)
    (is_some (slice_get (kept_sweeps is.subscription.live is.subscription.sweeps) i.batch.shard))
    (eq-eqb is.subscription.version i.batch.version is.present)
    (ap (λ b. is_some (slice_get (kept_sweeps b is.subscription.sweeps) i.batch.shard)) alive
    ∙ sym (ap (has_sweep i.batch.shard) is.has_subscription) ∙ swept)))
    (and_from (nat_lt i.batch.from i.batch.to) (goes_on k.tracks i.batch) (lt-ltb i.batch.from i.batch.to numbered.some)
    (and_from (i.batch.first1 == k.tracks.issued1 + 1)
    ((i.batch.first2 == k.tracks.issued2 + 1) && has_room_for k.tracks i.batch.count1 i.batch.count2)
    (eq-eqb i.batch.first1 (k.tracks.issued1 + 1) (numbered.first1 ∙ ap (λ n. n + 1) (sym h.tracks.issued1)))
    (and_from (i.batch.first2 == k.tracks.issued2 + 1) (has_room_for k.tracks i.batch.count1 i.batch.count2)
    (eq-eqb i.batch.first2 (k.tracks.issued2 + 1) (numbered.first2 ∙ ap (λ n. n + 1) (sym h.tracks.issued2)))
    (room_is_for_both k.tracks m.window i.batch.count1 i.batch.count2 order narrow
    (let P : ℕ → Type 0 = λ n. i.batch.count1 + i.batch.count2 ≤ n in
    subst P (sym (room_agrees k.tracks m h.tracks)) numbered.room)))))
  where
    parts : (is_live m i.subscription ≡ true)
        × ((has_sweep i.batch.shard (subscription_numbered i.subscription m)
        && (nat_lt 0 (length entries)
        && (list_all (fits.is_entry_of m (plain_issues i entries)) entries && (ascend entries
        && ((go_on (issued1_of m) (numbers1 entries) && go_on (issued2_of m) (numbers2 entries))
        && (has_left (issued1_of m) (numbers1 entries) && has_left (issued2_of m) (numbers2 entries))))))) ≡ true)
    parts = and_parts (is_live m i.subscription)
        (has_sweep i.batch.shard (subscription_numbered i.subscription m)
        && (nat_lt 0 (length entries)
        && (list_all (fits.is_entry_of m (plain_issues i entries)) entries && (ascend entries
        && ((go_on (issued1_of m) (numbers1 entries) && go_on (issued2_of m) (numbers2 entries))
        && (has_left (issued1_of m) (numbers1 entries) && has_left (issued2_of m) (numbers2 entries))))))) fit

    swept : has_sweep i.batch.shard (subscription_numbered i.subscription m) ≡ true
    swept =
        (and_parts (has_sweep i.batch.shard (subscription_numbered i.subscription m))
        (nat_lt 0 (length entries) && (list_all (fits.is_entry_of m (plain_issues i entries)) entries && (ascend entries
        && ((go_on (issued1_of m) (numbers1 entries) && go_on (issued2_of m) (numbers2 entries))
        && (has_left (issued1_of m) (numbers1 entries) && has_left (issued2_of m) (numbers2 entries)))))) parts.1).0

    alive : is.subscription.live ≡ true
    alive =
        let live = live_found (subscription_numbered i.subscription m) parts.0 in
        ap (λ (s : Subscription). s.live) (same_Some is.subscription live.0 (sym is.has_subscription ∙ live.1)) ∙ live.2

    found : sub_numbered i.subscription k ≡ Some (kept_sub is.subscription)
    found =
        ap (find (λ (s : KeptSub). s.number == i.subscription)) h.subs
        ∙ find_kept i.subscription (kept_subscriptions m) is.subscription
        (find_left (λ (s : Subscription). s.number == i.subscription)
        (keeps_subscription m) m.subscriptions is.subscription is.has_subscription
        (or_left is.subscription.live
        (list_any (λ (v : Version). v.subscription == is.subscription.number) (plain.kept_versions m)) alive))

-- ---- the sessions of a worker

found_suits : (kept : KeptSessions) (plain : session_model.Sessions) (client : List ℕ) (i : Issuing)
    (entries : List Entry) → (o : Option KeptSession) (p : Option PlainSession) → AreAlike o p →
    ((k : KeptSession) (m : PlainSession) → o ≡ Some k → p ≡ Some m → IsReadyFor k m i entries) →
    fits.finds plain (session.Issued (plain_issues i entries)) p ≡ true → kept_finds kept (Issued i) o ≡ true
found_suits kept plain client i entries None None alike ready is = is
found_suits kept plain client i entries None (Some m) alike ready is = absurd alike
found_suits kept plain client i entries (Some k) None alike ready is = absurd alike
found_suits kept plain client i entries (Some k) (Some m) alike ready is =
    let r = ready k m refl refl in batch_suits k m alike.0 i entries alike.1 r.order r.narrow is r.batch r.numbered

pub batch_fits : (profile : Profile) (kept : KeptSessions) (plain : session_model.Sessions) (entries : List Entry)
    (client : List ℕ) (i : Issuing) → SessionsKeep kept plain →
    ((k : KeptSession) (m : PlainSession) → session_of client kept ≡ Some k →
    session_model.session_of client plain ≡ Some m → IsReadyFor k m i entries) →
    fits.change_fits profile plain (plain_change entries (record { client = client; effect = Issued i })) ≡ true →
    kept_fits profile kept (record { client = client; effect = Issued i }) ≡ true
batch_fits profile kept plain entries client i h ready is =
    let c : Change = record { client = client; effect = Issued i } in
    let parts =
    and_parts (fits.finds plain (session.Issued (plain_issues i entries)) (session_model.session_of client plain))
    (fits.are_within profile (act_one plain (plain_change entries c))) is in
    and_from (kept_finds kept (Issued i) (session_of client kept)) (kept_are_within profile (kept_acted c kept))
    (found_suits kept plain client i entries (session_of client kept) (session_model.session_of client plain)
    (found_alike client kept.list plain.list h.list) ready parts.0)
    (are_within_agree profile (kept_acted c kept) (act_one plain (plain_change entries c))
    (acted_keeps kept plain entries client (Issued i) h parts.0
    (λ m has. issued m has (session_of client kept) (session_model.session_of client plain) refl has
    (found_alike client kept.list plain.list h.list)))
    ∙ parts.1)
  where
    issued : (m : PlainSession) → session_model.session_of client plain ≡ Some m →
        (o : Option KeptSession) (p : Option PlainSession) → session_of client kept ≡ o → p ≡ Some m → AreAlike o p →
        IsKeptBatch m i.subscription i.batch entries
    issued m has None None at same alike = absurd (none-some m same)
    issued m has None (Some n) at same alike = absurd alike
    issued m has (Some k) None at same alike = absurd (none-some m same)
    issued m has (Some k) (Some n) at same alike = (ready k m at has).batch
