-- A batch that is issued leaves a kept session that keeps what it needs of the plain one.
use Rattle.std.proofs.Common.{◌≡◌, ◌⊎◌, inl, inr, ℕ, ◌+◌, Bool, true, false, ◌&&◌, ◌||◌, ◌==◌, nat_lt, if◌then◌else◌}
use Rattle.std.proofs.Common.{List, [], ◌∷◌, ◌++◌, length, map, find, slice_set, Some, true≢false, refl, sym, ap, subst}
use Rattle.std.proofs.Common.{◌∙◌, arith}
use Rattle.std.specs.List.{list_any, list_all}
use Rattle.std.proofs.lemmas.Bool.{or_cases, or_left, or_right, eqb-true, eq-eqb, and_parts, and_from}
use Rattle.std.proofs.lemmas.List.{append-nil}
use Rattle.std.proofs.lemmas.Option.{none-some, same_Some}
use Rattle.session_model.specs.declared.entry.Entry.{Entry}
use Rattle.session_model.specs.declared.entry.Version.{Version}
use Rattle.session_model.specs.Entry.{numbers1, numbers2}
use Rattle.session_model.specs.PlainSession.{PlainSession, Subscription, issued1_of, issued2_of, subscription_numbered}
use Rattle.session_model.specs.Unfinished as plain
use Rattle.session_model.specs.Unfinished.{kept_subscriptions}
use Rattle.session_model.specs.Change.{Issues}
use Rattle.session_model.specs.Change as session
use Rattle.session_model.specs.Acting.{issued_session}
use Rattle.session_model.specs.FitsSession as fits
use Rattle.session_model.specs.FitsSession.{suits, is_live, has_sweep, go_on, ascend, has_left}
use Rattle.session_model.specs.laws.OrderLaws.{acting_in_order}
use Rattle.seq_tracks.specs.ListLaws.{length-from}
use Rattle.seq_tracks.specs.Changed.{issued_tracks}
use Rattle.seq_tracks.specs.StandFor.{TracksStandFor}
use Rattle.seq_tracks.specs.StandLaws.{stands_changed}
use Rattle.session_state.specs.declared.batch.Batch.{Batch}
use Rattle.session_state.specs.declared.change.Issued.{Issued as Issuing}
use Rattle.session_state.specs.KeptSub.{KeptSub}
use Rattle.session_state.specs.KeptSession.{KeptSession}
use Rattle.session_state.specs.KeptActing.{on_sub, issued_kept}
use Rattle.session_refinement.specs.StandFor.{Keeps, Group, is_entry_from, kept_sub, kept_sweeps}
use Rattle.session_refinement.specs.Issuing.{IsKeptBatch}
use Rattle.session_refinement.specs.laws.ListLaws.{Each, each_of}
use Rattle.session_refinement.specs.laws.BatchLaws.{entry_version}
use Rattle.session_refinement.specs.laws.KeepLaws.{keeps_version, keeps_subscription}
use Rattle.session_refinement.specs.laws.GoneLaws.{version_goes, subscription_goes}
use Rattle.session_refinement.specs.laws.ChangeLaws.{IsChange, find_changed}
use Rattle.session_refinement.specs.laws.EffectLaws.{stays_same}
use Rattle.session_refinement.specs.laws.OneSubLaws.{changed_at, on_is_map, changed_leaves, kept_changed_at}
use Rattle.session_refinement.specs.laws.OneSubLaws.{numbers_changed, length_changed, present_before, live_found}

abbrev pub plain_issues : Issuing → List Entry → Issues
plain_issues i entries =
    record { subscription = i.subscription; shard = i.batch.shard; entries = entries; sweep = i.sweep }

abbrev pub moved : Issuing → Subscription → Subscription
moved i s = record s { sweeps = slice_set s.sweeps i.batch.shard i.sweep }

-- an ended one has no sweeps to set
kept_moved : (i : Issuing) (s : Subscription) →
    (record (kept_sub s) { sweeps = slice_set (kept_sub s).sweeps i.batch.shard i.sweep }) ≡ kept_sub (moved i s)
kept_moved i s = ap (λ sweeps. record (kept_sub s) { sweeps = sweeps }) (by s.live)
  where
    by : (b : Bool) → slice_set (kept_sweeps b s.sweeps) i.batch.shard i.sweep
        ≡ kept_sweeps b (slice_set s.sweeps i.batch.shard i.sweep)
    by true = refl
    by false = refl

-- what is found passes every test that it passes
any_found : {X : Type 0} (p q : X → Bool) (xs : List X) (x : X) → find p xs ≡ Some x → q x ≡ true → list_any q xs ≡ true
any_found p q [] x is passes = absurd (none-some x is)
any_found p q (y ∷ xs) x is passes = by (p y) is (any_found p q xs x)
  where
    by : (b : Bool) → (if b then Some y else find p xs) ≡ Some x →
        (find p xs ≡ Some x → q x ≡ true → list_any q xs ≡ true) → (q y || list_any q xs) ≡ true
    by true is rest = or_left (q y) (list_any q xs) (ap q (same_Some y x is) ∙ passes)
    by false is rest = or_right (q y) (list_any q xs) (rest is passes)

-- entries of one version have no other
of_version : (number version : ℕ) (b : Batch) (es : List Entry) → list_all (is_entry_from number b) es ≡ true →
    list_any (λ (e : Entry). e.version == version) es ≡ true → b.version ≡ version
of_version number version b [] all found = absurd (true≢false (sym found))
of_version number version b (e ∷ es) all found =
    by (or_cases (e.version == version) (list_any (λ (e : Entry). e.version == version) es) found)
    (of_version number version b es parts.1)
  where
    parts : (is_entry_from number b e ≡ true) × (list_all (is_entry_from number b) es ≡ true)
    parts = and_parts (is_entry_from number b e) (list_all (is_entry_from number b) es) all

    by : ((e.version == version) ≡ true) ⊎ (list_any (λ (e : Entry). e.version == version) es ≡ true) →
        (list_any (λ (e : Entry). e.version == version) es ≡ true → b.version ≡ version) → b.version ≡ version
    by (inl here) rest = sym (entry_version number b e parts.0) ∙ eqb-true e.version version here
    by (inr there) rest = rest there

issued_versions : (m : PlainSession) (i : Issuing) (entries : List Entry) →
    IsKeptBatch m i.subscription i.batch entries → is_live m i.subscription ≡ true → (v : Version) →
    keeps_version (issued_session (plain_issues i entries) m) v ≡ true → keeps_version m v ≡ true
issued_versions m i entries is live v =
    version_goes m (issued_session (plain_issues i entries) m) entries v refl
    (stays_same m (issued_session (plain_issues i entries) m) (omega arith) (λ n done. done))
    (λ there. or_left (plain.is_present m v) (plain.is_used m v)
    (present_before i.subscription (moved i) v.number (λ s is. is) m.subscriptions there))
    (λ new. or_left (plain.is_present m v) (plain.is_used m v)
    (any_found (λ (s : Subscription). s.number == i.subscription)
    (λ (s : Subscription). s.live && (s.version == v.number)) m.subscriptions is.subscription is.has_subscription
    (and_from is.subscription.live (is.subscription.version == v.number) alive
    (eq-eqb is.subscription.version v.number
    (is.present ∙ of_version i.subscription v.number i.batch entries is.entries_are new)))))
  where
    alive : is.subscription.live ≡ true
    alive =
        let found = live_found (subscription_numbered i.subscription m) live in
        ap (λ (s : Subscription). s.live) (same_Some is.subscription found.0 (sym is.has_subscription ∙ found.1))
        ∙ found.2

pub issued_change : (k : KeptSession) (m : PlainSession) (groups : List Group) (i : Issuing) (entries : List Entry) →
    Keeps k m groups → suits m (session.Issued (plain_issues i entries)) ≡ true →
    IsKeptBatch m i.subscription i.batch entries →
    IsChange k (issued_kept i k) m (issued_session (plain_issues i entries) m)
    (record { batch = i.batch; entries = entries } ∷ [])
issued_change k m groups i entries h fit is =
    record {
      changed = changed_at i.subscription (moved i);
      new_subscriptions = [];
      new_versions = [];
      same_number = changed_leaves (λ (s : Subscription). s.number) i.subscription (moved i) (λ s. refl);
      same_filter = changed_leaves (λ (s : Subscription). s.filter) i.subscription (moved i) (λ s. refl);
      subscriptions = subscriptions;
      versions = sym (append-nil m.versions);
      issued = ap (λ es. m.issued ++ es) (sym (append-nil entries));
      stays = stays_same m (issued_session (plain_issues i entries) m) (omega arith) (λ n done. done);
      versions_go = go;
      subscriptions_go =
          each_of
          (λ s. keeps_subscription (issued_session (plain_issues i entries) m)
          (changed_at i.subscription (moved i) s) ≡ true → keeps_subscription m s ≡ true)
          (λ s.
          subscription_goes m (issued_session (plain_issues i entries) m) [] s (changed_at i.subscription (moved i) s)
          (sym (append-nil m.versions)) go
          (changed_leaves (λ (s : Subscription). s.number) i.subscription (moved i) (λ s. refl) s)
          (λ live.
          or_left s.live (list_any (λ (v : Version). v.subscription == s.number) (plain.kept_versions m))
          (sym (changed_leaves (λ (s : Subscription). s.live) i.subscription (moved i) (λ s. refl) s) ∙ live))
          (λ none. absurd (true≢false (sym none))))
          m.subscriptions;
      subs =
          ap (on_sub i.subscription (λ (s : KeptSub). record s { sweeps = slice_set s.sweeps i.batch.shard i.sweep }))
          h.subs
          ∙ kept_changed_at i.subscription (moved i)
          (λ (s : KeptSub). record s { sweeps = slice_set s.sweeps i.batch.shard i.sweep }) (kept_moved i)
          (kept_subscriptions m)
          ∙ ap (map kept_sub) (sym (append-nil (map (changed_at i.subscription (moved i)) (kept_subscriptions m))));
      kept_versions = sym (append-nil k.versions);
      batches = refl;
      are_groups = (
        record {
          version = is.version;
          subscription = changed_at i.subscription (moved i) is.subscription;
          has_version = is.has_version;
          has_subscription =
              ap (find (λ (s : Subscription). s.number == is.version.subscription))
              (on_is_map i.subscription (moved i) m.subscriptions)
              ∙ find_changed (λ (s : Subscription). s.number == is.version.subscription)
              (changed_at i.subscription (moved i))
              (λ s. ap (λ n. n == is.version.subscription)
              (changed_leaves (λ (s : Subscription). s.number) i.subscription (moved i) (λ s. refl) s))
              m.subscriptions is.subscription
              (ap (λ n. subscription_numbered n m) is.same_subscription ∙ is.has_subscription);
          entries = ap (λ n. list_all (is_entry_from n i.batch) entries) is.same_subscription ∙ is.entries_are;
          track1 = is.track1;
          track2 = is.track2;
        },
        tt,
      );
      client = h.client;
      incarnation = h.incarnation;
      window = h.window;
      expiry = h.expiry;
      parted = h.parted;
      next_sub = h.next_sub ∙ ap (λ n. n + 1) (sym (length_changed i.subscription (moved i) m.subscriptions));
      next_version = h.next_version;
      tracks =
          subst
          (λ n. TracksStandFor (issued_tracks n i.batch.count2 k.tracks)
          (issued_session (plain_issues i entries) m))
          (ap length is.track1 ∙ length-from i.batch.first1 i.batch.count1)
          (subst
          (λ n. TracksStandFor (issued_tracks (length (numbers1 entries)) n k.tracks)
          (issued_session (plain_issues i entries) m))
          (ap length is.track2 ∙ length-from i.batch.first2 i.batch.count2)
          (stands_changed k.tracks m (session.Issued (plain_issues i entries)) h.tracks h.numbers fit));
      numbers = acting_in_order m (session.Issued (plain_issues i entries)) fit h.numbers;
      numbered =
          record {
            subscriptions = numbers_changed i.subscription (moved i)
                (λ s. refl) m.subscriptions h.numbered.subscriptions;
            versions = h.numbered.versions;
          };
    }
  where
    live : is_live m i.subscription ≡ true
    live =
        let b = plain_issues i entries in
        (and_parts (is_live m i.subscription)
        (has_sweep b.shard (subscription_numbered i.subscription m)
        && (nat_lt 0 (length entries) && (list_all (fits.is_entry_of m b) entries && (ascend entries
        && ((go_on (issued1_of m) (numbers1 entries) && go_on (issued2_of m) (numbers2 entries))
        && (has_left (issued1_of m) (numbers1 entries) && has_left (issued2_of m) (numbers2 entries))))))) fit).0

    go : Each (λ v. keeps_version (issued_session (plain_issues i entries) m) v ≡ true → keeps_version m v ≡ true)
        m.versions
    go = each_of (λ v. keeps_version (issued_session (plain_issues i entries) m) v ≡ true → keeps_version m v ≡ true)
        (issued_versions m i entries is live) m.versions

    subscriptions : (issued_session (plain_issues i entries) m).subscriptions
        ≡ map (changed_at i.subscription (moved i)) m.subscriptions ++ []
    subscriptions = on_is_map i.subscription (moved i) m.subscriptions
        ∙ sym (append-nil (map (changed_at i.subscription (moved i)) m.subscriptions))
