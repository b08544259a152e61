-- Each change but a batch leaves a kept session that keeps what it needs of the plain one.
use Rattle.std.proofs.Common.{◌≡◌, ◌⊎◌, inl, inr, ℕ, ◌+◌, ◌-◌, ◌≤◌, ◌<◌, Bool, true, false, ◌&&◌, ◌||◌, ◌==◌, nat_lt}
use Rattle.std.proofs.Common.{nat_le, if◌then◌else◌, List, [], ◌∷◌, ◌++◌, length, map, Option, true≢false, refl, sym}
use Rattle.std.proofs.Common.{ap, subst, ◌∙◌, arith}
use Rattle.std.specs.List.{list_any}
use Rattle.std.proofs.lemmas.Bool.{or_cases, or_left, eqb-true, ltb-true, leb-true, le-leb, and_parts}
use Rattle.std.proofs.lemmas.List.{map-append, length-append, append-nil, map-id}
use Rattle.std.proofs.lemmas.List.Folds.{list_any-append}
use Rattle.session_model.specs.declared.entry.Kind.{Kind}
use Rattle.session_model.specs.declared.entry.Kind.TheVariants.{Track1, Track2, Zero, Silent}
use Rattle.session_model.specs.declared.entry.Version.{Version}
use Rattle.session_model.specs.PlainSession.{PlainSession, Subscription, next_subscription, next_version, issued1_of}
use Rattle.session_model.specs.PlainSession.{issued2_of, is_done}
use Rattle.session_model.specs.Unfinished as plain
use Rattle.session_model.specs.Unfinished.{is_finished, kind_is_finished, kept_subscriptions}
use Rattle.session_model.specs.Change.{Subscribes, Replaces, Passes}
use Rattle.session_model.specs.Change as session
use Rattle.session_model.specs.Acting.{numbers_from, changed_session, subscribed_session, passed_session}
use Rattle.session_model.specs.FitsSession.{suits, is_between, is_next_version, greatest_of_four}
use Rattle.session_model.specs.Orders.{HasNumbers}
use Rattle.session_model.specs.laws.OrderLaws.{acting_in_order}
use Rattle.seq_tracks.specs.PlainTracks.{PlainTracks}
use Rattle.seq_tracks.specs.StandFor.{TracksStandFor}
use Rattle.seq_tracks.specs.StandLaws.{stands_changed}
use Rattle.session_state.specs.KeptSession.{KeptSession}
use Rattle.session_state.specs.KeptActing.{subscribed_kept, version_of, new_sub}
use Rattle.session_refinement.specs.StandFor.{Keeps, Group, kept_sub}
use Rattle.session_refinement.specs.laws.ListLaws.{Each, each_of, each_weaker, numbers_below, numbers_pushed}
use Rattle.session_refinement.specs.laws.BatchLaws.{StaysFinished}
use Rattle.session_refinement.specs.laws.KeepLaws.{keeps_version, keeps_subscription}
use Rattle.session_refinement.specs.laws.GoneLaws.{version_goes, subscription_goes}
use Rattle.session_refinement.specs.laws.ChangeLaws.{IsChange}

-- ---- changes of fields and tracks alone

-- a later session that differs in its expiry, its parting and its marks, and where what was finished still is
pub record Rests (m later : PlainSession) : Type 0 where
  pub client : later.client ≡ m.client
  pub incarnation : later.incarnation ≡ m.incarnation
  pub window : later.window ≡ m.window
  pub subscriptions : later.subscriptions ≡ m.subscriptions
  pub versions : later.versions ≡ m.versions
  pub issued : later.issued ≡ m.issued
  pub stays : StaysFinished m later

rests_versions : (m later : PlainSession) → Rests m later → (v : Version) → keeps_version later v ≡ true →
    keeps_version m v ≡ true
rests_versions m later r v =
    version_goes m later [] v (r.issued ∙ sym (append-nil m.issued)) r.stays
    (λ there. or_left (plain.is_present m v) (plain.is_used m v)
    (ap (list_any (λ (s : Subscription). s.live && (s.version == v.number))) (sym r.subscriptions) ∙ there))
    (λ none. absurd (true≢false (sym none)))

rests_subscriptions : (m later : PlainSession) → Rests m later → (s : Subscription) →
    keeps_subscription later s ≡ true → keeps_subscription m s ≡ true
rests_subscriptions m later r s =
    subscription_goes m later [] s s (r.versions ∙ sym (append-nil m.versions))
    (each_of (λ v. keeps_version later v ≡ true → keeps_version m v ≡ true) (rests_versions m later r) m.versions) refl
    (λ live. or_left s.live (list_any (λ (v : Version). v.subscription == s.number) (plain.kept_versions m)) live)
    (λ none. absurd (true≢false (sym none)))

same_list : (xs : List Subscription) → map (λ (s : Subscription). s) xs ++ [] ≡ xs
same_list xs = append-nil (map (λ (s : Subscription). s) xs) ∙ map-id xs

pub rests_change : (k : KeptSession) (m later : PlainSession) (groups : List Group) → Keeps k m groups → Rests m later →
    (expiry : ℕ) (parted : Option ℕ) (u : PlainTracks) → expiry ≡ later.expiry →
    parted ≡ later.parted → TracksStandFor u later → HasNumbers later →
    IsChange k (record k { expiry = expiry; parted = parted; tracks = u }) m later []
rests_change k m later groups h r expiry parted u same_expiry same_parted tracks numbers =
    record {
      changed = λ s. s;
      new_subscriptions = [];
      new_versions = [];
      same_number = λ s. refl;
      same_filter = λ s. refl;
      subscriptions = r.subscriptions ∙ sym (same_list m.subscriptions);
      versions = r.versions ∙ sym (append-nil m.versions);
      issued = r.issued ∙ sym (append-nil m.issued);
      stays = r.stays;
      versions_go = each_of (λ v. keeps_version later v ≡ true → keeps_version m v ≡ true)
          (rests_versions m later r) m.versions;
      subscriptions_go = each_of (λ s. keeps_subscription later s ≡ true → keeps_subscription m s ≡ true)
          (rests_subscriptions m later r) m.subscriptions;
      subs = h.subs ∙ ap (map kept_sub) (sym (same_list (kept_subscriptions m)));
      kept_versions = sym (append-nil k.versions);
      batches = sym (append-nil k.batches);
      are_groups = tt;
      client = h.client ∙ sym r.client;
      incarnation = h.incarnation ∙ sym r.incarnation;
      window = h.window ∙ sym r.window;
      expiry = same_expiry;
      parted = same_parted;
      next_sub = h.next_sub ∙ ap (λ ss. length ss + 1) (sym r.subscriptions);
      next_version = h.next_version ∙ ap (λ vs. length vs + 1) (sym r.versions);
      tracks = tracks;
      numbers = numbers;
      numbered = record {
        subscriptions =
            ap (map (λ (s : Subscription). s.number)) r.subscriptions ∙ h.numbered.subscriptions
            ∙ ap (λ ss. numbers_from 1 (length ss)) (sym r.subscriptions);
        versions = ap (map (λ (v : Version). v.number)) r.versions ∙ h.numbered.versions
            ∙ ap (λ vs. numbers_from 1 (length vs)) (sym r.versions);
      };
    }

-- ---- what each such change finishes

pub stays_same : (m later : PlainSession) → m.acked ≤ later.acked →
    ((n : ℕ) → is_done m n ≡ true → is_done later n ≡ true) → StaysFinished m later
stays_same m later more done e = by e.kind
  where
    by : (k : Kind) → kind_is_finished m k ≡ true → kind_is_finished later k ≡ true
    by (Track1 n) is = let below = leb-true n m.acked is in le-leb n later.acked (omega arith)
    by (Track2 n) is = done n is
    by Zero is = refl
    by Silent is = refl

between_low : (mark last number : ℕ) → is_between mark last number ≡ true → mark < number
between_low mark last number is = ltb-true mark number (and_parts (nat_lt mark number) (nat_le number last) is).0

more_is_done : (m : PlainSession) (more : List ℕ) (n : ℕ) → is_done m n ≡ true →
    list_any (λ (d : ℕ). d == n) (m.done ++ more) ≡ true
more_is_done m more n is = list_any-append (λ (d : ℕ). d == n) m.done more
    ∙ or_left (list_any (λ (d : ℕ). d == n) m.done) (list_any (λ (d : ℕ). d == n) more) is

pub rests_acked : (m : PlainSession) (number : ℕ) → m.acked ≤ number → Rests m (record m { acked = number })
rests_acked m number more =
    record {
      client = refl;
      incarnation = refl;
      window = refl;
      subscriptions = refl;
      versions = refl;
      issued = refl;
      stays = stays_same m (record m { acked = number }) more (λ n is. is);
    }

pub rests_done : (m : PlainSession) (received : ℕ) (more : List ℕ) →
    Rests m (record m { received = received; done = m.done ++ more })
rests_done m received more =
    record {
      client = refl;
      incarnation = refl;
      window = refl;
      subscriptions = refl;
      versions = refl;
      issued = refl;
      stays = stays_same m (record m { received = received; done = m.done ++ more }) (omega arith)
          (more_is_done m more);
    }

pub rests_elsewhere : (m : PlainSession) (expiry : ℕ) (parted : Option ℕ) →
    Rests m (record m { expiry = expiry; parted = parted })
rests_elsewhere m expiry parted =
    record {
      client = refl;
      incarnation = refl;
      window = refl;
      subscriptions = refl;
      versions = refl;
      issued = refl;
      stays = stays_same m (record m { expiry = expiry; parted = parted }) (omega arith) (λ n is. is);
    }

pub rests_passed : (m : PlainSession) (p : Passes) → suits m (session.Passed p) ≡ true → Rests m (passed_session p m)
rests_passed m p fit =
    by (or_cases ((p.track == 1) && is_between m.acked (issued1_of m) p.number)
    ((p.track == 2) && is_between m.received (issued2_of m) p.number) fit)
  where
    by : (((p.track == 1) && is_between m.acked (issued1_of m) p.number) ≡ true)
        ⊎ (((p.track == 2) && is_between m.received (issued2_of m) p.number) ≡ true) → Rests m (passed_session p m)
    by (inl one) =
        let parts = and_parts (p.track == 1) (is_between m.acked (issued1_of m) p.number) one in
        let above = between_low m.acked (issued1_of m) p.number parts.1 in
        subst
        (λ b. Rests m
        (if b then record m { acked = p.number }
        else record m
        { received = p.number; done = m.done ++ numbers_from (m.received + 1) (p.number - m.received) }))
        (sym parts.0) (rests_acked m p.number (omega arith))
    by (inr two) =
        let parts = and_parts (p.track == 2) (is_between m.received (issued2_of m) p.number) two in
        let other : (p.track == 1) ≡ false = ap (λ t. t == 1) (eqb-true p.track 2 parts.0) in
        subst
        (λ b. Rests m
        (if b then record m { acked = p.number }
        else record m
        { received = p.number; done = m.done ++ numbers_from (m.received + 1) (p.number - m.received) }))
        (sym other) (rests_done m p.number (numbers_from (m.received + 1) (p.number - m.received)))

pub rests_received : (m : PlainSession) (number : ℕ) → Rests m (changed_session (session.Received number) m)
rests_received m number = rests_done m number (numbers_from (m.received + 1) (number - (m.received + 1)))

pub rests_acked_fit : (m : PlainSession) (number : ℕ) → suits m (session.Acked number) ≡ true →
    Rests m (changed_session (session.Acked number) m)
rests_acked_fit m number fit = let above =
    between_low m.acked (issued1_of m) number fit in rests_acked m number (omega arith)

-- ---- a new subscription

abbrev pub new_subscription : Subscribes → Subscription
new_subscription s =
    record {
      number = s.subscription;
      live = true;
      version = s.version;
      filter = s.filter;
      starts =
          map (λ w. w.position) s.sweeps;
      sweeps = s.sweeps;
    }

-- no element with a number below has this one
pub not_number : (low high : ℕ) → low < high → (high == low) ≡ true → ⊥
not_number low high less is = let same = eqb-true high low is in omega arith

pub or_nothing : (b : Bool) → (b || false) ≡ true → b ≡ true
or_nothing true is = refl
or_nothing false is = is

subscribed_versions : (m : PlainSession) (s : Subscribes) → s.version ≡ next_version m → (v : Version) →
    v.number < next_version m →
    keeps_version (subscribed_session s m) v ≡ true → keeps_version m v ≡ true
subscribed_versions m s is v low =
    version_goes m (subscribed_session s m) [] v (sym (append-nil m.issued))
    (stays_same m (subscribed_session s m) (omega arith) (λ n done. done)) present
    (λ none. absurd (true≢false (sym none)))
  where
    present : plain.is_present (subscribed_session s m) v ≡ true → keeps_version m v ≡ true
    present there =
        by (or_cases (list_any (λ (t : Subscription). t.live && (t.version == v.number)) m.subscriptions)
        ((s.version == v.number) || false)
        (sym (list_any-append (λ (t : Subscription). t.live && (t.version == v.number)) m.subscriptions
        (new_subscription s ∷ [])) ∙ there))
      where
        by : (plain.is_present m v ≡ true) ⊎ (((s.version == v.number) || false) ≡ true) → keeps_version m v ≡ true
        by (inl old) = or_left (plain.is_present m v) (plain.is_used m v) old
        by (inr new) = let same = eqb-true s.version v.number (or_nothing (s.version == v.number) new) in
            absurd (omega arith)

pub subscribed_change : (k : KeptSession) (m : PlainSession) (groups : List Group) (s : Subscribes) → Keeps k m groups →
    suits m (session.Subscribed s) ≡ true →
    IsChange k (subscribed_kept s k) m (subscribed_session s m) []
subscribed_change k m groups s h fit =
    record {
      changed = λ s. s;
      new_subscriptions = new_subscription s ∷ [];
      new_versions = version_of s ∷ [];
      same_number = λ s. refl;
      same_filter = λ s. refl;
      subscriptions = ap (λ l. l ++ new_subscription s ∷ []) (sym (map-id m.subscriptions));
      versions = refl;
      issued = sym (append-nil m.issued);
      stays = stays_same m (subscribed_session s m) (omega arith) (λ n done. done);
      versions_go = go;
      subscriptions_go =
          each_weaker (λ (t : Subscription). (1 ≤ t.number) × (t.number < 1 + length m.subscriptions))
          (λ t. keeps_subscription (subscribed_session s m) t ≡ true → keeps_subscription m t ≡ true)
          (λ t low.
          subscription_goes m (subscribed_session s m) (version_of s ∷ []) t t refl go refl
          (λ live. or_left t.live (list_any (λ (v : Version). v.subscription == t.number) (plain.kept_versions m)) live)
          (λ new. let below = low.1 in let named =
          next.0 in
          absurd (not_number t.number s.subscription (omega arith) (or_nothing (s.subscription == t.number) new))))
          m.subscriptions (numbers_below (λ (t : Subscription). t.number) 1 m.subscriptions h.numbered.subscriptions);
      subs =
          ap (λ l. l ++ new_sub s ∷ []) h.subs
          ∙ sym (map-append kept_sub (kept_subscriptions m) (new_subscription s ∷ []))
          ∙ ap (λ l. map kept_sub (l ++ new_subscription s ∷ [])) (sym (map-id (kept_subscriptions m)));
      kept_versions = refl;
      batches = sym (append-nil k.batches);
      are_groups = tt;
      client = h.client;
      incarnation = h.incarnation;
      window = h.window;
      expiry = h.expiry;
      parted = h.parted;
      next_sub = ap (λ n. n + 1) (next.0 ∙ sym (length-append m.subscriptions (new_subscription s ∷ [])));
      next_version = ap (λ n. n + 1) (next.1 ∙ sym (length-append m.versions (version_of s ∷ [])));
      tracks = stands_changed k.tracks m (session.Subscribed s) h.tracks h.numbers fit;
      numbers = acting_in_order m (session.Subscribed s) fit h.numbers;
      numbered = record {
        subscriptions = numbers_pushed (λ (t : Subscription). t.number) m.subscriptions
            (new_subscription s) h.numbered.subscriptions next.0;
        versions = numbers_pushed (λ (v : Version). v.number) m.versions (version_of s) h.numbered.versions next.1;
      };
    }
  where
    next : (s.subscription ≡ next_subscription m) × (s.version ≡ next_version m)
    next =
        let one = and_parts (s.subscription == next_subscription m)
        (nat_lt s.subscription greatest_of_four && is_next_version m s.version) fit in
        let two = and_parts (nat_lt s.subscription greatest_of_four) (is_next_version m s.version) one.1 in
        let three = and_parts (s.version == next_version m) (nat_lt s.version greatest_of_four) two.1 in
        (eqb-true s.subscription (next_subscription m) one.0, eqb-true s.version (next_version m) three.0)

    go : Each (λ v. keeps_version (subscribed_session s m) v ≡ true → keeps_version m v ≡ true) m.versions
    go =
        each_weaker (λ (v : Version). (1 ≤ v.number) × (v.number < 1 + length m.versions))
        (λ v. keeps_version (subscribed_session s m) v ≡ true → keeps_version m v ≡ true)
        (λ v low. let below = low.1 in subscribed_versions m s next.1 v (omega arith))
        m.versions (numbers_below (λ (v : Version). v.number) 1 m.versions h.numbered.versions)
