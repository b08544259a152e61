-- Changes of one subscription: another version, and its end.
use Rattle.std.proofs.Common.{◌≡◌, ◌⊎◌, inl, inr, ℕ, ◌+◌, ◌≤◌, ◌<◌, Bool, true, false, ◌&&◌, ◌||◌, ◌==◌, nat_lt, List}
use Rattle.std.proofs.Common.{[], ◌∷◌, length, map, Option, Some, None, true≢false, refl, sym, ap, ◌∙◌, arith}
use Rattle.std.specs.List.{list_any}
use Rattle.std.proofs.lemmas.Bool.{or_cases, or_left, or_right, eqb-true, eq-eqb, and_parts}
use Rattle.std.proofs.lemmas.List.{length-append, length-map, append-nil}
use Rattle.session_model.specs.declared.entry.Version.{Version}
use Rattle.session_model.specs.PlainSession.{PlainSession, Subscription, next_version, subscription_numbered}
use Rattle.session_model.specs.Unfinished as plain
use Rattle.session_model.specs.Unfinished.{kept_subscriptions}
use Rattle.session_model.specs.Change.{Replaces}
use Rattle.session_model.specs.Change as session
use Rattle.session_model.specs.Acting.{changed_if, numbers_from, on_subscription, replaced_session}
use Rattle.session_model.specs.Acting.{unsubscribed_session}
use Rattle.session_model.specs.FitsSession.{suits, if_live, is_live, is_next_version, greatest_of_four}
use Rattle.session_model.specs.laws.OrderLaws.{acting_in_order}
use Rattle.seq_tracks.specs.StandLaws.{stands_changed}
use Rattle.session_state.specs.declared.change.Replaced.{Replaced as Replacing}
use Rattle.session_state.specs.KeptSub.{KeptSub}
use Rattle.session_state.specs.KeptSession.{KeptSession}
use Rattle.session_state.specs.KeptActing.{on_sub, replaced_kept, unsubscribed_kept, next_version_of}
use Rattle.session_refinement.specs.StandFor.{Keeps, Group, AreNumbered, kept_sub}
use Rattle.session_refinement.specs.laws.ListLaws.{Each, each_of, each_weaker, numbers_below, numbers_pushed}
use Rattle.session_refinement.specs.laws.ListLaws.{found_alone}
use Rattle.session_refinement.specs.laws.KeepLaws.{keeps_version, keeps_subscription}
use Rattle.session_refinement.specs.laws.GoneLaws.{version_goes, subscription_goes}
use Rattle.session_refinement.specs.laws.ChangeLaws.{IsChange}
use Rattle.session_refinement.specs.laws.EffectLaws.{stays_same, not_number, or_nothing}

-- ---- one of them

-- the one with a number is changed
abbrev pub changed_at : ℕ → (Subscription → Subscription) → Subscription → Subscription
changed_at number f s = changed_if (s.number == number) f s

pub on_is_map : (number : ℕ) (f : Subscription → Subscription) (ss : List Subscription) →
    on_subscription number f ss ≡ map (changed_at number f) ss
on_is_map number f [] = refl
on_is_map number f (s ∷ ss) = ap (λ l. changed_at number f s ∷ l) (on_is_map number f ss)

-- what a change leaves it leaves whether it is made or not
pub changed_leaves : {A : Type 0} (h : Subscription → A) (number : ℕ) (f : Subscription → Subscription) →
    ((s : Subscription) → h (f s) ≡ h s) → (s : Subscription) → h (changed_at number f s) ≡ h s
changed_leaves h number f same s = by (s.number == number)
  where
    by : (b : Bool) → h (changed_if b f s) ≡ h s
    by true = same s
    by false = refl

-- the kept one is changed alike
pub kept_changed_at : (number : ℕ) (f : Subscription → Subscription) (g : KeptSub → KeptSub) →
    ((s : Subscription) → g (kept_sub s) ≡ kept_sub (f s)) → (ss : List Subscription) →
    on_sub number g (map kept_sub ss) ≡ map kept_sub (map (changed_at number f) ss)
kept_changed_at number f g same [] = refl
kept_changed_at number f g same (s ∷ ss) =
    ap (λ x. x ∷ on_sub number g (map kept_sub ss)) (by (s.number == number))
    ∙ ap (λ l. kept_sub (changed_at number f s) ∷ l) (kept_changed_at number f g same ss)
  where
    by : (b : Bool) → changed_if b g (kept_sub s) ≡ kept_sub (changed_if b f s)
    by true = same s
    by false = refl

pub numbers_changed : (number : ℕ) (f : Subscription → Subscription) → ((s : Subscription) → (f s).number ≡ s.number) →
    (ss : List Subscription) →
    map (λ (s : Subscription). s.number) ss ≡ numbers_from 1 (length ss) →
    map (λ (s : Subscription). s.number) (on_subscription number f ss)
    ≡ numbers_from 1 (length (on_subscription number f ss))
numbers_changed number f same ss e =
    ap (map (λ (s : Subscription). s.number)) (on_is_map number f ss)
    ∙ alike ss
    ∙ e
    ∙ ap (numbers_from 1) (sym (length-map ss (changed_at number f)))
    ∙ ap (λ l. numbers_from 1 (length l)) (sym (on_is_map number f ss))
  where
    alike : (ss : List Subscription) →
        map (λ (s : Subscription). s.number) (map (changed_at number f) ss) ≡ map (λ (s : Subscription). s.number) ss
    alike [] = refl
    alike (s ∷ ss) =
        ap (λ n. n ∷ map (λ (s : Subscription). s.number) (map (changed_at number f) ss))
        (changed_leaves (λ (s : Subscription). s.number) number f same s)
        ∙ ap (λ l. s.number ∷ l) (alike ss)

pub length_changed : (number : ℕ) (f : Subscription → Subscription) (ss : List Subscription) →
    length (on_subscription number f ss) ≡ length ss
length_changed number f ss = ap length (on_is_map number f ss) ∙ length-map ss (changed_at number f)

-- what is present afterwards was so before, or the change made it so
pub present_before : (number : ℕ) (f : Subscription → Subscription) (n : ℕ) →
    ((s : Subscription) → ((f s).live && ((f s).version == n)) ≡ true → (s.live && (s.version == n)) ≡ true) →
    (ss : List Subscription) →
    list_any (λ (s : Subscription). s.live && (s.version == n)) (on_subscription number f ss) ≡ true →
    list_any (λ (s : Subscription). s.live && (s.version == n)) ss ≡ true
present_before number f n so [] found = found
present_before number f n so (s ∷ ss) found =
    by (or_cases ((changed_at number f s).live && ((changed_at number f s).version == n))
    (list_any (λ (s : Subscription). s.live && (s.version == n)) (on_subscription number f ss)) found)
    (present_before number f n so ss)
  where
    at : (b : Bool) → ((changed_if b f s).live && ((changed_if b f s).version == n)) ≡ true →
        (s.live && (s.version == n)) ≡ true
    at true is = so s is
    at false is = is

    by : (((changed_at number f s).live && ((changed_at number f s).version == n)) ≡ true)
        ⊎ (list_any (λ (s : Subscription). s.live && (s.version == n)) (on_subscription number f ss) ≡ true) →
        (list_any (λ (s : Subscription). s.live && (s.version == n)) (on_subscription number f ss) ≡ true →
        list_any (λ (s : Subscription). s.live && (s.version == n)) ss ≡ true) →
        ((s.live && (s.version == n)) || list_any (λ (s : Subscription). s.live && (s.version == n)) ss) ≡ true
    by (inl here) rest = or_left (s.live && (s.version == n))
        (list_any (λ (s : Subscription). s.live && (s.version == n)) ss) (at (s.number == number) here)
    by (inr there) rest = or_right (s.live && (s.version == n))
        (list_any (λ (s : Subscription). s.live && (s.version == n)) ss) (rest there)

-- ---- the one with a number is live

pub live_found : (o : Option Subscription) → if_live o ≡ true → (s : Subscription) × (o ≡ Some s) × (s.live ≡ true)
live_found None is = absurd (true≢false (sym is))
live_found (Some s) is = (s, refl, is)

pub all_live : (m : PlainSession) (number : ℕ) → AreNumbered m → is_live m number ≡ true →
    Each (λ (s : Subscription). (s.number == number) ≡ true → s.live ≡ true) m.subscriptions
all_live m number numbered live =
    let found = live_found (subscription_numbered number m) live in
    each_weaker (λ (s : Subscription). (s.number == number) ≡ true → s ≡ found.0)
    (λ (s : Subscription). (s.number == number) ≡ true → s.live ≡ true)
    (λ s same is. ap (λ (t : Subscription). t.live) (same is) ∙ found.2)
    m.subscriptions
    (found_alone (λ (s : Subscription). s.number) 1 number m.subscriptions found.0 numbered.subscriptions found.1)

-- ---- an end

abbrev ended : Subscription → Subscription
ended s = record s { live = false }

unsubscribed_versions : (m : PlainSession) (number : ℕ) (v : Version) →
    keeps_version (unsubscribed_session number m) v ≡ true → keeps_version m v ≡ true
unsubscribed_versions m number v =
    version_goes m (unsubscribed_session number m) [] v (sym (append-nil m.issued))
    (stays_same m (unsubscribed_session number m) (omega arith) (λ n done. done))
    (λ there. or_left (plain.is_present m v) (plain.is_used m v)
    (present_before number ended v.number (λ s none. absurd (true≢false (sym none))) m.subscriptions there))
    (λ none. absurd (true≢false (sym none)))

pub unsubscribed_change : (k : KeptSession) (m : PlainSession) (groups : List Group) (number : ℕ) → Keeps k m groups →
    suits m (session.Unsubscribed number) ≡ true →
    IsChange k (unsubscribed_kept number k) m (unsubscribed_session number m) []
unsubscribed_change k m groups number h fit =
    record {
      changed = changed_at number ended;
      new_subscriptions = [];
      new_versions = [];
      same_number = changed_leaves (λ (s : Subscription). s.number) number ended (λ s. refl);
      same_filter = changed_leaves (λ (s : Subscription). s.filter) number ended (λ s. refl);
      subscriptions = on_is_map number ended m.subscriptions
          ∙ sym (append-nil (map (changed_at number ended) m.subscriptions));
      versions = sym (append-nil m.versions);
      issued = sym (append-nil m.issued);
      stays = stays_same m (unsubscribed_session number m) (omega arith) (λ n done. done);
      versions_go = go;
      subscriptions_go =
          each_of
          (λ s. keeps_subscription (unsubscribed_session number m) (changed_at number ended s) ≡ true →
          keeps_subscription m s ≡ true)
          (λ s.
          subscription_goes m (unsubscribed_session number m) [] s (changed_at number ended s)
          (sym (append-nil m.versions)) go
          (changed_leaves (λ (s : Subscription). s.number) number ended (λ s. refl) s)
          (λ live. or_left s.live (list_any (λ (v : Version). v.subscription == s.number) (plain.kept_versions m))
          (was_live s (s.number == number) live))
          (λ none. absurd (true≢false (sym none))))
          m.subscriptions;
      subs =
          ap (on_sub number (λ (s : KeptSub). record s { live = false; sweeps = [] })) h.subs
          ∙ kept_changed_at number ended (λ (s : KeptSub). record s { live = false; sweeps = [] }) (λ s. refl)
          (kept_subscriptions m)
          ∙ ap (map kept_sub) (sym (append-nil (map (changed_at number ended) (kept_subscriptions m))));
      kept_versions = sym (append-nil k.versions);
      batches = sym (append-nil k.batches);
      are_groups = tt;
      client = h.client;
      incarnation = h.incarnation;
      window = h.window;
      expiry = h.expiry;
      parted = h.parted;
      next_sub = h.next_sub ∙ ap (λ n. n + 1) (sym (length_changed number ended m.subscriptions));
      next_version = h.next_version;
      tracks = stands_changed k.tracks m (session.Unsubscribed number) h.tracks h.numbers fit;
      numbers = acting_in_order m (session.Unsubscribed number) fit h.numbers;
      numbered =
          record {
            subscriptions = numbers_changed number ended (λ s. refl) m.subscriptions h.numbered.subscriptions;
            versions = h.numbered.versions;
          };
    }
  where
    go : Each (λ v. keeps_version (unsubscribed_session number m) v ≡ true → keeps_version m v ≡ true) m.versions
    go = each_of (λ v. keeps_version (unsubscribed_session number m) v ≡ true → keeps_version m v ≡ true)
        (unsubscribed_versions m number) m.versions

    was_live : (s : Subscription) (b : Bool) → (changed_if b ended s).live ≡ true → s.live ≡ true
    was_live s true is = absurd (true≢false (sym is))
    was_live s false is = is

-- ---- another version

abbrev pub plain_replaces : Replacing → Replaces
plain_replaces r =
    record { subscription = r.subscription; version = r.version; options = r.options; identifier = r.identifier }

abbrev versioned : ℕ → Subscription → Subscription
versioned version s = record s { version = version }

replaced_versions : (m : PlainSession) (r : Replaces) (v : Version) → v.number < r.version →
    keeps_version (replaced_session r m) v ≡ true → keeps_version m v ≡ true
replaced_versions m r v low =
    version_goes m (replaced_session r m) [] v (sym (append-nil m.issued))
    (stays_same m (replaced_session r m) (omega arith) (λ n done. done))
    (λ there. or_left (plain.is_present m v) (plain.is_used m v)
    (present_before r.subscription (versioned r.version) v.number
    (λ s is. absurd (not_number v.number r.version low (and_parts s.live (r.version == v.number) is).1)) m.subscriptions
    there))
    (λ none. absurd (true≢false (sym none)))

pub replaced_change : (k : KeptSession) (m : PlainSession) (groups : List Group) (r : Replacing) → Keeps k m groups →
    suits m (session.Replaced (plain_replaces r)) ≡ true →
    IsChange k (replaced_kept r k) m (replaced_session (plain_replaces r) m) []
replaced_change k m groups r h fit =
    record {
      changed = changed_at r.subscription (versioned r.version);
      new_subscriptions = [];
      new_versions = next_version_of r ∷ [];
      same_number = changed_leaves (λ (s : Subscription). s.number) r.subscription (versioned r.version) (λ s. refl);
      same_filter = changed_leaves (λ (s : Subscription). s.filter) r.subscription (versioned r.version) (λ s. refl);
      subscriptions =
          on_is_map r.subscription (versioned r.version) m.subscriptions
          ∙ sym (append-nil (map (changed_at r.subscription (versioned r.version)) m.subscriptions));
      versions = refl;
      issued = sym (append-nil m.issued);
      stays = stays_same m (replaced_session (plain_replaces r) m) (omega arith) (λ n done. done);
      versions_go = go;
      subscriptions_go =
          each_weaker (λ (s : Subscription). (s.number == r.subscription) ≡ true → s.live ≡ true)
          (λ s. keeps_subscription (replaced_session (plain_replaces r) m)
          (changed_at r.subscription (versioned r.version) s) ≡ true → keeps_subscription m s ≡ true)
          (λ s alive.
          subscription_goes m (replaced_session (plain_replaces r) m) (next_version_of r ∷ []) s
          (changed_at r.subscription (versioned r.version) s) refl go
          (changed_leaves (λ (s : Subscription). s.number) r.subscription (versioned r.version) (λ s. refl) s)
          (λ live.
          or_left s.live (list_any (λ (v : Version). v.subscription == s.number) (plain.kept_versions m))
          (sym (changed_leaves (λ (s : Subscription). s.live) r.subscription (versioned r.version) (λ s. refl) s)
          ∙ live))
          (λ new.
          let same = eqb-true r.subscription s.number (or_nothing (r.subscription == s.number) new) in
          or_left s.live (list_any (λ (v : Version). v.subscription == s.number) (plain.kept_versions m))
          (alive (eq-eqb s.number r.subscription (sym same)))))
          m.subscriptions (all_live m r.subscription h.numbered parts.0);
      subs =
          ap (on_sub r.subscription (λ (s : KeptSub). record s { version = r.version })) h.subs
          ∙ kept_changed_at r.subscription (versioned r.version) (λ (s : KeptSub). record s { version = r.version })
          (λ s. refl) (kept_subscriptions m)
          ∙ ap (map kept_sub)
          (sym (append-nil (map (changed_at r.subscription (versioned r.version)) (kept_subscriptions m))));
      kept_versions = refl;
      batches = sym (append-nil k.batches);
      are_groups = tt;
      client = h.client;
      incarnation = h.incarnation;
      window = h.window;
      expiry = h.expiry;
      parted = h.parted;
      next_sub = h.next_sub ∙ ap (λ n. n + 1)
          (sym (length_changed r.subscription (versioned r.version) m.subscriptions));
      next_version = ap (λ n. n + 1) (next ∙ sym (length-append m.versions (next_version_of r ∷ [])));
      tracks = stands_changed k.tracks m (session.Replaced (plain_replaces r)) h.tracks h.numbers fit;
      numbers = acting_in_order m (session.Replaced (plain_replaces r)) fit h.numbers;
      numbered = record {
        subscriptions = numbers_changed r.subscription (versioned r.version)
            (λ s. refl) m.subscriptions h.numbered.subscriptions;
        versions = numbers_pushed (λ (v : Version). v.number) m.versions (next_version_of r) h.numbered.versions next;
      };
    }
  where
    parts : (is_live m r.subscription ≡ true) × (is_next_version m r.version ≡ true)
    parts = and_parts (is_live m r.subscription) (is_next_version m r.version) fit

    next : r.version ≡ next_version m
    next = eqb-true r.version (next_version m)
        (and_parts (r.version == next_version m) (nat_lt r.version greatest_of_four) parts.1).0

    go : Each (λ v. keeps_version (replaced_session (plain_replaces r) m) v ≡ true → keeps_version m v ≡ true)
        m.versions
    go =
        each_weaker (λ (v : Version). (1 ≤ v.number) × (v.number < 1 + length m.versions))
        (λ v. keeps_version (replaced_session (plain_replaces r) m) v ≡ true → keeps_version m v ≡ true)
        (λ v low. let below = low.1 in let last = next in replaced_versions m (plain_replaces r) v (omega arith))
        m.versions (numbers_below (λ (v : Version). v.number) 1 m.versions h.numbered.versions)
