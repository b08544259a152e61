-- What a change has to do so that a kept session goes on to keep what it needs.
use Rattle.std.proofs.Common.{◌≡◌, ℕ, Bool, true, false, ◌==◌, if◌then◌else◌, List, [], ◌∷◌, ◌++◌, map, filter, find}
use Rattle.std.proofs.Common.{Some, sym, ap, subst, ◌∙◌}
use Rattle.std.proofs.lemmas.Option.{none-some, same_Some}
use Rattle.std.proofs.lemmas.List.{map-append}
use Rattle.std.proofs.lemmas.Grind.{flat_map-append}
use Rattle.std.proofs.lemmas.List.Elements.{filter-append}
use Rattle.session_model.specs.declared.entry.Version.{Version}
use Rattle.session_model.specs.PlainSession.{PlainSession, Subscription, next_subscription, next_version}
use Rattle.session_model.specs.PlainSession.{version_numbered, subscription_numbered}
use Rattle.session_model.specs.Unfinished as plain
use Rattle.session_model.specs.Unfinished.{is_finished, is_used, kept_subscriptions}
use Rattle.session_model.specs.Orders.{HasNumbers}
use Rattle.seq_tracks.specs.StandFor.{TracksStandFor}
use Rattle.session_state.specs.KeptSession.{KeptSession}
use Rattle.session_state.specs.KeptActing.{has_unfinished, kept_batches, tidied}
use Rattle.session_refinement.specs.StandFor.{Keeps, Group, AreGroups, AreNumbered, entries_of, batches_of, kept_sub}
use Rattle.session_refinement.specs.laws.ListLaws.{Each, filter_within, filter_mapped, find_before}
use Rattle.session_refinement.specs.laws.BatchLaws.{IsGiven, AllGiven, given_all, given_parts, all_given, StaysFinished}
use Rattle.session_refinement.specs.laws.BatchLaws.{batches_stay}
use Rattle.session_refinement.specs.laws.KeepLaws.{keeps_version, keeps_subscription, IsBeforeTidying, tidied_keeps}

-- A change from `k` to `e`, before what isn't needed any more goes, and of a plain session to a later one. Each
-- subscription is changed, which leaves its number and its filter, and some are new; so are some versions, and some
-- batches with their entries. What was finished stays so, and no version and no subscription that went is needed again.
pub record IsChange (k e : KeptSession) (m later : PlainSession) (new_groups : List Group) : Type 0 where
  pub changed : Subscription → Subscription
  pub new_subscriptions : List Subscription
  pub new_versions : List Version
  pub same_number : (s : Subscription) → (changed s).number ≡ s.number
  pub same_filter : (s : Subscription) → (changed s).filter ≡ s.filter
  pub subscriptions : later.subscriptions ≡ map changed m.subscriptions ++ new_subscriptions
  pub versions : later.versions ≡ m.versions ++ new_versions
  pub issued : later.issued ≡ m.issued ++ entries_of new_groups
  pub stays : StaysFinished m later
  pub versions_go : Each (λ v. keeps_version later v ≡ true → keeps_version m v ≡ true) m.versions
  pub subscriptions_go : Each (λ s. keeps_subscription later (changed s) ≡ true → keeps_subscription m s ≡ true)
      m.subscriptions
  pub subs : e.subs ≡ map kept_sub (map changed (kept_subscriptions m) ++ new_subscriptions)
  pub kept_versions : e.versions ≡ k.versions ++ new_versions
  pub batches : e.batches ≡ k.batches ++ batches_of new_groups
  pub are_groups : AreGroups later new_groups
  pub client : e.client ≡ later.client
  pub incarnation : e.incarnation ≡ later.incarnation
  pub window : e.window ≡ later.window
  pub expiry : e.expiry ≡ later.expiry
  pub parted : e.parted ≡ later.parted
  pub next_sub : e.next_sub ≡ next_subscription later
  pub next_version : e.next_version ≡ next_version later
  pub tracks : TracksStandFor e.tracks later
  pub numbers : HasNumbers later
  pub numbered : AreNumbered later

-- ---- what was found is found

pub find_changed : (p : Subscription → Bool) (f : Subscription → Subscription) → ((s : Subscription) → p (f s) ≡ p s) →
    (xs : List Subscription) (s : Subscription) →
    find p xs ≡ Some s → find p (map f xs) ≡ Some (f s)
find_changed p f same [] s is = absurd (none-some s is)
find_changed p f same (x ∷ xs) s is =
    ap (λ b. if b then Some (f x) else find p (map f xs)) (same x) ∙ by (p x) is (find_changed p f same xs s)
  where
    by : (b : Bool) → (if b then Some x else find p xs) ≡ Some s →
        (find p xs ≡ Some s → find p (map f xs) ≡ Some (f s)) →
        (if b then Some (f x) else find p (map f xs)) ≡ Some (f s)
    by true is rest = ap (λ y. Some (f y)) (same_Some x s is)
    by false is rest = rest is

pub version_found : (k e : KeptSession) (m later : PlainSession) (new : List Group) → IsChange k e m later new →
    (number : ℕ) (v : Version) → version_numbered number m ≡ Some v → version_numbered number later ≡ Some v
version_found k e m later new c number v is =
    ap (find (λ (v : Version). v.number == number)) c.versions
    ∙ find_before (λ (v : Version). v.number == number) m.versions c.new_versions v is

pub subscription_found : (k e : KeptSession) (m later : PlainSession) (new : List Group) (c : IsChange k e m later new)
    (number : ℕ) (s : Subscription) → subscription_numbered number m ≡ Some s →
    subscription_numbered number later ≡ Some (c.changed s)
subscription_found k e m later new c number s is =
    ap (find (λ (s : Subscription). s.number == number)) c.subscriptions
    ∙ find_before (λ (s : Subscription). s.number == number) (map c.changed m.subscriptions) c.new_subscriptions
    (c.changed s)
    (find_changed (λ (s : Subscription). s.number == number) c.changed
    (λ s. ap (λ n. n == number) (c.same_number s)) m.subscriptions s is)

pub groups_stay : (k e : KeptSession) (m later : PlainSession) (new : List Group) → IsChange k e m later new →
    (groups : List Group) → AreGroups m groups → AreGroups later groups
groups_stay k e m later new c [] are = tt
groups_stay k e m later new c (g ∷ gs) are = (
  record {
    version = are.0.version;
    subscription = c.changed are.0.subscription;
    has_version = version_found k e m later new c g.batch.version are.0.version are.0.has_version;
    has_subscription = subscription_found k e m later new c are.0.version.subscription are.0.subscription
        are.0.has_subscription;
    entries = are.0.entries;
    track1 = are.0.track1;
    track2 = are.0.track2;
  },
  groups_stay k e m later new c gs are.1,
)

pub groups_append : (m : PlainSession) (gs more : List Group) → AreGroups m gs → AreGroups m more →
    AreGroups m (gs ++ more)
groups_append m [] more are also = also
groups_append m (g ∷ gs) more are also = (are.0, groups_append m gs more are.1 also)

-- ---- what a change makes

-- the groups, their entries and their batches after the change
issued_after : (k e : KeptSession) (m later : PlainSession) (groups new : List Group) (h : Keeps k m groups)
    (c : IsChange k e m later new) → entries_of (groups ++ new) ≡ later.issued
issued_after k e m later groups new h c =
    flat_map-append (λ (g : Group). g.entries) groups new
    ∙ ap (λ es. es ++ entries_of new) h.issued
    ∙ sym c.issued

batches_after : (k e : KeptSession) (m later : PlainSession) (groups new : List Group) (h : Keeps k m groups)
    (c : IsChange k e m later new) →
    kept_batches e.tracks e.batches ≡ kept_batches e.tracks (batches_of (groups ++ new))
batches_after k e m later groups new h c =
    ap (kept_batches e.tracks) c.batches
    ∙ ap (λ bs. kept_batches e.tracks (bs ++ batches_of new)) h.batches
    ∙ filter-append (has_unfinished e.tracks) (kept_batches k.tracks (batches_of groups)) (batches_of new)
    ∙ ap (λ bs. bs ++ kept_batches e.tracks (batches_of new))
    (batches_stay k.tracks e.tracks m later m h.tracks c.tracks c.stays groups h.are_groups before after)
    ∙ sym (filter-append (has_unfinished e.tracks) (batches_of groups) (batches_of new))
    ∙ ap (kept_batches e.tracks) (sym (map-append (λ (g : Group). g.batch) groups new))
  where
    before : AllGiven m groups
    before = all_given m groups (subst (IsGiven m) (sym h.issued) (given_all m h.numbers))

    after : AllGiven later groups
    after =
        all_given later groups
        (subst (IsGiven later) (sym h.issued)
        (given_parts later m.issued (entries_of new)
        (subst (IsGiven later) c.issued (given_all later c.numbers))).0)

left_after : (k e : KeptSession) (m later : PlainSession) (new : List Group) (c : IsChange k e m later new) →
    filter (keeps_subscription later) (map c.changed (kept_subscriptions m) ++ c.new_subscriptions)
    ≡ kept_subscriptions later
left_after k e m later new c =
    filter-append (keeps_subscription later) (map c.changed (kept_subscriptions m)) c.new_subscriptions
    ∙ ap (λ l. l ++ filter (keeps_subscription later) c.new_subscriptions)
    (filter_mapped (keeps_subscription later) c.changed (kept_subscriptions m)
    ∙ ap (map c.changed)
    (filter_within (λ s. keeps_subscription later (c.changed s))
    (keeps_subscription m) m.subscriptions c.subscriptions_go)
    ∙ sym (filter_mapped (keeps_subscription later) c.changed m.subscriptions))
    ∙ sym (filter-append (keeps_subscription later) (map c.changed m.subscriptions) c.new_subscriptions)
    ∙ ap (filter (keeps_subscription later)) (sym c.subscriptions)

versions_after : (k e : KeptSession) (m later : PlainSession) (groups new : List Group) → Keeps k m groups →
    (c : IsChange k e m later new) → filter (keeps_version later) e.versions ≡ plain.kept_versions later
versions_after k e m later groups new h c =
    ap (filter (keeps_version later)) c.kept_versions
    ∙ ap (λ vs. filter (keeps_version later) (vs ++ c.new_versions)) h.versions
    ∙ filter-append (keeps_version later) (plain.kept_versions m) c.new_versions
    ∙ ap (λ l. l ++ filter (keeps_version later) c.new_versions)
    (filter_within (keeps_version later) (keeps_version m) m.versions c.versions_go)
    ∙ sym (filter-append (keeps_version later) m.versions c.new_versions)
    ∙ ap (filter (keeps_version later)) (sym c.versions)

before_tidying : (k e : KeptSession) (m later : PlainSession) (groups new : List Group) → Keeps k m groups →
    IsChange k e m later new → IsBeforeTidying e later (groups ++ new)
before_tidying k e m later groups new h c =
    record {
      client = c.client;
      incarnation = c.incarnation;
      window = c.window;
      expiry = c.expiry;
      parted = c.parted;
      next_sub = c.next_sub;
      next_version = c.next_version;
      tracks = c.tracks;
      issued = issued_after k e m later groups new h c;
      are_groups = groups_append later groups new (groups_stay k e m later new c groups h.are_groups) c.are_groups;
      batches = batches_after k e m later groups new h c;
      subscriptions = map c.changed (kept_subscriptions m) ++ c.new_subscriptions;
      subs = c.subs;
      left = left_after k e m later new c;
      versions = versions_after k e m later groups new h c;
      numbers = c.numbers;
      numbered = c.numbered;
    }

-- a change leaves what the plain session keeps, and its new groups stand behind the others
pub change_keeps : (k e : KeptSession) (m later : PlainSession) (groups new : List Group) → Keeps k m groups →
    IsChange k e m later new → Keeps (tidied e) later (groups ++ new)
change_keeps k e m later groups new h c =
    tidied_keeps e later (groups ++ new) (before_tidying k e m later groups new h c)
