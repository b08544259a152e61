-- A kept session goes on to keep what it needs of a plain one: what is left after a change.
use Rattle.std.proofs.Common.{◌≡◌, Bool, true, ◌&&◌, ◌||◌, not, ◌==◌, List, map, filter, sym, ap, subst, ◌∙◌}
use Rattle.std.specs.List.{list_any}
use Rattle.std.proofs.lemmas.Bool.{or_left, and_parts}
use Rattle.session_model.specs.declared.entry.Entry.{Entry}
use Rattle.session_model.specs.declared.entry.Version.{Version}
use Rattle.session_model.specs.PlainSession.{PlainSession, Subscription, next_subscription, next_version}
use Rattle.session_model.specs.Unfinished as plain
use Rattle.session_model.specs.Unfinished.{is_finished, is_used, unfinished, kept_subscriptions}
use Rattle.session_model.specs.Orders.{HasNumbers}
use Rattle.seq_tracks.specs.StandFor.{TracksStandFor}
use Rattle.session_state.specs.KeptSub.{KeptSub}
use Rattle.session_state.specs.KeptSession.{KeptSession}
use Rattle.session_state.specs.KeptActing as kept
use Rattle.session_state.specs.KeptActing.{kept_batches, tidied, is_present, is_named, has_version}
use Rattle.session_refinement.specs.StandFor.{Keeps, Group, AreGroups, AreNumbered, entries_of, batches_of, kept_sub}
use Rattle.session_refinement.specs.laws.ListLaws.{each_of, filter_alike, any_within, filter_mapped, any_mapped}
use Rattle.session_refinement.specs.laws.BatchLaws.{IsGiven, given_all, all_given, named_agrees}

-- ---- what a plain session keeps

abbrev pub keeps_version : PlainSession → Version → Bool
keeps_version m v = plain.is_present m v || is_used m v

abbrev pub keeps_subscription : PlainSession → Subscription → Bool
keeps_subscription m s = s.live || list_any (λ (v : Version). v.subscription == s.number) (plain.kept_versions m)

-- A kept session right after a change, before what isn't needed any more goes, and the plain session after it: what is
-- then left of the versions, subscriptions and batches is what the plain one keeps.
pub record IsBeforeTidying (k : KeptSession) (m : PlainSession) (groups : List Group) : Type 0 where
  pub client : k.client ≡ m.client
  pub incarnation : k.incarnation ≡ m.incarnation
  pub window : k.window ≡ m.window
  pub expiry : k.expiry ≡ m.expiry
  pub parted : k.parted ≡ m.parted
  pub next_sub : k.next_sub ≡ next_subscription m
  pub next_version : k.next_version ≡ next_version m
  pub tracks : TracksStandFor k.tracks m
  pub issued : entries_of groups ≡ m.issued
  pub are_groups : AreGroups m groups
  pub batches : kept_batches k.tracks k.batches ≡ kept_batches k.tracks (batches_of groups)
  pub subscriptions : List Subscription
  pub subs : k.subs ≡ map kept_sub subscriptions
  pub left : filter (keeps_subscription m) subscriptions ≡ kept_subscriptions m
  pub versions : filter (keeps_version m) k.versions ≡ plain.kept_versions m
  pub numbers : HasNumbers m
  pub numbered : AreNumbered m

-- ---- what is present

present_alike : (subscriptions : List Subscription) (v : Version) →
    is_present (map kept_sub subscriptions) v
    ≡ list_any (λ (s : Subscription). s.live && (s.version == v.number)) subscriptions
present_alike subscriptions v = any_mapped (λ (s : KeptSub). s.live && (s.version == v.number)) kept_sub subscriptions

live_is_kept : (m : PlainSession) (v : Version) (xs : List Subscription) →
    list_any (λ (s : Subscription). s.live && (s.version == v.number)) (filter (keeps_subscription m) xs)
    ≡ list_any (λ (s : Subscription). s.live && (s.version == v.number)) xs
live_is_kept m v xs =
    any_within (λ (s : Subscription). s.live && (s.version == v.number)) (keeps_subscription m) xs
    (each_of (λ (s : Subscription). (s.live && (s.version == v.number)) ≡ true → keeps_subscription m s ≡ true)
    (λ s is. or_left s.live (list_any (λ (v : Version). v.subscription == s.number) (plain.kept_versions m))
    (and_parts s.live (s.version == v.number) is).0) xs)

present_agrees : (k : KeptSession) (m : PlainSession) (groups : List Group) (h : IsBeforeTidying k m groups)
    (v : Version) → is_present k.subs v ≡ plain.is_present m v
present_agrees k m groups h v =
    ap (λ subs. is_present subs v) h.subs
    ∙ present_alike h.subscriptions v
    ∙ sym (live_is_kept m v h.subscriptions)
    ∙ ap (list_any (λ (s : Subscription). s.live && (s.version == v.number))) h.left
    ∙ live_is_kept m v m.subscriptions

named_is_used : (k : KeptSession) (m : PlainSession) (groups : List Group) (h : IsBeforeTidying k m groups)
    (v : Version) →
    is_named (kept_batches k.tracks k.batches) v ≡ is_used m v
named_is_used k m groups h v =
    ap (λ batches. is_named batches v) h.batches
    ∙ named_agrees k.tracks m m v.number h.tracks groups h.are_groups
    (all_given m groups (subst (IsGiven m) (sym h.issued) (given_all m h.numbers)))
    ∙ ap (λ es. list_any (λ (e : Entry). e.version == v.number) (filter (λ (e : Entry). not (is_finished m e)) es))
    h.issued

-- ---- what is left

versions_left : (k : KeptSession) (m : PlainSession) (groups : List Group) → IsBeforeTidying k m groups →
    kept.kept_versions k.subs (kept_batches k.tracks k.batches) k.versions ≡ plain.kept_versions m
versions_left k m groups h =
    filter_alike (λ (v : Version). is_present k.subs v || is_named (kept_batches k.tracks k.batches) v)
    (keeps_version m) k.versions
    (each_of
    (λ (v : Version). (is_present k.subs v || is_named (kept_batches k.tracks k.batches) v) ≡ keeps_version m v)
    (λ v. ap (λ b. b || is_named (kept_batches k.tracks k.batches) v) (present_agrees k m groups h v)
    ∙ ap (λ b. plain.is_present m v || b) (named_is_used k m groups h v))
    k.versions)
    ∙ h.versions

subs_left : (k : KeptSession) (m : PlainSession) (groups : List Group) → IsBeforeTidying k m groups →
    kept.kept_subs (plain.kept_versions m) k.subs ≡ map kept_sub (kept_subscriptions m)
subs_left k m groups h =
    ap (kept.kept_subs (plain.kept_versions m)) h.subs
    ∙ filter_mapped (λ (s : KeptSub). s.live || has_version (plain.kept_versions m) s) kept_sub h.subscriptions
    ∙ ap (map kept_sub) h.left

-- what is left is what the plain session keeps
pub tidied_keeps : (k : KeptSession) (m : PlainSession) (groups : List Group) → IsBeforeTidying k m groups →
    Keeps (tidied k) m groups
tidied_keeps k m groups h =
    record {
      client = h.client;
      incarnation = h.incarnation;
      window = h.window;
      expiry = h.expiry;
      parted = h.parted;
      next_sub = h.next_sub;
      next_version = h.next_version;
      tracks = h.tracks;
      subs = ap (λ vs. kept.kept_subs vs k.subs) (versions_left k m groups h) ∙ subs_left k m groups h;
      versions = versions_left k m groups h;
      issued = h.issued;
      are_groups = h.are_groups;
      batches = h.batches;
      numbers = h.numbers;
      numbered = h.numbered;
    }
