-- How changes act on kept sessions: each change by itself, and then what isn't needed any more goes.
use Rattle.std.specs.Prelude.{ℕ, ◌+◌, Bool, true, false, ◌&&◌, ◌||◌, not, ◌==◌, List, [], ◌∷◌, ◌++◌, map, filter, slice_set, Some, None}
use Rattle.std.specs.List.{list_any}
use Rattle.std.specs.Str.{bytes_eq}
use Rattle.session_model.specs.declared.entry.Version.{Version}
use Rattle.session_model.specs.Change.{Subscribes}
use Rattle.session_model.specs.Acting.{changed_if, numbers_from}
use Rattle.seq_tracks.specs.PlainTracks.{PlainTracks, is_unfinished1, is_unfinished2}
use Rattle.seq_tracks.specs.Changed.{acked_tracks, received_tracks, done_tracks, passed_tracks, issued_tracks}
use Rattle.session_state.specs.declared.batch.Batch.{Batch}
use Rattle.session_state.specs.declared.change.Change.{Change}
use Rattle.session_state.specs.declared.change.Effect.{Effect}
use Rattle.session_state.specs.declared.change.Effect.TheVariants.{Began, Ended, Bound, Parted, Subscribed, Replaced, Unsubscribed, Issued, Acked, Received, Done, Passed}
use Rattle.session_state.specs.declared.change.Replaced.{Replaced as Replacing}
use Rattle.session_state.specs.declared.change.Issued.{Issued as Issuing}
use Rattle.session_state.specs.KeptSub.{KeptSub}
use Rattle.session_state.specs.KeptSession.{KeptSession, KeptSessions, begun_kept}

-- ---- what is kept

-- the numbers of a batch on the track of QoS 1, and on that of QoS 2
abbrev pub numbers1_of : Batch → List ℕ
numbers1_of b = numbers_from b.first1 b.count1

abbrev pub numbers2_of : Batch → List ℕ
numbers2_of b = numbers_from b.first2 b.count2

-- some number of the batch is unfinished
abbrev pub has_unfinished : PlainTracks → Batch → Bool
has_unfinished t b = list_any (is_unfinished1 t) (numbers1_of b) || list_any (is_unfinished2 t) (numbers2_of b)

-- a batch is kept while one of its deliveries is unfinished
abbrev pub kept_batches : PlainTracks → List Batch → List Batch
kept_batches t batches = filter (has_unfinished t) batches

-- a version is the present one of a live subscription
abbrev pub is_present : List KeptSub → Version → Bool
is_present subs v = list_any (λ (s : KeptSub). s.live && (s.version == v.number)) subs

-- a batch names it
abbrev pub is_named : List Batch → Version → Bool
is_named batches v = list_any (λ (b : Batch). b.version == v.number) batches

abbrev pub kept_versions : List KeptSub → List Batch → List Version → List Version
kept_versions subs batches versions = filter (λ (v : Version). is_present subs v || is_named batches v) versions

-- a version is one of this subscription
abbrev pub has_version : List Version → KeptSub → Bool
has_version versions s = list_any (λ (v : Version). v.subscription == s.number) versions

-- a subscription is kept while it is live, or a kept version is one of its
abbrev pub kept_subs : List Version → List KeptSub → List KeptSub
kept_subs versions subs = filter (λ (s : KeptSub). s.live || has_version versions s) subs

-- a session with these, of which it keeps what it needs
abbrev pub with_subs : List Version → KeptSession → KeptSession
with_subs versions m = record m { subs = kept_subs versions m.subs; versions = versions }

abbrev pub with_batches : List Batch → KeptSession → KeptSession
with_batches batches m = with_subs (kept_versions m.subs batches m.versions) (record m { batches = batches })

-- batches that are finished go, then versions that nothing names, then ended subscriptions without a version
abbrev pub tidied : KeptSession → KeptSession
tidied m = with_batches (kept_batches m.tracks m.batches) m

-- ---- one session

-- each subscription with this number is changed
abbrev pub on_sub : ℕ → (KeptSub → KeptSub) → List KeptSub → List KeptSub
on_sub number f subs = map (λ (s : KeptSub). changed_if (s.number == number) f s) subs

-- a new subscription at the end, and its first version
abbrev pub new_sub : Subscribes → KeptSub
new_sub s = record { number = s.subscription; live = true; version = s.version; filter = s.filter; sweeps = s.sweeps }

abbrev pub version_of : Subscribes → Version
version_of s = record { number = s.version; subscription = s.subscription; options = s.options; identifier = s.identifier }

abbrev pub subscribed_kept : Subscribes → KeptSession → KeptSession
subscribed_kept s m =
    record m {
      next_sub = s.subscription + 1;
      next_version = s.version + 1;
      subs = m.subs ++ new_sub s ∷ [];
      versions = m.versions ++ version_of s ∷ [];
    }

-- an equal filter gives a live subscription a new version (MQTT 3.8.4)
abbrev pub next_version_of : Replacing → Version
next_version_of r = record { number = r.version; subscription = r.subscription; options = r.options; identifier = r.identifier }

abbrev pub replaced_kept : Replacing → KeptSession → KeptSession
replaced_kept r m =
    record m {
      next_version = r.version + 1;
      subs = on_sub r.subscription (λ (s : KeptSub). record s { version = r.version }) m.subs;
      versions = m.versions ++ next_version_of r ∷ [];
    }

-- an ended subscription has no sweeps
abbrev pub unsubscribed_kept : ℕ → KeptSession → KeptSession
unsubscribed_kept number m = record m { subs = on_sub number (λ (s : KeptSub). record s { live = false; sweeps = [] }) m.subs }

-- the batch stands behind the others, its subscription is in its shard at the sweep, and each track has given its numbers
abbrev pub issued_kept : Issuing → KeptSession → KeptSession
issued_kept i m =
    record m {
      tracks = issued_tracks i.batch.count1 i.batch.count2 m.tracks;
      subs = on_sub i.subscription (λ (s : KeptSub). record s { sweeps = slice_set s.sweeps i.batch.shard i.sweep }) m.subs;
      batches = m.batches ++ i.batch ∷ [];
    }

-- the change by itself, of a session that is held
abbrev pub with_effect : Effect → KeptSession → KeptSession
with_effect (Began b) m = m
with_effect Ended m = m
with_effect (Bound expiry) m = record m { expiry = expiry; parted = None }
with_effect (Parted p) m = record m { expiry = p.expiry; parted = Some p.moment }
with_effect (Subscribed s) m = subscribed_kept s m
with_effect (Replaced r) m = replaced_kept r m
with_effect (Unsubscribed number) m = unsubscribed_kept number m
with_effect (Issued i) m = issued_kept i m
with_effect (Acked number) m = record m { tracks = acked_tracks number m.tracks }
with_effect (Received number) m = record m { tracks = received_tracks number m.tracks }
with_effect (Done number) m = record m { tracks = done_tracks number m.tracks }
with_effect (Passed p) m = record m { tracks = passed_tracks p.track p.number m.tracks }

-- the session after the change
abbrev pub kept_changed : Effect → KeptSession → KeptSession
kept_changed effect m = tidied (with_effect effect m)

-- ---- the sessions of a worker

abbrev pub on_session : List ℕ → (KeptSession → KeptSession) → List KeptSession → List KeptSession
on_session client f ms = map (λ (m : KeptSession). changed_if (bytes_eq m.client client) f m) ms

abbrev pub without_session : List ℕ → List KeptSession → List KeptSession
without_session client ms = filter (λ (m : KeptSession). not (bytes_eq m.client client)) ms

-- a session that begins is the newest; one that ends is gone; each other change is made to the session of its client
abbrev pub acted_on : List ℕ → Effect → KeptSessions → KeptSessions
acted_on client (Began b) s = record { list = s.list ++ begun_kept client b.incarnation b.expiry b.window ∷ []; next = b.incarnation + 1 }
acted_on client Ended s = record s { list = without_session client s.list }
acted_on client effect s = record s { list = on_session client (kept_changed effect) s.list }

-- a change that neither begins nor ends a session
abbrev pub is_of_held : Effect → Bool
is_of_held (Began b) = false
is_of_held Ended = false
is_of_held other = true

abbrev pub change_of : List ℕ → Effect → Change
change_of client effect = record { client = client; effect = effect }

abbrev pub kept_acted : Change → KeptSessions → KeptSessions
kept_acted c sessions = acted_on c.client c.effect sessions

-- after several changes, in order
abbrev pub kept_acted_all : List Change → KeptSessions → KeptSessions
kept_acted_all [] sessions = sessions
kept_acted_all (c ∷ changes) sessions = kept_acted_all changes (kept_acted c sessions)
