-- A session as it is kept, and the sessions of a worker.
use Rattle.std.specs.Prelude.{◌≡◌, ℕ, List, [], ◌∷◌, ◌==◌, map, find, Option, None}
use Rattle.std.specs.Str.{bytes_eq}
use Rattle.session_model.specs.declared.entry.Version.{Version}
use Rattle.seq_tracks.specs.PlainTracks.{PlainTracks, no_tracks}
use Rattle.session_state.specs.declared.batch.Batch.{Batch}
use Rattle.session_state.specs.KeptSub.{KeptSub}

-- Its client, and its number among the sessions of its worker; how many deliveries may be unfinished; its expiry interval in seconds, and the
-- moment since which it has no connection, none where it has one; the numbers that its next subscription and its next version get; its tracks;
-- the subscriptions and versions that it still needs, by their numbers, and the batches with unfinished deliveries, in the order of issue.
pub record KeptSession : Type 0 where
  pub client : List ℕ
  pub incarnation : ℕ
  pub window : ℕ
  pub expiry : ℕ
  pub parted : Option ℕ
  pub next_sub : ℕ
  pub next_version : ℕ
  pub tracks : PlainTracks
  pub subs : List KeptSub
  pub versions : List Version
  pub batches : List Batch

-- a session that begins, bound to a connection
abbrev pub begun_kept : List ℕ → ℕ → ℕ → ℕ → KeptSession
begun_kept client incarnation expiry window =
    record {
      client = client;
      incarnation = incarnation;
      window = window;
      expiry = expiry;
      parted = None;
      next_sub = 1;
      next_version = 1;
      tracks = no_tracks;
      subs = [];
      versions = [];
      batches = [];
    }

-- the subscription with a number, and the version, none where none is kept
abbrev pub sub_numbered : ℕ → KeptSession → Option KeptSub
sub_numbered number m = find (λ (s : KeptSub). s.number == number) m.subs

abbrev pub version_numbered : ℕ → KeptSession → Option Version
version_numbered number m = find (λ (v : Version). v.number == number) m.versions

-- ---- the sessions of a worker

-- in the order in which they began, and the number of the next one, from 1 on
pub record KeptSessions : Type 0 where
  pub list : List KeptSession
  pub next : ℕ

abbrev pub no_kept_sessions : KeptSessions
no_kept_sessions = record { list = []; next = 1 }

-- the session of this client, none where it has none
abbrev pub session_of : List ℕ → KeptSessions → Option KeptSession
session_of client sessions = find (λ (m : KeptSession). bytes_eq m.client client) sessions.list

-- ---- as entries of a map by client

abbrev pub sessions_in : List (List ℕ × KeptSession) → List KeptSession
sessions_in entries = map (λ (e : List ℕ × KeptSession). e.1) entries

-- each session stands under its client
abbrev pub AreKeyed : List (List ℕ × KeptSession) → Type 0
AreKeyed [] = Unit {0}
AreKeyed (e ∷ entries) = (e.0 ≡ e.1.client) × AreKeyed entries
