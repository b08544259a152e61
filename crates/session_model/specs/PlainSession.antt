-- A session as a list of all that it was issued since it began, and the sessions of a worker.
use Rattle.std.specs.Prelude.{ℕ, zero, suc, ◌+◌, ◌-◌, ◌^◌, Bool, ◌==◌, min, if◌then◌else◌, List, [], length, find}
use Rattle.std.specs.Prelude.{Option, None}
use Rattle.std.specs.List.{list_any}
use Rattle.std.specs.Str.{bytes_eq}
use Rattle.shard_model.specs.declared.sweep.Sweep.{Sweep}
use Rattle.session_model.specs.declared.entry.Entry.{Entry}
use Rattle.session_model.specs.declared.entry.Version.{Version}
use Rattle.session_model.specs.Entry.{numbers1, numbers2}

-- A subscription: whether it is live, its present version, its filter, and for each shard the offset that it starts at
-- and how far it is there. An ended one stays in the list.
pub record Subscription : Type 0 where
  pub number : ℕ
  pub live : Bool
  pub version : ℕ
  pub filter : List (List ℕ)
  pub starts : List ℕ
  pub sweeps : List Sweep

-- Its client, and its number among the sessions of its worker; how many entries may be unfinished; its expiry interval
-- in seconds, and the moment since which it has no connection, none where it has one; all its subscriptions and
-- versions, whose numbers go up by one from 1; all entries in the order of issue; the marks of the two tracks, and the
-- numbers of track 2 that are done.
pub record PlainSession : Type 0 where
  pub client : List ℕ
  pub incarnation : ℕ
  pub window : ℕ
  pub expiry : ℕ
  pub parted : Option ℕ
  pub subscriptions : List Subscription
  pub versions : List Version
  pub issued : List Entry
  pub acked : ℕ
  pub received : ℕ
  pub done : List ℕ

-- a session that begins, bound to a connection
abbrev pub begun_session : List ℕ → ℕ → ℕ → ℕ → PlainSession
begun_session client incarnation expiry window =
    record {
      client = client;
      incarnation = incarnation;
      window = window;
      expiry = expiry;
      parted = None;
      subscriptions = [];
      versions = [];
      issued = [];
      acked = 0;
      received = 0;
      done = [];
    }

-- ---- tracks

-- how many numbers each track has given
abbrev pub issued1_of : PlainSession → ℕ
issued1_of m = length (numbers1 m.issued)

abbrev pub issued2_of : PlainSession → ℕ
issued2_of m = length (numbers2 m.issued)

abbrev pub is_done : PlainSession → ℕ → Bool
is_done m number = list_any (λ (d : ℕ). d == number) m.done

-- how many numbers from one on are done, looking no further than so many
abbrev pub done_from : List ℕ → ℕ → ℕ → ℕ
done_from done number zero = 0
done_from done number (suc more) =
    if list_any (λ (d : ℕ). d == number) done then 1 + done_from done (number + 1) more else 0

-- the greatest number up to which all are done
abbrev pub complete_of : PlainSession → ℕ
complete_of m = done_from m.done 1 (length m.done)

-- how many entries the window has in use
abbrev pub in_use : PlainSession → ℕ
in_use m = (issued1_of m - m.acked) + (issued2_of m - complete_of m)

-- what a track has left of its numbers, which lie below the greatest of eight bytes
abbrev pub left_of : ℕ → ℕ
left_of issued = 2 ^ 64 - 2 - issued

-- how many more entries may be issued
abbrev pub room_of : PlainSession → ℕ
room_of m = min (m.window - in_use m) (min (left_of (issued1_of m)) (left_of (issued2_of m)))

-- ---- numbers of subscriptions and versions

abbrev pub next_subscription : PlainSession → ℕ
next_subscription m = length m.subscriptions + 1

abbrev pub next_version : PlainSession → ℕ
next_version m = length m.versions + 1

abbrev pub subscription_numbered : ℕ → PlainSession → Option Subscription
subscription_numbered number m = find (λ (s : Subscription). s.number == number) m.subscriptions

abbrev pub version_numbered : ℕ → PlainSession → Option Version
version_numbered number m = find (λ (v : Version). v.number == number) m.versions

-- ---- the sessions of a worker

-- in the order in which they began, and the number of the next one, from 1 on
pub record Sessions : Type 0 where
  pub list : List PlainSession
  pub next : ℕ

abbrev pub no_sessions : Sessions
no_sessions = record { list = []; next = 1 }

-- the session of this client, none where it has none
abbrev pub session_of : List ℕ → Sessions → Option PlainSession
session_of client sessions = find (λ (m : PlainSession). bytes_eq m.client client) sessions.list

-- the number is one of these
abbrev pub has : List ℕ → ℕ → Bool
has done number = list_any (λ (d : ℕ). d == number) done
