-- A session as a list of all that it was issued since it began.
use Rattle.std.specs.Prelude.{ℕ, zero, suc, ◌+◌, ◌-◌, Bool, ◌==◌, if◌then◌else◌, List, [], length, sum_by, find, Option, None}
use Rattle.std.specs.List.{list_any}
use Rattle.first_shard_terms.specs.declared.sweep.Sweep.{Sweep}
use Rattle.first_session_terms.specs.declared.entry.Entry.{Entry}
use Rattle.first_session_terms.specs.declared.entry.Version.{Version}
use Rattle.first_session_terms.specs.Entry.{count1, count2}

-- A subscription: whether it is live, its present version, its filter, and for each shard the offset that it starts at
-- and how far it is.
pub record Subscription : Type 0 where
  pub number : ℕ
  pub live : Bool
  pub version : ℕ
  pub filter : List (List ℕ)
  pub starts : List ℕ
  pub sweeps : List Sweep

-- Its client and the number of the session; how many entries may be unfinished; its expiry interval in seconds, and
-- the moment since which it has no connection; subscriptions and versions in order; all issued entries in order; the
-- marks of the two tracks, and the numbers of track 2 that are done.
pub record PlainSession : Type 0 where
  pub client : List ℕ
  pub incarnation : ℕ
  pub window : ℕ
  pub expiry : ℕ
  pub parted : Option ℕ
  pub subscriptions : List Subscription
  pub versions : List Version
  pub issued : List Entry
  pub acked : ℕ
  pub received : ℕ
  pub done : List ℕ

-- how many entries each track was issued
abbrev pub issued1_of : PlainSession → ℕ
issued1_of m = sum_by (λ (e : Entry). count1 e.kind) m.issued

abbrev pub issued2_of : PlainSession → ℕ
issued2_of m = sum_by (λ (e : Entry). count2 e.kind) m.issued

-- how many numbers from one on are done, looking no further than so many
abbrev pub done_from : List ℕ → ℕ → ℕ → ℕ
done_from done number zero = 0
done_from done number (suc more) = if list_any (λ d. d == number) done then 1 + done_from done (number + 1) more else 0

-- the greatest number up to which all are done
abbrev pub complete_of : PlainSession → ℕ
complete_of m = done_from m.done 1 (length m.done)

-- how many more entries the window takes
abbrev pub room_of : PlainSession → ℕ
room_of m = m.window - ((issued1_of m - m.acked) + (issued2_of m - complete_of m))

-- a session that begins
abbrev pub begun_session : List ℕ → ℕ → ℕ → PlainSession
begun_session client incarnation expiry =
    record {
      client = client;
      incarnation = incarnation;
      window = 512;
      expiry = expiry;
      parted = None;
      subscriptions = [];
      versions = [];
      issued = [];
      acked = 0;
      received = 0;
      done = [];
    }

-- the subscription of this number, and the version
abbrev pub subscription_numbered : ℕ → PlainSession → Option Subscription
subscription_numbered number m = find (λ (s : Subscription). s.number == number) m.subscriptions

abbrev pub version_numbered : ℕ → PlainSession → Option Version
version_numbered number m = find (λ (v : Version). v.number == number) m.versions
