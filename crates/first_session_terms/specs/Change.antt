-- What changes the sessions of a worker, one record after another.
use Rattle.std.specs.Prelude.{ℕ, true, ◌==◌, if◌then◌else◌, List, [], ◌∷◌, ◌++◌, map, slice_set, Option, Some}
use Rattle.std.specs.List.{find}
use Rattle.std.specs.Str.{bytes_eq}
use Rattle.first_shard_terms.specs.declared.sweep.Sweep.{Sweep}
use Rattle.first_session_terms.specs.declared.entry.Entry.{Entry}
use Rattle.first_session_terms.specs.PlainSession.{PlainSession, Subscription, begun_session}

-- Each but the first is of the session that its client has.
pub data Change : Type 0 where
  -- a session begins: its client, its number, its expiry interval
  Began : List ℕ → ℕ → ℕ → Change
  -- its connection ended: the expiry interval from then on, and the moment
  Parted : List ℕ → ℕ → ℕ → Change
  -- a subscription begins: its number and version, the options and the Subscription Identifier, the filter, and for
  -- each shard where it begins
  Subscribed : List ℕ → ℕ → ℕ → ℕ → ℕ → List (List ℕ) → List Sweep → Change
  -- entries of a subscription were issued in a shard, and the sweep is then here
  Issued : List ℕ → ℕ → ℕ → List Entry → Sweep → Change

-- the session of this client, none where it has none
abbrev pub session_of : List ℕ → List PlainSession → Option PlainSession
session_of client sessions = find (λ (m : PlainSession). bytes_eq m.client client) sessions

-- the sessions with that of this client changed
abbrev pub on_session : List ℕ → (PlainSession → PlainSession) → List PlainSession → List PlainSession
on_session client f [] = []
on_session client f (m ∷ ms) = if bytes_eq m.client client then f m ∷ ms else m ∷ on_session client f ms

abbrev pub parted_session : ℕ → ℕ → PlainSession → PlainSession
parted_session expiry moment m = record m { expiry = expiry; parted = Some moment }

abbrev pub subscribed_session : ℕ → ℕ → ℕ → ℕ → List (List ℕ) → List Sweep → PlainSession → PlainSession
subscribed_session number version options identifier filter sweeps m =
    record m {
      subscriptions = m.subscriptions ++ record {
        number = number;
        live = true;
        version = version;
        filter = filter;
        starts = map (λ (s : Sweep). s.position) sweeps;
        sweeps = sweeps;
      } ∷ [];
      versions = m.versions ++ record { number = version; subscription = number; options = options; identifier = identifier } ∷ [];
    }

-- the list with another sweep for this shard
abbrev pub swept : ℕ → Sweep → List Sweep → List Sweep
swept shard sweep sweeps = slice_set sweeps shard sweep

abbrev pub swept_subscription : ℕ → ℕ → Sweep → Subscription → Subscription
swept_subscription number shard sweep s =
    if s.number == number then record s { sweeps = swept shard sweep s.sweeps } else s

abbrev pub issued_session : ℕ → ℕ → List Entry → Sweep → PlainSession → PlainSession
issued_session number shard entries sweep m =
    record m { subscriptions = map (swept_subscription number shard sweep) m.subscriptions; issued = m.issued ++ entries }

-- the sessions after a change
abbrev pub act : List PlainSession → Change → List PlainSession
act sessions (Began client incarnation expiry) = sessions ++ begun_session client incarnation expiry ∷ []
act sessions (Parted client expiry moment) = on_session client (parted_session expiry moment) sessions
act sessions (Subscribed client number version options identifier filter sweeps) =
    on_session client (subscribed_session number version options identifier filter sweeps) sessions
act sessions (Issued client number shard entries sweep) = on_session client (issued_session number shard entries sweep) sessions

-- after several changes, in order
abbrev pub act_all : List PlainSession → List Change → List PlainSession
act_all sessions [] = sessions
act_all sessions (change ∷ changes) = act_all (act sessions change) changes
