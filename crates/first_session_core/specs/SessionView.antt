-- What the fields of a session mean. It has at most one subscription so far, which is number 1 and version 1, in the one
-- shard 0, whose one generation is number 0 and has the one stream 0.
use Rattle.std.specs.Prelude.{ℕ, ◌+◌, ◌≡◌, true, List, [], ◌∷◌, Option, Some, None}
use Rattle.first_topic_name.specs.StoredMessage.{StoredMessage}
use Rattle.first_shard_terms.specs.declared.sweep.Sweep.{Sweep}
use Rattle.first_shard_terms.specs.ShardList.{ShardList, opening_list}
use Rattle.first_shard_terms.specs.SweepOrder.{Run, run_or_else, wanted_in}
use Rattle.first_session_terms.specs.declared.entry.Version.{Version}
use Rattle.first_session_terms.specs.PlainSession as plain
use Rattle.first_session_terms.specs.PlainSession.{PlainSession}
use Rattle.first_session_core.specs.Pump.{Reader, Issue, issue_of}
use Rattle.first_session_core.specs.PlainConnection.{PlainConnection}
use Rattle.first_session_core.specs.declared.subscription.Subscription.{Subscription}

abbrev pub sweep_of : ℕ → ℕ → ℕ → Sweep
sweep_of base target position = record { generation = 0; base = base; target = target; stream = 0; position = position }

abbrev pub subscription_of : Subscription → plain.Subscription
subscription_of s =
    record {
      number = 1;
      live = true;
      version = 1;
      filter = s.filter;
      starts = s.start ∷ [];
      sweeps = sweep_of s.base s.target s.position ∷ [];
    }

abbrev pub version_of : Subscription → Version
version_of s = record { number = 1; subscription = 1; options = s.options; identifier = 0 }

abbrev pub subscriptions_of : Option Subscription → List plain.Subscription
subscriptions_of None = []
subscriptions_of (Some s) = subscription_of s ∷ []

abbrev pub versions_of : Option Subscription → List Version
versions_of None = []
versions_of (Some s) = version_of s ∷ []

-- the one shard's list with these messages
abbrev pub list_with : List StoredMessage → ShardList
list_with messages = record (opening_list 100 10 32768) { messages = messages }

-- the messages have consecutive offsets from this one on
abbrev pub HasOffsets : ℕ → List StoredMessage → Type 0
HasOffsets next [] = Unit {0}
HasOffsets next (m ∷ ms) = (m.offset ≡ next) × HasOffsets (next + 1) ms

-- for whom a batch of this subscription is
abbrev pub reader_of : List ℕ → ℕ → Subscription → Reader
reader_of client limit s = record { client = client; limit = limit; subscription = 1; version = version_of s; shard = 0 }

-- what is issued of a run, if there is one
abbrev pub issued_run : PlainSession → PlainConnection → ℕ → Subscription → Option Run → Option Issue
issued_run m k limit s None = None
issued_run m k limit s (Some run) = Some (issue_of (reader_of m.client k.packet_limit s) m limit run)

-- what is issued of one stretch
abbrev pub issued_in_stretch : PlainSession → PlainConnection → List StoredMessage → ℕ → Subscription → ℕ → ℕ → ℕ → Option Issue
issued_in_stretch m k messages limit s base target position =
    issued_run m k limit s (run_or_else (sweep_of base target position) (wanted_in s.filter s.start (list_with messages) (sweep_of base target position)) None)
