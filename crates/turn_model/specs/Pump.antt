-- What one pump of a connection issues.
use Rattle.std.specs.Prelude.{ℕ, ◌+◌, Bool, ◌&&◌, ◌||◌, not, ◌==◌, nat_lt, if◌then◌else◌, List, [], ◌∷◌, ◌++◌, filter}
use Rattle.std.specs.Prelude.{slice_get, Option, Some, None}
use Rattle.std.specs.List.{flat_map}
use Rattle.topic_model.specs.Profile.{Profile}
use Rattle.topic_model.specs.StoredMessage.{StoredMessage}
use Rattle.shard_model.specs.declared.sweep.Sweep.{Sweep}
use Rattle.shard_model.specs.ShardList.{ShardList}
use Rattle.shard_model.specs.SweepOrder.{Run, next_run, sweep_after}
use Rattle.session_model.specs.declared.entry.Version.{Version}
use Rattle.session_model.specs.PlainSession.{PlainSession, Subscription, version_numbered}
use Rattle.session_model.specs.Change.{Issues}
use Rattle.turn_model.specs.Delivery.{Reader}
use Rattle.turn_model.specs.PlainConnection.{PlainConnection}
use Rattle.turn_model.specs.Batch.{pump_limit, cut_run, entries_from, next1_of, next2_of}

-- ---- the pairs of a live subscription and a shard

pub record Pair : Type 0 where
  pub subscription : Subscription
  pub shard : ℕ
  pub start : ℕ
  pub sweep : Sweep

-- of one subscription with the shards, by number
abbrev pub pairs_with : Subscription → ℕ → List ℕ → List Sweep → List Pair
pairs_with s shard [] sweeps = []
pairs_with s shard (start ∷ starts) [] = []
pairs_with s shard (start ∷ starts) (sweep ∷ sweeps) =
    record { subscription = s; shard = shard; start = start; sweep = sweep } ∷ pairs_with s (shard + 1) starts sweeps

abbrev pub pairs_of : PlainSession → List Pair
pairs_of m = flat_map (λ (s : Subscription). if s.live then pairs_with s 0 s.starts s.sweeps else []) m.subscriptions

-- behind the pair that was served last
abbrev pub is_behind_served : ℕ × ℕ → Pair → Bool
is_behind_served served p = nat_lt served.0 p.subscription.number
    || ((served.0 == p.subscription.number) && nat_lt served.1 p.shard)

-- in the order in which a connection serves them: by number, cyclically behind the one served last
abbrev pub pairs_after : Option (ℕ × ℕ) → List Pair → List Pair
pairs_after None pairs = pairs
pairs_after (Some served) pairs = filter (is_behind_served served) pairs
    ++ filter (λ p. not (is_behind_served served p)) pairs

-- ---- what is issued of one pair

abbrev pub reader_for : PlainSession → PlainConnection → Pair → Version → Reader
reader_for m k p v =
    record {
      client = m.client;
      limit = k.packet_limit;
      subscription = p.subscription.number;
      version = v;
      shard =
          p.shard;
    }

-- the run, cut, and the sweep behind it
abbrev pub issues_of : Reader → PlainSession → ℕ → List StoredMessage → Sweep → Issues
issues_of r m now messages sweep =
    record {
      subscription = r.subscription;
      shard = r.shard;
      entries = entries_from now r (next1_of m) (next2_of m) messages;
      sweep = sweep_after sweep messages;
    }

abbrev pub issues_under : Profile → ℕ → PlainSession → PlainConnection → Pair → Option Run → Option Version →
    Option Issues
issues_under profile now m k p (Some run) (Some v) =
    Some (issues_of (reader_for m k p v) m now
    (cut_run profile now (reader_for m k p v) (next1_of m) (next2_of m) run.messages) run.sweep)
issues_under profile now m k p run v = None

abbrev pub run_in : Profile → ℕ → Pair → Option ShardList → Option Run
run_in profile limit p None = None
run_in profile limit p (Some list) = next_run profile p.subscription.filter p.start list p.sweep limit

-- none where all that it wants is issued
abbrev pub issues_for : Profile → ℕ → PlainSession → PlainConnection → List ShardList → Pair → Option Issues
issues_for profile now m k lists p =
    issues_under profile now m k p (run_in profile (pump_limit profile m k) p (slice_get lists p.shard))
    (version_numbered p.subscription.version m)

-- of the first pair that has something
abbrev pub first_issues : Profile → ℕ → PlainSession → PlainConnection → List ShardList → List Pair → Option Issues
first_issues profile now m k lists [] = None
first_issues profile now m k lists (p ∷ ps) =
    elim (issues_for profile now m k lists p) as
    (λ found. Option Issues) [ Some b ↦ Some b | None ↦ first_issues profile now m k lists ps ]

-- What a pump issues over these lists, at a moment; none where nothing is wanted or may be issued.
abbrev pub pump_of : Profile → ℕ → PlainSession → PlainConnection → List ShardList → Option Issues
pump_of profile now m k lists = first_issues profile now m k lists (pairs_after k.served (pairs_of m))
