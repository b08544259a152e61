-- What one pump of a connection issues.
use Rattle.std.specs.Prelude.{ℕ, ◌+◌, ◌-◌, min, Bool, false, ◌&&◌, ◌||◌, not, ◌==◌, nat_lt, nat_le, if◌then◌else◌, List, [], ◌∷◌, ◌++◌, length, map, filter, take, slice_get, Option, Some, None}
use Rattle.std.specs.List.{flat_map, filter_map}
use Rattle.first_topic_name.specs.StoredMessage.{StoredMessage}
use Rattle.first_shard_terms.specs.declared.sweep.Sweep.{Sweep}
use Rattle.first_shard_terms.specs.ShardList.{ShardList}
use Rattle.first_shard_terms.specs.SweepOrder.{Run, next_run, sweep_after}
use Rattle.first_session_terms.specs.declared.entry.Entry.{Entry}
use Rattle.first_session_terms.specs.declared.entry.Kind.{Kind}
use Rattle.first_session_terms.specs.declared.entry.Kind.TheVariants.{Track1, Track2, Zero, Silent}
use Rattle.first_session_terms.specs.declared.entry.Version.{Version}
use Rattle.first_session_terms.specs.Entry.{count1, count2}
use Rattle.first_session_terms.specs.PlainSession.{PlainSession, Subscription, room_of, issued1_of, issued2_of, version_numbered}
use Rattle.first_mqtt_packet.specs.declared.packet.Packet.{Packet}
use Rattle.first_mqtt_packet.specs.Written.{written}
use Rattle.first_session_core.specs.PlainConnection.{PlainConnection}
use Rattle.first_session_core.specs.Delivery.{delivery, kind_of}

-- at most so many messages, and so many bytes of packets unless it is one packet
abbrev pub batch_messages : ℕ
batch_messages = 64

abbrev pub batch_bytes : ℕ
batch_bytes = 2097152

-- how many entries a pump may issue
abbrev pub pump_limit : PlainSession → PlainConnection → ℕ
pump_limit m k = min batch_messages (min (room_of m) k.quota)

-- what is issued, and the packet that goes out for it, none where it is silent
pub record Due : Type 0 where
  pub entry : Entry
  pub packet : Option Packet

-- the packet of an entry
abbrev pub packet_of_kind : Version → StoredMessage → Kind → Option Packet
packet_of_kind v w (Track1 number) = Some (delivery false v w (Track1 number))
packet_of_kind v w (Track2 number) = Some (delivery false v w (Track2 number))
packet_of_kind v w Zero = Some (delivery false v w Zero)
packet_of_kind v w Silent = None

abbrev pub size_of : Option Packet → ℕ
size_of None = 0
size_of (Some packet) = length (written packet)

-- for whom a batch is: the client and the longest packet that it takes, the subscription's number and version, the shard
pub record Reader : Type 0 where
  pub client : List ℕ
  pub limit : ℕ
  pub subscription : ℕ
  pub version : Version
  pub shard : ℕ

-- a message as it is issued with the next numbers of the two tracks
abbrev pub due_of : Reader → ℕ → ℕ → StoredMessage → Due
due_of r next1 next2 w =
    let kind = kind_of r.client r.limit r.version w next1 next2 in
    record {
      entry = record { subscription = r.subscription; version = r.version.number; shard = r.shard; offset = w.offset; kind = kind };
      packet = packet_of_kind r.version w kind;
    }

-- of the messages that follow, those whose packets fit into so many bytes
abbrev pub batch_within : Reader → ℕ → ℕ → ℕ → List StoredMessage → List Due
batch_within r next1 next2 room [] = []
batch_within r next1 next2 room (w ∷ ws) =
    let due = due_of r next1 next2 w in
    if nat_le (size_of due.packet) room
    then due ∷ batch_within r (next1 + count1 due.entry.kind) (next2 + count2 due.entry.kind) (room - size_of due.packet) ws
    else []

-- the messages of a run as they are issued: the first one always, the others while they fit
abbrev pub batch_of : Reader → ℕ → ℕ → List StoredMessage → List Due
batch_of r next1 next2 [] = []
batch_of r next1 next2 (w ∷ ws) =
    let due = due_of r next1 next2 w in
    due ∷ batch_within r (next1 + count1 due.entry.kind) (next2 + count2 due.entry.kind) (batch_bytes - size_of due.packet) ws

-- what a pump issued: the subscription and the shard, the entries, the sweep after them, and the packets
pub record Issue : Type 0 where
  pub subscription : ℕ
  pub shard : ℕ
  pub entries : List Entry
  pub sweep : Sweep
  pub packets : List Packet

abbrev pub issue_of : Reader → PlainSession → ℕ → Run → Issue
issue_of r m limit run =
    let batch = batch_of r (issued1_of m + 1) (issued2_of m + 1) (take limit run.messages) in
    record {
      subscription = r.subscription;
      shard = r.shard;
      entries = map (λ (d : Due). d.entry) batch;
      sweep = sweep_after run.stretch (take (length batch) run.messages);
      packets = filter_map (λ (d : Due). d.packet) batch;
    }

-- a live subscription, and a shard
pub record Pair : Type 0 where
  pub subscription : Subscription
  pub shard : ℕ
  pub start : ℕ
  pub sweep : Sweep

abbrev pub pair_at : Subscription → ℕ × Sweep → ℕ → Pair
pair_at s numbered start = record { subscription = s; shard = numbered.0; start = start; sweep = numbered.1 }

-- the pairs of a subscription with the shards, by number
abbrev pub pairs_with : Subscription → ℕ → List ℕ → List Sweep → List Pair
pairs_with s shard [] sweeps = []
pairs_with s shard (start ∷ starts) [] = []
pairs_with s shard (start ∷ starts) (sweep ∷ sweeps) =
    record { subscription = s; shard = shard; start = start; sweep = sweep } ∷ pairs_with s (shard + 1) starts sweeps

abbrev pub pairs_of : PlainSession → List Pair
pairs_of m = flat_map (λ (s : Subscription). if s.live then pairs_with s 0 s.starts s.sweeps else []) m.subscriptions

-- behind the pair that was served last
abbrev pub is_behind : ℕ × ℕ → Pair → Bool
is_behind served p = nat_lt served.0 p.subscription.number || ((served.0 == p.subscription.number) && nat_lt served.1 p.shard)

-- the pairs in the order in which this connection serves them: by number, cyclically behind the one served last
abbrev pub pairs_after : Option (ℕ × ℕ) → List Pair → List Pair
pairs_after None pairs = pairs
pairs_after (Some served) pairs = filter (is_behind served) pairs ++ filter (λ p. not (is_behind served p)) pairs

-- what is issued of one pair, none where all that it wants is issued
abbrev pub issue_under : PlainSession → PlainConnection → ℕ → Pair → Option Run → Option Version → Option Issue
issue_under m k limit p None v = None
issue_under m k limit p (Some run) None = None
issue_under m k limit p (Some run) (Some v) =
    Some (issue_of (record { client = m.client; limit = k.packet_limit; subscription = p.subscription.number; version = v; shard = p.shard }) m limit run)

abbrev pub run_in : Pair → Option ShardList → Option Run
run_in p None = None
run_in p (Some list) = next_run p.subscription.filter p.start list p.sweep

abbrev pub issue_for : PlainSession → PlainConnection → List ShardList → ℕ → Pair → Option Issue
issue_for m k lists limit p =
    issue_under m k limit p (run_in p (slice_get lists p.shard)) (version_numbered p.subscription.version m)

-- the first pair that has something
abbrev pub or_else : Option Issue → Option Issue → Option Issue
or_else (Some issue) later = Some issue
or_else None later = later

abbrev pub first_issue : PlainSession → PlainConnection → List ShardList → ℕ → List Pair → Option Issue
first_issue m k lists limit [] = None
first_issue m k lists limit (p ∷ ps) = or_else (issue_for m k lists limit p) (first_issue m k lists limit ps)

-- what a pump issues over these lists, none where nothing is to be sent or may be
abbrev pub pump_of : PlainSession → PlainConnection → List ShardList → Option Issue
pump_of m k lists = if pump_limit m k == 0 then None else first_issue m k lists (pump_limit m k) (pairs_after k.served (pairs_of m))

-- how many of the entries count against the quota
abbrev pub quota_used : List Entry → ℕ
quota_used [] = 0
quota_used (e ∷ es) = count1 e.kind + count2 e.kind + quota_used es

-- the connection after that
abbrev pub pumped_connection : Issue → PlainConnection → PlainConnection
pumped_connection issue k = record k { quota = k.quota - quota_used issue.entries; served = Some (issue.subscription, issue.shard) }
