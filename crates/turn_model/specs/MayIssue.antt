-- Whether a session may be issued a batch of a subscription in a shard: a relation that names no stream, and the test
-- that computes it.
use Rattle.std.specs.Prelude.{ℕ, ◌≡◌, ◌≤◌, ◌<◌, ◌⊎◌, Bool, true, false, ◌&&◌, ◌||◌, not, ◌==◌, nat_le, nat_lt, List, []}
use Rattle.std.specs.Prelude.{◌∷◌, length, filter, slice_get, find, Option, Some, None}
use Rattle.std.specs.List.{list_any, list_all}
use Rattle.topic_model.specs.Profile.{Profile}
use Rattle.topic_model.specs.StoredMessage.{StoredMessage}
use Rattle.shard_model.specs.ShardList.{ShardList}
use Rattle.shard_model.specs.Wanted.{wanted, same_topic}
use Rattle.topic_model.specs.Places.{HasPlace}
use Rattle.shard_model.specs.SweepOrder.{is_in_order}
use Rattle.session_model.specs.declared.entry.Entry.{Entry}
use Rattle.session_model.specs.declared.entry.Kind.{Kind}
use Rattle.session_model.specs.declared.entry.Kind.TheVariants.{Track1, Track2, Zero, Silent}
use Rattle.session_model.specs.declared.entry.Version.{Version}
use Rattle.session_model.specs.PlainSession.{PlainSession, Subscription, subscription_numbered, version_numbered}
use Rattle.session_model.specs.Change.{Issues}
use Rattle.turn_model.specs.Delivery.{Reader, has_expired}
use Rattle.turn_model.specs.PlainConnection.{PlainConnection, rest_of}
use Rattle.turn_model.specs.Batch.{pump_limit, entries_from, bytes_from, packets_from, next1_of, next2_of, is_alike}

-- ---- who is issued what

-- a session and its connection at a moment; a live subscription with its present version, and where it starts in a
-- shard; and the list of that shard
pub record Issuing : Type 0 where
  pub session : PlainSession
  pub connection : PlainConnection
  pub now : ℕ
  pub subscription : Subscription
  pub version : Version
  pub shard : ℕ
  pub start : ℕ
  pub list : ShardList

abbrev pub reader_of : Issuing → Reader
reader_of i =
    record {
      client = i.session.client;
      limit = i.connection.packet_limit;
      subscription =
          i.subscription.number;
      version = i.version;
      shard = i.shard;
    }

abbrev pub wanted_by : Issuing → List StoredMessage
wanted_by i = wanted i.subscription.filter i.start i.list

-- the message with this offset was issued for the subscription in this shard
abbrev pub is_issue_of : ℕ → ℕ → ℕ → Entry → Bool
is_issue_of subscription shard offset e =
    (e.subscription == subscription) && ((e.shard == shard) && (e.offset == offset))

abbrev pub was_issued : Issuing → ℕ → Bool
was_issued i offset = list_any (is_issue_of i.subscription.number i.shard offset) i.session.issued

-- ---- the relation

-- messages stand one after another with rising offsets
abbrev pub Ascend : List StoredMessage → Type 0
Ascend [] = Unit {0}
Ascend (w ∷ []) = Unit {0}
Ascend (w ∷ v ∷ ws) = (w.offset < v.offset) × Ascend (v ∷ ws)

-- Each is wanted and not issued; and each earlier message of its topic that is wanted was issued, or stands before it.
abbrev pub NoneSkipped : Issuing → List StoredMessage → Type 0
NoneSkipped i ws =
    (place : ℕ) (w earlier : StoredMessage) → slice_get ws place ≡ Some w → HasPlace (wanted_by i) earlier →
    earlier.offset < w.offset →
    same_topic earlier.topic w.topic ≡ true →
    (was_issued i earlier.offset ≡ true) ⊎ ((before : ℕ) × (before < place) × (slice_get ws before ≡ Some earlier))

-- What a pump may issue: a list of entries for messages of one live subscription and one shard.
pub record MayIssue (profile : Profile) (i : Issuing) (b : Issues) (ws : List StoredMessage) : Type 0 where
  -- nothing is left to be sent again, and the subscription is live
  pub first : rest_of i.session i.connection ≡ []
  pub live : i.subscription.live ≡ true
  -- the entries are of these messages, each with its kind, under the present version, and the numbers go on from those
  -- issued
  pub subscription : b.subscription ≡ i.subscription.number
  pub shard : b.shard ≡ i.shard
  pub entries : b.entries ≡ entries_from i.now (reader_of i) (next1_of i.session) (next2_of i.session) ws
  pub some : 0 < length ws
  pub ascending : Ascend ws
  pub are_wanted : (k : ℕ) (w : StoredMessage) → slice_get ws k ≡ Some w → HasPlace (wanted_by i) w
  pub are_new : (k : ℕ) (w : StoredMessage) → slice_get ws k ≡ Some w → was_issued i w.offset ≡ false
  pub in_turn : NoneSkipped i ws
  -- all have expired, or none has
  pub alike : (k j : ℕ) (w v : StoredMessage) → slice_get ws k ≡ Some w → slice_get ws j ≡ Some v →
      has_expired i.now w ≡ has_expired i.now v
  -- as many as the batch, the room and the quota allow, and as many bytes, unless it is one packet
  pub few : length ws ≤ pump_limit profile i.session i.connection
  pub short : (bytes_from i.now (reader_of i) (next1_of i.session) (next2_of i.session) ws ≤ profile.batch_bytes)
      ⊎ (packets_from i.now (reader_of i) (next1_of i.session) (next2_of i.session) ws ≤ 1)

-- ---- the test

abbrev pub same_kind : Kind → Kind → Bool
same_kind (Track1 n) (Track1 k) = n == k
same_kind (Track2 n) (Track2 k) = n == k
same_kind Zero Zero = true
same_kind Silent Silent = true
same_kind other another = false

abbrev pub same_entry : Entry → Entry → Bool
same_entry a b =
    (a.subscription == b.subscription)
    && ((a.version == b.version) && ((a.shard == b.shard) && ((a.offset == b.offset) && same_kind a.kind b.kind)))

abbrev pub same_entries : List Entry → List Entry → Bool
same_entries [] [] = true
same_entries (a ∷ firsts) (b ∷ seconds) = same_entry a b && same_entries firsts seconds
same_entries other another = false

abbrev pub with_message : Option StoredMessage → List StoredMessage → List StoredMessage
with_message None ws = ws
with_message (Some w) ws = w ∷ ws

-- the messages of some entries among others: those that are there
abbrev pub messages_of : List StoredMessage → List Entry → List StoredMessage
messages_of ws [] = []
messages_of ws (e ∷ es) = with_message (find (λ (w : StoredMessage). w.offset == e.offset) ws) (messages_of ws es)

abbrev pub are_ascending : List StoredMessage → Bool
are_ascending [] = true
are_ascending (w ∷ []) = true
are_ascending (w ∷ v ∷ ws) = nat_lt w.offset v.offset && are_ascending (v ∷ ws)

-- what is wanted and not issued, in order
abbrev pub left_to_issue : Issuing → List StoredMessage
left_to_issue i = filter (λ (w : StoredMessage). not (was_issued i w.offset)) (wanted_by i)

-- the first of its topic among them
abbrev pub is_first : StoredMessage → List StoredMessage → Bool
is_first w [] = false
is_first w (v ∷ vs) =
    elim (v.offset == w.offset) as (λ same. Bool) [
      | true ↦ true
      | false ↦ elim (same_topic v.topic w.topic) as
          (λ same. Bool) [ true ↦ false | false ↦ is_first w vs ]
    ]

abbrev pub without_message : StoredMessage → List StoredMessage → List StoredMessage
without_message w [] = []
without_message w (v ∷ vs) = elim (v.offset == w.offset) as
    (λ same. List StoredMessage) [ true ↦ vs | false ↦ v ∷ without_message w vs ]

-- each in turn is the first of its topic that is left
abbrev pub come_in_turn : List StoredMessage → List StoredMessage → Bool
come_in_turn left [] = true
come_in_turn left (w ∷ ws) = is_first w left && come_in_turn (without_message w left) ws

abbrev pub all_alike : ℕ → List StoredMessage → Bool
all_alike now [] = true
all_alike now (w ∷ ws) = list_all (λ (v : StoredMessage). is_alike (has_expired now w) (has_expired now v)) ws

abbrev pub is_none_left : List Entry → Bool
is_none_left [] = true
is_none_left (e ∷ es) = false

abbrev pub may_issue_these : Profile → Issuing → Issues → List StoredMessage → Bool
may_issue_these profile i b ws =
    is_none_left (rest_of i.session i.connection)
    && (i.subscription.live
    && ((b.subscription == i.subscription.number)
    && ((b.shard == i.shard)
    && (same_entries b.entries (entries_from i.now (reader_of i) (next1_of i.session) (next2_of i.session) ws)
    && (nat_lt 0 (length ws)
    && (are_ascending ws
    && (come_in_turn (left_to_issue i) ws
    && (all_alike i.now ws
    && (nat_le (length ws) (pump_limit profile i.session i.connection)
    && (nat_le (bytes_from i.now (reader_of i) (next1_of i.session) (next2_of i.session) ws) profile.batch_bytes
    || nat_le (packets_from i.now (reader_of i) (next1_of i.session) (next2_of i.session) ws) 1))))))))))

abbrev pub may_issue_as : Profile → Issuing → Issues → Bool
may_issue_as profile i b = may_issue_these profile i b (messages_of (wanted_by i) b.entries)

-- ---- over the lists that a worker has seen

abbrev pub issuing_with : PlainSession → PlainConnection → ℕ → ℕ → Option ShardList → Option Subscription → Option ℕ →
    Option Version → Option Issuing
issuing_with m k now shard (Some list) (Some s) (Some start) (Some v) =
    Some (record {
      session = m;
      connection = k;
      now = now;
      subscription = s;
      version = v;
      shard = shard;
      start = start;
      list =
          list;
    })
issuing_with m k now shard list s start v = None

abbrev pub start_in : ℕ → Option Subscription → Option ℕ
start_in shard None = None
start_in shard (Some s) = slice_get s.starts shard

abbrev pub version_in : PlainSession → Option Subscription → Option Version
version_in m None = None
version_in m (Some s) = version_numbered s.version m

abbrev pub issuing_of : PlainSession → PlainConnection → ℕ → List ShardList → Issues → Option Subscription →
    Option Issuing
issuing_of m k now lists b s = issuing_with m k now b.shard (slice_get lists b.shard) s (start_in b.shard s)
    (version_in m s)

-- the sweep behind the batch is in order too
abbrev pub may_issue_under : Profile → Issues → Option Issuing → Bool
may_issue_under profile b None = false
may_issue_under profile b (Some i) = may_issue_as profile i b && is_in_order profile i.list i.start b.sweep

-- whether a pump may issue this batch, and leave this sweep, over these lists
abbrev pub may_issue : Profile → PlainSession → PlainConnection → ℕ → List ShardList → Issues → Bool
may_issue profile m k now lists b =
    may_issue_under profile b (issuing_of m k now lists b (subscription_numbered b.subscription m))
