-- What a packet asks for, changes and is answered, given the outcomes of what it asked for: the shape of a step.
use Rattle.std.specs.Prelude.{ℕ, ◌≡◌, Bool, true, false, ◌&&◌, List, [], ◌∷◌, Option, Some, None}
use Rattle.topic_model.specs.Profile.{Profile, Config}
use Rattle.topic_model.specs.StoredMessage.{StoredMessage}
use Rattle.shard_model.specs.ShardList.{ShardList}
use Rattle.shard_model.specs.Storing.{Op}
use Rattle.session_model.specs.PlainSession.{Sessions}
use Rattle.session_model.specs.Change.{Change}
use Rattle.mqtt_packet.specs.Packet.{PlainPacket}
use Rattle.turn_model.specs.PlainConnection.{PlainConnection, Effects, no_effects}
use Rattle.turn_model.specs.Reasons as Reason

-- What a worker goes by: the profile and the configuration, its number, its sessions with the number of the next one
-- and those of them that are committed, its connections, the list that it has seen of each shard, and the moment.
pub record Setting : Type 0 where
  pub profile : Profile
  pub config : Config
  pub worker : ℕ
  pub sessions : Sessions
  pub committed : Sessions
  pub connections : List PlainConnection
  pub seen : List ShardList
  pub now : ℕ

-- a group that is asked of a shard
pub record Ask : Type 0 where
  pub shard : ℕ
  pub ops : List Op

-- what a shard answered: it stored the group, with the message and its shard that stands for a publish of it; it is
-- full, it would await too many identifiers, or a device of it failed
pub data Outcome : Type 0 where
  Kept : Option (ℕ × StoredMessage) → Outcome
  IsFull : Outcome
  AwaitsTooMany : Outcome
  Faulted : Outcome

-- a reply, and the message with its shard that it acknowledges, if it does
pub record Reply : Type 0 where
  pub packet : PlainPacket
  pub acked : Option (ℕ × StoredMessage)

abbrev pub reply : PlainPacket → Reply
reply packet = record { packet = packet; acked = None }

abbrev pub replies : List PlainPacket → List Reply
replies [] = []
replies (packet ∷ packets) = reply packet ∷ replies packets

-- A connection is closed: with a reason that a DISCONNECT tells it, or with nothing written; and the number of the rule
-- that was broken, 0 for none.
pub record Close : Type 0 where
  pub connection : ℕ
  pub reason : Option ℕ
  pub rule : ℕ

-- The groups that are still asked, the changes, the replies, the closes, and what happens to the connection.
pub record Step : Type 0 where
  pub groups : List Ask
  pub changes : List Change
  pub replies : List Reply
  pub closes : List Close
  pub effects : Effects

-- nothing at all
abbrev pub idle : Step
idle = record { groups = []; changes = []; replies = []; closes = []; effects = no_effects }

abbrev pub asking : Ask → Step
asking ask = record idle { groups = ask ∷ [] }

abbrev pub replying : List Reply → Effects → Step
replying rs effects = record idle { replies = rs; effects = effects }

abbrev pub close_with : ℕ → ℕ → ℕ → Close
close_with connection reason rule = record { connection = connection; reason = Some reason; rule = rule }

abbrev pub closing : ℕ → ℕ → ℕ → Step
closing connection reason rule = record idle { closes = close_with connection reason rule ∷ [] }

abbrev pub breaking : ℕ → ℕ → Step
breaking connection rule = closing connection Reason.protocol_error rule

-- with nothing written
abbrev pub closing_silently : ℕ → ℕ → Step
closing_silently connection rule =
    record idle { closes = record { connection = connection; reason = None; rule = rule } ∷ [] }

-- ---- what a step is owed

abbrev pub is_nil : {A : Type 0} → List A → Bool
is_nil [] = true
is_nil (x ∷ xs) = false

-- it asks for no group and doesn't close
abbrev pub is_settled : Step → Bool
is_settled step = is_nil step.groups && is_nil step.closes

-- and it changes nothing
abbrev pub owes_nothing : Step → Bool
owes_nothing step = is_settled step && is_nil step.changes

-- all of this client
abbrev pub AreOf : List ℕ → List Change → Type 0
AreOf client [] = Unit {0}
AreOf client (c ∷ changes) = (c.client ≡ client) × AreOf client changes
