-- A message as a shard keeps it, by plain values.
use Rattle.std.specs.Prelude.{ℕ, List, Option}

pub record StoredMessage : Type 0 where
  -- its place in the shard's list
  pub offset : ℕ
  -- who published it: the client identifier, and the number of its session
  pub publisher : List ℕ
  pub incarnation : ℕ
  -- the packet identifier where the QoS is 2, else 0 (MQTT 3.3.2.2)
  pub id : ℕ
  pub qos : ℕ
  -- when it was stored, in milliseconds
  pub stamp : ℕ
  -- its Message Expiry Interval in seconds (MQTT 3.3.2.3.3), none for ever
  pub expiry : Option ℕ
  -- its topic name as levels
  pub topic : List (List ℕ)
  -- its properties as they are sent on, a list without its length in front, and its payload
  pub props : List ℕ
  pub payload : List ℕ
