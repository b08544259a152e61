-- A message as a shard keeps it, by plain values.
use Rattle.std.specs.Prelude.{ℕ, List, Option}

pub record StoredMessage : Type 0 where
  -- its place in the shard's list
  pub offset : ℕ
  -- who published it: the client identifier, and the number of its session
  pub publisher : List ℕ
  pub incarnation : ℕ
  -- the packet identifier where the QoS is 2, else 0
  pub id : ℕ
  pub qos : ℕ
  -- when it was stored, in milliseconds
  pub stamp : ℕ
  -- how many seconds it is kept for those who were away (MQTT 3.3.2.3.3), none for ever
  pub expiry : Option ℕ
  -- its topic name as levels
  pub topic : List (List ℕ)
  -- its properties as they are sent on, and its payload
  pub props : List ℕ
  pub payload : List ℕ
