-- A message as it is kept: what was stored, and where its body lies if that is not in memory.
use Rattle.std.specs.Prelude.{ℕ, Option}
use Rattle.topic_model.specs.StoredMessage.{StoredMessage}

-- a body on a disk: the slot disk, where in it the body begins, and how many bytes it has
pub record ColdPlace : Type 0 where
  pub slot : ℕ
  pub at : ℕ
  pub len : ℕ

-- none where the body is in memory
pub record KeptMessage : Type 0 where
  pub stored : StoredMessage
  pub place : Option ColdPlace
