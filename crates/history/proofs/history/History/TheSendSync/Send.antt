-- There is nothing of S in a history, so it may go where an S may.
use denote.RattleType.{RattleType}
use denote.Param.Send.{IsSend, owning_send, sendable}
use Rattle.history.specs.contracts.history.History.{the_row, the_type}

pub send : (S : RattleType) → IsSend S → IsSend (the_row S)
send S s = owning_send (the_type S) (search sendable, tt) (λ d. tt) (λ k x w. tt)
