use Rattle.std.proofs.Common.{[], ◌≡◌, List, ℕ, inl, subst, ◌∙◌}
use Rattle.outside.specs.DiskModel.{DiskState, LeavesOnly, leaves_only_at_first}
use Rattle.gated_log.specs.PlainLog.{AllHave, AtRest, PlainLog}
use Rattle.gated_log.specs.Stands.{IsBeforeOrAfter}

-- before anything is written
still : {D : Type 0} (state : D → DiskState) (log : PlainLog D) (first : List ℕ)
    → ((image : List ℕ) → (state log.disk).left_since (state log.disk).calls image → (state log.disk).may_leave image) → log.standing ≡ AtRest → log.payloads ≡ []
    → AllHave log.standing log.payloads (state log.disk).may_leave → LeavesOnly (state log.disk) (state log.disk) (IsBeforeOrAfter [] first)
still state log first now rests empty has =
    leaves_only_at_first (state log.disk) (IsBeforeOrAfter [] first) now
    (λ image left. inl (subst (λ s. AllHave s log.payloads (state log.disk).may_leave) rests has image left ∙ empty))
