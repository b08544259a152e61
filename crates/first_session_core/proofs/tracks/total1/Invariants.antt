use Rattle.std.proofs.Common.{◌≡◌, ◌≤◌, take}
use Rattle.std.specs.Prelude.{sum_by}
use Rattle.first_session_terms.specs.declared.entry.Entry.{Entry}
use Rattle.first_session_terms.specs.Entry.{count1}
use Rattle.first_session_core.proofs.tracks.total1.Given as goal

-- the total of the entries so far, which is at most their number
abbrev pub invariant-loop-entry : goal.invariant-loop-entry
invariant-loop-entry l = record { small : l.total ≤ l.entry-index; value : l.total ≡ sum_by (λ (e : Entry). count1 e.kind) (take l.entry-index l.entries) }
