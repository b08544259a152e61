-- Every run issues prefixes, and the text about a script that is too long tells how it was read.
use Rattle.std.proofs.Common.{inr}
use Rattle.first_world_terms.specs.Script.{line_texts}
use Rattle.broker_main.proofs.TextLemmas.{if_told}
use Rattle.broker_main.proofs.offline.run_offline.Goals as goal

pub returns-then-not-is_replay-clause-prefixes : goal.returns-then-not-is_replay-clause-prefixes
returns-then-not-is_replay-clause-prefixes g c = if_told _ _ (λ script. c.every_run_issues_prefixes.ensures (line_texts script))

pub returns-in-Ok-clause-prefixes : goal.returns-in-Ok-clause-prefixes
returns-in-Ok-clause-prefixes g c = if_told _ _ (λ script. c.every_run_issues_prefixes.ensures (line_texts script))

pub returns-in-Err-TooLong-clause-prefixes : goal.returns-in-Err-TooLong-clause-prefixes
returns-in-Err-TooLong-clause-prefixes g c = if_told _ _ (λ script. c.every_run_issues_prefixes.ensures (line_texts script))

pub returns-in-Err-Source-clause-prefixes : goal.returns-in-Err-Source-clause-prefixes
returns-in-Err-Source-clause-prefixes g c = if_told _ _ (λ script. c.every_run_issues_prefixes.ensures (line_texts script))

pub returns-in-Err-Memory-clause-prefixes : goal.returns-in-Err-Memory-clause-prefixes
returns-in-Err-Memory-clause-prefixes g c = if_told _ _ (λ script. c.every_run_issues_prefixes.ensures (line_texts script))

pub returns-in-Err-TooLong-clause-too_long : goal.returns-in-Err-TooLong-clause-too_long
returns-in-Err-TooLong-clause-too_long g c two replay =
    let stops = rw c.in-Err-TooLong.field-0-is at c.in-Err-TooLong.ensures.stopped_once in
    inr (stops, (c.refuse-in-Err-TooLong.ensures.ends.refused two).1)
