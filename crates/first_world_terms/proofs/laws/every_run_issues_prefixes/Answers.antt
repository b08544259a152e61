-- A run of the world keeps what the plain broker keeps, and that issues prefixes.
use Rattle.std.proofs.Common.{sym, subst}
use Rattle.first_world_terms.specs.Turn.{State, opening_state}
use Rattle.first_world_terms.specs.Run.{after_lines}
use Rattle.first_world_terms.specs.PlainBroker.{empty_broker, plain_after}
use Rattle.first_world_terms.proofs.PlainRuns.{every_run_stands}
use Rattle.first_world_terms.proofs.Prefixes.{KeepsSame, issues_prefixes}
use Rattle.first_world_terms.proofs.Bridge.{KeepsSame-between}
use Rattle.first_world_terms.proofs.laws.every_run_issues_prefixes.Goals as goal

pub returns : goal.returns
returns c = λ texts.
    let stands = every_run_stands texts in
    issues_prefixes (after_lines opening_state texts).world texts
    (subst (λ (s : State). KeepsSame s.world (plain_after empty_broker texts)) (sym stands.same_state)
    (KeepsSame-between (plain_after empty_broker texts) stands.ghost stands.fits))
