use Rattle.std.proofs.Common.{sym, ◌∙◌, arith}
use Rattle.broker_main.proofs.Places.{connection_here, no_connection}
use Rattle.broker_main.proofs.finding.place_of_connection.Goals as goal

pub returns-then-number-clause-place : goal.returns-then-number-clause-place
returns-then-number-clause-place c =
    connection_here c.args.connections.now c.args.number c.loop-i.i c.index-connections-i.result c.loop-i-test.true c.index-connections-i.is (sym c.number.ensures ∙ c.if-number.true) c.loop-i.invariant

pub returns-clause-place : goal.returns-clause-place
returns-clause-place c = no_connection c.args.connections.now c.args.number (λ j d l. c.loop-i.invariant j d (omega arith))
