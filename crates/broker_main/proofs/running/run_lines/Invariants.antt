-- What was put, and what the lines that are left print, are the whole text.
use Rattle.std.proofs.Common.{◌≤◌, length}
use Rattle.first_world_terms.specs.PlainBroker.{empty_broker, plain_text}
use Rattle.first_world_terms.specs.Script.{line_texts}
use Rattle.broker_main.proofs.RunningLemmas.{PutSoFar}
use Rattle.broker_main.proofs.running.run_lines.Given as goal

abbrev pub invariant-lines : goal.invariant-lines
invariant-lines g l = record {
  put : PutSoFar (g.K.Sink.taken l.initial.sink) (g.K.Sink.taken l.sink) (plain_text empty_broker (line_texts l.script)) (plain_text l.broker (line_texts l.rest));
  later : g.K.Sink.faults l.initial.sink ≤ g.K.Sink.faults l.sink;
}

abbrev pub decreases-lines : goal.decreases-lines
decreases-lines g l = length l.rest
