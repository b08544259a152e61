use Rattle.shard_model.specs.laws.NumberLaws.{streams_exact, each_has_number, number_is_place}
use Rattle.shard_model.proofs.laws.a_stream_is_a_number.Goals as goal

pub returns-clause-streams : goal.returns-clause-streams
returns-clause-streams c = streams_exact

pub returns-clause-each : goal.returns-clause-each
returns-clause-each c = each_has_number

pub returns-clause-place : goal.returns-clause-place
returns-clause-place c = number_is_place
