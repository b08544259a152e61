use Rattle.shard_model.specs.laws.PathLaws.{topic_keeps_path}
use Rattle.shard_model.proofs.laws.a_placed_topic_keeps_its_path.Goals as goal

pub returns : goal.returns
returns c = topic_keeps_path
