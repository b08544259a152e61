use Rattle.shard_log.proofs.OnceLemmas.{stored_once}
use Rattle.shard_log.proofs.laws.a_message_is_stored_once.Goals as goal

pub returns : goal.returns
returns c = stored_once
