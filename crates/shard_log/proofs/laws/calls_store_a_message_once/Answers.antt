use Rattle.std.proofs.Common.{inl, inr, refl}
use Rattle.shard_log.proofs.OnceLemmas.{calls_once}
use Rattle.shard_log.proofs.laws.calls_store_a_message_once.Goals as goal

pub returns-clause-known : goal.returns-clause-known
returns-clause-known c = λ a list known stored calls n some is run. calls_once a list known stored known calls n some is run (inl refl)

pub returns-clause-stored : goal.returns-clause-stored
returns-clause-stored c = λ a list known stored calls n some is run. calls_once a list known stored stored calls n some is run (inr refl)
