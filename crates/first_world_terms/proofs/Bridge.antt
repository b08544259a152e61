-- A world between two lines keeps what the plain broker keeps.
use Rattle.std.proofs.Common.{refl}
use Rattle.first_world_terms.specs.PlainBroker.{PlainBroker}
use Rattle.first_world_terms.proofs.PlainRuns.{Ghost, Fits, world_with}
use Rattle.first_world_terms.proofs.Prefixes.{KeepsSame}

pub KeepsSame-between : (p : PlainBroker) (g : Ghost) → Fits p g → KeepsSame (world_with p.messages p.connections g) p
KeepsSame-between p g f =
    record { shard = _; worker = _; one_shard = refl; one_worker = refl; same_messages = refl; same_sessions = f.same_sessions }
