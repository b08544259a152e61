use Rattle.record_codec.specs.OffsetLaws.{consecutive}
use Rattle.record_codec.proofs.laws.offsets_are_consecutive.Goals as goal

pub returns : goal.returns
returns c = consecutive
