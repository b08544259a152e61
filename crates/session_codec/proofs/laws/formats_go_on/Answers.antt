use Rattle.session_codec.specs.KeepLaws.{second_format}
use Rattle.session_codec.proofs.laws.formats_go_on.Goals as goal

pub returns : goal.returns
returns c = second_format
