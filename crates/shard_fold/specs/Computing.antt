-- One name to unfold where a fact is about records that are written out.
use Rattle.record_codec.specs.Computing.{reading}
use Rattle.shard_fold.specs.Fold.{cuts_in, folded}

-- `unfolding folding` opens what a fact about records that are written out needs
unfoldable pub folding : Unit {0}
unfolding reading cuts_in folded
folding = tt
