-- One name to unfold where a fact is about bytes that are written out.
use Rattle.wire_fields.specs.Computing.{computing}
use Rattle.session_codec.specs.Reading.{so_many, changes_in, snapshot_in}

-- `unfolding decoding` opens what a fact about bytes that are written out needs
unfoldable pub decoding : Unit {0}
unfolding computing so_many changes_in snapshot_in
decoding = tt
