-- One name to unfold where a fact is about bytes that are written out.
use Rattle.mqtt_props.specs.Reading.{prop_at}
use Rattle.mqtt_props.specs.Props.{each_within, in_writing_order}
use Rattle.session_codec.specs.Computing.{decoding}
use Rattle.record_codec.specs.HasSpelling.{is_list}
use Rattle.record_codec.specs.Reading.{so_many_in_turn, group_in, opening_in, manifest_in}

-- `unfolding reading` opens what a fact about bytes that are written out needs
unfoldable pub reading : Unit {0}
unfolding decoding prop_at each_within in_writing_order is_list so_many_in_turn group_in opening_in manifest_in
reading = tt
