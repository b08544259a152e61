-- One name to unfold where a fact is about bytes that are written out.
use Rattle.std.specs.Char.{encode_utf8}
use Rattle.std.specs.Str.{is_utf8, chars}
use Rattle.std.specs.Str.Lossy.{utf8_valid_len, utf8_error_len}
use Rattle.wire_fields.specs.Reading.{var_within, bin_at, text_at}

-- `unfolding computing` opens what a fact about bytes that are written out needs
unfoldable pub computing : Unit {0}
unfolding encode_utf8 is_utf8 chars utf8_valid_len utf8_error_len var_within bin_at text_at
computing = tt
