-- What a line asks for: a packet that is read, pieces that are fed to a framer, or properties that are read.
use Rattle.std.specs.Prelude.{ℕ, Bool, ◌&&◌, ◌||◌, not, ◌==◌, nat_le, if◌then◌else◌, List, [], ◌∷◌, length, slice_index, codes, Option, Some, None, Result, Ok, Err, ◌≡◌, refl}
use Rattle.std.specs.List.{list_all}
use Rattle.std.specs.Char.{is_ascii_digit}
use Rattle.std.specs.Str.{bytes_eq}
use Rattle.std.specs.Str.Parse.{digits_value}
use Rattle.hex.specs.Hex.{decode_of, decode_pairs}
use Rattle.hex.specs.declared.error.FromHexError.{FromHexError}
use Rattle.mqtt_props.specs.declared.table.Holder.{Holder}
use Rattle.mqtt_props.specs.declared.table.Holder.TheVariants.{Connect, Connack, Publish, Puback, Pubrec, Pubrel, Pubcomp, Subscribe, Suback, Unsubscribe, Unsuback, Pingreq, Pingresp, Disconnect, Auth, Will}
use Rattle.topic_model.specs.Decimals.{is_decimal}
use Rattle.packet_lines.specs.Lines.{words}

pub data Command : Type 0 where
  Read : List ℕ → Command
  Feed : ℕ → List (List ℕ) → Command
  Props : Holder → List ℕ → Command

-- a limit is a number of four bytes in decimal
abbrev pub limit_of : List ℕ → Option ℕ
limit_of word = if is_decimal word && nat_le (digits_value 10 word) 4294967295 then Some (digits_value 10 word) else None

-- what a kind of packet is called, and a will
abbrev pub holder_of : List ℕ → Option Holder
holder_of word =
    if bytes_eq word (codes "connect") then Some Connect
    else if bytes_eq word (codes "connack") then Some Connack
    else if bytes_eq word (codes "publish") then Some Publish
    else if bytes_eq word (codes "puback") then Some Puback
    else if bytes_eq word (codes "pubrec") then Some Pubrec
    else if bytes_eq word (codes "pubrel") then Some Pubrel
    else if bytes_eq word (codes "pubcomp") then Some Pubcomp
    else if bytes_eq word (codes "subscribe") then Some Subscribe
    else if bytes_eq word (codes "suback") then Some Suback
    else if bytes_eq word (codes "unsubscribe") then Some Unsubscribe
    else if bytes_eq word (codes "unsuback") then Some Unsuback
    else if bytes_eq word (codes "pingreq") then Some Pingreq
    else if bytes_eq word (codes "pingresp") then Some Pingresp
    else if bytes_eq word (codes "disconnect") then Some Disconnect
    else if bytes_eq word (codes "auth") then Some Auth
    else if bytes_eq word (codes "will") then Some Will
    else None

abbrev pub if_decoded : Result (List ℕ) FromHexError → Option (List ℕ)
if_decoded (Ok bytes) = Some bytes
if_decoded (Err e) = None

-- Pairs of hexadecimal digits, of lower or upper case; `-` for no bytes. A word of no bytes stands for nothing.
abbrev pub bytes_of : List ℕ → Option (List ℕ)
bytes_of [] = None
bytes_of (digit ∷ digits) = if bytes_eq (digit ∷ digits) (codes "-") then Some [] else if_decoded (decode_of (digit ∷ digits))

-- one piece before others
abbrev pub and_piece : Option (List ℕ) → Option (List (List ℕ)) → Option (List (List ℕ))
and_piece None others = None
and_piece (Some piece) None = None
and_piece (Some piece) (Some pieces) = Some (piece ∷ pieces)

-- the bytes of each word, none where one doesn't stand for bytes
abbrev pub pieces_of : List (List ℕ) → Option (List (List ℕ))
pieces_of [] = Some []
pieces_of (word ∷ more) = and_piece (bytes_of word) (pieces_of more)

abbrev pub if_read : Option (List ℕ) → Option Command
if_read None = None
if_read (Some bytes) = Some (Read bytes)

abbrev pub if_fed : Option ℕ → Option (List (List ℕ)) → Option Command
if_fed None pieces = None
if_fed (Some limit) None = None
if_fed (Some limit) (Some pieces) = Some (Feed limit pieces)

abbrev pub if_props : Option Holder → Option (List ℕ) → Option Command
if_props None bytes = None
if_props (Some holder) None = None
if_props (Some holder) (Some bytes) = Some (Props holder bytes)

-- HEX
abbrev pub read_of : List (List ℕ) → Option Command
read_of [] = None
read_of (digits ∷ []) = if_read (bytes_of digits)
read_of (digits ∷ more ∷ words) = None

-- LIMIT HEX, and more pieces
abbrev pub feed_of : List (List ℕ) → Option Command
feed_of [] = None
feed_of (limit ∷ []) = None
feed_of (limit ∷ piece ∷ more) = if_fed (limit_of limit) (pieces_of (piece ∷ more))

-- HOLDER HEX
abbrev pub props_of : List (List ℕ) → Option Command
props_of [] = None
props_of (holder ∷ []) = None
props_of (holder ∷ digits ∷ []) = if_props (holder_of holder) (bytes_of digits)
props_of (holder ∷ digits ∷ more ∷ words) = None

-- the command of these words, none where they have none of the forms
abbrev pub command_of_words : List (List ℕ) → Option Command
command_of_words [] = None
command_of_words (name ∷ words) =
    if bytes_eq name (codes "read") then read_of words
    else if bytes_eq name (codes "feed") then feed_of words
    else if bytes_eq name (codes "props") then props_of words
    else None

abbrev pub command_of : List ℕ → Option Command
command_of line = command_of_words (words line)

-- examples
a_read : command_of (codes "read C000") ≡ Some (Read (0xC0 ∷ 0x00 ∷ []))
unfolding decode_pairs
a_read = refl

a_read_of_nothing : command_of (codes "read -") ≡ Some (Read [])
a_read_of_nothing = refl

a_feed : command_of (codes "feed 4294967295 c0 - 00") ≡ Some (Feed 4294967295 ((0xC0 ∷ []) ∷ [] ∷ (0x00 ∷ []) ∷ []))
unfolding decode_pairs
a_feed = refl

a_list : command_of (codes "props will 00") ≡ Some (Props Will (0x00 ∷ []))
unfolding decode_pairs
a_list = refl

no_pieces : command_of (codes "feed 100") ≡ None
no_pieces = refl

limit_too_large : command_of (codes "feed 4294967296 00") ≡ None
limit_too_large = refl

leading_zero : command_of (codes "feed 01 00") ≡ None
leading_zero = refl

two_blanks : command_of (codes "read  00") ≡ None
two_blanks = refl

an_odd_digit : command_of (codes "read 000") ≡ None
an_odd_digit = refl

no_digits : command_of (codes "read ") ≡ None
no_digits = refl

upper_name : command_of (codes "props Will 00") ≡ None
upper_name = refl
