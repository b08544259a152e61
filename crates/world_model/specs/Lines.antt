-- The lines of a script.
use Rattle.std.specs.Prelude.{ℕ, ◌+◌, ◌*◌, ◌-◌, Bool, true, false, ◌&&◌, ◌||◌, not, ◌==◌, nat_le, nat_lt, if◌then◌else◌}
use Rattle.std.specs.Prelude.{List, [], ◌∷◌, length, slice_index, codes, Option, Some, None, Result, Ok, Err, ◌≡◌, refl}
use Rattle.topic_model.specs.Decimals.{number_between}
use Rattle.std.specs.List.{list_all}
use Rattle.std.specs.Char.{is_ascii_digit}
use Rattle.std.specs.Str.{bytes_eq}
use Rattle.std.specs.Str.Parse.{digits_value}
use Rattle.hex.specs.Hex.{decode_of}
use Rattle.hex.specs.declared.error.FromHexError.{FromHexError}
use Rattle.topic_model.specs.Levels.{pieces}
use Rattle.topic_model.specs.Profile.{Config, default_config}

-- What a line does: nothing; it changes the configuration; it opens, sends on, answers on, pumps or closes a
-- connection; it moves the clock; a device call of a disk fails from then on, counted; all crashes, with an image of
-- each disk; and it looks at what is there.
pub data Line : Type 0 where
  Idle : Line
  Set : Config → Line
  Open : ℕ → Line
  Send : ℕ → List ℕ → Line
  Ack : ℕ → Line
  Pump : ℕ → Line
  Close : ℕ → Line
  Tick : ℕ → Line
  Fail : ℕ → ℕ → Line
  Crash : ℕ → Line
  Look : Line

-- ---- words

abbrev pub connection_number : List ℕ → Option ℕ
connection_number text = number_between 0 65535 text

abbrev pub bytes_or_none : Result (List ℕ) FromHexError → Option (List ℕ)
bytes_or_none (Ok bytes) = Some bytes
bytes_or_none (Err e) = None

-- 1 to 1,048,576 pairs of hexadecimal digits of either case
abbrev pub hex_of : List ℕ → Option (List ℕ)
hex_of text = if nat_le 2 (length text) && nat_le (length text) (2 * 1048576) then bytes_or_none (decode_of text)
    else None

abbrev pub is_word : List ℕ → List ℕ → Bool
is_word word text = bytes_eq word text

-- ---- lines

abbrev pub if_number : (ℕ → Line) → Option ℕ → Option Line
if_number line None = None
if_number line (Some n) = Some (line n)

abbrev pub if_both : {A : Type 0} → (ℕ → A → Line) → Option ℕ → Option A → Option Line
if_both line None x = None
if_both line (Some n) None = None
if_both line (Some n) (Some x) = Some (line n x)

-- the configuration with one of its numbers set
abbrev pub set_to : Config → List ℕ → List ℕ → Option Line
set_to config name n =
    if is_word name (codes "shards") then if_number (λ n. Set (record config { shards = n })) (number_between 1 8 n)
    else if is_word name (codes "workers")
    then if_number (λ n. Set (record config { workers = n })) (number_between 1 16 n)
    else if is_word name (codes "top") then if_number (λ n. Set (record config { top = n })) (number_between 1 1000 n)
    else if is_word name (codes "below")
    then if_number (λ n. Set (record config { below = n })) (number_between 1 1000 n)
    else if is_word name (codes "messages")
    then if_number (λ n. Set (record config { messages = n })) (number_between 1 32768 n)
    else if is_word name (codes "retention")
    then if_number (λ n. Set (record config { retention = n })) (number_between 0 1000000000000 n)
    else None

-- so many disks: ten of each shard, and two of each worker
abbrev pub disks_of : Config → ℕ
disks_of config = 10 * config.shards + 2 * config.workers

abbrev pub line_of_one : List ℕ → Option Line
line_of_one word = if is_word word (codes "look") then Some Look else None

abbrev pub line_of_two : List ℕ → List ℕ → Option Line
line_of_two word n =
    if is_word word (codes "open") then if_number Open (connection_number n)
    else if is_word word (codes "pump") then if_number Pump (connection_number n)
    else if is_word word (codes "ack") then if_number Ack (connection_number n)
    else if is_word word (codes "close") then if_number Close (connection_number n)
    else if is_word word (codes "tick") then if_number Tick (number_between 0 1000000000 n)
    else if is_word word (codes "crash") then if_number Crash (number_between 0 4 n)
    else None

abbrev pub line_of_three : Config → Bool → List ℕ → List ℕ → List ℕ → Option Line
line_of_three config begun word a b =
    if is_word word (codes "send") then if_both Send (connection_number a) (hex_of b)
    else if is_word word (codes "fail")
    then if_both Fail (number_between 0 (disks_of config - 1) a) (number_between 1 1000000 b)
    else if is_word word (codes "set") && not begun then set_to config a b
    else None

-- the line of these words, none where it is outside the grammar; the configuration is set before the first line of
-- another kind
abbrev pub line_of_words : Config → Bool → List (List ℕ) → Option Line
line_of_words config begun [] = None
line_of_words config begun (word ∷ []) = line_of_one word
line_of_words config begun (word ∷ a ∷ []) = line_of_two word a
line_of_words config begun (word ∷ a ∷ b ∷ []) = line_of_three config begun word a b
line_of_words config begun (word ∷ a ∷ b ∷ c ∷ words) = None

-- An empty line and a comment do nothing; else one space parts the words.
abbrev pub line_of : Config → Bool → List ℕ → Option Line
line_of config begun [] = Some Idle
line_of config begun (b ∷ bs) = if b == 0x23 then Some Idle else line_of_words config begun (pieces 0x20 (b ∷ bs))

-- ---- a script

-- As lines are read: the configuration so far, and whether a line of another kind came.
pub record ScriptReading : Type 0 where
  pub config : Config
  pub begun : Bool

abbrev pub read_on : Line → ScriptReading → ScriptReading
read_on Idle r = r
read_on (Set config) r = record r { config = config }
read_on other r = record r { begun = true }

-- a script as it was read: the configuration and its lines, or the number of the first line outside the grammar
pub record Script : Type 0 where
  pub config : Config
  pub lines : List Line
  pub bad : Option ℕ

abbrev pub in_front : Line → Script → Script
in_front line s = record s { lines = line ∷ s.lines }

abbrev pub no_lines : ScriptReading → Option ℕ → Script
no_lines r bad = record { config = r.config; lines = []; bad = bad }

abbrev pub script_from : ℕ → ScriptReading → List (List ℕ) → Script
script_from number r [] = no_lines r None
script_from number r (text ∷ texts) =
    elim (line_of r.config r.begun text) as (λ line. Script) [
      | None ↦ no_lines r (Some number)
      | Some line ↦ in_front line (script_from (number + 1) (read_on line r) texts)
    ]

-- The texts of the lines are what stands between line feeds; the last line may lack its own.
abbrev pub script_of : List ℕ → Script
script_of bytes = script_from 1 (record { config = default_config; begun = false }) (pieces 0x0A bytes)

-- examples
a_comment : line_of default_config true (codes "# open") ≡ Some Idle
a_comment = refl

opens : line_of default_config true (codes "open 65535") ≡ Some (Open 65535)
opens = refl

leading_zero : line_of default_config true (codes "open 01") ≡ None
leading_zero = refl

two_spaces : line_of default_config true (codes "open  1") ≡ None
two_spaces = refl

past_the_last : line_of default_config true (codes "pump 65536") ≡ None
past_the_last = refl

-- one shard and one worker have twelve disks
the_last_disk : line_of default_config true (codes "fail 11 1") ≡ Some (Fail 11 1)
the_last_disk = refl

no_such_disk : line_of default_config true (codes "fail 12 1") ≡ None
no_such_disk = refl

set_too_late : (script_of (codes "open 1\nset below 2")).bad ≡ Some 2
set_too_late = refl

set_twice : (script_of (codes "set below 2\n# two\n\nset below 3\nopen 1")).config ≡ record default_config { below = 3 }
set_twice = refl
