-- Words that the hostile rows share: lines of scripts and of texts, clients `a` and `p`, and the message `hi` of the
-- topic `a/b`.
use Rattle.std.specs.Prelude.{ℕ, zero, suc, List, [], ◌∷◌, ◌++◌, codes}
pub use Rattle.world_examples.specs.RowWords.{lines, send, connect_a, connect_p}
use Rattle.shard_model.specs.Choices.{Choice, Works}

-- ---- connection numbers

abbrev pub one : List ℕ
one = codes "1"

abbrev pub two : List ℕ
two = codes "2"

abbrev pub three : List ℕ
three = codes "3"

abbrev pub four : List ℕ
four = codes "4"

abbrev pub five : List ℕ
five = codes "5"

-- ---- lines of a script about a connection

abbrev pub opens : List ℕ → List ℕ
opens conn = codes "open " ++ conn

abbrev pub closes : List ℕ → List ℕ
closes conn = codes "close " ++ conn

abbrev pub pumps : List ℕ → List ℕ
pumps conn = codes "pump " ++ conn

abbrev pub acks : List ℕ → List ℕ
acks conn = codes "ack " ++ conn

-- ---- lines of a text about a connection

-- a packet goes out
abbrev pub gets : List ℕ → List ℕ → List ℕ
gets conn hex = conn ++ codes "< " ++ hex

-- the server closes
abbrev pub ended : List ℕ → List ℕ
ended conn = conn ++ codes " closed"

-- ---- packets

-- the CONNACK of a new session, and that of a session that is resumed
abbrev pub accepted : List ℕ
accepted = codes "200F00000C210020250027001000002A00"

abbrev pub resumed : List ℕ
resumed = codes "200F01000C210020250027001000002A00"

-- the same of a broker whose connections hold so many identifiers, in four digits
abbrev pub accepted_holding : List ℕ → List ℕ
accepted_holding held = codes "200F00000C21" ++ held ++ codes "250027001000002A00"

abbrev pub resumed_holding : List ℕ → List ℕ
resumed_holding held = codes "200F01000C21" ++ held ++ codes "250027001000002A00"

-- `hi` to the topic `a/b` without properties, by the first byte and the low byte of the identifier, from a publisher or
-- to a subscriber
abbrev pub of_hi : List ℕ → List ℕ → List ℕ
of_hi header low = header ++ codes "0A0003612F6200" ++ low ++ codes "006869"

-- SUBSCRIBE of `a/b` with QoS 1
abbrev pub subscribe : List ℕ
subscribe = codes "82090001000003612F6201"

-- ---- `a` on connection 1 subscribes to `a/b` with a QoS, and `p` is on connection 2

abbrev pub at_most_once : List ℕ
at_most_once = codes "00"

abbrev pub at_least_once : List ℕ
at_least_once = codes "01"

abbrev pub exactly_once : List ℕ
exactly_once = codes "02"

abbrev pub listening : List ℕ → List (List ℕ)
listening qos =
    opens one ∷ send one connect_a ∷ send one (codes "82090001000003612F62" ++ qos) ∷ opens two ∷ send two connect_p
    ∷ []

-- the text of these lines
abbrev pub heard : List ℕ → List (List ℕ)
heard qos = gets one accepted ∷ gets one (codes "9004000100" ++ qos) ∷ gets two accepted ∷ []

-- ---- choices and copies

-- so many calls that work
abbrev pub works : ℕ → List Choice
works zero = []
works (suc n) = Works ∷ works n

-- so many copies, one behind the other
abbrev pub times : ℕ → List ℕ → List ℕ
times zero l = []
times (suc n) l = l ++ times n l
