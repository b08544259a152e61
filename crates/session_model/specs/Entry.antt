-- The numbers of what a session was issued, and the packet identifiers that they have.
use Rattle.std.specs.Prelude.{ℕ, ◌+◌, ◌-◌, ◌*◌, ◌%◌, List, [], ◌∷◌, Option, Some, None, ◌≡◌, refl}
use Rattle.session_model.specs.declared.entry.Entry.{Entry}
use Rattle.session_model.specs.declared.entry.Kind.{Kind}
use Rattle.session_model.specs.declared.entry.Kind.TheVariants.{Track1, Track2, Zero, Silent}

-- The packet identifier of a number of track 1, and of one of track 2: the odd ones and the even ones, so the tracks
-- never meet (MQTT 2.2.1).
abbrev pub id1 : ℕ → ℕ
id1 number = 2 * ((number - 1) % 32767) + 1

abbrev pub id2 : ℕ → ℕ
id2 number = 2 * ((number - 1) % 32767) + 2

-- the number on the track of QoS 1, and on that of QoS 2
abbrev pub number1 : Kind → Option ℕ
number1 (Track1 number) = Some number
number1 (Track2 number) = None
number1 Zero = None
number1 Silent = None

abbrev pub number2 : Kind → Option ℕ
number2 (Track1 number) = None
number2 (Track2 number) = Some number
number2 Zero = None
number2 Silent = None

-- none for what has no number
abbrev pub id_of : Kind → Option ℕ
id_of (Track1 number) = Some (id1 number)
id_of (Track2 number) = Some (id2 number)
id_of Zero = None
id_of Silent = None

abbrev pub with_number : Option ℕ → List ℕ → List ℕ
with_number None numbers = numbers
with_number (Some n) numbers = n ∷ numbers

-- the numbers of entries on each track, in order
abbrev pub numbers1 : List Entry → List ℕ
numbers1 [] = []
numbers1 (e ∷ es) = with_number (number1 e.kind) (numbers1 es)

abbrev pub numbers2 : List Entry → List ℕ
numbers2 [] = []
numbers2 (e ∷ es) = with_number (number2 e.kind) (numbers2 es)

-- examples: both tracks begin anew behind 32,767 numbers
wraps : id1 32768 ≡ 1
wraps = refl

last_even : id2 32767 ≡ 65534
last_even = refl
