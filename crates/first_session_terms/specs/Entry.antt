-- The numbers of what a session was issued.
use Rattle.std.specs.Prelude.{ℕ, ◌+◌, ◌-◌, ◌*◌, ◌%◌, ◌≡◌, refl}
use Rattle.first_session_terms.specs.declared.entry.Kind.{Kind}
use Rattle.first_session_terms.specs.declared.entry.Kind.TheVariants.{Track1, Track2, Zero, Silent}

-- the packet identifier of a number of track 1, and of track 2: the odd ones and the even ones
abbrev pub id1 : ℕ → ℕ
id1 number = 2 * ((number - 1) % 32767) + 1

abbrev pub id2 : ℕ → ℕ
id2 number = 2 * ((number - 1) % 32767) + 2

-- the identifiers of the two tracks never meet, and both go around together
wraps : id1 32768 ≡ 1
wraps = refl

last_even : id2 32767 ≡ 65534
last_even = refl

-- 1 on the track of QoS 1, and on that of QoS 2
abbrev pub count1 : Kind → ℕ
count1 (Track1 number) = 1
count1 (Track2 number) = 0
count1 Zero = 0
count1 Silent = 0

abbrev pub count2 : Kind → ℕ
count2 (Track1 number) = 0
count2 (Track2 number) = 1
count2 Zero = 0
count2 Silent = 0
