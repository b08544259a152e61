-- Messages with consecutive offsets, and those of them that lie below an offset or between two.
use Rattle.std.proofs.Common.{◌≡◌, ℕ, zero, suc, ◌+◌, ◌≤◌, Bool, true, false, ◌&&◌, nat_lt, nat_le, List, [], ◌∷◌, ◌++◌, length, take, refl, sym, arith, filter, append-nil}
use Rattle.std.proofs.lemmas.Bool.{and_right, and_left, le-ltb}
use Rattle.std.proofs.lemmas.Bool.Decides.{nat_tests}
use Rattle.first_topic_name.specs.StoredMessage.{StoredMessage}

-- the messages have consecutive offsets from this number on
abbrev pub Numbered : ℕ → List StoredMessage → Type 0
Numbered n [] = Unit {0}
Numbered n (m ∷ ms) = (m.offset ≡ n) × Numbered (suc n) ms

-- those that pass a test and lie below an offset
abbrev pub passing_below : (StoredMessage → Bool) → ℕ → List StoredMessage → List StoredMessage
passing_below test high ms = filter (λ m. test m && nat_lt m.offset high) ms

-- those that pass a test and lie between two offsets
abbrev pub passing_between : (StoredMessage → Bool) → ℕ → ℕ → List StoredMessage → List StoredMessage
passing_between test low high ms = filter (λ m. (nat_le low m.offset && nat_lt m.offset high && true) && test m) ms

-- behind the last of some messages
abbrev pub offset_behind : ℕ → List StoredMessage → ℕ
offset_behind before [] = before
offset_behind before (m ∷ ms) = offset_behind (m.offset + 1) ms

-- none of them lies below the first offset
pub passing_below-none : (test : StoredMessage → Bool) (high n : ℕ) (ms : List StoredMessage) → Numbered n ms → high ≤ n → passing_below test high ms ≡ []
passing_below-none test high n [] h l = refl
passing_below-none test high n (m ∷ ms) h l =
    let above : nat_lt m.offset high ≡ false = le-ltb m.offset high (omega arith) in
    rw (and_right (test m) (nat_lt m.offset high) above) (passing_below-none test high (suc n) ms h.1 (omega arith))

-- none lies between offsets that end at the first offset
pub passing_between-none : (test : StoredMessage → Bool) (low high n : ℕ) (ms : List StoredMessage) → Numbered n ms → high ≤ n → passing_between test low high ms ≡ []
passing_between-none test low high n [] h l = refl
passing_between-none test low high n (m ∷ ms) h l =
    let above : nat_lt m.offset high ≡ false = le-ltb m.offset high (omega arith) in
    let outside : (nat_le low m.offset && nat_lt m.offset high && true) ≡ false = grind (arith, nat_tests, above) in
    rw (and_left (nat_le low m.offset && nat_lt m.offset high && true) (test m) outside) (passing_between-none test low high (suc n) ms h.1 (omega arith))

-- what lies below the upper one of two offsets is what lies below the lower one, and then what lies between
pub passing_below-between : (test : StoredMessage → Bool) (low high n : ℕ) (ms : List StoredMessage) → Numbered n ms → low ≤ high
    → passing_below test high ms ≡ passing_below test low ms ++ passing_between test low high ms
passing_below-between test low high n [] h l = refl
passing_below-between test low high n (m ∷ ms) h l = grind (arith, nat_tests, passing_below-between test low high (suc n) ms h.1 l, passing_below-none test low (suc n) ms h.1)

-- behind some messages that lie between is no lower than before them
offset_behind-above : (test : StoredMessage → Bool) (low high before n k : ℕ) (ms : List StoredMessage) → Numbered n ms → before ≤ n
    → before ≤ offset_behind before (take k (passing_between test low high ms))
offset_behind-above test low high before n zero ms h l = omega arith
offset_behind-above test low high before n (suc k) [] h l = omega arith
offset_behind-above test low high before n (suc k) (m ∷ ms) h l =
    grind (arith, offset_behind-above test low high before (suc n) (suc k) ms h.1, offset_behind-above test low high (m.offset + 1) (suc n) k ms h.1)

-- behind some messages that lie between is no higher than the upper offset
pub offset_behind-within : (test : StoredMessage → Bool) (low high before k : ℕ) (ms : List StoredMessage) → before ≤ high
    → offset_behind before (take k (passing_between test low high ms)) ≤ high
offset_behind-within test low high before zero ms h = h
offset_behind-within test low high before (suc k) [] h = h
offset_behind-within test low high before (suc k) (m ∷ ms) h =
    grind (arith, nat_tests, offset_behind-within test low high before (suc k) ms h, offset_behind-within test low high (m.offset + 1) k ms)

-- of messages from an offset on, what lies below the offset behind some that lie between are these
passing_below-behind : (test : StoredMessage → Bool) (low high before n k : ℕ) (ms : List StoredMessage) → Numbered n ms → before ≤ n → low ≤ n
    → passing_below test (offset_behind before (take k (passing_between test low high ms))) ms ≡ take k (passing_between test low high ms)
passing_below-behind test low high before n zero ms h l at = passing_below-none test before n ms h l
passing_below-behind test low high before n (suc k) [] h l at = refl
passing_below-behind test low high before n (suc k) (m ∷ ms) h l at =
    grind (
      arith,
      nat_tests,
      passing_below-behind test low high before (suc n) (suc k) ms h.1 (omega arith) (omega arith),
      passing_below-behind test low high (m.offset + 1) (suc n) k ms h.1 (omega arith) (omega arith),
      offset_behind-above test low high (m.offset + 1) (suc n) k ms h.1 (omega arith),
      passing_between-none test low high (suc n) ms h.1,
      passing_below-none test before (suc n) ms h.1 (omega arith),
    )

-- behind some messages that lie between is no lower than the lower offset
offset_behind-low : (test : StoredMessage → Bool) (low high before k : ℕ) (ms : List StoredMessage) → low ≤ before
    → low ≤ offset_behind before (take k (passing_between test low high ms))
offset_behind-low test low high before zero ms h = h
offset_behind-low test low high before (suc k) [] h = h
offset_behind-low test low high before (suc k) (m ∷ ms) h =
    grind (arith, nat_tests, offset_behind-low test low high before (suc k) ms h, offset_behind-low test low high (m.offset + 1) k ms)

-- what lies below the offset behind some messages that lie between is what lies below the lower one, and then these
pub passing_below-after : (test : StoredMessage → Bool) (low high n k : ℕ) (ms : List StoredMessage) → Numbered n ms
    → passing_below test (offset_behind low (take k (passing_between test low high ms))) ms ≡ passing_below test low ms ++ take k (passing_between test low high ms)
passing_below-after test low high n zero ms h = sym (append-nil (passing_below test low ms))
passing_below-after test low high n (suc k) [] h = refl
passing_below-after test low high n (suc k) (m ∷ ms) h =
    grind (
      arith,
      nat_tests,
      passing_below-after test low high (suc n) (suc k) ms h.1,
      passing_below-behind test low high low n (suc k) (m ∷ ms) h,
      passing_below-none test low n (m ∷ ms) h,
      offset_behind-low test low high low (suc k) ms (omega arith),
    )

-- what lies below an offset begins what passes
pub passing_below-rest : (test : StoredMessage → Bool) (high n : ℕ) (ms : List StoredMessage) → Numbered n ms
    → passing_below test high ms ++ filter (λ m. test m && nat_le high m.offset) ms ≡ filter test ms
passing_below-rest test high n [] h = refl
passing_below-rest test high n (m ∷ ms) h =
    grind (arith, nat_tests, passing_below-rest test high (suc n) ms h.1, passing_below-none test high (suc n) ms h.1)

-- a message at the end that doesn't lie below changes nothing
pub passing_below-push : (test : StoredMessage → Bool) (high : ℕ) (ms : List StoredMessage) (w : StoredMessage) → high ≤ w.offset
    → passing_below test high (ms ++ w ∷ []) ≡ passing_below test high ms
passing_below-push test high [] w h = grind (arith, nat_tests)
passing_below-push test high (m ∷ ms) w h = grind (arith, passing_below-push test high ms w h)

-- nothing that begins at an offset lies below it
pub passing_below-start : (test : StoredMessage → Bool) (start : ℕ) (ms : List StoredMessage)
    → passing_below (λ m. nat_le start m.offset && test m) start ms ≡ []
passing_below-start test start [] = refl
passing_below-start test start (m ∷ ms) = grind (arith, nat_tests, passing_below-start test start ms)

-- a message with the next offset
pub Numbered-push : (n : ℕ) (ms : List StoredMessage) (w : StoredMessage) → Numbered n ms → w.offset ≡ n + length ms → Numbered n (ms ++ w ∷ [])
Numbered-push n [] w h e = (omega arith, tt)
Numbered-push n (m ∷ ms) w h e = (h.0, Numbered-push (suc n) ms w h.1 (omega arith))
