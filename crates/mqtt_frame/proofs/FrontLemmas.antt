-- What stands at the front of a stream: more bytes behind it don't change a whole packet or a bad header.
use Rattle.std.proofs.Common.{◌≡◌, ℕ, ◌+◌, ◌<◌, ◌≤◌, Bool, true, false, cond, List, [], ◌∷◌, ◌++◌, length, drop, Result, Ok, Err, refl, sym, ap, ◌∙◌, arith}
use Rattle.std.specs.Prelude.{nat_lt, nat_le}
use Rattle.std.proofs.lemmas.Bool.{le-leb, leb-true}
use Rattle.std.proofs.lemmas.List.{length-append}
use Rattle.wire_fields.specs.declared.cut.Cut.{Cut}
use Rattle.wire_fields.specs.declared.cut.Cut.TheVariants.{Short, Bad}
use Rattle.wire_fields.specs.Reading.{var_at}
use Rattle.wire_fields.specs.VarLaws.{nothing_there, var_stays, var_refused}
use Rattle.mqtt_frame.specs.declared.front.Front.{Front}
use Rattle.mqtt_frame.specs.declared.front.Front.TheVariants.{Whole, Begun, Refused}
use Rattle.mqtt_frame.specs.declared.refused.BadHeader.{BadHeader}
use Rattle.mqtt_frame.specs.declared.refused.BadHeader.TheVariants.{Size}
use Rattle.mqtt_frame.specs.Framing.{packet_size, front_sized, front_with, front_of}

-- ---- by the tests

unfoldable pub by_tests : Bool → Bool → ℕ → Front
by_tests over fits size = cond over (Refused Size) (cond fits (Whole size) Begun)

pub tests_whole : (over fits : Bool) (n size : ℕ) → by_tests over fits n ≡ Whole size → (over ≡ false) × (fits ≡ true) × (n ≡ size)
unfolding by_tests
tests_whole true fits n size e = absurd cc
tests_whole false true n size e = (refl, refl, cc)
tests_whole false false n size e = absurd cc

tests_refused : (over fits others : Bool) (n : ℕ) (header : BadHeader) → by_tests over fits n ≡ Refused header → by_tests over others n ≡ Refused header
unfolding by_tests
tests_refused true fits others n header e = e
tests_refused false true others n header e = absurd cc
tests_refused false false others n header e = absurd cc

tests_fit : (over fits others : Bool) (n size : ℕ) → by_tests over fits n ≡ Whole size → others ≡ true → by_tests over others n ≡ Whole size
unfolding by_tests
tests_fit true fits others n size e h = absurd cc
tests_fit false true others n size e h = ap (λ (b : Bool). cond b (Whole n) Begun) h ∙ e
tests_fit false false others n size e h = absurd cc

sized_whole : (limit there more n size : ℕ) → front_sized limit there n ≡ Whole size → front_sized limit (there + more) n ≡ Whole size
unfolding by_tests
sized_whole limit there more n size e =
    let tests = tests_whole (nat_lt limit n) (nat_le n there) n size e in
    let least : n ≤ there = leb-true n there tests.1 in
    tests_fit (nat_lt limit n) (nat_le n there) (nat_le n (there + more)) n size e (le-leb n (there + more) (omega arith))

sized_refused : (limit there more n : ℕ) (header : BadHeader) → front_sized limit there n ≡ Refused header → front_sized limit (there + more) n ≡ Refused header
unfolding by_tests
sized_refused limit there more n header e = tests_refused (nat_lt limit n) (nat_le n there) (nat_le n (there + more)) n header e

sized_there : (limit there n size : ℕ) → front_sized limit there n ≡ Whole size → (n ≡ size) × (n ≤ there)
unfolding by_tests
sized_there limit there n size e =
    let tests = tests_whole (nat_lt limit n) (nat_le n there) n size e in
    (tests.2, leb-true n there tests.1)

-- ---- by what was read of the Remaining Length

-- a number that was read is read again with more behind it
abbrev Stays : Result (ℕ × List ℕ) Cut → Result (ℕ × List ℕ) Cut → Type 0
Stays before now = (x : ℕ × List ℕ) → before ≡ Ok x → (rest : List ℕ) × (now ≡ Ok (x.0, rest))

with_whole : (limit there more size : ℕ) (before now : Result (ℕ × List ℕ) Cut) → Stays before now → front_with limit there before ≡ Whole size → front_with limit (there + more) now ≡ Whole size
with_whole limit there more size (Ok x) now stays e =
    let again = stays x refl in
    ap (front_with limit (there + more)) again.1 ∙ sized_whole limit there more (packet_size x.0) size e
with_whole limit there more size (Err Short) now stays e = absurd cc
with_whole limit there more size (Err Bad) now stays e = absurd cc

with_refused : (limit there more : ℕ) (header : BadHeader) (before now : Result (ℕ × List ℕ) Cut) → Stays before now → (before ≡ Err Bad → now ≡ Err Bad) → front_with limit there before ≡ Refused header → front_with limit (there + more) now ≡ Refused header
with_refused limit there more header (Ok x) now stays bad e =
    let again = stays x refl in
    ap (front_with limit (there + more)) again.1 ∙ sized_refused limit there more (packet_size x.0) header e
with_refused limit there more header (Err Short) now stays bad e = absurd cc
with_refused limit there more header (Err Bad) now stays bad e = ap (front_with limit (there + more)) (bad refl) ∙ e

with_there : (limit there size : ℕ) (read : Result (ℕ × List ℕ) Cut) → front_with limit there read ≡ Whole size → (0 < size) × (size ≤ there)
with_there limit there size (Ok x) e =
    let found = sized_there limit there (packet_size x.0) size e in
    (omega arith, omega arith)
with_there limit there size (Err Short) e = absurd cc
with_there limit there size (Err Bad) e = absurd cc

-- ---- by the stream

pub front_none : (limit : ℕ) → front_of limit [] ≡ Begun
unfolding front_of
front_none limit = ap (front_with limit 0) (nothing_there 3)

pub front_there : (limit size : ℕ) (stream : List ℕ) → front_of limit stream ≡ Whole size → (0 < size) × (size ≤ length stream)
unfolding front_of
front_there limit size stream e = with_there limit (length stream) size (var_at (drop 1 stream)) e

pub front_whole : (limit size : ℕ) (stream more : List ℕ) → front_of limit stream ≡ Whole size → front_of limit (stream ++ more) ≡ Whole size
unfolding front_of
front_whole limit size [] more e = absurd (let none = sym (front_none limit) ∙ e in cc)
front_whole limit size (first ∷ stream) more e =
    ap (λ (n : ℕ). front_with limit n (var_at (stream ++ more))) (length-append (first ∷ stream) more)
    ∙ with_whole limit (length (first ∷ stream)) (length more) size (var_at stream) (var_at (stream ++ more)) (λ x h. (x.1 ++ more, var_stays stream more x h)) e

pub front_refused : (limit : ℕ) (header : BadHeader) (stream more : List ℕ) → front_of limit stream ≡ Refused header → front_of limit (stream ++ more) ≡ Refused header
unfolding front_of
front_refused limit header [] more e = absurd (let none = sym (front_none limit) ∙ e in cc)
front_refused limit header (first ∷ stream) more e =
    ap (λ (n : ℕ). front_with limit n (var_at (stream ++ more))) (length-append (first ∷ stream) more)
    ∙ with_refused limit (length (first ∷ stream)) (length more) header (var_at stream) (var_at (stream ++ more)) (λ x h. (x.1 ++ more, var_stays stream more x h)) (var_refused stream more) e
