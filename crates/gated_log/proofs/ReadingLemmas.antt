-- What a header says of the record behind it.
use Rattle.std.proofs.Common.{ℕ, ◌+◌, ◌<◌, ◌≤◌, ◌≡◌, ◌==◌, ◌||◌, nat_lt, Bool, true, false, if◌then◌else◌, List, [], ◌∷◌, ◌++◌, length, take, drop, slice_index_or, Option, Some, None, arith, refl, sym, ap, subst, ◌∙◌}
use Rattle.std.proofs.lemmas.Bool.Decides.{nat_tests}
use Rattle.std.proofs.lemmas.List.{append-nil, drop-drop, length-drop, length-take-le}
use Rattle.std.proofs.Math.Seq.{take-add}
use Rattle.std.specs.Int.{w32, from_be_bytes}
use Rattle.gated_log.specs.Opens.{OpensWith}
use Rattle.gated_log.specs.Reading.{IsRecordAt}
use Rattle.gated_log.specs.Records.{front_record, front_behind, front_of_length}

-- bytes that are fewer than a gate and a length
pub too_short : (bytes : List ℕ) → length bytes < 5 → front_record bytes ≡ None
too_short [] h = refl
too_short (gate ∷ bytes) h = grind (arith, nat_tests)

abbrev says_closed : ℕ → ℕ → ℕ → Bool
says_closed gate count there = (gate == 0) || (count == 0) || nat_lt there (6 + count)

no_front : (gate count : ℕ) (bytes : List ℕ) → says_closed gate count (5 + length bytes) ≡ true → (gate == 0) ≡ false → front_of_length count bytes ≡ None
no_front gate count bytes closed is_open = grind (arith, nat_tests)

behind_gate : (gate : ℕ) (rest : List ℕ) → ((gate == 0) ≡ false → front_of_length (from_be_bytes w32 (take 4 rest)) (drop 4 rest) ≡ None) → front_behind gate rest ≡ None
behind_gate gate rest h = grind (arith, nat_tests)

closed_front : (gate : ℕ) (rest : List ℕ) → 4 ≤ length rest → says_closed gate (from_be_bytes w32 (take 4 rest)) (length (gate ∷ rest)) ≡ true
    → front_record (gate ∷ rest) ≡ None
closed_front gate rest long closed =
    let four : 5 + length (drop 4 rest) ≡ length (gate ∷ rest) = omega (arith, length-drop 4 rest, long) in
    behind_gate gate rest (no_front gate (from_be_bytes w32 (take 4 rest)) (drop 4 rest) (ap (says_closed gate (from_be_bytes w32 (take 4 rest))) four ∙ closed))

opens_with : (gate count : ℕ) (rest : List ℕ) → 4 ≤ length rest → from_be_bytes w32 (take 4 rest) ≡ count → says_closed gate count (length (gate ∷ rest)) ≡ false
    → OpensWith (take count (drop 4 rest)) (take (5 + count) (gate ∷ rest)) []
opens_with gate count rest long e opens =
    let some : 0 < count = grind (arith, nat_tests) in
    let fits : 6 + count ≤ length (gate ∷ rest) = grind (arith, nat_tests) in
    let there : length (take count (drop 4 rest)) ≡ count = length-take-le count (drop 4 rest) (omega (arith, length-drop 4 rest, fits)) in
    record {
      gate = gate;
      head = take 4 rest;
      is_open = grind (arith, nat_tests);
      four = length-take-le 4 rest long;
      tells = e ∙ sym there;
      some = omega (arith, there, some);
      spelled = take-add 5 count (gate ∷ rest) ∙ ap (λ l. gate ∷ (take 4 rest ++ l)) (sym (append-nil (take count (drop 4 rest))));
    }

-- what a header says
pub header_says : (bytes header : List ℕ) (there : ℕ) (found : Option ℕ) → length bytes ≡ there → 5 ≤ there → header ≡ take 5 bytes
    → found ≡ (if says_closed (slice_index_or header 0 0) (from_be_bytes w32 (drop 1 header)) there then None else Some (from_be_bytes w32 (drop 1 header)))
    → IsRecordAt 0 bytes found
header_says [] header there found e long h f = absurd (omega (arith, e, long))
header_says (gate ∷ rest) header there found e long h f =
    subst (λ answer. IsRecordAt 0 (gate ∷ rest) answer)
    (sym (f ∙ (ap (λ l. if says_closed (slice_index_or l 0 0) (from_be_bytes w32 (drop 1 l)) there then None else Some (from_be_bytes w32 (drop 1 l))) h
    ∙ ap (λ n. if says_closed gate (from_be_bytes w32 (take 4 rest)) n then None else Some (from_be_bytes w32 (take 4 rest))) (sym e))))
    (either_way (says_closed gate (from_be_bytes w32 (take 4 rest)) (length (gate ∷ rest))) refl)
  where
    either_way : (test : Bool) → says_closed gate (from_be_bytes w32 (take 4 rest)) (length (gate ∷ rest)) ≡ test
        → IsRecordAt 0 (gate ∷ rest) (if test then None else Some (from_be_bytes w32 (take 4 rest)))
    either_way true h = closed_front gate rest (omega (arith, e, long)) h
    either_way false h = opens_with gate (from_be_bytes w32 (take 4 rest)) rest (omega (arith, e, long)) refl h

pub at_place : (place : ℕ) (bytes : List ℕ) (found : Option ℕ) → IsRecordAt 0 (drop place bytes) found → IsRecordAt place bytes found
at_place place bytes None r = r
at_place place bytes (Some count) r =
    subst (λ l. OpensWith (take count l) (take (5 + count) (drop place bytes)) []) (drop-drop 5 place bytes) r
