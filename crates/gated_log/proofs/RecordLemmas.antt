-- What records are in bytes that are open records and a rest.
use Rattle.std.proofs.Common.{ℕ, zero, suc, ◌<◌, ◌≤◌, ◌≡◌, ◌==◌, false, List, [], ◌∷◌, ◌++◌, length, take, drop, Option, Some, None, arith, refl, sym, ap, subst, ◌∙◌, append_assoc, length-append}
use Rattle.std.proofs.lemmas.Bool.Decides.{nat_tests}
use lib.Seq.{take-append_seam, drop-append_seam}
use Rattle.std.specs.Int.{w32, from_be_bytes}
use Rattle.gated_log.specs.Records.{Front, front_record, front_behind, front_of_length, records, records_within, and_front, rest_of}
use Rattle.gated_log.specs.Opens.{OpensWith, AreOpen}

-- a length that fits
length_fits : (count : ℕ) (bytes payload rest : List ℕ) → bytes ≡ payload ++ rest → count ≡ length payload → 0 < count → 0 < length rest
    → front_of_length count bytes ≡ Some (record { payload = payload; rest = rest })
length_fits count bytes payload rest e n some more =
    let t : take count bytes ≡ payload = ap (take count) e ∙ (ap (λ k. take k (payload ++ rest)) n ∙ take-append_seam payload rest) in
    let d : drop count bytes ≡ rest = ap (drop count) e ∙ (ap (λ k. drop k (payload ++ rest)) n ∙ drop-append_seam payload rest) in
    let within : count < length bytes = omega (arith, ap length e, length-append payload rest, n, more) in
    grind (arith, nat_tests)

-- an open gate
gate_opens : (gate : ℕ) (bytes head payload rest : List ℕ) → bytes ≡ head ++ (payload ++ rest) → length head ≡ 4 → from_be_bytes w32 head ≡ length payload
    → (gate == 0) ≡ false → 0 < length payload → 0 < length rest → front_behind gate bytes ≡ Some (record { payload = payload; rest = rest })
gate_opens gate bytes head payload rest e four tells is_open some more =
    let t : take 4 bytes ≡ head = ap (take 4) e ∙ (ap (λ k. take k (head ++ (payload ++ rest))) (sym four) ∙ take-append_seam head (payload ++ rest)) in
    let d : drop 4 bytes ≡ payload ++ rest = ap (drop 4) e ∙ (ap (λ k. drop k (head ++ (payload ++ rest))) (sym four) ∙ drop-append_seam head (payload ++ rest)) in
    let enough : 4 ≤ length bytes = omega (arith, ap length e, length-append head (payload ++ rest), four) in
    let said : from_be_bytes w32 (take 4 bytes) ≡ length payload = ap (from_be_bytes w32) t ∙ tells in
    let behind : front_of_length (from_be_bytes w32 (take 4 bytes)) (drop 4 bytes) ≡ Some (record { payload = payload; rest = rest }) =
    length_fits (from_be_bytes w32 (take 4 bytes)) (drop 4 bytes) payload rest d said (omega (arith, said, some)) more in
    under_gate gate bytes is_open enough behind
  where
    under_gate : (gate : ℕ) (bytes : List ℕ) → (gate == 0) ≡ false → 4 ≤ length bytes → {answer : Option Front} → front_of_length (from_be_bytes w32 (take 4 bytes)) (drop 4 bytes) ≡ answer → front_behind gate bytes ≡ answer
    under_gate gate bytes is_open enough behind = grind (arith, nat_tests)

-- the first of several records, whatever begins behind the last
first_opens : (payload bytes later rest : List ℕ) → OpensWith payload bytes later → 0 < length (later ++ rest)
    → front_record (bytes ++ rest) ≡ Some (record { payload = payload; rest = later ++ rest })
first_opens payload bytes later rest o more =
    ap (λ l. front_record (l ++ rest)) o.spelled
    ∙ gate_opens o.gate ((o.head ++ (payload ++ later)) ++ rest) o.head payload (later ++ rest)
    (append_assoc o.head (payload ++ later) rest ∙ ap (λ l. o.head ++ l) (append_assoc payload later rest))
    o.four o.tells o.is_open o.some more

-- so many records are in whole records that a closed gate follows
records_before : (payloads : List (List ℕ)) (bytes rest : List ℕ) (fuel : ℕ) → AreOpen payloads bytes → 0 < length rest → front_record rest ≡ None
    → length payloads ≤ fuel → records_within fuel (bytes ++ rest) ≡ payloads
records_before [] bytes rest zero o more closed enough = refl
records_before [] bytes rest (suc fuel) o more closed enough =
    ap (λ f. and_front f (records_within fuel (rest_of f))) (ap (λ l. front_record (l ++ rest)) o ∙ closed)
records_before (payload ∷ payloads) bytes rest zero o more closed enough = absurd (omega (arith, enough))
records_before (payload ∷ payloads) bytes rest (suc fuel) o more closed enough =
    let (later, opens, others) = o in
    ap (λ f. and_front f (records_within fuel (rest_of f))) (first_opens payload bytes later rest opens (omega (arith, length-append later rest, more)))
    ∙ ap (λ l. payload ∷ l) (records_before payloads later rest fuel others more closed (omega (arith, enough)))

-- each record takes some bytes
records_take : (payloads : List (List ℕ)) (bytes : List ℕ) → AreOpen payloads bytes → length payloads ≤ length bytes
records_take [] bytes o = omega arith
records_take (payload ∷ payloads) bytes o =
    let (later, opens, others) = o in
    omega (arith, records_take payloads later others, ap length opens.spelled, length-append opens.head (payload ++ later), length-append payload later)

-- the records of whole records that a closed gate follows
pub records_of_open : (payloads : List (List ℕ)) (bytes rest : List ℕ) → AreOpen payloads bytes → 0 < length rest → front_record rest ≡ None
    → records (bytes ++ rest) ≡ payloads
records_of_open payloads bytes rest o more closed =
    records_before payloads bytes rest (length (bytes ++ rest)) o more closed (omega (arith, records_take payloads bytes o, length-append bytes rest))

-- one more record behind them
pub one_more_open : (payloads : List (List ℕ)) (bytes payload last : List ℕ) → AreOpen payloads bytes → OpensWith payload last []
    → AreOpen (payloads ++ payload ∷ []) (bytes ++ last)
one_more_open [] bytes payload last o more = ([], subst (λ l. OpensWith payload l []) (sym (ap (λ l. l ++ last) o)) more, refl)
one_more_open (first ∷ payloads) bytes payload last o more =
    let (later, opens, others) = o in (
      later ++ last,
      record {
        gate = opens.gate;
        head = opens.head;
        is_open = opens.is_open;
        four = opens.four;
        tells = opens.tells;
        some = opens.some;
        spelled = ap (λ l. l ++ last) opens.spelled
            ∙ ap (λ l. opens.gate ∷ l) (append_assoc opens.head (first ++ later) last ∙ ap (λ l. opens.head ++ l) (append_assoc first later last));
      },
      one_more_open payloads later payload last others more,
    )
