-- Where the payloads of open records lie.
use Rattle.std.proofs.Common.{ℕ, ◌+◌, ◌≡◌, List, [], ◌∷◌, ◌++◌, length, take, drop, arith, refl, sym, ap, ◌∙◌, append_assoc, length-append}
use Rattle.std.proofs.Math.Seq.{drop-append-add}
use lib.Seq.{take-append_seam, drop-append_seam}
use Rattle.gated_log.specs.Opens.{OpensWith, AreOpen}
use Rattle.gated_log.specs.PlainLog.{end_of, payload_at, payloads_at, spans_from}

-- the payload of the first record
first_payload : (prefix front payload later rest : List ℕ) → OpensWith payload front later
    → payload_at (prefix ++ (front ++ rest)) (record { at = length prefix + 5; length = length payload }) ≡ payload
first_payload prefix front payload later rest o =
    ap (take (length payload)) (drop-append-add prefix (front ++ rest) 5
    ∙ (ap (λ l. drop 5 (l ++ rest)) o.spelled
    ∙ (ap (drop 4) (append_assoc o.head (payload ++ later) rest)
    ∙ (ap (λ n. drop n (o.head ++ ((payload ++ later) ++ rest))) (sym o.four)
    ∙ (drop-append_seam o.head ((payload ++ later) ++ rest) ∙ append_assoc payload later rest)))))
    ∙ take-append_seam payload (later ++ rest)

-- where the next one begins
next_place : (payload front later : List ℕ) → OpensWith payload front later → length front ≡ 5 + length payload + length later
next_place payload front later o =
    ap length o.spelled ∙ omega (arith, length-append o.head (payload ++ later), length-append payload later, o.four)

-- the payloads of open records are at their places
pub payloads_are : (payloads : List (List ℕ)) (prefix front rest : List ℕ) → AreOpen payloads front
    → payloads_at (prefix ++ (front ++ rest)) (spans_from (length prefix) payloads) ≡ payloads
payloads_are [] prefix front rest o = refl
payloads_are (payload ∷ payloads) prefix front rest o =
    let (later, opens, others) = o in
    let start : List ℕ = prefix ++ opens.gate ∷ (opens.head ++ payload) in
    let long : length start ≡ length prefix + (5 + length payload) =
    length-append prefix (opens.gate ∷ (opens.head ++ payload)) ∙ omega (arith, length-append opens.head payload, opens.four) in
    let same : prefix ++ (front ++ rest) ≡ start ++ (later ++ rest) =
    ap (λ l. prefix ++ (l ++ rest)) opens.spelled
    ∙ (ap (λ l. prefix ++ opens.gate ∷ l) (append_assoc opens.head (payload ++ later) rest
    ∙ (ap (λ l. opens.head ++ l) (append_assoc payload later rest) ∙ sym (append_assoc opens.head payload (later ++ rest))))
    ∙ sym (append_assoc prefix (opens.gate ∷ (opens.head ++ payload)) (later ++ rest))) in
    let others_are : payloads_at (start ++ (later ++ rest)) (spans_from (length start) payloads) ≡ payloads = payloads_are payloads start later rest others in
    ap (λ p. p ∷ payloads_at (prefix ++ (front ++ rest)) (spans_from (length prefix + (5 + length payload)) payloads)) (first_payload prefix front payload later rest opens)
    ∙ ap (λ l. payload ∷ l) (ap (λ l. payloads_at l (spans_from (length prefix + (5 + length payload)) payloads)) same
    ∙ (ap (λ n. payloads_at (start ++ (later ++ rest)) (spans_from n payloads)) (sym long) ∙ others_are))

-- the place of one more record behind them
pub one_more_span : (place : ℕ) (payloads : List (List ℕ)) (bytes payload : List ℕ) → AreOpen payloads bytes
    → spans_from place (payloads ++ payload ∷ []) ≡ spans_from place payloads ++ record { at = place + length bytes + 5; length = length payload } ∷ []
one_more_span place [] bytes payload o =
    ap (λ n. record { at = n; length = length payload } ∷ []) (omega (arith, ap length o))
one_more_span place (first ∷ payloads) bytes payload o =
    let (later, opens, others) = o in
    ap (λ l. record { at = place + 5; length = length first } ∷ l)
    (one_more_span (place + (5 + length first)) payloads later payload others
    ∙ ap (λ n. spans_from (place + (5 + length first)) payloads ++ record { at = n; length = length payload } ∷ []) (omega (arith, next_place first bytes later opens)))

-- how long open records are
pub ends_at : (payloads : List (List ℕ)) (bytes : List ℕ) → AreOpen payloads bytes → length bytes ≡ end_of payloads
ends_at [] bytes o = ap length o
ends_at (payload ∷ payloads) bytes o =
    let (later, opens, others) = o in
    omega (arith, next_place payload bytes later opens, ends_at payloads later others)
