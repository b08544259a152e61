-- The length of a packet: what follows it is read again, and only what follows it is read.
use Rattle.std.proofs.Common.{◌≡◌, ℕ, ◌+◌, ◌-◌, ◌<◌, ◌≤◌, true, cond, ltb, List, ◌++◌, length, take, drop, Some, None, refl, sym, ap, subst, ◌∙◌, arith}
use Rattle.std.specs.Str.{bytes_eq}
use Rattle.std.proofs.lemmas.Bool.{and_parts, and_from, ltb-true, lt-ltb, cond-true}
use Rattle.std.proofs.lemmas.Bool.Decides.{nat_tests}
use Rattle.std.proofs.lemmas.List.{take_at, drop_at, take-append-drop, length-append, length-drop}
use Rattle.std.proofs.lemmas.Option.{cond_some}
use Rattle.std.proofs.lemmas.Slice.Eq.{bytes_eq-Decides}
use Rattle.first_mqtt_packet.specs.Written.{var_bytes}
use Rattle.first_mqtt_packet.specs.Reading.{is_length, length_size, body_after}
use Rattle.first_mqtt_packet.proofs.Fields.{IsBytes, IsBytes-drop}

pub length-var_bytes : (n : ℕ) → length (var_bytes n) ≤ 4
length-var_bytes n = grind (arith, nat_tests)

size_again : (n : ℕ) → length_size (length (var_bytes n) + n) ≡ length (var_bytes n)
size_again n = grind (arith, nat_tests)

below : (n : ℕ) → length (var_bytes n) + n ≤ 268435459 → n < 268435456
below n le = grind (arith, nat_tests)

-- what was read is behind its length
pub body_found : (rest body : List ℕ) → body_after rest ≡ Some body → (rest ≡ var_bytes (length body) ++ body) × (length body < 268435456)
body_found rest body e =
    let size : ℕ = length_size (length rest) in
    let some = cond_some (is_length (take size rest) (length rest - size)) (drop size rest) body e in
    let tests = and_parts (ltb (length rest - size) 268435456) (bytes_eq (take size rest) (var_bytes (length rest - size))) some.0 in
    let front : take size rest ≡ var_bytes (length rest - size) = (bytes_eq-Decides (take size rest) (var_bytes (length rest - size))).0 tests.1 in
    let len : length rest - size ≡ length (drop size rest) = sym (length-drop size rest) in
    let below : length rest - size < 268435456 = ltb-true (length rest - size) 268435456 tests.0 in
    let whole : rest ≡ var_bytes (length (drop size rest)) ++ drop size rest =
    sym (take-append-drop size rest) ∙ ap (λ (t : List ℕ). t ++ drop size rest) (front ∙ ap var_bytes len) in
    subst (λ (b : List ℕ). (rest ≡ var_bytes (length b) ++ b) × (length b < 268435456)) some.1 (whole, omega (arith, len, below))

pub body_fits : (rest body : List ℕ) → IsBytes rest → body_after rest ≡ Some body → IsBytes body
body_fits rest body fits e =
    let size : ℕ = length_size (length rest) in
    let some = cond_some (is_length (take size rest) (length rest - size)) (drop size rest) body e in
    subst IsBytes some.1 (IsBytes-drop size rest fits)

after_at : (rest body : List ℕ) (size n : ℕ) → length_size (length rest) ≡ size → length rest - size ≡ n → take size rest ≡ var_bytes n → drop size rest ≡ body → n < 268435456 → body_after rest ≡ Some body
after_at rest body size n is_size is_rest front back lt =
    let same : bytes_eq (take size rest) (var_bytes (length rest - size)) ≡ true =
    (bytes_eq-Decides (take size rest) (var_bytes (length rest - size))).1 (front ∙ ap var_bytes (sym is_rest)) in
    let test : is_length (take size rest) (length rest - size) ≡ true =
    and_from (ltb (length rest - size) 268435456) (bytes_eq (take size rest) (var_bytes (length rest - size))) (lt-ltb (length rest - size) 268435456 (omega (arith, is_rest, lt))) same in
    subst
    (λ (k : ℕ). cond (is_length (take k rest) (length rest - k)) (Some (drop k rest)) None ≡ Some body)
    (sym is_size)
    (cond-true (is_length (take size rest) (length rest - size)) (Some (drop size rest)) None test ∙ ap Some back)

-- what is behind its length is read
pub body_again : (body : List ℕ) → length body < 268435456 → body_after (var_bytes (length body) ++ body) ≡ Some body
body_again body lt =
    let total : length (var_bytes (length body) ++ body) ≡ length (var_bytes (length body)) + length body = length-append (var_bytes (length body)) body in
    after_at
    (var_bytes (length body) ++ body)
    body
    (length (var_bytes (length body)))
    (length body)
    (ap length_size total ∙ size_again (length body))
    (omega (arith, total))
    (take_at (var_bytes (length body)) body (length (var_bytes (length body))) refl)
    (drop_at (var_bytes (length body)) body (length (var_bytes (length body))) refl)
    lt

-- a whole packet of at most so many bytes has a body of at most so many
pub body_below : (body : List ℕ) → length (var_bytes (length body) ++ body) ≤ 268435459 → length body < 268435456
body_below body le = below (length body) (omega (arith, le, length-append (var_bytes (length body)) body))
