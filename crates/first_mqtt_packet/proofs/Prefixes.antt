-- No packet's spelling begins another packet's.
use Rattle.std.proofs.Common.{◌≡◌, ℕ, ◌+◌, ◌-◌, ◌*◌, ◌/◌, ◌%◌, ◌<◌, true, false, cond, ltb, List, [], ◌∷◌, ◌++◌, length, get_or, take, Some, refl, sym, ap, ◌∙◌, append_assoc, arith, inl, inr}
use Rattle.std.proofs.lemmas.Bool.{cases_lt, lt-ltb, le-ltb}
use Rattle.std.proofs.lemmas.List.{append_cancel_left, take_at}
use Rattle.std.proofs.lemmas.Option.{option_and_then_some, same_Some}
use Rattle.first_mqtt_packet.specs.declared.packet.Packet.{Packet}
use Rattle.first_mqtt_packet.specs.Written.{var_bytes}
use Rattle.first_mqtt_packet.specs.Reading.{packet_of, packet_in, body_after}
use Rattle.first_mqtt_packet.specs.Spells.{Spells}
use Rattle.first_mqtt_packet.proofs.Frames.{body_found}
use Rattle.first_mqtt_packet.proofs.Packets.{spelled_is_read}

-- the length that stands in front
four_cells : ℕ → ℕ → ℕ → ℕ → ℕ
four_cells a b c d = cond (ltb a 128) a (cond (ltb b 128) (a - 128 + 128 * b) (cond (ltb c 128) (a - 128 + 128 * (b - 128) + 16384 * c) (a - 128 + 128 * (b - 128) + 16384 * (c - 128) + 2097152 * d)))

abbrev value : List ℕ → ℕ
value bytes = four_cells (get_or bytes 0 0) (get_or bytes 1 0) (get_or bytes 2 0) (get_or bytes 3 0)

one_cell : (n b c d : ℕ) → n < 128 → four_cells n b c d ≡ n
unfolding four_cells
one_cell n b c d lt = rw (lt-ltb n 128 lt) refl

two_cells : (n c d : ℕ) → n < 16384 → four_cells (n % 128 + 128) (n / 128) c d ≡ n
unfolding four_cells
two_cells n c d lt =
    let first : ltb (n % 128 + 128) 128 ≡ false = le-ltb (n % 128 + 128) 128 (omega arith) in
    let second : ltb (n / 128) 128 ≡ true = lt-ltb (n / 128) 128 (omega arith) in
    rw (first, second) (omega arith)

three_cells : (n d : ℕ) → n < 2097152 → four_cells (n % 128 + 128) (n / 128 % 128 + 128) (n / 16384) d ≡ n
unfolding four_cells
three_cells n d lt =
    let first : ltb (n % 128 + 128) 128 ≡ false = le-ltb (n % 128 + 128) 128 (omega arith) in
    let second : ltb (n / 128 % 128 + 128) 128 ≡ false = le-ltb (n / 128 % 128 + 128) 128 (omega arith) in
    let third : ltb (n / 16384) 128 ≡ true = lt-ltb (n / 16384) 128 (omega arith) in
    rw (first, second, third) (omega arith)

all_cells : (n : ℕ) → n < 268435456 → four_cells (n % 128 + 128) (n / 128 % 128 + 128) (n / 16384 % 128 + 128) (n / 2097152 % 256) ≡ n
unfolding four_cells
all_cells n lt =
    let first : ltb (n % 128 + 128) 128 ≡ false = le-ltb (n % 128 + 128) 128 (omega arith) in
    let second : ltb (n / 128 % 128 + 128) 128 ≡ false = le-ltb (n / 128 % 128 + 128) 128 (omega arith) in
    let third : ltb (n / 16384 % 128 + 128) 128 ≡ false = le-ltb (n / 16384 % 128 + 128) 128 (omega arith) in
    rw (first, second, third) (omega arith)

value_of : (n : ℕ) (rest : List ℕ) → n < 268435456 → value (var_bytes n ++ rest) ≡ n
value_of n rest lt =
    elim (cases_lt n 128) [
      | inl one ↦
          let is : var_bytes n ≡ n ∷ [] = rw (lt-ltb n 128 one) refl in
          ap (λ (t : List ℕ). value (t ++ rest)) is ∙ one_cell n (get_or rest 0 0) (get_or rest 1 0) (get_or rest 2 0) one
      | inr more ↦ elim (cases_lt n 16384) [
        | inl two ↦
            let is : var_bytes n ≡ (n % 128 + 128) ∷ (n / 128) ∷ [] = rw (le-ltb n 128 more, lt-ltb n 16384 two) refl in
            ap (λ (t : List ℕ). value (t ++ rest)) is ∙ two_cells n (get_or rest 0 0) (get_or rest 1 0) two
        | inr many ↦ elim (cases_lt n 2097152) [
          | inl three ↦
              let is : var_bytes n ≡ (n % 128 + 128) ∷ (n / 128 % 128 + 128) ∷ (n / 16384) ∷ [] = rw (le-ltb n 128 more, le-ltb n 16384 many, lt-ltb n 2097152 three) refl in
              ap (λ (t : List ℕ). value (t ++ rest)) is ∙ three_cells n (get_or rest 0 0) three
          | inr most ↦
              let is : var_bytes n ≡ (n % 128 + 128) ∷ (n / 128 % 128 + 128) ∷ (n / 16384 % 128 + 128) ∷ (n / 2097152 % 256) ∷ [] = rw (le-ltb n 128 more, le-ltb n 16384 many, le-ltb n 2097152 most) refl in
              ap (λ (t : List ℕ). value (t ++ rest)) is ∙ all_cells n lt
        ]
      ]
    ]

-- a first byte, a length and a body of that length
record IsFrame (bytes : List ℕ) : Type 0 where
  first : ℕ
  body : List ℕ
  is : bytes ≡ first ∷ (var_bytes (length body) ++ body)
  below : length body < 268435456

frame_of : (bytes : List ℕ) (p : Packet) → packet_of bytes ≡ Some p → IsFrame bytes
frame_of [] p e = absurd cc
frame_of (first ∷ rest) p e =
    option_and_then_some (packet_in first) (body_after rest) p e (λ body at is.
    let found = body_found rest body at in
    record { first = first; body = body; is = ap (λ (t : List ℕ). first ∷ t) found.0; below = found.1 })

same_first : (a b : ℕ) (x y : List ℕ) → a ∷ x ≡ b ∷ y → (a ≡ b) × (x ≡ y)
same_first a b x y e = (cc, cc)

-- two bodies behind their lengths, before what may follow them
same_bodies : (body other x y : List ℕ) → length body < 268435456 → length other < 268435456 → (var_bytes (length body) ++ body) ++ x ≡ (var_bytes (length other) ++ other) ++ y → body ≡ other
same_bodies body other x y below below' e =
    let flat : var_bytes (length body) ++ (body ++ x) ≡ var_bytes (length other) ++ (other ++ y) =
    sym (append_assoc (var_bytes (length body)) body x) ∙ e ∙ append_assoc (var_bytes (length other)) other y in
    let len : length body ≡ length other =
    sym (value_of (length body) (body ++ x) below) ∙ ap value flat ∙ value_of (length other) (other ++ y) below' in
    let told : var_bytes (length body) ++ (body ++ x) ≡ var_bytes (length body) ++ (other ++ y) =
    flat ∙ ap (λ (n : ℕ). var_bytes n ++ (other ++ y)) (sym len) in
    let behind : body ++ x ≡ other ++ y = append_cancel_left (var_bytes (length body)) (body ++ x) (other ++ y) told in
    sym (take_at body x (length body) refl) ∙ ap (take (length body)) behind ∙ take_at other y (length body) (sym len)

same_frames : (a b x y : List ℕ) (f : IsFrame a) (g : IsFrame b) → a ++ x ≡ b ++ y → a ≡ b
same_frames a b x y f g e =
    let both : f.first ∷ ((var_bytes (length f.body) ++ f.body) ++ x) ≡ g.first ∷ ((var_bytes (length g.body) ++ g.body) ++ y) =
    ap (λ (t : List ℕ). t ++ x) (sym f.is) ∙ e ∙ ap (λ (t : List ℕ). t ++ y) g.is in
    let parts = same_first f.first g.first ((var_bytes (length f.body) ++ f.body) ++ x) ((var_bytes (length g.body) ++ g.body) ++ y) both in
    let body : f.body ≡ g.body = same_bodies f.body g.body x y f.below g.below parts.1 in
    f.is
    ∙ ap (λ (n : ℕ). n ∷ (var_bytes (length f.body) ++ f.body)) parts.0
    ∙ ap (λ (t : List ℕ). g.first ∷ (var_bytes (length t) ++ t)) body
    ∙ sym g.is

-- nothing spelled begins another
pub none_begins_another : (a b x y : List ℕ) (p q : Packet) → Spells a p → Spells b q → a ++ x ≡ b ++ y → (a ≡ b) × (p ≡ q)
none_begins_another a b x y p q s t e =
    let first : packet_of a ≡ Some p = spelled_is_read a p s in
    let second : packet_of b ≡ Some q = spelled_is_read b q t in
    let same : a ≡ b = same_frames a b x y (frame_of a p first) (frame_of b q second) e in
    (same, same_Some p q (sym first ∙ ap packet_of same ∙ second))
