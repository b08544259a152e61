-- What a crash inside the writes of a commit leaves.
use Rattle.std.proofs.Common.{ℕ, zero, suc, ◌+◌, ◌^◌, ◌<◌, ◌≡◌, inl, inr, ◌==◌, false, List, [], ◌∷◌, ◌++◌, length, take, drop, arith, refl, sym, ap, ◌∙◌, append_assoc, length-append, take-append-drop}
use lib.Seq.{take-append_seam}
use Rattle.std.specs.Int.{w32, to_be_bytes}
use Rattle.std.proofs.lemmas.Nat.{from_be_bytes-to_be_bytes_4}
use native.Mathlib.Numerals.{unary_clauses}
use Rattle.std.proofs.lemmas.Bool.Decides.{nat_tests}
use Rattle.outside.specs.DiskModel.{Torn, Holds}
use Rattle.gated_log.specs.Records.{records, body_bytes}
use Rattle.gated_log.specs.Stands.{Stands, StandsWith, IsBeforeOrAfter}
use Rattle.gated_log.proofs.RecordLemmas.{records_of_open, one_more_open}

-- a log that stands has these records
pub stands_records : (payloads : List (List ℕ)) (place : ℕ) (bytes : List ℕ) → Stands payloads place bytes → records bytes ≡ payloads
stands_records payloads place bytes s = ap records s.spelled ∙ records_of_open payloads s.front (0 ∷ s.junk) s.are_open (omega arith) refl

-- one byte behind a front
take_front : (front rest : List ℕ) (byte : ℕ) → take (length front + 1) (front ++ byte ∷ rest) ≡ front ++ byte ∷ []
take_front [] rest byte = refl
take_front (x ∷ front) rest byte =
    let later : take (length front + 1) (front ++ byte ∷ rest) ≡ front ++ byte ∷ [] = take_front front rest byte in
    simp unary_clauses (ap (λ l. x ∷ l) (simp unary_clauses at later))

pub drop_front : (front rest : List ℕ) (byte : ℕ) → drop (length front + 1) (front ++ byte ∷ rest) ≡ rest
drop_front [] rest byte = refl
drop_front (x ∷ front) rest byte =
    let later : drop (length front + 1) (front ++ byte ∷ rest) ≡ rest = drop_front front rest byte in
    simp unary_clauses (simp unary_clauses at later)

-- bytes that begin as a log that stands do stand too
pub stands_again : (payloads : List (List ℕ)) (place : ℕ) (old new : List ℕ) → Stands payloads place old → take (place + 1) new ≡ take (place + 1) old
    → Stands payloads place new
stands_again payloads place old new s e =
    let f : take (place + 1) old ≡ s.front ++ 0 ∷ [] = ap (take (place + 1)) s.spelled ∙ (ap (λ k. take (k + 1) (s.front ++ 0 ∷ s.junk)) (sym s.ends) ∙ take_front s.front s.junk 0) in
    record {
      front = s.front;
      junk = drop (place + 1) new;
      are_open = s.are_open;
      ends = s.ends;
      spelled = sym (take-append-drop (place + 1) new) ∙ (ap (λ l. l ++ drop (place + 1) new) (e ∙ f) ∙ append_assoc s.front (0 ∷ []) (drop (place + 1) new));
    }

-- a crash inside the write of the body leaves the list
pub body_torn : (payloads : List (List ℕ)) (place count : ℕ) (old new : List ℕ) → Stands payloads place old → Torn (place + 1) count old new
    → Stands payloads place new
body_torn payloads place count old new s t = stands_again payloads place old new s t.before

-- the whole body stands behind the closed gate
pub body_written : (payloads : List (List ℕ)) (payload : List ℕ) (place : ℕ) (old new : List ℕ) → Stands payloads place old
    → Holds old (place + 1) (body_bytes payload) new → StandsWith payloads payload place 0 new
body_written payloads payload place old new s h =
    let f : take (place + 1) old ≡ s.front ++ 0 ∷ [] = ap (take (place + 1)) s.spelled ∙ (ap (λ k. take (k + 1) (s.front ++ 0 ∷ s.junk)) (sym s.ends) ∙ take_front s.front s.junk 0) in
    let rest : List ℕ = drop (place + 1 + length (body_bytes payload)) old in
    record {
      front = s.front;
      junk = rest;
      are_open = s.are_open;
      ends = s.ends;
      spelled = h ∙ (append_assoc (take (place + 1) old) (body_bytes payload) rest
          ∙ (ap (λ l. l ++ (body_bytes payload ++ rest)) f ∙ append_assoc s.front (0 ∷ []) (body_bytes payload ++ rest)));
    }

-- with a closed gate it has the records of before, with an open one the one more
pub closed_stands : (payloads : List (List ℕ)) (payload : List ℕ) (place : ℕ) (bytes : List ℕ) → StandsWith payloads payload place 0 bytes → Stands payloads place bytes
closed_stands payloads payload place bytes s = record {
  front = s.front;
  junk = body_bytes payload ++ s.junk;
  are_open = s.are_open;
  ends = s.ends;
  spelled = s.spelled;
}

pub open_stands : (payloads : List (List ℕ)) (payload : List ℕ) (place gate : ℕ) (bytes : List ℕ) → (gate == 0) ≡ false → 0 < length payload → length payload < 2 ^ 32
    → StandsWith payloads payload place gate bytes → Stands (payloads ++ payload ∷ []) (place + (5 + length payload)) bytes
open_stands payloads payload place gate bytes is_open some short s =
    let head : List ℕ = to_be_bytes w32 (length payload) in
    let last : List ℕ = gate ∷ (head ++ (payload ++ [])) in
    let inner : (head ++ (payload ++ 0 ∷ [])) ++ s.junk ≡ (head ++ (payload ++ [])) ++ 0 ∷ s.junk =
    append_assoc head (payload ++ 0 ∷ []) s.junk ∙ ap (λ l. head ++ l) (append_assoc payload (0 ∷ []) s.junk)
    ∙ sym (append_assoc head (payload ++ []) (0 ∷ s.junk) ∙ ap (λ l. head ++ l) (append_assoc payload [] (0 ∷ s.junk))) in
    record {
      front = s.front ++ last;
      junk = s.junk;
      are_open = one_more_open payloads s.front payload last s.are_open (record {
        gate = gate;
        head = head;
        is_open = is_open;
        four = refl;
        tells = from_be_bytes-to_be_bytes_4 (length payload) short;
        some = some;
        spelled = refl;
      });
      ends = omega (arith, length-append s.front last, length-append head (payload ++ []), length-append payload [], s.ends);
      spelled = s.spelled ∙ (ap (λ l. s.front ++ gate ∷ l) inner ∙ sym (append_assoc s.front last (0 ∷ s.junk)));
    }

-- a crash inside the write of the gate leaves some byte there, and all else
pub gate_torn : (payloads : List (List ℕ)) (payload : List ℕ) (place gate : ℕ) (old new : List ℕ) → StandsWith payloads payload place gate old → Torn place 1 old new
    → (byte : ℕ) × StandsWith payloads payload place byte new
gate_torn payloads payload place gate old new s t =
    let rest : List ℕ = body_bytes payload ++ s.junk in
    let before : take place new ≡ s.front =
    t.before ∙ (ap (take place) s.spelled ∙ (ap (λ k. take k (s.front ++ gate ∷ rest)) (sym s.ends) ∙ take-append_seam s.front (gate ∷ rest))) in
    let after : drop (place + 1) new ≡ rest =
    t.after ∙ (ap (drop (place + 1)) s.spelled ∙ (ap (λ k. drop (k + 1) (s.front ++ gate ∷ rest)) (sym s.ends) ∙ drop_front s.front rest gate)) in
    let there : place < length new = omega (arith, t.no_shorter, ap length s.spelled, length-append s.front (gate ∷ rest), s.ends) in
    let (byte, e) = byte_at place new there in (
      byte,
      record {
        front = s.front;
        junk = s.junk;
        are_open = s.are_open;
        ends = s.ends;
        spelled = e ∙ (ap (λ l. l ++ byte ∷ drop (place + 1) new) before ∙ ap (λ l. s.front ++ byte ∷ l) after);
      },
    )
  where
    byte_at : (place : ℕ) (bytes : List ℕ) → place < length bytes → (byte : ℕ) × (bytes ≡ take place bytes ++ byte ∷ drop (place + 1) bytes)
    byte_at place [] h = absurd (omega (arith, h))
    byte_at zero (x ∷ bytes) h = (x, refl)
    byte_at (suc place) (x ∷ bytes) h =
        let (byte, e) = byte_at place bytes (omega (arith, h)) in
        (byte, simp unary_clauses (ap (λ l. x ∷ l) (simp unary_clauses at e)))

-- either way the list is that of before or that of after
pub before_or_after : (payloads : List (List ℕ)) (payload : List ℕ) (place gate : ℕ) (bytes : List ℕ) → 0 < length payload → length payload < 2 ^ 32
    → StandsWith payloads payload place gate bytes → IsBeforeOrAfter payloads payload bytes
before_or_after payloads payload place zero bytes some short s = inl (stands_records payloads place bytes (closed_stands payloads payload place bytes s))
before_or_after payloads payload place (suc gate) bytes some short s =
    inr (stands_records (payloads ++ payload ∷ []) (place + (5 + length payload)) bytes (open_stands payloads payload place (suc gate) bytes (grind (arith, nat_tests)) some short s))
