-- What a gate is while it is being closed, and what records the bytes have then.
use Rattle.std.proofs.Common.{ℕ, zero, suc, ◌+◌, ◌<◌, ◌≤◌, ◌⊎◌, ◌≡◌, ◌==◌, false, inl, inr, List, [], ◌∷◌, ◌++◌, length, take, drop, get_or, None, arith, refl, sym, ap, ◌∙◌, take-append-drop}
use Rattle.std.proofs.lemmas.Bool.Decides.{nat_tests}
use Rattle.std.proofs.lemmas.List.{drop_more, take_all}
use native.Mathlib.Numerals.{unary_clauses}
use Rattle.outside.specs.DiskModel.{Torn, Follows, Only}
use Rattle.gated_log.specs.Closing.{HasOldList, IsClosing, IsGateTorn, WithGate}
use Rattle.gated_log.specs.Records.{records, records_within, front_record, and_front, rest_of}
use Rattle.gated_log.proofs.CommitLemmas.{torn_images}

there_or_not : (place : ℕ) (bytes : List ℕ) → (place < length bytes) ⊎ (length bytes ≤ place)
there_or_not place [] = inr (omega arith)
there_or_not zero (x ∷ bytes) = inl (omega arith)
there_or_not (suc place) (x ∷ bytes) = one_more (there_or_not place bytes)
  where
    one_more : (place < length bytes) ⊎ (length bytes ≤ place) → (suc place < length (x ∷ bytes)) ⊎ (length (x ∷ bytes) ≤ suc place)
    one_more (inl h) = inl (omega (arith, h))
    one_more (inr h) = inr (omega (arith, h))

-- a torn write of one byte
pub gate_torn : (place : ℕ) (old image : List ℕ) → Torn place 1 old image → IsGateTorn place old image
gate_torn place old image t = either_way (there_or_not place image)
  where
    either_way : (place < length image) ⊎ (length image ≤ place) → IsGateTorn place old image
    either_way (inl there) = inr (
      get_or image place 0,
      sym (take-append-drop place image) ∙ (ap (λ l. take place image ++ l) (drop_more image place 0 there)
          ∙ (ap (λ l. l ++ get_or image place 0 ∷ drop (place + 1) image) t.before ∙ ap (λ l. take place old ++ get_or image place 0 ∷ l) t.after)),
    )
    either_way (inr short) =
        inl (sym (take_all place image short) ∙ (t.before ∙ take_all place old (omega (arith, short, t.no_shorter))))

pub gate_images : (place : ℕ) (bytes : List ℕ) (old new : List ℕ → Type 0) → Only bytes old → Follows (Torn place 1) old new
    → (image : List ℕ) → new image → IsGateTorn place bytes image
gate_images place bytes old new only follows image left = gate_torn place bytes image (torn_images place 1 bytes old new only follows image left)

-- a gate that is read as 00
pub gate_is : (place : ℕ) (bytes : List ℕ) → 0 ∷ [] ≡ take 1 (drop place bytes) → WithGate place 0 bytes bytes
gate_is place bytes e =
    sym (take-append-drop place bytes) ∙ ap (λ l. take place bytes ++ l) (front_is (drop place bytes) e ∙ ap (λ l. 0 ∷ l) (drop_again place bytes))
  where
    front_is : (bytes : List ℕ) → 0 ∷ [] ≡ take 1 bytes → bytes ≡ 0 ∷ drop 1 bytes
    front_is [] e = absurd (omega (arith, ap length e))
    front_is (x ∷ bytes) e = grind (arith, nat_tests)

    drop_again : (place : ℕ) (bytes : List ℕ) → drop 1 (drop place bytes) ≡ drop (place + 1) bytes
    drop_again zero bytes = refl
    drop_again (suc place) [] = simp unary_clauses refl
    drop_again (suc place) (x ∷ bytes) = drop_again place bytes ∙ simp unary_clauses refl

-- a gate of another byte above 0 changes no record, and one of 00 closes them
pub other_front : (gate first : ℕ) (bytes : List ℕ) → (first ≡ 0 → ⊥)
    → (front_record (gate ∷ bytes) ≡ None) ⊎ (front_record (gate ∷ bytes) ≡ front_record (first ∷ bytes))
other_front zero first bytes h = inl refl
other_front (suc gate) zero bytes h = absurd (h refl)
other_front (suc gate) (suc first) bytes h =
    let e : (suc gate == 0) ≡ false = grind (arith, nat_tests) in
    let f : (suc first == 0) ≡ false = grind (arith, nat_tests) in
    inr (rw (e, f) refl)

other_gate : (gate first : ℕ) (bytes : List ℕ) → (front_record (gate ∷ bytes) ≡ None) ⊎ (front_record (gate ∷ bytes) ≡ front_record (first ∷ bytes))
    → (records (gate ∷ bytes) ≡ []) ⊎ (records (gate ∷ bytes) ≡ records (first ∷ bytes))
other_gate gate first bytes (inl e) = inl (ap (λ f. and_front f (records_within (length bytes) (rest_of f))) e)
other_gate gate first bytes (inr e) = inr (ap (λ f. and_front f (records_within (length bytes) (rest_of f))) e)

-- behind a gate that is torn the list is none, or that of before
pub front_closing : (old image : List ℕ) → IsClosing 0 old image → (records image ≡ []) ⊎ (records image ≡ records old)
front_closing old image (inl same) = inr (ap records same)
front_closing old image (inr (before, inl same)) = inr (ap records same)
front_closing [] image (inr (before, inr (gate, torn))) = inl (ap records torn ∙ grind (arith, nat_tests))
front_closing (first ∷ old) image (inr (before, inr (gate, torn))) = with_front (other_gate gate first old (other_front gate first old (λ e. before (ap (λ b. b ∷ []) e))))
  where
    with_front : (records (gate ∷ old) ≡ []) ⊎ (records (gate ∷ old) ≡ records (first ∷ old)) → (records image ≡ []) ⊎ (records image ≡ records (first ∷ old))
    with_front (inl e) = inl (ap records torn ∙ e)
    with_front (inr e) = inr (ap records torn ∙ e)

pub old_list : (images : List ℕ → Type 0) (old seen image : List ℕ) → images old → seen ≡ old → IsClosing 0 seen image → HasOldList images image
old_list images old seen image there same c = either_way (front_closing seen image c)
  where
    either_way : (records image ≡ []) ⊎ (records image ≡ records seen) → HasOldList images image
    either_way (inl e) = inl e
    either_way (inr e) = inr (old, there, e ∙ ap records same)
