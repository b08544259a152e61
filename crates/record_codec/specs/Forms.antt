-- Two more ways to read beside those of sessions: many parts of which each takes a place after those before it, and bytes that fill a
-- record. The forms of all records are put together of these and of those.
use Rattle.std.proofs.Common.{◌≡◌, ℕ, zero, suc, ◌+◌, Bool, true, ◌&&◌, List, [], ◌∷◌, ◌++◌, length, Option, Some, None, refl, sym, ap, subst, ◌∙◌, append_assoc}
use Rattle.std.specs.List.{flat_map}
use Rattle.std.proofs.lemmas.Bool.{and_parts, and_from}
use Rattle.wire_fields.specs.Reading.{AreBytes}
use Rattle.session_codec.specs.Reading.{◌>>=◌, onto}
use Rattle.session_codec.specs.Forms.{IsForm, some_is, bind_some, behind_part}
use Rattle.record_codec.specs.HasSpelling.{all_in_turn}
use Rattle.record_codec.specs.Reading.{so_many_in_turn}

-- one part, and another behind it
pub behind_two : (bytes one rest two left : List ℕ) → bytes ≡ one ++ rest → rest ≡ two ++ left → bytes ≡ (one ++ two) ++ left
behind_two bytes one rest two left first second = first ∙ ap (λ l. one ++ l) second ∙ sym (append_assoc one two left)

no_part : {A : Type 0} (read : ℕ → List ℕ → Option (A × List ℕ)) (takes : A → ℕ) (offset : ℕ) (bytes : List ℕ) →
    so_many_in_turn read takes offset 0 bytes ≡ Some ([], bytes)
unfolding so_many_in_turn
no_part read takes offset bytes = refl

one_part : {A : Type 0} (read : ℕ → List ℕ → Option (A × List ℕ)) (takes : A → ℕ) (offset n : ℕ) (bytes : List ℕ) →
    so_many_in_turn read takes offset (suc n) bytes ≡ (read offset bytes >>= λ x. onto x (so_many_in_turn read takes (offset + takes x.0) n x.1))
unfolding so_many_in_turn
one_part read takes offset n bytes = refl

onto_some : {A : Type 0} (x : A × List ℕ) (r : Option (List A × List ℕ)) (y : List A × List ℕ) → onto x r ≡ Some y →
    (xs : List A × List ℕ) × (r ≡ Some xs) × ((x.0 ∷ xs.0, xs.1) ≡ y)
onto_some x None y e = absurd cc
onto_some x (Some xs) y e = (xs, refl, some_is (x.0 ∷ xs.0, xs.1) y e)

in_turn_again : {A : Type 0} {f : ℕ → A → Bool} {s : A → List ℕ} {read : ℕ → List ℕ → Option (A × List ℕ)} (takes : A → ℕ) →
    ((offset : ℕ) → IsForm (f offset) s (read offset)) → (offset : ℕ) (xs : List A) (rest : List ℕ) → all_in_turn f takes offset xs ≡ true →
    so_many_in_turn read takes offset (length xs) (flat_map s xs ++ rest) ≡ Some (xs, rest)
in_turn_again {A} {f} {s} {read} takes is offset [] rest h = no_part read takes offset rest
in_turn_again {A} {f} {s} {read} takes is offset (x ∷ xs) rest h =
    let fits = and_parts (f offset x) (all_in_turn f takes (offset + takes x) xs) h in
    let others : so_many_in_turn read takes (offset + takes x) (length xs) (flat_map s xs ++ rest) ≡ Some (xs, rest) =
    in_turn_again takes is (offset + takes x) xs rest fits.1 in
    ap (so_many_in_turn read takes offset (suc (length xs))) (append_assoc (s x) (flat_map s xs) rest)
    ∙ one_part read takes offset (length xs) (s x ++ (flat_map s xs ++ rest))
    ∙ ap (λ (r : Option (A × List ℕ)). r >>= λ x. onto x (so_many_in_turn read takes (offset + takes x.0) (length xs) x.1))
    ((is offset).again x (flat_map s xs ++ rest) fits.0)
    ∙ ap (onto (x, flat_map s xs ++ rest)) others

-- what was taken of so many
record TookInTurn {A : Type 0} (f : ℕ → A → Bool) (s : A → List ℕ) (takes : A → ℕ) (offset n : ℕ) (bytes : List ℕ) (x : List A × List ℕ) : Type 0 where
  len : length x.0 ≡ n
  all : all_in_turn f takes offset x.0 ≡ true
  parts : bytes ≡ flat_map s x.0 ++ x.1

in_turn_takes : {A : Type 0} {f : ℕ → A → Bool} {s : A → List ℕ} {read : ℕ → List ℕ → Option (A × List ℕ)} (takes : A → ℕ) →
    ((offset : ℕ) → IsForm (f offset) s (read offset)) → (n offset : ℕ) (bytes : List ℕ) (y : List A × List ℕ) → AreBytes bytes →
    so_many_in_turn read takes offset n bytes ≡ Some y → TookInTurn f s takes offset n bytes y
in_turn_takes {A} {f} {s} {read} takes is zero offset bytes y are e =
    subst (TookInTurn f s takes offset 0 bytes) (some_is ([], bytes) y (sym (no_part read takes offset bytes) ∙ e)) (record { len = refl; all = refl; parts = refl })
in_turn_takes {A} {f} {s} {read} takes is (suc n) offset bytes y are e =
    let x = bind_some (read offset bytes) (λ x. onto x (so_many_in_turn read takes (offset + takes x.0) n x.1)) y (sym (one_part read takes offset n bytes) ∙ e) in
    let a = (is offset).takes bytes x.0 are x.1 in
    let next : ℕ = offset + takes x.0.0 in
    let xs = onto_some x.0 (so_many_in_turn read takes next n x.0.1) y x.2 in
    let others : TookInTurn f s takes next n x.0.1 xs.0 =
    in_turn_takes takes is n next x.0.1 xs.0 (behind_part bytes (s x.0.0) x.0.1 a.parts are) xs.1 in
    subst (TookInTurn f s takes offset (suc n) bytes) {x = (x.0.0 ∷ xs.0.0, xs.0.1)} xs.2 (record {
      len = ap suc others.len;
      all = and_from (f offset x.0.0) (all_in_turn f takes next xs.0.0) a.has others.all;
      parts = behind_two bytes (s x.0.0) x.0.1 (flat_map s xs.0.0) xs.0.1 a.parts others.parts;
    })

-- a count in front
pub counted_in_turn_form : {A : Type 0} {f : ℕ → A → Bool} {s : A → List ℕ} {read : ℕ → List ℕ → Option (A × List ℕ)} (takes : A → ℕ)
    {is_count : ℕ → Bool} {spelled_count : ℕ → List ℕ} {count : List ℕ → Option (ℕ × List ℕ)} →
    IsForm is_count spelled_count count → ((offset : ℕ) → IsForm (f offset) s (read offset)) → (offset : ℕ) →
    IsForm (λ xs. is_count (length xs) && all_in_turn f takes offset xs) (λ xs. spelled_count (length xs) ++ flat_map s xs)
    (λ bytes. count bytes >>= λ n. so_many_in_turn read takes offset n.0 n.1)
counted_in_turn_form {A} {f} {s} {read} takes {is_count} {spelled_count} {count} counts is offset =
    let behind : Option (ℕ × List ℕ) → Option (List A × List ℕ) = λ r. r >>= λ n. so_many_in_turn read takes offset n.0 n.1 in
    record {
      again = λ xs rest h.
          let fits = and_parts (is_count (length xs)) (all_in_turn f takes offset xs) h in
          ap (λ l. behind (count l)) (append_assoc (spelled_count (length xs)) (flat_map s xs) rest)
          ∙ ap behind (counts.again (length xs) (flat_map s xs ++ rest) fits.0)
          ∙ in_turn_again takes is offset xs rest fits.1;
      takes = λ bytes x are e.
          let n = bind_some (count bytes) (λ n. so_many_in_turn read takes offset n.0 n.1) x e in
          let a = counts.takes bytes n.0 are n.1 in
          let took = in_turn_takes takes is n.0.0 offset n.0.1 x (behind_part bytes (spelled_count n.0.0) n.0.1 a.parts are) n.2 in
          record {
            has = and_from (is_count (length x.0)) (all_in_turn f takes offset x.0) (ap is_count took.len ∙ a.has) took.all;
            parts = behind_two bytes (spelled_count (length x.0)) n.0.1 (flat_map s x.0) x.1 (a.parts ∙ ap (λ l. spelled_count l ++ n.0.1) (sym took.len)) took.parts;
          };
    }
