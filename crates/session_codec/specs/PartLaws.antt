-- Laws of reading many parts in a loop, and of the end.
use Rattle.std.proofs.Common.{◌≡◌, ℕ, suc, ◌+◌, ◌<◌, List, [], ◌∷◌, ◌++◌, length, drop, Option, Some, None, refl, sym, ap, ◌∙◌, append_assoc, append-nil, arith}
use Rattle.std.proofs.lemmas.List.{length-drop}
use Rattle.session_codec.specs.declared.refused.CodecRefused.{CodecRefused}
use Rattle.session_codec.specs.declared.refused.CodecRefused.TheVariants.{Bad, Memory}
use Rattle.session_codec.specs.Reading.{◌>>=◌, onto, so_many, at_end}
use Rattle.session_codec.specs.Taking.{IsNone}

pub none_map : (e : CodecRefused) (P Q : Type 0) → (P → Q) → IsNone e P → IsNone e Q
none_map Bad P Q f h = f h
none_map Memory P Q f h = tt

-- ---- many parts

-- what was read, and what is read behind it
abbrev pub behind : {A : Type 0} → List A → Option (List A × List ℕ) → Option (List A × List ℕ)
behind xs None = None
behind xs (Some ys) = Some (xs ++ ys.0, ys.1)

behind_onto : {A : Type 0} (xs : List A) (x : A × List ℕ) (r : Option (List A × List ℕ)) → behind xs (onto x r) ≡ behind (xs ++ x.0 ∷ []) r
behind_onto xs x (Some ys) = ap (λ l. Some (l, ys.1)) (sym (append_assoc xs (x.0 ∷ []) ys.0))
behind_onto xs x None = refl

no_more : {A : Type 0} (read : List ℕ → Option (A × List ℕ)) (bytes : List ℕ) → so_many read 0 bytes ≡ Some ([], bytes)
unfolding so_many
no_more read bytes = refl

one_more : {A : Type 0} (read : List ℕ → Option (A × List ℕ)) (n : ℕ) (bytes : List ℕ) →
    so_many read (suc n) bytes ≡ (read bytes >>= λ x. onto x (so_many read n x.1))
unfolding so_many
one_more read n bytes = refl

-- what a loop has read of so many parts, and what is left for it
pub record IsSoFar {A : Type 0} (read : List ℕ → Option (A × List ℕ)) (count : ℕ) (all : List ℕ) (xs : List A) (left : ℕ) (rest : List ℕ) : Type 0 where
  pub whole : behind xs (so_many read left rest) ≡ so_many read count all

pub so_far_none : {A : Type 0} (read : List ℕ → Option (A × List ℕ)) (count : ℕ) (all : List ℕ) (left : ℕ) → left ≡ count → IsSoFar read count all [] left all
so_far_none {A} read count all left is = record { whole = ap (λ n. behind [] (so_many read n all)) is ∙ by (so_many read count all) }
  where
    by : (r : Option (List A × List ℕ)) → behind [] r ≡ r
    by None = refl
    by (Some ys) = refl

pub so_far_more : {A : Type 0} (read : List ℕ → Option (A × List ℕ)) (count : ℕ) (all : List ℕ) (xs : List A) (left next : ℕ) (rest : List ℕ) (x : A × List ℕ) →
    left ≡ next + 1 → IsSoFar read count all xs left rest → read rest ≡ Some x → IsSoFar read count all (xs ++ x.0 ∷ []) next x.1
so_far_more {A} read count all xs left next rest x is far found =
    let fuel : left ≡ suc next = omega arith in
    record {
      whole =
          sym (behind_onto xs x (so_many read next x.1))
          ∙ ap (λ (r : Option (A × List ℕ)). behind xs (r >>= λ x. onto x (so_many read next x.1))) (sym found)
          ∙ ap (behind xs) (sym (one_more read next rest))
          ∙ ap (λ n. behind xs (so_many read n rest)) (sym fuel)
          ∙ far.whole;
    }

pub so_far_missing : {A : Type 0} (read : List ℕ → Option (A × List ℕ)) (count : ℕ) (all : List ℕ) (xs : List A) (left next : ℕ) (rest : List ℕ) →
    left ≡ next + 1 → IsSoFar read count all xs left rest → read rest ≡ None → so_many read count all ≡ None
so_far_missing {A} read count all xs left next rest is far found =
    let fuel : left ≡ suc next = omega arith in
    sym far.whole
    ∙ ap (λ n. behind xs (so_many read n rest)) fuel
    ∙ ap (behind xs) (one_more read next rest)
    ∙ ap (λ (r : Option (A × List ℕ)). behind xs (r >>= λ x. onto x (so_many read next x.1))) found

pub so_far_all : {A : Type 0} (read : List ℕ → Option (A × List ℕ)) (count : ℕ) (all : List ℕ) (xs : List A) (left : ℕ) (rest : List ℕ) →
    left ≡ 0 → IsSoFar read count all xs left rest → so_many read count all ≡ Some (xs, rest)
so_far_all read count all xs left rest is far =
    sym far.whole
    ∙ ap (λ n. behind xs (so_many read n rest)) is
    ∙ ap (behind xs) (no_more read rest)
    ∙ ap (λ l. Some (l, rest)) (append-nil xs)

-- ---- the end

abbrev pub IsMore : List ℕ → Type 0
IsMore bytes = bytes ≡ [] → ⊥

pub more_left : (bytes : List ℕ) (at : ℕ) → at < length bytes → IsMore (drop at bytes)
more_left bytes at more none = omega (arith, more, ap length none, length-drop at bytes)

pub not_at_end : {A : Type 0} (x : A) (bytes : List ℕ) → IsMore bytes → at_end x bytes ≡ None
not_at_end x [] more = absurd (more refl)
not_at_end x (b ∷ bytes) more = refl
