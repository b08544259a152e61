-- What a loop has read of parts of which each takes its offsets after those before it.
use Rattle.std.proofs.Common.{◌≡◌, ℕ, suc, ◌+◌, ◌≤◌, List, [], ◌∷◌, ◌++◌, Option, Some, None, refl, sym, ap, ◌∙◌, append_assoc, append-nil, arith}
use Rattle.session_codec.specs.Reading.{◌>>=◌, onto}
use Rattle.session_codec.specs.PartLaws.{behind}
use Rattle.record_codec.specs.declared.group.Op.{Op}
use Rattle.record_codec.specs.declared.group.Op.TheVariants.{Store, Release, Forget}
use Rattle.record_codec.specs.Records.{offsets_of}
use Rattle.record_codec.specs.Reading.{so_many_in_turn}

behind_onto : {A : Type 0} (xs : List A) (x : A × List ℕ) (r : Option (List A × List ℕ)) → behind xs (onto x r) ≡ behind (xs ++ x.0 ∷ []) r
behind_onto xs x (Some ys) = ap (λ l. Some (l, ys.1)) (sym (append_assoc xs (x.0 ∷ []) ys.0))
behind_onto xs x None = refl

no_more : {A : Type 0} (read : ℕ → List ℕ → Option (A × List ℕ)) (takes : A → ℕ) (offset : ℕ) (bytes : List ℕ) →
    so_many_in_turn read takes offset 0 bytes ≡ Some ([], bytes)
unfolding so_many_in_turn
no_more read takes offset bytes = refl

one_more : {A : Type 0} (read : ℕ → List ℕ → Option (A × List ℕ)) (takes : A → ℕ) (offset n : ℕ) (bytes : List ℕ) →
    so_many_in_turn read takes offset (suc n) bytes ≡ (read offset bytes >>= λ x. onto x (so_many_in_turn read takes (offset + takes x.0) n x.1))
unfolding so_many_in_turn
one_more read takes offset n bytes = refl

-- what was read, with the offset that comes next, how many parts are left, and their bytes
pub record IsSoFar {A : Type 0} (read : ℕ → List ℕ → Option (A × List ℕ)) (takes : A → ℕ) (first count : ℕ) (all : List ℕ) (xs : List A)
    (offset left : ℕ) (rest : List ℕ) : Type 0 where
  pub whole : behind xs (so_many_in_turn read takes offset left rest) ≡ so_many_in_turn read takes first count all

pub so_far_none : {A : Type 0} (read : ℕ → List ℕ → Option (A × List ℕ)) (takes : A → ℕ) (first count : ℕ) (all : List ℕ) (offset left : ℕ) →
    offset ≡ first → left ≡ count → IsSoFar read takes first count all [] offset left all
so_far_none {A} read takes first count all offset left at is =
    record {
      whole = ap (λ k. behind [] (so_many_in_turn read takes k left all)) at ∙ ap (λ n. behind [] (so_many_in_turn read takes first n all)) is
          ∙ by (so_many_in_turn read takes first count all);
    }
  where
    by : (r : Option (List A × List ℕ)) → behind [] r ≡ r
    by None = refl
    by (Some ys) = refl

pub so_far_more : {A : Type 0} (read : ℕ → List ℕ → Option (A × List ℕ)) (takes : A → ℕ) (first count : ℕ) (all : List ℕ) (xs : List A)
    (offset left after next : ℕ) (rest : List ℕ) (x : A × List ℕ) → left ≡ next + 1 → after ≡ offset + takes x.0 →
    IsSoFar read takes first count all xs offset left rest → read offset rest ≡ Some x →
    IsSoFar read takes first count all (xs ++ x.0 ∷ []) after next x.1
so_far_more {A} read takes first count all xs offset left after next rest x is at far found =
    let fuel : left ≡ suc next = omega arith in
    record {
      whole =
          ap (λ k. behind (xs ++ x.0 ∷ []) (so_many_in_turn read takes k next x.1)) at
          ∙ sym (behind_onto xs x (so_many_in_turn read takes (offset + takes x.0) next x.1))
          ∙ ap (λ (r : Option (A × List ℕ)). behind xs (r >>= λ x. onto x (so_many_in_turn read takes (offset + takes x.0) next x.1))) (sym found)
          ∙ ap (behind xs) (sym (one_more read takes offset next rest))
          ∙ ap (λ n. behind xs (so_many_in_turn read takes offset n rest)) (sym fuel)
          ∙ far.whole;
    }

pub so_far_missing : {A : Type 0} (read : ℕ → List ℕ → Option (A × List ℕ)) (takes : A → ℕ) (first count : ℕ) (all : List ℕ) (xs : List A)
    (offset left next : ℕ) (rest : List ℕ) → left ≡ next + 1 → IsSoFar read takes first count all xs offset left rest →
    read offset rest ≡ None → so_many_in_turn read takes first count all ≡ None
so_far_missing {A} read takes first count all xs offset left next rest is far found =
    let fuel : left ≡ suc next = omega arith in
    sym far.whole
    ∙ ap (λ n. behind xs (so_many_in_turn read takes offset n rest)) fuel
    ∙ ap (behind xs) (one_more read takes offset next rest)
    ∙ ap (λ (r : Option (A × List ℕ)). behind xs (r >>= λ x. onto x (so_many_in_turn read takes (offset + takes x.0) next x.1))) found

pub so_far_all : {A : Type 0} (read : ℕ → List ℕ → Option (A × List ℕ)) (takes : A → ℕ) (first count : ℕ) (all : List ℕ) (xs : List A)
    (offset left : ℕ) (rest : List ℕ) → left ≡ 0 → IsSoFar read takes first count all xs offset left rest →
    so_many_in_turn read takes first count all ≡ Some (xs, rest)
so_far_all read takes first count all xs offset left rest is far =
    sym far.whole
    ∙ ap (λ n. behind xs (so_many_in_turn read takes offset n rest)) is
    ∙ ap (behind xs) (no_more read takes offset rest)
    ∙ ap (λ l. Some (l, rest)) (append-nil xs)

-- an operation takes at most one offset
pub at_most_one : (op : Op) → offsets_of op ≤ 1
at_most_one (Store m) = omega arith
at_most_one (Release publisher incarnation id) = omega arith
at_most_one (Forget publisher incarnation) = omega arith
