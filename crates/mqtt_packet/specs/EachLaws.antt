-- Reading elements that fill bytes, one after another.
use Rattle.std.proofs.Common.{◌≡◌, ℕ, suc, ◌-◌, ◌<◌, ◌≤◌, List, [], ◌∷◌, ◌++◌, length, drop, Option, Some, None, refl, sym, ap, ◌∙◌, append_assoc, arith}
use Rattle.std.proofs.lemmas.List.{length-drop, length-append, drop_all, append-nil}
use Rattle.mqtt_packet.specs.Reading.{◌>>=◌, in_front, each_within, each_at}

-- what was read, and what is read behind it
abbrev pub behind : {A : Type 0} → List A → Option (List A) → Option (List A)
behind xs (Some ys) = Some (xs ++ ys)
behind xs None = None

pub behind_in_front : {A : Type 0} (xs : List A) (x : A) (r : Option (List A)) → behind xs (in_front x r) ≡ behind (xs ++ x ∷ []) r
behind_in_front xs x (Some ys) = ap Some (sym (append_assoc xs (x ∷ []) ys))
behind_in_front xs x None = refl

pub nothing_left : {A : Type 0} (read : List ℕ → Option (A × List ℕ)) (n : ℕ) → each_within read n [] ≡ Some []
unfolding each_within
nothing_left read n = refl

pub each_step : {A : Type 0} (read : List ℕ → Option (A × List ℕ)) (n : ℕ) (bytes : List ℕ) → 0 < length bytes
    → each_within read (suc n) bytes ≡ (read bytes >>= λ x. in_front x.0 (each_within read n x.1))
unfolding each_within
each_step read n [] some = absurd (omega (arith, some))
each_step read n (b ∷ bytes) some = refl

-- what a loop has read, and what is left for it
abbrev pub IsSoFar : {A : Type 0} → (List ℕ → Option (A × List ℕ)) → List ℕ → List A → ℕ → Type 0
IsSoFar read bytes xs at = behind xs (each_within read (length bytes - length xs) (drop at bytes)) ≡ each_at read bytes

-- one more
pub one_more : {A : Type 0} (read : List ℕ → Option (A × List ℕ)) (bytes : List ℕ) (xs : List A) (x : A) (at next : ℕ) → length xs ≤ at → at < length bytes
    → IsSoFar read bytes xs at → read (drop at bytes) ≡ Some (x, drop next bytes) → IsSoFar read bytes (xs ++ x ∷ []) next
one_more {A} read bytes xs x at next few more whole found =
    let n : ℕ = length bytes - length (xs ++ x ∷ []) in
    let fuel : length bytes - length xs ≡ suc n = omega (arith, length-append xs (x ∷ [])) in
    let some : 0 < length (drop at bytes) = omega (arith, length-drop at bytes) in
    let step : each_within read (length bytes - length xs) (drop at bytes) ≡ in_front x (each_within read n (drop next bytes)) =
    ap (λ (m : ℕ). each_within read m (drop at bytes)) fuel
    ∙ each_step read n (drop at bytes) some
    ∙ ap (λ (r : Option (A × List ℕ)). r >>= λ y. in_front y.0 (each_within read n y.1)) found in
    sym (behind_in_front xs x (each_within read n (drop next bytes))) ∙ sym (ap (behind xs) step) ∙ whole

-- none where one is wanted
pub one_missing : {A : Type 0} (read : List ℕ → Option (A × List ℕ)) (bytes : List ℕ) (xs : List A) (at : ℕ) → length xs ≤ at → at < length bytes
    → IsSoFar read bytes xs at → read (drop at bytes) ≡ None → each_at read bytes ≡ None
one_missing {A} read bytes xs at few more whole found =
    let n : ℕ = length bytes - length xs - 1 in
    let fuel : length bytes - length xs ≡ suc n = omega arith in
    let some : 0 < length (drop at bytes) = omega (arith, length-drop at bytes) in
    let step : each_within read (length bytes - length xs) (drop at bytes) ≡ None =
    ap (λ (m : ℕ). each_within read m (drop at bytes)) fuel
    ∙ each_step read n (drop at bytes) some
    ∙ ap (λ (r : Option (A × List ℕ)). r >>= λ y. in_front y.0 (each_within read n y.1)) found in
    sym whole ∙ ap (behind xs) step

-- the end
pub at_the_end : {A : Type 0} (read : List ℕ → Option (A × List ℕ)) (bytes : List ℕ) (xs : List A) (at : ℕ) → length bytes ≤ at
    → IsSoFar read bytes xs at → each_at read bytes ≡ Some xs
at_the_end read bytes xs at end whole =
    let none : drop at bytes ≡ [] = drop_all at bytes end in
    sym whole
    ∙ ap (λ (l : List ℕ). behind xs (each_within read (length bytes - length xs) l)) none
    ∙ ap (behind xs) (nothing_left read (length bytes - length xs))
    ∙ ap Some (append-nil xs)
