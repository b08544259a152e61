-- What a put does to the bytes that a sink has taken, where it can tell them.
use Rattle.std.specs.Prelude.{◌≡◌, ℕ, ◌+◌, ◌≤◌, List, ◌++◌, length, take, ⊤, Option, None, Some}
use Rattle.std.proofs.Common.{ap, sym, subst, ◌∙◌, arith, append_assoc, length-append}
use Rattle.std.proofs.lemmas.List.{take-append-le}
use Rattle.std.proofs.Math.Seq.{take-append-add}

-- the piece stands behind what was put before
abbrev pub Puts : Option (List ℕ) → Option (List ℕ) → List ℕ → Type 0
Puts None now piece = ⊤
Puts (Some taken) now piece = now ≡ Some (taken ++ piece)

-- a front of the piece stands behind what was put before
abbrev pub PutsFront : Option (List ℕ) → Option (List ℕ) → List ℕ → Type 0
PutsFront None now piece = ⊤
PutsFront (Some taken) now piece = (n : ℕ) × (n ≤ length piece) × (now ≡ Some (taken ++ take n piece))

-- two pieces that were put are one piece that was put
pub puts_then : (before mid now : Option (List ℕ)) (first second : List ℕ) → Puts before mid first → Puts mid now second → Puts before now (first ++ second)
puts_then None mid now first second p q = tt
puts_then (Some taken) mid now first second p q =
    let P : Option (List ℕ) → Type 0 = λ o. Puts o now second in
    subst P p q ∙ ap Some (append_assoc taken first second)

-- a front of the first of two pieces is a front of both
pub puts_front_first : (before now : Option (List ℕ)) (first second : List ℕ) → PutsFront before now first → PutsFront before now (first ++ second)
puts_front_first None now first second p = tt
puts_front_first (Some taken) now first second p =
    let (n, within, put) = p in
    (n, omega (arith, length-append first second), put ∙ ap (λ l. Some (taken ++ l)) (sym (take-append-le n first second within)))

-- a piece that was put, and a front of the next, are a front of both
pub puts_front_then : (before mid now : Option (List ℕ)) (first second : List ℕ) → Puts before mid first → PutsFront mid now second → PutsFront before now (first ++ second)
puts_front_then None mid now first second p q = tt
puts_front_then (Some taken) mid now first second p q =
    let P : Option (List ℕ) → Type 0 = λ o. PutsFront o now second in
    let (n, within, put) = subst P p q in (
      length first + n,
      omega (arith, length-append first second),
      put ∙ ap Some (append_assoc taken first (take n second) ∙ ap (λ l. taken ++ l) (sym (take-append-add first second n))),
    )
