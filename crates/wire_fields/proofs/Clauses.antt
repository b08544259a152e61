-- What the clauses of a call say, from what it took.
use Rattle.std.proofs.Common.{◌≡◌, ℕ, List, [], ◌++◌, length, drop, Result, Ok, Err, refl, sym, ap, ◌∙◌, arith, inl, inr}
use Rattle.std.specs.Prelude.{IfOk, IfErr, IsErrOf}
use Rattle.std.proofs.lemmas.Bool.{cases_lt}
use Rattle.std.proofs.lemmas.List.{drop_all}
use Rattle.wire_fields.specs.declared.cut.Cut.{Cut}
use Rattle.wire_fields.specs.declared.cut.Cut.TheVariants.{Short, Bad}
use Rattle.wire_fields.specs.Reading.{AreBytes, Takes, Stands, GoesOn, IsRefused}
use Rattle.wire_fields.specs.Places.{Took, are_bytes_drop, stands_from, goes_on_at, refused_at}

-- how a field of one kind is read and spelled
pub record IsKind {Y : Type 0} (read : List ℕ → Result (Y × List ℕ) Cut) (spelled : Y → List ℕ) (InRange : Y → Type 0) : Type 0 where
  pub takes : (bytes : List ℕ) (x : Y × List ℕ) → AreBytes bytes → read bytes ≡ Ok x → Took (InRange x.0) bytes (spelled x.0) x.1
  pub goes_on : (bytes : List ℕ) → read bytes ≡ Err Short → GoesOn read bytes 0
  pub refused : (bytes more : List ℕ) → read bytes ≡ Err Bad → read (bytes ++ more) ≡ Err Bad
  pub nothing : read [] ≡ Err Short

pub found : {X Y : Type 0} (view : X → Y) (read : List ℕ → Result (Y × List ℕ) Cut) (spelled : Y → List ℕ) (InRange : Y → Type 0) (kind : IsKind read spelled InRange)
    (result : Result X Cut) (bytes : List ℕ) (old new : ℕ) → AreBytes bytes → Takes view result (read (drop old bytes)) bytes old new
    → IfOk result (λ x. InRange (view x) × Stands (spelled (view x)) bytes old new)
found view read spelled InRange kind (Ok x) bytes old new fits t =
    let took = kind.takes (drop old bytes) (view x, drop new bytes) (are_bytes_drop old bytes fits) t.0 in
    (took.in_range, stands_from bytes (spelled (view x)) (drop new bytes) old new t.1 t.2 took.parts refl)
found view read spelled InRange kind (Err e) bytes old new fits t = tt

pub short : {X Y : Type 0} (view : X → Y) (read : List ℕ → Result (Y × List ℕ) Cut) (spelled : Y → List ℕ) (InRange : Y → Type 0) (kind : IsKind read spelled InRange)
    (result : Result X Cut) (bytes : List ℕ) (old new : ℕ) → Takes view result (read (drop old bytes)) bytes old new
    → IsErrOf result Short → GoesOn read bytes old
short view read spelled InRange kind (Ok x) bytes old new t e = absurd cc
short view read spelled InRange kind (Err Bad) bytes old new t e = absurd cc
short view read spelled InRange kind (Err Short) bytes old new t e = goes_on_at read bytes old (kind.goes_on (drop old bytes) t.0)

pub bad : {X Y : Type 0} (view : X → Y) (read : List ℕ → Result (Y × List ℕ) Cut) (spelled : Y → List ℕ) (InRange : Y → Type 0) (kind : IsKind read spelled InRange)
    (result : Result X Cut) (bytes : List ℕ) (old new : ℕ) → Takes view result (read (drop old bytes)) bytes old new
    → IsErrOf result Bad → IsRefused read bytes old
bad view read spelled InRange kind (Ok x) bytes old new t e = absurd cc
bad view read spelled InRange kind (Err Short) bytes old new t e = absurd cc
bad view read spelled InRange kind (Err Bad) bytes old new t e =
    elim (cases_lt (length bytes) old) [
      | inl past ↦ absurd (let no_field = sym kind.nothing ∙ ap read (sym (drop_all old bytes (omega arith))) ∙ t.0 in cc)
      | inr within ↦ refused_at read bytes old within (λ more. kind.refused (drop old bytes) more t.0)
    ]

-- the same of a kind that is never refused for good
pub only_short : {X Y : Type 0} (view : X → Y) (read : List ℕ → Result (Y × List ℕ) Cut) (goes_on : (bytes : List ℕ) → read bytes ≡ Err Short → GoesOn read bytes 0)
    (never : (bytes : List ℕ) → read bytes ≡ Err Bad → ⊥)
    (result : Result X Cut) (bytes : List ℕ) (old new : ℕ) → Takes view result (read (drop old bytes)) bytes old new → IfErr result (λ e. (e ≡ Short) × GoesOn read bytes old)
only_short view read goes_on never (Ok x) bytes old new t = tt
only_short view read goes_on never (Err Short) bytes old new t = (refl, goes_on_at read bytes old (goes_on (drop old bytes) t.0))
only_short view read goes_on never (Err Bad) bytes old new t = absurd (never (drop old bytes) t.0)

pub if_ok_map : {X : Type 0} (P Q : X → Type 0) (result : Result X Cut) → ((x : X) → P x → Q x) → IfOk result P → IfOk result Q
if_ok_map P Q (Ok x) f h = f x h
if_ok_map P Q (Err e) f h = tt
