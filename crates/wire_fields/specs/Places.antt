-- Laws of places in bytes, and of what stands behind them.
use Rattle.std.proofs.Common.{◌≡◌, ℕ, zero, suc, ◌+◌, ◌-◌, ◌<◌, ◌≤◌, Bool, true, false, cond, List, [], ◌∷◌, ◌++◌, length, take, drop, replicate, Result, Ok, Err, refl, sym, ap, ◌∙◌, append_assoc, arith, inl, inr}
use Rattle.std.proofs.lemmas.Bool.{cases_lt}
use Rattle.std.proofs.lemmas.List.{take-append-drop, length-append, length-take, length-drop, length-replicate, get_or-drop, get_or-take, get_or_past, get_or-replicate, drop_at, drop_all, drop-append-le}
use Rattle.wire_fields.specs.declared.cut.Cut.{Cut}
use Rattle.wire_fields.specs.declared.cut.Cut.TheVariants.{Bad}
use Rattle.wire_fields.specs.Reading.{◌>>=◌, AreBytes, GoesOn, IsRefused, Stands}

-- ---- bytes

pub are_bytes_drop : (n : ℕ) (bytes : List ℕ) → AreBytes bytes → AreBytes (drop n bytes)
are_bytes_drop n bytes h i = rw get_or-drop (h (n + i))

pub are_bytes_take : (n : ℕ) (bytes : List ℕ) → AreBytes bytes → AreBytes (take n bytes)
are_bytes_take n bytes h i =
    elim (cases_lt i n) [
      | inl lt ↦ rw (get_or-take n bytes i 0 lt) (h i)
      | inr le ↦ rw (get_or_past (take n bytes) i 0 (omega (arith, length-take n bytes))) (omega arith)
    ]

pub are_bytes_rest : (b : ℕ) (bytes : List ℕ) → AreBytes (b ∷ bytes) → AreBytes bytes
are_bytes_rest b bytes h i = h (suc i)

pub are_bytes_append : (xs ys : List ℕ) → AreBytes xs → AreBytes ys → AreBytes (xs ++ ys)
are_bytes_append [] ys h k i = k i
are_bytes_append (x ∷ xs) ys h k zero = h 0
are_bytes_append (x ∷ xs) ys h k (suc i) = are_bytes_append xs ys (are_bytes_rest x xs h) k i

pub are_bytes_replicate : (n b : ℕ) → b < 256 → AreBytes (replicate n b)
are_bytes_replicate n b lt i =
    elim (cases_lt i n) [
      | inl below ↦ rw (get_or-replicate n i b 0 below) lt
      | inr past ↦ rw (get_or_past (replicate n b) i 0 (omega (arith, length-replicate {A = ℕ} n b))) (omega arith)
    ]

-- ---- what a step gave

pub bind_ok : {A B : Type 0} (r : Result A Cut) (f : A → Result B Cut) (y : B) → (r >>= f) ≡ Ok y → (x : A) × (r ≡ Ok x) × (f x ≡ Ok y)
bind_ok (Ok x) f y e = (x, refl, e)
bind_ok (Err d) f y e = absurd cc

pub guard_ok : {A : Type 0} (b : Bool) (d : Cut) (x y : A) → cond b (Err d) (Ok x) ≡ Ok y → (b ≡ false) × (x ≡ y)
guard_ok true d x y e = absurd cc
guard_ok false d x y e = (refl, cc)

-- what a field took from the front of the bytes, in its range, and bytes behind it
pub record Took (InRange : Type 0) (bytes field rest : List ℕ) : Type 0 where
  pub parts : bytes ≡ field ++ rest
  pub in_range : InRange
  pub behind : AreBytes rest

-- ---- places

-- with more behind the end, what stands at a place is what stood there and the more; a place past the end is filled up first
pub behind_place : (at : ℕ) (bytes more : List ℕ) → AreBytes more → (others : List ℕ) × AreBytes others × (drop at (bytes ++ others) ≡ drop at bytes ++ more)
behind_place at bytes more h =
    elim (cases_lt (length bytes) at) [
      | inl past ↦
          let fill : List ℕ = replicate (at - length bytes) 0 in
          let size : length (bytes ++ fill) ≡ at = omega (arith, length-append bytes fill, length-replicate {A = ℕ} (at - length bytes) 0) in
          let none : drop at bytes ≡ [] = drop_all at bytes (omega arith) in
          let nothing : more ≡ drop at bytes ++ more = rw none refl in (
            fill ++ more,
            are_bytes_append fill more (are_bytes_replicate (at - length bytes) 0 (omega arith)) h,
            ap (drop at) (sym (append_assoc bytes fill more)) ∙ drop_at (bytes ++ fill) more at size ∙ nothing,
          )
      | inr within ↦ (more, h, drop-append-le at bytes more within)
    ]

pub goes_on_at : {Y : Type 0} (read : List ℕ → Result (Y × List ℕ) Cut) (bytes : List ℕ) (at : ℕ) → GoesOn read (drop at bytes) 0 → GoesOn read bytes at
goes_on_at {Y} read bytes at g =
    let there = behind_place at bytes g.0 g.1 in
    (there.0, there.1, (g.2.0, ap read there.2 ∙ g.2.1))

-- a place where bytes stand is refused where the bytes there are
pub refused_at : {Y : Type 0} (read : List ℕ → Result (Y × List ℕ) Cut) (bytes : List ℕ) (at : ℕ) → at ≤ length bytes → ((more : List ℕ) → read (drop at bytes ++ more) ≡ Err Bad) → IsRefused read bytes at
refused_at read bytes at within h more = ap read (drop-append-le at bytes more within) ∙ h more

-- the place behind a field, by what is left
pub stands_from : (bytes field rest : List ℕ) (old new : ℕ) → old ≤ new → new ≤ length bytes → drop old bytes ≡ field ++ rest → rest ≡ drop new bytes → Stands field bytes old new
stands_from bytes field rest old new order within e r = (
  e ∙ ap (λ (x : List ℕ). field ++ x) r,
  omega (arith, ap length e, ap length r, length-append field rest, length-drop old bytes, length-drop new bytes),
)

-- what is left at the end stands at that place
pub place_of_rest : (bytes field rest : List ℕ) (at : ℕ) → drop at bytes ≡ field ++ rest → drop (length bytes - length rest) bytes ≡ rest
place_of_rest bytes field rest at e =
    let whole : bytes ≡ (take at bytes ++ field) ++ rest =
    sym (take-append-drop at bytes) ∙ ap (λ (x : List ℕ). take at bytes ++ x) e ∙ sym (append_assoc (take at bytes) field rest) in
    let size : length (take at bytes ++ field) ≡ length bytes - length rest =
    omega (arith, ap length whole, length-append (take at bytes ++ field) rest) in
    ap (drop (length bytes - length rest)) whole ∙ drop_at (take at bytes ++ field) rest (length bytes - length rest) size
