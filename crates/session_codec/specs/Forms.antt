-- A form: which values have a spelling, how each is spelled, and a reader that reads exactly these. Each law of the codec is put together of
-- the laws here, one for each way to read.
use Rattle.std.proofs.Common.{◌≡◌, ℕ, zero, suc, Bool, true, false, cond, ◌&&◌, ◌==◌, List, [], ◌∷◌, ◌++◌, length, Option, Some, None, refl, sym, ap, subst, ◌∙◌, append_assoc, append-nil, arith}
use Rattle.std.specs.Prelude.{if◌then◌else◌}
use Rattle.std.specs.List.{flat_map, list_all}
use Rattle.std.proofs.lemmas.Bool.{and_parts, and_from, eqb-true, eq-eqb}
use Rattle.std.proofs.lemmas.List.{drop_at}
use Rattle.wire_fields.specs.Reading.{AreBytes}
use Rattle.wire_fields.specs.Places.{are_bytes_drop}
use Rattle.session_codec.specs.Reading.{◌>>=◌, then_by, both, passing, made, nothing_at, onto, so_many, counted, at_end, filling}

-- what a reader took from the front of bytes
pub record Took {A : Type 0} (fits : A → Bool) (spelled : A → List ℕ) (bytes : List ℕ) (x : A × List ℕ) : Type 0 where
  pub has : fits x.0 ≡ true
  pub parts : bytes ≡ spelled x.0 ++ x.1

pub record IsForm {A : Type 0} (fits : A → Bool) (spelled : A → List ℕ) (read : List ℕ → Option (A × List ℕ)) : Type 0 where
  pub again : (x : A) (rest : List ℕ) → fits x ≡ true → read (spelled x ++ rest) ≡ Some (x, rest)
  pub takes : (bytes : List ℕ) (x : A × List ℕ) → AreBytes bytes → read bytes ≡ Some x → Took fits spelled bytes x

-- ---- what a step gave

pub some_is : {A : Type 0} (x y : A) → Some x ≡ Some y → x ≡ y
some_is x y e = cc

pub bind_some : {A B : Type 0} (r : Option A) (f : A → Option B) (y : B) → (r >>= f) ≡ Some y → (x : A) × (r ≡ Some x) × (f x ≡ Some y)
bind_some (Some x) f y e = (x, refl, e)
bind_some None f y e = absurd cc

pub passed : {A : Type 0} (test : Bool) (r : Option A) (y : A) → cond test r None ≡ Some y → (test ≡ true) × (r ≡ Some y)
passed true r y e = (refl, e)
passed false r y e = absurd cc

pub behind_part : (bytes part rest : List ℕ) → bytes ≡ part ++ rest → AreBytes bytes → AreBytes rest
behind_part bytes part rest e h =
    subst AreBytes (drop_at part rest (length part) refl) (are_bytes_drop (length part) (part ++ rest) (subst AreBytes e h))

-- ---- the ways to read

pub then_form : {A B : Type 0} {f : A → Bool} {g : A → B → Bool} {s : A → List ℕ} {t : A → B → List ℕ}
    {one : List ℕ → Option (A × List ℕ)} {other : A → List ℕ → Option (B × List ℕ)} →
    IsForm f s one → ((x : A) → f x ≡ true → IsForm (g x) (t x) (other x)) →
    IsForm (λ (p : A × B). f p.0 && g p.0 p.1) (λ (p : A × B). s p.0 ++ t p.0 p.1) (then_by one other)
then_form {A} {B} {f} {g} {s} {t} {one} {other} first second =
    record {
      again = λ p rest h.
          let fits = and_parts (f p.0) (g p.0 p.1) h in
          ap (then_by one other) (append_assoc (s p.0) (t p.0 p.1) rest)
          ∙ ap (λ (r : Option (A × List ℕ)). r >>= λ x. other x.0 x.1 >>= λ y. Some ((x.0, y.0), y.1)) (first.again p.0 (t p.0 p.1 ++ rest) fits.0)
          ∙ ap (λ (r : Option (B × List ℕ)). r >>= λ y. Some ((p.0, y.0), y.1)) ((second p.0 fits.0).again p.1 rest fits.1);
      takes = λ bytes p are e.
          let x = bind_some (one bytes) (λ x. other x.0 x.1 >>= λ y. Some ((x.0, y.0), y.1)) p e in
          let a = first.takes bytes x.0 are x.1 in
          let y = bind_some (other x.0.0 x.0.1) (λ y. Some ((x.0.0, y.0), y.1)) p x.2 in
          let b = (second x.0.0 a.has).takes x.0.1 y.0 (behind_part bytes (s x.0.0) x.0.1 a.parts are) y.1 in
          subst (Took (λ (p : A × B). f p.0 && g p.0 p.1) (λ (p : A × B). s p.0 ++ t p.0 p.1) bytes) (some_is ((x.0.0, y.0.0), y.0.1) p y.2) (record {
            has = and_from (f x.0.0) (g x.0.0 y.0.0) a.has b.has;
            parts = a.parts ∙ ap (λ l. s x.0.0 ++ l) b.parts ∙ sym (append_assoc (s x.0.0) (t x.0.0 y.0.0) y.0.1);
          });
    }

pub both_form : {A B : Type 0} {f : A → Bool} {g : B → Bool} {s : A → List ℕ} {t : B → List ℕ}
    {one : List ℕ → Option (A × List ℕ)} {other : List ℕ → Option (B × List ℕ)} →
    IsForm f s one → IsForm g t other →
    IsForm (λ (p : A × B). f p.0 && g p.1) (λ (p : A × B). s p.0 ++ t p.1) (both one other)
both_form first second = then_form first (λ x h. second)

pub passing_form : {A : Type 0} {f : A → Bool} {s : A → List ℕ} {read : List ℕ → Option (A × List ℕ)} (test : A → Bool) →
    IsForm f s read → IsForm (λ x. f x && test x) s (passing test read)
passing_form {A} {f} {s} {read} test is =
    record {
      again = λ x rest h.
          let fits = and_parts (f x) (test x) h in
          ap (λ (r : Option (A × List ℕ)). r >>= λ x. if test x.0 then Some x else None) (is.again x rest fits.0)
          ∙ ap (λ b. cond b (Some (x, rest)) None) fits.1;
      takes = λ bytes p are e.
          let x = bind_some (read bytes) (λ x. if test x.0 then Some x else None) p e in
          let a = is.takes bytes x.0 are x.1 in
          let b = passed (test x.0.0) (Some x.0) p x.2 in
          subst (Took (λ x. f x && test x) s bytes) (some_is x.0 p b.1) (record { has = and_from (f x.0.0) (test x.0.0) a.has b.0; parts = a.parts });
    }

-- what is made of a part: each value that has a spelling is made of one that has
pub made_form : {A B : Type 0} {f : A → Bool} {s : A → List ℕ} {read : List ℕ → Option (A × List ℕ)} (g : B → Bool) (t : B → List ℕ) (make : A → B) →
    IsForm f s read →
    ((y : B) → g y ≡ true → (x : A) × (make x ≡ y) × (f x ≡ true)) →
    ((x : A) → f x ≡ true → (g (make x) ≡ true) × (t (make x) ≡ s x)) →
    IsForm g t (made make read)
made_form {A} {B} {f} {s} {read} g t make is from to =
    record {
      again = λ y rest h.
          let x = from y h in
          subst (λ (y : B). made make read (t y ++ rest) ≡ Some (y, rest)) x.1
          (ap (λ l. made make read (l ++ rest)) (to x.0 x.2).1 ∙ ap (λ (r : Option (A × List ℕ)). r >>= λ x. Some (make x.0, x.1)) (is.again x.0 rest x.2));
      takes = λ bytes p are e.
          let x = bind_some (read bytes) (λ x. Some (make x.0, x.1)) p e in
          let a = is.takes bytes x.0 are x.1 in
          let both = to x.0.0 a.has in
          subst (Took g t bytes) (some_is (make x.0.0, x.0.1) p x.2) (record { has = both.0; parts = a.parts ∙ ap (λ l. l ++ x.0.1) (sym both.1) });
    }

-- a record and its fields, one by one
pub record_form : {A B : Type 0} {f : A → Bool} {s : A → List ℕ} {read : List ℕ → Option (A × List ℕ)} (make : A → B) (parts : B → A) →
    ((y : B) → make (parts y) ≡ y) → ((x : A) → parts (make x) ≡ x) → IsForm f s read →
    IsForm (λ y. f (parts y)) (λ y. s (parts y)) (made make read)
record_form {A} {B} {f} {s} {read} make parts there back is =
    made_form (λ y. f (parts y)) (λ y. s (parts y)) make is
    (λ y h. (parts y, there y, h))
    (λ x h. (ap f (back x) ∙ h, ap s (back x)))

-- the same values under another test
pub refit : {A : Type 0} {f : A → Bool} {s : A → List ℕ} {read : List ℕ → Option (A × List ℕ)} (g : A → Bool) →
    IsForm f s read → ((x : A) → g x ≡ f x) → IsForm g s read
refit {A} {f} {s} {read} g is same =
    record {
      again = λ x rest h. is.again x rest (sym (same x) ∙ h);
      takes = λ bytes x are e. let a = is.takes bytes x are e in record { has = same x.0 ∙ a.has; parts = a.parts };
    }

pub if_form : {A : Type 0} {f : A → Bool} {s : A → List ℕ} {one other : List ℕ → Option (A × List ℕ)} (b : Bool) →
    (b ≡ true → IsForm f s one) → (b ≡ false → IsForm f s other) → IsForm f s (λ bytes. if b then one bytes else other bytes)
if_form true one other = one refl
if_form false one other = other refl

pub none_form : {A : Type 0} {f : A → Bool} {s : A → List ℕ} → ((x : A) → f x ≡ false) → IsForm {A = A} f s (λ bytes. None)
none_form none =
    record {
      again = λ x rest h. absurd (let e = sym (none x) ∙ h in cc);
      takes = λ bytes x are e. absurd cc;
    }

pub nothing_form : IsForm (λ (x : Unit {0}). true) (λ (x : Unit {0}). []) nothing_at
nothing_form =
    record {
      again = λ x rest h. refl;
      takes = λ bytes x are e. subst (Took (λ (x : Unit {0}). true) (λ (x : Unit {0}). []) bytes) (some_is (tt, bytes) x e) (record { has = refl; parts = refl });
    }

-- ---- many parts

-- so many, each of which has a spelling
abbrev pub are_so_many : {A : Type 0} → (A → Bool) → ℕ → List A → Bool
are_so_many f n xs = (length xs == n) && list_all f xs

no_part : {A : Type 0} (read : List ℕ → Option (A × List ℕ)) (bytes : List ℕ) → so_many read 0 bytes ≡ Some ([], bytes)
unfolding so_many
no_part read bytes = refl

one_part : {A : Type 0} (read : List ℕ → Option (A × List ℕ)) (n : ℕ) (bytes : List ℕ) →
    so_many read (suc n) bytes ≡ (read bytes >>= λ x. onto x (so_many read n x.1))
unfolding so_many
one_part read n bytes = refl

onto_some : {A : Type 0} (x : A × List ℕ) (r : Option (List A × List ℕ)) (y : List A × List ℕ) → onto x r ≡ Some y →
    (xs : List A × List ℕ) × (r ≡ Some xs) × ((x.0 ∷ xs.0, xs.1) ≡ y)
onto_some x None y e = absurd cc
onto_some x (Some xs) y e = (xs, refl, some_is (x.0 ∷ xs.0, xs.1) y e)

many_again : {A : Type 0} {f : A → Bool} {s : A → List ℕ} {read : List ℕ → Option (A × List ℕ)} → IsForm f s read →
    (n : ℕ) (xs : List A) (rest : List ℕ) → length xs ≡ n → list_all f xs ≡ true → so_many read n (flat_map s xs ++ rest) ≡ Some (xs, rest)
many_again {A} {f} {s} {read} is zero [] rest len h = no_part read rest
many_again {A} {f} {s} {read} is (suc n) [] rest len h = absurd (omega arith)
many_again {A} {f} {s} {read} is zero (x ∷ xs) rest len h = absurd (omega arith)
many_again {A} {f} {s} {read} is (suc n) (x ∷ xs) rest len h =
    let fits = and_parts (f x) (list_all f xs) h in
    let others : so_many read n (flat_map s xs ++ rest) ≡ Some (xs, rest) = many_again is n xs rest (omega arith) fits.1 in
    ap (so_many read (suc n)) (append_assoc (s x) (flat_map s xs) rest)
    ∙ one_part read n (s x ++ (flat_map s xs ++ rest))
    ∙ ap (λ (r : Option (A × List ℕ)). r >>= λ x. onto x (so_many read n x.1)) (is.again x (flat_map s xs ++ rest) fits.0)
    ∙ ap (onto (x, flat_map s xs ++ rest)) others

-- what was taken of so many
record TookMany {A : Type 0} (f : A → Bool) (s : A → List ℕ) (n : ℕ) (bytes : List ℕ) (x : List A × List ℕ) : Type 0 where
  len : length x.0 ≡ n
  all : list_all f x.0 ≡ true
  parts : bytes ≡ flat_map s x.0 ++ x.1

many_takes : {A : Type 0} {f : A → Bool} {s : A → List ℕ} {read : List ℕ → Option (A × List ℕ)} → IsForm f s read →
    (n : ℕ) (bytes : List ℕ) (y : List A × List ℕ) → AreBytes bytes → so_many read n bytes ≡ Some y → TookMany f s n bytes y
many_takes {A} {f} {s} {read} is zero bytes y are e =
    subst (TookMany f s 0 bytes) (some_is ([], bytes) y (sym (no_part read bytes) ∙ e)) (record { len = refl; all = refl; parts = refl })
many_takes {A} {f} {s} {read} is (suc n) bytes y are e =
    let x = bind_some (read bytes) (λ x. onto x (so_many read n x.1)) y (sym (one_part read n bytes) ∙ e) in
    let a = is.takes bytes x.0 are x.1 in
    let xs = onto_some x.0 (so_many read n x.0.1) y x.2 in
    let others : TookMany f s n x.0.1 xs.0 = many_takes is n x.0.1 xs.0 (behind_part bytes (s x.0.0) x.0.1 a.parts are) xs.1 in
    subst (TookMany f s (suc n) bytes) xs.2 (record {
      len = ap suc others.len;
      all = and_from (f x.0.0) (list_all f xs.0.0) a.has others.all;
      parts = a.parts ∙ ap (λ l. s x.0.0 ++ l) others.parts ∙ sym (append_assoc (s x.0.0) (flat_map s xs.0.0) xs.0.1);
    })

pub many_form : {A : Type 0} {f : A → Bool} {s : A → List ℕ} {read : List ℕ → Option (A × List ℕ)} → IsForm f s read → (n : ℕ) →
    IsForm (are_so_many f n) (flat_map s) (so_many read n)
many_form {A} {f} {s} {read} is n =
    record {
      again = λ xs rest h.
          let fits = and_parts (length xs == n) (list_all f xs) h in
          many_again is n xs rest (eqb-true (length xs) n fits.0) fits.1;
      takes = λ bytes x are e.
          let took = many_takes is n bytes x are e in
          record { has = and_from (length x.0 == n) (list_all f x.0) (eq-eqb (length x.0) n took.len) took.all; parts = took.parts };
    }

-- a count in front
pub counted_form : {A : Type 0} {f : A → Bool} {s : A → List ℕ} {read : List ℕ → Option (A × List ℕ)}
    {is_count : ℕ → Bool} {spelled_count : ℕ → List ℕ} {count : List ℕ → Option (ℕ × List ℕ)} →
    IsForm is_count spelled_count count → IsForm f s read →
    IsForm (λ xs. is_count (length xs) && list_all f xs) (λ xs. spelled_count (length xs) ++ flat_map s xs) (counted count read)
counted_form {A} {f} {s} {read} {is_count} {spelled_count} {count} counts is =
    record {
      again = λ xs rest h.
          let fits = and_parts (is_count (length xs)) (list_all f xs) h in
          ap (counted count read) (append_assoc (spelled_count (length xs)) (flat_map s xs) rest)
          ∙ ap (λ (r : Option (ℕ × List ℕ)). r >>= λ n. so_many read n.0 n.1) (counts.again (length xs) (flat_map s xs ++ rest) fits.0)
          ∙ many_again is (length xs) xs rest refl fits.1;
      takes = λ bytes x are e.
          let n = bind_some (count bytes) (λ n. so_many read n.0 n.1) x e in
          let a = counts.takes bytes n.0 are n.1 in
          let took = many_takes is n.0.0 n.0.1 x (behind_part bytes (spelled_count n.0.0) n.0.1 a.parts are) n.2 in
          record {
            has = and_from (is_count (length x.0)) (list_all f x.0) (ap is_count took.len ∙ a.has) took.all;
            parts = a.parts ∙ ap (λ l. spelled_count l ++ n.0.1) (sym took.len) ∙ ap (λ l. spelled_count (length x.0) ++ l) took.parts
                ∙ sym (append_assoc (spelled_count (length x.0)) (flat_map s x.0) x.1);
          };
    }

-- ---- a part that fills the bytes

pub record IsWhole {A : Type 0} (fits : A → Bool) (spelled : A → List ℕ) (read : List ℕ → Option A) : Type 0 where
  pub again : (x : A) → fits x ≡ true → read (spelled x) ≡ Some x
  pub takes : (bytes : List ℕ) (x : A) → AreBytes bytes → read bytes ≡ Some x → (fits x ≡ true) × (bytes ≡ spelled x)

ended : {A : Type 0} (x : A) (bytes : List ℕ) (y : A) → at_end x bytes ≡ Some y → (bytes ≡ []) × (x ≡ y)
ended x [] y e = (refl, some_is x y e)
ended x (b ∷ bytes) y e = absurd cc

pub filling_whole : {A : Type 0} {f : A → Bool} {s : A → List ℕ} {read : List ℕ → Option (A × List ℕ)} → IsForm f s read → IsWhole f s (filling read)
filling_whole {A} {f} {s} {read} is =
    record {
      again = λ x h.
          ap (filling read) (sym (append-nil (s x))) ∙ ap (λ (r : Option (A × List ℕ)). r >>= λ x. at_end x.0 x.1) (is.again x [] h);
      takes = λ bytes y are e.
          let x = bind_some (read bytes) (λ x. at_end x.0 x.1) y e in
          let a = is.takes bytes x.0 are x.1 in
          let end = ended x.0.0 x.0.1 y x.2 in
          subst (λ (y : A). (f y ≡ true) × (bytes ≡ s y)) end.1 (a.has, a.parts ∙ ap (λ l. s x.0.0 ++ l) end.0 ∙ append-nil (s x.0.0));
    }
