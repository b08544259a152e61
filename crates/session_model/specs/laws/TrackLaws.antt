-- The numbers of a track go up, so each is of one entry.
use Rattle.std.proofs.Common.{◌≡◌, ℕ, zero, suc, ◌+◌, ◌≤◌, ◌<◌, Bool, true, false, if◌then◌else◌, List, [], ◌∷◌, ◌++◌}
use Rattle.std.proofs.Common.{filter, slice_get, Option, Some, None, refl, sym, ap, subst, ◌∙◌, arith}
use Rattle.std.proofs.lemmas.Option.{none-some, same_Some}
use Rattle.session_model.specs.declared.entry.Entry.{Entry}
use Rattle.session_model.specs.declared.entry.Kind.{Kind}
use Rattle.session_model.specs.Entry.{number1, number2, with_number, numbers1, numbers2}
use Rattle.session_model.specs.Acting.{numbers_from}

-- ---- both tracks as one

abbrev pub numbers_by : (Kind → Option ℕ) → List Entry → List ℕ
numbers_by number [] = []
numbers_by number (e ∷ es) = with_number (number e.kind) (numbers_by number es)

pub by_number1 : (es : List Entry) → numbers1 es ≡ numbers_by number1 es
by_number1 [] = refl
by_number1 (e ∷ es) = ap (with_number (number1 e.kind)) (by_number1 es)

pub by_number2 : (es : List Entry) → numbers2 es ≡ numbers_by number2 es
by_number2 [] = refl
by_number2 (e ∷ es) = ap (with_number (number2 e.kind)) (by_number2 es)

by-append : (number : Kind → Option ℕ) (es more : List Entry) → numbers_by number (es ++ more) ≡ numbers_by number es
    ++ numbers_by number more
by-append number [] more = refl
by-append number (e ∷ es) more = ap (with_number (number e.kind)) (by-append number es more) ∙ by (number e.kind)
  where
    by : (n : Option ℕ) → with_number n (numbers_by number es ++ numbers_by number more)
        ≡ with_number n (numbers_by number es) ++ numbers_by number more
    by None = refl
    by (Some n) = refl

pub numbers1-append : (es more : List Entry) → numbers1 (es ++ more) ≡ numbers1 es ++ numbers1 more
numbers1-append es more =
    by_number1 (es ++ more) ∙ by-append number1 es more
    ∙ ap (λ l. l ++ numbers_by number1 more) (sym (by_number1 es)) ∙ ap (λ l. numbers1 es ++ l) (sym (by_number1 more))

pub numbers2-append : (es more : List Entry) → numbers2 (es ++ more) ≡ numbers2 es ++ numbers2 more
numbers2-append es more =
    by_number2 (es ++ more) ∙ by-append number2 es more
    ∙ ap (λ l. l ++ numbers_by number2 more) (sym (by_number2 es)) ∙ ap (λ l. numbers2 es ++ l) (sym (by_number2 more))

-- ---- numbers that go up between two

abbrev pub GoUp : ℕ → ℕ → List ℕ → Type 0
GoUp low high [] = Unit {0}
GoUp low high (n ∷ ns) = (low ≤ n) × (n < high) × GoUp (n + 1) high ns

pub from_goes_up : (low high count : ℕ) → low + count ≤ high → GoUp low high (numbers_from low count)
from_goes_up low high zero h = tt
from_goes_up low high (suc count) h = (omega arith, omega arith, from_goes_up (low + 1) high count (omega arith))

pub goes_up_lower : (lower low high : ℕ) (ns : List ℕ) → lower ≤ low → GoUp low high ns → GoUp lower high ns
goes_up_lower lower low high [] h up = tt
goes_up_lower lower low high (n ∷ ns) h up = let first = up.0 in (omega arith, up.1, up.2)

-- some of the entries, by a test
pub some_go_up : (number : Kind → Option ℕ) (test : Entry → Bool) (low high : ℕ) (es : List Entry) →
    GoUp low high (numbers_by number es) → GoUp low high (numbers_by number (filter test es))
some_go_up number test low high [] up = tt
some_go_up number test low high (e ∷ es) up =
    by (test e) (number e.kind) refl up (λ from. some_go_up number test from high es)
  where
    none : (n : Option ℕ) → GoUp low high (with_number n (numbers_by number es)) →
        ((from : ℕ) → GoUp from high (numbers_by number es) → GoUp from high (numbers_by number (filter test es))) →
        GoUp low high (numbers_by number (filter test es))
    none None up rest = rest low up
    none (Some n) up rest = let first =
        up.0 in goes_up_lower low (n + 1) high (numbers_by number (filter test es)) (omega arith) (rest (n + 1) up.2)

    one : (n : Option ℕ) → GoUp low high (with_number n (numbers_by number es)) →
        ((from : ℕ) → GoUp from high (numbers_by number es) → GoUp from high (numbers_by number (filter test es))) →
        GoUp low high (with_number n (numbers_by number (filter test es)))
    one None up rest = rest low up
    one (Some n) up rest = (up.0, up.1, rest (n + 1) up.2)

    by : (b : Bool) (n : Option ℕ) → number e.kind ≡ n →
        GoUp low high (with_number (number e.kind) (numbers_by number es)) →
        ((from : ℕ) → GoUp from high (numbers_by number es) → GoUp from high (numbers_by number (filter test es))) →
        GoUp low high (numbers_by number (if b then e ∷ filter test es else filter test es))
    by true n is up rest = one (number e.kind) up rest
    by false n is up rest = none (number e.kind) up rest

-- ---- a number at a place

-- behind the first entry
step_up : (number : Option ℕ) (low high : ℕ) (ns : List ℕ) → GoUp low high (with_number number ns) → GoUp low high ns
step_up None low high ns up = up
step_up (Some n) low high ns up = let first = up.0 in goes_up_lower low (n + 1) high ns (omega arith) up.2

pub number_between : (number : Kind → Option ℕ) (low high : ℕ) (es : List Entry) →
    GoUp low high (numbers_by number es) →
    (i : ℕ) (e : Entry) (n : ℕ) → slice_get es i ≡ Some e → number e.kind ≡ Some n → (low ≤ n) × (n < high)
number_between number low high [] up i e n at is = absurd (none-some e at)
number_between number low high (x ∷ es) up zero e n at is =
    let same : number x.kind ≡ Some n = ap (λ (y : Entry). number y.kind) (same_Some x e at) ∙ is in
    let first = subst (λ k. GoUp low high (with_number k (numbers_by number es))) same up in
    (first.0, first.1)
number_between number low high (x ∷ es) up (suc i) e n at is =
    number_between number low high es (step_up (number x.kind) low high (numbers_by number es) up) i e n at is

-- the same number is at the same place
pub number_place : (number : Kind → Option ℕ) (low high : ℕ) (es : List Entry) → GoUp low high (numbers_by number es) →
    (i j : ℕ) (e f : Entry) (n : ℕ) → slice_get es i ≡ Some e → slice_get es j ≡ Some f → number e.kind ≡ Some n →
    number f.kind ≡ Some n → i ≡ j
number_place number low high [] up i j e f n at_i at_j is_e is_f = absurd (none-some e at_i)
number_place number low high (x ∷ es) up zero zero e f n at_i at_j is_e is_f = refl
number_place number low high (x ∷ es) up zero (suc j) e f n at_i at_j is_e is_f =
    let same : number x.kind ≡ Some n = ap (λ (y : Entry). number y.kind) (same_Some x e at_i) ∙ is_e in
    let first = subst (λ k. GoUp low high (with_number k (numbers_by number es))) same up in
    let later : n + 1 ≤ n = (number_between number (n + 1) high es first.2 j f n at_j is_f).0 in
    absurd (omega arith)
number_place number low high (x ∷ es) up (suc i) zero e f n at_i at_j is_e is_f =
    let same : number x.kind ≡ Some n = ap (λ (y : Entry). number y.kind) (same_Some x f at_j) ∙ is_f in
    let first = subst (λ k. GoUp low high (with_number k (numbers_by number es))) same up in
    let later : n + 1 ≤ n = (number_between number (n + 1) high es first.2 i e n at_i is_e).0 in
    absurd (omega arith)
number_place number low high (x ∷ es) up (suc i) (suc j) e f n at_i at_j is_e is_f =
    ap (λ (k : ℕ). suc k)
    (number_place number low high es
    (step_up (number x.kind) low high (numbers_by number es) up) i j e f n at_i at_j is_e is_f)

-- what a filter keeps passes its test
pub kept_passes : (test : Entry → Bool) (es : List Entry) (i : ℕ) (e : Entry) → slice_get (filter test es) i ≡ Some e →
    test e ≡ true
kept_passes test [] i e at = absurd (none-some e at)
kept_passes test (x ∷ es) i e at = by (test x) refl i at (λ k. kept_passes test es k e)
  where
    by : (b : Bool) → test x ≡ b → (i : ℕ) → slice_get (if b then x ∷ filter test es else filter test es) i ≡ Some e →
        ((k : ℕ) → slice_get (filter test es) k ≡ Some e → test e ≡ true) → test e ≡ true
    by false is i at rest = rest i at
    by true is zero at rest = ap test (sym (same_Some x e at)) ∙ is
    by true is (suc i) at rest = rest i at
