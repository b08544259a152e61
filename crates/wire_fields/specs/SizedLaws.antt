-- Laws of binary data and texts, whose length stands before them: one proof for both.
use Rattle.std.proofs.Common.{◌≡◌, ℕ, ◌+◌, ◌-◌, ◌^◌, ◌<◌, ◌≤◌, Bool, true, false, cond, leb, List, [], ◌++◌, length, take, drop, replicate, Result, Ok, Err, refl, sym, ap, subst, ◌∙◌, append_assoc, arith, inl, inr}
use Rattle.std.specs.Int.{w16}
use Rattle.std.proofs.lemmas.Bool.{cases_lt, cases_Bool, true≢false, le-leb, lt-leb, leb-true, leb-false, cond-true, cond-false, false_from_ne_true}
use Rattle.std.proofs.lemmas.List.{take_at, drop_at, drop_all, take_all, take-append-drop, take-append-le, length-append, length-take, length-replicate, append-nil}
use Rattle.wire_fields.specs.declared.cut.Cut.{Cut}
use Rattle.wire_fields.specs.declared.cut.Cut.TheVariants.{Short, Bad}
use Rattle.wire_fields.specs.Spelled.{spelled_u16, spelled_bin, spelled_text}
use Rattle.wire_fields.specs.Text.{is_text, begins_text}
use Rattle.wire_fields.specs.Reading.{◌>>=◌, u16_at, bytes_of, bin_at, text_of, text_at, sized_at, AreBytes, GoesOn}
use Rattle.wire_fields.specs.Places.{are_bytes_append, are_bytes_replicate, are_bytes_drop, bind_ok, Took}
use Rattle.wire_fields.specs.NumberLaws.{u16_again, u16_takes, number_goes_on, number_never_bad, number_stays}
use Rattle.wire_fields.specs.TextLaws.{begins_completed, completed_begins, letters_text}

-- what the laws need of what reads so many bytes
pub record IsBody (Holds : List ℕ → Type 0) (read : ℕ → List ℕ → Result (List ℕ × List ℕ) Cut) : Type 0 where
  pub takes : (n : ℕ) (bytes : List ℕ) (x : List ℕ × List ℕ) → read n bytes ≡ Ok x → (bytes ≡ x.0 ++ x.1) × ((length x.0 ≡ n) × Holds x.0)
  pub again : (field rest : List ℕ) → Holds field → read (length field) (field ++ rest) ≡ Ok (field, rest)
  pub goes_on : (n : ℕ) (bytes : List ℕ) → read n bytes ≡ Err Short → GoesOn (read n) bytes 0
  pub refused : (n : ℕ) (bytes more : List ℕ) → read n bytes ≡ Err Bad → read n (bytes ++ more) ≡ Err Bad
  pub letters : (n : ℕ) → Holds (replicate n 97)

-- ---- so many bytes

abbrev AnyBytes : List ℕ → Type 0
AnyBytes bytes = Unit {0}

bytes_by : (b : Bool) (n : ℕ) (bytes : List ℕ) (x : List ℕ × List ℕ) → cond b (Ok (take n bytes, drop n bytes)) (Err Short) ≡ Ok x → (b ≡ true) × ((take n bytes, drop n bytes) ≡ x)
bytes_by true n bytes x e = (refl, cc)
bytes_by false n bytes x e = absurd cc

pub bytes_body : IsBody AnyBytes bytes_of
bytes_body = record {
  takes = λ n bytes x e.
      let p = bytes_by (leb n (length bytes)) n bytes x e in
      subst (λ (y : List ℕ × List ℕ). (bytes ≡ y.0 ++ y.1) × ((length y.0 ≡ n) × AnyBytes y.0)) p.1
      (sym (take-append-drop n bytes), (omega (arith, length-take n bytes, leb-true n (length bytes) p.0), tt));
  again = λ field rest h.
      let fits : leb (length field) (length (field ++ rest)) ≡ true = le-leb _ _ (omega (arith, length-append field rest)) in
      rw (fits, take_at field rest (length field) refl, drop_at field rest (length field) refl) refl;
  goes_on = λ n bytes e.
      let fill : List ℕ = replicate (n - length bytes) 97 in
      elim (cases_Bool (leb n (length bytes))) [
        | inl fits ↦ absurd (let bad = sym (cond-true (leb n (length bytes)) (Ok (take n bytes, drop n bytes)) (Err Short) fits) ∙ e in cc)
        | inr short ↦
            let less : length bytes < n = leb-false n (length bytes) short in
            let size : length (bytes ++ fill) ≡ n = omega (arith, length-append bytes fill, length-replicate {A = ℕ} (n - length bytes) 97) in
            let fits : leb n (length (bytes ++ fill)) ≡ true = le-leb _ _ (omega arith) in
            (fill, are_bytes_replicate (n - length bytes) 97 (omega arith), (take n (bytes ++ fill), rw (fits, drop_all n (bytes ++ fill) (omega arith)) refl))
      ];
  refused = λ n bytes more e.
      elim (cases_Bool (leb n (length bytes))) [
        | inl fits ↦ absurd (let bad = sym (cond-true (leb n (length bytes)) (Ok (take n bytes, drop n bytes)) (Err Short) fits) ∙ e in cc)
        | inr short ↦ absurd (let bad = sym (cond-false (leb n (length bytes)) (Ok (take n bytes, drop n bytes)) (Err Short) short) ∙ e in cc)
      ];
  letters = λ n. tt;
}

-- ---- a text of so many bytes

abbrev PassesTest : List ℕ → Type 0
PassesTest bytes = is_text bytes ≡ true

-- the two tests of a text: whether the bytes are there, and whether they are one
text_whole : (n : ℕ) (bytes : List ℕ) → n ≤ length bytes → text_of n bytes ≡ cond (is_text (take n bytes)) (Ok (take n bytes, drop n bytes)) (Err Bad)
text_whole n bytes le = cond-true (leb n (length bytes)) _ _ (le-leb n (length bytes) le)

text_cut : (n : ℕ) (bytes : List ℕ) → length bytes < n → text_of n bytes ≡ cond (begins_text bytes (n - length bytes)) (Err Short) (Err Bad)
text_cut n bytes lt = cond-false (leb n (length bytes)) _ _ (lt-leb n (length bytes) lt)

never_ok : (b : Bool) (x : List ℕ × List ℕ) → cond {A = Result (List ℕ × List ℕ) Cut} b (Err Short) (Err Bad) ≡ Ok x → ⊥
never_ok true x e = cc
never_ok false x e = cc

cut_short : (b : Bool) → cond {A = Result (List ℕ × List ℕ) Cut} b (Err Short) (Err Bad) ≡ Err Short → b ≡ true
cut_short true e = refl
cut_short false e = absurd cc

cut_bad : (b : Bool) → cond {A = Result (List ℕ × List ℕ) Cut} b (Err Short) (Err Bad) ≡ Err Bad → b ≡ false
cut_bad true e = absurd cc
cut_bad false e = refl

whole_ok : (b : Bool) (y x : List ℕ × List ℕ) → cond b (Ok y) (Err Bad) ≡ Ok x → (b ≡ true) × (y ≡ x)
whole_ok true y x e = (refl, cc)
whole_ok false y x e = absurd cc

whole_never_short : (b : Bool) (y : List ℕ × List ℕ) → cond b (Ok y) (Err Bad) ≡ Err Short → ⊥
whole_never_short true y e = cc
whole_never_short false y e = cc

whole_bad : (b : Bool) (y : List ℕ × List ℕ) → cond b (Ok y) (Err Bad) ≡ Err Bad → b ≡ false
whole_bad true y e = absurd cc
whole_bad false y e = refl

text_takes_body : (n : ℕ) (bytes : List ℕ) (x : List ℕ × List ℕ) → text_of n bytes ≡ Ok x → (bytes ≡ x.0 ++ x.1) × ((length x.0 ≡ n) × PassesTest x.0)
text_takes_body n bytes x e =
    elim (cases_lt (length bytes) n) [
      | inl short ↦ absurd (never_ok (begins_text bytes (n - length bytes)) x (sym (text_cut n bytes short) ∙ e))
      | inr fits ↦
          let p = whole_ok (is_text (take n bytes)) (take n bytes, drop n bytes) x (sym (text_whole n bytes fits) ∙ e) in
          subst (λ (y : List ℕ × List ℕ). (bytes ≡ y.0 ++ y.1) × ((length y.0 ≡ n) × PassesTest y.0)) p.1
          (sym (take-append-drop n bytes), (omega (arith, length-take n bytes), p.0))
    ]

text_again_body : (field rest : List ℕ) → PassesTest field → text_of (length field) (field ++ rest) ≡ Ok (field, rest)
text_again_body field rest h =
    let front : take (length field) (field ++ rest) ≡ field = take_at field rest (length field) refl in
    text_whole (length field) (field ++ rest) (omega (arith, length-append field rest))
    ∙ cond-true _ _ _ (ap is_text front ∙ h)
    ∙ (λ i. Ok (front i, drop_at field rest (length field) refl i))

text_goes_on_body : (n : ℕ) (bytes : List ℕ) → text_of n bytes ≡ Err Short → GoesOn (text_of n) bytes 0
text_goes_on_body n bytes e =
    elim (cases_lt (length bytes) n) [
      | inl short ↦
          let begun = cut_short (begins_text bytes (n - length bytes)) (sym (text_cut n bytes short) ∙ e) in
          let done = begins_completed bytes (n - length bytes) begun in
          let size : length (bytes ++ done.more) ≡ n = omega (arith, length-append bytes done.more, done.size) in
          let same : take n (bytes ++ done.more) ≡ bytes ++ done.more = take_all n (bytes ++ done.more) (omega arith) in (
            done.more,
            done.are_bytes,
            (
              take n (bytes ++ done.more),
              text_whole n (bytes ++ done.more) (omega arith)
                  ∙ cond-true _ _ _ (ap is_text same ∙ done.text)
                  ∙ ap (λ (r : List ℕ). Ok (take n (bytes ++ done.more), r)) (drop_all n (bytes ++ done.more) (omega arith)),
            ),
          )
      | inr fits ↦ absurd (whole_never_short (is_text (take n bytes)) (take n bytes, drop n bytes) (sym (text_whole n bytes fits) ∙ e))
    ]

text_refused_body : (n : ℕ) (bytes more : List ℕ) → text_of n bytes ≡ Err Bad → text_of n (bytes ++ more) ≡ Err Bad
text_refused_body n bytes more e =
    elim (cases_lt (length bytes) n) [
      | inl short ↦
          let never = cut_bad (begins_text bytes (n - length bytes)) (sym (text_cut n bytes short) ∙ e) in
          elim (cases_lt (length (bytes ++ more)) n) [
            | inl still ↦
                let left : ℕ = n - length (bytes ++ more) in
                text_cut n (bytes ++ more) still
                ∙ cond-false _ _ _ (false_from_ne_true _ (λ b.
                let done = begins_completed (bytes ++ more) left b in
                let whole : is_text (bytes ++ (more ++ done.more)) ≡ true = ap is_text (sym (append_assoc bytes more done.more)) ∙ done.text in
                let size : length (more ++ done.more) ≡ n - length bytes = omega (arith, length-append more done.more, length-append bytes more, done.size) in
                let begun : begins_text bytes (n - length bytes) ≡ true = ap (begins_text bytes) (sym size) ∙ completed_begins bytes (more ++ done.more) whole in
                true≢false (sym begun ∙ never)))
            | inr fits ↦
                let part : List ℕ = take (n - length bytes) more in
                let size : length part ≡ n - length bytes = omega (arith, length-take (n - length bytes) more, length-append bytes more) in
                let front : take n (bytes ++ more) ≡ bytes ++ part = front_is n bytes more (omega arith) (omega (arith, length-append bytes more)) in
                text_whole n (bytes ++ more) fits
                ∙ cond-false _ _ _ (false_from_ne_true _ (λ b.
                let begun : begins_text bytes (n - length bytes) ≡ true = ap (begins_text bytes) (sym size) ∙ completed_begins bytes part (ap is_text (sym front) ∙ b) in
                true≢false (sym begun ∙ never)))
          ]
      | inr fits ↦
          let never = whole_bad (is_text (take n bytes)) (take n bytes, drop n bytes) (sym (text_whole n bytes fits) ∙ e) in
          text_whole n (bytes ++ more) (omega (arith, length-append bytes more))
          ∙ cond-false _ _ _ (ap is_text (take-append-le n bytes more fits) ∙ never)
    ]
  where
    front_is : (k : ℕ) (xs ys : List ℕ) → length xs ≤ k → k ≤ length xs + length ys → take k (xs ++ ys) ≡ xs ++ take (k - length xs) ys
    front_is k xs ys least most =
        let split : xs ++ ys ≡ (xs ++ take (k - length xs) ys) ++ drop (k - length xs) ys =
        ap (λ (t : List ℕ). xs ++ t) (sym (take-append-drop (k - length xs) ys)) ∙ sym (append_assoc xs (take (k - length xs) ys) (drop (k - length xs) ys)) in
        ap (take k) split ∙ take_at (xs ++ take (k - length xs) ys) (drop (k - length xs) ys) k (omega (arith, length-append xs (take (k - length xs) ys), length-take (k - length xs) ys))

pub text_body : IsBody PassesTest text_of
text_body = record {
  takes = text_takes_body;
  again = text_again_body;
  goes_on = text_goes_on_body;
  refused = text_refused_body;
  letters = letters_text;
}

-- ---- with the length before it

module _ (Holds : List ℕ → Type 0) (read : ℕ → List ℕ → Result (List ℕ × List ℕ) Cut) (body : IsBody Holds read) where
  sized_takes : (bytes : List ℕ) (x : List ℕ × List ℕ) → AreBytes bytes → sized_at read bytes ≡ Ok x → Took ((length x.0 < 2 ^ 16) × Holds x.0) bytes (spelled_bin x.0) x.1
  sized_takes bytes x fits e =
      let head = bind_ok (u16_at bytes) (λ n. read n.0 n.1) x e in
      let n : ℕ = head.0.0 in
      let took = u16_takes bytes head.0 fits head.1 in
      let inside = body.takes n head.0.1 x head.2 in
      let same : length x.0 ≡ n = inside.1.0 in
      let rest_bytes : AreBytes x.1 = subst AreBytes (ap (drop (length x.0)) inside.0 ∙ drop_at x.0 x.1 (length x.0) refl) (are_bytes_drop (length x.0) head.0.1 took.behind) in
      record {
        parts = took.parts ∙ (λ i. spelled_u16 (sym same i) ++ inside.0 i) ∙ sym (append_assoc (spelled_u16 (length x.0)) x.0 x.1);
        in_range = (omega (arith, took.in_range), inside.1.1);
        behind = rest_bytes;
      }

  sized_again : (field rest : List ℕ) → length field < 2 ^ 16 → Holds field → sized_at read (spelled_bin field ++ rest) ≡ Ok (field, rest)
  sized_again field rest lt h =
      ap (sized_at read) (append_assoc (spelled_u16 (length field)) field rest)
      ∙ ap (λ (r : Result (ℕ × List ℕ) Cut). r >>= λ n. read n.0 n.1) (u16_again (length field) (field ++ rest) lt)
      ∙ body.again field rest h

  sized_goes_on : (bytes : List ℕ) (r : Result (ℕ × List ℕ) Cut) → u16_at bytes ≡ r → (r >>= λ n. read n.0 n.1) ≡ Err Short → GoesOn (sized_at read) bytes 0
  sized_goes_on bytes (Ok n) is e =
      let inside = body.goes_on n.0 n.1 e in
      let head : u16_at (bytes ++ inside.0) ≡ Ok (n.0, n.1 ++ inside.0) = number_stays w16 bytes inside.0 n is in
      (inside.0, inside.1, (inside.2.0, ap (λ (q : Result (ℕ × List ℕ) Cut). q >>= λ m. read m.0 m.1) head ∙ inside.2.1))
  sized_goes_on bytes (Err cut) is e =
      let short : u16_at bytes ≡ Err Short = is ∙ let k : cut ≡ Short = cc in ap (λ (d : Cut). Err d) k in
      let head = number_goes_on w16 bytes short in
      let n : ℕ = head.2.0 in
      let field : List ℕ = replicate n 97 in
      let size : length field ≡ n = length-replicate {A = ℕ} n 97 in
      let longer : u16_at ((bytes ++ head.0) ++ field) ≡ Ok (n, field) = number_stays w16 (bytes ++ head.0) field (n, []) head.2.1 in
      let inside : read n field ≡ Ok (field, []) = (λ i. read (sym size i) (sym (append-nil field) i)) ∙ body.again field [] (body.letters n) in (
        head.0 ++ field,
        are_bytes_append head.0 field head.1 (are_bytes_replicate n 97 (omega arith)),
        (
          field,
          ap (sized_at read) (sym (append_assoc bytes head.0 field))
              ∙ ap (λ (q : Result (ℕ × List ℕ) Cut). q >>= λ m. read m.0 m.1) longer
              ∙ inside,
        ),
      )

  sized_refused : (bytes more : List ℕ) (r : Result (ℕ × List ℕ) Cut) → u16_at bytes ≡ r → (r >>= λ n. read n.0 n.1) ≡ Err Bad → sized_at read (bytes ++ more) ≡ Err Bad
  sized_refused bytes more (Ok n) is e =
      ap (λ (q : Result (ℕ × List ℕ) Cut). q >>= λ m. read m.0 m.1) (number_stays w16 bytes more n is) ∙ body.refused n.0 n.1 more e
  sized_refused bytes more (Err cut) is e =
      absurd (number_never_bad w16 bytes (is ∙ let k : cut ≡ Bad = cc in ap (λ (d : Cut). Err d) k))

  sized_stays : (bytes more : List ℕ) (x : List ℕ × List ℕ) → sized_at read bytes ≡ Ok x → sized_at read (bytes ++ more) ≡ Ok (x.0, x.1 ++ more)
  sized_stays bytes more x e =
      let head = bind_ok (u16_at bytes) (λ n. read n.0 n.1) x e in
      let inside = body.takes head.0.0 head.0.1 x head.2 in
      let longer : head.0.1 ++ more ≡ x.0 ++ (x.1 ++ more) = ap (λ (t : List ℕ). t ++ more) inside.0 ∙ append_assoc x.0 x.1 more in
      ap (λ (q : Result (ℕ × List ℕ) Cut). q >>= λ m. read m.0 m.1) (number_stays w16 bytes more head.0 head.1)
      ∙ (λ i. read (sym inside.1.0 i) (longer i))
      ∙ body.again x.0 (x.1 ++ more) inside.1.1

-- ---- by name

pub bin_again : (field rest : List ℕ) → length field < 2 ^ 16 → bin_at (spelled_bin field ++ rest) ≡ Ok (field, rest)
unfolding bin_at
bin_again field rest lt = sized_again AnyBytes bytes_of bytes_body field rest lt tt

pub bin_takes : (bytes : List ℕ) (x : List ℕ × List ℕ) → AreBytes bytes → bin_at bytes ≡ Ok x → Took (length x.0 < 2 ^ 16) bytes (spelled_bin x.0) x.1
unfolding bin_at
bin_takes bytes x fits e =
    let t = sized_takes AnyBytes bytes_of bytes_body bytes x fits e in
    record { parts = t.parts; in_range = t.in_range.0; behind = t.behind }

pub bin_goes_on : (bytes : List ℕ) → bin_at bytes ≡ Err Short → GoesOn bin_at bytes 0
unfolding bin_at
bin_goes_on bytes e = sized_goes_on AnyBytes bytes_of bytes_body bytes (u16_at bytes) refl e

pub bin_refused : (bytes more : List ℕ) → bin_at bytes ≡ Err Bad → bin_at (bytes ++ more) ≡ Err Bad
unfolding bin_at
bin_refused bytes more e = sized_refused AnyBytes bytes_of bytes_body bytes more (u16_at bytes) refl e

pub text_again : (field rest : List ℕ) → length field < 2 ^ 16 → is_text field ≡ true → text_at (spelled_text field ++ rest) ≡ Ok (field, rest)
unfolding text_at
text_again field rest lt t = sized_again PassesTest text_of text_body field rest lt t

pub text_takes : (bytes : List ℕ) (x : List ℕ × List ℕ) → AreBytes bytes → text_at bytes ≡ Ok x → Took ((length x.0 < 2 ^ 16) × (is_text x.0 ≡ true)) bytes (spelled_text x.0) x.1
unfolding text_at
text_takes bytes x fits e = sized_takes PassesTest text_of text_body bytes x fits e

pub text_goes_on : (bytes : List ℕ) → text_at bytes ≡ Err Short → GoesOn text_at bytes 0
unfolding text_at
text_goes_on bytes e = sized_goes_on PassesTest text_of text_body bytes (u16_at bytes) refl e

pub text_refused : (bytes more : List ℕ) → text_at bytes ≡ Err Bad → text_at (bytes ++ more) ≡ Err Bad
unfolding text_at
text_refused bytes more e = sized_refused PassesTest text_of text_body bytes more (u16_at bytes) refl e

pub bin_never_bad : (bytes : List ℕ) → bin_at bytes ≡ Err Bad → ⊥
unfolding bin_at
bin_never_bad bytes e = by_size (u16_at bytes) refl e
  where
    by_test : (b : Bool) (x : List ℕ × List ℕ) → cond b (Ok x) (Err Short) ≡ Err Bad → ⊥
    by_test true x h = cc
    by_test false x h = cc

    by_size : (r : Result (ℕ × List ℕ) Cut) → u16_at bytes ≡ r → (r >>= λ n. bytes_of n.0 n.1) ≡ Err Bad → ⊥
    by_size (Ok n) is h = by_test (leb n.0 (length n.1)) (take n.0 n.1, drop n.0 n.1) h
    by_size (Err cut) is h = number_never_bad w16 bytes (is ∙ let k : cut ≡ Bad = cc in ap (λ (d : Cut). Err d) k)

-- more bytes behind a field are left behind it
pub bin_stays : (bytes more : List ℕ) (x : List ℕ × List ℕ) → bin_at bytes ≡ Ok x → bin_at (bytes ++ more) ≡ Ok (x.0, x.1 ++ more)
unfolding bin_at
bin_stays = sized_stays AnyBytes bytes_of bytes_body

pub text_stays : (bytes more : List ℕ) (x : List ℕ × List ℕ) → text_at bytes ≡ Ok x → text_at (bytes ++ more) ≡ Ok (x.0, x.1 ++ more)
unfolding text_at
text_stays = sized_stays PassesTest text_of text_body
