-- Laws of texts and binary data: what is read was spelled so, what is spelled is read again, and what more bytes change.
use Rattle.std.proofs.Common.{◌≡◌, ◌⊎◌, ℕ, zero, suc, ◌+◌, ◌-◌, ◌<◌, ◌≤◌, Bool, true, false, cond, ◌&&◌, ◌||◌, ltb, leb, eqb, List, [], ◌∷◌, ◌++◌, length, get_or, take, drop, replicate, is_none, Option, Some, None, IsUtf8, Contains, refl, sym, ap, subst, ◌∙◌, append_assoc, arith, inl, inr}
use Rattle.std.specs.Str.{is_utf8, IsValidUpTo}
use Rattle.std.specs.Int.{is_in_range}
use Rattle.std.specs.Str.Lossy.{valid_len_up_to, utf8_valid_len, utf8_error_len, error_len_after_one, error_len_after_two, error_len_of_some}
use Rattle.std.proofs.lemmas.Bool.{cases_lt, cases_Bool, true≢false, cond-true, cond-false, and_parts, and_from, leb-true, le-leb, le-ltb, lt-ltb, ltb-true, ne_eqb}
use Rattle.std.proofs.lemmas.List.{take_all, take-take, take-append-drop, length-drop, length-append, length-replicate, get_or-replicate, get_or_past, drop-take, drop-append-le, take-append-le}
use Rattle.std.proofs.lemmas.Str.{IsUtf8-from_is_utf8, is_utf8-from_IsUtf8, IsUtf8-append, IsUtf8-drop, IsUtf8-nil, IsUtf8-from_ascii, IsCharBoundary-from_take}
use Rattle.std.proofs.lemmas.List.Folds.{list_all-append}
use Rattle.simdutf8.specs.Steps.{IsContinuation, least_after, most_after, IsClosed, first, second, later, StepsThen}
use Rattle.simdutf8.proofs.Chars.{StepsThen-IsUtf8, least_is, most_is}
use Rattle.wire_fields.specs.Reading.{AreBytes}
use Rattle.wire_fields.specs.Places.{are_bytes_append, are_bytes_replicate}
use Rattle.wire_fields.specs.Text.{IsText, is_text, has_no_zero, char_width, ends_within, begins_utf8, begins_text}

-- ---- the test of a text

pub utf8_by_test : (bytes : List ℕ) (b : Bool) → is_utf8 bytes ≡ b → (IsUtf8 bytes × (b ≡ true)) ⊎ ((IsUtf8 bytes → ⊥) × (b ≡ false))
utf8_by_test bytes true e = inl (IsUtf8-from_is_utf8 bytes e, refl)
utf8_by_test bytes false e = inr (λ u. true≢false (sym (is_utf8-from_IsUtf8 bytes u) ∙ e), refl)

-- ---- how far bytes are UTF-8

longest : (bytes : List ℕ) (n : ℕ)
    → IsUtf8 (take (valid_len_up_to bytes n) bytes) × ((valid_len_up_to bytes n ≤ n) × ((m : ℕ) → valid_len_up_to bytes n < m → m ≤ n → IsUtf8 (take m bytes) → ⊥))
longest bytes zero = (IsUtf8-nil, (omega arith, λ m above within u. absurd (omega arith)))
longest bytes (suc n) =
    let below = longest bytes n in
    elim (cases_Bool (is_utf8 (take (suc n) bytes))) [
      | inl found ↦
          let is : valid_len_up_to bytes (suc n) ≡ suc n = cond-true _ _ _ found in
          (subst (λ (k : ℕ). IsUtf8 (take k bytes)) (sym is) (IsUtf8-from_is_utf8 _ found), (omega arith, λ m above within u. absurd (omega arith)))
      | inr missed ↦
          let is : valid_len_up_to bytes (suc n) ≡ valid_len_up_to bytes n = cond-false _ _ _ missed in (
            subst (λ (k : ℕ). IsUtf8 (take k bytes)) (sym is) below.0,
            (
              omega (arith, below.1.0),
              λ m above within u.
                  elim (cases_lt m (suc n)) [
                    | inl less ↦ below.1.1 m (omega arith) (omega arith) u
                    | inr most ↦ let same : m ≡ suc n = omega arith in true≢false (sym (is_utf8-from_IsUtf8 _ (subst (λ (k : ℕ). IsUtf8 (take k bytes)) same u)) ∙ missed)
                  ],
            ),
          )
    ]

pub valid_up_to : (bytes : List ℕ) → (IsUtf8 bytes → ⊥) → IsValidUpTo bytes (utf8_valid_len bytes)
unfolding utf8_valid_len
valid_up_to bytes faulty =
    let found = longest bytes (length bytes) in
    let n : ℕ = valid_len_up_to bytes (length bytes) in
    let whole : (k : ℕ) → length bytes ≤ k → IsUtf8 (take k bytes) → ⊥ = λ k past u. faulty (subst IsUtf8 (take_all k bytes past) u) in
    record {
      short = elim (cases_lt n (length bytes)) [ inl lt ↦ lt | inr le ↦ absurd (whole n le found.0) ];
      front = found.0;
      longest = λ m above u. elim (cases_lt (length bytes) m) [ inl past ↦ whole m (omega arith) u | inr within ↦ found.1.1 m above within u ];
    }

-- bytes with which no whole character begins
abbrev pub IsOpen : List ℕ → Type 0
IsOpen bytes = (m : ℕ) → 0 < m → IsUtf8 (take m bytes) → ⊥

pub open_behind : (bytes : List ℕ) (n : ℕ) → IsValidUpTo bytes n → IsOpen (drop n bytes)
open_behind bytes n v m some u =
    let both : IsUtf8 (take n bytes ++ take m (drop n bytes)) = IsUtf8-append _ _ v.front u in
    let split : take (n + m) bytes ≡ take n bytes ++ take m (drop n bytes) =
    sym (take-append-drop n (take (n + m) bytes)) ∙ (λ i. take-take n (n + m) bytes (omega arith) i ++ drop-take n m bytes i) in
    v.longest (n + m) (omega arith) (subst IsUtf8 (sym split) both)

-- ---- the first bytes of a character

abbrev Follows : List ℕ → Type 0
Follows = StepsThen IsClosed 0 0 0

to_utf8 : (bytes : List ℕ) → Follows bytes → IsUtf8 bytes
to_utf8 bytes = (StepsThen-IsUtf8 bytes).0

to_steps : (bytes : List ℕ) → IsUtf8 bytes → Follows bytes
to_steps bytes = (StepsThen-IsUtf8 bytes).1

-- a first byte that bytes follow: the character that it begins ends among them
lead : (a : ℕ) (rest : List ℕ) → 192 ≤ a → StepsThen IsClosed 0 0 a rest → (194 ≤ a) × ((a ≤ 244) × (char_width a ≤ suc (length rest)))
lead a [] high s = absurd (omega arith)
lead a (b ∷ []) high s = elim s.0 [
  | first p q ↦ absurd (omega arith)
  | second p q r ↦ let narrow : a < 224 = omega arith in (q.0, (q.1, rw (lt-ltb a 224 narrow) (omega arith)))
  | later p q r ↦ absurd (omega arith)
]
lead a (b ∷ c ∷ []) high s = elim s.0 [
  | first p q ↦ absurd (omega arith)
  | second p q r ↦ let narrow : a < 240 = omega arith in (q.0, (q.1, width_below a 240 3 narrow (λ h. rw (lt-ltb a 240 h) (omega arith)) (omega arith)))
  | later p q r ↦ absurd (omega arith)
]
  where
    width_below : (x bound n : ℕ) → x < bound → (x < bound → cond (ltb x 240) 3 4 ≤ n) → 2 ≤ n → char_width x ≤ n
    width_below x bound n lt wide two = elim (cases_lt x 224) [ inl h ↦ rw (lt-ltb x 224 h) two | inr h ↦ rw (le-ltb x 224 h) (wide lt) ]
lead a (b ∷ c ∷ d ∷ rest) high s = elim s.0 [
  | first p q ↦ absurd (omega arith)
  | second p q r ↦ (q.0, (q.1, most_four a (suc (length (b ∷ c ∷ d ∷ rest))) (omega arith)))
  | later p q r ↦ absurd (omega arith)
]
  where
    most_four : (x n : ℕ) → 4 ≤ n → char_width x ≤ n
    most_four x n four = elim (cases_lt x 224) [
      | inl h ↦ rw (lt-ltb x 224 h) (omega arith)
      | inr h ↦ elim (cases_lt x 240) [ inl k ↦ rw (le-ltb x 224 h, lt-ltb x 240 k) (omega arith) | inr k ↦ rw (le-ltb x 224 h, le-ltb x 240 k) four ]
    ]

in_range : (lo hi c : ℕ) → lo ≤ c → c ≤ hi → is_in_range lo hi c ≡ true
in_range lo hi c l h = rw (le-leb lo c l, le-leb c hi h)

of_range : (lo hi c : ℕ) → is_in_range lo hi c ≡ true → (lo ≤ c) × (c ≤ hi)
of_range lo hi c e = let p = and_parts (leb lo c) (leb c hi) e in (leb-true lo c p.0, leb-true c hi p.1)

-- bytes that end within a character have no fault
cut_after_one : (a : ℕ) → 194 ≤ a → a ≤ 244 → utf8_error_len (a ∷ []) ≡ None
unfolding utf8_error_len
cut_after_one a l h = rw (in_range 0xC2 0xF4 a l h) refl

cut_after_two : (a b : ℕ) → 194 ≤ a → a ≤ 244 → least_after a ≤ b → b ≤ most_after a → utf8_error_len (a ∷ b ∷ []) ≡ None
unfolding utf8_error_len
cut_after_two a b l h m n = rw (in_range 0xC2 0xF4 a l h, in_range (least_after a) (most_after a) b m n) refl

cut_after_three : (a b c : ℕ) → 194 ≤ a → a ≤ 244 → least_after a ≤ b → b ≤ most_after a → IsContinuation c → utf8_error_len (a ∷ b ∷ c ∷ []) ≡ None
unfolding utf8_error_len
cut_after_three a b c l h m n f = rw (in_range 0xC2 0xF4 a l h, in_range (least_after a) (most_after a) b m n, in_range 0x80 0xBF c f.0 (omega arith)) refl

-- and bytes that have none, end within one
none_then : (b : Bool) (x : Option ℕ) (k : ℕ) → cond b x (Some k) ≡ None → (b ≡ true) × (x ≡ None)
none_then true x k e = (refl, e)
none_then false x k e = absurd cc

one_cut : (a : ℕ) → utf8_error_len (a ∷ []) ≡ None → (194 ≤ a) × (a ≤ 244)
unfolding utf8_error_len
one_cut a e = of_range 0xC2 0xF4 a (none_then (is_in_range 0xC2 0xF4 a) None 1 e).0

two_cut : (a b : ℕ) → utf8_error_len (a ∷ b ∷ []) ≡ None → ((194 ≤ a) × (a ≤ 244)) × ((least_after a ≤ b) × (b ≤ most_after a))
unfolding utf8_error_len
two_cut a b e =
    let p = none_then (is_in_range 0xC2 0xF4 a) (error_len_after_one (a ∷ b ∷ [])) 1 e in
    let q = none_then (is_in_range (least_after a) (most_after a) b) None 1 p.1 in
    (of_range 0xC2 0xF4 a p.0, of_range (least_after a) (most_after a) b q.0)

three_cut : (a b c : ℕ) → utf8_error_len (a ∷ b ∷ c ∷ []) ≡ None → ((194 ≤ a) × (a ≤ 244)) × (((least_after a ≤ b) × (b ≤ most_after a)) × IsContinuation c)
unfolding utf8_error_len
three_cut a b c e =
    let p = none_then (is_in_range 0xC2 0xF4 a) (error_len_after_one (a ∷ b ∷ c ∷ [])) 1 e in
    let q = none_then (is_in_range (least_after a) (most_after a) b) (error_len_after_two (a ∷ b ∷ c ∷ [])) 1 p.1 in
    let r = none_then (is_in_range 0x80 0xBF c) None 2 q.1 in
    let range = of_range 0x80 0xBF c r.0 in
    (of_range 0xC2 0xF4 a p.0, (of_range (least_after a) (most_after a) b q.0, (range.0, omega (arith, range.1))))

four_cut : (a b c d : ℕ) (rest : List ℕ) → utf8_error_len (a ∷ b ∷ c ∷ d ∷ rest) ≡ None → ⊥
unfolding utf8_error_len
four_cut a b c d rest e =
    let bytes : List ℕ = a ∷ b ∷ c ∷ d ∷ rest in
    let short : (n : ℕ) (x y : Option ℕ) → n ≤ 4 → cond (ltb (length bytes) n) x y ≡ y = λ n x y le. rw (le-ltb (length bytes) n (omega arith)) refl in
    let some : cond (eqb (length bytes) 0) None (error_len_of_some bytes) ≡ error_len_of_some bytes = rw (ne_eqb (length bytes) 0 (λ h. omega arith)) refl in
    let p = none_then (is_in_range 0xC2 0xF4 a) (error_len_after_one bytes) 1 (sym some ∙ e) in
    let one = sym (short 2 None (cond (is_in_range (least_after a) (most_after a) b) (error_len_after_two bytes) (Some 1)) (omega arith)) ∙ p.1 in
    let q = none_then (is_in_range (least_after a) (most_after a) b) (error_len_after_two bytes) 1 one in
    let two = sym (short 3 None (cond (is_in_range 0x80 0xBF c) (cond (ltb (length bytes) 4) None (Some 3)) (Some 2)) (omega arith)) ∙ q.1 in
    let r = none_then (is_in_range 0x80 0xBF c) (cond (ltb (length bytes) 4) None (Some 3)) 2 two in
    let three = sym (short 4 None (Some 3) (omega arith)) ∙ r.1 in
    cc

-- ---- what must come behind an open front

begun : (a b : ℕ) (rest : List ℕ) → 192 ≤ a → Follows (a ∷ b ∷ rest) → (194 ≤ a) × ((a ≤ 244) × ((least_after a ≤ b) × (b ≤ most_after a)))
begun a b rest high s = elim s.1.0 [
  | first p q ↦ absurd (omega arith)
  | second p q r ↦ (q.0, (q.1, r))
  | later p q r ↦ absurd (omega arith)
]

continues : (a b : ℕ) → (least_after a ≤ b) × (b ≤ most_after a) → IsContinuation b
continues a b f = omega (arith, least_is a, most_is a)

third_is : (a b c : ℕ) (rest : List ℕ) → 224 ≤ a → Follows (a ∷ b ∷ c ∷ rest) → IsContinuation c
third_is a b c rest high s = elim s.1.1.0 [
  | first p q ↦ absurd (omega arith)
  | second p q r ↦ absurd (omega arith)
  | later p q r ↦ r
]

fourth_is : (a b c d : ℕ) (rest : List ℕ) → 240 ≤ a → Follows (a ∷ b ∷ c ∷ d ∷ rest) → IsContinuation d
fourth_is a b c d rest high s = elim s.1.1.1.0 [
  | first p q ↦ absurd (omega arith)
  | second p q r ↦ absurd (omega arith)
  | later p q r ↦ r
]

of_two : (a b : ℕ) → 194 ≤ a → a < 224 → IsContinuation b → (least_after a ≤ b) × (b ≤ most_after a) → IsUtf8 (a ∷ b ∷ [])
of_two a b l h f r = to_utf8 (a ∷ b ∷ []) (first (omega arith) (inr (omega arith)), (second (omega arith) (omega arith) r, omega arith))

of_three : (a b c : ℕ) → 224 ≤ a → a < 240 → IsContinuation b → (least_after a ≤ b) × (b ≤ most_after a) → IsContinuation c → IsUtf8 (a ∷ b ∷ c ∷ [])
of_three a b c l h f r g =
    to_utf8 (a ∷ b ∷ c ∷ []) (first (omega arith) (inr (omega arith)), (second (omega arith) (omega arith) r, (later (inr (omega arith)) f g, omega arith)))

of_four : (a b c d : ℕ) → 240 ≤ a → a ≤ 244 → IsContinuation b → (least_after a ≤ b) × (b ≤ most_after a) → IsContinuation c → IsContinuation d → IsUtf8 (a ∷ b ∷ c ∷ d ∷ [])
of_four a b c d l h f r g j =
    to_utf8 (a ∷ b ∷ c ∷ d ∷ []) (first (omega arith) (inr (omega arith)), (second (omega arith) (omega arith) r, (later (inr (omega arith)) f g, (later (inl (omega arith)) g j, omega arith))))

no_ascii : (a : ℕ) (bytes : List ℕ) → IsOpen (a ∷ bytes) → Follows (a ∷ bytes) ⊎ ((rest : List ℕ) × Follows (a ∷ rest)) → 192 ≤ a
no_ascii a bytes open_ s =
    let from : (rest : List ℕ) → Follows (a ∷ rest) → 192 ≤ a = λ rest f. elim f.0 [
      | first p q ↦ elim q [
        | inl low ↦ absurd (open_ 1 (omega arith) (to_utf8 (a ∷ []) (first (omega arith) (inl low), omega arith)))
        | inr high ↦ high
      ]
      | second p q r ↦ absurd (omega arith)
      | later p q r ↦ absurd (omega arith)
    ] in
    elim s [ inl f ↦ from bytes f | inr f ↦ from f.0 f.1 ]

-- whatever comes behind an open front so that the whole is UTF-8: the front has no fault, and its character ends in there
cut_by : (bytes more : List ℕ) → IsOpen bytes → 0 < length bytes → Follows (bytes ++ more) → utf8_error_len bytes ≡ None
cut_by [] more open_ some s = absurd (omega arith)
cut_by (a ∷ []) more open_ some s =
    let high = no_ascii a [] open_ (inr (more, s)) in
    let range = lead a more high s.1 in
    cut_after_one a range.0 range.1.0
cut_by (a ∷ b ∷ []) more open_ some s =
    let range = begun a b more (no_ascii a (b ∷ []) open_ (inr (b ∷ more, s))) s in
    cut_after_two a b range.0 range.1.0 range.1.1.0 range.1.1.1
cut_by (a ∷ b ∷ c ∷ []) more open_ some s =
    let range = begun a b (c ∷ more) (no_ascii a (b ∷ c ∷ []) open_ (inr (b ∷ c ∷ more, s))) s in
    elim (cases_lt a 224) [
      | inl two ↦ absurd (open_ 2 (omega arith) (of_two a b range.0 two (continues a b range.1.1) range.1.1))
      | inr high ↦ cut_after_three a b c range.0 range.1.0 range.1.1.0 range.1.1.1 (third_is a b c more high s)
    ]
cut_by (a ∷ b ∷ c ∷ d ∷ bytes) more open_ some s =
    let range = begun a b (c ∷ d ∷ (bytes ++ more)) (no_ascii a (b ∷ c ∷ d ∷ bytes) open_ (inr (b ∷ c ∷ d ∷ (bytes ++ more), s))) s in
    elim (cases_lt a 224) [
      | inl two ↦ absurd (open_ 2 (omega arith) (of_two a b range.0 two (continues a b range.1.1) range.1.1))
      | inr high ↦
          let g = third_is a b c (d ∷ (bytes ++ more)) high s in
          elim (cases_lt a 240) [
            | inl three ↦ absurd (open_ 3 (omega arith) (of_three a b c high three (continues a b range.1.1) range.1.1 g))
            | inr four ↦ absurd (open_ 4 (omega arith) (of_four a b c d four range.1.0 (continues a b range.1.1) range.1.1 g (fourth_is a b c d (bytes ++ more) four s)))
          ]
    ]

ends_by : (bytes more : List ℕ) → IsOpen bytes → 0 < length bytes → Follows (bytes ++ more) → ends_within bytes (length more) ≡ true
ends_by [] more open_ some s = absurd (omega arith)
ends_by (a ∷ bytes) more open_ some s =
    let range = lead a (bytes ++ more) (no_ascii a bytes open_ (inr (bytes ++ more, s))) s.1 in
    le-leb (char_width a) (suc (length bytes) + length more) (omega (arith, range.1.1, length-append bytes more))

-- ---- what may come behind one

-- a character that is cut ends with one byte and so many bytes 80 behind it
pub record Ending (bytes : List ℕ) : Type 0 where
  pub next : ℕ
  pub others : ℕ
  pub least : 128 ≤ next
  pub most : next < 192
  pub width : length bytes + (1 + others) ≡ char_width (get_or bytes 0 0)
  pub whole : IsUtf8 (bytes ++ (next ∷ replicate others 128))

least_fits : (a : ℕ) → 194 ≤ a → a ≤ 244 → (least_after a ≤ least_after a) × (least_after a ≤ most_after a)
least_fits a l h = omega (arith, least_is a, most_is a)

plain : IsContinuation 128
plain = omega arith

ending : (bytes : List ℕ) → IsOpen bytes → 0 < length bytes → utf8_error_len bytes ≡ None → Ending bytes
ending [] open_ some e = absurd (omega arith)
ending (a ∷ []) open_ some e =
    let range = one_cut a e in
    let k : ℕ = least_after a in
    let fits = least_fits a range.0 range.1 in
    let f = continues a k fits in
    elim (cases_lt a 224) [
      | inl two ↦ record { next = k; others = 0; least = f.0; most = omega (arith, f.1); width = rw (lt-ltb a 224 two) refl; whole = of_two a k range.0 two f fits }
      | inr high ↦ elim (cases_lt a 240) [
        | inl three ↦ record { next = k; others = 1; least = f.0; most = omega (arith, f.1); width = rw (le-ltb a 224 high, lt-ltb a 240 three) refl; whole = of_three a k 128 high three f fits plain }
        | inr four ↦ record { next = k; others = 2; least = f.0; most = omega (arith, f.1); width = rw (le-ltb a 224 high, le-ltb a 240 four) refl; whole = of_four a k 128 128 four range.1 f fits plain plain }
      ]
    ]
ending (a ∷ b ∷ []) open_ some e =
    let range = two_cut a b e in
    let f = continues a b range.1 in
    elim (cases_lt a 224) [
      | inl two ↦ absurd (open_ 2 (omega arith) (of_two a b range.0.0 two f range.1))
      | inr high ↦ elim (cases_lt a 240) [
        | inl three ↦ record { next = 128; others = 0; least = omega arith; most = omega arith; width = rw (le-ltb a 224 high, lt-ltb a 240 three) refl; whole = of_three a b 128 high three f range.1 plain }
        | inr four ↦ record { next = 128; others = 1; least = omega arith; most = omega arith; width = rw (le-ltb a 224 high, le-ltb a 240 four) refl; whole = of_four a b 128 128 four range.0.1 f range.1 plain plain }
      ]
    ]
ending (a ∷ b ∷ c ∷ []) open_ some e =
    let range = three_cut a b c e in
    let f = continues a b range.1.0 in
    elim (cases_lt a 224) [
      | inl two ↦ absurd (open_ 2 (omega arith) (of_two a b range.0.0 two f range.1.0))
      | inr high ↦ elim (cases_lt a 240) [
        | inl three ↦ absurd (open_ 3 (omega arith) (of_three a b c high three f range.1.0 range.1.1))
        | inr four ↦ record { next = 128; others = 0; least = omega arith; most = omega arith; width = rw (le-ltb a 224 high, le-ltb a 240 four) refl; whole = of_four a b c 128 four range.0.1 f range.1.0 range.1.1 plain }
      ]
    ]
ending (a ∷ b ∷ c ∷ d ∷ bytes) open_ some e = absurd (four_cut a b c d bytes e)

-- ---- which bytes begin a text

no_zero_replicate : (n b : ℕ) → 0 < b → has_no_zero (replicate n b) ≡ true
no_zero_replicate zero b lt = refl
no_zero_replicate (suc n) b lt = and_from (ltb 0 b) (has_no_zero (replicate n b)) (lt-ltb 0 b lt) (no_zero_replicate n b lt)

no_zero_append : (xs ys : List ℕ) → has_no_zero xs ≡ true → has_no_zero ys ≡ true → has_no_zero (xs ++ ys) ≡ true
no_zero_append xs ys h k = list_all-append (λ b. ltb 0 b) xs ys ∙ and_from _ _ h k

no_zero_front : (xs ys : List ℕ) → has_no_zero (xs ++ ys) ≡ true → has_no_zero xs ≡ true
no_zero_front xs ys e = (and_parts (has_no_zero xs) (has_no_zero ys) (sym (list_all-append (λ b. ltb 0 b) xs ys) ∙ e)).0

-- a text of any length: `a`, so often
pub letters_text : (n : ℕ) → is_text (replicate n 97) ≡ true
letters_text n =
    let ascii : (i : ℕ) → get_or (replicate n 97) i 0 < 128 = λ i. elim (cases_lt i n) [
      | inl below ↦ rw (get_or-replicate {A = ℕ} n i 97 0 below) (omega arith)
      | inr past ↦ rw (get_or_past {X = ℕ} (replicate n 97) i 0 (omega (arith, length-replicate {A = ℕ} n 97))) (omega arith)
    ] in
    and_from _ _ (is_utf8-from_IsUtf8 _ (IsUtf8-from_ascii (replicate n 97) ascii)) (no_zero_replicate n 97 (omega arith))

-- so many bytes with which these are a text
pub record Completion (bytes : List ℕ) (n : ℕ) : Type 0 where
  pub more : List ℕ
  pub size : length more ≡ n
  pub are_bytes : AreBytes more
  pub text : is_text (bytes ++ more) ≡ true

utf8_completed : (bytes : List ℕ) (n : ℕ) → has_no_zero bytes ≡ true → IsUtf8 bytes → Completion bytes n
utf8_completed bytes n clean u =
    let tail : is_text (replicate n 97) ≡ true = letters_text n in
    let parts = and_parts (is_utf8 (replicate n 97)) (has_no_zero (replicate n 97)) tail in
    record {
      more = replicate n 97;
      size = length-replicate {A = ℕ} n 97;
      are_bytes = are_bytes_replicate n 97 (omega arith);
      text = and_from _ _ (is_utf8-from_IsUtf8 _ (IsUtf8-append bytes (replicate n 97) u (IsUtf8-from_is_utf8 _ parts.0))) (no_zero_append bytes (replicate n 97) clean parts.1);
    }

open_completed : (bytes : List ℕ) (n : ℕ) → has_no_zero bytes ≡ true → IsValidUpTo bytes (utf8_valid_len bytes)
    → Ending (drop (utf8_valid_len bytes) bytes) → ends_within (drop (utf8_valid_len bytes) bytes) n ≡ true → Completion bytes n
open_completed bytes n clean v ending_ fits =
    let at : ℕ = utf8_valid_len bytes in
    let cut : List ℕ = drop at bytes in
    let last : List ℕ = ending_.next ∷ replicate ending_.others 128 in
    let room : char_width (get_or cut 0 0) ≤ length cut + n = leb-true _ _ fits in
    let left : ℕ = n - (1 + ending_.others) in
    let tail = and_parts (is_utf8 (replicate left 97)) (has_no_zero (replicate left 97)) (letters_text left) in
    let size : length last ≡ 1 + ending_.others = omega (arith, length-replicate {A = ℕ} ending_.others 128) in
    let last_bytes : AreBytes last = are_bytes_append (ending_.next ∷ []) (replicate ending_.others 128) (λ i. one_byte ending_.next (omega (arith, ending_.most)) i) (are_bytes_replicate ending_.others 128 (omega arith)) in
    let last_clean : has_no_zero last ≡ true = and_from _ _ (lt-ltb 0 ending_.next (omega (arith, ending_.least))) (no_zero_replicate ending_.others 128 (omega arith)) in
    let front : IsUtf8 (take at bytes ++ (cut ++ last)) = IsUtf8-append _ _ v.front ending_.whole in
    let joined : take at bytes ++ (cut ++ last) ≡ bytes ++ last = sym (append_assoc (take at bytes) cut last) ∙ ap (λ (x : List ℕ). x ++ last) (take-append-drop at bytes) in
    let whole : IsUtf8 ((bytes ++ last) ++ replicate left 97) = IsUtf8-append _ _ (subst IsUtf8 joined front) (IsUtf8-from_is_utf8 _ tail.0) in
    record {
      more = last ++ replicate left 97;
      size = omega (arith, length-append last (replicate left 97), length-replicate {A = ℕ} left 97, size, room, ending_.width);
      are_bytes = are_bytes_append last (replicate left 97) last_bytes (are_bytes_replicate left 97 (omega arith));
      text = and_from _ _
          (is_utf8-from_IsUtf8 _ (subst IsUtf8 (append_assoc bytes last (replicate left 97)) whole))
          (no_zero_append bytes (last ++ replicate left 97) clean (no_zero_append last (replicate left 97) last_clean tail.1));
    }
  where
    one_byte : (b : ℕ) → b < 256 → (i : ℕ) → get_or (b ∷ []) i 0 < 256
    one_byte b lt zero = lt
    one_byte b lt (suc i) = omega arith

pub or_two : (x y : Bool) → (x || y) ≡ true → (x ≡ true) ⊎ ((x ≡ false) × (y ≡ true))
or_two true y e = inl refl
or_two false y e = inr (refl, e)

no_fault : (o : Option ℕ) (b : Bool) → (is_none o && b) ≡ true → (o ≡ None) × (b ≡ true)
no_fault None b e = (refl, e)
no_fault (Some x) b e = absurd (true≢false (sym e))

-- bytes that begin a text with so many more are a text with some
pub begins_completed : (bytes : List ℕ) (n : ℕ) → begins_text bytes n ≡ true → Completion bytes n
begins_completed bytes n e =
    let p = and_parts (has_no_zero bytes) (begins_utf8 bytes n) e in
    let cut : List ℕ = drop (utf8_valid_len bytes) bytes in
    elim (or_two (is_utf8 bytes) (is_none (utf8_error_len cut) && ends_within cut n) p.1) [
      | inl whole ↦ utf8_completed bytes n p.0 (IsUtf8-from_is_utf8 bytes whole)
      | inr broken ↦
          let v = valid_up_to bytes (λ u. true≢false (sym (is_utf8-from_IsUtf8 bytes u) ∙ broken.0)) in
          let q = no_fault (utf8_error_len cut) (ends_within cut n) broken.1 in
          let some : 0 < length cut = omega (arith, v.short, length-drop (utf8_valid_len bytes) bytes) in
          open_completed bytes n p.0 v (ending cut (open_behind bytes (utf8_valid_len bytes) v) some q.0) q.1
    ]

-- and bytes that are a text with some do begin one
pub completed_begins : (bytes more : List ℕ) → is_text (bytes ++ more) ≡ true → begins_text bytes (length more) ≡ true
completed_begins bytes more e =
    let p = and_parts (is_utf8 (bytes ++ more)) (has_no_zero (bytes ++ more)) e in
    let whole : IsUtf8 (bytes ++ more) = IsUtf8-from_is_utf8 _ p.0 in
    let cut : List ℕ = drop (utf8_valid_len bytes) bytes in
    and_from (has_no_zero bytes) (begins_utf8 bytes (length more)) (no_zero_front bytes more p.1)
    (elim (cases_Bool (is_utf8 bytes)) [
      | inl found ↦ ap (λ (b : Bool). b || (is_none (utf8_error_len cut) && ends_within cut (length more))) found
      | inr missed ↦
          let at : ℕ = utf8_valid_len bytes in
          let v = valid_up_to bytes (λ u. true≢false (sym (is_utf8-from_IsUtf8 bytes u) ∙ missed)) in
          let some : 0 < length cut = omega (arith, v.short, length-drop at bytes) in
          let short : at ≤ length bytes = omega (arith, v.short) in
          let front : IsUtf8 (take at (bytes ++ more)) = subst IsUtf8 (sym (take-append-le at bytes more short)) v.front in
          let behind : IsUtf8 (cut ++ more) = subst IsUtf8 (drop-append-le at bytes more short) (IsUtf8-drop (bytes ++ more) at whole (IsCharBoundary-from_take (bytes ++ more) at whole (omega (arith, length-append bytes more)) front)) in
          let open_ = open_behind bytes at v in
          let steps = to_steps (cut ++ more) behind in
          let fault = cut_by cut more open_ some steps in
          let ends = ends_by cut more open_ some steps in
          (λ i. missed i || (is_none (fault i) && ends i))
    ])

-- ---- the test and what it means

zero_free : (bytes : List ℕ) → has_no_zero bytes ≡ true → Contains bytes 0 → ⊥
zero_free [] e (k, lt, is) = absurd (omega arith)
zero_free (b ∷ bytes) e (zero, lt, is) =
    let p = and_parts (ltb 0 b) (has_no_zero bytes) e in
    absurd (omega (arith, ltb-true 0 b p.0, is))
zero_free (b ∷ bytes) e (suc k, lt, is) =
    let p = and_parts (ltb 0 b) (has_no_zero bytes) e in
    zero_free bytes p.1 (k, omega arith, is)

zero_found : (bytes : List ℕ) → (Contains bytes 0 → ⊥) → has_no_zero bytes ≡ true
zero_found [] none = refl
zero_found (zero ∷ bytes) none = absurd (none (0, omega arith, refl))
zero_found (suc b ∷ bytes) none =
    and_from (ltb 0 (suc b)) (has_no_zero bytes) (lt-ltb 0 (suc b) (omega arith)) (zero_found bytes (λ c. none (suc c.0, omega (arith, c.1), c.2)))

-- the test passes exactly the texts
pub is_text_of : (bytes : List ℕ) → IsText bytes → is_text bytes ≡ true
is_text_of bytes t = and_from _ _ (is_utf8-from_IsUtf8 bytes t.0) (zero_found bytes t.1)

pub is_text_means : (bytes : List ℕ) → is_text bytes ≡ true → IsText bytes
is_text_means bytes e = let p = and_parts (is_utf8 bytes) (has_no_zero bytes) e in (IsUtf8-from_is_utf8 bytes p.0, zero_free bytes p.1)
