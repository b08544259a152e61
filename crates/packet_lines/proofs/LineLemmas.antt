-- How lines and words come from the first place of a line feed and of a blank.
use Rattle.std.proofs.Common.{◌≡◌, ◌≢◌, ℕ, zero, suc, ◌<◌, ◌≤◌, List, [], ◌∷◌, length, take, drop, get_or, refl, sym, ap, ◌∙◌, arith, eq-eqb}
use Rattle.std.proofs.lemmas.Bool.{ne_eqb}
use Rattle.std.proofs.lemmas.List.{drop_all}
use Rattle.packet_lines.specs.Lines.{lines, words}

-- the first line feed ends the first line
pub lines_at : (bytes : List ℕ) (i : ℕ) → i < length bytes → get_or bytes i 0 ≡ 10 → ((k : ℕ) → k < i → get_or bytes k 0 ≢ 10) → lines bytes ≡ take i bytes ∷ lines (drop (suc i) bytes)
lines_at [] i lt here before = absurd (omega arith)
lines_at (b ∷ bytes) zero lt here before = rw (eq-eqb b 10 here) refl
lines_at (b ∷ bytes) (suc i) lt here before =
    rw (ne_eqb b 10 (before 0 (omega arith)), lines_at bytes i (omega arith) here (λ k l. before (suc k) (omega arith))) refl

-- bytes with no line feed are a line
lines_whole : (b : ℕ) (bytes : List ℕ) → ((k : ℕ) → k < suc (length bytes) → get_or (b ∷ bytes) k 0 ≢ 10) → lines (b ∷ bytes) ≡ (b ∷ bytes) ∷ []
lines_whole b [] none = rw (ne_eqb b 10 (none 0 (omega arith))) refl
lines_whole b (c ∷ bytes) none =
    rw (ne_eqb b 10 (none 0 (omega arith)), lines_whole c bytes (λ k l. none (suc k) (omega arith))) refl

-- and nothing is left behind it
pub lines_last : (bytes : List ℕ) (i : ℕ) → 0 < length bytes → length bytes ≤ i → ((k : ℕ) → k < i → get_or bytes k 0 ≢ 10) → lines bytes ≡ bytes ∷ lines (drop i bytes)
lines_last [] i some end before = absurd (omega (arith, some))
lines_last (b ∷ bytes) i some end before =
    lines_whole b bytes (λ k l. before k (omega (arith, l, end))) ∙ ap (λ (l : List ℕ). (b ∷ bytes) ∷ lines l) (sym (drop_all i (b ∷ bytes) end))

-- the first blank ends the first word
pub words_at : (bytes : List ℕ) (i : ℕ) → i < length bytes → get_or bytes i 0 ≡ 32 → ((k : ℕ) → k < i → get_or bytes k 0 ≢ 32) → words bytes ≡ take i bytes ∷ words (drop (suc i) bytes)
words_at [] i lt here before = absurd (omega arith)
words_at (b ∷ bytes) zero lt here before = rw (eq-eqb b 32 here) refl
words_at (b ∷ bytes) (suc i) lt here before =
    rw (ne_eqb b 32 (before 0 (omega arith)), words_at bytes i (omega arith) here (λ k l. before (suc k) (omega arith))) refl

-- bytes with no blank are a word
pub words_whole : (bytes : List ℕ) → ((k : ℕ) → k < length bytes → get_or bytes k 0 ≢ 32) → words bytes ≡ bytes ∷ []
words_whole [] none = refl
words_whole (b ∷ bytes) none = rw (ne_eqb b 32 (none 0 (omega arith)), words_whole bytes (λ k l. none (suc k) (omega arith))) refl
