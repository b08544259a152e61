-- Laws of writes that were cut short: what was written whole is one, a wider range is one, and so are two in one range.
use Rattle.std.proofs.Common.{◌≡◌, ℕ, ◌+◌, ◌-◌, ◌≤◌, List, ◌++◌, length, take, drop, arith, refl, sym, ap, subst, ◌∙◌, length-append, length-drop}
use Rattle.std.proofs.lemmas.List.{take-take, drop-drop, length-take-le, take-append-le, take_at}
use Rattle.std.proofs.lemmas.Slice.{drop-append-drop}
use Rattle.outside.specs.DiskModel.{Holds, Torn, written_at}

-- nothing was written
pub torn_same : (at count : ℕ) (old : List ℕ) → Torn at count old old
torn_same at count old = record { before = refl; after = refl; no_shorter = omega arith; no_longer = omega arith }

pub torn_then : (at count : ℕ) (old mid new : List ℕ) → Torn at count old mid → Torn at count mid new → Torn at count old new
torn_then at count old mid new first second = record {
  before = second.before ∙ first.before;
  after = second.after ∙ first.after;
  no_shorter = omega (arith, first.no_shorter, second.no_shorter);
  no_longer = omega (arith, first.no_longer, second.no_longer);
}

pub torn_wider : (at count wide_at wide : ℕ) (old new : List ℕ) → wide_at ≤ at → at + count ≤ wide_at + wide → Torn at count old new → Torn wide_at wide old new
torn_wider at count wide_at wide old new front back torn = record {
  before = sym (take-take wide_at at new front) ∙ ap (take wide_at) torn.before ∙ take-take wide_at at old front;
  after = behind new ∙ ap (drop (wide_at + wide - (at + count))) torn.after ∙ sym (behind old);
  no_shorter = torn.no_shorter;
  no_longer = omega (arith, torn.no_longer, back);
}
  where
    behind : (bytes : List ℕ) → drop (wide_at + wide) bytes ≡ drop (wide_at + wide - (at + count)) (drop (at + count) bytes)
    behind bytes =
        let whole : wide_at + wide ≡ at + count + (wide_at + wide - (at + count)) = omega (arith, back) in
        ap (λ n. drop n bytes) whole ∙ sym (drop-drop (wide_at + wide - (at + count)) (at + count) bytes)

-- how long the bytes are then
pub length_written : (at : ℕ) (piece old : List ℕ) → at ≤ length old → length (written_at at piece old) ≡ at + length piece + (length old - (at + length piece))
length_written at piece old h =
    omega (
      arith,
      length-append (take at old ++ piece) (drop (at + length piece) old),
      length-append (take at old) piece,
      length-take-le at old h,
      length-drop (at + length piece) old,
    )

-- what was written whole, and part of it
pub torn_written : (at count : ℕ) (piece old : List ℕ) → length piece ≤ count → at ≤ length old → Torn at count old (written_at at piece old)
torn_written at count piece old short h =
    let front : length (take at old ++ piece) ≡ at + length piece = omega (arith, length-append (take at old) piece, length-take-le at old h) in
    record {
      before = take-append-le at (take at old ++ piece) (drop (at + length piece) old) (omega (arith, front)) ∙ take_at (take at old) piece at (length-take-le at old h);
      after = drop-append-drop (at + length piece) old (take at old ++ piece) (at + count) (omega (arith, short)) front;
      no_shorter = omega (arith, length_written at piece old h);
      no_longer = omega (arith, short, length_written at piece old h);
    }

pub torn_held : (at : ℕ) (piece old new : List ℕ) → at ≤ length old → Holds old at piece new → Torn at (length piece) old new
torn_held at piece old new h holds = subst (Torn at (length piece) old) (sym holds) (torn_written at (length piece) piece old (omega arith) h)
