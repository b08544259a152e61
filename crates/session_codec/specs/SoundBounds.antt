-- What is bounded of sessions that may be held.
use Rattle.std.proofs.Common.{◌≡◌, ℕ, zero, suc, ◌+◌, ◌-◌, ◌≤◌, ◌<◌, Bool, true, false, ◌&&◌, ◌||◌, not, List, [], ◌∷◌, length, refl, arith}
use Rattle.std.specs.Prelude.{nat_lt, nat_le}
use Rattle.std.specs.List.{list_all, list_any}
use Rattle.std.proofs.lemmas.Bool.{and_parts, ltb-true, leb-true, leb-false}
use Rattle.session_model.specs.Acting.{numbers_from}
use Rattle.session_model.specs.PlainSession.{has}
use Rattle.seq_tracks.specs.PlainTracks.{PlainTracks, is_unfinished1, is_unfinished2}
use Rattle.seq_tracks.specs.InOrder.{ascend}
use Rattle.session_state.specs.declared.batch.Batch.{Batch}
use Rattle.session_state.specs.KeptActing.{has_unfinished}
use Rattle.session_state.specs.SoundTest.{are_issued}

-- ---- numbers

-- the numbers that are done are no more than lie between
pub done_few : (above last : ℕ) (ns : List ℕ) → ascend above last ns ≡ true → length ns ≤ last - above
done_few above last [] h = omega arith
done_few above last (n ∷ ns) h =
    let a = and_parts (nat_lt above n) (nat_le n last && ascend n last ns) h in
    let b = and_parts (nat_le n last) (ascend n last ns) a.1 in
    let rest : length ns ≤ last - n = done_few n last ns b.1 in
    let one : above < n = ltb-true above n a.0 in
    let two : n ≤ last = leb-true n last b.0 in
    omega arith

-- one of so many numbers passes a test
record Passing (test : ℕ → Bool) (first count : ℕ) : Type 0 where
  number : ℕ
  from : first ≤ number
  to : number < first + count
  passes : test number ≡ true

some_passes : (test : ℕ → Bool) (first count : ℕ) → list_any test (numbers_from first count) ≡ true → Passing test first count
some_passes test first zero h = absurd cc
some_passes test first (suc count) h = by (test first) refl h (some_passes test (first + 1) count)
  where
    by : (b : Bool) → test first ≡ b → (b || list_any test (numbers_from (first + 1) count)) ≡ true →
        (list_any test (numbers_from (first + 1) count) ≡ true → Passing test (first + 1) count) → Passing test first (suc count)
    by true e h rest = record { number = first; from = omega arith; to = omega arith; passes = e }
    by false e h rest =
        let p = rest h in
        let low = p.from in
        let high = p.to in
        record { number = p.number; from = omega arith; to = omega arith; passes = p.passes }

above_acked : (t : PlainTracks) (n : ℕ) → is_unfinished1 t n ≡ true → t.acked < n
above_acked t n h = ltb-true t.acked n (and_parts (nat_lt t.acked n) (nat_le n t.issued1) h).0

above_complete : (t : PlainTracks) (n : ℕ) → is_unfinished2 t n ≡ true → t.complete < n
above_complete t n h = by (nat_le n t.complete) refl (and_parts (nat_le n t.issued2) (not (nat_le n t.complete || has t.done n)) h).1
  where
    by : (b : Bool) → nat_le n t.complete ≡ b → not (b || has t.done n) ≡ true → t.complete < n
    by true e h = absurd cc
    by false e h = let more = leb-false n t.complete e in omega arith

-- ---- batches

-- each batch takes an unfinished number of one of the tracks
batches_behind : (t : PlainTracks) (bs : List Batch) (low1 low2 u1 u2 : ℕ) → u1 ≤ t.issued1 → u2 ≤ t.issued2 →
    ((n : ℕ) → low1 ≤ n → t.acked < n → u1 < n) → ((n : ℕ) → low2 ≤ n → t.complete < n → u2 < n) →
    are_issued low1 low2 t.issued1 t.issued2 bs ≡ true → list_all (has_unfinished t) bs ≡ true → length bs + u1 + u2 ≤ t.issued1 + t.issued2
batches_behind t [] low1 low2 u1 u2 h1 h2 k1 k2 e f = omega arith
batches_behind t (b ∷ bs) low1 low2 u1 u2 h1 h2 k1 k2 e f =
    let end1 : ℕ = b.first1 + b.count1 in
    let end2 : ℕ = b.first2 + b.count2 in
    let tests1 : Bool = nat_le low1 b.first1 && nat_le end1 (t.issued1 + 1) in
    let tests2 : Bool = nat_le low2 b.first2 && nat_le end2 (t.issued2 + 1) in
    let others : Bool = are_issued end1 end2 t.issued1 t.issued2 bs in
    let p = and_parts (nat_lt b.from b.to) (tests1 && (tests2 && others)) e in
    let q = and_parts tests1 (tests2 && others) p.1 in
    let r = and_parts tests2 others q.1 in
    let one = and_parts (nat_le low1 b.first1) (nat_le end1 (t.issued1 + 1)) q.0 in
    let two = and_parts (nat_le low2 b.first2) (nat_le end2 (t.issued2 + 1)) r.0 in
    let from1 : low1 ≤ b.first1 = leb-true low1 b.first1 one.0 in
    let to1 : end1 ≤ t.issued1 + 1 = leb-true end1 (t.issued1 + 1) one.1 in
    let from2 : low2 ≤ b.first2 = leb-true low2 b.first2 two.0 in
    let to2 : end2 ≤ t.issued2 + 1 = leb-true end2 (t.issued2 + 1) two.1 in
    let g = and_parts (has_unfinished t b) (list_all (has_unfinished t) bs) f in
    by (list_any (is_unfinished1 t) (numbers_from b.first1 b.count1)) refl g.0 from1 to1 from2 to2
    (λ v1 v2 i1 i2 j1 j2. batches_behind t bs end1 end2 v1 v2 i1 i2 j1 j2 r.1 g.1)
  where
    by : (c : Bool) → list_any (is_unfinished1 t) (numbers_from b.first1 b.count1) ≡ c →
        (c || list_any (is_unfinished2 t) (numbers_from b.first2 b.count2)) ≡ true →
        low1 ≤ b.first1 → b.first1 + b.count1 ≤ t.issued1 + 1 → low2 ≤ b.first2 → b.first2 + b.count2 ≤ t.issued2 + 1 →
        ((v1 v2 : ℕ) → v1 ≤ t.issued1 → v2 ≤ t.issued2 → ((n : ℕ) → b.first1 + b.count1 ≤ n → t.acked < n → v1 < n) →
        ((n : ℕ) → b.first2 + b.count2 ≤ n → t.complete < n → v2 < n) → length bs + v1 + v2 ≤ t.issued1 + t.issued2) →
        suc (length bs) + u1 + u2 ≤ t.issued1 + t.issued2
    by true is some from1 to1 from2 to2 rest =
        let p = some_passes (is_unfinished1 t) b.first1 b.count1 is in
        let low = p.from in
        let high = p.to in
        let more : u1 < p.number = k1 p.number (omega arith) (above_acked t p.number p.passes) in
        let all = rest (b.first1 + b.count1 - 1) u2 (omega arith) h2 (λ n i j. omega arith) (λ n i j. k2 n (omega arith) j) in
        omega arith
    by false is some from1 to1 from2 to2 rest =
        let p = some_passes (is_unfinished2 t) b.first2 b.count2 some in
        let low = p.from in
        let high = p.to in
        let more : u2 < p.number = k2 p.number (omega arith) (above_complete t p.number p.passes) in
        let all = rest u1 (b.first2 + b.count2 - 1) h1 (omega arith) (λ n i j. k1 n (omega arith) j) (λ n i j. omega arith) in
        omega arith

pub batches_few : (t : PlainTracks) (bs : List Batch) → t.acked ≤ t.issued1 → t.complete ≤ t.issued2 →
    are_issued 1 1 t.issued1 t.issued2 bs ≡ true → list_all (has_unfinished t) bs ≡ true → length bs ≤ (t.issued1 - t.acked) + (t.issued2 - t.complete)
batches_few t bs a c e f =
    let all = batches_behind t bs 1 1 t.acked t.complete a c (λ n i j. j) (λ n i j. j) e f in omega arith
