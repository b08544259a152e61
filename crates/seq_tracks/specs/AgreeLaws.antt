-- What tracks tell of the session that they stand for.
use Rattle.std.proofs.Common.{◌≡◌, ◌⊎◌, inl, inr, ℕ, zero, suc, ◌+◌, ◌-◌, ◌≤◌, ◌<◌, Bool, true, false, ◌&&◌, ◌||◌, not, ◌==◌, if◌then◌else◌, nat_le, min, List, [], ◌∷◌, ◌++◌, filter, Option, None, Some, refl, sym, ap, ◌∙◌, arith}
use Rattle.std.proofs.lemmas.Bool.{cases_lt, le-leb, lt-leb, lt-ltb, and_from, and_right, or_left, eqb-true}
use Rattle.std.proofs.lemmas.Bool.Decides.{nat_tests}
use Rattle.std.proofs.lemmas.List.Elements.{filter-append}
use Rattle.std.proofs.lemmas.Option.{none-some, same_Some}
use Rattle.session_model.specs.declared.entry.Entry.{Entry}
use Rattle.session_model.specs.declared.entry.Kind.{Kind}
use Rattle.session_model.specs.declared.entry.Kind.TheVariants.{Track1, Track2, Zero, Silent}
use Rattle.session_model.specs.Entry.{number1, number2, with_number, numbers1, numbers2}
use Rattle.session_model.specs.PlainSession as session
use Rattle.session_model.specs.PlainSession.{PlainSession, issued1_of, issued2_of, complete_of, left_of, room_of}
use Rattle.session_model.specs.Unfinished.{kind_is_finished, kind_is_released, is_finished, unfinished}
use Rattle.session_model.specs.Change.{Acked, Received, Done, Passed, Passes}
use Rattle.session_model.specs.Acting.{numbers_from}
use Rattle.session_model.specs.FitsSession.{is_between, may_be_passed, suits}
use Rattle.session_model.specs.Orders.{HasNumbers}
use Rattle.session_model.specs.laws.DoneLaws.{complete_is_done}
use Rattle.session_model.specs.PlainSession.{has}
use Rattle.session_model.specs.laws.TrackLaws.{numbers_by, by_number1, by_number2}
use Rattle.seq_tracks.specs.declared.marks.TheConstants.{WIDEST_WINDOW}
use Rattle.seq_tracks.specs.PlainTracks.{PlainTracks, is_done, is_released, is_unfinished, mark_of, last_of, in_use, room, has_room_for}
use Rattle.seq_tracks.specs.InOrder.{InOrder}
use Rattle.seq_tracks.specs.Identifiers.{unfinished1, unfinished2}
use Rattle.seq_tracks.specs.StandFor.{TracksStandFor}
use Rattle.seq_tracks.specs.ListLaws.{from-append, filter-agree, filter-none, filter-all}

-- ---- the window

pub in_use_agrees : (t : PlainTracks) (m : PlainSession) → TracksStandFor t m → in_use t ≡ session.in_use m
in_use_agrees t m h =
    ap (λ a. (a - t.acked) + (t.issued2 - t.complete)) h.issued1
    ∙ ap (λ a. (issued1_of m - a) + (t.issued2 - t.complete)) h.acked
    ∙ ap (λ a. (issued1_of m - m.acked) + (a - t.complete)) h.issued2
    ∙ ap (λ a. (issued1_of m - m.acked) + (issued2_of m - a)) h.complete

pub room_agrees : (t : PlainTracks) (m : PlainSession) → TracksStandFor t m → room t m.window ≡ room_of m
room_agrees t m h =
    ap (λ n. min (m.window - n) (min (left_of t.issued1) (left_of t.issued2))) (in_use_agrees t m h)
    ∙ ap (λ n. min (m.window - session.in_use m) (min (left_of n) (left_of t.issued2))) h.issued1
    ∙ ap (λ n. min (m.window - session.in_use m) (min (left_of (issued1_of m)) (left_of n))) h.issued2

-- what fits into the room of a window fits on each track
pub room_is_for_both : (t : PlainTracks) (window count1 count2 : ℕ) → InOrder t → window ≤ WIDEST_WINDOW → count1 + count2 ≤ room t window →
    has_room_for t count1 count2 ≡ true
room_is_for_both t window count1 count2 h widest fits =
    let used = h.window in
    let within : in_use t + (count1 + count2) ≤ WIDEST_WINDOW = omega arith in
    let left1 : count1 ≤ left_of t.issued1 = omega arith in
    let left2 : count2 ≤ left_of t.issued2 = omega arith in
    and_from (nat_le (in_use t + (count1 + count2)) WIDEST_WINDOW) (nat_le count1 (left_of t.issued1) && nat_le count2 (left_of t.issued2))
    (le-leb (in_use t + (count1 + count2)) WIDEST_WINDOW within)
    (and_from (nat_le count1 (left_of t.issued1)) (nat_le count2 (left_of t.issued2)) (le-leb count1 (left_of t.issued1) left1) (le-leb count2 (left_of t.issued2) left2))

-- ---- one number

pub unfinished1_agrees : (t : PlainTracks) (m : PlainSession) (n : ℕ) → TracksStandFor t m → n ≤ issued1_of m →
    is_unfinished t 1 n ≡ not (kind_is_finished m (Track1 n))
unfinished1_agrees t m n h within = let issued = h.issued1 in let acked = h.acked in grind (arith, nat_tests)

pub unfinished2_agrees : (t : PlainTracks) (m : PlainSession) (n : ℕ) → TracksStandFor t m → 0 < n → n ≤ issued2_of m →
    is_unfinished t 2 n ≡ not (kind_is_finished m (Track2 n))
unfinished2_agrees t m n h some within =
    let issued = h.issued2 in
    ap (λ b. b && not (is_done t n)) (le-leb n t.issued2 (omega arith)) ∙ ap not (h.done n some)

pub released_agrees : (t : PlainTracks) (m : PlainSession) (n : ℕ) → TracksStandFor t m → 0 < n → is_released t n ≡ kind_is_released m (Track2 n)
released_agrees t m n h some = ap (λ r. nat_le n r && not (is_done t n)) h.received ∙ ap (λ b. nat_le n m.received && not b) (h.done n some)

-- ---- what fits

pub acked_fits : (t : PlainTracks) (m : PlainSession) (n : ℕ) → TracksStandFor t m → suits m (Acked n) ≡ is_between t.acked t.issued1 n
acked_fits t m n h = sym (ap (λ a. is_between a t.issued1 n) h.acked ∙ ap (λ a. is_between m.acked a n) h.issued1)

pub received_fits : (t : PlainTracks) (m : PlainSession) (n : ℕ) → TracksStandFor t m → suits m (Received n) ≡ is_between t.received t.issued2 n
received_fits t m n h = sym (ap (λ a. is_between a t.issued2 n) h.received ∙ ap (λ a. is_between m.received a n) h.issued2)

pub done_fits : (t : PlainTracks) (m : PlainSession) (n : ℕ) → TracksStandFor t m → suits m (Done n) ≡ is_released t n
done_fits t m zero h =
    let done : is_done t 0 ≡ true = or_left (nat_le 0 t.complete) (has t.done 0) (le-leb 0 t.complete (omega arith)) in
    and_right (nat_le 0 m.received) false refl ∙ sym (and_right (nat_le 0 t.received) (not (is_done t 0)) (ap not done))
done_fits t m (suc n) h =
    ap (λ b. nat_le (suc n) m.received && (b && not (session.is_done m (suc n)))) (lt-ltb 0 (suc n) (omega arith))
    ∙ sym (released_agrees t m (suc n) h (omega arith))

pub passed_fits : (t : PlainTracks) (m : PlainSession) (p : Passes) → TracksStandFor t m →
    suits m (Passed p) ≡ (((p.track == 1) || (p.track == 2)) && is_between (mark_of t p.track) (last_of t p.track) p.number)
passed_fits t m p h = by (p.track == 1) (p.track == 2) (λ one two. absurd (apart (eqb-true p.track 1 one) (eqb-true p.track 2 two)))
  where
    apart : p.track ≡ 1 → p.track ≡ 2 → ⊥
    apart one two = omega arith

    or_none : (b : Bool) → (b || false) ≡ b
    or_none true = refl
    or_none false = refl

    by : (b c : Bool) → (b ≡ true → c ≡ true → ⊥) →
        ((b && is_between m.acked (issued1_of m) p.number) || (c && is_between m.received (issued2_of m) p.number))
        ≡ ((b || c) && is_between (if b then t.acked else t.received) (if b then t.issued1 else t.issued2) p.number)
    by true true differ = absurd (differ refl refl)
    by true false differ = or_none (is_between m.acked (issued1_of m) p.number) ∙ acked_fits t m p.number h
    by false true differ = received_fits t m p.number h
    by false false differ = refl

-- ---- the unfinished numbers

numbers-filter : (number : Kind → Option ℕ) (test : Entry → Bool) (p : ℕ → Bool) → ((e : Entry) (n : ℕ) → number e.kind ≡ Some n → test e ≡ p n) → (es : List Entry) →
    numbers_by number (filter test es) ≡ filter p (numbers_by number es)
numbers-filter number test p same [] = refl
numbers-filter number test p same (e ∷ es) = by (number e.kind) refl (test e) refl (numbers-filter number test p same es)
  where
    by : (k : Option ℕ) → number e.kind ≡ k → (b : Bool) → test e ≡ b → numbers_by number (filter test es) ≡ filter p (numbers_by number es) →
        numbers_by number (if b then e ∷ filter test es else filter test es) ≡ filter p (with_number k (numbers_by number es))
    by None is true may_be_passed rest = ap (λ k. with_number k (numbers_by number (filter test es))) is ∙ rest
    by None is false may_be_passed rest = rest
    by (Some n) is true may_be_passed rest =
        ap (λ k. with_number k (numbers_by number (filter test es))) is
        ∙ ap (λ l. n ∷ l) rest
        ∙ ap (λ b. if b then n ∷ filter p (numbers_by number es) else filter p (numbers_by number es)) (sym may_be_passed ∙ same e n is)
    by (Some n) is false may_be_passed rest =
        rest ∙ ap (λ b. if b then n ∷ filter p (numbers_by number es) else filter p (numbers_by number es)) (sym may_be_passed ∙ same e n is)

-- those of the first numbers that pass, where none up to a mark does
behind_mark : (p : ℕ → Bool) (mark last : ℕ) → ((n : ℕ) → 1 ≤ n → n ≤ mark → p n ≡ false) → filter p (numbers_from 1 last) ≡ filter p (numbers_from (mark + 1) (last - mark))
behind_mark p mark last none = by (cases_lt last mark)
  where
    by : (last < mark) ⊎ (mark ≤ last) → filter p (numbers_from 1 last) ≡ filter p (numbers_from (mark + 1) (last - mark))
    by (inl less) =
        let nothing : 0 ≡ last - mark = omega arith in
        filter-none p 1 last (λ n from to. none n from (omega arith)) ∙ ap (λ k. filter p (numbers_from (mark + 1) k)) nothing
    by (inr within) =
        let parts : last ≡ mark + (last - mark) = omega arith in
        let start : 1 + mark ≡ mark + 1 = omega arith in
        ap (λ k. filter p (numbers_from 1 k)) parts
        ∙ ap (filter p) (from-append 1 mark (last - mark))
        ∙ filter-append p (numbers_from 1 mark) (numbers_from (1 + mark) (last - mark))
        ∙ ap (λ l. l ++ filter p (numbers_from (1 + mark) (last - mark))) (filter-none p 1 mark (λ n from to. none n from (omega arith)))
        ∙ ap (λ s. filter p (numbers_from s (last - mark))) start

finished1 : (m : PlainSession) (e : Entry) (n : ℕ) → number1 e.kind ≡ Some n → not (is_finished m e) ≡ not (nat_le n m.acked)
finished1 m e n is = by e.kind is
  where
    by : (k : Kind) → number1 k ≡ Some n → not (kind_is_finished m k) ≡ not (nat_le n m.acked)
    by (Track1 k) is = ap (λ i. not (nat_le i m.acked)) (same_Some k n is)
    by (Track2 k) is = absurd (none-some n is)
    by Zero is = absurd (none-some n is)
    by Silent is = absurd (none-some n is)

finished2 : (m : PlainSession) (e : Entry) (n : ℕ) → number2 e.kind ≡ Some n → not (is_finished m e) ≡ not (session.is_done m n)
finished2 m e n is = by e.kind is
  where
    by : (k : Kind) → number2 k ≡ Some n → not (kind_is_finished m k) ≡ not (session.is_done m n)
    by (Track1 k) is = absurd (none-some n is)
    by (Track2 k) is = ap (λ i. not (session.is_done m i)) (same_Some k n is)
    by Zero is = absurd (none-some n is)
    by Silent is = absurd (none-some n is)

-- the numbers of the unfinished entries of a session, on each track
pub numbers1-unfinished : (t : PlainTracks) (m : PlainSession) → TracksStandFor t m → HasNumbers m → numbers1 (unfinished m) ≡ unfinished1 t
numbers1-unfinished t m h numbers =
    let test : Entry → Bool = λ e. not (is_finished m e) in
    let p : ℕ → Bool = λ n. not (nat_le n m.acked) in
    by_number1 (unfinished m)
    ∙ numbers-filter number1 test p (finished1 m) m.issued
    ∙ ap (filter p) (sym (by_number1 m.issued) ∙ numbers.track1)
    ∙ behind_mark p m.acked (issued1_of m) (λ n from to. ap not (le-leb n m.acked to))
    ∙ filter-all p (m.acked + 1) (issued1_of m - m.acked) (λ n from to. ap not (lt-leb n m.acked (omega arith)))
    ∙ ap (λ a. numbers_from (a + 1) (issued1_of m - a)) (sym h.acked)
    ∙ ap (λ i. numbers_from (t.acked + 1) (i - t.acked)) (sym h.issued1)

pub numbers2-unfinished : (t : PlainTracks) (m : PlainSession) → TracksStandFor t m → HasNumbers m → numbers2 (unfinished m) ≡ unfinished2 t
numbers2-unfinished t m h numbers =
    let test : Entry → Bool = λ e. not (is_finished m e) in
    let p : ℕ → Bool = λ n. not (session.is_done m n) in
    let q : ℕ → Bool = λ n. not (is_done t n) in
    by_number2 (unfinished m)
    ∙ numbers-filter number2 test p (finished2 m) m.issued
    ∙ ap (filter p) (sym (by_number2 m.issued) ∙ numbers.track2)
    ∙ behind_mark p (complete_of m) (issued2_of m) (λ n from to. ap not (complete_is_done m n from to))
    ∙ ap (λ c. filter p (numbers_from (c + 1) (issued2_of m - c))) (sym h.complete)
    ∙ ap (λ i. filter p (numbers_from (t.complete + 1) (i - t.complete))) (sym h.issued2)
    ∙ filter-agree p q (t.complete + 1) (t.issued2 - t.complete) (λ n from to. ap not (sym (h.done n (omega arith))))
