-- The greatest number up to which all are done.
use Rattle.std.proofs.Common.{◌≡◌, ◌⊎◌, inl, inr, ℕ, zero, suc, ◌+◌, ◌-◌, ◌≤◌, ◌<◌, Bool, true, false, ◌&&◌, ◌||◌, ◌==◌, if◌then◌else◌, nat_le, nat_lt, List, [], ◌∷◌, ◌++◌, length, map, refl, sym, ap, ◌∙◌, arith}
use Rattle.std.proofs.lemmas.Bool.{cases_lt, le-leb, lt-leb, or_left, or_right, or_from, and_right}
use Rattle.std.proofs.lemmas.Bool.Decides.{nat_tests}
use Rattle.std.proofs.lemmas.List.Folds.{list_any-append}
use Rattle.session_model.specs.PlainSession.{PlainSession, begun_session, complete_of, done_from}
use Rattle.session_model.specs.Acting.{numbers_from}
use Rattle.session_model.specs.laws.DoneLaws.{complete_is_done, next_is_not}
use Rattle.session_model.specs.PlainSession.{has}
use Rattle.seq_tracks.specs.PlainTracks.{PlainTracks, is_done}
use Rattle.seq_tracks.specs.Changed.{complete_with, those_between, with_done}
use Rattle.seq_tracks.specs.ListLaws.{has-from, has-filter}

-- the numbers above one, counted from it
shifted : ℕ → List ℕ → List ℕ
shifted c xs = map (λ (x : ℕ). x - c) xs

has-shifted : (c : ℕ) (xs : List ℕ) (n : ℕ) → 0 < n → has (shifted c xs) n ≡ has xs (c + n)
unfolding shifted
has-shifted c [] n some = refl
has-shifted c (x ∷ xs) n some =
    let here : ((x - c) == n) ≡ (x == c + n) = grind (arith, nat_tests) in
    ap (λ b. b || has (shifted c xs) n) here ∙ ap (λ b. (x == c + n) || b) (has-shifted c xs n some)

length-shifted : (c : ℕ) (xs : List ℕ) → length (shifted c xs) ≡ length xs
unfolding shifted
length-shifted c [] = refl
length-shifted c (x ∷ xs) = ap suc (length-shifted c xs)

done_from-shifted : (c : ℕ) (xs : List ℕ) (start more : ℕ) → 0 < start → done_from (shifted c xs) start more ≡ done_from xs (c + start) more
done_from-shifted c xs start zero some = refl
done_from-shifted c xs start (suc more) some =
    let far : c + (start + 1) ≡ c + start + 1 = omega arith in
    ap (λ b. if b then 1 + done_from (shifted c xs) (start + 1) more else 0) (has-shifted c xs start some)
    ∙ ap (λ k. if has xs (c + start) then 1 + k else 0) (done_from-shifted c xs (start + 1) more (omega arith) ∙ ap (λ s. done_from xs s more) far)

-- a session of which these are done
of_done : List ℕ → PlainSession
of_done done = record (begun_session [] 0 0 0) { done = done }

complete_of-shifted : (c : ℕ) (xs : List ℕ) → c + complete_of (of_done (shifted c xs)) ≡ complete_with c xs
unfolding shifted of_done
complete_of-shifted c xs =
    ap (λ k. c + k) (done_from-shifted c xs 1 (length (shifted c xs)) (omega arith) ∙ ap (λ l. done_from xs (c + 1) l) (length-shifted c xs))

-- all up to it are done
pub run_done : (c : ℕ) (xs : List ℕ) (n : ℕ) → c < n → n ≤ complete_with c xs → has xs n ≡ true
unfolding of_done
run_done c xs n above within =
    let m = of_done (shifted c xs) in
    let is = complete_of-shifted c xs in
    let same : n ≡ c + (n - c) = omega arith in
    ap (has xs) same ∙ sym (has-shifted c xs (n - c) (omega arith)) ∙ complete_is_done m (n - c) (omega arith) (omega arith)

-- and the next one isn't
pub run_next : (c : ℕ) (xs : List ℕ) → has xs (complete_with c xs + 1) ≡ false
unfolding of_done
run_next c xs =
    let m = of_done (shifted c xs) in
    let is = complete_of-shifted c xs in
    let same : complete_with c xs + 1 ≡ c + (complete_of m + 1) = omega arith in
    ap (has xs) same ∙ sym (has-shifted c xs (complete_of m + 1) (omega arith)) ∙ next_is_not m

-- those between two numbers
pub has-between : (above last : ℕ) (xs : List ℕ) (n : ℕ) → has (those_between above last xs) n ≡ ((nat_lt above n && nat_le n last) && has xs n)
has-between above last xs n =
    has-filter (has xs) (numbers_from (above + 1) (last - above)) n
    ∙ ap (λ b. b && has xs n) (has-from (above + 1) (last - above) n ∙ grind (arith, nat_tests))

-- ---- with more done

three_or : (a b c : Bool) → ((a || b) || c) ≡ (a || (b || c))
three_or true b c = refl
three_or false b c = refl

-- done are the old ones and the new ones, where none of either is past what is received
pub done_with : (t : PlainTracks) (received : ℕ) (more : List ℕ) (n : ℕ) → (received < n → (is_done t n || has more n) ≡ false) →
    is_done (with_done received more t) n ≡ (is_done t n || has more n)
done_with t received more n none =
    ap (λ b. nat_le n complete || b) (has-between complete received (t.done ++ more) n)
    ∙ by (cases_lt complete n) (cases_lt received n)
    ∙ sym told
  where
    complete : ℕ
    complete = complete_with t.complete (t.done ++ more)

    told : (is_done t n || has more n) ≡ (nat_le n t.complete || has (t.done ++ more) n)
    told =
        three_or (nat_le n t.complete) (has t.done n) (has more n)
        ∙ ap (λ b. nat_le n t.complete || b) (sym (list_any-append (λ (d : ℕ). d == n) t.done more))

    by : (complete_with t.complete (t.done ++ more) < n) ⊎ (n ≤ complete_with t.complete (t.done ++ more)) → (received < n) ⊎ (n ≤ received) →
        (nat_le n (complete_with t.complete (t.done ++ more)) || ((nat_lt (complete_with t.complete (t.done ++ more)) n && nat_le n received) && has (t.done ++ more) n))
        ≡ (nat_le n t.complete || has (t.done ++ more) n)
    by (inr low) past = or_left _ _ (le-leb n (complete_with t.complete (t.done ++ more)) low) ∙ sym (below (cases_lt t.complete n))
      where
        below : (t.complete < n) ⊎ (n ≤ t.complete) → (nat_le n t.complete || has (t.done ++ more) n) ≡ true
        below (inl above) = or_right (nat_le n t.complete) (has (t.done ++ more) n) (run_done t.complete (t.done ++ more) n above low)
        below (inr old) = or_left (nat_le n t.complete) (has (t.done ++ more) n) (le-leb n t.complete old)
    by (inl above) (inr within) = same (has (t.done ++ more) n)
      where
        same : (b : Bool) → (nat_le n (complete_with t.complete (t.done ++ more)) || ((nat_lt (complete_with t.complete (t.done ++ more)) n && nat_le n received) && b)) ≡ (nat_le n t.complete || b)
        same true = grind (arith, nat_tests)
        same false = grind (arith, nat_tests)
    by (inl above) (inl past) = gone (has (t.done ++ more) n) ∙ sym (sym told ∙ none past)
      where
        gone : (b : Bool) → (nat_le n (complete_with t.complete (t.done ++ more)) || ((nat_lt (complete_with t.complete (t.done ++ more)) n && nat_le n received) && b)) ≡ false
        gone b = grind (arith, nat_tests)

-- the one behind `complete` isn't done
pub next_not_done : (t : PlainTracks) (received : ℕ) (more : List ℕ) → is_done (with_done received more t) (complete_with t.complete (t.done ++ more) + 1) ≡ false
next_not_done t received more =
    let complete = complete_with t.complete (t.done ++ more) in
    ap (λ b. nat_le (complete + 1) complete || b) (has-between complete received (t.done ++ more) (complete + 1))
    ∙ or_from (nat_le (complete + 1) complete) _ (lt-leb (complete + 1) complete (omega arith))
    (and_right (nat_lt complete (complete + 1) && nat_le (complete + 1) received) (has (t.done ++ more) (complete + 1)) (run_next t.complete (t.done ++ more)))
