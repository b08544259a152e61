-- What the bodies of the changes leave is done up to where they say.
use Rattle.std.proofs.Common.{◌≡◌, ◌≢◌, ◌⊎◌, inl, inr, ℕ, zero, suc, ◌+◌, ◌-◌, ◌≤◌, ◌<◌, Bool, true, false, ◌&&◌, ◌||◌, not, ◌==◌, nat_le, nat_lt, List, [], ◌∷◌, ◌++◌, length, take, drop, refl, sym, ap, ◌∙◌, arith}
use Rattle.std.specs.List.{insert}
use Rattle.std.proofs.lemmas.Bool.{cases_eq, and_parts, or_parts, or_from, leb-true, leb-false, eqb-false, not-true}
use Rattle.std.proofs.lemmas.Bool.Decides.{nat_tests}
use Rattle.std.proofs.lemmas.List.{length-append, take-append-drop}
use Rattle.std.proofs.lemmas.List.Folds.{list_any-append}
use Rattle.session_model.specs.Acting.{numbers_from}
use Rattle.session_model.specs.PlainSession.{has}
use Rattle.seq_tracks.specs.PlainTracks.{PlainTracks, is_done, is_released}
use Rattle.seq_tracks.specs.InOrder.{InOrder, ascend}
use Rattle.seq_tracks.specs.ListLaws.{length-from, has-from, ascend_parts, ascend_cons, ascend_not_below, ascend_short, ascend_from, ascend-append}
use Rattle.seq_tracks.specs.Changed.{IsDoneUpTo}
use Rattle.seq_tracks.proofs.SearchLemmas.{IsPlace}

has-append : (xs ys : List ℕ) (n : ℕ) → has (xs ++ ys) n ≡ (has xs n || has ys n)
has-append xs ys n = list_any-append (λ (d : ℕ). d == n) xs ys

-- tracks stay in order where more is done
pub in_order-done : (t : PlainTracks) (received : ℕ) (all : List ℕ) (complete : ℕ) (done : List ℕ) → InOrder t → IsDoneUpTo t received all complete done →
    received ≤ t.issued2 → InOrder (record t { received = received; complete = complete; done = done })
in_order-done t received all complete done h up issued =
    let low = up.low in
    let window = h.window in
    record {
      acked = h.acked;
      complete = up.high;
      received = issued;
      last1 = h.last1;
      last2 = h.last2;
      window = omega arith;
      done = up.ascends;
    }

-- ---- PUBCOMP

released_parts : (t : PlainTracks) (seq : ℕ) → is_released t seq ≡ true → (seq ≤ t.received) × (t.complete < seq) × (has t.done seq ≡ false)
released_parts t seq is =
    let parts = and_parts (nat_le seq t.received) (not (is_done t seq)) is in
    let rest = or_parts (nat_le seq t.complete) (has t.done seq) (not-true (is_done t seq) parts.1) in
    (leb-true seq t.received parts.0, leb-false seq t.complete rest.0, rest.1)

-- a released number that isn't the one behind `complete` was received behind that one
pub released_behind : (t : PlainTracks) (seq : ℕ) → is_released t seq ≡ true → seq ≢ t.complete + 1 → t.complete < t.received
released_behind t seq released other =
    let parts = released_parts t seq released in
    let from = parts.0 in
    let above = parts.1 in
    omega arith

-- the one behind `complete` is done, and a run follows it
pub done_next : (t : PlainTracks) (seq complete : ℕ) (done : List ℕ) → InOrder t → is_released t seq ≡ true → seq ≡ t.complete + 1 → seq ≤ complete →
    t.done ≡ numbers_from (seq + 1) (complete - seq) ++ done →
    ((last : ℕ) → ascend seq last t.done ≡ true → ascend (complete + 1) last done ≡ true) →
    IsDoneUpTo t t.received (t.done ++ seq ∷ []) complete done
done_next t seq complete done h released next from taken rest =
    let run = numbers_from (seq + 1) (complete - seq) in
    let received = (released_parts t seq released).0 in
    let up : ascend seq t.received t.done ≡ true = ap (λ a. ascend a t.received t.done) next ∙ h.done in
    let above : ascend (complete + 1) t.received done ≡ true = rest t.received up in
    let long : length t.done ≡ (complete - seq) + length done =
    ap length taken ∙ length-append run done ∙ ap (λ n. n + length done) (length-from (seq + 1) (complete - seq)) in
    let short : length t.done ≤ t.received - seq = ascend_short seq t.received t.done up in
    let one : length (t.done ++ seq ∷ []) ≡ length t.done + 1 = length-append t.done (seq ∷ []) in
    let has_all : (n : ℕ) → has (t.done ++ seq ∷ []) n ≡ (((nat_le (seq + 1) n && nat_lt n (seq + 1 + (complete - seq))) || has done n) || ((seq == n) || false)) =
    λ n. has-append t.done (seq ∷ []) n
    ∙ ap (λ b. b || ((seq == n) || false)) (ap (λ l. has l n) taken ∙ has-append run done n ∙ ap (λ b. b || has done n) (has-from (seq + 1) (complete - seq) n)) in
    record {
      low = omega arith;
      high = omega arith;
      many = omega arith;
      below = λ n low high. has_all n ∙ grind (arith, nat_tests);
      next = has_all (complete + 1) ∙ (let not_there : has done (complete + 1) ≡ false = ascend_not_below (complete + 1) t.received done (complete + 1) above (omega arith) in grind (arith, nat_tests));
      ascends = above;
      above = λ n low high. sym (has_all n ∙ grind (arith, nat_tests));
    }

-- another one goes into its place

ascend-insert : (above last : ℕ) (xs : List ℕ) (i n : ℕ) → ascend above last xs ≡ true → above < n → n ≤ last → has xs n ≡ false → i ≤ length xs → IsPlace xs n i →
    ascend above last (insert xs i n) ≡ true
ascend-insert above last [] zero n up low high other within place = ascend_cons above last n [] low high refl
ascend-insert above last [] (suc i) n up low high other within place = absurd (omega arith)
ascend-insert above last (x ∷ xs) zero n up low high other within place =
    let parts = ascend_parts above last x xs up in
    let no_less : n ≤ x = place.1 0 (omega arith) (omega arith) in
    let less : n < x = by (cases_eq x n) no_less in
    ascend_cons above last n (x ∷ xs) low high (ascend_cons n last x xs less parts.1 parts.2)
  where
    by : (x ≡ n) ⊎ (x ≡ n → ⊥) → n ≤ x → n < x
    by (inl same) no_less = absurd (eqb-false x n (or_parts (x == n) (has xs n) other).0 same)
    by (inr differ) no_less = omega arith
ascend-insert above last (x ∷ xs) (suc i) n up low high other within place =
    let parts = ascend_parts above last x xs up in
    let less : x < n = place.0 0 (omega arith) in
    let later : IsPlace xs n i = ((λ k before. place.0 (suc k) (omega arith)), (λ k behind inside. place.1 (suc k) (omega arith) (omega arith))) in
    ascend_cons above last x (insert xs i n) parts.0 parts.1
    (ascend-insert x last xs i n parts.2 less high (or_parts (x == n) (has xs n) other).1 (omega arith) later)

has-insert : (xs : List ℕ) (i n k : ℕ) → has (insert xs i n) k ≡ has (xs ++ n ∷ []) k
has-insert xs i n k =
    let parts : (has (take i xs) k || has (drop i xs) k) ≡ has xs k = sym (has-append (take i xs) (drop i xs) k) ∙ ap (λ l. has l k) (take-append-drop i xs) in
    has-append (take i xs) (n ∷ drop i xs) k ∙ by (has (take i xs) k) (n == k) (has (drop i xs) k) (has xs k) parts ∙ sym (has-append xs (n ∷ []) k)
  where
    by : (a b c d : Bool) → (a || c) ≡ d → (a || (b || c)) ≡ (d || (b || false))
    by a b c d is = grind arith

pub done_in_place : (t : PlainTracks) (seq place : ℕ) → InOrder t → is_released t seq ≡ true → seq ≢ t.complete + 1 → place ≤ length t.done → IsPlace t.done seq place →
    IsDoneUpTo t t.received (t.done ++ seq ∷ []) t.complete (insert t.done place seq)
done_in_place t seq place h released other within is_place =
    let parts = released_parts t seq released in
    let below = parts.1 in
    let not_next : has t.done (t.complete + 1) ≡ false = ascend_not_below (t.complete + 1) t.received t.done (t.complete + 1) h.done (omega arith) in
    record {
      low = omega arith;
      high = h.complete;
      many = omega arith;
      below = λ n low high. absurd (omega arith);
      next = has-append t.done (seq ∷ []) (t.complete + 1) ∙ grind (arith, nat_tests);
      ascends = ascend-insert (t.complete + 1) t.received t.done place seq h.done (omega arith) parts.0 parts.2 within is_place;
      above = λ n low high. has-insert t.done place seq n;
    }

-- ---- PUBREC, and what is passed over

-- all that was received is done
pub received_all : (t : PlainTracks) (seq last : ℕ) → InOrder t → t.complete ≡ t.received → t.received ≤ last → last ≤ seq →
    IsDoneUpTo t seq (t.done ++ numbers_from (t.received + 1) (last - t.received)) last t.done
received_all t seq last h complete from to =
    let run = numbers_from (t.received + 1) (last - t.received) in
    let short : length t.done ≤ t.received - (t.complete + 1) = ascend_short (t.complete + 1) t.received t.done h.done in
    let none : t.done ≡ [] = empty t.done (omega arith) in
    let has_all : (n : ℕ) → has (t.done ++ run) n ≡ (nat_le (t.received + 1) n && nat_lt n (t.received + 1 + (last - t.received))) =
    λ n. ap (λ (l : List ℕ). has (l ++ run) n) none ∙ has-from (t.received + 1) (last - t.received) n in
    let long : length (t.done ++ run) ≡ length t.done + (last - t.received) = length-append t.done run ∙ ap (λ n. length t.done + n) (length-from (t.received + 1) (last - t.received)) in
    record {
      low = omega arith;
      high = to;
      many = omega arith;
      below = λ n low high. has_all n ∙ grind (arith, nat_tests);
      next = has_all (last + 1) ∙ grind (arith, nat_tests);
      ascends = ap (λ l. ascend (last + 1) seq l) none;
      above = λ n low high. ap (λ l. has l n) none ∙ sym (has_all n ∙ grind (arith, nat_tests));
    }
  where
    empty : (xs : List ℕ) → length xs ≤ 0 → xs ≡ []
    empty [] short = refl
    empty (x ∷ xs) short = absurd (omega arith)

-- something that was received isn't done
pub received_some : (t : PlainTracks) (seq last : ℕ) → InOrder t → t.complete ≢ t.received → t.received ≤ last → last ≤ seq →
    IsDoneUpTo t seq (t.done ++ numbers_from (t.received + 1) (last - t.received)) t.complete (t.done ++ numbers_from (t.received + 1) (last - t.received))
received_some t seq last h waits from to =
    let run = numbers_from (t.received + 1) (last - t.received) in
    let complete = h.complete in
    let not_next : has t.done (t.complete + 1) ≡ false = ascend_not_below (t.complete + 1) t.received t.done (t.complete + 1) h.done (omega arith) in
    let not_new : has run (t.complete + 1) ≡ false = has-from (t.received + 1) (last - t.received) (t.complete + 1) ∙ grind (arith, nat_tests) in
    record {
      low = omega arith;
      high = omega arith;
      many = omega arith;
      below = λ n low high. absurd (omega arith);
      next = has-append t.done run (t.complete + 1) ∙ or_from (has t.done (t.complete + 1)) (has run (t.complete + 1)) not_next not_new;
      ascends =
          ascend-append (t.complete + 1) t.received seq t.done run (omega arith) (omega arith) h.done
          (ascend_from t.received seq (t.received + 1) (last - t.received) (omega arith) (omega arith));
      above = λ n low high. refl;
    }

-- those behind a mark fit beside those that are done
pub room_for_run : (t : PlainTracks) (last : ℕ) → InOrder t → t.complete ≢ t.received → t.received ≤ last → last ≤ t.issued2 → length t.done + (last - t.received) ≤ t.issued2 - t.complete
room_for_run t last h waits from to =
    let short : length t.done ≤ t.received - (t.complete + 1) = ascend_short (t.complete + 1) t.received t.done h.done in
    let complete = h.complete in
    let window = h.window in
    omega arith
