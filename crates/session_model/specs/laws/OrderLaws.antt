-- Each change that fits keeps the numbers of a session in order.
use Rattle.std.proofs.Common.{◌≡◌, ◌⊎◌, inl, inr, ℕ, zero, suc, ◌+◌, ◌-◌, ◌≤◌, ◌<◌, true, false, ◌&&◌, not}
use Rattle.std.proofs.Common.{if◌then◌else◌, ◌==◌, nat_lt, nat_le, List, [], ◌∷◌, ◌++◌, length, Option, Some, None}
use Rattle.std.proofs.Common.{true≢false, refl, sym, ap, subst, ◌∙◌, arith}
use Rattle.std.specs.List.{list_all}
use Rattle.std.proofs.lemmas.Bool.{and_parts, or_cases, eqb-true, ltb-true, leb-true}
use Rattle.std.proofs.lemmas.List.{length-append}
use Rattle.std.proofs.lemmas.List.Folds.{list_any-append}
use Rattle.session_model.specs.declared.entry.Entry.{Entry}
use Rattle.session_model.specs.declared.entry.Version.{Version}
use Rattle.session_model.specs.Entry.{with_number, number1, number2, numbers1, numbers2}
use Rattle.session_model.specs.PlainSession.{PlainSession, Subscription, begun_session, issued1_of, issued2_of, is_done}
use Rattle.session_model.specs.PlainSession.{subscription_numbered}
use Rattle.session_model.specs.Change.{Effect, Began, Ended, Bound, Parted, Subscribed, Replaced, Unsubscribed, Issued}
use Rattle.session_model.specs.Change.{Acked, Received, Done, Passed, Issues, Passes}
use Rattle.session_model.specs.laws.TrackLaws.{numbers1-append, numbers2-append}
use Rattle.session_model.specs.Acting.{numbers_from, changed_session, issued_session, passed_session}
use Rattle.session_model.specs.FitsSession.{go_on, ascend, has_left, is_live, has_sweep, is_entry_of, may_be_issued}
use Rattle.session_model.specs.FitsSession.{is_between, may_be_passed, suits}
use Rattle.session_model.specs.Orders.{HasNumbers}
use Rattle.session_model.specs.PlainSession.{has}

-- ---- numbers that go on

more_numbers : (n k l : ℕ) → numbers_from n (k + l) ≡ numbers_from n k ++ numbers_from (n + k) l
more_numbers n zero l =
    let none : zero + l ≡ l = omega arith in let same : n ≡ n + zero =
    omega arith in ap (numbers_from n) none ∙ ap (λ s. numbers_from s l) same
more_numbers n (suc k) l =
    let one : suc k + l ≡ suc (k + l) = omega arith in
    let same : n + 1 + k ≡ n + suc k = omega arith in
    ap (numbers_from n) one
    ∙ ap (λ ns. n ∷ ns) (more_numbers (n + 1) k l)
    ∙ ap (λ s. n ∷ (numbers_from (n + 1) k ++ numbers_from s l)) same

go_on_from : (last : ℕ) (ns : List ℕ) → go_on last ns ≡ true → ns ≡ numbers_from (last + 1) (length ns)
go_on_from last [] h = refl
go_on_from last (n ∷ ns) h =
    let parts = and_parts (n == last + 1) (go_on n ns) h in
    let same : n ≡ last + 1 = eqb-true n (last + 1) parts.0 in
    ap (λ l. n ∷ l) (go_on_from n ns parts.1) ∙ ap (λ k. k ∷ numbers_from (k + 1) (length ns)) same

joined : (ns more : List ℕ) → ns ≡ numbers_from 1 (length ns) → go_on (length ns) more ≡ true → ns
    ++ more ≡ numbers_from 1 (length (ns ++ more))
joined ns more e h =
    let same : length ns + 1 ≡ 1 + length ns = omega arith in
    ap (λ l. l ++ more) e
    ∙ ap (λ l. numbers_from 1 (length ns) ++ l) (go_on_from (length ns) more h)
    ∙ ap (λ s. numbers_from 1 (length ns) ++ numbers_from s (length more)) same
    ∙ sym (more_numbers 1 (length ns) (length more))
    ∙ ap (numbers_from 1) (sym (length-append ns more))

-- each of so many numbers from one on lies there
number_of_from : (start count n : ℕ) → has (numbers_from start count) n ≡ true → (start ≤ n) × (n < start + count)
number_of_from start zero n h = absurd (true≢false (sym h))
number_of_from start (suc count) n h =
    by (or_cases (start == n) (has (numbers_from (start + 1) count) n) h) (number_of_from (start + 1) count n)
  where
    by : ((start == n) ≡ true) ⊎ (has (numbers_from (start + 1) count) n ≡ true) →
        (has (numbers_from (start + 1) count) n ≡ true → (start + 1 ≤ n) × (n < start + 1 + count)) → (start ≤ n)
        × (n < start + suc count)
    by (inl is) rest = let same : start ≡ n = eqb-true start n is in (omega arith, omega arith)
    by (inr later) rest = let found = rest later in let low = found.0 in let high =
        found.1 in (omega arith, omega arith)

-- ---- changes

same_tracks : (m : PlainSession) (expiry : ℕ) (parted : Option ℕ) (subscriptions : List Subscription)
    (versions : List Version) →
    HasNumbers m →
    HasNumbers (record m { expiry = expiry; parted = parted; subscriptions = subscriptions; versions = versions })
same_tracks m expiry parted subscriptions versions h =
    record { track1 = h.track1; track2 = h.track2; acked = h.acked; received = h.received; done = h.done }

after_issued : (m : PlainSession) (i : Issues) → may_be_issued m i ≡ true → HasNumbers m →
    HasNumbers (issued_session i m)
after_issued m i fit h =
    let going = go_on (issued1_of m) (numbers1 i.entries) && go_on (issued2_of m) (numbers2 i.entries) in
    let left = has_left (issued1_of m) (numbers1 i.entries) && has_left (issued2_of m) (numbers2 i.entries) in
    let both = going && left in
    let from_offsets = ascend i.entries && both in
    let from_entries = list_all (is_entry_of m i) i.entries && from_offsets in
    let from_some = nat_lt 0 (length i.entries) && from_entries in
    let from_sweep = has_sweep i.shard (subscription_numbered i.subscription m) && from_some in
    let sweep : from_sweep ≡ true = (and_parts (is_live m i.subscription) from_sweep fit).1 in
    let some : from_some ≡ true =
    (and_parts (has_sweep i.shard (subscription_numbered i.subscription m)) from_some sweep).1 in
    let entries : from_entries ≡ true = (and_parts (nat_lt 0 (length i.entries)) from_entries some).1 in
    let offsets : from_offsets ≡ true = (and_parts (list_all (is_entry_of m i) i.entries) from_offsets entries).1 in
    let numbers : both ≡ true = (and_parts (ascend i.entries) both offsets).1 in
    let tracks = and_parts (go_on (issued1_of m) (numbers1 i.entries)) (go_on (issued2_of m) (numbers2 i.entries))
    (and_parts going left numbers).0 in
    let all1 = numbers1-append m.issued i.entries in
    let all2 = numbers2-append m.issued i.entries in
    let long1 : length (numbers1 (m.issued ++ i.entries)) ≡ length (numbers1 m.issued) + length (numbers1 i.entries) =
    ap length all1 ∙ length-append (numbers1 m.issued) (numbers1 i.entries) in
    let long2 : length (numbers2 (m.issued ++ i.entries)) ≡ length (numbers2 m.issued) + length (numbers2 i.entries) =
    ap length all2 ∙ length-append (numbers2 m.issued) (numbers2 i.entries) in
    let acked : m.acked ≤ length (numbers1 m.issued) = h.acked in
    let received : m.received ≤ length (numbers2 m.issued) = h.received in
    record {
      track1 = subst (λ l. l ≡ numbers_from 1 (length l)) (sym all1)
          (joined (numbers1 m.issued) (numbers1 i.entries) h.track1 tracks.0);
      track2 = subst (λ l. l ≡ numbers_from 1 (length l)) (sym all2)
          (joined (numbers2 m.issued) (numbers2 i.entries) h.track2 tracks.1);
      acked = omega arith;
      received = omega arith;
      done = h.done;
    }

between_parts : (mark last number : ℕ) → is_between mark last number ≡ true → (mark < number) × (number ≤ last)
between_parts mark last number fit =
    let parts = and_parts (nat_lt mark number) (nat_le number last) fit in
    (ltb-true mark number parts.0, leb-true number last parts.1)

after_acked : (m : PlainSession) (number : ℕ) → is_between m.acked (issued1_of m) number ≡ true → HasNumbers m →
    HasNumbers (record m { acked = number })
after_acked m number fit h =
    let parts = between_parts m.acked (issued1_of m) number fit in
    record { track1 = h.track1; track2 = h.track2; acked = parts.1; received = h.received; done = h.done }

-- a new mark of track 2, with so many more that are done from the old one on
after_received : (m : PlainSession) (number count : ℕ) → is_between m.received (issued2_of m) number ≡ true →
    m.received + count ≤ number → HasNumbers m →
    HasNumbers (record m { received = number; done = m.done ++ numbers_from (m.received + 1) count })
after_received m number count fit few h =
    let parts = between_parts m.received (issued2_of m) number fit in
    let above = parts.0 in
    record {
      track1 = h.track1;
      track2 = h.track2;
      acked = h.acked;
      received = parts.1;
      done = λ n is.
          by n (or_cases (has m.done n) (has added n) (sym (list_any-append (λ (d : ℕ). d == n) m.done added) ∙ is))
          above;
    }
  where
    added : List ℕ
    added = numbers_from (m.received + 1) count

    by : (n : ℕ) → (has m.done n ≡ true) ⊎ (has (numbers_from (m.received + 1) count) n ≡ true) → m.received < number →
        (0 < n) × (n ≤ number)
    by n (inl before) above = let was = h.done n before in let low = was.0 in let high =
        was.1 in (omega arith, omega arith)
    by n (inr new) above = let is = number_of_from (m.received + 1) count n new in let low = is.0 in let high =
        is.1 in (omega arith, omega arith)

after_done : (m : PlainSession) (number : ℕ) → suits m (Done number) ≡ true → HasNumbers m →
    HasNumbers (changed_session (Done number) m)
after_done m number fit h =
    let parts = and_parts (nat_le number m.received) (nat_lt 0 number && not (is_done m number)) fit in
    let rest = and_parts (nat_lt 0 number) (not (is_done m number)) parts.1 in
    let high : number ≤ m.received = leb-true number m.received parts.0 in
    let low : 0 < number = ltb-true 0 number rest.0 in
    record {
      track1 = h.track1;
      track2 = h.track2;
      acked = h.acked;
      received = h.received;
      done =
          λ n is. by n
          (or_cases (has m.done n) (has (number ∷ []) n)
          (sym (list_any-append (λ (d : ℕ). d == n) m.done (number ∷ [])) ∙ is)) low high;
    }
  where
    by : (n : ℕ) → (has m.done n ≡ true) ⊎ (has (number ∷ []) n ≡ true) → 0 < number → number ≤ m.received → (0 < n)
        × (n ≤ m.received)
    by n (inl before) low high = h.done n before
    by n (inr new) low high = one (or_cases (number == n) false new)
      where
        one : ((number == n) ≡ true) ⊎ (false ≡ true) → (0 < n) × (n ≤ m.received)
        one (inl is) = let same : number ≡ n = eqb-true number n is in (omega arith, omega arith)
        one (inr never) = absurd (true≢false (sym never))

after_passed : (m : PlainSession) (p : Passes) → may_be_passed m p ≡ true → HasNumbers m →
    HasNumbers (passed_session p m)
after_passed m p fit h =
    by (or_cases ((p.track == 1) && is_between m.acked (issued1_of m) p.number)
    ((p.track == 2) && is_between m.received (issued2_of m) p.number) fit)
  where
    by : (((p.track == 1) && is_between m.acked (issued1_of m) p.number) ≡ true)
        ⊎ (((p.track == 2) && is_between m.received (issued2_of m) p.number) ≡ true) → HasNumbers (passed_session p m)
    by (inl one) =
        let parts = and_parts (p.track == 1) (is_between m.acked (issued1_of m) p.number) one in
        subst
        (λ b. HasNumbers
        (if b then record m { acked = p.number }
        else record m
        { received = p.number; done = m.done ++ numbers_from (m.received + 1) (p.number - m.received) }))
        (sym parts.0)
        (after_acked m p.number parts.1 h)
    by (inr two) =
        let parts = and_parts (p.track == 2) (is_between m.received (issued2_of m) p.number) two in
        let other : (p.track == 1) ≡ false = ap (λ t. t == 1) (eqb-true p.track 2 parts.0) in
        let above = (between_parts m.received (issued2_of m) p.number parts.1).0 in
        subst
        (λ b. HasNumbers
        (if b then record m { acked = p.number }
        else record m
        { received = p.number; done = m.done ++ numbers_from (m.received + 1) (p.number - m.received) }))
        (sym other)
        (after_received m p.number (p.number - m.received) parts.1 (omega arith) h)

-- ---- each change that fits, and the first session

pub acting_in_order : (m : PlainSession) (effect : Effect) → suits m effect ≡ true → HasNumbers m →
    HasNumbers (changed_session effect m)
acting_in_order m (Began b) fit h = h
acting_in_order m Ended fit h = h
acting_in_order m (Bound expiry) fit h = same_tracks m expiry None m.subscriptions m.versions h
acting_in_order m (Parted p) fit h = same_tracks m p.expiry (Some p.moment) m.subscriptions m.versions h
acting_in_order m (Subscribed s) fit h =
    let l = changed_session (Subscribed s) m in same_tracks m m.expiry m.parted l.subscriptions l.versions h
acting_in_order m (Replaced r) fit h =
    let l = changed_session (Replaced r) m in same_tracks m m.expiry m.parted l.subscriptions l.versions h
acting_in_order m (Unsubscribed number) fit h =
    let l = changed_session (Unsubscribed number) m in same_tracks m m.expiry m.parted l.subscriptions l.versions h
acting_in_order m (Issued i) fit h = after_issued m i fit h
acting_in_order m (Acked number) fit h = after_acked m number fit h
acting_in_order m (Received number) fit h =
    let above = (between_parts m.received (issued2_of m) number fit).0 in
    after_received m number (number - (m.received + 1)) fit (omega arith) h
acting_in_order m (Done number) fit h = after_done m number fit h
acting_in_order m (Passed p) fit h = after_passed m p fit h

pub begun_in_order : (client : List ℕ) (incarnation expiry window : ℕ) →
    HasNumbers (begun_session client incarnation expiry window)
begun_in_order client incarnation expiry window =
    record {
      track1 = refl;
      track2 = refl;
      acked = omega arith;
      received = omega arith;
      done =
          λ n is. absurd (true≢false (sym is));
    }
