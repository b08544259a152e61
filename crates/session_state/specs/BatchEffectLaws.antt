-- A batch that is issued keeps the facts of a session, and so does each change.
use Rattle.std.proofs.Common.{◌≡◌, ◌⊎◌, inl, inr, ℕ, ◌+◌, ◌≤◌, ◌<◌, Bool, true, false, not, ◌&&◌, ◌||◌, ◌==◌, if◌then◌else◌, nat_le, nat_lt, List, [], ◌∷◌, ◌++◌, length, find, count_by, slice_get, slice_set, Option, Some, None, is_some, refl, sym, ap, ◌∙◌, true≢false, arith}
use Rattle.std.specs.List.{list_all}
use Rattle.std.proofs.lemmas.Bool.{and_parts, and_from, or_cases, or_left, or_right, eqb-true, cases_lt}
use Rattle.std.proofs.lemmas.Bool.Decides.{nat_tests}
use Rattle.std.proofs.lemmas.List.{length-set}
use Rattle.std.proofs.lemmas.List.Sums.{sum_by_push, sum_by-cons}
use Rattle.std.proofs.lemmas.Option.{none-some, same_Some}
use Rattle.session_model.specs.declared.entry.Version.{Version}
use Rattle.session_model.specs.Acting.{changed_if}
use Rattle.session_model.specs.PlainSession.{has}
use Rattle.session_model.specs.FitsSession.{is_between}
use Rattle.seq_tracks.specs.PlainTracks.{has_room_for, is_done, last_of, mark_of}
use Rattle.seq_tracks.specs.InOrder.{InOrder}
use Rattle.seq_tracks.specs.Changed.{issued_tracks}
use Rattle.seq_tracks.specs.ListLaws.{has-from}
use Rattle.session_state.specs.declared.batch.Batch.{Batch}
use Rattle.session_state.specs.declared.change.Effect.{Effect}
use Rattle.session_state.specs.declared.change.Effect.TheVariants.{Began, Ended, Bound, Parted, Subscribed, Replaced, Unsubscribed, Issued, Acked, Received, Done, Passed}
use Rattle.session_state.specs.declared.change.Issued.{Issued as Issuing}
use Rattle.session_state.specs.KeptSub.{KeptSub}
use Rattle.session_state.specs.KeptSession.{KeptSession, sub_numbered}
use Rattle.session_state.specs.KeptActing.{issued_kept, kept_changed, numbers1_of, numbers2_of, on_sub, with_effect}
use Rattle.session_state.specs.KeptFits.{goes_on, is_issuing, issues, kept_suits}
use Rattle.session_state.specs.SoundTest.{are_issued, has_facts, holds_own, holds_sub, holds_version, lies_in_one1, lies_in_one2, rise}
use Rattle.session_state.specs.FactLaws.{HasFacts, facts_from_test, facts_tidied, test_from_facts}
use Rattle.session_state.specs.ListLaws.{all_weaker}
use Rattle.session_state.specs.EffectLaws.{each_from1, each_from2, facts_acked, facts_completed, facts_passed, facts_received, lies_at1, lies_at2}
use Rattle.session_state.specs.SubEffectLaws.{KeepsNumber, all_mapped, all_more, facts_replaced, facts_subscribed, facts_unsubscribed, holds_on, numbers_on}

-- ---- the order of issue

issued_more : (low1 low2 last1 last2 : ℕ) (bs : List Batch) (b : Batch) → low1 ≤ last1 + 1 → low2 ≤ last2 + 1 → b.first1 ≡ last1 + 1 → b.first2 ≡ last2 + 1 → nat_lt b.from b.to ≡ true →
    are_issued low1 low2 last1 last2 bs ≡ true → are_issued low1 low2 (last1 + b.count1) (last2 + b.count2) (bs ++ b ∷ []) ≡ true
issued_more low1 low2 last1 last2 [] b within1 within2 first1 first2 range up =
    and_from (nat_lt b.from b.to) ((nat_le low1 b.first1 && nat_le (b.first1 + b.count1) (last1 + b.count1 + 1)) && ((nat_le low2 b.first2 && nat_le (b.first2 + b.count2) (last2 + b.count2 + 1)) && true)) range
    (and_from (nat_le low1 b.first1 && nat_le (b.first1 + b.count1) (last1 + b.count1 + 1)) ((nat_le low2 b.first2 && nat_le (b.first2 + b.count2) (last2 + b.count2 + 1)) && true)
    (run low1 last1 b.first1 b.count1 within1 first1)
    (and_from (nat_le low2 b.first2 && nat_le (b.first2 + b.count2) (last2 + b.count2 + 1)) true (run low2 last2 b.first2 b.count2 within2 first2) refl))
  where
    le : (a c : ℕ) → a ≤ c → nat_le a c ≡ true
    le a c h = grind (arith, nat_tests)

    run : (low last first count : ℕ) → low ≤ last + 1 → first ≡ last + 1 → (nat_le low first && nat_le (first + count) (last + count + 1)) ≡ true
    run low last first count within is = and_from (nat_le low first) (nat_le (first + count) (last + count + 1)) (le low first (omega arith)) (le (first + count) (last + count + 1) (omega arith))
issued_more low1 low2 last1 last2 (x ∷ bs) b within1 within2 first1 first2 range up =
    let rest = are_issued (x.first1 + x.count1) (x.first2 + x.count2) last1 last2 bs in
    let to1 = nat_le (x.first1 + x.count1) (last1 + 1) in
    let to2 = nat_le (x.first2 + x.count2) (last2 + 1) in
    let p = and_parts (nat_lt x.from x.to) ((nat_le low1 x.first1 && to1) && ((nat_le low2 x.first2 && to2) && rest)) up in
    let q = and_parts (nat_le low1 x.first1 && to1) ((nat_le low2 x.first2 && to2) && rest) p.1 in
    let r = and_parts (nat_le low2 x.first2 && to2) rest q.1 in
    let one = and_parts (nat_le low1 x.first1) to1 q.0 in
    let two = and_parts (nat_le low2 x.first2) to2 r.0 in
    let more = are_issued (x.first1 + x.count1) (x.first2 + x.count2) (last1 + b.count1) (last2 + b.count2) (bs ++ b ∷ []) in
    let run1 = nat_le low1 x.first1 && nat_le (x.first1 + x.count1) (last1 + b.count1 + 1) in
    let run2 = nat_le low2 x.first2 && nat_le (x.first2 + x.count2) (last2 + b.count2 + 1) in
    and_from (nat_lt x.from x.to) (run1 && (run2 && more)) p.0
    (and_from run1 (run2 && more) (and_from (nat_le low1 x.first1) (nat_le (x.first1 + x.count1) (last1 + b.count1 + 1)) one.0 (later (x.first1 + x.count1) last1 b.count1 one.1))
    (and_from run2 more (and_from (nat_le low2 x.first2) (nat_le (x.first2 + x.count2) (last2 + b.count2 + 1)) two.0 (later (x.first2 + x.count2) last2 b.count2 two.1))
    (issued_more (x.first1 + x.count1) (x.first2 + x.count2) last1 last2 bs b (number (x.first1 + x.count1) last1 one.1) (number (x.first2 + x.count2) last2 two.1) first1 first2 range r.1)))
  where
    later : (a last count : ℕ) → nat_le a (last + 1) ≡ true → nat_le a (last + count + 1) ≡ true
    later a last count h = grind (arith, nat_tests)

    number : (a last : ℕ) → nat_le a (last + 1) ≡ true → a ≤ last + 1
    number a last h = grind (arith, nat_tests)

-- ---- its numbers

-- a number behind the last lies in no batch
none_past1 : (low1 low2 last1 last2 : ℕ) (bs : List Batch) (n : ℕ) → are_issued low1 low2 last1 last2 bs ≡ true → last1 < n → count_by (λ (b : Batch). has (numbers1_of b) n) bs ≡ 0
none_past1 low1 low2 last1 last2 [] n up past = refl
none_past1 low1 low2 last1 last2 (x ∷ bs) n up past =
    let rest = are_issued (x.first1 + x.count1) (x.first2 + x.count2) last1 last2 bs in
    let to1 = nat_le (x.first1 + x.count1) (last1 + 1) in
    let to2 = nat_le (x.first2 + x.count2) (last2 + 1) in
    let p = and_parts (nat_lt x.from x.to) ((nat_le low1 x.first1 && to1) && ((nat_le low2 x.first2 && to2) && rest)) up in
    let q = and_parts (nat_le low1 x.first1 && to1) ((nat_le low2 x.first2 && to2) && rest) p.1 in
    let r = and_parts (nat_le low2 x.first2 && to2) rest q.1 in
    sum_by-cons (λ (b : Batch). if has (numbers1_of b) n then 1 else 0) x bs
    ∙ ap (λ b. (if b then 1 else 0) + count_by (λ (b : Batch). has (numbers1_of b) n) bs)
    (has-from x.first1 x.count1 n ∙ past_run x.first1 x.count1 last1 n (and_parts (nat_le low1 x.first1) to1 q.0).1 past)
    ∙ ap (λ k. 0 + k) (none_past1 (x.first1 + x.count1) (x.first2 + x.count2) last1 last2 bs n r.1 past)
  where
    past_run : (first count last k : ℕ) → nat_le (first + count) (last + 1) ≡ true → last < k → (nat_le first k && nat_lt k (first + count)) ≡ false
    past_run first count last k h past = grind (arith, nat_tests)

none_past2 : (low1 low2 last1 last2 : ℕ) (bs : List Batch) (n : ℕ) → are_issued low1 low2 last1 last2 bs ≡ true → last2 < n → count_by (λ (b : Batch). has (numbers2_of b) n) bs ≡ 0
none_past2 low1 low2 last1 last2 [] n up past = refl
none_past2 low1 low2 last1 last2 (x ∷ bs) n up past =
    let rest = are_issued (x.first1 + x.count1) (x.first2 + x.count2) last1 last2 bs in
    let to1 = nat_le (x.first1 + x.count1) (last1 + 1) in
    let to2 = nat_le (x.first2 + x.count2) (last2 + 1) in
    let p = and_parts (nat_lt x.from x.to) ((nat_le low1 x.first1 && to1) && ((nat_le low2 x.first2 && to2) && rest)) up in
    let q = and_parts (nat_le low1 x.first1 && to1) ((nat_le low2 x.first2 && to2) && rest) p.1 in
    let r = and_parts (nat_le low2 x.first2 && to2) rest q.1 in
    sum_by-cons (λ (b : Batch). if has (numbers2_of b) n then 1 else 0) x bs
    ∙ ap (λ b. (if b then 1 else 0) + count_by (λ (b : Batch). has (numbers2_of b) n) bs)
    (has-from x.first2 x.count2 n ∙ past_run x.first2 x.count2 last2 n (and_parts (nat_le low2 x.first2) to2 r.0).1 past)
    ∙ ap (λ k. 0 + k) (none_past2 (x.first1 + x.count1) (x.first2 + x.count2) last1 last2 bs n r.1 past)
  where
    past_run : (first count last k : ℕ) → nat_le (first + count) (last + 1) ≡ true → last < k → (nat_le first k && nat_lt k (first + count)) ≡ false
    past_run first count last k h past = grind (arith, nat_tests)

one_more : (test : Batch → Bool) (bs : List Batch) (b : Batch) → count_by test (bs ++ b ∷ []) ≡ count_by test bs + (if test b then 1 else 0)
one_more test bs b = sum_by_push (λ (x : Batch). if test x then 1 else 0) bs b

-- a number that lay in one batch, or that is one of the new ones, lies in one of them all
still_one : (test : Batch → Bool) (bs : List Batch) (b : Batch) → (count_by test bs == 1) ≡ true → test b ≡ false → (count_by test (bs ++ b ∷ []) == 1) ≡ true
still_one test bs b one none =
    ap (λ k. k == 1) (one_more test bs b ∙ ap (λ c. count_by test bs + (if c then 1 else 0)) none ∙ no_more (count_by test bs)) ∙ one
  where
    no_more : (k : ℕ) → k + 0 ≡ k
    no_more k = omega arith

now_one : (test : Batch → Bool) (bs : List Batch) (b : Batch) → count_by test bs ≡ 0 → test b ≡ true → (count_by test (bs ++ b ∷ []) == 1) ≡ true
now_one test bs b none there = ap (λ k. k == 1) (one_more test bs b ∙ ap (λ k. k + (if test b then 1 else 0)) none ∙ ap (λ c. 0 + (if c then 1 else 0)) there)

before_run : (first count last n : ℕ) → first ≡ last + 1 → n ≤ last → (nat_le first n && nat_lt n (first + count)) ≡ false
before_run first count last n is within = grind (arith, nat_tests)

in_run : (first count last n : ℕ) → first ≡ last + 1 → last < n → n ≤ last + count → (nat_le first n && nat_lt n (first + count)) ≡ true
in_run first count last n is past within = grind (arith, nat_tests)

-- ---- its version

all_found : {X : Type 0} (p test : X → Bool) (xs : List X) (x : X) → list_all p xs ≡ true → find test xs ≡ Some x → p x ≡ true
all_found p test [] x all found = absurd (none-some x found)
all_found p test (y ∷ xs) x all found =
    let parts = and_parts (p y) (list_all p xs) all in
    by (test y) found parts.0 (all_found p test xs x parts.1)
  where
    by : (b : Bool) → (if b then Some y else find test xs) ≡ Some x → p y ≡ true → (find test xs ≡ Some x → p x ≡ true) → p x ≡ true
    by true found own rest = ap p (sym (same_Some y x found)) ∙ own
    by false found own rest = rest found

-- one of its own is one
any_own : (versions : List Version) (s : KeptSub) → holds_own versions s.version s ≡ true → holds_version versions s.version ≡ true
any_own [] s some = some
any_own (v ∷ versions) s some =
    by (or_cases ((v.number == s.version) && (v.subscription == s.number)) (holds_own versions s.version s) some) (any_own versions s)
  where
    by : (((v.number == s.version) && (v.subscription == s.number)) ≡ true) ⊎ (holds_own versions s.version s ≡ true) →
        (holds_own versions s.version s ≡ true → holds_version versions s.version ≡ true) → ((v.number == s.version) || holds_version versions s.version) ≡ true
    by (inl here) rest = or_left (v.number == s.version) (holds_version versions s.version) (and_parts (v.number == s.version) (v.subscription == s.number) here).0
    by (inr later) rest = or_right (v.number == s.version) (holds_version versions s.version) (rest later)

named_now : (m : KeptSession) (i : Issuing) → is_issuing i.batch (sub_numbered i.subscription m) ≡ true → HasFacts m → holds_version m.versions i.batch.version ≡ true
named_now m i fits f = by (sub_numbered i.subscription m) refl fits
  where
    by : (found : Option KeptSub) → sub_numbered i.subscription m ≡ found → is_issuing i.batch found ≡ true → holds_version m.versions i.batch.version ≡ true
    by None is fits = absurd (true≢false (sym fits))
    by (Some s) is fits =
        let p = and_parts s.live ((s.version == i.batch.version) && is_some (slice_get s.sweeps i.batch.shard)) fits in
        let q = and_parts (s.version == i.batch.version) (is_some (slice_get s.sweeps i.batch.shard)) p.1 in
        let held = all_found (λ (x : KeptSub). not x.live || holds_own m.versions x.version x) (λ (x : KeptSub). x.number == i.subscription) m.subs s f.present is in
        ap (holds_version m.versions) (sym (eqb-true s.version i.batch.version q.0)) ∙ any_own m.versions s (sym (ap (λ l. not l || holds_own m.versions s.version s) p.0) ∙ held)

-- ---- a batch is issued

abbrev moved : Issuing → KeptSub → KeptSub
moved i s = record s { sweeps = slice_set s.sweeps i.batch.shard i.sweep }

pub facts_issued : (m : KeptSession) (i : Issuing) → InOrder m.tracks → issues m i ≡ true → HasFacts m → HasFacts (issued_kept i m)
facts_issued m i order fits f =
    let b = i.batch in
    let t = m.tracks in
    let p = and_parts (is_issuing b (sub_numbered i.subscription m)) (nat_lt b.from b.to && goes_on t b) fits in
    let q = and_parts (nat_lt b.from b.to) (goes_on t b) p.1 in
    let r = and_parts (b.first1 == t.issued1 + 1) ((b.first2 == t.issued2 + 1) && has_room_for t b.count1 b.count2) q.1 in
    let first1 : b.first1 ≡ t.issued1 + 1 = eqb-true b.first1 (t.issued1 + 1) r.0 in
    let first2 : b.first2 ≡ t.issued2 + 1 = eqb-true b.first2 (t.issued2 + 1) (and_parts (b.first2 == t.issued2 + 1) (has_room_for t b.count1 b.count2) r.1).0 in
    let keeps : KeepsNumber (moved i) = record { number = λ s. refl } in
    record {
      subs = ap (rise 0 m.next_sub) (numbers_on i.subscription (moved i) keeps m.subs) ∙ f.subs;
      versions = f.versions;
      held =
          all_weaker (λ (v : Version). holds_sub m.subs v.subscription) (λ (v : Version). holds_sub (on_sub i.subscription (moved i) m.subs) v.subscription) m.versions
          (λ v held. holds_on i.subscription (moved i) keeps m.subs v.subscription ∙ held) f.held;
      present =
          all_mapped (λ (x : KeptSub). not x.live || holds_own m.versions x.version x) (λ (x : KeptSub). not x.live || holds_own m.versions x.version x)
          (λ (s : KeptSub). changed_if (s.number == i.subscription) (moved i) s) m.subs (λ s h. present s (s.number == i.subscription) h) f.present;
      named = all_more (λ (x : Batch). holds_version m.versions x.version) m.batches b f.named (named_now m i p.0 f);
      ended =
          all_mapped (λ (x : KeptSub). x.live || (length x.sweeps == 0)) (λ (x : KeptSub). x.live || (length x.sweeps == 0))
          (λ (s : KeptSub). changed_if (s.number == i.subscription) (moved i) s) m.subs (λ s h. rests s (s.number == i.subscription) h) f.ended;
      issued = issued_more 1 1 t.issued1 t.issued2 m.batches b (omega arith) (omega arith) first1 first2 q.0 f.issued;
      lies1 = each_from1 (issued_tracks b.count1 b.count2 t) (m.batches ++ b ∷ []) (λ n above within. one n (cases_lt t.issued1 n) first1 above within);
      lies2 = each_from2 (issued_tracks b.count1 b.count2 t) (m.batches ++ b ∷ []) (λ n above within not_done. two n (cases_lt t.issued2 n) first2 above within not_done);
    }
  where
    present : (s : KeptSub) (c : Bool) → (not s.live || holds_own m.versions s.version s) ≡ true →
        (not (changed_if c (moved i) s).live || holds_own m.versions (changed_if c (moved i) s).version (changed_if c (moved i) s)) ≡ true
    present s true h = h
    present s false h = h

    rests : (s : KeptSub) (c : Bool) → (s.live || (length s.sweeps == 0)) ≡ true → ((changed_if c (moved i) s).live || (length (changed_if c (moved i) s).sweeps == 0)) ≡ true
    rests s true h = ap (λ k. s.live || (k == 0)) (length-set s.sweeps i.batch.shard i.sweep) ∙ h
    rests s false h = h

    one : (n : ℕ) → (m.tracks.issued1 < n) ⊎ (n ≤ m.tracks.issued1) → i.batch.first1 ≡ m.tracks.issued1 + 1 → m.tracks.acked < n → n ≤ m.tracks.issued1 + i.batch.count1 →
        lies_in_one1 (m.batches ++ i.batch ∷ []) n ≡ true
    one n (inl past) first above within =
        now_one (λ (x : Batch). has (numbers1_of x) n) m.batches i.batch (none_past1 1 1 m.tracks.issued1 m.tracks.issued2 m.batches n f.issued past)
        (has-from i.batch.first1 i.batch.count1 n ∙ in_run i.batch.first1 i.batch.count1 m.tracks.issued1 n first past within)
    one n (inr old) first above within =
        still_one (λ (x : Batch). has (numbers1_of x) n) m.batches i.batch (lies_at1 m.tracks m.batches f.lies1 n above old)
        (has-from i.batch.first1 i.batch.count1 n ∙ before_run i.batch.first1 i.batch.count1 m.tracks.issued1 n first old)

    two : (n : ℕ) → (m.tracks.issued2 < n) ⊎ (n ≤ m.tracks.issued2) → i.batch.first2 ≡ m.tracks.issued2 + 1 → m.tracks.complete < n → n ≤ m.tracks.issued2 + i.batch.count2 →
        is_done m.tracks n ≡ false → lies_in_one2 (m.batches ++ i.batch ∷ []) n ≡ true
    two n (inl past) first above within not_done =
        now_one (λ (x : Batch). has (numbers2_of x) n) m.batches i.batch (none_past2 1 1 m.tracks.issued1 m.tracks.issued2 m.batches n f.issued past)
        (has-from i.batch.first2 i.batch.count2 n ∙ in_run i.batch.first2 i.batch.count2 m.tracks.issued2 n first past within)
    two n (inr old) first above within not_done =
        still_one (λ (x : Batch). has (numbers2_of x) n) m.batches i.batch (lies_at2 m.tracks m.batches f.lies2 n above old not_done)
        (has-from i.batch.first2 i.batch.count2 n ∙ before_run i.batch.first2 i.batch.count2 m.tracks.issued2 n first old)

-- ---- each change

pub facts_with : (m : KeptSession) (effect : Effect) → InOrder m.tracks → kept_suits m effect ≡ true → HasFacts m → HasFacts (with_effect effect m)
facts_with m (Began b) order suits f = f
facts_with m Ended order suits f = f
facts_with m (Bound expiry) order suits f =
    record { subs = f.subs; versions = f.versions; held = f.held; present = f.present; named = f.named; ended = f.ended; issued = f.issued; lies1 = f.lies1; lies2 = f.lies2 }
facts_with m (Parted p) order suits f =
    record { subs = f.subs; versions = f.versions; held = f.held; present = f.present; named = f.named; ended = f.ended; issued = f.issued; lies1 = f.lies1; lies2 = f.lies2 }
facts_with m (Subscribed s) order suits f = facts_subscribed m s suits f
facts_with m (Replaced r) order suits f = facts_replaced m r suits f
facts_with m (Unsubscribed number) order suits f = facts_unsubscribed m number f
facts_with m (Issued i) order suits f = facts_issued m i order suits f
facts_with m (Acked number) order suits f = let above : m.tracks.acked ≤ number = grind (arith, nat_tests) in facts_acked m number above f
facts_with m (Received number) order suits f = let above : m.tracks.received < number = grind (arith, nat_tests) in facts_received m number order above f
facts_with m (Done number) order suits f =
    let within = (and_parts (nat_le number m.tracks.received) (not (is_done m.tracks number)) suits).0 in
    let received : number ≤ m.tracks.received = grind (arith, nat_tests) in
    facts_completed m number order received f
facts_with m (Passed p) order suits f =
    facts_passed m p.track p.number order (and_parts ((p.track == 1) || (p.track == 2)) (is_between (mark_of m.tracks p.track) (last_of m.tracks p.track) p.number) suits).1 f

-- a change that fits keeps what holds of every session
pub facts_changed : (m : KeptSession) (effect : Effect) → InOrder m.tracks → kept_suits m effect ≡ true → has_facts m ≡ true → has_facts (kept_changed effect m) ≡ true
facts_changed m effect order suits is =
    test_from_facts (kept_changed effect m) (facts_tidied (with_effect effect m) (facts_with m effect order suits (facts_from_test m is)))
