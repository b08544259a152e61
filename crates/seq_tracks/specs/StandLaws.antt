-- Tracks that stand for those of a session go on to do so through each change that fits.
use Rattle.std.proofs.Common.{◌≡◌, ◌⊎◌, inl, inr, ℕ, ◌+◌, ◌-◌, ◌≤◌, ◌<◌, Bool, true, false, ◌||◌, ◌==◌, if◌then◌else◌, nat_le, List, [], ◌∷◌, ◌++◌, length, true≢false, Option, None, Some, refl, sym, ap, subst, ◌∙◌, arith}
use Rattle.std.proofs.lemmas.Bool.{cases_order, le-leb, or_left, false_from_ne_true}
use Rattle.std.proofs.lemmas.Bool.Decides.{nat_tests}
use Rattle.std.proofs.lemmas.List.{length-append}
use Rattle.std.proofs.lemmas.List.Folds.{list_any-append}
use Rattle.session_model.specs.declared.entry.Entry.{Entry}
use Rattle.session_model.specs.declared.entry.Version.{Version}
use Rattle.session_model.specs.Entry.{numbers1, numbers2}
use Rattle.session_model.specs.PlainSession.{PlainSession, Subscription, begun_session, complete_of}
use Rattle.session_model.specs.Change.{Effect, Began, Ended, Bound, Parted, Subscribed, Replaced, Unsubscribed, Issued, Acked, Received, Done, Passed, Issues, Passes}
use Rattle.session_model.specs.Acting.{numbers_from, changed_session}
use Rattle.session_model.specs.FitsSession.{suits}
use Rattle.session_model.specs.Orders.{HasNumbers}
use Rattle.session_model.specs.laws.OrderLaws.{acting_in_order}
use Rattle.session_model.specs.laws.DoneLaws.{complete_is_done, next_is_not}
use Rattle.session_model.specs.PlainSession.{has}
use Rattle.session_model.specs.laws.TrackLaws.{numbers1-append, numbers2-append}
use Rattle.seq_tracks.specs.PlainTracks.{PlainTracks, no_tracks, is_done}
use Rattle.seq_tracks.specs.Changed.{complete_with, those_between, with_done, acked_tracks}
use Rattle.seq_tracks.specs.StandFor.{TracksStandFor, changed_tracks}
use Rattle.seq_tracks.specs.RunLaws.{done_with, next_not_done}

-- ---- more numbers done

-- only one number is the greatest up to which all pass
greatest_once : (test : ℕ → Bool) (a b : ℕ) → ((n : ℕ) → 1 ≤ n → n ≤ a → test n ≡ true) → test (a + 1) ≡ false →
    ((n : ℕ) → 1 ≤ n → n ≤ b → test n ≡ true) → test (b + 1) ≡ false → a ≡ b
greatest_once test a b to_a next_a to_b next_b = by (cases_order a b)
  where
    by : (a ≡ b) ⊎ ((a < b) ⊎ (b < a)) → a ≡ b
    by (inl same) = same
    by (inr (inl less)) = absurd (true≢false (sym (to_b (a + 1) (omega arith) (omega arith)) ∙ next_a))
    by (inr (inr more)) = absurd (true≢false (sym (to_a (b + 1) (omega arith) (omega arith)) ∙ next_b))

abbrev more_done : PlainSession → ℕ → List ℕ → PlainSession
more_done m received more = record m { received = received; done = m.done ++ more }

stands_with_done : (t : PlainTracks) (m : PlainSession) (received : ℕ) (more : List ℕ) → TracksStandFor t m →
    HasNumbers (more_done m received more) → TracksStandFor (with_done received more t) (more_done m received more)
stands_with_done t m received more h numbers =
    record { issued1 = h.issued1; acked = h.acked; issued2 = h.issued2; received = refl; complete = same; done = alike }
  where
    told : (n : ℕ) → 0 < n → (is_done t n || has more n) ≡ has (m.done ++ more) n
    told n some = ap (λ b. b || has more n) (h.done n some) ∙ sym (list_any-append (λ (d : ℕ). d == n) m.done more)

    alike : (n : ℕ) → 0 < n → is_done (with_done received more t) n ≡ has (m.done ++ more) n
    alike n some =
        done_with t received more n
        (λ past. told n some ∙ false_from_ne_true (has (m.done ++ more) n) (λ is. let within = (numbers.done n is).1 in absurd (omega arith)))
        ∙ told n some

    same : complete_with t.complete (t.done ++ more) ≡ complete_of (more_done m received more)
    same =
        let complete = complete_with t.complete (t.done ++ more) in
        greatest_once (has (m.done ++ more)) complete (complete_of (more_done m received more))
        (λ n some within. sym (alike n some) ∙ or_left (nat_le n complete) (has (those_between complete received (t.done ++ more)) n) (le-leb n complete within))
        (sym (alike (complete + 1) (omega arith)) ∙ next_not_done t received more)
        (complete_is_done (more_done m received more)) (next_is_not (more_done m received more))

-- ---- each change

-- what changes neither numbers nor marks
stands_elsewhere : (t : PlainTracks) (m : PlainSession) (expiry : ℕ) (parted : Option ℕ) (subscriptions : List Subscription) (versions : List Version) →
    TracksStandFor t m → TracksStandFor t (record m { expiry = expiry; parted = parted; subscriptions = subscriptions; versions = versions })
stands_elsewhere t m expiry parted subscriptions versions h =
    record { issued1 = h.issued1; acked = h.acked; issued2 = h.issued2; received = h.received; complete = h.complete; done = h.done }

stands_acked : (t : PlainTracks) (m : PlainSession) (number : ℕ) → TracksStandFor t m → TracksStandFor (acked_tracks number t) (record m { acked = number })
stands_acked t m number h = record { issued1 = h.issued1; acked = refl; issued2 = h.issued2; received = h.received; complete = h.complete; done = h.done }

counts1-append : (es more : List Entry) → length (numbers1 (es ++ more)) ≡ length (numbers1 es) + length (numbers1 more)
counts1-append es more = ap length (numbers1-append es more) ∙ length-append (numbers1 es) (numbers1 more)

counts2-append : (es more : List Entry) → length (numbers2 (es ++ more)) ≡ length (numbers2 es) + length (numbers2 more)
counts2-append es more = ap length (numbers2-append es more) ∙ length-append (numbers2 es) (numbers2 more)

stands_issued : (t : PlainTracks) (m : PlainSession) (i : Issues) → TracksStandFor t m → TracksStandFor (changed_tracks (Issued i) t) (changed_session (Issued i) m)
stands_issued t m i h =
    record {
      issued1 = ap (λ n. n + length (numbers1 i.entries)) h.issued1 ∙ sym (counts1-append m.issued i.entries);
      acked = h.acked;
      issued2 = ap (λ n. n + length (numbers2 i.entries)) h.issued2 ∙ sym (counts2-append m.issued i.entries);
      received = h.received;
      complete = h.complete;
      done = h.done;
    }

stands_passed : (t : PlainTracks) (m : PlainSession) (p : Passes) → suits m (Passed p) ≡ true → HasNumbers m → TracksStandFor t m →
    TracksStandFor (changed_tracks (Passed p) t) (changed_session (Passed p) m)
stands_passed t m p fit numbers h = by (p.track == 1) (acting_in_order m (Passed p) fit numbers)
  where
    by : (b : Bool) → HasNumbers (if b then record m { acked = p.number } else more_done m p.number (numbers_from (m.received + 1) (p.number - m.received))) →
        TracksStandFor (if b then acked_tracks p.number t else with_done p.number (numbers_from (t.received + 1) (p.number - t.received)) t)
        (if b then record m { acked = p.number } else more_done m p.number (numbers_from (m.received + 1) (p.number - m.received)))
    by true after = stands_acked t m p.number h
    by false after =
        subst (λ r. TracksStandFor (with_done p.number (numbers_from (r + 1) (p.number - r)) t) (more_done m p.number (numbers_from (m.received + 1) (p.number - m.received))))
        (sym h.received)
        (stands_with_done t m p.number (numbers_from (m.received + 1) (p.number - m.received)) h after)

pub stands_changed : (t : PlainTracks) (m : PlainSession) (effect : Effect) → TracksStandFor t m → HasNumbers m → suits m effect ≡ true →
    TracksStandFor (changed_tracks effect t) (changed_session effect m)
stands_changed t m (Began b) h numbers fit = h
stands_changed t m Ended h numbers fit = h
stands_changed t m (Bound expiry) h numbers fit = stands_elsewhere t m expiry None m.subscriptions m.versions h
stands_changed t m (Parted p) h numbers fit = stands_elsewhere t m p.expiry (Some p.moment) m.subscriptions m.versions h
stands_changed t m (Subscribed s) h numbers fit =
    let after = changed_session (Subscribed s) m in stands_elsewhere t m m.expiry m.parted after.subscriptions after.versions h
stands_changed t m (Replaced r) h numbers fit =
    let after = changed_session (Replaced r) m in stands_elsewhere t m m.expiry m.parted after.subscriptions after.versions h
stands_changed t m (Unsubscribed number) h numbers fit =
    let after = changed_session (Unsubscribed number) m in stands_elsewhere t m m.expiry m.parted after.subscriptions after.versions h
stands_changed t m (Issued i) h numbers fit = stands_issued t m i h
stands_changed t m (Acked number) h numbers fit = stands_acked t m number h
stands_changed t m (Received number) h numbers fit =
    subst (λ r. TracksStandFor (with_done number (numbers_from (r + 1) (number - (r + 1))) t) (changed_session (Received number) m)) (sym h.received)
    (stands_with_done t m number (numbers_from (m.received + 1) (number - (m.received + 1))) h (acting_in_order m (Received number) fit numbers))
stands_changed t m (Done number) h numbers fit =
    subst (λ r. TracksStandFor (with_done r (number ∷ []) t) (changed_session (Done number) m)) (sym h.received)
    (stands_with_done t m m.received (number ∷ []) h (acting_in_order m (Done number) fit numbers))
stands_changed t m (Passed p) h numbers fit = stands_passed t m p fit numbers h

pub stands_begun : (client : List ℕ) (incarnation expiry window : ℕ) → TracksStandFor no_tracks (begun_session client incarnation expiry window)
stands_begun client incarnation expiry window =
    record { issued1 = refl; acked = refl; issued2 = refl; received = refl; complete = refl; done = λ n some. none n some }
  where
    none : (n : ℕ) → 0 < n → is_done no_tracks n ≡ false
    none n some = grind (arith, nat_tests)
