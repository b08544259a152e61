-- What the changes that add something need: room for a subscription, and for the numbers of a batch.
use Rattle.std.proofs.Common.{◌≡◌, ℕ, ◌+◌, Bool, true, false, ◌&&◌, ◌||◌, ◌==◌, if◌then◌else◌, nat_le, nat_lt, List, [], ◌∷◌, ◌++◌, length, map, filter, is_none, slice_set, refl, ap, ◌∙◌, arith, length-append}
use Rattle.std.specs.List.{list_any}
use Rattle.std.proofs.lemmas.Bool.{and_parts, and_from, or_left}
use Rattle.std.proofs.lemmas.Bool.Decides.{nat_tests}
use Rattle.std.proofs.Math.Bool.{and-true}
use Rattle.std.proofs.lemmas.List.Elements.{filter-append}
use Rattle.std.proofs.lemmas.List.Folds.{list_any-append, list_all-append}
use Rattle.std.proofs.lemmas.List.Sums.{sum_by_push}
use Rattle.topic_model.specs.Profile.{whole}
use Rattle.topic_model.specs.Levels.{text_of_levels}
use Rattle.topic_model.specs.Texts.{filter_refusal}
use Rattle.session_model.specs.Change.{Subscribes}
use Rattle.session_model.specs.Acting.{changed_if}
use Rattle.session_model.specs.declared.entry.Version.{Version}
use Rattle.seq_tracks.specs.PlainTracks.{PlainTracks, in_use}
use Rattle.seq_tracks.specs.InOrder.{InOrder}
use Rattle.seq_tracks.specs.Changed.{issued_tracks}
use Rattle.session_state.specs.declared.batch.Batch.{Batch}
use Rattle.session_state.specs.declared.change.Effect.TheVariants.{Subscribed, Issued}
use Rattle.session_state.specs.declared.change.Issued.{Issued as Issuing}
use Rattle.session_state.specs.KeptSub.{KeptSub}
use Rattle.session_state.specs.KeptSession.{KeptSession}
use Rattle.session_state.specs.KeptActing.{has_version, is_named, is_present, issued_kept, kept_batches, kept_changed, kept_subs, kept_versions, new_sub, subscribed_kept, version_of}
use Rattle.session_state.specs.KeptFits.{has_filters, is_window, kept_within, live_count, subs_within, text_bytes}
use Rattle.session_state.specs.Sound.{IsTidy, IsSound}
use Rattle.session_state.specs.FilterLaws.{kept_by_more, kept_cons}
use Rattle.session_state.specs.TidyLaws.{tidy_stays}
use Rattle.session_state.specs.LimitLaws.{Shrinks, shrinks_filter, shrinks_on_sub, shrinks_then, subs_within_less}

-- ---- a new subscription

-- a test that some pass passes some of more
pub any_more : {X : Type 0} (test : X → Bool) (xs ys : List X) → list_any test xs ≡ true → list_any test (xs ++ ys) ≡ true
any_more test xs ys some = list_any-append test xs ys ∙ or_left (list_any test xs) (list_any test ys) some

or_more : (a b c : Bool) → (a ≡ true → b ≡ true) → (a || c) ≡ true → (b || c) ≡ true
or_more true b c more h = or_left b c (more refl)
or_more false true c more h = refl
or_more false false c more h = h

or_more_right : (a b c : Bool) → (b ≡ true → c ≡ true) → (a || b) ≡ true → (a || c) ≡ true
or_more_right true b c more h = refl
or_more_right false b c more h = more h

pub last_any : {X : Type 0} (test : X → Bool) (xs : List X) (x : X) → test x ≡ true → list_any test (xs ++ x ∷ []) ≡ true
last_any test [] x is = or_left (test x) false is
last_any test (y ∷ xs) x is = or_one (test y) (list_any test (xs ++ x ∷ [])) (last_any test xs x is)
  where
    or_one : (a b : Bool) → b ≡ true → (a || b) ≡ true
    or_one true b h = refl
    or_one false b h = h

pub same_number : (n : ℕ) → (n == n) ≡ true
same_number n = grind (arith, nat_tests)

-- all that was needed still is, and the new ones are
pub subscribed_is_tidy : (s : Subscribes) (m : KeptSession) → IsTidy m → IsTidy (subscribed_kept s m)
subscribed_is_tidy s m tidy =
    let subs = m.subs ++ new_sub s ∷ [] in
    let versions = m.versions ++ version_of s ∷ [] in
    let needed : Version → Bool = λ v. is_present subs v || is_named m.batches v in
    let wanted : KeptSub → Bool = λ x. x.live || has_version versions x in
    record {
      batches = tidy.batches;
      versions =
          filter-append needed m.versions (version_of s ∷ [])
          ∙ ap (λ l. l ++ filter needed (version_of s ∷ []))
          (kept_by_more (λ (v : Version). is_present m.subs v || is_named m.batches v) needed m.versions
          (λ v passes. or_more (is_present m.subs v) (is_present subs v) (is_named m.batches v)
          (any_more (λ (x : KeptSub). x.live && (x.version == v.number)) m.subs (new_sub s ∷ [])) passes)
          tidy.versions)
          ∙ ap (λ b. m.versions ++ (if b then version_of s ∷ [] else []))
          (or_left (is_present subs (version_of s)) (is_named m.batches (version_of s))
          (last_any (λ (x : KeptSub). x.live && (x.version == s.version)) m.subs (new_sub s) (same_number s.version)));
      subs =
          filter-append wanted m.subs (new_sub s ∷ [])
          ∙ ap (λ l. l ++ new_sub s ∷ [])
          (kept_by_more (λ (x : KeptSub). x.live || has_version m.versions x) wanted m.subs
          (λ x passes. or_more_right x.live (has_version m.versions x) (has_version versions x)
          (any_more (λ (v : Version). v.subscription == x.number) m.versions (version_of s ∷ [])) passes)
          tidy.subs);
    }

pub subscribed_stays : (s : Subscribes) (m : KeptSession) → IsTidy m → kept_changed (Subscribed s) m ≡ subscribed_kept s m
subscribed_stays s m tidy = tidy_stays (subscribed_kept s m) (subscribed_is_tidy s m tidy)

live_one_more : (s : Subscribes) (subs : List KeptSub) → live_count (subs ++ new_sub s ∷ []) ≡ live_count subs + 1
live_one_more s subs =
    ap length (filter-append (λ (x : KeptSub). x.live) subs (new_sub s ∷ [])) ∙ length-append (filter (λ (x : KeptSub). x.live) subs) (new_sub s ∷ [])

-- one more live subscription, and its text beside those that are kept
pub subscribed_within : (s : Subscribes) (m : KeptSession) → IsSound m → is_none (filter_refusal (text_of_levels s.filter)) ≡ true →
    kept_within whole (kept_changed (Subscribed s) m)
    ≡ (nat_lt (live_count m.subs) 64 && nat_le (text_bytes m.subs + length (text_of_levels s.filter)) 65536)
subscribed_within s m sound is_filter =
    let subs = m.subs ++ new_sub s ∷ [] in
    let parts = and_parts (nat_le (length m.client) 256) (is_window whole m.window && (subs_within whole m.subs && nat_le (in_use m.tracks) m.window)) sound.within in
    let more = and_parts (is_window whole m.window) (subs_within whole m.subs && nat_le (in_use m.tracks) m.window) parts.1 in
    let last = and_parts (subs_within whole m.subs) (nat_le (in_use m.tracks) m.window) more.1 in
    let of_subs = and_parts (nat_le (live_count m.subs) 64) (has_filters m.subs && nat_le (text_bytes m.subs) 65536) last.0 in
    let filters = and_parts (has_filters m.subs) (nat_le (text_bytes m.subs) 65536) of_subs.1 in
    let all_filters : has_filters subs ≡ true =
    list_all-append (λ (x : KeptSub). is_none (filter_refusal (text_of_levels x.filter))) m.subs (new_sub s ∷ [])
    ∙ and_from (has_filters m.subs) (is_none (filter_refusal (text_of_levels s.filter)) && true) filters.0 (and_from (is_none (filter_refusal (text_of_levels s.filter))) true is_filter refl) in
    ap (kept_within whole) (subscribed_stays s m sound.tidy)
    ∙ ap (λ a. a && (is_window whole m.window && (subs_within whole subs && nat_le (in_use m.tracks) m.window))) parts.0
    ∙ ap (λ a. a && (subs_within whole subs && nat_le (in_use m.tracks) m.window)) more.0
    ∙ ap (λ a. subs_within whole subs && a) last.1
    ∙ and-true (subs_within whole subs)
    ∙ ap (λ a. nat_le (live_count subs) 64 && (a && nat_le (text_bytes subs) 65536)) all_filters
    ∙ ap (λ n. nat_le n 64 && nat_le (text_bytes subs) 65536) (live_one_more s m.subs)
    ∙ ap (λ n. nat_le (live_count m.subs + 1) 64 && nat_le n 65536) (sum_by_push (λ (x : KeptSub). length (text_of_levels x.filter)) m.subs (new_sub s))
    ∙ ap (λ b. b && nat_le (text_bytes m.subs + length (text_of_levels s.filter)) 65536) (less (live_count m.subs))
  where
    less : (n : ℕ) → nat_le (n + 1) 64 ≡ nat_lt n 64
    less n = grind (arith, nat_tests)

-- ---- a batch

pub used_issued : (t : PlainTracks) (count1 count2 : ℕ) → InOrder t → in_use (issued_tracks count1 count2 t) ≡ in_use t + (count1 + count2)
used_issued t count1 count2 order =
    let acked = order.acked in
    let complete = order.complete in
    let received = order.received in
    omega arith

abbrev with_sweep : Issuing → KeptSub → KeptSub
with_sweep i s = record s { sweeps = slice_set s.sweeps i.batch.shard i.sweep }

-- the window has room for its numbers
pub issued_within : (i : Issuing) (m : KeptSession) → IsSound m → InOrder m.tracks →
    kept_within whole (kept_changed (Issued i) m) ≡ nat_le (in_use m.tracks + (i.batch.count1 + i.batch.count2)) m.window
issued_within i m sound order =
    let n = issued_kept i m in
    let versions = kept_versions n.subs (kept_batches n.tracks n.batches) n.versions in
    let subs = kept_subs versions n.subs in
    let parts = and_parts (nat_le (length m.client) 256) (is_window whole m.window && (subs_within whole m.subs && nat_le (in_use m.tracks) m.window)) sound.within in
    let more = and_parts (is_window whole m.window) (subs_within whole m.subs && nat_le (in_use m.tracks) m.window) parts.1 in
    let last = and_parts (subs_within whole m.subs) (nat_le (in_use m.tracks) m.window) more.1 in
    let moved : Shrinks m.subs n.subs = shrinks_on_sub i.subscription (with_sweep i) (record { live = λ s h. h; filter = λ s. refl }) m.subs in
    let fewer : Shrinks n.subs subs = shrinks_filter (λ (s : KeptSub). s.live || has_version versions s) n.subs in
    let within : subs_within whole subs ≡ true = subs_within_less m.subs subs (shrinks_then m.subs n.subs subs moved fewer) last.0 in
    ap (λ a. a && (is_window whole m.window && (subs_within whole subs && nat_le (in_use n.tracks) m.window))) parts.0
    ∙ ap (λ a. a && (subs_within whole subs && nat_le (in_use n.tracks) m.window)) more.0
    ∙ ap (λ a. a && nat_le (in_use n.tracks) m.window) within
    ∙ ap (λ u. nat_le u m.window) (used_issued m.tracks i.batch.count1 i.batch.count2 order)

-- ---- what is needed when a batch is issued

pub any_mapped : {X : Type 0} (test : X → Bool) (f : X → X) (xs : List X) → ((x : X) → test (f x) ≡ test x) → list_any test (map f xs) ≡ list_any test xs
any_mapped test f [] same = refl
any_mapped test f (x ∷ xs) same = ap (λ b. b || list_any test (map f xs)) (same x) ∙ ap (λ b. test x || b) (any_mapped test f xs same)

kept_mapped : {X : Type 0} (test : X → Bool) (f : X → X) (xs : List X) → ((x : X) → test (f x) ≡ test x) → filter test xs ≡ xs → filter test (map f xs) ≡ map f xs
kept_mapped test f [] same kept = refl
kept_mapped test f (x ∷ xs) same kept =
    let parts = kept_cons test x xs kept in
    ap (λ b. if b then f x ∷ filter test (map f xs) else filter test (map f xs)) (same x ∙ parts.0) ∙ ap (λ l. f x ∷ l) (kept_mapped test f xs same parts.1)

-- a sweep tells neither whether a subscription is live, nor its numbers
abbrev moved_if : Issuing → KeptSub → KeptSub
moved_if i s = changed_if (s.number == i.subscription) (with_sweep i) s

same_live : (i : Issuing) (s : KeptSub) → (moved_if i s).live ≡ s.live
same_live i s = by (s.number == i.subscription)
  where
    by : (b : Bool) → (changed_if b (with_sweep i) s).live ≡ s.live
    by true = refl
    by false = refl

same_version : (i : Issuing) (s : KeptSub) → (moved_if i s).version ≡ s.version
same_version i s = by (s.number == i.subscription)
  where
    by : (b : Bool) → (changed_if b (with_sweep i) s).version ≡ s.version
    by true = refl
    by false = refl

same_sub : (i : Issuing) (s : KeptSub) → (moved_if i s).number ≡ s.number
same_sub i s = by (s.number == i.subscription)
  where
    by : (b : Bool) → (changed_if b (with_sweep i) s).number ≡ s.number
    by true = refl
    by false = refl

pub issued_needs_versions : (i : Issuing) (m : KeptSession) → IsTidy m →
    kept_versions (issued_kept i m).subs (issued_kept i m).batches m.versions ≡ m.versions
issued_needs_versions i m tidy =
    kept_by_more (λ (v : Version). is_present m.subs v || is_named m.batches v) (λ (v : Version). is_present (issued_kept i m).subs v || is_named (m.batches ++ i.batch ∷ []) v)
    m.versions (λ v passes. more v passes) tidy.versions
  where
    present : (v : Version) → is_present (issued_kept i m).subs v ≡ is_present m.subs v
    present v =
        any_mapped (λ (s : KeptSub). s.live && (s.version == v.number)) (moved_if i) m.subs
        (λ s. ap (λ l. l && ((moved_if i s).version == v.number)) (same_live i s) ∙ ap (λ n. s.live && (n == v.number)) (same_version i s))

    more : (v : Version) → (is_present m.subs v || is_named m.batches v) ≡ true → (is_present (issued_kept i m).subs v || is_named (m.batches ++ i.batch ∷ []) v) ≡ true
    more v passes =
        ap (λ b. b || is_named (m.batches ++ i.batch ∷ []) v) (present v)
        ∙ or_more_right (is_present m.subs v) (is_named m.batches v) (is_named (m.batches ++ i.batch ∷ []) v)
        (any_more (λ (b : Batch). b.version == v.number) m.batches (i.batch ∷ [])) passes

pub issued_needs_subs : (i : Issuing) (m : KeptSession) → IsTidy m → kept_subs m.versions (issued_kept i m).subs ≡ (issued_kept i m).subs
issued_needs_subs i m tidy =
    kept_mapped (λ (s : KeptSub). s.live || has_version m.versions s) (moved_if i) m.subs
    (λ s. ap (λ l. l || has_version m.versions (moved_if i s)) (same_live i s) ∙ ap (λ n. s.live || list_any (λ (v : Version). v.subscription == n) m.versions) (same_sub i s))
    tidy.subs
