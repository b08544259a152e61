-- A change that adds nothing leaves a session within its limits.
use Rattle.std.proofs.Common.{◌≡◌, ℕ, ◌+◌, ◌-◌, ◌≤◌, Bool, true, false, ◌&&◌, ◌||◌, ◌==◌, if◌then◌else◌, nat_le, List, [], ◌∷◌, ◌++◌, length, map, filter, is_none, refl, sym, ap, subst, ◌∙◌, true≢false, arith}
use Rattle.std.specs.List.{list_all}
use Rattle.std.proofs.lemmas.Bool.{and_parts, and_from}
use Rattle.std.proofs.lemmas.Bool.Decides.{nat_tests}
use Rattle.std.proofs.lemmas.List.Sums.{sum_by-cons}
use Rattle.topic_model.specs.Profile.{whole}
use Rattle.topic_model.specs.Levels.{text_of_levels}
use Rattle.topic_model.specs.Texts.{filter_refusal}
use Rattle.session_model.specs.Acting.{changed_if, numbers_from}
use Rattle.session_model.specs.FitsSession.{is_between}
use Rattle.seq_tracks.specs.PlainTracks.{PlainTracks, in_use, mark_of, last_of}
use Rattle.seq_tracks.specs.Changed.{acked_tracks, passed_tracks, complete_with, with_done}
use Rattle.session_model.specs.Change.{Subscribes}
use Rattle.session_state.specs.declared.change.Effect.{Effect}
use Rattle.session_state.specs.declared.change.Issued.{Issued as Issuing}
use Rattle.session_state.specs.declared.change.Effect.TheVariants.{Began, Ended, Bound, Parted, Subscribed, Replaced, Unsubscribed, Issued, Acked, Received, Done, Passed}
use Rattle.session_state.specs.KeptSub.{KeptSub}
use Rattle.session_state.specs.KeptSession.{KeptSession}
use Rattle.session_state.specs.KeptActing.{kept_changed, kept_subs, kept_versions, kept_batches, on_sub, tidied, with_effect}
use Rattle.session_state.specs.KeptFits.{has_filters, is_window, kept_suits, kept_within, live_count, subs_within, text_bytes}

-- ---- subscriptions

-- no more are live, no other filters, and no more bytes of texts
pub record Shrinks (old new : List KeptSub) : Type 0 where
  pub live : live_count new ≤ live_count old
  pub filters : has_filters old ≡ true → has_filters new ≡ true
  pub bytes : text_bytes new ≤ text_bytes old

pub shrinks_then : (a b c : List KeptSub) → Shrinks a b → Shrinks b c → Shrinks a c
shrinks_then a b c first more =
    let live1 = first.live in
    let live2 = more.live in
    let bytes1 = first.bytes in
    let bytes2 = more.bytes in
    record { live = omega arith; filters = λ h. more.filters (first.filters h); bytes = omega arith }

abbrev is_filter : KeptSub → Bool
is_filter s = is_none (filter_refusal (text_of_levels s.filter))

abbrev bytes_of : KeptSub → ℕ
bytes_of s = length (text_of_levels s.filter)

-- of some of them
live_fewer : (keeps : KeptSub → Bool) (subs : List KeptSub) → live_count (filter keeps subs) ≤ live_count subs
live_fewer keeps [] = omega arith
live_fewer keeps (s ∷ subs) = by (keeps s) s.live refl (live_fewer keeps subs)
  where
    by : (k l : Bool) → s.live ≡ l → live_count (filter keeps subs) ≤ live_count subs →
        live_count (if k then s ∷ filter keeps subs else filter keeps subs) ≤ length (if s.live then s ∷ filter (λ (x : KeptSub). x.live) subs else filter (λ (x : KeptSub). x.live) subs)
    by true true is rest =
        subst
        (λ b. length (if b then s ∷ filter (λ (x : KeptSub). x.live) (filter keeps subs) else filter (λ (x : KeptSub). x.live) (filter keeps subs))
        ≤ length (if b then s ∷ filter (λ (x : KeptSub). x.live) subs else filter (λ (x : KeptSub). x.live) subs))
        (sym is) (omega arith)
    by true false is rest =
        subst
        (λ b. length (if b then s ∷ filter (λ (x : KeptSub). x.live) (filter keeps subs) else filter (λ (x : KeptSub). x.live) (filter keeps subs))
        ≤ length (if b then s ∷ filter (λ (x : KeptSub). x.live) subs else filter (λ (x : KeptSub). x.live) subs))
        (sym is) rest
    by false true is rest =
        subst (λ b. live_count (filter keeps subs) ≤ length (if b then s ∷ filter (λ (x : KeptSub). x.live) subs else filter (λ (x : KeptSub). x.live) subs)) (sym is) (omega arith)
    by false false is rest =
        subst (λ b. live_count (filter keeps subs) ≤ length (if b then s ∷ filter (λ (x : KeptSub). x.live) subs else filter (λ (x : KeptSub). x.live) subs)) (sym is) rest

all_of_fewer : (test keeps : KeptSub → Bool) (subs : List KeptSub) → list_all test subs ≡ true → list_all test (filter keeps subs) ≡ true
all_of_fewer test keeps [] all = refl
all_of_fewer test keeps (s ∷ subs) all =
    let parts = and_parts (test s) (list_all test subs) all in
    by (keeps s) parts.0 (all_of_fewer test keeps subs parts.1)
  where
    by : (k : Bool) → test s ≡ true → list_all test (filter keeps subs) ≡ true → list_all test (if k then s ∷ filter keeps subs else filter keeps subs) ≡ true
    by true passes rest = and_from (test s) (list_all test (filter keeps subs)) passes rest
    by false passes rest = rest

bytes_fewer : (keeps : KeptSub → Bool) (subs : List KeptSub) → text_bytes (filter keeps subs) ≤ text_bytes subs
bytes_fewer keeps [] = omega arith
bytes_fewer keeps (s ∷ subs) =
    let all = sum_by-cons bytes_of s subs in
    let kept = by (keeps s) (bytes_fewer keeps subs) in
    omega arith
  where
    by : (k : Bool) → text_bytes (filter keeps subs) ≤ text_bytes subs → text_bytes (if k then s ∷ filter keeps subs else filter keeps subs) ≤ bytes_of s + text_bytes subs
    by true rest = let one = sum_by-cons bytes_of s (filter keeps subs) in omega arith
    by false rest = omega arith

pub shrinks_filter : (keeps : KeptSub → Bool) (subs : List KeptSub) → Shrinks subs (filter keeps subs)
shrinks_filter keeps subs = record { live = live_fewer keeps subs; filters = all_of_fewer is_filter keeps subs; bytes = bytes_fewer keeps subs }

-- each of which stays the same filter, or ends
pub record Ends (f : KeptSub → KeptSub) : Type 0 where
  pub live : (s : KeptSub) → (f s).live ≡ true → s.live ≡ true
  pub filter : (s : KeptSub) → (f s).filter ≡ s.filter

ends_if : (number : ℕ) (f : KeptSub → KeptSub) → Ends f → Ends (λ (s : KeptSub). changed_if (s.number == number) f s)
ends_if number f ends = record { live = λ s. live s (s.number == number); filter = λ s. same s (s.number == number) }
  where
    live : (s : KeptSub) (b : Bool) → (changed_if b f s).live ≡ true → s.live ≡ true
    live s true h = ends.live s h
    live s false h = h

    same : (s : KeptSub) (b : Bool) → (changed_if b f s).filter ≡ s.filter
    same s true = ends.filter s
    same s false = refl

live_mapped : (f : KeptSub → KeptSub) → Ends f → (subs : List KeptSub) → live_count (map f subs) ≤ live_count subs
live_mapped f ends [] = omega arith
live_mapped f ends (s ∷ subs) = by (f s).live s.live refl refl (live_mapped f ends subs)
  where
    by : (new old : Bool) → (f s).live ≡ new → s.live ≡ old → live_count (map f subs) ≤ live_count subs →
        length (if new then f s ∷ filter (λ (x : KeptSub). x.live) (map f subs) else filter (λ (x : KeptSub). x.live) (map f subs))
        ≤ length (if old then s ∷ filter (λ (x : KeptSub). x.live) subs else filter (λ (x : KeptSub). x.live) subs)
    by true true is_new is_old rest = omega arith
    by false true is_new is_old rest = omega arith
    by false false is_new is_old rest = rest
    by true false is_new is_old rest = absurd (true≢false (sym (ends.live s is_new) ∙ is_old))

filters_mapped : (f : KeptSub → KeptSub) → Ends f → (subs : List KeptSub) → has_filters (map f subs) ≡ has_filters subs
filters_mapped f ends [] = refl
filters_mapped f ends (s ∷ subs) =
    ap (λ x. is_none (filter_refusal (text_of_levels x)) && has_filters (map f subs)) (ends.filter s) ∙ ap (λ b. is_filter s && b) (filters_mapped f ends subs)

bytes_mapped : (f : KeptSub → KeptSub) → Ends f → (subs : List KeptSub) → text_bytes (map f subs) ≡ text_bytes subs
bytes_mapped f ends [] = refl
bytes_mapped f ends (s ∷ subs) =
    sum_by-cons bytes_of (f s) (map f subs)
    ∙ ap (λ x. length (text_of_levels x) + text_bytes (map f subs)) (ends.filter s)
    ∙ ap (λ n. bytes_of s + n) (bytes_mapped f ends subs)
    ∙ sym (sum_by-cons bytes_of s subs)

pub shrinks_on_sub : (number : ℕ) (f : KeptSub → KeptSub) → Ends f → (subs : List KeptSub) → Shrinks subs (on_sub number f subs)
shrinks_on_sub number f ends subs =
    let g : KeptSub → KeptSub = λ s. changed_if (s.number == number) f s in
    let ends_g : Ends g = ends_if number f ends in
    let bytes : text_bytes (map g subs) ≡ text_bytes subs = bytes_mapped g ends_g subs in
    record { live = live_mapped g ends_g subs; filters = λ h. filters_mapped g ends_g subs ∙ h; bytes = omega arith }

pub subs_within_less : (old new : List KeptSub) → Shrinks old new → subs_within whole old ≡ true → subs_within whole new ≡ true
subs_within_less old new shrinks within =
    let parts = and_parts (nat_le (live_count old) 64) (has_filters old && nat_le (text_bytes old) 65536) within in
    let more = and_parts (has_filters old) (nat_le (text_bytes old) 65536) parts.1 in
    let live1 = parts.0 in
    let bytes1 = more.1 in
    let live2 = shrinks.live in
    let bytes2 = shrinks.bytes in
    let live : nat_le (live_count new) 64 ≡ true = grind (arith, nat_tests) in
    let bytes : nat_le (text_bytes new) 65536 ≡ true = grind (arith, nat_tests) in
    and_from (nat_le (live_count new) 64) (has_filters new && nat_le (text_bytes new) 65536) live
    (and_from (has_filters new) (nat_le (text_bytes new) 65536) (shrinks.filters more.0) bytes)

-- ---- a session

pub within_less : (m : KeptSession) (subs : List KeptSub) (tracks : PlainTracks) → Shrinks m.subs subs → in_use tracks ≤ in_use m.tracks → kept_within whole m ≡ true →
    kept_within whole (record m { subs = subs; tracks = tracks }) ≡ true
within_less m subs tracks shrinks less within =
    let parts = and_parts (nat_le (length m.client) 256) (is_window whole m.window && (subs_within whole m.subs && nat_le (in_use m.tracks) m.window)) within in
    let more = and_parts (is_window whole m.window) (subs_within whole m.subs && nat_le (in_use m.tracks) m.window) parts.1 in
    let last = and_parts (subs_within whole m.subs) (nat_le (in_use m.tracks) m.window) more.1 in
    let used1 = last.1 in
    let used : nat_le (in_use tracks) m.window ≡ true = grind (arith, nat_tests) in
    and_from (nat_le (length m.client) 256) (is_window whole m.window && (subs_within whole subs && nat_le (in_use tracks) m.window)) parts.0
    (and_from (is_window whole m.window) (subs_within whole subs && nat_le (in_use tracks) m.window) more.0
    (and_from (subs_within whole subs) (nat_le (in_use tracks) m.window) (subs_within_less m.subs subs shrinks last.0) used))

-- tidied, with other subscriptions and tracks, and whatever else
tidied_within : (m n : KeptSession) → n.client ≡ m.client → n.window ≡ m.window → Shrinks m.subs n.subs → in_use n.tracks ≤ in_use m.tracks →
    kept_within whole m ≡ true → kept_within whole (tidied n) ≡ true
tidied_within m n client window shrinks less within =
    let batches = kept_batches n.tracks n.batches in
    let versions = kept_versions n.subs batches n.versions in
    let subs = kept_subs versions n.subs in
    let fewer : Shrinks n.subs subs = shrinks_filter _ n.subs in
    let all = within_less m subs n.tracks (shrinks_then m.subs n.subs subs shrinks fewer) less within in
    ap (λ c. nat_le (length c) 256 && (is_window whole n.window && (subs_within whole subs && nat_le (in_use n.tracks) n.window))) client
    ∙ ap (λ w. nat_le (length m.client) 256 && (is_window whole w && (subs_within whole subs && nat_le (in_use n.tracks) w))) window
    ∙ all

-- ---- tracks

-- `complete` never goes back
used_with_done : (t : PlainTracks) (received : ℕ) (more : List ℕ) → in_use (with_done received more t) ≤ in_use t
used_with_done t received more =
    let further : t.complete ≤ complete_with t.complete (t.done ++ more) = omega arith in
    omega arith

used_acked : (t : PlainTracks) (number : ℕ) → t.acked ≤ number → in_use (acked_tracks number t) ≤ in_use t
used_acked t number h = omega arith

used_passed : (t : PlainTracks) (track number : ℕ) → is_between (mark_of t track) (last_of t track) number ≡ true → in_use (passed_tracks track number t) ≤ in_use t
used_passed t track number fits = by (track == 1) fits
  where
    by : (one : Bool) → is_between (if one then t.acked else t.received) (if one then t.issued1 else t.issued2) number ≡ true →
        in_use (if one then acked_tracks number t else with_done number (numbers_from (t.received + 1) (number - t.received)) t) ≤ in_use t
    by true fits = let above : t.acked ≤ number = grind (arith, nat_tests) in used_acked t number above
    by false fits = used_with_done t number (numbers_from (t.received + 1) (number - t.received))

-- ---- the changes that add nothing

abbrev pub adds : Effect → Bool
adds (Subscribed s) = true
adds (Issued i) = true
adds other = false

same_subs : (subs : List KeptSub) → Shrinks subs subs
same_subs subs = record { live = omega arith; filters = λ h. h; bytes = omega arith }

pub stays_within : (m : KeptSession) (effect : Effect) → adds effect ≡ false → kept_suits m effect ≡ true → kept_within whole m ≡ true →
    kept_within whole (kept_changed effect m) ≡ true
stays_within m (Began b) none suits within = absurd (true≢false (sym suits))
stays_within m Ended none suits within = tidied_within m m refl refl (same_subs m.subs) (omega arith) within
stays_within m (Bound expiry) none suits within = tidied_within m (with_effect (Bound expiry) m) refl refl (same_subs m.subs) (omega arith) within
stays_within m (Parted p) none suits within = tidied_within m (with_effect (Parted p) m) refl refl (same_subs m.subs) (omega arith) within
stays_within m (Subscribed s) none suits within = absurd (true≢false none)
stays_within m (Replaced r) none suits within =
    let f : KeptSub → KeptSub = λ s. record s { version = r.version } in
    tidied_within m (with_effect (Replaced r) m) refl refl (shrinks_on_sub r.subscription f (record { live = λ s h. h; filter = λ s. refl }) m.subs) (omega arith) within
stays_within m (Unsubscribed number) none suits within =
    let f : KeptSub → KeptSub = λ s. record s { live = false; sweeps = [] } in
    tidied_within m (with_effect (Unsubscribed number) m) refl refl
    (shrinks_on_sub number f (record { live = λ s h. absurd (true≢false (sym h)); filter = λ s. refl }) m.subs) (omega arith) within
stays_within m (Issued i) none suits within = absurd (true≢false none)
stays_within m (Acked number) none suits within =
    let above : m.tracks.acked ≤ number = grind (arith, nat_tests) in
    tidied_within m (with_effect (Acked number) m) refl refl (same_subs m.subs) (used_acked m.tracks number above) within
stays_within m (Received number) none suits within =
    tidied_within m (with_effect (Received number) m) refl refl (same_subs m.subs)
    (used_with_done m.tracks number (numbers_from (m.tracks.received + 1) (number - (m.tracks.received + 1)))) within
stays_within m (Done number) none suits within =
    tidied_within m (with_effect (Done number) m) refl refl (same_subs m.subs) (used_with_done m.tracks m.tracks.received (number ∷ [])) within
stays_within m (Passed p) none suits within =
    tidied_within m (with_effect (Passed p) m) refl refl (same_subs m.subs)
    (used_passed m.tracks p.track p.number (and_parts ((p.track == 1) || (p.track == 2)) (is_between (mark_of m.tracks p.track) (last_of m.tracks p.track) p.number) suits).1) within

-- the texts of a session within its limits
pub few_bytes : (m : KeptSession) → kept_within whole m ≡ true → text_bytes m.subs ≤ 65536
few_bytes m within =
    let parts = and_parts (nat_le (length m.client) 256) (is_window whole m.window && (subs_within whole m.subs && nat_le (in_use m.tracks) m.window)) within in
    let more = and_parts (is_window whole m.window) (subs_within whole m.subs && nat_le (in_use m.tracks) m.window) parts.1 in
    let last = and_parts (subs_within whole m.subs) (nat_le (in_use m.tracks) m.window) more.1 in
    let of_subs = and_parts (nat_le (live_count m.subs) 64) (has_filters m.subs && nat_le (text_bytes m.subs) 65536) last.0 in
    let bytes = (and_parts (has_filters m.subs) (nat_le (text_bytes m.subs) 65536) of_subs.1).1 in
    grind (arith, nat_tests)

-- what is neither a new subscription nor a batch adds nothing
pub adds_neither : (effect : Effect) → ((s : Subscribes) → effect ≡ Subscribed s → ⊥) → ((i : Issuing) → effect ≡ Issued i → ⊥) → adds effect ≡ false
adds_neither (Began b) no_sub no_batch = refl
adds_neither Ended no_sub no_batch = refl
adds_neither (Bound expiry) no_sub no_batch = refl
adds_neither (Parted p) no_sub no_batch = refl
adds_neither (Subscribed s) no_sub no_batch = absurd (no_sub s refl)
adds_neither (Replaced r) no_sub no_batch = refl
adds_neither (Unsubscribed number) no_sub no_batch = refl
adds_neither (Issued i) no_sub no_batch = absurd (no_batch i refl)
adds_neither (Acked number) no_sub no_batch = refl
adds_neither (Received number) no_sub no_batch = refl
adds_neither (Done number) no_sub no_batch = refl
adds_neither (Passed p) no_sub no_batch = refl
