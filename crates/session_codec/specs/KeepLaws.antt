-- Sessions that have a spelling have one after changes that have one and fit.
use Rattle.std.proofs.Common.{◌≡◌, ℕ, zero, suc, ◌+◌, ◌-◌, ◌^◌, ◌≤◌, ◌<◌, Bool, true, false, not, ◌&&◌, ◌||◌, ◌==◌, if◌then◌else◌, nat_le, nat_lt, List, [], ◌∷◌, ◌++◌, length, find, bytes_eq, slice_set, slice_get, Option, Some, None, is_some, is_none, true≢false, refl, sym, ap, ◌∙◌, arith}
use Rattle.std.specs.List.{list_all}
use Rattle.std.proofs.lemmas.Bool.{and_parts, and_from, eqb-true, eq-eqb, leb-true, ltb-true, lt-ltb}
use Rattle.std.proofs.lemmas.List.{length-set}
use Rattle.std.proofs.lemmas.List.Folds.{list_all-append}
use Rattle.std.proofs.lemmas.Option.{same_Some}
use Rattle.std.proofs.lemmas.Slice.Eq.{bytes_eq-Decides}
use Rattle.topic_model.specs.Profile.{whole}
use Rattle.shard_model.specs.declared.sweep.Sweep.{Sweep}
use Rattle.session_model.specs.Acting.{changed_if}
use Rattle.session_model.specs.Change.{Subscribes}
use Rattle.session_model.specs.FitsSession.{greatest}
use Rattle.seq_tracks.specs.PlainTracks.{PlainTracks, in_use}
use Rattle.seq_tracks.specs.InOrder.{InOrder, are_in_order, ascend}
use Rattle.seq_tracks.specs.OrderLaws.{in_order-from_test, test-from_in_order}
use Rattle.seq_tracks.specs.ListLaws.{ascend_parts, ascend_short}
use Rattle.session_state.specs.declared.batch.Batch.{Batch}
use Rattle.session_state.specs.declared.change.Change.{Change}
use Rattle.session_state.specs.declared.change.Began.{Began as Beginning}
use Rattle.session_state.specs.declared.change.Effect.{Effect}
use Rattle.session_state.specs.declared.change.Effect.TheVariants.{Began, Ended, Bound, Parted, Subscribed, Replaced, Unsubscribed, Issued, Acked, Received, Done, Passed}
use Rattle.session_state.specs.declared.change.Issued.{Issued as Issuing}
use Rattle.session_state.specs.declared.change.Replaced.{Replaced as Replacing}
use Rattle.session_state.specs.KeptSub.{KeptSub}
use Rattle.session_state.specs.KeptSession.{KeptSession, KeptSessions, begun_kept, session_of, sub_numbered}
use Rattle.session_state.specs.KeptActing.{acted_on, has_unfinished, is_of_held, kept_acted, kept_acted_all, kept_batches, kept_changed, kept_versions, new_sub, next_version_of, on_session, on_sub, tidied, version_of, with_effect}
use Rattle.session_state.specs.KeptFits.{goes_on, has_filters, is_issuing, is_live, is_next_sub, is_next_version, is_window, kept_are_within, kept_finds, kept_fit_all, kept_fits, kept_suits, kept_within, live_count, session_fits, subs_within, text_bytes}
use Rattle.session_state.specs.SoundTest.{has_facts, is_needed, is_sound, is_tidy, is_wanted}
use Rattle.session_state.specs.FactLaws.{facts_from_test}
use Rattle.session_state.specs.SoundLaws.{few_batches, keeps_sound}
use Rattle.session_state.specs.CountLaws.{few_versions}
use Rattle.session_state.specs.OrderLaws.{order_changed}
use Rattle.session_state.specs.WorkerLaws.{acted_held, parts_within}
use Rattle.session_codec.specs.declared.formats.TheConstants.{FIRST_FORMAT, SECOND_FORMAT}
use Rattle.session_codec.specs.Spelling.{marks_of}
use Rattle.session_codec.specs.HasSpelling.{are_sweeps, fits_batch, fits_batches, fits_began, fits_change, fits_done, fits_effect, fits_filter, fits_holder, fits_kept, fits_marks, fits_moment, fits_parting, fits_session, fits_sessions, fits_sub, fits_subs, fits_sweep, fits_text, fits_tracks, fits_u8, fits_u16, fits_u32, fits_u64, fits_version, fits_versions, fits_window, have_spelling, have_tracks, is_change_count, is_of_shard, may_be_held}
use Rattle.session_codec.specs.ApartLaws.{AreApart, Stays, all_of_fewer, apart_from_sound, are_apart, are_below, behind_from, fewer_apart, is_behind, more_apart, same_apart, same_below, sound_from_apart}
use Rattle.session_codec.specs.NeedBounds.{subs_few}
use Rattle.session_codec.specs.Soundness.{are_sound}
use Rattle.session_codec.specs.PutLaws.{found_at}

-- ---- the parts of a session that its spelling asks for, besides its tracks and how much it keeps

abbrev fits_kept_batch : ℕ → Batch → Bool
fits_kept_batch shards b = fits_batch b && is_of_shard shards b

record Fits (format shards : ℕ) (m : KeptSession) : Type 0 where
  client : fits_text m.client ≡ true
  incarnation : fits_u64 m.incarnation ≡ true
  expiry : fits_u32 m.expiry ≡ true
  window : fits_window format m.window ≡ true
  parted : fits_parting m.parted ≡ true
  next_sub : fits_u32 m.next_sub ≡ true
  next_version : fits_u32 m.next_version ≡ true
  subs : list_all (fits_sub shards) m.subs ≡ true
  versions : list_all fits_version m.versions ≡ true
  batches : list_all (fits_kept_batch shards) m.batches ≡ true

record Told (format shards : ℕ) (m : KeptSession) : Type 0 where
  fits : Fits format shards m
  order : InOrder m.tracks

told : (format shards : ℕ) (m : KeptSession) → fits_session format shards m ≡ true → Told format shards m
told format shards m h =
    let lists = fits_subs shards m.subs && (fits_versions m.versions && fits_batches shards m.batches) in
    let parting = fits_parting m.parted in
    let p = and_parts (fits_holder format m) (fits_kept shards m) h in
    let h1 = and_parts (fits_text m.client) (fits_u64 m.incarnation && (fits_u32 m.expiry && (fits_window format m.window && parting))) p.0 in
    let h2 = and_parts (fits_u64 m.incarnation) (fits_u32 m.expiry && (fits_window format m.window && parting)) h1.1 in
    let h3 = and_parts (fits_u32 m.expiry) (fits_window format m.window && parting) h2.1 in
    let h4 = and_parts (fits_window format m.window) parting h3.1 in
    let k1 = and_parts (fits_u32 m.next_sub) (fits_u32 m.next_version && (have_tracks m.tracks && lists)) p.1 in
    let k2 = and_parts (fits_u32 m.next_version) (have_tracks m.tracks && lists) k1.1 in
    let k3 = and_parts (have_tracks m.tracks) lists k2.1 in
    let k4 = and_parts (fits_subs shards m.subs) (fits_versions m.versions && fits_batches shards m.batches) k3.1 in
    let k5 = and_parts (fits_versions m.versions) (fits_batches shards m.batches) k4.1 in
    record {
      fits = record {
        client = h1.0;
        incarnation = h2.0;
        expiry = h3.0;
        window = h4.0;
        parted = h4.1;
        next_sub = k1.0;
        next_version = k2.0;
        subs = (and_parts (fits_u16 (length m.subs)) (list_all (fits_sub shards) m.subs) k4.0).1;
        versions = (and_parts (fits_u16 (length m.versions)) (list_all fits_version m.versions) k5.0).1;
        batches = (and_parts (fits_u16 (length m.batches)) (list_all (fits_kept_batch shards) m.batches) k5.1).1;
      };
      order = in_order-from_test m.tracks (and_parts (fits_tracks m.tracks) (are_in_order m.tracks) k3.0).1;
    }

-- ---- tracks in order, and what a sound session keeps, are within their fields

done_fit : (above last : ℕ) (ns : List ℕ) → last < 2 ^ 64 → ascend above last ns ≡ true → list_all fits_u64 ns ≡ true
done_fit above last [] small up = refl
done_fit above last (n ∷ ns) small up =
    let parts = ascend_parts above last n ns up in
    let within = parts.1 in
    and_from (fits_u64 n) (list_all fits_u64 ns) (lt-ltb n (2 ^ 64) (omega arith)) (done_fit n last ns small parts.2)

tracks_fit : (t : PlainTracks) → InOrder t → have_tracks t ≡ true
tracks_fit t h =
    let acked = h.acked in
    let complete = h.complete in
    let received = h.received in
    let last1 = h.last1 in
    let last2 = h.last2 in
    let window = h.window in
    let short : length t.done ≤ t.received - (t.complete + 1) = ascend_short (t.complete + 1) t.received t.done h.done in
    let last : fits_u64 t.complete ≡ true = lt-ltb t.complete (2 ^ 64) (omega arith) in
    let from4 = and_from (fits_u64 t.received) (fits_u64 t.complete) (lt-ltb t.received (2 ^ 64) (omega arith)) last in
    let from3 = and_from (fits_u64 t.issued2) (fits_u64 t.received && fits_u64 t.complete) (lt-ltb t.issued2 (2 ^ 64) (omega arith)) from4 in
    let from2 = and_from (fits_u64 t.acked) (fits_u64 t.issued2 && (fits_u64 t.received && fits_u64 t.complete)) (lt-ltb t.acked (2 ^ 64) (omega arith)) from3 in
    let marks : fits_marks (marks_of t) ≡ true =
    and_from (fits_u64 t.issued1) (fits_u64 t.acked && (fits_u64 t.issued2 && (fits_u64 t.received && fits_u64 t.complete))) (lt-ltb t.issued1 (2 ^ 64) (omega arith)) from2 in
    let done : fits_done t.done ≡ true =
    and_from (fits_u16 (length t.done)) (list_all fits_u64 t.done) (lt-ltb (length t.done) (2 ^ 16) (omega arith)) (done_fit (t.complete + 1) t.received t.done (omega arith) h.done) in
    and_from (fits_tracks t) (are_in_order t) (and_from (fits_marks (marks_of t)) (fits_done t.done) marks done) (test-from_in_order t h)

record Counts (m : KeptSession) : Type 0 where
  subs : length m.subs < 2 ^ 16
  versions : length m.versions < 2 ^ 16
  batches : length m.batches < 2 ^ 16

small_window : (w : ℕ) → is_window whole w ≡ true → w ≤ 2048
small_window w h = by (w == 512) refl h
  where
    by : (b : Bool) → (w == 512) ≡ b → (b || (w == 2048)) ≡ true → w ≤ 2048
    by true e h = let same = eqb-true w 512 e in omega arith
    by false e h = let same = eqb-true w 2048 h in omega arith

counts : (m : KeptSession) → is_sound m ≡ true → Counts m
counts m is =
    let parts = and_parts (kept_within whole m) (is_tidy m && has_facts m) is in
    let more = and_parts (is_tidy m) (has_facts m) parts.1 in
    let tidy = and_parts (list_all (has_unfinished m.tracks) m.batches) (list_all (is_needed m.subs m.batches) m.versions && list_all (is_wanted m.versions) m.subs) more.0 in
    let wanted = (and_parts (list_all (is_needed m.subs m.batches) m.versions) (list_all (is_wanted m.versions) m.subs) tidy.1).1 in
    let p = and_parts (nat_le (length m.client) 256) (is_window whole m.window && (subs_within whole m.subs && nat_le (in_use m.tracks) m.window)) parts.0 in
    let q = and_parts (is_window whole m.window) (subs_within whole m.subs && nat_le (in_use m.tracks) m.window) p.1 in
    let r = (and_parts (subs_within whole m.subs) (nat_le (in_use m.tracks) m.window) q.1).0 in
    let live : live_count m.subs ≤ 64 = leb-true (live_count m.subs) 64 (and_parts (nat_le (live_count m.subs) 64) (has_filters m.subs && nat_le (text_bytes m.subs) 65536) r).0 in
    let window = small_window m.window q.0 in
    let versions = few_versions m is in
    let batches = few_batches m is in
    let subs = subs_few m.versions m.subs m.next_sub (facts_from_test m more.1).subs wanted in
    record { subs = omega arith; versions = omega arith; batches = omega arith }

session_from : (format shards : ℕ) (m : KeptSession) → Fits format shards m → InOrder m.tracks → is_sound m ≡ true → fits_session format shards m ≡ true
session_from format shards m f order sound =
    let c = counts m sound in
    let subs = and_from (fits_u16 (length m.subs)) (list_all (fits_sub shards) m.subs) (lt-ltb (length m.subs) (2 ^ 16) c.subs) f.subs in
    let versions = and_from (fits_u16 (length m.versions)) (list_all fits_version m.versions) (lt-ltb (length m.versions) (2 ^ 16) c.versions) f.versions in
    let batches = and_from (fits_u16 (length m.batches)) (list_all (fits_kept_batch shards) m.batches) (lt-ltb (length m.batches) (2 ^ 16) c.batches) f.batches in
    let lists = fits_subs shards m.subs && (fits_versions m.versions && fits_batches shards m.batches) in
    let parting = fits_parting m.parted in
    and_from (fits_holder format m) (fits_kept shards m)
    (and_from (fits_text m.client) (fits_u64 m.incarnation && (fits_u32 m.expiry && (fits_window format m.window && parting))) f.client
    (and_from (fits_u64 m.incarnation) (fits_u32 m.expiry && (fits_window format m.window && parting)) f.incarnation
    (and_from (fits_u32 m.expiry) (fits_window format m.window && parting) f.expiry
    (and_from (fits_window format m.window) parting f.window f.parted))))
    (and_from (fits_u32 m.next_sub) (fits_u32 m.next_version && (have_tracks m.tracks && lists)) f.next_sub
    (and_from (fits_u32 m.next_version) (have_tracks m.tracks && lists) f.next_version
    (and_from (have_tracks m.tracks) lists (tracks_fit m.tracks order)
    (and_from (fits_subs shards m.subs) (fits_versions m.versions && fits_batches shards m.batches) subs
    (and_from (fits_versions m.versions) (fits_batches shards m.batches) versions batches)))))

-- ---- one subscription

record SubFits (shards : ℕ) (s : KeptSub) : Type 0 where
  number : fits_u32 s.number ≡ true
  version : fits_u32 s.version ≡ true
  text : fits_filter s.filter ≡ true
  count : length s.sweeps ≡ (if s.live then shards else 0)
  sweeps : list_all fits_sweep s.sweeps ≡ true

sub_told : (shards : ℕ) (s : KeptSub) → fits_sub shards s ≡ true → SubFits shards s
sub_told shards s h =
    let many = if s.live then shards else 0 in
    let a = and_parts (fits_u32 s.number) (fits_u32 s.version && (fits_filter s.filter && are_sweeps many s.sweeps)) h in
    let b = and_parts (fits_u32 s.version) (fits_filter s.filter && are_sweeps many s.sweeps) a.1 in
    let c = and_parts (fits_filter s.filter) (are_sweeps many s.sweeps) b.1 in
    let d = and_parts (length s.sweeps == many) (list_all fits_sweep s.sweeps) c.1 in
    record { number = a.0; version = b.0; text = c.0; count = eqb-true (length s.sweeps) many d.0; sweeps = d.1 }

sub_from : (shards : ℕ) (s : KeptSub) → SubFits shards s → fits_sub shards s ≡ true
sub_from shards s f =
    let many = if s.live then shards else 0 in
    and_from (fits_u32 s.number) (fits_u32 s.version && (fits_filter s.filter && are_sweeps many s.sweeps)) f.number
    (and_from (fits_u32 s.version) (fits_filter s.filter && are_sweeps many s.sweeps) f.version
    (and_from (fits_filter s.filter) (are_sweeps many s.sweeps) f.text
    (and_from (length s.sweeps == many) (list_all fits_sweep s.sweeps) (eq-eqb (length s.sweeps) many f.count) f.sweeps)))

-- a change of subscriptions that leaves each fitting leaves all
KeepsSub : ℕ → (KeptSub → KeptSub) → Type 0
KeepsSub shards f = (s : KeptSub) → fits_sub shards s ≡ true → fits_sub shards (f s) ≡ true

subs_changed : (shards number : ℕ) (f : KeptSub → KeptSub) → KeepsSub shards f → (subs : List KeptSub) → list_all (fits_sub shards) subs ≡ true →
    list_all (fits_sub shards) (on_sub number f subs) ≡ true
unfolding KeepsSub
subs_changed shards number f keeps [] h = refl
subs_changed shards number f keeps (s ∷ subs) h =
    let p = and_parts (fits_sub shards s) (list_all (fits_sub shards) subs) h in
    and_from (fits_sub shards (changed_if (s.number == number) f s)) (list_all (fits_sub shards) (on_sub number f subs)) (by (s.number == number) p.0)
    (subs_changed shards number f keeps subs p.1)
  where
    by : (b : Bool) → fits_sub shards s ≡ true → fits_sub shards (changed_if b f s) ≡ true
    by true h = keeps s h
    by false h = h

with_version : (shards version : ℕ) → fits_u32 version ≡ true → KeepsSub shards (λ (s : KeptSub). record s { version = version })
unfolding KeepsSub
with_version shards version fits s h =
    let f = sub_told shards s h in
    sub_from shards (record s { version = version }) (record { number = f.number; version = fits; text = f.text; count = f.count; sweeps = f.sweeps })

ended : (shards : ℕ) → KeepsSub shards (λ (s : KeptSub). record s { live = false; sweeps = [] })
unfolding KeepsSub
ended shards s h =
    let f = sub_told shards s h in
    sub_from shards (record s { live = false; sweeps = [] }) (record { number = f.number; version = f.version; text = f.text; count = refl; sweeps = refl })

all_set : {X : Type 0} (test : X → Bool) (xs : List X) (i : ℕ) (x : X) → list_all test xs ≡ true → test x ≡ true → list_all test (slice_set xs i x) ≡ true
all_set test [] i x all fits = refl
all_set test (y ∷ ys) zero x all fits = and_from (test x) (list_all test ys) fits (and_parts (test y) (list_all test ys) all).1
all_set test (y ∷ ys) (suc i) x all fits =
    let p = and_parts (test y) (list_all test ys) all in and_from (test y) (list_all test (slice_set ys i x)) p.0 (all_set test ys i x p.1 fits)

with_sweep : (shards shard : ℕ) (sweep : Sweep) → fits_sweep sweep ≡ true → KeepsSub shards (λ (s : KeptSub). record s { sweeps = slice_set s.sweeps shard sweep })
unfolding KeepsSub
with_sweep shards shard sweep fits s h =
    let f = sub_told shards s h in
    sub_from shards (record s { sweeps = slice_set s.sweeps shard sweep })
    (record {
      number = f.number;
      version = f.version;
      text = f.text;
      count = length-set s.sweeps shard sweep ∙ f.count;
      sweeps = all_set fits_sweep s.sweeps shard sweep f.sweeps fits;
    })

-- one more at the end
all_more : {X : Type 0} (test : X → Bool) (xs : List X) (x : X) → list_all test xs ≡ true → test x ≡ true → list_all test (xs ++ x ∷ []) ≡ true
all_more test xs x all fits = list_all-append test xs (x ∷ []) ∙ and_from (list_all test xs) (test x && true) all (and_from (test x) true fits refl)

-- ---- the batch of an Issued is of one of the shards

found_fits : {X : Type 0} (test finds : X → Bool) (xs : List X) (x : X) → list_all test xs ≡ true → find finds xs ≡ Some x → test x ≡ true
found_fits test finds [] x all found = absurd cc
found_fits {X} test finds (y ∷ ys) x all found =
    let p = and_parts (test y) (list_all test ys) all in by (finds y) found p.0 (found_fits test finds ys x p.1)
  where
    by : (b : Bool) → (if b then Some y else find finds ys) ≡ Some x → test y ≡ true → (find finds ys ≡ Some x → test x ≡ true) → test x ≡ true
    by true found own rest = ap test (sym (same_Some y x found)) ∙ own
    by false found own rest = rest found

shard_within : (shards : ℕ) (b : Batch) (subs : List KeptSub) (number : ℕ) → list_all (fits_sub shards) subs ≡ true →
    is_issuing b (find (λ (s : KeptSub). s.number == number) subs) ≡ true → is_of_shard shards b ≡ true
shard_within shards b subs number all h = by (find (λ (s : KeptSub). s.number == number) subs) refl h
  where
    by : (o : Option KeptSub) → find (λ (s : KeptSub). s.number == number) subs ≡ o → is_issuing b o ≡ true → is_of_shard shards b ≡ true
    by None e h = absurd cc
    by (Some s) e h =
        let f = sub_told shards s (found_fits (fits_sub shards) (λ (s : KeptSub). s.number == number) subs s all e) in
        let p = and_parts s.live ((s.version == b.version) && is_some (slice_get s.sweeps b.shard)) h in
        let q = and_parts (s.version == b.version) (is_some (slice_get s.sweeps b.shard)) p.1 in
        let many : length s.sweeps ≡ shards = f.count ∙ ap (λ l. if l then shards else 0) p.0 in
        let below : b.shard < length s.sweeps = place (slice_get s.sweeps b.shard) refl q.1 in
        lt-ltb b.shard shards (omega arith)
      where
        place : (o : Option Sweep) → slice_get s.sweeps b.shard ≡ o → is_some o ≡ true → b.shard < length s.sweeps
        place None e h = absurd cc
        place (Some w) e h = (found_at s.sweeps b.shard w e).0

-- ---- the effect by itself

next_fits : (n : ℕ) → nat_lt n (2 ^ 32 - 1) ≡ true → fits_u32 (n + 1) ≡ true
next_fits n h = let less : n < 2 ^ 32 - 1 = ltb-true n (2 ^ 32 - 1) h in lt-ltb (n + 1) (2 ^ 32) (omega arith)

-- a session of which only tracks changed
with_tracks : (format shards : ℕ) (m : KeptSession) (tracks : PlainTracks) → Fits format shards m → Fits format shards (record m { tracks = tracks })
with_tracks format shards m tracks f =
    record {
      client = f.client;
      incarnation = f.incarnation;
      expiry = f.expiry;
      window = f.window;
      parted = f.parted;
      next_sub = f.next_sub;
      next_version = f.next_version;
      subs = f.subs;
      versions = f.versions;
      batches = f.batches;
    }

subscribed_fits : (format shards : ℕ) (m : KeptSession) (s : Subscribes) → Fits format shards m → fits_effect format shards (Subscribed s) ≡ true →
    kept_suits m (Subscribed s) ≡ true → Fits format shards (with_effect (Subscribed s) m)
subscribed_fits format shards m s f h k =
    let sweeps = are_sweeps shards s.sweeps in
    let a = and_parts (fits_u32 s.subscription) (fits_u32 s.version && (fits_u8 s.options && (fits_u32 s.identifier && (fits_filter s.filter && sweeps)))) h in
    let b = and_parts (fits_u32 s.version) (fits_u8 s.options && (fits_u32 s.identifier && (fits_filter s.filter && sweeps))) a.1 in
    let c = and_parts (fits_u8 s.options) (fits_u32 s.identifier && (fits_filter s.filter && sweeps)) b.1 in
    let d = and_parts (fits_u32 s.identifier) (fits_filter s.filter && sweeps) c.1 in
    let suits = and_parts (is_next_sub m s.subscription) (is_next_version m s.version) k in
    let sub = and_parts (s.subscription == m.next_sub) (nat_lt s.subscription (2 ^ 32 - 1)) suits.0 in
    let version = and_parts (s.version == m.next_version) (nat_lt s.version (2 ^ 32 - 1)) suits.1 in
    record {
      client = f.client;
      incarnation = f.incarnation;
      expiry = f.expiry;
      window = f.window;
      parted = f.parted;
      next_sub = next_fits s.subscription sub.1;
      next_version = next_fits s.version version.1;
      subs = all_more (fits_sub shards) m.subs (new_sub s) f.subs
          (and_from (fits_u32 s.subscription) (fits_u32 s.version && (fits_filter s.filter && sweeps)) a.0
          (and_from (fits_u32 s.version) (fits_filter s.filter && sweeps) b.0 d.1));
      versions = all_more fits_version m.versions (version_of s) f.versions
          (and_from (fits_u32 s.version) (fits_u32 s.subscription && (fits_u8 s.options && fits_u32 s.identifier)) b.0
          (and_from (fits_u32 s.subscription) (fits_u8 s.options && fits_u32 s.identifier) a.0 (and_from (fits_u8 s.options) (fits_u32 s.identifier) c.0 d.0)));
      batches = f.batches;
    }

replaced_fits : (format shards : ℕ) (m : KeptSession) (r : Replacing) → Fits format shards m → fits_effect format shards (Replaced r) ≡ true →
    kept_suits m (Replaced r) ≡ true → Fits format shards (with_effect (Replaced r) m)
replaced_fits format shards m r f h k =
    let a = and_parts (fits_u32 r.subscription) (fits_u32 r.version && (fits_u8 r.options && fits_u32 r.identifier)) h in
    let b = and_parts (fits_u32 r.version) (fits_u8 r.options && fits_u32 r.identifier) a.1 in
    let suits = and_parts (is_live m r.subscription) (is_next_version m r.version) k in
    let version = and_parts (r.version == m.next_version) (nat_lt r.version (2 ^ 32 - 1)) suits.1 in
    record {
      client = f.client;
      incarnation = f.incarnation;
      expiry = f.expiry;
      window = f.window;
      parted = f.parted;
      next_sub = f.next_sub;
      next_version = next_fits r.version version.1;
      subs = subs_changed shards r.subscription (λ (s : KeptSub). record s { version = r.version }) (with_version shards r.version b.0) m.subs f.subs;
      versions = all_more fits_version m.versions (next_version_of r) f.versions
          (and_from (fits_u32 r.version) (fits_u32 r.subscription && (fits_u8 r.options && fits_u32 r.identifier)) b.0
          (and_from (fits_u32 r.subscription) (fits_u8 r.options && fits_u32 r.identifier) a.0 b.1));
      batches = f.batches;
    }

issued_fits : (format shards : ℕ) (m : KeptSession) (i : Issuing) → Fits format shards m → fits_effect format shards (Issued i) ≡ true →
    kept_suits m (Issued i) ≡ true → Fits format shards (with_effect (Issued i) m)
issued_fits format shards m i f h k =
    let a = and_parts (fits_u32 i.subscription) (fits_batch i.batch && fits_sweep i.sweep) h in
    let b = and_parts (fits_batch i.batch) (fits_sweep i.sweep) a.1 in
    let suits = and_parts (is_issuing i.batch (sub_numbered i.subscription m)) (nat_lt i.batch.from i.batch.to && goes_on m.tracks i.batch) k in
    record {
      client = f.client;
      incarnation = f.incarnation;
      expiry = f.expiry;
      window = f.window;
      parted = f.parted;
      next_sub = f.next_sub;
      next_version = f.next_version;
      subs = subs_changed shards i.subscription (λ (s : KeptSub). record s { sweeps = slice_set s.sweeps i.batch.shard i.sweep })
          (with_sweep shards i.batch.shard i.sweep b.1) m.subs f.subs;
      versions = f.versions;
      batches = all_more (fits_kept_batch shards) m.batches i.batch f.batches
          (and_from (fits_batch i.batch) (is_of_shard shards i.batch) b.0 (shard_within shards i.batch m.subs i.subscription f.subs suits.0));
    }

bound_fits : (format shards : ℕ) (m : KeptSession) (expiry : ℕ) (parted : Option ℕ) → Fits format shards m → fits_u32 expiry ≡ true → fits_parting parted ≡ true →
    Fits format shards (record m { expiry = expiry; parted = parted })
bound_fits format shards m expiry parted f h p =
    record {
      client = f.client;
      incarnation = f.incarnation;
      expiry = h;
      window = f.window;
      parted = p;
      next_sub = f.next_sub;
      next_version = f.next_version;
      subs = f.subs;
      versions = f.versions;
      batches = f.batches;
    }

unsubscribed_fits : (format shards : ℕ) (m : KeptSession) (number : ℕ) → Fits format shards m → Fits format shards (with_effect (Unsubscribed number) m)
unsubscribed_fits format shards m number f =
    record {
      client = f.client;
      incarnation = f.incarnation;
      expiry = f.expiry;
      window = f.window;
      parted = f.parted;
      next_sub = f.next_sub;
      next_version = f.next_version;
      subs = subs_changed shards number (λ (s : KeptSub). record s { live = false; sweeps = [] }) (ended shards) m.subs f.subs;
      versions = f.versions;
      batches = f.batches;
    }

effect_fits : (format shards : ℕ) (m : KeptSession) (effect : Effect) → Fits format shards m → fits_effect format shards effect ≡ true →
    kept_suits m effect ≡ true → Fits format shards (with_effect effect m)
effect_fits format shards m (Began b) f h k = f
effect_fits format shards m Ended f h k = f
effect_fits format shards m (Bound expiry) f h k = bound_fits format shards m expiry None f h refl
effect_fits format shards m (Parted p) f h k =
    let a = and_parts (fits_u32 p.expiry) (fits_moment p.moment) h in bound_fits format shards m p.expiry (Some p.moment) f a.0 a.1
effect_fits format shards m (Subscribed s) f h k = subscribed_fits format shards m s f h k
effect_fits format shards m (Replaced r) f h k = replaced_fits format shards m r f h k
effect_fits format shards m (Unsubscribed number) f h k = unsubscribed_fits format shards m number f
effect_fits format shards m (Issued i) f h k = issued_fits format shards m i f h k
effect_fits format shards m (Acked number) f h k = with_tracks format shards m (with_effect (Acked number) m).tracks f
effect_fits format shards m (Received number) f h k = with_tracks format shards m (with_effect (Received number) m).tracks f
effect_fits format shards m (Done number) f h k = with_tracks format shards m (with_effect (Done number) m).tracks f
effect_fits format shards m (Passed p) f h k = with_tracks format shards m (with_effect (Passed p) m).tracks f

-- what isn't needed goes
tidied_fits : (format shards : ℕ) (m : KeptSession) → Fits format shards m → Fits format shards (tidied m)
tidied_fits format shards m f =
    let batches = kept_batches m.tracks m.batches in
    let versions = kept_versions m.subs batches m.versions in
    record {
      client = f.client;
      incarnation = f.incarnation;
      expiry = f.expiry;
      window = f.window;
      parted = f.parted;
      next_sub = f.next_sub;
      next_version = f.next_version;
      subs = all_of_fewer (fits_sub shards) (is_wanted versions) m.subs f.subs;
      versions = all_of_fewer fits_version (is_needed m.subs batches) m.versions f.versions;
      batches = all_of_fewer (fits_kept_batch shards) (has_unfinished m.tracks) m.batches f.batches;
    }

-- a session that may be held, after a change that fits
changed_held : (format shards : ℕ) (m : KeptSession) (effect : Effect) → may_be_held format shards m ≡ true → fits_effect format shards effect ≡ true →
    session_fits whole m effect ≡ true → may_be_held format shards (kept_changed effect m) ≡ true
changed_held format shards m effect h e fits =
    let n = kept_changed effect m in
    let p = and_parts (fits_session format shards m) (is_sound m) h in
    let t = told format shards m p.0 in
    let suits = (and_parts (kept_suits m effect) (kept_within whole n) fits).0 in
    let sound = keeps_sound m effect t.order p.1 fits in
    and_from (fits_session format shards n) (is_sound n)
    (session_from format shards n (tidied_fits format shards (with_effect effect m) (effect_fits format shards m effect t.fits e suits)) (order_changed m effect t.order suits) sound)
    sound

-- ---- the sessions of a worker

record AreHeld (format shards : ℕ) (s : KeptSessions) : Type 0 where
  next : fits_u64 s.next ≡ true
  each : list_all (may_be_held format shards) s.list ≡ true
  apart : AreApart s

are_held : (format shards : ℕ) (s : KeptSessions) → fits_sessions format shards s ≡ true → AreHeld format shards s
are_held format shards s h =
    let each = list_all (may_be_held format shards) s.list in
    let p = and_parts (fits_u64 s.next && (fits_u32 (length s.list) && each)) (are_sound s) h in
    let q = and_parts (fits_u64 s.next) (fits_u32 (length s.list) && each) p.0 in
    record { next = q.0; each = (and_parts (fits_u32 (length s.list)) each q.1).1; apart = apart_from_sound s p.1 }

from_held : (format shards : ℕ) (s : KeptSessions) → AreHeld format shards s → fits_sessions format shards s ≡ true
from_held format shards s h =
    let each = list_all (may_be_held format shards) s.list in
    let count = (parts_within s h.apart.within).count in
    and_from (fits_u64 s.next && (fits_u32 (length s.list) && each)) (are_sound s)
    (and_from (fits_u64 s.next) (fits_u32 (length s.list) && each) h.next
    (and_from (fits_u32 (length s.list)) each (lt-ltb (length s.list) (2 ^ 32) (omega arith)) h.each))
    (sound_from_apart s h.apart)

-- no later session is of a client that one has
others_stay : (client : List ℕ) (f : KeptSession → KeptSession) (m : KeptSession) (ms : List KeptSession) → bytes_eq m.client client ≡ true →
    list_all (is_behind m) ms ≡ true → on_session client f ms ≡ ms
others_stay client f m [] is behind = refl
others_stay client f m (x ∷ ms) is behind =
    let p = and_parts (is_behind m x) (list_all (is_behind m) ms) behind in
    let q = and_parts (not (bytes_eq m.client x.client)) (nat_lt m.incarnation x.incarnation) p.0 in
    by (bytes_eq x.client client) refl q.0 (others_stay client f m ms is p.1)
  where
    by : (b : Bool) → bytes_eq x.client client ≡ b → not (bytes_eq m.client x.client) ≡ true → on_session client f ms ≡ ms →
        changed_if (bytes_eq x.client client) f x ∷ on_session client f ms ≡ x ∷ ms
    by true e other rest =
        let mine : m.client ≡ client = (bytes_eq-Decides m.client client).0 is in
        let its : x.client ≡ client = (bytes_eq-Decides x.client client).0 e in
        let same : bytes_eq m.client x.client ≡ true = (bytes_eq-Decides m.client x.client).1 (mine ∙ sym its) in
        absurd (true≢false (sym other ∙ ap not same))
    by false e other rest = ap (λ b. changed_if b f x ∷ on_session client f ms) e ∙ ap (λ l. x ∷ l) rest

-- the session that a client has is changed, and stays one that may be held
each_changed : (format shards : ℕ) (client : List ℕ) (effect : Effect) (ms : List KeptSession) → fits_effect format shards effect ≡ true →
    list_all (may_be_held format shards) ms ≡ true → are_apart ms ≡ true →
    ((m : KeptSession) → find (λ (x : KeptSession). bytes_eq x.client client) ms ≡ Some m → kept_suits m effect ≡ true) →
    list_all (kept_within whole) (on_session client (kept_changed effect) ms) ≡ true →
    list_all (may_be_held format shards) (on_session client (kept_changed effect) ms) ≡ true
each_changed format shards client effect [] e each apart suits within = refl
each_changed format shards client effect (m ∷ ms) e each apart suits within =
    let f = kept_changed effect in
    let p = and_parts (may_be_held format shards m) (list_all (may_be_held format shards) ms) each in
    let q = and_parts (list_all (is_behind m) ms) (are_apart ms) apart in
    let w = and_parts (kept_within whole (changed_if (bytes_eq m.client client) f m)) (list_all (kept_within whole) (on_session client f ms)) within in
    by (bytes_eq m.client client) refl suits w.0 p.0 p.1 q.0 (λ s. each_changed format shards client effect ms e p.1 q.1 s w.1)
  where
    by : (b : Bool) → bytes_eq m.client client ≡ b →
        ((x : KeptSession) → (if b then Some m else find (λ (x : KeptSession). bytes_eq x.client client) ms) ≡ Some x → kept_suits x effect ≡ true) →
        kept_within whole (changed_if b (kept_changed effect) m) ≡ true → may_be_held format shards m ≡ true → list_all (may_be_held format shards) ms ≡ true →
        list_all (is_behind m) ms ≡ true →
        (((x : KeptSession) → find (λ (x : KeptSession). bytes_eq x.client client) ms ≡ Some x → kept_suits x effect ≡ true) →
        list_all (may_be_held format shards) (on_session client (kept_changed effect) ms) ≡ true) →
        list_all (may_be_held format shards) (changed_if (bytes_eq m.client client) (kept_changed effect) m ∷ on_session client (kept_changed effect) ms) ≡ true
    by true is suits within own others behind rest =
        let n = kept_changed effect m in
        let fits = and_from (kept_suits m effect) (kept_within whole n) (suits m refl) within in
        ap (λ b. list_all (may_be_held format shards) (changed_if b (kept_changed effect) m ∷ on_session client (kept_changed effect) ms)) is
        ∙ ap (λ l. list_all (may_be_held format shards) (n ∷ l)) (others_stay client (kept_changed effect) m ms is behind)
        ∙ and_from (may_be_held format shards n) (list_all (may_be_held format shards) ms) (changed_held format shards m effect own e fits) others
    by false is suits within own others behind rest =
        ap (λ b. list_all (may_be_held format shards) (changed_if b (kept_changed effect) m ∷ on_session client (kept_changed effect) ms)) is
        ∙ and_from (may_be_held format shards m) (list_all (may_be_held format shards) (on_session client (kept_changed effect) ms)) own (rest suits)

client_stays : (effect : Effect) (m : KeptSession) → (with_effect effect m).client ≡ m.client
client_stays (Began b) m = refl
client_stays Ended m = refl
client_stays (Bound expiry) m = refl
client_stays (Parted p) m = refl
client_stays (Subscribed s) m = refl
client_stays (Replaced r) m = refl
client_stays (Unsubscribed number) m = refl
client_stays (Issued i) m = refl
client_stays (Acked number) m = refl
client_stays (Received number) m = refl
client_stays (Done number) m = refl
client_stays (Passed p) m = refl

number_stays : (effect : Effect) (m : KeptSession) → (with_effect effect m).incarnation ≡ m.incarnation
number_stays (Began b) m = refl
number_stays Ended m = refl
number_stays (Bound expiry) m = refl
number_stays (Parted p) m = refl
number_stays (Subscribed s) m = refl
number_stays (Replaced r) m = refl
number_stays (Unsubscribed number) m = refl
number_stays (Issued i) m = refl
number_stays (Acked number) m = refl
number_stays (Received number) m = refl
number_stays (Done number) m = refl
number_stays (Passed p) m = refl

on_stays : (client : List ℕ) (effect : Effect) → Stays (λ (m : KeptSession). changed_if (bytes_eq m.client client) (kept_changed effect) m)
on_stays client effect = record { client = λ m. one (bytes_eq m.client client) m; number = λ m. two (bytes_eq m.client client) m }
  where
    one : (b : Bool) (m : KeptSession) → (changed_if b (kept_changed effect) m).client ≡ m.client
    one true m = client_stays effect m
    one false m = refl

    two : (b : Bool) (m : KeptSession) → (changed_if b (kept_changed effect) m).incarnation ≡ m.incarnation
    two true m = number_stays effect m
    two false m = refl

held_kept : (format shards : ℕ) (s : KeptSessions) (client : List ℕ) (effect : Effect) → AreHeld format shards s → is_of_held effect ≡ true →
    fits_effect format shards effect ≡ true → kept_finds s effect (session_of client s) ≡ true → kept_are_within whole (acted_on client effect s) ≡ true →
    AreHeld format shards (record s { list = on_session client (kept_changed effect) s.list })
held_kept format shards s client effect h of_held e found within =
    let f : KeptSession → KeptSession = λ m. changed_if (bytes_eq m.client client) (kept_changed effect) m in
    let stays = on_stays client effect in
    let after : kept_are_within whole (record s { list = on_session client (kept_changed effect) s.list }) ≡ true =
    ap (kept_are_within whole) (sym (acted_held client effect s of_held)) ∙ within in
    record {
      next = h.next;
      each = each_changed format shards client effect s.list e h.each h.apart.apart suits (parts_within (record s { list = on_session client (kept_changed effect) s.list }) after).all;
      apart = record {
        apart = same_apart f stays s.list ∙ h.apart.apart;
        below = same_below s.next f stays s.list ∙ h.apart.below;
        within = after;
      };
    }
  where
    suits : (m : KeptSession) → session_of client s ≡ Some m → kept_suits m effect ≡ true
    suits m is = ap (kept_finds s effect) (sym is) ∙ found

ended_kept : (format shards : ℕ) (s : KeptSessions) (client : List ℕ) → AreHeld format shards s → kept_are_within whole (acted_on client Ended s) ≡ true →
    AreHeld format shards (acted_on client Ended s)
ended_kept format shards s client h within =
    let keeps : KeptSession → Bool = λ m. not (bytes_eq m.client client) in
    record {
      next = h.next;
      each = all_of_fewer (may_be_held format shards) keeps s.list h.each;
      apart = record {
        apart = fewer_apart keeps s.list h.apart.apart;
        below = all_of_fewer (λ (m : KeptSession). nat_lt m.incarnation s.next) keeps s.list h.apart.below;
        within = within;
      };
    }

below_later : (next later : ℕ) (ms : List KeptSession) → next ≤ later → are_below next ms ≡ true → are_below later ms ≡ true
below_later next later [] more h = refl
below_later next later (m ∷ ms) more h =
    let p = and_parts (nat_lt m.incarnation next) (are_below next ms) h in
    let less : m.incarnation < next = ltb-true m.incarnation next p.0 in
    and_from (nat_lt m.incarnation later) (are_below later ms) (lt-ltb m.incarnation later (omega arith)) (below_later next later ms more p.1)

record Begins (s : KeptSessions) (client : List ℕ) (b : Beginning) : Type 0 where
  none : is_none (session_of client s) ≡ true
  number : b.incarnation ≡ s.next
  left : b.incarnation < greatest

begins : (s : KeptSessions) (client : List ℕ) (b : Beginning) → kept_finds s (Began b) (session_of client s) ≡ true → Begins s client b
begins s client b found = by (session_of client s) refl found
  where
    by : (o : Option KeptSession) → session_of client s ≡ o → kept_finds s (Began b) o ≡ true → Begins s client b
    by (Some m) e found = absurd cc
    by None e found =
        let p = and_parts (b.incarnation == s.next) (nat_lt b.incarnation greatest) found in
        record { none = ap is_none e; number = eqb-true b.incarnation s.next p.0; left = ltb-true b.incarnation greatest p.1 }

began_kept : (format shards : ℕ) (s : KeptSessions) (client : List ℕ) (b : Beginning) → AreHeld format shards s → fits_text client ≡ true →
    fits_began format b ≡ true → kept_finds s (Began b) (session_of client s) ≡ true → kept_are_within whole (acted_on client (Began b) s) ≡ true →
    AreHeld format shards (acted_on client (Began b) s)
began_kept format shards s client b h text e found within =
    let m = begun_kept client b.incarnation b.expiry b.window in
    let begin = begins s client b found in
    let number = begin.number in
    let left = begin.left in
    let p = and_parts (fits_u64 b.incarnation) (fits_u32 b.expiry && fits_window format b.window) e in
    let q = and_parts (fits_u32 b.expiry) (fits_window format b.window) p.1 in
    let all = and_parts (list_all (kept_within whole) s.list) (kept_within whole m && true)
    (sym (list_all-append (kept_within whole) s.list (m ∷ [])) ∙ (parts_within (acted_on client (Began b) s) within).all) in
    let own = (and_parts (kept_within whole m) true all.1).0 in
    let holder : fits_holder format m ≡ true =
    and_from (fits_text client) (fits_u64 b.incarnation && (fits_u32 b.expiry && (fits_window format b.window && true))) text
    (and_from (fits_u64 b.incarnation) (fits_u32 b.expiry && (fits_window format b.window && true)) p.0
    (and_from (fits_u32 b.expiry) (fits_window format b.window && true) q.0 (and_from (fits_window format b.window) true q.1 refl))) in
    let held : may_be_held format shards m ≡ true =
    and_from (fits_session format shards m) (is_sound m) (and_from (fits_holder format m) (fits_kept shards m) holder refl)
    (and_from (kept_within whole m) (is_tidy m && has_facts m) own refl) in
    let less : are_below b.incarnation s.list ≡ true = ap (λ n. are_below n s.list) number ∙ h.apart.below in
    record {
      next = lt-ltb (b.incarnation + 1) (2 ^ 64) (omega arith);
      each = all_more (may_be_held format shards) s.list m h.each held;
      apart = record {
        apart = more_apart s.list m h.apart.apart (behind_from s.list m begin.none less);
        below = all_more (λ (x : KeptSession). nat_lt x.incarnation (b.incarnation + 1)) s.list m (below_later b.incarnation (b.incarnation + 1) s.list (omega arith) less)
            (lt-ltb b.incarnation (b.incarnation + 1) (omega arith));
        within = within;
      };
    }

acted_kept : (format shards : ℕ) (s : KeptSessions) (client : List ℕ) (effect : Effect) → AreHeld format shards s → fits_text client ≡ true →
    fits_effect format shards effect ≡ true → kept_finds s effect (session_of client s) ≡ true → kept_are_within whole (acted_on client effect s) ≡ true →
    AreHeld format shards (acted_on client effect s)
acted_kept format shards s client (Began b) h text e found within = began_kept format shards s client b h text e found within
acted_kept format shards s client Ended h text e found within = ended_kept format shards s client h within
acted_kept format shards s client (Bound expiry) h text e found within = held_kept format shards s client (Bound expiry) h refl e found within
acted_kept format shards s client (Parted p) h text e found within = held_kept format shards s client (Parted p) h refl e found within
acted_kept format shards s client (Subscribed n) h text e found within = held_kept format shards s client (Subscribed n) h refl e found within
acted_kept format shards s client (Replaced r) h text e found within = held_kept format shards s client (Replaced r) h refl e found within
acted_kept format shards s client (Unsubscribed number) h text e found within = held_kept format shards s client (Unsubscribed number) h refl e found within
acted_kept format shards s client (Issued i) h text e found within = held_kept format shards s client (Issued i) h refl e found within
acted_kept format shards s client (Acked number) h text e found within = held_kept format shards s client (Acked number) h refl e found within
acted_kept format shards s client (Received number) h text e found within = held_kept format shards s client (Received number) h refl e found within
acted_kept format shards s client (Done number) h text e found within = held_kept format shards s client (Done number) h refl e found within
acted_kept format shards s client (Passed p) h text e found within = held_kept format shards s client (Passed p) h refl e found within

-- ---- a change that fits, and several

pub change_spelled : (format shards : ℕ) (s : KeptSessions) (c : Change) → fits_sessions format shards s ≡ true → fits_change format shards c ≡ true →
    kept_fits whole s c ≡ true → fits_sessions format shards (kept_acted c s) ≡ true
change_spelled format shards s c h f k =
    let p = and_parts (fits_text c.client) (fits_effect format shards c.effect) f in
    let q = and_parts (kept_finds s c.effect (session_of c.client s)) (kept_are_within whole (kept_acted c s)) k in
    from_held format shards (kept_acted c s) (acted_kept format shards s c.client c.effect (are_held format shards s h) p.0 p.1 q.0 q.1)

all_spelled : (format shards : ℕ) (s : KeptSessions) (changes : List Change) → fits_sessions format shards s ≡ true →
    list_all (fits_change format shards) changes ≡ true → kept_fit_all whole s changes ≡ true → fits_sessions format shards (kept_acted_all changes s) ≡ true
all_spelled format shards s [] h f k = h
all_spelled format shards s (c ∷ changes) h f k =
    let p = and_parts (fits_change format shards c) (list_all (fits_change format shards) changes) f in
    let q = and_parts (kept_fits whole s c) (kept_fit_all whole (kept_acted c s) changes) k in
    all_spelled format shards (kept_acted c s) changes (change_spelled format shards s c h p.0 q.0) p.1 q.1

pub changes_spelled_after : (format shards : ℕ) (s : KeptSessions) (changes : List Change) → fits_sessions format shards s ≡ true →
    have_spelling format shards changes ≡ true → kept_fit_all whole s changes ≡ true → fits_sessions format shards (kept_acted_all changes s) ≡ true
changes_spelled_after format shards s changes h f k =
    all_spelled format shards s changes h (and_parts (is_change_count (length changes)) (list_all (fits_change format shards) changes) f).1 k

-- ---- what was read in the first format has a spelling in the second

second_held : (shards : ℕ) (m : KeptSession) → may_be_held FIRST_FORMAT shards m ≡ true → may_be_held SECOND_FORMAT shards m ≡ true
second_held shards m h =
    let p = and_parts (fits_session FIRST_FORMAT shards m) (is_sound m) h in
    let t = told FIRST_FORMAT shards m p.0 in
    let f = t.fits in
    let window = eqb-true m.window 512 f.window in
    and_from (fits_session SECOND_FORMAT shards m) (is_sound m)
    (session_from SECOND_FORMAT shards m
    (record {
      client = f.client;
      incarnation = f.incarnation;
      expiry = f.expiry;
      window = lt-ltb m.window (2 ^ 16) (omega arith);
      parted = f.parted;
      next_sub = f.next_sub;
      next_version = f.next_version;
      subs = f.subs;
      versions = f.versions;
      batches = f.batches;
    })
    t.order p.1)
    p.1

each_second : (shards : ℕ) (ms : List KeptSession) → list_all (may_be_held FIRST_FORMAT shards) ms ≡ true → list_all (may_be_held SECOND_FORMAT shards) ms ≡ true
each_second shards [] h = refl
each_second shards (m ∷ ms) h =
    let p = and_parts (may_be_held FIRST_FORMAT shards m) (list_all (may_be_held FIRST_FORMAT shards) ms) h in
    and_from (may_be_held SECOND_FORMAT shards m) (list_all (may_be_held SECOND_FORMAT shards) ms) (second_held shards m p.0) (each_second shards ms p.1)

pub second_format : (shards : ℕ) (s : KeptSessions) → fits_sessions FIRST_FORMAT shards s ≡ true → fits_sessions SECOND_FORMAT shards s ≡ true
second_format shards s h =
    let held = are_held FIRST_FORMAT shards s h in
    from_held SECOND_FORMAT shards s (record { next = held.next; each = each_second shards s.list held.each; apart = held.apart })
