-- What has a spelling is bounded.
use Rattle.std.proofs.Common.{◌≡◌, inl, inr, ℕ, ◌+◌, ◌*◌, ◌≤◌, Bool, true, false, ◌&&◌, ◌||◌, ◌==◌, eqb, if◌then◌else◌, List, [], ◌∷◌, length, refl, arith}
use Rattle.std.specs.Prelude.{nat_lt, nat_le}
use Rattle.std.specs.List.{list_all, sum_by}
use Rattle.std.proofs.lemmas.Bool.{and_parts, eqb-true, leb-true}
use Rattle.std.proofs.lemmas.List.Sums.{sum_by-cons}
use Rattle.topic_model.specs.Profile.{whole}
use Rattle.seq_tracks.specs.PlainTracks.{PlainTracks, in_use}
use Rattle.seq_tracks.specs.InOrder.{are_in_order, ascend}
use Rattle.session_state.specs.KeptSub.{KeptSub}
use Rattle.session_state.specs.KeptSession.{KeptSession, KeptSessions}
use Rattle.session_state.specs.KeptActing.{has_unfinished}
use Rattle.session_state.specs.KeptFits.{live_count, text_bytes, is_window, has_filters, subs_within, kept_within, is_wide, wide_count, kept_are_within}
use Rattle.session_state.specs.SoundTest.{is_sound, is_tidy, has_facts, has_numbers, names_held, ended_rest, are_issued, each_lies1, each_lies2, is_needed, is_wanted, rise, sub_numbers, version_numbers}
use Rattle.session_codec.specs.declared.formats.TheConstants.{SECOND_FORMAT}
use Rattle.session_codec.specs.Spelling.{snapshot_to_write}
use Rattle.session_codec.specs.Soundness.{sessions_with, are_sound}
use Rattle.session_codec.specs.HasSpelling.{fits_u8, fits_u32, fits_u64, fits_filter, fits_sweep, are_sweeps, fits_sub, fits_tracks, have_tracks, fits_subs, fits_versions, fits_batches, fits_holder, fits_kept, fits_session, may_be_held, fits_sessions, is_format, has_spelling, fits_u16}
use Rattle.session_codec.specs.ApartLaws.{added_within}
use Rattle.session_codec.specs.CountLaws.{all_from}
use Rattle.session_codec.specs.SoundBounds.{done_few, batches_few}
use Rattle.session_codec.specs.NeedBounds.{one_if, filter_sum, versions_few, subs_few}
use Rattle.session_codec.specs.Bounds.{IsBounded, HasWindow, wide_ones, AreBounded}

-- ---- the sweeps of live subscriptions

sweeps_of : (shards : ℕ) (s : KeptSub) → shards ≤ 8 → fits_sub shards s ≡ true → length s.sweeps ≤ 8 * one_if s.live
sweeps_of shards s few h =
    let a = and_parts (fits_u32 s.number) (fits_u32 s.version && (fits_filter s.filter && are_sweeps (if s.live then shards else 0) s.sweeps)) h in
    let b = and_parts (fits_u32 s.version) (fits_filter s.filter && are_sweeps (if s.live then shards else 0) s.sweeps) a.1 in
    let c = and_parts (fits_filter s.filter) (are_sweeps (if s.live then shards else 0) s.sweeps) b.1 in
    let d = and_parts (length s.sweeps == (if s.live then shards else 0)) (list_all fits_sweep s.sweeps) c.1 in
    by s.live (eqb-true (length s.sweeps) (if s.live then shards else 0) d.0)
  where
    by : (b : Bool) → length s.sweeps ≡ (if b then shards else 0) → length s.sweeps ≤ 8 * one_if b
    by true e = omega arith
    by false e = omega arith

sweeps_few : (shards : ℕ) (subs : List KeptSub) → shards ≤ 8 → list_all (fits_sub shards) subs ≡ true →
    sum_by (λ (s : KeptSub). length s.sweeps) subs ≤ 8 * sum_by (λ (s : KeptSub). one_if s.live) subs
sweeps_few shards [] few h = omega arith
sweeps_few shards (s ∷ subs) few h =
    let p = and_parts (fits_sub shards s) (list_all (fits_sub shards) subs) h in
    let rest : sum_by (λ (s : KeptSub). length s.sweeps) subs ≤ 8 * sum_by (λ (s : KeptSub). one_if s.live) subs = sweeps_few shards subs few p.1 in
    let one = sweeps_of shards s few p.0 in
    omega (arith, sum_by-cons (λ (s : KeptSub). length s.sweeps) s subs, sum_by-cons (λ (s : KeptSub). one_if s.live) s subs)

-- ---- tracks

record Marked (t : PlainTracks) : Type 0 where
  acked : t.acked ≤ t.issued1
  complete : t.complete ≤ t.received
  received : t.received ≤ t.issued2
  done : ascend (t.complete + 1) t.received t.done ≡ true

marked : (t : PlainTracks) → are_in_order t ≡ true → Marked t
marked t h =
    let last : Bool = ascend (t.complete + 1) t.received t.done in
    let f : Bool = nat_le (in_use t) 2048 && last in
    let e : Bool = nat_lt t.issued2 (18446744073709551615) && f in
    let d : Bool = nat_lt t.issued1 (18446744073709551615) && e in
    let c : Bool = nat_le t.received t.issued2 && d in
    let b : Bool = nat_le t.complete t.received && c in
    let one = and_parts (nat_le t.acked t.issued1) b h in
    let two = and_parts (nat_le t.complete t.received) c one.1 in
    let three = and_parts (nat_le t.received t.issued2) d two.1 in
    let four = and_parts (nat_lt t.issued1 (18446744073709551615)) e three.1 in
    let five = and_parts (nat_lt t.issued2 (18446744073709551615)) f four.1 in
    let six = and_parts (nat_le (in_use t) 2048) last five.1 in
    record {
      acked = leb-true t.acked t.issued1 one.0;
      complete = leb-true t.complete t.received two.0;
      received = leb-true t.received t.issued2 three.0;
      done = six.1;
    }

-- ---- a session

has_window : (m : KeptSession) → is_window whole m.window ≡ true → HasWindow m
has_window m h = by (m.window == 512) refl h
  where
    by : (b : Bool) → eqb m.window 512 ≡ b → (b || (m.window == 2048)) ≡ true → HasWindow m
    by true e h = inl (eqb-true m.window 512 e)
    by false e h = inr (eqb-true m.window 2048 h)

record Held (m : KeptSession) : Type 0 where
  window : HasWindow m
  bounded : IsBounded 64 m

held : (shards : ℕ) (m : KeptSession) → shards ≤ 8 → may_be_held SECOND_FORMAT shards m ≡ true → Held m
held shards m few h =
    let s = and_parts (fits_session SECOND_FORMAT shards m) (is_sound m) h in
    -- what its spelling tells
    let parts = and_parts (fits_holder SECOND_FORMAT m) (fits_kept shards m) s.0 in
    let lists : Bool = fits_subs shards m.subs && (fits_versions m.versions && fits_batches shards m.batches) in
    let k1 = and_parts (fits_u32 m.next_sub) (fits_u32 m.next_version && (have_tracks m.tracks && lists)) parts.1 in
    let k2 = and_parts (fits_u32 m.next_version) (have_tracks m.tracks && lists) k1.1 in
    let k3 = and_parts (have_tracks m.tracks) lists k2.1 in
    let marks = marked m.tracks (and_parts (fits_tracks m.tracks) (are_in_order m.tracks) k3.0).1 in
    let k4 = and_parts (fits_subs shards m.subs) (fits_versions m.versions && fits_batches shards m.batches) k3.1 in
    let k5 = and_parts (fits_u16 (length m.subs)) (list_all (fits_sub shards) m.subs) k4.0 in
    let sweeps = sweeps_few shards m.subs few k5.1 in
    -- the limits
    let t = and_parts (kept_within whole m) (is_tidy m && has_facts m) s.1 in
    let w1 = and_parts (nat_le (length m.client) 256) (is_window whole m.window && (subs_within whole m.subs && nat_le (in_use m.tracks) m.window)) t.0 in
    let w2 = and_parts (is_window whole m.window) (subs_within whole m.subs && nat_le (in_use m.tracks) m.window) w1.1 in
    let w3 = and_parts (subs_within whole m.subs) (nat_le (in_use m.tracks) m.window) w2.1 in
    let w4 = and_parts (nat_le (live_count m.subs) 64) (has_filters m.subs && nat_le (text_bytes m.subs) 65536) w3.0 in
    let w5 = and_parts (has_filters m.subs) (nat_le (text_bytes m.subs) 65536) w4.1 in
    let client : length m.client ≤ 256 = leb-true (length m.client) 256 w1.0 in
    let use_ : in_use m.tracks ≤ m.window = leb-true (in_use m.tracks) m.window w3.1 in
    let live : live_count m.subs ≤ 64 = leb-true (live_count m.subs) 64 w4.0 in
    let texts : text_bytes m.subs ≤ 65536 = leb-true (text_bytes m.subs) 65536 w5.1 in
    let all_live = filter_sum (λ (s : KeptSub). s.live) m.subs in
    -- what is kept
    let f = and_parts (is_tidy m) (has_facts m) t.1 in
    let tidy = and_parts (list_all (has_unfinished m.tracks) m.batches) (list_all (is_needed m.subs m.batches) m.versions && list_all (is_wanted m.versions) m.subs) f.0 in
    let kept = and_parts (list_all (is_needed m.subs m.batches) m.versions) (list_all (is_wanted m.versions) m.subs) tidy.1 in
    let lies : Bool = each_lies1 m.tracks m.batches && each_lies2 m.tracks m.batches in
    let issued : Bool = are_issued 1 1 m.tracks.issued1 m.tracks.issued2 m.batches in
    let g1 = and_parts (has_numbers m) (names_held m && (ended_rest m.subs && (issued && lies))) f.1 in
    let g2 = and_parts (names_held m) (ended_rest m.subs && (issued && lies)) g1.1 in
    let g3 = and_parts (ended_rest m.subs) (issued && lies) g2.1 in
    let g4 = and_parts issued lies g3.1 in
    let numbers = and_parts (rise 0 m.next_sub (sub_numbers m.subs)) (rise 0 m.next_version (version_numbers m.versions)) g1.0 in
    let acked = marks.acked in
    let complete = marks.complete in
    let received = marks.received in
    let batches = batches_few m.tracks m.batches acked (omega arith) g4.0 tidy.0 in
    let versions = versions_few m.subs m.batches m.versions m.next_version numbers.1 kept.0 in
    let subs = subs_few m.versions m.subs m.next_sub numbers.0 kept.1 in
    let done = done_few (m.tracks.complete + 1) m.tracks.received m.tracks.done marks.done in
    record {
      window = has_window m w2.0;
      bounded = record {
        client = client;
        done = omega arith;
        subs = omega arith;
        texts = texts;
        sweeps = omega arith;
        versions = omega arith;
        batches = omega arith;
      };
    }

-- ---- the sessions of a worker

pub are_bounded : (shards workers worker : ℕ) (s : KeptSessions) → shards ≤ 8 → has_spelling (snapshot_to_write shards workers worker s) ≡ true → AreBounded 64 s
are_bounded shards workers worker s few h =
    let a = and_parts (is_format SECOND_FORMAT) (fits_u8 shards && (fits_u8 workers && (fits_u8 worker && fits_sessions SECOND_FORMAT shards s))) h in
    let b = and_parts (fits_u8 shards) (fits_u8 workers && (fits_u8 worker && fits_sessions SECOND_FORMAT shards s)) a.1 in
    let c = and_parts (fits_u8 workers) (fits_u8 worker && fits_sessions SECOND_FORMAT shards s) b.1 in
    let d = and_parts (fits_u8 worker) (fits_sessions SECOND_FORMAT shards s) c.1 in
    let inner : Bool = fits_u64 s.next && (fits_u32 (length s.list) && list_all (may_be_held SECOND_FORMAT shards) s.list) in
    let e = and_parts inner (are_sound s) d.1 in
    let f = and_parts (fits_u64 s.next) (fits_u32 (length s.list) && list_all (may_be_held SECOND_FORMAT shards) s.list) e.0 in
    let g = and_parts (fits_u32 (length s.list)) (list_all (may_be_held SECOND_FORMAT shards) s.list) f.1 in
    let within : kept_are_within whole s ≡ true = added_within (sessions_with s.next []) s.list refl e.1 in
    let w1 = and_parts (nat_le (length s.list) 4096) (nat_le (wide_count whole s.list) 256 && list_all (kept_within whole) s.list) within in
    let w2 = and_parts (nat_le (wide_count whole s.list) 256) (list_all (kept_within whole) s.list) w1.1 in
    let wide : wide_count whole s.list ≤ 256 = leb-true (wide_count whole s.list) 256 w2.0 in
    let same : wide_ones s.list ≡ wide_count whole s.list = filter_sum (is_wide whole) s.list in
    record {
      count = leb-true (length s.list) 4096 w1.0;
      wide = omega arith;
      windows = all_from (may_be_held SECOND_FORMAT shards) HasWindow (λ m k. (held shards m few k).window) s.list g.1;
      each = all_from (may_be_held SECOND_FORMAT shards) (IsBounded 64) (λ m k. (held shards m few k).bounded) s.list g.1;
    }
