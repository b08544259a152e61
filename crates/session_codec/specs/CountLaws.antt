-- The counts of what has a spelling can be told.
use Rattle.std.proofs.Common.{◌≡◌, ℕ, ◌^◌, ◌<◌, ◌≤◌, Bool, true, ◌&&◌, List, [], ◌∷◌, length, All, arith}
use Rattle.std.specs.List.{list_all}
use Rattle.std.proofs.lemmas.Bool.{and_parts, ltb-true}
use Rattle.std.proofs.lemmas.List.Elements.{All-cons, All-nil}
use Rattle.wire_fields.specs.Text.{is_text}
use Rattle.seq_tracks.specs.InOrder.{are_in_order}
use Rattle.session_state.specs.KeptSession.{KeptSession, KeptSessions}
use Rattle.session_codec.specs.declared.formats.TheConstants.{SECOND_FORMAT}
use Rattle.session_codec.specs.Spelling.{marks_of, snapshot_to_write}
use Rattle.session_codec.specs.Soundness.{are_sound}
use Rattle.session_state.specs.SoundTest.{is_sound}
use Rattle.session_codec.specs.HasSpelling.{fits_u8, fits_u16, fits_u32, fits_u64, fits_text, fits_window, fits_parting, fits_marks, fits_done, fits_tracks, have_tracks, fits_sub, fits_subs, fits_version, fits_versions, fits_batch, is_of_shard, fits_batches, fits_holder, fits_kept, fits_session, may_be_held, fits_sessions, is_format, has_spelling}
use Rattle.session_codec.specs.Taking.{HasCounts}

pub all_from : {A : Type 0} (f : A → Bool) (P : A → Type 0) → ((x : A) → f x ≡ true → P x) → (xs : List A) → list_all f xs ≡ true → All P xs
all_from f P h [] e = All-nil P
all_from f P h (x ∷ xs) e = let p = and_parts (f x) (list_all f xs) e in All-cons P x xs (h x p.0) (all_from f P h xs p.1)

few : (n : ℕ) (others : Bool) → (fits_u16 n && others) ≡ true → n ≤ 65535
few n others h = let less : n < 2 ^ 16 = ltb-true n (2 ^ 16) (and_parts (fits_u16 n) others h).0 in omega arith

counts_of : (shards : ℕ) (m : KeptSession) → may_be_held SECOND_FORMAT shards m ≡ true → HasCounts m
counts_of shards m h =
    let s = and_parts (fits_session SECOND_FORMAT shards m) (is_sound m) h in
    let parts = and_parts (fits_holder SECOND_FORMAT m) (fits_kept shards m) s.0 in
    let holder = and_parts (fits_text m.client) (fits_u64 m.incarnation && (fits_u32 m.expiry && (fits_window SECOND_FORMAT m.window && fits_parting m.parted))) parts.0 in
    let lists : Bool = fits_subs shards m.subs && (fits_versions m.versions && fits_batches shards m.batches) in
    let first = and_parts (fits_u32 m.next_sub) (fits_u32 m.next_version && (have_tracks m.tracks && lists)) parts.1 in
    let second = and_parts (fits_u32 m.next_version) (have_tracks m.tracks && lists) first.1 in
    let third = and_parts (have_tracks m.tracks) lists second.1 in
    let tracks = and_parts (fits_tracks m.tracks) (are_in_order m.tracks) third.0 in
    let done = and_parts (fits_marks (marks_of m.tracks)) (fits_done m.tracks.done) tracks.0 in
    let fourth = and_parts (fits_subs shards m.subs) (fits_versions m.versions && fits_batches shards m.batches) third.1 in
    let fifth = and_parts (fits_versions m.versions) (fits_batches shards m.batches) fourth.1 in
    record {
      client = few (length m.client) (is_text m.client) holder.0;
      done = few (length m.tracks.done) (list_all fits_u64 m.tracks.done) done.1;
      subs = few (length m.subs) (list_all (fits_sub shards) m.subs) fourth.0;
      versions = few (length m.versions) (list_all fits_version m.versions) fifth.0;
      batches = few (length m.batches) (list_all (λ b. fits_batch b && is_of_shard shards b) m.batches) fifth.1;
    }

pub all_counts : (shards workers worker : ℕ) (s : KeptSessions) → has_spelling (snapshot_to_write shards workers worker s) ≡ true → All HasCounts s.list
all_counts shards workers worker s h =
    let a = and_parts (is_format SECOND_FORMAT) (fits_u8 shards && (fits_u8 workers && (fits_u8 worker && fits_sessions SECOND_FORMAT shards s))) h in
    let b = and_parts (fits_u8 shards) (fits_u8 workers && (fits_u8 worker && fits_sessions SECOND_FORMAT shards s)) a.1 in
    let c = and_parts (fits_u8 workers) (fits_u8 worker && fits_sessions SECOND_FORMAT shards s) b.1 in
    let d = and_parts (fits_u8 worker) (fits_sessions SECOND_FORMAT shards s) c.1 in
    let inner : Bool = fits_u64 s.next && (fits_u32 (length s.list) && list_all (may_be_held SECOND_FORMAT shards) s.list) in
    let e = and_parts inner (are_sound s) d.1 in
    let f = and_parts (fits_u64 s.next) (fits_u32 (length s.list) && list_all (may_be_held SECOND_FORMAT shards) s.list) e.0 in
    let g = and_parts (fits_u32 (length s.list)) (list_all (may_be_held SECOND_FORMAT shards) s.list) f.1 in
    all_from (may_be_held SECOND_FORMAT shards) HasCounts (counts_of shards) s.list g.1
