-- The form of each part of a snapshot, and of a snapshot.
use Rattle.std.proofs.Common.{◌≡◌, ℕ, ◌^◌, Bool, true, false, ◌||◌, ◌==◌, eqb, refl, arith}
use Rattle.std.proofs.lemmas.Bool.{eqb-true, lt-ltb}
use Rattle.wire_fields.specs.Spelled.{spelled_u8}
use Rattle.seq_tracks.specs.declared.marks.Marks.{Marks}
use Rattle.seq_tracks.specs.PlainTracks.{PlainTracks}
use Rattle.seq_tracks.specs.InOrder.{are_in_order}
use Rattle.session_state.specs.KeptSession.{KeptSession, KeptSessions}
use Rattle.session_codec.specs.declared.formats.TheConstants.{FIRST_FORMAT, SECOND_FORMAT}
use Rattle.session_codec.specs.Spelling.{marks_of, KeptSnapshot, spelled_marks, spelled_tracks, spelled_subs, spelled_versions, spelled_batches, spelled_session, spelled_sessions, spelled_snapshot}
use Rattle.session_codec.specs.HasSpelling.{fits_u8, fits_marks, have_tracks, fits_subs, fits_versions, is_of_shard, fits_batches, may_be_held, fits_sessions, is_format, has_spelling}
use Rattle.session_codec.specs.Reading.{marks_with, marks_at, tracks_with, tracks_at, subs_at, versions_at, batches_at, session_of, session_at, sessions_of, sessions_at, format_at, snapshot_of, snapshot_at, snapshot_in}
use Rattle.session_codec.specs.Soundness.{are_sound}
use Rattle.session_state.specs.SoundTest.{is_sound}
use Rattle.session_codec.specs.Forms.{IsForm, IsWhole, then_form, both_form, passing_form, record_form, refit, counted_form, filling_whole}
use Rattle.session_codec.specs.PartForms.{byte_form, two_form, four_form, eight_form, name_form, window_form, parting_form, version_form, batch_form, sub_form, narrower}

pub marks_form : IsForm fits_marks spelled_marks marks_at
marks_form =
    record_form marks_with (λ (m : Marks). (m.issued1, (m.acked, (m.issued2, (m.received, m.complete))))) (λ m. refl) (λ x. refl)
    (both_form eight_form (both_form eight_form (both_form eight_form (both_form eight_form eight_form))))

pub tracks_form : IsForm have_tracks spelled_tracks tracks_at
tracks_form =
    passing_form are_in_order
    (record_form tracks_with (λ (t : PlainTracks). (marks_of t, t.done)) (λ t. refl) (λ x. refl) (both_form marks_form (counted_form two_form eight_form)))

pub subs_form : (shards : ℕ) → IsForm (fits_subs shards) spelled_subs (subs_at shards)
subs_form shards = counted_form two_form (sub_form shards)

pub versions_form : IsForm fits_versions spelled_versions versions_at
versions_form = counted_form two_form version_form

pub batches_form : (shards : ℕ) → IsForm (fits_batches shards) spelled_batches (batches_at shards)
batches_form shards = counted_form two_form (passing_form (is_of_shard shards) batch_form)

pub session_form : (format shards : ℕ) → IsForm (may_be_held format shards) (spelled_session format) (session_at format shards)
session_form format shards =
    passing_form is_sound
    (record_form session_of
    (λ (m : KeptSession). (
      (m.client, (m.incarnation, (m.expiry, (m.window, m.parted)))),
      (m.next_sub, (m.next_version, (m.tracks, (m.subs, (m.versions, m.batches))))),
    ))
    (λ m. refl) (λ x. refl)
    (both_form
    (both_form name_form (both_form eight_form (both_form four_form (both_form (window_form format) parting_form))))
    (both_form four_form (both_form four_form (both_form tracks_form (both_form (subs_form shards) (both_form versions_form (batches_form shards))))))))

pub sessions_form : (format shards : ℕ) → IsForm (fits_sessions format shards) (spelled_sessions format) (sessions_at format shards)
sessions_form format shards =
    passing_form are_sound
    (record_form sessions_of (λ (s : KeptSessions). (s.next, s.list)) (λ s. refl) (λ x. refl)
    (both_form eight_form (counted_form four_form (session_form format shards))))

format_within : (n : ℕ) → is_format n ≡ true → fits_u8 n ≡ true
format_within n h = by (n == FIRST_FORMAT) refl (n == SECOND_FORMAT) refl h
  where
    by : (a : Bool) → eqb n FIRST_FORMAT ≡ a → (b : Bool) → eqb n SECOND_FORMAT ≡ b → (a || b) ≡ true → fits_u8 n ≡ true
    by true e b f h = lt-ltb n (2 ^ 8) (omega (arith, eqb-true n FIRST_FORMAT e))
    by false e true f h = lt-ltb n (2 ^ 8) (omega (arith, eqb-true n SECOND_FORMAT f))
    by false e false f h = absurd cc

format_form : IsForm is_format spelled_u8 format_at
format_form = refit is_format (passing_form is_format byte_form) (narrower is_format fits_u8 format_within)

pub snapshot_form : IsForm has_spelling spelled_snapshot snapshot_at
snapshot_form =
    record_form snapshot_of (λ (s : KeptSnapshot). (s.format, (s.shards, (s.workers, (s.worker, s.sessions))))) (λ s. refl) (λ x. refl)
    (then_form format_form (λ format f. then_form byte_form (λ shards g.
    both_form byte_form (both_form byte_form (sessions_form format shards)))))

pub snapshot_whole : IsWhole has_spelling spelled_snapshot snapshot_in
unfolding snapshot_in
snapshot_whole = filling_whole snapshot_form
