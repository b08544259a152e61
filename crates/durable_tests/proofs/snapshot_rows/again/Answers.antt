use Rattle.std.proofs.Common.{◌≡◌, ℕ, Bool, true, false, ◌&&◌, ◌||◌, ◌==◌, refl, sym, subst}
use Rattle.std.proofs.lemmas.Bool.{and_parts, and_from, eqb-true}
use Rattle.session_codec.specs.declared.formats.TheConstants.{FIRST_FORMAT, SECOND_FORMAT}
use Rattle.session_codec.specs.Spelling.{KeptSnapshot, snapshot_to_write}
use Rattle.session_codec.specs.HasSpelling.{fits_sessions, fits_u8, has_spelling, is_format}
use Rattle.session_codec.specs.KeepLaws.{second_format}
use Rattle.durable_tests.proofs.snapshot_rows.again.Goals as goal

-- the sessions that were read have a spelling in the second format
sessions_again : (s : KeptSnapshot) → is_format s.format ≡ true → fits_sessions s.format s.shards s.sessions ≡ true →
    fits_sessions SECOND_FORMAT s.shards s.sessions ≡ true
sessions_again s known fits = by (s.format == FIRST_FORMAT) refl known
  where
    by : (b : Bool) → (s.format == FIRST_FORMAT) ≡ b → (b || (s.format == SECOND_FORMAT)) ≡ true → fits_sessions SECOND_FORMAT s.shards s.sessions ≡ true
    by true e known = second_format s.shards s.sessions (subst (λ (f : ℕ). fits_sessions f s.shards s.sessions ≡ true) (eqb-true s.format FIRST_FORMAT e) fits)
    by false e known = subst (λ (f : ℕ). fits_sessions f s.shards s.sessions ≡ true) (eqb-true s.format SECOND_FORMAT known) fits

written_again : (s : KeptSnapshot) → has_spelling s ≡ true → has_spelling (snapshot_to_write s.shards s.workers s.worker s.sessions) ≡ true
written_again s h =
    let fits = fits_sessions s.format s.shards s.sessions in
    let again = fits_sessions SECOND_FORMAT s.shards s.sessions in
    let a = and_parts (is_format s.format) (fits_u8 s.shards && (fits_u8 s.workers && (fits_u8 s.worker && fits))) h in
    let b = and_parts (fits_u8 s.shards) (fits_u8 s.workers && (fits_u8 s.worker && fits)) a.1 in
    let c = and_parts (fits_u8 s.workers) (fits_u8 s.worker && fits) b.1 in
    let d = and_parts (fits_u8 s.worker) fits c.1 in
    and_from (fits_u8 s.shards) (fits_u8 s.workers && (fits_u8 s.worker && again)) b.0
    (and_from (fits_u8 s.workers) (fits_u8 s.worker && again) c.0 (and_from (fits_u8 s.worker) again d.0 (sessions_again s a.0 d.1)))

pub write_snapshot-requires : goal.write_snapshot-requires
write_snapshot-requires c =
    let r = c.read.inside in
    let s : KeptSnapshot = record { format = r.format; shards = r.shards; workers = r.workers; worker = r.worker; sessions = r.sessions } in
    written_again s (subst (λ (s : KeptSnapshot). has_spelling s ≡ true) (sym c.read.view_is) c.in_ok-read.ensures.spelled.has)
