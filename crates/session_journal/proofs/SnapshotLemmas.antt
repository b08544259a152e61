-- Snapshots that were read or written.
use Rattle.std.proofs.Common.{◌≡◌, ℕ, ◌+◌, ◌^◌, ◌<◌, ◌≤◌, ◌++◌, length-append, IsTrue, List, length, refl, sym, ap, subst, ◌∙◌, arith}
use Rattle.std.proofs.lemmas.Bool.{lt-ltb}
use Rattle.std.specs.Int.{w64, to_be_bytes}
use Rattle.session_state.specs.KeptSession.{KeptSessions}
use Rattle.session_codec.specs.declared.formats.TheConstants.{SECOND_FORMAT}
use Rattle.session_codec.specs.Bounds.{snapshot_long}
use Rattle.session_codec.specs.HeldBounds.{are_bounded}
use Rattle.session_codec.specs.Spelling.{KeptSnapshot, snapshot_to_write, spelled_snapshot}
use Rattle.session_codec.specs.HasSpelling.{SpellsSnapshot, fits_sessions, has_spelling}
use Rattle.session_journal.specs.declared.limits.TheConstants.{MOST_SNAPSHOT}
use Rattle.session_journal.specs.Fold.{format_told}

pub written_short : (shards workers worker : ℕ) (s : KeptSessions) → shards ≤ 8 → IsTrue (has_spelling (snapshot_to_write shards workers worker s)) →
    length (spelled_snapshot (snapshot_to_write shards workers worker s)) ≤ MOST_SNAPSHOT
written_short shards workers worker s few has = snapshot_long 64 shards workers worker s (are_bounded shards workers worker s few has)

-- one that was read in the format that is written is one that is written
pub read_short : (s : KeptSnapshot) (bytes : List ℕ) → SpellsSnapshot bytes s → s.shards ≤ 8 → format_told bytes ≡ SECOND_FORMAT → length bytes ≤ MOST_SNAPSHOT
read_short s bytes spells few told =
    let format : s.format ≡ SECOND_FORMAT = sym (ap format_told spells.is) ∙ told in
    let same : s ≡ snapshot_to_write s.shards s.workers s.worker s.sessions =
    ap (λ f. record { format = f; shards = s.shards; workers = s.workers; worker = s.worker; sessions = s.sessions }) format in
    subst (λ b. length b ≤ MOST_SNAPSHOT) (sym (spells.is ∙ ap spelled_snapshot same))
    (written_short s.shards s.workers s.worker s.sessions few (subst (λ k. IsTrue (has_spelling k)) same spells.has))

-- a snapshot of sessions that have a spelling has one
pub is_spelled : (shards workers worker : ℕ) (s : KeptSessions) → shards < 2 ^ 8 → workers < 2 ^ 8 → worker < 2 ^ 8 → IsTrue (fits_sessions SECOND_FORMAT shards s) →
    IsTrue (has_spelling (snapshot_to_write shards workers worker s))
is_spelled shards workers worker s a b c fits = rw (lt-ltb shards (2 ^ 8) a, lt-ltb workers (2 ^ 8) b, lt-ltb worker (2 ^ 8) c) fits

-- behind its epoch
pub drafted_short : (epoch shards workers worker : ℕ) (s : KeptSessions) (bytes : List ℕ) → shards < 2 ^ 8 → workers < 2 ^ 8 → worker < 2 ^ 8 → shards ≤ 8
    → IsTrue (fits_sessions SECOND_FORMAT shards s)
    → bytes ≡ to_be_bytes w64 epoch ++ spelled_snapshot (snapshot_to_write shards workers worker s) → length bytes ≤ 8 + MOST_SNAPSHOT
drafted_short epoch shards workers worker s bytes a b c few fits is =
    let long : length bytes ≡ length (to_be_bytes w64 epoch) + length (spelled_snapshot (snapshot_to_write shards workers worker s)) =
    ap length is ∙ length-append (to_be_bytes w64 epoch) (spelled_snapshot (snapshot_to_write shards workers worker s)) in
    let eight : length (to_be_bytes w64 epoch) ≡ 8 = refl in
    let short : length (spelled_snapshot (snapshot_to_write shards workers worker s)) ≤ MOST_SNAPSHOT =
    written_short shards workers worker s few (is_spelled shards workers worker s a b c fits) in
    omega arith
