-- Laws of what records hold: a record more, a snapshot alone, and a new journal.
use Rattle.std.proofs.Common.{◌≡◌, ℕ, ◌+◌, ◌^◌, ◌<◌, eq-eqb, Bool, true, false, if◌then◌else◌, IsTrue, List, [], ◌∷◌, ◌++◌, length, Some, None, refl, ap, ◌∙◌, arith}
use Rattle.std.specs.Prelude.{slice_get}
use Rattle.std.proofs.lemmas.Bool.{lt-ltb}
use Rattle.std.specs.Int.{w64, to_be_bytes}
use Rattle.topic_model.specs.Profile.{whole}
use Rattle.topic_name.specs.declared.mounting.What.TheVariants.{Format}
use Rattle.session_state.specs.declared.change.Change.{Change}
use Rattle.session_state.specs.KeptSession.{KeptSessions, no_kept_sessions}
use Rattle.session_state.specs.KeptActing.{kept_acted_all}
use Rattle.session_state.specs.KeptFits.{kept_fit_all}
use Rattle.session_codec.specs.declared.formats.TheConstants.{SECOND_FORMAT}
use Rattle.session_codec.specs.Spelling.{snapshot_to_write, spelled_changes, spelled_snapshot}
use Rattle.session_codec.specs.HasSpelling.{has_spelling, have_spelling, is_format}
use Rattle.session_codec.specs.Reading.{snapshot_in}
use Rattle.session_codec.specs.ExactLaws.{changes_again, snapshot_again}
use Rattle.gated_log.specs.PlainLog.{end_of}
use Rattle.pair_log.specs.Epochs.{snapshot_of}
use Rattle.pair_log.specs.PlainPair.{head_of}
use Rattle.session_journal.specs.declared.asked.Asked.{Asked}
use Rattle.pair_log.specs.Mounted.{or_first}
use Rattle.session_journal.specs.Mounting.{first_snapshot}
use Rattle.session_journal.specs.Fold.{Folded, Holds, IsDamaged, HasAnother, applied, folded, fold_records, format_told, opened, opened_by, read_or_damaged, checked, with_changes}

-- one more record is read after the others
fold_more : (format shards place : ℕ) (so_far : Folded) (payloads : List (List ℕ)) (payload : List ℕ) →
    fold_records format shards place so_far (payloads ++ payload ∷ [])
    ≡ with_changes format shards (place + end_of payloads) payload (fold_records format shards place so_far payloads)
fold_more format shards place so_far [] payload = ap (λ n. with_changes format shards n payload so_far) (omega arith)
fold_more format shards place so_far (p ∷ payloads) payload =
    fold_more format shards (place + (5 + length p)) (with_changes format shards place p so_far) payloads payload
    ∙ ap (λ n. with_changes format shards n payload (fold_records format shards (place + (5 + length p)) (with_changes format shards place p so_far) payloads)) (omega arith)

pub fold_appended : (asked : Asked) (payloads : List (List ℕ)) (payload : List ℕ) → 0 < length payloads →
    folded asked (payloads ++ payload ∷ []) ≡ with_changes (format_told (snapshot_of (head_of payloads))) asked.shards (end_of payloads) payload (folded asked payloads)
unfolding folded
fold_appended asked [] payload some = absurd (omega (arith, some))
fold_appended asked (p ∷ payloads) payload some =
    fold_more (format_told (snapshot_of p)) asked.shards (5 + length p) (opened asked (snapshot_of p)) payloads payload

-- a record of changes that fit, behind records that hold sessions
pub changes_appended : (asked : Asked) (payloads : List (List ℕ)) (s : KeptSessions) (changes : List Change) → 0 < length payloads →
    folded asked payloads ≡ Holds s → format_told (snapshot_of (head_of payloads)) ≡ SECOND_FORMAT →
    IsTrue (have_spelling SECOND_FORMAT asked.shards changes) → kept_fit_all whole s changes ≡ true →
    folded asked (payloads ++ spelled_changes SECOND_FORMAT changes ∷ []) ≡ Holds (kept_acted_all changes s)
changes_appended asked payloads s changes some holds format has fit =
    fold_appended asked payloads (spelled_changes SECOND_FORMAT changes) some
    ∙ ap (λ f. with_changes f asked.shards (end_of payloads) (spelled_changes SECOND_FORMAT changes) (folded asked payloads)) format
    ∙ ap (with_changes SECOND_FORMAT asked.shards (end_of payloads) (spelled_changes SECOND_FORMAT changes)) holds
    ∙ ap (applied (end_of payloads) s) (changes_again SECOND_FORMAT asked.shards changes has)
    ∙ ap (λ (b : Bool). if b then Holds (kept_acted_all changes s) else IsDamaged (end_of payloads)) fit

-- a snapshot that was written
checked_same : (asked : Asked) (s : KeptSessions) → checked asked (snapshot_to_write asked.shards asked.workers asked.worker s) ≡ Holds s
checked_same asked s = rw (eq-eqb asked.shards asked.shards refl, eq-eqb asked.workers asked.workers refl, eq-eqb asked.worker asked.worker refl) refl

pub snapshot_opened : (asked : Asked) (s : KeptSessions) → IsTrue (has_spelling (snapshot_to_write asked.shards asked.workers asked.worker s)) →
    opened asked (spelled_snapshot (snapshot_to_write asked.shards asked.workers asked.worker s)) ≡ Holds s
unfolding opened
snapshot_opened asked s has =
    ap (read_or_damaged asked) (snapshot_again (snapshot_to_write asked.shards asked.workers asked.worker s) has) ∙ checked_same asked s

-- behind its epoch
pub behind_epoch : (epoch : ℕ) (bytes : List ℕ) → snapshot_of (to_be_bytes w64 epoch ++ bytes) ≡ bytes
behind_epoch epoch bytes = refl

pub snapshot_folded : (asked : Asked) (epoch : ℕ) (s : KeptSessions) → IsTrue (has_spelling (snapshot_to_write asked.shards asked.workers asked.worker s)) →
    folded asked ((to_be_bytes w64 epoch ++ spelled_snapshot (snapshot_to_write asked.shards asked.workers asked.worker s)) ∷ []) ≡ Holds s
unfolding folded
snapshot_folded asked epoch s has = ap (opened asked) (behind_epoch epoch (spelled_snapshot (snapshot_to_write asked.shards asked.workers asked.worker s))) ∙ snapshot_opened asked s has

-- a new journal has no sessions
pub none_spelled : (shards workers worker : ℕ) → shards < 2 ^ 8 → workers < 2 ^ 8 → worker < 2 ^ 8 →
    IsTrue (has_spelling (snapshot_to_write shards workers worker no_kept_sessions))
none_spelled shards workers worker s w n = rw (lt-ltb shards (2 ^ 8) s, lt-ltb workers (2 ^ 8) w, lt-ltb worker (2 ^ 8) n) refl

pub new_folded : (asked : Asked) (payloads : List (List ℕ)) → asked.shards < 2 ^ 8 → asked.workers < 2 ^ 8 → asked.worker < 2 ^ 8 →
    folded asked (or_first (first_snapshot asked) payloads) ≡ folded asked payloads
unfolding folded
new_folded asked [] s w n = snapshot_folded asked 1 no_kept_sessions (none_spelled asked.shards asked.workers asked.worker s w n)
new_folded asked (p ∷ payloads) s w n = refl

-- ---- by the first byte

pub opened_none : (asked : Asked) (bytes : List ℕ) → slice_get bytes 0 ≡ None → opened asked bytes ≡ IsDamaged 0
unfolding opened
opened_none asked bytes none = ap (opened_by asked bytes) none

pub opened_unknown : (asked : Asked) (bytes : List ℕ) (format : ℕ) → slice_get bytes 0 ≡ Some format → is_format format ≡ false →
    opened asked bytes ≡ HasAnother Format format SECOND_FORMAT
unfolding opened
opened_unknown asked bytes format some known =
    ap (opened_by asked bytes) some ∙ ap (λ (b : Bool). if b then read_or_damaged asked (snapshot_in bytes) else HasAnother Format format SECOND_FORMAT) known

pub opened_known : (asked : Asked) (bytes : List ℕ) (format : ℕ) → slice_get bytes 0 ≡ Some format → is_format format ≡ true →
    opened asked bytes ≡ read_or_damaged asked (snapshot_in bytes)
unfolding opened
opened_known asked bytes format some known =
    ap (opened_by asked bytes) some ∙ ap (λ (b : Bool). if b then read_or_damaged asked (snapshot_in bytes) else HasAnother Format format SECOND_FORMAT) known
