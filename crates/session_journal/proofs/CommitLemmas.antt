-- What a journal holds once changes are in.
use Rattle.std.proofs.Common.{◌≡◌, inl, Bool, ◌&&◌, take, ℕ, ◌+◌, ◌-◌, Err, ◌≤◌, true, IsTrue, List, [], ◌∷◌, ◌++◌, length, refl, sym, ap, subst, ◌∙◌, arith}
use Rattle.std.proofs.lemmas.List.{length-drop}
use Rattle.std.specs.Int.{w64, to_be_bytes}
use Rattle.std.specs.Prelude.{◌==◌}
use Rattle.std.proofs.lemmas.Bool.{and_parts, eqb-true}
use Rattle.std.proofs.Math.Nat.{le_refl}
use Rattle.outside.specs.Along.{WithinBoth, keeps_at_first}
use Rattle.outside.specs.DiskModel.{DiskState}
use Rattle.topic_model.specs.Profile.{whole}
use Rattle.session_state.specs.declared.change.Change.{Change}
use Rattle.session_state.specs.KeptSession.{KeptSessions}
use Rattle.session_state.specs.KeptActing.{kept_acted_all}
use Rattle.session_state.specs.KeptFits.{kept_fit_all}
use Rattle.session_codec.specs.declared.formats.TheConstants.{SECOND_FORMAT}
use Rattle.session_codec.specs.Spelling.{snapshot_to_write, spelled_changes, spelled_snapshot}
use Rattle.session_codec.specs.HasSpelling.{fits_sessions, has_spelling, have_spelling}
use Rattle.pair_log.specs.declared.doubt.Doubt.TheVariants.{Nothing}
use Rattle.pair_log.specs.Epochs.{read_pair, snapshot_of}
use Rattle.pair_log.specs.PlainPair.{HasEither, Told, both_disks, first_disk, second_disk}
use Rattle.session_journal.specs.declared.asked.Asked.{Asked}
use Rattle.session_journal.specs.declared.head.Head.{Head}
use Rattle.session_journal.specs.declared.limits.TheConstants.{MOST_SNAPSHOT}
use Rattle.session_journal.specs.declared.refused.JournalRefused.TheVariants.{Fault, Memory}
use Rattle.session_journal.specs.Fold.{Folded, FoldsEither, Holds, folded, format_told}
use Rattle.session_journal.specs.Committed.{Commits}
use Rattle.session_journal.specs.FoldLaws.{changes_appended, snapshot_folded}
use Rattle.session_journal.specs.PlainJournal.{HasHead, IsAsked, IsHolding, IsJournal, PlainJournal, head_told, held}
use Rattle.session_journal.proofs.JournalLemmas.{HasMade, HasSessions, images_of}
use Rattle.session_journal.proofs.ReadLemmas.{rests_after}
use Rattle.session_journal.proofs.SnapshotLemmas.{is_spelled}

pub holding : {x : Folded} {s : KeptSessions} → x ≡ Holds s → IsHolding x
holding e = subst IsHolding (sym e) tt

-- a record behind the others
pub appended_sessions : {D : Type 0} (state : D → DiskState) (journal : PlainJournal D) (payload : List ℕ) (changes : List Change) (s : KeptSessions)
    → IsJournal state journal → journal.pair.doubt ≡ Nothing → (Told state journal.pair → held journal ≡ Holds s)
    → IsTrue (have_spelling SECOND_FORMAT journal.asked.shards changes) → kept_fit_all whole s changes ≡ true
    → payload ≡ spelled_changes SECOND_FORMAT changes → journal.head.format ≡ SECOND_FORMAT
    → HasSessions state journal (journal.pair.active.payloads ++ payload ∷ []) s (kept_acted_all changes s)
appended_sessions {D = D} state journal payload changes s is rests holds spelled fit same format = record {
  at_first = holds;
  later = λ told.
      ap (λ p. folded journal.asked (journal.pair.active.payloads ++ p ∷ [])) same
      ∙ changes_appended journal.asked journal.pair.active.payloads s changes (is.told told).now.some (holds told)
      (sym (ap (λ (h : Head). h.format) (is.told told).now.told) ∙ format) spelled fit;
  rests = rests;
}

-- has_spelling of what is asked
pub is_spelled_so : (asked : Asked) (s : KeptSessions) → IsAsked asked → IsTrue (fits_sessions SECOND_FORMAT asked.shards s)
    → IsTrue (has_spelling (snapshot_to_write asked.shards asked.workers asked.worker s))
is_spelled_so asked s is fits =
    let few = is.few_shards in let workers = is.few_workers in let worker = is.among in
    is_spelled asked.shards asked.workers asked.worker s (omega arith) (omega arith) (omega arith) fits

-- a snapshot alone
pub rewritten_sessions : {D : Type 0} (state : D → DiskState) (journal : PlainJournal D) (payload : List ℕ) (epoch : ℕ) (s after : KeptSessions)
    → IsAsked journal.asked → journal.pair.doubt ≡ Nothing → (Told state journal.pair → held journal ≡ Holds s)
    → IsTrue (fits_sessions SECOND_FORMAT journal.asked.shards after)
    → payload ≡ to_be_bytes w64 epoch ++ spelled_snapshot (snapshot_to_write journal.asked.shards journal.asked.workers journal.asked.worker after)
    → HasSessions state journal (payload ∷ []) s after
rewritten_sessions {D = D} state journal payload epoch s after is rests holds fits same = record {
  at_first = holds;
  later = λ told. ap (λ p. folded journal.asked (p ∷ [])) same ∙ snapshot_folded journal.asked epoch after (is_spelled_so journal.asked after is fits);
  rests = rests;
}

-- the head of a snapshot behind its epoch
pub snapshot_head : (payload : List ℕ) → format_told (snapshot_of payload) ≡ SECOND_FORMAT → record { format = SECOND_FORMAT; bytes = length payload - 8 } ≡ head_told (payload ∷ [])
snapshot_head payload format =
    ap (λ f. record { format = f; bytes = length payload - 8 }) (sym format)
    ∙ ap (λ n. record { format = format_told (snapshot_of payload); bytes = n }) (sym (length-drop 8 payload))

pub snapshot_has_head : (asked : Asked) (payload : List ℕ) → format_told (snapshot_of payload) ≡ SECOND_FORMAT → IsHolding (folded asked (payload ∷ []))
    → HasHead asked (record { format = SECOND_FORMAT; bytes = length payload - 8 }) (payload ∷ [])
snapshot_has_head asked payload format holds = record { some = omega arith; holds = holds; told = snapshot_head payload format }

-- a rewrite that is in doubt
pub doubted_made : {D : Type 0} (state : D → DiskState) (journal : PlainJournal D) (payload : List ℕ) → IsJournal state journal
    → length payload ≤ 8 + MOST_SNAPSHOT → format_told (snapshot_of payload) ≡ SECOND_FORMAT
    → (Told state journal.pair → IsHolding (folded journal.asked (payload ∷ [])))
    → HasMade state journal (payload ∷ []) journal.head (record { format = SECOND_FORMAT; bytes = length payload - 8 }) (Err Fault)
doubted_made state journal payload is short format holds = record {
  ok = tt;
  memory = λ e. absurd (cc);
  fault = λ e. (refl, λ told. snapshot_has_head journal.asked payload format (holds told));
  is_head = is.head;
  is_next = record { format = refl; short = λ e. omega arith };
}

-- nothing was done
pub nothing_committed : {D : Type 0} (state : D → DiskState) (journal : PlainJournal D) (s after : KeptSessions)
    → journal.pair.doubt ≡ Nothing → (Told state journal.pair → held journal ≡ Holds s) → HasEither state journal.pair
    → Commits state journal journal s after (Err Memory)
nothing_committed {D = D} state journal s after rests holds images = record {
  holds = tt;
  durable = tt;
  rests = tt;
  memory = λ e. refl;
  in_doubt = λ e. absurd (cc);
  kept = holds;
  undecided = λ e. absurd (cc);
  lost = λ e. absurd (cc);
  any_moment = λ told. keeps_at_first (WithinBoth state) (λ images. FoldsEither journal.asked (Holds s) (Holds after) (read_pair images.0 images.1)) journal.pair.past (both_disks journal.pair);
  images = images_of state journal (Holds s) (Holds after) images (λ told. inl (holds told))
      (λ told. inl (ap (folded journal.asked) (rests_after journal.pair rests) ∙ holds told));
  asked = refl;
  disks = record { first_tells = refl; second_tells = refl; first_arms = refl; second_arms = refl };
  cause = record {
    first_later = le_refl (state (first_disk journal.pair)).faults;
    second_later = le_refl (state (second_disk journal.pair)).faults;
    fault = λ e. absurd (cc);
    first_kept = λ not_fault. refl;
    second_kept = λ not_fault. refl;
  };
}

-- ---- what a draft begins with

pub epoch_first : (epoch : ℕ) (bytes payload : List ℕ) → payload ≡ to_be_bytes w64 epoch ++ bytes → take 8 payload ≡ to_be_bytes w64 epoch
epoch_first epoch bytes payload is = ap (take 8) is

pub format_behind : (epoch shards workers worker : ℕ) (s : KeptSessions) (payload : List ℕ)
    → payload ≡ to_be_bytes w64 epoch ++ spelled_snapshot (snapshot_to_write shards workers worker s) → format_told (snapshot_of payload) ≡ SECOND_FORMAT
format_behind epoch shards workers worker s payload is = ap (λ p. format_told (snapshot_of p)) is

-- a record is appended only in the format that is written
pub appends_second : (format : ℕ) (fits appends : Bool) → appends ≡ ((format == SECOND_FORMAT) && fits) → appends ≡ true → format ≡ SECOND_FORMAT
appends_second format fits appends is passes = eqb-true format SECOND_FORMAT (and_parts (format == SECOND_FORMAT) fits (sym is ∙ passes)).0
