-- A tidied session is tidy, and a tidy one stays as it is.
use Rattle.std.proofs.Common.{◌≡◌, Bool, true, false, ◌&&◌, ◌||◌, ◌==◌, if◌then◌else◌, List, [], ◌∷◌, filter, refl, sym, ap, ◌∙◌, true≢false}
use Rattle.std.specs.List.{list_any}
use Rattle.std.proofs.lemmas.Bool.{and_parts}
use Rattle.session_model.specs.declared.entry.Version.{Version}
use Rattle.session_state.specs.declared.batch.Batch.{Batch}
use Rattle.session_state.specs.KeptSub.{KeptSub}
use Rattle.session_state.specs.KeptSession.{KeptSession}
use Rattle.session_state.specs.KeptActing.{has_unfinished, has_version, is_named, is_present, kept_batches, kept_subs, kept_versions, tidied, with_batches, with_subs}
use Rattle.session_state.specs.Sound.{IsTidy}
use Rattle.session_state.specs.FilterLaws.{filter_twice}

-- what a filter keeps of those that pass a test is all of them
pub any_kept : {X : Type 0} (test keeps : X → Bool) (xs : List X) → ((x : X) → test x ≡ true → keeps x ≡ true) → list_any test (filter keeps xs) ≡ list_any test xs
any_kept test keeps [] all = refl
any_kept test keeps (x ∷ xs) all = by (keeps x) (test x) refl refl (any_kept test keeps xs all)
  where
    by : (k t : Bool) → keeps x ≡ k → test x ≡ t → list_any test (filter keeps xs) ≡ list_any test xs →
        list_any test (if k then x ∷ filter keeps xs else filter keeps xs) ≡ (test x || list_any test xs)
    by true t is_k is_t rest = ap (λ b. test x || b) rest
    by false false is_k is_t rest = rest ∙ sym (ap (λ b. b || list_any test xs) is_t)
    by false true is_k is_t rest = absurd (true≢false (sym (all x is_t) ∙ is_k))

present_kept : (versions : List Version) (subs : List KeptSub) (v : Version) → is_present (kept_subs versions subs) v ≡ is_present subs v
present_kept versions subs v =
    any_kept (λ (s : KeptSub). s.live && (s.version == v.number)) (λ (s : KeptSub). s.live || has_version versions s) subs
    (λ s passes. ap (λ b. b || has_version versions s) (and_parts s.live (s.version == v.number) passes).0)

pub tidied_is_tidy : (m : KeptSession) → IsTidy (tidied m)
tidied_is_tidy m =
    let batches = kept_batches m.tracks m.batches in
    let versions = kept_versions m.subs batches m.versions in
    record {
      batches = filter_twice (has_unfinished m.tracks) (has_unfinished m.tracks) m.batches (λ b passes. passes);
      versions =
          filter_twice (λ (v : Version). is_present m.subs v || is_named batches v) (λ (v : Version). is_present (kept_subs versions m.subs) v || is_named batches v)
          m.versions (λ v passes. ap (λ b. b || is_named batches v) (present_kept versions m.subs v) ∙ passes);
      subs = filter_twice (λ (s : KeptSub). s.live || has_version versions s) (λ (s : KeptSub). s.live || has_version versions s) m.subs (λ s passes. passes);
    }

-- with its own batches and versions a session is itself where it needs all of them
pub tidy_stays : (m : KeptSession) → IsTidy m → tidied m ≡ m
tidy_stays m tidy =
    ap (λ batches. with_batches batches m) tidy.batches
    ∙ ap (λ versions. with_subs versions m) tidy.versions
    ∙ ap (λ subs. record m { subs = subs }) tidy.subs

-- what tells a tidied session, part after part
pub tidied_by : (m : KeptSession) (batches : List Batch) (versions : List Version) (subs : List KeptSub) →
    batches ≡ kept_batches m.tracks m.batches → versions ≡ kept_versions m.subs batches m.versions → subs ≡ kept_subs versions m.subs →
    record m { batches = batches; versions = versions; subs = subs } ≡ tidied m
tidied_by m batches versions subs are_batches are_versions are_subs =
    ap (λ s. record m { batches = batches; versions = versions; subs = s }) are_subs
    ∙ ap (λ v. with_subs v (record m { batches = batches })) are_versions
    ∙ ap (λ b. with_batches b m) are_batches
