-- From what a log's disk holds to the records that its images have.
use Rattle.std.proofs.Common.{ℕ, Bool, false, IsTrue, ◌+◌, ◌≤◌, ◌≡◌, inl, inr, List, [], ◌∷◌, ◌++◌, length, arith, sym, ap, subst, ◌∙◌}
use Rattle.std.proofs.lemmas.Bool.{true≢false}
use Rattle.outside.specs.DiskModel.{AddsNone}
use Rattle.gated_log.specs.declared.span.Span.{Span}
use Rattle.gated_log.specs.PlainLog.{AllHave, AtRest, HoldsList, InDoubt, IsLog, IsReady, IsReadyFor, IsTold, Lost, Standing, end_of, is_lost, payloads_at, spans_from}
use Rattle.gated_log.specs.Opens.{AreOpen}
use Rattle.gated_log.specs.Records.{records}
use Rattle.gated_log.specs.Stands.{IsInCommit, IsInDoubt, IsStanding, Stands}
use Rattle.gated_log.proofs.CommitLemmas.{in_commit}
use Rattle.gated_log.proofs.FindLemmas.{within_more}
use Rattle.gated_log.proofs.MountLemmas.{rest_told, stands_payloads}
use Rattle.gated_log.proofs.SpanLemmas.{ends_at, one_more_span, payloads_are}

pub holds_has : (standing : Standing) (payloads : List (List ℕ)) (spare end : ℕ) (seen : List ℕ) (images : List ℕ → Type 0) → IsReadyFor standing spare end
    → HoldsList standing payloads end seen images → AllHave standing payloads images
holds_has AtRest payloads spare end seen images ready holds = λ image left. let (list, (stands, only)) = holds in ap records (only image left) ∙ list
holds_has (InDoubt payload) payloads spare end seen images ready holds =
    λ image left. in_commit payloads payload end image ready.some (omega (arith, ready.short)) (holds.each image left)
holds_has Lost payloads spare end seen images ready holds = λ image left. tt

-- the images of a log have its list
pub log_has : (tells : Bool) (size : ℕ) (seen : List ℕ) (images : List ℕ → Type 0) (spans : List Span) (spare end : ℕ) (standing : Standing)
    → IsLog tells size seen images spans spare end standing → IsTrue tells → AllHave standing (payloads_at seen spans) images
log_has tells size seen images spans spare end standing log told = holds_has standing (payloads_at seen spans) spare end seen images log.ready (log.told told)

-- its end is that of its records
pub log_end : (tells : Bool) (size : ℕ) (seen : List ℕ) (images : List ℕ → Type 0) (spans : List Span) (spare end : ℕ) (standing : Standing)
    → IsLog tells size seen images spans spare end standing → is_lost standing ≡ false → IsTrue tells → end ≡ end_of (payloads_at seen spans)
log_end tells size seen images spans spare end AtRest log kept told =
    let (list, (stands, only)) = log.told told in
    sym stands.ends ∙ (ends_at (records seen) stands.front stands.are_open ∙ ap end_of list)
log_end tells size seen images spans spare end Lost log kept told = absurd (true≢false kept)
log_end tells size seen images spans spare end (InDoubt payload) log kept told =
    let doubt : IsInDoubt (payloads_at seen spans) payload end seen images = log.told told in
    doubted_end (payloads_at seen spans) payload end seen doubt.reads
  where
    doubted_end : (payloads : List (List ℕ)) (payload : List ℕ) (end : ℕ) (bytes : List ℕ) → IsInCommit payloads payload end bytes → end ≡ end_of payloads
    doubted_end payloads payload end bytes (inl s) = sym s.ends ∙ ends_at payloads s.front s.are_open
    doubted_end payloads payload end bytes (inr (gate, s)) = sym s.ends ∙ ends_at payloads s.front s.are_open

-- the same with fewer images of the same bytes
pub log_still_has : (tells : Bool) (size : ℕ) (seen later : List ℕ) (images fewer : List ℕ → Type 0) (spans : List Span) (spare end : ℕ) (standing : Standing)
    → IsLog tells size seen images spans spare end standing → IsTrue tells → later ≡ seen → AddsNone images fewer → AllHave standing (payloads_at later spans) fewer
log_still_has tells size seen later images fewer spans spare end standing log told same none =
    subst (λ l. AllHave standing (payloads_at l spans) fewer) (sym same)
    (λ image left. log_has tells size seen images spans spare end standing log told image (none image left))

-- what a log holds stays with fewer images of the same bytes
pub holds_fewer : (standing : Standing) (payloads : List (List ℕ)) (end : ℕ) (seen later : List ℕ) (images fewer : List ℕ → Type 0) → HoldsList standing payloads end seen images
    → later ≡ seen → AddsNone images fewer → HoldsList standing payloads end later fewer
holds_fewer AtRest payloads end seen later images fewer (list, (stands, only)) same none = (
  ap records same ∙ list,
  (subst (λ l. Stands (records l) end l) (sym same) stands, λ image left. only image (none image left) ∙ sym same),
)
holds_fewer (InDoubt payload) payloads end seen later images fewer holds same none = record {
  reads = subst (λ l. IsInCommit payloads payload end l) (sym same) holds.reads;
  each = λ image left. holds.each image (none image left);
}
holds_fewer Lost payloads end seen later images fewer holds same none = tt

-- inside a commit the records of before are where they were
in_commit_payloads : (payloads : List (List ℕ)) (payload : List ℕ) (end : ℕ) (bytes : List ℕ) (spans : List Span) → IsInCommit payloads payload end bytes
    → spans ≡ spans_from 0 payloads → payloads_at bytes spans ≡ payloads
in_commit_payloads payloads payload end bytes spans (inl s) places = stands_payloads payloads end bytes spans s places
in_commit_payloads payloads payload end bytes spans (inr (gate, s)) places =
    ap (payloads_at bytes) places ∙ (ap (λ l. payloads_at l (spans_from 0 payloads)) s.spelled ∙ payloads_are payloads [] s.front _ s.are_open)

pub doubt_told : (payloads : List (List ℕ)) (payload : List ℕ) (end : ℕ) (bytes : List ℕ) (images : List ℕ → Type 0) (spans : List Span) → IsInDoubt payloads payload end bytes images
    → spans ≡ spans_from 0 payloads → IsTold (InDoubt payload) spans end bytes images payloads
doubt_told payloads payload end bytes images spans doubt places =
    let list : payloads_at bytes spans ≡ payloads = in_commit_payloads payloads payload end bytes spans doubt.reads places in
    record {
      list = list;
      places = places ∙ ap (spans_from 0) (sym list);
      told = subst (λ l. IsInDoubt l payload end bytes images) (sym list) doubt;
    }

-- a commit of a log at rest that was cut short
pub commit_doubted : (tells : Bool) (size : ℕ) (seen later : List ℕ) (images left : List ℕ → Type 0) (spans : List Span) (spare end : ℕ) (payload : List ℕ)
    → IsLog tells size seen images spans spare end AtRest → IsTrue tells → IsInDoubt (records seen) payload end later left
    → IsTold (InDoubt payload) spans end later left (payloads_at seen spans)
commit_doubted tells size seen later images left spans spare end payload log told doubt =
    let (list, standing) = log.told told in
    doubt_told (payloads_at seen spans) payload end later left spans (subst (λ l. IsInDoubt l payload end later left) list doubt) (log.places told)

-- one more place
pub more_places : (payloads : List (List ℕ)) (payload : List ℕ) (end : ℕ) (front : List ℕ) (spans : List Span) → AreOpen payloads front → length front ≡ end → spans ≡ spans_from 0 payloads
    → spans ++ record { at = end + 5; length = length payload } ∷ [] ≡ spans_from 0 (payloads ++ payload ∷ [])
more_places payloads payload end front spans o ends places =
    ap (λ l. l ++ record { at = end + 5; length = length payload } ∷ []) places
    ∙ (ap (λ n. spans_from 0 payloads ++ record { at = n; length = length payload } ∷ []) (omega (arith, ends))
    ∙ sym (one_more_span 0 payloads front payload o))

-- and of one that wasn't
pub commit_told : (tells : Bool) (size : ℕ) (seen later : List ℕ) (images left : List ℕ → Type 0) (spans : List Span) (spare end : ℕ) (payload : List ℕ)
    → IsLog tells size seen images spans spare end AtRest → IsTrue tells → records later ≡ records seen ++ payload ∷ [] → IsStanding (end + (5 + length payload)) later left
    → IsTold AtRest (spans ++ record { at = end + 5; length = length payload } ∷ []) (end + (5 + length payload)) later left (payloads_at seen spans ++ payload ∷ [])
commit_told tells size seen later images left spans spare end payload log told more standing =
    let (list, (stands, only)) = log.told told in
    let (stands_then, only_then) = standing in
    let listed : records later ≡ payloads_at seen spans ++ payload ∷ [] = more ∙ ap (λ l. l ++ payload ∷ []) list in
    rest_told (payloads_at seen spans ++ payload ∷ []) (end + (5 + length payload)) later left (spans ++ record { at = end + 5; length = length payload } ∷ [])
    (subst (λ l. Stands l (end + (5 + length payload)) later) listed stands_then) only_then
    (more_places (payloads_at seen spans) payload end stands.front spans (subst (λ l. AreOpen l stands.front) list stands.are_open) stands.ends (log.places told))

-- a log that is known to rest
pub rested : (tells : Bool) (size : ℕ) (seen : List ℕ) (images : List ℕ → Type 0) (spans : List Span) (spare end : ℕ) (standing : Standing)
    → IsLog tells size seen images spans spare end standing → standing ≡ AtRest → IsLog tells size seen images spans spare end AtRest
rested tells size seen images spans spare end standing log rests = subst (IsLog tells size seen images spans spare end) rests log

-- what a commit leaves of the invariant, cut short or not
pub commit_log_doubted : (tells now : Bool) (size later_size : ℕ) (seen later : List ℕ) (images left : List ℕ → Type 0) (spans : List Span) (spare end : ℕ) (standing : Standing) (payload : List ℕ)
    → IsLog tells size seen images spans spare end standing → standing ≡ AtRest → (IsTrue tells → IsInDoubt (records seen) payload end later left) → IsReady payload spare end
    → size ≤ later_size → now ≡ tells → IsLog now later_size later left spans spare end (InDoubt payload)
commit_log_doubted tells now size later_size seen later images left spans spare end standing payload log rests doubt ready longer same =
    let rested : IsLog tells size seen images spans spare end AtRest = subst (IsLog tells size seen images spans spare end) rests log in
    let told : IsTrue now → IsTold (InDoubt payload) spans end later left (payloads_at seen spans) =
    λ t. let there = subst IsTrue same t in commit_doubted tells size seen later images left spans spare end payload rested there (doubt there) in
    record {
      within = log.within;
      inside = omega (arith, rested.inside, longer);
      ready = ready;
      places = λ t. (told t).places;
      told = λ t. (told t).told;
    }

pub commit_log : (tells now : Bool) (size later_size : ℕ) (seen later : List ℕ) (images left : List ℕ → Type 0) (spans : List Span) (spare end later_spare : ℕ) (standing : Standing) (payload : List ℕ)
    → IsLog tells size seen images spans spare end standing → standing ≡ AtRest → (IsTrue tells → records later ≡ records seen ++ payload ∷ [])
    → (IsTrue tells → IsStanding (end + (5 + length payload)) later left) → end + (6 + length payload) ≤ later_size → now ≡ tells
    → IsLog now later_size later left (spans ++ record { at = end + 5; length = length payload } ∷ []) later_spare (end + (5 + length payload)) AtRest
commit_log tells now size later_size seen later images left spans spare end later_spare standing payload log rests more stands longer same =
    let rested : IsLog tells size seen images spans spare end AtRest = subst (IsLog tells size seen images spans spare end) rests log in
    let told : IsTrue now → IsTold AtRest (spans ++ record { at = end + 5; length = length payload } ∷ []) (end + (5 + length payload)) later left (payloads_at seen spans ++ payload ∷ []) =
    λ t. let there = subst IsTrue same t in commit_told tells size seen later images left spans spare end payload rested there (more there) (stands there) in
    record {
      within = within_more spans end (length payload) log.within;
      inside = omega (arith, longer);
      ready = tt;
      places = λ t. (told t).places;
      told = λ t. (told t).told;
    }
