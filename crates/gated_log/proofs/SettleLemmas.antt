-- How a doubt ends.
use Rattle.std.proofs.Common.{ℕ, zero, suc, Bool, IsTrue, ◌+◌, ◌-◌, ◌^◌, ◌<◌, ◌≤◌, ◌≡◌, ◌⊎◌, ◌==◌, true, false, inl, inr, List, [], ◌∷◌, ◌++◌, length, take, drop, get_or, arith, refl, sym, ap, subst, ◌∙◌, length-append}
use Rattle.std.proofs.lemmas.Bool.{true≢false}
use Rattle.std.proofs.lemmas.Bool.Decides.{nat_tests}
use Rattle.outside.specs.DiskModel.{Only}
use lib.Seq.{drop-append_seam}
use Rattle.gated_log.specs.declared.span.Span.{Span}
use Rattle.gated_log.specs.declared.standing.Standing as coded
use Rattle.gated_log.specs.declared.standing.Standing.TheVariants as code
use Rattle.gated_log.specs.LogView.{KeepsLength, length_of_doubt, standing_of}
use Rattle.gated_log.specs.PlainLog.{AtRest, InDoubt, IsInside, IsLog, IsReadyFor, IsTold, Lost, Standing, doubted_length, is_in_doubt, payloads_at, spans_from, with_doubted}
use Rattle.gated_log.specs.Records.{body_bytes}
use Rattle.gated_log.specs.Stands.{IsInCommit, IsInDoubt, Stands, StandsWith}
use Rattle.gated_log.proofs.CrashLemmas.{closed_stands, open_stands}
use Rattle.gated_log.proofs.FindLemmas.{within_more}
use Rattle.gated_log.proofs.LogLemmas.{more_places}
use Rattle.gated_log.proofs.MountLemmas.{rest_told}

-- the length that the code keeps
pub kept_length : (standing : coded.Standing) → KeepsLength standing → length_of_doubt standing ≡ doubted_length (standing_of standing)
kept_length code.AtRest k = refl
kept_length (code.InDoubt count draft) k = k
kept_length code.Lost k = refl

-- the byte at the end
gate_of : (place gate : ℕ) (front junk bytes : List ℕ) → length front ≡ place → bytes ≡ front ++ gate ∷ junk → take 1 (drop place bytes) ≡ gate ∷ []
gate_of place gate front junk bytes ends spelled =
    ap (λ l. take 1 (drop place l)) spelled ∙ (ap (λ n. take 1 (drop n (front ++ gate ∷ junk))) (sym ends) ∙ ap (take 1) (drop-append_seam front (gate ∷ junk)))

same_byte : (a b : ℕ) (bytes : List ℕ) → a ∷ [] ≡ bytes → bytes ≡ b ∷ [] → a ≡ b
same_byte a b bytes e f = ap (λ l. get_or l 0 0) (e ∙ f)

body_length : (payload : List ℕ) → length (body_bytes payload) ≡ 5 + length payload
body_length payload = omega (arith, length-append payload (0 ∷ []))

long_enough : (payloads : List (List ℕ)) (payload : List ℕ) (place gate : ℕ) (bytes : List ℕ) → StandsWith payloads payload place gate bytes → place + (6 + length payload) ≤ length bytes
long_enough payloads payload place gate bytes s =
    omega (arith, ap length s.spelled, length-append s.front (gate ∷ (body_bytes payload ++ s.junk)), s.ends, length-append (body_bytes payload) s.junk, length-append payload (0 ∷ []), body_length payload)

-- Out: the gate is closed
out_stands : (payloads : List (List ℕ)) (payload : List ℕ) (place gate size : ℕ) (bytes : List ℕ) → IsInCommit payloads payload place bytes → gate ∷ [] ≡ take 1 (drop place bytes)
    → (gate ≡ 0) ⊎ (size < place + (6 + length payload)) → size ≡ length bytes → Stands payloads place bytes
out_stands payloads payload place gate size bytes (inl s) e why sized = s
out_stands payloads payload place gate size bytes (inr (byte, s)) e (inl zero_gate) sized =
    let same : gate ≡ byte = same_byte gate byte (take 1 (drop place bytes)) e (gate_of place byte s.front _ bytes s.ends s.spelled) in
    closed_stands payloads payload place bytes (subst (λ b. StandsWith payloads payload place b bytes) (sym same ∙ zero_gate) s)
out_stands payloads payload place gate size bytes (inr (byte, s)) e (inr short) sized =
    absurd (omega (arith, short, sized, long_enough payloads payload place byte bytes s))

-- In: it is open, and the body is behind it
in_stands : (payloads : List (List ℕ)) (payload : List ℕ) (place gate : ℕ) (bytes : List ℕ) → 0 < length payload → length payload < 2 ^ 32 → IsInCommit payloads payload place bytes
    → gate ∷ [] ≡ take 1 (drop place bytes) → (gate ≡ 0 → ⊥) → Stands (payloads ++ payload ∷ []) (place + (5 + length payload)) bytes
in_stands payloads payload place gate bytes some short (inl s) e opened =
    absurd (opened (same_byte gate 0 (take 1 (drop place bytes)) e (gate_of place 0 s.front s.junk bytes s.ends s.spelled)))
in_stands payloads payload place gate bytes some short (inr (byte, s)) e opened =
    let same : gate ≡ byte = same_byte gate byte (take 1 (drop place bytes)) e (gate_of place byte s.front _ bytes s.ends s.spelled) in
    open_stands payloads payload place byte bytes (not_closed byte (λ z. opened (same ∙ z))) some short s
  where
    not_closed : (byte : ℕ) → (byte ≡ 0 → ⊥) → (byte == 0) ≡ false
    not_closed zero h = absurd (h refl)
    not_closed (suc byte) h = grind (arith, nat_tests)

-- what is in doubt
pub doubted_ready : (standing : Standing) (spare end : ℕ) → is_in_doubt standing ≡ true → IsReadyFor standing spare end
    → (0 < spare) × (end + (6 + doubted_length standing) ≤ 2 ^ 64 - 1)
doubted_ready AtRest spare end e ready = absurd (true≢false (sym e))
doubted_ready (InDoubt payload) spare end e ready = (ready.room, ready.fits)
doubted_ready Lost spare end e ready = absurd (true≢false (sym e))

doubt_inside : (standing : Standing) (end size : ℕ) → is_in_doubt standing ≡ true → IsInside standing end size → end < size
doubt_inside AtRest end size e inside = inside
doubt_inside (InDoubt payload) end size e inside = inside
doubt_inside Lost end size e inside = absurd (true≢false (sym e))

doubted_places : (payloads : List (List ℕ)) (payload : List ℕ) (end : ℕ) (bytes : List ℕ) (spans : List Span) → IsInCommit payloads payload end bytes → spans ≡ spans_from 0 payloads
    → spans ++ record { at = end + 5; length = length payload } ∷ [] ≡ spans_from 0 (payloads ++ payload ∷ [])
doubted_places payloads payload end bytes spans (inl s) places = more_places payloads payload end s.front spans s.are_open s.ends places
doubted_places payloads payload end bytes spans (inr (gate, s)) places = more_places payloads payload end s.front spans s.are_open s.ends places

-- what a doubt that ended with Out leaves
pub out_told : (tells : Bool) (size : ℕ) (seen later : List ℕ) (images left : List ℕ → Type 0) (spans : List Span) (spare end gate : ℕ) (standing : Standing)
    → IsLog tells size seen images spans spare end standing → IsTrue tells → is_in_doubt standing ≡ true → gate ∷ [] ≡ take 1 (drop end seen)
    → (gate ≡ 0) ⊎ (size < end + (6 + doubted_length standing)) → size ≡ length seen → later ≡ seen → Only seen left
    → IsTold AtRest spans end later left (payloads_at seen spans)
out_told tells size seen later images left spans spare end gate AtRest log told e read why sized same only = absurd (true≢false (sym e))
out_told tells size seen later images left spans spare end gate Lost log told e read why sized same only = absurd (true≢false (sym e))
out_told tells size seen later images left spans spare end gate (InDoubt payload) log told e read why sized same only =
    let doubt : IsInDoubt (payloads_at seen spans) payload end seen images = log.told told in
    rest_told (payloads_at seen spans) end later left spans
    (subst (λ l. Stands (payloads_at seen spans) end l) (sym same) (out_stands (payloads_at seen spans) payload end gate size seen doubt.reads read why sized))
    (λ image there. only image there ∙ sym same)
    (log.places told)

-- and one that ended with In
pub in_told : (tells : Bool) (size : ℕ) (seen later : List ℕ) (images left : List ℕ → Type 0) (spans : List Span) (spare end gate : ℕ) (standing : Standing)
    → IsLog tells size seen images spans spare end standing → IsTrue tells → is_in_doubt standing ≡ true → gate ∷ [] ≡ take 1 (drop end seen)
    → (gate ≡ 0 → ⊥) → later ≡ seen → Only seen left
    → IsTold AtRest (spans ++ record { at = end + 5; length = doubted_length standing } ∷ []) (end + (5 + doubted_length standing)) later left (with_doubted standing (payloads_at seen spans))
in_told tells size seen later images left spans spare end gate AtRest log told e read opened same only = absurd (true≢false (sym e))
in_told tells size seen later images left spans spare end gate Lost log told e read opened same only = absurd (true≢false (sym e))
in_told tells size seen later images left spans spare end gate (InDoubt payload) log told e read opened same only =
    let doubt : IsInDoubt (payloads_at seen spans) payload end seen images = log.told told in
    let stands : Stands (payloads_at seen spans ++ payload ∷ []) (end + (5 + length payload)) seen =
    in_stands (payloads_at seen spans) payload end gate seen log.ready.some (omega (arith, log.ready.short)) doubt.reads read opened in
    rest_told (payloads_at seen spans ++ payload ∷ []) (end + (5 + length payload)) later left (spans ++ record { at = end + 5; length = length payload } ∷ [])
    (subst (λ l. Stands (payloads_at seen spans ++ payload ∷ []) (end + (5 + length payload)) l) (sym same) stands)
    (λ image there. only image there ∙ sym same)
    (doubted_places (payloads_at seen spans) payload end seen spans doubt.reads (log.places told))

pub out_log : (tells now : Bool) (size later_size : ℕ) (seen later : List ℕ) (images left : List ℕ → Type 0) (spans : List Span) (spare later_spare end gate : ℕ) (standing : Standing)
    → IsLog tells size seen images spans spare end standing → is_in_doubt standing ≡ true → (IsTrue tells → gate ∷ [] ≡ take 1 (drop end seen))
    → (gate ≡ 0) ⊎ (size < end + (6 + doubted_length standing)) → (IsTrue tells → size ≡ length seen) → (IsTrue tells → later ≡ seen) → (IsTrue tells → Only seen left)
    → later_size ≡ size → now ≡ tells → IsLog now later_size later left spans later_spare end AtRest
out_log tells now size later_size seen later images left spans spare later_spare end gate standing log e read why sized same only longer agrees =
    let told : IsTrue now → IsTold AtRest spans end later left (payloads_at seen spans) =
    λ t. let there = subst IsTrue agrees t in
    out_told tells size seen later images left spans spare end gate standing log there e (read there) why (sized there) (same there) (only there) in
    record {
      within = log.within;
      inside = omega (arith, doubt_inside standing end size e log.inside, longer);
      ready = tt;
      places = λ t. (told t).places;
      told = λ t. (told t).told;
    }

pub in_log : (tells now : Bool) (size later_size : ℕ) (seen later : List ℕ) (images left : List ℕ → Type 0) (spans : List Span) (spare later_spare end gate : ℕ) (standing : Standing)
    → IsLog tells size seen images spans spare end standing → is_in_doubt standing ≡ true → (IsTrue tells → gate ∷ [] ≡ take 1 (drop end seen))
    → (gate ≡ 0 → ⊥) → end + (6 + doubted_length standing) ≤ later_size → (IsTrue tells → later ≡ seen) → (IsTrue tells → Only seen left)
    → now ≡ tells → IsLog now later_size later left (spans ++ record { at = end + 5; length = doubted_length standing } ∷ []) later_spare (end + (5 + doubted_length standing)) AtRest
in_log tells now size later_size seen later images left spans spare later_spare end gate standing log e read opened longer same only agrees =
    let told : IsTrue now → IsTold AtRest (spans ++ record { at = end + 5; length = doubted_length standing } ∷ []) (end + (5 + doubted_length standing)) later left (with_doubted standing (payloads_at seen spans)) =
    λ t. let there = subst IsTrue agrees t in
    in_told tells size seen later images left spans spare end gate standing log there e (read there) opened (same there) (only there) in
    record {
      within = within_more spans end (doubted_length standing) log.within;
      inside = omega (arith, longer);
      ready = tt;
      places = λ t. (told t).places;
      told = λ t. (told t).told;
    }
