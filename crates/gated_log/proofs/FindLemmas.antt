-- One more record found.
use Rattle.std.proofs.Common.{ℕ, zero, suc, ◌+◌, ◌<◌, ◌≤◌, ◌≡◌, List, [], ◌∷◌, ◌++◌, length, take, drop, slice_index_or, All, Some, arith, sym, ap, subst, ◌∙◌}
use Rattle.std.proofs.lemmas.List.{length-drop, length-take-le, map-append}
use Rattle.std.proofs.lemmas.List.Elements.{All-append}
use Rattle.std.proofs.Math.Seq.{take-add}
use Rattle.gated_log.specs.declared.span.Span.{Span}
use Rattle.gated_log.specs.Opens.{AreOpen}
use Rattle.gated_log.specs.PlainLog.{payload_at, payloads_at, spans_from}
use Rattle.gated_log.specs.Reading.{IsFound, IsRecordAt}
use Rattle.gated_log.proofs.RecordLemmas.{one_more_open}
use Rattle.gated_log.proofs.SpanLemmas.{one_more_span}

-- the record at the end is one more
pub found_more : (spans : List Span) (end count : ℕ) (bytes : List ℕ) → IsFound spans end bytes → IsRecordAt end bytes (Some count)
    → end + (5 + count) ≤ length bytes → IsFound (spans ++ record { at = end + 5; length = count } ∷ []) (end + (5 + count)) bytes
found_more spans end count bytes found r fits =
    let payloads : List (List ℕ) = payloads_at bytes spans in
    let payload : List ℕ = take count (drop (end + 5) bytes) in
    let long : length payload ≡ count = length-take-le count (drop (end + 5) bytes) (omega (arith, length-drop (end + 5) bytes, fits)) in
    let listed : payloads_at bytes (spans ++ record { at = end + 5; length = count } ∷ []) ≡ payloads ++ payload ∷ [] =
    map-append (payload_at bytes) spans (record { at = end + 5; length = count } ∷ []) in
    let ends : length (take end bytes) ≡ end = length-take-le end bytes (omega (arith, fits)) in
    let more : spans_from 0 (payloads ++ payload ∷ []) ≡ spans_from 0 payloads ++ record { at = 0 + length (take end bytes) + 5; length = length payload } ∷ [] =
    one_more_span 0 payloads (take end bytes) payload found.are_open in
    record {
      are_open = subst (λ l. AreOpen l (take (end + (5 + count)) bytes)) (sym listed)
          (subst (λ l. AreOpen (payloads ++ payload ∷ []) l) (sym (take-add end (5 + count) bytes))
          (one_more_open payloads (take end bytes) payload (take (5 + count) (drop end bytes)) found.are_open r));
      places = ap (λ l. l ++ record { at = end + 5; length = count } ∷ []) found.places
          ∙ (ap (λ n. spans_from 0 payloads ++ record { at = n; length = count } ∷ []) (omega (arith, ends))
          ∙ (ap (λ n. spans_from 0 payloads ++ record { at = 0 + length (take end bytes) + 5; length = n } ∷ []) (sym long)
          ∙ (sym more ∙ ap (spans_from 0) (sym listed))));
    }

-- and it ends where the next begins
pub within_more : (spans : List Span) (end count : ℕ) → All (λ (span : Span). span.at + span.length ≤ end) spans
    → All (λ (span : Span). span.at + span.length ≤ end + (5 + count)) (spans ++ record { at = end + 5; length = count } ∷ [])
within_more spans end count all =
    All-append (λ (span : Span). span.at + span.length ≤ end + (5 + count)) spans (record { at = end + 5; length = count } ∷ [])
    (λ k d h. omega (arith, all k d h)) last_fits
  where
    last_fits : (k : ℕ) (d : Span) → k < 1 → (slice_index_or (record { at = end + 5; length = count } ∷ []) k d).at + (slice_index_or (record { at = end + 5; length = count } ∷ []) k d).length ≤ end + (5 + count)
    last_fits zero d h = omega arith
    last_fits (suc k) d h = absurd (omega (arith, h))
