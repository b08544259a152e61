-- From what was found to a log at rest.
use Rattle.std.proofs.Common.{ℕ, zero, suc, ◌+◌, ◌<◌, ◌≤◌, ◌≡◌, ◌⊎◌, inl, inr, List, [], ◌∷◌, ◌++◌, length, take, drop, None, arith, refl, sym, ap, subst, ◌∙◌, take-append-drop}
use Rattle.std.proofs.lemmas.Bool.Decides.{nat_tests}
use Rattle.std.proofs.lemmas.List.{drop-drop, length-drop, length-take-le, take_all}
use Rattle.outside.specs.DiskModel.{DiskState, Elapses, LeavesOnly, Only, WritesNone, leaves_only_and, leaves_only_at_first, leaves_only_then, leaves_only_weaker}
use Rattle.gated_log.specs.Calls.{IsRepaired}
use Rattle.gated_log.specs.declared.span.Span.{Span}
use Rattle.gated_log.specs.Closing.{IsClosing, IsGateTorn, WithGate}
use Rattle.gated_log.specs.Opens.{AreOpen}
use Rattle.gated_log.specs.PlainLog.{AtRest, IsTold, end_of, payloads_at, spans_from}
use Rattle.gated_log.specs.Reading.{IsFound}
use Rattle.gated_log.specs.Records.{records, front_record}
use Rattle.gated_log.specs.Stands.{Stands}
use Rattle.gated_log.proofs.ClosingLemmas.{other_front}
use Rattle.gated_log.proofs.CrashLemmas.{stands_records}
use Rattle.gated_log.proofs.RecordLemmas.{records_of_open}
use Rattle.gated_log.proofs.SpanLemmas.{ends_at, payloads_are}

-- the records of open bytes, whatever closed gate follows
pub records_up_to : (payloads : List (List ℕ)) (end : ℕ) (bytes rest image : List ℕ) → AreOpen payloads (take end bytes) → 0 < length rest → front_record rest ≡ None
    → image ≡ take end bytes ++ rest → records image ≡ payloads
records_up_to payloads end bytes rest image o more closed e = ap records e ∙ records_of_open payloads (take end bytes) rest o more closed

-- and of the bytes themselves
pub found_records : (payloads : List (List ℕ)) (end : ℕ) (bytes : List ℕ) → AreOpen payloads (take end bytes) → end ≤ length bytes → (0 < end → end < length bytes)
    → front_record (drop end bytes) ≡ None → records bytes ≡ payloads
found_records payloads end [] o inside there closed = none payloads (subst (AreOpen payloads) (take_all end [] (omega arith)) o)
  where
    none : (payloads : List (List ℕ)) → AreOpen payloads [] → [] ≡ payloads
    none [] o = refl
    none (payload ∷ payloads) o = let (later, opens, others) = o in absurd (omega (arith, ap length opens.spelled))
found_records payloads end (byte ∷ bytes) o inside there closed =
    records_up_to payloads end (byte ∷ bytes) (drop end (byte ∷ bytes)) (byte ∷ bytes) o
    (omega (arith, length-drop end (byte ∷ bytes), gate_there end there)) closed (sym (take-append-drop end (byte ∷ bytes)))
  where
    gate_there : (end : ℕ) → (0 < end → end < length (byte ∷ bytes)) → end < length (byte ∷ bytes)
    gate_there zero h = omega arith
    gate_there (suc end) h = h (omega arith)

-- a gate that is being closed
pub closing_records : (payloads : List (List ℕ)) (end : ℕ) (bytes image : List ℕ) → AreOpen payloads (take end bytes) → end ≤ length bytes → (0 < end → end < length bytes)
    → front_record (drop end bytes) ≡ None → IsClosing end bytes image → records image ≡ payloads
closing_records payloads end bytes image o inside there closed (inl same) = ap records same ∙ found_records payloads end bytes o inside there closed
closing_records payloads end bytes image o inside there closed (inr (before, inl same)) = ap records same ∙ found_records payloads end bytes o inside there closed
closing_records payloads end bytes image o inside there closed (inr (before, inr (gate, torn))) =
    records_up_to payloads end bytes (gate ∷ drop (end + 1) bytes) image o (omega arith) (still_closed gate (drop end bytes) (drop (end + 1) bytes) (drop-drop 1 end bytes) before closed) torn
  where
    still_closed : (gate : ℕ) (rest later : List ℕ) → drop 1 rest ≡ later → (take 1 rest ≡ 0 ∷ [] → ⊥) → front_record rest ≡ None → front_record (gate ∷ later) ≡ None
    still_closed gate [] later e before closed = ap (λ l. front_record (gate ∷ l)) (sym e) ∙ grind (arith, nat_tests)
    still_closed gate (first ∷ rest) later e before closed =
        ap (λ l. front_record (gate ∷ l)) (sym e) ∙ either_way (other_front gate first rest (λ z. before (ap (λ b. b ∷ []) z)))
      where
        either_way : (front_record (gate ∷ rest) ≡ None) ⊎ (front_record (gate ∷ rest) ≡ front_record (first ∷ rest)) → front_record (gate ∷ rest) ≡ None
        either_way (inl e) = e
        either_way (inr e) = e ∙ closed

-- a gate that is closed
pub closed_log : (payloads : List (List ℕ)) (end : ℕ) (old new : List ℕ) → AreOpen payloads (take end old) → end ≤ length old → WithGate end 0 old new → Stands payloads end new
closed_log payloads end old new o inside closed = record {
  front = take end old;
  junk = drop (end + 1) old;
  are_open = o;
  ends = length-take-le end old inside;
  spelled = closed;
}

-- a log that stands has its payloads where its places say
pub stands_payloads : (payloads : List (List ℕ)) (end : ℕ) (bytes : List ℕ) (spans : List Span) → Stands payloads end bytes → spans ≡ spans_from 0 payloads
    → payloads_at bytes spans ≡ payloads
stands_payloads payloads end bytes spans s places =
    ap (payloads_at bytes) places ∙ (ap (λ l. payloads_at l (spans_from 0 payloads)) s.spelled ∙ payloads_are payloads [] s.front (0 ∷ s.junk) s.are_open)

-- a log that stands tells its records
pub rest_told : (payloads : List (List ℕ)) (end : ℕ) (bytes : List ℕ) (images : List ℕ → Type 0) (spans : List Span) → Stands payloads end bytes → Only bytes images
    → spans ≡ spans_from 0 payloads → IsTold AtRest spans end bytes images payloads
rest_told payloads end bytes images spans s only places =
    let list : payloads_at bytes spans ≡ payloads = stands_payloads payloads end bytes spans s places in
    let there : records bytes ≡ payloads = stands_records payloads end bytes s in
    record {
      list = list;
      places = places ∙ ap (spans_from 0) (sym list);
      told = (there ∙ sym list, (subst (λ l. Stands l end bytes) (sym there) s, only));
    }

-- what was found before the gate behind it was closed
pub mounted : (spans : List Span) (end : ℕ) (old seen new : List ℕ) (images : List ℕ → Type 0) → IsFound spans end old → end ≤ length old → (0 < end → end < length old)
    → front_record (drop end old) ≡ None → seen ≡ old → WithGate end 0 seen new → Only new images → IsTold AtRest spans end new images (records old)
mounted spans end old seen new images found inside there closed same gate only =
    let list : records old ≡ payloads_at old spans = found_records (payloads_at old spans) end old found.are_open inside there closed in
    subst (IsTold AtRest spans end new images) (sym list)
    (rest_told (payloads_at old spans) end new images spans
    (closed_log (payloads_at old spans) end old new found.are_open inside (subst (λ l. WithGate end 0 l new) same gate)) only found.places)

-- and while it is being closed
pub closing_found : (spans : List Span) (end : ℕ) (old seen image : List ℕ) → IsFound spans end old → end ≤ length old → (0 < end → end < length old)
    → front_record (drop end old) ≡ None → seen ≡ old → IsClosing end seen image → records image ≡ records old
closing_found spans end old seen image found inside there closed same closing =
    closing_records (payloads_at old spans) end old image found.are_open inside there closed (subst (λ l. IsClosing end l image) same closing)
    ∙ sym (found_records (payloads_at old spans) end old found.are_open inside there closed)

-- the place where they end
pub found_end : (spans : List Span) (end : ℕ) (old : List ℕ) → IsFound spans end old → end ≤ length old → (0 < end → end < length old) → front_record (drop end old) ≡ None
    → end ≡ end_of (records old)
found_end spans end old found inside there closed =
    sym (length-take-le end old inside)
    ∙ (ends_at (payloads_at old spans) (take end old) found.are_open
    ∙ ap end_of (sym (found_records (payloads_at old spans) end old found.are_open inside there closed)))

-- a mount, from its sync to the end of the repair
module _ (old synced found closed : DiskState) (spans : List Span) (end : ℕ) (time : Elapses old synced) (calls : synced.calls ≡ old.calls + 1) (quiet : WritesNone old synced)
    (searched : LeavesOnly synced found (λ image. image ≡ synced.seen)) (same : found.seen ≡ synced.seen) (closing : LeavesOnly found closed (IsClosing end found.seen))
    (is_found : IsFound spans end synced.seen) (inside : end ≤ length synced.seen) (there : 0 < end → end < length synced.seen) (no_more : front_record (drop end synced.seen) ≡ None) where
  repaired_after : LeavesOnly synced closed (λ image. records image ≡ records old.seen)
  repaired_after =
      leaves_only_and synced found closed (λ image. records image ≡ records old.seen) (IsClosing end found.seen)
      (leaves_only_weaker synced found (λ image. image ≡ synced.seen) (λ image. records image ≡ records old.seen) searched (λ image e. ap records (e ∙ quiet.seen)))
      closing
      (λ image c. closing_found spans end synced.seen found.seen image is_found inside there no_more same c ∙ ap records quiet.seen)

  pub mount_moments : ((image : List ℕ) → old.left_since old.calls image → old.may_leave image) → LeavesOnly old closed (λ image. old.may_leave image ⊎ (records image ≡ records old.seen))
  mount_moments now =
      let P : List ℕ → Type 0 = λ image. old.may_leave image ⊎ (records image ≡ records old.seen) in
      leaves_only_and old synced closed P (λ image. records image ≡ records old.seen)
      (leaves_only_then old old synced P (leaves_only_at_first old P now (λ image left. inl left)) time (λ image left. inl (quiet.images image left)))
      repaired_after
      (λ image e. inr e)

  pub mount_repaired : IsRepaired old closed
  mount_repaired = λ image left. repaired_after.each image (subst (λ n. closed.left_since n image) (sym calls) left)

  pub mount_bytes : IsGateTorn end found.seen closed.seen → IsGateTorn (end_of (records old.seen)) old.seen closed.seen
  mount_bytes torn =
      let e : end ≡ end_of (records old.seen) = found_end spans end synced.seen is_found inside there no_more ∙ ap (λ bytes. end_of (records bytes)) quiet.seen in
      subst (λ n. IsGateTorn n old.seen closed.seen) e (subst (λ bytes. IsGateTorn end bytes closed.seen) (same ∙ quiet.seen) torn)
