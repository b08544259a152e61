-- A mount, from both disks to the pair.
use Rattle.std.proofs.Common.{ℕ, ◌≡◌, ◌⊎◌, ◌+◌, inl, inr, List, [], ◌∷◌, ◌++◌, length, take, drop, suc, arith, refl, ap, subst, sym, ◌∙◌}
use Rattle.std.proofs.Math.Seq.{drop-nil}
use Rattle.outside.specs.DiskModel.{DiskState, LeavesOnly, Torn, leaves_only_and, leaves_only_weaker}
use Rattle.outside.specs.Torn.{torn_same, torn_then, torn_written}
use Rattle.gated_log.specs.Calls.{with_record}
use Rattle.gated_log.specs.Closing.{IsGateTorn, WithGate, with_gate}
use Rattle.gated_log.specs.PlainLog.{AtRest, HasList, end_of}
use Rattle.gated_log.specs.Records.{body_bytes, records}
use Rattle.pair_log.specs.Mounted.{IsBeginning, IsBegun, IsMountTorn, IsMounting, IsWrittenTorn, begun, first_record, mounted_first, side_of, written_first}

-- the images of the first disk, where it was mounted and where it was begun then, and of the second
pub first_mounted : (old mid : DiskState) (first second : List (List ℕ)) (snapshot : List ℕ) → LeavesOnly old mid (λ image. old.may_leave image ⊎ (records image ≡ first))
    → LeavesOnly old mid (IsBeginning old.may_leave first second snapshot)
first_mounted old mid first second snapshot mounted =
    leaves_only_weaker old mid (λ image. old.may_leave image ⊎ (records image ≡ first)) (IsBeginning old.may_leave first second snapshot) mounted beginning
  where
    beginning : (image : List ℕ) → old.may_leave image ⊎ (records image ≡ first) → IsBeginning old.may_leave first second snapshot image
    beginning image (inl left) = inl left
    beginning image (inr same) = inr (inl same)

pub first_mounting : (old mid new : DiskState) (first second : List (List ℕ)) (snapshot : List ℕ) → LeavesOnly old mid (λ image. old.may_leave image ⊎ (records image ≡ first))
    → LeavesOnly mid new (IsBegun first second snapshot) → LeavesOnly old new (IsBeginning old.may_leave first second snapshot)
first_mounting old mid new first second snapshot mounted begun =
    leaves_only_and old mid new (IsBeginning old.may_leave first second snapshot) (IsBegun first second snapshot)
    (first_mounted old mid first second snapshot mounted) begun (λ image h. inr h)

pub second_mounting : (old mid new : DiskState) (list : List (List ℕ)) → LeavesOnly old mid (λ image. old.may_leave image ⊎ (records image ≡ list))
    → LeavesOnly mid new (HasList AtRest list) → LeavesOnly old new (IsMounting old.may_leave list)
second_mounting old mid new list mounted read =
    leaves_only_and old mid new (IsMounting old.may_leave list) (HasList AtRest list) mounted read (λ image same. inr same)

-- which disk counts then
pub begun_side : (snapshot : List ℕ) (first second : List (List ℕ)) → side_of (begun snapshot first second) second ≡ side_of first second
begun_side snapshot [] [] = refl
begun_side snapshot [] (y ∷ ys) = refl
begun_side snapshot (x ∷ xs) [] = refl
begun_side snapshot (x ∷ xs) (y ∷ ys) = refl

-- the bytes of the first disk, with a closed gate and then with what is written behind it
over_gate : (payload old : List ℕ) → with_record 0 payload (with_gate 0 0 old) ≡ with_record 0 payload old
over_gate payload old = ap (λ l. take 0 old ++ (1 ∷ body_bytes payload) ++ l)
    (ap (λ n. drop n (with_gate 0 0 old)) one_more ∙ (behind (5 + length payload) old ∙ sym (ap (λ n. drop n old) one_more)))
  where
    one_more : 0 + (6 + length payload) ≡ suc (5 + length payload)
    one_more = omega arith

    behind : (n : ℕ) (bytes : List ℕ) → drop (suc n) (with_gate 0 0 bytes) ≡ drop (suc n) bytes
    behind n [] = drop-nil n
    behind n (x ∷ bytes) = refl

pub first_bytes : (snapshot : List ℕ) (first second : List (List ℕ)) (old mid new : List ℕ) → WithGate (end_of first) 0 old mid
    → new ≡ written_first snapshot first second mid → new ≡ mounted_first snapshot first second old
first_bytes snapshot [] [] old mid new gate written = written ∙ (ap (with_record 0 (first_record snapshot)) gate ∙ over_gate (first_record snapshot) old)
first_bytes snapshot [] (y ∷ ys) old mid new gate written = written ∙ gate
first_bytes snapshot (x ∷ xs) [] old mid new gate written = written ∙ gate
first_bytes snapshot (x ∷ xs) (y ∷ ys) old mid new gate written = written ∙ gate

-- and where the mount was refused, before the first record or while it was written
front_torn : (count : ℕ) (old new : List ℕ) → IsGateTorn 0 old new → Torn 0 (6 + count) old new
front_torn count old new (inl same) = subst (Torn 0 (6 + count) old) (sym same) (torn_same 0 (6 + count) old)
front_torn count old new (inr (gate, torn)) = subst (Torn 0 (6 + count) old) (sym torn) (torn_written 0 (6 + count) (gate ∷ []) old (omega arith) (omega arith))

pub gate_only : (snapshot : List ℕ) (first second : List (List ℕ)) (old new : List ℕ) → IsGateTorn (end_of first) old new → IsMountTorn snapshot first second old new
gate_only snapshot [] [] old new gate = front_torn (length (first_record snapshot)) old new gate
gate_only snapshot [] (y ∷ ys) old new gate = gate
gate_only snapshot (x ∷ xs) [] old new gate = gate
gate_only snapshot (x ∷ xs) (y ∷ ys) old new gate = gate

pub first_torn : (snapshot : List ℕ) (first second : List (List ℕ)) (old mid new : List ℕ) → WithGate (end_of first) 0 old mid
    → IsWrittenTorn snapshot first second mid new → IsMountTorn snapshot first second old new
first_torn snapshot [] [] old mid new gate torn =
    torn_then 0 (6 + length (first_record snapshot)) old mid new (front_torn (length (first_record snapshot)) old mid (inr (0, gate))) torn
first_torn snapshot [] (y ∷ ys) old mid new gate same = inr (0, same ∙ gate)
first_torn snapshot (x ∷ xs) [] old mid new gate same = inr (0, same ∙ gate)
first_torn snapshot (x ∷ xs) (y ∷ ys) old mid new gate same = inr (0, same ∙ gate)
