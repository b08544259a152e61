-- From one device call of a commit to the next.
use Rattle.std.proofs.Common.{ℕ, arith, ◌+◌, ◌^◌, ◌<◌, ◌≡◌, inl, inr, List, [], ◌∷◌, ◌++◌, length, take, drop, refl, sym, ap, subst, ◌∙◌, append_assoc}
use lib.Seq.{take-append_seam}
use Rattle.outside.specs.DiskModel.{Torn, Holds, Follows, Only}
use Rattle.outside.specs.Torn.{torn_then, torn_wider}
use Rattle.gated_log.specs.Records.{records, body_bytes}
use Rattle.gated_log.specs.Stands.{Stands, StandsWith, IsBeforeOrAfter, IsInCommit}
use Rattle.gated_log.proofs.CrashLemmas.{body_torn, gate_torn, before_or_after, stands_records, drop_front, open_stands}

-- each image of a torn write over known bytes is those bytes torn
pub torn_images : (at count : ℕ) (bytes : List ℕ) (old new : List ℕ → Type 0) → Only bytes old → Follows (Torn at count) old new
    → (image : List ℕ) → new image → Torn at count bytes image
torn_images at count bytes old new only follows image left =
    let (before, there, torn) = follows image left in
    subst (λ b. Torn at count b image) (only before there) torn

-- inside the write of the body
pub body_images : (payloads : List (List ℕ)) (payload : List ℕ) (place count : ℕ) (bytes : List ℕ) (old new : List ℕ → Type 0) → Stands payloads place bytes
    → Only bytes old → Follows (Torn (place + 1) count) old new → (image : List ℕ) → new image → IsInCommit payloads payload place image
body_images payloads payload place count bytes old new s only follows image left =
    inl (body_torn payloads place count bytes image s (torn_images (place + 1) count bytes old new only follows image left))

-- inside the write of the gate
pub gate_images : (payloads : List (List ℕ)) (payload : List ℕ) (place gate : ℕ) (bytes : List ℕ) (old new : List ℕ → Type 0)
    → StandsWith payloads payload place gate bytes → Only bytes old → Follows (Torn place 1) old new → (image : List ℕ) → new image
    → IsInCommit payloads payload place image
gate_images payloads payload place gate bytes old new s only follows image left =
    inr (gate_torn payloads payload place gate bytes image s (torn_images place 1 bytes old new only follows image left))

-- the gate is open
pub gate_written : (payloads : List (List ℕ)) (payload : List ℕ) (place gate : ℕ) (old new : List ℕ) → StandsWith payloads payload place gate old
    → Holds old place (1 ∷ []) new → StandsWith payloads payload place 1 new
gate_written payloads payload place gate old new s h =
    let rest : List ℕ = body_bytes payload ++ s.junk in
    let before : take place old ≡ s.front = ap (take place) s.spelled ∙ (ap (λ k. take k (s.front ++ gate ∷ rest)) (sym s.ends) ∙ take-append_seam s.front (gate ∷ rest)) in
    let after : drop (place + 1) old ≡ rest = ap (drop (place + 1)) s.spelled ∙ (ap (λ k. drop (k + 1) (s.front ++ gate ∷ rest)) (sym s.ends) ∙ drop_front s.front rest gate) in
    record {
      front = s.front;
      junk = s.junk;
      are_open = s.are_open;
      ends = s.ends;
      spelled = h ∙ (append_assoc (take place old) (1 ∷ []) (drop (place + 1) old)
          ∙ (ap (λ l. l ++ 1 ∷ drop (place + 1) old) before ∙ ap (λ l. s.front ++ 1 ∷ l) after));
    }

-- inside a commit the list is that of before or that of after
pub in_commit : (payloads : List (List ℕ)) (payload : List ℕ) (place : ℕ) (bytes : List ℕ) → 0 < length payload → length payload < 2 ^ 32
    → IsInCommit payloads payload place bytes → IsBeforeOrAfter payloads payload bytes
in_commit payloads payload place bytes some short (inl s) = inl (stands_records payloads place bytes s)
in_commit payloads payload place bytes some short (inr (gate, s)) = before_or_after payloads payload place gate bytes some short s

-- after a commit the log has the one more record
pub written_list : (payloads : List (List ℕ)) (payload : List ℕ) (place : ℕ) (bytes : List ℕ) → 0 < length payload → length payload < 2 ^ 32
    → StandsWith payloads payload place 1 bytes → records bytes ≡ payloads ++ payload ∷ []
written_list payloads payload place bytes some short s =
    stands_records (payloads ++ payload ∷ []) (place + (5 + length payload)) bytes (open_stands payloads payload place 1 bytes refl some short s)

-- and stands at its end
pub written_stands : (payloads : List (List ℕ)) (payload : List ℕ) (place : ℕ) (bytes : List ℕ) → 0 < length payload → length payload < 2 ^ 32
    → StandsWith payloads payload place 1 bytes → Stands (records bytes) (place + (5 + length payload)) bytes
written_stands payloads payload place bytes some short s =
    subst (λ list. Stands list (place + (5 + length payload)) bytes) (sym (written_list payloads payload place bytes some short s))
    (open_stands payloads payload place 1 bytes refl some short s)

-- the write of the body and that of the gate
pub torn_record : (place count : ℕ) (old mid new : List ℕ) → Torn (place + 1) (5 + count) old mid → Torn place 1 mid new → Torn place (6 + count) old new
torn_record place count old mid new body gate =
    torn_then place (6 + count) old mid new
    (torn_wider (place + 1) (5 + count) place (6 + count) old mid (omega arith) (omega arith) body)
    (torn_wider place 1 place (6 + count) mid new (omega arith) (omega arith) gate)
