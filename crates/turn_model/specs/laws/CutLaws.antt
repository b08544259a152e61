-- Where a run is cut: what is left is a front of it, not none, alike in having expired, and within the bytes or one
-- packet.
use Rattle.std.proofs.Common.{◌≡◌, ◌⊎◌, inl, inr, ℕ, zero, suc, ◌+◌, ◌<◌, ◌≤◌, Bool, true, false, ◌&&◌, leb, eqb}
use Rattle.std.proofs.Common.{if◌then◌else◌, List, [], ◌∷◌, length, take, Some, slice_get, refl, sym, ap, subst, ◌∙◌}
use Rattle.std.proofs.Common.{arith}
use Rattle.std.proofs.lemmas.Bool.{and_parts, and_from, or_right, or_cases, cases_lt, leb-true, eqb-true, eq-eqb}
use Rattle.std.proofs.lemmas.Option.{none-some, same_Some}
use Rattle.topic_model.specs.Profile.{Profile}
use Rattle.topic_model.specs.StoredMessage.{StoredMessage}
use Rattle.session_model.specs.declared.entry.Kind.{Kind}
use Rattle.turn_model.specs.Delivery.{Reader, kind_for, has_expired}
use Rattle.turn_model.specs.Batch.{count1, count2, size_out, bytes_from, packets_from, is_alike, has_byte_place}
use Rattle.turn_model.specs.Batch.{cut_within, cut_run}

-- ---- alike

alike_same : (a b : Bool) → is_alike a b ≡ true → a ≡ b
alike_same true true e = refl
alike_same true false e = sym e
alike_same false true e = e
alike_same false false e = refl

alike_itself : (a : Bool) → is_alike a a ≡ true
alike_itself true = refl
alike_itself false = refl

-- ---- short

-- so many bytes and packets behind so many bytes
record IsShort (most used bytes packets : ℕ) : Type 0 where
  within : used ≤ most → (used + bytes ≤ most) ⊎ ((used ≡ 0) × (packets ≤ 1))
  over : most < used → (bytes ≡ 0) × (packets ≡ 0)

short_none : (most used : ℕ) → IsShort most used 0 0
short_none most used = record { within = λ le. inl (omega arith); over = λ more. (refl, refl) }

short_more : (most used size bytes packets : ℕ) → has_byte_place most used size ≡ true →
    IsShort most (used + size) bytes packets →
    IsShort most used (size + bytes) ((if eqb size 0 then 0 else 1) + packets)
short_more most used size bytes packets place rest =
    record {
      within = λ le. by_size (cases_lt most (used + size));
      over = λ more. absurd (no_place more (or_cases (leb (used + size) most) (eqb used 0) place));
    }
  where
    no_place : most < used → (leb (used + size) most ≡ true) ⊎ (eqb used 0 ≡ true) → ⊥
    no_place more (inl fits) = let le = leb-true (used + size) most fits in omega arith
    no_place more (inr none) = let zero_used = eqb-true used 0 none in omega arith

    packet : (size : ℕ) → (if eqb size 0 then 0 else 1) ≤ 1
    packet size = by (eqb size 0)
      where
        by : (b : Bool) → (if b then 0 else 1) ≤ 1
        by true = omega arith
        by false = omega arith

    by_rest : (used + size + bytes ≤ most) ⊎ ((used + size ≡ 0) × (packets ≤ 1)) → (used + (size + bytes) ≤ most)
        ⊎ ((used ≡ 0) × ((if eqb size 0 then 0 else 1) + packets ≤ 1))
    by_rest (inl le) = inl (omega arith)
    by_rest (inr few) =
        let none : size ≡ 0 = (let sum : used + size ≡ 0 = few.0 in omega arith) in
        let free : used ≡ 0 = (let sum : used + size ≡ 0 = few.0 in omega arith) in
        let le : packets ≤ 1 = few.1 in
        inr (free, subst (λ b. (if b then 0 else 1) + packets ≤ 1) (sym (eq-eqb size 0 none)) (omega arith))

    by_place : most < used + size → (leb (used + size) most ≡ true) ⊎ (eqb used 0 ≡ true) →
        (used + (size + bytes) ≤ most) ⊎ ((used ≡ 0) × ((if eqb size 0 then 0 else 1) + packets ≤ 1))
    by_place more (inl fits) = let le = leb-true (used + size) most fits in absurd (omega arith)
    by_place more (inr none) =
        let last = rest.over more in
        let packets_none : packets ≡ 0 = last.1 in
        let one = packet size in
        inr (eqb-true used 0 none, omega arith)

    by_size : (most < used + size) ⊎ (used + size ≤ most) → (used + (size + bytes) ≤ most)
        ⊎ ((used ≡ 0) × ((if eqb size 0 then 0 else 1) + packets ≤ 1))
    by_size (inl more) = by_place more (or_cases (leb (used + size) most) (eqb used 0) place)
    by_size (inr le) = by_rest (rest.within le)

-- ---- what is left of a run

-- a front of the messages, alike and short
record IsCut (now : ℕ) (r : Reader) (most : ℕ) (expired : Bool) (used next1 next2 : ℕ)
    (ms ws : List StoredMessage) : Type 0 where
  front : (n : ℕ) × (ws ≡ take n ms)
  alike : (k : ℕ) (w : StoredMessage) → slice_get ws k ≡ Some w → has_expired now w ≡ expired
  short : IsShort most used (bytes_from now r next1 next2 ws) (packets_from now r next1 next2 ws)

cut_is : (now : ℕ) (r : Reader) (most : ℕ) (expired : Bool) (used next1 next2 : ℕ) (ms : List StoredMessage) →
    IsCut now r most expired used next1 next2 ms (cut_within now r most expired used next1 next2 ms)
cut_is now r most expired used next1 next2 [] =
    record { front = (0, refl); alike = λ k w e. absurd (none-some w e); short = short_none most used }
cut_is now r most expired used next1 next2 (m ∷ ms) =
    let kind = kind_for now r m next1 next2 in
    by kind refl (is_alike (has_expired now m) expired && has_byte_place most used (size_out r m kind)) refl
    (cut_within now r most expired (used + size_out r m kind) (next1 + count1 kind) (next2 + count2 kind) ms)
    (cut_is now r most expired (used + size_out r m kind) (next1 + count1 kind) (next2 + count2 kind) ms)
  where
    by : (kind : Kind) → kind_for now r m next1 next2 ≡ kind → (b : Bool) →
        (is_alike (has_expired now m) expired && has_byte_place most used (size_out r m kind)) ≡ b →
        (ws : List StoredMessage) →
        IsCut now r most expired (used + size_out r m kind) (next1 + count1 kind) (next2 + count2 kind) ms ws →
        IsCut now r most expired used next1 next2 (m ∷ ms) (if b then m ∷ ws else [])
    by kind same false e ws rest =
        record { front = (0, refl); alike = λ k w e. absurd (none-some w e); short = short_none most used }
    by kind same true e ws rest =
        let parts = and_parts (is_alike (has_expired now m) expired) (has_byte_place most used (size_out r m kind)) e in
        record {
          front = (suc rest.front.0, ap (λ l. m ∷ l) rest.front.1);
          alike = λ k w f. each k w f (alike_same (has_expired now m) expired parts.0) rest.alike;
          short =
              subst
              (λ (x : Kind). IsShort most used
              (size_out r m x + bytes_from now r (next1 + count1 x) (next2 + count2 x) ws)
              ((if eqb (size_out r m x) 0 then 0 else 1) + packets_from now r (next1 + count1 x)
              (next2 + count2 x) ws))
              (sym same)
              (short_more most used (size_out r m kind)
              (bytes_from now r (next1 + count1 kind) (next2 + count2 kind) ws)
              (packets_from now r (next1 + count1 kind) (next2 + count2 kind) ws) parts.1 rest.short);
        }
      where
        each : (k : ℕ) (w : StoredMessage) → slice_get (m ∷ ws) k ≡ Some w → has_expired now m ≡ expired →
            ((k : ℕ) (w : StoredMessage) → slice_get ws k ≡ Some w → has_expired now w ≡ expired) →
            has_expired now w ≡ expired
        each zero w f here later = ap (has_expired now) (sym (same_Some m w f)) ∙ here
        each (suc k) w f here later = later k w f

-- ---- what is issued of a run

pub record IsBatch (profile : Profile) (now : ℕ) (r : Reader) (next1 next2 : ℕ)
    (ms ws : List StoredMessage) : Type 0 where
  pub front : (n : ℕ) × (ws ≡ take n ms)
  pub some : 0 < length ws
  pub alike : (k j : ℕ) (w v : StoredMessage) → slice_get ws k ≡ Some w → slice_get ws j ≡ Some v →
      has_expired now w ≡ has_expired now v
  pub short : (bytes_from now r next1 next2 ws ≤ profile.batch_bytes) ⊎ (packets_from now r next1 next2 ws ≤ 1)

pub batch_is : (profile : Profile) (now : ℕ) (r : Reader) (next1 next2 : ℕ) (ms : List StoredMessage) → 0 < length ms →
    IsBatch profile now r next1 next2 ms (cut_run profile now r next1 next2 ms)
batch_is profile now r next1 next2 [] some = absurd (omega arith)
batch_is profile now r next1 next2 (m ∷ ms) some =
    let is = cut_is now r profile.batch_bytes (has_expired now m) 0 next1 next2 (m ∷ ms) in
    record {
      front = is.front;
      some = first (kind_for now r m next1 next2);
      alike = λ k j w v e f. is.alike k w e ∙ sym (is.alike j v f);
      short =
          by (bytes_from now r next1 next2 (cut_run profile now r next1 next2 (m ∷ ms)))
          (packets_from now r next1 next2 (cut_run profile now r next1 next2 (m ∷ ms)))
          (is.short.within (omega arith));
    }
  where
    -- the first message always has a place
    first : (kind : Kind) → 0 < length
        (if is_alike (has_expired now m) (has_expired now m) && has_byte_place profile.batch_bytes 0 (size_out r m kind)
        then m ∷ cut_within now r profile.batch_bytes (has_expired now m) (0 + size_out r m kind) (next1 + count1 kind)
        (next2 + count2 kind) ms else [])
    first kind =
        subst
        (λ b. 0 < length
        (if b then m ∷ cut_within now r profile.batch_bytes (has_expired now m) (0 + size_out r m kind)
        (next1 + count1 kind) (next2 + count2 kind) ms else []))
        (sym
        (and_from (is_alike (has_expired now m) (has_expired now m))
        (has_byte_place profile.batch_bytes 0 (size_out r m kind)) (alike_itself (has_expired now m))
        (or_right (leb (0 + size_out r m kind) profile.batch_bytes) true refl)))
        (omega arith)

    by : (bytes packets : ℕ) → (0 + bytes ≤ profile.batch_bytes) ⊎ ((◌≡◌ {A = ℕ} 0 0) × (packets ≤ 1)) →
        (bytes ≤ profile.batch_bytes) ⊎ (packets ≤ 1)
    by bytes packets (inl le) = inl (omega arith)
    by bytes packets (inr few) = inr few.1
