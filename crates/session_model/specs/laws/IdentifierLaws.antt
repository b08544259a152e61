-- Unfinished entries have different packet identifiers (MQTT 2.2.1).
use Rattle.std.proofs.Common.{◌≡◌, ◌⊎◌, inl, inr, ℕ, ◌+◌, ◌≤◌, ◌<◌, true, false, not, nat_le, slice_get, Some}
use Rattle.std.proofs.Common.{true≢false, refl, sym, ap, subst, ◌∙◌, arith}
use Rattle.std.proofs.lemmas.Bool.{cases_lt, leb-false, not-true}
use Rattle.std.proofs.lemmas.Option.{none-some, same_Some}
use Rattle.session_model.specs.declared.entry.Entry.{Entry}
use Rattle.session_model.specs.declared.entry.Kind.{Kind}
use Rattle.session_model.specs.declared.entry.Kind.TheVariants.{Track1, Track2, Zero, Silent}
use Rattle.session_model.specs.Entry.{id1, id2, id_of, number1, number2}
use Rattle.session_model.specs.PlainSession.{PlainSession, issued1_of, issued2_of, is_done, complete_of, in_use}
use Rattle.session_model.specs.Unfinished.{kind_is_finished, is_finished, unfinished}
use Rattle.session_model.specs.laws.DoneLaws.{complete_is_done}
use Rattle.session_model.specs.Orders.{HasNumbers}
use Rattle.session_model.specs.laws.TrackLaws.{GoUp, numbers_by, by_number1, by_number2, from_goes_up, some_go_up}
use Rattle.session_model.specs.laws.TrackLaws.{number_between, number_place, kept_passes}

-- ---- identifiers of near numbers

pub id1_once : (a b : ℕ) → 0 < a → 0 < b → a < b + 32767 → b < a + 32767 → id1 a ≡ id1 b → a ≡ b
id1_once a b ha hb ab ba e = omega arith

pub id2_once : (a b : ℕ) → 0 < a → 0 < b → a < b + 32767 → b < a + 32767 → id2 a ≡ id2 b → a ≡ b
id2_once a b ha hb ab ba e = omega arith

pub never_meet : (a b : ℕ) → id1 a ≡ id2 b → ⊥
never_meet a b e = omega arith

-- ---- the numbers of unfinished entries

pub unfinished_up1 : (m : PlainSession) → HasNumbers m → GoUp 1 (1 + issued1_of m) (numbers_by number1 (unfinished m))
unfinished_up1 m has =
    some_go_up number1 (λ (e : Entry). not (is_finished m e)) 1 (1 + issued1_of m) m.issued
    (subst (GoUp 1 (1 + issued1_of m)) (sym has.track1 ∙ by_number1 m.issued)
    (from_goes_up 1 (1 + issued1_of m) (issued1_of m) (omega arith)))

pub unfinished_up2 : (m : PlainSession) → HasNumbers m → GoUp 1 (1 + issued2_of m) (numbers_by number2 (unfinished m))
unfinished_up2 m has =
    some_go_up number2 (λ (e : Entry). not (is_finished m e)) 1 (1 + issued2_of m) m.issued
    (subst (GoUp 1 (1 + issued2_of m)) (sym has.track2 ∙ by_number2 m.issued)
    (from_goes_up 1 (1 + issued2_of m) (issued2_of m) (omega arith)))

-- above the mark of track 1, and not past the last
pub near1 : (m : PlainSession) → HasNumbers m → (i : ℕ) (e : Entry) (n : ℕ) → slice_get (unfinished m) i ≡ Some e →
    e.kind ≡ Track1 n →
    (m.acked < n) × (n ≤ issued1_of m)
near1 m has i e n at is =
    let between = number_between number1 1 (1 + issued1_of m) (unfinished m) (unfinished_up1 m has) i e n at
    (ap number1 is) in
    let test : not (is_finished m e) ≡ true = kept_passes (λ (e : Entry). not (is_finished m e)) m.issued i e at in
    let still : nat_le n m.acked ≡ false = ap (kind_is_finished m) (sym is) ∙ not-true (is_finished m e) test in
    let last = between.1 in
    (leb-false n m.acked still, omega arith)

-- above what is complete on track 2, and not past the last
pub near2 : (m : PlainSession) → HasNumbers m → (i : ℕ) (e : Entry) (n : ℕ) → slice_get (unfinished m) i ≡ Some e →
    e.kind ≡ Track2 n →
    (complete_of m < n) × (n ≤ issued2_of m)
near2 m has i e n at is =
    let between = number_between number2 1 (1 + issued2_of m) (unfinished m) (unfinished_up2 m has) i e n at
    (ap number2 is) in
    let test : not (is_finished m e) ≡ true = kept_passes (λ (e : Entry). not (is_finished m e)) m.issued i e at in
    let still : is_done m n ≡ false = ap (kind_is_finished m) (sym is) ∙ not-true (is_finished m e) test in
    let last = between.1 in
    (by between.0 still (cases_lt (complete_of m) n), omega arith)
  where
    by : 1 ≤ n → is_done m n ≡ false → (complete_of m < n) ⊎ (n ≤ complete_of m) → complete_of m < n
    by first still (inl above) = above
    by first still (inr below) = absurd (true≢false (sym (complete_is_done m n first below) ∙ still))

-- ---- identifiers differ

pub identifiers_once : (m : PlainSession) (i j id : ℕ) (e f : Entry) → HasNumbers m → in_use m ≤ m.window →
    m.window ≤ 2048 →
    slice_get (unfinished m) i ≡ Some e → slice_get (unfinished m) j ≡ Some f →
    id_of e.kind ≡ Some id → id_of f.kind ≡ Some id → i ≡ j
identifiers_once m i j id e f has within narrow at_i at_j is_e is_f = by e.kind f.kind refl refl is_e is_f
  where
    by : (k l : Kind) → e.kind ≡ k → f.kind ≡ l → id_of k ≡ Some id → id_of l ≡ Some id → i ≡ j
    by (Track1 a) (Track1 b) kind_e kind_f id_e id_f =
        let near_a = near1 m has i e a at_i kind_e in
        let near_b = near1 m has j f b at_j kind_f in
        let above_a = near_a.0 in
        let below_a = near_a.1 in
        let above_b = near_b.0 in
        let below_b = near_b.1 in
        let ids : id1 a ≡ id1 b = same_Some (id1 a) id id_e ∙ sym (same_Some (id1 b) id id_f) in
        let same : a ≡ b = id1_once a b (omega arith) (omega arith) (omega arith) (omega arith) ids in
        number_place number1 1 (1 + issued1_of m) (unfinished m) (unfinished_up1 m has) i j e f a at_i at_j
        (ap number1 kind_e) (ap number1 kind_f ∙ ap Some (sym same))
    by (Track2 a) (Track2 b) kind_e kind_f id_e id_f =
        let near_a = near2 m has i e a at_i kind_e in
        let near_b = near2 m has j f b at_j kind_f in
        let above_a = near_a.0 in
        let below_a = near_a.1 in
        let above_b = near_b.0 in
        let below_b = near_b.1 in
        let ids : id2 a ≡ id2 b = same_Some (id2 a) id id_e ∙ sym (same_Some (id2 b) id id_f) in
        let same : a ≡ b = id2_once a b (omega arith) (omega arith) (omega arith) (omega arith) ids in
        number_place number2 1 (1 + issued2_of m) (unfinished m) (unfinished_up2 m has) i j e f a at_i at_j
        (ap number2 kind_e) (ap number2 kind_f ∙ ap Some (sym same))
    by (Track1 a) (Track2 b) kind_e kind_f id_e id_f =
        absurd (never_meet a b (same_Some (id1 a) id id_e ∙ sym (same_Some (id2 b) id id_f)))
    by (Track2 a) (Track1 b) kind_e kind_f id_e id_f =
        absurd (never_meet b a (same_Some (id1 b) id id_f ∙ sym (same_Some (id2 a) id id_e)))
    by (Track1 a) Zero kind_e kind_f id_e id_f = absurd (none-some id id_f)
    by (Track1 a) Silent kind_e kind_f id_e id_f = absurd (none-some id id_f)
    by (Track2 a) Zero kind_e kind_f id_e id_f = absurd (none-some id id_f)
    by (Track2 a) Silent kind_e kind_f id_e id_f = absurd (none-some id id_f)
    by Zero l kind_e kind_f id_e id_f = absurd (none-some id id_e)
    by Silent l kind_e kind_f id_e id_f = absurd (none-some id id_e)
