-- The form of each field and of each part that changes and snapshots have in common.
use Rattle.std.proofs.Common.{◌≡◌, ℕ, zero, suc, ◌^◌, ◌<◌, Bool, true, false, ◌&&◌, ◌==◌, eqb, List, [], ◌++◌, length, is_none, Result, Ok, Err, Option, Some, None, refl, sym, ap, subst, ◌∙◌, arith}
use Rattle.std.specs.Prelude.{nat_lt, if◌then◌else◌}
use Rattle.std.proofs.lemmas.Bool.{and_parts, and_from, eqb-true, ne_eqb, eqb-false, ltb-true, lt-ltb}
use Rattle.wire_fields.specs.declared.cut.Cut.{Cut}
use Rattle.wire_fields.specs.Text.{is_text}
use Rattle.wire_fields.specs.Spelled.{spelled_u8, spelled_u16, spelled_u32, spelled_u64, spelled_text}
use Rattle.wire_fields.specs.Reading.{AreBytes}
use Rattle.wire_fields.specs.NumberLaws.{u8_again, u8_takes, u16_again, u16_takes, u32_again, u32_takes, u64_again, u64_takes}
use Rattle.wire_fields.specs.SizedLaws.{text_again, text_takes}
use Rattle.topic_model.specs.Levels.{levels_of, text_of_levels}
use Rattle.topic_model.specs.laws.LevelsLaws.{text_of-levels_of}
use Rattle.topic_model.specs.Texts.{filter_refusal}
use Rattle.shard_model.specs.declared.sweep.Sweep.{Sweep}
use Rattle.session_model.specs.declared.entry.Version.{Version}
use Rattle.session_model.specs.FitsSession.{greatest}
use Rattle.session_state.specs.declared.batch.Batch.{Batch}
use Rattle.session_state.specs.KeptSub.{KeptSub}
use Rattle.session_codec.specs.declared.formats.TheConstants.{FIRST_FORMAT, FIRST_WINDOW}
use Rattle.session_codec.specs.Spelling.{bit, spelled_filter, spelled_window, spelled_sweep, spelled_version, spelled_batch, spelled_sub, spelled_moment}
use Rattle.session_codec.specs.HasSpelling.{fits_u8, fits_u16, fits_u32, fits_u64, fits_text, fits_filter, are_levels, fits_moment, fits_parting, fits_window, fits_sweep, fits_version, fits_batch, fits_sub}
use Rattle.session_codec.specs.Reading.{if_field, byte_at, two_at, four_at, eight_at, name_at, flag_at, filter_at, moment_at, parting_at, parting_of, window_at, sweep_of, sweep_at, version_of, version_at, batch_of, batch_at, sub_of, sub_at}
use Rattle.session_codec.specs.LevelForms.{levels_of-text_of, levels_of_text}
use Rattle.session_codec.specs.Forms.{IsForm, Took, some_is, then_form, both_form, passing_form, made_form, record_form, refit, many_form}

-- ---- fields

field_ok : {A : Type 0} (r : Result A Cut) (x : A) → if_field r ≡ Some x → r ≡ Ok x
field_ok (Ok y) x e = ap Ok (some_is y x e)
field_ok (Err cut) x e = absurd cc

field_form : {A : Type 0} {f : A → Bool} {s : A → List ℕ} {read : List ℕ → Result (A × List ℕ) Cut} →
    ((x : A) (rest : List ℕ) → f x ≡ true → read (s x ++ rest) ≡ Ok (x, rest)) →
    ((bytes : List ℕ) (x : A × List ℕ) → AreBytes bytes → read bytes ≡ Ok x → Took f s bytes x) →
    IsForm f s (λ bytes. if_field (read bytes))
field_form {A} {f} {s} {read} again takes =
    record {
      again = λ x rest h. ap if_field (again x rest h);
      takes = λ bytes x are e. takes bytes x are (field_ok (read bytes) x e);
    }

pub byte_form : IsForm fits_u8 spelled_u8 byte_at
byte_form =
    field_form (λ n rest h. u8_again n rest)
    (λ bytes x are e. let t = u8_takes bytes x are e in record { has = lt-ltb x.0 (2 ^ 8) t.in_range; parts = t.parts })

pub two_form : IsForm fits_u16 spelled_u16 two_at
two_form =
    field_form (λ n rest h. u16_again n rest (ltb-true n (2 ^ 16) h))
    (λ bytes x are e. let t = u16_takes bytes x are e in record { has = lt-ltb x.0 (2 ^ 16) t.in_range; parts = t.parts })

pub four_form : IsForm fits_u32 spelled_u32 four_at
four_form =
    field_form (λ n rest h. u32_again n rest (ltb-true n (2 ^ 32) h))
    (λ bytes x are e. let t = u32_takes bytes x are e in record { has = lt-ltb x.0 (2 ^ 32) t.in_range; parts = t.parts })

pub eight_form : IsForm fits_u64 spelled_u64 eight_at
eight_form =
    field_form (λ n rest h. u64_again n rest (ltb-true n (2 ^ 64) h))
    (λ bytes x are e. let t = u64_takes bytes x are e in record { has = lt-ltb x.0 (2 ^ 64) t.in_range; parts = t.parts })

pub name_form : IsForm fits_text spelled_text name_at
name_form =
    field_form
    (λ text rest h. let p = and_parts (fits_u16 (length text)) (is_text text) h in text_again text rest (ltb-true (length text) (2 ^ 16) p.0) p.1)
    (λ bytes x are e. let t = text_takes bytes x are e in record {
      has = and_from (fits_u16 (length x.0)) (is_text x.0) (lt-ltb (length x.0) (2 ^ 16) t.in_range.0) t.in_range.1;
      parts = t.parts;
    })

-- ---- fields with a test

-- a test that is narrower than another
pub narrower : {A : Type 0} (g f : A → Bool) → ((x : A) → g x ≡ true → f x ≡ true) → (x : A) → g x ≡ (f x && g x)
narrower {A} g f within x = by (g x) refl
  where
    no : (b : Bool) → false ≡ (b && false)
    no true = refl
    no false = refl

    by : (b : Bool) → g x ≡ b → g x ≡ (f x && g x)
    by true e = e ∙ sym (and_from (f x) (g x) (within x e) e)
    by false e = e ∙ no (f x) ∙ ap (λ b. f x && b) (sym e)

moment_within : (n : ℕ) → fits_moment n ≡ true → fits_u64 n ≡ true
moment_within n h = lt-ltb n (2 ^ 64) (omega (arith, ltb-true n greatest h))

pub moment_form : IsForm fits_moment spelled_u64 moment_at
moment_form = refit fits_moment (passing_form fits_moment eight_form) (narrower fits_moment fits_u64 moment_within)

pub flag_form : IsForm (λ (b : Bool). true) (λ (b : Bool). spelled_u8 (bit b)) flag_at
flag_form =
    made_form (λ (b : Bool). true) (λ (b : Bool). spelled_u8 (bit b)) (λ (n : ℕ). n == 1) (passing_form (λ (n : ℕ). nat_lt n 2) byte_form) from to
  where
    from : (b : Bool) → true ≡ true → (n : ℕ) × ((n == 1) ≡ b) × ((fits_u8 n && nat_lt n 2) ≡ true)
    from true h = (1, refl, refl)
    from false h = (0, refl, refl)

    to : (n : ℕ) → (fits_u8 n && nat_lt n 2) ≡ true → (true ≡ true) × (spelled_u8 (bit (n == 1)) ≡ spelled_u8 n)
    to zero h = (refl, refl)
    to (suc zero) h = (refl, refl)
    to (suc (suc n)) h =
        let small : suc (suc n) < 2 = ltb-true (suc (suc n)) 2 (and_parts (fits_u8 (suc (suc n))) (nat_lt (suc (suc n)) 2) h).1 in
        absurd (omega arith)

pub filter_form : IsForm fits_filter spelled_filter filter_at
filter_form =
    made_form fits_filter spelled_filter levels_of (passing_form (λ (text : List ℕ). is_none (filter_refusal text)) name_form)
    (λ levels h.
    let t : List ℕ = text_of_levels levels in
    let p = and_parts (fits_text t) (is_none (filter_refusal t) && are_levels levels) h in
    let q = and_parts (is_none (filter_refusal t)) (are_levels levels) p.1 in
    (t, levels_of-text_of levels q.1, and_from (fits_text t) (is_none (filter_refusal t)) p.0 q.0))
    (λ text h.
    let same : text_of_levels (levels_of text) ≡ text = text_of-levels_of text in
    let p = and_parts (fits_text text) (is_none (filter_refusal text)) h in
    let test : List ℕ → Bool = λ t. fits_text t && (is_none (filter_refusal t) && are_levels (levels_of text)) in
    let all : test text ≡ true =
    and_from (fits_text text) (is_none (filter_refusal text) && are_levels (levels_of text)) p.0
    (and_from (is_none (filter_refusal text)) (are_levels (levels_of text)) p.1 (levels_of_text text)) in
    (ap test same ∙ all, ap spelled_text same))

window_by : (b : Bool) → IsForm (λ (w : ℕ). if b then w == FIRST_WINDOW else fits_u16 w) (λ (w : ℕ). if b then [] else spelled_u16 w)
    (λ bytes. if b then Some (FIRST_WINDOW, bytes) else two_at bytes)
window_by true =
    record {
      again = λ w rest h. ap (λ n. Some (n, rest)) (sym (eqb-true w FIRST_WINDOW h));
      takes = λ bytes x are e.
          subst (Took (λ (w : ℕ). w == FIRST_WINDOW) (λ (w : ℕ). []) bytes) (some_is (FIRST_WINDOW, bytes) x e) (record { has = refl; parts = refl });
    }
window_by false = two_form

pub window_form : (format : ℕ) → IsForm (fits_window format) (spelled_window format) (window_at format)
window_form format = window_by (format == FIRST_FORMAT)

pub parting_form : IsForm fits_parting spelled_moment parting_at
parting_form = made_form fits_parting spelled_moment parting_of eight_form from to
  where
    from : (p : Option ℕ) → fits_parting p ≡ true → (n : ℕ) × (parting_of n ≡ p) × (fits_u64 n ≡ true)
    from None h = (greatest, refl, refl)
    from (Some n) h =
        let less : n < greatest = ltb-true n greatest h in
        let other : eqb n greatest ≡ false = ne_eqb n greatest (λ e. omega arith) in
        (n, ap (λ b. if b then None else Some n) other, moment_within n h)

    by : (n : ℕ) (b : Bool) → eqb n greatest ≡ b → fits_u64 n ≡ true →
        (fits_parting (if b then None else Some n) ≡ true) × (spelled_moment (if b then None else Some n) ≡ spelled_u64 n)
    by n true e h = (refl, ap spelled_u64 (sym (eqb-true n greatest e)))
    by n false e h = (lt-ltb n greatest (omega (arith, ltb-true n (2 ^ 64) h, eqb-false n greatest e)), refl)

    to : (n : ℕ) → fits_u64 n ≡ true → (fits_parting (parting_of n) ≡ true) × (spelled_moment (parting_of n) ≡ spelled_u64 n)
    to n h = by n (n == greatest) refl h

-- ---- parts

pub sweep_form : IsForm fits_sweep spelled_sweep sweep_at
sweep_form =
    record_form sweep_of (λ (s : Sweep). (s.generation, (s.base, (s.target, (s.stream, s.position))))) (λ s. refl) (λ x. refl)
    (both_form eight_form (both_form eight_form (both_form eight_form (both_form four_form eight_form))))

pub version_form : IsForm fits_version spelled_version version_at
version_form =
    record_form version_of (λ (v : Version). (v.number, (v.subscription, (v.options, v.identifier)))) (λ v. refl) (λ x. refl)
    (both_form four_form (both_form four_form (both_form byte_form four_form)))

pub batch_form : IsForm fits_batch spelled_batch batch_at
batch_form =
    let run = both_form eight_form two_form in
    record_form batch_of
    (λ (b : Batch). (b.version, (b.shard, (b.generation, (b.stream, (b.from, (b.to, (b.limit, ((b.first1, b.count1), (b.first2, b.count2))))))))))
    (λ b. refl) (λ x. refl)
    (both_form four_form (both_form byte_form (both_form eight_form (both_form four_form (both_form eight_form (both_form eight_form (both_form four_form
    (both_form run run))))))))

pub sub_form : (shards : ℕ) → IsForm (fits_sub shards) spelled_sub (sub_at shards)
sub_form shards =
    record_form sub_of (λ (s : KeptSub). (s.number, (s.live, (s.version, (s.filter, s.sweeps))))) (λ s. refl) (λ x. refl)
    (both_form four_form (then_form flag_form (λ live h.
    both_form four_form (both_form filter_form (many_form sweep_form (if live then shards else 0))))))
