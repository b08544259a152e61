-- The form of each field that sessions don't have.
use Rattle.std.proofs.Common.{◌≡◌, ℕ, Bool, true, false, ◌&&◌, ◌==◌, List, ◌++◌, length, is_none, Result, Ok, Err, Option, Some, None, refl, sym, ap, ◌∙◌, append_assoc}
use Rattle.std.proofs.lemmas.Bool.{and_parts, and_from, eqb-true, eq-eqb}
use Rattle.wire_fields.specs.declared.cut.Cut.{Cut}
use Rattle.wire_fields.specs.Spelled.{spelled_u8, spelled_u16, spelled_u32, spelled_text}
use Rattle.wire_fields.specs.Reading.{bytes_of}
use Rattle.wire_fields.specs.SizedLaws.{bytes_body}
use Rattle.topic_model.specs.Levels.{levels_of, text_of_levels}
use Rattle.topic_model.specs.laws.LevelsLaws.{text_of-levels_of}
use Rattle.topic_model.specs.Texts.{topic_refusal}
use Rattle.session_codec.specs.HasSpelling.{fits_u8, fits_u32, fits_text, are_levels}
use Rattle.session_codec.specs.Reading.{◌>>=◌, if_field, four_at, made, nothing_at}
use Rattle.session_codec.specs.Forms.{IsForm, some_is, bind_some, both_form, passing_form, made_form, nothing_form}
use Rattle.session_codec.specs.LevelForms.{levels_of-text_of, levels_of_text}
use Rattle.session_codec.specs.PartForms.{byte_form, two_form, four_form, eight_form, name_form}
use Rattle.record_codec.specs.Forms.{behind_two}
use Rattle.record_codec.specs.Spelling.{spelled_blob, spelled_topic, spelled_expiry, spelled_sender}
use Rattle.record_codec.specs.HasSpelling.{fits_blob, fits_topic, is_list, fits_props, is_id_of, fits_delivery, fits_sender}
use Rattle.record_codec.specs.Reading.{done, mark_at, blob_at, topic_at, props_at, delivery_at, sender_at, for_ever, expiry_at}

-- ---- a byte that says which record this is

pub mark_form : (mark : ℕ) → fits_u8 mark ≡ true → IsForm (λ (x : Unit {0}). true) (λ (x : Unit {0}). spelled_u8 mark) (mark_at mark)
mark_form mark small =
    made_form (λ (x : Unit {0}). true) (λ (x : Unit {0}). spelled_u8 mark) done (passing_form (λ (n : ℕ). n == mark) byte_form)
    (λ x h. (mark, refl, and_from (fits_u8 mark) (mark == mark) small (eq-eqb mark mark refl)))
    (λ n h. (refl, ap spelled_u8 (sym (eqb-true n mark (and_parts (fits_u8 n) (n == mark) h).1))))

-- ---- bytes with their length

field_ok : {A : Type 0} (r : Result A Cut) (x : A) → if_field r ≡ Some x → r ≡ Ok x
field_ok (Ok y) x e = ap Ok (some_is y x e)
field_ok (Err cut) x e = absurd cc

pub blob_form : IsForm fits_blob spelled_blob blob_at
blob_form =
    let behind : Option (ℕ × List ℕ) → Option (List ℕ × List ℕ) = λ r. r >>= λ n. if_field (bytes_of n.0 n.1) in
    record {
      again = λ x rest h.
          ap (λ l. behind (four_at l)) (append_assoc (spelled_u32 (length x)) x rest)
          ∙ ap behind (four_form.again (length x) (x ++ rest) h)
          ∙ ap if_field (bytes_body.again x rest tt);
      takes = λ bytes x are e.
          let n = bind_some (four_at bytes) (λ n. if_field (bytes_of n.0 n.1)) x e in
          let a = four_form.takes bytes n.0 are n.1 in
          let b = bytes_body.takes n.0.0 n.0.1 x (field_ok (bytes_of n.0.0 n.0.1) x n.2) in
          record {
            has = ap fits_u32 b.1.0 ∙ a.has;
            parts = behind_two bytes (spelled_u32 (length x.0)) n.0.1 x.0 x.1 (a.parts ∙ ap (λ k. spelled_u32 k ++ n.0.1) (sym b.1.0)) b.0;
          };
    }

pub props_form : IsForm fits_props spelled_blob props_at
props_form = passing_form is_list blob_form

-- ---- fields with a test

pub topic_form : IsForm fits_topic spelled_topic topic_at
topic_form =
    made_form fits_topic spelled_topic levels_of (passing_form (λ (text : List ℕ). is_none (topic_refusal text)) name_form)
    (λ levels h.
    let t : List ℕ = text_of_levels levels in
    let p = and_parts (fits_text t) (is_none (topic_refusal t) && are_levels levels) h in
    let q = and_parts (is_none (topic_refusal t)) (are_levels levels) p.1 in
    (t, levels_of-text_of levels q.1, and_from (fits_text t) (is_none (topic_refusal t)) p.0 q.0))
    (λ text h.
    let same : text_of_levels (levels_of text) ≡ text = text_of-levels_of text in
    let p = and_parts (fits_text text) (is_none (topic_refusal text)) h in
    let test : List ℕ → Bool = λ t. fits_text t && (is_none (topic_refusal t) && are_levels (levels_of text)) in
    let all : test text ≡ true =
    and_from (fits_text text) (is_none (topic_refusal text) && are_levels (levels_of text)) p.0
    (and_from (is_none (topic_refusal text)) (are_levels (levels_of text)) p.1 (levels_of_text text)) in
    (ap test same ∙ all, ap spelled_text same))

pub delivery_form : IsForm (λ (d : ℕ × ℕ). fits_delivery d.0 d.1) (λ (d : ℕ × ℕ). spelled_u16 d.0 ++ spelled_u8 d.1) delivery_at
delivery_form = passing_form (λ (d : ℕ × ℕ). is_id_of d.1 d.0) (both_form two_form byte_form)

pub sender_form : IsForm (λ (x : List ℕ × ℕ). fits_sender x.0 x.1) (λ (x : List ℕ × ℕ). spelled_sender x.0 x.1) sender_at
sender_form = both_form name_form eight_form

-- ---- an expiry, which is there or not

abbrev pub fits_expiry_as : Bool → Option ℕ → Bool
fits_expiry_as true None = false
fits_expiry_as true (Some seconds) = fits_u32 seconds
fits_expiry_as false None = true
fits_expiry_as false (Some seconds) = false

some_expiry : IsForm (fits_expiry_as true) spelled_expiry (made Some four_at)
some_expiry = made_form (fits_expiry_as true) spelled_expiry Some four_form from (λ n h. (h, refl))
  where
    from : (e : Option ℕ) → fits_expiry_as true e ≡ true → (n : ℕ) × (Some n ≡ e) × (fits_u32 n ≡ true)
    from None h = absurd cc
    from (Some n) h = (n, refl, h)

no_expiry : IsForm (fits_expiry_as false) spelled_expiry (made for_ever nothing_at)
no_expiry = made_form (fits_expiry_as false) spelled_expiry for_ever nothing_form from (λ x h. (refl, refl))
  where
    from : (e : Option ℕ) → fits_expiry_as false e ≡ true → (x : Unit {0}) × (for_ever x ≡ e) × (true ≡ true)
    from None h = (tt, refl, refl)
    from (Some n) h = absurd cc

pub expiry_form : (expires : Bool) → IsForm (fits_expiry_as expires) spelled_expiry (expiry_at expires)
expiry_form true = some_expiry
expiry_form false = no_expiry
