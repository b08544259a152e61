-- The end of an acknowledgement and of a DISCONNECT: a reason and properties, or less (MQTT 3.4.2.1, 3.14.2.1).
use Rattle.std.proofs.Common.{◌≡◌, ℕ, ◌^◌, ◌<◌, ◌≤◌, List, [], ◌∷◌, ◌++◌, length, Option, Some, refl, sym, ap, ◌∙◌, ◌⊎◌, arith, All, inl, inr}
use Rattle.std.proofs.lemmas.List.{length-append}
use Rattle.std.proofs.lemmas.List.Elements.{All-nil}
use Rattle.wire_fields.specs.Spelled.{spelled_u8, spelled_var}
use Rattle.wire_fields.specs.Reading.{AreBytes}
use Rattle.wire_fields.specs.Places.{are_bytes_rest}
use Rattle.mqtt_props.specs.declared.prop.Prop.{Prop}
use Rattle.mqtt_props.specs.declared.table.Holder.{Holder}
use Rattle.mqtt_props.specs.Prop.{IsPropIn}
use Rattle.mqtt_props.specs.Props.{in_writing_order, spelled_bare, spelled_props}
use Rattle.mqtt_props.specs.SpelledLaws.{var_some}
use Rattle.mqtt_packet.specs.Reading.{◌>>=◌, props_at, at_end, props_if_there, reason_if_there}
use Rattle.mqtt_packet.specs.ReaderLaws.{IsRead, bind_some, behind_part, some_is, ends}
use Rattle.mqtt_packet.specs.FieldLaws.{sent_list, props_reads}

-- a reason and properties, the reason alone, or nothing
abbrev pub IsTailOf : List Prop → ℕ → List ℕ → Type 0
IsTailOf sent reason bytes =
    (bytes ≡ spelled_u8 reason ++ (spelled_props sent ++ []))
    ⊎ ((sent ≡ []) × ((bytes ≡ spelled_u8 reason) ⊎ ((reason ≡ 0) × (bytes ≡ []))))

-- such an end, of which a value is made
pub record IsTail {B : Type 0} (holder : Holder) (make : ℕ → List Prop → B) (bytes : List ℕ) (y : B) : Type 0 where
  pub reason : ℕ
  pub sent : List Prop
  pub below : reason < 2 ^ 8
  pub fits : All (IsPropIn holder) sent
  pub form : IsTailOf sent reason bytes
  pub is : make reason (in_writing_order sent) ≡ y

abbrev pub tail_at : {B : Type 0} → Holder → (ℕ → List Prop → B) → List ℕ → Option B
tail_at holder make bytes =
    props_if_there holder (reason_if_there bytes).1 >>= λ props. at_end (make (reason_if_there bytes).0 props.0) props.1

pub no_order : in_writing_order [] ≡ []
unfolding in_writing_order
no_order = refl

pub no_sent : (sent : List Prop) → sent ≡ [] → in_writing_order sent ≡ []
no_sent sent none = ap in_writing_order none ∙ no_order

there : (holder : Holder) (bytes : List ℕ) → 0 < length bytes → props_if_there holder bytes ≡ props_at holder bytes
there holder [] some = absurd (omega (arith, some))
there holder (b ∷ bytes) some = refl

tail_again : {B : Type 0} (holder : Holder) (make : ℕ → List Prop → B) (bytes : List ℕ) (y : B) (reason : ℕ) (sent : List Prop)
    → length bytes ≤ 268435455 → All (IsPropIn holder) sent
    → IsTailOf sent reason bytes → make reason (in_writing_order sent) ≡ y → tail_at holder make bytes ≡ Some y
tail_again {B} holder make bytes y reason sent few fits (inl e) is =
    let behind : List ℕ = spelled_props sent ++ [] in
    let some : 0 < length behind =
    omega (
      arith,
      length-append (spelled_props sent) [],
      length-append (spelled_var (length (spelled_bare sent))) (spelled_bare sent),
      var_some (length (spelled_bare sent)),
    ) in
    let read : props_at holder behind ≡ Some (in_writing_order sent, []) =
    (props_reads holder).again behind (in_writing_order sent, []) (omega (arith, few, ap length e))
    (record { field = spelled_props sent; is = sent_list sent fits; parts = refl }) in
    ap (tail_at holder make) e
    ∙ ap (λ (r : Option (List Prop × List ℕ)). r >>= λ props. at_end (make reason props.0) props.1) (there holder behind some ∙ read)
    ∙ ap Some is
tail_again {B} holder make bytes y reason sent few fits (inr (none, inl e)) is =
    ap (tail_at holder make) e ∙ ap (λ (ps : List Prop). Some (make reason ps)) (sym (no_sent sent none)) ∙ ap Some is
tail_again {B} holder make bytes y reason sent few fits (inr (none, inr (nought, e))) is =
    ap (tail_at holder make) e
    ∙ (λ i. Some (make (sym nought i) (sym (no_sent sent none) i)))
    ∙ ap Some is

tail_takes : {B : Type 0} (holder : Holder) (make : ℕ → List Prop → B) (bytes : List ℕ) (y : B) → AreBytes bytes
    → tail_at holder make bytes ≡ Some y → IsTail holder make bytes y
tail_takes holder make [] y fits e = record {
  reason = 0;
  sent = [];
  below = omega arith;
  fits = All-nil (IsPropIn holder);
  form = inr (refl, inr (refl, refl));
  is = ap (make 0) no_order ∙ some_is (make 0 []) y e;
}
tail_takes holder make (b ∷ []) y fits e = record {
  reason = b;
  sent = [];
  below = fits 0;
  fits = All-nil (IsPropIn holder);
  form = inr (refl, inl refl);
  is = ap (make b) no_order ∙ some_is (make b []) y e;
}
tail_takes holder make (b ∷ c ∷ bytes) y fits e =
    let found = bind_some (props_at holder (c ∷ bytes)) (λ props. at_end (make b props.0) props.1) y e in
    let others = are_bytes_rest b (c ∷ bytes) fits in
    let list = (props_reads holder).takes (c ∷ bytes) found.0 others found.1 in
    let end = (ends (make b found.0.0)).takes found.0.1 y (behind_part (c ∷ bytes) list.field found.0.1 list.parts others) found.2 in
    record {
      reason = b;
      sent = list.is.sent;
      below = fits 0;
      fits = list.is.list.fits;
      form = inl (ap (λ (l : List ℕ). b ∷ l) (list.parts ∙ (λ i. list.is.is i ++ end.none i)));
      is = ap (make b) list.is.list.ordered ∙ end.is;
    }

pub tail_reads : {B : Type 0} (holder : Holder) (make : ℕ → List Prop → B) → IsRead (IsTail holder make) (tail_at holder make)
tail_reads holder make = record {
  again = λ bytes y few t. tail_again holder make bytes y t.reason t.sent few t.fits t.form t.is;
  takes = λ bytes y fits e. tail_takes holder make bytes y fits e;
}
