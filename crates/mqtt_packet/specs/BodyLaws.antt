-- The PINGs, CONNACK, SUBSCRIBE, SUBACK, UNSUBSCRIBE and UNSUBACK, read and spelled (MQTT 3.2, 3.8 to 3.13).
use Rattle.std.proofs.Common.{◌≡◌, ℕ, Bool, eqb, ltb, List, [], ◌++◌, Option, Some, All, refl, sym, ap, ◌∙◌, arith}
use Rattle.std.specs.List.{flat_map}
use Rattle.std.proofs.lemmas.Bool.{ltb-true, lt-ltb}
use Rattle.std.proofs.lemmas.List.{append-nil}
use Rattle.wire_fields.specs.Spelled.{spelled_u8, spelled_u16, spelled_text}
use Rattle.mqtt_props.specs.declared.prop.Prop.{Prop}
use Rattle.mqtt_props.specs.declared.table.Holder.{Holder}
use Rattle.mqtt_props.specs.declared.table.Holder.TheVariants as In
use Rattle.mqtt_props.specs.Prop.{IsPropIn}
use Rattle.mqtt_props.specs.Props.{in_writing_order, spelled_props}
use Rattle.mqtt_packet.specs.declared.packet.Wish.{Wish}
use Rattle.mqtt_packet.specs.Packet.{PlainPacket, Connack, Subscribe, Suback, Unsubscribe, Unsuback, Pingreq, Pingresp, AnswerFields}
use Rattle.mqtt_packet.specs.Spelling.{bit, spelled_wish}
use Rattle.mqtt_packet.specs.Fits.{Fits, arranged, IsId, FitsAnswer}
use Rattle.mqtt_packet.specs.Spells.{IsBody}
use Rattle.mqtt_packet.specs.Reading.{◌>>=◌, id_at, props_at, answer_in, connack_in, subscribe_in, unsubscribe_in, nothing_in}
use Rattle.mqtt_packet.specs.ReaderLaws.{IsRead, AreEach, and_then, where_passes, makes, ends, maps, recast, each_reads}
use Rattle.mqtt_packet.specs.FlagLaws.{bit_is, bit_small, is_bit}
use Rattle.mqtt_packet.specs.FieldLaws.{sent_list, byte_reads, id_reads, name_reads, wish_reads, props_reads, text_some, wish_some}

-- the body is that of a packet of a kind, which in writing order is the one that is read
pub record IsSentAs {F : Type 0} (make : F → PlainPacket) (body : List ℕ) (packet : PlainPacket) : Type 0 where
  pub sent : F
  pub fits : Fits (make sent)
  pub same : arranged (make sent) ≡ packet
  pub form : IsBody (make sent) body

pub sent_as : {F : Type 0} {make : F → PlainPacket} {body : List ℕ} {packet : PlainPacket} (sent : F)
    → Fits (make sent) → arranged (make sent) ≡ packet → IsBody (make sent) body → IsSentAs make body packet
sent_as sent fits same form = record { sent = sent; fits = fits; same = same; form = form }

-- ---- PINGREQ and PINGRESP

pub pingreq_reads : IsRead (IsSentAs (λ (u : Unit {0}). Pingreq)) (nothing_in Pingreq)
pingreq_reads = recast (ends Pingreq)
    (λ body packet few s. record { none = s.form; is = s.same })
    (λ body packet fits e. record { sent = tt; fits = tt; same = e.is; form = e.none })

pub pingresp_reads : IsRead (IsSentAs (λ (u : Unit {0}). Pingresp)) (nothing_in Pingresp)
pingresp_reads = recast (ends Pingresp)
    (λ body packet few s. record { none = s.form; is = s.same })
    (λ body packet fits e. record { sent = tt; fits = tt; same = e.is; form = e.none })

-- ---- CONNACK

abbrev connack : Bool → ℕ → List Prop → PlainPacket
connack present reason props = Connack (record { present = present; reason = reason; props = props })

pub connack_reads : IsRead (IsSentAs Connack) connack_in
connack_reads =
    recast (and_then _ byte_reads (λ flags. where_passes (ltb flags 2) (
    and_then _ byte_reads (λ reason. and_then _ (props_reads In.Connack) (λ props. ends (connack (eqb flags 1) reason props))))))
    (λ body packet few s. record {
      value = bit s.sent.present;
      field = spelled_u8 (bit s.sent.present);
      rest = spelled_u8 s.sent.reason ++ (spelled_props s.sent.props ++ []);
      is = record { fits = omega (arith, bit_small s.sent.present); is = refl };
      parts = s.form;
      behind = record {
        passes = lt-ltb (bit s.sent.present) 2 (bit_small s.sent.present);
        good = record {
          value = s.sent.reason;
          field = spelled_u8 s.sent.reason;
          rest = spelled_props s.sent.props ++ [];
          is = record { fits = s.fits.reason; is = refl };
          parts = refl;
          behind = record {
            value = in_writing_order s.sent.props;
            field = spelled_props s.sent.props;
            rest = [];
            is = sent_list s.sent.props s.fits.props;
            parts = refl;
            behind = record {
              none = refl;
              is = ap (λ (b : Bool). connack b s.sent.reason (in_writing_order s.sent.props)) (bit_is s.sent.present) ∙ s.same;
            };
          };
        };
      };
    })
    (λ body packet fits t.
    let reason = t.behind.good in
    let props = reason.behind in
    let flags : bit (eqb t.value 1) ≡ t.value = is_bit t.value (ltb-true t.value 2 t.behind.passes) in
    record {
      sent = record { present = eqb t.value 1; reason = reason.value; props = props.is.sent };
      fits = record { reason = reason.is.fits; props = props.is.list.fits };
      same = ap (λ (ps : List Prop). connack (eqb t.value 1) reason.value ps) props.is.list.ordered ∙ props.behind.is;
      form = t.parts ∙ (λ i. t.is.is i ++ reason.parts i) ∙ (λ i. spelled_u8 (sym flags i) ++ (reason.is.is i ++ props.parts i))
          ∙ (λ i. spelled_u8 (bit (eqb t.value 1)) ++ (spelled_u8 reason.value ++ (props.is.is i ++ props.behind.none i)));
    })

-- ---- SUBSCRIBE, SUBACK, UNSUBSCRIBE and UNSUBACK: an identifier, properties, and what fills the rest

record IsListed {B C : Type 0} (holder : Holder) (Good : List ℕ → C → Type 0) (make : ℕ → List Prop → C → B)
    (body : List ℕ) (y : B) : Type 0 where
  id : ℕ
  sent : List Prop
  rest : List ℕ
  value : C
  is_id : IsId id
  fits : All (IsPropIn holder) sent
  good : Good rest value
  form : body ≡ spelled_u16 id ++ (spelled_props sent ++ rest)
  is : make id (in_writing_order sent) value ≡ y

listed_reads : {B C : Type 0} {Good : List ℕ → C → Type 0} {read : List ℕ → Option C} (holder : Holder) (make : ℕ → List Prop → C → B)
    → IsRead Good read
    → IsRead (IsListed holder Good make) (λ (body : List ℕ).
    id_at body >>= λ id. props_at holder id.1 >>= λ props. read props.1 >>= λ x. Some (make id.0 props.0 x))
listed_reads {B} {C} {Good} {read} holder make others =
    recast (and_then (λ (id : ℕ × List ℕ). props_at holder id.1 >>= λ props. read props.1 >>= λ x. Some (make id.0 props.0 x))
    id_reads (λ id.
    and_then (λ (props : List Prop × List ℕ). read props.1 >>= λ x. Some (make id props.0 x)) (props_reads holder) (λ props.
    maps (make id props) others)))
    (λ body y few l. record {
      value = l.id;
      field = spelled_u16 l.id;
      rest = spelled_props l.sent ++ l.rest;
      is = record { fits = l.is_id; is = refl };
      parts = l.form;
      behind = record {
        value = in_writing_order l.sent;
        field = spelled_props l.sent;
        rest = l.rest;
        is = sent_list l.sent l.fits;
        parts = refl;
        behind = record { value = l.value; good = l.good; is = l.is };
      };
    })
    (λ body y fits t. record {
      id = t.value;
      sent = t.behind.is.sent;
      rest = t.behind.rest;
      value = t.behind.behind.value;
      is_id = t.is.fits;
      fits = t.behind.is.list.fits;
      good = t.behind.behind.good;
      form = t.parts ∙ (λ i. t.is.is i ++ t.behind.parts i) ∙ (λ i. spelled_u16 t.value ++ (t.behind.is.is i ++ t.behind.rest));
      is = ap (λ (ps : List Prop). make t.value ps t.behind.behind.value) t.behind.is.list.ordered ∙ t.behind.behind.is;
    })

abbrev answer_fields : ℕ → List Prop → List ℕ → AnswerFields
answer_fields id props reasons = record { id = id; props = props; reasons = reasons }

-- the body of a SUBACK or an UNSUBACK
abbrev answer_body : AnswerFields → List ℕ
answer_body a = spelled_u16 a.id ++ (spelled_props a.props ++ (a.reasons ++ []))

-- what makes a kind one of these two
record IsAnswerKind (holder : Holder) (make : AnswerFields → PlainPacket) : Type 0 where
  fits : (a : AnswerFields) → FitsAnswer holder a → Fits (make a)
  has_fit : (a : AnswerFields) → Fits (make a) → FitsAnswer holder a
  order : (a : AnswerFields) → make (record a { props = in_writing_order a.props }) ≡ arranged (make a)
  forms : (a : AnswerFields) (body : List ℕ) → body ≡ answer_body a → IsBody (make a) body
  has_form : (a : AnswerFields) (body : List ℕ) → IsBody (make a) body → body ≡ answer_body a

answer_reads : (holder : Holder) (make : AnswerFields → PlainPacket) → IsAnswerKind holder make
    → IsRead (IsSentAs make) (λ (body : List ℕ). answer_in holder body >>= λ a. Some (make a))
answer_reads holder make kind =
    recast (maps make (listed_reads holder answer_fields (makes (λ (rest : List ℕ). rest))))
    (λ body packet few s.
    let fits = kind.has_fit s.sent s.fits in
    record {
      value = record s.sent { props = in_writing_order s.sent.props };
      good = record {
        id = s.sent.id;
        sent = s.sent.props;
        rest = s.sent.reasons ++ [];
        value = s.sent.reasons;
        is_id = fits.id;
        fits = fits.props;
        good = record { is = append-nil s.sent.reasons };
        form = kind.has_form s.sent body s.form;
        is = refl;
      };
      is = kind.order s.sent ∙ s.same;
    })
    (λ body packet fits m.
    let l = m.good in
    let sent : AnswerFields = answer_fields l.id l.sent l.rest in
    record {
      sent = sent;
      fits = kind.fits sent (record { id = l.is_id; props = l.fits });
      same = sym (kind.order sent) ∙ ap make (ap (answer_fields l.id (in_writing_order l.sent)) l.good.is ∙ l.is) ∙ m.is;
      form = kind.forms sent body (l.form ∙ ap (λ (r : List ℕ). spelled_u16 l.id ++ (spelled_props l.sent ++ r)) (sym (append-nil l.rest)));
    })

pub suback_reads : IsRead (IsSentAs Suback) (λ (body : List ℕ). answer_in In.Suback body >>= λ s. Some (Suback s))
suback_reads = answer_reads In.Suback Suback (record {
  fits = λ a f. f;
  has_fit = λ a f. f;
  order = λ a. refl;
  forms = λ a body e. e;
  has_form = λ a body e. e;
})

pub unsuback_reads : IsRead (IsSentAs Unsuback) (λ (body : List ℕ). answer_in In.Unsuback body >>= λ u. Some (Unsuback u))
unsuback_reads = answer_reads In.Unsuback Unsuback (record {
  fits = λ a f. f;
  has_fit = λ a f. f;
  order = λ a. refl;
  forms = λ a body e. e;
  has_form = λ a body e. e;
})

-- elements that fill the rest
each_alone : {A : Type 0} {Fits : A → Type 0} {spelled : A → List ℕ} (xs : List A) → All Fits xs
    → AreEach Fits spelled (flat_map spelled xs ++ []) xs
each_alone {A} {Fits} {spelled} xs fits = record { fits = fits; parts = append-nil (flat_map spelled xs) }

each_form : {A : Type 0} (spelled : A → List ℕ) (id : ℕ) (sent : List Prop) (body rest : List ℕ) (xs : List A)
    → body ≡ spelled_u16 id ++ (spelled_props sent ++ rest) → rest ≡ flat_map spelled xs
    → body ≡ spelled_u16 id ++ (spelled_props sent ++ (flat_map spelled xs ++ []))
each_form spelled id sent body rest xs form parts =
    form ∙ ap (λ (r : List ℕ). spelled_u16 id ++ (spelled_props sent ++ r)) (parts ∙ sym (append-nil (flat_map spelled xs)))

abbrev subscribe : ℕ → List Prop → List Wish → PlainPacket
subscribe id props filters = Subscribe (record { id = id; props = props; filters = filters })

pub subscribe_reads : IsRead (IsSentAs Subscribe) subscribe_in
subscribe_reads = recast (listed_reads In.Subscribe subscribe (each_reads wish_reads wish_some))
    (λ body packet few s. record {
      id = s.sent.id;
      sent = s.sent.props;
      rest = flat_map spelled_wish s.sent.filters ++ [];
      value = s.sent.filters;
      is_id = s.fits.id;
      fits = s.fits.props;
      good = each_alone s.sent.filters s.fits.filters;
      form = s.form;
      is = s.same;
    })
    (λ body packet fits l. record {
      sent = record { id = l.id; props = l.sent; filters = l.value };
      fits = record { id = l.is_id; props = l.fits; filters = l.good.fits };
      same = l.is;
      form = each_form spelled_wish l.id l.sent body l.rest l.value l.form l.good.parts;
    })

abbrev unsubscribe : ℕ → List Prop → List (List ℕ) → PlainPacket
unsubscribe id props filters = Unsubscribe (record { id = id; props = props; filters = filters })

pub unsubscribe_reads : IsRead (IsSentAs Unsubscribe) unsubscribe_in
unsubscribe_reads = recast (listed_reads In.Unsubscribe unsubscribe (each_reads name_reads text_some))
    (λ body packet few s. record {
      id = s.sent.id;
      sent = s.sent.props;
      rest = flat_map spelled_text s.sent.filters ++ [];
      value = s.sent.filters;
      is_id = s.fits.id;
      fits = s.fits.props;
      good = each_alone s.sent.filters s.fits.filters;
      form = s.form;
      is = s.same;
    })
    (λ body packet fits l. record {
      sent = record { id = l.id; props = l.sent; filters = l.value };
      fits = record { id = l.is_id; props = l.fits; filters = l.good.fits };
      same = l.is;
      form = each_form spelled_text l.id l.sent body l.rest l.value l.form l.good.parts;
    })
