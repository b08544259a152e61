-- PUBLISH, read and spelled (MQTT 3.3).
use Rattle.std.proofs.Common.{◌≡◌, ℕ, zero, suc, ◌/◌, ◌%◌, ◌<◌, ◌≤◌, Bool, true, false, not, ◌&&◌, cond, eqb, List, [], ◌++◌, length, Some, refl, sym, ap, subst, ◌∙◌, arith, All}
use Rattle.std.proofs.lemmas.List.{append-nil}
use Rattle.wire_fields.specs.Spelled.{spelled_text}
use Rattle.wire_fields.specs.Reading.{AreBytes}
use Rattle.mqtt_props.specs.declared.prop.Prop.{Prop}
use Rattle.mqtt_props.specs.declared.table.Holder.TheVariants as In
use Rattle.mqtt_props.specs.Prop.{IsPropIn}
use Rattle.mqtt_props.specs.Props.{in_writing_order, spelled_props}
use Rattle.mqtt_packet.specs.Packet.{PlainPacket, Publish, PublishFields}
use Rattle.mqtt_packet.specs.Spelling.{publish_flags, spelled_id}
use Rattle.mqtt_packet.specs.Fits.{IsId, IsTied, IsTopicName}
use Rattle.mqtt_packet.specs.Reading.{only_if, is_odd, are_publish_flags, id_at, id_if, message_in, publish_in}
use Rattle.mqtt_packet.specs.ReaderLaws.{IsRead, Given, and_then, makes, recast, passed, some_is}
use Rattle.mqtt_packet.specs.FlagLaws.{TakesApart, publish_apart, publish_together, some_qos, tied_pass, publish_passes}
use Rattle.mqtt_packet.specs.FieldLaws.{sent_list, id_reads, topic_reads, props_reads}
use Rattle.mqtt_packet.specs.BodyLaws.{IsSentAs}

-- ---- the identifier, where the QoS is above 0

abbrev HasId : ℕ → ℕ → Type 0
HasId zero id = id ≡ 0
HasId (suc qos) id = IsId id

-- an identifier that goes with a QoS
record IsIdOf (qos : ℕ) (id : ℕ) (field : List ℕ) : Type 0 where
  has : HasId qos id
  is : field ≡ spelled_id qos id

id_above : (qos : ℕ) (bytes : List ℕ) → id_if (suc qos) bytes ≡ id_at bytes
id_above qos bytes = ap (λ (b : Bool). cond b (Some (0, bytes)) (id_at bytes)) (some_qos qos)

id_if_reads : (qos : ℕ) → IsRead (Given (IsIdOf qos)) (id_if qos)
id_if_reads zero = record {
  again = λ bytes x few g.
      let whole : bytes ≡ x.1 = g.parts ∙ ap (λ (l : List ℕ). l ++ x.1) g.is.is in
      (λ i. Some (sym g.is.has i, whole i));
  takes = λ bytes x fits e. subst (λ (y : ℕ × List ℕ). Given (IsIdOf 0) bytes y) (some_is (0, bytes) x e) (record {
    field = [];
    is = record { has = refl; is = refl };
    parts = refl;
  });
}
id_if_reads (suc qos) = record {
  again = λ bytes x few g. id_above qos bytes ∙ id_reads.again bytes x few (record {
    field = g.field;
    is = record { fits = g.is.has; is = g.is.is };
    parts = g.parts;
  });
  takes = λ bytes x fits e.
      let g = id_reads.takes bytes x fits (sym (id_above qos bytes) ∙ e) in
      record { field = g.field; is = record { has = g.is.fits; is = g.is.is }; parts = g.parts };
}

-- ---- a message, by its flags

abbrev publish : Bool → ℕ → Bool → List ℕ → ℕ → List Prop → List ℕ → PlainPacket
publish dup qos retain topic id props payload =
    Publish (record { dup = dup; qos = qos; retain = retain; topic = topic; id = id; props = props; payload = payload })

record IsMessage (dup : Bool) (qos : ℕ) (retain : Bool) (body : List ℕ) (packet : PlainPacket) : Type 0 where
  topic : List ℕ
  id : ℕ
  sent : List Prop
  payload : List ℕ
  is_topic : IsTopicName topic
  has : HasId qos id
  fits : All (IsPropIn In.Publish) sent
  form : body ≡ spelled_text topic ++ (spelled_id qos id ++ (spelled_props sent ++ (payload ++ [])))
  same : publish dup qos retain topic id (in_writing_order sent) payload ≡ packet

message_reads : (dup : Bool) (qos : ℕ) (retain : Bool) → IsRead (IsMessage dup qos retain) (message_in dup qos retain)
message_reads dup qos retain =
    recast (and_then _ topic_reads (λ topic. and_then _ (id_if_reads qos) (λ id. and_then _ (props_reads In.Publish) (λ props.
    makes (λ (rest : List ℕ). publish dup qos retain topic id props rest)))))
    (λ body packet few m. record {
      value = m.topic;
      field = spelled_text m.topic;
      rest = spelled_id qos m.id ++ (spelled_props m.sent ++ (m.payload ++ []));
      is = record { fits = m.is_topic; is = refl };
      parts = m.form;
      behind = record {
        value = m.id;
        field = spelled_id qos m.id;
        rest = spelled_props m.sent ++ (m.payload ++ []);
        is = record { has = m.has; is = refl };
        parts = refl;
        behind = record {
          value = in_writing_order m.sent;
          field = spelled_props m.sent;
          rest = m.payload ++ [];
          is = sent_list m.sent m.fits;
          parts = refl;
          behind = record { is = ap (publish dup qos retain m.topic m.id (in_writing_order m.sent)) (append-nil m.payload) ∙ m.same };
        };
      };
    })
    (λ body packet fits t.
    let id = t.behind in
    let props = id.behind in
    record {
      topic = t.value;
      id = id.value;
      sent = props.is.sent;
      payload = props.rest;
      is_topic = t.is.fits;
      has = id.is.has;
      fits = props.is.list.fits;
      form = t.parts ∙ (λ i. t.is.is i ++ id.parts i) ∙ (λ i. spelled_text t.value ++ (id.is.is i ++ props.parts i))
          ∙ (λ i. spelled_text t.value ++ (spelled_id qos id.value ++ (props.is.is i ++ sym (append-nil props.rest) i)));
      same = ap (λ (ps : List Prop). publish dup qos retain t.value id.value ps props.rest) props.is.list.ordered ∙ props.behind.is;
    })

-- ---- with its flags

tied_has : (qos : ℕ) (dup : Bool) (id : ℕ) → IsTied qos dup id → HasId qos id
tied_has zero dup id tied = tied.1
tied_has (suc qos) dup id tied = tied

not_both : (dup : Bool) → not (dup && true) ≡ true → dup ≡ false
not_both true e = absurd cc
not_both false e = refl

has_tied : (qos : ℕ) (dup : Bool) (id : ℕ) → HasId qos id → not (dup && eqb qos 0) ≡ true → IsTied qos dup id
has_tied zero dup id has e = (not_both dup e, has)
has_tied (suc qos) dup id has e = has

-- the body is that of a PUBLISH with these flags
pub record IsPublishOf (flags : ℕ) (body : List ℕ) (packet : PlainPacket) : Type 0 where
  pub publish : IsSentAs Publish body packet
  pub flags_are : publish_flags publish.sent.dup publish.sent.qos publish.sent.retain ≡ flags

publish_by : (flags : ℕ) (dup : Bool) (qos : ℕ) (retain : Bool) (body : List ℕ) → TakesApart dup qos retain flags
    → publish_in flags body ≡ only_if (are_publish_flags dup qos) (message_in dup qos retain body)
publish_by flags dup qos retain body t =
    (λ i. only_if (are_publish_flags (t.is_dup i) (t.is_qos i)) (message_in (t.is_dup i) (t.is_qos i) (t.is_retain i) body))

publish_again : (flags : ℕ) (body : List ℕ) (packet : PlainPacket) → length body ≤ 268435455 → IsPublishOf flags body packet
    → publish_in flags body ≡ Some packet
publish_again flags body packet few p =
    let m : PublishFields = p.publish.sent in
    let f = p.publish.fits in
    ap (λ (n : ℕ). publish_in n body) (sym p.flags_are)
    ∙ publish_by (publish_flags m.dup m.qos m.retain) m.dup m.qos m.retain body (publish_apart m.dup m.qos m.retain f.qos)
    ∙ ap (λ (b : Bool). only_if b (message_in m.dup m.qos m.retain body)) (tied_pass m.dup m.qos m.id f.qos f.tied)
    ∙ (message_reads m.dup m.qos m.retain).again body packet few (record {
      topic = m.topic;
      id = m.id;
      sent = m.props;
      payload = m.payload;
      is_topic = f.topic;
      has = tied_has m.qos m.dup m.id f.tied;
      fits = f.props;
      form = p.publish.form;
      same = p.publish.same;
    })

publish_takes : (flags : ℕ) (body : List ℕ) (packet : PlainPacket) → flags < 16 → AreBytes body → publish_in flags body ≡ Some packet
    → IsPublishOf flags body packet
publish_takes flags body packet lt fits e =
    let dup : Bool = is_odd (flags / 8) in
    let qos : ℕ = flags / 2 % 4 in
    let retain : Bool = is_odd flags in
    let p = passed (are_publish_flags dup qos) (message_in dup qos retain body) packet e in
    let q = publish_passes dup qos (omega arith) p.0 in
    let m = (message_reads dup qos retain).takes body packet fits p.1 in
    record {
      publish = record {
        sent = record { dup = dup; qos = qos; retain = retain; topic = m.topic; id = m.id; props = m.sent; payload = m.payload };
        fits = record { qos = q.0; tied = has_tied qos dup m.id m.has q.1; topic = m.is_topic; props = m.fits };
        same = m.same;
        form = m.form;
      };
      flags_are = publish_together flags lt;
    }

pub publish_reads : (flags : ℕ) → flags < 16 → IsRead (IsPublishOf flags) (publish_in flags)
publish_reads flags lt = record {
  again = λ body packet few p. publish_again flags body packet few p;
  takes = λ body packet fits e. publish_takes flags body packet lt fits e;
}
