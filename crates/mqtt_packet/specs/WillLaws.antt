-- The will, the user name and the password of a CONNECT, read and spelled (MQTT 3.1.3.2 to 3.1.3.6).
use Rattle.std.proofs.Common.{◌≡◌, ℕ, Bool, true, false, List, [], ◌++◌, Option, Some, None, refl, sym, ap, subst, ◌∙◌, append_assoc, All}
use Rattle.std.specs.Prelude.{is_some}
use Rattle.wire_fields.specs.Spelled.{spelled_text, spelled_bin}
use Rattle.mqtt_props.specs.declared.prop.Prop.{Prop}
use Rattle.mqtt_props.specs.declared.table.Holder.TheVariants as In
use Rattle.mqtt_props.specs.Prop.{IsPropIn, IsShortText}
use Rattle.mqtt_props.specs.Props.{in_writing_order, spelled_props}
use Rattle.mqtt_packet.specs.declared.flags.ConnectFlags.{ConnectFlags}
use Rattle.mqtt_packet.specs.declared.flags.WillFlags.{WillFlags}
use Rattle.mqtt_packet.specs.declared.packet.Will.{Will}
use Rattle.mqtt_packet.specs.Spelling.{if_there, spelled_will}
use Rattle.mqtt_packet.specs.Fits.{IfThere, IsTopicName, IsShortBinary, will_arranged}
use Rattle.mqtt_packet.specs.Reading.{if_told, will_of, will_at, login_at}
use Rattle.mqtt_packet.specs.ReaderLaws.{IsRead, Given, IsField, IsPair, and_then, makes, maps, recast, pair_reads, some_is}
use Rattle.mqtt_packet.specs.FlagLaws.{will_told}
use Rattle.mqtt_packet.specs.FieldLaws.{sent_list, name_reads, blob_reads, topic_reads, props_reads}

-- ---- the will

-- what a will's spelling says of it; its QoS stands in the flags
pub record FitsSpelled (will : Will) : Type 0 where
  pub props : All (IsPropIn In.Will) will.props
  pub topic : IsTopicName will.topic
  pub payload : IsShortBinary will.payload

abbrev will_with : WillFlags → List Prop → List ℕ → List ℕ → Will
will_with flags props topic payload = record { qos = flags.qos; retain = flags.retain; props = props; topic = topic; payload = payload }

-- a will, as it was sent, of which the flags tell
pub record IsWillOf (told : Option WillFlags) (will : Option Will) (field : List ℕ) : Type 0 where
  pub sent : Option Will
  pub is_told : will_told sent ≡ told
  pub fits : IfThere FitsSpelled sent
  pub same : will_arranged sent ≡ will
  pub is : field ≡ spelled_will sent

-- the same of one that is there
pub record IsOneWill (flags : WillFlags) (will : Will) (field : List ℕ) : Type 0 where
  pub sent : Will
  pub fits : FitsSpelled sent
  pub same : will_with flags (in_writing_order sent.props) sent.topic sent.payload ≡ will
  pub is : field ≡ spelled_props sent.props ++ (spelled_text sent.topic ++ (spelled_bin sent.payload ++ []))

-- what stands behind the parts of a will stands behind the will
will_flat : (props : List Prop) (topic payload rest : List ℕ)
    → (spelled_props props ++ (spelled_text topic ++ (spelled_bin payload ++ []))) ++ rest
    ≡ spelled_props props ++ (spelled_text topic ++ (spelled_bin payload ++ rest))
will_flat props topic payload rest =
    append_assoc (spelled_props props) (spelled_text topic ++ (spelled_bin payload ++ [])) rest
    ∙ ap (λ (l : List ℕ). spelled_props props ++ l) (append_assoc (spelled_text topic) (spelled_bin payload ++ []) rest)
    ∙ ap (λ (l : List ℕ). spelled_props props ++ (spelled_text topic ++ l)) (append_assoc (spelled_bin payload) [] rest)

one_will_reads : (flags : WillFlags) → IsRead (Given (IsOneWill flags)) (will_of flags)
one_will_reads flags =
    recast (and_then _ (props_reads In.Will) (λ props. and_then _ topic_reads (λ topic. and_then _ blob_reads (λ payload.
    makes (λ (rest : List ℕ). (will_with flags props topic payload, rest))))))
    (λ bytes x few g.
    let will : Will = g.is.sent in
    record {
      value = in_writing_order will.props;
      field = spelled_props will.props;
      rest = spelled_text will.topic ++ (spelled_bin will.payload ++ x.1);
      is = sent_list will.props g.is.fits.props;
      parts = g.parts ∙ ap (λ (l : List ℕ). l ++ x.1) g.is.is
          ∙ will_flat will.props will.topic will.payload x.1;
      behind = record {
        value = will.topic;
        field = spelled_text will.topic;
        rest = spelled_bin will.payload ++ x.1;
        is = record { fits = g.is.fits.topic; is = refl };
        parts = refl;
        behind = record {
          value = will.payload;
          field = spelled_bin will.payload;
          rest = x.1;
          is = record { fits = g.is.fits.payload; is = refl };
          parts = refl;
          behind = record { is = ap (λ (w : Will). (w, x.1)) g.is.same };
        };
      };
    })
    (λ bytes x fits t.
    let topic = t.behind in
    let payload = topic.behind in
    let sent : List Prop = t.is.sent in
    subst (λ (y : Will × List ℕ). Given (IsOneWill flags) bytes y) payload.behind.is (record {
      field = spelled_props sent ++ (spelled_text topic.value ++ (spelled_bin payload.value ++ []));
      is = record {
        sent = will_with flags sent topic.value payload.value;
        fits = record { props = t.is.list.fits; topic = topic.is.fits; payload = payload.is.fits };
        same = ap (λ (ps : List Prop). will_with flags ps topic.value payload.value) t.is.list.ordered;
        is = refl;
      };
      parts = t.parts ∙ (λ i. t.is.is i ++ topic.parts i) ∙ (λ i. spelled_props sent ++ (topic.is.is i ++ payload.parts i))
          ∙ (λ i. spelled_props sent ++ (spelled_text topic.value ++ (payload.is.is i ++ payload.rest)))
          ∙ sym (will_flat sent topic.value payload.value payload.rest);
    }))

no_will : (sent : Option Will) → will_told sent ≡ None → sent ≡ None
no_will None e = refl
no_will (Some will) e = absurd cc

-- a will of which flags tell is there
one_will : (flags : WillFlags) (sent : Option Will) (will : Option Will) (field : List ℕ) → will_told sent ≡ Some flags
    → IfThere FitsSpelled sent → will_arranged sent ≡ will → field ≡ spelled_will sent
    → (w : Will) × (IsOneWill flags w field × (Some w ≡ will))
one_will flags None will field told fits same is = absurd cc
one_will flags (Some w) will field told fits same is =
    let qos_of : Option WillFlags → WillFlags = λ o. elim o [ None ↦ flags | Some f ↦ f ] in
    let these : (record { qos = w.qos; retain = w.retain }) ≡ flags = ap qos_of told in (
      record w { props = in_writing_order w.props },
      (
        record {
          sent = w;
          fits = fits;
          same = ap (λ (f : WillFlags). will_with f (in_writing_order w.props) w.topic w.payload) (sym these);
          is = is;
        },
        same,
      ),
    )

pub will_reads : (told : Option WillFlags) → IsRead (Given (IsWillOf told)) (will_at told)
will_reads None = record {
  again = λ bytes x few g.
      let none = no_will g.is.sent g.is.is_told in
      let whole : bytes ≡ x.1 = g.parts ∙ ap (λ (l : List ℕ). l ++ x.1) (g.is.is ∙ ap spelled_will none) in
      let will : None ≡ x.0 = ap will_arranged (sym none) ∙ g.is.same in
      (λ i. Some (will i, whole i));
  takes = λ bytes x fits e. subst (λ (y : Option Will × List ℕ). Given (IsWillOf None) bytes y) (some_is (None, bytes) x e)
      (record { field = []; is = record { sent = None; is_told = refl; fits = tt; same = refl; is = refl }; parts = refl });
}
will_reads (Some flags) =
    recast (maps (λ (x : Will × List ℕ). let y : Option Will × List ℕ = (Some x.0, x.1) in y) (one_will_reads flags))
    (λ bytes x few g.
    let one = one_will flags g.is.sent x.0 g.field g.is.is_told g.is.fits g.is.same g.is.is in
    record {
      value = (one.0, x.1);
      good = record { field = g.field; is = one.1.0; parts = g.parts };
      is = ap (λ (w : Option Will). (w, x.1)) one.1.1;
    })
    (λ bytes x fits m. subst (λ (y : Option Will × List ℕ). Given (IsWillOf (Some flags)) bytes y) m.is (record {
      field = m.good.field;
      is = record {
        sent = Some (will_with flags m.good.is.sent.props m.good.is.sent.topic m.good.is.sent.payload);
        is_told = refl;
        fits = record { props = m.good.is.fits.props; topic = m.good.is.fits.topic; payload = m.good.is.fits.payload };
        same = ap Some m.good.is.same;
        is = m.good.is.is;
      };
      parts = m.good.parts;
    }))

-- ---- user name and password

-- a field that is there exactly where a flag tells of it
pub record IsIfTold (told : Bool) (Fits : List ℕ → Type 0) (spelled : List ℕ → List ℕ) (x : Option (List ℕ)) (field : List ℕ) : Type 0 where
  pub is_told : is_some x ≡ told
  pub fits : IfThere Fits x
  pub is : field ≡ if_there spelled x

none_told : (x : Option (List ℕ)) → is_some x ≡ false → x ≡ None
none_told None e = refl
none_told (Some x) e = absurd cc

one_told : (Fits : List ℕ → Type 0) (spelled : List ℕ → List ℕ) (x : Option (List ℕ)) (field : List ℕ) → is_some x ≡ true → IfThere Fits x
    → field ≡ if_there spelled x
    → (y : List ℕ) × (IsField Fits spelled y field × (Some y ≡ x))
one_told Fits spelled None field e fits is = absurd cc
one_told Fits spelled (Some y) field e fits is = (y, (record { fits = fits; is = is }, refl))

told_reads : {Fits : List ℕ → Type 0} {spelled : List ℕ → List ℕ} {read : List ℕ → Option (List ℕ × List ℕ)} (told : Bool)
    → IsRead (Given (IsField Fits spelled)) read
    → IsRead (Given (IsIfTold told Fits spelled)) (if_told told read)
told_reads {Fits} {spelled} {read} true is =
    recast (maps (λ (x : List ℕ × List ℕ). let y : Option (List ℕ) × List ℕ = (Some x.0, x.1) in y) is)
    (λ bytes x few g.
    let one = one_told Fits spelled x.0 g.field g.is.is_told g.is.fits g.is.is in
    record {
      value = (one.0, x.1);
      good = record { field = g.field; is = one.1.0; parts = g.parts };
      is = ap (λ (w : Option (List ℕ)). (w, x.1)) one.1.1;
    })
    (λ bytes x fits m. subst (λ (y : Option (List ℕ) × List ℕ). Given (IsIfTold true Fits spelled) bytes y) m.is
    (record { field = m.good.field; is = record { is_told = refl; fits = m.good.is.fits; is = m.good.is.is }; parts = m.good.parts }))
told_reads {Fits} {spelled} {read} false is = record {
  again = λ bytes x few g.
      let none = none_told x.0 g.is.is_told in
      let whole : bytes ≡ x.1 = g.parts ∙ ap (λ (l : List ℕ). l ++ x.1) (g.is.is ∙ ap (if_there spelled) none) in
      (λ i. Some (sym none i, whole i));
  takes = λ bytes x fits e.
      subst (λ (y : Option (List ℕ) × List ℕ). Given (IsIfTold false Fits spelled) bytes y) (some_is (None, bytes) x e)
      (record { field = []; is = record { is_told = refl; fits = tt; is = refl }; parts = refl });
}

-- the user name and the password, where the flags tell of them
pub login_reads : (flags : ConnectFlags)
    → IsRead (Given (IsPair (IsIfTold flags.user IsShortText spelled_text) (IsIfTold flags.password IsShortBinary spelled_bin)))
    (login_at flags)
login_reads flags = pair_reads (told_reads flags.user name_reads) (told_reads flags.password blob_reads)
