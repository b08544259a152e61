-- PUBACK, PUBREC, PUBREL, PUBCOMP, DISCONNECT and AUTH, read and spelled, in the short forms and the long ones.
use Rattle.std.proofs.Common.{◌≡◌, ℕ, ◌≤◌, List, [], ◌∷◌, ◌++◌, length, Option, Some, refl, sym, ap, ◌∙◌, arith, All, inl, inr}
use Rattle.std.proofs.lemmas.List.Elements.{All-nil}
use Rattle.wire_fields.specs.Spelled.{spelled_u8, spelled_u16}
use Rattle.wire_fields.specs.Reading.{AreBytes}
use Rattle.wire_fields.specs.Places.{are_bytes_rest}
use Rattle.mqtt_props.specs.declared.prop.Prop.{Prop}
use Rattle.mqtt_props.specs.declared.table.Holder.TheVariants as In
use Rattle.mqtt_props.specs.Prop.{IsPropIn}
use Rattle.mqtt_props.specs.Props.{in_writing_order, spelled_props}
use Rattle.mqtt_packet.specs.declared.packet.AckKind.{AckKind}
use Rattle.mqtt_packet.specs.Packet.{AckFields, PlainPacket, Ack, ack, Disconnect, Auth, EndFields}
use Rattle.mqtt_packet.specs.Fits.{ack_holder}
use Rattle.mqtt_packet.specs.Spells.{IsBody}
use Rattle.mqtt_packet.specs.Reading.{◌>>=◌, props_at, at_end, ack_in, disconnect_in, auth_in}
use Rattle.mqtt_packet.specs.ReaderLaws.{IsRead, and_then, ends, maps, recast, bind_some, behind_part, some_is}
use Rattle.mqtt_packet.specs.FieldLaws.{sent_list, id_reads, props_reads}
use Rattle.mqtt_packet.specs.TailLaws.{IsTailOf, tail_reads, no_order, no_sent}
use Rattle.mqtt_packet.specs.BodyLaws.{IsSentAs}

-- ---- the four that acknowledge one another

-- an identifier, and behind it a reason and properties, or less
ack_form : (kind : AckKind) (a : AckFields) (body field rest : List ℕ) → body ≡ field ++ rest → field ≡ spelled_u16 a.id
    → IsTailOf a.props a.reason rest → IsBody (Ack kind a) body
ack_form kind a body field rest parts is (inl e) = inl (parts ∙ (λ i. is i ++ e i))
ack_form kind a body field rest parts is (inr (none, inl e)) = inr (none, inl (parts ∙ (λ i. is i ++ e i)))
ack_form kind a body field rest parts is (inr (none, inr (nought, e))) = inr (none, inr (nought, parts ∙ (λ i. is i ++ e i)))

-- what is behind the identifier
ack_tail : (kind : AckKind) (a : AckFields) (body : List ℕ) → IsBody (Ack kind a) body
    → (rest : List ℕ) × (body ≡ spelled_u16 a.id ++ rest) × IsTailOf a.props a.reason rest
ack_tail kind a body (inl e) = (spelled_u8 a.reason ++ (spelled_props a.props ++ []), e, inl refl)
ack_tail kind a body (inr (none, inl e)) = (spelled_u8 a.reason, e, inr (none, inl refl))
ack_tail kind a body (inr (none, inr (nought, e))) = ([], e, inr (none, inr (nought, refl)))

pub ack_reads : (kind : AckKind) → IsRead (IsSentAs (Ack kind)) (ack_in kind)
ack_reads kind =
    recast (and_then _ id_reads (λ id. tail_reads (ack_holder kind) (λ reason props. ack kind id reason props)))
    (λ body packet few s.
    let tail = ack_tail kind s.sent body s.form in
    record {
      value = s.sent.id;
      field = spelled_u16 s.sent.id;
      rest = tail.0;
      is = record { fits = s.fits.id; is = refl };
      parts = tail.1;
      behind = record {
        reason = s.sent.reason;
        sent = s.sent.props;
        below = s.fits.reason;
        fits = s.fits.props;
        form = tail.2;
        is = s.same;
      };
    })
    (λ body packet fits t. record {
      sent = record { id = t.value; reason = t.behind.reason; props = t.behind.sent };
      fits = record { id = t.is.fits; reason = t.behind.below; props = t.behind.fits };
      same = t.behind.is;
      form = ack_form kind _ body t.field t.rest t.parts t.is.is t.behind.form;
    })

-- ---- DISCONNECT

abbrev end_fields : ℕ → List Prop → EndFields
end_fields reason props = record { reason = reason; props = props }

pub disconnect_reads : IsRead (IsSentAs Disconnect) disconnect_in
disconnect_reads = recast (maps Disconnect (tail_reads In.Disconnect end_fields))
    (λ body packet few s. record {
      value = record s.sent { props = in_writing_order s.sent.props };
      good = record { reason = s.sent.reason; sent = s.sent.props; below = s.fits.reason; fits = s.fits.props; form = s.form; is = refl };
      is = s.same;
    })
    (λ body packet fits m. record {
      sent = end_fields m.good.reason m.good.sent;
      fits = record { reason = m.good.below; props = m.good.fits };
      same = ap Disconnect m.good.is ∙ m.is;
      form = m.good.form;
    })

-- ---- AUTH

abbrev auth : ℕ → List Prop → PlainPacket
auth reason props = Auth (end_fields reason props)

auth_again : (body : List ℕ) (packet : PlainPacket) (reason : ℕ) (sent : List Prop) → length body ≤ 268435455 → All (IsPropIn In.Auth) sent
    → IsBody (Auth (end_fields reason sent)) body → auth reason (in_writing_order sent) ≡ packet → auth_in body ≡ Some packet
auth_again body packet reason sent few fits (inl e) is =
    let behind : List ℕ = spelled_props sent ++ [] in
    let read : props_at In.Auth behind ≡ Some (in_writing_order sent, []) =
    (props_reads In.Auth).again behind (in_writing_order sent, []) (omega (arith, few, ap length e))
    (record { field = spelled_props sent; is = sent_list sent fits; parts = refl }) in
    ap auth_in e
    ∙ ap (λ (r : Option (List Prop × List ℕ)). r >>= λ props. at_end (auth reason props.0) props.1) read
    ∙ ap Some is
auth_again body packet reason sent few fits (inr (none, nought, e)) is =
    ap auth_in e ∙ (λ i. Some (auth (sym nought i) (sym (no_sent sent none) i))) ∙ ap Some is

auth_takes : (body : List ℕ) (packet : PlainPacket) → AreBytes body → auth_in body ≡ Some packet → IsSentAs Auth body packet
auth_takes [] packet fits e = record {
  sent = end_fields 0 [];
  fits = record { reason = omega arith; props = All-nil (IsPropIn In.Auth) };
  same = ap (auth 0) no_order ∙ some_is (auth 0 []) packet e;
  form = inr (refl, refl, refl);
}
auth_takes (b ∷ bytes) packet fits e =
    let found = bind_some (props_at In.Auth bytes) (λ props. at_end (auth b props.0) props.1) packet e in
    let others = are_bytes_rest b bytes fits in
    let list = (props_reads In.Auth).takes bytes found.0 others found.1 in
    let end = (ends (auth b found.0.0)).takes found.0.1 packet (behind_part bytes list.field found.0.1 list.parts others) found.2 in
    record {
      sent = end_fields b list.is.sent;
      fits = record { reason = fits 0; props = list.is.list.fits };
      same = ap (auth b) list.is.list.ordered ∙ end.is;
      form = inl (ap (λ (l : List ℕ). b ∷ l) (list.parts ∙ (λ i. list.is.is i ++ end.none i)));
    }

pub auth_reads : IsRead (IsSentAs Auth) auth_in
auth_reads = record {
  again = λ body packet few s. auth_again body packet s.sent.reason s.sent.props few s.fits.props s.form s.same;
  takes = λ body packet fits e. auth_takes body packet fits e;
}
