-- What is spelled can be written: with its properties in writing order a packet has fields that fit, and a body that is not
-- longer than any other of it.
use Rattle.std.proofs.Common.{◌≡◌, ℕ, ◌+◌, ◌≤◌, Bool, true, false, cond, eqb, List, [], ◌∷◌, ◌++◌, length, Option, Some, None, refl, sym, append_assoc, ap, subst, ◌∙◌, arith, All, inl, inr}
use Rattle.std.specs.Prelude.{codes}
use Rattle.std.specs.List.{flat_map}
use Rattle.std.proofs.lemmas.Bool.{eq-eqb}
use Rattle.std.proofs.lemmas.List.{length-append}
use Rattle.wire_fields.specs.Spelled.{spelled_u8, spelled_u16, spelled_var, spelled_text, spelled_bin}
use Rattle.mqtt_props.specs.declared.prop.Prop.{Prop}
use Rattle.mqtt_props.specs.declared.table.Holder.{Holder}
use Rattle.mqtt_props.specs.declared.table.Holder.TheVariants as In
use Rattle.mqtt_props.specs.Prop.{IsPropIn}
use Rattle.mqtt_props.specs.Props.{in_writing_order, spelled_bare, spelled_props}
use Rattle.mqtt_props.specs.ArrangedLaws.{order_keeps, order_keeps_size, order_again}
use Rattle.mqtt_packet.specs.declared.packet.AckKind.{AckKind}
use Rattle.mqtt_packet.specs.declared.packet.Will.{Will}
use Rattle.mqtt_packet.specs.Packet.{PlainPacket, Connect, Connack, Publish, Ack, Subscribe, Suback, Unsubscribe, Unsuback, Pingreq, Pingresp, Disconnect, Auth, AckFields, EndFields, ConnectFields}
use Rattle.mqtt_packet.specs.Spelling.{bit, connect_flags, if_there, spelled_will, spelled_wish, spelled_id, whole_body, short_ack, short_end, ack_body, end_body, auth_body, written_body}
use Rattle.mqtt_packet.specs.Fits.{Fits, FitsWill, IfThere, IsPacket, ack_holder, will_arranged, arranged}
use Rattle.mqtt_packet.specs.Spells.{IsBody, IsShortAck, IsShortEnd, IsNoAuth, Spells}
use Rattle.mqtt_packet.specs.TailLaws.{no_sent}

-- ---- the fields fit in writing order too

will_fits_arranged : (will : Option Will) → IfThere FitsWill will → IfThere FitsWill (will_arranged will)
will_fits_arranged None fits = tt
will_fits_arranged (Some will) fits = record {
  qos = fits.qos;
  props = order_keeps (IsPropIn In.Will) will.props fits.props;
  topic = fits.topic;
  payload = fits.payload;
}

fits_arranged : (packet : PlainPacket) → Fits packet → Fits (arranged packet)
fits_arranged (Connect c) fits = record {
  keep_alive = fits.keep_alive;
  props = order_keeps (IsPropIn In.Connect) c.props fits.props;
  client = fits.client;
  will = will_fits_arranged c.will fits.will;
  user = fits.user;
  password = fits.password;
}
fits_arranged (Connack c) fits = record { reason = fits.reason; props = order_keeps (IsPropIn In.Connack) c.props fits.props }
fits_arranged (Publish p) fits = record {
  qos = fits.qos;
  tied = fits.tied;
  topic = fits.topic;
  props = order_keeps (IsPropIn In.Publish) p.props fits.props;
}
fits_arranged (Ack kind a) fits = record {
  id = fits.id;
  reason = fits.reason;
  props = order_keeps (IsPropIn (ack_holder kind)) a.props fits.props;
}
fits_arranged (Subscribe s) fits = record {
  id = fits.id;
  props = order_keeps (IsPropIn In.Subscribe) s.props fits.props;
  filters = fits.filters;
}
fits_arranged (Suback s) fits = record { id = fits.id; props = order_keeps (IsPropIn In.Suback) s.props fits.props }
fits_arranged (Unsubscribe u) fits = record {
  id = fits.id;
  props = order_keeps (IsPropIn In.Unsubscribe) u.props fits.props;
  filters = fits.filters;
}
fits_arranged (Unsuback u) fits = record { id = fits.id; props = order_keeps (IsPropIn In.Unsuback) u.props fits.props }
fits_arranged Pingreq fits = tt
fits_arranged Pingresp fits = tt
fits_arranged (Disconnect d) fits = record { reason = fits.reason; props = order_keeps (IsPropIn In.Disconnect) d.props fits.props }
fits_arranged (Auth a) fits = record { reason = fits.reason; props = order_keeps (IsPropIn In.Auth) a.props fits.props }

-- ---- a second time nothing changes

will_again : (will : Option Will) → will_arranged (will_arranged will) ≡ will_arranged will
will_again None = refl
will_again (Some will) = (λ i. Some (record will { props = order_again will.props i }))

arranged_again : (packet : PlainPacket) → arranged (arranged packet) ≡ arranged packet
arranged_again (Connect c) = (λ i. Connect (record c { props = order_again c.props i; will = will_again c.will i }))
arranged_again (Connack c) = (λ i. Connack (record c { props = order_again c.props i }))
arranged_again (Publish p) = (λ i. Publish (record p { props = order_again p.props i }))
arranged_again (Ack kind a) = (λ i. Ack kind (record a { props = order_again a.props i }))
arranged_again (Subscribe s) = (λ i. Subscribe (record s { props = order_again s.props i }))
arranged_again (Suback s) = (λ i. Suback (record s { props = order_again s.props i }))
arranged_again (Unsubscribe u) = (λ i. Unsubscribe (record u { props = order_again u.props i }))
arranged_again (Unsuback u) = (λ i. Unsuback (record u { props = order_again u.props i }))
arranged_again Pingreq = refl
arranged_again Pingresp = refl
arranged_again (Disconnect d) = (λ i. Disconnect (record d { props = order_again d.props i }))
arranged_again (Auth a) = (λ i. Auth (record a { props = order_again a.props i }))

-- ---- a whole body is as long as before

props_size : (holder : Holder) (ps : List Prop) → All (IsPropIn holder) ps
    → length (spelled_props (in_writing_order ps)) ≡ length (spelled_props ps)
props_size holder ps fits =
    let bare : List Prop → List ℕ = λ qs. spelled_bare qs in
    length-append (spelled_var (length (bare (in_writing_order ps)))) (bare (in_writing_order ps))
    ∙ ap (λ (n : ℕ). length (spelled_var n) + n) (order_keeps_size ps (λ k d lt. (fits k d lt).0))
    ∙ sym (length-append (spelled_var (length (bare ps))) (bare ps))

-- a part that is as long as another one, with the same in front and behind
in_place : (front a b back : List ℕ) → length a ≡ length b → length (front ++ (a ++ back)) ≡ length (front ++ (b ++ back))
in_place front a b back size =
    omega (arith, size, length-append front (a ++ back), length-append front (b ++ back), length-append a back, length-append b back)

-- so are properties in writing order
list_in_place : (holder : Holder) (front : List ℕ) (ps : List Prop) (back : List ℕ) → All (IsPropIn holder) ps
    → length (front ++ (spelled_props (in_writing_order ps) ++ back)) ≡ length (front ++ (spelled_props ps ++ back))
list_in_place holder front ps back fits =
    in_place front (spelled_props (in_writing_order ps)) (spelled_props ps) back (props_size holder ps fits)

will_size : (will : Option Will) → IfThere FitsWill will → length (spelled_will (will_arranged will)) ≡ length (spelled_will will)
will_size None fits = refl
will_size (Some will) fits = list_in_place In.Will [] will.props (spelled_text will.topic ++ (spelled_bin will.payload ++ [])) fits.props

-- the same of four parts, of which one stays
all_in_place : (front front' a a' mid b b' back : List ℕ) → length front ≡ length front' → length a ≡ length a' → length b ≡ length b'
    → length (front ++ (a ++ (mid ++ (b ++ back)))) ≡ length (front' ++ (a' ++ (mid ++ (b' ++ back))))
all_in_place front front' a a' mid b b' back first second third =
    omega (
      arith,
      first,
      second,
      third,
      length-append front (a ++ (mid ++ (b ++ back))),
      length-append a (mid ++ (b ++ back)),
      length-append mid (b ++ back),
      length-append b back,
      length-append front' (a' ++ (mid ++ (b' ++ back))),
      length-append a' (mid ++ (b' ++ back)),
      length-append mid (b' ++ back),
      length-append b' back,
    )

abbrev connect_start : ConnectFields → List ℕ
connect_start c = spelled_text (codes "MQTT") ++ (spelled_u8 5 ++ (spelled_u8 (connect_flags c) ++ spelled_u16 c.keep_alive))

whole_size : (packet : PlainPacket) → Fits packet → length (whole_body (arranged packet)) ≡ length (whole_body packet)
whole_size (Connect c) fits =
    all_in_place (connect_start (record c { props = in_writing_order c.props; will = will_arranged c.will })) (connect_start c)
    (spelled_props (in_writing_order c.props)) (spelled_props c.props) (spelled_text c.client)
    (spelled_will (will_arranged c.will)) (spelled_will c.will)
    (if_there spelled_text c.user ++ (if_there spelled_bin c.password ++ []))
    refl (props_size In.Connect c.props fits.props) (will_size c.will fits.will)
whole_size (Connack c) fits = list_in_place In.Connack (spelled_u8 (bit c.present) ++ spelled_u8 c.reason) c.props [] fits.props
whole_size (Publish p) fits =
    let front : List ℕ = spelled_text p.topic ++ spelled_id p.qos p.id in
    let back : List ℕ → List ℕ = λ l. l ++ (p.payload ++ []) in
    ap length (sym (append_assoc (spelled_text p.topic) (spelled_id p.qos p.id) (back (spelled_props (in_writing_order p.props)))))
    ∙ list_in_place In.Publish front p.props (p.payload ++ []) fits.props
    ∙ ap length (append_assoc (spelled_text p.topic) (spelled_id p.qos p.id) (back (spelled_props p.props)))
whole_size (Ack kind a) fits = list_in_place (ack_holder kind) (spelled_u16 a.id ++ spelled_u8 a.reason) a.props [] fits.props
whole_size (Subscribe s) fits = list_in_place In.Subscribe (spelled_u16 s.id) s.props (flat_map spelled_wish s.filters ++ []) fits.props
whole_size (Suback s) fits = list_in_place In.Suback (spelled_u16 s.id) s.props (s.reasons ++ []) fits.props
whole_size (Unsubscribe u) fits = list_in_place In.Unsubscribe (spelled_u16 u.id) u.props (flat_map spelled_text u.filters ++ []) fits.props
whole_size (Unsuback u) fits = list_in_place In.Unsuback (spelled_u16 u.id) u.props (u.reasons ++ []) fits.props
whole_size Pingreq fits = refl
whole_size Pingresp fits = refl
whole_size (Disconnect d) fits = list_in_place In.Disconnect (spelled_u8 d.reason) d.props [] fits.props
whole_size (Auth a) fits = list_in_place In.Auth (spelled_u8 a.reason) a.props [] fits.props

-- ---- a written body is not longer than a whole one

short_ack_size : (b : Bool) (id reason : ℕ) → length (cond b (spelled_u16 id) (spelled_u16 id ++ (spelled_u8 reason ++ []))) ≤ 3
short_ack_size true id reason = omega arith
short_ack_size false id reason = omega arith

ack_size : (kind : AckKind) (a : AckFields) (props : List Prop) → length (ack_body kind a props) ≤ length (whole_body (Ack kind a))
ack_size kind a [] = omega (arith, short_ack_size (eqb a.reason 0) a.id a.reason)
ack_size kind a (p ∷ ps) = omega arith

short_end_size : (b : Bool) (reason : ℕ) → length (cond b [] (spelled_u8 reason)) ≤ 1
short_end_size true reason = omega arith
short_end_size false reason = omega arith

end_size : (d : EndFields) (props : List Prop) → length (end_body d props) ≤ length (whole_body (Disconnect d))
end_size d [] = omega (arith, short_end_size (eqb d.reason 0) d.reason)
end_size d (p ∷ ps) = omega arith

no_auth_size : (b : Bool) (bytes : List ℕ) → length (cond b [] bytes) ≤ length bytes
no_auth_size true bytes = omega arith
no_auth_size false bytes = omega arith

auth_size : (a : EndFields) (props : List Prop) → length (auth_body a props) ≤ length (whole_body (Auth a))
auth_size a [] = no_auth_size (eqb a.reason 0) (whole_body (Auth a))
auth_size a (p ∷ ps) = omega arith

written_size : (packet : PlainPacket) → length (written_body packet) ≤ length (whole_body packet)
written_size (Connect c) = omega arith
written_size (Connack c) = omega arith
written_size (Publish p) = omega arith
written_size (Ack kind a) = ack_size kind a a.props
written_size (Subscribe s) = omega arith
written_size (Suback s) = omega arith
written_size (Unsubscribe u) = omega arith
written_size (Unsuback u) = omega arith
written_size Pingreq = omega arith
written_size Pingresp = omega arith
written_size (Disconnect d) = end_size d d.props
written_size (Auth a) = auth_size a a.props

-- ---- nor than a body that was read

against_whole : (packet : PlainPacket) (body : List ℕ) → Fits packet → body ≡ whole_body packet
    → length (written_body (arranged packet)) ≤ length body
against_whole packet body fits e = omega (arith, written_size (arranged packet), whole_size packet fits, ap length e)

ack_short : (kind : AckKind) (a : AckFields) (body : List ℕ) → IsShortAck a body
    → length (ack_body kind (record a { props = in_writing_order a.props }) (in_writing_order a.props)) ≤ length body
ack_short kind a body (none, inl e) =
    let is = ap (ack_body kind (record a { props = in_writing_order a.props })) (no_sent a.props none) in
    omega (arith, ap length is, short_ack_size (eqb a.reason 0) a.id a.reason, ap length e)
ack_short kind a body (none, inr (nought, e)) =
    let is = ap (ack_body kind (record a { props = in_writing_order a.props })) (no_sent a.props none) in
    let shortest : short_ack a.id a.reason ≡ spelled_u16 a.id =
    ap (λ (b : Bool). cond b (spelled_u16 a.id) (spelled_u16 a.id ++ (spelled_u8 a.reason ++ []))) (eq-eqb a.reason 0 nought) in
    omega (arith, ap length is, ap length shortest, ap length e)

end_short : (d : EndFields) (body : List ℕ) → IsShortEnd d body
    → length (end_body (record d { props = in_writing_order d.props }) (in_writing_order d.props)) ≤ length body
end_short d body (none, inl e) =
    let is = ap (end_body (record d { props = in_writing_order d.props })) (no_sent d.props none) in
    omega (arith, ap length is, short_end_size (eqb d.reason 0) d.reason, ap length e)
end_short d body (none, inr (nought, e)) =
    let is = ap (end_body (record d { props = in_writing_order d.props })) (no_sent d.props none) in
    let shortest : short_end d.reason ≡ [] = ap (λ (b : Bool). cond b [] (spelled_u8 d.reason)) (eq-eqb d.reason 0 nought) in
    omega (arith, ap length is, ap length shortest)

auth_short : (a : EndFields) (body : List ℕ) → IsNoAuth a body
    → length (auth_body (record a { props = in_writing_order a.props }) (in_writing_order a.props)) ≤ length body
auth_short a body (none, nought, e) =
    let these : EndFields = record a { props = in_writing_order a.props } in
    let is =
    ap (auth_body these) (no_sent a.props none) ∙ ap (λ (b : Bool). cond b [] (whole_body (Auth these))) (eq-eqb a.reason 0 nought) in
    omega (arith, ap length is)

not_longer : (packet : PlainPacket) (body : List ℕ) → Fits packet → IsBody packet body
    → length (written_body (arranged packet)) ≤ length body
not_longer (Connect c) body fits form = against_whole (Connect c) body fits form
not_longer (Connack c) body fits form = against_whole (Connack c) body fits form
not_longer (Publish p) body fits form = against_whole (Publish p) body fits form
not_longer (Ack kind a) body fits (inl e) = against_whole (Ack kind a) body fits e
not_longer (Ack kind a) body fits (inr s) = ack_short kind a body s
not_longer (Subscribe s) body fits form = against_whole (Subscribe s) body fits form
not_longer (Suback s) body fits form = against_whole (Suback s) body fits form
not_longer (Unsubscribe u) body fits form = against_whole (Unsubscribe u) body fits form
not_longer (Unsuback u) body fits form = against_whole (Unsuback u) body fits form
not_longer Pingreq body fits form = omega arith
not_longer Pingresp body fits form = omega arith
not_longer (Disconnect d) body fits (inl e) = against_whole (Disconnect d) body fits e
not_longer (Disconnect d) body fits (inr s) = end_short d body s
not_longer (Auth a) body fits (inl e) = against_whole (Auth a) body fits e
not_longer (Auth a) body fits (inr s) = auth_short a body s

-- ---- the whole

pub can_be_written : (bytes : List ℕ) (packet : PlainPacket) → Spells bytes packet → IsPacket packet
can_be_written bytes packet s = subst IsPacket s.same (record {
  fits = fits_arranged s.sent s.fits;
  ordered = arranged_again s.sent;
  has_length = omega (arith, not_longer s.sent s.body s.fits s.form, s.has_length);
})
