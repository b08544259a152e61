-- A packet is as long as its fields say.
use Rattle.std.proofs.Common.{◌≡◌, ℕ, zero, suc, ◌+◌, Bool, true, false, cond, eqb, List, [], ◌∷◌, ◌++◌, length, Option, Some, None, All, refl, ap, arith, codes}
use Rattle.std.specs.List.{flat_map, sum_by}
use Rattle.std.proofs.lemmas.List.{length-append}
use Rattle.std.proofs.lemmas.List.Sums.{sum_by-cons}
use Rattle.wire_fields.specs.Spelled.{spelled_u8, spelled_u16, spelled_var, spelled_text, spelled_bin}
use Rattle.wire_fields.specs.NumberLaws.{wide16}
use Rattle.mqtt_frame.specs.PlainFramer.{joined}
use Rattle.mqtt_props.specs.declared.prop.Prop.{Prop}
use Rattle.mqtt_props.specs.declared.table.Holder.{Holder}
use Rattle.mqtt_props.specs.declared.table.Holder.TheVariants as In
use Rattle.mqtt_props.specs.Prop.{IsPropIn}
use Rattle.mqtt_props.specs.Props.{spelled_props}
use Rattle.mqtt_props.specs.Sizes.{var_size, props_size}
use Rattle.mqtt_props.specs.SizeLaws.{var_sized, bin_sized, props_sized}
use Rattle.mqtt_packet.specs.declared.packet.Will.{Will}
use Rattle.mqtt_packet.specs.declared.packet.Wish.{Wish}
use Rattle.mqtt_packet.specs.declared.packet.AckKind.{AckKind}
use Rattle.mqtt_packet.specs.Packet.{PlainPacket, Connect, Connack, Publish, Ack, Subscribe, Suback, Unsubscribe, Unsuback, Pingreq, Pingresp, Disconnect, Auth, ConnectFields, PublishFields, AckFields, EndFields}
use Rattle.mqtt_packet.specs.Fits.{Fits, FitsWill, IfThere, ack_holder}
use Rattle.mqtt_packet.specs.Spelling.{bit, connect_flags, if_there, spelled_will, spelled_id, spelled_wish, whole_body, ack_body, end_body, auth_body, written_body, written}
use Rattle.mqtt_packet.specs.Sizes.{sized, sized_if, will_size, connect_size, id_size, publish_size, rest_size, auth_size, wish_size, body_size, packet_size}

-- ---- parts

pub joined_sized : (parts : List (List ℕ)) → length (joined parts) ≡ sum_by length parts
joined_sized [] = refl
joined_sized (part ∷ parts) = omega (arith, length-append part (joined parts), joined_sized parts, sum_by-cons length part parts)

-- the parts of a list have the sizes that another list has
pub list_sized : (holder : Holder) (ps : List Prop) → All (IsPropIn holder) ps → length (spelled_props ps) ≡ props_size ps
list_sized holder ps h = props_sized ps (λ k d lt. (h k d lt).0)

two_sized : (n : ℕ) → length (spelled_u16 n) ≡ 2
two_sized n = wide16.len n

text_if_sized : (text : Option (List ℕ)) → length (if_there spelled_text text) ≡ sized_if text
text_if_sized None = refl
text_if_sized (Some text) = bin_sized text

bin_if_sized : (bytes : Option (List ℕ)) → length (if_there spelled_bin bytes) ≡ sized_if bytes
bin_if_sized None = refl
bin_if_sized (Some bytes) = bin_sized bytes

will_sized : (will : Option Will) → IfThere FitsWill will → length (spelled_will will) ≡ will_size will
will_sized None fits = refl
will_sized (Some will) fits =
    omega (
      arith,
      length-append (spelled_props will.props) (spelled_text will.topic ++ (spelled_bin will.payload ++ [])),
      length-append (spelled_text will.topic) (spelled_bin will.payload ++ []),
      length-append (spelled_bin will.payload) [],
      list_sized In.Will will.props fits.props,
      bin_sized will.topic,
      bin_sized will.payload,
    )

id_sized : (qos id : ℕ) → length (spelled_id qos id) ≡ id_size qos
id_sized zero id = refl
id_sized (suc qos) id = two_sized id

pub wish_sized : (wish : Wish) → length (spelled_wish wish) ≡ wish_size wish
wish_sized wish = omega (arith, length-append (spelled_text wish.filter) (spelled_u8 wish.options ++ []), bin_sized wish.filter)

pub each_sized : {A : Type 0} (spelled : A → List ℕ) (size : A → ℕ) → ((x : A) → length (spelled x) ≡ size x) → (xs : List A) → length (flat_map spelled xs) ≡ sum_by size xs
each_sized spelled size h [] = refl
each_sized spelled size h (x ∷ xs) = omega (arith, length-append (spelled x) (flat_map spelled xs), h x, each_sized spelled size h xs, sum_by-cons size x xs)

-- three parts, and two
three : (a b c : List ℕ) → length (joined (a ∷ b ∷ c ∷ [])) ≡ length a + length b + length c
three a b c = omega (arith, length-append a (b ++ (c ++ [])), length-append b (c ++ []), length-append c [])

two : (a b : List ℕ) → length (joined (a ∷ b ∷ [])) ≡ length a + length b
two a b = omega (arith, length-append a (b ++ []), length-append b [])

-- ---- bodies

reason_counted : (b : Bool) (id reason : ℕ) → length (cond b (spelled_u16 id) (joined (spelled_u16 id ∷ spelled_u8 reason ∷ []))) ≡ 2 + cond b 0 1
reason_counted true id reason = two_sized id
reason_counted false id reason = omega (arith, two (spelled_u16 id) (spelled_u8 reason), two_sized id)

ack_sized : (kind : AckKind) (a : AckFields) (holder : Holder) (ps : List Prop) → All (IsPropIn holder) ps
    → length (ack_body kind (record a { props = ps }) ps) ≡ 2 + rest_size a.reason ps
ack_sized kind a holder [] h = reason_counted (eqb a.reason 0) a.id a.reason
ack_sized kind a holder (p ∷ ps) h = omega (arith, three (spelled_u16 a.id) (spelled_u8 a.reason) (spelled_props (p ∷ ps)), two_sized a.id, list_sized holder (p ∷ ps) h)

end_counted : (b : Bool) (reason : ℕ) → length (cond b [] (spelled_u8 reason)) ≡ cond b 0 1
end_counted true reason = refl
end_counted false reason = refl

end_sized : (d : EndFields) (holder : Holder) (ps : List Prop) → All (IsPropIn holder) ps → length (end_body (record d { props = ps }) ps) ≡ rest_size d.reason ps
end_sized d holder [] h = end_counted (eqb d.reason 0) d.reason
end_sized d holder (p ∷ ps) h = omega (arith, two (spelled_u8 d.reason) (spelled_props (p ∷ ps)), list_sized holder (p ∷ ps) h)

auth_counted : (b : Bool) (reason : ℕ) → length (cond b [] (joined (spelled_u8 reason ∷ spelled_props [] ∷ []))) ≡ cond b 0 2
auth_counted true reason = refl
auth_counted false reason = refl

auth_sized : (a : EndFields) (holder : Holder) (ps : List Prop) → All (IsPropIn holder) ps → length (auth_body (record a { props = ps }) ps) ≡ auth_size a.reason ps
auth_sized a holder [] h = auth_counted (eqb a.reason 0) a.reason
auth_sized a holder (p ∷ ps) h = omega (arith, two (spelled_u8 a.reason) (spelled_props (p ∷ ps)), list_sized holder (p ∷ ps) h)

connect_sized : (c : ConnectFields) → Fits (Connect c) → length (whole_body (Connect c)) ≡ connect_size c
connect_sized c fits =
    let parts : List (List ℕ) = spelled_text c.client ∷ spelled_will c.will ∷ if_there spelled_text c.user ∷ if_there spelled_bin c.password ∷ [] in
    omega (
      arith,
      length-append (spelled_text (codes "MQTT")) (5 ∷ connect_flags c ∷ (spelled_u16 c.keep_alive ++ (spelled_props c.props ++ joined parts))),
      length-append (spelled_u16 c.keep_alive) (spelled_props c.props ++ joined parts),
      length-append (spelled_props c.props) (joined parts),
      length-append (spelled_text c.client) (spelled_will c.will ++ (if_there spelled_text c.user ++ (if_there spelled_bin c.password ++ []))),
      length-append (spelled_will c.will) (if_there spelled_text c.user ++ (if_there spelled_bin c.password ++ [])),
      length-append (if_there spelled_text c.user) (if_there spelled_bin c.password ++ []),
      length-append (if_there spelled_bin c.password) [],
      two_sized c.keep_alive,
      list_sized In.Connect c.props fits.props,
      bin_sized c.client,
      will_sized c.will fits.will,
      text_if_sized c.user,
      bin_if_sized c.password,
    )

publish_sized : (p : PublishFields) → Fits (Publish p) → length (whole_body (Publish p)) ≡ publish_size p
publish_sized p fits =
    omega (
      arith,
      length-append (spelled_text p.topic) (spelled_id p.qos p.id ++ (spelled_props p.props ++ (p.payload ++ []))),
      length-append (spelled_id p.qos p.id) (spelled_props p.props ++ (p.payload ++ [])),
      length-append (spelled_props p.props) (p.payload ++ []),
      length-append p.payload [],
      bin_sized p.topic,
      id_sized p.qos p.id,
      list_sized In.Publish p.props fits.props,
    )

pub body_sized : (packet : PlainPacket) → Fits packet → length (written_body packet) ≡ body_size packet
body_sized (Connect c) fits = connect_sized c fits
body_sized (Connack c) fits = omega (arith, three (spelled_u8 (bit c.present)) (spelled_u8 c.reason) (spelled_props c.props), list_sized In.Connack c.props fits.props)
body_sized (Publish p) fits = publish_sized p fits
body_sized (Ack kind a) fits = ack_sized kind a (ack_holder kind) a.props fits.props
body_sized (Subscribe s) fits =
    omega (arith, three (spelled_u16 s.id) (spelled_props s.props) (flat_map spelled_wish s.filters), two_sized s.id, list_sized In.Subscribe s.props fits.props, each_sized spelled_wish wish_size wish_sized s.filters)
body_sized (Suback s) fits = omega (arith, three (spelled_u16 s.id) (spelled_props s.props) s.reasons, two_sized s.id, list_sized In.Suback s.props fits.props)
body_sized (Unsubscribe u) fits =
    omega (arith, three (spelled_u16 u.id) (spelled_props u.props) (flat_map spelled_text u.filters), two_sized u.id, list_sized In.Unsubscribe u.props fits.props, each_sized spelled_text sized bin_sized u.filters)
body_sized (Unsuback u) fits = omega (arith, three (spelled_u16 u.id) (spelled_props u.props) u.reasons, two_sized u.id, list_sized In.Unsuback u.props fits.props)
body_sized Pingreq fits = refl
body_sized Pingresp fits = refl
body_sized (Disconnect d) fits = end_sized d In.Disconnect d.props fits.props
body_sized (Auth a) fits = auth_sized a In.Auth a.props fits.props

pub packet_sized : (packet : PlainPacket) → Fits packet → length (written packet) ≡ packet_size packet
packet_sized packet fits =
    omega (arith, length-append (spelled_var (length (written_body packet))) (written_body packet), var_sized (length (written_body packet)), body_sized packet fits, ap var_size (body_sized packet fits))
