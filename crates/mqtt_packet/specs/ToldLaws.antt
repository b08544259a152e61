-- A packet whose length can be told has lists of properties whose lengths can be told.
use Rattle.std.proofs.Common.{◌≡◌, ℕ, ◌≤◌, Bool, cond, List, [], ◌∷◌, length, Option, Some, None, All, sym, ap, ◌∙◌, arith}
use Rattle.std.proofs.lemmas.Bool.{le-leb}
use Rattle.mqtt_props.specs.declared.prop.Prop.{Prop}
use Rattle.mqtt_props.specs.declared.table.Holder.{Holder}
use Rattle.mqtt_props.specs.declared.table.Holder.TheVariants as In
use Rattle.mqtt_props.specs.Prop.{IsPropIn}
use Rattle.mqtt_props.specs.Props.{spelled_bare, if_var}
use Rattle.mqtt_props.specs.Sizes.{bare_size}
use Rattle.mqtt_props.specs.SizeLaws.{bare_sized}
use Rattle.mqtt_packet.specs.declared.packet.Will.{Will}
use Rattle.mqtt_packet.specs.Packet.{PlainPacket, Connect, Connack, Publish, Ack, Subscribe, Suback, Unsubscribe, Unsuback, Pingreq, Pingresp, Disconnect, Auth}
use Rattle.mqtt_packet.specs.Fits.{Fits, FitsWill, IfThere, ack_holder}
use Rattle.mqtt_packet.specs.Rules.{list_of_will}
use Rattle.mqtt_packet.specs.Putting.{IsTold, AreTold}
use Rattle.mqtt_packet.specs.Spelling.{written_body}
use Rattle.mqtt_packet.specs.Sizes.{will_size, rest_size, auth_size, body_size}
use Rattle.mqtt_packet.specs.SizeLaws.{body_sized}

told_list : (holder : Holder) (ps : List Prop) → All (IsPropIn holder) ps → bare_size ps ≤ 268435455 → length (spelled_bare ps) ≤ 268435455
told_list holder ps h few = omega (arith, few, bare_sized ps (λ k d lt. (h k d lt).0))

told_will : (will : Option Will) → IfThere FitsWill will → will_size will ≤ 268435455 → IfThere IsTold (list_of_will will)
told_will None fits few = tt
told_will (Some will) fits few = told_list In.Will will.props fits.props (omega (arith, few))

bare_rest : (reason : ℕ) (ps : List Prop) → bare_size ps ≤ rest_size reason ps
bare_rest reason [] = omega arith
bare_rest reason (p ∷ ps) = omega arith

bare_auth : (reason : ℕ) (ps : List Prop) → bare_size ps ≤ auth_size reason ps
bare_auth reason [] = omega arith
bare_auth reason (p ∷ ps) = omega arith

told_size : (packet : PlainPacket) → Fits packet → body_size packet ≤ 268435455 → AreTold packet
told_size (Connect c) fits few = (told_list In.Connect c.props fits.props (omega (arith, few)), told_will c.will fits.will (omega (arith, few)))
told_size (Connack c) fits few = (told_list In.Connack c.props fits.props (omega (arith, few)), tt)
told_size (Publish p) fits few = (told_list In.Publish p.props fits.props (omega (arith, few)), tt)
told_size (Ack kind a) fits few = (told_list (ack_holder kind) a.props fits.props (omega (arith, few, bare_rest a.reason a.props)), tt)
told_size (Subscribe s) fits few = (told_list In.Subscribe s.props fits.props (omega (arith, few)), tt)
told_size (Suback s) fits few = (told_list In.Suback s.props fits.props (omega (arith, few)), tt)
told_size (Unsubscribe u) fits few = (told_list In.Unsubscribe u.props fits.props (omega (arith, few)), tt)
told_size (Unsuback u) fits few = (told_list In.Unsuback u.props fits.props (omega (arith, few)), tt)
told_size Pingreq fits few = (tt, tt)
told_size Pingresp fits few = (tt, tt)
told_size (Disconnect d) fits few = (told_list In.Disconnect d.props fits.props (omega (arith, few, bare_rest d.reason d.props)), tt)
told_size (Auth a) fits few = (told_list In.Auth a.props fits.props (omega (arith, few, bare_auth a.reason a.props)), tt)

pub lists_are_told : (packet : PlainPacket) → Fits packet → length (written_body packet) ≤ 268435455 → AreTold packet
lists_are_told packet fits few = told_size packet fits (omega (arith, few, body_sized packet fits))

within : (n : ℕ) → n ≤ 268435455 → if_var n ≡ Some n
within n few = ap (λ (b : Bool). cond b (Some n) None) (le-leb n 268435455 few)

pub size_is_told : (packet : PlainPacket) → Fits packet → length (written_body packet) ≤ 268435455 → if_var (body_size packet) ≡ Some (length (written_body packet))
size_is_told packet fits few = within (body_size packet) (omega (arith, few, body_sized packet fits)) ∙ ap Some (sym (body_sized packet fits))
