-- The rules of the protocol that a packet's bytes alone may break (MQTT 4.13.1, Protocol Error), by number.
use Rattle.std.specs.Prelude.{ℕ, Bool, true, false, ◌&&◌, ◌||◌, ◌==◌, ◌/◌, ◌%◌, if◌then◌else◌, List, [], ◌∷◌, Option, Some, None, is_some, is_none}
use Rattle.std.specs.List.{list_any}
use Rattle.mqtt_props.specs.declared.prop.Prop.{Prop}
use Rattle.mqtt_props.specs.declared.table.TheConstants.{AUTHENTICATION_DATA, AUTHENTICATION_METHOD, RESPONSE_TOPIC}
use Rattle.mqtt_props.specs.declared.table.Holder.{Holder}
use Rattle.mqtt_props.specs.declared.table.Holder.TheVariants as In
use Rattle.mqtt_props.specs.Prop.{is_bad}
use Rattle.mqtt_props.specs.Props.{has_repeated}
use Rattle.mqtt_props.specs.Lookup.{first_of, text_in, bin_in}
use Rattle.mqtt_packet.specs.declared.packet.Will.{Will}
use Rattle.mqtt_packet.specs.declared.packet.Wish.{Wish}
use Rattle.mqtt_packet.specs.Packet.{PlainPacket, Connect, Connack, Publish, Ack, Subscribe, Suback, Unsubscribe, Unsuback, Pingreq, Pingresp, Disconnect, Auth}
use Rattle.mqtt_packet.specs.Fits.{has_wildcard, ack_holder}

-- a list of properties with what it stands in
pub record Held : Type 0 where
  pub holder : Holder
  pub list : List Prop

abbrev pub held : Holder → List Prop → Held
held holder list = record { holder = holder; list = list }

-- the properties of a packet (MQTT 2.2.2)
abbrev pub own_list : PlainPacket → Option Held
own_list (Connect c) = Some (held In.Connect c.props)
own_list (Connack c) = Some (held In.Connack c.props)
own_list (Publish p) = Some (held In.Publish p.props)
own_list (Ack kind a) = Some (held (ack_holder kind) a.props)
own_list (Subscribe s) = Some (held In.Subscribe s.props)
own_list (Suback s) = Some (held In.Suback s.props)
own_list (Unsubscribe u) = Some (held In.Unsubscribe u.props)
own_list (Unsuback u) = Some (held In.Unsuback u.props)
own_list Pingreq = None
own_list Pingresp = None
own_list (Disconnect d) = Some (held In.Disconnect d.props)
own_list (Auth a) = Some (held In.Auth a.props)

-- those of a will (MQTT 3.1.3.2)
abbrev pub list_of_will : Option Will → Option Held
list_of_will None = None
list_of_will (Some will) = Some (held In.Will will.props)

abbrev pub will_list : PlainPacket → Option Held
will_list (Connect c) = list_of_will c.will
will_list other = None

abbrev pub if_held : (Held → Bool) → Option Held → Bool
if_held test None = false
if_held test (Some list) = test list

-- whether a list of a packet passes a test
abbrev pub in_lists : (Held → Bool) → PlainPacket → Bool
in_lists test packet = if_held test (own_list packet) || if_held test (will_list packet)

-- a property stands twice where it may not (MQTT 2.2.2.2 and with each property)
abbrev pub is_repeated : Held → Bool
is_repeated h = has_repeated h.holder h.list

-- a property has a value that isn't allowed
abbrev pub is_bad_list : Held → Bool
is_bad_list h = list_any is_bad h.list

-- Authentication Data without Authentication Method (MQTT 3.1.2.11.10)
abbrev pub is_data_alone : List Prop → Bool
is_data_alone props = is_some (first_of (bin_in AUTHENTICATION_DATA) props) && is_none (first_of (text_in AUTHENTICATION_METHOD) props)

abbrev pub lacks_method : PlainPacket → Bool
lacks_method (Connect c) = is_data_alone c.props
lacks_method other = false

-- a Response Topic with a wildcard (MQTT 3.3.2.3.5, 3.1.3.2.6)
abbrev pub is_wild : Option (List ℕ) → Bool
is_wild None = false
is_wild (Some topic) = has_wildcard topic

abbrev pub is_wild_list : Held → Bool
is_wild_list h = is_wild (first_of (text_in RESPONSE_TOPIC) h.list)

abbrev pub is_nothing : {A : Type 0} → List A → Bool
is_nothing [] = true
is_nothing (x ∷ xs) = false

-- no filter (MQTT 3.8.3, 3.10.3)
abbrev pub lacks_filter : PlainPacket → Bool
lacks_filter (Subscribe s) = is_nothing s.filters
lacks_filter (Unsubscribe u) = is_nothing u.filters
lacks_filter other = false

-- QoS 3 or Retain Handling 3 (MQTT 3.8.3.1)
abbrev pub is_bad_wish : Wish → Bool
is_bad_wish wish = (wish.options % 4 == 3) || (wish.options / 16 % 4 == 3)

abbrev pub has_bad_options : PlainPacket → Bool
has_bad_options (Subscribe s) = list_any is_bad_wish s.filters
has_bad_options other = false

-- the least that is broken
abbrev pub broken_rule : PlainPacket → Option ℕ
broken_rule packet =
    if in_lists is_repeated packet then Some 4
    else if in_lists is_bad_list packet then Some 5
    else if lacks_method packet then Some 6
    else if in_lists is_wild_list packet then Some 7
    else if lacks_filter packet then Some 10
    else if has_bad_options packet then Some 11
    else None
