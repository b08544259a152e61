-- How a stored message goes out to a subscription.
use Rattle.std.specs.Prelude.{ℕ, ◌/◌, ◌%◌, min, Bool, false, ◌&&◌, ◌||◌, ◌==◌, nat_lt, if◌then◌else◌, List, [], ◌∷◌, length}
use Rattle.std.specs.Str.{bytes_eq}
use Rattle.first_topic_name.specs.Pieces.{text_of_levels}
use Rattle.first_topic_name.specs.StoredMessage.{StoredMessage}
use Rattle.first_session_terms.specs.declared.entry.Kind.{Kind}
use Rattle.first_session_terms.specs.declared.entry.Kind.TheVariants.{Track1, Track2, Zero, Silent}
use Rattle.first_session_terms.specs.declared.entry.Version.{Version}
use Rattle.first_session_terms.specs.Entry.{id1, id2}
use Rattle.first_mqtt_packet.specs.declared.props.Prop.{Prop}
use Rattle.first_mqtt_packet.specs.declared.props.Prop.TheVariants.{Var}
use Rattle.first_mqtt_packet.specs.declared.packet.Packet.{Packet}
use Rattle.first_mqtt_packet.specs.declared.packet.Packet.TheVariants.{Publish}
use Rattle.first_mqtt_packet.specs.Written.{written}

-- the parts of the options byte (MQTT 3.8.3.1)
abbrev pub qos_of : Version → ℕ
qos_of v = v.options % 4

abbrev pub no_local_of : Version → Bool
no_local_of v = v.options / 4 % 2 == 1

-- the properties that a publisher's go on as; a PUBLISH with properties is not read yet, so there are none
abbrev pub publisher_props : List ℕ → List Prop
publisher_props bytes = []

-- with the identifier of the subscription in front (MQTT 3.3.2.3.8)
abbrev pub delivered_props : Version → StoredMessage → List Prop
delivered_props v w = if v.identifier == 0 then publisher_props w.props else Var v.identifier ∷ publisher_props w.props

-- the PUBLISH that carries a message as an entry of this kind (MQTT 3.3); a silent entry is never put out
abbrev pub delivery : Bool → Version → StoredMessage → Kind → Packet
delivery dup v w (Track1 number) = Publish dup 1 false (text_of_levels w.topic) (id1 number) (delivered_props v w) w.payload
delivery dup v w (Track2 number) = Publish dup 2 false (text_of_levels w.topic) (id2 number) (delivered_props v w) w.payload
delivery dup v w Zero = Publish false 0 false (text_of_levels w.topic) 0 (delivered_props v w) w.payload
delivery dup v w Silent = Publish false 0 false (text_of_levels w.topic) 0 (delivered_props v w) w.payload

-- the kind by the lesser of the two QoS, with the next number of its track
abbrev pub numbered_kind : ℕ → ℕ → ℕ → Kind
numbered_kind qos next1 next2 = if qos == 0 then Zero else if qos == 1 then Track1 next1 else Track2 next2

abbrev pub loud_kind : Version → StoredMessage → ℕ → ℕ → Kind
loud_kind v w next1 next2 = numbered_kind (min w.qos (qos_of v)) next1 next2

-- a packet that is longer than the client takes
abbrev pub is_too_long : ℕ → Version → StoredMessage → Kind → Bool
is_too_long limit v w kind = nat_lt limit (length (written (delivery false v w kind)))

-- issued and never sent: the client's own message under No Local (MQTT 3.8.3.1), and a packet that is too long for it
abbrev pub is_kept_back : List ℕ → ℕ → Version → StoredMessage → Kind → Bool
is_kept_back client limit v w kind = (no_local_of v && bytes_eq w.publisher client) || is_too_long limit v w kind

-- the kind that a message is issued as
abbrev pub kind_of : List ℕ → ℕ → Version → StoredMessage → ℕ → ℕ → Kind
kind_of client limit v w next1 next2 =
    let kind = loud_kind v w next1 next2 in if is_kept_back client limit v w kind then Silent else kind
