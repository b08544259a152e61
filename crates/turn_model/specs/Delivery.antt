-- How a stored message goes out to a subscription, and how many bytes that takes.
use Rattle.std.specs.Prelude.{ℕ, ◌+◌, ◌-◌, ◌/◌, ◌%◌, min, Bool, true, false, ◌&&◌, ◌||◌, ◌==◌, nat_le, nat_lt}
use Rattle.std.specs.Prelude.{if◌then◌else◌, List, [], ◌∷◌, ◌++◌, length, Option, Some, None, Result, Ok, Err}
use Rattle.std.specs.Str.{bytes_eq}
use Rattle.topic_model.specs.Levels.{text_of_levels}
use Rattle.topic_model.specs.StoredMessage.{StoredMessage}
use Rattle.session_model.specs.declared.entry.Kind.{Kind}
use Rattle.session_model.specs.declared.entry.Kind.TheVariants.{Track1, Track2, Zero, Silent}
use Rattle.session_model.specs.declared.entry.Version.{Version}
use Rattle.session_model.specs.Entry.{id1, id2}
use Rattle.mqtt_props.specs.declared.table.TheConstants.{MESSAGE_EXPIRY_INTERVAL}
use Rattle.mqtt_props.specs.declared.table.Holder.TheVariants as In
use Rattle.mqtt_props.specs.declared.prop.Prop.{Prop}
use Rattle.mqtt_props.specs.declared.prop.Prop.TheVariants.{Four, Var}
use Rattle.mqtt_props.specs.declared.refused.PropRefused.{PropRefused}
use Rattle.mqtt_props.specs.Props.{bare_props, in_writing_order}
use Rattle.mqtt_props.specs.Sizes.{var_size}
use Rattle.mqtt_packet.specs.Packet.{PlainPacket, Publish}

-- ---- the options of a subscription (MQTT 3.8.3.1)

abbrev pub qos_of : ℕ → ℕ
qos_of options = options % 4

abbrev pub no_local_of : ℕ → Bool
no_local_of options = options / 4 % 2 == 1

-- ---- message expiry (MQTT 3.3.2.3.3)

-- how many seconds a message has waited at a moment; none where the moment lies before it was stored
abbrev pub seconds_waited : ℕ → StoredMessage → ℕ
seconds_waited now m = (now - m.stamp) / 1000

abbrev pub has_waited_out : Option ℕ → ℕ → Bool
has_waited_out None seconds = false
has_waited_out (Some expiry) seconds = nat_le expiry seconds

-- it has waited at least as long as its interval says
abbrev pub has_expired : ℕ → StoredMessage → Bool
has_expired now m = has_waited_out m.expiry (seconds_waited now m)

-- ---- properties

-- the interval less the time that the message has waited, or 0 where that has passed
abbrev pub expiry_props : Option ℕ → ℕ → List Prop
expiry_props None seconds = []
expiry_props (Some expiry) seconds = Four MESSAGE_EXPIRY_INTERVAL (expiry - seconds) ∷ []

-- the Subscription Identifier (MQTT 3.3.2.3.8), where the subscription has one
abbrev pub identifier_props : ℕ → List Prop
identifier_props identifier = if identifier == 0 then [] else Var identifier ∷ []

abbrev pub props_or_none : Result (List Prop) PropRefused → List Prop
props_or_none (Ok props) = props
props_or_none (Err refused) = []

-- those of the publisher that go on
abbrev pub publisher_props : StoredMessage → List Prop
publisher_props m = props_or_none (bare_props In.Publish m.props)

abbrev pub delivered_props : ℕ → Version → StoredMessage → List Prop
delivered_props now v m = in_writing_order
    (expiry_props m.expiry (seconds_waited now m) ++ (identifier_props v.identifier ++ publisher_props m))

-- ---- the packet (MQTT 3.3)

abbrev pub delivery_with : Bool → ℕ → ℕ → ℕ → Version → StoredMessage → PlainPacket
delivery_with dup qos id now v m =
    Publish (record {
      dup = dup;
      qos = qos;
      retain = false;
      topic = text_of_levels m.topic;
      id = id;
      props = delivered_props now v m;
      payload = m.payload;
    })

-- The PUBLISH that carries a message as an entry of this kind, at a moment. DUP tells that it was sent before (MQTT
-- 3.3.1.1). A silent entry is never put out.
abbrev pub delivery : Bool → ℕ → Version → StoredMessage → Kind → PlainPacket
delivery dup now v m (Track1 number) = delivery_with dup 1 (id1 number) now v m
delivery dup now v m (Track2 number) = delivery_with dup 2 (id2 number) now v m
delivery dup now v m other = delivery_with false 0 0 now v m

-- ---- its length, as a number

abbrev pub identifier_size : ℕ → ℕ
identifier_size identifier = if identifier == 0 then 0 else 1 + var_size identifier

abbrev pub expiry_prop_size : Option ℕ → ℕ
expiry_prop_size None = 0
expiry_prop_size (Some expiry) = 5

-- a packet identifier takes two bytes, and there is none with QoS 0 (MQTT 2.2.1)
abbrev pub id_size : Kind → ℕ
id_size (Track1 number) = 2
id_size (Track2 number) = 2
id_size other = 0

abbrev pub delivered_props_size : Version → StoredMessage → ℕ
delivered_props_size v m = expiry_prop_size m.expiry + identifier_size v.identifier + length m.props

abbrev pub delivery_body_size : Version → StoredMessage → Kind → ℕ
delivery_body_size v m kind =
    2 + length (text_of_levels m.topic) + id_size kind + var_size
    (delivered_props_size v m) + delivered_props_size v m + length m.payload

-- How long the packet is that carries a message as an entry of this kind: it depends on no number and on no moment.
abbrev pub delivery_length : Version → StoredMessage → Kind → ℕ
delivery_length v m kind = 1 + var_size (delivery_body_size v m kind) + delivery_body_size v m kind

-- ---- the kind of an entry

-- the lesser of the two QoS (MQTT 3.8.4), with the next number of its track
abbrev pub numbered_kind : ℕ → ℕ → ℕ → Kind
numbered_kind qos next1 next2 = if qos == 0 then Zero else if qos == 1 then Track1 next1 else Track2 next2

abbrev pub loud_kind : Version → StoredMessage → ℕ → ℕ → Kind
loud_kind v m next1 next2 = numbered_kind (min m.qos (qos_of v.options)) next1 next2

-- For whom messages are issued: the client and the longest packet that it takes (MQTT 3.1.2.11.4), the subscription
-- with its version, and the shard.
pub record Reader : Type 0 where
  pub client : List ℕ
  pub limit : ℕ
  pub subscription : ℕ
  pub version : Version
  pub shard : ℕ

-- the client's own message where the subscription has No Local (MQTT 3.8.3.1)
abbrev pub is_own : Reader → StoredMessage → Bool
is_own r m = no_local_of r.version.options && bytes_eq m.publisher r.client

-- Issued and never sent: an own message under No Local, one that has expired, and one whose packet is longer than the
-- client takes.
abbrev pub is_kept_back : ℕ → Reader → StoredMessage → Kind → Bool
is_kept_back now r m kind = is_own r m || (has_expired now m || nat_lt r.limit (delivery_length r.version m kind))

abbrev pub silent_if : Bool → Kind → Kind
silent_if true kind = Silent
silent_if false kind = kind

-- the kind that a message is issued as, with the next numbers of the two tracks
abbrev pub kind_for : ℕ → Reader → StoredMessage → ℕ → ℕ → Kind
kind_for now r m next1 next2 = silent_if (is_kept_back now r m (loud_kind r.version m next1 next2))
    (loud_kind r.version m next1 next2)
