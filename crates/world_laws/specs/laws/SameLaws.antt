-- Two PUBLISHes that carry one message under one version as one kind are the same but for DUP and for the seconds of
-- the Message Expiry Interval.
use Rattle.std.proofs.Common.{◌≡◌, ℕ, Bool, true, false, List, [], ◌∷◌, ◌++◌, filter, map, Option, Some, None, refl}
use Rattle.std.proofs.Common.{sym}
use Rattle.std.proofs.Common.{ap, ◌∙◌}
use Rattle.std.specs.Prelude.{◌==◌, if◌then◌else◌, ◌-◌}
use Rattle.std.proofs.lemmas.List.{map-append}
use Rattle.topic_model.specs.Levels.{text_of_levels}
use Rattle.topic_model.specs.StoredMessage.{StoredMessage}
use Rattle.session_model.specs.declared.entry.Kind.{Kind}
use Rattle.session_model.specs.declared.entry.Kind.TheVariants.{Track1, Track2, Zero, Silent}
use Rattle.session_model.specs.declared.entry.Entry.{Entry}
use Rattle.session_model.specs.declared.entry.Version.{Version}
use Rattle.session_model.specs.Entry.{id1, id2}
use Rattle.mqtt_props.specs.declared.table.TheConstants.{MESSAGE_EXPIRY_INTERVAL}
use Rattle.mqtt_props.specs.declared.prop.Prop.{Prop}
use Rattle.mqtt_props.specs.declared.prop.Prop.TheVariants.{Byte, Two, Four, Var, Text, Bin, Pair}
use Rattle.mqtt_props.specs.Prop.{id_of}
use Rattle.mqtt_props.specs.Props.{gathered, identifiers, in_writing_order}
use Rattle.mqtt_packet.specs.Packet.{PlainPacket, PublishFields, Publish}
use Rattle.turn_model.specs.Delivery.{delivery, delivery_with, delivered_props, expiry_props, identifier_props}
use Rattle.turn_model.specs.Delivery.{publisher_props}
use Rattle.turn_model.specs.Delivery.{seconds_waited}
use Rattle.world_model.specs.World.{World}
use Rattle.world_laws.specs.SentAgain.{without_seconds, bare_publish, IsDeliveryOf, ResendsAreTheSame}
use Rattle.world_laws.specs.SentAgain.{PublishesAreTheSame}

-- ---- what leaves identifiers leaves the order

kept_identifier : (p : Prop) → id_of (without_seconds p) ≡ id_of p
kept_identifier (Byte identifier value) = refl
kept_identifier (Two identifier value) = refl
kept_identifier (Four identifier value) = refl
kept_identifier (Var value) = refl
kept_identifier (Text identifier text) = refl
kept_identifier (Bin identifier bytes) = refl
kept_identifier (Pair name value) = refl

filtered_bare : (identifier : ℕ) (ps : List Prop) →
    map without_seconds (filter (λ p. id_of p == identifier) ps)
    ≡ filter (λ p. id_of p == identifier) (map without_seconds ps)
filtered_bare identifier [] = refl
filtered_bare identifier (p ∷ ps) =
    by (id_of p == identifier) (filtered_bare identifier ps)
    ∙ ap (λ (b : Bool).
    if b then without_seconds p ∷ filter (λ p. id_of p == identifier) (map without_seconds ps)
    else filter (λ p. id_of p == identifier) (map without_seconds ps))
    (ap (λ (n : ℕ). n == identifier) (sym (kept_identifier p)))
  where
    by : (b : Bool) → map without_seconds (filter (λ p. id_of p == identifier) ps)
        ≡ filter (λ p. id_of p == identifier) (map without_seconds ps) →
        map without_seconds (if b then p ∷ filter (λ p. id_of p == identifier) ps
        else filter (λ p. id_of p == identifier) ps)
        ≡ (if b then without_seconds p ∷ filter (λ p. id_of p == identifier) (map without_seconds ps)
        else filter (λ p. id_of p == identifier) (map without_seconds ps))
    by true rest = ap (λ (qs : List Prop). without_seconds p ∷ qs) rest
    by false rest = rest

gathered_bare : (ids : List ℕ) (ps : List Prop) →
    map without_seconds (gathered ids ps) ≡ gathered ids (map without_seconds ps)
gathered_bare [] ps = refl
gathered_bare (identifier ∷ ids) ps =
    map-append without_seconds (filter (λ p. id_of p == identifier) ps) (gathered ids ps)
    ∙ ap (λ (qs : List Prop). qs ++ map without_seconds (gathered ids ps)) (filtered_bare identifier ps)
    ∙ ap (λ (qs : List Prop). filter (λ p. id_of p == identifier) (map without_seconds ps) ++ qs)
    (gathered_bare ids ps)

ordered_bare : (ps : List Prop) → map without_seconds (in_writing_order ps) ≡ in_writing_order (map without_seconds ps)
unfolding in_writing_order
ordered_bare ps = gathered_bare identifiers ps

-- ---- properties of two deliveries

expiry_bare : (expiry : Option ℕ) (first later : ℕ) (more : List Prop) →
    map without_seconds (expiry_props expiry first ++ more) ≡ map without_seconds (expiry_props expiry later ++ more)
expiry_bare None first later more = refl
expiry_bare (Some seconds) first later more = refl

props_bare : (now later : ℕ) (version : Version) (message : StoredMessage) →
    map without_seconds (delivered_props now version message)
    ≡ map without_seconds (delivered_props later version message)
props_bare now later version message =
    ordered_bare (expiry_props message.expiry (seconds_waited now message)
    ++ (identifier_props version.identifier ++ publisher_props message))
    ∙ ap in_writing_order
    (expiry_bare message.expiry (seconds_waited now message) (seconds_waited later message)
    (identifier_props version.identifier ++ publisher_props message))
    ∙ sym (ordered_bare (expiry_props message.expiry (seconds_waited later message)
    ++ (identifier_props version.identifier ++ publisher_props message)))

-- ---- the packets

abbrev pub bare_packet : PlainPacket → PlainPacket
bare_packet (Publish p) = Publish (bare_publish p)
bare_packet other = other

with_bare : (dup again : Bool) (qos id now later : ℕ) (version : Version) (message : StoredMessage) →
    bare_packet (delivery_with dup qos id now version message)
    ≡ bare_packet (delivery_with again qos id later version message)
with_bare dup again qos id now later version message =
    ap (λ (props : List Prop). Publish (record {
      dup = false;
      qos = qos;
      retain = false;
      topic = text_of_levels message.topic;
      id = id;
      props = props;
      payload = message.payload;
    })) (props_bare now later version message)

delivered_bare : (dup again : Bool) (now later : ℕ) (version : Version) (message : StoredMessage) (kind : Kind) →
    bare_packet (delivery dup now version message kind) ≡ bare_packet (delivery again later version message kind)
delivered_bare dup again now later version message (Track1 number) =
    with_bare dup again 1 (id1 number) now later version message
delivered_bare dup again now later version message (Track2 number) =
    with_bare dup again 2 (id2 number) now later version message
delivered_bare dup again now later version message Zero = with_bare false false 0 0 now later version message
delivered_bare dup again now later version message Silent = with_bare false false 0 0 now later version message

fields_or : PublishFields → PlainPacket → PublishFields
fields_or none (Publish p) = p
fields_or none other = none

-- two PUBLISHes of one message under one version, of one entry
pub deliveries_same : (message : StoredMessage) (version : Version) (e : Entry) (p q : PublishFields) →
    IsDeliveryOf message version e p → IsDeliveryOf message version e q → bare_publish p ≡ bare_publish q
unfolding fields_or
deliveries_same message version e p q (dup, (now, is_p)) (again, (later, is_q)) =
    ap (fields_or (bare_publish p))
    (ap bare_packet is_p ∙ delivered_bare dup again now later version message e.kind ∙ ap bare_packet (sym is_q))

-- so all PUBLISHes of one entry are the same but for these, where each carries its one message
pub packets_same : (w : World) → ResendsAreTheSame w → PublishesAreTheSame w
packets_same w same worker k client number e p q is_there sent_p sent_q =
    let (s, (at, one)) = same worker k client number e (Publish p) is_there sent_p in
    deliveries_same one.message one.version e p q (one.publishes p sent_p) (one.publishes q sent_q)
