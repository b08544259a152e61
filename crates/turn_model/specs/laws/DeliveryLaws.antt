-- The length that is computed of a delivery is that of the packet.
use Rattle.std.proofs.Common.{◌≡◌, ℕ, ◌+◌, ◌-◌, ◌^◌, ◌<◌, ◌≤◌, Bool, true, false, cond, eqb, List, [], ◌∷◌, ◌++◌}
use Rattle.std.proofs.Common.{length, All, Option, Some, None, Ok, Err, refl, sym, ap, subst, ◌∙◌, arith}
use Rattle.std.specs.List.{filter, list_any}
use Rattle.std.proofs.lemmas.List.Elements.{All-nil, All-append, All-push, filter-append}
use Rattle.std.proofs.lemmas.List.Sums.{sum_by-append}
use Rattle.std.proofs.lemmas.List.Sorted.{sum_by-IsPermutation}
use Rattle.wire_fields.specs.Reading.{AreBytes}
use Rattle.topic_model.specs.Levels.{text_of_levels}
use Rattle.topic_model.specs.StoredMessage.{StoredMessage}
use Rattle.session_model.specs.declared.entry.Kind.{Kind}
use Rattle.session_model.specs.declared.entry.Kind.TheVariants.{Track1, Track2, Zero, Silent}
use Rattle.session_model.specs.declared.entry.Version.{Version}
use Rattle.session_model.specs.Entry.{id1, id2}
use Rattle.mqtt_props.specs.declared.table.Holder.{Holder}
use Rattle.mqtt_props.specs.declared.table.Holder.TheVariants as In
use Rattle.mqtt_props.specs.declared.refused.PropRefused.TheVariants.{Repeated, BadValue}
use Rattle.mqtt_props.specs.declared.prop.Prop.{Prop}
use Rattle.mqtt_props.specs.declared.prop.Prop.TheVariants.{Four, Var}
use Rattle.mqtt_props.specs.declared.table.TheConstants.{MESSAGE_EXPIRY_INTERVAL}
use Rattle.mqtt_props.specs.Prop.{id_of, is_bad, IsProp, IsPropIn}
use Rattle.mqtt_props.specs.Props.{bare_props, checked, gathered, has_repeated, identifiers, in_writing_order}
use Rattle.mqtt_props.specs.Props.{SpellsBare}
use Rattle.mqtt_props.specs.Sizes.{var_size, prop_size, bare_size}
use Rattle.mqtt_props.specs.SizeLaws.{bare_sized}
use Rattle.mqtt_props.specs.ArrangedLaws.{order_moves, order_again, order_keeps}
use Rattle.mqtt_props.specs.FoundLaws.{bare_takes}
use Rattle.mqtt_packet.specs.Fits.{Fits, IfThere, IsId, IsTopicName}
use Rattle.mqtt_packet.specs.Spelling.{written}
use Rattle.mqtt_packet.specs.Sizes as Packet
use Rattle.mqtt_packet.specs.Sizes.{packet_size}
use Rattle.mqtt_packet.specs.SizeLaws.{packet_sized}
use Rattle.turn_model.specs.Delivery.{seconds_waited, expiry_props, identifier_props, props_or_none, publisher_props}
use Rattle.turn_model.specs.Delivery.{delivered_props, delivery_with, delivery, delivery_body_size, delivery_length}
use Rattle.turn_model.specs.Delivery.{delivered_props_size, identifier_size, expiry_prop_size, id_size}

-- ---- the size of what is put in writing order, part by part

gathered_both : (ids : List ℕ) (xs ys : List Prop) →
    bare_size (gathered ids (xs ++ ys)) ≡ bare_size (gathered ids xs) + bare_size (gathered ids ys)
gathered_both [] xs ys = refl
gathered_both (id ∷ ids) xs ys =
    let here : Prop → Bool = λ p. eqb (id_of p) id in
    let first = sum_by-append prop_size (filter here xs) (filter here ys) in
    let apart = ap bare_size (filter-append here xs ys) in
    let all = sum_by-append prop_size (filter here (xs ++ ys)) (gathered ids (xs ++ ys)) in
    let of_xs = sum_by-append prop_size (filter here xs) (gathered ids xs) in
    let of_ys = sum_by-append prop_size (filter here ys) (gathered ids ys) in
    let rest = gathered_both ids xs ys in
    omega arith

order_both : (xs ys : List Prop) →
    bare_size (in_writing_order (xs ++ ys)) ≡ bare_size (in_writing_order xs) + bare_size (in_writing_order ys)
unfolding in_writing_order
order_both xs ys = gathered_both identifiers xs ys

-- one property of an identifier that stands in the table, whatever its value is
expiry_sized : (expiry : Option ℕ) (seconds : ℕ) →
    bare_size (in_writing_order (expiry_props expiry seconds)) ≡ expiry_prop_size expiry
unfolding in_writing_order
expiry_sized None seconds = refl
expiry_sized (Some expiry) seconds = refl

identifier_sized : (identifier : ℕ) →
    bare_size (in_writing_order (identifier_props identifier)) ≡ identifier_size identifier
unfolding in_writing_order
identifier_sized identifier = by (eqb identifier 0)
  where
    by : (b : Bool) → bare_size (in_writing_order (cond b [] (Var identifier ∷ [])))
        ≡ cond b 0 (1 + var_size identifier)
    by true = refl
    by false = omega arith

-- ---- what was read takes as many bytes as it had

ordered_if : (holder : Holder) (ps qs : List Prop) → checked holder qs ≡ Ok ps → qs ≡ ps
ordered_if holder ps qs e = by (has_repeated holder qs) (list_any is_bad qs) e
  where
    by : (b c : Bool) → cond b (Err Repeated) (cond c (Err BadValue) (Ok qs)) ≡ Ok ps → qs ≡ ps
    by true c e = cc
    by false true e = cc
    by false false e = cc

spelled_sized : (holder : Holder) (bytes : List ℕ) (ps : List Prop) → SpellsBare holder bytes ps →
    bare_size (in_writing_order ps) ≡ length bytes
spelled_sized holder bytes ps (qs, of) =
    let same : in_writing_order qs ≡ ps = ordered_if holder ps (in_writing_order qs) of.2 in
    let are : All IsProp qs = λ k d lt. (of.0 k d lt).0 in
    let again = ap bare_size (ap in_writing_order (sym same) ∙ order_again qs) in
    let moved = sum_by-IsPermutation prop_size qs (in_writing_order qs) (order_moves qs are) in
    let sized = bare_sized qs are in
    let bytes_are = ap length of.1 in
    omega arith

pub read_sized : (holder : Holder) (bytes : List ℕ) (ps : List Prop) → AreBytes bytes →
    bare_props holder bytes ≡ Ok ps → bare_size (in_writing_order ps) ≡ length bytes
read_sized holder bytes ps are e = spelled_sized holder bytes ps (bare_takes holder bytes ps are e)

pub delivered_sized : (now : ℕ) (v : Version) (m : StoredMessage) (ps : List Prop) → AreBytes m.props →
    bare_props In.Publish m.props ≡ Ok ps →
    bare_size (delivered_props now v m) ≡ delivered_props_size v m
delivered_sized now v m ps are e =
    let of : publisher_props m ≡ ps = ap props_or_none e in
    let first = order_both (expiry_props m.expiry (seconds_waited now m))
    (identifier_props v.identifier ++ publisher_props m) in
    let second = order_both (identifier_props v.identifier) (publisher_props m) in
    let expiry = expiry_sized m.expiry (seconds_waited now m) in
    let identifier = identifier_sized v.identifier in
    let others : bare_size (in_writing_order (publisher_props m)) ≡ length m.props =
    ap (λ l. bare_size (in_writing_order l)) of ∙ read_sized In.Publish m.props ps are e in
    omega arith

-- ---- the packet

-- the body of a packet whose properties have this size, and whose identifier takes so many bytes
abbrev body_with : ℕ → StoredMessage → ℕ → ℕ
body_with id m size = 2 + length (text_of_levels m.topic) + id + (var_size size + size) + length m.payload

with_sized : (dup : Bool) (qos id now : ℕ) (v : Version) (m : StoredMessage) (ps : List Prop) → AreBytes m.props →
    bare_props In.Publish m.props ≡ Ok ps →
    Packet.body_size (delivery_with dup qos id now v m) ≡ body_with (Packet.id_size qos) m (delivered_props_size v m)
with_sized dup qos id now v m ps are e = ap (body_with (Packet.id_size qos) m) (delivered_sized now v m ps are e)

whole_sized : (id : ℕ) (v : Version) (m : StoredMessage) (kind : Kind) (body : ℕ) → id_size kind ≡ id →
    body ≡ body_with id m (delivered_props_size v m) →
    1 + var_size body + body ≡ delivery_length v m kind
whole_sized id v m kind body of e =
    let same : body ≡ delivery_body_size v m kind = omega arith in
    ap (λ n. 1 + var_size n + n) same

pub delivery_sized : (dup : Bool) (now : ℕ) (v : Version) (m : StoredMessage) (kind : Kind) (ps : List Prop) →
    AreBytes m.props → bare_props In.Publish m.props ≡ Ok ps →
    packet_size (delivery dup now v m kind) ≡ delivery_length v m kind
delivery_sized dup now v m (Track1 number) ps are e =
    whole_sized 2 v m (Track1 number) _ refl (with_sized dup 1 (id1 number) now v m ps are e)
delivery_sized dup now v m (Track2 number) ps are e =
    whole_sized 2 v m (Track2 number) _ refl (with_sized dup 2 (id2 number) now v m ps are e)
delivery_sized dup now v m Zero ps are e = whole_sized 0 v m Zero _ refl (with_sized false 0 0 now v m ps are e)
delivery_sized dup now v m Silent ps are e = whole_sized 0 v m Silent _ refl (with_sized false 0 0 now v m ps are e)

pub delivery_written : (dup : Bool) (now : ℕ) (v : Version) (m : StoredMessage) (kind : Kind) (ps : List Prop) →
    AreBytes m.props → bare_props In.Publish m.props ≡ Ok ps →
    Fits (delivery dup now v m kind) → length (written (delivery dup now v m kind)) ≡ delivery_length v m kind
delivery_written dup now v m kind ps are e fits =
    packet_sized (delivery dup now v m kind) fits ∙ delivery_sized dup now v m kind ps are e

-- ---- where its fields fit

odd_fits : (number : ℕ) → IsId (id1 number)
odd_fits number = (omega arith, omega arith)

even_fits : (number : ℕ) → IsId (id2 number)
even_fits number = (omega arith, omega arith)

expiry_fits : (expiry : Option ℕ) (seconds : ℕ) → IfThere (λ (n : ℕ). n < 2 ^ 32) expiry →
    All (IsPropIn In.Publish) (expiry_props expiry seconds)
expiry_fits None seconds less = All-nil (IsPropIn In.Publish)
expiry_fits (Some expiry) seconds less =
    let low : expiry - seconds < 2 ^ 32 = omega arith in
    All-push (IsPropIn In.Publish) [] (Four MESSAGE_EXPIRY_INTERVAL (expiry - seconds)) (All-nil (IsPropIn In.Publish))
    ((refl, low), refl)

identifier_fits : (identifier : ℕ) → identifier ≤ 268435455 → All (IsPropIn In.Publish) (identifier_props identifier)
identifier_fits identifier less = by (eqb identifier 0)
  where
    by : (b : Bool) → All (IsPropIn In.Publish) (cond b [] (Var identifier ∷ []))
    by true = All-nil (IsPropIn In.Publish)
    by false = All-push (IsPropIn In.Publish) [] (Var identifier) (All-nil (IsPropIn In.Publish)) (less, refl)

publisher_fits : (holder : Holder) (bytes : List ℕ) (ps : List Prop) → SpellsBare holder bytes ps →
    All (IsPropIn holder) ps
publisher_fits holder bytes ps (qs, of) =
    subst (All (IsPropIn holder)) (ordered_if holder ps (in_writing_order qs) of.2)
    (order_keeps (IsPropIn holder) qs of.0)

delivered_fits : (now : ℕ) (v : Version) (m : StoredMessage) (ps : List Prop) → AreBytes m.props →
    bare_props In.Publish m.props ≡ Ok ps →
    v.identifier ≤ 268435455 → IfThere (λ (n : ℕ). n < 2 ^ 32) m.expiry →
    All (IsPropIn In.Publish) (delivered_props now v m)
delivered_fits now v m ps are e identifier expiry =
    let P : Prop → Type 0 = IsPropIn In.Publish in
    let others : All P (publisher_props m) =
    subst (All P) (ap props_or_none (sym e))
    (publisher_fits In.Publish m.props ps (bare_takes In.Publish m.props ps are e)) in
    let first = expiry_fits m.expiry (seconds_waited now m) expiry in
    let second = identifier_fits v.identifier identifier in
    order_keeps P (expiry_props m.expiry (seconds_waited now m) ++ (identifier_props v.identifier ++ publisher_props m))
    (All-append P (expiry_props m.expiry (seconds_waited now m))
    (identifier_props v.identifier ++ publisher_props m) first
    (All-append P (identifier_props v.identifier) (publisher_props m) second others))

pub delivery_fits : (dup : Bool) (now : ℕ) (v : Version) (m : StoredMessage) (kind : Kind) (ps : List Prop) →
    AreBytes m.props → bare_props In.Publish m.props ≡ Ok ps →
    IsTopicName (text_of_levels m.topic) → v.identifier ≤ 268435455 → IfThere (λ (n : ℕ). n < 2 ^ 32) m.expiry →
    Fits (delivery dup now v m kind)
delivery_fits dup now v m (Track1 number) ps are e topic identifier expiry =
    record {
      qos = omega arith;
      tied = odd_fits number;
      topic = topic;
      props =
          delivered_fits now v m ps are e identifier expiry;
    }
delivery_fits dup now v m (Track2 number) ps are e topic identifier expiry =
    record {
      qos = omega arith;
      tied = even_fits number;
      topic = topic;
      props =
          delivered_fits now v m ps are e identifier expiry;
    }
delivery_fits dup now v m Zero ps are e topic identifier expiry =
    record {
      qos = omega arith;
      tied = (refl, refl);
      topic = topic;
      props =
          delivered_fits now v m ps are e identifier expiry;
    }
delivery_fits dup now v m Silent ps are e topic identifier expiry =
    record {
      qos = omega arith;
      tied = (refl, refl);
      topic = topic;
      props =
          delivered_fits now v m ps are e identifier expiry;
    }
