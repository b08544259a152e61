-- A packet of each kind, and the first byte and the length in front of it: what is spelled is read, and what is read was
-- spelled.
use Rattle.std.proofs.Common.{◌≡◌, ℕ, ◌+◌, ◌*◌, ◌/◌, ◌%◌, ◌<◌, ◌≤◌, Bool, true, false, cond, eqb, List, [], ◌∷◌, ◌++◌, length, Result, Option, Some, None, refl, sym, ap, subst, ◌∙◌, arith}
use Rattle.std.proofs.lemmas.Bool.{eqb-true, eq-eqb}
use Rattle.wire_fields.specs.declared.cut.Cut.{Cut}
use Rattle.wire_fields.specs.Spelled.{spelled_var}
use Rattle.wire_fields.specs.Reading.{AreBytes, var_at}
use Rattle.wire_fields.specs.Places.{are_bytes_rest}
use Rattle.wire_fields.specs.VarLaws.{var_again, var_takes}
use Rattle.mqtt_frame.specs.Packets.{packet_of}
use Rattle.mqtt_packet.specs.declared.packet.AckKind.TheVariants.{Puback, Pubrec, Pubrel, Pubcomp}
use Rattle.mqtt_packet.specs.Packet.{PlainPacket, Connect, Connack, Publish, Ack, Subscribe, Suback, Unsubscribe, Unsuback, Pingreq, Pingresp, Disconnect, Auth}
use Rattle.mqtt_packet.specs.Spelling.{kind_of, flags_of, fixed_flags, first_byte, publish_flags}
use Rattle.mqtt_packet.specs.Fits.{Fits, arranged}
use Rattle.mqtt_packet.specs.Spells.{IsBody, Spells}
use Rattle.mqtt_packet.specs.Reading.{◌>>=◌, only_if, if_field, framed_in, kind_in, body_in, publish_in, packet_in}
use Rattle.mqtt_packet.specs.ReaderLaws.{IsRead, bind_some, passed, some_is}
use Rattle.mqtt_packet.specs.FlagLaws.{bit_small}
use Rattle.mqtt_packet.specs.FieldLaws.{field_ok}
use Rattle.mqtt_packet.specs.BodyLaws.{IsSentAs, sent_as, pingreq_reads, pingresp_reads, suback_reads, unsuback_reads, connack_reads, subscribe_reads, unsubscribe_reads}
use Rattle.mqtt_packet.specs.AckLaws.{ack_reads, disconnect_reads, auth_reads}
use Rattle.mqtt_packet.specs.PublishLaws.{publish_reads}
use Rattle.mqtt_packet.specs.ConnectLaws.{connect_reads}

-- ---- the first byte and the length

pub framed_again : (first : ℕ) (body : List ℕ) → length body ≤ 268435455 → framed_in (packet_of first body) ≡ Some (first, body)
framed_again first body few =
    let whole : ℕ × List ℕ → Option (ℕ × List ℕ) = λ size. only_if (eqb size.0 (length size.1)) (Some (first, size.1)) in
    ap (λ (r : Result (ℕ × List ℕ) Cut). if_field r >>= whole) (var_again (length body) body few)
    ∙ ap (λ (b : Bool). cond {A = Option (ℕ × List ℕ)} b (Some (first, body)) None) (eq-eqb (length body) (length body) refl)

-- a first byte, and a body of the length that is told
pub record IsFramed (bytes : List ℕ) (framed : ℕ × List ℕ) : Type 0 where
  pub parts : bytes ≡ packet_of framed.0 framed.1
  pub few : length framed.1 ≤ 268435455
  pub first : framed.0 < 256
  pub body : AreBytes framed.1

pub framed_takes : (bytes : List ℕ) (framed : ℕ × List ℕ) → AreBytes bytes → framed_in bytes ≡ Some framed → IsFramed bytes framed
framed_takes [] framed fits e = absurd cc
framed_takes (first ∷ rest) framed fits e =
    let whole : ℕ × List ℕ → Option (ℕ × List ℕ) = λ size. only_if (eqb size.0 (length size.1)) (Some (first, size.1)) in
    let found = bind_some (if_field (var_at rest)) whole framed e in
    let size : ℕ × List ℕ = found.0 in
    let t = var_takes rest size (are_bytes_rest first rest fits) (field_ok (var_at rest) size found.1) in
    let p = passed (eqb size.0 (length size.1)) (Some (first, size.1)) framed found.2 in
    let told : size.0 ≡ length size.1 = eqb-true size.0 (length size.1) p.0 in
    subst (λ (f : ℕ × List ℕ). IsFramed (first ∷ rest) f) (some_is (first, size.1) framed p.1) (record {
      parts = ap (λ (l : List ℕ). first ∷ l) (t.parts ∙ ap (λ (n : ℕ). spelled_var n ++ size.1) told);
      few = omega (arith, t.in_range, told);
      first = fits 0;
      body = t.behind;
    })

pub flags_small : (packet : PlainPacket) → Fits packet → flags_of packet < 16
flags_small (Connect c) fits = omega arith
flags_small (Connack c) fits = omega arith
flags_small (Publish p) fits = omega (arith, fits.qos, bit_small p.dup, bit_small p.retain)
flags_small (Ack Puback a) fits = omega arith
flags_small (Ack Pubrec a) fits = omega arith
flags_small (Ack Pubrel a) fits = omega arith
flags_small (Ack Pubcomp a) fits = omega arith
flags_small (Subscribe s) fits = omega arith
flags_small (Suback s) fits = omega arith
flags_small (Unsubscribe u) fits = omega arith
flags_small (Unsuback u) fits = omega arith
flags_small Pingreq fits = omega arith
flags_small Pingresp fits = omega arith
flags_small (Disconnect d) fits = omega arith
flags_small (Auth a) fits = omega arith

high : (kind flags : ℕ) → flags < 16 → (16 * kind + flags) / 16 ≡ kind
high kind flags lt = omega (arith, lt)

low : (kind flags : ℕ) → flags < 16 → (16 * kind + flags) % 16 ≡ flags
low kind flags lt = omega (arith, lt)

-- ---- a body of each kind

pub kind_again : (sent : PlainPacket) (body : List ℕ) (packet : PlainPacket) → length body ≤ 268435455 → Fits sent
    → arranged sent ≡ packet → IsBody sent body
    → kind_in (kind_of sent) (flags_of sent) body ≡ Some packet
kind_again (Connect c) body packet few fits same form = connect_reads.again body packet few (sent_as c fits same form)
kind_again (Connack c) body packet few fits same form = connack_reads.again body packet few (sent_as c fits same form)
kind_again (Publish p) body packet few fits same form =
    (publish_reads (publish_flags p.dup p.qos p.retain) (flags_small (Publish p) fits)).again body packet few
    (record { publish = record { sent = p; fits = fits; same = same; form = form }; flags_are = refl })
kind_again (Ack Puback a) body packet few fits same form = (ack_reads Puback).again body packet few (sent_as a fits same form)
kind_again (Ack Pubrec a) body packet few fits same form = (ack_reads Pubrec).again body packet few (sent_as a fits same form)
kind_again (Ack Pubrel a) body packet few fits same form = (ack_reads Pubrel).again body packet few (sent_as a fits same form)
kind_again (Ack Pubcomp a) body packet few fits same form = (ack_reads Pubcomp).again body packet few (sent_as a fits same form)
kind_again (Subscribe s) body packet few fits same form = subscribe_reads.again body packet few (sent_as s fits same form)
kind_again (Suback s) body packet few fits same form = suback_reads.again body packet few (sent_as s fits same form)
kind_again (Unsubscribe u) body packet few fits same form = unsubscribe_reads.again body packet few (sent_as u fits same form)
kind_again (Unsuback u) body packet few fits same form = unsuback_reads.again body packet few (sent_as u fits same form)
kind_again Pingreq body packet few fits same form = pingreq_reads.again body packet few (sent_as tt tt same form)
kind_again Pingresp body packet few fits same form = pingresp_reads.again body packet few (sent_as tt tt same form)
kind_again (Disconnect d) body packet few fits same form = disconnect_reads.again body packet few (sent_as d fits same form)
kind_again (Auth a) body packet few fits same form = auth_reads.again body packet few (sent_as a fits same form)

-- a packet of a kind and with flags, as it was sent
pub record IsFound (kind flags : ℕ) (body : List ℕ) (packet : PlainPacket) : Type 0 where
  pub sent : PlainPacket
  pub fits : Fits sent
  pub same : arranged sent ≡ packet
  pub form : IsBody sent body
  pub kind_is : kind_of sent ≡ kind
  pub flags_are : flags_of sent ≡ flags

abbrev Takes : (List ℕ → PlainPacket → Type 0) → (List ℕ → Option PlainPacket) → Type 0
Takes Good read = (bytes : List ℕ) (y : PlainPacket) → AreBytes bytes → read bytes ≡ Some y → Good bytes y

by_if : {Good : Type 0} (b : Bool) (one other : Option PlainPacket) (y : PlainPacket) → (b ≡ true → one ≡ Some y → Good)
    → (other ≡ Some y → Good) → cond b one other ≡ Some y → Good
by_if true one other y first second e = first refl e
by_if false one other y first second e = second e

if_takes : {Good : List ℕ → PlainPacket → Type 0} {one other : List ℕ → Option PlainPacket} (b : Bool) → (b ≡ true → Takes Good one)
    → Takes Good other
    → Takes Good (λ (bytes : List ℕ). cond b (one bytes) (other bytes))
if_takes {Good} {one} {other} b first second bytes y fits e =
    by_if b (one bytes) (other bytes) y (λ is f. first is bytes y fits f) (λ f. second bytes y fits f) e

none_takes : (Good : List ℕ → PlainPacket → Type 0) → Takes Good (λ (bytes : List ℕ). None)
none_takes Good bytes y fits e = absurd cc

takes_as : {F : Type 0} {read : List ℕ → Option PlainPacket} (make : F → PlainPacket) (number : ℕ) (kind : ℕ)
    → IsRead (IsSentAs make) read → ((f : F) → kind_of (make f) ≡ number)
    → ((f : F) → flags_of (make f) ≡ fixed_flags number) → eqb kind number ≡ true → Takes (IsFound kind (fixed_flags kind)) read
takes_as make number kind reads kinds flags is bytes y fits e =
    let s = reads.takes bytes y fits e in
    let same : kind ≡ number = eqb-true kind number is in
    record {
      sent = make s.sent;
      fits = s.fits;
      same = s.same;
      form = s.form;
      kind_is = kinds s.sent ∙ sym same;
      flags_are = flags s.sent ∙ ap fixed_flags (sym same);
    }

body_takes : (kind : ℕ) → Takes (IsFound kind (fixed_flags kind)) (body_in kind)
body_takes kind =
    if_takes (eqb kind 1) (takes_as Connect 1 kind connect_reads (λ f. refl) (λ f. refl)) (
    if_takes (eqb kind 2) (takes_as Connack 2 kind connack_reads (λ f. refl) (λ f. refl)) (
    if_takes (eqb kind 4) (takes_as (Ack Puback) 4 kind (ack_reads Puback) (λ f. refl) (λ f. refl)) (
    if_takes (eqb kind 5) (takes_as (Ack Pubrec) 5 kind (ack_reads Pubrec) (λ f. refl) (λ f. refl)) (
    if_takes (eqb kind 6) (takes_as (Ack Pubrel) 6 kind (ack_reads Pubrel) (λ f. refl) (λ f. refl)) (
    if_takes (eqb kind 7) (takes_as (Ack Pubcomp) 7 kind (ack_reads Pubcomp) (λ f. refl) (λ f. refl)) (
    if_takes (eqb kind 8) (takes_as Subscribe 8 kind subscribe_reads (λ f. refl) (λ f. refl)) (
    if_takes (eqb kind 9) (takes_as Suback 9 kind suback_reads (λ f. refl) (λ f. refl)) (
    if_takes (eqb kind 10) (takes_as Unsubscribe 10 kind unsubscribe_reads (λ f. refl) (λ f. refl)) (
    if_takes (eqb kind 11) (takes_as Unsuback 11 kind unsuback_reads (λ f. refl) (λ f. refl)) (
    if_takes (eqb kind 12) (takes_as (λ (u : Unit {0}). Pingreq) 12 kind pingreq_reads (λ f. refl) (λ f. refl)) (
    if_takes (eqb kind 13) (takes_as (λ (u : Unit {0}). Pingresp) 13 kind pingresp_reads (λ f. refl) (λ f. refl)) (
    if_takes (eqb kind 14) (takes_as Disconnect 14 kind disconnect_reads (λ f. refl) (λ f. refl)) (
    if_takes (eqb kind 15) (takes_as Auth 15 kind auth_reads (λ f. refl) (λ f. refl)) (none_takes _))))))))))))))

publish_found : (kind flags : ℕ) → flags < 16 → eqb kind 3 ≡ true → Takes (IsFound kind flags) (publish_in flags)
publish_found kind flags lt is body packet fits e =
    let p = (publish_reads flags lt).takes body packet fits e in
    record {
      sent = Publish p.publish.sent;
      fits = p.publish.fits;
      same = p.publish.same;
      form = p.publish.form;
      kind_is = sym (eqb-true kind 3 is);
      flags_are = p.flags_are;
    }

fixed_takes : (kind flags : ℕ) → Takes (IsFound kind flags) (λ (body : List ℕ). only_if (eqb flags (fixed_flags kind)) (body_in kind body))
fixed_takes kind flags body packet fits e =
    let p = passed (eqb flags (fixed_flags kind)) (body_in kind body) packet e in
    subst (λ (f : ℕ). IsFound kind f body packet) (sym (eqb-true flags (fixed_flags kind) p.0)) (body_takes kind body packet fits p.1)

pub kind_takes : (kind flags : ℕ) (body : List ℕ) (packet : PlainPacket) → flags < 16 → AreBytes body
    → kind_in kind flags body ≡ Some packet → IsFound kind flags body packet
kind_takes kind flags body packet lt = if_takes (eqb kind 3) (publish_found kind flags lt) (fixed_takes kind flags) body packet

-- ---- the whole

pub spelled_is_read : (bytes : List ℕ) (packet : PlainPacket) → Spells bytes packet → packet_in bytes ≡ Some packet
unfolding packet_in
spelled_is_read bytes packet s =
    let lt : flags_of s.sent < 16 = flags_small s.sent s.fits in
    ap packet_in s.parts
    ∙ ap (λ (r : Option (ℕ × List ℕ)). r >>= λ framed. kind_in (framed.0 / 16) (framed.0 % 16) framed.1)
    (framed_again (first_byte s.sent) s.body s.has_length)
    ∙ (λ i. kind_in (high (kind_of s.sent) (flags_of s.sent) lt i) (low (kind_of s.sent) (flags_of s.sent) lt i) s.body)
    ∙ kind_again s.sent s.body packet s.has_length s.fits s.same s.form

pub read_was_spelled : (bytes : List ℕ) (packet : PlainPacket) → AreBytes bytes → packet_in bytes ≡ Some packet → Spells bytes packet
unfolding packet_in
read_was_spelled bytes packet fits e =
    let read = bind_some (framed_in bytes) (λ framed. kind_in (framed.0 / 16) (framed.0 % 16) framed.1) packet e in
    let f = framed_takes bytes read.0 fits read.1 in
    let p = kind_takes (read.0.0 / 16) (read.0.0 % 16) read.0.1 packet (omega arith) f.body read.2 in
    record {
      sent = p.sent;
      body = read.0.1;
      fits = p.fits;
      same = p.same;
      form = p.form;
      has_length = f.few;
      parts = f.parts ∙ ap (λ (n : ℕ). packet_of n read.0.1) (omega (arith, p.kind_is, p.flags_are));
    }
