-- What is written is a spelling of the packet, and of no other; and no spelling begins another.
use Rattle.std.proofs.Common.{◌≡◌, ℕ, ◌≤◌, Bool, true, false, cond, eqb, List, [], ◌∷◌, ◌++◌, length, take, drop, Result, Ok, refl, sym, ap, ◌∙◌, ◌⊎◌, append_assoc, inl, inr}
use Rattle.std.proofs.lemmas.Bool.{eqb-true}
use Rattle.std.proofs.lemmas.List.{take_at, drop_at}
use Rattle.wire_fields.specs.declared.cut.Cut.{Cut}
use Rattle.wire_fields.specs.Spelled.{spelled_u8, spelled_u16, spelled_var}
use Rattle.wire_fields.specs.Reading.{var_at}
use Rattle.wire_fields.specs.VarLaws.{var_again}
use Rattle.mqtt_frame.specs.Packets as Frame
use Rattle.mqtt_frame.specs.Packets.{packet_of}
use Rattle.mqtt_props.specs.declared.prop.Prop.{Prop}
use Rattle.mqtt_packet.specs.declared.packet.AckKind.{AckKind}
use Rattle.mqtt_packet.specs.Packet.{PlainPacket, Connect, Connack, Publish, Ack, Subscribe, Suback, Unsubscribe, Unsuback, Pingreq, Pingresp, Disconnect, Auth, AckFields, EndFields}
use Rattle.mqtt_packet.specs.Spelling.{first_byte, whole_body, ack_body, end_body, auth_body, written_body, written}
use Rattle.mqtt_packet.specs.Fits.{IsPacket}
use Rattle.mqtt_packet.specs.Spells.{IsBody, IsShortAck, IsShortEnd, IsNoAuth, Spells}
use Rattle.mqtt_packet.specs.Reading.{packet_in}
use Rattle.mqtt_packet.specs.Rules.{broken_rule}
use Rattle.mqtt_packet.specs.Answer.{by_rule, answer}
use Rattle.mqtt_packet.specs.ReaderLaws.{some_is}
use Rattle.mqtt_packet.specs.FrameLaws.{spelled_is_read}
use Rattle.mqtt_packet.specs.ExactLaws.{answer_of}

-- ---- the short forms that are written

short_ack_by : (b : Bool) (id reason : ℕ) → eqb reason 0 ≡ b
    → (cond b (spelled_u16 id) (spelled_u16 id ++ (spelled_u8 reason ++ [])) ≡ spelled_u16 id ++ (spelled_u8 reason ++ []))
    ⊎ ((reason ≡ 0) × (cond b (spelled_u16 id) (spelled_u16 id ++ (spelled_u8 reason ++ [])) ≡ spelled_u16 id))
short_ack_by true id reason is = inr (eqb-true reason 0 is, refl)
short_ack_by false id reason is = inl refl

written_ack : (kind : AckKind) (a : AckFields) (props : List Prop) → a.props ≡ props
    → (ack_body kind a props ≡ whole_body (Ack kind a)) ⊎ IsShortAck a (ack_body kind a props)
written_ack kind a [] none = inr (none, short_ack_by (eqb a.reason 0) a.id a.reason refl)
written_ack kind a (p ∷ ps) some = inl refl

short_end_by : (b : Bool) (reason : ℕ) → eqb reason 0 ≡ b
    → (cond b [] (spelled_u8 reason) ≡ spelled_u8 reason) ⊎ ((reason ≡ 0) × (cond b [] (spelled_u8 reason) ≡ []))
short_end_by true reason is = inr (eqb-true reason 0 is, refl)
short_end_by false reason is = inl refl

written_end : (d : EndFields) (props : List Prop) → d.props ≡ props
    → (end_body d props ≡ whole_body (Disconnect d)) ⊎ IsShortEnd d (end_body d props)
written_end d [] none = inr (none, short_end_by (eqb d.reason 0) d.reason refl)
written_end d (p ∷ ps) some = inl refl

auth_by : (b : Bool) (a : EndFields) → eqb a.reason 0 ≡ b → a.props ≡ []
    → (cond b [] (whole_body (Auth a)) ≡ whole_body (Auth a)) ⊎ IsNoAuth a (cond b [] (whole_body (Auth a)))
auth_by true a is none = inr (none, eqb-true a.reason 0 is, refl)
auth_by false a is none = inl refl

written_auth : (a : EndFields) (props : List Prop) → a.props ≡ props
    → (auth_body a props ≡ whole_body (Auth a)) ⊎ IsNoAuth a (auth_body a props)
written_auth a [] none = auth_by (eqb a.reason 0) a refl none
written_auth a (p ∷ ps) some = inl refl

-- the written body is one of the packet's bodies
pub written_form : (packet : PlainPacket) → IsBody packet (written_body packet)
written_form (Connect c) = refl
written_form (Connack c) = refl
written_form (Publish p) = refl
written_form (Ack kind a) = written_ack kind a a.props refl
written_form (Subscribe s) = refl
written_form (Suback s) = refl
written_form (Unsubscribe u) = refl
written_form (Unsuback u) = refl
written_form Pingreq = refl
written_form Pingresp = refl
written_form (Disconnect d) = written_end d d.props refl
written_form (Auth a) = written_auth a a.props refl

-- ---- what is written

pub written_spells : (packet : PlainPacket) → IsPacket packet → Spells (written packet) packet
written_spells packet is = record {
  sent = packet;
  body = written_body packet;
  fits = is.fits;
  same = is.ordered;
  form = written_form packet;
  has_length = is.has_length;
  parts = refl;
}

-- bytes spell one packet
pub one_spelled : (bytes : List ℕ) (p q : PlainPacket) → Spells bytes p → Spells bytes q → p ≡ q
one_spelled bytes p q s t = some_is p q (sym (spelled_is_read bytes p s) ∙ spelled_is_read bytes q t)

pub written_alone : (packet other : PlainPacket) → IsPacket packet → Spells (written packet) other → other ≡ packet
written_alone packet other is s = one_spelled (written packet) other packet s (written_spells packet is)

pub written_answer : (packet : PlainPacket) → IsPacket packet → answer (written packet) ≡ by_rule packet (broken_rule packet)
written_answer packet is = answer_of (written packet) packet (written_spells packet is)

pub written_frame : (limit : ℕ) (packet : PlainPacket) → IsPacket packet → length (written packet) ≤ limit
    → Frame.IsPacket limit (written packet)
written_frame limit packet is within = record {
  first = first_byte packet;
  body = written_body packet;
  parts = refl;
  has_length = is.has_length;
  within = within;
}

-- ---- no spelling begins another

same_front : (a b x y : List ℕ) → length a ≡ length b → a ++ x ≡ b ++ y → (a ≡ b) × (x ≡ y)
same_front a b x y size e = (
  sym (take_at a x (length a) refl) ∙ ap (take (length a)) e ∙ take_at b y (length a) (sym size),
  sym (drop_at a x (length a) refl) ∙ ap (drop (length a)) e ∙ drop_at b y (length a) (sym size),
)

same_head : (a b : ℕ) (x y : List ℕ) → a ∷ x ≡ b ∷ y → (a ≡ b) × (x ≡ y)
same_head a b x y e = (cc, cc)

same_ok : (r : Result (ℕ × List ℕ) Cut) (x y : ℕ × List ℕ) → r ≡ Ok x → r ≡ Ok y → x ≡ y
same_ok r x y e f = let same = sym e ∙ f in cc

same_sized : (a b x y : List ℕ) → length a ≤ 268435455 → length b ≤ 268435455
    → (spelled_var (length a) ++ a) ++ x ≡ (spelled_var (length b) ++ b) ++ y → (a ≡ b) × (x ≡ y)
same_sized a b x y few little e =
    let flat : spelled_var (length a) ++ (a ++ x) ≡ spelled_var (length b) ++ (b ++ y) =
    sym (append_assoc (spelled_var (length a)) a x) ∙ e ∙ append_assoc (spelled_var (length b)) b y in
    let one = var_again (length a) (a ++ x) few in
    let other = ap var_at flat ∙ var_again (length b) (b ++ y) little in
    let read = same_ok (var_at (spelled_var (length a) ++ (a ++ x))) (length a, a ++ x) (length b, b ++ y) one other in
    same_front a b x y (ap (λ (z : ℕ × List ℕ). z.0) read) (ap (λ (z : ℕ × List ℕ). z.1) read)

same_packets : (f g : ℕ) (a b x y : List ℕ) → length a ≤ 268435455 → length b ≤ 268435455 → packet_of f a ++ x ≡ packet_of g b ++ y
    → (packet_of f a ≡ packet_of g b) × (x ≡ y)
same_packets f g a b x y few little e =
    let heads = same_head f g ((spelled_var (length a) ++ a) ++ x) ((spelled_var (length b) ++ b) ++ y) e in
    let others = same_sized a b x y few little heads.1 in
    ((λ i. packet_of (heads.0 i) (others.0 i)), others.1)

pub none_begins : (x y u v : List ℕ) (p q : PlainPacket) → Spells x p → Spells y q → x ++ u ≡ y ++ v → (x ≡ y) × (p ≡ q) × (u ≡ v)
none_begins x y u v p q s t e =
    let same = same_packets (first_byte s.sent) (first_byte t.sent) s.body t.body u v s.has_length t.has_length
    (ap (λ (l : List ℕ). l ++ u) (sym s.parts) ∙ e ∙ ap (λ (l : List ℕ). l ++ v) t.parts) in
    let bytes : x ≡ y = s.parts ∙ same.0 ∙ sym t.parts in
    (bytes, some_is p q (sym (spelled_is_read x p s) ∙ ap packet_in bytes ∙ spelled_is_read y q t), same.1)
