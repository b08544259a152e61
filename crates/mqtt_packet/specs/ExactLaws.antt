-- What bytes are answered: a packet that they spell and that breaks no rule, or exactly why there is none.
use Rattle.std.proofs.Common.{◌≡◌, ℕ, Bool, true, false, cond, List, Result, Ok, Err, Option, Some, None, refl, sym, ap, ◌∙◌}
use Rattle.wire_fields.specs.Reading.{AreBytes}
use Rattle.mqtt_packet.specs.declared.refused.ReadRefused.{ReadRefused}
use Rattle.mqtt_packet.specs.declared.refused.ReadRefused.TheVariants.{Version, Malformed, Protocol}
use Rattle.mqtt_packet.specs.Packet.{PlainPacket}
use Rattle.mqtt_packet.specs.Spells.{Spells}
use Rattle.mqtt_packet.specs.Reading.{packet_in}
use Rattle.mqtt_packet.specs.Rules.{broken_rule}
use Rattle.mqtt_packet.specs.Answer.{is_other_version, by_rule, judged, answer}
use Rattle.mqtt_packet.specs.FrameLaws.{spelled_is_read, read_was_spelled}
use Rattle.mqtt_packet.specs.VersionLaws.{spelled_is_this_version}

-- ---- an answer and its parts

abbrev answered : Bool → Option PlainPacket → Result PlainPacket ReadRefused
answered other found = cond other (Err Version) (judged found)

-- what is answered of bytes by which it was found
pub answer_of : (bytes : List ℕ) (packet : PlainPacket) → Spells bytes packet → answer bytes ≡ by_rule packet (broken_rule packet)
answer_of bytes packet s = (λ i. answered (spelled_is_this_version bytes packet s i) (spelled_is_read bytes packet s i))

rule_ok : (packet wanted : PlainPacket) (rule : Option ℕ) → by_rule packet rule ≡ Ok wanted → (rule ≡ None) × (packet ≡ wanted)
rule_ok packet wanted None e = (refl, cc)
rule_ok packet wanted (Some n) e = absurd cc

rule_broken : (packet : PlainPacket) (rule : Option ℕ) (n : ℕ) → by_rule packet rule ≡ Err (Protocol n) → rule ≡ Some n
rule_broken packet None n e = absurd cc
rule_broken packet (Some m) n e = let same : m ≡ n = cc in ap Some same

rule_not_malformed : (packet : PlainPacket) (rule : Option ℕ) → by_rule packet rule ≡ Err Malformed → ⊥
rule_not_malformed packet None e = cc
rule_not_malformed packet (Some m) e = cc

rule_not_version : (packet : PlainPacket) (rule : Option ℕ) → by_rule packet rule ≡ Err Version → ⊥
rule_not_version packet None e = cc
rule_not_version packet (Some m) e = cc

ok_parts : (other : Bool) (found : Option PlainPacket) (packet : PlainPacket) → answered other found ≡ Ok packet
    → (found ≡ Some packet) × (broken_rule packet ≡ None)
ok_parts true found packet e = absurd cc
ok_parts false None packet e = absurd cc
ok_parts false (Some p) packet e =
    let r = rule_ok p packet (broken_rule p) e in
    (ap Some r.1, ap broken_rule (sym r.1) ∙ r.0)

malformed_parts : (other : Bool) (found : Option PlainPacket) → answered other found ≡ Err Malformed → (other ≡ false) × (found ≡ None)
malformed_parts true found e = absurd cc
malformed_parts false None e = (refl, refl)
malformed_parts false (Some p) e = absurd (rule_not_malformed p (broken_rule p) e)

protocol_parts : (other : Bool) (found : Option PlainPacket) (rule : ℕ) → answered other found ≡ Err (Protocol rule)
    → (packet : PlainPacket) × ((found ≡ Some packet) × (broken_rule packet ≡ Some rule))
protocol_parts true found rule e = absurd cc
protocol_parts false None rule e = absurd cc
protocol_parts false (Some p) rule e = (p, (refl, rule_broken p (broken_rule p) rule e))

version_parts : (other : Bool) (found : Option PlainPacket) → answered other found ≡ Err Version → other ≡ true
version_parts true found e = refl
version_parts false None e = absurd cc
version_parts false (Some p) e = absurd (rule_not_version p (broken_rule p) e)

-- ---- each answer, both ways

pub ok_means : (bytes : List ℕ) (packet : PlainPacket) → AreBytes bytes → answer bytes ≡ Ok packet
    → Spells bytes packet × (broken_rule packet ≡ None)
ok_means bytes packet fits e =
    let p = ok_parts (is_other_version bytes) (packet_in bytes) packet e in
    (read_was_spelled bytes packet fits p.0, p.1)

pub ok_if : (bytes : List ℕ) (packet : PlainPacket) → Spells bytes packet → broken_rule packet ≡ None → answer bytes ≡ Ok packet
ok_if bytes packet s e = answer_of bytes packet s ∙ ap (by_rule packet) e

pub malformed_means : (bytes : List ℕ) → answer bytes ≡ Err Malformed
    → (is_other_version bytes ≡ false) × ((packet : PlainPacket) → Spells bytes packet → ⊥)
malformed_means bytes e =
    let p = malformed_parts (is_other_version bytes) (packet_in bytes) e in
    (p.0, λ packet s. let bad = sym p.1 ∙ spelled_is_read bytes packet s in cc)

none_read : (found : Option PlainPacket) → ((packet : PlainPacket) → found ≡ Some packet → ⊥) → found ≡ None
none_read None none = refl
none_read (Some packet) none = absurd (none packet refl)

pub malformed_if : (bytes : List ℕ) → AreBytes bytes → is_other_version bytes ≡ false → ((packet : PlainPacket) → Spells bytes packet → ⊥)
    → answer bytes ≡ Err Malformed
malformed_if bytes fits other none =
    let found : packet_in bytes ≡ None = none_read (packet_in bytes) (λ packet e. none packet (read_was_spelled bytes packet fits e)) in
    (λ i. answered (other i) (found i))

pub protocol_means : (bytes : List ℕ) (rule : ℕ) → AreBytes bytes → answer bytes ≡ Err (Protocol rule)
    → (packet : PlainPacket) × Spells bytes packet × (broken_rule packet ≡ Some rule)
protocol_means bytes rule fits e =
    let p = protocol_parts (is_other_version bytes) (packet_in bytes) rule e in
    (p.0, read_was_spelled bytes p.0 fits p.1.0, p.1.1)

pub protocol_if : (bytes : List ℕ) (packet : PlainPacket) (rule : ℕ) → Spells bytes packet → broken_rule packet ≡ Some rule
    → answer bytes ≡ Err (Protocol rule)
protocol_if bytes packet rule s e = answer_of bytes packet s ∙ ap (by_rule packet) e

pub version_means : (bytes : List ℕ) → answer bytes ≡ Err Version → is_other_version bytes ≡ true
version_means bytes e = version_parts (is_other_version bytes) (packet_in bytes) e

pub version_if : (bytes : List ℕ) → is_other_version bytes ≡ true → answer bytes ≡ Err Version
version_if bytes e = ap (λ (b : Bool). answered b (packet_in bytes)) e
