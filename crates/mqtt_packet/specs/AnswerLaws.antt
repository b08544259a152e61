-- The answer, step by step.
use Rattle.std.proofs.Common.{◌≡◌, ℕ, Bool, true, false, cond, List, Option, Some, None, Result, Err, ap, ◌∙◌}
use Rattle.std.specs.Prelude.{◌/◌, ◌%◌}
use Rattle.mqtt_packet.specs.declared.refused.ReadRefused.{ReadRefused}
use Rattle.mqtt_packet.specs.declared.refused.ReadRefused.TheVariants.{Version, Malformed, Protocol, Memory}
use Rattle.mqtt_packet.specs.Packet.{PlainPacket}
use Rattle.mqtt_packet.specs.Reading.{◌>>=◌, framed_in, kind_in, packet_in}
use Rattle.mqtt_packet.specs.Rules.{broken_rule}
use Rattle.mqtt_packet.specs.Taking.{IsNone}
use Rattle.mqtt_packet.specs.Answer.{answer, by_rule, judged, is_other, is_other_version, protocol_in, UnlessMemory}

-- of bytes that are no first byte and body
pub no_frame : (bytes : List ℕ) → framed_in bytes ≡ None → answer bytes ≡ Err Malformed
unfolding packet_in is_other_version
no_frame bytes none =
    ap (λ (f : Option (ℕ × List ℕ)). cond {A = Result PlainPacket ReadRefused} (is_other (f >>= protocol_in)) (Err Version) (judged (f >>= λ framed. kind_in (framed.0 / 16) (framed.0 % 16) framed.1))) none

-- by the first byte and the body
abbrev pub answer_to : ℕ × List ℕ → Result PlainPacket ReadRefused
answer_to framed = cond {A = Result PlainPacket ReadRefused} (is_other (protocol_in framed)) (Err Version) (judged (kind_in (framed.0 / 16) (framed.0 % 16) framed.1))

pub of_frame : (bytes : List ℕ) (framed : ℕ × List ℕ) → framed_in bytes ≡ Some framed → answer bytes ≡ answer_to framed
unfolding packet_in is_other_version
of_frame bytes framed is =
    ap (λ (f : Option (ℕ × List ℕ)). cond {A = Result PlainPacket ReadRefused} (is_other (f >>= protocol_in)) (Err Version) (judged (f >>= λ g. kind_in (g.0 / 16) (g.0 % 16) g.1))) is

pub another_version : (bytes : List ℕ) (framed : ℕ × List ℕ) → framed_in bytes ≡ Some framed → is_other (protocol_in framed) ≡ true → answer bytes ≡ Err Version
another_version bytes framed is other =
    of_frame bytes framed is
    ∙ ap (λ (b : Bool). cond {A = Result PlainPacket ReadRefused} b (Err Version) (judged (kind_in (framed.0 / 16) (framed.0 % 16) framed.1))) other

pub of_kind : (bytes : List ℕ) (framed : ℕ × List ℕ) (found : Option PlainPacket) → framed_in bytes ≡ Some framed → is_other (protocol_in framed) ≡ false
    → kind_in (framed.0 / 16) (framed.0 % 16) framed.1 ≡ found → answer bytes ≡ judged found
of_kind bytes framed found is same kind =
    of_frame bytes framed is
    ∙ ap (λ (b : Bool). cond {A = Result PlainPacket ReadRefused} b (Err Version) (judged (kind_in (framed.0 / 16) (framed.0 % 16) framed.1))) same
    ∙ ap judged kind

-- a kind that isn't read
pub of_no_kind : (bytes : List ℕ) (framed : ℕ × List ℕ) (e : ReadRefused) → framed_in bytes ≡ Some framed → is_other (protocol_in framed) ≡ false
    → IsNone e (kind_in (framed.0 / 16) (framed.0 % 16) framed.1 ≡ None) → UnlessMemory e (answer bytes ≡ Err e)
of_no_kind bytes framed Malformed is same kind = of_kind bytes framed None is same kind
of_no_kind bytes framed Memory is same kind = tt
of_no_kind bytes framed Version is same kind = absurd kind
of_no_kind bytes framed (Protocol rule) is same kind = absurd kind

-- the packet of a kind, and the rule that it breaks, if it breaks one
pub of_packet : (bytes : List ℕ) (framed : ℕ × List ℕ) (packet : PlainPacket) (rule : Option ℕ) → framed_in bytes ≡ Some framed → is_other (protocol_in framed) ≡ false
    → kind_in (framed.0 / 16) (framed.0 % 16) framed.1 ≡ Some packet → broken_rule packet ≡ rule → answer bytes ≡ by_rule packet rule
of_packet bytes framed packet rule is same kind breaks = of_kind bytes framed (Some packet) is same kind ∙ ap (by_rule packet) breaks
