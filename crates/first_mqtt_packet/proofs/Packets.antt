-- The two laws: what is read is spelled so, and what is spelled so is read.
use Rattle.std.proofs.Common.{◌≡◌, ℕ, suc, ◌≤◌, Bool, true, false, cond, eqb, List, [], ◌∷◌, ◌++◌, length, Option, Some, None, Result, Ok, Err, refl, sym, ap, subst, ◌∙◌, arith, inl, inr, ◌⊎◌}
use Rattle.std.specs.Prelude.{IfOk}
use Rattle.std.specs.Option.{option_and_then}
use Rattle.std.proofs.lemmas.Bool.{eqb-true}
use Rattle.std.proofs.lemmas.List.{length-append}
use Rattle.std.proofs.lemmas.Option.{option_and_then_some}
use Rattle.first_mqtt_packet.specs.declared.props.Prop.TheVariants.{Four}
use Rattle.first_mqtt_packet.specs.declared.packet.Packet.{Packet}
use Rattle.first_mqtt_packet.specs.declared.packet.Packet.TheVariants.{Connect, Publish, Subscribe}
use Rattle.first_mqtt_packet.specs.declared.refused.ReadRefused.{ReadRefused}
use Rattle.first_mqtt_packet.specs.Written.{written, framed, var_bytes}
use Rattle.first_mqtt_packet.specs.Reading.{packet_of, packet_in, connect_in, subscribe_in, publish_in, body_after, Gives}
use Rattle.first_mqtt_packet.specs.Spells.{IsBuilt, connects, subscribes, publishes, Spells}
use Rattle.first_mqtt_packet.proofs.Fields.{IsBytes}
use Rattle.first_mqtt_packet.proofs.Frames.{length-var_bytes, body_found, body_fits, body_again, body_below}
use Rattle.first_mqtt_packet.proofs.Connects.{connect_body, connect_written, connect_found, connect_again}
use Rattle.first_mqtt_packet.proofs.Subscribes.{subscribe_body, subscribe_written, subscribe_found, subscribe_again, wished}
use Rattle.first_mqtt_packet.proofs.Publishes.{publish_body, publish_written, publish_found, publish_again}

chosen : {A : Type 0} (b : Bool) (x y z : A) → cond b x y ≡ z → ((b ≡ true) × (x ≡ z)) ⊎ ((b ≡ false) × (y ≡ z))
chosen true x y z e = inl (refl, e)
chosen false x y z e = inr (refl, e)

nothing : {A : Type 0} (b : Bool) (x : Option A) (y : A) → cond b x None ≡ Some y → (b ≡ true) × (x ≡ Some y)
nothing true x y e = (refl, e)
nothing false x y e = absurd cc

packet_found : (first : ℕ) (body : List ℕ) (p : Packet) → IsBytes body → packet_in first body ≡ Some p → IsBuilt p × (framed first body ≡ written p)
packet_found first body p fits e =
    let goes : (kind : ℕ) → eqb first kind ≡ true → IsBuilt p × (framed kind body ≡ written p) → IsBuilt p × (framed first body ≡ written p) =
    λ kind is found. subst (λ (f : ℕ). IsBuilt p × (framed f body ≡ written p)) (sym (eqb-true first kind is)) found in
    elim (chosen (eqb first 16) (connect_in body) (cond (eqb first 130) (subscribe_in body) (cond (eqb first 50) (publish_in body) None)) (Some p) e) [
      | inl h ↦ goes 16 h.0 (connect_found body p fits h.1)
      | inr h ↦ elim (chosen (eqb first 130) (subscribe_in body) (cond (eqb first 50) (publish_in body) None) (Some p) h.1) [
        | inl k ↦ goes 130 k.0 (subscribe_found body p fits k.1)
        | inr k ↦
            let last = nothing (eqb first 50) (publish_in body) p k.1 in
            goes 50 last.0 (publish_found body p fits last.1)
      ]
    ]

-- what is read is spelled so
pub read_is_spelled : (bytes : List ℕ) (p : Packet) → IsBytes bytes → packet_of bytes ≡ Some p → Spells bytes p
read_is_spelled [] p fits e = absurd cc
read_is_spelled (first ∷ rest) p fits e =
    option_and_then_some (packet_in first) (body_after rest) p e (λ body at is.
    let frame = body_found rest body at in
    let found = packet_found first body p (body_fits rest body (λ i. fits (suc i)) at) is in
    let short : length (first ∷ rest) ≤ 268435460 = omega (arith, frame.1, ap length frame.0, length-append (var_bytes (length body)) body, length-var_bytes (length body)) in
    (found.0, ap (λ (t : List ℕ). first ∷ t) frame.0 ∙ found.1, short))

-- a packet is read where its body is
frame_again : (first : ℕ) (body : List ℕ) (p : Packet) → packet_in first body ≡ Some p → length (framed first body) ≤ 268435460 → packet_of (framed first body) ≡ Some p
frame_again first body p e le =
    let less : length (var_bytes (length body) ++ body) ≤ 268435459 = omega (arith, le) in
    ap (option_and_then (packet_in first)) (body_again body (body_below body less)) ∙ e

by_frame : (first : ℕ) (body : List ℕ) (p : Packet) → written p ≡ framed first body → packet_in first body ≡ Some p → length (written p) ≤ 268435460 → packet_of (written p) ≡ Some p
by_frame first body p e is le =
    let less : length (framed first body) ≤ 268435460 = subst (λ (t : List ℕ). length t ≤ 268435460) e le in
    ap packet_of e ∙ frame_again first body p is less

pub built_again : (p : Packet) → IsBuilt p → length (written p) ≤ 268435460 → packet_of (written p) ≡ Some p
built_again _ (connects {keep_alive} {expiry} {client} alive some limit plain) le =
    by_frame 16 (connect_body keep_alive expiry client) (Connect false keep_alive (Four 17 expiry ∷ []) client None None None) (connect_written keep_alive expiry client) (connect_again keep_alive expiry client alive some limit plain) le
built_again _ (subscribes {id} {filter} some limit plain) le =
    by_frame 130 (subscribe_body id filter) (Subscribe id [] (wished filter ∷ [])) (subscribe_written id filter) (subscribe_again id filter some limit plain) le
built_again _ (publishes {id} {topic} {payload} some limit plain) le =
    by_frame 50 (publish_body topic id payload) (Publish false 1 false topic id [] payload) (publish_written topic id payload) (publish_again topic id payload some limit plain) le

-- what is spelled so is read
pub spelled_is_read : (bytes : List ℕ) (p : Packet) → Spells bytes p → packet_of bytes ≡ Some p
spelled_is_read bytes p spells =
    let less : length (written p) ≤ 268435460 = subst (λ (t : List ℕ). length t ≤ 268435460) spells.1 spells.2 in
    ap packet_of spells.1 ∙ built_again p spells.0 less

pub is_found : (bytes : List ℕ) (r : Result Packet ReadRefused) → IsBytes bytes → Gives r (packet_of bytes) → IfOk r (λ p. Spells bytes p)
is_found bytes (Ok p) fits given = read_is_spelled bytes p fits given
is_found bytes (Err e) fits given = tt
