-- Laws of the parts of a packet that its readers cite.
use Rattle.std.proofs.Common.{◌≡◌, ℕ, ◌<◌, List, [], ◌∷◌, length, drop, None, Err, refl, ap, arith}
use Rattle.std.proofs.lemmas.List.{length-drop}
use Rattle.wire_fields.specs.declared.cut.Cut.{Cut}
use Rattle.wire_fields.specs.Reading.{u8_at}
use Rattle.mqtt_props.specs.declared.table.Holder.{Holder}
use Rattle.mqtt_packet.specs.Reading.{at_end, reason_if_there, props_at, props_if_there}
use Rattle.mqtt_packet.specs.declared.refused.ReadRefused.{ReadRefused}
use Rattle.mqtt_packet.specs.declared.refused.ReadRefused.TheVariants.{Version, Malformed, Protocol, Memory}
use Rattle.mqtt_packet.specs.Taking.{IsMore, IsNone}

pub more_left : (bytes : List ℕ) (at : ℕ) → at < length bytes → IsMore (drop at bytes)
more_left bytes at more none = omega (arith, more, ap length none, length-drop at bytes)

pub not_at_end : {A : Type 0} (x : A) (bytes : List ℕ) → IsMore bytes → at_end x bytes ≡ None
not_at_end x [] more = absurd (more refl)
not_at_end x (b ∷ bytes) more = refl

-- a reason that isn't there
pub no_reason : (bytes : List ℕ) (e : Cut) → u8_at bytes ≡ Err e → (0, bytes) ≡ reason_if_there bytes
no_reason [] e is = refl
no_reason (b ∷ bytes) e is = absurd cc

pub props_where_more : (holder : Holder) (bytes : List ℕ) → IsMore bytes → props_if_there holder bytes ≡ props_at holder bytes
props_where_more holder [] more = absurd (more refl)
props_where_more holder (b ∷ bytes) more = refl

pub none_map : (e : ReadRefused) (P Q : Type 0) → (P → Q) → IsNone e P → IsNone e Q
none_map Malformed P Q f h = f h
none_map Memory P Q f h = tt
none_map Version P Q f h = absurd h
none_map (Protocol rule) P Q f h = absurd h
