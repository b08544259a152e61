-- What the calls give that write a part of a packet.
use Rattle.std.specs.Prelude.{ℕ, ◌≤◌, ◌≡◌, List, ◌++◌, length, Result, Ok, Err}
use Rattle.mqtt_props.specs.Props.{spelled_bare}
use Rattle.mqtt_packet.specs.Packet.{PlainPacket}
use Rattle.mqtt_packet.specs.Fits.{IfThere}
use Rattle.mqtt_packet.specs.Rules.{Held, own_list, will_list}

-- some bytes that begin with others
unfoldable pub Begins : List ℕ → List ℕ → Type 0
Begins old new = (more : List ℕ) × (new ≡ old ++ more)

-- what a call did to the bytes that are there: these were put behind them, or, where memory ran out, a part of these
abbrev pub Puts : {E : Type 0} → Result Unit E → List ℕ → List ℕ → List ℕ → Type 0
Puts (Ok done) old new part = new ≡ old ++ part
Puts (Err e) old new part = Begins old new

-- a text or binary data whose length can be told in two bytes (MQTT 1.5.4, 1.5.6)
abbrev pub IsShort : List ℕ → Type 0
IsShort bytes = length bytes ≤ 65535

-- properties whose length can be told (MQTT 2.2.2.1)
abbrev pub IsTold : Held → Type 0
IsTold h = length (spelled_bare h.list) ≤ 268435455

-- each list of a packet has such a length
abbrev pub AreTold : PlainPacket → Type 0
AreTold packet = IfThere IsTold (own_list packet) × IfThere IsTold (will_list packet)
