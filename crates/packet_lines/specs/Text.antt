-- What is printed for a line.
use Rattle.std.specs.Prelude.{ℕ, List, [], ◌∷◌, ◌++◌, codes, Option, Some, None, Result, Ok, Err}
use Rattle.std.specs.List.{flat_map}
use Rattle.std.specs.Fmt.{decimal}
use Rattle.hex.specs.Hex.{encode_lower}
use Rattle.mqtt_frame.specs.declared.refused.BadHeader.{BadHeader}
use Rattle.mqtt_frame.specs.declared.refused.BadHeader.TheVariants.{Length, Size}
use Rattle.mqtt_frame.specs.Framing.{Framed, framed}
use Rattle.mqtt_frame.specs.PlainFramer.{joined}
use Rattle.mqtt_props.specs.declared.prop.Prop.{Prop}
use Rattle.mqtt_props.specs.declared.refused.PropRefused.{PropRefused}
use Rattle.mqtt_props.specs.declared.refused.PropRefused.TheVariants.{Unknown, Misplaced, Spelling, Repeated, BadValue, Memory}
use Rattle.mqtt_props.specs.Props.{whole_props, spelled_props}
use Rattle.mqtt_packet.specs.declared.refused.ReadRefused.{ReadRefused}
use Rattle.mqtt_packet.specs.declared.refused.ReadRefused.TheVariants as refused
use Rattle.mqtt_packet.specs.Packet.{PlainPacket}
use Rattle.mqtt_packet.specs.Spelling.{written}
use Rattle.mqtt_packet.specs.Answer.{answer}
use Rattle.packet_lines.specs.Lines.{lines}
use Rattle.packet_lines.specs.Command.{Command, Read, Feed, Props, command_of}

-- two digits of lower case for each byte, and `-` where there is none
abbrev pub digits_of : List ℕ → List ℕ
digits_of [] = codes "-"
digits_of (b ∷ bytes) = encode_lower (b ∷ bytes)

-- a packet, and the blank behind it
abbrev pub text_of_packet : List ℕ → List ℕ
text_of_packet packet = digits_of packet ++ 32 ∷ []

-- how the stream stands behind its packets: not refused, or refused at a bad header (MQTT 2.1.4, 3.1.2.11.4)
abbrev pub text_of_end : Option BadHeader → List ℕ
text_of_end None = codes "rest"
text_of_end (Some Size) = codes "too large"
text_of_end (Some Length) = codes "bad length"

-- the whole packets, and how the stream stands behind them
abbrev pub text_of_framed : Framed → List ℕ
text_of_framed cut = flat_map text_of_packet cut.packets ++ text_of_end cut.bad

-- why properties were not read; want of memory is no such answer
abbrev pub text_of_refusal : PropRefused → List ℕ
text_of_refusal Unknown = codes "unknown"
text_of_refusal Misplaced = codes "misplaced"
text_of_refusal Spelling = codes "spelling"
text_of_refusal Repeated = codes "repeated"
text_of_refusal BadValue = codes "bad value"
text_of_refusal Memory = []

-- the properties written again, or why they were not read
abbrev pub text_of_props : Result (List Prop) PropRefused → List ℕ
text_of_props (Ok ps) = codes "ok " ++ digits_of (spelled_props ps)
text_of_props (Err e) = text_of_refusal e

-- the packet written again, or why the bytes are none; want of memory is no such answer
abbrev pub text_of_answer : Result PlainPacket ReadRefused → List ℕ
text_of_answer (Ok packet) = codes "ok " ++ digits_of (written packet)
text_of_answer (Err refused.Version) = codes "version"
text_of_answer (Err refused.Malformed) = codes "malformed"
text_of_answer (Err (refused.Protocol rule)) = codes "protocol " ++ decimal rule
text_of_answer (Err refused.Memory) = []

-- a framer is fed with pieces, and where they are cut makes no difference
abbrev pub text_of_command : Option Command → List ℕ
text_of_command None = codes "not a line"
text_of_command (Some (Read bytes)) = text_of_answer (answer bytes)
text_of_command (Some (Feed limit pieces)) = text_of_framed (framed limit (joined pieces))
text_of_command (Some (Props holder bytes)) = text_of_props (whole_props holder bytes)

-- what a line prints, with its line feed
abbrev pub text_of_line : List ℕ → List ℕ
text_of_line line = text_of_command (command_of line) ++ 10 ∷ []

-- what all lines print, in order
abbrev pub text_of_input : List ℕ → List ℕ
text_of_input input = flat_map text_of_line (lines input)
