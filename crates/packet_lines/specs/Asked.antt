-- The command that a value of the code stands for.
use Rattle.std.specs.Prelude.{map}
use Rattle.packet_lines.specs.declared.command.Asked.{Asked}
use Rattle.packet_lines.specs.declared.command.Asked.TheVariants as asked
use Rattle.packet_lines.specs.Command.{Command, Read, Feed, Props}

-- the same, with the bytes of a vector as a list
abbrev pub plain : Asked → Command
plain (asked.Read bytes) = Read bytes.items
plain (asked.Feed limit pieces) = Feed limit (map (λ p. p.items) pieces.items)
plain (asked.Props holder bytes) = Props holder bytes.items
