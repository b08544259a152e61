-- What is printed.
use Rattle.std.specs.Prelude.{ℕ, List, [], ◌∷◌, ◌++◌, codes}
use Rattle.std.specs.List.{flat_map}
use Rattle.std.specs.Fmt.{decimal}
use Rattle.hex.specs.Hex.{encode_upper}
use Rattle.first_mqtt_packet.specs.Written.{written}
use Rattle.first_world_terms.specs.Move.{Out, Sent, Closed}

-- a line for each packet, and for each close by the server
abbrev pub text_of_out : Out → List ℕ
text_of_out (Sent c packet) = decimal c ++ (codes "< " ++ encode_upper (written packet)) ++ 10 ∷ []
text_of_out (Closed c) = decimal c ++ codes " closed" ++ 10 ∷ []

abbrev pub text_of_outs : List Out → List ℕ
text_of_outs outs = flat_map text_of_out outs
