-- What callers see of a framer: its limit, the bytes of the packet that has begun, and the bad header at which the stream
-- ended.
use Rattle.std.specs.Prelude.{ℕ, ◌≡◌, List, [], ◌∷◌, ◌++◌, Option, Some, None, Result, Ok, Err}
use Rattle.mqtt_frame.specs.declared.refused.BadHeader.{BadHeader}
use Rattle.mqtt_frame.specs.declared.refused.BadHeader.TheVariants.{Length, Size}
use Rattle.mqtt_frame.specs.declared.refused.FrameRefused.{FrameRefused}
use Rattle.mqtt_frame.specs.declared.refused.FrameRefused.TheVariants.{TooLarge, BadLength, Memory}
use Rattle.mqtt_frame.specs.Framing.{Framed, framed}

pub record PlainFramer : Type 0 where
  pub limit : ℕ
  pub kept : List ℕ
  pub bad : Option BadHeader

-- to which nothing has come
abbrev pub opening : ℕ → PlainFramer
opening limit = record { limit = limit; kept = []; bad = None }

-- the rest is kept for the next piece, and none once the stream has ended
abbrev pub kept_of : Option BadHeader → List ℕ → List ℕ
kept_of None rest = rest
kept_of (Some header) rest = []

-- the packets that a piece, or several, made whole, and the framer behind it
pub record Fed : Type 0 where
  pub packets : List (List ℕ)
  pub framer : PlainFramer

-- by what the bytes so far are cut into
abbrev pub fed_by : ℕ → Framed → Fed
fed_by limit cut = record { packets = cut.packets; framer = record { limit = limit; kept = kept_of cut.bad cut.rest; bad = cut.bad } }

-- a stream that has ended at a bad header has no more packets
abbrev pub framed_unless : Option BadHeader → ℕ → List ℕ → Framed
framed_unless None limit stream = framed limit stream
framed_unless (Some header) limit stream = record { packets = []; rest = stream; bad = Some header }

-- one more piece
abbrev pub fed : PlainFramer → List ℕ → Fed
fed framer piece = fed_by framer.limit (framed_unless framer.bad framer.limit (framer.kept ++ piece))

-- packets that were given before
abbrev pub given_first : List (List ℕ) → Fed → Fed
given_first packets later = record { packets = packets ++ later.packets; framer = later.framer }

-- pieces, one by one
abbrev pub fed_all : PlainFramer → List (List ℕ) → Fed
fed_all framer [] = record { packets = []; framer = framer }
fed_all framer (piece ∷ pieces) = given_first (fed framer piece).packets (fed_all (fed framer piece).framer pieces)

-- all pieces as one
abbrev pub joined : List (List ℕ) → List ℕ
joined [] = []
joined (piece ∷ pieces) = piece ++ joined pieces

-- What a piece is answered, by the bad header at which the stream has ended behind it: none is Ok. Want of memory comes
-- with any.
abbrev pub IsAnswer : Result Unit FrameRefused → Option BadHeader → Type 0
IsAnswer (Ok done) bad = bad ≡ None
IsAnswer (Err TooLarge) bad = bad ≡ Some Size
IsAnswer (Err BadLength) bad = bad ≡ Some Length
IsAnswer (Err Memory) bad = Unit {0}
