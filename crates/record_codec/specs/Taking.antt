-- What the calls may rest on that read or write a part: numbers of any width, and texts and bytes whose length can be told.
use Rattle.std.specs.Prelude.{ℕ, ◌-◌, ◌^◌, ◌<◌, ◌≡◌, List, length, Option, Some, None}
use Rattle.wire_fields.specs.Spelled.{spelled_u8, spelled_u16, spelled_u32, spelled_u64}
use Rattle.topic_model.specs.Levels.{text_of_levels}
use Rattle.topic_name.specs.KeptMessage.{KeptMessage}
use Rattle.shard_model.specs.ShardList.{Awaited}
use Rattle.session_codec.specs.Taking.{IsShort}
use Rattle.record_codec.specs.declared.numbers.Number.{Number}
use Rattle.record_codec.specs.declared.numbers.Number.TheVariants.{One, Two, Four, Eight}
use Rattle.record_codec.specs.declared.group.Op.{Op}
use Rattle.record_codec.specs.declared.group.Op.TheVariants.{Store, Release, Forget}

-- a number of one, two, four or eight bytes
abbrev pub spelled_number : Number → List ℕ
spelled_number (One n) = spelled_u8 n
spelled_number (Two n) = spelled_u16 n
spelled_number (Four n) = spelled_u32 n
spelled_number (Eight n) = spelled_u64 n

-- bytes whose length can be told in four bytes
abbrev pub HasLength : List ℕ → Type 0
HasLength bytes = length bytes < 2 ^ 32

-- the texts and the bytes of a message have lengths that can be told, and its body is in memory
pub record IsTold (m : KeptMessage) : Type 0 where
  pub publisher : IsShort m.stored.publisher
  pub topic : IsShort (text_of_levels m.stored.topic)
  pub props : HasLength m.stored.props
  pub payload : HasLength m.stored.payload
  pub here : m.place ≡ None

abbrev pub IsToldOp : Op → Type 0
IsToldOp (Store m) = IsTold m
IsToldOp (Release publisher incarnation id) = IsShort publisher
IsToldOp (Forget publisher incarnation) = IsShort publisher

abbrev pub HasShortPublisher : Awaited → Type 0
HasShortPublisher a = IsShort a.publisher

-- the number that stands for a moment: the greatest one where there is none
abbrev pub number_of : Option ℕ → ℕ
number_of None = 2 ^ 64 - 1
number_of (Some moment) = moment
