-- What the body of a message is, wherever it lies.
use Rattle.std.specs.Prelude.{◌≡◌, ℕ, List, length, Option, Some, None}
use Rattle.topic_name.specs.declared.body.Body.{Body}
use Rattle.topic_name.specs.declared.body.Body.TheVariants.{Here, Cold}
use Rattle.topic_name.specs.KeptMessage.{ColdPlace}

-- the payload that was stored; of a cold body that is what its snapshot remembers
abbrev pub payload_of : Body → List ℕ
payload_of (Here bytes) = bytes
payload_of (Cold slot at len was) = was.value

abbrev pub place_of : Body → Option ColdPlace
place_of (Here bytes) = None
place_of (Cold slot at len was) = Some (record { slot = slot; at = at; len = len })

-- a cold body has as many bytes as were stored
abbrev pub HasItsLength : Body → Type 0
HasItsLength (Here bytes) = Unit {0}
HasItsLength (Cold slot at len was) = length was.value ≡ len
