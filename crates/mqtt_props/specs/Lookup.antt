-- Looking a property up, and the properties of a message that go on to subscribers.
use Rattle.std.specs.Prelude.{ℕ, Bool, ◌||◌, ◌==◌, List, [], ◌∷◌, Option, Some, None, if◌then◌else◌, codes, ◌≡◌, refl}
use Rattle.std.specs.List.{filter}
use Rattle.mqtt_props.specs.declared.prop.Prop.{Prop}
use Rattle.mqtt_props.specs.declared.prop.Prop.TheVariants.{Byte, Two, Four, Var, Text, Bin, Pair}
use Rattle.mqtt_props.specs.Prop.{id_of}

abbrev pub or_else : {A : Type 0} → Option A → Option A → Option A
or_else (Some x) other = Some x
or_else None other = other

-- what the first property gives that gives something
abbrev pub first_of : {A : Type 0} → (Prop → Option A) → List Prop → Option A
first_of value [] = None
first_of value (p ∷ ps) = or_else (value p) (first_of value ps)

-- the value of a property of this identifier, by its type
abbrev pub byte_in : ℕ → Prop → Option ℕ
byte_in id (Byte i value) = if i == id then Some value else None
byte_in id (Two i value) = None
byte_in id (Four i value) = None
byte_in id (Var value) = None
byte_in id (Text i text) = None
byte_in id (Bin i bytes) = None
byte_in id (Pair name value) = None

abbrev pub two_in : ℕ → Prop → Option ℕ
two_in id (Byte i value) = None
two_in id (Two i value) = if i == id then Some value else None
two_in id (Four i value) = None
two_in id (Var value) = None
two_in id (Text i text) = None
two_in id (Bin i bytes) = None
two_in id (Pair name value) = None

abbrev pub four_in : ℕ → Prop → Option ℕ
four_in id (Byte i value) = None
four_in id (Two i value) = None
four_in id (Four i value) = if i == id then Some value else None
four_in id (Var value) = None
four_in id (Text i text) = None
four_in id (Bin i bytes) = None
four_in id (Pair name value) = None

abbrev pub var_in : Prop → Option ℕ
var_in (Byte i value) = None
var_in (Two i value) = None
var_in (Four i value) = None
var_in (Var value) = Some value
var_in (Text i text) = None
var_in (Bin i bytes) = None
var_in (Pair name value) = None

abbrev pub text_in : ℕ → Prop → Option (List ℕ)
text_in id (Byte i value) = None
text_in id (Two i value) = None
text_in id (Four i value) = None
text_in id (Var value) = None
text_in id (Text i text) = if i == id then Some text else None
text_in id (Bin i bytes) = None
text_in id (Pair name value) = None

abbrev pub bin_in : ℕ → Prop → Option (List ℕ)
bin_in id (Byte i value) = None
bin_in id (Two i value) = None
bin_in id (Four i value) = None
bin_in id (Var value) = None
bin_in id (Text i text) = None
bin_in id (Bin i bytes) = if i == id then Some bytes else None
bin_in id (Pair name value) = None

abbrev pub or_default : Option ℕ → ℕ → ℕ
or_default (Some n) default = n
or_default None default = default

-- the identifiers of what a server sends on unaltered (MQTT 3.3.2.3.2, 3.3.2.3.5 to 3.3.2.3.7, 3.3.2.3.9)
abbrev pub goes_on : ℕ → Bool
goes_on id = (id == 0x01) || ((id == 0x03) || ((id == 0x08) || ((id == 0x09) || (id == 0x26))))

abbrev pub forwarded : List Prop → List Prop
forwarded ps = filter (λ p. goes_on (id_of p)) ps

-- examples
receive_maximum : first_of (two_in 0x21) (Four 0x11 60 ∷ Two 0x21 7 ∷ []) ≡ Some 7
receive_maximum = refl

no_receive_maximum : or_default (first_of (two_in 0x21) (Four 0x11 60 ∷ Two 0x22 7 ∷ [])) 65535 ≡ 65535
no_receive_maximum = refl

alias_stays_behind : forwarded (Text 0x03 (codes "a") ∷ Two 0x23 7 ∷ Pair (codes "a") (codes "b") ∷ []) ≡ Text 0x03 (codes "a") ∷ Pair (codes "a") (codes "b") ∷ []
alias_stays_behind = refl
