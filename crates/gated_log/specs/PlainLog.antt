-- What callers see of a log, and what its disk holds then.
use Rattle.std.specs.Prelude.{ℕ, ◌≡◌, ◌+◌, ◌-◌, ◌<◌, ◌≤◌, ◌^◌, Bool, true, false, IsTrue, List, [], ◌∷◌, ◌++◌, map, length, take, drop, All}
use Rattle.gated_log.specs.declared.span.Span.{Span}
use Rattle.gated_log.specs.Records.{records}
use Rattle.gated_log.specs.Stands.{IsBeforeOrAfter, IsInDoubt, IsStanding}

-- at rest; in doubt whether this payload is one more record; or lost, after a restart that failed
pub data Standing : Type 0 where
  AtRest : Standing
  InDoubt : List ℕ → Standing
  Lost : Standing

-- The records are told where the disk tells its bytes. The end is the place of the closing gate.
pub record PlainLog (D : Type 0) : Type 0 where
  pub disk : D
  pub limit : ℕ
  pub payloads : List (List ℕ)
  pub end : ℕ
  pub spare : ℕ
  pub standing : Standing

-- the list that an image has: that of the log, in doubt perhaps with the one more record
abbrev pub HasList : Standing → List (List ℕ) → List ℕ → Type 0
HasList AtRest payloads image = records image ≡ payloads
HasList (InDoubt payload) payloads image = IsBeforeOrAfter payloads payload image
HasList Lost payloads image = Unit {0}

-- the payloads that lie at these places
abbrev pub payload_at : List ℕ → Span → List ℕ
payload_at bytes span = take span.length (drop span.at bytes)

abbrev pub payloads_at : List ℕ → List Span → List (List ℕ)
payloads_at bytes spans = map (payload_at bytes) spans

-- where payloads lie whose first gate is at this place
abbrev pub spans_from : ℕ → List (List ℕ) → List Span
spans_from place [] = []
spans_from place (payload ∷ payloads) =
    record { at = place + 5; length = length payload } ∷ spans_from (place + (5 + length payload)) payloads

-- where records end of which the first gate is at place 0
abbrev pub end_of : List (List ℕ) → ℕ
end_of [] = 0
end_of (payload ∷ payloads) = (5 + length payload) + end_of payloads

-- what the disk holds, where it tells
abbrev pub HoldsList : Standing → List (List ℕ) → ℕ → List ℕ → (List ℕ → Type 0) → Type 0
HoldsList AtRest payloads end seen images = (records seen ≡ payloads) × IsStanding end seen images
HoldsList (InDoubt payload) payloads end seen images = IsInDoubt payloads payload end seen images
HoldsList Lost payloads end seen images = Unit {0}

-- the gate at the end is there, of a lost log the first one
abbrev pub IsInside : Standing → ℕ → ℕ → Type 0
IsInside Lost end size = 0 < size
IsInside standing end size = end < size

-- what is in doubt fits, and there is room for it
pub record IsReady (payload : List ℕ) (spare end : ℕ) : Type 0 where
  pub room : 0 < spare
  pub some : 0 < length payload
  pub short : length payload ≤ 1342177280
  pub fits : end + (6 + length payload) ≤ 2 ^ 64 - 1

abbrev pub IsReadyFor : Standing → ℕ → ℕ → Type 0
IsReadyFor (InDoubt payload) spare end = IsReady payload spare end
IsReadyFor standing spare end = Unit {0}

pub record IsLog (tells : Bool) (size : ℕ) (seen : List ℕ) (images : List ℕ → Type 0) (spans : List Span) (spare end : ℕ) (standing : Standing) : Type 0 where
  pub within : All (λ (span : Span). span.at + span.length ≤ end) spans
  pub inside : IsInside standing end size
  pub ready : IsReadyFor standing spare end
  pub places : IsTrue tells → spans ≡ spans_from 0 (payloads_at seen spans)
  pub told : IsTrue tells → HoldsList standing (payloads_at seen spans) end seen images

-- it stands so, with these records
pub record IsTold (standing : Standing) (spans : List Span) (end : ℕ) (bytes : List ℕ) (images : List ℕ → Type 0) (payloads : List (List ℕ)) : Type 0 where
  pub list : payloads_at bytes spans ≡ payloads
  pub places : spans ≡ spans_from 0 (payloads_at bytes spans)
  pub told : HoldsList standing (payloads_at bytes spans) end bytes images

-- whether something is in doubt, and whether the log can only be restarted
abbrev pub is_in_doubt : Standing → Bool
is_in_doubt (InDoubt payload) = true
is_in_doubt standing = false

abbrev pub is_lost : Standing → Bool
is_lost Lost = true
is_lost standing = false

-- the records with what was in doubt
abbrev pub with_doubted : Standing → List (List ℕ) → List (List ℕ)
with_doubted (InDoubt payload) payloads = payloads ++ payload ∷ []
with_doubted standing payloads = payloads

abbrev pub doubted_length : Standing → ℕ
doubted_length (InDoubt payload) = length payload
doubted_length standing = 0

-- what a crash may leave has the list
abbrev pub AllHave : Standing → List (List ℕ) → (List ℕ → Type 0) → Type 0
AllHave standing payloads images = (image : List ℕ) → images image → HasList standing payloads image
