-- Computed examples of an index.
use Rattle.std.specs.Prelude.{ℕ, ◌≡◌, ◌-◌, ◌^◌, List, [], ◌∷◌, map, codes, Some, None, refl}
use Rattle.topic_name.specs.declared.descriptor.Descriptor.{Descriptor}
use Rattle.topic_name.specs.KeptMessage.{KeptMessage}
use Rattle.shard_model.specs.ShardList.{Awaited, floor_of}
use Rattle.shard_model.specs.Examples.{said}
use Rattle.shard_index.specs.declared.op.IndexOp.TheVariants.{Add, Release, Forget, Rotate, Drop}
use Rattle.shard_index.specs.KeptIndex.{KeptIndex, kept_at, list_of}
use Rattle.shard_index.specs.Absorbing.{kept_after_all}

-- a generation of two messages, in a slot
abbrev cut : ℕ → ℕ → ℕ → Descriptor
cut number slot first = record { number = number; slot = slot; first = first; top = 100; below = 10; messages = 2; sealed = None }

abbrev empty : KeptIndex
empty = record { cuts = cut 0 3 0 ∷ []; messages = []; awaited = [] }

abbrev message : ℕ → ℕ → ℕ → KeptMessage
message offset qos id = record { stored = record (said qos id (codes "t")) { offset = offset }; place = None }

abbrev triple : ℕ → Awaited
triple id = record { publisher = codes "p"; incarnation = 1; id = id }

abbrev offsets : KeptIndex → List ℕ
offsets index = map (λ (m : KeptMessage). m.stored.offset) index.messages

-- ---- messages

two_added : offsets (kept_after_all (Add (message 0 0 0) ∷ Add (message 1 1 0) ∷ []) empty) ≡ 0 ∷ 1 ∷ []
two_added = refl

-- one that hasn't the next offset isn't added, nor a third one
another_offset : kept_after_all (Add (message 1 0 0) ∷ []) empty ≡ empty
another_offset = refl

no_third : offsets (kept_after_all (Add (message 0 0 0) ∷ Add (message 1 1 0) ∷ Add (message 2 1 0) ∷ []) empty) ≡ 0 ∷ 1 ∷ []
no_third = refl

-- nor one at the greatest offset
abbrev at_the_end : KeptIndex
at_the_end = record empty { cuts = cut 0 3 (2 ^ 64 - 1) ∷ [] }

no_greatest : kept_after_all (Add (message (2 ^ 64 - 1) 0 0) ∷ []) at_the_end ≡ at_the_end
no_greatest = refl

-- ---- what is awaited

-- a repeated message of QoS 2 isn't added, and once more when its identifier was released
added_once : offsets (kept_after_all (Add (message 0 2 7) ∷ Add (message 1 2 7) ∷ []) empty) ≡ 0 ∷ []
added_once = refl

added_again : offsets (kept_after_all (Add (message 0 2 7) ∷ Release (triple 7) ∷ Add (message 1 2 7) ∷ []) empty) ≡ 0 ∷ 1 ∷ []
added_again = refl

-- in the order in which they became so
in_order : (kept_after_all (Add (message 0 2 9) ∷ Add (message 1 2 7) ∷ []) empty).awaited ≡ triple 9 ∷ triple 7 ∷ []
in_order = refl

-- of another session nothing is forgotten
another_session : (kept_after_all (Add (message 0 2 9) ∷ Forget (record { name = codes "p"; incarnation = 2 }) ∷ []) empty).awaited ≡ triple 9 ∷ []
another_session = refl

forgotten_all : (kept_after_all (Add (message 0 2 9) ∷ Add (message 1 2 7) ∷ Forget (record { name = codes "p"; incarnation = 1 }) ∷ []) empty).awaited ≡ []
forgotten_all = refl

-- ---- generations

abbrev rotated_index : KeptIndex
rotated_index = kept_after_all (Add (message 0 0 0) ∷ Rotate 50 (cut 1 4 1) ∷ Add (message 1 0 0) ∷ []) empty

sealed_one : rotated_index.cuts ≡ record (cut 0 3 0) { sealed = Some 50 } ∷ cut 1 4 1 ∷ []
sealed_one = refl

-- a generation that hasn't the next number, or doesn't begin at the next offset, doesn't begin
another_number : kept_after_all (Rotate 50 (cut 2 4 0) ∷ []) empty ≡ empty
another_number = refl

another_first : kept_after_all (Rotate 50 (cut 1 4 1) ∷ []) empty ≡ empty
another_first = refl

sealed_before : kept_after_all (Rotate 50 (record (cut 1 4 0) { sealed = Some 40 }) ∷ []) empty ≡ empty
sealed_before = refl

-- the oldest goes with its messages, and the only one stays
one_dropped : offsets (kept_after_all (Drop ∷ []) rotated_index) ≡ 1 ∷ []
one_dropped = refl

floor_moves : floor_of (list_of (kept_after_all (Drop ∷ Drop ∷ []) rotated_index)) ≡ 1
floor_moves = refl

below_the_floor : kept_at (kept_after_all (Drop ∷ []) rotated_index) 0 ≡ None
below_the_floor = refl
