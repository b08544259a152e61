-- Computed examples: what is planned for groups, and what a group may ask.
use Rattle.std.specs.Prelude.{ℕ, ◌-◌, ◌^◌, ◌≡◌, true, false, List, [], ◌∷◌, codes, replicate, Some, None, refl}
use Rattle.topic_model.specs.Profile.{default_config}
use Rattle.topic_name.specs.KeptMessage.{KeptMessage}
use Rattle.shard_model.specs.Examples.{said}
use Rattle.shard_model.specs.ShardList.{Awaited, ShardList, opening_list}
use Rattle.record_codec.specs.declared.group.Op.{Op}
use Rattle.record_codec.specs.declared.group.Op.TheVariants.{Store, Release, Forget}
use Rattle.record_codec.specs.Records.{KeptGroup}
use Rattle.record_codec.specs.Computing.{reading}
use Rattle.group_plan.specs.Plan.{KeepsNothing, IsFull, AwaitsTooMany, Stores, planned, fits_op_alone}
use Rattle.group_plan.specs.Asking.{may_ask}

-- ---- groups and lists

-- client `p` publishes `hi` at topic `t` in its first session, with this QoS and identifier
abbrev message : ℕ → ℕ → KeptMessage
message qos id = record { stored = said qos id (codes "t"); place = None }

-- the same as it is written
abbrev written_message : ℕ → ℕ → ℕ → ℕ → KeptMessage
written_message offset stamp qos id = record { stored = record (said qos id (codes "t")) { offset = offset; stamp = stamp }; place = None }

abbrev triple : ℕ → Awaited
triple id = record { publisher = codes "p"; incarnation = 1; id = id }

abbrev empty : ShardList
empty = opening_list default_config

abbrev awaiting : List Awaited → ShardList
awaiting awaited = record empty { awaited = awaited }

abbrev group : ℕ → List Op → KeptGroup
group first ops = record { first = first; ops = ops }

-- ---- what is kept

first_store : planned empty (Store (message 1 0) ∷ []) 5 ≡ Stores (group 0 (Store (written_message 0 5 1 0) ∷ []))
first_store = refl

-- its offset, its stamp and the place of its body are the shard's to give
given_anew : planned empty (Store (written_message 9 4 1 0) ∷ []) 5 ≡ Stores (group 0 (Store (written_message 0 5 1 0) ∷ []))
given_anew = refl

-- a repeat of an identifier that is awaited, from another session and from the same one
repeat : planned (awaiting (triple 7 ∷ [])) (Store (message 2 7) ∷ []) 5 ≡ KeepsNothing
repeat = refl

another_session : planned (awaiting (record (triple 7) { incarnation = 2 } ∷ [])) (Store (message 2 7) ∷ []) 5 ≡ Stores (group 0 (Store (written_message 0 5 2 7) ∷ []))
another_session = refl

repeat_in_the_group : planned empty (Store (message 2 7) ∷ (Store (message 2 7) ∷ [])) 5 ≡ Stores (group 0 (Store (written_message 0 5 2 7) ∷ []))
repeat_in_the_group = refl

-- with QoS 1 it is no repeat
repeat_of_qos_1 : planned (awaiting (triple 7 ∷ [])) (Store (message 1 7) ∷ []) 5 ≡ Stores (group 0 (Store (written_message 0 5 1 7) ∷ []))
repeat_of_qos_1 = refl

-- what takes nothing away isn't kept
release_of_nothing : planned empty (Release (codes "p") 1 7 ∷ []) 5 ≡ KeepsNothing
release_of_nothing = refl

another_publisher : planned (awaiting (triple 7 ∷ [])) (Release (codes "q") 1 7 ∷ (Forget (codes "p") 2 ∷ [])) 5 ≡ KeepsNothing
another_publisher = refl

no_operations : planned empty [] 5 ≡ KeepsNothing
no_operations = refl

-- released in between, it is stored again
stored_again : planned empty (Store (message 2 7) ∷ (Release (codes "p") 1 7 ∷ (Store (message 2 7) ∷ []))) 5
    ≡ Stores (group 0 (Store (written_message 0 5 2 7) ∷ (Release (codes "p") 1 7 ∷ (Store (written_message 1 5 2 7) ∷ []))))
stored_again = refl

forget_twice : planned (awaiting (triple 7 ∷ (triple 8 ∷ []))) (Forget (codes "p") 1 ∷ (Forget (codes "p") 1 ∷ (Release (codes "p") 1 8 ∷ []))) 5
    ≡ Stores (group 0 (Forget (codes "p") 1 ∷ []))
forget_twice = refl

-- ---- room

-- a generation of one message takes no second one; what stores no message has room
abbrev of_one : ShardList
of_one = opening_list (record default_config { messages = 1 })

full_by_count : planned of_one (Store (message 1 0) ∷ (Store (message 1 0) ∷ [])) 5 ≡ IsFull
full_by_count = refl

just_within : planned of_one (Store (message 1 0) ∷ []) 5 ≡ Stores (group 0 (Store (written_message 0 5 1 0) ∷ []))
just_within = refl

no_message_has_room : planned (record (opening_list (record default_config { messages = 0 })) { awaited = triple 7 ∷ [] }) (Release (codes "p") 1 7 ∷ []) 5
    ≡ Stores (group 0 (Release (codes "p") 1 7 ∷ []))
no_message_has_room = refl

-- the greatest number is no offset that is given
abbrev at_the_end : ℕ → ShardList
at_the_end first = record empty { cuts = record { number = 0; first = first; top = 100; below = 10; messages = 8; sealed = None } ∷ [] }

last_offset : planned (at_the_end (2 ^ 64 - 2)) (Store (message 1 0) ∷ []) 5 ≡ Stores (group (2 ^ 64 - 2) (Store (written_message (2 ^ 64 - 2) 5 1 0) ∷ []))
last_offset = refl

past_the_last_offset : planned (at_the_end (2 ^ 64 - 1)) (Store (message 1 0) ∷ []) 5 ≡ IsFull
past_the_last_offset = refl

-- ---- what is awaited

abbrev most_awaited : List Awaited
most_awaited = replicate 4096 (triple 1)

one_too_many : planned (awaiting most_awaited) (Store (message 2 7) ∷ []) 5 ≡ AwaitsTooMany
one_too_many = refl

-- of QoS 1 nothing becomes awaited, and behind a Forget there is place
as_many_as_may_be : planned (awaiting most_awaited) (Store (message 1 0) ∷ []) 5 ≡ Stores (group 0 (Store (written_message 0 5 1 0) ∷ []))
as_many_as_may_be = refl

forgotten_before : planned (awaiting most_awaited) (Forget (codes "p") 1 ∷ (Store (message 2 7) ∷ [])) 5
    ≡ Stores (group 0 (Forget (codes "p") 1 ∷ (Store (written_message 0 5 2 7) ∷ [])))
forgotten_before = refl

-- a lack of room is found first
full_and_too_many : planned (record of_one { awaited = most_awaited }) (Store (message 2 7) ∷ (Store (message 2 8) ∷ [])) 5 ≡ IsFull
full_and_too_many = refl

-- ---- what a group may ask

may_ask_these : may_ask default_config (Forget (codes "q") 1 ∷ (Store (message 2 7) ∷ (Release (codes "p") 1 7 ∷ []))) ≡ true
unfolding reading
may_ask_these = refl

forget_behind : may_ask default_config (Store (message 2 7) ∷ (Forget (codes "q") 1 ∷ [])) ≡ false
unfolding reading
forget_behind = refl

too_many_forgets : may_ask default_config (replicate 193 (Forget (codes "q") 1)) ≡ false
unfolding reading
too_many_forgets = refl

too_many_stores : may_ask default_config (replicate 65 (Store (message 1 0))) ≡ false
unfolding reading
too_many_stores = refl

more_stores_than_a_generation : may_ask (record default_config { messages = 1 }) (replicate 2 (Store (message 1 0))) ≡ false
unfolding reading
more_stores_than_a_generation = refl

long_publisher : may_ask default_config (Forget (replicate 257 0x70) 1 ∷ []) ≡ false
unfolding reading
long_publisher = refl

-- QoS 3, an identifier with QoS 1, and a body on a disk
unfit : (fits_op_alone (Store (message 3 0)) ≡ false) × (fits_op_alone (Store (message 1 7)) ≡ false)
    × (fits_op_alone (Store (record (message 1 0) { place = Some (record { slot = 0; at = 0; len = 2 }) })) ≡ false)
unfolding reading
unfit = (refl, refl, refl)
