-- Computed examples: what the records of a shard hold, and what of them is refused, at which place.
use Rattle.std.specs.Prelude.{ℕ, ◌≡◌, List, [], ◌∷◌, ◌++◌, Option, Some, None, codes, refl}
use Rattle.topic_model.specs.Levels.{levels_of}
use Rattle.topic_model.specs.StoredMessage.{StoredMessage}
use Rattle.topic_name.specs.PlainConfig.{plain_config}
use Rattle.topic_name.specs.declared.descriptor.Descriptor.{Descriptor}
use Rattle.topic_name.specs.declared.mounting.What.TheVariants.{Format, Shards, Workers, Number}
use Rattle.shard_model.specs.ShardList.{Awaited, Cut, opening_list}
use Rattle.record_codec.specs.declared.group.Op.{Op}
use Rattle.record_codec.specs.declared.group.Op.TheVariants.{Store, Release, Forget}
use Rattle.record_codec.specs.Spelling.{spelled_group, spelled_manifest, spelled_opening}
use Rattle.shard_fold.specs.declared.asked.Asked.{Asked}
use Rattle.shard_fold.specs.declared.unread.Where.TheVariants.{Manifest, Slot}
use Rattle.shard_fold.specs.Fold.{Holds, IsDamaged, HasAnother, first_manifest, first_opening, folded}
use Rattle.shard_fold.specs.Computing.{folding}

-- the second of two shards, with three workers, and two messages a generation
abbrev asked : Asked
asked = record { config = record { shards = 2; workers = 3; top = 100; below = 10; messages = 2; retention = 0 }; shard = 1 }

-- ---- a new shard

the_first_manifest : first_manifest asked
    ≡ 1 ∷ 2 ∷ 3 ∷ 1 ∷ 1
    ∷ 0 ∷ 0 ∷ 0 ∷ 0 ∷ 0 ∷ 0 ∷ 0 ∷ 0 ∷ 0 ∷ 1 ∷ 0 ∷ 0 ∷ 0 ∷ 0 ∷ 0 ∷ 0 ∷ 0 ∷ 0
    ∷ 0 ∷ 100 ∷ 0 ∷ 10 ∷ 0 ∷ 0 ∷ 0 ∷ 2 ∷ 255 ∷ 255 ∷ 255 ∷ 255 ∷ 255 ∷ 255 ∷ 255 ∷ 255 ∷ []
the_first_manifest = refl

the_first_opening : first_opening ≡ 0x4F ∷ 0 ∷ 0 ∷ 0 ∷ 0 ∷ 0 ∷ 0 ∷ 0 ∷ 0 ∷ 0 ∷ 0 ∷ 0 ∷ 0 ∷ 0 ∷ 0 ∷ 0 ∷ 0 ∷ 0 ∷ 0 ∷ []
the_first_opening = refl

-- the eight slots, of which the first two have these records
abbrev slots : List (List ℕ) → List (List ℕ) → List (List (List ℕ))
slots first second = first ∷ second ∷ [] ∷ [] ∷ [] ∷ [] ∷ [] ∷ [] ∷ []

new_disks : folded asked [] (slots [] []) ≡ Holds (opening_list (plain_config asked.config))
unfolding folding
new_disks = refl

-- ---- what is written

-- a record 0 is an epoch and a snapshot
abbrev behind_epoch : List ℕ → List ℕ
behind_epoch bytes = 0 ∷ 0 ∷ 0 ∷ 0 ∷ 0 ∷ 0 ∷ 0 ∷ 1 ∷ bytes

-- numbers of shards and workers, the shard's number, and generations
abbrev manifest_as : ℕ → ℕ → ℕ → List Descriptor → List (List ℕ)
manifest_as shards workers shard cuts =
    behind_epoch (spelled_manifest (record { shards = shards; workers = workers; shard = shard; cuts = cuts })) ∷ []

abbrev manifest : List Descriptor → List (List ℕ)
manifest cuts = manifest_as 2 3 1 cuts

-- the number, the slot, the first offset and the moment of a generation
abbrev generation : ℕ → ℕ → ℕ → Option ℕ → Descriptor
generation number slot first sealed =
    record { number = number; slot = slot; first = first; top = 100; below = 10; messages = 2; sealed = sealed }

abbrev opening : ℕ → ℕ → List Awaited → List ℕ
opening generation first awaited = spelled_opening (record { generation = generation; first = first; awaited = awaited })

abbrev group : ℕ → List Op → List ℕ
group first ops = spelled_group (record { first = first; ops = ops })

-- identifier 5 or another of the second session of client `p`
abbrev triple : ℕ → Awaited
triple id = record { publisher = codes "p"; incarnation = 2; id = id }

-- a publish of it with an offset, of QoS 1, or with an identifier of QoS 2
abbrev message : ℕ → ℕ → ℕ → StoredMessage
message offset qos id =
    record {
      offset = offset;
      publisher = codes "p";
      incarnation = 2;
      id = id;
      qos = qos;
      stamp = 7;
      expiry = None;
      topic = levels_of (codes "a/b");
      props = [];
      payload = codes "hi";
    }

abbrev stores : ℕ → ℕ → ℕ → Op
stores offset qos id = Store (record { stored = message offset qos id; place = None })

abbrev release : ℕ → Op
release id = Release (codes "p") 2 id

abbrev cut : ℕ → ℕ → Option ℕ → Cut
cut number first sealed = record { number = number; first = first; top = 100; below = 10; messages = 2; sealed = sealed }

-- ---- one generation

a_first_group : folded asked [] (slots (first_opening ∷ group 0 (stores 0 2 5 ∷ []) ∷ []) [])
    ≡ Holds (record { cuts = cut 0 0 None ∷ []; messages = message 0 2 5 ∷ []; awaited = triple 5 ∷ [] })
unfolding folding
a_first_group = refl

-- a manifest that is there counts, and not the one asked for
older_values : folded (record asked { config = record asked.config { messages = 9 } }) (manifest (generation 0 0 0 None ∷ [])) (slots [] [])
    ≡ Holds (record { cuts = cut 0 0 None ∷ []; messages = []; awaited = [] })
unfolding folding
older_values = refl

-- and a Release behind it, in the second group
a_release : folded asked [] (slots (first_opening ∷ group 0 (stores 0 2 5 ∷ []) ∷ group 1 (release 5 ∷ stores 1 1 0 ∷ []) ∷ []) [])
    ≡ Holds (record { cuts = cut 0 0 None ∷ []; messages = message 0 2 5 ∷ message 1 1 0 ∷ []; awaited = [] })
unfolding folding
a_release = refl

-- ---- two generations

abbrev sealed_one : Descriptor
sealed_one = generation 4 1 9 (Some 1000)

abbrev two : List (List ℕ)
two = manifest (sealed_one ∷ generation 5 0 11 None ∷ [])

-- the older one has two messages, of which the second is awaited
abbrev older : List (List ℕ)
older = opening 4 9 (triple 1 ∷ []) ∷ group 9 (stores 9 1 0 ∷ release 1 ∷ stores 10 2 5 ∷ []) ∷ []

two_generations : folded asked two (slots (opening 5 11 (triple 5 ∷ []) ∷ group 11 (release 5 ∷ stores 11 1 0 ∷ []) ∷ []) older)
    ≡ Holds (record {
      cuts = cut 4 9 (Some 1000) ∷ cut 5 11 None ∷ [];
      messages = message 9 1 0 ∷ message 10 2 5 ∷ message 11 1 0 ∷ [];
      awaited = [];
    })
unfolding folding
two_generations = refl

-- an opening that is missing, as only that of a new shard's first generation may be
no_opening : folded asked two (slots [] older) ≡ IsDamaged (Slot 0) 0
unfolding folding
no_opening = refl

no_older_opening : folded asked two (slots (opening 5 11 (triple 5 ∷ []) ∷ []) []) ≡ IsDamaged (Slot 1) 0
unfolding folding
no_older_opening = refl

-- of another number, of another first offset, and where what is awaited isn't what is awaited before
another_number : folded asked two (slots (opening 6 11 (triple 5 ∷ []) ∷ []) older) ≡ IsDamaged (Slot 0) 0
unfolding folding
another_number = refl

another_first : folded asked two (slots (opening 5 12 (triple 5 ∷ []) ∷ []) older) ≡ IsDamaged (Slot 0) 0
unfolding folding
another_first = refl

nothing_awaited : folded asked two (slots (opening 5 11 [] ∷ []) older) ≡ IsDamaged (Slot 0) 0
unfolding folding
nothing_awaited = refl

another_awaited : folded asked two (slots (opening 5 11 (triple 6 ∷ []) ∷ []) older) ≡ IsDamaged (Slot 0) 0
unfolding folding
another_awaited = refl

-- the manifest's offset and the opening's agree, but the generation before ends elsewhere
another_end : folded asked (manifest (sealed_one ∷ generation 5 0 10 None ∷ [])) (slots (opening 5 10 (triple 5 ∷ []) ∷ []) older) ≡ IsDamaged (Slot 0) 0
unfolding folding
another_end = refl

-- an identifier twice, and a group in the place of an opening
awaited_twice : folded asked (manifest (generation 5 0 11 None ∷ [])) (slots (opening 5 11 (triple 5 ∷ triple 5 ∷ []) ∷ []) []) ≡ IsDamaged (Slot 0) 0
unfolding folding
awaited_twice = refl

a_group_first : folded asked [] (slots (group 0 (stores 0 1 0 ∷ []) ∷ []) []) ≡ IsDamaged (Slot 0) 0
unfolding folding
a_group_first = refl

-- ---- damaged groups, each at the place of its gate

-- the first offset isn't the next one
not_the_next : folded asked [] (slots (first_opening ∷ group 1 (stores 1 1 0 ∷ []) ∷ []) []) ≡ IsDamaged (Slot 0) 24
unfolding folding
not_the_next = refl

-- a third message, where a generation takes two
one_message_too_many : folded asked [] (slots (first_opening ∷ group 0 (stores 0 1 0 ∷ stores 1 1 0 ∷ stores 2 1 0 ∷ []) ∷ []) []) ≡ IsDamaged (Slot 0) 24
unfolding folding
one_message_too_many = refl

-- operations that would have been left out: of an identifier that isn't awaited, and one that is awaited already
an_idle_release : folded asked [] (slots (first_opening ∷ group 0 (release 5 ∷ []) ∷ []) []) ≡ IsDamaged (Slot 0) 24
unfolding folding
an_idle_release = refl

an_idle_forget : folded asked [] (slots (first_opening ∷ group 0 (Forget (codes "p") 2 ∷ []) ∷ []) []) ≡ IsDamaged (Slot 0) 24
unfolding folding
an_idle_forget = refl

a_repeat : folded asked [] (slots (first_opening ∷ group 0 (stores 0 2 5 ∷ stores 1 2 5 ∷ []) ∷ []) []) ≡ IsDamaged (Slot 0) 24
unfolding folding
a_repeat = refl

-- no group at all; those behind it aren't looked at
second_damaged : folded asked [] (slots (first_opening ∷ group 0 (stores 0 1 0 ∷ []) ∷ (9 ∷ []) ∷ (8 ∷ []) ∷ []) []) ≡ IsDamaged (Slot 0) 78
unfolding folding
second_damaged = refl

-- ---- manifests

a_step_of_two : folded asked (manifest (sealed_one ∷ generation 6 0 11 None ∷ [])) (slots [] []) ≡ IsDamaged Manifest 0
unfolding folding
a_step_of_two = refl

one_slot_twice : folded asked (manifest (sealed_one ∷ generation 5 1 11 None ∷ [])) (slots [] []) ≡ IsDamaged Manifest 0
unfolding folding
one_slot_twice = refl

no_such_slot : folded asked (manifest (generation 5 8 11 None ∷ [])) (slots [] []) ≡ IsDamaged Manifest 0
unfolding folding
no_such_slot = refl

falling_offsets : folded asked (manifest (sealed_one ∷ generation 5 0 8 None ∷ [])) (slots [] []) ≡ IsDamaged Manifest 0
unfolding folding
falling_offsets = refl

an_older_one_unsealed : folded asked (manifest (generation 4 1 9 None ∷ generation 5 0 11 None ∷ [])) (slots [] []) ≡ IsDamaged Manifest 0
unfolding folding
an_older_one_unsealed = refl

the_newest_sealed : folded asked (manifest (generation 5 0 11 (Some 1000) ∷ [])) (slots [] []) ≡ IsDamaged Manifest 0
unfolding folding
the_newest_sealed = refl

no_threshold : folded asked (manifest (record sealed_one { top = 0; sealed = None } ∷ [])) (slots [] []) ≡ IsDamaged Manifest 0
unfolding folding
no_threshold = refl

too_great_a_threshold : folded asked (manifest (record sealed_one { below = 1001; sealed = None } ∷ [])) (slots [] []) ≡ IsDamaged Manifest 0
unfolding folding
too_great_a_threshold = refl

too_many_messages : folded asked (manifest (record sealed_one { messages = 32769; sealed = None } ∷ [])) (slots [] []) ≡ IsDamaged Manifest 0
unfolding folding
too_many_messages = refl

nine_shards : folded asked (manifest_as 9 3 1 (generation 0 0 0 None ∷ [])) (slots [] []) ≡ IsDamaged Manifest 0
unfolding folding
nine_shards = refl

-- a record behind the manifest, whose gate stands behind that of the manifest
a_second_record : folded asked (manifest (generation 0 0 0 None ∷ []) ++ (9 ∷ []) ∷ []) (slots [] []) ≡ IsDamaged Manifest 52
unfolding folding
a_second_record = refl

-- a record that is too short for an epoch has an empty snapshot
a_short_record : folded asked ((1 ∷ 2 ∷ 3 ∷ []) ∷ []) (slots [] []) ≡ IsDamaged Manifest 0
unfolding folding
a_short_record = refl

-- the format is tested first, then whether the manifest is damaged, then shards, workers and number
unknown_format : folded asked (behind_epoch (2 ∷ 9 ∷ 9 ∷ []) ∷ []) (slots [] []) ≡ HasAnother Format 2 1
unfolding folding
unknown_format = refl

damaged_first : folded asked (manifest_as 8 9 7 (generation 5 0 11 (Some 1000) ∷ [])) (slots [] []) ≡ IsDamaged Manifest 0
unfolding folding
damaged_first = refl

other_shards : folded asked (manifest_as 8 9 7 (generation 0 0 0 None ∷ [])) (slots [] []) ≡ HasAnother Shards 8 2
unfolding folding
other_shards = refl

other_workers : folded asked (manifest_as 2 9 7 (generation 0 0 0 None ∷ [])) (slots [] []) ≡ HasAnother Workers 9 3
unfolding folding
other_workers = refl

other_number : folded asked (manifest_as 2 3 0 (generation 0 0 0 None ∷ [])) (slots [] []) ≡ HasAnother Number 0 1
unfolding folding
other_number = refl
