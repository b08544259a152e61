-- Computed examples: how groups, openings and manifests are spelled, what is read again, and what spells nothing.
use Rattle.std.specs.Prelude.{ℕ, ◌+◌, ◌-◌, ◌*◌, ◌==◌, nat_lt, true, false, if◌then◌else◌, List, [], ◌∷◌, ◌++◌, length, Option, Some, None, codes, ◌≡◌, refl}
use Rattle.topic_model.specs.Levels.{levels_of}
use Rattle.topic_model.specs.StoredMessage.{StoredMessage}
use Rattle.shard_model.specs.Capacity.{store_size}
use Rattle.session_codec.specs.HexDigits.{hex}
use Rattle.record_codec.specs.declared.group.Op.{Op}
use Rattle.record_codec.specs.declared.group.Op.TheVariants.{Store, Release, Forget}
use Rattle.record_codec.specs.Records.{KeptGroup, KeptOpening, KeptManifest}
use Rattle.record_codec.specs.Spelling.{spelled_op, spelled_group, spelled_opening, spelled_manifest}
use Rattle.record_codec.specs.HasSpelling.{is_list, group_has_spelling, manifest_has_spelling}
use Rattle.record_codec.specs.Reading.{group_in, opening_in, manifest_in}
use Rattle.record_codec.specs.Computing.{reading}

-- ---- groups

-- the first publish of client `p`, in its second session: QoS 1, topic `a/b`, payload `hi`
abbrev first_message : StoredMessage
first_message =
    record {
      offset = 0;
      publisher = codes "p";
      incarnation = 2;
      id = 0;
      qos = 1;
      stamp = 0;
      expiry = None;
      topic = levels_of (codes "a/b");
      props = [];
      payload = codes "hi";
    }

abbrev stored : StoredMessage → Op
stored m = Store (record { stored = m; place = None })

abbrev group_at_first : ℕ → List Op → KeptGroup
group_at_first first ops = record { first = first; ops = ops }

abbrev first_group : KeptGroup
first_group = group_at_first 0 (stored first_message ∷ [])

abbrev first_spelled : List ℕ
first_spelled = hex (codes "47 0000000000000000 0001 01 0001 70 0000000000000002 0000 01 0000000000000000 0003 61 2F 62 00000000 00000002 68 69")

the_first_group : spelled_group first_group ≡ first_spelled
the_first_group = refl

the_first_group_read : group_in first_spelled ≡ Some first_group
unfolding reading
the_first_group_read = refl

the_first_group_takes : length first_spelled ≡ 49
the_first_group_takes = refl

-- its Store counts 38 bytes in its generation
the_first_store_counts : store_size first_message ≡ 38
the_first_store_counts = refl

the_first_has_spelling : group_has_spelling first_group ≡ true
unfolding reading
the_first_has_spelling = refl

-- QoS 2 with identifier 5, a property, stamp 4,000 and an expiry of 10 seconds, at offset 7
abbrev expiring : StoredMessage
expiring =
    record first_message { offset = 7; id = 5; qos = 2; stamp = 4000; expiry = Some 10; props = 0x01 ∷ 0x01 ∷ [] }

abbrev expiring_spelled : List ℕ
expiring_spelled =
    hex (codes "04 0001 70 0000000000000002 0005 02 0000000000000FA0 0000000A 0003 61 2F 62 00000002 0101 00000002 68 69")

an_expiring_store : spelled_op (stored expiring) ≡ expiring_spelled
an_expiring_store = refl

-- a Forget, a Release and two Stores, of which the second has the next offset
abbrev four_ops : List Op
four_ops =
    Forget (codes "q") 3 ∷ (stored expiring ∷ (Release (codes "p") 2 5 ∷ (stored (record first_message { offset = 8 }) ∷ [])))

abbrev four_spelled : List ℕ
four_spelled =
    hex (codes "47 0000000000000007 0004 03 0001 71 0000000000000003")
    ++ (expiring_spelled
    ++ hex (codes "02 0001 70 0000000000000002 0005 01 0001 70 0000000000000002 0000 01 0000000000000000 0003 61 2F 62 00000000 00000002 68 69"))

four_operations : spelled_group (group_at_first 7 four_ops) ≡ four_spelled
four_operations = refl

four_operations_read : group_in four_spelled ≡ Some (group_at_first 7 four_ops)
unfolding reading
four_operations_read = refl

-- the last offset is the greatest number
abbrev at_the_last : KeptGroup
at_the_last = group_at_first 18446744073709551615 (stored (record first_message { offset = 18446744073709551615 }) ∷ [])

the_last_offset : group_in (hex (codes "47 FFFFFFFFFFFFFFFF 0001 01 0001 70 0000000000000002 0000 01 0000000000000000 0003 61 2F 62 00000000 00000002 68 69")) ≡ Some at_the_last
unfolding reading
the_last_offset = refl

past_the_last_offset : group_in (hex (codes "47 FFFFFFFFFFFFFFFF 0002 01 0001 70 0000000000000002 0000 01 0000000000000000 0003 61 2F 62 00000000 00000002 68 69 01 0001 70 0000000000000002 0000 01 0000000000000000 0003 61 2F 62 00000000 00000002 68 69")) ≡ None
unfolding reading
past_the_last_offset = refl

-- ---- what is no group

a_byte_behind : group_in (first_spelled ++ 0x00 ∷ []) ≡ None
unfolding reading
a_byte_behind = refl

cut_short : group_in (hex (codes "47 0000000000000000 0001 03 0001 70 00000000000000")) ≡ None
unfolding reading
cut_short = refl

another_record : group_in (hex (codes "4F 0000000000000000 0001 03 0001 70 0000000000000002")) ≡ None
unfolding reading
another_record = refl

no_operation : group_in (hex (codes "47 0000000000000000 0000")) ≡ None
unfolding reading
no_operation = refl

too_many_operations : group_in (hex (codes "47 0000000000000000 0101 03 0001 70 0000000000000002")) ≡ None
unfolding reading
too_many_operations = refl

no_kind : group_in (hex (codes "47 0000000000000000 0001 05 0001 70 0000000000000002")) ≡ None
unfolding reading
no_kind = refl

-- identifier 5 with QoS 1
an_identifier_without_qos_2 : group_in (hex (codes "47 0000000000000000 0001 01 0001 70 0000000000000002 0005 01 0000000000000000 0003 61 2F 62 00000000 00000002 68 69")) ≡ None
unfolding reading
an_identifier_without_qos_2 = refl

-- the topic `a/+`
a_wildcard : group_in (hex (codes "47 0000000000000000 0001 01 0001 70 0000000000000002 0000 01 0000000000000000 0003 61 2F 2B 00000000 00000002 68 69")) ≡ None
unfolding reading
a_wildcard = refl

-- properties that are cut short, that stand in no PUBLISH, and one that stands twice
no_lists : (is_list (0x01 ∷ []) ≡ false) × (is_list (0x24 ∷ 0x01 ∷ []) ≡ false) × (is_list (0x01 ∷ 0x01 ∷ 0x01 ∷ 0x01 ∷ []) ≡ false)
unfolding reading
no_lists = (refl, refl, refl)

no_list_of_properties : group_in (hex (codes "47 0000000000000000 0001 01 0001 70 0000000000000002 0000 01 0000000000000000 0003 61 2F 62 00000001 01 00000002 68 69")) ≡ None
unfolding reading
no_list_of_properties = refl

-- an offset that isn't the next one, and a body that isn't in memory
another_offset : group_has_spelling (group_at_first 1 (stored first_message ∷ [])) ≡ false
unfolding reading
another_offset = refl

a_cold_body : group_has_spelling (group_at_first 0 (Store (record { stored = first_message; place = Some (record { slot = 0; at = 0; len = 2 }) }) ∷ [])) ≡ false
unfolding reading
a_cold_body = refl

-- ---- openings

abbrev opening : KeptOpening
opening =
    record {
      generation = 1;
      first = 9;
      awaited = record { publisher = codes "p"; incarnation = 2; id = 5 } ∷ (record { publisher = codes "q"; incarnation = 3; id = 1 } ∷ []);
    }

abbrev opening_spelled : List ℕ
opening_spelled =
    hex (codes "4F 0000000000000001 0000000000000009 0002 0001 70 0000000000000002 0005 0001 71 0000000000000003 0001")

the_opening : spelled_opening opening ≡ opening_spelled
the_opening = refl

the_opening_read : opening_in opening_spelled ≡ Some opening
unfolding reading
the_opening_read = refl

nothing_awaited : opening_in (hex (codes "4F 0000000000000000 0000000000000000 0000")) ≡ Some (record { generation = 0; first = 0; awaited = [] })
unfolding reading
nothing_awaited = refl

fewer_than_told : opening_in (hex (codes "4F 0000000000000001 0000000000000009 0002 0001 70 0000000000000002 0005")) ≡ None
unfolding reading
fewer_than_told = refl

-- ---- manifests

abbrev manifest : KeptManifest
manifest =
    record {
      shards = 2;
      workers = 3;
      shard = 1;
      cuts = record { number = 4; slot = 7; first = 9; top = 100; below = 10; messages = 32768; sealed = Some 1000 }
          ∷ (record { number = 5; slot = 0; first = 12; top = 100; below = 10; messages = 32768; sealed = None } ∷ []);
    }

abbrev manifest_spelled : List ℕ
manifest_spelled =
    hex (codes "01 02 03 01 02")
    ++ (hex (codes "0000000000000004 07 01 0000000000000009 0064 000A 00008000 00000000000003E8")
    ++ hex (codes "0000000000000005 00 01 000000000000000C 0064 000A 00008000 FFFFFFFFFFFFFFFF"))

the_manifest : spelled_manifest manifest ≡ manifest_spelled
the_manifest = refl

the_manifest_read : manifest_in manifest_spelled ≡ Some manifest
unfolding reading
the_manifest_read = refl

another_format : manifest_in (hex (codes "02 02 03 01 01 0000000000000005 00 01 000000000000000C 0064 000A 00008000 FFFFFFFFFFFFFFFF")) ≡ None
unfolding reading
another_format = refl

another_format_of_records : manifest_in (hex (codes "01 02 03 01 01 0000000000000005 00 02 000000000000000C 0064 000A 00008000 FFFFFFFFFFFFFFFF")) ≡ None
unfolding reading
another_format_of_records = refl

no_generation : manifest_in (hex (codes "01 02 03 01 00")) ≡ None
unfolding reading
no_generation = refl

nine_generations : manifest_in (hex (codes "01 02 03 01 09 0000000000000005 00 01 000000000000000C 0064 000A 00008000 FFFFFFFFFFFFFFFF")) ≡ None
unfolding reading
nine_generations = refl

-- the greatest number tells that a generation isn't sealed
sealed_at_the_greatest_moment : manifest_has_spelling (record manifest { cuts = record { number = 5; slot = 0; first = 12; top = 100; below = 10; messages = 32768; sealed = Some 18446744073709551615 } ∷ [] }) ≡ false
sealed_at_the_greatest_moment = refl
