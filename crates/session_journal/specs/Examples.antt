-- Computed examples: what records hold, and in which order they are refused.
use Rattle.std.specs.Prelude.{ℕ, ◌≡◌, List, [], ◌∷◌, ◌++◌, codes, refl}
use Rattle.topic_name.specs.declared.mounting.What.TheVariants.{Format, Shards, Workers, Number}
use Rattle.session_state.specs.KeptSession.{KeptSessions, begun_kept, no_kept_sessions}
use Rattle.session_codec.specs.Computing.{decoding}
use Rattle.session_journal.specs.declared.asked.Asked.{Asked}
use Rattle.session_journal.specs.Fold.{Holds, IsDamaged, HasAnother, folded, opened}
use Rattle.session_journal.specs.Mounting.{disk_number, first_snapshot}

-- one shard and one worker
abbrev asked : Asked
asked = record { shards = 1; workers = 1; worker = 0 }

abbrev epoch : List ℕ
epoch = 0 ∷ 0 ∷ 0 ∷ 0 ∷ 0 ∷ 0 ∷ 0 ∷ 1 ∷ []

-- a format, numbers of shards and workers, and a worker's number, with no sessions
abbrev snapshot : ℕ → ℕ → ℕ → ℕ → List ℕ
snapshot format shards workers worker = epoch ++ (format ∷ shards ∷ workers ∷ worker ∷ 0 ∷ 0 ∷ 0 ∷ 0 ∷ 0 ∷ 0 ∷ 0 ∷ 1 ∷ 0 ∷ 0 ∷ 0 ∷ 0 ∷ [])

-- the session of client `a` begins, with this incarnation
abbrev begins : ℕ → List ℕ
begins incarnation = 0 ∷ 1 ∷ 1 ∷ 0 ∷ 1 ∷ 0x61 ∷ 0 ∷ 0 ∷ 0 ∷ 0 ∷ 0 ∷ 0 ∷ 0 ∷ incarnation ∷ 0 ∷ 0 ∷ 0x0E ∷ 0x10 ∷ 2 ∷ 0 ∷ []

-- and ends
abbrev ends : List ℕ
ends = 0 ∷ 1 ∷ 2 ∷ 0 ∷ 1 ∷ 0x61 ∷ []

abbrev one_session : KeptSessions
one_session = record { list = begun_kept (codes "a") 1 3600 512 ∷ []; next = 2 }

no_records : folded asked [] ≡ Holds no_kept_sessions
unfolding folded
no_records = refl

the_first_snapshot : epoch ++ first_snapshot asked ≡ snapshot 2 1 1 0
the_first_snapshot = refl

new_journal : folded asked (snapshot 2 1 1 0 ∷ []) ≡ Holds no_kept_sessions
unfolding folded opened decoding
new_journal = refl

first_session : folded asked (snapshot 2 1 1 0 ∷ begins 1 ∷ []) ≡ Holds one_session
unfolding folded opened decoding
first_session = refl

ended_session : folded asked (snapshot 2 1 1 0 ∷ begins 1 ∷ ends ∷ []) ≡ Holds (record { list = []; next = 2 })
unfolding folded opened decoding
ended_session = refl

-- in the first format a session that begins has no window in its bytes
first_format : folded asked (snapshot 1 1 1 0 ∷ (0 ∷ 1 ∷ 1 ∷ 0 ∷ 1 ∷ 0x61 ∷ 0 ∷ 0 ∷ 0 ∷ 0 ∷ 0 ∷ 0 ∷ 0 ∷ 1 ∷ 0 ∷ 0 ∷ 0x0E ∷ 0x10 ∷ []) ∷ []) ≡ Holds one_session
unfolding folded opened decoding
first_format = refl

-- a record stands at the place of its gate; one whose change doesn't fit is damaged, and those behind it aren't looked at
second_incarnation : folded asked (snapshot 2 1 1 0 ∷ begins 2 ∷ []) ≡ IsDamaged 29
unfolding folded opened decoding
second_incarnation = refl

begins_twice : folded asked (snapshot 2 1 1 0 ∷ begins 1 ∷ begins 2 ∷ ends ∷ []) ≡ IsDamaged 54
unfolding folded opened decoding
begins_twice = refl

first_damage : folded asked (snapshot 2 1 1 0 ∷ (9 ∷ []) ∷ (8 ∷ []) ∷ []) ≡ IsDamaged 29
unfolding folded opened decoding
first_damage = refl

-- a first record that is too short for an epoch has an empty snapshot
short_record : folded asked ((1 ∷ 2 ∷ 3 ∷ []) ∷ begins 1 ∷ []) ≡ IsDamaged 0
unfolding folded opened decoding
short_record = refl

-- the format is tested first, then whether the snapshot is damaged, then shards, workers and number
unknown_format : folded asked ((epoch ++ (3 ∷ [])) ∷ []) ≡ HasAnother Format 3 2
unfolding folded opened decoding
unknown_format = refl

cut_snapshot : folded asked ((epoch ++ (2 ∷ 9 ∷ 9 ∷ 9 ∷ [])) ∷ []) ≡ IsDamaged 0
unfolding folded opened decoding
cut_snapshot = refl

other_shards : folded asked (snapshot 2 3 4 5 ∷ (9 ∷ []) ∷ []) ≡ HasAnother Shards 3 1
unfolding folded opened decoding
other_shards = refl

other_workers : folded asked (snapshot 2 1 4 5 ∷ []) ≡ HasAnother Workers 4 1
unfolding folded opened decoding
other_workers = refl

other_number : folded asked (snapshot 2 1 1 5 ∷ []) ≡ HasAnother Number 5 0
unfolding folded opened decoding
other_number = refl

-- the disks of the third of sixteen workers, behind those of eight shards
second_disk : disk_number (record { shards = 8; workers = 16; worker = 2 }) 1 ≡ 85
second_disk = refl
