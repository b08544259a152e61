-- Computed examples: how changes and snapshots are spelled, what is read again, and what spells nothing.
use Rattle.std.specs.Prelude.{ℕ, ◌+◌, ◌-◌, ◌*◌, ◌==◌, nat_lt, if◌then◌else◌, true, false, List, [], ◌∷◌, ◌++◌, length, Option, Some, None, codes, ◌≡◌, refl}
use Rattle.shard_model.specs.declared.sweep.Sweep.{Sweep}
use Rattle.topic_model.specs.Levels.{levels_of}
use Rattle.session_state.specs.declared.batch.Batch.{Batch}
use Rattle.session_state.specs.declared.change.Change.{Change}
use Rattle.session_state.specs.declared.change.Effect.{Effect}
use Rattle.session_state.specs.declared.change.Effect.TheVariants.{Began, Ended, Bound, Parted, Subscribed, Replaced, Unsubscribed, Issued, Acked, Received, Done, Passed}
use Rattle.seq_tracks.specs.PlainTracks.{PlainTracks}
use Rattle.session_state.specs.KeptSession.{KeptSession, no_kept_sessions}
use Rattle.session_codec.specs.HexDigits.{hex}
use Rattle.session_codec.specs.Spelling.{KeptSnapshot, spelled_changes, spelled_batch, spelled_sweep, spelled_snapshot}
use Rattle.session_codec.specs.HasSpelling.{have_spelling, has_spelling}
use Rattle.session_codec.specs.Reading.{changes_in, snapshot_in}
use Rattle.session_codec.specs.Computing.{decoding}

-- ---- each kind of change, of the session of client `a`

abbrev of_a : Effect → Change
of_a effect = record { client = codes "a"; effect = effect }

abbrev one : Effect → List Change
one effect = of_a effect ∷ []

abbrev begins : Effect
begins = Began (record { incarnation = 1; expiry = 3600; window = 512 })

-- a worker's first record, where a session begins
first_record : spelled_changes 2 (one begins) ≡ hex (codes "0001 01 0001 61 0000000000000001 00000E10 0200")
first_record = refl

first_record_read : changes_in 2 1 (hex (codes "0001 01 0001 61 0000000000000001 00000E10 0200")) ≡ Some (one begins)
unfolding decoding
first_record_read = refl

-- in the first format a session has window 512, and no bytes for it
old_record_read : changes_in 1 1 (hex (codes "0001 01 0001 61 0000000000000001 00000E10")) ≡ Some (one begins)
unfolding decoding
old_record_read = refl

abbrev sweep : Sweep
sweep = record { generation = 2; base = 5; target = 6; stream = 3; position = 4 }

abbrev sweep_spelled : List ℕ
sweep_spelled = hex (codes "0000000000000002 0000000000000005 0000000000000006 00000003 0000000000000004")

abbrev batch : Batch
batch =
    record {
      version = 1;
      shard = 0;
      generation = 3;
      stream = 4;
      from = 5;
      to = 6;
      limit = 4294967295;
      first1 = 7;
      count1 = 8;
      first2 = 9;
      count2 = 10;
    }

abbrev batch_spelled : List ℕ
batch_spelled =
    hex (codes "00000001 00 0000000000000003 00000004 0000000000000005 0000000000000006 FFFFFFFF 0000000000000007 0008 0000000000000009 000A")

the_sweep : spelled_sweep sweep ≡ sweep_spelled
the_sweep = refl

the_batch : spelled_batch batch ≡ batch_spelled
the_batch = refl

sizes : length (spelled_sweep sweep) + length (spelled_batch batch) ≡ 36 + 57
sizes = refl

abbrev subscribes : Effect
subscribes =
    Subscribed (record { subscription = 1; version = 2; options = 1; identifier = 7; filter = levels_of (codes "t/#"); sweeps = sweep ∷ [] })

abbrev subscribes_spelled : List ℕ
subscribes_spelled = hex (codes "0001 05 0001 61 00000001 00000002 01 00000007 0003 742F23") ++ sweep_spelled

abbrev issues_spelled : List ℕ
issues_spelled = hex (codes "0001 08 0001 61 00000001") ++ (batch_spelled ++ sweep_spelled)

ended : spelled_changes 2 (one Ended) ≡ hex (codes "0001 02 0001 61")
ended = refl

ended_read : changes_in 2 1 (hex (codes "0001 02 0001 61")) ≡ Some (one Ended)
unfolding decoding
ended_read = refl

bound : spelled_changes 2 (one (Bound 30)) ≡ hex (codes "0001 03 0001 61 0000001E")
bound = refl

bound_read : changes_in 2 1 (hex (codes "0001 03 0001 61 0000001E")) ≡ Some (one (Bound 30))
unfolding decoding
bound_read = refl

parted : spelled_changes 2 (one (Parted (record { expiry = 30; moment = 1000 }))) ≡ hex (codes "0001 04 0001 61 0000001E 00000000000003E8")
parted = refl

parted_read : changes_in 2 1 (hex (codes "0001 04 0001 61 0000001E 00000000000003E8")) ≡ Some (one (Parted (record { expiry = 30; moment = 1000 })))
unfolding decoding
parted_read = refl

subscribed : spelled_changes 2 (one subscribes) ≡ subscribes_spelled
subscribed = refl

subscribed_read : changes_in 2 1 subscribes_spelled ≡ Some (one subscribes)
unfolding decoding
subscribed_read = refl

replaced : spelled_changes 2 (one (Replaced (record { subscription = 1; version = 3; options = 2; identifier = 0 }))) ≡ hex (codes "0001 06 0001 61 00000001 00000003 02 00000000")
replaced = refl

replaced_read : changes_in 2 1 (hex (codes "0001 06 0001 61 00000001 00000003 02 00000000")) ≡ Some (one (Replaced (record { subscription = 1; version = 3; options = 2; identifier = 0 })))
unfolding decoding
replaced_read = refl

unsubscribed : spelled_changes 2 (one (Unsubscribed 1)) ≡ hex (codes "0001 07 0001 61 00000001")
unsubscribed = refl

unsubscribed_read : changes_in 2 1 (hex (codes "0001 07 0001 61 00000001")) ≡ Some (one (Unsubscribed 1))
unfolding decoding
unsubscribed_read = refl

issued : spelled_changes 2 (one (Issued (record { subscription = 1; batch = batch; sweep = sweep }))) ≡ issues_spelled
issued = refl

issued_read : changes_in 2 1 issues_spelled ≡ Some (one (Issued (record { subscription = 1; batch = batch; sweep = sweep })))
unfolding decoding
issued_read = refl

acked : spelled_changes 2 (one (Acked 3)) ≡ hex (codes "0001 09 0001 61 0000000000000003")
acked = refl

acked_read : changes_in 2 1 (hex (codes "0001 09 0001 61 0000000000000003")) ≡ Some (one (Acked 3))
unfolding decoding
acked_read = refl

received : spelled_changes 2 (one (Received 3)) ≡ hex (codes "0001 0A 0001 61 0000000000000003")
received = refl

received_read : changes_in 2 1 (hex (codes "0001 0A 0001 61 0000000000000003")) ≡ Some (one (Received 3))
unfolding decoding
received_read = refl

done : spelled_changes 2 (one (Done 3)) ≡ hex (codes "0001 0B 0001 61 0000000000000003")
done = refl

done_read : changes_in 2 1 (hex (codes "0001 0B 0001 61 0000000000000003")) ≡ Some (one (Done 3))
unfolding decoding
done_read = refl

passed : spelled_changes 2 (one (Passed (record { track = 2; number = 3 }))) ≡ hex (codes "0001 0C 0001 61 02 0000000000000003")
passed = refl

passed_read : changes_in 2 1 (hex (codes "0001 0C 0001 61 02 0000000000000003")) ≡ Some (one (Passed (record { track = 2; number = 3 })))
unfolding decoding
passed_read = refl

two_changes : spelled_changes 2 (of_a begins ∷ of_a (Bound 30) ∷ []) ≡
    hex (codes "0002 01 0001 61 0000000000000001 00000E10 0200 03 0001 61 0000001E")
two_changes = refl

-- ---- what spells no record, each form broken once

-- nothing at all
no_bytes : changes_in 2 1 [] ≡ None
unfolding decoding
no_bytes = refl

no_count : changes_in 2 1 (hex (codes "00")) ≡ None
unfolding decoding
no_count = refl

-- a record has a change
no_changes : changes_in 2 1 (hex (codes "0000")) ≡ None
unfolding decoding
no_changes = refl

-- and at most 1,024
too_many : changes_in 2 1 (hex (codes "0401 02 0001 61")) ≡ None
unfolding decoding
too_many = refl

-- fewer than its count tells, and more
fewer_than_told : changes_in 2 1 (hex (codes "0002 02 0001 61")) ≡ None
unfolding decoding
fewer_than_told = refl

more_than_told : changes_in 2 1 (hex (codes "0001 02 0001 61 02 0001 61")) ≡ None
unfolding decoding
more_than_told = refl

byte_behind : changes_in 2 1 (hex (codes "0001 02 0001 61 00")) ≡ None
unfolding decoding
byte_behind = refl

-- a kind that there isn't
tag_0 : changes_in 2 1 (hex (codes "0001 00 0001 61")) ≡ None
unfolding decoding
tag_0 = refl

tag_13 : changes_in 2 1 (hex (codes "0001 0D 0001 61")) ≡ None
unfolding decoding
tag_13 = refl

-- a client whose text is cut, or isn't UTF-8, or has U+0000 in it
client_cut : changes_in 2 1 (hex (codes "0001 02 0002 61")) ≡ None
unfolding decoding
client_cut = refl

client_not_utf8 : changes_in 2 1 (hex (codes "0001 02 0001 FF")) ≡ None
unfolding decoding
client_not_utf8 = refl

client_with_zero : changes_in 2 1 (hex (codes "0001 02 0001 00")) ≡ None
unfolding decoding
client_with_zero = refl

number_cut : changes_in 2 1 (hex (codes "0001 09 0001 61 00000000000003")) ≡ None
unfolding decoding
number_cut = refl

-- a window where there is one, and none where there isn't
window_missing : changes_in 2 1 (hex (codes "0001 01 0001 61 0000000000000001 00000E10")) ≡ None
unfolding decoding
window_missing = refl

window_too_many : changes_in 1 1 (hex (codes "0001 01 0001 61 0000000000000001 00000E10 0200")) ≡ None
unfolding decoding
window_too_many = refl

-- the greatest number is no moment
greatest_moment : changes_in 2 1 (hex (codes "0001 04 0001 61 0000001E FFFFFFFFFFFFFFFF")) ≡ None
unfolding decoding
greatest_moment = refl

-- `t#` is no filter
no_filter : changes_in 2 1 (hex (codes "0001 05 0001 61 00000001 00000002 01 00000007 0002 7423") ++ sweep_spelled) ≡ None
unfolding decoding
no_filter = refl

-- a sweep for each shard
sweep_too_few : changes_in 2 2 subscribes_spelled ≡ None
unfolding decoding
sweep_too_few = refl

sweep_too_many : changes_in 2 1 (subscribes_spelled ++ sweep_spelled) ≡ None
unfolding decoding
sweep_too_many = refl

-- ---- what has a spelling

all_fit : have_spelling 2 1 (of_a begins ∷ of_a subscribes ∷ of_a (Issued (record { subscription = 1; batch = batch; sweep = sweep })) ∷ []) ≡ true
unfolding decoding
all_fit = refl

none_fits : have_spelling 2 1 [] ≡ false
unfolding decoding
none_fits = refl

another_count_of_shards : have_spelling 2 2 (one subscribes) ≡ false
unfolding decoding
another_count_of_shards = refl

moment_too_great : have_spelling 2 1 (one (Parted (record { expiry = 0; moment = 18446744073709551615 }))) ≡ false
unfolding decoding
moment_too_great = refl

number_too_great : have_spelling 2 1 (one (Bound 4294967296)) ≡ false
unfolding decoding
number_too_great = refl

-- in the first format no other window can be told
another_window : have_spelling 1 1 (one (Began (record { incarnation = 1; expiry = 0; window = 2048 }))) ≡ false
unfolding decoding
another_window = refl

-- ---- snapshots

abbrev of_none : KeptSnapshot
of_none = record { format = 2; shards = 1; workers = 1; worker = 0; sessions = no_kept_sessions }

nobody : spelled_snapshot of_none ≡ hex (codes "02 01 01 00 0000000000000001 00000000")
nobody = refl

nobody_read : snapshot_in (hex (codes "02 01 01 00 0000000000000001 00000000")) ≡ Some of_none
unfolding decoding
nobody_read = refl

-- a session that is bound, with a live subscription, its version, and a batch of one number on track 1 and three on track 2, of which the first
-- and the third are done
abbrev kept_batch : Batch
kept_batch = record batch { first1 = 1; count1 = 1; first2 = 1; count2 = 3 }

abbrev kept_batch_spelled : List ℕ
kept_batch_spelled =
    hex (codes "00000001 00 0000000000000003 00000004 0000000000000005 0000000000000006 FFFFFFFF 0000000000000001 0001 0000000000000001 0003")

abbrev session : KeptSession
session =
    record {
      client = codes "a";
      incarnation = 1;
      window = 512;
      expiry = 3600;
      parted = None;
      next_sub = 2;
      next_version = 2;
      tracks = record { issued1 = 1; acked = 0; issued2 = 3; received = 3; complete = 1; done = 3 ∷ [] };
      subs = record { number = 1; live = true; version = 1; filter = levels_of (codes "t/#"); sweeps = sweep ∷ [] } ∷ [];
      versions = record { number = 1; subscription = 1; options = 2; identifier = 7 } ∷ [];
      batches = kept_batch ∷ [];
    }

abbrev of_one : ℕ → KeptSnapshot
of_one format = record { format = format; shards = 1; workers = 2; worker = 1; sessions = record { list = session ∷ []; next = 2 } }

abbrev tracks_spelled : List ℕ
tracks_spelled =
    hex (codes "0000000000000001 0000000000000000 0000000000000003 0000000000000003 0000000000000001 0001 0000000000000003")

abbrev kept_spelled : List ℕ
kept_spelled =
    hex (codes "00000002 00000002") ++ tracks_spelled ++ hex (codes "0001 00000001 01 00000001 0003 742F23") ++ sweep_spelled
    ++ hex (codes "0001 00000001 00000001 02 00000007 0001") ++ kept_batch_spelled

abbrev one_spelled : List ℕ
one_spelled = hex (codes "02 01 02 01 0000000000000002 00000001 0001 61 0000000000000001 00000E10 0200 FFFFFFFFFFFFFFFF") ++ kept_spelled

somebody : spelled_snapshot (of_one 2) ≡ one_spelled
somebody = refl

somebody_read : snapshot_in one_spelled ≡ Some (of_one 2)
unfolding decoding
somebody_read = refl

somebody_fits : has_spelling (of_one 2) ≡ true
unfolding decoding
somebody_fits = refl

-- the same in the first format
old_somebody_read :
    snapshot_in (hex (codes "01 01 02 01 0000000000000002 00000001 0001 61 0000000000000001 00000E10 FFFFFFFFFFFFFFFF") ++ kept_spelled) ≡ Some (of_one 1)
unfolding decoding
old_somebody_read = refl

-- ---- what spells no snapshot

-- a format that there isn't
third_format : snapshot_in (hex (codes "03 01 01 00 0000000000000001 00000000")) ≡ None
unfolding decoding
third_format = refl

format_alone : snapshot_in (hex (codes "02")) ≡ None
unfolding decoding
format_alone = refl

-- fewer sessions than told, and more bytes
session_missing : snapshot_in (hex (codes "02 01 01 00 0000000000000001 00000001")) ≡ None
unfolding decoding
session_missing = refl

byte_behind_all : snapshot_in (hex (codes "02 01 01 00 0000000000000001 00000000 00")) ≡ None
unfolding decoding
byte_behind_all = refl

session_too_many : snapshot_in (hex (codes "02 01 02 01 0000000000000002 00000000 0001 61 0000000000000001 00000E10 0200 FFFFFFFFFFFFFFFF") ++ kept_spelled) ≡ None
unfolding decoding
session_too_many = refl

-- a live subscription has a sweep for each shard
other_shards : snapshot_in (hex (codes "02 02 02 01 0000000000000002 00000001 0001 61 0000000000000001 00000E10 0200 FFFFFFFFFFFFFFFF") ++ kept_spelled) ≡ None
unfolding decoding
other_shards = refl

-- whether a subscription is live is 0 or 1, and an ended one has no sweeps
abbrev with_flag : List ℕ → List ℕ
with_flag flag =
    hex (codes "02 01 02 01 0000000000000002 00000001 0001 61 0000000000000001 00000E10 0200 FFFFFFFFFFFFFFFF 00000002 00000002") ++ tracks_spelled
    ++ hex (codes "0001 00000001") ++ flag ++ hex (codes "00000001 0003 742F23") ++ sweep_spelled
    ++ hex (codes "0001 00000001 00000001 02 00000007 0001") ++ kept_batch_spelled

live_is_1 : snapshot_in (with_flag (1 ∷ [])) ≡ Some (of_one 2)
unfolding decoding
live_is_1 = refl

live_is_2 : snapshot_in (with_flag (2 ∷ [])) ≡ None
unfolding decoding
live_is_2 = refl

ended_with_sweeps : snapshot_in (with_flag (0 ∷ [])) ≡ None
unfolding decoding
ended_with_sweeps = refl

-- ---- sessions that may not be held

abbrev of_sessions : List KeptSession → ℕ → KeptSnapshot
of_sessions list next = record { format = 2; shards = 1; workers = 2; worker = 1; sessions = record { list = list; next = next } }

abbrev read_again : List KeptSession → ℕ → Option KeptSnapshot
read_again list next = snapshot_in (spelled_snapshot (of_sessions list next))

abbrev with_tracks : PlainTracks → KeptSession
with_tracks tracks = record session { tracks = tracks }

abbrev with_batch : Batch → KeptSession
with_batch b = record session { batches = b ∷ [] }

-- two sessions of different clients may
two_clients : read_again (session ∷ record session { client = codes "b"; incarnation = 2 } ∷ []) 3 ≡ Some (of_sessions (session ∷ record session { client = codes "b"; incarnation = 2 } ∷ []) 3)
unfolding decoding
two_clients = refl

-- clients and incarnations are distinct, and the latter ascend below the next one
client_twice : read_again (session ∷ record session { incarnation = 2 } ∷ []) 3 ≡ None
unfolding decoding
client_twice = refl

incarnation_twice : read_again (session ∷ record session { client = codes "b" } ∷ []) 3 ≡ None
unfolding decoding
incarnation_twice = refl

not_below_the_next : read_again (session ∷ []) 1 ≡ None
unfolding decoding
not_below_the_next = refl

-- so do the numbers of subscriptions and versions
sub_not_below_the_next : read_again (record session { next_sub = 1 } ∷ []) 2 ≡ None
unfolding decoding
sub_not_below_the_next = refl

version_not_below_the_next : read_again (record session { next_version = 1 } ∷ []) 2 ≡ None
unfolding decoding
version_not_below_the_next = refl

-- no mark passes the last number of its track
acked_past_the_last : read_again (with_tracks (record { issued1 = 1; acked = 2; issued2 = 3; received = 3; complete = 1; done = 3 ∷ [] }) ∷ []) 2 ≡ None
unfolding decoding
acked_past_the_last = refl

-- the numbers that are done ascend above the one behind `complete`, up to what was received
done_behind_complete : read_again (with_tracks (record { issued1 = 1; acked = 0; issued2 = 3; received = 3; complete = 1; done = 2 ∷ [] }) ∷ []) 2 ≡ None
unfolding decoding
done_behind_complete = refl

done_past_received : read_again (with_tracks (record { issued1 = 1; acked = 0; issued2 = 3; received = 2; complete = 1; done = 3 ∷ [] }) ∷ []) 2 ≡ None
unfolding decoding
done_past_received = refl

done_in_another_order : read_again ((record (with_tracks (record { issued1 = 1; acked = 0; issued2 = 6; received = 6; complete = 1; done = 5 ∷ 3 ∷ [] })) { batches = record kept_batch { count2 = 6 } ∷ [] }) ∷ []) 2 ≡ None
unfolding decoding
done_in_another_order = refl

-- what names another has it
no_version : read_again (record session { versions = [] } ∷ []) 2 ≡ None
unfolding decoding
no_version = refl

another_sub : read_again (record session { versions = record { number = 1; subscription = 2; options = 2; identifier = 7 } ∷ [] } ∷ []) 2 ≡ None
unfolding decoding
another_sub = refl

-- a batch is of one of the shards, has offsets, and its numbers are not past the last
shard_too_many : read_again (with_batch (record kept_batch { shard = 1 }) ∷ []) 2 ≡ None
unfolding decoding
shard_too_many = refl

no_offsets : read_again (with_batch (record kept_batch { to = 5 }) ∷ []) 2 ≡ None
unfolding decoding
no_offsets = refl

number_past_the_last : read_again (with_batch (record kept_batch { count2 = 4 }) ∷ []) 2 ≡ None
unfolding decoding
number_past_the_last = refl

-- each unfinished number lies in a batch
in_no_batch : read_again (with_batch (record kept_batch { count1 = 0 }) ∷ []) 2 ≡ None
unfolding decoding
in_no_batch = refl

-- a window is one of two
another_width : read_again (record session { window = 511 } ∷ []) 2 ≡ None
unfolding decoding
another_width = refl
