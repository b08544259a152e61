-- How the journal of a worker's sessions is spelled: its records of changes, and its snapshots.
use Rattle.std.specs.Prelude.{ℕ, ◌==◌, if◌then◌else◌, Bool, List, [], ◌++◌, length, Option, Some, None}
use Rattle.std.specs.List.{flat_map}
use Rattle.wire_fields.specs.Spelled.{spelled_u8, spelled_u16, spelled_u32, spelled_u64, spelled_text}
use Rattle.topic_model.specs.Levels.{text_of_levels}
use Rattle.shard_model.specs.declared.sweep.Sweep.{Sweep}
use Rattle.session_model.specs.declared.entry.Version.{Version}
use Rattle.session_model.specs.Change.{Subscribes}
use Rattle.session_model.specs.FitsSession.{greatest}
use Rattle.seq_tracks.specs.declared.marks.Marks.{Marks}
use Rattle.seq_tracks.specs.PlainTracks.{PlainTracks}
use Rattle.session_state.specs.declared.batch.Batch.{Batch}
use Rattle.session_state.specs.declared.change.Change.{Change}
use Rattle.session_state.specs.declared.change.Effect.{Effect}
use Rattle.session_state.specs.declared.change.Effect.TheVariants.{Began, Ended, Bound, Parted, Subscribed, Replaced, Unsubscribed, Issued, Acked, Received, Done, Passed}
use Rattle.session_state.specs.declared.change.Began.{Began as Beginning}
use Rattle.session_state.specs.declared.change.Parted.{Parted as Parting}
use Rattle.session_state.specs.declared.change.Replaced.{Replaced as Replacing}
use Rattle.session_state.specs.declared.change.Issued.{Issued as Issuing}
use Rattle.session_state.specs.declared.change.Passed.{Passed as Passing}
use Rattle.session_state.specs.KeptSub.{KeptSub}
use Rattle.session_state.specs.KeptSession.{KeptSession, KeptSessions}
use Rattle.session_codec.specs.declared.formats.TheConstants.{FIRST_FORMAT, SECOND_FORMAT}

-- in the first format no session has a window in its bytes
abbrev pub spelled_window : ℕ → ℕ → List ℕ
spelled_window format window = if format == FIRST_FORMAT then [] else spelled_u16 window

-- ---- parts

abbrev pub bit : Bool → ℕ
bit b = if b then 1 else 0

-- the levels of a filter, as its text
abbrev pub spelled_filter : List (List ℕ) → List ℕ
spelled_filter levels = spelled_text (text_of_levels levels)

-- how far a subscription is in a shard
abbrev pub spelled_sweep : Sweep → List ℕ
spelled_sweep s =
    spelled_u64 s.generation ++ (spelled_u64 s.base ++ (spelled_u64 s.target ++ (spelled_u32 s.stream ++ spelled_u64 s.position)))

-- the sweeps of all shards, in their order
abbrev pub spelled_sweeps : List Sweep → List ℕ
spelled_sweeps sweeps = flat_map spelled_sweep sweeps

-- a version, with its options byte and its Subscription Identifier, 0 for none (MQTT 3.8.3.1, 3.8.2.1.2)
abbrev pub spelled_version : Version → List ℕ
spelled_version v = spelled_u32 v.number ++ (spelled_u32 v.subscription ++ (spelled_u8 v.options ++ spelled_u32 v.identifier))

-- the numbers of a batch on one track: the first, and how many there are
abbrev pub spelled_run : ℕ → ℕ → List ℕ
spelled_run first count = spelled_u64 first ++ spelled_u16 count

-- what was issued of one stream of a shard under one version
abbrev pub spelled_batch : Batch → List ℕ
spelled_batch b =
    spelled_u32 b.version
    ++ (spelled_u8 b.shard
    ++ (spelled_u64 b.generation
    ++ (spelled_u32 b.stream
    ++ (spelled_u64 b.from
    ++ (spelled_u64 b.to ++ (spelled_u32 b.limit ++ (spelled_run b.first1 b.count1 ++ spelled_run b.first2 b.count2)))))))

-- a subscription, and whether it is live: only a live one has sweeps
abbrev pub spelled_sub : KeptSub → List ℕ
spelled_sub s =
    spelled_u32 s.number
    ++ (spelled_u8 (bit s.live) ++ (spelled_u32 s.version ++ (spelled_filter s.filter ++ spelled_sweeps s.sweeps)))

-- ---- changes

-- the byte that tells the kind of a change
abbrev pub tag_of : Effect → ℕ
tag_of (Began b) = 1
tag_of Ended = 2
tag_of (Bound expiry) = 3
tag_of (Parted p) = 4
tag_of (Subscribed s) = 5
tag_of (Replaced r) = 6
tag_of (Unsubscribed number) = 7
tag_of (Issued i) = 8
tag_of (Acked number) = 9
tag_of (Received number) = 10
tag_of (Done number) = 11
tag_of (Passed p) = 12

abbrev pub spelled_began : ℕ → Beginning → List ℕ
spelled_began format b = spelled_u64 b.incarnation ++ (spelled_u32 b.expiry ++ spelled_window format b.window)

abbrev pub spelled_parted : Parting → List ℕ
spelled_parted p = spelled_u32 p.expiry ++ spelled_u64 p.moment

abbrev pub spelled_subscribed : Subscribes → List ℕ
spelled_subscribed s =
    spelled_u32 s.subscription
    ++ (spelled_u32 s.version
    ++ (spelled_u8 s.options ++ (spelled_u32 s.identifier ++ (spelled_filter s.filter ++ spelled_sweeps s.sweeps))))

abbrev pub spelled_replaced : Replacing → List ℕ
spelled_replaced r = spelled_u32 r.subscription ++ (spelled_u32 r.version ++ (spelled_u8 r.options ++ spelled_u32 r.identifier))

abbrev pub spelled_issued : Issuing → List ℕ
spelled_issued i = spelled_u32 i.subscription ++ (spelled_batch i.batch ++ spelled_sweep i.sweep)

abbrev pub spelled_passed : Passing → List ℕ
spelled_passed p = spelled_u8 p.track ++ spelled_u64 p.number

-- what stands behind the client
abbrev pub spelled_effect : ℕ → Effect → List ℕ
spelled_effect format (Began b) = spelled_began format b
spelled_effect format Ended = []
spelled_effect format (Bound expiry) = spelled_u32 expiry
spelled_effect format (Parted p) = spelled_parted p
spelled_effect format (Subscribed s) = spelled_subscribed s
spelled_effect format (Replaced r) = spelled_replaced r
spelled_effect format (Unsubscribed number) = spelled_u32 number
spelled_effect format (Issued i) = spelled_issued i
spelled_effect format (Acked number) = spelled_u64 number
spelled_effect format (Received number) = spelled_u64 number
spelled_effect format (Done number) = spelled_u64 number
spelled_effect format (Passed p) = spelled_passed p

-- the kind, the client, and what happened to its session
abbrev pub spelled_change : ℕ → Change → List ℕ
spelled_change format c = spelled_u8 (tag_of c.effect) ++ (spelled_text c.client ++ spelled_effect format c.effect)

-- a record: how many changes it has, and these in order
abbrev pub spelled_changes : ℕ → List Change → List ℕ
spelled_changes format changes = spelled_u16 (length changes) ++ flat_map (spelled_change format) changes

-- ---- a snapshot

-- how far each track is
abbrev pub marks_of : PlainTracks → Marks
marks_of t = record { issued1 = t.issued1; acked = t.acked; issued2 = t.issued2; received = t.received; complete = t.complete }

abbrev pub spelled_marks : Marks → List ℕ
spelled_marks m =
    spelled_u64 m.issued1 ++ (spelled_u64 m.acked ++ (spelled_u64 m.issued2 ++ (spelled_u64 m.received ++ spelled_u64 m.complete)))

-- the numbers that were done out of order, with how many there are
abbrev pub spelled_done : List ℕ → List ℕ
spelled_done done = spelled_u16 (length done) ++ flat_map spelled_u64 done

abbrev pub spelled_tracks : PlainTracks → List ℕ
spelled_tracks t = spelled_marks (marks_of t) ++ spelled_done t.done

-- the moment of parting, with all bits set where there was none
abbrev pub spelled_moment : Option ℕ → List ℕ
spelled_moment None = spelled_u64 greatest
spelled_moment (Some moment) = spelled_u64 moment

-- subscriptions, versions and batches, each with how many there are
abbrev pub spelled_subs : List KeptSub → List ℕ
spelled_subs subs = spelled_u16 (length subs) ++ flat_map spelled_sub subs

abbrev pub spelled_versions : List Version → List ℕ
spelled_versions versions = spelled_u16 (length versions) ++ flat_map spelled_version versions

abbrev pub spelled_batches : List Batch → List ℕ
spelled_batches batches = spelled_u16 (length batches) ++ flat_map spelled_batch batches

-- whose session it is, and what its connection told
abbrev pub spelled_holder : ℕ → KeptSession → List ℕ
spelled_holder format m =
    spelled_text m.client
    ++ (spelled_u64 m.incarnation ++ (spelled_u32 m.expiry ++ (spelled_window format m.window ++ spelled_moment m.parted)))

-- the numbers of the next subscription and version, and what is kept
abbrev pub spelled_kept : KeptSession → List ℕ
spelled_kept m =
    spelled_u32 m.next_sub
    ++ (spelled_u32 m.next_version
    ++ (spelled_tracks m.tracks ++ (spelled_subs m.subs ++ (spelled_versions m.versions ++ spelled_batches m.batches))))

abbrev pub spelled_session : ℕ → KeptSession → List ℕ
spelled_session format m = spelled_holder format m ++ spelled_kept m

-- the sessions of a worker in order of creation, and the number of the next one before them
abbrev pub spelled_sessions : ℕ → KeptSessions → List ℕ
spelled_sessions format s = spelled_u64 s.next ++ (spelled_u32 (length s.list) ++ flat_map (spelled_session format) s.list)

-- a snapshot: its format, how many shards and workers there are, which worker it is of, and the sessions
pub record KeptSnapshot : Type 0 where
  pub format : ℕ
  pub shards : ℕ
  pub workers : ℕ
  pub worker : ℕ
  pub sessions : KeptSessions

-- one that is written
abbrev pub snapshot_to_write : ℕ → ℕ → ℕ → KeptSessions → KeptSnapshot
snapshot_to_write shards workers worker sessions =
    record { format = SECOND_FORMAT; shards = shards; workers = workers; worker = worker; sessions = sessions }

abbrev pub spelled_snapshot : KeptSnapshot → List ℕ
spelled_snapshot s =
    spelled_u8 s.format
    ++ (spelled_u8 s.shards ++ (spelled_u8 s.workers ++ (spelled_u8 s.worker ++ spelled_sessions s.format s.sessions)))
