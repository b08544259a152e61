-- Which values have a spelling: each number, count and text is within its field's range, and as many sweeps are there as shards.
use Rattle.std.specs.Prelude.{◌≡◌, IsTrue, ℕ, ◌^◌, ◌==◌, ◌&&◌, ◌||◌, not, nat_lt, nat_le, if◌then◌else◌, Bool, true, List, length, is_none, Option, Some, None}
use Rattle.std.specs.List.{list_all}
use Rattle.wire_fields.specs.Text.{is_text}
use Rattle.topic_model.specs.Levels.{text_of_levels}
use Rattle.topic_model.specs.Matching.{is_last}
use Rattle.topic_model.specs.Texts.{has, filter_refusal}
use Rattle.shard_model.specs.declared.sweep.Sweep.{Sweep}
use Rattle.session_model.specs.declared.entry.Version.{Version}
use Rattle.session_model.specs.Change.{Subscribes}
use Rattle.session_model.specs.FitsSession.{greatest}
use Rattle.seq_tracks.specs.declared.marks.Marks.{Marks}
use Rattle.seq_tracks.specs.PlainTracks.{PlainTracks}
use Rattle.seq_tracks.specs.InOrder.{are_in_order}
use Rattle.session_state.specs.declared.batch.Batch.{Batch}
use Rattle.session_state.specs.declared.change.Change.{Change}
use Rattle.session_state.specs.declared.change.Effect.{Effect}
use Rattle.session_state.specs.declared.change.Effect.TheVariants.{Began, Ended, Bound, Parted, Subscribed, Replaced, Unsubscribed, Issued, Acked, Received, Done, Passed}
use Rattle.session_state.specs.declared.change.Began.{Began as Beginning}
use Rattle.session_state.specs.declared.change.Parted.{Parted as Parting}
use Rattle.session_state.specs.declared.change.Replaced.{Replaced as Replacing}
use Rattle.session_state.specs.declared.change.Issued.{Issued as Issuing}
use Rattle.session_state.specs.declared.change.Passed.{Passed as Passing}
use Rattle.session_state.specs.KeptSub.{KeptSub}
use Rattle.session_state.specs.KeptSession.{KeptSession, KeptSessions}
use Rattle.session_codec.specs.declared.formats.TheConstants.{FIRST_FORMAT, SECOND_FORMAT, FIRST_WINDOW, MOST_CHANGES}
use Rattle.session_codec.specs.Spelling.{marks_of, KeptSnapshot, spelled_changes, spelled_snapshot}
use Rattle.session_codec.specs.Soundness.{are_sound}
use Rattle.session_state.specs.SoundTest.{is_sound}

-- ---- fields

-- a number within one, two, four and eight bytes
abbrev pub fits_u8 : ℕ → Bool
fits_u8 n = nat_lt n (2 ^ 8)

abbrev pub fits_u16 : ℕ → Bool
fits_u16 n = nat_lt n (2 ^ 16)

abbrev pub fits_u32 : ℕ → Bool
fits_u32 n = nat_lt n (2 ^ 32)

abbrev pub fits_u64 : ℕ → Bool
fits_u64 n = nat_lt n (2 ^ 64)

-- UTF-8 without U+0000 whose length can be told (MQTT 1.5.4)
abbrev pub fits_text : List ℕ → Bool
fits_text text = fits_u16 (length text) && is_text text

-- at least one level, and none with a separator in it
abbrev pub are_levels : List (List ℕ) → Bool
are_levels levels = not (is_last levels) && list_all (λ (level : List ℕ). not (has 0x2F level)) levels

-- the levels of a filter (MQTT 4.7)
abbrev pub fits_filter : List (List ℕ) → Bool
fits_filter levels =
    fits_text (text_of_levels levels) && (is_none (filter_refusal (text_of_levels levels)) && are_levels levels)

-- a moment is any but the greatest number
abbrev pub fits_moment : ℕ → Bool
fits_moment moment = nat_lt moment greatest

abbrev pub fits_parting : Option ℕ → Bool
fits_parting None = true
fits_parting (Some moment) = fits_moment moment

-- what stands for the window in the first format is no other one
abbrev pub fits_window : ℕ → ℕ → Bool
fits_window format window = if format == FIRST_FORMAT then window == FIRST_WINDOW else fits_u16 window

-- ---- parts

abbrev pub fits_sweep : Sweep → Bool
fits_sweep s = fits_u64 s.generation && (fits_u64 s.base && (fits_u64 s.target && (fits_u32 s.stream && fits_u64 s.position)))

-- so many
abbrev pub are_sweeps : ℕ → List Sweep → Bool
are_sweeps count sweeps = (length sweeps == count) && list_all fits_sweep sweeps

abbrev pub fits_version : Version → Bool
fits_version v = fits_u32 v.number && (fits_u32 v.subscription && (fits_u8 v.options && fits_u32 v.identifier))

abbrev pub fits_run : ℕ → ℕ → Bool
fits_run first count = fits_u64 first && fits_u16 count

abbrev pub fits_batch : Batch → Bool
fits_batch b =
    fits_u32 b.version
    && (fits_u8 b.shard
    && (fits_u64 b.generation
    && (fits_u32 b.stream
    && (fits_u64 b.from && (fits_u64 b.to && (fits_u32 b.limit && (fits_run b.first1 b.count1 && fits_run b.first2 b.count2)))))))

-- a live subscription has a sweep for each shard, and an ended one has none
abbrev pub fits_sub : ℕ → KeptSub → Bool
fits_sub shards s =
    fits_u32 s.number && (fits_u32 s.version && (fits_filter s.filter && are_sweeps (if s.live then shards else 0) s.sweeps))

-- ---- changes

abbrev pub fits_began : ℕ → Beginning → Bool
fits_began format b = fits_u64 b.incarnation && (fits_u32 b.expiry && fits_window format b.window)

abbrev pub fits_parted : Parting → Bool
fits_parted p = fits_u32 p.expiry && fits_moment p.moment

abbrev pub fits_subscribed : ℕ → Subscribes → Bool
fits_subscribed shards s =
    fits_u32 s.subscription
    && (fits_u32 s.version
    && (fits_u8 s.options && (fits_u32 s.identifier && (fits_filter s.filter && are_sweeps shards s.sweeps))))

abbrev pub fits_replaced : Replacing → Bool
fits_replaced r = fits_u32 r.subscription && (fits_u32 r.version && (fits_u8 r.options && fits_u32 r.identifier))

abbrev pub fits_issued : Issuing → Bool
fits_issued i = fits_u32 i.subscription && (fits_batch i.batch && fits_sweep i.sweep)

abbrev pub fits_passed : Passing → Bool
fits_passed p = fits_u8 p.track && fits_u64 p.number

abbrev pub fits_effect : ℕ → ℕ → Effect → Bool
fits_effect format shards (Began b) = fits_began format b
fits_effect format shards Ended = true
fits_effect format shards (Bound expiry) = fits_u32 expiry
fits_effect format shards (Parted p) = fits_parted p
fits_effect format shards (Subscribed s) = fits_subscribed shards s
fits_effect format shards (Replaced r) = fits_replaced r
fits_effect format shards (Unsubscribed number) = fits_u32 number
fits_effect format shards (Issued i) = fits_issued i
fits_effect format shards (Acked number) = fits_u64 number
fits_effect format shards (Received number) = fits_u64 number
fits_effect format shards (Done number) = fits_u64 number
fits_effect format shards (Passed p) = fits_passed p

abbrev pub fits_change : ℕ → ℕ → Change → Bool
fits_change format shards c = fits_text c.client && fits_effect format shards c.effect

-- a record has 1 to 1,024 changes
abbrev pub is_change_count : ℕ → Bool
is_change_count count = nat_lt 0 count && nat_le count MOST_CHANGES

abbrev pub have_spelling : ℕ → ℕ → List Change → Bool
have_spelling format shards changes = is_change_count (length changes) && list_all (fits_change format shards) changes

-- ---- a snapshot

abbrev pub fits_marks : Marks → Bool
fits_marks m = fits_u64 m.issued1 && (fits_u64 m.acked && (fits_u64 m.issued2 && (fits_u64 m.received && fits_u64 m.complete)))

abbrev pub fits_done : List ℕ → Bool
fits_done done = fits_u16 (length done) && list_all fits_u64 done

abbrev pub fits_tracks : PlainTracks → Bool
fits_tracks t = fits_marks (marks_of t) && fits_done t.done

-- no mark passes the last number, and the numbers that are done ascend
abbrev pub have_tracks : PlainTracks → Bool
have_tracks t = fits_tracks t && are_in_order t

abbrev pub fits_subs : ℕ → List KeptSub → Bool
fits_subs shards subs = fits_u16 (length subs) && list_all (fits_sub shards) subs

abbrev pub fits_versions : List Version → Bool
fits_versions versions = fits_u16 (length versions) && list_all fits_version versions

-- a batch of a snapshot is of one of the shards
abbrev pub is_of_shard : ℕ → Batch → Bool
is_of_shard shards b = nat_lt b.shard shards

abbrev pub fits_batches : ℕ → List Batch → Bool
fits_batches shards batches = fits_u16 (length batches) && list_all (λ (b : Batch). fits_batch b && is_of_shard shards b) batches

abbrev pub fits_holder : ℕ → KeptSession → Bool
fits_holder format m =
    fits_text m.client
    && (fits_u64 m.incarnation && (fits_u32 m.expiry && (fits_window format m.window && fits_parting m.parted)))

abbrev pub fits_kept : ℕ → KeptSession → Bool
fits_kept shards m =
    fits_u32 m.next_sub
    && (fits_u32 m.next_version
    && (have_tracks m.tracks && (fits_subs shards m.subs && (fits_versions m.versions && fits_batches shards m.batches))))

abbrev pub fits_session : ℕ → ℕ → KeptSession → Bool
fits_session format shards m = fits_holder format m && fits_kept shards m

-- a session that may be held has a spelling, and so have the sessions of a worker
abbrev pub may_be_held : ℕ → ℕ → KeptSession → Bool
may_be_held format shards m = fits_session format shards m && is_sound m

abbrev pub fits_sessions : ℕ → ℕ → KeptSessions → Bool
fits_sessions format shards s =
    (fits_u64 s.next && (fits_u32 (length s.list) && list_all (may_be_held format shards) s.list)) && are_sound s

abbrev pub is_format : ℕ → Bool
is_format format = (format == FIRST_FORMAT) || (format == SECOND_FORMAT)

abbrev pub has_spelling : KeptSnapshot → Bool
has_spelling s =
    is_format s.format
    && (fits_u8 s.shards && (fits_u8 s.workers && (fits_u8 s.worker && fits_sessions s.format s.shards s.sessions)))

-- ---- bytes and what they spell

-- a record of changes has a spelling, and the bytes are it
pub record SpellsChanges (format shards : ℕ) (bytes : List ℕ) (changes : List Change) : Type 0 where
  pub has : IsTrue (have_spelling format shards changes)
  pub is : bytes ≡ spelled_changes format changes

-- the same of a snapshot
pub record SpellsSnapshot (bytes : List ℕ) (snapshot : KeptSnapshot) : Type 0 where
  pub has : IsTrue (has_spelling snapshot)
  pub is : bytes ≡ spelled_snapshot snapshot
