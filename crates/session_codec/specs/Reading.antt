-- Reading the journal of a worker's sessions: what bytes spell, none where they spell nothing.
use Rattle.std.specs.Prelude.{ℕ, zero, suc, ◌==◌, nat_lt, if◌then◌else◌, is_none, Bool, List, [], ◌∷◌, Option, Some, None, Result, Ok, Err}
use Rattle.wire_fields.specs.declared.cut.Cut.{Cut}
use Rattle.wire_fields.specs.Reading.{u8_at, u16_at, u32_at, u64_at, text_at}
use Rattle.topic_model.specs.Levels.{levels_of}
use Rattle.topic_model.specs.Texts.{filter_refusal}
use Rattle.shard_model.specs.declared.sweep.Sweep.{Sweep}
use Rattle.session_model.specs.declared.entry.Version.{Version}
use Rattle.session_model.specs.Change.{Subscribes}
use Rattle.session_model.specs.FitsSession.{greatest}
use Rattle.seq_tracks.specs.declared.marks.Marks.{Marks}
use Rattle.seq_tracks.specs.PlainTracks.{PlainTracks}
use Rattle.seq_tracks.specs.InOrder.{are_in_order, tracks_of}
use Rattle.session_state.specs.declared.batch.Batch.{Batch}
use Rattle.session_state.specs.declared.change.Change.{Change}
use Rattle.session_state.specs.declared.change.Effect.{Effect}
use Rattle.session_state.specs.declared.change.Effect.TheVariants.{Began, Ended, Bound, Parted, Subscribed, Replaced, Unsubscribed, Issued, Acked, Received, Done, Passed}
use Rattle.session_state.specs.declared.change.Began.{Began as Beginning}
use Rattle.session_state.specs.declared.change.Parted.{Parted as Parting}
use Rattle.session_state.specs.declared.change.Replaced.{Replaced as Replacing}
use Rattle.session_state.specs.declared.change.Issued.{Issued as Issuing}
use Rattle.session_state.specs.declared.change.Passed.{Passed as Passing}
use Rattle.session_state.specs.KeptSub.{KeptSub}
use Rattle.session_state.specs.KeptSession.{KeptSession, KeptSessions}
use Rattle.session_codec.specs.declared.formats.TheConstants.{FIRST_FORMAT, FIRST_WINDOW}
use Rattle.session_codec.specs.Spelling.{KeptSnapshot}
use Rattle.session_codec.specs.HasSpelling.{fits_moment, is_change_count, is_of_shard, is_format}
use Rattle.session_codec.specs.Soundness.{are_sound}
use Rattle.session_state.specs.SoundTest.{is_sound}

-- ---- ways to read: each gives what stands at the front of bytes, and the bytes behind it

infixl 10 ◌>>=◌
abbrev pub ◌>>=◌ : {A B : Type 0} → Option A → (A → Option B) → Option B
(Some x) >>= f = f x
None >>= f = None

-- one part and then another, which may depend on the first
abbrev pub then_by : {A B : Type 0} → (List ℕ → Option (A × List ℕ)) → (A → List ℕ → Option (B × List ℕ)) → List ℕ → Option ((A × B) × List ℕ)
then_by one other bytes = one bytes >>= λ x. other x.0 x.1 >>= λ y. Some ((x.0, y.0), y.1)

-- two parts
abbrev pub both : {A B : Type 0} → (List ℕ → Option (A × List ℕ)) → (List ℕ → Option (B × List ℕ)) → List ℕ → Option ((A × B) × List ℕ)
both one other bytes = then_by one (λ x. other) bytes

-- a part that passes a test
abbrev pub passing : {A : Type 0} → (A → Bool) → (List ℕ → Option (A × List ℕ)) → List ℕ → Option (A × List ℕ)
passing test read bytes = read bytes >>= λ x. if test x.0 then Some x else None

-- what is made of a part
abbrev pub made : {A B : Type 0} → (A → B) → (List ℕ → Option (A × List ℕ)) → List ℕ → Option (B × List ℕ)
made make read bytes = read bytes >>= λ x. Some (make x.0, x.1)

-- nothing
abbrev pub nothing_at : List ℕ → Option (Unit {0} × List ℕ)
nothing_at bytes = Some (tt, bytes)

-- so many parts
abbrev pub onto : {A : Type 0} → A × List ℕ → Option (List A × List ℕ) → Option (List A × List ℕ)
onto x None = None
onto x (Some xs) = Some (x.0 ∷ xs.0, xs.1)

unfoldable pub so_many : {A : Type 0} → (List ℕ → Option (A × List ℕ)) → ℕ → List ℕ → Option (List A × List ℕ)
so_many read zero bytes = Some ([], bytes)
so_many read (suc n) bytes = read bytes >>= λ x. onto x (so_many read n x.1)

-- how many there are, and then so many
abbrev pub counted : {A : Type 0} → (List ℕ → Option (ℕ × List ℕ)) → (List ℕ → Option (A × List ℕ)) → List ℕ → Option (List A × List ℕ)
counted count read bytes = count bytes >>= λ n. so_many read n.0 n.1

-- a part that fills the bytes
abbrev pub at_end : {A : Type 0} → A → List ℕ → Option A
at_end x [] = Some x
at_end x (b ∷ bytes) = None

abbrev pub filling : {A : Type 0} → (List ℕ → Option (A × List ℕ)) → List ℕ → Option A
filling read bytes = read bytes >>= λ x. at_end x.0 x.1

-- ---- fields

abbrev pub if_field : {A : Type 0} → Result A Cut → Option A
if_field (Ok x) = Some x
if_field (Err cut) = None

abbrev pub byte_at : List ℕ → Option (ℕ × List ℕ)
byte_at bytes = if_field (u8_at bytes)

abbrev pub two_at : List ℕ → Option (ℕ × List ℕ)
two_at bytes = if_field (u16_at bytes)

abbrev pub four_at : List ℕ → Option (ℕ × List ℕ)
four_at bytes = if_field (u32_at bytes)

abbrev pub eight_at : List ℕ → Option (ℕ × List ℕ)
eight_at bytes = if_field (u64_at bytes)

abbrev pub name_at : List ℕ → Option (List ℕ × List ℕ)
name_at bytes = if_field (text_at bytes)

-- 0 or 1
abbrev pub flag_at : List ℕ → Option (Bool × List ℕ)
flag_at bytes = made (λ n. n == 1) (passing (λ n. nat_lt n 2) byte_at) bytes

-- a text that is a filter, as its levels (MQTT 4.7)
abbrev pub filter_at : List ℕ → Option (List (List ℕ) × List ℕ)
filter_at bytes = made levels_of (passing (λ text. is_none (filter_refusal text)) name_at) bytes

-- any number but the greatest
abbrev pub moment_at : List ℕ → Option (ℕ × List ℕ)
moment_at bytes = passing fits_moment eight_at bytes

-- what isn't there in the first format
abbrev pub window_at : ℕ → List ℕ → Option (ℕ × List ℕ)
window_at format bytes = if format == FIRST_FORMAT then Some (FIRST_WINDOW, bytes) else two_at bytes

-- ---- parts

abbrev pub sweep_of : ℕ × (ℕ × (ℕ × (ℕ × ℕ))) → Sweep
sweep_of (generation, (base, (target, (stream, position)))) =
    record { generation = generation; base = base; target = target; stream = stream; position = position }

abbrev pub sweep_at : List ℕ → Option (Sweep × List ℕ)
sweep_at bytes = made sweep_of (both eight_at (both eight_at (both eight_at (both four_at eight_at)))) bytes

abbrev pub version_of : ℕ × (ℕ × (ℕ × ℕ)) → Version
version_of (number, (subscription, (options, identifier))) =
    record { number = number; subscription = subscription; options = options; identifier = identifier }

abbrev pub version_at : List ℕ → Option (Version × List ℕ)
version_at bytes = made version_of (both four_at (both four_at (both byte_at four_at))) bytes

-- the first number of a batch on a track, and how many there are
abbrev pub run_at : List ℕ → Option ((ℕ × ℕ) × List ℕ)
run_at bytes = both eight_at two_at bytes

abbrev pub batch_of : ℕ × (ℕ × (ℕ × (ℕ × (ℕ × (ℕ × (ℕ × ((ℕ × ℕ) × (ℕ × ℕ)))))))) → Batch
batch_of (version, (shard, (generation, (stream, (from, (to, (limit, ((first1, count1), (first2, count2))))))))) =
    record {
      version = version;
      shard = shard;
      generation = generation;
      stream = stream;
      from = from;
      to = to;
      limit = limit;
      first1 = first1;
      count1 = count1;
      first2 = first2;
      count2 = count2;
    }

abbrev pub batch_at : List ℕ → Option (Batch × List ℕ)
batch_at bytes =
    made batch_of
    (both four_at (both byte_at (both eight_at (both four_at (both eight_at (both eight_at (both four_at (both run_at run_at)))))))) bytes

-- only a live subscription has sweeps
abbrev pub sub_of : ℕ × (Bool × (ℕ × (List (List ℕ) × List Sweep))) → KeptSub
sub_of (number, (live, (version, (levels, sweeps)))) =
    record { number = number; live = live; version = version; filter = levels; sweeps = sweeps }

abbrev pub sub_at : ℕ → List ℕ → Option (KeptSub × List ℕ)
sub_at shards bytes =
    made sub_of
    (both four_at (then_by flag_at (λ live. both four_at (both filter_at (so_many sweep_at (if live then shards else 0)))))) bytes

-- ---- changes

abbrev pub began_of : ℕ × (ℕ × ℕ) → Beginning
began_of (incarnation, (expiry, window)) = record { incarnation = incarnation; expiry = expiry; window = window }

abbrev pub began_at : ℕ → List ℕ → Option (Beginning × List ℕ)
began_at format bytes = made began_of (both eight_at (both four_at (window_at format))) bytes

abbrev pub parted_of : ℕ × ℕ → Parting
parted_of (expiry, moment) = record { expiry = expiry; moment = moment }

abbrev pub parted_at : List ℕ → Option (Parting × List ℕ)
parted_at bytes = made parted_of (both four_at moment_at) bytes

abbrev pub subscribed_of : ℕ × (ℕ × (ℕ × (ℕ × (List (List ℕ) × List Sweep)))) → Subscribes
subscribed_of (subscription, (version, (options, (identifier, (levels, sweeps))))) =
    record {
      subscription = subscription;
      version = version;
      options = options;
      identifier = identifier;
      filter = levels;
      sweeps = sweeps;
    }

abbrev pub subscribed_at : ℕ → List ℕ → Option (Subscribes × List ℕ)
subscribed_at shards bytes =
    made subscribed_of
    (both four_at (both four_at (both byte_at (both four_at (both filter_at (so_many sweep_at shards)))))) bytes

abbrev pub replaced_of : ℕ × (ℕ × (ℕ × ℕ)) → Replacing
replaced_of (subscription, (version, (options, identifier))) =
    record { subscription = subscription; version = version; options = options; identifier = identifier }

abbrev pub replaced_at : List ℕ → Option (Replacing × List ℕ)
replaced_at bytes = made replaced_of (both four_at (both four_at (both byte_at four_at))) bytes

abbrev pub issued_of : ℕ × (Batch × Sweep) → Issuing
issued_of (subscription, (batch, sweep)) = record { subscription = subscription; batch = batch; sweep = sweep }

abbrev pub issued_at : List ℕ → Option (Issuing × List ℕ)
issued_at bytes = made issued_of (both four_at (both batch_at sweep_at)) bytes

abbrev pub passed_of : ℕ × ℕ → Passing
passed_of (track, number) = record { track = track; number = number }

abbrev pub passed_at : List ℕ → Option (Passing × List ℕ)
passed_at bytes = made passed_of (both byte_at eight_at) bytes

-- what happened, by the byte that tells its kind
abbrev pub ended_of : Unit {0} → Effect
ended_of done = Ended

abbrev pub effect_at : ℕ → ℕ → ℕ → List ℕ → Option (Effect × List ℕ)
effect_at format shards tag bytes =
    if tag == 1 then made Began (began_at format) bytes
    else if tag == 2 then made ended_of nothing_at bytes
    else if tag == 3 then made Bound four_at bytes
    else if tag == 4 then made Parted parted_at bytes
    else if tag == 5 then made Subscribed (subscribed_at shards) bytes
    else if tag == 6 then made Replaced replaced_at bytes
    else if tag == 7 then made Unsubscribed four_at bytes
    else if tag == 8 then made Issued issued_at bytes
    else if tag == 9 then made Acked eight_at bytes
    else if tag == 10 then made Received eight_at bytes
    else if tag == 11 then made Done eight_at bytes
    else if tag == 12 then made Passed passed_at bytes
    else None

abbrev pub change_of : ℕ × (List ℕ × Effect) → Change
change_of (tag, (client, effect)) = record { client = client; effect = effect }

abbrev pub change_at : ℕ → ℕ → List ℕ → Option (Change × List ℕ)
change_at format shards bytes = made change_of (then_by byte_at (λ tag. both name_at (effect_at format shards tag))) bytes

-- how many changes a record has
abbrev pub change_count_at : List ℕ → Option (ℕ × List ℕ)
change_count_at bytes = passing is_change_count two_at bytes

abbrev pub changes_at : ℕ → ℕ → List ℕ → Option (List Change × List ℕ)
changes_at format shards bytes = counted change_count_at (change_at format shards) bytes

-- the changes that a record's bytes spell
unfoldable pub changes_in : ℕ → ℕ → List ℕ → Option (List Change)
changes_in format shards bytes = filling (changes_at format shards) bytes

-- ---- a snapshot

abbrev pub marks_with : ℕ × (ℕ × (ℕ × (ℕ × ℕ))) → Marks
marks_with (issued1, (acked, (issued2, (received, complete)))) =
    record { issued1 = issued1; acked = acked; issued2 = issued2; received = received; complete = complete }

abbrev pub marks_at : List ℕ → Option (Marks × List ℕ)
marks_at bytes = made marks_with (both eight_at (both eight_at (both eight_at (both eight_at eight_at)))) bytes

abbrev pub done_at : List ℕ → Option (List ℕ × List ℕ)
done_at bytes = counted two_at eight_at bytes

abbrev pub tracks_with : Marks × List ℕ → PlainTracks
tracks_with (marks, done) = tracks_of marks done

abbrev pub tracks_at : List ℕ → Option (PlainTracks × List ℕ)
tracks_at bytes = passing are_in_order (made tracks_with (both marks_at done_at)) bytes

-- the greatest number stands for no moment
abbrev pub parting_of : ℕ → Option ℕ
parting_of n = if n == greatest then None else Some n

abbrev pub parting_at : List ℕ → Option (Option ℕ × List ℕ)
parting_at bytes = made parting_of eight_at bytes

abbrev pub subs_at : ℕ → List ℕ → Option (List KeptSub × List ℕ)
subs_at shards bytes = counted two_at (sub_at shards) bytes

abbrev pub versions_at : List ℕ → Option (List Version × List ℕ)
versions_at bytes = counted two_at version_at bytes

abbrev pub kept_batch_at : ℕ → List ℕ → Option (Batch × List ℕ)
kept_batch_at shards bytes = passing (is_of_shard shards) batch_at bytes

abbrev pub batches_at : ℕ → List ℕ → Option (List Batch × List ℕ)
batches_at shards bytes = counted two_at (kept_batch_at shards) bytes

-- whose session it is, and what its connection told
abbrev pub holder_at : ℕ → List ℕ → Option ((List ℕ × (ℕ × (ℕ × (ℕ × Option ℕ)))) × List ℕ)
holder_at format bytes = both name_at (both eight_at (both four_at (both (window_at format) parting_at))) bytes

-- what it keeps
abbrev pub kept_at : ℕ → List ℕ → Option ((ℕ × (ℕ × (PlainTracks × (List KeptSub × (List Version × List Batch))))) × List ℕ)
kept_at shards bytes = both four_at (both four_at (both tracks_at (both (subs_at shards) (both versions_at (batches_at shards))))) bytes

abbrev pub session_of : (List ℕ × (ℕ × (ℕ × (ℕ × Option ℕ)))) × (ℕ × (ℕ × (PlainTracks × (List KeptSub × (List Version × List Batch))))) → KeptSession
session_of ((client, (incarnation, (expiry, (window, parted)))), (next_sub, (next_version, (tracks, (subs, (versions, batches)))))) =
    record {
      client = client;
      incarnation = incarnation;
      window = window;
      expiry = expiry;
      parted = parted;
      next_sub = next_sub;
      next_version = next_version;
      tracks = tracks;
      subs = subs;
      versions = versions;
      batches = batches;
    }

abbrev pub session_at : ℕ → ℕ → List ℕ → Option (KeptSession × List ℕ)
session_at format shards bytes = passing is_sound (made session_of (both (holder_at format) (kept_at shards))) bytes

abbrev pub sessions_of : ℕ × List KeptSession → KeptSessions
sessions_of (next, list) = record { list = list; next = next }

abbrev pub sessions_at : ℕ → ℕ → List ℕ → Option (KeptSessions × List ℕ)
sessions_at format shards bytes = passing are_sound (made sessions_of (both eight_at (counted four_at (session_at format shards)))) bytes

abbrev pub format_at : List ℕ → Option (ℕ × List ℕ)
format_at bytes = passing is_format byte_at bytes

abbrev pub snapshot_of : ℕ × (ℕ × (ℕ × (ℕ × KeptSessions))) → KeptSnapshot
snapshot_of (format, (shards, (workers, (worker, sessions)))) =
    record { format = format; shards = shards; workers = workers; worker = worker; sessions = sessions }

abbrev pub snapshot_at : List ℕ → Option (KeptSnapshot × List ℕ)
snapshot_at bytes =
    made snapshot_of
    (then_by format_at (λ format. then_by byte_at (λ shards. both byte_at (both byte_at (sessions_at format shards))))) bytes

-- the snapshot that bytes spell
unfoldable pub snapshot_in : List ℕ → Option KeptSnapshot
snapshot_in bytes = filling snapshot_at bytes
