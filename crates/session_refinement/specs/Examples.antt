-- Computed examples: batches that are read again, and what is kept of a session with two batches of which one is
-- finished, an ended subscription and a silent batch.
use Rattle.std.specs.Prelude.{ℕ, ◌≡◌, true, false, List, [], ◌∷◌, length, map, codes, refl}
use Rattle.topic_model.specs.Profile.{Profile, whole, default_config}
use Rattle.topic_model.specs.Levels.{levels_of}
use Rattle.shard_model.specs.declared.sweep.Sweep.{Sweep}
use Rattle.shard_model.specs.ShardList.{ShardList, opening_list}
use Rattle.shard_model.specs.Storing.{Store, store}
use Rattle.shard_model.specs.Examples.{said}
use Rattle.session_model.specs.declared.entry.Entry.{Entry}
use Rattle.session_model.specs.declared.entry.Kind.{Kind}
use Rattle.session_model.specs.declared.entry.Kind.TheVariants.{Track1, Track2, Zero, Silent}
use Rattle.session_model.specs.declared.entry.Version.{Version}
use Rattle.session_model.specs.PlainSession.{PlainSession, begun_session}
use Rattle.session_model.specs.Unfinished.{kept_subscriptions}
use Rattle.session_model.specs.Acting.{changed_session}
use Rattle.session_state.specs.declared.batch.Batch.{Batch}
use Rattle.session_state.specs.declared.change.Effect.{Effect}
use Rattle.session_state.specs.declared.change.Effect.TheVariants.{Subscribed, Unsubscribed, Issued, Received, Done}
use Rattle.session_state.specs.KeptSub.{KeptSub}
use Rattle.session_state.specs.KeptSession.{KeptSession, begun_kept}
use Rattle.session_state.specs.KeptActing.{kept_changed, kept_batches}
use Rattle.session_refinement.specs.ReadAgain.{entries_again, holds, kept_limit}
use Rattle.session_refinement.specs.PlainChange.{plain_effect}
use Rattle.session_refinement.specs.StandFor.{Group, entries_of, batches_of, kept_sub, positions_of, generations_of}

-- ---- a list of five messages, of QoS 2, 1, 2, 2 and 0, the fourth of another topic

abbrev list : ShardList
list =
    store (opening_list default_config)
    (Store (said 2 1 (codes "t/a")) ∷ Store (said 1 0 (codes "t/a")) ∷ Store (said 2 2 (codes "t/a"))
    ∷ Store (said 2 3 (codes "u")) ∷ Store (said 0 0 (codes "t/a")) ∷ []) 0

-- where topics aren't learned there is one stream
abbrev unlearned : Profile
unlearned = record whole { learns = false }

abbrev batch : Batch
batch =
    record {
      version = 1;
      shard = 0;
      generation = 0;
      stream = 0;
      from = 0;
      to = 5;
      limit = 4294967295;
      first1 =
          7;
      count1 = 1;
      first2 = 9;
      count2 = 2;
    }

abbrev version : ℕ → Version
version options = record { number = 1; subscription = 1; options = options; identifier = 0 }

abbrev kinds : List Entry → List Kind
kinds es = map (λ (e : Entry). e.kind) es

abbrev again : ℕ → Batch → List Kind
again options b = kinds (entries_again unlearned list (codes "c") (version options) (levels_of (codes "t/#")) b)

-- each of its own track, the numbers going on from the first ones; what doesn't match isn't there
read_again : again 2 batch ≡ Track2 9 ∷ Track1 7 ∷ Track2 10 ∷ Zero ∷ []
read_again = refl

offsets_again : map (λ (e : Entry). e.offset)
    (entries_again unlearned list (codes "c") (version 2) (levels_of (codes "t/#")) batch) ≡ 0 ∷ 1 ∷ 2 ∷ 4 ∷ []
offsets_again = refl

-- the lesser QoS
of_lesser_qos : again 1 batch ≡ Track1 7 ∷ Track1 8 ∷ Track1 9 ∷ Zero ∷ []
of_lesser_qos = refl

-- up to the batch's end and not further, and from its first offset
within_its_range : again 2 (record batch { from = 1; to = 2 }) ≡ Track1 7 ∷ []
within_its_range = refl

-- a batch of messages that had expired is silent, and takes no number
all_silent : again 2 (record batch { limit = kept_limit true 4294967295 }) ≡ Silent ∷ Silent ∷ Silent ∷ Silent ∷ []
all_silent = refl

-- so are a client's own messages under No Local
own_messages : kinds (entries_again unlearned list (codes "p") (version 6) (levels_of (codes "t/#")) batch) ≡ Silent
    ∷ Silent ∷ Silent ∷ Silent ∷ []
own_messages = refl

another_stream : again 2 (record batch { stream = 1 }) ≡ []
another_stream = refl

another_generation : again 2 (record batch { generation = 1 }) ≡ []
another_generation = refl

held_here : holds list 0 ≡ true
held_here = refl

not_held : holds list 1 ≡ false
not_held = refl

-- ---- a session with two batches

abbrev sweep : ℕ → Sweep
sweep position = record { generation = 0; base = 0; target = 5; stream = 0; position = position }

abbrev subscribes : Effect
subscribes =
    Subscribed
    (record {
      subscription = 1;
      version = 1;
      options = 2;
      identifier = 0;
      filter = levels_of (codes "t/#");
      sweeps =
          sweep 0 ∷ [];
    })

abbrev first : Batch
first = record batch { from = 0; to = 2; first1 = 1; count1 = 1; first2 = 1; count2 = 1 }

abbrev second : Batch
second = record batch { from = 2; to = 5; first1 = 2; count1 = 0; first2 = 2; count2 = 1 }

-- none of its numbers is unfinished
abbrev silent : Batch
silent = record batch { from = 5; to = 6; limit = 0; first1 = 2; count1 = 0; first2 = 3; count2 = 0 }

abbrev entries_for : Batch → List Entry
entries_for b = entries_again unlearned list (codes "c") (version 2) (levels_of (codes "t/#")) b

abbrev issues : Batch → ℕ → Effect
issues b position = Issued (record { subscription = 1; batch = b; sweep = sweep position })

-- a change of both
pub record Both : Type 0 where
  pub kept : KeptSession
  pub plain : PlainSession

abbrev make : List Entry → Effect → Both → Both
make entries effect b =
    record { kept = kept_changed effect b.kept; plain = changed_session (plain_effect entries effect) b.plain }

abbrev begun : Both
begun = record { kept = begun_kept (codes "c") 1 3600 512; plain = begun_session (codes "c") 1 3600 512 }

abbrev issued : Both
issued = make (entries_for second) (issues second 5)
    (make (entries_for first) (issues first 2) (make [] subscribes begun))

abbrev groups : List Group
groups = record { batch = first; entries = entries_for first } ∷ record { batch = second; entries = entries_for second }
    ∷ []

all_issued : issued.plain.issued ≡ entries_of groups
all_issued = refl

both_kept : issued.kept.batches ≡ first ∷ second ∷ []
both_kept = refl

-- once the only number of the second is done, it is finished, though the first isn't
abbrev one_finished : Both
one_finished = make [] (Done 2) (make [] (Received 2) (make [] (Received 1) issued))

first_kept : one_finished.kept.batches ≡ first ∷ []
first_kept = refl

kept_of_groups : one_finished.kept.batches ≡ kept_batches one_finished.kept.tracks (batches_of groups)
kept_of_groups = refl

positions : positions_of one_finished.kept 0 ≡ 0 ∷ 5 ∷ 5 ∷ 0 ∷ 2 ∷ []
positions = refl

generations : generations_of one_finished.kept 0 ≡ 0 ∷ []
generations = refl

no_other_shard : positions_of one_finished.kept 1 ≡ []
no_other_shard = refl

-- an ended subscription is kept without sweeps while a batch of it is unfinished, as the plain session keeps it
abbrev ended : Both
ended = make [] (Unsubscribed 1) one_finished

kept_without_sweeps : map (λ (s : KeptSub). s.sweeps) ended.kept.subs ≡ [] ∷ []
kept_without_sweeps = refl

kept_alike : ended.kept.subs ≡ map kept_sub (kept_subscriptions ended.plain)
kept_alike = refl

-- a silent batch is never kept, but its entries were issued
abbrev silenced : Both
silenced = make (record { subscription = 1; version = 1; shard = 0; offset = 5; kind = Silent } ∷ [])
    (issues silent 6) issued

silent_not_kept : silenced.kept.batches ≡ first ∷ second ∷ []
silent_not_kept = refl

silent_issued : length silenced.plain.issued ≡ 5
silent_issued = refl
