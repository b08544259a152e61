-- The order in which a subscription goes through the messages of a shard, generation by generation and in each stream
-- by stream, and the next run of messages in this order.
use Rattle.std.specs.Prelude.{ℕ, zero, suc, ◌+◌, ◌-◌, Bool, ◌&&◌, ◌==◌, nat_lt, nat_le, if◌then◌else◌, List, [], ◌∷◌, ◌++◌, filter, map, Option, Some, None}
use Rattle.first_topic_name.specs.StoredMessage.{StoredMessage}
use Rattle.first_shard_terms.specs.declared.sweep.Sweep.{Sweep}
use Rattle.first_shard_terms.specs.ShardList.{ShardList, Cut, next_of}
use Rattle.first_shard_terms.specs.Wanted.{is_wanted}
use Rattle.first_shard_terms.specs.Streams.{stream_of, stream_count}

-- at the front of a generation
abbrev pub at_cut : Cut → Sweep
at_cut cut = record { generation = cut.number; base = cut.first; target = cut.first; stream = 0; position = cut.first }

-- the newest of some generations, and the offset that a new subscription starts at
abbrev pub newest_number : List Cut → ℕ
newest_number [] = 0
newest_number (cut ∷ []) = cut.number
newest_number (cut ∷ other ∷ cuts) = newest_number (other ∷ cuts)

-- where a subscription begins: behind all that the list has
abbrev pub starting_sweep : ShardList → Sweep
starting_sweep list =
    record {
      generation = newest_number list.cuts;
      base = next_of list;
      target = next_of list;
      stream = 0;
      position = next_of list;
    }

-- numbers from one on, so many
abbrev pub counted_from : ℕ → ℕ → List ℕ
counted_from n zero = []
counted_from n (suc more) = n ∷ counted_from (n + 1) more

-- A stretch is the sweep at its front: one stream of a generation, from the position up to the target.
-- The stretches of the streams that follow this one in the same window:
abbrev pub later_streams : Sweep → ℕ → List Sweep
later_streams sweep count =
    map (λ stream. record { generation = sweep.generation; base = sweep.base; target = sweep.target; stream = stream; position = sweep.base })
    (counted_from (sweep.stream + 1) (count - (sweep.stream + 1)))

-- the window from base to target, from the sweep's place on
abbrev pub window : Sweep → ℕ → List Sweep
window sweep count = sweep ∷ later_streams sweep count

-- the next window of the same generation: from the target to its end as the list shows it now
abbrev pub grown_window : Sweep → ℕ → ℕ → List Sweep
grown_window sweep end count =
    window (record { generation = sweep.generation; base = sweep.target; target = end; stream = 0; position = sweep.target }) count

-- the generations from the sweep's own on, each with the offset that it ends at
abbrev pub stretches_from : ShardList → Sweep → List Cut → List Sweep
stretches_from list sweep [] = []
stretches_from list sweep (cut ∷ []) = window sweep (stream_count list cut) ++ grown_window sweep (next_of list) (stream_count list cut)
stretches_from list sweep (cut ∷ next ∷ cuts) =
    window sweep (stream_count list cut) ++ grown_window sweep next.first (stream_count list cut) ++ stretches_from list (at_cut next) (next ∷ cuts)

-- the generations that are held, from this number on
abbrev pub cuts_from : ℕ → List Cut → List Cut
cuts_from number cuts = filter (λ cut. nat_le number cut.number) cuts

-- a sweep whose generation is no longer held goes to the oldest one
abbrev pub held_sweep : List Cut → Sweep → Sweep
held_sweep [] sweep = sweep
held_sweep (cut ∷ cuts) sweep = if nat_lt sweep.generation cut.number then at_cut cut else sweep

-- all that lies before a sweep, in its order
abbrev pub stretches : ShardList → Sweep → List Sweep
stretches list sweep =
    let held = held_sweep list.cuts sweep in stretches_from list held (cuts_from held.generation list.cuts)

-- the wanted messages of a stretch, in order
abbrev pub in_stretch : ShardList → Sweep → StoredMessage → Bool
in_stretch list stretch m = nat_le stretch.position m.offset && nat_lt m.offset stretch.target && (stream_of list m == stretch.stream)

abbrev pub wanted_in : List (List ℕ) → ℕ → ShardList → Sweep → List StoredMessage
wanted_in wish start list stretch = filter (λ m. in_stretch list stretch m && is_wanted wish start m) list.messages

-- the messages of the next run, and the stretch that they lie in
pub record Run : Type 0 where
  pub messages : List StoredMessage
  pub stretch : Sweep

abbrev pub run_or_else : Sweep → List StoredMessage → Option Run → Option Run
run_or_else stretch [] later = later
run_or_else stretch (m ∷ ms) later = Some (record { messages = m ∷ ms; stretch = stretch })

-- the first of some stretches that has a wanted message
abbrev pub first_run : List (List ℕ) → ℕ → ShardList → List Sweep → Option Run
first_run wish start list [] = None
first_run wish start list (stretch ∷ rest) = run_or_else stretch (wanted_in wish start list stretch) (first_run wish start list rest)

-- the wanted messages that come next, none where all are issued
abbrev pub next_run : List (List ℕ) → ℕ → ShardList → Sweep → Option Run
next_run wish start list sweep = first_run wish start list (stretches list sweep)

-- behind the last of some messages of a stretch
abbrev pub sweep_after : Sweep → List StoredMessage → Sweep
sweep_after stretch [] = stretch
sweep_after stretch (m ∷ []) =
    record { generation = stretch.generation; base = stretch.base; target = stretch.target; stream = stretch.stream; position = m.offset + 1 }
sweep_after stretch (m ∷ n ∷ ms) = sweep_after stretch (n ∷ ms)
