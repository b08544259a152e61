-- The order in which a subscription goes through the messages of a shard, generation by generation and in each stream
-- by stream; what a sweep counts as issued; and the next run of messages.
use Rattle.std.specs.Prelude.{ℕ, zero, suc, ◌+◌, ◌-◌, Bool, ◌&&◌, ◌||◌, ◌==◌, nat_lt, nat_le, if◌then◌else◌, List, []}
use Rattle.std.specs.Prelude.{◌∷◌, ◌++◌, take, filter, map, Option, Some, None}
use Rattle.std.specs.List.{list_any}
use Rattle.topic_model.specs.Profile.{Profile}
use Rattle.topic_model.specs.StoredMessage.{StoredMessage}
use Rattle.shard_model.specs.declared.sweep.Sweep.{Sweep}
use Rattle.shard_model.specs.ShardList.{ShardList, Cut, newest, oldest_of, floor_of, next_of}
use Rattle.shard_model.specs.Streams.{StreamMessage, HeldGeneration, held_generations, end_before}
use Rattle.shard_model.specs.Wanted.{is_wanted}

-- ---- where a sweep stands

-- at the front of a generation
abbrev pub at_cut : Cut → Sweep
at_cut cut = record { generation = cut.number; base = cut.first; target = cut.first; stream = 0; position = cut.first }

-- where a subscription begins: behind all that the list has
abbrev pub starting_sweep : ShardList → Sweep
starting_sweep list =
    record {
      generation = (newest list).number;
      base = next_of list;
      target = next_of list;
      stream = 0;
      position =
          next_of list;
    }

-- a sweep whose generation is no longer held stands at the front of the oldest one
abbrev pub held_sweep : ShardList → Sweep → Sweep
held_sweep list sweep = if nat_lt sweep.generation (oldest_of list.cuts).number then at_cut (oldest_of list.cuts)
    else sweep

-- ---- what a sweep counts as issued

-- of a message in the sweep's generation: below the base; or below the target in an earlier stream, or in the present
-- one below the position
abbrev pub is_behind : Sweep → StreamMessage → Bool
is_behind sweep s =
    nat_lt s.message.offset sweep.base
    || (nat_lt s.message.offset sweep.target
    && (nat_lt s.stream sweep.stream || ((s.stream == sweep.stream) && nat_lt s.message.offset sweep.position)))

-- of a message in a generation with this number
abbrev pub is_issued_in : Sweep → ℕ → StreamMessage → Bool
is_issued_in sweep number s = nat_lt number sweep.generation || ((number == sweep.generation) && is_behind sweep s)

abbrev pub is_at : ℕ → StreamMessage → Bool
is_at offset s = s.message.offset == offset

-- whether the sweep counts the message with this offset as issued
abbrev pub is_issued_by : Profile → ShardList → Sweep → ℕ → Bool
is_issued_by profile list sweep offset =
    list_any
    (λ (g : HeldGeneration). list_any
    (λ (s : StreamMessage). is_at offset s && is_issued_in (held_sweep list sweep) g.cut.number s) g.messages)
    (held_generations profile list)

-- ---- stretches

-- A stretch is the sweep at its front, one stream of a generation from the position up to the target, and the
-- generation's messages.
pub record Stretch : Type 0 where
  pub sweep : Sweep
  pub messages : List StreamMessage

-- numbers from one on, so many
abbrev pub counted_from : ℕ → ℕ → List ℕ
counted_from n zero = []
counted_from n (suc more) = n ∷ counted_from (n + 1) more

-- one more than the greatest stream of some messages
abbrev pub stream_end : List StreamMessage → ℕ
stream_end [] = 0
stream_end (s ∷ ss) = let rest = stream_end ss in if nat_le rest s.stream then s.stream + 1 else rest

-- a window, from its base to its target: the streams from the sweep's own on, in each of the later ones from the base
abbrev pub window : Sweep → List StreamMessage → List Stretch
window sweep messages =
    record { sweep = sweep; messages = messages }
    ∷ map (λ stream. record { sweep = record sweep { stream = stream; position = sweep.base }; messages = messages })
    (counted_from (sweep.stream + 1) (stream_end messages - (sweep.stream + 1)))

-- the next window of the same generation: from the target to its end as the list shows it now
abbrev pub grown_window : Sweep → HeldGeneration → List Stretch
grown_window sweep g =
    window (record sweep { base = sweep.target; target = g.end; stream = 0; position = sweep.target }) g.messages

-- from a sweep on: what is left of its window, the next one, and the later generations from their fronts
abbrev pub stretches_from : Sweep → List HeldGeneration → List Stretch
stretches_from sweep [] = []
stretches_from sweep (g ∷ []) = window sweep g.messages ++ grown_window sweep g
stretches_from sweep (g ∷ h ∷ held) =
    window sweep g.messages ++ (grown_window sweep g ++ stretches_from (at_cut h.cut) (h ∷ held))

-- all that lies before a sweep, in its order
abbrev pub stretches : Profile → ShardList → Sweep → List Stretch
stretches profile list sweep =
    let held = held_sweep list sweep in
    stretches_from held
    (filter (λ (g : HeldGeneration). nat_le held.generation g.cut.number) (held_generations profile list))

-- ---- the next run

-- the wanted messages of a stretch, in order
abbrev pub is_in : Sweep → StreamMessage → Bool
is_in sweep s = (s.stream == sweep.stream)
    && (nat_le sweep.position s.message.offset && nat_lt s.message.offset sweep.target)

abbrev pub wanted_in : List (List ℕ) → ℕ → Stretch → List StoredMessage
wanted_in wish start stretch =
    map (λ (s : StreamMessage). s.message)
    (filter (λ (s : StreamMessage). is_in stretch.sweep s && is_wanted wish start s.message) stretch.messages)

-- messages, and the sweep at the front of the stretch that they lie in
pub record Run : Type 0 where
  pub messages : List StoredMessage
  pub sweep : Sweep

-- the first of some stretches that has a wanted message; the later ones wait until it is known to have none
abbrev pub first_run : List (List ℕ) → ℕ → List Stretch → Option Run
first_run wish start [] = None
first_run wish start (stretch ∷ rest) =
    elim (wanted_in wish start stretch) as (λ ms. Option Run) [
      | [] ↦ first_run wish start rest
      | m ∷ ms ↦ Some (record { messages = m ∷ ms; sweep = stretch.sweep })
    ]

abbrev pub at_most : ℕ → Option Run → Option Run
at_most zero run = None
at_most (suc limit) None = None
at_most (suc limit) (Some run) = Some (record run { messages = take (suc limit) run.messages })

-- the wanted messages that come next, at most so many; none where all are issued, or the limit is 0
abbrev pub next_run : Profile → List (List ℕ) → ℕ → ShardList → Sweep → ℕ → Option Run
next_run profile wish start list sweep limit = at_most limit (first_run wish start (stretches profile list sweep))

-- behind the last of some messages of a stretch
abbrev pub sweep_after : Sweep → List StoredMessage → Sweep
sweep_after sweep [] = sweep
sweep_after sweep (m ∷ []) = record sweep { position = m.offset + 1 }
sweep_after sweep (m ∷ n ∷ ms) = sweep_after sweep (n ∷ ms)

-- ---- a sweep in order

-- where the generation with a number ends, as the list shows it; the floor where it is gone
abbrev pub end_in : ShardList → List Cut → ℕ → ℕ
end_in list [] number = floor_of list
end_in list (cut ∷ cuts) number = if cut.number == number then end_before list cuts else end_in list cuts number

-- Its generation isn't later than the newest, and the subscription's start, its base, its position, its target and the
-- generation's end don't fall.
abbrev pub is_in_order : Profile → ShardList → ℕ → Sweep → Bool
is_in_order profile list start sweep =
    nat_le sweep.generation (newest list).number
    && (nat_le start sweep.base
    && (nat_le sweep.base sweep.position
    && (nat_le sweep.position sweep.target
    && nat_le sweep.target (end_in list list.cuts sweep.generation))))
