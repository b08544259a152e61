-- What a shard does when it is called: an append, a drop at a Tick, and a reading of bodies. Each call is a list of
-- moves and an outcome.
use Rattle.std.specs.Prelude.{ℕ, zero, suc, Bool, true, false, ◌&&◌, nat_le, nat_lt, List, [], ◌∷◌, ◌++◌, length, find}
use Rattle.std.specs.Prelude.{if◌then◌else◌, Option, Some, None}
use Rattle.topic_model.specs.Profile.{Profile, Config}
use Rattle.shard_model.specs.ShardList.{ShardList, next_of, floor_of}
use Rattle.shard_model.specs.Storing.{Op, kept_ops}
use Rattle.shard_model.specs.Capacity.{needs_a_cut, may_drop, holds_all, is_full, awaits_too_many}
use Rattle.shard_model.specs.ShardMoves.{Shard, ShardMove, Begin, Store, BeginCut, Rotate, BeginDrop, Drop, Settle}
use Rattle.shard_model.specs.ShardMoves.{Show, pends_nothing, shard_step}
use Rattle.shard_model.specs.Choices.{Fates, Drawn, draw}

-- A group was stored: the offset of its first message, and the next one behind it. Or the shard is full, or would await
-- too many identifiers, and nothing has changed. Or a device call failed.
pub data Appended : Type 0 where
  AppendedAt : ℕ → ℕ → Appended
  Full : Appended
  AwaitFull : Appended
  AppendFault : Appended

-- a call as it goes on: the shard after its moves, the moves, and whether a device call failed
pub record Call : Type 0 where
  pub shard : Shard
  pub moves : List ShardMove
  pub fates : Fates
  pub faulted : Bool

-- what a caller is handed: the moves, the outcome, and the choices that are left
pub record AppendCall : Type 0 where
  pub moves : List ShardMove
  pub outcome : Appended
  pub fates : Fates

pub record DropCall : Type 0 where
  pub moves : List ShardMove
  pub faulted : Bool
  pub fates : Fates

abbrev pub call_of : Shard → Fates → Call
call_of s fates = record { shard = s; moves = []; fates = fates; faulted = false }

module _ (profile : Profile) (config : Config) where
  abbrev pub push_move : ShardMove → Call → Call
  push_move move c = record c { shard = shard_step profile config c.shard move; moves = c.moves ++ move ∷ [] }

  abbrev pub push_moves : List ShardMove → Call → Call
  push_moves [] c = c
  push_moves (move ∷ moves) c = push_moves moves (push_move move c)

  -- ---- a change: begun, and then in and shown, or in doubt

  abbrev pub moves_unless : Bool → ShardMove → ShardMove → List ShardMove
  moves_unless true begun done = begun ∷ []
  moves_unless false begun done = begun ∷ done ∷ Show ∷ []

  abbrev pub attempt_with : ShardMove → ShardMove → Drawn → Call → Call
  attempt_with begun done drawn c = record (push_moves (moves_unless drawn.fails begun done) c)
      { fates = drawn.fates; faulted = drawn.fails }

  abbrev pub attempt_if : Bool → ShardMove → ShardMove → Call → Call
  attempt_if true begun done c = attempt_with begun done (draw c.fates) c
  attempt_if false begun done c = c

  -- where it is due, and nothing failed before
  abbrev pub attempt : Bool → ShardMove → ShardMove → Call → Call
  attempt due begun done c = attempt_if (if c.faulted then false else due) begun done c

  -- ---- what is in doubt is settled first

  abbrev pub settling : Bool → Bool → List ShardMove
  settling true goes_in = []
  settling false true = Settle true ∷ Show ∷ []
  settling false false = Settle false ∷ []

  abbrev pub call_settled_with : Drawn → Call → Call
  call_settled_with drawn c = record (push_moves (settling drawn.fails drawn.goes_in) c)
      { fates = drawn.fates; faulted = drawn.fails }

  abbrev pub call_settled_if : Bool → Call → Call
  call_settled_if true c = c
  call_settled_if false c = call_settled_with (draw c.fates) c

  abbrev pub call_settled : Call → Call
  call_settled c = call_settled_if (pends_nothing c.shard.pending) c

  -- ---- an append

  -- the oldest generation is dropped where one more can't be held, a new one is begun where the group needs it, and
  -- then the group goes in
  abbrev pub made_room : List Op → ℕ → Call → Call
  made_room kept now c = attempt (needs_a_cut profile c.shard.stored kept && holds_all profile c.shard.stored)
      (BeginDrop now) Drop c

  abbrev pub with_cut : List Op → ℕ → Call → Call
  with_cut kept now c = attempt (needs_a_cut profile c.shard.stored kept) (BeginCut now) Rotate c

  abbrev pub stored_in : List Op → ℕ → Call → Call
  stored_in ops now c = attempt true (Begin ops now) Store
      (with_cut (kept_ops c.shard.stored ops) now (made_room (kept_ops c.shard.stored ops) now c))

  abbrev pub outcome_unless : Bool → ℕ → Call → Appended
  outcome_unless true first c = AppendFault
  outcome_unless false first c = AppendedAt first (next_of c.shard.stored)

  abbrev pub append_ended : ℕ → Call → AppendCall
  append_ended first c = record { moves = c.moves; outcome = outcome_unless c.faulted first c; fates = c.fates }

  abbrev pub append_refused : Appended → Call → AppendCall
  append_refused outcome c = record { moves = c.moves; outcome = outcome; fates = c.fates }

  -- a group of which nothing is kept writes no record: no device call is made for it
  abbrev pub stored_without_record : List Op → ℕ → Call → Call
  stored_without_record ops now c = push_moves (Begin ops now ∷ Store ∷ Show ∷ []) c

  -- by the operations that are kept: whether the shard is full is looked at before what would be awaited
  abbrev pub appended_kept : List Op → List Op → ℕ → Call → AppendCall
  appended_kept ops [] now c = append_ended (next_of c.shard.stored) (stored_without_record ops now c)
  appended_kept ops (op ∷ kept) now c =
      if is_full profile config c.shard.stored (op ∷ kept) now then append_refused Full c
      else if awaits_too_many profile c.shard.stored (op ∷ kept) now then append_refused AwaitFull c
      else append_ended (next_of c.shard.stored) (stored_in ops now c)

  abbrev pub appended_unless : Bool → List Op → ℕ → Call → AppendCall
  appended_unless true ops now c = append_refused AppendFault c
  appended_unless false ops now c = appended_kept ops (kept_ops c.shard.stored ops) now c

  abbrev pub appended_after : List Op → ℕ → Call → AppendCall
  appended_after ops now c = appended_unless c.faulted ops now c

  -- the moves of an append of a group at a moment, and its outcome
  abbrev pub append_call : Shard → List Op → ℕ → Fates → AppendCall
  append_call s ops now fates = appended_after ops now (call_settled (call_of s fates))

  -- ---- a Tick

  abbrev pub dropped_within : ℕ → ℕ → Call → Call
  dropped_within zero now c = c
  dropped_within (suc more) now c = dropped_within more now
      (attempt (may_drop config c.shard.stored now) (BeginDrop now) Drop c)

  abbrev pub dropped_after : ℕ → Call → Call
  dropped_after now c = dropped_within (length c.shard.stored.cuts) now c

  abbrev pub drop_ended : Call → DropCall
  drop_ended c = record { moves = c.moves; faulted = c.faulted; fates = c.fates }

  -- the moves of a Tick: the oldest generation is dropped as long as it was sealed at least the retention ago
  abbrev pub tick_call : Shard → ℕ → Fates → DropCall
  tick_call s now fates = drop_ended (dropped_after now (call_settled (call_of s fates)))

-- ---- a reading of bodies

-- the bodies were read; the first offset that is below the floor; or a device call failed
pub data Fetched : Type 0 where
  FetchedAll : Fetched
  Gone : ℕ → Fetched
  FetchFault : Fetched

pub record FetchCall : Type 0 where
  pub outcome : Fetched
  pub fates : Fates

abbrev pub fetched_with : Drawn → FetchCall
fetched_with drawn = record { outcome = if drawn.fails then FetchFault else FetchedAll; fates = drawn.fates }

abbrev pub fetched_unless : Option ℕ → Fates → FetchCall
fetched_unless (Some offset) fates = record { outcome = Gone offset; fates = fates }
fetched_unless None fates = fetched_with (draw fates)

-- no move: what is stored stays, and nothing is settled
abbrev pub fetch_call : ShardList → List ℕ → Fates → FetchCall
fetch_call list places fates = fetched_unless (find (λ (offset : ℕ). nat_lt offset (floor_of list)) places) fates
