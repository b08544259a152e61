-- All that a shard ever stored: what its list holds is what stands there from the floor on, behind every move too, and
-- no move takes anything away.
use Rattle.std.proofs.Common.{◌≡◌, ◌⊎◌, inl, inr, ℕ, zero, suc, ◌+◌, ◌-◌, ◌<◌, ◌≤◌, Bool, true, false, ◌&&◌}
use Rattle.std.proofs.Common.{if◌then◌else◌, List, [], ◌∷◌, ◌++◌, length, map, drop, replicate, Some, None}
use Rattle.std.proofs.Common.{slice_get, refl, sym, ap, subst, ◌∙◌, append_assoc, arith}
use Rattle.std.proofs.Math.Seq.{drop-append_seam}
use Rattle.std.proofs.lemmas.Bool.{cases_lt, le-ltb, lt-ltb}
use Rattle.std.proofs.lemmas.List.{append-nil, length-append, length-drop, drop-drop, drop-append-le}
use Rattle.std.proofs.lemmas.Option.{none-some, same_Some, slice_get_within}
use Rattle.topic_model.specs.Profile.{Profile, Config}
use Rattle.topic_model.specs.StoredMessage.{StoredMessage}
use Rattle.topic_model.specs.Places.{HasPlace}
use Rattle.shard_model.specs.ShardList.{Cut, ShardList, oldest_of, floor_of, next_of, first_message, message_at}
use Rattle.shard_model.specs.Storing
use Rattle.shard_model.specs.Storing.{Op, acts, act_if, placed, store}
use Rattle.shard_model.specs.SweepOrder.{counted_from}
use Rattle.shard_model.specs.Growing.{HasGrown}
use Rattle.shard_model.specs.Capacity.{may_drop, without_oldest, rotated, dropped}
use Rattle.shard_model.specs.Lists.{IsRow, IsList}
use Rattle.shard_model.specs.ShardMoves.{PendingChange, Nothing, AGroup, ACut, ADrop, Shard, ShardMove, Begin, Store}
use Rattle.shard_model.specs.ShardMoves.{BeginCut, Rotate, BeginDrop, Drop, Settle, Show, pends_nothing, may_store}
use Rattle.shard_model.specs.ShardMoves.{may_rotate, list_after, begin_if, if_group, if_cut, if_drop, land_if}
use Rattle.shard_model.specs.ShardMoves.{settled_shard, show_if, shard_step, crashed_shard, opening_shard}
use Rattle.shard_model.specs.Shards.{IsShard}
use Rattle.shard_model.specs.laws.ListLaws.{store_in_order}
use Rattle.shard_model.specs.laws.OrderLaws.{firsts_in_order}
use Rattle.shard_model.specs.laws.GenerationLaws.{rotated_in_order}
use Rattle.shard_model.specs.laws.MoveLaws.{grown_itself, step_grows, step_floor, crash_grows, crash_floor}
use Rattle.world_model.specs.World.{World, WorldShard, Move, opening_world, added_by, added_if, added_on, shard_moved}
use Rattle.world_model.specs.World.{begin_group, without_asker, crash_shard, world_step}
use Rattle.world_laws.specs.Reached.{HasShard}
use Rattle.world_laws.specs.StoredLists.{IsAllEver, TakesNothing}
use Rattle.world_laws.specs.Always.{OfShards, OfShardMoves}
use Rattle.world_laws.specs.laws.GoesLaws.{ShardGoes, Stays, Moves, Begins, IsLeft, Crashes, shard_goes}

-- ---- places

module _ {A : Type 0} where
  pub get_dropped : (n : ℕ) (xs : List A) (k : ℕ) → slice_get (drop n xs) k ≡ slice_get xs (n + k)
  get_dropped zero xs k = let same : k ≡ 0 + k = omega arith in ap (slice_get xs) same
  get_dropped (suc n) [] k = refl
  get_dropped (suc n) (x ∷ xs) k =
      let same : suc (n + k) ≡ suc n + k = omega arith in
      get_dropped n xs k ∙ ap (slice_get (x ∷ xs)) same

  -- what is put behind a list leaves its places
  pub get_before : (xs more : List A) (k : ℕ) → k < length xs → slice_get (xs ++ more) k ≡ slice_get xs k
  get_before [] more k h = absurd (omega arith)
  get_before (x ∷ xs) more zero h = refl
  get_before (x ∷ xs) more (suc k) h = get_before xs more k (omega arith)

  get_replicate : (n : ℕ) (x : A) (k : ℕ) (y : A) → slice_get (replicate n x) k ≡ Some y → x ≡ y
  get_replicate zero x k y e = absurd (none-some y e)
  get_replicate (suc n) x zero y e = same_Some x y e
  get_replicate (suc n) x (suc k) y e = get_replicate n x k y e

first_is : (ms : List StoredMessage) (k : ℕ) → first_message (drop k ms) ≡ slice_get ms k
first_is [] zero = refl
first_is [] (suc k) = refl
first_is (m ∷ ms) zero = refl
first_is (m ∷ ms) (suc k) = first_is ms k

-- the messages of a list in order have the offsets of their places
offset_of : (ms : List StoredMessage) (floor k : ℕ) (m : StoredMessage) →
    map (λ (m : StoredMessage). m.offset) ms ≡ counted_from floor (length ms) → slice_get ms k ≡ Some m →
    m.offset ≡ floor + k
offset_of [] floor k m e at = absurd (none-some m at)
offset_of (x ∷ ms) floor zero m e at =
    let first : x.offset ≡ floor = ap (head floor) e in
    let same : x.offset ≡ m.offset = ap (λ (y : StoredMessage). y.offset) (same_Some x m at) in
    omega arith
  where
    head : ℕ → List ℕ → ℕ
    head other [] = other
    head other (n ∷ ns) = n
offset_of (x ∷ ms) floor (suc k) m e at =
    let rest : m.offset ≡ floor + 1 + k = offset_of ms (floor + 1) k m (ap (drop 1) e) at in omega arith

-- ---- a list and all that was ever stored

-- the same as `IsAllEver`, of a list and all that its shard ever stored
pub record IsEver (list : ShardList) (ever : List StoredMessage) : Type 0 where
  pub offsets : (offset : ℕ) (m : StoredMessage) → slice_get ever offset ≡ Some m → m.offset ≡ offset
  pub held : drop (floor_of list) ever ≡ list.messages
  pub next : length ever ≡ next_of list

-- from the floor on both say the same
pub ever_at : (list : ShardList) (ever : List StoredMessage) → IsEver list ever → (offset : ℕ) →
    floor_of list ≤ offset → message_at list offset ≡ slice_get ever offset
ever_at list ever is offset from =
    let k = offset - floor_of list in
    let place : floor_of list + k ≡ offset = omega arith in
    ap (λ b. if b then None else first_message (drop k list.messages)) (le-ltb offset (floor_of list) from)
    ∙ ap (λ ms. first_message (drop k ms)) (sym is.held)
    ∙ first_is (drop (floor_of list) ever) k
    ∙ get_dropped (floor_of list) ever k
    ∙ ap (slice_get ever) place

not_below : (list : ShardList) (offset : ℕ) (m : StoredMessage) → message_at list offset ≡ Some m →
    floor_of list ≤ offset
not_below list offset m at = by (cases_lt offset (floor_of list))
  where
    by : (offset < floor_of list) ⊎ (floor_of list ≤ offset) → floor_of list ≤ offset
    by (inl below) = absurd (none-some m
        (ap (λ b. if b then None else first_message (drop (offset - floor_of list) list.messages))
        (sym (lt-ltb offset (floor_of list) below)) ∙ at))
    by (inr from) = from

-- what is held isn't below the floor, and lies before the next offset
pub held_within : (list : ShardList) (offset : ℕ) (m : StoredMessage) → message_at list offset ≡ Some m →
    (floor_of list ≤ offset) × (offset < next_of list)
held_within list offset m at =
    let from = not_below list offset m at in
    let k = offset - floor_of list in
    let there : slice_get list.messages k ≡ Some m =
    sym (first_is list.messages k)
    ∙ ap (λ b. if b then None else first_message (drop k list.messages)) (sym (le-ltb offset (floor_of list) from))
    ∙ at in
    let within = slice_get_within list.messages k m there in
    (from, omega arith)

-- ---- what pends goes in

-- where more is put behind, and the floor stays
added_ever : (list later : ShardList) (ever more : List StoredMessage) → IsList later →
    floor_of later ≡ floor_of list → later.messages ≡ list.messages ++ more → IsEver list ever →
    IsEver later (ever ++ more)
added_ever list later ever more in_order floor messages is =
    let long : length ever ≡ next_of list = is.next in
    let low : floor_of list ≤ length ever = omega arith in
    let held : drop (floor_of later) (ever ++ more) ≡ later.messages =
    ap (λ n. drop n (ever ++ more)) floor
    ∙ drop-append-le (floor_of list) ever more low
    ∙ ap (λ ms. ms ++ more) is.held
    ∙ sym messages in
    record {
      offsets = λ offset m at. by offset m at held (cases_lt offset (length ever));
      held = held;
      next =
          let both = length-append ever more in
          let all : length later.messages ≡ length list.messages + length more =
          ap length messages ∙ length-append list.messages more in
          omega (arith, floor);
    }
  where
    by : (offset : ℕ) (m : StoredMessage) → slice_get (ever ++ more) offset ≡ Some m →
        drop (floor_of later) (ever ++ more) ≡ later.messages → (offset < length ever) ⊎ (length ever ≤ offset) →
        m.offset ≡ offset
    by offset m at held (inl before) = is.offsets offset m (sym (get_before ever more offset before) ∙ at)
    by offset m at held (inr behind) =
        let long : length ever ≡ next_of list = is.next in
        let k = offset - floor_of later in
        let place : floor_of later + k ≡ offset = omega (arith, floor) in
        let there : slice_get later.messages k ≡ Some m =
        ap (λ ms. slice_get ms k) (sym held)
        ∙ get_dropped (floor_of later) (ever ++ more) k
        ∙ ap (slice_get (ever ++ more)) place
        ∙ at in
        offset_of later.messages (floor_of later) k m in_order.offsets there ∙ place

-- a group puts its messages behind what was there
act_more : (b : Bool) (now : ℕ) (list : ShardList) (op : Op) → (more : List StoredMessage)
    × ((act_if b now list op).messages ≡ list.messages ++ more)
act_more false now list op = ([], sym (append-nil list.messages))
act_more true now list (Storing.Store m) = (placed m (next_of list) now ∷ [], refl)
act_more true now list (Storing.Release publisher incarnation id) = ([], sym (append-nil list.messages))
act_more true now list (Storing.Forget publisher incarnation) = ([], sym (append-nil list.messages))

store_more : (list : ShardList) (ops : List Op) (now : ℕ) → (more : List StoredMessage)
    × ((store list ops now).messages ≡ list.messages ++ more)
store_more list [] now = ([], sym (append-nil list.messages))
store_more list (op ∷ ops) now =
    let one = act_more (acts list op) now list op in
    let rest = store_more (act_if (acts list op) now list op) ops now in (
      one.0 ++ rest.0,
      rest.1 ∙ ap (λ ms. ms ++ rest.0) one.1 ∙ append_assoc list.messages one.0 rest.0,
    )

-- what stands behind the end is what the group added
pub store_added : (list : ShardList) (ops : List Op) (now : ℕ) →
    (store list ops now).messages ≡ list.messages ++ drop (length list.messages) (store list ops now).messages
store_added list ops now =
    let all = store_more list ops now in
    all.1 ∙ ap (λ ms. list.messages ++ ms)
    (sym (ap (drop (length list.messages)) all.1 ∙ drop-append_seam list.messages all.0))

-- the floor stays where no drop pends
pending_floor : (config : Config) (pending : PendingChange) (list : ShardList) → IsList list → if_drop pending ≡ false →
    floor_of (list_after config pending list) ≡ floor_of list
pending_floor config pending list is e =
    crash_floor config true (record { stored = list; shown = list; pending = pending }) is e

-- the oldest generation that a drop leaves was there
left_there : (end : ℕ) (cuts : List Cut) → IsRow end cuts → HasPlace cuts (oldest_of (without_oldest cuts))
left_there end [] row = absurd row
left_there end (c ∷ []) row = (0, refl)
left_there end (c ∷ d ∷ cuts) row = (1, refl)

dropped_ever : (list : ShardList) (ever : List StoredMessage) → IsList list → IsEver list ever →
    IsEver (dropped list) ever
dropped_ever list ever in_order is =
    let first = (oldest_of (without_oldest list.cuts)).first in
    let there = left_there (next_of list) list.cuts in_order.cuts in
    let bounds = firsts_in_order list (oldest_of (without_oldest list.cuts)) in_order there in
    let from : floor_of list ≤ first = bounds.0 in
    let to : first ≤ next_of list = bounds.1 in
    let n = first - floor_of list in
    let place : first ≡ floor_of list + n = omega arith in
    record {
      offsets = is.offsets;
      held = ap (λ k. drop k ever) place ∙ sym (drop-drop n (floor_of list) ever) ∙ ap (drop n) is.held;
      next =
          let long : length ever ≡ next_of list = is.next in
          let left = length-drop n list.messages in
          let same : length ever ≡ first + length (drop n list.messages) = omega arith in
          same;
    }

unchanged_ever : (list : ShardList) (ever : List StoredMessage) → IsEver list ever → IsEver list (ever ++ [])
unchanged_ever list ever is = subst (IsEver list) (sym (append-nil ever)) is

module _ (profile : Profile) (config : Config) where
  pub landed_ever : (pending : PendingChange) (list : ShardList) (ever : List StoredMessage) → IsList list →
      IsEver list ever → IsEver (list_after config pending list) (ever ++ added_by profile config pending list)
  landed_ever Nothing list ever in_order is = unchanged_ever list ever is
  landed_ever (AGroup ops now) list ever in_order is =
      added_ever list (store list ops now) ever (drop (length list.messages) (store list ops now).messages)
      (store_in_order list ops now in_order) (pending_floor config (AGroup ops now) list in_order refl)
      (store_added list ops now) is
  landed_ever (ACut now) list ever in_order is =
      added_ever list (rotated config now list) ever [] (rotated_in_order config now list in_order)
      (pending_floor config (ACut now) list in_order refl) (sym (append-nil list.messages)) is
  landed_ever ADrop list ever in_order is = unchanged_ever (dropped list) ever (dropped_ever list ever in_order is)

  -- ---- a shard's moves

  begun_ever : (b : Bool) (pending : PendingChange) (s : Shard) (ever : List StoredMessage) → IsEver s.stored ever →
      IsEver (begin_if b pending s).stored ever
  begun_ever true pending s ever is = is
  begun_ever false pending s ever is = is

  land_ever : (b : Bool) (s : Shard) (ever : List StoredMessage) → IsList s.stored → IsEver s.stored ever →
      IsEver (land_if b config s).stored (ever ++ added_if profile config b s.pending s.stored)
  land_ever true s ever in_order is = landed_ever s.pending s.stored ever in_order is
  land_ever false s ever in_order is = unchanged_ever s.stored ever is

  settled_ever : (goes_in : Bool) (s : Shard) (ever : List StoredMessage) → IsList s.stored → IsEver s.stored ever →
      IsEver (settled_shard config goes_in s).stored (ever ++ added_if profile config goes_in s.pending s.stored)
  settled_ever true s ever in_order is = landed_ever s.pending s.stored ever in_order is
  settled_ever false s ever in_order is = unchanged_ever s.stored ever is

  shown_ever : (b : Bool) (s : Shard) (ever : List StoredMessage) → IsEver s.stored ever →
      IsEver (show_if b s).stored ever
  shown_ever true s ever is = is
  shown_ever false s ever is = is

  -- a new generation, and a drop, add nothing
  cut_adds : (pending : PendingChange) (list : ShardList) → added_if profile config (if_cut pending) pending list ≡ []
  cut_adds Nothing list = refl
  cut_adds (AGroup ops now) list = refl
  cut_adds (ACut now) list = refl
  cut_adds ADrop list = refl

  drop_adds : (pending : PendingChange) (list : ShardList) → added_if profile config (if_drop pending) pending list ≡ []
  drop_adds Nothing list = refl
  drop_adds (AGroup ops now) list = refl
  drop_adds (ACut now) list = refl
  drop_adds ADrop list = refl

  pub step_ever : (s : Shard) (move : ShardMove) (ever : List StoredMessage) → IsList s.stored → IsEver s.stored ever →
      IsEver (shard_step profile config s move).stored (ever ++ added_on profile config move s)
  step_ever s (Begin ops now) ever in_order is =
      let b = pends_nothing s.pending && may_store profile config s.stored ops now in
      unchanged_ever (begin_if b (AGroup ops now) s).stored ever (begun_ever b (AGroup ops now) s ever is)
  step_ever s Store ever in_order is = land_ever (if_group s.pending) s ever in_order is
  step_ever s (BeginCut now) ever in_order is =
      let b = pends_nothing s.pending && may_rotate profile s.stored in
      unchanged_ever (begin_if b (ACut now) s).stored ever (begun_ever b (ACut now) s ever is)
  step_ever s Rotate ever in_order is =
      subst (λ more. IsEver (land_if (if_cut s.pending) config s).stored (ever ++ more)) (cut_adds s.pending s.stored)
      (land_ever (if_cut s.pending) s ever in_order is)
  step_ever s (BeginDrop now) ever in_order is =
      let b = pends_nothing s.pending && may_drop config s.stored now in
      unchanged_ever (begin_if b ADrop s).stored ever (begun_ever b ADrop s ever is)
  step_ever s Drop ever in_order is =
      subst (λ more. IsEver (land_if (if_drop s.pending) config s).stored (ever ++ more)) (drop_adds s.pending s.stored)
      (land_ever (if_drop s.pending) s ever in_order is)
  step_ever s (Settle goes_in) ever in_order is = settled_ever goes_in s ever in_order is
  step_ever s Show ever in_order is =
      unchanged_ever (show_if (pends_nothing s.pending) s).stored ever (shown_ever (pends_nothing s.pending) s ever is)

  pub crash_ever : (goes_in : Bool) (s : Shard) (ever : List StoredMessage) → IsList s.stored → IsEver s.stored ever →
      IsEver (crashed_shard config goes_in s).stored (ever ++ added_if profile config goes_in s.pending s.stored)
  crash_ever goes_in s ever in_order is = settled_ever goes_in s ever in_order is

-- ---- of a shard of the world

as_all_ever : (s : WorldShard) → IsEver s.shard.stored s.ever → IsAllEver s
as_all_ever s is = record { offsets = is.offsets; held = is.held; next = is.next }

as_ever : (s : WorldShard) → IsAllEver s → IsEver s.shard.stored s.ever
as_ever s is = record { offsets = is.offsets; held = is.held; next = is.next }

-- a message that was ever stored is held still, or lies below the floor
pub ever_is_held : (s : WorldShard) → IsAllEver s → (offset : ℕ) (m : StoredMessage) →
    slice_get s.ever offset ≡ Some m →
    (message_at s.shard.stored offset ≡ Some m) ⊎ (offset < floor_of s.shard.stored)
ever_is_held s is offset m at = by (cases_lt offset (floor_of s.shard.stored))
  where
    by : (offset < floor_of s.shard.stored) ⊎ (floor_of s.shard.stored ≤ offset) →
        (message_at s.shard.stored offset ≡ Some m) ⊎ (offset < floor_of s.shard.stored)
    by (inl below) = inr below
    by (inr from) = inl (ever_at s.shard.stored s.ever (as_ever s is) offset from ∙ at)

-- and what is held was stored
pub held_was_stored : (s : WorldShard) → IsAllEver s → (offset : ℕ) (m : StoredMessage) →
    message_at s.shard.stored offset ≡ Some m → slice_get s.ever offset ≡ Some m
held_was_stored s is offset m at =
    sym (ever_at s.shard.stored s.ever (as_ever s is) offset (held_within s.shard.stored offset m at).0) ∙ at

-- ---- the world

pub opening_ever : (config : Config) → OfShards IsAllEver (opening_world config)
opening_ever config shard s at =
    subst IsAllEver (get_replicate config.shards first shard s at)
    (record { offsets = λ offset m there. absurd (none-some m there); held = refl; next = refl })
  where
    first : WorldShard
    first = record { shard = opening_shard config; asked = None; ever = [] }

goes_ever : (profile : Profile) (config : Config) (w : World) (shard : ℕ) (s t : WorldShard) → IsShard s.shard →
    IsAllEver s → ShardGoes profile config w shard s t → IsAllEver t
goes_ever profile config w shard s t in_order is (Stays same) = subst IsAllEver (sym same) is
goes_ever profile config w shard s t in_order is (Moves move same) =
    subst IsAllEver (sym same) (as_all_ever (shard_moved profile config move s)
    (step_ever profile config s.shard move s.ever in_order.stored (as_ever s is)))
goes_ever profile config w shard s t in_order is (Begins worker conn now packets k ask a has asks asked at same) =
    subst IsAllEver (sym same) (as_all_ever (begin_group profile config a ask.ops now s)
    (begun_ever profile config (pends_nothing s.shard.pending && may_store profile config s.shard.stored ask.ops now)
    (AGroup ask.ops now) s.shard s.ever (as_ever s is)))
goes_ever profile config w shard s t in_order is (IsLeft worker conn same) =
    subst IsAllEver (sym same) (as_all_ever (without_asker profile config worker conn s) (as_ever s is))
goes_ever profile config w shard s t in_order is (Crashes goes_in same) =
    subst IsAllEver (sym same) (as_all_ever (crash_shard profile config goes_in s)
    (crash_ever profile config goes_in s.shard s.ever in_order.stored (as_ever s is)))

pub ever_goes : (profile : Profile) (w : World) (move : Move) →
    ((shard : ℕ) (s : WorldShard) → HasShard w shard s → IsShard s.shard) →
    OfShards IsAllEver w → OfShards IsAllEver (world_step profile w move)
ever_goes profile w move in_order is shard t at =
    let from = shard_goes profile w move shard t at in
    goes_ever profile w.config w shard from.0 t (in_order shard from.0 from.1.0) (is shard from.0 from.1.0) from.1.1

-- ---- nothing is taken away

-- what has grown has each message that isn't below its floor
takes_where : (s t : WorldShard) → HasGrown s.shard.stored t.shard.stored →
    (if_drop s.shard.pending ≡ false → floor_of t.shard.stored ≡ floor_of s.shard.stored) →
    ((more : List StoredMessage) × (t.ever ≡ s.ever ++ more)) → TakesNothing s t
takes_where s t grown floor more =
    record {
      messages = λ offset m at. by offset m at (cases_lt offset (floor_of t.shard.stored));
      floor = floor;
      ever = more;
    }
  where
    by : (offset : ℕ) (m : StoredMessage) → message_at s.shard.stored offset ≡ Some m →
        (offset < floor_of t.shard.stored) ⊎ (floor_of t.shard.stored ≤ offset) →
        (message_at t.shard.stored offset ≡ Some m) ⊎ (offset < floor_of t.shard.stored)
    by offset m at (inl below) = inr below
    by offset m at (inr from) =
        inl (grown.messages offset from (held_within s.shard.stored offset m at).1 ∙ at)

goes_takes : (profile : Profile) (config : Config) (w : World) (shard : ℕ) (s t : WorldShard) → IsShard s.shard →
    ShardGoes profile config w shard s t → TakesNothing s t
goes_takes profile config w shard s t in_order (Stays same) =
    subst (TakesNothing s) (sym same)
    (takes_where s s (grown_itself s.shard.stored in_order.stored) (λ e. refl) ([], sym (append-nil s.ever)))
goes_takes profile config w shard s t in_order (Moves move same) =
    subst (TakesNothing s) (sym same)
    (takes_where s (shard_moved profile config move s) (step_grows profile config s.shard move in_order.stored)
    (step_floor profile config s.shard move in_order.stored) (added_on profile config move s.shard, refl))
goes_takes profile config w shard s t in_order (Begins worker conn now packets k ask a has asks asked at same) =
    subst (TakesNothing s) (sym same)
    (takes_where s (begin_group profile config a ask.ops now s)
    (step_grows profile config s.shard (Begin ask.ops now) in_order.stored)
    (step_floor profile config s.shard (Begin ask.ops now) in_order.stored) ([], sym (append-nil s.ever)))
goes_takes profile config w shard s t in_order (IsLeft worker conn same) =
    subst (TakesNothing s) (sym same)
    (takes_where s (without_asker profile config worker conn s) (grown_itself s.shard.stored in_order.stored)
    (λ e. refl) ([], sym (append-nil s.ever)))
goes_takes profile config w shard s t in_order (Crashes goes_in same) =
    subst (TakesNothing s) (sym same)
    (takes_where s (crash_shard profile config goes_in s) (crash_grows config goes_in s.shard in_order.stored)
    (crash_floor config goes_in s.shard in_order.stored)
    (added_if profile config goes_in s.shard.pending s.shard.stored, refl))

pub takes_nothing : (profile : Profile) (w : World) (move : Move) →
    ((shard : ℕ) (s : WorldShard) → HasShard w shard s → IsShard s.shard) →
    OfShardMoves TakesNothing w (world_step profile w move)
takes_nothing profile w move in_order shard s t before behind =
    let from = shard_goes profile w move shard t behind in
    let same : from.0 ≡ s = same_Some from.0 s (sym from.1.0 ∙ before) in
    subst (λ (x : WorldShard). TakesNothing x t) same
    (goes_takes profile w.config w shard from.0 t (in_order shard from.0 from.1.0) from.1.1)
