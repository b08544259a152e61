-- What a shard's moves and a crash keep: what is stored only grows, and loses messages by a drop alone; a shard in
-- order stays in order; and what is shown changes by Show alone.
use Rattle.std.proofs.Common.{◌≡◌, ℕ, ◌+◌, Bool, true, false, ◌&&◌, List, [], ◌∷◌, ◌++◌, refl, sym, ap, ◌∙◌}
use Rattle.std.proofs.lemmas.Bool.{true≢false}
use Rattle.std.proofs.lemmas.List.{append-nil}
use Rattle.topic_model.specs.Profile.{Profile, Config}
use Rattle.shard_model.specs.ShardList.{Cut, ShardList, newest, oldest_of, floor_of, next_of, new_cut, opening_list}
use Rattle.shard_model.specs.Storing
use Rattle.shard_model.specs.Storing.{Op, acts, act_if, store}
use Rattle.shard_model.specs.Growing.{HasGrown}
use Rattle.shard_model.specs.Capacity.{may_drop, sealed_at}
use Rattle.shard_model.specs.Lists.{IsRow, IsList}
use Rattle.shard_model.specs.laws.ListLaws.{adding_grows, grown_then, opening_in_order, store_in_order, storing_grows}
use Rattle.shard_model.specs.laws.GenerationLaws.{rotated_in_order, rotated_grows, dropped_in_order, dropped_grows}
use Rattle.shard_model.specs.ShardMoves.{PendingChange, Nothing, AGroup, ACut, ADrop, Shard, opening_shard, ShardMove}
use Rattle.shard_model.specs.ShardMoves.{Begin, Store, BeginCut, Rotate, BeginDrop, Drop, Settle, Show, pends_nothing}
use Rattle.shard_model.specs.ShardMoves.{may_store, may_rotate, list_after, gone_in, begin_if, if_group, if_cut}
use Rattle.shard_model.specs.ShardMoves.{if_drop, land_if, settled_shard, show_if, shard_step, shard_run, crashed_shard}
use Rattle.shard_model.specs.Shards.{IsShard, is_show}

-- ---- what pends goes in

-- a list has grown from itself
pub grown_itself : (list : ShardList) → IsList list → HasGrown list list
grown_itself list is = adding_grows list list is (record { cuts = refl; more = ([], sym (append-nil list.messages)) })

pub landed_in_order : (config : Config) (pending : PendingChange) (list : ShardList) → IsList list →
    IsList (list_after config pending list)
landed_in_order config Nothing list is = is
landed_in_order config (AGroup ops now) list is = store_in_order list ops now is
landed_in_order config (ACut now) list is = rotated_in_order config now list is
landed_in_order config ADrop list is = dropped_in_order list is

pub landed_grows : (config : Config) (pending : PendingChange) (list : ShardList) → IsList list →
    HasGrown list (list_after config pending list)
landed_grows config Nothing list is = grown_itself list is
landed_grows config (AGroup ops now) list is = storing_grows list ops now is
landed_grows config (ACut now) list is = rotated_grows config now list is
landed_grows config ADrop list is = dropped_grows list is

-- ---- what is stored only grows

begun_grows : (b : Bool) (pending : PendingChange) (s : Shard) → IsList s.stored →
    HasGrown s.stored (begin_if b pending s).stored
begun_grows true pending s is = grown_itself s.stored is
begun_grows false pending s is = grown_itself s.stored is

land_grows : (b : Bool) (config : Config) (s : Shard) → IsList s.stored → HasGrown s.stored (land_if b config s).stored
land_grows true config s is = landed_grows config s.pending s.stored is
land_grows false config s is = grown_itself s.stored is

settled_grows : (config : Config) (goes_in : Bool) (s : Shard) → IsList s.stored →
    HasGrown s.stored (settled_shard config goes_in s).stored
settled_grows config true s is = landed_grows config s.pending s.stored is
settled_grows config false s is = grown_itself s.stored is

shown_grows : (b : Bool) (s : Shard) → IsList s.stored → HasGrown s.stored (show_if b s).stored
shown_grows true s is = grown_itself s.stored is
shown_grows false s is = grown_itself s.stored is

pub step_grows : (profile : Profile) (config : Config) (s : Shard) (move : ShardMove) → IsList s.stored →
    HasGrown s.stored (shard_step profile config s move).stored
step_grows profile config s (Begin ops now) is =
    begun_grows (pends_nothing s.pending && may_store profile config s.stored ops now) (AGroup ops now) s is
step_grows profile config s Store is = land_grows (if_group s.pending) config s is
step_grows profile config s (BeginCut now) is =
    begun_grows (pends_nothing s.pending && may_rotate profile s.stored) (ACut now) s is
step_grows profile config s Rotate is = land_grows (if_cut s.pending) config s is
step_grows profile config s (BeginDrop now) is =
    begun_grows (pends_nothing s.pending && may_drop config s.stored now) ADrop s is
step_grows profile config s Drop is = land_grows (if_drop s.pending) config s is
step_grows profile config s (Settle goes_in) is = settled_grows config goes_in s is
step_grows profile config s Show is = shown_grows (pends_nothing s.pending) s is

-- ---- the floor stays where no drop pends

act_cuts : (b : Bool) (now : ℕ) (list : ShardList) (op : Op) → (act_if b now list op).cuts ≡ list.cuts
act_cuts false now list op = refl
act_cuts true now list (Storing.Store m) = refl
act_cuts true now list (Storing.Release publisher incarnation id) = refl
act_cuts true now list (Storing.Forget publisher incarnation) = refl

store_cuts : (list : ShardList) (ops : List Op) (now : ℕ) → (store list ops now).cuts ≡ list.cuts
store_cuts list [] now = refl
store_cuts list (op ∷ ops) now = store_cuts (act_if (acts list op) now list op) ops now
    ∙ act_cuts (acts list op) now list op

sealed_floor : (now end : ℕ) (cuts rest : List Cut) → IsRow end cuts →
    (oldest_of (sealed_at now cuts ++ rest)).first ≡ (oldest_of cuts).first
sealed_floor now end [] rest row = absurd row
sealed_floor now end (c ∷ []) rest row = refl
sealed_floor now end (c ∷ d ∷ cuts) rest row = refl

landed_floor : (config : Config) (pending : PendingChange) (list : ShardList) → IsList list → if_drop pending ≡ false →
    floor_of (list_after config pending list) ≡ floor_of list
landed_floor config Nothing list is e = refl
landed_floor config (AGroup ops now) list is e =
    ap (λ (cuts : List Cut). (oldest_of cuts).first) (store_cuts list ops now)
landed_floor config (ACut now) list is e =
    sealed_floor now (next_of list) list.cuts (new_cut config ((newest list).number + 1) (next_of list) ∷ []) is.cuts
landed_floor config ADrop list is e = absurd (true≢false e)

begun_floor : (b : Bool) (pending : PendingChange) (s : Shard) →
    floor_of (begin_if b pending s).stored ≡ floor_of s.stored
begun_floor true pending s = refl
begun_floor false pending s = refl

land_floor : (b : Bool) (config : Config) (s : Shard) → IsList s.stored → if_drop s.pending ≡ false →
    floor_of (land_if b config s).stored ≡ floor_of s.stored
land_floor true config s is e = landed_floor config s.pending s.stored is e
land_floor false config s is e = refl

settled_floor : (config : Config) (goes_in : Bool) (s : Shard) → IsList s.stored → if_drop s.pending ≡ false →
    floor_of (settled_shard config goes_in s).stored ≡ floor_of s.stored
settled_floor config true s is e = landed_floor config s.pending s.stored is e
settled_floor config false s is e = refl

shown_floor : (b : Bool) (s : Shard) → floor_of (show_if b s).stored ≡ floor_of s.stored
shown_floor true s = refl
shown_floor false s = refl

pub step_floor : (profile : Profile) (config : Config) (s : Shard) (move : ShardMove) → IsList s.stored →
    if_drop s.pending ≡ false →
    floor_of (shard_step profile config s move).stored ≡ floor_of s.stored
step_floor profile config s (Begin ops now) is e =
    begun_floor (pends_nothing s.pending && may_store profile config s.stored ops now) (AGroup ops now) s
step_floor profile config s Store is e = land_floor (if_group s.pending) config s is e
step_floor profile config s (BeginCut now) is e =
    begun_floor (pends_nothing s.pending && may_rotate profile s.stored) (ACut now) s
step_floor profile config s Rotate is e = land_floor (if_cut s.pending) config s is e
step_floor profile config s (BeginDrop now) is e =
    begun_floor (pends_nothing s.pending && may_drop config s.stored now) ADrop s
step_floor profile config s Drop is e = land_floor (if_drop s.pending) config s is e
step_floor profile config s (Settle goes_in) is e = settled_floor config goes_in s is e
step_floor profile config s Show is e = shown_floor (pends_nothing s.pending) s

-- ---- a shard in order stays in order

gone_in_in_order : (config : Config) (s : Shard) → IsShard s → IsShard (gone_in config s)
gone_in_in_order config s is =
    let in_order = landed_in_order config s.pending s.stored is.stored in
    record {
      stored = in_order;
      shown = is.shown;
      grown = grown_then s.shown s.stored (list_after config s.pending s.stored) is.stored in_order is.grown
          (landed_grows config s.pending s.stored is.stored);
    }

begun_in_order : (b : Bool) (pending : PendingChange) (s : Shard) → IsShard s → IsShard (begin_if b pending s)
begun_in_order true pending s is = record { stored = is.stored; shown = is.shown; grown = is.grown }
begun_in_order false pending s is = is

land_in_order : (b : Bool) (config : Config) (s : Shard) → IsShard s → IsShard (land_if b config s)
land_in_order true config s is = gone_in_in_order config s is
land_in_order false config s is = is

settled_in_order : (config : Config) (goes_in : Bool) (s : Shard) → IsShard s → IsShard (settled_shard config goes_in s)
settled_in_order config true s is = gone_in_in_order config s is
settled_in_order config false s is = record { stored = is.stored; shown = is.shown; grown = is.grown }

shown_in_order : (b : Bool) (s : Shard) → IsShard s → IsShard (show_if b s)
shown_in_order true s is = record { stored = is.stored; shown = is.stored; grown = grown_itself s.stored is.stored }
shown_in_order false s is = is

pub step_in_order : (profile : Profile) (config : Config) (s : Shard) (move : ShardMove) → IsShard s →
    IsShard (shard_step profile config s move)
step_in_order profile config s (Begin ops now) is =
    begun_in_order (pends_nothing s.pending && may_store profile config s.stored ops now) (AGroup ops now) s is
step_in_order profile config s Store is = land_in_order (if_group s.pending) config s is
step_in_order profile config s (BeginCut now) is =
    begun_in_order (pends_nothing s.pending && may_rotate profile s.stored) (ACut now) s is
step_in_order profile config s Rotate is = land_in_order (if_cut s.pending) config s is
step_in_order profile config s (BeginDrop now) is =
    begun_in_order (pends_nothing s.pending && may_drop config s.stored now) ADrop s is
step_in_order profile config s Drop is = land_in_order (if_drop s.pending) config s is
step_in_order profile config s (Settle goes_in) is = settled_in_order config goes_in s is
step_in_order profile config s Show is = shown_in_order (pends_nothing s.pending) s is

pub opening_shard_in_order : (config : Config) → IsShard (opening_shard config)
opening_shard_in_order config =
    let is = opening_in_order config in
    record { stored = is; shown = is; grown = grown_itself (opening_list config) is }

pub moves_in_order : (profile : Profile) (config : Config) (s : Shard) (moves : List ShardMove) → IsShard s →
    IsShard (shard_run profile config s moves)
moves_in_order profile config s [] is = is
moves_in_order profile config s (move ∷ moves) is =
    moves_in_order profile config (shard_step profile config s move) moves (step_in_order profile config s move is)

pub run_in_order : (profile : Profile) (config : Config) (moves : List ShardMove) →
    IsShard (shard_run profile config (opening_shard config) moves)
run_in_order profile config moves =
    moves_in_order profile config (opening_shard config) moves (opening_shard_in_order config)

pub crashed_in_order : (config : Config) (goes_in : Bool) (s : Shard) → IsShard s →
    IsShard (crashed_shard config goes_in s)
crashed_in_order config goes_in s is =
    shown_in_order true (settled_shard config goes_in s) (settled_in_order config goes_in s is)

-- ---- what is shown

begun_shown : (b : Bool) (pending : PendingChange) (s : Shard) → (begin_if b pending s).shown ≡ s.shown
begun_shown true pending s = refl
begun_shown false pending s = refl

land_shown : (b : Bool) (config : Config) (s : Shard) → (land_if b config s).shown ≡ s.shown
land_shown true config s = refl
land_shown false config s = refl

settled_shown : (config : Config) (goes_in : Bool) (s : Shard) → (settled_shard config goes_in s).shown ≡ s.shown
settled_shown config true s = refl
settled_shown config false s = refl

pub only_show_shows : (profile : Profile) (config : Config) (s : Shard) (move : ShardMove) → is_show move ≡ false →
    (shard_step profile config s move).shown ≡ s.shown
only_show_shows profile config s (Begin ops now) e =
    begun_shown (pends_nothing s.pending && may_store profile config s.stored ops now) (AGroup ops now) s
only_show_shows profile config s Store e = land_shown (if_group s.pending) config s
only_show_shows profile config s (BeginCut now) e =
    begun_shown (pends_nothing s.pending && may_rotate profile s.stored) (ACut now) s
only_show_shows profile config s Rotate e = land_shown (if_cut s.pending) config s
only_show_shows profile config s (BeginDrop now) e =
    begun_shown (pends_nothing s.pending && may_drop config s.stored now) ADrop s
only_show_shows profile config s Drop e = land_shown (if_drop s.pending) config s
only_show_shows profile config s (Settle goes_in) e = settled_shown config goes_in s
only_show_shows profile config s Show e = absurd (true≢false e)

pub show_shows : (profile : Profile) (config : Config) (s : Shard) → s.pending ≡ Nothing →
    (shard_step profile config s Show).shown ≡ s.stored
show_shows profile config s e = ap (λ (p : PendingChange). (show_if (pends_nothing p) s).shown) e

-- while something pends, Show leaves the shard
pub show_waits : (profile : Profile) (config : Config) (s : Shard) → pends_nothing s.pending ≡ false →
    shard_step profile config s Show ≡ s
show_waits profile config s e = ap (λ (b : Bool). show_if b s) e

-- ---- a crash

pub crash_grows : (config : Config) (goes_in : Bool) (s : Shard) → IsList s.stored →
    HasGrown s.stored (crashed_shard config goes_in s).stored
crash_grows config goes_in s is = settled_grows config goes_in s is

pub crash_shows : (config : Config) (goes_in : Bool) (s : Shard) →
    (crashed_shard config goes_in s).shown ≡ (crashed_shard config goes_in s).stored
crash_shows config goes_in s = refl

pub crash_floor : (config : Config) (goes_in : Bool) (s : Shard) → IsList s.stored → if_drop s.pending ≡ false →
    floor_of (crashed_shard config goes_in s).stored ≡ floor_of s.stored
crash_floor config goes_in s is e = settled_floor config goes_in s is e
