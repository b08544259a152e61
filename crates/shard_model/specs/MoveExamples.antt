-- Computed examples of a shard's moves.
use Rattle.std.specs.Prelude.{◌≡◌, true, false, List, [], ◌∷◌, length, codes, refl}
use Rattle.topic_model.specs.Profile.{whole}
use Rattle.shard_model.specs.ShardList.{floor_of, next_of}
use Rattle.shard_model.specs.Storing.{Op}
use Rattle.shard_model.specs.ShardMoves.{Shard, ShardMove, Begin, Store, BeginCut, Rotate, BeginDrop, Drop, Settle}
use Rattle.shard_model.specs.ShardMoves.{Show, opening_shard, shard_run, crashed_shard}
use Rattle.shard_model.specs.Examples.{says, one_each}

abbrev one_op : List Op
one_op = says (codes "t") ∷ []

abbrev opening : Shard
opening = opening_shard one_each

abbrev ran : List ShardMove → Shard
ran moves = shard_run whole one_each opening moves

-- stored, and shown only then
stored_unseen : next_of (ran (Begin one_op 5 ∷ Store ∷ [])).shown ≡ 0
stored_unseen = refl

shown_then : next_of (ran (Begin one_op 5 ∷ Store ∷ Show ∷ [])).shown ≡ 1
shown_then = refl

-- nothing is shown while a group pends
not_while_it_pends : ran (Begin one_op 5 ∷ Show ∷ []) ≡ ran (Begin one_op 5 ∷ [])
not_while_it_pends = refl

-- one group at a time
one_at_a_time : ran (Begin one_op 5 ∷ Begin one_op 6 ∷ []) ≡ ran (Begin one_op 5 ∷ [])
one_at_a_time = refl

-- in doubt: it is in, or it isn't
settled_in : next_of (ran (Begin one_op 5 ∷ Settle true ∷ [])).stored ≡ 1
settled_in = refl

settled_out : ran (Begin one_op 5 ∷ Settle false ∷ []) ≡ opening
settled_out = refl

-- a message a generation: the second needs a new one, which needs a message in the old one
no_room_for_two : ran (Begin one_op 5 ∷ Store ∷ Begin one_op 6 ∷ []) ≡ ran (Begin one_op 5 ∷ Store ∷ [])
no_room_for_two = refl

no_empty_generation : ran (BeginCut 5 ∷ Rotate ∷ []) ≡ opening
no_empty_generation = refl

room_in_the_next : next_of (ran (Begin one_op 5 ∷ Store ∷ BeginCut 6 ∷ Rotate ∷ Begin one_op 6 ∷ Store ∷ [])).stored ≡ 2
room_in_the_next = refl

-- sealed at 6, with a retention of 1000
not_dropped_yet : floor_of (ran (Begin one_op 5 ∷ Store ∷ BeginCut 6 ∷ Rotate ∷ BeginDrop 1005 ∷ Drop ∷ [])).stored ≡ 0
not_dropped_yet = refl

dropped_then : floor_of (ran (Begin one_op 5 ∷ Store ∷ BeginCut 6 ∷ Rotate ∷ BeginDrop 1006 ∷ Drop ∷ [])).stored ≡ 1
dropped_then = refl

-- a crash while a drop pends
crashed_in : floor_of
    (crashed_shard one_each true (ran (Begin one_op 5 ∷ Store ∷ BeginCut 6 ∷ Rotate ∷ BeginDrop 1006 ∷ []))).shown ≡ 1
crashed_in = refl

crashed_out : length
    (crashed_shard one_each false (ran (Begin one_op 5 ∷ Store ∷ BeginCut 6 ∷ Rotate ∷ BeginDrop 1006 ∷ []))).shown.cuts
    ≡ 2
crashed_out = refl
