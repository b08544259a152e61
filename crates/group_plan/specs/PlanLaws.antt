-- What a plan comes to, and what follows of one that stores.
use Rattle.std.proofs.Common.{◌≡◌, ℕ, ◌+◌, ◌<◌, ◌≤◌, ◌^◌, nat_lt, nat_le, Bool, true, false, not, ◌&&◌, ◌||◌, if◌then◌else◌, List, [], ◌∷◌, length, map, refl, sym, ap, subst, ◌∙◌, lt-ltb, arith}
use Rattle.std.specs.List.{sum_by}
use Rattle.std.proofs.lemmas.Bool.{and_parts, ltb-true, leb-true}
use Rattle.std.proofs.lemmas.Bool.Decides.{nat_tests}
use Rattle.std.proofs.lemmas.List.{length-map}
use Rattle.topic_model.specs.Profile.{Config, whole, one_generation}
use Rattle.shard_model.specs.ShardList.{Cut, Awaited, ShardList, newest, newest_messages, next_of, oldest_of}
use Rattle.shard_model.specs.Storing.{Op as PlainOp, kept_ops, store, stores_of}
use Rattle.shard_model.specs.Capacity.{awaits_too_many, has_stores, is_full, may_drop, is_retained_out, needs_a_cut, passes_the_last, store_size}
use Rattle.shard_model.specs.Lists.{IsList, IsRow}
use Rattle.shard_index.specs.Absorbing.{absorbed_all, all_stand, limits}
use Rattle.shard_index.specs.Group.{HasRoom, ops_for}
use Rattle.shard_index.specs.GroupLaws.{group_absorbed}
use Rattle.shard_index.specs.Sound.{newest_bytes}
use Rattle.record_codec.specs.declared.group.Op.{Op}
use Rattle.record_codec.specs.Records.{KeptGroup, index_op, plain_op, plain_ops}
use Rattle.group_plan.specs.Plan.{Planned, KeepsNothing, IsFull, AwaitsTooMany, Stores, lacks_room, planned, planned_by, written, written_ops}
use Rattle.group_plan.specs.Keeping.{awaited_after, chosen}
use Rattle.group_plan.specs.Room.{takes_more}
use Rattle.group_plan.specs.KeepLaws.{chosen_act, chosen_kept, chosen_written, index_written, stored_awaited}
use Rattle.group_plan.specs.RoomLaws.{room_is, written_long}
use Rattle.group_plan.specs.StandLaws.{all_can_stand, kept_are_stored}

-- ---- nothing is kept

pub nothing_kept : (ops : List PlainOp) (list : ShardList) (now : ℕ) → kept_ops list ops ≡ [] → store list ops now ≡ list
nothing_kept ops list now none = sym (kept_are_stored ops list list now refl) ∙ ap (λ l. store list l now) none

-- ---- one generation is held

-- the only generation isn't sealed, so that it may not be dropped
stays : (config : Config) (now : ℕ) (cuts : List Cut) (end : ℕ) → length cuts ≡ 1 → IsRow end cuts → is_retained_out config.retention now (oldest_of cuts).sealed ≡ false
stays config now [] end one row = absurd row
stays config now (cut ∷ []) end one row = ap (is_retained_out config.retention now) row.1
stays config now (cut ∷ next ∷ cuts) end one row = absurd (omega arith)

pub full_of_one : (config : Config) (list : ShardList) (kept : List PlainOp) (now : ℕ) → length list.cuts ≡ 1 → IsList list →
    is_full (one_generation limits) config list kept now ≡ lacks_room list kept
full_of_one config list kept now one is =
    ap (λ n. (needs && (nat_le 1 n && not (may_drop config list now))) || (has_stores kept && passes_the_last needs list kept)) one
    ∙ ap (λ b. (needs && (true && not b)) || (has_stores kept && passes_the_last needs list kept)) (stays config now list.cuts (next_of list) one is.cuts)
    ∙ by needs (has_stores kept) (nat_le (2 ^ 64) (next_of list + length (stores_of kept))) (nat_le (2 ^ 64) ((newest list).number + 1))
  where
    needs : Bool
    needs = needs_a_cut limits list kept

    by : (n has a b : Bool) → ((n && true) || (has && (a || (n && b)))) ≡ (n || (has && (a || false)))
    by true has a b = refl
    by false has a b = refl

-- ---- a plan by the operations that are kept

module _ (list : ShardList) (ops : List Op) (now : ℕ) where
  abbrev kept : List Op
  kept = chosen list.awaited ops

  abbrev behind : List Awaited
  behind = awaited_after list.awaited (plain_ops kept)

  by_kept : planned_by list ops (plain_ops kept) now ≡ planned list ops now
  by_kept = ap (λ l. planned_by list ops l now) (chosen_kept ops list list.awaited refl)

  -- how many are awaited is told by what is awaited alone
  pub too_many_is : awaits_too_many whole list (plain_ops kept) now ≡ nat_lt whole.awaited (length behind)
  too_many_is = ap (λ (l : List Awaited). nat_lt whole.awaited (length l)) (stored_awaited (plain_ops kept) list now (chosen_act ops list.awaited))

  abbrev verdict : Bool → Bool → Planned
  verdict full many = if full then IsFull else if many then AwaitsTooMany else Stores (written list ops now)

  some_is : (l : List PlainOp) → 0 < length l → planned_by list ops l now ≡ verdict (lacks_room list l) (awaits_too_many whole list l now)
  some_is [] some = absurd (omega arith)
  some_is (op ∷ l) some = refl

  verdict_is : 0 < length kept → verdict (lacks_room list (plain_ops kept)) (nat_lt whole.awaited (length behind)) ≡ planned list ops now
  verdict_is some =
      let long : length (plain_ops kept) ≡ length kept = length-map kept plain_op in
      ap (verdict (lacks_room list (plain_ops kept))) (sym too_many_is) ∙ sym (some_is (plain_ops kept) (omega arith)) ∙ by_kept

  pub plans_nothing : length kept ≡ 0 → planned list ops now ≡ KeepsNothing
  plans_nothing none = sym by_kept ∙ ap (λ l. planned_by list ops (plain_ops l) now) (is_nil kept none)
    where
      is_nil : (l : List Op) → length l ≡ 0 → l ≡ []
      is_nil [] e = refl
      is_nil (x ∷ l) e = absurd (omega arith)

  pub plans_full : 0 < length kept → lacks_room list (plain_ops kept) ≡ true → planned list ops now ≡ IsFull
  plans_full some full = sym (verdict_is some) ∙ ap (λ b. verdict b (nat_lt whole.awaited (length behind))) full

  pub plans_too_many : 0 < length kept → lacks_room list (plain_ops kept) ≡ false → whole.awaited < length behind → planned list ops now ≡ AwaitsTooMany
  plans_too_many some room many =
      sym (verdict_is some) ∙ ap (λ b. verdict b (nat_lt whole.awaited (length behind))) room ∙ ap (verdict false) (lt-ltb whole.awaited (length behind) many)

  pub plans_stores : 0 < length kept → lacks_room list (plain_ops kept) ≡ false → length behind ≤ whole.awaited → planned list ops now ≡ Stores (written list ops now)
  plans_stores some room few =
      sym (verdict_is some) ∙ ap (λ b. verdict b (nat_lt whole.awaited (length behind))) room ∙ ap (verdict false) (not_below whole.awaited (length behind) few)
    where
      not_below : (most n : ℕ) → n ≤ most → nat_lt most n ≡ false
      not_below most n h = grind (arith, nat_tests)

-- ---- a plan that stores

-- What a plan gives to those who carry it out: what the index takes is what the group's record tells, each of it can stand, and makes
-- of the list what storing the group makes of it; not too many are awaited then; and the group begins at the next offset, and has an
-- operation.
pub record IsReady (list : ShardList) (ops : List Op) (now : ℕ) (g : KeptGroup) : Type 0 where
  pub operations : map index_op g.ops ≡ ops_for list now (plain_ops ops)
  pub stand : all_stand list (ops_for list now (plain_ops ops)) ≡ true
  pub absorbed : absorbed_all (ops_for list now (plain_ops ops)) list ≡ store list (plain_ops ops) now
  pub awaited : length (store list (plain_ops ops) now).awaited ≤ whole.awaited
  pub first : g.first ≡ next_of list
  pub some : 0 < length g.ops

-- what a plan that stores went by
record Passed (list : ShardList) (ops : List Op) (kept : List PlainOp) (now : ℕ) (g : KeptGroup) : Type 0 where
  some : 0 < length kept
  room : lacks_room list kept ≡ false
  few : awaits_too_many whole list kept now ≡ false
  group : written list ops now ≡ g

passed : (list : ShardList) (ops : List Op) (kept : List PlainOp) (now : ℕ) (g : KeptGroup) → planned_by list ops kept now ≡ Stores g → Passed list ops kept now g
passed list ops [] now g is = absurd cc
passed list ops (op ∷ kept) now g is = by (lacks_room list (op ∷ kept)) (awaits_too_many whole list (op ∷ kept) now) refl refl is
  where
    by : (full many : Bool) → lacks_room list (op ∷ kept) ≡ full → awaits_too_many whole list (op ∷ kept) now ≡ many →
        (if full then IsFull else if many then AwaitsTooMany else Stores (written list ops now)) ≡ Stores g → Passed list ops (op ∷ kept) now g
    by true many e f is = absurd cc
    by false true e f is = absurd cc
    by false false e f is = record { some = omega arith; room = e; few = f; group = cc }

-- there is room for the messages, where there are some
pub has_room : (list : ShardList) (kept : List PlainOp) → lacks_room list kept ≡ false → 0 < length (stores_of kept) → HasRoom list (stores_of kept)
has_room list kept room some =
    by (takes_more list (length (stores_of kept)) (sum_by store_size (stores_of kept))) refl
    (ap (λ b. b && not (takes_more list (length (stores_of kept)) (sum_by store_size (stores_of kept)))) (sym (lt-ltb 0 (length (stores_of kept)) some))
    ∙ sym (room_is list kept)
    ∙ room)
  where
    count : ℕ
    count = length (newest_messages list) + length (stores_of kept)

    bytes : ℕ
    bytes = newest_bytes list + sum_by store_size (stores_of kept)

    by : (b : Bool) → takes_more list (length (stores_of kept)) (sum_by store_size (stores_of kept)) ≡ b → (true && not b) ≡ false → HasRoom list (stores_of kept)
    by false e h = absurd cc
    by true e h =
        let parts = and_parts (nat_le (length (newest_messages list) + length (stores_of kept)) (newest list).messages) (nat_le (newest_bytes list + sum_by store_size (stores_of kept)) whole.generation_bytes && nat_lt (next_of list + length (stores_of kept)) (2 ^ 64)) e in
        let more = and_parts (nat_le (newest_bytes list + sum_by store_size (stores_of kept)) whole.generation_bytes) (nat_lt (next_of list + length (stores_of kept)) (2 ^ 64)) parts.1 in
        record {
          count = leb-true (length (newest_messages list) + length (stores_of kept)) (newest list).messages parts.0;
          bytes = leb-true (newest_bytes list + sum_by store_size (stores_of kept)) whole.generation_bytes more.0;
          end = ltb-true (next_of list + length (stores_of kept)) (2 ^ 64) more.1;
        }

pub plan_stands : (list : ShardList) (ops : List Op) (now : ℕ) (g : KeptGroup) → IsList list → planned list ops now ≡ Stores g → IsReady list ops now g
plan_stands list ops now g is stores =
    let p = passed list ops (kept_ops list (plain_ops ops)) now g stores in
    let room = has_room list (kept_ops list (plain_ops ops)) p.room in
    let few = p.few in
    let some = p.some in
    let same = ap (λ (l : ShardList). length l.awaited) (kept_are_stored (plain_ops ops) list list now refl) in
    let long : length (kept_ops list (plain_ops ops)) ≡ length (chosen list.awaited ops) =
    ap length (sym (chosen_kept ops list list.awaited refl)) ∙ length-map (chosen list.awaited ops) plain_op in
    let longer : length (written_ops list now ops) ≡ length (chosen list.awaited ops) =
    ap length (sym (chosen_written ops list now)) ∙ written_long (chosen list.awaited ops) now (next_of list) in
    let ops_same = ap (λ (h : KeptGroup). h.ops) p.group in
    record {
      operations = ap (map index_op) (sym ops_same) ∙ index_written ops list now;
      stand = all_can_stand (plain_ops ops) list list now refl is room;
      absorbed = group_absorbed list (plain_ops ops) now is room;
      awaited = few_awaited (length (store list (plain_ops ops) now).awaited) (ap (nat_lt whole.awaited) (sym same) ∙ few);
      first = sym (ap (λ (h : KeptGroup). h.first) p.group);
      some = subst (λ l. 0 < length l) ops_same (omega arith);
    }
  where
    few_awaited : (n : ℕ) → nat_lt whole.awaited n ≡ false → n ≤ whole.awaited
    few_awaited n h = grind (arith, nat_tests)
