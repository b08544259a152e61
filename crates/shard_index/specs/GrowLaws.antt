-- Over any list of operations the model's list stays in order, and has grown.
use Rattle.std.proofs.Common.{◌≡◌, ℕ, ◌+◌, Bool, true, false, ◌&&◌, ◌==◌, is_none, List, [], ◌∷◌, refl, sym, subst, eqb-true}
use Rattle.std.proofs.lemmas.Bool.{and_parts}
use Rattle.std.proofs.lemmas.List.{append-nil}
use Rattle.topic_name.specs.KeptMessage.{KeptMessage}
use Rattle.shard_model.specs.ShardList.{Cut, Awaited, ShardList, newest, next_of}
use Rattle.shard_model.specs.Storing.{Store, act_if, acts}
use Rattle.shard_model.specs.Growing.{HasGrown}
use Rattle.shard_model.specs.Lists.{IsList}
use Rattle.shard_model.specs.laws.ListLaws.{adding_grows, grown_then, store_in_order, storing_grows}
use Rattle.shard_model.specs.laws.MoveLaws.{grown_itself}
use Rattle.shard_model.specs.laws.GenerationLaws.{dropped_grows, dropped_in_order, rotated_grows, rotated_in_order}
use Rattle.shard_index.specs.declared.op.IndexOp.{IndexOp}
use Rattle.shard_index.specs.declared.op.IndexOp.TheVariants.{Add, Release, Forget, Rotate, Drop}
use Rattle.shard_index.specs.KeptIndex.{cut_of}
use Rattle.shard_index.specs.Absorbing.{absorbed, absorbed_all, begun_if, has_place, may_add, may_begin}
use Rattle.shard_index.specs.SoundLaws.{begun_is, config_of, is_unsealed}

-- in order, and grown from a list
pub record Grows (list later : ShardList) : Type 0 where
  pub order : IsList later
  pub grown : HasGrown list later

grows_itself : (list : ShardList) → IsList list → Grows list list
grows_itself list is = record { order = is; grown = grown_itself list is }

awaits_others : (list : ShardList) (awaited : List Awaited) → IsList list → Grows list (record list { awaited = awaited })
awaits_others list awaited is = record {
  order = record { cuts = is.cuts; offsets = is.offsets };
  grown = adding_grows list (record list { awaited = awaited }) is (record { cuts = refl; more = ([], sym (append-nil list.messages)) });
}

added_grows : (b : Bool) (m : KeptMessage) (list : ShardList) → may_add list m.stored ≡ b → IsList list → Grows list (act_if b m.stored.stamp list (Store m.stored))
added_grows false m list may is = grows_itself list is
added_grows true m list may is =
    let new = (and_parts (has_place list m.stored) (acts list (Store m.stored)) may).1 in
    record {
      order = subst (λ b. IsList (act_if b m.stored.stamp list (Store m.stored))) new (store_in_order list (Store m.stored ∷ []) m.stored.stamp is);
      grown = subst (λ b. HasGrown list (act_if b m.stored.stamp list (Store m.stored))) new (storing_grows list (Store m.stored ∷ []) m.stored.stamp is);
    }

begun_grows : (b : Bool) (now : ℕ) (cut : Cut) (list : ShardList) → may_begin list cut ≡ b → IsList list → Grows list (begun_if b now cut list)
begun_grows false now cut list may is = grows_itself list is
begun_grows true now cut list may is =
    let parts = and_parts (cut.number == (newest list).number + 1) ((cut.first == next_of list) && is_none cut.sealed) may in
    let more = and_parts (cut.first == next_of list) (is_none cut.sealed) parts.1 in
    let same = begun_is now list cut (eqb-true cut.number ((newest list).number + 1) parts.0) (eqb-true cut.first (next_of list) more.0) (is_unsealed cut.sealed more.1) in
    record {
      order = subst IsList same (rotated_in_order (config_of cut) now list is);
      grown = subst (HasGrown list) same (rotated_grows (config_of cut) now list is);
    }

pub absorbed_grows : (op : IndexOp) (list : ShardList) → IsList list → Grows list (absorbed op list)
absorbed_grows (Add m) list is = added_grows (may_add list m.stored) m list refl is
absorbed_grows (Release a) list is = awaits_others list _ is
absorbed_grows (Forget p) list is = awaits_others list _ is
absorbed_grows (Rotate now cut) list is = begun_grows (may_begin list (cut_of cut)) now (cut_of cut) list refl is
absorbed_grows Drop list is = record { order = dropped_in_order list is; grown = dropped_grows list is }

pub absorbed_all_grows : (ops : List IndexOp) (list : ShardList) → IsList list → Grows list (absorbed_all ops list)
absorbed_all_grows [] list is = grows_itself list is
absorbed_all_grows (op ∷ ops) list is =
    let one = absorbed_grows op list is in
    let rest = absorbed_all_grows ops (absorbed op list) one.order in
    record { order = rest.order; grown = grown_then list (absorbed op list) (absorbed_all ops (absorbed op list)) one.order rest.order one.grown rest.grown }
