-- What is told of the references to the operations that are kept is told of those that are chosen.
use Rattle.std.proofs.Common.{◌≡◌, ◌<◌, ◌≤◌, ◌==◌, Bool, true, false, Vec, vec_len, Global, List, length, sym, ap, ◌∙◌, arith}
use Rattle.std.proofs.lemmas.Bool.{eqb-true, eqb-false}
use Rattle.std.specs.Borrow.{Bor}
use Rattle.shard_model.specs.ShardList.{ShardList}
use Rattle.record_codec.specs.declared.group.Op.{Op}
use Rattle.record_codec.specs.Records.{plain_ops}
use Rattle.group_plan.specs.Plan.{lacks_room}
use Rattle.group_plan.specs.Keeping.{chosen}
use Rattle.group_plan.specs.KeepLaws.{chosen_few}
use Rattle.group_plan.proofs.References.{told, told_long}

module _ (list : ShardList) (ops : List Op) (kept : Vec (Bor Op) Global) (are : told kept.items ≡ chosen list.awaited ops) where
  long : length (chosen list.awaited ops) ≡ vec_len kept
  long = sym (ap length are) ∙ told_long kept.items ∙ sym kept.ok.0

  pub none_kept : true ≡ (vec_len kept == 0) → length (chosen list.awaited ops) ≡ 0
  none_kept empty = long ∙ eqb-true (vec_len kept) 0 (sym empty)

  pub some_kept : false ≡ (vec_len kept == 0) → 0 < length (chosen list.awaited ops)
  some_kept some = let not_none = eqb-false (vec_len kept) 0 (sym some) in let same = long in omega arith

  -- of a slice that lends them
  module _ (lent : List (Bor Op)) (same : lent ≡ kept.items) where
    pub are_lent : told lent ≡ chosen list.awaited ops
    are_lent = ap told same ∙ are

    pub few_kept : length lent ≤ length ops
    few_kept = let few = chosen_few ops list.awaited in omega (arith, sym (told_long lent) ∙ ap length are_lent)

    pub room_told : (lacks b : Bool) → lacks ≡ lacks_room list (plain_ops (told lent)) → lacks ≡ b → lacks_room list (plain_ops (chosen list.awaited ops)) ≡ b
    room_told lacks b is holds = ap (λ l. lacks_room list (plain_ops l)) (sym are_lent) ∙ sym is ∙ holds
