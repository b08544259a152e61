-- Nothing is awaited twice.
use Rattle.std.proofs.Common.{◌≡◌, ◌≢◌, ℕ, ◌<◌, Bool, true, false, ◌&&◌, ◌==◌, not, nat_lt, cond, List, [], ◌∷◌, ◌++◌, get_or, refl, sym, ap, subst, ◌∙◌, append_assoc, arith}
use Rattle.std.specs.Bool.{Decides}
use Rattle.std.specs.List.{AllPairs, IsDistinct, list_any}
use Rattle.std.proofs.lemmas.Bool.{and_parts, not-true}
use Rattle.std.proofs.lemmas.List.{append-nil}
use Rattle.std.proofs.lemmas.List.Folds.{list_any_at}
use Rattle.std.proofs.lemmas.List.Kept.{AllPairs-filter}
use Rattle.std.proofs.lemmas.List.Quantifiers.{all_pairs_push}
use Rattle.std.proofs.lemmas.Map.Made.{IsDistinct-from_AllPairs}
use Rattle.topic_model.specs.StoredMessage.{StoredMessage}
use Rattle.shard_model.specs.ShardList.{Awaited, ShardList}
use Rattle.shard_model.specs.Storing.{Store as PlainStore, act_if, acts, awaits, becomes_awaited, is_awaited_as, is_of, triple_of}
use Rattle.shard_index.specs.Absorbing.{absorbed, absorbed_all, has_place, may_add}
use Rattle.shard_model.specs.Storing.{same_triple}
use Rattle.shard_index.specs.Triples.{are_distinct, are_new_behind, same_triple_is, same_triple_itself}
use Rattle.record_codec.specs.Records.{index_op, index_ops}
use Rattle.record_codec.specs.declared.group.Op.{Op}
use Rattle.record_codec.specs.declared.group.Op.TheVariants.{Store, Release, Forget}

-- no two are the same
abbrev pub AreApart : List Awaited → Type 0
AreApart awaited = AllPairs (λ a b. a ≢ b) awaited

same_decides : (a b : Awaited) → Decides (same_triple a b) (a ≡ b)
same_decides a b = (same_triple_is a b, λ e. ap (same_triple a) (sym e) ∙ same_triple_itself a)

-- as an index asks for it
pub apart_distinct : (awaited : List Awaited) → AreApart awaited → IsDistinct same_triple awaited
apart_distinct awaited apart = IsDistinct-from_AllPairs same_decides awaited apart

-- another one behind them
new_apart : (awaited : List Awaited) (a : Awaited) → AreApart awaited → list_any (same_triple a) awaited ≡ false → AreApart (awaited ++ a ∷ [])
new_apart awaited a apart new = all_pairs_push (λ a b. a ≢ b) awaited a apart (λ k d less is. differs (list_any_at (same_triple a) awaited k d less (same k d is)))
  where
    same : (k : ℕ) (d : Awaited) → get_or awaited k d ≡ a → same_triple a (get_or awaited k d) ≡ true
    same k d is = ap (same_triple a) is ∙ same_triple_itself a

    differs : list_any (same_triple a) awaited ≡ true → ⊥
    differs is = let e : true ≡ false = sym is ∙ new in cc

all_apart : (before awaited : List Awaited) → AreApart before → are_new_behind before awaited ≡ true → AreApart (before ++ awaited)
all_apart before [] apart new = subst AreApart (sym (append-nil before)) apart
all_apart before (a ∷ awaited) apart new =
    let p = and_parts (not (list_any (same_triple a) before)) (are_new_behind (before ++ a ∷ []) awaited) new in
    subst AreApart (append_assoc before (a ∷ []) awaited)
    (all_apart (before ++ a ∷ []) awaited (new_apart before a apart (not-true (list_any (same_triple a) before) p.0)) p.1)

pub tested_apart : (awaited : List Awaited) → are_distinct awaited ≡ true → AreApart awaited
tested_apart awaited distinct = all_apart [] awaited (λ i j d less within. absurd (none j within)) distinct
  where
    none : (j : ℕ) → j < 0 → ⊥
    none j less = omega (arith, less)

-- ---- operations

added_apart : (list : ShardList) (m : StoredMessage) → acts list (PlainStore m) ≡ true → AreApart list.awaited → AreApart (list.awaited ++ becomes_awaited m)
added_apart list m new apart = by (m.qos == 2) (nat_lt 0 m.id) new
  where
    by : (exactly_once has_id : Bool) → not (exactly_once && awaits list m.publisher m.incarnation m.id) ≡ true →
        AreApart (list.awaited ++ cond (exactly_once && has_id) (triple_of m ∷ []) [])
    by true true new = new_apart list.awaited (triple_of m) apart (not-true (awaits list m.publisher m.incarnation m.id) new)
    by true false new = subst AreApart (sym (append-nil list.awaited)) apart
    by false has_id new = subst AreApart (sym (append-nil list.awaited)) apart

op_apart : (op : Op) (list : ShardList) → AreApart list.awaited → AreApart (absorbed (index_op op) list).awaited
op_apart (Release publisher incarnation id) list apart = AllPairs-filter (λ a b. a ≢ b) (λ a. not (is_awaited_as publisher incarnation id a)) list.awaited apart
op_apart (Forget publisher incarnation) list apart = AllPairs-filter (λ a b. a ≢ b) (λ a. not (is_of publisher incarnation a)) list.awaited apart
op_apart (Store m) list apart = by (may_add list m.stored) refl
  where
    by : (may : Bool) → may_add list m.stored ≡ may → AreApart (act_if may m.stored.stamp list (PlainStore m.stored)).awaited
    by false may = apart
    by true may = added_apart list m.stored (and_parts (has_place list m.stored) (acts list (PlainStore m.stored)) may).1 apart

pub ops_apart : (ops : List Op) (list : ShardList) → AreApart list.awaited → AreApart (absorbed_all (index_ops ops) list).awaited
ops_apart [] list apart = apart
ops_apart (op ∷ ops) list apart = ops_apart ops (absorbed (index_op op) list) (op_apart op list apart)
