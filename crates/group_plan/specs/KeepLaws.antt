-- The operations that are kept, chosen by what is awaited alone, are those of the definition of storing.
use Rattle.std.proofs.Common.{◌≡◌, ℕ, ◌+◌, ◌≤◌, Bool, true, false, ◌&&◌, if◌then◌else◌, List, [], ◌∷◌, ◌++◌, length, map, Option, Some, None, refl, sym, ap, ◌∙◌, append_assoc, arith}
use Rattle.std.specs.List.{list_all}
use Rattle.std.proofs.lemmas.Bool.{and_parts}
use Rattle.std.proofs.lemmas.List.{length-append, map-append}
use Rattle.std.proofs.lemmas.Option.{same_Some}
use Rattle.shard_model.specs.ShardList.{Awaited, ShardList, next_of}
use Rattle.shard_model.specs.Storing.{Op as PlainOp, Store as PlainStore, Release as PlainRelease, Forget as PlainForget, acts, act, act_if, keep_if, kept_ops, placed, store}
use Rattle.shard_index.specs.Group.{also_if as also_taken_if, op_for, ops_for}
use Rattle.record_codec.specs.declared.group.Op.{Op}
use Rattle.record_codec.specs.declared.group.Op.TheVariants.{Store, Release, Forget}
use Rattle.record_codec.specs.Records.{index_op, offsets_of, plain_op, plain_ops}
use Rattle.group_plan.specs.Plan.{also_if, written_op, written_ops}
use Rattle.group_plan.specs.Keeping.{acts_on, awaited_by, awaited_if, awaited_after, all_act, chosen, written_from}

-- ---- one operation

pub acts_is : (list : ShardList) (op : PlainOp) → acts list op ≡ acts_on list.awaited op
acts_is list (PlainStore m) = refl
acts_is list (PlainRelease publisher incarnation id) = refl
acts_is list (PlainForget publisher incarnation) = refl

pub awaited_is : (b : Bool) (now : ℕ) (list : ShardList) (op : PlainOp) → (act_if b now list op).awaited ≡ awaited_if b op list.awaited
awaited_is false now list op = refl
awaited_is true now list (PlainStore m) = refl
awaited_is true now list (PlainRelease publisher incarnation id) = refl
awaited_is true now list (PlainForget publisher incarnation) = refl

-- a Store takes one offset
next_is : (now : ℕ) (list : ShardList) (op : Op) → next_of (act now list (plain_op op)) ≡ next_of list + offsets_of op
next_is now list (Store m) =
    let long = length-append list.messages (placed m.stored (next_of list) now ∷ []) in
    let last : length (placed m.stored (next_of list) now ∷ []) ≡ 1 = refl in
    omega arith
next_is now list (Release publisher incarnation id) = omega arith
next_is now list (Forget publisher incarnation) = omega arith

-- ---- all of them

-- those that are kept are told by what is awaited, at any moment
pub chosen_kept : (ops : List Op) (list : ShardList) (awaited : List Awaited) → list.awaited ≡ awaited → plain_ops (chosen awaited ops) ≡ kept_ops list (plain_ops ops)
chosen_kept [] list awaited e = refl
chosen_kept (op ∷ ops) list awaited e =
    by (acts_on awaited (plain_op op)) (acts list (plain_op op)) (sym (acts_is list (plain_op op) ∙ ap (λ l. acts_on l (plain_op op)) e))
    (λ b. chosen_kept ops (act_if b 0 list (plain_op op)) (awaited_if b (plain_op op) awaited) (awaited_is b 0 list (plain_op op) ∙ ap (awaited_if b (plain_op op)) e))
  where
    by : (a b : Bool) → a ≡ b → ((b : Bool) → plain_ops (chosen (awaited_if b (plain_op op) awaited) ops) ≡ kept_ops (act_if b 0 list (plain_op op)) (plain_ops ops)) →
        plain_ops (also_if a op (chosen (awaited_if a (plain_op op) awaited) ops)) ≡ keep_if b (plain_op op) (kept_ops (act_if b 0 list (plain_op op)) (plain_ops ops))
    by true true e rest = ap (λ l. plain_op op ∷ l) (rest true)
    by false false e rest = rest false
    by true false e rest = absurd cc
    by false true e rest = absurd cc

-- and written at the offsets that they take
pub chosen_written : (ops : List Op) (list : ShardList) (now : ℕ) → written_from now (next_of list) (chosen list.awaited ops) ≡ written_ops list now ops
chosen_written [] list now = refl
chosen_written (op ∷ ops) list now =
    by (acts_on list.awaited (plain_op op)) (acts list (plain_op op)) (sym (acts_is list (plain_op op))) (λ b. chosen_written ops (act_if b now list (plain_op op)) now)
  where
    by : (a b : Bool) → a ≡ b →
        ((b : Bool) → written_from now (next_of (act_if b now list (plain_op op))) (chosen (act_if b now list (plain_op op)).awaited ops)
        ≡ written_ops (act_if b now list (plain_op op)) now ops) →
        written_from now (next_of list) (also_if a op (chosen (awaited_if a (plain_op op) list.awaited) ops))
        ≡ also_if b (written_op list now op) (written_ops (act_if b now list (plain_op op)) now ops)
    by true true e rest =
        ap (λ l. written_op list now op ∷ l)
        (ap (λ n. written_from now n (chosen (awaited_by (plain_op op) list.awaited) ops)) (sym (next_is now list op))
        ∙ ap (λ l. written_from now (next_of (act now list (plain_op op))) (chosen l ops)) (sym (awaited_is true now list (plain_op op)))
        ∙ rest true)
    by false false e rest = rest false
    by true false e rest = absurd cc
    by false true e rest = absurd cc

pub chosen_act : (ops : List Op) (awaited : List Awaited) → all_act awaited (plain_ops (chosen awaited ops)) ≡ true
chosen_act [] awaited = refl
chosen_act (op ∷ ops) awaited = by (acts_on awaited (plain_op op)) refl (λ later. chosen_act ops later)
  where
    by : (b : Bool) → acts_on awaited (plain_op op) ≡ b → ((later : List Awaited) → all_act later (plain_ops (chosen later ops)) ≡ true) →
        all_act awaited (plain_ops (also_if b op (chosen (awaited_if b (plain_op op) awaited) ops))) ≡ true
    by true is rest =
        ap (λ b. b && all_act (awaited_by (plain_op op) awaited) (plain_ops (chosen (awaited_by (plain_op op) awaited) ops))) is
        ∙ rest (awaited_by (plain_op op) awaited)
    by false is rest = rest awaited

pub chosen_all : (test : Op → Bool) (ops : List Op) (awaited : List Awaited) → list_all test ops ≡ true → list_all test (chosen awaited ops) ≡ true
chosen_all test [] awaited all = refl
chosen_all test (op ∷ ops) awaited all =
    let parts = and_parts (test op) (list_all test ops) all in by (acts_on awaited (plain_op op)) parts.0 (λ later. chosen_all test ops later parts.1)
  where
    by : (b : Bool) → test op ≡ true → ((later : List Awaited) → list_all test (chosen later ops) ≡ true) →
        list_all test (also_if b op (chosen (awaited_if b (plain_op op) awaited) ops)) ≡ true
    by true one rest = ap (λ b. b && list_all test (chosen (awaited_by (plain_op op) awaited) ops)) one ∙ rest (awaited_by (plain_op op) awaited)
    by false one rest = rest awaited

pub chosen_few : (ops : List Op) (awaited : List Awaited) → length (chosen awaited ops) ≤ length ops
chosen_few [] awaited = omega arith
chosen_few (op ∷ ops) awaited = by (acts_on awaited (plain_op op)) (λ later. chosen_few ops later)
  where
    by : (b : Bool) → ((later : List Awaited) → length (chosen later ops) ≤ length ops) →
        length (also_if b op (chosen (awaited_if b (plain_op op) awaited) ops)) ≤ length (op ∷ ops)
    by true rest = let few = rest (awaited_by (plain_op op) awaited) in omega arith
    by false rest = let few = rest awaited in omega arith

-- what is awaited behind operations that all act
pub stored_awaited : (ops : List PlainOp) (list : ShardList) (now : ℕ) → all_act list.awaited ops ≡ true → (store list ops now).awaited ≡ awaited_after list.awaited ops
stored_awaited [] list now act = refl
stored_awaited (op ∷ ops) list now all =
    let parts = and_parts (acts_on list.awaited op) (all_act (awaited_by op list.awaited) ops) all in
    let behind = awaited_is true now list op in
    ap (λ b. (store (act_if b now list op) ops now).awaited) (acts_is list op ∙ parts.0)
    ∙ stored_awaited ops (act now list op) now (ap (λ l. all_act l ops) behind ∙ parts.1)
    ∙ ap (λ l. awaited_after l ops) behind

-- ---- one more behind those so far

after_more : (ops : List PlainOp) (awaited : List Awaited) (op : PlainOp) → awaited_after awaited (ops ++ op ∷ []) ≡ awaited_by op (awaited_after awaited ops)
after_more [] awaited op = refl
after_more (first ∷ ops) awaited op = after_more ops (awaited_by first awaited) op

act_more : (ops : List PlainOp) (awaited : List Awaited) (op : PlainOp) → all_act awaited ops ≡ true → acts_on (awaited_after awaited ops) op ≡ true →
    all_act awaited (ops ++ op ∷ []) ≡ true
act_more [] awaited op all acts = ap (λ b. b && true) acts
act_more (first ∷ ops) awaited op all acts =
    let parts = and_parts (acts_on awaited first) (all_act (awaited_by first awaited) ops) all in
    ap (λ b. b && all_act (awaited_by first awaited) (ops ++ op ∷ [])) parts.0 ∙ act_more ops (awaited_by first awaited) op parts.1 acts

module _ (so_far : List Op) (awaited : List Awaited) (op : Op) where
  plain_more : plain_ops (so_far ++ op ∷ []) ≡ plain_ops so_far ++ plain_op op ∷ []
  plain_more = map-append plain_op so_far (op ∷ [])

  pub awaited_more : awaited_after awaited (plain_ops (so_far ++ op ∷ [])) ≡ awaited_by (plain_op op) (awaited_after awaited (plain_ops so_far))
  awaited_more = ap (awaited_after awaited) plain_more ∙ after_more (plain_ops so_far) awaited (plain_op op)

  pub all_more : all_act awaited (plain_ops so_far) ≡ true → acts_on (awaited_after awaited (plain_ops so_far)) (plain_op op) ≡ true →
      all_act awaited (plain_ops (so_far ++ op ∷ [])) ≡ true
  all_more all acts = ap (all_act awaited) plain_more ∙ act_more (plain_ops so_far) awaited (plain_op op) all acts

  -- it is kept, or it isn't
  pub chosen_more : (ops : List Op) → acts_on (awaited_after awaited (plain_ops so_far)) (plain_op op) ≡ true →
      (so_far ++ op ∷ []) ++ chosen (awaited_after awaited (plain_ops (so_far ++ op ∷ []))) ops ≡ so_far ++ chosen (awaited_after awaited (plain_ops so_far)) (op ∷ ops)
  chosen_more ops acts =
      let behind = awaited_after awaited (plain_ops so_far) in
      append_assoc so_far (op ∷ []) (chosen (awaited_after awaited (plain_ops (so_far ++ op ∷ []))) ops)
      ∙ ap (λ l. so_far ++ op ∷ chosen l ops) awaited_more
      ∙ ap (λ b. so_far ++ also_if b op (chosen (awaited_if b (plain_op op) behind) ops)) (sym acts)

  pub chosen_same : (ops : List Op) → acts_on (awaited_after awaited (plain_ops so_far)) (plain_op op) ≡ false →
      so_far ++ chosen (awaited_after awaited (plain_ops so_far)) ops ≡ so_far ++ chosen (awaited_after awaited (plain_ops so_far)) (op ∷ ops)
  chosen_same ops acts =
      let behind = awaited_after awaited (plain_ops so_far) in ap (λ b. so_far ++ also_if b op (chosen (awaited_if b (plain_op op) behind) ops)) (sym acts)

-- ---- going through a group

-- Of a group these are kept so far, each of which acts; so many are awaited behind them; and those that are chosen behind them of the
-- operations that are left are the others of those that are kept.
pub record IsKept (awaited : List Awaited) (whole left so_far : List Op) (total : ℕ) : Type 0 where
  pub act : all_act awaited (plain_ops so_far) ≡ true
  pub counted : total ≡ length (awaited_after awaited (plain_ops so_far))
  pub all : so_far ++ chosen (awaited_after awaited (plain_ops so_far)) left ≡ chosen awaited whole

module _ (awaited : List Awaited) (whole left so_far : List Op) (op : Op) (total : ℕ) (kept : IsKept awaited whole (op ∷ left) so_far total) where
  abbrev acts_then : Bool
  acts_then = acts_on (awaited_after awaited (plain_ops so_far)) (plain_op op)

  abbrev total_then : ℕ
  total_then = length (awaited_by (plain_op op) (awaited_after awaited (plain_ops so_far)))

  -- one more is kept
  pub one_kept : (told : Option ℕ) (next : ℕ) → told ≡ (if acts_then then Some total_then else None) → told ≡ Some next → IsKept awaited whole left (so_far ++ op ∷ []) next
  one_kept told next is some = by acts_then refl (sym is ∙ some)
    where
      by : (b : Bool) → acts_then ≡ b → (if b then Some total_then else None) ≡ Some next → IsKept awaited whole left (so_far ++ op ∷ []) next
      by false acts e = absurd cc
      by true acts e = record {
        act = all_more so_far awaited op kept.act acts;
        counted = sym (same_Some total_then next e) ∙ sym (ap length (awaited_more so_far awaited op));
        all = chosen_more so_far awaited op left acts ∙ kept.all;
      }

  -- one is left out
  pub one_skipped : (told : Option ℕ) → told ≡ (if acts_then then Some total_then else None) → told ≡ None → IsKept awaited whole left so_far total
  one_skipped told is none = by acts_then refl (sym is ∙ none)
    where
      by : (b : Bool) → acts_then ≡ b → (if b then Some total_then else None) ≡ None → IsKept awaited whole left so_far total
      by true acts e = absurd cc
      by false acts e = record { act = kept.act; counted = kept.counted; all = chosen_same so_far awaited op left acts ∙ kept.all }

-- ---- as the index takes them

index_one : (list : ShardList) (now : ℕ) (op : Op) → index_op (written_op list now op) ≡ op_for list now (plain_op op)
index_one list now (Store m) = refl
index_one list now (Release publisher incarnation id) = refl
index_one list now (Forget publisher incarnation) = refl

pub index_written : (ops : List Op) (list : ShardList) (now : ℕ) → map index_op (written_ops list now ops) ≡ ops_for list now (plain_ops ops)
index_written [] list now = refl
index_written (op ∷ ops) list now = by (acts list (plain_op op)) (λ b. index_written ops (act_if b now list (plain_op op)) now)
  where
    by : (b : Bool) →
        ((b : Bool) → map index_op (written_ops (act_if b now list (plain_op op)) now ops) ≡ ops_for (act_if b now list (plain_op op)) now (plain_ops ops)) →
        map index_op (also_if b (written_op list now op) (written_ops (act_if b now list (plain_op op)) now ops))
        ≡ also_taken_if b (op_for list now (plain_op op)) (ops_for (act_if b now list (plain_op op)) now (plain_ops ops))
    by true rest = (λ i. index_one list now op i ∷ rest true i)
    by false rest = rest false
