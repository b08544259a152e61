-- Of an index's fields, as its calls change them.
use Rattle.std.proofs.Common.{◌≡◌, ℕ, ◌+◌, ◌-◌, ◌<◌, ◌≤◌, Bool, true, false, nat_le, nat_lt, if◌then◌else◌, List, [], ◌∷◌, ◌++◌, length, take, drop, remove, get_or, Some, None, Result, Ok, Err, OnOk, is_ok, refl, sym, ap, subst, ◌∙◌, arith}
use Rattle.std.specs.List.{list_all}
use Rattle.std.proofs.Math.Seq.{take-length}
use Rattle.std.proofs.lemmas.List.{length-take, take-append-le}
use Rattle.std.proofs.lemmas.List.Folds.{list_all_at}
use Rattle.std.proofs.lemmas.Bool.{and_parts}
use Rattle.std.proofs.lemmas.Bool.Decides.{nat_tests}
use Rattle.std.proofs.lemmas.Option.{none-some, same_Some}
use Rattle.std.specs.Cmp.Derive.{both_true}
use Rattle.topic_name.specs.declared.descriptor.Descriptor.{Descriptor}
use Rattle.topic_name.specs.KeptMessage.{KeptMessage}
use Rattle.topic_model.specs.Profile.{whole}
use Rattle.shard_model.specs.ShardList.{Cut, Awaited, ShardList, newest, next_of, newest_messages}
use Rattle.shard_model.specs.Storing.{Store, acts, becomes_awaited}
use Rattle.shard_model.specs.Capacity.{store_size}
use Rattle.shard_index.specs.declared.op.IndexOp.TheVariants.{Add, Release, Forget, Rotate, Drop}
use Rattle.shard_index.specs.KeptIndex.{KeptIndex, cut_of, list_of}
use Rattle.shard_index.specs.declared.op.IndexOp.{IndexOp}
use Rattle.shard_index.specs.Absorbing.{IsBehind, absorbed, absorbed_all, added_if, all_stand, awaited_after, awaited_after_all, from_cuts, has_place, is_new, is_of_group, kept_after, kept_after_all, may_add, may_begin, sealed_last, stands, without_first}
use Rattle.shard_index.specs.AbsorbLaws.{list_added, list_after, list_after_all, list_begun}
use Rattle.shard_index.specs.Sound.{IsSound, newest_bytes}
use Rattle.shard_index.specs.SoundLaws.{newest_first, newest_long, sound_added, sound_begun, sound_dropped, takes_one_more}

pub on_ok : {T E P Q : Type 0} (r : Result T E) → (P → Q) → OnOk r P → OnOk r Q
on_ok (Ok x) f p = f p
on_ok (Err e) f p = tt

pub when_ok : {T E P : Type 0} (r : Result T E) → is_ok r ≡ true → OnOk r P → P
when_ok (Ok x) is p = p
when_ok (Err e) is p = cc

-- ---- the count of the newest generation

pub first_within : (list : ShardList) (cut : Descriptor) (left : ℕ) → IsSound list left → cut_of cut ≡ newest list → cut.first ≤ next_of list
first_within list cut left is at =
    let first : cut.first ≡ (newest list).first = ap (λ (c : Cut). c.first) at in let within = (newest_first list is.order).1 in omega arith

count_means : (n m : ℕ) → nat_lt n m ≡ nat_le (n + 1) m
count_means n m = grind (arith, nat_tests)

pub count_test : (list : ShardList) (cut : Descriptor) (left : ℕ) → IsSound list left → cut_of cut ≡ newest list →
    nat_lt (next_of list - cut.first) cut.messages ≡ takes_one_more list
count_test list cut left is at =
    ap (λ (c : Cut). nat_lt (next_of list - c.first) c.messages) at
    ∙ ap (λ n. nat_lt n (newest list).messages) (sym (newest_long list is.order))
    ∙ count_means (length (newest_messages list)) (newest list).messages

-- ---- a message is added

pub some_found : (b : Bool) (room n : ℕ) → Some room ≡ (if b then Some n else None) → (b ≡ true) × (room ≡ n)
some_found true room n is = (refl, same_Some room n is)
some_found false room n is = absurd (none-some room (sym is))

pub sound_after_add : (index : KeptIndex) (m : KeptMessage) (left room r : ℕ) (added : Bool) (messages : List KeptMessage) (awaited : List Awaited) →
    IsSound (list_of index) left →
    Some room ≡ (if has_place (list_of index) m.stored then Some (whole.generation_bytes - (newest_bytes (list_of index) + store_size m.stored)) else None) →
    added ≡ is_new index.awaited m.stored →
    messages ≡ (if added then index.messages ++ m ∷ [] else index.messages) →
    awaited ≡ (if added then index.awaited ++ becomes_awaited m.stored else index.awaited) →
    r ≡ (if added then room else left) →
    IsSound (list_of (record { cuts = index.cuts; messages = messages; awaited = awaited })) r
sound_after_add index m left room r added messages awaited is found new ms aw left_is =
    let has = some_found (has_place (list_of index) m.stored) room (whole.generation_bytes - (newest_bytes (list_of index) + store_size m.stored)) found in
    by added new ms aw left_is has.0 has.1
  where
    by : (added : Bool) → added ≡ is_new index.awaited m.stored →
        messages ≡ (if added then index.messages ++ m ∷ [] else index.messages) →
        awaited ≡ (if added then index.awaited ++ becomes_awaited m.stored else index.awaited) →
        r ≡ (if added then room else left) → has_place (list_of index) m.stored ≡ true →
        room ≡ whole.generation_bytes - (newest_bytes (list_of index) + store_size m.stored) →
        IsSound (list_of (record { cuts = index.cuts; messages = messages; awaited = awaited })) r
    by false new ms aw left_is has room_is =
        subst (λ (p : List KeptMessage × List Awaited × ℕ). IsSound (list_of (record { cuts = index.cuts; messages = p.0; awaited = p.1 })) p.2)
        (sym (λ i. (ms i, aw i, left_is i))) is
    by true new ms aw left_is has room_is =
        let may = both_true has (sym new) in
        subst (λ (p : List KeptMessage × List Awaited × ℕ). IsSound (list_of (record { cuts = index.cuts; messages = p.0; awaited = p.1 })) p.2)
        (sym (λ i. (ms i, aw i, (left_is ∙ room_is) i)))
        (subst (λ l. IsSound l (whole.generation_bytes - (newest_bytes (list_of index) + store_size m.stored))) (sym (list_added m index may))
        (sound_added (list_of index) m.stored left is may))

-- ---- a generation begins

pub sound_after_begin : (index : KeptIndex) (now : ℕ) (cut : Descriptor) (left : ℕ) (cuts : List Descriptor) →
    IsSound (list_of index) left → may_begin (list_of index) (cut_of cut) ≡ true → cuts ≡ sealed_last now index.cuts ++ cut ∷ [] →
    IsSound (list_of (record { cuts = cuts; messages = index.messages; awaited = index.awaited })) whole.generation_bytes
sound_after_begin index now cut left cuts is may is_cuts =
    subst (λ (l : List Descriptor). IsSound (list_of (record { cuts = l; messages = index.messages; awaited = index.awaited })) whole.generation_bytes) (sym is_cuts)
    (subst (λ l. IsSound l whole.generation_bytes) (sym (list_begun now cut index)) (sound_begun now (list_of index) (cut_of cut) left is may))

-- ---- the oldest goes

dropped_is : (cuts : List Descriptor) (ms : List KeptMessage) (awaited : List Awaited) (a b : Descriptor) → 2 ≤ length cuts → a ≡ get_or cuts 1 a → b ≡ get_or cuts 0 b →
    from_cuts (without_first cuts) (record { cuts = cuts; messages = ms; awaited = awaited })
    ≡ record { cuts = remove cuts 0; messages = drop (a.first - b.first) ms; awaited = awaited }
dropped_is [] ms awaited a b two second first = absurd (omega arith)
dropped_is (c ∷ []) ms awaited a b two second first = absurd (omega arith)
dropped_is (c ∷ d ∷ cuts) ms awaited a b two second first =
    ap (λ (p : Descriptor × Descriptor). record { cuts = d ∷ cuts; messages = drop (p.0.first - p.1.first) ms; awaited = awaited }) (sym (λ i. (second i, first i)))

pub sound_after_drop : (index : KeptIndex) (a b : Descriptor) (left : ℕ) (cuts : List Descriptor) (messages : List KeptMessage) → IsSound (list_of index) left → 2 ≤ length index.cuts →
    a ≡ get_or index.cuts 1 a → b ≡ get_or index.cuts 0 b → cuts ≡ remove index.cuts 0 → messages ≡ drop (a.first - b.first) index.messages →
    IsSound (list_of (record { cuts = cuts; messages = messages; awaited = index.awaited })) left
sound_after_drop index a b left cuts messages is two second first is_cuts ms =
    subst (λ (p : List Descriptor × List KeptMessage). IsSound (list_of (record { cuts = p.0; messages = p.1; awaited = index.awaited })) left)
    (sym (λ i. (is_cuts i, ms i)))
    (subst (λ (k : KeptIndex). IsSound (list_of k) left) (dropped_is index.cuts index.messages index.awaited a b two second first)
    (subst (λ l. IsSound l left) (sym (list_after Drop index)) (sound_dropped (list_of index) left is)))

-- each operation of a group is one that a group may have
of_group_at : (ops : List IndexOp) (k : ℕ) (op : IndexOp) → k < length ops → op ≡ get_or ops k op → list_all is_of_group ops ≡ true → is_of_group op ≡ true
of_group_at ops k op within at group = by (is_of_group op) refl
  where
    by : (b : Bool) → is_of_group op ≡ b → is_of_group op ≡ true
    by true e = e
    by false e = let never = sym group ∙ list_all_at is_of_group ops k op within (ap is_of_group (sym at) ∙ e) in cc

-- ---- a group leaves the generations, and the messages that there were

pub behind_itself : (index : KeptIndex) → IsBehind index index
behind_itself index = record { cuts = refl; messages = take-length index.messages }

longer : {A : Type 0} (xs ys : List A) → take (length xs) ys ≡ xs → length xs ≤ length ys
longer xs ys is = let e = sym (length-take (length xs) ys) ∙ ap length is in omega (arith, e)

behind_added : (b : Bool) (m : KeptMessage) (index later : KeptIndex) → IsBehind index later → IsBehind index (added_if b m later)
behind_added false m index later is = is
behind_added true m index later is =
    let shorter : length index.messages ≤ length later.messages = longer index.messages later.messages is.messages in
    record { cuts = is.cuts; messages = take-append-le (length index.messages) later.messages (m ∷ []) shorter ∙ is.messages }

pub behind_after : (op : IndexOp) (index later : KeptIndex) → is_of_group op ≡ true → IsBehind index later → IsBehind index (kept_after op later)
behind_after (Add m) index later group is = behind_added (may_add (list_of later) m.stored) m index later is
behind_after (Release a) index later group is = record { cuts = is.cuts; messages = is.messages }
behind_after (Forget p) index later group is = record { cuts = is.cuts; messages = is.messages }
behind_after (Rotate now cut) index later group is = cc
behind_after Drop index later group is = cc

pub behind_one_more : (ops : List IndexOp) (k : ℕ) (op : IndexOp) (index later : KeptIndex) → k < length ops → op ≡ get_or ops k op → list_all is_of_group ops ≡ true →
    IsBehind index later → IsBehind index (kept_after op later)
behind_one_more ops k op index later within at group is = behind_after op index later (of_group_at ops k op within at group) is

-- ---- what is awaited after a group follows from what was, by its operations alone

followed_add : (b : Bool) (m : KeptMessage) (index : KeptIndex) → may_add (list_of index) m.stored ≡ b → b ≡ true →
    (added_if b m index).awaited ≡ (if is_new index.awaited m.stored then index.awaited ++ becomes_awaited m.stored else index.awaited)
followed_add false m index may stand = cc
followed_add true m index may stand =
    let new : is_new index.awaited m.stored ≡ true = (and_parts (has_place (list_of index) m.stored) (acts (list_of index) (Store m.stored)) may).1 in
    ap (λ (b : Bool). if b then index.awaited ++ becomes_awaited m.stored else index.awaited) (sym new)

followed_op : (op : IndexOp) (index : KeptIndex) → stands (list_of index) op ≡ true → is_of_group op ≡ true →
    (kept_after op index).awaited ≡ awaited_after op index.awaited
followed_op (Add m) index stand group = followed_add (may_add (list_of index) m.stored) m index refl stand
followed_op (Release a) index stand group = refl
followed_op (Forget p) index stand group = refl
followed_op (Rotate now cut) index stand group = cc
followed_op Drop index stand group = cc

followed : (ops : List IndexOp) (index : KeptIndex) → all_stand (list_of index) ops ≡ true → list_all is_of_group ops ≡ true →
    (kept_after_all ops index).awaited ≡ awaited_after_all ops index.awaited
followed [] index stand group = refl
followed (op ∷ ops) index stand group =
    let stands_both = and_parts (stands (list_of index) op) (all_stand (absorbed op (list_of index)) ops) stand in
    let group_both = and_parts (is_of_group op) (list_all is_of_group ops) group in
    followed ops (kept_after op index) (ap (λ l. all_stand l ops) (list_after op index) ∙ stands_both.1) group_both.1
    ∙ ap (awaited_after_all ops) (followed_op op index stands_both.0 group_both.0)

pub twin_again : (ops : List IndexOp) (before later : KeptIndex) (twin awaited : List Awaited) → all_stand (list_of before) ops ≡ true → list_all is_of_group ops ≡ true →
    later ≡ kept_after_all ops before → awaited ≡ before.awaited → twin ≡ awaited_after_all ops awaited → twin ≡ later.awaited
twin_again ops before later twin awaited stand group kept was follows =
    follows ∙ ap (awaited_after_all ops) was ∙ sym (followed ops before stand group) ∙ ap (λ (k : KeptIndex). k.awaited) (sym kept)

pub shown : (ops : List IndexOp) (before mid later : KeptIndex) → mid ≡ before → later ≡ kept_after_all ops mid → list_of later ≡ absorbed_all ops (list_of before)
shown ops before mid later same kept = ap list_of (kept ∙ ap (kept_after_all ops) same) ∙ list_after_all ops before
