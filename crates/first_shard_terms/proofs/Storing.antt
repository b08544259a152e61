-- Storing adds messages at the end, and nothing else changes.
use Rattle.std.proofs.Common.{◌≡◌, ℕ, Bool, true, false, cond, List, [], ◌∷◌, ◌++◌, refl, sym, ap, ◌∙◌, append_assoc}
use Rattle.std.proofs.lemmas.List.{append-nil}
use Rattle.first_topic_name.specs.StoredMessage.{StoredMessage}
use Rattle.first_shard_terms.specs.ShardList.{ShardList, Op, Store, Release, Forget, store, store_one, placed, next_of}

-- the messages of a later list are those of the earlier one and more
abbrev pub Adds : ShardList → ShardList → Type 0
Adds old new = (more : List StoredMessage) × (new.messages ≡ old.messages ++ more)

-- what holds of both choices holds of the choice
either : (P : ShardList → Type 0) (b : Bool) (x y : ShardList) → P x → P y → P (cond b x y)
either P true x y p q = p
either P false x y p q = q

Adds-one : (now : ℕ) (list : ShardList) (op : Op) → Adds list (store_one now list op)
Adds-one now list (Store m) = either (λ (l : ShardList). Adds list l) _ _ _ ([], sym (append-nil list.messages)) (placed m (next_of list) now ∷ [], refl)
Adds-one now list (Release publisher incarnation id) = ([], sym (append-nil list.messages))
Adds-one now list (Forget publisher incarnation) = ([], sym (append-nil list.messages))

pub Adds-store : (list : ShardList) (ops : List Op) (now : ℕ) → Adds list (store list ops now)
Adds-store list [] now = ([], sym (append-nil list.messages))
Adds-store list (op ∷ ops) now =
    let one = Adds-one now list op in
    let rest = Adds-store (store_one now list op) ops now in
    (one.0 ++ rest.0, rest.1 ∙ ap (λ (ms : List StoredMessage). ms ++ rest.0) one.1 ∙ append_assoc list.messages one.0 rest.0)

cuts-one : (now : ℕ) (list : ShardList) (op : Op) → (store_one now list op).cuts ≡ list.cuts
cuts-one now list (Store m) = either (λ (l : ShardList). l.cuts ≡ list.cuts) _ _ _ refl refl
cuts-one now list (Release publisher incarnation id) = refl
cuts-one now list (Forget publisher incarnation) = refl

pub cuts-store : (list : ShardList) (ops : List Op) (now : ℕ) → (store list ops now).cuts ≡ list.cuts
cuts-store list [] now = refl
cuts-store list (op ∷ ops) now = cuts-store (store_one now list op) ops now ∙ cuts-one now list op
