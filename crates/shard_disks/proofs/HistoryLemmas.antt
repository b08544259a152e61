-- What all disks were, as the history has it.
use Rattle.std.proofs.Common.{◌≡◌, List, [], ◌∷◌, ◌++◌, Vec, map, sym, ap, subst, ◌∙◌}
use Rattle.std.proofs.lemmas.List.{append-nil, append_assoc, append_cancel_left}
use Rattle.std.specs.declared.alloc.Global.{Global}
use Rattle.gated_log.specs.PlainLog.{PlainLog}
use Rattle.pair_log.specs.PlainPair.{PlainPair}
use Rattle.shard_disks.specs.PlainDisks.{all_mounted, mounted_pair, recorded_disks}
use Rattle.outside.specs.Along.{Along, Keeps}

-- one more state behind those of the mount
pub one_more : {S : Type 0} (begun past later : List S) (now : S) → later ≡ past ++ now ∷ [] → begun ++ later ≡ (begun ++ past) ++ now ∷ []
one_more begun past later now e = ap (λ l. begun ++ l) e ∙ sym (append_assoc begun past (now ∷ []))

-- what held at each moment of one step
pub step_of : {S I : Type 0} (within : S → S → I → Type 0) (P : I → Type 0) (past : List S) (s : S) (later : List S) (now : S) → later ≡ past ++ s ∷ [] → Keeps within P past s later now
    → (images : I) → within s now images → P images
step_of within P past s later now recorded keeps =
    let only : now ∷ [] ≡ keeps.steps = append_cancel_left (past ++ s ∷ []) (now ∷ []) keeps.steps (ap (λ l. l ++ now ∷ []) (sym recorded) ∙ keeps.goes_on) in
    let each : Along within P s (now ∷ []) now = subst (λ l. Along within P s l now) (sym only) keeps.each in
    each.0

-- the history of a mount alone
pub begun_alone : {D : Type 0} (begun : List (PlainPair D × Vec D Global)) (past : List (PlainPair D × Vec (PlainLog D) Global)) (p : PlainPair D × Vec D Global) → begun ≡ p ∷ [] → past ≡ []
    → all_mounted begun ++ map recorded_disks past ≡ mounted_pair p
begun_alone begun past p begins none = ap (λ l. all_mounted l ++ map recorded_disks past) begins ∙ (ap (λ l. (mounted_pair p ++ []) ++ map recorded_disks l) none ∙ (append-nil (mounted_pair p ++ []) ∙ append-nil (mounted_pair p)))
