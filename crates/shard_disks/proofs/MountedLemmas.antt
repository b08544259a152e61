-- Logs that are mounted one after another.
use Rattle.std.proofs.Common.{◌≡◌, ℕ, List, [], ◌∷◌, ◌++◌, refl, sym, ap, subst, ◌∙◌}
use Rattle.std.proofs.lemmas.List.{append-nil, append_assoc}
use Rattle.outside.specs.DiskModel.{DiskState}
use Rattle.gated_log.specs.PlainLog.{PlainLog}
use Rattle.gated_log.specs.declared.refused.LogRefused.{LogRefused}
use Rattle.shard_disks.specs.Lists.{Pairwise}
use Rattle.shard_disks.specs.Mounting.{IsLogMounted, IsStopped, MountsNext}

-- of all disks, those that are left, and the logs of the others
pub record AreMounted {D : Type 0} (state : D → DiskState) (limit : ℕ) (disks rest : List D) (logs : List (PlainLog D)) : Type 0 where
  pub before : List D
  pub were : disks ≡ before ++ rest
  pub mounted : Pairwise (IsLogMounted state limit) before logs

pairs_more : {A B : Type 0} (R : A → B → Type 0) (xs : List A) (ys : List B) (x : A) (y : B) → Pairwise R xs ys → R x y → Pairwise R (xs ++ x ∷ []) (ys ++ y ∷ [])
pairs_more R [] [] x y p r = (r, tt)
pairs_more R [] (z ∷ ys) x y p r = absurd p
pairs_more R (z ∷ xs) [] x y p r = absurd p
pairs_more R (z ∷ xs) (w ∷ ys) x y p r = (p.0, pairs_more R xs ys x y p.1 r)

module _ {D : Type 0} (state : D → DiskState) (limit : ℕ) where
  pub none_mounted : (disks : List D) (logs : List (PlainLog D)) → logs ≡ [] → AreMounted state limit disks disks logs
  none_mounted disks logs none = record { before = []; were = refl; mounted = subst (Pairwise (IsLogMounted state limit) []) (sym none) tt }

  pub next_mounted : (disks rest later : List D) (logs more : List (PlainLog D)) → AreMounted state limit disks rest logs → MountsNext state limit rest later logs more → AreMounted state limit disks later more
  next_mounted disks rest later logs more a n = record {
    before = a.before ++ n.disk ∷ [];
    were = a.were ∙ (ap (λ l. a.before ++ l) n.was_first ∙ sym (append_assoc a.before (n.disk ∷ []) later));
    mounted = subst (Pairwise (IsLogMounted state limit) (a.before ++ n.disk ∷ [])) (sym n.is_last) (pairs_more (IsLogMounted state limit) a.before logs n.disk n.new a.mounted n.mounted);
  }

  pub all_mounted : (disks rest : List D) (logs : List (PlainLog D)) → AreMounted state limit disks rest logs → rest ≡ [] → Pairwise (IsLogMounted state limit) disks logs
  all_mounted disks rest logs a none =
      subst (λ l. Pairwise (IsLogMounted state limit) l logs) (sym (a.were ∙ (ap (λ l. a.before ++ l) none ∙ append-nil a.before))) a.mounted

  pub then_stopped : (disks rest later : List D) (logs more : List (PlainLog D)) (refused : D × LogRefused) → AreMounted state limit disks rest logs → more ≡ logs → IsStopped state limit rest later [] refused
      → IsStopped state limit disks later more refused
  then_stopped disks rest later logs more refused a same s = record {
    before = a.before;
    disk = s.disk;
    were = a.were ∙ ap (λ l. a.before ++ l) (s.were ∙ ap (λ l. l ++ s.disk ∷ later) (none_before s.before s.mounted));
    mounted = subst (Pairwise (IsLogMounted state limit) a.before) (sym same) a.mounted;
    why = s.why;
  } where
    none_before : (before : List D) → Pairwise (IsLogMounted state limit) before [] → before ≡ []
    none_before [] p = refl
    none_before (x ∷ xs) p = absurd p
