-- What holds of the images of several disks at each moment of a call: the states that the disks were in together, and what
-- a crash between one and the next might have left.
--
-- A step is one call of an object below, in which its disks move and the others stay. The owner records its state before
-- each step in a history that only proofs read, so that the states are those that stood.
use Rattle.std.specs.Prelude.{◌≡◌, ℕ, List, [], ◌∷◌, ◌++◌}
use Rattle.std.proofs.Common.{refl, sym, ap, subst, ◌∙◌, append_assoc}
use Rattle.std.proofs.lemmas.List.{append-nil}
use Rattle.outside.specs.DiskModel.{DiskState}

-- From a state through these to the last one: what a crash in each step might have left has P.
abbrev pub Along : {S I : Type 0} → (S → S → I → Type 0) → (I → Type 0) → S → List S → S → Type 0
Along within P s [] last = s ≡ last
Along {S} {I} within P s (next ∷ steps) last = ((images : I) → within s next images → P images) × Along within P next steps last

-- The history goes on from the state at the beginning to the one at the end, and at each moment between them what a crash
-- might have left has P.
pub record Keeps {S I : Type 0} (within : S → S → I → Type 0) (P : I → Type 0) (past : List S) (before : S) (later : List S) (now : S) : Type 0 where
  pub steps : List S
  pub goes_on : later ++ now ∷ [] ≡ past ++ before ∷ [] ++ steps
  pub each : Along within P before steps now

-- what a crash in one step might have left of one disk
abbrev pub left_between : {D : Type 0} → (D → DiskState) → D → D → List ℕ → Type 0
left_between state old new image = (state new).left_since (state old).calls image

-- and of two disks at one moment
abbrev pub WithinBoth : {D : Type 0} → (D → DiskState) → D × D → D × D → List ℕ × List ℕ → Type 0
WithinBoth state old new images = left_between state old.0 new.0 images.0 × left_between state old.1 new.1 images.1

module _ {S I : Type 0} (within : S → S → I → Type 0) (P : I → Type 0) where
  pub along_and : (s : S) (xs : List S) (mid : S) (ys : List S) (last : S) → Along within P s xs mid → Along within P mid ys last → Along within P s (xs ++ ys) last
  along_and s [] mid ys last first second = subst (λ m. Along within P m ys last) (sym first) second
  along_and s (x ∷ xs) mid ys last first second = (first.0, along_and x xs mid ys last first.1 second)

  -- nothing has happened yet
  pub keeps_at_first : (past : List S) (s : S) → Keeps within P past s past s
  keeps_at_first past s = record { steps = []; goes_on = sym (append-nil (past ++ s ∷ [])); each = refl }

  -- a call after a call
  pub keeps_and : (past : List S) (s : S) (then : List S) (mid : S) (later : List S) (now : S)
      → Keeps within P past s then mid → Keeps within P then mid later now → Keeps within P past s later now
  keeps_and past s then mid later now first second = record {
    steps = first.steps ++ second.steps;
    goes_on = second.goes_on ∙ ap (λ l. l ++ second.steps) first.goes_on ∙ append_assoc (past ++ s ∷ []) first.steps second.steps;
    each = along_and s first.steps mid second.steps now first.each second.each;
  }

  -- one step alone, before which the state was recorded
  pub keeps_step : (past : List S) (s : S) (later : List S) (now : S) → later ≡ past ++ s ∷ [] → ((images : I) → within s now images → P images) → Keeps within P past s later now
  keeps_step past s later now recorded has = record {
    steps = now ∷ [];
    goes_on = ap (λ l. l ++ now ∷ []) recorded;
    each = (has, refl);
  }

pub along_weaker : {S I : Type 0} (within : S → S → I → Type 0) (P Q : I → Type 0) (s : S) (xs : List S) (last : S) → ((images : I) → P images → Q images) → Along within P s xs last → Along within Q s xs last
along_weaker within P Q s [] last weaker along = along
along_weaker within P Q s (x ∷ xs) last weaker along = (λ images left. weaker images (along.0 images left), along_weaker within P Q x xs last weaker along.1)

pub keeps_weaker : {S I : Type 0} (within : S → S → I → Type 0) (P Q : I → Type 0) (past : List S) (s : S) (later : List S) (now : S)
    → ((images : I) → P images → Q images) → Keeps within P past s later now → Keeps within Q past s later now
keeps_weaker within P Q past s later now weaker keeps = record {
  steps = keeps.steps;
  goes_on = keeps.goes_on;
  each = along_weaker within P Q s keeps.steps now weaker keeps.each;
}
