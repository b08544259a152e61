-- How a struct with one field, a mark, comes to be. Assumes `Logic`.
use Rattle.std.proofs.Common.{List, [], ◌∷◌, refl}
use seplogic.Ra.Ura.{Ura}
use mir.Val.{Val, vstruct, vcons, vnil}
use types.Logic.{Logic}
use types.Kit.{Goal, Step, step, Item, ‵, ◌$◌, move, fjoin, fpack, feq_i}
use denote.RattleType.{RattleType, Valss}
use denote.Steps.{nothing}
use denote.Struct.Struct.{Struct, within}

-- as the machine has them: a mark, and a struct around one field
abbrev pub mark : Val
mark = vstruct vnil

abbrev pub around : Val → Val
around u = vstruct (vcons u vnil)

abbrev pub holding : RattleType → RattleType
holding R = Struct (record { name = []; args = []; types = []; fields = R ∷ [] })

-- who owns the field owns the struct
pub made_around : {M : Type 1} {𝓤 : Ura M} {𝓛 : Logic 𝓤} {K : Type 0} {Γ : List (Item 𝓤)} {G : Goal 𝓤 𝓛.H} → K → (R : RattleType) (x : R.Denot) (u : Val)
    → Step K 𝓛 (‵ ((holding R).own_val (x, tt) (around u ∷ [])) ∷ Γ) G (‵ (R.own_val x (u ∷ [])) ∷ Γ) G
made_around t R x u = step (λ s.
    nothing t $ move t (1 ∷ 0 ∷ []) $ fjoin t $ feq_i t (List Val) (around u ∷ []) (around u ∷ []) refl $ fjoin t $
    fpack t (Valss (R ∷ [])) (within (record { name = []; args = []; types = []; fields = R ∷ [] }) (x, tt) (around u ∷ [])) (u ∷ [], tt) $ s)
