-- `same_as` hands on a value of no bytes; what it remembers is what its clause says. Assumes `Logic`.
use Rattle.std.proofs.Common.{◌≡◌, List, [], ◌∷◌, ◌++◌, refl, ◌∙◌}
use mir.Syntax.{Fn}
use mir.Val.{Val, vptr, vstruct, vcons, vnil, of_list}
use base.Logic.{SProp, emp}
use prog.Wp.{WpFn}
use contract.Running.{tables}
use types.Kit.{‵, raw, ◌⊛◌, prop, ◌$◌, ◌∵◌, !, qed, move, keep, drop, use0, split, fsplit, feq_l, fjoin, join, regoal, suffices, done}
use types.Run.{of_opd, returns, enter}
use types.ByLocal.{alloc_all, pass_all, free_all, look_at, get, sets}
use denote.RattleType.{RattleType, owns}
use denote.Builtin.{RefOf}
use denote.Exit.{yes}
use denote.Shadow.{makes_shadow}
use denote.Signature.{Slot, plain, types_at}
use denote.Steps.{nothing}
use denote.Triple.Entry.{alive}
use denote.Triple.Walked.{Stays, stay_dropped, says, ends_at, walk_of, Goes-dropped}
use Rattle.std.proofs.alloc.Calls.{Goes-blank}
use Rattle.std.proofs.raw_atomic.Walks.{proved_at}
use Rattle.std.specs.contracts.snapshot.Snapshot as Snapshot
use Rattle.std.specs.contracts.alloc.Global as Global
use Rattle.std.specs.contracts.impls.GlobalAllocator.TheImpl.{ghosts}
use Rattle.bytes.specs.contracts.shared.Bytes as Bytes
use Rattle.topic_name.specs.contracts.snapshots.same_as.{ended, clauses}
use Rattle.topic_name.specs.contracts.snapshots.same_as.Key.{name as #self}
use Rattle.topic_name.proofs.snapshots.same_as.Statement.{statement}
use Rattle.topic_name.proofs.snapshots.same_as.Code as code

abbrev Kept : RattleType
Kept = Snapshot.the_row (Bytes.the_row Global.the_row ghosts)

abbrev by_value : Slot 1
by_value = plain (λ _. Kept)

abbrev by_reference : Slot 1
by_reference = RefOf (0 ∷ []) tt (plain (λ _. Kept)) (λ _. tt)

-- as the machine has it: a struct around a mark
abbrev token : Val
token = vstruct (vcons (vstruct vnil) vnil)

pub same_as_spec : {M : Type 1} → statement M
same_as_spec 𝓤 𝓛 𝓜 𝓡 wired =
    let H = 𝓛.H in
    let c = clauses 𝓛 𝓜.mem 𝓡.returns in
    let fn : Fn = code.function in
    let stays : Stays ended.signature.params ended.kept = (stay_dropped by_value yes, (stay_dropped by_reference yes, tt)) in
    let C = (tables 𝓤 H 𝓜 𝓡 𝓡.env).C in
    let Λ = (tables 𝓤 H 𝓜 𝓡 𝓡.env).Λ in
    proved_at 𝓛 ended stays c 𝓜 𝓡 (Goes-blank 𝓛 1 by_value yes (λ κs x f. tt), (Goes-dropped 𝓛 1 by_reference yes (λ κs x f. refl), tt))
    #self fn (code.unfolded 𝓤 H 𝓜 𝓡 wired) (λ z are.
    let Post : Val → SProp 𝓤 = (walk_of 𝓛 ended stays c).post z in
    let a = z.0.3 in
    let vss = z.0.4 in
    let held = are.0.0 in
    let made_is : vss.0 ≡ token ∷ [] = held.1.0 ∙ (λ i. vstruct (of_list (held.1.1.0.1.0 i ++ [])) ∷ []) in
    let was = a.1.0 in
    let at : Val = vptr was.ref_ptr.0 was.ref_ptr.1 in
    let r : Kept.Denot = record { marker = record {}; value = was.now.value } in
    qed 𝓛 ((raw (alive 𝓛 ended.signature z.0.0 z.0.1) ⊛ ‵ (owns (types_at ended.signature.params z.0.0) a vss)) ∷ raw (emp 𝓤) ∷ []) ∵
    keep ! (0 ∷ []) $ split ! $ move ! (1 ∷ []) $ fsplit ! $ drop ! $ fsplit ! $ fsplit ! $ feq_l ! (λ was_is. keep ! (2 ∷ []) $
    regoal ! (λ (us : List Val). prop (WpFn 𝓤 H C Λ fn us Post)) (λ i. made_is i ++ (was_is i ++ [])) refl $
    enter ! C Λ fn (token ∷ at ∷ []) Post $ alloc_all ! (λ l. pass_all ! refl ((tt, (tt, tt)), ((tt, tt), tt)) $
    sets ! (of_opd ! (get ! refl)) refl (tt, (tt, tt)) $
    returns ! (look_at ! 0 refl) $ free_all ! refl $
    use0 𝓛 (‵ (Kept.own_val r (token ∷ []))) (makes_shadow 𝓛 (Kept.own_val r (token ∷ [])) ((λ us. (tt, ((λ uss. (tt, tt)), tt))), tt) (((vstruct vnil ∷ [], tt), (refl, ((tt, (refl, tt)), tt))), tt)) $
    suffices ! _ (ends_at 𝓛 ended stays c z token r (tt, (tt, tt)) (tt, (tt, tt))) $ says ! refl $
    nothing ! $ nothing ! $ fjoin ! $ nothing ! $ fjoin ! $ join ! $ move ! (1 ∷ 0 ∷ []) $ join ! $ done !)))
