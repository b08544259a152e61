-- What a list of properties is, and what stays true of it where one is added or some are left out.
use Rattle.std.proofs.Common.{◌≡◌, ℕ, Bool, true, false, cond, not, ◌&&◌, ◌||◌, eqb, List, [], ◌∷◌, ◌++◌, get_or, All, refl, sym, ap, subst, ◌∙◌, arith, inl, inr}
use Rattle.std.specs.List.{list_any, filter}
use Rattle.std.proofs.lemmas.Bool.{cases_Bool, eqb-true, or_parts}
use Rattle.std.proofs.lemmas.List.Elements.{All-filter, All-push, filter-append, filter_passes}
use Rattle.mqtt_props.specs.declared.table.Holder.{Holder}
use Rattle.mqtt_props.specs.declared.table.Holder.TheVariants.{Publish}
use Rattle.mqtt_props.specs.declared.prop.Prop.{Prop}
use Rattle.mqtt_props.specs.Table.{stands_in, may_repeat}
use Rattle.mqtt_props.specs.Prop.{id_of, is_bad, IsProp, IsPropIn}
use Rattle.mqtt_props.specs.Props.{gathered, identifiers, in_writing_order, has_identifier, has_repeated, AreProps, FitsIn}
use Rattle.mqtt_props.specs.Lookup.{goes_on, forwarded}
use Rattle.mqtt_props.specs.ArrangedLaws.{order_keeps}

pub no_props : AreProps []
unfolding in_writing_order
no_props = record { fits = λ k d lt. absurd (omega (arith, lt)); ordered = refl }

-- two tests, in either order
both_by : (f g : Prop → Bool) (b c : Bool) (p : Prop) (xs : List Prop) → f p ≡ b → g p ≡ c → filter f (filter g xs) ≡ filter g (filter f xs)
    → filter f (cond c (p ∷ filter g xs) (filter g xs)) ≡ filter g (cond b (p ∷ filter f xs) (filter f xs))
both_by f g true true p xs fp gp e =
    ap (λ (b : Bool). cond b (p ∷ filter f (filter g xs)) (filter f (filter g xs))) fp
    ∙ ap (λ (l : List Prop). p ∷ l) e
    ∙ sym (ap (λ (b : Bool). cond b (p ∷ filter g (filter f xs)) (filter g (filter f xs))) gp)
both_by f g true false p xs fp gp e =
    e ∙ sym (ap (λ (b : Bool). cond b (p ∷ filter g (filter f xs)) (filter g (filter f xs))) gp)
both_by f g false true p xs fp gp e =
    ap (λ (b : Bool). cond b (p ∷ filter f (filter g xs)) (filter f (filter g xs))) fp ∙ e
both_by f g false false p xs fp gp e = e

both : (f g : Prop → Bool) (xs : List Prop) → filter f (filter g xs) ≡ filter g (filter f xs)
both f g [] = refl
both f g (p ∷ xs) = both_by f g (f p) (g p) p xs refl refl (both f g xs)

part_gathered : (f : Prop → Bool) (ks : List ℕ) (ps : List Prop) → gathered ks (filter f ps) ≡ filter f (gathered ks ps)
part_gathered f [] ps = refl
part_gathered f (k ∷ ks) ps =
    let here : Prop → Bool = λ p. eqb (id_of p) k in
    (λ i. both here f ps i ++ part_gathered f ks ps i) ∙ sym (filter-append f (filter here ps) (gathered ks ps))

part_in_order : (f : Prop → Bool) (ps : List Prop) → in_writing_order ps ≡ ps → in_writing_order (filter f ps) ≡ filter f ps
unfolding in_writing_order
part_in_order f ps e = part_gathered f identifiers ps ∙ ap (filter f) e

pub part_kept : (f : Prop → Bool) (ps : List Prop) → AreProps ps → AreProps (filter f ps)
part_kept f ps h = record { fits = All-filter f IsProp ps h.fits; ordered = part_in_order f ps h.ordered }

-- ---- what may stand there still may

pub added_fits : (holder : Holder) (ps : List Prop) (p : Prop) → All (IsPropIn holder) ps → IsPropIn holder p → All (IsPropIn holder) (in_writing_order (ps ++ p ∷ []))
added_fits holder ps p h k = order_keeps (IsPropIn holder) (ps ++ p ∷ []) (All-push (IsPropIn holder) ps p h k)

pub forwarded_fits : (holder : Holder) (ps : List Prop) → All (IsPropIn holder) ps → All (IsPropIn holder) (forwarded ps)
forwarded_fits holder ps h = All-filter (λ (p : Prop). goes_on (id_of p)) (IsPropIn holder) ps h

none_by : (test : Prop → Bool) (b : Bool) (p : Prop) (xs : List Prop) → test p ≡ false → list_any test xs ≡ false → list_any test (cond b (p ∷ xs) xs) ≡ false
none_by test true p xs one none = (λ i. one i || none i)
none_by test false p xs one none = none

part_has_none : (test f : Prop → Bool) (ps : List Prop) → list_any test ps ≡ false → list_any test (filter f ps) ≡ false
part_has_none test f [] none = refl
part_has_none test f (p ∷ ps) none =
    let apart = or_parts (test p) (list_any test ps) none in
    none_by test (f p) p (filter f ps) apart.0 (part_has_none test f ps apart.1)

and_by : (b x y : Bool) → (x ≡ false → y ≡ false) → (b && x) ≡ false → (b && y) ≡ false
and_by true x y h e = h e
and_by false x y h e = refl

single_by : (holder : Holder) (b : Bool) (p : Prop) (xs : List Prop) → (not (may_repeat (id_of p) holder) && has_identifier (id_of p) xs) ≡ false → has_repeated holder xs ≡ false
    → has_repeated holder (cond b (p ∷ xs) xs) ≡ false
single_by holder true p xs one none = (λ i. one i || none i)
single_by holder false p xs one none = none

part_single : (holder : Holder) (f : Prop → Bool) (ps : List Prop) → has_repeated holder ps ≡ false → has_repeated holder (filter f ps) ≡ false
part_single holder f [] none = refl
part_single holder f (p ∷ ps) none =
    let once : Bool = not (may_repeat (id_of p) holder) in
    let apart = or_parts (once && has_identifier (id_of p) ps) (has_repeated holder ps) none in
    let same : Prop → Bool = λ q. eqb (id_of q) (id_of p) in
    single_by holder (f p) p (filter f ps) (and_by once (list_any same ps) (list_any same (filter f ps)) (part_has_none same f ps) apart.0) (part_single holder f ps apart.1)

pub forwarded_fits_in : (holder : Holder) (ps : List Prop) → FitsIn holder ps → FitsIn holder (forwarded ps)
forwarded_fits_in holder ps h =
    let f : Prop → Bool = λ p. goes_on (id_of p) in
    record {
      fits = forwarded_fits holder ps h.fits;
      ordered = part_in_order f ps h.ordered;
      single = part_single holder f ps h.single;
      good = part_has_none is_bad f ps h.good;
    }

-- ---- what goes on may stand in PUBLISH

one_of : (id k : ℕ) (rest : Bool) (P : ℕ → Type 0) → P k → (rest ≡ true → P id) → (eqb id k || rest) ≡ true → P id
one_of id k rest P this later is =
    elim (cases_Bool (eqb id k)) [
      | inl e ↦ subst P (sym (eqb-true id k e)) this
      | inr e ↦ later (sym (ap (λ (b : Bool). b || rest) e) ∙ is)
    ]

in_publish : (id : ℕ) → goes_on id ≡ true → stands_in id Publish ≡ true
in_publish id is =
    let P : ℕ → Type 0 = λ n. stands_in n Publish ≡ true in
    one_of id 0x01 _ P refl (one_of id 0x03 _ P refl (one_of id 0x08 _ P refl (one_of id 0x09 _ P refl (λ e. subst P (sym (eqb-true id 0x26 e)) refl)))) is

pub forwarded_in_publish : (ps : List Prop) → All IsProp ps → All (IsPropIn Publish) (forwarded ps)
forwarded_in_publish ps h =
    let f : Prop → Bool = λ p. goes_on (id_of p) in
    let fits = All-filter f IsProp ps h in
    let goes = filter_passes f ps in
    λ k d lt. (fits k d lt, in_publish (id_of (get_or (forwarded ps) k d)) (goes k d lt))
