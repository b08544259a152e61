-- When two awaited identifiers are the same one.
use Rattle.std.specs.Prelude.{◌≡◌, Bool, true, ◌&&◌, ◌==◌, not, List, [], ◌∷◌, ◌++◌, refl}
use Rattle.std.specs.List.{list_any}
use Rattle.std.proofs.Common.{sym, ap, ◌∙◌, bytes_eq, eqb-true, eq-eqb}
use Rattle.std.specs.Cmp.{IsEquivalence, both_ways}
use Rattle.std.specs.Hash as fed
use Rattle.std.specs.Hash.{HashWrites}
use Rattle.std.proofs.lemmas.Bool.{and_parts}
use Rattle.std.proofs.lemmas.Slice.Eq.{bytes_eq-Decides}
use Rattle.shard_model.specs.ShardList.{Awaited}
use Rattle.shard_model.specs.Storing.{is_of, same_triple}

pub same_triple_is : (a b : Awaited) → same_triple a b ≡ true → a ≡ b
same_triple_is a b h =
    let outer = and_parts (is_of a.publisher a.incarnation b) (b.id == a.id) h in
    let inner = and_parts (bytes_eq b.publisher a.publisher) (b.incarnation == a.incarnation) outer.0 in
    let publisher = (bytes_eq-Decides b.publisher a.publisher).0 inner.0 in
    let incarnation = eqb-true b.incarnation a.incarnation inner.1 in
    let id = eqb-true b.id a.id outer.1 in
    sym (λ i. record { publisher = publisher i; incarnation = incarnation i; id = id i })

pub same_triple_itself : (a : Awaited) → same_triple a a ≡ true
same_triple_itself a =
    ap (λ b. b && (a.incarnation == a.incarnation) && (a.id == a.id)) ((bytes_eq-Decides a.publisher a.publisher).1 refl)
    ∙ ap (λ b. b && (a.id == a.id)) (eq-eqb a.incarnation a.incarnation refl)
    ∙ eq-eqb a.id a.id refl

pub same_triple_equiv : IsEquivalence same_triple
same_triple_equiv = record {
  refl = same_triple_itself;
  symm = λ a b. both_ways (same_triple a b) (same_triple b a) (turned a b) (turned b a);
  congr = λ a b c h. ap (λ x. same_triple x c) (same_triple_is a b h);
}
  where
    turned : (a b : Awaited) → same_triple a b ≡ true → same_triple b a ≡ true
    turned a b h = ap (λ x. same_triple b x) (same_triple_is a b h) ∙ same_triple_itself b

-- what a hasher is fed
abbrev pub triple_writes : Awaited → HashWrites
triple_writes a = fed.str a.publisher ++ fed.u64 a.incarnation ++ fed.u16 a.id

pub same_triple_fed : (a b : Awaited) → same_triple a b ≡ true → triple_writes a ≡ triple_writes b
same_triple_fed a b h = ap triple_writes (same_triple_is a b h)

-- each is another one than those before it
abbrev pub are_new_behind : List Awaited → List Awaited → Bool
are_new_behind before [] = true
are_new_behind before (a ∷ awaited) = not (list_any (same_triple a) before) && are_new_behind (before ++ a ∷ []) awaited

abbrev pub are_distinct : List Awaited → Bool
are_distinct awaited = are_new_behind [] awaited
