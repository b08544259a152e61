-- What is awaited by publishers, so that one identifier is found without going through the list.
use Rattle.std.specs.Prelude.{◌≡◌, ℕ, Bool, true, false, ◌&&◌, ◌||◌, not, ◌==◌, ◌++◌, List, Option, Some, None, refl}
use Rattle.std.proofs.Common.{ap, ◌∙◌, bytes_eq, eqb-true, eq-eqb}
use Rattle.std.specs.List.{list_any}
use Rattle.std.specs.Map.{lookup}
use Rattle.std.specs.Cmp.{IsEquivalence, both_ways}
use Rattle.std.specs.Hash as fed
use Rattle.std.specs.Hash.{HashWrites}
use Rattle.std.proofs.lemmas.Bool.{and_parts}
use Rattle.shard_model.specs.ShardList.{Awaited}
use Rattle.shard_model.specs.Storing.{is_awaited_as}

-- ---- an identifier of one publisher

pub record Identifier : Type 0 where
  pub incarnation : ℕ
  pub id : ℕ

abbrev pub same_identifier : Identifier → Identifier → Bool
same_identifier a b = (a.incarnation == b.incarnation) && (a.id == b.id)

pub same_identifier_is : (a b : Identifier) → same_identifier a b ≡ true → a ≡ b
same_identifier_is a b h =
    let parts = and_parts (a.incarnation == b.incarnation) (a.id == b.id) h in
    let incarnation = eqb-true a.incarnation b.incarnation parts.0 in
    let id = eqb-true a.id b.id parts.1 in
    λ i. record { incarnation = incarnation i; id = id i }

pub same_identifier_itself : (a : Identifier) → same_identifier a a ≡ true
same_identifier_itself a = ap (λ b. b && (a.id == a.id)) (eq-eqb a.incarnation a.incarnation refl) ∙ eq-eqb a.id a.id refl

pub same_identifier_equiv : IsEquivalence same_identifier
same_identifier_equiv = record {
  refl = same_identifier_itself;
  symm = λ a b. both_ways (same_identifier a b) (same_identifier b a) (turned a b) (turned b a);
  congr = λ a b c h. ap (λ x. same_identifier x c) (same_identifier_is a b h);
}
  where
    turned : (a b : Identifier) → same_identifier a b ≡ true → same_identifier b a ≡ true
    turned a b h = ap (λ x. same_identifier b x) (same_identifier_is a b h) ∙ same_identifier_itself b

abbrev pub identifier_writes : Identifier → HashWrites
identifier_writes a = fed.u64 a.incarnation ++ fed.u16 a.id

pub same_identifier_fed : (a b : Identifier) → same_identifier a b ≡ true → identifier_writes a ≡ identifier_writes b
same_identifier_fed a b h = ap identifier_writes (same_identifier_is a b h)

abbrev pub identifier_of : Awaited → Identifier
identifier_of a = record { incarnation = a.incarnation; id = a.id }

abbrev pub has_identifier : Identifier → List Identifier → Bool
has_identifier n ns = list_any (same_identifier n) ns

-- ---- by publishers

abbrev pub noted_in : Identifier → Option (List Identifier) → Bool
noted_in n None = false
noted_in n (Some ns) = has_identifier n ns

abbrev pub is_noted : List (List ℕ × List Identifier) → List ℕ → Identifier → Bool
is_noted entries publisher n = noted_in n (lookup (bytes_eq publisher) entries)

-- what is noted of each identifier of each publisher afterwards, by what was
pub record Notes (change : List ℕ → Identifier → Bool → Bool) (old new : List (List ℕ × List Identifier)) : Type 0 where
  pub each : (publisher : List ℕ) (n : Identifier) → is_noted new publisher n ≡ change publisher n (is_noted old publisher n)

-- the list and the notes agree
pub record AreNoted (awaited : List Awaited) (entries : List (List ℕ × List Identifier)) : Type 0 where
  pub each : (publisher : List ℕ) (n : Identifier) → is_noted entries publisher n ≡ list_any (is_awaited_as publisher n.incarnation n.id) awaited

abbrev pub no_change : List ℕ → Identifier → Bool → Bool
no_change publisher n before = before

-- one more is noted, one less, or none of a publisher's incarnation
abbrev pub with_noted : Awaited → List ℕ → Identifier → Bool → Bool
with_noted a publisher n before = is_awaited_as publisher n.incarnation n.id a || before

abbrev pub without_noted : Awaited → List ℕ → Identifier → Bool → Bool
without_noted a publisher n before = not (is_awaited_as publisher n.incarnation n.id a) && before

abbrev pub without_all : List ℕ → ℕ → List ℕ → Identifier → Bool → Bool
without_all name incarnation publisher n before = not (bytes_eq name publisher && (incarnation == n.incarnation)) && before
