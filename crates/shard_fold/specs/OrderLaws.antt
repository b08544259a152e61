-- What records hold is a list in order.
use Rattle.std.proofs.Common.{◌≡◌, ℕ, ◌+◌, ◌≤◌, Bool, true, false, ◌&&◌, ◌==◌, if◌then◌else◌, List, [], ◌∷◌, length, Option, Some, None, refl, sym, ap, subst, ◌∙◌, eqb-true, leb-true, arith}
use Rattle.std.specs.Prelude.{is_some, nat_le}
use Rattle.std.specs.List.{IsDistinct, list_all}
use Rattle.std.proofs.lemmas.Bool.{and_parts}
use Rattle.topic_model.specs.Profile.{whole}
use Rattle.topic_name.specs.declared.descriptor.Descriptor.{Descriptor}
use Rattle.shard_model.specs.ShardList.{Cut, ShardList, newest, newest_of, next_of}
use Rattle.shard_model.specs.Storing.{Store as PlainStore, act_if}
use Rattle.shard_model.specs.Capacity.{sealed_at}
use Rattle.shard_model.specs.Lists.{IsList}
use Rattle.shard_index.specs.declared.op.IndexOp.TheVariants.{Rotate}
use Rattle.shard_index.specs.KeptIndex.{cut_of}
use Rattle.shard_index.specs.Absorbing.{absorbed, absorbed_all, all_stand, begun, begun_if, may_add, may_begin}
use Rattle.shard_index.specs.GrowLaws.{absorbed_all_grows, absorbed_grows}
use Rattle.shard_model.specs.Storing.{same_triple}
use Rattle.shard_index.specs.Triples.{are_distinct}
use Rattle.record_codec.specs.declared.group.Op.{Op}
use Rattle.record_codec.specs.declared.group.Op.TheVariants.{Store, Release, Forget}
use Rattle.record_codec.specs.Records.{KeptGroup, KeptOpening, index_op, index_ops}
use Rattle.record_codec.specs.Reading.{group_in, opening_in}
use Rattle.pair_log.specs.Mounted.{or_first}
use Rattle.shard_fold.specs.declared.asked.Asked.{Asked}
use Rattle.shard_fold.specs.declared.unread.Where.TheVariants.{Slot}
use Rattle.shard_fold.specs.Fold.{Folded, Holds, IsDamaged, HasAnother, all_told, and_then, are_in_row, begun_at, cuts_told, first_manifest, folded, generation_told, goes_before, goes_on, have_own_slots, is_known_cut, is_opening_of, later_all_told, later_told, oldest_told, opened, opened_behind, opens, opens_behind, records_of, unsealed, with_group, with_record, with_records}
use Rattle.shard_fold.specs.DistinctLaws.{AreApart, apart_distinct, ops_apart, tested_apart}
use Rattle.shard_fold.specs.OpeningLaws.{may_begin_behind, pushed_newest}
use Rattle.shard_fold.specs.ManifestLaws.{then_holds, told_sound}

-- what holds of what is told
abbrev IfHolds : {A : Type 0} → (A → Type 0) → Folded A → Type 0
IfHolds P (Holds x) = P x
IfHolds P (IsDamaged log place) = Unit {0}
IfHolds P (HasAnother what kept asked) = Unit {0}

then_told : {A B : Type 0} (P : A → Type 0) (Q : B → Type 0) (r : Folded A) (next : A → Folded B) → IfHolds P r → ((x : A) → P x → IfHolds Q (next x)) →
    IfHolds Q (and_then r next)
then_told P Q (Holds x) next h f = f x h
then_told P Q (IsDamaged log place) next h f = tt
then_told P Q (HasAnother what kept asked) next h f = tt

-- the list is in order, not too many identifiers are awaited, and none twice
pub record IsKept (list : ShardList) : Type 0 where
  pub order : IsList list
  pub few : length list.awaited ≤ whole.awaited
  pub distinct : IsDistinct same_triple list.awaited

-- and this generation is the newest one
record EndsWith (cut : Descriptor) (list : ShardList) : Type 0 where
  order : IsList list
  few : length list.awaited ≤ whole.awaited
  apart : AreApart list.awaited
  newest : newest list ≡ cut_of (unsealed cut)

-- ---- groups

same_cuts : (op : Op) (list : ShardList) → (absorbed (index_op op) list).cuts ≡ list.cuts
same_cuts (Release publisher incarnation id) list = refl
same_cuts (Forget publisher incarnation) list = refl
same_cuts (Store m) list = by (may_add list m.stored)
  where
    by : (b : Bool) → (act_if b m.stored.stamp list (PlainStore m.stored)).cuts ≡ list.cuts
    by true = refl
    by false = refl

all_same_cuts : (ops : List Op) (list : ShardList) → (absorbed_all (index_ops ops) list).cuts ≡ list.cuts
all_same_cuts [] list = refl
all_same_cuts (op ∷ ops) list = all_same_cuts ops (absorbed (index_op op) list) ∙ same_cuts op list

group_ends : (cut : Descriptor) (slot place : ℕ) (list : ShardList) (read : Option KeptGroup) → EndsWith cut list → IfHolds (EndsWith cut) (with_group slot place list read)
group_ends cut slot place list None is = tt
group_ends cut slot place list (Some g) is = by (goes_on list g) refl
  where
    by : (t : Bool) → goes_on list g ≡ t → IfHolds (EndsWith cut) (if t then Holds (absorbed_all (index_ops g.ops) list) else IsDamaged (Slot slot) place)
    by false goes = tt
    by true goes =
        let later = absorbed_all (index_ops g.ops) list in
        let p = and_parts (g.first == next_of list) (all_stand list (index_ops g.ops) && nat_le (length later.awaited) whole.awaited) goes in
        let q = and_parts (all_stand list (index_ops g.ops)) (nat_le (length later.awaited) whole.awaited) p.1 in
        record {
          order = (absorbed_all_grows (index_ops g.ops) list is.order).order;
          few = leb-true (length later.awaited) whole.awaited q.1;
          apart = ops_apart g.ops list is.apart;
          newest = ap newest_of (all_same_cuts g.ops list) ∙ is.newest;
        }

records_end : (cut : Descriptor) (slot place : ℕ) (so_far : Folded ShardList) (payloads : List (List ℕ)) → IfHolds (EndsWith cut) so_far →
    IfHolds (EndsWith cut) (with_records slot place so_far payloads)
records_end cut slot place so_far [] is = is
records_end cut slot place so_far (payload ∷ payloads) is =
    records_end cut slot (place + (5 + length payload)) (with_record slot place payload so_far) payloads
    (then_told (EndsWith cut) (EndsWith cut) so_far (λ list. with_group slot place list (group_in payload)) is
    (λ list is. group_ends cut slot place list (group_in payload) is))

generation_ends : (cut : Descriptor) (by : Option KeptOpening → Folded ShardList) (slot : ℕ) (payloads : List (List ℕ)) →
    ((read : Option KeptOpening) → IfHolds (EndsWith cut) (by read)) → IfHolds (EndsWith cut) (generation_told by slot payloads)
generation_ends cut by slot [] opens = tt
generation_ends cut by slot (payload ∷ payloads) opens =
    records_end cut slot (5 + length payload) (by (opening_in payload)) payloads (opens (opening_in payload))

-- ---- openings

opened_ends : (cut : Descriptor) (read : Option KeptOpening) → IfHolds (EndsWith cut) (opened cut.slot cut read)
opened_ends cut None = tt
opened_ends cut (Some o) = by (opens cut o) refl
  where
    by : (t : Bool) → opens cut o ≡ t →
        IfHolds (EndsWith cut) (if t then Holds (record { cuts = cut_of (unsealed cut) ∷ []; messages = []; awaited = o.awaited }) else IsDamaged (Slot cut.slot) 0)
    by false opens = tt
    by true opens =
        let p = and_parts (is_opening_of cut o) (nat_le (length o.awaited) whole.awaited && are_distinct o.awaited) opens in
        let q = and_parts (nat_le (length o.awaited) whole.awaited) (are_distinct o.awaited) p.1 in
        record {
          order = record { cuts = (omega arith, refl); offsets = refl };
          few = leb-true (length o.awaited) whole.awaited q.0;
          apart = tested_apart o.awaited q.1;
          newest = refl;
        }

-- a generation that goes behind the newest one
behind_ends : (previous cut : Descriptor) (list : ShardList) (read : Option KeptOpening) → goes_before previous cut ≡ true → EndsWith previous list →
    IfHolds (EndsWith cut) (opened_behind cut.slot list previous.sealed cut read)
behind_ends previous cut list None goes is = tt
behind_ends previous cut list (Some o) goes is = by (opens_behind list cut o) refl
  where
    parts : ((cut.number == previous.number + 1) ≡ true) × ((nat_le previous.first cut.first && is_some previous.sealed) ≡ true)
    parts = and_parts (cut.number == previous.number + 1) (nat_le previous.first cut.first && is_some previous.sealed) goes

    begins : opens_behind list cut o ≡ true → may_begin list (cut_of (unsealed cut)) ≡ true
    begins opens = may_begin_behind list cut o (eqb-true cut.number (previous.number + 1) parts.0 ∙ ap (λ (c : Cut). c.number + 1) (sym is.newest)) opens

    order : (moment : ℕ) → opens_behind list cut o ≡ true → IsList (begun moment (cut_of (unsealed cut)) list)
    order moment opens =
        subst (λ b. IsList (begun_if b moment (cut_of (unsealed cut)) list)) (begins opens) (absorbed_grows (Rotate moment (unsealed cut)) list is.order).order

    sealed : (moment : Option ℕ) → is_some moment ≡ true → opens_behind list cut o ≡ true → EndsWith cut (begun_at moment (cut_of (unsealed cut)) list)
    sealed None some opens = absurd cc
    sealed (Some moment) some opens = record {
      order = order moment opens;
      few = is.few;
      apart = is.apart;
      newest = pushed_newest (sealed_at moment list.cuts) (cut_of (unsealed cut));
    }

    by : (t : Bool) → opens_behind list cut o ≡ t →
        IfHolds (EndsWith cut) (if t then Holds (begun_at previous.sealed (cut_of (unsealed cut)) list) else IsDamaged (Slot cut.slot) 0)
    by false opens = tt
    by true opens = sealed previous.sealed (and_parts (nat_le previous.first cut.first) (is_some previous.sealed) parts.1).1 opens

-- ---- all generations

ends_kept : (cut : Descriptor) (held : Folded ShardList) → IfHolds (EndsWith cut) held → IfHolds IsKept held
ends_kept cut (Holds list) is = record { order = is.order; few = is.few; distinct = apart_distinct list.awaited is.apart }
ends_kept cut (IsDamaged log place) is = tt
ends_kept cut (HasAnother what kept asked) is = tt

later_kept : (records : ℕ → List (List ℕ)) (previous : Descriptor) (so_far : Folded ShardList) (cuts : List Descriptor) →
    are_in_row (previous ∷ cuts) ≡ true → IfHolds (EndsWith previous) so_far → IfHolds IsKept (later_all_told records previous so_far cuts)
later_kept records previous so_far [] row is = ends_kept previous so_far is
later_kept records previous so_far (cut ∷ cuts) row is =
    let p = and_parts (goes_before previous cut) (are_in_row (cut ∷ cuts)) row in
    later_kept records cut (and_then so_far (later_told records previous cut)) cuts p.1
    (then_told (EndsWith previous) (EndsWith cut) so_far (later_told records previous cut) is
    (λ list is. generation_ends cut (opened_behind cut.slot list previous.sealed cut) cut.slot (records cut.slot) (λ read. behind_ends previous cut list read p.0 is)))

all_kept : (records : ℕ → List (List ℕ)) (cuts : List Descriptor) → are_in_row cuts ≡ true → IfHolds IsKept (all_told records cuts)
all_kept records [] row = tt
all_kept records (cut ∷ cuts) row =
    later_kept records cut (oldest_told records cut) cuts row (generation_ends cut (opened cut.slot cut) cut.slot (records cut.slot) (opened_ends cut))

pub folded_kept : (asked : Asked) (manifest : List (List ℕ)) (slots : List (List (List ℕ))) (list : ShardList) → folded asked manifest slots ≡ Holds list → IsKept list
unfolding folded
folded_kept asked manifest slots list holds =
    let first = then_holds (cuts_told asked (or_first (first_manifest asked) manifest)) (λ cuts. all_told (records_of slots cuts) cuts) list holds in
    let sound = told_sound asked (or_first (first_manifest asked) manifest) first.0 first.1 in
    let p = and_parts (list_all is_known_cut first.0) (are_in_row first.0 && have_own_slots first.0) sound in
    let q = and_parts (are_in_row first.0) (have_own_slots first.0) p.1 in
    subst (IfHolds IsKept) first.2 (all_kept (records_of slots first.0) first.0 q.0)
