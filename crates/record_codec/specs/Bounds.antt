-- How much the records of a generation, and a manifest, take on their disks.
use Rattle.std.proofs.Common.{◌≡◌, ℕ, suc, ◌+◌, ◌*◌, ◌≤◌, true, List, [], ◌∷◌, length, All, arith}
use Rattle.std.specs.List.{sum_by}
use Rattle.std.proofs.lemmas.List.Sums.{sum_by-cons}
use Rattle.shard_model.specs.ShardList.{Awaited}
use Rattle.record_codec.specs.declared.group.Op.{Op}
use Rattle.record_codec.specs.declared.group.Op.TheVariants.{Store, Release, Forget}
use Rattle.record_codec.specs.Records.{KeptGroup, KeptOpening, KeptManifest}
use Rattle.record_codec.specs.Spelling.{spelled_group, spelled_opening, spelled_manifest}
use Rattle.record_codec.specs.HasSpelling.{manifest_has_spelling}
use Rattle.record_codec.specs.Sizes.{op_size, counted_size, stores_size, awaited_size}
use Rattle.record_codec.specs.SizeLaws.{group_sized, opening_sized, manifest_sized}
use Rattle.record_codec.specs.CountLaws.{manifest_few}

-- the longest client identifier, and the most that a shard awaits
abbrev pub most_client : ℕ
most_client = 256

abbrev pub most_awaited : ℕ
most_awaited = 4096

-- the bytes of a record's gate and length
abbrev pub record_head : ℕ
record_head = 5

-- ---- what a generation may have

-- how many operations take something away: a Release one, and a Forget too
abbrev pub takes_away : Op → ℕ
takes_away (Store m) = 0
takes_away (Release publisher incarnation id) = 1
takes_away (Forget publisher incarnation) = 1

abbrev pub taken_away : List Op → ℕ
taken_away ops = sum_by takes_away ops

abbrev pub IsOfClient : Op → Type 0
IsOfClient (Store m) = Unit {0}
IsOfClient (Release publisher incarnation id) = length publisher ≤ most_client
IsOfClient (Forget publisher incarnation) = length publisher ≤ most_client

abbrev pub IsAwaitedOfClient : Awaited → Type 0
IsAwaitedOfClient a = length a.publisher ≤ most_client

abbrev pub AreOfClients : KeptGroup → Type 0
AreOfClients g = All IsOfClient g.ops

-- at most 4,096 identifiers are awaited, and publishers are client identifiers
pub record IsShortOpening (o : KeptOpening) : Type 0 where
  pub clients : All IsAwaitedOfClient o.awaited
  pub few : length o.awaited ≤ most_awaited

-- At most 16 MiB of Stores. Each operation that takes something away takes an awaited identifier, of which there were 4,096 at the
-- start and one for each of 32,768 Stores; each record has a Store or such an operation.
pub record IsWithinGeneration (o : KeptOpening) (gs : List KeptGroup) : Type 0 where
  pub opening : IsShortOpening o
  pub clients : All AreOfClients gs
  pub stores : sum_by (λ g. stores_size g.ops) gs ≤ 16777216
  pub taken : sum_by (λ g. taken_away g.ops) gs ≤ 36864
  pub groups : length gs ≤ 69632

-- the records of a generation with their gates and lengths
abbrev pub generation_length : KeptOpening → List KeptGroup → ℕ
generation_length o gs = record_head + length (spelled_opening o) + sum_by (λ g. record_head + length (spelled_group g)) gs

-- ---- openings

rest_of : {A : Type 0} (P : A → Type 0) (x : A) (xs : List A) → All P (x ∷ xs) → All P xs
rest_of P x xs h k d less = h (suc k) d (omega (arith, less))

awaited_short : (xs : List Awaited) → All IsAwaitedOfClient xs → sum_by awaited_size xs ≤ 268 * length xs
awaited_short [] h = omega arith
awaited_short (a ∷ xs) h =
    let rest : sum_by awaited_size xs ≤ 268 * length xs = awaited_short xs (rest_of IsAwaitedOfClient a xs h) in
    let first : length a.publisher ≤ most_client = h 0 a (omega arith) in
    let all : sum_by awaited_size (a ∷ xs) ≡ awaited_size a + sum_by awaited_size xs = sum_by-cons awaited_size a xs in
    omega arith

pub opening_short : (o : KeptOpening) → IsShortOpening o → length (spelled_opening o) ≤ 1097747
opening_short o h = let s = opening_sized o in let a = awaited_short o.awaited h.clients in let few = h.few in omega arith

-- ---- groups

op_short : (op : Op) → IsOfClient op → op_size op ≤ counted_size op + 269 * takes_away op
op_short (Store m) h = omega arith
op_short (Release publisher incarnation id) h = omega arith
op_short (Forget publisher incarnation) h = omega arith

ops_short : (ops : List Op) → All IsOfClient ops → sum_by op_size ops ≤ stores_size ops + 269 * taken_away ops
ops_short [] h = omega arith
ops_short (op ∷ ops) h =
    let rest : sum_by op_size ops ≤ stores_size ops + 269 * taken_away ops = ops_short ops (rest_of IsOfClient op ops h) in
    let first = op_short op (h 0 op (omega arith)) in
    let sizes : sum_by op_size (op ∷ ops) ≡ op_size op + sum_by op_size ops = sum_by-cons op_size op ops in
    let stores : stores_size (op ∷ ops) ≡ counted_size op + stores_size ops = sum_by-cons counted_size op ops in
    let taken : taken_away (op ∷ ops) ≡ takes_away op + taken_away ops = sum_by-cons takes_away op ops in
    omega arith

abbrev record_length : KeptGroup → ℕ
record_length g = record_head + length (spelled_group g)

abbrev stores_in : KeptGroup → ℕ
stores_in g = stores_size g.ops

abbrev taken_in : KeptGroup → ℕ
taken_in g = taken_away g.ops

groups_short : (gs : List KeptGroup) → All AreOfClients gs → sum_by record_length gs ≤ 16 * length gs + sum_by stores_in gs + 269 * sum_by taken_in gs
groups_short [] h = omega arith
groups_short (g ∷ gs) h =
    let rest : sum_by record_length gs ≤ 16 * length gs + sum_by stores_in gs + 269 * sum_by taken_in gs = groups_short gs (rest_of AreOfClients g gs h) in
    let first : sum_by op_size g.ops ≤ stores_size g.ops + 269 * taken_away g.ops = ops_short g.ops (h 0 g (omega arith)) in
    let size : length (spelled_group g) ≡ 11 + sum_by op_size g.ops = group_sized g in
    let lengths : sum_by record_length (g ∷ gs) ≡ record_length g + sum_by record_length gs = sum_by-cons record_length g gs in
    let stores : sum_by stores_in (g ∷ gs) ≡ stores_in g + sum_by stores_in gs = sum_by-cons stores_in g gs in
    let taken : sum_by taken_in (g ∷ gs) ≡ taken_in g + sum_by taken_in gs = sum_by-cons taken_in g gs in
    omega arith

pub generation_short : (o : KeptOpening) (gs : List KeptGroup) → IsWithinGeneration o gs → generation_length o gs ≤ 28905496
generation_short o gs h =
    let a = opening_short o h.opening in
    let b = groups_short gs h.clients in
    let c = h.stores in
    let d = h.taken in
    let e = h.groups in
    omega arith

-- ---- manifests

pub manifest_short : (m : KeptManifest) → manifest_has_spelling m ≡ true → length (spelled_manifest m) ≤ 277
manifest_short m h = let s = manifest_sized m in let few = manifest_few m h in omega arith
