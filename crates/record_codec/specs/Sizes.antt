-- How long spellings are, as numbers. That of a Store is `store_size`, which a generation's limit counts.
use Rattle.std.specs.Prelude.{ℕ, ◌+◌, ◌*◌, List, length}
use Rattle.std.specs.List.{sum_by}
use Rattle.shard_model.specs.ShardList.{Awaited}
use Rattle.shard_model.specs.Capacity.{store_size}
use Rattle.record_codec.specs.declared.group.Op.{Op}
use Rattle.record_codec.specs.declared.group.Op.TheVariants.{Store, Release, Forget}
use Rattle.record_codec.specs.Records.{KeptGroup, KeptOpening, KeptManifest}

abbrev pub op_size : Op → ℕ
op_size (Store m) = store_size m.stored
op_size (Release publisher incarnation id) = 13 + length publisher
op_size (Forget publisher incarnation) = 11 + length publisher

-- how many bytes of a generation's limit an operation takes: only a Store takes some
abbrev pub counted_size : Op → ℕ
counted_size (Store m) = store_size m.stored
counted_size (Release publisher incarnation id) = 0
counted_size (Forget publisher incarnation) = 0

abbrev pub stores_size : List Op → ℕ
stores_size ops = sum_by counted_size ops

-- 11 bytes stand around the operations
abbrev pub group_size : KeptGroup → ℕ
group_size g = 11 + sum_by op_size g.ops

abbrev pub awaited_size : Awaited → ℕ
awaited_size a = 12 + length a.publisher

abbrev pub opening_size : KeptOpening → ℕ
opening_size o = 19 + sum_by awaited_size o.awaited

abbrev pub cut_size : ℕ
cut_size = 34

abbrev pub manifest_size : KeptManifest → ℕ
manifest_size m = 5 + cut_size * length m.cuts
