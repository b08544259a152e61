-- What a plan in memory is, by the definition.
use Rattle.std.specs.Prelude.{◌≡◌, ℕ, ◌<◌, ◌≤◌, List, length, IsTrue}
use Rattle.shard_model.specs.ShardList.{ShardList}
use Rattle.shard_index.specs.Group.{ops_for}
use Rattle.record_codec.specs.declared.group.Op.{Op}
use Rattle.record_codec.specs.Records.{plain_ops}
use Rattle.record_codec.specs.Spelling.{spelled_group}
use Rattle.record_codec.specs.HasSpelling.{group_has_spelling}
use Rattle.group_plan.specs.declared.outcome.TheConstants.{MOST_RECORD}
use Rattle.group_plan.specs.declared.outcome.Stored.{Stored}
use Rattle.group_plan.specs.declared.outcome.Plan.{Plan}
use Rattle.group_plan.specs.declared.outcome.Plan.TheVariants as plan
use Rattle.group_plan.specs.Plan.{KeepsNothing, IsFull, AwaitsTooMany, Stores, planned, written}

-- the group is stored as it is written, the record is its spelling, and the operations are those by which the index takes it
pub record IsStored (list : ShardList) (ops : List Op) (now : ℕ) (stored : Stored) : Type 0 where
  pub group : planned list ops now ≡ Stores (written list ops now)
  pub record_is : stored.record.items ≡ spelled_group (written list ops now)
  pub ops_are : stored.ops.items ≡ ops_for list now (plain_ops ops)

-- the group has a spelling, which isn't long
pub record IsSpelled (list : ShardList) (ops : List Op) (now : ℕ) (stored : Stored) : Type 0 where
  pub has : IsTrue (group_has_spelling (written list ops now))
  pub some : 0 < length stored.record.items
  pub short : length stored.record.items ≤ MOST_RECORD

abbrev pub IsPlan : ShardList → List Op → ℕ → Plan → Type 0
IsPlan list ops now plan.Nothing = planned list ops now ≡ KeepsNothing
IsPlan list ops now plan.Full = planned list ops now ≡ IsFull
IsPlan list ops now plan.AwaitFull = planned list ops now ≡ AwaitsTooMany
IsPlan list ops now (plan.Stores stored) = IsStored list ops now stored

abbrev pub HasSpelling : ShardList → List Op → ℕ → Plan → Type 0
HasSpelling list ops now plan.Nothing = Unit {0}
HasSpelling list ops now plan.Full = Unit {0}
HasSpelling list ops now plan.AwaitFull = Unit {0}
HasSpelling list ops now (plan.Stores stored) = IsSpelled list ops now stored
