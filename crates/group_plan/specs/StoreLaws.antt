-- What is stored where a plan stores, by the operations that were chosen.
use Rattle.std.proofs.Common.{◌≡◌, ℕ, zero, suc, ◌+◌, ◌<◌, ◌≤◌, ◌^◌, true, false, List, [], ◌∷◌, ◌++◌, length, map, refl, sym, ap, subst, ◌∙◌, append_assoc, arith}
use Rattle.std.specs.List.{sum_by}
use Rattle.std.proofs.lemmas.Bool.{and_parts}
use Rattle.topic_model.specs.Profile.{whole}
use Rattle.topic_model.specs.StoredMessage.{StoredMessage}
use Rattle.shard_model.specs.ShardList.{ShardList, next_of}
use Rattle.shard_model.specs.Capacity.{store_size}
use Rattle.shard_index.specs.Sound.{newest_bytes}
use Rattle.record_codec.specs.declared.formats.TheConstants.{MOST_OPERATIONS}
use Rattle.record_codec.specs.declared.group.Op.{Op}
use Rattle.record_codec.specs.Records.{KeptGroup, index_op, messages_of, offsets_of, plain_ops}
use Rattle.record_codec.specs.Spelling.{spelled_group}
use Rattle.record_codec.specs.HasSpelling.{group_has_spelling}
use Rattle.record_codec.specs.Sizes.{stores_size}
use Rattle.record_codec.specs.SizeLaws.{stores_counted}
use Rattle.group_plan.specs.declared.outcome.Stored.{Stored}
use Rattle.group_plan.specs.Plan.{Stores, fits_op_alone, fit_alone, lacks_room, planned, written, written_at}
use Rattle.group_plan.specs.Keeping.{chosen, written_from}
use Rattle.group_plan.specs.KeepLaws.{chosen_all, chosen_few, chosen_written, index_written}
use Rattle.group_plan.specs.RoomLaws.{CanBeWritten, can_be_written, group_short, stores_more, written_group}
use Rattle.group_plan.specs.PlanLaws.{has_room}
use Rattle.group_plan.specs.Planning.{IsStored, IsSpelled}

-- ---- going through the operations that are written

-- These are written so far; those that are left are written from this offset on, and for their messages there are offsets.
pub record IsWritten (now first : ℕ) (whole left so_far : List Op) (offset : ℕ) : Type 0 where
  pub all : so_far ++ written_from now offset left ≡ written_from now first whole
  pub end : offset + length (messages_of left) ≡ first + length (messages_of whole)
  pub fit : fit_alone left ≡ true

module _ (now first : ℕ) (whole left so_far : List Op) (op : Op) (offset : ℕ) (written : IsWritten now first whole (op ∷ left) so_far offset) where
  pub one_fits : fits_op_alone op ≡ true
  one_fits = (and_parts (fits_op_alone op) (fit_alone left) written.fit).0

  pub next_within : CanBeWritten now first whole → offset + offsets_of op < 2 ^ 64
  next_within can =
      let more = stores_more op left in
      let end = written.end in
      let begins = can.begins in
      by (length (messages_of whole)) refl more end begins can.ends
    where
      by : (n : ℕ) → length (messages_of whole) ≡ n → length (messages_of (op ∷ left)) ≡ offsets_of op + length (messages_of left) →
          offset + length (messages_of (op ∷ left)) ≡ first + length (messages_of whole) → first < 2 ^ 64 →
          (0 < length (messages_of whole) → first + length (messages_of whole) < 2 ^ 64) → offset + offsets_of op < 2 ^ 64
      by zero e more end begins ends = omega arith
      by (suc n) e more end begins ends = let less = ends (omega arith) in omega arith

  pub one_written : IsWritten now first whole left (so_far ++ written_at now offset op ∷ []) (offset + offsets_of op)
  one_written =
      let more = stores_more op left in
      let end = written.end in
      record {
        all = append_assoc so_far (written_at now offset op ∷ []) (written_from now (offset + offsets_of op) left) ∙ written.all;
        end = omega arith;
        fit = (and_parts (fits_op_alone op) (fit_alone left) written.fit).1;
      }

-- ---- the operations that were chosen can be written

module _ (list : ShardList) (ops : List Op) (now : ℕ) where
  abbrev kept : List Op
  kept = chosen list.awaited ops

  pub chosen_can : next_of list < 2 ^ 64 → now < 2 ^ 64 → length ops ≤ MOST_OPERATIONS → fit_alone ops ≡ true → 0 < length kept → lacks_room list (plain_ops kept) ≡ false →
      CanBeWritten now (next_of list) kept
  chosen_can begins moment few fit some room =
      let fewer = chosen_few ops list.awaited in
      record {
        some = some;
        few = omega arith;
        begins = begins;
        moment = moment;
        ends = λ stores. (has_room list (plain_ops kept) room stores).end;
        fit = chosen_all fits_op_alone ops list.awaited fit;
      }

  chosen_bytes : lacks_room list (plain_ops kept) ≡ false → stores_size kept ≤ whole.generation_bytes
  chosen_bytes room = by (messages_of kept) (stores_counted kept) (λ some. (has_room list (plain_ops kept) room some).bytes)
    where
      by : (ms : List StoredMessage) → stores_size kept ≡ sum_by store_size ms → (0 < length ms → newest_bytes list + sum_by store_size ms ≤ whole.generation_bytes) →
          stores_size kept ≤ whole.generation_bytes
      by [] size fits = omega arith
      by (m ∷ ms) size fits = let bytes = fits (omega arith) in omega arith

  -- what was written of them is the group
  group_is : (first : ℕ) (lent : List Op) → first ≡ next_of list → lent ≡ kept → written_group now first lent ≡ written list ops now
  group_is first lent begins are =
      let same : written_group now first lent ≡ written_group now (next_of list) kept = (λ i. written_group now (begins i) (are i)) in
      same ∙ ap (λ (l : List Op). record { first = next_of list; ops = l }) (chosen_written ops list now)

  pub is_stored : (stored : Stored) (first : ℕ) (lent : List Op) → first ≡ next_of list → lent ≡ kept → planned list ops now ≡ Stores (written list ops now) →
      stored.record.items ≡ spelled_group (written_group now first lent) → stored.ops.items ≡ map index_op (written_from now first lent) → IsStored list ops now stored
  is_stored stored first lent begins are stores record_is ops_are = record {
    group = stores;
    record_is = record_is ∙ ap spelled_group (group_is first lent begins are);
    ops_are = ops_are ∙ ap (λ (g : KeptGroup). map index_op g.ops) (group_is first lent begins are) ∙ index_written ops list now;
  }

  pub is_spelled : (stored : Stored) (first : ℕ) (lent : List Op) → first ≡ next_of list → lent ≡ kept → CanBeWritten now (next_of list) kept →
      lacks_room list (plain_ops kept) ≡ false → stored.record.items ≡ spelled_group (written_group now first lent) → IsSpelled list ops now stored
  is_spelled stored first lent begins are can room record_is =
      let own = group_is (next_of list) kept refl refl in
      let short = group_short now (next_of list) kept can (chosen_bytes room) in
      let long : length stored.record.items ≡ length (spelled_group (written_group now (next_of list) kept)) =
      ap length (record_is ∙ ap spelled_group (group_is first lent begins are ∙ sym own)) in
      let some = short.0 in
      let most = short.1 in
      record {
        has = subst (λ g. group_has_spelling g ≡ true) own (can_be_written now (next_of list) kept can);
        some = omega arith;
        short = omega arith;
      }
