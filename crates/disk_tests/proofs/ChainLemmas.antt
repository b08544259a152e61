-- From each call of a chain to the lists of all of them.
use Rattle.std.proofs.Common.{ℕ, ◌≡◌, inl, inr, IsTrue, List, [], ◌∷◌, ◌++◌, ap, ◌∙◌}
use Rattle.outside.specs.DiskModel.{DiskState, Only}
use Rattle.gated_log.specs.Records.{records}
use Rattle.pair_log.specs.declared.side.Side.{Side}
use Rattle.pair_log.specs.declared.side.Side.TheVariants.{First, Second}
use Rattle.pair_log.specs.Epochs.{active_records, read_pair}
use Rattle.pair_log.specs.Mounted.{AreMounting, IsBeginning, IsMounting, begun, begun_read, or_first}
use Rattle.pair_log.specs.PlainPair.{IsEither}
use Rattle.pair_log.specs.Sides.{first_of, second_of}
use Rattle.disk_tests.specs.Chain.{IsOneOf, chain_lists, with_epoch}

-- the first two of three lists, and the last two
pub first_two : (a b c list : List (List ℕ)) → IsEither a b list → IsOneOf (a ∷ b ∷ c ∷ []) list
first_two a b c list (inl e) = inl e
first_two a b c list (inr e) = inr (inl e)

pub last_two : (a b c list : List (List ℕ)) → IsEither b c list → IsOneOf (a ∷ b ∷ c ∷ []) list
last_two a b c list (inl e) = inr (inl e)
last_two a b c list (inr e) = inr (inr (inl e))

-- both disks tell, whichever is active
pub told_by_sides : {D : Type 0} (state : D → DiskState) (side : Side) (active standby : D) → IsTrue (state (first_of side active standby)).tells
    → IsTrue (state (second_of side active standby)).tells → IsTrue (state active).tells × IsTrue (state standby).tells
told_by_sides state First active standby first second = (first, second)
told_by_sides state Second active standby first second = (second, first)

-- during the mount
module _ (first second : DiskState) (snapshot added : List ℕ) (one two : ℕ) where
  abbrev before : List (List ℕ)
  before = read_pair first.seen second.seen

  abbrev lists : List (List (List ℕ))
  lists = chain_lists before snapshot added one two

  reads_two : (a b : List ℕ) (list : List (List ℕ)) → records a ≡ list → records b ≡ records second.seen → read_pair a b ≡ active_records list (records second.seen)
  reads_two a b list same other = ap (λ l. active_records l (records b)) same ∙ ap (active_records list) other

  in_mount : (a b : List ℕ) → IsBeginning first.may_leave (records first.seen) (records second.seen) snapshot a → Only first.seen first.may_leave → records b ≡ records second.seen
      → IsOneOf lists (read_pair a b)
  in_mount a b (inl left) only other = inl (reads_two a b (records first.seen) (ap records (only a left)) other)
  in_mount a b (inr (inl same)) only other = inl (reads_two a b (records first.seen) same other)
  in_mount a b (inr (inr new)) only other =
      inr (inl (reads_two a b (begun snapshot (records first.seen) (records second.seen)) new other ∙ begun_read snapshot (records first.seen) (records second.seen)))

  second_list : (b : List ℕ) → IsMounting second.may_leave (records second.seen) b → Only second.seen second.may_leave → records b ≡ records second.seen
  second_list b (inl left) only = ap records (only b left)
  second_list b (inr same) only = same

  pub mount_lists : Only first.seen first.may_leave → Only second.seen second.may_leave → (images : List ℕ × List ℕ) → AreMounting first second snapshot images
      → IsOneOf lists (read_pair images.0 images.1)
  mount_lists first_only second_only images mounting = in_mount images.0 images.1 mounting.0 first_only (second_list images.1 mounting.1 second_only)

  -- during the first commit and rewrite, and during the second
  pub first_lists : (payloads list : List (List ℕ)) → payloads ≡ or_first snapshot before → IsOneOf (payloads ∷ (payloads ++ added ∷ []) ∷ (with_epoch one snapshot ∷ []) ∷ []) list
      → IsOneOf lists list
  first_lists payloads list e (inl same) = inr (inl (same ∙ e))
  first_lists payloads list e (inr (inl same)) = inr (inr (inl (same ∙ ap (λ l. l ++ added ∷ []) e)))
  first_lists payloads list e (inr (inr (inl same))) = inr (inr (inr (inl same)))
  first_lists payloads list e (inr (inr (inr none))) = absurd none

  pub second_lists : (payloads list : List (List ℕ)) → payloads ≡ with_epoch one snapshot ∷ [] → IsOneOf (payloads ∷ (payloads ++ added ∷ []) ∷ (with_epoch two snapshot ∷ []) ∷ []) list
      → IsOneOf lists list
  second_lists payloads list e (inl same) = inr (inr (inr (inl (same ∙ e))))
  second_lists payloads list e (inr (inl same)) = inr (inr (inr (inr (inl (same ∙ ap (λ l. l ++ added ∷ []) e)))))
  second_lists payloads list e (inr (inr (inl same))) = inr (inr (inr (inr (inr (inl same)))))
  second_lists payloads list e (inr (inr (inr none))) = absurd none
