-- What a reader sees of logs.
use Rattle.std.proofs.Common.{◌≡◌, inl, ℕ, zero, suc, ◌<◌, Bool, true, false, List, [], ◌∷◌, Some, Result, Ok, Err, IfOk, map, drop, length, slice_get, slice_set, refl, sym, ap, subst, ◌∙◌, arith}
use Rattle.std.proofs.lemmas.Option.{slice_get_within}
use Rattle.outside.specs.DiskModel.{DiskState}
use Rattle.shard_index.specs.declared.refused.AppendRefused.{AppendRefused}
use Rattle.shard_index.specs.KeptIndex.{KeptIndex, ToldReceipt, list_of}
use Rattle.record_codec.specs.declared.group.Op.{Op}
use Rattle.shard_fold.specs.declared.asked.Asked.{Asked}
use Rattle.shard_disks.specs.Lists.{Moved}
use Rattle.shard_log.specs.PlainShardLog.{PlainShardLog, shown}
use Rattle.shard_views.specs.Views.{AreUnviewed, Goes, InView, IsLater, Learns, ShardView, Standing, Unviewed, Views, ended, left_behind, seen_at, seen_in, standing_at, standing_in}
use Rattle.plain_shards.specs.KeptShards.{AreShards, IsOf, KeptShards, asked_of, first_of, none_in_view, readers, standing_by, view_by, views_of}
use Rattle.plain_shards.specs.Calls.{AppendsLater}
use Rattle.plain_shards.proofs.ListLemmas.{asked_at, moved_at}

-- a shard that isn't in view has the view that it had
same_view : (views : List ShardView) (i : ℕ) → standing_in (slice_get views i) ≡ Some Unviewed →
    views ≡ slice_set views i (record { standing = Unviewed; seen = seen_in (slice_get views i) })
same_view [] i is = absurd cc
same_view (v ∷ views) zero is = let e : v.standing ≡ Unviewed = cc in ap (λ s. record { standing = s; seen = v.seen } ∷ views) e
same_view (v ∷ views) (suc i) is = ap (λ vs. v ∷ vs) (same_view views i is)

-- ---- one shard of them

module _ {D : Type 0} where
  -- what stands in the views stands in the logs
  pub log_at : (in_view : List Bool) (logs : List (PlainShardLog D)) (i : ℕ) (standing : Standing) → standing_in (slice_get (views_of in_view logs) i) ≡ Some standing →
      (log : PlainShardLog D) × (slice_get logs i ≡ Some log)
  log_at in_view [] i standing is = absurd cc
  log_at in_view (log ∷ logs) zero standing is = (log, refl)
  log_at in_view (log ∷ logs) (suc i) standing is = log_at (drop 1 in_view) logs i standing is

  pub within : (in_view : List Bool) (logs : List (PlainShardLog D)) (i : ℕ) (standing : Standing) → standing_in (slice_get (views_of in_view logs) i) ≡ Some standing → i < length logs
  within in_view logs i standing is = let at = log_at in_view logs i standing is in slice_get_within logs i at.0 at.1

  pub seen_here : (in_view : List Bool) (logs : List (PlainShardLog D)) (i : ℕ) (log : PlainShardLog D) → slice_get logs i ≡ Some log → seen_in (slice_get (views_of in_view logs) i) ≡ shown log
  seen_here in_view [] i log is = absurd cc
  seen_here in_view (l ∷ logs) zero log is = let e : l ≡ log = cc in ap shown e
  seen_here in_view (l ∷ logs) (suc i) log is = seen_here (drop 1 in_view) logs i log is

  -- one in view shows what its log does
  pub shown_here : (in_view : List Bool) (logs : List (PlainShardLog D)) (i : ℕ) (log : PlainShardLog D) (index : KeptIndex) → standing_in (slice_get (views_of in_view logs) i) ≡ Some (InView index) →
      slice_get logs i ≡ Some log → standing_in (slice_get (views_of in_view logs) i) ≡ Some (InView log.index)
  shown_here in_view [] i log index stands is = absurd cc
  shown_here in_view (l ∷ logs) zero log index stands is = by (first_of in_view) stands (let e : l ≡ log = cc in e)
    where
      by : (b : Bool) → Some (standing_by b l.index) ≡ Some (InView index) → l ≡ log → Some (standing_by b l.index) ≡ Some (InView log.index)
      by true stands is = ap (λ (x : PlainShardLog D). Some (InView x.index)) is
      by false stands is = absurd cc
  shown_here in_view (l ∷ logs) (suc i) log index stands is = shown_here (drop 1 in_view) logs i log index stands is

  -- ---- views that begin and end

  view_set : (in_view : List Bool) (logs : List (PlainShardLog D)) (i : ℕ) (log : PlainShardLog D) → slice_get logs i ≡ Some log → i < length in_view →
      views_of (slice_set in_view i true) logs ≡ slice_set (views_of in_view logs) i (view_by true log)
  view_set in_view [] i log is short = absurd cc
  view_set [] (l ∷ logs) i log is short = absurd (omega (arith, short))
  view_set (b ∷ in_view) (l ∷ logs) zero log is short = let e : l ≡ log = cc in ap (λ x. view_by true x ∷ views_of in_view logs) e
  view_set (b ∷ in_view) (l ∷ logs) (suc i) log is short = let less : i < length in_view = omega (arith, short) in ap (λ vs. view_by b l ∷ vs) (view_set in_view logs i log is less)

  views_ended : (in_view : List Bool) (logs : List (PlainShardLog D)) → views_of [] logs ≡ map (ended true) (views_of in_view logs)
  views_ended in_view [] = refl
  views_ended in_view (log ∷ logs) = ap (λ vs. view_by false log ∷ vs) (views_ended (drop 1 in_view) logs)

  -- none in view at the front, and none behind it
  more_none : (in_view : List Bool) → ((logs : List (PlainShardLog D)) → views_of in_view logs ≡ views_of [] logs) → (logs : List (PlainShardLog D)) → views_of (false ∷ in_view) logs ≡ views_of [] logs
  more_none in_view none [] = refl
  more_none in_view none (log ∷ logs) = ap (λ vs. view_by false log ∷ vs) (none logs)

  none_viewed : (logs : List (PlainShardLog D)) → views_of none_in_view logs ≡ views_of [] logs
  none_viewed = more_none _ (more_none _ (more_none _ (more_none _ (more_none _ (more_none _ (more_none _ (more_none [] (λ logs. refl))))))))

  pub views_begin : (old : KeptShards D) (shard : ℕ) → standing_at (readers old) shard ≡ Some Unviewed → shard < length old.in_view →
      Views shard (readers old) (readers (record old { in_view = slice_set old.in_view shard true })) (Ok tt)
  views_begin old shard is short =
      let at = log_at old.in_view old.logs shard Unviewed is in
      record {
        shows = record {
          index = at.0.index;
          later = inl (sym (seen_here old.in_view old.logs shard at.0 at.1));
          new_is = ap (λ vs. record (readers old) { shards = vs }) (view_set old.in_view old.logs shard at.0 at.1 short);
        };
        missed = tt;
        cause = record { later = omega arith; kept = refl; failed = tt };
      }

  pub views_end : (old : KeptShards D) → readers (record old { in_view = none_in_view }) ≡ left_behind (readers old)
  views_end old = ap (λ vs. record (readers old) { shards = vs }) (none_viewed old.logs ∙ views_ended old.in_view old.logs)

  pub as_many : (in_view : List Bool) (logs : List (PlainShardLog D)) → length (views_of in_view logs) ≡ length logs
  as_many in_view [] = refl
  as_many in_view (log ∷ logs) = ap suc (as_many (drop 1 in_view) logs)

  each_unviewed : (logs : List (PlainShardLog D)) (n : ℕ) → n < length (views_of [] logs) → standing_in (slice_get (views_of [] logs) n) ≡ Some Unviewed
  each_unviewed [] n short = absurd (omega (arith, short))
  each_unviewed (log ∷ logs) zero short = refl
  each_unviewed (log ∷ logs) (suc n) short = let less : n < length (views_of [] logs) = omega (arith, short) in each_unviewed logs n less

  pub unviewed : (s : KeptShards D) → s.in_view ≡ none_in_view → AreUnviewed (readers s)
  unviewed s none =
      let same : views_of s.in_view s.logs ≡ views_of [] s.logs = ap (λ b. views_of b s.logs) none ∙ none_viewed s.logs in
      subst (λ vs. (n : ℕ) → n < length vs → standing_in (slice_get vs n) ≡ Some Unviewed) (sym same) (each_unviewed s.logs)

  -- ---- a receipt

  pub learned : (s : KeptShards D) (receipt : ToldReceipt) → standing_at (readers s) receipt.shard ≡ Some Unviewed → IsOf s receipt → Learns receipt (readers s) (readers s)
  learned s receipt is of = record {
    seen = seen_at (readers s) receipt.shard;
    later = inl refl;
    told = of.told;
    new_is = ap (λ vs. record (readers s) { shards = vs }) (same_view (views_of s.in_view s.logs) receipt.shard is);
  }

  -- ---- logs that move

  pub moved_seen : (R : PlainShardLog D → PlainShardLog D → Type 0) (i : ℕ) (olds news : List (PlainShardLog D)) → ((old new : PlainShardLog D) → R old new → IsLater (shown old) (shown new)) →
      Moved i R olds news → (in_view : List Bool) (n : ℕ) → IsLater (seen_in (slice_get (views_of in_view olds) n)) (seen_in (slice_get (views_of in_view news) n))
  moved_seen R i [] news later moved in_view n = absurd moved
  moved_seen R i (x ∷ xs) [] later moved in_view n = absurd moved
  moved_seen R zero (x ∷ xs) (y ∷ ys) later moved in_view zero = later x y moved.0
  moved_seen R zero (x ∷ xs) (y ∷ ys) later moved in_view (suc n) = inl (ap (λ ls. seen_in (slice_get (views_of (drop 1 in_view) ls) n)) moved.1)
  moved_seen R (suc i) (x ∷ xs) (y ∷ ys) later moved in_view zero = inl (ap shown moved.0)
  moved_seen R (suc i) (x ∷ xs) (y ∷ ys) later moved in_view (suc n) = moved_seen R i xs ys later moved.1 (drop 1 in_view) n

  pub moved_goes : (R : PlainShardLog D → PlainShardLog D → Type 0) (i : ℕ) (in_view : List Bool) (olds news : List (PlainShardLog D)) →
      ((old new : PlainShardLog D) → R old new → IsLater (shown old) (shown new)) → Moved i R olds news →
      Goes (readers (record { logs = olds; in_view = in_view })) (readers (record { logs = news; in_view = in_view }))
  moved_goes R i in_view olds news later moved = record { seen = λ n. moved_seen R i olds news later moved in_view n; misses = omega arith; views_again = refl }

  -- a call that leaves what each log shows
  pub moved_views : (R : PlainShardLog D → PlainShardLog D → Type 0) (i : ℕ) (olds news : List (PlainShardLog D)) → ((old new : PlainShardLog D) → R old new → new.index ≡ old.index) →
      Moved i R olds news → (in_view : List Bool) → views_of in_view news ≡ views_of in_view olds
  moved_views R i [] news same moved in_view = absurd moved
  moved_views R i (x ∷ xs) [] same moved in_view = absurd moved
  moved_views R zero (x ∷ xs) (y ∷ ys) same moved in_view =
      (λ k. record { standing = standing_by (first_of in_view) (same x y moved.0 k); seen = list_of (same x y moved.0 k) } ∷ views_of (drop 1 in_view) (moved.1 k))
  moved_views R (suc i) (x ∷ xs) (y ∷ ys) same moved in_view = (λ k. view_by (first_of in_view) (moved.0 k) ∷ moved_views R i xs ys same moved.1 (drop 1 in_view) k)

  -- ---- what a receipt of an append is of

  pub receipt_of : (state : D → DiskState) (ops : List Op) (now i : ℕ) (in_view : List Bool) (olds news : List (PlainShardLog D)) (result : Result ToldReceipt AppendRefused) →
      AreShards (map asked_of olds) → Moved i (AppendsLater state ops now result) olds news → IfOk result (IsOf (record { logs = news; in_view = in_view }))
  receipt_of state ops now i in_view olds news (Err why) are moved = tt
  receipt_of state ops now i in_view olds news (Ok receipt) are moved =
      let at = moved_at (AppendsLater state ops now (Ok receipt)) i olds news moved in
      let is = at.moved.appends.receipt in
      let place : receipt.shard ≡ i = ap (λ (r : ToldReceipt). r.shard) is ∙ ap (λ (a : Asked). a.shard) (asked_at olds i at.old are at.old_at) in
      let told : receipt.list ≡ shown at.new = ap (λ (r : ToldReceipt). r.list) is in
      let seen : seen_in (slice_get (views_of in_view news) i) ≡ shown at.new = seen_here in_view news i at.new at.new_at in
      record {
        shard = subst (λ n. n < length news) (sym place) (slice_get_within news i at.new at.new_at);
        told = subst (λ n. IsLater receipt.list (seen_in (slice_get (views_of in_view news) n))) (sym place) (inl (seen ∙ sym told));
      }
