-- Laws of what a reader sees.
use Rattle.std.specs.Prelude.{ℕ, zero, suc, ◌≡◌, ◌<◌, ◌≤◌, Bool, List, [], ◌∷◌, map, length, Some, slice_get, slice_set, Result, Ok, Err, refl}
use Rattle.std.proofs.Common.{arith, inl, inr, sym, ap, subst, ◌∙◌}
use Rattle.shard_model.specs.ShardList.{ShardList, next_of}
use Rattle.shard_model.specs.Lists.{IsList}
use Rattle.shard_model.specs.Growing.{HasGrown}
use Rattle.shard_model.specs.laws.ListLaws.{grown_then}
use Rattle.shard_index.specs.KeptIndex.{ToldReceipt, list_of}
use Rattle.shard_views.specs.declared.missed.Missed.{Missed}
use Rattle.shard_views.specs.Views.{Goes, InView, IsLater, Learns, Left, ReadersState, ShardView, Unviewed, Views, ended, left_behind, seen_at, seen_in, standing_in}

-- ---- later lists

pub later_on : (a b c : ShardList) → IsLater a b → IsLater b c → IsLater a c
later_on a b c (inl same) later = subst (λ l. IsLater l c) same later
later_on a b c (inr grown) (inl same) = inr (subst (λ l. HasGrown a l × IsList l) (sym same) grown)
later_on a b c (inr grown) (inr later) = inr (grown_then a b c grown.1 later.1 grown.0 later.0, later.1)

pub later_reaches : (list later : ShardList) → IsLater list later → next_of list ≤ next_of later
later_reaches list later (inl same) = let e : next_of later ≡ next_of list = ap next_of same in omega (arith, e)
later_reaches list later (inr grown) = grown.0.ends

-- ---- one shard of several

-- what was seen of each shard where one has another view
pub seen_set : (views : List ShardView) (i j : ℕ) (view : ShardView) → IsLater (seen_in (slice_get views i)) view.seen →
    IsLater (seen_in (slice_get views j)) (seen_in (slice_get (slice_set views i view) j))
seen_set [] i j view later = inl refl
seen_set (v ∷ views) zero zero view later = later
seen_set (v ∷ views) zero (suc j) view later = inl refl
seen_set (v ∷ views) (suc i) zero view later = inl refl
seen_set (v ∷ views) (suc i) (suc j) view later = seen_set views i j view later

pub seen_left : (again : Bool) (views : List ShardView) (j : ℕ) → seen_in (slice_get (map (ended again) views) j) ≡ seen_in (slice_get views j)
seen_left again [] j = refl
seen_left again (v ∷ views) zero = refl
seen_left again (v ∷ views) (suc j) = seen_left again views j

pub stands_here : (views : List ShardView) (i : ℕ) (view : ShardView) → i < length views → standing_in (slice_get (slice_set views i view) i) ≡ Some view.standing
stands_here [] i view short = absurd (omega (arith, short))
stands_here (v ∷ views) zero view short = refl
stands_here (v ∷ views) (suc i) view short = let less : i < length views = omega (arith, short) in stands_here views i view less

pub stands_elsewhere : (views : List ShardView) (i j : ℕ) (view : ShardView) → (j ≡ i → ⊥) → standing_in (slice_get (slice_set views i view) j) ≡ standing_in (slice_get views j)
stands_elsewhere [] i j view other = refl
stands_elsewhere (v ∷ views) zero zero view other = absurd (other refl)
stands_elsewhere (v ∷ views) zero (suc j) view other = refl
stands_elsewhere (v ∷ views) (suc i) zero view other = refl
stands_elsewhere (v ∷ views) (suc i) (suc j) view other = stands_elsewhere views i j view (λ same. other (ap suc same))

pub as_many : (views : List ShardView) (i : ℕ) (view : ShardView) → length (slice_set views i view) ≡ length views
as_many [] i view = refl
as_many (v ∷ views) zero view = refl
as_many (v ∷ views) (suc i) view = ap suc (as_many views i view)

-- ---- going on

pub goes_nowhere : (r : ReadersState) → Goes r r
goes_nowhere r = record { seen = λ shard. inl refl; misses = omega arith; views_again = refl }

pub goes_on : (a b c : ReadersState) → Goes a b → Goes b c → Goes a c
goes_on a b c first then = record {
  seen = λ shard. later_on (seen_at a shard) (seen_at b shard) (seen_at c shard) (first.seen shard) (then.seen shard);
  misses = omega (arith, first.misses, then.misses);
  views_again = then.views_again ∙ first.views_again;
}

pub view_goes : (shard : ℕ) (old new : ReadersState) (result : Result Unit Missed) → Views shard old new result → Goes old new
view_goes shard old new (Ok x) views =
    let index = views.shows.index in
    subst (Goes old) (sym views.shows.new_is) (record {
      seen = λ k. seen_set old.shards shard k (record { standing = InView index; seen = list_of index }) views.shows.later;
      misses = omega arith;
      views_again = refl;
    })
view_goes shard old new (Err e) views =
    subst (Goes old) (sym views.missed) (record {
      seen = λ k. seen_set old.shards shard k (record { standing = Left; seen = seen_at old shard }) (inl refl);
      misses = views.cause.later;
      views_again = refl;
    })

pub leave_goes : (r : ReadersState) → Goes r (left_behind r)
leave_goes r = record { seen = λ k. inl (seen_left r.views_again r.shards k); misses = omega arith; views_again = refl }

pub learn_goes : (receipt : ToldReceipt) (old new : ReadersState) → Learns receipt old new → Goes old new
learn_goes receipt old new learns =
    subst (Goes old) (sym learns.new_is) (record {
      seen = λ k. seen_set old.shards receipt.shard k (record { standing = Unviewed; seen = learns.seen }) learns.later;
      misses = omega arith;
      views_again = refl;
    })

pub told_on : (list : ShardList) (shard : ℕ) (old new : ReadersState) → IsLater list (seen_at old shard) → Goes old new → IsLater list (seen_at new shard)
told_on list shard old new told goes = later_on list (seen_at old shard) (seen_at new shard) told (goes.seen shard)
