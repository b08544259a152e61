-- While an identifier of QoS 2 is awaited no move stores another message of it: a group is of one session, and forgets
-- others alone.
use Rattle.std.proofs.Common.{◌≡◌, ◌⊎◌, inl, inr, ℕ, zero, suc, Bool, true, false, not, ◌&&◌, ◌==◌, List, [], ◌∷◌, ◌++◌}
use Rattle.std.proofs.Common.{bytes_eq, slice_get, Some, None, refl, sym, ap, subst, ◌∙◌}
use Rattle.std.proofs.lemmas.Bool.{true≢false, and_from}
use Rattle.std.proofs.lemmas.Option.{none-some, same_Some}
use Rattle.topic_model.specs.Places.{HasPlace}
use Rattle.topic_model.specs.Profile.{Profile, Config}
use Rattle.topic_model.specs.StoredMessage.{StoredMessage}
use Rattle.shard_model.specs.ShardList.{ShardList, Awaited, next_of}
use Rattle.shard_model.specs.Storing.{Op, Release, Forget, acts, act_if, awaits, becomes_awaited, is_awaited_as}
use Rattle.shard_model.specs.Storing.{is_message_of, is_of, placed}
use Rattle.shard_model.specs.ShardMoves.{PendingChange, Nothing, AGroup, ACut, ADrop, Shard, ShardMove, opening_shard}
use Rattle.shard_model.specs.ShardMoves.{if_group}
use Rattle.shard_model.specs.laws.PlaceLaws.{place_left, place_kept, any_place}
use Rattle.world_model.specs.World.{World, WorldShard, Move, added_by, added_if, added_on, world_step, opening_world}
use Rattle.world_laws.specs.Reached.{HasShard}
use Rattle.world_laws.specs.StoredLists.{StoresNoOther}
use Rattle.world_laws.specs.Always.{OfShards, OfShardMoves}
use Rattle.world_laws.specs.laws.GoesLaws.{GoesFrom, Stays, Moves, Begins, IsLeft, Crashes, shard_goes}
use Rattle.world_laws.specs.laws.AwaitedLaws.{added_all, added_one, group_adds, message_parts, triple_from}
use Rattle.world_laws.specs.laws.SeenLaws.{replicate_from}
use Rattle.shard_model.specs.Storing
use Rattle.shard_model.specs.ShardMoves as Shards

-- ---- what a group asks

-- Forgets, none of which is of this publisher and session
abbrev pub AreOfOthers : List ℕ → ℕ → List Op → Type 0
AreOfOthers publisher incarnation [] = Unit {0}
AreOfOthers publisher incarnation (Storing.Store m ∷ ops) = ⊥
AreOfOthers publisher incarnation (Release p i id ∷ ops) = ⊥
AreOfOthers publisher incarnation (Forget p i ∷ ops) =
    ((bytes_eq publisher p && (incarnation == i)) ≡ false) × AreOfOthers publisher incarnation ops

-- Stores of messages of this publisher and session
abbrev pub AreStores : List ℕ → ℕ → List Op → Type 0
AreStores publisher incarnation [] = Unit {0}
AreStores publisher incarnation (Storing.Store m ∷ ops) =
    (m.publisher ≡ publisher) × ((m.incarnation ≡ incarnation) × AreStores publisher incarnation ops)
AreStores publisher incarnation (Release p i id ∷ ops) = ⊥
AreStores publisher incarnation (Forget p i ∷ ops) = ⊥

-- The operations of a group are of one publisher and session: Forgets of others, and then Stores of its messages or one
-- Release of an identifier of it.
pub record OpsFit (ops : List Op) : Type 0 where
  pub publisher : List ℕ
  pub incarnation : ℕ
  pub forgets : List Op
  pub rest : List Op
  pub are : ops ≡ forgets ++ rest
  pub others : AreOfOthers publisher incarnation forgets
  pub asks : AreStores publisher incarnation rest
      ⊎ ((id : ℕ) × (rest ≡ Release publisher incarnation id ∷ []))

-- where a group pends, its operations fit
abbrev pub PendsFitting : PendingChange → Type 0
PendsFitting (AGroup ops now) = OpsFit ops
PendsFitting other = Unit {0}

-- a group that pends is of one publisher and session
abbrev pub GroupFits : WorldShard → Type 0
GroupFits s = PendsFitting s.shard.pending

-- ---- a group adds no message of what is awaited

forget_adds : (b : Bool) (now : ℕ) (list : ShardList) (p : List ℕ) (i : ℕ) → added_one b now list (Forget p i) ≡ []
forget_adds true now list p i = refl
forget_adds false now list p i = refl

forget_leaves : (b : Bool) (now : ℕ) (list : ShardList) (p : List ℕ) (i : ℕ) (a : Awaited) → is_of p i a ≡ false →
    HasPlace list.awaited a → HasPlace (act_if b now list (Forget p i)).awaited a
forget_leaves false now list p i a other has = has
forget_leaves true now list p i a other has =
    place_kept (λ a. not (is_of p i a)) list.awaited has.0 a has.1 (ap not other)

-- a Store of QoS 2 whose identifier is awaited is left out
store_waits : (list : ShardList) (w : StoredMessage) (a : Awaited) → HasPlace list.awaited a →
    is_message_of a w ≡ true → acts list (Storing.Store w) ≡ false
store_waits list w a has is =
    let parts = message_parts a w is in
    let same = triple_from w.publisher w.incarnation w.id a (sym parts.0) (sym parts.1.0) (sym parts.1.1.1) in
    ap not (and_from (w.qos == 2) (awaits list w.publisher w.incarnation w.id) parts.1.1.0
    (any_place (is_awaited_as w.publisher w.incarnation w.id) list.awaited has.0 a has.1 same))

store_leaves : (b : Bool) (now : ℕ) (list : ShardList) (w : StoredMessage) (a : Awaited) → HasPlace list.awaited a →
    HasPlace (act_if b now list (Storing.Store w)).awaited a
store_leaves true now list w a has = place_left list.awaited (becomes_awaited w) has.0 a has.1
store_leaves false now list w a has = has

release_adds_none : (b : Bool) (now : ℕ) (list : ShardList) (p : List ℕ) (i id k : ℕ) (m : StoredMessage) →
    slice_get (added_one b now list (Release p i id) ++ []) k ≡ Some m → ⊥
release_adds_none true now list p i id k m at = none-some m at
release_adds_none false now list p i id k m at = none-some m at

module _ (publisher : List ℕ) (incarnation now : ℕ) where
  -- the Forgets of others add nothing, and leave what is awaited of this publisher and session
  record Peels (list : ShardList) (forgets rest : List Op) : Type 0 where
    later : ShardList
    adds : added_all list (forgets ++ rest) now ≡ added_all later rest now
    leaves : (a : Awaited) → HasPlace list.awaited a → a.publisher ≡ publisher → a.incarnation ≡ incarnation →
        HasPlace later.awaited a

  peeled : (list : ShardList) (forgets rest : List Op) → AreOfOthers publisher incarnation forgets →
      Peels list forgets rest
  peeled list [] rest others = record { later = list; adds = refl; leaves = λ a has e f. has }
  peeled list (Storing.Store m ∷ forgets) rest others = absurd others
  peeled list (Release p i id ∷ forgets) rest others = absurd others
  peeled list (Forget p i ∷ forgets) rest others =
      let b = acts list (Forget p i) in
      let one = act_if b now list (Forget p i) in
      let more = peeled one forgets rest others.1 in
      record {
        later = more.later;
        adds = ap (λ front. front ++ added_all one (forgets ++ rest) now) (forget_adds b now list p i) ∙ more.adds;
        leaves = λ a has e f.
            more.leaves a
            (forget_leaves b now list p i a
            (ap (λ who. bytes_eq who p && (a.incarnation == i)) e ∙ ap (λ n. bytes_eq publisher p && (n == i)) f
            ∙ others.0)
            has)
            e f;
      }

  -- all that Stores of one publisher and session add is of it
  stores_are_of : (list : ShardList) (ops : List Op) → AreStores publisher incarnation ops → (m : StoredMessage)
      (k : ℕ) → slice_get (added_all list ops now) k ≡ Some m →
      (m.publisher ≡ publisher) × (m.incarnation ≡ incarnation)
  stores_are_of list [] stores m k at = absurd (none-some m at)
  stores_are_of list (Release p i id ∷ ops) stores m k at = absurd stores
  stores_are_of list (Forget p i ∷ ops) stores m k at = absurd stores
  stores_are_of list (Storing.Store w ∷ ops) stores m k at =
      by (acts list (Storing.Store w)) k at
      (λ b j there. stores_are_of (act_if b now list (Storing.Store w)) ops stores.1.1 m j there)
    where
      by : (b : Bool) (k : ℕ) →
          slice_get (added_one b now list (Storing.Store w)
          ++ added_all (act_if b now list (Storing.Store w)) ops now) k ≡ Some m →
          ((b : Bool) (j : ℕ) → slice_get (added_all (act_if b now list (Storing.Store w)) ops now) j ≡ Some m →
          (m.publisher ≡ publisher) × (m.incarnation ≡ incarnation)) →
          (m.publisher ≡ publisher) × (m.incarnation ≡ incarnation)
      by false k at rest = rest false k at
      by true (suc k) at rest = rest true k at
      by true zero at rest =
          let e = same_Some (placed w (next_of list) now) m at in (
            ap (λ (x : StoredMessage). x.publisher) (sym e) ∙ stores.0,
            ap (λ (x : StoredMessage). x.incarnation) (sym e) ∙ stores.1.0,
          )

  stores_add_none : (list : ShardList) (ops : List Op) → AreStores publisher incarnation ops → (a : Awaited) →
      HasPlace list.awaited a → (m : StoredMessage) (k : ℕ) → slice_get (added_all list ops now) k ≡ Some m →
      is_message_of a m ≡ true → ⊥
  stores_add_none list [] stores a has m k at is = none-some m at
  stores_add_none list (Release p i id ∷ ops) stores a has m k at is = stores
  stores_add_none list (Forget p i ∷ ops) stores a has m k at is = stores
  stores_add_none list (Storing.Store w ∷ ops) stores a has m k at is =
      by (acts list (Storing.Store w)) refl k at
      (λ b j there. stores_add_none (act_if b now list (Storing.Store w)) ops stores.1.1 a
      (store_leaves b now list w a has) m j there is)
    where
      by : (b : Bool) → acts list (Storing.Store w) ≡ b → (k : ℕ) →
          slice_get (added_one b now list (Storing.Store w)
          ++ added_all (act_if b now list (Storing.Store w)) ops now) k ≡ Some m →
          ((b : Bool) (j : ℕ) → slice_get (added_all (act_if b now list (Storing.Store w)) ops now) j ≡ Some m → ⊥) →
          ⊥
      by false goes k at rest = rest false k at
      by true goes (suc k) at rest = rest true k at
      by true goes zero at rest =
          let e = same_Some (placed w (next_of list) now) m at in
          true≢false (sym goes ∙ store_waits list w a has (ap (λ (x : StoredMessage). is_message_of a x) e ∙ is))

-- a group that fits adds no message of an identifier that was awaited before it
group_adds_none : (list : ShardList) (ops : List Op) (now : ℕ) → OpsFit ops → (a : Awaited) →
    HasPlace list.awaited a → (m : StoredMessage) (k : ℕ) → slice_get (added_all list ops now) k ≡ Some m →
    is_message_of a m ≡ true → ⊥
group_adds_none list ops now fits a has m k at is =
    asked peels.later (ap (λ ms. slice_get ms k) (sym peels.adds) ∙ added) (peels.leaves a has) fits.asks
  where
    peels : Peels fits.publisher fits.incarnation now list fits.forgets fits.rest
    peels = peeled fits.publisher fits.incarnation now list fits.forgets fits.rest fits.others

    added : slice_get (added_all list (fits.forgets ++ fits.rest) now) k ≡ Some m
    added = ap (λ ops. slice_get (added_all list ops now) k) (sym fits.are) ∙ at

    asked : (later : ShardList) → slice_get (added_all later fits.rest now) k ≡ Some m →
        (a.publisher ≡ fits.publisher → a.incarnation ≡ fits.incarnation → HasPlace later.awaited a) →
        AreStores fits.publisher fits.incarnation fits.rest
        ⊎ ((id : ℕ) × (fits.rest ≡ Release fits.publisher fits.incarnation id ∷ [])) → ⊥
    asked later there left (inl stores) =
        let parts = message_parts a m is in
        let of = stores_are_of fits.publisher fits.incarnation now later fits.rest stores m k there in
        stores_add_none fits.publisher fits.incarnation now later fits.rest stores a
        (left (sym parts.0 ∙ of.0) (sym parts.1.0 ∙ of.1)) m k there is
    asked later there left (inr release) =
        release_adds_none (acts later (Release fits.publisher fits.incarnation release.0)) now later fits.publisher
        fits.incarnation release.0 k m
        (ap (λ ops. slice_get (added_all later ops now) k) (sym release.1) ∙ there)

-- ---- no move stores another message of what is awaited

added_or_before : {A : Type 0} (xs ys : List A) (k : ℕ) (y : A) → slice_get (xs ++ ys) k ≡ Some y →
    ((j : ℕ) → slice_get ys j ≡ Some y → ⊥) → slice_get xs k ≡ Some y
added_or_before [] ys k y at none = absurd (none k at)
added_or_before (x ∷ xs) ys zero y at none = at
added_or_before (x ∷ xs) ys (suc k) y at none = added_or_before xs ys k y at none

-- none of these is a message of what a list awaits
abbrev NoneAwaited : ShardList → List StoredMessage → Type 0
NoneAwaited list more =
    (a : Awaited) → HasPlace list.awaited a → (m : StoredMessage) (k : ℕ) → slice_get more k ≡ Some m →
    is_message_of a m ≡ true → ⊥

no_other : (s later : WorldShard) (more : List StoredMessage) → later.ever ≡ s.ever ++ more →
    NoneAwaited s.shard.stored more → StoresNoOther s later
no_other s later more e none a place m has at is =
    added_or_before s.ever more place m (ap (λ ms. slice_get ms place) (sym e) ∙ at)
    (λ j there. none a has m j there is)

module _ (profile : Profile) (config : Config) where
  pending_adds_none : (pending : PendingChange) (list : ShardList) → PendsFitting pending →
      NoneAwaited list (added_by profile config pending list)
  pending_adds_none (AGroup ops now) list fits a has m k at is =
      group_adds_none list ops now fits a has m k
      (ap (λ ms. slice_get ms k) (sym (group_adds list ops now)) ∙ at) is
  pending_adds_none Nothing list fits a has m k at is = none-some m at
  pending_adds_none (ACut now) list fits a has m k at is = none-some m at
  pending_adds_none ADrop list fits a has m k at is = none-some m at

  if_adds_none : (b : Bool) (pending : PendingChange) (list : ShardList) → PendsFitting pending →
      NoneAwaited list (added_if profile config b pending list)
  if_adds_none true pending list fits = pending_adds_none pending list fits
  if_adds_none false pending list fits = λ a has m k at is. none-some m at

  step_adds_none : (move : ShardMove) (s : Shard) → PendsFitting s.pending →
      NoneAwaited s.stored (added_on profile config move s)
  step_adds_none Shards.Store s fits = if_adds_none (if_group s.pending) s.pending s.stored fits
  step_adds_none (Shards.Settle goes_in) s fits = if_adds_none goes_in s.pending s.stored fits
  step_adds_none other s fits = λ a has m k at is. none-some m at

-- while an identifier is awaited no move stores another message of it
pub stores_no_other : (profile : Profile) (w : World) (move : Move) → OfShards GroupFits w →
    OfShardMoves StoresNoOther w (world_step profile w move)
stores_no_other profile w move fits shard s later is_there at = by (shard_goes profile w move shard later at)
  where
    -- what a move says of the shard that stood there it says of this one
    of_it : (t : WorldShard) → HasShard w shard t → StoresNoOther t later → StoresNoOther s later
    of_it t there none = subst (λ t. StoresNoOther t later) (same_Some t s (sym there ∙ is_there)) none

    stays : (t : WorldShard) → later.ever ≡ t.ever → StoresNoOther t later
    stays t same a place m has found is = ap (λ ms. slice_get ms place) (sym same) ∙ found

    by : GoesFrom profile w.config w shard later → StoresNoOther s later
    by (t, (there, Stays same)) = of_it t there (stays t (ap (λ (x : WorldShard). x.ever) same))
    by (t, (there, Moves other same)) =
        of_it t there
        (no_other t later (added_on profile w.config other t.shard) (ap (λ (x : WorldShard). x.ever) same)
        (step_adds_none profile w.config other t.shard (fits shard t there)))
    by (t, (there, Begins worker conn now packets k ask asker has asks asked its same)) =
        of_it t there (stays t (ap (λ (x : WorldShard). x.ever) same))
    by (t, (there, IsLeft worker conn same)) = of_it t there (stays t (ap (λ (x : WorldShard). x.ever) same))
    by (t, (there, Crashes goes_in same)) =
        of_it t there
        (no_other t later (added_if profile w.config goes_in t.shard.pending t.shard.stored)
        (ap (λ (x : WorldShard). x.ever) same)
        (if_adds_none profile w.config goes_in t.shard.pending t.shard.stored (fits shard t there)))

pub opening_group_fits : (config : Config) → OfShards GroupFits (opening_world config)
opening_group_fits config shard s at =
    rw (replicate_from config.shards (record { shard = opening_shard config; asked = None; ever = [] }) shard s at) tt
