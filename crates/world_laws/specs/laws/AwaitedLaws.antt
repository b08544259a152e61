-- An identifier of QoS 2 is awaited once, and its message is among all that was ever stored, whatever moves are made.
use Rattle.std.proofs.Common.{◌≡◌, ◌⊎◌, inl, inr, ℕ, zero, suc, Bool, true, false, not, ◌&&◌, ◌==◌, if◌then◌else◌, List}
use Rattle.std.proofs.Common.{[], ◌∷◌, ◌++◌, filter, drop, length, replicate, bytes_eq, slice_get, Some, None, refl}
use Rattle.std.proofs.Common.{sym, ap, subst, ◌∙◌, append_assoc, suc-ne-zero, pred}
use Rattle.std.specs.Prelude.{nat_lt}
use Rattle.std.proofs.lemmas.Bool.{true≢false, eqb-true, eq-eqb, and_parts, and_from}
use Rattle.std.proofs.lemmas.List.{append-nil}
use Rattle.std.proofs.lemmas.Option.{none-some, same_Some}
use Rattle.std.proofs.lemmas.Slice.Eq.{bytes_eq-Decides}
use Rattle.std.proofs.Math.Seq.{drop-append_seam}
use Rattle.topic_model.specs.Places.{HasPlace}
use Rattle.topic_model.specs.Profile.{Profile, Config}
use Rattle.topic_model.specs.StoredMessage.{StoredMessage}
use Rattle.shard_model.specs.ShardList.{ShardList, Awaited, next_of}
use Rattle.shard_model.specs.Storing.{Op, Release, Forget, acts, act_if, awaits, is_awaited_as, is_message_of, is_of}
use Rattle.shard_model.specs.Storing.{placed, same_triple, store, triple_of}
use Rattle.shard_model.specs.Capacity.{may_drop}
use Rattle.shard_model.specs.ShardMoves.{PendingChange, Nothing, AGroup, ACut, ADrop, Shard, ShardMove, opening_shard}
use Rattle.shard_model.specs.ShardMoves.{pends_nothing, if_group, if_cut, if_drop, may_store, may_rotate, list_after}
use Rattle.shard_model.specs.ShardMoves.{begin_if, land_if, settled_shard, show_if, shard_step}
use Rattle.shard_model.specs.laws.PlaceLaws.{place_left, place_right, place_either, kept_place, any_place}
use Rattle.world_model.specs.World.{World, WorldShard, Move, added_by, added_if, added_on, shard_moved, begin_group}
use Rattle.world_model.specs.World.{without_asker, crash_shard, world_step, opening_world}
use Rattle.world_laws.specs.StoredLists.{AreAwaited}
use Rattle.world_laws.specs.Always.{OfShards}
use Rattle.world_laws.specs.laws.GoesLaws.{GoesFrom, Stays, Moves, Begins, IsLeft, Crashes, shard_goes}
use Rattle.shard_model.specs.Storing
use Rattle.shard_model.specs.ShardMoves as Shards
use Rattle.world_laws.specs.laws.SeenLaws.{replicate_from}

-- ---- what tests of identifiers say

same_bytes : (xs ys : List ℕ) → bytes_eq xs ys ≡ true → xs ≡ ys
same_bytes xs ys e = (bytes_eq-Decides xs ys).0 e

bytes_same : (xs ys : List ℕ) → xs ≡ ys → bytes_eq xs ys ≡ true
bytes_same xs ys e = (bytes_eq-Decides xs ys).1 e

-- an identifier of this publisher and session
triple_parts : (publisher : List ℕ) (incarnation id : ℕ) (a : Awaited) →
    is_awaited_as publisher incarnation id a ≡ true →
    (a.publisher ≡ publisher) × ((a.incarnation ≡ incarnation) × (a.id ≡ id))
triple_parts publisher incarnation id a e =
    let both = and_parts (is_of publisher incarnation a) (a.id == id) e in
    let of = and_parts (bytes_eq a.publisher publisher) (a.incarnation == incarnation) both.0 in (
      same_bytes a.publisher publisher of.0,
      (eqb-true a.incarnation incarnation of.1, eqb-true a.id id both.1),
    )

pub triple_from : (publisher : List ℕ) (incarnation id : ℕ) (a : Awaited) → a.publisher ≡ publisher →
    a.incarnation ≡ incarnation → a.id ≡ id → is_awaited_as publisher incarnation id a ≡ true
triple_from publisher incarnation id a e f g =
    and_from (is_of publisher incarnation a) (a.id == id)
    (and_from (bytes_eq a.publisher publisher) (a.incarnation == incarnation) (bytes_same a.publisher publisher e)
    (eq-eqb a.incarnation incarnation f))
    (eq-eqb a.id id g)

triple_turned : (a b : Awaited) → same_triple a b ≡ true → same_triple b a ≡ true
triple_turned a b e =
    let parts = triple_parts a.publisher a.incarnation a.id b e in
    triple_from b.publisher b.incarnation b.id a (sym parts.0) (sym parts.1.0) (sym parts.1.1)

-- a message of QoS 2 of an identifier
pub message_parts : (a : Awaited) (m : StoredMessage) → is_message_of a m ≡ true →
    (m.publisher ≡ a.publisher)
    × ((m.incarnation ≡ a.incarnation) × (((m.qos == 2) ≡ true) × (m.id ≡ a.id)))
message_parts a m e =
    let one = and_parts (bytes_eq m.publisher a.publisher)
    ((m.incarnation == a.incarnation) && ((m.qos == 2) && (m.id == a.id))) e in
    let two = and_parts (m.incarnation == a.incarnation) ((m.qos == 2) && (m.id == a.id)) one.1 in
    let three = and_parts (m.qos == 2) (m.id == a.id) two.1 in (
      same_bytes m.publisher a.publisher one.0,
      (eqb-true m.incarnation a.incarnation two.0, (three.0, eqb-true m.id a.id three.1)),
    )

-- ---- what a group adds

-- what one operation adds, if it acts
abbrev pub added_one : Bool → ℕ → ShardList → Op → List StoredMessage
added_one true now list (Storing.Store m) = placed m (next_of list) now ∷ []
added_one true now list other = []
added_one false now list op = []

-- the messages of a group, as they are placed
abbrev pub added_all : ShardList → List Op → ℕ → List StoredMessage
added_all list [] now = []
added_all list (op ∷ ops) now =
    added_one (acts list op) now list op ++ added_all (act_if (acts list op) now list op) ops now

act_messages : (b : Bool) (now : ℕ) (list : ShardList) (op : Op) →
    (act_if b now list op).messages ≡ list.messages ++ added_one b now list op
act_messages true now list (Storing.Store m) = refl
act_messages true now list (Release publisher incarnation id) = sym (append-nil list.messages)
act_messages true now list (Forget publisher incarnation) = sym (append-nil list.messages)
act_messages false now list op = sym (append-nil list.messages)

store_messages : (list : ShardList) (ops : List Op) (now : ℕ) →
    (store list ops now).messages ≡ list.messages ++ added_all list ops now
store_messages list [] now = sym (append-nil list.messages)
store_messages list (op ∷ ops) now =
    let one = act_if (acts list op) now list op in
    store_messages one ops now
    ∙ ap (λ ms. ms ++ added_all one ops now) (act_messages (acts list op) now list op)
    ∙ append_assoc list.messages (added_one (acts list op) now list op) (added_all one ops now)

pub group_adds : (list : ShardList) (ops : List Op) (now : ℕ) →
    drop (length list.messages) (store list ops now).messages ≡ added_all list ops now
group_adds list ops now =
    ap (drop (length list.messages)) (store_messages list ops now)
    ∙ drop-append_seam list.messages (added_all list ops now)

-- ---- each identifier is awaited once

-- none of these is the same identifier
abbrev NoneIs : Awaited → List Awaited → Type 0
NoneIs a others = (b : Awaited) → HasPlace others b → same_triple a b ≡ true → ⊥

-- each identifier stands here once
abbrev EachOnce : List Awaited → Type 0
EachOnce [] = Unit {0}
EachOnce (a ∷ others) = NoneIs a others × EachOnce others

once_at : (all : List Awaited) → EachOnce all → (i j : ℕ) (a b : Awaited) → slice_get all i ≡ Some a →
    slice_get all j ≡ Some b → same_triple a b ≡ true → i ≡ j
once_at [] once i j a b at_i at_j same = absurd (none-some a at_i)
once_at (c ∷ all) once zero zero a b at_i at_j same = refl
once_at (c ∷ all) once zero (suc j) a b at_i at_j same =
    absurd (once.0 b (j, at_j) (ap (λ (x : Awaited). same_triple x b) (same_Some c a at_i) ∙ same))
once_at (c ∷ all) once (suc i) zero a b at_i at_j same =
    absurd (once.0 a (i, at_i)
    (ap (λ (x : Awaited). same_triple x a) (same_Some c b at_j) ∙ triple_turned a b same))
once_at (c ∷ all) once (suc i) (suc j) a b at_i at_j same = ap suc (once_at all once.1 i j a b at_i at_j same)

once_from : (all : List Awaited) →
    ((i j : ℕ) (a b : Awaited) → slice_get all i ≡ Some a → slice_get all j ≡ Some b → same_triple a b ≡ true →
    i ≡ j) → EachOnce all
once_from [] once = tt
once_from (c ∷ all) once = (
  λ b has same. suc-ne-zero has.0 (sym (once 0 (suc has.0) c b refl has.1 same)),
  once_from all (λ i j a b at_i at_j same. ap pred (once (suc i) (suc j) a b at_i at_j same)),
)

once_kept : (test : Awaited → Bool) (all : List Awaited) → EachOnce all → EachOnce (filter test all)
once_kept test [] once = tt
once_kept test (c ∷ all) once = by (test c) (once_kept test all once.1)
  where
    by : (b : Bool) → EachOnce (filter test all) → EachOnce (if b then c ∷ filter test all else filter test all)
    by false rest = rest
    by true rest = (λ b has same. once.0 b (kept_place test all has.0 b has.1).0 same, rest)

once_pushed : (all : List Awaited) (new : Awaited) → EachOnce all → NoneIs new all → EachOnce (all ++ new ∷ [])
once_pushed [] new once none = (λ b has same. absurd (none-some b has.1), tt)
once_pushed (c ∷ all) new once none = (
  λ b has same. by b same (place_either all (new ∷ []) has.0 b has.1),
  once_pushed all new once.1 (λ b has same. none b (suc has.0, has.1) same),
)
  where
    by : (b : Awaited) → same_triple c b ≡ true → HasPlace all b ⊎ HasPlace (new ∷ []) b → ⊥
    by b same (inl has) = once.0 b has same
    by b same (inr (zero, at)) =
        none c (0, refl)
        (triple_turned c new (ap (λ (x : Awaited). same_triple c x) (same_Some new b at) ∙ same))
    by b same (inr (suc k, at)) = absurd (none-some b at)

-- ---- what is awaited has its message

-- a message of it is among these
abbrev HasMessage : List StoredMessage → Awaited → Type 0
HasMessage ever a = (m : StoredMessage) × HasPlace ever m × (is_message_of a m ≡ true)

-- each identifier is awaited once, and has its message among these
record AreAwaitedIn (awaited : List Awaited) (ever : List StoredMessage) : Type 0 where
  once : EachOnce awaited
  stored : (a : Awaited) → HasPlace awaited a → HasMessage ever a

has_more : (ever more : List StoredMessage) (a : Awaited) → HasMessage ever a → HasMessage (ever ++ more) a
has_more ever more a (m, has, is) = (m, place_left ever more has.0 m has.1, is)

awaited_more : (awaited : List Awaited) (ever more : List StoredMessage) → AreAwaitedIn awaited ever →
    AreAwaitedIn awaited (ever ++ more)
awaited_more awaited ever more are =
    record { once = are.once; stored = λ a has. has_more ever more a (are.stored a has) }

filtered_awaited : (test : Awaited → Bool) (awaited : List Awaited) (ever : List StoredMessage) →
    AreAwaitedIn awaited ever → AreAwaitedIn (filter test awaited) ever
filtered_awaited test awaited ever are =
    record {
      once = once_kept test awaited are.once;
      stored = λ a has. are.stored a (kept_place test awaited has.0 a has.1).0;
    }

-- the message that makes an identifier awaited is of it
is_its_own : (m : StoredMessage) (offset now : ℕ) → (m.qos == 2) ≡ true →
    is_message_of (triple_of m) (placed m offset now) ≡ true
is_its_own m offset now two =
    and_from (bytes_eq m.publisher m.publisher)
    ((m.incarnation == m.incarnation) && ((m.qos == 2) && (m.id == m.id)))
    (bytes_same m.publisher m.publisher refl)
    (and_from (m.incarnation == m.incarnation) ((m.qos == 2) && (m.id == m.id))
    (eq-eqb m.incarnation m.incarnation refl)
    (and_from (m.qos == 2) (m.id == m.id) two (eq-eqb m.id m.id refl)))

-- where a Store acts, its identifier isn't awaited yet
new_awaited : (two some : Bool) (now : ℕ) (list : ShardList) (m : StoredMessage) (ever : List StoredMessage) →
    (m.qos == 2) ≡ two → not (two && awaits list m.publisher m.incarnation m.id) ≡ true →
    AreAwaitedIn list.awaited ever →
    AreAwaitedIn (list.awaited ++ (if two && some then triple_of m ∷ [] else []))
    (ever ++ placed m (next_of list) now ∷ [])
new_awaited two some now list m ever is acts are = by two some is acts
  where
    idle : AreAwaitedIn (list.awaited ++ []) (ever ++ placed m (next_of list) now ∷ [])
    idle =
        subst (λ awaited. AreAwaitedIn awaited (ever ++ placed m (next_of list) now ∷ []))
        (sym (append-nil list.awaited)) (awaited_more list.awaited ever (placed m (next_of list) now ∷ []) are)

    its_own : (m.qos == 2) ≡ true → (a : Awaited) → HasPlace list.awaited a ⊎ HasPlace (triple_of m ∷ []) a →
        HasMessage (ever ++ placed m (next_of list) now ∷ []) a
    its_own two a (inl has) = has_more ever (placed m (next_of list) now ∷ []) a (are.stored a has)
    its_own two a (inr (suc k, at)) = absurd (none-some a at)
    its_own two a (inr (zero, at)) = (
      placed m (next_of list) now,
      place_right ever (placed m (next_of list) now ∷ []) 0 (placed m (next_of list) now) refl,
      ap (λ (x : Awaited). is_message_of x (placed m (next_of list) now)) (sym (same_Some (triple_of m) a at))
          ∙ is_its_own m (next_of list) now two,
    )

    by : (two some : Bool) → (m.qos == 2) ≡ two → not (two && awaits list m.publisher m.incarnation m.id) ≡ true →
        AreAwaitedIn (list.awaited ++ (if two && some then triple_of m ∷ [] else []))
        (ever ++ placed m (next_of list) now ∷ [])
    by false some is acts = idle
    by true false is acts = idle
    by true true is acts =
        record {
          once = once_pushed list.awaited (triple_of m) are.once
              (λ b has same. absurd (true≢false (sym acts
              ∙ ap not (any_place (is_awaited_as m.publisher m.incarnation m.id) list.awaited has.0 b has.1 same))));
          stored = λ a has. its_own is a (place_either list.awaited (triple_of m ∷ []) has.0 a has.1);
        }

act_awaited : (b : Bool) (now : ℕ) (list : ShardList) (op : Op) (ever : List StoredMessage) → acts list op ≡ b →
    AreAwaitedIn list.awaited ever →
    AreAwaitedIn (act_if b now list op).awaited (ever ++ added_one b now list op)
act_awaited false now list op ever e are = awaited_more list.awaited ever [] are
act_awaited true now list (Storing.Store m) ever e are =
    new_awaited (m.qos == 2) (nat_lt 0 m.id) now list m ever refl e are
act_awaited true now list (Release publisher incarnation id) ever e are =
    awaited_more (filter (λ a. not (is_awaited_as publisher incarnation id a)) list.awaited) ever []
    (filtered_awaited (λ a. not (is_awaited_as publisher incarnation id a)) list.awaited ever are)
act_awaited true now list (Forget publisher incarnation) ever e are =
    awaited_more (filter (λ a. not (is_of publisher incarnation a)) list.awaited) ever []
    (filtered_awaited (λ a. not (is_of publisher incarnation a)) list.awaited ever are)

-- a group, whatever it is, leaves each identifier awaited once, with its message
store_awaited : (list : ShardList) (ops : List Op) (now : ℕ) (ever : List StoredMessage) →
    AreAwaitedIn list.awaited ever → AreAwaitedIn (store list ops now).awaited (ever ++ added_all list ops now)
store_awaited list [] now ever are = awaited_more list.awaited ever [] are
store_awaited list (op ∷ ops) now ever are =
    let b = acts list op in
    let one = act_if b now list op in
    subst (AreAwaitedIn (store one ops now).awaited)
    (append_assoc ever (added_one b now list op) (added_all one ops now))
    (store_awaited one ops now (ever ++ added_one b now list op) (act_awaited b now list op ever refl are))

-- ---- what pends goes in

-- what a shard awaits, each once and with its message among these
abbrev AwaitedWith : Shard → List StoredMessage → Type 0
AwaitedWith s ever = AreAwaitedIn s.stored.awaited ever

cut_is_none : (pending : PendingChange) → if_cut pending ≡ true → if_group pending ≡ false
cut_is_none (ACut now) e = refl
cut_is_none Nothing e = refl
cut_is_none ADrop e = refl
cut_is_none (AGroup ops now) e = sym e

drop_is_none : (pending : PendingChange) → if_drop pending ≡ true → if_group pending ≡ false
drop_is_none ADrop e = refl
drop_is_none Nothing e = refl
drop_is_none (ACut now) e = refl
drop_is_none (AGroup ops now) e = sym e

module _ (profile : Profile) (config : Config) where
  landed_awaited : (pending : PendingChange) (list : ShardList) (ever : List StoredMessage) →
      AreAwaitedIn list.awaited ever →
      AreAwaitedIn (list_after config pending list).awaited (ever ++ added_by profile config pending list)
  landed_awaited Nothing list ever are = awaited_more list.awaited ever [] are
  landed_awaited (AGroup ops now) list ever are =
      subst (λ more. AreAwaitedIn (store list ops now).awaited (ever ++ more)) (sym (group_adds list ops now))
      (store_awaited list ops now ever are)
  landed_awaited (ACut now) list ever are = awaited_more list.awaited ever [] are
  landed_awaited ADrop list ever are = awaited_more list.awaited ever [] are

  begun_awaited : (b : Bool) (pending : PendingChange) (s : Shard) (ever : List StoredMessage) → AwaitedWith s ever →
      AwaitedWith (begin_if b pending s) (ever ++ [])
  begun_awaited true pending s ever are = awaited_more s.stored.awaited ever [] are
  begun_awaited false pending s ever are = awaited_more s.stored.awaited ever [] are

  stored_awaited : (b : Bool) (s : Shard) (ever : List StoredMessage) → AwaitedWith s ever →
      AwaitedWith (land_if b config s) (ever ++ added_if profile config b s.pending s.stored)
  stored_awaited true s ever are = landed_awaited s.pending s.stored ever are
  stored_awaited false s ever are = awaited_more s.stored.awaited ever [] are

  -- where no group pends, what goes in adds nothing
  others_awaited : (b : Bool) (s : Shard) (ever : List StoredMessage) →
      (b ≡ true → added_by profile config s.pending s.stored ≡ []) → AwaitedWith s ever →
      AwaitedWith (land_if b config s) (ever ++ [])
  others_awaited true s ever none are =
      subst (λ more. AreAwaitedIn (list_after config s.pending s.stored).awaited (ever ++ more)) (none refl)
      (landed_awaited s.pending s.stored ever are)
  others_awaited false s ever none are = awaited_more s.stored.awaited ever [] are

  -- nothing but a group adds messages
  others_add_none : (pending : PendingChange) (list : ShardList) → if_group pending ≡ false →
      added_by profile config pending list ≡ []
  others_add_none (AGroup ops now) list e = absurd (true≢false e)
  others_add_none Nothing list e = refl
  others_add_none (ACut now) list e = refl
  others_add_none ADrop list e = refl

  settled_awaited : (goes_in : Bool) (s : Shard) (ever : List StoredMessage) → AwaitedWith s ever →
      AwaitedWith (settled_shard config goes_in s) (ever ++ added_if profile config goes_in s.pending s.stored)
  settled_awaited true s ever are = landed_awaited s.pending s.stored ever are
  settled_awaited false s ever are = awaited_more s.stored.awaited ever [] are

  shown_awaited : (b : Bool) (s : Shard) (ever : List StoredMessage) → AwaitedWith s ever →
      AwaitedWith (show_if b s) (ever ++ [])
  shown_awaited true s ever are = awaited_more s.stored.awaited ever [] are
  shown_awaited false s ever are = awaited_more s.stored.awaited ever [] are

  step_awaited : (move : ShardMove) (s : Shard) (ever : List StoredMessage) → AwaitedWith s ever →
      AwaitedWith (shard_step profile config s move) (ever ++ added_on profile config move s)
  step_awaited (Shards.Begin ops now) s ever are =
      begun_awaited (pends_nothing s.pending && may_store profile config s.stored ops now) (AGroup ops now) s ever are
  step_awaited Shards.Store s ever are = stored_awaited (if_group s.pending) s ever are
  step_awaited (Shards.BeginCut now) s ever are =
      begun_awaited (pends_nothing s.pending && may_rotate profile s.stored) (ACut now) s ever are
  step_awaited Shards.Rotate s ever are =
      others_awaited (if_cut s.pending) s ever (λ e. others_add_none s.pending s.stored (cut_is_none s.pending e)) are
  step_awaited (Shards.BeginDrop now) s ever are =
      begun_awaited (pends_nothing s.pending && may_drop config s.stored now) ADrop s ever are
  step_awaited Shards.Drop s ever are =
      others_awaited (if_drop s.pending) s ever (λ e. others_add_none s.pending s.stored (drop_is_none s.pending e)) are
  step_awaited (Shards.Settle goes_in) s ever are = settled_awaited goes_in s ever are
  step_awaited Shards.Show s ever are = shown_awaited (pends_nothing s.pending) s ever are

  -- a group that is begun changes neither
  group_awaited : (b : Bool) (ops : List Op) (now : ℕ) (s : WorldShard) →
      AwaitedWith s.shard s.ever → AwaitedWith (begin_if b (AGroup ops now) s.shard) s.ever
  group_awaited true ops now s are = are
  group_awaited false ops now s are = are

awaited_of : (s : WorldShard) → AreAwaited s → AwaitedWith s.shard s.ever
awaited_of s are = record { once = once_from s.shard.stored.awaited are.once; stored = are.stored }

awaited_again : (s : WorldShard) → AwaitedWith s.shard s.ever → AreAwaited s
awaited_again s are = record { once = once_at s.shard.stored.awaited are.once; stored = are.stored }

-- A move, whatever it is, leaves each identifier awaited once, with its message. Whether groups fit doesn't matter: a
-- Store of QoS 2 acts only where its identifier isn't awaited, and all that was stored only grows.
pub awaited_goes : (profile : Profile) (w : World) (move : Move) → OfShards AreAwaited w →
    OfShards AreAwaited (world_step profile w move)
awaited_goes profile w move all shard t at = by (shard_goes profile w move shard t at)
  where
    by : GoesFrom profile w.config w shard t → AreAwaited t
    by (s, (is_there, Stays same)) = rw same (all shard s is_there)
    by (s, (is_there, Moves other same)) =
        rw same
        (awaited_again (shard_moved profile w.config other s)
        (step_awaited profile w.config other s.shard s.ever (awaited_of s (all shard s is_there))))
    by (s, (is_there, Begins worker conn now packets k ask asker has asks asked its same)) =
        rw same
        (awaited_again (begin_group profile w.config asker ask.ops now s)
        (group_awaited profile w.config
        (pends_nothing s.shard.pending && may_store profile w.config s.shard.stored ask.ops now) ask.ops now s
        (awaited_of s (all shard s is_there))))
    by (s, (is_there, IsLeft worker conn same)) =
        rw same
        (awaited_again (without_asker profile w.config worker conn s) (awaited_of s (all shard s is_there)))
    by (s, (is_there, Crashes goes_in same)) =
        rw same
        (awaited_again (crash_shard profile w.config goes_in s)
        (settled_awaited profile w.config goes_in s.shard s.ever (awaited_of s (all shard s is_there))))

pub opening_awaited : (config : Config) → OfShards AreAwaited (opening_world config)
opening_awaited config shard s at =
    rw (replicate_from config.shards (record { shard = opening_shard config; asked = None; ever = [] }) shard s at)
    (record {
      once = λ i j a b at_i at_j same. absurd (none-some a at_i);
      stored = λ a has. absurd (none-some a has.1);
    })
