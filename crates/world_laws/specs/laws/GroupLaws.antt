-- Each group that pends is of one session, which it does not forget.
use Rattle.std.proofs.Common.{◌≡◌, ◌⊎◌, inl, inr, ℕ, zero, suc, Bool, true, false, not, ◌&&◌, ◌==◌, if◌then◌else◌, List}
use Rattle.std.proofs.Common.{[], ◌∷◌, map, filter, find, take, bytes_eq, slice_get, Option, Some, None, refl, sym, ap}
use Rattle.std.proofs.Common.{◌∙◌}
use Rattle.std.proofs.lemmas.Bool.{true≢false, and_parts, false_from_ne_true}
use Rattle.std.proofs.lemmas.Option.{none-some, same_Some}
use Rattle.topic_model.specs.Places.{HasPlace}
use Rattle.topic_model.specs.Profile.{Profile, Config}
use Rattle.topic_model.specs.Routing.{routed_worker}
use Rattle.shard_model.specs.ShardList.{ShardList, Awaited}
use Rattle.shard_model.specs.Storing.{Release, is_of}
use Rattle.shard_model.specs.Capacity.{may_drop}
use Rattle.shard_model.specs.ShardMoves.{PendingChange, AGroup, ACut, ADrop, Shard, ShardMove, pends_nothing, if_group}
use Rattle.shard_model.specs.ShardMoves.{if_cut, if_drop, may_store, may_rotate, begin_if, land_if, settled_shard}
use Rattle.shard_model.specs.ShardMoves.{show_if}
use Rattle.shard_model.specs.laws.PlaceLaws.{kept_place, any_place, place_taken}
use Rattle.session_model.specs.PlainSession.{PlainSession}
use Rattle.mqtt_packet.specs.declared.packet.AckKind.TheVariants.{Pubrel}
use Rattle.mqtt_packet.specs.Packet.{PlainPacket, Ack, PublishFields, AckFields}
use Rattle.turn_model.specs.PlainConnection.{PlainConnection, bound_session, is_bound_to}
use Rattle.turn_model.specs.Step.{Setting, Ask}
use Rattle.turn_model.specs.PublishStep.{shard_for, is_awaited, is_live_session, is_owed_forget, each_once, forget}
use Rattle.turn_model.specs.PublishStep.{forgets_in, owed_forgets, store_of, publish_group, release_group, are_group}
use Rattle.turn_model.specs.Worker.{Worker, sessions_of, setting_of, connection_in, session_in}
use Rattle.turn_model.specs.WorkerMoves.{Asker, has_view}
use Rattle.world_model.specs.World.{World, WorldShard, Move, shard_moved, begin_group, without_asker, crash_shard}
use Rattle.world_model.specs.World.{world_step, publishes_of, publishes_ask, release_ask, packets_ask, ask_if, ask_with}
use Rattle.world_model.specs.World.{asker_with, at_place, begin_at, begin_by, askers_kept, crash_shards, allows_worker}
use Rattle.world_model.specs.World.{Begin, Store, BeginRotate, Rotate, BeginDrop, Drop, SettleShard, Show, View}
use Rattle.world_model.specs.World.{BeginCommit, Commit, SettleJournal, Emit, Bind, TakeOver, Unbind, Crash}
use Rattle.world_laws.specs.Reached.{HasWorker}
use Rattle.world_laws.specs.Always.{OfShards}
use Rattle.world_laws.specs.laws.GoesLaws.{at_place_from, map_from}
use Rattle.world_laws.specs.laws.OwedLaws.{OwesEnds, StandsIn, ends_only_take}
use Rattle.shard_model.specs.ShardMoves as Shards
use Rattle.turn_model.specs.WorkerMoves as Workers
use Rattle.world_laws.specs.laws.OnceLaws.{AreOfOthers, AreStores, GroupFits, OpsFit, PendsFitting}

-- ---- a group that is begun fits

find_place : {A : Type 0} (test : A → Bool) (xs : List A) (x : A) → find test xs ≡ Some x → HasPlace xs x
find_place test [] x e = absurd (none-some x e)
find_place test (y ∷ xs) x e = by (test y) e (find_place test xs x)
  where
    by : (b : Bool) → (if b then Some y else find test xs) ≡ Some x → (find test xs ≡ Some x → HasPlace xs x) →
        HasPlace (y ∷ xs) x
    by true e rest = (0, e)
    by false e rest = let later = rest e in (suc later.0, later.1)

once_place : (all : List Awaited) (k : ℕ) (a : Awaited) → slice_get (each_once all) k ≡ Some a → HasPlace all a
once_place [] k a at = absurd (none-some a at)
once_place (b ∷ all) zero a at = (0, at)
once_place (b ∷ all) (suc k) a at =
    let kept = kept_place (λ (c : Awaited). not (is_of b.publisher b.incarnation c)) (each_once all) k a at in
    let later = once_place all kept.0.0 a kept.0.1 in
    (suc later.0, later.1)

forgets_of_others : (publisher : List ℕ) (incarnation : ℕ) (all : List Awaited) →
    ((k : ℕ) (a : Awaited) → slice_get all k ≡ Some a →
    (bytes_eq publisher a.publisher && (incarnation == a.incarnation)) ≡ false) →
    AreOfOthers publisher incarnation (map forget all)
forgets_of_others publisher incarnation [] others = tt
forgets_of_others publisher incarnation (a ∷ all) others =
    (others 0 a refl, forgets_of_others publisher incarnation all (λ k. others (suc k)))

-- what is forgotten isn't of a session that is committed
live_stays : (s : Setting) (m : PlainSession) → StandsIn s.committed.list m → (a : Awaited) →
    is_owed_forget s a ≡ true → (bytes_eq m.client a.publisher && (m.incarnation == a.incarnation)) ≡ false
live_stays s m (n, (has, same)) a owed =
    false_from_ne_true (bytes_eq m.client a.publisher && (m.incarnation == a.incarnation)) never
  where
    gone : not (is_live_session s.committed a) ≡ true
    gone = (and_parts (routed_worker a.publisher s.config.workers == s.worker)
        (not (is_live_session s.committed a)) owed).1

    never : (bytes_eq m.client a.publisher && (m.incarnation == a.incarnation)) ≡ true → ⊥
    never is =
        true≢false (sym gone
        ∙ ap not (any_place (λ (n : PlainSession). bytes_eq n.client a.publisher && (n.incarnation == a.incarnation))
        s.committed.list has.0 n has.1
        (ap (λ client. bytes_eq client a.publisher && (n.incarnation == a.incarnation)) same.0
        ∙ ap (λ number. bytes_eq m.client a.publisher && (number == a.incarnation)) same.1
        ∙ is)))

forgets_fit : (s : Setting) (m : PlainSession) → StandsIn s.committed.list m → (list : Option ShardList) →
    AreOfOthers m.client m.incarnation (forgets_in s list)
forgets_fit s m stands None = tt
forgets_fit s m stands (Some list) =
    let gone = filter (is_owed_forget s) list.awaited in
    forgets_of_others m.client m.incarnation (take s.profile.forgets (each_once gone))
    (λ k a at.
    let one = once_place gone k a (place_taken s.profile.forgets (each_once gone) k a at) in
    live_stays s m stands a (kept_place (is_owed_forget s) list.awaited one.0 a one.1).1)

owed_forgets_fit : (s : Setting) (m : PlainSession) → StandsIn s.committed.list m → (shard : ℕ) →
    AreOfOthers m.client m.incarnation (owed_forgets s shard)
owed_forgets_fit s m stands shard = by s.profile.forgets_too
  where
    by : (b : Bool) → AreOfOthers m.client m.incarnation (if b then forgets_in s (slice_get s.seen shard) else [])
    by true = forgets_fit s m stands (slice_get s.seen shard)
    by false = tt

are_stores : (m : PlainSession) (ps : List PublishFields) → AreStores m.client m.incarnation (map (store_of m) ps)
are_stores m [] = tt
are_stores m (p ∷ ps) = (refl, (refl, are_stores m ps))

publishes_fit : (s : Setting) (m : PlainSession) → StandsIn s.committed.list m → (ps : List PublishFields) →
    OpsFit (publish_group s m ps).ops
publishes_fit s m stands ps =
    record {
      publisher = m.client;
      incarnation = m.incarnation;
      forgets = owed_forgets s (shard_for s m);
      rest = map (store_of m) ps;
      are = refl;
      others = owed_forgets_fit s m stands (shard_for s m);
      asks = inl (are_stores m ps);
    }

release_fits : (s : Setting) (m : PlainSession) → StandsIn s.committed.list m → (id : ℕ) →
    OpsFit (release_group s m id).ops
release_fits s m stands id =
    record {
      publisher = m.client;
      incarnation = m.incarnation;
      forgets = owed_forgets s (shard_for s m);
      rest = Release m.client m.incarnation id ∷ [];
      are = refl;
      others = owed_forgets_fit s m stands (shard_for s m);
      asks = inr (id, refl);
    }

-- where something is asked, its operations fit
abbrev AskFits : Option Ask → Type 0
AskFits None = Unit {0}
AskFits (Some ask) = OpsFit ask.ops

publishes_ask_fits : (s : Setting) (k : PlainConnection) (m : PlainSession) → StandsIn s.committed.list m →
    (ps : Option (List PublishFields)) → AskFits (publishes_ask s k m ps)
publishes_ask_fits s k m stands None = tt
publishes_ask_fits s k m stands (Some ps) = by (are_group s k m ps)
  where
    by : (b : Bool) → AskFits (if b then Some (publish_group s m ps) else None)
    by true = publishes_fit s m stands ps
    by false = tt

release_ask_fits : (s : Setting) (m : PlainSession) → StandsIn s.committed.list m → (a : AckFields) →
    AskFits (release_ask s m a)
release_ask_fits s m stands a = by (is_awaited s m a.id)
  where
    by : (b : Bool) → AskFits (if b then Some (release_group s m a.id) else None)
    by true = release_fits s m stands a.id
    by false = tt

packets_ask_fits : (s : Setting) (k : PlainConnection) (m : PlainSession) → StandsIn s.committed.list m →
    (packets : List PlainPacket) → AskFits (packets_ask s k m packets)
packets_ask_fits s k m stands (Ack Pubrel a ∷ []) = release_ask_fits s m stands a
packets_ask_fits s k m stands packets = publishes_ask_fits s k m stands (publishes_of packets)

-- ---- every move keeps that groups fit

-- the session that a connection is bound to is committed, as ends alone are owed
bound_committed : (k : Worker) (conn : ℕ) → OwesEnds k → (m : PlainSession) → session_in k conn ≡ Some m →
    StandsIn k.committed.list m
bound_committed k conn owes m e = by (connection_in k conn) e
  where
    by : (c : Option PlainConnection) → bound_session (sessions_of k) c ≡ Some m → StandsIn k.committed.list m
    by None e = absurd (none-some m e)
    by (Some c) e = ends_only_take k.committed k.owed owes.owed m (find_place (is_bound_to c) (sessions_of k).list m e)

ask_fits : (s : Setting) (k : Worker) (packets : List PlainPacket) (c : Option PlainConnection)
    (m : Option PlainSession) → ((n : PlainSession) → m ≡ Some n → StandsIn s.committed.list n) →
    AskFits (ask_with s k packets c m)
ask_fits s k packets None m stands = tt
ask_fits s k packets (Some c) None stands = tt
ask_fits s k packets (Some c) (Some m) stands = by (has_view s k m)
  where
    by : (b : Bool) → AskFits (ask_if b (packets_ask s c m packets))
    by true = packets_ask_fits s c m (stands m refl) packets
    by false = tt

-- of each of these shards the group that pends fits
abbrev AllFit : List WorldShard → Type 0
AllFit ss = (k : ℕ) (s : WorldShard) → slice_get ss k ≡ Some s → GroupFits s

one_fits : (place : ℕ) (f : WorldShard → WorldShard) → ((s : WorldShard) → GroupFits s → GroupFits (f s)) →
    (ss : List WorldShard) → AllFit ss → AllFit (at_place place f ss)
one_fits place f keeps ss fits k t at = by (at_place_from place f ss k t at)
  where
    by : ((s : WorldShard) × ((slice_get ss k ≡ Some s) × ((t ≡ s) ⊎ ((place ≡ k) × (t ≡ f s))))) → GroupFits t
    by (s, (is_there, inl same)) = rw same (fits k s is_there)
    by (s, (is_there, inr moved)) = rw moved.1 (keeps s (fits k s is_there))

-- a move that begins no group
abbrev begins_none : ShardMove → Bool
begins_none (Shards.Begin ops now) = false
begins_none other = true

module _ (profile : Profile) (config : Config) where
  begun_fits : (b : Bool) (pending : PendingChange) → PendsFitting pending → (s : Shard) → PendsFitting s.pending →
      PendsFitting (begin_if b pending s).pending
  begun_fits true pending new s fits = new
  begun_fits false pending new s fits = fits

  landed_fits : (b : Bool) (s : Shard) → PendsFitting s.pending → PendsFitting (land_if b config s).pending
  landed_fits true s fits = tt
  landed_fits false s fits = fits

  settled_fits : (goes_in : Bool) (s : Shard) → PendsFitting (settled_shard config goes_in s).pending
  settled_fits true s = tt
  settled_fits false s = tt

  shown_fits : (b : Bool) (s : Shard) → PendsFitting s.pending → PendsFitting (show_if b s).pending
  shown_fits true s fits = fits
  shown_fits false s fits = fits

  moved_fits : (move : ShardMove) → begins_none move ≡ true → (s : WorldShard) → GroupFits s →
      GroupFits (shard_moved profile config move s)
  moved_fits (Shards.Begin ops now) none s fits = absurd (true≢false (sym none))
  moved_fits Shards.Store none s fits = landed_fits (if_group s.shard.pending) s.shard fits
  moved_fits (Shards.BeginCut now) none s fits =
      begun_fits (pends_nothing s.shard.pending && may_rotate profile s.shard.stored) (ACut now) tt s.shard fits
  moved_fits Shards.Rotate none s fits = landed_fits (if_cut s.shard.pending) s.shard fits
  moved_fits (Shards.BeginDrop now) none s fits =
      begun_fits (pends_nothing s.shard.pending && may_drop config s.shard.stored now) ADrop tt s.shard fits
  moved_fits Shards.Drop none s fits = landed_fits (if_drop s.shard.pending) s.shard fits
  moved_fits (Shards.Settle goes_in) none s fits = settled_fits goes_in s.shard
  moved_fits Shards.Show none s fits = shown_fits (pends_nothing s.shard.pending) s.shard fits

  crashed_fits : (choices : List Bool) (ss : List WorldShard) → AllFit (crash_shards profile config choices ss)
  crashed_fits choices [] k t at = absurd (none-some t at)
  crashed_fits [] (s ∷ ss) zero t at =
      rw (sym (same_Some (crash_shard profile config false s) t at)) (settled_fits false s.shard)
  crashed_fits [] (s ∷ ss) (suc k) t at = crashed_fits [] ss k t at
  crashed_fits (goes_in ∷ choices) (s ∷ ss) zero t at =
      rw (sym (same_Some (crash_shard profile config goes_in s) t at)) (settled_fits goes_in s.shard)
  crashed_fits (goes_in ∷ choices) (s ∷ ss) (suc k) t at = crashed_fits choices ss k t at

  left_fits : (goes : Bool) (worker conn : ℕ) (ss : List WorldShard) → AllFit ss →
      AllFit (askers_kept profile config goes worker conn ss)
  left_fits false worker conn ss fits = fits
  left_fits true worker conn ss fits = λ k t at. by k t (map_from (without_asker profile config worker conn) ss k t at)
    where
      by : (k : ℕ) (t : WorldShard) →
          ((s : WorldShard) × ((slice_get ss k ≡ Some s) × (t ≡ without_asker profile config worker conn s))) →
          GroupFits t
      by k t (s, (is_there, same)) = rw same (fits k s is_there)

  begun_at_fits : (shard now : ℕ) (ask : Option Ask) → AskFits ask → (asked : Option Asker) (ss : List WorldShard) →
      AllFit ss → AllFit (begin_at profile config shard now ask asked ss)
  begun_at_fits shard now None new asked ss fits = fits
  begun_at_fits shard now (Some ask) new None ss fits = fits
  begun_at_fits shard now (Some ask) new (Some asked) ss fits = by (ask.shard == shard)
    where
      by : (b : Bool) →
          AllFit (if b then at_place shard (begin_group profile config asked ask.ops now) ss else ss)
      by true =
          one_fits shard (begin_group profile config asked ask.ops now)
          (λ s old. begun_fits (pends_nothing s.shard.pending && may_store profile config s.shard.stored ask.ops now)
          (AGroup ask.ops now) new s.shard old) ss fits
      by false = fits

  begun_by_fits : (shard conn : ℕ) (packets : List PlainPacket) (now : ℕ) (found : Option Worker) →
      ((k : Worker) → found ≡ Some k → OwesEnds k) → (ss : List WorldShard) → AllFit ss →
      AllFit (begin_by profile config shard conn packets now found ss)
  begun_by_fits shard conn packets now None owes ss fits = fits
  begun_by_fits shard conn packets now (Some k) owes ss fits =
      let s = setting_of profile config now k in
      begun_at_fits shard now (ask_with s k packets (connection_in k conn) (session_in k conn))
      (ask_fits s k packets (connection_in k conn) (session_in k conn)
      (λ m e. bound_committed k conn (owes k refl) m e))
      (asker_with k.number conn packets (session_in k conn)) ss fits

-- while workers owe ends alone
pub group_fits_goes : (profile : Profile) (w : World) (move : Move) →
    ((worker : ℕ) (k : Worker) → HasWorker w worker k → OwesEnds k) → OfShards GroupFits w →
    OfShards GroupFits (world_step profile w move)
group_fits_goes profile w (Begin place worker conn packets now) owes fits =
    begun_by_fits profile w.config place conn packets now (slice_get w.workers worker) (owes worker) w.shards fits
group_fits_goes profile w (Store place) owes fits =
    one_fits place (shard_moved profile w.config Shards.Store) (moved_fits profile w.config Shards.Store refl) w.shards
    fits
group_fits_goes profile w (BeginRotate place now) owes fits =
    one_fits place (shard_moved profile w.config (Shards.BeginCut now))
    (moved_fits profile w.config (Shards.BeginCut now) refl) w.shards fits
group_fits_goes profile w (Rotate place) owes fits =
    one_fits place (shard_moved profile w.config Shards.Rotate) (moved_fits profile w.config Shards.Rotate refl)
    w.shards fits
group_fits_goes profile w (BeginDrop place now) owes fits =
    one_fits place (shard_moved profile w.config (Shards.BeginDrop now))
    (moved_fits profile w.config (Shards.BeginDrop now) refl) w.shards fits
group_fits_goes profile w (Drop place) owes fits =
    one_fits place (shard_moved profile w.config Shards.Drop) (moved_fits profile w.config Shards.Drop refl) w.shards
    fits
group_fits_goes profile w (SettleShard place goes_in) owes fits =
    one_fits place (shard_moved profile w.config (Shards.Settle goes_in))
    (moved_fits profile w.config (Shards.Settle goes_in) refl) w.shards fits
group_fits_goes profile w (Show place) owes fits =
    one_fits place (shard_moved profile w.config Shards.Show) (moved_fits profile w.config Shards.Show refl) w.shards
    fits
group_fits_goes profile w (View worker place) owes fits = fits
group_fits_goes profile w (BeginCommit worker cause now) owes fits = fits
group_fits_goes profile w (Commit worker) owes fits = fits
group_fits_goes profile w (SettleJournal worker goes_in now) owes fits = fits
group_fits_goes profile w (Emit worker emitted now) owes fits = fits
group_fits_goes profile w (Bind worker conn now) owes fits = fits
group_fits_goes profile w (TakeOver worker conn) owes fits =
    left_fits profile w.config
    (allows_worker profile w.config (Workers.TakeOver conn) (slice_get w.workers worker)) worker conn w.shards fits
group_fits_goes profile w (Unbind worker conn ending now) owes fits =
    left_fits profile w.config
    (allows_worker profile w.config (Workers.Unbind conn ending now) (slice_get w.workers worker)) worker conn w.shards
    fits
group_fits_goes profile w (Crash now of_shards of_workers) owes fits =
    crashed_fits profile w.config of_shards w.shards
