-- Lists grow, whatever moves are made: each shard is in order, and each worker has seen a list of each shard, from
-- which what is shown has grown.
use Rattle.std.proofs.Common.{◌≡◌, ◌⊎◌, inl, inr, ℕ, zero, suc, ◌+◌, Bool, true, false, List, [], ◌∷◌, ◌++◌, map}
use Rattle.std.proofs.Common.{length}
use Rattle.std.proofs.Common.{replicate, filter, find, slice_get, slice_set, Option, Some, None, refl, sym, ap, subst}
use Rattle.std.proofs.Common.{◌∙◌}
use Rattle.std.specs.Prelude.{◌==◌, if◌then◌else◌}
use Rattle.std.proofs.lemmas.List.{length-map, length-replicate}
use Rattle.std.proofs.lemmas.Option.{none-some, same_Some}
use Rattle.topic_model.specs.Profile.{Profile, Config}
use Rattle.topic_model.specs.StoredMessage.{StoredMessage}
use Rattle.shard_model.specs.ShardList.{ShardList, opening_list}
use Rattle.shard_model.specs.Growing.{HasGrown}
use Rattle.shard_model.specs.Lists.{IsList}
use Rattle.shard_model.specs.Shards.{IsShard, is_show}
use Rattle.shard_model.specs.ShardMoves.{Shard, ShardMove, pends_nothing, opening_shard, show_if, shard_step}
use Rattle.shard_model.specs.ShardMoves.{crashed_shard}
use Rattle.shard_model.specs.ShardMoves as Shards
use Rattle.shard_model.specs.SweepOrder.{counted_from}
use Rattle.shard_model.specs.laws.ListLaws.{grown_then, opening_in_order}
use Rattle.shard_model.specs.laws.MoveLaws.{grown_itself, step_in_order, opening_shard_in_order, crashed_in_order}
use Rattle.shard_model.specs.laws.MoveLaws.{only_show_shows, crash_grows}
use Rattle.session_model.specs.PlainSession.{PlainSession}
use Rattle.turn_model.specs.PlainConnection.{PlainConnection, connection_of}
use Rattle.turn_model.specs.Resend.{Resent}
use Rattle.mqtt_packet.specs.Packet.{PlainPacket}
use Rattle.turn_model.specs.Step.{Step, Ask}
use Rattle.turn_model.specs.Worker.{Worker, Item, Answer, Answers, Accepts, Delivers, PendingRecord, opening_worker}
use Rattle.turn_model.specs.Worker.{setting_of, connection_in, session_in}
use Rattle.turn_model.specs.Records.{record_of, begun_unless, partings_owed, with_record, handed_on, record_committed}
use Rattle.turn_model.specs.Records.{moment_left, record_resolved, may_settle, record_settled, accepts_on, session_at}
use Rattle.turn_model.specs.WorkerMoves.{WorkerMove, Asker, Ending, has_asked, stored_if, item_at, item_emitted}
use Rattle.turn_model.specs.WorkerMoves.{emitted_if}
use Rattle.turn_model.specs.WorkerMoves.{answered_step, step_emitted, resent_for, resend_emitted, bound_with}
use Rattle.turn_model.specs.WorkerMoves.{bound_answer}
use Rattle.turn_model.specs.WorkerMoves.{bound_if, accept_dropped, has_connect, unbound_if, unbound_from, may_take_over}
use Rattle.turn_model.specs.WorkerMoves.{taken_over_if, worker_step, crashed_worker}
use Rattle.turn_model.specs.WorkerMoves as Workers
use Rattle.world_model.specs.World.{World, WorldShard, Move, Begin, Store, BeginRotate, Rotate, BeginDrop, Drop}
use Rattle.world_model.specs.World.{SettleShard, Show, View, BeginCommit, Commit, SettleJournal, Emit, Bind, TakeOver}
use Rattle.world_model.specs.World.{Unbind, Crash, at_place, ask_with, asker_with, shard_moved, begin_group, begin_at}
use Rattle.world_model.specs.World.{begin_by, messages_in, without_asker, askers_kept, allows_worker, crash_shards}
use Rattle.world_model.specs.World.{opening_world, shown_lists, world_step}
use Rattle.world_laws.specs.Reached.{HasShard, HasWorker}
use Rattle.world_laws.specs.StoredLists.{AreGrown}
use Rattle.world_laws.specs.laws.GoesLaws.{ShardGoes, Stays, Moves, Begins, IsLeft, Crashes, GoesFrom, WorkerGoes}
use Rattle.world_laws.specs.laws.GoesLaws.{KStays, KMoves, KViews, KIsHanded, KCrashes, WorkerGoesFrom, is_of_itself}
use Rattle.world_laws.specs.laws.GoesLaws.{map_from, shard_goes, worker_goes}

-- ---- lists of lists

pub set_from : {A : Type 0} (xs : List A) (place : ℕ) (v : A) (k : ℕ) (y : A) →
    slice_get (slice_set xs place v) k ≡ Some y → ((place ≡ k) × (y ≡ v)) ⊎ (slice_get xs k ≡ Some y)
set_from [] place v k y e = inr e
set_from (x ∷ xs) zero v zero y e = inl (refl, sym (same_Some v y e))
set_from (x ∷ xs) zero v (suc k) y e = inr e
set_from (x ∷ xs) (suc place) v zero y e = inr e
set_from (x ∷ xs) (suc place) v (suc k) y e = further (set_from xs place v k y e)
  where
    further : (((place ≡ k) × (y ≡ v)) ⊎ (slice_get xs k ≡ Some y)) →
        ((suc place ≡ suc k) × (y ≡ v)) ⊎ (slice_get xs k ≡ Some y)
    further (inl set) = inl (ap suc set.0, set.1)
    further (inr kept) = inr kept

set_length : {A : Type 0} (xs : List A) (place : ℕ) (v : A) → length (slice_set xs place v) ≡ length xs
set_length [] place v = refl
set_length (x ∷ xs) zero v = refl
set_length (x ∷ xs) (suc place) v = ap suc (set_length xs place v)

pub replicate_from : {A : Type 0} (n : ℕ) (x : A) (k : ℕ) (y : A) → slice_get (replicate n x) k ≡ Some y → y ≡ x
replicate_from zero x k y e = absurd (none-some y e)
replicate_from (suc n) x zero y e = sym (same_Some x y e)
replicate_from (suc n) x (suc k) y e = replicate_from n x k y e

-- ---- a shard

shard_in_order : (profile : Profile) (config : Config) (w : World) (shard : ℕ) (s t : WorldShard) → IsShard s.shard →
    ShardGoes profile config w shard s t → IsShard t.shard
shard_in_order profile config w shard s t is (Stays same) = subst (λ (x : WorldShard). IsShard x.shard) (sym same) is
shard_in_order profile config w shard s t is (Moves move same) =
    subst (λ (x : WorldShard). IsShard x.shard) (sym same) (step_in_order profile config s.shard move is)
shard_in_order profile config w shard s t is (Begins worker conn now packets k ask asker at asks asked of_it same) =
    subst (λ (x : WorldShard). IsShard x.shard) (sym same)
    (step_in_order profile config s.shard (Shards.Begin ask.ops now) is)
shard_in_order profile config w shard s t is (IsLeft worker conn same) =
    subst (λ (x : WorldShard). IsShard x.shard) (sym same) is
shard_in_order profile config w shard s t is (Crashes goes_in same) =
    subst (λ (x : WorldShard). IsShard x.shard) (sym same) (crashed_in_order config goes_in s.shard is)

-- what is shown only grows
show_grows : (b : Bool) (s : Shard) → IsShard s → HasGrown s.shown (show_if b s).shown
show_grows true s is = is.grown
show_grows false s is = grown_itself s.shown is.shown

not_shown : (profile : Profile) (config : Config) (s : Shard) (move : ShardMove) → IsShard s → is_show move ≡ false →
    HasGrown s.shown (shard_step profile config s move).shown
not_shown profile config s move is other =
    subst (λ (list : ShardList). HasGrown s.shown list) (sym (only_show_shows profile config s move other))
    (grown_itself s.shown is.shown)

step_shown : (profile : Profile) (config : Config) (s : Shard) (move : ShardMove) → IsShard s →
    HasGrown s.shown (shard_step profile config s move).shown
step_shown profile config s (Shards.Begin ops now) is = not_shown profile config s (Shards.Begin ops now) is refl
step_shown profile config s Shards.Store is = not_shown profile config s Shards.Store is refl
step_shown profile config s (Shards.BeginCut now) is = not_shown profile config s (Shards.BeginCut now) is refl
step_shown profile config s Shards.Rotate is = not_shown profile config s Shards.Rotate is refl
step_shown profile config s (Shards.BeginDrop now) is = not_shown profile config s (Shards.BeginDrop now) is refl
step_shown profile config s Shards.Drop is = not_shown profile config s Shards.Drop is refl
step_shown profile config s (Shards.Settle goes_in) is = not_shown profile config s (Shards.Settle goes_in) is refl
step_shown profile config s Shards.Show is = show_grows (pends_nothing s.pending) s is

shown_goes : (profile : Profile) (config : Config) (w : World) (shard : ℕ) (s t : WorldShard) → IsShard s.shard →
    ShardGoes profile config w shard s t → HasGrown s.shard.shown t.shard.shown
shown_goes profile config w shard s t is (Stays same) =
    subst (λ (x : WorldShard). HasGrown s.shard.shown x.shard.shown) (sym same) (grown_itself s.shard.shown is.shown)
shown_goes profile config w shard s t is (Moves move same) =
    subst (λ (x : WorldShard). HasGrown s.shard.shown x.shard.shown) (sym same)
    (step_shown profile config s.shard move is)
shown_goes profile config w shard s t is (Begins worker conn now packets k ask asker at asks asked of_it same) =
    subst (λ (x : WorldShard). HasGrown s.shard.shown x.shard.shown) (sym same)
    (step_shown profile config s.shard (Shards.Begin ask.ops now) is)
shown_goes profile config w shard s t is (IsLeft worker conn same) =
    subst (λ (x : WorldShard). HasGrown s.shard.shown x.shard.shown) (sym same) (grown_itself s.shard.shown is.shown)
shown_goes profile config w shard s t is (Crashes goes_in same) =
    subst (λ (x : WorldShard). HasGrown s.shard.shown x.shard.shown) (sym same)
    (grown_then s.shard.shown s.shard.stored (crashed_shard config goes_in s.shard).stored is.stored
    (crashed_in_order config goes_in s.shard is).stored is.grown (crash_grows config goes_in s.shard is.stored))

-- ---- a worker: what it has seen changes by View alone

begun_seen : (pending asked : Option PendingRecord) (k : Worker) → (begun_unless pending asked k).seen ≡ k.seen
begun_seen None (Some p) k = refl
begun_seen None None k = refl
begun_seen (Some p) asked k = refl

handed_seen : (i : Option Item) (k : Worker) → (handed_on i k).seen ≡ k.seen
handed_seen None k = refl
handed_seen (Some i) k = refl

partings_seen : (left : Option ℕ) (p : PendingRecord) (k : Worker) → (partings_owed left p k).seen ≡ k.seen
partings_seen None p k = refl
partings_seen (Some moment) p k = refl

committed_seen : (pending : Option PendingRecord) (k : Worker) → (record_committed pending k).seen ≡ k.seen
committed_seen None k = refl
committed_seen (Some p) k =
    handed_seen p.item (partings_owed p.left p (with_record p k)) ∙ partings_seen p.left p (with_record p k)

resolved_seen : (goes_in : Bool) (now : ℕ) (pending : Option PendingRecord) (k : Worker) →
    (record_resolved goes_in now pending k).seen ≡ k.seen
resolved_seen goes_in now None k = refl
resolved_seen true now (Some p) k = partings_seen (moment_left now p.left) p (with_record p k)
resolved_seen false now (Some p) k = refl

settled_seen : (b goes_in : Bool) (now : ℕ) (k : Worker) → (record_settled b goes_in now k).seen ≡ k.seen
settled_seen true goes_in now k = resolved_seen goes_in now k.pending k
settled_seen false goes_in now k = refl

pub stored_seen : (b : Bool) (shard : ℕ) (a : Asker) (messages : List (Option StoredMessage)) (k : Worker) →
    (stored_if b shard a messages k).seen ≡ k.seen
stored_seen true shard a messages k = refl
stored_seen false shard a messages k = refl

item_seen : (place now : ℕ) (i : Item) (c : Option PlainConnection) (k : Worker) →
    (item_emitted place now i c k).seen ≡ k.seen
item_seen place now i None k = refl
item_seen place now i (Some c) k = refl

emitted_seen : (place now : ℕ) (i : Option Item) (k : Worker) → (emitted_if place now i k).seen ≡ k.seen
emitted_seen place now None k = refl
emitted_seen place now (Some i) k = item_seen place now i (connection_in k i.connection) k

step_seen : (conn now : ℕ) (step : Option Step) (k : Worker) → (step_emitted conn now step k).seen ≡ k.seen
step_seen conn now None k = refl
step_seen conn now (Some step) k = refl

resend_seen : (conn : ℕ) (c : Option PlainConnection) (r : Option Resent) (k : Worker) →
    (resend_emitted conn c r k).seen ≡ k.seen
resend_seen conn (Some c) (Some r) k = refl
resend_seen conn (Some c) None k = refl
resend_seen conn None (Some r) k = refl
resend_seen conn None None k = refl

module _ (conn now : ℕ) where
  bound_with_seen : (c : _) (other : Option PlainConnection) (m : Option PlainSession) (k : Worker) →
      (bound_with conn c now other m k).seen ≡ k.seen
  bound_with_seen c None (Some m) k = refl
  bound_with_seen c None None k = refl
  bound_with_seen c (Some other) (Some m) k = refl
  bound_with_seen c (Some other) None k = refl

  bound_answer_seen : (answer : Answer) (k : Worker) → (bound_answer conn now answer k).seen ≡ k.seen
  bound_answer_seen (Answers rs effects) k = refl
  bound_answer_seen (Accepts c client number rs) k =
      bound_with_seen c (connection_of client k.connections) (session_at client number k) k
  bound_answer_seen (Delivers b moment fresh) k = refl

  bound_seen : (p : Option PendingRecord) (i : Option Item) (c : Option PlainConnection) (k : Worker) →
      (bound_if conn now p i c k).seen ≡ k.seen
  bound_seen None (Some i) None k = bound_answer_seen i.answer k
  bound_seen None (Some i) (Some c) k = refl
  bound_seen None None None k = refl
  bound_seen None None (Some c) k = refl
  bound_seen (Some p) (Some i) None k = refl
  bound_seen (Some p) (Some i) (Some c) k = refl
  bound_seen (Some p) None None k = refl
  bound_seen (Some p) None (Some c) k = refl

  dropped_answer_seen : (answer : Answer) (i : Item) (k : Worker) → i.answer ≡ answer →
      (accept_dropped conn now (Some i) k).seen ≡ k.seen
  dropped_answer_seen (Answers rs effects) i k e = rw e refl
  dropped_answer_seen (Accepts c client number rs) i k e = rw e refl
  dropped_answer_seen (Delivers b moment fresh) i k e = rw e refl

  dropped_seen : (i : Option Item) (k : Worker) → (accept_dropped conn now i k).seen ≡ k.seen
  dropped_seen None k = refl
  dropped_seen (Some i) k = dropped_answer_seen i.answer i k refl

  unbound_if_seen : (b : Bool) (k : Worker) → (unbound_if b conn now k).seen ≡ k.seen
  unbound_if_seen true k = dropped_seen (find (accepts_on conn) k.due) k
  unbound_if_seen false k = refl

  unbound_seen : (ending : Ending) (c : Option PlainConnection) (k : Worker) →
      (unbound_from conn ending now c k).seen ≡ k.seen
  unbound_seen ending None k = unbound_if_seen (has_connect conn k) k
  unbound_seen ending (Some c) k = refl

  taken_over_seen : (b : Bool) (k : Worker) → (taken_over_if b conn k).seen ≡ k.seen
  taken_over_seen true k = refl
  taken_over_seen false k = refl

pub seen_stays : (profile : Profile) (config : Config) (k : Worker) (move : WorkerMove) → is_of_itself move ≡ true →
    (worker_step profile config k move).seen ≡ k.seen
seen_stays profile config k (Workers.View shard list) own = cc
seen_stays profile config k (Workers.BeginCommit cause now) own =
    begun_seen k.pending (record_of (setting_of profile config now k) k cause) k
seen_stays profile config k Workers.Commit own = committed_seen k.pending k
seen_stays profile config k (Workers.Settle goes_in now) own = settled_seen (may_settle k k.pending) goes_in now k
seen_stays profile config k (Workers.Stored shard a messages) own = cc
seen_stays profile config k (Workers.Emit (Workers.OfItem place) now) own = emitted_seen place now (item_at k place) k
seen_stays profile config k (Workers.Emit (Workers.OfPacket conn packet outcomes) now) own =
    step_seen conn now
    (answered_step (setting_of profile config now k) k packet outcomes (connection_in k conn) (session_in k conn)) k
seen_stays profile config k (Workers.Emit (Workers.OfResend conn) now) own =
    resend_seen conn (connection_in k conn)
    (resent_for profile now k (connection_in k conn) (session_in k conn)) k
seen_stays profile config k (Workers.Bind conn now) own =
    bound_seen conn now k.pending (find (accepts_on conn) k.due) (connection_in k conn) k
seen_stays profile config k (Workers.TakeOver conn) own =
    taken_over_seen conn 0 (may_take_over k conn (connection_in k conn)) k
seen_stays profile config k (Workers.Unbind conn ending now) own =
    unbound_seen conn now ending (connection_in k conn) k

-- ---- how many there are

at_place_length : {A : Type 0} (place : ℕ) (f : A → A) (xs : List A) → length (at_place place f xs) ≡ length xs
at_place_length place f [] = refl
at_place_length zero f (x ∷ xs) = refl
at_place_length (suc place) f (x ∷ xs) = ap suc (at_place_length place f xs)

begin_length : (profile : Profile) (config : Config) (shard now : ℕ) (ask : Option Ask) (asker : Option Asker)
    (ss : List WorldShard) → length (begin_at profile config shard now ask asker ss) ≡ length ss
begin_length profile config shard now None asker ss = refl
begin_length profile config shard now (Some ask) None ss = refl
begin_length profile config shard now (Some ask) (Some asker) ss = by (ask.shard == shard)
  where
    by : (b : Bool) → length
        (if b then at_place shard (begin_group profile config asker ask.ops now) ss else ss) ≡ length ss
    by true = at_place_length shard (begin_group profile config asker ask.ops now) ss
    by false = refl

begin_by_length : (profile : Profile) (config : Config) (shard conn now : ℕ) (packets : List PlainPacket)
    (k : Option Worker) (ss : List WorldShard) → length (begin_by profile config shard conn packets now k ss)
    ≡ length ss
begin_by_length profile config shard conn now packets None ss = refl
begin_by_length profile config shard conn now packets (Some k) ss =
    begin_length profile config shard now
    (ask_with (setting_of profile config now k) k packets (connection_in k conn) (session_in k conn))
    (asker_with k.number conn packets (session_in k conn)) ss

left_length : (profile : Profile) (config : Config) (b : Bool) (worker conn : ℕ) (ss : List WorldShard) →
    length (askers_kept profile config b worker conn ss) ≡ length ss
left_length profile config true worker conn ss = length-map ss (without_asker profile config worker conn)
left_length profile config false worker conn ss = refl

crash_length : (profile : Profile) (config : Config) (choices : List Bool) (ss : List WorldShard) →
    length (crash_shards profile config choices ss) ≡ length ss
crash_length profile config choices [] = refl
crash_length profile config [] (s ∷ ss) = ap suc (crash_length profile config [] ss)
crash_length profile config (goes_in ∷ choices) (s ∷ ss) = ap suc (crash_length profile config choices ss)

pub as_many_shards : (profile : Profile) (w : World) (move : Move) →
    length (world_step profile w move).shards ≡ length w.shards
as_many_shards profile w (Begin shard worker conn packets now) =
    begin_by_length profile w.config shard conn now packets (slice_get w.workers worker) w.shards
as_many_shards profile w (Store shard) =
    at_place_length shard (shard_moved profile w.config Shards.Store) w.shards
as_many_shards profile w (BeginRotate shard now) =
    at_place_length shard (shard_moved profile w.config (Shards.BeginCut now)) w.shards
as_many_shards profile w (Rotate shard) = at_place_length shard (shard_moved profile w.config Shards.Rotate) w.shards
as_many_shards profile w (BeginDrop shard now) =
    at_place_length shard (shard_moved profile w.config (Shards.BeginDrop now)) w.shards
as_many_shards profile w (Drop shard) = at_place_length shard (shard_moved profile w.config Shards.Drop) w.shards
as_many_shards profile w (SettleShard shard goes_in) =
    at_place_length shard (shard_moved profile w.config (Shards.Settle goes_in)) w.shards
as_many_shards profile w (Show shard) = at_place_length shard (shard_moved profile w.config Shards.Show) w.shards
as_many_shards profile w (View worker shard) = refl
as_many_shards profile w (BeginCommit worker cause now) = refl
as_many_shards profile w (Commit worker) = refl
as_many_shards profile w (SettleJournal worker goes_in now) = refl
as_many_shards profile w (Emit worker emitted now) = refl
as_many_shards profile w (Bind worker conn now) = refl
as_many_shards profile w (TakeOver worker conn) =
    left_length profile w.config (allows_worker profile w.config (Workers.TakeOver conn) (slice_get w.workers worker))
    worker conn w.shards
as_many_shards profile w (Unbind worker conn ending now) =
    left_length profile w.config
    (allows_worker profile w.config (Workers.Unbind conn ending now) (slice_get w.workers worker)) worker conn w.shards
as_many_shards profile w (Crash now of_shards of_workers) = crash_length profile w.config of_shards w.shards

-- ---- all together

module _ (profile : Profile) (w : World) (move : Move) (grown : AreGrown w) where
  abbrev next : World
  next = world_step profile w move

  shards_go : (shard : ℕ) (t : WorldShard) → HasShard next shard t → IsShard t.shard
  shards_go shard t at = by (shard_goes profile w move shard t at)
    where
      by : GoesFrom profile w.config w shard t → IsShard t.shard
      by (s, (is_there, goes)) =
          shard_in_order profile w.config w shard s t (grown.shards shard s is_there) goes

  -- a worker has seen as many lists as there are shards
  many_goes : (worker : ℕ) (k l : Worker) → HasWorker w worker k → WorkerGoes profile w.config w next worker k l →
      length l.seen ≡ length next.shards
  many_goes worker k l at (KStays same) =
      ap (λ (x : Worker). length x.seen) same ∙ grown.many worker k at ∙ sym (as_many_shards profile w move)
  many_goes worker k l at (KMoves step own same) =
      ap (λ (x : Worker). length x.seen) same
      ∙ ap (λ (seen : List ShardList). length seen) (seen_stays profile w.config k step own)
      ∙ grown.many worker k at
      ∙ sym (as_many_shards profile w move)
  many_goes worker k l at (KViews shard s is_there shards same) =
      ap (λ (x : Worker). length x.seen) same
      ∙ set_length k.seen shard s.shard.shown
      ∙ grown.many worker k at
      ∙ sym (as_many_shards profile w move)
  many_goes worker k l at (KIsHanded shard s a is_there group who its after same) =
      ap (λ (x : Worker). length x.seen) same
      ∙ ap (λ (seen : List ShardList). length seen)
      (stored_seen (has_asked a (connection_in k a.connection)) shard a
      (messages_in profile w.config s.shard.stored s.shard.pending) k)
      ∙ grown.many worker k at
      ∙ sym (as_many_shards profile w move)
  many_goes worker k l at (KCrashes now goes_in same) =
      ap (λ (x : Worker). length x.seen) same ∙ length-map next.shards (λ (s : WorldShard). s.shard.shown)

  -- what was seen before is seen still, and what is shown has grown since
  abbrev Seen : ℕ → ShardList → Type 0
  Seen shard list = (t : WorldShard) → HasShard next shard t → IsList list × HasGrown list t.shard.shown

  seen_before : (worker shard : ℕ) (k : Worker) (list : ShardList) → HasWorker w worker k →
      slice_get k.seen shard ≡ Some list → Seen shard list
  seen_before worker shard k list at seen t t_at = by (shard_goes profile w move shard t t_at)
    where
      by : GoesFrom profile w.config w shard t → IsList list × HasGrown list t.shard.shown
      by (s, (is_there, goes)) =
          let old = grown.seen worker shard k s list at is_there seen in
          let is = grown.shards shard s is_there in (
            old.0,
            grown_then list s.shard.shown t.shard.shown is.shown (shards_go shard t t_at).shown old.1
                (shown_goes profile w.config w shard s t is goes),
          )

  -- and what is shown now is grown from itself
  shown_now : (shard : ℕ) (t : WorldShard) (list : ShardList) → HasShard next shard t → list ≡ t.shard.shown →
      IsList list × HasGrown list t.shard.shown
  shown_now shard t list at same =
      let is = (shards_go shard t at).shown in (
        subst IsList (sym same) is,
        subst (λ (x : ShardList). HasGrown x t.shard.shown) (sym same)
            (grown_itself t.shard.shown is),
      )

  seen_goes : (worker shard : ℕ) (k l : Worker) (t : WorldShard) (list : ShardList) → HasWorker w worker k →
      WorkerGoes profile w.config w next worker k l → HasShard next shard t → slice_get l.seen shard ≡ Some list →
      IsList list × HasGrown list t.shard.shown
  seen_goes worker shard k l t list at (KStays same) t_at seen =
      seen_before worker shard k list at (ap (λ (x : Worker). slice_get x.seen shard) (sym same) ∙ seen) t t_at
  seen_goes worker shard k l t list at (KMoves step own same) t_at seen =
      seen_before worker shard k list at
      (ap (λ (seen : List ShardList). slice_get seen shard) (sym (seen_stays profile w.config k step own))
      ∙ ap (λ (x : Worker). slice_get x.seen shard) (sym same)
      ∙ seen) t t_at
  seen_goes worker shard k l t list at (KViews place s is_there shards same) t_at seen =
      by (set_from k.seen place s.shard.shown shard list
      (ap (λ (x : Worker). slice_get x.seen shard) (sym same) ∙ seen))
    where
      by : (((place ≡ shard) × (list ≡ s.shard.shown)) ⊎ (slice_get k.seen shard ≡ Some list)) →
          IsList list × HasGrown list t.shard.shown
      by (inr old) = seen_before worker shard k list at old t t_at
      by (inl new) =
          let one : s ≡ t = same_Some s t
          (sym is_there
          ∙ ap (λ (n : ℕ). slice_get w.shards n) new.0
          ∙ ap (λ (ss : List WorldShard). slice_get ss shard) (sym shards)
          ∙ t_at) in
          shown_now shard t list t_at (new.1 ∙ ap (λ (x : WorldShard). x.shard.shown) one)
  seen_goes worker shard k l t list at (KIsHanded place s a is_there group who its after same) t_at seen =
      seen_before worker shard k list at
      (ap (λ (seen : List ShardList). slice_get seen shard)
      (sym (stored_seen (has_asked a (connection_in k a.connection)) place a
      (messages_in profile w.config s.shard.stored s.shard.pending) k))
      ∙ ap (λ (x : Worker). slice_get x.seen shard) (sym same)
      ∙ seen) t t_at
  seen_goes worker shard k l t list at (KCrashes now goes_in same) t_at seen =
      by (map_from (λ (x : WorldShard). x.shard.shown) next.shards shard list
      (ap (λ (x : Worker). slice_get x.seen shard) (sym same) ∙ seen))
    where
      by : ((s : WorldShard) × ((slice_get next.shards shard ≡ Some s) × (list ≡ s.shard.shown))) →
          IsList list × HasGrown list t.shard.shown
      by (s, (is_there, shows)) =
          shown_now shard t list t_at
          (shows ∙ ap (λ (x : WorldShard). x.shard.shown) (same_Some s t (sym is_there ∙ t_at)))

  pub grown_goes : AreGrown next
  grown_goes =
      record {
        shards = shards_go;
        many = λ worker l at. many_of worker l (worker_goes profile w move worker l at);
        seen = λ worker shard l t list l_at t_at seen.
            seen_of worker shard l t list (worker_goes profile w move worker l l_at) t_at seen;
      }
    where
      many_of : (worker : ℕ) (l : Worker) → WorkerGoesFrom profile w.config w next worker l →
          length l.seen ≡ length next.shards
      many_of worker l (k, (at, goes)) = many_goes worker k l at goes

      seen_of : (worker shard : ℕ) (l : Worker) (t : WorldShard) (list : ShardList) →
          WorkerGoesFrom profile w.config w next worker l → HasShard next shard t →
          slice_get l.seen shard ≡ Some list → IsList list × HasGrown list t.shard.shown
      seen_of worker shard l t list (k, (at, goes)) t_at seen = seen_goes worker shard k l t list at goes t_at seen

-- ---- the opening world

abbrev pub first_shard : Config → WorldShard
first_shard config = record { shard = opening_shard config; asked = None; ever = [] }

abbrev pub OpensAs : Config → ℕ → Worker → Type 0
OpensAs config worker k =
    (number : ℕ) × ((slice_get (counted_from 0 config.workers) worker ≡ Some number)
    × (k ≡ opening_worker number (replicate config.shards (opening_list config))))

pub opening_grown : (config : Config) → AreGrown (opening_world config)
opening_grown config =
    record {
      shards = λ shard s at. subst (λ (x : WorldShard). IsShard x.shard) (sym (shard_of_it shard s at))
          (opening_shard_in_order config);
      many = λ worker k at. many_of worker k
          (map_from (λ (number : ℕ). opening_worker number (replicate config.shards (opening_list config)))
          (counted_from 0 config.workers) worker k at);
      seen = λ worker shard k s list k_at s_at seen. seen_of shard s s_at list
          (replicate_from config.shards (opening_list config) shard list
          (opened worker k shard list
          (map_from (λ (number : ℕ). opening_worker number (replicate config.shards (opening_list config)))
          (counted_from 0 config.workers) worker k k_at) seen));
    }
  where
    shard_of_it : (shard : ℕ) (s : WorldShard) → HasShard (opening_world config) shard s → s ≡ first_shard config
    shard_of_it shard s at = replicate_from config.shards (first_shard config) shard s at

    many_of : (worker : ℕ) (k : Worker) → OpensAs config worker k →
        length k.seen ≡ length (replicate config.shards (first_shard config))
    many_of worker k (number, (at, same)) =
        ap (λ (x : Worker). length x.seen) same
        ∙ length-replicate config.shards (opening_list config)
        ∙ sym (length-replicate config.shards (first_shard config))

    opened : (worker : ℕ) (k : Worker) (shard : ℕ) (list : ShardList) → OpensAs config worker k →
        slice_get k.seen shard ≡ Some list →
        slice_get (replicate config.shards (opening_list config)) shard ≡ Some list
    opened worker k shard list (number, (at, same)) seen =
        ap (λ (x : Worker). slice_get x.seen shard) (sym same) ∙ seen

    seen_of : (shard : ℕ) (s : WorldShard) → HasShard (opening_world config) shard s → (list : ShardList) →
        list ≡ opening_list config → IsList list × HasGrown list s.shard.shown
    seen_of shard s at list same =
        let is = opening_in_order config in (
          subst IsList (sym same) is,
          subst (λ (x : WorldShard). HasGrown list x.shard.shown) (sym (shard_of_it shard s at))
              (subst (λ (x : ShardList). HasGrown x (opening_list config)) (sym same)
              (grown_itself (opening_list config) is)),
        )
