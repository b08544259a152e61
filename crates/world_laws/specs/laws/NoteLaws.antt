-- What moves note of connections: a history only grows, and a bind notes all that is unfinished in its session, parted
-- by what is passed over.
use Rattle.std.proofs.Common.{◌≡◌, ◌⊎◌, inl, inr, ℕ, Bool, true, false, ◌&&◌, not, List, [], ◌∷◌, ◌++◌, drop, filter}
use Rattle.std.proofs.Common.{length, slice_get, Option, Some, None, refl, sym, ap, subst, ◌∙◌}
use Rattle.std.specs.Prelude.{◌==◌, bytes_eq}
use Rattle.std.proofs.Math.Seq.{drop-append_seam}
use Rattle.std.proofs.lemmas.List.{append-nil}
use Rattle.std.proofs.lemmas.Option.{same_Some}
use Rattle.topic_model.specs.Profile.{Profile, Config}
use Rattle.topic_model.specs.Places.{HasPlace}
use Rattle.shard_model.specs.ShardList.{ShardList}
use Rattle.session_model.specs.declared.entry.Entry.{Entry}
use Rattle.session_model.specs.PlainSession.{PlainSession}
use Rattle.turn_model.specs.PlainConnection.{PlainConnection}
use Rattle.turn_model.specs.Resend.{resend_of}
use Rattle.turn_model.specs.Worker.{Worker, Item, Answer, Answers, Accepts, Delivers, PendingRecord, Note, Noted, note}
use Rattle.turn_model.specs.Worker.{SentAgain, Delivered, sessions_of, session_in}
use Rattle.turn_model.specs.Worker as Worker
use Rattle.turn_model.specs.Records.{partings_owed, with_record, handed_on, moment_left, record_resolved, session_at}
use Rattle.turn_model.specs.WorkerMoves.{WorkerMove, batch_pairs, noted_answer, restarted_worker, crashed_worker}
use Rattle.turn_model.specs.WorkerMoves.{worker_step}
use Rattle.turn_model.specs.WorkerMoves as Workers
use Rattle.world_model.specs.World.{World, Move, world_step}
use Rattle.world_laws.specs.Reached.{HasWorker}
use Rattle.world_laws.specs.Always.{OfWorkerMoves}
use Rattle.world_laws.specs.SentAgain.{new_notes, BindsWhatIsUnfinished, BindsAll}
use Rattle.world_laws.specs.laws.PlaceLaws.{place_found, place_cases, no_place}
use Rattle.world_laws.specs.laws.WorkerLaws.{StepGoes, SStays, SViews, SBegins, SCommits, SSettlesIn, SSettlesOut}
use Rattle.world_laws.specs.laws.WorkerLaws.{SStores, SItem, SPacket, SResends, SBinds, SIsTakenOver, SEnds, SLeaves}
use Rattle.world_laws.specs.laws.WorkerLaws.{SLeavesPending, binds_as, step_goes}
use Rattle.world_laws.specs.laws.GoesLaws.{WorkerGoes, KStays, KMoves, KViews, KIsHanded, KCrashes, WorkerGoesFrom}
use Rattle.world_laws.specs.laws.GoesLaws.{worker_goes}

-- ---- what is new in a history

-- what a worker notes: nothing; what came of an item; what was sent again; or a bind, of a session that it has
pub data Notes (k : Worker) : List Note → Type 0 where
  NNothing : Notes k []
  NItem : (c : PlainConnection) (answer : Answer) → Notes k (noted_answer k c answer)
  NAgain : (c : PlainConnection) (taken : _) → Notes k (note c (SentAgain taken) ∷ [])
  NBinds : (conn now : ℕ) (c : _) (m : PlainSession) → HasPlace (sessions_of k).list m →
      Notes k (note (binds_as conn c now m k)
      (Worker.Bound (binds_as conn c now m k).rest (binds_as conn c now m k).passed) ∷ [])

-- a history goes on
pub record HistoryGoes (k l : Worker) : Type 0 where
  pub new : List Note
  pub are : Notes k new
  pub grown : l.history ≡ k.history ++ new

history_stays : (k l : Worker) → l.history ≡ k.history → HistoryGoes k l
history_stays k l same = record { new = []; are = NNothing; grown = same ∙ sym (append-nil k.history) }

handed_history : (i : Option Item) (k : Worker) → (handed_on i k).history ≡ k.history
handed_history None k = refl
handed_history (Some i) k = refl

partings_history : (left : Option ℕ) (p : PendingRecord) (k : Worker) → (partings_owed left p k).history ≡ k.history
partings_history None p k = refl
partings_history (Some moment) p k = refl

at_session : (client : List ℕ) (number : ℕ) (k : Worker) (m : PlainSession) → session_at client number k ≡ Some m →
    HasPlace (sessions_of k).list m
at_session client number k m found =
    (place_found (λ (m : PlainSession). bytes_eq m.client client && (m.incarnation == number)) (sessions_of k).list m
    found).0

pub history_goes : (profile : Profile) (config : Config) (k : Worker) (move : WorkerMove) (l : Worker) →
    StepGoes profile config k move l → HistoryGoes k l
history_goes profile config k move l (SStays same) = history_stays k l (ap (λ (x : Worker). x.history) same)
history_goes profile config k move l (SViews shard list is same) =
    history_stays k l (ap (λ (x : Worker). x.history) same)
history_goes profile config k move l (SBegins cause now p is none some same) =
    history_stays k l (ap (λ (x : Worker). x.history) same)
history_goes profile config k move l (SCommits p is pends same) =
    history_stays k l
    (ap (λ (x : Worker). x.history) same
    ∙ handed_history p.item (partings_owed p.left p (with_record p k))
    ∙ partings_history p.left p (with_record p k))
history_goes profile config k move l (SSettlesIn now p is pends may same) =
    history_stays k l
    (ap (λ (x : Worker). x.history) same ∙ partings_history (moment_left now p.left) p (with_record p k))
history_goes profile config k move l (SSettlesOut now p is pends may same) =
    history_stays k l (ap (λ (x : Worker). x.history) same)
history_goes profile config k move l (SStores shard a messages is asked same) =
    history_stays k l (ap (λ (x : Worker). x.history) same)
history_goes profile config k move l (SItem place now i c is there bound same) =
    record { new = noted_answer k c i.answer; are = NItem c i.answer; grown = ap (λ (x : Worker). x.history) same }
history_goes profile config k move l (SPacket conn now packet outcomes step is answered same) =
    history_stays k l (ap (λ (x : Worker). x.history) same)
history_goes profile config k move l (SResends conn now c m is bound there some told same) =
    record {
      new = note c (SentAgain (resend_of profile now m c k.seen).taken) ∷ [];
      are = NAgain c (resend_of profile now m c k.seen).taken;
      grown = ap (λ (x : Worker). x.history) same;
    }
history_goes profile config k move l
    (SBinds conn now i c client number rs m is none found answer unbound alone there same) =
    record {
      new =
          note (binds_as conn c now m k)
          (Worker.Bound (binds_as conn c now m k).rest (binds_as conn c now m k).passed)
          ∷ [];
      are = NBinds conn now c m (at_session client number k m there);
      grown = ap (λ (x : Worker). x.history) same;
    }
history_goes profile config k move l (SIsTakenOver conn c is bound may same) =
    history_stays k l (ap (λ (x : Worker). x.history) same)
history_goes profile config k move l (SEnds conn now ending c is bound same) =
    history_stays k l (ap (λ (x : Worker). x.history) same)
history_goes profile config k move l (SLeaves conn now ending i c client number rs is unbound found answer same) =
    history_stays k l (ap (λ (x : Worker). x.history) same)
history_goes profile config k move l (SLeavesPending conn now ending is unbound has same) =
    history_stays k l (ap (λ (x : Worker). x.history) same)

-- a crash notes nothing
resolved_history : (goes_in : Bool) (now : ℕ) (pending : Option PendingRecord) (k : Worker) →
    (record_resolved goes_in now pending k).history ≡ k.history
resolved_history goes_in now None k = refl
resolved_history true now (Some p) k = partings_history (moment_left now p.left) p (with_record p k)
resolved_history false now (Some p) k = refl

-- behind a move of the world too
pub worker_history : (profile : Profile) (config : Config) (w next : World) (worker : ℕ) (k l : Worker) →
    WorkerGoes profile config w next worker k l → HistoryGoes k l
worker_history profile config w next worker k l (KStays same) =
    history_stays k l (ap (λ (x : Worker). x.history) same)
worker_history profile config w next worker k l (KMoves move own same) =
    subst (λ (x : Worker). HistoryGoes k x) (sym same)
    (history_goes profile config k move (worker_step profile config k move) (step_goes profile config k move))
worker_history profile config w next worker k l (KViews shard s is_there shards same) =
    subst (λ (x : Worker). HistoryGoes k x) (sym same)
    (history_goes profile config k (Workers.View shard s.shard.shown)
    (worker_step profile config k (Workers.View shard s.shard.shown))
    (step_goes profile config k (Workers.View shard s.shard.shown)))
worker_history profile config w next worker k l (KIsHanded shard s a is_there group who its after same) =
    subst (λ (x : Worker). HistoryGoes k x) (sym same)
    (history_goes profile config k (Workers.Stored shard a _) (worker_step profile config k (Workers.Stored shard a _))
    (step_goes profile config k (Workers.Stored shard a _)))
worker_history profile config w next worker k l (KCrashes now goes_in same) =
    history_stays k l (ap (λ (x : Worker). x.history) same ∙ resolved_history goes_in now k.pending k)

-- ---- a bind notes all that is unfinished

abbrev again_of : Noted → List Entry
again_of (Worker.Bound again passed) = again
again_of (SentAgain xs) = []
again_of (Delivered xs) = []

abbrev passed_of : Noted → List Entry
passed_of (Worker.Bound again passed) = passed
passed_of (SentAgain xs) = []
passed_of (Delivered xs) = []

none_of_item : (k : Worker) (c : PlainConnection) (answer : Answer) (n : Note) (again passed : List Entry) →
    HasPlace (noted_answer k c answer) n → n.noted ≡ Worker.Bound again passed → ⊥
none_of_item k c (Answers rs effects) n again passed has is = no_place n has
none_of_item k c (Accepts fields client number rs) n again passed has is = no_place n has
none_of_item k c (Delivers b moment fresh) n again passed has is =
    by (place_cases (note c (Delivered (batch_pairs moment k b (session_in k c.number)))) n [] has)
  where
    by : ((n ≡ note c (Delivered (batch_pairs moment k b (session_in k c.number)))) ⊎ HasPlace [] n) → ⊥
    by (inl same) = cc
    by (inr nowhere) = no_place n nowhere

binds_of : (k : Worker) (new : List Note) → Notes k new → (n : Note) (again passed : List Entry) → HasPlace new n →
    n.noted ≡ Worker.Bound again passed → BindsWhatIsUnfinished k n again passed
binds_of k [] NNothing n again passed has is = absurd (no_place n has)
binds_of k new (NItem c answer) n again passed has is = absurd (none_of_item k c answer n again passed has is)
binds_of k new (NAgain c taken) n again passed has is = by (place_cases (note c (SentAgain taken)) n [] has)
  where
    by : ((n ≡ note c (SentAgain taken)) ⊎ HasPlace [] n) → BindsWhatIsUnfinished k n again passed
    by (inl same) = cc
    by (inr nowhere) = absurd (no_place n nowhere)
binds_of k new (NBinds conn now c m there) n again passed has is =
    by (place_cases
    (note (binds_as conn c now m k) (Worker.Bound (binds_as conn c now m k).rest (binds_as conn c now m k).passed)) n []
    has)
  where
    by : ((n ≡ note (binds_as conn c now m k)
        (Worker.Bound (binds_as conn c now m k).rest (binds_as conn c now m k).passed)) ⊎ HasPlace [] n) →
        BindsWhatIsUnfinished k n again passed
    by (inr nowhere) = absurd (no_place n nowhere)
    by (inl same) =
        record {
          session = m;
          is_there = there;
          client = ap (λ (x : Note). x.client) (sym same);
          number = ap (λ (x : Note). x.incarnation) (sym same);
          sends = ap again_of (sym is) ∙ ap (λ (x : Note). again_of x.noted) same;
          passes = ap passed_of (sym is) ∙ ap (λ (x : Note). passed_of x.noted) same;
        }

binds_with : (k l : Worker) → HistoryGoes k l → BindsAll k l
binds_with k l goes n again passed has is =
    binds_of k goes.new goes.are n again passed
    (subst (λ (notes : List Note). HasPlace notes n)
    (ap (drop (length k.history)) goes.grown ∙ drop-append_seam k.history goes.new) has) is

pub binds_all : (profile : Profile) (w : World) (move : Move) → OfWorkerMoves BindsAll w (world_step profile w move)
binds_all profile w move worker k l at after = by (worker_goes profile w move worker l after)
  where
    by : WorkerGoesFrom profile w.config w (world_step profile w move) worker l → BindsAll k l
    by (j, (is_there, goes)) =
        subst (λ (x : Worker). BindsAll x l) (same_Some j k (sym is_there ∙ at))
        (binds_with j l (worker_history profile w.config w (world_step profile w move) worker j l goes))
