-- The lists of a shard, and those that workers have seen, are of what the shard ever stored.
use Rattle.std.proofs.Common.{◌≡◌, ◌⊎◌, inl, inr, ℕ, ◌+◌, Bool, true, false, List, replicate, slice_get, Some, refl}
use Rattle.std.proofs.Common.{sym, ap, subst, ◌∙◌}
use Rattle.std.proofs.lemmas.Option.{none-some, same_Some, slice_get_within}
use Rattle.topic_model.specs.Profile.{Profile, Config}
use Rattle.topic_model.specs.StoredMessage.{StoredMessage}
use Rattle.topic_model.specs.Places.{HasPlace}
use Rattle.shard_model.specs.ShardList.{ShardList, floor_of, opening_list}
use Rattle.shard_model.specs.ShardMoves.{Shard, ShardMove, pends_nothing, show_if, shard_step}
use Rattle.shard_model.specs.SweepOrder.{counted_from}
use Rattle.shard_model.specs.laws.MoveLaws.{only_show_shows}
use Rattle.turn_model.specs.Worker.{Worker, connection_in, opening_worker}
use Rattle.turn_model.specs.WorkerMoves.{has_asked}
use Rattle.world_model.specs.World.{World, WorldShard, Move, messages_in, opening_world, world_step}
use Rattle.world_laws.specs.Reached.{HasShard, HasWorker}
use Rattle.world_laws.specs.StoredLists.{AreGrown, IsAllEver, TakesNothing}
use Rattle.world_laws.specs.Always.{OfShards}
use Rattle.world_laws.specs.laws.GoesLaws.{ShardGoes, Stays, Moves, Begins, IsLeft, Crashes, GoesFrom, WorkerGoes}
use Rattle.world_laws.specs.laws.GoesLaws.{KStays, KMoves, KViews, KIsHanded, KCrashes, WorkerGoesFrom, map_from}
use Rattle.world_laws.specs.laws.GoesLaws.{shard_goes, worker_goes}
use Rattle.world_laws.specs.laws.SeenLaws.{OpensAs, first_shard, replicate_from, seen_stays, set_from, stored_seen}
use Rattle.world_laws.specs.laws.EverLaws.{get_before, get_dropped, takes_nothing}
use Rattle.shard_model.specs.ShardMoves as Shards

-- ---- lists of what was ever stored

-- each message of a list stands at its offset of all that its shard ever stored
abbrev pub IsOf : List StoredMessage → ShardList → Type 0
IsOf ever list = (m : StoredMessage) → HasPlace list.messages m → slice_get ever m.offset ≡ Some m

-- So of what is stored and shown of each shard, and of what each worker has seen of it.
pub record AreOfEver (w : World) : Type 0 where
  pub stored : OfShards (λ (s : WorldShard). IsOf s.ever s.shard.stored) w
  pub shown : OfShards (λ (s : WorldShard). IsOf s.ever s.shard.shown) w
  pub seen : (worker shard : ℕ) (k : Worker) (s : WorldShard) (list : ShardList) → HasWorker w worker k →
      HasShard w shard s → slice_get k.seen shard ≡ Some list → IsOf s.ever list

pub stored_is_of : (s : WorldShard) → IsAllEver s → IsOf s.ever s.shard.stored
stored_is_of s is m has =
    let place = floor_of s.shard.stored + has.0 in
    let there : slice_get s.ever place ≡ Some m =
    sym (get_dropped (floor_of s.shard.stored) s.ever has.0)
    ∙ ap (λ (ms : List StoredMessage). slice_get ms has.0) is.held
    ∙ has.1 in
    ap (λ (n : ℕ). slice_get s.ever n) (is.offsets place m there) ∙ there

-- what was ever stored grows at its end
later_is_of : (s t : WorldShard) (list : ShardList) → TakesNothing s t → IsOf s.ever list → IsOf t.ever list
later_is_of s t list takes is m has =
    ap (λ (ever : List StoredMessage). slice_get ever m.offset) takes.ever.1
    ∙ get_before s.ever takes.ever.0 m.offset (slice_get_within s.ever m.offset m (is m has))
    ∙ is m has

-- what is shown is what was shown, or what is stored
show_if_shows : (b : Bool) (s : Shard) → ((show_if b s).shown ≡ s.shown) ⊎ ((show_if b s).shown ≡ (show_if b s).stored)
show_if_shows true s = inr refl
show_if_shows false s = inl refl

module _ (profile : Profile) (config : Config) where
  step_shows : (s : Shard) (move : ShardMove) →
      ((shard_step profile config s move).shown ≡ s.shown)
      ⊎ ((shard_step profile config s move).shown ≡ (shard_step profile config s move).stored)
  step_shows s (Shards.Begin ops now) = inl (only_show_shows profile config s (Shards.Begin ops now) refl)
  step_shows s Shards.Store = inl (only_show_shows profile config s Shards.Store refl)
  step_shows s (Shards.BeginCut now) = inl (only_show_shows profile config s (Shards.BeginCut now) refl)
  step_shows s Shards.Rotate = inl (only_show_shows profile config s Shards.Rotate refl)
  step_shows s (Shards.BeginDrop now) = inl (only_show_shows profile config s (Shards.BeginDrop now) refl)
  step_shows s Shards.Drop = inl (only_show_shows profile config s Shards.Drop refl)
  step_shows s (Shards.Settle goes_in) = inl (only_show_shows profile config s (Shards.Settle goes_in) refl)
  step_shows s Shards.Show = show_if_shows (pends_nothing s.pending) s

  abbrev ShowsFrom : WorldShard → WorldShard → Type 0
  ShowsFrom s t = (t.shard.shown ≡ s.shard.shown) ⊎ (t.shard.shown ≡ t.shard.stored)

  goes_shows : (w : World) (shard : ℕ) (s t : WorldShard) → ShardGoes profile config w shard s t → ShowsFrom s t
  goes_shows w shard s t (Stays same) = inl (ap (λ (x : WorldShard). x.shard.shown) same)
  goes_shows w shard s t (Moves move same) = subst (ShowsFrom s) (sym same) (step_shows s.shard move)
  goes_shows w shard s t (Begins worker conn now packets k ask asker at asks asked of_it same) =
      subst (ShowsFrom s) (sym same) (step_shows s.shard (Shards.Begin ask.ops now))
  goes_shows w shard s t (IsLeft worker conn same) = inl (ap (λ (x : WorldShard). x.shard.shown) same)
  goes_shows w shard s t (Crashes goes_in same) = subst (ShowsFrom s) (sym same) (inr refl)

-- ---- they stay so

module _ (profile : Profile) (w : World) (move : Move) (grown : AreGrown w) where
  abbrev next : World
  next = world_step profile w move

  module _ (all_next : OfShards IsAllEver next) (are : AreOfEver w) where
    stored_of_it : (shard : ℕ) (t : WorldShard) → HasShard next shard t → IsOf t.ever t.shard.stored
    stored_of_it shard t at = stored_is_of t (all_next shard t at)

    shown_of_it : (shard : ℕ) (t : WorldShard) → HasShard next shard t → IsOf t.ever t.shard.shown
    shown_of_it shard t at = by (shard_goes profile w move shard t at)
      where
        shows : (s : WorldShard) → HasShard w shard s →
            (t.shard.shown ≡ s.shard.shown) ⊎ (t.shard.shown ≡ t.shard.stored) → IsOf t.ever t.shard.shown
        shows s is_there (inl same) =
            subst (IsOf t.ever) (sym same)
            (later_is_of s t s.shard.shown (takes_nothing profile w move grown.shards shard s t is_there at)
            (are.shown shard s is_there))
        shows s is_there (inr same) = subst (IsOf t.ever) (sym same) (stored_of_it shard t at)

        by : GoesFrom profile w.config w shard t → IsOf t.ever t.shard.shown
        by (s, (is_there, goes)) = shows s is_there (goes_shows profile w.config w shard s t goes)

    seen_before : (worker shard : ℕ) (k : Worker) (list : ShardList) → HasWorker w worker k →
        slice_get k.seen shard ≡ Some list → (t : WorldShard) → HasShard next shard t → IsOf t.ever list
    seen_before worker shard k list at seen t t_at = by (shard_goes profile w move shard t t_at)
      where
        by : GoesFrom profile w.config w shard t → IsOf t.ever list
        by (s, (is_there, goes)) =
            later_is_of s t list (takes_nothing profile w move grown.shards shard s t is_there t_at)
            (are.seen worker shard k s list at is_there seen)

    seen_of_it : (worker shard : ℕ) (k l : Worker) (t : WorldShard) (list : ShardList) → HasWorker w worker k →
        WorkerGoes profile w.config w next worker k l → HasShard next shard t → slice_get l.seen shard ≡ Some list →
        IsOf t.ever list
    seen_of_it worker shard k l t list at (KStays same) t_at seen =
        seen_before worker shard k list at (ap (λ (x : Worker). slice_get x.seen shard) (sym same) ∙ seen) t t_at
    seen_of_it worker shard k l t list at (KMoves step own same) t_at seen =
        seen_before worker shard k list at
        (ap (λ (seen : List ShardList). slice_get seen shard) (sym (seen_stays profile w.config k step own))
        ∙ ap (λ (x : Worker). slice_get x.seen shard) (sym same)
        ∙ seen) t t_at
    seen_of_it worker shard k l t list at (KViews place s is_there shards same) t_at seen =
        by (set_from k.seen place s.shard.shown shard list
        (ap (λ (x : Worker). slice_get x.seen shard) (sym same) ∙ seen))
      where
        by : (((place ≡ shard) × (list ≡ s.shard.shown)) ⊎ (slice_get k.seen shard ≡ Some list)) → IsOf t.ever list
        by (inr old) = seen_before worker shard k list at old t t_at
        by (inl new) =
            let one : s ≡ t = same_Some s t
            (sym is_there
            ∙ ap (λ (n : ℕ). slice_get w.shards n) new.0
            ∙ ap (λ (ss : List WorldShard). slice_get ss shard) (sym shards)
            ∙ t_at) in
            subst (IsOf t.ever) (sym (new.1 ∙ ap (λ (x : WorldShard). x.shard.shown) one)) (shown_of_it shard t t_at)
    seen_of_it worker shard k l t list at (KIsHanded place s a is_there group who its after same) t_at seen =
        seen_before worker shard k list at
        (ap (λ (seen : List ShardList). slice_get seen shard)
        (sym (stored_seen (has_asked a (connection_in k a.connection)) place a
        (messages_in profile w.config s.shard.stored s.shard.pending) k))
        ∙ ap (λ (x : Worker). slice_get x.seen shard) (sym same)
        ∙ seen) t t_at
    seen_of_it worker shard k l t list at (KCrashes now goes_in same) t_at seen =
        by (map_from (λ (x : WorldShard). x.shard.shown) next.shards shard list
        (ap (λ (x : Worker). slice_get x.seen shard) (sym same) ∙ seen))
      where
        by : ((s : WorldShard) × ((slice_get next.shards shard ≡ Some s) × (list ≡ s.shard.shown))) → IsOf t.ever list
        by (s, (is_there, shows)) =
            subst (IsOf t.ever)
            (sym (shows ∙ ap (λ (x : WorldShard). x.shard.shown) (same_Some s t (sym is_there ∙ t_at))))
            (shown_of_it shard t t_at)

    pub of_ever_goes : AreOfEver next
    of_ever_goes =
        record {
          stored = stored_of_it;
          shown = shown_of_it;
          seen = λ worker shard l t list l_at t_at seen.
              by worker shard l t list (worker_goes profile w move worker l l_at) t_at seen;
        }
      where
        by : (worker shard : ℕ) (l : Worker) (t : WorldShard) (list : ShardList) →
            WorkerGoesFrom profile w.config w next worker l → HasShard next shard t →
            slice_get l.seen shard ≡ Some list → IsOf t.ever list
        by worker shard l t list (k, (at, goes)) t_at seen = seen_of_it worker shard k l t list at goes t_at seen

opening_is_of : (config : Config) (ever : List StoredMessage) → IsOf ever (opening_list config)
opening_is_of config ever m has = absurd (none-some m has.1)

pub opening_of_ever : (config : Config) → AreOfEver (opening_world config)
opening_of_ever config =
    record {
      stored = λ shard s at. subst (λ (x : WorldShard). IsOf s.ever x.shard.stored) (sym (shard_of_it shard s at))
          (opening_is_of config s.ever);
      shown = λ shard s at. subst (λ (x : WorldShard). IsOf s.ever x.shard.shown) (sym (shard_of_it shard s at))
          (opening_is_of config s.ever);
      seen = λ worker shard k s list k_at s_at seen. subst (IsOf s.ever)
          (sym (replicate_from config.shards (opening_list config) shard list
          (opened worker k shard list
          (map_from (λ (number : ℕ). opening_worker number (replicate config.shards (opening_list config)))
          (counted_from 0 config.workers) worker k k_at) seen))) (opening_is_of config s.ever);
    }
  where
    shard_of_it : (shard : ℕ) (s : WorldShard) → HasShard (opening_world config) shard s → s ≡ first_shard config
    shard_of_it shard s at = replicate_from config.shards (first_shard config) shard s at

    opened : (worker : ℕ) (k : Worker) (shard : ℕ) (list : ShardList) → OpensAs config worker k →
        slice_get k.seen shard ≡ Some list →
        slice_get (replicate config.shards (opening_list config)) shard ≡ Some list
    opened worker k shard list (number, (at, same)) seen =
        ap (λ (x : Worker). slice_get x.seen shard) (sym same) ∙ seen
