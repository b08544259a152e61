-- What a pump of a connection issues may be issued.
use Rattle.std.proofs.Common.{◌≡◌, ◌⊎◌, inl, inr, ℕ, zero, suc, ◌+◌, ◌<◌, Bool, true, false, not, if◌then◌else◌, List}
use Rattle.std.proofs.Common.{[], ◌∷◌, ◌++◌, filter, Option, Some, None, slice_get, refl, sym, ap, subst, ◌∙◌}
use Rattle.std.specs.List.{flat_map}
use Rattle.std.proofs.lemmas.Option.{none-some, same_Some}
use Rattle.topic_model.specs.Profile.{Profile}
use Rattle.shard_model.specs.declared.sweep.Sweep.{Sweep}
use Rattle.shard_model.specs.ShardList.{ShardList}
use Rattle.shard_model.specs.SweepOrder.{Run, next_run}
use Rattle.topic_model.specs.Places.{HasPlace}
use Rattle.shard_model.specs.laws.PlaceLaws.{place_left, place_right, place_either, place_kept, kept_place}
use Rattle.shard_model.specs.laws.NextRunLaws.{none_is_left}
use Rattle.session_model.specs.declared.entry.Version.{Version}
use Rattle.session_model.specs.PlainSession.{PlainSession, Subscription, version_numbered}
use Rattle.session_model.specs.Change.{Issues}
use Rattle.turn_model.specs.PlainConnection.{PlainConnection, rest_of}
use Rattle.turn_model.specs.Batch.{pump_limit}
use Rattle.turn_model.specs.Pump.{Pair, pairs_with, pairs_of, is_behind_served, pairs_after, issues_under, run_in}
use Rattle.turn_model.specs.Pump.{issues_for, first_issues, pump_of}
use Rattle.turn_model.specs.Counting.{ComesNext, batch_of, taken_of}
use Rattle.turn_model.specs.laws.PumpLaws.{batch_may_be_issued, sweep_behind_in_order, sweep_behind_counts}
use Rattle.turn_model.specs.Pumping.{issuing_pair, AreReady, IsPumped, AllIssued}

-- ---- pairs

pair_of : (s : Subscription) (shard : ℕ) (starts : List ℕ) (sweeps : List Sweep) (k : ℕ) (p : Pair) →
    slice_get (pairs_with s shard starts sweeps) k ≡ Some p → p.subscription ≡ s
pair_of s shard [] sweeps k p e = absurd (none-some p e)
pair_of s shard (start ∷ starts) [] k p e = absurd (none-some p e)
pair_of s shard (start ∷ starts) (sweep ∷ sweeps) zero p e =
    ap (λ (x : Pair). x.subscription)
    (sym (same_Some (record { subscription = s; shard = shard; start = start; sweep = sweep }) p e))
pair_of s shard (start ∷ starts) (sweep ∷ sweeps) (suc k) p e = pair_of s (shard + 1) starts sweeps k p e

live_pairs : (ss : List Subscription) (k : ℕ) (p : Pair) →
    slice_get (flat_map (λ (s : Subscription). if s.live then pairs_with s 0 s.starts s.sweeps else []) ss) k ≡ Some p →
    p.subscription.live ≡ true
live_pairs [] k p e = absurd (none-some p e)
live_pairs (s ∷ ss) k p e =
    by (place_either (if s.live then pairs_with s 0 s.starts s.sweeps else [])
    (flat_map (λ (s : Subscription). if s.live then pairs_with s 0 s.starts s.sweeps else []) ss) k p e)
    (λ k e. live_pairs ss k p e)
  where
    by_live : (live : Bool) → s.live ≡ live → (k : ℕ) →
        slice_get (if live then pairs_with s 0 s.starts s.sweeps else []) k ≡ Some p → p.subscription.live ≡ true
    by_live true is k e = ap (λ (x : Subscription). x.live) (pair_of s 0 s.starts s.sweeps k p e) ∙ is
    by_live false is k e = absurd (none-some p e)

    by : HasPlace (if s.live then pairs_with s 0 s.starts s.sweeps else []) p
        ⊎ HasPlace (flat_map (λ (s : Subscription). if s.live then pairs_with s 0 s.starts s.sweeps else []) ss) p →
        ((k : ℕ) →
        slice_get (flat_map (λ (s : Subscription). if s.live then pairs_with s 0 s.starts s.sweeps else []) ss) k
        ≡ Some p → p.subscription.live ≡ true) → p.subscription.live ≡ true
    by (inl here) later = by_live s.live refl here.0 here.1
    by (inr there) later = later there.0 there.1

-- in whatever order they are served
served_pair : (served : Option (ℕ × ℕ)) (pairs : List Pair) (k : ℕ) (p : Pair) →
    slice_get (pairs_after served pairs) k ≡ Some p → HasPlace pairs p
served_pair None pairs k p e = (k, e)
served_pair (Some served) pairs k p e =
    by
    (place_either (filter (is_behind_served served) pairs) (filter (λ p. not (is_behind_served served p)) pairs) k p e)
  where
    by : HasPlace (filter (is_behind_served served) pairs) p
        ⊎ HasPlace (filter (λ p. not (is_behind_served served p)) pairs) p → HasPlace pairs p
    by (inl there) = (kept_place (is_behind_served served) pairs there.0 p there.1).0
    by (inr there) = (kept_place (λ p. not (is_behind_served served p)) pairs there.0 p there.1).0

-- and each is served
pair_served : (served : Option (ℕ × ℕ)) (pairs : List Pair) (k : ℕ) (p : Pair) → slice_get pairs k ≡ Some p →
    HasPlace (pairs_after served pairs) p
pair_served None pairs k p e = (k, e)
pair_served (Some served) pairs k p e = by (is_behind_served served p) refl
  where
    by : (b : Bool) → is_behind_served served p ≡ b →
        HasPlace (filter (is_behind_served served) pairs ++ filter (λ p. not (is_behind_served served p)) pairs) p
    by true behind =
        let there = place_kept (is_behind_served served) pairs k p e behind in
        place_left (filter (is_behind_served served) pairs)
        (filter (λ p. not (is_behind_served served p)) pairs) there.0 p there.1
    by false before =
        let there = place_kept (λ p. not (is_behind_served served p)) pairs k p e (ap not before) in
        place_right (filter (is_behind_served served) pairs)
        (filter (λ p. not (is_behind_served served p)) pairs) there.0 p there.1

-- ---- the law

module _ (profile : Profile) (now : ℕ) (m : PlainSession) (k : PlainConnection) (lists : List ShardList)
    (first : rest_of m k ≡ []) (ready : AreReady profile now m k lists) where
  pumped_pair : (p : Pair) (b : Issues) → HasPlace (pairs_of m) p → issues_for profile now m k lists p ≡ Some b →
      IsPumped profile now m k lists b
  pumped_pair p b has e = by_list (slice_get lists p.shard) refl e
    where
      done : (list : ShardList) (v : Version) (run : Run) → slice_get lists p.shard ≡ Some list →
          version_numbered p.subscription.version m ≡ Some v →
          next_run profile p.subscription.filter p.start list p.sweep (pump_limit profile m k) ≡ Some run →
          batch_of profile (issuing_pair m k now p v list) run ≡ b → IsPumped profile now m k lists b
      done list v run has_list has_version next is =
          let r = ready p v list has has_list has_version in
          let comes : ComesNext profile (issuing_pair m k now p v list) p.sweep run =
          record {
            list = r.list;
            live = live_pairs m.subscriptions has.0 p has.1;
            first = first;
            order =
                r.order;
            counts = r.counts;
            next = next;
          } in
          subst (IsPumped profile now m k lists) is
          (record {
            pair = p;
            version = v;
            list = list;
            messages = taken_of profile (issuing_pair m k now p v list) run;
            has_pair = has;
            has_list = has_list;
            has_version = has_version;
            may_issue = batch_may_be_issued profile (issuing_pair m k now p v list) p.sweep run comes;
            order = sweep_behind_in_order profile (issuing_pair m k now p v list) p.sweep run comes;
            counts = sweep_behind_counts profile (issuing_pair m k now p v list) p.sweep run comes;
          })

      by_version : (list : ShardList) → slice_get lists p.shard ≡ Some list → (run : Option Run) →
          next_run profile p.subscription.filter p.start list p.sweep (pump_limit profile m k) ≡ run →
          (v : Option Version) → version_numbered p.subscription.version m ≡ v →
          issues_under profile now m k p run v ≡ Some b → IsPumped profile now m k lists b
      by_version list has_list None next v has_version e = absurd (none-some b e)
      by_version list has_list (Some run) next None has_version e = absurd (none-some b e)
      by_version list has_list (Some run) next (Some v) has_version e =
          done list v run has_list has_version next
          (same_Some (batch_of profile (issuing_pair m k now p v list) run) b e)

      by_list : (list : Option ShardList) → slice_get lists p.shard ≡ list →
          issues_under profile now m k p (run_in profile (pump_limit profile m k) p list)
          (version_numbered p.subscription.version m) ≡ Some b →
          IsPumped profile now m k lists b
      by_list None has_list e = absurd (none-some b e)
      by_list (Some list) has_list e =
          by_version list has_list
          (next_run profile p.subscription.filter p.start list p.sweep (pump_limit profile m k)) refl
          (version_numbered p.subscription.version m) refl e

  pumped_first : (ps : List Pair) (b : Issues) →
      ((j : ℕ) (p : Pair) → slice_get ps j ≡ Some p → HasPlace (pairs_of m) p) →
      first_issues profile now m k lists ps ≡ Some b → IsPumped profile now m k lists b
  pumped_first [] b within e = absurd (none-some b e)
  pumped_first (p ∷ ps) b within e =
      by (issues_for profile now m k lists p) refl e (λ e. pumped_first ps b (λ j q f. within (suc j) q f) e)
    where
      by : (found : Option Issues) → issues_for profile now m k lists p ≡ found →
          elim found as (λ found. Option Issues) [ Some b ↦ Some b | None ↦ first_issues profile now m k lists ps ]
          ≡ Some b →
          (first_issues profile now m k lists ps ≡ Some b → IsPumped profile now m k lists b) →
          IsPumped profile now m k lists b
      by None is e later = later e
      by (Some x) is e later = pumped_pair p b (within 0 p refl) (is ∙ e)

  pub pumped_may_be_issued : (b : Issues) → pump_of profile now m k lists ≡ Some b → IsPumped profile now m k lists b
  pumped_may_be_issued b e = pumped_first (pairs_after k.served (pairs_of m)) b
      (λ j p f. served_pair k.served (pairs_of m) j p f) e

-- ---- nothing is left where a pump issues nothing

module _ (profile : Profile) (now : ℕ) (m : PlainSession) (k : PlainConnection) (lists : List ShardList) where
  -- no pair has something
  none_of : (ps : List Pair) (j : ℕ) (p : Pair) → slice_get ps j ≡ Some p →
      first_issues profile now m k lists ps ≡ None → issues_for profile now m k lists p ≡ None
  none_of [] j p e none = absurd (none-some p e)
  none_of (q ∷ ps) j p e none = by (issues_for profile now m k lists q) refl none j e
      (λ j e none. none_of ps j p e none)
    where
      by : (found : Option Issues) → issues_for profile now m k lists q ≡ found →
          elim found as (λ found. Option Issues) [ Some b ↦ Some b | None ↦ first_issues profile now m k lists ps ]
          ≡ None →
          (j : ℕ) → slice_get (q ∷ ps) j ≡ Some p →
          ((j : ℕ) → slice_get ps j ≡ Some p → first_issues profile now m k lists ps ≡ None →
          issues_for profile now m k lists p ≡ None) → issues_for profile now m k lists p ≡ None
      by (Some b) is none j e later = absurd (none-some b (sym none))
      by None is none zero e later = ap (issues_for profile now m k lists) (sym (same_Some q p e)) ∙ is
      by None is none (suc j) e later = later j e none

  no_run : (p : Pair) (list : ShardList) (v : Version) → slice_get lists p.shard ≡ Some list →
      version_numbered p.subscription.version m ≡ Some v → issues_for profile now m k lists p ≡ None →
      next_run profile p.subscription.filter p.start list p.sweep (pump_limit profile m k) ≡ None
  no_run p list v has_list has_version none =
      by (next_run profile p.subscription.filter p.start list p.sweep (pump_limit profile m k))
      (ap (λ (l : Option ShardList). issues_under profile now m k p (run_in profile (pump_limit profile m k) p l)
      (Some v)) (sym has_list)
      ∙ ap (issues_under profile now m k p (run_in profile (pump_limit profile m k) p (slice_get lists p.shard)))
      (sym has_version) ∙ none)
    where
      by : (run : Option Run) → issues_under profile now m k p run (Some v) ≡ None → run ≡ None
      by None none = refl
      by (Some run) none = absurd (none-some (batch_of profile (issuing_pair m k now p v list) run) (sym none))

  pub pump_leaves_none : AreReady profile now m k lists → 0 < pump_limit profile m k →
      pump_of profile now m k lists ≡ None → AllIssued now m k lists
  pump_leaves_none ready some none p v list has has_list has_version w wanted =
      let r = ready p v list has has_list has_version in
      let served = pair_served k.served (pairs_of m) has.0 p has.1 in
      let run = no_run p list v has_list has_version
      (none_of (pairs_after k.served (pairs_of m)) served.0 p served.1 none) in
      r.counts w wanted ∙ none_is_left profile p.subscription.filter p.start list p.sweep
      (pump_limit profile m k) w r.list r.order some run wanted
