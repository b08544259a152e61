-- A kept session that stands for a plain one goes on to do so through each change that fits.
use Rattle.std.proofs.Common.{◌≡◌, ℕ, zero, suc, nat_le, true, false, List, [], ◌∷◌, ◌++◌, map, slice_get, Some, None}
use Rattle.std.proofs.Common.{true≢false, refl, sym, ap, subst, ◌∙◌}
use Rattle.std.specs.List.{list_all}
use Rattle.std.proofs.lemmas.Option.{none-some, same_Some}
use Rattle.topic_model.specs.Profile.{Profile}
use Rattle.shard_model.specs.ShardList.{ShardList, next_of}
use Rattle.session_model.specs.declared.entry.Entry.{Entry}
use Rattle.session_model.specs.declared.entry.Version.{Version}
use Rattle.session_model.specs.PlainSession.{PlainSession, Subscription, begun_session, subscription_numbered}
use Rattle.session_model.specs.Change as session
use Rattle.session_model.specs.Acting.{changed_session}
use Rattle.session_model.specs.FitsSession.{suits}
use Rattle.session_model.specs.laws.OtherLaws.{keeps_client}
use Rattle.session_state.specs.declared.change.Effect.{Effect}
use Rattle.session_state.specs.declared.change.Effect.TheVariants.{Began, Ended, Bound, Parted, Subscribed, Replaced}
use Rattle.session_state.specs.declared.change.Effect.TheVariants.{Unsubscribed, Issued, Acked, Received, Done, Passed}
use Rattle.session_state.specs.KeptSub.{KeptSub}
use Rattle.session_state.specs.KeptSession.{KeptSession, begun_kept}
use Rattle.session_state.specs.KeptActing.{with_effect, kept_changed}
use Rattle.turn_model.specs.Pump.{Pair}
use Rattle.session_refinement.specs.PlainChange.{plain_effect}
use Rattle.session_refinement.specs.StandFor.{Group, AreGroups, IsReadAgain, AreReadAgain, AllEndWithin, IsServed}
use Rattle.session_refinement.specs.StandFor.{IsCounted, IsWithin, StandsFor, sweep_positions}
use Rattle.session_refinement.specs.ReadAgain.{entries_again}
use Rattle.session_refinement.specs.Issuing.{AreLists, BeginsInShard, is_no_batch, new_groups}
use Rattle.session_refinement.specs.laws.ChangeLaws.{IsChange, version_found, subscription_found}
use Rattle.session_refinement.specs.laws.EffectLaws.{Rests, rests_elsewhere, rests_done, rests_passed, rests_received}
use Rattle.session_refinement.specs.laws.EffectLaws.{rests_acked_fit}
use Rattle.session_refinement.specs.laws.OneSubLaws.{changed_at, on_is_map}
use Rattle.session_refinement.specs.laws.KeepsLaws.{begun_keeps, effect_change, changed_keeps, no_entries}
use Rattle.session_refinement.specs.laws.ServedLaws.{Leaves, leaves_at, counted_as_before, served_same, served_changed}
use Rattle.session_refinement.specs.laws.ServedLaws.{subscribed_counted}
use Rattle.session_refinement.specs.laws.WithinLaws.{PartsWithin, within_parts, tidied_within, subs_changed, sub_pushed}

-- ---- a beginning

pub begun_stands : (profile : Profile) (lists : List ShardList) (client : List ℕ) (incarnation expiry window : ℕ) →
    StandsFor profile lists (begun_kept client incarnation expiry window)
    (begun_session client incarnation expiry window)
begun_stands profile lists client incarnation expiry window =
    record {
      groups = [];
      keeps = begun_keeps client incarnation expiry window;
      again = tt;
      ends = tt;
      counted = λ p list served. absurd (none-some p.subscription served.has_subscription.1);
      within = λ shard list has. record { positions = refl; generations = refl };
    }

-- ---- batches that are read again

pub again_stays : (profile : Profile) (lists : List ShardList) (k e : KeptSession) (m later : PlainSession)
    (new : List Group) (c : IsChange k e m later new) → later.client ≡ m.client →
    (groups : List Group) → AreGroups m groups → AreReadAgain profile lists m groups →
    AreReadAgain profile lists later groups
again_stays profile lists k e m later new c same [] are again = tt
again_stays profile lists k e m later new c same (g ∷ gs) are again =
    (one, again_stays profile lists k e m later new c same gs are.1 again.1)
  where
    one : IsReadAgain profile lists later g
    one list v s has holds has_version has_subscription =
        again.0 list are.0.version are.0.subscription has holds are.0.has_version are.0.has_subscription
        ∙ ap (λ client. entries_again profile list client are.0.version are.0.subscription.filter g.batch) (sym same)
        ∙ ap (λ w. entries_again profile list later.client w are.0.subscription.filter g.batch) version
        ∙ ap (λ f. entries_again profile list later.client v f g.batch) filter
      where
        version : are.0.version ≡ v
        version = same_Some are.0.version v
            (sym (version_found k e m later new c g.batch.version are.0.version are.0.has_version) ∙ has_version)

        filter : are.0.subscription.filter ≡ s.filter
        filter =
            sym (c.same_filter are.0.subscription)
            ∙ ap (λ (s : Subscription). s.filter)
            (same_Some (c.changed are.0.subscription) s
            (sym (subscription_found k e m later new c are.0.version.subscription are.0.subscription
            are.0.has_subscription)
            ∙ ap (λ (w : Version). subscription_numbered w.subscription later) version ∙ has_subscription))

pub again_append : (profile : Profile) (lists : List ShardList) (m : PlainSession) (gs more : List Group) →
    AreReadAgain profile lists m gs → AreReadAgain profile lists m more →
    AreReadAgain profile lists m (gs ++ more)
again_append profile lists m [] more are also = also
again_append profile lists m (g ∷ gs) more are also = (are.0, again_append profile lists m gs more are.1 also)

pub ends_append : (lists : List ShardList) (gs more : List Group) → AllEndWithin lists gs → AllEndWithin lists more →
    AllEndWithin lists (gs ++ more)
ends_append lists [] more end also = also
ends_append lists (g ∷ gs) more end also = (end.0, ends_append lists gs more end.1 also)

-- ---- sweeps that count

abbrev AreCounted : Profile → List ShardList → PlainSession → Type 0
AreCounted profile lists m = (p : Pair) (list : ShardList) → IsServed lists m p list → IsCounted profile m p list

rests_counted : (profile : Profile) (lists : List ShardList) (m later : PlainSession) → Rests m later →
    AreCounted profile lists m → AreCounted profile lists later
rests_counted profile lists m later r counted p list served =
    let was = served_same lists m later p list r.subscriptions served in
    counted_as_before profile lists m later p list was r.issued
    (counted (record p { subscription = was.before }) list was.served)

changed_counted : (profile : Profile) (lists : List ShardList) (m later : PlainSession) (number : ℕ)
    (f : Subscription → Subscription) → Leaves f → later.subscriptions ≡ map (changed_at number f) m.subscriptions →
    later.issued ≡ m.issued → AreCounted profile lists m → AreCounted profile lists later
changed_counted profile lists m later number f leaves same issued counted p list served =
    let was = served_changed lists m later (changed_at number f) p list (leaves_at number f leaves) same served in
    counted_as_before profile lists m later p list was issued
    (counted (record p { subscription = was.before }) list was.served)

effect_counted : (profile : Profile) (lists : List ShardList) (m : PlainSession) (entries : List Entry)
    (effect : Effect) → AreLists lists →
    is_no_batch effect ≡ true → suits m (plain_effect entries effect) ≡ true → BeginsInShard lists effect →
    AreCounted profile lists m → AreCounted profile lists (changed_session (plain_effect entries effect) m)
effect_counted profile lists m entries (Began b) are single fit starts h = h
effect_counted profile lists m entries Ended are single fit starts h = h
effect_counted profile lists m entries (Bound expiry) are single fit starts h =
    rests_counted profile lists m (changed_session (session.Bound expiry) m) (rests_elsewhere m expiry None) h
effect_counted profile lists m entries (Parted p) are single fit starts h =
    rests_counted profile lists m (changed_session (plain_effect entries (Parted p)) m)
    (rests_elsewhere m p.expiry (Some p.moment)) h
effect_counted profile lists m entries (Subscribed s) are single fit starts h =
    λ p list served. subscribed_counted profile lists m s p list (are p.shard list served.has_list) starts h served
effect_counted profile lists m entries (Replaced r) are single fit starts h =
    changed_counted profile lists m (changed_session (plain_effect entries (Replaced r)) m) r.subscription
    (λ s. record s { version = r.version })
    (record { number = λ s. refl; filter = λ s. refl; starts = λ s. refl; sweeps = λ s. refl; live = λ s is. is })
    (on_is_map r.subscription (λ s. record s { version = r.version }) m.subscriptions) refl h
effect_counted profile lists m entries (Unsubscribed number) are single fit starts h =
    changed_counted profile lists m (changed_session (session.Unsubscribed number) m) number
    (λ s. record s { live = false })
    (record {
      number = λ s. refl;
      filter = λ s. refl;
      starts = λ s. refl;
      sweeps = λ s. refl;
      live =
          λ s is. absurd (true≢false (sym is));
    })
    (on_is_map number (λ s. record s { live = false }) m.subscriptions) refl h
effect_counted profile lists m entries (Issued i) are single fit starts h = absurd (true≢false (sym single))
effect_counted profile lists m entries (Acked number) are single fit starts h =
    rests_counted profile lists m (changed_session (session.Acked number) m) (rests_acked_fit m number fit) h
effect_counted profile lists m entries (Received number) are single fit starts h =
    rests_counted profile lists m (changed_session (session.Received number) m) (rests_received m number) h
effect_counted profile lists m entries (Done number) are single fit starts h =
    rests_counted profile lists m (changed_session (session.Done number) m) (rests_done m m.received (number ∷ [])) h
effect_counted profile lists m entries (Passed p) are single fit starts h =
    rests_counted profile lists m (changed_session (plain_effect entries (Passed p)) m)
    (rests_passed m (record { track = p.track; number = p.number }) fit) h

-- ---- positions

effect_within : (lists : List ShardList) (k : KeptSession) (effect : Effect) (shard : ℕ) (list : ShardList) →
    is_no_batch effect ≡ true → BeginsInShard lists effect → slice_get lists shard ≡ Some list →
    IsWithin k shard list → IsWithin (kept_changed effect k) shard list
effect_within lists k effect shard list single starts has h =
    tidied_within (with_effect effect k) shard list (by effect single starts)
  where
    before : PartsWithin shard list k.subs k.batches
    before = within_parts k shard list h

    by : (effect : Effect) → is_no_batch effect ≡ true → BeginsInShard lists effect →
        PartsWithin shard list (with_effect effect k).subs (with_effect effect k).batches
    by (Began b) single starts = before
    by Ended single starts = before
    by (Bound expiry) single starts = before
    by (Parted p) single starts = before
    by (Subscribed s) single starts = sub_pushed shard lists list s k.subs k.batches has starts before
    by (Replaced r) single starts = subs_changed shard list r.subscription
        (λ (s : KeptSub). record s { version = r.version }) k.subs k.batches (λ s is. is) before
    by (Unsubscribed number) single starts =
        subs_changed shard list number (λ (s : KeptSub). record s { live = false; sweeps = [] }) k.subs k.batches
        (λ s is. none shard) before
      where
        none : (shard : ℕ) → list_all (λ (p : ℕ). nat_le p (next_of list)) (sweep_positions (slice_get [] shard)) ≡ true
        none zero = refl
        none (suc n) = refl
    by (Issued i) single starts = absurd (true≢false (sym single))
    by (Acked number) single starts = before
    by (Received number) single starts = before
    by (Done number) single starts = before
    by (Passed p) single starts = before

-- ---- a change but a batch

no_groups : (effect : Effect) (entries : List Entry) → is_no_batch effect ≡ true → new_groups effect entries ≡ []
no_groups (Began b) entries single = refl
no_groups Ended entries single = refl
no_groups (Bound e) entries single = refl
no_groups (Parted p) entries single = refl
no_groups (Subscribed s) entries single = refl
no_groups (Replaced r) entries single = refl
no_groups (Unsubscribed n) entries single = refl
no_groups (Issued i) entries single = absurd (true≢false (sym single))
no_groups (Acked n) entries single = refl
no_groups (Received n) entries single = refl
no_groups (Done n) entries single = refl
no_groups (Passed p) entries single = refl

pub changed_stands : (profile : Profile) (lists : List ShardList) (k : KeptSession) (m : PlainSession)
    (entries : List Entry) (effect : Effect) →
    AreLists lists → StandsFor profile lists k m → is_no_batch effect ≡ true →
    suits m (plain_effect entries effect) ≡ true → BeginsInShard lists effect →
    StandsFor profile lists (kept_changed effect k) (changed_session (plain_effect entries effect) m)
changed_stands profile lists k m entries effect are h single fit starts =
    let later = changed_session (plain_effect entries effect) m in
    let is = no_entries m effect entries single in
    record {
      groups = h.groups ++ new_groups effect entries;
      keeps = changed_keeps k m h.groups entries effect h.keeps fit is;
      again =
          again_append profile lists later h.groups (new_groups effect entries)
          (again_stays profile lists k (with_effect effect k) m later (new_groups effect entries)
          (effect_change k m h.groups entries effect h.keeps fit is)
          (keeps_client (plain_effect entries effect) m) h.groups h.keeps.are_groups h.again)
          (subst (AreReadAgain profile lists later) (sym (no_groups effect entries single)) tt);
      ends = ends_append lists h.groups (new_groups effect entries) h.ends
          (subst (AllEndWithin lists) (sym (no_groups effect entries single)) tt);
      counted = effect_counted profile lists m entries effect are single fit starts h.counted;
      within = λ shard list has. effect_within lists k effect shard list single starts has (h.within shard list has);
    }
