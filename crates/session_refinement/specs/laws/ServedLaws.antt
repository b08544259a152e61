-- Which pairs of a subscription and a shard are served after a change, and that their sweeps go on to count what was
-- issued.
use Rattle.std.proofs.Common.{◌≡◌, ◌⊎◌, inl, inr, ℕ, zero, suc, Bool, true, false, ◌==◌, List, [], ◌∷◌, map, slice_get}
use Rattle.std.proofs.Common.{Some, refl, sym, ap, subst, ◌∙◌}
use Rattle.std.specs.List.{list_any}
use Rattle.std.proofs.lemmas.Option.{none-some, same_Some}
use Rattle.topic_model.specs.Profile.{Profile}
use Rattle.shard_model.specs.declared.sweep.Sweep.{Sweep}
use Rattle.shard_model.specs.ShardList.{ShardList, next_of}
use Rattle.shard_model.specs.SweepOrder.{is_in_order, starting_sweep}
use Rattle.shard_model.specs.Lists.{IsList}
use Rattle.shard_model.specs.Wanted.{wanted}
use Rattle.topic_model.specs.Places.{HasPlace}
use Rattle.shard_model.specs.laws.PlaceLaws.{place_either, place_mapped, mapped_place}
use Rattle.session_model.specs.PlainSession.{PlainSession, Subscription}
use Rattle.session_model.specs.Change.{Subscribes}
use Rattle.session_model.specs.Acting.{changed_if, subscribed_session}
use Rattle.turn_model.specs.Pump.{Pair}
use Rattle.turn_model.specs.MayIssue.{is_issue_of}
use Rattle.session_refinement.specs.StandFor.{IsServed, IsCounted}
use Rattle.session_refinement.specs.laws.OneSubLaws.{changed_at}
use Rattle.session_refinement.specs.laws.EffectLaws.{new_subscription}
use Rattle.session_refinement.specs.laws.StartLaws.{start_in_order, none_wanted}

-- the pair was served before the change, with the same sweep
pub record WasServed (lists : List ShardList) (m : PlainSession) (p : Pair) (list : ShardList) : Type 0 where
  pub before : Subscription
  pub served : IsServed lists m (record p { subscription = before }) list
  pub number : before.number ≡ p.subscription.number
  pub filter : before.filter ≡ p.subscription.filter

pub counted_as_before : (profile : Profile) (lists : List ShardList) (m later : PlainSession) (p : Pair)
    (list : ShardList) → (was : WasServed lists m p list) → later.issued ≡ m.issued →
    IsCounted profile m (record p { subscription = was.before }) list → IsCounted profile later p list
counted_as_before profile lists m later p list was same h =
    record {
      order = h.order;
      counts = λ w has.
          ap (list_any (is_issue_of p.subscription.number p.shard w.offset)) same
          ∙ ap (λ n. list_any (is_issue_of n p.shard w.offset) m.issued) (sym was.number)
          ∙ h.counts w (subst (λ f. HasPlace (wanted f p.start list) w) (sym was.filter) has);
    }

-- ---- each kind of change

pub served_same : (lists : List ShardList) (m later : PlainSession) (p : Pair) (list : ShardList) →
    later.subscriptions ≡ m.subscriptions → IsServed lists later p list → WasServed lists m p list
served_same lists m later p list same h =
    record {
      before = p.subscription;
      served = record {
        has_subscription = subst (λ ss. HasPlace ss p.subscription) same h.has_subscription;
        live = h.live;
        has_start = h.has_start;
        has_sweep = h.has_sweep;
        has_list = h.has_list;
      };
      number = refl;
      filter = refl;
    }

-- a change of a subscription that leaves its number, filter, starts and sweeps, and revives none
pub record Leaves (f : Subscription → Subscription) : Type 0 where
  pub number : (s : Subscription) → (f s).number ≡ s.number
  pub filter : (s : Subscription) → (f s).filter ≡ s.filter
  pub starts : (s : Subscription) → (f s).starts ≡ s.starts
  pub sweeps : (s : Subscription) → (f s).sweeps ≡ s.sweeps
  pub live : (s : Subscription) → (f s).live ≡ true → s.live ≡ true

pub leaves_at : (number : ℕ) (f : Subscription → Subscription) → Leaves f → Leaves (changed_at number f)
leaves_at number f h =
    record {
      number = λ s. by (λ s. s.number) s (s.number == number) (h.number s);
      filter = λ s. by (λ s. s.filter) s (s.number == number) (h.filter s);
      starts = λ s. by (λ s. s.starts) s (s.number == number) (h.starts s);
      sweeps = λ s. by (λ s. s.sweeps) s (s.number == number) (h.sweeps s);
      live = λ s. lives s (s.number == number);
    }
  where
    by : {A : Type 0} (of : Subscription → A) (s : Subscription) (b : Bool) → of (f s) ≡ of s → of (changed_if b f s)
        ≡ of s
    by of s true same = same
    by of s false same = refl

    lives : (s : Subscription) (b : Bool) → (changed_if b f s).live ≡ true → s.live ≡ true
    lives s true is = h.live s is
    lives s false is = is

pub served_changed : (lists : List ShardList) (m later : PlainSession) (f : Subscription → Subscription) (p : Pair)
    (list : ShardList) → Leaves f → later.subscriptions ≡ map f m.subscriptions →
    IsServed lists later p list → WasServed lists m p list
served_changed lists m later f p list leaves same h =
    record {
      before = was.0;
      served = record {
        has_subscription = (place.0, was.1);
        live = leaves.live was.0 (ap (λ (s : Subscription). s.live) was.2 ∙ h.live);
        has_start = ap (λ l. slice_get l p.shard)
            (sym (leaves.starts was.0) ∙ ap (λ (s : Subscription). s.starts) was.2) ∙ h.has_start;
        has_sweep = ap (λ l. slice_get l p.shard)
            (sym (leaves.sweeps was.0) ∙ ap (λ (s : Subscription). s.sweeps) was.2) ∙ h.has_sweep;
        has_list = h.has_list;
      };
      number = sym (leaves.number was.0) ∙ ap (λ (s : Subscription). s.number) was.2;
      filter = sym (leaves.filter was.0) ∙ ap (λ (s : Subscription). s.filter) was.2;
    }
  where
    place : HasPlace (map f m.subscriptions) p.subscription
    place = subst (λ ss. HasPlace ss p.subscription) same h.has_subscription

    was : (s : Subscription) × (slice_get m.subscriptions place.0 ≡ Some s) × (f s ≡ p.subscription)
    was = mapped_place f m.subscriptions place.0 p.subscription place.1

-- ---- a new subscription

-- its sweeps start where the lists end
pub subscribed_counted : (profile : Profile) (lists : List ShardList) (m : PlainSession) (s : Subscribes) (p : Pair)
    (list : ShardList) → IsList list → s.sweeps ≡ map starting_sweep lists →
    ((p : Pair) (list : ShardList) → IsServed lists m p list → IsCounted profile m p list) →
    IsServed lists (subscribed_session s m) p list → IsCounted profile (subscribed_session s m) p list
subscribed_counted profile lists m s p list is starts counted h =
    by (place_either m.subscriptions (new_subscription s ∷ []) h.has_subscription.0 p.subscription h.has_subscription.1)
  where
    old : HasPlace m.subscriptions p.subscription → IsCounted profile (subscribed_session s m) p list
    old there =
        let was : WasServed lists m p list = record {
          before = p.subscription;
          served =
              record {
                has_subscription = there;
                live = h.live;
                has_start = h.has_start;
                has_sweep =
                    h.has_sweep;
                has_list = h.has_list;
              };
          number = refl;
          filter = refl;
        } in
        counted_as_before profile lists m (subscribed_session s m) p list was refl (counted p list was.served)

    new : new_subscription s ≡ p.subscription → IsCounted profile (subscribed_session s m) p list
    new same =
        record {
          order = subst (λ start. is_in_order profile list start p.sweep ≡ true) start
              (subst (λ sweep. is_in_order profile list (next_of list) sweep ≡ true) sweep
              (start_in_order profile list is));
          counts =
              λ w has. absurd
              (none_wanted p.subscription.filter list w is
              (subst (λ n. HasPlace (wanted p.subscription.filter n list) w) (sym start) has));
        }
      where
        sweep : starting_sweep list ≡ p.sweep
        sweep =
            same_Some (starting_sweep list) p.sweep
            (sym (place_mapped starting_sweep lists p.shard list h.has_list)
            ∙ ap (λ l. slice_get l p.shard) (sym starts ∙ ap (λ (t : Subscription). t.sweeps) same) ∙ h.has_sweep)

        start : next_of list ≡ p.start
        start =
            same_Some (next_of list) p.start
            (sym (place_mapped (λ (w : Sweep). w.position) s.sweeps p.shard (starting_sweep list)
            (ap (λ l. slice_get l p.shard) starts ∙ place_mapped starting_sweep lists p.shard list h.has_list))
            ∙ ap (λ l. slice_get l p.shard) (ap (λ (t : Subscription). t.starts) same) ∙ h.has_start)

    one : (k : ℕ) → slice_get (new_subscription s ∷ []) k ≡ Some p.subscription → new_subscription s ≡ p.subscription
    one zero at = same_Some (new_subscription s) p.subscription at
    one (suc k) at = absurd (none-some p.subscription at)

    by : HasPlace m.subscriptions p.subscription ⊎ HasPlace (new_subscription s ∷ []) p.subscription →
        IsCounted profile (subscribed_session s m) p list
    by (inl there) = old there
    by (inr there) = new (one there.0 there.1)
