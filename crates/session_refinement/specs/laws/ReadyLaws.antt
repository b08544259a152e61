-- Where a kept session stands for a plain one, each pair of a live subscription and a shard is ready for a pump.
use Rattle.std.proofs.Common.{◌≡◌, ◌⊎◌, inl, inr, ℕ, zero, suc, ◌+◌, Bool, true, false, if◌then◌else◌, List, [], ◌∷◌}
use Rattle.std.proofs.Common.{slice_get, Some, refl, sym, ap, subst, ◌∙◌, arith}
use Rattle.std.specs.List.{flat_map}
use Rattle.std.proofs.lemmas.Option.{none-some, same_Some}
use Rattle.topic_model.specs.Profile.{Profile}
use Rattle.shard_model.specs.declared.sweep.Sweep.{Sweep}
use Rattle.shard_model.specs.ShardList.{ShardList}
use Rattle.topic_model.specs.Places.{HasPlace}
use Rattle.shard_model.specs.laws.PlaceLaws.{place_either}
use Rattle.session_model.specs.PlainSession.{PlainSession, Subscription}
use Rattle.session_state.specs.KeptSession.{KeptSession}
use Rattle.turn_model.specs.PlainConnection.{PlainConnection}
use Rattle.turn_model.specs.Pump.{Pair, pairs_with}
use Rattle.turn_model.specs.Pumping.{AreReady}
use Rattle.session_refinement.specs.StandFor.{StandsFor}
use Rattle.session_refinement.specs.Issuing.{AreLists}

-- a pair at its place has the start and the sweep there
record IsPlaced (s : Subscription) (starts : List ℕ) (sweeps : List Sweep) (from k : ℕ) (p : Pair) : Type 0 where
  subscription : p.subscription ≡ s
  shard : p.shard ≡ from + k
  start : slice_get starts k ≡ Some p.start
  sweep : slice_get sweeps k ≡ Some p.sweep

placed : (s : Subscription) (from : ℕ) (starts : List ℕ) (sweeps : List Sweep) (k : ℕ) (p : Pair) →
    slice_get (pairs_with s from starts sweeps) k ≡ Some p → IsPlaced s starts sweeps from k p
placed s from [] sweeps k p at = absurd (none-some p at)
placed s from (start ∷ starts) [] k p at = absurd (none-some p at)
placed s from (start ∷ starts) (sweep ∷ sweeps) zero p at =
    let one : Pair = record { subscription = s; shard = from; start = start; sweep = sweep } in
    let same = same_Some one p at in
    let none : from ≡ from + 0 = omega arith in
    record {
      subscription = ap (λ (p : Pair). p.subscription) (sym same);
      shard = ap (λ (p : Pair). p.shard) (sym same) ∙ none;
      start = ap (λ (p : Pair). Some p.start) same;
      sweep = ap (λ (p : Pair). Some p.sweep) same;
    }
placed s from (start ∷ starts) (sweep ∷ sweeps) (suc k) p at =
    let rest = placed s (from + 1) starts sweeps k p at in
    let next : from + 1 + k ≡ from + suc k = omega arith in
    record { subscription = rest.subscription; shard = rest.shard ∙ next; start = rest.start; sweep = rest.sweep }

record IsPairOf (ss : List Subscription) (p : Pair) : Type 0 where
  has_subscription : HasPlace ss p.subscription
  live : p.subscription.live ≡ true
  start : slice_get p.subscription.starts p.shard ≡ Some p.start
  sweep : slice_get p.subscription.sweeps p.shard ≡ Some p.sweep

abbrev pairs_if : Subscription → List Pair
pairs_if s = if s.live then pairs_with s 0 s.starts s.sweeps else []

pair_of : (ss : List Subscription) (k : ℕ) (p : Pair) → slice_get (flat_map pairs_if ss) k ≡ Some p → IsPairOf ss p
pair_of [] k p at = absurd (none-some p at)
pair_of (s ∷ ss) k p at = by (place_either (pairs_if s) (flat_map pairs_if ss) k p at) (pair_of ss)
  where
    one : IsPlaced s s.starts s.sweeps 0 (p.shard) p → s.live ≡ true → IsPairOf (s ∷ ss) p
    one h live =
        record {
          has_subscription = (0, ap (λ t. Some t) (sym h.subscription));
          live = ap (λ (t : Subscription). t.live) h.subscription ∙ live;
          start = ap (λ (t : Subscription). slice_get t.starts p.shard) h.subscription ∙ h.start;
          sweep = ap (λ (t : Subscription). slice_get t.sweeps p.shard) h.subscription ∙ h.sweep;
        }

    here : (b : Bool) → s.live ≡ b → (j : ℕ) →
        slice_get (if b then pairs_with s 0 s.starts s.sweeps else []) j ≡ Some p → IsPairOf (s ∷ ss) p
    here false dead j at = absurd (none-some p at)
    here true live j at =
        let h = placed s 0 s.starts s.sweeps j p at in
        let none : 0 + j ≡ j = omega arith in
        one (subst (λ n. IsPlaced s s.starts s.sweeps 0 n p) (sym (h.shard ∙ none)) h) live

    by : HasPlace (pairs_if s) p ⊎ HasPlace (flat_map pairs_if ss) p →
        ((k : ℕ) (p : Pair) → slice_get (flat_map pairs_if ss) k ≡ Some p → IsPairOf ss p) → IsPairOf (s ∷ ss) p
    by (inl there) rest = here s.live refl there.0 there.1
    by (inr there) rest =
        let h = rest there.0 p there.1 in
        record {
          has_subscription = (suc h.has_subscription.0, h.has_subscription.1);
          live = h.live;
          start =
              h.start;
          sweep = h.sweep;
        }

pub standing_is_ready : (profile : Profile) (lists : List ShardList) (k : KeptSession) (m : PlainSession)
    (connection : PlainConnection) (now : ℕ) → AreLists lists → StandsFor profile lists k m →
    AreReady profile now m connection lists
standing_is_ready profile lists k m connection now are h p v list has at version =
    let pair = pair_of m.subscriptions has.0 p has.1 in
    let counted =
    h.counted p list
    (record {
      has_subscription = pair.has_subscription;
      live = pair.live;
      has_start = pair.start;
      has_sweep =
          pair.sweep;
      has_list = at;
    }) in
    record { list = are p.shard list at; order = counted.order; counts = counted.counts }
