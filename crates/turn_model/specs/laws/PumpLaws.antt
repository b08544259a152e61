-- The batch that a pump computes may be issued.
use Rattle.std.proofs.Common.{◌≡◌, ◌⊎◌, inl, inr, ℕ, suc, ◌+◌, ◌<◌, ◌≤◌, true, ◌&&◌, ◌||◌, eqb, List, [], ◌∷◌, length}
use Rattle.std.proofs.Common.{take, Some, slice_get, refl, sym, ap, subst, ◌∙◌, arith}
use Rattle.std.proofs.lemmas.List.{length-take, take-take, take_all}
use Rattle.std.proofs.lemmas.List.Folds.{list_any-append}
use Rattle.std.proofs.lemmas.Bool.{eq-eqb}
use Rattle.std.specs.List.{list_any}
use Rattle.topic_model.specs.Profile.{Profile}
use Rattle.topic_model.specs.StoredMessage.{StoredMessage}
use Rattle.shard_model.specs.declared.sweep.Sweep.{Sweep}
use Rattle.shard_model.specs.SweepOrder.{Run, is_issued_by, sweep_after, is_in_order}
use Rattle.topic_model.specs.Places.{HasPlace}
use Rattle.shard_model.specs.laws.PlaceLaws.{place_taken, place_within, taken_before}
use Rattle.shard_model.specs.NextRun.{IsNextRun}
use Rattle.shard_model.specs.laws.NextRunLaws.{next_run_is}
use Rattle.turn_model.specs.Delivery.{Reader, kind_for}
use Rattle.turn_model.specs.PlainConnection.{rest_of}
use Rattle.turn_model.specs.Batch.{pump_limit, entries_from, count1, count2, next1_of, next2_of}
use Rattle.turn_model.specs.Pump.{issues_of}
use Rattle.turn_model.specs.MayIssue.{Issuing, reader_of, wanted_by, is_issue_of, was_issued, Ascend, MayIssue}
use Rattle.turn_model.specs.Counting.{CountsIssued, ComesNext, taken_of, batch_of, issued_to}
use Rattle.turn_model.specs.laws.CutLaws.{IsBatch, batch_is}

ascend_from : (ws : List StoredMessage) →
    ((k j : ℕ) (w v : StoredMessage) → slice_get ws k ≡ Some w → slice_get ws j ≡ Some v → k < j →
    w.offset < v.offset) → Ascend ws
ascend_from [] rise = tt
ascend_from (w ∷ []) rise = tt
ascend_from (w ∷ v ∷ ws) rise = (
  rise 0 1 w v refl refl (omega arith),
  ascend_from (v ∷ ws) (λ k j x y e f before. rise (suc k) (suc j) x y e f (omega arith)),
)

-- the sweep behind a batch stands behind its last message
record IsLast (sweep : Sweep) (ws : List StoredMessage) : Type 0 where
  place : ℕ
  last : StoredMessage
  there : slice_get ws place ≡ Some last
  after : sweep_after sweep ws ≡ record sweep { position = last.offset + 1 }
  ends : length ws ≡ place + 1

last_of : (sweep : Sweep) (ws : List StoredMessage) → 0 < length ws → IsLast sweep ws
last_of sweep [] some = absurd (omega arith)
last_of sweep (w ∷ []) some = record { place = 0; last = w; there = refl; after = refl; ends = omega arith }
last_of sweep (w ∷ v ∷ ws) some =
    let rest = last_of sweep (v ∷ ws) (omega arith) in
    let ends : length (v ∷ ws) ≡ rest.place + 1 = rest.ends in
    record { place = suc rest.place; last = rest.last; there = rest.there; after = rest.after; ends = omega arith }

-- the entries of some messages are issues of these
entry_is : (subscription shard offset other : ℕ) →
    (eqb subscription subscription && (eqb shard shard && eqb other offset)) ≡ eqb other offset
entry_is subscription shard offset other =
    ap (λ b. b && (eqb shard shard && eqb other offset)) (eq-eqb subscription subscription refl)
    ∙ ap (λ b. b && eqb other offset) (eq-eqb shard shard refl)

entries_issue : (now : ℕ) (r : Reader) (next1 next2 offset : ℕ) (ws : List StoredMessage) →
    list_any (is_issue_of r.subscription r.shard offset) (entries_from now r next1 next2 ws)
    ≡ list_any (λ (v : StoredMessage). eqb v.offset offset) ws
entries_issue now r next1 next2 offset [] = refl
entries_issue now r next1 next2 offset (w ∷ ws) =
    let kind = kind_for now r w next1 next2 in
    ap (λ b. b || list_any (is_issue_of r.subscription r.shard offset)
    (entries_from now r (next1 + count1 kind) (next2 + count2 kind) ws))
    (entry_is r.subscription r.shard offset w.offset)
    ∙ ap (λ b. eqb w.offset offset || b) (entries_issue now r (next1 + count1 kind) (next2 + count2 kind) offset ws)

module _ (profile : Profile) (i : Issuing) (sweep : Sweep) (run : Run) (counts : CountsIssued profile i sweep)
    (next : IsNextRun profile i.subscription.filter i.start i.list sweep
    (pump_limit profile i.session i.connection) run) where
  -- for any front of the run that is not none, alike and short
  may_issue_front : (ws : List StoredMessage) → rest_of i.session i.connection ≡ [] → i.subscription.live ≡ true →
      IsBatch profile i.now (reader_of i) (next1_of i.session) (next2_of i.session) run.messages ws →
      MayIssue profile i (issues_of (reader_of i) i.session i.now ws run.sweep) ws
  may_issue_front ws first live batch =
      record {
        first = first;
        live = live;
        subscription = refl;
        shard = refl;
        entries = refl;
        some = batch.some;
        ascending = ascend_from ws (λ k j w v e f before. next.rise k j w v (in_run k w e) (in_run j v f) before);
        are_wanted = λ k w e. next.are_wanted k w (in_run k w e);
        are_new = λ k w e. counts w (next.are_wanted k w (in_run k w e)) ∙ next.are_new k w (in_run k w e);
        in_turn = λ place w earlier e has less same. turn place w earlier e has
            (next.in_turn place w earlier (in_run place w e) has less same);
        alike = batch.alike;
        few = few;
        short = batch.short;
      }
    where
      in_run : (k : ℕ) (w : StoredMessage) → slice_get ws k ≡ Some w → slice_get run.messages k ≡ Some w
      in_run k w e = place_taken batch.front.0 run.messages k w (ap (λ l. slice_get l k) (sym batch.front.1) ∙ e)

      turn : (place : ℕ) (w earlier : StoredMessage) → slice_get ws place ≡ Some w → HasPlace (wanted_by i) earlier →
          (is_issued_by profile i.list sweep earlier.offset ≡ true)
          ⊎ ((j : ℕ) × (j < place) × (slice_get run.messages j ≡ Some earlier)) →
          (was_issued i earlier.offset ≡ true)
          ⊎ ((before : ℕ) × (before < place) × (slice_get ws before ≡ Some earlier))
      turn place w earlier e has (inl issued) = inl (counts earlier has ∙ issued)
      turn place w earlier e has (inr there) =
          inr (
            there.0,
            there.1,
            ap (λ l. slice_get l there.0) batch.front.1
                ∙ taken_before batch.front.0 run.messages place there.0 w earlier
                (ap (λ l. slice_get l place) (sym batch.front.1) ∙ e) there.1 there.2,
          )

      few : length ws ≤ pump_limit profile i.session i.connection
      few =
          let long : length ws ≡ length (take batch.front.0 run.messages) = ap length batch.front.1 in
          let taken = length-take batch.front.0 run.messages in
          let most : length run.messages ≤ pump_limit profile i.session i.connection = next.few in
          at_most_of (pump_limit profile i.session i.connection) most long taken
        where
          at_most_of : (limit : ℕ) → length run.messages ≤ limit →
              length ws ≡ length (take batch.front.0 run.messages) →
              length (take batch.front.0 run.messages) ≡ Prim.Native.Nat.min batch.front.0 (length run.messages) →
              length ws ≤ limit
          at_most_of limit most long taken = omega arith

  -- the sweep behind it is in order
  order_behind : (ws : List StoredMessage) →
      IsBatch profile i.now (reader_of i) (next1_of i.session) (next2_of i.session) run.messages ws →
      is_in_order profile i.list i.start (sweep_after run.sweep ws) ≡ true
  order_behind ws batch =
      let last = last_of run.sweep ws batch.some in
      let there : slice_get run.messages last.place ≡ Some last.last =
      place_taken batch.front.0 run.messages last.place last.last
      (ap (λ l. slice_get l last.place) (sym batch.front.1) ∙ last.there) in
      subst (λ (s : Sweep). is_in_order profile i.list i.start s ≡ true) (sym last.after)
      (next.order last.place last.last there)

  -- and counts those that were counted, and these
  counts_behind : (ws : List StoredMessage) (m : StoredMessage) →
      IsBatch profile i.now (reader_of i) (next1_of i.session) (next2_of i.session) run.messages ws →
      HasPlace (wanted_by i) m →
      is_issued_by profile i.list (sweep_after run.sweep ws) m.offset
      ≡ (was_issued i m.offset || list_any (λ (v : StoredMessage). eqb v.offset m.offset) ws)
  counts_behind ws m batch has =
      let last = last_of run.sweep ws batch.some in
      let there : slice_get run.messages last.place ≡ Some last.last =
      place_taken batch.front.0 run.messages last.place last.last
      (ap (λ l. slice_get l last.place) (sym batch.front.1) ∙ last.there) in
      let under : last.place < batch.front.0 =
      place_within batch.front.0 run.messages last.place last.last
      (ap (λ l. slice_get l last.place) (sym batch.front.1) ∙ last.there) in
      let ends : length ws ≡ last.place + 1 = last.ends in
      let these : take (suc last.place) run.messages ≡ ws =
      sym (take-take (suc last.place) batch.front.0 run.messages (omega arith))
      ∙ ap (take (suc last.place)) (sym batch.front.1) ∙ take_all (suc last.place) ws (omega arith) in
      ap (λ (s : Sweep). is_issued_by profile i.list s m.offset) last.after
      ∙ next.counts last.place last.last m there has
      ∙ ap (λ l. is_issued_by profile i.list sweep m.offset
      || list_any (λ (v : StoredMessage). eqb v.offset m.offset) l) these
      ∙ ap (λ b. b || list_any (λ (v : StoredMessage). eqb v.offset m.offset) ws) (sym (counts m has))

-- ---- the law

module _ (profile : Profile) (i : Issuing) (sweep : Sweep) (run : Run) (comes : ComesNext profile i sweep run) where
  next_is : IsNextRun profile i.subscription.filter i.start i.list sweep (pump_limit profile i.session i.connection) run
  next_is = next_run_is profile i.subscription.filter i.start i.list sweep
      (pump_limit profile i.session i.connection) run comes.list comes.order comes.next

  taken_is : IsBatch profile i.now (reader_of i) (next1_of i.session) (next2_of i.session) run.messages
      (taken_of profile i run)
  taken_is = batch_is profile i.now (reader_of i) (next1_of i.session) (next2_of i.session) run.messages
      (let n = next_is in n.some)

  pub batch_may_be_issued : MayIssue profile i (batch_of profile i run) (taken_of profile i run)
  batch_may_be_issued = may_issue_front profile i sweep run comes.counts next_is
      (taken_of profile i run) comes.first comes.live taken_is

  pub sweep_behind_in_order : is_in_order profile i.list i.start (batch_of profile i run).sweep ≡ true
  sweep_behind_in_order = order_behind profile i sweep run comes.counts next_is (taken_of profile i run) taken_is

  pub sweep_behind_counts : CountsIssued profile (issued_to i (batch_of profile i run)) (batch_of profile i run).sweep
  sweep_behind_counts w has =
      list_any-append (is_issue_of i.subscription.number i.shard w.offset) i.session.issued
      (batch_of profile i run).entries
      ∙ ap (λ b. was_issued i w.offset || b)
      (entries_issue i.now (reader_of i) (next1_of i.session) (next2_of i.session) w.offset
      (taken_of profile i run))
      ∙ sym (counts_behind profile i sweep run comes.counts next_is (taken_of profile i run) w taken_is has)
