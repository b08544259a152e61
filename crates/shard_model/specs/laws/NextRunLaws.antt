-- The next run of a sweep in order is what it is to be.
use Rattle.std.proofs.Common.{◌≡◌, ◌⊎◌, inl, inr, ℕ, zero, suc, ◌+◌, ◌<◌, ◌≤◌, Bool, true, false, ◌&&◌, ◌||◌, ltb, leb}
use Rattle.std.proofs.Common.{eqb, if◌then◌else◌, List, [], ◌∷◌, length, filter, take, Option, Some, None, slice_get}
use Rattle.std.proofs.Common.{refl, sym, ap, subst, ◌∙◌, arith}
use Rattle.std.specs.List.{list_any}
use Rattle.std.proofs.lemmas.Bool.{and_parts, and_from, cases_lt, cases_eq, cases_order, cases_Bool, eq-eqb, eqb-true}
use Rattle.std.proofs.lemmas.Bool.{ltb-true, leb-true, lt-ltb, le-ltb, le-leb, false≢true}
use Rattle.std.proofs.lemmas.Bool.Decides.{nat_tests}
use Rattle.std.proofs.lemmas.List.{length-take, take-take}
use Rattle.std.proofs.lemmas.Option.{none-some, same_Some, slice_get_within}
use Rattle.topic_model.specs.StoredMessage.{StoredMessage}
use Rattle.topic_model.specs.Profile.{Profile}
use Rattle.shard_model.specs.declared.sweep.Sweep.{Sweep}
use Rattle.shard_model.specs.ShardList.{ShardList, oldest_of, floor_of, next_of}
use Rattle.shard_model.specs.Streams.{StreamMessage, HeldGeneration, held_generations}
use Rattle.shard_model.specs.Wanted.{is_wanted, wanted, same_topic}
use Rattle.shard_model.specs.SweepOrder.{at_cut, held_sweep, is_behind, is_issued_in, is_issued_by, stretches, is_in}
use Rattle.shard_model.specs.SweepOrder.{wanted_in, Run, first_run, at_most, next_run, is_in_order}
use Rattle.shard_model.specs.Lists.{IsList}
use Rattle.shard_model.specs.laws.ListLaws.{newest_number}
use Rattle.topic_model.specs.Places.{HasPlace}
use Rattle.shard_model.specs.laws.PlaceLaws.{place_kept, kept_place, any_place, place_any, place_taken, place_within}
use Rattle.shard_model.specs.laws.PlaceLaws.{taken_under, taken_before, place_mapped, mapped_place, Rising}
use Rattle.shard_model.specs.laws.PlaceLaws.{rising_places, kept_rise}
use Rattle.shard_model.specs.laws.HeldLaws.{end_of, held_place, held_number, held_offset, held_one, held_apart}
use Rattle.shard_model.specs.laws.HeldLaws.{streamed_one, same_stream, end_is, list_held, Lies, list_lies, lies_in_list}
use Rattle.shard_model.specs.laws.HeldLaws.{held_long}
use Rattle.shard_model.specs.laws.RunLaws.{IsRun, RunOutcome}
use Rattle.shard_model.specs.NextRun.{IsNextRun}
use Rattle.shard_model.specs.laws.SweepLaws.{order_is, order_from, list_run, issued_is}

-- ---- the messages of a run

-- a message of a stretch
record IsOf (wish : List (List ℕ)) (start : ℕ) (sweep : Sweep) (g : HeldGeneration) (w : StoredMessage) : Type 0 where
  streamed : StreamMessage
  lies : HasPlace g.messages streamed
  inside : is_in sweep streamed ≡ true
  wanted : is_wanted wish start streamed.message ≡ true
  message : streamed.message ≡ w

is_of : (wish : List (List ℕ)) (start : ℕ) (sweep : Sweep) (g : HeldGeneration) (k : ℕ) (w : StoredMessage) →
    slice_get (wanted_in wish start (record { sweep = sweep; messages = g.messages })) k ≡ Some w →
    IsOf wish start sweep g w
is_of wish start sweep g k w e =
    let found = mapped_place (λ (s : StreamMessage). s.message)
    (filter (λ (s : StreamMessage). is_in sweep s && is_wanted wish start s.message) g.messages) k w e in
    let there = kept_place (λ (s : StreamMessage). is_in sweep s && is_wanted wish start s.message) g.messages k found.0
    found.1 in
    let parts = and_parts (is_in sweep found.0) (is_wanted wish start found.0.message) there.1 in
    record { streamed = found.0; lies = there.0; inside = parts.0; wanted = parts.1; message = found.2 }

record IsInside (sweep : Sweep) (s : StreamMessage) : Type 0 where
  stream : s.stream ≡ sweep.stream
  position : sweep.position ≤ s.message.offset
  target : s.message.offset < sweep.target

inside_is : (sweep : Sweep) (s : StreamMessage) → is_in sweep s ≡ true → IsInside sweep s
inside_is sweep s e =
    let one = and_parts (eqb s.stream sweep.stream)
    (leb sweep.position s.message.offset && ltb s.message.offset sweep.target) e in
    let two = and_parts (leb sweep.position s.message.offset) (ltb s.message.offset sweep.target) one.1 in
    record {
      stream = eqb-true s.stream sweep.stream one.0;
      position = leb-true sweep.position s.message.offset two.0;
      target = ltb-true s.message.offset sweep.target two.1;
    }

inside_from : (sweep : Sweep) (s : StreamMessage) → IsInside sweep s → is_in sweep s ≡ true
inside_from sweep s is =
    and_from (eqb s.stream sweep.stream) (leb sweep.position s.message.offset && ltb s.message.offset sweep.target)
    (eq-eqb s.stream sweep.stream is.stream)
    (and_from (leb sweep.position s.message.offset) (ltb s.message.offset sweep.target)
    (le-leb sweep.position s.message.offset is.position) (lt-ltb s.message.offset sweep.target is.target))

-- each wanted message of a stretch is among them
of_stretch : (wish : List (List ℕ)) (start : ℕ) (sweep : Sweep) (g : HeldGeneration) (s : StreamMessage)
    (m : StoredMessage) → HasPlace g.messages s → IsInside sweep s → is_wanted wish start s.message ≡ true →
    s.message ≡ m →
    HasPlace (wanted_in wish start (record { sweep = sweep; messages = g.messages })) m
of_stretch wish start sweep g s m lies inside w same =
    let among =
    place_kept (λ (s : StreamMessage). is_in sweep s && is_wanted wish start s.message) g.messages lies.0 s lies.1
    (and_from (is_in sweep s) (is_wanted wish start s.message) (inside_from sweep s inside) w) in (
      among.0,
      place_mapped (λ (s : StreamMessage). s.message)
          (filter (λ (s : StreamMessage). is_in sweep s && is_wanted wish start s.message) g.messages) among.0 s among.1
          ∙ ap Some same,
    )

-- what a sweep counts of a message in its own generation, of one in a stretch of it, and of one in an earlier
-- generation
not_behind : (generation base target stream position o t : ℕ) → base ≤ position → t ≡ stream → position ≤ o →
    (ltb generation generation
    || (eqb generation generation
    && (ltb o base || (ltb o target && (ltb t stream || (eqb t stream && ltb o position)))))) ≡ false
not_behind generation base target stream position o t base_le same from = grind (arith, nat_tests)

now_behind : (generation base target stream position o t : ℕ) → t ≡ stream → o < position → o < target →
    (ltb generation generation
    || (eqb generation generation
    && (ltb o base || (ltb o target && (ltb t stream || (eqb t stream && ltb o position)))))) ≡ true
now_behind generation base target stream position o t same below to = grind (arith, nat_tests)

-- what the sweep behind a place counts
still_behind : (number generation base target stream position after o t : ℕ) → position ≤ after →
    (ltb number generation
    || (eqb number generation
    && (ltb o base || (ltb o target && (ltb t stream || (eqb t stream && ltb o position)))))) ≡ true →
    (ltb number generation
    || (eqb number generation && (ltb o base || (ltb o target && (ltb t stream || (eqb t stream && ltb o after))))))
    ≡ true
still_behind number generation base target stream position after o t le e = grind (arith, nat_tests)

record IsBetween (number generation target stream position after o t : ℕ) : Type 0 where
  same : number ≡ generation
  one : t ≡ stream
  from : position ≤ o
  to : o < after
  within : o < target

between_is : (number generation base target stream position after o t : ℕ) →
    (ltb number generation
    || (eqb number generation
    && (ltb o base || (ltb o target && (ltb t stream || (eqb t stream && ltb o position)))))) ≡ false →
    (ltb number generation
    || (eqb number generation && (ltb o base || (ltb o target && (ltb t stream || (eqb t stream && ltb o after))))))
    ≡ true →
    IsBetween number generation target stream position after o t
between_is number generation base target stream position after o t uncounted counted =
    record {
      same = grind (arith, nat_tests);
      one = grind (arith, nat_tests);
      from = grind (arith, nat_tests);
      to = grind (arith, nat_tests);
      within = grind (arith, nat_tests);
    }

module _ (profile : Profile) (wish : List (List ℕ)) (start : ℕ) (list : ShardList) (is : IsList list) (sweep : Sweep)
    (run : Run) (r : IsRun wish start (held_generations profile list) (held_sweep list sweep) run) where
  of_run : (k : ℕ) (w : StoredMessage) → slice_get run.messages k ≡ Some w → IsOf wish start run.sweep r.generation w
  of_run k w e = is_of wish start run.sweep r.generation k w (ap (λ l. slice_get l k) (sym r.messages) ∙ e)

  run_rises : Rising 0 run.messages
  run_rises =
      let place = held_place (oldest_of list.cuts).number (floor_of list)
      (held_generations profile list) r.held.0 r.generation (list_held profile list is) r.held.1 in
      subst (Rising 0) (sym r.messages)
      (kept_rise (λ (s : StreamMessage). is_in run.sweep s && is_wanted wish start s.message) 0
      r.generation.cut.first r.generation.messages place.0.offsets (omega arith))

  run_wanted : (k : ℕ) (w : StoredMessage) → slice_get run.messages k ≡ Some w → HasPlace (wanted wish start list) w
  run_wanted k w e =
      let o = of_run k w e in
      let there = lies_in_list profile list r.generation o.streamed is r.held o.lies in
      subst (HasPlace (wanted wish start list)) o.message
      (place_kept (is_wanted wish start) list.messages there.0 o.streamed.message there.1 o.wanted)

  -- what the sweep counts of a wanted message, the run's sweep does
  counted : (g : HeldGeneration) (s : StreamMessage) → HasPlace (held_generations profile list) g →
      HasPlace g.messages s → is_wanted wish start s.message ≡ true →
      is_issued_by profile list sweep s.message.offset ≡ is_issued_in run.sweep g.cut.number s
  counted g s has_g has_s w = issued_is profile wish start list is sweep g s has_g has_s
      ∙ r.counts.same g s has_g has_s w

  run_new : (k : ℕ) (w : StoredMessage) → slice_get run.messages k ≡ Some w →
      is_issued_by profile list sweep w.offset ≡ false
  run_new k w e =
      let o = of_run k w e in
      let inside = inside_is run.sweep o.streamed o.inside in
      ap (λ (m : StoredMessage). is_issued_by profile list sweep m.offset) (sym o.message)
      ∙ counted r.generation o.streamed r.held o.lies o.wanted
      ∙ ap (λ n. ltb n run.sweep.generation || (eqb n run.sweep.generation && is_behind run.sweep o.streamed))
      (sym r.number)
      ∙ not_behind run.sweep.generation run.sweep.base run.sweep.target run.sweep.stream run.sweep.position
      o.streamed.message.offset o.streamed.stream r.base inside.stream inside.position

  run_in_turn : (k : ℕ) (w earlier : StoredMessage) → slice_get run.messages k ≡ Some w →
      HasPlace (wanted wish start list) earlier → earlier.offset < w.offset → same_topic earlier.topic w.topic ≡ true →
      (is_issued_by profile list sweep earlier.offset ≡ true)
      ⊎ ((j : ℕ) × (j < k) × (slice_get run.messages j ≡ Some earlier))
  run_in_turn k w earlier e has less same = by (cases_order there.generation.cut.number r.generation.cut.number)
    where
      kept : HasPlace list.messages earlier × (is_wanted wish start earlier ≡ true)
      kept = kept_place (is_wanted wish start) list.messages has.0 earlier has.1

      there : Lies (held_generations profile list) earlier
      there = list_lies profile list earlier is kept.0

      of_w : IsOf wish start run.sweep r.generation w
      of_w = of_run k w e

      is_inside : IsInside run.sweep of_w.streamed
      is_inside = inside_is run.sweep of_w.streamed of_w.inside

      at_w : of_w.streamed.message.offset ≡ w.offset
      at_w = ap (λ (m : StoredMessage). m.offset) of_w.message

      at_earlier : there.streamed.message.offset ≡ earlier.offset
      at_earlier = ap (λ (m : StoredMessage). m.offset) there.message

      wanted_there : is_wanted wish start there.streamed.message ≡ true
      wanted_there = ap (is_wanted wish start) there.message ∙ kept.1

      if_counted : is_issued_in run.sweep there.generation.cut.number there.streamed ≡ true →
          is_issued_by profile list sweep earlier.offset ≡ true
      if_counted counts = ap (is_issued_by profile list sweep) (sym at_earlier)
          ∙ counted there.generation there.streamed there.held there.lies wanted_there ∙ counts

      by : (there.generation.cut.number ≡ r.generation.cut.number)
          ⊎ ((there.generation.cut.number < r.generation.cut.number)
          ⊎ (r.generation.cut.number < there.generation.cut.number)) →
          (is_issued_by profile list sweep earlier.offset ≡ true)
          ⊎ ((j : ℕ) × (j < k) × (slice_get run.messages j ≡ Some earlier))
      by (inl equal) = by_place (cases_lt there.streamed.message.offset run.sweep.position)
        where
          one : there.generation ≡ r.generation
          one = held_one (oldest_of list.cuts).number (floor_of list) (held_generations profile list)
              (list_held profile list is) there.generation r.generation there.held r.held equal

          lies : HasPlace r.generation.messages there.streamed
          lies = subst (λ (g : HeldGeneration). HasPlace g.messages there.streamed) one there.lies

          topics : same_topic there.streamed.message.topic of_w.streamed.message.topic ≡ true
          topics = ap (λ (m : StoredMessage). same_topic m.topic of_w.streamed.message.topic) there.message
              ∙ ap (λ (m : StoredMessage). same_topic earlier.topic m.topic) of_w.message ∙ same

          stream : there.streamed.stream ≡ run.sweep.stream
          stream =
              same_stream (oldest_of list.cuts).number (floor_of list) (held_generations profile list)
              (list_held profile list is) r.generation there.streamed of_w.streamed r.held lies of_w.lies topics
              ∙ is_inside.stream

          under : there.streamed.message.offset < run.sweep.target
          under = let to = is_inside.target in omega (arith, at_w, at_earlier)

          by_place : (there.streamed.message.offset < run.sweep.position)
              ⊎ (run.sweep.position ≤ there.streamed.message.offset) →
              (is_issued_by profile list sweep earlier.offset ≡ true)
              ⊎ ((j : ℕ) × (j < k) × (slice_get run.messages j ≡ Some earlier))
          by_place (inl below) =
              inl
              (if_counted
              (ap (λ n. ltb n run.sweep.generation
              || (eqb n run.sweep.generation && is_behind run.sweep there.streamed)) (equal ∙ sym r.number)
              ∙ now_behind run.sweep.generation run.sweep.base run.sweep.target run.sweep.stream run.sweep.position
              there.streamed.message.offset there.streamed.stream stream below under))
          by_place (inr from) =
              let among = of_stretch wish start run.sweep r.generation there.streamed earlier lies
              (record { stream = stream; position = from; target = under }) wanted_there there.message in
              let found : slice_get run.messages among.0 ≡ Some earlier =
              ap (λ l. slice_get l among.0) r.messages ∙ among.1 in
              inr (among.0, before among.0 found (cases_order among.0 k), found)
            where
              before : (j : ℕ) → slice_get run.messages j ≡ Some earlier → (j ≡ k) ⊎ ((j < k) ⊎ (k < j)) → j < k
              before j found (inl here) =
                  let same : earlier.offset ≡ w.offset =
                  ap (λ (m : StoredMessage). m.offset)
                  (same_Some earlier w (sym found ∙ ap (slice_get run.messages) here ∙ e)) in absurd (omega arith)
              before j found (inr (inl earlier_place)) = earlier_place
              before j found (inr (inr later_place)) =
                  let over : w.offset < earlier.offset =
                  rising_places 0 run.messages k j w earlier run_rises e found later_place in absurd (omega arith)
      by (inr (inl older)) =
          let less : there.generation.cut.number < run.sweep.generation =
          (let number : run.sweep.generation ≡ r.generation.cut.number = r.number in omega arith) in
          inl (if_counted
          (ap
          (λ b. b || (eqb there.generation.cut.number run.sweep.generation && is_behind run.sweep there.streamed))
          (lt-ltb there.generation.cut.number run.sweep.generation less)))
      by (inr (inr newer)) =
          let apart : r.generation.end ≤ there.generation.cut.first =
          held_apart (oldest_of list.cuts).number (floor_of list) (held_generations profile list)
          (list_held profile list is) r.generation there.generation r.held there.held newer in
          let low =
          (held_offset (oldest_of list.cuts).number (floor_of list) (held_generations profile list)
          (list_held profile list is) there.held.0 there.generation there.held.1 there.lies.0 there.streamed
          there.lies.1).0 in
          let high =
          (held_offset (oldest_of list.cuts).number (floor_of list) (held_generations profile list)
          (list_held profile list is) r.held.0 r.generation r.held.1 of_w.lies.0 of_w.streamed of_w.lies.1).1 in
          absurd (omega (arith, at_w, at_earlier))

  run_order : (k : ℕ) (w : StoredMessage) → slice_get run.messages k ≡ Some w →
      is_in_order profile list start (record run.sweep { position = w.offset + 1 }) ≡ true
  run_order k w e =
      let o = of_run k w e in
      let inside = inside_is run.sweep o.streamed o.inside in
      let at : o.streamed.message.offset ≡ w.offset = ap (λ (m : StoredMessage). m.offset) o.message in
      let number = held_number (oldest_of list.cuts).number (floor_of list) (held_generations profile list)
      (list_held profile list is) r.held.0 r.generation r.held.1 in
      let long = held_long profile list list.cuts in
      let within = slice_get_within (held_generations profile list) r.held.0 r.generation r.held.1 in
      let newest_is = newest_number (next_of list) list.cuts is.cuts in
      let same : run.sweep.generation ≡ r.generation.cut.number = r.number in
      let ends = end_is (oldest_of list.cuts).number (floor_of list) (floor_of list)
      (held_generations profile list) r.held.0 r.generation (list_held profile list is) r.held.1 in
      let position = inside.position in
      let target = inside.target in
      let base = r.base in
      order_from profile list start (record run.sweep { position = w.offset + 1 })
      (record {
        generation = omega arith;
        from = r.from;
        base = omega arith;
        position = omega arith;
        end = subst (λ n. run.sweep.target ≤ n)
            (sym ends ∙ ap (end_of (held_generations profile list) (floor_of list)) (sym same)) r.end;
      })

  run_counts : (k : ℕ) (w m : StoredMessage) → slice_get run.messages k ≡ Some w → HasPlace (wanted wish start list) m →
      is_issued_by profile list (record run.sweep { position = w.offset + 1 }) m.offset
      ≡ (is_issued_by profile list sweep m.offset
      || list_any (λ (v : StoredMessage). eqb v.offset m.offset) (take (suc k) run.messages))
  run_counts k w m e has =
      now_counts ∙ whole (is_issued_in run.sweep there.generation.cut.number there.streamed) refl
      (list_any (λ (v : StoredMessage). eqb v.offset m.offset) (take (suc k) run.messages)) refl
      ∙ ap (λ b. b || list_any (λ (v : StoredMessage). eqb v.offset m.offset) (take (suc k) run.messages))
      (sym counts_before)
    where
      kept : HasPlace list.messages m × (is_wanted wish start m ≡ true)
      kept = kept_place (is_wanted wish start) list.messages has.0 m has.1

      there : Lies (held_generations profile list) m
      there = list_lies profile list m is kept.0

      at_m : there.streamed.message.offset ≡ m.offset
      at_m = ap (λ (m : StoredMessage). m.offset) there.message

      wanted_there : is_wanted wish start there.streamed.message ≡ true
      wanted_there = ap (is_wanted wish start) there.message ∙ kept.1

      counts_before : is_issued_by profile list sweep m.offset
          ≡ is_issued_in run.sweep there.generation.cut.number there.streamed
      counts_before = ap (is_issued_by profile list sweep) (sym at_m)
          ∙ counted there.generation there.streamed there.held there.lies wanted_there

      still_held : held_sweep list (record run.sweep { position = w.offset + 1 })
          ≡ record run.sweep { position = w.offset + 1 }
      still_held =
          let number = held_number (oldest_of list.cuts).number (floor_of list) (held_generations profile list)
          (list_held profile list is) r.held.0 r.generation r.held.1 in
          let same : run.sweep.generation ≡ r.generation.cut.number = r.number in
          ap (λ b. if b then at_cut (oldest_of list.cuts) else record run.sweep { position = w.offset + 1 })
          (le-ltb run.sweep.generation (oldest_of list.cuts).number (omega arith))

      now_counts : is_issued_by profile list (record run.sweep { position = w.offset + 1 }) m.offset
          ≡ is_issued_in (record run.sweep { position = w.offset + 1 }) there.generation.cut.number there.streamed
      now_counts =
          ap (is_issued_by profile list (record run.sweep { position = w.offset + 1 })) (sym at_m)
          ∙ issued_is profile wish start list is
          (record run.sweep { position = w.offset + 1 }) there.generation there.streamed there.held there.lies
          ∙ ap (λ (s : Sweep). is_issued_in s there.generation.cut.number there.streamed) still_held

      of_w : IsOf wish start run.sweep r.generation w
      of_w = of_run k w e

      position_w : run.sweep.position ≤ w.offset
      position_w =
          let inside = (inside_is run.sweep of_w.streamed of_w.inside).position in
          let at : of_w.streamed.message.offset ≡ w.offset = ap (λ (m : StoredMessage). m.offset) of_w.message in
          omega arith

      -- a message of the run up to this place is counted
      up_to : (j : ℕ) (v : StoredMessage) → slice_get (take (suc k) run.messages) j ≡ Some v → v.offset ≡ m.offset →
          is_issued_in (record run.sweep { position = w.offset + 1 }) there.generation.cut.number there.streamed ≡ true
      up_to j v f same =
          let found = place_taken (suc k) run.messages j v f in
          let under = place_within (suc k) run.messages j v f in
          let o = of_run j v found in
          let inside = inside_is run.sweep o.streamed o.inside in
          let at : o.streamed.message.offset ≡ v.offset = ap (λ (m : StoredMessage). m.offset) o.message in
          let below : v.offset ≤ w.offset = not_above j v found under (cases_eq j k) in
          let one = streamed_one (oldest_of list.cuts).number (floor_of list) (held_generations profile list)
          (list_held profile list is) there.generation r.generation there.streamed o.streamed there.held r.held
          there.lies o.lies (omega (arith, at_m)) in
          let number : there.generation.cut.number ≡ run.sweep.generation =
          ap (λ (g : HeldGeneration). g.cut.number) one.0 ∙ sym r.number in
          let stream : there.streamed.stream ≡ run.sweep.stream =
          ap (λ (s : StreamMessage). s.stream) one.1 ∙ inside.stream in
          let target : o.streamed.message.offset < run.sweep.target = inside.target in
          ap (λ n. ltb n run.sweep.generation
          || (eqb n run.sweep.generation
          && is_behind (record run.sweep { position = w.offset + 1 }) there.streamed)) number
          ∙ now_behind run.sweep.generation run.sweep.base run.sweep.target run.sweep.stream
          (w.offset + 1) there.streamed.message.offset there.streamed.stream stream (omega (arith, at_m))
          (omega (arith, at_m))
        where
          not_above : (j : ℕ) (v : StoredMessage) → slice_get run.messages j ≡ Some v → j < suc k → (j ≡ k)
              ⊎ (j ≡ k → ⊥) → v.offset ≤ w.offset
          not_above j v found under (inl here) =
              let same : v.offset ≡ w.offset = ap (λ (m : StoredMessage). m.offset)
              (same_Some v w (sym found ∙ ap (slice_get run.messages) here ∙ e)) in omega arith
          not_above j v found under (inr other) = let less : v.offset < w.offset =
              rising_places 0 run.messages j k v w run_rises found e (omega arith) in omega arith

      -- and there is no other that is newly counted
      only_these : is_issued_in run.sweep there.generation.cut.number there.streamed ≡ false →
          is_issued_in (record run.sweep { position = w.offset + 1 }) there.generation.cut.number there.streamed
          ≡ true →
          list_any (λ (v : StoredMessage). eqb v.offset m.offset) (take (suc k) run.messages) ≡ true
      only_these uncounted counted_now =
          let between =
          between_is there.generation.cut.number run.sweep.generation run.sweep.base run.sweep.target run.sweep.stream
          run.sweep.position (w.offset + 1) there.streamed.message.offset there.streamed.stream uncounted
          counted_now in
          let one : there.generation ≡ r.generation =
          held_one (oldest_of list.cuts).number (floor_of list) (held_generations profile list)
          (list_held profile list is) there.generation r.generation there.held r.held (between.same ∙ r.number) in
          let lies : HasPlace r.generation.messages there.streamed =
          subst (λ (g : HeldGeneration). HasPlace g.messages there.streamed) one there.lies in
          let among = of_stretch wish start run.sweep r.generation there.streamed m lies
          (record { stream = between.one; position = between.from; target = between.within }) wanted_there
          there.message in
          let found : slice_get run.messages among.0 ≡ Some m = ap (λ l. slice_get l among.0) r.messages ∙ among.1 in
          let to : there.streamed.message.offset < w.offset + 1 = between.to in
          let low : m.offset ≤ w.offset = omega (arith, at_m) in
          any_place (λ (v : StoredMessage). eqb v.offset m.offset) (take (suc k) run.messages) among.0 m
          (taken_under (suc k) run.messages among.0 m (not_later among.0 found low (cases_lt k among.0)) found)
          (eq-eqb m.offset m.offset refl)
        where
          not_later : (j : ℕ) → slice_get run.messages j ≡ Some m → m.offset ≤ w.offset → (k < j) ⊎ (j ≤ k) → j < suc k
          not_later j found low (inl later) = let over : w.offset < m.offset =
              rising_places 0 run.messages k j w m run_rises e found later in absurd (omega arith)
          not_later j found low (inr before) = omega arith

      whole : (before : Bool) → is_issued_in run.sweep there.generation.cut.number there.streamed ≡ before →
          (any : Bool) → list_any (λ (v : StoredMessage). eqb v.offset m.offset) (take (suc k) run.messages) ≡ any →
          is_issued_in (record run.sweep { position = w.offset + 1 }) there.generation.cut.number there.streamed
          ≡ (before || any)
      whole true counted_before any e_any =
          still_behind there.generation.cut.number run.sweep.generation run.sweep.base run.sweep.target run.sweep.stream
          run.sweep.position (w.offset + 1) there.streamed.message.offset there.streamed.stream
          (omega (arith, position_w)) counted_before
      whole false not_before true e_any =
          let found = place_any (λ (v : StoredMessage). eqb v.offset m.offset) (take (suc k) run.messages) e_any in
          up_to found.0 found.1 found.2 (eqb-true found.1.offset m.offset found.3)
      whole false not_before false e_any =
          not_now
          (cases_Bool
          (is_issued_in (record run.sweep { position = w.offset + 1 }) there.generation.cut.number there.streamed))
        where
          not_now : (is_issued_in (record run.sweep { position = w.offset + 1 }) there.generation.cut.number
              there.streamed ≡ true)
              ⊎ (is_issued_in (record run.sweep { position = w.offset + 1 }) there.generation.cut.number there.streamed
              ≡ false) →
              is_issued_in (record run.sweep { position = w.offset + 1 }) there.generation.cut.number there.streamed
              ≡ false
          not_now (inl now) = absurd (false≢true (sym e_any ∙ only_these not_before now))
          not_now (inr still) = still

  is_next : (limit : ℕ) → IsNextRun profile wish start list sweep (suc limit)
      (record run { messages = take (suc limit) run.messages })
  is_next limit =
      let long = length-take (suc limit) run.messages in
      let some = r.some in
      record {
        some = omega arith;
        few = omega arith;
        rise = λ k j w v e f before. rising_places 0 run.messages k j w v run_rises
            (place_taken (suc limit) run.messages k w e) (place_taken (suc limit) run.messages j v f) before;
        are_wanted = λ k w e. run_wanted k w (place_taken (suc limit) run.messages k w e);
        are_new = λ k w e. run_new k w (place_taken (suc limit) run.messages k w e);
        in_turn = λ k w earlier e has less same. cut k w earlier e
            (run_in_turn k w earlier (place_taken (suc limit) run.messages k w e) has less same);
        order = λ k w e. run_order k w (place_taken (suc limit) run.messages k w e);
        counts = λ k w m e has.
            let under = place_within (suc limit) run.messages k w e in
            run_counts k w m (place_taken (suc limit) run.messages k w e) has
            ∙ ap (λ l. is_issued_by profile list sweep m.offset
            || list_any (λ (v : StoredMessage). eqb v.offset m.offset) l)
            (sym (take-take (suc k) (suc limit) run.messages (omega arith)));
      }
    where
      cut : (k : ℕ) (w earlier : StoredMessage) → slice_get (take (suc limit) run.messages) k ≡ Some w →
          (is_issued_by profile list sweep earlier.offset ≡ true)
          ⊎ ((j : ℕ) × (j < k) × (slice_get run.messages j ≡ Some earlier)) →
          (is_issued_by profile list sweep earlier.offset ≡ true)
          ⊎ ((j : ℕ) × (j < k) × (slice_get (take (suc limit) run.messages) j ≡ Some earlier))
      cut k w earlier e (inl issued) = inl issued
      cut k w earlier e (inr there) = inr
          (there.0, there.1, taken_before (suc limit) run.messages k there.0 w earlier e there.1 there.2)

-- ---- the law

pub next_run_is : (profile : Profile) (wish : List (List ℕ)) (start : ℕ) (list : ShardList) (sweep : Sweep) (limit : ℕ)
    (run : Run) → IsList list → is_in_order profile list start sweep ≡ true →
    next_run profile wish start list sweep limit ≡ Some run → IsNextRun profile wish start list sweep limit run
next_run_is profile wish start list sweep limit run is order e =
    by limit (first_run wish start (stretches profile list sweep))
    (list_run profile wish start list is sweep (order_is profile list start sweep order)) e
  where
    by : (limit : ℕ) (found : Option Run) →
        RunOutcome wish start (held_generations profile list) (held_sweep list sweep) found →
        at_most limit found ≡ Some run → IsNextRun profile wish start list sweep limit run
    by zero found outcome e = absurd (none-some run e)
    by (suc limit) None outcome e = absurd (none-some run e)
    by (suc limit) (Some whole) outcome e =
        subst (IsNextRun profile wish start list sweep (suc limit))
        (same_Some (record whole { messages = take (suc limit) whole.messages }) run e)
        (is_next profile wish start list is sweep whole outcome limit)

-- where no run comes though one may, all that is wanted is counted as issued
pub none_is_left : (profile : Profile) (wish : List (List ℕ)) (start : ℕ) (list : ShardList) (sweep : Sweep) (limit : ℕ)
    (w : StoredMessage) → IsList list → is_in_order profile list start sweep ≡ true → 0 < limit →
    next_run profile wish start list sweep limit ≡ None → HasPlace (wanted wish start list) w →
    is_issued_by profile list sweep w.offset ≡ true
none_is_left profile wish start list sweep limit w is order some e has =
    by limit some (first_run wish start (stretches profile list sweep))
    (list_run profile wish start list is sweep (order_is profile list start sweep order)) e
  where
    by : (limit : ℕ) → 0 < limit → (found : Option Run) →
        RunOutcome wish start (held_generations profile list) (held_sweep list sweep) found →
        at_most limit found ≡ None → is_issued_by profile list sweep w.offset ≡ true
    by zero some found outcome e = absurd (omega arith)
    by (suc limit) some (Some run) outcome e =
        absurd (none-some (record run { messages = take (suc limit) run.messages }) (sym e))
    by (suc limit) some None outcome e =
        let kept = kept_place (is_wanted wish start) list.messages has.0 w has.1 in
        let there = list_lies profile list w is kept.0 in
        ap (λ (m : StoredMessage). is_issued_by profile list sweep m.offset) (sym there.message)
        ∙ issued_is profile wish start list is sweep there.generation there.streamed there.held there.lies
        ∙ outcome.all there.generation there.streamed there.held there.lies
        (ap (is_wanted wish start) there.message ∙ kept.1)

pub none_comes : (profile : Profile) (wish : List (List ℕ)) (start : ℕ) (list : ShardList) (sweep : Sweep) (limit : ℕ) →
    IsList list → is_in_order profile list start sweep ≡ true →
    ((w : StoredMessage) → HasPlace (wanted wish start list) w → is_issued_by profile list sweep w.offset ≡ true) →
    next_run profile wish start list sweep limit ≡ None
none_comes profile wish start list sweep limit is order all = by (next_run profile wish start list sweep limit) refl
  where
    none_new : (run : Run) → IsNextRun profile wish start list sweep limit run → (ms : List StoredMessage) →
        run.messages ≡ ms → ⊥
    none_new run next [] same = let some = next.some in let none : length run.messages ≡ 0 =
        ap length same in absurd (omega arith)
    none_new run next (w ∷ ms) same =
        let there : slice_get run.messages 0 ≡ Some w =
        ap (λ l. slice_get l 0) same in
        false≢true (sym (next.are_new 0 w there) ∙ all w (next.are_wanted 0 w there))

    by : (found : Option Run) → next_run profile wish start list sweep limit ≡ found →
        next_run profile wish start list sweep limit ≡ None
    by None e = e
    by (Some run) e =
        absurd (none_new run (next_run_is profile wish start list sweep limit run is order e) run.messages refl)

-- a front of a run is the run with a lower limit
pub front_comes : (profile : Profile) (wish : List (List ℕ)) (start : ℕ) (list : ShardList) (sweep : Sweep)
    (limit few : ℕ) (run : Run) → 0 < few → few ≤ limit → next_run profile wish start list sweep limit ≡ Some run →
    next_run profile wish start list sweep few ≡ Some (record run { messages = take few run.messages })
front_comes profile wish start list sweep limit few run some le e =
    by limit few some le (first_run wish start (stretches profile list sweep)) e
  where
    by : (limit few : ℕ) → 0 < few → few ≤ limit → (found : Option Run) → at_most limit found ≡ Some run →
        at_most few found ≡ Some (record run { messages = take few run.messages })
    by limit zero some le found e = absurd (omega arith)
    by zero (suc few) some le found e = absurd (omega arith)
    by (suc limit) (suc few) some le None e = absurd (none-some run e)
    by (suc limit) (suc few) some le (Some whole) e =
        ap (λ l. Some (record whole { messages = l })) (sym (take-take (suc few) (suc limit) whole.messages le))
        ∙ ap (λ (r : Run). Some (record r { messages = take (suc few) r.messages }))
        (same_Some (record whole { messages = take (suc limit) whole.messages }) run e)
