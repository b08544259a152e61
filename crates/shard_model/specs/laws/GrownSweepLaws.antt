-- As a list grows, a sweep in order stays in order, and counts of what the list had what it counted, and nothing of
-- what came.
use Rattle.std.proofs.Common.{◌≡◌, ◌⊎◌, inl, inr, ℕ, zero, suc, ◌+◌, ◌-◌, ◌<◌, ◌≤◌, Bool, true, false, ◌&&◌, ◌||◌, ltb}
use Rattle.std.proofs.Common.{eqb, if◌then◌else◌, List, [], ◌∷◌, length, Some, slice_get, refl, sym, ap, subst, ◌∙◌}
use Rattle.std.proofs.Common.{arith}
use Rattle.std.proofs.lemmas.Bool.{cases_lt, lt-ltb, le-ltb}
use Rattle.std.proofs.lemmas.Bool.Decides.{nat_tests}
use Rattle.std.proofs.lemmas.Option.{none-some, same_Some}
use Rattle.topic_model.specs.StoredMessage.{StoredMessage}
use Rattle.topic_model.specs.Profile.{Profile}
use Rattle.shard_model.specs.declared.sweep.Sweep.{Sweep}
use Rattle.shard_model.specs.ShardList.{Cut, ShardList, newest, oldest_of, floor_of, next_of}
use Rattle.topic_model.specs.Places.{HasPlace}
use Rattle.shard_model.specs.Growing.{HasGrown}
use Rattle.shard_model.specs.Streams.{StreamMessage, HeldGeneration, held_from, held_generations, streams_of}
use Rattle.shard_model.specs.Streams.{messages_between}
use Rattle.shard_model.specs.SweepOrder.{at_cut, held_sweep, is_behind, is_issued_in, is_issued_by, is_in_order}
use Rattle.shard_model.specs.Lists.{IsRow, IsList}
use Rattle.shard_model.specs.laws.ListLaws.{newest_number, not_older, not_newer, row_first}
use Rattle.shard_model.specs.laws.OrderLaws.{newest_in_order}
use Rattle.shard_model.specs.laws.GrownLaws.{streams_stay}
use Rattle.shard_model.specs.Growing.{Continues}
use Rattle.shard_model.specs.laws.PlaceLaws.{place_left, counted_place}
use Rattle.shard_model.specs.laws.HeldLaws.{end_of, AreHeld, held_place, held_number, held_offset, held_apart}
use Rattle.shard_model.specs.laws.HeldLaws.{streamed_one, end_is, end_gone, list_held, Lies, list_lies, lies_in_list}
use Rattle.shard_model.specs.laws.HeldLaws.{held_long}
use Rattle.shard_model.specs.laws.SweepLaws.{InOrder, order_is, order_from, issued_is}

-- at each place of a list stands something
there_is : {A : Type 0} (xs : List A) (k : ℕ) → k < length xs → (x : A) × (slice_get xs k ≡ Some x)
there_is [] k less = absurd (omega arith)
there_is (x ∷ xs) zero less = (x, refl)
there_is (x ∷ xs) (suc k) less = there_is xs k (omega arith)

held_end : (profile : Profile) (list : ShardList) (cuts : List Cut) → IsRow (next_of list) cuts →
    (k : ℕ) (g : HeldGeneration) → slice_get (held_from profile list cuts) k ≡ Some g → g.end ≤ next_of list
held_end profile list [] row k g e = absurd row
held_end profile list (cut ∷ []) row zero g e =
    subst (λ (x : HeldGeneration). x.end ≤ next_of list)
    (same_Some
    (record {
      cut = cut;
      end = next_of list;
      messages =
          streams_of profile cut (messages_between list cut.first (next_of list));
    }) g e) (omega arith)
held_end profile list (cut ∷ []) row (suc k) g e = absurd (none-some g e)
held_end profile list (cut ∷ next ∷ cuts) row zero g e =
    subst (λ (x : HeldGeneration). x.end ≤ next_of list)
    (same_Some
    (record
    { cut = cut; end = next.first; messages = streams_of profile cut (messages_between list cut.first next.first) })
    g e)
    (row_first (next_of list) (next ∷ cuts) row.1)
held_end profile list (cut ∷ next ∷ cuts) row (suc k) g e = held_end profile list (next ∷ cuts) row.1 k g e

oldest_there : (end : ℕ) (cuts : List Cut) → IsRow end cuts → HasPlace cuts (oldest_of cuts)
oldest_there end [] row = absurd row
oldest_there end (cut ∷ cuts) row = (0, refl)

-- ---- what is counted at the front of a generation, and behind it

front_counts_none : (number generation o first : ℕ) (x : Bool) → generation ≤ number → first ≤ o →
    (ltb number generation || (eqb number generation && (ltb o first || (ltb o first && x)))) ≡ false
front_counts_none number generation o first x from low = grind (arith, nat_tests)

later_counts_none : (number generation : ℕ) (x : Bool) → generation < number →
    (ltb number generation || (eqb number generation && x)) ≡ false
later_counts_none number generation x less = grind (arith, nat_tests)

past_counts_none : (number generation o base target : ℕ) (x : Bool) → generation ≤ number → base ≤ o → target ≤ o →
    (ltb number generation || (eqb number generation && (ltb o base || (ltb o target && x)))) ≡ false
past_counts_none number generation o base target x from low past = grind (arith, nat_tests)

module _ (profile : Profile) (list : ShardList) (is : IsList list) where
  row : AreHeld (oldest_of list.cuts).number (floor_of list) (held_generations profile list)
  row = list_held profile list is

  -- the generation of each number from the oldest to the newest
  of_number : (n : ℕ) → (oldest_of list.cuts).number ≤ n → n ≤ (newest list).number → (g : HeldGeneration)
      × HasPlace (held_generations profile list) g × (g.cut.number ≡ n)
  of_number n from to =
      let number = newest_number (next_of list) list.cuts is.cuts in
      let long = held_long profile list list.cuts in
      let k = n - (oldest_of list.cuts).number in
      let found = there_is (held_generations profile list) k (omega arith) in
      let at = held_number (oldest_of list.cuts).number (floor_of list)
      (held_generations profile list) row k found.0 found.1 in
      (found.0, (k, found.1), omega arith)

  number_from : (g : HeldGeneration) → HasPlace (held_generations profile list) g →
      (oldest_of list.cuts).number ≤ g.cut.number
  number_from g has = let at = held_number (oldest_of list.cuts).number (floor_of list)
      (held_generations profile list) row has.0 g has.1 in omega arith

  first_from : (g : HeldGeneration) → HasPlace (held_generations profile list) g → floor_of list ≤ g.cut.first
  first_from g has =
      (held_place (oldest_of list.cuts).number (floor_of list) (held_generations profile list) has.0 g row has.1).1

  -- the oldest one begins at the floor
  oldest_first : (g : HeldGeneration) → HasPlace (held_generations profile list) g →
      g.cut.number ≡ (oldest_of list.cuts).number → g.cut.first ≡ floor_of list
  oldest_first g has same =
      let at = held_number (oldest_of list.cuts).number (floor_of list)
      (held_generations profile list) row has.0 g has.1 in
      let place : has.0 ≡ 0 = omega arith in
      front (held_generations profile list) row (ap (slice_get (held_generations profile list)) (sym place) ∙ has.1)
    where
      front : (gs : List HeldGeneration) → AreHeld (oldest_of list.cuts).number (floor_of list) gs →
          slice_get gs 0 ≡ Some g → g.cut.first ≡ floor_of list
      front [] row e = absurd (none-some g e)
      front (h ∷ gs) row e = ap (λ (x : HeldGeneration). x.cut.first) (sym (same_Some h g e)) ∙ row.0.first

  end_within : (g : HeldGeneration) → HasPlace (held_generations profile list) g → g.end ≤ next_of list
  end_within g has = held_end profile list list.cuts is.cuts has.0 g has.1

  -- a message at each offset
  at_offset : (offset : ℕ) → floor_of list ≤ offset → offset < next_of list → (m : StoredMessage)
      × HasPlace list.messages m × (m.offset ≡ offset)
  at_offset offset from to =
      let k = offset - floor_of list in
      let found = there_is list.messages k (omega arith) in
      let at : found.0.offset ≡ floor_of list + k =
      counted_place (λ (m : StoredMessage). m.offset) list.messages (floor_of list) k found.0 is.offsets found.1 in
      (found.0, (k, found.1), omega arith)

  -- a sweep whose generation is gone counts nothing
  gone_counts_none : (sweep : Sweep) (g : HeldGeneration) (s : StreamMessage) →
      HasPlace (held_generations profile list) g → HasPlace g.messages s →
      sweep.generation < (oldest_of list.cuts).number →
      is_issued_in (held_sweep list sweep) g.cut.number s ≡ false
  gone_counts_none sweep g s has_g has_s less =
      let inside = held_offset (oldest_of list.cuts).number (floor_of list)
      (held_generations profile list) row has_g.0 g has_g.1 has_s.0 s has_s.1 in
      let at : s.message.offset ≡ g.cut.first + has_s.0 = inside.0 in
      let from = first_from g has_g in
      let number = number_from g has_g in
      ap (λ b. is_issued_in (if b then at_cut (oldest_of list.cuts) else sweep) g.cut.number s)
      (lt-ltb sweep.generation (oldest_of list.cuts).number less)
      ∙ front_counts_none g.cut.number (oldest_of list.cuts).number s.message.offset (floor_of list)
      (ltb s.stream 0 || (eqb s.stream 0 && ltb s.message.offset (floor_of list))) number (omega arith)

  still_held : (sweep : Sweep) → (oldest_of list.cuts).number ≤ sweep.generation → held_sweep list sweep ≡ sweep
  still_held sweep from = ap (λ b. if b then at_cut (oldest_of list.cuts) else sweep)
      (le-ltb sweep.generation (oldest_of list.cuts).number from)

-- ---- as a list grows

still_lies : (g other : HeldGeneration) (s : StreamMessage) → Continues g other → HasPlace g.messages s →
    HasPlace other.messages s
still_lies g other s continues has =
    let left = place_left g.messages continues.more.0 has.0 s has.1 in
    (left.0, ap (λ l. slice_get l left.0) continues.more.1 ∙ left.1)

still_numbered : (g other h : HeldGeneration) → Continues g other → other ≡ h → g.cut.number ≡ h.cut.number
still_numbered g other h continues same = continues.same.number ∙ ap (λ (x : HeldGeneration). x.cut.number) same

module _ (profile : Profile) (list later : ShardList) (is : IsList list) (is_later : IsList later)
    (grown : HasGrown list later) where
  -- what a generation that is still held goes on as
  goes_on : (g : HeldGeneration) → HasPlace (held_generations profile list) g →
      (oldest_of later.cuts).number ≤ g.cut.number → (other : HeldGeneration)
      × HasPlace (held_generations profile later) other × Continues g other
  goes_on g has still = streams_stay profile list later g is is_later grown has still

  -- one that is gone ended at the new floor or before
  gone_before : (g : HeldGeneration) → HasPlace (held_generations profile list) g →
      g.cut.number < (oldest_of later.cuts).number → g.end ≤ floor_of later
  gone_before g has less = by (cases_lt (newest list).number (oldest_of later.cuts).number)
    where
      by : ((newest list).number < (oldest_of later.cuts).number)
          ⊎ ((oldest_of later.cuts).number ≤ (newest list).number) → g.end ≤ floor_of later
      by (inl new) =
          let ends = end_within profile list is g has in
          let begins : next_of list ≤ floor_of later =
          grown.added (oldest_of later.cuts) (oldest_there (next_of later) later.cuts is_later.cuts) new in
          omega arith
      by (inr old) =
          let found = of_number profile list is (oldest_of later.cuts).number grown.oldest old in
          let number : found.0.cut.number ≡ (oldest_of later.cuts).number = found.2 in
          let other = goes_on found.0 found.1 (omega arith) in
          let same : found.0.cut.number ≡ other.0.cut.number = other.2.same.number in
          let first : found.0.cut.first ≡ other.0.cut.first = other.2.same.first in
          let floor : other.0.cut.first ≡ floor_of later =
          oldest_first profile later is_later other.0 other.1 (omega arith) in
          let apart : g.end ≤ found.0.cut.first =
          held_apart (oldest_of list.cuts).number (floor_of list) (held_generations profile list)
          (list_held profile list is) g found.0 has found.1 (omega arith) in
          omega arith

  -- what lies in the later list and was there before lay in the same generation and stream
  pub record WasThere (h : HeldGeneration) (t : StreamMessage) : Type 0 where
    pub generation : HeldGeneration
    pub held : HasPlace (held_generations profile list) generation
    pub lies : HasPlace generation.messages t
    pub number : generation.cut.number ≡ h.cut.number

  was_there : (h : HeldGeneration) (t : StreamMessage) → HasPlace (held_generations profile later) h →
      HasPlace h.messages t → t.message.offset < next_of list → WasThere h t
  was_there h t has_h has_t to =
      let inside = held_offset (oldest_of later.cuts).number (floor_of later) (held_generations profile later)
      (list_held profile later is_later) has_h.0 h has_h.1 has_t.0 t has_t.1 in
      let at : t.message.offset ≡ h.cut.first + has_t.0 = inside.0 in
      let from = first_from profile later is_later h has_h in
      let floors : floor_of list ≤ floor_of later = grown.floors in
      let m = at_offset profile list is t.message.offset (omega arith) to in
      let there = list_lies profile list m.0 is m.1 in
      let at_m : there.streamed.message.offset ≡ m.0.offset = ap (λ (x : StoredMessage). x.offset) there.message in
      let m_at : m.0.offset ≡ t.message.offset = m.2 in
      let at_there : there.streamed.message.offset ≡ t.message.offset = omega arith in
      let within =
      (held_offset (oldest_of list.cuts).number (floor_of list) (held_generations profile list)
      (list_held profile list is) there.held.0 there.generation there.held.1 there.lies.0 there.streamed
      there.lies.1).1 in
      let still : (oldest_of later.cuts).number ≤ there.generation.cut.number =
      not_gone there.generation there.held
      (let end : there.streamed.message.offset < there.generation.end = within in omega arith)
      (cases_lt there.generation.cut.number (oldest_of later.cuts).number) in
      let other = goes_on there.generation there.held still in
      let right = still_lies there.generation other.0 there.streamed other.2 there.lies in
      let one =
      streamed_one (oldest_of later.cuts).number (floor_of later) (held_generations profile later)
      (list_held profile later is_later) other.0 h there.streamed t other.1 has_h right has_t at_there in
      record {
        generation = there.generation;
        held = there.held;
        lies = subst (HasPlace there.generation.messages) one.1 there.lies;
        number = still_numbered there.generation other.0 h other.2 one.0;
      }
    where
      not_gone : (g : HeldGeneration) → HasPlace (held_generations profile list) g → floor_of later < g.end →
          (g.cut.number < (oldest_of later.cuts).number) ⊎ ((oldest_of later.cuts).number ≤ g.cut.number) →
          (oldest_of later.cuts).number ≤ g.cut.number
      not_gone g has over (inl gone) = let before = gone_before g has gone in absurd (omega arith)
      not_gone g has over (inr still) = still

  pub was_in_list : (m : StoredMessage) → HasPlace later.messages m → m.offset < next_of list → HasPlace list.messages m
  was_in_list m has to =
      let there = list_lies profile later m is_later has in
      let at : there.streamed.message.offset ≡ m.offset = ap (λ (x : StoredMessage). x.offset) there.message in
      let was = was_there there.generation there.streamed there.held there.lies (omega arith) in
      subst (HasPlace list.messages) there.message
      (lies_in_list profile list was.generation there.streamed is was.held was.lies)

  module _ (start : ℕ) (sweep : Sweep) (order : InOrder profile list start sweep) where
    counts_kept : (m : StoredMessage) → HasPlace later.messages m → m.offset < next_of list →
        is_issued_by profile later sweep m.offset ≡ is_issued_by profile list sweep m.offset
    counts_kept m has to =
        ap (is_issued_by profile later sweep) (sym at)
        ∙ issued_is profile [] start later is_later sweep there.generation there.streamed there.held there.lies
        ∙ by (cases_lt sweep.generation (oldest_of later.cuts).number)
        (cases_lt sweep.generation (oldest_of list.cuts).number)
        ∙ ap (λ n. is_issued_in (held_sweep list sweep) n there.streamed) (sym was.number)
        ∙ sym (issued_is profile [] start list is sweep was.generation there.streamed was.held was.lies)
        ∙ ap (is_issued_by profile list sweep) at
      where
        there : Lies (held_generations profile later) m
        there = list_lies profile later m is_later has

        at : there.streamed.message.offset ≡ m.offset
        at = ap (λ (x : StoredMessage). x.offset) there.message

        was : WasThere there.generation there.streamed
        was = was_there there.generation there.streamed there.held there.lies (omega (arith, at))

        by : (sweep.generation < (oldest_of later.cuts).number) ⊎ ((oldest_of later.cuts).number ≤ sweep.generation) →
            (sweep.generation < (oldest_of list.cuts).number) ⊎ ((oldest_of list.cuts).number ≤ sweep.generation) →
            is_issued_in (held_sweep later sweep) there.generation.cut.number there.streamed
            ≡ is_issued_in (held_sweep list sweep) there.generation.cut.number there.streamed
        by (inl gone) (inl was_gone) =
            gone_counts_none profile later is_later sweep there.generation there.streamed there.held there.lies gone
            ∙ sym (gone_counts_none profile list is sweep was.generation there.streamed was.held was.lies was_gone)
            ∙ ap (λ n. is_issued_in (held_sweep list sweep) n there.streamed) was.number
        by (inl gone) (inr was_held) =
            let from = number_from profile later is_later there.generation there.held in
            gone_counts_none profile later is_later sweep there.generation there.streamed there.held there.lies gone
            ∙ sym
            (ap (λ s. is_issued_in s there.generation.cut.number there.streamed)
            (still_held profile list is sweep was_held)
            ∙ later_counts_none there.generation.cut.number sweep.generation (is_behind sweep there.streamed)
            (omega arith))
        by (inr held) was_held =
            let oldest : (oldest_of list.cuts).number ≤ (oldest_of later.cuts).number = grown.oldest in
            ap (λ s. is_issued_in s there.generation.cut.number there.streamed)
            (still_held profile later is_later sweep held ∙ sym (still_held profile list is sweep (omega arith)))

    counts_added : (m : StoredMessage) → HasPlace later.messages m → next_of list ≤ m.offset →
        is_issued_by profile later sweep m.offset ≡ false
    counts_added m has from =
        ap (is_issued_by profile later sweep) (sym at)
        ∙ issued_is profile [] start later is_later sweep there.generation there.streamed there.held there.lies
        ∙ by (cases_lt sweep.generation (oldest_of later.cuts).number)
      where
        there : Lies (held_generations profile later) m
        there = list_lies profile later m is_later has

        at : there.streamed.message.offset ≡ m.offset
        at = ap (λ (x : StoredMessage). x.offset) there.message

        within : there.streamed.message.offset < there.generation.end
        within =
            (held_offset (oldest_of later.cuts).number (floor_of later) (held_generations profile later)
            (list_held profile later is_later) there.held.0 there.generation there.held.1 there.lies.0
            there.streamed there.lies.1).1

        by : (sweep.generation < (oldest_of later.cuts).number) ⊎ ((oldest_of later.cuts).number ≤ sweep.generation) →
            is_issued_in (held_sweep later sweep) there.generation.cut.number there.streamed ≡ false
        by (inl gone) = gone_counts_none profile later is_later sweep there.generation there.streamed there.held
            there.lies gone
        by (inr held) =
            let oldest : (oldest_of list.cuts).number ≤ (oldest_of later.cuts).number = grown.oldest in
            let g = of_number profile list is sweep.generation (omega arith) order.generation in
            let number : g.0.cut.number ≡ sweep.generation = g.2 in
            let ends = end_is (oldest_of list.cuts).number (floor_of list) (floor_of list)
            (held_generations profile list) g.1.0 g.0 (list_held profile list is) g.1.1 in
            let end_there : end_of (held_generations profile list) (floor_of list) sweep.generation ≡ g.0.end =
            ap (end_of (held_generations profile list) (floor_of list)) (sym number) ∙ ends in
            let end : sweep.target ≤ g.0.end = subst (λ n. sweep.target ≤ n) end_there order.end in
            let to = end_within profile list is g.0 g.1 in
            let base : sweep.base ≤ sweep.position = order.base in
            let position : sweep.position ≤ sweep.target = order.position in
            let other = goes_on g.0 g.1 (omega arith) in
            let first : g.0.cut.first ≡ other.0.cut.first = other.2.same.first in
            let same : g.0.cut.number ≡ other.0.cut.number = other.2.same.number in
            let ends_g =
            (held_place (oldest_of list.cuts).number (floor_of list) (held_generations profile list) g.1.0 g.0
            (list_held profile list is) g.1.1).0.end in
            ap (λ s. is_issued_in s there.generation.cut.number there.streamed)
            (still_held profile later is_later sweep held)
            ∙ past_counts_none there.generation.cut.number sweep.generation there.streamed.message.offset sweep.base
            sweep.target
            (ltb there.streamed.stream sweep.stream
            || (eqb there.streamed.stream sweep.stream && ltb there.streamed.message.offset sweep.position))
            (not_earlier other.0 other.1 (omega arith) (omega arith)
            (cases_lt there.generation.cut.number sweep.generation)) (omega (arith, at)) (omega (arith, at))
          where
            not_earlier : (other : HeldGeneration) → HasPlace (held_generations profile later) other →
                other.cut.number ≡ sweep.generation → other.cut.first ≤ next_of list →
                (there.generation.cut.number < sweep.generation) ⊎ (sweep.generation ≤ there.generation.cut.number) →
                sweep.generation ≤ there.generation.cut.number
            not_earlier other has_other number low (inl earlier) =
                let apart : there.generation.end ≤ other.cut.first =
                held_apart (oldest_of later.cuts).number (floor_of later) (held_generations profile later)
                (list_held profile later is_later) there.generation other there.held has_other (omega arith) in
                absurd (omega (arith, at, within))
            not_earlier other has_other number low (inr from) = from

    order_kept : InOrder profile later start sweep
    order_kept =
        record {
          generation = newest_kept;
          from = order.from;
          base = order.base;
          position = order.position;
          end =
              by (cases_lt sweep.generation (oldest_of later.cuts).number)
              (cases_lt sweep.generation (oldest_of list.cuts).number);
        }
      where
        newest_kept : sweep.generation ≤ (newest later).number
        newest_kept = newest_by (cases_lt (newest list).number (oldest_of later.cuts).number)
          where
            newest_by : ((newest list).number < (oldest_of later.cuts).number)
                ⊎ ((oldest_of later.cuts).number ≤ (newest list).number) → sweep.generation ≤ (newest later).number
            newest_by (inl new) =
                let generation = order.generation in
                let oldest : (oldest_of later.cuts).number ≤ (newest later).number =
                not_older (next_of later) later.cuts is_later.cuts (newest later)
                (newest_in_order later is_later).0 in
                omega arith
            newest_by (inr old) =
                let generation = order.generation in
                let kept = grown.kept (newest list) (newest_in_order list is).0 old in
                let number : (newest list).number ≡ kept.0.number = kept.2.number in
                let le : kept.0.number ≤ (newest later).number =
                not_newer (next_of later) later.cuts is_later.cuts kept.0 kept.1 in
                omega arith

        end_in_list : (g : HeldGeneration) → HasPlace (held_generations profile list) g →
            g.cut.number ≡ sweep.generation → sweep.target ≤ g.end
        end_in_list g has number =
            let ends = end_is (oldest_of list.cuts).number (floor_of list) (floor_of list)
            (held_generations profile list) has.0 g (list_held profile list is) has.1 in
            subst (λ n. sweep.target ≤ n)
            (ap (end_of (held_generations profile list) (floor_of list)) (sym number) ∙ ends) order.end

        by : (sweep.generation < (oldest_of later.cuts).number) ⊎ ((oldest_of later.cuts).number ≤ sweep.generation) →
            (sweep.generation < (oldest_of list.cuts).number) ⊎ ((oldest_of list.cuts).number ≤ sweep.generation) →
            sweep.target ≤ end_of (held_generations profile later) (floor_of later) sweep.generation
        by (inl gone) (inl was_gone) =
            let before = end_gone (oldest_of list.cuts).number (floor_of list) (floor_of list) sweep.generation
            (held_generations profile list) (list_held profile list is) was_gone in
            let low : sweep.target ≤ floor_of list = subst (λ n. sweep.target ≤ n) before order.end in
            let floors : floor_of list ≤ floor_of later = grown.floors in
            let end : sweep.target ≤ floor_of later = omega arith in
            subst (λ n. sweep.target ≤ n)
            (sym
            (end_gone (oldest_of later.cuts).number (floor_of later) (floor_of later) sweep.generation
            (held_generations profile later) (list_held profile later is_later) gone)) end
        by (inl gone) (inr was_held) =
            let g = of_number profile list is sweep.generation was_held order.generation in
            let number : g.0.cut.number ≡ sweep.generation = g.2 in
            let low = end_in_list g.0 g.1 number in
            let before = gone_before g.0 g.1 (omega arith) in
            let end : sweep.target ≤ floor_of later = omega arith in
            subst (λ n. sweep.target ≤ n)
            (sym
            (end_gone (oldest_of later.cuts).number (floor_of later) (floor_of later) sweep.generation
            (held_generations profile later) (list_held profile later is_later) gone)) end
        by (inr held) was_held =
            let oldest : (oldest_of list.cuts).number ≤ (oldest_of later.cuts).number = grown.oldest in
            let g = of_number profile list is sweep.generation (omega arith) order.generation in
            let number : g.0.cut.number ≡ sweep.generation = g.2 in
            let low = end_in_list g.0 g.1 number in
            let other = goes_on g.0 g.1 (omega arith) in
            let more : g.0.end ≤ other.0.end = other.2.ends in
            let same : g.0.cut.number ≡ other.0.cut.number = other.2.same.number in
            let end : sweep.target ≤ other.0.end = omega arith in
            let ends = end_is (oldest_of later.cuts).number (floor_of later) (floor_of later)
            (held_generations profile later) other.1.0 other.0 (list_held profile later is_later) other.1.1 in
            subst (λ n. sweep.target ≤ n)
            (sym (ap (end_of (held_generations profile later) (floor_of later)) (sym number ∙ same) ∙ ends)) end

-- ---- the law

pub was_in : (profile : Profile) (list later : ShardList) (m : StoredMessage) → IsList list → IsList later →
    HasGrown list later → HasPlace later.messages m → m.offset < next_of list → HasPlace list.messages m
was_in profile list later m is is_later grown has to = was_in_list profile list later is is_later grown m has to

pub order_stays : (profile : Profile) (list later : ShardList) (start : ℕ) (sweep : Sweep) → IsList list →
    IsList later → HasGrown list later → is_in_order profile list start sweep ≡ true →
    is_in_order profile later start sweep ≡ true
order_stays profile list later start sweep is is_later grown order =
    order_from profile later start sweep
    (order_kept profile list later is is_later grown start sweep (order_is profile list start sweep order))

pub counts_stay : (profile : Profile) (list later : ShardList) (start : ℕ) (sweep : Sweep) (m : StoredMessage) →
    IsList list → IsList later → HasGrown list later → is_in_order profile list start sweep ≡ true →
    HasPlace later.messages m → m.offset < next_of list →
    is_issued_by profile later sweep m.offset ≡ is_issued_by profile list sweep m.offset
counts_stay profile list later start sweep m is is_later grown order has to =
    counts_kept profile list later is is_later grown start sweep (order_is profile list start sweep order) m has to

pub none_of_new : (profile : Profile) (list later : ShardList) (start : ℕ) (sweep : Sweep) (m : StoredMessage) →
    IsList list → IsList later → HasGrown list later → is_in_order profile list start sweep ≡ true →
    HasPlace later.messages m → next_of list ≤ m.offset → is_issued_by profile later sweep m.offset ≡ false
none_of_new profile list later start sweep m is is_later grown order has from =
    counts_added profile list later is is_later grown start sweep (order_is profile list start sweep order) m has from
