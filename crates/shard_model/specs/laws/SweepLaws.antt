-- Where a sweep in order comes to over a list in order: a run, or none where it counts all that is wanted; and what it
-- counts of a message.
use Rattle.std.proofs.Common.{◌≡◌, ◌⊎◌, inl, inr, ℕ, suc, ◌+◌, ◌<◌, ◌≤◌, Bool, true, false, ◌&&◌, ltb, leb}
use Rattle.std.proofs.Common.{if◌then◌else◌, List, [], ◌∷◌, length, filter, refl, sym, ap, subst, ◌∙◌, arith}
use Rattle.std.specs.List.{list_any}
use Rattle.std.proofs.lemmas.Bool.{and_parts, and_from, and_left, and_right, cases_eq, cases_Bool, eq-eqb, eqb-true}
use Rattle.std.proofs.lemmas.Bool.{ltb-true, ltb-false, leb-true, le-leb, lt-leb}
use Rattle.std.proofs.lemmas.Option.{slice_get_within}
use Rattle.topic_model.specs.Profile.{Profile}
use Rattle.shard_model.specs.declared.sweep.Sweep.{Sweep}
use Rattle.shard_model.specs.ShardList.{ShardList, newest, oldest_of, floor_of, next_of}
use Rattle.shard_model.specs.Streams.{StreamMessage, HeldGeneration, held_generations}
use Rattle.shard_model.specs.SweepOrder.{at_cut, held_sweep, is_issued_in, is_at, is_issued_by, stretches_from}
use Rattle.shard_model.specs.SweepOrder.{stretches, first_run, end_in, is_in_order}
use Rattle.shard_model.specs.Lists.{IsList}
use Rattle.shard_model.specs.laws.ListLaws.{newest_number, not_older}
use Rattle.shard_model.specs.laws.OrderLaws.{newest_in_order}
use Rattle.topic_model.specs.Places.{HasPlace}
use Rattle.shard_model.specs.laws.PlaceLaws.{any_place, none_places}
use Rattle.shard_model.specs.laws.HeldLaws.{AreHeld, held_place, held_number, streamed_one, end_of, end_by_cuts, end_is}
use Rattle.shard_model.specs.laws.HeldLaws.{end_gone, list_held, held_long}
use Rattle.shard_model.specs.laws.RunLaws.{RunOutcome, alike_itself, generations_run}

-- ---- a sweep in order

pub record InOrder (profile : Profile) (list : ShardList) (start : ℕ) (sweep : Sweep) : Type 0 where
  pub generation : sweep.generation ≤ (newest list).number
  pub from : start ≤ sweep.base
  pub base : sweep.base ≤ sweep.position
  pub position : sweep.position ≤ sweep.target
  pub end : sweep.target ≤ end_of (held_generations profile list) (floor_of list) sweep.generation

pub order_is : (profile : Profile) (list : ShardList) (start : ℕ) (sweep : Sweep) →
    is_in_order profile list start sweep ≡ true → InOrder profile list start sweep
order_is profile list start sweep e =
    by (end_in list list.cuts sweep.generation) (sym (end_by_cuts profile list list.cuts sweep.generation)) e
  where
    by : (end : ℕ) → end_of (held_generations profile list) (floor_of list) sweep.generation ≡ end
        → (leb sweep.generation (newest list).number
        && (leb start sweep.base
        && (leb sweep.base sweep.position && (leb sweep.position sweep.target && leb sweep.target end)))) ≡ true
        → InOrder profile list start sweep
    by end same e =
        let one = and_parts (leb sweep.generation (newest list).number)
        (leb start sweep.base
        && (leb sweep.base sweep.position && (leb sweep.position sweep.target && leb sweep.target end))) e in
        let two = and_parts (leb start sweep.base)
        (leb sweep.base sweep.position && (leb sweep.position sweep.target && leb sweep.target end)) one.1 in
        let three = and_parts (leb sweep.base sweep.position)
        (leb sweep.position sweep.target && leb sweep.target end) two.1 in
        let four = and_parts (leb sweep.position sweep.target) (leb sweep.target end) three.1 in
        record {
          generation = leb-true sweep.generation (newest list).number one.0;
          from = leb-true start sweep.base two.0;
          base = leb-true sweep.base sweep.position three.0;
          position = leb-true sweep.position sweep.target four.0;
          end = subst (λ n. sweep.target ≤ n) (sym same) (leb-true sweep.target end four.1);
        }

pub order_from : (profile : Profile) (list : ShardList) (start : ℕ) (sweep : Sweep) → InOrder profile list start sweep →
    is_in_order profile list start sweep ≡ true
order_from profile list start sweep is =
    let end = end_in list list.cuts sweep.generation in
    and_from (leb sweep.generation (newest list).number)
    (leb start sweep.base
    && (leb sweep.base sweep.position && (leb sweep.position sweep.target && leb sweep.target end)))
    (le-leb sweep.generation (newest list).number is.generation)
    (and_from (leb start sweep.base)
    (leb sweep.base sweep.position && (leb sweep.position sweep.target && leb sweep.target end))
    (le-leb start sweep.base is.from)
    (and_from (leb sweep.base sweep.position) (leb sweep.position sweep.target && leb sweep.target end)
    (le-leb sweep.base sweep.position is.base)
    (and_from (leb sweep.position sweep.target) (leb sweep.target end) (le-leb sweep.position sweep.target is.position)
    (le-leb sweep.target end
    (subst (λ n. sweep.target ≤ n) (sym (end_by_cuts profile list list.cuts sweep.generation)) is.end)))))

-- ---- the generations from a number on

record BeginsAt (number m : ℕ) (gs : List HeldGeneration) : Type 0 where
  generation : HeldGeneration
  later : List HeldGeneration
  low : ℕ
  order : AreHeld number low (generation ∷ later)
  kept : filter (λ (g : HeldGeneration). leb number g.cut.number) gs ≡ generation ∷ later
  within : (h : HeldGeneration) → HasPlace (generation ∷ later) h → HasPlace gs h
  long : number + length (generation ∷ later) ≡ m + length gs

all_kept : (number m f : ℕ) (gs : List HeldGeneration) → AreHeld m f gs → number ≤ m →
    filter (λ (g : HeldGeneration). leb number g.cut.number) gs ≡ gs
all_kept number m f [] order le = refl
all_kept number m f (g ∷ gs) order le =
    let here : g.cut.number ≡ m = order.0.number in
    ap (λ b. if b then g ∷ filter (λ (g : HeldGeneration). leb number g.cut.number) gs
    else filter (λ (g : HeldGeneration). leb number g.cut.number) gs) (le-leb number g.cut.number (omega arith))
    ∙ ap (λ l. g ∷ l) (all_kept number (m + 1) g.end gs order.1 (omega arith))

passed_over : (number : ℕ) (g : HeldGeneration) (gs later : List HeldGeneration) → g.cut.number < number →
    filter (λ (g : HeldGeneration). leb number g.cut.number) gs ≡ later →
    filter (λ (g : HeldGeneration). leb number g.cut.number) (g ∷ gs) ≡ later
passed_over number g gs later less e =
    ap (λ b. if b then g ∷ filter (λ (g : HeldGeneration). leb number g.cut.number) gs
    else filter (λ (g : HeldGeneration). leb number g.cut.number) gs) (lt-leb number g.cut.number less) ∙ e

begins : (number m f : ℕ) (gs : List HeldGeneration) → AreHeld m f gs → m ≤ number → number < m + length gs →
    BeginsAt number m gs
begins number m f [] order from to = absurd (omega arith)
begins number m f (g ∷ gs) order from to =
    by (cases_eq m number) (λ from to. begins number (m + 1) g.end gs order.1 from to)
  where
    here : g.cut.number ≡ m
    here = order.0.number

    by : (m ≡ number) ⊎ (m ≡ number → ⊥) → (m + 1 ≤ number → number < m + 1 + length gs → BeginsAt number (m + 1) gs) →
        BeginsAt number m (g ∷ gs)
    by (inl same) later =
        record {
          generation = g;
          later = gs;
          low = f;
          order = subst (λ n. AreHeld n f (g ∷ gs)) same order;
          kept = all_kept number m f (g ∷ gs) order (omega arith);
          within = λ h has. has;
          long = omega arith;
        }
    by (inr other) later =
        let rest = later (omega arith) (omega arith) in
        let less : g.cut.number < number = omega (arith, here) in
        record {
          generation = rest.generation;
          later = rest.later;
          low = rest.low;
          order = rest.order;
          kept = passed_over number g gs (rest.generation ∷ rest.later) less rest.kept;
          within = λ h has. (let there = rest.within h has in (suc there.0, there.1));
          long =
              (let long : number + length (rest.generation ∷ rest.later) ≡ m + 1 + length gs =
              rest.long in omega arith);
        }

-- ---- the run of a list

module _ (profile : Profile) (wish : List (List ℕ)) (start : ℕ) (list : ShardList) (is : IsList list) where
  row : AreHeld (oldest_of list.cuts).number (floor_of list) (held_generations profile list)
  row = list_held profile list is

  from_sweep : (sweep : Sweep) → (oldest_of list.cuts).number ≤ sweep.generation →
      sweep.generation ≤ (newest list).number → start ≤ sweep.base → sweep.base ≤ sweep.position →
      sweep.position ≤ sweep.target →
      ((g : HeldGeneration) → HasPlace (held_generations profile list) g → g.cut.number ≡ sweep.generation →
      sweep.target ≤ g.end) →
      RunOutcome wish start (held_generations profile list) sweep
      (first_run wish start
      (stretches_from sweep
      (filter (λ (g : HeldGeneration). leb sweep.generation g.cut.number) (held_generations profile list))))
  from_sweep sweep oldest latest from base position to =
      let number = newest_number (next_of list) list.cuts is.cuts in
      let long = held_long profile list list.cuts in
      let b = begins sweep.generation (oldest_of list.cuts).number (floor_of list)
      (held_generations profile list) row oldest (omega arith) in
      let at : b.generation.cut.number ≡ sweep.generation = b.order.0.number in
      let whole : sweep.generation + length (b.generation ∷ b.later)
      ≡ (oldest_of list.cuts).number + length (held_generations profile list) = b.long in
      subst
      (λ l. RunOutcome wish start (held_generations profile list) sweep
      (first_run wish start (stretches_from sweep l))) (sym b.kept)
      (generations_run wish start (held_generations profile list) (oldest_of list.cuts).number
      (floor_of list) row sweep sweep.generation b.low b.generation b.later b.order b.within
      (λ x has.
      let number_x = held_number (oldest_of list.cuts).number (floor_of list)
      (held_generations profile list) row has.0 x has.1 in
      let inside = slice_get_within (held_generations profile list) has.0 x has.1 in
      omega arith)
      sweep (sym at) from base (omega arith) (to b.generation (b.within b.generation (0, refl)) at)
      (alike_itself wish start (held_generations profile list) sweep))

  pub list_run : (sweep : Sweep) → InOrder profile list start sweep →
      RunOutcome wish start (held_generations profile list) (held_sweep list sweep)
      (first_run wish start (stretches profile list sweep))
  list_run sweep order = by (ltb sweep.generation (oldest_of list.cuts).number) refl
    where
      by : (b : Bool) → ltb sweep.generation (oldest_of list.cuts).number ≡ b →
          (let held = (if b then at_cut (oldest_of list.cuts) else sweep) in
          RunOutcome wish start (held_generations profile list) held
          (first_run wish start
          (stretches_from held
          (filter (λ (g : HeldGeneration). leb held.generation g.cut.number) (held_generations profile list)))))
      by true gone =
          let less = ltb-true sweep.generation (oldest_of list.cuts).number gone in
          let floor = end_gone (oldest_of list.cuts).number (floor_of list) (floor_of list) sweep.generation
          (held_generations profile list) row less in
          let number : (oldest_of list.cuts).number ≤ (newest list).number =
          not_older (next_of list) list.cuts is.cuts (newest list) (newest_in_order list is).0 in
          let from = order.from in
          let base = order.base in
          let position = order.position in
          let end = order.end in
          from_sweep (at_cut (oldest_of list.cuts)) (omega arith) (omega arith) (omega arith) (omega arith)
          (omega arith)
          (λ g has same.
          let place = held_place (oldest_of list.cuts).number (floor_of list)
          (held_generations profile list) has.0 g row has.1 in
          let low : floor_of list ≤ g.cut.first = place.1 in
          let ends : g.end ≡ g.cut.first + length g.messages = place.0.end in
          omega arith)
      by false still =
          from_sweep sweep (ltb-false sweep.generation (oldest_of list.cuts).number still) order.generation order.from
          order.base order.position
          (λ g has same.
          let ends = end_is (oldest_of list.cuts).number (floor_of list) (floor_of list)
          (held_generations profile list) has.0 g row has.1 in
          subst (λ n. sweep.target ≤ n) (ap (end_of (held_generations profile list) (floor_of list)) (sym same) ∙ ends)
          order.end)

  -- what a sweep counts of a message, by its generation
  pub issued_is : (sweep : Sweep) (g : HeldGeneration) (s : StreamMessage) →
      HasPlace (held_generations profile list) g → HasPlace g.messages s →
      is_issued_by profile list sweep s.message.offset ≡ is_issued_in (held_sweep list sweep) g.cut.number s
  issued_is sweep g s has_g has_s = by (is_issued_in (held_sweep list sweep) g.cut.number s) refl
    where
      by : (b : Bool) → is_issued_in (held_sweep list sweep) g.cut.number s ≡ b →
          is_issued_by profile list sweep s.message.offset ≡ b
      by true e =
          any_place
          (λ (h : HeldGeneration). list_any
          (λ (t : StreamMessage). is_at s.message.offset t && is_issued_in (held_sweep list sweep) h.cut.number t)
          h.messages) (held_generations profile list) has_g.0 g has_g.1
          (any_place
          (λ (t : StreamMessage). is_at s.message.offset t && is_issued_in (held_sweep list sweep) g.cut.number t)
          g.messages has_s.0 s has_s.1
          (and_from (is_at s.message.offset s) (is_issued_in (held_sweep list sweep) g.cut.number s)
          (eq-eqb s.message.offset s.message.offset refl) e))
      by false e =
          none_places
          (λ (h : HeldGeneration). list_any
          (λ (t : StreamMessage). is_at s.message.offset t && is_issued_in (held_sweep list sweep) h.cut.number t)
          h.messages) (held_generations profile list)
          (λ k h f. none_places
          (λ (t : StreamMessage). is_at s.message.offset t && is_issued_in (held_sweep list sweep) h.cut.number t)
          h.messages
          (λ j t f_t. each h t (k, f) (j, f_t) (cases_Bool (is_at s.message.offset t))))
        where
          each : (h : HeldGeneration) (t : StreamMessage) → HasPlace (held_generations profile list) h →
              HasPlace h.messages t → (is_at s.message.offset t ≡ true) ⊎ (is_at s.message.offset t ≡ false) →
              (is_at s.message.offset t && is_issued_in (held_sweep list sweep) h.cut.number t) ≡ false
          each h t has_h has_t (inl at) =
              let one = streamed_one (oldest_of list.cuts).number (floor_of list)
              (held_generations profile list) row h g t s has_h has_g has_t has_s
              (eqb-true t.message.offset s.message.offset at) in
              and_right (is_at s.message.offset t) (is_issued_in (held_sweep list sweep) h.cut.number t)
              (ap (λ (x : HeldGeneration). is_issued_in (held_sweep list sweep) x.cut.number t) one.0
              ∙ ap (is_issued_in (held_sweep list sweep) g.cut.number) one.1 ∙ e)
          each h t has_h has_t (inr other) =
              and_left (is_at s.message.offset t) (is_issued_in (held_sweep list sweep) h.cut.number t) other
