-- The next run of a sweep in order: what the sweep counts as issued stays so up to the stretch that the run lies in,
-- and what lies between isn't wanted.
use Rattle.std.proofs.Common.{◌≡◌, ◌⊎◌, inl, inr, ℕ, zero, suc, ◌+◌, ◌-◌, ◌<◌, ◌≤◌, Bool, true, false, ◌&&◌, ◌||◌, ltb}
use Rattle.std.proofs.Common.{leb, eqb, if◌then◌else◌, List, [], ◌∷◌, ◌++◌, length, map, filter, Option, Some, None}
use Rattle.std.proofs.Common.{slice_get, refl, sym, ap, subst, ◌∙◌, arith}
use Rattle.std.proofs.lemmas.Bool.{cases_eq, cases_lt, cases_order, ne_eqb, le-leb, lt-leb}
use Rattle.std.proofs.lemmas.Bool.Decides.{nat_tests}
use Rattle.std.proofs.lemmas.List.{append-nil}
use Rattle.std.proofs.lemmas.Option.{none-some, same_Some}
use Rattle.topic_model.specs.StoredMessage.{StoredMessage}
use Rattle.shard_model.specs.declared.sweep.Sweep.{Sweep}
use Rattle.shard_model.specs.Streams.{StreamMessage, HeldGeneration}
use Rattle.shard_model.specs.Wanted.{is_wanted}
use Rattle.shard_model.specs.SweepOrder.{at_cut, is_behind, is_issued_in, Stretch, counted_from, stream_end, window}
use Rattle.shard_model.specs.SweepOrder.{grown_window, stretches_from, is_in, wanted_in, Run, first_run}
use Rattle.topic_model.specs.Places.{HasPlace}
use Rattle.shard_model.specs.laws.PlaceLaws.{none_kept}
use Rattle.shard_model.specs.laws.HeldLaws.{AreHeld, held_offset, held_one}

-- ---- what two sweeps count

-- each wanted message is counted as issued by both, or by none of them
pub record CountAlike (wish : List (List ℕ)) (start : ℕ) (gs : List HeldGeneration) (a b : Sweep) : Type 0 where
  pub same : (g : HeldGeneration) (s : StreamMessage) → HasPlace gs g → HasPlace g.messages s →
      is_wanted wish start s.message ≡ true → is_issued_in a g.cut.number s ≡ is_issued_in b g.cut.number s

-- a run among some generations, as a sweep comes to it
pub record IsRun (wish : List (List ℕ)) (start : ℕ) (gs : List HeldGeneration) (original : Sweep)
    (run : Run) : Type 0 where
  pub generation : HeldGeneration
  pub held : HasPlace gs generation
  pub number : run.sweep.generation ≡ generation.cut.number
  pub messages : run.messages ≡ wanted_in wish start (record { sweep = run.sweep; messages = generation.messages })
  pub some : 0 < length run.messages
  pub from : start ≤ run.sweep.base
  pub base : run.sweep.base ≤ run.sweep.position
  pub end : run.sweep.target ≤ generation.end
  pub counts : CountAlike wish start gs original run.sweep

-- each wanted message is counted as issued
pub record CountsAll (wish : List (List ℕ)) (start : ℕ) (gs : List HeldGeneration) (a : Sweep) : Type 0 where
  pub all : (g : HeldGeneration) (s : StreamMessage) → HasPlace gs g → HasPlace g.messages s →
      is_wanted wish start s.message ≡ true → is_issued_in a g.cut.number s ≡ true

-- a run that a sweep comes to, or none where it counts all that is wanted
abbrev pub RunOutcome : List (List ℕ) → ℕ → List HeldGeneration → Sweep → Option Run → Type 0
RunOutcome wish start gs original None = CountsAll wish start gs original
RunOutcome wish start gs original (Some run) = IsRun wish start gs original run

-- ---- numbers alone

in_one : (number generation : ℕ) (x y : Bool) → (number ≡ generation → x ≡ y) →
    (ltb number generation || (eqb number generation && x)) ≡ (ltb number generation || (eqb number generation && y))
in_one number generation x y same = by (cases_eq number generation)
  where
    by : (number ≡ generation) ⊎ (number ≡ generation → ⊥) →
        (ltb number generation || (eqb number generation && x))
        ≡ (ltb number generation || (eqb number generation && y))
    by (inl equal) = ap (λ z. ltb number generation || (eqb number generation && z)) (same equal)
    by (inr other) =
        ap (λ z. ltb number generation || (z && x)) (ne_eqb number generation other)
        ∙ ap (λ z. ltb number generation || (z && y)) (sym (ne_eqb number generation other))

-- behind a stretch in which nothing is wanted
passed : (base target stream position o t : ℕ) → base ≤ position →
    (eqb t stream && (leb position o && ltb o target)) ≡ false →
    (ltb o base || (ltb o target && (ltb t stream || (eqb t stream && ltb o position))))
    ≡ (ltb o base || (ltb o target && (ltb t (stream + 1) || (eqb t (stream + 1) && ltb o base))))
passed base target stream position o t le none = grind (arith, nat_tests)

-- behind the last stream of a window
closed : (base target end stream o t : ℕ) → base ≤ target → t < stream →
    (ltb o base || (ltb o target && (ltb t stream || (eqb t stream && ltb o base))))
    ≡ (ltb o target || (ltb o end && (ltb t 0 || (eqb t 0 && ltb o target))))
closed base target end stream o t le less = grind (arith, nat_tests)

-- at the front of the next generation
next_begins : (number generation next o base first : ℕ) (x y : Bool) → next ≡ generation + 1 →
    (number ≡ generation → o < base) → (number ≡ next → first ≤ o) →
    (ltb number generation || (eqb number generation && (ltb o base || x)))
    ≡ (ltb number next || (eqb number next && (ltb o first || (ltb o first && y))))
next_begins number generation next o base first x y up before behind = by (cases_order number generation)
  where
    by : (number ≡ generation) ⊎ ((number < generation) ⊎ (generation < number)) →
        (ltb number generation || (eqb number generation && (ltb o base || x)))
        ≡ (ltb number next || (eqb number next && (ltb o first || (ltb o first && y))))
    by (inl same) = let less : o < base = before same in let under : number < next =
        omega arith in grind (arith, nat_tests)
    by (inr (inl less)) = let under : number < next = omega arith in grind (arith, nat_tests)
    by (inr (inr more)) = by_next (cases_eq number next)
      where
        by_next : (number ≡ next) ⊎ (number ≡ next → ⊥) →
            (ltb number generation || (eqb number generation && (ltb o base || x)))
            ≡ (ltb number next || (eqb number next && (ltb o first || (ltb o first && y))))
        by_next (inl same) = let from : first ≤ o = behind same in grind (arith, nat_tests)
        by_next (inr other) = grind (arith, nat_tests)

-- at the end of the last generation
all_behind : (number generation o base : ℕ) (x : Bool) → number ≤ generation → (number ≡ generation → o < base) →
    (ltb number generation || (eqb number generation && (ltb o base || x))) ≡ true
all_behind number generation o base x le before = by (cases_eq number generation)
  where
    by : (number ≡ generation) ⊎ (number ≡ generation → ⊥) →
        (ltb number generation || (eqb number generation && (ltb o base || x))) ≡ true
    by (inl same) = let less : o < base = before same in grind (arith, nat_tests)
    by (inr other) = let under : number < generation = omega arith in grind (arith, nat_tests)

-- ---- streams

pub stream_below : (ss : List StreamMessage) (k : ℕ) (s : StreamMessage) → slice_get ss k ≡ Some s →
    s.stream < stream_end ss
stream_below [] k s e = absurd (none-some s e)
stream_below (x ∷ ss) k s e = by (cases_lt x.stream (stream_end ss)) k e (λ k e. stream_below ss k s e)
  where
    by : (x.stream < stream_end ss) ⊎ (stream_end ss ≤ x.stream) → (k : ℕ) → slice_get (x ∷ ss) k ≡ Some s →
        ((k : ℕ) → slice_get ss k ≡ Some s → s.stream < stream_end ss)
        → s.stream < (if leb (stream_end ss) x.stream then x.stream + 1 else stream_end ss)
    by (inl less) zero e later =
        let same : x.stream ≡ s.stream = ap (λ (y : StreamMessage). y.stream) (same_Some x s e) in
        subst (λ b. s.stream < (if b then x.stream + 1 else stream_end ss)) (sym (lt-leb (stream_end ss) x.stream less))
        (omega arith)
    by (inl less) (suc k) e later = subst (λ b. s.stream < (if b then x.stream + 1 else stream_end ss))
        (sym (lt-leb (stream_end ss) x.stream less)) (later k e)
    by (inr more) zero e later =
        let same : x.stream ≡ s.stream = ap (λ (y : StreamMessage). y.stream) (same_Some x s e) in
        subst (λ b. s.stream < (if b then x.stream + 1 else stream_end ss)) (sym (le-leb (stream_end ss) x.stream more))
        (omega arith)
    by (inr more) (suc k) e later =
        let rest = later k e in
        subst (λ b. s.stream < (if b then x.stream + 1 else stream_end ss)) (sym (le-leb (stream_end ss) x.stream more))
        (omega arith)

first_or_rest : (P : Option Run → Type 0) (sweep : Sweep) (ms : List StoredMessage) (later : Option Run) →
    (0 < length ms → P (Some (record { messages = ms; sweep = sweep }))) → (ms ≡ [] → P later) →
    P (elim ms as (λ ms. Option Run) [ [] ↦ later | m ∷ ms ↦ Some (record { messages = m ∷ ms; sweep = sweep }) ])
first_or_rest P sweep [] later here rest = rest refl
first_or_rest P sweep (m ∷ ms) later here rest = here (omega arith)

none_mapped : (ss : List StreamMessage) → map (λ (s : StreamMessage). s.message) ss ≡ [] → ss ≡ []
none_mapped [] e = refl
none_mapped (s ∷ ss) e = cc

only_first : (a b : Bool) → b ≡ true → (a && b) ≡ false → a ≡ false
only_first true b passes e = absurd (cc)
only_first false b passes e = refl

-- ---- from one stretch to the next

module _ (wish : List (List ℕ)) (start : ℕ) (gs : List HeldGeneration) where
  pub alike_then : (a b c : Sweep) → CountAlike wish start gs a b → CountAlike wish start gs b c →
      CountAlike wish start gs a c
  alike_then a b c x y = record { same = λ g s has_g has_s w. x.same g s has_g has_s w ∙ y.same g s has_g has_s w }

  pub alike_itself : (a : Sweep) → CountAlike wish start gs a a
  alike_itself a = record { same = λ g s has_g has_s w. refl }

  here_run : (original sweep : Sweep) (g : HeldGeneration) → HasPlace gs g → sweep.generation ≡ g.cut.number →
      start ≤ sweep.base → sweep.base ≤ sweep.position → sweep.target ≤ g.end →
      CountAlike wish start gs original sweep →
      0 < length (wanted_in wish start (record { sweep = sweep; messages = g.messages })) →
      IsRun wish start gs original
      (record { messages = wanted_in wish start (record { sweep = sweep; messages = g.messages }); sweep = sweep })
  here_run original sweep g has number from base end counts some =
      record {
        generation = g;
        held = has;
        number = number;
        messages = refl;
        some = some;
        from = from;
        base =
            base;
        end = end;
        counts = counts;
      }

  module _ (n low : ℕ) (row : AreHeld n low gs) where
    in_generation : (a b : Sweep) (g : HeldGeneration) → HasPlace gs g → a.generation ≡ g.cut.number →
        b.generation ≡ a.generation →
        ((s : StreamMessage) → HasPlace g.messages s → is_wanted wish start s.message ≡ true →
        is_behind a s ≡ is_behind b s) → CountAlike wish start gs a b
    in_generation a b g has number same behind =
        record {
          same = λ h s has_h has_s w.
              in_one h.cut.number a.generation (is_behind a s) (is_behind b s)
              (λ equal. behind s
              (subst (λ (x : HeldGeneration). HasPlace x.messages s)
              (held_one n low gs row h g has_h has (equal ∙ number)) has_s) w)
              ∙ ap (λ k. ltb h.cut.number k || (eqb h.cut.number k && is_behind b s)) (sym same);
        }

    behind_stretch : (sweep : Sweep) (g : HeldGeneration) → HasPlace gs g → sweep.generation ≡ g.cut.number →
        sweep.base ≤ sweep.position →
        wanted_in wish start (record { sweep = sweep; messages = g.messages }) ≡ [] →
        CountAlike wish start gs sweep (record sweep { stream = sweep.stream + 1; position = sweep.base })
    behind_stretch sweep g has number base none =
        in_generation sweep (record sweep { stream = sweep.stream + 1; position = sweep.base }) g has number refl
        (λ s has_s w.
        let outside : is_in sweep s ≡ false =
        only_first (is_in sweep s) (is_wanted wish start s.message) w
        (none_kept (λ (s : StreamMessage). is_in sweep s && is_wanted wish start s.message) g.messages has_s.0 s
        (none_mapped (filter (λ (s : StreamMessage). is_in sweep s && is_wanted wish start s.message) g.messages) none)
        has_s.1) in
        passed sweep.base sweep.target sweep.stream sweep.position s.message.offset s.stream base outside)

    behind_window : (sweep : Sweep) (g : HeldGeneration) (end k : ℕ) → HasPlace gs g → sweep.generation ≡ g.cut.number →
        sweep.base ≤ sweep.target → stream_end g.messages ≤ k →
        CountAlike wish start gs (record sweep { stream = k; position = sweep.base })
        (record sweep { base = sweep.target; target = end; stream = 0; position = sweep.target })
    behind_window sweep g end k has number base all =
        in_generation (record sweep { stream = k; position = sweep.base })
        (record sweep { base = sweep.target; target = end; stream = 0; position = sweep.target }) g has number refl
        (λ s has_s w.
        let below = stream_below g.messages has_s.0 s has_s.1 in
        let less : s.stream < k = omega arith in
        closed sweep.base sweep.target end k s.message.offset s.stream base less)

    -- the streams of a window from one on
    later_streams : (original sweep : Sweep) (g : HeldGeneration) (end : ℕ) (rest : List Stretch) → HasPlace gs g →
        sweep.generation ≡ g.cut.number → start ≤ sweep.base → sweep.base ≤ sweep.target → sweep.target ≤ g.end →
        (CountAlike wish start gs original
        (record sweep { base = sweep.target; target = end; stream = 0; position = sweep.target }) →
        RunOutcome wish start gs original (first_run wish start rest)) →
        (more k : ℕ) → stream_end g.messages ≤ k + more →
        CountAlike wish start gs original (record sweep { stream = k; position = sweep.base }) →
        RunOutcome wish start gs original
        (first_run wish start
        (map
        (λ stream.
        record { sweep = record sweep { stream = stream; position = sweep.base }; messages = g.messages })
        (counted_from k more) ++ rest))
    later_streams original sweep g end rest has number from base to behind zero k all counts =
        behind
        (alike_then original (record sweep { stream = k; position = sweep.base })
        (record sweep { base = sweep.target; target = end; stream = 0; position = sweep.target }) counts
        (behind_window sweep g end k has number base (omega arith)))
    later_streams original sweep g end rest has number from base to behind (suc more) k all counts =
        first_or_rest (RunOutcome wish start gs original) (record sweep { stream = k; position = sweep.base })
        (wanted_in wish start
        (record { sweep = record sweep { stream = k; position = sweep.base }; messages = g.messages }))
        (first_run wish start
        (map
        (λ stream.
        record { sweep = record sweep { stream = stream; position = sweep.base }; messages = g.messages })
        (counted_from (k + 1) more) ++ rest))
        (λ some. here_run original (record sweep { stream = k; position = sweep.base }) g has number from
        (omega arith) to counts some)
        (λ none.
        later_streams original sweep g end rest has number from base to behind more (k + 1) (omega arith)
        (alike_then original (record sweep { stream = k; position = sweep.base })
        (record sweep { stream = k + 1; position = sweep.base }) counts
        (behind_stretch (record sweep { stream = k; position = sweep.base }) g has number (omega arith) none)))

    window_run : (original sweep : Sweep) (g : HeldGeneration) (end : ℕ) (rest : List Stretch) → HasPlace gs g →
        sweep.generation ≡ g.cut.number → start ≤ sweep.base → sweep.base ≤ sweep.position → sweep.base ≤ sweep.target →
        sweep.target ≤ g.end →
        (CountAlike wish start gs original
        (record sweep { base = sweep.target; target = end; stream = 0; position = sweep.target }) →
        RunOutcome wish start gs original (first_run wish start rest)) →
        CountAlike wish start gs original sweep →
        RunOutcome wish start gs original (first_run wish start (window sweep g.messages ++ rest))
    window_run original sweep g end rest has number from order base to behind counts =
        let k = sweep.stream + 1 in
        let more = stream_end g.messages - k in
        first_or_rest (RunOutcome wish start gs original) sweep
        (wanted_in wish start (record { sweep = sweep; messages = g.messages }))
        (first_run wish start
        (map
        (λ stream.
        record { sweep = record sweep { stream = stream; position = sweep.base }; messages = g.messages })
        (counted_from k more) ++ rest))
        (λ some. here_run original sweep g has number from order to counts some)
        (λ none.
        later_streams original sweep g end rest has number from base to behind more k (omega arith)
        (alike_then original sweep (record sweep { stream = k; position = sweep.base }) counts
        (behind_stretch sweep g has number order none)))

    -- at the end of the last generation all are counted
    behind_all : (original sweep : Sweep) (g : HeldGeneration) → HasPlace gs g → sweep.generation ≡ g.cut.number →
        ((x : HeldGeneration) → HasPlace gs x → x.cut.number ≤ g.cut.number) →
        CountAlike wish start gs original
        (record sweep { base = g.end; target = g.end; stream = 0; position = g.end }) →
        CountsAll wish start gs original
    behind_all original sweep g has number last counts =
        record {
          all = λ x s has_x has_s w.
              let inside = held_offset n low gs row has_x.0 x has_x.1 has_s.0 s has_s.1 in
              counts.same x s has_x has_s w
              ∙ all_behind x.cut.number sweep.generation s.message.offset g.end
              (ltb s.message.offset g.end && (ltb s.stream 0 || (eqb s.stream 0 && ltb s.message.offset g.end)))
              (let le = last x has_x in omega arith)
              (λ same.
              let one : x.end ≡ g.end = ap (λ (y : HeldGeneration). y.end)
              (held_one n low gs row x g has_x has (same ∙ number)) in
              let below : s.message.offset < x.end = inside.1 in
              omega arith);
        }

    behind_generation : (sweep : Sweep) (g h : HeldGeneration) → HasPlace gs g → HasPlace gs h →
        sweep.generation ≡ g.cut.number → h.cut.number ≡ g.cut.number + 1 →
        CountAlike wish start gs (record sweep { base = g.end; target = g.end; stream = 0; position = g.end })
        (at_cut h.cut)
    behind_generation sweep g h has_g has_h number next =
        record {
          same = λ x s has_x has_s w.
              let inside = held_offset n low gs row has_x.0 x has_x.1 has_s.0 s has_s.1 in
              let up : h.cut.number ≡ sweep.generation + 1 = omega arith in
              next_begins x.cut.number sweep.generation h.cut.number s.message.offset g.end h.cut.first
              (ltb s.message.offset g.end && (ltb s.stream 0 || (eqb s.stream 0 && ltb s.message.offset g.end)))
              (ltb s.stream 0 || (eqb s.stream 0 && ltb s.message.offset h.cut.first)) up
              (λ same.
              let one : x.end ≡ g.end = ap (λ (y : HeldGeneration). y.end)
              (held_one n low gs row x g has_x has_g (same ∙ number)) in
              let below : s.message.offset < x.end = inside.1 in
              omega arith)
              (λ same.
              let one : x.cut.first ≡ h.cut.first =
              ap (λ (y : HeldGeneration). y.cut.first) (held_one n low gs row x h has_x has_h same) in
              let at : s.message.offset ≡ x.cut.first + has_s.0 = inside.0 in
              omega arith);
        }

    -- from a generation on
    pub generations_run : (original : Sweep) (m f : ℕ) (g : HeldGeneration) (rest : List HeldGeneration) →
        AreHeld m f (g ∷ rest) → ((h : HeldGeneration) → HasPlace (g ∷ rest) h → HasPlace gs h) →
        ((x : HeldGeneration) → HasPlace gs x → x.cut.number < m + length (g ∷ rest)) →
        (sweep : Sweep) → sweep.generation ≡ g.cut.number → start ≤ sweep.base → sweep.base ≤ sweep.position →
        sweep.base ≤ sweep.target → sweep.target ≤ g.end →
        CountAlike wish start gs original sweep →
        RunOutcome wish start gs original (first_run wish start (stretches_from sweep (g ∷ rest)))
    generations_run original m f g [] order within last sweep number from base target to counts =
        let has = within g (0, refl) in
        let here : g.cut.number ≡ m = order.0.number in
        window_run original sweep g g.end (grown_window sweep g) has number from base target to
        (λ counts.
        subst (λ l. RunOutcome wish start gs original (first_run wish start l)) (append-nil (grown_window sweep g))
        (window_run original (record sweep { base = sweep.target; target = g.end; stream = 0; position = sweep.target })
        g g.end [] has number (omega arith) (omega arith) to (omega arith)
        (λ counts. behind_all original sweep g has number
        (λ x has_x. (let less : x.cut.number < m + 1 = last x has_x in omega arith)) counts) counts)) counts
    generations_run original m f g (h ∷ rest) order within last sweep number from base target to counts =
        let has = within g (0, refl) in
        let has_h = within h (1, refl) in
        let here : g.cut.number ≡ m = order.0.number in
        let there : h.cut.number ≡ m + 1 = order.1.0.number in
        let begins : h.cut.first ≡ g.end = order.1.0.first in
        let ends : h.end ≡ g.end + length h.messages = order.1.0.end in
        let next : h.cut.number ≡ g.cut.number + 1 = omega arith in
        let from_next : start ≤ h.cut.first = omega arith in
        let to_next : h.cut.first ≤ h.end = omega arith in
        window_run original sweep g g.end (grown_window sweep g ++ stretches_from (at_cut h.cut) (h ∷ rest)) has number
        from base target to
        (λ counts.
        window_run original (record sweep { base = sweep.target; target = g.end; stream = 0; position = sweep.target })
        g g.end (stretches_from (at_cut h.cut) (h ∷ rest)) has number (omega arith) (omega arith) to (omega arith)
        (λ counts.
        generations_run original (m + 1) g.end h rest order.1 (λ x has_x. within x (suc has_x.0, has_x.1))
        (λ x has_x. (let less = last x has_x in omega arith)) (at_cut h.cut) refl from_next (omega arith)
        (omega arith) to_next
        (alike_then original (record sweep { base = g.end; target = g.end; stream = 0; position = g.end })
        (at_cut h.cut) counts (behind_generation sweep g h has has_h number next)))
        counts) counts
