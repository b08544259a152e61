-- As lists grow, sweeps go on to count what was issued, and no position passes the ends.
use Rattle.std.proofs.Common.{◌≡◌, ◌⊎◌, inl, inr, ℕ, ◌≤◌, ◌<◌, true, false, ◌&&◌, ◌==◌, nat_le, nat_lt, List, [], ◌∷◌}
use Rattle.std.proofs.Common.{slice_get, Some, refl, sym, ap, ◌∙◌, arith}
use Rattle.std.specs.List.{list_any, list_all}
use Rattle.std.proofs.lemmas.Bool.{cases_lt, and_from, and_parts, and_left, and_right, or_from, eqb-true, leb-true}
use Rattle.std.proofs.lemmas.Bool.{le-leb, ltb-true, ne_eqb, cases_eq}
use Rattle.std.proofs.lemmas.List.Folds.{list_any-append}
use Rattle.topic_model.specs.Profile.{Profile}
use Rattle.topic_model.specs.StoredMessage.{StoredMessage}
use Rattle.shard_model.specs.ShardList.{ShardList, newest, oldest_of, next_of}
use Rattle.shard_model.specs.Growing.{HasGrown}
use Rattle.shard_model.specs.SweepOrder.{is_issued_by}
use Rattle.shard_model.specs.Lists.{IsList}
use Rattle.shard_model.specs.Wanted.{is_wanted}
use Rattle.topic_model.specs.Places.{HasPlace}
use Rattle.shard_model.specs.laws.PlaceLaws.{kept_place, place_kept}
use Rattle.shard_model.specs.laws.OrderLaws.{newest_in_order, numbers_in_order}
use Rattle.shard_model.specs.laws.GrownSweepLaws.{was_in, order_stays, counts_stay, none_of_new}
use Rattle.session_model.specs.declared.entry.Entry.{Entry}
use Rattle.session_model.specs.PlainSession.{PlainSession}
use Rattle.session_state.specs.declared.batch.Batch.{Batch}
use Rattle.session_state.specs.KeptSession.{KeptSession}
use Rattle.turn_model.specs.Pump.{Pair}
use Rattle.turn_model.specs.MayIssue.{is_issue_of}
use Rattle.session_refinement.specs.StandFor.{Group, AreGroups, is_entry_from, entries_of, AllEndWithin, AreReadAgain}
use Rattle.session_refinement.specs.StandFor.{IsServed, IsCounted, IsWithin, StandsFor, was_issued_to, positions_of}
use Rattle.session_refinement.specs.StandFor.{generations_of}
use Rattle.session_refinement.specs.Issuing.{HaveGrown}

-- ---- nothing new was issued

entry_below : (number : ℕ) (b : Batch) (e : Entry) → is_entry_from number b e ≡ true → (e.shard ≡ b.shard)
    × (e.offset < b.to)
entry_below number b e is =
    let one = and_parts (e.subscription == number)
    ((e.version == b.version) && ((e.shard == b.shard) && (nat_le b.from e.offset && nat_lt e.offset b.to))) is in
    let two = and_parts (e.version == b.version)
    ((e.shard == b.shard) && (nat_le b.from e.offset && nat_lt e.offset b.to)) one.1 in
    let three = and_parts (e.shard == b.shard) (nat_le b.from e.offset && nat_lt e.offset b.to) two.1 in
    let four = and_parts (nat_le b.from e.offset) (nat_lt e.offset b.to) three.1 in
    (eqb-true e.shard b.shard three.0, ltb-true e.offset b.to four.1)

none_in : (number n shard offset : ℕ) (b : Batch) (es : List Entry) → list_all (is_entry_from number b) es ≡ true →
    (shard ≡ b.shard → b.to ≤ offset) → list_any (is_issue_of n shard offset) es ≡ false
none_in number n shard offset b [] all past = refl
none_in number n shard offset b (e ∷ es) all past =
    or_from ((e.subscription == n) && ((e.shard == shard) && (e.offset == offset)))
    (list_any (is_issue_of n shard offset) es) (by (cases_eq e.shard shard) (cases_eq e.offset offset))
    (none_in number n shard offset b es parts.1 past)
  where
    parts : (is_entry_from number b e ≡ true) × (list_all (is_entry_from number b) es ≡ true)
    parts = and_parts (is_entry_from number b e) (list_all (is_entry_from number b) es) all

    of : (e.shard ≡ b.shard) × (e.offset < b.to)
    of = entry_below number b e parts.0

    by : (e.shard ≡ shard) ⊎ (e.shard ≡ shard → ⊥) → (e.offset ≡ offset) ⊎ (e.offset ≡ offset → ⊥) →
        ((e.subscription == n) && ((e.shard == shard) && (e.offset == offset))) ≡ false
    by (inl one) (inl two) = let low = of.1 in let high =
        past (sym one ∙ of.0) in absurd (omega (arith, low, high, two))
    by (inl one) (inr two) = and_right (e.subscription == n) ((e.shard == shard) && (e.offset == offset))
        (and_right (e.shard == shard) (e.offset == offset) (ne_eqb e.offset offset two))
    by (inr one) two = and_right (e.subscription == n) ((e.shard == shard) && (e.offset == offset))
        (and_left (e.shard == shard) (e.offset == offset) (ne_eqb e.shard shard one))

none_new : (lists : List ShardList) (m : PlainSession) (n shard offset : ℕ) (list : ShardList) →
    slice_get lists shard ≡ Some list → next_of list ≤ offset → (groups : List Group) → AreGroups m groups →
    AllEndWithin lists groups → list_any (is_issue_of n shard offset) (entries_of groups) ≡ false
none_new lists m n shard offset list has past [] are ends = refl
none_new lists m n shard offset list has past (g ∷ gs) are ends =
    list_any-append (is_issue_of n shard offset) g.entries (entries_of gs)
    ∙ or_from (list_any (is_issue_of n shard offset) g.entries) (list_any (is_issue_of n shard offset) (entries_of gs))
    (none_in are.0.version.subscription n shard offset g.batch g.entries are.0.entries
    (λ same. let end = ends.0 list (ap (slice_get lists) (sym same) ∙ has) in omega (arith, end, past)))
    (none_new lists m n shard offset list has past gs are.1 ends.1)

-- ---- numbers that stay below

all_weaker : (a b : ℕ) → a ≤ b → (ns : List ℕ) → list_all (λ (n : ℕ). nat_le n a) ns ≡ true →
    list_all (λ (n : ℕ). nat_le n b) ns ≡ true
all_weaker a b more [] all = refl
all_weaker a b more (n ∷ ns) all =
    let parts = and_parts (nat_le n a) (list_all (λ (n : ℕ). nat_le n a) ns) all in
    let low = leb-true n a parts.0 in
    and_from (nat_le n b) (list_all (λ (n : ℕ). nat_le n b) ns) (le-leb n b (omega (arith, low, more)))
    (all_weaker a b more ns parts.1)

newest_grows : (list later : ShardList) → IsList list → IsList later → HasGrown list later →
    (newest list).number ≤ (newest later).number
newest_grows list later is is_later grown = by (cases_lt (newest list).number (oldest_of later.cuts).number)
  where
    by : ((newest list).number < (oldest_of later.cuts).number)
        ⊎ ((oldest_of later.cuts).number ≤ (newest list).number) → (newest list).number ≤ (newest later).number
    by (inl gone) = let ends = (numbers_in_order later (newest later) is_later (newest_in_order later is_later).0).0 in
        omega (arith, gone, ends)
    by (inr held) =
        let there = grown.kept (newest list) (newest_in_order list is).0 held in
        let below = (numbers_in_order later there.0 is_later there.1).1 in
        let same = there.2.number in
        omega (arith, below, same)

-- ---- over the later lists

pub stands_as_grown : (profile : Profile) (lists later : List ShardList) (k : KeptSession) (m : PlainSession) →
    HaveGrown lists later → (h : StandsFor profile lists k m) →
    AreReadAgain profile later m h.groups → StandsFor profile later k m
stands_as_grown profile lists later k m grown h again =
    record {
      groups = h.groups;
      keeps = h.keeps;
      again = again;
      ends = ends h.groups h.ends;
      counted = counted;
      within =
          within;
    }
  where
    ends : (groups : List Group) → AllEndWithin lists groups → AllEndWithin later groups
    ends [] end = tt
    ends (g ∷ gs) end = (
      (λ list has. let now = grown g.batch.shard list has in let before = end.0 now.list now.has in let more =
          now.grown.ends in omega (arith, before, more)),
      ends gs end.1,
    )

    within : (shard : ℕ) (list : ShardList) → slice_get later shard ≡ Some list → IsWithin k shard list
    within shard list has =
        let now = grown shard list has in
        let before = h.within shard now.list now.has in
        record {
          positions = all_weaker (next_of now.list) (next_of list) now.grown.ends
              (positions_of k shard) before.positions;
          generations = all_weaker (newest now.list).number (newest list).number
              (newest_grows now.list list now.is now.is_later now.grown) (generations_of k shard) before.generations;
        }

    counted : (p : Pair) (list : ShardList) → IsServed later m p list → IsCounted profile m p list
    counted p list served =
        let now = grown p.shard list served.has_list in
        let before =
        h.counted p now.list
        (record {
          has_subscription = served.has_subscription;
          live = served.live;
          has_start = served.has_start;
          has_sweep =
              served.has_sweep;
          has_list = now.has;
        }) in
        record {
          order = order_stays profile now.list list p.start p.sweep now.is now.is_later now.grown before.order;
          counts = λ w has. by now.list now.has now.is now.is_later now.grown before w
              (kept_place (is_wanted p.subscription.filter p.start) list.messages has.0 w has.1)
              (cases_lt w.offset (next_of now.list));
        }
      where
        by : (old : ShardList) → slice_get lists p.shard ≡ Some old → IsList old → IsList list → HasGrown old list →
            IsCounted profile m p old → (w : StoredMessage) →
            HasPlace list.messages w × (is_wanted p.subscription.filter p.start w ≡ true) → (w.offset < next_of old)
            ⊎ (next_of old ≤ w.offset) → was_issued_to m p w.offset ≡ is_issued_by profile list p.sweep w.offset
        by old has is is_later more before w kept (inl less) =
            let there = was_in profile old list w is is_later more kept.0 less in
            before.counts w (place_kept (is_wanted p.subscription.filter p.start) old.messages there.0 w there.1 kept.1)
            ∙ sym (counts_stay profile old list p.start p.sweep w is is_later more before.order kept.0 less)
        by old has is is_later more before w kept (inr past) =
            ap (list_any (is_issue_of p.subscription.number p.shard w.offset)) (sym h.keeps.issued)
            ∙ none_new lists m p.subscription.number p.shard w.offset old has past h.groups h.keeps.are_groups h.ends
            ∙ sym (none_of_new profile old list p.start p.sweep w is is_later more before.order kept.0 past)
