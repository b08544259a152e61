-- As a list grows, its generations keep the streams of their messages.
use Rattle.std.proofs.Common.{◌≡◌, ◌⊎◌, inl, inr, ℕ, zero, suc, ◌+◌, ◌-◌, ◌<◌, ◌≤◌, Bool, true, false, if◌then◌else◌}
use Rattle.std.proofs.Common.{List, [], ◌∷◌, ◌++◌, length, take, drop, Some, None, slice_get, refl, sym, ap, subst, ◌∙◌}
use Rattle.std.proofs.Common.{arith}
use Rattle.std.proofs.lemmas.Bool.{le-ltb}
use Rattle.std.proofs.lemmas.List.{map-append, length-drop, drop-drop}
use Rattle.std.proofs.lemmas.Option.{none-some, same_Some}
use Rattle.topic_model.specs.StoredMessage.{StoredMessage}
use Rattle.topic_model.specs.Profile.{Profile}
use Rattle.shard_model.specs.LearnedPath.{patterns_after}
use Rattle.shard_model.specs.ShardList.{Cut, ShardList, newest, newest_of, oldest_of, floor_of, next_of, first_message}
use Rattle.shard_model.specs.ShardList.{message_at}
use Rattle.topic_model.specs.Places.{HasPlace}
use Rattle.shard_model.specs.Growing.{IsSame, HasGrown}
use Rattle.shard_model.specs.Streams.{StreamMessage, streams_from, in_one_stream, streams_if, streams_of, topics_of}
use Rattle.shard_model.specs.Streams.{end_before, messages_between, HeldGeneration, held_from, held_generations}
use Rattle.shard_model.specs.Lists.{IsRow, IsList}
use Rattle.shard_model.specs.laws.StreamLaws.{streams_of_both}
use Rattle.shard_model.specs.laws.ListLaws.{number_is_one}
use Rattle.shard_model.specs.laws.OrderLaws.{row_firsts}
use Rattle.shard_model.specs.Growing.{Continues}

-- ---- more messages leave the streams of those before

streams_with : (profile : Profile) (cut : Cut) (ms more : List StoredMessage) → (rest : List StreamMessage)
    × (streams_of profile cut (ms ++ more) ≡ streams_of profile cut ms ++ rest)
streams_with profile cut ms more = by profile.learns
  where
    by : (learns : Bool) → (rest : List StreamMessage)
        × (streams_if learns cut (ms ++ more) ≡ streams_if learns cut ms ++ rest)
    by true = (
      streams_from cut.top cut.below (patterns_after cut.top cut.below [] (topics_of ms)) more,
      streams_of_both cut.top cut.below [] ms more,
    )
    by false = (in_one_stream more, map-append (λ (m : StoredMessage). record { message = m; stream = 0 }) ms more)

streams_same : (profile : Profile) (cut other : Cut) (ms : List StoredMessage) → IsSame cut other →
    streams_of profile cut ms ≡ streams_of profile other ms
streams_same profile cut other ms same = by profile.learns
  where
    by : (learns : Bool) → streams_if learns cut ms ≡ streams_if learns other ms
    by true = ap (λ top. streams_from top cut.below [] ms) same.top
        ∙ ap (λ below. streams_from other.top below [] ms) same.below
    by false = refl

-- ---- the messages of a generation

take_none : (k : ℕ) → take {A = StoredMessage} k [] ≡ []
take_none zero = refl
take_none (suc k) = refl

take_more : (n m : ℕ) (ms : List StoredMessage) → n ≤ m → take m ms ≡ take n ms ++ take (m - n) (drop n ms)
take_more zero m ms le = let same : m ≡ m - zero = omega arith in ap (λ k. take k ms) same
take_more (suc n) zero ms le = absurd (omega arith)
take_more (suc n) (suc m) [] le = sym (take_none (suc m - suc n))
take_more (suc n) (suc m) (x ∷ ms) le =
    let same : m - n ≡ suc m - suc n =
    omega arith in ap (λ l. x ∷ l) (take_more n m ms (omega arith))
    ∙ ap (λ k. x ∷ (take n ms ++ take k (drop n ms))) same

-- lists with the same elements at the first places have the same front
same_front : (n : ℕ) (xs ys : List StoredMessage) → n ≤ length xs →
    ((i : ℕ) → i < n → first_message (drop i ys) ≡ first_message (drop i xs)) → take n ys ≡ take n xs
same_front zero xs ys le same = refl
same_front (suc n) [] ys le same = absurd (omega arith)
same_front (suc n) (x ∷ xs) [] le same = absurd (none-some x (same 0 (omega arith)))
same_front (suc n) (x ∷ xs) (y ∷ ys) le same =
    ap (λ z. z ∷ take n ys) (same_Some y x (same 0 (omega arith)))
    ∙ ap (λ l. x ∷ l) (same_front n xs ys (omega arith) (λ i h. same (suc i) (omega arith)))

-- the message at an offset of a generation
at_place : (list : ShardList) (first i : ℕ) → floor_of list ≤ first →
    message_at list (first + i) ≡ first_message (drop i (drop (first - floor_of list) list.messages))
at_place list first i from =
    let low : floor_of list ≤ first + i = omega arith in
    let place : first + i - floor_of list ≡ first - floor_of list + i = omega arith in
    ap (λ b. if b then None else first_message (drop (first + i - floor_of list) list.messages))
    (le-ltb (first + i) (floor_of list) low)
    ∙ ap (λ k. first_message (drop k list.messages)) place
    ∙ ap first_message (sym (drop-drop i (first - floor_of list) list.messages))

-- between the same offsets lie the same messages, and more up to a later end
between_same : (list later : ShardList) (first end more : ℕ) → HasGrown list later → floor_of list ≤ first →
    floor_of later ≤ first → end ≤ next_of list → end ≤ more →
    (rest : List StoredMessage) × (messages_between later first more ≡ messages_between list first end ++ rest)
between_same list later first end more grown from held to le =
    let n = end - first in
    let xs = drop (first - floor_of list) list.messages in
    let ys = drop (first - floor_of later) later.messages in
    let long = length-drop (first - floor_of list) list.messages in
    let fits : n ≤ length xs = omega arith in
    let enough : n ≤ more - first = omega arith in
    let front : take n ys ≡ take n xs =
    same_front n xs ys fits
    (λ i h.
    let low : floor_of later ≤ first + i = omega arith in
    let high : first + i < next_of list = omega arith in
    sym (at_place later first i held) ∙ grown.messages (first + i) low high ∙ at_place list first i from) in
    let rest = take (more - first - n) (drop n ys) in
    (rest, take_more n (more - first) ys enough ∙ ap (λ l. l ++ rest) front)

-- ---- held generations

-- the generation at a place is held at that place
held_is : (profile : Profile) (list : ShardList) (cuts : List Cut) (k : ℕ) (g : HeldGeneration) →
    slice_get (held_from profile list cuts) k ≡ Some g →
    (cut : Cut) × (slice_get cuts k ≡ Some cut)
    × (g
    ≡ record {
      cut = cut;
      end = end_before list (drop (suc k) cuts);
      messages =
          streams_of profile cut (messages_between list cut.first (end_before list (drop (suc k) cuts)));
    })
held_is profile list [] k g e = absurd (none-some g e)
held_is profile list (c ∷ cuts) zero g e = (
  c,
  refl,
  sym
      (same_Some
      (record {
        cut = c;
        end = end_before list cuts;
        messages =
            streams_of profile c (messages_between list c.first (end_before list cuts));
      }) g e),
)
held_is profile list (c ∷ cuts) (suc k) g e = held_is profile list cuts k g e

is_held : (profile : Profile) (list : ShardList) (cuts : List Cut) (k : ℕ) (cut : Cut) → slice_get cuts k ≡ Some cut →
    slice_get (held_from profile list cuts) k
    ≡ Some
    (record {
      cut = cut;
      end = end_before list (drop (suc k) cuts);
      messages =
          streams_of profile cut (messages_between list cut.first (end_before list (drop (suc k) cuts)));
    })
is_held profile list [] k cut e = absurd (none-some cut e)
is_held profile list (c ∷ cuts) zero cut e =
    ap (λ (x : Cut). Some
    (record {
      cut = x;
      end = end_before list cuts;
      messages =
          streams_of profile x (messages_between list x.first (end_before list cuts));
    })) (same_Some c cut e)
is_held profile list (c ∷ cuts) (suc k) cut e = is_held profile list cuts k cut e

-- A generation ends where the next one begins, or it is the newest and ends where the list does.
abbrev EndsAt : ShardList → List Cut → Cut → ℕ → Type 0
EndsAt list cuts cut end =
    ((next : Cut) × HasPlace cuts next × (next.number ≡ cut.number + 1) × (end ≡ next.first))
    ⊎ ((cut ≡ newest_of cuts) × (end ≡ next_of list))

ends_at : (list : ShardList) (end : ℕ) (cuts : List Cut) → IsRow end cuts → (k : ℕ) (cut : Cut) →
    slice_get cuts k ≡ Some cut → EndsAt list cuts cut (end_before list (drop (suc k) cuts))
ends_at list end [] row k cut e = absurd row
ends_at list end (c ∷ []) row zero cut e = inr (sym (same_Some c cut e), refl)
ends_at list end (c ∷ []) row (suc k) cut e = absurd (none-some cut e)
ends_at list end (c ∷ d ∷ cuts) row zero cut e =
    inl (d, (1, refl), row.0.number ∙ ap (λ (x : Cut). x.number + 1) (same_Some c cut e), refl)
ends_at list end (c ∷ d ∷ cuts) row (suc k) cut e =
    by (end_before list (drop (suc k) (d ∷ cuts))) (ends_at list end (d ∷ cuts) row.1 k cut e)
  where
    by : (last : ℕ) → EndsAt list (d ∷ cuts) cut last → EndsAt list (c ∷ d ∷ cuts) cut last
    by last (inl next) = inl (next.0, (suc next.1.0, next.1.1), next.2, next.3)
    by last (inr newest) = inr newest

-- a generation ends at the end of its list at the latest
ends_within : (list : ShardList) (cut : Cut) (end : ℕ) → IsList list → EndsAt list list.cuts cut end →
    end ≤ next_of list
ends_within list cut end is (inl next) =
    let le = row_firsts (next_of list) list.cuts is.cuts next.1.0 next.0 next.1.1 in
    let to : next.0.first ≤ next_of list = le.1 in let at : end ≡ next.0.first = next.3 in omega arith
ends_within list cut end is (inr newest) = let at : end ≡ next_of list = newest.1 in omega arith

-- in a later list it ends there or later
ends_later : (list later : ShardList) (cut other : Cut) (end more : ℕ) → IsList list → IsList later →
    HasGrown list later → cut.number ≡ other.number → (oldest_of later.cuts).number ≤ cut.number →
    EndsAt list list.cuts cut end → EndsAt later later.cuts other more → end ≤ more
ends_later list later cut other end more is is_later grown number held (inl next) (inl after) =
    let at : next.0.number ≡ cut.number + 1 = next.2 in
    let after_at : after.0.number ≡ other.number + 1 = after.2 in
    let low : (oldest_of later.cuts).number ≤ next.0.number = omega arith in
    let kept = grown.kept next.0 next.1 low in
    let again : next.0.number ≡ kept.0.number = kept.2.number in
    let equal : kept.0.number ≡ after.0.number = omega arith in
    let one = number_is_one (next_of later) later.cuts is_later.cuts kept.0 after.0 kept.1 after.1 equal in
    let same : end ≡ more = next.3 ∙ kept.2.first ∙ ap (λ (x : Cut). x.first) one ∙ sym after.3 in
    omega arith
ends_later list later cut other end more is is_later grown number held (inl next) (inr last) =
    let within : end ≤ next_of list = ends_within list cut end is (inl next) in
    let ends : next_of list ≤ next_of later = grown.ends in
    let at : more ≡ next_of later = last.1 in
    omega arith
ends_later list later cut other end more is is_later grown number held (inr newest) (inl after) =
    let after_at : after.0.number ≡ other.number + 1 = after.2 in
    let is_newest : cut.number ≡ (newest_of list.cuts).number = ap (λ (x : Cut). x.number) newest.0 in
    let newer : (newest_of list.cuts).number < after.0.number = omega arith in
    let begins : next_of list ≤ after.0.first = grown.added after.0 after.1 newer in
    let at : end ≡ next_of list = newest.1 in
    let to : more ≡ after.0.first = after.3 in
    omega arith
ends_later list later cut other end more is is_later grown number held (inr newest) (inr last) =
    let at : end ≡ next_of list = newest.1 in
    let to : more ≡ next_of later = last.1 in
    let ends : next_of list ≤ next_of later = grown.ends in
    omega arith

-- ---- the law

cut_continues : (profile : Profile) (list later : ShardList) (cut other : Cut) (end more : ℕ) → HasGrown list later →
    IsSame cut other → floor_of list ≤ cut.first → floor_of later ≤ other.first → end ≤ next_of list → end ≤ more →
    Continues
    (record { cut = cut; end = end; messages = streams_of profile cut (messages_between list cut.first end) })
    (record { cut = other; end = more; messages = streams_of profile other (messages_between later other.first more) })
cut_continues profile list later cut other end more grown same from held to le =
    let first : cut.first ≡ other.first = same.first in
    let held_first : floor_of later ≤ cut.first = omega arith in
    let between = between_same list later cut.first end more grown from held_first to le in
    let ms = messages_between list cut.first end in
    let streams = streams_with profile other ms between.0 in
    record {
      same = same;
      ends = le;
      more = (
        streams.0,
        ap (λ f. streams_of profile other (messages_between later f more)) (sym first)
            ∙ ap (streams_of profile other) between.1
            ∙ streams.1
            ∙ ap (λ l. l ++ streams.0) (sym (streams_same profile cut other ms same)),
      );
    }

pub streams_stay : (profile : Profile) (list later : ShardList) (g : HeldGeneration) → IsList list → IsList later →
    HasGrown list later →
    HasPlace (held_generations profile list) g → (oldest_of later.cuts).number ≤ g.cut.number → (other : HeldGeneration)
    × HasPlace (held_generations profile later) other × Continues g other
streams_stay profile list later g is is_later grown has still =
    let found = held_is profile list list.cuts has.0 g has.1 in
    let cut = found.0 in
    let same_cut : g.cut ≡ cut = ap (λ (x : HeldGeneration). x.cut) found.2 in
    let low : (oldest_of later.cuts).number ≤ cut.number =
    subst (λ (x : Cut). (oldest_of later.cuts).number ≤ x.number) same_cut still in
    let kept = grown.kept cut (has.0, found.1) low in
    let other = kept.0 in
    let end = end_before list (drop (suc has.0) list.cuts) in
    let more = end_before later (drop (suc kept.1.0) later.cuts) in
    let ends = ends_at list (next_of list) list.cuts is.cuts has.0 cut found.1 in
    let ends_there = ends_at later (next_of later) later.cuts is_later.cuts kept.1.0 other kept.1.1 in
    let within : end ≤ next_of list = ends_within list cut end is ends in
    let le : end ≤ more = ends_later list later cut other end more is is_later grown kept.2.number low ends
    ends_there in
    let from = row_firsts (next_of list) list.cuts is.cuts has.0 cut found.1 in
    let held = row_firsts (next_of later) later.cuts is_later.cuts kept.1.0 other kept.1.1 in
    let there : HeldGeneration =
    record {
      cut = other;
      end = more;
      messages =
          streams_of profile other (messages_between later other.first more);
    } in
    let continues = cut_continues profile list later cut other end more grown kept.2 from.0 held.0 within le in (
      there,
      (kept.1.0, is_held profile later later.cuts kept.1.0 other kept.1.1),
      subst (λ (x : HeldGeneration). Continues x there) (sym found.2) continues,
    )
