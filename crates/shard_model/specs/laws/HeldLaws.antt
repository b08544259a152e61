-- The held generations of a list in order: their numbers and their messages go on, one generation behind another, and
-- within one generation a topic lies in one stream.
use Rattle.std.proofs.Common.{◌≡◌, ◌⊎◌, inl, inr, ℕ, zero, suc, ◌+◌, ◌-◌, ◌<◌, ◌≤◌, Bool, true, false, eqb}
use Rattle.std.proofs.Common.{if◌then◌else◌, List, [], ◌∷◌, ◌++◌, length, map, take, drop, Some, slice_get, refl, sym}
use Rattle.std.proofs.Common.{ap, subst, ◌∙◌, arith}
use Rattle.std.proofs.lemmas.Bool.{cases_order, ne_eqb, eq-eqb}
use Rattle.std.proofs.lemmas.List.{length-map, length-drop, length-take-le, take-append-drop, drop-drop, drop_all}
use Rattle.std.proofs.lemmas.Option.{none-some, same_Some, slice_get_within}
use Rattle.std.proofs.lemmas.Slice.Eq.{bytes_eq-Decides, slice_eq-Decides}
use Rattle.topic_model.specs.StoredMessage.{StoredMessage}
use Rattle.topic_model.specs.Profile.{Profile}
use Rattle.shard_model.specs.ShardList.{Cut, ShardList, oldest_of, floor_of, next_of}
use Rattle.shard_model.specs.LearnedPath.{Path, path_from, with_path, patterns_after}
use Rattle.shard_model.specs.Streams.{StreamMessage, in_stream, streams_from, in_one_stream, streams_if, streams_of}
use Rattle.shard_model.specs.Streams.{topics_of, messages_between, end_before, HeldGeneration, held_from}
use Rattle.shard_model.specs.Streams.{held_generations}
use Rattle.shard_model.specs.Wanted.{same_topic}
use Rattle.shard_model.specs.SweepOrder.{counted_from, end_in}
use Rattle.shard_model.specs.Lists.{IsRow, IsList}
use Rattle.shard_model.specs.laws.NumberLaws.{streams_exact_from}
use Rattle.shard_model.specs.laws.ListLaws.{row_first}
use Rattle.topic_model.specs.Places.{HasPlace}
use Rattle.shard_model.specs.laws.PlaceLaws.{place_left, place_right, place_either, place_mapped, mapped_place}
use Rattle.shard_model.specs.laws.PlaceLaws.{counted_place, counted_cut}

abbrev pub offset_of : StreamMessage → ℕ
offset_of s = s.message.offset

abbrev pub message_of : StreamMessage → StoredMessage
message_of s = s.message

-- ---- generations in a row

-- A generation with a number, whose messages are consecutive from an offset up to its end; one topic lies in one
-- stream.
pub record IsHeld (n low : ℕ) (g : HeldGeneration) : Type 0 where
  pub number : g.cut.number ≡ n
  pub first : g.cut.first ≡ low
  pub offsets : map offset_of g.messages ≡ counted_from low (length g.messages)
  pub end : g.end ≡ low + length g.messages
  pub streams : (k j : ℕ) (s t : StreamMessage) → slice_get g.messages k ≡ Some s → slice_get g.messages j ≡ Some t →
      s.message.topic ≡ t.message.topic → s.stream ≡ t.stream

-- one behind another, from a number and an offset on
abbrev pub AreHeld : ℕ → ℕ → List HeldGeneration → Type 0
AreHeld number first [] = Unit {0}
AreHeld number first (g ∷ held) = IsHeld number first g × AreHeld (number + 1) g.end held

pub held_place : (number first : ℕ) (held : List HeldGeneration) (k : ℕ) (g : HeldGeneration) →
    AreHeld number first held → slice_get held k ≡ Some g → IsHeld (number + k) g.cut.first g × (first ≤ g.cut.first)
held_place number first [] k g row e = absurd (none-some g e)
held_place number first (h ∷ held) zero g row e =
    let here : number ≡ number + 0 = omega arith in
    let at : h.cut.first ≡ first = row.0.first in
    let low : first ≤ h.cut.first = omega arith in
    subst (λ (x : HeldGeneration). IsHeld (number + 0) x.cut.first x × (first ≤ x.cut.first)) (same_Some h g e)
    (subst (λ n. IsHeld n h.cut.first h) here (subst (λ f. IsHeld number f h) (sym at) row.0), low)
held_place number first (h ∷ held) (suc k) g row e =
    let rest = held_place (number + 1) h.end held k g row.1 e in
    let here : number + 1 + k ≡ number + suc k = omega arith in
    let end : h.end ≡ first + length h.messages = row.0.end in
    let from : h.end ≤ g.cut.first = rest.1 in
    let low : first ≤ g.cut.first = omega arith in
    (subst (λ n. IsHeld n g.cut.first g) here rest.0, low)

-- an earlier one ends before a later one begins
pub held_before : (number first : ℕ) (held : List HeldGeneration) (k j : ℕ) (g h : HeldGeneration) →
    AreHeld number first held → slice_get held k ≡ Some g → slice_get held j ≡ Some h → k < j → g.end ≤ h.cut.first
held_before number first [] k j g h row e f before = absurd (none-some g e)
held_before number first (x ∷ held) zero zero g h row e f before = absurd (omega arith)
held_before number first (x ∷ held) zero (suc j) g h row e f before =
    let rest = held_place (number + 1) x.end held j h row.1 f in
    subst (λ (y : HeldGeneration). y.end ≤ h.cut.first) (same_Some x g e) rest.1
held_before number first (x ∷ held) (suc k) zero g h row e f before = absurd (omega arith)
held_before number first (x ∷ held) (suc k) (suc j) g h row e f before =
    held_before (number + 1) x.end held k j g h row.1 e f (omega arith)

module _ (number first : ℕ) (held : List HeldGeneration) (row : AreHeld number first held) where
  pub held_number : (k : ℕ) (g : HeldGeneration) → slice_get held k ≡ Some g → g.cut.number ≡ number + k
  held_number k g e = (held_place number first held k g row e).0.number

  -- a message lies between where its generation begins and where it ends
  pub held_offset : (k : ℕ) (g : HeldGeneration) → slice_get held k ≡ Some g → (j : ℕ) (s : StreamMessage) →
      slice_get g.messages j ≡ Some s → (s.message.offset ≡ g.cut.first + j) × (s.message.offset < g.end)
  held_offset k g e j s f =
      let is = (held_place number first held k g row e).0 in
      let at : s.message.offset ≡ g.cut.first + j = counted_place offset_of g.messages g.cut.first j s is.offsets f in
      let end : g.end ≡ g.cut.first + length g.messages = is.end in
      let within : j < length g.messages = slice_get_within g.messages j s f in
      (at, omega arith)

  -- there is one generation of a number
  pub held_one : (g h : HeldGeneration) → HasPlace held g → HasPlace held h → g.cut.number ≡ h.cut.number → g ≡ h
  held_one g h has_g has_h e =
      let number_g = held_number has_g.0 g has_g.1 in
      let number_h = held_number has_h.0 h has_h.1 in
      let place : has_g.0 ≡ has_h.0 = omega arith in
      same_Some g h (sym has_g.1 ∙ ap (slice_get held) place ∙ has_h.1)

  -- of two generations the one with the lower number ends before the other begins
  pub held_apart : (g h : HeldGeneration) → HasPlace held g → HasPlace held h → g.cut.number < h.cut.number →
      g.end ≤ h.cut.first
  held_apart g h has_g has_h less =
      let number_g = held_number has_g.0 g has_g.1 in
      let number_h = held_number has_h.0 h has_h.1 in
      held_before number first held has_g.0 has_h.0 g h row has_g.1 has_h.1 (omega arith)

  -- one message lies at an offset
  pub streamed_one : (g h : HeldGeneration) (s t : StreamMessage) → HasPlace held g → HasPlace held h →
      HasPlace g.messages s → HasPlace h.messages t → s.message.offset ≡ t.message.offset → (g ≡ h) × (s ≡ t)
  streamed_one g h s t has_g has_h has_s has_t e = by (cases_order g.cut.number h.cut.number)
    where
      of_g : (s.message.offset ≡ g.cut.first + has_s.0) × (s.message.offset < g.end)
      of_g = held_offset has_g.0 g has_g.1 has_s.0 s has_s.1

      of_h : (t.message.offset ≡ h.cut.first + has_t.0) × (t.message.offset < h.end)
      of_h = held_offset has_h.0 h has_h.1 has_t.0 t has_t.1

      by : (g.cut.number ≡ h.cut.number) ⊎ ((g.cut.number < h.cut.number) ⊎ (h.cut.number < g.cut.number)) → (g ≡ h)
          × (s ≡ t)
      by (inl same) =
          let one = held_one g h has_g has_h same in
          let begins : g.cut.first ≡ h.cut.first = ap (λ (x : HeldGeneration). x.cut.first) one in
          let at = of_g.0 in
          let there = of_h.0 in
          let place : has_s.0 ≡ has_t.0 = omega arith in (
            one,
            same_Some s t
                (sym has_s.1 ∙ ap (λ (x : HeldGeneration). slice_get x.messages has_s.0) one
                ∙ ap (slice_get h.messages) place ∙ has_t.1),
          )
      by (inr (inl less)) = let apart : g.end ≤ h.cut.first = held_apart g h has_g has_h less in let at =
          of_g in let there = of_h in absurd (omega arith)
      by (inr (inr more)) = let apart : h.end ≤ g.cut.first = held_apart h g has_h has_g more in let at =
          of_g in let there = of_h in absurd (omega arith)

  pub same_stream : (g : HeldGeneration) (s t : StreamMessage) → HasPlace held g → HasPlace g.messages s →
      HasPlace g.messages t → same_topic s.message.topic t.message.topic ≡ true → s.stream ≡ t.stream
  same_stream g s t has_g has_s has_t same =
      let is = (held_place number first held has_g.0 g row has_g.1).0 in
      is.streams has_s.0 has_t.0 s t has_s.1 has_t.1
      ((slice_eq-Decides bytes_eq-Decides s.message.topic t.message.topic
      (same_topic s.message.topic t.message.topic) refl).0 same)

-- the end of a generation by its number, the floor where none has it
abbrev pub end_of : List HeldGeneration → ℕ → ℕ → ℕ
end_of [] floor number = floor
end_of (g ∷ held) floor number = if eqb g.cut.number number then g.end else end_of held floor number

-- by the cuts alone, which says the same without the messages
pub end_by_cuts : (profile : Profile) (list : ShardList) (cuts : List Cut) (number : ℕ) →
    end_in list cuts number ≡ end_of (held_from profile list cuts) (floor_of list) number
end_by_cuts profile list [] number = refl
end_by_cuts profile list (cut ∷ cuts) number =
    ap (λ n. if eqb cut.number number then end_before list cuts else n) (end_by_cuts profile list cuts number)

pub end_is : (number first floor : ℕ) (held : List HeldGeneration) (k : ℕ) (g : HeldGeneration) →
    AreHeld number first held → slice_get held k ≡ Some g → end_of held floor g.cut.number ≡ g.end
end_is number first floor [] k g row e = absurd (none-some g e)
end_is number first floor (h ∷ held) zero g row e =
    ap (λ (x : HeldGeneration). if eqb h.cut.number x.cut.number then h.end else end_of held floor x.cut.number)
    (sym (same_Some h g e))
    ∙ ap (λ b. if b then h.end else end_of held floor h.cut.number) (eq-eqb h.cut.number h.cut.number refl)
    ∙ ap (λ (x : HeldGeneration). x.end) (same_Some h g e)
end_is number first floor (h ∷ held) (suc k) g row e =
    let at : g.cut.number ≡ number + suc k = held_number number first (h ∷ held) row (suc k) g e in
    let here : h.cut.number ≡ number = row.0.number in
    ap (λ b. if b then h.end else end_of held floor g.cut.number)
    (ne_eqb h.cut.number g.cut.number (λ same. omega arith))
    ∙ end_is (number + 1) h.end floor held k g row.1 e

pub end_gone : (number first floor other : ℕ) (held : List HeldGeneration) → AreHeld number first held →
    other < number → end_of held floor other ≡ floor
end_gone number first floor other [] row less = refl
end_gone number first floor other (h ∷ held) row less =
    let here : h.cut.number ≡ number = row.0.number in
    ap (λ b. if b then h.end else end_of held floor other) (ne_eqb h.cut.number other (λ same. omega arith))
    ∙ end_gone (number + 1) h.end floor other held row.1 (omega arith)

-- ---- the generations of a list in order

streamed_messages : (top below : ℕ) (patterns : List Path) (ms : List StoredMessage) →
    map message_of (streams_from top below patterns ms) ≡ ms
streamed_messages top below patterns [] = refl
streamed_messages top below patterns (m ∷ ms) =
    ap (λ l. m ∷ l) (streamed_messages top below (with_path (path_from top below patterns [] m.topic) patterns) ms)

one_stream_messages : (ms : List StoredMessage) → map message_of (in_one_stream ms) ≡ ms
one_stream_messages [] = refl
one_stream_messages (m ∷ ms) = ap (λ l. m ∷ l) (one_stream_messages ms)

pub messages_streamed : (profile : Profile) (cut : Cut) (ms : List StoredMessage) →
    map message_of (streams_of profile cut ms) ≡ ms
messages_streamed profile cut ms = by profile.learns
  where
    by : (learns : Bool) → map message_of (streams_if learns cut ms) ≡ ms
    by true = streamed_messages cut.top cut.below [] ms
    by false = one_stream_messages ms

offsets_of_messages : (ss : List StreamMessage) →
    map offset_of ss ≡ map (λ (m : StoredMessage). m.offset) (map message_of ss)
offsets_of_messages [] = refl
offsets_of_messages (s ∷ ss) = ap (λ l. s.message.offset ∷ l) (offsets_of_messages ss)

-- one topic, one stream
one_stream_each : (profile : Profile) (cut : Cut) (ms : List StoredMessage) (k j : ℕ) (s t : StreamMessage) →
    slice_get (streams_of profile cut ms) k ≡ Some s → slice_get (streams_of profile cut ms) j ≡ Some t →
    s.message.topic ≡ t.message.topic → s.stream ≡ t.stream
one_stream_each profile cut ms k j s t e f same = by profile.learns e f
  where
    by : (learns : Bool) → slice_get (streams_if learns cut ms) k ≡ Some s →
        slice_get (streams_if learns cut ms) j ≡ Some t → s.stream ≡ t.stream
    by true e f =
        let exact = streams_exact_from cut.top cut.below [] ms in
        let one =
        mapped_place
        (λ (m : StoredMessage). in_stream m
        (path_from cut.top cut.below (patterns_after cut.top cut.below [] (topics_of ms)) [] m.topic)
        (patterns_after cut.top cut.below [] (topics_of ms))) ms k s (ap (λ l. slice_get l k) (sym exact) ∙ e) in
        let two =
        mapped_place
        (λ (m : StoredMessage). in_stream m
        (path_from cut.top cut.below (patterns_after cut.top cut.below [] (topics_of ms)) [] m.topic)
        (patterns_after cut.top cut.below [] (topics_of ms))) ms j t (ap (λ l. slice_get l j) (sym exact) ∙ f) in
        let topics : one.0.topic ≡ two.0.topic =
        ap (λ (x : StreamMessage). x.message.topic) one.2 ∙ same
        ∙ ap (λ (x : StreamMessage). x.message.topic) (sym two.2) in
        ap (λ (x : StreamMessage). x.stream) (sym one.2)
        ∙ ap (λ topic.
        (in_stream one.0 (path_from cut.top cut.below (patterns_after cut.top cut.below [] (topics_of ms)) [] topic)
        (patterns_after cut.top cut.below [] (topics_of ms))).stream) topics
        ∙ ap (λ (x : StreamMessage). x.stream) two.2
    by false e f =
        let one = mapped_place (λ (m : StoredMessage). record { message = m; stream = 0 }) ms k s e in
        let two = mapped_place (λ (m : StoredMessage). record { message = m; stream = 0 }) ms j t f in
        ap (λ (x : StreamMessage). x.stream) (sym one.2) ∙ ap (λ (x : StreamMessage). x.stream) two.2

module _ (profile : Profile) (list : ShardList)
    (offsets : map (λ (m : StoredMessage). m.offset) list.messages
    ≡ counted_from (floor_of list) (length list.messages)) where
  is_held : (number : ℕ) (cut : Cut) (end : ℕ) → cut.number ≡ number → floor_of list ≤ cut.first → cut.first ≤ end →
      end ≤ next_of list →
      IsHeld number cut.first
      (record { cut = cut; end = end; messages = streams_of profile cut (messages_between list cut.first end) })
  is_held number cut end same low from to =
      let ms = messages_between list cut.first end in
      let k = cut.first - floor_of list in
      let n = end - cut.first in
      let whole = length-drop k list.messages in
      let fits : n ≤ length (drop k list.messages) = omega arith in
      let long : length ms ≡ n = length-take-le n (drop k list.messages) fits in
      let streams = streams_of profile cut ms in
      let messages : map message_of streams ≡ ms = messages_streamed profile cut ms in
      let same_long : length streams ≡ n = sym (length-map streams message_of) ∙ ap length messages ∙ long in
      let inside : k + n ≤ length list.messages = omega arith in
      let here : floor_of list + k ≡ cut.first = omega arith in
      record {
        number = same;
        first = refl;
        offsets =
            offsets_of_messages streams
            ∙ ap (map (λ (m : StoredMessage). m.offset)) messages
            ∙ counted_cut (λ (m : StoredMessage). m.offset) list.messages (floor_of list) n k offsets inside
            ∙ ap (λ f. counted_from f n) here
            ∙ ap (counted_from cut.first) (sym same_long);
        end = omega arith;
        streams = one_stream_each profile cut ms;
      }

  are_held : (cuts : List Cut) → IsRow (next_of list) cuts → floor_of list ≤ (oldest_of cuts).first →
      AreHeld (oldest_of cuts).number (oldest_of cuts).first (held_from profile list cuts)
  are_held [] row low = absurd row
  are_held (cut ∷ []) row low = (is_held cut.number cut (next_of list) refl low row.0 (omega arith), tt)
  are_held (cut ∷ next ∷ cuts) row low =
      let from : cut.first ≤ next.first = row.0.first in
      let to : next.first ≤ next_of list = row_first (next_of list) (next ∷ cuts) row.1 in
      let later : floor_of list ≤ next.first = omega arith in (
        is_held cut.number cut next.first refl low from to,
        subst (λ n. AreHeld n next.first (held_from profile list (next ∷ cuts))) row.0.number
            (are_held (next ∷ cuts) row.1 later),
      )

pub list_held : (profile : Profile) (list : ShardList) → IsList list →
    AreHeld (oldest_of list.cuts).number (floor_of list) (held_generations profile list)
list_held profile list is = are_held profile list is.offsets list.cuts is.cuts (omega arith)

-- ---- all messages of some generations

abbrev all_in : List HeldGeneration → List StoredMessage
all_in [] = []
all_in (g ∷ held) = map message_of g.messages ++ all_in held

place_in_all : (held : List HeldGeneration) (k : ℕ) (g : HeldGeneration) → slice_get held k ≡ Some g →
    (j : ℕ) (s : StreamMessage) → slice_get g.messages j ≡ Some s → HasPlace (all_in held) s.message
place_in_all [] k g e j s f = absurd (none-some g e)
place_in_all (h ∷ held) zero g e j s f =
    place_left (map message_of h.messages) (all_in held) j s.message
    (ap (λ (x : HeldGeneration). slice_get (map message_of x.messages) j) (same_Some h g e)
    ∙ place_mapped message_of g.messages j s f)
place_in_all (h ∷ held) (suc k) g e j s f =
    let rest = place_in_all held k g e j s f in
    place_right (map message_of h.messages) (all_in held) rest.0 s.message rest.1

-- it lies in a generation
pub record Lies (gs : List HeldGeneration) (m : StoredMessage) : Type 0 where
  pub generation : HeldGeneration
  pub streamed : StreamMessage
  pub held : HasPlace gs generation
  pub lies : HasPlace generation.messages streamed
  pub message : streamed.message ≡ m

all_lie : (held : List HeldGeneration) (k : ℕ) (m : StoredMessage) → slice_get (all_in held) k ≡ Some m → Lies held m
all_lie [] k m e = absurd (none-some m e)
all_lie (h ∷ held) k m e = by (place_either (map message_of h.messages) (all_in held) k m e) (λ k e. all_lie held k m e)
  where
    by : HasPlace (map message_of h.messages) m ⊎ HasPlace (all_in held) m →
        ((k : ℕ) → slice_get (all_in held) k ≡ Some m → Lies held m) → Lies (h ∷ held) m
    by (inl here) later =
        let found = mapped_place message_of h.messages here.0 m here.1 in
        record { generation = h; streamed = found.0; held = (0, refl); lies = (here.0, found.1); message = found.2 }
    by (inr there) later =
        let rest = later there.0 there.1 in
        record {
          generation = rest.generation;
          streamed = rest.streamed;
          held = (suc rest.held.0, rest.held.1);
          lies =
              rest.lies;
          message = rest.message;
        }

all_are : (profile : Profile) (list : ShardList) (cuts : List Cut) → IsRow (next_of list) cuts →
    floor_of list ≤ (oldest_of cuts).first →
    all_in (held_from profile list cuts) ≡ drop ((oldest_of cuts).first - floor_of list) list.messages
all_are profile list [] row low = absurd row
all_are profile list (cut ∷ []) row low =
    let k = cut.first - floor_of list in
    let n = next_of list - cut.first in
    let whole = length-drop k list.messages in
    let all : length (drop k list.messages) ≤ n = omega arith in
    let none : drop n (drop k list.messages) ≡ [] = drop_all n (drop k list.messages) all in
    ap (λ l. l ++ []) (messages_streamed profile cut (messages_between list cut.first (next_of list)))
    ∙ ap (λ l. take n (drop k list.messages) ++ l) (sym none)
    ∙ take-append-drop n (drop k list.messages)
all_are profile list (cut ∷ next ∷ cuts) row low =
    let from : cut.first ≤ next.first = row.0.first in
    let later : floor_of list ≤ next.first = omega arith in
    let k = cut.first - floor_of list in
    let n = next.first - cut.first in
    let rest : all_in (held_from profile list (next ∷ cuts)) ≡ drop (next.first - floor_of list) list.messages =
    all_are profile list (next ∷ cuts) row.1 later in
    let place : next.first - floor_of list ≡ k + n = omega arith in
    ap (λ l. l ++ all_in (held_from profile list (next ∷ cuts)))
    (messages_streamed profile cut (messages_between list cut.first next.first))
    ∙ ap (λ l. take n (drop k list.messages) ++ l)
    (rest ∙ ap (λ j. drop j list.messages) place ∙ sym (drop-drop n k list.messages))
    ∙ take-append-drop n (drop k list.messages)

list_all : (profile : Profile) (list : ShardList) → IsList list → all_in (held_generations profile list) ≡ list.messages
list_all profile list is =
    let none : floor_of list - floor_of list ≡ 0 =
    omega arith in all_are profile list list.cuts is.cuts (omega arith) ∙ ap (λ k. drop k list.messages) none

-- each message of the list lies in a generation, and there is no other
pub list_lies : (profile : Profile) (list : ShardList) (m : StoredMessage) → IsList list → HasPlace list.messages m →
    Lies (held_generations profile list) m
list_lies profile list m is has = all_lie (held_generations profile list) has.0 m
    (ap (λ l. slice_get l has.0) (list_all profile list is) ∙ has.1)

pub lies_in_list : (profile : Profile) (list : ShardList) (g : HeldGeneration) (s : StreamMessage) → IsList list →
    HasPlace (held_generations profile list) g → HasPlace g.messages s → HasPlace list.messages s.message
lies_in_list profile list g s is has_g has_s =
    let there = place_in_all (held_generations profile list) has_g.0 g has_g.1 has_s.0 s has_s.1 in
    (there.0, ap (λ l. slice_get l there.0) (sym (list_all profile list is)) ∙ there.1)

-- how many there are
pub held_long : (profile : Profile) (list : ShardList) (cuts : List Cut) →
    length (held_from profile list cuts) ≡ length cuts
held_long profile list [] = refl
held_long profile list (cut ∷ cuts) = ap suc (held_long profile list cuts)
