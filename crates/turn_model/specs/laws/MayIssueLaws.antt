-- The test of what a pump may issue is the relation.
use Rattle.std.proofs.Common.{◌≡◌, ℕ, zero, suc, ◌+◌, ◌<◌, ◌≤◌, ◌⊎◌, Bool, true, false, cond, not, ◌&&◌, ◌||◌, eqb, ltb}
use Rattle.std.proofs.Common.{leb, List, [], ◌∷◌, length, slice_get, Option, Some, None, refl, sym, ap, subst, ◌∙◌}
use Rattle.std.proofs.Common.{arith, inl, inr}
use Rattle.std.specs.List.{filter, find, list_all, position_or_len}
use Rattle.std.proofs.lemmas.Bool.{false≢true, eqb-true, eqb-false, eq-eqb, ltb-true, lt-ltb, leb-true, le-leb}
use Rattle.std.proofs.lemmas.Bool.{and_parts, or_cases, or_left, or_right, not-true, not_from_false}
use Rattle.std.proofs.lemmas.Option.{none-some, same_Some}
use Rattle.std.proofs.lemmas.List.Folds.{find_at}
use Rattle.topic_model.specs.Profile.{Profile}
use Rattle.topic_model.specs.StoredMessage.{StoredMessage}
use Rattle.shard_model.specs.Wanted.{same_topic}
use Rattle.session_model.specs.declared.entry.Entry.{Entry}
use Rattle.session_model.specs.declared.entry.Kind.{Kind}
use Rattle.session_model.specs.declared.entry.Kind.TheVariants.{Track1, Track2, Zero, Silent}
use Rattle.session_model.specs.Change.{Issues}
use Rattle.turn_model.specs.Delivery.{Reader, has_expired, kind_for}
use Rattle.turn_model.specs.PlainConnection.{rest_of}
use Rattle.turn_model.specs.Batch.{pump_limit, count1, count2, entries_from, bytes_from, packets_from, next1_of}
use Rattle.turn_model.specs.Batch.{next2_of, is_alike}
use Rattle.topic_model.specs.Places.{HasPlace}
use Rattle.turn_model.specs.MayIssue.{Issuing, reader_of, wanted_by, was_issued, Ascend, MayIssue, same_kind}
use Rattle.turn_model.specs.MayIssue.{same_entry, same_entries, with_message, messages_of, are_ascending, left_to_issue}
use Rattle.turn_model.specs.MayIssue.{is_first, without_message, come_in_turn, all_alike, is_none_left, may_issue_these}
use Rattle.turn_model.specs.MayIssue.{may_issue_as}
use Rattle.turn_model.specs.laws.RisingLaws.{stands_cases, behind, in_front, same_offset, AllIn, stands_nowhere}
use Rattle.turn_model.specs.laws.RisingLaws.{ascend_behind, above, one_offset, filter_within, filter_has}
use Rattle.turn_model.specs.laws.RisingLaws.{filter_ascends, NoneEarlier, none_earlier, has_first, comes_first}
use Rattle.turn_model.specs.laws.RisingLaws.{without_within, without_others, without_ascends, without_it}

-- ---- taking one after another

module _ (issued : ℕ → Bool) (all : List StoredMessage) (asc : Ascend all) where
  abbrev IsKnown : List StoredMessage → List StoredMessage → StoredMessage → Type 0
  IsKnown done left v = (issued v.offset ≡ true) ⊎ (HasPlace done v ⊎ HasPlace left v)

  abbrev AreNew : List StoredMessage → Type 0
  AreNew ws = (v : StoredMessage) → HasPlace ws v → issued v.offset ≡ false

  -- what is left of the messages of a list: those that weren't issued and weren't taken
  record IsLeft (done left : List StoredMessage) : Type 0 where
    ascends : Ascend left
    within : AllIn left all
    new : AreNew left
    apart : (v : StoredMessage) → HasPlace left v → HasPlace done v → ⊥
    known : (v : StoredMessage) → HasPlace all v → IsKnown done left v

  abbrev not_issued : StoredMessage → Bool
  not_issued w = not (issued w.offset)

  all_left : IsLeft [] (filter not_issued all)
  all_left = record {
    ascends = filter_ascends not_issued all asc;
    within = λ v s. (filter_within not_issued all v s).0;
    new = λ v s. not-true (issued v.offset) (filter_within not_issued all v s).1;
    apart = λ v s t. stands_nowhere v t;
    known = λ v s. by v s (issued v.offset) refl;
  }
    where
      by : (v : StoredMessage) → HasPlace all v → (b : Bool) → issued v.offset ≡ b →
          IsKnown [] (filter not_issued all) v
      by v s true is = inl is
      by v s false is = inr (inr (filter_has not_issued all v s (not_from_false (issued v.offset) is)))

  one_less : (done left : List StoredMessage) (w : StoredMessage) → HasPlace all w → IsLeft done left →
      IsLeft (w ∷ done) (without_message w left)
  one_less done left w at l = record {
    ascends = without_ascends w left l.ascends;
    within = λ v s. l.within v (without_within w left v s);
    new = λ v s. l.new v (without_within w left v s);
    apart = λ v s t. elim (stands_cases v w done t) [
      | inl e ↦ without_it w left l.ascends v s (same_offset (sym e))
      | inr d ↦ l.apart v (without_within w left v s) d
    ];
    known = λ v s. elim (l.known v s) [
      | inl is ↦ inl is
      | inr r ↦ elim r [
        | inl d ↦ inr (inl (behind v w done d))
        | inr t ↦ elim (without_others w left v t) [
          | inl e ↦ inr (inl (in_front v w done (one_offset all asc w v at s (sym e))))
          | inr u ↦ inr (inr u)
        ]
      ]
    ];
  }

  abbrev StandsBefore : StoredMessage → List StoredMessage → ℕ → Type 0
  StandsBefore v ws place = (before : ℕ) × (before < place) × (slice_get ws before ≡ Some v)

  -- each earlier message of a topic was issued, was taken, or stands before
  abbrev ComesBehind : List StoredMessage → List StoredMessage → Type 0
  ComesBehind done ws =
      (place : ℕ) (w earlier : StoredMessage) → slice_get ws place ≡ Some w → HasPlace all earlier →
      earlier.offset < w.offset → same_topic earlier.topic w.topic ≡ true →
      (issued earlier.offset ≡ true) ⊎ (HasPlace done earlier ⊎ StandsBefore earlier ws place)

  turn_tells : (done left ws : List StoredMessage) → IsLeft done left → AllIn ws all → come_in_turn left ws ≡ true →
      AreNew ws × ComesBehind done ws
  turn_tells done left [] l within is =
      (λ v s. absurd (stands_nowhere v s), λ place w earlier e. absurd (none-some w e))
  turn_tells done left (w ∷ ws) l within is =
      let both = and_parts (is_first w left) (come_in_turn (without_message w left) ws) is in
      let at : HasPlace all w = within w (0, refl) in
      let less = one_less done left w at l in
      let rest = turn_tells (w ∷ done) (without_message w left) ws less (λ v s. within v (behind v w ws s)) both.1 in
      (new both.0 rest.0, in_turn both.0 rest.1)
    where
      new : is_first w left ≡ true → AreNew ws → AreNew (w ∷ ws)
      new first rest v (zero, e) =
          let found = has_first w left first in
          ap (λ (x : StoredMessage). issued x.offset) (sym (same_Some w v e)) ∙ ap issued (sym found.2)
          ∙ l.new found.0 found.1
      new first rest v (suc k, e) = rest v (k, e)

      in_turn : is_first w left ≡ true → ComesBehind (w ∷ done) ws → ComesBehind done (w ∷ ws)
      in_turn first rest zero u earlier e s lt same =
          let is : w ≡ u = same_Some w u e in
          elim (l.known earlier s) [
            | inl old ↦ inl old
            | inr r ↦ elim r [
              | inl d ↦ inr (inl d)
              | inr t ↦
                  let less = subst (λ (x : StoredMessage). earlier.offset < x.offset) (sym is) lt in
                  let topic = ap (λ (x : StoredMessage). same_topic earlier.topic x.topic) is ∙ same in
                  absurd (none_earlier w left l.ascends first earlier t less topic)
            ]
          ]
      in_turn first rest (suc place) u earlier e s lt same =
          elim (rest place u earlier e s lt same) [
            | inl old ↦ inl old
            | inr r ↦ elim r [
              | inl d ↦ elim (stands_cases earlier w done d) [
                | inl f ↦ inr (inr (0, omega arith, ap (λ (x : StoredMessage). Some x) f))
                | inr t ↦ inr (inl t)
              ]
              | inr b ↦ let less = b.1 in inr (inr (suc b.0, omega arith, b.2))
            ]
          ]

  turn_holds : (done left ws : List StoredMessage) → IsLeft done left → Ascend ws → AllIn ws all → AreNew ws →
      ((v : StoredMessage) → HasPlace ws v → HasPlace done v → ⊥) → ComesBehind done ws → come_in_turn left ws ≡ true
  turn_holds done left [] l rising within new apart turn = refl
  turn_holds done left (w ∷ ws) l rising within new apart turn =
      let here : HasPlace (w ∷ ws) w = (0, refl) in
      let at = within w here in
      let first = comes_first w left l.ascends (is_left (l.known w at)) none in
      let less = one_less done left w at l in
      let rest_within : AllIn ws all = λ v s. within v (behind v w ws s) in
      let rest_new : AreNew ws = λ v s. new v (behind v w ws s) in
      let rest = turn_holds (w ∷ done) (without_message w left) ws less
      (ascend_behind w ws rising) rest_within rest_new not_taken later in
      (λ i. first i && rest i)
    where
      is_left : IsKnown done left w → HasPlace left w
      is_left (inl is) = absurd (false≢true (sym (new w (0, refl)) ∙ is))
      is_left (inr (inl d)) = absurd (apart w (0, refl) d)
      is_left (inr (inr s)) = s

      none : NoneEarlier w left
      none e s lt same =
          elim (turn 0 w e refl (l.within e s) lt same) [
            | inl is ↦ false≢true (sym (l.new e s) ∙ is)
            | inr r ↦ elim r [
              | inl d ↦ l.apart e s d
              | inr b ↦ let less = b.1 in omega arith
            ]
          ]

      not_taken : (v : StoredMessage) → HasPlace ws v → HasPlace (w ∷ done) v → ⊥
      not_taken v s t =
          elim (stands_cases v w done t) [
            | inl f ↦
                let lt = above w ws rising v s in
                let same : w.offset ≡ v.offset = same_offset f in
                omega arith
            | inr d ↦ apart v (behind v w ws s) d
          ]

      later : ComesBehind (w ∷ done) ws
      later place u earlier e s lt same =
          elim (turn (suc place) u earlier e s lt same) [
            | inl is ↦ inl is
            | inr r ↦ elim r [
              | inl d ↦ inr (inl (behind earlier w done d))
              | inr b ↦ before b.0 b.1 b.2
            ]
          ]
        where
          before : (k : ℕ) → k < suc place → slice_get (w ∷ ws) k ≡ Some earlier → (issued earlier.offset ≡ true)
              ⊎ (HasPlace (w ∷ done) earlier ⊎ StandsBefore earlier ws place)
          before zero less f = inr (inl (0, f))
          before (suc k) less f = inr (inr (k, omega arith, f))

-- ---- the messages of entries

abbrev has_offset : ℕ → StoredMessage → Bool
has_offset offset w = eqb w.offset offset

messages_stand : (all : List StoredMessage) (es : List Entry) (w : StoredMessage) → HasPlace (messages_of all es) w →
    HasPlace all w
messages_stand all [] w s = absurd (stands_nowhere w s)
messages_stand all (e ∷ es) w s = by (find (has_offset e.offset) all) refl s (messages_stand all es w)
  where
    by : (o : Option StoredMessage) → find (has_offset e.offset) all ≡ o →
        HasPlace (with_message o (messages_of all es)) w → (HasPlace (messages_of all es) w → HasPlace all w) →
        HasPlace all w
    by None is s rest = rest s
    by (Some v) is s rest =
        elim (stands_cases w v (messages_of all es) s) [
          | inl
              f ↦ (
                position_or_len (has_offset e.offset) all,
                sym (find_at (has_offset e.offset) all) ∙ is
                    ∙ ap (λ (x : StoredMessage). Some x) f,
              )
          | inr t ↦ rest t
        ]

find_it : (all : List StoredMessage) → Ascend all → (m : StoredMessage) → HasPlace all m →
    find (has_offset m.offset) all ≡ Some m
find_it [] asc m s = absurd (stands_nowhere m s)
find_it (u ∷ us) asc m s = by (eqb u.offset m.offset) refl (λ t. find_it us (ascend_behind u us asc) m t)
  where
    by : (b : Bool) → eqb u.offset m.offset ≡ b → (HasPlace us m → find (has_offset m.offset) us ≡ Some m) →
        cond b (Some u) (find (has_offset m.offset) us) ≡ Some m
    by true here rest = ap (λ (x : StoredMessage). Some x)
        (one_offset (u ∷ us) asc u m (0, refl) s (eqb-true u.offset m.offset here))
    by false here rest =
        elim (stands_cases m u us s) [
          | inl f ↦ absurd (eqb-false u.offset m.offset here (same_offset f))
          | inr t ↦ rest t
        ]

messages_again : (all : List StoredMessage) → Ascend all →
    (now : ℕ) (r : Reader) (next1 next2 : ℕ) (ws : List StoredMessage) → AllIn ws all →
    messages_of all (entries_from now r next1 next2 ws) ≡ ws
messages_again all asc now r next1 next2 [] within = refl
messages_again all asc now r next1 next2 (m ∷ ms) within =
    let kind = kind_for now r m next1 next2 in
    let found = find_it all asc m (within m (0, refl)) in
    let rest = messages_again all asc now r (next1 + count1 kind) (next2 + count2 kind) ms
    (λ v s. within v (behind v m ms s)) in
    (λ i. with_message (found i) (rest i))

-- ---- tests of entries

kind_is : (a b : Kind) → same_kind a b ≡ true → a ≡ b
kind_is (Track1 n) (Track1 k) e = ap Track1 (eqb-true n k e)
kind_is (Track2 n) (Track2 k) e = ap Track2 (eqb-true n k e)
kind_is Zero Zero e = refl
kind_is Silent Silent e = refl
kind_is other another e = absurd (false≢true e)

kind_same : (a : Kind) → same_kind a a ≡ true
kind_same (Track1 n) = eq-eqb n n refl
kind_same (Track2 n) = eq-eqb n n refl
kind_same Zero = refl
kind_same Silent = refl

entry_is : (a b : Entry) → same_entry a b ≡ true → a ≡ b
entry_is a b e =
    let first = and_parts (eqb a.subscription b.subscription) _ e in
    let second = and_parts (eqb a.version b.version) _ first.1 in
    let third = and_parts (eqb a.shard b.shard) _ second.1 in
    let fourth = and_parts (eqb a.offset b.offset) _ third.1 in
    let subscription = eqb-true a.subscription b.subscription first.0 in
    let version = eqb-true a.version b.version second.0 in
    let shard = eqb-true a.shard b.shard third.0 in
    let offset = eqb-true a.offset b.offset fourth.0 in
    let kind = kind_is a.kind b.kind fourth.1 in
    (λ i.
    record {
      subscription = subscription i;
      version = version i;
      shard = shard i;
      offset = offset i;
      kind =
          kind i;
    })

entry_same : (a : Entry) → same_entry a a ≡ true
entry_same a =
    let subscription = eq-eqb a.subscription a.subscription refl in
    let version = eq-eqb a.version a.version refl in
    let shard = eq-eqb a.shard a.shard refl in
    let offset = eq-eqb a.offset a.offset refl in
    let kind = kind_same a.kind in
    (λ i. subscription i && (version i && (shard i && (offset i && kind i))))

entries_are : (xs ys : List Entry) → same_entries xs ys ≡ true → xs ≡ ys
entries_are [] [] e = refl
entries_are [] (y ∷ ys) e = absurd (false≢true e)
entries_are (x ∷ xs) [] e = absurd (false≢true e)
entries_are (x ∷ xs) (y ∷ ys) e =
    let both = and_parts (same_entry x y) (same_entries xs ys) e in
    let first = entry_is x y both.0 in
    let rest = entries_are xs ys both.1 in
    (λ i. first i ∷ rest i)

entries_same : (xs : List Entry) → same_entries xs xs ≡ true
entries_same [] = refl
entries_same (x ∷ xs) = let first = entry_same x in let rest = entries_same xs in (λ i. first i && rest i)

none_is : (es : List Entry) → is_none_left es ≡ true → es ≡ []
none_is [] e = refl
none_is (x ∷ es) e = absurd (false≢true e)

-- ---- tests of messages

rising_is : (ws : List StoredMessage) → are_ascending ws ≡ true → Ascend ws
rising_is [] e = tt
rising_is (w ∷ []) e = tt
rising_is (w ∷ v ∷ ws) e = let both =
    and_parts (ltb w.offset v.offset) (are_ascending (v ∷ ws)) e in
    (ltb-true w.offset v.offset both.0, rising_is (v ∷ ws) both.1)

rising_holds : (ws : List StoredMessage) → Ascend ws → are_ascending ws ≡ true
rising_holds [] asc = refl
rising_holds (w ∷ []) asc = refl
rising_holds (w ∷ v ∷ ws) asc = let first = lt-ltb w.offset v.offset asc.0 in let rest =
    rising_holds (v ∷ ws) asc.1 in (λ i. first i && rest i)

alike_is : (a b : Bool) → is_alike a b ≡ true → a ≡ b
alike_is true true e = refl
alike_is true false e = absurd (false≢true e)
alike_is false true e = absurd (false≢true e)
alike_is false false e = refl

alike_same : (a b : Bool) → a ≡ b → is_alike a b ≡ true
alike_same true b e = ap (is_alike true) (sym e)
alike_same false b e = ap (is_alike false) (sym e)

module _ (now : ℕ) where
  abbrev as_first : Bool → StoredMessage → Bool
  as_first b v = is_alike b (has_expired now v)

  alike_each : (b : Bool) (ws : List StoredMessage) → list_all (as_first b) ws ≡ true → (v : StoredMessage) →
      HasPlace ws v → has_expired now v ≡ b
  alike_each b [] e v s = absurd (stands_nowhere v s)
  alike_each b (w ∷ ws) e v s =
      let both = and_parts (as_first b w) (list_all (as_first b) ws) e in
      elim (stands_cases v w ws s) [
        | inl f ↦ ap (has_expired now) (sym f) ∙ sym (alike_is b (has_expired now w) both.0)
        | inr t ↦ alike_each b ws both.1 v t
      ]

  alike_all : (b : Bool) (ws : List StoredMessage) → ((v : StoredMessage) → HasPlace ws v → has_expired now v ≡ b) →
      list_all (as_first b) ws ≡ true
  alike_all b [] each = refl
  alike_all b (w ∷ ws) each =
      let first = alike_same b (has_expired now w) (sym (each w (0, refl))) in
      let rest = alike_all b ws (λ v s. each v (behind v w ws s)) in
      (λ i. first i && rest i)

  alike_tells : (ws : List StoredMessage) → all_alike now ws ≡ true → (w v : StoredMessage) → HasPlace ws w →
      HasPlace ws v → has_expired now w ≡ has_expired now v
  alike_tells [] e w v s t = absurd (stands_nowhere w s)
  alike_tells (u ∷ us) e w v s t = by w s ∙ sym (by v t)
    where
      by : (x : StoredMessage) → HasPlace (u ∷ us) x → has_expired now x ≡ has_expired now u
      by x at =
          elim (stands_cases x u us at) [
            | inl f ↦ ap (has_expired now) (sym f)
            | inr r ↦ alike_each (has_expired now u) us e x r
          ]

  alike_holds : (ws : List StoredMessage) →
      ((w v : StoredMessage) → HasPlace ws w → HasPlace ws v → has_expired now w ≡ has_expired now v) →
      all_alike now ws ≡ true
  alike_holds [] each = refl
  alike_holds (u ∷ us) each = alike_all (has_expired now u) us (λ v s. each v u (behind v u us s) (0, refl))

-- ---- the test and the relation

module _ (profile : Profile) (t : Issuing) (b : Issues) where
  abbrev next1 : ℕ
  next1 = next1_of t.session

  abbrev next2 : ℕ
  next2 = next2_of t.session

  abbrev all_of : List StoredMessage → List Entry
  all_of ws = entries_from t.now (reader_of t) next1 next2 ws

  abbrev bytes_of : List StoredMessage → ℕ
  bytes_of ws = bytes_from t.now (reader_of t) next1 next2 ws

  abbrev packets_of : List StoredMessage → ℕ
  packets_of ws = packets_from t.now (reader_of t) next1 next2 ws

  short_is : (ws : List StoredMessage) → (leb (bytes_of ws) profile.batch_bytes || leb (packets_of ws) 1) ≡ true →
      (bytes_of ws ≤ profile.batch_bytes) ⊎ (packets_of ws ≤ 1)
  short_is ws e =
      elim (or_cases (leb (bytes_of ws) profile.batch_bytes) (leb (packets_of ws) 1) e) [
        | inl f ↦ inl (leb-true (bytes_of ws) profile.batch_bytes f)
        | inr f ↦ inr (leb-true (packets_of ws) 1 f)
      ]

  short_holds : (ws : List StoredMessage) → (bytes_of ws ≤ profile.batch_bytes) ⊎ (packets_of ws ≤ 1) →
      (leb (bytes_of ws) profile.batch_bytes || leb (packets_of ws) 1) ≡ true
  short_holds ws (inl f) = or_left (leb (bytes_of ws) profile.batch_bytes) (leb (packets_of ws) 1)
      (le-leb (bytes_of ws) profile.batch_bytes f)
  short_holds ws (inr f) = or_right (leb (bytes_of ws) profile.batch_bytes) (leb (packets_of ws) 1)
      (le-leb (packets_of ws) 1 f)

  these_relate : (ws : List StoredMessage) → Ascend (wanted_by t) → AllIn ws (wanted_by t) →
      may_issue_these profile t b ws ≡ true → MayIssue profile t b ws
  these_relate ws asc within e =
      let first = and_parts (is_none_left (rest_of t.session t.connection)) _ e in
      let live = and_parts t.subscription.live _ first.1 in
      let subscription = and_parts (eqb b.subscription t.subscription.number) _ live.1 in
      let shard = and_parts (eqb b.shard t.shard) _ subscription.1 in
      let entries = and_parts (same_entries b.entries (all_of ws)) _ shard.1 in
      let some = and_parts (ltb 0 (length ws)) _ entries.1 in
      let ascending = and_parts (are_ascending ws) _ some.1 in
      let turn = and_parts (come_in_turn (left_to_issue t) ws) _ ascending.1 in
      let alike = and_parts (all_alike t.now ws) _ turn.1 in
      let few = and_parts (leb (length ws) (pump_limit profile t.session t.connection)) _ alike.1 in
      let told = turn_tells (was_issued t) (wanted_by t) asc [] (left_to_issue t) ws
      (all_left (was_issued t) (wanted_by t) asc) within turn.0 in
      record {
        first = none_is (rest_of t.session t.connection) first.0;
        live = live.0;
        subscription = eqb-true b.subscription t.subscription.number subscription.0;
        shard = eqb-true b.shard t.shard shard.0;
        entries = entries_are b.entries (all_of ws) entries.0;
        some = ltb-true 0 (length ws) some.0;
        ascending = rising_is ws ascending.0;
        are_wanted = λ k w at. within w (k, at);
        are_new = λ k w at. told.0 w (k, at);
        in_turn = λ place w earlier at s lt same. elim (told.1 place w earlier at s lt same) [
          | inl is ↦ inl is
          | inr r ↦ elim r [
            | inl d ↦ absurd (stands_nowhere earlier d)
            | inr before ↦ inr before
          ]
        ];
        alike = λ k j w v at_w at_v. alike_tells t.now ws alike.0 w v (k, at_w) (j, at_v);
        few = leb-true (length ws) (pump_limit profile t.session t.connection) few.0;
        short = short_is ws few.1;
      }

  pub test_relates : Ascend (wanted_by t) → may_issue_as profile t b ≡ true → (ws : List StoredMessage)
      × MayIssue profile t b ws
  test_relates asc e =
      let ws = messages_of (wanted_by t) b.entries in
      (ws, these_relate ws asc (messages_stand (wanted_by t) b.entries) e)

  pub messages_are : (ws : List StoredMessage) → Ascend (wanted_by t) → MayIssue profile t b ws →
      messages_of (wanted_by t) b.entries ≡ ws
  messages_are ws asc m =
      ap (messages_of (wanted_by t)) m.entries
      ∙ messages_again (wanted_by t) asc t.now (reader_of t) next1 next2 ws (λ v s. m.are_wanted s.0 v s.1)

  pub related_passes : (ws : List StoredMessage) → Ascend (wanted_by t) → MayIssue profile t b ws →
      may_issue_as profile t b ≡ true
  related_passes ws asc m =
      let behind_each : ComesBehind (was_issued t) (wanted_by t) asc [] ws =
      λ place w earlier at s lt same. elim (m.in_turn place w earlier at s lt same) [
        | inl is ↦ inl is
        | inr before ↦ inr (inr before)
      ] in
      let first = ap is_none_left m.first in
      let live = m.live in
      let subscription = eq-eqb b.subscription t.subscription.number m.subscription in
      let shard = eq-eqb b.shard t.shard m.shard in
      let entries = ap (λ (es : List Entry). same_entries es (all_of ws)) m.entries ∙ entries_same (all_of ws) in
      let some = lt-ltb 0 (length ws) m.some in
      let ascending = rising_holds ws m.ascending in
      let turn =
      turn_holds (was_issued t) (wanted_by t) asc [] (left_to_issue t) ws
      (all_left (was_issued t) (wanted_by t) asc) m.ascending
      (λ v s. m.are_wanted s.0 v s.1) (λ v s. m.are_new s.0 v s.1) (λ v s d. stands_nowhere v d) behind_each in
      let alike = alike_holds t.now ws (λ w v s u. m.alike s.0 u.0 w v s.1 u.1) in
      let few = le-leb (length ws) (pump_limit profile t.session t.connection) m.few in
      let short = short_holds ws m.short in
      ap (may_issue_these profile t b) (messages_are ws asc m)
      ∙ (λ i. first i
      && (live i
      && (subscription i
      && (shard i && (entries i && (some i && (ascending i && (turn i && (alike i && (few i && short i))))))))))
