-- A batch that may be issued over the lists leaves a kept session that stands for the plain one.
use Rattle.std.proofs.Common.{◌≡◌, ◌⊎◌, inl, inr, ℕ, zero, suc, ◌==◌, Bool, true, false, ◌&&◌, ◌||◌, nat_le, nat_lt}
use Rattle.std.proofs.Common.{List, [], ◌∷◌, ◌++◌, slice_get, slice_set, Some, true≢false, refl, sym, ap, subst, ◌∙◌}
use Rattle.std.specs.List.{list_all, list_any}
use Rattle.std.proofs.lemmas.Bool.{leb-true, and_from, and_parts, and_left, and_right, or_from, eqb-true, eq-eqb}
use Rattle.std.proofs.lemmas.Bool.{ne_eqb, cases_eq}
use Rattle.std.proofs.lemmas.List.Folds.{list_any-append}
use Rattle.std.proofs.lemmas.Option.{none-some, same_Some}
use Rattle.topic_model.specs.Profile.{Profile}
use Rattle.shard_model.specs.declared.sweep.Sweep.{Sweep}
use Rattle.shard_model.specs.ShardList.{ShardList, newest, next_of}
use Rattle.shard_model.specs.SweepOrder.{is_issued_by, is_in_order}
use Rattle.shard_model.specs.Wanted.{wanted}
use Rattle.topic_model.specs.Places.{HasPlace}
use Rattle.shard_model.specs.laws.PlaceLaws.{mapped_place}
use Rattle.session_model.specs.declared.entry.Entry.{Entry}
use Rattle.session_model.specs.PlainSession.{PlainSession, Subscription, subscription_numbered}
use Rattle.session_model.specs.Change as session
use Rattle.session_model.specs.Acting.{changed_if, issued_session}
use Rattle.session_model.specs.FitsSession.{suits}
use Rattle.session_state.specs.declared.batch.Batch.{Batch}
use Rattle.session_state.specs.declared.change.Issued.{Issued as Issuing}
use Rattle.session_state.specs.KeptSub.{KeptSub}
use Rattle.session_state.specs.KeptSession.{KeptSession}
use Rattle.session_state.specs.KeptActing.{tidied, issued_kept}
use Rattle.turn_model.specs.Pump.{Pair}
use Rattle.turn_model.specs.MayIssue.{is_issue_of}
use Rattle.session_refinement.specs.StandFor.{EndsWithin, Group, IsGroup, is_entry_from, IsServed, IsCounted, IsWithin}
use Rattle.session_refinement.specs.StandFor.{StandsFor, sweep_positions, batch_positions, batch_generations}
use Rattle.session_refinement.specs.Issuing.{IsKeptBatch, IsBatchOver}
use Rattle.session_refinement.specs.laws.ChangeLaws.{change_keeps}
use Rattle.session_refinement.specs.laws.OneSubLaws.{changed_at, on_is_map}
use Rattle.session_refinement.specs.laws.IssueLaws.{plain_issues, moved, issued_change}
use Rattle.session_refinement.specs.laws.WithinLaws.{PartsWithin, within_parts, tidied_within, all_changed, all_pushed}
use Rattle.session_refinement.specs.laws.StandLaws.{again_stays, again_append, ends_append}

-- ---- an element that is set

set_here : {A : Type 0} (xs : List A) (k : ℕ) (v x : A) → slice_get (slice_set xs k v) k ≡ Some x → (v ≡ x)
    × ((old : A) × (slice_get xs k ≡ Some old))
set_here [] k v x is = absurd (none-some x is)
set_here (y ∷ xs) zero v x is = (same_Some v x is, (y, refl))
set_here (y ∷ xs) (suc k) v x is = set_here xs k v x is

set_elsewhere : {A : Type 0} (xs : List A) (k j : ℕ) (v : A) → (k ≡ j → ⊥) →
    slice_get (slice_set xs k v) j ≡ slice_get xs j
set_elsewhere [] k j v other = refl
set_elsewhere (y ∷ xs) zero zero v other = absurd (other refl)
set_elsewhere (y ∷ xs) zero (suc j) v other = refl
set_elsewhere (y ∷ xs) (suc k) zero v other = refl
set_elsewhere (y ∷ xs) (suc k) (suc j) v other = set_elsewhere xs k j v (λ same. other (ap (λ (n : ℕ). suc n) same))

-- ---- whose entries they are

entry_parts : (number : ℕ) (b : Batch) (e : Entry) → is_entry_from number b e ≡ true → (e.subscription ≡ number)
    × (e.shard ≡ b.shard)
entry_parts number b e is =
    let one = and_parts (e.subscription == number)
    ((e.version == b.version) && ((e.shard == b.shard) && (nat_le b.from e.offset && nat_lt e.offset b.to))) is in
    let two = and_parts (e.version == b.version)
    ((e.shard == b.shard) && (nat_le b.from e.offset && nat_lt e.offset b.to)) one.1 in
    let three = and_parts (e.shard == b.shard) (nat_le b.from e.offset && nat_lt e.offset b.to) two.1 in
    (eqb-true e.subscription number one.0, eqb-true e.shard b.shard three.0)

-- for their own pair they tell by their offsets
issues_here : (number shard offset : ℕ) (b : Batch) (es : List Entry) → list_all (is_entry_from number b) es ≡ true →
    shard ≡ b.shard →
    list_any (is_issue_of number shard offset) es ≡ list_any (λ (e : Entry). e.offset == offset) es
issues_here number shard offset b [] all here = refl
issues_here number shard offset b (e ∷ es) all here =
    let parts = and_parts (is_entry_from number b e) (list_all (is_entry_from number b) es) all in
    let of = entry_parts number b e parts.0 in
    ap (λ t. (t && ((e.shard == shard) && (e.offset == offset))) || list_any (is_issue_of number shard offset) es)
    (eq-eqb e.subscription number of.0)
    ∙ ap (λ t. (t && (e.offset == offset)) || list_any (is_issue_of number shard offset) es)
    (eq-eqb e.shard shard (of.1 ∙ sym here))
    ∙ ap (λ t. (e.offset == offset) || t) (issues_here number shard offset b es parts.1 here)

-- and for another pair none is one
issues_elsewhere : (number n shard offset : ℕ) (b : Batch) (es : List Entry) →
    list_all (is_entry_from number b) es ≡ true → (n ≡ number → shard ≡ b.shard → ⊥) →
    list_any (is_issue_of n shard offset) es ≡ false
issues_elsewhere number n shard offset b [] all apart = refl
issues_elsewhere number n shard offset b (e ∷ es) all apart =
    or_from ((e.subscription == n) && ((e.shard == shard) && (e.offset == offset)))
    (list_any (is_issue_of n shard offset) es) (by (cases_eq e.subscription n) (cases_eq e.shard shard))
    (issues_elsewhere number n shard offset b es parts.1 apart)
  where
    parts : (is_entry_from number b e ≡ true) × (list_all (is_entry_from number b) es ≡ true)
    parts = and_parts (is_entry_from number b e) (list_all (is_entry_from number b) es) all

    of : (e.subscription ≡ number) × (e.shard ≡ b.shard)
    of = entry_parts number b e parts.0

    by : (e.subscription ≡ n) ⊎ (e.subscription ≡ n → ⊥) → (e.shard ≡ shard) ⊎ (e.shard ≡ shard → ⊥) →
        ((e.subscription == n) && ((e.shard == shard) && (e.offset == offset))) ≡ false
    by (inl one) (inl two) = absurd (apart (sym one ∙ of.0) (sym two ∙ of.1))
    by (inl one) (inr two) = and_right (e.subscription == n) ((e.shard == shard) && (e.offset == offset))
        (and_left (e.shard == shard) (e.offset == offset) (ne_eqb e.shard shard two))
    by (inr one) two = and_left (e.subscription == n) ((e.shard == shard) && (e.offset == offset))
        (ne_eqb e.subscription n one)

or_none : (b : Bool) → (b || false) ≡ b
or_none true = refl
or_none false = refl

-- ---- sweeps that count

module _ (profile : Profile) (lists : List ShardList) (m : PlainSession) (i : Issuing) (entries : List Entry)
    (is : IsBatchOver profile lists m i entries)
    (counted : (p : Pair) (list : ShardList) → IsServed lists m p list → IsCounted profile m p list) where
  abbrev later : PlainSession
  later = issued_session (plain_issues i entries) m

  -- of a pair that isn't the batch's, served before with the same sweep
  others : (p : Pair) (list : ShardList) (s : Subscription) → IsServed lists m (record p { subscription = s }) list →
      s.number ≡ p.subscription.number → s.filter ≡ p.subscription.filter →
      (p.subscription.number ≡ i.subscription → p.shard ≡ i.batch.shard → ⊥) → IsCounted profile later p list
  others p list s served number same apart =
      let h = counted (record p { subscription = s }) list served in
      record {
        order = h.order;
        counts = λ w has.
            list_any-append (is_issue_of p.subscription.number p.shard w.offset) m.issued entries
            ∙ ap (λ b. list_any (is_issue_of p.subscription.number p.shard w.offset) m.issued || b)
            (issues_elsewhere i.subscription p.subscription.number p.shard w.offset i.batch entries
            is.batch.entries_are apart)
            ∙ or_none (list_any (is_issue_of p.subscription.number p.shard w.offset) m.issued)
            ∙ ap (λ n. list_any (is_issue_of n p.shard w.offset) m.issued) (sym number)
            ∙ h.counts w (subst (λ f. HasPlace (wanted f p.start list) w) (sym same) has);
      }

  -- of the batch's own pair
  own : (p : Pair) (list : ShardList) (s : Subscription) (old : Sweep) →
      IsServed lists m (record p { subscription = s; sweep = old }) list → s.number ≡ p.subscription.number →
      s.filter ≡ p.subscription.filter →
      p.subscription.number ≡ i.subscription → p.shard ≡ i.batch.shard → i.sweep ≡ p.sweep →
      IsCounted profile later p list
  own p list s old served number same one two sweep =
      let h = is.swept (record p { subscription = s; sweep = old }) list served (number ∙ one) two in
      record {
        order = subst (λ w. is_in_order profile list p.start w ≡ true) sweep h.order;
        counts = λ w has.
            list_any-append (is_issue_of p.subscription.number p.shard w.offset) m.issued entries
            ∙ ap (λ b. list_any (is_issue_of p.subscription.number p.shard w.offset) m.issued || b)
            (ap (λ n. list_any (is_issue_of n p.shard w.offset) entries) one
            ∙ issues_here i.subscription p.shard w.offset i.batch entries is.batch.entries_are two)
            ∙ ap (λ n. list_any (is_issue_of n p.shard w.offset) m.issued
            || list_any (λ (e : Entry). e.offset == w.offset) entries) (sym number)
            ∙ h.counts w (subst (λ f. HasPlace (wanted f p.start list) w) (sym same) has)
            ∙ ap (λ v. is_issued_by profile list v w.offset) sweep;
      }

  by_number : (p : Pair) (list : ShardList) (k : ℕ) (s : Subscription) → slice_get m.subscriptions k ≡ Some s →
      (b : Bool) → (s.number == i.subscription) ≡ b → changed_if b (moved i) s ≡ p.subscription →
      IsServed lists later p list → (p.shard ≡ i.batch.shard) ⊎ (p.shard ≡ i.batch.shard → ⊥) →
      IsCounted profile later p list
  by_number p list k s at false other same served shard =
      others p list s (record {
        has_subscription = (k, at);
        live = ap (λ (t : Subscription). t.live) same ∙ served.live;
        has_start = ap (λ (t : Subscription). slice_get t.starts p.shard) same ∙ served.has_start;
        has_sweep = ap (λ (t : Subscription). slice_get t.sweeps p.shard) same ∙ served.has_sweep;
        has_list = served.has_list;
      }) (ap (λ (t : Subscription). t.number) same) (ap (λ (t : Subscription). t.filter) same)
      (λ one two. true≢false
      (sym (eq-eqb s.number i.subscription (ap (λ (t : Subscription). t.number) same ∙ one)) ∙ other))
  by_number p list k s at true here same served (inr other) =
      others p list s (record {
        has_subscription = (k, at);
        live = ap (λ (t : Subscription). t.live) same ∙ served.live;
        has_start = ap (λ (t : Subscription). slice_get t.starts p.shard) same ∙ served.has_start;
        has_sweep =
            sym (set_elsewhere s.sweeps i.batch.shard p.shard i.sweep (λ two. other (sym two)))
            ∙ ap (λ (t : Subscription). slice_get t.sweeps p.shard) same ∙ served.has_sweep;
        has_list = served.has_list;
      }) (ap (λ (t : Subscription). t.number) same) (ap (λ (t : Subscription). t.filter) same) (λ one two. other two)
  by_number p list k s at true here same served (inl two) =
      let set = set_here s.sweeps p.shard i.sweep p.sweep
      (ap (λ n. slice_get (slice_set s.sweeps n i.sweep) p.shard) two
      ∙ ap (λ (t : Subscription). slice_get t.sweeps p.shard) same ∙ served.has_sweep) in
      own p list s set.1.0 (record {
        has_subscription = (k, at);
        live = ap (λ (t : Subscription). t.live) same ∙ served.live;
        has_start = ap (λ (t : Subscription). slice_get t.starts p.shard) same ∙ served.has_start;
        has_sweep = set.1.1;
        has_list = served.has_list;
      }) (ap (λ (t : Subscription). t.number) same) (ap (λ (t : Subscription). t.filter) same)
      (sym (ap (λ (t : Subscription). t.number) same) ∙ eqb-true s.number i.subscription here) two set.0

  pub issued_counted : (p : Pair) (list : ShardList) → IsServed lists later p list → IsCounted profile later p list
  issued_counted p list served =
      let place = subst (λ ss. HasPlace ss p.subscription)
      (on_is_map i.subscription (moved i) m.subscriptions) served.has_subscription in
      let was = mapped_place (changed_at i.subscription (moved i)) m.subscriptions place.0 p.subscription place.1 in
      by_number p list place.0 was.0 was.1 (was.0.number == i.subscription) refl was.2 served
      (cases_eq p.shard i.batch.shard)

-- ---- positions

issued_within : (profile : Profile) (lists : List ShardList) (k : KeptSession) (m : PlainSession) (i : Issuing)
    (entries : List Entry) → IsBatchOver profile lists m i entries → (shard : ℕ) (list : ShardList) →
    slice_get lists shard ≡ Some list → IsWithin k shard list → IsWithin (tidied (issued_kept i k)) shard list
issued_within profile lists k m i entries is shard list has h =
    tidied_within (issued_kept i k) shard list (record {
      subs_below =
          all_changed (λ (n : ℕ). nat_le n (next_of list)) (λ (s : KeptSub). sweep_positions (slice_get s.sweeps shard))
          (λ (s : KeptSub). changed_if (s.number == i.subscription)
          (λ (s : KeptSub). record s { sweeps = slice_set s.sweeps i.batch.shard i.sweep }) s)
          (λ s below. at s (s.number == i.subscription) (cases_eq i.batch.shard shard) below) k.subs before.subs_below;
      batches_below =
          all_pushed (λ (n : ℕ). nat_le n (next_of list))
          (λ (b : Batch). batch_positions (b.shard == shard) b) k.batches i.batch before.batches_below
          (batch_at (i.batch.shard == shard) (λ same. eqb-true i.batch.shard shard same));
      known =
          all_pushed (λ (n : ℕ). nat_le n (newest list).number)
          (λ (b : Batch). batch_generations (b.shard == shard) b) k.batches i.batch before.known
          (generation_at (i.batch.shard == shard) (λ same. eqb-true i.batch.shard shard same));
    })
  where
    before : PartsWithin shard list k.subs k.batches
    before = within_parts k shard list h

    parts : i.batch.shard ≡ shard →
        (list_all (λ (n : ℕ). nat_le n (next_of list)) (sweep_positions (Some i.sweep)) ≡ true)
        × (list_all (λ (n : ℕ). nat_le n (next_of list)) (batch_positions true i.batch) ≡ true)
    parts same =
        and_parts (list_all (λ (n : ℕ). nat_le n (next_of list)) (sweep_positions (Some i.sweep)))
        (list_all (λ (n : ℕ). nat_le n (next_of list)) (batch_positions true i.batch))
        (is.positions list (ap (slice_get lists) same ∙ has))

    batch_at : (b : Bool) → (b ≡ true → i.batch.shard ≡ shard) →
        list_all (λ (n : ℕ). nat_le n (next_of list)) (batch_positions b i.batch) ≡ true
    batch_at true same = (parts (same refl)).1
    batch_at false same = refl

    generation_at : (b : Bool) → (b ≡ true → i.batch.shard ≡ shard) →
        list_all (λ (n : ℕ). nat_le n (newest list).number) (batch_generations b i.batch) ≡ true
    generation_at true same = and_from (nat_le i.batch.generation (newest list).number) true
        (is.generation list (ap (slice_get lists) (same refl) ∙ has)) refl
    generation_at false same = refl

    set_below : (sweeps : List Sweep) (n : ℕ) →
        list_all (λ (n : ℕ). nat_le n (next_of list)) (sweep_positions (Some i.sweep)) ≡ true →
        list_all (λ (n : ℕ). nat_le n (next_of list)) (sweep_positions (slice_get (slice_set sweeps n i.sweep) n))
        ≡ true
    set_below [] zero below = refl
    set_below [] (suc n) below = refl
    set_below (w ∷ sweeps) zero below = below
    set_below (w ∷ sweeps) (suc n) below = set_below sweeps n below

    at : (s : KeptSub) (b : Bool) → (i.batch.shard ≡ shard) ⊎ (i.batch.shard ≡ shard → ⊥) →
        list_all (λ (n : ℕ). nat_le n (next_of list)) (sweep_positions (slice_get s.sweeps shard)) ≡ true →
        list_all (λ (n : ℕ). nat_le n (next_of list))
        (sweep_positions
        (slice_get
        (changed_if b (λ (s : KeptSub). record s { sweeps = slice_set s.sweeps i.batch.shard i.sweep }) s).sweeps
        shard)) ≡ true
    at s false shards below = below
    at s true (inl same) below =
        subst
        (λ n. list_all (λ (p : ℕ). nat_le p (next_of list))
        (sweep_positions (slice_get (slice_set s.sweeps n i.sweep) shard)) ≡ true) (sym same)
        (set_below s.sweeps shard (parts same).0)
    at s true (inr other) below = ap (λ o. list_all (λ (n : ℕ). nat_le n (next_of list)) (sweep_positions o))
        (set_elsewhere s.sweeps i.batch.shard shard i.sweep other) ∙ below

-- ---- the batch

group_of : (m : PlainSession) (i : Issuing) (entries : List Entry) → IsKeptBatch m i.subscription i.batch entries →
    IsGroup m (record { batch = i.batch; entries = entries })
group_of m i entries is =
    record {
      version = is.version;
      subscription = is.subscription;
      has_version = is.has_version;
      has_subscription = ap (λ n. subscription_numbered n m) is.same_subscription ∙ is.has_subscription;
      entries = ap (λ n. list_all (is_entry_from n i.batch) entries) is.same_subscription ∙ is.entries_are;
      track1 = is.track1;
      track2 = is.track2;
    }

batch_ends : (lists : List ShardList) (m : PlainSession) (i : Issuing) (entries : List Entry) (profile : Profile) →
    IsBatchOver profile lists m i entries →
    EndsWithin lists (record { batch = i.batch; entries = entries })
batch_ends lists m i entries profile is list has =
    let both = and_parts (list_all (λ (n : ℕ). nat_le n (next_of list)) (sweep_positions (Some i.sweep)))
    (list_all (λ (n : ℕ). nat_le n (next_of list)) (batch_positions true i.batch)) (is.positions list has) in
    let later = and_parts (nat_le i.batch.from (next_of list)) (nat_le i.batch.to (next_of list) && true) both.1 in
    leb-true i.batch.to (next_of list) (and_parts (nat_le i.batch.to (next_of list)) true later.1).0

pub issued_stands : (profile : Profile) (lists : List ShardList) (k : KeptSession) (m : PlainSession) (i : Issuing)
    (entries : List Entry) → StandsFor profile lists k m →
    suits m (session.Issued (plain_issues i entries)) ≡ true → IsBatchOver profile lists m i entries →
    StandsFor profile lists (tidied (issued_kept i k)) (issued_session (plain_issues i entries) m)
issued_stands profile lists k m i entries h fit is =
    let later = issued_session (plain_issues i entries) m in
    let g : Group = record { batch = i.batch; entries = entries } in
    let c = issued_change k m h.groups i entries h.keeps fit is.batch in
    record {
      groups = h.groups ++ g ∷ [];
      keeps = change_keeps k (issued_kept i k) m later h.groups (g ∷ []) h.keeps c;
      again =
          again_append profile lists later h.groups (g ∷ [])
          (again_stays profile lists k (issued_kept i k) m later
          (g ∷ []) c refl h.groups h.keeps.are_groups h.again)
          (again_stays profile lists k (issued_kept i k) m later (g ∷ []) c refl (g ∷ [])
          (group_of m i entries is.batch, tt) (is.again, tt));
      ends = ends_append lists h.groups (g ∷ []) h.ends (batch_ends lists m i entries profile is, tt);
      counted = issued_counted profile lists m i entries is h.counted;
      within = λ shard list has. issued_within profile lists k m i entries is shard list has (h.within shard list has);
    }
