-- What isn't needed may go: the facts of a session stay.
use Rattle.std.proofs.Common.{◌≡◌, ℕ, ◌+◌, ◌-◌, ◌≤◌, Bool, true, false, not, ◌&&◌, ◌||◌, ◌==◌, if◌then◌else◌, nat_le, nat_lt, List, [], ◌∷◌, ◌++◌, length, filter, refl, ap, ◌∙◌, arith}
use Rattle.std.specs.List.{list_all, list_any}
use Rattle.std.proofs.lemmas.Bool.{and_parts, and_from, or_left, or_right, eqb-true}
use Rattle.std.proofs.lemmas.Bool.Decides.{nat_tests}
use Rattle.session_model.specs.declared.entry.Version.{Version}
use Rattle.session_model.specs.Acting.{numbers_from}
use Rattle.session_model.specs.PlainSession.{has}
use Rattle.seq_tracks.specs.PlainTracks.{PlainTracks, is_unfinished1, is_unfinished2}
use Rattle.session_state.specs.declared.batch.Batch.{Batch}
use Rattle.session_state.specs.KeptSub.{KeptSub}
use Rattle.session_state.specs.KeptSession.{KeptSession}
use Rattle.session_state.specs.KeptActing.{has_unfinished, has_version, is_named, is_present, kept_batches, kept_subs, kept_versions, numbers1_of, numbers2_of, tidied}
use Rattle.session_state.specs.SoundTest.{are_issued, each_lies1, each_lies2, ended_rest, has_facts, has_numbers, holds_own, holds_sub, holds_version, is_needed, is_wanted, lies_in_one1, lies_in_one2, names_held, rise, sub_numbers, version_numbers}
use Rattle.session_state.specs.TidyLaws.{any_kept}
use Rattle.session_state.specs.ListLaws.{all_alike, all_at, all_both, all_filtered, all_weaker, any_at, any_has, count_kept, rise_filtered}

same_number : (n : ℕ) → (n == n) ≡ true
same_number n = grind (arith, nat_tests)

-- ---- what names another has it

module _ (n : KeptSession) where
  abbrev batches_of : List Batch
  batches_of = kept_batches n.tracks n.batches

  abbrev versions_of : List Version
  versions_of = kept_versions n.subs batches_of n.versions

  subs_held : list_all (λ (v : Version). holds_sub n.subs v.subscription) n.versions ≡ true →
      list_all (λ (v : Version). holds_sub (kept_subs versions_of n.subs) v.subscription) versions_of ≡ true
  subs_held all =
      all_both (λ (v : Version). holds_sub n.subs v.subscription) (λ (v : Version). list_any (λ (w : Version). w.subscription == v.subscription) versions_of)
      (λ (v : Version). holds_sub (kept_subs versions_of n.subs) v.subscription) versions_of
      (λ v held own.
      any_kept (λ (s : KeptSub). s.number == v.subscription) (is_wanted versions_of) n.subs
      (λ s is. or_right s.live (has_version versions_of s)
      (ap (λ k. list_any (λ (w : Version). w.subscription == k) versions_of) (eqb-true s.number v.subscription is) ∙ own))
      ∙ held)
      (all_filtered (λ (v : Version). holds_sub n.subs v.subscription) (is_needed n.subs batches_of) n.versions all)
      (all_alike (λ (v w : Version). w.subscription == v.subscription) versions_of (λ v. same_number v.subscription))

  -- a live subscription is one of those with its version
  own_present : list_all (λ (s : KeptSub). not s.live || list_any (λ (w : KeptSub). w.live && (w.version == s.version)) n.subs) n.subs ≡ true
  own_present =
      all_at (λ (s : KeptSub). not s.live || list_any (λ (w : KeptSub). w.live && (w.version == s.version)) n.subs) [] n.subs
      (λ before after s e. by s before after s.live refl e)
    where
      by : (s : KeptSub) (before after : List KeptSub) (live : Bool) → s.live ≡ live → n.subs ≡ before ++ s ∷ after →
          (not s.live || list_any (λ (w : KeptSub). w.live && (w.version == s.version)) n.subs) ≡ true
      by s before after false is e = ap (λ l. not l || list_any (λ (w : KeptSub). w.live && (w.version == s.version)) n.subs) is
      by s before after true is e =
          or_right (not s.live) (list_any (λ (w : KeptSub). w.live && (w.version == s.version)) n.subs)
          (ap (list_any (λ (w : KeptSub). w.live && (w.version == s.version))) e
          ∙ any_at (λ (w : KeptSub). w.live && (w.version == s.version)) before after s (and_from s.live (s.version == s.version) is (same_number s.version)))

  present_held : list_all (λ (s : KeptSub). not s.live || holds_own n.versions s.version s) n.subs ≡ true →
      list_all (λ (s : KeptSub). not s.live || holds_own versions_of s.version s) (kept_subs versions_of n.subs) ≡ true
  present_held all =
      all_filtered (λ (s : KeptSub). not s.live || holds_own versions_of s.version s) (is_wanted versions_of) n.subs
      (all_both (λ (s : KeptSub). not s.live || holds_own n.versions s.version s) (λ (s : KeptSub). not s.live || list_any (λ (w : KeptSub). w.live && (w.version == s.version)) n.subs)
      (λ (s : KeptSub). not s.live || holds_own versions_of s.version s) n.subs (λ s held own. by s (not s.live) held own) all own_present)
    where
      by : (s : KeptSub) (ended : Bool) → (ended || holds_own n.versions s.version s) ≡ true → (ended || list_any (λ (w : KeptSub). w.live && (w.version == s.version)) n.subs) ≡ true →
          (ended || holds_own versions_of s.version s) ≡ true
      by s true held own = refl
      by s false held own =
          any_kept (λ (v : Version). (v.number == s.version) && (v.subscription == s.number)) (is_needed n.subs batches_of) n.versions
          (λ v is. or_left (is_present n.subs v) (is_named batches_of v)
          (ap (λ k. list_any (λ (w : KeptSub). w.live && (w.version == k)) n.subs)
          (eqb-true v.number s.version (and_parts (v.number == s.version) (v.subscription == s.number) is).0)
          ∙ own))
          ∙ held

  named_held : list_all (λ (b : Batch). holds_version n.versions b.version) n.batches ≡ true →
      list_all (λ (b : Batch). holds_version versions_of b.version) batches_of ≡ true
  named_held all =
      all_both (λ (b : Batch). holds_version n.versions b.version) (λ (b : Batch). list_any (λ (w : Batch). w.version == b.version) batches_of)
      (λ (b : Batch). holds_version versions_of b.version) batches_of
      (λ b held own.
      any_kept (λ (v : Version). v.number == b.version) (is_needed n.subs batches_of) n.versions
      (λ v is. or_right (is_present n.subs v) (is_named batches_of v)
      (ap (λ k. list_any (λ (w : Batch). w.version == k) batches_of) (eqb-true v.number b.version is) ∙ own))
      ∙ held)
      (all_filtered (λ (b : Batch). holds_version n.versions b.version) (has_unfinished n.tracks) n.batches all)
      (all_alike (λ (b w : Batch). w.version == b.version) batches_of (λ b. same_number b.version))

-- ---- batches

at_least : (a b c : ℕ) → a ≤ b → nat_le b c ≡ true → nat_le a c ≡ true
at_least a b c less h = grind (arith, nat_tests)

pub issued_lower : (low1 low2 high1 high2 last1 last2 : ℕ) (bs : List Batch) → low1 ≤ high1 → low2 ≤ high2 → are_issued high1 high2 last1 last2 bs ≡ true →
    are_issued low1 low2 last1 last2 bs ≡ true
issued_lower low1 low2 high1 high2 last1 last2 [] less1 less2 up = refl
issued_lower low1 low2 high1 high2 last1 last2 (b ∷ bs) less1 less2 up =
    let rest = are_issued (b.first1 + b.count1) (b.first2 + b.count2) last1 last2 bs in
    let to1 = nat_le (b.first1 + b.count1) (last1 + 1) in
    let to2 = nat_le (b.first2 + b.count2) (last2 + 1) in
    let p = and_parts (nat_lt b.from b.to) ((nat_le high1 b.first1 && to1) && ((nat_le high2 b.first2 && to2) && rest)) up in
    let q = and_parts (nat_le high1 b.first1 && to1) ((nat_le high2 b.first2 && to2) && rest) p.1 in
    let r = and_parts (nat_le high2 b.first2 && to2) rest q.1 in
    let one = and_parts (nat_le high1 b.first1) to1 q.0 in
    let two = and_parts (nat_le high2 b.first2) to2 r.0 in
    and_from (nat_lt b.from b.to) ((nat_le low1 b.first1 && to1) && ((nat_le low2 b.first2 && to2) && rest)) p.0
    (and_from (nat_le low1 b.first1 && to1) ((nat_le low2 b.first2 && to2) && rest) (and_from (nat_le low1 b.first1) to1 (at_least low1 high1 b.first1 less1 one.0) one.1)
    (and_from (nat_le low2 b.first2 && to2) rest (and_from (nat_le low2 b.first2) to2 (at_least low2 high2 b.first2 less2 two.0) two.1) r.1))

pub issued_filtered : (keeps : Batch → Bool) (low1 low2 last1 last2 : ℕ) (bs : List Batch) → are_issued low1 low2 last1 last2 bs ≡ true →
    are_issued low1 low2 last1 last2 (filter keeps bs) ≡ true
issued_filtered keeps low1 low2 last1 last2 [] up = refl
issued_filtered keeps low1 low2 last1 last2 (b ∷ bs) up =
    let rest = are_issued (b.first1 + b.count1) (b.first2 + b.count2) last1 last2 bs in
    let to1 = nat_le (b.first1 + b.count1) (last1 + 1) in
    let to2 = nat_le (b.first2 + b.count2) (last2 + 1) in
    let p = and_parts (nat_lt b.from b.to) ((nat_le low1 b.first1 && to1) && ((nat_le low2 b.first2 && to2) && rest)) up in
    let q = and_parts (nat_le low1 b.first1 && to1) ((nat_le low2 b.first2 && to2) && rest) p.1 in
    let r = and_parts (nat_le low2 b.first2 && to2) rest q.1 in
    by (keeps b) p.0 q.0 r.0 (issued_filtered keeps (b.first1 + b.count1) (b.first2 + b.count2) last1 last2 bs r.1)
  where
    up_to : (a c d : ℕ) → nat_le a c ≡ true → a ≤ c + d
    up_to a c d h = grind (arith, nat_tests)

    by : (k : Bool) → nat_lt b.from b.to ≡ true → (nat_le low1 b.first1 && nat_le (b.first1 + b.count1) (last1 + 1)) ≡ true →
        (nat_le low2 b.first2 && nat_le (b.first2 + b.count2) (last2 + 1)) ≡ true → are_issued (b.first1 + b.count1) (b.first2 + b.count2) last1 last2 (filter keeps bs) ≡ true →
        are_issued low1 low2 last1 last2 (if k then b ∷ filter keeps bs else filter keeps bs) ≡ true
    by true range one two rest =
        let kept = are_issued (b.first1 + b.count1) (b.first2 + b.count2) last1 last2 (filter keeps bs) in
        let run1 = nat_le low1 b.first1 && nat_le (b.first1 + b.count1) (last1 + 1) in
        let run2 = nat_le low2 b.first2 && nat_le (b.first2 + b.count2) (last2 + 1) in
        and_from (nat_lt b.from b.to) (run1 && (run2 && kept)) range (and_from run1 (run2 && kept) one (and_from run2 kept two rest))
    by false range one two rest =
        issued_lower low1 low2 (b.first1 + b.count1) (b.first2 + b.count2) last1 last2 (filter keeps bs)
        (up_to low1 b.first1 b.count1 (and_parts (nat_le low1 b.first1) (nat_le (b.first1 + b.count1) (last1 + 1)) one).0)
        (up_to low2 b.first2 b.count2 (and_parts (nat_le low2 b.first2) (nat_le (b.first2 + b.count2) (last2 + 1)) two).0) rest

-- a batch with an unfinished number is kept
pub lies_kept1 : (t : PlainTracks) (batches : List Batch) → each_lies1 t batches ≡ true → each_lies1 t (kept_batches t batches) ≡ true
lies_kept1 t batches all =
    all_weaker (λ (n : ℕ). not (is_unfinished1 t n) || lies_in_one1 batches n) (λ (n : ℕ). not (is_unfinished1 t n) || lies_in_one1 (kept_batches t batches) n)
    (numbers_from (t.acked + 1) (t.issued1 - t.acked)) (λ n lies. by n (is_unfinished1 t n) refl lies) all
  where
    by : (n : ℕ) (unfinished : Bool) → is_unfinished1 t n ≡ unfinished → (not unfinished || lies_in_one1 batches n) ≡ true → (not unfinished || lies_in_one1 (kept_batches t batches) n) ≡ true
    by n false is lies = refl
    by n true is lies =
        ap (λ k. k == 1)
        (count_kept (λ (b : Batch). has (numbers1_of b) n) (has_unfinished t) batches
        (λ b there. or_left (list_any (is_unfinished1 t) (numbers1_of b)) (list_any (is_unfinished2 t) (numbers2_of b)) (any_has (is_unfinished1 t) (numbers1_of b) n there is)))
        ∙ lies

pub lies_kept2 : (t : PlainTracks) (batches : List Batch) → each_lies2 t batches ≡ true → each_lies2 t (kept_batches t batches) ≡ true
lies_kept2 t batches all =
    all_weaker (λ (n : ℕ). not (is_unfinished2 t n) || lies_in_one2 batches n) (λ (n : ℕ). not (is_unfinished2 t n) || lies_in_one2 (kept_batches t batches) n)
    (numbers_from (t.complete + 1) (t.issued2 - t.complete)) (λ n lies. by n (is_unfinished2 t n) refl lies) all
  where
    by : (n : ℕ) (unfinished : Bool) → is_unfinished2 t n ≡ unfinished → (not unfinished || lies_in_one2 batches n) ≡ true → (not unfinished || lies_in_one2 (kept_batches t batches) n) ≡ true
    by n false is lies = refl
    by n true is lies =
        ap (λ k. k == 1)
        (count_kept (λ (b : Batch). has (numbers2_of b) n) (has_unfinished t) batches
        (λ b there. or_right (list_any (is_unfinished1 t) (numbers1_of b)) (list_any (is_unfinished2 t) (numbers2_of b)) (any_has (is_unfinished2 t) (numbers2_of b) n there is)))
        ∙ lies

-- ---- all of it

-- the facts of a session, as parts
pub record HasFacts (m : KeptSession) : Type 0 where
  pub subs : rise 0 m.next_sub (sub_numbers m.subs) ≡ true
  pub versions : rise 0 m.next_version (version_numbers m.versions) ≡ true
  pub held : list_all (λ (v : Version). holds_sub m.subs v.subscription) m.versions ≡ true
  pub present : list_all (λ (s : KeptSub). not s.live || holds_own m.versions s.version s) m.subs ≡ true
  pub named : list_all (λ (b : Batch). holds_version m.versions b.version) m.batches ≡ true
  pub ended : ended_rest m.subs ≡ true
  pub issued : are_issued 1 1 m.tracks.issued1 m.tracks.issued2 m.batches ≡ true
  pub lies1 : each_lies1 m.tracks m.batches ≡ true
  pub lies2 : each_lies2 m.tracks m.batches ≡ true

pub facts_from_test : (m : KeptSession) → has_facts m ≡ true → HasFacts m
facts_from_test m is =
    let lies = each_lies1 m.tracks m.batches && each_lies2 m.tracks m.batches in
    let batches = are_issued 1 1 m.tracks.issued1 m.tracks.issued2 m.batches && lies in
    let p = and_parts (has_numbers m) (names_held m && (ended_rest m.subs && batches)) is in
    let q = and_parts (names_held m) (ended_rest m.subs && batches) p.1 in
    let r = and_parts (ended_rest m.subs) batches q.1 in
    let s = and_parts (are_issued 1 1 m.tracks.issued1 m.tracks.issued2 m.batches) lies r.1 in
    let t = and_parts (each_lies1 m.tracks m.batches) (each_lies2 m.tracks m.batches) s.1 in
    let numbers = and_parts (rise 0 m.next_sub (sub_numbers m.subs)) (rise 0 m.next_version (version_numbers m.versions)) p.0 in
    let present = list_all (λ (s : KeptSub). not s.live || holds_own m.versions s.version s) m.subs in
    let named = list_all (λ (b : Batch). holds_version m.versions b.version) m.batches in
    let u = and_parts (list_all (λ (v : Version). holds_sub m.subs v.subscription) m.versions) (present && named) q.0 in
    let v = and_parts present named u.1 in
    record { subs = numbers.0; versions = numbers.1; held = u.0; present = v.0; named = v.1; ended = r.0; issued = s.0; lies1 = t.0; lies2 = t.1 }

pub test_from_facts : (m : KeptSession) → HasFacts m → has_facts m ≡ true
test_from_facts m f =
    let lies = each_lies1 m.tracks m.batches && each_lies2 m.tracks m.batches in
    let batches = are_issued 1 1 m.tracks.issued1 m.tracks.issued2 m.batches && lies in
    let present = list_all (λ (s : KeptSub). not s.live || holds_own m.versions s.version s) m.subs in
    let named = list_all (λ (b : Batch). holds_version m.versions b.version) m.batches in
    and_from (has_numbers m) (names_held m && (ended_rest m.subs && batches))
    (and_from (rise 0 m.next_sub (sub_numbers m.subs)) (rise 0 m.next_version (version_numbers m.versions)) f.subs f.versions)
    (and_from (names_held m) (ended_rest m.subs && batches)
    (and_from (list_all (λ (v : Version). holds_sub m.subs v.subscription) m.versions) (present && named) f.held (and_from present named f.present f.named))
    (and_from (ended_rest m.subs) batches f.ended
    (and_from (are_issued 1 1 m.tracks.issued1 m.tracks.issued2 m.batches) lies f.issued
    (and_from (each_lies1 m.tracks m.batches) (each_lies2 m.tracks m.batches) f.lies1 f.lies2))))

-- they stay where what isn't needed goes
pub facts_tidied : (n : KeptSession) → HasFacts n → HasFacts (tidied n)
facts_tidied n f =
    record {
      subs = rise_filtered (λ (s : KeptSub). s.number) (is_wanted (versions_of n)) n.subs 0 n.next_sub f.subs;
      versions = rise_filtered (λ (v : Version). v.number) (is_needed n.subs (batches_of n)) n.versions 0 n.next_version f.versions;
      held = subs_held n f.held;
      present = present_held n f.present;
      named = named_held n f.named;
      ended = all_filtered (λ (s : KeptSub). s.live || (length s.sweeps == 0)) (is_wanted (versions_of n)) n.subs f.ended;
      issued = issued_filtered (has_unfinished n.tracks) 1 1 n.tracks.issued1 n.tracks.issued2 n.batches f.issued;
      lies1 = lies_kept1 n.tracks n.batches f.lies1;
      lies2 = lies_kept2 n.tracks n.batches f.lies2;
    }
