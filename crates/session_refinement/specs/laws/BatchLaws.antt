-- A batch is kept exactly while one of its entries is unfinished.
use Rattle.std.proofs.Common.{◌≡◌, ◌⊎◌, inl, inr, ℕ, zero, suc, ◌+◌, ◌≤◌, ◌<◌, Bool, true, false, ◌&&◌, ◌||◌, not, ◌==◌}
use Rattle.std.proofs.Common.{if◌then◌else◌, nat_le, nat_lt, List, [], ◌∷◌, ◌++◌, filter, true≢false, refl, sym, ap}
use Rattle.std.proofs.Common.{subst, ◌∙◌, arith}
use Rattle.std.specs.List.{list_any, list_all}
use Rattle.std.proofs.lemmas.Bool.{or_cases, or_left, or_right, eqb-true, and_parts}
use Rattle.std.proofs.lemmas.List.Folds.{list_any-append}
use Rattle.std.proofs.lemmas.List.Elements.{filter-append}
use Rattle.session_model.specs.declared.entry.Entry.{Entry}
use Rattle.session_model.specs.declared.entry.Kind.{Kind}
use Rattle.session_model.specs.declared.entry.Kind.TheVariants.{Track1, Track2, Zero, Silent}
use Rattle.session_model.specs.Entry.{number1, number2, with_number, numbers1, numbers2}
use Rattle.session_model.specs.PlainSession.{PlainSession, issued1_of, issued2_of}
use Rattle.session_model.specs.Unfinished.{is_finished, kind_is_finished}
use Rattle.session_model.specs.Acting.{numbers_from}
use Rattle.session_model.specs.Orders.{HasNumbers}
use Rattle.session_model.specs.laws.TrackLaws.{numbers1-append, numbers2-append}
use Rattle.seq_tracks.specs.PlainTracks.{PlainTracks, is_unfinished1, is_unfinished2}
use Rattle.seq_tracks.specs.StandFor.{TracksStandFor}
use Rattle.seq_tracks.specs.AgreeLaws.{unfinished1_agrees, unfinished2_agrees}
use Rattle.session_state.specs.declared.batch.Batch.{Batch}
use Rattle.session_state.specs.KeptActing.{has_unfinished, kept_batches}
use Rattle.session_refinement.specs.StandFor.{Group, IsGroup, AreGroups, is_entry_from, entries_of, batches_of}
use Rattle.session_refinement.specs.laws.ListLaws.{Each, each_left, each_right, each_mapped, filter_within}

-- ---- numbers that were given

-- from 1 up to the last one
abbrev pub AreGiven : ℕ → List ℕ → Type 0
AreGiven last numbers = Each (λ n. (0 < n) × (n ≤ last)) numbers

pub given_from : (last start count : ℕ) → 0 < start → start + count ≤ last + 1 →
    AreGiven last (numbers_from start count)
given_from last start zero some within = tt
given_from last start (suc count) some within =
    ((some, omega arith), given_from last (start + 1) count (omega arith) (omega arith))

-- the numbers of some entries were given by the tracks of a session
pub record IsGiven (m : PlainSession) (es : List Entry) : Type 0 where
  pub track1 : AreGiven (issued1_of m) (numbers1 es)
  pub track2 : AreGiven (issued2_of m) (numbers2 es)

abbrev pub AllGiven : PlainSession → List Group → Type 0
AllGiven m groups = Each (λ g. IsGiven m g.entries) groups

pub given_all : (m : PlainSession) → HasNumbers m → IsGiven m m.issued
given_all m h =
    record {
      track1 = subst (AreGiven (issued1_of m)) (sym h.track1)
          (given_from (issued1_of m) 1 (issued1_of m) (omega arith) (omega arith));
      track2 = subst (AreGiven (issued2_of m)) (sym h.track2)
          (given_from (issued2_of m) 1 (issued2_of m) (omega arith) (omega arith));
    }

pub given_parts : (m : PlainSession) (es more : List Entry) → IsGiven m (es ++ more) → IsGiven m es × IsGiven m more
given_parts m es more h =
    let P : ℕ → ℕ → Type 0 = λ last n. (0 < n) × (n ≤ last) in
    let one = subst (AreGiven (issued1_of m)) (numbers1-append es more) h.track1 in
    let two = subst (AreGiven (issued2_of m)) (numbers2-append es more) h.track2 in (
      record {
        track1 = each_left (P (issued1_of m)) (numbers1 es) (numbers1 more) one;
        track2 =
            each_left (P (issued2_of m)) (numbers2 es) (numbers2 more) two;
      },
      record {
        track1 = each_right (P (issued1_of m)) (numbers1 es) (numbers1 more) one;
        track2 =
            each_right (P (issued2_of m)) (numbers2 es) (numbers2 more) two;
      },
    )

pub all_given : (m : PlainSession) (groups : List Group) → IsGiven m (entries_of groups) → AllGiven m groups
all_given m [] h = tt
all_given m (g ∷ gs) h = let parts = given_parts m g.entries (entries_of gs) h in (parts.0, all_given m gs parts.1)

-- ---- one group

or_swap : (a b c : Bool) → (b || (a || c)) ≡ (a || (b || c))
or_swap true true c = refl
or_swap true false c = refl
or_swap false b c = refl

or_again : (a b c : Bool) → ((a || b) || c) ≡ (a || (b || c))
or_again true b c = refl
or_again false b c = refl

-- some number of entries is unfinished exactly where some entry is
pub any_unfinished : (t : PlainTracks) (m : PlainSession) → TracksStandFor t m → (es : List Entry) →
    AreGiven (issued1_of m) (numbers1 es) → AreGiven (issued2_of m) (numbers2 es) →
    (list_any (is_unfinished1 t) (numbers1 es) || list_any (is_unfinished2 t) (numbers2 es))
    ≡ list_any (λ (e : Entry). not (is_finished m e)) es
any_unfinished t m h [] one two = refl
any_unfinished t m h (e ∷ es) one two = by e.kind one two (any_unfinished t m h es)
  where
    rest : Bool
    rest = list_any (λ (e : Entry). not (is_finished m e)) es

    by : (k : Kind) → AreGiven (issued1_of m) (with_number (number1 k) (numbers1 es)) →
        AreGiven (issued2_of m) (with_number (number2 k) (numbers2 es)) →
        (AreGiven (issued1_of m) (numbers1 es) → AreGiven (issued2_of m) (numbers2 es) →
        (list_any (is_unfinished1 t) (numbers1 es) || list_any (is_unfinished2 t) (numbers2 es))
        ≡ list_any (λ (e : Entry). not (is_finished m e)) es) →
        (list_any (is_unfinished1 t) (with_number (number1 k) (numbers1 es))
        || list_any (is_unfinished2 t) (with_number (number2 k) (numbers2 es)))
        ≡ (not (kind_is_finished m k) || list_any (λ (e : Entry). not (is_finished m e)) es)
    by (Track1 n) one two rest =
        or_again (is_unfinished1 t n) (list_any (is_unfinished1 t) (numbers1 es))
        (list_any (is_unfinished2 t) (numbers2 es))
        ∙ ap (λ b. is_unfinished1 t n || b) (rest one.1 two)
        ∙ ap (λ b. b || list_any (λ (e : Entry). not (is_finished m e)) es) (unfinished1_agrees t m n h one.0.1)
    by (Track2 n) one two rest =
        or_swap (is_unfinished2 t n) (list_any (is_unfinished1 t) (numbers1 es))
        (list_any (is_unfinished2 t) (numbers2 es))
        ∙ ap (λ b. is_unfinished2 t n || b) (rest one two.1)
        ∙ ap (λ b. b || list_any (λ (e : Entry). not (is_finished m e)) es) (unfinished2_agrees t m n h two.0.0 two.0.1)
    by Zero one two rest = rest one two
    by Silent one two rest = rest one two

pub group_agrees : (t : PlainTracks) (m n : PlainSession) (g : Group) → TracksStandFor t m → IsGroup n g →
    IsGiven m g.entries →
    has_unfinished t g.batch ≡ list_any (λ (e : Entry). not (is_finished m e)) g.entries
group_agrees t m n g h is given =
    ap (λ l. list_any (is_unfinished1 t) l || list_any (is_unfinished2 t) (numbers_from g.batch.first2 g.batch.count2))
    (sym is.track1)
    ∙ ap (λ l. list_any (is_unfinished1 t) (numbers1 g.entries) || list_any (is_unfinished2 t) l) (sym is.track2)
    ∙ any_unfinished t m h g.entries given.track1 given.track2

-- ---- the batches that name a version

pub entry_version : (subscription : ℕ) (b : Batch) (e : Entry) → is_entry_from subscription b e ≡ true →
    e.version ≡ b.version
entry_version subscription b e is =
    let parts = and_parts (e.subscription == subscription)
    ((e.version == b.version) && ((e.shard == b.shard) && (nat_le b.from e.offset && nat_lt e.offset b.to))) is in
    let later = and_parts (e.version == b.version)
    ((e.shard == b.shard) && (nat_le b.from e.offset && nat_lt e.offset b.to)) parts.1 in
    eqb-true e.version b.version later.0

-- of a group with an unfinished entry, some unfinished entry has the batch's version
one_named : (m : PlainSession) (subscription version : ℕ) (b : Batch) (es : List Entry) →
    list_all (is_entry_from subscription b) es ≡ true →
    list_any (λ (e : Entry). e.version == version) (filter (λ (e : Entry). not (is_finished m e)) es)
    ≡ ((b.version == version) && list_any (λ (e : Entry). not (is_finished m e)) es)
one_named m subscription version b [] all = none (b.version == version)
  where
    none : (c : Bool) → false ≡ (c && false)
    none true = refl
    none false = refl
one_named m subscription version b (e ∷ es) all =
    by (not (is_finished m e)) (one_named m subscription version b es parts.1)
  where
    parts : (is_entry_from subscription b e ≡ true) × (list_all (is_entry_from subscription b) es ≡ true)
    parts = and_parts (is_entry_from subscription b e) (list_all (is_entry_from subscription b) es) all

    same : (e.version == version) ≡ (b.version == version)
    same = ap (λ v. v == version) (entry_version subscription b e parts.0)

    or_and : (c d : Bool) → (c || (c && d)) ≡ (c && true)
    or_and true d = refl
    or_and false d = refl

    by : (f : Bool) → list_any (λ (e : Entry). e.version == version) (filter (λ (e : Entry). not (is_finished m e)) es)
        ≡ ((b.version == version) && list_any (λ (e : Entry). not (is_finished m e)) es) →
        list_any (λ (e : Entry). e.version == version)
        (if f then e ∷ filter (λ (e : Entry). not (is_finished m e)) es
        else filter (λ (e : Entry). not (is_finished m e)) es)
        ≡ ((b.version == version) && (f || list_any (λ (e : Entry). not (is_finished m e)) es))
    by true rest =
        ap (λ c. (e.version == version) || c) rest
        ∙ ap (λ c. c || ((b.version == version) && list_any (λ (e : Entry). not (is_finished m e)) es)) same
        ∙ or_and (b.version == version) (list_any (λ (e : Entry). not (is_finished m e)) es)
    by false rest = rest

-- a kept batch names a version exactly where an unfinished entry has it
pub named_agrees : (t : PlainTracks) (m n : PlainSession) (version : ℕ) → TracksStandFor t m → (groups : List Group) →
    AreGroups n groups → AllGiven m groups →
    list_any (λ (b : Batch). b.version == version) (kept_batches t (batches_of groups))
    ≡ list_any (λ (e : Entry). e.version == version) (filter (λ (e : Entry). not (is_finished m e)) (entries_of groups))
named_agrees t m n version h [] are given = refl
named_agrees t m n version h (g ∷ gs) are given =
    by (has_unfinished t g.batch) (group_agrees t m n g h are.0 given.0)
    ∙ ap (λ c. c || list_any (λ (b : Batch). b.version == version) (kept_batches t (batches_of gs)))
    (sym (one_named m are.0.version.subscription version g.batch g.entries are.0.entries))
    ∙ ap (λ c. list_any (λ (e : Entry). e.version == version) (filter (λ (e : Entry). not (is_finished m e)) g.entries)
    || c) (named_agrees t m n version h gs are.1 given.1)
    ∙ sym
    (list_any-append (λ (e : Entry). e.version == version) (filter (λ (e : Entry). not (is_finished m e)) g.entries)
    (filter (λ (e : Entry). not (is_finished m e)) (entries_of gs)))
    ∙ ap (list_any (λ (e : Entry). e.version == version))
    (sym (filter-append (λ (e : Entry). not (is_finished m e)) g.entries (entries_of gs)))
  where
    by : (u : Bool) → u ≡ list_any (λ (e : Entry). not (is_finished m e)) g.entries →
        list_any (λ (b : Batch). b.version == version)
        (if u then g.batch ∷ kept_batches t (batches_of gs) else kept_batches t (batches_of gs))
        ≡ (((g.batch.version == version) && list_any (λ (e : Entry). not (is_finished m e)) g.entries)
        || list_any (λ (b : Batch). b.version == version) (kept_batches t (batches_of gs)))
    by true is =
        ap (λ c. c || list_any (λ (b : Batch). b.version == version) (kept_batches t (batches_of gs)))
        (yes (g.batch.version == version) ∙ ap (λ c. (g.batch.version == version) && c) is)
      where
        yes : (c : Bool) → c ≡ (c && true)
        yes true = refl
        yes false = refl
    by false is =
        ap (λ c. c || list_any (λ (b : Batch). b.version == version) (kept_batches t (batches_of gs)))
        (no (g.batch.version == version) ∙ ap (λ c. (g.batch.version == version) && c) is)
      where
        no : (c : Bool) → false ≡ (c && false)
        no true = refl
        no false = refl

-- ---- what stays finished

-- what was finished before still is
abbrev pub StaysFinished : PlainSession → PlainSession → Type 0
StaysFinished m later = (e : Entry) → is_finished m e ≡ true → is_finished later e ≡ true

pub still_unfinished : (m later : PlainSession) (e : Entry) → StaysFinished m later → not (is_finished later e) ≡ true →
    not (is_finished m e) ≡ true
still_unfinished m later e stays is = by (is_finished m e) refl
  where
    by : (b : Bool) → is_finished m e ≡ b → not b ≡ true
    by false f = refl
    by true f = absurd (true≢false (sym (sym (ap not (stays e f)) ∙ is)))

any_still : (m later : PlainSession) → StaysFinished m later → (es : List Entry) →
    list_any (λ (e : Entry). not (is_finished later e)) es ≡ true →
    list_any (λ (e : Entry). not (is_finished m e)) es ≡ true
any_still m later stays [] found = found
any_still m later stays (e ∷ es) found =
    by (or_cases (not (is_finished later e)) (list_any (λ (e : Entry). not (is_finished later e)) es) found)
    (any_still m later stays es)
  where
    by : (not (is_finished later e) ≡ true) ⊎ (list_any (λ (e : Entry). not (is_finished later e)) es ≡ true) →
        (list_any (λ (e : Entry). not (is_finished later e)) es ≡ true →
        list_any (λ (e : Entry). not (is_finished m e)) es ≡ true) →
        (not (is_finished m e) || list_any (λ (e : Entry). not (is_finished m e)) es) ≡ true
    by (inl here) rest = or_left (not (is_finished m e)) (list_any (λ (e : Entry). not (is_finished m e)) es)
        (still_unfinished m later e stays here)
    by (inr there) rest = or_right (not (is_finished m e)) (list_any (λ (e : Entry). not (is_finished m e)) es)
        (rest there)

-- batches that went aren't needed again
pub batches_stay : (t u : PlainTracks) (m later n : PlainSession) → TracksStandFor t m → TracksStandFor u later →
    StaysFinished m later → (groups : List Group) →
    AreGroups n groups → AllGiven m groups → AllGiven later groups →
    kept_batches u (kept_batches t (batches_of groups)) ≡ kept_batches u (batches_of groups)
batches_stay t u m later n h after stays groups are given given_later =
    filter_within (has_unfinished u) (has_unfinished t) (batches_of groups)
    (each_mapped (λ b. has_unfinished u b ≡ true → has_unfinished t b ≡ true) (λ (g : Group). g.batch) groups
    (each groups are given given_later))
  where
    each : (groups : List Group) → AreGroups n groups → AllGiven m groups → AllGiven later groups →
        Each (λ (g : Group). has_unfinished u g.batch ≡ true → has_unfinished t g.batch ≡ true) groups
    each [] are given given_later = tt
    each (g ∷ gs) are given given_later = (
      λ is. group_agrees t m n g h are.0 given.0
          ∙ any_still m later stays g.entries (sym (group_agrees u later n g after are.0 given_later.0) ∙ is),
      each gs are.1 given.1 given_later.1,
    )
