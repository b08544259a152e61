-- Which sessions may be held, as a test: the facts that each session keeps from its begin on.
use Rattle.std.specs.Prelude.{ℕ, ◌+◌, ◌-◌, Bool, true, ◌&&◌, ◌||◌, not, ◌==◌, nat_le, nat_lt, List, [], ◌∷◌, ◌++◌, map, count_by, length, is_none}
use Rattle.std.specs.List.{list_all, list_any}
use Rattle.topic_model.specs.Profile.{whole}
use Rattle.session_model.specs.declared.entry.Version.{Version}
use Rattle.session_model.specs.Acting.{numbers_from}
use Rattle.session_model.specs.PlainSession.{has}
use Rattle.seq_tracks.specs.PlainTracks.{PlainTracks, is_unfinished1, is_unfinished2}
use Rattle.session_state.specs.declared.batch.Batch.{Batch}
use Rattle.session_state.specs.KeptSub.{KeptSub}
use Rattle.session_state.specs.KeptSession.{KeptSession, KeptSessions, session_of}
use Rattle.session_state.specs.KeptActing.{has_unfinished, has_version, is_named, is_present, numbers1_of, numbers2_of}
use Rattle.session_state.specs.KeptFits.{kept_within, kept_are_within}

-- ---- nothing is kept that isn't needed

abbrev pub is_needed : List KeptSub → List Batch → Version → Bool
is_needed subs batches v = is_present subs v || is_named batches v

abbrev pub is_wanted : List Version → KeptSub → Bool
is_wanted versions s = s.live || has_version versions s

abbrev pub is_tidy : KeptSession → Bool
is_tidy m =
    list_all (has_unfinished m.tracks) m.batches
    && (list_all (is_needed m.subs m.batches) m.versions && list_all (is_wanted m.versions) m.subs)

-- ---- numbers

-- numbers that ascend from one on, all below another
abbrev pub rise : ℕ → ℕ → List ℕ → Bool
rise low next [] = true
rise low next (n ∷ ns) = nat_le low n && (nat_lt n next && rise (n + 1) next ns)

abbrev pub sub_numbers : List KeptSub → List ℕ
sub_numbers subs = map (λ (s : KeptSub). s.number) subs

abbrev pub version_numbers : List Version → List ℕ
version_numbers versions = map (λ (v : Version). v.number) versions

-- subscriptions and versions ascend by number, below the next one
abbrev pub has_numbers : KeptSession → Bool
has_numbers m = rise 0 m.next_sub (sub_numbers m.subs) && rise 0 m.next_version (version_numbers m.versions)

-- ---- what names another has it

abbrev pub holds_sub : List KeptSub → ℕ → Bool
holds_sub subs number = list_any (λ (s : KeptSub). s.number == number) subs

abbrev pub holds_version : List Version → ℕ → Bool
holds_version versions number = list_any (λ (v : Version). v.number == number) versions

-- a version with this number is one of this subscription
abbrev pub holds_own : List Version → ℕ → KeptSub → Bool
holds_own versions number s = list_any (λ (v : Version). (v.number == number) && (v.subscription == s.number)) versions

-- each version's subscription is held, each live subscription's version, which is one of its own, and each batch's
abbrev pub names_held : KeptSession → Bool
names_held m =
    list_all (λ (v : Version). holds_sub m.subs v.subscription) m.versions
    && (list_all (λ (s : KeptSub). not s.live || holds_own m.versions s.version s) m.subs
    && list_all (λ (b : Batch). holds_version m.versions b.version) m.batches)

-- a subscription that was ended has no sweeps
abbrev pub ended_rest : List KeptSub → Bool
ended_rest subs = list_all (λ (s : KeptSub). s.live || (length s.sweeps == 0)) subs

-- ---- batches

-- batches in the order of issue: the numbers of each begin behind those of the one before, none is past the last that its track gave, and
-- each has offsets
abbrev pub are_issued : ℕ → ℕ → ℕ → ℕ → List Batch → Bool
are_issued low1 low2 last1 last2 [] = true
are_issued low1 low2 last1 last2 (b ∷ bs) =
    nat_lt b.from b.to
    && ((nat_le low1 b.first1 && nat_le (b.first1 + b.count1) (last1 + 1))
    && ((nat_le low2 b.first2 && nat_le (b.first2 + b.count2) (last2 + 1))
    && are_issued (b.first1 + b.count1) (b.first2 + b.count2) last1 last2 bs))

-- a number lies in exactly one batch
abbrev pub lies_in_one1 : List Batch → ℕ → Bool
lies_in_one1 batches n = count_by (λ (b : Batch). has (numbers1_of b) n) batches == 1

abbrev pub lies_in_one2 : List Batch → ℕ → Bool
lies_in_one2 batches n = count_by (λ (b : Batch). has (numbers2_of b) n) batches == 1

-- each unfinished number lies in exactly one batch
abbrev pub each_lies1 : PlainTracks → List Batch → Bool
each_lies1 t batches = list_all (λ (n : ℕ). not (is_unfinished1 t n) || lies_in_one1 batches n) (numbers_from (t.acked + 1) (t.issued1 - t.acked))

abbrev pub each_lies2 : PlainTracks → List Batch → Bool
each_lies2 t batches = list_all (λ (n : ℕ). not (is_unfinished2 t n) || lies_in_one2 batches n) (numbers_from (t.complete + 1) (t.issued2 - t.complete))

-- ---- all of it

abbrev pub has_facts : KeptSession → Bool
has_facts m =
    has_numbers m
    && (names_held m
    && (ended_rest m.subs && (are_issued 1 1 m.tracks.issued1 m.tracks.issued2 m.batches && (each_lies1 m.tracks m.batches && each_lies2 m.tracks m.batches))))

abbrev pub is_sound : KeptSession → Bool
is_sound m = kept_within whole m && (is_tidy m && has_facts m)

-- ---- the sessions of a worker

-- one more session, the newest: its client has none, its number lies behind the others' and below the next one, and the limits hold with it
abbrev pub may_add : KeptSession → KeptSessions → Bool
may_add m s =
    is_none (session_of m.client s)
    && (list_all (λ (x : KeptSession). nat_lt x.incarnation m.incarnation) s.list
    && (nat_lt m.incarnation s.next && kept_are_within whole (record s { list = s.list ++ m ∷ [] })))
