-- A spelling is as long as its size tells.
use Rattle.std.proofs.Common.{◌≡◌, ℕ, suc, ◌+◌, ◌*◌, Bool, true, false, ◌==◌, if◌then◌else◌, List, [], ◌∷◌, ◌++◌, length, Option, Some, None, refl, sym, ap, ◌∙◌, arith, mul-suc}
use Rattle.std.specs.List.{flat_map, sum_by}
use Rattle.std.proofs.lemmas.List.{length-append}
use Rattle.std.proofs.lemmas.List.Sums.{sum_by-cons}
use Rattle.wire_fields.specs.Spelled.{spelled_u16, spelled_u32, spelled_u64, spelled_text}
use Rattle.topic_model.specs.Levels.{text_of_levels}
use Rattle.shard_model.specs.declared.sweep.Sweep.{Sweep}
use Rattle.session_state.specs.declared.change.Change.{Change}
use Rattle.session_state.specs.declared.change.Effect.{Effect}
use Rattle.session_state.specs.declared.change.Effect.TheVariants.{Began, Ended, Bound, Parted, Subscribed, Replaced, Unsubscribed, Issued, Acked, Received, Done, Passed}
use Rattle.session_state.specs.KeptSub.{KeptSub}
use Rattle.session_state.specs.KeptSession.{KeptSession}
use Rattle.session_codec.specs.declared.formats.TheConstants.{FIRST_FORMAT}
use Rattle.session_codec.specs.Spelling.{KeptSnapshot, spelled_window, spelled_filter, spelled_sweep, spelled_sweeps, spelled_version, spelled_versions, spelled_batch, spelled_batches, spelled_sub, spelled_subs, spelled_effect, spelled_change, spelled_changes, spelled_moment, spelled_done, spelled_tracks, spelled_session, spelled_snapshot, spelled_holder, spelled_kept}
use Rattle.session_codec.specs.Sizes.{sweep_size, version_size, batch_size, text_size, window_size, effect_size, change_size, changes_size, sub_size, session_size, snapshot_size}

-- parts that are all as long as a size tells
each_sized : {A : Type 0} (f : A → List ℕ) (size : A → ℕ) → ((x : A) → length (f x) ≡ size x) → (xs : List A) → length (flat_map f xs) ≡ sum_by size xs
each_sized f size h [] = refl
each_sized f size h (x ∷ xs) =
    let rest : length (flat_map f xs) ≡ sum_by size xs = each_sized f size h xs in
    length-append (f x) (flat_map f xs) ∙ ap (λ n. n + length (flat_map f xs)) (h x) ∙ ap (λ n. size x + n) rest ∙ sym (sum_by-cons size x xs)

-- or all of one length
all_sized : {A : Type 0} (f : A → List ℕ) (size : ℕ) → ((x : A) → length (f x) ≡ size) → (xs : List A) → length (flat_map f xs) ≡ size * length xs
all_sized f size h [] = omega arith
all_sized f size h (x ∷ xs) =
    let rest : length (flat_map f xs) ≡ size * length xs = all_sized f size h xs in
    length-append (f x) (flat_map f xs) ∙ ap (λ n. n + length (flat_map f xs)) (h x) ∙ ap (λ n. size + n) rest ∙ one_more size (length xs)
  where
    one_more : (a n : ℕ) → a + a * n ≡ a * suc n
    one_more a n = grind (arith, mul-suc)

text_sized : (text : List ℕ) → length (spelled_text text) ≡ 2 + length text
text_sized text = length-append (spelled_u16 (length text)) text

window_sized : (format window : ℕ) → length (spelled_window format window) ≡ window_size format
window_sized format window = by (format == FIRST_FORMAT)
  where
    by : (b : Bool) → length (if b then [] else spelled_u16 window) ≡ (if b then 0 else 2)
    by true = refl
    by false = refl

sweeps_sized : (sweeps : List Sweep) → length (spelled_sweeps sweeps) ≡ sweep_size * length sweeps
sweeps_sized sweeps = all_sized spelled_sweep sweep_size (λ s. refl) sweeps

-- ---- changes

effect_sized : (format : ℕ) (e : Effect) → length (spelled_effect format e) ≡ effect_size format e
effect_sized format (Began b) = let w = window_sized format b.window in omega arith
effect_sized format Ended = refl
effect_sized format (Bound expiry) = refl
effect_sized format (Parted p) = refl
effect_sized format (Subscribed s) =
    let f : length (spelled_filter s.filter ++ spelled_sweeps s.sweeps) ≡ length (spelled_filter s.filter) + length (spelled_sweeps s.sweeps) =
    length-append (spelled_filter s.filter) (spelled_sweeps s.sweeps) in
    let t : length (spelled_filter s.filter) ≡ 2 + text_size s.filter = text_sized (text_of_levels s.filter) in
    let w = sweeps_sized s.sweeps in
    omega arith
effect_sized format (Replaced r) = refl
effect_sized format (Unsubscribed number) = refl
effect_sized format (Issued i) = refl
effect_sized format (Acked number) = refl
effect_sized format (Received number) = refl
effect_sized format (Done number) = refl
effect_sized format (Passed p) = refl

pub change_sized : (format : ℕ) (c : Change) → length (spelled_change format c) ≡ change_size format c
change_sized format c =
    let a : length (spelled_text c.client ++ spelled_effect format c.effect) ≡ length (spelled_text c.client) + length (spelled_effect format c.effect) =
    length-append (spelled_text c.client) (spelled_effect format c.effect) in
    let t = text_sized c.client in
    let e = effect_sized format c.effect in
    omega arith

pub changes_sized : (format : ℕ) (changes : List Change) → length (spelled_changes format changes) ≡ changes_size format changes
changes_sized format changes = let e = each_sized (spelled_change format) (change_size format) (change_sized format) changes in omega arith

-- ---- a snapshot

sub_sized : (s : KeptSub) → length (spelled_sub s) ≡ sub_size s
sub_sized s =
    let f : length (spelled_filter s.filter ++ spelled_sweeps s.sweeps) ≡ length (spelled_filter s.filter) + length (spelled_sweeps s.sweeps) =
    length-append (spelled_filter s.filter) (spelled_sweeps s.sweeps) in
    let t : length (spelled_filter s.filter) ≡ 2 + text_size s.filter = text_sized (text_of_levels s.filter) in
    let w = sweeps_sized s.sweeps in
    omega arith

moment_sized : (parted : Option ℕ) → length (spelled_moment parted) ≡ 8
moment_sized None = refl
moment_sized (Some moment) = refl

done_sized : (done : List ℕ) → length (spelled_done done) ≡ 2 + 8 * length done
done_sized done = let e = all_sized spelled_u64 8 (λ n. refl) done in omega arith

holder_sized : (format : ℕ) (m : KeptSession) → length (spelled_holder format m) ≡ 2 + length m.client + 12 + window_size format + 8
holder_sized format m =
    let t = text_sized m.client in
    let p = moment_sized m.parted in
    let w = window_sized format m.window in
    let behind : List ℕ = spelled_window format m.window ++ spelled_moment m.parted in
    let last : length behind ≡ length (spelled_window format m.window) + length (spelled_moment m.parted) =
    length-append (spelled_window format m.window) (spelled_moment m.parted) in
    let rest : List ℕ = spelled_u64 m.incarnation ++ (spelled_u32 m.expiry ++ behind) in
    let first : length (spelled_text m.client ++ rest) ≡ length (spelled_text m.client) + length rest = length-append (spelled_text m.client) rest in
    omega arith

kept_sized : (m : KeptSession) → length (spelled_kept m) ≡ 8 + (40 + (2 + 8 * length m.tracks.done))
    + ((2 + sum_by sub_size m.subs) + ((2 + version_size * length m.versions) + (2 + batch_size * length m.batches)))
kept_sized m =
    let d = done_sized m.tracks.done in
    let s = each_sized spelled_sub sub_size sub_sized m.subs in
    let v = all_sized spelled_version version_size (λ v. refl) m.versions in
    let b = all_sized spelled_batch batch_size (λ b. refl) m.batches in
    let lists : List ℕ = spelled_versions m.versions ++ spelled_batches m.batches in
    let one : length lists ≡ length (spelled_versions m.versions) + length (spelled_batches m.batches) = length-append (spelled_versions m.versions) (spelled_batches m.batches) in
    let two : length (spelled_subs m.subs ++ lists) ≡ length (spelled_subs m.subs) + length lists = length-append (spelled_subs m.subs) lists in
    let three : length (spelled_tracks m.tracks ++ (spelled_subs m.subs ++ lists)) ≡ length (spelled_tracks m.tracks) + length (spelled_subs m.subs ++ lists) =
    length-append (spelled_tracks m.tracks) (spelled_subs m.subs ++ lists) in
    omega arith

pub session_sized : (format : ℕ) (m : KeptSession) → length (spelled_session format m) ≡ session_size format m
session_sized format m =
    let h = holder_sized format m in
    let k = kept_sized m in
    let a = length-append (spelled_holder format m) (spelled_kept m) in
    omega arith

pub snapshot_sized : (s : KeptSnapshot) → length (spelled_snapshot s) ≡ snapshot_size s
snapshot_sized s =
    let e = each_sized (spelled_session s.format) (session_size s.format) (session_sized s.format) s.sessions.list in
    omega arith
