-- How long a snapshot is at most.
use Rattle.std.proofs.Common.{◌≡◌, ◌⊎◌, inl, inr, ℕ, suc, zero, ◌+◌, ◌-◌, ◌*◌, ◌≤◌, true, ◌==◌, if◌then◌else◌, List, [], ◌∷◌, length, All, refl, arith, suc-mul}
use Rattle.std.specs.Prelude.{nat_lt}
use Rattle.std.specs.List.{sum_by}
use Rattle.std.proofs.lemmas.List.Sums.{sum_by-cons}
use Rattle.session_state.specs.KeptSub.{KeptSub}
use Rattle.session_state.specs.KeptSession.{KeptSession, KeptSessions}
use Rattle.session_codec.specs.declared.formats.TheConstants.{SECOND_FORMAT}
use Rattle.session_codec.specs.Spelling.{snapshot_to_write, spelled_session, spelled_snapshot}
use Rattle.session_codec.specs.Sizes.{text_size, sub_size, session_size, snapshot_size}
use Rattle.session_codec.specs.SizeLaws.{session_sized, snapshot_sized}

-- the most live subscriptions of a session, shards, and bytes of filter texts
abbrev pub most_live : ℕ
most_live = 64

abbrev pub most_sweeps : ℕ
most_sweeps = 512

abbrev pub most_texts : ℕ
most_texts = 65536

-- What bounds the bytes of a session: each number that is done, each subscription and version besides those of the live ones, and each batch
-- takes one of the window, but for some extra subscriptions, and a live subscription has a sweep in each of at most eight shards.
pub record IsBounded (extra : ℕ) (m : KeptSession) : Type 0 where
  pub client : length m.client ≤ 256
  pub done : length m.tracks.done ≤ m.window
  pub subs : length m.subs ≤ most_live + extra + m.window
  pub texts : sum_by (λ (s : KeptSub). text_size s.filter) m.subs ≤ most_texts
  pub sweeps : sum_by (λ (s : KeptSub). length s.sweeps) m.subs ≤ most_sweeps
  pub versions : length m.versions ≤ most_live + m.window
  pub batches : length m.batches ≤ m.window

-- the most bytes of a session with a window
abbrev pub most_session : ℕ → ℕ → ℕ
most_session extra window = 85840 + 11 * extra + 89 * window

narrow_session : most_session 0 512 ≡ 131408
narrow_session = refl

wide_session : most_session 0 2048 ≡ 268112
wide_session = refl

subs_are : (subs : List KeptSub) →
    sum_by sub_size subs
    ≡ 11 * length subs + sum_by (λ (s : KeptSub). text_size s.filter) subs + 36 * sum_by (λ (s : KeptSub). length s.sweeps) subs
subs_are [] = omega arith
subs_are (s ∷ subs) =
    let rest : sum_by sub_size subs
    ≡ 11 * length subs + sum_by (λ (s : KeptSub). text_size s.filter) subs + 36 * sum_by (λ (s : KeptSub). length s.sweeps) subs = subs_are subs in
    omega (
      arith,
      sum_by-cons sub_size s subs,
      sum_by-cons (λ (s : KeptSub). text_size s.filter) s subs,
      sum_by-cons (λ (s : KeptSub). length s.sweeps) s subs,
    )

pub session_within : (extra : ℕ) (m : KeptSession) → IsBounded extra m → session_size SECOND_FORMAT m ≤ most_session extra m.window
session_within extra m b = let s = subs_are m.subs in omega (arith, b.client, b.done, b.subs, b.texts, b.sweeps, b.versions, b.batches)

-- ---- the sessions of a worker

-- a session has one of the two windows
abbrev pub HasWindow : KeptSession → Type 0
HasWindow m = (m.window ≡ 512) ⊎ (m.window ≡ 2048)

-- how many have the wide one
abbrev pub wide_ones : List KeptSession → ℕ
wide_ones ms = sum_by (λ (m : KeptSession). if m.window == 2048 then 1 else 0) ms

pub record AreBounded (extra : ℕ) (s : KeptSessions) : Type 0 where
  pub count : length s.list ≤ 4096
  pub wide : wide_ones s.list ≤ 256
  pub windows : All HasWindow s.list
  pub each : All (IsBounded extra) s.list

-- what a snapshot of 4,096 sessions takes at most, of which 256 are wide
abbrev pub most_snapshot : ℕ → ℕ
most_snapshot extra = 16 + 4096 * most_session extra 512 + 256 * (most_session extra 2048 - most_session extra 512)

without_extra : nat_lt (most_snapshot 0) 573604352 ≡ true
without_extra = refl

with_extra : most_snapshot 64 ≡ 576126992
with_extra = refl

list_within : (extra : ℕ) (ms : List KeptSession) → All HasWindow ms → All (IsBounded extra) ms →
    sum_by (session_size SECOND_FORMAT) ms ≤ sum_by (λ (m : KeptSession). most_session extra 512 + 136704 * (if m.window == 2048 then 1 else 0)) ms
list_within extra [] w b = omega arith
list_within extra (m ∷ ms) w b =
    let rest : sum_by (session_size SECOND_FORMAT) ms ≤ sum_by (λ (m : KeptSession). most_session extra 512 + 136704 * (if m.window == 2048 then 1 else 0)) ms =
    list_within extra ms (λ k d less. w (suc k) d (omega arith)) (λ k d less. b (suc k) d (omega arith)) in
    let this : session_size SECOND_FORMAT m ≤ most_session extra m.window = session_within extra m (b 0 m (omega arith)) in
    let one : most_session extra m.window ≤ most_session extra 512 + 136704 * (if m.window == 2048 then 1 else 0) = by (w 0 m (omega arith)) in
    omega (
      arith,
      sum_by-cons (session_size SECOND_FORMAT) m ms,
      sum_by-cons (λ (m : KeptSession). most_session extra 512 + 136704 * (if m.window == 2048 then 1 else 0)) m ms,
    )
  where
    by : (m.window ≡ 512) ⊎ (m.window ≡ 2048) → most_session extra m.window ≤ most_session extra 512 + 136704 * (if m.window == 2048 then 1 else 0)
    by (inl narrow) = rw narrow (omega arith)
    by (inr wide) = rw wide (omega arith)

sum_within : (extra : ℕ) (ms : List KeptSession) → length ms ≤ 4096 →
    (most : ℕ) → length ms ≤ most →
    sum_by (λ (m : KeptSession). most_session extra 512 + 136704 * (if m.window == 2048 then 1 else 0)) ms ≤ most * most_session extra 512 + 136704 * wide_ones ms
sum_within extra [] few most le = omega arith
sum_within extra (m ∷ ms) few zero le = absurd (omega arith)
sum_within extra (m ∷ ms) few (suc most) le =
    let rest : sum_by (λ (m : KeptSession). most_session extra 512 + 136704 * (if m.window == 2048 then 1 else 0)) ms ≤ most * most_session extra 512 + 136704 * wide_ones ms =
    sum_within extra ms (omega arith) most (omega arith) in
    let step : suc most * most_session extra 512 ≡ most * most_session extra 512 + most_session extra 512 = suc-mul most (most_session extra 512) in
    omega (
      arith,
      sum_by-cons (λ (m : KeptSession). most_session extra 512 + 136704 * (if m.window == 2048 then 1 else 0)) m ms,
      sum_by-cons (λ (m : KeptSession). if m.window == 2048 then 1 else 0) m ms,
    )

pub snapshot_within : (extra shards workers worker : ℕ) (s : KeptSessions) → AreBounded extra s →
    snapshot_size (snapshot_to_write shards workers worker s) ≤ most_snapshot extra
snapshot_within extra shards workers worker s b =
    let l = list_within extra s.list b.windows b.each in
    let m = sum_within extra s.list b.count 4096 b.count in
    let w = b.wide in
    let c = b.count in
    omega arith

-- ---- of the spellings

pub session_long : (extra : ℕ) (m : KeptSession) → IsBounded extra m → length (spelled_session SECOND_FORMAT m) ≤ most_session extra m.window
session_long extra m b = let s = session_sized SECOND_FORMAT m in let w = session_within extra m b in omega arith

pub session_long_by : (m : KeptSession) (window most : ℕ) → IsBounded 0 m → m.window ≡ window → most ≡ 85840 + 89 * window →
    length (spelled_session SECOND_FORMAT m) ≤ most
session_long_by m window most b is e = let s = session_long 0 m b in omega arith

pub snapshot_long : (extra shards workers worker : ℕ) (s : KeptSessions) → AreBounded extra s →
    length (spelled_snapshot (snapshot_to_write shards workers worker s)) ≤ most_snapshot extra
snapshot_long extra shards workers worker s b =
    let n = snapshot_sized (snapshot_to_write shards workers worker s) in let w = snapshot_within extra shards workers worker s b in omega arith
