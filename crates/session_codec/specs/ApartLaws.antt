-- When sessions may be those of a worker, by the list alone: their clients differ, their numbers ascend below the next one, and the limits hold.
use Rattle.std.proofs.Common.{◌≡◌, ℕ, ◌+◌, Bool, true, false, not, ◌&&◌, if◌then◌else◌, nat_lt, List, [], ◌∷◌, ◌++◌, length, map, filter, find, bytes_eq, Some, is_none, refl, sym, ap, ◌∙◌, append_assoc, append-nil, length-append, arith}
use Rattle.std.specs.List.{list_all}
use Rattle.std.proofs.lemmas.Bool.{and_parts, and_from}
use Rattle.std.proofs.lemmas.List.Folds.{list_all-append}
use Rattle.std.proofs.lemmas.List.Elements.{filter-append}
use Rattle.topic_model.specs.Profile.{whole}
use Rattle.session_state.specs.KeptSession.{KeptSession, KeptSessions, session_of}
use Rattle.session_state.specs.KeptFits.{is_wide, kept_are_within, kept_within, wide_count}
use Rattle.session_state.specs.WorkerLaws.{parts_within, within_parts}
use Rattle.session_state.specs.SoundTest.{may_add}
use Rattle.session_codec.specs.Soundness.{may_add_all, sessions_with, are_sound}

-- one session is of another client than an earlier one, and has a greater number
abbrev pub is_behind : KeptSession → KeptSession → Bool
is_behind earlier later = not (bytes_eq earlier.client later.client) && nat_lt earlier.incarnation later.incarnation

-- it is behind each of these
abbrev pub is_behind_all : List KeptSession → KeptSession → Bool
is_behind_all earlier later = list_all (λ (e : KeptSession). is_behind e later) earlier

-- each is behind those before it
abbrev pub are_apart : List KeptSession → Bool
are_apart [] = true
are_apart (m ∷ ms) = list_all (is_behind m) ms && are_apart ms

-- the number of each lies below one
abbrev pub are_below : ℕ → List KeptSession → Bool
are_below next ms = list_all (λ (m : KeptSession). nat_lt m.incarnation next) ms

pub record AreApart (s : KeptSessions) : Type 0 where
  pub apart : are_apart s.list ≡ true
  pub below : are_below s.next s.list ≡ true
  pub within : kept_are_within whole s ≡ true

-- ---- one session

pub behind_from : (ms : List KeptSession) (m : KeptSession) → is_none (find (λ (x : KeptSession). bytes_eq x.client m.client) ms) ≡ true →
    list_all (λ (x : KeptSession). nat_lt x.incarnation m.incarnation) ms ≡ true → is_behind_all ms m ≡ true
behind_from [] m none less = refl
behind_from (x ∷ ms) m none less =
    let parts = and_parts (nat_lt x.incarnation m.incarnation) (list_all (λ (x : KeptSession). nat_lt x.incarnation m.incarnation) ms) less in
    by (bytes_eq x.client m.client) none (λ n. behind_from ms m n parts.1) parts.0
  where
    by : (b : Bool) → is_none (if b then Some x else find (λ (x : KeptSession). bytes_eq x.client m.client) ms) ≡ true →
        (is_none (find (λ (x : KeptSession). bytes_eq x.client m.client) ms) ≡ true → is_behind_all ms m ≡ true) →
        nat_lt x.incarnation m.incarnation ≡ true → ((not b && nat_lt x.incarnation m.incarnation) && is_behind_all ms m) ≡ true
    by true none rest less = absurd cc
    by false none rest less = and_from (nat_lt x.incarnation m.incarnation) (is_behind_all ms m) less (rest none)

record IsNew (m : KeptSession) (ms : List KeptSession) : Type 0 where
  none : is_none (find (λ (x : KeptSession). bytes_eq x.client m.client) ms) ≡ true
  less : list_all (λ (x : KeptSession). nat_lt x.incarnation m.incarnation) ms ≡ true

new_from : (ms : List KeptSession) (m : KeptSession) → is_behind_all ms m ≡ true → IsNew m ms
new_from [] m behind = record { none = refl; less = refl }
new_from (x ∷ ms) m behind =
    let parts = and_parts (is_behind x m) (is_behind_all ms m) behind in
    let own = and_parts (not (bytes_eq x.client m.client)) (nat_lt x.incarnation m.incarnation) parts.0 in
    let rest = new_from ms m parts.1 in
    record {
      none = by (bytes_eq x.client m.client) own.0 rest.none;
      less = and_from (nat_lt x.incarnation m.incarnation) (list_all (λ (x : KeptSession). nat_lt x.incarnation m.incarnation) ms) own.1 rest.less;
    }
  where
    by : (b : Bool) → not b ≡ true → is_none (find (λ (x : KeptSession). bytes_eq x.client m.client) ms) ≡ true →
        is_none (if b then Some x else find (λ (x : KeptSession). bytes_eq x.client m.client) ms) ≡ true
    by true other none = absurd cc
    by false other none = none

-- ---- several

-- each of some is behind each of others
abbrev all_behind : List KeptSession → List KeptSession → Bool
all_behind earlier later = list_all (is_behind_all earlier) later

record Split (xs : List KeptSession) (m : KeptSession) (ms : List KeptSession) : Type 0 where
  others : all_behind xs ms ≡ true
  own : list_all (is_behind m) ms ≡ true

behind_split : (xs : List KeptSession) (m : KeptSession) (ms : List KeptSession) → all_behind (xs ++ m ∷ []) ms ≡ true → Split xs m ms
behind_split xs m [] h = record { others = refl; own = refl }
behind_split xs m (x ∷ ms) h =
    let p = and_parts (is_behind_all (xs ++ m ∷ []) x) (all_behind (xs ++ m ∷ []) ms) h in
    let q = and_parts (is_behind_all xs x) (is_behind m x && true) (sym (list_all-append (λ (e : KeptSession). is_behind e x) xs (m ∷ [])) ∙ p.0) in
    let one = and_parts (is_behind m x) true q.1 in
    let rest = behind_split xs m ms p.1 in
    record {
      others = and_from (is_behind_all xs x) (all_behind xs ms) q.0 rest.others;
      own = and_from (is_behind m x) (list_all (is_behind m) ms) one.0 rest.own;
    }

behind_both : (xs : List KeptSession) (m : KeptSession) (ms : List KeptSession) → all_behind xs ms ≡ true → list_all (is_behind m) ms ≡ true →
    all_behind (xs ++ m ∷ []) ms ≡ true
behind_both xs m [] others own = refl
behind_both xs m (x ∷ ms) others own =
    let p = and_parts (is_behind_all xs x) (all_behind xs ms) others in
    let q = and_parts (is_behind m x) (list_all (is_behind m) ms) own in
    and_from (is_behind_all (xs ++ m ∷ []) x) (all_behind (xs ++ m ∷ []) ms)
    (list_all-append (λ (e : KeptSession). is_behind e x) xs (m ∷ []) ∙ and_from (is_behind_all xs x) (is_behind m x && true) p.0 (and_from (is_behind m x) true q.0 refl))
    (behind_both xs m ms p.1 q.1)

record Told (s : KeptSessions) (ms : List KeptSession) : Type 0 where
  apart : are_apart ms ≡ true
  behind : all_behind s.list ms ≡ true
  below : are_below s.next ms ≡ true

told : (s : KeptSessions) (ms : List KeptSession) → may_add_all s ms ≡ true → Told s ms
told s [] h = record { apart = refl; behind = refl; below = refl }
told s (m ∷ ms) h =
    let less = list_all (λ (x : KeptSession). nat_lt x.incarnation m.incarnation) s.list in
    let within = kept_are_within whole (record s { list = s.list ++ m ∷ [] }) in
    let p = and_parts (may_add m s) (may_add_all (record s { list = s.list ++ m ∷ [] }) ms) h in
    let q = and_parts (is_none (session_of m.client s)) (less && (nat_lt m.incarnation s.next && within)) p.0 in
    let r = and_parts less (nat_lt m.incarnation s.next && within) q.1 in
    let t = and_parts (nat_lt m.incarnation s.next) within r.1 in
    let rest = told (record s { list = s.list ++ m ∷ [] }) ms p.1 in
    let split = behind_split s.list m ms rest.behind in
    record {
      apart = and_from (list_all (is_behind m) ms) (are_apart ms) split.own rest.apart;
      behind = and_from (is_behind_all s.list m) (all_behind s.list ms) (behind_from s.list m q.0 r.0) split.others;
      below = and_from (nat_lt m.incarnation s.next) (are_below s.next ms) t.0 rest.below;
    }

-- the first of a list within the limits are within them
front_within : (next : ℕ) (xs ys : List KeptSession) → kept_are_within whole (sessions_with next (xs ++ ys)) ≡ true → kept_are_within whole (sessions_with next xs) ≡ true
front_within next xs ys h =
    let w = parts_within (sessions_with next (xs ++ ys)) h in
    let count = w.count in
    let wide = w.wide in
    let long : length (xs ++ ys) ≡ length xs + length ys = length-append xs ys in
    let wides : wide_count whole (xs ++ ys) ≡ wide_count whole xs + wide_count whole ys =
    ap length (filter-append (is_wide whole) xs ys) ∙ length-append (filter (is_wide whole) xs) (filter (is_wide whole) ys) in
    let all = and_parts (list_all (kept_within whole) xs) (list_all (kept_within whole) ys) (sym (list_all-append (kept_within whole) xs ys) ∙ w.all) in
    within_parts (sessions_with next xs) (record { count = omega arith; wide = omega arith; all = all.0 })

may_from : (s : KeptSessions) (ms : List KeptSession) → Told s ms → kept_are_within whole (record s { list = s.list ++ ms }) ≡ true → may_add_all s ms ≡ true
may_from s [] t w = refl
may_from s (m ∷ ms) t w =
    let less = list_all (λ (x : KeptSession). nat_lt x.incarnation m.incarnation) s.list in
    let within = kept_are_within whole (record s { list = s.list ++ m ∷ [] }) in
    let a = and_parts (list_all (is_behind m) ms) (are_apart ms) t.apart in
    let b = and_parts (is_behind_all s.list m) (all_behind s.list ms) t.behind in
    let c = and_parts (nat_lt m.incarnation s.next) (are_below s.next ms) t.below in
    let new = new_from s.list m b.0 in
    let all : kept_are_within whole (sessions_with s.next ((s.list ++ m ∷ []) ++ ms)) ≡ true =
    ap (λ l. kept_are_within whole (sessions_with s.next l)) (append_assoc s.list (m ∷ []) ms) ∙ w in
    and_from (may_add m s) (may_add_all (record s { list = s.list ++ m ∷ [] }) ms)
    (and_from (is_none (session_of m.client s)) (less && (nat_lt m.incarnation s.next && within)) new.none
    (and_from less (nat_lt m.incarnation s.next && within) new.less
    (and_from (nat_lt m.incarnation s.next) within c.0 (front_within s.next (s.list ++ m ∷ []) ms all))))
    (may_from (record s { list = s.list ++ m ∷ [] }) ms (record { apart = a.1; behind = behind_both s.list m ms b.1 a.0; below = c.1 }) all)

-- ---- the test of the sessions of a worker tells this and no more

pub added_within : (s : KeptSessions) (ms : List KeptSession) → kept_are_within whole s ≡ true → may_add_all s ms ≡ true →
    kept_are_within whole (record s { list = s.list ++ ms }) ≡ true
added_within s [] h e = ap (λ l. kept_are_within whole (record s { list = l })) (append-nil s.list) ∙ h
added_within s (m ∷ ms) h e =
    let less = list_all (λ (x : KeptSession). nat_lt x.incarnation m.incarnation) s.list in
    let within = kept_are_within whole (record s { list = s.list ++ m ∷ [] }) in
    let p = and_parts (may_add m s) (may_add_all (record s { list = s.list ++ m ∷ [] }) ms) e in
    let a = and_parts (is_none (session_of m.client s)) (less && (nat_lt m.incarnation s.next && within)) p.0 in
    let b = and_parts less (nat_lt m.incarnation s.next && within) a.1 in
    let c = and_parts (nat_lt m.incarnation s.next) within b.1 in
    let rest = added_within (record s { list = s.list ++ m ∷ [] }) ms c.1 p.1 in
    ap (λ l. kept_are_within whole (record s { list = l })) (sym (append_assoc s.list (m ∷ []) ms)) ∙ rest

none_behind : (ms : List KeptSession) → all_behind [] ms ≡ true
none_behind [] = refl
none_behind (m ∷ ms) = none_behind ms

pub apart_from_sound : (s : KeptSessions) → are_sound s ≡ true → AreApart s
apart_from_sound s sound =
    let t = told (sessions_with s.next []) s.list sound in
    record { apart = t.apart; below = t.below; within = added_within (sessions_with s.next []) s.list refl sound }

pub sound_from_apart : (s : KeptSessions) → AreApart s → are_sound s ≡ true
sound_from_apart s a =
    may_from (sessions_with s.next []) s.list (record { apart = a.apart; behind = none_behind s.list; below = a.below }) a.within

-- ---- what changes make of it

-- those that are left are apart
pub all_of_fewer : {X : Type 0} (test keeps : X → Bool) (xs : List X) → list_all test xs ≡ true → list_all test (filter keeps xs) ≡ true
all_of_fewer test keeps [] all = refl
all_of_fewer test keeps (x ∷ xs) all =
    let parts = and_parts (test x) (list_all test xs) all in by (keeps x) parts.0 (all_of_fewer test keeps xs parts.1)
  where
    by : (k : Bool) → test x ≡ true → list_all test (filter keeps xs) ≡ true → list_all test (if k then x ∷ filter keeps xs else filter keeps xs) ≡ true
    by true passes rest = and_from (test x) (list_all test (filter keeps xs)) passes rest
    by false passes rest = rest

pub fewer_apart : (keeps : KeptSession → Bool) (ms : List KeptSession) → are_apart ms ≡ true → are_apart (filter keeps ms) ≡ true
fewer_apart keeps [] h = refl
fewer_apart keeps (m ∷ ms) h =
    let p = and_parts (list_all (is_behind m) ms) (are_apart ms) h in by (keeps m) (all_of_fewer (is_behind m) keeps ms p.0) (fewer_apart keeps ms p.1)
  where
    by : (k : Bool) → list_all (is_behind m) (filter keeps ms) ≡ true → are_apart (filter keeps ms) ≡ true →
        are_apart (if k then m ∷ filter keeps ms else filter keeps ms) ≡ true
    by true own rest = and_from (list_all (is_behind m) (filter keeps ms)) (are_apart (filter keeps ms)) own rest
    by false own rest = rest

-- a change that leaves client and number
pub record Stays (f : KeptSession → KeptSession) : Type 0 where
  pub client : (m : KeptSession) → (f m).client ≡ m.client
  pub number : (m : KeptSession) → (f m).incarnation ≡ m.incarnation

same_behind : (f : KeptSession → KeptSession) → Stays f → (m x : KeptSession) → is_behind (f m) (f x) ≡ is_behind m x
same_behind f h m x =
    ap (λ c. not (bytes_eq c (f x).client) && nat_lt (f m).incarnation (f x).incarnation) (h.client m)
    ∙ ap (λ c. not (bytes_eq m.client c) && nat_lt (f m).incarnation (f x).incarnation) (h.client x)
    ∙ ap (λ n. not (bytes_eq m.client x.client) && nat_lt n (f x).incarnation) (h.number m)
    ∙ ap (λ n. not (bytes_eq m.client x.client) && nat_lt m.incarnation n) (h.number x)

same_all_behind : (f : KeptSession → KeptSession) → Stays f → (m : KeptSession) (ms : List KeptSession) → list_all (is_behind (f m)) (map f ms) ≡ list_all (is_behind m) ms
same_all_behind f h m [] = refl
same_all_behind f h m (x ∷ ms) =
    ap (λ b. b && list_all (is_behind (f m)) (map f ms)) (same_behind f h m x) ∙ ap (λ b. is_behind m x && b) (same_all_behind f h m ms)

pub same_apart : (f : KeptSession → KeptSession) → Stays f → (ms : List KeptSession) → are_apart (map f ms) ≡ are_apart ms
same_apart f h [] = refl
same_apart f h (m ∷ ms) =
    ap (λ b. b && are_apart (map f ms)) (same_all_behind f h m ms) ∙ ap (λ b. list_all (is_behind m) ms && b) (same_apart f h ms)

pub same_below : (next : ℕ) (f : KeptSession → KeptSession) → Stays f → (ms : List KeptSession) → are_below next (map f ms) ≡ are_below next ms
same_below next f h [] = refl
same_below next f h (m ∷ ms) =
    ap (λ n. nat_lt n next && are_below next (map f ms)) (h.number m) ∙ ap (λ b. nat_lt m.incarnation next && b) (same_below next f h ms)

-- one more, behind all
pub more_apart : (ms : List KeptSession) (m : KeptSession) → are_apart ms ≡ true → is_behind_all ms m ≡ true → are_apart (ms ++ m ∷ []) ≡ true
more_apart [] m h behind = refl
more_apart (x ∷ ms) m h behind =
    let p = and_parts (list_all (is_behind x) ms) (are_apart ms) h in
    let q = and_parts (is_behind x m) (is_behind_all ms m) behind in
    and_from (list_all (is_behind x) (ms ++ m ∷ [])) (are_apart (ms ++ m ∷ []))
    (list_all-append (is_behind x) ms (m ∷ []) ∙ and_from (list_all (is_behind x) ms) (is_behind x m && true) p.0 (and_from (is_behind x m) true q.0 refl))
    (more_apart ms m p.1 q.1)
