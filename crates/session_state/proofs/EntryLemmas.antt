-- Sessions as entries of a map by client.
use Rattle.std.proofs.Common.{◌≡◌, ℕ, suc, Bool, true, false, not, ◌&&◌, ◌==◌, if◌then◌else◌, nat_le, length, List, [], ◌∷◌, ◌++◌, filter, Option, Some, None, find, bytes_eq, IsNone, rules, Result, Ok, Err, OnErr, refl, sym, ap, subst, ◌∙◌}
use Rattle.std.specs.Cmp.Lexicographic.{nat_list_eq_equiv}
use Rattle.std.specs.List.{IsDistinct, AllByRecursion, list_all}
use Rattle.std.proofs.Math.Bool.{and-true}
use Rattle.std.proofs.lemmas.Bool.{and_parts}
use Rattle.std.specs.Map.{lookup, keys_of, set_value, remove_entry}
use Rattle.std.proofs.lemmas.Map.Keys.{IsDistinct-head, IsDistinct-tail}
use Rattle.std.proofs.lemmas.Map.Steps.{set_value_same}  -- what a look-up found, written back, changes nothing
use Rattle.std.proofs.lemmas.Option.{none-some, same_Some}
use Rattle.std.proofs.lemmas.Slice.Eq.{bytes_eq-Decides}
use Rattle.topic_model.specs.Profile.{whole}
use Rattle.session_model.specs.Acting.{changed_if}
use Rattle.session_state.specs.declared.change.Effect.{Effect}
use Rattle.session_state.specs.declared.change.Effect.TheVariants.{Began, Ended, Bound, Parted, Subscribed, Replaced, Unsubscribed, Issued, Acked, Received, Done, Passed}
use Rattle.session_state.specs.KeptSession.{KeptSession, KeptSessions, sessions_in, AreKeyed}
use Rattle.session_state.specs.KeptActing.{acted_on, change_of, is_of_held, kept_changed, on_session, without_session}
use Rattle.session_state.specs.KeptFits.{held_fits, is_wide, kept_are_within, kept_finds, kept_fits, kept_suits, kept_within, wide_count}
use Rattle.session_state.specs.WorkerLaws.{acted_held, none_begins}

-- what holds anyway holds on want of memory
pub on_err : {T E P : Type 0} (r : Result T E) → P → OnErr r P
on_err (Ok x) p = tt
on_err (Err e) p = p

abbrev Entry : Type 0
Entry = List ℕ × KeptSession

-- a session under its client is asked for either way round
flip : (client : List ℕ) (e : Entry) → e.0 ≡ e.1.client → bytes_eq e.1.client client ≡ bytes_eq client e.0
flip client e keyed = ap (λ c. bytes_eq c client) (sym keyed) ∙ nat_list_eq_equiv.symm e.0 client

-- a look-up by the client finds its session
pub lookup_of : (client : List ℕ) (entries : List Entry) → AreKeyed entries →
    lookup (bytes_eq client) entries ≡ find (λ (m : KeptSession). bytes_eq m.client client) (sessions_in entries)
lookup_of client [] keyed = refl
lookup_of client (e ∷ entries) keyed =
    ap (λ b. if b then Some e.1 else lookup (bytes_eq client) entries) (sym (flip client e keyed.0))
    ∙ ap (λ r. if bytes_eq e.1.client client then Some e.1 else r) (lookup_of client entries keyed.1)

-- ---- where the client has no session

abbrev pub AreOthers : List ℕ → List Entry → Type 0
AreOthers client entries = AllByRecursion (λ (key : List ℕ). bytes_eq client key ≡ false) (keys_of entries)

pub others_on : (client : List ℕ) (f : KeptSession → KeptSession) (entries : List Entry) → AreKeyed entries → AreOthers client entries →
    on_session client f (sessions_in entries) ≡ sessions_in entries
others_on client f [] keyed others = refl
others_on client f (e ∷ entries) keyed others =
    ap (λ b. changed_if b f e.1 ∷ on_session client f (sessions_in entries)) (flip client e keyed.0 ∙ others.0)
    ∙ ap (λ l. e.1 ∷ l) (others_on client f entries keyed.1 others.1)

pub others_without : (client : List ℕ) (entries : List Entry) → AreKeyed entries → AreOthers client entries →
    without_session client (sessions_in entries) ≡ sessions_in entries
others_without client [] keyed others = refl
others_without client (e ∷ entries) keyed others =
    ap (λ b. if not b then e.1 ∷ without_session client (sessions_in entries) else without_session client (sessions_in entries)) (flip client e keyed.0 ∙ others.0)
    ∙ ap (λ l. e.1 ∷ l) (others_without client entries keyed.1 others.1)

pub others_from_none : (client : List ℕ) (entries : List Entry) → lookup (bytes_eq client) entries ≡ None → AreOthers client entries
others_from_none client [] none = tt
others_from_none client (e ∷ entries) none = by (bytes_eq client e.0) refl none (others_from_none client entries)
  where
    by : (b : Bool) → bytes_eq client e.0 ≡ b → (if b then Some e.1 else lookup (bytes_eq client) entries) ≡ None →
        (lookup (bytes_eq client) entries ≡ None → AreOthers client entries) → AreOthers client (e ∷ entries)
    by true is none rest = absurd (none-some e.1 (sym none))
    by false is none rest = (is, rest none)

others_behind : (client : List ℕ) (e : Entry) (entries : List Entry) → IsDistinct bytes_eq (keys_of (e ∷ entries)) → bytes_eq client e.0 ≡ true → AreOthers client entries
others_behind client e entries distinct is =
    subst (λ c. AreOthers c entries) (sym ((bytes_eq-Decides client e.0).0 is)) (IsDistinct-head bytes_eq e.0 (keys_of entries) distinct)

-- ---- where it has one

-- its session is written, and no other
pub written_on : (client : List ℕ) (f : KeptSession → KeptSession) (entries : List Entry) (m : KeptSession) → AreKeyed entries → IsDistinct bytes_eq (keys_of entries) →
    lookup (bytes_eq client) entries ≡ Some m → sessions_in (set_value (bytes_eq client) entries (f m)) ≡ on_session client f (sessions_in entries)
written_on client f [] m keyed distinct found = absurd (none-some m found)
written_on client f (e ∷ entries) m keyed distinct found =
    by (bytes_eq client e.0) refl found (written_on client f entries m keyed.1 (IsDistinct-tail bytes_eq e.0 (keys_of entries) distinct))
  where
    by : (b : Bool) → bytes_eq client e.0 ≡ b → (if b then Some e.1 else lookup (bytes_eq client) entries) ≡ Some m →
        (lookup (bytes_eq client) entries ≡ Some m → sessions_in (set_value (bytes_eq client) entries (f m)) ≡ on_session client f (sessions_in entries)) →
        sessions_in (if b then (e.0, f m) ∷ entries else e ∷ set_value (bytes_eq client) entries (f m))
        ≡ changed_if (bytes_eq e.1.client client) f e.1 ∷ on_session client f (sessions_in entries)
    by true is found rest =
        ap (λ (s : KeptSession). f s ∷ sessions_in entries) (sym (same_Some e.1 m found))
        ∙ ap (λ l. f e.1 ∷ l) (sym (others_on client f entries keyed.1 (others_behind client e entries distinct is)))
        ∙ ap (λ b. changed_if b f e.1 ∷ on_session client f (sessions_in entries)) (sym (flip client e keyed.0 ∙ is))
    by false is found rest =
        ap (λ l. e.1 ∷ l) (rest found)
        ∙ ap (λ b. changed_if b f e.1 ∷ on_session client f (sessions_in entries)) (sym (flip client e keyed.0 ∙ is))

pub removed_without : (client : List ℕ) (entries : List Entry) → AreKeyed entries → IsDistinct bytes_eq (keys_of entries) →
    sessions_in (remove_entry (bytes_eq client) entries) ≡ without_session client (sessions_in entries)
removed_without client [] keyed distinct = refl
removed_without client (e ∷ entries) keyed distinct =
    by (bytes_eq client e.0) refl (removed_without client entries keyed.1 (IsDistinct-tail bytes_eq e.0 (keys_of entries) distinct))
  where
    by : (b : Bool) → bytes_eq client e.0 ≡ b → sessions_in (remove_entry (bytes_eq client) entries) ≡ without_session client (sessions_in entries) →
        sessions_in (if b then entries else e ∷ remove_entry (bytes_eq client) entries)
        ≡ (if not (bytes_eq e.1.client client) then e.1 ∷ without_session client (sessions_in entries) else without_session client (sessions_in entries))
    by true is rest =
        sym (others_without client entries keyed.1 (others_behind client e entries distinct is))
        ∙ ap (λ b. if not b then e.1 ∷ without_session client (sessions_in entries) else without_session client (sessions_in entries)) (sym (flip client e keyed.0 ∙ is))
    by false is rest =
        ap (λ l. e.1 ∷ l) rest
        ∙ ap (λ b. if not b then e.1 ∷ without_session client (sessions_in entries) else without_session client (sessions_in entries)) (sym (flip client e keyed.0 ∙ is))

-- ---- sessions stay under their clients

pub keyed_written : (client : List ℕ) (entries : List Entry) (m new : KeptSession) → AreKeyed entries → lookup (bytes_eq client) entries ≡ Some m → new.client ≡ m.client →
    AreKeyed (set_value (bytes_eq client) entries new)
keyed_written client [] m new keyed found same = tt
keyed_written client (e ∷ entries) m new keyed found same = by (bytes_eq client e.0) found (λ later. keyed_written client entries m new keyed.1 later same)
  where
    by : (b : Bool) → (if b then Some e.1 else lookup (bytes_eq client) entries) ≡ Some m →
        (lookup (bytes_eq client) entries ≡ Some m → AreKeyed (set_value (bytes_eq client) entries new)) →
        AreKeyed (if b then (e.0, new) ∷ entries else e ∷ set_value (bytes_eq client) entries new)
    by true found rest = (keyed.0 ∙ ap (λ (s : KeptSession). s.client) (same_Some e.1 m found) ∙ sym same, keyed.1)
    by false found rest = (keyed.0, rest found)

pub keyed_removed : (client : List ℕ) (entries : List Entry) → AreKeyed entries → AreKeyed (remove_entry (bytes_eq client) entries)
keyed_removed client [] keyed = tt
keyed_removed client (e ∷ entries) keyed = by (bytes_eq client e.0) (keyed_removed client entries keyed.1)
  where
    by : (b : Bool) → AreKeyed (remove_entry (bytes_eq client) entries) → AreKeyed (if b then entries else e ∷ remove_entry (bytes_eq client) entries)
    by true rest = keyed.1
    by false rest = (keyed.0, rest)

pub keyed_more : (entries : List Entry) (key : List ℕ) (m : KeptSession) → AreKeyed entries → key ≡ m.client → AreKeyed (entries ++ (key, m) ∷ [])
keyed_more [] key m keyed same = (same, tt)
keyed_more (e ∷ entries) key m keyed same = (keyed.0, keyed_more entries key m keyed.1 same)

-- ---- a change of the client's session

pub keeps_client : (effect : Effect) (m : KeptSession) → (kept_changed effect m).client ≡ m.client
keeps_client (Began b) m = refl
keeps_client Ended m = refl
keeps_client (Bound expiry) m = refl
keeps_client (Parted p) m = refl
keeps_client (Subscribed s) m = refl
keeps_client (Replaced r) m = refl
keeps_client (Unsubscribed number) m = refl
keeps_client (Issued i) m = refl
keeps_client (Acked number) m = refl
keeps_client (Received number) m = refl
keeps_client (Done number) m = refl
keeps_client (Passed p) m = refl

pub same_client : (effect : Effect) (m new : KeptSession) (fits : Bool) → new ≡ (if fits then kept_changed effect m else m) → new.client ≡ m.client
same_client effect m new true is = ap (λ (s : KeptSession). s.client) is ∙ keeps_client effect m
same_client effect m new false is = ap (λ (s : KeptSession). s.client) is

pub change_made : (client : List ℕ) (effect : Effect) (entries lent : List Entry) (m new : KeptSession) (fits : Bool) →
    AreKeyed entries → IsDistinct bytes_eq (keys_of entries) → lookup (bytes_eq client) entries ≡ Some m → lent ≡ set_value (bytes_eq client) entries new →
    new ≡ (if fits then kept_changed effect m else m) →
    sessions_in lent ≡ (if fits then on_session client (kept_changed effect) (sessions_in entries) else sessions_in entries)
change_made client effect entries lent m new true keyed distinct found written is =
    ap sessions_in (written ∙ ap (set_value (bytes_eq client) entries) is) ∙ written_on client (kept_changed effect) entries m keyed distinct found
change_made client effect entries lent m new false keyed distinct found written is =
    ap sessions_in (written ∙ ap (set_value (bytes_eq client) entries) is ∙ set_value_same (bytes_eq client) entries m found)

-- whether it fits is asked of the session that was found
pub fits_found : (effect : Effect) (client : List ℕ) (entries : List Entry) (found : Option KeptSession) → AreKeyed entries → found ≡ lookup (bytes_eq client) entries →
    held_fits whole effect found ≡ held_fits whole effect (find (λ (m : KeptSession). bytes_eq m.client client) (sessions_in entries))
fits_found effect client entries found keyed is = ap (held_fits whole effect) (is ∙ lookup_of client entries keyed)

-- ---- whether a change of a held session fits

all_written : (test : KeptSession → Bool) (client : List ℕ) (entries : List Entry) (m new : KeptSession) → list_all test (sessions_in entries) ≡ true →
    lookup (bytes_eq client) entries ≡ Some m → list_all test (sessions_in (set_value (bytes_eq client) entries new)) ≡ test new
all_written test client [] m new all found = absurd (none-some m found)
all_written test client (e ∷ entries) m new all found =
    let parts = and_parts (test e.1) (list_all test (sessions_in entries)) all in
    by (bytes_eq client e.0) found parts.0 parts.1 (all_written test client entries m new parts.1)
  where
    by : (b : Bool) → (if b then Some e.1 else lookup (bytes_eq client) entries) ≡ Some m → test e.1 ≡ true → list_all test (sessions_in entries) ≡ true →
        (lookup (bytes_eq client) entries ≡ Some m → list_all test (sessions_in (set_value (bytes_eq client) entries new)) ≡ test new) →
        list_all test (sessions_in (if b then (e.0, new) ∷ entries else e ∷ set_value (bytes_eq client) entries new)) ≡ test new
    by true found first others rest = ap (λ a. test new && a) others ∙ and-true (test new)
    by false found first others rest = ap (λ a. a && list_all test (sessions_in (set_value (bytes_eq client) entries new))) first ∙ rest found

length_written : (client : List ℕ) (entries : List Entry) (new : KeptSession) → length (sessions_in (set_value (bytes_eq client) entries new)) ≡ length (sessions_in entries)
length_written client [] new = refl
length_written client (e ∷ entries) new = by (bytes_eq client e.0) (length_written client entries new)
  where
    by : (b : Bool) → length (sessions_in (set_value (bytes_eq client) entries new)) ≡ length (sessions_in entries) →
        length (sessions_in (if b then (e.0, new) ∷ entries else e ∷ set_value (bytes_eq client) entries new)) ≡ suc (length (sessions_in entries))
    by true rest = refl
    by false rest = ap suc rest

wide_written : (client : List ℕ) (entries : List Entry) (m new : KeptSession) → lookup (bytes_eq client) entries ≡ Some m → new.window ≡ m.window →
    wide_count whole (sessions_in (set_value (bytes_eq client) entries new)) ≡ wide_count whole (sessions_in entries)
wide_written client [] m new found same = absurd (none-some m found)
wide_written client (e ∷ entries) m new found same = by (bytes_eq client e.0) found (λ later. wide_written client entries m new later same)
  where
    alike : (b : Bool) (s t : KeptSession) (ms : List KeptSession) →
        length (if b then s ∷ filter (is_wide whole) ms else filter (is_wide whole) ms) ≡ length (if b then t ∷ filter (is_wide whole) ms else filter (is_wide whole) ms)
    alike true s t ms = refl
    alike false s t ms = refl

    more : (b : Bool) (s : KeptSession) (ms others : List KeptSession) → wide_count whole ms ≡ wide_count whole others →
        length (if b then s ∷ filter (is_wide whole) ms else filter (is_wide whole) ms) ≡ length (if b then s ∷ filter (is_wide whole) others else filter (is_wide whole) others)
    more true s ms others same = ap suc same
    more false s ms others same = same

    by : (b : Bool) → (if b then Some e.1 else lookup (bytes_eq client) entries) ≡ Some m →
        (lookup (bytes_eq client) entries ≡ Some m → wide_count whole (sessions_in (set_value (bytes_eq client) entries new)) ≡ wide_count whole (sessions_in entries)) →
        wide_count whole (sessions_in (if b then (e.0, new) ∷ entries else e ∷ set_value (bytes_eq client) entries new))
        ≡ length (if is_wide whole e.1 then e.1 ∷ filter (is_wide whole) (sessions_in entries) else filter (is_wide whole) (sessions_in entries))
    by true found rest =
        ap (λ w. length (if w == 2048 then new ∷ filter (is_wide whole) (sessions_in entries) else filter (is_wide whole) (sessions_in entries)))
        (same ∙ sym (ap (λ (s : KeptSession). s.window) (same_Some e.1 m found)))
        ∙ alike (is_wide whole e.1) new e.1 (sessions_in entries)
    by false found rest = more (is_wide whole e.1) e.1 (sessions_in (set_value (bytes_eq client) entries new)) (sessions_in entries) (rest found)

pub keeps_window : (effect : Effect) (m : KeptSession) → (kept_changed effect m).window ≡ m.window
keeps_window (Began b) m = refl
keeps_window Ended m = refl
keeps_window (Bound expiry) m = refl
keeps_window (Parted p) m = refl
keeps_window (Subscribed s) m = refl
keeps_window (Replaced r) m = refl
keeps_window (Unsubscribed number) m = refl
keeps_window (Issued i) m = refl
keeps_window (Acked number) m = refl
keeps_window (Received number) m = refl
keeps_window (Done number) m = refl
keeps_window (Passed p) m = refl

-- the limits hold afterwards exactly where they do of the session that changes
within_written : (client : List ℕ) (effect : Effect) (entries : List Entry) (next : ℕ) (m : KeptSession) → AreKeyed entries → IsDistinct bytes_eq (keys_of entries) →
    kept_are_within whole (record { list = sessions_in entries; next = next }) ≡ true → lookup (bytes_eq client) entries ≡ Some m →
    kept_are_within whole (record { list = on_session client (kept_changed effect) (sessions_in entries); next = next }) ≡ kept_within whole (kept_changed effect m)
within_written client effect entries next m keyed distinct within found =
    let new = kept_changed effect m in
    let parts = and_parts (nat_le (length (sessions_in entries)) 4096) (nat_le (wide_count whole (sessions_in entries)) 256 && list_all (kept_within whole) (sessions_in entries)) within in
    let more = and_parts (nat_le (wide_count whole (sessions_in entries)) 256) (list_all (kept_within whole) (sessions_in entries)) parts.1 in
    let written = set_value (bytes_eq client) entries new in
    ap (λ l. kept_are_within whole (record { list = l; next = next })) (sym (written_on client (kept_changed effect) entries m keyed distinct found))
    ∙ ap (λ n. nat_le n 4096 && (nat_le (wide_count whole (sessions_in written)) 256 && list_all (kept_within whole) (sessions_in written))) (length_written client entries new)
    ∙ ap (λ a. a && (nat_le (wide_count whole (sessions_in written)) 256 && list_all (kept_within whole) (sessions_in written))) parts.0
    ∙ ap (λ n. nat_le n 256 && list_all (kept_within whole) (sessions_in written)) (wide_written client entries m new found (keeps_window effect m))
    ∙ ap (λ a. a && list_all (kept_within whole) (sessions_in written)) more.0
    ∙ all_written (kept_within whole) client entries m new more.1 found

pub fits_of_all : (client : List ℕ) (effect : Effect) (entries : List Entry) (next : ℕ) → AreKeyed entries → IsDistinct bytes_eq (keys_of entries) →
    kept_are_within whole (record { list = sessions_in entries; next = next }) ≡ true → is_of_held effect ≡ true →
    held_fits whole effect (find (λ (m : KeptSession). bytes_eq m.client client) (sessions_in entries))
    ≡ kept_fits whole (record { list = sessions_in entries; next = next }) (change_of client effect)
fits_of_all client effect entries next keyed distinct within held =
    let s : KeptSessions = record { list = sessions_in entries; next = next } in
    let e = lookup_of client entries keyed in
    ap (held_fits whole effect) (sym e) ∙ by (lookup (bytes_eq client) entries) refl
    ∙ ap (λ o. kept_finds s effect o && kept_are_within whole (acted_on client effect s)) e
  where
    by : (found : Option KeptSession) → lookup (bytes_eq client) entries ≡ found →
        held_fits whole effect found
        ≡ (kept_finds (record { list = sessions_in entries; next = next }) effect found
        && kept_are_within whole (acted_on client effect (record { list = sessions_in entries; next = next })))
    by None is =
        sym (ap (λ b. b && kept_are_within whole (acted_on client effect (record { list = sessions_in entries; next = next })))
        (none_begins effect (record { list = sessions_in entries; next = next }) held))
    by (Some m) is =
        ap (λ b. kept_suits m effect && b)
        (sym (within_written client effect entries next m keyed distinct within is)
        ∙ ap (kept_are_within whole) (sym (acted_held client effect (record { list = sessions_in entries; next = next }) held)))

pub is_none_is : {X : Type 0} (o : Option X) → IsNone o → o ≡ None
is_none_is None h = refl
is_none_is (Some x) h = absurd (search rules)

pub sessions_more : (entries : List Entry) (key : List ℕ) (m : KeptSession) → sessions_in (entries ++ (key, m) ∷ []) ≡ sessions_in entries ++ m ∷ []
sessions_more [] key m = refl
sessions_more (e ∷ entries) key m = ap (λ l. e.1 ∷ l) (sessions_more entries key m)

-- ---- one behind others

head_of : KeptSession → List KeptSession → KeptSession
head_of d [] = d
head_of d (m ∷ ms) = m

rest_of : List KeptSession → List KeptSession
rest_of [] = []
rest_of (m ∷ ms) = ms

-- what holds of all keys holds of each session's client
client_among : (P : List ℕ → Type 0) (before rest : List KeptSession) (m : KeptSession) (entries : List Entry) → AreKeyed entries →
    AllByRecursion P (keys_of entries) → sessions_in entries ≡ before ++ m ∷ rest → P m.client
unfolding head_of rest_of
client_among P [] rest m [] keyed all e = absurd cc
client_among P (b ∷ before) rest m [] keyed all e = absurd cc
client_among P [] rest m (x ∷ entries) keyed all e =
    let same : x.1 ≡ m = ap (head_of m) e in subst P (keyed.0 ∙ ap (λ (m : KeptSession). m.client) same) all.0
client_among P (b ∷ before) rest m (x ∷ entries) keyed all e = client_among P before rest m entries keyed.1 all.1 (ap rest_of e)

-- a client has no session among those before its own
pub none_before : (before rest : List KeptSession) (m : KeptSession) (entries : List Entry) → AreKeyed entries → IsDistinct bytes_eq (keys_of entries) →
    sessions_in entries ≡ before ++ m ∷ rest → IsNone (find (λ (x : KeptSession). bytes_eq x.client m.client) before)
unfolding head_of rest_of
none_before [] rest m entries keyed distinct e = refl
none_before (b ∷ before) rest m [] keyed distinct e = absurd cc
none_before (b ∷ before) rest m (x ∷ entries) keyed distinct e =
    let others = client_among (λ key. bytes_eq x.0 key ≡ false) before rest m entries keyed.1 (IsDistinct-head bytes_eq x.0 (keys_of entries) distinct) (ap rest_of e) in
    let same : x.1 ≡ b = ap (head_of b) e in
    let apart : bytes_eq b.client m.client ≡ false = ap (λ c. bytes_eq c m.client) (ap (λ (m : KeptSession). m.client) (sym same) ∙ sym keyed.0) ∙ others in
    subst IsNone (ap (λ t. if t then Some b else find (λ (x : KeptSession). bytes_eq x.client m.client) before) (sym apart))
    (none_before before rest m entries keyed.1 (IsDistinct-tail bytes_eq x.0 (keys_of entries) distinct) (ap rest_of e))
