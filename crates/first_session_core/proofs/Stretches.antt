-- What a pump finds in the two stretches of the one stream.
use Rattle.std.proofs.Common.{◌≡◌, ℕ, zero, suc, ◌+◌, ◌-◌, ◌<◌, ◌≤◌, Bool, true, false, cond, ◌&&◌, List, [], ◌∷◌, length, take, drop, map, Option, Some, None, refl, sym, ap, subst, ◌∙◌, arith, leb, ltb, inl, inr}
use Rattle.std.specs.Prelude.{filter}
use Rattle.std.specs.List.{filter_map}
use Rattle.std.specs.Borrow.{Bor}
use Rattle.std.proofs.lemmas.Bool.{cases_lt, le-leb, lt-leb, lt-ltb, le-ltb}
use Rattle.std.proofs.lemmas.List.{take-take, length-take, length-map}
use Rattle.first_topic_name.specs.StoredMessage.{StoredMessage}
use Rattle.first_shard_terms.specs.declared.sweep.Sweep.{Sweep}
use Rattle.first_shard_terms.specs.Wanted.{is_wanted}
use Rattle.first_shard_terms.specs.SweepOrder.{Run, run_or_else, wanted_in, next_run, sweep_after}
use Rattle.first_session_terms.specs.PlainSession.{PlainSession, issued1_of, issued2_of}
use Rattle.first_session_core.specs.declared.subscription.Subscription.{Subscription}
use Rattle.first_session_core.specs.PlainConnection.{PlainConnection}
use Rattle.first_session_core.specs.Pump.{Issue, Due, Reader, Pair, batch_of, batch_within, issue_of}
use Rattle.first_session_core.specs.SessionView.{sweep_of, list_with, HasOffsets, reader_of, subscription_of, issued_run, issued_in_stretch}
use Rattle.first_session_core.proofs.Batches.{same_issue, now_of}

-- between two offsets, and of those that pass the test
abbrev between : ℕ → ℕ → (StoredMessage → Bool) → StoredMessage → Bool
between low high test m = (leb low m.offset && ltb m.offset high && true) && test m

-- nothing of nothing passes
none_taken : (test : StoredMessage → Bool) (k : ℕ) → ◌≡◌ {A = List StoredMessage} [] (filter test (take k []))
none_taken test zero = refl
none_taken test (suc k) = refl

-- nothing is left of nothing
none_left : (test : StoredMessage → Bool) (k j : ℕ) → ◌≡◌ {A = List StoredMessage} [] (filter test (take k (drop j [])))
none_left test k zero = none_taken test k
none_left test k (suc j) = none_taken test k

-- a message in the stretch stays where it passes the test, and one outside goes
inside : (low high : ℕ) (test : StoredMessage → Bool) (m : StoredMessage) → low ≤ m.offset → m.offset < high → between low high test m ≡ test m
inside low high test m l h =
    let left : leb low m.offset ≡ true = le-leb low m.offset l in
    let right : ltb m.offset high ≡ true = lt-ltb m.offset high h in
    rw (left, right) refl

outside_low : (low high : ℕ) (test : StoredMessage → Bool) (m : StoredMessage) → m.offset < low → between low high test m ≡ false
outside_low low high test m l = let left : leb low m.offset ≡ false = lt-leb low m.offset l in rw left refl

outside_high : (low high : ℕ) (test : StoredMessage → Bool) (m : StoredMessage) → high ≤ m.offset → between low high test m ≡ false
outside_high low high test m h =
    let right : ltb m.offset high ≡ false = le-ltb m.offset high h in
    elim (leb low m.offset) as (λ b. (b && ltb m.offset high && true) && test m ≡ false) [ true ↦ rw right refl | false ↦ refl ]

-- behind the front of a stretch all below its end are in it
from_here : (test : StoredMessage → Bool) (low high n : ℕ) (ms : List StoredMessage) → HasOffsets n ms → low ≤ n → filter (between low high test) ms ≡ filter test (take (high - n) ms)
from_here test low high n [] h le = none_taken test (high - n)
from_here test low high n (m ∷ ms) h le =
    let rest = from_here test low high (n + 1) ms h.1 (omega arith) in
    elim (cases_lt n high) [
      | inl lt ↦
          let one : high - n ≡ suc (high - (n + 1)) = omega arith in
          rw (one, inside low high test m (omega (arith, h.0)) (omega (arith, h.0)), rest) refl
      | inr ge ↦
          let none : high - n ≡ 0 = omega arith in
          let none_too : high - (n + 1) ≡ 0 = omega arith in
          rw (none, outside_high low high test m (omega (arith, h.0)), rest, none_too) refl
    ]

-- a stretch is the messages between two places
pub in_between : (test : StoredMessage → Bool) (low high n : ℕ) (ms : List StoredMessage) → HasOffsets n ms → n ≤ low → filter (between low high test) ms ≡ filter test (take (high - low) (drop (low - n) ms))
in_between test low high n [] h le = none_left test (high - low) (low - n)
in_between test low high n (m ∷ ms) h le =
    elim (cases_lt n low) [
      | inl lt ↦
          let one : low - n ≡ suc (low - (n + 1)) = omega arith in
          rw (one, outside_low low high test m (omega (arith, h.0))) (in_between test low high (n + 1) ms h.1 (omega arith))
      | inr ge ↦
          let none : low - n ≡ 0 = omega arith in
          let same : n ≡ low = omega arith in
          rw none (subst (λ (l : ℕ). filter (between low high test) (m ∷ ms) ≡ filter test (take (high - l) (m ∷ ms))) same (from_here test low high n (m ∷ ms) h (omega arith)))
    ]

pub wanted_stretch : (wish : List (List ℕ)) (start base target position : ℕ) (ms : List StoredMessage) → HasOffsets 0 ms
    → wanted_in wish start (list_with ms) (sweep_of base target position) ≡ filter (is_wanted wish start) (take (target - position) (drop position ms))
wanted_stretch wish start base target position ms h =
    let whole : position - 0 ≡ position = omega arith in
    in_between (is_wanted wish start) position target 0 ms h (omega arith) ∙ ap (λ (k : ℕ). filter (is_wanted wish start) (take (target - position) (drop k ms))) whole

-- one more of a batch, if it fits
length_more : (b : Bool) (d : Due) (rest : List Due) (n : ℕ) → length rest ≤ n → length (cond b (d ∷ rest) []) ≤ suc n
length_more true d rest n h = omega arith
length_more false d rest n h = omega arith

more : (m n : ℕ) → m ≤ n → suc m ≤ suc n
more m n h = omega arith

-- a batch has at most one entry for each message
length-batch_within : (r : Reader) (ws : List StoredMessage) (next1 next2 room : ℕ) → length (batch_within r next1 next2 room ws) ≤ length ws
length-batch_within r [] next1 next2 room = omega arith
length-batch_within r (w ∷ ws) next1 next2 room = length_more _ _ _ (length ws) (length-batch_within r ws _ _ _)

length-batch_of : (r : Reader) (ws : List StoredMessage) (next1 next2 : ℕ) → length (batch_of r next1 next2 ws) ≤ length ws
length-batch_of r [] next1 next2 = omega arith
length-batch_of r (w ∷ ws) next1 next2 = more _ _ (length-batch_within r ws _ _ _)

-- what is made of picked messages
unfoldable pub made : List ℕ → ℕ → ℕ → ℕ → List StoredMessage → Subscription → Sweep → Issue
made client limit next1 next2 picked s stretch =
    let batch = batch_of (reader_of client limit s) next1 next2 picked in
    record { subscription = 1; shard = 0; entries = map (λ (d : Due). d.entry) batch; sweep = sweep_after stretch (take (length batch) picked); packets = filter_map (λ (d : Due). d.packet) batch }

-- what is made of the first messages of a run is what is issued of the run
made_of_run : (m : PlainSession) (k : PlainConnection) (limit : ℕ) (s : Subscription) (ws : List StoredMessage) (stretch : Sweep)
    → made m.client k.packet_limit (issued1_of m + 1) (issued2_of m + 1) (take limit ws) s stretch ≡ issue_of (reader_of m.client k.packet_limit s) m limit (record { messages = ws; stretch = stretch })
unfolding made
made_of_run m k limit s ws stretch =
    let batch = batch_of (reader_of m.client k.packet_limit s) (issued1_of m + 1) (issued2_of m + 1) (take limit ws) in
    let few : length batch ≤ limit = omega (arith, length-batch_of (reader_of m.client k.packet_limit s) (take limit ws) (issued1_of m + 1) (issued2_of m + 1), length-take limit ws) in
    same_issue _ _ _ _ _ _ refl (ap (λ (l : List StoredMessage). sweep_after stretch l) (take-take (length batch) limit ws few)) refl

same_made : (client client' : List ℕ) (limit limit' next1 next1' next2 next2' : ℕ) (picked picked' : List StoredMessage) (s : Subscription) (stretch : Sweep)
    → client ≡ client' → limit ≡ limit' → next1 ≡ next1' → next2 ≡ next2' → picked ≡ picked' → made client limit next1 next2 picked s stretch ≡ made client' limit' next1' next2' picked' s stretch
same_made client client' limit limit' next1 next1' next2 next2' picked picked' s stretch a b c d e = cc

-- a stretch that has messages
some_in_stretch : (m : PlainSession) (k : PlainConnection) (limit : ℕ) (s : Subscription) (ws : List StoredMessage) (stretch : Sweep) (issue : Issue) → 0 < length (take limit ws)
    → issue ≡ issue_of (reader_of m.client k.packet_limit s) m limit (record { messages = ws; stretch = stretch }) → Some issue ≡ issued_run m k limit s (run_or_else stretch ws None)
some_in_stretch m k limit s [] stretch issue h e = let none : List StoredMessage = [] in absurd (omega (arith, length-take limit none))
some_in_stretch m k limit s (w ∷ ws) stretch issue h e = ap Some e

-- a stretch that has none
none_in_stretch : (m : PlainSession) (k : PlainConnection) (limit : ℕ) (s : Subscription) (ws : List StoredMessage) (stretch : Sweep) → 0 < limit → length (take limit ws) ≡ 0 → ◌≡◌ {A = Option Issue} None (issued_run m k limit s (run_or_else stretch ws None))
none_in_stretch m k limit s [] stretch h e = refl
none_in_stretch m k limit s (w ∷ ws) stretch h e = absurd (omega (arith, length-take limit (w ∷ ws)))

-- the run of a stretch is empty where nothing of it is wanted
pub nothing_issued : (m : PlainSession) (k : PlainConnection) (messages : List StoredMessage) (limit : ℕ) (s : Subscription) (base target position : ℕ) (run : List (Bor StoredMessage)) → HasOffsets 0 messages → 0 < limit
    → map now_of run ≡ take limit (filter (is_wanted s.filter s.start) (take (target - position) (drop position messages))) → length run ≡ 0
    → ◌≡◌ {A = Option Issue} None (issued_in_stretch m k messages limit s base target position)
nothing_issued m k messages limit s base target position run h some found e =
    let wanted = wanted_stretch s.filter s.start base target position messages h in
    none_in_stretch m k limit s _ (sweep_of base target position) some
    (ap (λ (l : List StoredMessage). length (take limit l)) wanted ∙ ap length (sym found) ∙ length-map run now_of ∙ e)

-- what is made of the run of a stretch is what is issued of it
pub something_issued : (m : PlainSession) (k : PlainConnection) (messages : List StoredMessage) (limit : ℕ) (s : Subscription) (base target position : ℕ) (run : List (Bor StoredMessage)) (client : List ℕ) (most first second : ℕ) (issue : Issue)
    → HasOffsets 0 messages → map now_of run ≡ take limit (filter (is_wanted s.filter s.start) (take (target - position) (drop position messages))) → 0 < length run
    → client ≡ m.client → most ≡ k.packet_limit → first ≡ issued1_of m → second ≡ issued2_of m
    → issue ≡ made client most (first + 1) (second + 1) (map now_of run) s (sweep_of base target position)
    → Some issue ≡ issued_in_stretch m k messages limit s base target position
something_issued m k messages limit s base target position run client most first second issue h found some c mo f g e =
    let wanted = wanted_stretch s.filter s.start base target position messages h in
    let picked = found ∙ ap (take limit) (sym wanted) in
    let long : 0 < length (take limit (wanted_in s.filter s.start (list_with messages) (sweep_of base target position))) = omega (arith, ap length picked, length-map run now_of) in
    some_in_stretch m k limit s _ (sweep_of base target position) issue long
    (e ∙ same_made client m.client most k.packet_limit (first + 1) (issued1_of m + 1) (second + 1) (issued2_of m + 1) (map now_of run) _ s (sweep_of base target position) c mo (ap (λ (n : ℕ). n + 1) f) (ap (λ (n : ℕ). n + 1) g) picked
    ∙ made_of_run m k limit s _ (sweep_of base target position))

-- the choice between the stretches
first_of_two : (m : PlainSession) (k : PlainConnection) (limit : ℕ) (s : Subscription) (stretch : Sweep) (ws : List StoredMessage) (later : Option Run) (issue : Issue) → Some issue ≡ issued_run m k limit s (run_or_else stretch ws None) → Some issue ≡ issued_run m k limit s (run_or_else stretch ws later)
first_of_two m k limit s stretch [] later issue e = absurd cc
first_of_two m k limit s stretch (w ∷ ws) later issue e = e

second_of_two : (m : PlainSession) (k : PlainConnection) (limit : ℕ) (s : Subscription) (stretch : Sweep) (ws : List StoredMessage) (later : Option Run) → ◌≡◌ {A = Option Issue} None (issued_run m k limit s (run_or_else stretch ws None)) → issued_run m k limit s (run_or_else stretch ws later) ≡ issued_run m k limit s later
second_of_two m k limit s stretch [] later e = refl
second_of_two m k limit s stretch (w ∷ ws) later e = absurd cc

-- where the first stretch has something, that is issued
pub first_stretch : (m : PlainSession) (k : PlainConnection) (messages : List StoredMessage) (limit : ℕ) (s : Subscription) (issue : Issue) → Some issue ≡ issued_in_stretch m k messages limit s s.base s.target s.position
    → Some issue ≡ issued_run m k limit s (next_run s.filter s.start (list_with messages) (sweep_of s.base s.target s.position))
first_stretch m k messages limit s issue e = first_of_two m k limit s (sweep_of s.base s.target s.position) _ _ issue e

-- else what the second one has
pub second_stretch : (m : PlainSession) (k : PlainConnection) (messages : List StoredMessage) (limit : ℕ) (s : Subscription) (issued : Option Issue) → ◌≡◌ {A = Option Issue} None (issued_in_stretch m k messages limit s s.base s.target s.position)
    → issued ≡ issued_in_stretch m k messages limit s s.target (length messages) s.target
    → issued ≡ issued_run m k limit s (next_run s.filter s.start (list_with messages) (sweep_of s.base s.target s.position))
second_stretch m k messages limit s issued none e =
    let end : length messages ≡ 0 + length messages = omega arith in
    e ∙ ap (λ (n : ℕ). issued_in_stretch m k messages limit s s.target n s.target) end ∙ sym (second_of_two m k limit s (sweep_of s.base s.target s.position) _ _ none)

-- a pump that may issue something, by the next run of the one subscription
pair_of : Subscription → Pair
pair_of s = record { subscription = subscription_of s; shard = 0; start = s.start; sweep = sweep_of s.base s.target s.position }
