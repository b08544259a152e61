-- A session that has been issued, of what its one subscription wants, all below the place of its sweep and nothing else.
use Rattle.std.proofs.Common.{◌≡◌, ℕ, zero, suc, ◌+◌, ◌≤◌, Bool, true, false, cond, not, ◌&&◌, ◌==◌, nat_le, List, [], ◌∷◌, ◌++◌, length, map, take, Option, Some, None, refl, sym, ap, ◌∙◌, subst, arith, filter, flat_map, append-nil, if◌then◌else◌}
use Rattle.std.proofs.lemmas.List.{map-append, length-append}
use Rattle.std.proofs.lemmas.List.Elements.{filter-append}
use Rattle.std.proofs.lemmas.Bool.{eq-eqb, le-leb}
use Rattle.first_topic_name.specs.StoredMessage.{StoredMessage}
use Rattle.first_topic_name.specs.Matching.{filter_matches}
use Rattle.first_shard_terms.specs.declared.sweep.Sweep.{Sweep}
use Rattle.first_shard_terms.specs.ShardList.{next_of}
use Rattle.first_shard_terms.specs.Wanted.{is_wanted}
use Rattle.first_shard_terms.specs.SweepOrder.{run_or_else, starting_sweep, sweep_after}
use Rattle.first_session_terms.specs.declared.entry.Entry.{Entry}
use Rattle.first_session_terms.specs.declared.entry.Version.{Version}
use Rattle.first_session_terms.specs.declared.entry.Kind.{Kind}
use Rattle.first_mqtt_packet.specs.declared.packet.Packet.{Packet}
use Rattle.first_session_terms.specs.PlainSession.{PlainSession, Subscription, begun_session, issued1_of, issued2_of, version_numbered}
use Rattle.first_session_terms.specs.Change.{parted_session, subscribed_session, issued_session, swept_subscription}
use Rattle.first_session_core.specs.PlainConnection.{PlainConnection}
use Rattle.first_session_core.specs.Pump.{Due, Reader, Issue, Pair, batch_within, batch_of, due_of, issue_under, or_else, first_issue, pump_limit, pairs_with, pairs_after, is_behind, pump_of}
use Rattle.first_world_terms.specs.PlainBroker.{list_with}
use Rattle.first_world_terms.proofs.Offsets.{Numbered, passing_below, passing_between, offset_behind, offset_behind-within, passing_below-between, passing_below-after, passing_below-push, passing_below-start}
use Rattle.first_world_terms.proofs.Topics.{offsets}

-- a sweep of the one generation, in its one stream
abbrev pub sweep_at : ℕ → ℕ → ℕ → Sweep
sweep_at base target position = record { generation = 0; base = base; target = target; stream = 0; position = position }

-- a subscription in the one shard: where it begins, and how far it is
pub record Follower : Type 0 where
  pub number : ℕ
  pub live : Bool
  pub version : ℕ
  pub filter : List (List ℕ)
  pub start : ℕ
  pub base : ℕ
  pub target : ℕ
  pub position : ℕ

abbrev pub subscription_of : Follower → Subscription
subscription_of f =
    record {
      number = f.number;
      live = f.live;
      version = f.version;
      filter = f.filter;
      starts = f.start ∷ [];
      sweeps = sweep_at f.base f.target f.position ∷ [];
    }

-- the offsets of the entries of a subscription in the one shard
abbrev pub offsets_issued : List Entry → ℕ → List ℕ
offsets_issued entries number =
    map (λ (e : Entry). e.offset) (filter (λ (e : Entry). ((e.subscription == number) && (e.shard == 0)) && nat_le 0 e.offset) entries)

-- what it was issued is what it wants below its position, and that is no further than its target, within the messages
pub record Follows (messages : List StoredMessage) (f : Follower) (entries : List Entry) : Type 0 where
  pub below_target : f.position ≤ f.target
  pub within : f.target ≤ length messages
  pub same_offsets : offsets_issued entries f.number ≡ offsets (passing_below (is_wanted f.filter f.start) f.position messages)

-- In step with the messages: the session has no subscription and was issued nothing, or has one that was issued what it wants below its position
pub data InStep (messages : List StoredMessage) (m : PlainSession) : Type 0 where
  idle : m.subscriptions ≡ [] → m.issued ≡ [] → InStep messages m
  following : (f : Follower) → m.subscriptions ≡ subscription_of f ∷ [] → Follows messages f m.issued → InStep messages m

-- a session that begins
pub InStep-begun : (messages : List StoredMessage) (client : List ℕ) (incarnation expiry : ℕ) → InStep messages (begun_session client incarnation expiry)
InStep-begun messages client incarnation expiry = idle refl refl

-- a session whose connection ended
pub InStep-parted : (messages : List StoredMessage) (expiry moment : ℕ) (m : PlainSession) → InStep messages m → InStep messages (parted_session expiry moment m)
InStep-parted messages expiry moment m (idle none nothing) = idle none nothing
InStep-parted messages expiry moment m (following f one follows) = following f one follows

-- one more message
pub InStep-push : (messages : List StoredMessage) (w : StoredMessage) (m : PlainSession) → w.offset ≡ length messages → InStep messages m → InStep (messages ++ w ∷ []) m
InStep-push messages w m e (idle none nothing) = idle none nothing
InStep-push messages w m e (following f one follows) = following f one (record {
  below_target = follows.below_target;
  within = simp length-append (omega arith);
  same_offsets = follows.same_offsets ∙ sym (ap offsets (passing_below-push (is_wanted f.filter f.start) f.position messages w (omega arith)));
})

-- a session that subscribes for the first time
pub InStep-subscribed : (messages : List StoredMessage) (number version options identifier : ℕ) (wish : List (List ℕ)) (m : PlainSession)
    → m.subscriptions ≡ [] → InStep messages m → InStep messages (subscribed_session number version options identifier wish (starting_sweep (list_with messages) ∷ []) m)
InStep-subscribed messages number version options identifier wish m e (idle none nothing) =
    following (record {
      number = number;
      live = true;
      version = version;
      filter = wish;
      start = next_of (list_with messages);
      base = next_of (list_with messages);
      target = next_of (list_with messages);
      position = next_of (list_with messages);
    }) (rw none refl) (record {
      below_target = omega arith;
      within = omega arith;
      same_offsets = rw nothing (sym (ap offsets (passing_below-start (λ (w : StoredMessage). filter_matches wish w.topic) (next_of (list_with messages)) messages)));
    })
InStep-subscribed messages number version options identifier wish m e (following f one follows) = cc

-- ---- a pump

-- a reader of a subscription in the one shard
abbrev pub reader_of : List ℕ → ℕ → ℕ → Version → Reader
reader_of client limit number version = record { client = client; limit = limit; subscription = number; version = version; shard = 0 }

-- the entries of a batch
abbrev entries_of : List Due → List Entry
entries_of batch = map (λ (d : Due). d.entry) batch

-- a batch stands for the first of some messages
abbrev StandsFor : ℕ → List Due → List StoredMessage → Type 0
StandsFor number batch ws = offsets_issued (entries_of batch) number ≡ offsets (take (length batch) ws)

-- one more
StandsFor-more : (number version : ℕ) (kind : Kind) (packet : Option Packet) (w : StoredMessage) (batch : List Due) (ws : List StoredMessage)
    → StandsFor number batch ws
    → StandsFor number (record { entry = record { subscription = number; version = version; shard = 0; offset = w.offset; kind = kind }; packet = packet } ∷ batch) (w ∷ ws)
StandsFor-more number version kind packet w batch ws h = rw (eq-eqb number number refl, le-leb 0 w.offset (omega arith)) (ap (λ os. w.offset ∷ os) h)

-- one more, if it fits
StandsFor-choice : (fits : Bool) (number version : ℕ) (kind : Kind) (packet : Option Packet) (w : StoredMessage) (batch : List Due) (ws : List StoredMessage)
    → StandsFor number batch ws
    → StandsFor number
    (cond fits (record { entry = record { subscription = number; version = version; shard = 0; offset = w.offset; kind = kind }; packet = packet } ∷ batch) [])
    (w ∷ ws)
StandsFor-choice true number version kind packet w batch ws h = StandsFor-more number version kind packet w batch ws h
StandsFor-choice false number version kind packet w batch ws h = refl

-- while they fit
StandsFor-within : (client : List ℕ) (longest number : ℕ) (version : Version) (limit : ℕ) (ws : List StoredMessage) (next1 next2 room : ℕ)
    → StandsFor number (batch_within (reader_of client longest number version) next1 next2 room (take limit ws)) ws
StandsFor-within client longest number version zero ws next1 next2 room = refl
StandsFor-within client longest number version (suc limit) [] next1 next2 room = refl
StandsFor-within client longest number version (suc limit) (w ∷ ws) next1 next2 room =
    StandsFor-choice _ number _ _ _ w _ ws (StandsFor-within client longest number version limit ws _ _ _)

-- the first always
StandsFor-batch : (client : List ℕ) (longest number : ℕ) (version : Version) (limit : ℕ) (ws : List StoredMessage) (next1 next2 : ℕ)
    → StandsFor number (batch_of (reader_of client longest number version) next1 next2 (take limit ws)) ws
StandsFor-batch client longest number version zero ws next1 next2 = refl
StandsFor-batch client longest number version (suc limit) [] next1 next2 = refl
StandsFor-batch client longest number version (suc limit) (w ∷ ws) next1 next2 =
    let due = due_of (reader_of client longest number version) next1 next2 w in
    StandsFor-more number version.number due.entry.kind due.packet w _ ws (StandsFor-within client longest number version limit ws _ _ _)

-- the sweep after some messages is behind the last of them
sweep_after-at : (base target before : ℕ) (ws : List StoredMessage) → sweep_after (sweep_at base target before) ws ≡ sweep_at base target (offset_behind before ws)
sweep_after-at base target before [] = refl
sweep_after-at base target before (w ∷ []) = refl
sweep_after-at base target before (w ∷ v ∷ ws) = sweep_after-at base target before (v ∷ ws)

-- the pairs that a connection serves, where there is one or none
pairs_after-one : (served : Option (ℕ × ℕ)) (p : Pair) → pairs_after served (p ∷ []) ≡ p ∷ []
pairs_after-one None p = refl
pairs_after-one (Some s) p =
    elim (is_behind s p) as (λ b. cond b (p ∷ []) [] ++ cond (not b) (p ∷ []) [] ≡ p ∷ []) [ true ↦ refl | false ↦ refl ]

pairs_after-none : (served : Option (ℕ × ℕ)) → pairs_after served [] ≡ []
pairs_after-none None = refl
pairs_after-none (Some s) = refl

-- entries for the messages that follow
offsets_issued-append : (first second : List Entry) (number : ℕ) → offsets_issued (first ++ second) number ≡ offsets_issued first number ++ offsets_issued second number
offsets_issued-append first second number = rw (filter-append, map-append)

-- the subscription with its sweep further on
swept_one : (f : Follower) (base target position : ℕ) → swept_subscription f.number 0 (sweep_at base target position) (subscription_of f)
    ≡ subscription_of (record f { base = base; target = target; position = position })
swept_one f base target position = rw (eq-eqb f.number f.number refl)

-- what a pump leaves of the session is in step
abbrev pub IssueInStep : List StoredMessage → PlainSession → Option Issue → Type 0
IssueInStep messages m None = Unit {0}
IssueInStep messages m (Some issue) = InStep messages (issued_session issue.subscription issue.shard issue.entries issue.sweep m)

-- entries are issued that stand for the first of the messages between two offsets, where below the lower one lies
-- nothing that was not issued
InStep-issued : (messages : List StoredMessage) (m : PlainSession) (f : Follower) (entries : List Entry) (k base low high : ℕ) (run : List StoredMessage)
    → Numbered 0 messages → m.subscriptions ≡ subscription_of f ∷ [] → Follows messages f m.issued
    → low ≤ high → high ≤ length messages
    → passing_below (is_wanted f.filter f.start) low messages ≡ passing_below (is_wanted f.filter f.start) f.position messages
    → passing_between (is_wanted f.filter f.start) low high messages ≡ run
    → offsets_issued entries f.number ≡ offsets (take k run)
    → InStep messages (issued_session f.number 0 entries (sweep_after (sweep_at base high low) (take k run)) m)
InStep-issued messages m f entries k base low high run numbered one follows order within same is_run stands =
    let position : ℕ = offset_behind low (take k run) in
    let wanted_test : StoredMessage → Bool = is_wanted f.filter f.start in
    let below_high : position ≤ high = rw (← is_run) (offset_behind-within wanted_test low high low k messages order) in
    let all : passing_below wanted_test position messages ≡ passing_below wanted_test f.position messages ++ take k run =
    rw (← is_run, ← same) (passing_below-after wanted_test low high 0 k messages numbered) in
    following (record f { base = base; target = high; position = position })
    (rw (one, sweep_after-at base high low (take k run)) (ap (λ (s : Subscription). s ∷ []) (swept_one f base high position)))
    (record {
      below_target = below_high;
      within = within;
      same_offsets =
          rw (offsets_issued-append m.issued entries f.number, all, map-append (λ (w : StoredMessage). w.offset) (passing_below wanted_test f.position messages) (take k run), follows.same_offsets, stands);
    })

-- the one pair of a subscription with the one shard
abbrev pub pair_of : Follower → Pair
pair_of f = record { subscription = subscription_of f; shard = 0; start = f.start; sweep = sweep_at f.base f.target f.position }

-- two stretches lie before its sweep, up to its target and from there to the end: the first of the two that has something is issued
IssueInStep-runs : (messages : List StoredMessage) (m : PlainSession) (k : PlainConnection) (f : Follower) (limit : ℕ) (ws vs : List StoredMessage) (version : Option Version)
    → Numbered 0 messages → m.subscriptions ≡ subscription_of f ∷ [] → Follows messages f m.issued
    → passing_between (is_wanted f.filter f.start) f.position f.target messages ≡ ws
    → passing_between (is_wanted f.filter f.start) f.target (next_of (list_with messages)) messages ≡ vs
    → IssueInStep messages m (or_else (issue_under m k limit (pair_of f)
    (run_or_else (sweep_at f.base f.target f.position) ws (run_or_else (sweep_at f.target (next_of (list_with messages)) f.target) vs None)) version) None)
IssueInStep-runs messages m k f limit [] [] version numbered one follows first second = tt
IssueInStep-runs messages m k f limit (w ∷ ws) vs None numbered one follows first second = tt
IssueInStep-runs messages m k f limit (w ∷ ws) vs (Some version) numbered one follows first second =
    InStep-issued messages m f _ _ f.base f.position f.target (w ∷ ws) numbered one follows follows.below_target follows.within refl first
    (StandsFor-batch m.client k.packet_limit f.number version limit (w ∷ ws) (issued1_of m + 1) (issued2_of m + 1))
IssueInStep-runs messages m k f limit [] (v ∷ vs) None numbered one follows first second = tt
IssueInStep-runs messages m k f limit [] (v ∷ vs) (Some version) numbered one follows first second =
    let wanted_test : StoredMessage → Bool = is_wanted f.filter f.start in
    let nothing_between : passing_below wanted_test f.target messages ≡ passing_below wanted_test f.position messages =
    passing_below-between wanted_test f.position f.target 0 messages numbered follows.below_target
    ∙ (ap (λ (ws : List StoredMessage). passing_below wanted_test f.position messages ++ ws) first ∙ append-nil (passing_below wanted_test f.position messages)) in
    InStep-issued messages m f _ _ f.target f.target (next_of (list_with messages)) (v ∷ vs) numbered one follows (omega (arith, follows.within)) (omega arith) nothing_between second
    (StandsFor-batch m.client k.packet_limit f.number version limit (v ∷ vs) (issued1_of m + 1) (issued2_of m + 1))

-- what a pump leaves is in step if what it would issue is
IssueInStep-limit : (messages : List StoredMessage) (m : PlainSession) (stop : Bool) (issue : Option Issue)
    → IssueInStep messages m issue → IssueInStep messages m (if stop then None else issue)
IssueInStep-limit messages m true issue h = tt
IssueInStep-limit messages m false issue h = h

-- the pairs of some subscriptions
abbrev pairs_of_all : List Subscription → List Pair
pairs_of_all subscriptions = flat_map (λ (s : Subscription). if s.live then pairs_with s 0 s.starts s.sweeps else []) subscriptions

-- with no pair nothing is issued
IssueInStep-none : (messages : List StoredMessage) (m : PlainSession) (k : PlainConnection) (limit : ℕ)
    → IssueInStep messages m (first_issue m k (list_with messages ∷ []) limit (pairs_after k.served []))
IssueInStep-none messages m k limit = rw (pairs_after-none k.served) tt

-- with the one pair, where the subscription is live
IssueInStep-one : (messages : List StoredMessage) (m : PlainSession) (k : PlainConnection) (f : Follower) (limit : ℕ) (live : Bool)
    → Numbered 0 messages → m.subscriptions ≡ subscription_of f ∷ [] → Follows messages f m.issued
    → IssueInStep messages m (first_issue m k (list_with messages ∷ []) limit (pairs_after k.served ((if live then pair_of f ∷ [] else []) ++ [])))
IssueInStep-one messages m k f limit true numbered one follows =
    rw (pairs_after-one k.served (pair_of f))
    (IssueInStep-runs messages m k f limit _ _ (version_numbered f.version m) numbered one follows refl refl)
IssueInStep-one messages m k f limit false numbered one follows = IssueInStep-none messages m k limit

-- a pump leaves a session in step
pub IssueInStep-pump : (messages : List StoredMessage) (m : PlainSession) (k : PlainConnection) → Numbered 0 messages → InStep messages m
    → IssueInStep messages m (pump_of m k (list_with messages ∷ []))
IssueInStep-pump messages m k numbered (idle none nothing) =
    IssueInStep-limit messages m _ _ (subst
    (λ (subscriptions : List Subscription). IssueInStep messages m (first_issue m k (list_with messages ∷ []) (pump_limit m k) (pairs_after k.served (pairs_of_all subscriptions))))
    (sym none) (IssueInStep-none messages m k (pump_limit m k)))
IssueInStep-pump messages m k numbered (following f one follows) =
    IssueInStep-limit messages m _ _ (subst
    (λ (subscriptions : List Subscription). IssueInStep messages m (first_issue m k (list_with messages ∷ []) (pump_limit m k) (pairs_after k.served (pairs_of_all subscriptions))))
    (sym one) (IssueInStep-one messages m k f (pump_limit m k) f.live numbered one follows))
