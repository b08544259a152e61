-- The laws of the world as tests that compute, so that they can be tried on a world before they are proved.
use Rattle.std.specs.Prelude.{ℕ, zero, suc, ◌+◌, Bool, true, false, ◌&&◌, ◌||◌, not, ◌==◌, nat_le, nat_lt}
use Rattle.std.specs.Prelude.{if◌then◌else◌}
use Rattle.std.specs.Prelude.{List, [], ◌∷◌, ◌++◌, map, filter, flat_map, drop, length, slice_get, Option, Some, None}
use Rattle.std.specs.List.{list_any, list_all}
use Rattle.std.specs.Str.{bytes_eq}
use Rattle.topic_model.specs.Profile.{Profile}
use Rattle.topic_model.specs.StoredMessage.{StoredMessage}
use Rattle.shard_model.specs.Choices.{Choice}
use Rattle.shard_model.specs.ShardList.{ShardList, floor_of, next_of}
use Rattle.shard_model.specs.Storing.{is_message_of, same_triple}
use Rattle.shard_model.specs.SweepOrder.{counted_from, is_in_order}
use Rattle.shard_model.specs.Wanted.{wanted_of_topic}
use Rattle.shard_model.specs.declared.sweep.Sweep.{Sweep}
use Rattle.session_model.specs.declared.entry.Entry.{Entry}
use Rattle.session_model.specs.declared.entry.Kind.TheVariants.{Zero}
use Rattle.session_model.specs.PlainSession.{PlainSession, Subscription, Sessions, in_use}
use Rattle.session_model.specs.Unfinished.{unfinished}
use Rattle.session_model.specs.FitsSession.{changes_fit}
use Rattle.session_model.specs.IssuedPrefix.{issued_of_topic, issued_offsets}
use Rattle.mqtt_packet.specs.Packet.{PlainPacket, PublishFields, Publish}
use Rattle.mqtt_packet.specs.Spelling.{written}
use Rattle.turn_model.specs.PlainConnection.{PlainConnection, is_among, rest_of, is_bound_to}
use Rattle.turn_model.specs.MayIssue.{same_entry, same_entries, same_kind}
use Rattle.turn_model.specs.Step.{is_nil}
use Rattle.turn_model.specs.Resend.{is_passed_at_bind}
use Rattle.turn_model.specs.Worker.{Worker, PendingRecord, Noted, Bound, Note, Out, Sent, sessions_of}
use Rattle.turn_model.specs.WorkerMoves.{WorkerMove, worker_step, worker_outs, worker_acks}
use Rattle.turn_model.specs.WorkerMoves as Workers
use Rattle.world_model.specs.World.{World, WorldShard, Move, Emit, Bind, Unbind, TakeOver, world_step}
use Rattle.world_model.specs.Lines.{Line, Script}
use Rattle.world_model.specs.Running.{State, opening_state, after_line}
use Rattle.world_laws.specs.Reached.{possible_sessions}
use Rattle.world_laws.specs.Issued.{ever_list}
use Rattle.world_laws.specs.SentAgain.{notes_of, again_at_bind, taken_since, delivers_since, is_left, pairs_of}
use Rattle.world_laws.specs.SentAgain.{entries_noted}
use Rattle.world_laws.specs.SentAgain.{bare_publish, is_publish_out, all_noted, new_notes, delivered_to}
use Rattle.world_laws.specs.Acknowledged.{success_packets}

-- ---- of one element and another

abbrev all_pairs : {A : Type 0} → (A → A → Bool) → List A → Bool
all_pairs test xs = list_all (λ x. list_all (test x) xs) xs

-- no later one is like an earlier one
abbrev none_twice : {A : Type 0} → (A → A → Bool) → List A → Bool
none_twice like [] = true
none_twice like (x ∷ xs) = not (list_any (like x) xs) && none_twice like xs

-- ---- shards

abbrev are_offsets : ℕ → List StoredMessage → Bool
are_offsets offset [] = true
are_offsets offset (m ∷ ms) = (m.offset == offset) && are_offsets (offset + 1) ms

abbrev same_offsets : List StoredMessage → List StoredMessage → Bool
same_offsets [] [] = true
same_offsets (m ∷ ms) (n ∷ ns) = (m.offset == n.offset) && same_offsets ms ns
same_offsets ms ns = false

abbrev pub is_all_ever : WorldShard → Bool
is_all_ever s =
    are_offsets 0 s.ever
    && (same_offsets (drop (floor_of s.shard.stored) s.ever) s.shard.stored.messages
    && (length s.ever == next_of s.shard.stored))

abbrev pub are_awaited : WorldShard → Bool
are_awaited s =
    none_twice same_triple s.shard.stored.awaited
    && list_all (λ a. list_any (is_message_of a) s.ever) s.shard.stored.awaited

-- ---- connections

abbrev of_connections : (Worker → PlainConnection → PlainSession → Bool) → Worker → Bool
of_connections test k =
    list_all (λ (c : PlainConnection).
    list_all (λ (m : PlainSession). test k c m) (filter (is_bound_to c) (sessions_of k).list)) k.connections

abbrev is_first : Worker → PlainConnection → PlainSession → Bool
is_first k c m = not (delivers_since (notes_of k c) false) || is_nil (rest_of m c)

abbrev is_in_turn : Worker → PlainConnection → PlainSession → Bool
is_in_turn k c m =
    same_entries
    (filter (is_left m (taken_since (notes_of k c) [])) (again_at_bind (notes_of k c) []))
    (taken_since (notes_of k c) [] ++ rest_of m c)

-- a session that a connection is bound to hasn't parted
abbrev hasnt_parted : Worker → PlainConnection → PlainSession → Bool
hasnt_parted k c m = elim (m.parted) as (λ p. Bool) [ None ↦ true | Some moment ↦ false ]

-- ---- packets

abbrev same_packet : PlainPacket → PlainPacket → Bool
same_packet p q = bytes_eq (written p) (written q)

abbrev same_bare : PlainPacket → PlainPacket → Bool
same_bare (Publish p) (Publish q) = same_packet (Publish (bare_publish p)) (Publish (bare_publish q))
same_bare (Publish p) other = true
same_bare other (Publish q) = true
same_bare p q = same_packet p q

abbrev same_if_any : Option PlainPacket → Option PlainPacket → Bool
same_if_any (Some p) (Some q) = same_bare p q
same_if_any p q = true

abbrev of_one : Note → Note → Bool
of_one a b = bytes_eq a.client b.client && (a.incarnation == b.incarnation)

abbrev pairs_alike : Note → Note → Bool
pairs_alike a b =
    not (of_one a b)
    || list_all (λ (x : Entry × Option PlainPacket).
    list_all (λ (y : Entry × Option PlainPacket). not (same_entry x.0 y.0) || same_if_any x.1 y.1)
    (pairs_of b.noted)) (pairs_of a.noted)

abbrev zero_once : Worker → PlainSession → Bool
zero_once k m = none_twice same_entry (filter (λ (e : Entry). same_kind e.kind Zero) (delivered_to k m))

-- what was put out is committed
abbrev is_committed : Worker → Note → Bool
is_committed k n =
    list_all (λ (e : Entry).
    list_all (λ (m : PlainSession). list_any (same_entry e) m.issued)
    (filter (λ (m : PlainSession). bytes_eq m.client n.client && (m.incarnation == n.incarnation)) k.committed.list))
    (entries_noted n.noted)

-- ---- sessions

abbrev are_distinct : Worker → Bool
are_distinct k =
    none_twice (λ (m n : PlainSession). bytes_eq m.client n.client || (m.incarnation == n.incarnation))
    (sessions_of k).list
    && none_twice (λ (c d : PlainConnection). bytes_eq c.client d.client || (c.number == d.number)) k.connections

abbrev do_fit : Profile → Worker → Bool
do_fit profile k =
    changes_fit profile k.committed k.owed
    && elim (k.pending) as
    (λ p. Bool) [ None ↦ true | Some p ↦ changes_fit profile k.committed (p.owed ++ p.changes) ]

abbrev begins_with : List ℕ → List ℕ → Bool
begins_with [] ys = true
begins_with (x ∷ xs) [] = false
begins_with (x ∷ xs) (y ∷ ys) = (x == y) && begins_with xs ys

-- one subscription in one shard: of each topic that is held a prefix, and the sweep in order over what is seen
abbrev prefix_in : PlainSession → Subscription → ℕ → ℕ → ShardList → Bool
prefix_in m sub shard start list =
    list_all (λ (topic : List (List ℕ)).
    begins_with (issued_of_topic m sub.number shard list topic)
    (map (λ (w : StoredMessage). w.offset) (wanted_of_topic sub.filter start list topic)))
    (map (λ (w : StoredMessage). w.topic) list.messages)

-- of all that was ever stored too, where nothing that it wanted was dropped before it was issued
abbrev whole_prefix : PlainSession → Subscription → ℕ → ℕ → WorldShard → List (List ℕ) → Bool
whole_prefix m sub shard start s topic =
    list_any (λ (w : StoredMessage).
    nat_lt w.offset (floor_of s.shard.stored) && not (is_among w.offset (issued_offsets m sub.number shard)))
    (wanted_of_topic sub.filter start (ever_list s) topic)
    || begins_with (issued_of_topic m sub.number shard (ever_list s) topic)
    (map (λ (w : StoredMessage). w.offset) (wanted_of_topic sub.filter start (ever_list s) topic))

abbrev whole_prefixes : PlainSession → Subscription → ℕ → ℕ → WorldShard → Bool
whole_prefixes m sub shard start s =
    list_all (whole_prefix m sub shard start s) (map (λ (w : StoredMessage). w.topic) s.ever)

abbrev prefix_at : PlainSession → Subscription → Option ℕ → ℕ → Option WorldShard → Bool
prefix_at m sub (Some start) shard (Some s) =
    prefix_in m sub shard start s.shard.stored && whole_prefixes m sub shard start s
prefix_at m sub start shard s = true

abbrev sweep_at : Profile → Option ℕ → Option Sweep → Option ShardList → Bool
sweep_at profile (Some start) (Some sweep) (Some list) = is_in_order profile list start sweep && nat_le start
    (next_of list)
sweep_at profile start sweep list = true

abbrev sub_holds : Profile → World → Worker → PlainSession → Subscription → ℕ → Bool
sub_holds profile w k m sub shard =
    prefix_at m sub (slice_get sub.starts shard) shard (slice_get w.shards shard)
    && (not sub.live
    || sweep_at profile (slice_get sub.starts shard) (slice_get sub.sweeps shard) (slice_get k.seen shard))

abbrev is_seen : Worker → Entry → Bool
is_seen k e = elim (slice_get k.seen e.shard) as
    (λ l. Bool) [ None ↦ false | Some list ↦ nat_lt e.offset (next_of list) ]

abbrev session_holds : Profile → World → Worker → PlainSession → Bool
session_holds profile w k m =
    nat_le (in_use m) m.window
    && (list_all (is_seen k) m.issued
    && list_all (λ (sub : Subscription).
    list_all (sub_holds profile w k m sub) (counted_from 0 (length w.shards))) m.subscriptions)

-- ---- a worker, and a world

abbrev worker_holds : Profile → World → Worker → Bool
worker_holds profile w k =
    of_connections is_first k
    && (of_connections is_in_turn k
    && (of_connections hasnt_parted k
    && (all_pairs pairs_alike k.history
    && (list_all (zero_once k) (sessions_of k).list
    && (list_all (is_committed k) k.history
    && (are_distinct k
    && (do_fit profile k
    && list_all (λ (s : Sessions). list_all (session_holds profile w k) s.list) (possible_sessions k))))))))

abbrev is_kept : World → ℕ × StoredMessage → Bool
is_kept w acked =
    elim (slice_get w.shards acked.0) as (λ s. Bool) [
      | None ↦ false
      | Some s ↦ elim (slice_get s.ever acked.1.offset) as
          (λ m. Bool) [ None ↦ false | Some m ↦ (m.id == acked.1.id) && bytes_eq m.payload acked.1.payload ]
    ]

abbrev pub world_holds : Profile → World → Bool
world_holds profile w =
    list_all is_all_ever w.shards
    && (list_all are_awaited w.shards
    && (list_all (is_kept w) w.acked_out && list_all (worker_holds profile w) w.workers))

-- ---- what a move puts out

abbrev same_outs : List Out → List Out → Bool
same_outs [] [] = true
same_outs (Sent conn p ∷ outs) (Sent other q ∷ others) = (conn == other) && (same_packet p q && same_outs outs others)
same_outs outs others = false

-- what a bind notes is what is unfinished in the session, parted by what is passed over
abbrev binds_unfinished : Worker → Note → Noted → Bool
binds_unfinished k n (Bound again passed) =
    list_any (λ (m : PlainSession).
    bytes_eq m.client n.client
    && ((m.incarnation == n.incarnation)
    && (same_entries again (filter (λ (e : Entry). not (is_passed_at_bind m k.seen e)) (unfinished m))
    && same_entries passed (filter (λ (e : Entry). is_passed_at_bind m k.seen e) (unfinished m)))))
    (sessions_of k).list
binds_unfinished k n other = true

abbrev notes_tell : Profile → World → Worker → WorkerMove → Bool
notes_tell profile w k move =
    same_outs (filter is_publish_out (worker_outs profile w.config k move))
    (filter is_publish_out (all_noted (new_notes k (worker_step profile w.config k move))))
    && (nat_le (length (worker_acks profile w.config k move))
    (length (success_packets (worker_outs profile w.config k move)))
    && list_all (λ (n : Note). binds_unfinished k n n.noted) (new_notes k (worker_step profile w.config k move)))

abbrev tell_at : Profile → World → Option Worker → WorkerMove → Bool
tell_at profile w None move = true
tell_at profile w (Some k) move = notes_tell profile w k move

abbrev tells : Profile → World → Move → Bool
tells profile w (Emit worker emitted now) = tell_at profile w (slice_get w.workers worker) (Workers.Emit emitted now)
tells profile w (Bind worker conn now) = tell_at profile w (slice_get w.workers worker) (Workers.Bind conn now)
tells profile w (TakeOver worker conn) = tell_at profile w (slice_get w.workers worker) (Workers.TakeOver conn)
tells profile w (Unbind worker conn ending now) =
    tell_at profile w (slice_get w.workers worker) (Workers.Unbind conn ending now)
tells profile w other = true

-- ---- along lists of moves, and scripts

-- the tests hold of this world, and behind each of these moves
abbrev pub hold_along : Profile → World → List Move → Bool
hold_along profile w [] = world_holds profile w
hold_along profile w (move ∷ moves) =
    world_holds profile w && (tells profile w move && hold_along profile (world_step profile w move) moves)

abbrev hold_behind : Profile → State → List Line → Bool
hold_behind profile s [] = world_holds profile s.world
hold_behind profile s (line ∷ lines) =
    world_holds profile s.world && hold_behind profile (after_line profile s line) lines

-- and behind each line of a script
abbrev pub hold_through : Profile → Script → List Choice → Bool
hold_through profile script choices = hold_behind profile (opening_state script.config choices) script.lines
