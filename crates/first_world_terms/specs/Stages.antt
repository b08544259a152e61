-- The stages of one publish, computed by the checker: what is stored, wanted, issued, changed, moved and put out.
use Rattle.std.specs.Prelude.{ℕ, ◌≡◌, refl, false, List, [], ◌∷◌, ◌++◌, codes, map, Some, None}
use Rattle.std.specs.Fmt.{digits}
use Rattle.hex.specs.Hex.{decode_pairs, encode_with}
use Rattle.first_topic_name.specs.StoredMessage.{StoredMessage}
use Rattle.first_shard_terms.specs.declared.sweep.Sweep.{Sweep}
use Rattle.first_shard_terms.specs.ShardList.{ShardList, opening_list, store, Store, placed}
use Rattle.first_shard_terms.specs.Wanted.{wanted, wanted_of_topic}
use Rattle.first_shard_terms.specs.SweepOrder.{next_run, sweep_after}
use Rattle.first_session_terms.specs.declared.entry.Entry.{Entry}
use Rattle.first_session_terms.specs.declared.entry.Kind.TheVariants.{Track1}
use Rattle.first_session_terms.specs.PlainSession.{PlainSession, begun_session, room_of}
use Rattle.first_session_terms.specs.Unfinished.{unfinished}
use Rattle.first_session_terms.specs.Change.{Began, Subscribed, Issued, act_all}
use Rattle.first_session_terms.specs.IssuedPrefix.{issued_of_topic}
use Rattle.first_mqtt_packet.specs.declared.packet.Packet.TheVariants.{Publish, Puback}
use Rattle.first_session_core.specs.PlainConnection.{PlainConnection, bound_connection}
use Rattle.first_session_core.specs.SessionStep.{published, refusal_of, replies_of}
use Rattle.first_session_core.specs.Pump.{pump_of, pump_limit}
use Rattle.first_world_terms.specs.Script.{Pump}
use Rattle.first_world_terms.specs.World.{opening_world, one_of_each}
use Rattle.first_world_terms.specs.Move.{Emit, Commit, after_moves}
use Rattle.first_world_terms.specs.Move as moves
use Rattle.first_world_terms.specs.Turn.{opening_state, turn_of, no_turn}
use Rattle.first_world_terms.specs.PlainBroker.{empty_broker, plain_text}

-- the topics `a/b` and `c`
abbrev topic_ab : List (List ℕ)
topic_ab = codes "a" ∷ codes "b" ∷ []

abbrev topic_c : List (List ℕ)
topic_c = codes "c" ∷ []

-- the session of `p`, and its messages `hi` there
abbrev publisher : PlainSession
publisher = begun_session (codes "p") 2 3600

abbrev hi_ab : StoredMessage
hi_ab = published publisher 1 (codes "a/b") (codes "hi")

abbrev hi_c : StoredMessage
hi_c = published publisher 1 (codes "c") (codes "hi")

-- three messages are stored: they have the next offsets
abbrev three : ShardList
three = store (opening_list 100 10 32768) (Store hi_ab ∷ Store hi_c ∷ Store hi_ab ∷ []) 0

stored_in_order : three.messages ≡ placed hi_ab 0 0 ∷ placed hi_c 1 0 ∷ placed hi_ab 2 0 ∷ []
stored_in_order = refl

-- a subscription to `a/b` from offset 0 on wants two of them, one from offset 1 on the last one
wants_two : map (λ (w : StoredMessage). w.offset) (wanted topic_ab 0 three) ≡ 0 ∷ 2 ∷ []
wants_two = refl

wants_one : map (λ (w : StoredMessage). w.offset) (wanted topic_ab 1 three) ≡ 2 ∷ []
wants_one = refl

-- a sweep at offset 0 where the list ended then: the next run lies in the window up to where it ends now
abbrev at_front : Sweep
at_front = record { generation = 0; base = 0; target = 0; stream = 0; position = 0 }

abbrev first_window : Sweep
first_window = record { generation = 0; base = 0; target = 3; stream = 0; position = 0 }

runs_in_next_window : next_run topic_ab 0 three at_front ≡ Some (record { messages = placed hi_ab 0 0 ∷ placed hi_ab 2 0 ∷ []; stretch = first_window })
runs_in_next_window = refl

-- behind the first of them
abbrev behind_first : Sweep
behind_first = record { generation = 0; base = 0; target = 3; stream = 0; position = 1 }

stops_behind_it : sweep_after first_window (placed hi_ab 0 0 ∷ []) ≡ behind_first
stops_behind_it = refl

-- the session of `a` began, subscribed, and was issued the first one with number 1 of track 1
abbrev entry_at : ℕ → ℕ → Entry
entry_at offset number = record { subscription = 1; version = 1; shard = 0; offset = offset; kind = Track1 number }

abbrev subscriber : List PlainSession
subscriber = act_all [] (Began (codes "a") 1 3600 ∷ Subscribed (codes "a") 1 1 1 0 topic_ab (at_front ∷ []) ∷ [])

abbrev issued_one : List PlainSession
issued_one = act_all subscriber (Issued (codes "a") 1 0 (entry_at 0 1 ∷ []) behind_first ∷ [])

one_is_unfinished : map unfinished issued_one ≡ (entry_at 0 1 ∷ []) ∷ []
one_is_unfinished = refl

room_for_others : map room_of issued_one ≡ 511 ∷ []
room_for_others = refl

-- acknowledged, the window is free again
room_for_all : map (λ (m : PlainSession). room_of (record m { acked = 1 })) issued_one ≡ 512 ∷ []
room_for_all = refl

-- it was issued a prefix of what it wants of the topic
issued_prefix : map (λ (m : PlainSession). issued_of_topic m 1 0 three topic_ab) issued_one ≡ (0 ∷ []) ∷ []
issued_prefix = refl

wanted_whole : map (λ (w : StoredMessage). w.offset) (wanted_of_topic topic_ab 0 three topic_ab) ≡ 0 ∷ 2 ∷ []
wanted_whole = refl

-- a publish is not refused, and is answered
publish_taken : refusal_of publisher (Publish false 1 false (codes "a/b") 7 [] (codes "hi")) ≡ None
publish_taken = refl

publish_answered : replies_of (Publish false 1 false (codes "a/b") 7 [] (codes "hi")) ≡ Puback 7 0 [] ∷ []
publish_answered = refl

-- the pump of `a` on connection 1 issues both, with the identifiers 1 and 3
abbrev connection : PlainConnection
connection = bound_connection 1 (codes "a") 60 [] 0

pump_issues_both : map (λ (m : PlainSession). pump_of m connection (three ∷ [])) subscriber
    ≡ Some (record {
      subscription = 1;
      shard = 0;
      entries = entry_at 0 1 ∷ entry_at 2 2 ∷ [];
      sweep = record { generation = 0; base = 0; target = 3; stream = 0; position = 3 };
      packets = Publish false 1 false (codes "a/b") 1 [] (codes "hi") ∷ Publish false 1 false (codes "a/b") 3 [] (codes "hi") ∷ [];
    }) ∷ []
pump_issues_both = refl

-- a client that takes one message at a time is issued one
pump_keeps_quota : map (λ (m : PlainSession). pump_limit m (record connection { quota = 1 })) subscriber ≡ 1 ∷ []
pump_keeps_quota = refl

-- moves that aren't allowed change nothing: nothing pends, nothing is due
idle_moves : after_moves (opening_world one_of_each) (moves.Store 0 ∷ Commit 0 ∷ Emit 0 ∷ []) ≡ opening_world one_of_each
idle_moves = refl

-- a line for a connection that isn't open is no turn
pump_of_nobody : turn_of opening_state (Pump 1) ≡ no_turn
pump_of_nobody = refl

-- without the world
plain_ping : plain_text empty_broker (codes "open 1" ∷ codes "send 1 C000" ∷ []) ≡ codes "1 closed" ++ 10 ∷ []
unfolding digits decode_pairs encode_with
plain_ping = refl
