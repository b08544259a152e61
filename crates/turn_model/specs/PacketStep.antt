-- What a packet of a bound connection does, with a case for each kind; the end of a connection; and a Tick.
use Rattle.std.specs.Prelude.{ℕ, ◌+◌, ◌*◌, Bool, true, false, ◌&&◌, ◌==◌, nat_lt, if◌then◌else◌, List, [], ◌∷◌, map}
use Rattle.std.specs.Prelude.{filter, Option, Some, None}
use Rattle.shard_model.specs.declared.sweep.Sweep.{Sweep}
use Rattle.shard_model.specs.ShardList.{ShardList}
use Rattle.shard_model.specs.SweepOrder.{starting_sweep}
use Rattle.session_model.specs.PlainSession.{PlainSession, Sessions}
use Rattle.session_model.specs.Change.{Change, Effect, Ended, Acked, Done, change}
use Rattle.session_model.specs.Ends.{is_over, part_changes}
use Rattle.mqtt_props.specs.declared.table.TheConstants.{SESSION_EXPIRY_INTERVAL}
use Rattle.mqtt_props.specs.Lookup.{first_of, four_in, var_in, or_default}
use Rattle.mqtt_packet.specs.declared.packet.AckKind.{AckKind}
use Rattle.mqtt_packet.specs.declared.packet.AckKind.TheVariants.{Puback, Pubrec, Pubrel, Pubcomp}
use Rattle.mqtt_packet.specs.Packet.{PlainPacket, Connect, Connack, Publish, Ack, Subscribe, Suback, Unsubscribe}
use Rattle.mqtt_packet.specs.Packet.{Unsuback, Pingreq, Pingresp, Disconnect, Auth, AckFields, SubscribeFields}
use Rattle.mqtt_packet.specs.Packet.{UnsubscribeFields, EndFields}
use Rattle.turn_model.specs.PlainConnection.{PlainConnection, no_effects}
use Rattle.turn_model.specs.Resend.{passed1, passed2}
use Rattle.turn_model.specs.SessionStep as Session
use Rattle.turn_model.specs.SessionStep.{Planned, session_step}
use Rattle.turn_model.specs.Step.{Setting, Outcome, reply, replies, Step, idle, replying, close_with, closing}
use Rattle.turn_model.specs.Step.{closing_silently, breaking}
use Rattle.turn_model.specs.PublishStep.{publish_step, pubrel_step}
use Rattle.turn_model.specs.Reasons as Reason

-- ---- a packet that speaks of its session alone

-- an acknowledged entry that is finished gives one back to the quota (MQTT 4.9)
abbrev pub finishes : Effect → ℕ
finishes (Acked number) = 1
finishes (Done number) = 1
finishes other = 0

abbrev pub finished_by : List Change → ℕ
finished_by [] = 0
finished_by (c ∷ changes) = finishes c.effect + finished_by changes

abbrev pub step_unless : Option ℕ → ℕ → Planned → Step
step_unless (Some reason) conn p = closing conn reason p.rule
step_unless None conn p =
    record {
      groups = [];
      changes = p.changes;
      replies = replies p.replies;
      closes = [];
      effects =
          record no_effects { regained = finished_by p.changes };
    }

abbrev pub planned_step : ℕ → Planned → Step
planned_step conn p = step_unless p.close conn p

abbrev pub event_step : Setting → PlainConnection → PlainSession → Session.Event → Step
event_step s k m event = planned_step k.number (session_step s.profile m event)

-- ---- SUBSCRIBE and UNSUBSCRIBE

-- a new subscription starts behind all that the worker has seen
abbrev pub starts_of : List ShardList → List Sweep
starts_of lists = map starting_sweep lists

abbrev pub subscribe_event : Setting → SubscribeFields → Session.Event
subscribe_event s f =
    Session.Subscribe (record {
      id = f.id;
      identifier = or_default (first_of var_in f.props) 0;
      filters = f.filters;
      starts = starts_of s.seen;
    })

abbrev pub unsubscribe_event : UnsubscribeFields → Session.Event
unsubscribe_event f = Session.Unsubscribe (record { id = f.id; filters = f.filters })

-- ---- PUBACK, PUBREC, PUBREL, PUBCOMP

abbrev pub passed_or_none : ℕ → ℕ → ℕ
passed_or_none mark passed = if passed == mark then 0 else passed

abbrev pub puback_event : PlainConnection → PlainSession → AckFields → Session.Event
puback_event k m a = Session.Puback
    (record { id = a.id; reason = a.reason; passed = passed_or_none m.acked (passed1 m k) })

abbrev pub pubrec_event : PlainConnection → PlainSession → AckFields → Session.Event
pubrec_event k m a = Session.Pubrec
    (record { id = a.id; reason = a.reason; passed = passed_or_none m.received (passed2 m k) })

abbrev pub ack_step : Setting → PlainConnection → PlainSession → AckKind → AckFields → List Outcome → Step
ack_step s k m Puback a outcomes = event_step s k m (puback_event k m a)
ack_step s k m Pubrec a outcomes = event_step s k m (pubrec_event k m a)
ack_step s k m Pubrel a outcomes = pubrel_step s k m a.id outcomes
ack_step s k m Pubcomp a outcomes = event_step s k m (Session.Pubcomp a.id)

-- ---- DISCONNECT (MQTT 3.14)

abbrev pub interval_of : EndFields → Option ℕ
interval_of d = first_of (four_in SESSION_EXPIRY_INTERVAL) d.props

-- an interval above 0 where the connection's is 0 (MQTT 3.14.2.2.2)
abbrev pub breaks_interval : PlainSession → Option ℕ → Bool
breaks_interval m None = false
breaks_interval m (Some expiry) = (m.expiry == 0) && nat_lt 0 expiry

abbrev pub disconnect_step : PlainConnection → PlainSession → EndFields → Step
disconnect_step k m d = if breaks_interval m (interval_of d) then breaking k.number Reason.rule_interval_from_0
    else closing_silently k.number 0

-- ---- a packet

abbrev pub packet_step : Setting → PlainConnection → PlainSession → PlainPacket → List Outcome → Step
packet_step s k m (Connect c) outcomes = breaking k.number Reason.rule_second_connect
packet_step s k m (Connack c) outcomes = breaking k.number Reason.rule_not_from_client
packet_step s k m (Publish p) outcomes = publish_step s k m p outcomes
packet_step s k m (Ack kind a) outcomes = ack_step s k m kind a outcomes
packet_step s k m (Subscribe f) outcomes = event_step s k m (subscribe_event s f)
packet_step s k m (Suback a) outcomes = breaking k.number Reason.rule_not_from_client
packet_step s k m (Unsubscribe f) outcomes = event_step s k m (unsubscribe_event f)
packet_step s k m (Unsuback a) outcomes = breaking k.number Reason.rule_not_from_client
packet_step s k m Pingreq outcomes = replying (reply Pingresp ∷ []) no_effects
packet_step s k m Pingresp outcomes = breaking k.number Reason.rule_not_from_client
packet_step s k m (Disconnect d) outcomes = disconnect_step k m d
packet_step s k m (Auth a) outcomes = breaking k.number Reason.rule_not_from_client

-- ---- the end of a connection

-- the interval that counts from then on: that of a DISCONNECT, else the session's
abbrev pub expiry_after : PlainSession → Option ℕ → ℕ
expiry_after m (Some expiry) = expiry
expiry_after m None = m.expiry

-- the session that it was bound to is owed its end; nothing where that is gone
abbrev pub closed_step : ℕ → Option PlainSession → Option ℕ → Step
closed_step now None expiry = idle
closed_step now (Some m) expiry = record idle { changes = part_changes m.client (expiry_after m expiry) now }

-- ---- a Tick

-- nothing came for more than one and a half times the Keep Alive (MQTT 3.1.2.10)
abbrev pub is_overdue : ℕ → PlainConnection → Bool
is_overdue now k = nat_lt 0 k.keep_alive && nat_lt (k.last + 1500 * k.keep_alive) now

abbrev pub put_in : ℕ → List ℕ → List ℕ
put_in n [] = n ∷ []
put_in n (k ∷ ks) = elim (nat_lt k n) as (λ less. List ℕ) [ true ↦ k ∷ put_in n ks | false ↦ n ∷ k ∷ ks ]

abbrev pub in_order : List ℕ → List ℕ
in_order [] = []
in_order (n ∷ ns) = put_in n (in_order ns)

-- the connections that a Tick closes, in order of their numbers
abbrev pub overdue : ℕ → List PlainConnection → List ℕ
overdue now ks = in_order (map (λ (k : PlainConnection). k.number) (filter (is_overdue now) ks))

-- the sessions whose interval is over end
abbrev pub ended_changes : ℕ → Sessions → List Change
ended_changes now sessions = map (λ (m : PlainSession). change m.client Ended) (filter (is_over now) sessions.list)

-- the connections that were silent for too long are closed, in order of their numbers, and the sessions that are over
-- end
abbrev pub tick_step : ℕ → List PlainConnection → Sessions → Step
tick_step now connections sessions =
    record idle {
      changes = ended_changes now sessions;
      closes = map (λ (conn : ℕ). close_with conn Reason.keep_alive_timeout 0) (overdue now connections);
    }
