-- What a packet of a bound connection does: the reason that it is closed with, or else what is stored, changed and answered.
use Rattle.std.specs.Prelude.{ℕ, ◌+◌, List, [], ◌∷◌, length, map, Option, Some, None}
use Rattle.first_topic_name.specs.Pieces.{levels_of}
use Rattle.first_topic_name.specs.StoredMessage.{StoredMessage}
use Rattle.first_shard_terms.specs.declared.sweep.Sweep.{Sweep}
use Rattle.first_shard_terms.specs.ShardList.{ShardList, Op, Store}
use Rattle.first_shard_terms.specs.SweepOrder.{starting_sweep}
use Rattle.first_session_terms.specs.PlainSession.{PlainSession, Subscription}
use Rattle.first_session_terms.specs.Change.{Change, Subscribed}
use Rattle.first_mqtt_packet.specs.declared.packet.Packet.{Packet}
use Rattle.first_mqtt_packet.specs.declared.packet.Wish.{Wish}
use Rattle.first_mqtt_packet.specs.declared.packet.Packet.TheVariants.{Connect, Connack, Publish, Puback, Subscribe, Suback, Disconnect}

-- a SUBSCRIBE of a session that has a subscription is not built yet
abbrev pub refusal_of_subscribe : List Subscription → Option ℕ
refusal_of_subscribe [] = None
refusal_of_subscribe (s ∷ ss) = Some 131

-- the reason that the connection is closed with, none where the packet is taken: 130 for a second CONNECT (MQTT 3.1.0),
-- 131 for what is not built yet
abbrev pub refusal_of : PlainSession → Packet → Option ℕ
refusal_of m (Connect clean keep_alive props client will user password) = Some 130
refusal_of m (Publish dup qos retain topic id props payload) = None
refusal_of m (Subscribe id props filters) = refusal_of_subscribe m.subscriptions
refusal_of m (Connack present reason props) = Some 131
refusal_of m (Puback id reason props) = Some 131
refusal_of m (Suback id props reasons) = Some 131
refusal_of m (Disconnect reason props) = Some 131

-- what is asked of the shard: a PUBLISH is stored (MQTT 3.3.4)
abbrev pub published : PlainSession → ℕ → List ℕ → List ℕ → StoredMessage
published m qos topic payload =
    record {
      offset = 0;
      publisher = m.client;
      incarnation = m.incarnation;
      id = 0;
      qos = qos;
      stamp = 0;
      expiry = None;
      topic = levels_of topic;
      props = [];
      payload = payload;
    }

abbrev pub ops_of : PlainSession → Packet → List Op
ops_of m (Publish dup qos retain topic id props payload) = Store (published m qos topic payload) ∷ []
ops_of m (Connect clean keep_alive props client will user password) = []
ops_of m (Subscribe id props filters) = []
ops_of m (Connack present reason props) = []
ops_of m (Puback id reason props) = []
ops_of m (Suback id props reasons) = []
ops_of m (Disconnect reason props) = []

-- each filter is a subscription with the next numbers, which starts where the lists end (MQTT 3.8.4)
abbrev pub subscribed_changes : List ℕ → ℕ → ℕ → List Sweep → List Wish → List Change
subscribed_changes client number version sweeps [] = []
subscribed_changes client number version sweeps (wish ∷ wishes) =
    Subscribed client number version wish.options 0 (levels_of wish.filter) sweeps ∷ subscribed_changes client (number + 1) (version + 1) sweeps wishes

-- the changes of the session; subscriptions and versions are numbered from 1
abbrev pub changes_of : PlainSession → List ShardList → Packet → List Change
changes_of m lists (Subscribe id props filters) =
    subscribed_changes m.client (length m.subscriptions + 1) (length m.versions + 1) (map starting_sweep lists) filters
changes_of m lists (Publish dup qos retain topic id props payload) = []
changes_of m lists (Connect clean keep_alive props client will user password) = []
changes_of m lists (Connack present reason props) = []
changes_of m lists (Puback id reason props) = []
changes_of m lists (Suback id props reasons) = []
changes_of m lists (Disconnect reason props) = []

-- the reason code of each filter: the granted QoS (MQTT 3.9.3)
abbrev pub granted : List Wish → List ℕ
granted wishes = map (λ (w : Wish). w.options) wishes

-- the answer
abbrev pub replies_of : Packet → List Packet
replies_of (Subscribe id props filters) = Suback id [] (granted filters) ∷ []
replies_of (Publish dup qos retain topic id props payload) = Puback id 0 [] ∷ []
replies_of (Connect clean keep_alive props client will user password) = []
replies_of (Connack present reason props) = []
replies_of (Puback id reason props) = []
replies_of (Suback id props reasons) = []
replies_of (Disconnect reason props) = []
