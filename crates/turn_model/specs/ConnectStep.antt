-- CONNECT (MQTT 3.1): which session it begins or resumes, why it is refused, and what CONNACK says (MQTT 3.2).
use Rattle.std.specs.Prelude.{ℕ, zero, suc, ◌+◌, Bool, true, false, ◌&&◌, ◌||◌, not, ◌==◌, nat_le, nat_lt}
use Rattle.std.specs.Prelude.{if◌then◌else◌, List, [], ◌∷◌, ◌++◌, length, Option, Some, None, is_some}
use Rattle.topic_model.specs.Profile.{Profile}
use Rattle.topic_model.specs.Routing.{assigned_identifier, routed_worker}
use Rattle.session_model.specs.PlainSession.{PlainSession, Sessions, session_of}
use Rattle.session_model.specs.Change.{Change, Began, Ended, Bound, change}
use Rattle.session_model.specs.Acting.{without_session}
use Rattle.session_model.specs.FitsSession.{greatest, wide_count}
use Rattle.session_model.specs.Ends.{is_over}
use Rattle.mqtt_props.specs.declared.table.TheConstants.{ASSIGNED_CLIENT_IDENTIFIER, AUTHENTICATION_METHOD}
use Rattle.mqtt_props.specs.declared.table.TheConstants.{MAXIMUM_PACKET_SIZE, RECEIVE_MAXIMUM, RETAIN_AVAILABLE}
use Rattle.mqtt_props.specs.declared.table.TheConstants.{SHARED_SUBSCRIPTION_AVAILABLE}
use Rattle.mqtt_props.specs.declared.prop.Prop.{Prop}
use Rattle.mqtt_props.specs.declared.prop.Prop.TheVariants.{Byte, Two, Four, Text}
use Rattle.mqtt_props.specs.Lookup.{first_of, text_in, two_in}
use Rattle.mqtt_packet.specs.Packet.{PlainPacket, Connack, ConnectFields}
use Rattle.turn_model.specs.PlainConnection.{connection_of, expiry_of, no_effects}
use Rattle.turn_model.specs.Step.{Setting, Step, reply, Close, close_with}
use Rattle.turn_model.specs.Reasons as Reason

-- ---- the client identifier (MQTT 3.1.3.1)

abbrev pub is_free : Sessions → List ℕ → Bool
is_free sessions client = not (is_some (session_of client sessions))

-- the first number from one on whose identifier no session has, looking at so many
abbrev pub free_number : ℕ → Sessions → ℕ → ℕ → ℕ
free_number worker sessions number zero = number
free_number worker sessions number (suc more) =
    elim (is_free sessions (assigned_identifier worker number)) as
    (λ free. ℕ) [ true ↦ number | false ↦ free_number worker sessions (number + 1) more ]

-- an empty identifier is replaced: by the worker's number and the least one from its next session's on that no session
-- has
abbrev pub assigned_client : Setting → List ℕ
assigned_client s = assigned_identifier s.worker
    (free_number s.worker s.sessions s.sessions.next (length s.sessions.list))

abbrev pub is_unnamed : ConnectFields → Bool
is_unnamed c = length c.client == 0

abbrev pub client_for : Setting → ConnectFields → List ℕ
client_for s c = if is_unnamed c then assigned_client s else c.client

-- ---- the session that is there (MQTT 3.1.2.4, 4.1)

-- It isn't resumed: Clean Start asks for a new one, its interval is over, or it has an interval of 0 and ends with its
-- connection.
abbrev pub ends_with : Setting → ConnectFields → PlainSession → Bool
ends_with s c m = c.clean || (is_over s.now m || (m.expiry == 0))

abbrev pub is_resumed_if : Setting → ConnectFields → Option PlainSession → Bool
is_resumed_if s c None = false
is_resumed_if s c (Some m) = not (ends_with s c m)

-- the sessions without the one that ends
abbrev pub others : Sessions → List ℕ → List PlainSession
others sessions client = without_session client sessions.list

-- a wide window is for a client that names a Receive Maximum of as much (MQTT 3.1.2.11.3), while there is a place
abbrev pub takes_wide : Profile → Option ℕ → Bool
takes_wide profile None = false
takes_wide profile (Some maximum) = nat_le profile.wide_window maximum

abbrev pub window_for : Setting → ConnectFields → List ℕ → ℕ
window_for s c client =
    if s.profile.widens
    && (takes_wide s.profile (first_of (two_in RECEIVE_MAXIMUM) c.props)
    && nat_lt (wide_count s.profile (others s.sessions client)) s.profile.wide_sessions)
    then s.profile.wide_window
    else s.profile.window

abbrev pub ended_if : Bool → List ℕ → List Change
ended_if true client = change client Ended ∷ []
ended_if false client = []

abbrev pub began_change : Setting → ConnectFields → List ℕ → Change
began_change s c client =
    change client
    (Began (record { incarnation = s.sessions.next; expiry = expiry_of c.props; window = window_for s c client }))

abbrev pub connect_changes : Setting → ConnectFields → List ℕ → Bool → List Change
connect_changes s c client true = change client (Bound (expiry_of c.props)) ∷ []
connect_changes s c client false =
    ended_if (is_some (session_of client s.sessions)) client ++ began_change s c client ∷ []

-- the number of the session that is resumed, or of the one that begins
abbrev pub number_or : ℕ → Option PlainSession → ℕ
number_or next None = next
number_or next (Some m) = m.incarnation

abbrev pub session_number : Setting → ConnectFields → ℕ
session_number s c =
    if is_resumed_if s c (session_of (client_for s c) s.sessions)
    then number_or s.sessions.next (session_of (client_for s c) s.sessions)
    else s.sessions.next

-- a client is taken by the worker that it is routed to, and by no other
abbrev pub is_home : Setting → List ℕ → Bool
is_home s client = routed_worker client s.config.workers == s.worker

-- ---- refusals

-- no place among the sessions, or no number is left for a new one
abbrev pub has_no_session_place : Setting → List ℕ → Bool
has_no_session_place s client = nat_le s.profile.sessions (length (others s.sessions client))
    || nat_le greatest s.sessions.next

-- why a CONNECT that is well formed is refused: the first that holds (MQTT 3.1.2.5, 3.1.2.11.9, 3.1.3.1)
abbrev pub connect_refusal : Setting → ConnectFields → Option ℕ
connect_refusal s c =
    if is_some (first_of (text_in AUTHENTICATION_METHOD) c.props) then Some Reason.bad_authentication_method
    else if is_some c.will then Some Reason.implementation_error
    else if nat_lt s.profile.client (length c.client) then Some Reason.bad_client_identifier
    else if not (is_resumed_if s c (session_of (client_for s c) s.sessions)) && has_no_session_place s (client_for s c)
    then Some Reason.server_busy
    else None

-- ---- CONNACK

abbrev pub connack : Bool → ℕ → List Prop → PlainPacket
connack present reason props = Connack (record { present = present; reason = reason; props = props })

abbrev pub refusing : ℕ → PlainPacket
refusing reason = connack false reason []

abbrev pub assigned_props : ConnectFields → List ℕ → List Prop
assigned_props c client = if is_unnamed c then Text ASSIGNED_CLIENT_IDENTIFIER client ∷ [] else []

-- what the server takes (MQTT 3.2.2.3): identifiers of QoS 2 that a connection may hold, no retained messages, the
-- longest packet, no shared subscriptions
abbrev pub server_props : Profile → List Prop
server_props profile =
    Two RECEIVE_MAXIMUM profile.held
    ∷ Byte RETAIN_AVAILABLE 0
    ∷ Four MAXIMUM_PACKET_SIZE profile.packet
    ∷ Byte SHARED_SUBSCRIPTION_AVAILABLE 0
    ∷ []

abbrev pub accepting : Setting → ConnectFields → List ℕ → Bool → PlainPacket
accepting s c client present = connack present Reason.success (assigned_props c client ++ server_props s.profile)

-- ---- the step

-- the connection that the client has is taken over, and is told so (MQTT 3.1.4)
abbrev pub takeover_close : ℕ → Close
takeover_close conn = close_with conn Reason.session_taken_over 0

abbrev pub takeover_closes : Setting → List ℕ → List Close
takeover_closes s client =
    elim (connection_of client s.connections) as
    (λ found. List Close) [ None ↦ [] | Some k ↦ takeover_close k.number ∷ [] ]

abbrev pub connect_accepted : Setting → ConnectFields → List ℕ → Bool → Step
connect_accepted s c client present =
    record {
      groups = [];
      changes = connect_changes s c client present;
      replies = reply (accepting s c client present) ∷ [];
      closes = takeover_closes s client;
      effects = no_effects;
    }

-- the first packet of a connection, read as a CONNECT that isn't refused
abbrev pub connect_step : Setting → ConnectFields → Step
connect_step s c = connect_accepted s c (client_for s c) (is_resumed_if s c (session_of (client_for s c) s.sessions))
