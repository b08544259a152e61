-- The packets of a piece, one after another: consecutive publishes are joined in a group, consecutive acknowledgements
-- in a record.
use Rattle.std.specs.Prelude.{ℕ, ◌+◌, ◌/◌, Bool, true, false, ◌&&◌, ◌||◌, not, ◌==◌, nat_lt, if◌then◌else◌, List, []}
use Rattle.std.specs.Prelude.{◌∷◌, ◌++◌, length, map, Option, Some, None, Result, Ok, Err}
use Rattle.topic_model.specs.Profile.{Profile, Config}
use Rattle.session_model.specs.PlainSession.{PlainSession}
use Rattle.mqtt_frame.specs.declared.refused.BadHeader.{BadHeader}
use Rattle.mqtt_frame.specs.declared.refused.BadHeader.TheVariants.{Length, Size}
use Rattle.mqtt_frame.specs.PlainFramer.{Fed, fed}
use Rattle.mqtt_packet.specs.declared.packet.AckKind.{AckKind}
use Rattle.mqtt_packet.specs.declared.packet.AckKind.TheVariants.{Puback, Pubrec, Pubrel, Pubcomp}
use Rattle.mqtt_packet.specs.declared.refused.ReadRefused.{ReadRefused}
use Rattle.mqtt_packet.specs.declared.refused.ReadRefused.TheVariants.{Version, Protocol}
use Rattle.mqtt_packet.specs.Packet.{PlainPacket, Connect, Publish, Ack, Disconnect, PublishFields, ConnectFields}
use Rattle.mqtt_packet.specs.Answer.{answer}
use Rattle.turn_model.specs.PlainConnection.{PlainConnection, packet_limit_of}
use Rattle.turn_model.specs.Step.{Outcome, Close, Ask, Step, is_nil}
use Rattle.turn_model.specs.PublishStep.{publish_case, is_asking, publish_group, joins}
use Rattle.turn_model.specs.ConnectStep.{connect_refusal, connect_step}
use Rattle.turn_model.specs.PacketStep.{packet_step, interval_of}
use Rattle.turn_model.specs.Worker.{connection_in, session_in, are_sendable}
use Rattle.turn_model.specs.Records.{stepped_on}
use Rattle.turn_model.specs.WorkerMoves.{Emit, OfPacket, Bind, TakeOver, Ending, with_reason}
use Rattle.turn_model.specs.Records.{OfPackets, OfConnect}
use Rattle.turn_model.specs.WorkerMoves.{silently}
use Rattle.turn_model.specs.Records.{Stepped, not_stepped}
use Rattle.turn_model.specs.Draft.{Draft, Status, Going, Waiting, Ended, Failed, Token, Whole, BadFront, EndOfPiece}
use Rattle.turn_model.specs.Draft.{OpenConnection, ForGroup, After, AfterPublishes, AfterRelease, is_going, with_framer}
use Rattle.turn_model.specs.Draft.{push, setting_in, not_open, own_bound_closed, own_unbound_closed, connect_refused}
use Rattle.turn_model.specs.Draft.{committed_with_owed, long_closed, put_out_answer}
use Rattle.turn_model.specs.Reasons as Reason

-- ---- what a packet is read as

-- it closes with a reason and a rule, or it is a packet
pub data ReadAs : Type 0 where
  Closes : ℕ → ℕ → ReadAs
  Is : PlainPacket → ReadAs

-- on a connection that is bound: another version is a second CONNECT
abbrev pub read_as : Result PlainPacket ReadRefused → ReadAs
read_as (Ok packet) = Is packet
read_as (Err Version) = Closes Reason.protocol_error Reason.rule_second_connect
read_as (Err (Protocol rule)) = Closes Reason.protocol_error rule
read_as (Err other) = Closes Reason.malformed_packet 0

abbrev pub header_reason : BadHeader → ℕ
header_reason Length = Reason.malformed_packet
header_reason Size = Reason.packet_too_large

-- PUBACK, PUBREC and PUBCOMP
abbrev pub is_receipt : AckKind → Bool
is_receipt Puback = true
is_receipt Pubrec = true
is_receipt Pubrel = false
is_receipt Pubcomp = true

abbrev pub is_joinable : PlainPacket → Bool
is_joinable (Ack kind a) = is_receipt kind
is_joinable other = false

module _ (profile : Profile) (config : Config) (now : ℕ) where
  -- ---- the record that is open

  -- what its packets have changed so far, of the session that the worker has
  abbrev pub stepped_or : PlainSession → Option Stepped → Stepped
  stepped_or m None = not_stepped m
  stepped_or m (Some st) = st

  -- the answer of a packet that asks for nothing and changes nothing
  abbrev pub is_short_answer : PlainConnection → Step → Bool
  is_short_answer k step = are_sendable k.packet_limit step.replies

  abbrev pub packet_answered_with : ℕ → PlainPacket → List Outcome → Option PlainConnection → Option PlainSession →
      Draft → Draft
  packet_answered_with conn packet outcomes (Some k) (Some m) d =
      long_closed profile config now
      (is_short_answer k (packet_step (setting_in profile config now d) k m packet outcomes)) conn
      (push profile config now (Emit (OfPacket conn packet outcomes) now) d)
  packet_answered_with conn packet outcomes k m d = d

  abbrev pub packet_answered_if : Bool → ℕ → PlainPacket → List Outcome → Draft → Draft
  packet_answered_if true conn packet outcomes d =
      packet_answered_with conn packet outcomes (connection_in d.worker conn) (session_in d.worker conn) d
  packet_answered_if false conn packet outcomes d = d

  abbrev pub packet_answered : ℕ → PlainPacket → List Outcome → Draft → Draft
  packet_answered conn packet outcomes d = packet_answered_if (is_going d.status) conn packet outcomes d

  abbrev pub packets_answered : ℕ → List PlainPacket → Draft → Draft
  packets_answered conn [] d = d
  packets_answered conn (packet ∷ packets) d = packets_answered conn packets (packet_answered conn packet [] d)

  -- packets of which none changes anything take no record
  abbrev pub acks_recorded : ℕ → List PlainPacket → Stepped → Draft → Draft
  acks_recorded conn packets st d =
      if is_nil st.changes then packets_answered conn packets d
      else put_out_answer profile config now conn
      (committed_with_owed profile config now (OfPackets conn packets) (length st.changes) d)

  abbrev pub acks_closed_with : ℕ → Option PlainConnection → Option PlainSession → Draft → Draft
  acks_closed_with conn (Some k) (Some m) d =
      record (acks_recorded conn d.acks (stepped_or m d.stepped) d) { acks = []; stepped = None }
  acks_closed_with conn k m d = record d { acks = []; stepped = None }

  abbrev pub acks_closed_if : Bool → ℕ → Draft → Draft
  acks_closed_if true conn d = d
  acks_closed_if false conn d = acks_closed_with conn (connection_in d.worker conn) (session_in d.worker conn) d

  -- the record that is open is committed, and what it answers is put out
  abbrev pub acks_closed : ℕ → Draft → Draft
  acks_closed conn d = acks_closed_if (is_nil d.acks) conn d

  -- ---- the group that is open

  abbrev pub waiting_for : Ask → After → Draft → Draft
  waiting_for ask after d = record d { status = Waiting (ForGroup ask.shard ask.ops) after }

  abbrev pub group_asked_with : ℕ → PublishFields → List PublishFields → Option PlainSession → Draft → Draft
  group_asked_with conn p ps None d = d
  group_asked_with conn p ps (Some m) d =
      waiting_for (publish_group (setting_in profile config now d) m (p ∷ ps)) (AfterPublishes p ps) d

  abbrev pub group_asked : ℕ → List PublishFields → Draft → Draft
  group_asked conn [] d = d
  group_asked conn (p ∷ ps) d = group_asked_with conn p ps (session_in d.worker conn) d

  -- the group that is open is asked of its shard
  abbrev pub group_closed : ℕ → Draft → Draft
  group_closed conn d = record (group_asked conn d.group d) { group = [] }

  abbrev pub group_closed_if : Bool → ℕ → Draft → Draft
  group_closed_if true conn d = group_closed conn d
  group_closed_if false conn d = d

  abbrev pub all_closed : ℕ → Draft → Draft
  all_closed conn d = let closed = acks_closed conn d in group_closed_if (is_going closed.status) conn closed

  -- ---- which packets go on with what is open

  abbrev pub goes_on_with : Option PlainConnection → Option PlainSession → PlainPacket → Draft → Bool
  goes_on_with (Some k) (Some m) (Publish p) d = joins (setting_in profile config now d) k m d.group p
  goes_on_with (Some k) (Some m) packet d = is_joinable packet && is_nil d.group
  goes_on_with k m packet d = false

  abbrev pub goes_on_as : ℕ → ReadAs → Draft → Bool
  goes_on_as conn (Closes reason rule) d = false
  goes_on_as conn (Is packet) d = goes_on_with (connection_in d.worker conn) (session_in d.worker conn) packet d

  -- a publish only where no record is open
  abbrev pub is_open_for : PlainPacket → Draft → Bool
  is_open_for packet d = is_joinable packet || is_nil d.acks

  abbrev pub fits_open : ReadAs → Draft → Bool
  fits_open (Closes reason rule) d = false
  fits_open (Is packet) d = is_open_for packet d

  abbrev pub goes_on : ℕ → Token → Draft → Bool
  goes_on conn (Whole bytes) d = goes_on_as conn (read_as (answer bytes)) d && fits_open (read_as (answer bytes)) d
  goes_on conn other d = false

  -- ---- a packet of a bound connection

  abbrev pub expiry_in : PlainPacket → Option ℕ
  expiry_in (Disconnect e) = interval_of e
  expiry_in other = None

  abbrev pub ending_of : PlainPacket → Close → Ending
  ending_of packet close =
      elim (close.reason) as (λ r. Ending) [ None ↦ silently (expiry_in packet) | Some reason ↦ with_reason reason ]

  abbrev pub closed_by : ℕ → PlainPacket → Close → Draft → Draft
  closed_by conn packet close d = own_bound_closed profile config now conn (ending_of packet close) close.rule d

  -- by what its step says: it closes, asks for a group, changes something, or is answered as it is
  abbrev pub packet_done : ℕ → PlainPacket → Step → List Close → List Ask → Draft → Draft
  packet_done conn packet step (close ∷ closes) groups d = closed_by conn packet close d
  packet_done conn packet step [] (ask ∷ asks) d = waiting_for ask (AfterRelease packet) d
  packet_done conn packet step [] [] d =
      if is_nil step.changes then packet_answered conn packet [] d
      else put_out_answer profile config now conn
      (committed_with_owed profile config now (OfPackets conn (packet ∷ [])) (length step.changes) d)

  abbrev pub step_done : ℕ → PlainPacket → Step → Draft → Draft
  step_done conn packet step d = packet_done conn packet step step.closes step.groups d

  -- a publish that is to be stored joins the group; where publishes aren't joined, it is asked at once
  abbrev pub group_unless : Bool → ℕ → Draft → Draft
  group_unless true conn d = d
  group_unless false conn d = group_closed conn d

  abbrev pub publish_taken : ℕ → PublishFields → Bool → Step → Draft → Draft
  publish_taken conn p true step d = group_unless profile.joins conn (record d { group = d.group ++ p ∷ [] })
  publish_taken conn p false step d = step_done conn (Publish p) step d

  -- a receipt joins the record, if that has room for its changes; one that closes ends the record first
  abbrev pub acks_unless : Bool → ℕ → Draft → Draft
  acks_unless true conn d = d
  acks_unless false conn d = acks_closed conn d

  abbrev pub close_after : ℕ → PlainPacket → Close → Draft → Draft
  close_after conn packet close d = elim (d.status) as
      (λ s. Draft) [ Going ↦ closed_by conn packet close d | Waiting r a ↦ d | Ended ↦ d | Failed ↦ d ]

  abbrev pub is_full_with : Draft → Stepped → Step → Bool
  is_full_with d st step = not (is_nil st.changes)
      && nat_lt profile.changes (length d.worker.owed + (length st.changes + length step.changes))

  abbrev pub joined_to : ℕ → PlainPacket → Stepped → Draft → Draft
  joined_to conn packet st d = acks_unless profile.joins conn
      (record d { acks = d.acks ++ packet ∷ []; stepped = Some st })

  abbrev pub joined_with : ℕ → PlainPacket → Option PlainConnection → Option PlainSession → Draft → Draft
  joined_with conn packet (Some k) (Some m) d =
      joined_to conn packet (stepped_on (setting_in profile config now d) k packet (stepped_or m d.stepped)) d
  joined_with conn packet k m d = d

  abbrev pub joined_if : Bool → ℕ → PlainPacket → Draft → Draft
  joined_if true conn packet d = joined_with conn packet (connection_in d.worker conn) (session_in d.worker conn) d
  joined_if false conn packet d = d

  abbrev pub receipt_taken_with : ℕ → PlainPacket → Stepped → Step → List Close → Draft → Draft
  receipt_taken_with conn packet st step (close ∷ closes) d = close_after conn packet close (acks_closed conn d)
  receipt_taken_with conn packet st step [] d =
      let ready = acks_unless (not (is_full_with d st step)) conn d in
      joined_if (is_going ready.status) conn packet ready

  abbrev pub receipt_taken : ℕ → PlainConnection → PlainPacket → Stepped → Draft → Draft
  receipt_taken conn k packet st d =
      let step = packet_step (setting_in profile config now d) k st.session packet [] in
      receipt_taken_with conn packet st step step.closes d

  abbrev pub packet_taken_as : Bool → ℕ → PlainConnection → PlainSession → PlainPacket → Draft → Draft
  packet_taken_as true conn k m packet d = receipt_taken conn k packet (stepped_or m d.stepped) d
  packet_taken_as false conn k m packet d =
      step_done conn packet (packet_step (setting_in profile config now d) k m packet []) d

  abbrev pub packet_taken_kind : ℕ → PlainConnection → PlainSession → PlainPacket → Draft → Draft
  packet_taken_kind conn k m (Publish p) d =
      publish_taken conn p (is_asking (publish_case (setting_in profile config now d) k.held m p))
      (packet_step (setting_in profile config now d) k m (Publish p) []) d
  packet_taken_kind conn k m packet d = packet_taken_as (is_joinable packet) conn k m packet d

  -- one that goes on with the group needs no case of its own
  abbrev pub packet_taken_if : Bool → ℕ → PlainConnection → PlainSession → PlainPacket → Draft → Draft
  packet_taken_if true conn k m (Publish p) d = record d { group = d.group ++ p ∷ [] }
  packet_taken_if true conn k m packet d = packet_taken_kind conn k m packet d
  packet_taken_if false conn k m packet d = packet_taken_kind conn k m packet d

  abbrev pub packet_taken : ℕ → Option PlainConnection → Option PlainSession → PlainPacket → Draft → Draft
  packet_taken conn (Some k) (Some m) packet d = packet_taken_if (not (is_nil d.group)) conn k m packet d
  packet_taken conn k m packet d = d

  abbrev pub bound_taken : ℕ → ReadAs → Draft → Draft
  bound_taken conn (Closes reason rule) d = own_bound_closed profile config now conn (with_reason reason) rule d
  bound_taken conn (Is packet) d = packet_taken conn (connection_in d.worker conn) (session_in d.worker conn) packet d

  -- ---- the first packet of a connection

  abbrev pub bind_pushed : ℕ → Draft → Draft
  bind_pushed conn d = push profile config now (Bind conn now) d

  -- the connection that the client had is taken over first
  abbrev pub takeovers_pushed : List Close → Draft → Draft
  takeovers_pushed [] d = d
  takeovers_pushed (close ∷ closes) d =
      takeovers_pushed closes (not_open close.connection (push profile config now (TakeOver close.connection) d))

  abbrev pub connect_bound_if : Bool → ℕ → List Close → Draft → Draft
  connect_bound_if true conn closes d =
      put_out_answer profile config now conn (bind_pushed conn (takeovers_pushed closes d))
  connect_bound_if false conn closes d = d

  abbrev pub connect_bound : ℕ → List Close → Draft → Draft
  connect_bound conn closes d = connect_bound_if (is_going d.status) conn closes d

  abbrev pub connect_taken_unless : Option ℕ → ℕ → ConnectFields → Step → Draft → Draft
  connect_taken_unless (Some reason) conn c step d = connect_refused (packet_limit_of c.props) conn reason 0 d
  connect_taken_unless None conn c step d =
      connect_bound conn step.closes (committed_with_owed profile config now (OfConnect conn c) (length step.changes) d)

  abbrev pub connect_taken : ℕ → ConnectFields → Draft → Draft
  connect_taken conn c d =
      connect_taken_unless (connect_refusal (setting_in profile config now d) c) conn c
      (connect_step (setting_in profile config now d) c) d

  abbrev pub first_packet : ℕ → PlainPacket → Draft → Draft
  first_packet conn (Connect c) d = connect_taken conn c d
  first_packet conn other d = own_unbound_closed conn Reason.rule_no_connect d

  -- of a CONNECT that can't be read no limit is known
  abbrev pub any_length : ℕ
  any_length = packet_limit_of []

  abbrev pub first_read : ℕ → Result PlainPacket ReadRefused → Draft → Draft
  first_read conn (Ok packet) d = first_packet conn packet d
  first_read conn (Err Version) d = connect_refused any_length conn Reason.unsupported_version 0 d
  first_read conn (Err (Protocol rule)) d = connect_refused any_length conn Reason.protocol_error rule d
  first_read conn (Err other) d = connect_refused any_length conn Reason.malformed_packet 0 d

  abbrev pub is_connect : List ℕ → Bool
  is_connect [] = false
  is_connect (first ∷ bytes) = first / 16 == 1

  -- one that is no CONNECT closes the connection, and nothing is written
  abbrev pub first_taken : ℕ → List ℕ → Draft → Draft
  first_taken conn bytes d = if is_connect bytes then first_read conn (answer bytes) d
      else own_unbound_closed conn Reason.rule_no_connect d

  -- ---- a token

  abbrev pub whole_taken : ℕ → List ℕ → Option PlainConnection → Draft → Draft
  whole_taken conn bytes (Some k) d = bound_taken conn (read_as (answer bytes)) d
  whole_taken conn bytes None d = first_taken conn bytes d

  abbrev pub bad_taken : ℕ → BadHeader → Option PlainConnection → Draft → Draft
  bad_taken conn header (Some k) d = own_bound_closed profile config now conn (with_reason (header_reason header)) 0 d
  bad_taken conn header None d = own_unbound_closed conn 0 d

  abbrev pub token_handled : ℕ → Token → Draft → Draft
  token_handled conn (Whole bytes) d = whole_taken conn bytes (connection_in d.worker conn) d
  token_handled conn (BadFront header) d = bad_taken conn header (connection_in d.worker conn) d
  token_handled conn EndOfPiece d = d

  -- what can't go on with what is open closes that first; what waits for a shard leaves the token for later
  abbrev pub token_retaken : ℕ → Token → Status → Draft → Draft
  token_retaken conn token Going d = token_handled conn token d
  token_retaken conn token (Waiting request after) d = record d { rest = d.rest ++ token ∷ [] }
  token_retaken conn token Ended d = d
  token_retaken conn token Failed d = d

  abbrev pub closed_unless : Bool → ℕ → Draft → Draft
  closed_unless true conn d = d
  closed_unless false conn d = all_closed conn d

  abbrev pub ready_for : ℕ → Token → Draft → Draft
  ready_for conn token d = closed_unless (goes_on conn token d) conn d

  abbrev pub token_taken : ℕ → Token → Status → Draft → Draft
  token_taken conn token Going d = let ready = ready_for conn token d in token_retaken conn token ready.status ready
  token_taken conn token (Waiting request after) d = record d { rest = d.rest ++ token ∷ [] }
  token_taken conn token Ended d = d
  token_taken conn token Failed d = d

  abbrev pub tokens_taken : ℕ → List Token → Draft → Draft
  tokens_taken conn [] d = d
  tokens_taken conn (token ∷ tokens) d = tokens_taken conn tokens (token_taken conn token d.status d)

  -- ---- a piece

  abbrev pub bad_token : Option BadHeader → List Token
  bad_token None = EndOfPiece ∷ []
  bad_token (Some header) = BadFront header ∷ []

  abbrev pub tokens_of : Fed → List Token
  tokens_of f = map (λ bytes. Whole bytes) f.packets ++ bad_token f.framer.bad

  abbrev pub fed_taken : ℕ → Fed → Draft → Draft
  fed_taken conn f d =
      tokens_taken conn (tokens_of f)
      (record d { beside = record d.beside { readings = with_framer conn f.framer d.beside.readings } })

  abbrev pub piece_taken : ℕ → List ℕ → Option OpenConnection → Draft → Draft
  piece_taken conn piece None d = d
  piece_taken conn piece (Some r) d = fed_taken conn (fed r.framer piece) d
