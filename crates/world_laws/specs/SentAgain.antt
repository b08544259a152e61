-- What is to hold of what is sent again on a connection: first, the same, in order.
use Rattle.std.specs.Prelude.{ℕ, ◌≡◌, Bool, true, false, ◌&&◌, ◌||◌, not, ◌==◌, if◌then◌else◌, List, [], ◌∷◌, ◌++◌, map}
use Rattle.std.specs.Prelude.{filter, flat_map, drop, length, slice_get, Option, Some, None}
use Rattle.std.specs.List.{list_any}
use Rattle.std.specs.Str.{bytes_eq}
use Rattle.topic_model.specs.Profile.{Profile, Config}
use Rattle.topic_model.specs.StoredMessage.{StoredMessage}
use Rattle.topic_model.specs.Places.{HasPlace}
use Rattle.session_model.specs.declared.entry.Entry.{Entry}
use Rattle.session_model.specs.declared.entry.Kind.TheVariants.{Zero}
use Rattle.session_model.specs.declared.entry.Version.{Version}
use Rattle.session_model.specs.PlainSession.{PlainSession}
use Rattle.session_model.specs.Unfinished.{is_finished, unfinished}
use Rattle.mqtt_props.specs.declared.table.TheConstants.{MESSAGE_EXPIRY_INTERVAL}
use Rattle.mqtt_props.specs.declared.prop.Prop.{Prop}
use Rattle.mqtt_props.specs.declared.prop.Prop.TheVariants.{Four}
use Rattle.mqtt_packet.specs.Packet.{PlainPacket, PublishFields, Publish}
use Rattle.turn_model.specs.Delivery.{delivery}
use Rattle.turn_model.specs.PlainConnection.{PlainConnection, rest_of, is_bound_to}
use Rattle.turn_model.specs.MayIssue.{same_entry}
use Rattle.turn_model.specs.Resend.{is_passed_at_bind, pubrel, packets_with, entries_with}
use Rattle.turn_model.specs.Worker.{Worker, Noted, Bound, SentAgain, Delivered, Note, Out, Sent, sent_on, sessions_of}
use Rattle.turn_model.specs.WorkerMoves.{WorkerMove, Emit, OfResend, is_publish_packet, worker_step, worker_outs}
use Rattle.world_model.specs.World.{World, WorldShard}
use Rattle.world_laws.specs.Reached.{HasShard, HasWorker}

-- ---- what came of a connection

abbrev pub is_note_of : PlainConnection → Note → Bool
is_note_of k n = (n.connection == k.number) && (bytes_eq n.client k.client && (n.incarnation == k.incarnation))

-- the notes of a connection, and of those before it with its number, client and session
abbrev pub notes_of : Worker → PlainConnection → List Note
notes_of w k = filter (is_note_of k) w.history

-- Of such notes, in order: what was to be sent again when it was bound last; which entries of that were taken since;
-- and whether anything was delivered since.
abbrev pub again_at_bind : List Note → List Entry → List Entry
again_at_bind [] rest = rest
again_at_bind (n ∷ notes) rest =
    again_at_bind notes
    (elim (n.noted) as (λ x. List Entry) [ Bound again passed ↦ again | SentAgain xs ↦ rest | Delivered xs ↦ rest ])

abbrev pub taken_since : List Note → List Entry → List Entry
taken_since [] taken = taken
taken_since (n ∷ notes) taken =
    taken_since notes
    (elim (n.noted) as
    (λ x. List Entry) [ Bound again passed ↦ [] | SentAgain xs ↦ taken ++ entries_with xs | Delivered xs ↦ taken ])

abbrev pub delivers_since : List Note → Bool → Bool
delivers_since [] delivers = delivers
delivers_since (n ∷ notes) delivers =
    delivers_since notes
    (elim (n.noted) as (λ x. Bool) [ Bound again passed ↦ false | SentAgain xs ↦ delivers | Delivered xs ↦ true ])

-- ---- first

-- Where anything was delivered on a connection since it was bound, nothing is left to be sent again.
abbrev pub ResendsComeFirst : World → Type 0
ResendsComeFirst w =
    (worker : ℕ) (k : Worker) (c : PlainConnection) (m : PlainSession) → HasWorker w worker k →
    HasPlace k.connections c → HasPlace (sessions_of k).list m → is_bound_to c m ≡ true →
    delivers_since (notes_of k c) false ≡ true → rest_of m c ≡ []

-- ---- in order

-- What a move of a worker notes, whose history was so long.
abbrev pub new_notes : Worker → Worker → List Note
new_notes k later = drop (length k.history) later.history

-- A bind has to send again, in the order of issue, all that is unfinished in the session, but for what it passes over:
-- that is what wasn't received, and whose message is gone.
pub record BindsWhatIsUnfinished (k : Worker) (n : Note) (again passed : List Entry) : Type 0 where
  pub session : PlainSession
  pub is_there : HasPlace (sessions_of k).list session
  pub client : session.client ≡ n.client
  pub number : session.incarnation ≡ n.incarnation
  pub sends : again ≡ filter (λ (e : Entry). not (is_passed_at_bind session k.seen e)) (unfinished session)
  pub passes : passed ≡ filter (λ (e : Entry). is_passed_at_bind session k.seen e) (unfinished session)

abbrev pub BindsAll : Worker → Worker → Type 0
BindsAll k later =
    (n : Note) (again passed : List Entry) → HasPlace (new_notes k later) n → n.noted ≡ Bound again passed →
    BindsWhatIsUnfinished k n again passed

-- taken, or unfinished still
abbrev pub is_left : PlainSession → List Entry → Entry → Bool
is_left m taken e = list_any (same_entry e) taken || not (is_finished m e)

-- What was taken from a connection's list, and what is left in it and isn't finished, are together what was to be sent
-- again when it was bound, in that order, without what was finished before its turn.
abbrev pub ResendsAreInOrder : World → Type 0
ResendsAreInOrder w =
    (worker : ℕ) (k : Worker) (c : PlainConnection) (m : PlainSession) → HasWorker w worker k →
    HasPlace k.connections c → HasPlace (sessions_of k).list m → is_bound_to c m ≡ true →
    filter (is_left m (taken_since (notes_of k c) [])) (again_at_bind (notes_of k c) [])
    ≡ taken_since (notes_of k c) [] ++ rest_of m c

-- ---- the same

abbrev pub pairs_of : Noted → List (Entry × Option PlainPacket)
pairs_of (Bound again passed) = []
pairs_of (SentAgain xs) = xs
pairs_of (Delivered xs) = xs

abbrev pub entries_noted : Noted → List Entry
entries_noted noted = entries_with (pairs_of noted)

-- a packet that was put out for an entry of this client's session with this number
pub record WasSent (k : Worker) (client : List ℕ) (number : ℕ) (e : Entry) (packet : PlainPacket) : Type 0 where
  pub note : Note
  pub is_there : HasPlace k.history note
  pub its_client : note.client ≡ client
  pub its_number : note.incarnation ≡ number
  pub its_pair : HasPlace (pairs_of note.noted) (e, Some packet)

abbrev pub IsDeliveryOf : StoredMessage → Version → Entry → PublishFields → Type 0
IsDeliveryOf message version e p =
    (dup : Bool) × ((now : ℕ) × (Publish p ≡ delivery dup now version message e.kind))

-- All PUBLISHes of an entry carry the message that its shard stored at its offset, under one version; all else that
-- was sent for it is its PUBREL.
pub record IsOneMessage (s : WorldShard) (k : Worker) (client : List ℕ) (number : ℕ) (e : Entry) : Type 0 where
  pub message : StoredMessage
  pub version : Version
  pub stored : slice_get s.ever e.offset ≡ Some message
  pub numbered : version.number ≡ e.version
  pub publishes : (p : PublishFields) → WasSent k client number e (Publish p) → IsDeliveryOf message version e p
  pub others : (packet : PlainPacket) → WasSent k client number e packet → is_publish_packet packet ≡ false →
      packet ≡ pubrel e.kind

abbrev pub ResendsAreTheSame : World → Type 0
ResendsAreTheSame w =
    (worker : ℕ) (k : Worker) (client : List ℕ) (number : ℕ) (e : Entry) (packet : PlainPacket) →
    HasWorker w worker k → WasSent k client number e packet →
    (s : WorldShard) × (HasShard w e.shard s × IsOneMessage s k client number e)

-- a PUBLISH but for DUP and for the seconds of its Message Expiry Interval, which count down
abbrev pub without_seconds : Prop → Prop
without_seconds (Four identifier seconds) = Four identifier
    (if identifier == MESSAGE_EXPIRY_INTERVAL then 0 else seconds)
without_seconds other = other

abbrev pub bare_publish : PublishFields → PublishFields
bare_publish p = record p { dup = false; props = map without_seconds p.props }

-- Two PUBLISHes of one entry are the same but for these.
abbrev pub PublishesAreTheSame : World → Type 0
PublishesAreTheSame w =
    (worker : ℕ) (k : Worker) (client : List ℕ) (number : ℕ) (e : Entry) (p q : PublishFields) → HasWorker w worker k →
    WasSent k client number e (Publish p) → WasSent k client number e (Publish q) → bare_publish p ≡ bare_publish q

-- ---- what is noted is what is put out

abbrev pub is_publish_out : Out → Bool
is_publish_out (Sent conn packet) = is_publish_packet packet
is_publish_out other = false

abbrev pub outs_noted : Note → List Out
outs_noted n = sent_on n.connection (packets_with (pairs_of n.noted))

abbrev pub all_noted : List Note → List Out
all_noted [] = []
all_noted (n ∷ notes) = outs_noted n ++ all_noted notes

-- The PUBLISHes that a move puts out are those that it notes; and all that it sends again, PUBRELs too, is what it
-- notes.
pub record NotesTell (profile : Profile) (config : Config) (k : Worker) (move : WorkerMove) : Type 0 where
  pub publishes : filter is_publish_out (worker_outs profile config k move)
      ≡ filter is_publish_out (all_noted (new_notes k (worker_step profile config k move)))
  pub again : (conn now : ℕ) → move ≡ Emit (OfResend conn) now →
      worker_outs profile config k move ≡ all_noted (new_notes k (worker_step profile config k move))

abbrev pub NotesAreOuts : Profile → Config → World → Type 0
NotesAreOuts profile config w =
    (worker : ℕ) (k : Worker) (move : WorkerMove) → HasWorker w worker k → NotesTell profile config k move

-- ---- QoS 0

abbrev pub delivered_entries : Noted → List Entry
delivered_entries (Bound again passed) = []
delivered_entries (SentAgain xs) = []
delivered_entries (Delivered xs) = entries_with xs

abbrev pub is_session_of : PlainSession → Note → Bool
is_session_of m n = bytes_eq n.client m.client && (n.incarnation == m.incarnation)

abbrev pub delivered_to : Worker → PlainSession → List Entry
delivered_to k m = flat_map (λ (n : Note). delivered_entries n.noted) (filter (is_session_of m) k.history)

-- An entry of QoS 0 is put out at most once.
abbrev pub ZeroIsOnce : World → Type 0
ZeroIsOnce w =
    (worker i j : ℕ) (k : Worker) (m : PlainSession) (e : Entry) → HasWorker w worker k → e.kind ≡ Zero →
    slice_get (delivered_to k m) i ≡ Some e → slice_get (delivered_to k m) j ≡ Some e → i ≡ j
