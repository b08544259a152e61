-- The messages of a run as they are issued: a batch.
use Rattle.std.specs.Prelude.{ℕ, ◌+◌, min, Bool, ◌&&◌, ◌||◌, ◌==◌, not, nat_le, if◌then◌else◌, List, [], ◌∷◌}
use Rattle.topic_model.specs.Profile.{Profile}
use Rattle.topic_model.specs.StoredMessage.{StoredMessage}
use Rattle.session_model.specs.declared.entry.Entry.{Entry}
use Rattle.session_model.specs.declared.entry.Kind.{Kind}
use Rattle.session_model.specs.declared.entry.Kind.TheVariants.{Track1, Track2, Zero, Silent}
use Rattle.session_model.specs.PlainSession.{PlainSession, room_of, issued1_of, issued2_of}
use Rattle.turn_model.specs.Delivery.{Reader, kind_for, has_expired, delivery_length}
use Rattle.turn_model.specs.PlainConnection.{PlainConnection}

-- how many messages a batch of a session has at most: more with a wide window
abbrev pub batch_of_session : Profile → PlainSession → ℕ
batch_of_session profile m = if m.window == profile.wide_window then profile.wide_batch else profile.batch

-- how many entries a pump may issue
abbrev pub pump_limit : Profile → PlainSession → PlainConnection → ℕ
pump_limit profile m k = min (batch_of_session profile m) (min (room_of m) k.quota)

-- ---- an entry

-- 1 on its track
abbrev pub count1 : Kind → ℕ
count1 (Track1 number) = 1
count1 (Track2 number) = 0
count1 Zero = 0
count1 Silent = 0

abbrev pub count2 : Kind → ℕ
count2 (Track1 number) = 0
count2 (Track2 number) = 1
count2 Zero = 0
count2 Silent = 0

-- the bytes that are put out for it: none where it is silent
abbrev pub size_out : Reader → StoredMessage → Kind → ℕ
size_out r m (Track1 number) = delivery_length r.version m (Track1 number)
size_out r m (Track2 number) = delivery_length r.version m (Track2 number)
size_out r m Zero = delivery_length r.version m Zero
size_out r m Silent = 0

abbrev pub entry_of : Reader → StoredMessage → Kind → Entry
entry_of r m kind =
    record {
      subscription = r.subscription;
      version = r.version.number;
      shard = r.shard;
      offset = m.offset;
      kind =
          kind;
    }

-- messages as they are issued, the numbers of each track going on from these
abbrev pub entries_from : ℕ → Reader → ℕ → ℕ → List StoredMessage → List Entry
entries_from now r next1 next2 [] = []
entries_from now r next1 next2 (m ∷ ms) =
    let kind = kind_for now r m next1 next2 in
    entry_of r m kind ∷ entries_from now r (next1 + count1 kind) (next2 + count2 kind) ms

-- the bytes that are put out for all of them
abbrev pub bytes_from : ℕ → Reader → ℕ → ℕ → List StoredMessage → ℕ
bytes_from now r next1 next2 [] = 0
bytes_from now r next1 next2 (m ∷ ms) =
    let kind = kind_for now r m next1 next2 in
    size_out r m kind + bytes_from now r (next1 + count1 kind) (next2 + count2 kind) ms

-- how many packets that is
abbrev pub packets_from : ℕ → Reader → ℕ → ℕ → List StoredMessage → ℕ
packets_from now r next1 next2 [] = 0
packets_from now r next1 next2 (m ∷ ms) =
    let kind = kind_for now r m next1 next2 in
    (if size_out r m kind == 0 then 0 else 1) + packets_from now r (next1 + count1 kind) (next2 + count2 kind) ms

-- ---- where a run is cut

-- they have expired alike
abbrev pub is_alike : Bool → Bool → Bool
is_alike a b = (a && b) || (not a && not b)

-- a packet goes in where all of them take no more than so many bytes, or it is the only one
abbrev pub has_byte_place : ℕ → ℕ → ℕ → Bool
has_byte_place most used size = nat_le (used + size) most || (used == 0)

-- A run is cut before the first message that differs from its first in having expired, and before the first packet that
-- has no place.
abbrev pub cut_within : ℕ → Reader → ℕ → Bool → ℕ → ℕ → ℕ → List StoredMessage → List StoredMessage
cut_within now r most expired used next1 next2 [] = []
cut_within now r most expired used next1 next2 (m ∷ ms) =
    let kind = kind_for now r m next1 next2 in
    if is_alike (has_expired now m) expired && has_byte_place most used (size_out r m kind)
    then m ∷ cut_within now r most expired (used + size_out r m kind) (next1 + count1 kind) (next2 + count2 kind) ms
    else []

abbrev pub cut_run : Profile → ℕ → Reader → ℕ → ℕ → List StoredMessage → List StoredMessage
cut_run profile now r next1 next2 [] = []
cut_run profile now r next1 next2 (m ∷ ms) =
    cut_within now r profile.batch_bytes (has_expired now m) 0 next1 next2 (m ∷ ms)

-- the next number of each track
abbrev pub next1_of : PlainSession → ℕ
next1_of m = issued1_of m + 1

abbrev pub next2_of : PlainSession → ℕ
next2_of m = issued2_of m + 1

-- how many of some entries count against the quota: those above QoS 0
abbrev pub quota_used : List Entry → ℕ
quota_used [] = 0
quota_used (e ∷ es) = count1 e.kind + count2 e.kind + quota_used es
