-- A message at the end of the list.
use Rattle.std.proofs.Common.{◌≡◌, ℕ, ◌+◌, ◌&&◌, Bool, true, false, cond, eqb, List, [], ◌∷◌, ◌++◌, length, None, refl, ap, ◌∙◌, arith}
use Rattle.first_topic_name.specs.Pieces.{levels_of}
use Rattle.first_topic_name.specs.StoredMessage.{StoredMessage}
use Rattle.first_shard_terms.specs.ShardList.{Awaited, store, Store}
use Rattle.first_session_terms.specs.PlainSession.{PlainSession}
use Rattle.first_session_core.specs.SessionView.{HasOffsets}
use Rattle.first_session_core.specs.SessionStep.{published}
use Rattle.first_world_terms.specs.PlainBroker.{list_with}

-- the message of a publish at this place
abbrev pub message_at : ℕ → PlainSession → ℕ → List ℕ → List ℕ → StoredMessage
message_at offset m qos topic payload =
    record { offset = offset; publisher = m.client; incarnation = m.incarnation; id = 0; qos = qos; stamp = 0; expiry = None; topic = levels_of topic; props = []; payload = payload }

-- nothing is left out, as nothing is awaited
not_left_out : (b : Bool) (messages : List StoredMessage) (w : StoredMessage) (awaited : List Awaited)
    → (cond (b && false) (list_with messages) (record (list_with (messages ++ w ∷ [])) { awaited = awaited })).messages ≡ messages ++ w ∷ []
not_left_out true messages w awaited = refl
not_left_out false messages w awaited = refl

pub stored_message : (messages : List StoredMessage) (m : PlainSession) (qos : ℕ) (topic payload : List ℕ)
    → (store (list_with messages) (Store (published m qos topic payload) ∷ []) 0).messages ≡ messages ++ message_at (length messages) m qos topic payload ∷ []
stored_message messages m qos topic payload =
    let end : 0 + length messages ≡ length messages = omega arith in
    not_left_out (eqb qos 2) messages (message_at (0 + length messages) m qos topic payload) _ ∙ ap (λ (n : ℕ). messages ++ message_at n m qos topic payload ∷ []) end

-- the next offset goes on from those before it
pub offsets_push : (n : ℕ) (messages : List StoredMessage) (w : StoredMessage) → HasOffsets n messages → w.offset ≡ n + length messages → HasOffsets n (messages ++ w ∷ [])
offsets_push n [] w h e = (omega (arith, e), tt)
offsets_push n (m ∷ ms) w h e = (h.0, offsets_push (n + 1) ms w h.1 (omega (arith, e)))

-- a message by its parts
pub same_message : (offset offset' : ℕ) (publisher publisher' : List ℕ) (incarnation incarnation' qos : ℕ) (topic topic' : List (List ℕ)) (props props' payload : List ℕ)
    → offset ≡ offset' → publisher ≡ publisher' → incarnation ≡ incarnation' → topic ≡ topic' → props ≡ props'
    → ◌≡◌ {A = StoredMessage} (record { offset = offset; publisher = publisher; incarnation = incarnation; id = 0; qos = qos; stamp = 0; expiry = None; topic = topic; props = props; payload = payload })
    (record { offset = offset'; publisher = publisher'; incarnation = incarnation'; id = 0; qos = qos; stamp = 0; expiry = None; topic = topic'; props = props'; payload = payload })
same_message offset offset' publisher publisher' incarnation incarnation' qos topic topic' props props' payload a b c d e = cc
