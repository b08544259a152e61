-- A SUBSCRIBE of one filter.
use Rattle.std.proofs.Common.{◌≡◌, ℕ, ◌+◌, List, [], ◌∷◌, length, get_or, Option, Some, None, sym, ap, ◌∙◌, arith}
use Rattle.std.specs.Prelude.{slice_get, slice_set, IfSome}
use Rattle.first_topic_name.specs.Pieces.{levels_of}
use Rattle.first_session_terms.specs.PlainSession.{PlainSession}
use Rattle.first_session_terms.specs.Change.{on_session, subscribed_session}
use Rattle.first_mqtt_packet.specs.declared.packet.Wish.{Wish}
use Rattle.first_mqtt_packet.specs.declared.packet.Packet.TheVariants.{Subscribe}
use Rattle.first_session_core.specs.SessionStep.{granted}
use Rattle.first_session_core.specs.SessionView.{sweep_of}
use Rattle.first_world_terms.specs.PlainBroker.{PlainBroker, taken}
use Rattle.broker_main.specs.BrokerView.{IsWrittenAt}

-- a list of one element
pub only_one : {X : Type 0} (xs : List X) (x : X) → length xs ≡ 1 → x ≡ get_or xs 0 x → xs ≡ x ∷ []
only_one [] x l e = absurd (omega (arith, l))
only_one (y ∷ []) x l e = ap (λ z. z ∷ []) (sym e)
only_one (y ∷ z ∷ xs) x l e = absurd (omega (arith, l))

-- the broker with this session subscribed
with_subscription : PlainBroker → PlainSession → ℕ → List (List ℕ) → ℕ → PlainBroker
with_subscription p m options filter next =
    record p { sessions = on_session m.client (subscribed_session (length m.subscriptions + 1) (length m.versions + 1) options 0 filter (sweep_of next next next ∷ [])) p.sessions }

-- the broker where a session at a place was written so
subscribed_some : (p : PlainBroker) (place number id : ℕ) (filters : List Wish) (wish : Wish) (options : ℕ) (filter : List (List ℕ)) (next : ℕ) (after : List PlainSession) (m : PlainSession)
    → filters ≡ wish ∷ [] → options ≡ wish.options → filter ≡ levels_of wish.filter → next ≡ 0 + length p.messages
    → ((f : PlainSession → PlainSession) → on_session m.client f p.sessions ≡ slice_set p.sessions place (f m))
    → after ≡ slice_set p.sessions place (subscribed_session (length m.subscriptions + 1) (length m.versions + 1) options 0 filter (sweep_of next next next ∷ []) m)
    → record p { sessions = after } ≡ (taken number (Subscribe id [] filters) m p).broker
unfolding with_subscription
subscribed_some p place number id filters wish options filter next after m fs os ls ns written h =
    let changed = h ∙ sym (written (subscribed_session (length m.subscriptions + 1) (length m.versions + 1) options 0 filter (sweep_of next next next ∷ []))) in
    let same : with_subscription p m options filter next ≡ with_subscription p m wish.options (levels_of wish.filter) (0 + length p.messages) =
    ap (λ (o : ℕ). with_subscription p m o filter next) os ∙ ap (λ (l : List (List ℕ)). with_subscription p m wish.options l next) ls ∙ ap (λ (n : ℕ). with_subscription p m wish.options (levels_of wish.filter) n) ns in
    ap (λ (sessions : List PlainSession). record p { sessions = sessions }) changed ∙ same ∙ ap (λ (ws : List Wish). (taken number (Subscribe id [] ws) m p).broker) (sym fs)

-- the same of a session that may be there
subscribed_option : (p : PlainBroker) (place number id : ℕ) (filters : List Wish) (wish : Wish) (options : ℕ) (filter : List (List ℕ)) (next : ℕ) (after : List PlainSession) (found : Option PlainSession)
    → filters ≡ wish ∷ [] → options ≡ wish.options → filter ≡ levels_of wish.filter → next ≡ 0 + length p.messages
    → ((f : PlainSession → PlainSession) → IfSome found (λ (m : PlainSession). on_session m.client f p.sessions ≡ slice_set p.sessions place (f m)))
    → IfSome found (λ (m : PlainSession). after ≡ slice_set p.sessions place (subscribed_session (length m.subscriptions + 1) (length m.versions + 1) options 0 filter (sweep_of next next next ∷ []) m))
    → IfSome found (λ (m : PlainSession). record p { sessions = after } ≡ (taken number (Subscribe id [] filters) m p).broker)
subscribed_option p place number id filters wish options filter next after None fs os ls ns written h = tt
subscribed_option p place number id filters wish options filter next after (Some m) fs os ls ns written h = subscribed_some p place number id filters wish options filter next after m fs os ls ns written h

-- the subscription that a SUBSCRIBE asks for, with the session at its place
pub subscribed_at : (p : PlainBroker) (place number id : ℕ) (filters : List Wish) (wish : Wish) (options : ℕ) (filter : List (List ℕ)) (next : ℕ) (after : List PlainSession)
    → filters ≡ wish ∷ [] → options ≡ wish.options → filter ≡ levels_of wish.filter → next ≡ 0 + length p.messages → IsWrittenAt p.sessions place
    → IfSome (slice_get p.sessions place) (λ (m : PlainSession). after ≡ slice_set p.sessions place (subscribed_session (length m.subscriptions + 1) (length m.versions + 1) options 0 filter (sweep_of next next next ∷ []) m))
    → IfSome (slice_get p.sessions place) (λ (m : PlainSession). record p { sessions = after } ≡ (taken number (Subscribe id [] filters) m p).broker)
subscribed_at p place number id filters wish options filter next after fs os ls ns written h = subscribed_option p place number id filters wish options filter next after (slice_get p.sessions place) fs os ls ns written h

-- what is granted of one filter
pub granted_one : (filters : List Wish) (wish : Wish) (options : ℕ) → filters ≡ wish ∷ [] → options ≡ wish.options → granted filters ≡ options ∷ []
granted_one filters wish options fs os = ap granted fs ∙ ap (λ (o : ℕ). o ∷ []) (sym os)
