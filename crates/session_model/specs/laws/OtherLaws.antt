-- A change of one client leaves the session of another as it was.
use Rattle.std.proofs.Common.{◌≡◌, ℕ, ◌+◌, ◌-◌, Bool, true, false, not, if◌then◌else◌, ◌==◌, List, [], ◌∷◌, ◌++◌}
use Rattle.std.proofs.Common.{Option, Some, None, find, bytes_eq, refl, sym, ap, ◌∙◌}
use Rattle.std.proofs.lemmas.Slice.Eq.{bytes_eq-Decides}
use Rattle.session_model.specs.PlainSession.{PlainSession, Sessions, session_of, begun_session}
use Rattle.session_model.specs.Change.{Effect, Began, Ended, Bound, Parted, Subscribed, Replaced, Unsubscribed, Issued}
use Rattle.session_model.specs.Change.{Acked, Received, Done, Passed, change}
use Rattle.session_model.specs.Acting.{numbers_from, changed_if, changed_session, on_session, without_session, act_one}

-- a change leaves a session its client
pub keeps_client : (effect : Effect) (m : PlainSession) → (changed_session effect m).client ≡ m.client
keeps_client (Began b) m = refl
keeps_client Ended m = refl
keeps_client (Bound expiry) m = refl
keeps_client (Parted p) m = refl
keeps_client (Subscribed s) m = refl
keeps_client (Replaced r) m = refl
keeps_client (Unsubscribed number) m = refl
keeps_client (Issued i) m = refl
keeps_client (Acked number) m = refl
keeps_client (Received number) m = refl
keeps_client (Done number) m = refl
keeps_client (Passed p) m = by (p.track == 1)
  where
    by : (b : Bool) →
        (if b then record m { acked = p.number }
        else record m
        { received = p.number; done = m.done ++ numbers_from (m.received + 1) (p.number - m.received) }).client
        ≡ m.client
    by true = refl
    by false = refl

abbrev of_client : List ℕ → List PlainSession → Option PlainSession
of_client client ms = find (λ (m : PlainSession). bytes_eq m.client client) ms

-- a session of one client isn't the other's
not_other : (client other : List ℕ) (m : PlainSession) → bytes_eq client other ≡ false →
    bytes_eq m.client client ≡ true → bytes_eq m.client other ≡ false
not_other client other m differ is = ap (λ c. bytes_eq c other) ((bytes_eq-Decides m.client client).0 is) ∙ differ

changing_stays : (client other : List ℕ) → bytes_eq client other ≡ false → (effect : Effect) (ms : List PlainSession) →
    of_client other (on_session client (changed_session effect) ms) ≡ of_client other ms
changing_stays client other differ effect [] = refl
changing_stays client other differ effect (m ∷ ms) =
    by (bytes_eq m.client client) refl (changing_stays client other differ effect ms)
  where
    by : (b : Bool) → bytes_eq m.client client ≡ b →
        of_client other (on_session client (changed_session effect) ms) ≡ of_client other ms →
        of_client other (changed_if b (changed_session effect) m ∷ on_session client (changed_session effect) ms)
        ≡ of_client other (m ∷ ms)
    by false is rest = ap (λ found. if bytes_eq m.client other then Some m else found) rest
    by true is rest =
        let here = not_other client other m differ is in
        let changed = ap (λ c. bytes_eq c other) (keeps_client effect m) ∙ here in
        ap (λ b. if b then Some (changed_session effect m)
        else of_client other (on_session client (changed_session effect) ms)) changed
        ∙ rest
        ∙ ap (λ b. if b then Some m else of_client other ms) (sym here)

ending_stays : (client other : List ℕ) → bytes_eq client other ≡ false → (ms : List PlainSession) →
    of_client other (without_session client ms) ≡ of_client other ms
ending_stays client other differ [] = refl
ending_stays client other differ (m ∷ ms) = by (bytes_eq m.client client) refl (ending_stays client other differ ms)
  where
    by : (b : Bool) → bytes_eq m.client client ≡ b → of_client other (without_session client ms) ≡ of_client other ms →
        of_client other (if not b then m ∷ without_session client ms else without_session client ms)
        ≡ of_client other (m ∷ ms)
    by false is rest = ap (λ found. if bytes_eq m.client other then Some m else found) rest
    by true is rest = rest ∙ ap (λ b. if b then Some m else of_client other ms)
        (sym (not_other client other m differ is))

beginning_stays : (client other : List ℕ) → bytes_eq client other ≡ false → (new : PlainSession) → new.client ≡ client →
    (ms : List PlainSession) →
    of_client other (ms ++ new ∷ []) ≡ of_client other ms
beginning_stays client other differ new its [] =
    ap (λ b. if b then Some new else None) (ap (λ c. bytes_eq c other) its ∙ differ)
beginning_stays client other differ new its (m ∷ ms) =
    ap (λ found. if bytes_eq m.client other then Some m else found) (beginning_stays client other differ new its ms)

pub other_stays : (sessions : Sessions) (client other : List ℕ) (effect : Effect) → bytes_eq client other ≡ false →
    session_of other (act_one sessions (change client effect)) ≡ session_of other sessions
other_stays s client other (Began b) differ =
    beginning_stays client other differ (begun_session client b.incarnation b.expiry b.window) refl s.list
other_stays s client other Ended differ = ending_stays client other differ s.list
other_stays s client other (Bound expiry) differ = changing_stays client other differ (Bound expiry) s.list
other_stays s client other (Parted p) differ = changing_stays client other differ (Parted p) s.list
other_stays s client other (Subscribed sub) differ = changing_stays client other differ (Subscribed sub) s.list
other_stays s client other (Replaced r) differ = changing_stays client other differ (Replaced r) s.list
other_stays s client other (Unsubscribed number) differ =
    changing_stays client other differ (Unsubscribed number) s.list
other_stays s client other (Issued i) differ = changing_stays client other differ (Issued i) s.list
other_stays s client other (Acked number) differ = changing_stays client other differ (Acked number) s.list
other_stays s client other (Received number) differ = changing_stays client other differ (Received number) s.list
other_stays s client other (Done number) differ = changing_stays client other differ (Done number) s.list
other_stays s client other (Passed p) differ = changing_stays client other differ (Passed p) s.list
