-- The first session of a client, and the connection of a number, by their places.
use Rattle.std.proofs.Common.{◌≡◌, ◌≢◌, ℕ, zero, suc, ◌<◌, ◌≤◌, Bool, true, false, eqb, List, [], ◌∷◌, length, get_or, set, Option, Some, None, refl, sym, ap, subst, ◌∙◌, arith, eq-eqb}
use Rattle.std.specs.Prelude.{slice_get, IfSome}
use Rattle.std.specs.List.{find}
use Rattle.std.specs.Str.{bytes_eq}
use Rattle.std.proofs.lemmas.Bool.{ne_eqb}
use Rattle.std.proofs.lemmas.Slice.Eq.{bytes_eq-Decides}
use Rattle.first_session_terms.specs.PlainSession.{PlainSession}
use Rattle.first_session_terms.specs.Change.{session_of, on_session, act_all, parted_session}
use Rattle.first_session_core.specs.PlainConnection.{PlainConnection}
use Rattle.first_world_terms.specs.Move.{change_connection, owed_by}
use Rattle.broker_main.specs.BrokerView.{IsSessionPlace, IsConnectionPlace}

-- the first place that passes a test is where the first element that passes it is found
found_at : {X : Type 0} (p : X → Bool) (xs : List X) (i : ℕ) (d : X) → i < length xs → p (get_or xs i d) ≡ true → ((k : ℕ) → k < i → p (get_or xs k d) ≡ false) → find p xs ≡ slice_get xs i
found_at p [] i d lt here before = absurd (omega arith)
found_at p (x ∷ xs) zero d lt here before = rw here refl
found_at p (x ∷ xs) (suc i) d lt here before = rw (before 0 (omega arith)) (found_at p xs i d (omega arith) here (λ k l. before (suc k) (omega arith)))

-- where none passes nothing is found
not_found : {X : Type 0} (p : X → Bool) (xs : List X) → ((k : ℕ) (d : X) → k < length xs → p (get_or xs k d) ≡ false) → find p xs ≡ slice_get xs (length xs)
not_found p [] before = refl
not_found p (x ∷ xs) before = rw (before 0 x (omega arith)) (not_found p xs (λ k d l. before (suc k) d (omega arith)))

-- nothing stands behind the end
nothing_there : {X : Type 0} (xs : List X) (P : X → Type 0) → IfSome (slice_get xs (length xs)) P
nothing_there [] P = tt
nothing_there (x ∷ xs) P = nothing_there xs P

-- the element at a place
pub there : {X : Type 0} (xs : List X) (i : ℕ) (x : X) → i < length xs → x ≡ get_or xs i x → slice_get xs i ≡ Some x
there [] i x lt e = absurd (omega arith)
there (y ∷ xs) zero x lt e = ap Some (sym e)
there (y ∷ xs) (suc i) x lt e = there xs i x (omega arith) e

-- of a fact about what is at a place
if_there : {X : Type 0} (o : Option X) (x : X) (P : X → Type 0) → o ≡ Some x → P x → IfSome o P
if_there o x P e h = subst (λ q. IfSome q P) (sym e) h

-- a change of the connection with a number is a write at its place
changed_connection : (f : PlainConnection → PlainConnection) (connections : List PlainConnection) (number i : ℕ) (d : PlainConnection) → i < length connections → (get_or connections i d).number ≡ number → ((j : ℕ) → j < i → (get_or connections j d).number ≢ number)
    → change_connection number f connections ≡ set connections i (f (get_or connections i d))
changed_connection f [] number i d lt same before = absurd (omega arith)
changed_connection f (k ∷ ks) number zero d lt same before = let test : eqb k.number number ≡ true = eq-eqb k.number number same in rw test refl
changed_connection f (k ∷ ks) number (suc i) d lt same before =
    let test : eqb k.number number ≡ false = ne_eqb k.number number (before 0 (omega arith)) in
    rw test (ap (λ (l : List PlainConnection). k ∷ l) (changed_connection f ks number i d (omega arith) same (λ j l. before (suc j) (omega arith))))

pub connection_here : (connections : List PlainConnection) (number i : ℕ) (k : PlainConnection) → i < length connections → k ≡ get_or connections i k → k.number ≡ number → ((j : ℕ) (d : PlainConnection) → j < i → (get_or connections j d).number ≢ number) → IsConnectionPlace connections number i
connection_here connections number i k lt here same before =
    let same_there : (get_or connections i k).number ≡ number = sym (ap (λ (x : PlainConnection). x.number) here) ∙ same in
    record {
      found = found_at (λ (x : PlainConnection). eqb x.number number) connections i k lt (eq-eqb _ _ same_there) (λ j l. ne_eqb _ _ (before j k l));
      changed = λ f. if_there _ k _ (there connections i k lt here) (changed_connection f connections number i k lt same_there (λ j l. before j k l) ∙ ap (λ (x : PlainConnection). set connections i (f x)) (sym here));
    }

pub no_connection : (connections : List PlainConnection) (number : ℕ) → ((j : ℕ) (d : PlainConnection) → j < length connections → (get_or connections j d).number ≢ number) → IsConnectionPlace connections number (length connections)
no_connection connections number before =
    record {
      found = not_found (λ (x : PlainConnection). eqb x.number number) connections (λ j d l. ne_eqb _ _ (before j d l));
      changed = λ f. nothing_there connections _;
    }

-- a change of the session of a client is a write at its place
changed_session : (f : PlainSession → PlainSession) (sessions : List PlainSession) (client : List ℕ) (i : ℕ) (d : PlainSession) → i < length sessions → bytes_eq (get_or sessions i d).client client ≡ true → ((j : ℕ) → j < i → bytes_eq (get_or sessions j d).client client ≡ false)
    → on_session client f sessions ≡ set sessions i (f (get_or sessions i d))
changed_session f [] client i d lt same before = absurd (omega arith)
changed_session f (m ∷ ms) client zero d lt same before = rw same refl
changed_session f (m ∷ ms) client (suc i) d lt same before =
    let test : bytes_eq m.client client ≡ false = before 0 (omega arith) in
    rw test (ap (λ (l : List PlainSession). m ∷ l) (changed_session f ms client i d (omega arith) same (λ j l. before (suc j) (omega arith))))

pub session_here : (sessions : List PlainSession) (client : List ℕ) (i : ℕ) (m : PlainSession) → i < length sessions → m ≡ get_or sessions i m → bytes_eq m.client client ≡ true → ((j : ℕ) (d : PlainSession) → j < i → bytes_eq (get_or sessions j d).client client ≡ false) → IsSessionPlace sessions client i
session_here sessions client i m lt here same before =
    let its_client : m.client ≡ client = (bytes_eq-Decides m.client client).0 same in
    let same_there : bytes_eq (get_or sessions i m).client client ≡ true = subst (λ (x : PlainSession). bytes_eq x.client client ≡ true) here same in
    record {
      found = found_at (λ (x : PlainSession). bytes_eq x.client client) sessions i m lt same_there (λ j l. before j m l);
      changed = λ f. if_there _ m _ (there sessions i m lt here)
          (ap (λ (c : List ℕ). on_session c f sessions) its_client ∙ changed_session f sessions client i m lt same_there (λ j l. before j m l) ∙ ap (λ (x : PlainSession). set sessions i (f x)) (sym here));
    }

pub no_session : (sessions : List PlainSession) (client : List ℕ) → ((j : ℕ) (d : PlainSession) → j < length sessions → bytes_eq (get_or sessions j d).client client ≡ false) → IsSessionPlace sessions client (length sessions)
no_session sessions client before =
    record { found = not_found (λ (x : PlainSession). bytes_eq x.client client) sessions before; changed = λ f. nothing_there sessions _ }

-- the session at a client's place is parted
pub parts : (sessions : List PlainSession) (client : List ℕ) (place : ℕ) (m : PlainSession) → IsSessionPlace sessions client place → slice_get sessions place ≡ Some m
    → set sessions place (parted_session m.expiry 0 m) ≡ act_all sessions (owed_by (session_of client sessions) 0)
parts sessions client place m p here =
    let there_is : session_of client sessions ≡ Some m = p.found ∙ here in
    let written : on_session m.client (parted_session m.expiry 0) sessions ≡ set sessions place (parted_session m.expiry 0 m) =
    subst (λ (o : Option PlainSession). IfSome o (λ (x : PlainSession). on_session x.client (parted_session m.expiry 0) sessions ≡ set sessions place (parted_session m.expiry 0 x))) here (p.changed (parted_session m.expiry 0)) in
    sym written ∙ ap (λ (o : Option PlainSession). act_all sessions (owed_by o 0)) (sym there_is)

-- and where the client has none nothing changes
pub parts_none : (sessions : List PlainSession) (client : List ℕ) (place : ℕ) → IsSessionPlace sessions client place → slice_get sessions place ≡ None → sessions ≡ act_all sessions (owed_by (session_of client sessions) 0)
parts_none sessions client place p here = ap (λ (o : Option PlainSession). act_all sessions (owed_by o 0)) (sym (p.found ∙ here))

-- behind the end there is nothing
pub nothing_behind : {X : Type 0} (xs : List X) (i : ℕ) → length xs ≤ i → slice_get xs i ≡ None
nothing_behind [] i h = refl
nothing_behind (x ∷ xs) zero h = absurd (omega arith)
nothing_behind (x ∷ xs) (suc i) h = nothing_behind xs i (omega arith)
