-- Every move keeps that what was put out, or is due, is committed.
use Rattle.std.proofs.Common.{◌≡◌, ◌⊎◌, inl, inr, ℕ, zero, suc, ◌+◌, ◌<◌, Bool, true, false, ◌&&◌, not, List, [], ◌∷◌}
use Rattle.std.proofs.Common.{◌++◌, filter, find, map, take, drop, slice_get, Option, Some, None, refl, sym, ap, subst}
use Rattle.std.proofs.Common.{◌∙◌}
use Rattle.std.specs.Prelude.{◌==◌, if◌then◌else◌, bytes_eq}
use Rattle.std.proofs.lemmas.Bool.{eqb-true, and_parts, true≢false}
use Rattle.std.proofs.lemmas.Option.{none-some, same_Some}
use Rattle.topic_model.specs.Profile.{Profile, Config}
use Rattle.topic_model.specs.Places.{HasPlace}
use Rattle.session_model.specs.declared.entry.Entry.{Entry}
use Rattle.session_model.specs.PlainSession.{PlainSession, Sessions}
use Rattle.session_model.specs.Acting.{act_all, changed_if}
use Rattle.turn_model.specs.PlainConnection.{PlainConnection, on_connection, without_connection}
use Rattle.turn_model.specs.Worker.{Worker, Answer, Answers, Accepts, Delivers, Item, PendingRecord, Note}
use Rattle.turn_model.specs.WorkerMoves.{aged_answer, kept_item}
use Rattle.world_laws.specs.SentAgain.{entries_noted}
use Rattle.world_laws.specs.laws.PlaceLaws.{place_behind, place_cases, place_filtered, place_in_both, no_place}
use Rattle.world_laws.specs.laws.SessionsLaws.{place_pushed}
use Rattle.world_laws.specs.laws.IssuedLaws.{IsKept}
use Rattle.world_laws.specs.laws.CommittedLaws.{IsBoundWith, AnswerIsIn, ItemIsIn, RecordIsIn, PendingIsIn}

-- ---- lists

pub place_kept : {A : Type 0} (test : A → Bool) (xs : List A) (x : A) → HasPlace xs x → test x ≡ true →
    HasPlace (filter test xs) x
place_kept test [] x has passes = absurd (no_place x has)
place_kept test (z ∷ xs) x has passes = by (place_kept test xs x) (test z) refl (place_cases z x xs has)
  where
    by : (HasPlace xs x → test x ≡ true → HasPlace (filter test xs) x) → (b : Bool) → test z ≡ b →
        ((x ≡ z) ⊎ HasPlace xs x) → HasPlace (if b then z ∷ filter test xs else filter test xs) x
    by rest true is (inl same) = (0, ap Some (sym same))
    by rest false is (inl same) = absurd (true≢false (sym passes ∙ ap test same ∙ is))
    by rest true is (inr there) = place_behind z x (filter test xs) (rest there passes)
    by rest false is (inr there) = rest there passes

-- ---- connections

-- a change of a connection that leaves it who it is
pub record LeavesNames (f : PlainConnection → PlainConnection) : Type 0 where
  pub number : (c : PlainConnection) → (f c).number ≡ c.number
  pub client : (c : PlainConnection) → (f c).client ≡ c.client
  pub incarnation : (c : PlainConnection) → (f c).incarnation ≡ c.incarnation

-- it is there still
pub changed_there : (conn : ℕ) (f : PlainConnection → PlainConnection) → LeavesNames f → (ks : List PlainConnection)
    (c : PlainConnection) → HasPlace ks c →
    (d : PlainConnection)
    × (HasPlace (on_connection conn f ks) d
    × ((d.number ≡ c.number) × ((d.client ≡ c.client) × (d.incarnation ≡ c.incarnation))))
changed_there conn f leaves [] c has = absurd (no_place c has)
changed_there conn f leaves (k ∷ ks) c (suc place, at) = further (changed_there conn f leaves ks c (place, at))
  where
    further : ((d : PlainConnection)
        × (HasPlace (on_connection conn f ks) d
        × ((d.number ≡ c.number) × ((d.client ≡ c.client) × (d.incarnation ≡ c.incarnation))))) →
        (d : PlainConnection)
        × (HasPlace (on_connection conn f (k ∷ ks)) d
        × ((d.number ≡ c.number) × ((d.client ≡ c.client) × (d.incarnation ≡ c.incarnation))))
    further (d, (has, names)) =
        (d, (place_behind (changed_if (k.number == conn) f k) d (on_connection conn f ks) has, names))
changed_there conn f leaves (k ∷ ks) c (zero, at) =
    (changed_if (k.number == conn) f k, ((0, refl), by (k.number == conn) (same_Some k c at)))
  where
    by : (b : Bool) → k ≡ c →
        ((changed_if b f k).number ≡ c.number)
        × (((changed_if b f k).client ≡ c.client) × ((changed_if b f k).incarnation ≡ c.incarnation))
    by true same = (
      leaves.number k ∙ ap (λ (x : PlainConnection). x.number) same,
      (
        leaves.client k ∙ ap (λ (x : PlainConnection). x.client) same,
        leaves.incarnation k ∙ ap (λ (x : PlainConnection). x.incarnation) same,
      ),
    )
    by false same = (
      ap (λ (x : PlainConnection). x.number) same,
      (ap (λ (x : PlainConnection). x.client) same, ap (λ (x : PlainConnection). x.incarnation) same),
    )

-- one that is there was there, as it is, or before this change of the one with this number
pub changed_from : (conn : ℕ) (f : PlainConnection → PlainConnection) (ks : List PlainConnection)
    (d : PlainConnection) →
    HasPlace (on_connection conn f ks) d →
    (c : PlainConnection) × (HasPlace ks c × ((d ≡ c) ⊎ ((c.number ≡ conn) × (d ≡ f c))))
changed_from conn f [] d has = absurd (no_place d has)
changed_from conn f (k ∷ ks) d (suc place, at) = further (changed_from conn f ks d (place, at))
  where
    further : ((c : PlainConnection) × (HasPlace ks c × ((d ≡ c) ⊎ ((c.number ≡ conn) × (d ≡ f c))))) →
        (c : PlainConnection) × (HasPlace (k ∷ ks) c × ((d ≡ c) ⊎ ((c.number ≡ conn) × (d ≡ f c))))
    further (c, (has, how)) = (c, (place_behind k c ks has, how))
changed_from conn f (k ∷ ks) d (zero, at) =
    (k, ((0, refl), by (k.number == conn) refl (sym (same_Some (changed_if (k.number == conn) f k) d at))))
  where
    by : (b : Bool) → (k.number == conn) ≡ b → d ≡ changed_if b f k → (d ≡ k) ⊎ ((k.number ≡ conn) × (d ≡ f k))
    by true is same = inr (eqb-true k.number conn is, same)
    by false is same = inl same

-- ---- what is due stays in

-- over connections of which each bound one is there still
abbrev pub StillBound : List PlainConnection → List PlainConnection → ℕ → Type 0
StillBound ks ls conn =
    (c : PlainConnection) → HasPlace ks c → c.number ≡ conn →
    (d : PlainConnection)
    × (HasPlace ls d × ((d.number ≡ c.number) × ((d.client ≡ c.client) × (d.incarnation ≡ c.incarnation))))

pub bound_still : (ks ls : List PlainConnection) (s : Sessions) (conn : ℕ) (es : List Entry) → StillBound ks ls conn →
    IsBoundWith ks s conn es → IsBoundWith ls s conn es
bound_still ks ls s conn es still (c, (has, (number, kept))) =
    let (d, (there, (number_d, (client, incarnation)))) = still c has number in (
      d,
      (
        there,
        (
          number_d ∙ number,
          subst (λ (n : ℕ). IsKept s d.client n es) (sym incarnation)
              (subst (λ (its : List ℕ). IsKept s its c.incarnation es) (sym client) kept),
        ),
      ),
    )

pub answer_still : (ks ls : List PlainConnection) (s : Sessions) (conn : ℕ) (answer : Answer) → StillBound ks ls conn →
    AnswerIsIn ks s conn answer → AnswerIsIn ls s conn answer
answer_still ks ls s conn (Answers rs effects) still is = is
answer_still ks ls s conn (Accepts c client number rs) still is = is
answer_still ks ls s conn (Delivers b moment fresh) still is = bound_still ks ls s conn b.entries still is

-- and over sessions that keep what was issued, with numbers that go on
pub answer_kept : (ks : List PlainConnection) (s t : Sessions) (conn : ℕ) (answer : Answer) →
    ((client : List ℕ) (number : ℕ) (es : List Entry) → IsKept s client number es → IsKept t client number es) →
    AnswerIsIn ks s conn answer → AnswerIsIn ks t conn answer
answer_kept ks s t conn (Answers rs effects) keeps is = is
answer_kept ks s t conn (Accepts c client number rs) keeps is = is_below number keeps is
  where
    is_below : (number : ℕ) →
        ((client : List ℕ) (number : ℕ) (es : List Entry) → IsKept s client number es → IsKept t client number es) →
        number < s.next → number < t.next
    is_below number keeps is =
        (keeps [] number [] ((λ m has its_client its_number e there. absurd (no_place e there)), is)).1
answer_kept ks s t conn (Delivers b moment fresh) keeps (c, (has, (number, kept))) =
    (c, (has, (number, keeps c.client c.incarnation b.entries kept)))

pub aged_in : (ks : List PlainConnection) (s : Sessions) (conn : ℕ) (answer : Answer) → AnswerIsIn ks s conn answer →
    AnswerIsIn ks s conn (aged_answer answer)
aged_in ks s conn (Answers rs effects) is = is
aged_in ks s conn (Accepts c client number rs) is = is
aged_in ks s conn (Delivers b moment fresh) is = is

-- ---- a worker

-- Nothing that it has put out, or is to put out, or has to send again, isn't committed; nor would it be with the record
-- that pends.
pub record IsCommitted (k : Worker) : Type 0 where
  pub sent : (n : Note) → HasPlace k.history n → IsKept k.committed n.client n.incarnation (entries_noted n.noted)
  pub rest : (c : PlainConnection) → HasPlace k.connections c → IsKept k.committed c.client c.incarnation c.rest
  pub due : (i : Item) → HasPlace k.due i → AnswerIsIn k.connections k.committed i.connection i.answer
  pub pending : PendingIsIn k k.pending

-- the same for the parts that count
pub record ArePutOut (committed : Sessions) (history : List Note) (ks : List PlainConnection) (items : List Item) :
    Type 0 where
  pub sent : (n : Note) → HasPlace history n → IsKept committed n.client n.incarnation (entries_noted n.noted)
  pub rest : (c : PlainConnection) → HasPlace ks c → IsKept committed c.client c.incarnation c.rest
  pub due : (i : Item) → HasPlace items i → AnswerIsIn ks committed i.connection i.answer

pub parts_of : (k : Worker) → IsCommitted k → ArePutOut k.committed k.history k.connections k.due
parts_of k is = record { sent = is.sent; rest = is.rest; due = is.due }

pub of_parts : (k : Worker) → ArePutOut k.committed k.history k.connections k.due → PendingIsIn k k.pending →
    IsCommitted k
of_parts k are pending = record { sent = are.sent; rest = are.rest; due = are.due; pending = pending }

abbrev pub Keeps : Sessions → Sessions → Type 0
Keeps s t = (client : List ℕ) (number : ℕ) (es : List Entry) → IsKept s client number es → IsKept t client number es

-- with sessions that keep what was issued
pub put_out_kept : (s t : Sessions) (history : List Note) (ks : List PlainConnection) (due : List Item) → Keeps s t →
    ArePutOut s history ks due → ArePutOut t history ks due
put_out_kept s t history ks due keeps are =
    record {
      sent = λ n has. keeps n.client n.incarnation (entries_noted n.noted) (are.sent n has);
      rest = λ c has. keeps c.client c.incarnation c.rest (are.rest c has);
      due = λ i has. answer_kept ks s t i.connection i.answer keeps (are.due i has);
    }

-- with one more item
pub put_out_handed : (s : Sessions) (history : List Note) (ks : List PlainConnection) (due : List Item) (i : Item) →
    AnswerIsIn ks s i.connection i.answer → ArePutOut s history ks due → ArePutOut s history ks (due ++ i ∷ [])
put_out_handed s history ks due i is are =
    record { sent = are.sent; rest = are.rest; due = λ x has. by x (place_pushed due i x has) }
  where
    by : (x : Item) → HasPlace due x ⊎ (x ≡ i) → AnswerIsIn ks s x.connection x.answer
    by x (inl old) = are.due x old
    by x (inr new) = subst (λ (x : Item). AnswerIsIn ks s x.connection x.answer) (sym new) is

-- with fewer items
pub put_out_fewer : (s : Sessions) (history : List Note) (ks : List PlainConnection) (due few : List Item) →
    ((i : Item) → HasPlace few i → HasPlace due i) → ArePutOut s history ks due → ArePutOut s history ks few
put_out_fewer s history ks due few within are =
    record { sent = are.sent; rest = are.rest; due = λ i has. are.due i (within i has) }

-- with more notes
pub put_out_noted : (s : Sessions) (history more : List Note) (ks : List PlainConnection) (due : List Item) →
    ((n : Note) → HasPlace more n → IsKept s n.client n.incarnation (entries_noted n.noted)) →
    ArePutOut s history ks due → ArePutOut s (history ++ more) ks due
put_out_noted s history more ks due new are =
    record { sent = λ n has. by n (place_in_both history more n has); rest = are.rest; due = are.due }
  where
    by : (n : Note) → HasPlace history n ⊎ HasPlace more n → IsKept s n.client n.incarnation (entries_noted n.noted)
    by n (inl old) = are.sent n old
    by n (inr new_one) = new n new_one

-- with a connection changed
pub put_out_changed : (s : Sessions) (history : List Note) (ks : List PlainConnection) (due : List Item) (conn : ℕ)
    (f : PlainConnection → PlainConnection) → LeavesNames f →
    ((c : PlainConnection) → HasPlace ks c → c.number ≡ conn → IsKept s c.client c.incarnation (f c).rest) →
    ArePutOut s history ks due → ArePutOut s history (on_connection conn f ks) due
put_out_changed s history ks due conn f leaves rests are =
    record {
      sent = are.sent;
      rest = λ d has. rest_of_it d (changed_from conn f ks d has);
      due = λ i has. answer_still ks (on_connection conn f ks) s i.connection i.answer
          (λ c there number. changed_there conn f leaves ks c there) (are.due i has);
    }
  where
    rest_of_it : (d : PlainConnection) →
        ((c : PlainConnection) × (HasPlace ks c × ((d ≡ c) ⊎ ((c.number ≡ conn) × (d ≡ f c))))) →
        IsKept s d.client d.incarnation d.rest
    rest_of_it d (c, (has, inl same)) =
        subst (λ (x : PlainConnection). IsKept s x.client x.incarnation x.rest) (sym same) (are.rest c has)
    rest_of_it d (c, (has, inr (number, same))) =
        subst (λ (x : PlainConnection). IsKept s x.client x.incarnation x.rest) (sym same)
        (subst (λ (n : ℕ). IsKept s (f c).client n (f c).rest) (sym (leaves.incarnation c))
        (subst (λ (its : List ℕ). IsKept s its c.incarnation (f c).rest) (sym (leaves.client c)) (rests c has number)))

-- without a connection, and without its items
pub put_out_left : (s : Sessions) (history : List Note) (ks : List PlainConnection) (due : List Item) (conn : ℕ) →
    ArePutOut s history ks due →
    ArePutOut s history (without_connection conn ks) (filter (λ (i : Item). not (i.connection == conn)) due)
put_out_left s history ks due conn are =
    record {
      sent = are.sent;
      rest = λ c has. are.rest c (place_filtered (λ (c : PlainConnection). not (c.number == conn)) ks c has).0;
      due = λ i has. by i (place_filtered (λ (i : Item). not (i.connection == conn)) due i has);
    }
  where
    by : (i : Item) → HasPlace due i × (not (i.connection == conn) ≡ true) →
        AnswerIsIn (without_connection conn ks) s i.connection i.answer
    by i (has, other) =
        answer_still ks (without_connection conn ks) s i.connection i.answer
        (λ c there number. (
          c,
          (
            place_kept (λ (c : PlainConnection). not (c.number == conn)) ks c there
                (ap (λ (n : ℕ). not (n == conn)) number ∙ other),
            (refl, (refl, refl)),
          ),
        )) (are.due i has)

-- ---- what pends

pub record_still : (k : Worker) (ls : List PlainConnection) (p : PendingRecord) →
    ((conn : ℕ) → StillBound k.connections ls conn) → RecordIsIn k p →
    ItemIsIn ls (act_all k.committed (p.owed ++ p.changes)) p.item
record_still k ls p still is = by p.item is.1
  where
    by : (i : Option Item) → ItemIsIn k.connections (act_all k.committed (p.owed ++ p.changes)) i →
        ItemIsIn ls (act_all k.committed (p.owed ++ p.changes)) i
    by None is = tt
    by (Some i) is =
        answer_still k.connections ls (act_all k.committed (p.owed ++ p.changes)) i.connection i.answer
        (still i.connection) is

-- without an item of a connection that ends
pub item_left : (ks : List PlainConnection) (s : Sessions) (conn : ℕ) (i : Option Item) → ItemIsIn ks s i →
    ItemIsIn (without_connection conn ks) s (kept_item conn i)
item_left ks s conn None is = tt
item_left ks s conn (Some i) is = by (i.connection == conn) refl
  where
    by : (b : Bool) → (i.connection == conn) ≡ b →
        ItemIsIn (without_connection conn ks) s (if b then None else Some i)
    by true own = tt
    by false other =
        answer_still ks (without_connection conn ks) s i.connection i.answer
        (λ c there number. (
          c,
          (
            place_kept (λ (c : PlainConnection). not (c.number == conn)) ks c there
                (ap (λ (n : ℕ). not (n == conn)) number ∙ ap not other),
            (refl, (refl, refl)),
          ),
        )) is

-- the same where no connection ends, but only what was under way
pub item_dropped : (ks : List PlainConnection) (s : Sessions) (conn : ℕ) (i : Option Item) → ItemIsIn ks s i →
    ItemIsIn ks s (kept_item conn i)
item_dropped ks s conn None is = tt
item_dropped ks s conn (Some i) is = by (i.connection == conn)
  where
    by : (b : Bool) → ItemIsIn ks s (if b then None else Some i)
    by true = tt
    by false = is
