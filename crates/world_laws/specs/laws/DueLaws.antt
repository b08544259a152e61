-- What becomes due: what was due before, the item of a record whose changes are committed by this very move, or the
-- answer of a group that is stored.
use Rattle.std.proofs.Common.{◌≡◌, ◌⊎◌, inl, inr, ℕ, ◌+◌, Bool, true, false, not, List, [], ◌∷◌, ◌++◌, map, filter}
use Rattle.std.proofs.Common.{take, drop}
use Rattle.std.proofs.Common.{find, Option, Some, None, refl, sym, ap, subst, ◌∙◌}
use Rattle.std.specs.Prelude.{◌==◌}
use Rattle.std.proofs.lemmas.Option.{none-some, same_Some}
use Rattle.topic_model.specs.Profile.{Profile, Config}
use Rattle.topic_model.specs.StoredMessage.{StoredMessage}
use Rattle.topic_model.specs.Places.{HasPlace}
use Rattle.session_model.specs.PlainSession.{PlainSession}
use Rattle.session_model.specs.Acting.{act_all}
use Rattle.mqtt_packet.specs.Packet.{ConnectFields}
use Rattle.turn_model.specs.PlainConnection.{PlainConnection, connection_of}
use Rattle.turn_model.specs.Resend.{Resent}
use Rattle.turn_model.specs.Step.{Step}
use Rattle.turn_model.specs.Worker.{Worker, Item, Answer, Answers, Accepts, Delivers, PendingRecord, setting_of}
use Rattle.turn_model.specs.Worker.{connection_in, session_in}
use Rattle.turn_model.specs.Records.{record_of, begun_unless, partings_owed, with_record, handed_on, record_committed}
use Rattle.turn_model.specs.Records.{item}
use Rattle.turn_model.specs.Records.{moment_left, record_resolved, may_settle, record_settled, accepts_on, session_at}
use Rattle.turn_model.specs.WorkerMoves.{WorkerMove, Asker, Ending, aged_item, stored_steps, stored_answer, has_asked}
use Rattle.turn_model.specs.WorkerMoves.{stored_if, item_at, without_item, item_emitted, emitted_if, answered_step}
use Rattle.turn_model.specs.WorkerMoves.{step_emitted, resent_for, resend_emitted, bound_with, bound_answer, bound_if}
use Rattle.turn_model.specs.WorkerMoves.{accept_dropped, has_connect, unbound_if, unbound_from, may_take_over}
use Rattle.turn_model.specs.WorkerMoves.{taken_over_if, worker_step}
use Rattle.turn_model.specs.WorkerMoves as Workers
use Rattle.world_laws.specs.Acknowledged.{ComesFrom}
use Rattle.world_laws.specs.laws.PlaceLaws.{place_in_both, place_filtered, place_taken, place_dropped, place_mapped}
use Rattle.world_laws.specs.laws.PlaceLaws.{place_cases, no_place}

-- ---- moves that add nothing to what is due

abbrev pub Keeps : Worker → Worker → Type 0
Keeps k later = (i : Item) → HasPlace later.due i → HasPlace k.due i

begun_due : (pending asked : Option PendingRecord) (k : Worker) → Keeps k (begun_unless pending asked k)
begun_due None (Some p) k i has = has
begun_due None None k i has = has
begun_due (Some p) asked k i has = has

partings_due : (left : Option ℕ) (p : PendingRecord) (k : Worker) → (partings_owed left p k).due ≡ k.due
partings_due None p k = refl
partings_due (Some moment) p k = refl

resolved_due : (goes_in : Bool) (now : ℕ) (pending : Option PendingRecord) (k : Worker) →
    Keeps k (record_resolved goes_in now pending k)
resolved_due goes_in now None k i has = has
resolved_due true now (Some p) k i has =
    subst (λ (due : List Item). HasPlace due i) (partings_due (moment_left now p.left) p (with_record p k)) has
resolved_due false now (Some p) k i has = has

settled_due : (b goes_in : Bool) (now : ℕ) (k : Worker) → Keeps k (record_settled b goes_in now k)
settled_due true goes_in now k i has = resolved_due goes_in now k.pending k i has
settled_due false goes_in now k i has = has

item_due : (place now : ℕ) (x : Item) (c : Option PlainConnection) (k : Worker) → Keeps k (item_emitted place now x c k)
item_due place now x None k i has = has
item_due place now x (Some c) k i has = by (place_in_both (take place k.due) (drop (place + 1) k.due) i has)
  where
    by : HasPlace (take place k.due) i ⊎ HasPlace (drop (place + 1) k.due) i → HasPlace k.due i
    by (inl front) = place_taken place k.due i front
    by (inr behind) = place_dropped (place + 1) k.due i behind

emitted_due : (place now : ℕ) (x : Option Item) (k : Worker) → Keeps k (emitted_if place now x k)
emitted_due place now None k i has = has
emitted_due place now (Some x) k i has = item_due place now x (connection_in k x.connection) k i has

step_due : (conn now : ℕ) (step : Option Step) (k : Worker) → Keeps k (step_emitted conn now step k)
step_due conn now None k i has = has
step_due conn now (Some step) k i has = has

resend_due : (conn : ℕ) (c : Option PlainConnection) (r : Option Resent) (k : Worker) → Keeps k
    (resend_emitted conn c r k)
resend_due conn (Some c) (Some r) k i has = has
resend_due conn (Some c) None k i has = has
resend_due conn None (Some r) k i has = has
resend_due conn None None k i has = has

module _ (conn now : ℕ) where
  bound_with_due : (c : ConnectFields) (other : Option PlainConnection) (m : Option PlainSession) (k : Worker) →
      Keeps k (bound_with conn c now other m k)
  bound_with_due c None (Some m) k i has = has
  bound_with_due c None None k i has = has
  bound_with_due c (Some other) (Some m) k i has = has
  bound_with_due c (Some other) None k i has = has

  bound_answer_due : (answer : Answer) (k : Worker) → Keeps k (bound_answer conn now answer k)
  bound_answer_due (Answers rs effects) k i has = has
  bound_answer_due (Accepts c client number rs) k i has =
      bound_with_due c (connection_of client k.connections) (session_at client number k) k i has
  bound_answer_due (Delivers b moment fresh) k i has = has

  bound_due : (p : Option PendingRecord) (x : Option Item) (c : Option PlainConnection) (k : Worker) →
      Keeps k (bound_if conn now p x c k)
  bound_due None (Some x) None k i has = bound_answer_due x.answer k i has
  bound_due None (Some x) (Some c) k i has = has
  bound_due None None None k i has = has
  bound_due None None (Some c) k i has = has
  bound_due (Some p) (Some x) None k i has = has
  bound_due (Some p) (Some x) (Some c) k i has = has
  bound_due (Some p) None None k i has = has
  bound_due (Some p) None (Some c) k i has = has

  left_due : (k : Worker) (i : Item) → HasPlace (filter (λ (x : Item). not (x.connection == conn)) k.due) i →
      HasPlace k.due i
  left_due k i has = (place_filtered (λ (x : Item). not (x.connection == conn)) k.due i has).0

  dropped_answer_due : (answer : Answer) (x : Item) (k : Worker) → x.answer ≡ answer →
      Keeps k (accept_dropped conn now (Some x) k)
  dropped_answer_due (Answers rs effects) x k e i has = left_due k i (same e has)
    where
      same : x.answer ≡ Answers rs effects → HasPlace (accept_dropped conn now (Some x) k).due i →
          HasPlace (filter (λ (x : Item). not (x.connection == conn)) k.due) i
      same is = rw is (λ there. there)
  dropped_answer_due (Accepts c client number rs) x k e i has = left_due k i (same e has)
    where
      same : x.answer ≡ Accepts c client number rs → HasPlace (accept_dropped conn now (Some x) k).due i →
          HasPlace (filter (λ (x : Item). not (x.connection == conn)) k.due) i
      same is = rw is (λ there. there)
  dropped_answer_due (Delivers b moment fresh) x k e i has = left_due k i (same e has)
    where
      same : x.answer ≡ Delivers b moment fresh → HasPlace (accept_dropped conn now (Some x) k).due i →
          HasPlace (filter (λ (x : Item). not (x.connection == conn)) k.due) i
      same is = rw is (λ there. there)

  dropped_due : (x : Option Item) (k : Worker) → Keeps k (accept_dropped conn now x k)
  dropped_due None k i has = left_due k i has
  dropped_due (Some x) k i has = dropped_answer_due x.answer x k refl i has

  unbound_if_due : (b : Bool) (k : Worker) → Keeps k (unbound_if b conn now k)
  unbound_if_due true k i has = dropped_due (find (accepts_on conn) k.due) k i has
  unbound_if_due false k i has = has

  unbound_due : (ending : Ending) (c : Option PlainConnection) (k : Worker) → Keeps k (unbound_from conn ending now c k)
  unbound_due ending None k i has = unbound_if_due (has_connect conn k) k i has
  unbound_due ending (Some c) k i has = left_due k i has

  taken_over_due : (b : Bool) (k : Worker) → Keeps k (taken_over_if b conn k)
  taken_over_due true k i has = left_due k i has
  taken_over_due false k i has = has

-- ---- moves that add

handed_due : (x : Option Item) (k : Worker) (i : Item) → HasPlace (handed_on x k).due i → HasPlace k.due i ⊎
    (x ≡ Some i)
handed_due None k i has = inl has
handed_due (Some x) k i has = by (place_in_both k.due (x ∷ []) i has)
  where
    new : ((i ≡ x) ⊎ HasPlace [] i) → HasPlace k.due i ⊎ (Some x ≡ Some i)
    new (inl same) = inr (ap Some (sym same))
    new (inr nowhere) = absurd (no_place i nowhere)

    by : HasPlace k.due i ⊎ HasPlace (x ∷ []) i → HasPlace k.due i ⊎ (Some x ≡ Some i)
    by (inl old) = inl old
    by (inr one) = new (place_cases x i [] one)

handed_committed : (x : Option Item) (k : Worker) → (handed_on x k).committed ≡ k.committed
handed_committed None k = refl
handed_committed (Some x) k = refl

partings_committed : (left : Option ℕ) (p : PendingRecord) (k : Worker) →
    (partings_owed left p k).committed ≡ k.committed
partings_committed None p k = refl
partings_committed (Some moment) p k = refl

module _ (profile : Profile) (config : Config) (k : Worker) (i : Item) where
  abbrev Comes : WorkerMove → Type 0
  Comes move = ComesFrom k move (worker_step profile config k move) i

  was_due : (move : WorkerMove) → HasPlace k.due i → Comes move
  was_due move has = inl (i, (has, inl refl))

  committed_comes : (pending : Option PendingRecord) → k.pending ≡ pending →
      HasPlace (record_committed pending k).due i → ComesFrom k Workers.Commit (record_committed pending k) i
  committed_comes None e has = inl (i, (has, inl refl))
  committed_comes (Some p) e has = by (handed_due p.item (partings_owed p.left p (with_record p k)) i has)
    where
      by : HasPlace (partings_owed p.left p (with_record p k)).due i ⊎ (p.item ≡ Some i) →
          ComesFrom k Workers.Commit (record_committed (Some p) k) i
      by (inl old) =
          inl (i, (subst (λ (due : List Item). HasPlace due i) (partings_due p.left p (with_record p k)) old, inl refl))
      by (inr own) =
          inr (inl (
            refl,
            (
              p,
              (
                e,
                (
                  own,
                  handed_committed p.item (partings_owed p.left p (with_record p k))
                      ∙ partings_committed p.left p (with_record p k),
                ),
              ),
            ),
          ))

  stored_comes : (b : Bool) (shard : ℕ) (a : Asker) (messages : List (Option StoredMessage)) →
      has_asked a (connection_in k a.connection) ≡ b → HasPlace (stored_if b shard a messages k).due i →
      Comes (Workers.Stored shard a messages)
  stored_comes false shard a messages e has = was_due (Workers.Stored shard a messages) has
  stored_comes true shard a messages e has =
      by (handed_due (Some (item a.connection (stored_answer (stored_steps shard a.packets messages))))
      (record k { unviewed = k.unviewed ++ shard ∷ [] }) i has)
    where
      by : HasPlace k.due i ⊎
          (Some (item a.connection (stored_answer (stored_steps shard a.packets messages))) ≡ Some i) →
          Comes (Workers.Stored shard a messages)
      by (inl old) = was_due (Workers.Stored shard a messages) old
      by (inr new) = inr (inr (
        shard,
        (
          a,
          (
            messages,
            (
              refl,
              sym (same_Some (item a.connection (stored_answer (stored_steps shard a.packets messages))) i new),
            ),
          ),
        ),
      ))

  aged_comes : (shard : ℕ) (list : _) → ((j : Item) × (HasPlace k.due j × (i ≡ aged_item j))) →
      Comes (Workers.View shard list)
  aged_comes shard list (j, (has, aged)) = inl (j, (has, inr aged))

  pub due_comes : (move : WorkerMove) → HasPlace (worker_step profile config k move).due i → Comes move
  due_comes (Workers.View shard list) has = aged_comes shard list (place_mapped aged_item k.due i has)
  due_comes (Workers.BeginCommit cause now) has =
      was_due (Workers.BeginCommit cause now)
      (begun_due k.pending (record_of (setting_of profile config now k) k cause) k i has)
  due_comes Workers.Commit has = committed_comes k.pending refl has
  due_comes (Workers.Settle goes_in now) has =
      was_due (Workers.Settle goes_in now) (settled_due (may_settle k k.pending) goes_in now k i has)
  due_comes (Workers.Stored shard a messages) has =
      stored_comes (has_asked a (connection_in k a.connection)) shard a messages refl has
  due_comes (Workers.Emit (Workers.OfItem place) now) has =
      was_due (Workers.Emit (Workers.OfItem place) now) (emitted_due place now (item_at k place) k i has)
  due_comes (Workers.Emit (Workers.OfPacket conn packet outcomes) now) has =
      was_due (Workers.Emit (Workers.OfPacket conn packet outcomes) now)
      (step_due conn now
      (answered_step (setting_of profile config now k) k packet outcomes (connection_in k conn) (session_in k conn)) k i
      has)
  due_comes (Workers.Emit (Workers.OfResend conn) now) has =
      was_due (Workers.Emit (Workers.OfResend conn) now)
      (resend_due conn (connection_in k conn)
      (resent_for profile now k (connection_in k conn) (session_in k conn)) k i has)
  due_comes (Workers.Bind conn now) has =
      was_due (Workers.Bind conn now)
      (bound_due conn now k.pending (find (accepts_on conn) k.due) (connection_in k conn) k i has)
  due_comes (Workers.TakeOver conn) has =
      was_due (Workers.TakeOver conn) (taken_over_due conn 0 (may_take_over k conn (connection_in k conn)) k i has)
  due_comes (Workers.Unbind conn ending now) has =
      was_due (Workers.Unbind conn ending now) (unbound_due conn now ending (connection_in k conn) k i has)
